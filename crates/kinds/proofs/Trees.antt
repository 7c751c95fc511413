-- The rows of a tree's any, unique and statistic codes stand between its first place and the place after it. Assumes nothing.
use Prim.Native.Nat.{ℕ, suc, ◌+◌, ◌<◌, ◌≤◌}
use mathlib.Core.Path.{◌≡◌, sym, subst}
use mathlib.Core.List.{List, [], ◌∷◌, ◌++◌, map, map-append}
use native.Mathlib.Omega.{arith}
use lib.ListN.{length, length-append}
use Rattle.grammar.specs.Tree.{Stream, Value, literal, reference, arithmetic, negate, statistic, count, Boolean, compare, search, between, connect, not, missing, quantify, Clauses, no_clauses, such, sorted, Rse, rse}
use Rattle.grammar.specs.Bytes.{value_bytes, boolean_bytes, keys_bytes, clauses_bytes, head_bytes, rse_bytes}
use Rattle.surroundings.specs.Bindings.{Binding}
use Rattle.runs.specs.Found.{run_bindings, value_bindings, bindings_of, rse_bindings, clauses_bindings}
use Rattle.kinds.specs.Spans.{Span, span_of}
use Rattle.kinds.specs.Scoped.{Between}
use Rattle.kinds.proofs.Reaches.{between-wider, between-both}

-- the spans of bindings
abbrev pub spans_of : List Binding → List Span
spans_of bs = map span_of bs

pub one_then : (xs ys : List Binding) (p q a b m n : ℕ) → Between a b (spans_of xs) → Between m n (spans_of ys) → p ≤ a → b ≤ q → p ≤ m → n ≤ q →
    Between p q (spans_of (xs ++ ys))
one_then xs ys p q a b m n h k i j u v =
    subst (Between p q) (sym (map-append span_of xs ys))
    (between-both p q (spans_of xs) (spans_of ys) (between-wider p q a b (spans_of xs) i j h) (between-wider p q m n (spans_of ys) u v k))

module _ (d : List ℕ) where
  streams-between : (ss : List Stream) (p c after end : ℕ) → p < end → Between p end (spans_of (run_bindings d ss p c after end))
  streams-between [] p c after end h = tt
  streams-between (s ∷ []) p c after end h = (omega arith, h, omega arith, tt)
  streams-between (s ∷ t ∷ ss) p c after end h = tt

  two-values : (v w : Value) (p q : ℕ) → p + 1 + length (value_bytes v) + length (value_bytes w) ≤ q →
      Between (p + 1) (p + 1 + length (value_bytes v)) (spans_of (value_bindings d v (p + 1))) →
      Between (p + 1 + length (value_bytes v)) (p + 1 + length (value_bytes v) + length (value_bytes w))
      (spans_of (value_bindings d w (p + 1 + length (value_bytes v)))) →
      Between p q (spans_of (value_bindings d v (p + 1) ++ value_bindings d w (p + 1 + length (value_bytes v))))
  two-values v w p q h i j =
      one_then (value_bindings d v (p + 1)) (value_bindings d w (p + 1 + length (value_bytes v))) p q
      (p + 1) (p + 1 + length (value_bytes v)) (p + 1 + length (value_bytes v)) (p + 1 + length (value_bytes v) + length (value_bytes w)) i j
      (omega arith) (omega (arith, h)) (omega arith) (omega (arith, h))

  mutual
    unfolding value_bindings bindings_of rse_bindings clauses_bindings value_bytes boolean_bytes clauses_bytes rse_bytes

    pub value-between : (v : Value) (p : ℕ) → Between p (p + length (value_bytes v)) (spans_of (value_bindings d v p))
    value-between (literal l) p = tt
    value-between (reference r) p = tt
    value-between (arithmetic o v w) p =
        let l = length-append (value_bytes v) (value_bytes w) in
        one_then (value_bindings d v (p + 1)) (value_bindings d w (p + 1 + length (value_bytes v))) p (p + suc (length (value_bytes v ++ value_bytes w)))
        (p + 1) (p + 1 + length (value_bytes v)) (p + 1 + length (value_bytes v)) (p + 1 + length (value_bytes v) + length (value_bytes w))
        (value-between v (p + 1)) (value-between w (p + 1 + length (value_bytes v)))
        (omega arith) (omega (arith, l)) (omega arith) (omega (arith, l))
    value-between (negate v) p =
        between-wider p (p + suc (length (value_bytes v))) (p + 1) (p + 1 + length (value_bytes v)) (spans_of (value_bindings d v (p + 1)))
        (omega arith) (omega arith) (value-between v (p + 1))
    value-between (statistic k r v) p =
        let l = length-append (rse_bytes r) (value_bytes v) in
        let q = p + 1 + length (rse_bytes r) in
        one_then (rse_bindings d r p (q + length (value_bytes v))) (value_bindings d v q) p (p + suc (length (rse_bytes r ++ value_bytes v)))
        p (q + length (value_bytes v)) q (q + length (value_bytes v))
        (rse-between r p (q + length (value_bytes v)) (omega arith)) (value-between v q)
        (omega arith) (omega (arith, l)) (omega arith) (omega (arith, l))
    value-between (count r) p =
        between-wider p (p + suc (length (rse_bytes r))) p (p + 1 + length (rse_bytes r)) (spans_of (rse_bindings d r p (p + 1 + length (rse_bytes r))))
        (omega arith) (omega arith) (rse-between r p (p + 1 + length (rse_bytes r)) (omega arith))

    pub boolean-between : (b : Boolean) (p : ℕ) → Between p (p + length (boolean_bytes b)) (spans_of (bindings_of d b p))
    boolean-between (compare c v w) p =
        two-values v w p (p + suc (length (value_bytes v ++ value_bytes w))) (let l = length-append (value_bytes v) (value_bytes w) in omega (arith, l))
        (value-between v (p + 1)) (value-between w (p + 1 + length (value_bytes v)))
    boolean-between (search t v w) p =
        two-values v w p (p + suc (length (value_bytes v ++ value_bytes w))) (let l = length-append (value_bytes v) (value_bytes w) in omega (arith, l))
        (value-between v (p + 1)) (value-between w (p + 1 + length (value_bytes v)))
    boolean-between (between v w x) p =
        let l = length-append (value_bytes v) (value_bytes w) in
        let m = length-append (value_bytes v ++ value_bytes w) (value_bytes x) in
        let q = p + suc (length ((value_bytes v ++ value_bytes w) ++ value_bytes x)) in
        let n = p + 1 + length (value_bytes v) + length (value_bytes w) in
        one_then (value_bindings d v (p + 1) ++ value_bindings d w (p + 1 + length (value_bytes v))) (value_bindings d x n) p q
        p q n (n + length (value_bytes x)) (two-values v w p q (omega (arith, l, m)) (value-between v (p + 1)) (value-between w (p + 1 + length (value_bytes v)))) (value-between x n)
        (omega arith) (omega arith) (omega arith) (omega (arith, l, m))
    boolean-between (connect c a b) p =
        let l = length-append (boolean_bytes a) (boolean_bytes b) in
        one_then (bindings_of d a (p + 1)) (bindings_of d b (p + 1 + length (boolean_bytes a))) p (p + suc (length (boolean_bytes a ++ boolean_bytes b)))
        (p + 1) (p + 1 + length (boolean_bytes a)) (p + 1 + length (boolean_bytes a)) (p + 1 + length (boolean_bytes a) + length (boolean_bytes b))
        (boolean-between a (p + 1)) (boolean-between b (p + 1 + length (boolean_bytes a)))
        (omega arith) (omega (arith, l)) (omega arith) (omega (arith, l))
    boolean-between (not a) p =
        between-wider p (p + suc (length (boolean_bytes a))) (p + 1) (p + 1 + length (boolean_bytes a)) (spans_of (bindings_of d a (p + 1)))
        (omega arith) (omega arith) (boolean-between a (p + 1))
    boolean-between (missing v) p =
        between-wider p (p + suc (length (value_bytes v))) (p + 1) (p + 1 + length (value_bytes v)) (spans_of (value_bindings d v (p + 1)))
        (omega arith) (omega arith) (value-between v (p + 1))
    boolean-between (quantify k r) p =
        between-wider p (p + suc (length (rse_bytes r))) p (p + 1 + length (rse_bytes r)) (spans_of (rse_bindings d r p (p + 1 + length (rse_bytes r))))
        (omega arith) (omega arith) (rse-between r p (p + 1 + length (rse_bytes r)) (omega arith))

    pub rse-between : (r : Rse) (p end : ℕ) → p + 1 + length (rse_bytes r) ≤ end → Between p end (spans_of (rse_bindings d r p end))
    rse-between (rse ss cs) p end h =
        let l = length-append (head_bytes ss) (clauses_bytes cs) in
        let q = p + 1 + length (head_bytes ss) in
        one_then (run_bindings d ss p _ _ end) (clauses_bindings d cs q) p end p end q (q + length (clauses_bytes cs))
        (streams-between ss p _ _ end (omega (arith, h))) (clauses-between cs q)
        (omega arith) (omega arith) (omega arith) (omega (arith, l, h))

    pub clauses-between : (cs : Clauses) (p : ℕ) → Between p (p + length (clauses_bytes cs)) (spans_of (clauses_bindings d cs p))
    clauses-between no_clauses p = tt
    clauses-between (such b cs) p =
        let l = length-append (boolean_bytes b) (clauses_bytes cs) in
        one_then (bindings_of d b (p + 1)) (clauses_bindings d cs (p + 1 + length (boolean_bytes b))) p (p + suc (length (boolean_bytes b ++ clauses_bytes cs)))
        (p + 1) (p + 1 + length (boolean_bytes b)) (p + 1 + length (boolean_bytes b)) (p + 1 + length (boolean_bytes b) + length (clauses_bytes cs))
        (boolean-between b (p + 1)) (clauses-between cs (p + 1 + length (boolean_bytes b)))
        (omega arith) (omega (arith, l)) (omega arith) (omega (arith, l))
    clauses-between (sorted ks cs) p =
        let l = length-append (keys_bytes ks) (clauses_bytes cs) in
        between-wider p (p + suc (suc (length (keys_bytes ks ++ clauses_bytes cs)))) (p + 2 + length (keys_bytes ks))
        (p + 2 + length (keys_bytes ks) + length (clauses_bytes cs)) (spans_of (clauses_bindings d cs (p + 2 + length (keys_bytes ks))))
        (omega arith) (omega (arith, l)) (clauses-between cs (p + 2 + length (keys_bytes ks)))
