-- Each condition and each from-value of a request stands in its bytes, the rules allow it, it is no deeper than the request, and the contexts
-- in scope there are those whose row's scope holds its place.
use Prim.Native.Nat.{ℕ, ◌+◌, ◌<◌, ◌≤◌}
use mathlib.Core.Path.{◌≡◌, refl, sym, ap, ap₂, ◌∙◌}
use mathlib.Core.Bool.{Bool, true, false, ◌&&◌}
use mathlib.Core.List.{List, [], ◌∷◌, ◌++◌, map, append_assoc, append-nil}
use mathlib.Core.Option.{Option, none, some}
use native.Mathlib.Omega.{arith}
use lib.Dec.{leb, ltb}
use lib.ListN.{length, drop, length-append}
use borrow.Author.Tests.{lt-ltb, le-leb, lt-leb, le-ltb}
use Rattle.wire.specs.Codes as blr
use Rattle.dictionary.specs.Dictionary.{Relation}
use Rattle.dictionary.specs.Naming.{named, numbered}
use Rattle.grammar.specs.Tree.{Reference, field, parameter, parameter2, Value, literal, reference, arithmetic, negate, statistic, count, Boolean, compare, search, between, connect, not, missing, quantify, Keys, no_keys, key, Clauses, no_clauses, such, sorted, Stream, Heading, loop, modify, handler, receive, send, store, label, Rse, rse, Statement, assignment, begin, erase, for, headed, leave, if, if_else, select, Statements, none as nothing, ◌then◌, Receives, last, more, Request}
use Rattle.grammar.specs.Bytes.{statistic_code, quantifier_code, stream_bytes, head_bytes, rse_bytes, keys_bytes, clauses_bytes, heading_bytes, reference_bytes, value_bytes, boolean_bytes, statement_bytes, statements_bytes, receives_bytes}
use Rattle.grammar.specs.Environment.{Environment, Context, Scope, stream_context, under_streams, under_rse_of, under_rse, under_heading}
use Rattle.grammar.specs.Sizes.{value_depth, boolean_depth, clauses_depth, rse_depth, statement_depth, statements_depth, receives_depth}
use Rattle.grammar.specs.Rules.{ValueAllowed, BooleanAllowed, ClausesAllowed, StatementAllowed, StatementsAllowed, ReceivesAllowed}
use Rattle.grammar.specs.Rows.{size, context_row, stream_rows, value_rows, boolean_rows, keys_rows, clauses_rows, rse_rows, heading_rows, context_rows, contexts_rows, receives_context_rows}
use Rattle.grammar.specs.Conditions.{Condition, clauses_conditions, rse_conditions}
use Rattle.grammar.specs.Named.{FromValue, Own, own as own_of, own_booleans, own_value, owns_below, owns_of, receives_owns}
use Rattle.walking.specs.Declared.{Declared, streams_declared, value_declared, boolean_declared, keys_declared, clauses_declared, rse_declared, heading_declared, declared, declared_all, receives_declared, rows_of, kept_if, holds_at, contexts_at}
use Rattle.walking.proofs.Link.{past}

-- ---- the rows are those of the declarations

rows_append : (a b : List Declared) → rows_of (a ++ b) ≡ rows_of a ++ rows_of b
unfolding rows_of
rows_append [] b = refl
rows_append (x ∷ a) b = ap (λ z. context_row x.context x.place x.start x.end ++ z) (rows_append a b)

module _ (d : List Relation) where
  stream-rows : (o : ℕ) (ss : List Stream) (p start end : ℕ) → stream_rows d o ss p start end ≡ rows_of (streams_declared d o ss p start end)
  unfolding stream_rows streams_declared rows_of
  stream-rows o [] p start end = refl
  stream-rows o (s ∷ ss) p start end = ap (λ z. context_row (stream_context d o s) p start end ++ z) (stream-rows o ss (p + length (stream_bytes s)) start end)

  -- two parts one after another
  both-rows : (x y : List ℕ) (a b : List Declared) → x ≡ rows_of a → y ≡ rows_of b → x ++ y ≡ rows_of (a ++ b)
  both-rows x y a b e f = ap₂ (λ x y. x ++ y) e f ∙ sym (rows_append a b)

  mutual
    unfolding value_rows value_declared rows_of

    value-rows : (v : Value) (sc : Scope) (p : ℕ) → value_rows d sc v p ≡ rows_of (value_declared d sc v p)
    value-rows (literal l) sc p = refl
    value-rows (reference r) sc p = refl
    value-rows (arithmetic o v w) sc p =
        both-rows _ _ (value_declared d sc v (p + 1)) _ (value-rows v sc (p + 1)) (value-rows w sc (p + 1 + length (value_bytes v)))
    value-rows (negate v) sc p = value-rows v sc (p + 1)
    value-rows (statistic k r v) sc p =
        let q = p + 1 + length (rse_bytes r) in
        let end = q + length (value_bytes v) in
        both-rows _ _ (rse_declared d (statistic_code k) sc r (p + 1) end) _ (rse-rows (statistic_code k) r sc (p + 1) end)
        (value-rows v (under_rse_of d (statistic_code k) sc r) q)
    value-rows (count r) sc p = rse-rows blr.count r sc (p + 1) (p + 1 + length (rse_bytes r))

    boolean-rows : (b : Boolean) (sc : Scope) (p : ℕ) → boolean_rows d sc b p ≡ rows_of (boolean_declared d sc b p)
    boolean-rows (compare c v w) sc p =
        both-rows _ _ (value_declared d sc v (p + 1)) _ (value-rows v sc (p + 1)) (value-rows w sc (p + 1 + length (value_bytes v)))
    boolean-rows (search t v w) sc p =
        both-rows _ _ (value_declared d sc v (p + 1)) _ (value-rows v sc (p + 1)) (value-rows w sc (p + 1 + length (value_bytes v)))
    boolean-rows (between v w x) sc p =
        let q = p + 1 + length (value_bytes v) in
        both-rows _ _ (value_declared d sc v (p + 1) ++ value_declared d sc w q) _
        (both-rows _ _ (value_declared d sc v (p + 1)) _ (value-rows v sc (p + 1)) (value-rows w sc q)) (value-rows x sc (q + length (value_bytes w)))
    boolean-rows (connect c a b) sc p =
        both-rows _ _ (boolean_declared d sc a (p + 1)) _ (boolean-rows a sc (p + 1)) (boolean-rows b sc (p + 1 + length (boolean_bytes a)))
    boolean-rows (not a) sc p = boolean-rows a sc (p + 1)
    boolean-rows (missing v) sc p = value-rows v sc (p + 1)
    boolean-rows (quantify q r) sc p = rse-rows (quantifier_code q) r sc (p + 1) (p + 1 + length (rse_bytes r))

    keys-rows : (ks : Keys) (sc : Scope) (p : ℕ) → keys_rows d sc ks p ≡ rows_of (keys_declared d sc ks p)
    keys-rows no_keys sc p = refl
    keys-rows (key o v ks) sc p =
        both-rows _ _ (value_declared d sc v (p + 1)) _ (value-rows v sc (p + 1)) (keys-rows ks sc (p + 1 + length (value_bytes v)))

    clauses-rows : (cs : Clauses) (sc : Scope) (p : ℕ) → clauses_rows d sc cs p ≡ rows_of (clauses_declared d sc cs p)
    clauses-rows no_clauses sc p = refl
    clauses-rows (such b cs) sc p =
        both-rows _ _ (boolean_declared d sc b (p + 1)) _ (boolean-rows b sc (p + 1)) (clauses-rows cs sc (p + 1 + length (boolean_bytes b)))
    clauses-rows (sorted ks cs) sc p =
        both-rows _ _ (keys_declared d sc ks (p + 2)) _ (keys-rows ks sc (p + 2)) (clauses-rows cs sc (p + 2 + length (keys_bytes ks)))

    rse-rows : (o : ℕ) (r : Rse) (sc : Scope) (p end : ℕ) → rse_rows d o sc r p end ≡ rows_of (rse_declared d o sc r p end)
    rse-rows o (rse ss cs) sc p end =
        let q = p + length (head_bytes ss) in
        both-rows _ _ (streams_declared d o ss (p + 2) q end) _ (stream-rows o ss (p + 2) q end) (clauses-rows cs (under_streams d o sc ss) q)

  heading-rows : (sc : Scope) (h : Heading) (p end : ℕ) → heading_rows d sc h p end ≡ rows_of (heading_declared d sc h p end)
  unfolding heading_rows heading_declared rows_of
  heading-rows sc loop p end = refl
  heading-rows sc (modify from to) p end = refl
  heading-rows sc handler p end = refl
  heading-rows sc (receive m) p end = refl
  heading-rows sc (send m) p end = refl
  heading-rows sc (store s) p end = refl
  heading-rows sc (label n) p end = refl

  mutual
    unfolding context_rows declared rows_of

    pub context_rows_lem : (t : Statement) (sc : Scope) (p : ℕ) → context_rows d sc t p ≡ rows_of (declared d sc t p)
    context_rows_lem (assignment v t) sc p = value-rows v sc (p + 1)
    context_rows_lem (begin ss) sc p = contexts-rows ss sc (p + 1)
    context_rows_lem (erase c) sc p = refl
    context_rows_lem (for r s) sc p =
        both-rows _ _ (rse_declared d blr.for sc r (p + 1) (p + size (for r s))) _ (rse-rows blr.for r sc (p + 1) (p + size (for r s)))
        (context_rows_lem s (under_rse d sc r) (p + 1 + length (rse_bytes r)))
    context_rows_lem (headed h s) sc p =
        both-rows _ _ (heading_declared d sc h p (p + size (headed h s))) _ (heading-rows sc h p (p + size (headed h s)))
        (context_rows_lem s (under_heading d sc h) (p + length (heading_bytes h)))
    context_rows_lem (leave n) sc p = refl
    context_rows_lem (if b s) sc p =
        both-rows _ _ (boolean_declared d sc b (p + 1)) _ (boolean-rows b sc (p + 1)) (context_rows_lem s sc (p + 1 + length (boolean_bytes b)))
    context_rows_lem (if_else b s t) sc p =
        let q = p + 1 + length (boolean_bytes b) in
        both-rows _ _ (boolean_declared d sc b (p + 1) ++ declared d sc s q) _
        (both-rows _ _ (boolean_declared d sc b (p + 1)) _ (boolean-rows b sc (p + 1)) (context_rows_lem s sc q)) (context_rows_lem t sc (q + size s))
    context_rows_lem (select rs) sc p = receives-rows rs sc (p + 1)

    pub contexts-rows : (ts : Statements) (sc : Scope) (p : ℕ) → contexts_rows d sc ts p ≡ rows_of (declared_all d sc ts p)
    contexts-rows nothing sc p = refl
    contexts-rows (s then ss) sc p =
        both-rows _ _ (declared d sc s p) _ (context_rows_lem s sc p) (contexts-rows ss sc (p + size s))

    pub receives-rows : (rs : Receives) (sc : Scope) (p : ℕ) → receives_context_rows d sc rs p ≡ rows_of (receives_declared d sc rs p)
    receives-rows (last m s) sc p = context_rows_lem s sc (p + 2)
    receives-rows (more m s rs) sc p =
        both-rows _ _ (declared d sc s (p + 2)) _ (context_rows_lem s sc (p + 2)) (receives-rows rs sc (p + 2 + size s))

-- ---- which declarations hold a place

contexts-append : (q : ℕ) (a b : List Declared) → contexts_at q (a ++ b) ≡ contexts_at q a ++ contexts_at q b
unfolding contexts_at
contexts-append q [] b = refl
contexts-append q (x ∷ a) b = ap (kept_if (holds_at q x) x.context) (contexts-append q a b) ∙ kept (holds_at q x) x.context (contexts_at q a) (contexts_at q b)
  where
    kept : (t : Bool) (x : Context) (a b : List Context) → kept_if t x (a ++ b) ≡ kept_if t x a ++ b
    kept true x a b = refl
    kept false x a b = refl

-- scopes that lie in a range
abbrev pub Between : ℕ → ℕ → List Declared → Type 0
Between lo hi [] = Unit {0}
Between lo hi (x ∷ xs) = (lo ≤ x.start) × (x.end ≤ hi) × Between lo hi xs

between-append : (lo hi : ℕ) (a b : List Declared) → Between lo hi a → Between lo hi b → Between lo hi (a ++ b)
between-append lo hi [] b h k = k
between-append lo hi (x ∷ a) b h k = (h.0, h.1, between-append lo hi a b h.2 k)

between-widen : (lo hi lo' hi' : ℕ) (a : List Declared) → lo' ≤ lo → hi ≤ hi' → Between lo hi a → Between lo' hi' a
between-widen lo hi lo' hi' [] h k b = tt
between-widen lo hi lo' hi' (x ∷ a) h k b =
    let i = b.0 in let j = b.1 in (omega (arith, i), omega (arith, j), between-widen lo hi lo' hi' a h k b.2)

none_before : (q lo hi : ℕ) (a : List Declared) → Between lo hi a → q < lo → contexts_at q a ≡ []
unfolding contexts_at
none_before q lo hi [] b h = refl
none_before q lo hi (x ∷ a) b h =
    let i = b.0 in let k : q < x.start = omega (arith, i) in rw (lt-leb x.start q k) (none_before q lo hi a b.2 h)

none_after : (q lo hi : ℕ) (a : List Declared) → Between lo hi a → hi ≤ q → contexts_at q a ≡ []
unfolding contexts_at
none_after q lo hi [] b h = refl
none_after q lo hi (x ∷ a) b h =
    let i = b.1 in let k : x.end ≤ q = omega (arith, i) in
    rw (le-ltb q x.end k) (drops (leb x.start q) (none_after q lo hi a b.2 h))
  where
    drops : (t : Bool) → contexts_at q a ≡ [] → kept_if (t && false) x.context (contexts_at q a) ≡ []
    drops true e = e
    drops false e = e

module _ (d : List Relation) where
  streams-hold : (o q start end : ℕ) → start ≤ q → q < end → (ss : List Stream) (p : ℕ) →
      contexts_at q (streams_declared d o ss p start end) ≡ map (stream_context d o) ss
  unfolding contexts_at streams_declared
  streams-hold o q start end h k [] p = refl
  streams-hold o q start end h k (s ∷ ss) p =
      rw (le-leb start q h, lt-ltb q end k) (ap (λ z. stream_context d o s ∷ z) (streams-hold o q start end h k ss (p + length (stream_bytes s))))

  streams-between : (o lo start end : ℕ) → lo ≤ start → (ss : List Stream) (p : ℕ) → Between lo end (streams_declared d o ss p start end)
  unfolding streams_declared
  streams-between o lo start end h [] p = tt
  streams-between o lo start end h (s ∷ ss) p = (h, omega arith, streams-between o lo start end h ss (p + length (stream_bytes s)))

  -- two parts one after another
  both-between : (lo hi lo₂ hi₂ lo' hi' : ℕ) (a b : List Declared) → lo' ≤ lo → hi ≤ hi' → lo' ≤ lo₂ → hi₂ ≤ hi' → Between lo hi a →
      Between lo₂ hi₂ b → Between lo' hi' (a ++ b)
  both-between lo hi lo₂ hi₂ lo' hi' a b h i j k w v =
      between-append lo' hi' a b (between-widen lo hi lo' hi' a h i w) (between-widen lo₂ hi₂ lo' hi' b j k v)

  mutual
    unfolding value_declared value_bytes

    pub value-between : (v : Value) (sc : Scope) (p : ℕ) → Between (p + 1) (p + length (value_bytes v)) (value_declared d sc v p)
    value-between (literal l) sc p = tt
    value-between (reference r) sc p = tt
    value-between (arithmetic o v w) sc p =
        let z = length-append (value_bytes v) (value_bytes w) in
        let q = p + 1 + length (value_bytes v) in
        both-between (p + 1 + 1) q (q + 1) (q + length (value_bytes w)) (p + 1) (p + length (value_bytes (arithmetic o v w))) (value_declared d sc v (p + 1)) _
        (omega arith) (omega (arith, z)) (omega arith) (omega (arith, z)) (value-between v sc (p + 1)) (value-between w sc q)
    value-between (negate v) sc p =
        between-widen (p + 1 + 1) (p + 1 + length (value_bytes v)) (p + 1) (p + length (value_bytes (negate v))) (value_declared d sc v (p + 1)) (omega arith)
        (omega arith) (value-between v sc (p + 1))
    value-between (statistic k r v) sc p =
        let z = length-append (rse_bytes r) (value_bytes v) in
        let q = p + 1 + length (rse_bytes r) in
        let end = q + length (value_bytes v) in
        both-between (p + 1) end (q + 1) end (p + 1) (p + length (value_bytes (statistic k r v))) (rse_declared d (statistic_code k) sc r (p + 1) end) _
        (omega arith) (omega (arith, z)) (omega arith) (omega (arith, z)) (rse-between (statistic_code k) r sc (p + 1) end (omega arith))
        (value-between v (under_rse_of d (statistic_code k) sc r) q)
    value-between (count r) sc p =
        let end = p + 1 + length (rse_bytes r) in
        between-widen (p + 1) end (p + 1) (p + length (value_bytes (count r))) (rse_declared d blr.count sc r (p + 1) end) (omega arith)
        (omega arith) (rse-between blr.count r sc (p + 1) end (omega arith))

    pub boolean-between : (b : Boolean) (sc : Scope) (p : ℕ) → Between (p + 1) (p + length (boolean_bytes b)) (boolean_declared d sc b p)
    boolean-between (compare c v w) sc p =
        let z = length-append (value_bytes v) (value_bytes w) in
        let q = p + 1 + length (value_bytes v) in
        both-between (p + 1 + 1) q (q + 1) (q + length (value_bytes w)) (p + 1) (p + length (boolean_bytes (compare c v w))) (value_declared d sc v (p + 1)) _
        (omega arith) (omega (arith, z)) (omega arith) (omega (arith, z)) (value-between v sc (p + 1)) (value-between w sc q)
    boolean-between (search t v w) sc p =
        let z = length-append (value_bytes v) (value_bytes w) in
        let q = p + 1 + length (value_bytes v) in
        both-between (p + 1 + 1) q (q + 1) (q + length (value_bytes w)) (p + 1) (p + length (boolean_bytes (search t v w))) (value_declared d sc v (p + 1)) _
        (omega arith) (omega (arith, z)) (omega arith) (omega (arith, z)) (value-between v sc (p + 1)) (value-between w sc q)
    boolean-between (between v w x) sc p =
        let z = length-append (value_bytes v) (value_bytes w) in
        let y = length-append (value_bytes v ++ value_bytes w) (value_bytes x) in
        let q = p + 1 + length (value_bytes v) in
        let r = q + length (value_bytes w) in
        both-between (p + 1) r (r + 1) (r + length (value_bytes x)) (p + 1) (p + length (boolean_bytes (between v w x)))
        (value_declared d sc v (p + 1) ++ value_declared d sc w q) _ (omega arith) (omega (arith, y, z)) (omega arith) (omega (arith, y, z))
        (both-between (p + 1 + 1) q (q + 1) r (p + 1) r (value_declared d sc v (p + 1)) _ (omega arith) (omega arith) (omega arith) (omega arith)
        (value-between v sc (p + 1)) (value-between w sc q))
        (value-between x sc r)
    boolean-between (connect c a b) sc p =
        let z = length-append (boolean_bytes a) (boolean_bytes b) in
        let q = p + 1 + length (boolean_bytes a) in
        both-between (p + 1 + 1) q (q + 1) (q + length (boolean_bytes b)) (p + 1) (p + length (boolean_bytes (connect c a b)))
        (boolean_declared d sc a (p + 1)) _ (omega arith) (omega (arith, z)) (omega arith) (omega (arith, z)) (boolean-between a sc (p + 1))
        (boolean-between b sc q)
    boolean-between (not a) sc p =
        between-widen (p + 1 + 1) (p + 1 + length (boolean_bytes a)) (p + 1) (p + length (boolean_bytes (not a))) (boolean_declared d sc a (p + 1))
        (omega arith) (omega arith) (boolean-between a sc (p + 1))
    boolean-between (missing v) sc p =
        between-widen (p + 1 + 1) (p + 1 + length (value_bytes v)) (p + 1) (p + length (boolean_bytes (missing v))) (value_declared d sc v (p + 1))
        (omega arith) (omega arith) (value-between v sc (p + 1))
    boolean-between (quantify q r) sc p =
        let end = p + 1 + length (rse_bytes r) in
        between-widen (p + 1) end (p + 1) (p + length (boolean_bytes (quantify q r))) (rse_declared d (quantifier_code q) sc r (p + 1) end) (omega arith)
        (omega arith) (rse-between (quantifier_code q) r sc (p + 1) end (omega arith))

    keys_between : (ks : Keys) (sc : Scope) (p : ℕ) → Between p (p + length (keys_bytes ks)) (keys_declared d sc ks p)
    keys_between no_keys sc p = tt
    keys_between (key o v ks) sc p =
        let z = length-append (value_bytes v) (keys_bytes ks) in
        let q = p + 1 + length (value_bytes v) in
        both-between (p + 1 + 1) q q (q + length (keys_bytes ks)) p (p + length (keys_bytes (key o v ks))) (value_declared d sc v (p + 1)) _
        (omega arith) (omega (arith, z)) (omega arith) (omega (arith, z)) (value-between v sc (p + 1)) (keys_between ks sc q)

    pub clauses-between : (cs : Clauses) (sc : Scope) (p : ℕ) → Between p (p + length (clauses_bytes cs)) (clauses_declared d sc cs p)
    clauses-between no_clauses sc p = tt
    clauses-between (such b cs) sc p =
        let z = length-append (boolean_bytes b) (clauses_bytes cs) in
        let q = p + 1 + length (boolean_bytes b) in
        both-between (p + 1 + 1) q q (q + length (clauses_bytes cs)) p (p + length (clauses_bytes (such b cs))) (boolean_declared d sc b (p + 1)) _
        (omega arith) (omega (arith, z)) (omega arith) (omega (arith, z)) (boolean-between b sc (p + 1)) (clauses-between cs sc q)
    clauses-between (sorted ks cs) sc p =
        let z = length-append (keys_bytes ks) (clauses_bytes cs) in
        let q = p + 2 + length (keys_bytes ks) in
        both-between (p + 2) q q (q + length (clauses_bytes cs)) p (p + length (clauses_bytes (sorted ks cs))) (keys_declared d sc ks (p + 2)) _
        (omega arith) (omega (arith, z)) (omega arith) (omega (arith, z)) (keys_between ks sc (p + 2)) (clauses-between cs sc q)

    rse-between : (o : ℕ) (r : Rse) (sc : Scope) (p end : ℕ) → p + length (rse_bytes r) ≤ end → Between p end (rse_declared d o sc r p end)
    rse-between o (rse ss cs) sc p end h =
        let q = p + length (head_bytes ss) in
        let z = length-append (head_bytes ss) (clauses_bytes cs) in
        both-between p end q (q + length (clauses_bytes cs)) p end (streams_declared d o ss (p + 2) q end) _ (omega arith) (omega arith) (omega arith)
        (omega (arith, z, h)) (streams-between o p q end (omega arith) ss (p + 2)) (clauses-between cs (under_streams d o sc ss) q)

  heading-between : (sc : Scope) (h : Heading) (p end : ℕ) → Between (p + 1) end (heading_declared d sc h p end)
  unfolding heading_declared
  heading-between sc loop p end = tt
  heading-between sc (modify from to) p end = (omega arith, omega arith, tt)
  heading-between sc handler p end = tt
  heading-between sc (receive m) p end = tt
  heading-between sc (send m) p end = tt
  heading-between sc (store s) p end = (omega arith, omega arith, tt)
  heading-between sc (label n) p end = tt

  -- a statement's declarations have their scopes inside it
  heading-size : (h : Heading) → 1 ≤ length (heading_bytes h)
  unfolding heading_bytes
  heading-size loop = omega arith
  heading-size (modify from to) = omega arith
  heading-size handler = omega arith
  heading-size (receive m) = omega arith
  heading-size (send m) = omega arith
  heading-size (store s) = omega arith
  heading-size (label n) = omega arith

  mutual
    unfolding declared statement_bytes

    pub declared-between : (t : Statement) (sc : Scope) (p : ℕ) → Between (p + 1) (p + size t) (declared d sc t p)
    declared-between (assignment v t) sc p =
        between-widen (p + 1 + 1) (p + 1 + length (value_bytes v)) (p + 1) (p + size (assignment v t)) (value_declared d sc v (p + 1)) (omega arith)
        (omega (arith, length-append (value_bytes v) (reference_bytes t))) (value-between v sc (p + 1))
    declared-between (begin ss) sc p =
        between-widen (p + 1) (p + 1 + length (statements_bytes ss)) (p + 1) (p + size (begin ss)) (declared_all d sc ss (p + 1)) (omega arith)
        (omega (arith, length-append (statements_bytes ss) (255 ∷ []))) (all-between ss sc (p + 1))
    declared-between (erase c) sc p = tt
    declared-between (for r s) sc p =
        let z : size (for r s) ≡ 1 + length (rse_bytes r) + size s = omega (arith, length-append (rse_bytes r) (statement_bytes s)) in
        between-append (p + 1) (p + size (for r s)) (rse_declared d blr.for sc r (p + 1) (p + size (for r s))) _
        (rse-between blr.for r sc (p + 1) (p + size (for r s)) (omega (arith, z)))
        (between-widen (p + 1 + length (rse_bytes r) + 1) (p + 1 + length (rse_bytes r) + size s) (p + 1) (p + size (for r s))
        (declared d (under_rse d sc r) s (p + 1 + length (rse_bytes r))) (omega arith) (omega (arith, z))
        (declared-between s (under_rse d sc r) (p + 1 + length (rse_bytes r))))
    declared-between (headed h s) sc p =
        let z : size (headed h s) ≡ length (heading_bytes h) + size s = omega (arith, length-append (heading_bytes h) (statement_bytes s)) in
        between-append (p + 1) (p + size (headed h s)) (heading_declared d sc h p (p + size (headed h s))) _ (heading-between sc h p (p + size (headed h s)))
        (between-widen (p + length (heading_bytes h) + 1) (p + length (heading_bytes h) + size s) (p + 1) (p + size (headed h s))
        (declared d (under_heading d sc h) s (p + length (heading_bytes h))) (omega arith) (omega (arith, z))
        (declared-between s (under_heading d sc h) (p + length (heading_bytes h))))
    declared-between (leave n) sc p = tt
    declared-between (if b s) sc p =
        let q = p + 1 + length (boolean_bytes b) in
        let z = length-append (boolean_bytes b ++ statement_bytes s) (255 ∷ []) in
        let y = length-append (boolean_bytes b) (statement_bytes s) in
        both-between (p + 1 + 1) q (q + 1) (q + size s) (p + 1) (p + size (if b s)) (boolean_declared d sc b (p + 1)) _ (omega arith)
        (omega (arith, z, y)) (omega arith) (omega (arith, z, y)) (boolean-between b sc (p + 1)) (declared-between s sc q)
    declared-between (if_else b s t) sc p =
        let q = p + 1 + length (boolean_bytes b) in
        let z = length-append (boolean_bytes b ++ statement_bytes s) (statement_bytes t) in
        let y = length-append (boolean_bytes b) (statement_bytes s) in
        both-between (p + 1) (q + size s) (q + size s + 1) (q + size s + size t) (p + 1) (p + size (if_else b s t))
        (boolean_declared d sc b (p + 1) ++ declared d sc s q) _ (omega arith) (omega (arith, z, y)) (omega arith) (omega (arith, z, y))
        (both-between (p + 1 + 1) q (q + 1) (q + size s) (p + 1) (q + size s) (boolean_declared d sc b (p + 1)) _ (omega arith) (omega arith)
        (omega arith) (omega arith) (boolean-between b sc (p + 1)) (declared-between s sc q))
        (declared-between t sc (q + size s))
    declared-between (select rs) sc p =
        between-widen (p + 1) (p + 1 + length (receives_bytes rs)) (p + 1) (p + size (select rs)) (receives_declared d sc rs (p + 1)) (omega arith)
        (omega (arith, length-append (receives_bytes rs) (255 ∷ []))) (receives-between rs sc (p + 1))

    all-between : (ts : Statements) (sc : Scope) (p : ℕ) → Between p (p + length (statements_bytes ts)) (declared_all d sc ts p)
    all-between nothing sc p = tt
    all-between (s then ss) sc p =
        let z = length-append (statement_bytes s) (statements_bytes ss) in
        between-append p (p + length (statements_bytes (s then ss))) (declared d sc s p) _
        (between-widen (p + 1) (p + size s) p (p + length (statements_bytes (s then ss))) (declared d sc s p) (omega arith) (omega (arith, z))
        (declared-between s sc p))
        (between-widen (p + size s) (p + size s + length (statements_bytes ss)) p (p + length (statements_bytes (s then ss)))
        (declared_all d sc ss (p + size s)) (omega arith) (omega (arith, z)) (all-between ss sc (p + size s)))

    receives-between : (rs : Receives) (sc : Scope) (p : ℕ) → Between p (p + length (receives_bytes rs)) (receives_declared d sc rs p)
    receives-between (last m s) sc p =
        between-widen (p + 2 + 1) (p + 2 + size s) p (p + length (receives_bytes (last m s))) (declared d sc s (p + 2)) (omega arith) (omega arith)
        (declared-between s sc (p + 2))
    receives-between (more m s rs) sc p =
        let z = length-append (statement_bytes s) (receives_bytes rs) in
        between-append p (p + length (receives_bytes (more m s rs))) (declared d sc s (p + 2)) _
        (between-widen (p + 2 + 1) (p + 2 + size s) p (p + length (receives_bytes (more m s rs))) (declared d sc s (p + 2)) (omega arith) (omega (arith, z))
        (declared-between s sc (p + 2)))
        (between-widen (p + 2 + size s) (p + 2 + size s + length (receives_bytes rs)) p (p + length (receives_bytes (more m s rs)))
        (receives_declared d sc rs (p + 2 + size s)) (omega arith) (omega (arith, z)) (receives-between rs sc (p + 2 + size s)))

-- ---- conditions and from-values

abbrev pub All : {A : Type 0} → (A → Type 0) → List A → Type 0
All P [] = Unit {0}
All P (x ∷ l) = P x × All P l

pub all_append : {A : Type 0} (P : A → Type 0) (l m : List A) → All P l → All P m → All P (l ++ m)
all_append P [] m h k = k
all_append P (x ∷ l) m h k = (h.0, all_append P l m h.1 k)

all_map : {A : Type 0} (P Q : A → Type 0) (l : List A) → ((x : A) → P x → Q x) → All P l → All Q l
all_map P Q [] f h = tt
all_map P Q (x ∷ l) f h = (f x h.0, all_map P Q l f h.1)

-- of what there is, if there is something
abbrev pub Of : {A : Type 0} → (A → Type 0) → Option A → Type 0
Of P none = Unit {0}
Of P (some x) = P x

of_map : {A : Type 0} (P Q : A → Type 0) (o : Option A) → ((x : A) → P x → Q x) → Of P o → Of Q o
of_map P Q none f h = tt
of_map P Q (some x) f h = f x h

reference-size : (r : Reference) → 1 ≤ length (reference_bytes r)
unfolding reference_bytes
reference-size (field c (named n)) = omega arith
reference-size (field c (numbered i)) = omega arith
reference-size (parameter m i) = omega arith
reference-size (parameter2 m i flag) = omega arith

pub boolean-size : (b : Boolean) → 1 ≤ length (boolean_bytes b)
unfolding boolean_bytes
boolean-size (Boolean.compare c v w) = omega arith
boolean-size (Boolean.search t v w) = omega arith
boolean-size (Boolean.between v w x) = omega arith
boolean-size (Boolean.connect c a b) = omega arith
boolean-size (Boolean.not a) = omega arith
boolean-size (Boolean.missing v) = omega arith
boolean-size (Boolean.quantify q r) = omega arith

module _ (s : List ℕ) (e : Environment) where
  abbrev d : List Relation
  d = e.relations

  -- what has a place, a depth, bytes, a scope and a rule: from lo on, below hi, at most n deep, among declarations inside a scope
  pub record Stands (lo hi n : ℕ) (outer : List Context) (own : List Declared) (place depth : ℕ) (bytes : List ℕ) (sc : Scope) (rule : Type 0) : Type 0 where
    pub after : lo ≤ place
    pub before : place < hi
    pub shallow : depth ≤ n
    pub rest : List ℕ
    pub stands : drop place s ≡ bytes ++ rest
    pub allowed : rule
    pub scoped : sc.contexts ≡ outer ++ contexts_at place own

  -- a condition, and a from-value
  abbrev pub Holds : ℕ → ℕ → ℕ → List Context → List Declared → Condition → Type 0
  Holds lo hi n outer own x =
      Stands lo hi n outer own x.place (boolean_depth x.boolean) (boolean_bytes x.boolean) x.scope (BooleanAllowed e x.scope x.boolean)

  abbrev pub HoldsValue : ℕ → ℕ → ℕ → List Context → List Declared → FromValue → Type 0
  HoldsValue lo hi n outer own x =
      Stands lo hi n outer own x.place (value_depth x.value) (value_bytes x.value) x.scope (ValueAllowed e x.scope x.value)

  -- those of a statement itself
  abbrev pub HoldsOwn : ℕ → ℕ → ℕ → List Context → List Declared → Own → Type 0
  HoldsOwn lo hi n outer own o = All (Holds lo hi n outer own) o.conditions × Of (HoldsValue lo hi n outer own) o.from

  -- in a wider range, and in a scope that is the same there
  module _ (lo hi lo' hi' n : ℕ) (outer outer' : List Context) (own own' : List Declared) (h : lo' ≤ lo) (k : hi ≤ hi')
      (f : (q : ℕ) → lo ≤ q → q < hi → outer ++ contexts_at q own ≡ outer' ++ contexts_at q own') where
    widen : (place depth : ℕ) (bytes : List ℕ) (sc : Scope) (rule : Type 0) → Stands lo hi n outer own place depth bytes sc rule →
        Stands lo' hi' n outer' own' place depth bytes sc rule
    widen place depth bytes sc rule w =
        let a = w.after in let b = w.before in
        record {
          after = omega (arith, a);
          before = omega (arith, b);
          shallow = w.shallow;
          rest = w.rest;
          stands = w.stands;
          allowed = w.allowed;
          scoped = w.scoped ∙ f place w.after w.before;
        }

    widen-conditions : (xs : List Condition) → All (Holds lo hi n outer own) xs → All (Holds lo' hi' n outer' own') xs
    widen-conditions xs w =
        all_map (Holds lo hi n outer own) (Holds lo' hi' n outer' own') xs
        (λ x v. widen x.place (boolean_depth x.boolean) (boolean_bytes x.boolean) x.scope (BooleanAllowed e x.scope x.boolean) v) w

    widen-own : (o : Own) → HoldsOwn lo hi n outer own o → HoldsOwn lo' hi' n outer' own' o
    widen-own o w = (
      widen-conditions o.conditions w.0,
      of_map (HoldsValue lo hi n outer own) (HoldsValue lo' hi' n outer' own') o.from
          (λ x v. widen x.place (value_depth x.value) (value_bytes x.value) x.scope (ValueAllowed e x.scope x.value) v) w.1,
    )

    widen-all : (os : List Own) → All (HoldsOwn lo hi n outer own) os → All (HoldsOwn lo' hi' n outer' own') os
    widen-all os w = all_map (HoldsOwn lo hi n outer own) (HoldsOwn lo' hi' n outer' own') os widen-own w

  -- the first of two parts in a row, and the second
  first_part : (q lo hi : ℕ) (outer : List Context) (a b : List Declared) → Between lo hi b → q < lo →
      outer ++ contexts_at q a ≡ outer ++ contexts_at q (a ++ b)
  first_part q lo hi outer a b w h =
      ap (λ z. outer ++ z) (sym (contexts-append q a b ∙ ap (λ z. contexts_at q a ++ z) (none_before q lo hi b w h) ∙ append-nil (contexts_at q a)))

  second-part : (q lo hi : ℕ) (outer : List Context) (a b : List Declared) → Between lo hi a → hi ≤ q →
      outer ++ contexts_at q b ≡ outer ++ contexts_at q (a ++ b)
  second-part q lo hi outer a b w h =
      ap (λ z. outer ++ z) (sym (contexts-append q a b ∙ ap (λ z. z ++ contexts_at q b) (none_after q lo hi a w h)))

  -- before both parts
  before-parts : (q lo hi lo₂ hi₂ : ℕ) (outer : List Context) (a b : List Declared) → Between lo hi a → Between lo₂ hi₂ b → q < lo → q < lo₂ →
      outer ≡ outer ++ contexts_at q (a ++ b)
  before-parts q lo hi lo₂ hi₂ outer a b w v h k =
      sym (append-nil outer) ∙ ap (λ z. outer ++ z) (sym (none_before q lo hi a w h)) ∙ first_part q lo₂ hi₂ outer a b v k

  clauses-sites : (cs : Clauses) (sc : Scope) (p n : ℕ) (post : List ℕ) → clauses_depth cs ≤ n → ClausesAllowed e sc cs →
      drop p s ≡ clauses_bytes cs ++ post →
      All (Holds (p + 1) (p + length (clauses_bytes cs)) n sc.contexts (clauses_declared d sc cs p)) (clauses_conditions sc cs p)
  unfolding clauses_depth clauses_bytes clauses_conditions clauses_declared
  clauses-sites no_clauses sc p n post h a f = tt
  clauses-sites (such x cs) sc p n post h a f =
      let z = length-append (boolean_bytes x) (clauses_bytes cs) in
      let y = boolean-size x in
      let f1 : drop (p + 1) s ≡ boolean_bytes x ++ (clauses_bytes cs ++ post) = past s p (71 ∷ []) _ f ∙ append_assoc (boolean_bytes x) (clauses_bytes cs) post in
      let q = p + 1 + length (boolean_bytes x) in
      let one = boolean_declared d sc x (p + 1) in
      let two = clauses_declared d sc cs q in
      let w : Between (p + 1 + 1) q one = boolean-between d x sc (p + 1) in
      let v : Between q (q + length (clauses_bytes cs)) two = clauses-between d cs sc q in (
        record {
          after = omega arith;
          before = omega (arith, z, y);
          shallow = omega arith;
          rest = clauses_bytes cs ++ post;
          stands = f1;
          allowed = a.0;
          scoped = before-parts (p + 1) (p + 1 + 1) q q (q + length (clauses_bytes cs)) sc.contexts one two w v (omega arith) (omega (arith, y));
        },
        widen-conditions (q + 1) (q + length (clauses_bytes cs)) (p + 1) (p + length (clauses_bytes (such x cs))) n sc.contexts sc.contexts two (one ++ two)
            (omega arith) (omega (arith, z)) (λ o i j. second-part o (p + 1 + 1) q sc.contexts one two w (omega (arith, i))) (clauses_conditions sc cs q)
            (clauses-sites cs sc q n post (omega arith) a.1 (past s (p + 1) (boolean_bytes x) _ f1)),
      )
  clauses-sites (sorted ks cs) sc p n post h a f =
      let z = length-append (keys_bytes ks) (clauses_bytes cs) in
      let f1 : drop (p + 2) s ≡ keys_bytes ks ++ (clauses_bytes cs ++ post) = past s p (70 ∷ _ ∷ []) _ f ∙ append_assoc (keys_bytes ks) (clauses_bytes cs) post in
      let q = p + 2 + length (keys_bytes ks) in
      let one = keys_declared d sc ks (p + 2) in
      let two = clauses_declared d sc cs q in
      widen-conditions (q + 1) (q + length (clauses_bytes cs)) (p + 1) (p + length (clauses_bytes (sorted ks cs))) n sc.contexts sc.contexts two (one ++ two)
      (omega arith) (omega (arith, z)) (λ o i j. second-part o (p + 2) q sc.contexts one two (keys_between d ks sc (p + 2)) (omega (arith, i)))
      (clauses_conditions sc cs q)
      (clauses-sites cs sc q n post (omega arith) a.2 (past s (p + 2) (keys_bytes ks) _ f1))

  heading-hold : (sc : Scope) (h : Heading) (p end q : ℕ) → p + length (heading_bytes h) ≤ q → q < end →
      (under_heading d sc h).contexts ≡ sc.contexts ++ contexts_at q (heading_declared d sc h p end)
  unfolding under_heading heading_bytes heading_declared contexts_at
  heading-hold sc loop p end q i j = sym (append-nil sc.contexts)
  heading-hold sc (modify from to) p end q i j = rw (le-leb (p + 3) q i, lt-ltb q end j)
  heading-hold sc handler p end q i j = sym (append-nil sc.contexts)
  heading-hold sc (receive m) p end q i j = sym (append-nil sc.contexts)
  heading-hold sc (send m) p end q i j = sym (append-nil sc.contexts)
  heading-hold sc (store t) p end q i j =
      let k : p + 1 + length (stream_bytes t) ≤ q = omega (arith, i) in rw (le-leb (p + 1 + length (stream_bytes t)) q k, lt-ltb q end j)
  heading-hold sc (label n) p end q i j = sym (append-nil sc.contexts)

  -- a part under contexts that were just declared
  under : (q : ℕ) (outer inner : List Context) (a b : List Declared) → inner ≡ outer ++ contexts_at q a →
      inner ++ contexts_at q b ≡ outer ++ contexts_at q (a ++ b)
  under q outer inner a b h =
      ap (λ z. z ++ contexts_at q b) h ∙ append_assoc outer (contexts_at q a) (contexts_at q b) ∙ ap (λ z. outer ++ z) (sym (contexts-append q a b))

  -- a statement's own, and those of the statements inside it
  abbrev owns_from : Scope → Statement → ℕ → List Own
  owns_from sc t p = own_of d sc t p ∷ owns_below d sc t p

  mutual
    unfolding statement_depth statement_bytes own_booleans own_value owns_below declared rse_depth rse_bytes rse_conditions rse_declared under_rse under_streams

    pub sites : (t : Statement) (sc : Scope) (p n : ℕ) (post : List ℕ) → statement_depth t ≤ n → StatementAllowed e sc t →
        drop p s ≡ statement_bytes t ++ post → All (HoldsOwn (p + 1) (p + size t) n sc.contexts (declared d sc t p)) (owns_from sc t p)
    sites (assignment v t) sc p n post h a f =
        let z = length-append (value_bytes v) (reference_bytes t) in
        let y = reference-size t in
        let own = value_declared d sc v (p + 1) in
        let from : HoldsValue (p + 1) (p + size (assignment v t)) n sc.contexts own (record { place = p + 1; value = v; scope = sc }) =
        record {
          after = omega arith;
          before = omega (arith, y, z);
          shallow = omega arith;
          rest = reference_bytes t ++ post;
          stands = past s p (1 ∷ []) _ f ∙ append_assoc (value_bytes v) (reference_bytes t) post;
          allowed = a.0;
          scoped = sym (append-nil sc.contexts) ∙ ap (λ z. sc.contexts ++ z)
              (sym (none_before (p + 1) (p + 1 + 1) (p + 1 + length (value_bytes v)) own (value-between d v sc (p + 1)) (omega arith)));
        } in
        ((tt, from), tt)
    sites (begin ss) sc p n post h a f =
        let z = length-append (statements_bytes ss) (255 ∷ []) in
        let own = declared_all d sc ss (p + 1) in (
          (tt, tt),
          widen-all (p + 1) (p + 1 + length (statements_bytes ss)) (p + 1) (p + size (begin ss)) n sc.contexts sc.contexts own own (omega arith)
              (omega (arith, z)) (λ q i j. refl) (owns_of d sc ss (p + 1))
              (all-sites ss sc (p + 1) n _ (omega arith) a (past s p (2 ∷ []) _ f ∙ append_assoc (statements_bytes ss) (255 ∷ []) post)),
        )
    sites (erase c) sc p n post h a f = ((tt, tt), tt)
    sites (for (rse ss cs) t) sc p n post h a f =
        let r = rse ss cs in
        let end = p + size (for r t) in
        let y = length-append (head_bytes ss) (clauses_bytes cs) in
        let z = length-append (rse_bytes r) (statement_bytes t) in
        let m = p + 1 + length (head_bytes ss) in
        let o = p + 1 + length (rse_bytes r) in
        let inner = declared d (under_rse d sc r) t o in
        let streams = streams_declared d blr.for ss (p + 1 + 2) m end in
        let below = clauses_declared d (under_streams d blr.for sc ss) cs m in
        let f0 : drop (p + 1) s ≡ rse_bytes r ++ (statement_bytes t ++ post) = past s p (7 ∷ []) _ f ∙ append_assoc (rse_bytes r) (statement_bytes t) post in
        let f1 : drop (p + 1) s ≡ head_bytes ss ++ (clauses_bytes cs ++ (statement_bytes t ++ post)) = f0 ∙ append_assoc (head_bytes ss) (clauses_bytes cs) (statement_bytes t ++ post) in
        let in-clauses : (q : ℕ) → m + 1 ≤ q → q < m + length (clauses_bytes cs) →
        (under_streams d blr.for sc ss).contexts ++ contexts_at q below ≡ sc.contexts ++ contexts_at q (streams ++ below ++ inner) =
        λ q i j. under q sc.contexts (under_streams d blr.for sc ss).contexts streams below
        (ap (λ z. sc.contexts ++ z) (sym (streams-hold d blr.for q m end (omega (arith, i)) (omega (arith, j, y, z)) ss (p + 1 + 2))))
        ∙ first_part q (o + 1) (o + size t) sc.contexts (streams ++ below) inner (declared-between d t (under_rse d sc r) o) (omega (arith, j, y)) in
        let in_body : (q : ℕ) → o + 1 ≤ q → q < o + size t →
        (under_rse d sc r).contexts ++ contexts_at q inner ≡ sc.contexts ++ contexts_at q (streams ++ below ++ inner) =
        λ q i j. under q sc.contexts (under_rse d sc r).contexts (streams ++ below) inner
        (ap (λ z. sc.contexts ++ z) (sym (streams-hold d blr.for q m end (omega (arith, i, y)) (omega (arith, j, z)) ss (p + 1 + 2)))
        ∙ ap (λ z. sc.contexts ++ z) (sym (contexts-append q streams below ∙ ap (λ z. contexts_at q streams ++ z)
        (none_after q m (m + length (clauses_bytes cs)) below (clauses-between d cs (under_streams d blr.for sc ss) m) (omega (arith, i, y))) ∙ append-nil _))) in (
          (
            widen-conditions (m + 1) (m + length (clauses_bytes cs)) (p + 1) end n (under_streams d blr.for sc ss).contexts sc.contexts below
                (streams ++ below ++ inner) (omega arith) (omega (arith, y, z)) in-clauses (rse_conditions d sc r (p + 1))
                (clauses-sites cs (under_streams d blr.for sc ss) m n _ (omega arith) a.0.3 (past s (p + 1) (head_bytes ss) _ f1)),
            tt,
          ),
          widen-all (o + 1) (o + size t) (p + 1) end n (under_rse d sc r).contexts sc.contexts inner (streams ++ below ++ inner)
              (omega arith) (omega (arith, z)) in_body (owns_from (under_rse d sc r) t o)
              (sites t (under_rse d sc r) o n post (omega arith) a.1 (past s (p + 1) (rse_bytes r) _ f0)),
        )
    sites (headed x t) sc p n post h a f =
        let end = p + size (headed x t) in
        let z = length-append (heading_bytes x) (statement_bytes t) in
        let o = p + length (heading_bytes x) in
        let inner = declared d (under_heading d sc x) t o in
        let own = heading_declared d sc x p end in
        let f1 : drop p s ≡ heading_bytes x ++ (statement_bytes t ++ post) = f ∙ append_assoc (heading_bytes x) (statement_bytes t) post in (
          (tt, tt),
          widen-all (o + 1) (o + size t) (p + 1) end n (under_heading d sc x).contexts sc.contexts inner (own ++ inner) (omega arith) (omega (arith, z))
              (λ q i j. under q sc.contexts (under_heading d sc x).contexts own inner (heading-hold sc x p end q (omega (arith, i)) (omega (arith, j, z))))
              (owns_from (under_heading d sc x) t o)
              (sites t (under_heading d sc x) o n post (omega arith) a.1 (past s p (heading_bytes x) _ f1)),
        )
    sites (leave m) sc p n post h a f = ((tt, tt), tt)
    sites (if b t) sc p n post h a f =
        let y = boolean-size b in
        let o = p + 1 + length (boolean_bytes b) in
        let below = boolean_declared d sc b (p + 1) in
        let own = declared d sc t o in
        let u : Between (p + 1 + 1) o below = boolean-between d b sc (p + 1) in
        let z = length-append (boolean_bytes b ++ statement_bytes t) (255 ∷ []) in
        let x = length-append (boolean_bytes b) (statement_bytes t) in
        let f1 : drop (p + 1) s ≡ boolean_bytes b ++ (statement_bytes t ++ (255 ∷ post)) =
        past s p (8 ∷ []) _ f ∙ append_assoc (boolean_bytes b ++ statement_bytes t) (255 ∷ []) post ∙ append_assoc (boolean_bytes b) (statement_bytes t) (255 ∷ post) in
        let held : Holds (p + 1) (p + size (if b t)) n sc.contexts (below ++ own) (record { place = p + 1; boolean = b; scope = sc }) =
        record {
          after = omega arith;
          before = omega (arith, x, y, z);
          shallow = omega arith;
          rest = statement_bytes t ++ (255 ∷ post);
          stands = f1;
          allowed = a.0;
          scoped =
              before-parts (p + 1) (p + 1 + 1) o (o + 1) (o + size t) sc.contexts below own u (declared-between d t sc o) (omega arith)
              (omega (arith, y));
        } in (
          ((held, tt), tt),
          widen-all (o + 1) (o + size t) (p + 1) (p + size (if b t)) n sc.contexts sc.contexts own (below ++ own) (omega arith) (omega (arith, x, z))
              (λ q i j. second-part q (p + 1 + 1) o sc.contexts below own u (omega (arith, i))) (owns_from sc t o)
              (sites t sc o n (255 ∷ post) (omega arith) a.1 (past s (p + 1) (boolean_bytes b) _ f1)),
        )
    sites (if_else b t u) sc p n post h a f =
        let y = boolean-size b in
        let end = p + size (if_else b t u) in
        let o = p + 1 + length (boolean_bytes b) in
        let below = boolean_declared d sc b (p + 1) in
        let one = declared d sc t o in
        let two = declared d sc u (o + size t) in
        let k : Between (p + 1 + 1) o below = boolean-between d b sc (p + 1) in
        let z = length-append (boolean_bytes b ++ statement_bytes t) (statement_bytes u) in
        let x = length-append (boolean_bytes b) (statement_bytes t) in
        let f1 : drop (p + 1) s ≡ boolean_bytes b ++ (statement_bytes t ++ (statement_bytes u ++ post)) =
        past s p (8 ∷ []) _ f ∙ append_assoc (boolean_bytes b ++ statement_bytes t) (statement_bytes u) post ∙ append_assoc (boolean_bytes b) (statement_bytes t) (statement_bytes u ++ post) in
        let f2 = past s (p + 1) (boolean_bytes b) _ f1 in
        let w : Between (o + 1) (o + size t) one = declared-between d t sc o in
        let v : Between (o + size t + 1) (o + size t + size u) two = declared-between d u sc (o + size t) in
        let held : Holds (p + 1) end n sc.contexts (below ++ one ++ two) (record { place = p + 1; boolean = b; scope = sc }) =
        record {
          after = omega arith;
          before = omega (arith, x, y, z);
          shallow = omega arith;
          rest = statement_bytes t ++ (statement_bytes u ++ post);
          stands = f1;
          allowed = a.0;
          scoped =
              before-parts (p + 1) (p + 1 + 1) o (o + 1) (o + size t) sc.contexts below one k w (omega arith) (omega (arith, y))
              ∙ first_part (p + 1) (o + size t + 1) (o + size t + size u) sc.contexts (below ++ one) two v (omega (arith, y));
        } in (
          ((held, tt), tt),
          all_append _ (owns_from sc t o) _
              (widen-all (o + 1) (o + size t) (p + 1) end n sc.contexts sc.contexts one (below ++ one ++ two) (omega arith) (omega (arith, x, z))
              (λ q i j. second-part q (p + 1 + 1) o sc.contexts below one k (omega (arith, i))
              ∙ first_part q (o + size t + 1) (o + size t + size u) sc.contexts (below ++ one) two v (omega (arith, j))) (owns_from sc t o)
              (sites t sc o n _ (omega arith) a.1 f2))
              (widen-all (o + size t + 1) (o + size t + size u) (p + 1) end n sc.contexts sc.contexts two (below ++ one ++ two) (omega arith) (omega (arith, x, z))
              (λ q i j. second-part q (p + 1 + 1) (o + size t) sc.contexts (below ++ one) two
              (both-between d (p + 1 + 1) o (o + 1) (o + size t) (p + 1 + 1) (o + size t) below one (omega arith) (omega arith) (omega (arith, y)) (omega arith) k w)
              (omega (arith, i))) (owns_from sc u (o + size t))
              (sites u sc (o + size t) n post (omega arith) a.2 (past s o (statement_bytes t) _ f2))),
        )
    sites (select rs) sc p n post h a f =
        let z = length-append (receives_bytes rs) (255 ∷ []) in
        let own = receives_declared d sc rs (p + 1) in (
          (tt, tt),
          widen-all (p + 1) (p + 1 + length (receives_bytes rs)) (p + 1) (p + size (select rs)) n sc.contexts sc.contexts own own (omega arith)
              (omega (arith, z)) (λ q i j. refl) (receives_owns d sc rs (p + 1))
              (receives-sites rs sc (p + 1) n _ (omega arith) a.1 (past s p (13 ∷ []) _ f ∙ append_assoc (receives_bytes rs) (255 ∷ []) post)),
        )

    pub all-sites : (ts : Statements) (sc : Scope) (p n : ℕ) (post : List ℕ) → statements_depth ts ≤ n → StatementsAllowed e sc ts →
        drop p s ≡ statements_bytes ts ++ post →
        All (HoldsOwn p (p + length (statements_bytes ts)) n sc.contexts (declared_all d sc ts p)) (owns_of d sc ts p)
    all-sites nothing sc p n post h a f = tt
    all-sites (t then ts) sc p n post h a f =
        let end = p + length (statements_bytes (t then ts)) in
        let one = declared d sc t p in
        let two = declared_all d sc ts (p + size t) in
        let z = length-append (statement_bytes t) (statements_bytes ts) in
        let w : Between (p + 1) (p + size t) one = declared-between d t sc p in
        let v : Between (p + size t) (p + size t + length (statements_bytes ts)) two = all-between d ts sc (p + size t) in
        let f1 : drop p s ≡ statement_bytes t ++ (statements_bytes ts ++ post) = f ∙ append_assoc (statement_bytes t) (statements_bytes ts) post in
        all_append _ (owns_from sc t p) _
        (widen-all (p + 1) (p + size t) p end n sc.contexts sc.contexts one (one ++ two) (omega arith) (omega (arith, z))
        (λ q i j. first_part q (p + size t) (p + size t + length (statements_bytes ts)) sc.contexts one two v j) (owns_from sc t p)
        (sites t sc p n _ (omega arith) a.0 f1))
        (widen-all (p + size t) (p + size t + length (statements_bytes ts)) p end n sc.contexts sc.contexts two (one ++ two) (omega arith) (omega (arith, z))
        (λ q i j. second-part q (p + 1) (p + size t) sc.contexts one two w i) (owns_of d sc ts (p + size t))
        (all-sites ts sc (p + size t) n post (omega arith) a.1 (past s p (statement_bytes t) _ f1)))

    receives-sites : (rs : Receives) (sc : Scope) (p n : ℕ) (post : List ℕ) → receives_depth rs ≤ n → ReceivesAllowed e sc rs →
        drop p s ≡ receives_bytes rs ++ post →
        All (HoldsOwn p (p + length (receives_bytes rs)) n sc.contexts (receives_declared d sc rs p)) (receives_owns d sc rs p)
    receives-sites (last m t) sc p n post h a f =
        let own = declared d sc t (p + 2) in (
          (tt, tt),
          widen-all (p + 2 + 1) (p + 2 + size t) p (p + length (receives_bytes (last m t))) n sc.contexts sc.contexts own own (omega arith) (omega arith)
              (λ q i j. refl) (owns_from sc t (p + 2))
              (sites t sc (p + 2) n post (omega arith) a.1 (past s p (12 ∷ m ∷ []) _ f)),
        )
    receives-sites (more m t rs) sc p n post h a f =
        let end = p + length (receives_bytes (more m t rs)) in
        let o = p + 2 in
        let one = declared d sc t o in
        let two = receives_declared d sc rs (o + size t) in
        let z = length-append (statement_bytes t) (receives_bytes rs) in
        let w : Between (o + 1) (o + size t) one = declared-between d t sc o in
        let v : Between (o + size t) (o + size t + length (receives_bytes rs)) two = receives-between d rs sc (o + size t) in
        let f1 : drop o s ≡ statement_bytes t ++ (receives_bytes rs ++ post) = past s p (12 ∷ m ∷ []) _ f ∙ append_assoc (statement_bytes t) (receives_bytes rs) post in (
          (tt, tt),
          all_append _ (owns_from sc t o) _
              (widen-all (o + 1) (o + size t) p end n sc.contexts sc.contexts one (one ++ two) (omega arith) (omega (arith, z))
              (λ q i j. first_part q (o + size t) (o + size t + length (receives_bytes rs)) sc.contexts one two v j) (owns_from sc t o)
              (sites t sc o n _ (omega arith) a.1 f1))
              (widen-all (o + size t) (o + size t + length (receives_bytes rs)) p end n sc.contexts sc.contexts two (one ++ two) (omega arith) (omega (arith, z))
              (λ q i j. second-part q (o + 1) (o + size t) sc.contexts one two w i) (receives_owns d sc rs (o + size t))
              (receives-sites rs sc (o + size t) n post (omega arith) a.2 (past s o (statement_bytes t) _ f1))),
        )
