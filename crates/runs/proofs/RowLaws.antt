-- The rows of the any, unique and statistic codes of a boolean or a value are not more than its contexts, and their relations are those of
-- the runs due.
use Prim.Native.Nat.{ℕ, ◌+◌, ◌≤◌}
use mathlib.Core.Path.{◌≡◌, refl, sym, ap, ap₂, ◌∙◌}
use mathlib.Core.Bool.{true}
use mathlib.Core.List.{List, [], ◌∷◌, ◌++◌}
use mathlib.Core.Option.{Option, none, some, map}
use native.Mathlib.Omega.{arith}
use lib.ListN.{length, length-append}
use Rattle.wire.specs.Lists.{is_some}
use Rattle.dictionary.specs.Dictionary.{Relation, proper, dictionary}
use Rattle.dictionary.specs.Naming.{relation_of}
use Rattle.dictionary.specs.Internal.Walk.{relation_place, relation_at}
use Rattle.dictionary.proofs.Relations.{found-is}
use Rattle.grammar.specs.Tree.{Stream, Value, literal, reference, arithmetic, negate, statistic, count, Boolean, compare, search, between, connect, not, missing, quantify, Clauses, no_clauses, such, sorted, Rse, rse}
use Rattle.grammar.specs.Bytes.{statistic_code, quantifier_code, value_bytes, boolean_bytes, keys_bytes, head_bytes, rse_bytes}
use Rattle.grammar.specs.Environment.{Environment, Scope, under_streams, under_rse_of}
use Rattle.grammar.specs.Scope.{EachScoped}
use Rattle.grammar.specs.Sizes.{value_contexts, boolean_contexts, keys_contexts, clauses_contexts, rse_contexts}
use Rattle.wire.specs.Codes as blr
use Rattle.grammar.specs.Rules.{ValueAllowed, BooleanAllowed, ClausesAllowed, RseAllowed}
use Rattle.grammar.proofs.StepLaws.{absurd-eq}
use Rattle.meaning.specs.Runs.{DueRun, due_run, value_runs, due_runs, rse_runs, clauses_runs, known_then, run_relations}
use Rattle.walking.specs.Sees.{such_place}
use Rattle.surroundings.specs.Slots.{place_or}
use Rattle.surroundings.specs.Bindings.{Binding}
use Rattle.runs.specs.Filled.{relations_of}
use Rattle.runs.specs.Found.{run_bindings, value_bindings, bindings_of, rse_bindings, clauses_bindings}

-- ---- how many

few-streams : (d : List ℕ) (ss : List Stream) (p c after end : ℕ) → length (run_bindings d ss p c after end) ≤ length ss
few-streams d [] p c after end = omega arith
few-streams d (x ∷ []) p c after end = omega arith
few-streams d (x ∷ y ∷ ss) p c after end = omega arith

few-both : (xs ys : List Binding) (a b : ℕ) → length xs ≤ a → length ys ≤ b → length (xs ++ ys) ≤ a + b
few-both xs ys a b h k = omega (arith, h, k, length-append xs ys)

module _ (d : List ℕ) where
  mutual
    unfolding value_bindings value_contexts

    pub few-values : (v : Value) (p : ℕ) → length (value_bindings d v p) ≤ value_contexts v
    few-values (literal l) p = omega arith
    few-values (reference r) p = omega arith
    few-values (arithmetic o v w) p =
        few-both (value_bindings d v (p + 1)) (value_bindings d w (p + 1 + length (value_bytes v))) (value_contexts v) (value_contexts w) (few-values v (p + 1))
        (few-values w (p + 1 + length (value_bytes v)))
    few-values (negate v) p = few-values v (p + 1)
    few-values (statistic k r v) p =
        let q = p + 1 + length (rse_bytes r) in
        few-both (rse_bindings d r p (q + length (value_bytes v))) (value_bindings d v q) (rse_contexts r) (value_contexts v)
        (few-in-rse r p (q + length (value_bytes v))) (few-values v q)
    few-values (count r) p = few-in-rse r p (p + 1 + length (rse_bytes r))

    pub few-bindings : (b : Boolean) (p : ℕ) → length (bindings_of d b p) ≤ boolean_contexts b
    few-bindings (compare c v w) p =
        few-both (value_bindings d v (p + 1)) (value_bindings d w (p + 1 + length (value_bytes v))) (value_contexts v) (value_contexts w) (few-values v (p + 1))
        (few-values w (p + 1 + length (value_bytes v)))
    few-bindings (search t v w) p =
        few-both (value_bindings d v (p + 1)) (value_bindings d w (p + 1 + length (value_bytes v))) (value_contexts v) (value_contexts w) (few-values v (p + 1))
        (few-values w (p + 1 + length (value_bytes v)))
    few-bindings (between v w x) p =
        let q = p + 1 + length (value_bytes v) in
        few-both (value_bindings d v (p + 1) ++ value_bindings d w q) (value_bindings d x (q + length (value_bytes w)))
        (value_contexts v + value_contexts w) (value_contexts x)
        (few-both (value_bindings d v (p + 1)) (value_bindings d w q) (value_contexts v) (value_contexts w) (few-values v (p + 1)) (few-values w q))
        (few-values x (q + length (value_bytes w)))
    few-bindings (connect c a b) p =
        few-both (bindings_of d a (p + 1)) (bindings_of d b (p + 1 + length (boolean_bytes a))) (boolean_contexts a) (boolean_contexts b) (few-bindings a (p + 1))
        (few-bindings b (p + 1 + length (boolean_bytes a)))
    few-bindings (not a) p = few-bindings a (p + 1)
    few-bindings (missing v) p = few-values v (p + 1)
    few-bindings (quantify q r) p = few-in-rse r p (p + 1 + length (rse_bytes r))

    few-in-rse : (r : Rse) (p end : ℕ) → length (rse_bindings d r p end) ≤ rse_contexts r
    few-in-rse (rse ss cs) p end =
        let q = p + 1 + length (head_bytes ss) in
        let c = place_or (such_place cs q) in
        let after = p + 1 + length (rse_bytes (rse ss cs)) in
        few-both (run_bindings d ss p c after end) (clauses_bindings d cs q) (length ss) (clauses_contexts cs) (few-streams d ss p c after end)
        (few-in-clauses cs q)

    few-in-clauses : (cs : Clauses) (p : ℕ) → length (clauses_bindings d cs p) ≤ clauses_contexts cs
    few-in-clauses no_clauses p = omega arith
    few-in-clauses (such b cs) p =
        few-both (bindings_of d b (p + 1)) (clauses_bindings d cs (p + 1 + length (boolean_bytes b))) (boolean_contexts b) (clauses_contexts cs)
        (few-bindings b (p + 1)) (few-in-clauses cs (p + 1 + length (boolean_bytes b)))
    few-in-clauses (sorted ks cs) p = let h = few-in-clauses cs (p + 2 + length (keys_bytes ks)) in omega (arith, h)

-- ---- the relations of the runs due

relations-append : (xs ys : List DueRun) → run_relations (xs ++ ys) ≡ run_relations xs ++ run_relations ys
unfolding run_relations
relations-append [] ys = refl
relations-append (x ∷ xs) ys = ap (known_then x.relation) (relations-append xs ys) ∙ by x.relation (run_relations xs) (run_relations ys)
  where
    by : (o : Option Relation) (a b : List Relation) → known_then o (a ++ b) ≡ known_then o a ++ b
    by none a b = refl
    by (some r) a b = refl

map-append : (d : List ℕ) (xs ys : List Binding) → relations_of d (xs ++ ys) ≡ relations_of d xs ++ relations_of d ys
map-append d [] ys = refl
map-append d (x ∷ xs) ys = ap (λ l. relation_at d x.relation ∷ l) (map-append d xs ys)

module _ (d : List ℕ) (v : Environment) (h : dictionary d ≡ proper v.relations) where
  abbrev rs : List Relation
  rs = v.relations

  both-relations : (xs ys : List Binding) (us ws : List DueRun) → relations_of d xs ≡ run_relations us → relations_of d ys ≡ run_relations ws →
      relations_of d (xs ++ ys) ≡ run_relations (us ++ ws)
  both-relations xs ys us ws e f = map-append d xs ys ∙ ap₂ (λ a b. a ++ b) e f ∙ sym (relations-append us ws)

  stream-relation : (o : Option ℕ) (r : Option Relation) → map (relation_at d) o ≡ r → is_some r ≡ true →
      relation_at d (place_or o) ∷ [] ≡ known_then r []
  stream-relation none none e i = absurd-eq (cc)
  stream-relation none (some r) e i = absurd-eq (cc)
  stream-relation (some p) none e i = absurd-eq (cc)
  stream-relation (some p) (some r) e i = let z : relation_at d p ≡ r = cc in ap (λ y. y ∷ []) z

  streams-relations : (ss : List Stream) (sc : Scope) (p c after end : ℕ) → EachScoped rs sc ss →
      relations_of d (run_bindings d ss p c after end) ≡ run_relations (due_run rs ss p)
  unfolding run_relations
  streams-relations [] sc p c after end a = refl
  streams-relations (x ∷ []) sc p c after end a =
      stream-relation (relation_place d x.relation) (relation_of rs x.relation) (found-is d rs h x.relation) a.0.0
  streams-relations (x ∷ y ∷ ss) sc p c after end a = refl

  -- the same relations, for a value at a place
  abbrev SameRelations : Value → ℕ → Type 0
  SameRelations x p = relations_of d (value_bindings d x p) ≡ run_relations (value_runs rs x p)

  -- two values after a code
  two-relations : (x y : Value) (p : ℕ) → SameRelations x (p + 1) → SameRelations y (p + 1 + length (value_bytes x)) →
      relations_of d (value_bindings d x (p + 1) ++ value_bindings d y (p + 1 + length (value_bytes x))) ≡
      run_relations (value_runs rs x (p + 1) ++ value_runs rs y (p + 1 + length (value_bytes x)))
  two-relations x y p e f =
      let q = p + 1 + length (value_bytes x) in
      both-relations (value_bindings d x (p + 1)) (value_bindings d y q) (value_runs rs x (p + 1)) (value_runs rs y q) e f

  mutual
    unfolding value_bindings value_runs run_relations

    pub value-relations : (x : Value) (sc : Scope) (p : ℕ) → ValueAllowed v sc x → relations_of d (value_bindings d x p) ≡ run_relations (value_runs rs x p)
    value-relations (literal l) sc p a = refl
    value-relations (reference r) sc p a = refl
    value-relations (arithmetic o x y) sc p a = two-relations x y p (value-relations x sc (p + 1) a.0) (value-relations y sc (p + 1 + length (value_bytes x)) a.1)
    value-relations (negate x) sc p a = value-relations x sc (p + 1) a.0
    value-relations (statistic k r x) sc p a =
        let q = p + 1 + length (rse_bytes r) in
        both-relations (rse_bindings d r p (q + length (value_bytes x))) (value_bindings d x q) (rse_runs rs r p) (value_runs rs x q)
        (rse-relations r (statistic_code k) sc p (q + length (value_bytes x)) a.1) (value-relations x (under_rse_of rs (statistic_code k) sc r) q a.2)
    value-relations (count r) sc p a = rse-relations r blr.count sc p (p + 1 + length (rse_bytes r)) a.1

    pub bindings-relations : (b : Boolean) (sc : Scope) (p : ℕ) → BooleanAllowed v sc b → relations_of d (bindings_of d b p) ≡ run_relations (due_runs rs b p)
    bindings-relations (compare c x y) sc p a = two-relations x y p (value-relations x sc (p + 1) a.0) (value-relations y sc (p + 1 + length (value_bytes x)) a.1)
    bindings-relations (search t x y) sc p a = two-relations x y p (value-relations x sc (p + 1) a.0) (value-relations y sc (p + 1 + length (value_bytes x)) a.1)
    bindings-relations (between x y z) sc p a =
        let q = p + 1 + length (value_bytes x) in
        let r = q + length (value_bytes y) in
        both-relations (value_bindings d x (p + 1) ++ value_bindings d y q) (value_bindings d z r) (value_runs rs x (p + 1) ++ value_runs rs y q) (value_runs rs z r)
        (two-relations x y p (value-relations x sc (p + 1) a.0) (value-relations y sc (p + 1 + length (value_bytes x)) a.1)) (value-relations z sc r a.2)
    bindings-relations (connect c x y) sc p a =
        let q = p + 1 + length (boolean_bytes x) in
        both-relations (bindings_of d x (p + 1)) (bindings_of d y q) (due_runs rs x (p + 1)) (due_runs rs y q)
        (bindings-relations x sc (p + 1) a.0) (bindings-relations y sc q a.1)
    bindings-relations (not x) sc p a = bindings-relations x sc (p + 1) a
    bindings-relations (missing x) sc p a = value-relations x sc (p + 1) a
    bindings-relations (quantify q r) sc p a = rse-relations r (quantifier_code q) sc p (p + 1 + length (rse_bytes r)) a.1

    rse-relations : (r : Rse) (o : ℕ) (sc : Scope) (p end : ℕ) → RseAllowed v o sc r →
        relations_of d (rse_bindings d r p end) ≡ run_relations (rse_runs rs r p)
    rse-relations (rse ss cs) o sc p end a =
        let q = p + 1 + length (head_bytes ss) in
        let c = place_or (such_place cs q) in
        let after = p + 1 + length (rse_bytes (rse ss cs)) in
        both-relations (run_bindings d ss p c after end) (clauses_bindings d cs q) (due_run rs ss p) (clauses_runs rs cs q)
        (streams-relations ss sc p c after end a.1.0) (clauses-relations cs (under_streams rs o sc ss) q a.3)

    clauses-relations : (cs : Clauses) (sc : Scope) (p : ℕ) → ClausesAllowed v sc cs →
        relations_of d (clauses_bindings d cs p) ≡ run_relations (clauses_runs rs cs p)
    clauses-relations no_clauses sc p a = refl
    clauses-relations (such b cs) sc p a =
        let q = p + 1 + length (boolean_bytes b) in
        both-relations (bindings_of d b (p + 1)) (clauses_bindings d cs q) (due_runs rs b (p + 1)) (clauses_runs rs cs q)
        (bindings-relations b sc (p + 1) a.0) (clauses-relations cs sc q a.1)
    clauses-relations (sorted ks cs) sc p a = clauses-relations cs sc (p + 2 + length (keys_bytes ks)) a.2
