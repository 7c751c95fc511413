-- The contexts in scope at a condition or a from-value of an accepted request: the slots that the code finds are these, with the relations due.
use Prim.Native.Nat.{ℕ, ◌*◌}
use mathlib.Core.Path.{◌≡◌, sym, ap, ◌∙◌}
use mathlib.Core.List.{List, [], ◌∷◌, ◌++◌, map}
use native.Mathlib.Omega.{arith}
use lib.ListN.{length, drop}
use Rattle.dictionary.specs.Dictionary.{Relation}
use Rattle.dictionary.specs.Internal.Walk.{relation_at}
use Rattle.records.specs.Record.{records}
use Rattle.grammar.specs.Tree.{Request}
use Rattle.grammar.specs.Environment.{Scope, outermost}
use Rattle.grammar.specs.Sizes.{contexts_count}
use Rattle.grammar.specs.Rules.{Allowed, environment}
use Rattle.grammar.specs.Rows.{statements_start, request_context_rows}
use Rattle.grammar.specs.Conditions.{Condition}
use Rattle.grammar.specs.Named.{FromValue}
use Rattle.grammar.proofs.RowCounts.{request-contexts}
use Rattle.meaning.specs.Evaluation.{due_relations}
use Rattle.meaning.specs.Demand.{Accepted, Asked, AskedValue}
use Rattle.walking.specs.Declared.{Declared, rows_of, contexts_at}
use Rattle.walking.proofs.Asked.{declarations, rows_are, scope-by-rows, value-scope-by-rows}
use Rattle.walking.proofs.Sites.{All}
use Rattle.surroundings.specs.Slots.{slots_from, relations_in}
use Rattle.surroundings.proofs.Related.{Named, all_named, at_named}
use Rattle.surroundings.proofs.Slots.{slot_for, slots-are, due-slots}

rows-count : (ds : List Declared) → length (rows_of ds) ≡ length ds * 6
unfolding rows_of
rows-count [] = omega arith
rows-count (x ∷ ds) = let i = rows-count ds in omega (arith, i)

module _ (rs : List Relation) (t : Request) where
  declared-count : length (declarations rs t) ≡ contexts_count t.statements
  declared-count =
      let i = rows-count (declarations rs t) in
      let j = request-contexts rs t in
      let k = ap length (rows_are rs t) in
      omega (arith, i, j, k)

  declarations-named : Allowed rs t → All (λ x. Named rs x.context) (declarations rs t)
  unfolding declarations
  declarations-named a = all_named (environment rs t) t.statements outermost (statements_start t) tt a.statements

-- what stands at a place of an accepted request, in a scope that has the contexts whose rows hold that place
module _ (s d : List ℕ) (rs : List Relation) (t : Request) (a : Accepted s d rs t) (p : ℕ) (sc : Scope)
    (scoped : sc.contexts ≡ contexts_at p (declarations rs t)) (ct more : List ℕ) (f : ct ≡ request_context_rows rs t ++ more) where
  all_there : All (Named rs) sc.contexts
  all_there = rw scoped (at_named rs p (declarations rs t) (declarations-named rs t a.allowed))

  -- the slots are the contexts in scope
  slots-there : slots_from d ct p (contexts_count t.statements) 0 ≡ map (slot_for d) sc.contexts
  slots-there =
      let g : drop (0 * 6) ct ≡ rows_of (declarations rs t) ++ more = f ∙ ap (λ z. z ++ more) (rows_are rs t) in
      ap (λ z. slots_from d ct p z 0) (sym (declared-count rs t)) ∙ slots-are d ct p (declarations rs t) 0 more g
      ∙ ap (map (slot_for d)) (sym scoped)

  -- the run that the code checks is the run due
  due-there : (rows : List ℕ) →
      records (map (relation_at d) (relations_in (slots_from d ct p (contexts_count t.statements) 0))) rows 0 ≡
      records (due_relations sc.contexts) rows 0
  due-there rows =
      ap (λ l. records l rows 0)
      (ap (λ z. map (relation_at d) (relations_in z)) slots-there ∙ due-slots d rs a.house sc.contexts all_there)

-- a condition
module _ (s d : List ℕ) (rs : List Relation) (t : Request) (a : Accepted s d rs t) (n : ℕ) (x : Condition) (c : Asked rs t n x)
    (ct more : List ℕ) (f : ct ≡ request_context_rows rs t ++ more) where
  pub all-in-scope : All (Named rs) x.scope.contexts
  all-in-scope = all_there s d rs t a x.place x.scope (scope-by-rows s d rs t a n x c) ct more f

  pub slots-in-scope : slots_from d ct x.place (contexts_count t.statements) 0 ≡ map (slot_for d) x.scope.contexts
  slots-in-scope = slots-there s d rs t a x.place x.scope (scope-by-rows s d rs t a n x c) ct more f

  pub run-due : (rows : List ℕ) →
      records (map (relation_at d) (relations_in (slots_from d ct x.place (contexts_count t.statements) 0))) rows 0 ≡
      records (due_relations x.scope.contexts) rows 0
  run-due = due-there s d rs t a x.place x.scope (scope-by-rows s d rs t a n x c) ct more f

-- a from-value
module _ (s d : List ℕ) (rs : List Relation) (t : Request) (a : Accepted s d rs t) (k : ℕ) (x : FromValue) (c : AskedValue rs t k x)
    (ct more : List ℕ) (f : ct ≡ request_context_rows rs t ++ more) where
  pub value-all-in-scope : All (Named rs) x.scope.contexts
  value-all-in-scope = all_there s d rs t a x.place x.scope (value-scope-by-rows s d rs t a k x c) ct more f

  pub value-slots-in-scope : slots_from d ct x.place (contexts_count t.statements) 0 ≡ map (slot_for d) x.scope.contexts
  value-slots-in-scope = slots-there s d rs t a x.place x.scope (value-scope-by-rows s d rs t a k x c) ct more f

  pub value-run-due : (rows : List ℕ) →
      records (map (relation_at d) (relations_in (slots_from d ct x.place (contexts_count t.statements) 0))) rows 0 ≡
      records (due_relations x.scope.contexts) rows 0
  value-run-due = due-there s d rs t a x.place x.scope (value-scope-by-rows s d rs t a k x c) ct more f
