-- By the table of a condition or a from-value a walk sees what the meaning has around it.
use Prim.Native.Nat.{ℕ, ◌+◌, ◌<◌}
use mathlib.Core.Path.{◌≡◌, refl, sym, ap, ◌∙◌}
use mathlib.Core.List.{List, [], ◌∷◌, ◌++◌, map, append-nil}
use native.Mathlib.Omega.{arith}
use Rattle.wire.specs.Words.{word_at}
use Rattle.dictionary.specs.Dictionary.{Relation, proper, dictionary}
use Rattle.records.specs.Record.{as_due, records}
use Rattle.records.specs.Runs as Runs
use Rattle.grammar.specs.Tree.{Request}
use Rattle.grammar.specs.Sizes.{parameter_count, contexts_count}
use Rattle.grammar.specs.Rows.{parameter_rows, request_context_rows}
use Rattle.grammar.specs.Environment.{Scope}
use Rattle.grammar.specs.Rules.{environment, ValueAllowed, BooleanAllowed}
use Rattle.grammar.specs.Conditions.{Condition}
use Rattle.grammar.specs.Named.{FromValue}
use Rattle.meaning.specs.Inputs.{parameter_at}
use Rattle.meaning.specs.Runs.{DueRun, value_runs, due_runs, run_relations, lent_runs}
use Rattle.meaning.specs.Meaning.{size, boolean_size, around_part, around, around_value}
use Rattle.meaning.specs.Evaluation.{due_relations}
use Rattle.meaning.specs.Demand.{Accepted, Asked, AskedValue}
use Rattle.walking.specs.Sees.{SeesValue, Sees}
use Rattle.walking.proofs.Asked.{stands_after, value-stands-after}
use Rattle.walking.proofs.Sites.{All}
use Rattle.walking.proofs.Due.{Grows}
use Rattle.surroundings.specs.Slots.{Slot, slots_from}
use Rattle.surroundings.specs.Parameters.{ScaleBytes, parameter_from}
use Rattle.surroundings.specs.Bindings.{Binding, binding_rows, bound_contexts, bound_sight}
use Rattle.surroundings.proofs.Parameters.{parameter-found}
use Rattle.surroundings.proofs.Around.{all-in-scope, slots-in-scope, value-all-in-scope, value-slots-in-scope}
use Rattle.surroundings.proofs.Related.{Named}
use Rattle.surroundings.proofs.Slots.{slot_for}
use Rattle.runs.specs.Found.{value_bindings, bindings_of}
use Rattle.runs.specs.Filled.{filled_bindings}
use Rattle.sights.specs.Sites.{Site, value_sites, sites}
use Rattle.sights.specs.Seen.{Seen, Kept, LaidRun, Kinds, with_kinds}
use Rattle.sights.proofs.Starts.{bound-start}
use Rattle.sights.proofs.Trees.{row_of, value-rows, rows_are, due_of, value-due, due-are, value-rising, rising, Good, value-good, all-good}
use Rattle.sights.proofs.Lent.{all-lent, filled-unbound}
use Rattle.sights.proofs.Sight.{sees-value, sees}

pub kept_whole : (u : List ℕ) → Kept u u
kept_whole u = record { sized = refl; cells = λ row k h n. refl }

contexts-low : (xs : List Slot) (s : List ℕ) (p lo : ℕ) → 0 < lo → All (λ b. b.code < lo) (bound_contexts xs s p)
unfolding bound_contexts
contexts-low [] s p lo h = tt
contexts-low (x ∷ xs) s p lo h = (h, contexts-low xs s (p + word_at s p) lo h)

-- ---- the table

-- the contexts in scope with their records, then rows with their runs
abbrev table_of : List ℕ → Scope → List Binding → List ℕ → List ℕ → List ℕ
table_of d sc own rows runs = binding_rows (bound_contexts (map (slot_for d) sc.contexts) rows 0 ++ filled_bindings d runs 0 own)

-- of a condition and of a from-value, whose any, unique and statistic codes have numbers of those kinds
abbrev pub table_for : List ℕ → Condition → List ℕ → List ℕ → List ℕ → List ℕ
table_for d x kinds rows runs = table_of d x.scope (with_kinds (bindings_of d x.boolean x.place) kinds) rows runs

abbrev pub value_table_for : List ℕ → FromValue → List ℕ → List ℕ → List ℕ → List ℕ
value_table_for d x kinds rows runs = table_of d x.scope (with_kinds (value_bindings d x.value x.place) kinds) rows runs

module _ (d : List ℕ) (rs : List Relation) (h : dictionary d ≡ proper rs) (t : Request) (sc : Scope) (p hi : ℕ) (due : List DueRun) (own : List Binding)
    (zs : List Site) (kinds parameters : List ℕ) (count : ℕ) (images rows runs : List ℕ) (after : 0 < p) (own_is : own ≡ map (row_of d) zs)
    (due-is : due ≡ map (due_of rs) zs) (grows : Grows p hi (map (due_of rs) zs)) (good : All (Good rs) zs) (kinds-are : Kinds kinds zs)
    (named : All (Named rs) sc.contexts) (found : (m i : ℕ) → parameter_from parameters m i count 0 0 ≡ parameter_at t.messages m i)
    (records-due : records (due_relations sc.contexts) rows 0 ≡ as_due) (runs-due : Runs.runs (run_relations due) runs 0 ≡ as_due) where
  abbrev contexts : List Binding
  contexts = bound_contexts (map (slot_for d) sc.contexts) rows 0

  abbrev table : List ℕ
  table = table_of d sc (with_kinds own kinds) rows runs

  table_is : table ≡ binding_rows (contexts ++ filled_bindings d runs 0 (with_kinds (map (row_of d) zs) kinds))
  table_is = ap (λ l. binding_rows (contexts ++ filled_bindings d runs 0 (with_kinds l kinds))) own_is

  -- it has what stands around
  table-seen : Seen d parameters count images rows runs table (around_part rs t sc due images rows runs) × Kept table table
  table-seen = (
    record {
      bound = rw table_is
          (bound-start d rs h rows runs sc.contexts (filled_bindings d runs 0 (with_kinds (map (row_of d) zs) kinds)) named records-due
          (filled-unbound rs d runs kinds zs 0 p hi after grows));
      parameters_are = found;
      images_are = refl;
    },
    kept_whole table,
  )

  -- and a row for each any, unique and statistic
  table-laid : All (LaidRun d runs table rs (lent_runs due runs)) zs
  table-laid =
      all-lent d rs h runs kinds zs 0 p hi contexts [] table (lent_runs due runs) kinds-are after grows
      (contexts-low (map (slot_for d) sc.contexts) rows 0 p after) tt good
      (ap (λ l. Runs.runs (run_relations l) runs 0) (sym due-is) ∙ runs-due)
      table_is (ap (λ l. lent_runs l runs) due-is)

-- ---- for a condition of an accepted request

module _ (s d : List ℕ) (rs : List Relation) (t : Request) (a : Accepted s d rs t) (n : ℕ) (x : Condition) (c : Asked rs t n x)
    (kinds rows runs : List ℕ) where
  -- its table, by the rows of the contexts that the reader found
  pub table-by-rows : (ct after : List ℕ) → ct ≡ request_context_rows rs t ++ after →
      binding_rows (bound_contexts (slots_from d ct x.place (contexts_count t.statements) 0) rows 0 ++
      filled_bindings d runs 0 (with_kinds (bindings_of d x.boolean x.place) kinds)) ≡ table_for d x kinds rows runs
  table-by-rows ct after f =
      ap (λ l. binding_rows (bound_contexts l rows 0 ++ filled_bindings d runs 0 (with_kinds (bindings_of d x.boolean x.place) kinds)))
      (slots-in-scope s d rs t a n x c ct after f)

  pub condition-sees : ScaleBytes t.messages → (pt after : List ℕ) → pt ≡ parameter_rows t.messages ++ after → (images : List ℕ) →
      BooleanAllowed (environment rs t) x.scope x.boolean → records (due_relations x.scope.contexts) rows 0 ≡ as_due →
      Runs.runs (run_relations (due_runs rs x.boolean x.place)) runs 0 ≡ as_due →
      Kinds kinds (sites (environment rs t) x.scope x.boolean x.place) →
      Sees t.version (bound_sight d pt (parameter_count t.messages) images rows runs)
      (table_for d x kinds rows runs) (around rs t x images rows runs) x.boolean x.place
  unfolding around
  condition-sees v pt after g images allowed rows-due runs-due kinds-are =
      let e = environment rs t in
      let b = x.boolean in
      let sc = x.scope in
      let p = x.place in
      let due = due_runs rs b p in
      let own = bindings_of d b p in
      let zs = sites e sc b p in
      let low = stands_after s d rs t a n x c in
      let own_is = rows_are d e b sc p in
      let due-is = due-are e b sc p in
      let grows = rising e b sc p in
      let good = all-good e b sc p allowed in
      let named = all-in-scope s d rs t a n x c (request_context_rows rs t) [] (sym (append-nil (request_context_rows rs t))) in
      let found = parameter-found t.messages a.allowed.messages v pt after g in
      let m = parameter_count t.messages in
      let u = table_for d x kinds rows runs in
      sees d pt m images rows runs t.version u b u (around rs t x images rows runs) p
      (table-seen d rs a.house t sc p (p + boolean_size b) due own zs kinds pt m images rows runs (omega (arith, low)) own_is due-is grows good
      kinds-are named found rows-due runs-due)
      (table-laid d rs a.house t sc p (p + boolean_size b) due own zs kinds pt m images rows runs (omega (arith, low)) own_is due-is grows good
      kinds-are named found rows-due runs-due) allowed

-- ---- for a from-value of one

module _ (s d : List ℕ) (rs : List Relation) (t : Request) (a : Accepted s d rs t) (k : ℕ) (x : FromValue) (c : AskedValue rs t k x)
    (kinds rows runs : List ℕ) where
  pub value-table-by-rows : (ct after : List ℕ) → ct ≡ request_context_rows rs t ++ after →
      binding_rows (bound_contexts (slots_from d ct x.place (contexts_count t.statements) 0) rows 0 ++
      filled_bindings d runs 0 (with_kinds (value_bindings d x.value x.place) kinds)) ≡ value_table_for d x kinds rows runs
  value-table-by-rows ct after f =
      ap (λ l. binding_rows (bound_contexts l rows 0 ++ filled_bindings d runs 0 (with_kinds (value_bindings d x.value x.place) kinds)))
      (value-slots-in-scope s d rs t a k x c ct after f)

  pub value-sees : ScaleBytes t.messages → (pt after : List ℕ) → pt ≡ parameter_rows t.messages ++ after → (images : List ℕ) →
      ValueAllowed (environment rs t) x.scope x.value → records (due_relations x.scope.contexts) rows 0 ≡ as_due →
      Runs.runs (run_relations (value_runs rs x.value x.place)) runs 0 ≡ as_due →
      Kinds kinds (value_sites (environment rs t) x.scope x.value x.place) →
      SeesValue t.version (bound_sight d pt (parameter_count t.messages) images rows runs)
      (value_table_for d x kinds rows runs) (around_value rs t x images rows runs) x.value x.place
  unfolding around_value
  value-sees v pt after g images allowed rows-due runs-due kinds-are =
      let e = environment rs t in
      let w = x.value in
      let sc = x.scope in
      let p = x.place in
      let due = value_runs rs w p in
      let own = value_bindings d w p in
      let zs = value_sites e sc w p in
      let low = value-stands-after s d rs t a k x c in
      let own_is = value-rows d e w sc p in
      let due-is = value-due e w sc p in
      let grows = value-rising e w sc p in
      let good = value-good e w sc p allowed in
      let named = value-all-in-scope s d rs t a k x c (request_context_rows rs t) [] (sym (append-nil (request_context_rows rs t))) in
      let found = parameter-found t.messages a.allowed.messages v pt after g in
      let m = parameter_count t.messages in
      let u = value_table_for d x kinds rows runs in
      sees-value d pt m images rows runs t.version u w u (around_value rs t x images rows runs) p
      (table-seen d rs a.house t sc p (p + size w) due own zs kinds pt m images rows runs (omega (arith, low)) own_is due-is grows good
      kinds-are named found rows-due runs-due)
      (table-laid d rs a.house t sc p (p + size w) due own zs kinds pt m images rows runs (omega (arith, low)) own_is due-is grows good
      kinds-are named found rows-due runs-due) allowed
