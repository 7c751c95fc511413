-- A table of bindings with the kinds of the statistics' numbers noted is that of the bindings with these kinds.
use Prim.Native.Nat.{ℕ, zero, suc, ◌+◌, ◌*◌, ◌≤◌}
use mathlib.Core.Path.{◌≡◌, refl, sym}
use mathlib.Core.List.{List, [], ◌++◌, map, append-nil}
use native.Mathlib.Omega.{arith}
use lib.ListN.{length, get_or, replicate, length-map, length-replicate}
use lib.Seq.{sets}
use Rattle.wire.specs.Limits.{max_contexts}
use Rattle.dictionary.specs.Dictionary.{Relation}
use Rattle.grammar.specs.Tree.{Request}
use Rattle.grammar.specs.Sizes.{parameter_count}
use Rattle.grammar.specs.Rows.{parameter_rows, request_context_rows}
use Rattle.grammar.specs.Environment.{Scope}
use Rattle.grammar.specs.Rules.{environment}
use Rattle.grammar.specs.Conditions.{Condition}
use Rattle.grammar.specs.Named.{FromValue}
use Rattle.meaning.specs.Meaning.{size, boolean_size}
use Rattle.meaning.specs.Demand.{Accepted, Asked, AskedValue}
use Rattle.walking.proofs.Asked.{site, stands_after, value-site, value-stands-after}
use Rattle.surroundings.specs.Parameters.{ScaleBytes}
use Rattle.surroundings.specs.Bindings.{Binding, binding_row_numbers, binding_rows, bound_contexts, rows_in}
use Rattle.surroundings.proofs.BindingRows.{contexts-count}
use Rattle.surroundings.proofs.Around.{all-in-scope, value-all-in-scope}
use Rattle.surroundings.proofs.Slots.{slot_for}
use Rattle.runs.specs.Found.{value_bindings, bindings_of}
use Rattle.runs.specs.Filled.{relations_of}
use Rattle.runs.proofs.RowLaws.{few-values, few-bindings}
use Rattle.runs.proofs.Conditions.{asked-roomy, asked-value-roomy}
use Rattle.kinds.specs.KindAt.{kinds_noted}
use Rattle.kinds.proofs.Trees.{spans_of}
use Rattle.kinds.proofs.Contexts.{scoped-there}
use Rattle.kinds.proofs.Scales.{accepted-named, scope-named}
use Rattle.kinds.proofs.SiteKinds.{value-right, boolean-right}
use Rattle.kinds.proofs.NotedTables.{kinds_in, accepted-beside, kinds-right, AllRight, own-count, own-relations, laid-noted}
use Rattle.sights.specs.Sites.{Site, value_sites, sites}
use Rattle.sights.specs.Seen.{Kinds, with_kinds}
use Rattle.sights.proofs.Trees.{row_of, value-rows, rows_are}
use Rattle.evaluator.specs.Slices.{binding_numbers}

-- so many numbers, which are all 0
abbrev zeros : ℕ → List ℕ
zeros n = replicate n 0

nothing : (n i : ℕ) → get_or (zeros n) i 0 ≡ 0
nothing zero i = refl
nothing (suc n) zero = refl
nothing (suc n) (suc i) = nothing n i

-- the rows of the contexts in scope
abbrev pub contexts_there : List ℕ → Scope → List ℕ → List Binding
contexts_there d sc rows = bound_contexts (map (slot_for d) sc.contexts) rows 0

-- an empty table with rows from its start on, and rows after them
abbrev pub laid_after : List Binding → List Binding → List ℕ
laid_after outer bs = sets (sets (zeros binding_numbers) 0 (binding_rows outer)) (length outer * binding_row_numbers) (binding_rows bs)

-- it has room for them
room : (d : List ℕ) (sc : Scope) (rows : List ℕ) (n : ℕ) → length sc.contexts + n ≤ max_contexts →
    (length (contexts_there d sc rows) + n) * 10 ≤ length (zeros binding_numbers)
room d sc rows n h =
    let l : length (zeros binding_numbers) ≡ binding_numbers = length-replicate {A = ℕ} binding_numbers 0 in
    let k = contexts-count (map (slot_for d) sc.contexts) rows 0 in
    let m = length-map sc.contexts (slot_for d) in
    omega (arith, h, l, k, m)

-- ---- a condition

module _ (s d : List ℕ) (rs : List Relation) (t : Request) (a : Accepted s d rs t) (n : ℕ) (x : Condition) (c : Asked rs t n x)
    (scales : ScaleBytes t.messages) (pt after : List ℕ) (parameter_rows : pt ≡ parameter_rows t.messages ++ after) (rows : List ℕ) where
  abbrev outer : List Binding
  outer = contexts_there d x.scope rows

  abbrev own : List Binding
  own = bindings_of d x.boolean x.place

  abbrev sites-there : List Site
  sites-there = sites (environment rs t) x.scope x.boolean x.place

  own_is : own ≡ map (row_of d) sites-there
  own_is = rows_are d (environment rs t) x.boolean x.scope x.place

  right : AllRight s d rs t a pt (parameter_count t.messages) rows x.scope own sites-there own_is
  right more o =
      let e = environment rs t in
      let held = accepted-named s d rs t a in
      let named = all-in-scope s d rs t a n x c (request_context_rows rs t) [] (sym (append-nil (request_context_rows rs t))) in
      let w = site s d rs t a n x c in
      let low = stands_after s d rs t a n x c in
      boolean-right d pt (parameter_count t.messages) s e (spans_of outer ++ (spans_of own ++ more))
      (accepted-beside s d rs t a scales pt after parameter_rows) held x.boolean x.scope x.place w.rest w.shallow w.stands w.allowed
      (scope-named e held x.scope named)
      (scoped-there d rs a.house rows x.scope (spans_of own) more x.place (x.place + boolean_size x.boolean) named o (omega (arith, low)))

  pub few-rows : length x.scope.contexts + length own ≤ max_contexts
  few-rows =
      let i = asked-roomy rs t n x a.allowed c in
      let j = few-bindings d x.boolean x.place in
      omega (arith, i, j)

  -- the numbers of the kinds of its sites
  abbrev pub kinds_there : List ℕ
  kinds_there = kinds_in sites-there

  pub kinds-are : Kinds kinds_there (sites (environment rs t) x.scope x.boolean x.place)
  kinds-are =
      kinds-right s d rs t a pt (parameter_count t.messages) (spans_of outer ++ (spans_of own ++ [])) sites-there (right [] tt)

  pub kinds-count : length (with_kinds own kinds_there) ≡ length own
  kinds-count = own-count s d rs t a pt (parameter_count t.messages) rows x.scope own sites-there own_is

  pub kinds-relations : relations_of d (with_kinds own kinds_there) ≡ relations_of d own
  kinds-relations = own-relations s d rs t a pt (parameter_count t.messages) rows x.scope own sites-there own_is

  pub table-noted :
      kinds_noted d pt (parameter_count t.messages) s (rows_in (laid_after outer own)) 0 (laid_after outer own) ≡
      laid_after outer (with_kinds own kinds_there)
  table-noted =
      laid-noted s d rs t a pt (parameter_count t.messages) rows x.scope own sites-there own_is right (zeros binding_numbers) (nothing binding_numbers)
      (room d x.scope rows (length own) few-rows)

-- ---- a from-value

module _ (s d : List ℕ) (rs : List Relation) (t : Request) (a : Accepted s d rs t) (k : ℕ) (x : FromValue) (c : AskedValue rs t k x)
    (scales : ScaleBytes t.messages) (pt after : List ℕ) (parameter_rows : pt ≡ parameter_rows t.messages ++ after) (rows : List ℕ) where
  abbrev outer-value : List Binding
  outer-value = contexts_there d x.scope rows

  abbrev own_value_lem : List Binding
  own_value_lem = value_bindings d x.value x.place

  abbrev sites-value : List Site
  sites-value = value_sites (environment rs t) x.scope x.value x.place

  own-value-is : own_value_lem ≡ map (row_of d) sites-value
  own-value-is = value-rows d (environment rs t) x.value x.scope x.place

  right-value : AllRight s d rs t a pt (parameter_count t.messages) rows x.scope own_value_lem sites-value own-value-is
  right-value more o =
      let e = environment rs t in
      let held = accepted-named s d rs t a in
      let named = value-all-in-scope s d rs t a k x c (request_context_rows rs t) [] (sym (append-nil (request_context_rows rs t))) in
      let w = value-site s d rs t a k x c in
      let low = value-stands-after s d rs t a k x c in
      value-right d pt (parameter_count t.messages) s e (spans_of outer-value ++ (spans_of own_value_lem ++ more))
      (accepted-beside s d rs t a scales pt after parameter_rows) held x.value x.scope x.place w.rest w.shallow w.stands w.allowed
      (scope-named e held x.scope named)
      (scoped-there d rs a.house rows x.scope (spans_of own_value_lem) more x.place (x.place + size x.value) named o (omega (arith, low)))

  pub few-value-rows : length x.scope.contexts + length own_value_lem ≤ max_contexts
  few-value-rows =
      let i = asked-value-roomy rs t k x a.allowed c in
      let j = few-values d x.value x.place in
      omega (arith, i, j)

  -- the numbers of the kinds of its sites
  abbrev pub value_kinds_there : List ℕ
  value_kinds_there = kinds_in sites-value

  pub value-kinds-are : Kinds value_kinds_there (value_sites (environment rs t) x.scope x.value x.place)
  value-kinds-are =
      kinds-right s d rs t a pt (parameter_count t.messages) (spans_of outer-value ++ (spans_of own_value_lem ++ [])) sites-value (right-value [] tt)

  pub value-kinds-count : length (with_kinds own_value_lem value_kinds_there) ≡ length own_value_lem
  value-kinds-count = own-count s d rs t a pt (parameter_count t.messages) rows x.scope own_value_lem sites-value own-value-is

  pub value-kinds-relations : relations_of d (with_kinds own_value_lem value_kinds_there) ≡ relations_of d own_value_lem
  value-kinds-relations = own-relations s d rs t a pt (parameter_count t.messages) rows x.scope own_value_lem sites-value own-value-is

  pub value-table-noted :
      kinds_noted d pt (parameter_count t.messages) s (rows_in (laid_after outer-value own_value_lem)) 0 (laid_after outer-value own_value_lem) ≡
      laid_after outer-value (with_kinds own_value_lem value_kinds_there)
  value-table-noted =
      laid-noted s d rs t a pt (parameter_count t.messages) rows x.scope own_value_lem sites-value own-value-is right-value (zeros binding_numbers) (nothing binding_numbers)
      (room d x.scope rows (length own_value_lem) few-value-rows)
