-- A part of a request that was read, a condition or a from-value: what is prepared for the walk over it is what is due.
use Prim.Native.Nat.{ℕ, ◌+◌, ◌-◌, ◌*◌, ◌/◌, ◌≤◌, min}
use mathlib.Core.Path.{◌≡◌, sym, ap, ap₂, ◌∙◌}
use mathlib.Core.List.{List, [], ◌++◌, map, append-nil}
use native.Mathlib.Omega.{arith}
use lib.Dec.{eqb}
use lib.ListN.{length, take, replicate, length-append, length-map, length-take}
use lib.Seq.{sets, length-sets, length-take-le, take_at}
use Rattle.std.specs.Prelude.{Ok, Err}
use Rattle.wire.specs.Limits.{max_contexts, max_parameters}
use Rattle.wire.specs.declared.refused.Refused.{Refused}
use Rattle.wire.specs.Lists.{sum_of}
use Rattle.dictionary.specs.Internal.Walk.{relation_at}
use Rattle.records.specs.Record.{as_due, records}
use Rattle.records.specs.Runs.{runs as runs_from}
use Rattle.grammar.specs.declared.Refusal.{Refusal}
use Rattle.grammar.specs.Demands.{Octets}
use Rattle.grammar.specs.Environment.{Scope}
use Rattle.grammar.specs.Sizes.{message_size, parameter_count, contexts_count}
use Rattle.grammar.specs.Rows.{parameter_rows}
use Rattle.grammar.proofs.RowCounts.{parameter_rows_lem}
use Rattle.meaning.specs.Runs.{DueRun, run_relations}
use Rattle.meaning.specs.Evaluation.{Outcome, answered, refusal, due_relations, after_records, after_runs, after_messages, on_inputs}
use Rattle.surroundings.specs.Slots.{Slot, slots_from, relations_in}
use Rattle.surroundings.specs.Parameters.{held_from}
use Rattle.surroundings.specs.Bindings.{Binding, binding_row_numbers, binding_rows, bound_contexts, bound_sight, rows_in}
use Rattle.surroundings.specs.Tables.{numbers_in}
use Rattle.surroundings.proofs.Parameters.{image-bytes}
use Rattle.surroundings.proofs.BindingRows.{contexts-count}
use Rattle.surroundings.proofs.Slots.{slot_for}
use Rattle.surroundings.proofs.Counts.{every-parameter, every-context}
use Rattle.runs.specs.Steps.{found}
use Rattle.runs.specs.Filled.{row_relations, relations_of, filled, filled_bindings}
use Rattle.runs.proofs.Leads.{seen}
use Rattle.runs.proofs.FilledLaws.{laid-relations, laid_filled}
use Rattle.kinds.specs.KindAt.{kinds_noted}
use Rattle.sights.specs.Seen.{with_kinds}
use Rattle.evaluator.specs.Slices.{binding_numbers, slices, sight_of, Fits}
use Rattle.evaluator.specs.AfterReading.{ReadSo}
use Rattle.evaluator.specs.Bound.{Bound, Prepared, bound, context_table, scanned, rows_bound, kind_table, runs_checked, table_bound, prepared_in}
use Rattle.evaluator.specs.Prepared.{Given, given, scope_slots, bound_by, records_checked, prepared_by, Prepares}
use Rattle.evaluator.proofs.Slots.{slots-own}
use Rattle.evaluator.proofs.BoundLaws.{bound-fits}
use Rattle.evaluator.proofs.KindsNoted.{contexts_there, laid_after}
use Rattle.evaluator.proofs.Due.{InputsDue, inputs-due, inputs-refused}

-- ---- what is asked for

-- where it stands and ends, the scope there, the runs due for it, and the rows of its any, unique and statistic codes, whose numbers have
-- these kinds
pub record Part {s d pa ct : List ℕ} {m o : ℕ} (w : ReadSo s d pa ct m o) (rows : List ℕ) : Type 0 where
  pub place : ℕ
  pub end : ℕ
  pub scope : Scope
  pub due : List DueRun
  pub own : List Binding
  pub kinds : List ℕ
  pub slots-are : slots_from d ct place (contexts_count w.request.statements) 0 ≡ map (slot_for d) scope.contexts
  pub records_are :
      records (map (relation_at d) (relations_in (slots_from d ct place (contexts_count w.request.statements) 0))) rows 0 ≡
      records (due_relations scope.contexts) rows 0
  pub few : length scope.contexts + length own ≤ max_contexts
  pub found-are : (t : List ℕ) → binding_numbers ≤ length t →
      found d s place (length scope.contexts) t ≡
      seen end 0 (length scope.contexts + length own) max_contexts
      (sets t (length scope.contexts * binding_row_numbers) (binding_rows own))
  pub relations-are : relations_of d own ≡ run_relations due
  pub kinds-count : length (with_kinds own kinds) ≡ length own
  pub kinds-relations : relations_of d (with_kinds own kinds) ≡ relations_of d own
  pub noted :
      kinds_noted d pa (parameter_count w.request.messages) s (rows_in (laid_after (contexts_there d scope rows) own)) 0
      (laid_after (contexts_there d scope rows) own) ≡
      laid_after (contexts_there d scope rows) (with_kinds own kinds)

-- ---- the parameters of the request

module _ {s d pa ct : List ℕ} {m o : ℕ} (w : ReadSo s d pa ct m o) where
  parameters-here : min m max_parameters ≡ parameter_count w.request.messages
  parameters-here =
      ap (λ z. min z max_parameters) w.parameters_are ∙ every-parameter w.relations w.request w.accepted.allowed

  contexts-here : min o max_contexts ≡ contexts_count w.request.statements
  contexts-here = ap (λ z. min z max_contexts) w.contexts_are ∙ every-context w.relations w.request w.accepted.allowed

  -- the bytes that the rows hold are those of the messages
  held-are : held_from pa (min m max_parameters) 0 ≡ sum_of message_size w.request.messages
  held-are =
      ap (λ z. held_from pa z 0) parameters-here
      ∙ image-bytes w.request.messages pa w.more_parameters w.parameter_rows

  -- the rows that are handed on
  rows_long : length (parameter_rows w.request.messages) ≡ m * 6
  rows_long = omega (arith, parameter_rows_lem w.request.messages, w.parameters_are)

  pub rows_fit : m * 6 ≤ length pa
  rows_fit =
      omega (arith, rows_long, ap length w.parameter_rows, length-append (parameter_rows w.request.messages) w.more_parameters)

  pub table-cut : take (m * 6) pa ≡ parameter_rows w.request.messages ++ []
  table-cut =
      ap (take (m * 6)) w.parameter_rows ∙ take_at (parameter_rows w.request.messages) w.more_parameters (m * 6) rows_long
      ∙ sym (append-nil (parameter_rows w.request.messages))

  -- what is seen with them
  pub sight-same : (t images rows runs : List ℕ) →
      sight_of (slices s d t (take (m * 6) pa) images rows runs) ≡
      bound_sight d (take (m * 6) pa) (parameter_count w.request.messages) images rows runs
  unfolding sight_of
  sight-same t images rows runs =
      let b : length (take (m * 6) pa) ≡ m * 6 = length-take-le (m * 6) pa rows_fit in
      let c : min (length (take (m * 6) pa) / 6) 256 ≡ parameter_count w.request.messages =
      omega (arith, b, w.parameters_are, w.accepted.allowed.sized.parameters) in
      ap (λ k. bound_sight d (take (m * 6) pa) k images rows runs) c

-- ---- what is prepared

module _ {s d pa ct : List ℕ} {m o : ℕ} {w : ReadSo s d pa ct m o} (images : List ℕ) {rows : List ℕ} (runs : List ℕ)
    (p : Part w rows) where
  abbrev pub given_for : Given
  given_for = given s d pa ct m o images rows runs p.place

  abbrev slots : List Slot
  slots = map (slot_for d) p.scope.contexts

  slots-here : scope_slots given_for ≡ slots
  slots-here = ap (λ q. slots_from d ct p.place q 0) (contexts-here w) ∙ p.slots-are

  abbrev bound-for : Bound
  bound-for = bound s d (numbers_in slots) (relations_in slots) pa m rows runs p.place

  bound-is : bound_by given_for ≡ bound-for
  bound-is = ap (λ xs. bound s d (numbers_in xs) (relations_in xs) pa m rows runs p.place) slots-here

  abbrev outer : List Binding
  outer = contexts_there d p.scope rows

  abbrev inner : List Binding
  inner = with_kinds p.own p.kinds

  abbrev zeros : List ℕ
  zeros = replicate binding_numbers 0

  abbrev all-rows : ℕ
  all-rows = length outer + length p.own

  outer-long : length outer ≡ length p.scope.contexts
  outer-long = contexts-count slots rows 0 ∙ length-map p.scope.contexts (slot_for d)

  numbers-long : length (numbers_in slots) ≡ length outer
  numbers-long = length-map slots (λ x. x.number) ∙ sym (contexts-count slots rows 0)

  few-all : all-rows ≤ max_contexts
  few-all = omega (arith, outer-long, p.few)

  count-all : all-rows ≡ length outer + length inner
  count-all = ap (λ k. length outer + k) (sym p.kinds-count)

  room-all : all-rows * 10 ≤ length zeros
  room-all = omega (arith, few-all)

  few-slots : length slots ≤ 32
  few-slots = omega (arith, length-map p.scope.contexts (slot_for d), p.few)

  contexts-laid : context_table bound-for ≡ sets zeros 0 (binding_rows outer)
  contexts-laid = ap (λ xs. sets zeros 0 (binding_rows (bound_contexts xs rows 0))) (slots-own slots few-slots)

  scan-is : scanned bound-for ≡ seen p.end 0 all-rows max_contexts (laid_after outer p.own)
  unfolding scanned
  scan-is =
      ap₂ (found d s p.place) (numbers-long ∙ outer-long) contexts-laid
      ∙ p.found-are (sets zeros 0 (binding_rows outer)) (omega (arith, length-sets zeros 0 (binding_rows outer)))
      ∙ ap (λ (n : ℕ). seen p.end 0 (n + length p.own) max_contexts
      (sets (sets zeros 0 (binding_rows outer)) (n * binding_row_numbers) (binding_rows p.own))) (sym outer-long)

  rows-found : rows_bound bound-for ≡ all-rows
  rows-found = ap (λ q. q.scan.rows) scan-is

  kinds-in : kind_table bound-for ≡ laid_after outer inner
  unfolding kind_table
  kinds-in = (λ i. kinds_noted d pa (parameters-here w i) s (rows_in (scan-is i).table) 0 (scan-is i).table) ∙ p.noted

  relations-due : relations_of d inner ≡ run_relations p.due
  relations-due = p.kinds-relations ∙ p.relations-are

  runs_same : runs_checked bound-for ≡ runs_from (run_relations p.due) runs 0
  unfolding runs_checked
  runs_same =
      (λ i. runs_from (row_relations d (kinds-in i) (min (scan-is i).scan.rows max_contexts - numbers-long i) (numbers-long i)) runs 0)
      ∙ ap (λ rs. runs_from rs runs 0) (laid-relations d zeros outer inner all-rows count-all few-all room-all ∙ relations-due)

  table-whole : runs_from (run_relations p.due) runs 0 ≡ as_due →
      table_bound bound-for ≡ binding_rows (outer ++ filled_bindings d runs 0 inner)
  unfolding table_bound
  table-whole e =
      (λ i. take ((scan-is i).scan.rows * binding_row_numbers)
      (filled d runs (min (scan-is i).scan.rows max_contexts - numbers-long i) (numbers-long i) 0 (kinds-in i)))
      ∙ laid_filled d zeros outer inner all-rows count-all few-all room-all runs (ap (λ rs. runs_from rs runs 0) relations-due ∙ e)

  records-same : records_checked given_for ≡ records (due_relations p.scope.contexts) rows 0
  records-same =
      ap (λ q. records (map (relation_at d) (relations_in (slots_from d ct p.place q 0))) rows 0) (contexts-here w) ∙ p.records_are

  prepared-is : prepared_by given_for ≡ on_inputs p.scope p.due w.request.messages images rows runs (answered all-rows)
  prepared-is =
      let a : runs_checked (bound_by given_for) ≡ runs_from (run_relations p.due) runs 0 = ap runs_checked bound-is ∙ runs_same in
      let b : rows_bound (bound_by given_for) ≡ all-rows = ap rows_bound bound-is ∙ rows-found in
      λ i. after_messages (eqb (length images) (held-are w i)) (length images)
      (after_records (records-same i) (after_runs (a i) (answered (b i))))

  -- messages, records and runs are as due for n rows, which the table holds
  pub record Stands (t : List ℕ) (n : ℕ) : Type 0 where
    pub inputs : InputsDue p.scope p.due w.request.messages images rows runs
    pub few-rows : n ≤ max_contexts
    pub table_is : take (n * binding_row_numbers) t ≡ binding_rows (outer ++ filled_bindings d runs 0 inner)

  module _ {t : List ℕ} {r : Prepared} (h : Prepares given_for t r) where
    -- 21, 22, 26
    pub refused-so : {A : Type 0} (x : Refused Refusal) → r ≡ Err x → (rest : Outcome A) →
        refusal x.refusal x.place ≡ on_inputs p.scope p.due w.request.messages images rows runs rest
    refused-so x e rest =
        inputs-refused p.scope p.due w.request.messages images rows runs all-rows x.refusal x.place rest
        (sym prepared-is ∙ sym h.answered_so ∙ ap prepared_in e)

    pub stands-so : (n : ℕ) → r ≡ Ok n → Stands t n
    stands-so n e =
        let f : prepared_in r ≡ answered n = ap prepared_in e in
        let told = sym prepared-is ∙ sym h.answered_so ∙ f in
        let i = inputs-due p.scope p.due w.request.messages images rows runs all-rows n told in
        record {
          inputs = i.1;
          few-rows = omega (arith, i.0, few-all);
          table_is = h.table_is n f ∙ ap table_bound bound-is ∙ table-whole i.1.runs-due;
        }

  -- the table and the runs are not too long for the walk
  pub fits-so : (t : List ℕ) (n : ℕ) → Stands t n → Octets runs → Fits (take (n * binding_row_numbers) t) runs
  fits-so t n h o =
      let a = length-take (n * binding_row_numbers) t in
      let b = bound-fits bound-for (omega (arith, rows-found, few-all)) o (runs_same ∙ h.inputs.runs-due) in
      (omega (arith, a, h.few-rows), b.1)
