-- Once the records are as due: the rows are laid and the runs are checked, each answer is what the definition gives, and both fit.
use Prim.Native.Nat.{ℕ, zero, suc, ◌+◌, ◌*◌, ◌-◌, ◌≤◌, ◌<◌, min}
use mathlib.Core.Path.{◌≡◌, refl, sym, ap, ap₂, ◌∙◌}
use mathlib.Core.Bool.{Bool, true, false, cond}
use mathlib.Core.List.{List, [], ◌∷◌}
use native.Mathlib.Omega.{arith}
use lib.Dec.{ltb}
use lib.ListN.{length, get_or, take, replicate, length-take}
use lib.Seq.{sets}
use borrow.Author.Tests.{lt-ltb}
use mir.Syntax.{w8}
use mir.Val.{Fits as Fits-width}
use Rattle.std.specs.Prelude.{Result, Ok, Err}
use Rattle.wire.specs.Options.{refused_at}
use Rattle.wire.specs.Limits.{max_contexts, max_parameters}
use Rattle.wire.specs.Words.{word_at}
use Rattle.dictionary.specs.Dictionary.{Relation}
use Rattle.records.specs.Record.{Run, as_due, wrong_at, next_record}
use Rattle.records.specs.Runs.{proper_run, runs as runs_from}
use Rattle.records.specs.Internal.Answers.{run_answer}
use Rattle.grammar.specs.declared.Refusal.TheVariants.{BadRuns}
use Rattle.grammar.specs.Demands.{Octets}
use Rattle.grammar.proofs.StepLaws.{absurd-eq}
use Rattle.meaning.specs.Evaluation.{answered}
use Rattle.surroundings.specs.Slots.{Slot}
use Rattle.surroundings.specs.Bindings.{binding_row_numbers, binding_rows, bound_contexts, rows_in}
use Rattle.surroundings.specs.Tables.{slots_in}
use Rattle.runs.specs.Steps.{State, found}
use Rattle.runs.specs.Filled.{row_relations, filled, Checked}
use Rattle.runs.proofs.FilledLaws.{as-due}
use Rattle.kinds.specs.KindAt.{kinds_noted}
use Rattle.evaluator.specs.Slices.{binding_numbers, Fits}
use Rattle.evaluator.specs.Bound.{Bound, context_table, scanned, rows_bound, kind_table, run_rows, runs_checked, table_bound, RowsLaid}

pub was-wrong : (x : Run) (p : ℕ) → Err p ≡ run_answer x → x ≡ wrong_at p
was-wrong as_due p e = absurd-eq (cc)
was-wrong (wrong_at q) p e = cc

-- what the check tells of a slice of bytes
pub octets : (s : List ℕ) → ((i : ℕ) → Fits-width w8 (get_or s i 0)) → Octets s
octets s h p = omega (arith, h p)

-- runs as due have at most 65,535 bytes each
module _ (s : List ℕ) (o : Octets s) where
  none_over : (p : ℕ) (b : Bool) → ltb p (length s) ≡ b → cond b (wrong_at p) as_due ≡ as_due → length s ≤ p
  none_over p true i e = absurd-eq (cc)
  none_over p false i e =
      let n : p < length s → ⊥ = λ h. let z = lt-ltb p (length s) h in absurd-eq (cc) in
      omega (arith, n)

  runs-long : (rs : List Relation) (p : ℕ) → runs_from rs s p ≡ as_due → length s ≤ p + 65535 * length rs
  unfolding runs_from
  runs-long [] p e = let i = none_over p (ltb p (length s)) refl e in omega arith
  runs-long (r ∷ rs) p e = by (proper_run r s p) e (λ i. runs-long rs (p + word_at s p) i)
    where
      by : (b : Bool) → next_record b p (runs_from rs s (p + word_at s p)) ≡ as_due →
          (runs_from rs s (p + word_at s p) ≡ as_due → length s ≤ p + word_at s p + 65535 * length rs) → length s ≤ p + 65535 * suc (length rs)
      by true e rest = let i = rest e in omega (arith, i, o p, o (p + 1))
      by false e rest = absurd-eq (cc)

relations-count : (d t : List ℕ) (n row : ℕ) → length (row_relations d t n row) ≡ n
unfolding row_relations
relations-count d t zero row = refl
relations-count d t (suc n) row = ap suc (relations-count d t n (row + 1))

module _ (b : Bound) where
  abbrev from : ℕ
  from = length b.numbers

  -- the table and the runs fit, where there is room for the rows
  pub bound-fits : rows_bound b ≤ max_contexts → Octets b.runs → runs_checked b ≡ as_due → Fits (table_bound b) b.runs
  unfolding runs_checked table_bound
  bound-fits room o e =
      let n = relations-count b.dictionary (kind_table b) (run_rows b) from in
      let l = runs-long b.runs o (row_relations b.dictionary (kind_table b) (run_rows b) from) 0 e in
      let k = length-take (rows_bound b * binding_row_numbers) (filled b.dictionary b.runs (run_rows b) from 0 (kind_table b)) in
      (omega (arith, room, k), omega (arith, n, l, room))

  abbrev found_in : List ℕ → State
  found_in t = found b.dictionary b.request b.place from t

  abbrev noted_in : List ℕ → List ℕ
  noted_in t = kinds_noted b.dictionary b.parameters (min b.count max_parameters) b.request (rows_in t) 0 t

  abbrev slots-in : List Slot
  slots-in = slots_in b.numbers b.relations (min from max_contexts) 0

  -- the tables of the code, one after another: zeros, with the contexts in scope, with the rows that were found, with their kinds, and checked
  module _ {t₀ t₁ t₂ t₃ t₄ : List ℕ} {rows : ℕ} {r : Result (Unit {0}) ℕ} (zeros : t₀ ≡ replicate binding_numbers 0)
      (laid : t₁ ≡ sets t₀ 0 (binding_rows (bound_contexts slots-in b.records 0))) (rows-found : rows ≡ (found_in t₁).scan.rows)
      (table-found : t₂ ≡ (found_in t₁).table) (noted : t₃ ≡ noted_in t₂)
      (checked : Checked b.dictionary b.runs (min rows max_contexts - from) from t₃ t₄ r) where
    contexts-laid : t₁ ≡ context_table b
    contexts-laid = laid ∙ ap (λ t. sets t 0 (binding_rows (bound_contexts slots-in b.records 0))) zeros

    rows_same : rows ≡ rows_bound b
    unfolding scanned
    rows_same = rows-found ∙ ap (λ t. (found_in t).scan.rows) contexts-laid

    kinds-same : t₃ ≡ kind_table b
    unfolding scanned kind_table
    kinds-same = noted ∙ ap noted_in (table-found ∙ ap (λ t. (found_in t).table) contexts-laid)

    answer-same : r ≡ run_answer (runs_checked b)
    unfolding runs_checked
    answer-same =
        checked.answer
        ∙ ap₂ (λ n t. run_answer (runs_from (row_relations b.dictionary t (min n max_contexts - from) from) b.runs 0)) rows_same kinds-same

    table_same : take (rows_bound b * binding_row_numbers) t₄ ≡ table_bound b
    unfolding table_bound
    table_same =
        ap (take (rows_bound b * binding_row_numbers)) (checked.table_filled
        ∙ ap₂ (λ n t. filled b.dictionary b.runs (min n max_contexts - from) from 0 t) rows_same kinds-same)

    pub rows-laid : r ≡ Ok tt → RowsLaid b t₄ (Ok rows)
    rows-laid e =
        record {
          rows_are = rw (as-due (runs_checked b) (sym e ∙ answer-same)) (ap answered rows_same);
          table_is = table_same;
        }

    -- 26
    pub wrong-runs : (p : ℕ) → r ≡ Err p → RowsLaid b t₄ (Err (refused_at BadRuns p))
    wrong-runs p e = record { rows_are = rw (was-wrong (runs_checked b) p (sym e ∙ answer-same)); table_is = table_same }
