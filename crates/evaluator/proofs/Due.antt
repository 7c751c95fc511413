-- Messages, records and runs as due, or not: 21, 22 and 26 are the same whatever comes after them.
use Prim.Native.Nat.{ℕ}
use mathlib.Core.Path.{◌≡◌, refl}
use mathlib.Core.Bool.{Bool, true, false}
use mathlib.Core.List.{List}
use lib.Dec.{eqb}
use lib.ListN.{length}
use Rattle.wire.specs.Lists.{sum_of}
use Rattle.records.specs.Record.{Run, as_due, wrong_at, records}
use Rattle.records.specs.Runs.{runs as runs_from}
use Rattle.grammar.specs.declared.Refusal.{Refusal}
use Rattle.grammar.specs.Tree.{Message}
use Rattle.grammar.specs.Environment.{Scope}
use Rattle.grammar.specs.Sizes.{message_size}
use Rattle.grammar.proofs.StepLaws.{absurd-eq}
use Rattle.meaning.specs.Runs.{DueRun, run_relations}
use Rattle.meaning.specs.Evaluation.{Outcome, answered, refusal, due_relations, after_records, after_runs, after_messages, on_inputs}

-- they are as due
pub record InputsDue (sc : Scope) (due : List DueRun) (ms : List Message) (images rows runs : List ℕ) : Type 0 where
  pub exact : eqb (length images) (sum_of message_size ms) ≡ true
  pub records-due : records (due_relations sc.contexts) rows 0 ≡ as_due
  pub runs-due : runs_from (run_relations due) runs 0 ≡ as_due

all-due : {A : Type 0} (b : Bool) (x y : Run) (l : ℕ) (n k : A) →
    after_messages b l (after_records x (after_runs y (answered n))) ≡ answered k → (n ≡ k) × (b ≡ true) × (x ≡ as_due) × (y ≡ as_due)
all-due true as_due as_due l n k e = (cc, refl, refl, refl)
all-due true as_due (wrong_at p) l n k e = absurd-eq (cc)
all-due true (wrong_at p) y l n k e = absurd-eq (cc)
all-due false x y l n k e = absurd-eq (cc)

one-not : {A B : Type 0} (b : Bool) (x y : Run) (l : ℕ) (n : A) (r : Refusal) (p : ℕ) (rest : Outcome B) →
    after_messages b l (after_records x (after_runs y (answered n))) ≡ refusal r p →
    refusal r p ≡ after_messages b l (after_records x (after_runs y rest))
one-not true as_due as_due l n r p rest e = absurd-eq (cc)
one-not true as_due (wrong_at q) l n r p rest e = cc
one-not true (wrong_at q) y l n r p rest e = cc
one-not false x y l n r p rest e = cc

module _ (sc : Scope) (due : List DueRun) (ms : List Message) (images rows runs : List ℕ) where
  pub inputs-due : (n k : ℕ) → on_inputs sc due ms images rows runs (answered n) ≡ answered k →
      (n ≡ k) × InputsDue sc due ms images rows runs
  inputs-due n k e =
      let h = all-due (eqb (length images) (sum_of message_size ms)) (records (due_relations sc.contexts) rows 0)
      (runs_from (run_relations due) runs 0) (length images) n k e in
      (h.0, record { exact = h.1; records-due = h.2; runs-due = h.3 })

  pub inputs-pass : {A : Type 0} (rest : Outcome A) → InputsDue sc due ms images rows runs → on_inputs sc due ms images rows runs rest ≡ rest
  inputs-pass rest h = rw (h.exact, h.records-due, h.runs-due)

  pub inputs-refused : {A : Type 0} (n : ℕ) (r : Refusal) (p : ℕ) (rest : Outcome A) →
      on_inputs sc due ms images rows runs (answered n) ≡ refusal r p → refusal r p ≡ on_inputs sc due ms images rows runs rest
  inputs-refused n r p rest e =
      one-not (eqb (length images) (sum_of message_size ms)) (records (due_relations sc.contexts) rows 0)
      (runs_from (run_relations due) runs 0) (length images) n r p rest e
