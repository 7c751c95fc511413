-- The entries of an evaluation's input stand inside it, one after another.
use Prim.Native.Nat.{ℕ, ◌+◌, ◌≤◌}
use mathlib.Core.Path.{◌≡◌, refl, subst}
use mathlib.Core.Bool.{Bool, true, false, cond}
use mathlib.Core.List.{List}
use native.Mathlib.Omega.{arith}
use lib.Dec.{eqb, leb}
use lib.ListN.{length}
use borrow.Author.Tests.{leb-true, eqb-true}
use Rattle.input.specs.Input.{whole}
use Rattle.input.specs.Evaluation.{after_entries, whole_number, request_at, number_at, messages_at, records_at, runs_at, whole_input, evaluation_input}
use Rattle.std.specs.Prelude.{Some, None}
use Rattle.input.specs.declared.Entries.{Entries}
use Rattle.input.proofs.Inside.{both, whole-inside}
use Rattle.input.proofs.Runs.{after-grows}

pub record EntriesInside (s : List ℕ) (request number records runs : ℕ) : Type 0 where
  pub dictionary-before : 4 ≤ request
  pub request-before : request + 4 ≤ number
  pub number-before : number + 6 ≤ records
  pub records-before : records ≤ runs
  pub runs-inside : runs ≤ length s
  pub short : length s ≤ 3000000

whole-input-inside : (s : List ℕ) → whole_input s ≡ true → EntriesInside s (request_at s) (number_at s) (records_at s) (runs_at s)
unfolding whole_input records_at runs_at
whole-input-inside s h =
    let end = both _ (eqb (after_entries s (runs_at s) 7) (length s)) h in
    let third = both _ (whole_number s (number_at s)) end.0 in
    let second = both _ (whole s (request_at s) 5) third.0 in
    let first = both (leb (length s) 3000000) (whole s 0 4) second.0 in
    record {
      dictionary-before = (whole-inside s 0 4 first.1).0;
      request-before = omega (arith, (whole-inside s (request_at s) 5 second.1).0);
      number-before = after-grows s (messages_at s) 10;
      records-before = after-grows s (records_at s) 3;
      runs-inside = omega (arith, after-grows s (runs_at s) 7, eqb-true (after_entries s (runs_at s) 7) (length s) end.1);
      short = leb-true (length s) 3000000 first.0;
    }

pub evaluation-inside : (s : List ℕ) (x : Entries) → Some x ≡ evaluation_input s → EntriesInside s x.request x.number x.records x.runs
unfolding evaluation_input
evaluation-inside s x e = by (whole_input s) refl e
  where
    by : (b : Bool) → whole_input s ≡ b →
        Some x ≡ cond b (Some (record { request = request_at s; number = number_at s; records = records_at s; runs = runs_at s })) None → EntriesInside s x.request x.number x.records x.runs
    by true i h =
        let same : record { request = request_at s; number = number_at s; records = records_at s; runs = runs_at s } ≡ x = cc in
        subst (λ (x : Entries). EntriesInside s x.request x.number x.records x.runs) same (whole-input-inside s i)
    by false i h = let z : ◌≡◌ {A = ℕ} 0 1 = cc in absurd (omega arith)
