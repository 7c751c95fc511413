-- A law for each way through a turn of the loop over the rows whose runs are looked at.
use Prim.Native.Nat.{ℕ, zero, suc, ◌+◌, ◌*◌, ◌-◌, ◌<◌, ◌≤◌}
use mathlib.Core.Path.{◌≡◌, refl, sym, ap, ap₂, ◌∙◌}
use mathlib.Core.Bool.{Bool, true, false}
use mathlib.Core.List.{List, ◌∷◌}
use native.Mathlib.Omega.{arith}
use lib.ListN.{length, set, length-set}
use lib.Seq.{get_or-set_other}
use borrow.Author.Tests.{lt-ltb, le-ltb}
use Rattle.wire.specs.Words.{word_at}
use Rattle.dictionary.specs.Dictionary.{Relation}
use Rattle.dictionary.specs.Internal.Walk.{relation_at}
use Rattle.std.specs.Prelude.{Ok, Err}
use Rattle.records.specs.Runs.{records_held, proper_run, runs}
use Rattle.records.specs.Internal.Answers.{run_answer, held_within}
use Rattle.records.proofs.RunLaws.{run-count}
use Rattle.surroundings.specs.Bindings.{cell}
use Rattle.runs.specs.Filled.{row_relations, with_run, filled, Checked}

-- a row's run leaves the relations of all rows as they are
pub relations-kept : (d t : List ℕ) (row a b n j : ℕ) → row_relations d (with_run t row a b) n j ≡ row_relations d t n j
unfolding row_relations
relations-kept d t row a b zero j = refl
relations-kept d t row a b (suc n) j =
    let c : cell (with_run t row a b) j 2 ≡ cell t j 2 =
    get_or-set_other (set t (row * 10 + 6) a) (row * 10 + 7) (j * 10 + 2) b 0 (λ e. absurd (omega (arith, e)))
    ∙ get_or-set_other t (row * 10 + 6) (j * 10 + 2) a 0 (λ e. absurd (omega (arith, e))) in
    ap₂ (λ (q : ℕ) (rs : List Relation). relation_at d q ∷ rs) c (relations-kept d t row a b n (j + 1))

-- how far the rows are filled: the answer for the rest, and the table that it gives, are those for all
pub record Checking (d s : List ℕ) (rows from : ℕ) (t₀ t : List ℕ) (row p : ℕ) : Type 0 where
  pub answered : runs (row_relations d t₀ (rows - from) from) s 0 ≡ runs (row_relations d t (rows - row) row) s p
  pub filling : filled d s (rows - from) from 0 t₀ ≡ filled d s (rows - row) row p t
  pub near : p ≤ row * 65535
  pub long : length t ≡ length t₀

module _ (d s : List ℕ) (rows from : ℕ) (t₀ : List ℕ) where
  pub check-start : Checking d s rows from t₀ t₀ from 0
  check-start = record { answered = refl; filling = refl; near = omega arith; long = refl }

  module _ (t : List ℕ) (row p : ℕ) (f : Checking d s rows from t₀ t row p) where
    module _ (less : row < rows) (r : ℕ) (is : r ≡ cell t row 2) where
      more : rows - row ≡ suc (rows - (row + 1))
      more = omega arith

      -- a run that is not proper
      pub check-wrong : (b : Bool) → b ≡ proper_run (relation_at d r) s p → b ≡ false → Checked d s (rows - from) from t₀ t (Err p)
      unfolding row_relations runs filled
      check-wrong b u z =
          let e = sym u ∙ z in
          record {
            answer = rw (f.answered, more, row_relations, runs, ← is, e);
            table_filled = rw (f.filling, more, filled, ← is, e);
          }

      -- a proper run, of w bytes and m records
      pub check-next : (b : Bool) → b ≡ proper_run (relation_at d r) s p → b ≡ true → (w m : ℕ) → w ≡ word_at s p → w < 65536 →
          m ≡ held_within (relation_at d r) w → Checking d s rows from t₀ (with_run t row (p + 4) m) (row + 1) (p + w)
      unfolding row_relations runs filled
      check-next b u z w m i l g =
          let e = sym u ∙ z in
          let k : m ≡ records_held (relation_at d r) (word_at s p) =
          g ∙ ap (held_within (relation_at d r)) i ∙ run-count (relation_at d r) s p e in
          let kept = relations-kept d t row (p + 4) m (rows - (row + 1)) (row + 1) in
          let a = f.near in
          let long_as : length (with_run t row (p + 4) m) ≡ length t =
          length-set (set t (row * 10 + 6) (p + 4)) (row * 10 + 7) m ∙ length-set t (row * 10 + 6) (p + 4) in
          record {
            answered = rw (f.answered, more, row_relations, runs, ← is, e, kept, i);
            filling = rw (f.filling, more, filled, ← is, e, ← k, ← i);
            near = omega (arith, a, l);
            long = long_as ∙ f.long;
          }

    -- bytes after the last run
    pub check-more : rows ≤ row → p < length s → Checked d s (rows - from) from t₀ t (Err p)
    unfolding row_relations runs filled
    check-more h l =
        let z : rows - row ≡ 0 = omega arith in
        record { answer = rw (f.answered, z, lt-ltb p (length s) l); table_filled = rw (f.filling, z) }

    pub check-due : rows ≤ row → length s ≤ p → Checked d s (rows - from) from t₀ t (Ok tt)
    unfolding row_relations runs filled
    check-due h l =
        let z : rows - row ≡ 0 = omega arith in
        record { answer = rw (f.answered, z, le-ltb p (length s) l); table_filled = rw (f.filling, z) }
