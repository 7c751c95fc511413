-- A law for each way through a turn of the loop over the context rows, and for each answer of the functions that it calls.
use Prim.Native.Nat.{ℕ, suc, ◌+◌, ◌-◌, ◌<◌, ◌≤◌}
use mathlib.Core.Path.{◌≡◌, refl, ◌∙◌}
use mathlib.Core.Bool.{true, false}
use mathlib.Core.List.{List, ◌∷◌}
use native.Mathlib.Omega.{arith}
use lib.ListN.{length, set, length-set}
use lib.Seq.{sets}
use Rattle.std.specs.Prelude.{Some}
use Rattle.wire.specs.Options.{option_of}
use Rattle.dictionary.specs.Naming.{Name}
use Rattle.dictionary.specs.Internal.Walk.{relation_place}
use Rattle.dictionary.proofs.Bounds.{found_below}
use Rattle.surroundings.proofs.BindingLoops.{bound_some}
use Rattle.surroundings.specs.Slots.{Slot, cell, row_holds, slot_of, slots_from, relations_in}
use Rattle.surroundings.specs.Tables.{numbers_in, Laid}

-- ---- contexts in scope

-- how far the tables are filled: what is still to come, laid from here on, gives what all of it gives from the start
pub record Filling (d t : List ℕ) (q count : ℕ) (numbers₀ relations₀ numbers relations : List ℕ) (row filled : ℕ) : Type 0 where
  pub few : filled ≤ row
  pub within : row ≤ count
  pub counted : filled + length (slots_from d t q (count - row) row) ≡ length (slots_from d t q count 0)
  pub numbers-same :
      sets numbers filled (numbers_in (slots_from d t q (count - row) row)) ≡ sets numbers₀ 0 (numbers_in (slots_from d t q count 0))
  pub relations-same :
      sets relations filled (relations_in (slots_from d t q (count - row) row)) ≡ sets relations₀ 0 (relations_in (slots_from d t q count 0))
  pub numbers-long : length numbers ≡ length numbers₀
  pub relations-long : length relations ≡ length relations₀

module _ (d t : List ℕ) (q count : ℕ) (numbers₀ relations₀ : List ℕ) where
  pub fill_start : Filling d t q count numbers₀ relations₀ numbers₀ relations₀ 0 0
  fill_start =
      let z : 0 + length (slots_from d t q count 0) ≡ length (slots_from d t q count 0) = omega arith in
      let k : count - 0 ≡ count = omega arith in
      record {
        few = omega arith;
        within = omega arith;
        counted = rw k z;
        numbers-same = rw k;
        relations-same = rw k;
        numbers-long = refl;
        relations-long = refl;
      }

  module _ (numbers relations : List ℕ) (row filled : ℕ) (f : Filling d t q count numbers₀ relations₀ numbers relations row filled) where
    pub fill_end : count ≤ row → Laid (slots_from d t q count 0) numbers₀ relations₀ numbers relations filled
    unfolding slots_from
    fill_end h =
        let k : count - row ≡ 0 = omega arith in
        let c = rw k at f.counted in
        record {
          counted = omega (arith, c);
          numbers_filled = rw k at f.numbers-same;
          relations_filled = rw k at f.relations-same;
        }

    module _ (less : row < count) where
      more : count - row ≡ suc (count - (row + 1))
      more = omega arith

      -- a row whose scope does not hold the place
      pub fill-skip : row_holds t q row ≡ false → Filling d t q count numbers₀ relations₀ numbers relations (row + 1) filled
      unfolding slots_from
      fill-skip e =
          let w : slots_from d t q (count - row) row ≡ slots_from d t q (count - (row + 1)) (row + 1) = rw (more, slots_from, e) in
          let a = f.few in
          record {
            few = omega (arith, a);
            within = omega arith;
            counted = rw w at f.counted;
            numbers-same = rw w at f.numbers-same;
            relations-same = rw w at f.relations-same;
            numbers-long = f.numbers-long;
            relations-long = f.relations-long;
          }

      -- a row whose scope holds it
      pub fill-put : row_holds t q row ≡ true → (number relation : ℕ) → number ≡ cell t row 0 →
          relation ≡ (slot_of d 0 (cell t row 4)).relation →
          Filling d t q count numbers₀ relations₀ (set numbers filled number) (set relations filled relation) (row + 1) (filled + 1)
      unfolding slots_from
      fill-put e number relation n r =
          let x : Slot = record { number = number; relation = relation } in
          let w : slots_from d t q (count - row) row ≡ x ∷ slots_from d t q (count - (row + 1)) (row + 1) =
          rw (more, slots_from, e, n, r) in
          let s : suc filled ≡ filled + 1 = omega arith in
          let a = f.few in
          let c = rw w at f.counted in
          record {
            few = omega (arith, a);
            within = omega arith;
            counted = omega (arith, c);
            numbers-same = rw (← s) (rw w at f.numbers-same);
            relations-same = rw (← s) (rw w at f.relations-same);
            numbers-long = length-set numbers filled number ∙ f.numbers-long;
            relations-long = length-set relations filled relation ∙ f.relations-long;
          }

-- ---- the place of a relation's entry

pub place_below : (d : List ℕ) (n : Name) (p : ℕ) → Some p ≡ option_of (relation_place d n) → p < 65535
place_below d n p e = found_below d n p (bound_some (relation_place d n) p e)
