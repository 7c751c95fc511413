-- Slots that were laid in two tables with room for them are read back.
use Prim.Native.Nat.{ℕ, zero, suc, ◌+◌, ◌≤◌, min}
use mathlib.Core.Path.{◌≡◌, refl, ap, ap₂, ◌∙◌}
use mathlib.Core.Bool.{Bool, true, false}
use mathlib.Core.List.{List, [], ◌∷◌}
use native.Mathlib.Omega.{arith}
use lib.ListN.{length, get_or, set, take, drop, length-set, length-map}
use lib.Seq.{sets, sets-eq, take_at, get_or-set_same}
use Rattle.surroundings.specs.Slots.{Slot, row_holds, slot_if, slots_from, relations_in}
use Rattle.surroundings.specs.Tables.{slots_in, numbers_in, Laid}
use Rattle.surroundings.proofs.Noted.{before-sets}

-- a number that was stored before others is still there
first-stored : (l vs : List ℕ) (k v : ℕ) → k + suc (length vs) ≤ length l → get_or (sets (set l k v) (suc k) vs) k 0 ≡ v
first-stored l vs k v h = before-sets vs (set l k v) (suc k) k (omega arith) ∙ get_or-set_same l k v 0 (omega arith)

back_from : (xs : List Slot) (numbers relations : List ℕ) (k : ℕ) → k + length xs ≤ length numbers → k + length xs ≤ length relations →
    slots_in (sets numbers k (numbers_in xs)) (sets relations k (relations_in xs)) (length xs) k ≡ xs
unfolding slots_in
back_from [] numbers relations k h g = refl
back_from (x ∷ xs) numbers relations k h g =
    let numbers' = set numbers k x.number in
    let relations' = set relations k x.relation in
    let a = first-stored numbers (numbers_in xs) k x.number (omega (arith, length-map xs (λ x. x.number))) in
    let b = first-stored relations (relations_in xs) k x.relation (omega (arith, length-map xs (λ x. x.relation))) in
    let e : k + 1 ≡ suc k = omega arith in
    let i = length-set numbers k x.number in
    let j = length-set relations k x.relation in
    let next = back_from xs numbers' relations' (suc k) (omega (arith, i)) (omega (arith, j)) in
    ap₂ (λ y l. y ∷ l) (λ p. record { number = a p; relation = b p })
    (ap (slots_in (sets numbers' (suc k) (numbers_in xs)) (sets relations' (suc k) (relations_in xs)) (length xs)) e ∙ next)

-- no more slots than rows
pub slots-few : (d t : List ℕ) (q n row : ℕ) → length (slots_from d t q n row) ≤ n
unfolding slots_from
slots-few d t q zero row = omega arith
slots-few d t q (suc n) row = by (row_holds t q row) _ (slots-few d t q n (row + 1))
  where
    by : (b : Bool) (x : Slot) → length (slots_from d t q n (row + 1)) ≤ n → length (slot_if b x (slots_from d t q n (row + 1))) ≤ suc n
    by true x h = omega arith
    by false x h = omega arith

module _ {xs : List Slot} {numbers relations numbers' relations' : List ℕ} {count : ℕ}
    (l : Laid xs numbers relations numbers' relations' count) (few : length xs ≤ 32) (h : length xs ≤ length numbers) (g : length xs ≤ length relations) where
  -- the slots that are looked at are all of them
  pub slots-back : slots_in numbers' relations' (min count 32) 0 ≡ xs
  slots-back =
      let c : min count 32 ≡ length xs = omega (arith, l.counted, few) in
      (λ i. slots_in (l.numbers_filled i) (l.relations_filled i) (c i) 0) ∙ back_from xs numbers relations 0 (omega arith) (omega arith)

  pub relations-back : take count relations' ≡ relations_in xs
  relations-back =
      let k : length (relations_in xs) ≡ length xs = length-map xs (λ x. x.relation) in
      let c = l.counted in
      ap (take count) (l.relations_filled ∙ sets-eq (relations_in xs) relations 0 (omega (arith, k)))
      ∙ take_at (relations_in xs) (drop (0 + length (relations_in xs)) relations) count (omega (arith, k, c))
