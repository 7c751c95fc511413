-- The rows of a table of bindings with a record in turn.
use Prim.Native.Nat.{ℕ, zero, suc, ◌+◌, ◌*◌, ◌/◌, ◌<◌, ◌≤◌}
use mathlib.Core.Path.{◌≡◌, refl, sym, ap, ap₂, ◌∙◌}
use mathlib.Core.Bool.{Bool, true, false, cond, ◌||◌, not}
use mathlib.Core.List.{List}
use mathlib.Core.Option.{Option, none, some}
use native.Mathlib.Omega.{arith}
use lib.Dec.{eqb}
use lib.ListN.{length, length-set}
use lib.Seq.{get_or-set_same, get_or-set_other}
use borrow.Author.Tests.{eq-eqb, eqb-true, eqb-false, ne_eqb}
use Rattle.dictionary.proofs.Tests.{both_left}
use Rattle.grammar.proofs.StepLaws.{absurd-eq}
use Rattle.surroundings.specs.Bindings.{binding_row_numbers, binding_code, binding_number, binding_record, cell, rows_in, binds_at, row_binding, row_coded, with_record}
use Rattle.sights.specs.Seen.{Kept}

-- ---- the row that is found

module _ (t : List ℕ) (p : ℕ) where
  -- a row that is found has the code, and is one of those looked at
  pub coded : (n i row : ℕ) → row_coded t p n i ≡ some row → (cell t row binding_code ≡ p) × (i ≤ row) × (row < i + n)
  unfolding row_coded
  coded zero i row e = absurd-eq (cc)
  coded (suc n) i row e = by (eqb (cell t i binding_code) p) refl e (coded n (i + 1) row)
    where
      by : (b : Bool) → eqb (cell t i binding_code) p ≡ b → cond b (some i) (row_coded t p n (i + 1)) ≡ some row →
          (row_coded t p n (i + 1) ≡ some row → (cell t row binding_code ≡ p) × (i + 1 ≤ row) × (row < i + 1 + n)) →
          (cell t row binding_code ≡ p) × (i ≤ row) × (row < i + suc n)
      by true f g next =
          let z : i ≡ row = cc in
          let h : cell t i binding_code ≡ p = eqb-true _ _ f in
          (ap (λ (j : ℕ). cell t j binding_code) (sym z) ∙ h, omega (arith, z), omega (arith, z))
      by false f g next =
          let h = next g in
          let a = h.1 in
          let b = h.2 in
          (h.0, omega (arith, a), omega (arith, b))

  -- a row that binds has the number
  pub binds : (n i row : ℕ) → row_binding t p n i ≡ some row → cell t row binding_number ≡ p
  unfolding row_binding
  binds zero i row e = absurd-eq (cc)
  binds (suc n) i row e = by (binds_at t p i) refl e (binds n (i + 1) row)
    where
      by : (b : Bool) → binds_at t p i ≡ b → cond b (some i) (row_binding t p n (i + 1)) ≡ some row →
          (row_binding t p n (i + 1) ≡ some row → cell t row binding_number ≡ p) → cell t row binding_number ≡ p
      by true f g next =
          let z : i ≡ row = cc in
          let h : cell t i binding_number ≡ p = eqb-true _ _ (both_left (eqb (cell t i binding_number) p) _ f) in
          ap (λ (j : ℕ). cell t j binding_number) (sym z) ∙ h
      by false f g next = next g

-- ---- a table but for the records in turn

module _ (u t : List ℕ) (k : Kept u t) where
  pub rows-kept : rows_in t ≡ rows_in u
  rows-kept = ap (λ (n : ℕ). n / binding_row_numbers) k.sized

  coded-from : (p n i : ℕ) → row_coded t p n i ≡ row_coded u p n i
  unfolding row_coded
  coded-from p zero i = refl
  coded-from p (suc n) i =
      ap₂ (λ (x : ℕ) (y : Option ℕ). cond (eqb x p) (some i) y) (k.cells i binding_code (omega arith) (λ e. absurd (omega (arith, e))))
      (coded-from p n (i + 1))

  pub coded_kept : (p : ℕ) → row_coded t p (rows_in t) 0 ≡ row_coded u p (rows_in u) 0
  coded_kept p = ap (λ n. row_coded t p n 0) rows-kept ∙ coded-from p (rows_in u) 0

-- ---- with a record in turn

module _ (t : List ℕ) (row place : ℕ) where
  abbrev turned : List ℕ
  turned = with_record t row place

  pub rows-turned : rows_in turned ≡ rows_in t
  rows-turned = ap (λ (n : ℕ). n / binding_row_numbers) (length-set t (row * binding_row_numbers + binding_record) place)

  pub other-column : (i k : ℕ) → k < binding_row_numbers → (k ≡ binding_record → ⊥) → cell turned i k ≡ cell t i k
  other-column i k h n =
      get_or-set_other t (row * binding_row_numbers + binding_record) (i * binding_row_numbers + k) place 0
      (λ e. n (let z : k ≡ 3 = omega (arith, e, h) in z))

  pub other_row : (i k : ℕ) → k < binding_row_numbers → (i ≡ row → ⊥) → cell turned i k ≡ cell t i k
  other_row i k h n =
      get_or-set_other t (row * binding_row_numbers + binding_record) (i * binding_row_numbers + k) place 0
      (λ e. n (let z : i ≡ row = omega (arith, e, h) in z))

  pub in-turn : row < rows_in t → cell turned row binding_record ≡ place
  in-turn h = get_or-set_same t (row * binding_row_numbers + binding_record) place 0 (let z : row * 10 + 3 < length t = omega (arith, h) in z)

  pub kept-turned : (u : List ℕ) → Kept u t → Kept u turned
  kept-turned u k =
      record {
        sized = length-set t (row * binding_row_numbers + binding_record) place ∙ k.sized;
        cells = λ i j h n. other-column i j h n ∙ k.cells i j h n;
      }

  -- ---- what it binds

  binds-other : (c i : ℕ) → (i ≡ row → ⊥) → binds_at turned c i ≡ binds_at t c i
  binds-other c i n =
      let a = other_row i binding_number (omega arith) n in
      let b = other_row i binding_code (omega arith) n in
      let e = other_row i binding_record (omega arith) n in
      rw (a, b, e)

  module _ (c : ℕ) (differs : eqb (cell t row binding_number) c ≡ false) where
    binds-same : (i : ℕ) → binds_at turned c i ≡ binds_at t c i
    binds-same i = by (eqb i row) refl
      where
        by : (b : Bool) → eqb i row ≡ b → binds_at turned c i ≡ binds_at t c i
        by false e = binds-other c i (eqb-false i row e)
        by true e =
            let z : i ≡ row = eqb-true i row e in
            let a = other-column row binding_number (omega arith) (λ e. absurd (omega (arith, e))) in
            rw (z, a, differs)

    binding-from : (n i : ℕ) → row_binding turned c n i ≡ row_binding t c n i
    unfolding row_binding
    binding-from zero i = refl
    binding-from (suc n) i = ap₂ (λ (b : Bool) (y : Option ℕ). cond b (some i) y) (binds-same i) (binding-from n (i + 1))

    -- a number that is not the row's is bound as before
    pub binding-other : row_binding turned c (rows_in turned) 0 ≡ row_binding t c (rows_in t) 0
    binding-other = ap (λ n. row_binding turned c n 0) rows-turned ∙ binding-from (rows_in t) 0

  module _ (c : ℕ) (place-there : 0 < place) (row-there : row < rows_in t) (number_is : cell t row binding_number ≡ c) where
    binds-now : binds_at turned c row ≡ true
    binds-now =
        let a = other-column row binding_number (omega arith) (λ e. absurd (omega (arith, e))) in
        let b = in-turn row-there in
        let z = ne_eqb place 0 (λ e. absurd (omega (arith, place-there, e))) in
        rw (a, number_is, eq-eqb c c refl, b, z) (or-true (eqb (cell turned row binding_code) 0))
      where
        or-true : (b : Bool) → b || true ≡ true
        or-true true = refl
        or-true false = refl

    bound-from : (n i : ℕ) → i ≤ row → row < i + n → row_binding t c n i ≡ none → row_binding turned c n i ≡ some row
    unfolding row_binding
    bound-from zero i l h e = absurd (omega arith)
    bound-from (suc n) i l h e =
        by (eqb i row) refl (binds_at t c i) refl e (λ m k. bound-from n (i + 1) (omega (arith, m)) (omega arith) k)
      where
        by : (s : Bool) → eqb i row ≡ s → (b : Bool) → binds_at t c i ≡ b → cond b (some i) (row_binding t c n (i + 1)) ≡ none →
            ((i ≡ row → ⊥) → row_binding t c n (i + 1) ≡ none → row_binding turned c n (i + 1) ≡ some row) →
            cond (binds_at turned c i) (some i) (row_binding turned c n (i + 1)) ≡ some row
        by s f true g k next = absurd-eq (cc)
        by true f false g k next =
            let z : i ≡ row = eqb-true i row f in
            ap (λ (j : ℕ). cond (binds_at turned c j) (some j) (row_binding turned c n (i + 1))) z
            ∙ ap (λ (b : Bool). cond b (some row) (row_binding turned c n (i + 1))) binds-now
        by false f false g k next =
            let m = eqb-false i row f in
            ap (λ (b : Bool). cond b (some i) (row_binding turned c n (i + 1))) (binds-other c i m ∙ g) ∙ next m k

    -- the row's number, if it was free
    pub binding-new : row_binding t c (rows_in t) 0 ≡ none → row_binding turned c (rows_in turned) 0 ≡ some row
    binding-new e = ap (λ n. row_binding turned c n 0) rows-turned ∙ bound-from (rows_in t) 0 (omega arith) (omega (arith, row-there)) e
