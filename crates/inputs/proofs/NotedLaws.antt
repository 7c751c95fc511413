-- The table of fields: an empty one is right, a row that is written leaves it right, and what a row says is what the dictionary says. Assumes
-- nothing.
use Prim.Native.Nat.{ℕ, zero, suc, ◌+◌, ◌*◌, ◌≤◌, ◌<◌}
use mathlib.Core.Path.{◌≡◌, refl, sym, ap, ap₂, subst, ◌∙◌}
use mathlib.Core.Logic.{◌≢◌}
use mathlib.Core.Bool.{Bool, true, false}
use mathlib.Core.List.{List}
use mathlib.Core.Option.{some}
use Rattle.std.specs.Prelude.{Option as Maybe, Some, None, IfSome}
use native.Mathlib.Omega.{arith}
use lib.Dec.{eqb, ltb}
use lib.ListN.{length, get_or, set, replicate, length-set, get_or-eq_default}
use lib.Seq.{get_or-set_same, get_or-set_other}
use borrow.Author.Tests.{eqb-true, eqb-false, ltb-true, ltb-false}
use Rattle.records.specs.declared.lengths.Located.{Located}
use Rattle.records.specs.Internal.Locations.{located_in, located_of}
use Rattle.records.proofs.Locations.{located-small}
use Rattle.inputs.specs.Noted.{row_of, row_place, with_row, Noted, StaysNoted}

-- ---- a table of zeros

zero-at : (n i : ℕ) → ◌≡◌ {A = ℕ} (get_or (replicate n 0) i 0) 0
zero-at zero i = refl
zero-at (suc n) zero = refl
zero-at (suc n) (suc i) = zero-at n i

pub none-noted : (d : List ℕ) (n : ℕ) → Noted d (replicate n 0)
none-noted d n = record { right = λ r i e f z. absurd (z (zero-at n (row_place r i + 3))) }

-- ---- a row that is written

module _ (t : List ℕ) (p a b c e : ℕ) where
  abbrev written : List ℕ
  written = with_row t p a b c e

  untouched : (q : ℕ) → q ≢ p → q ≢ p + 1 → q ≢ p + 2 → q ≢ p + 3 → get_or written q 0 ≡ get_or t q 0
  untouched q h i j k = simp get_or-set_other

  module _ (l : p + 3 < length t) where
    first : get_or written p 0 ≡ a
    first =
        let x : p < length t = omega arith in
        get_or-set_other (set (set (set t p a) (p + 1) b) (p + 2) c) (p + 3) p e 0 (λ z. omega arith) ∙
        get_or-set_other (set (set t p a) (p + 1) b) (p + 2) p c 0 (λ z. omega arith) ∙
        get_or-set_other (set t p a) (p + 1) p b 0 (λ z. omega arith) ∙ get_or-set_same t p a 0 x

    second : get_or written (p + 1) 0 ≡ b
    second =
        let x : p + 1 < length (set t p a) = omega (arith, length-set t p a) in
        get_or-set_other (set (set (set t p a) (p + 1) b) (p + 2) c) (p + 3) (p + 1) e 0 (λ z. omega arith) ∙
        get_or-set_other (set (set t p a) (p + 1) b) (p + 2) (p + 1) c 0 (λ z. omega arith) ∙ get_or-set_same (set t p a) (p + 1) b 0 x

    third : get_or written (p + 2) 0 ≡ c
    third =
        let x : p + 2 < length (set (set t p a) (p + 1) b) = simp length-set (omega arith) in
        get_or-set_other (set (set (set t p a) (p + 1) b) (p + 2) c) (p + 3) (p + 2) e 0 (λ z. omega arith) ∙
        get_or-set_same (set (set t p a) (p + 1) b) (p + 2) c 0 x

    fourth : get_or written (p + 3) 0 ≡ e
    fourth =
        let x : p + 3 < length (set (set (set t p a) (p + 1) b) (p + 2) c) = simp length-set (omega arith) in
        get_or-set_same (set (set (set t p a) (p + 1) b) (p + 2) c) (p + 3) e 0 x

  past : length t ≤ p + 3 → get_or written (p + 3) 0 ≡ 0
  past h = let x : length written ≤ p + 3 = simp length-set (omega arith) in get_or-eq_default written 0 x

pub row-noted : (d t : List ℕ) (r i e o : ℕ) → located_in d r i ≡ some (e, o) → Noted d t →
    Noted d (with_row t (row_place r i) r i e o)
row-noted d t r i e o g n = record { right = λ r' i'. by r' i' (eqb (row_of r' i') (row_of r i)) refl }
  where
    p : ℕ
    p = row_place r i

    u : List ℕ
    u = written t p r i e o

    Right : ℕ → ℕ → Type 0
    Right r' i' =
        get_or u (row_place r' i') 0 ≡ r' → get_or u (row_place r' i' + 1) 0 ≡ i' → (get_or u (row_place r' i' + 3) 0 ≡ 0 → ⊥) →
        located_in d r' i' ≡ some (get_or u (row_place r' i' + 2) 0, get_or u (row_place r' i' + 3) 0)

    other : (r' i' : ℕ) → (row_of r' i' ≡ row_of r i → ⊥) → (q : ℕ) → row_place r' i' ≤ q → q < row_place r' i' + 4 →
        get_or u q 0 ≡ get_or t q 0
    other r' i' z q h k =
        untouched t p r i e o q (λ x. z (omega (arith, x, h, k))) (λ x. z (omega (arith, x, h, k))) (λ x. z (omega (arith, x, h, k)))
        (λ x. z (omega (arith, x, h, k)))

    here : (r' i' : ℕ) → row_of r' i' ≡ row_of r i → (b : Bool) → ltb (p + 3) (length t) ≡ b → Right r' i'
    here r' i' same true l f k z =
        let room = ltb-true (p + 3) (length t) l in
        let at : row_place r' i' ≡ p = ap (λ (x : ℕ). x * 4) same in
        let q : r' ≡ r = sym f ∙ ap (λ (x : ℕ). get_or u x 0) at ∙ first t p r i e o room in
        let w : i' ≡ i = sym k ∙ ap (λ (x : ℕ). get_or u (x + 1) 0) at ∙ second t p r i e o room in
        let x : get_or u (row_place r' i' + 2) 0 ≡ e = ap (λ (x : ℕ). get_or u (x + 2) 0) at ∙ third t p r i e o room in
        let y : get_or u (row_place r' i' + 3) 0 ≡ o = ap (λ (x : ℕ). get_or u (x + 3) 0) at ∙ fourth t p r i e o room in
        ap₂ (located_in d) q w ∙ g ∙ sym (ap₂ (λ (v w : ℕ). some (v, w)) x y)
    here r' i' same false l f k z =
        let at : row_place r' i' ≡ p = ap (λ (x : ℕ). x * 4) same in
        absurd (z (ap (λ (x : ℕ). get_or u (x + 3) 0) at ∙ past t p r i e o (ltb-false (p + 3) (length t) l)))

    by : (r' i' : ℕ) (b : Bool) → eqb (row_of r' i') (row_of r i) ≡ b → Right r' i'
    by r' i' true h f k z = here r' i' (eqb-true (row_of r' i') (row_of r i) h) (ltb (p + 3) (length t)) refl f k z
    by r' i' false h f k z =
        let same = other r' i' (eqb-false (row_of r' i') (row_of r i) h) in
        let at = row_place r' i' in
        let none = same at (omega arith) (omega arith) in
        let one = same (at + 1) (omega arith) (omega arith) in
        let two = same (at + 2) (omega arith) (omega arith) in
        let three = same (at + 3) (omega arith) (omega arith) in
        n.right r' i' (sym none ∙ f) (sym one ∙ k) (λ q. z (three ∙ q)) ∙
        sym (ap₂ (λ (v w : ℕ). some (v, w)) two three)

pub row_small : (r i : ℕ) → row_place r i < 256
unfolding row_of
row_small r i = omega arith

-- what the code wrote, by what it located
pub noted-by : (d t u : List ℕ) (r i row : ℕ) (x : Located) → located_of (Some x) ≡ located_in d r i → row ≡ row_place r i →
    u ≡ with_row t row r i x.entry x.offset → StaysNoted d t u
noted-by d t u r i row x e k f n =
    let table : with_row t (row_place r i) r i x.entry x.offset ≡ u =
    ap (λ (p : ℕ). with_row t p r i x.entry x.offset) (sym k) ∙ sym f in
    subst (Noted d) table (row-noted d t r i x.entry x.offset (sym e) n)

-- where the dictionary says that a field stands
pub located-narrow : (d : List ℕ) (r i : ℕ) (x : Maybe Located) → located_of x ≡ located_in d r i → IfSome x (λ l. l.offset < 4294967296)
located-narrow d r i None e = tt
located-narrow d r i (Some l) e = omega (arith, located-small d r i l e)

-- ---- a row that is found

pub found-noted : (d t : List ℕ) (r i row a b e o : ℕ) → row ≡ row_place r i → a ≡ get_or t row 0 → a ≡ r → b ≡ get_or t (row + 1) 0 → b ≡ i →
    e ≡ get_or t (row + 2) 0 → o ≡ get_or t (row + 3) 0 → (o ≡ 0 → ⊥) → Noted d t → some (e, o) ≡ located_in d r i
found-noted d t r i row a b e o k f g h j l m z n =
    let to : (q : ℕ) → get_or t (row + q) 0 ≡ get_or t (row_place r i + q) 0 = λ q. ap (λ (p : ℕ). get_or t (p + q) 0) k in
    let first : get_or t (row_place r i) 0 ≡ r = ap (λ (p : ℕ). get_or t p 0) (sym k) ∙ sym f ∙ g in
    let offset : get_or t (row_place r i + 3) 0 ≡ o = sym (m ∙ to 3) in
    ap₂ (λ (v w : ℕ). some (v, w)) (l ∙ to 2) (m ∙ to 3) ∙
    sym (n.right r i first (sym (h ∙ to 1) ∙ j) (λ q. z (sym offset ∙ q)))
