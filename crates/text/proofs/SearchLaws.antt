-- A text at a place of another: a step, and where it ends; and the places of a text one after the other. Assumes nothing.
use Prim.Native.Nat.{ℕ, suc, ◌+◌, ◌-◌, ◌≤◌, ◌<◌}
use mathlib.Core.Path.{◌≡◌, refl, sym, ap, ◌∙◌}
use mathlib.Core.Bool.{Bool, true, false, ◌&&◌, and-false}
use mathlib.Core.List.{List, [], ◌∷◌}
use native.Mathlib.Omega.{arith}
use native.Mathlib.Numerals.{add-one}
use native.Mathlib.Nat.{le_of_suc-le-suc, not-suc-le-zero}
use borrow.Author.Tests.{eq-eqb, ne_eqb, eqb-true}
use lib.Seq.{take_all}
use Rattle.text.proofs.OrderLaws.{clash}
use lib.Dec.{eqb}
use lib.ListN.{length, get_or, drop, take, length-drop}
use Rattle.std.specs.Prelude.{nat_eq}
use Rattle.std.specs.List.{starts_with}
use lib.Seq.{drop-cons, drop-drop}
use Rattle.text.specs.Tests.{same_letter, starts_by, containing}

module _ (same : ℕ → ℕ → Bool) where
  pub starts-short : (a b : List ℕ) → length a < length b → starts_by same a b ≡ false
  unfolding starts_by
  starts-short a [] h = absurd (not-suc-le-zero h)
  starts-short [] (y ∷ b) h = refl
  starts-short (x ∷ a) (y ∷ b) h = rw (starts-short a b (le_of_suc-le-suc h)) (and-false (same x y))

  pub starts-empty : (a b : List ℕ) → length b ≡ 0 → starts_by same a b ≡ true
  unfolding starts_by
  starts-empty a [] z = refl
  starts-empty a (y ∷ b) z = absurd (omega arith)

  -- both from i on
  module _ (a b : List ℕ) (i : ℕ) (h : i < length a) (l : i < length b) where
    first : starts_by same (drop i a) (drop i b) ≡
        same (get_or a i 0) (get_or b i 0) && starts_by same (drop (suc i) a) (drop (suc i) b)
    unfolding starts_by
    first = rw (drop-cons a i 0, drop-cons b i 0)

    pub starts-differ : same (get_or a i 0) (get_or b i 0) ≡ false → starts_by same (drop i a) (drop i b) ≡ false
    starts-differ e = first ∙ ap (λ (t : Bool). t && starts_by same (drop (suc i) a) (drop (suc i) b)) e

    pub starts-agree : same (get_or a i 0) (get_or b i 0) ≡ true →
        starts_by same (drop i a) (drop i b) ≡ starts_by same (drop (i + 1) a) (drop (i + 1) b)
    starts-agree e = first ∙ rw (e, add-one i)

-- a slice's part from a place on
pub rest-of : (a : List ℕ) (i : ℕ) → take (length a - i) (drop i a) ≡ drop i a
rest-of a i = take_all (length a - i) (drop i a) (simp length-drop (omega arith))

-- what `starts_with` answers
eqb-turned : (x y : ℕ) → eqb x y ≡ eqb y x
eqb-turned x y = go (eqb x y) refl
  where
    go : (b : Bool) → eqb x y ≡ b → eqb x y ≡ eqb y x
    go true e = e ∙ sym (eq-eqb y x (sym (eqb-true x y e)))
    go false e = e ∙ sym (ne_eqb y x (λ q. clash (sym e ∙ eq-eqb x y (sym q))))

pub starts_with_is : (a b : List ℕ) → starts_with nat_eq a b ≡ starts_by eqb a b
unfolding starts_by
starts_with_is a [] = refl
starts_with_is [] (y ∷ b) = refl
starts_with_is (x ∷ a) (y ∷ b) = rw (eqb-turned x y, starts_with_is a b)

module _ (b : List ℕ) where
  pub contained-here : (a : List ℕ) → starts_by same_letter a b ≡ true → containing a b ≡ true
  unfolding containing
  contained-here [] e = e
  contained-here (x ∷ a) e = rw e

  later : (a : List ℕ) → starts_by same_letter a b ≡ false → containing a b ≡ containing (drop 1 a) b
  unfolding containing
  later [] e = refl
  later (x ∷ a) e = rw e

  pub contained-later : (a : List ℕ) (j : ℕ) → starts_by same_letter (drop j a) b ≡ false →
      containing (drop j a) b ≡ containing (drop (j + 1) a) b
  contained-later a j e = later (drop j a) e ∙ ap (λ (l : List ℕ). containing l b) (drop-drop 1 j a)

  pub contained-short : (a : List ℕ) → length a < length b → containing a b ≡ false
  unfolding containing
  contained-short [] h = starts-short same_letter [] b h
  contained-short (x ∷ a) h =
      let m : length a < length b = omega arith in
      rw (starts-short same_letter (x ∷ a) b h) (contained-short a m)

-- where no later place has room for b
pub contained-nowhere : (a b : List ℕ) (j : ℕ) → length b ≤ length a → length a - length b ≤ j → starts_by same_letter (drop j a) b ≡ false
    → containing (drop j a) b ≡ false
contained-nowhere a [] j l h e = clash (sym e ∙ starts-empty same_letter (drop j a) [] refl)
contained-nowhere a (y ∷ b) j l h e =
    let n : length (drop (j + 1) a) < length (y ∷ b) = simp length-drop (omega arith) in
    contained-later (y ∷ b) a j e ∙ contained-short (y ∷ b) (drop (j + 1) a) n
