-- Numbers of one scale: the scale of arithmetic, and their sum. Assumes nothing.
use Prim.Native.Nat.{ℕ, zero, suc, ◌-◌, ◌^◌, max, ◌≤◌, ◌<◌}
use mathlib.Core.Path.{◌≡◌, refl, sym, ap, ap₂, ◌∙◌}
use mathlib.Core.Bool.{Bool, true, false}
use native.Mathlib.Omega.{arith}
use native.Mathlib.Nat.{min-eq_right}
use borrow.Author.Tests.{lt-leb, le-leb, leb-true, ltb-true, ltb-false, eq-eqb, ne_eqb}
use lib.IntN.{ℤ, pos, negsuc, ◌+ℤ◌, ◌*ℤ◌}
use lib.Signed.{mag, lt_z, le_z}
use mir.Syntax.{Width}
use mir.Val.{SFits, of_z, to_z}
use mir.Facts.{to_z-of_z}
use Rattle.std.specs.Prelude.{Ok}
use Rattle.decimal.specs.Number.{places, scale_of, scaled, fits, fitted, rescaled, added}
use Rattle.decimal.specs.Internal.Plain.{same_scale, has_places, sums_plainly, PlainSum}
use Rattle.decimal.proofs.Bits.{clash}
use Rattle.decimal.proofs.Fitted.{made, raised-by-none}

-- ---- a scale that arithmetic has

pub above_zero : (z : ℤ) → lt_z (pos 0) z ≡ true → false ≡ has_places z
unfolding has_places
above_zero (pos n) e = let h : 0 < n = ltb-true 0 n e in rw (lt-leb n 0 h)
above_zero (negsuc n) e = clash e

pub from-least : (z : ℤ) → lt_z (pos 0) z ≡ false → le_z (negsuc 17) z ≡ has_places z
unfolding has_places
from-least (pos n) e = let h : n ≤ 0 = ltb-false 0 n e in rw (le-leb n 0 h)
from-least (negsuc n) e = refl

has-places : (z : ℤ) → has_places z ≡ true → scale_of (places z) ≡ z
unfolding has_places places
has-places (pos zero) e = refl
has-places (pos (suc n)) e = let l : 0 < suc n = omega arith in clash (rw (lt-leb (suc n) 0 l) at e)
has-places (negsuc n) e = let h : suc n ≤ 18 = omega (arith, leb-true n 17 e) in ap scale_of (min-eq_right h)

-- ---- one scale

pub same_bits : (w : Width) {a b : ℤ} → SFits w a → SFits w b → of_z w a ≡ of_z w b → a ≡ b
same_bits w f g e = sym (to_z-of_z f) ∙ ap (to_z w) e ∙ to_z-of_z g

one-scale : (a : ℤ) → same_scale a a ≡ true
unfolding same_scale
one-scale (pos n) = eq-eqb n n refl
one-scale (negsuc n) = eq-eqb n n refl

two-scales : (a b : ℤ) → (a ≡ b → ⊥) → same_scale a b ≡ false
unfolding same_scale
two-scales (pos m) (pos n) h = ne_eqb m n (λ e. h (ap pos e))
two-scales (pos m) (negsuc n) h = refl
two-scales (negsuc m) (pos n) h = refl
two-scales (negsuc m) (negsuc n) h = ne_eqb m n (λ e. h (ap negsuc e))

-- ---- the sum of two numbers of one scale

module _ (a : ℤ) where
  abbrev most : ℕ
  most = max (places a) (places a)

  at_own : (x : ℤ) → mag x < 2 ^ 63 → rescaled most (scaled x a) ≡ Ok (scaled x (scale_of (places a)))
  unfolding rescaled
  at_own x h =
      let k : most - places a ≡ 0 = omega arith in
      let n : max most (places a) ≡ places a = omega arith in
      ap₂ (λ (k n : ℕ). fitted (x *ℤ pos (10 ^ k)) (scale_of n)) k n ∙ ap (λ (z : ℤ). fitted z (scale_of (places a))) (raised-by-none x)
      ∙ sym (made refl refl h)

  module _ (x y : ℤ) (f : mag x < 2 ^ 63) (g : mag y < 2 ^ 63) where
    sum-plain : has_places a ≡ true → mag (x +ℤ y) < 2 ^ 63 → added (scaled x a) (scaled y a) ≡ Ok (scaled (x +ℤ y) a)
    unfolding added
    sum-plain p h =
        let m : most ≡ places a = omega arith in
        rw (at_own x f, at_own y g) (sym (made refl (sym (ap scale_of m ∙ has-places a p)) h))

    pub plain-sum : {b : ℤ} {r : Bool} → a ≡ b → has_places a ≡ true → r ≡ fits (x +ℤ y) → PlainSum x a y b r
    unfolding sums_plainly
    plain-sum e p t =
        let fit : true ≡ fits (x +ℤ y) → mag (x +ℤ y) < 2 ^ 63 = λ q. ltb-true (mag (x +ℤ y)) (2 ^ 63) (sym q) in
        rw (← e) (record {
          answer = t ∙ rw (one-scale a, p);
          fits_in = λ q. sym t ∙ q;
          sum_is = λ q. sum-plain p (fit (sym q ∙ t));
        })

pub other-scales : (x a y b : ℤ) → (a ≡ b → ⊥) → PlainSum x a y b false
unfolding sums_plainly
other-scales x a y b h = record { answer = rw (two-scales a b h); fits_in = λ q. clash q; sum_is = λ q. clash q }

pub no-places : (x a y b : ℤ) → a ≡ b → has_places a ≡ false → PlainSum x a y b false
unfolding sums_plainly
no-places x a y b e p = rw (← e) (record { answer = rw (one-scale a, p); fits_in = λ q. clash q; sum_is = λ q. clash q })
