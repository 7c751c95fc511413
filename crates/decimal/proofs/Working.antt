-- A comparison as the code works it out: what fits 64 bits, and what its calls found. Assumes nothing.
use Prim.Native.Nat.{ℕ, ◌*◌, ◌%◌, ◌^◌, ◌-◌, max, ◌≤◌, ◌<◌}
use mathlib.Core.Path.{◌≡◌, refl, sym, ap, ap₂, ◌∙◌}
use mathlib.Core.Bool.{Bool, true, false}
use native.Mathlib.Omega.{arith}
use native.Mathlib.Nat.{mod-lt, mul-le-mul_right, pow-le-pow_right}
use lib.Dec.{lit<}
use lib.IntN.{ℤ, pos, nat_abs, ◌*ℤ◌}
use lib.Signed.{mag, quot_z, rem_z, mag_rem}
use mir.Syntax.{w64}
use mir.Val.{SFits, to_z, of_z}
use mir.Facts.{to_z-of_z}
use Rattle.std.specs.declared.cmp.Ordering.{Ordering}
use Rattle.std.specs.Ordering.{int_cmp}
use Rattle.wire.specs.Orders.{order_ℤ, where_equal}
use Rattle.wire.proofs.Compared.{cmp-order_ℤ}
use Rattle.decimal.proofs.Scales.{places-scale}
use Rattle.decimal.specs.declared.Number.{Number}
use Rattle.decimal.specs.Number.{places, scale_of, scaled, common}
use Rattle.decimal.specs.Internal.Signs.{is_negative, signed}
use Rattle.decimal.specs.Comparing.{whole_part, fraction_at, by_parts}
use Rattle.decimal.proofs.Bits.{read_back}
use Rattle.decimal.proofs.Fitted.{negative-in}
use Rattle.decimal.proofs.Quotient.{quotient_fits}
use Rattle.decimal.proofs.Parts.{power_pos, power-split, remainder}

-- a value, and a divisor from 1 to 10 ^ 18
module _ (x : ℤ) (d : ℕ) (f : SFits w64 x) (h : 0 < d) (l : d ≤ 10 ^ 18) {z : ℤ} (e : z ≡ pos d) where
  divisor : to_z w64 (of_z w64 z) ≡ pos d
  divisor = rw e (read_back w64 (pos d) (omega arith))

  bits : of_z w64 z ≡ d
  bits = rw e refl

  quotient-in : mag (quot_z x (pos d)) < 2 ^ 63
  quotient-in = quotient_fits x (pos d) f.sfits (λ e. omega arith)

  quotient-found : quot_z (to_z w64 (of_z w64 x)) (to_z w64 (of_z w64 z)) ≡ quot_z x (pos d)
  quotient-found = ap₂ quot_z (to_z-of_z f) divisor

  pub divides : (0 < of_z w64 z) × SFits w64 (quot_z (to_z w64 (of_z w64 x)) (to_z w64 (of_z w64 z)))
  divides = (rw bits h, rw quotient-found (record { sfits = quotient-in }))

  pub quotient-back : to_z w64 (of_z w64 (quot_z (to_z w64 (of_z w64 x)) (to_z w64 (of_z w64 z)))) ≡ quot_z x (pos d)
  quotient-back = rw quotient-found (read_back w64 (quot_z x (pos d)) quotient-in)

  remainder-back : to_z w64 (of_z w64 (rem_z (to_z w64 (of_z w64 x)) (to_z w64 (of_z w64 z)))) ≡ rem_z x (pos d)
  remainder-back =
      ap (λ (z : ℤ). to_z w64 (of_z w64 z)) (ap₂ rem_z (to_z-of_z f) divisor)
      ∙ read_back w64 (rem_z x (pos d)) (omega (arith, mag_rem x (pos d), f.sfits))

signed-in : (s : Bool) (m : ℕ) → m < 2 ^ 63 → mag (signed s m) < 2 ^ 63
unfolding signed
signed-in true m h = negative-in m (2 ^ 63) (omega arith) (lit< tt)
signed-in false m h = h

-- a remainder is below its divisor, and so at more places below 10 ^ 18
module _ (x : ℤ) (d m : ℕ) (h : 0 < d) (l : d * m ≤ 10 ^ 18) where
  pub lacking-in : m ≤ 10 ^ 18
  lacking-in = omega (arith, mul-le-mul_right m h)

  pub fraction-in : mag (rem_z x (pos d) *ℤ pos m) < 2 ^ 63
  fraction-in =
      let r : nat_abs x % d ≤ d = omega (arith, mod-lt (nat_abs x) h) in
      let s : nat_abs x % d * m ≤ d * m = mul-le-mul_right m r in
      rw (remainder x d m) (signed-in (is_negative x) (nat_abs x % d * m) (omega arith))

-- the product of a remainder and the power that is lacking
module _ (x : ℤ) (d m : ℕ) (f : SFits w64 x) (h : 0 < d) (k : d ≤ 10 ^ 18) (l : d * m ≤ 10 ^ 18) {z v : ℤ} (e : z ≡ pos d) (g : v ≡ pos m) where
  product : to_z w64 (of_z w64 (rem_z (to_z w64 (of_z w64 x)) (to_z w64 (of_z w64 z)))) *ℤ to_z w64 (of_z w64 v) ≡ rem_z x (pos d) *ℤ pos m
  product = ap₂ ◌*ℤ◌ (remainder-back x d f h k e) (rw g (read_back w64 (pos m) (omega (arith, lacking-in x d m h l))))

  pub product-fits : SFits w64 (to_z w64 (of_z w64 (rem_z (to_z w64 (of_z w64 x)) (to_z w64 (of_z w64 z)))) *ℤ to_z w64 (of_z w64 v))
  product-fits = rw product (record { sfits = fraction-in x d m h l })

  pub product-back : to_z w64 (of_z w64 (to_z w64 (of_z w64 (rem_z (to_z w64 (of_z w64 x)) (to_z w64 (of_z w64 z)))) *ℤ to_z w64 (of_z w64 v))) ≡ rem_z x (pos d) *ℤ pos m
  product-back = rw product (read_back w64 (rem_z x (pos d) *ℤ pos m) (fraction-in x d m h l))

-- a value with p places, and k places, which are no fewer: its whole part and its fraction
module _ (x : ℤ) (p k : ℕ) (f : SFits w64 x) (h : p ≤ k) (l : k ≤ 18) {z v : ℤ} (e : z ≡ pos (10 ^ p)) (g : v ≡ pos (10 ^ (k - p))) where
  abbrev a : Number
  a = scaled x (scale_of p)

  within : p ≤ 18
  within = omega arith

  places-is : places a.scale ≡ p
  places-is = places-scale p within

  at-most : 10 ^ p ≤ 10 ^ 18
  at-most = pow-le-pow_right (lit< tt) within

  both : 10 ^ p * 10 ^ (k - p) ≤ 10 ^ 18
  both = rw (power-split p k h) (pow-le-pow_right (lit< tt) l)

  pub divides-by : (0 < of_z w64 z) × SFits w64 (quot_z (to_z w64 (of_z w64 x)) (to_z w64 (of_z w64 z)))
  divides-by = divides x (10 ^ p) f (power_pos p) at-most e

  pub fraction-fits : SFits w64 (to_z w64 (of_z w64 (rem_z (to_z w64 (of_z w64 x)) (to_z w64 (of_z w64 z)))) *ℤ to_z w64 (of_z w64 v))
  fraction-fits = product-fits x (10 ^ p) (10 ^ (k - p)) f (power_pos p) at-most both e g

  pub whole-found : to_z w64 (of_z w64 (quot_z (to_z w64 (of_z w64 x)) (to_z w64 (of_z w64 z)))) ≡ whole_part a
  unfolding whole_part
  whole-found = rw places-is (quotient-back x (10 ^ p) f (power_pos p) at-most e)

  pub fraction-found : to_z w64 (of_z w64 (to_z w64 (of_z w64 (rem_z (to_z w64 (of_z w64 x)) (to_z w64 (of_z w64 z)))) *ℤ to_z w64 (of_z w64 v))) ≡ fraction_at k a
  unfolding fraction_at
  fraction-found = rw places-is (product-back x (10 ^ p) (10 ^ (k - p)) f (power_pos p) at-most both e g)

-- the order of the whole parts, as a call found it and as a match told it
pub in_order : (a b : Number) {r s : Ordering} {w v : ℤ} → r ≡ int_cmp w v → w ≡ whole_part a → v ≡ whole_part b → r ≡ s
    → where_equal s (order_ℤ (fraction_at (common a b) a) (fraction_at (common a b) b)) ≡ by_parts a b
unfolding by_parts
in_order a b {r} {s} {w} {v} e f g h =
    ap (λ (o : Ordering). where_equal o (order_ℤ (fraction_at (common a b) a) (fraction_at (common a b) b))) (sym h ∙ e ∙ cmp-order_ℤ w v ∙ ap₂ order_ℤ f g)

pub common-is : (x y : ℤ) (p q : ℕ) → p ≤ 18 → q ≤ 18 → common (scaled x (scale_of p)) (scaled y (scale_of q)) ≡ max p q
common-is x y p q h k = ap₂ max (places-scale p h) (places-scale q k)
