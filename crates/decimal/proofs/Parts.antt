-- The theorem on comparing: two numbers compare as their whole parts, cut toward zero, and where these are equal as their signed fractions. Assumes nothing.
-- It is about `compared`, which `compare` promises. It asks nothing of the scales: in both, one outside -18 to 0 counts as the nearest of these.
use Prim.Native.Nat.{ℕ, suc, ◌+◌, ◌-◌, ◌*◌, ◌/◌, ◌%◌, ◌^◌, max, ◌≤◌, ◌<◌}
use mathlib.Core.Path.{◌≡◌, refl, sym, ap, ap₂, ◌∙◌}
use mathlib.Core.Bool.{Bool, true, false}
use native.Mathlib.Omega.{arith}
use native.Mathlib.Nat.{mul_assoc, add-mul, mod-lt, mul-lt-mul_of_pos_right, div-add-mod', one-le-pow}
use lib.Dec.{lit<}
use lib.Pow.{pow-add}
use lib.IntN.{ℤ, pos, negsuc, nat_abs, ◌*ℤ◌}
use lib.Signed.{quot_z, rem_z}
use Rattle.std.specs.declared.cmp.Ordering.{Ordering}
use Rattle.std.specs.declared.cmp.Ordering.TheVariants.{Less, Equal, Greater}
use Rattle.decimal.specs.declared.Number.{Number}
use Rattle.decimal.specs.Number.{places, scale_of, scaled, value_at, common, compared}
use Rattle.wire.specs.Orders.{order_ℤ, where_equal}
use Rattle.decimal.specs.Internal.Signs.{is_negative, signed}
use Rattle.decimal.specs.Comparing.{whole_part, fraction_at, by_parts}
use Rattle.decimal.proofs.Fitted.{raised-by-none}
use Rattle.decimal.proofs.Scales.{places-le, places-scale}
use Rattle.decimal.proofs.Signed.{product-signed}
use Rattle.decimal.proofs.Ordered.{signed_parts, common-factor, equal-only, equal-itself}

pub power_pos : (k : ℕ) → 0 < 10 ^ k
power_pos k = one-le-pow k 10 (lit< tt)

-- ten to p places, and to those that p lacks of k
pub power-split : (p k : ℕ) → p ≤ k → 10 ^ p * 10 ^ (k - p) ≡ 10 ^ k
power-split p k l = let e : p + (k - p) ≡ k = omega arith in sym (pow-add 10 p (k - p)) ∙ ap (λ (n : ℕ). 10 ^ n) e

-- a magnitude n with p places, at k places
module _ (n p k : ℕ) (l : p ≤ k) where
  below_one : n % 10 ^ p * 10 ^ (k - p) < 10 ^ k
  below_one = rw (power-split p k l) at (mul-lt-mul_of_pos_right (mod-lt n (power_pos p)) (power_pos (k - p)))

  in_parts : n * 10 ^ (k - p) ≡ n / 10 ^ p * 10 ^ k + n % 10 ^ p * 10 ^ (k - p)
  in_parts =
      ap (λ (m : ℕ). m * 10 ^ (k - p)) (sym (div-add-mod' n (10 ^ p))) ∙ add-mul (n / 10 ^ p * 10 ^ p) (n % 10 ^ p) (10 ^ (k - p))
      ∙ ap (λ (m : ℕ). m + n % 10 ^ p * 10 ^ (k - p))
      (mul_assoc (n / 10 ^ p) (10 ^ p) (10 ^ (k - p)) ∙ ap (λ (m : ℕ). n / 10 ^ p * m) (power-split p k l))

  at_more : (m : ℕ) → k ≤ m → n * 10 ^ (m - p) ≡ n * 10 ^ (k - p) * 10 ^ (m - k)
  at_more m h =
      let e : m - p ≡ (k - p) + (m - k) = omega arith in
      ap (λ (i : ℕ). n * i) (ap (λ (i : ℕ). 10 ^ i) e ∙ pow-add 10 (k - p) (m - k)) ∙ sym (mul_assoc n (10 ^ (k - p)) (10 ^ (m - k)))

-- a multiple of a value, its quotient and its remainder, by its sign and magnitude
times : (x : ℤ) (m : ℕ) → x *ℤ pos m ≡ signed (is_negative x) (nat_abs x * m)
unfolding signed
times (pos a) m = refl
times (negsuc a) m = refl

quotient : (x : ℤ) (d : ℕ) → quot_z x (pos d) ≡ signed (is_negative x) (nat_abs x / d)
unfolding signed
quotient (pos a) d = refl
quotient (negsuc a) d = refl

pub remainder : (x : ℤ) (d m : ℕ) → rem_z x (pos d) *ℤ pos m ≡ signed (is_negative x) (nat_abs x % d * m)
unfolding signed
remainder (pos a) d m = refl
remainder (negsuc a) d m = product-signed true false (suc a % d) m

-- a number's sign, its magnitude, and its two parts as magnitudes, the second at k places
module _ (k : ℕ) (a : Number) where
  abbrev negative : Bool
  negative = is_negative a.value

  abbrev value : ℕ
  value = nat_abs a.value * 10 ^ (k - places a.scale)

  abbrev whole : ℕ
  whole = nat_abs a.value / 10 ^ places a.scale

  abbrev fraction : ℕ
  fraction = nat_abs a.value % 10 ^ places a.scale * 10 ^ (k - places a.scale)

  value-is : value_at k a ≡ signed negative value
  value-is = times a.value (10 ^ (k - places a.scale))

  whole_is : whole_part a ≡ signed negative whole
  unfolding whole_part
  whole_is = quotient a.value (10 ^ places a.scale)

  fraction-is : fraction_at k a ≡ signed negative fraction
  unfolding fraction_at
  fraction-is = remainder a.value (10 ^ places a.scale) (10 ^ (k - places a.scale))

-- two numbers at k places, which are no fewer than theirs
module _ (k : ℕ) (a b : Number) (l : places a.scale ≤ k) (m : places b.scale ≤ k) where
  by-parts-at : order_ℤ (value_at k a) (value_at k b) ≡ where_equal (order_ℤ (whole_part a) (whole_part b)) (order_ℤ (fraction_at k a) (fraction_at k b))
  by-parts-at =
      ap₂ order_ℤ (value-is k a ∙ ap (signed (negative k a)) (in_parts (nat_abs a.value) (places a.scale) k l))
      (value-is k b ∙ ap (signed (negative k b)) (in_parts (nat_abs b.value) (places b.scale) k m))
      ∙ signed_parts (negative k a) (negative k b) (10 ^ k) (whole k a) (fraction k a) (whole k b) (fraction k b) (below_one _ _ k l) (below_one _ _ k m)
      ∙ sym (ap₂ where_equal (ap₂ order_ℤ (whole_is k a) (whole_is k b)) (ap₂ order_ℤ (fraction-is k a) (fraction-is k b)))

  -- this is the order at 18 places
  compared_at : k ≤ 18 → compared a b ≡ order_ℤ (value_at k a) (value_at k b)
  unfolding compared
  compared_at h =
      ap₂ order_ℤ (value-is 18 a ∙ ap (signed (negative k a)) (at_more _ _ k l 18 h))
      (value-is 18 b ∙ ap (signed (negative k b)) (at_more _ _ k m 18 h))
      ∙ common-factor (negative k a) (negative k b) (10 ^ (18 - k)) (value k a) (value k b) (power_pos (18 - k))
      ∙ sym (ap₂ order_ℤ (value-is k a) (value-is k b))

-- for any two numbers
pub compares-by-parts : (a b : Number) → compared a b ≡ by_parts a b
unfolding by_parts
compares-by-parts a b =
    let l : places a.scale ≤ common a b = omega arith in
    let m : places b.scale ≤ common a b = omega arith in
    let n : common a b ≤ 18 = omega (arith, places-le a.scale, places-le b.scale) in
    compared_at (common a b) a b l m n ∙ by-parts-at (common a b) a b l m

-- the two halves of the sentence: where the whole parts differ, they decide
other-decides : (o p : Ordering) → (o ≡ Equal → ⊥) → where_equal o p ≡ o
other-decides Less p h = refl
other-decides Equal p h = absurd (h refl)
other-decides Greater p h = refl

pub whole-parts-decide : (a b : Number) → (whole_part a ≡ whole_part b → ⊥) → compared a b ≡ order_ℤ (whole_part a) (whole_part b)
unfolding by_parts
whole-parts-decide a b h = compares-by-parts a b ∙ other-decides _ _ (λ e. h (equal-only (whole_part a) (whole_part b) e))

-- where they are equal, the fractions do
pub fractions-decide : (a b : Number) → whole_part a ≡ whole_part b
    → compared a b ≡ order_ℤ (fraction_at (common a b) a) (fraction_at (common a b) b)
unfolding by_parts
fractions-decide a b e = compares-by-parts a b ∙ rw (e, equal-itself (whole_part b))

-- numbers of one scale are in the order of their values
own-places : (x a : ℤ) → value_at (places a) (scaled x a) ≡ x
own-places x a = let z : places a - places a ≡ 0 = omega arith in ap (λ (k : ℕ). x *ℤ pos (10 ^ k)) z ∙ raised-by-none x

pub same-scale-order : (x y a : ℤ) → compared (scaled x a) (scaled y a) ≡ order_ℤ x y
same-scale-order x y a =
    let l : places a ≤ places a = omega arith in
    compared_at (places a) (scaled x a) (scaled y a) l l (places-le a) ∙ ap₂ order_ℤ (own-places x a) (own-places y a)

-- the order by parts asks for the places alone
parts_at : ℤ → ℕ → ℤ → ℕ → Ordering
parts_at x p y q =
    where_equal (order_ℤ (quot_z x (pos (10 ^ p))) (quot_z y (pos (10 ^ q))))
    (order_ℤ (rem_z x (pos (10 ^ p)) *ℤ pos (10 ^ (max p q - p))) (rem_z y (pos (10 ^ q)) *ℤ pos (10 ^ (max p q - q))))

parts_are : (x a y b : ℤ) → by_parts (scaled x a) (scaled y b) ≡ parts_at x (places a) y (places b)
unfolding by_parts whole_part fraction_at parts_at
parts_are x a y b = refl

by-places : (x a y b : ℤ) → by_parts (scaled x (scale_of (places a))) (scaled y (scale_of (places b))) ≡ by_parts (scaled x a) (scaled y b)
by-places x a y b =
    parts_are x (scale_of (places a)) y (scale_of (places b))
    ∙ ap₂ (λ (p q : ℕ). parts_at x p y q) (places-scale (places a) (places-le a)) (places-scale (places b) (places-le b))
    ∙ sym (parts_are x a y b)

-- the order by parts that a call found of two values and their places
pub parts-found : (a b : Number) {r : Ordering} {x y : ℤ} {p q : ℕ} → r ≡ by_parts (scaled x (scale_of p)) (scaled y (scale_of q))
    → x ≡ a.value → y ≡ b.value → p ≡ places a.scale → q ≡ places b.scale → r ≡ compared a b
parts-found a b e f g h k =
    e ∙ rw (f, g, h, k) (by-places a.value a.scale b.value b.scale ∙ sym (compares-by-parts a b))
