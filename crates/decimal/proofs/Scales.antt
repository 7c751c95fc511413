-- Scales and decimal places. Assumes nothing.
use Prim.Native.Nat.{ℕ, zero, suc, ◌-◌, ◌^◌, max, min, ◌≤◌, ◌<◌}
use mathlib.Core.Path.{◌≡◌, refl, sym, ap, ap₂, ◌∙◌}
use native.Mathlib.Omega.{arith}
use native.Mathlib.Nat.{min-le_left, min-eq_left, min-eq_right}
use native.Mathlib.Decide.{dec_lt}
use borrow.Author.Tests.{lt-ltb, le-ltb}
use lib.IntN.{ℤ, pos, negsuc, nat_abs, neg_ℤ, sub_ℕ, ◌+ℤ◌, ◌-ℤ◌, ◌*ℤ◌, neg_ℤ-neg_ℤ}
use lib.Signed.{mag}
use mir.Syntax.{w8}
use mir.Val.{SFits, to_z, of_z}
use Rattle.std.specs.Int.{int_max, int_min}
use Rattle.decimal.specs.declared.Number.{Number}
use Rattle.decimal.specs.Number.{places, scale_of, fitted, rescaled}
use Rattle.decimal.proofs.Bits.{read_back}

-- what `clamp` leaves of a scale has as many units below 0 as there are places
pub clamped : (z : ℤ) → nat_abs (int_max (negsuc 17) (int_min z (pos 0))) ≡ places z
unfolding places
clamped (pos zero) = refl
clamped (pos (suc n)) = let l : 0 < suc n = omega arith in rw (lt-ltb 0 (suc n) l)
clamped (negsuc n) = go (dec_lt 17 n)
  where
    go : Dec (17 < n) → nat_abs (int_max (negsuc 17) (int_min (negsuc n) (pos 0))) ≡ min 18 (suc n)
    go (yes l) = let h : 18 ≤ suc n = omega arith in rw (lt-ltb 17 n l) (sym (min-eq_left h))
    go (no l) = let h : suc n ≤ 18 = omega arith in rw (le-ltb 17 n (omega arith)) (sym (min-eq_right h))

pub places-le : (z : ℤ) → places z ≤ 18
unfolding places
places-le (pos n) = omega arith
places-le (negsuc n) = min-le_left 18 (suc n)

pub places-scale : (k : ℕ) → k ≤ 18 → places (scale_of k) ≡ k
unfolding places
places-scale zero h = refl
places-scale (suc n) h = min-eq_right h

-- the places that a call found of a scale
pub places-found : (z : ℤ) {k : ℕ} → mag z < 2 ^ 7 → k ≡ places (to_z w8 (of_z w8 z)) → k ≡ places z
places-found z h e = e ∙ ap places (read_back w8 z h)

-- the scale that a call found of places
pub scale-found : {z : ℤ} (k : ℕ) {n : ℕ} → mag z < 2 ^ 7 → z ≡ scale_of k → k ≡ n → to_z w8 (of_z w8 z) ≡ scale_of n
scale-found {z} k h e f = read_back w8 z h ∙ e ∙ ap scale_of f

-- the difference of two magnitudes in range
pub mag-sub_ℕ : (a b n : ℕ) → a < n → b ≤ n → mag (sub_ℕ a b) < n
mag-sub_ℕ a b n h k = go (dec_lt a b)
  where
    go : Dec (a < b) → mag (sub_ℕ a b) < n
    go (yes l) = rw (lt-ltb a b l) (omega arith)
    go (no l) = let m : b ≤ a = omega arith in rw (le-ltb a b m) (omega arith)

-- the difference of two scales
mag-mixed : (a b n : ℕ) → a < n → b < n → mag (neg_ℤ (pos a) +ℤ pos b) < n
mag-mixed zero b n h k = omega arith
mag-mixed (suc a) b n h k = let l : suc a ≤ n = omega arith in mag-sub_ℕ b (suc a) n k l

mag-difference : (a b n : ℕ) → a < n → b < n → mag (scale_of a -ℤ scale_of b) < n
mag-difference a b n h k = rw (neg_ℤ-neg_ℤ (pos b)) (mag-mixed a b n h k)

-- the difference of two scales that calls found
module _ (a b : ℕ) (h : a ≤ 18) (k : b ≤ 18) {x y : ℤ} (e : x ≡ scale_of a) (f : y ≡ scale_of b) where
  within : mag (scale_of a -ℤ scale_of b) < 2 ^ 7
  within = mag-difference a b (2 ^ 7) (omega arith) (omega arith)

  pub difference-fits : SFits w8 (x -ℤ y)
  difference-fits = rw (e, f) (record { sfits = within })

  pub difference-found : to_z w8 (of_z w8 (x -ℤ y)) ≡ scale_of a -ℤ scale_of b
  difference-found = rw (e, f) (read_back w8 (scale_of a -ℤ scale_of b) within)

-- a number brought to so many places
pub rescaled-at : (k : ℕ) (a : Number) {m n : ℕ} → m ≡ k - places a.scale → n ≡ max k (places a.scale)
    → fitted (a.value *ℤ pos (10 ^ m)) (scale_of n) ≡ rescaled k a
unfolding rescaled
rescaled-at k a e f = ap₂ (λ (m n : ℕ). fitted (a.value *ℤ pos (10 ^ m)) (scale_of n)) e f
