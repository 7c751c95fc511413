-- Sums and differences of scales as numbers of 8 and of 32 bits. Assumes nothing.
use Prim.Native.Nat.{ℕ, zero, suc, ◌^◌, ◌≤◌, ◌<◌}
use mathlib.Core.Path.{◌≡◌, ◌∙◌}
use mathlib.Core.Bool.{cond}
use native.Mathlib.Omega.{arith}
use native.Mathlib.Decide.{dec_lt}
use borrow.Author.Tests.{lt-ltb, le-ltb}
use lib.IntN.{ℤ, pos, negsuc, neg_ℤ, sub_ℕ, ◌+ℤ◌, ◌-ℤ◌}
use lib.Signed.{mag, lt_z}
use mir.Syntax.{w8, w32}
use mir.Val.{SFits, to_z, of_z}
use mir.Facts.{to_z-of_z}

abbrev wide : ℤ → ℤ
wide z = to_z w32 (of_z w32 (to_z w8 (of_z w8 z)))

grown : {z : ℤ} → SFits w8 z → SFits w32 z
grown f = let h = f.sfits in record { sfits = omega arith }

read_wide : {z : ℤ} → SFits w8 z → wide z ≡ z
read_wide f = rw (to_z-of_z f) (to_z-of_z (grown f))

mag-sub_ℕ : (a b n : ℕ) → a < n → b < n → mag (sub_ℕ a b) < n
mag-sub_ℕ a b n h k = go (dec_lt a b)
  where
    go : Dec (a < b) → mag (sub_ℕ a b) < n
    go (yes l) = rw (lt-ltb a b l) (omega arith)
    go (no l) = let m : b ≤ a = omega arith in rw (le-ltb a b m) (omega arith)

mag_sum : (a b : ℤ) → mag a < 256 → mag b < 256 → mag (a +ℤ b) < 2 ^ 31
mag_sum (pos a) (pos b) h k = omega arith
mag_sum (pos a) (negsuc b) h k = mag-sub_ℕ a (suc b) (2 ^ 31) (omega arith) (omega arith)
mag_sum (negsuc a) (pos b) h k = mag-sub_ℕ b (suc a) (2 ^ 31) (omega arith) (omega arith)
mag_sum (negsuc a) (negsuc b) h k = omega arith

mag-opposite : (a : ℤ) → mag a < 128 → mag (neg_ℤ a) < 256
mag-opposite (pos zero) h = omega arith
mag-opposite (pos (suc n)) h = omega arith
mag-opposite (negsuc n) h = omega arith

module _ {a b : ℤ} (f : SFits w8 a) (g : SFits w8 b) where
  sum-in : SFits w32 (a +ℤ b)
  sum-in =
      let h : mag a < 128 = f.sfits in
      let k : mag b < 128 = g.sfits in
      record { sfits = mag_sum a b (omega arith) (omega arith) }

  difference-in : SFits w32 (a -ℤ b)
  difference-in =
      let h : mag a < 128 = f.sfits in
      record { sfits = mag_sum a (neg_ℤ b) (omega arith) (mag-opposite b g.sfits) }

  pub read-difference : to_z w32 (of_z w32 (wide a -ℤ wide b)) ≡ a -ℤ b
  read-difference = rw (read_wide f, read_wide g) (to_z-of_z difference-in)

  pub read-sum : to_z w32 (of_z w32 (wide a +ℤ wide b)) ≡ a +ℤ b
  read-sum = rw (read_wide f, read_wide g) (to_z-of_z sum-in)

  pub read-smaller : {r : ℤ} → SFits w32 r → r ≡ cond (lt_z (wide a) (wide b)) (wide a) (wide b) → to_z w32 (of_z w32 r) ≡ cond (lt_z a b) a b
  read-smaller h e = to_z-of_z h ∙ rw (read_wide f, read_wide g) at e
