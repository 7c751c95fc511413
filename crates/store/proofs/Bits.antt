-- A bit of a byte, set: computed for every byte and every two bits.
use Prim.Native.Nat.{ℕ, zero, suc, ◌+◌, ◌*◌, ◌/◌, ◌%◌, ◌^◌, ◌<◌}
use mathlib.Core.Path.{◌≡◌, refl, sym, ap, ◌∙◌}
use mathlib.Core.Bool.{Bool, true, false, ◌&&◌, ◌||◌}
use native.Mathlib.Omega.{arith}
use lib.Dec.{eqb, ltb}
use borrow.Author.Tests.{ltb-true, eqb-true, eqb-false}
use Rattle.dictionary.proofs.Tests.{both_left, both_right}

-- every number below n passes
unfoldable pub below : ℕ → (ℕ → Bool) → Bool
below zero t = true
below (suc n) t = t n && below n t

below_by : (n : ℕ) (t : ℕ → Bool) (i : ℕ) (b : Bool) → eqb i n ≡ b → t n ≡ true → (i < n → t i ≡ true) → i < suc n → t i ≡ true
below_by n t i true e last rest h = ap t (eqb-true i n e) ∙ last
below_by n t i false e last rest h = rest (omega (arith, eqb-false i n e))

pub below_true : (n : ℕ) (t : ℕ → Bool) (i : ℕ) → below n t ≡ true → i < n → t i ≡ true
unfolding below
below_true zero t i e h = absurd (omega arith)
below_true (suc n) t i e h =
    below_by n t i (eqb i n) refl (both_left (t n) (below n t) e) (below_true n t i (both_right (t n) (below n t) e)) h

-- bit k of a byte
abbrev pub bit : ℕ → ℕ → Bool
bit v k = eqb (v / 2 ^ k % 2) 1

abbrev pub same : Bool → Bool → Bool
same true true = true
same true false = false
same false true = false
same false false = true

pub same-is : (a b : Bool) → same a b ≡ true → a ≡ b
same-is true true e = refl
same-is true false e = sym e
same-is false true e = e
same-is false false e = refl

-- with bit k clear: bit m of the byte with bit k set, and that it is a byte
abbrev tried : ℕ → ℕ → ℕ → Bool
tried v k m = bit v k || same (bit (v + 2 ^ k) m) (eqb k m || bit v m) && ltb (v + 2 ^ k) 256

all-tried : below 256 (λ v. below 8 (λ k. below 8 (tried v k))) ≡ true
unfolding below
all-tried = refl

module _ (v k m : ℕ) (byte : v < 256) (low : k < 8) (low' : m < 8) (clear : bit v k ≡ false) where
  one : same (bit (v + 2 ^ k) m) (eqb k m || bit v m) && ltb (v + 2 ^ k) 256 ≡ true
  one =
      let all : tried v k m ≡ true =
      below_true 8 (tried v k) m
      (below_true 8 (λ j. below 8 (tried v j)) k (below_true 256 (λ u. below 8 (λ j. below 8 (tried u j))) v all-tried byte) low) low' in
      rw clear at all

  pub bit-set : bit (v + 2 ^ k) m ≡ eqb k m || bit v m
  bit-set = same-is _ _ (both_left _ _ one)

  pub set-byte : v + 2 ^ k < 256
  set-byte = ltb-true _ _ (both_right (same (bit (v + 2 ^ k) m) (eqb k m || bit v m)) _ one)

powers-fit : below 8 (λ k. eqb (1 * 2 ^ k % 256) (2 ^ k)) ≡ true
unfolding below
powers-fit = refl

-- a bit as a byte
pub power-is : (k : ℕ) → k < 8 → 1 * 2 ^ k % 256 ≡ 2 ^ k
power-is k h = eqb-true (1 * 2 ^ k % 256) (2 ^ k) (below_true 8 (λ j. eqb (1 * 2 ^ j % 256) (2 ^ j)) k powers-fit h)
