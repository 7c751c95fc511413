-- The spare bits of a record stand in one byte: they are 0 if what is left of it behind the fields' bits is.
use Prim.Native.Nat.{ℕ, zero, suc, ◌+◌, ◌*◌, ◌-◌, ◌/◌, ◌%◌, ◌^◌, ◌≤◌, ◌<◌}
use mathlib.Core.Path.{◌≡◌, refl, sym, ap, ◌∙◌}
use mathlib.Core.Bool.{Bool, true, not, ◌&&◌}
use mathlib.Core.List.{List}
use native.Mathlib.Omega.{arith}
use lib.Dec.{eqb}
use Rattle.wire.specs.Words.{byte_at}
use Rattle.records.specs.Record.{bit_at, bits_clear}
use Rattle.store.specs.Internal.Layouts.{spare_after}
use Rattle.store.proofs.Bits.{bit, below, below_true, same, same-is}

-- the n bits of a byte from k on are 0
unfoldable clear_from : ℕ → ℕ → ℕ → Bool
clear_from v k zero = true
clear_from v k (suc n) = not (bit v k) && clear_from v (k + 1) n

all_left : below 256 (λ v. below 8 (λ k. same (clear_from v k (8 - k)) (eqb (v / 2 ^ k) 0))) ≡ true
unfolding below clear_from
all_left = refl

left-clear : (v k : ℕ) → v < 256 → k < 8 → clear_from v k (8 - k) ≡ eqb (v / 2 ^ k) 0
left-clear v k h l =
    same-is (clear_from v k (8 - k)) (eqb (v / 2 ^ k) 0)
    (below_true 8 (λ j. same (clear_from v j (8 - j)) (eqb (v / 2 ^ j) 0)) k
    (below_true 256 (λ u. below 8 (λ j. same (clear_from u j (8 - j)) (eqb (u / 2 ^ j) 0))) v all_left h) l)

-- bits of one byte
one_byte : (s : List ℕ) (p i q k n : ℕ) → i / 8 ≡ q → i % 8 ≡ k → k + n ≤ 8 → bits_clear s p i n ≡ clear_from (byte_at s (p + 6 + q)) k n
unfolding bits_clear clear_from bit_at
one_byte s p i q k zero e f h = refl
one_byte s p i q k (suc zero) e f h = rw (e, f)
one_byte s p i q k (suc (suc n)) e f h =
    let e' : (i + 1) / 8 ≡ q = omega arith in
    let f' : (i + 1) % 8 ≡ k + 1 = omega arith in
    rw (e, f) (ap (λ z. not (bit (byte_at s (p + 6 + q)) k) && z) (one_byte s p (i + 1) q (k + 1) (suc n) e' f' (omega arith)))

pub no-spare : (s : List ℕ) (p n : ℕ) → n % 8 ≡ 0 → true ≡ spare_after s p n
unfolding spare_after bits_clear
no-spare s p n e = let z : 8 * ((n + 7) / 8) - n ≡ 0 = omega arith in rw z

pub spare-byte : (s : List ℕ) (p n v : ℕ) → (n % 8 ≡ 0 → ⊥) → v ≡ byte_at s (p + (6 + n / 8)) → v < 256 → eqb (v / 2 ^ (n % 8)) 0 ≡ spare_after s p n
unfolding spare_after
spare-byte s p n v h e b =
    let z : 8 * ((n + 7) / 8) - n ≡ 8 - n % 8 = omega (arith, h) in
    let k : n % 8 + (8 - n % 8) ≤ 8 = omega arith in
    let at : p + (6 + n / 8) ≡ p + 6 + n / 8 = omega arith in
    let w : v ≡ byte_at s (p + 6 + n / 8) = e ∙ ap (byte_at s) at in
    sym (ap (bits_clear s p n) z ∙ one_byte s p n (n / 8) (n % 8) (8 - n % 8) refl refl k ∙
    ap (λ x. clear_from x (n % 8) (8 - n % 8)) (sym w) ∙ left-clear v (n % 8) b (omega arith))
