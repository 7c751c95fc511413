-- Past the end of a list every byte and every word is 0.
use mathlib.Core.Path.{◌≡◌, sym}
use mathlib.Core.List.{List}
use Prim.Native.Nat.{ℕ, ◌+◌, ◌≤◌}
use native.Mathlib.Omega.{arith}
use lib.ListN.{length, get_or-eq_default}
use Rattle.wire.specs.Words.{byte_at, word_at}

pub past : (s : List ℕ) (p : ℕ) → length s ≤ p → 0 ≡ byte_at s p
past s p h = sym (get_or-eq_default s 0 h)

pub word-past : (s : List ℕ) (p : ℕ) → length s ≤ p → 0 ≡ word_at s p
word-past s p h =
    let a : 0 ≡ byte_at s p = past s p h in
    let b : 0 ≡ byte_at s (p + 1) = past s (p + 1) (omega arith) in
    omega arith
