-- A byte in two's complement is from -128 to 127.
use Prim.Native.Nat.{ℕ, ◌<◌, ◌≤◌}
use native.Mathlib.Omega.{arith}
use native.Mathlib.Decide.{dec_lt}
use borrow.Author.Tests.{lt-ltb, le-ltb}
use lib.Signed.{mag}
use Rattle.wire.specs.Words.{twos}

pub byte-in : (n : ℕ) → n < 256 → mag (twos 128 n) < 128
byte-in n h = go (dec_lt n 128)
  where
    go : Dec (n < 128) → mag (twos 128 n) < 128
    go (yes l) = rw (lt-ltb n 128 l) l
    go (no g) = let k : 128 ≤ n = omega arith in rw (le-ltb n 128 k, lt-ltb n 256 h) (omega arith)
