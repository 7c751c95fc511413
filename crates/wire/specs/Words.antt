-- Numbers in bytes.
use Rattle.std.specs.Prelude.{ℕ, ◌+◌, ◌*◌, ◌-◌, ◌^◌, ◌/◌, ◌%◌, List, [], ◌∷◌, ◌++◌, cond, ltb, get_or, ℤ, pos}
use Rattle.std.proofs.Math.IntN.{sub_ℕ}

-- the byte at a place; 0 past the end
abbrev pub byte_at : List ℕ → ℕ → ℕ
byte_at s p = get_or s p 0

-- 01: "Words are little-endian."
abbrev pub word_at : List ℕ → ℕ → ℕ
word_at s p = byte_at s p + 256 * byte_at s (p + 1)

-- four bytes
abbrev pub long_at : List ℕ → ℕ → ℕ
long_at s p = word_at s p + 65536 * word_at s (p + 2)

-- eight bytes
abbrev pub int64_at : List ℕ → ℕ → ℕ
int64_at s p = long_at s p + 4294967296 * long_at s (p + 4)

-- the bytes of a word, of a four-byte number and of an eight-byte number
abbrev pub word_bytes : ℕ → List ℕ
word_bytes n = n % 256 ∷ n / 256 ∷ []

abbrev pub long_bytes : ℕ → List ℕ
long_bytes n = word_bytes (n % 65536) ++ word_bytes (n / 65536)

abbrev pub int64_bytes : ℕ → List ℕ
int64_bytes n = long_bytes (n % 4294967296) ++ long_bytes (n / 4294967296)

-- a number below twice `half`, in two's complement
abbrev pub twos : ℕ → ℕ → ℤ
twos half n = cond (ltb n half) (pos n) (sub_ℕ n (2 * half))

-- a number of w bytes, signed, over the width
unfoldable pub signed : ℕ → ℕ → ℤ
signed w n = twos (2 ^ (8 * w - 1)) n
