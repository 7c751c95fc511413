-- How the bytes of a field or a parameter are laid out: a type, a scale and a size.
use Rattle.std.specs.Prelude.{ℕ, ◌+◌, Bool, ◌&&◌, eqb, leb, ℤ, pos}
use Rattle.std.specs.Int.Signed.{le_z}
use Rattle.wire.specs.Words.{signed}
use Rattle.wire.specs.Limits.{min_scale, min_int64_scale, max_text_bytes, short_size, long_size, int64_size, date_size, length_word, reading_size}
use Rattle.wire.specs.declared.codes.Width.{Width}
use Rattle.wire.specs.declared.codes.Width.TheVariants.{Short, Long, Int64}
use Rattle.wire.specs.declared.codes.TextType.{TextType}
use Rattle.wire.specs.declared.codes.TextType.TheVariants.{Text, Varying, Cstring}
use Rattle.wire.specs.declared.codes.DataType.TheVariants.{Number, Date, Chars}
use Rattle.wire.specs.declared.codes.FieldType.{FieldType}
use Rattle.wire.specs.declared.codes.FieldType.TheVariants.{Plain, Reading}

-- the type, the scale byte as it stands, and the size word
pub record Format : Type 0 where
  pub type : FieldType
  pub scale : ℕ
  pub size : ℕ

-- 01: "short 7 and long 8 .. (2 and 4 bytes)"; 02, No. 8: "type 16, a 64-bit integer of 8 bytes"
abbrev pub width_bytes : Width → ℕ
width_bytes Short = short_size
width_bytes Long = long_size
width_bytes Int64 = int64_size

-- 01: "text 14, varying 37, cstring 40, each with a word n (n, n+2, n bytes)"
abbrev pub text_bytes : TextType → ℕ → ℕ
text_bytes Text n = n
text_bytes Varying n = n + length_word
text_bytes Cstring n = n

-- 01: "date 35 (8 bytes)"; "a house reading: 2 bytes, unsigned, with scale"
abbrev pub type_bytes : FieldType → ℕ → ℕ
type_bytes (Plain (Number w)) n = width_bytes w
type_bytes (Plain Date) n = date_size
type_bytes (Plain (Chars t)) n = text_bytes t n
type_bytes Reading n = reading_size

-- the bytes that a format holds
unfoldable pub held : Format → ℕ
held f = type_bytes f.type f.size

-- 01: "Scales -9 to 0"; 02, No. 8: type 16 "with a scale of -18 to 0"
abbrev pub least_scale : Width → ℤ
least_scale Short = min_scale
least_scale Long = min_scale
least_scale Int64 = min_int64_scale

unfoldable pub scale_in_range : Width → ℕ → Bool
scale_in_range w b = le_z (least_scale w) (signed 1 b) && le_z (signed 1 b) (pos 0)

-- 01: "Text n 1–255."
unfoldable pub size_in_range : ℕ → Bool
size_in_range n = leb 1 n && leb n max_text_bytes

-- 01: "size word (2, 4, 8 or n)"; "A scale is -9 to 0, and 0 for text and date."; a house reading has the scales of its two bytes
abbrev pub fitting : FieldType → ℕ → ℕ → Bool
fitting (Plain (Number w)) scale size = scale_in_range w scale && eqb size (width_bytes w)
fitting (Plain Date) scale size = eqb scale 0 && eqb size date_size
fitting (Plain (Chars t)) scale size = eqb scale 0 && size_in_range size
fitting Reading scale size = scale_in_range Short scale && eqb size reading_size
