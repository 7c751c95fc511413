-- The parameters of the messages, by the rows of the reader's table. 01: "Parameter row: message, parameter, type, scale byte, offset,
-- bytes held."
use Rattle.std.specs.Prelude.{ℕ, zero, suc, ◌+◌, ◌*◌, ◌-◌, ◌%◌, ◌<◌, Bool, true, false, ◌&&◌, List, [], ◌∷◌, eqb, get_or}
use Rattle.std.proofs.Math.Option.{Option, none, some, map}
use Rattle.wire.specs.Internal.Columns.{parameter_message, parameter_index, parameter_type, parameter_scale, parameter_held}
use Rattle.wire.specs.Limits.{parameter_row_numbers}
use Rattle.wire.specs.Classes.{Class, due, left_out, foreign, descriptor_class}
use Rattle.wire.specs.declared.codes.TextType.TheVariants.{Text, Varying, Cstring}
use Rattle.wire.specs.declared.codes.DataType.{DataType}
use Rattle.wire.specs.declared.codes.DataType.TheVariants.{Number, Date, Chars}
use Rattle.wire.specs.declared.codes.FieldType.TheVariants.{Plain}
use Rattle.dictionary.specs.Format.{Format}
use Rattle.grammar.specs.Tree.{Descriptor, Message}
use Rattle.grammar.specs.Environment.{descriptor_format}

-- the n of a type that holds so many bytes; 01: "text 14, varying 37, cstring 40, each with a word n (n, n+2, n bytes)"
abbrev pub size_held : DataType → ℕ → ℕ
size_held (Number w) n = n
size_held Date n = n
size_held (Chars Text) n = n
size_held (Chars Varying) n = n - 2
size_held (Chars Cstring) n = n

-- the format that a row's type, scale byte and bytes held say
unfoldable pub row_format : Class DataType → ℕ → ℕ → Option Format
row_format (due t) scale n = some (record { type = Plain t; scale = scale; size = size_held t n })
row_format left_out scale n = none
row_format foreign scale n = none

-- number k of a row
abbrev pub cell : List ℕ → ℕ → ℕ → ℕ
cell t row k = get_or t (row * parameter_row_numbers + k) 0

-- a format, and where its bytes stand
abbrev pub with_place : ℕ → Format → Format × ℕ
with_place p f = (f, p)

-- the row that is looked for, or what the rows after it give
abbrev pub row_found : Bool → Option Format → ℕ → Option (Format × ℕ) → Option (Format × ℕ)
row_found true f p rest = map (with_place p) f
row_found false f p rest = rest

-- whether a row is that of parameter i of message m
abbrev pub is_row : List ℕ → ℕ → ℕ → ℕ → Bool
is_row t m i row = eqb (cell t row parameter_message) m && eqb (cell t row parameter_index) i

-- parameter i of message m, in n rows of the table from a row on, whose bytes stand at p of the joined images: its format and its place.
-- 01: "Fields are packed with no gaps.", so that a row's bytes stand after those of the rows before it
unfoldable pub parameter_from : List ℕ → ℕ → ℕ → ℕ → ℕ → ℕ → Option (Format × ℕ)
parameter_from t m i zero row p = none
parameter_from t m i (suc n) row p =
    row_found (is_row t m i row)
    (row_format (descriptor_class (cell t row parameter_type)) (cell t row parameter_scale % 256) (cell t row parameter_held)) p
    (parameter_from t m i n (row + 1) (p + cell t row parameter_held))

-- the bytes that n rows from a row on hold
unfoldable pub held_from : List ℕ → ℕ → ℕ → ℕ
held_from t zero row = 0
held_from t (suc n) row = cell t row parameter_held + held_from t n (row + 1)

-- ---- scales

-- 01: "each with a signed scale byte"
abbrev pub ScaleByte : Descriptor → Type 0
ScaleByte d = (descriptor_format d).scale < 256

-- the scale of each of these is a byte
abbrev pub ScalesIn : List Descriptor → Type 0
ScalesIn [] = Unit {0}
ScalesIn (d ∷ ds) = ScaleByte d × ScalesIn ds

-- the scale of each parameter of the messages is a byte
abbrev pub ScaleBytes : List Message → Type 0
ScaleBytes [] = Unit {0}
ScaleBytes (m ∷ ms) = ScalesIn m.descriptors × ScaleBytes ms
