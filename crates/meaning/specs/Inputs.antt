-- What messages and records hold: the value of each field and parameter.
use Rattle.std.specs.Prelude.{ℕ, zero, suc, ◌+◌, Bool, true, false, cond, List, [], ◌∷◌, eqb, ℤ, pos, negsuc, length, take, drop, Option as Maybe, Some, None}
use Rattle.std.proofs.Math.Option.{Option, none, some}
use Rattle.std.proofs.Math.ListN.{get_elem?}
use Rattle.wire.specs.Words.{word_at, long_at, int64_at, signed}
use Rattle.wire.specs.Lists.{index_of, sum_of, ◌and_then◌}
use Rattle.wire.specs.declared.codes.Width.{Width}
use Rattle.wire.specs.declared.codes.Width.TheVariants.{Short, Long, Int64}
use Rattle.wire.specs.declared.codes.TextType.{TextType}
use Rattle.wire.specs.declared.codes.DataType.TheVariants as Data
use Rattle.wire.specs.declared.codes.FieldType.{FieldType}
use Rattle.wire.specs.declared.codes.FieldType.TheVariants.{Plain, Reading}
use Rattle.text.specs.Value.{TextPart, text_part, part_of, kept}
use Rattle.dictionary.specs.Format.{Format, text_bytes}
use Rattle.dictionary.specs.Dictionary.{Relation}
use Rattle.dictionary.specs.Naming.{Name, field_of, format_of}
use Rattle.records.specs.declared.missing.Cause.{Cause}
use Rattle.records.specs.declared.missing.Cause.TheVariants as Cause
use Rattle.records.specs.Record.{record_length, field_place, field_presence}
use Rattle.grammar.specs.Tree.{Descriptor, Message, Literal, Reference, field, parameter, parameter2}
use Rattle.grammar.specs.Environment.{Context, Scope, descriptor_format}
use Rattle.grammar.specs.Sizes.{descriptors_size, message_size}
use Rattle.meaning.specs.declared.Kind.{Kind}
use Rattle.meaning.specs.declared.Kind.TheVariants as Kind
use Rattle.meaning.specs.Data.{Datum, number, text, date, absent}

-- what a reference gives: a value, a malformed text, or that there is no such thing
pub data Fetched : Type 0 where
  value : Datum → Fetched
  malformed : Fetched
  nothing : Fetched

abbrev pub on_found : {A : Type 0} → Option A → (A → Fetched) → Fetched
on_found none f = nothing
on_found (some x) f = f x

-- ---- the bytes of a format

abbrev pub number_at : Width → List ℕ → ℕ → ℤ
number_at Short s p = signed 2 (word_at s p)
number_at Long s p = signed 4 (long_at s p)
number_at Int64 s p = signed 8 (int64_at s p)

abbrev pub text_found : List ℕ → TextPart → Fetched
text_found s (Some (start, end)) = value (text (part_of s start end))
text_found s None = malformed

abbrev pub text_in : List ℕ → TextType → Fetched
text_in s t = text_found s (text_part t s)

abbrev pub type_value : FieldType → ℕ → ℕ → List ℕ → ℕ → Fetched
type_value (Plain (Data.Number w)) scale n s p = value (number (record { value = number_at w s p; scale = signed 1 scale }))
type_value (Plain Data.Date) scale n s p = value (date (signed 4 (long_at s p)) (long_at s (p + 4)))
type_value (Plain (Data.Chars t)) scale n s p = text_in (take (text_bytes t n) (drop p s)) t
type_value Reading scale n s p = value (number (record { value = pos (word_at s p); scale = signed 1 scale }))

-- the value of a format whose bytes stand at p
unfoldable pub value_at : Format → List ℕ → ℕ → Fetched
value_at f s p = type_value f.type f.scale f.size s p

-- the kind of what a format holds
abbrev pub type_kind : FieldType → Kind
type_kind (Plain (Data.Number w)) = Kind.Number
type_kind (Plain Data.Date) = Kind.Date
type_kind (Plain (Data.Chars t)) = Kind.Text
type_kind Reading = Kind.Number

unfoldable pub kind_held : Format → Kind
kind_held f = type_kind f.type

-- 01: "The value of a missing field or parameter2 isn't read."
abbrev pub unless_missing : Maybe Cause → Format → List ℕ → ℕ → Fetched
unless_missing (Some w) f s p = value (absent (kind_held f) w)
unless_missing None f s p = value_at f s p

abbrev pub numeral : Width → ℕ → ℤ
numeral Short n = signed 2 n
numeral Long n = signed 4 n
numeral Int64 n = signed 8 n

-- a literal; trailing blanks are no part of a text
unfoldable pub literal_value : Literal → Datum
literal_value (Literal.number w scale n) = number (record { value = numeral w n; scale = signed 1 scale })
literal_value (Literal.text t) = text (part_of t 0 (kept t 0 (length t)))

-- ---- records: "one record for each context in scope in declaration order"

abbrev pub length_of : Option Relation → ℕ
length_of none = 0
length_of (some r) = record_length r

-- where the record of the k-th context stands
unfoldable pub record_place : List Context → ℕ → ℕ
record_place xs k = sum_of (λ x. length_of x.relation) (take k xs)

-- field i of a relation, in the record at p
unfoldable pub field_in : Relation → List ℕ → ℕ → ℕ → Fetched
field_in r s p i = on_found (format_of r i) (λ f. unless_missing (field_presence r f s p i) f s (field_place r p i))

-- the field that a name says, of a context's relation if that is known
abbrev pub field_named : Option Relation → Name → List ℕ → ℕ → Fetched
field_named r n s p = on_found r (λ r. on_found (field_of r n) (field_in r s p))

unfoldable pub field_value : List Context → List ℕ → ℕ → Name → Fetched
field_value xs s c n =
    on_found (index_of (λ x. eqb x.number c) xs) (λ k.
    field_named (get_elem? xs k and_then λ x. x.relation) n s (record_place xs k))

-- ---- messages: "all message images in declaration order"

-- where the image of the k-th message stands, and parameter i in it
abbrev pub parameter_place : List Message → ℕ → List Descriptor → ℕ → ℕ
parameter_place ms k ds i = sum_of message_size (take k ms) + descriptors_size (take i ds)

-- parameter i of message m: its format and its place
unfoldable pub parameter_at : List Message → ℕ → ℕ → Option (Format × ℕ)
parameter_at ms m i =
    index_of (λ x. eqb x.number m) ms and_then λ k.
    get_elem? ms k and_then λ x.
    get_elem? x.descriptors i and_then λ d.
    some (descriptor_format d, parameter_place ms k x.descriptors i)

unfoldable pub parameter_value : List Message → List ℕ → ℕ → ℕ → Fetched
parameter_value ms s m i = on_found (parameter_at ms m i) (λ x. value_at x.0 s x.1)

abbrev pub is_zero : ℤ → Bool
is_zero (pos zero) = true
is_zero (pos (suc n)) = false
is_zero (negsuc n) = false

-- 01: "parameter2 is missing if its flag isn't zero"
abbrev pub flagged : Fetched → (Bool → Fetched) → Fetched
flagged (value (number a)) f = f (is_zero a.value)
flagged (value (text t)) f = nothing
flagged (value (date d g)) f = nothing
flagged (value (absent k w)) f = nothing
flagged malformed f = nothing
flagged nothing f = nothing

-- the flag is zero, or is the cause
abbrev pub unless_flagged : Format → List ℕ → ℕ → Bool → Fetched
unless_flagged f s p true = value_at f s p
unless_flagged f s p false = value (absent (kind_held f) Cause.Flag)

-- ---- what a reference names

unfoldable pub fetch : List Message → Scope → List ℕ → List ℕ → Reference → Fetched
fetch ms sc images records (field c n) = field_value sc.contexts records c n
fetch ms sc images records (parameter m i) = parameter_value ms images m i
fetch ms sc images records (parameter2 m i flag) =
    on_found (parameter_at ms m i) (λ x. flagged (parameter_value ms images m flag) (unless_flagged x.0 images x.1))
