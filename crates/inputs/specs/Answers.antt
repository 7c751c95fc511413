-- What the code's answers stand for, beside the slices that were lent.
use Rattle.std.specs.Prelude.{ℕ, ◌+◌, ◌-◌, ◌≤◌, ◌<◌, ◌≡◌, Bool, cond, List, ltb, ℤ, pos, length, take, drop, Option, Some, None, Result, Ok, Err}
use Rattle.wire.specs.Words.{byte_at, word_at, long_at, signed}
use Rattle.wire.specs.declared.codes.Width.{Width}
use Rattle.wire.specs.declared.codes.TextType.{TextType}
use Rattle.wire.specs.declared.codes.ReferenceCode.{ReferenceCode}
use Rattle.wire.specs.declared.codes.ReferenceCode.TheVariants.{Field, Fid, Parameter, Parameter2}
use Rattle.decimal.specs.declared.Number.{Number}
use Rattle.dictionary.specs.Dictionary.{name_at}
use Rattle.dictionary.specs.Naming.{Name, named, numbered}
use Rattle.dictionary.specs.Internal.Walk.{relation_at}
use Rattle.grammar.specs.Tree.{Reference, field, parameter, parameter2}
use Rattle.meaning.specs.Inputs as Inputs
use Rattle.meaning.specs.Inputs.{on_found, flagged, unless_flagged}
use Rattle.walking.specs.Walk as Walk
use Rattle.meaning.specs.declared.Source.{Source}
use Rattle.values.specs.declared.Held.{Held}
use Rattle.values.specs.declared.Date.{Date}
use Rattle.values.specs.declared.Stop.TheVariants.{Stray}
use Rattle.values.specs.declared.Value.{Value}
use Rattle.values.specs.Values.{Lent, Valued, source_in, datum, valued}
use Rattle.surroundings.specs.Parameters.{parameter_from}
use Rattle.surroundings.specs.Around.{slot_field, row_value}
use Rattle.surroundings.specs.Bindings.{cell, binding_relation, binding_record, bytes_bound}
use Rattle.inputs.specs.declared.Unread.{Unread}
use Rattle.inputs.specs.declared.Unread.TheVariants.{Malformed, Nothing}

-- what the code fetched
abbrev pub Fetched : Type 0
Fetched = Result Value Unread

-- what was fetched: a value, a malformed text, or nothing
abbrev pub fetched_in : Lent → Fetched → Inputs.Fetched
fetched_in m (Ok v) = Inputs.value (datum m v)
fetched_in m (Err Malformed) = Inputs.malformed
fetched_in m (Err Nothing) = Inputs.nothing

-- the answer stands for x, whatever is lent beside the bytes s of its source
abbrev pub Gives : Source → List ℕ → Fetched → Inputs.Fetched → Type 0
Gives source s r x = (m : Lent) → source_in m source ≡ s → fetched_in m r ≡ x

-- likewise, whatever is lent beside the records and the runs
abbrev pub GivesBound : List ℕ → List ℕ → Fetched → Inputs.Fetched → Type 0
GivesBound records runs r x = (m : Lent) → m.records ≡ records → m.runs ≡ runs → fetched_in m r ≡ x

-- the number of a width and a scale byte at a place, and a house reading
abbrev pub number_of : Width → ℕ → List ℕ → ℕ → Number
number_of w scale s p = record { value = Inputs.number_at w s p; scale = signed 1 scale }

abbrev pub reading_of : ℕ → List ℕ → ℕ → Number
reading_of scale s p = record { value = pos (word_at s p); scale = signed 1 scale }

-- a signed day, then an unsigned fraction
abbrev pub date_of : List ℕ → ℕ → Date
date_of s p = record { day = signed 4 (long_at s p); fraction = long_at s (p + 4) }

-- a place, or the end where it lies past it: what stands there is the same
unfoldable pub clamped : List ℕ → ℕ → ℕ
clamped s q = cond (ltb q (length s)) q (length s)

-- h holds those of the n bytes at p that the slice s has
pub record Holds (source : Source) (t : TextType) (n : ℕ) (s : List ℕ) (p : ℕ) (h : Held) : Type 0 where
  pub source_is : h.source ≡ source
  pub type_is : h.of ≡ t
  pub ordered : h.start ≤ h.end
  pub within : h.end ≤ length s
  pub bytes : take (h.end - h.start) (drop h.start s) ≡ take n (drop p s)

-- what follows a flag: `f` of whether it is zero
abbrev pub by_flag : Option Bool → (Bool → Inputs.Fetched) → Inputs.Fetched
by_flag (Some zero) f = f zero
by_flag None f = Inputs.nothing

-- a parameter with its flag, by the rows of the table
abbrev pub flagged_value : List ℕ → ℕ → List ℕ → ℕ → ℕ → ℕ → Inputs.Fetched
flagged_value t count images m i flag =
    on_found (parameter_from t m i count 0 0) (λ x. flagged (row_value t count images m flag) (unless_flagged x.0 images x.1))

-- field i of the record that a row binds, and the field of a name
abbrev pub row_field : List ℕ → List ℕ → List ℕ → List ℕ → ℕ → ℕ → Inputs.Fetched
row_field d t records runs row i =
    Inputs.field_in (relation_at d (cell t row binding_relation)) (bytes_bound t row records runs) (cell t row binding_record) i

abbrev pub row_named : List ℕ → List ℕ → List ℕ → List ℕ → Name → ℕ → Inputs.Fetched
row_named d t records runs n row =
    slot_field d (bytes_bound t row records runs) n (cell t row binding_relation) (cell t row binding_record)

-- the reference whose code stands at p, and the place after it
abbrev pub reference_in : List ℕ → ℕ → ReferenceCode → Reference
reference_in s p Field = field (byte_at s (p + 1)) (named (name_at s (p + 2)))
reference_in s p Fid = field (byte_at s (p + 1)) (numbered (word_at s (p + 2)))
reference_in s p Parameter = parameter (byte_at s (p + 1)) (word_at s (p + 2))
reference_in s p Parameter2 = parameter2 (byte_at s (p + 1)) (word_at s (p + 2)) (word_at s (p + 4))

abbrev pub reference_end : List ℕ → ℕ → ReferenceCode → ℕ
reference_end s p Field = p + 3 + byte_at s (p + 2)
reference_end s p Fid = p + 4
reference_end s p Parameter = p + 4
reference_end s p Parameter2 = p + 6

-- the reference whose code stands at p of the request; past its end no code stands
pub record Referred (m : Lent) (g : Reference → Inputs.Fetched) (p : ℕ) (c : ReferenceCode) (r : Valued) : Type 0 where
  pub inside : p < length m.request → valued m r ≡ Walk.reference_at g m.request p c
  pub past : length m.request ≤ p → r ≡ Err Stray
