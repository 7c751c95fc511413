-- The kind of a value on its bytes, by the contexts in scope there and the table of parameters; and the kinds of the numbers of statistics,
-- in the table of bindings.
use Rattle.std.specs.Prelude.{ℕ, zero, suc, ◌+◌, ◌*◌, Bool, true, false, cond, List, leb, ℤ, pos, negsuc, set}
use Rattle.std.proofs.Math.Option.{Option, none, some, map}
use Rattle.wire.specs.Words.{byte_at, word_at, signed}
use Rattle.wire.specs.Lists.{◌and_then◌}
use Rattle.wire.specs.Limits.{max_depth}
use Rattle.wire.specs.Classes.{Class, value_class, literal_class}
use Rattle.wire.specs.declared.codes.Version.{Version}
use Rattle.wire.specs.declared.codes.Operator.{Operator}
use Rattle.wire.specs.declared.codes.LiteralType.{LiteralType}
use Rattle.wire.specs.declared.codes.LiteralType.TheVariants.{NumberLiteral, TextLiteral}
use Rattle.wire.specs.declared.codes.ReferenceCode.{ReferenceCode}
use Rattle.wire.specs.declared.codes.ReferenceCode.TheVariants.{Field, Fid, Parameter, Parameter2}
use Rattle.wire.specs.declared.codes.ValueCode.{ValueCode}
use Rattle.wire.specs.declared.codes.ValueCode.TheVariants as Code
use Rattle.dictionary.specs.Format.{Format, width_bytes}
use Rattle.dictionary.specs.Dictionary.{Relation, name_at}
use Rattle.dictionary.specs.Naming.{Name, named, numbered, field_of, format_of}
use Rattle.dictionary.specs.Internal.Walk.{relation_at}
use Rattle.grammar.specs.declared.Kind.{Kind}
use Rattle.grammar.specs.declared.Kind.TheVariants.{Number, Text, Date}
use Rattle.grammar.specs.Kinds.{format_kind, field_kind, flagged, arithmetic_kind, negated_kind}
use Rattle.grammar.specs.Tree.{Reference, field, parameter, parameter2}
use Rattle.walking.specs.Walk.{version_at}
use Rattle.surroundings.specs.Parameters.{parameter_from}
use Rattle.surroundings.specs.Bindings.{cell, rows_in, binding_row_numbers, binding_code, binding_after, binding_kind, text_kind, date_kind}
use Rattle.kinds.specs.Spans.{Span, spans_in, span_around, span_coded}

-- the kind of what stands at a place, if it has one, and the place after it
pub record Kinded : Type 0 where
  pub kind : Option Kind
  pub end : ℕ

abbrev pub kinded : Option Kind → ℕ → Kinded
kinded k q = record { kind = k; end = q }

abbrev pub on_class : {A : Type 0} → Class A → ℕ → (A → Kinded) → Kinded
on_class (Class.due k) p f = f k
on_class Class.left_out p f = kinded none p
on_class Class.foreign p f = kinded none p

-- ---- literals and references

-- a literal whose type stands at p
abbrev pub literal_under : List ℕ → ℕ → LiteralType → Kinded
literal_under s p (NumberLiteral w) = kinded (some (Number (signed 1 (byte_at s (p + 1))))) (p + 2 + width_bytes w)
literal_under s p TextLiteral = kinded (some Text) (p + 3 + word_at s (p + 1))

unfoldable pub literal_at : List ℕ → ℕ → Kinded
literal_at s p = on_class (literal_class (byte_at s p)) p (literal_under s p)

-- a reference whose code stands at p; `g` gives the kind of each
unfoldable pub reference_at : (Reference → Option Kind) → List ℕ → ℕ → ReferenceCode → Kinded
reference_at g s p Field = kinded (g (field (byte_at s (p + 1)) (named (name_at s (p + 2))))) (p + 3 + byte_at s (p + 2))
reference_at g s p Fid = kinded (g (field (byte_at s (p + 1)) (numbered (word_at s (p + 2))))) (p + 4)
reference_at g s p Parameter = kinded (g (parameter (byte_at s (p + 1)) (word_at s (p + 2)))) (p + 4)
reference_at g s p Parameter2 = kinded (g (parameter2 (byte_at s (p + 1)) (word_at s (p + 2)) (word_at s (p + 4)))) (p + 6)

-- the kind of a field of a relation, in a request of a version
abbrev pub kind_of_field : Version → Relation → Name → Option Kind
kind_of_field v r n = (field_of r n and_then format_of r) and_then field_kind v

-- of a field of the context of a span
abbrev pub span_kind : Version → List ℕ → Name → Option Span → Option Kind
span_kind v d n none = none
span_kind v d n (some x) = kind_of_field v (relation_at d x.relation) n

abbrev pub format_found : Format × ℕ → Kind
format_found x = format_kind x.0

-- parameter i of message m, in so many rows of the table
abbrev pub row_kind : List ℕ → ℕ → ℕ → ℕ → Option Kind
row_kind parameters count m i = map format_found (parameter_from parameters m i count 0 0)

-- dictionary, parameter table and its rows, spans, version: the kind of a reference that stands at p
unfoldable pub kind_given : List ℕ → List ℕ → ℕ → List Span → Version → ℕ → Reference → Option Kind
kind_given d parameters count xs v p (field c n) = span_kind v d n (span_around xs c p)
kind_given d parameters count xs v p (parameter m i) = row_kind parameters count m i
kind_given d parameters count xs v p (parameter2 m i flag) = flagged (row_kind parameters count m flag) (row_kind parameters count m i)

-- ---- values

-- two values, the second of which stands after the first
abbrev pub joined_kinds : Version → Operator → Kinded → Kinded → Kinded
joined_kinds v o x y = kinded (arithmetic_kind v o x.kind y.kind) y.end

abbrev pub operands : Version → Operator → Kinded → (ℕ → Kinded) → Kinded
operands v o x inner = joined_kinds v o x (inner x.end)

abbrev pub opposite : Kinded → Kinded
opposite x = kinded (negated_kind x.kind) x.end

-- a statistic and a count whose code stands at p, by the span of that code
abbrev pub statistic_at : Option Span → ℕ → (ℕ → Kinded) → Kinded
statistic_at none p inner = kinded none p
statistic_at (some x) p inner = kinded (negated_kind (inner x.after).kind) x.end

abbrev pub count_at : Option Span → ℕ → Kinded
count_at none p = kinded none p
count_at (some x) p = kinded (some (Number (pos 0))) x.end

-- what stands under a value's code at p; `inner` gives the values one level down, and x is the span of the code
unfoldable pub kind_under : (Reference → Option Kind) → (ℕ → Kinded) → Option Span → List ℕ → ℕ → ValueCode → Kinded
kind_under g inner x s p Code.Literal = literal_at s (p + 1)
kind_under g inner x s p (Code.Reference c) = reference_at g s p c
kind_under g inner x s p (Code.Arithmetic o) = operands (version_at s) o (inner (p + 1)) inner
kind_under g inner x s p Code.Negate = opposite (inner (p + 1))
kind_under g inner x s p (Code.Statistic k) = statistic_at x p inner
kind_under g inner x s p Code.Count = count_at x p

-- dictionary, parameter table and its rows, spans: the kind of the value at a place, with so many levels left
unfoldable pub kind_at : List ℕ → List ℕ → ℕ → List Span → ℕ → List ℕ → ℕ → Kinded
kind_at d parameters count xs zero s p = kinded none p
kind_at d parameters count xs (suc l) s p =
    on_class (value_class (byte_at s p)) p
    (λ k. kind_under (kind_given d parameters count xs (version_at s) p) (λ q. kind_at d parameters count xs l s q) (span_coded xs p) s p k)

-- ---- the column

-- a scale and a kind as a number; `kind_if` has the kind of a number
unfoldable pub scale_number : ℤ → ℕ
scale_number (pos zero) = 1
scale_number (pos (suc n)) = 0
scale_number (negsuc n) = cond (leb n 17) (n + 2) 0

unfoldable pub kind_number : Option Kind → ℕ
kind_number none = 0
kind_number (some (Number z)) = scale_number z
kind_number (some Text) = text_kind
kind_number (some Date) = date_kind

-- a statistic that takes a number
abbrev pub takes_number : Class ValueCode → Bool
takes_number (Class.due Code.Literal) = false
takes_number (Class.due (Code.Reference c)) = false
takes_number (Class.due (Code.Arithmetic o)) = false
takes_number (Class.due Code.Negate) = false
takes_number (Class.due (Code.Statistic k)) = true
takes_number (Class.due Code.Count) = false
takes_number Class.left_out = false
takes_number Class.foreign = false

-- the table with a kind in the column of a row
abbrev pub with_kind : List ℕ → ℕ → Option Kind → List ℕ
with_kind t row k = set t (row * binding_row_numbers + binding_kind) (kind_number k)

-- with the kind of the number of a row's statistic
unfoldable pub row_noted : List ℕ → List ℕ → ℕ → List ℕ → List ℕ → ℕ → List ℕ
row_noted d parameters count s t row =
    cond (takes_number (value_class (byte_at s (cell t row binding_code))))
    (with_kind t row (kind_at d parameters count (spans_in t) max_depth s (cell t row binding_after)).kind) t

-- of n rows, from a row on
unfoldable pub kinds_noted : List ℕ → List ℕ → ℕ → List ℕ → ℕ → ℕ → List ℕ → List ℕ
kinds_noted d parameters count s zero row t = t
kinds_noted d parameters count s (suc n) row t = kinds_noted d parameters count s n (row + 1) (row_noted d parameters count s t row)
