-- The kind of a value, and which kinds fit: 01, "Scope and kind".
use Rattle.std.specs.Prelude.{ℕ, ◌≡◌, Bool, true, false, cond, ◌&&◌, ℤ, pos, ◌+ℤ◌, ◌-ℤ◌}
use Rattle.std.proofs.Math.Option.{Option, none, some, map}
use Rattle.std.specs.Int.Signed.{lt_z, le_z}
use Rattle.wire.specs.Words.{signed}
use Rattle.wire.specs.Limits.{min_arithmetic_scale}
use Rattle.wire.specs.Lists.{is_some, ◌and_then◌}
use Rattle.wire.specs.Versions.{field_due}
use Rattle.wire.specs.declared.codes.Version.{Version}
use Rattle.wire.specs.declared.codes.Version.TheVariants.{Version4, Version5}
use Rattle.wire.specs.declared.codes.Operator.{Operator}
use Rattle.wire.specs.declared.codes.Operator.TheVariants.{Add, Subtract, Multiply, Divide}
use Rattle.wire.specs.declared.codes.DataType.TheVariants as Data
use Rattle.wire.specs.declared.codes.FieldType.{FieldType}
use Rattle.wire.specs.declared.codes.FieldType.TheVariants.{Plain, Reading}
use Rattle.dictionary.specs.Format.{Format}
use Rattle.grammar.specs.declared.Kind.{Kind}
use Rattle.grammar.specs.declared.Kind.TheVariants.{Number, Text, Date}
use Rattle.grammar.specs.Tree.{Literal, Reference, field, parameter, parameter2, Value, literal, reference, arithmetic, negate, statistic, count}
use Rattle.grammar.specs.Bytes.{statistic_code}
use Rattle.grammar.specs.Environment.{Environment, Scope, under_rse_of, parameter_format, field_format}

-- ---- the kind of a value, if its parts fit

abbrev pub type_kind : FieldType → ℕ → Kind
type_kind (Plain (Data.Number w)) scale = Number (signed 1 scale)
type_kind (Plain Data.Date) scale = Date
type_kind (Plain (Data.Chars t)) scale = Text
type_kind Reading scale = Number (signed 1 scale)

unfoldable pub format_kind : Format → Kind
format_kind f = type_kind f.type f.scale

-- 02, No. 8: "a type 16 field may stand in a dictionary but a version 4 request that names it gets 13"
unfoldable pub field_kind : Version → Format → Option Kind
field_kind v f = cond (field_due v f.type) (some (format_kind f)) none

unfoldable pub literal_kind : Literal → Kind
literal_kind (Literal.number w scale n) = Number (signed 1 scale)
literal_kind (Literal.text t) = Text

-- 01: "a flag a number"
abbrev pub flagged : Option Kind → Option Kind → Option Kind
flagged (some (Number s)) k = k
flagged (some Text) k = none
flagged (some Date) k = none
flagged none k = none

abbrev pub parameter_kind : Environment → ℕ → ℕ → Option Kind
parameter_kind e m i = map format_kind (parameter_format e m i)

unfoldable pub reference_kind : Environment → Scope → Reference → Option Kind
reference_kind e sc (field c n) = field_format sc c n and_then field_kind e.version
reference_kind e sc (parameter m i) = parameter_kind e m i
reference_kind e sc (parameter2 m i flag) = flagged (parameter_kind e m flag) (parameter_kind e m i)

-- 01: "Add and subtract take the smaller scale, multiply the sum, divide first minus second."; 02, No. 8: "A quotient has the sum of the
-- two scales"; "Version 4 keeps its divide rule"
abbrev pub result_scale : Version → Operator → ℤ → ℤ → ℤ
result_scale v Add a b = cond (lt_z a b) a b
result_scale v Subtract a b = cond (lt_z a b) a b
result_scale v Multiply a b = a +ℤ b
result_scale Version4 Divide a b = a -ℤ b
result_scale Version5 Divide a b = a +ℤ b

-- 01: "arithmetic -18 to 0"
abbrev pub arithmetic_range : ℤ → Option Kind
arithmetic_range s = cond (le_z min_arithmetic_scale s && le_z s (pos 0)) (some (Number s)) none

-- what a negate or a statistic makes of a kind; 01: "arithmetic numbers"; 02, No. 9: "at the statistic's code 13 over text or date"
abbrev pub negated_kind : Option Kind → Option Kind
negated_kind (some (Number s)) = some (Number s)
negated_kind (some Text) = none
negated_kind (some Date) = none
negated_kind none = none

abbrev pub second_operand : Version → Operator → ℤ → Option Kind → Option Kind
second_operand v o a (some (Number b)) = arithmetic_range (result_scale v o a b)
second_operand v o a (some Text) = none
second_operand v o a (some Date) = none
second_operand v o a none = none

unfoldable pub arithmetic_kind : Version → Operator → Option Kind → Option Kind → Option Kind
arithmetic_kind v o (some (Number a)) k = second_operand v o a k
arithmetic_kind v o (some Text) k = none
arithmetic_kind v o (some Date) k = none
arithmetic_kind v o none k = none

-- 02, No. 9: "the scope reaching over the number"; a count is a number of scale 0
unfoldable pub kind_of : Environment → Scope → Value → Option Kind
kind_of e sc (literal l) = some (literal_kind l)
kind_of e sc (reference r) = reference_kind e sc r
kind_of e sc (arithmetic o v w) = arithmetic_kind e.version o (kind_of e sc v) (kind_of e sc w)
kind_of e sc (negate v) = negated_kind (kind_of e sc v)
kind_of e sc (statistic k r v) = negated_kind (kind_of e (under_rse_of e.relations (statistic_code k) sc r) v)
kind_of e sc (count r) = some (Number (pos 0))

-- ---- tests, which reading makes too

abbrev pub alike : Kind → Kind → Bool
alike (Number a) (Number b) = true
alike (Number a) Text = false
alike (Number a) Date = false
alike Text (Number b) = false
alike Text Text = true
alike Text Date = false
alike Date (Number b) = false
alike Date Text = false
alike Date Date = true

-- 01: "Comparisons and between want one kind"; "an assignment one kind"
unfoldable pub one_kind : Option Kind → Option Kind → Bool
one_kind (some a) (some b) = alike a b
one_kind (some a) none = false
one_kind none b = false

-- 01: "53–55 text"
unfoldable pub both_text : Option Kind → Option Kind → Bool
both_text a b = one_kind a (some Text) && one_kind b (some Text)

unfoldable pub all_one_kind : Option Kind → Option Kind → Option Kind → Bool
all_one_kind a b c = one_kind a b && one_kind a c

-- ---- the rules

-- the parts of a value fit
abbrev pub Fits : Environment → Scope → Value → Type 0
Fits e sc v = is_some (kind_of e sc v) ≡ true

abbrev pub OneKind : Environment → Scope → Value → Value → Type 0
OneKind e sc v w = one_kind (kind_of e sc v) (kind_of e sc w) ≡ true

abbrev pub BothText : Environment → Scope → Value → Value → Type 0
BothText e sc v w = both_text (kind_of e sc v) (kind_of e sc w) ≡ true

abbrev pub AllOneKind : Environment → Scope → Value → Value → Value → Type 0
AllOneKind e sc v w x = all_one_kind (kind_of e sc v) (kind_of e sc w) (kind_of e sc x) ≡ true

-- the flag of a target fits, and the target is of the kind of the value assigned
abbrev pub Assigned : Environment → Scope → Value → Reference → Type 0
Assigned e sc v t = one_kind (kind_of e sc v) (reference_kind e sc t) ≡ true
