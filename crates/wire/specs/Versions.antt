-- 02, No. 8: "Version 5 beside version 4." The version of a request, and the types that are due in each.
use Rattle.std.specs.Prelude.{ℕ, Bool, true, false, cond, ◌||◌, eqb}
use Rattle.wire.specs.Codes as blr
use Rattle.wire.specs.declared.codes.Version.{Version}
use Rattle.wire.specs.declared.codes.Version.TheVariants.{Version4, Version5}
use Rattle.wire.specs.declared.codes.Width.{Width}
use Rattle.wire.specs.declared.codes.Width.TheVariants.{Short, Long, Int64}
use Rattle.wire.specs.declared.codes.DataType.{DataType}
use Rattle.wire.specs.declared.codes.DataType.TheVariants.{Number, Date, Chars}
use Rattle.wire.specs.declared.codes.LiteralType.{LiteralType}
use Rattle.wire.specs.declared.codes.LiteralType.TheVariants.{NumberLiteral, TextLiteral}
use Rattle.wire.specs.declared.codes.FieldType.{FieldType}
use Rattle.wire.specs.declared.codes.FieldType.TheVariants.{Plain, Reading}

-- the first byte of a request
abbrev pub version_code : Version → ℕ
version_code Version4 = blr.version4
version_code Version5 = blr.version5

-- 02, No. 8: "5 now for a first byte other than 4 or 5"
unfoldable pub is_version : ℕ → Bool
is_version b = eqb b blr.version4 || eqb b blr.version5

-- the version of a first byte; any byte but 5 counts as version 4
unfoldable pub version_of : ℕ → Version
version_of b = cond (eqb b blr.version5) Version5 Version4

-- 02, No. 8: "Version 5 adds type 16, .. in messages, dictionary and literals."; "Version 4 .. refuses 16 in messages and literals by 6; a
-- type 16 field may stand in a dictionary but a version 4 request that names it gets 13"
abbrev pub width_due : Version → Width → Bool
width_due v Short = true
width_due v Long = true
width_due Version4 Int64 = false
width_due Version5 Int64 = true

abbrev pub type_due : Version → DataType → Bool
type_due v (Number w) = width_due v w
type_due v Date = true
type_due v (Chars t) = true

abbrev pub literal_due : Version → LiteralType → Bool
literal_due v (NumberLiteral w) = width_due v w
literal_due v TextLiteral = true

abbrev pub field_due : Version → FieldType → Bool
field_due v (Plain t) = type_due v t
field_due v Reading = true
