-- What a code says at each kind of place: due, left out by name, or foreign.
-- 01: "Left out, refused by name in their place (as a target or in place of a select's receive: 6)".
use Rattle.std.specs.Prelude.{ℕ, cond, List, [], ◌∷◌, eqb}
use Rattle.wire.specs.Codes as blr
use Rattle.wire.specs.Lists.{among}
use Rattle.wire.specs.declared.codes.StatementCode.{StatementCode}
use Rattle.wire.specs.declared.codes.StatementCode.TheVariants.{Assignment, Begin, Erase, For, Loop, Modify, Handler, Receive, Send, Store, Label, Leave, If, Select}
use Rattle.wire.specs.declared.codes.ReferenceCode.{ReferenceCode}
use Rattle.wire.specs.declared.codes.ReferenceCode.TheVariants.{Field, Fid, Parameter, Parameter2}
use Rattle.wire.specs.declared.codes.Operator.TheVariants.{Add, Subtract, Multiply, Divide}
use Rattle.wire.specs.declared.codes.ValueCode.{ValueCode}
use Rattle.wire.specs.declared.codes.ValueCode.TheVariants.{Literal, Reference, Arithmetic, Negate, Statistic, Count}
use Rattle.wire.specs.declared.codes.Statistic.TheVariants.{Average, Maximum, Minimum, Total}
use Rattle.wire.specs.declared.codes.Comparison.TheVariants.{Eql, Neq, Gtr, Geq, Lss, Leq}
use Rattle.wire.specs.declared.codes.TextSearch.TheVariants.{Containing, Matching, Starting}
use Rattle.wire.specs.declared.codes.Connective.TheVariants.{Or, And}
use Rattle.wire.specs.declared.codes.BooleanCode.{BooleanCode}
use Rattle.wire.specs.declared.codes.BooleanCode.TheVariants.{Compare, Search, Between, Connect, Not, Missing, Quantify}
use Rattle.wire.specs.declared.codes.Quantifier.TheVariants.{Any, Unique}
use Rattle.wire.specs.declared.codes.StreamCode.{StreamCode}
use Rattle.wire.specs.declared.codes.StreamCode.TheVariants.{Relation, Rid}
use Rattle.wire.specs.declared.codes.ClauseCode.{ClauseCode}
use Rattle.wire.specs.declared.codes.ClauseCode.TheVariants.{Boolean, Sort, End}
use Rattle.wire.specs.declared.codes.Direction.{Direction}
use Rattle.wire.specs.declared.codes.Direction.TheVariants.{Ascending, Descending}
use Rattle.wire.specs.declared.codes.Width.TheVariants.{Short, Long, Int64}
use Rattle.wire.specs.declared.codes.TextType.TheVariants.{Text, Varying, Cstring}
use Rattle.wire.specs.declared.codes.DataType.{DataType}
use Rattle.wire.specs.declared.codes.DataType.TheVariants.{Number, Date, Chars}
use Rattle.wire.specs.declared.codes.LiteralType.{LiteralType}
use Rattle.wire.specs.declared.codes.LiteralType.TheVariants.{NumberLiteral, TextLiteral}
use Rattle.wire.specs.declared.codes.FieldType.{FieldType}
use Rattle.wire.specs.declared.codes.FieldType.TheVariants.{Plain, Reading}

pub data Class (A : Type 0) : Type 0 where
  due : A → Class A
  left_out : Class A
  foreign : Class A

-- a code that is not due: left out if the list has it, or foreign
abbrev pub otherwise : {A : Type 0} → List ℕ → ℕ → Class A
otherwise left c = cond (among c left) left_out foreign

-- by a table of the codes that are due and a list of those that are left out
unfoldable pub classify : {A : Type 0} → List (ℕ × A) → List ℕ → ℕ → Class A
classify [] left c = otherwise left c
classify (row ∷ rows) left c = cond (eqb c row.0) (due row.1) (classify rows left c)

-- 01: "Statements (s is one statement)"; left out: "statements 3, 6, 19, 20"
unfoldable pub statement_class : ℕ → Class StatementCode
statement_class =
    classify
    ((blr.assignment, Assignment) ∷ (blr.begin, Begin) ∷ (blr.erase, Erase) ∷ (blr.for, For) ∷ (blr.loop, Loop) ∷
    (blr.modify, Modify) ∷ (blr.handler, Handler) ∷ (blr.receive, Receive) ∷ (blr.send, Send) ∷ (blr.store, Store) ∷
    (blr.label, Label) ∷ (blr.leave, Leave) ∷ (blr.if, If) ∷ (blr.select, Select) ∷ [])
    (blr.dcl_variable ∷ blr.fetch ∷ blr.store2 ∷ blr.post ∷ [])

-- 01: "Values: .."; left out: "values 22, 26–31, 39, 40, 42–45"; 02, No. 9: "Values 27 to 31 leave refusal 7; type 27 stays there."
unfoldable pub value_class : ℕ → Class ValueCode
value_class =
    classify
    ((blr.literal, Literal) ∷ (blr.field, Reference Field) ∷ (blr.fid, Reference Fid) ∷
    (blr.parameter, Reference Parameter) ∷ (blr.parameter2, Reference Parameter2) ∷ (blr.average, Statistic Average) ∷
    (blr.count, Count) ∷ (blr.maximum, Statistic Maximum) ∷ (blr.minimum, Statistic Minimum) ∷ (blr.total, Statistic Total) ∷
    (blr.add, Arithmetic Add) ∷ (blr.subtract, Arithmetic Subtract) ∷ (blr.multiply, Arithmetic Multiply) ∷
    (blr.divide, Arithmetic Divide) ∷ (blr.negate, Negate) ∷ [])
    (blr.dbkey ∷ blr.variable ∷ blr.concatenate ∷ blr.substring ∷ blr.from ∷ blr.via ∷ blr.user_name ∷ blr.null ∷ [])

-- 01: "Targets: 23, 24, 25, 41."
unfoldable pub target_class : ℕ → Class ReferenceCode
target_class =
    classify
    ((blr.field, Field) ∷ (blr.fid, Fid) ∷ (blr.parameter, Parameter) ∷ (blr.parameter2, Parameter2) ∷ [])
    []

-- 01: "Booleans: .."; left out: "booleans 60, 62, 63"; 02, No. 4: "Codes 60 and 62 leave refusal 7."
unfoldable pub boolean_class : ℕ → Class BooleanCode
boolean_class =
    classify
    ((blr.eql, Compare Eql) ∷ (blr.neq, Compare Neq) ∷ (blr.gtr, Compare Gtr) ∷ (blr.geq, Compare Geq) ∷
    (blr.lss, Compare Lss) ∷ (blr.leq, Compare Leq) ∷ (blr.containing, Search Containing) ∷ (blr.matching, Search Matching) ∷
    (blr.starting, Search Starting) ∷ (blr.between, Between) ∷ (blr.or, Connect Or) ∷ (blr.and, Connect And) ∷
    (blr.not, Not) ∷ (blr.any, Quantify Any) ∷ (blr.missing, Missing) ∷ (blr.unique, Quantify Unique) ∷ [])
    (blr.like ∷ [])

-- 01: "Stream: relation 74, counted name, ctx; or rid 75, id word, ctx."; left out: "streams 76, 79"
unfoldable pub stream_class : ℕ → Class StreamCode
stream_class =
    classify
    ((blr.relation, Relation) ∷ (blr.rid, Rid) ∷ [])
    (blr.union ∷ blr.aggregate ∷ [])

-- 01: "at most one each of boolean 71 and sort 70 .. in either order, 255"; left out: "clauses 68, 69"
unfoldable pub clause_class : ℕ → Class ClauseCode
clause_class =
    classify
    ((blr.boolean, Boolean) ∷ (blr.sort, Sort) ∷ (blr.end, End) ∷ [])
    (blr.first ∷ blr.project ∷ [])

-- 01: "72 or 73 before each value"
unfoldable pub direction_class : ℕ → Class Direction
direction_class =
    classify
    ((blr.ascending, Ascending) ∷ (blr.descending, Descending) ∷ [])
    []

-- 01: "Descriptors: .."; left out: "types 9, 10, 11, 27"
unfoldable pub descriptor_class : ℕ → Class DataType
descriptor_class =
    classify
    ((blr.short, Number Short) ∷ (blr.long, Number Long) ∷ (blr.int64, Number Int64) ∷ (blr.date, Date) ∷
    (blr.text, Chars Text) ∷ (blr.varying, Chars Varying) ∷ (blr.cstring, Chars Cstring) ∷ [])
    (blr.quad ∷ blr.float ∷ blr.d_float ∷ blr.double ∷ [])

-- 01: "literal 21 (short: ..; long: ..; text: ..)"; left out: "types 9, 10, 11, 27 (also in literals); literals of 35, 37, 40"
unfoldable pub literal_class : ℕ → Class LiteralType
literal_class =
    classify
    ((blr.short, NumberLiteral Short) ∷ (blr.long, NumberLiteral Long) ∷ (blr.int64, NumberLiteral Int64) ∷ (blr.text, TextLiteral) ∷ [])
    (blr.quad ∷ blr.float ∷ blr.d_float ∷ blr.double ∷ blr.date ∷ blr.varying ∷ blr.cstring ∷ [])

-- the types of a field in the dictionary
unfoldable pub field_class : ℕ → Class FieldType
field_class =
    classify
    ((blr.short, Plain (Number Short)) ∷ (blr.long, Plain (Number Long)) ∷ (blr.int64, Plain (Number Int64)) ∷ (blr.date, Plain Date) ∷
    (blr.text, Plain (Chars Text)) ∷ (blr.varying, Plain (Chars Varying)) ∷ (blr.cstring, Plain (Chars Cstring)) ∷
    (blr.house_reading, Reading) ∷ [])
    []
