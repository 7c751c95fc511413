-- What a code is to a scan of the bytes of a condition or a from-value. The codes of values, booleans, clauses and directions are all
-- different, so that the scan goes by the code alone.
use Rattle.std.specs.Prelude.{ℕ, ◌+◌, cond, List, [], ◌∷◌, eqb}
use Rattle.wire.specs.Codes as blr
use Rattle.wire.specs.Words.{byte_at, word_at}
use Rattle.wire.specs.Classes.{Class, due, left_out, foreign, literal_class}
use Rattle.wire.specs.declared.codes.LiteralType.{LiteralType}
use Rattle.wire.specs.declared.codes.LiteralType.TheVariants.{NumberLiteral, TextLiteral}
use Rattle.dictionary.specs.Format.{width_bytes}
use Rattle.runs.specs.declared.forms.Form.{Form}
use Rattle.runs.specs.declared.forms.Form.TheVariants.{Plain, Field, Literal, Sort, Open, Such, Close, Other}

-- the form of a code, by a table
unfoldable pub form_in : List (ℕ × Form) → ℕ → Form
form_in [] c = Other
form_in (row ∷ rows) c = cond (eqb c row.0) row.1 (form_in rows c)

-- a plain code takes so many bytes, and so many values, booleans and clauses are due in its place; one that opens an rse has so many
-- numbers due after that
unfoldable pub form_of : ℕ → Form
form_of =
    form_in
    ((blr.eql, Plain 1 2) ∷ (blr.neq, Plain 1 2) ∷ (blr.gtr, Plain 1 2) ∷ (blr.geq, Plain 1 2) ∷ (blr.lss, Plain 1 2) ∷
    (blr.leq, Plain 1 2) ∷ (blr.containing, Plain 1 2) ∷ (blr.matching, Plain 1 2) ∷ (blr.starting, Plain 1 2) ∷
    (blr.or, Plain 1 2) ∷ (blr.and, Plain 1 2) ∷ (blr.between, Plain 1 3) ∷ (blr.not, Plain 1 1) ∷ (blr.missing, Plain 1 1) ∷
    (blr.any, Open 0) ∷ (blr.unique, Open 0) ∷ (blr.add, Plain 1 2) ∷ (blr.subtract, Plain 1 2) ∷ (blr.multiply, Plain 1 2) ∷
    (blr.divide, Plain 1 2) ∷ (blr.negate, Plain 1 1) ∷ (blr.average, Open 1) ∷ (blr.count, Open 0) ∷ (blr.maximum, Open 1) ∷
    (blr.minimum, Open 1) ∷ (blr.total, Open 1) ∷ (blr.literal, Literal) ∷ (blr.field, Field) ∷ (blr.fid, Plain 4 0) ∷
    (blr.parameter, Plain 4 0) ∷ (blr.parameter2, Plain 6 0) ∷ (blr.boolean, Such) ∷ (blr.sort, Sort) ∷
    (blr.ascending, Plain 1 1) ∷ (blr.descending, Plain 1 1) ∷ (blr.end, Close) ∷ [])

-- the bytes of a literal whose type stands at p; of another code there the one byte
abbrev pub literal_size : List ℕ → ℕ → Class LiteralType → ℕ
literal_size s p (due (NumberLiteral w)) = 2 + width_bytes w
literal_size s p (due TextLiteral) = 3 + word_at s (p + 1)
literal_size s p left_out = 1
literal_size s p foreign = 1

unfoldable pub literal_length : List ℕ → ℕ → ℕ
literal_length s p = literal_size s p (literal_class (byte_at s p))
