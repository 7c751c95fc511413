-- The code of a statement, and ends.
use Rattle.std.specs.Prelude.{ℕ, Option, Some, None, Result, Ok, Err, cond, eqb, ltb}
use Rattle.wire.specs.Codes as blr
use Rattle.wire.specs.Classes.{statement_class}
use Rattle.wire.specs.Options.{refused_at}
use Rattle.wire.specs.declared.codes.StatementCode.{StatementCode}
use Rattle.wire.specs.declared.refused.Refused.{Refused}
use Rattle.grammar.specs.declared.Cursor.{Cursor}
use Rattle.grammar.specs.declared.Refusal.{Refusal}
use Rattle.grammar.specs.declared.Refusal.TheVariants.{TooGreat}
use Rattle.grammar.specs.Reader.{Read, read, refused, Reader, ◌>>=◌, ◌>>◌, return, need, place, on, coded, count_statement}
use Rattle.openings.specs.declared.heads.Coded.{Coded}

-- a statement whose code stands at p, with l levels left for it and what stands in it; it is counted
unfoldable pub entered : ℕ → ℕ → Reader (Unit {0})
entered l p = do
  need (ltb 0 l) TooGreat p
  count_statement p

-- the code of a statement, with l levels left for it and what stands in it; the statement is counted
unfoldable pub statement_coded : ℕ → Reader StatementCode
statement_coded l = do
  p ← place
  k ← coded statement_class
  need (ltb 0 l) TooGreat p
  count_statement p
  return k

abbrev pub coded_at : ℕ → StatementCode → Cursor → Coded
coded_at p k c = record { code = k; at = p; after = c }

-- an end, which is passed, or none where another code stands, which stays
abbrev pub ending_of : Read ℕ → Result (Option Cursor) (Refused Refusal)
ending_of (read x c) = Ok (cond (eqb x blr.end) (Some (on c 1)) None)
ending_of (refused r p) = Err (refused_at r p)
