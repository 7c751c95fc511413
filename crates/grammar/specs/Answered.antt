-- What reading promises.
use Rattle.std.specs.Prelude.{ℕ, suc, ◌≡◌, List, length, Result, Ok, Err}
use Rattle.wire.specs.Options.{refused_at}
use Rattle.wire.specs.declared.refused.Refused.{Refused}
use Rattle.grammar.specs.declared.Refusal.{Refusal}
use Rattle.grammar.specs.declared.Counts.{Counts}
use Rattle.grammar.specs.Tree.{Request}
use Rattle.grammar.specs.Sizes.{statements_count, parameter_count, contexts_count}
use Rattle.grammar.specs.Reader.{Read, read, refused}
use Rattle.grammar.specs.Reading.{answer, statement_table, parameter_table, context_table}
use Rattle.grammar.specs.Demands.{Octets}

-- 01: "Acceptance gives the counts of rows"
abbrev pub reading_of : Read Request → Result Counts (Refused Refusal)
reading_of (read r c) =
    Ok (record { statements = suc (statements_count r.statements); parameters = parameter_count r.messages; contexts = contexts_count r.statements })
reading_of (refused x p) = Err (refused_at x p)

-- what a reading answers, and what it leaves in the three tables; the request and the dictionary are bytes
pub record Answered (s d st pa ct st' pa' ct' : List ℕ) (r : Result Counts (Refused Refusal)) : Type 0 where
  pub request_octets : Octets s
  pub dictionary_octets : Octets d
  pub answered : r ≡ reading_of (answer s d (length st) (length pa) (length ct))
  pub statements_filled : st' ≡ statement_table (answer s d (length st) (length pa) (length ct)) (length st)
  pub parameters_filled : pa' ≡ parameter_table (answer s d (length st) (length pa) (length ct)) (length pa)
  pub contexts_filled : ct' ≡ context_table d (answer s d (length st) (length pa) (length ct)) (length ct)
