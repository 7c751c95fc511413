-- What the function for C that explains gives back: one number of 64 bits, and a table.
use Rattle.std.specs.Prelude.{ℕ, ◌+◌, ◌*◌, min, ◌≡◌, List, length}
use Rattle.meaning.specs.Evaluation.{Outcome, answered, refusal, strayed}
use Rattle.explanation.specs.Explanation.{explanation, test_table}
use Rattle.explanation.specs.Promise.{counted}
use Rattle.greenblr.specs.Exports.{place_bits, greatest_place, refusal_given}

-- the lowest byte where tests are listed
abbrev pub explained_byte : ℕ
explained_byte = 7

-- how many tests are listed stands in the 48 bits where the place of a refusal does; no explanation strays: the last case is a number
-- that is never given
unfoldable pub count_given : Outcome ℕ → ℕ
count_given (answered n) = explained_byte + place_bits * min n greatest_place
count_given (refusal x p) = refusal_given x p
count_given strayed = 8

-- what is given, and what is left in the table
pub record ExplanationExported (s d : List ℕ) (n : ℕ) (images rows runs table table' : List ℕ) (r : ℕ) : Type 0 where
  pub number_is : r ≡ count_given (counted (explanation s d n images rows runs (length table)))
  pub tests_filled : table' ≡ test_table (explanation s d n images rows runs (length table)) (length table)
