-- Where a text stands: its places are inside what it stands in.
use Rattle.std.specs.Prelude.{ℕ, ◌≤◌, ◌≡◌, List, length, Ok, Err}
use Rattle.text.specs.Value.{part_of}
use Rattle.meaning.specs.declared.Source.{Source}
use Rattle.meaning.specs.declared.ValueAnswer.{ValueAnswer}
use Rattle.meaning.specs.declared.ValueAnswer.TheVariants as Value
use Rattle.meaning.specs.ValueEvaluated.{ValueEvaluation, slice_of, value_outcome_of}

-- a text does not end before its start, nor after the end of what it stands in
abbrev pub Inside : List ℕ → List ℕ → List ℕ → List ℕ → ValueEvaluation → Type 0
Inside s images rows runs (Ok (Value.Number a)) = Unit {0}
Inside s images rows runs (Ok (Value.Text source start end)) = (start ≤ end) × (end ≤ length (slice_of s images rows runs source))
Inside s images rows runs (Ok (Value.Date day fraction)) = Unit {0}
Inside s images rows runs (Ok (Value.Missing w)) = Unit {0}
Inside s images rows runs (Err x) = Unit {0}

-- r is a text inside the slice, of the bytes from a start up to an end
pub record TextIn (slice : List ℕ) (source : Source) (start end : ℕ) (r : ValueAnswer) : Type 0 where
  pub first : ℕ
  pub last : ℕ
  pub is : r ≡ Value.Text source first last
  pub ordered : first ≤ last
  pub within : last ≤ length slice
  pub same : part_of slice first last ≡ part_of slice start end

-- r is the same answer as v, with a text's places inside
pub record PutInside (s images rows runs : List ℕ) (v r : ValueEvaluation) : Type 0 where
  pub same : value_outcome_of s images rows runs r ≡ value_outcome_of s images rows runs v
  pub inside : Inside s images rows runs r
