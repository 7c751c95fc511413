-- What the functions for C of a store give back.
use Rattle.std.specs.Prelude.{ℕ, ◌≡◌, List, [], ◌∷◌, Result, Ok, Err}
use Rattle.wire.specs.declared.refused.Refused.{Refused}
use Rattle.store.specs.declared.Counts.{Counts}
use Rattle.store.specs.declared.Refusal.{Refusal}
use Rattle.store.specs.Calls.{number, Call, store_in, called, left, answer_of, reading_of, place_in}

-- 0 for a call that is done, or 02's number of the refusal; and its place
abbrev pub call_number : Result (Unit {0}) (Refused Refusal) → ℕ
call_number (Ok u) = 0
call_number (Err x) = number x.refusal

abbrev pub call_numbers : Result (Unit {0}) (Refused Refusal) → List ℕ
call_numbers (Ok u) = 0 ∷ 0 ∷ 0 ∷ []
call_numbers (Err x) = x.place ∷ 0 ∷ 0 ∷ []

-- what a call gives back, and what it leaves in the buffer and in the answer
pub record StoreCalled (d b : List ℕ) (c : Call) (b' an' : List ℕ) (r : ℕ) : Type 0 where
  pub number_is : r ≡ call_number (answer_of (called d b c))
  pub answer_filled : an' ≡ call_numbers (answer_of (called d b c))
  pub buffer_left : b' ≡ left b (called d b c)

-- a reading: the relation's id, the record count and the missing count
abbrev pub read_number : Result Counts (Refused Refusal) → ℕ
read_number (Ok c) = 0
read_number (Err x) = number x.refusal

abbrev pub read_numbers : Result Counts (Refused Refusal) → List ℕ
read_numbers (Ok c) = c.relation ∷ c.records ∷ c.missing ∷ []
read_numbers (Err x) = x.place ∷ 0 ∷ 0 ∷ []

pub record StoreRead (d b an' : List ℕ) (r : ℕ) : Type 0 where
  pub number_is : r ≡ read_number (reading_of (store_in d b))
  pub answer_filled : an' ≡ read_numbers (reading_of (store_in d b))

-- a record's place: where it stands, and its length
abbrev pub place_number : Result (ℕ × ℕ) (Refused Refusal) → ℕ
place_number (Ok at) = 0
place_number (Err x) = number x.refusal

abbrev pub place_numbers : Result (ℕ × ℕ) (Refused Refusal) → List ℕ
place_numbers (Ok (p, n)) = p ∷ n ∷ 0 ∷ []
place_numbers (Err x) = x.place ∷ 0 ∷ 0 ∷ []

pub record StorePlaced (d b : List ℕ) (k : ℕ) (an' : List ℕ) (r : ℕ) : Type 0 where
  pub number_is : r ≡ place_number (place_in (store_in d b) k)
  pub answer_filled : an' ≡ place_numbers (place_in (store_in d b) k)
