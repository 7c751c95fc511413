-- What the code finds of a number without a walk: its value, its scale, and the place after it.
use Rattle.std.specs.Prelude.{ℕ, suc, ◌≡◌, false, List, ℤ, Option, IfSome}
use Rattle.wire.specs.Words.{word_at, signed}
use Rattle.decimal.specs.declared.Number.{Number}
use Rattle.dictionary.specs.Format.{Format}
use Rattle.records.specs.Record.{reading_missing, presence_of}
use Rattle.meaning.specs.Data.{Datum, number}
use Rattle.meaning.specs.Inputs as Inputs
use Rattle.meaning.specs.Inputs.{value, unless_missing}
use Rattle.walking.specs.Walk.{Walked, at, value_at}
use Rattle.surroundings.specs.Bindings.{bound_sight}
use Rattle.inputs.specs.declared.singles.Single.{Single}
use Rattle.inputs.specs.declared.singles.Two.{Two}

-- the answer for a value, a scale byte and the place after them
abbrev pub single_of : ℤ → ℕ → ℕ → Single
single_of x scale after = record { value = x; scale = signed 1 scale; after = after }

-- the number that an answer has
abbrev pub number_in : Single → Number
number_in r = record { value = r.value; scale = r.scale }

-- an answer that is a number has what a reference gives and the place after it
abbrev pub Fetches : Option Single → ℕ → Inputs.Fetched → Type 0
Fetches r after x = IfSome r (λ n. (x ≡ value (number (number_in n))) × (n.after ≡ after))

-- an answer that is a number is what was walked
abbrev pub Walks : Option Single → Walked Datum → Type 0
Walks r x = IfSome r (λ n. x ≡ at (number (number_in n)) n.after)

-- what a field of a format gives whose bytes stand at p and whose bit is clear
abbrev pub held_in : Format → List ℕ → ℕ → Inputs.Fetched
held_in f s p = unless_missing (presence_of false (reading_missing f.type (word_at s p))) f s p

-- request, dictionary, bindings, records, runs: the walk of the value at p, whatever the parameters and the images are and how many levels
-- are left, gives the number x, and e is the place after it
abbrev pub NumberAt : List ℕ → List ℕ → List ℕ → List ℕ → List ℕ → ℕ → Number → ℕ → Type 0
NumberAt s d t records runs p x e =
    (parameters : List ℕ) (count : ℕ) (images : List ℕ) (l : ℕ) →
    value_at (bound_sight d parameters count images records runs) t (suc l) s p ≡ at (number x) e

-- an answer that is a number is the value at p; an answer that is none says nothing of that value
pub record SingleAt (s d t records runs : List ℕ) (p : ℕ) (r : Option Single) : Type 0 where
  pub walked : IfSome r (λ n. NumberAt s d t records runs p (number_in n) n.after)

-- two numbers: the value at p and the one after it, which stands at `middle`
pub record Numbers (s d t records runs : List ℕ) (p : ℕ) (n : Two) : Type 0 where
  pub middle : ℕ
  pub first : NumberAt s d t records runs p (record { value = n.first; scale = n.first_scale }) middle
  pub second : NumberAt s d t records runs middle (record { value = n.second; scale = n.second_scale }) n.after

-- an answer that is two numbers is the value at p and the one after it
abbrev pub TwoAt : List ℕ → List ℕ → List ℕ → List ℕ → List ℕ → ℕ → Option Two → Type 0
TwoAt s d t records runs p r = IfSome r (Numbers s d t records runs p)
