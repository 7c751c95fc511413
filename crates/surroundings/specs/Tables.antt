-- Slots in two tables of numbers, the table of condition places, and what the code answers of a parameter.
use Rattle.std.specs.Prelude as Rust
use Rattle.std.specs.Prelude.{ℕ, zero, suc, ◌+◌, ◌≡◌, List, [], ◌∷◌, map, length, get_or}
use Rattle.std.proofs.Math.Option.{Option, none, some}
use Rattle.std.proofs.lemmas.List.Edits.{sets}
use Rattle.dictionary.specs.Format.{Format}
use Rattle.dictionary.specs.declared.field.Description.{Description}
use Rattle.dictionary.specs.Internal.FieldAnswers.{format_is}
use Rattle.grammar.specs.Conditions.{Condition}
use Rattle.surroundings.specs.Slots.{Slot, relations_in}

-- the n slots that two tables hold from k on
unfoldable pub slots_in : List ℕ → List ℕ → ℕ → ℕ → List Slot
slots_in numbers relations zero k = []
slots_in numbers relations (suc n) k =
    record { number = get_or numbers k 0; relation = get_or relations k 0 } ∷ slots_in numbers relations n (k + 1)

-- the numbers of slots, in their order
abbrev pub numbers_in : List Slot → List ℕ
numbers_in xs = map (λ x. x.number) xs

-- slots laid over two tables from their starts on, as far as each table goes; and their count
pub record Laid (xs : List Slot) (numbers relations numbers' relations' : List ℕ) (count : ℕ) : Type 0 where
  pub counted : count ≡ length xs
  pub numbers_filled : numbers' ≡ sets numbers 0 (numbers_in xs)
  pub relations_filled : relations' ≡ sets relations 0 (relations_in xs)

-- what an answer says: a format and a place, or that there is no such parameter
abbrev pub parameter_is : Rust.Option (Description × ℕ) → Option (Format × ℕ)
parameter_is (Rust.Some x) = some (format_is x.0, x.1)
parameter_is Rust.None = none

-- what the table of condition places holds at a number: the place of that condition, and 0 where there is none
abbrev pub condition_place : Option Condition → ℕ
condition_place none = 0
condition_place (some x) = x.place
