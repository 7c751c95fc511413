-- What is promised to another crate, whatever it lends: a boolean at a place, and what is prepared for a walk.
use Rattle.std.specs.Prelude.{ℕ, ◌*◌, ◌≡◌, Bool, false, cond, List, eqb, leb, length, take}
use Rattle.grammar.specs.declared.Refusal.TheVariants.{TablesTooShort}
use Rattle.meaning.specs.Evaluation.{answered, refusal}
use Rattle.walking.specs.Walk.{astray}
use Rattle.values.specs.Values.{Tested, tested}
use Rattle.surroundings.specs.Bindings.{binding_row_numbers}
use Rattle.evaluator.specs.Slices.{Slices, binding_numbers, run_bytes, booleans_of}
use Rattle.evaluator.specs.Bound.{Prepared, table_bound, prepared_in}
use Rattle.evaluator.specs.Prepared.{Given, bound_by, prepared_by}

-- the bindings and the runs are not too long
abbrev pub fits : Slices → Bool
fits g = cond (leb (length g.bindings) binding_numbers) (leb (length g.runs) run_bytes) false

abbrev pub TestedAt : Slices → ℕ → ℕ → Tested → Type 0
TestedAt g levels p r = tested r ≡ cond (fits g) (booleans_of g levels p) astray

-- over a table of so many numbers: one of another length than the greatest is refused by 1 at 0
pub record PreparesIn (room : ℕ) (g : Given) (t : List ℕ) (r : Prepared) : Type 0 where
  pub answered_so : prepared_in r ≡ cond (eqb room binding_numbers) (prepared_by g) (refusal TablesTooShort 0)
  pub table_is : (n : ℕ) → prepared_in r ≡ answered n → take (n * binding_row_numbers) t ≡ table_bound (bound_by g)
