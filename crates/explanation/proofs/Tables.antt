-- The numbers of the tests in a table: two a test, one test after another.
use Prim.Native.Nat.{ℕ, ◌*◌}
use mathlib.Core.Path.{◌≡◌, refl, ap}
use mathlib.Core.List.{List, [], ◌∷◌, ◌++◌}
use native.Mathlib.Omega.{arith}
use lib.ListN.{length}
use Rattle.explanation.specs.Explanation.{Test, outcome_number, test_numbers}

pub numbers-append : (ts us : List Test) → test_numbers (ts ++ us) ≡ test_numbers ts ++ test_numbers us
unfolding test_numbers
numbers-append [] us = refl
numbers-append (t ∷ ts) us = ap (λ l. t.place ∷ outcome_number t.outcome ∷ l) (numbers-append ts us)

pub numbers-count : (ts : List Test) → length (test_numbers ts) ≡ 2 * length ts
unfolding test_numbers
numbers-count [] = omega arith
numbers-count (t ∷ ts) = omega (arith, numbers-count ts)
