-- Searches in a list by a test, sums over a list, equal bytes, and what may be there or not.
use Rattle.std.specs.Prelude.{ℕ, suc, ◌+◌, Bool, true, false, cond, ◌&&◌, ◌||◌, List, [], ◌∷◌, eqb}
use Rattle.std.proofs.Math.Option.{Option, none, some, map}

module _ {A : Type 0} (test : A → Bool) where
  -- some element passes; every element passes
  unfoldable pub any_of : List A → Bool
  any_of [] = false
  any_of (x ∷ l) = test x || any_of l

  unfoldable pub all_of : List A → Bool
  all_of [] = true
  all_of (x ∷ l) = test x && all_of l

  -- the first element that passes, and its index
  unfoldable pub find : List A → Option A
  find [] = none
  find (x ∷ l) = cond (test x) (some x) (find l)

  unfoldable pub index_of : List A → Option ℕ
  index_of [] = none
  index_of (x ∷ l) = cond (test x) (some 0) (map suc (index_of l))

unfoldable pub among : ℕ → List ℕ → Bool
among n l = any_of (λ x. eqb x n) l

unfoldable pub sum_of : {A : Type 0} → (A → ℕ) → List A → ℕ
sum_of f [] = 0
sum_of f (x ∷ l) = f x + sum_of f l

unfoldable pub same_bytes : List ℕ → List ℕ → Bool
same_bytes [] [] = true
same_bytes [] (y ∷ b) = false
same_bytes (x ∷ a) [] = false
same_bytes (x ∷ a) (y ∷ b) = eqb x y && same_bytes a b

abbrev pub is_some : {A : Type 0} → Option A → Bool
is_some none = false
is_some (some x) = true

infixl 10 ◌and_then◌
-- what follows where there is something
abbrev pub ◌and_then◌ : {A B : Type 0} → Option A → (A → Option B) → Option B
none and_then f = none
(some x) and_then f = f x
