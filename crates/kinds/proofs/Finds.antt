-- The first that passes a test, in lists one after another. Assumes nothing.
use mathlib.Core.Path.{◌≡◌, refl, ap, ◌∙◌}
use mathlib.Core.Bool.{Bool, true, false, cond}
use mathlib.Core.List.{List, [], ◌∷◌, ◌++◌}
use mathlib.Core.Option.{Option, none, some}
use Rattle.wire.specs.Lists.{find}
use Rattle.grammar.proofs.StepLaws.{absurd-eq}

module _ {A : Type 0} (test : A → Bool) where
  -- none of the first passes
  pub find-over : (xs ys : List A) → find test xs ≡ none → find test (xs ++ ys) ≡ find test ys
  unfolding find
  find-over [] ys e = refl
  find-over (x ∷ xs) ys e = by (test x) e (find-over xs ys)
    where
      by : (b : Bool) → cond b (some x) (find test xs) ≡ none → (find test xs ≡ none → find test (xs ++ ys) ≡ find test ys) →
          cond b (some x) (find test (xs ++ ys)) ≡ find test ys
      by true e next = absurd-eq (cc)
      by false e next = next e

  -- none of those between passes
  pub find-skip : (xs ys zs : List A) → find test ys ≡ none → find test (xs ++ (ys ++ zs)) ≡ find test (xs ++ zs)
  unfolding find
  find-skip [] ys zs e = find-over ys zs e
  find-skip (x ∷ xs) ys zs e = ap (λ (o : Option A). cond (test x) (some x) o) (find-skip xs ys zs e)

  -- where none passes, none of the first does
  pub find_first : (xs ys : List A) → find test (xs ++ ys) ≡ none → find test xs ≡ none
  unfolding find
  find_first [] ys e = refl
  find_first (x ∷ xs) ys e = by (test x) e (find_first xs ys)
    where
      by : (b : Bool) → cond b (some x) (find test (xs ++ ys)) ≡ none → (find test (xs ++ ys) ≡ none → find test xs ≡ none) →
          cond b (some x) (find test xs) ≡ none
      by true e next = absurd-eq (cc)
      by false e next = next e

  -- one that passes, after some that do not
  pub find-here : (xs : List A) (y : A) (ys : List A) → find test xs ≡ none → test y ≡ true → find test (xs ++ (y ∷ ys)) ≡ some y
  unfolding find
  find-here xs y ys e h = find-over xs (y ∷ ys) e ∙ rw h

  -- one that passes among the first
  pub find-kept : (xs ys : List A) (y : A) → find test xs ≡ some y → find test (xs ++ ys) ≡ some y
  unfolding find
  find-kept [] ys y e = absurd-eq (cc)
  find-kept (x ∷ xs) ys y e = by (test x) e (find-kept xs ys y)
    where
      by : (b : Bool) → cond b (some x) (find test xs) ≡ some y → (find test xs ≡ some y → find test (xs ++ ys) ≡ some y) →
          cond b (some x) (find test (xs ++ ys)) ≡ some y
      by true e next = e
      by false e next = next e

  -- one more that does not
  pub find-more : (xs : List A) (y : A) → test y ≡ false → find test (xs ++ (y ∷ [])) ≡ find test xs
  unfolding find
  find-more [] y e = rw e
  find-more (x ∷ xs) y e = ap (λ (o : Option A). cond (test x) (some x) o) (find-more xs y e)

  -- one alone that does not
  pub find_none : (y : A) → test y ≡ false → find test (y ∷ []) ≡ none
  unfolding find
  find_none y e = rw e
