-- Laws of tests on lists.
use mathlib.Core.Path.{◌≡◌, refl, sym, ap, ◌∙◌}
use mathlib.Core.Bool.{Bool, true, false, not, ◌&&◌, ◌||◌, false≢true}
use mathlib.Core.List.{List, [], ◌∷◌, ◌++◌}
use Rattle.wire.specs.Lists.{any_of}

pub or-false : (a : Bool) → a || false ≡ a
or-false true = refl
or-false false = refl

pub or_swap : (a b : Bool) → a || b ≡ b || a
or_swap true true = refl
or_swap true false = refl
or_swap false true = refl
or_swap false false = refl

or-shift : (a b c : Bool) → (a || b) || c ≡ a || (b || c)
or-shift true b c = refl
or-shift false b c = refl

pub not-either : (a b : Bool) → not (a || b) ≡ not a && not b
not-either true b = refl
not-either false b = refl

pub and-shift : (a b c : Bool) → a && (b && c) ≡ a && b && c
and-shift true b c = refl
and-shift false b c = refl

-- the parts of a test that passes
pub both_left : (a b : Bool) → a && b ≡ true → a ≡ true
both_left true b e = refl
both_left false b e = e

pub both_right : (a b : Bool) → a && b ≡ true → b ≡ true
both_right true b e = e
both_right false b e = absurd (false≢true e)

module _ {A : Type 0} (t : A → Bool) where
  -- one element more at the end
  pub any_last : (l : List A) (x : A) → any_of t (l ++ (x ∷ [])) ≡ any_of t l || t x
  unfolding any_of
  any_last [] x = or-false (t x)
  any_last (y ∷ l) x = ap (λ b. t y || b) (any_last l x) ∙ sym (or-shift (t y) (any_of t l) (t x))

-- either of two tests
pub any-either : {A : Type 0} (s t : A → Bool) (l : List A) → any_of (λ x. s x || t x) l ≡ any_of s l || any_of t l
unfolding any_of
any-either s t [] = refl
any-either s t (x ∷ l) = ap (λ b. (s x || t x) || b) (any-either s t l) ∙ exchange (s x) (t x) (any_of s l) (any_of t l)
  where
    exchange : (a b c d : Bool) → (a || b) || (c || d) ≡ (a || c) || (b || d)
    exchange true b c d = refl
    exchange false true true d = refl
    exchange false true false d = refl
    exchange false false c d = refl
