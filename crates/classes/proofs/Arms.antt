-- What a match on a number tells: in an arm that the number is one of its keys, in the default that it is no key of an arm.
-- That a function is x at every number that is left is one computed equation.
use mathlib.Core.Path.{◌≡◌, refl}
use mathlib.Core.Bool.{Bool, true, false, cond, ◌||◌}
use mathlib.Core.Logic.{inl, inr}
use mathlib.Core.List.{List, [], ◌∷◌, map}
use Prim.Native.Nat.{ℕ, zero, suc, ◌+◌, ◌-◌, ◌<◌, ◌≤◌}
use native.Mathlib.Omega.{arith}
use native.Mathlib.Nat.{add-zero}
use lib.Dec.{T}
use lib.ListN.{length, replicate}
use mir.Val.{has_key}
use types.Run.{OneOf, hit}

-- some arm has the number among its keys
abbrev pub keyed : List (List ℕ) → ℕ → Bool
keyed [] k = false
keyed (keys ∷ arms) k = has_key keys k || keyed arms k

-- arms of one key each, and more
abbrev pub each : List ℕ → List (List ℕ) → List (List ℕ)
each [] arms = arms
each (k ∷ keys) arms = (k ∷ []) ∷ each keys arms

-- what the default is told of the arms, beside N
abbrev pub Missed : Type 0 → List (List ℕ) → ℕ → Type 0
Missed N [] k = N
Missed N (keys ∷ arms) k = Missed (N × (OneOf keys k → ⊥)) arms k

is_false : (b : Bool) → (T b → ⊥) → b ≡ false
is_false true h = absurd (h tt)
is_false false h = refl

missed : (N : Type 0) (arms : List (List ℕ)) (k : ℕ) → Missed N arms k → N × (keyed arms k ≡ false)
missed N [] k h = (h, refl)
missed N (keys ∷ arms) k h =
    let rest = missed (N × (OneOf keys k → ⊥)) arms k h in
    (rest.0.0, rw (is_false (has_key keys k) (λ t. rest.0.1 (hit keys k t)), rest.1))

-- g at n numbers from i on
abbrev pub values_from : {A : Type 0} → (ℕ → A) → ℕ → ℕ → List A
values_from g i zero = []
values_from g i (suc n) = g i ∷ values_from g (suc i) n

module _ {A : Type 0} (x : A) (g : ℕ → A) where
  from : (i n : ℕ) → values_from g i n ≡ replicate n x → (j : ℕ) → j < n → x ≡ g (i + j)
  from i zero e j h = absurd (omega arith)
  from i (suc n) e zero h = let head : x ≡ g i = cc in rw add-zero head
  from i (suc n) e (suc j) h =
      let tail : values_from g (suc i) n ≡ replicate n x = cc in
      let same : suc i + j ≡ i + suc j = omega arith in
      rw same at (from (suc i) n tail j (omega arith))

module _ {A : Type 0} (x : A) (f : ℕ → A) where
  -- f is x at a key, if it is x at all of them
  pub at_key : (keys : List ℕ) → map f keys ≡ replicate (length keys) x → (k : ℕ) → OneOf keys k → x ≡ f k
  at_key [] e k h = absurd h
  at_key (y ∷ []) e k h = let head : x ≡ f y = cc in rw h head
  at_key (y ∷ z ∷ keys) e k (inl h) = let head : x ≡ f y = cc in rw h head
  at_key (y ∷ z ∷ keys) e k (inr h) =
      let tail : map f (z ∷ keys) ≡ replicate (length (z ∷ keys)) x = cc in
      at_key (z ∷ keys) tail k h

  -- f is x in the default at a number from low to below high, if it is x at all of those that are no keys
  pub between : (arms : List (List ℕ)) (low high : ℕ) →
      values_from (λ j. cond (keyed arms j) x (f j)) low (high - low) ≡ replicate (high - low) x →
      (k : ℕ) → Missed (Unit {0}) arms k → low ≤ k → k < high → x ≡ f k
  between arms low high e k h above below =
      let place : low + (k - low) ≡ k = omega arith in
      let inside : k - low < high - low = omega arith in
      let found = from x (λ j. cond (keyed arms j) x (f j)) low (high - low) e (k - low) inside in
      rw (place, (missed (Unit {0}) arms k h).1) at found
