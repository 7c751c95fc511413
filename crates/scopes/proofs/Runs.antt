-- Of f of each of so many numbers from one on: the length, an element, what stays where f does, and one more. Assumes nothing.
use Prim.Native.Nat.{ℕ, zero, suc, ◌+◌, ◌≤◌, ◌<◌}
use mathlib.Core.Path.{◌≡◌, refl, sym, ap, ap₂, ◌∙◌}
use mathlib.Core.List.{List, [], ◌∷◌, ◌++◌}
use native.Mathlib.Omega.{arith}
use native.Mathlib.Numerals.{add-one}
use lib.ListN.{length, take, get_or}
use lib.Seq.{take-suc}
use Rattle.scopes.specs.Scopes.{each_from}

module _ {A : Type 0} where
  pub each-length : (f : ℕ → A) (i n : ℕ) → length (each_from f i n) ≡ n
  unfolding each_from
  each-length f i zero = refl
  each-length f i (suc n) = ap suc (each-length f (i + 1) n)

  pub each_at : (f : ℕ → A) (i n k : ℕ) (d : A) → k < n → get_or (each_from f i n) k d ≡ f (i + k)
  unfolding each_from
  each_at f i zero k d h = absurd (omega arith)
  each_at f i (suc n) zero d h = let e : i ≡ i + 0 = omega arith in ap f e
  each_at f i (suc n) (suc k) d h =
      let e : i + 1 + k ≡ i + suc k = omega arith in
      each_at f (i + 1) n k d (omega arith) ∙ ap f e

  pub each_same : (f g : ℕ → A) (i n : ℕ) → ((j : ℕ) → i ≤ j → j < i + n → g j ≡ f j) → each_from g i n ≡ each_from f i n
  unfolding each_from
  each_same f g i zero e = refl
  each_same f g i (suc n) e =
      ap₂ ◌∷◌ (e i (omega arith) (omega arith)) (each_same f g (i + 1) n (λ j h k. e j (omega arith) (omega arith)))

  -- the first k stay where f does up to there
  pub each_first : (f g : ℕ → A) (i n k : ℕ) → ((j : ℕ) → i ≤ j → j < i + k → g j ≡ f j) → take k (each_from g i n) ≡ take k (each_from f i n)
  unfolding each_from
  each_first f g i n zero e = refl
  each_first f g i zero (suc k) e = refl
  each_first f g i (suc n) (suc k) e =
      ap₂ ◌∷◌ (e i (omega arith) (omega arith)) (each_first f g (i + 1) n k (λ j h l. e j (omega arith) (omega arith)))

  pub each_more :
      (f g : ℕ → A) (i n k : ℕ) → k < n → ((j : ℕ) → i ≤ j → j < i + k → g j ≡ f j)
      → take (k + 1) (each_from g i n) ≡ take k (each_from f i n) ++ (g (i + k) ∷ [])
  each_more f g i n k h e =
      let l : k < length (each_from g i n) = omega (arith, each-length g i n) in
      rw (add-one k, take-suc (each_from g i n) k (g (i + k)) l, each_at g i n k (g (i + k)) h, each_first f g i n k e)
