-- A rule of a table at each of its entries, from one test that is computed over the whole table. Assumes nothing.
use Prim.Native.Nat.{ℕ, zero, suc, ◌+◌, ◌<◌}
use mathlib.Core.Path.{◌∙◌, subst, sym}
use mathlib.Core.Bool.{Bool, true, false}
use mathlib.Core.List.{List, [], ◌∷◌}
use native.Mathlib.Nat.{add-zero, zero-add, add-suc, suc-add, le_of_suc-le-suc, not-suc-le-zero}
use lib.Dec.{T}
use lib.ListN.{length, get_or}

abbrev both : Bool → Bool → Bool
both true b = b
both false b = false

both_left : (a b : Bool) → T (both a b) → T a
both_left true b t = tt
both_left false b t = t

both_right : (a b : Bool) → T (both a b) → T b
both_right true b t = t
both_right false b t = absurd t

module _ {A : Type 0} (d : A) (rule : ℕ → A → Bool) where
  -- the rule holds at each entry, the first of which is the i-th
  abbrev pub holds : ℕ → List A → Bool
  holds i [] = true
  holds i (x ∷ xs) = both (rule i x) (holds (suc i) xs)

  entry-from : (xs : List A) (i : ℕ) → T (holds i xs) → (k : ℕ) → k < length xs → T (rule (i + k) (get_or xs k d))
  entry-from [] i t k h = absurd (not-suc-le-zero h)
  entry-from (x ∷ xs) i t zero h =
      subst (λ (m : ℕ). T (rule m x)) (sym (add-zero i)) (both_left (rule i x) (holds (suc i) xs) t)
  entry-from (x ∷ xs) i t (suc k) h =
      subst (λ (m : ℕ). T (rule m (get_or xs k d))) (suc-add i k ∙ sym (add-suc i k))
      (entry-from xs (suc i) (both_right (rule i x) (holds (suc i) xs) t) k (le_of_suc-le-suc h))

  pub entry : (xs : List A) → T (holds 0 xs) → (k : ℕ) → k < length xs → T (rule k (get_or xs k d))
  entry xs t k h = subst (λ (m : ℕ). T (rule m (get_or xs k d))) (zero-add k) (entry-from xs 0 t k h)
