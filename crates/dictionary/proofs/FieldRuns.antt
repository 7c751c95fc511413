-- The fields after a relation's entry: those of a run of entries of kind 2.
use mathlib.Core.Path.{◌≡◌, refl, ap, ◌∙◌}
use mathlib.Core.Bool.{and-false}
use mathlib.Core.List.{List, [], ◌∷◌, ◌++◌, map}
use mathlib.Core.Logic.{◌⊎◌, inl, inr}
use Prim.Native.Nat.{ℕ, zero, suc, ◌+◌, ◌≤◌, ◌<◌}
use native.Mathlib.Omega.{arith}
use lib.ListN.{length}
use borrow.Author.Tests.{lt-ltb, le-ltb, eq-eqb, ne_eqb}
use Rattle.wire.specs.Words.{word_at}
use Rattle.dictionary.specs.Dictionary.{kind_at, Field}
use Rattle.dictionary.specs.Internal.Walk.{is_field, field_places, entry_field}

-- from q to p stand the entries of these fields
pub data Run (d : List ℕ) : ℕ → List Field → ℕ → Type 0 where
  empty : {q : ℕ} → Run d q [] q
  more : {q p : ℕ} {fs : List Field} → q < length d → 0 < word_at d q → kind_at d q ≡ 2 → Run d (q + word_at d q) fs p → Run d q (entry_field d q ∷ fs) p

pub one_more : {d : List ℕ} {q p : ℕ} {fs : List Field} → Run d q fs p → p < length d → 0 < word_at d p → kind_at d p ≡ 2 → Run d q (fs ++ (entry_field d p ∷ [])) (p + word_at d p)
one_more empty h w k = more h w k empty
one_more (more h' w' k' r) h w k = more h' w' k' (one_more r h w k)

-- no field stands at p
pub Stop : List ℕ → ℕ → Type 0
Stop d p = (length d ≤ p) ⊎ (kind_at d p ≡ 2 → ⊥)

pub stop-end : (d : List ℕ) (p : ℕ) → length d ≤ p → Stop d p
unfolding Stop
stop-end d p h = inl h

pub stop-kind : (d : List ℕ) (p : ℕ) → (kind_at d p ≡ 2 → ⊥) → Stop d p
unfolding Stop
stop-kind d p h = inr h

stopped : (n : ℕ) (d : List ℕ) (p : ℕ) → Stop d p → field_places n d p ≡ []
unfolding field_places is_field Stop
stopped zero d p s = refl
stopped (suc n) d p (inl h) = rw (le-ltb p (length d) h)
stopped (suc n) d p (inr k) = rw (ne_eqb (kind_at d p) 2 k, and-false)

entered : (n : ℕ) (d : List ℕ) (q : ℕ) → q < length d → 0 < word_at d q → kind_at d q ≡ 2 → field_places (suc n) d q ≡ q ∷ field_places n d (q + word_at d q)
unfolding field_places is_field
entered n d q h w k = rw (lt-ltb q (length d) h, lt-ltb 0 (word_at d q) w, eq-eqb (kind_at d q) 2 k)

-- a run up to a stop is all there is
pub run-fields : (d : List ℕ) (n : ℕ) (q p : ℕ) (fs : List Field) → Run d q fs p → Stop d p → length d ≤ q + n → map (entry_field d) (field_places n d q) ≡ fs
run-fields d n q p [] empty s e = ap (map (entry_field d)) (stopped n d q s)
run-fields d zero q p _ (more h w k r) s e = absurd (omega arith)
run-fields d (suc n) q p _ (more h w k r) s e =
    ap (map (entry_field d)) (entered n d q h w k) ∙ ap (λ l. entry_field d q ∷ l) (run-fields d n (q + word_at d q) p _ r s (omega arith))
