-- The places of entries: enough fuel is enough, the first entry, and one entry more at the end.
use mathlib.Core.Path.{◌≡◌, refl, sym, ap, ◌∙◌}
use mathlib.Core.Bool.{Bool, true, false, ◌&&◌, and-false}
use mathlib.Core.List.{List, [], ◌∷◌, ◌++◌}
use Prim.Native.Nat.{ℕ, zero, suc, ◌+◌, ◌-◌, ◌≤◌, ◌<◌}
use native.Mathlib.Omega.{arith}
use mathlib.Core.Logic.{◌⊎◌, inl, inr}
use lib.Dec.{ltb}
use borrow.Author.Tests.{lt-ltb, le-ltb}
use Rattle.wire.specs.Words.{word_at}
use Rattle.wire.specs.Lists.{any_of}
use Rattle.dictionary.specs.Internal.Walk.{placed, places, between}

-- past the end there is none
pub none_left : (n : ℕ) (d : List ℕ) (q e : ℕ) → e ≤ q → places n d q e ≡ []
unfolding places
none_left zero d q e h = refl
none_left (suc n) d q e h = rw (le-ltb q e h)

-- by a test on the length word
decide : (w : ℕ) → (ltb 0 w ≡ false) ⊎ (0 < w)
decide zero = inl refl
decide (suc w) = inr (omega arith)

one_more : (n m : ℕ) (d : List ℕ) (q e : ℕ) → (ltb 0 (word_at d q) ≡ false) ⊎ (0 < word_at d q) →
    (0 < word_at d q → places n d (q + word_at d q) e ≡ places m d (q + word_at d q) e) → places (suc n) d q e ≡ places (suc m) d q e
unfolding places
one_more n m d q e (inl z) k = rw (z, and-false)
one_more n m d q e (inr w) k = ap (placed (ltb q e && ltb 0 (word_at d q)) q) (k w)

-- places below e, by any number of steps that is enough
pub fuel : (n m : ℕ) (d : List ℕ) (q e : ℕ) → e ≤ q + n → e ≤ q + m → places n d q e ≡ places m d q e
fuel zero m d q e h i = none_left zero d q e (omega arith) ∙ sym (none_left m d q e (omega arith))
fuel (suc n) zero d q e h i = none_left (suc n) d q e (omega arith) ∙ sym (none_left zero d q e (omega arith))
fuel (suc n) (suc m) d q e h i =
    one_more n m d q e (decide (word_at d q)) (λ w. fuel n m d (q + word_at d q) e (omega arith) (omega arith))

-- the first entry
entered : (n : ℕ) (d : List ℕ) (q e : ℕ) → q < e → 0 < word_at d q → places (suc n) d q e ≡ q ∷ places n d (q + word_at d q) e
unfolding places
entered n d q e h w = rw (lt-ltb q e h, lt-ltb 0 (word_at d q) w)

pub first : (d : List ℕ) (q e : ℕ) → q < e → 0 < word_at d q → between d q e ≡ q ∷ between d (q + word_at d q) e
unfolding between
first d q e h w =
    fuel (e - q) (suc (e - q)) d q e (omega arith) (omega arith) ∙ entered (e - q) d q e h w ∙
    ap (λ l. q ∷ l) (fuel (e - q) (e - (q + word_at d q)) d (q + word_at d q) e (omega arith) (omega arith))

-- no entry from the end on
pub none_between : (d : List ℕ) (q e : ℕ) → e ≤ q → between d q e ≡ []
unfolding between
none_between d q e h = none_left (e - q) d q e h

-- an entry of length 0 ends the walk
stuck : (n : ℕ) (d : List ℕ) (q e : ℕ) → word_at d q ≡ 0 → places n d q e ≡ []
unfolding places
stuck zero d q e w = refl
stuck (suc n) d q e w = rw (w, and-false)

pub stuck-between : (d : List ℕ) (q e : ℕ) → word_at d q ≡ 0 → between d q e ≡ []
unfolding between
stuck-between d q e w = stuck (e - q) d q e w

-- ---- a search among them

module _ (t : ℕ → Bool) (d : List ℕ) (q e : ℕ) where
  pub scan-stuck : word_at d q ≡ 0 → false ≡ any_of t (between d q e)
  unfolding any_of between
  scan-stuck w = rw (stuck (e - q) d q e w)

  pub scan-found : q < e → 0 < word_at d q → t q ≡ true → true ≡ any_of t (between d q e)
  unfolding any_of
  scan-found h w f = rw (first d q e h w, f)

  pub scan-next : q < e → 0 < word_at d q → t q ≡ false → any_of t (between d q e) ≡ any_of t (between d (q + word_at d q) e)
  unfolding any_of
  scan-next h w f = rw (first d q e h w, f)

  pub scan-end : e ≤ q → false ≡ any_of t (between d q e)
  unfolding any_of
  scan-end h = rw (none_between d q e h)

-- from q the walk comes to p
pub data Walk (d : List ℕ) : ℕ → ℕ → Type 0 where
  here : {q : ℕ} → Walk d q q
  step : {q p : ℕ} → 0 < word_at d q → Walk d (q + word_at d q) p → Walk d q p

pub walk-le : {d : List ℕ} {q p : ℕ} → Walk d q p → q ≤ p
walk-le here = omega arith
walk-le {d} (step {q} w k) = let h : q + word_at d q ≤ _ = walk-le k in omega arith

pub walk-on : {d : List ℕ} {q p : ℕ} → Walk d q p → 0 < word_at d p → Walk d q (p + word_at d p)
walk-on here w = step w here
walk-on (step v k) w = step v (walk-on k w)

-- one entry more at the end
pub last_one : (d : List ℕ) {q p : ℕ} → Walk d q p → 0 < word_at d p → between d q (p + word_at d p) ≡ between d q p ++ (p ∷ [])
last_one d (here {q}) w =
    first d q (q + word_at d q) (omega arith) w ∙ ap (λ l. q ∷ l) (none_between d (q + word_at d q) (q + word_at d q) (omega arith)) ∙ rw (none_between d q q (omega arith))
last_one d (step {q} {p} v k) w =
    let h : q + word_at d q ≤ p = walk-le k in
    first d q (p + word_at d p) (omega arith) v ∙ ap (λ l. q ∷ l) (last_one d k w) ∙ rw (first d q p (omega arith) v)
