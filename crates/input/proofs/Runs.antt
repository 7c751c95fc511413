-- Entries of a kind one after another: the laws of one turn of a loop over them.
use Prim.Native.Nat.{ℕ, zero, suc, ◌+◌, ◌≤◌}
use mathlib.Core.Path.{◌≡◌, refl, ap}
use mathlib.Core.Bool.{Bool, true, false}
use mathlib.Core.List.{List, [], ◌∷◌, ◌++◌}
use native.Mathlib.Omega.{arith}
use lib.ListN.{length}
use Rattle.wire.specs.Words.{word_at}
use Rattle.input.specs.Input.{whole}
use Rattle.input.specs.Evaluation.{placed, places, entries_from, after, after_entries, body, bodies, joined}
use Rattle.input.proofs.Inside.{whole-inside}

module _ (s : List ℕ) (kind : ℕ) where
  -- with as many places asked for as there are bytes left, one more changes nothing
  none-by : (p : ℕ) (b : Bool) (rest : List ℕ) → length s ≤ p → whole s p kind ≡ b → [] ≡ placed b p rest
  none-by p true rest h e = let inside = whole-inside s p kind e in absurd (omega (arith, inside.0, inside.1))
  none-by p false rest h e = refl

  more_by : (p : ℕ) (b : Bool) (l m : List ℕ) → whole s p kind ≡ b → (b ≡ true → l ≡ m) → placed b p l ≡ placed b p m
  more_by p true l m e h = ap (λ (x : List ℕ). p ∷ x) (h refl)
  more_by p false l m e h = refl

  more : (n p : ℕ) → length s ≤ p + n → places n s p kind ≡ places (suc n) s p kind
  unfolding places
  more zero p h = none-by p (whole s p kind) _ (omega arith) refl
  more (suc n) p h =
      more_by p (whole s p kind) _ _ refl
      (λ e. let inside = whole-inside s p kind e in more n (p + word_at s p) (omega (arith, inside.0)))

  turn_by : (n p : ℕ) → length s ≡ n → whole s p kind ≡ true → places n s p kind ≡ p ∷ places n s (p + word_at s p) kind
  unfolding places
  turn_by zero p e h = let inside = whole-inside s p kind h in absurd (omega (arith, inside.0, inside.1))
  turn_by (suc n) p e h =
      let inside = whole-inside s p kind h in
      rw (h, ← more n (p + word_at s p) (omega (arith, inside.0)))

  -- an entry of the kind stands at p, or none
  pub entries-turn : (p : ℕ) → whole s p kind ≡ true → entries_from s p kind ≡ p ∷ entries_from s (p + word_at s p) kind
  unfolding entries_from
  entries-turn p h = turn_by (length s) p refl h

  end_by : (n p : ℕ) → whole s p kind ≡ false → places n s p kind ≡ []
  unfolding places
  end_by zero p h = refl
  end_by (suc n) p h = rw h

  pub entries-end : (p : ℕ) → whole s p kind ≡ false → entries_from s p kind ≡ []
  unfolding entries_from
  entries-end p h = end_by (length s) p h

  -- the place after them
  pub after_turn : (p : ℕ) → whole s p kind ≡ true → after_entries s p kind ≡ after_entries s (p + word_at s p) kind
  unfolding after_entries after
  after_turn p h = rw (after_entries, entries-turn p h, after)

  pub after-end : (p : ℕ) → whole s p kind ≡ false → after_entries s p kind ≡ p
  unfolding after_entries after
  after-end p h = rw (after_entries, entries-end p h, after)

  -- their bodies
  pub joined-turn : (p : ℕ) → whole s p kind ≡ true → joined s p kind ≡ body s p ++ joined s (p + word_at s p) kind
  unfolding joined bodies
  joined-turn p h = rw (joined, entries-turn p h, bodies)

  pub joined_end : (p : ℕ) → whole s p kind ≡ false → joined s p kind ≡ []
  unfolding joined bodies
  joined_end p h = rw (joined, entries-end p h, bodies)

-- the entry that is placed ends at p or after it
after-by : (s : List ℕ) (p : ℕ) (b : Bool) (l : List ℕ) → p ≤ after s (p + word_at s p) l → p ≤ after s p (placed b p l)
unfolding after
after-by s p true l h = h
after-by s p false l h = omega arith

after-places : (s : List ℕ) (kind n p : ℕ) → p ≤ after s p (places n s p kind)
unfolding after places
after-places s kind zero p = omega arith
after-places s kind (suc n) p =
    after-by s p (whole s p kind) (places n s (p + word_at s p) kind)
    (omega (arith, after-places s kind n (p + word_at s p)))

pub after-grows : (s : List ℕ) (p kind : ℕ) → p ≤ after_entries s p kind
unfolding after_entries entries_from
after-grows s p kind = after-places s kind (length s) p
