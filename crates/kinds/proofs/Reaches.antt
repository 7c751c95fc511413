-- Spans of what stands between two places: none covers a place outside. Assumes nothing.
use Prim.Native.Nat.{ℕ, ◌<◌, ◌≤◌}
use mathlib.Core.Path.{◌≡◌, refl, ap, ◌∙◌}
use mathlib.Core.Bool.{Bool, true, false, ◌&&◌, ◌||◌}
use mathlib.Core.List.{List, [], ◌∷◌, ◌++◌}
use mathlib.Core.Option.{none}
use native.Mathlib.Omega.{arith}
use lib.Dec.{eqb, ltb}
use borrow.Author.Tests.{lt-ltb, le-ltb, eq-eqb, ne_eqb}
use Rattle.wire.specs.Lists.{find}
use Rattle.kinds.specs.Spans.{Span, covers, holds, coded_at}
use Rattle.kinds.specs.Scoped.{Between}

and-false : (a b : Bool) → b ≡ false → a && b ≡ false
and-false true b e = e
and-false false b e = refl

module _ (x : Span) (p : ℕ) (placed : 0 < x.code) where
  covers-not-before : p ≤ x.code → covers p x ≡ false
  covers-not-before h = rw (ne_eqb x.code 0 (λ e. absurd (omega (arith, e, placed))), le-ltb x.code p h)

  covers-not-behind : x.end ≤ p → covers p x ≡ false
  covers-not-behind h =
      rw (ne_eqb x.code 0 (λ e. absurd (omega (arith, e, placed)))) (and-false (ltb x.code p) (ltb p x.end) (le-ltb p x.end h))

  pub covers-inside : x.code < p → p < x.end → covers p x ≡ true
  covers-inside h k = rw (ne_eqb x.code 0 (λ e. absurd (omega (arith, e, placed))), lt-ltb x.code p h, lt-ltb p x.end k)

module _ (p q : ℕ) (placed : 0 < p) where
  -- at a place that is not after p
  pub none_before : (c at : ℕ) (xs : List Span) → Between p q xs → at ≤ p → find (holds c at) xs ≡ none
  unfolding find
  none_before c at [] b h = refl
  none_before c at (x ∷ xs) b h =
      let l = b.0 in
      rw (and-false (eqb x.number c) (covers at x) (covers-not-before x at (omega (arith, l, placed)) (omega (arith, l, h))))
      (none_before c at xs b.3 h)

  -- at one that is not before q
  pub none-behind : (c at : ℕ) (xs : List Span) → Between p q xs → q ≤ at → find (holds c at) xs ≡ none
  unfolding find
  none-behind c at [] b h = refl
  none-behind c at (x ∷ xs) b h =
      let l = b.0 in
      let r = b.2 in
      rw (and-false (eqb x.number c) (covers at x) (covers-not-behind x at (omega (arith, l, placed)) (omega (arith, r, h))))
      (none-behind c at xs b.3 h)

-- no code stands outside
module _ (p q : ℕ) where
  pub no-code-before : (at : ℕ) (xs : List Span) → Between p q xs → at < p → find (coded_at at) xs ≡ none
  unfolding find
  no-code-before at [] b h = refl
  no-code-before at (x ∷ xs) b h =
      let l = b.0 in
      rw (ne_eqb x.code at (λ e. absurd (omega (arith, e, l, h)))) (no-code-before at xs b.3 h)

  pub no-code-behind : (at : ℕ) (xs : List Span) → Between p q xs → q ≤ at → find (coded_at at) xs ≡ none
  unfolding find
  no-code-behind at [] b h = refl
  no-code-behind at (x ∷ xs) b h =
      let r = b.1 in
      rw (ne_eqb x.code at (λ e. absurd (omega (arith, e, r, h)))) (no-code-behind at xs b.3 h)

-- ---- between wider places, and one after another

pub between-wider : (p q a b : ℕ) (xs : List Span) → p ≤ a → b ≤ q → Between a b xs → Between p q xs
between-wider p q a b [] h k i = tt
between-wider p q a b (x ∷ xs) h k i =
    let l = i.0 in
    let m = i.1 in
    let r = i.2 in
    (omega (arith, l, h), omega (arith, m, k), omega (arith, r, k), between-wider p q a b xs h k i.3)

pub between-both : (p q : ℕ) (xs ys : List Span) → Between p q xs → Between p q ys → Between p q (xs ++ ys)
between-both p q [] ys i j = j
between-both p q (x ∷ xs) ys i j = (i.0, i.1, i.2, between-both p q xs ys i.3 j)
