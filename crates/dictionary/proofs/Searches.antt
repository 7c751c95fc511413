-- The search for a relation: what is found so far, and what is left to search.
use mathlib.Core.Path.{◌≡◌, refl, subst}
use mathlib.Core.Bool.{Bool, true, false, cond}
use mathlib.Core.List.{List}
use mathlib.Core.Option.{Option, none, some}
use Prim.Native.Nat.{ℕ, ◌+◌, ◌≤◌, ◌<◌}
use lib.ListN.{length}
use borrow.Author.Tests.{le-leb, lt-leb}
use Rattle.std.specs.Prelude.{Option as Maybe, Some, None}
use Rattle.wire.specs.Options.{option_of}
use Rattle.wire.specs.Words.{word_at}
use Rattle.dictionary.specs.Internal.Walk.{between, later, last_of, last_place}
use Rattle.dictionary.proofs.Places.{first, none_between, stuck-between}

abbrev pub back_of : Maybe ℕ → Option ℕ
back_of None = none
back_of (Some p) = some p

-- a place found later, or else one found before
abbrev pub latest : Option ℕ → Option ℕ → Option ℕ
latest (some z) o = some z
latest none o = o

pub back : (p : Maybe ℕ) → p ≡ option_of (latest none (back_of p))
back None = refl
back (Some p) = refl

module _ (t : ℕ → Bool) (d : List ℕ) (q : ℕ) (o : Option ℕ) where
  abbrev pub left : Option ℕ
  left = latest (last_of t (between d q (length d))) o

  pub search-end : length d ≤ q → latest none o ≡ left
  unfolding last_of
  search-end h = rw (none_between d q (length d) h)

  pub search-stuck : word_at d q ≡ 0 → latest none o ≡ left
  unfolding last_of
  search-stuck h = rw (stuck-between d q (length d) h)

  pub search-next : q < length d → 0 < word_at d q → left ≡ latest (last_of t (between d (q + word_at d q) (length d))) (cond (t q) (some q) o)
  unfolding last_of
  search-next h w = rw (first d q (length d) h w) (by (t q) (last_of t (between d (q + word_at d q) (length d))))
    where
      by : (b : Bool) (x : Option ℕ) → latest (later x b q) o ≡ latest x (cond b (some q) o)
      by b (some z) = refl
      by true none = refl
      by false none = refl

-- the same in the code's terms
pub search_on : (t : ℕ → Bool) (d : List ℕ) (q n : ℕ) (found found' : Maybe ℕ) → q < length d → 0 < n → n ≡ word_at d q →
    found' ≡ cond (t q) (Some q) found → left t d q (back_of found) ≡ left t d (q + n) (back_of found')
search_on t d q n found found' h w e f = rw (f, e, by (t q)) (search-next t d q (back_of found) h (subst (λ m. 0 < m) e w))
  where
    by : (b : Bool) → back_of (cond b (Some q) found) ≡ cond b (some q) (back_of found)
    by true = refl
    by false = refl

pub search-short : (d : List ℕ) (t : ℕ → Bool) → length d ≤ 65535 → last_place d t ≡ left t d 0 none
search-short d t h = rw (le-leb (length d) 65535 h) (by (last_of t (between d 0 (length d))))
  where
    by : (x : Option ℕ) → x ≡ latest x none
    by none = refl
    by (some z) = refl

pub search-long : (d : List ℕ) (t : ℕ → Bool) → 65535 < length d → None ≡ option_of (last_place d t)
search-long d t h = rw (lt-leb (length d) 65535 h)
