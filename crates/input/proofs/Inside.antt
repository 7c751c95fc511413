-- The entries of an input stand inside it.
use Prim.Native.Nat.{ℕ, ◌+◌, ◌≤◌}
use mathlib.Core.Path.{◌≡◌, refl}
use mathlib.Core.Bool.{Bool, true, false, cond, ◌&&◌}
use mathlib.Core.List.{List}
use mathlib.Core.Option.{none, some}
use native.Mathlib.Omega.{arith}
use lib.Dec.{eqb, leb}
use lib.ListN.{length}
use borrow.Author.Tests.{leb-true}
use Rattle.wire.specs.Words.{word_at}
use Rattle.std.specs.Prelude.{Some, None}
use Rattle.wire.specs.Options.{option_of}
use Rattle.input.specs.Input.{whole, entry_end, request_entry}

pub both : (a b : Bool) → a && b ≡ true → (a ≡ true) × (b ≡ true)
both true b e = (refl, e)
both false b e = let z : ◌≡◌ {A = ℕ} 0 1 = cc in absurd (omega arith)

pub whole-inside : (s : List ℕ) (p k : ℕ) → whole s p k ≡ true → (4 ≤ word_at s p) × (p + word_at s p ≤ length s)
unfolding whole
whole-inside s p k h =
    let u = both (leb 4 (word_at s p) && leb (p + word_at s p) (length s)) (eqb (word_at s (p + 2)) k) h in
    let v = both (leb 4 (word_at s p)) (leb (p + word_at s p) (length s)) u.0 in
    (leb-true 4 (word_at s p) v.0, leb-true (p + word_at s p) (length s) v.1)

-- what the place after an entry tells of it
pub ended : (s : List ℕ) (p k next : ℕ) → Some next ≡ option_of (entry_end s p k) → (whole s p k ≡ true) × (next ≡ p + word_at s p)
ended s p k next e = by (whole s p k) e
  where
    by : (b : Bool) → Some next ≡ option_of (cond b (some (p + word_at s p)) none) → (b ≡ true) × (next ≡ p + word_at s p)
    by true h = let same : next ≡ p + word_at s p = cc in (refl, same)
    by false h = let z : ◌≡◌ {A = ℕ} 0 1 = cc in absurd (omega arith)

pub not-ended : (s : List ℕ) (p k : ℕ) → None ≡ option_of (entry_end s p k) → whole s p k ≡ false
not-ended s p k e = by (whole s p k) e
  where
    by : (b : Bool) → None ≡ option_of (cond b (some (p + word_at s p)) none) → b ≡ false
    by true h = let z : ◌≡◌ {A = ℕ} 0 1 = cc in absurd (omega arith)
    by false h = refl

-- the request's entry stands after four bytes or more, and has four bytes or more
pub request-inside : (s : List ℕ) (p : ℕ) → Some p ≡ option_of (request_entry s) → (4 ≤ p) × (p + 4 ≤ length s)
unfolding request_entry
request-inside s p e = by (whole s 0 4) (whole s (word_at s 0) 5) (eqb (word_at s 0 + word_at s (word_at s 0)) (length s)) refl refl refl e
  where
    by :
        (a b t : Bool) → whole s 0 4 ≡ a → whole s (word_at s 0) 5 ≡ b → eqb (word_at s 0 + word_at s (word_at s 0)) (length s) ≡ t →
        Some p ≡ option_of (cond (a && b && t) (some (word_at s 0)) none) → (4 ≤ p) × (p + 4 ≤ length s)
    by true true true i j k h =
        let w : p ≡ word_at s 0 = cc in
        let first = whole-inside s 0 4 i in
        let second = whole-inside s (word_at s 0) 5 j in
        (omega (arith, w, first.0), omega (arith, w, second.0, second.1))
    by true true false i j k h = let z : ◌≡◌ {A = ℕ} 0 1 = cc in absurd (omega arith)
    by true false t i j k h = let z : ◌≡◌ {A = ℕ} 0 1 = cc in absurd (omega arith)
    by false b t i j k h = let z : ◌≡◌ {A = ℕ} 0 1 = cc in absurd (omega arith)
