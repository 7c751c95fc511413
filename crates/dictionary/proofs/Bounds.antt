-- A place that a search finds is one of the dictionary's.
use mathlib.Core.Path.{◌≡◌, refl}
use mathlib.Core.Bool.{Bool, true, false, cond, ◌&&◌}
use mathlib.Core.List.{List}
use mathlib.Core.Option.{Option, none, some}
use Prim.Native.Nat.{ℕ, zero, suc, ◌+◌, ◌-◌, ◌<◌}
use native.Mathlib.Omega.{arith}
use lib.Dec.{ltb, leb}
use lib.ListN.{length}
use borrow.Author.Tests.{ltb-true, leb-true}
use Rattle.wire.specs.Words.{word_at}
use Rattle.dictionary.specs.Naming.{Name}
use Rattle.dictionary.specs.Internal.Walk.{placed, places, between, later, last_of, is_named, relation_place}

later-below : (o : Option ℕ) (b : Bool) (q e z : ℕ) → q < e → ((y : ℕ) → o ≡ some y → y < e) → later o b q ≡ some z → z < e
later-below (some y) b q e z h below is = below z is
later-below none true q e z h below is = let same : q ≡ z = cc in omega arith
later-below none false q e z h below is = let odd : ◌≡◌ {A = ℕ} 0 1 = cc in absurd (omega arith)

placed_below : (test : ℕ → Bool) (q e : ℕ) (rest : List ℕ) (a b : Bool) → ltb q e ≡ a → ((y : ℕ) → last_of test rest ≡ some y → y < e) →
    (z : ℕ) → last_of test (placed (a && b) q rest) ≡ some z → z < e
unfolding last_of
placed_below test q e rest true true h below z is = later-below (last_of test rest) (test q) q e z (ltb-true q e h) below is
placed_below test q e rest true false h below z is = let odd : ◌≡◌ {A = ℕ} 0 1 = cc in absurd (omega arith)
placed_below test q e rest false b h below z is = let odd : ◌≡◌ {A = ℕ} 0 1 = cc in absurd (omega arith)

last-below : (test : ℕ → Bool) (n : ℕ) (d : List ℕ) (q e z : ℕ) → last_of test (places n d q e) ≡ some z → z < e
unfolding places last_of
last-below test zero d q e z is = let odd : ◌≡◌ {A = ℕ} 0 1 = cc in absurd (omega arith)
last-below test (suc n) d q e z is =
    placed_below test q e (places n d (q + word_at d q) e) (ltb q e) (ltb 0 (word_at d q)) refl
    (λ y found. last-below test n d (q + word_at d q) e y found) z is

short-below : (d : List ℕ) (b : Bool) (o : Option ℕ) (z : ℕ) → leb (length d) 65535 ≡ b → ((y : ℕ) → o ≡ some y → y < length d) →
    cond b o none ≡ some z → z < 65535
short-below d true o z short below is = let low = below z is in let short' = leb-true (length d) 65535 short in omega arith
short-below d false o z short below is = let odd : ◌≡◌ {A = ℕ} 0 1 = cc in absurd (omega arith)

-- a relation's place is below the greatest length
pub found_below : (d : List ℕ) (n : Name) (z : ℕ) → relation_place d n ≡ some z → z < 65535
unfolding relation_place between
found_below d n z is =
    short-below d (leb (length d) 65535) (last_of (is_named d n) (between d 0 (length d))) z refl
    (λ y found. last-below (is_named d n) (length d - 0) d 0 (length d) y found) is
