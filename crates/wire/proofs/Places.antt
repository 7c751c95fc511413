-- The first place that passes a test, as std's `position` answers it.
use mathlib.Core.Path.{◌≡◌, refl}
use mathlib.Core.Bool.{Bool, true, false, cond}
use mathlib.Core.List.{List, [], ◌∷◌}
use mathlib.Core.Option.{Option, none, some, map}
use Prim.Native.Nat.{ℕ, suc, ◌<◌}
use Prim.Native.Nat.compare
use native.Mathlib.Numerals.{one-add}
use native.Mathlib.Omega.{arith}
use borrow.Author.Tests.{lt-ltb}
use lib.ListN.{length}
use Rattle.std.specs.Prelude.{Some, None, position, nat_lt}
use Rattle.std.specs.List.{position_or_len}
use Rattle.wire.specs.Lists.{index_of}
use Rattle.wire.specs.Options.{option_of}

module _ {A : Type 0} (test : A → Bool) where
  next : (b : Bool) (k n : ℕ) (o : Option ℕ) → cond b (Some k) None ≡ option_of o → cond b (Some (suc k)) None ≡ option_of (map suc o)
  next true k n none e = cc
  next true k n (some m) e = cc
  next false k n none e = refl
  next false k n (some m) e = cc

  step : (x : A) (s : List A) (b : Bool) → test x ≡ b → position test s ≡ option_of (index_of test s)
      → position test (x ∷ s) ≡ option_of (cond (test x) (some 0) (map suc (index_of test s)))
  step x s true e h = let l : 0 < suc (length s) = omega arith in rw (e, lt-ltb 0 (suc (length s)) l)
  step x s false e h = rw (e, one-add, compare.suc-suc) (next (nat_lt (position_or_len test s) (length s)) (position_or_len test s) (length s) (index_of test s) h)

  pub position_is : (s : List A) → position test s ≡ option_of (index_of test s)
  unfolding index_of
  position_is [] = refl
  position_is (x ∷ s) = step x s (test x) refl (position_is s)
