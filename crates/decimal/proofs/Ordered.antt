-- The order of values: by their signs and magnitudes, and by parts, multiples of a number and then what is left below it. Assumes nothing.
use Prim.Native.Nat.{ℕ, zero, suc, ◌+◌, ◌*◌, ◌≤◌, ◌<◌}
use mathlib.Core.Path.{◌≡◌, refl, sym, ap, ap₂, ◌∙◌}
use mathlib.Core.Bool.{Bool, true, false}
use mathlib.Core.Logic.{⊎_elim, ◌⊎◌, inl, inr}
use native.Mathlib.Omega.{arith}
use native.Mathlib.Nat.{add-zero, add-mul, suc-mul, zero-mul, mul-le-mul_right}
use native.Mathlib.Decide.{dec_lt}
use borrow.Author.Tests.{lt-ltb, le-ltb}
use lib.IntN.{ℤ, pos, negsuc}
use Rattle.std.specs.declared.cmp.Ordering.{Ordering}
use Rattle.std.specs.declared.cmp.Ordering.TheVariants.{Less, Equal, Greater}
use Rattle.wire.specs.Orders.{order_ℕ, order_ℤ, where_equal}
use Rattle.decimal.specs.Internal.Signs.{signed}

is-less : (x y : ℕ) → x < y → order_ℕ x y ≡ Less
unfolding order_ℕ
is-less x y h = rw (lt-ltb x y h)

is_greater : (x y : ℕ) → y < x → order_ℕ x y ≡ Greater
unfolding order_ℕ
is_greater x y h = let l : y ≤ x = omega arith in rw (le-ltb x y l, lt-ltb y x h)

is-equal : (x y : ℕ) → x ≡ y → order_ℕ x y ≡ Equal
unfolding order_ℕ
is-equal x y h = let l : y ≤ x = omega arith in let g : x ≤ y = omega arith in rw (le-ltb x y l, le-ltb y x g)

trichotomy : (x y : ℕ) → (x < y) ⊎ ((x ≡ y) ⊎ (y < x))
trichotomy x y = go (dec_lt x y) (dec_lt y x)
  where
    go : Dec (x < y) → Dec (y < x) → (x < y) ⊎ ((x ≡ y) ⊎ (y < x))
    go (yes p) d = inl p
    go (no p) (yes q) = inr (inr q)
    go (no p) (no q) = inr (inl (omega arith))

-- two comparisons that go the same way
alike : (a b c d : ℕ) → (a < b → c < d) → (b < a → d < c) → (a ≡ b → c ≡ d) → order_ℕ a b ≡ order_ℕ c d
alike a b c d f g h =
    ⊎_elim (λ l. is-less a b l ∙ sym (is-less c d (f l)))
    (⊎_elim (λ e. is-equal a b e ∙ sym (is-equal c d (h e))) (λ q. is_greater a b q ∙ sym (is_greater c d (g q))))
    (trichotomy a b)

-- three comparisons, of which the second decides where the first is equal
in-turn : (a b u v f g : ℕ) → (u < v → a < b) → (v < u → b < a) → (u ≡ v → order_ℕ a b ≡ order_ℕ f g)
    → order_ℕ a b ≡ where_equal (order_ℕ u v) (order_ℕ f g)
in-turn a b u v f g less greater equal =
    ⊎_elim (λ l. is-less a b (less l) ∙ ap (λ (o : Ordering). where_equal o (order_ℕ f g)) (sym (is-less u v l)))
    (⊎_elim (λ e. equal e ∙ ap (λ (o : Ordering). where_equal o (order_ℕ f g)) (sym (is-equal u v e)))
    (λ q. is_greater a b (greater q) ∙ ap (λ (o : Ordering). where_equal o (order_ℕ f g)) (sym (is_greater u v q))))
    (trichotomy u v)

next : (M a b : ℕ) → a < b → a * M + M ≤ b * M
next M a b l = rw suc-mul at (mul-le-mul_right M l)

-- multiples of M, and what is left below it
module _ (M u f v g : ℕ) (h : f < M) (k : g < M) where
  by-multiples : order_ℕ (u * M + f) (v * M + g) ≡ where_equal (order_ℕ u v) (order_ℕ f g)
  by-multiples =
      in-turn (u * M + f) (v * M + g) u v f g
      (λ l. let n : u * M + M ≤ v * M = next M u v l in omega arith)
      (λ l. let n : v * M + M ≤ u * M = next M v u l in omega arith)
      (λ e. let n : u * M ≡ v * M = ap (λ (z : ℕ). z * M) e in
      alike (u * M + f) (v * M + g) f g (λ l. omega arith) (λ l. omega arith) (λ l. omega arith))

-- whether there are any
module _ (M n f : ℕ) (h : 0 < M) where
  any : 0 < n → M ≤ n * M
  any l = omega (arith, next M 0 n l)

  none : n ≡ 0 → n * M ≡ 0
  none e = rw (e, zero-mul)

  above_zero : order_ℕ (n * M + f) 0 ≡ where_equal (order_ℕ n 0) (order_ℕ f 0)
  above_zero =
      in-turn (n * M + f) 0 n 0 f 0 (λ l. omega arith) (λ l. let m : M ≤ n * M = any l in omega arith)
      (λ e. let m : n * M ≡ 0 = none e in alike (n * M + f) 0 f 0 (λ l. omega arith) (λ l. omega arith) (λ l. omega arith))

  below-zero : order_ℕ 0 (n * M + f) ≡ where_equal (order_ℕ 0 n) (order_ℕ 0 f)
  below-zero =
      in-turn 0 (n * M + f) 0 n 0 f (λ l. let m : M ≤ n * M = any l in omega arith) (λ l. omega arith)
      (λ e. let m : n * M ≡ 0 = none (sym e) in alike 0 (n * M + f) 0 f (λ l. omega arith) (λ l. omega arith) (λ l. omega arith))

-- the order of two values by their signs: of magnitudes of one sign, and against zero by the sum of magnitudes of two
both_positive : (a b : ℕ) → order_ℤ (signed false a) (signed false b) ≡ order_ℕ a b
unfolding signed order_ℤ order_ℕ
both_positive a b = refl

both_negative : (a b : ℕ) → order_ℤ (signed true a) (signed true b) ≡ order_ℕ b a
unfolding signed order_ℤ order_ℕ
both_negative zero zero = refl
both_negative zero (suc b) = sym (is_greater (suc b) 0 (omega arith))
both_negative (suc a) zero = sym (is-less 0 (suc a) (omega arith))
both_negative (suc a) (suc b) = alike b a (suc b) (suc a) (omega arith) (omega arith) (omega arith)

second-negative : (a b : ℕ) → order_ℤ (signed false a) (signed true b) ≡ order_ℕ (a + b) 0
unfolding signed order_ℤ order_ℕ
second-negative a zero = alike a 0 (a + 0) 0 (omega arith) (omega arith) (omega arith)
second-negative a (suc b) = sym (is_greater (a + suc b) 0 (omega arith))

first-negative : (a b : ℕ) → order_ℤ (signed true a) (signed false b) ≡ order_ℕ 0 (a + b)
unfolding signed order_ℤ order_ℕ
first-negative zero b = alike 0 b 0 (0 + b) (omega arith) (omega arith) (omega arith)
first-negative (suc a) b = sym (is-less 0 (suc a + b) (omega arith))

sum-of-parts : (M u f v g : ℕ) → (u * M + f) + (v * M + g) ≡ (u + v) * M + (f + g)
sum-of-parts M u f v g = omega (arith, add-mul u v M)

-- the same of signed values: two values, each in two parts of its sign, are in the order of the first parts, and where these are equal of the second
pub signed_parts : (s t : Bool) (M u f v g : ℕ) → f < M → g < M
    → order_ℤ (signed s (u * M + f)) (signed t (v * M + g)) ≡ where_equal (order_ℤ (signed s u) (signed t v)) (order_ℤ (signed s f) (signed t g))
signed_parts false false M u f v g h k = rw (both_positive, both_positive u v, both_positive f g) (by-multiples M u f v g h k)
signed_parts true true M u f v g h k = rw (both_negative, both_negative u v, both_negative f g) (by-multiples M v g u f k h)
signed_parts false true M u f v g h k =
    let p : 0 < M = omega arith in
    rw (second-negative, second-negative u v, second-negative f g, sum-of-parts M u f v g) (above_zero M (u + v) (f + g) p)
signed_parts true false M u f v g h k =
    let p : 0 < M = omega arith in
    rw (first-negative, first-negative u v, first-negative f g, sum-of-parts M u f v g) (below-zero M (u + v) (f + g) p)

-- a common factor does not change the order
nothing_left : (s t : Bool) → order_ℤ (signed s 0) (signed t 0) ≡ Equal
unfolding signed order_ℤ
nothing_left true true = refl
nothing_left true false = refl
nothing_left false true = refl
nothing_left false false = refl

first-decides : (o : Ordering) → where_equal o Equal ≡ o
first-decides Less = refl
first-decides Equal = refl
first-decides Greater = refl

pub common-factor : (s t : Bool) (M u v : ℕ) → 0 < M → order_ℤ (signed s (u * M)) (signed t (v * M)) ≡ order_ℤ (signed s u) (signed t v)
common-factor s t M u v h =
    ap₂ (λ (x y : ℕ). order_ℤ (signed s x) (signed t y)) (sym (add-zero (u * M))) (sym (add-zero (v * M)))
    ∙ signed_parts s t M u 0 v 0 h h ∙ ap (where_equal (order_ℤ (signed s u) (signed t v))) (nothing_left s t)
    ∙ first-decides (order_ℤ (signed s u) (signed t v))

-- only a value itself is equal to it in order
equal-only_ℕ : (a b : ℕ) → order_ℕ a b ≡ Equal → a ≡ b
equal-only_ℕ a b e =
    ⊎_elim (λ l. let z : Less ≡ Equal = sym (is-less a b l) ∙ e in cc)
    (⊎_elim (λ h. h) (λ q. let z : Greater ≡ Equal = sym (is_greater a b q) ∙ e in cc))
    (trichotomy a b)

pub equal-only : (x y : ℤ) → order_ℤ x y ≡ Equal → x ≡ y
unfolding order_ℤ order_ℕ
equal-only (pos a) (pos b) e = ap pos (equal-only_ℕ a b e)
equal-only (pos a) (negsuc b) e = cc
equal-only (negsuc a) (pos b) e = cc
equal-only (negsuc a) (negsuc b) e = ap negsuc (sym (equal-only_ℕ b a e))

pub equal-itself : (x : ℤ) → order_ℤ x x ≡ Equal
unfolding order_ℤ order_ℕ
equal-itself (pos a) = is-equal a a refl
equal-itself (negsuc a) = is-equal a a refl
