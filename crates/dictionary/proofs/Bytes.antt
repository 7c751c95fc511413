-- Names and bytes: the ways through their comparison and their tests.
use mathlib.Core.Path.{◌≡◌, refl, sym, ap}
use mathlib.Core.Bool.{Bool, true, false, ◌&&◌}
use mathlib.Core.List.{List, [], ◌∷◌}
use Prim.Native.Nat.{ℕ, zero, suc, ◌≤◌, ◌<◌}
use native.Mathlib.Nat.{le_of_suc-le-suc, not-suc-le-zero}
use native.Mathlib.Omega.{arith}
use lib.Dec.{eqb, leb}
use lib.ListN.{length, take, get_or}
use lib.Seq.{take_all}
use borrow.Author.Tests.{eq-eqb, ne_eqb, eqb-true, eqb-false, le-leb, lt-leb}
use Rattle.std.specs.Prelude.{◌==◌}
use Rattle.std.specs.List.{list_all}
use Rattle.wire.specs.Lists.{all_of, same_bytes}
use Rattle.dictionary.specs.Dictionary.{good_name}

-- ---- equal bytes

pub and-nothing : (t : Bool) → t && false ≡ false
and-nothing true = refl
and-nothing false = refl

pub and-true : (t : Bool) → t && true ≡ t
and-true true = refl
and-true false = refl

pub other_length : (a b : List ℕ) → (length a ≡ length b → ⊥) → false ≡ same_bytes a b
unfolding same_bytes
other_length [] [] h = absurd (h refl)
other_length [] (y ∷ b) h = refl
other_length (x ∷ a) [] h = refl
other_length (x ∷ a) (y ∷ b) h = rw (← other_length a b (λ e. h (ap suc e))) (sym (and-nothing (eqb x y)))

-- one byte more at the end
pub same-last :
    (a b : List ℕ) (i : ℕ) → i < length a → i < length b →
    same_bytes (take (suc i) a) (take (suc i) b) ≡ same_bytes (take i a) (take i b) && eqb (get_or a i 0) (get_or b i 0)
unfolding same_bytes
same-last [] b i h k = absurd (not-suc-le-zero h)
same-last (x ∷ a) [] i h k = absurd (not-suc-le-zero k)
same-last (x ∷ a) (y ∷ b) zero h k = and-true (eqb x y)
same-last (x ∷ a) (y ∷ b) (suc i) h k =
    rw (same-last a b i (le_of_suc-le-suc h) (le_of_suc-le-suc k))
    (and-and (eqb x y) (same_bytes (take i a) (take i b)) (eqb (get_or a i 0) (get_or b i 0)))
  where
    and-and : (s t u : Bool) → s && (t && u) ≡ (s && t) && u
    and-and true t u = refl
    and-and false t u = refl

module _ (a b : List ℕ) (i j : ℕ) (k : i ≡ suc j) (ha : j < length a) (hb : j < length b) where
  pub same-before : get_or a j 0 ≡ get_or b j 0 → same_bytes (take i a) (take i b) ≡ same_bytes (take j a) (take j b)
  same-before e =
      rw (k, same-last a b j ha hb, eq-eqb (get_or a j 0) (get_or b j 0) e) (and-true (same_bytes (take j a) (take j b)))

  pub other_byte : (get_or a j 0 ≡ get_or b j 0 → ⊥) → false ≡ same_bytes (take i a) (take i b)
  other_byte e =
      rw (k, same-last a b j ha hb, ne_eqb (get_or a j 0) (get_or b j 0) e) (sym (and-nothing (same_bytes (take j a) (take j b))))

pub same_end : (a b : List ℕ) (i : ℕ) → i ≤ 0 → true ≡ same_bytes (take i a) (take i b)
unfolding same_bytes
same_end a b zero h = refl
same_end a b (suc i) h = absurd (not-suc-le-zero h)

pub same_whole : (a b : List ℕ) → length a ≡ length b → same_bytes a b ≡ same_bytes (take (length a) a) (take (length a) b)
same_whole a b e = rw (take_all (length a) a (omega arith), take_all (length a) b (omega arith))

-- ---- the bytes of a name

pub all_is : {A : Type 0} (t : A → Bool) (l : List A) → all_of t l ≡ list_all t l
unfolding all_of
all_is t [] = refl
all_is t (x ∷ l) = ap (λ b. t x && b) (all_is t l)

abbrev pub name_byte : ℕ → Bool
name_byte x = leb 33 x && leb x 126

pub no_name : (s : List ℕ) → length s ≡ 0 → false ≡ good_name s
unfolding good_name
no_name s h = rw h

pub not-empty : (n : ℕ) → false ≡ n == 0 → 1 ≤ n
not-empty n e = let h : n ≡ 0 → ⊥ = eqb-false n 0 (sym e) in omega arith

pub is-empty : (n : ℕ) → true ≡ n == 0 → n ≡ 0
is-empty n e = eqb-true n 0 (sym e)

pub long-name : (s : List ℕ) → 31 < length s → false ≡ good_name s
unfolding good_name
long-name s h = rw (le-leb 1 (length s) (omega arith), lt-leb (length s) 31 h)

pub name-by-bytes : (s : List ℕ) → 1 ≤ length s → length s ≤ 31 → good_name s ≡ all_of name_byte s
unfolding good_name
name-by-bytes s h k = rw (le-leb 1 (length s) h, le-leb (length s) 31 k)

-- ---- the counted name at a place
