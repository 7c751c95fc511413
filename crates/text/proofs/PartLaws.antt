-- A text's part: a step over a blank, where the blanks stop, the first zero, and that the part lies in the slice. Assumes nothing.
use Prim.Native.Nat.{ℕ, zero, suc, ◌+◌, ◌-◌, ◌≤◌, ◌<◌}
use mathlib.Core.Path.{◌≡◌, refl, sym, ap, ◌∙◌}
use mathlib.Core.Bool.{Bool, true, false, cond, ◌&&◌}
use mathlib.Core.List.{List, [], ◌∷◌}
use mathlib.Core.Option.{Option, none, some, map}
use native.Mathlib.Omega.{arith}
use borrow.Author.Tests.{eq-eqb, ne_eqb, leb-true}
use lib.Dec.{eqb, leb}
use lib.ListN.{length}
use Rattle.wire.specs.Words.{byte_at, word_at}
use Rattle.wire.specs.Lists.{index_of}
use Rattle.wire.specs.Options.{option_of}
use Rattle.wire.specs.declared.codes.TextType.{TextType}
use Rattle.wire.specs.declared.codes.TextType.TheVariants.{Text, Varying, Cstring}
use Rattle.std.specs.Prelude.{Some, None}
use Rattle.text.specs.Value.{TextPart, blank, kept, trimmed, cut_at, text_part, bytes_of}
use Rattle.text.specs.Internal.TextRead.{Within, TextRead}

module _ (s : List ℕ) (p : ℕ) where
  pub kept-none : kept s p 0 ≡ 0
  unfolding kept
  kept-none = refl

  pub kept-le : (n : ℕ) → kept s p n ≤ n
  unfolding kept
  kept-le zero = omega arith
  kept-le (suc n) = either (eqb (byte_at s (p + n)) blank) (kept-le n)
    where
      either : (b : Bool) → kept s p n ≤ n → cond b (kept s p n) (suc n) ≤ suc n
      either true h = omega arith
      either false h = omega arith

  pub kept-within : (n : ℕ) → p + n ≤ length s → Within (length s) (trimmed s p n)
  kept-within n h = (omega arith, omega (arith, kept-le n))

  pub kept-stop : (k : ℕ) → 0 < k → (byte_at s (p + (k - 1)) ≡ blank → ⊥) → kept s p k ≡ k
  unfolding kept
  kept-stop zero h n = absurd (omega arith)
  kept-stop (suc j) h n =
      let e : suc j - 1 ≡ j = omega arith in
      rw (ne_eqb (byte_at s (p + j)) blank (λ q. n (ap (λ (i : ℕ). byte_at s (p + i)) e ∙ q)))

  pub kept_step : (k : ℕ) → 0 < k → byte_at s (p + (k - 1)) ≡ blank → kept s p k ≡ kept s p (k - 1)
  unfolding kept
  kept_step zero h q = absurd (omega arith)
  kept_step (suc j) h q =
      let e : suc j - 1 ≡ j = omega arith in
      rw (e, eq-eqb (byte_at s (p + j)) blank (ap (λ (i : ℕ). byte_at s (p + i)) (sym e) ∙ q))

-- the cut at a place that is there or not, as the code found it
module _ (s : List ℕ) where
  pub cut-none : (o : Option ℕ) → option_of o ≡ None → None ≡ cut_at s o
  cut-none none e = refl
  cut-none (some k) e = cc

  pub cut-some : (o : Option ℕ) (k : ℕ) → option_of o ≡ Some k → trimmed s 0 k ≡ cut_at s o
  cut-some none k e = cc
  cut-some (some m) k e = let q : m ≡ k = cc in rw q

-- where there is a number, it is at most n
AtMost : ℕ → Option ℕ → Type 0
AtMost n none = Unit {0}
AtMost n (some k) = k ≤ n

index-within : (test : ℕ → Bool) (s : List ℕ) → AtMost (length s) (index_of test s)
unfolding index_of AtMost
index-within test [] = tt
index-within test (x ∷ s) = either (test x) (index_of test s) (index-within test s)
  where
    either : (b : Bool) (o : Option ℕ) → AtMost (length s) o → AtMost (length (x ∷ s)) (cond b (some 0) (map suc o))
    either true o h = omega arith
    either false none h = tt
    either false (some k) h = omega arith

module _ (s : List ℕ) where
  varying-within : (b c : Bool) → leb 2 (length s) ≡ b → leb (word_at s 0) (length s - 2) ≡ c →
      Within (length s) (cond (b && c) (trimmed s 2 (word_at s 0)) None)
  varying-within true true e f =
      let h : 2 + word_at s 0 ≤ length s = omega (arith, leb-true 2 (length s) e, leb-true (word_at s 0) (length s - 2) f) in
      kept-within s 2 (word_at s 0) h
  varying-within true false e f = tt
  varying-within false c e f = tt

  cut-within : (o : Option ℕ) → AtMost (length s) o → Within (length s) (cut_at s o)
  unfolding AtMost
  cut-within none h = tt
  cut-within (some k) h = let l : 0 + k ≤ length s = omega arith in kept-within s 0 k l

pub text-within : (t : TextType) (s : List ℕ) → Within (length s) (text_part t s)
unfolding text_part
text-within Text s = let h : 0 + length s ≤ length s = omega arith in kept-within s 0 (length s) h
text-within Varying s = varying-within s _ _ refl refl
text-within Cstring s = cut-within s _ (index-within (λ x. eqb x 0) s)

module _ (t : TextType) (s : List ℕ) where
  pub part-within : (start end : ℕ) → text_part t s ≡ Some (start, end) → (start ≤ end) × (end ≤ length s)
  part-within start end e = rw e at (text-within t s)

  pub text-read : (p : TextPart) (r : List ℕ) → text_part t s ≡ p → r ≡ bytes_of s p → TextRead t s r
  text-read p r e h = record { bytes = h ∙ ap (bytes_of s) (sym e); within = text-within t s }
