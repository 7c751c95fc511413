-- Each way through the walk, a law each.
use Prim.Native.Nat.{ℕ, zero, suc, ◌-◌, ◌≤◌, ◌<◌, min}
use mathlib.Core.Path.{◌≡◌, refl, sym, ap, ◌∙◌}
use mathlib.Core.List.{List}
use native.Mathlib.Omega.{arith, min_cases}
use lib.ListN.{length}
use Rattle.wire.specs.Lists.{among, any_of}
use Rattle.wire.specs.Words.{byte_at}
use Rattle.wire.proofs.Past.{past}
use Rattle.wire.specs.Classes.{Class, due, foreign, classify, value_class, boolean_class}
use Rattle.wire.specs.declared.codes.ValueCode.{ValueCode}
use Rattle.wire.specs.declared.codes.ValueCode.TheVariants as Code
use Rattle.wire.specs.declared.codes.BooleanCode.{BooleanCode}
use Rattle.wire.specs.declared.codes.Statistic.{Statistic}
use Rattle.grammar.proofs.StepLaws.{absurd-eq}
use Rattle.meaning.specs.declared.Truth.{Truth}
use Rattle.meaning.specs.Data.{Datum}
use Rattle.walking.specs.Walk.{Walked, at, fault, astray, ◌▷◌, on_class, value_under, value_at, Sight, over_at, numbers_at, count_at, boolean_under, boolean_at}

-- what follows the first is worked out from where the first ends
pub second-after : {A B C : Type 0} (x : Walked A) (y : Walked B) (next : ℕ → Walked B) (k : A → B → ℕ → Walked C) →
    y ≡ (x ▷ λ a q. next q) → (x ▷ λ a q. y ▷ λ b e. k a b e) ≡ (x ▷ λ a q. next q ▷ λ b e. k a b e)
second-after (at a q) y next k h = ap (λ z. z ▷ λ b e. k a b e) h
second-after (fault f p) y next k h = refl
second-after astray y next k h = refl

pub third-after : {A B C D : Type 0} (x : Walked A) (y : Walked B) (z : Walked C) (last : ℕ → Walked C) (k : A → B → C → ℕ → Walked D) →
    z ≡ (y ▷ λ b q. last q) → (x ▷ λ a q. y ▷ λ b u. z ▷ λ c e. k a b c e) ≡ (x ▷ λ a q. y ▷ λ b u. last u ▷ λ c e. k a b c e)
third-after (at a q) y z last k h = second-after y z last (k a) h
third-after (fault f p) y z last k h = refl
third-after astray y z last k h = refl

-- what is astray past the end is the same at the end and after it
pub no-further : {A : Type 0} (s : List ℕ) (f : ℕ → Walked A) → ((q : ℕ) → length s ≤ q → f q ≡ astray) → (p : ℕ) →
    f (min p (length s)) ≡ f p
no-further s f h p =
    min_cases p (length s) (f (min p (length s)) ≡ f p) (λ k e. ap f e) (λ k e. ap f e ∙ h (length s) (omega arith) ∙ sym (h p k))

-- 0 is no code
zero-value : value_class 0 ≡ foreign
unfolding value_class classify among any_of
zero-value = refl

zero-boolean : boolean_class 0 ≡ foreign
unfolding boolean_class classify among any_of
zero-boolean = refl

-- what stands under a code at p, with so many levels below it
abbrev pub value_below : {E : Type 0} → Sight E → E → ℕ → List ℕ → ℕ → ValueCode → Walked Datum
value_below w x l s p k =
    value_under (w.fetch x) (λ q. value_at w x l s q)
    (λ c. numbers_at c p (w.over x p) (λ y q. boolean_at w y l s q) (λ y q. value_at w y l s q))
    (count_at (w.over x p) (λ y q. boolean_at w y l s q)) s p k

abbrev pub boolean_below : {E : Type 0} → Sight E → E → ℕ → List ℕ → ℕ → BooleanCode → Walked Truth
boolean_below w x l s p k =
    boolean_under (λ q. value_at w x l s q) (λ q. boolean_at w x l s q) (λ q. over_at q (w.over x p) (λ y z. boolean_at w y l s z)) p k

-- a code that is due stands before the end
pub value-inside : (s : List ℕ) (p : ℕ) (k : ValueCode) → value_class (byte_at s p) ≡ due k → p < length s
value-inside s p k e =
    let n : length s ≤ p → ⊥ = λ h. let z = ap value_class (past s p h) in let y = zero-value in absurd-eq (cc) in
    omega (arith, n)

module _ {E : Type 0} (w : Sight E) (x : E) (s : List ℕ) where
  pub value-level : (p : ℕ) → value_at w x 0 s p ≡ astray
  unfolding value_at
  value-level p = refl

  pub value-by : (l p : ℕ) (c : Class ValueCode) → (l ≡ 0 → ⊥) → c ≡ value_class (byte_at s p) →
      value_at w x l s p ≡ on_class c (λ k. value_below w x (l - 1) s p k)
  unfolding value_at
  value-by zero p c h e = absurd (h refl)
  value-by (suc l) p c h e = let z : suc l - 1 ≡ l = omega arith in rw (e, z)

  -- a statistic, and a count, over its run
  pub statistic-by : (l p : ℕ) (k : Statistic) → (l ≡ 0 → ⊥) → value_class (byte_at s p) ≡ due (Code.Statistic k) →
      value_at w x l s p ≡ numbers_at k p (w.over x p) (λ y q. boolean_at w y (l - 1) s q) (λ y q. value_at w y (l - 1) s q)
  unfolding value_under
  statistic-by l p k h e = value-by l p (due (Code.Statistic k)) h (sym e)

  pub count_by : (l p : ℕ) → (l ≡ 0 → ⊥) → value_class (byte_at s p) ≡ due Code.Count →
      value_at w x l s p ≡ count_at (w.over x p) (λ y q. boolean_at w y (l - 1) s q)
  unfolding value_under
  count_by l p h e = value-by l p (due Code.Count) h (sym e)

  pub value-past : (l p : ℕ) → length s ≤ p → value_at w x l s p ≡ astray
  unfolding value_at
  value-past zero p h = refl
  value-past (suc l) p h = ap (λ c. on_class c (λ k. value_below w x l s p k)) (ap value_class (sym (past s p h)) ∙ zero-value)

  pub boolean-level : (p : ℕ) → boolean_at w x 0 s p ≡ astray
  unfolding boolean_at
  boolean-level p = refl

  pub boolean-by : (l p : ℕ) (c : Class BooleanCode) → (l ≡ 0 → ⊥) → c ≡ boolean_class (byte_at s p) →
      boolean_at w x l s p ≡ on_class c (λ k. boolean_below w x (l - 1) s p k)
  unfolding boolean_at
  boolean-by zero p c h e = absurd (h refl)
  boolean-by (suc l) p c h e = let z : suc l - 1 ≡ l = omega arith in rw (e, z)

  pub boolean-past : (l p : ℕ) → length s ≤ p → boolean_at w x l s p ≡ astray
  unfolding boolean_at
  boolean-past zero p h = refl
  boolean-past (suc l) p h = ap (λ c. on_class c (λ k. boolean_below w x l s p k)) (ap boolean_class (sym (past s p h)) ∙ zero-boolean)
