-- A law for each return of the walk over a value. Assumes nothing.
use Prim.Native.Nat.{ℕ, zero, suc, ◌+◌, ◌-◌, ◌<◌, ◌≤◌}
use mathlib.Core.Path.{◌≡◌, refl, sym, ap, ap₂, ◌∙◌}
use mathlib.Core.List.{List}
use mathlib.Core.Option.{Option, none, some}
use native.Mathlib.Omega.{arith}
use lib.ListN.{length}
use Rattle.wire.specs.Lists.{among, any_of}
use Rattle.wire.specs.Words.{byte_at}
use Rattle.std.specs.Prelude.{Ok, Err}
use Rattle.wire.specs.Classes.{Class, due, left_out, foreign, classify, value_class}
use Rattle.classes.specs.declared.NotDue.{NotDue}
use Rattle.classes.specs.Classes.{class_of}
use Rattle.wire.specs.declared.codes.Version.{Version}
use Rattle.wire.specs.declared.codes.Operator.{Operator}
use Rattle.wire.specs.declared.codes.ValueCode.{ValueCode}
use Rattle.wire.proofs.Past.{past}
use Rattle.grammar.specs.Kinds.{negated_kind}
use Rattle.kinds.specs.Spans.{Span}
use Rattle.kinds.specs.KindAt.{Kinded, kinded, on_class, joined_kinds, operands, opposite, statistic_at, kind_at}
use Rattle.kinds.specs.Promises.{kind_inside}

module _ (d ps : List ℕ) (count : ℕ) (xs : List Span) (s : List ℕ) (l p : ℕ) where
  pub no_level : l ≡ 0 → kinded none p ≡ kind_at d ps count xs l s p
  unfolding kind_at
  no_level e = rw e

pub no_code : (d ps : List ℕ) (count : ℕ) (xs : List Span) (s : List ℕ) (l p : ℕ) → length s ≤ p → kinded none p ≡ kind_at d ps count xs l s p
unfolding kind_at value_class classify among any_of
no_code d ps count xs s zero p h = refl
no_code d ps count xs s (suc l) p h = rw (← past s p h)

-- the class of the byte at p
pub class_kind : (d ps : List ℕ) (count : ℕ) (xs : List Span) (s : List ℕ) (l p : ℕ) → (l ≡ 0 → ⊥) → (k : Class ValueCode) →
    k ≡ value_class (byte_at s p) → on_class k p (λ z. kind_inside d ps count xs (l - 1) s p z) ≡ kind_at d ps count xs l s p
unfolding kind_at
class_kind d ps count xs s zero p h k e = absurd (h refl)
class_kind d ps count xs s (suc l) p h k e =
    let z : suc l - 1 ≡ l = omega arith in
    rw z (ap (λ y. on_class y p (λ q. kind_inside d ps count xs l s p q)) e)

-- by the answer of the code
pub code-due : (x : Class ValueCode) {v : ValueCode} → Ok v ≡ class_of x → due v ≡ x
code-due (due u) e = cc
code-due left_out e = absurd cc
code-due foreign e = absurd cc

code-not : (x : Class ValueCode) {n : NotDue} (p : ℕ) (f : ValueCode → Kinded) → Err n ≡ class_of x → kinded none p ≡ on_class x p f
code-not (due u) p f e = absurd cc
code-not left_out p f e = refl
code-not foreign p f e = refl

pub class-not : (d ps : List ℕ) (count : ℕ) (xs : List Span) (s : List ℕ) (l p : ℕ) → (l ≡ 0 → ⊥) → {n : NotDue} →
    Err n ≡ class_of (value_class (byte_at s p)) → kinded none p ≡ kind_at d ps count xs l s p
class-not d ps count xs s l p h e =
    code-not (value_class (byte_at s p)) p (λ z. kind_inside d ps count xs (l - 1) s p z) e
    ∙ class_kind d ps count xs s l p h (value_class (byte_at s p)) refl

-- two values
pub operands-are : (v u : Version) (o : Operator) (inner : ℕ → Kinded) (q : ℕ) (x y r : Kinded) → r ≡ joined_kinds v o x y → x ≡ inner q →
    y ≡ inner x.end → v ≡ u → r ≡ operands u o (inner q) inner
operands-are v u o inner q x y r e f g h =
    e ∙ ap₂ (λ z w. joined_kinds z o x w) h g ∙ ap (λ z. operands u o z inner) f

pub opposite-is : (x y r : Kinded) → r ≡ kinded (negated_kind x.kind) x.end → x ≡ y → r ≡ opposite y
opposite-is x y r e f = e ∙ ap opposite f

-- a statistic whose span is there
pub statistic-is : (o : Option Span) (z : Span) (p : ℕ) (inner : ℕ → Kinded) (after end : ℕ) (x r : Kinded) → r ≡ kinded (negated_kind x.kind) end →
    x ≡ inner after → o ≡ some z → after ≡ z.after → end ≡ z.end → r ≡ statistic_at o p inner
statistic-is o z p inner after end x r e f g h i =
    e ∙ ap₂ (λ (y : Kinded) q. kinded (negated_kind y.kind) q) (f ∙ ap inner h) i ∙ ap (λ y. statistic_at y p inner) (sym g)
