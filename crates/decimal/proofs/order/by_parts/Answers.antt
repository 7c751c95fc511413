use Prim.Native.Nat.{ℕ, max, ◌≤◌}
use mathlib.Core.Path.{sym, ap, ap₂, ◌∙◌}
use native.Mathlib.Omega.{arith}
use Rattle.wire.specs.Orders.{order_ℤ}
use Rattle.wire.proofs.Compared.{cmp-order_ℤ}
use Rattle.decimal.specs.Number.{scale_of, scaled}
use Rattle.decimal.specs.Comparing.{fraction_at}
use Rattle.decimal.proofs.Working.{divides-by, fraction-fits, whole-found, fraction-found, in_order, common-is}
use Rattle.decimal.proofs.order.by_parts.Goals as goal

first-most : (p q : ℕ) → p ≤ max p q
first-most p q = omega arith

second-most : (p q : ℕ) → q ≤ max p q
second-most p q = omega arith

most : (p q : ℕ) → (p ≤ 18) × (q ≤ 18) → max p q ≤ 18
most p q h = omega (arith, h.0, h.1)

pub nonzero_div-x : goal.nonzero_div-x
nonzero_div-x c = divides-by _ _ _ c.ranges.x (first-most c.args.p c.args.q) (most c.args.p c.args.q c.requires) c.powers_for-t.ensures.first_value.0 c.powers_for-t.ensures.first_value.1

pub nonzero_div-y : goal.nonzero_div-y
nonzero_div-y c = divides-by _ _ _ c.ranges.y (second-most c.args.p c.args.q) (most c.args.p c.args.q c.requires) c.powers_for-t.ensures.second_value.0 c.powers_for-t.ensures.second_value.1

pub nonzero_rem-x : goal.nonzero_rem-x
nonzero_rem-x c = divides-by _ _ _ c.ranges.x (first-most c.args.p c.args.q) (most c.args.p c.args.q c.requires) c.powers_for-t.ensures.first_value.0 c.powers_for-t.ensures.first_value.1

pub nonzero_rem-y : goal.nonzero_rem-y
nonzero_rem-y c = divides-by _ _ _ c.ranges.y (second-most c.args.p c.args.q) (most c.args.p c.args.q c.requires) c.powers_for-t.ensures.second_value.0 c.powers_for-t.ensures.second_value.1

pub overflow_mul-x : goal.overflow_mul-x
overflow_mul-x c = fraction-fits _ _ _ c.ranges.x (first-most c.args.p c.args.q) (most c.args.p c.args.q c.requires) c.powers_for-t.ensures.first_value.0 c.powers_for-t.ensures.first_value.1

pub overflow_mul-y : goal.overflow_mul-y
overflow_mul-y c = fraction-fits _ _ _ c.ranges.y (second-most c.args.p c.args.q) (most c.args.p c.args.q c.requires) c.powers_for-t.ensures.second_value.0 c.powers_for-t.ensures.second_value.1

pub returns-in-Less : goal.returns-in-Less
returns-in-Less c = let x = whole-found _ _ _ c.ranges.x (first-most c.args.p c.args.q) (most c.args.p c.args.q c.requires) c.powers_for-t.ensures.first_value.0 c.powers_for-t.ensures.first_value.1 in
    let y = whole-found _ _ _ c.ranges.y (second-most c.args.p c.args.q) (most c.args.p c.args.q c.requires) c.powers_for-t.ensures.second_value.0 c.powers_for-t.ensures.second_value.1 in
    in_order (scaled c.args.x (scale_of c.args.p)) (scaled c.args.y (scale_of c.args.q)) c.cmp.ensures x y c.in-Less.is

pub returns-in-Greater : goal.returns-in-Greater
returns-in-Greater c = let x = whole-found _ _ _ c.ranges.x (first-most c.args.p c.args.q) (most c.args.p c.args.q c.requires) c.powers_for-t.ensures.first_value.0 c.powers_for-t.ensures.first_value.1 in
    let y = whole-found _ _ _ c.ranges.y (second-most c.args.p c.args.q) (most c.args.p c.args.q c.requires) c.powers_for-t.ensures.second_value.0 c.powers_for-t.ensures.second_value.1 in
    in_order (scaled c.args.x (scale_of c.args.p)) (scaled c.args.y (scale_of c.args.q)) c.cmp.ensures x y c.in-Greater.is

pub returns-in-Equal : goal.returns-in-Equal
returns-in-Equal c = let a = scaled c.args.x (scale_of c.args.p) in
    let b = scaled c.args.y (scale_of c.args.q) in
    let x = whole-found _ _ _ c.ranges.x (first-most c.args.p c.args.q) (most c.args.p c.args.q c.requires) c.powers_for-t.ensures.first_value.0 c.powers_for-t.ensures.first_value.1 in
    let y = whole-found _ _ _ c.ranges.y (second-most c.args.p c.args.q) (most c.args.p c.args.q c.requires) c.powers_for-t.ensures.second_value.0 c.powers_for-t.ensures.second_value.1 in
    let u = fraction-found _ _ _ c.ranges.x (first-most c.args.p c.args.q) (most c.args.p c.args.q c.requires) c.powers_for-t.ensures.first_value.0 c.powers_for-t.ensures.first_value.1 in
    let v = fraction-found _ _ _ c.ranges.y (second-most c.args.p c.args.q) (most c.args.p c.args.q c.requires) c.powers_for-t.ensures.second_value.0 c.powers_for-t.ensures.second_value.1 in
    let k = sym (common-is c.args.x c.args.y c.args.p c.args.q c.requires.0 c.requires.1) in
    c.cmp-in-Equal.ensures ∙ cmp-order_ℤ _ _ ∙ ap₂ order_ℤ (u ∙ ap (λ n. fraction_at n a) k) (v ∙ ap (λ n. fraction_at n b) k)
    ∙ in_order a b c.cmp.ensures x y c.in-Equal.is
