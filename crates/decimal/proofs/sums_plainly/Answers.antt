-- `decimal::sums_plainly` meets its contract. By the scales, and by whether the sum of the values fits. Assumes nothing.
use mathlib.Core.Path.{◌≡◌, ap, ap₂, sym, ◌∙◌}
use mathlib.Core.Bool.{true, false}
use lib.IntN.{◌+ℤ◌}
use mir.Syntax.{w8}
use mir.Val.{of_z}
use mir.Facts.{to_z-of_z}
use Rattle.decimal.specs.Number.{fits}
use Rattle.decimal.specs.Internal.Plain.{has_places}
use Rattle.decimal.proofs.Fitted.{some_fits}
use Rattle.decimal.proofs.PlainSums.{same_bits, plain-sum, other-scales, no-places}
use Rattle.decimal.proofs.sums_plainly.Goals as goal

pub returns-then-has_places : goal.returns-then-has_places
returns-then-has_places c = let e : c.args.a ≡ c.args.b = same_bits w8 c.ranges.a c.ranges.b c.if-a-b.true in
    let p : has_places c.args.a ≡ true = ap has_places (sym (to_z-of_z c.ranges.a)) ∙ sym c.has_places.ensures ∙ c.if-has_places.true in
    plain-sum c.args.a c.args.x c.args.y c.ranges.x.sfits c.ranges.y.sfits e p
    (c.is_some.ensures ∙ some_fits _ _ c.checked_add.ensures ∙ ap₂ (λ x y. fits (x +ℤ y)) (to_z-of_z c.ranges.x) (to_z-of_z c.ranges.y))

pub returns-else-has_places : goal.returns-else-has_places
returns-else-has_places c = let e : c.args.a ≡ c.args.b = same_bits w8 c.ranges.a c.ranges.b c.if-a-b.true in
    let p : has_places c.args.a ≡ false = ap has_places (sym (to_z-of_z c.ranges.a)) ∙ sym c.has_places.ensures ∙ c.if-has_places.false in
    no-places c.args.x c.args.a c.args.y c.args.b e p

pub returns-else-a-b : goal.returns-else-a-b
returns-else-a-b c = other-scales c.args.x c.args.a c.args.y c.args.b (λ e. c.if-a-b.false (ap (of_z w8) e))
