-- `decimal::order_of` meets its contract. By the order of the values, or by the theorem on comparing by parts. Assumes nothing.
use mathlib.Core.Path.{◌≡◌, ap, ap₂, sym, ◌∙◌}
use mir.Syntax.{w8}
use mir.Facts.{to_z-of_z}
use Rattle.wire.specs.Orders.{order_ℤ}
use Rattle.wire.proofs.Compared.{cmp-order_ℤ}
use Rattle.decimal.specs.Number.{places, scaled, compared}
use Rattle.decimal.proofs.Parts.{same-scale-order, parts-found}
use Rattle.decimal.proofs.PlainSums.{same_bits}
use Rattle.decimal.proofs.order_of.Goals as goal

pub returns-then-a-b : goal.returns-then-a-b
returns-then-a-b c = let x = c.args.x in
    let y = c.args.y in
    let a = c.args.a in
    let e : a ≡ c.args.b = same_bits w8 c.ranges.a c.ranges.b c.if-a-b.true in
    c.cmp.ensures ∙ cmp-order_ℤ _ _ ∙ ap₂ order_ℤ (to_z-of_z c.ranges.x) (to_z-of_z c.ranges.y)
    ∙ sym (same-scale-order x y a) ∙ ap (λ s. compared (scaled x a) (scaled y s)) e

pub returns : goal.returns
returns c = parts-found (scaled c.args.x c.args.a) (scaled c.args.y c.args.b) c.by_parts.ensures
    (to_z-of_z c.ranges.x) (to_z-of_z c.ranges.y)
    (c.places_of.ensures.0 ∙ ap places (to_z-of_z c.ranges.a)) (c.places_of-2.ensures.0 ∙ ap places (to_z-of_z c.ranges.b))
