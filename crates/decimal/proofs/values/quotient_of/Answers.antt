use borrow.Author.Rules.{rules}
use mathlib.Core.Path.{◌≡◌, ap₂, ◌∙◌}
use lib.Signed.{quot_z}
use mir.Syntax.{w64}
use mir.Val.{to_z, of_z}
use mir.Facts.{to_z-of_z}
use Rattle.decimal.specs.Number.{fitted, divided}
use Rattle.decimal.proofs.Bits.{bits-zero}
use Rattle.decimal.proofs.Fitted.{number_is}
use Rattle.decimal.proofs.Quotient.{divided-other, divides-or-not}
use Rattle.decimal.proofs.values.quotient_of.Goals as goal

pub returns-then-y-eq0 : goal.returns-then-y-eq0
unfolding divided
returns-then-y-eq0 c = rw (bits-zero c.args.y c.ranges.y c.if-y-eq0.true)

pub returns : goal.returns
returns c = let x : to_z w64 (of_z w64 c.args.a.value) ≡ c.args.a.value = search rules in
    let y = to_z-of_z c.ranges.y in
    let found = divides-or-not _ _ _ c.if-y-eq0.false y c.checked_div.ensures in
    c.fitting.ensures ∙ number_is _ _ _ found ∙ ap₂ fitted (ap₂ quot_z x y) (to_z-of_z c.ranges.scale)
    ∙ divided-other c.args.a c.args.y c.args.scale c.if-y-eq0.false
