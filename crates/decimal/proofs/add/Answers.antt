use borrow.Author.Rules.{rules}
use mathlib.Core.Path.{◌≡◌, sym, ap, ap₂, ◌∙◌}
use lib.IntN.{◌+ℤ◌}
use mir.Syntax.{w64}
use mir.Val.{to_z, of_z}
use Rattle.std.specs.Prelude.{Ok}
use Rattle.decimal.specs.Number.{common, fitted, rescaled, added}
use Rattle.decimal.proofs.Fitted.{number_is}
use Rattle.decimal.proofs.Scales.{scale-found}
use Rattle.decimal.proofs.add.Goals as goal

pub returns : goal.returns
unfolding added
returns c = let a = c.args.a in
    let b = c.args.b in
    let k = c.common-k.ensures.0 in
    let first : rescaled (common a b) a ≡ Ok c.in_ok-x.x = ap (λ n. rescaled n a) (sym k) ∙ sym c.at_places.ensures ∙ c.in_ok-x.was in
    let second : rescaled (common a b) b ≡ Ok c.in_ok-y.y = ap (λ n. rescaled n b) (sym k) ∙ sym c.at_places-2.ensures ∙ c.in_ok-y.was in
    let x : to_z w64 (of_z w64 c.in_ok-x.x.value) ≡ c.in_ok-x.x.value = search rules in
    let y : to_z w64 (of_z w64 c.in_ok-y.y.value) ≡ c.in_ok-y.y.value = search rules in
    let scale = scale-found c.common-k.result c.scale_of.type_inv c.scale_of.ensures k in
    rw (first, second) (c.fitting.ensures ∙ number_is _ _ _ c.checked_add.ensures ∙ ap₂ fitted (ap₂ ◌+ℤ◌ x y) scale)
