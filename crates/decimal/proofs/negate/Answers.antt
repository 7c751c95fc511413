use borrow.Author.Rules.{rules}
use mathlib.Core.Path.{◌≡◌, ap, ap₂, ◌∙◌}
use lib.IntN.{neg_ℤ}
use mir.Syntax.{w64}
use mir.Val.{to_z, of_z}
use Rattle.decimal.specs.Number.{fitted, negated}
use Rattle.decimal.proofs.Fitted.{number_is}
use Rattle.decimal.proofs.Scales.{scale-found}
use Rattle.decimal.proofs.negate.Goals as goal

pub returns : goal.returns
unfolding negated
returns c = let x : to_z w64 (of_z w64 c.args.a.value) ≡ c.args.a.value = search rules in
    let scale = scale-found c.places_in.result c.scale_of.type_inv c.scale_of.ensures c.places_in.ensures.0 in
    c.fitting.ensures ∙ number_is _ _ _ c.checked_neg.ensures ∙ ap₂ fitted (ap neg_ℤ x) scale
