use borrow.Author.Rules.{rules}
use Prim.Native.Nat.{◌+◌}
use mathlib.Core.Path.{◌≡◌, ap₂, ◌∙◌}
use lib.IntN.{◌*ℤ◌}
use mir.Syntax.{w64}
use mir.Val.{to_z, of_z}
use Rattle.decimal.specs.Number.{fitted, multiplied}
use Rattle.decimal.proofs.Fitted.{number_is}
use Rattle.decimal.proofs.Scales.{scale-found}
use Rattle.decimal.proofs.multiply.Goals as goal

pub returns : goal.returns
unfolding multiplied
returns c = let x : to_z w64 (of_z w64 c.args.a.value) ≡ c.args.a.value = search rules in
    let y : to_z w64 (of_z w64 c.args.b.value) ≡ c.args.b.value = search rules in
    let k = ap₂ ◌+◌ c.places_in.ensures.0 c.places_in-2.ensures.0 in
    let scale = scale-found (c.places_in.result + c.places_in-2.result) c.scale_of.type_inv c.scale_of.ensures k in
    c.fitting.ensures ∙ number_is _ _ _ c.checked_mul.ensures ∙ ap₂ fitted (ap₂ ◌*ℤ◌ x y) scale
