use borrow.Author.Rules.{rules}
use mathlib.Core.Path.{◌≡◌, ap₂, ◌∙◌}
use mir.Syntax.{w64}
use mir.Val.{to_z, of_z}
use Rattle.decimal.specs.Number.{divided, quotient}
use Rattle.decimal.proofs.Scales.{scale-found, places-le, difference-found}
use Rattle.decimal.proofs.divide.Goals as goal

pub returns : goal.returns
unfolding quotient
returns c = let first = scale-found c.places_in.result c.scale_of-first.type_inv c.scale_of-first.ensures c.places_in.ensures.0 in
    let second = scale-found c.places_in-2.result c.scale_of-second.type_inv c.scale_of-second.ensures c.places_in-2.ensures.0 in
    let y : to_z w64 (of_z w64 c.args.b.value) ≡ c.args.b.value = search rules in
    c.quotient_of.ensures ∙ ap₂ (divided c.args.a) y (difference-found _ _ (places-le _) (places-le _) first second)
