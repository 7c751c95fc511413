use borrow.Author.Rules.{rules}
use mathlib.Core.Path.{◌≡◌}
use mir.Syntax.{w64}
use mir.Val.{to_z, of_z}
use Rattle.decimal.proofs.Parts.{parts-found}
use Rattle.decimal.proofs.compare.Goals as goal

pub returns : goal.returns
returns c = let x : to_z w64 (of_z w64 c.args.a.value) ≡ c.args.a.value = search rules in
    let y : to_z w64 (of_z w64 c.args.b.value) ≡ c.args.b.value = search rules in
    parts-found c.args.a c.args.b c.by_parts.ensures x y c.places_in.ensures.0 c.places_in-2.ensures.0
