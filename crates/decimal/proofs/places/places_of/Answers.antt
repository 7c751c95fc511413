use mathlib.Core.Path.{ap, ◌∙◌}
use mir.Facts.{to_z-of_z}
use mir.Syntax.{w8}
use lib.IntN.{pos, negsuc, nat_abs}
use Rattle.std.specs.Int.{int_max, int_min}
use Rattle.decimal.proofs.Bits.{read_back}
use Rattle.decimal.proofs.Scales.{clamped, places-le}
use Rattle.decimal.proofs.places.places_of.Goals as goal

pub returns : goal.returns
returns c = let s = c.args.scale in
    let kept = read_back w8 c.clamp.result c.clamp.type_inv ∙ c.clamp.ensures.value ∙ ap (λ z. int_max (negsuc 17) (int_min z (pos 0))) (to_z-of_z c.ranges.scale) in
    let e = c.unsigned_abs.ensures.value ∙ ap nat_abs kept ∙ clamped s in
    (e, rw e (places-le s))
