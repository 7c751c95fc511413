-- `decimal::has_places` meets its contract. Above 0, or from the least scale on. Assumes nothing.
use mir.Facts.{to_z-of_z}
use Rattle.decimal.proofs.PlainSums.{above_zero, from-least}
use Rattle.decimal.proofs.has_places.Goals as goal

pub returns-then-scale-gt0 : goal.returns-then-scale-gt0
returns-then-scale-gt0 c = above_zero c.args.scale (rw (to_z-of_z c.ranges.scale) at c.if-scale-gt0.true)

pub returns : goal.returns
returns c = rw (to_z-of_z c.ranges.scale) (from-least c.args.scale (rw (to_z-of_z c.ranges.scale) at c.if-scale-gt0.false))
