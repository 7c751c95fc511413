use Prim.Native.Nat.{◌+◌, ◌*◌}
use Rattle.explanation.proofs.walk.+walk.Given as goal

abbrev pub decreases-both_sides : goal.decreases-both_sides
decreases-both_sides l = 4 * l.levels + 3

abbrev pub decreases-explain_at : goal.decreases-explain_at
decreases-explain_at l = 4 * l.levels + 1

abbrev pub decreases-explain_under : goal.decreases-explain_under
decreases-explain_under l = 4 * l.levels
