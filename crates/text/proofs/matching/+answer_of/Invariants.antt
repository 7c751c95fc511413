-- `answer_of` meets its contract, by what the answer on the rest tells. The measure is the joint length of pattern and text.
-- Assumes nothing.
use Prim.Native.Nat.{◌+◌}
use lib.ListN.{length}
use Rattle.text.proofs.matching.+answer_of.Given as goal

abbrev pub decreases-answer_of : goal.decreases-answer_of
decreases-answer_of l = length l.p.now + length l.t.now
