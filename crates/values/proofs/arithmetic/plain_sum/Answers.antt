-- `values::arithmetic::plain_sum` meets its contract, where it adds. Assumes nothing.
use mir.Facts.{to_z-of_z}
use Rattle.values.proofs.NumberLaws.{compute-sum}
use Rattle.values.proofs.arithmetic.plain_sum.Goals as goal

pub returns-in-Add : goal.returns-in-Add
returns-in-Add c = record {
  gives = λ h v.
      rw (c.in-Add.is, compute-sum v)
      (rw (to_z-of_z c.ranges.x, to_z-of_z c.ranges.a, to_z-of_z c.ranges.y, to_z-of_z c.ranges.b) at (c.sums_plainly.ensures.sum_is h));
  within = λ h. rw (to_z-of_z c.ranges.x, to_z-of_z c.ranges.y) at (c.sums_plainly.ensures.fits_in h);
}
