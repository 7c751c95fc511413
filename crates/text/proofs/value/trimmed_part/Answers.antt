use native.Mathlib.Omega.{arith}
use Rattle.text.proofs.PartLaws.{kept-le}
use Rattle.text.proofs.value.trimmed_part.Goals as goal

pub overflow_add-result : goal.overflow_add-result
overflow_add-result c = omega (arith, c.kept_length.ensures, kept-le c.args.s.now c.args.p c.args.n, c.requires)
