use Rattle.store.proofs.Starts.{not-settled, is-settled, product-most}
use mathlib.Core.Path.{sym, ◌∙◌}
use native.Mathlib.Omega.{arith}
use Rattle.store.proofs.opening.settle.Goals as goal

pub overflow_mul-count : goal.overflow_mul-count
overflow_mul-count c = omega (arith, product-most c.args.count c.args.l.size c.requires.0 c.requires.1)

pub overflow_add-count : goal.overflow_add-count
overflow_add-count c = omega (arith, product-most c.args.count c.args.l.size c.requires.0 c.requires.1)

pub returns-then-not-is_closed : goal.returns-then-not-is_closed
returns-then-not-is_closed c = c.refused.ensures ∙ not-settled c.args.b.now c.args.l c.args.count c.args.missing (sym c.is_closed.ensures ∙ c.if-not-is_closed.true)

pub returns : goal.returns
returns c = is-settled c.args.b.now c.args.l c.args.count c.args.missing (sym c.is_closed.ensures ∙ c.if-not-is_closed.false)
