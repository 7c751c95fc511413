use mathlib.Core.Path.{sym, ap, ◌∙◌}
use native.Mathlib.Omega.{arith}
use Rattle.input.specs.Evaluation.{after_entries}
use Rattle.input.proofs.Inside.{ended, not-ended, whole-inside}
use Rattle.input.proofs.Runs.{after_turn, after-end}
use Rattle.input.proofs.after_entries.Goals as goal

pub loop-next-smaller : goal.loop-next-smaller
loop-next-smaller c = let is = ended c.args.s.now c.loop-next.p c.args.kind c.in-Some.next (sym c.in-Some.is ∙ c.entry_end.ensures) in
    omega (arith, is.1, whole-inside c.args.s.now c.loop-next.p c.args.kind is.0)

pub loop-next-preserved : goal.loop-next-preserved
loop-next-preserved c = let is = ended c.args.s.now c.loop-next.p c.args.kind c.in-Some.next (sym c.in-Some.is ∙ c.entry_end.ensures) in
    c.loop-next.invariant ∙ after_turn c.args.s.now c.args.kind c.loop-next.p is.0 ∙ ap (λ p. after_entries c.args.s.now p c.args.kind) (sym is.1)

pub returns : goal.returns
returns c = sym (c.loop-next.invariant ∙ after-end c.args.s.now c.args.kind c.loop-next.p (not-ended c.args.s.now c.loop-next.p c.args.kind (sym c.in_default.is ∙ c.entry_end.ensures)))
