use native.Mathlib.Omega.{arith}
use Prim.Native.Nat.{◌-◌, ◌≤◌}
use mathlib.Core.Path.{refl, sym, ap, ◌∙◌}
use lib.ListN.{length, drop}
use Rattle.text.proofs.SearchLaws.{contained-here, contained-later, contained-short, contained-nowhere, rest-of}
use Rattle.text.specs.Tests.{same_letter, starts_by}
use Rattle.text.proofs.search.containing.Goals as goal

pub returns-then-a-b : goal.returns-then-a-b
returns-then-a-b c = sym (contained-short c.args.b.now c.args.a.now c.if-a-b.true)

pub loop-at-init : goal.loop-at-init
loop-at-init c = refl

pub returns-then-starting_any_case : goal.returns-then-starting_any_case
returns-then-starting_any_case c = let left = drop c.loop-at.at c.args.a.now in
    sym (c.loop-at.invariant ∙ contained-here c.args.b.now left
    (ap (λ l. starts_by same_letter l c.args.b.now) (sym (rest-of c.args.a.now c.loop-at.at)) ∙ sym c.starting_any_case.ensures ∙ c.if-starting_any_case.true))

pub loop-at-preserved : goal.loop-at-preserved
loop-at-preserved c = c.loop-at.invariant ∙ contained-later c.args.b.now c.args.a.now c.loop-at.at
    (ap (λ l. starts_by same_letter l c.args.b.now) (sym (rest-of c.args.a.now c.loop-at.at)) ∙ sym c.starting_any_case.ensures ∙ c.if-starting_any_case.false)

pub returns-else-starting_any_case : goal.returns-else-starting_any_case
returns-else-starting_any_case c = let end : length c.args.a.now - length c.args.b.now ≤ c.loop-at.at = omega arith in
    let here = ap (λ l. starts_by same_letter l c.args.b.now) (sym (rest-of c.args.a.now c.loop-at.at)) ∙ sym c.starting_any_case.ensures ∙ c.if-starting_any_case.false in
    sym (c.loop-at.invariant ∙ contained-nowhere c.args.a.now c.args.b.now c.loop-at.at c.if-a-b.false end here)
