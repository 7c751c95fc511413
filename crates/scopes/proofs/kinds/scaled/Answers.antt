-- `scopes::kinds::scaled` meets its contract. By the operators, on scales of 32 bits. Assumes nothing.
use mathlib.Core.Logic.{inl, inr}
use mathlib.Core.Path.{ap, ◌∙◌}
use Rattle.grammar.specs.Internal.Steps.{fit_of}
use Rattle.grammar.specs.Kinds.{arithmetic_range}
use Rattle.scopes.proofs.Scales.{read-sum, read-difference, read-smaller}
use Rattle.scopes.proofs.kinds.scaled.Goals as goal

pub returns-in-Add : goal.returns-in-Add
returns-in-Add c =
    let v = rw (c.from-first.ensures, c.from-second.ensures) at c.min.ensures.value in
    let w = c.within.ensures ∙ ap (λ z. fit_of (arithmetic_range z)) (read-smaller c.ranges.a c.ranges.b (record { sfits = c.min.type_inv }) v) in
    elim c.in-Add.is [ inl e ↦ rw e w | inr e ↦ rw e w ]

pub returns-in-Multiply : goal.returns-in-Multiply
returns-in-Multiply c = let w = rw (c.from-first.ensures, c.from-second.ensures) at c.within-in-Multiply.ensures in
    rw (c.in-Multiply.is) (w ∙ ap (λ z. fit_of (arithmetic_range z)) (read-sum c.ranges.a c.ranges.b))

pub returns-in-Version4 : goal.returns-in-Version4
returns-in-Version4 c = let w = rw (c.from-first.ensures, c.from-second.ensures) at c.within-in-Version4.ensures in
    rw (c.in-Divide.is, c.in-Version4.is) (w ∙ ap (λ z. fit_of (arithmetic_range z)) (read-difference c.ranges.a c.ranges.b))

pub returns-in-Version5 : goal.returns-in-Version5
returns-in-Version5 c = let w = rw (c.from-first.ensures, c.from-second.ensures) at c.within-in-Version5.ensures in
    rw (c.in-Divide.is, c.in-Version5.is) (w ∙ ap (λ z. fit_of (arithmetic_range z)) (read-sum c.ranges.a c.ranges.b))
