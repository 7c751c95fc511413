-- `values::spans::span` meets its contract. Assumes nothing.
use Prim.Native.Nat.{ℕ}
use mathlib.Core.Path.{ap, ap₂, sym, ◌∙◌}
use mathlib.Core.List.{List}
use native.Mathlib.Omega.{arith}
use Rattle.text.specs.Value.{part_of, text_part, bytes_of}
use Rattle.values.specs.Values.{held_in, text_in}
use Rattle.values.proofs.SpanLaws.{text-inside, text-there}
use Rattle.values.proofs.spans.span.Goals as goal

pub overflow_add-result : goal.overflow_add-result
overflow_add-result c =
    let h = c.args.held in
    let w = text-inside c.slice-s.result.now h.start h.end h.of c.part.ensures c.text_part.ensures c.unwrap_or-start.ensures in
    omega (arith, w.0, w.1)

pub overflow_add-result-2 : goal.overflow_add-result-2
overflow_add-result-2 c =
    let h = c.args.held in
    let w = text-inside c.slice-s.result.now h.start h.end h.of c.part.ensures c.text_part.ensures c.unwrap_or-start.ensures in
    omega (arith, w.0, w.1)

pub returns : goal.returns
unfolding text_in held_in
returns c =
    let h = c.args.held in
    rw (← c.slice-s.ensures) (text-there c.slice-s.result.now h.start h.end h.of c.part.ensures c.text_part.ensures c.unwrap_or-start.ensures)
