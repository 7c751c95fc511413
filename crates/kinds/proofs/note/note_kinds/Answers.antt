use Prim.Native.Nat.{◌-◌, ◌/◌, min}
use native.Mathlib.Omega.{arith}
use lib.ListN.{length}
use Rattle.wire.specs.Limits.{max_parameters}
use Rattle.kinds.proofs.Noting.{note-start, note-end, note-next}
use Rattle.kinds.proofs.note.note_kinds.Goals as goal

pub loop-row-init : goal.loop-row-init
loop-row-init c = (note-start c.args.dictionary.now c.args.parameters.now (min c.args.rows max_parameters) c.args.request.now (length c.args.bindings.now / 10) c.args.bindings.now, omega arith)

pub note_kind-requires : goal.note_kind-requires
note_kind-requires c = let n = c.loop-row.invariant.0.long in let k = c.loop-row.invariant.1 in let h = c.loop-row-test.true in omega (arith, n, k, h)

pub loop-row-preserved : goal.loop-row-preserved
loop-row-preserved c = (note-next c.args.dictionary.now c.args.parameters.now (min c.args.rows max_parameters) c.args.request.now (length c.args.bindings.now / 10) c.args.bindings.now c.loop-row.bindings c.loop-row.row c.loop-row.invariant.0 c.loop-row-test.true _ c.note_kind.ensures, c.loop-row.invariant.1)

pub returns : goal.returns
returns c = note-end c.args.dictionary.now c.args.parameters.now (min c.args.rows max_parameters) c.args.request.now (length c.args.bindings.now / 10) c.args.bindings.now c.loop-row.bindings c.loop-row.row c.loop-row.invariant.0 c.loop-row-test.false
