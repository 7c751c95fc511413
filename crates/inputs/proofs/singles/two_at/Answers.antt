-- `inputs::singles::two_at` meets its contract. Assumes nothing.
use mir.Syntax.{w8, w64}
use mir.Facts.{to_z-of_z}
use Rattle.inputs.proofs.SingleLaws.{same_number}
use Rattle.inputs.proofs.singles.two_at.Goals as goal

pub returns : goal.returns
returns c n = record {
  middle = c.in_ok-x.x.after;
  first = same_number c.args.request.now c.args.d.now c.args.bindings.now c.args.records.now c.args.runs.now
      c.args.at c.in_ok-x.x.after (to_z-of_z {w = w64} (record { sfits = c.struct_told-1.given.0.1 }))
      (to_z-of_z {w = w8} (record { sfits = c.struct_told-1.given.1.0.1 })) (c.in_ok-x.ensures n).walked;
  second = same_number c.args.request.now c.args.d.now c.args.bindings.now c.args.records.now c.args.runs.now
      c.in_ok-x.x.after c.in_ok-y.y.after (to_z-of_z {w = w64} (record { sfits = c.struct_told-2-1.given.0.1 }))
      (to_z-of_z {w = w8} (record { sfits = c.struct_told-2-1.given.1.0.1 })) (c.in_ok-y.ensures n).walked;
}
