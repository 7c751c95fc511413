-- `inputs::references::reference` meets its contract. Assumes nothing.
use Prim.Native.Nat.{min}
use mathlib.Core.Path.{◌∙◌}
use native.Mathlib.Omega.{arith}
use Rattle.values.specs.Values.{lent_in}
use Rattle.surroundings.specs.Bindings.{bound_around}
use Rattle.inputs.specs.Answers.{fetched_in}
use Rattle.inputs.proofs.ReferenceLaws.{reference-walked}
use Rattle.inputs.proofs.references.reference.Goals as goal

pub returns : goal.returns
returns c =
    let m = lent_in c.args.m in
    let around' = bound_around c.args.dictionary.now c.args.parameters.now (min c.args.rows 256)
    c.args.m.images.now c.args.m.records.now c.args.m.runs.now c.args.bindings.now in
    record {
      inside =
          λ h. c.settled.ensures m ∙
          reference-walked around' c.args.m.request.now c.args.at c.args.code (fetched_in m c.fetch-x.result) c.reference_end.result
          c.fetch-x.ensures c.reference_end.ensures;
      past = λ h. absurd (omega (arith, h));
    }
