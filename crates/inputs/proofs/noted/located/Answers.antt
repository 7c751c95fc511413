-- `inputs::noted::located` meets its contract, where the table has no row for the field. Assumes nothing.
use Rattle.inputs.proofs.NotedLaws.{located-narrow}
use Rattle.inputs.proofs.noted.located.Goals as goal

pub returns : goal.returns
returns c = record {
  so = λ n. c.locate.ensures;
  narrow = located-narrow c.args.d.now c.args.relation c.args.i c.locate.result c.locate.ensures;
}
