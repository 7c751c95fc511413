use Rattle.decimal.proofs.Tens.{ten-read, ten-lacking, ten-lacking-2}
use Rattle.decimal.proofs.powers.powers_for.Goals as goal

pub returns-clause-first_value : goal.returns-clause-first_value
returns-clause-first_value c = (ten-read c.args.p c.requires.0, ten-lacking _ c.args.p c.args.q c.max-most.ensures c.requires.0 c.requires.1)

pub returns-clause-second_value : goal.returns-clause-second_value
returns-clause-second_value c = (ten-read c.args.q c.requires.1, ten-lacking-2 _ c.args.p c.args.q c.max-most.ensures c.requires.0 c.requires.1)
