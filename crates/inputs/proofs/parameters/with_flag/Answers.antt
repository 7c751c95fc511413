-- `inputs::parameters::with_flag` meets its contract. Assumes nothing.
use Prim.Native.Nat.{min}
use mathlib.Core.Path.{ap, ◌∙◌}
use Rattle.dictionary.specs.Internal.FieldAnswers.{format_is}
use Rattle.meaning.specs.Inputs.{Fetched, flagged, unless_flagged}
use Rattle.surroundings.specs.Parameters.{parameter_from}
use Rattle.surroundings.specs.Around.{row_value}
use Rattle.inputs.proofs.ReferenceLaws.{row-found}
use Rattle.inputs.proofs.parameters.with_flag.Goals as goal

pub returns : goal.returns
returns c m e =
    let value = unless_flagged (format_is c.in-Some.x) c.args.images.now c.in-Some.p in
    c.unless_set.ensures m e ∙ c.flag_of-set.ensures m value ∙ ap (λ (x : Fetched). flagged x value) (c.plain.ensures m e) ∙
    row-found (parameter_from c.args.parameters.now c.args.message.0 c.args.index (min c.args.count 256) 0 0)
    (λ x. flagged (row_value c.args.parameters.now (min c.args.count 256) c.args.images.now c.args.message.0 c.args.flag)
    (unless_flagged x.0 c.args.images.now x.1)) c.parameter_of.result _ c.in-Some.is c.parameter_of.ensures
