use Rattle.std.proofs.Common.{◌≡◌, sym, ◌∙◌, rules, Err}
use Rattle.grammar.specs.Reading.{start}
use Rattle.grammar.specs.Internal.Steps.{same}
use Rattle.grammar.proofs.StepLaws.{same-read, answer-refused}
use Rattle.openings.specs.Streams.{relations}
use Rattle.reader.specs.Request.{head_of}
use Rattle.reader.proofs.Whole.{begun-after, from-head, whole-refused}
use Rattle.reader.proofs.request.read_whole.Goals as goal

pub returns-in_err-version-clause-read : goal.returns-in_err-version-clause-read
returns-in_err-version-clause-read c =
    let e : c.from_residual.result ≡ Err c.in_err-version.field-0.0 = search rules in
    let u = answer-refused same (head_of c.args.request.now start) (sym c.in_err-version.was ∙ c.head.ensures) in
    rw e (whole-refused (from-head (relations c.args.dictionary.now) c.args.request.now u))

pub body-requires : goal.body-requires
body-requires c =
    let u = same-read (head_of c.args.request.now start) (sym c.in_ok-version.was ∙ c.head.ensures) in
    begun-after _ _ _ c.requires c.in_ok-version.version c.in_ok-version.c u

pub returns-clause-read : goal.returns-clause-read
returns-clause-read c =
    let u = same-read (head_of c.args.request.now start) (sym c.in_ok-version.was ∙ c.head.ensures) in
    rw (from-head (relations c.args.dictionary.now) c.args.request.now u) c.body.ensures.read
