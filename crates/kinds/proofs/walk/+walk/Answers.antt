use mathlib.Core.Path.{sym, ap, ◌∙◌}
use Rattle.wire.specs.Words.{byte_at}
use Rattle.wire.specs.Classes.{due, value_class}
use Rattle.classes.specs.Classes.{class_of}
use Rattle.kinds.specs.KindAt.{kind_under}
use Rattle.kinds.proofs.Returns.{coded_some, coded_none}
use Rattle.kinds.proofs.Walks.{class_kind, code-due, class-not, statistic-is}
use Rattle.kinds.proofs.walk.+walk.Goals as goal

pub kind_at-returns-in-Ok : goal.kind_at-returns-in-Ok
kind_at-returns-in-Ok t c =
    let code = sym c.in-Ok.is ∙ c.of.ensures ∙ ap (λ b. class_of (value_class b)) c.byte_at.ensures in
    c.kind_under.ensures
    ∙ class_kind _ _ _ _ _ _ _ c.if-levels-eq0.false (due c.in-Ok.code) (code-due (value_class (byte_at c.args.x.request.now c.args.at)) code)

pub kind_at-returns-in-Err : goal.kind_at-returns-in-Err
kind_at-returns-in-Err t c =
    let code = sym c.in-Err.is ∙ c.of.ensures ∙ ap (λ b. class_of (value_class b)) c.byte_at.ensures in
    c.none-in-Err.ensures ∙ class-not _ _ _ _ _ _ _ c.if-levels-eq0.false code

pub kind_under-returns-in-Some : goal.kind_under-returns-in-Some
unfolding kind_under
kind_under-returns-in-Some t c =
    rw c.in-Statistic.is
    (statistic-is _ _ _ _ _ _ _ _ c.numeric-in-Some.ensures c.kind_at-operand-in-Some.ensures
    (coded_some c.args.x.bindings.now c.args.at _ c.row_coded.ensures c.in-Some.is) c.place_in-number.ensures c.place_in.ensures)

pub kind_under-returns-in-None : goal.kind_under-returns-in-None
unfolding kind_under
kind_under-returns-in-None t c = rw (c.in-Statistic.is, coded_none c.args.x.bindings.now c.args.at _ c.row_coded.ensures c.in-None.is) c.none.ensures
