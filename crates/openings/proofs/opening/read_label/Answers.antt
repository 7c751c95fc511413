use mathlib.Core.Path.{sym, ◌∙◌}
use Rattle.std.proofs.lemmas.Result.{err_from_is_err_and}
use Rattle.grammar.specs.Reader.{byte}
use Rattle.grammar.proofs.StepLaws.{label-read, answer-refused}
use Rattle.openings.proofs.OpenHeadings.{opens-label, label-refused}
use Rattle.openings.proofs.opening.read_label.Goals as goal

pub returns-in_err-n : goal.returns-in_err-n
returns-in_err-n c =
    let p = err_from_is_err_and c.from_residual.result c.from_residual.ensures.1 in
    rw (p.1, p.2) (λ d ct p ready. label-refused ready p ct
    (answer-refused (λ k. record { 0 = k }) (byte _ _) (sym c.in_err-n.was ∙ c.next_number.ensures)))

pub returns : goal.returns
returns c = λ d ct p ready. rw c.add_label.ensures (opens-label ready p ct (label-read (byte _ _) (sym c.in_ok-n.was ∙ c.next_number.ensures)))
