use mathlib.Core.Path.{◌≡◌, sym, ◌∙◌}
use Rattle.std.specs.Prelude.{None}
use lib.Dec.{eqb}
use Rattle.wire.proofs.Places.{position_is}
use Rattle.text.proofs.PartLaws.{cut-none, cut-some}
use Rattle.text.specs.Value.{text_part}
use Rattle.text.proofs.value.cstring_part.Goals as goal

pub returns-in_err-n : goal.returns-in_err-n
unfolding text_part
returns-in_err-n c = let s = c.args.s.now in
    let found : c.first_zero.result ≡ None = c.in_err-n.was in
    c.from_residual.ensures ∙ cut-none s _ (sym (position_is (λ x. eqb x 0) s) ∙ sym c.first_zero.ensures ∙ found)

pub returns : goal.returns
unfolding text_part
returns c = let s = c.args.s.now in
    c.trimmed_part.ensures ∙ cut-some s _ _ (sym (position_is (λ x. eqb x 0) s) ∙ sym c.first_zero.ensures ∙ c.in_ok-n.was)
