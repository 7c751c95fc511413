use native.Mathlib.Omega.{arith}
use mathlib.Core.Path.{◌≡◌, sym, ap, subst, ◌∙◌}
use Rattle.std.specs.Prelude.{Some, None, Err, ok_or}
use Rattle.std.specs.Result.{result_ok}
use Rattle.std.proofs.lemmas.Result.{err_from_is_err_and}
use Prim.Native.Nat.{◌+◌}
use Rattle.dictionary.proofs.Loop.{Going, begins, goes_on, stops, ends, too_long, stepped, met_some, met-none, same_error}
use Rattle.dictionary.proofs.check.check.Goals as goal

pub returns-then-d-gt-MAX_DICTIONARY_BYTES : goal.returns-then-d-gt-MAX_DICTIONARY_BYTES
returns-then-d-gt-MAX_DICTIONARY_BYTES c = too_long c.args.d.now c.if-d-gt-MAX_DICTIONARY_BYTES.true

pub loop-p-init : goal.loop-p-init
loop-p-init c = begins c.args.d.now c.if-d-gt-MAX_DICTIONARY_BYTES.false

pub meet_entry-requires : goal.meet_entry-requires
meet_entry-requires c = ((c.if-d-gt-MAX_DICTIONARY_BYTES.false, c.loop-p-test.true), (omega (arith, c.loop-p.invariant.relations-few), omega (arith, c.loop-p.invariant.fields-few)))

pub returns-in_err-m : goal.returns-in_err-m
returns-in_err-m c =
    let bad : c.meet_entry.result ≡ None = c.ok_or.ensures.ok_part ∙ ap result_ok c.in_err-m.was in
    let at : c.in_err-m.field-0.0 ≡ c.loop-p.p = same_error (sym c.in_err-m.was ∙ c.ok_or.ensures.value ∙ ap (λ o. ok_or o c.loop-p.p) bad) in
    let e = err_from_is_err_and c.from_residual.result c.from_residual.ensures.1 in
    e.1 ∙ ap Err (e.2 ∙ at) ∙ stops c.args.d.now c.loop-p.m c.loop-p.p c.loop-p.invariant c.loop-p-test.true (met-none _ (sym c.meet_entry.ensures ∙ bad))

pub overflow_add-p : goal.overflow_add-p
overflow_add-p c = omega (arith, c.word_at.ensures.1)

pub loop-p-smaller : goal.loop-p-smaller
loop-p-smaller c =
    let good : c.meet_entry.result ≡ Some c.in_ok-m.m = c.ok_or.ensures.ok_part ∙ ap result_ok c.in_ok-m.was in
    let t = stepped c.args.d.now c.loop-p.p c.loop-p.m _ (met_some _ _ (sym c.meet_entry.ensures ∙ good)) in
    omega (arith, t.long, t.inside, c.word_at.ensures.0)

pub loop-p-preserved : goal.loop-p-preserved
loop-p-preserved c =
    let good : c.meet_entry.result ≡ Some c.in_ok-m.m = c.ok_or.ensures.ok_part ∙ ap result_ok c.in_ok-m.was in
    subst (λ w. Going c.args.d.now c.in_ok-m.m (c.loop-p.p + w)) (sym c.word_at.ensures.0)
    (goes_on c.args.d.now c.loop-p.m _ c.loop-p.p c.loop-p.invariant c.loop-p-test.true (met_some _ _ (sym c.meet_entry.ensures ∙ good)))

pub returns : goal.returns
returns c = ends c.args.d.now c.loop-p.m c.loop-p.p c.loop-p.invariant c.loop-p-test.false
