use Prim.Native.Nat.{◌<◌, ◌+◌}
use native.Mathlib.Omega.{arith}
use mathlib.Core.Path.{sym, ◌∙◌}
use borrow.Author.Tests.{eq-eqb, ne_eqb}
use lib.ListN.{length}
use Rattle.text.proofs.MatchLaws.{matches-empty, rest-shorter, run-found, run-never, run-ended, run-longer}
use Rattle.text.proofs.MatchLaws.{byte-ended, byte-agrees, byte-differs}
use Rattle.text.proofs.matching.+answer_of.Goals as goal

pub returns-then-t-eq0 : goal.returns-then-t-eq0
returns-then-t-eq0 t c = sym (matches-empty c.args.p.now c.args.t.now c.if-p-eq0.true) ∙ eq-eqb _ _ c.if-t-eq0.true

pub returns-then-p-eq0 : goal.returns-then-p-eq0
returns-then-p-eq0 t c = sym (matches-empty c.args.p.now c.args.t.now c.if-p-eq0.true) ∙ ne_eqb _ _ c.if-t-eq0.false

pub answer_of-requires : goal.answer_of-requires
answer_of-requires t c = let l = rest-shorter c.args.p.now _ c.rest.ensures c.if-p-eq0.false in
    let h : length c.rest.result.now + length c.args.t.now < t = omega (arith, c.decreases) in
    (h, tt)

pub returns-in-Yes : goal.returns-in-Yes
returns-in-Yes t c = run-found c.args.p.now c.args.t.now c.if-p-eq0.false c.if-c-eq-ANY_RUN.true
    (rw (c.in-Yes.is, c.rest.ensures) at c.answer_of.ensures)

pub returns-in-Never : goal.returns-in-Never
returns-in-Never t c = run-never c.args.p.now c.args.t.now c.if-p-eq0.false c.if-c-eq-ANY_RUN.true
    (rw (c.in-Never.is, c.rest.ensures) at c.answer_of.ensures)

pub returns-then-t-eq0-2 : goal.returns-then-t-eq0-2
returns-then-t-eq0-2 t c = run-ended c.args.p.now c.args.t.now c.if-p-eq0.false c.if-c-eq-ANY_RUN.true
    (rw (c.in-No.is, c.rest.ensures) at c.answer_of.ensures) c.if-t-eq0-2.true

pub answer_of-requires-in-No : goal.answer_of-requires-in-No
answer_of-requires-in-No t c = let l = rest-shorter c.args.t.now _ c.rest-in-No.ensures c.if-t-eq0-2.false in
    let h : length c.args.p.now + length c.rest-in-No.result.now < t = omega (arith, c.decreases) in
    (h, tt)

pub returns-in-No : goal.returns-in-No
returns-in-No t c = run-longer c.args.p.now c.args.t.now c.if-p-eq0.false c.if-c-eq-ANY_RUN.true
    (rw (c.in-No.is, c.rest.ensures) at c.answer_of.ensures)
    c.answer_of-in-No.result (rw c.rest-in-No.ensures at c.answer_of-in-No.ensures)

pub returns-then-t-eq0-3 : goal.returns-then-t-eq0-3
returns-then-t-eq0-3 t c = byte-ended c.args.p.now c.args.t.now c.if-p-eq0.false c.if-c-eq-ANY_RUN.false c.if-t-eq0-3.true

pub answer_of-requires-then-sign_matches : goal.answer_of-requires-then-sign_matches
answer_of-requires-then-sign_matches t c = let l = rest-shorter c.args.p.now _ c.rest-then-sign_matches.ensures c.if-p-eq0.false in
    let m = rest-shorter c.args.t.now _ c.rest-then-sign_matches-2.ensures c.if-t-eq0-3.false in
    let h : length c.rest-then-sign_matches.result.now + length c.rest-then-sign_matches-2.result.now < t = omega (arith, c.decreases) in
    (h, tt)

pub returns-then-sign_matches : goal.returns-then-sign_matches
returns-then-sign_matches t c = byte-agrees c.args.p.now c.args.t.now c.if-p-eq0.false c.if-c-eq-ANY_RUN.false c.if-t-eq0-3.false (sym c.sign_matches.ensures ∙ c.if-sign_matches.true)
    c.answer_of-then-sign_matches.result (rw (c.rest-then-sign_matches.ensures, c.rest-then-sign_matches-2.ensures) at c.answer_of-then-sign_matches.ensures)

pub returns : goal.returns
returns t c = byte-differs c.args.p.now c.args.t.now c.if-p-eq0.false c.if-c-eq-ANY_RUN.false c.if-t-eq0-3.false (sym c.sign_matches.ensures ∙ c.if-sign_matches.false)
