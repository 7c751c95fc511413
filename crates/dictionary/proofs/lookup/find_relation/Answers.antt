use Rattle.dictionary.proofs.Searches.{back_of, back, search-end, search-stuck, search_on, search-short, search-long}
use mathlib.Core.Path.{◌≡◌, sym, ap, ◌∙◌}
use mathlib.Core.Bool.{cond}
use Rattle.std.specs.Prelude.{Some}
use native.Mathlib.Omega.{arith}
use Prim.Native.Nat.{◌<◌}
use Rattle.wire.specs.Options.{option_of}
use Rattle.dictionary.proofs.lookup.find_relation.Goals as goal
use Rattle.dictionary.proofs.lookup.find_relation.Goals.{then-wanted, else-wanted}

pub returns-then-d-gt-MAX_DICTIONARY_BYTES : goal.returns-then-d-gt-MAX_DICTIONARY_BYTES
returns-then-d-gt-MAX_DICTIONARY_BYTES g c = λ t decides. search-long c.args.d.now t c.if-d-gt-MAX_DICTIONARY_BYTES.true

pub loop-q-init : goal.loop-q-init
loop-q-init g c = λ t decides. search-short c.args.d.now t c.if-d-gt-MAX_DICTIONARY_BYTES.false

pub returns-then-n-eq0 : goal.returns-then-n-eq0
returns-then-n-eq0 g c = λ t decides. back c.loop-q.found ∙ ap option_of
    (search-stuck t c.args.d.now c.loop-q.q (back_of c.loop-q.found) (sym c.word_at-n.ensures.0 ∙ c.if-n-eq0.true) ∙ sym (c.loop-q.invariant t decides))

pub loop-q-preserved : goal.loop-q-preserved
loop-q-preserved g c = λ t decides.
    let some : 0 < c.word_at-n.result = omega arith in
    let is : c.wanted.result ≡ t c.loop-q.q = decides c.loop-q.q c.wanted.result c.wanted.ensures in
    c.loop-q.invariant t decides ∙
    search_on t c.args.d.now c.loop-q.q c.word_at-n.result c.loop-q.found c.if-wanted.found c.loop-q-test.true some c.word_at-n.ensures.0
    (elim c.if-wanted.branch [
      | then-wanted w ↦ w.found-is ∙ ap (λ b. cond b (Some c.loop-q.q) c.loop-q.found) (sym w.if-wanted.true ∙ is)
      | else-wanted w ↦ w.found-is ∙ ap (λ b. cond b (Some c.loop-q.q) c.loop-q.found) (sym w.if-wanted.false ∙ is)
    ])

pub returns : goal.returns
returns g c = λ t decides. back c.loop-q.found ∙ ap option_of
    (search-end t c.args.d.now c.loop-q.q (back_of c.loop-q.found) c.loop-q-test.false ∙ sym (c.loop-q.invariant t decides))
