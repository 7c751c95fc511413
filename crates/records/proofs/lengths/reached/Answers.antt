use native.Mathlib.Omega.{arith}
use Prim.Native.Nat.{◌+◌, ◌-◌, ◌<◌}
use mathlib.Core.Path.{◌≡◌, sym, ap, ◌∙◌}
use mathlib.Core.Bool.{true, false}
use Rattle.dictionary.specs.Internal.Walk.{is_field}
use Rattle.records.specs.Internal.Answers.{held_at}
use Rattle.records.proofs.Locations.{rest, rest-start, rest-none, rest-long, rest-next, rest-here}
use Rattle.records.proofs.lengths.reached.Goals as goal

pub loop-init : goal.loop-init
loop-init c = let n : c.args.i - 0 ≡ c.args.i = omega arith in
    (omega arith, rest-start c.args.d.now c.args.from c.args.i ∙ ap (λ m. rest c.args.d.now c.args.from m 0) (sym n))

pub returns-then-not-is_field : goal.returns-then-not-is_field
returns-then-not-is_field c = let e : is_field c.args.d.now c.loop.q ≡ false = sym c.is_field.ensures ∙ c.if-not-is_field.true in
    sym (c.loop.invariant.1 ∙ rest-none c.args.d.now c.loop.q (c.args.i - c.loop.counter) c.loop.sum e)

pub returns-then-sum-n : goal.returns-then-sum-n
returns-then-sum-n c = let d = c.args.d.now in
    let q = c.loop.q in
    let e : is_field d q ≡ true = sym c.is_field.ensures ∙ c.if-not-is_field.false in
    let more : 0 < c.args.i - c.loop.counter = omega arith in
    let l : 4096 < c.loop.sum + held_at d q = omega (arith, c.held_bytes-n.ensures, c.if-sum-n.true, c.loop.invariant.0) in
    sym (c.loop.invariant.1 ∙ rest-long d q (c.args.i - c.loop.counter) c.loop.sum more e l)

pub loop-preserved : goal.loop-preserved
loop-preserved c = let d = c.args.d.now in
    let q = c.loop.q in
    let e : is_field d q ≡ true = sym c.is_field.ensures ∙ c.if-not-is_field.false in
    let more : 0 < c.args.i - c.loop.counter = omega arith in
    let one : c.args.i - c.loop.counter - 1 ≡ c.args.i - (c.loop.counter + 1) = omega arith in (
      omega (arith, c.if-sum-n.false, c.loop.invariant.0),
      c.loop.invariant.1 ∙
          rest-next d q (c.args.i - c.loop.counter) c.loop.sum more e c.held_bytes-n.ensures c.next_place-q.ensures ∙
          ap (λ m. rest d c.next_place-q.result m (c.loop.sum + c.held_bytes-n.result)) one,
    )

pub returns-then-not-is_field-2 : goal.returns-then-not-is_field-2
returns-then-not-is_field-2 c = let e : is_field c.args.d.now c.loop.q ≡ false = sym c.is_field-2.ensures ∙ c.if-not-is_field-2.true in
    sym (c.loop.invariant.1 ∙ rest-none c.args.d.now c.loop.q (c.args.i - c.loop.counter) c.loop.sum e)

pub returns : goal.returns
returns c = let e : is_field c.args.d.now c.loop.q ≡ true = sym c.is_field-2.ensures ∙ c.if-not-is_field-2.false in
    sym (c.loop.invariant.1 ∙ rest-here c.args.d.now c.loop.q (c.args.i - c.loop.counter) c.loop.sum (omega arith) e c.loop.invariant.0)
