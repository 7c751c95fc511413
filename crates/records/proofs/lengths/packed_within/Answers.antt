use Rattle.records.proofs.Offsets.{held_none, held-end, held_next, is_within, too_long}
use native.Mathlib.Omega.{arith}
use Prim.Native.Nat.{◌+◌, ◌-◌, ◌<◌}
use mathlib.Core.Path.{◌≡◌, sym, ap, ◌∙◌}
use lib.ListN.{take}
use mathlib.Core.Bool.{true, false}
use Rattle.std.specs.Prelude.{Some}
use Rattle.dictionary.specs.Internal.Walk.{is_field, fields_from}
use Rattle.records.specs.Internal.Answers.{all_held}
use Rattle.records.proofs.lengths.packed_within.Goals as goal

pub loop-init : goal.loop-init
loop-init c = let n : c.args.i - 0 ≡ c.args.i = omega arith in
    (c.requires, ap (λ m. c.args.start + all_held c.args.d.now (take m (fields_from c.args.d.now c.args.from))) (sym n))

pub returns-then-not-is_field : goal.returns-then-not-is_field
returns-then-not-is_field c = let d = c.args.d.now in
    let q = c.loop.q in
    let t = c.args.start + all_held d (take c.args.i (fields_from d c.args.from)) in
    let e : is_field d q ≡ false = sym c.is_field.ensures ∙ c.if-not-is_field.true in
    let same : c.loop.sum ≡ t = omega (arith, held-end d q (c.args.i - c.loop.counter) e, c.loop.invariant.1) in
    ap Some same ∙ is_within c.args.limit t (omega (arith, c.loop.invariant.0))

pub returns-then-limit-sum : goal.returns-then-limit-sum
returns-then-limit-sum c = let d = c.args.d.now in
    let q = c.loop.q in
    let t = c.args.start + all_held d (take c.args.i (fields_from d c.args.from)) in
    let e : is_field d q ≡ true = sym c.is_field.ensures ∙ c.if-not-is_field.false in
    let more : 0 < c.args.i - c.loop.counter = omega arith in
    too_long c.args.limit t (omega (arith, held_next d q (c.args.i - c.loop.counter) more e, c.held_bytes-n.ensures, c.loop.invariant.1))

pub loop-preserved : goal.loop-preserved
loop-preserved c = let d = c.args.d.now in
    let q = c.loop.q in
    let e : is_field d q ≡ true = sym c.is_field.ensures ∙ c.if-not-is_field.false in
    let more : 0 < c.args.i - c.loop.counter = omega arith in
    let one : c.args.i - c.loop.counter - 1 ≡ c.args.i - (c.loop.counter + 1) = omega arith in
    let there = ap (λ x. all_held d (take (c.args.i - c.loop.counter - 1) (fields_from d x))) c.next_place-q.ensures in
    let fewer = ap (λ m. all_held d (take m (fields_from d c.next_place-q.result))) one in (
      omega (arith, c.loop.invariant.0),
      omega (arith, held_next d q (c.args.i - c.loop.counter) more e, c.held_bytes-n.ensures, there, fewer, c.loop.invariant.1),
    )

pub returns : goal.returns
returns c = let d = c.args.d.now in
    let q = c.loop.q in
    let t = c.args.start + all_held d (take c.args.i (fields_from d c.args.from)) in
    let none : c.args.i - c.loop.counter ≡ 0 = omega arith in
    let same : c.loop.sum ≡ t = omega (arith, held_none d q 0, ap (λ n. all_held d (take n (fields_from d q))) none, c.loop.invariant.1) in
    ap Some same ∙ is_within c.args.limit t (omega (arith, c.loop.invariant.0))
