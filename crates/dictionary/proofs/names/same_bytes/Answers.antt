use Rattle.dictionary.proofs.Bytes.{other_length, same-before, other_byte, same_end, same_whole}
use native.Mathlib.Omega.{arith}
use mathlib.Core.Path.{◌≡◌, sym, ◌∙◌}
use Prim.Native.Nat.{suc, ◌≤◌, ◌<◌, ◌-◌}
use lib.ListN.{length}
use Rattle.dictionary.proofs.names.same_bytes.Goals as goal

pub returns-then-a-b : goal.returns-then-a-b
returns-then-a-b c = other_length c.args.a.now c.args.b.now c.if-a-b.true

pub loop-i-init : goal.loop-i-init
loop-i-init c = (c.if-a-b.false, same_whole c.args.a.now c.args.b.now c.if-a-b.false)

pub returns-then-a-i : goal.returns-then-a-i
returns-then-a-i c = let k : c.loop-i.i ≡ suc (c.loop-i.i - 1) = omega arith in
    let ha : c.loop-i.i - 1 < length c.args.a.now = omega arith in
    let hb : c.loop-i.i - 1 < length c.args.b.now = omega (arith, c.loop-i.invariant.0) in
    other_byte c.args.a.now c.args.b.now c.loop-i.i (c.loop-i.i - 1) k ha hb c.if-a-i.true ∙ sym c.loop-i.invariant.1

pub loop-i-preserved : goal.loop-i-preserved
loop-i-preserved c = let k : c.loop-i.i ≡ suc (c.loop-i.i - 1) = omega arith in
    let ha : c.loop-i.i - 1 < length c.args.a.now = omega arith in
    let hb : c.loop-i.i - 1 < length c.args.b.now = omega (arith, c.loop-i.invariant.0) in
    (c.loop-i.invariant.0, c.loop-i.invariant.1 ∙ same-before c.args.a.now c.args.b.now c.loop-i.i (c.loop-i.i - 1) k ha hb c.if-a-i.false)

pub returns : goal.returns
returns c = let h : c.loop-i.i ≤ 0 = omega arith in
    same_end c.args.a.now c.args.b.now c.loop-i.i h ∙ sym c.loop-i.invariant.1
