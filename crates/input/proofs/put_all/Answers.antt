use native.Mathlib.Nat.{add-zero}
use Rattle.input.proofs.Copies.{byte-turn}
use Prim.Native.Nat.{◌+◌}
use mathlib.Core.Path.{◌≡◌, sym, ap, ◌∙◌}
use native.Mathlib.Omega.{arith}
use lib.ListN.{length, get_or, set, drop}
use lib.Seq.{sets, drop-length, set_out}
use Rattle.input.proofs.put_all.Goals as goal
use Rattle.input.proofs.put_all.Goals.{then-at-i, else-at-i}

pub loop-i-init : goal.loop-i-init
loop-i-init c = ap (λ k. sets c.args.lent.now k c.args.bytes.now) (sym (add-zero c.args.at))

pub loop-i-preserved : goal.loop-i-preserved
loop-i-preserved c =
    let x = get_or c.args.bytes.now c.loop-i.i 0 in
    let put : c.if-at-i.lent ≡ set c.loop-i.lent (c.args.at + c.loop-i.i) x =
    elim c.if-at-i.branch [
      | then-at-i w ↦ w.lent-is
      | else-at-i w ↦ w.lent-is ∙ sym (set_out c.loop-i.lent (c.args.at + c.loop-i.i) x w.if-at-i.false)
    ] in
    c.loop-i.invariant ∙ byte-turn c.args.bytes.now c.loop-i.lent c.args.at c.loop-i.i c.loop-i-test.true ∙
    ap (λ l. sets l (c.args.at + (c.loop-i.i + 1)) (drop (c.loop-i.i + 1) c.args.bytes.now)) (sym put)

pub returns : goal.returns
returns c = let e : c.loop-i.i ≡ length c.args.bytes.now = omega (arith, c.loop-i.auto.i-end, c.loop-i-test.false) in
    sym (c.loop-i.invariant ∙ rw (e, drop-length))
