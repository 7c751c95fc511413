use Prim.Native.Nat.{ℕ, ◌+◌, ◌-◌, ◌<◌}
use mathlib.Core.Path.{◌≡◌, refl, ap, ◌∙◌}
use native.Mathlib.Omega.{arith}
use lib.ListN.{length, get_or, set, drop, length-set, length-drop}
use lib.Seq.{paste, paste-zero}
use Rattle.store.proofs.Pastes.{paste-turn, moved-byte, moved_all}
use Rattle.store.proofs.bytes.move_down.Goals as goal

pub loop-i-init : goal.loop-i-init
loop-i-init c = (omega arith, (refl, paste-zero c.args.b.now c.args.at (drop (c.args.at + c.args.n) c.args.b.now)))

pub bounds-b-at : goal.bounds-b-at
bounds-b-at c = omega (arith, c.loop-i.invariant.1.0, c.requires, c.loop-i-test.true)

pub bounds-b-at-in-loop-i : goal.bounds-b-at-in-loop-i
bounds-b-at-in-loop-i c = omega (arith, c.loop-i.invariant.1.0, c.requires, c.loop-i-test.true)

pub loop-i-smaller : goal.loop-i-smaller
loop-i-smaller c = omega (arith, c.loop-i.invariant.1.0, c.loop-i-test.true)

pub loop-i-preserved : goal.loop-i-preserved
loop-i-preserved c = let b₀ = c.args.b.now in
    let at : ℕ = c.args.at in
    let n : ℕ = c.args.n in
    let i : ℕ = c.loop-i.i in
    let h : at + n + i < length b₀ = omega (arith, c.loop-i-test.true, c.requires) in
    let v : get_or c.loop-i.b (at + n + i) 0 ≡ get_or (drop (at + n) b₀) i 0 =
    ap (λ z. get_or z (at + n + i) 0) c.loop-i.invariant.1.1 ∙ moved-byte b₀ at n i h in (
      omega (arith, c.loop-i-test.true),
      (
        length-set c.loop-i.b (at + i) (get_or c.loop-i.b (at + n + i) 0) ∙ c.loop-i.invariant.1.0,
        ap (λ z. set z (at + i) (get_or c.loop-i.b (at + n + i) 0)) c.loop-i.invariant.1.1 ∙
            paste-turn b₀ (drop (at + n) b₀) at i (get_or c.loop-i.b (at + n + i) 0) (omega arith) (omega (arith, length-drop (at + n) b₀)) v,
      ),
    )

pub shape_of-b : goal.shape_of-b
shape_of-b c = c.loop-i.invariant.1.0

pub returns : goal.returns
returns c = let e : c.loop-i.i ≡ length c.args.b.now - c.args.n - c.args.at = omega (arith, c.loop-i.invariant.0, c.loop-i-test.false) in
    c.loop-i.invariant.1.1 ∙ moved_all c.args.b.now c.args.at c.args.n c.loop-i.i c.requires e
