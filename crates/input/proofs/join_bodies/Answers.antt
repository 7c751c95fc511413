use Prim.Native.Nat.{ℕ}
use mathlib.Core.Path.{◌≡◌, refl, sym, ◌∙◌}
use mathlib.Core.List.{List}
use native.Mathlib.Omega.{arith}
use lib.ListN.{length-take, length-drop}
use lib.Seq.{length-sets}
use Rattle.std.specs.Prelude.{Some}
use Rattle.wire.specs.Options.{option_of}
use Rattle.input.specs.Input.{entry_end}
use Rattle.input.proofs.Inside.{ended, not-ended}
use Rattle.input.proofs.Runs.{joined_end}
use Rattle.input.proofs.Copies.{Turned, body-turn}
use Rattle.input.proofs.join_bodies.Goals as goal

turn : {s : List ℕ} {kind p next n : ℕ} {l : List ℕ} → Some next ≡ option_of (entry_end s p kind) → Turned s kind p next n l
turn {s} {kind} {p} {next} {n} {l} e = let is = ended s p kind next e in body-turn s kind p next n l is.0 is.1

pub loop-next-init : goal.loop-next-init
loop-next-init c = (omega arith, (refl, (omega arith, refl)))

pub overflow_add-p : goal.overflow_add-p
overflow_add-p c =
    let t : Turned c.args.s.now c.args.kind c.loop-next.p c.in-Some.next c.loop-next.n c.loop-next.lent =
    turn (sym c.in-Some.is ∙ c.entry_end.ensures) in omega (arith, t.inside, t.long)

pub slice_bounds-put_all-count : goal.slice_bounds-put_all-count
slice_bounds-put_all-count c =
    let t : Turned c.args.s.now c.args.kind c.loop-next.p c.in-Some.next c.loop-next.n c.loop-next.lent =
    turn (sym c.in-Some.is ∙ c.entry_end.ensures) in omega (arith, t.inside, t.long)

pub slice_bounds-put_all-start : goal.slice_bounds-put_all-start
slice_bounds-put_all-start c =
    let t : Turned c.args.s.now c.args.kind c.loop-next.p c.in-Some.next c.loop-next.n c.loop-next.lent =
    turn (sym c.in-Some.is ∙ c.entry_end.ensures) in omega (arith, t.inside, t.long)

pub slice_bounds-put_all-end : goal.slice_bounds-put_all-end
slice_bounds-put_all-end c =
    let t : Turned c.args.s.now c.args.kind c.loop-next.p c.in-Some.next c.loop-next.n c.loop-next.lent =
    turn (sym c.in-Some.is ∙ c.entry_end.ensures) in omega (arith, t.inside, t.long)

pub put_all-requires : goal.put_all-requires
put_all-requires c =
    let t : Turned c.args.s.now c.args.kind c.loop-next.p c.in-Some.next c.loop-next.n c.loop-next.lent =
    turn (sym c.in-Some.is ∙ c.entry_end.ensures) in
    simp (length-take, length-drop) (omega (arith, t.inside, t.long))

pub overflow_sub-n-in-Some : goal.overflow_sub-n-in-Some
overflow_sub-n-in-Some c =
    let t : Turned c.args.s.now c.args.kind c.loop-next.p c.in-Some.next c.loop-next.n c.loop-next.lent =
    turn (sym c.in-Some.is ∙ c.entry_end.ensures) in omega (arith, t.inside, t.long)

pub overflow_add-n : goal.overflow_add-n
overflow_add-n c =
    let t : Turned c.args.s.now c.args.kind c.loop-next.p c.in-Some.next c.loop-next.n c.loop-next.lent =
    turn (sym c.in-Some.is ∙ c.entry_end.ensures) in omega (arith, t.inside, t.long)

pub loop-next-smaller : goal.loop-next-smaller
loop-next-smaller c =
    let t : Turned c.args.s.now c.args.kind c.loop-next.p c.in-Some.next c.loop-next.n c.loop-next.lent =
    turn (sym c.in-Some.is ∙ c.entry_end.ensures) in omega (arith, t.inside, t.long)

pub loop-next-preserved : goal.loop-next-preserved
loop-next-preserved c =
    let t : Turned c.args.s.now c.args.kind c.loop-next.p c.in-Some.next c.loop-next.n c.loop-next.lent =
    turn (sym c.in-Some.is ∙ c.entry_end.ensures) in (
      omega (arith, t.inside, t.long),
      (
        rw (c.put_all.ensures, length-sets) c.loop-next.invariant.1.0,
        (omega (arith, t.count), rw c.put_all.ensures (c.loop-next.invariant.1.1.1 ∙ t.filled)),
      ),
    )

pub returns : goal.returns
returns c = let end = joined_end c.args.s.now c.args.kind c.loop-next.p (not-ended c.args.s.now c.loop-next.p c.args.kind (sym c.in_default.is ∙ c.entry_end.ensures)) in
    record {
      count = sym (c.loop-next.invariant.1.1.0 ∙ rw end (omega arith));
      filled = sym (c.loop-next.invariant.1.1.1 ∙ rw end);
    }
