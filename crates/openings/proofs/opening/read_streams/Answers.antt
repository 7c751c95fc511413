use Prim.Native.Nat.{◌+◌, ◌-◌}
use mathlib.Core.Path.{◌≡◌, sym, ◌∙◌}
use native.Mathlib.Omega.{arith}
use Rattle.std.proofs.lemmas.Result.{err_from_is_err_and}
use Rattle.openings.proofs.OpenLaws.{stream-opened, opens-none, opens-refused}
use Rattle.openings.proofs.opening.read_streams.Goals as goal

pub loop-init : goal.loop-init
loop-init c = ((λ p. omega (arith, c.type_inv.request p)), λ h. let e : c.args.n - 0 ≡ c.args.n = omega arith in rw e (record { ready = h; all = λ o. o }))

pub loop-preserved : goal.loop-preserved
loop-preserved c = (
  c.loop.invariant.0,
  λ h. let e : c.args.n - (c.loop.counter + 1) ≡ c.args.n - c.loop.counter - 1 = omega arith in
      rw e (stream-opened (c.loop.invariant.1 h) c.loop.invariant.0 (omega (arith, c.loop-test.true))
      (λ d. sym c.in_ok-x.was ∙ c.read_stream.ensures d) c.declare.ensures),
)

pub returns-in_err-x : goal.returns-in_err-x
returns-in_err-x c =
    let p = err_from_is_err_and c.from_residual.result c.from_residual.ensures.1 in
    rw (p.1, p.2) (λ h. let o = c.loop.invariant.1 h in
    o.all (opens-refused o.ready c.loop.contexts _ (c.args.n - c.loop.counter) (omega (arith, c.loop-test.true))
    (sym c.in_err-x.was ∙ c.read_stream.ensures o.ready.is-proper)))

pub returns : goal.returns
returns c = λ h. let o = c.loop.invariant.1 h in
    o.all (opens-none o.ready c.loop.contexts _ (c.args.n - c.loop.counter) (omega (arith, c.loop-test.false)))
