use mir.Facts.{to_z_pos, to_z-neg}
use mir.Val.{to_z}
use mir.Syntax.{w64}
use Prim.Native.Nat.{suc, ◌-◌, ◌*◌}
use mathlib.Core.Path.{◌≡◌, ap, ◌∙◌}
use native.Mathlib.Omega.{arith}
use borrow.Author.Tests.{lt-ltb, le-ltb}
use Rattle.wire.proofs.bytes.signed_of.Goals as goal

pub returns-then-n-half : goal.returns-then-n-half
returns-then-n-half c = rw (lt-ltb _ _ c.if-n-half.true) (to_z_pos w64 (omega arith))

pub returns-else-n-half : goal.returns-else-n-half
returns-else-n-half c = let e : 18446744073709551615 - (c.args.half - 1 - (c.args.n - c.args.half)) ≡ 18446744073709551616 - suc (2 * c.args.half - suc c.args.n) = omega arith in
    rw (le-ltb _ _ c.if-n-half.false, lt-ltb c.args.n (2 * c.args.half) c.requires.0) (ap (to_z w64) e ∙ to_z-neg w64 (2 * c.args.half - suc c.args.n) (omega arith))
