use borrow.Author.Rules.{rules}
use Prim.Native.Nat.{◌^◌}
use mathlib.Core.Path.{◌≡◌, sym, ap, ap₂, ◌∙◌}
use lib.IntN.{ℤ, pos, ◌*ℤ◌}
use mir.Syntax.{w64}
use mir.Val.{to_z, of_z}
use mir.Facts.{to_z-of_z}
use Rattle.std.specs.Prelude.{Err}
use Rattle.decimal.specs.Number.{fitted}
use Rattle.decimal.proofs.Raised.{raised-twice}
use Rattle.decimal.proofs.rescaling.raise_twice.Goals as goal

pub returns-in_err-n : goal.returns-in_err-n
returns-in_err-n c = let end : c.from_residual.result ≡ Err c.in_err-n.field-0.0 = search rules in
    let first = sym (c.raise.ensures ∙ ap₂ fitted (ap (λ (z : ℤ). z *ℤ pos (10 ^ c.args.k)) (to_z-of_z c.ranges.x)) (to_z-of_z c.ranges.scale)) ∙ c.in_err-n.was in
    end ∙ rw first at (raised-twice c.args.x c.args.scale c.args.k)

pub returns : goal.returns
returns c = let first = sym (c.raise.ensures ∙ ap₂ fitted (ap (λ (z : ℤ). z *ℤ pos (10 ^ c.args.k)) (to_z-of_z c.ranges.x)) (to_z-of_z c.ranges.scale)) ∙ c.in_ok-n.was in
    let n : to_z w64 (of_z w64 c.in_ok-n.n.value) ≡ c.in_ok-n.n.value = search rules in
    c.raise-2.ensures ∙ ap₂ fitted (ap (λ (z : ℤ). z *ℤ pos (10 ^ c.args.k)) n) (to_z-of_z c.ranges.scale)
    ∙ rw first at (raised-twice c.args.x c.args.scale c.args.k)
