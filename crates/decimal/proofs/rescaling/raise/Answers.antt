use Prim.Native.Nat.{ℕ, ◌^◌}
use mathlib.Core.Path.{◌≡◌, sym, ap, ap₂, ◌∙◌}
use lib.IntN.{ℤ, pos, ◌*ℤ◌}
use mir.Facts.{to_z-of_z}
use mir.Syntax.{w64}
use mir.Val.{to_z, of_z}
use Rattle.decimal.specs.Number.{fitted}
use Rattle.decimal.proofs.Bits.{read_back}
use Rattle.decimal.proofs.Fitted.{made, number_is, raised-by-none}
use Rattle.decimal.proofs.rescaling.raise.Goals as goal

pub returns-then-k-eq0 : goal.returns-then-k-eq0
returns-then-k-eq0 c = let x = c.args.x in
    made (to_z-of_z c.ranges.x) (to_z-of_z c.ranges.scale) c.ranges.x.sfits
    ∙ ap (λ (z : ℤ). fitted z c.args.scale) (sym (raised-by-none x) ∙ ap (λ (n : ℕ). x *ℤ pos (10 ^ n)) (sym c.if-k-eq0.true))

pub returns : goal.returns
returns c = let product : to_z w64 (of_z w64 c.args.x) *ℤ to_z w64 (of_z w64 c.power.result) ≡ c.args.x *ℤ pos (10 ^ c.args.k) =
    ap₂ ◌*ℤ◌ (to_z-of_z c.ranges.x) (read_back w64 c.power.result c.power.type_inv ∙ c.power.ensures) in
    c.fitting.ensures ∙ number_is _ _ _ c.checked_mul.ensures ∙ ap₂ fitted product (to_z-of_z c.ranges.scale)
