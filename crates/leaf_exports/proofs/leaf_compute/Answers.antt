use borrow.Author.Rules.{rules}
use Prim.Native.Nat.{ℕ}
use mathlib.Core.Path.{◌≡◌, sym, ap, ◌∙◌}
use mathlib.Core.List.{[], ◌∷◌}
use lib.IntN.{ℤ}
use mir.Syntax.{w8, w64}
use mir.Val.{SFits, to_z, of_z}
use mir.Facts.{sfits_widen, to_z-of_z}
use Rattle.std.specs.Prelude.{Ok, Err}
use Rattle.decimal.specs.Number.{Computed}
use Rattle.leaf_exports.specs.Exports.{ComputedInto, operation, value_of, scale_of, refusal_of}
use Rattle.leaf_exports.proofs.leaf_compute.Goals as goal

scale-fits : {z : ℤ} → SFits w8 z → SFits w64 (to_z w8 (of_z w8 z))
scale-fits f = rw (to_z-of_z f) (sfits_widen tt f)

scale_kept : {z : ℤ} → SFits w8 z → to_z w64 (of_z w64 (to_z w8 (of_z w8 z))) ≡ z
scale_kept f = to_z-of_z (scale-fits f) ∙ to_z-of_z f

given : (x : Computed) {r : Computed} (o : ℕ) {a p b q : ℤ} → SFits w64 a → SFits w8 p → SFits w64 b → SFits w8 q →
    r ≡ operation o (record { value = to_z w64 (of_z w64 a); scale = to_z w8 (of_z w8 p) }) (record { value = to_z w64 (of_z w64 b); scale = to_z w8 (of_z w8 q) }) →
    r ≡ x → ComputedInto (operation o (record { value = a; scale = p }) (record { value = b; scale = q })) (value_of x ∷ scale_of x ∷ []) (refusal_of x)
given x o f g h i e k =
    let found = sym k ∙ (rw (to_z-of_z f, to_z-of_z g, to_z-of_z h, to_z-of_z i) at e) in
    record { number_is = ap refusal_of found; answer_filled = ap (λ z. value_of z ∷ scale_of z ∷ []) found }

pub returns-in-Ok : goal.returns-in-Ok
returns-in-Ok c = let value : SFits w64 c.in-Ok.n.value = search rules in
    let scale : SFits w8 c.in-Ok.n.scale = search rules in
    rw (to_z-of_z value, scale_kept scale)
    (given (Ok c.in-Ok.n) _ c.ranges.a c.ranges.a_scale c.ranges.b c.ranges.b_scale c.operate.ensures c.in-Ok.is)

pub returns-in-Err : goal.returns-in-Err
returns-in-Err c = rw c.error_number.ensures (given (Err c.in-Err.error) _ c.ranges.a c.ranges.a_scale c.ranges.b c.ranges.b_scale c.operate.ensures c.in-Err.is)
