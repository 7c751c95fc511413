-- The table of powers of ten has its rule at each of its nineteen entries.
use borrow.Author.Rules.{rules}
use Prim.Native.Nat.{ℕ, ◌^◌, ◌≤◌, ◌-◌, max}
use mathlib.Core.Path.{◌≡◌, ap, ◌∙◌}
use mathlib.Core.List.{List, [], ◌∷◌}
use native.Mathlib.Omega.{arith}
use native.Mathlib.Nat.{pow-le-pow_right}
use lib.Dec.{lit<}
use lib.IntN.{ℤ, pos}
use mir.Syntax.{w64}
use mir.Val.{to_z, of_z}
use Rattle.std.specs.Prelude.{slice_index_or}
use Rattle.decimal.proofs.Bits.{read_back}

abbrev pub powers : List ℤ
powers =
    pos 1 ∷ pos 10 ∷ pos 100 ∷ pos 1000 ∷ pos 10000 ∷ pos 100000 ∷ pos 1000000 ∷ pos 10000000 ∷ pos 100000000 ∷ pos 1000000000
    ∷ pos 10000000000 ∷ pos 100000000000 ∷ pos 1000000000000 ∷ pos 10000000000000 ∷ pos 100000000000000 ∷ pos 1000000000000000
    ∷ pos 10000000000000000 ∷ pos 100000000000000000 ∷ pos 1000000000000000000 ∷ []

pub ten-to : (k : ℕ) → k ≤ 18 → slice_index_or powers k (pos 0) ≡ pos (10 ^ k)
ten-to k h = search rules

-- an entry as it is read from the table
pub ten-read : (k : ℕ) → k ≤ 18 → to_z w64 (of_z w64 (slice_index_or powers k (pos 0))) ≡ pos (10 ^ k)
ten-read k h = let l : 10 ^ k ≤ 10 ^ 18 = pow-le-pow_right (lit< tt) h in
    ap (λ z. to_z w64 (of_z w64 z)) (ten-to k h) ∙ read_back w64 (pos (10 ^ k)) (omega arith)

pub ten-lacking : (m p q : ℕ) → m ≡ max p q → p ≤ 18 → q ≤ 18 → to_z w64 (of_z w64 (slice_index_or powers (m - p) (pos 0))) ≡ pos (10 ^ (max p q - p))
ten-lacking m p q e h k = let l : m - p ≤ 18 = omega arith in ten-read (m - p) l ∙ ap (λ n. pos (10 ^ (n - p))) e

pub ten-lacking-2 : (m p q : ℕ) → m ≡ max p q → p ≤ 18 → q ≤ 18 → to_z w64 (of_z w64 (slice_index_or powers (m - q) (pos 0))) ≡ pos (10 ^ (max p q - q))
ten-lacking-2 m p q e h k = let l : m - q ≤ 18 = omega arith in ten-read (m - q) l ∙ ap (λ n. pos (10 ^ (n - q))) e
