-- Contexts in scope are those of the two tables that hold their numbers and the places of their relations.
use Prim.Native.Nat.{◌+◌, ◌≤◌, min}
use mathlib.Core.Path.{◌≡◌, sym, ap, ◌∙◌}
use mathlib.Core.List.{List, ◌++◌, append-nil}
use native.Mathlib.Omega.{arith}
use lib.ListN.{length, length-map, drop_of_length-le}
use lib.Seq.{sets, sets-eq}
use Rattle.wire.specs.Limits.{max_contexts}
use Rattle.surroundings.specs.Slots.{Slot, relations_in}
use Rattle.surroundings.specs.Tables.{slots_in, numbers_in}
use Rattle.surroundings.proofs.Laid.{slots-back}

-- a list stored over itself
over-itself : {A : Type 0} (l : List A) → l ≡ sets l 0 l
over-itself l =
    sym (sets-eq l l 0 (omega arith) ∙ ap (λ z. l ++ z) (drop_of_length-le l {i = 0 + length l} (omega arith)) ∙ append-nil l)

pub slots-own : (xs : List Slot) → length xs ≤ max_contexts →
    slots_in (numbers_in xs) (relations_in xs) (min (length (numbers_in xs)) max_contexts) 0 ≡ xs
slots-own xs few =
    let a = length-map xs (λ x. x.number) in
    let b = length-map xs (λ x. x.relation) in
    slots-back {numbers = numbers_in xs} {relations = relations_in xs}
    (record { counted = a; numbers_filled = over-itself (numbers_in xs); relations_filled = over-itself (relations_in xs) })
    few (omega (arith, a)) (omega (arith, b))
