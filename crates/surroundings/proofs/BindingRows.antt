-- Bindings as the numbers of their rows: how many, one after another, read back from a table, and cut from one that they were laid in.
use Prim.Native.Nat.{ℕ, suc, ◌+◌, ◌*◌, ◌≤◌}
use mathlib.Core.Path.{◌≡◌, refl, sym, ap, ◌∙◌}
use mathlib.Core.List.{List, [], ◌∷◌, ◌++◌, append-nil}
use native.Mathlib.Omega.{arith}
use lib.ListN.{length, take, drop}
use lib.Seq.{sets, sets-eq, take_at}
use Rattle.wire.specs.Words.{word_at}
use Rattle.surroundings.specs.Slots.{Slot}
use Rattle.surroundings.specs.Bindings.{Binding, binding_row, binding_rows, bound_contexts, bindings_from, rows_in}
use Rattle.surroundings.proofs.Cells.{cell-is, next-is}

pub rows-count : (bs : List Binding) → length (binding_rows bs) ≡ length bs * 10
unfolding binding_rows
rows-count [] = omega arith
rows-count (b ∷ bs) = let i = rows-count bs in omega (arith, i)

pub rows_in_lem : (bs : List Binding) → rows_in (binding_rows bs) ≡ length bs
rows_in_lem bs = let i = rows-count bs in omega (arith, i)

pub rows_join : (bs cs : List Binding) → binding_rows (bs ++ cs) ≡ binding_rows bs ++ binding_rows cs
unfolding binding_rows
rows_join [] cs = refl
rows_join (b ∷ bs) cs = ap (λ l. binding_row b ++ l) (rows_join bs cs)

pub contexts-count : (xs : List Slot) (records : List ℕ) (p : ℕ) → length (bound_contexts xs records p) ≡ length xs
unfolding bound_contexts
contexts-count [] records p = refl
contexts-count (x ∷ xs) records p = ap suc (contexts-count xs records (p + word_at records p))

pub rows-read : (t : List ℕ) (bs : List Binding) (row : ℕ) (rest : List ℕ) → drop (row * 10) t ≡ binding_rows bs ++ rest →
    bindings_from t (length bs) row ≡ bs
unfolding binding_rows bindings_from
rows-read t [] row rest f = refl
rows-read t (b ∷ bs) row rest f =
    let l = binding_rows (b ∷ bs) ++ rest in
    rw (
      cell-is t l (row * 10) 0 f,
      cell-is t l (row * 10) 1 f,
      cell-is t l (row * 10) 2 f,
      cell-is t l (row * 10) 3 f,
      cell-is t l (row * 10) 4 f,
      cell-is t l (row * 10) 5 f,
      cell-is t l (row * 10) 6 f,
      cell-is t l (row * 10) 7 f,
      cell-is t l (row * 10) 8 f,
      cell-is t l (row * 10) 9 f,
      rows-read t bs (row + 1) rest (next-is t l (row * 10) 10 ((row + 1) * 10) f (omega arith)),
    )

-- all the rows of a table that holds nothing else
pub rows_back : (bs : List Binding) → bindings_from (binding_rows bs) (rows_in (binding_rows bs)) 0 ≡ bs
rows_back bs = rw (rows_in_lem bs) (rows-read (binding_rows bs) bs 0 [] (sym (append-nil (binding_rows bs))))

-- the part of a table that holds the rows that were laid in it
pub rows-held : (bs : List Binding) (t : List ℕ) → length bs * 10 ≤ length t →
    take (length bs * 10) (sets t 0 (binding_rows bs)) ≡ binding_rows bs
rows-held bs t h =
    let i = rows-count bs in
    ap (take (length bs * 10)) (sets-eq (binding_rows bs) t 0 (omega (arith, i)))
    ∙ take_at (binding_rows bs) (drop (0 + length (binding_rows bs)) t) (length bs * 10) i
