-- Rows of the parameter table: runs of stores, and one message more.
use Prim.Native.Nat.{ℕ, suc, ◌+◌, ◌*◌}
use mathlib.Core.Path.{◌≡◌, sym, ap, ◌∙◌}
use mathlib.Core.List.{List, [], ◌∷◌, ◌++◌, append_assoc, append-nil}
use native.Mathlib.Nat.{add-zero, add-suc, suc-add}
use native.Mathlib.Omega.{arith}
use lib.ListN.{length, set}
use lib.Seq.{sets}
use Rattle.wire.specs.Lists.{sum_of}
use Rattle.grammar.specs.Tree as Tree
use Rattle.grammar.specs.Sizes.{parameter_count}
use Rattle.grammar.proofs.RowCounts.{parameter_rows_lem}
use Rattle.grammar.specs.Rows.{descriptor_rows, parameter_rows}

pub sets-append : (xs ys l : List ℕ) (i : ℕ) → sets l i (xs ++ ys) ≡ sets (sets l i xs) (i + length xs) ys
sets-append [] ys l i = ap (λ k. sets l k ys) (sym (add-zero i))
sets-append (x ∷ xs) ys l i =
    sets-append xs ys (set l i x) (suc i) ∙
    ap (λ k. sets (sets (set l i x) (suc i) xs) k ys) (suc-add i (length xs) ∙ sym (add-suc i (length xs)))

-- ---- one message more

pub count-more : (ms : List Tree.Message) (m : Tree.Message) → parameter_count (ms ++ (m ∷ [])) ≡ parameter_count ms + length m.descriptors
unfolding sum_of
count-more [] m = omega arith
count-more (x ∷ ms) m = omega (arith, count-more ms m)

rows_more : (ms : List Tree.Message) (m : Tree.Message) →
    parameter_rows (ms ++ (m ∷ [])) ≡ parameter_rows ms ++ descriptor_rows m.number 0 0 m.descriptors
unfolding parameter_rows
rows_more [] m = append-nil _
rows_more (x ∷ ms) m =
    ap (λ l. descriptor_rows x.number 0 0 x.descriptors ++ l) (rows_more ms m) ∙
    sym (append_assoc (descriptor_rows x.number 0 0 x.descriptors) (parameter_rows ms) _)

-- the rows of one message more, in a table that has those before it
pub table_more : (ms : List Tree.Message) (m : Tree.Message) (l : List ℕ) →
    sets (sets l 0 (parameter_rows ms)) (parameter_count ms * 6) (descriptor_rows m.number 0 0 m.descriptors) ≡
    sets l 0 (parameter_rows (ms ++ (m ∷ [])))
table_more ms m l =
    let e : parameter_count ms * 6 ≡ 0 + length (parameter_rows ms) = omega (arith, parameter_rows_lem ms) in
    rw (e, rows_more ms m) (sym (sets-append (parameter_rows ms) (descriptor_rows m.number 0 0 m.descriptors) l 0))
