-- A table whose rows have got their runs: it is that of the bindings with their runs.
use Prim.Native.Nat.{ℕ, suc, ◌+◌, ◌*◌, ◌-◌, ◌≤◌, min}
use mathlib.Core.Path.{◌≡◌, refl, sym, ap, ap₂, ◌∙◌}
use mathlib.Core.Bool.{Bool, true, false}
use mathlib.Core.List.{List, [], ◌∷◌, ◌++◌, append_assoc}
use native.Mathlib.Omega.{arith}
use lib.ListN.{length, get_or, set, take, drop, length-append}
use lib.Seq.{sets, sets-eq, length-sets, get_or-append-add, take_at, drop-append-add, drop-drop}
use Rattle.wire.specs.Limits.{max_contexts}
use Rattle.wire.specs.Words.{word_at}
use Rattle.dictionary.specs.Dictionary.{Relation}
use Rattle.dictionary.specs.Internal.Walk.{relation_at}
use Rattle.std.specs.Prelude.{Result, Ok}
use Rattle.records.specs.Record.{Run, as_due, wrong_at, next_record}
use Rattle.records.specs.Runs.{records_held, proper_run, runs}
use Rattle.records.specs.Internal.Answers.{run_answer}
use Rattle.grammar.proofs.StepLaws.{absurd-eq}
use Rattle.surroundings.specs.Bindings.{Binding, binding_row, binding_rows, cell}
use Rattle.surroundings.proofs.BindingRows.{rows-count, rows_join}
use Rattle.runs.specs.Filled.{row_relations, with_run, filled, Checked, relations_of, with_run_of, filled_bindings}

-- ---- runs as due

-- the first is proper, and the rest are as due
pub next-run : (r : Relation) (rs : List Relation) (s : List ℕ) (p : ℕ) → runs (r ∷ rs) s p ≡ as_due →
    (proper_run r s p ≡ true) × (runs rs s (p + word_at s p) ≡ as_due)
unfolding runs
next-run r rs s p e = by (proper_run r s p) e
  where
    by : (b : Bool) → next_record b p (runs rs s (p + word_at s p)) ≡ as_due → (b ≡ true) × (runs rs s (p + word_at s p) ≡ as_due)
    by false e = absurd-eq (cc)
    by true e = (refl, e)

-- ---- a row after others

pub set_after : (l m : List ℕ) (i v : ℕ) → set (l ++ m) (length l + i) v ≡ l ++ set m i v
set_after [] m i v = let z : 0 + i ≡ i = omega arith in ap (λ (j : ℕ). set m j v) z
set_after (x ∷ l) m i v =
    let z : suc (length l) + i ≡ suc (length l + i) = omega arith in
    ap (λ (j : ℕ). set (x ∷ (l ++ m)) j v) z ∙ ap (λ (k : List ℕ). x ∷ k) (set_after l m i v)

module _ (before : List ℕ) (row : ℕ) (long : length before ≡ row * 10) (b : Binding) (rest : List ℕ) where
  abbrev table : List ℕ
  table = before ++ (binding_row b ++ rest)

  row-relation : cell table row 2 ≡ b.relation
  row-relation =
      let n : row * 10 + 2 ≡ length before + 2 = omega (arith, long) in
      ap (λ (j : ℕ). get_or table j 0) n ∙ get_or-append-add before (binding_row b ++ rest) 2 0

  row-run : (p n : ℕ) → with_run table row p n ≡ before ++ (binding_row (with_run_of b p n) ++ rest)
  row-run p n =
      let i : row * 10 + 6 ≡ length before + 6 = omega (arith, long) in
      let j : row * 10 + 7 ≡ length before + 7 = omega (arith, long) in
      ap₂ (λ (x y : ℕ). set (set table x p) y n) i j
      ∙ ap (λ (l : List ℕ). set l (length before + 7) n) (set_after before (binding_row b ++ rest) 6 p)
      ∙ set_after before (set (binding_row b ++ rest) 6 p) 7 n

  row_on : (m : List ℕ) (c : Binding) → before ++ (binding_row c ++ m) ≡ (before ++ binding_row c) ++ m
  row_on m c = sym (append_assoc before (binding_row c) m)

  row-long : (c : Binding) → length (before ++ binding_row c) ≡ (row + 1) * 10
  row-long c = let k = length-append before (binding_row c) in omega (arith, k, long)

-- ---- the rows of bindings

module _ (d : List ℕ) (rest : List ℕ) where
  -- their relations
  pub rows-relations : (bs : List Binding) (before : List ℕ) (row : ℕ) → length before ≡ row * 10 →
      row_relations d (before ++ (binding_rows bs ++ rest)) (length bs) row ≡ relations_of d bs
  unfolding row_relations binding_rows
  rows-relations [] before row h = refl
  rows-relations (b ∷ bs) before row h =
      let m = binding_rows bs ++ rest in
      let i = rows-relations bs (before ++ binding_row b) (row + 1) (row-long before row h b m b) in
      ap₂ (λ (q : ℕ) (rs : List Relation). relation_at d q ∷ rs) (row-relation before row h b m)
      (ap (λ (t : List ℕ). row_relations d t (length bs) (row + 1)) (row_on before row h b m m b) ∙ i)

  -- where their runs are as due, they get them
  pub rows-filled : (s : List ℕ) (bs : List Binding) (before : List ℕ) (row p : ℕ) → length before ≡ row * 10 →
      runs (relations_of d bs) s p ≡ as_due →
      filled d s (length bs) row p (before ++ (binding_rows bs ++ rest)) ≡ before ++ (binding_rows (filled_bindings d s p bs) ++ rest)
  unfolding filled filled_bindings binding_rows
  rows-filled s [] before row p h e = refl
  rows-filled s (b ∷ bs) before row p h e =
      let m = binding_rows bs ++ rest in
      let r = relation_at d b.relation in
      let n = next-run r (relations_of d bs) s p e in
      let c : Binding = with_run_of b (p + 4) (records_held r (word_at s p)) in
      let q = p + word_at s p in
      let i = rows-filled s bs (before ++ binding_row c) (row + 1) q (row-long before row h b m c) n.1 in
      rw (row-relation before row h b m, n.0)
      (ap (filled d s (length bs) (row + 1) q) (row-run before row h b m (p + 4) (records_held r (word_at s p)) ∙ row_on before row h b m m c)
      ∙ i ∙ sym (row_on before row h b m (binding_rows (filled_bindings d s q bs) ++ rest) c))

-- ---- the table of a condition: the contexts in scope, then the any and unique codes

-- all its rows are looked at
all-rows : (n m to : ℕ) → to ≡ n + m → to ≤ 32 → min to 32 - n ≡ m
all-rows n m to e h = let k : min to 32 ≡ to = omega arith in rw k (omega arith)

module _ (d : List ℕ) (outer bs : List Binding) (to : ℕ) (count : to ≡ length outer + length bs) (few : to ≤ max_contexts)
    (rest t : List ℕ) (is : t ≡ binding_rows (outer ++ bs) ++ rest) where
  table_is : t ≡ binding_rows outer ++ (binding_rows bs ++ rest)
  table_is = is ∙ ap (λ (l : List ℕ). l ++ rest) (rows_join outer bs) ∙ append_assoc (binding_rows outer) (binding_rows bs) rest

  pub table-relations : row_relations d t (min to max_contexts - length outer) (length outer) ≡ relations_of d bs
  table-relations =
      rw (all-rows (length outer) (length bs) to count few, table_is)
      (rows-relations d rest bs (binding_rows outer) (length outer) (rows-count outer))

  pub table_filled : (s : List ℕ) → runs (relations_of d bs) s 0 ≡ as_due →
      filled d s (min to max_contexts - length outer) (length outer) 0 t ≡ binding_rows (outer ++ filled_bindings d s 0 bs) ++ rest
  table_filled s due =
      rw (all-rows (length outer) (length bs) to count few, table_is)
      (rows-filled d rest s bs (binding_rows outer) (length outer) 0 (rows-count outer) due
      ∙ sym (append_assoc (binding_rows outer) (binding_rows (filled_bindings d s 0 bs)) rest)
      ∙ ap (λ (l : List ℕ). l ++ rest) (sym (rows_join outer (filled_bindings d s 0 bs))))

-- ---- rows laid in a table that has room, and a table cut after its rows

pub filled-count : (d s : List ℕ) (bs : List Binding) (p : ℕ) → length (filled_bindings d s p bs) ≡ length bs
unfolding filled_bindings
filled-count d s [] p = refl
filled-count d s (b ∷ bs) p = ap suc (filled-count d s bs (p + word_at s p))

-- rows from the start on, and rows after them
pub rows-laid : (t : List ℕ) (outer bs : List Binding) → (length outer + length bs) * 10 ≤ length t →
    sets (sets t 0 (binding_rows outer)) (length outer * 10) (binding_rows bs)
    ≡ binding_rows (outer ++ bs) ++ drop ((length outer + length bs) * 10) t
rows-laid t outer bs h =
    let r = binding_rows outer in
    let l = binding_rows bs in
    let m = rows-count outer in
    let n = rows-count bs in
    let e : sets t 0 r ≡ r ++ drop (0 + length r) t = sets-eq r t 0 (omega (arith, m, h)) in
    let z : 0 + length r + length l ≡ (length outer + length bs) * 10 = omega (arith, m, n) in
    let y : length outer * 10 + length l ≡ length r + length l = omega (arith, m) in
    let front : take (length outer * 10) (sets t 0 r) ≡ r =
    ap (take (length outer * 10)) e ∙ take_at r (drop (0 + length r) t) (length outer * 10) m in
    let back : drop (length outer * 10 + length l) (sets t 0 r) ≡ drop ((length outer + length bs) * 10) t =
    ap₂ drop y e ∙ drop-append-add r (drop (0 + length r) t) (length l) ∙ drop-drop (length l) (0 + length r) t
    ∙ ap (λ (k : ℕ). drop k t) z in
    sets-eq l (sets t 0 r) (length outer * 10) (omega (arith, n, h, length-sets t 0 r))
    ∙ ap₂ (λ (u v : List ℕ). (u ++ l) ++ v) front back
    ∙ ap (λ (u : List ℕ). u ++ drop ((length outer + length bs) * 10) t) (sym (rows_join outer bs))

pub rows_cut : (bs : List Binding) (rest : List ℕ) (n : ℕ) → n ≡ length bs → take (n * 10) (binding_rows bs ++ rest) ≡ binding_rows bs
rows_cut bs rest n e = let m = rows-count bs in take_at (binding_rows bs) rest (n * 10) (omega (arith, m, e))

-- the contexts in scope laid from the start of a table, and the any and unique codes after them
module _ (d t : List ℕ) (outer bs : List Binding) (to : ℕ) (count : to ≡ length outer + length bs) (few : to ≤ max_contexts)
    (room : to * 10 ≤ length t) where
  abbrev pub laid : List ℕ
  laid = sets (sets t 0 (binding_rows outer)) (length outer * 10) (binding_rows bs)

  laid-is : laid ≡ binding_rows (outer ++ bs) ++ drop ((length outer + length bs) * 10) t
  laid-is = rows-laid t outer bs (omega (arith, room, count))

  pub laid-relations : row_relations d laid (min to max_contexts - length outer) (length outer) ≡ relations_of d bs
  laid-relations = table-relations d outer bs to count few (drop ((length outer + length bs) * 10) t) laid laid-is

  -- with their runs, where these are as due, and cut after the last row
  pub laid_filled : (s : List ℕ) → runs (relations_of d bs) s 0 ≡ as_due →
      take (to * 10) (filled d s (min to max_contexts - length outer) (length outer) 0 laid) ≡ binding_rows (outer ++ filled_bindings d s 0 bs)
  laid_filled s due =
      let all = outer ++ filled_bindings d s 0 bs in
      let rest = drop ((length outer + length bs) * 10) t in
      let n : to ≡ length all =
      count ∙ ap (λ (k : ℕ). length outer + k) (sym (filled-count d s bs 0)) ∙ sym (length-append outer (filled_bindings d s 0 bs)) in
      ap (take (to * 10)) (table_filled d outer bs to count few rest laid laid-is s due) ∙ rows_cut all rest to n

-- ---- the answer

pub as-due : (x : Run) → Ok tt ≡ run_answer x → x ≡ as_due
as-due as_due e = refl
as-due (wrong_at p) e = absurd (let z : ◌≡◌ {A = ℕ} 0 1 = cc in omega (arith, z))

-- where the runs of the table's rows are found as due, it is that of the bindings with their runs
pub checked-table : (d s : List ℕ) (outer bs : List Binding) (to : ℕ) → to ≡ length outer + length bs → to ≤ max_contexts →
    (rest t t' : List ℕ) → t ≡ binding_rows (outer ++ bs) ++ rest → (r : Result (Unit {0}) ℕ) →
    Checked d s (min to max_contexts - length outer) (length outer) t t' r → r ≡ Ok tt →
    (runs (relations_of d bs) s 0 ≡ as_due) × (t' ≡ binding_rows (outer ++ filled_bindings d s 0 bs) ++ rest)
checked-table d s outer bs to count few rest t t' is r checked e =
    let same = table-relations d outer bs to count few rest t is in
    let due : runs (relations_of d bs) s 0 ≡ as_due = as-due (runs (relations_of d bs) s 0)
    (sym e ∙ checked.answer ∙ ap (λ (rs : List Relation). run_answer (runs rs s 0)) same) in
    (due, checked.table_filled ∙ table_filled d outer bs to count few rest t is s due)
