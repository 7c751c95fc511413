-- A table that holds rows of bindings and then nothing: its spans, and its rows with the kinds of their numbers. Assumes nothing.
use Prim.Native.Nat.{ℕ, zero, suc, ◌+◌, ◌*◌, ◌-◌, ◌/◌, ◌≤◌}
use mathlib.Core.Path.{◌≡◌, refl, sym, ap, ap₂, ◌∙◌}
use mathlib.Core.Bool.{Bool, true, false, cond}
use mathlib.Core.List.{List, [], ◌∷◌, ◌++◌, map, append_assoc}
use native.Mathlib.Omega.{arith}
use lib.ListN.{length, get_or, set, length-append, length-map}
use lib.Seq.{get_or-append-add}
use Rattle.wire.specs.Limits.{max_depth}
use Rattle.wire.specs.Words.{byte_at}
use Rattle.wire.specs.Classes.{value_class}
use Rattle.surroundings.specs.Bindings.{Binding, binding_row, binding_rows, binding_code, bindings_from, cell, rows_in}
use Rattle.surroundings.proofs.BindingRows.{rows-count, rows-read}
use Rattle.runs.proofs.FilledLaws.{set_after}
use Rattle.sights.specs.Seen.{with_kind}
use Rattle.kinds.specs.Spans.{Span, span_of, span_at, spans_from, spans_in}
use Rattle.kinds.specs.KindAt.{kind_at, kind_number, takes_number, row_noted, kinds_noted}
use Rattle.kinds.proofs.Starts.{Outer}
use Rattle.kinds.proofs.Columns.{spans-alike, row-alike}

-- no row stands from a row on
abbrev pub Bare : List ℕ → ℕ → Type 0
Bare t row = (r : ℕ) → row ≤ r → cell t r binding_code ≡ 0

-- a table has nothing after its rows
pub bare-after : (bs : List Binding) (rest : List ℕ) (n : ℕ) → n ≡ length bs → ((i : ℕ) → get_or rest i 0 ≡ 0) → Bare (binding_rows bs ++ rest) n
bare-after bs rest n e none r h =
    let m = rows-count bs in
    let z : r * 10 + 0 ≡ length (binding_rows bs) + (r - length bs) * 10 = omega (arith, m, e, h) in
    ap (λ (j : ℕ). get_or (binding_rows bs ++ rest) j 0) z
    ∙ get_or-append-add (binding_rows bs) rest ((r - length bs) * 10) 0 ∙ none ((r - length bs) * 10)

-- how many rows it has room for
pub room-is : (bs : List Binding) (rest : List ℕ) → rows_in (binding_rows bs ++ rest) ≡ length bs + length rest / 10
room-is bs rest =
    let m = rows-count bs in
    let l = length-append (binding_rows bs) rest in
    omega (arith, m, l)

-- ---- spans

module _ (t : List ℕ) where
  spans-rows : (n row : ℕ) → spans_from t n row ≡ map span_of (bindings_from t n row)
  unfolding spans_from bindings_from
  spans-rows zero row = refl
  spans-rows (suc n) row = ap (λ (l : List Span). span_at t row ∷ l) (spans-rows n (row + 1))

  spans-two : (n m row : ℕ) → spans_from t (n + m) row ≡ spans_from t n row ++ spans_from t m (row + n)
  unfolding spans_from
  spans-two zero m row =
      let a : 0 + m ≡ m = omega arith in
      let b : row ≡ row + 0 = omega arith in
      ap₂ (spans_from t) a b
  spans-two (suc n) m row =
      let a : suc n + m ≡ suc (n + m) = omega arith in
      let b : row + 1 + n ≡ row + suc n = omega arith in
      ap (λ (k : ℕ). spans_from t k row) a
      ∙ ap (λ (l : List Span). span_at t row ∷ l) (spans-two n m (row + 1) ∙ ap (λ (k : ℕ). spans_from t n (row + 1) ++ spans_from t m k) b)

  spans-bare : (n row : ℕ) → Bare t row → Outer (spans_from t n row)
  unfolding spans_from
  spans-bare zero row h = tt
  spans-bare (suc n) row h = (h row (omega arith), spans-bare n (row + 1) (λ r i. h r (omega (arith, i))))

-- the spans of rows, and those of what has room after them
pub spans-are : (bs : List Binding) (rest : List ℕ) → ((i : ℕ) → get_or rest i 0 ≡ 0) →
    (more : List Span) × Outer more × (spans_in (binding_rows bs ++ rest) ≡ map span_of bs ++ more)
spans-are bs rest none =
    let t = binding_rows bs ++ rest in
    let n = length bs in
    let z : 0 + n ≡ n = omega arith in (
      spans_from t (length rest / 10) (0 + n),
      spans-bare t (length rest / 10) (0 + n) (bare-after bs rest (0 + n) z none),
      ap (λ (k : ℕ). spans_from t k 0) (room-is bs rest) ∙ spans-two t n (length rest / 10) 0
          ∙ ap (λ (l : List Span). l ++ spans_from t (length rest / 10) (0 + n)) (spans-rows t n 0 ∙ ap (map span_of) (rows-read t bs 0 rest refl)),
    )

-- ---- rows with the kinds of their numbers

module _ (d ps : List ℕ) (count : ℕ) (s : List ℕ) where
  -- a binding with the kind of its number, among spans
  abbrev pub noted : List Span → Binding → Binding
  noted xs b =
      cond (takes_number (value_class (byte_at s b.code))) (with_kind b (kind_number (kind_at d ps count xs max_depth s b.after).kind)) b

  module _ (before : List ℕ) (row : ℕ) (long : length before ≡ row * 10) (b : Binding) (rest : List ℕ) where
    abbrev table : List ℕ
    table = before ++ (binding_row b ++ rest)

    row-cell : (k : ℕ) → cell table row k ≡ get_or (binding_row b ++ rest) k 0
    row-cell k =
        let n : row * 10 + k ≡ length before + k = omega (arith, long) in
        ap (λ (j : ℕ). get_or table j 0) n ∙ get_or-append-add before (binding_row b ++ rest) k 0

    row-noted : row_noted d ps count s table row ≡ before ++ (binding_row (noted (spans_in table) b) ++ rest)
    unfolding row_noted
    row-noted =
        ap₂ (λ (c a : ℕ). cond (takes_number (value_class (byte_at s c)))
        (set table (row * 10 + 9) (kind_number (kind_at d ps count (spans_in table) max_depth s a).kind)) table) (row-cell 0) (row-cell 8)
        ∙ by (takes_number (value_class (byte_at s b.code))) (kind_number (kind_at d ps count (spans_in table) max_depth s b.after).kind)
      where
        by : (z : Bool) (k : ℕ) → cond z (set table (row * 10 + 9) k) table ≡ before ++ (binding_row (cond z (with_kind b k) b) ++ rest)
        by true k =
            let n : row * 10 + 9 ≡ length before + 9 = omega (arith, long) in
            ap (λ (j : ℕ). set table j k) n ∙ set_after before (binding_row b ++ rest) 9 k
        by false k = refl

    row-long : (c : Binding) → length (before ++ binding_row c) ≡ (row + 1) * 10
    row-long c = let k = length-append before (binding_row c) in omega (arith, k, long)

  rows-noted : (xs : List Span) (rest : List ℕ) (bs : List Binding) (before : List ℕ) (row : ℕ) → length before ≡ row * 10 →
      spans_in (before ++ (binding_rows bs ++ rest)) ≡ xs →
      kinds_noted d ps count s (length bs) row (before ++ (binding_rows bs ++ rest)) ≡ before ++ (binding_rows (map (noted xs) bs) ++ rest)
  unfolding kinds_noted binding_rows
  rows-noted xs rest [] before row h f = refl
  rows-noted xs rest (b ∷ bs) before row h f =
      let m = binding_rows bs ++ rest in
      let t = before ++ (binding_row b ++ m) in
      let c = noted xs b in
      let e : row_noted d ps count s t row ≡ (before ++ binding_row c) ++ m =
      row-noted before row h b m ∙ ap (λ (l : List Span). before ++ (binding_row (noted l b) ++ m)) f ∙ sym (append_assoc before (binding_row c) m) in
      let g : spans_in ((before ++ binding_row c) ++ m) ≡ xs =
      ap spans_in (sym e) ∙ spans-alike t (row_noted d ps count s t row) (row-alike d ps count s t row) ∙ f in
      ap (kinds_noted d ps count s (length bs) (row + 1)) e
      ∙ rows-noted xs rest bs (before ++ binding_row c) (row + 1) (row-long before row h b m c) g
      ∙ append_assoc before (binding_row c) (binding_rows (map (noted xs) bs) ++ rest)

  kinds-two : (n m row : ℕ) (t : List ℕ) → kinds_noted d ps count s (n + m) row t ≡ kinds_noted d ps count s m (row + n) (kinds_noted d ps count s n row t)
  unfolding kinds_noted
  kinds-two zero m row t =
      let a : 0 + m ≡ m = omega arith in
      let b : row ≡ row + 0 = omega arith in
      ap₂ (λ (i j : ℕ). kinds_noted d ps count s i j t) a b
  kinds-two (suc n) m row t =
      let a : suc n + m ≡ suc (n + m) = omega arith in
      let b : row + 1 + n ≡ row + suc n = omega arith in
      let u = row_noted d ps count s t row in
      ap (λ (k : ℕ). kinds_noted d ps count s k row t) a ∙ kinds-two n m (row + 1) u
      ∙ ap (λ (k : ℕ). kinds_noted d ps count s m k (kinds_noted d ps count s n (row + 1) u)) b

  -- a row that is not there has the code at 0, where no statistic stands
  module _ (first : takes_number (value_class (byte_at s 0)) ≡ false) where
    none-noted : (n row : ℕ) (t : List ℕ) → Bare t row → kinds_noted d ps count s n row t ≡ t
    unfolding kinds_noted row_noted
    none-noted zero row t h = refl
    none-noted (suc n) row t h =
        let e : row_noted d ps count s t row ≡ t = rw (h row (omega arith), first) in
        ap (kinds_noted d ps count s n (row + 1)) e ∙ none-noted n (row + 1) t (λ r i. h r (omega (arith, i)))

    -- all rows of a table
    pub table-noted : (bs : List Binding) (rest : List ℕ) → ((i : ℕ) → get_or rest i 0 ≡ 0) →
        kinds_noted d ps count s (rows_in (binding_rows bs ++ rest)) 0 (binding_rows bs ++ rest)
        ≡ binding_rows (map (noted (spans_in (binding_rows bs ++ rest))) bs) ++ rest
    table-noted bs rest none =
        let t = binding_rows bs ++ rest in
        let n = length bs in
        let k = length rest / 10 in
        let cs = map (noted (spans_in t)) bs in
        let z : 0 + n ≡ length cs = let m = length-map bs (noted (spans_in t)) in omega (arith, m) in
        ap (λ (i : ℕ). kinds_noted d ps count s i 0 t) (room-is bs rest) ∙ kinds-two n k 0 t
        ∙ ap (kinds_noted d ps count s k (0 + n)) (rows-noted (spans_in t) rest bs [] 0 refl refl)
        ∙ none-noted k (0 + n) (binding_rows cs ++ rest) (bare-after cs rest (0 + n) z none)

    -- rows of contexts in scope stay as they are
    pub outer-noted : (xs : List Span) (bs : List Binding) → Outer (map span_of bs) → map (noted xs) bs ≡ bs
    outer-noted xs [] o = refl
    outer-noted xs (b ∷ bs) o =
        ap₂ (λ (c : Binding) (l : List Binding). c ∷ l) (rw (o.0, first)) (outer-noted xs bs o.1)
