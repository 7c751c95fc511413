-- What the noted table holds: the kind of each statistic's number, and all else as it was. Assumes nothing.
use Prim.Native.Nat.{ℕ, zero, suc, ◌+◌, ◌*◌, ◌-◌, ◌/◌, ◌<◌, ◌≤◌}
use mathlib.Core.Path.{◌≡◌, refl, sym, ap, ap₂, subst, ◌∙◌}
use mathlib.Core.Bool.{Bool, true, false, cond, ◌&&◌}
use mathlib.Core.List.{List, [], ◌∷◌}
use mathlib.Core.Option.{Option, none, some}
use native.Mathlib.Omega.{arith}
use lib.Dec.{eqb, leb}
use lib.IntN.{ℤ, pos, negsuc, neg_ℤ}
use lib.ListN.{length, set, length-set}
use lib.Seq.{get_or-set_same, get_or-set_other}
use lib.Signed.{le_z}
use borrow.Author.Tests.{eqb-true, eqb-false, leb-true, le-leb, ne_eqb}
use Rattle.wire.specs.Limits.{max_depth}
use Rattle.wire.specs.Words.{byte_at}
use Rattle.wire.specs.Classes.{value_class}
use Rattle.grammar.specs.declared.Kind.TheVariants as Kind
use Rattle.surroundings.specs.Bindings.{binding_row_numbers, binding_code, binding_after, binding_kind, cell, rows_in, kind_if}
use Rattle.kinds.specs.Spans.{Span, span_at, spans_from, spans_in}
use Rattle.kinds.specs.KindAt.{kind_at, scale_number, kind_number, takes_number, row_noted, kinds_noted}

-- the same table, but for the kinds
pub record Alike (t u : List ℕ) : Type 0 where
  pub sized : length u ≡ length t
  pub cells : (row k : ℕ) → k < binding_row_numbers → (k ≡ binding_kind → ⊥) → cell u row k ≡ cell t row k

alike_self : (t : List ℕ) → Alike t t
alike_self t = record { sized = refl; cells = λ row k h z. refl }

alike_then : (t u w : List ℕ) → Alike t u → Alike u w → Alike t w
alike_then t u w a b = record { sized = b.sized ∙ a.sized; cells = λ row k h z. b.cells row k h z ∙ a.cells row k h z }

module _ (t : List ℕ) (row n : ℕ) where
  one_alike : Alike t (set t (row * 10 + 9) n)
  one_alike =
      record {
        sized = length-set t (row * 10 + 9) n;
        cells = λ r k h z. get_or-set_other t (row * 10 + 9) (r * 10 + k) n 0 (λ e. z (omega (arith, e, h)));
      }

  other_row : (r : ℕ) → (r ≡ row → ⊥) → cell (set t (row * 10 + 9) n) r binding_kind ≡ cell t r binding_kind
  other_row r z = get_or-set_other t (row * 10 + 9) (r * 10 + 9) n 0 (λ e. z (omega (arith, e)))

-- ---- the spans are the same

module _ (t u : List ℕ) (a : Alike t u) where
  span-alike : (row : ℕ) → span_at u row ≡ span_at t row
  span-alike row =
      rw (
        a.cells row 0 (omega arith) (λ e. absurd (omega (arith, e))),
        a.cells row 1 (omega arith) (λ e. absurd (omega (arith, e))),
        a.cells row 2 (omega arith) (λ e. absurd (omega (arith, e))),
        a.cells row 8 (omega arith) (λ e. absurd (omega (arith, e))),
        a.cells row 5 (omega arith) (λ e. absurd (omega (arith, e))),
      )

  spans-from : (n row : ℕ) → spans_from u n row ≡ spans_from t n row
  unfolding spans_from
  spans-from zero row = refl
  spans-from (suc n) row = ap₂ (λ (x : Span) xs. x ∷ xs) (span-alike row) (spans-from n (row + 1))

  pub spans-alike : spans_in u ≡ spans_in t
  spans-alike = ap (λ n. spans_from u (n / 10) 0) a.sized ∙ spans-from (rows_in t) 0

-- ---- the noted table

module _ (d ps : List ℕ) (rows : ℕ) (s : List ℕ) where
  abbrev takes : List ℕ → ℕ → Bool
  takes t row = takes_number (value_class (byte_at s (cell t row binding_code)))

  abbrev kind_due : List ℕ → ℕ → ℕ
  kind_due t row = kind_number (kind_at d ps rows (spans_in t) max_depth s (cell t row binding_after)).kind

  pub row-alike : (t : List ℕ) (row : ℕ) → Alike t (row_noted d ps rows s t row)
  unfolding row_noted
  row-alike t row = by (takes t row)
    where
      by : (b : Bool) → Alike t (cond b (set t (row * 10 + 9) (kind_due t row)) t)
      by true = one_alike t row (kind_due t row)
      by false = alike_self t

  row_other : (t : List ℕ) (row r : ℕ) → (r ≡ row → ⊥) → cell (row_noted d ps rows s t row) r binding_kind ≡ cell t r binding_kind
  unfolding row_noted
  row_other t row r z = by (takes t row)
    where
      by : (b : Bool) → cell (cond b (set t (row * 10 + 9) (kind_due t row)) t) r binding_kind ≡ cell t r binding_kind
      by true = other_row t row (kind_due t row) r z
      by false = refl

  row_here : (t : List ℕ) (row : ℕ) → takes t row ≡ true → row * 10 + 10 ≤ length t → cell (row_noted d ps rows s t row) row binding_kind ≡ kind_due t row
  unfolding row_noted
  row_here t row e h = rw e (get_or-set_same t (row * 10 + 9) (kind_due t row) 0 (omega (arith, h)))

  -- all but the kinds is as it was
  pub kinds-alike : (n row : ℕ) (t : List ℕ) → Alike t (kinds_noted d ps rows s n row t)
  unfolding kinds_noted
  kinds-alike zero row t = alike_self t
  kinds-alike (suc n) row t =
      alike_then t (row_noted d ps rows s t row) _ (row-alike t row) (kinds-alike n (row + 1) (row_noted d ps rows s t row))

  -- rows before are as they were
  kinds-before : (n row : ℕ) (t : List ℕ) (r : ℕ) → r < row → cell (kinds_noted d ps rows s n row t) r binding_kind ≡ cell t r binding_kind
  unfolding kinds_noted
  kinds-before zero row t r h = refl
  kinds-before (suc n) row t r h =
      kinds-before n (row + 1) (row_noted d ps rows s t row) r (omega (arith, h)) ∙ row_other t row r (λ e. absurd (omega (arith, e, h)))

  -- the row of a statistic has the kind of its number
  pub kinds-noted : (n row : ℕ) (t : List ℕ) (r : ℕ) → row ≤ r → r < row + n → r * 10 + 10 ≤ length t → takes t r ≡ true →
      cell (kinds_noted d ps rows s n row t) r binding_kind ≡ kind_due t r
  unfolding kinds_noted
  kinds-noted zero row t r h i j e = absurd (omega (arith, h, i))
  kinds-noted (suc n) row t r h i j e = by (eqb r row) refl (kinds-noted n (row + 1) (row_noted d ps rows s t row) r)
    where
      by : (b : Bool) → eqb r row ≡ b →
          (row + 1 ≤ r → r < row + 1 + n → r * 10 + 10 ≤ length (row_noted d ps rows s t row) → takes (row_noted d ps rows s t row) r ≡ true →
          cell (kinds_noted d ps rows s n (row + 1) (row_noted d ps rows s t row)) r binding_kind ≡ kind_due (row_noted d ps rows s t row) r) →
          cell (kinds_noted d ps rows s n (row + 1) (row_noted d ps rows s t row)) r binding_kind ≡ kind_due t r
      by true f next =
          let z = eqb-true r row f in
          kinds-before n (row + 1) (row_noted d ps rows s t row) r (omega (arith, z))
          ∙ subst (λ x. cell (row_noted d ps rows s t row) x binding_kind ≡ kind_due t x) (sym z)
          (row_here t row (subst (λ x. takes t x ≡ true) z e) (omega (arith, z, j)))
      by false f next =
          let z : r ≡ row → ⊥ = eqb-false r row f in
          let a = row-alike t row in
          let l = a.sized in
          let c0 = a.cells r 0 (omega arith) (λ q. absurd (omega (arith, q))) in
          let c8 = a.cells r 8 (omega arith) (λ q. absurd (omega (arith, q))) in
          next (omega (arith, h, z)) (omega (arith, i)) (omega (arith, l, j)) (ap (λ x. takes_number (value_class (byte_at s x))) c0 ∙ e)
          ∙ ap₂ (λ xs x. kind_number (kind_at d ps rows xs max_depth s x).kind) (spans-alike t (row_noted d ps rows s t row) a) c8

-- ---- a kind as a number, and back

-- numbers of a scale from -18 to 0
pub scale_back : (z : ℤ) → le_z (negsuc 17) z ≡ true → le_z z (pos 0) ≡ true → kind_if (kind_number (some (Kind.Number z))) ≡ some (Kind.Number z)
unfolding kind_if kind_number scale_number
scale_back (pos zero) e f = refl
scale_back (pos (suc n)) e f = absurd (let h = leb-true (suc n) 0 f in omega (arith, h))
scale_back (negsuc n) e f =
    let h : n ≤ 17 = leb-true n 17 e in
    let m : n + 2 ≡ suc (suc n) = omega arith in
    let j : suc (suc n) - 1 ≡ suc n = omega arith in
    let i : suc (suc n) ≤ 19 = omega (arith, h) in
    rw (le-leb n 17 h, m, ne_eqb (suc (suc n)) 0 (λ q. absurd (omega (arith, q))), le-leb (suc (suc n)) 19 i, j)
