-- A law for each return of the code. Assumes nothing.
use Prim.Native.Nat.{ℕ, zero, suc, ◌+◌, ◌*◌, ◌-◌, ◌<◌, ◌≤◌}
use mathlib.Core.Path.{◌≡◌, refl, sym, ap, ap₂, ◌∙◌}
use mathlib.Core.Bool.{Bool, true, false, cond, ◌&&◌, ◌||◌}
use mathlib.Core.List.{List, [], ◌∷◌}
use mathlib.Core.Option.{Option, none, some, map}
use native.Mathlib.Omega.{arith}
use lib.Dec.{eqb, ltb, leb}
use lib.IntN.{ℤ, pos, negsuc, neg_ℤ}
use lib.ListN.{length, get_elem?}
use lib.Signed.{lt_z}
use borrow.Author.Tests.{ltb-true, ltb-false, lt-ltb, le-ltb, le-leb, lt-leb, eq-eqb, ne_eqb}
use Rattle.std.specs.Prelude.{Option as Maybe, Some, None}
use Rattle.wire.specs.Options.{option_of}
use Rattle.wire.specs.Lists.{find, among, any_of, ◌and_then◌}
use Rattle.wire.proofs.Past.{past}
use Rattle.wire.specs.declared.codes.Version.{Version}
use Rattle.wire.specs.Words.{byte_at, word_at, signed}
use Rattle.wire.specs.Classes.{Class, due, left_out, foreign, literal_class, classify}
use Rattle.wire.specs.declared.codes.Width.{Width}
use Rattle.wire.specs.declared.codes.Width.TheVariants.{Short, Long, Int64}
use Rattle.wire.specs.declared.codes.ReferenceCode.TheVariants.{Field, Fid, Parameter2}
use Rattle.wire.specs.declared.codes.ReferenceCode.TheVariants as Reference
use Rattle.wire.specs.declared.codes.LiteralType.{LiteralType}
use Rattle.wire.specs.declared.codes.LiteralType.TheVariants.{NumberLiteral, TextLiteral}
use Rattle.dictionary.specs.Format.{width_bytes}
use Rattle.dictionary.specs.Dictionary.{name_at}
use Rattle.dictionary.specs.Naming.{named, numbered}
use Rattle.dictionary.specs.Internal.Walk.{relation_at, fields_of, has_name}
use Rattle.dictionary.proofs.FieldFormats.{entry_format, named-format, numbered-format}
use Rattle.grammar.specs.declared.Kind.{Kind}
use Rattle.grammar.specs.declared.Kind.TheVariants as Kind
use Rattle.grammar.specs.Kinds.{type_kind, format_kind, field_kind, flagged}
use Rattle.grammar.specs.Internal.Steps.{fit_of, kind_in}
use Rattle.grammar.proofs.StepLaws.{absurd-eq}
use Rattle.surroundings.specs.Bindings.{cell, rows_in, row_coded}
use Rattle.surroundings.proofs.BindingLoops.{bound_some, bound-none, coded-inside}
use Rattle.kinds.specs.Spans.{Span, span_at, spans_from, spans_in, holds, row_around, span_around, coded_at, span_coded}
use Rattle.kinds.specs.KindAt.{kinded, on_class, literal_under, literal_at, reference_at, kind_of_field, span_kind, row_kind, kind_given, scale_number}
use Rattle.kinds.specs.Promises.{entry_kind}

-- ---- kinds as the code has them

pub kind_fit : (o : Option Kind) → kind_in (fit_of o) ≡ o
kind_fit none = refl
kind_fit (some k) = refl

-- ---- a scale as a number

pub scale-above : (z : ℤ) → lt_z (pos 0) z ≡ true → scale_number z ≡ 0
unfolding scale_number
scale-above (pos zero) e = absurd-eq (cc)
scale-above (pos (suc n)) e = refl
scale-above (negsuc n) e = absurd-eq (cc)

pub scale-below : (z : ℤ) → lt_z z (negsuc 17) ≡ true → scale_number z ≡ 0
unfolding scale_number
scale-below (pos n) e = absurd-eq (cc)
scale-below (negsuc n) e = rw (lt-leb n 17 (ltb-true 17 n e))

pub scale-within : (z : ℤ) → lt_z (pos 0) z ≡ false → lt_z z (negsuc 17) ≡ false → (n : ℕ) × (neg_ℤ z ≡ pos n) × (n ≤ 18) × (1 + n ≡ scale_number z)
unfolding scale_number
scale-within (pos zero) e f = (0, refl, omega arith, refl)
scale-within (pos (suc n)) e f = absurd (let h = ltb-false 0 (suc n) e in omega (arith, h))
scale-within (negsuc n) e f =
    let h : n ≤ 17 = ltb-false 17 n f in
    (suc n, refl, omega (arith, h), rw (le-leb n 17 h) (omega arith))

-- ---- rows

module _ (t : List ℕ) (c p rows row : ℕ) where
  pub around_here : row < rows → holds c p (span_at t row) ≡ true → Some row ≡ option_of (row_around t c p (rows - row) row)
  unfolding row_around
  around_here h e = let m : rows - row ≡ suc (rows - (row + 1)) = omega arith in rw (m, row_around, e)

  pub around-next : row < rows → holds c p (span_at t row) ≡ false → row_around t c p (rows - row) row ≡ row_around t c p (rows - (row + 1)) (row + 1)
  unfolding row_around
  around-next h e = let m : rows - row ≡ suc (rows - (row + 1)) = omega arith in rw (m, row_around, e)

  pub around-end : rows ≤ row → None ≡ option_of (row_around t c p (rows - row) row)
  unfolding row_around
  around-end h = let m : rows - row ≡ 0 = omega arith in rw m

-- ---- literals

pub width_small : (w : Width) → width_bytes w ≤ 8
width_small Short = omega arith
width_small Long = omega arith
width_small Int64 = omega arith

module _ (s : List ℕ) (p : ℕ) where
  pub no_literal : length s ≤ p → kinded none p ≡ literal_at s p
  unfolding literal_at literal_class classify among any_of
  no_literal h = rw (← past s p h)

-- ---- from a row to its span

module _ (t : List ℕ) where
  pub around-span : (c p n row : ℕ) → map (span_at t) (row_around t c p n row) ≡ find (holds c p) (spans_from t n row)
  unfolding row_around spans_from find
  around-span c p zero row = refl
  around-span c p (suc n) row = by (holds c p (span_at t row)) (row_around t c p n (row + 1)) (around-span c p n (row + 1))
    where
      by : (b : Bool) (o : Option ℕ) → map (span_at t) o ≡ find (holds c p) (spans_from t n (row + 1)) →
          map (span_at t) (cond b (some row) o) ≡ cond b (some (span_at t row)) (find (holds c p) (spans_from t n (row + 1)))
      by true o e = refl
      by false o e = e

  pub coded-span : (p n row : ℕ) → map (span_at t) (row_coded t p n row) ≡ find (coded_at p) (spans_from t n row)
  unfolding row_coded spans_from find
  coded-span p zero row = refl
  coded-span p (suc n) row = by (eqb (cell t row 0) p) (row_coded t p n (row + 1)) (coded-span p n (row + 1))
    where
      by : (b : Bool) (o : Option ℕ) → map (span_at t) o ≡ find (coded_at p) (spans_from t n (row + 1)) →
          map (span_at t) (cond b (some row) o) ≡ cond b (some (span_at t row)) (find (coded_at p) (spans_from t n (row + 1)))
      by true o e = refl
      by false o e = e

  -- the span of a row that was found, or none
  module _ (p : ℕ) (r : Maybe ℕ) (e : r ≡ option_of (row_coded t p (rows_in t) 0)) where
    pub coded_some : {row : ℕ} → r ≡ Some row → span_coded (spans_in t) p ≡ some (span_at t row)
    coded_some {row} h = sym (coded-span p (rows_in t) 0) ∙ ap (map (span_at t)) (bound_some (row_coded t p (rows_in t) 0) row (sym h ∙ e))

    pub coded_row : {row : ℕ} → r ≡ Some row → row * 10 + 10 ≤ length t
    coded_row {row} h =
        let i = coded-inside t p (rows_in t) 0 row (bound_some (row_coded t p (rows_in t) 0) row (sym h ∙ e)) in
        omega (arith, i)

    pub coded_none : r ≡ None → span_coded (spans_in t) p ≡ none
    coded_none h = sym (coded-span p (rows_in t) 0) ∙ ap (map (span_at t)) (bound-none (row_coded t p (rows_in t) 0) (sym h ∙ e))

  around-inside : (c p n row k : ℕ) → row_around t c p n row ≡ some k → k < row + n
  unfolding row_around
  around-inside c p zero row k e = absurd-eq (cc)
  around-inside c p (suc n) row k e = by (holds c p (span_at t row)) e (around-inside c p n (row + 1) k)
    where
      by : (b : Bool) → cond b (some row) (row_around t c p n (row + 1)) ≡ some k → (row_around t c p n (row + 1) ≡ some k → k < row + 1 + n) →
          k < row + suc n
      by true h next = let z : row ≡ k = cc in omega (arith, z)
      by false h next = let z = next h in omega (arith, z)

  module _ (c p : ℕ) (r : Maybe ℕ) (e : r ≡ option_of (row_around t c p (rows_in t) 0)) where
    pub around_some : {row : ℕ} → r ≡ Some row → span_around (spans_in t) c p ≡ some (span_at t row)
    around_some {row} h = sym (around-span c p (rows_in t) 0) ∙ ap (map (span_at t)) (bound_some (row_around t c p (rows_in t) 0) row (sym h ∙ e))

    pub around_row : {row : ℕ} → r ≡ Some row → row * 10 + 10 ≤ length t
    around_row {row} h =
        let i = around-inside c p (rows_in t) 0 row (bound_some (row_around t c p (rows_in t) 0) row (sym h ∙ e)) in
        omega (arith, i)

    pub around_none : r ≡ None → span_around (spans_in t) c p ≡ none
    around_none h = sym (around-span c p (rows_in t) 0) ∙ ap (map (span_at t)) (bound-none (row_around t c p (rows_in t) 0) (sym h ∙ e))

-- ---- fields

-- the kind of a field by its entry
module _ (v : Version) (d : List ℕ) where
  entry-by : (o : Option ℕ) → entry_kind v d (option_of o) ≡ entry_format d o and_then field_kind v
  entry-by none = refl
  entry-by (some q) = refl

  pub named_is : (relation : ℕ) (n : List ℕ) (x : Maybe ℕ) → x ≡ option_of (find (has_name d n) (fields_of d relation)) →
      entry_kind v d x ≡ kind_of_field v (relation_at d relation) (named n)
  named_is relation n x e = ap (entry_kind v d) e ∙ entry-by (find (has_name d n) (fields_of d relation)) ∙ ap (λ o. o and_then field_kind v) (sym (named-format d n relation))

  pub numbered_is : (relation i : ℕ) (x : Maybe ℕ) → x ≡ option_of (get_elem? (fields_of d relation) i) →
      entry_kind v d x ≡ kind_of_field v (relation_at d relation) (numbered i)
  numbered_is relation i x e = ap (entry_kind v d) e ∙ entry-by (get_elem? (fields_of d relation) i) ∙ ap (λ o. o and_then field_kind v) (sym (numbered-format d relation i))
