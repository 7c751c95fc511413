-- The rows of bindings as the kinds of values need them: the contexts, and between which places each is in scope.
use Rattle.std.specs.Prelude.{ℕ, zero, suc, ◌+◌, Bool, cond, ◌&&◌, ◌||◌, List, [], ◌∷◌, eqb, ltb}
use Rattle.std.proofs.Math.Option.{Option, none, some}
use Rattle.wire.specs.Lists.{find}
use Rattle.surroundings.specs.Bindings.{Binding, cell, rows_in, binding_code, binding_number, binding_relation, binding_end, binding_after}

-- the place of a code, 0 for a context in scope at the condition; the number of its context; where the entry of its relation stands in the
-- dictionary; the place after the rse; and the place after all of it
pub record Span : Type 0 where
  pub code : ℕ
  pub number : ℕ
  pub relation : ℕ
  pub after : ℕ
  pub end : ℕ

abbrev pub span_of : Binding → Span
span_of b = record { code = b.code; number = b.number; relation = b.relation; after = b.after; end = b.end }

-- the span of a row
abbrev pub span_at : List ℕ → ℕ → Span
span_at t row =
    record {
      code = cell t row binding_code;
      number = cell t row binding_number;
      relation = cell t row binding_relation;
      after = cell t row binding_after;
      end = cell t row binding_end;
    }

-- the spans of n rows from a row on, and of all
unfoldable pub spans_from : List ℕ → ℕ → ℕ → List Span
spans_from t zero row = []
spans_from t (suc n) row = span_at t row ∷ spans_from t n (row + 1)

abbrev pub spans_in : List ℕ → List Span
spans_in t = spans_from t (rows_in t) 0

-- whether a context is in scope at a place: it is so at the condition, or the place stands after the code and before the end of it
abbrev pub covers : ℕ → Span → Bool
covers p x = eqb x.code 0 || (ltb x.code p && ltb p x.end)

-- and has a number
abbrev pub holds : ℕ → ℕ → Span → Bool
holds c p x = eqb x.number c && covers p x

-- the context of a number in scope at a place, and the span of the code at a place
abbrev pub span_around : List Span → ℕ → ℕ → Option Span
span_around xs c p = find (holds c p) xs

abbrev pub coded_at : ℕ → Span → Bool
coded_at p x = eqb x.code p

abbrev pub span_coded : List Span → ℕ → Option Span
span_coded xs p = find (coded_at p) xs

-- ---- by rows

-- the first of n rows, from a row on, whose context has a number and is in scope at a place
unfoldable pub row_around : List ℕ → ℕ → ℕ → ℕ → ℕ → Option ℕ
row_around t c p zero row = none
row_around t c p (suc n) row = cond (holds c p (span_at t row)) (some row) (row_around t c p n (row + 1))
