-- Rows that get their runs.
use Rattle.std.specs.Prelude.{ℕ, zero, suc, ◌+◌, ◌*◌, ◌≡◌, cond, List, [], ◌∷◌, map, set, Result}
use Rattle.wire.specs.Words.{word_at}
use Rattle.wire.specs.Entries.{entry_body}
use Rattle.dictionary.specs.Dictionary.{Relation}
use Rattle.dictionary.specs.Internal.Walk.{relation_at}
use Rattle.records.specs.Runs.{records_held, proper_run, runs}
use Rattle.records.specs.Internal.Answers.{run_answer}
use Rattle.surroundings.specs.Bindings.{Binding, cell, binding_row_numbers, binding_relation, binding_first, binding_count}

-- the relation of a row
abbrev pub relation_of_row : List ℕ → List ℕ → ℕ → Relation
relation_of_row d t row = relation_at d (cell t row binding_relation)

-- those of n rows from a row on
unfoldable pub row_relations : List ℕ → List ℕ → ℕ → ℕ → List Relation
row_relations d t zero row = []
row_relations d t (suc n) row = relation_of_row d t row ∷ row_relations d t n (row + 1)

-- the table with the first record and the count of a row's run
abbrev pub with_run : List ℕ → ℕ → ℕ → ℕ → List ℕ
with_run t row p n = set (set t (row * binding_row_numbers + binding_first) p) (row * binding_row_numbers + binding_count) n

-- the table after n rows from a row on, whose runs stand from p on; from a run that is not proper on nothing is written
unfoldable pub filled : List ℕ → List ℕ → ℕ → ℕ → ℕ → List ℕ → List ℕ
filled d s zero row p t = t
filled d s (suc n) row p t =
    cond (proper_run (relation_of_row d t row) s p)
    (filled d s n (row + 1) (p + word_at s p) (with_run t row (p + entry_body) (records_held (relation_of_row d t row) (word_at s p)))) t

-- the answer for the runs of n rows from a row on, and the table before and after
pub record Checked (d s : List ℕ) (n row : ℕ) (t t' : List ℕ) (r : Result (Unit {0}) ℕ) : Type 0 where
  pub answer : r ≡ run_answer (runs (row_relations d t n row) s 0)
  pub table_filled : t' ≡ filled d s n row 0 t

-- ---- rows as bindings

-- the relations of bindings
abbrev pub relations_of : List ℕ → List Binding → List Relation
relations_of d bs = map (λ b. relation_at d b.relation) bs

-- a binding with its run
abbrev pub with_run_of : Binding → ℕ → ℕ → Binding
with_run_of b p n =
    record {
      code = b.code;
      number = b.number;
      relation = b.relation;
      record-place = b.record-place;
      such = b.such;
      end = b.end;
      first = p;
      count = n;
      after = b.after;
      kind = b.kind;
    }

-- bindings whose runs stand one after another from p on, with the first record and the count of each
unfoldable pub filled_bindings : List ℕ → List ℕ → ℕ → List Binding → List Binding
filled_bindings d s p [] = []
filled_bindings d s p (b ∷ bs) =
    with_run_of b (p + entry_body) (records_held (relation_at d b.relation) (word_at s p)) ∷ filled_bindings d s (p + word_at s p) bs
