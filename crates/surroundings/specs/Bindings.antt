-- The contexts of a condition or a from-value as its walk sees them, in a table of numbers, a row each: those in scope there, each with its
-- record, then those of its any, unique and statistic codes, each with its run and, while a record of the run is in turn, with that record.
use Rattle.std.specs.Prelude.{ℕ, zero, suc, ◌+◌, ◌*◌, ◌/◌, ◌-◌, Bool, true, false, cond, ◌&&◌, ◌||◌, not, List, [], ◌∷◌, ◌++◌, map, eqb, leb, length, get_or, set, pos, neg_ℤ}
use Rattle.std.proofs.Math.Option
use Rattle.std.proofs.Math.Option.{Option, none, some}
use Rattle.wire.specs.Words.{word_at}
use Rattle.dictionary.specs.Naming.{Name}
use Rattle.grammar.specs.declared.Kind.{Kind}
use Rattle.grammar.specs.declared.Kind.TheVariants.{Number, Text, Date}
use Rattle.grammar.specs.Tree.{Reference, field, parameter, parameter2}
use Rattle.meaning.specs.Inputs.{Fetched, on_found, flagged, unless_flagged}
use Rattle.walking.specs.Walk.{Over, Sight}
use Rattle.surroundings.specs.Parameters.{parameter_from}
use Rattle.surroundings.specs.Slots.{Slot}
use Rattle.surroundings.specs.Around.{slot_field, row_value}

-- ---- the table

abbrev pub binding_row_numbers : ℕ
binding_row_numbers = 10

-- the place of its any, unique or statistic code; 0 for a context in scope
abbrev pub binding_code : ℕ
binding_code = 0

abbrev pub binding_number : ℕ
binding_number = 1

-- where its relation's entry stands in the dictionary
abbrev pub binding_relation : ℕ
binding_relation = 2

-- where its record stands: among the records, or for a context with a run in the runs; there 0 says that no record is in turn
abbrev pub binding_record : ℕ
binding_record = 3

-- the place of its rse's condition, 0 where it has none; and the place after all of it: the rse, and the number that a statistic has
abbrev pub binding_such : ℕ
binding_such = 4

abbrev pub binding_end : ℕ
binding_end = 5

-- where the first record of its run stands, and how many it has
abbrev pub binding_first : ℕ
binding_first = 6

abbrev pub binding_count : ℕ
binding_count = 7

-- the place after its rse, where a statistic's number stands; and the kind of that number, 0 for what has none
abbrev pub binding_after : ℕ
binding_after = 8

abbrev pub binding_kind : ℕ
binding_kind = 9

-- the kind that a number says: 0 none, 1 and on a number of scale 0 and on down to -18, 20 text, 21 date
abbrev pub number_kinds : ℕ
number_kinds = 19

abbrev pub text_kind : ℕ
text_kind = 20

abbrev pub date_kind : ℕ
date_kind = 21

unfoldable pub kind_if : ℕ → Option Kind
kind_if k =
    cond (eqb k 0) none
    (cond (leb k number_kinds) (some (Number (neg_ℤ (pos (k - 1)))))
    (cond (eqb k text_kind) (some Text) (cond (eqb k date_kind) (some Date) none)))

pub record Binding : Type 0 where
  pub code : ℕ
  pub number : ℕ
  pub relation : ℕ
  pub record-place : ℕ
  pub such : ℕ
  pub end : ℕ
  pub first : ℕ
  pub count : ℕ
  pub after : ℕ
  pub kind : ℕ

-- a binding as the numbers of its row, and bindings as those of their rows
abbrev pub binding_row : Binding → List ℕ
binding_row b =
    b.code ∷ b.number ∷ b.relation ∷ b.record-place ∷ b.such ∷ b.end ∷ b.first ∷ b.count ∷ b.after ∷ b.kind ∷ []

unfoldable pub binding_rows : List Binding → List ℕ
binding_rows [] = []
binding_rows (b ∷ bs) = binding_row b ++ binding_rows bs

-- a context in scope, with the place of its record
abbrev pub context_binding : ℕ → ℕ → ℕ → Binding
context_binding number relation p =
    record {
      code = 0;
      number = number;
      relation = relation;
      record-place = p;
      such = 0;
      end = 0;
      first = 0;
      count = 0;
      after = 0;
      kind = 0;
    }

-- contexts in scope, whose records stand from p on, one after another by their length words
unfoldable pub bound_contexts : List Slot → List ℕ → ℕ → List Binding
bound_contexts [] records p = []
bound_contexts (x ∷ xs) records p = context_binding x.number x.relation p ∷ bound_contexts xs records (p + word_at records p)

-- number k of a row
abbrev pub cell : List ℕ → ℕ → ℕ → ℕ
cell t row k = get_or t (row * binding_row_numbers + k) 0

-- the n bindings that a table holds from a row on, and all of them
unfoldable pub bindings_from : List ℕ → ℕ → ℕ → List Binding
bindings_from t zero row = []
bindings_from t (suc n) row =
    record {
      code = cell t row binding_code;
      number = cell t row binding_number;
      relation = cell t row binding_relation;
      record-place = cell t row binding_record;
      such = cell t row binding_such;
      end = cell t row binding_end;
      first = cell t row binding_first;
      count = cell t row binding_count;
      after = cell t row binding_after;
      kind = cell t row binding_kind;
    } ∷ bindings_from t n (row + 1)

abbrev pub rows_in : List ℕ → ℕ
rows_in t = length t / binding_row_numbers

-- ---- what a reference gives

-- whether a row's context has that number, and a record
abbrev pub binds_at : List ℕ → ℕ → ℕ → Bool
binds_at t c row = eqb (cell t row binding_number) c && (eqb (cell t row binding_code) 0 || not (eqb (cell t row binding_record) 0))

-- the first of n rows, from a row on, that binds a number
unfoldable pub row_binding : List ℕ → ℕ → ℕ → ℕ → Option ℕ
row_binding t c zero row = none
row_binding t c (suc n) row = cond (binds_at t c row) (some row) (row_binding t c n (row + 1))

-- the bytes that hold a row's record
abbrev pub bytes_bound : List ℕ → ℕ → List ℕ → List ℕ → List ℕ
bytes_bound t row records runs = cond (eqb (cell t row binding_code) 0) records runs

-- the field that a name says, of the context of a number
unfoldable pub bound_value : List ℕ → List ℕ → List ℕ → List ℕ → ℕ → Name → Fetched
bound_value d t records runs c n =
    on_found (row_binding t c (rows_in t) 0)
    (λ row. slot_field d (bytes_bound t row records runs) n (cell t row binding_relation) (cell t row binding_record))

-- dictionary, parameter table and its rows, images, records, runs: what a reference gives by a table of bindings
unfoldable pub bound_around : List ℕ → List ℕ → ℕ → List ℕ → List ℕ → List ℕ → List ℕ → Reference → Fetched
bound_around d parameters count images records runs t (field c n) = bound_value d t records runs c n
bound_around d parameters count images records runs t (parameter m i) = row_value parameters count images m i
bound_around d parameters count images records runs t (parameter2 m i flag) =
    on_found (parameter_from parameters m i count 0 0)
    (λ x. flagged (row_value parameters count images m flag) (unless_flagged x.0 images x.1))

-- ---- the run of an any, a unique or a statistic

-- the first of n rows, from a row on, whose code stands at p
unfoldable pub row_coded : List ℕ → ℕ → ℕ → ℕ → Option ℕ
row_coded t p zero row = none
row_coded t p (suc n) row = cond (eqb (cell t row binding_code) p) (some row) (row_coded t p n (row + 1))

-- the places of n records, one after another by their length words
unfoldable pub record_places : List ℕ → ℕ → ℕ → List ℕ
record_places runs zero p = []
record_places runs (suc n) p = p ∷ record_places runs n (p + word_at runs p)

-- a place that is there, where 0 says that it is not
abbrev pub place_if : ℕ → Option ℕ
place_if p = cond (eqb p 0) none (some p)

-- the table with the record at a place in turn, for a row
abbrev pub with_record : List ℕ → ℕ → ℕ → List ℕ
with_record t row p = set t (row * binding_row_numbers + binding_record) p

-- the run of a row
unfoldable pub run_of : List ℕ → List ℕ → ℕ → Over (List ℕ)
run_of runs t row =
    record {
      such = place_if (cell t row binding_such);
      number = cell t row binding_after;
      end = cell t row binding_end;
      kind = kind_if (cell t row binding_kind);
      each = map (with_record t row) (record_places runs (cell t row binding_count) (cell t row binding_first));
    }

-- what is seen by a table of bindings
unfoldable pub bound_sight : List ℕ → List ℕ → ℕ → List ℕ → List ℕ → List ℕ → Sight (List ℕ)
bound_sight d parameters count images records runs =
    record {
      fetch = bound_around d parameters count images records runs;
      over = λ t p. Option.map (run_of runs t) (row_coded t p (rows_in t) 0);
    }
