-- What a table of bindings has to hold, so that a walk sees by it what the meaning has around a condition or a from-value.
use Rattle.std.specs.Prelude.{ℕ, ◌+◌, ◌<◌, ◌≤◌, ◌≡◌, List, [], ◌∷◌, eqb, length, take, drop}
use Rattle.std.proofs.Math.Option.{Option, none, some}
use Rattle.std.proofs.Math.ListN.{get_elem?}
use Rattle.wire.specs.Lists.{find, index_of}
use Rattle.dictionary.specs.Dictionary.{Relation}
use Rattle.dictionary.specs.Naming.{relation_of}
use Rattle.dictionary.specs.Internal.Walk.{relation_at}
use Rattle.records.specs.Record.{record_length}
use Rattle.grammar.specs.Environment.{Context}
use Rattle.meaning.specs.Inputs.{record_place, parameter_at}
use Rattle.meaning.specs.Runs.{LentRun, Around}
use Rattle.walking.specs.Sees.{Pairs}
use Rattle.surroundings.specs.Parameters.{parameter_from}
use Rattle.surroundings.specs.Bindings.{Binding, binding_row_numbers, binding_number, binding_relation, binding_record, binding_such, binding_end, binding_first, binding_count, binding_after, binding_kind, kind_if, cell, rows_in, row_binding, bytes_bound, row_coded, record_places, place_if}
use Rattle.sights.specs.Sites.{Site}

-- ---- the contexts

-- the bytes of a record of a relation, at a place
abbrev pub record_at : Relation → List ℕ → ℕ → List ℕ
record_at r s p = take (record_length r) (drop p s)

-- a row has the relation of the k-th context and, in the records or the runs, the bytes that the meaning has for it in s
pub record SameRecord (d records runs t : List ℕ) (xs : List Context) (s : List ℕ) (row k : ℕ) : Type 0 where
  pub x : Context
  pub r : Relation
  pub context_is : get_elem? xs k ≡ some x
  pub relation_is : x.relation ≡ some r
  pub entry_is : relation_at d (cell t row binding_relation) ≡ r
  pub bytes : record_at r (bytes_bound t row records runs) (cell t row binding_record) ≡ record_at r s (record_place xs k)
  pub whole : record_place xs k + record_length r ≤ length s

-- the row that binds a number, and the context that has it; or neither
pub data Agree (d records runs t : List ℕ) (xs : List Context) (s : List ℕ) : Option ℕ → Option ℕ → Type 0 where
  neither : Agree d records runs t xs s none none
  both : (row k : ℕ) → SameRecord d records runs t xs s row k → Agree d records runs t xs s (some row) (some k)

-- every number is bound as the contexts have it, and the records of the contexts stand one after another
pub record Bound (d records runs t : List ℕ) (xs : List Context) (s : List ℕ) : Type 0 where
  pub agree : (c : ℕ) → Agree d records runs t xs s (row_binding t c (rows_in t) 0) (index_of (λ x. eqb x.number c) xs)
  pub sized : length s ≡ record_place xs (length xs)

-- a table of bindings and the rest that evaluation takes have what stands around a boolean or a value
pub record Seen (d parameters : List ℕ) (count : ℕ) (images records runs t : List ℕ) (a : Around) : Type 0 where
  pub bound : Bound d records runs t a.scope.contexts a.records
  pub parameters_are : (m i : ℕ) → parameter_from parameters m i count 0 0 ≡ parameter_at a.messages m i
  pub images_are : images ≡ a.images

-- ---- the runs

-- the table t is u, but for the records in turn
pub record Kept (u t : List ℕ) : Type 0 where
  pub sized : length t ≡ length u
  pub cells : (row k : ℕ) → k < binding_row_numbers → (k ≡ binding_record → ⊥) → cell t row k ≡ cell u row k

-- e is a record of a relation, at a place of the runs; no record stands at 0
abbrev pub Stands : Relation → List ℕ → ℕ → List ℕ → Type 0
Stands r runs p e = (0 < p) × (p + record_length r ≤ length runs) × (e ≡ record_at r runs p)

-- the row of an any, a unique or a statistic: its stream, the places of its rse's condition, after the rse and after all of it, the kind of
-- its number, and its run, record for record
pub record LaidRun (d runs u : List ℕ) (rs : List Relation) (lent : List LentRun) (z : Site) : Type 0 where
  pub row : ℕ
  pub r : Relation
  pub run : LentRun
  pub coded : 0 < z.place
  pub row_is : row_coded u z.place (rows_in u) 0 ≡ some row
  pub context_is : cell u row binding_number ≡ z.stream.context
  pub relation_is : relation_of rs z.stream.relation ≡ some r
  pub entry_is : relation_at d (cell u row binding_relation) ≡ r
  pub such_is : place_if (cell u row binding_such) ≡ z.condition
  pub after_is : cell u row binding_after ≡ z.after
  pub end_is : cell u row binding_end ≡ z.end
  pub kind_is : kind_if (cell u row binding_kind) ≡ z.kind
  pub run_is : find (λ x. eqb x.place z.place) lent ≡ some run
  pub records_are : Pairs (Stands r runs) (record_places runs (cell u row binding_count) (cell u row binding_first)) run.records

-- ---- the kinds

-- numbers that say the kinds of sites, one for one: 0 for an any, a unique and a count
abbrev pub Kinds : List ℕ → List Site → Type 0
Kinds ks zs = Pairs (λ (k : ℕ) (z : Site). kind_if k ≡ z.kind) ks zs

-- a row with the kind of its number
abbrev pub with_kind : Binding → ℕ → Binding
with_kind b k =
    record {
      code = b.code;
      number = b.number;
      relation = b.relation;
      record-place = b.record-place;
      such = b.such;
      end = b.end;
      first = b.first;
      count = b.count;
      after = b.after;
      kind = k;
    }

-- rows with the kinds of their numbers, one for one
unfoldable pub with_kinds : List Binding → List ℕ → List Binding
with_kinds [] ks = []
with_kinds (b ∷ bs) [] = []
with_kinds (b ∷ bs) (k ∷ ks) = with_kind b k ∷ with_kinds bs ks
