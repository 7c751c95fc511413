-- Demand 3: for any condition of any accepted request, messages of its sizes, proper records and proper runs, the evaluator's answer is the
-- meaning's; 02, No. 9: "demand 3 holds for it as for a condition", a from-value.
use Rattle.std.specs.Prelude.{ℕ, zero, suc, ◌+◌, ◌<◌, ◌≤◌, ◌≡◌, ◌⊎◌, true, cond, List, [], ◌∷◌, ◌++◌, eqb, length, drop}
use Rattle.std.proofs.Math.Option.{Option, none, some}
use Rattle.std.proofs.Math.ListN.{get_elem?}
use Rattle.wire.specs.Limits.{max_record_bytes}
use Rattle.wire.specs.Words.{byte_at, word_at}
use Rattle.dictionary.specs.Format.{Format, held}
use Rattle.dictionary.specs.Dictionary.{Relation, proper, dictionary}
use Rattle.dictionary.specs.Naming.{format_of}
use Rattle.wire.specs.Entries.{entry_body, run_entry_kind}
use Rattle.records.specs.Runs.{records_held}
use Rattle.records.specs.Record.{record_length, spare_clear, field_place, field_missing}
use Rattle.grammar.specs.declared.Refusal.{Refusal}
use Rattle.grammar.specs.Refusals.{number}
use Rattle.grammar.specs.Tree.{Message, Request}
use Rattle.grammar.specs.Bytes.{request_bytes}
use Rattle.grammar.specs.Environment.{Context}
use Rattle.grammar.specs.Sizes.{message_size}
use Rattle.grammar.specs.Rules.{Allowed}
use Rattle.grammar.specs.Conditions.{Condition, request_conditions}
use Rattle.grammar.specs.Named.{FromValue, from_value}
use Rattle.meaning.specs.Data.{Result, is, refused, stray}
use Rattle.meaning.specs.Inputs.{length_of}
use Rattle.meaning.specs.Runs.{DueRun}
use Rattle.meaning.specs.Meaning.{meaning, value_meaning}
use Rattle.meaning.specs.Evaluation.{Outcome, outcome, Answer, value_outcome}
use Rattle.meaning.specs.Evaluated.{Evaluation, outcome_of}

-- ---- what is given

-- 01: "There, accepted is by demand 2's rules, room in the tables aside."
pub record Accepted (s d : List ℕ) (rs : List Relation) (t : Request) : Type 0 where
  pub house : dictionary d ≡ proper rs
  pub bytes : s ≡ request_bytes t
  pub allowed : Allowed rs t

-- 01: "a condition, that is a boolean with a number"
abbrev pub Asked : List Relation → Request → ℕ → Condition → Type 0
Asked rs t n x = get_elem? (request_conditions rs t) n ≡ some x

-- 02, No. 9: "An assignment's from-value can be asked for by its row (from 0)"
abbrev pub AskedValue : List Relation → Request → ℕ → FromValue → Type 0
AskedValue rs t k x = from_value rs t k ≡ some x

-- 01: "Messages of the request's sizes are one image of the declared bytes for each message."
pub data Images : List Message → List ℕ → Type 0 where
  no_image : Images [] []
  image : {m : Message} {ms : List Message} (e images : List ℕ) → length e ≡ message_size m → Images ms images →
      Images (m ∷ ms) (e ++ images)

-- 01: "A proper record is a kind 3 entry of the relation due, here its context's, of at most 4,096 bytes and otherwise as stated above,
-- with any bytes in its fields."
pub record ProperRecord (r : Relation) (e : List ℕ) : Type 0 where
  pub sized : length e ≡ record_length r
  pub small : record_length r ≤ max_record_bytes
  pub length_word : word_at e 0 ≡ record_length r
  pub kind_word : word_at e 2 ≡ 3
  pub id_word : word_at e 4 ≡ r.id
  pub spare : spare_clear r e 0 ≡ true

-- 01: "one record for each context in scope in declaration order"
pub data Records : List Context → List ℕ → Type 0 where
  no_record : Records [] []
  entry : {x : Context} {xs : List Context} (r : Relation) (e rows : List ℕ) → x.relation ≡ some r → ProperRecord r e → Records xs rows →
      Records (x ∷ xs) (e ++ rows)

-- proper records of a relation, one after another
pub data EachProper (r : Relation) : List ℕ → Type 0 where
  no_more : EachProper r []
  more : (e rows : List ℕ) → ProperRecord r e → EachProper r rows → EachProper r (e ++ rows)

-- 02, No. 4: "a proper run .., that is one whose records are all proper ones of its stream's relation"
pub record ProperRun (r : Relation) (e : List ℕ) : Type 0 where
  pub headed : entry_body ≤ length e
  pub length_word : word_at e 0 ≡ length e
  pub kind_word : word_at e 2 ≡ run_entry_kind
  pub proper-records : EachProper r (drop entry_body e)

-- "Demand 3 then takes a proper run for each", in the order of the places of their codes
pub data Runs : List DueRun → List ℕ → Type 0 where
  no_run : Runs [] []
  run : {x : DueRun} {xs : List DueRun} (r : Relation) (e rest : List ℕ) → x.relation ≡ some r → ProperRun r e → Runs xs rest →
      Runs (x ∷ xs) (e ++ rest)

-- ---- two sets of records

-- a relation, and where its record stands
pub record Placed : Type 0 where
  pub relation : Relation
  pub place : ℕ

-- the records of contexts, one after another from p on
abbrev pub placed_by : Option Relation → ℕ → List Placed → List Placed
placed_by none p rest = rest
placed_by (some r) p rest = record { relation = r; place = p } ∷ rest

unfoldable pub placed_from : List Context → ℕ → List Placed
placed_from [] p = []
placed_from (x ∷ xs) p = placed_by x.relation p (placed_from xs (p + length_of x.relation))

-- the records of runs, from p on, by the length words of the runs; 02, No. 4: "its two sets take in the records of the runs"
unfoldable pub placed_records : Relation → ℕ → ℕ → List Placed
placed_records r zero p = []
placed_records r (suc n) p = record { relation = r; place = p } ∷ placed_records r n (p + record_length r)

abbrev pub placed_run : Option Relation → ℕ → ℕ → List Placed
placed_run none bytes p = []
placed_run (some r) bytes p = placed_records r (records_held r bytes) (p + entry_body)

unfoldable pub placed_runs : List DueRun → List ℕ → ℕ → List Placed
placed_runs [] runs p = []
placed_runs (x ∷ xs) runs p = placed_run x.relation (word_at runs p) p ++ placed_runs xs runs (p + word_at runs p)

-- 01: "A field's inside is its packed bytes, its missing bit no part of them." Place j lies inside a field that is missing in both sets
pub record InsideMissing (ys : List Placed) (rows rows' : List ℕ) (j : ℕ) : Type 0 where
  pub k : ℕ
  pub i : ℕ
  pub y : Placed
  pub f : Format
  pub placed_is : get_elem? ys k ≡ some y
  pub format_is : format_of y.relation i ≡ some f
  pub from : field_place y.relation y.place i ≤ j
  pub before : j < field_place y.relation y.place i + held f
  pub missing : field_missing y.relation f rows y.place i ≡ true
  pub missing' : field_missing y.relation f rows' y.place i ≡ true

-- "Two sets of records that differ only inside fields missing in both": of one length, and every byte is the same or inside such a field
pub record Alike (ys : List Placed) (rows rows' : List ℕ) : Type 0 where
  pub sized : length rows ≡ length rows'
  pub differ_only : (j : ℕ) → (byte_at rows j ≡ byte_at rows' j) ⊎ InsideMissing ys rows rows' j

-- ---- what is demanded

-- 01: "and that stray never occurs"
abbrev pub NotStray : {A : Type 0} → Result A → Type 0
NotStray (is x) = Unit {0}
NotStray (refused f p) = Unit {0}
NotStray stray = ⊥

-- 01: "Demand 3 shows that the evaluator's outcome, place included, equals the meaning's, and that stray never occurs."
pub record AsMeant (s d : List ℕ) (n : ℕ) (images rows runs : List ℕ) (r : Evaluation) : Type 0 where
  pub meant : outcome_of r ≡ outcome (meaning s d n images rows runs)
  pub not_stray : NotStray (meaning s d n images rows runs)

-- "Two sets of records that differ only inside fields missing in both get the same answer."; 02, No. 3: "now covers the cause too": an
-- answer that is missing holds its cause
pub record SameAnswer (s d : List ℕ) (n : ℕ) (images rows rows' runs runs' : List ℕ) (r r' : Evaluation) : Type 0 where
  pub same_meaning : meaning s d n images rows runs ≡ meaning s d n images rows' runs'
  pub same_answer : r ≡ r'

-- both of a from-value; r and r' are what the code answers, as outcomes
pub record ValueAsMeant (s d : List ℕ) (k : ℕ) (images rows runs : List ℕ) (r : Outcome Answer) : Type 0 where
  pub meant : r ≡ value_outcome (value_meaning s d k images rows runs)
  pub not_stray : NotStray (value_meaning s d k images rows runs)

pub record SameValue (s d : List ℕ) (k : ℕ) (images rows rows' runs runs' : List ℕ) (r r' : Outcome Answer) : Type 0 where
  pub same_meaning : value_meaning s d k images rows runs ≡ value_meaning s d k images rows' runs'
  pub same_answer : r ≡ r'

-- the bytes that the place of a refusal of evaluation lies in: 3 is in the dictionary, 21 in the images, 22 in the
-- records, 26 in the runs
abbrev pub placed_in : Refusal → List ℕ → List ℕ → List ℕ → List ℕ → List ℕ → List ℕ
placed_in x s d images rows runs =
    cond (eqb (number x) 3) d (cond (eqb (number x) 21) images (cond (eqb (number x) 22) rows (cond (eqb (number x) 26) runs s)))

-- demand 1 for evaluation: "A refusal gives a number and a place"; 01: "Evaluation refuses as reading does, but never gives 1."
pub record RefusedEvaluation (s d images rows runs : List ℕ) (x : Refusal) (p : ℕ) : Type 0 where
  pub numbered : ((2 ≤ number x) × (number x ≤ 16)) ⊎ ((20 ≤ number x) × (number x ≤ 26))
  pub placed : p ≤ length (placed_in x s d images rows runs)
