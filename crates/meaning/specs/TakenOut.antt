-- 02, No. 9: "taking a kept record whose value is missing out of the run": the runs that are lent, with a record and without it.
use Rattle.std.specs.Prelude.{ℕ, ◌+◌, ◌≤◌, ◌≡◌, List, [], ◌∷◌, ◌++◌, length, drop}
use Rattle.std.proofs.Math.Option.{some}
use Rattle.wire.specs.Words.{word_at}
use Rattle.wire.specs.Entries.{entry_body, run_entry_kind}
use Rattle.wire.specs.declared.codes.Version.{Version}
use Rattle.wire.specs.declared.codes.Statistic.{Statistic}
use Rattle.dictionary.specs.Dictionary.{Relation}
use Rattle.dictionary.specs.Format.{Format}
use Rattle.dictionary.specs.Naming.{Name, field_of, format_of}
use Rattle.wire.specs.Limits.{missing_reading}
use Rattle.wire.specs.declared.codes.FieldType.TheVariants.{Reading}
use Rattle.records.specs.declared.missing.Cause.{Cause}
use Rattle.records.specs.Record.{field_place}
use Rattle.grammar.specs.Tree.{Stream, Value, Clauses, rse}
use Rattle.grammar.specs.Bytes.{statistic_code, head_bytes, rse_bytes}
use Rattle.meaning.specs.declared.Truth.{Truth}
use Rattle.meaning.specs.declared.Kind.TheVariants as Kind
use Rattle.meaning.specs.Data.{is, absent}
use Rattle.meaning.specs.Runs.{DueRun, Around, within}
use Rattle.meaning.specs.Meaning.{value_of, clauses_truth}
use Rattle.meaning.specs.Demand.{ProperRecord}

-- records one after another
unfoldable pub joined : List (List ℕ) → List ℕ
joined [] = []
joined (e ∷ es) = e ++ joined es

abbrev pub AllProper : Relation → List (List ℕ) → Type 0
AllProper r [] = Unit {0}
AllProper r (e ∷ es) = ProperRecord r e × AllProper r es

-- the bytes f are a run of these records: an entry of kind 7 that holds them, and they are proper ones of a relation
pub record RunOf (r : Relation) (es : List (List ℕ)) (f : List ℕ) : Type 0 where
  pub headed : entry_body ≤ length f
  pub length_word : word_at f 0 ≡ length f
  pub kind_word : word_at f 2 ≡ run_entry_kind
  pub holds : drop entry_body f ≡ joined es
  pub proper-records : AllProper r es

-- runs one after another, and the same runs without the record e in the run of the code at p; every other run is as it was
pub data TakenOut (p : ℕ) (r : Relation) (e : List ℕ) : List DueRun → List ℕ → List ℕ → Type 0 where
  here : {x : DueRun} {xs : List DueRun} (before after : List (List ℕ)) (f f' rest : List ℕ) → x.place ≡ p → x.relation ≡ some r →
      RunOf r (before ++ (e ∷ after)) f → RunOf r (before ++ after) f' → TakenOut p r e (x ∷ xs) (f ++ rest) (f' ++ rest)
  later : {x : DueRun} {xs : List DueRun} (q : Relation) (es : List (List ℕ)) (f runs runs' : List ℕ) → (x.place ≡ p → ⊥) →
      x.relation ≡ some q → RunOf q es f → TakenOut p r e xs runs runs' → TakenOut p r e (x ∷ xs) (f ++ runs) (f ++ runs')

-- the statistic at p, with its stream, clauses and number, keeps the record e, where the truth is True, or does not keep it, and the number
-- is missing there
pub record MissingNumber (v : Version) (a : Around) (p : ℕ) (k : Statistic) (s : Stream) (cs : Clauses) (n : Value) (e : List ℕ) : Type 0
  where
    pub truth : Truth
    pub cause : Cause
    pub tested : clauses_truth v (within a (statistic_code k) s e) (p + 1 + length (head_bytes (s ∷ []))) cs ≡ is truth
    pub missing : value_of v (within a (statistic_code k) s e) (p + 1 + length (rse_bytes (rse (s ∷ []) cs))) n ≡ is (absent Kind.Number cause)

-- the field of a relation that a name says is a reading, and it is 65535 in the record e
pub record Unread (r : Relation) (n : Name) (e : List ℕ) : Type 0 where
  pub index : ℕ
  pub format : Format
  pub named : field_of r n ≡ some index
  pub has_format : format_of r index ≡ some format
  pub reading : format.type ≡ Reading
  pub word : word_at e (field_place r 0 index) ≡ missing_reading
