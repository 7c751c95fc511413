-- 02, No. 4 and No. 9: the runs of a condition or of a from-value: which are due, and what they hold.
use Rattle.std.specs.Prelude.{ℕ, zero, suc, ◌+◌, List, [], ◌∷◌, ◌++◌, map, eqb, length, take, drop}
use Rattle.std.proofs.Math.Option.{Option, none, some}
use Rattle.wire.specs.Lists.{find, ◌and_then◌}
use Rattle.wire.specs.Words.{word_at}
use Rattle.wire.specs.Entries.{entry_body}
use Rattle.dictionary.specs.Dictionary.{Relation}
use Rattle.dictionary.specs.Naming.{relation_of}
use Rattle.records.specs.Record.{record_length}
use Rattle.records.specs.Runs.{records_held}
use Rattle.grammar.specs.Tree.{Message, Stream, Reference, Value, literal, reference, arithmetic, negate, statistic, count, Boolean, compare, search, between, connect, not, missing, quantify, Clauses, no_clauses, such, sorted, Rse, rse}
use Rattle.grammar.specs.Bytes.{value_bytes, boolean_bytes, keys_bytes, head_bytes, rse_bytes}
use Rattle.grammar.specs.Environment.{Scope, under_streams}
use Rattle.meaning.specs.Inputs.{Fetched, fetch}

-- ---- which runs are due

-- the run of an any, a unique or a statistic: the place of the code, and the relation of its stream if that is known
pub record DueRun : Type 0 where
  pub place : ℕ
  pub relation : Option Relation

-- the run of the code at p, with the streams of its rse, which are one
abbrev pub due_run : List Relation → List Stream → ℕ → List DueRun
due_run d [] p = []
due_run d (s ∷ []) p = record { place = p; relation = relation_of d s.relation } ∷ []
due_run d (s ∷ t ∷ ss) p = []

-- those of a value and of a boolean at p; 02, No. 4: "in the reading order of the boolean's any and unique codes, sorts left out"; No. 9:
-- "their runs join the same reading order"
unfoldable mutual
  pub value_runs : List Relation → Value → ℕ → List DueRun
  value_runs d (literal l) p = []
  value_runs d (reference r) p = []
  value_runs d (arithmetic o v w) p = value_runs d v (p + 1) ++ value_runs d w (p + 1 + length (value_bytes v))
  value_runs d (negate v) p = value_runs d v (p + 1)
  value_runs d (statistic k r v) p = rse_runs d r p ++ value_runs d v (p + 1 + length (rse_bytes r))
  value_runs d (count r) p = rse_runs d r p

  pub due_runs : List Relation → Boolean → ℕ → List DueRun
  due_runs d (compare c v w) p = value_runs d v (p + 1) ++ value_runs d w (p + 1 + length (value_bytes v))
  due_runs d (search t v w) p = value_runs d v (p + 1) ++ value_runs d w (p + 1 + length (value_bytes v))
  due_runs d (between v w x) p =
      value_runs d v (p + 1) ++ value_runs d w (p + 1 + length (value_bytes v)) ++
      value_runs d x (p + 1 + length (value_bytes v) + length (value_bytes w))
  due_runs d (connect c a b) p = due_runs d a (p + 1) ++ due_runs d b (p + 1 + length (boolean_bytes a))
  due_runs d (not a) p = due_runs d a (p + 1)
  due_runs d (missing v) p = value_runs d v (p + 1)
  due_runs d (quantify q r) p = rse_runs d r p

  -- of the rse of the code at p
  pub rse_runs : List Relation → Rse → ℕ → List DueRun
  rse_runs d (rse ss cs) p = due_run d ss p ++ clauses_runs d cs (p + 1 + length (head_bytes ss))

  pub clauses_runs : List Relation → Clauses → ℕ → List DueRun
  clauses_runs d no_clauses p = []
  clauses_runs d (such b cs) p = due_runs d b (p + 1) ++ clauses_runs d cs (p + 1 + length (boolean_bytes b))
  clauses_runs d (sorted ks cs) p = clauses_runs d cs (p + 2 + length (keys_bytes ks))

-- their relations; in an accepted request every stream has one
abbrev pub known_then : Option Relation → List Relation → List Relation
known_then none rs = rs
known_then (some r) rs = r ∷ rs

unfoldable pub run_relations : List DueRun → List Relation
run_relations [] = []
run_relations (x ∷ xs) = known_then x.relation (run_relations xs)

-- ---- what they hold

-- the first n parts of a size
unfoldable pub parts : ℕ → ℕ → List ℕ → List (List ℕ)
parts size zero s = []
parts size (suc n) s = take size s ∷ parts size n (drop size s)

-- the records of a relation that the entry at the front of a list holds
abbrev pub records_in : Option Relation → List ℕ → List (List ℕ)
records_in none s = []
records_in (some r) s = parts (record_length r) (records_held r (word_at s 0)) (drop entry_body s)

-- a run: the place of its code, and its records, each as its bytes
pub record LentRun : Type 0 where
  pub place : ℕ
  pub records : List (List ℕ)

-- the runs that stand one after another in a list
unfoldable pub lent_runs : List DueRun → List ℕ → List LentRun
lent_runs [] s = []
lent_runs (x ∷ xs) s = record { place = x.place; records = records_in x.relation s } ∷ lent_runs xs (drop (word_at s 0) s)

-- ---- what a condition or a from-value is worked out in

-- the relations of the dictionary, the messages of the request and their images, the contexts in scope with a record for each, one after
-- another, and the runs
pub record Around : Type 0 where
  pub relations : List Relation
  pub messages : List Message
  pub images : List ℕ
  pub scope : Scope
  pub records : List ℕ
  pub runs : List LentRun

-- what a reference gives there
unfoldable pub fetch_around : Around → Reference → Fetched
fetch_around a = fetch a.messages a.scope a.images a.records

-- inside the rse of an any, a unique or a statistic, whose code opens its stream, with a record for that
unfoldable pub within : Around → ℕ → Stream → List ℕ → Around
within a opener s e =
    record {
      relations = a.relations;
      messages = a.messages;
      images = a.images;
      scope = under_streams a.relations opener a.scope (s ∷ []);
      records = a.records ++ e;
      runs = a.runs;
    }

-- inside the rse of the code at p, with each record of its run in turn, if it has a run
unfoldable pub within_each : Around → ℕ → ℕ → List Stream → Option (List Around)
within_each a p opener [] = none
within_each a p opener (s ∷ []) = find (λ x. eqb x.place p) a.runs and_then λ x. some (map (within a opener s) x.records)
within_each a p opener (s ∷ t ∷ ss) = none
