-- An explanation of any bytes answers and refuses as evaluation does; that of a condition of an accepted request is a true reason of it.
use Prim.Native.Nat.{ℕ, ◌+◌, ◌*◌, ◌≤◌}
use mathlib.Core.Path.{◌≡◌, refl, sym, ap, subst, ◌∙◌}
use mathlib.Core.Bool.{Bool, true, false}
use mathlib.Core.List.{List}
use mathlib.Core.Option.{Option, none, some}
use native.Mathlib.Omega.{arith}
use lib.Dec.{eqb, leb}
use lib.ListN.{length, get_elem?}
use borrow.Author.Tests.{eq-eqb}
use Rattle.wire.specs.Lists.{sum_of}
use Rattle.dictionary.specs.Dictionary.{Relation, dictionary}
use Rattle.records.specs.Record.{Run, as_due, wrong_at, records}
use Rattle.records.specs.Runs as RunEntries
use Rattle.grammar.specs.Tree.{Message, Request}
use Rattle.grammar.specs.Sizes.{message_size}
use Rattle.grammar.specs.Rules.{environment}
use Rattle.grammar.specs.Conditions.{Condition, request_conditions}
use Rattle.grammar.specs.Reader as Reader
use Rattle.grammar.specs.Reading.{reading, relations_of}
use Rattle.grammar.proofs.StepLaws.{absurd-eq}
use Rattle.grammar.proofs.Complete.{reading-complete}
use Rattle.meaning.specs.declared.Truth.{Truth}
use Rattle.meaning.specs.Data.{Result, is, refused, stray, ◌>>=◌}
use Rattle.meaning.specs.Decoding.{decode}
use Rattle.meaning.specs.House.{house}
use Rattle.meaning.specs.Runs.{due_runs, run_relations}
use Rattle.meaning.specs.Meaning.{meaning, request_truth, condition_truth, boolean_size, around}
use Rattle.meaning.specs.Evaluation.{Outcome, answered, refusal, strayed, outcome, due_relations, after_records, after_runs, after_messages, on_condition, on_reading, evaluation}
use Rattle.meaning.specs.Demand.{Accepted, Asked, Images, Records, Runs, NotStray}
use Rattle.meaning.proofs.House.{house-is}
use Rattle.walking.specs.Walk.{ended, Sight}
use Rattle.walking.specs.Sees.{Sees}
use Rattle.walking.proofs.Decoded.{decoded}
use Rattle.walking.proofs.Asked.{first-version, site, stands_after, allowed-there, stands-within, never}
use Rattle.walking.proofs.Proper.{is-due}
use Rattle.walking.proofs.ProperRuns.{all-due}
use Rattle.walking.proofs.Demand.{exact}
use Rattle.explanation.specs.Explanation.{Test, Explained, explained_of, condition_explained, request_explained, explained, explained_evaluation, in_room, in_table, explanation}
use Rattle.explanation.specs.Reason.{Explains}
use Rattle.explanation.specs.Internal.Noting.{RowsEnough}
use Rattle.explanation.specs.Internal.Walk.{explain_at}
use Rattle.explanation.proofs.Reason.{true-reason, as-evaluated}
use Rattle.explanation.proofs.Link.{explained-walk}
use Rattle.explanation.proofs.Sizes.{FiveBytes, five-bytes}
use Rattle.explanation.proofs.Names.{no-empty}
use Rattle.explanation.proofs.Few.{few-tests}

-- ---- every input

-- of what is explained, the answer alone
abbrev pub truth_told : Outcome Explained → Outcome Truth
truth_told (answered x) = answered x.truth
truth_told (refusal r p) = refusal r p
truth_told strayed = strayed

told-outcome : (m : Result Explained) → truth_told (outcome m) ≡ outcome (m >>= (λ x. is x.truth))
told-outcome (is x) = refl
told-outcome (refused f p) = refl
told-outcome stray = refl

told-runs : (r : Run) (m : Outcome Explained) → truth_told (after_runs r m) ≡ after_runs r (truth_told m)
told-runs as_due m = refl
told-runs (wrong_at p) m = refl

told-records : (r : Run) (m : Outcome Explained) → truth_told (after_records r m) ≡ after_records r (truth_told m)
told-records as_due m = refl
told-records (wrong_at p) m = refl

told-messages : (b : Bool) (n : ℕ) (m : Outcome Explained) → truth_told (after_messages b n m) ≡ after_messages b n (truth_told m)
told-messages true n m = refl
told-messages false n m = refl

module _ (images rows runs : List ℕ) (m : Outcome Explained) where
  told-condition : (o : Option Condition) (d : List Relation) (ms : List Message) →
      truth_told (on_condition o d ms images rows runs m) ≡ on_condition o d ms images rows runs (truth_told m)
  told-condition none d ms = refl
  told-condition (some x) d ms =
      let b = eqb (length images) (sum_of message_size ms) in
      let k = records (due_relations x.scope.contexts) rows 0 in
      let l = RunEntries.runs (run_relations (due_runs d x.boolean x.place)) runs 0 in
      told-messages b (length images) (after_records k (after_runs l m))
      ∙ ap (after_messages b (length images)) (told-records k (after_runs l m) ∙ ap (after_records k) (told-runs l m))

  told-reading : (x : Reader.Read Request) (d : List Relation) (n : ℕ) →
      truth_told (on_reading x d n images rows runs m) ≡ on_reading x d n images rows runs (truth_told m)
  told-reading (Reader.refused r p) d n = refl
  told-reading (Reader.read t c) d n = told-condition (get_elem? (request_conditions d t) n) d t.messages

module _ (s d : List ℕ) (n : ℕ) (images rows runs : List ℕ) where
  -- the answer of what is explained is the meaning's
  explained-meaning : (explained s d n images rows runs >>= (λ x. is x.truth)) ≡ meaning s d n images rows runs
  unfolding explained meaning
  explained-meaning = by (decode s)
    where
      of-condition : (r : Request) (o : Option Condition) →
          (condition_explained (house d) r images rows runs o >>= (λ x. is x.truth)) ≡ condition_truth (house d) r images rows runs o
      of-condition r none = refl
      of-condition r (some x) = as-evaluated r.version (around (house d) r x images rows runs) x.boolean x.place

      by : (o : Option Request) → (request_explained o (house d) n images rows runs >>= (λ x. is x.truth)) ≡ request_truth o (house d) n images rows runs
      by none = refl
      by (some r) = of-condition r (get_elem? (request_conditions (house d) r) n)

  -- for every input: what is explained is what evaluation answers, refusals and places included
  pub evaluation-told : truth_told (explained_evaluation s d n images rows runs) ≡ evaluation s d n images rows runs
  unfolding explained_evaluation evaluation
  evaluation-told =
      told-reading images rows runs (outcome (explained s d n images rows runs)) (reading s d) (relations_of (dictionary d)) n
      ∙ ap (on_reading (reading s d) (relations_of (dictionary d)) n images rows runs) (told-outcome (explained s d n images rows runs) ∙ ap outcome explained-meaning)

-- ---- what is answered

answered-runs : (r : Run) (m : Outcome Explained) (x : Explained) → after_runs r m ≡ answered x → m ≡ answered x
answered-runs as_due m x e = e
answered-runs (wrong_at p) m x e = absurd-eq (cc)

answered-records : (r : Run) (m : Outcome Explained) (x : Explained) → after_records r m ≡ answered x → m ≡ answered x
answered-records as_due m x e = e
answered-records (wrong_at p) m x e = absurd-eq (cc)

answered-messages : (b : Bool) (n : ℕ) (m : Outcome Explained) (x : Explained) → after_messages b n m ≡ answered x → m ≡ answered x
answered-messages true n m x e = e
answered-messages false n m x e = absurd-eq (cc)

answered-outcome : (m : Result Explained) (x : Explained) → outcome m ≡ answered x → m ≡ is x
answered-outcome (is y) x e = let z : y ≡ x = cc in ap is z
answered-outcome (refused f p) x e = absurd-eq (cc)
answered-outcome stray x e = absurd-eq (cc)

module _ (images rows runs : List ℕ) (m : Outcome Explained) (x : Explained) where
  answered-condition : (o : Option Condition) (d : List Relation) (ms : List Message) → on_condition o d ms images rows runs m ≡ answered x → m ≡ answered x
  answered-condition none d ms e = absurd-eq (cc)
  answered-condition (some y) d ms e =
      let k = records (due_relations y.scope.contexts) rows 0 in
      let l = RunEntries.runs (run_relations (due_runs d y.boolean y.place)) runs 0 in
      answered-runs l m x
      (answered-records k (after_runs l m) x
      (answered-messages (eqb (length images) (sum_of message_size ms)) (length images) (after_records k (after_runs l m)) x e))

  answered-reading : (r : Reader.Read Request) (d : List Relation) (n : ℕ) → on_reading r d n images rows runs m ≡ answered x → m ≡ answered x
  answered-reading (Reader.refused r p) d n e = absurd-eq (cc)
  answered-reading (Reader.read t c) d n e = answered-condition (get_elem? (request_conditions d t) n) d t.messages e

-- the tests that are listed in a table are those of what is explained
in-room : (b : Bool) (x : Explained) (ts : List Test) → in_room b x.tests ≡ answered ts → x.tests ≡ ts
in-room true x ts e = cc
in-room false x ts e = absurd-eq (cc)

from-table : (room : ℕ) (o : Outcome Explained) (ts : List Test) → in_table room o ≡ answered ts →
    (u : Truth) × (o ≡ answered (record { truth = u; tests = ts }))
from-table room (answered x) ts e =
    (x.truth, ap (λ l. answered (record { truth = x.truth; tests = l })) (in-room (leb (2 * length x.tests) room) x ts e))
from-table room (refusal r p) ts e = absurd-eq (cc)
from-table room strayed ts e = absurd-eq (cc)

-- ---- a condition of an accepted request

not_stray : (m : Result Explained) → NotStray (m >>= (λ x. is x.truth)) → NotStray m
not_stray (is x) h = tt
not_stray (refused f p) h = tt
not_stray stray h = h

module _ (s d : List ℕ) (rs : List Relation) (t : Request) (a : Accepted s d rs t) (n : ℕ) (x : Condition) (c : Asked rs t n x)
    (images rows runs : List ℕ) where
  pub explained-is : explained s d n images rows runs ≡ explained_of t.version (around rs t x images rows runs) x.place x.boolean
  unfolding explained
  explained-is = rw (a.bytes, decoded t, house-is d rs a.house, c)

  -- its tests have five bytes or more, and it has less than a request's greatest size
  long-tests : FiveBytes x.boolean
  long-tests = five-bytes (environment rs t) x.scope (no-empty s d rs t a n x c) x.boolean (allowed-there s d rs t a n x c)

  inside : boolean_size x.boolean + 2 ≤ length s
  inside = omega (arith, stands-within s d rs t a n x c, stands_after s d rs t a n x c)

  short : boolean_size x.boolean + 2 ≤ 65535
  short = omega (arith, inside, ap length a.bytes, a.allowed.sized.bytes)

  -- the walk over the bytes from the condition's place on explains it, wherever it is seen from, by a table of rows enough for its request
  pub explained-walks : {E : Type 0} (w : Sight E) (y : E) (room : ℕ) → RowsEnough s room →
      Sees t.version w y (around rs t x images rows runs) x.boolean x.place →
      explain_at w y room 32 s 0 x.place ≡ ended (explained s d n images rows runs) (x.place + boolean_size x.boolean)
  explained-walks w y room r h =
      let b = around rs t x images rows runs in
      let end = x.place + boolean_size x.boolean in
      let v = first-version s d rs t a in
      let k = site s d rs t a n x c in
      explained-walk s w y b room x.boolean 32 0 x.place k.rest k.shallow k.stands
      (subst (λ z. Sees z w y b x.boolean x.place) (sym v) h) long-tests (omega (arith, r, inside))
      ∙ ap (λ z. ended (explained_of z b x.place x.boolean) end) v
      ∙ ap (λ z. ended z end) (sym (explained-is))

  -- "stray never occurs"
  pub explained-never : NotStray (explained s d n images rows runs)
  explained-never = not_stray (explained s d n images rows runs) (subst NotStray (sym (explained-meaning s d n images rows runs)) (never s d rs t a n x c images rows runs))

  -- beside messages of its sizes, proper records and proper runs nothing is refused before the condition is worked out
  pub explained-evaluates : Images t.messages images → Records x.scope.contexts rows → Runs (due_runs rs x.boolean x.place) runs →
      explained_evaluation s d n images rows runs ≡ outcome (explained s d n images rows runs)
  unfolding explained_evaluation
  explained-evaluates i k l =
      let w = reading-complete s d rs a.house t a.allowed a.bytes in
      let e = eq-eqb (length images) (sum_of message_size t.messages) (exact t.messages images i) in
      rw (w.1, a.house, c, e, is-due x.scope.contexts rows k, all-due (due_runs rs x.boolean x.place) runs l)

  -- the tests that are listed are a true reason of evaluation's answer
  pub explains : (room : ℕ) (ts : List Test) → explanation s d n images rows runs room ≡ answered ts → Explains s d rs t n x images rows runs ts
  unfolding explanation explained_evaluation
  explains room ts e =
      let f = from-table room (explained_evaluation s d n images rows runs) ts e in
      let y : Explained = record { truth = f.0; tests = ts } in
      let m = answered-outcome (explained s d n images rows runs) y
      (answered-reading images rows runs (outcome (explained s d n images rows runs)) y (reading s d) (relations_of (dictionary d)) n f.1) in
      record {
        truth = f.0;
        evaluated = sym (evaluation-told s d n images rows runs) ∙ ap truth_told f.1;
        reason = true-reason t.version (around rs t x images rows runs) x.boolean x.place y (sym explained-is ∙ m);
        few = omega (arith, short, few-tests t.version (around rs t x images rows runs) x.boolean x.place y long-tests (sym explained-is ∙ m));
      }
