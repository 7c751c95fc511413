-- Demand 3, from what evaluation promises: for a condition or a from-value of an accepted request, messages of its sizes, proper records and
-- proper runs.
use Prim.Native.Nat.{ℕ, ◌+◌}
use mathlib.Core.Path.{◌≡◌, refl, sym, ap, ◌∙◌}
use mathlib.Core.List.{List, [], ◌∷◌, ◌++◌}
use native.Mathlib.Omega.{arith}
use lib.ListN.{length, length-append}
use borrow.Author.Tests.{eq-eqb}
use Rattle.wire.specs.Lists.{sum_of}
use Rattle.dictionary.specs.Dictionary.{Relation}
use Rattle.grammar.specs.Tree.{Message, Request}
use Rattle.grammar.specs.Sizes.{message_size}
use Rattle.grammar.specs.Rules.{environment}
use Rattle.grammar.specs.Conditions.{Condition}
use Rattle.grammar.specs.Named.{FromValue}
use Rattle.grammar.proofs.StepLaws.{absurd-eq}
use Rattle.grammar.proofs.Complete.{reading-complete}
use Rattle.std.specs.Prelude.{Ok, Err}
use Rattle.meaning.specs.Runs.{DueRun, value_runs, due_runs, lent_runs}
use Rattle.meaning.specs.Meaning.{meaning, value_meaning, size, boolean_size, around, around_value}
use Rattle.meaning.specs.Evaluation.{Outcome, outcome, evaluation, Answer, value_outcome, value_evaluation}
use Rattle.meaning.specs.Evaluated.{Evaluation, outcome_of, Evaluated}
use Rattle.meaning.specs.Demand.{Accepted, Asked, AskedValue, Images, no_image, image, Records, Runs, placed_from, placed_runs, Alike, AsMeant, SameAnswer, ValueAsMeant, SameValue}
use Rattle.walking.proofs.Due.{value-grow, due-grow}
use Rattle.walking.proofs.Proper.{is-due}
use Rattle.walking.proofs.ProperRuns.{all-due}
use Rattle.walking.proofs.SameRuns.{same_runs}
use Rattle.walking.proofs.SameTruth.{same-records, same-value, same_truth}
use Rattle.walking.proofs.Asked.{means, never, value-means, value-never}

-- the images have the exact total
pub exact : (ms : List Message) (images : List ℕ) → Images ms images → length images ≡ sum_of message_size ms
unfolding sum_of
exact [] _ no_image = refl
exact (m ∷ ms) _ (image e images h i) = omega (arith, h, exact ms images i, length-append e images)

-- no two answers of the code are one outcome
one_answer : (r r' : Evaluation) → outcome_of r ≡ outcome_of r' → r ≡ r'
one_answer (Ok t) (Ok u) e = let z : t ≡ u = cc in ap Ok z
one_answer (Ok t) (Err y) e = absurd-eq (cc)
one_answer (Err x) (Ok u) e = absurd-eq (cc)
one_answer (Err x) (Err y) e =
    let a : x.refusal ≡ y.refusal = cc in let b : x.place ≡ y.place = cc in λ i. Err (record { refusal = a i; place = b i })

module _ (s d : List ℕ) (rs : List Relation) (t : Request) (a : Accepted s d rs t) (n : ℕ) (x : Condition) (c : Asked rs t n x) where
  -- the runs that are due for the condition
  abbrev due : List DueRun
  due = due_runs rs x.boolean x.place

  module _ (images rows runs : List ℕ) (i : Images t.messages images) (k : Records x.scope.contexts rows) (l : Runs due runs) where
    evaluates : evaluation s d n images rows runs ≡ outcome (meaning s d n images rows runs)
    unfolding evaluation
    evaluates =
        let w = reading-complete s d rs a.house t a.allowed a.bytes in
        let e = eq-eqb (length images) (sum_of message_size t.messages) (exact t.messages images i) in
        rw (w.1, a.house, c, e, is-due x.scope.contexts rows k, all-due due runs l)

    -- the answer is the meaning's, and the meaning is never stray
    pub as-meant : (r : Evaluation) → Evaluated s d n images rows runs r → AsMeant s d n images rows runs r
    as-meant r h = record { meant = h.answered ∙ evaluates; not_stray = never s d rs t a n x c images rows runs }

  module _ (images rows rows' runs runs' : List ℕ) (i : Images t.messages images) (k : Records x.scope.contexts rows)
      (k' : Records x.scope.contexts rows') (l : Runs due runs) (l' : Runs due runs') (w : Alike (placed_from x.scope.contexts 0) rows rows')
      (v : Alike (placed_runs due runs 0) runs runs') where
    same_meaning : meaning s d n images rows runs ≡ meaning s d n images rows' runs'
    unfolding around
    same_meaning =
        let u = same_runs x.place (x.place + boolean_size x.boolean) due runs runs' (due-grow rs x.boolean x.place) l l' v in
        means s d rs t a n x c images rows runs
        ∙ same_truth (environment rs t) images (lent_runs due runs) (lent_runs due runs') x.boolean x.scope rows rows' x.place
        (same-records x.scope.contexts rows rows' k w) u
        ∙ sym (means s d rs t a n x c images rows' runs')

    -- two sets of records, those of the runs among them, that differ only inside fields missing in both get the same answer
    pub same_answer : (r r' : Evaluation) → Evaluated s d n images rows runs r → Evaluated s d n images rows' runs' r' →
        SameAnswer s d n images rows rows' runs runs' r r'
    same_answer r r' h h' =
        record {
          same_meaning = same_meaning;
          same_answer = one_answer r r'
              (h.answered ∙ evaluates images rows runs i k l ∙ ap outcome same_meaning ∙ sym (evaluates images rows' runs' i k' l') ∙ sym h'.answered);
        }

-- ---- a from-value; r and r' are what the code answers, as outcomes

module _ (s d : List ℕ) (rs : List Relation) (t : Request) (a : Accepted s d rs t) (k : ℕ) (x : FromValue) (c : AskedValue rs t k x) where
  -- the runs that are due for it
  abbrev value_due : List DueRun
  value_due = value_runs rs x.value x.place

  module _ (images rows runs : List ℕ) (i : Images t.messages images) (h : Records x.scope.contexts rows) (l : Runs value_due runs) where
    value-evaluates : value_evaluation s d k images rows runs ≡ value_outcome (value_meaning s d k images rows runs)
    unfolding value_evaluation
    value-evaluates =
        let w = reading-complete s d rs a.house t a.allowed a.bytes in
        let e = eq-eqb (length images) (sum_of message_size t.messages) (exact t.messages images i) in
        rw (w.1, a.house, c, e, is-due x.scope.contexts rows h, all-due value_due runs l)

    -- the answer is the meaning's, and the meaning is never stray
    pub value-as-meant : (r : Outcome Answer) → r ≡ value_evaluation s d k images rows runs → ValueAsMeant s d k images rows runs r
    value-as-meant r e = record { meant = e ∙ value-evaluates; not_stray = value-never s d rs t a k x c images rows runs }

  module _ (images rows rows' runs runs' : List ℕ) (i : Images t.messages images) (h : Records x.scope.contexts rows)
      (h' : Records x.scope.contexts rows') (l : Runs value_due runs) (l' : Runs value_due runs') (w : Alike (placed_from x.scope.contexts 0) rows rows')
      (v : Alike (placed_runs value_due runs 0) runs runs') where
    same-value-meaning : value_meaning s d k images rows runs ≡ value_meaning s d k images rows' runs'
    unfolding around_value
    same-value-meaning =
        let u = same_runs x.place (x.place + size x.value) value_due runs runs' (value-grow rs x.value x.place) l l' v in
        value-means s d rs t a k x c images rows runs
        ∙ same-value (environment rs t) images (lent_runs value_due runs) (lent_runs value_due runs') x.value x.scope rows rows' x.place
        (same-records x.scope.contexts rows rows' h w) u
        ∙ sym (value-means s d rs t a k x c images rows' runs')

    -- two sets of records, those of the runs among them, that differ only inside fields missing in both get the same answer
    pub same-value-answer : (r r' : Outcome Answer) → r ≡ value_evaluation s d k images rows runs → r' ≡ value_evaluation s d k images rows' runs' →
        SameValue s d k images rows rows' runs runs' r r'
    same-value-answer r r' e e' =
        record {
          same_meaning = same-value-meaning;
          same_answer = e ∙ value-evaluates images rows runs i h l ∙ ap value_outcome same-value-meaning ∙ sym (value-evaluates images rows' runs' i h' l') ∙ sym e';
        }
