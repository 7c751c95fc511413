-- Demand 1 for evaluation: a refusal has a number from 2 to 16 or from 20 to 26, and a place in the bytes that it is about.
use Prim.Native.Nat.{ℕ, zero, suc, ◌+◌, ◌<◌, ◌≤◌}
use mathlib.Core.Path.{◌≡◌, refl, sym, ap, subst, ◌∙◌}
use mathlib.Core.Logic.{◌⊎◌, inl, inr}
use mathlib.Core.Bool.{Bool, true, false, cond, ◌&&◌}
use mathlib.Core.List.{List, [], ◌∷◌}
use mathlib.Core.Option.{Option, none, some}
use native.Mathlib.Omega.{arith}
use lib.Dec.{eqb, leb, ltb}
use lib.ListN.{length, get_elem?}
use borrow.Author.Tests.{ne_eqb, leb-true, ltb-true, ltb-false}
use Rattle.wire.specs.Lists.{sum_of}
use Rattle.wire.specs.Words.{word_at}
use Rattle.dictionary.specs.Dictionary.{Relation, Checked, proper, at_fault, dictionary}
use Rattle.records.specs.Record.{record_length, proper_record, Run, as_due, wrong_at, next_record, records}
use Rattle.records.specs.Runs as Runs
use Rattle.grammar.specs.declared.Refusal.{Refusal}
use Rattle.grammar.specs.declared.Refusal.TheVariants.{RequestTooLong, BadDictionary, NoBoolean, BadMessageBytes, BadRecords}
use Rattle.grammar.specs.declared.Cursor.{Cursor}
use Rattle.grammar.specs.Refusals.{number}
use Rattle.grammar.specs.Tree.{Message, Request}
use Rattle.grammar.specs.Sizes.{message_size}
use Rattle.grammar.specs.Environment.{Scope}
use Rattle.grammar.specs.Conditions.{Condition, request_conditions}
use Rattle.grammar.specs.Named.{FromValue, from_value}
use Rattle.grammar.specs.Reader as Reader
use Rattle.grammar.specs.Reading.{start, request, beside, reading, relations_of}
use Rattle.grammar.proofs.StepLaws.{absurd-eq}
use Rattle.grammar.specs.Demands.{Octets}
use Rattle.grammar.proofs.Went.{both}
use Rattle.grammar.proofs.Bounded.{Bounded, went, stopped}
use Rattle.grammar.proofs.BoundedReading.{request-stays, fault-within}
use Rattle.grammar.proofs.Sound.{reading-sound}
use Rattle.meaning.specs.declared.Truth.{Truth}
use Rattle.meaning.specs.declared.Fault.{Fault}
use Rattle.meaning.specs.declared.Fault.TheVariants as Fault
use Rattle.meaning.specs.Data.{Result, is, refused, stray, Datum}
use Rattle.meaning.specs.Runs.{DueRun, value_runs, due_runs, run_relations}
use Rattle.meaning.specs.Meaning.{meaning, value_meaning, size, boolean_size, around, around_value}
use Rattle.meaning.specs.Evaluation.{Outcome, answered, refusal, strayed, refusal_of, outcome, value_outcome, due_relations, after_records, after_runs, after_messages, on_inputs, on_condition, on_reading, evaluation, on_from_value, on_row, value_evaluation}
use Rattle.std.specs.Prelude.{Err}
use Rattle.wire.specs.Options.{refused_at}
use Rattle.meaning.specs.Evaluated.{Evaluated}
use Rattle.meaning.specs.Demand.{Accepted, Asked, placed_in, RefusedEvaluation}
use Rattle.walking.proofs.Proper.{proper-within}
use Rattle.walking.proofs.ProperRuns.{run-within}
use Rattle.walking.proofs.Within.{Within, value-within, truth-within}
use Rattle.walking.proofs.Asked.{means, stands-within, value-means, value-stands-within}

module _ (s d images rows runs : List ℕ) where
  -- what is told of a refusal
  abbrev Told : {A : Type 0} → Outcome A → Type 0
  Told (answered t) = Unit {0}
  Told (refusal x p) = RefusedEvaluation s d images rows runs x p
  Told strayed = Unit {0}

  -- 2, and 4 to 16, are placed in the request
  in-request : (x : Refusal) (p : ℕ) → (number x ≡ 3 → ⊥) → number x ≤ 16 → 2 ≤ number x → p ≤ length s → RefusedEvaluation s d images rows runs x p
  in-request x p a b c h =
      let e = ne_eqb (number x) 3 a in
      let f = ne_eqb (number x) 21 (λ z. omega arith) in
      let g = ne_eqb (number x) 22 (λ z. omega arith) in
      let i = ne_eqb (number x) 26 (λ z. omega arith) in
      record { numbered = inl (c, b); placed = rw (e, f, g, i) h }

  told-request : (x : Reader.Read Request) → Bounded s x → (r : Refusal) (p : ℕ) → x ≡ Reader.refused r p → RefusedEvaluation s d images rows runs r p
  told-request (Reader.read t c) (went h) r p e = absurd-eq (cc)
  told-request (Reader.refused y q) (stopped n h) r p e =
      let t = both (leb 4 (number y)) (leb (number y) 16) n in
      let a = leb-true 4 (number y) t.0 in
      let b = leb-true (number y) 16 t.1 in
      let u : y ≡ r = cc in
      let v : q ≡ p = cc in
      let k = ap number u in
      in-request r p (λ z. omega (arith, k, a)) (omega (arith, k, b)) (omega (arith, k, a)) (omega (arith, h, v))

  told-reading : (r : Refusal) (p : ℕ) → reading s d ≡ Reader.refused r p → RefusedEvaluation s d images rows runs r p
  unfolding reading number
  told-reading r p e = by (leb (length s) 65535) (dictionary d) refl e
    where
      by : (b : Bool) (c : Checked) → dictionary d ≡ c → cond b (beside c s) (Reader.refused RequestTooLong 0) ≡ Reader.refused r p →
          RefusedEvaluation s d images rows runs r p
      by true (proper rs) h e = told-request (request rs s start) (request-stays s rs start (omega arith)) r p e
      by true (at_fault q) h e =
          let w = (fault-within d q h).0 in
          let u : BadDictionary ≡ r = cc in
          let v : q ≡ p = cc in
          subst (λ z. RefusedEvaluation s d images rows runs z p) u (record { numbered = inl (omega arith, omega arith); placed = omega (arith, w, v) })
      by false c h e =
          let u : RequestTooLong ≡ r = cc in
          let v : 0 ≡ p = cc in
          subst (λ z. RefusedEvaluation s d images rows runs z p) u (record { numbered = inl (omega arith, omega arith); placed = omega (arith, v) })

  -- 22: the place of a wrong record is one of the records', or their end
  wrong-within : (rs : List Relation) (q : ℕ) → q ≤ length rows → (p : ℕ) → records rs rows q ≡ wrong_at p → p ≤ length rows
  unfolding records
  wrong-within [] q h p e = by (ltb q (length rows)) e
    where
      by : (b : Bool) → cond b (wrong_at q) as_due ≡ wrong_at p → p ≤ length rows
      by true e = let v : q ≡ p = cc in omega (arith, h, v)
      by false e = absurd-eq (cc)
  wrong-within (r ∷ rs) q h p e =
      by (proper_record r rows q) refl e (λ f g. wrong-within rs (q + record_length r) f p g)
    where
      by : (b : Bool) → proper_record r rows q ≡ b → next_record b q (records rs rows (q + record_length r)) ≡ wrong_at p →
          (q + record_length r ≤ length rows → records rs rows (q + record_length r) ≡ wrong_at p → p ≤ length rows) → p ≤ length rows
      by false f e k = let v : q ≡ p = cc in omega (arith, h, v)
      by true f e k = k (proper-within r rows q f) e

  -- 26: the place of a wrong run is one of the runs', or their end
  wrong-run : (rs : List Relation) (q : ℕ) → q ≤ length runs → (p : ℕ) → Runs.runs rs runs q ≡ wrong_at p → p ≤ length runs
  unfolding Runs.runs
  wrong-run [] q h p e = by (ltb q (length runs)) e
    where
      by : (b : Bool) → cond b (wrong_at q) as_due ≡ wrong_at p → p ≤ length runs
      by true e = let v : q ≡ p = cc in omega (arith, h, v)
      by false e = absurd-eq (cc)
  wrong-run (r ∷ rs) q h p e =
      by (Runs.proper_run r runs q) refl e (λ f g. wrong-run rs (q + word_at runs q) f p g)
    where
      by : (b : Bool) → Runs.proper_run r runs q ≡ b → next_record b q (Runs.runs rs runs (q + word_at runs q)) ≡ wrong_at p →
          (q + word_at runs q ≤ length runs → Runs.runs rs runs (q + word_at runs q) ≡ wrong_at p → p ≤ length runs) → p ≤ length runs
      by false f e k = let v : q ≡ p = cc in omega (arith, h, v)
      by true f e k = k (run-within r runs q f) e

  -- 23 to 25
  told-fault : (f : Fault) (p : ℕ) → p ≤ length s → RefusedEvaluation s d images rows runs (refusal_of f) p
  unfolding number
  told-fault Fault.MalformedText p h = record { numbered = inr (omega arith, omega arith); placed = h }
  told-fault Fault.Overflow p h = record { numbered = inr (omega arith, omega arith); placed = h }
  told-fault Fault.ZeroDivisor p h = record { numbered = inr (omega arith, omega arith); placed = h }

  told-meaning : (lo hi : ℕ) (m : Result Truth) → Within lo hi m → hi ≤ length s → Told (outcome m)
  told-meaning lo hi (is t) w h = tt
  told-meaning lo hi (refused f p) w h = let k = w.1 in told-fault f p (omega (arith, k))
  told-meaning lo hi stray w h = tt

  told-value : (lo hi : ℕ) (m : Result Datum) → Within lo hi m → hi ≤ length s → Told (value_outcome m)
  told-value lo hi (is v) w h = tt
  told-value lo hi (refused f p) w h = let k = w.1 in told-fault f p (omega (arith, k))
  told-value lo hi stray w h = tt

  told-records : {A : Type 0} (rs : List Relation) (x : Outcome A) → Told x → Told (after_records (records rs rows 0) x)
  unfolding number
  told-records rs x t = by (records rs rows 0) refl
    where
      by : (r : Run) → records rs rows 0 ≡ r → Told (after_records r x)
      by as_due e = t
      by (wrong_at p) e = record { numbered = inr (omega arith, omega arith); placed = wrong-within rs 0 (omega arith) p e }

  told-runs : {A : Type 0} (rs : List Relation) (x : Outcome A) → Told x → Told (after_runs (Runs.runs rs runs 0) x)
  unfolding number
  told-runs rs x t = by (Runs.runs rs runs 0) refl
    where
      by : (r : Run) → Runs.runs rs runs 0 ≡ r → Told (after_runs r x)
      by as_due e = t
      by (wrong_at p) e = record { numbered = inr (omega arith, omega arith); placed = wrong-run rs 0 (omega arith) p e }

  told-messages : {A : Type 0} (b : Bool) (x : Outcome A) → Told x → Told (after_messages b (length images) x)
  unfolding number
  told-messages true x t = t
  told-messages false x t = record { numbered = inr (omega arith, omega arith); placed = omega arith }

  told-inputs : {A : Type 0} (sc : Scope) (due : List DueRun) (ms : List Message) (x : Outcome A) → Told x → Told (on_inputs sc due ms images rows runs x)
  told-inputs sc due ms x t =
      told-messages (eqb (length images) (sum_of message_size ms)) _
      (told-records (due_relations sc.contexts) _ (told-runs (run_relations due) x t))

  module _ (n : ℕ) (rs : List Relation) (t : Request) (a : Accepted s d rs t) where
    told-condition : (o : Option Condition) → get_elem? (request_conditions rs t) n ≡ o →
        Told (on_condition o rs t.messages images rows runs (outcome (meaning s d n images rows runs)))
    unfolding number
    told-condition none e = record { numbered = inr (omega arith, omega arith); placed = omega arith }
    told-condition (some x) e =
        let w = truth-within t.version (around rs t x images rows runs) x.boolean x.place in
        let v = subst (Within x.place (x.place + boolean_size x.boolean)) (sym (means s d rs t a n x e images rows runs)) w in
        told-inputs x.scope (due_runs rs x.boolean x.place) t.messages _
        (told-meaning x.place _ (meaning s d n images rows runs) v (stands-within s d rs t a n x e))

    -- n is a row
    told-from : (o : Option FromValue) → from_value rs t n ≡ o →
        Told (on_from_value o rs t.messages images rows runs (value_outcome (value_meaning s d n images rows runs)))
    unfolding number
    told-from none e = record { numbered = inr (omega arith, omega arith); placed = omega arith }
    told-from (some x) e =
        let w = value-within t.version (around_value rs t x images rows runs) x.value x.place in
        let v = subst (Within x.place (x.place + size x.value)) (sym (value-means s d rs t a n x e images rows runs)) w in
        told-inputs x.scope (value_runs rs x.value x.place) t.messages _
        (told-value x.place _ (value_meaning s d n images rows runs) v (value-stands-within s d rs t a n x e))

  told : (n : ℕ) → Octets s → Told (evaluation s d n images rows runs)
  unfolding evaluation
  told n octets = by (reading s d) refl
    where
      by : (x : Reader.Read Request) → reading s d ≡ x →
          Told (on_reading x (relations_of (dictionary d)) n images rows runs (outcome (meaning s d n images rows runs)))
      by (Reader.refused r p) e = told-reading r p e
      by (Reader.read t c) e =
          let y = reading-sound s octets d t c e in
          let a : Accepted s d y.relations t = record { house = y.checked; bytes = y.sound.whole; allowed = y.sound.allowed } in
          rw y.checked (told-condition n y.relations t a (get_elem? (request_conditions y.relations t) n) refl)

  -- what a refused evaluation has, from what evaluation promises
  pub refused-evaluation : (n : ℕ) (x : Refusal) (p : ℕ) → Evaluated s d n images rows runs (Err (refused_at x p)) → RefusedEvaluation s d images rows runs x p
  refused-evaluation n x p h = subst Told (sym h.answered) (told n h.request_octets)

  -- and of a from-value
  told-row : (k : ℕ) → Octets s → Told (value_evaluation s d k images rows runs)
  unfolding value_evaluation
  told-row k octets = by (reading s d) refl
    where
      by : (x : Reader.Read Request) → reading s d ≡ x →
          Told (on_row x (relations_of (dictionary d)) k images rows runs (value_outcome (value_meaning s d k images rows runs)))
      by (Reader.refused r p) e = told-reading r p e
      by (Reader.read t c) e =
          let y = reading-sound s octets d t c e in
          let a : Accepted s d y.relations t = record { house = y.checked; bytes = y.sound.whole; allowed = y.sound.allowed } in
          rw y.checked (told-from k y.relations t a (from_value y.relations t k) refl)

  pub refused-value : (k : ℕ) (x : Refusal) (p : ℕ) → Octets s → refusal x p ≡ value_evaluation s d k images rows runs →
      RefusedEvaluation s d images rows runs x p
  refused-value k x p octets e = subst Told (sym e) (told-row k octets)
