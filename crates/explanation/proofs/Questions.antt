-- A condition that was asked for, once the request is read: what is prepared for the walk that explains it, and a law for each answer.
use Prim.Native.Nat.{ℕ, ◌+◌, ◌*◌, ◌≤◌}
use mathlib.Core.Path.{◌≡◌, refl, sym, ap, subst, ◌∙◌}
use mathlib.Core.Bool.{Bool, true, false, cond}
use mathlib.Core.List.{List}
use mathlib.Core.Option.{Option, none, some}
use native.Mathlib.Omega.{arith}
use lib.Dec.{leb}
use lib.ListN.{length, get_or, take, replicate, length-map, length-take, length-replicate}
use lib.Seq.{sets}
use borrow.Author.Tests.{leb-true}
use Rattle.std.specs.Prelude.{Ok, Err, Result as RustResult}
use Rattle.wire.specs.Options.{refused_at}
use Rattle.wire.specs.declared.refused.Refused.{Refused}
use Rattle.wire.specs.Limits.{max_depth}
use Rattle.grammar.specs.declared.Refusal.{Refusal}
use Rattle.grammar.specs.declared.Refusal.TheVariants.{TablesTooShort}
use Rattle.grammar.specs.Demands.{Octets}
use Rattle.grammar.specs.Conditions.{Condition}
use Rattle.grammar.specs.Reading.{padded}
use Rattle.grammar.proofs.StepLaws.{absurd-eq}
use Rattle.grammar.proofs.FilledTables.{over_zeros}
use Rattle.meaning.specs.declared.Truth.{Truth}
use Rattle.meaning.specs.declared.Fault.{Fault}
use Rattle.meaning.specs.Data.{Result, is, refused, stray}
use Rattle.meaning.specs.Runs.{due_runs}
use Rattle.meaning.specs.Meaning.{boolean_size}
use Rattle.meaning.specs.Evaluation.{Outcome, answered, refusal, strayed, refusal_of, outcome, on_inputs, evaluation}
use Rattle.walking.specs.Walk.{Walked, at, fault, astray, ended, Sight}
use Rattle.values.specs.declared.Stop.{Stop}
use Rattle.values.specs.declared.Stop.TheVariants as Stop
use Rattle.values.specs.Values.{stopped}
use Rattle.sights.proofs.Conditions.{table_for}
use Rattle.evaluator.specs.AfterReading.{AfterReading, refused_by}
use Rattle.evaluator.specs.Bound.{Prepared}
use Rattle.evaluator.specs.Slices.{Slices, slices, binding_numbers}
use Rattle.evaluator.specs.Prepared.{Given, given, Prepares}
use Rattle.evaluator.specs.Outside.{PreparesIn}
use Rattle.evaluator.proofs.OutsideLaws.{table-due}
use Rattle.evaluator.proofs.Ready.{Question, Ready, fits-there, never-there, walk_is}
use Rattle.evaluator.proofs.Outcomes.{short, asked, condition-part, sight_there, condition-seen, place-asked}
use Rattle.explanation.specs.declared.rows.Noted.{Noted}
use Rattle.explanation.specs.Explanation.{Test, Explained, explained, explained_evaluation, in_room, in_table, explanation, test_numbers, test_table}
use Rattle.explanation.specs.Reason.{most_tests}
use Rattle.explanation.specs.Promise.{Explanation, count_of, counted, Listed}
use Rattle.explanation.specs.Internal.Walk.{explain_at}
use Rattle.explanation.specs.Internal.Noting.{rows_of, packed, unpacked, truth_at, Notes, RowsListed, settled_in, Lists, RowsEnough, Room, walk_in, walk_over, Walkable}
use Rattle.explanation.proofs.Asked.{truth_told, evaluation-told, explained-walks, explained-never}
use Rattle.explanation.proofs.NotingLaws.{done}
use Rattle.explanation.proofs.Refused.{refused-too}
use Rattle.explanation.proofs.RowLaws.{unpacked-rows}
use Rattle.explanation.proofs.Tables.{numbers-count}

-- ---- the walk, and what it comes out as

abbrev pub explain_walk : List ℕ → ℕ → Sight (List ℕ) → List ℕ → ℕ → Walked Explained
explain_walk s room y t p = explain_at y t room max_depth s 0 p

pub settled-ended : (x : Result Explained) (q : ℕ) → settled_in (ended x q) ≡ outcome x
settled-ended (is a) q = refl
settled-ended (refused r p) q = refl
settled-ended stray q = refl

pub was-fault : (w : Walked Explained) {f : Fault} {p : ℕ} → fault f p ≡ truth_at w → settled_in w ≡ refusal (refusal_of f) p
was-fault (at x e) h = absurd-eq (cc)
was-fault (fault f p) h = cc
was-fault astray h = absurd-eq (cc)

pub was-astray : (w : Walked Explained) → astray ≡ truth_at w → w ≡ astray
was-astray (at x e) h = absurd-eq (cc)
was-astray (fault f p) h = absurd-eq (cc)
was-astray astray h = refl

-- ---- the lent table

pub same_outcome : {o o' : Outcome Explained} {t t' : List ℕ} {r : Explanation} → o ≡ o' → Lists o t t' r → Lists o' t t' r
same_outcome {t = t} {t' = t'} {r = r} e h = subst (λ o. Lists o t t' r) e h

module _ {t : List ℕ} (zeros : t ≡ replicate (length t) 0) where
  refused-lists : (o : Outcome Explained) (r : Refusal) (p : ℕ) → in_table (length t) o ≡ refusal r p → Lists o t t (Err (refused_at r p))
  unfolding test_table
  refused-lists o r p e = record { counts = sym (ap counted e); filled = zeros ∙ sym (ap (λ z. test_table z (length t)) e) }

  pub outcome-refused : {o : Outcome Explained} {r : Refusal} {p : ℕ} → refusal r p ≡ o → Lists o t t (Err (refused_at r p))
  outcome-refused {o} {r} {p} e = refused-lists o r p (ap (in_table (length t)) (sym e))

  -- where evaluation is refused
  pub evaluation-refused : (s d : List ℕ) (n : ℕ) (images rows runs : List ℕ) (r : Refusal) (p : ℕ) →
      refusal r p ≡ evaluation s d n images rows runs → Lists (explained_evaluation s d n images rows runs) t t (Err (refused_at r p))
  evaluation-refused s d n images rows runs r p e =
      let o = explained_evaluation s d n images rows runs in
      refused-lists o r p (refused-too (length t) r p o (evaluation-told s d n images rows runs ∙ sym e))

  module _ (ts : List Test) where
    by-room : (b : Bool) → leb (2 * length ts) (length t) ≡ b →
        (cond b (answered (length ts)) (refusal TablesTooShort 0) ≡ counted (in_room b ts)) ×
        (cond b (sets t 0 (test_numbers ts)) t ≡ test_table (in_room b ts) (length t))
    unfolding test_table
    by-room true e = (
      refl,
      ap (λ z. sets z 0 (test_numbers ts)) zeros
          ∙ over_zeros (test_numbers ts) (length t) (let h = leb-true (2 * length ts) (length t) e in omega (arith, h, numbers-count ts)),
    )
    by-room false e = (refl, zeros)

  module _ (x : Explained) {t' : List ℕ} {r : Explanation} where
    tests-list : RowsListed (rows_of x.tests) t t' r → Lists (answered x) t t' r
    tests-list h =
        let l : length (rows_of x.tests) ≡ length x.tests = length-map x.tests packed in
        let k = by-room x.tests (leb (2 * length x.tests) (length t)) refl in
        record {
          counts = h.counts ∙ ap (λ m. cond (leb (2 * m) (length t)) (answered m) (refusal TablesTooShort 0)) l ∙ k.0;
          filled =
              h.filled ∙ ap (λ m. cond (leb (2 * m) (length t)) (sets t 0 (unpacked (rows_of x.tests))) t) l
              ∙ ap (λ z. cond (leb (2 * length x.tests) (length t)) (sets t 0 z) t) (unpacked-rows x.tests) ∙ k.1;
        }

    pub walked-lists : {w : Walked Explained} {e : ℕ} {rows : List ℕ} → w ≡ at x e → rows ≡ rows_of x.tests → RowsListed rows t t' r →
        Lists (settled_in w) t t' r
    walked-lists i k h =
        subst (λ o. Lists o t t' r) (sym (ap settled_in i)) (tests-list (subst (λ z. RowsListed z t t' r) k h))

-- ---- a condition

-- what is prepared in a table of the greatest length
pub table-whole : {room : ℕ} {g : Given} {t : List ℕ} {r : Prepared} → PreparesIn room g t r → room ≡ binding_numbers → Prepares g t r
table-whole {room} {g} {t} {r} k h = table-due g room t r h k

module _ {s d pa ct nd : List ℕ} {m o : ℕ} (w : AfterReading s d pa ct nd m o) (n : ℕ) where
  pub at-condition : (images rows runs : List ℕ) (x : Condition) → asked w n ≡ some x →
      explained_evaluation s d n images rows runs ≡
      on_inputs x.scope (due_runs w.so.relations x.boolean x.place) w.so.request.messages images rows runs
      (outcome (explained s d n images rows runs))
  unfolding explained_evaluation
  at-condition images rows runs x e = rw (w.so.reads, w.so.accepted.house, e)

  abbrev question : (room : ℕ) → RowsEnough s room → (images rows runs : List ℕ) (x : Condition) → asked w n ≡ some x →
      Question w.so images rows runs (explain_walk s room) settled_in (explained_evaluation s d n images rows runs)
  question room enough images rows runs x e =
      let rs = w.so.relations in
      let t = w.so.request in
      let a = w.so.accepted in
      let part = condition-part w n rows x e in
      let result = explained s d n images rows runs in
      let after = x.place + boolean_size x.boolean in
      record {
        part = part;
        result = result;
        after = after;
        not_stray = explained-never s d rs t a n x e images rows runs;
        walks-so =
            λ due. explained-walks s d rs t a n x e images rows runs (sight_there w n images rows runs) (table_for d x part.kinds rows runs)
            room enough (condition-seen w n images rows runs x e due);
        evaluated-so =
            at-condition images rows runs x e
            ∙ ap (on_inputs part.scope part.due t.messages images rows runs) (sym (settled-ended result after));
      }

  -- what stands at the place that was noted
  abbrev pub explanation-asked : (room : ℕ) → RowsEnough s room → (images rows runs : List ℕ) → (get_or nd n 0 ≡ 0 → ⊥) →
      (q : Question w.so images rows runs (explain_walk s room) settled_in (explained_evaluation s d n images rows runs)) ×
      (get_or nd n 0 ≡ q.part.place)
  explanation-asked room enough images rows runs z =
      let k = place-asked w n z in
      (question room enough images rows runs k.0 k.1, k.2)

-- what is prepared there
module _ {s d pa ct nd : List ℕ} {m o : ℕ} (w : AfterReading s d pa ct nd m o) (n : ℕ) (images rows runs : List ℕ) {p : ℕ} (here : p ≡ get_or nd n 0)
    (there : p ≡ 0 → ⊥) {numbers : ℕ} {t : List ℕ} {r : Prepared} (prepared : PreparesIn numbers (given s d pa ct m o images rows runs p) t r)
    (whole : numbers ≡ binding_numbers) where
  abbrev pub ready-in : (room : ℕ) → RowsEnough s room →
      Ready w.so images rows runs (explain_walk s room) settled_in (explained_evaluation s d n images rows runs)
  ready-in room enough =
      let a = explanation-asked w n room enough images rows runs (λ z. there (here ∙ z)) in
      record { asked = a.0; place = p; here = here ∙ a.1; table = t; answer = r; prepared = table-whole prepared whole }

  abbrev pub ready : Ready w.so images rows runs (explain_walk s most_tests) settled_in (explained_evaluation s d n images rows runs)
  ready = ready-in most_tests (omega (arith, short w.so))

  -- what the walk is given
  pub ready-walks : (k : ℕ) → r ≡ Ok k → Octets runs → {tests : List ℕ} → tests ≡ replicate (length tests) 0 →
      Walkable (slices s d (take (k * 10) t) (take (m * 6) pa) images rows runs) p tests
  ready-walks k told o zeros =
      record {
        fits = fits-there ready k told o;
        short = short w.so;
        never = never-there ready k told;
        same = λ room enough. walk_is (ready-in room enough) k told ∙ sym (walk_is ready k told);
        zeros = zeros;
      }

-- ---- the walk in a table of its own

module _ {w : Walked Explained} {t t₁ : List ℕ} where
  pub there-listed : {y : Noted} {tests tests' : List ℕ} {a : Explanation} → Notes w 0 t t₁ (Ok y) → tests ≡ replicate (length tests) 0 →
      RowsListed (take y.rows t₁) tests tests' a → Lists (settled_in w) tests tests' a
  there-listed {y} h zeros l =
      let d = done w h.truth in
      let k = h.lays in
      walked-lists zeros d.is d.there (k.laid d.is y.end d.there) l

  pub there-refused : {tests : List ℕ} (x : Stop) → Notes w 0 t t₁ (Err x) → tests ≡ replicate (length tests) 0 → (w ≡ astray → ⊥) →
      Lists (settled_in w) tests tests (Err (refused_by x))
  there-refused (Stop.Refused f p) h zeros never = outcome-refused zeros (sym (was-fault w h.truth))
  there-refused Stop.Stray h zeros never = absurd (never (was-astray w h.truth))

  pub rows_few : {y : Noted} → Notes w 0 t t₁ (Ok y) → (most : ℕ) → length t ≤ most → length (take y.rows t₁) ≤ most
  rows_few {y} h most k = let l = h.lays in omega (arith, length-take y.rows t₁, l.within, k)

-- ---- a cleared table

module _ (t : List ℕ) {t₁ : List ℕ} (cleared : t₁ ≡ replicate (length t) 0) where
  cleared-long : length t₁ ≡ length t
  cleared-long = ap length cleared ∙ length-replicate {A = ℕ} (length t) 0

  pub cleared-zeros : t₁ ≡ replicate (length t₁) 0
  cleared-zeros = cleared ∙ ap (λ k. replicate k 0) (sym cleared-long)

  pub listed-so : (s d : List ℕ) (n : ℕ) (images rows runs : List ℕ) {t₂ : List ℕ} {r : Explanation} →
      Lists (explained_evaluation s d n images rows runs) t₁ t₂ r → Octets s → Listed s d n images rows runs t t₂ r
  unfolding explanation
  listed-so s d n images rows runs l o =
      let e = explained_evaluation s d n images rows runs in
      record {
        counts = l.counts ∙ ap (λ k. counted (in_table k e)) cleared-long;
        filled = l.filled ∙ ap (λ k. test_table (in_table k e) k) cleared-long;
        request_octets = o;
      }

-- ---- a table of rows that are enough

module _ {g : Slices} {p : ℕ} {t : List ℕ} (w : Walkable g p t) (room : ℕ) (enough : RowsEnough g.request room) where
  long : length {A = ℕ} (replicate room 0) ≡ room
  long = length-replicate {A = ℕ} room 0

  -- the walk in such a table
  pub enough-walk : walk_in g (length {A = ℕ} (replicate room 0)) p ≡ walk_over g p
  enough-walk = ap (λ k. walk_in g k p) long ∙ w.same room enough

  pub enough-room : Room g (replicate room 0) 0
  enough-room = record { fits = w.fits; short = w.short; rows = omega arith }

  pub enough-few : room ≤ most_tests → length {A = ℕ} (replicate room 0) ≤ most_tests
  enough-few h = omega (arith, long)
