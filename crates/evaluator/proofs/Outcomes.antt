-- A condition and a from-value that were asked for, once the request is read: a law for each answer.
use Prim.Native.Nat.{ℕ, ◌+◌, ◌*◌, ◌≤◌, ◌<◌}
use mathlib.Core.Path.{◌≡◌, refl, sym, ap, subst, ◌∙◌}
use mathlib.Core.List.{List, []}
use mathlib.Core.Option.{Option, none, some}
use native.Mathlib.Omega.{arith}
use lib.ListN.{length, get_or, get_elem?, take}
use borrow.Author.Tests.{eq-eqb, ne_eqb}
use Rattle.grammar.proofs.StepLaws.{absurd-eq}
use Rattle.std.specs.Prelude.{Option as Maybe, Some}
use Rattle.wire.specs.Codes as blr
use Rattle.wire.specs.Options.{option_of}
use Rattle.wire.specs.Limits.{max_depth, max_request_bytes, statement_row_numbers}
use Rattle.grammar.specs.declared.Refusal.TheVariants.{NoBoolean}
use Rattle.grammar.specs.Bytes.{value_bytes, boolean_bytes, request_bytes}
use Rattle.grammar.specs.Sizes.{parameter_count}
use Rattle.grammar.specs.Rules.{environment}
use Rattle.grammar.specs.Conditions.{Condition, request_conditions}
use Rattle.grammar.specs.Named.{FromValue, from_value, FromTold}
use Rattle.meaning.specs.declared.Truth.{Truth}
use Rattle.meaning.specs.Data.{Result, is, refused, stray, Datum}
use Rattle.meaning.specs.Runs.{value_runs, due_runs}
use Rattle.meaning.specs.Meaning.{meaning, value_meaning, size, boolean_size, around}
use Rattle.meaning.specs.Evaluation.{refusal, outcome, value_outcome, on_inputs, evaluation, value_evaluation}
use Rattle.walking.specs.Walk.{Walked, ended, Sight, value_at, boolean_at}
use Rattle.walking.specs.Sees.{Sees}
use Rattle.walking.proofs.Asked.{site, stands_after, allowed-there, walks, never}
use Rattle.walking.proofs.Asked.{value-site, value-allowed-there, value-walks, value-never}
use Rattle.surroundings.specs.Bindings.{bound_sight}
use Rattle.surroundings.specs.Tables.{condition_place}
use Rattle.surroundings.proofs.Around.{run-due, slots-in-scope, value-run-due, value-slots-in-scope}
use Rattle.runs.specs.Found.{value_bindings, bindings_of}
use Rattle.runs.proofs.RowLaws.{value-relations, bindings-relations}
use Rattle.runs.proofs.Conditions.{condition-found, value_found}
use Rattle.sights.proofs.Conditions.{table_for, condition-sees, value_table_for, value-sees}
use Rattle.evaluator.specs.AfterReading.{ReadSo, AfterReading, RowsRead, from_place, settled}
use Rattle.evaluator.specs.Answers.{settled_value}
use Rattle.evaluator.specs.Bound.{Prepared}
use Rattle.evaluator.specs.Prepared.{given, Prepares}
use Rattle.evaluator.proofs.Due.{InputsDue}
use Rattle.evaluator.proofs.KindsNoted.{few-rows, kinds_there, kinds-are, kinds-count, kinds-relations, table-noted}
use Rattle.evaluator.proofs.KindsNoted.{few-value-rows, value_kinds_there, value-kinds-are, value-kinds-count, value-kinds-relations, value-table-noted}
use Rattle.evaluator.proofs.Parts.{Part, table-cut}
use Rattle.evaluator.proofs.Ready.{Question, Ready}

-- ---- the walks, and what they come out as

abbrev pub condition_walk : List ℕ → Sight (List ℕ) → List ℕ → ℕ → Walked Truth
condition_walk s y t p = boolean_at y t max_depth s p

abbrev pub value_walk : List ℕ → Sight (List ℕ) → List ℕ → ℕ → Walked Datum
value_walk s y t p = value_at y t max_depth s p

settled-ended : (x : Result Truth) (q : ℕ) → settled (ended x q) ≡ outcome x
settled-ended (is a) q = refl
settled-ended (refused r p) q = refl
settled-ended stray q = refl

settled-value : (x : Result Datum) (q : ℕ) → settled_value (ended x q) ≡ value_outcome x
settled-value (is a) q = refl
settled-value (refused r p) q = refl
settled-value stray q = refl

pub short : {s d pa ct : List ℕ} {m o : ℕ} (w : ReadSo s d pa ct m o) → length s ≤ max_request_bytes
unfolding request_bytes
short w = omega (arith, ap length w.accepted.bytes, w.accepted.allowed.sized.bytes)

-- ---- a condition

module _ {s d pa ct nd : List ℕ} {m o : ℕ} (w : AfterReading s d pa ct nd m o) (n : ℕ) where
  abbrev pub asked : Option Condition
  asked = get_elem? (request_conditions w.so.relations w.so.request) n

  -- no condition stands at 0
  not-zero : (x : Condition) → asked ≡ some x → x.place ≡ 0 → ⊥
  not-zero x e z = omega (arith, stands_after s d w.so.relations w.so.request w.so.accepted n x e, z)

  none-asked : get_or nd n 0 ≡ 0 → asked ≡ none
  none-asked z = by asked refl
    where
      by : (x : Option Condition) → asked ≡ x → asked ≡ none
      by none e = e
      by (some x) e = absurd (not-zero x e (sym (w.noted n ∙ ap condition_place e) ∙ z))

  -- 20
  pub no-condition : (images rows runs : List ℕ) → get_or nd n 0 ≡ 0 → refusal NoBoolean 0 ≡ evaluation s d n images rows runs
  unfolding evaluation
  no-condition images rows runs z = rw (w.so.reads, w.so.accepted.house, none-asked z)

  at-condition : (images rows runs : List ℕ) (x : Condition) → asked ≡ some x →
      evaluation s d n images rows runs ≡
      on_inputs x.scope (due_runs w.so.relations x.boolean x.place) w.so.request.messages images rows runs
      (outcome (meaning s d n images rows runs))
  unfolding evaluation
  at-condition images rows runs x e = rw (w.so.reads, w.so.accepted.house, e)

  abbrev pub condition-part : (rows : List ℕ) (x : Condition) → asked ≡ some x → Part w.so rows
  condition-part rows x e =
      let rs = w.so.relations in
      let t = w.so.request in
      let a = w.so.accepted in
      let there = site s d rs t a n x e in
      let scales = w.so.scale_bytes in
      let after = w.so.more_parameters in
      let f = w.so.parameter_rows in
      let ks = kinds_there s d rs t a n x e scales pa after f rows in
      record {
        place = x.place;
        end = x.place + length (boolean_bytes x.boolean);
        scope = x.scope;
        due = due_runs rs x.boolean x.place;
        own = bindings_of d x.boolean x.place;
        kinds = ks;
        slots-are = slots-in-scope s d rs t a n x e ct w.so.more_contexts w.so.context_rows;
        records_are = run-due s d rs t a n x e ct w.so.more_contexts w.so.context_rows rows;
        few = few-rows s d rs t a n x e scales pa after f rows;
        found-are = λ z long. condition-found s d rs t n x a.allowed e _ _ _ _ _ there z long (short w.so);
        relations-are = bindings-relations d (environment rs t) a.house x.boolean x.scope x.place there.allowed;
        kinds-count = kinds-count s d rs t a n x e scales pa after f rows;
        kinds-relations = kinds-relations s d rs t a n x e scales pa after f rows;
        noted = table-noted s d rs t a n x e scales pa after f rows;
      }

  -- what is seen by the table of the condition, with the rows of the parameters
  abbrev pub sight_there : List ℕ → List ℕ → List ℕ → Sight (List ℕ)
  sight_there images rows runs = bound_sight d (take (m * 6) pa) (parameter_count w.so.request.messages) images rows runs

  pub condition-seen : (images rows runs : List ℕ) (x : Condition) (e : asked ≡ some x) →
      InputsDue x.scope (due_runs w.so.relations x.boolean x.place) w.so.request.messages images rows runs →
      Sees w.so.request.version (sight_there images rows runs) (table_for d x (condition-part rows x e).kinds rows runs)
      (around w.so.relations w.so.request x images rows runs) x.boolean x.place
  condition-seen images rows runs x e due =
      let rs = w.so.relations in
      let t = w.so.request in
      let a = w.so.accepted in
      let scales = w.so.scale_bytes in
      condition-sees s d rs t a n x e (condition-part rows x e).kinds rows runs scales (take (m * 6) pa) [] (table-cut w.so) images
      (allowed-there s d rs t a n x e) due.records-due due.runs-due
      (kinds-are s d rs t a n x e scales pa w.so.more_parameters w.so.parameter_rows rows)

  abbrev question : (images rows runs : List ℕ) (x : Condition) → asked ≡ some x →
      Question w.so images rows runs (condition_walk s) settled (evaluation s d n images rows runs)
  question images rows runs x e =
      let rs = w.so.relations in
      let t = w.so.request in
      let a = w.so.accepted in
      let part = condition-part rows x e in
      let result = meaning s d n images rows runs in
      let after = x.place + boolean_size x.boolean in
      record {
        part = part;
        result = result;
        after = after;
        not_stray = never s d rs t a n x e images rows runs;
        walks-so =
            λ due. walks s d rs t a n x e images rows runs (sight_there images rows runs) (table_for d x part.kinds rows runs)
            (condition-seen images rows runs x e due);
        evaluated-so =
            at-condition images rows runs x e
            ∙ ap (on_inputs part.scope part.due t.messages images rows runs) (sym (settled-ended result after));
      }

  -- what stands at the place that was noted
  pub place-asked : (get_or nd n 0 ≡ 0 → ⊥) → (x : Condition) × (asked ≡ some x) × (get_or nd n 0 ≡ x.place)
  place-asked z = by asked refl
    where
      by : (o : Option Condition) → asked ≡ o → (x : Condition) × (asked ≡ some x) × (get_or nd n 0 ≡ x.place)
      by none e = absurd (z (w.noted n ∙ ap condition_place e))
      by (some x) e = (x, e, w.noted n ∙ ap condition_place e)

  pub condition-asked : (images rows runs : List ℕ) → (get_or nd n 0 ≡ 0 → ⊥) →
      (q : Question w.so images rows runs (condition_walk s) settled (evaluation s d n images rows runs)) ×
      (get_or nd n 0 ≡ q.part.place)
  condition-asked images rows runs z =
      let k = place-asked z in
      (question images rows runs k.0 k.1, k.2)

  -- once all is prepared for it
  abbrev pub condition-ready : (images rows runs : List ℕ) {p : ℕ} → p ≡ get_or nd n 0 → (p ≡ 0 → ⊥) → {t : List ℕ} {r : Prepared} →
      Prepares (given s d pa ct m o images rows runs p) t r →
      Ready w.so images rows runs (condition_walk s) settled (evaluation s d n images rows runs)
  condition-ready images rows runs {p} e z {t} {r} h =
      let k = condition-asked images rows runs (λ y. z (e ∙ y)) in
      record { asked = k.0; place = p; here = e ∙ k.1; table = t; answer = r; prepared = h }

-- ---- a from-value

pub place-told : (x : Option ℕ) (p : ℕ) → option_of x ≡ Some p → x ≡ some p
place-told none p e = absurd-eq (cc)
place-told (some q) p e = cc

pub no-place : (x : Option ℕ) (b : Maybe ℕ) → b ≡ option_of x → ((p : ℕ) → b ≡ Some p → ⊥) → x ≡ none
no-place none b e n = refl
no-place (some q) b e n = absurd (n q e)

module _ {s d pa ct st : List ℕ} {c m o : ℕ} (w : RowsRead s d pa ct st c m o) (k : ℕ) where
  abbrev asked-value : Option FromValue
  asked-value = from_value w.so.relations w.so.request k

  -- 20
  not-asked : (images rows runs : List ℕ) → asked-value ≡ none → refusal NoBoolean 0 ≡ value_evaluation s d k images rows runs
  unfolding value_evaluation
  not-asked images rows runs e = rw (w.so.reads, w.so.accepted.house, e)

  pub no_row : (images rows runs : List ℕ) → c ≤ k → refusal NoBoolean 0 ≡ value_evaluation s d k images rows runs
  no_row images rows runs h = not-asked images rows runs (w.no_more k h)

  -- what the row tells
  abbrev Told : Option FromValue → Type 0
  Told x = FromTold x (get_or st (k * statement_row_numbers) 0) (get_or st (k * statement_row_numbers + 1) 0)

  from-none : (asked-value ≡ none) → k < c → from_place st k ≡ none
  unfolding from_place
  from-none e h = rw (ne_eqb (get_or st (k * statement_row_numbers + 1) 0) blr.assignment (subst Told e (w.told k h)))

  from_some : (x : FromValue) → asked-value ≡ some x → k < c → from_place st k ≡ some x.place
  unfolding from_place
  from_some x e h =
      let q = subst Told e (w.told k h) in
      rw (eq-eqb (get_or st (k * statement_row_numbers + 1) 0) blr.assignment q.0) (ap some (sym q.1))

  pub no_value : (images rows runs : List ℕ) → k < c → from_place st k ≡ none → refusal NoBoolean 0 ≡ value_evaluation s d k images rows runs
  no_value images rows runs h z = by asked-value refl
    where
      by : (x : Option FromValue) → asked-value ≡ x → refusal NoBoolean 0 ≡ value_evaluation s d k images rows runs
      by none e = not-asked images rows runs e
      by (some x) e = absurd-eq (let y = sym (from_some x e h) ∙ z in cc)

  at_value : (images rows runs : List ℕ) (x : FromValue) → asked-value ≡ some x →
      value_evaluation s d k images rows runs ≡
      on_inputs x.scope (value_runs w.so.relations x.value x.place) w.so.request.messages images rows runs
      (value_outcome (value_meaning s d k images rows runs))
  unfolding value_evaluation
  at_value images rows runs x e = rw (w.so.reads, w.so.accepted.house, e)

  abbrev value-part : (rows : List ℕ) (x : FromValue) → asked-value ≡ some x → Part w.so rows
  value-part rows x e =
      let rs = w.so.relations in
      let t = w.so.request in
      let a = w.so.accepted in
      let there = value-site s d rs t a k x e in
      let scales = w.so.scale_bytes in
      let after = w.so.more_parameters in
      let f = w.so.parameter_rows in
      let ks = value_kinds_there s d rs t a k x e scales pa after f rows in
      record {
        place = x.place;
        end = x.place + length (value_bytes x.value);
        scope = x.scope;
        due = value_runs rs x.value x.place;
        own = value_bindings d x.value x.place;
        kinds = ks;
        slots-are = value-slots-in-scope s d rs t a k x e ct w.so.more_contexts w.so.context_rows;
        records_are = value-run-due s d rs t a k x e ct w.so.more_contexts w.so.context_rows rows;
        few = few-value-rows s d rs t a k x e scales pa after f rows;
        found-are = λ z long. value_found s d rs t k x a.allowed e _ _ _ _ _ there z long (short w.so);
        relations-are = value-relations d (environment rs t) a.house x.value x.scope x.place there.allowed;
        kinds-count = value-kinds-count s d rs t a k x e scales pa after f rows;
        kinds-relations = value-kinds-relations s d rs t a k x e scales pa after f rows;
        noted = value-table-noted s d rs t a k x e scales pa after f rows;
      }

  abbrev value-question : (images rows runs : List ℕ) (x : FromValue) → asked-value ≡ some x →
      Question w.so images rows runs (value_walk s) settled_value (value_evaluation s d k images rows runs)
  value-question images rows runs x e =
      let rs = w.so.relations in
      let t = w.so.request in
      let a = w.so.accepted in
      let scales = w.so.scale_bytes in
      let part = value-part rows x e in
      let pt = take (m * 6) pa in
      let sight : Sight (List ℕ) = bound_sight d pt (parameter_count t.messages) images rows runs in
      let result = value_meaning s d k images rows runs in
      let after = x.place + size x.value in
      record {
        part = part;
        result = result;
        after = after;
        not_stray = value-never s d rs t a k x e images rows runs;
        walks-so =
            λ due. value-walks s d rs t a k x e images rows runs sight (value_table_for d x part.kinds rows runs)
            (value-sees s d rs t a k x e part.kinds rows runs scales pt [] (table-cut w.so) images
            (value-allowed-there s d rs t a k x e) due.records-due due.runs-due
            (value-kinds-are s d rs t a k x e scales pa w.so.more_parameters w.so.parameter_rows rows));
        evaluated-so =
            at_value images rows runs x e
            ∙ ap (on_inputs part.scope part.due t.messages images rows runs) (sym (settled-value result after));
      }

  -- what stands at the place that the row tells
  pub value-asked : (images rows runs : List ℕ) → k < c → (p : ℕ) → from_place st k ≡ some p →
      (q : Question w.so images rows runs (value_walk s) settled_value (value_evaluation s d k images rows runs)) × (p ≡ q.part.place)
  value-asked images rows runs h p z = by asked-value refl
    where
      by : (x : Option FromValue) → asked-value ≡ x →
          (q : Question w.so images rows runs (value_walk s) settled_value (value_evaluation s d k images rows runs)) × (p ≡ q.part.place)
      by none e = absurd-eq (let y = sym (from-none e h) ∙ z in cc)
      by (some x) e = (value-question images rows runs x e, let y = sym z ∙ from_some x e h in cc)

  -- once all is prepared for it
  abbrev pub value-ready : (images rows runs : List ℕ) → k < c → (p : ℕ) → from_place st k ≡ some p → {t : List ℕ} {r : Prepared} →
      Prepares (given s d pa ct m o images rows runs p) t r →
      Ready w.so images rows runs (value_walk s) settled_value (value_evaluation s d k images rows runs)
  value-ready images rows runs l p e {t} {r} h =
      let q = value-asked images rows runs l p e in
      record { asked = q.0; place = p; here = q.1; table = t; answer = r; prepared = h }
