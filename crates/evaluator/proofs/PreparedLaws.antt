-- What a walk needs: a law for each answer of the code that prepares it.
use Prim.Native.Nat.{ℕ, ◌+◌, ◌≤◌, min}
use mathlib.Core.Path.{◌≡◌, sym, ap, subst, ◌∙◌}
use mathlib.Core.List.{List, map}
use native.Mathlib.Omega.{arith}
use lib.ListN.{length, take, drop, length-map}
use lib.Seq.{sets, sets-eq, length-sets, take_at}
use borrow.Author.Tests.{eq-eqb, ne_eqb}
use Rattle.std.specs.Prelude.{Result, Ok, Err}
use Rattle.wire.specs.Limits.{max_contexts, max_parameters}
use Rattle.wire.specs.Options.{refused_at}
use Rattle.dictionary.specs.Internal.Walk.{relation_at}
use Rattle.records.specs.Record.{Run, as_due, wrong_at, records as records_from}
use Rattle.records.specs.Internal.Answers.{run_answer}
use Rattle.grammar.specs.declared.Refusal.{Refusal}
use Rattle.grammar.specs.declared.Refusal.TheVariants.{BadMessageBytes, BadRecords}
use Rattle.grammar.proofs.StepLaws.{absurd-eq}
use Rattle.meaning.specs.Evaluation.{answered, refusal, after_runs}
use Rattle.surroundings.specs.Slots.{relations_in}
use Rattle.surroundings.specs.Parameters.{held_from}
use Rattle.surroundings.specs.Tables.{numbers_in, Laid}
use Rattle.surroundings.proofs.Laid.{slots-few}
use Rattle.runs.proofs.FilledLaws.{as-due}
use Rattle.evaluator.specs.Bound.{Bound, Prepared, bound, rows_bound, runs_checked, RowsLaid}
use Rattle.evaluator.specs.Prepared.{Given, scope_slots, bound_by, records_checked, prepared_by, Prepares}
use Rattle.evaluator.proofs.BoundLaws.{was-wrong}

-- numbers that were laid at the start of a table with room for them are read back
module _ (vs t : List ℕ) {t' : List ℕ} {n : ℕ} (count : n ≡ length vs) (laid : t' ≡ sets t 0 vs) (room : length vs ≤ length t) where
  laid-back : take n t' ≡ vs
  laid-back = ap (take n) (laid ∙ sets-eq vs t 0 (omega (arith, room))) ∙ take_at vs (drop (0 + length vs) t) n (sym count)

  laid-fits : n ≤ length t'
  laid-fits = omega (arith, count, room, ap length laid, length-sets t 0 vs)

rows_told : (x : Run) (k n : ℕ) → after_runs x (answered k) ≡ answered n → n ≡ k
rows_told as_due k n e = cc
rows_told (wrong_at p) k n e = absurd-eq (cc)

module _ (g : Given) where
  refuses : (t : List ℕ) (x : Refusal) (p : ℕ) → refusal x p ≡ prepared_by g → Prepares g t (Err (refused_at x p))
  refuses t x p e = record { answered_so = e; table_is = λ n z. absurd-eq (cc) }

  abbrev held : ℕ
  held = held_from g.parameters (min g.rows max_parameters) 0

  -- 21
  pub wrong-images : (t : List ℕ) (total : ℕ) → total ≡ held → (length g.images ≡ total → ⊥) →
      Prepares g t (Err (refused_at BadMessageBytes (length g.images)))
  wrong-images t total h e =
      refuses t BadMessageBytes (length g.images) (rw (ne_eqb (length g.images) held (λ z. e (z ∙ sym h))))

  -- the images have their bytes, and the contexts in scope are laid over two tables
  pub record Ready : Type 0 where
    pub exact : length g.images ≡ held
    pub numbers : List ℕ
    pub relations : List ℕ
    pub numbers' : List ℕ
    pub relations' : List ℕ
    pub count : ℕ
    pub laid : Laid (scope_slots g) numbers relations numbers' relations' count
    pub numbers-room : max_contexts ≤ length numbers
    pub relations-room : max_contexts ≤ length relations

  abbrev pub laid-ready : {numbers relations numbers' relations' : List ℕ} {count : ℕ} → length g.images ≡ held →
      Laid (scope_slots g) numbers relations numbers' relations' count → max_contexts ≤ length numbers → max_contexts ≤ length relations → Ready
  laid-ready e l a b =
      record {
        exact = e;
        numbers = _;
        relations = _;
        numbers' = _;
        relations' = _;
        count = _;
        laid = l;
        numbers-room = a;
        relations-room = b;
      }

module _ {g : Given} (z : Ready g) where
  abbrev numbers-in : List ℕ
  numbers-in = numbers_in (scope_slots g)

  abbrev relations-in : List ℕ
  relations-in = relations_in (scope_slots g)

  few : length (scope_slots g) ≤ max_contexts
  few = omega (arith, slots-few g.dictionary g.contexts g.place (min g.declared max_contexts) 0)

  numbers-long : length numbers-in ≡ length (scope_slots g)
  numbers-long = length-map (scope_slots g) (λ x. x.number)

  relations-long : length relations-in ≡ length (scope_slots g)
  relations-long = length-map (scope_slots g) (λ x. x.relation)

  pub numbers_fit : z.count ≤ length z.numbers'
  numbers_fit =
      laid-fits numbers-in z.numbers (z.laid.counted ∙ sym numbers-long) z.laid.numbers_filled
      (omega (arith, numbers-long, few, z.numbers-room))

  pub relations-fit : z.count ≤ length z.relations'
  relations-fit =
      laid-fits relations-in z.relations (z.laid.counted ∙ sym relations-long) z.laid.relations_filled
      (omega (arith, relations-long, few, z.relations-room))

  numbers-are : take z.count z.numbers' ≡ numbers-in
  numbers-are =
      laid-back numbers-in z.numbers (z.laid.counted ∙ sym numbers-long) z.laid.numbers_filled
      (omega (arith, numbers-long, few, z.numbers-room))

  relations-are : take z.count z.relations' ≡ relations-in
  relations-are =
      laid-back relations-in z.relations (z.laid.counted ∙ sym relations-long) z.laid.relations_filled
      (omega (arith, relations-long, few, z.relations-room))

  -- what is handed on
  abbrev handed : Bound
  handed =
      bound g.request g.dictionary (take z.count z.numbers') (take z.count z.relations') g.parameters g.rows
      g.records g.runs g.place

  handed-same : handed ≡ bound_by g
  handed-same =
      λ i. bound g.request g.dictionary (numbers-are i) (relations-are i) g.parameters g.rows g.records g.runs g.place

  module _ (r : Result (Unit {0}) ℕ)
      (is : r ≡ run_answer (records_from (map (relation_at g.dictionary) (take z.count z.relations')) g.records 0)) where
    answer-same : r ≡ run_answer (records_checked g)
    answer-same = is ∙ ap (λ xs. run_answer (records_from (map (relation_at g.dictionary) xs) g.records 0)) relations-are

    -- 22
    pub wrong-records : (t : List ℕ) (p : ℕ) → r ≡ Err p → Prepares g t (Err (refused_at BadRecords p))
    wrong-records t p e =
        refuses g t BadRecords p
        (rw (eq-eqb (length g.images) (held g) z.exact, was-wrong (records_checked g) p (sym e ∙ answer-same)))

    -- 26, or the rows
    pub rows-prepared : (t : List ℕ) (q : Prepared) → r ≡ Ok tt → RowsLaid handed t q → Prepares g t q
    rows-prepared t q e l =
        let k = subst (λ b. RowsLaid b t q) handed-same l in
        record {
          answered_so = rw (eq-eqb (length g.images) (held g) z.exact, as-due (records_checked g) (sym e ∙ answer-same)) k.rows_are;
          table_is =
              λ n a. let m = rows_told (runs_checked (bound_by g)) (rows_bound (bound_by g)) n (sym k.rows_are ∙ a) in rw m k.table_is;
        }
