-- 02, No. 9: "taking a kept record whose value is missing out of the run changes no total, average, maximum or minimum", on the bytes of
-- the runs that are lent.
use Prim.Native.Nat.{ℕ, zero, suc, ◌+◌, ◌*◌, ◌-◌, ◌/◌, ◌<◌, ◌≤◌}
use mathlib.Core.Path.{◌≡◌, refl, sym, ap, ap₂, subst, ◌∙◌}
use mathlib.Core.List.{List, [], ◌∷◌, ◌++◌, append_assoc}
use mathlib.Core.Option.{Option, some}
use native.Mathlib.Omega.{arith}
use native.Mathlib.Nat.{suc-mul, mul-div_cancel}
use lib.Dec.{eqb}
use lib.ListN.{length, take, drop, length-append, length-drop, get_or-append}
use lib.Seq.{take_at, drop_at, drop-append-le}
use borrow.Author.Tests.{eq-eqb, ne_eqb}
use Rattle.wire.specs.Lists.{find}
use Rattle.wire.specs.Words.{byte_at, word_at}
use Rattle.wire.specs.declared.codes.Version.{Version}
use Rattle.wire.specs.declared.codes.Statistic.{Statistic}
use Rattle.dictionary.specs.Dictionary.{Relation}
use Rattle.records.specs.Record.{record_length}
use Rattle.records.specs.Runs.{records_held}
use Rattle.records.proofs.Records.{shortest}
use Rattle.grammar.specs.Tree.{Stream, Value, statistic, Clauses, rse, Request}
use Rattle.grammar.specs.Environment.{Scope}
use Rattle.meaning.specs.Runs.{DueRun, parts, records_in, LentRun, lent_runs}
use Rattle.meaning.specs.Meaning.{around_part, value_of}
use Rattle.meaning.specs.Demand.{ProperRecord}
use Rattle.meaning.specs.TakenOut.{joined, AllProper, RunOf, TakenOut, here, later, MissingNumber}
use Rattle.meaning.proofs.Skipped.{run_at, statistic-skips}

-- ---- a run of records

module _ (r : Relation) where
  all-long : (es : List (List ℕ)) → AllProper r es → length (joined es) ≡ length es * record_length r
  unfolding joined
  all-long [] w = omega arith
  all-long (e ∷ es) w =
      let i = all-long es w.1 in
      let s = w.0.sized in
      let h : length (e ++ joined es) ≡ length es * record_length r + record_length r = omega (arith, length-append e (joined es), s, i) in
      h ∙ sym (suc-mul (length es) (record_length r))

  all-parts : (es : List (List ℕ)) (rest : List ℕ) → AllProper r es → parts (record_length r) (length es) (joined es ++ rest) ≡ es
  unfolding joined parts
  all-parts [] rest w = refl
  all-parts (e ∷ es) rest w =
      let a = append_assoc e (joined es) rest in
      rw (a, take_at e (joined es ++ rest) (record_length r) w.0.sized, drop_at e (joined es ++ rest) (record_length r) w.0.sized)
      (ap (λ l. e ∷ l) (all-parts es rest w.1))

  module _ (es : List (List ℕ)) (f rest : List ℕ) (w : RunOf r es f) where
    front-byte : (i : ℕ) → i < length f → byte_at (f ++ rest) i ≡ byte_at f i
    front-byte i h = get_or-append f rest 0 i h

    front-word : word_at (f ++ rest) 0 ≡ length f
    front-word =
        let h = w.headed in
        ap₂ (λ x y. x + 256 * y) (front-byte 0 (omega (arith, h))) (front-byte (0 + 1) (omega (arith, h))) ∙ w.length_word

    held-count : records_held r (length f) ≡ length es
    unfolding records_held
    held-count =
        let l = ap length w.holds in
        let d = length-drop 4 f in
        let a : length f - 4 ≡ length es * record_length r = sym d ∙ l ∙ all-long es w.proper-records in
        let b : 0 < record_length r = omega (arith, shortest r) in
        ap (λ z. z / record_length r) a ∙ mul-div_cancel (length es) b

    records_are : records_in (some r) (f ++ rest) ≡ es
    records_are =
        ap₂ (λ n l. parts (record_length r) n l) (ap (records_held r) front-word ∙ held-count)
        (drop-append-le 4 f rest w.headed ∙ ap (λ l. l ++ rest) w.holds) ∙ all-parts es rest w.proper-records

    rest-is : drop (word_at (f ++ rest) 0) (f ++ rest) ≡ rest
    rest-is = ap (λ n. drop n (f ++ rest)) front-word ∙ drop_at f rest (length f) refl

    lent-first : (x : DueRun) (xs : List DueRun) → x.relation ≡ some r →
        lent_runs (x ∷ xs) (f ++ rest) ≡ record { place = x.place; records = es } ∷ lent_runs xs rest
    unfolding lent_runs
    lent-first x xs k =
        ap₂ (λ l m. record { place = x.place; records = l } ∷ lent_runs xs m) (ap (λ q. records_in q (f ++ rest)) k ∙ records_are) rest-is

-- ---- the runs with a record and without it

pub run-here : (x : LentRun) (l : List LentRun) (p : ℕ) → x.place ≡ p → run_at (x ∷ l) p ≡ some x
unfolding find
run-here x l p h = rw (eq-eqb x.place p h)

pub run-later : (x : LentRun) (l : List LentRun) (p : ℕ) → (x.place ≡ p → ⊥) → run_at (x ∷ l) p ≡ run_at l p
unfolding find
run-later x l p h = rw (ne_eqb x.place p h)

run-both : (x : LentRun) (l m : List LentRun) (q : ℕ) → run_at l q ≡ run_at m q → run_at (x ∷ l) q ≡ run_at (x ∷ m) q
unfolding find
run-both x l m q e = rw e

-- the record e is lost in the run of the code at p, and every other run is the same
record Lost (p : ℕ) (e : List ℕ) (l m : List LentRun) : Type 0 where
  before : List (List ℕ)
  after : List (List ℕ)
  run : LentRun
  run' : LentRun
  found : run_at l p ≡ some run
  found' : run_at m p ≡ some run'
  had : run.records ≡ before ++ (e ∷ after)
  has : run'.records ≡ before ++ after
  others : (q : ℕ) → (p ≡ q → ⊥) → run_at l q ≡ run_at m q

lost_as : (p : ℕ) (e : List ℕ) (l m l' m' : List LentRun) → l ≡ l' → m ≡ m' → Lost p e l' m' → Lost p e l m
lost_as p e l m l' m' h k w = subst (λ z. Lost p e z m) (sym h) (subst (λ z. Lost p e l' z) (sym k) w)

lost : (p : ℕ) (r : Relation) (e : List ℕ) (due : List DueRun) (runs runs' : List ℕ) → TakenOut p r e due runs runs' →
    Lost p e (lent_runs due runs) (lent_runs due runs')
lost p r e [] runs _ x' = elim x' [ ]
lost p r e (x ∷ xs) _ _ (here before after f f' rest place k w w') =
    let one : LentRun = record { place = x.place; records = before ++ (e ∷ after) } in
    let two : LentRun = record { place = x.place; records = before ++ after } in
    lost_as p e _ _ (one ∷ lent_runs xs rest) (two ∷ lent_runs xs rest) (lent-first r (before ++ (e ∷ after)) f rest w x xs k)
    (lent-first r (before ++ after) f' rest w' x xs k) (record {
      before = before;
      after = after;
      run = one;
      run' = two;
      found = run-here one (lent_runs xs rest) p place;
      found' = run-here two (lent_runs xs rest) p place;
      had = refl;
      has = refl;
      others = λ q h.
          run-later one (lent_runs xs rest) q (λ z. h (sym place ∙ z)) ∙ sym (run-later two (lent_runs xs rest) q (λ z. h (sym place ∙ z)));
    })
lost p r e (x ∷ xs) _ _ (later q es f runs runs' apart k w v) =
    let one : LentRun = record { place = x.place; records = es } in
    let i = lost p r e xs runs runs' v in
    lost_as p e _ _ (one ∷ lent_runs xs runs) (one ∷ lent_runs xs runs') (lent-first q es f runs w x xs k) (lent-first q es f runs' w x xs k)
    (record {
      before = i.before;
      after = i.after;
      run = i.run;
      run' = i.run';
      found = run-later one (lent_runs xs runs) p apart ∙ i.found;
      found' = run-later one (lent_runs xs runs') p apart ∙ i.found';
      had = i.had;
      has = i.has;
      others = λ q h. run-both one (lent_runs xs runs) (lent_runs xs runs') q (i.others q h);
    })

-- ---- the statistic

-- the statistic at p, beside the relations of a dictionary, in a scope, with runs for the codes that are due and with the runs without e
pub statistic-unmoved : (v : Version) (d : List Relation) (t : Request) (sc : Scope) (due : List DueRun) (images records runs runs' : List ℕ)
    (p : ℕ) (r : Relation) (e : List ℕ) (k : Statistic) (s : Stream) (cs : Clauses) (n : Value) → TakenOut p r e due runs runs' →
    MissingNumber v (around_part d t sc due images records runs) p k s cs n e →
    value_of v (around_part d t sc due images records runs) p (statistic k (rse (s ∷ []) cs) n) ≡
    value_of v (around_part d t sc due images records runs') p (statistic k (rse (s ∷ []) cs) n)
statistic-unmoved v d t sc due images records runs runs' p r e k s cs n w u =
    let l = lost p r e due runs runs' w in
    statistic-skips v p (lent_runs due runs) (lent_runs due runs') (λ q h. l.others q (λ z. omega (arith, z)))
    (around_part d t sc due images records runs) k s cs n l.before l.after e l.run l.run' l.found l.found' l.had
    l.has (record { truth = u.truth; cause = u.cause; tested = u.tested; missing = u.missing })
