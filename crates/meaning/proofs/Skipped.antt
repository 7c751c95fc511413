-- 02, No. 9: "taking a kept record whose value is missing out of the run changes no total, average, maximum or minimum", in what stands
-- around a statistic.
use Prim.Native.Nat.{ℕ, ◌+◌, ◌<◌}
use mathlib.Core.Path.{◌≡◌, refl, sym, ap, ◌∙◌}
use mathlib.Core.Bool.{Bool, true}
use mathlib.Core.List.{List, [], ◌∷◌, ◌++◌, map}
use mathlib.Core.Option.{Option, none, some}
use native.Mathlib.Omega.{arith}
use lib.Dec.{eqb}
use lib.ListN.{length}
use Rattle.wire.specs.Codes as blr
use Rattle.wire.specs.Lists.{find, ◌and_then◌}
use Rattle.wire.specs.declared.codes.Version.{Version}
use Rattle.wire.specs.declared.codes.Statistic.{Statistic}
use Rattle.wire.specs.declared.codes.Quantifier.{Quantifier}
use Rattle.records.specs.declared.missing.Cause.{Cause}
use Rattle.grammar.specs.Tree.{Stream, Value, literal, reference, arithmetic, negate, statistic, count, Boolean, compare, search, between, connect, not, missing, quantify, Clauses, no_clauses, such, sorted, Rse, rse}
use Rattle.grammar.specs.Bytes.{statistic_code, quantifier_code, keys_bytes, head_bytes, rse_bytes}
use Rattle.grammar.specs.declared.Kind as Grammar
use Rattle.grammar.specs.declared.Kind.TheVariants as GrammarKind
use Rattle.grammar.specs.Kinds.{kind_of}
use Rattle.meaning.specs.declared.Truth.{Truth}
use Rattle.meaning.specs.declared.Truth.TheVariants.{True, False, Missing}
use Rattle.meaning.specs.declared.Kind.TheVariants as Kind
use Rattle.meaning.specs.Data.{Result, is, refused, stray, ◌>>=◌, Datum, absent, Gathered, nothing_yet, with_value, statistic_of}
use Rattle.meaning.specs.Runs.{LentRun, Around, fetch_around, within, within_each}
use Rattle.meaning.specs.Meaning.{size, boolean_size, kept_of, over_run, if_kept, gathered_of, numbers_over, count_over, environment_around, value_of, rse_number, rse_count, truth_of, rse_truth, clauses_truth}

-- what follows a result is the same if it is so for what the result is
bind-same : {A B : Type 0} (t : Result A) {f g : A → Result B} → ((x : A) → f x ≡ g x) → (t >>= f) ≡ (t >>= g)
bind-same (is x) h = h x
bind-same (refused r q) h = refl
bind-same stray h = refl

-- ---- over a run

-- a record that is kept or not, and whose value is missing
pub record Skipped {A : Type 0} (test : A → Result Truth) (values : A → Result Datum) (x : A) : Type 0 where
  pub truth : Truth
  pub cause : Cause
  pub tested : test x ≡ is truth
  pub missing : values x ≡ is (absent Kind.Number cause)

module _ {A : Type 0} (k : Statistic) (p : ℕ) (test : A → Result Truth) (values : A → Result Datum) where
  -- what is gathered with a record in front, in two steps
  step : Gathered → A → Result Gathered
  step g x = test x >>= λ t. if_kept t k p values g x

  gathered-on : (g : Gathered) (x : A) (xs : List A) →
      gathered_of k p test values g (x ∷ xs) ≡ (step g x >>= λ h. gathered_of k p test values h xs)
  unfolding gathered_of step
  gathered-on g x xs = by (test x)
    where
      by : (t : Result Truth) → (t >>= λ t. if_kept t k p values g x >>= λ h. gathered_of k p test values h xs) ≡
          (t >>= (λ t. if_kept t k p values g x) >>= λ h. gathered_of k p test values h xs)
      by (is t) = refl
      by (refused f q) = refl
      by stray = refl

  step-skips : (g : Gathered) (x : A) → Skipped test values x → step g x ≡ is g
  unfolding step with_value
  step-skips g x w = rw w.tested (by w.truth)
    where
      by : (t : Truth) → if_kept t k p values g x ≡ is g
      by True = rw w.missing
      by False = refl
      by (Missing c) = refl

  pub gathered-skips : (g : Gathered) (xs ys : List A) (x : A) → Skipped test values x →
      gathered_of k p test values g (xs ++ (x ∷ ys)) ≡ gathered_of k p test values g (xs ++ ys)
  gathered-skips g [] ys x w = gathered-on g x ys ∙ ap (λ z. z >>= λ h. gathered_of k p test values h ys) (step-skips g x w)
  gathered-skips g (y ∷ xs) ys x w =
      gathered-on g y (xs ++ (x ∷ ys)) ∙ bind-same (step g y) (λ h. gathered-skips h xs ys x w) ∙ sym (gathered-on g y (xs ++ ys))

-- ---- runs that a part of a request does not look at

-- the run of the code at a place
abbrev pub run_at : List LentRun → ℕ → Option LentRun
run_at l q = find (λ x. eqb x.place q) l

abbrev pub with_runs : Around → List LentRun → Around
with_runs a l =
    record {
      relations = a.relations;
      messages = a.messages;
      images = a.images;
      scope = a.scope;
      records = a.records;
      runs = l;
    }

-- over each of a list, by two functions that give the same
module _ {A B : Type 0} (f g : A → B) (test : B → Result Truth) (same : (x : A) → test (f x) ≡ test (g x)) where
  kept_same : (xs : List A) → kept_of test (map f xs) ≡ kept_of test (map g xs)
  unfolding kept_of
  kept_same [] = refl
  kept_same (x ∷ xs) = rw (same x, kept_same xs)

  module _ (k : Statistic) (p : ℕ) (values : B → Result Datum) (alike : (x : A) → values (f x) ≡ values (g x)) where
    if-same : (t : Truth) (h : Gathered) (x : A) → if_kept t k p values h (f x) ≡ if_kept t k p values h (g x)
    if-same True h x = rw (alike x)
    if-same False h x = refl
    if-same (Missing w) h x = refl

    gathered-same : (h : Gathered) (xs : List A) → gathered_of k p test values h (map f xs) ≡ gathered_of k p test values h (map g xs)
    unfolding gathered_of
    gathered-same h [] = refl
    gathered-same h (x ∷ xs) =
        rw (same x) (bind-same (test (g x)) (λ t. rw (if-same t h x) (bind-same (if_kept t k p values h (g x)) (λ i. gathered-same i xs))))

-- two lists of runs that have the same run for each code after p
module _ (e : Version) (p : ℕ) (l m : List LentRun) (alike : (q : ℕ) → p < q → run_at l q ≡ run_at m q) where
  -- what gives the same with both
  abbrev Same : {A : Type 0} → (Around → Result A) → Type 0
  Same f = (a : Around) → f (with_runs a l) ≡ f (with_runs a m)

  -- over the run of the code at q
  module _ (a : Around) (q : ℕ) (i : p < q) (opener : ℕ) (test : Around → Result Truth) (same : Same test) where
    quantifier-same : (o : Quantifier) (ss : List Stream) →
        over_run o (within_each (with_runs a l) q opener ss) test ≡ over_run o (within_each (with_runs a m) q opener ss) test
    unfolding within_each within
    quantifier-same o [] = refl
    quantifier-same o (s ∷ []) = rw (alike q i) (by (run_at m q))
      where
        by : (r : Option LentRun) → over_run o (r and_then λ y. some (map (within (with_runs a l) opener s) y.records)) test ≡
            over_run o (r and_then λ y. some (map (within (with_runs a m) opener s) y.records)) test
        by none = refl
        by (some y) = rw (kept_same (within (with_runs a l) opener s) (within (with_runs a m) opener s) test (λ x. same (within a opener s x)) y.records)
    quantifier-same o (s ∷ t ∷ ss) = refl

    count_same : (ss : List Stream) →
        count_over (within_each (with_runs a l) q opener ss) test ≡ count_over (within_each (with_runs a m) q opener ss) test
    unfolding within_each within
    count_same [] = refl
    count_same (s ∷ []) = rw (alike q i) (by (run_at m q))
      where
        by : (r : Option LentRun) → count_over (r and_then λ y. some (map (within (with_runs a l) opener s) y.records)) test ≡
            count_over (r and_then λ y. some (map (within (with_runs a m) opener s) y.records)) test
        by none = refl
        by (some y) = rw (kept_same (within (with_runs a l) opener s) (within (with_runs a m) opener s) test (λ x. same (within a opener s x)) y.records)
    count_same (s ∷ t ∷ ss) = refl

    module _ (k : Statistic) (values : Around → Result Datum) (worked : Same values) where
      numbers-same : (kind : Option Grammar.Kind) (ss : List Stream) →
          numbers_over k q kind (within_each (with_runs a l) q opener ss) test values ≡
          numbers_over k q kind (within_each (with_runs a m) q opener ss) test values
      unfolding within_each within
      numbers-same none ss = refl
      numbers-same (some GrammarKind.Text) ss = refl
      numbers-same (some GrammarKind.Date) ss = refl
      numbers-same (some (GrammarKind.Number scale)) [] = refl
      numbers-same (some (GrammarKind.Number scale)) (s ∷ []) = rw (alike q i) (by (run_at m q))
        where
          by : (r : Option LentRun) →
              numbers_over k q (some (GrammarKind.Number scale)) (r and_then λ y. some (map (within (with_runs a l) opener s) y.records)) test values ≡
              numbers_over k q (some (GrammarKind.Number scale)) (r and_then λ y. some (map (within (with_runs a m) opener s) y.records)) test values
          by none = refl
          by (some y) = rw (gathered-same (within (with_runs a l) opener s) (within (with_runs a m) opener s) test (λ x. same (within a opener s x))
              k q values (λ x. worked (within a opener s x)) (nothing_yet scale) y.records)
      numbers-same (some (GrammarKind.Number scale)) (s ∷ t ∷ ss) = refl

  mutual
    unfolding value_of rse_number rse_count truth_of rse_truth clauses_truth fetch_around

    pub value_same : (a : Around) (q : ℕ) (v : Value) → p < q → value_of e (with_runs a l) q v ≡ value_of e (with_runs a m) q v
    value_same a q (literal x) i = refl
    value_same a q (reference r) i = refl
    value_same a q (arithmetic o v w) i =
        rw (value_same a (q + 1) v (omega arith), value_same a (q + 1 + size v) w (omega arith))
    value_same a q (negate v) i = rw (value_same a (q + 1) v (omega arith))
    value_same a q (statistic k r v) i =
        number_same a q k r (kind_of (environment_around e a) a.scope (statistic k r v))
        (λ x. value_of e x (q + 1 + length (rse_bytes r)) v) i (λ b. value_same b (q + 1 + length (rse_bytes r)) v (omega arith))
    value_same a q (count r) i = counts_same a q r i

    number_same : (a : Around) (q : ℕ) (k : Statistic) (r : Rse) (kind : Option Grammar.Kind) (values : Around → Result Datum) → p < q →
        Same values → rse_number e (with_runs a l) q k r kind values ≡ rse_number e (with_runs a m) q k r kind values
    number_same a q k (rse ss cs) kind values i w =
        numbers-same a q i (statistic_code k) (λ x. clauses_truth e x (q + 1 + length (head_bytes ss)) cs)
        (λ b. clauses-same b (q + 1 + length (head_bytes ss)) cs (omega arith)) k values w kind ss

    counts_same : (a : Around) (q : ℕ) (r : Rse) → p < q → rse_count e (with_runs a l) q r ≡ rse_count e (with_runs a m) q r
    counts_same a q (rse ss cs) i =
        count_same a q i blr.count (λ x. clauses_truth e x (q + 1 + length (head_bytes ss)) cs)
        (λ b. clauses-same b (q + 1 + length (head_bytes ss)) cs (omega arith)) ss

    pub truth-same : (a : Around) (q : ℕ) (b : Boolean) → p < q → truth_of e (with_runs a l) q b ≡ truth_of e (with_runs a m) q b
    truth-same a q (compare c v w) i =
        rw (value_same a (q + 1) v (omega arith), value_same a (q + 1 + size v) w (omega arith))
    truth-same a q (search t v w) i =
        rw (value_same a (q + 1) v (omega arith), value_same a (q + 1 + size v) w (omega arith))
    truth-same a q (between u v w) i =
        rw (
          value_same a (q + 1) u (omega arith),
          value_same a (q + 1 + size u) v (omega arith),
          value_same a (q + 1 + size u + size v) w (omega arith),
        )
    truth-same a q (connect c b d) i =
        rw (truth-same a (q + 1) b (omega arith), truth-same a (q + 1 + boolean_size b) d (omega arith))
    truth-same a q (not b) i = rw (truth-same a (q + 1) b (omega arith))
    truth-same a q (missing v) i = rw (value_same a (q + 1) v (omega arith))
    truth-same a q (quantify o r) i = quantify-same a q o r i

    quantify-same : (a : Around) (q : ℕ) (o : Quantifier) (r : Rse) → p < q →
        rse_truth e (with_runs a l) q o r ≡ rse_truth e (with_runs a m) q o r
    quantify-same a q o (rse ss cs) i =
        quantifier-same a q i (quantifier_code o) (λ x. clauses_truth e x (q + 1 + length (head_bytes ss)) cs)
        (λ b. clauses-same b (q + 1 + length (head_bytes ss)) cs (omega arith)) o ss

    pub clauses-same : (a : Around) (q : ℕ) (cs : Clauses) → p < q → clauses_truth e (with_runs a l) q cs ≡ clauses_truth e (with_runs a m) q cs
    clauses-same a q no_clauses i = refl
    clauses-same a q (such b cs) i = truth-same a (q + 1) b (omega arith)
    clauses-same a q (sorted ks cs) i = clauses-same a (q + 2 + length (keys_bytes ks)) cs (omega arith)

  -- ---- the statistic at p, with a record in its run or without it

  module _ (a : Around) (k : Statistic) (s : Stream) (cs : Clauses) (v : Value) where
    -- what the condition and the number of the statistic are, in what stands around them
    abbrev pub test_of : Around → Result Truth
    test_of x = clauses_truth e x (p + 1 + length (head_bytes (s ∷ []))) cs

    abbrev pub number_of : Around → Result Datum
    number_of x = value_of e x (p + 1 + length (rse_bytes (rse (s ∷ []) cs))) v

    abbrev pub inside : List LentRun → List ℕ → Around
    inside runs x = within (with_runs a runs) (statistic_code k) s x

    pub statistic-skips : (xs ys : List (List ℕ)) (x : List ℕ) (y y' : LentRun) → run_at l p ≡ some y → run_at m p ≡ some y' →
        y.records ≡ xs ++ (x ∷ ys) → y'.records ≡ xs ++ ys → Skipped test_of number_of (inside l x) →
        value_of e (with_runs a l) p (statistic k (rse (s ∷ []) cs) v) ≡ value_of e (with_runs a m) p (statistic k (rse (s ∷ []) cs) v)
    unfolding value_of rse_number within_each within
    statistic-skips xs ys x y y' f f' r r' w =
        rw (f, f', r, r') (over (kind_of (environment_around e a) a.scope (statistic k (rse (s ∷ []) cs) v)))
      where
        mapped : (g : List ℕ → Around) (xs ys : List (List ℕ)) → map g (xs ++ ys) ≡ map g xs ++ map g ys
        mapped g [] ys = refl
        mapped g (z ∷ xs) ys = ap (λ l. g z ∷ l) (mapped g xs ys)

        taken : (g : Gathered) →
            gathered_of k p test_of number_of g (map (inside l) (xs ++ (x ∷ ys))) ≡ gathered_of k p test_of number_of g (map (inside m) (xs ++ ys))
        taken g =
            ap (gathered_of k p test_of number_of g) (mapped (inside l) xs (x ∷ ys)) ∙
            gathered-skips k p test_of number_of g (map (inside l) xs) (map (inside l) ys) (inside l x) w ∙
            sym (ap (gathered_of k p test_of number_of g) (mapped (inside l) xs ys)) ∙
            gathered-same (inside l) (inside m) test_of
            (λ z. clauses-same (within a (statistic_code k) s z) (p + 1 + length (head_bytes (s ∷ []))) cs (omega arith)) k p number_of
            (λ z. value_same (within a (statistic_code k) s z) (p + 1 + length (rse_bytes (rse (s ∷ []) cs))) v (omega arith)) g (xs ++ ys)

        over : (kind : Option Grammar.Kind) → numbers_over k p kind (some (map (inside l) (xs ++ (x ∷ ys)))) test_of number_of ≡
            numbers_over k p kind (some (map (inside m) (xs ++ ys))) test_of number_of
        over none = refl
        over (some GrammarKind.Text) = refl
        over (some GrammarKind.Date) = refl
        over (some (GrammarKind.Number scale)) = ap (λ z. z >>= λ g. statistic_of k p g) (taken (nothing_yet scale))
