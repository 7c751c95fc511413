-- Two sets of records and runs that differ only inside fields missing in both give a condition, or a from-value, the same meaning.
use Prim.Native.Nat.{ℕ, ◌+◌, ◌≤◌}
use mathlib.Core.Path.{◌≡◌, refl, sym, ap, ap₂, subst, ◌∙◌}
use mathlib.Core.List.{List, [], ◌∷◌, ◌++◌, map}
use mathlib.Core.Option.{Option, none, some}
use native.Mathlib.Omega.{arith}
use lib.ListN.{length, length-append}
use Rattle.wire.specs.Codes as blr
use Rattle.wire.specs.Lists.{sum_of}
use Rattle.wire.specs.declared.codes.Quantifier.{Quantifier}
use Rattle.wire.specs.declared.codes.Statistic.{Statistic}
use Rattle.dictionary.specs.Dictionary.{Relation}
use Rattle.records.specs.Record.{record_length}
use Rattle.grammar.specs.declared.Kind as Grammar
use Rattle.grammar.specs.declared.Kind.TheVariants as GrammarKind
use Rattle.grammar.specs.Tree.{Stream, Reference, Value, literal, reference, arithmetic, negate, statistic, count, Boolean, compare, search, between, connect, not, missing, quantify, Clauses, no_clauses, such, sorted, Rse, rse}
use Rattle.grammar.specs.Bytes.{statistic_code, quantifier_code, keys_bytes, head_bytes, rse_bytes}
use Rattle.grammar.specs.Environment.{Environment, Context, Scope, stream_context, under_streams, under_rse_of}
use Rattle.meaning.specs.declared.Truth.{Truth}
use Rattle.meaning.specs.declared.Truth.TheVariants.{True, False, Missing}
use Rattle.meaning.specs.Data.{Result, is, refused, stray, ◌>>=◌, Datum, number, arithmetic_of, negate_of, Gathered, whole, nothing_yet, with_value, statistic_of, compare_of, search_of, between_of, missing_of, connected, opposite}
use Rattle.meaning.specs.Inputs.{length_of}
use Rattle.meaning.specs.Runs.{DueRun, due_run, value_runs, due_runs, rse_runs, clauses_runs, LentRun, Around, fetch_around, within, within_each}
use Rattle.meaning.specs.Meaning.{fetched_at, size, boolean_size, kept, kept_of, answer_of, over_run, if_kept, gathered_of, numbers_over, count_over, value_of, rse_number, rse_count, truth_of, rse_truth, clauses_truth}
use Rattle.meaning.specs.Demand.{Records, no_record, entry, placed_by, placed_from, Alike}
use Rattle.walking.specs.Sees.{Pairs, no_pair, pairs}
use Rattle.walking.proofs.Sites.{All}
use Rattle.walking.proofs.Due.{all_first, all-second}
use Rattle.walking.proofs.Proper.{AllRelated, related}
use Rattle.walking.proofs.Alike.{by-places}
use Rattle.walking.proofs.Blind.{same_references}
use Rattle.walking.proofs.Stray.{standing}
use Rattle.walking.proofs.Seams.{moved, Ends, joined-alike}
use Rattle.walking.proofs.SameRuns.{alone, SameRecord, SameRun}

-- ---- records of contexts

-- the bytes that they take
unfoldable pub records_long : List Context → ℕ
records_long xs = sum_of (λ x. length_of x.relation) xs

-- two sets of records, one for each context
pub record SameRecords (xs : List Context) (rows rows' : List ℕ) : Type 0 where
  pub known : AllRelated xs
  pub long : length rows ≡ records_long xs
  pub alike : Alike (placed_from xs 0) rows rows'

records-long : (xs : List Context) (rows : List ℕ) → Records xs rows → length rows ≡ records_long xs
unfolding records_long sum_of
records-long [] _ no_record = refl
records-long (x ∷ xs) _ (entry r e rows k w v) = omega (arith, length-append e rows, w.sized, ap length_of k, records-long xs rows v)

pub same-records : (xs : List Context) (rows rows' : List ℕ) → Records xs rows → Alike (placed_from xs 0) rows rows' → SameRecords xs rows rows'
same-records xs rows rows' h w = record { known = related xs rows h; long = records-long xs rows h; alike = w }

-- ---- with one context more

module _ (c : Context) (r : Relation) (k : c.relation ≡ some r) where
  known_more : (xs : List Context) → AllRelated xs → AllRelated (xs ++ (c ∷ []))
  known_more [] a = ((r, k), tt)
  known_more (x ∷ xs) a = (a.0, known_more xs a.1)

  long-more : (xs : List Context) → records_long (xs ++ (c ∷ [])) ≡ records_long xs + record_length r
  unfolding records_long sum_of
  long-more [] = omega (arith, ap length_of k)
  long-more (x ∷ xs) = omega (arith, long-more xs)

  placed-more : (xs : List Context) (p : ℕ) → AllRelated xs →
      placed_from (xs ++ (c ∷ [])) p ≡ placed_from xs p ++ (record { relation = r; place = p + records_long xs } ∷ [])
  unfolding placed_from records_long sum_of
  placed-more [] p a = let o : p ≡ p + 0 = omega arith in ap (λ q. placed_by q p []) k ∙ ap (λ n. record { relation = r; place = n } ∷ []) o
  placed-more (x ∷ xs) p a =
      let z = a.0.1 in
      let n = record_length a.0.0 in
      let o : p + n + sum_of (λ y. length_of y.relation) xs ≡ p + (n + sum_of (λ y. length_of y.relation) xs) = omega arith in
      rw (z, placed-more xs (p + n) a.1, o)

ends-before : (xs : List Context) (p n : ℕ) → p + records_long xs ≤ n → All (Ends n) (placed_from xs p)
unfolding placed_from records_long sum_of
ends-before [] p n h = tt
ends-before (x ∷ xs) p n h = by x.relation h (ends-before xs (p + length_of x.relation) n (omega (arith, h)))
  where
    by : (o : Option Relation) → p + (length_of o + records_long xs) ≤ n → All (Ends n) (placed_from xs (p + length_of o)) →
        All (Ends n) (placed_by o p (placed_from xs (p + length_of o)))
    by none g l = l
    by (some r) g l = (omega (arith, g), l)

one_more : (xs : List Context) (rows rows' : List ℕ) (c : Context) (r : Relation) (e e' : List ℕ) → c.relation ≡ some r → SameRecords xs rows rows' →
    SameRecord r e e' → SameRecords (xs ++ (c ∷ [])) (rows ++ e) (rows' ++ e')
one_more xs rows rows' c r e e' k h w =
    let n = records_long xs in
    let o : 0 + n ≡ n + 0 = omega arith in
    let p : placed_from (xs ++ (c ∷ [])) 0 ≡ placed_from xs 0 ++ map (moved n) (alone r) =
    placed-more c r k xs 0 h.known ∙ ap (λ m. placed_from xs 0 ++ (record { relation = r; place = m } ∷ [])) o in
    record {
      known = known_more c r k xs h.known;
      long = omega (arith, length-append rows e, h.long, w.long, long-more c r k xs);
      alike = subst (λ l. Alike l (rows ++ e) (rows' ++ e')) (sym p)
          (joined-alike n rows rows' e e' h.long (sym h.alike.sized ∙ h.long) (placed_from xs 0) (alone r) (ends-before xs 0 n (omega arith)) h.alike w.alike);
    }

-- ---- a run

kept_same : {A B : Type 0} (P : A → A → Type 0) (f g : A → B) (test : B → Result Truth) → ((x y : A) → P x y → test (f x) ≡ test (g y)) →
    (l l' : List A) → Pairs P l l' → kept_of test (map f l) ≡ kept_of test (map g l')
unfolding kept_of
kept_same P f g test h _ _ no_pair = refl
kept_same P f g test h (x ∷ l) (y ∷ l') (pairs a b) =
    ap₂ (λ m k. m >>= (λ t. k >>= (λ n. is (kept t n)))) (h x y a) (kept_same P f g test h l l' b)

-- a statistic, whose test and number give the same
bind-same : {A B : Type 0} (m m' : Result A) (u v : A → Result B) → m ≡ m' → ((x : A) → u x ≡ v x) → (m >>= u) ≡ (m' >>= v)
bind-same m m' u v e h = ap (λ l. l >>= u) e ∙ after m'
  where
    after : (l : Result _) → (l >>= u) ≡ (l >>= v)
    after (is x) = h x
    after (refused r p) = refl
    after stray = refl

module _ {A B : Type 0} (P : A → A → Type 0) (f g : A → B) (k : Statistic) (p : ℕ) (test : B → Result Truth) (values : B → Result Datum)
    (tests : (x y : A) → P x y → test (f x) ≡ test (g y)) (numbers : (x y : A) → P x y → values (f x) ≡ values (g y)) where
  gather-same : (t : Truth) (h : Gathered) (x y : A) → P x y → if_kept t k p values h (f x) ≡ if_kept t k p values h (g y)
  gather-same True h x y a = ap (λ m. m >>= (λ v. with_value k p h v)) (numbers x y a)
  gather-same False h x y a = refl
  gather-same (Missing w) h x y a = refl

  gathered-same : (h : Gathered) (l l' : List A) → Pairs P l l' → gathered_of k p test values h (map f l) ≡ gathered_of k p test values h (map g l')
  unfolding gathered_of
  gathered-same h _ _ no_pair = refl
  gathered-same h (x ∷ l) (y ∷ l') (pairs a b) =
      bind-same (test (f x)) (test (g y)) _ _ (tests x y a) (λ t.
      bind-same (if_kept t k p values h (f x)) (if_kept t k p values h (g y)) _ _ (gather-same t h x y a) (λ i. gathered-same i l l' b))

  numbers-same : (kind : Option Grammar.Kind) (l l' : List A) → Pairs P l l' →
      numbers_over k p kind (some (map f l)) test values ≡ numbers_over k p kind (some (map g l')) test values
  numbers-same none l l' w = refl
  numbers-same (some GrammarKind.Text) l l' w = refl
  numbers-same (some GrammarKind.Date) l l' w = refl
  numbers-same (some (GrammarKind.Number scale)) l l' w = ap (λ m. m >>= (λ h. statistic_of k p h)) (gathered-same (nothing_yet scale) l l' w)

-- ---- values and booleans

module _ (e : Environment) (images : List ℕ) (runs runs' : List LentRun) where
  same-fetch : (sc : Scope) (rows rows' : List ℕ) → SameRecords sc.contexts rows rows' → (r : Reference) →
      fetch_around (standing e images runs sc rows) r ≡ fetch_around (standing e images runs' sc rows') r
  unfolding fetch_around
  same-fetch sc rows rows' w r = same_references e.messages sc images rows rows' (by-places sc.contexts rows rows' w.known w.alike) r

  -- what stands around with one record more of one stream
  abbrev inside : List LentRun → List Stream → ℕ → Scope → List ℕ → List ℕ → Around
  inside l ss o sc rows x = standing e images l (under_streams e.relations o sc ss) (rows ++ x)

  -- what is worked out over each record of a run is the same, if it is the same over records alike
  each_same : {B : Type 0} (ss : List Stream) (o : ℕ) (sc : Scope) (rows rows' : List ℕ) (p : ℕ) → SameRecords sc.contexts rows rows' →
      All (SameRun runs runs') (due_run e.relations ss p) → (over : Option (List Around) → B) →
      ((r : Relation) (l l' : List (List ℕ)) → Pairs (SameRecord r) l l' →
      ((x y : List ℕ) → SameRecord r x y → SameRecords (under_streams e.relations o sc ss).contexts (rows ++ x) (rows' ++ y)) →
      over (some (map (inside runs ss o sc rows) l)) ≡ over (some (map (inside runs' ss o sc rows') l'))) →
      over (within_each (standing e images runs sc rows) p o ss) ≡ over (within_each (standing e images runs' sc rows') p o ss)
  unfolding within_each within under_streams
  each_same [] o sc rows rows' p w l over h = refl
  each_same (s ∷ []) o sc rows rows' p w l over h =
      let x = l.0 in
      let c = stream_context e.relations o s in
      rw (x.found, x.found')
      (h x.relation x.run.records x.run'.records x.alike
      (λ y y' a. one_more sc.contexts rows rows' c x.relation y y' x.relation_is w a))
  each_same (s ∷ t ∷ ss) o sc rows rows' p w l over h = refl

  abbrev valued : Scope → List ℕ → ℕ → Value → Result Datum
  valued sc rows p v = value_of e.version (standing e images runs sc rows) p v

  abbrev valued' : Scope → List ℕ → ℕ → Value → Result Datum
  valued' sc rows p v = value_of e.version (standing e images runs' sc rows) p v

  abbrev runs_in : Value → ℕ → List DueRun
  runs_in v p = value_runs e.relations v p

  -- the same in both, in a scope
  abbrev Same : {B : Type 0} → Scope → (Around → B) → Type 0
  Same sc f =
      (more more' : List ℕ) → SameRecords sc.contexts more more' → f (standing e images runs sc more) ≡ f (standing e images runs' sc more')

  mutual
    unfolding value_of rse_number rse_count truth_of rse_truth clauses_truth value_runs due_runs rse_runs clauses_runs

    pub same-value : (v : Value) (sc : Scope) (rows rows' : List ℕ) (p : ℕ) → SameRecords sc.contexts rows rows' →
        All (SameRun runs runs') (runs_in v p) → valued sc rows p v ≡ valued' sc rows' p v
    same-value (literal i) sc rows rows' p w l = refl
    same-value (reference r) sc rows rows' p w l = ap (fetched_at p) (same-fetch sc rows rows' w r)
    same-value (arithmetic o x y) sc rows rows' p w l =
        let n = p + 1 + size x in
        ap₂ (λ m k. m >>= (λ i. k >>= (λ j. arithmetic_of e.version o p i j)))
        (same-value x sc rows rows' (p + 1) w (all_first _ (runs_in x (p + 1)) (runs_in y n) l))
        (same-value y sc rows rows' n w (all-second _ (runs_in x (p + 1)) (runs_in y n) l))
    same-value (negate x) sc rows rows' p w l = ap (λ m. m >>= (λ i. negate_of p i)) (same-value x sc rows rows' (p + 1) w l)
    same-value (statistic k r v) sc rows rows' p w l =
        let n = p + 1 + length (rse_bytes r) in
        let inner = under_rse_of e.relations (statistic_code k) sc r in
        same_number r k sc rows rows' p _ (λ x. value_of e.version x n v) w (all_first _ (rse_runs e.relations r p) (runs_in v n) l) (λ more more' u.
        same-value v inner more more' n u (all-second _ (rse_runs e.relations r p) (runs_in v n) l))
    same-value (count r) sc rows rows' p w l = same_count r sc rows rows' p w l

    same_number : (r : Rse) (k : Statistic) (sc : Scope) (rows rows' : List ℕ) (p : ℕ) (kind : Option Grammar.Kind) (values : Around → Result Datum) →
        SameRecords sc.contexts rows rows' → All (SameRun runs runs') (rse_runs e.relations r p) →
        Same (under_rse_of e.relations (statistic_code k) sc r) values →
        rse_number e.version (standing e images runs sc rows) p k r kind values ≡
        rse_number e.version (standing e images runs' sc rows') p k r kind values
    same_number (rse ss cs) k sc rows rows' p kind values w l h =
        let n = p + 1 + length (head_bytes ss) in
        let o = statistic_code k in
        let test : Around → Result Truth = λ x. clauses_truth e.version x n cs in
        let inner = under_streams e.relations o sc ss in
        each_same ss o sc rows rows' p w (all_first _ (due_run e.relations ss p) (clauses_runs e.relations cs n) l)
        (λ run. numbers_over k p kind run test values) (λ r m m' both one.
        numbers-same (SameRecord r) (inside runs ss o sc rows) (inside runs' ss o sc rows') k p test values (λ x y a.
        same-clauses cs inner (rows ++ x) (rows' ++ y) n (one x y a) (all-second _ (due_run e.relations ss p) (clauses_runs e.relations cs n) l))
        (λ x y a. h (rows ++ x) (rows' ++ y) (one x y a)) kind m m' both)

    same_count : (r : Rse) (sc : Scope) (rows rows' : List ℕ) (p : ℕ) → SameRecords sc.contexts rows rows' →
        All (SameRun runs runs') (rse_runs e.relations r p) →
        rse_count e.version (standing e images runs sc rows) p r ≡ rse_count e.version (standing e images runs' sc rows') p r
    same_count (rse ss cs) sc rows rows' p w l =
        let n = p + 1 + length (head_bytes ss) in
        let o = blr.count in
        let test : Around → Result Truth = λ x. clauses_truth e.version x n cs in
        let inner = under_streams e.relations o sc ss in
        each_same ss o sc rows rows' p w (all_first _ (due_run e.relations ss p) (clauses_runs e.relations cs n) l) (λ run. count_over run test) (λ r m m' both one.
        ap (λ j. j >>= (λ i. is (number (whole i))))
        (kept_same (SameRecord r) (inside runs ss o sc rows) (inside runs' ss o sc rows') test (λ x y a.
        same-clauses cs inner (rows ++ x) (rows' ++ y) n (one x y a) (all-second _ (due_run e.relations ss p) (clauses_runs e.relations cs n) l)) m m' both))

    pub same_truth : (b : Boolean) (sc : Scope) (rows rows' : List ℕ) (p : ℕ) → SameRecords sc.contexts rows rows' →
        All (SameRun runs runs') (due_runs e.relations b p) →
        truth_of e.version (standing e images runs sc rows) p b ≡ truth_of e.version (standing e images runs' sc rows') p b
    same_truth (compare c x y) sc rows rows' p w l =
        let n = p + 1 + size x in
        ap₂ (λ m k. m >>= (λ i. k >>= (λ j. compare_of c i j)))
        (same-value x sc rows rows' (p + 1) w (all_first _ (runs_in x (p + 1)) (runs_in y n) l))
        (same-value y sc rows rows' n w (all-second _ (runs_in x (p + 1)) (runs_in y n) l))
    same_truth (search t x y) sc rows rows' p w l =
        let n = p + 1 + size x in
        ap₂ (λ m k. m >>= (λ i. k >>= (λ j. search_of t i j)))
        (same-value x sc rows rows' (p + 1) w (all_first _ (runs_in x (p + 1)) (runs_in y n) l))
        (same-value y sc rows rows' n w (all-second _ (runs_in x (p + 1)) (runs_in y n) l))
    same_truth (between x y z) sc rows rows' p w l =
        let n = p + 1 + size x in
        let m = p + 1 + size x + size y in
        let first = all_first _ (runs_in x (p + 1) ++ runs_in y n) (runs_in z m) l in
        bind-same (valued sc rows (p + 1) x) (valued' sc rows' (p + 1) x) _ _
        (same-value x sc rows rows' (p + 1) w (all_first _ (runs_in x (p + 1)) (runs_in y n) first)) (λ i.
        ap₂ (λ q k. q >>= (λ j. k >>= (λ h. between_of i j h)))
        (same-value y sc rows rows' n w (all-second _ (runs_in x (p + 1)) (runs_in y n) first))
        (same-value z sc rows rows' m w (all-second _ (runs_in x (p + 1) ++ runs_in y n) (runs_in z m) l)))
    same_truth (connect c a b) sc rows rows' p w l =
        let n = p + 1 + boolean_size a in
        ap₂ (λ m k. m >>= (λ i. k >>= (λ j. is (connected c i j))))
        (same_truth a sc rows rows' (p + 1) w (all_first _ (due_runs e.relations a (p + 1)) (due_runs e.relations b n) l))
        (same_truth b sc rows rows' n w (all-second _ (due_runs e.relations a (p + 1)) (due_runs e.relations b n) l))
    same_truth (not a) sc rows rows' p w l = ap (λ m. m >>= (λ i. is (opposite i))) (same_truth a sc rows rows' (p + 1) w l)
    same_truth (missing x) sc rows rows' p w l = ap (λ m. m >>= (λ i. is (missing_of i))) (same-value x sc rows rows' (p + 1) w l)
    same_truth (quantify q r) sc rows rows' p w l = same-rse r q sc rows rows' p w l

    same-rse : (r : Rse) (q : Quantifier) (sc : Scope) (rows rows' : List ℕ) (p : ℕ) → SameRecords sc.contexts rows rows' →
        All (SameRun runs runs') (rse_runs e.relations r p) →
        rse_truth e.version (standing e images runs sc rows) p q r ≡ rse_truth e.version (standing e images runs' sc rows') p q r
    same-rse (rse ss cs) q sc rows rows' p w l =
        let n = p + 1 + length (head_bytes ss) in
        let o = quantifier_code q in
        let test : Around → Result Truth = λ x. clauses_truth e.version x n cs in
        let inner = under_streams e.relations o sc ss in
        each_same ss o sc rows rows' p w (all_first _ (due_run e.relations ss p) (clauses_runs e.relations cs n) l) (λ run. over_run q run test) (λ r m m' both one.
        ap (λ j. j >>= (λ i. is (answer_of q i)))
        (kept_same (SameRecord r) (inside runs ss o sc rows) (inside runs' ss o sc rows') test (λ x y a.
        same-clauses cs inner (rows ++ x) (rows' ++ y) n (one x y a) (all-second _ (due_run e.relations ss p) (clauses_runs e.relations cs n) l)) m m' both))

    same-clauses : (cs : Clauses) (sc : Scope) (rows rows' : List ℕ) (p : ℕ) → SameRecords sc.contexts rows rows' →
        All (SameRun runs runs') (clauses_runs e.relations cs p) →
        clauses_truth e.version (standing e images runs sc rows) p cs ≡ clauses_truth e.version (standing e images runs' sc rows') p cs
    same-clauses no_clauses sc rows rows' p w l = refl
    same-clauses (such b cs) sc rows rows' p w l =
        same_truth b sc rows rows' (p + 1) w (all_first _ (due_runs e.relations b (p + 1)) (clauses_runs e.relations cs (p + 1 + boolean_size b)) l)
    same-clauses (sorted ks cs) sc rows rows' p w l = same-clauses cs sc rows rows' (p + 2 + length (keys_bytes ks)) w l
