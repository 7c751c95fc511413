-- Where the refusals of a meaning stand: inside the condition, or inside the from-value.
use Prim.Native.Nat.{ℕ, zero, suc, ◌+◌, ◌<◌, ◌≤◌}
use mathlib.Core.Path.{◌≡◌, refl}
use mathlib.Core.List.{List, [], ◌∷◌, ◌++◌}
use mathlib.Core.Option.{Option, none, some}
use native.Mathlib.Omega.{arith}
use lib.ListN.{length, length-append}
use Rattle.wire.specs.Codes as blr
use Rattle.wire.specs.declared.codes.Version.{Version}
use Rattle.wire.specs.declared.codes.Operator.{Operator}
use Rattle.wire.specs.declared.codes.Statistic.{Statistic}
use Rattle.wire.specs.declared.codes.Statistic.TheVariants.{Average, Maximum, Minimum, Total}
use Rattle.wire.specs.declared.codes.Comparison.{Comparison}
use Rattle.wire.specs.declared.codes.Comparison.TheVariants.{Geq, Leq}
use Rattle.wire.specs.declared.codes.TextSearch.{TextSearch}
use Rattle.wire.specs.declared.codes.Quantifier.{Quantifier}
use Rattle.std.specs.Prelude.{Ok, Err}
use Rattle.decimal.specs.declared.Number.{Number}
use Rattle.decimal.specs.Number.{Computed, added, quotient, computed, negated}
use Rattle.dictionary.specs.Naming.{named, numbered}
use Rattle.grammar.specs.declared.Kind as Grammar
use Rattle.grammar.specs.declared.Kind.TheVariants as GrammarKind
use Rattle.grammar.specs.Tree.{Reference, field, parameter, parameter2, Value, literal, reference, arithmetic, negate, statistic, count, Boolean, compare, search, between, connect, not, missing, quantify, Clauses, no_clauses, such, sorted, Rse, rse}
use Rattle.grammar.specs.Bytes.{statistic_code, quantifier_code, reference_bytes, value_bytes, boolean_bytes, keys_bytes, clauses_bytes, head_bytes, rse_bytes}
use Rattle.meaning.specs.declared.Truth.{Truth}
use Rattle.meaning.specs.declared.Truth.TheVariants.{True, False, Missing}
use Rattle.meaning.specs.declared.Kind.TheVariants as Kind
use Rattle.meaning.specs.declared.Fault.{Fault}
use Rattle.meaning.specs.Data.{Result, is, refused, stray, ◌>>=◌, Datum, number, text, date, absent, Pair, numbers, texts, dates, lacking, unfit, pair, result, arithmetic_pair, arithmetic_of, negate_of, compare_pair, compare_of, search_pair, search_of, between_of, Gathered, whole, nothing_yet, summed, with_number, with_value, from_gathered, statistic_of}
use Rattle.meaning.specs.Inputs.{Fetched, value, malformed, nothing}
use Rattle.meaning.specs.Runs.{Around, fetch_around, within_each}
use Rattle.meaning.specs.Meaning.{fetched_at, size, boolean_size, kept_of, over_run, if_kept, gathered_of, numbers_over, count_over, value_of, rse_number, rse_count, truth_of, rse_truth, clauses_truth}

-- a refusal's place is from lo on and before hi
abbrev pub Within : {A : Type 0} → ℕ → ℕ → Result A → Type 0
Within lo hi (is x) = Unit {0}
Within lo hi (refused f p) = (lo ≤ p) × (p < hi)
Within lo hi stray = Unit {0}

widen : {A : Type 0} (lo hi lo' hi' : ℕ) (m : Result A) → lo' ≤ lo → hi ≤ hi' → Within lo hi m → Within lo' hi' m
widen lo hi lo' hi' (is x) a b h = tt
widen lo hi lo' hi' (refused f p) a b h = let l = h.0 in let u = h.1 in (omega (arith, l), omega (arith, u))
widen lo hi lo' hi' stray a b h = tt

onward : {A B : Type 0} (lo hi : ℕ) (m : Result A) (f : A → Result B) → Within lo hi m → ((x : A) → Within lo hi (f x)) → Within lo hi (m >>= f)
onward lo hi (is x) f h n = n x
onward lo hi (refused r p) f h n = h
onward lo hi stray f h n = tt

-- ---- operators, at p

computed-within : (p hi : ℕ) (c : Computed) → p < hi → Within p hi (result p c)
computed-within p hi (Ok a) h = tt
computed-within p hi (Err e) h = (omega arith, h)

arithmetic-within : (v : Version) (o : Operator) (p hi : ℕ) (x y : Datum) → p < hi → Within p hi (arithmetic_of v o p x y)
unfolding arithmetic_of
arithmetic-within v o p hi x y h = by (pair x y)
  where
    by : (z : Pair) → Within p hi (arithmetic_pair v o p z)
    by (numbers a b) = computed-within p hi (computed v o a b) h
    by (texts t u) = tt
    by (dates d f e g) = tt
    by (lacking Kind.Number w) = tt
    by (lacking Kind.Text w) = tt
    by (lacking Kind.Date w) = tt
    by unfit = tt

negate-within : (p hi : ℕ) (x : Datum) → p < hi → Within p hi (negate_of p x)
unfolding negate_of
negate-within p hi (number a) h = computed-within p hi (negated a) h
negate-within p hi (text t) h = tt
negate-within p hi (date d f) h = tt
negate-within p hi (absent Kind.Number w) h = tt
negate-within p hi (absent Kind.Text w) h = tt
negate-within p hi (absent Kind.Date w) h = tt

-- a test of values refuses nothing itself
compare-within : (lo hi : ℕ) (c : Comparison) (x y : Datum) → Within lo hi (compare_of c x y)
unfolding compare_of
compare-within lo hi c x y = by (pair x y)
  where
    by : (z : Pair) → Within lo hi (compare_pair c z)
    by (numbers a b) = tt
    by (texts t u) = tt
    by (dates d f e g) = tt
    by (lacking k w) = tt
    by unfit = tt

search-within : (lo hi : ℕ) (t : TextSearch) (x y : Datum) → Within lo hi (search_of t x y)
unfolding search_of
search-within lo hi t x y = by (pair x y)
  where
    by : (z : Pair) → Within lo hi (search_pair t z)
    by (numbers a b) = tt
    by (texts u v) = tt
    by (dates d f e g) = tt
    by (lacking Kind.Number w) = tt
    by (lacking Kind.Text w) = tt
    by (lacking Kind.Date w) = tt
    by unfit = tt

between-within : (lo hi : ℕ) (x y z : Datum) → Within lo hi (between_of x y z)
unfolding between_of
between-within lo hi x y z =
    onward lo hi (compare_of Geq x y) _ (compare-within lo hi Geq x y) (λ a. onward lo hi (compare_of Leq x z) _ (compare-within lo hi Leq x z) (λ b. tt))

-- ---- values and booleans

fetched-within : (p hi : ℕ) (f : Fetched) → p < hi → Within p hi (fetched_at p f)
fetched-within p hi (value x) h = tt
fetched-within p hi malformed h = (omega arith, h)
fetched-within p hi nothing h = tt

reference-long : (r : Reference) → 0 < length (reference_bytes r)
unfolding reference_bytes
reference-long (field c (named n)) = omega arith
reference-long (field c (numbered i)) = omega arith
reference-long (parameter m i) = omega arith
reference-long (parameter2 m i flag) = omega arith

-- a part of n bytes at q, and what follows from it
below : {A B : Type 0} (p hi q n : ℕ) (m : Result A) (f : A → Result B) → p ≤ q → q + n ≤ hi → Within q (q + n) m → ((x : A) → Within p hi (f x)) →
    Within p hi (m >>= f)
below p hi q n m f a b h k = onward p hi m f (widen q (q + n) p hi m a b h) k

-- ---- runs

-- a run refuses only where its test does
kept-within : {A : Type 0} (lo hi : ℕ) (test : A → Result Truth) → ((x : A) → Within lo hi (test x)) → (l : List A) → Within lo hi (kept_of test l)
unfolding kept_of
kept-within lo hi test h [] = tt
kept-within lo hi test h (x ∷ l) = onward lo hi (test x) _ (h x) (λ t. onward lo hi (kept_of test l) _ (kept-within lo hi test h l) (λ n. tt))

over-within : {A : Type 0} (lo hi : ℕ) (q : Quantifier) (run : Option (List A)) (test : A → Result Truth) → ((x : A) → Within lo hi (test x)) →
    Within lo hi (over_run q run test)
over-within lo hi q none test h = tt
over-within lo hi q (some l) test h = onward lo hi (kept_of test l) _ (kept-within lo hi test h l) (λ n. tt)

count-within : {A : Type 0} (lo hi : ℕ) (run : Option (List A)) (test : A → Result Truth) → ((x : A) → Within lo hi (test x)) →
    Within lo hi (count_over run test)
count-within lo hi none test h = tt
count-within lo hi (some l) test h = onward lo hi (kept_of test l) _ (kept-within lo hi test h l) (λ n. tt)

-- a statistic at p refuses itself only there
summed-within : (p hi n : ℕ) (c : Computed) → p < hi → Within p hi (summed p n c)
summed-within p hi n (Ok a) h = tt
summed-within p hi n (Err e) h = (omega arith, h)

number-gathered : (k : Statistic) (p hi n : ℕ) (a x : Number) → p < hi → Within p hi (with_number k p n a x)
number-gathered Average p hi n a x h = summed-within p hi (n + 1) (added a x) h
number-gathered Maximum p hi n a x h = tt
number-gathered Minimum p hi n a x h = tt
number-gathered Total p hi n a x h = summed-within p hi (n + 1) (added a x) h

value-gathered : (k : Statistic) (p hi : ℕ) (g : Gathered) (x : Datum) → p < hi → Within p hi (with_value k p g x)
unfolding with_value
value-gathered k p hi g (number x) h = number-gathered k p hi g.values g.number x h
value-gathered k p hi g (text t) h = tt
value-gathered k p hi g (date d f) h = tt
value-gathered k p hi g (absent Kind.Number w) h = tt
value-gathered k p hi g (absent Kind.Text w) h = tt
value-gathered k p hi g (absent Kind.Date w) h = tt

result-within : (k : Statistic) (p hi n : ℕ) (a : Number) → p < hi → Within p hi (from_gathered k p n a)
result-within Average p hi zero a h = tt
result-within Average p hi (suc n) a h = computed-within p hi (quotient a (whole (suc n))) h
result-within Maximum p hi zero a h = tt
result-within Maximum p hi (suc n) a h = tt
result-within Minimum p hi zero a h = tt
result-within Minimum p hi (suc n) a h = tt
result-within Total p hi n a h = tt

module _ {A : Type 0} (k : Statistic) (p hi : ℕ) (test : A → Result Truth) (values : A → Result Datum) (room : p < hi)
    (tests : (x : A) → Within p hi (test x)) (numbered : (x : A) → Within p hi (values x)) where
  kept-gathered : (t : Truth) (g : Gathered) (x : A) → Within p hi (if_kept t k p values g x)
  kept-gathered True g x = onward p hi (values x) _ (numbered x) (λ v. value-gathered k p hi g v room)
  kept-gathered False g x = tt
  kept-gathered (Missing w) g x = tt

  gathered-within : (g : Gathered) (l : List A) → Within p hi (gathered_of k p test values g l)
  unfolding gathered_of
  gathered-within g [] = tt
  gathered-within g (x ∷ l) =
      onward p hi (test x) _ (tests x) (λ t. onward p hi (if_kept t k p values g x) _ (kept-gathered t g x) (λ h. gathered-within h l))

  numbers-within : (kind : Option Grammar.Kind) (run : Option (List A)) → Within p hi (numbers_over k p kind run test values)
  unfolding statistic_of
  numbers-within none run = tt
  numbers-within (some GrammarKind.Text) run = tt
  numbers-within (some GrammarKind.Date) run = tt
  numbers-within (some (GrammarKind.Number scale)) none = tt
  numbers-within (some (GrammarKind.Number scale)) (some l) =
      onward p hi (gathered_of k p test values (nothing_yet scale) l) _ (gathered-within (nothing_yet scale) l)
      (λ g. result-within k p hi g.values g.number room)

-- ---- values and booleans

module _ (e : Version) where
  mutual
    unfolding value_of rse_number rse_count truth_of rse_truth clauses_truth value_bytes boolean_bytes rse_bytes clauses_bytes

    pub value-within : (a : Around) (v : Value) (p : ℕ) → Within p (p + size v) (value_of e a p v)
    value-within a (literal l) p = tt
    value-within a (reference r) p = fetched-within p _ (fetch_around a r) (omega (arith, reference-long r))
    value-within a (arithmetic o v w) p =
        let l = length-append (value_bytes v) (value_bytes w) in
        let n = p + 1 + size v in
        below p _ (p + 1) (size v) (value_of e a (p + 1) v) _ (omega arith) (omega (arith, l)) (value-within a v (p + 1)) (λ x.
        below p _ n (size w) (value_of e a n w) _ (omega arith) (omega (arith, l)) (value-within a w n) (λ y.
        arithmetic-within e o p _ x y (omega arith)))
    value-within a (negate v) p =
        below p _ (p + 1) (size v) (value_of e a (p + 1) v) _ (omega arith) (omega arith) (value-within a v (p + 1)) (λ x. negate-within p _ x (omega arith))
    value-within a (statistic k r v) p =
        let l = length-append (rse_bytes r) (value_bytes v) in
        let n = p + 1 + length (rse_bytes r) in
        number-within a k r _ _ p _ (omega (arith, l)) (λ x. widen _ _ p _ (value_of e x n v) (omega arith) (omega (arith, l)) (value-within x v n))
    value-within a (count r) p = counted-within a r p

    number-within : (a : Around) (k : Statistic) (r : Rse) (kind : Option Grammar.Kind) (values : Around → Result Datum) (p hi : ℕ) →
        p + suc (length (rse_bytes r)) ≤ hi → ((x : Around) → Within p hi (values x)) → Within p hi (rse_number e a p k r kind values)
    number-within a k (rse ss cs) kind values p hi room h =
        let l = length-append (head_bytes ss) (clauses_bytes cs) in
        let n = p + 1 + length (head_bytes ss) in
        numbers-within k p hi _ values (omega (arith, room))
        (λ x. widen _ _ p hi (clauses_truth e x n cs) (omega arith) (omega (arith, l, room)) (clauses-within x cs n)) h kind (within_each a p (statistic_code k) ss)

    counted-within : (a : Around) (r : Rse) (p : ℕ) → Within p (p + suc (length (rse_bytes r))) (rse_count e a p r)
    counted-within a (rse ss cs) p =
        let l = length-append (head_bytes ss) (clauses_bytes cs) in
        let n = p + 1 + length (head_bytes ss) in
        count-within p _ (within_each a p blr.count ss) _
        (λ x. widen _ _ p _ (clauses_truth e x n cs) (omega arith) (omega (arith, l)) (clauses-within x cs n))

    pub truth-within : (a : Around) (b : Boolean) (p : ℕ) → Within p (p + boolean_size b) (truth_of e a p b)
    truth-within a (compare c v w) p =
        let l = length-append (value_bytes v) (value_bytes w) in
        let n = p + 1 + size v in
        below p _ (p + 1) (size v) (value_of e a (p + 1) v) _ (omega arith) (omega (arith, l)) (value-within a v (p + 1)) (λ x.
        below p _ n (size w) (value_of e a n w) _ (omega arith) (omega (arith, l)) (value-within a w n) (λ y. compare-within _ _ c x y))
    truth-within a (search t v w) p =
        let l = length-append (value_bytes v) (value_bytes w) in
        let n = p + 1 + size v in
        below p _ (p + 1) (size v) (value_of e a (p + 1) v) _ (omega arith) (omega (arith, l)) (value-within a v (p + 1)) (λ x.
        below p _ n (size w) (value_of e a n w) _ (omega arith) (omega (arith, l)) (value-within a w n) (λ y. search-within _ _ t x y))
    truth-within a (between u v w) p =
        let l = length-append (value_bytes u ++ value_bytes v) (value_bytes w) in
        let k = length-append (value_bytes u) (value_bytes v) in
        let n = p + 1 + size u in
        let m = p + 1 + size u + size v in
        below p _ (p + 1) (size u) (value_of e a (p + 1) u) _ (omega arith) (omega (arith, l, k)) (value-within a u (p + 1)) (λ x.
        below p _ n (size v) (value_of e a n v) _ (omega arith) (omega (arith, l, k)) (value-within a v n) (λ y.
        below p _ m (size w) (value_of e a m w) _ (omega arith) (omega (arith, l, k)) (value-within a w m) (λ z. between-within _ _ x y z)))
    truth-within a (connect c b d) p =
        let l = length-append (boolean_bytes b) (boolean_bytes d) in
        let n = p + 1 + boolean_size b in
        below p _ (p + 1) (boolean_size b) (truth_of e a (p + 1) b) _ (omega arith) (omega (arith, l)) (truth-within a b (p + 1)) (λ x.
        below p _ n (boolean_size d) (truth_of e a n d) _ (omega arith) (omega (arith, l)) (truth-within a d n) (λ y. tt))
    truth-within a (not b) p =
        below p _ (p + 1) (boolean_size b) (truth_of e a (p + 1) b) _ (omega arith) (omega arith) (truth-within a b (p + 1)) (λ x. tt)
    truth-within a (missing v) p =
        below p _ (p + 1) (size v) (value_of e a (p + 1) v) _ (omega arith) (omega arith) (value-within a v (p + 1)) (λ x. tt)
    truth-within a (quantify q r) p = rse-within a q r p

    rse-within : (a : Around) (q : Quantifier) (r : Rse) (p : ℕ) → Within p (p + suc (length (rse_bytes r))) (rse_truth e a p q r)
    rse-within a q (rse ss cs) p =
        let l = length-append (head_bytes ss) (clauses_bytes cs) in
        let n = p + 1 + length (head_bytes ss) in
        over-within p _ q (within_each a p (quantifier_code q) ss) _
        (λ x. widen _ _ p _ (clauses_truth e x n cs) (omega arith) (omega (arith, l)) (clauses-within x cs n))

    clauses-within : (a : Around) (cs : Clauses) (p : ℕ) → Within p (p + length (clauses_bytes cs)) (clauses_truth e a p cs)
    clauses-within a no_clauses p = tt
    clauses-within a (such b cs) p =
        let l = length-append (boolean_bytes b) (clauses_bytes cs) in
        widen _ _ p _ (truth_of e a (p + 1) b) (omega arith) (omega (arith, l)) (truth-within a b (p + 1))
    clauses-within a (sorted ks cs) p =
        let l = length-append (keys_bytes ks) (clauses_bytes cs) in
        let n = p + 2 + length (keys_bytes ks) in
        widen _ _ p _ (clauses_truth e a n cs) (omega arith) (omega (arith, l)) (clauses-within a cs n)
