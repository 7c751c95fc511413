-- The meaning of a condition or a from-value that the rules allow is never stray.
use Prim.Native.Nat.{ℕ, zero, suc, ◌+◌}
use mathlib.Core.Path.{◌≡◌, refl, sym, ap, subst, ◌∙◌}
use mathlib.Core.Bool.{Bool, true, false, cond, ◌&&◌}
use mathlib.Core.List.{List, [], ◌∷◌, ◌++◌, map}
use mathlib.Core.Option.{Option, none, some}
use native.Mathlib.Omega.{arith}
use lib.ListN.{length}
use lib.IntN.{ℤ, pos, negsuc}
use lib.Signed.{le_z}
use Rattle.wire.specs.Codes as blr
use Rattle.wire.specs.Lists.{is_some}
use Rattle.wire.specs.declared.codes.Version.{Version}
use Rattle.wire.specs.declared.codes.Operator.{Operator}
use Rattle.wire.specs.declared.codes.Statistic.{Statistic}
use Rattle.wire.specs.declared.codes.Statistic.TheVariants.{Average, Maximum, Minimum, Total}
use Rattle.wire.specs.declared.codes.Comparison.{Comparison}
use Rattle.wire.specs.declared.codes.Comparison.TheVariants.{Geq, Leq}
use Rattle.wire.specs.declared.codes.TextSearch.{TextSearch}
use Rattle.wire.specs.declared.codes.Quantifier.{Quantifier}
use Rattle.std.specs.Prelude.{Ok, Err}
use Rattle.decimal.specs.declared.Number.{Number}
use Rattle.decimal.specs.Number.{Computed, added, quotient, computed, negated}
use Rattle.grammar.specs.declared.Kind as Scaled
use Rattle.grammar.specs.declared.Kind.TheVariants as ScaledKind
use Rattle.grammar.specs.Tree.{Stream, Literal, Reference, Value, literal, reference, arithmetic, negate, statistic, count, Boolean, compare, search, between, connect, not, missing, quantify, Clauses, no_clauses, such, sorted, Rse, rse}
use Rattle.grammar.specs.Bytes.{statistic_code, quantifier_code, keys_bytes, head_bytes, rse_bytes}
use Rattle.grammar.specs.Environment.{Environment, Scope, under_streams, under_rse_of}
use Rattle.grammar.specs.Kinds.{kind_of, reference_kind, literal_kind, alike, one_kind, both_text, all_one_kind, result_scale, arithmetic_kind, negated_kind}
use Rattle.grammar.specs.Sizes.{OneStream}
use Rattle.grammar.specs.Rules.{ValueAllowed, BooleanAllowed, ClausesAllowed, RseAllowed}
use Rattle.grammar.proofs.StepLaws.{absurd-eq}
use Rattle.meaning.specs.declared.Truth.{Truth}
use Rattle.meaning.specs.declared.Truth.TheVariants.{True, False, Missing}
use Rattle.meaning.specs.declared.Kind.{Kind}
use Rattle.meaning.specs.declared.Kind.TheVariants as Kind
use Rattle.meaning.specs.Data.{Result, is, refused, stray, ◌>>=◌, Datum, number, text, date, absent, kind, same_kind, pair, arithmetic_of, result, negate_of, compare_of, search_of, between_of, missing_of, Gathered, whole, nothing_yet, summed, with_number, with_value, from_gathered, statistic_of}
use Rattle.meaning.specs.Inputs.{Fetched, value, malformed, nothing, literal_value}
use Rattle.meaning.specs.Demand.{NotStray}
use Rattle.meaning.specs.Runs.{DueRun, due_run, value_runs, due_runs, rse_runs, clauses_runs, LentRun, Around, fetch_around, within, within_each}
use Rattle.meaning.specs.Meaning.{fetched_at, size, boolean_size, kept_of, over_run, if_kept, gathered_of, numbers_over, count_over, value_of, rse_number, rse_count, truth_of, rse_truth, clauses_truth}
use Rattle.walking.proofs.Sites.{All}
use Rattle.walking.proofs.Due.{all_first, all-second, Lent}

-- the kind that the rules give a value, its scale aside
abbrev pub unscaled : Scaled.Kind → Kind
unscaled (ScaledKind.Number s) = Kind.Number
unscaled ScaledKind.Text = Kind.Text
unscaled ScaledKind.Date = Kind.Date

-- a value of a kind, or a refusal
abbrev pub OfKind : Kind → Result Datum → Type 0
OfKind k (is x) = kind x ≡ k
OfKind k (refused r p) = Unit {0}
OfKind k stray = ⊥

-- a reference gives a value of a kind, or a malformed text
abbrev pub FetchedOf : Kind → Fetched → Type 0
FetchedOf k (value x) = kind x ≡ k
FetchedOf k malformed = Unit {0}
FetchedOf k nothing = ⊥

-- ---- one after another

on-kind : (k j : Kind) (m : Result Datum) (f : Datum → Result Datum) → OfKind k m → ((x : Datum) → kind x ≡ k → OfKind j (f x)) → OfKind j (m >>= f)
on-kind k j (is x) f h n = n x h
on-kind k j (refused r p) f h n = tt
on-kind k j stray f h n = absurd h

on-truth : (k : Kind) (m : Result Datum) (f : Datum → Result Truth) → OfKind k m → ((x : Datum) → kind x ≡ k → NotStray (f x)) → NotStray (m >>= f)
on-truth k (is x) f h n = n x h
on-truth k (refused r p) f h n = tt
on-truth k stray f h n = absurd h

and_then : {A B : Type 0} (m : Result A) (f : A → Result B) → NotStray m → ((x : A) → NotStray (f x)) → NotStray (m >>= f)
and_then (is x) f h n = n x
and_then (refused r p) f h n = tt
and_then stray f h n = absurd h

-- ---- operators

same_self : (k : Kind) → same_kind k k ≡ true
same_self Kind.Number = refl
same_self Kind.Text = refl
same_self Kind.Date = refl

computed-kind : (p : ℕ) (c : Computed) → OfKind Kind.Number (result p c)
unfolding kind
computed-kind p (Ok a) = refl
computed-kind p (Err e) = tt

arithmetic-kind : (v : Version) (o : Operator) (p : ℕ) (x y : Datum) → kind x ≡ Kind.Number → kind y ≡ Kind.Number → OfKind Kind.Number (arithmetic_of v o p x y)
unfolding arithmetic_of pair kind
arithmetic-kind v o p (number n) (number m) h k = computed-kind p (computed v o n m)
arithmetic-kind v o p (number n) (text u) h k = absurd-eq (cc)
arithmetic-kind v o p (number n) (date t u) h k = absurd-eq (cc)
arithmetic-kind v o p (number n) (absent j w) h k = rw k refl
arithmetic-kind v o p (text t) y h k = absurd-eq (cc)
arithmetic-kind v o p (date t u) y h k = absurd-eq (cc)
arithmetic-kind v o p (absent j w) y h k = rw (k, h) refl

negate-kind : (p : ℕ) (x : Datum) → kind x ≡ Kind.Number → OfKind Kind.Number (negate_of p x)
unfolding negate_of kind
negate-kind p (number n) h = computed-kind p (negated n)
negate-kind p (text t) h = absurd-eq (cc)
negate-kind p (date t u) h = absurd-eq (cc)
negate-kind p (absent Kind.Number w) h = refl
negate-kind p (absent Kind.Text w) h = absurd-eq (cc)
negate-kind p (absent Kind.Date w) h = absurd-eq (cc)

compare-met : (c : Comparison) (x y : Datum) → kind x ≡ kind y → NotStray (compare_of c x y)
unfolding compare_of pair kind
compare-met c (number n) (number m) h = tt
compare-met c (number n) (text u) h = absurd-eq (cc)
compare-met c (number n) (date u v) h = absurd-eq (cc)
compare-met c (number n) (absent k w) h = rw (← h) tt
compare-met c (text t) (number m) h = absurd-eq (cc)
compare-met c (text t) (text u) h = tt
compare-met c (text t) (date u v) h = absurd-eq (cc)
compare-met c (text t) (absent k w) h = rw (← h) tt
compare-met c (date t u) (number m) h = absurd-eq (cc)
compare-met c (date t u) (text v) h = absurd-eq (cc)
compare-met c (date t u) (date v w) h = tt
compare-met c (date t u) (absent k w) h = rw (← h) tt
compare-met c (absent k w) y h = rw (← h, same_self k) tt

search-met : (t : TextSearch) (x y : Datum) → kind x ≡ Kind.Text → kind y ≡ Kind.Text → NotStray (search_of t x y)
unfolding search_of pair kind
search-met t (number n) y h k = absurd-eq (cc)
search-met t (date u v) y h k = absurd-eq (cc)
search-met t (text u) (number m) h k = absurd-eq (cc)
search-met t (text u) (text v) h k = tt
search-met t (text u) (date v w) h k = absurd-eq (cc)
search-met t (text u) (absent j w) h k = rw k tt
search-met t (absent j w) y h k = rw (k, h) tt

between-met : (x y z : Datum) → kind x ≡ kind y → kind x ≡ kind z → NotStray (between_of x y z)
unfolding between_of
between-met x y z h k = and_then (compare_of Geq x y) _ (compare-met Geq x y h) (λ a. and_then (compare_of Leq x z) _ (compare-met Leq x z k) (λ b. tt))

-- ---- what the rules say of kinds

range-number : (s : ℤ) (b : Bool) (k : Scaled.Kind) → cond b (some (ScaledKind.Number s)) none ≡ some k → unscaled k ≡ Kind.Number
range-number s true k e = let z : k ≡ ScaledKind.Number s = cc in ap unscaled z
range-number s false k e = absurd-eq (cc)

-- both operands of an operator are numbers, and so is its result
record OfNumbers (x y : Option Scaled.Kind) (k : Scaled.Kind) : Type 0 where
  first : ℤ
  second : ℤ
  first-is : x ≡ some (ScaledKind.Number first)
  second_is : y ≡ some (ScaledKind.Number second)
  result-is : unscaled k ≡ Kind.Number

operands : (v : Version) (o : Operator) (x y : Option Scaled.Kind) (k : Scaled.Kind) → arithmetic_kind v o x y ≡ some k → OfNumbers x y k
unfolding arithmetic_kind
operands v o (some (ScaledKind.Number a)) (some (ScaledKind.Number b)) k e =
    let s = result_scale v o a b in
    record { first = a; second = b; first-is = refl; second_is = refl; result-is = range-number s (le_z (negsuc 17) s && le_z s (pos 0)) k e }
operands v o (some (ScaledKind.Number a)) (some ScaledKind.Text) k e = absurd-eq (cc)
operands v o (some (ScaledKind.Number a)) (some ScaledKind.Date) k e = absurd-eq (cc)
operands v o (some (ScaledKind.Number a)) none k e = absurd-eq (cc)
operands v o (some ScaledKind.Text) y k e = absurd-eq (cc)
operands v o (some ScaledKind.Date) y k e = absurd-eq (cc)
operands v o none y k e = absurd-eq (cc)

negated-number : (x : Option Scaled.Kind) (k : Scaled.Kind) → negated_kind x ≡ some k → (a : ℤ) × (x ≡ some (ScaledKind.Number a)) × (unscaled k ≡ Kind.Number)
negated-number (some (ScaledKind.Number a)) k e = let z : k ≡ ScaledKind.Number a = cc in (a, refl, ap unscaled z)
negated-number (some ScaledKind.Text) k e = absurd-eq (cc)
negated-number (some ScaledKind.Date) k e = absurd-eq (cc)
negated-number none k e = absurd-eq (cc)

alike-kinds : (a b : Scaled.Kind) → alike a b ≡ true → unscaled a ≡ unscaled b
alike-kinds (ScaledKind.Number a) (ScaledKind.Number b) h = refl
alike-kinds (ScaledKind.Number a) ScaledKind.Text h = absurd-eq (cc)
alike-kinds (ScaledKind.Number a) ScaledKind.Date h = absurd-eq (cc)
alike-kinds ScaledKind.Text (ScaledKind.Number b) h = absurd-eq (cc)
alike-kinds ScaledKind.Text ScaledKind.Text h = refl
alike-kinds ScaledKind.Text ScaledKind.Date h = absurd-eq (cc)
alike-kinds ScaledKind.Date (ScaledKind.Number b) h = absurd-eq (cc)
alike-kinds ScaledKind.Date ScaledKind.Text h = absurd-eq (cc)
alike-kinds ScaledKind.Date ScaledKind.Date h = refl

-- two of one kind
record OfOneKind (x y : Option Scaled.Kind) : Type 0 where
  first : Scaled.Kind
  second : Scaled.Kind
  first-is : x ≡ some first
  second_is : y ≡ some second
  same : unscaled first ≡ unscaled second

one-kind : (x y : Option Scaled.Kind) → one_kind x y ≡ true → OfOneKind x y
unfolding one_kind
one-kind (some a) (some b) e = record { first = a; second = b; first-is = refl; second_is = refl; same = alike-kinds a b e }
one-kind (some a) none e = absurd-eq (cc)
one-kind none y e = absurd-eq (cc)

both_true : (a b : Bool) → (a && b) ≡ true → (a ≡ true) × (b ≡ true)
both_true true b e = (refl, e)
both_true false b e = absurd-eq (cc)

literal-kind : (l : Literal) → kind (literal_value l) ≡ unscaled (literal_kind l)
unfolding literal_value literal_kind kind
literal-kind (Literal.number w s n) = refl
literal-kind (Literal.text t) = refl

fetched-kind : (p : ℕ) (k : Kind) (f : Fetched) → FetchedOf k f → OfKind k (fetched_at p f)
fetched-kind p k (value x) h = h
fetched-kind p k malformed h = tt
fetched-kind p k nothing h = absurd h

-- ---- values under a test; `v` and `w` are the kinds of the rules, if there are any

-- a value of the kind of the rules
abbrev Ruled : Option Scaled.Kind → Result Datum → Type 0
Ruled v m = (k : Scaled.Kind) → v ≡ some k → OfKind (unscaled k) m

two-met : (v w : Option Scaled.Kind) (m n : Result Datum) (f : Datum → Datum → Result Truth) → one_kind v w ≡ true → Ruled v m → Ruled w n →
    ((x y : Datum) → kind x ≡ kind y → NotStray (f x y)) → NotStray (m >>= (λ x. n >>= (λ y. f x y)))
two-met v w m n f h a b t =
    let i = one-kind v w h in
    on-truth (unscaled i.first) m _ (a i.first i.first-is) (λ x hx.
    on-truth (unscaled i.second) n _ (b i.second i.second_is) (λ y hy. t x y (hx ∙ i.same ∙ sym hy)))

text-value : (v : Option Scaled.Kind) (m : Result Datum) → one_kind v (some ScaledKind.Text) ≡ true → Ruled v m → OfKind Kind.Text m
text-value v m h a =
    let i = one-kind v (some ScaledKind.Text) h in
    let z : i.second ≡ ScaledKind.Text = let y = i.second_is in cc in
    rw (sym (i.same ∙ ap unscaled z)) (a i.first i.first-is)

search-never : (t : TextSearch) (v w : Option Scaled.Kind) (m n : Result Datum) → both_text v w ≡ true → Ruled v m → Ruled w n →
    NotStray (m >>= (λ x. n >>= (λ y. search_of t x y)))
unfolding both_text
search-never t v w m n h a b =
    let u = both_true (one_kind v (some ScaledKind.Text)) (one_kind w (some ScaledKind.Text)) h in
    on-truth Kind.Text m _ (text-value v m u.0 a) (λ x hx. on-truth Kind.Text n _ (text-value w n u.1 b) (λ y hy. search-met t x y hx hy))

between-never : (u v w : Option Scaled.Kind) (l m n : Result Datum) → all_one_kind u v w ≡ true → Ruled u l → Ruled v m → Ruled w n →
    NotStray (l >>= (λ x. m >>= (λ y. n >>= (λ z. between_of x y z))))
unfolding all_one_kind
between-never u v w l m n h a b c =
    let q = both_true (one_kind u v) (one_kind u w) h in
    let i = one-kind u v q.0 in
    let j = one-kind u w q.1 in
    let same : j.first ≡ i.first = let z = i.first-is in let y = j.first-is in cc in
    on-truth (unscaled i.first) l _ (a i.first i.first-is) (λ x hx.
    on-truth (unscaled i.second) m _ (b i.second i.second_is) (λ y hy.
    on-truth (unscaled j.second) n _ (c j.second j.second_is) (λ z hz.
    between-met x y z (hx ∙ i.same ∙ sym hy) (hx ∙ ap unscaled (sym same) ∙ j.same ∙ sym hz))))

any-kind : (v : Option Scaled.Kind) (m : Result Datum) → is_some v ≡ true → Ruled v m → (k : Kind) × OfKind k m
any-kind (some k) m h a = (unscaled k, a k refl)
any-kind none m h a = absurd-eq (cc)

missing-never : (v : Option Scaled.Kind) (m : Result Datum) → is_some v ≡ true → Ruled v m → NotStray (m >>= (λ x. is (missing_of x)))
missing-never v m h a = let i = any-kind v m h a in on-truth i.0 m _ i.1 (λ x hx. tt)

of-kind : (k : Kind) (m : Result Datum) → OfKind k m → NotStray m
of-kind k (is x) h = tt
of-kind k (refused r p) h = tt
of-kind k stray h = absurd h

-- ---- any, unique and count

kept-met : {A B : Type 0} (f : A → B) (test : B → Result Truth) → ((x : A) → NotStray (test (f x))) → (l : List A) → NotStray (kept_of test (map f l))
unfolding kept_of
kept-met f test h [] = tt
kept-met f test h (x ∷ l) = and_then (test (f x)) _ (h x) (λ t. and_then (kept_of test (map f l)) _ (kept-met f test h l) (λ n. tt))

over-met : {A B : Type 0} (q : Quantifier) (f : A → B) (test : B → Result Truth) → ((x : A) → NotStray (test (f x))) → (l : List A) →
    NotStray (over_run q (some (map f l)) test)
over-met q f test h l = and_then (kept_of test (map f l)) _ (kept-met f test h l) (λ n. tt)

count-met : {A B : Type 0} (f : A → B) (test : B → Result Truth) → ((x : A) → NotStray (test (f x))) → (l : List A) →
    OfKind Kind.Number (count_over (some (map f l)) test)
unfolding kind
count-met f test h l = counted (kept_of test (map f l)) (kept-met f test h l)
  where
    counted : (m : Result ℕ) → NotStray m → OfKind Kind.Number (m >>= (λ n. is (number (whole n))))
    counted (is n) g = refl
    counted (refused r p) g = tt
    counted stray g = absurd g

-- ---- statistics

summed-met : (p n : ℕ) (c : Computed) → NotStray (summed p n c)
summed-met p n (Ok a) = tt
summed-met p n (Err e) = tt

number-met : (k : Statistic) (p n : ℕ) (a x : Number) → NotStray (with_number k p n a x)
number-met Average p n a x = summed-met p (n + 1) (added a x)
number-met Maximum p n a x = tt
number-met Minimum p n a x = tt
number-met Total p n a x = summed-met p (n + 1) (added a x)

value-met : (k : Statistic) (p : ℕ) (g : Gathered) (x : Datum) → kind x ≡ Kind.Number → NotStray (with_value k p g x)
unfolding with_value kind
value-met k p g (number x) h = number-met k p g.values g.number x
value-met k p g (text t) h = absurd-eq (cc)
value-met k p g (date d f) h = absurd-eq (cc)
value-met k p g (absent Kind.Number w) h = tt
value-met k p g (absent Kind.Text w) h = absurd-eq (cc)
value-met k p g (absent Kind.Date w) h = absurd-eq (cc)

result-met : (k : Statistic) (p n : ℕ) (a : Number) → OfKind Kind.Number (from_gathered k p n a)
unfolding kind
result-met Average p zero a = refl
result-met Average p (suc n) a = computed-kind p (quotient a (whole (suc n)))
result-met Maximum p zero a = refl
result-met Maximum p (suc n) a = refl
result-met Minimum p zero a = refl
result-met Minimum p (suc n) a = refl
result-met Total p n a = refl

module _ {A B : Type 0} (k : Statistic) (p : ℕ) (f : A → B) (test : B → Result Truth) (values : B → Result Datum)
    (tests : (x : A) → NotStray (test (f x))) (numbered : (x : A) → OfKind Kind.Number (values (f x))) where
  kept-gathered : (t : Truth) (g : Gathered) (x : A) → NotStray (if_kept t k p values g (f x))
  kept-gathered True g x = gather (values (f x)) (numbered x)
    where
      gather : (m : Result Datum) → OfKind Kind.Number m → NotStray (m >>= (λ v. with_value k p g v))
      gather (is v) h = value-met k p g v h
      gather (refused r q) h = tt
      gather stray h = absurd h
  kept-gathered False g x = tt
  kept-gathered (Missing w) g x = tt

  gathered-met : (g : Gathered) (l : List A) → NotStray (gathered_of k p test values g (map f l))
  unfolding gathered_of
  gathered-met g [] = tt
  gathered-met g (x ∷ l) =
      and_then (test (f x)) _ (tests x) (λ t. and_then (if_kept t k p values g (f x)) _ (kept-gathered t g x) (λ h. gathered-met h l))

  -- a statistic of numbers is a number, or is refused
  numbers-met : (scale : ℤ) (l : List A) → OfKind Kind.Number (numbers_over k p (some (ScaledKind.Number scale)) (some (map f l)) test values)
  unfolding statistic_of
  numbers-met scale l = made (gathered_of k p test values (nothing_yet scale) (map f l)) (gathered-met (nothing_yet scale) l)
    where
      made : (m : Result Gathered) → NotStray m → OfKind Kind.Number (m >>= (λ g. statistic_of k p g))
      made (is g) h = result-met k p g.values g.number
      made (refused r q) h = tt
      made stray h = absurd h

-- ---- values and booleans, with the messages of an environment and runs; the scope and the records change inside an rse

allowed-some : (e : Environment) (sc : Scope) (v : Value) → ValueAllowed e sc v → is_some (kind_of e sc v) ≡ true
unfolding kind_of
allowed-some e sc (literal l) a = refl
allowed-some e sc (reference r) a = a.1
allowed-some e sc (arithmetic o v w) a = a.2
allowed-some e sc (negate v) a = a.1
allowed-some e sc (statistic k r v) a = a.3
allowed-some e sc (count r) a = refl

module _ (e : Environment) (images : List ℕ) (runs : List LentRun) where
  -- what stands around
  abbrev pub standing : Scope → List ℕ → Around
  standing sc rows =
      record { relations = e.relations; messages = e.messages; images = images; scope = sc; records = rows; runs = runs }

  -- with one stream, whose run is there, each of its records is one more
  each-met : (ss : List Stream) (o : ℕ) (sc : Scope) (rows : List ℕ) (p : ℕ) → length ss ≡ 1 → All (Lent runs) (due_run e.relations ss p) →
      (l : List (List ℕ)) × (within_each (standing sc rows) p o ss ≡ some (map (λ x. standing (under_streams e.relations o sc ss) (rows ++ x)) l))
  unfolding within_each within
  each-met [] o sc rows p one l = absurd-eq (cc)
  each-met (s ∷ []) o sc rows p one l = (l.0.0.records, rw l.0.1)
  each-met (s ∷ t ∷ ss) o sc rows p one l = absurd (omega (arith, one))

  module _ (typed : (sc : Scope) (rows : List ℕ) (r : Reference) (k : Scaled.Kind) → reference_kind e sc r ≡ some k →
      FetchedOf (unscaled k) (fetch_around (standing sc rows) r)) where
    abbrev valued : Scope → List ℕ → ℕ → Value → Result Datum
    valued sc rows p v = value_of e.version (standing sc rows) p v

    abbrev runs_in : Value → ℕ → List DueRun
    runs_in v p = value_runs e.relations v p

    mutual
      unfolding kind_of value_of rse_number rse_count truth_of rse_truth clauses_truth value_runs due_runs rse_runs clauses_runs

      pub value-kind : (v : Value) (sc : Scope) (rows : List ℕ) (p : ℕ) (k : Scaled.Kind) → kind_of e sc v ≡ some k → ValueAllowed e sc v →
          All (Lent runs) (runs_in v p) → OfKind (unscaled k) (valued sc rows p v)
      value-kind (literal i) sc rows p k h a l = let z : k ≡ literal_kind i = cc in rw z (literal-kind i)
      value-kind (reference r) sc rows p k h a l = fetched-kind p (unscaled k) (fetch_around (standing sc rows) r) (typed sc rows r k h)
      value-kind (arithmetic o v w) sc rows p k h a l =
          let i = operands e.version o (kind_of e sc v) (kind_of e sc w) k h in
          let n = p + 1 + size v in
          rw i.result-is
          (on-kind Kind.Number Kind.Number (valued sc rows (p + 1) v) _
          (value-kind v sc rows (p + 1) (ScaledKind.Number i.first) i.first-is a.0 (all_first _ (runs_in v (p + 1)) (runs_in w n) l)) (λ x hx.
          on-kind Kind.Number Kind.Number (valued sc rows n w) _
          (value-kind w sc rows n (ScaledKind.Number i.second) i.second_is a.1 (all-second _ (runs_in v (p + 1)) (runs_in w n) l)) (λ y hy.
          arithmetic-kind e.version o p x y hx hy)))
      value-kind (negate v) sc rows p k h a l =
          let i = negated-number (kind_of e sc v) k h in
          rw i.2
          (on-kind Kind.Number Kind.Number (valued sc rows (p + 1) v) _ (value-kind v sc rows (p + 1) (ScaledKind.Number i.0) i.1 a.0 l) (λ x hx.
          negate-kind p x hx))
      value-kind (statistic t r v) sc rows p k h a l =
          let inner = under_rse_of e.relations (statistic_code t) sc r in
          let i = negated-number (kind_of e inner v) k h in
          let n = p + 1 + length (rse_bytes r) in
          rw i.2
          (subst (λ o. OfKind Kind.Number (rse_number e.version (standing sc rows) p t r o (λ x. value_of e.version x n v))) (sym (ap negated_kind i.1))
          (number-kind r t sc rows p i.0 (λ x. value_of e.version x n v) a.0 a.1 (all_first _ (rse_runs e.relations r p) (runs_in v n) l) (λ more.
          value-kind v inner more n (ScaledKind.Number i.0) i.1 a.2 (all-second _ (rse_runs e.relations r p) (runs_in v n) l))))
      value-kind (count r) sc rows p k h a l =
          let z : k ≡ ScaledKind.Number (pos 0) = cc in rw z (count-kind r sc rows p a.0 a.1 l)

      number-kind : (r : Rse) (t : Statistic) (sc : Scope) (rows : List ℕ) (p : ℕ) (scale : ℤ) (values : Around → Result Datum) → OneStream r →
          RseAllowed e (statistic_code t) sc r → All (Lent runs) (rse_runs e.relations r p) →
          ((more : List ℕ) → OfKind Kind.Number (values (standing (under_rse_of e.relations (statistic_code t) sc r) more))) →
          OfKind Kind.Number (rse_number e.version (standing sc rows) p t r (some (ScaledKind.Number scale)) values)
      number-kind (rse ss cs) t sc rows p scale values one a l h =
          let n = p + 1 + length (head_bytes ss) in
          let inner = under_streams e.relations (statistic_code t) sc ss in
          let w = each-met ss (statistic_code t) sc rows p one (all_first _ (due_run e.relations ss p) (clauses_runs e.relations cs n) l) in
          rw w.1
          (numbers-met t p (λ x. standing inner (rows ++ x)) (λ x. clauses_truth e.version x n cs) values (λ x.
          never-clauses cs inner (rows ++ x) n a.3 (all-second _ (due_run e.relations ss p) (clauses_runs e.relations cs n) l)) (λ x.
          h (rows ++ x)) scale w.0)

      count-kind : (r : Rse) (sc : Scope) (rows : List ℕ) (p : ℕ) → OneStream r → RseAllowed e blr.count sc r →
          All (Lent runs) (rse_runs e.relations r p) → OfKind Kind.Number (rse_count e.version (standing sc rows) p r)
      count-kind (rse ss cs) sc rows p one a l =
          let n = p + 1 + length (head_bytes ss) in
          let inner = under_streams e.relations blr.count sc ss in
          let w = each-met ss blr.count sc rows p one (all_first _ (due_run e.relations ss p) (clauses_runs e.relations cs n) l) in
          rw w.1
          (count-met (λ x. standing inner (rows ++ x)) (λ x. clauses_truth e.version x n cs) (λ x.
          never-clauses cs inner (rows ++ x) n a.3 (all-second _ (due_run e.relations ss p) (clauses_runs e.relations cs n) l)) w.0)

      pub never-stray : (b : Boolean) (sc : Scope) (rows : List ℕ) (p : ℕ) → BooleanAllowed e sc b → All (Lent runs) (due_runs e.relations b p) →
          NotStray (truth_of e.version (standing sc rows) p b)
      never-stray (compare c v w) sc rows p a l =
          let n = p + 1 + size v in
          two-met (kind_of e sc v) (kind_of e sc w) (valued sc rows (p + 1) v) (valued sc rows n w) (compare_of c) a.2 (λ k i.
          value-kind v sc rows (p + 1) k i a.0 (all_first _ (runs_in v (p + 1)) (runs_in w n) l)) (λ k i.
          value-kind w sc rows n k i a.1 (all-second _ (runs_in v (p + 1)) (runs_in w n) l)) (compare-met c)
      never-stray (search t v w) sc rows p a l =
          let n = p + 1 + size v in
          search-never t (kind_of e sc v) (kind_of e sc w) (valued sc rows (p + 1) v) (valued sc rows n w) a.2 (λ k i.
          value-kind v sc rows (p + 1) k i a.0 (all_first _ (runs_in v (p + 1)) (runs_in w n) l)) (λ k i.
          value-kind w sc rows n k i a.1 (all-second _ (runs_in v (p + 1)) (runs_in w n) l))
      never-stray (between u v w) sc rows p a l =
          let n = p + 1 + size u in
          let m = p + 1 + size u + size v in
          let first = all_first _ (runs_in u (p + 1) ++ runs_in v n) (runs_in w m) l in
          between-never (kind_of e sc u) (kind_of e sc v) (kind_of e sc w) (valued sc rows (p + 1) u) (valued sc rows n v) (valued sc rows m w) a.3 (λ k i.
          value-kind u sc rows (p + 1) k i a.0 (all_first _ (runs_in u (p + 1)) (runs_in v n) first)) (λ k i.
          value-kind v sc rows n k i a.1 (all-second _ (runs_in u (p + 1)) (runs_in v n) first)) (λ k i.
          value-kind w sc rows m k i a.2 (all-second _ (runs_in u (p + 1) ++ runs_in v n) (runs_in w m) l))
      never-stray (connect c a b) sc rows p w l =
          let n = p + 1 + boolean_size a in
          and_then (truth_of e.version (standing sc rows) (p + 1) a) _
          (never-stray a sc rows (p + 1) w.0 (all_first _ (due_runs e.relations a (p + 1)) (due_runs e.relations b n) l)) (λ x.
          and_then (truth_of e.version (standing sc rows) n b) _
          (never-stray b sc rows n w.1 (all-second _ (due_runs e.relations a (p + 1)) (due_runs e.relations b n) l)) (λ y. tt))
      never-stray (not a) sc rows p w l = and_then (truth_of e.version (standing sc rows) (p + 1) a) _ (never-stray a sc rows (p + 1) w l) (λ x. tt)
      never-stray (missing v) sc rows p w l =
          missing-never (kind_of e sc v) (valued sc rows (p + 1) v) (allowed-some e sc v w) (λ k i. value-kind v sc rows (p + 1) k i w l)
      never-stray (quantify q r) sc rows p w l = never-rse r q sc rows p w.0 w.1 l

      never-rse : (r : Rse) (q : Quantifier) (sc : Scope) (rows : List ℕ) (p : ℕ) → OneStream r → RseAllowed e (quantifier_code q) sc r →
          All (Lent runs) (rse_runs e.relations r p) → NotStray (rse_truth e.version (standing sc rows) p q r)
      never-rse (rse ss cs) q sc rows p one a l =
          let n = p + 1 + length (head_bytes ss) in
          let inner = under_streams e.relations (quantifier_code q) sc ss in
          let w = each-met ss (quantifier_code q) sc rows p one (all_first _ (due_run e.relations ss p) (clauses_runs e.relations cs n) l) in
          rw w.1
          (over-met q (λ x. standing inner (rows ++ x)) (λ x. clauses_truth e.version x n cs) (λ x.
          never-clauses cs inner (rows ++ x) n a.3 (all-second _ (due_run e.relations ss p) (clauses_runs e.relations cs n) l)) w.0)

      never-clauses : (cs : Clauses) (sc : Scope) (rows : List ℕ) (p : ℕ) → ClausesAllowed e sc cs → All (Lent runs) (clauses_runs e.relations cs p) →
          NotStray (clauses_truth e.version (standing sc rows) p cs)
      never-clauses no_clauses sc rows p a l = tt
      never-clauses (such b cs) sc rows p a l =
          never-stray b sc rows (p + 1) a.0 (all_first _ (due_runs e.relations b (p + 1)) (clauses_runs e.relations cs (p + 1 + boolean_size b)) l)
      never-clauses (sorted ks cs) sc rows p a l = never-clauses cs sc rows (p + 2 + length (keys_bytes ks)) a.2 l

    -- so is a value
    pub never-stray-value : (v : Value) (sc : Scope) (rows : List ℕ) (p : ℕ) → ValueAllowed e sc v → All (Lent runs) (runs_in v p) →
        NotStray (valued sc rows p v)
    never-stray-value v sc rows p a l =
        let i = any-kind (kind_of e sc v) (valued sc rows p v) (allowed-some e sc v a) (λ k i. value-kind v sc rows p k i a l) in
        of-kind i.0 (valued sc rows p v) i.1
