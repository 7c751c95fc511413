-- The walk over a tree's bytes gives the tree's meaning and the place after it.
use Prim.Native.Nat.{ℕ, suc, ◌+◌, ◌-◌, ◌<◌, ◌≤◌}
use mathlib.Core.Path.{◌≡◌, refl, sym, ap, ap₂, ◌∙◌, fun_ext}
use mathlib.Core.List.{List, [], ◌∷◌, ◌++◌, append_assoc}
use mathlib.Core.Option.{Option, none, some}
use native.Mathlib.Omega.{arith}
use lib.ListN.{length, drop, length-append}
use lib.Seq.{drop-drop, drop-append_seam, take-append_seam}
use Rattle.wire.specs.Codes as blr
use Rattle.wire.specs.Words.{byte_at, word_at, word_bytes}
use Rattle.wire.specs.Classes.{due, classify, value_class, boolean_class, literal_class}
use Rattle.wire.specs.declared.codes.Width.{Width}
use Rattle.wire.specs.declared.codes.Width.TheVariants.{Short, Long, Int64}
use Rattle.wire.specs.declared.codes.ValueCode.{ValueCode}
use Rattle.wire.specs.declared.codes.ValueCode.TheVariants as Code
use Rattle.wire.specs.declared.codes.BooleanCode.{BooleanCode}
use Rattle.wire.specs.declared.codes.BooleanCode.TheVariants as Boolean
use Rattle.wire.specs.declared.codes.Quantifier.{Quantifier}
use Rattle.wire.specs.declared.codes.Statistic.{Statistic}
use Rattle.dictionary.specs.Format.{width_bytes}
use Rattle.dictionary.specs.Naming.{named, numbered}
use Rattle.grammar.specs.declared.Kind as Grammar
use Rattle.grammar.specs.declared.Kind.TheVariants as GrammarKind
use Rattle.grammar.specs.Kinds.{kind_of}
use Rattle.grammar.specs.Tree as Tree
use Rattle.grammar.specs.Tree.{Literal, Reference, field, parameter, parameter2, Value, literal, reference, arithmetic, negate, statistic, count, compare, search, between, connect, not, missing, quantify, Clauses, no_clauses, such, sorted, Rse, rse}
use Rattle.grammar.specs.Bytes.{width_code, operator_code, comparison_code, search_code, connective_code, statistic_code, quantifier_code, number_bytes, literal_bytes, reference_bytes, key_count, head_bytes, value_bytes, boolean_bytes, keys_bytes, clauses_bytes, rse_bytes}
use Rattle.grammar.specs.Sizes.{value_depth, boolean_depth, clauses_depth, rse_depth}
use Rattle.grammar.proofs.Found.{byte-on, word_on, long-at, int64-at}
use Rattle.grammar.proofs.Due.{number-due, operator-due, statistic-due, comparison-due, search-due, connective-due, quantifier-due}
use Rattle.meaning.specs.declared.Truth.{Truth}
use Rattle.meaning.specs.declared.Truth.TheVariants.{True, False, Missing}
use Rattle.meaning.specs.Data.{Result, is, refused, stray, ◌>>=◌, Datum, arithmetic_of, negate_of, compare_of, search_of, between_of, missing_of, connected, opposite, number, Gathered, whole, nothing_yet, with_value, statistic_of}
use Rattle.meaning.specs.Inputs.{Fetched, literal_value}
use Rattle.meaning.specs.Runs.{Around, within_each}
use Rattle.meaning.specs.Meaning.{fetched_at, size, boolean_size, environment_around, kept, kept_of, answer_of, over_run, if_kept, gathered_of, numbers_over, count_over, value_of, rse_number, rse_count, truth_of, rse_truth, clauses_truth}
use Rattle.walking.specs.Walk.{Walked, at, ◌▷◌, ended, on_class, number_at, version_at, literal_at, reference_at, value_under, value_at, Sight, result_of, such_at, over_at, numbers_at, count_at, boolean_under, boolean_at}
use Rattle.walking.specs.Sees.{Pairs, no_pair, pairs, such_place, SeesRun, SeesValue, Sees, SeesRse, SeesClauses}
use Rattle.walking.proofs.Laws.{value_below, boolean_below, value-by, boolean-by}

-- ---- one after another

-- one, two or three that end as their meanings do, and what is made of them
pub one_ended : {A C : Type 0} (x : Walked A) (m : Result A) (e : ℕ) (f : A → Result C) → x ≡ ended m e →
    (x ▷ (λ a u. ended (f a) u)) ≡ ended (m >>= f) e
one_ended {A} {C} x m e f h = ap (λ z. z ▷ (λ a u. ended (f a) u)) h ∙ go m
  where
    go : (m : Result A) → (ended m e ▷ (λ a u. ended (f a) u)) ≡ ended (m >>= f) e
    go (is a) = refl
    go (refused r p) = refl
    go stray = refl

pub two-ended : {A B C : Type 0} (x : Walked A) (y : ℕ → Walked B) (m : Result A) (q : ℕ) (n : Result B) (e : ℕ) (f : A → B → Result C) →
    x ≡ ended m q → y q ≡ ended n e → (x ▷ (λ a z. y z ▷ (λ b u. ended (f a b) u))) ≡ ended (m >>= (λ a. n >>= (λ b. f a b))) e
two-ended {A} {B} {C} x y m q n e f h k = ap (λ w. w ▷ (λ a z. y z ▷ (λ b u. ended (f a b) u))) h ∙ go m
  where
    go : (m : Result A) → (ended m q ▷ (λ a z. y z ▷ (λ b u. ended (f a b) u))) ≡ ended (m >>= (λ a. n >>= (λ b. f a b))) e
    go (is a) = one_ended (y q) n e (f a) k
    go (refused r p) = refl
    go stray = refl

pub three-ended : {A C : Type 0} (x : Walked A) (y : ℕ → Walked A) (m n o : Result A) (q r e : ℕ) (f : A → A → A → Result C) →
    x ≡ ended m q → y q ≡ ended n r → y r ≡ ended o e →
    (x ▷ (λ a z. y z ▷ (λ b w. y w ▷ (λ c u. ended (f a b c) u)))) ≡ ended (m >>= (λ a. n >>= (λ b. o >>= (λ c. f a b c)))) e
three-ended {A} {C} x y m n o q r e f h k j = ap (λ w. w ▷ (λ a z. y z ▷ (λ b w. y w ▷ (λ c u. ended (f a b c) u)))) h ∙ go m
  where
    go : (m : Result A) → (ended m q ▷ (λ a z. y z ▷ (λ b w. y w ▷ (λ c u. ended (f a b c) u)))) ≡ ended (m >>= (λ a. n >>= (λ b. o >>= (λ c. f a b c)))) e
    go (is a) = two-ended (y q) y n r o e (f a) k j
    go (refused r p) = refl
    go stray = refl

-- ---- runs

-- as many are kept of two runs that are alike record for record
pub kept-alike : {A B : Type 0} (P : A → B → Type 0) (f : A → Result Truth) (g : B → Result Truth) → ((x : A) (y : B) → P x y → f x ≡ g y) →
    (xs : List A) (ys : List B) → Pairs P xs ys → kept_of f xs ≡ kept_of g ys
unfolding kept_of
kept-alike P f g h [] [] no_pair = refl
kept-alike P f g h [] (y ∷ ys) e = elim e [ ]
kept-alike P f g h (x ∷ xs) [] e = elim e [ ]
kept-alike P f g h (x ∷ xs) (y ∷ ys) (pairs e es) =
    ap₂ (λ t m. t >>= (λ a. m >>= (λ n. is (kept a n)))) (h x y e) (kept-alike P f g h xs ys es)

-- and the same numbers are gathered of them
pub gathered-alike : {A B : Type 0} (P : A → B → Type 0) (k : Statistic) (p : ℕ) (f : A → Result Truth) (g : B → Result Truth) (u : A → Result Datum) (v : B → Result Datum) →
    ((x : A) (y : B) → P x y → f x ≡ g y) → ((x : A) (y : B) → P x y → u x ≡ v y) → (z : Gathered) (xs : List A) (ys : List B) → Pairs P xs ys →
    gathered_of k p f u z xs ≡ gathered_of k p g v z ys
unfolding gathered_of
gathered-alike P k p f g u v h i z [] [] no_pair = refl
gathered-alike P k p f g u v h i z [] (y ∷ ys) e = elim e [ ]
gathered-alike P k p f g u v h i z (x ∷ xs) [] e = elim e [ ]
gathered-alike P k p f g u v h i z (x ∷ xs) (y ∷ ys) (pairs e es) =
    ap₂ (λ t m. t >>= m) (h x y e) (fun_ext (λ t. ap₂ (λ a m. a >>= m) (one t) (fun_ext (λ z. gathered-alike P k p f g u v h i z xs ys es))))
  where
    one : (t : Truth) → if_kept t k p u z x ≡ if_kept t k p v z y
    one True = ap (λ r. r >>= (λ a. with_value k p z a)) (i x y e)
    one False = refl
    one (Missing w) = refl

pub numbers-alike : {A B : Type 0} (P : A → B → Type 0) (k : Statistic) (p : ℕ) (f : A → Result Truth) (g : B → Result Truth) (u : A → Result Datum) (v : B → Result Datum) →
    ((x : A) (y : B) → P x y → f x ≡ g y) → ((x : A) (y : B) → P x y → u x ≡ v y) → (kind : Option Grammar.Kind) (xs : List A) (ys : List B) → Pairs P xs ys →
    numbers_over k p kind (some xs) f u ≡ numbers_over k p kind (some ys) g v
numbers-alike P k p f g u v h i none xs ys e = refl
numbers-alike P k p f g u v h i (some GrammarKind.Text) xs ys e = refl
numbers-alike P k p f g u v h i (some GrammarKind.Date) xs ys e = refl
numbers-alike P k p f g u v h i (some (GrammarKind.Number scale)) xs ys e =
    ap (λ r. r >>= (λ z. statistic_of k p z)) (gathered-alike P k p f g u v h i (nothing_yet scale) xs ys e)

-- what the meaning gives, its end aside
pub result-ended : {A : Type 0} (m : Result A) (e : ℕ) → result_of (ended m e) ≡ m
result-ended (is a) e = refl
result-ended (refused r p) e = refl
result-ended stray e = refl

-- ---- bytes at a place

module _ (s : List ℕ) where
  pub past : (p : ℕ) (a t : List ℕ) → drop p s ≡ a ++ t → drop (p + length a) s ≡ t
  past p a t e = sym (drop-drop (length a) p s) ∙ ap (drop (length a)) e ∙ drop-append_seam a t

  pub byte-is : (p x : ℕ) (t : List ℕ) → drop p s ≡ x ∷ t → byte_at s p ≡ x
  byte-is p x t e = let z : p + 0 ≡ p = omega arith in rw z at (byte-on s p 0 (x ∷ t) e)

  pub next : (p x : ℕ) (t : List ℕ) → drop p s ≡ x ∷ t → drop (p + 1) s ≡ t
  next p x t e = past p (x ∷ []) t e

  word-is : (p n : ℕ) (t : List ℕ) → drop p s ≡ word_bytes n ++ t → word_at s p ≡ n
  word-is p n t e =
      let z : p + 0 ≡ p = omega arith in
      let w = rw z at (word_on s p 0 (word_bytes n ++ t) e) in omega (arith, w)

  number_is : (w : Width) (p n : ℕ) (t : List ℕ) → drop p s ≡ number_bytes w n ++ t → number_at w s p ≡ n
  number_is Short = word-is
  number_is Long = long-at s
  number_is Int64 = int64-at s

  -- ---- literals and references

  width-size : (w : Width) (n : ℕ) → length (number_bytes w n) ≡ width_bytes w
  width-size Short n = refl
  width-size Long n = refl
  width-size Int64 n = refl

  pub literal-walk : (l : Literal) (p : ℕ) (post : List ℕ) → drop p s ≡ literal_bytes l ++ post →
      literal_at s p ≡ at (literal_value l) (p + length (literal_bytes l))
  unfolding literal_at literal_bytes literal_class classify
  literal-walk (Tree.Literal.number w scale n) p post e =
      let h1 = next p (width_code w) _ e in
      let h2 = next (p + 1) scale _ h1 in
      let z : p + 1 + 1 ≡ p + 2 = omega arith in
      let h3 : drop (p + 2) s ≡ number_bytes w n ++ post = rw z at h2 in
      let j : p + 2 + width_bytes w ≡ p + suc (suc (length (number_bytes w n))) = omega (arith, width-size w n) in
      rw (literal_at, byte-is p (width_code w) _ e, number-due w, byte-is (p + 1) scale _ h1, number_is w (p + 2) n post h3) (ap (at (literal_value (Tree.Literal.number w scale n))) j)
  literal-walk (Tree.Literal.text t) p post e =
      let h1 : drop (p + 1) s ≡ word_bytes (length t) ++ (t ++ post) = next p blr.text _ e in
      let h2 = past (p + 1) (word_bytes (length t)) _ h1 in
      let z : p + 1 + 2 ≡ p + 3 = omega arith in
      let h3 : drop (p + 3) s ≡ t ++ post = rw z at h2 in
      let k : p + 3 + length t ≡ p + suc (suc (suc (length t))) = omega arith in
      rw (literal_at, byte-is p blr.text _ e, word-is (p + 1) (length t) _ h1, h3, take-append_seam t post) (ap (at (literal_value (Tree.Literal.text t))) k)

  pub reference-walk : (g : Reference → Fetched) (inner : ℕ → Walked Datum) (numbers : Statistic → Walked Datum) (counted : Walked Datum) (r : Reference) (p : ℕ) (post : List ℕ) → drop p s ≡ reference_bytes r ++ post → (k : ℕ) → k ≡ p + length (reference_bytes r) →
      on_class (value_class (byte_at s p)) (λ c. value_under g inner numbers counted s p c) ≡ ended (fetched_at p (g r)) k
  unfolding reference_bytes value_class classify value_under reference_at
  reference-walk g inner numbers counted (field c (named n)) p post e k j =
      let h1 = next p blr.field _ e in
      let h2 = next (p + 1) c _ h1 in
      let z : p + 1 + 1 ≡ p + 2 = omega arith in
      let h3 : drop (p + 2) s ≡ length n ∷ n ++ post = rw z at h2 in
      let h4 = next (p + 2) (length n) _ h3 in
      let i : p + 3 + length n ≡ k = omega (arith, j) in
      rw (byte-is p blr.field _ e, byte-is (p + 1) c _ h1, byte-is (p + 2) (length n) _ h3, h4, take-append_seam n post, i)
  reference-walk g inner numbers counted (field c (numbered n)) p post e k j =
      let h1 = next p blr.fid _ e in
      let h2 = next (p + 1) c _ h1 in
      let z : p + 1 + 1 ≡ p + 2 = omega arith in
      let h3 : drop (p + 2) s ≡ word_bytes n ++ post = rw z at h2 in
      let i : p + 4 ≡ k = omega (arith, j) in
      rw (byte-is p blr.fid _ e, byte-is (p + 1) c _ h1, word-is (p + 2) n post h3, i)
  reference-walk g inner numbers counted (parameter m n) p post e k j =
      let h1 = next p blr.parameter _ e in
      let h2 = next (p + 1) m _ h1 in
      let z : p + 1 + 1 ≡ p + 2 = omega arith in
      let h3 : drop (p + 2) s ≡ word_bytes n ++ post = rw z at h2 in
      let i : p + 4 ≡ k = omega (arith, j) in
      rw (byte-is p blr.parameter _ e, byte-is (p + 1) m _ h1, word-is (p + 2) n post h3, i)
  reference-walk g inner numbers counted (parameter2 m n flag) p post e k j =
      let h1 = next p blr.parameter2 _ e in
      let h2 = next (p + 1) m _ h1 in
      let z : p + 1 + 1 ≡ p + 2 = omega arith in
      let h3 : drop (p + 2) s ≡ word_bytes n ++ (word_bytes flag ++ post) = rw z at h2 in
      let y : p + 2 + 2 ≡ p + 4 = omega arith in
      let h4 : drop (p + 4) s ≡ word_bytes flag ++ post = rw y at (past (p + 2) (word_bytes n) _ h3) in
      let i : p + 6 ≡ k = omega (arith, j) in
      rw (byte-is p blr.parameter2 _ e, byte-is (p + 1) m _ h1, word-is (p + 2) n _ h3, word-is (p + 4) flag post h4, i)

  -- ---- values and booleans, as they are seen from an E

  module _ {E : Type 0} (w : Sight E) where
    -- the code of a value and of a boolean at a place
    value-code : (x : E) (l p c : ℕ) (k : ValueCode) (t : List ℕ) → drop p s ≡ c ∷ t → value_class c ≡ due k → 0 < l →
        value_at w x l s p ≡ value_below w x (l - 1) s p k
    value-code x l p c k t e d h = value-by w x s l p (due k) (λ z. omega arith) (sym (ap value_class (byte-is p c t e) ∙ d))

    boolean-code : (x : E) (l p c : ℕ) (k : BooleanCode) (t : List ℕ) → drop p s ≡ c ∷ t → boolean_class c ≡ due k → 0 < l →
        boolean_at w x l s p ≡ boolean_below w x (l - 1) s p k
    boolean-code x l p c k t e d h = boolean-by w x s l p (due k) (λ z. omega arith) (sym (ap boolean_class (byte-is p c t e) ∙ d))

    -- over a run whose records are alike
    module _ (x : E) (r : Rse) (found : Option ℕ) (kind : Option Grammar.Kind) (each : Option (List Around)) (inside : E → Around → Type 0) (p end : ℕ)
        (v : SeesRun w x r found kind each inside p end) (test : E → ℕ → Walked Truth) (truth : Around → Result Truth)
        (h : (y : E) (b : Around) → inside y b → such_at found (test y) ≡ truth b) where
      -- how many are kept
      same_kept : kept_of (λ y. such_at found (test y)) v.run.each ≡ kept_of truth v.records
      same_kept = kept-alike inside (λ y. such_at found (test y)) truth h v.run.each v.records v.alike

      run-walk : (q : Quantifier) → over_at q (w.over x p) test ≡ ended (over_run q each truth) end
      run-walk q =
          ap (λ o. over_at q o test) v.run_is
          ∙ ap₂ (λ f e. ended (over_run q (some v.run.each) (λ y. such_at f (test y))) e) v.such_is v.end_is
          ∙ ap (λ k. ended (k >>= (λ n. is (answer_of q n))) end) same_kept
          ∙ ap (λ o. ended (over_run q o truth) end) (sym v.records_are)

      count-walk : count_at (w.over x p) test ≡ ended (count_over each truth) end
      count-walk =
          ap (λ o. count_at o test) v.run_is
          ∙ ap₂ (λ f e. ended (count_over (some v.run.each) (λ y. such_at f (test y))) e) v.such_is v.end_is
          ∙ ap (λ k. ended (k >>= (λ n. is (number (whole n)))) end) same_kept
          ∙ ap (λ o. ended (count_over o truth) end) (sym v.records_are)

      numbers-walk : (k : Statistic) (values : E → ℕ → Walked Datum) (numbers : Around → Result Datum) →
          ((y : E) (b : Around) → inside y b → result_of (values y (p + 1 + length (rse_bytes r))) ≡ numbers b) →
          numbers_at k p (w.over x p) test values ≡ ended (numbers_over k p kind each truth numbers) end
      numbers-walk k values numbers i =
          ap (λ o. numbers_at k p o test values) v.run_is
          ∙ ap₂ (λ f e. ended (numbers_over k p v.run.kind (some v.run.each) (λ y. such_at f (test y)) (λ y. result_of (values y v.run.number))) e)
          v.such_is v.end_is
          ∙ ap₂ (λ d n. ended (numbers_over k p d (some v.run.each) (λ y. such_at found (test y)) (λ y. result_of (values y n))) end) v.kind_is v.number_is
          ∙ ap (λ m. ended m end) (numbers-alike inside k p (λ y. such_at found (test y)) truth (λ y. result_of (values y (p + 1 + length (rse_bytes r)))) numbers h i
          kind v.run.each v.records v.alike)
          ∙ ap (λ o. ended (numbers_over k p kind o truth numbers) end) (sym v.records_are)

    -- a value at p that the walk gives where its bytes stand, and two of them in a row
    abbrev Walks : E → Around → ℕ → ℕ → Value → Type 0
    Walks x a l p v =
        (post : List ℕ) → drop p s ≡ value_bytes v ++ post → value_at w x l s p ≡ ended (value_of (version_at s) a p v) (p + size v)

    two-values : {C : Type 0} (u v : Value) (x : E) (a : Around) (l p : ℕ) (post : List ℕ) (f : Datum → Datum → Result C) →
        drop p s ≡ (value_bytes u ++ value_bytes v) ++ post → Walks x a l p u → Walks x a l (p + size u) v →
        (value_at w x l s p ▷ (λ y q. value_at w x l s q ▷ (λ z e. ended (f y z) e))) ≡
        ended (value_of (version_at s) a p u >>= (λ y. value_of (version_at s) a (p + size u) v >>= (λ z. f y z))) (p + size u + size v)
    two-values u v x a l p post f e i j =
        let e1 : drop p s ≡ value_bytes u ++ (value_bytes v ++ post) = e ∙ append_assoc (value_bytes u) (value_bytes v) post in
        two-ended (value_at w x l s p) (λ q. value_at w x l s q) (value_of (version_at s) a p u) (p + size u) (value_of (version_at s) a (p + size u) v) (p + size u + size v) f
        (i _ e1) (j post (past p (value_bytes u) _ e1))

    mutual
      unfolding value_depth boolean_depth rse_depth clauses_depth value_bytes boolean_bytes rse_bytes clauses_bytes value_of rse_number rse_count truth_of rse_truth clauses_truth value_under boolean_under value_class boolean_class classify SeesValue Sees SeesRse SeesClauses such_place

      pub value-walk : (v : Value) (x : E) (a : Around) (l p : ℕ) (post : List ℕ) → value_depth v ≤ l → drop p s ≡ value_bytes v ++ post →
          SeesValue (version_at s) w x a v p → value_at w x l s p ≡ ended (value_of (version_at s) a p v) (p + size v)
      value-walk (literal l) x a n p post h e i =
          value-code x n p blr.literal Code.Literal _ e refl (omega arith)
          ∙ literal-walk l (p + 1) post (next p blr.literal _ e) ∙ ap (at (literal_value l)) (omega arith)
      value-walk (reference r) x a n p post h e i =
          value-by w x s n p (value_class (byte_at s p)) (λ z. omega arith) refl
          ∙ reference-walk (w.fetch x) (λ q. value_at w x (n - 1) s q) _ _ r p post e (p + size (reference r)) refl
          ∙ ap (λ f. ended (fetched_at p f) (p + size (reference r))) (i r)
      value-walk (arithmetic o u v) x a n p post h e i =
          value-code x n p (operator_code o) (Code.Arithmetic o) _ e (operator-due o) (omega arith)
          ∙ two-values u v x a (n - 1) (p + 1) post (arithmetic_of (version_at s) o p) (next p (operator_code o) _ e)
          (λ t f. value-walk u x a (n - 1) (p + 1) t (omega arith) f i.0) (λ t f. value-walk v x a (n - 1) (p + 1 + size u) t (omega arith) f i.1)
          ∙ ap (ended (value_of (version_at s) a p (arithmetic o u v))) (omega (arith, length-append (value_bytes u) (value_bytes v)))
      value-walk (negate v) x a n p post h e i =
          value-code x n p blr.negate Code.Negate _ e refl (omega arith)
          ∙ one_ended (value_at w x (n - 1) s (p + 1)) (value_of (version_at s) a (p + 1) v) (p + 1 + size v) (negate_of p)
          (value-walk v x a (n - 1) (p + 1) post (omega arith) (next p blr.negate _ e) i)
          ∙ ap (ended (value_of (version_at s) a p (negate v))) (omega arith)
      value-walk (statistic k r v) x a n p post h e i =
          let q = p + 1 + length (rse_bytes r) in
          let e1 : drop (p + 1) s ≡ rse_bytes r ++ (value_bytes v ++ post) = next p (statistic_code k) _ e ∙ append_assoc (rse_bytes r) (value_bytes v) post in
          value-code x n p (statistic_code k) (Code.Statistic k) _ e (statistic-due k) (omega arith)
          ∙ rse-numbers r x a k (kind_of (environment_around (version_at s) a) a.scope (statistic k r v)) v (n - 1) p (q + size v) _ (omega arith) e1
          (λ y b j. ap result_of (value-walk v y b (n - 1) q post (omega arith) (past (p + 1) (rse_bytes r) _ e1) j) ∙ result-ended (value_of (version_at s) b q v) (q + size v)) i
          ∙ ap (ended (value_of (version_at s) a p (statistic k r v))) (omega (arith, length-append (rse_bytes r) (value_bytes v)))
      value-walk (count r) x a n p post h e i =
          value-code x n p blr.count Code.Count _ e refl (omega arith)
          ∙ rse-count r x a (n - 1) p post (omega arith) (next p blr.count _ e) i
          ∙ ap (ended (value_of (version_at s) a p (count r))) (omega arith)

      pub boolean-walk : (b : Tree.Boolean) (x : E) (a : Around) (l p : ℕ) (post : List ℕ) → boolean_depth b ≤ l → drop p s ≡ boolean_bytes b ++ post →
          Sees (version_at s) w x a b p → boolean_at w x l s p ≡ ended (truth_of (version_at s) a p b) (p + boolean_size b)
      boolean-walk (compare c u v) x a n p post h e i =
          boolean-code x n p (comparison_code c) (Boolean.Compare c) _ e (comparison-due c) (omega arith)
          ∙ two-values u v x a (n - 1) (p + 1) post (compare_of c) (next p (comparison_code c) _ e)
          (λ t f. value-walk u x a (n - 1) (p + 1) t (omega arith) f i.0) (λ t f. value-walk v x a (n - 1) (p + 1 + size u) t (omega arith) f i.1)
          ∙ ap (ended (truth_of (version_at s) a p (compare c u v))) (omega (arith, length-append (value_bytes u) (value_bytes v)))
      boolean-walk (search t u v) x a n p post h e i =
          boolean-code x n p (search_code t) (Boolean.Search t) _ e (search-due t) (omega arith)
          ∙ two-values u v x a (n - 1) (p + 1) post (search_of t) (next p (search_code t) _ e)
          (λ t f. value-walk u x a (n - 1) (p + 1) t (omega arith) f i.0) (λ t f. value-walk v x a (n - 1) (p + 1 + size u) t (omega arith) f i.1)
          ∙ ap (ended (truth_of (version_at s) a p (search t u v))) (omega (arith, length-append (value_bytes u) (value_bytes v)))
      boolean-walk (between u v z) x a n p post h e i =
          let e1 : drop (p + 1) s ≡ value_bytes u ++ (value_bytes v ++ (value_bytes z ++ post)) =
          next p blr.between _ e ∙ append_assoc (value_bytes u ++ value_bytes v) (value_bytes z) post
          ∙ append_assoc (value_bytes u) (value_bytes v) (value_bytes z ++ post) in
          let e2 = past (p + 1) (value_bytes u) _ e1 in
          let e3 = past (p + 1 + size u) (value_bytes v) _ e2 in
          boolean-code x n p blr.between Boolean.Between _ e refl (omega arith)
          ∙ three-ended (value_at w x (n - 1) s (p + 1)) (λ q. value_at w x (n - 1) s q) (value_of (version_at s) a (p + 1) u) (value_of (version_at s) a (p + 1 + size u) v)
          (value_of (version_at s) a (p + 1 + size u + size v) z) (p + 1 + size u) (p + 1 + size u + size v) (p + 1 + size u + size v + size z) between_of
          (value-walk u x a (n - 1) (p + 1) _ (omega arith) e1 i.0) (value-walk v x a (n - 1) (p + 1 + size u) _ (omega arith) e2 i.1)
          (value-walk z x a (n - 1) (p + 1 + size u + size v) post (omega arith) e3 i.2)
          ∙ ap (ended (truth_of (version_at s) a p (between u v z)))
          (omega (arith, length-append (value_bytes u ++ value_bytes v) (value_bytes z), length-append (value_bytes u) (value_bytes v)))
      boolean-walk (connect c b d) x a n p post h e i =
          let e1 : drop (p + 1) s ≡ boolean_bytes b ++ (boolean_bytes d ++ post) =
          next p (connective_code c) _ e ∙ append_assoc (boolean_bytes b) (boolean_bytes d) post in
          let e2 = past (p + 1) (boolean_bytes b) _ e1 in
          boolean-code x n p (connective_code c) (Boolean.Connect c) _ e (connective-due c) (omega arith)
          ∙ two-ended (boolean_at w x (n - 1) s (p + 1)) (λ q. boolean_at w x (n - 1) s q) (truth_of (version_at s) a (p + 1) b) (p + 1 + boolean_size b)
          (truth_of (version_at s) a (p + 1 + boolean_size b) d) (p + 1 + boolean_size b + boolean_size d) (λ y z. is (connected c y z))
          (boolean-walk b x a (n - 1) (p + 1) _ (omega arith) e1 i.0) (boolean-walk d x a (n - 1) (p + 1 + boolean_size b) post (omega arith) e2 i.1)
          ∙ ap (ended (truth_of (version_at s) a p (connect c b d))) (omega (arith, length-append (boolean_bytes b) (boolean_bytes d)))
      boolean-walk (not b) x a n p post h e i =
          boolean-code x n p blr.not Boolean.Not _ e refl (omega arith)
          ∙ one_ended (boolean_at w x (n - 1) s (p + 1)) (truth_of (version_at s) a (p + 1) b) (p + 1 + boolean_size b) (λ y. is (opposite y))
          (boolean-walk b x a (n - 1) (p + 1) post (omega arith) (next p blr.not _ e) i)
          ∙ ap (ended (truth_of (version_at s) a p (not b))) (omega arith)
      boolean-walk (missing v) x a n p post h e i =
          boolean-code x n p blr.missing Boolean.Missing _ e refl (omega arith)
          ∙ one_ended (value_at w x (n - 1) s (p + 1)) (value_of (version_at s) a (p + 1) v) (p + 1 + size v) (λ y. is (missing_of y))
          (value-walk v x a (n - 1) (p + 1) post (omega arith) (next p blr.missing _ e) i)
          ∙ ap (ended (truth_of (version_at s) a p (missing v))) (omega arith)
      boolean-walk (quantify q r) x a n p post h e i =
          boolean-code x n p (quantifier_code q) (Boolean.Quantify q) _ e (quantifier-due q) (omega arith)
          ∙ rse-walk r x a q (n - 1) p post (omega arith) (next p (quantifier_code q) _ e) i
          ∙ ap (ended (truth_of (version_at s) a p (quantify q r))) (omega arith)

      -- the rse of an any or a unique, of a count, and of a statistic at p
      rse-walk : (r : Rse) (x : E) (a : Around) (q : Quantifier) (l p : ℕ) (post : List ℕ) → rse_depth r ≤ l → drop (p + 1) s ≡ rse_bytes r ++ post →
          SeesRse (version_at s) w x a (quantifier_code q) r none (λ y b. Unit {0}) p (p + 1 + length (rse_bytes r)) →
          over_at q (w.over x p) (λ y z. boolean_at w y l s z) ≡ ended (rse_truth (version_at s) a p q r) (p + 1 + length (rse_bytes r))
      rse-walk (rse ss cs) x a q l p post h e i =
          let c = p + 1 + length (head_bytes ss) in
          let e1 : drop c s ≡ clauses_bytes cs ++ post = past (p + 1) (head_bytes ss) _ (e ∙ append_assoc (head_bytes ss) (clauses_bytes cs) post) in
          run-walk x (rse ss cs) (such_place cs c) none (within_each a p (quantifier_code q) ss) _ p _ i (λ y z. boolean_at w y l s z)
          (λ b. clauses_truth (version_at s) b c cs) (λ y b j. clauses-walk cs y b l c post h e1 j.0) q

      rse-count : (r : Rse) (x : E) (a : Around) (l p : ℕ) (post : List ℕ) → rse_depth r ≤ l → drop (p + 1) s ≡ rse_bytes r ++ post →
          SeesRse (version_at s) w x a blr.count r none (λ y b. Unit {0}) p (p + 1 + length (rse_bytes r)) →
          count_at (w.over x p) (λ y z. boolean_at w y l s z) ≡ ended (rse_count (version_at s) a p r) (p + 1 + length (rse_bytes r))
      rse-count (rse ss cs) x a l p post h e i =
          let c = p + 1 + length (head_bytes ss) in
          let e1 : drop c s ≡ clauses_bytes cs ++ post = past (p + 1) (head_bytes ss) _ (e ∙ append_assoc (head_bytes ss) (clauses_bytes cs) post) in
          count-walk x (rse ss cs) (such_place cs c) none (within_each a p blr.count ss) _ p _ i (λ y z. boolean_at w y l s z)
          (λ b. clauses_truth (version_at s) b c cs) (λ y b j. clauses-walk cs y b l c post h e1 j.0)

      rse-numbers : (r : Rse) (x : E) (a : Around) (k : Statistic) (kind : Option Grammar.Kind) (v : Value) (l p end : ℕ) (post : List ℕ) → rse_depth r ≤ l →
          drop (p + 1) s ≡ rse_bytes r ++ post →
          ((y : E) (b : Around) → SeesValue (version_at s) w y b v (p + 1 + length (rse_bytes r)) →
          result_of (value_at w y l s (p + 1 + length (rse_bytes r))) ≡ value_of (version_at s) b (p + 1 + length (rse_bytes r)) v) →
          SeesRse (version_at s) w x a (statistic_code k) r kind (λ y b. SeesValue (version_at s) w y b v (p + 1 + length (rse_bytes r))) p end →
          numbers_at k p (w.over x p) (λ y z. boolean_at w y l s z) (λ y z. value_at w y l s z) ≡
          ended (rse_number (version_at s) a p k r kind (λ b. value_of (version_at s) b (p + 1 + length (rse_bytes r)) v)) end
      rse-numbers (rse ss cs) x a k kind v l p end post h e f i =
          let c = p + 1 + length (head_bytes ss) in
          let e1 : drop c s ≡ clauses_bytes cs ++ post = past (p + 1) (head_bytes ss) _ (e ∙ append_assoc (head_bytes ss) (clauses_bytes cs) post) in
          numbers-walk x (rse ss cs) (such_place cs c) kind (within_each a p (statistic_code k) ss) _ p end i (λ y z. boolean_at w y l s z)
          (λ b. clauses_truth (version_at s) b c cs) (λ y b j. clauses-walk cs y b l c post h e1 j.0) k (λ y z. value_at w y l s z) _ (λ y b j. f y b j.1)

      -- the condition of its clauses at p, with one record
      clauses-walk : (cs : Clauses) (x : E) (a : Around) (l p : ℕ) (post : List ℕ) → clauses_depth cs ≤ l → drop p s ≡ clauses_bytes cs ++ post →
          SeesClauses (version_at s) w x a cs p → such_at (such_place cs p) (λ z. boolean_at w x l s z) ≡ clauses_truth (version_at s) a p cs
      clauses-walk no_clauses x a l p post h e i = refl
      clauses-walk (such b cs) x a l p post h e i =
          let e1 : drop (p + 1) s ≡ boolean_bytes b ++ (clauses_bytes cs ++ post) = next p blr.boolean _ e ∙ append_assoc (boolean_bytes b) (clauses_bytes cs) post in
          ap result_of (boolean-walk b x a l (p + 1) _ (omega arith) e1 i) ∙ result-ended (truth_of (version_at s) a (p + 1) b) (p + 1 + boolean_size b)
      clauses-walk (sorted ks cs) x a l p post h e i =
          let e1 : drop (p + 1 + 1) s ≡ keys_bytes ks ++ (clauses_bytes cs ++ post) =
          next (p + 1) (key_count ks) _ (next p blr.sort _ e) ∙ append_assoc (keys_bytes ks) (clauses_bytes cs) post in
          let z : p + 1 + 1 ≡ p + 2 = omega arith in
          let e2 : drop (p + 2) s ≡ keys_bytes ks ++ (clauses_bytes cs ++ post) = rw z at e1 in
          clauses-walk cs x a l (p + 2 + length (keys_bytes ks)) post (omega arith) (past (p + 2) (keys_bytes ks) _ e2) i
