-- The list is a true reason: in any way that the tests which are not listed come out, the whole answer stays the same; and it is the answer
-- of evaluation.
use Prim.Native.Nat.{ℕ, ◌+◌}
use mathlib.Core.Path.{◌≡◌, refl, ap, ap₂, subst, ◌∙◌}
use mathlib.Core.Logic.{inl, inr}
use native.Mathlib.Omega.{arith}
use lib.ListN.{length-append}
use Rattle.wire.specs.declared.codes.Version.{Version}
use Rattle.wire.specs.declared.codes.Connective.{Connective}
use Rattle.grammar.specs.Tree.{Boolean, compare, search, between, connect, not, missing, quantify}
use Rattle.grammar.specs.Bytes.{boolean_bytes}
use Rattle.meaning.specs.declared.Truth.{Truth}
use Rattle.meaning.specs.Data.{Result, is, refused, stray, ◌>>=◌, connected, opposite}
use Rattle.meaning.specs.Runs.{Around}
use Rattle.meaning.specs.Meaning.{boolean_size, truth_of}
use Rattle.explanation.specs.Explanation.{Test, Explained, settles, joined, turned, test_of, explained_of}
use Rattle.explanation.specs.Reason.{truth_by, Each, Agrees, IsTest, Stands, TrueReason, Means}
use Rattle.walking.proofs.Sites.{boolean-size}
use Rattle.explanation.proofs.Tests.{each_needed, each_map, rising-widen, rising-needed, needed-some, decided}

-- ---- what holds of a result, if there is one

abbrev pub Holds : {A : Type 0} → (A → Type 0) → Result A → Type 0
Holds P (is x) = P x
Holds P (refused f p) = Unit {0}
Holds P stray = Unit {0}

pub one_holds : {A B : Type 0} (P : A → Type 0) (Q : B → Type 0) (m : Result A) (f : A → B) → Holds P m → ((x : A) → P x → Q (f x)) →
    Holds Q (m >>= (λ x. is (f x)))
one_holds P Q (is x) f h k = k x h
one_holds P Q (refused r p) f h k = tt
one_holds P Q stray f h k = tt

pub two-hold : {A B C : Type 0} (P : A → Type 0) (Q : B → Type 0) (R : C → Type 0) (m : Result A) (n : Result B) (f : A → B → C) → Holds P m →
    Holds Q n → ((x : A) (y : B) → P x → Q y → R (f x y)) → Holds R (m >>= (λ x. n >>= (λ y. is (f x y))))
two-hold P Q R (is x) n f h i k = one_holds Q R n (f x) i (λ y j. k x y h j)
two-hold P Q R (refused r p) n f h i k = tt
two-hold P Q R stray n f h i k = tt

module _ (e : Version) (a : Around) where
  -- ---- a true reason

  -- of one test
  of_test : (p : ℕ) (b : Boolean) → ((o : ℕ → Truth) → truth_by o p b ≡ o p) → ((t : Test) → IsTest e a p b t → Stands e a p b t) →
      Holds (TrueReason e a p b) (test_of p (truth_of e a p b))
  of_test p b f g = by (truth_of e a p b) refl
    where
      by : (m : Result Truth) → truth_of e a p b ≡ m → Holds (TrueReason e a p b) (test_of p m)
      by (is t) k =
          record {
            decides = λ o i. f o ∙ i.0;
            no_lie = (g (record { place = p; outcome = t }) (refl, k), tt);
            in_order = (omega arith, omega (arith, boolean-size b));
            some_test = omega arith;
          }
      by (refused r q) k = tt
      by stray k = tt

  of-connective : (c : Connective) (b d : Boolean) (p : ℕ) (x y : Explained) → TrueReason e a (p + 1) b x →
      TrueReason e a (p + 1 + boolean_size b) d y → TrueReason e a p (connect c b d) (joined c x y)
  unfolding joined truth_by Stands boolean_bytes
  of-connective c b d p x y h k =
      let one = settles c x.truth in
      let two = settles c y.truth in
      let z = length-append (boolean_bytes b) (boolean_bytes d) in
      record {
        decides = λ o w. decided c x.truth y.truth o _ _ x.tests y.tests (h.decides o) (k.decides o) w;
        no_lie = each_needed _ one two x.tests y.tests (each_map _ _ x.tests (λ t w. inl w) h.no_lie) (each_map _ _ y.tests (λ t w. inr w) k.no_lie);
        in_order = rising-widen (joined c x y).tests (p + 1) p (p + 1 + boolean_size b + boolean_size d) (p + boolean_size (connect c b d)) (omega arith) (omega (arith, z))
            (rising-needed one two x.tests y.tests (p + 1) (p + 1 + boolean_size b) _ (omega arith) (omega arith) h.in_order k.in_order);
        some_test = needed-some one two x.tests y.tests h.some_test k.some_test;
      }

  of-not : (b : Boolean) (p : ℕ) (x : Explained) → TrueReason e a (p + 1) b x → TrueReason e a p (not b) (turned x)
  unfolding truth_by Stands boolean_bytes
  of-not b p x h =
      record {
        decides = λ o w. ap opposite (h.decides o w);
        no_lie = h.no_lie;
        in_order = rising-widen x.tests (p + 1) p (p + 1 + boolean_size b) (p + boolean_size (not b)) (omega arith) (omega arith) h.in_order;
        some_test = h.some_test;
      }

  reasons : (b : Boolean) (p : ℕ) → Holds (TrueReason e a p b) (explained_of e a p b)
  unfolding explained_of truth_by Stands boolean_bytes
  reasons (compare c v w) p = of_test p (compare c v w) (λ o. refl) (λ t h. h)
  reasons (search s v w) p = of_test p (search s v w) (λ o. refl) (λ t h. h)
  reasons (between u v w) p = of_test p (between u v w) (λ o. refl) (λ t h. h)
  reasons (connect c b d) p =
      two-hold (TrueReason e a (p + 1) b) (TrueReason e a (p + 1 + boolean_size b) d) (TrueReason e a p (connect c b d)) (explained_of e a (p + 1) b)
      (explained_of e a (p + 1 + boolean_size b) d) (joined c) (reasons b (p + 1)) (reasons d (p + 1 + boolean_size b)) (of-connective c b d p)
  reasons (not b) p =
      one_holds (TrueReason e a (p + 1) b) (TrueReason e a p (not b)) (explained_of e a (p + 1) b) turned (reasons b (p + 1)) (of-not b p)
  reasons (missing v) p = of_test p (missing v) (λ o. refl) (λ t h. h)
  reasons (quantify q r) p = of_test p (quantify q r) (λ o. refl) (λ t h. h)

  pub true-reason : (b : Boolean) (p : ℕ) (x : Explained) → explained_of e a p b ≡ is x → TrueReason e a p b x
  true-reason b p x h = subst (Holds (TrueReason e a p b)) h (reasons b p)

  -- 02, No. 6: "make each test not listed true, false or missing and the whole answer stays the same"
  pub a-true-reason : (b : Boolean) (p : ℕ) (x : Explained) → explained_of e a p b ≡ is x → (o : ℕ → Truth) → Agrees o x.tests →
      truth_by o p b ≡ x.truth
  a-true-reason b p x h = (true-reason b p x h).decides

  -- each listed test is one of the boolean's, with the outcome that the meaning has for it
  pub no_lie : (b : Boolean) (p : ℕ) (x : Explained) → explained_of e a p b ≡ is x → Each (Stands e a p b) x.tests
  no_lie b p x h = (true-reason b p x h).no_lie

  -- ---- as evaluated

  abbrev truth_in : Result Explained → Result Truth
  truth_in m = m >>= (λ x. is x.truth)

  test-truth : (p : ℕ) (m : Result Truth) → truth_in (test_of p m) ≡ m
  test-truth p (is t) = refl
  test-truth p (refused f q) = refl
  test-truth p stray = refl

  turned-truth : (m : Result Explained) → truth_in (m >>= (λ x. is (turned x))) ≡ (truth_in m >>= (λ t. is (opposite t)))
  turned-truth (is x) = refl
  turned-truth (refused f q) = refl
  turned-truth stray = refl

  joined-truth : (c : Connective) (m n : Result Explained) →
      truth_in (m >>= (λ x. n >>= (λ y. is (joined c x y)))) ≡ (truth_in m >>= (λ t. truth_in n >>= (λ u. is (connected c t u))))
  unfolding joined
  joined-truth c (is x) (is y) = refl
  joined-truth c (is x) (refused f q) = refl
  joined-truth c (is x) stray = refl
  joined-truth c (refused f q) n = refl
  joined-truth c stray n = refl

  -- what is explained is what evaluation gives, the same refusals at the same places
  pub as-evaluated : (b : Boolean) (p : ℕ) → truth_in (explained_of e a p b) ≡ truth_of e a p b
  unfolding explained_of truth_of
  as-evaluated (compare c v w) p = test-truth p (truth_of e a p (compare c v w))
  as-evaluated (search s v w) p = test-truth p (truth_of e a p (search s v w))
  as-evaluated (between u v w) p = test-truth p (truth_of e a p (between u v w))
  as-evaluated (connect c b d) p =
      joined-truth c (explained_of e a (p + 1) b) (explained_of e a (p + 1 + boolean_size b) d)
      ∙ ap₂ (λ m n. m >>= (λ t. n >>= (λ u. is (connected c t u)))) (as-evaluated b (p + 1)) (as-evaluated d (p + 1 + boolean_size b))
  as-evaluated (not b) p = turned-truth (explained_of e a (p + 1) b) ∙ ap (λ m. m >>= (λ t. is (opposite t))) (as-evaluated b (p + 1))
  as-evaluated (missing v) p = test-truth p (truth_of e a p (missing v))
  as-evaluated (quantify q r) p = test-truth p (truth_of e a p (quantify q r))

  -- an assignment of the meaning's own outcomes gives the meaning
  pub by-outcomes : (o : ℕ → Truth) (b : Boolean) (p : ℕ) → Means e a o p b → truth_of e a p b ≡ is (truth_by o p b)
  unfolding truth_of truth_by Means
  by-outcomes o (compare c v w) p h = h
  by-outcomes o (search s v w) p h = h
  by-outcomes o (between u v w) p h = h
  by-outcomes o (connect c b d) p h =
      ap₂ (λ m n. m >>= (λ t. n >>= (λ u. is (connected c t u)))) (by-outcomes o b (p + 1) h.0) (by-outcomes o d (p + 1 + boolean_size b) h.1)
  by-outcomes o (not b) p h = ap (λ m. m >>= (λ t. is (opposite t))) (by-outcomes o b (p + 1) h)
  by-outcomes o (missing v) p h = h
  by-outcomes o (quantify q r) p h = h
