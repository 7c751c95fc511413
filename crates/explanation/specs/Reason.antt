-- 02, No. 6: "Prove the list a true reason: make each test not listed true, false or missing and the whole answer stays the same."
use Rattle.std.specs.Prelude.{ℕ, ◌+◌, ◌≤◌, ◌≡◌, ◌⊎◌, List, [], ◌∷◌, length}
use Rattle.wire.specs.declared.codes.Version.{Version}
use Rattle.dictionary.specs.Dictionary.{Relation}
use Rattle.grammar.specs.Tree.{Boolean, compare, search, between, connect, not, missing, quantify, Request}
use Rattle.grammar.specs.Conditions.{Condition}
use Rattle.meaning.specs.declared.Truth.{Truth}
use Rattle.meaning.specs.Data.{is, connected, opposite}
use Rattle.meaning.specs.Runs.{Around}
use Rattle.meaning.specs.Meaning.{boolean_size, truth_of, around}
use Rattle.meaning.specs.Evaluation.{answered, evaluation}
use Rattle.explanation.specs.Explanation.{Test, Explained}

-- the boolean at p, where the test at each place comes out as an assignment says
unfoldable pub truth_by : (ℕ → Truth) → ℕ → Boolean → Truth
truth_by o p (compare c v w) = o p
truth_by o p (search t v w) = o p
truth_by o p (between u v w) = o p
truth_by o p (connect c b d) = connected c (truth_by o (p + 1) b) (truth_by o (p + 1 + boolean_size b) d)
truth_by o p (not b) = opposite (truth_by o (p + 1) b)
truth_by o p (missing v) = o p
truth_by o p (quantify q r) = o p

abbrev pub Each : (Test → Type 0) → List Test → Type 0
Each P [] = Unit {0}
Each P (t ∷ ts) = P t × Each P ts

-- the assignment has the outcome of each listed test, and any for the others
abbrev pub Agrees : (ℕ → Truth) → List Test → Type 0
Agrees o ts = Each (λ t. o t.place ≡ t.outcome) ts

-- t stands at the place of a test, the boolean at p, and has its outcome
abbrev pub IsTest : Version → Around → ℕ → Boolean → Test → Type 0
IsTest e a p b t = (t.place ≡ p) × (truth_of e a p b ≡ is t.outcome)

-- t is one of the tests of the boolean at p, with the outcome that the meaning has for it
unfoldable pub Stands : Version → Around → ℕ → Boolean → Test → Type 0
Stands e a p (compare c v w) t = IsTest e a p (compare c v w) t
Stands e a p (search s v w) t = IsTest e a p (search s v w) t
Stands e a p (between u v w) t = IsTest e a p (between u v w) t
Stands e a p (connect c b d) t = Stands e a (p + 1) b t ⊎ Stands e a (p + 1 + boolean_size b) d t
Stands e a p (not b) t = Stands e a (p + 1) b t
Stands e a p (missing v) t = IsTest e a p (missing v) t
Stands e a p (quantify q r) t = IsTest e a p (quantify q r) t

-- "in reading order": the places rise from p on, and are below end
abbrev pub Rising : ℕ → List Test → ℕ → Type 0
Rising p [] end = p ≤ end
Rising p (t ∷ ts) end = (p ≤ t.place) × Rising (t.place + 1) ts end

-- what is proved of what explains the boolean at p
pub record TrueReason (e : Version) (a : Around) (p : ℕ) (b : Boolean) (x : Explained) : Type 0 where
  -- the answer stays the same, the cause of a missing one included
  pub decides : (o : ℕ → Truth) → Agrees o x.tests → truth_by o p b ≡ x.truth
  -- no listed test lies
  pub no_lie : Each (Stands e a p b) x.tests
  pub in_order : Rising p x.tests (p + boolean_size b)
  pub some_test : 1 ≤ length x.tests

-- an assignment that has the meaning's outcome of each test of the boolean at p
unfoldable pub Means : Version → Around → (ℕ → Truth) → ℕ → Boolean → Type 0
Means e a o p (compare c v w) = truth_of e a p (compare c v w) ≡ is (o p)
Means e a o p (search t v w) = truth_of e a p (search t v w) ≡ is (o p)
Means e a o p (between u v w) = truth_of e a p (between u v w) ≡ is (o p)
Means e a o p (connect c b d) = Means e a o (p + 1) b × Means e a o (p + 1 + boolean_size b) d
Means e a o p (not b) = Means e a o (p + 1) b
Means e a o p (missing v) = truth_of e a p (missing v) ≡ is (o p)
Means e a o p (quantify q r) = truth_of e a p (quantify q r) ≡ is (o p)

-- how many tests a condition of an accepted request has at most: a test has five bytes or more, a connective one, and a request 65,535
abbrev pub most_tests : ℕ
most_tests = 10922

-- what is proved of the tests that are listed for a condition of an accepted request: they are a true reason of evaluation's answer
pub record Explains (s d : List ℕ) (rs : List Relation) (r : Request) (n : ℕ) (x : Condition) (images rows runs : List ℕ) (ts : List Test) :
    Type 0 where
  pub truth : Truth
  pub evaluated : evaluation s d n images rows runs ≡ answered truth
  pub reason :
      TrueReason r.version (around rs r x images rows runs) x.place x.boolean (record { truth = truth; tests = ts })
  pub few : length ts ≤ most_tests
