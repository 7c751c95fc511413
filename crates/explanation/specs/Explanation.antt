-- 02, No. 6: "For an evaluated boolean the tool prints the tests that decide it, in reading order, a line each with place and outcome".
use Rattle.std.specs.Prelude.{ℕ, ◌+◌, ◌*◌, Bool, true, false, List, [], ◌∷◌, ◌++◌, leb, length, replicate}
use Rattle.std.proofs.Math.Option.{Option, none, some}
use Rattle.std.proofs.Math.ListN.{get_elem?}
use Rattle.wire.specs.declared.codes.Version.{Version}
use Rattle.wire.specs.declared.codes.Connective.{Connective}
use Rattle.wire.specs.declared.codes.Connective.TheVariants.{Or, And}
use Rattle.dictionary.specs.Dictionary.{Relation, dictionary}
use Rattle.grammar.specs.declared.Refusal.TheVariants.{TablesTooShort}
use Rattle.grammar.specs.Tree.{Boolean, compare, search, between, connect, not, missing, quantify, Request}
use Rattle.grammar.specs.Conditions.{Condition, request_conditions}
use Rattle.grammar.specs.Reading.{reading, relations_of, padded}
use Rattle.meaning.specs.declared.Truth.{Truth}
use Rattle.meaning.specs.declared.Truth.TheVariants.{True, False, Missing}
use Rattle.meaning.specs.Data.{Result, is, stray, ◌>>=◌, connected, opposite}
use Rattle.meaning.specs.Runs.{Around}
use Rattle.meaning.specs.Decoding.{decode}
use Rattle.meaning.specs.House.{house}
use Rattle.meaning.specs.Meaning.{boolean_size, truth_of, around}
use Rattle.meaning.specs.Evaluation.{Outcome, answered, refusal, strayed, outcome, on_reading}

-- a test: the place of its code, and its own outcome, also under a not
pub record Test : Type 0 where
  pub place : ℕ
  pub outcome : Truth

-- what a boolean comes out as, and the tests that decide it
pub record Explained : Type 0 where
  pub truth : Truth
  pub tests : List Test

abbrev pub as_test : ℕ → Truth → Explained
as_test p t = record { truth = t; tests = record { place = p; outcome = t } ∷ [] }

-- an and is false if a side of it is, and an or true
abbrev pub settles : Connective → Truth → Bool
settles Or True = true
settles Or False = false
settles Or (Missing w) = false
settles And True = false
settles And False = true
settles And (Missing w) = false

-- "A false and needs the tests of its first false side, a true or those of its first true side; in other cases both sides' tests are
-- printed"
abbrev pub needed : Bool → Bool → List Test → List Test → List Test
needed true second ts us = ts
needed false true ts us = us
needed false false ts us = ts ++ us

unfoldable pub joined : Connective → Explained → Explained → Explained
joined c x y =
    record {
      truth = connected c x.truth y.truth;
      tests = needed (settles c x.truth) (settles c y.truth) x.tests y.tests;
    }

-- "not passes through"
abbrev pub turned : Explained → Explained
turned x = record { truth = opposite x.truth; tests = x.tests }

-- a boolean that is one test
abbrev pub test_of : ℕ → Result Truth → Result Explained
test_of p m = do
  t ← m
  is (as_test p t)

-- of a request of version e, in what stands around it; the code stands at p; "Each boolean but or, and, not is one test, any and unique
-- whole."
unfoldable pub explained_of : Version → Around → ℕ → Boolean → Result Explained
explained_of e a p (compare c v w) = test_of p (truth_of e a p (compare c v w))
explained_of e a p (search t v w) = test_of p (truth_of e a p (search t v w))
explained_of e a p (between u v w) = test_of p (truth_of e a p (between u v w))
explained_of e a p (connect c b d) = do
  x ← explained_of e a (p + 1) b
  y ← explained_of e a (p + 1 + boolean_size b) d
  is (joined c x y)
explained_of e a p (not b) = do
  x ← explained_of e a (p + 1) b
  is (turned x)
explained_of e a p (missing v) = test_of p (truth_of e a p (missing v))
explained_of e a p (quantify q r) = test_of p (truth_of e a p (quantify q r))

-- the condition of a request, with its messages, records and runs, as its meaning has it
abbrev pub condition_explained : List Relation → Request → List ℕ → List ℕ → List ℕ → Option Condition → Result Explained
condition_explained d r images records runs none = stray
condition_explained d r images records runs (some x) =
    explained_of r.version (around d r x images records runs) x.place x.boolean

abbrev pub request_explained : Option Request → List Relation → ℕ → List ℕ → List ℕ → List ℕ → Result Explained
request_explained none d n images records runs = stray
request_explained (some r) d n images records runs = condition_explained d r images records runs (get_elem? (request_conditions d r) n)

-- request, dictionary, boolean number, message images, records, runs
unfoldable pub explained : List ℕ → List ℕ → ℕ → List ℕ → List ℕ → List ℕ → Result Explained
explained s d n images records runs = request_explained (decode s) (house d) n images records runs

-- ---- the answer for every input

-- what evaluation answers, with the tests; refused as evaluation is, by the same numbers at the same places
unfoldable pub explained_evaluation : List ℕ → List ℕ → ℕ → List ℕ → List ℕ → List ℕ → Outcome Explained
explained_evaluation s d n images rows runs =
    on_reading (reading s d) (relations_of (dictionary d)) n images rows runs (outcome (explained s d n images rows runs))

-- after that 1 at 0, where the lent table has no room for two numbers a test
abbrev pub in_room : Bool → List Test → Outcome (List Test)
in_room true ts = answered ts
in_room false ts = refusal TablesTooShort 0

abbrev pub in_table : ℕ → Outcome Explained → Outcome (List Test)
in_table room (answered x) = in_room (leb (2 * length x.tests) room) x.tests
in_table room (refusal r p) = refusal r p
in_table room strayed = strayed

-- with a table of so many numbers
unfoldable pub explanation : List ℕ → List ℕ → ℕ → List ℕ → List ℕ → List ℕ → ℕ → Outcome (List Test)
explanation s d n images rows runs room = in_table room (explained_evaluation s d n images rows runs)

-- ---- the table

-- an outcome as C has it
abbrev pub outcome_number : Truth → ℕ
outcome_number False = 0
outcome_number True = 1
outcome_number (Missing w) = 2

-- two numbers a test: "place and outcome"
unfoldable pub test_numbers : List Test → List ℕ
test_numbers [] = []
test_numbers (t ∷ ts) = t.place ∷ outcome_number t.outcome ∷ test_numbers ts

-- the rest zero; a refusal leaves zeros alone
unfoldable pub test_table : Outcome (List Test) → ℕ → List ℕ
test_table (answered ts) room = padded (test_numbers ts) room
test_table (refusal r p) room = replicate room 0
test_table strayed room = replicate room 0
