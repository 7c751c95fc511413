-- 02, No. 9: statistics as from-values and in a condition, read and over small runs of beds, computed by the definitions.
use Prim.Native.Nat.{ℕ, ◌+◌}
use mathlib.Core.Path.{◌≡◌, refl}
use mathlib.Core.List.{List, [], ◌∷◌, ◌++◌}
use lib.IntN.{ℤ, pos, neg_ℤ}
use Rattle.records.specs.declared.missing.Cause.TheVariants as Cause
use Rattle.wire.specs.Limits.{statement_table_numbers, parameter_table_numbers, context_table_numbers}
use Rattle.examples.proofs.Answers.{Answer, rows, is_true, is_missing, is_number, refusal, read_answer, evaluate_answer, value_answer}
use Rattle.examples.proofs.Examples.{dictionary, bed}
use Rattle.examples.proofs.AnyUnique.{condition, over, above, cool, warm, hot, unread, run}

-- ---- requests

-- a send of message 0, whose one parameter is a short, with an assignment to it, at 10; its from-value stands at 11
pub assigned : ℕ → List ℕ → List ℕ
assigned version bytes =
    version ∷ 0x02 ∷ 0x04 ∷ 0x00 ∷ 0x01 ∷ 0x00 ∷ 0x07 ∷ 0x00 ∷ 0x0E ∷ 0x00 ∷ 0x01 ∷ bytes ++
    (0x19 ∷ 0x00 ∷ 0x00 ∷ 0x00 ∷ 0xFF ∷ 0x4C ∷ [])

-- HEAT of context 0, and minus that
unfoldable pub heat : List ℕ
heat = 0x18 ∷ 0x00 ∷ 0x00 ∷ 0x00 ∷ []

pub opposite : List ℕ
opposite = 0x26 ∷ heat

-- 2^62 times what HEAT is above 1.0; its first literal is of version 5
pub great : List ℕ
great =
    0x24 ∷ 0x15 ∷ 0x10 ∷ 0x00 ∷ 0x00 ∷ 0x00 ∷ 0x00 ∷ 0x00 ∷ 0x00 ∷ 0x00 ∷ 0x00 ∷ 0x40 ∷ 0x23 ∷ heat ++
    (0x15 ∷ 0x07 ∷ 0xFF ∷ 0x0A ∷ 0x00 ∷ [])

pub letter : List ℕ
letter = 0x15 ∷ 0x0E ∷ 0x01 ∷ 0x00 ∷ 0x41 ∷ []

-- the average of HEAT is above 30.0
unfoldable pub warm_on_average : List ℕ
warm_on_average = 0x31 ∷ over 27 0 [] ++ heat ++ (0x15 ∷ 0x07 ∷ 0xFF ∷ 0x2C ∷ 0x01 ∷ [])

-- HEAT 1.1 and 0.9
pub eleven : List ℕ
eleven = bed 0 11 0

pub nine : List ℕ
nine = bed 0 9 0

-- ---- answers

pub read_of : List ℕ → Answer
read_of bytes = read_answer (assigned 4 bytes) dictionary statement_table_numbers parameter_table_numbers context_table_numbers

-- the rows of a statistic without clauses, which ends at a place, with the code that opens its context
pub rows_of : ℕ → ℕ → Answer
rows_of code end =
    rows (1 ∷ 2 ∷ 0 ∷ (end + 5) ∷ 0 ∷ 8 ∷ 14 ∷ 1 ∷ (end + 4) ∷ 0 ∷ 10 ∷ 1 ∷ 2 ∷ (end + 4) ∷ 0 ∷ []) (0 ∷ 0 ∷ 7 ∷ 0 ∷ 0 ∷ 2 ∷ [])
    (0 ∷ 14 ∷ 18 ∷ end ∷ 1 ∷ code ∷ [])

-- the from-value of row 2, of these bytes, over these runs
pub asked : List ℕ → List ℕ → Answer
asked bytes runs = value_answer (assigned 4 bytes) dictionary 2 (0 ∷ 0 ∷ []) [] runs

pub asked5 : List ℕ → List ℕ → Answer
asked5 bytes runs = value_answer (assigned 5 bytes) dictionary 2 (0 ∷ 0 ∷ []) [] runs

pub row : ℕ → Answer
row k = value_answer (assigned 4 (over 28 0 [])) dictionary k (0 ∷ 0 ∷ []) [] (run [])

-- a statistic of HEAT over all beds
pub all : ℕ → List ℕ → Answer
all code beds = asked (over code 0 [] ++ heat) (run beds)

-- one place
pub tenths : ℤ → Answer
tenths n = is_number n (neg_ℤ (pos 1))

pub computed : List Answer
computed =
    -- the scope reaches over the number; 13 over text, told at the statistic's code; 26 is left out; no context 0 after a count
    read_of (over 27 0 [] ++ heat) ∷ read_of (over 31 0 [] ++ heat) ∷ read_of (over 28 0 []) ∷ read_of (over 29 0 [] ++ letter) ∷
    read_of (over 26 0 [] ++ heat) ∷ read_of (0x22 ∷ over 28 0 [] ++ heat) ∷
    -- a reading of 65535 is skipped; average truncates toward zero
    all 27 (cool ++ unread ++ warm) ∷ all 27 (warm ++ hot) ∷ asked (over 27 0 [] ++ opposite) (run (warm ++ hot)) ∷
    all 31 (warm ++ unread) ∷ all 29 (cool ++ hot ++ unread ++ warm) ∷ all 30 (unread ++ hot ++ cool ++ warm) ∷ all 30 warm ∷
    -- of nothing
    all 27 [] ∷ all 29 unread ∷ all 30 unread ∷ all 31 [] ∷ all 31 unread ∷
    -- count counts kept records
    asked (over 28 0 []) (run (unread ++ cool)) ∷ asked (over 28 0 (0x47 ∷ above 0)) (run (unread ++ cool ++ warm)) ∷
    asked (over 28 0 []) (run []) ∷
    -- kept records alone
    asked (over 31 0 (0x47 ∷ above 0) ++ heat) (run (cool ++ warm ++ unread ++ hot)) ∷
    asked (over 27 0 (0x47 ∷ above 0) ++ heat) (run (cool ++ unread)) ∷
    -- a partial sum that doesn't fit
    asked5 (over 31 0 [] ++ great) (run (eleven ++ nine ++ eleven)) ∷ asked5 (over 31 0 [] ++ great) (run (eleven ++ eleven ++ nine)) ∷
    asked5 (over 27 0 [] ++ great) (run (eleven ++ eleven ++ nine)) ∷ asked5 (over 29 0 [] ++ great) (run (eleven ++ eleven ++ nine)) ∷
    -- rows that are no assignments; a run that is lacking; a condition
    row 2 ∷ row 0 ∷ row 1 ∷ row 3 ∷ asked (over 28 0 []) [] ∷ evaluate_answer (condition warm_on_average) dictionary 0 [] [] (run (warm ++ unread)) ∷
    evaluate_answer (condition warm_on_average) dictionary 0 [] [] (run unread) ∷ []

pub expected : List Answer
expected =
    rows_of 27 23 ∷ rows_of 31 23 ∷ rows_of 28 19 ∷ refusal 13 11 ∷ refusal 7 11 ∷ refusal 11 21
    ∷ tenths (pos 300) ∷ tenths (pos 301) ∷ tenths (neg_ℤ (pos 301))
    ∷ tenths (pos 301) ∷ tenths (pos 302) ∷ tenths (pos 299) ∷ tenths (pos 301)
    ∷ is_missing Cause.Nothing ∷ is_missing Cause.Nothing ∷ is_missing Cause.Nothing ∷ tenths (pos 0) ∷ tenths (pos 0)
    ∷ is_number (pos 2) (pos 0) ∷ is_number (pos 1) (pos 0) ∷ is_number (pos 0) (pos 0)
    ∷ tenths (pos 603) ∷ is_missing Cause.Nothing
    ∷ tenths (pos 4611686018427387904) ∷ refusal 24 11 ∷ refusal 24 11 ∷ tenths (pos 4611686018427387904)
    ∷ is_number (pos 0) (pos 0) ∷ refusal 20 0 ∷ refusal 20 0 ∷ refusal 20 0 ∷ refusal 26 0 ∷ is_true ∷ is_missing Cause.Nothing ∷ []

pub examples : computed ≡ expected
unfolding computed expected assigned heat opposite great letter warm_on_average eleven nine read_of rows_of asked asked5 row all tenths condition over above cool warm hot unread run bed dictionary read_answer evaluate_answer value_answer
examples = refl
