-- 02, No. 4: any and unique, read and over small runs of beds, computed by the definitions.
use Prim.Native.Nat.{ℕ, ◌+◌}
use mathlib.Core.Path.{◌≡◌, refl}
use mathlib.Core.List.{List, [], ◌∷◌, ◌++◌}
use lib.ListN.{length, take, set}
use Rattle.wire.specs.Limits.{statement_table_numbers, parameter_table_numbers, context_table_numbers}
use Rattle.examples.proofs.Answers.{Answer, rows, is_true, is_false, refusal, read_answer, evaluate_answer}
use Rattle.examples.proofs.Examples.{S, dictionary, bed}

-- ---- requests

-- an if whose condition, at 3, is a boolean of these bytes
unfoldable pub condition : List ℕ → List ℕ
condition bytes = 0x04 ∷ 0x02 ∷ 0x08 ∷ bytes ++ (0x02 ∷ 0xFF ∷ 0xFF ∷ 0xFF ∷ 0x4C ∷ [])

-- an any (60) or a unique (62) of relation 1, BEDS, with a context of that number and these clauses
unfoldable pub over : ℕ → ℕ → List ℕ → List ℕ
over code context clauses = code ∷ 0x43 ∷ 0x01 ∷ 0x4B ∷ 0x01 ∷ 0x00 ∷ context ∷ clauses ++ (0xFF ∷ [])

-- HEAT of a context is above 30.0
unfoldable pub above : ℕ → List ℕ
above context = 0x31 ∷ 0x18 ∷ context ∷ 0x00 ∷ 0x00 ∷ 0x15 ∷ 0x07 ∷ 0xFF ∷ 0x2C ∷ 0x01 ∷ []

-- 30.0 by HEAT of context 0 is above 0
pub shared : List ℕ
shared = 0x31 ∷ 0x25 ∷ 0x15 ∷ 0x07 ∷ 0xFF ∷ 0x2C ∷ 0x01 ∷ 0x18 ∷ 0x00 ∷ 0x00 ∷ 0x00 ∷ 0x15 ∷ 0x07 ∷ 0x00 ∷ 0x00 ∷ 0x00 ∷ []

-- HEAT of context 1 is above that of context 0
pub warmer : List ℕ
warmer = 0x31 ∷ 0x18 ∷ 0x01 ∷ 0x00 ∷ 0x00 ∷ 0x18 ∷ 0x00 ∷ 0x00 ∷ 0x00 ∷ []

-- a bed that has a warmer one in an inner run, and is above 30.0 itself
pub nested : List ℕ
nested = 0x3A ∷ over 60 1 (0x47 ∷ warmer) ++ above 0

-- ---- runs

-- HEAT 29.9, 30.1, 30.2, 10.0, 0.0 and 65535
unfoldable pub cool : List ℕ
cool = bed 0 0x2B 0x01

unfoldable pub warm : List ℕ
warm = bed 0 0x2D 0x01

unfoldable pub hot : List ℕ
hot = bed 0 0x2E 0x01

pub ten : List ℕ
ten = bed 0 100 0

pub zeroed : List ℕ
zeroed = bed 0 0 0

unfoldable pub unread : List ℕ
unread = bed 0 0xFF 0xFF

-- an entry of kind 7 of fewer than 252 bytes
unfoldable pub run : List ℕ → List ℕ
run beds = (4 + length beds) ∷ 0 ∷ 7 ∷ 0 ∷ beds

-- ---- answers

-- an any of those above 30.0 with another byte at a place, read with tables of the smallest lengths
pub altered : ℕ → ℕ → Answer
altered place byte =
    read_answer (set (condition (over 60 0 (0x47 ∷ above 0))) place byte) dictionary statement_table_numbers parameter_table_numbers context_table_numbers

-- its rows, with the code that opens its context
pub rows_of : ℕ → Answer
rows_of code = rows (1 ∷ 2 ∷ 0 ∷ 26 ∷ 0 ∷ 2 ∷ 8 ∷ 1 ∷ 25 ∷ 1 ∷ 22 ∷ 2 ∷ 2 ∷ 24 ∷ 0 ∷ []) [] (0 ∷ 6 ∷ 10 ∷ 22 ∷ 1 ∷ code ∷ [])

-- the condition of these bytes over these runs
pub asked : List ℕ → List ℕ → Answer
asked bytes runs = evaluate_answer (condition bytes) dictionary 0 [] [] runs

-- an any or a unique of those above 30.0
pub quantified : ℕ → List ℕ → Answer
quantified code runs = asked (over code 0 (0x47 ∷ above 0)) runs

pub sorting : List ℕ
sorting = 0x46 ∷ 0x01 ∷ 0x48 ∷ 0x18 ∷ 0x00 ∷ 0x01 ∷ 0x00 ∷ []

pub computed : List Answer
computed =
    -- any and unique are read; 63 is left out; one stream; a context that is not there
    altered 3 60 ∷ altered 3 62 ∷ altered 3 63 ∷ altered 5 0 ∷ altered 5 2 ∷ altered 5 8 ∷ altered 5 9 ∷ altered 13 1 ∷
    -- a missing condition keeps no record, and neither answer is missing
    quantified 60 (run (unread ++ warm)) ∷ quantified 60 (run (unread ++ cool)) ∷ quantified 62 (run (unread ++ warm)) ∷
    asked (0x3B ∷ over 60 0 (0x47 ∷ above 0)) (run unread) ∷
    -- exactly one
    quantified 62 (run (warm ++ hot)) ∷ quantified 60 (run (warm ++ hot)) ∷ quantified 62 (run (warm ++ cool ++ hot)) ∷
    -- the empty run
    quantified 60 (run []) ∷ quantified 62 (run []) ∷ asked (over 60 0 []) (run []) ∷
    -- an rse without a condition keeps every record; a sort changes nothing
    asked (over 60 0 []) (run unread) ∷ asked (over 62 0 []) (run unread) ∷ asked (over 62 0 []) (run (unread ++ cool)) ∷
    asked (over 60 0 sorting) (run unread) ∷ asked (over 60 0 (sorting ++ (0x47 ∷ above 0))) (run cool) ∷
    asked (over 60 0 (0x47 ∷ above 0 ++ sorting)) (run (cool ++ warm)) ∷
    -- every record is tested, in order, and the first refusal stands
    asked (over 60 0 (0x47 ∷ shared)) (run (ten ++ ten)) ∷ asked (over 60 0 (0x47 ∷ shared)) (run (ten ++ zeroed)) ∷
    asked (over 62 0 (0x47 ∷ shared)) (run (ten ++ ten ++ zeroed)) ∷
    -- the inner run again for each outer record; runs in the order of the places of their codes
    asked (over 60 0 (0x47 ∷ nested)) (run (cool ++ warm) ++ run (warm ++ hot)) ∷
    asked (over 62 0 (0x47 ∷ nested)) (run (cool ++ warm) ++ run (warm ++ hot)) ∷
    asked (over 62 0 (0x47 ∷ nested)) (run (warm ++ warm) ++ run (cool ++ hot)) ∷
    asked (over 60 0 (0x47 ∷ nested)) (run (warm ++ hot) ++ run (cool ++ warm)) ∷
    asked (0x39 ∷ over 60 0 (0x47 ∷ above 0) ++ over 62 0 []) (run cool ++ run (cool ++ cool)) ∷
    asked (0x39 ∷ over 60 0 (0x47 ∷ above 0) ++ over 62 0 []) (run (cool ++ cool) ++ run cool) ∷
    -- runs not as due: cut, cut inside a record, of another kind, none, too few, too many, and where none is due
    quantified 60 (take 16 (run warm)) ∷ quantified 60 (run (warm ++ take 12 warm)) ∷ quantified 60 warm ∷ quantified 60 [] ∷
    asked (over 60 0 (0x47 ∷ nested)) (run warm) ∷ asked (over 60 0 (0x47 ∷ nested)) (run warm ++ take 3 (run hot)) ∷
    quantified 60 (run warm ++ (1 ∷ [])) ∷ quantified 60 (run (bed 4 0x2D 0x01)) ∷
    evaluate_answer S dictionary 0 (0 ∷ 0 ∷ []) warm (run []) ∷ evaluate_answer S dictionary 0 (0 ∷ 0 ∷ []) [] (run []) ∷ []

pub expected : List Answer
expected =
    rows_of 60 ∷ rows_of 62 ∷ refusal 7 3 ∷ refusal 16 5 ∷ refusal 8 5 ∷ refusal 8 5 ∷ refusal 16 5 ∷ refusal 11 13
    ∷ is_true ∷ is_false ∷ is_true ∷ is_true
    ∷ is_false ∷ is_true ∷ is_false
    ∷ is_false ∷ is_false ∷ is_false
    ∷ is_true ∷ is_true ∷ is_false ∷ is_true ∷ is_false ∷ is_true
    ∷ is_true ∷ refusal 25 12 ∷ refusal 25 12
    ∷ is_true ∷ is_true ∷ is_false ∷ is_false ∷ is_false ∷ is_true
    ∷ refusal 26 0 ∷ refusal 26 0 ∷ refusal 26 0 ∷ refusal 26 0 ∷ refusal 26 17 ∷ refusal 26 17 ∷ refusal 26 17 ∷ refusal 26 0
    ∷ refusal 26 0 ∷ refusal 22 0 ∷ []

pub examples : computed ≡ expected
unfolding computed expected condition over above shared warmer nested cool warm hot ten zeroed unread run altered rows_of asked quantified sorting bed S dictionary read_answer evaluate_answer
examples = refl
