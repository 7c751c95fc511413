-- Document 01's examples that are marked P, as a single list.
use Prim.Native.Nat.{ℕ}
use mathlib.Core.Path.{◌≡◌, refl}
use mathlib.Core.List.{List, [], ◌∷◌, map}
use lib.ListN.{set}
use Rattle.wire.specs.Limits.{statement_table_numbers, parameter_table_numbers, context_table_numbers}
use Rattle.records.specs.declared.missing.Cause.TheVariants as Cause
use Rattle.examples.proofs.Answers.{Answer, rows, is_true, is_false, is_missing, refusal, read_answer, evaluate_answer}

-- 01: "Request S, 41 bytes in hex"
unfoldable pub S : List ℕ
S =
    0x04 ∷ 0x02 ∷ 0x04 ∷ 0x00 ∷ 0x01 ∷ 0x00 ∷ 0x07 ∷ 0x00 ∷ 0x07 ∷ 0x43 ∷ 0x01 ∷ 0x4B ∷ 0x01 ∷ 0x00 ∷ 0x00 ∷ 0x47 ∷ 0x31 ∷ 0x18 ∷ 0x00 ∷ 0x00 ∷
    0x00 ∷ 0x15 ∷ 0x07 ∷ 0xFF ∷ 0x2C ∷ 0x01 ∷ 0xFF ∷ 0x0E ∷ 0x00 ∷ 0x01 ∷ 0x15 ∷ 0x07 ∷ 0x00 ∷ 0x01 ∷ 0x00 ∷ 0x19 ∷ 0x00 ∷ 0x00 ∷ 0x00 ∷ 0xFF ∷ 0x4C ∷ []

-- 01: "Relation 1 BEDS has HEAT (200, scale -1) and NAME (text 4)."
unfoldable pub dictionary : List ℕ
dictionary =
    11 ∷ 0 ∷ 1 ∷ 0 ∷ 1 ∷ 0 ∷ 4 ∷ 66 ∷ 69 ∷ 68 ∷ 83 ∷
    15 ∷ 0 ∷ 2 ∷ 0 ∷ 0 ∷ 0 ∷ 200 ∷ 255 ∷ 2 ∷ 0 ∷ 4 ∷ 72 ∷ 69 ∷ 65 ∷ 84 ∷
    15 ∷ 0 ∷ 2 ∷ 0 ∷ 1 ∷ 0 ∷ 14 ∷ 0 ∷ 4 ∷ 0 ∷ 4 ∷ 78 ∷ 65 ∷ 77 ∷ 69 ∷ []

-- a record of BEDS: missing bits, the word of HEAT, and NAME "ABCD"
unfoldable pub bed : ℕ → ℕ → ℕ → List ℕ
bed bits low high = 13 ∷ 0 ∷ 3 ∷ 0 ∷ 1 ∷ 0 ∷ bits ∷ low ∷ high ∷ 65 ∷ 66 ∷ 67 ∷ 68 ∷ []

-- S with another byte at a place, read with tables of the smallest lengths
pub altered : ℕ → ℕ → Answer
altered place byte = read_answer (set S place byte) dictionary statement_table_numbers parameter_table_numbers context_table_numbers

-- the condition of S over a record
pub evaluated : List ℕ → Answer
evaluated record' = evaluate_answer S dictionary 0 (0 ∷ 0 ∷ []) record' []

-- HEAT 301, 300, 65534, 65535, and 301 with its bit set
pub beds : List (List ℕ)
beds = bed 0 0x2D 0x01 ∷ bed 0 0x2C 0x01 ∷ bed 0 0xFE 0xFF ∷ bed 0 0xFF 0xFF ∷ bed 1 0x2D 0x01 ∷ []

-- the rows of S; 02, No. 7: a fifth number of a statement's row, and a sixth of a context's
pub rows_of_s : Answer
rows_of_s =
    rows
    (1 ∷ 2 ∷ 0 ∷ 40 ∷ 0 ∷ 8 ∷ 7 ∷ 1 ∷ 39 ∷ 1 ∷ 27 ∷ 14 ∷ 2 ∷ 39 ∷ 0 ∷ 29 ∷ 1 ∷ 3 ∷ 39 ∷ 0 ∷ [])
    (0 ∷ 0 ∷ 7 ∷ 0 ∷ 0 ∷ 2 ∷ [])
    (0 ∷ 11 ∷ 15 ∷ 39 ∷ 1 ∷ 7 ∷ [])

pub expected : List Answer
expected =
    -- "P: S gives these rows."
    rows_of_s
    -- 02, No. 8: "5 now for a first byte other than 4 or 5, so 01's S with byte 0 at 5 is accepted", in place of 01's "byte 0 to 5: 5 at 0"
    ∷ rows_of_s ∷ refusal 5 0
    -- "Byte 18 to 1: 11 at 18. Byte 19 to 1: 13 at 16; to 2: 12 at 19. Byte 36 to 5: 9 at 36. Byte 37 to 1: 10 at 37."
    ∷ refusal 11 18 ∷ refusal 13 16 ∷ refusal 12 19 ∷ refusal 9 36 ∷ refusal 10 37
    -- "P: HEAT 301 true, 300 false, 65534 true, 65535 missing, 301 with its bit set missing."
    ∷ is_true ∷ is_false ∷ is_true ∷ is_missing Cause.Reading ∷ is_missing Cause.Bit ∷ []

-- the examples by reading and evaluation
pub computed : List Answer
computed =
    read_answer S dictionary statement_table_numbers parameter_table_numbers context_table_numbers ∷
    altered 0 5 ∷ altered 0 6 ∷ altered 18 1 ∷ altered 19 1 ∷ altered 19 2 ∷ altered 36 5 ∷ altered 37 1 ∷ map evaluated beds

-- 01: "The P examples are proved on the definitions as a single list under one theorem"
pub examples : computed ≡ expected
unfolding computed expected rows_of_s altered evaluated beds bed S dictionary read_answer evaluate_answer
examples = refl
