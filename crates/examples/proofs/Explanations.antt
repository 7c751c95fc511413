-- 02, No. 6: the tests that decide small conditions, computed by the definitions: two numbers a test, its place and 0 false, 1 true or 2
-- missing.
use Prim.Native.Nat.{ℕ}
use mathlib.Core.Path.{◌≡◌, refl}
use mathlib.Core.List.{List, [], ◌∷◌, ◌++◌}
use Rattle.examples.proofs.Answers.{Answer, tests, refusal, explain_answer}
use Rattle.examples.proofs.Examples.{dictionary, bed}
use Rattle.examples.proofs.AnyUnique.{condition, over, above, cool, warm, run}
use Rattle.examples.proofs.Statistics.{heat, warm_on_average}

-- 1 is 1, and 1 is 2, of 11 bytes each; warm_on_average has 18, and is missing over no bed
pub yes : List ℕ
yes = 0x2F ∷ 0x15 ∷ 0x07 ∷ 0x00 ∷ 0x01 ∷ 0x00 ∷ 0x15 ∷ 0x07 ∷ 0x00 ∷ 0x01 ∷ 0x00 ∷ []

pub no : List ℕ
no = 0x2F ∷ 0x15 ∷ 0x07 ∷ 0x00 ∷ 0x01 ∷ 0x00 ∷ 0x15 ∷ 0x07 ∷ 0x00 ∷ 0x02 ∷ 0x00 ∷ []

-- 1 by 0 is 1
pub broken : List ℕ
broken =
    0x2F ∷ 0x25 ∷ 0x15 ∷ 0x07 ∷ 0x00 ∷ 0x01 ∷ 0x00 ∷ 0x15 ∷ 0x07 ∷ 0x00 ∷ 0x00 ∷ 0x00 ∷ 0x15 ∷ 0x07 ∷ 0x00 ∷ 0x01 ∷ 0x00 ∷ []

pub either : List ℕ → List ℕ → List ℕ
either b d = 0x39 ∷ b ++ d

pub both : List ℕ → List ℕ → List ℕ
both b d = 0x3A ∷ b ++ d

pub opposite : List ℕ → List ℕ
opposite b = 0x3B ∷ b

-- why a condition, at 3, of these bytes, over these runs, with a table of 16 numbers
pub why : List ℕ → List ℕ → Answer
why bytes runs = explain_answer (condition bytes) dictionary 0 [] [] runs 16

pub in_room : ℕ → ℕ → Answer
in_room n room = explain_answer (condition (both yes yes)) dictionary n [] [] [] room

pub computed : List Answer
computed =
    -- the first false side of a false and, the first true side of a true or; else both sides
    why (both no yes) [] ∷ why (both yes no) [] ∷ why (both no no) [] ∷ why (both yes yes) [] ∷
    why (either yes yes) [] ∷ why (either no yes) [] ∷ why (either yes no) [] ∷ why (either no no) [] ∷
    -- a side that is missing
    why (both warm_on_average yes) (run []) ∷ why (both warm_on_average no) (run []) ∷ why (both no warm_on_average) (run []) ∷
    why (either warm_on_average yes) (run []) ∷ why (either warm_on_average no) (run []) ∷ why (both warm_on_average warm_on_average) (run [] ++ run []) ∷
    -- a test's own outcome under a not; sides inside sides
    why (opposite (both yes no)) [] ∷ why (opposite (either no (opposite yes))) [] ∷ why (both (either no yes) (either no no)) [] ∷
    -- any is one test
    why (over 60 0 (0x47 ∷ above 0)) (run (cool ++ warm)) ∷ why (both yes (over 60 0 (0x47 ∷ above 0))) (run cool) ∷
    -- a refusal in a side that is not needed; no such boolean; too short a table
    why (both no broken) [] ∷ in_room 1 0 ∷ in_room 0 3 ∷ in_room 0 4 ∷ []

pub expected : List Answer
expected =
    tests (4 ∷ 0 ∷ []) ∷ tests (15 ∷ 0 ∷ []) ∷ tests (4 ∷ 0 ∷ []) ∷ tests (4 ∷ 1 ∷ 15 ∷ 1 ∷ [])
    ∷ tests (4 ∷ 1 ∷ []) ∷ tests (15 ∷ 1 ∷ []) ∷ tests (4 ∷ 1 ∷ []) ∷ tests (4 ∷ 0 ∷ 15 ∷ 0 ∷ [])
    ∷ tests (4 ∷ 2 ∷ 22 ∷ 1 ∷ []) ∷ tests (22 ∷ 0 ∷ []) ∷ tests (4 ∷ 0 ∷ [])
    ∷ tests (22 ∷ 1 ∷ []) ∷ tests (4 ∷ 2 ∷ 22 ∷ 0 ∷ []) ∷ tests (4 ∷ 2 ∷ 22 ∷ 2 ∷ [])
    ∷ tests (16 ∷ 0 ∷ []) ∷ tests (5 ∷ 0 ∷ 17 ∷ 1 ∷ []) ∷ tests (28 ∷ 0 ∷ 39 ∷ 0 ∷ [])
    ∷ tests (3 ∷ 1 ∷ []) ∷ tests (15 ∷ 0 ∷ [])
    ∷ refusal 25 16 ∷ refusal 20 0 ∷ refusal 1 0 ∷ tests (4 ∷ 1 ∷ 15 ∷ 1 ∷ []) ∷ []

pub examples : computed ≡ expected
unfolding computed expected yes no broken either both opposite why in_room warm_on_average heat condition over above cool warm run bed dictionary explain_answer
examples = refl
