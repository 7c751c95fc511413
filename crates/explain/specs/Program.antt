-- What the program `explain` answers to an input of any bytes. 02, No. 6: "It reads entries of kinds 4, 5, 9 (the boolean's number, a
-- word), then any of kind 10 (message bytes, joined), then of 3, then of 7, in all at most 3,000,000 bytes, else `bad input`."
use Rattle.std.specs.Prelude.{ℕ, ◌+◌, ◌≡◌, Bool, true, false, List, length, drop, Option, Some, None, Result}
use Rattle.wire.specs.Words.{word_at}
use Rattle.wire.specs.Entries.{entry_body, message_entry_kind}
use Rattle.meaning.specs.Evaluation.{Outcome}
use Rattle.input.specs.Evaluation.{joined, part, number_entry_bytes, asks_row, evaluation_input}
use Rattle.input.specs.declared.Entries.{Entries}
use Rattle.explanation.specs.Explanation.{Test, explanation, test_table}
use Rattle.explanation.specs.Promise.{count_of, counted}
use Rattle.wire.specs.declared.refused.Refused.{Refused}
use Rattle.grammar.specs.declared.Refusal.{Refusal}

-- what an input comes to: how many tests are listed or the refusal, with what the table then holds; or that it is not these entries
pub data Told : Type 0 where
  listed : Outcome ℕ → List ℕ → Told
  bad : Told

abbrev pub tells : Outcome (List Test) → ℕ → Told
tells o room = listed (counted o) (test_table o room)

-- of the messages (kind 10) the bodies, joined; of the records (kind 3) and the runs (kind 7) the whole entries; an entry of kind 11 in
-- place of the number's is not taken
abbrev pub asked : Bool → List ℕ → Entries → ℕ → Told
asked true s at room = bad
asked false s at room =
    tells
    (explanation (part s (at.request + entry_body) at.number) (part s entry_body at.request) (word_at s (at.number + entry_body))
    (joined s (at.number + number_entry_bytes) message_entry_kind) (part s at.records at.runs) (drop at.runs s) room)
    room

abbrev pub outcome : List ℕ → Option Entries → ℕ → Told
outcome s (Some at) room = asked (asks_row s at.number) s at room
outcome s None room = bad

-- what the program answers, with what it leaves in the table
abbrev pub answer_of : Option (Result ℕ (Refused Refusal)) → List ℕ → Told
answer_of (Some e) table = listed (count_of e) table
answer_of None table = bad

-- the answer r to an input, by a table of any length
abbrev pub Answered : List ℕ → List ℕ → List ℕ → Option (Result ℕ (Refused Refusal)) → Type 0
Answered s table table' r = answer_of r table' ≡ outcome s (evaluation_input s) (length table)
