-- The input of the programs `evaluate` and `explain`. 02, No. 6: "It reads entries of kinds 4, 5, 9 (the boolean's number, a word), then
-- any of kind 10 (message bytes, joined), then of 3, then of 7, in all at most 3,000,000 bytes, else `bad input`." For `evaluate` one of
-- kind 11 may stand in place of the entry of kind 9: the row of an assignment, a word, whose from-value is asked for (02, No. 9).
use Rattle.std.specs.Prelude.{ℕ, zero, suc, ◌+◌, ◌-◌, Bool, true, false, cond, ◌&&◌, ◌||◌, ◌≡◌, List, [], ◌∷◌, ◌++◌, eqb, leb, length, take, drop, Option, Some, None}
use Rattle.std.proofs.lemmas.List.Edits.{sets}
use Rattle.wire.specs.Words.{word_at}
use Rattle.wire.specs.Entries.{
  entry_kind,
  entry_body,
  dictionary_entry_kind,
  request_entry_kind,
  number_entry_kind,
  message_entry_kind,
  record_entry_kind,
  run_entry_kind,
}
use Rattle.input.specs.Input.{whole}
use Rattle.input.specs.declared.Entries.{Entries}

-- p and the rest, if an entry stands at p
abbrev pub placed : Bool → ℕ → List ℕ → List ℕ
placed true p rest = p ∷ rest
placed false p rest = []

-- the places of the entries of a kind, one after another from p on, n at most
unfoldable pub places : ℕ → List ℕ → ℕ → ℕ → List ℕ
places zero s p kind = []
places (suc n) s p kind = placed (whole s p kind) p (places n s (p + word_at s p) kind)

-- all of them: an entry has four bytes or more, so that there are no more of them than bytes
unfoldable pub entries_from : List ℕ → ℕ → ℕ → List ℕ
entries_from s p kind = places (length s) s p kind

-- the place after entries that stand one after another from p on
unfoldable pub after : List ℕ → ℕ → List ℕ → ℕ
after s p [] = p
after s p (q ∷ qs) = after s (q + word_at s q) qs

unfoldable pub after_entries : List ℕ → ℕ → ℕ → ℕ
after_entries s p kind = after s p (entries_from s p kind)

-- the body of the entry at p
unfoldable pub body : List ℕ → ℕ → List ℕ
body s p = take (word_at s p - entry_body) (drop (p + entry_body) s)

unfoldable pub bodies : List ℕ → List ℕ → List ℕ
bodies s [] = []
bodies s (q ∷ qs) = body s q ++ bodies s qs

-- the bodies of the entries of a kind from p on, joined
unfoldable pub joined : List ℕ → ℕ → ℕ → List ℕ
joined s p kind = bodies s (entries_from s p kind)

-- joined bodies in a lent slice from its start on, as far as it goes, and how many bytes they are
pub record Joined (s : List ℕ) (p kind : ℕ) (lent lent' : List ℕ) (r : ℕ) : Type 0 where
  pub count : r ≡ length (joined s p kind)
  pub filled : lent' ≡ sets lent 0 (joined s p kind)

-- ---- the whole input

-- the longest input
abbrev pub max_input_bytes : ℕ
max_input_bytes = 3000000

-- the bytes of an input from one place up to another
abbrev pub part : List ℕ → ℕ → ℕ → List ℕ
part s from to = take (to - from) (drop from s)

-- the bytes of an entry with one word
abbrev pub number_entry_bytes : ℕ
number_entry_bytes = 6

-- the kind of an entry that has the row of an assignment
abbrev pub row_entry_kind : ℕ
row_entry_kind = 11

-- an entry of a kind with one word
unfoldable pub whole_word : List ℕ → ℕ → ℕ → Bool
whole_word s p kind = whole s p kind && eqb (word_at s p) number_entry_bytes

-- the number of a boolean, or the row of an assignment
unfoldable pub whole_number : List ℕ → ℕ → Bool
whole_number s p = whole_word s p number_entry_kind || whole_word s p row_entry_kind

-- of such an entry, whether it is one of kind 11
unfoldable pub asks_row : List ℕ → ℕ → Bool
asks_row s p = eqb (word_at s (p + entry_kind)) row_entry_kind

-- where the request's entry, the number's, the messages', the records' and the runs' begin
abbrev pub request_at : List ℕ → ℕ
request_at s = word_at s 0

abbrev pub number_at : List ℕ → ℕ
number_at s = request_at s + word_at s (request_at s)

abbrev pub messages_at : List ℕ → ℕ
messages_at s = number_at s + number_entry_bytes

unfoldable pub records_at : List ℕ → ℕ
records_at s = after_entries s (messages_at s) message_entry_kind

unfoldable pub runs_at : List ℕ → ℕ
runs_at s = after_entries s (records_at s) record_entry_kind

-- the runs are the last entries
unfoldable pub whole_input : List ℕ → Bool
whole_input s =
    leb (length s) max_input_bytes && whole s 0 dictionary_entry_kind && whole s (request_at s) request_entry_kind && whole_number s (number_at s) &&
    eqb (after_entries s (runs_at s) run_entry_kind) (length s)

unfoldable pub evaluation_input : List ℕ → Option Entries
evaluation_input s =
    cond (whole_input s) (Some (record { request = request_at s; number = number_at s; records = records_at s; runs = runs_at s })) None
