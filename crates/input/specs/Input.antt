-- The input of the listing program. 01: "The listing program reads an entry of kind 4 (dictionary), then kind 5 (request)"; "input that
-- isn't these two entries, `bad input`."
use Rattle.std.specs.Prelude.{ℕ, ◌+◌, Bool, cond, ◌&&◌, List, eqb, leb, length}
use Rattle.std.proofs.Math.Option.{Option, none, some}
use Rattle.wire.specs.Words.{word_at}
use Rattle.wire.specs.Entries.{entry_kind, entry_body, dictionary_entry_kind, request_entry_kind}

-- 01: "An entry is a length word (the whole entry), a kind word, a body."
unfoldable pub whole : List ℕ → ℕ → ℕ → Bool
whole s p kind = leb entry_body (word_at s p) && leb (p + word_at s p) (length s) && eqb (word_at s (p + entry_kind)) kind

-- the place after the entry of a kind that stands at p, if one does
abbrev pub entry_end : List ℕ → ℕ → ℕ → Option ℕ
entry_end s p kind = cond (whole s p kind) (some (p + word_at s p)) none

-- the place of the second entry
unfoldable pub request_entry : List ℕ → Option ℕ
request_entry s =
    cond
    (whole s 0 dictionary_entry_kind && whole s (word_at s 0) request_entry_kind && eqb (word_at s 0 + word_at s (word_at s 0)) (length s))
    (some (word_at s 0))
    none
