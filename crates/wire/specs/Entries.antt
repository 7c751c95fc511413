-- The entries of dictionaries, records and the programs' input: their kinds, and where their parts stand.
use Rattle.std.specs.Prelude.{ℕ}

-- 01: "An entry is a length word (the whole entry), a kind word, a body."
abbrev pub entry_kind : ℕ
entry_kind = 2

abbrev pub entry_body : ℕ
entry_body = 4

-- kinds: of a dictionary 1 and 2, of a record 3
abbrev pub relation_entry_kind : ℕ
relation_entry_kind = 1

abbrev pub field_entry_kind : ℕ
field_entry_kind = 2

abbrev pub record_entry_kind : ℕ
record_entry_kind = 3

-- 01: "The listing program reads an entry of kind 4 (dictionary), then kind 5 (request)"
abbrev pub dictionary_entry_kind : ℕ
dictionary_entry_kind = 4

abbrev pub request_entry_kind : ℕ
request_entry_kind = 5

-- 02, No. 4: "each run wrapped in an entry of kind 7"
abbrev pub run_entry_kind : ℕ
run_entry_kind = 7

-- the program `evaluate` also reads the number of a boolean, and message bytes
abbrev pub number_entry_kind : ℕ
number_entry_kind = 9

abbrev pub message_entry_kind : ℕ
message_entry_kind = 10

-- the body of kinds 1, 2 and 3 starts with an id word
abbrev pub entry_id : ℕ
entry_id = 4

-- 01: "Kind 1: relation id word, counted name."
abbrev pub relation_name : ℕ
relation_name = 6

-- 01: "Kind 2 ..: id word .., type byte, scale byte, size word .., counted name."
abbrev pub field_type : ℕ
field_type = 6

abbrev pub field_scale : ℕ
field_scale = 7

abbrev pub field_size : ℕ
field_size = 8

abbrev pub field_name : ℕ
field_name = 10

-- 01: "Kind 3 is a record: relation id word, one missing bit a field .., then the fields packed."
abbrev pub record_bits : ℕ
record_bits = 6
