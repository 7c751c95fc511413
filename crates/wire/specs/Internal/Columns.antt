-- The columns of the rows of each table, by name: the place of a number in its row.
use Rattle.std.specs.Prelude.{ℕ}

-- 01: "Statement row: place, code, parent's row number plus one (outer: 0), place after it."
abbrev pub statement_place : ℕ
statement_place = 0

abbrev pub statement_code : ℕ
statement_code = 1

abbrev pub statement_parent : ℕ
statement_parent = 2

abbrev pub statement_end : ℕ
statement_end = 3

-- 02, No. 7: "a fifth number, its boolean's number plus one, or 0 where it has none"
abbrev pub statement_boolean : ℕ
statement_boolean = 4

-- 01: "Parameter row: message, parameter, type, scale byte, offset, bytes held."
abbrev pub parameter_message : ℕ
parameter_message = 0

abbrev pub parameter_index : ℕ
parameter_index = 1

abbrev pub parameter_type : ℕ
parameter_type = 2

abbrev pub parameter_scale : ℕ
parameter_scale = 3

abbrev pub parameter_offset : ℕ
parameter_offset = 4

abbrev pub parameter_held : ℕ
parameter_held = 5

-- 01: "Context row: number, place of the stream or modify code, scope start, scope end, relation id (modify: of its from-ctx)."
abbrev pub context_number : ℕ
context_number = 0

abbrev pub context_place : ℕ
context_place = 1

abbrev pub context_start : ℕ
context_start = 2

abbrev pub context_end : ℕ
context_end = 3

abbrev pub context_relation : ℕ
context_relation = 4

-- 02, No. 7: "a sixth, the code that opened it"
abbrev pub context_opener : ℕ
context_opener = 5
