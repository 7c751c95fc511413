-- Document 01's greatest sizes, the bytes of each type, the numbers of a row, and the least sizes of the three tables, by name.
use Rattle.std.specs.Prelude.{ℕ, ℤ, negsuc}

-- 01: "Request and dictionary 65,535 bytes."
abbrev pub max_request_bytes : ℕ
max_request_bytes = 65535

abbrev pub max_dictionary_bytes : ℕ
max_dictionary_bytes = 65535

-- 01: "Depth 32: every statement, value and boolean is one level, the outer begin the first."
abbrev pub max_depth : ℕ
max_depth = 32

-- 01: "512 statements, 16 messages, 128 parameters a message, 256 in all, 4,096 bytes a message, 32 context declarations, 32 relations,
-- 64 fields each, 4,096 bytes a record entry."
abbrev pub max_statements : ℕ
max_statements = 512

abbrev pub max_messages : ℕ
max_messages = 16

abbrev pub max_message_parameters : ℕ
max_message_parameters = 128

abbrev pub max_parameters : ℕ
max_parameters = 256

abbrev pub max_message_bytes : ℕ
max_message_bytes = 4096

abbrev pub max_contexts : ℕ
max_contexts = 32

abbrev pub max_relations : ℕ
max_relations = 32

abbrev pub max_fields : ℕ
max_fields = 64

abbrev pub max_record_bytes : ℕ
max_record_bytes = 4096

-- 01: "Text n 1–255. Streams 1–8, sort values 1–8."
abbrev pub max_text_bytes : ℕ
max_text_bytes = 255

abbrev pub max_streams : ℕ
max_streams = 8

abbrev pub max_sort_values : ℕ
max_sort_values = 8

-- 01: "Scales -9 to 0; arithmetic -18 to 0."
abbrev pub min_scale : ℤ
min_scale = negsuc 8

abbrev pub min_arithmetic_scale : ℤ
min_arithmetic_scale = negsuc 17

-- 01: "Names have 1 to 31 bytes of 33–126."
abbrev pub max_name_bytes : ℕ
max_name_bytes = 31

abbrev pub first_name_byte : ℕ
first_name_byte = 33

abbrev pub last_name_byte : ℕ
last_name_byte = 126

-- 01: "short 7 and long 8 .. (2 and 4 bytes); date 35 (8 bytes)"
abbrev pub short_size : ℕ
short_size = 2

abbrev pub long_size : ℕ
long_size = 4

-- 02, No. 8: "type 16, a 64-bit integer of 8 bytes with a scale of -18 to 0"
abbrev pub int64_size : ℕ
int64_size = 8

abbrev pub min_int64_scale : ℤ
min_int64_scale = negsuc 17

abbrev pub date_size : ℕ
date_size = 8

-- 01: "a varying's follows its length word"
abbrev pub length_word : ℕ
length_word = 2

-- 01: "a house reading: 2 bytes"
abbrev pub reading_size : ℕ
reading_size = 2

-- 01: "or if it is a reading of 65535"
abbrev pub missing_reading : ℕ
missing_reading = 65535

-- the numbers of a row of each table; 02, No. 7: "Each statement row gets a fifth number", "Each context row gets a sixth"
abbrev pub statement_row_numbers : ℕ
statement_row_numbers = 5

abbrev pub parameter_row_numbers : ℕ
parameter_row_numbers = 6

abbrev pub context_row_numbers : ℕ
context_row_numbers = 6

-- 01: "tables below 2048, 1536, 160 numbers"; 02, No. 7: "smallest sizes change to 2560 and 192 numbers": a row for each statement,
-- parameter and context
abbrev pub statement_table_numbers : ℕ
statement_table_numbers = 2560

abbrev pub parameter_table_numbers : ℕ
parameter_table_numbers = 1536

abbrev pub context_table_numbers : ℕ
context_table_numbers = 192
