-- The columns of the array that messages are kept in: two counts, three lists of 16 numbers, a list of 256, and
-- the version of the request.
use Rattle.std.specs.Prelude.{ℕ}

abbrev pub message_count : ℕ
message_count = 0

abbrev pub row_count : ℕ
row_count = 1

abbrev pub numbers_from : ℕ
numbers_from = 2

abbrev pub counts_from : ℕ
counts_from = 18

abbrev pub firsts_from : ℕ
firsts_from = 34

abbrev pub descriptors_from : ℕ
descriptors_from = 50

abbrev pub version_at : ℕ
version_at = 306

abbrev pub around_numbers : ℕ
around_numbers = 307
