-- The columns of the array that a scope is kept in: three counts, whether a store or a modify is around and the context of the nearest, and
-- five lists of 32 numbers.
use Rattle.std.specs.Prelude.{ℕ}

abbrev pub context_count : ℕ
context_count = 0

abbrev pub send_count : ℕ
send_count = 1

abbrev pub label_count : ℕ
label_count = 2

abbrev pub updating_at : ℕ
updating_at = 3

abbrev pub target_at : ℕ
target_at = 4

abbrev pub numbers_from : ℕ
numbers_from = 5

abbrev pub openers_from : ℕ
openers_from = 37

abbrev pub sends_from : ℕ
sends_from = 69

abbrev pub labels_from : ℕ
labels_from = 101

abbrev pub relations_from : ℕ
relations_from = 133

abbrev pub scope_numbers : ℕ
scope_numbers = 165
