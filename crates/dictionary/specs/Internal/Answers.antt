-- The code's answers, by the definitions' cases.
use Rattle.std.specs.Prelude.{ℕ, Result, Ok, Err}
use Rattle.std.proofs.Math.Option.{Option, none, some}
use Rattle.dictionary.specs.Dictionary.{Checked, proper, at_fault}

abbrev pub answer_of : Checked → Result (Unit {0}) ℕ
answer_of (proper rs) = Ok tt
answer_of (at_fault p) = Err p

abbrev pub fault_answer : Option ℕ → Result (Unit {0}) ℕ
fault_answer none = Ok tt
fault_answer (some p) = Err p
