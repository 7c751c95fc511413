-- The place after so many values, booleans and clauses, with what stands inside them: a step for each code.
use Rattle.std.specs.Prelude.{ℕ, zero, suc, ◌+◌, ◌-◌, cond, List, eqb, length}
use Rattle.wire.specs.Words.{byte_at, word_at}
use Rattle.wire.specs.Classes.{Class, due, left_out, foreign, stream_class}
use Rattle.wire.specs.declared.codes.StreamCode.{StreamCode}
use Rattle.wire.specs.declared.codes.StreamCode.TheVariants.{Relation, Rid}
use Rattle.runs.specs.declared.forms.Form.{Form}
use Rattle.runs.specs.declared.forms.Form.TheVariants.{Plain, Field, Literal, Sort, Open, Such, Close, Other}
use Rattle.runs.specs.declared.pass.Pass.{Pass}
use Rattle.runs.specs.Forms.{form_of, literal_length}

-- the place after the stream whose code stands at p; of another code there the one byte
abbrev pub stream_end : List ℕ → ℕ → Class StreamCode → ℕ
stream_end s p (due Relation) = p + 3 + byte_at s (p + 1)
stream_end s p (due Rid) = p + 4
stream_end s p left_out = p + 1
stream_end s p foreign = p + 1

unfoldable pub after_stream : List ℕ → ℕ → ℕ
after_stream s p = stream_end s p (stream_class (byte_at s p))

-- at a place, with so many due
abbrev pub pass_at : ℕ → ℕ → Pass
pass_at p k = record { place = p; due = k }

-- on to a place, with so many due instead of one
abbrev pub on : Pass → ℕ → ℕ → Pass
on x q more = pass_at q (x.due - 1 + more)

-- by the form of the code at the place
unfoldable pub pass_by : List ℕ → Pass → Form → Pass
pass_by s x (Plain n more) = on x (x.place + n) more
pass_by s x Field = on x (x.place + 3 + byte_at s (x.place + 2)) 0
pass_by s x Literal = on x (x.place + 1 + literal_length s (x.place + 1)) 0
pass_by s x Sort = on x (x.place + 2) (byte_at s (x.place + 1) + 1)
pass_by s x (Open more) = on x (after_stream s (x.place + 3)) (more + 1)
pass_by s x Such = on x (x.place + 1) 2
pass_by s x Close = on x (x.place + 1) 0
pass_by s x Other = pass_at x.place 0

unfoldable pub passed : List ℕ → Pass → Pass
passed s x = pass_by s x (form_of (byte_at s x.place))

-- n steps at most, as long as something is due
unfoldable pub passes : List ℕ → ℕ → Pass → Pass
passes s zero x = x
passes s (suc n) x = cond (eqb x.due 0) x (passes s n (passed s x))

-- the place after k of them that stand from p on; a step takes a byte or more
unfoldable pub passed_by : List ℕ → ℕ → ℕ → ℕ
passed_by s p k = (passes s (length s) (pass_at p k)).place
