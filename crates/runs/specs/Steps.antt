-- A scan over the bytes of a condition or a from-value that writes a row for each any, unique and statistic: a step for each code. Sorts
-- are passed over, since what stands in them has no runs.
use Rattle.std.specs.Prelude.{ℕ, zero, suc, ◌+◌, ◌*◌, ◌-◌, cond, List, [], ◌∷◌, eqb, ltb, leb, length, set}
use Rattle.std.proofs.lemmas.List.Edits.{sets}
use Rattle.wire.specs.Limits.{max_contexts, max_request_bytes}
use Rattle.wire.specs.Words.{byte_at, word_at}
use Rattle.wire.specs.Classes.{Class, due, left_out, foreign, stream_class}
use Rattle.wire.specs.declared.codes.StreamCode.{StreamCode}
use Rattle.wire.specs.declared.codes.StreamCode.TheVariants.{Relation, Rid}
use Rattle.dictionary.specs.Dictionary.{name_at}
use Rattle.dictionary.specs.Naming.{named, numbered}
use Rattle.dictionary.specs.Internal.Walk.{relation_place}
use Rattle.surroundings.specs.Slots.{place_or}
use Rattle.surroundings.specs.Bindings.{cell, binding_row_numbers, binding_such, binding_end, binding_after}
use Rattle.runs.specs.declared.forms.Form.{Form}
use Rattle.runs.specs.declared.forms.Form.TheVariants.{Plain, Field, Literal, Sort, Open, Such, Close, Other}
use Rattle.runs.specs.declared.scan.Scan.{Scan}
use Rattle.runs.specs.declared.stream.Opened.{Opened}
use Rattle.runs.specs.Forms.{form_of, literal_length}
use Rattle.runs.specs.Passes.{pass_at, on, passed_by}

-- ---- the stream of an any, a unique or a statistic

-- relation, context number, and the place after the stream whose code stands at p; of another code there nothing is found
abbrev pub opened_by : List ℕ → List ℕ → ℕ → Class StreamCode → Opened
opened_by d s p (due Relation) =
    record {
      relation = place_or (relation_place d (named (name_at s (p + 1))));
      number = byte_at s (p + 2 + byte_at s (p + 1));
      after = p + 3 + byte_at s (p + 1);
    }
opened_by d s p (due Rid) =
    record { relation = place_or (relation_place d (numbered (word_at s (p + 1)))); number = byte_at s (p + 3); after = p + 4 }
opened_by d s p left_out = record { relation = 0; number = 0; after = p + 1 }
opened_by d s p foreign = record { relation = 0; number = 0; after = p + 1 }

unfoldable pub opened_at : List ℕ → List ℕ → ℕ → Opened
opened_at d s p = opened_by d s p (stream_class (byte_at s p))

-- ---- a step

-- where a scan is, and the table that it writes
pub record State : Type 0 where
  pub scan : Scan
  pub table : List ℕ

abbrev pub state_of : Scan → List ℕ → State
state_of x t = record { scan = x; table = t }

-- on to a place, with so many due instead of one
abbrev pub moved : Scan → ℕ → ℕ → Scan
moved x q more = record { pass = on x.pass q more; rows = x.rows; within = x.within }

-- nothing more is due
abbrev pub stopped : Scan → Scan
stopped x = record { pass = pass_at x.pass.place 0; rows = x.rows; within = x.within }

-- past a code that writes nothing
abbrev pub past : State → ℕ → ℕ → State
past x q more = state_of (moved x.scan q more) x.table

-- a row as it is opened; until the rse is closed its end column has the row whose rse it stands in, and its after column how many numbers
-- are due after the rse
abbrev pub open_row : ℕ → Opened → ℕ → ℕ → List ℕ
open_row p o within more = p ∷ o.number ∷ o.relation ∷ 0 ∷ 0 ∷ within ∷ 0 ∷ 0 ∷ more ∷ 0 ∷ []

abbrev pub opened : State → Opened → ℕ → State
opened x o more =
    record {
      scan = record { pass = pass_at o.after (x.scan.pass.due + more); rows = x.scan.rows + 1; within = x.scan.rows };
      table = sets x.table (x.scan.rows * binding_row_numbers) (open_row x.scan.pass.place o x.scan.within more);
    }

-- if there is room for a row
unfoldable pub opened_here : List ℕ → List ℕ → State → ℕ → State
opened_here d s x more =
    cond (ltb x.scan.rows max_contexts) (opened x (opened_at d s (x.scan.pass.place + 3)) more) (state_of (stopped x.scan) x.table)

-- the condition of an rse, the first if there are more
abbrev pub such_noted : List ℕ → ℕ → ℕ → List ℕ
such_noted t row p = cond (eqb (cell t row binding_such) 0) (set t (row * binding_row_numbers + binding_such) p) t

-- a row whose rse ends at q: its end column gets the place after the numbers that are due there
abbrev pub closed_row : List ℕ → List ℕ → ℕ → ℕ → List ℕ
closed_row s t row q =
    set (set t (row * binding_row_numbers + binding_end) (passed_by s q (cell t row binding_after))) (row * binding_row_numbers + binding_after) q

-- the end of an rse: back in the one that it stands in
abbrev pub closed : List ℕ → State → State
closed s x =
    record {
      scan = record {
        pass = pass_at (x.scan.pass.place + 1) (x.scan.pass.due - 1);
        rows = x.scan.rows;
        within = cell x.table x.scan.within binding_end;
      };
      table = closed_row s x.table x.scan.within (x.scan.pass.place + 1);
    }

-- by the form of the code at the scan's place
unfoldable pub step_by : List ℕ → List ℕ → State → Form → State
step_by d s x (Plain n more) = past x (x.scan.pass.place + n) more
step_by d s x Field = past x (x.scan.pass.place + 3 + byte_at s (x.scan.pass.place + 2)) 0
step_by d s x Literal = past x (x.scan.pass.place + 1 + literal_length s (x.scan.pass.place + 1)) 0
step_by d s x Sort = past x (passed_by s (x.scan.pass.place + 2) (byte_at s (x.scan.pass.place + 1))) 1
step_by d s x (Open more) = opened_here d s x more
step_by d s x Such =
    state_of (moved x.scan (x.scan.pass.place + 1) 2) (such_noted x.table x.scan.within (x.scan.pass.place + 1))
step_by d s x Close = closed s x
step_by d s x Other = state_of (stopped x.scan) x.table

unfoldable pub stepped : List ℕ → List ℕ → State → State
stepped d s x = step_by d s x (form_of (byte_at s x.scan.pass.place))

-- ---- the scan

-- n steps at most, as long as something is due
unfoldable pub steps : List ℕ → List ℕ → ℕ → State → State
steps d s zero x = x
steps d s (suc n) x = cond (eqb x.scan.pass.due 0) x (steps d s n (stepped d s x))

-- a boolean or a value is due at a place; rows are written from a row on, and the place is in no rse
abbrev pub start : ℕ → ℕ → List ℕ → State
start p row t = state_of (record { pass = pass_at p 1; rows = row; within = max_contexts }) t

-- a step takes a byte or more; a request that is too long is not looked at
unfoldable pub found : List ℕ → List ℕ → ℕ → ℕ → List ℕ → State
found d s p row t = cond (leb (length s) max_request_bytes) (steps d s (length s) (start p row t)) (start p row t)
