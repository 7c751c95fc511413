-- What the code's values stand for, beside the slices that were lent.
use Rattle.std.specs.Prelude.{ℕ, ◌-◌, List, take, drop, Result, Ok, Err}
use Rattle.text.specs.Value.{text_part, bytes_of}
use Rattle.meaning.specs.declared.Truth.{Truth}
use Rattle.meaning.specs.declared.Source.{Source}
use Rattle.meaning.specs.ValueEvaluated.{slice_of}
use Rattle.meaning.specs.Data.{Datum, number, text, date, absent}
use Rattle.walking.specs.Walk.{Walked, at, fault, astray}
use Rattle.values.specs.declared.Held.{Held}
use Rattle.values.specs.declared.Value.{Value}
use Rattle.values.specs.declared.Value.TheVariants as Value
use Rattle.values.specs.declared.Stop.{Stop}
use Rattle.values.specs.declared.Stop.TheVariants.{Refused, Stray}
use Rattle.values.specs.declared.Lent.{Lent as Slices}

-- the slices that texts stand in: the request, the message images, the records and the runs
pub record Lent : Type 0 where
  pub request : List ℕ
  pub images : List ℕ
  pub records : List ℕ
  pub runs : List ℕ

abbrev pub lent : List ℕ → List ℕ → List ℕ → List ℕ → Lent
lent s i r u = record { request = s; images = i; records = r; runs = u }

-- the slices of the code
abbrev pub lent_in : Slices → Lent
lent_in m = lent m.request.now m.images.now m.records.now m.runs.now

abbrev pub source_in : Lent → Source → List ℕ
source_in m x = slice_of m.request m.images m.records m.runs x

-- the bytes that hold a text
unfoldable pub held_in : Lent → Held → List ℕ
held_in m h = take (h.end - h.start) (drop h.start (source_in m h.source))

-- the text in them
unfoldable pub text_in : Lent → Held → List ℕ
text_in m h = bytes_of (held_in m h) (text_part h.of (held_in m h))

abbrev pub datum : Lent → Value → Datum
datum m (Value.Number a) = number a
datum m (Value.Text h) = text (text_in m h)
datum m (Value.Date d) = date d.day d.fraction
datum m (Value.Missing k w) = absent k w

-- what the code answers: a value or a truth value and the place after it, or why there is none
abbrev pub Valued : Type 0
Valued = Result (Value × ℕ) Stop

abbrev pub Tested : Type 0
Tested = Result (Truth × ℕ) Stop

abbrev pub stopped : {A : Type 0} → Stop → Walked A
stopped (Refused f p) = fault f p
stopped Stray = astray

abbrev pub valued : Lent → Valued → Walked Datum
valued m (Ok (v, e)) = at (datum m v) e
valued m (Err x) = stopped x

abbrev pub tested : Tested → Walked Truth
tested (Ok (t, e)) = at t e
tested (Err x) = stopped x
