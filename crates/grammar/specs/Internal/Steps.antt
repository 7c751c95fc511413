-- What the code answers where a definition reads: what was read and the cursor after it, the cursor alone, or the refusal.
use Rattle.std.specs.Prelude.{Result, Ok, Err}
use Rattle.std.specs.Prelude as std
use Rattle.std.proofs.Math.Option.{Option, none, some}
use Rattle.wire.specs.Options.{refused_at}
use Rattle.wire.specs.declared.refused.Refused.{Refused}
use Rattle.grammar.specs.declared.Kind.{Kind}
use Rattle.grammar.specs.declared.Refusal.{Refusal}
use Rattle.grammar.specs.declared.Cursor.{Cursor}
use Rattle.grammar.specs.Reader.{Read, read, refused}

-- a kind as the code has it, and back
abbrev pub fit_of : Option Kind → std.Option Kind
fit_of none = std.None
fit_of (some k) = std.Some k

abbrev pub kind_in : std.Option Kind → Option Kind
kind_in std.None = none
kind_in (std.Some k) = some k

-- a reading whose thing the code has as f says
abbrev pub answer_of : {A B : Type 0} → (A → B) → Read A → Result (B × Cursor) (Refused Refusal)
answer_of f (read a c) = Ok (f a, c)
answer_of f (refused r p) = Err (refused_at r p)

-- a reading of which the code has the cursor alone
abbrev pub cursor_of : {A : Type 0} → Read A → Result Cursor (Refused Refusal)
cursor_of (read a c) = Ok c
cursor_of (refused r p) = Err (refused_at r p)

-- the thing itself
abbrev pub same : {A : Type 0} → A → A
same a = a
