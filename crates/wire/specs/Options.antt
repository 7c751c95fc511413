-- What may be there or not as Rust has it, and a refusal at its place.
use Rattle.std.specs.Prelude.{ℕ, Option as Maybe, Some, None}
use Rattle.std.proofs.Math.Option.{Option, none, some}
use Rattle.wire.specs.declared.refused.Refused.{Refused}

abbrev pub option_of : {A : Type 0} → Option A → Maybe A
option_of none = None
option_of (some x) = Some x

abbrev pub refused_at : {R : Type 0} → R → ℕ → Refused R
refused_at r p = record { refusal = r; place = p }
