-- The receives of a select.
use Rattle.std.specs.Prelude.{ℕ, ◌≡◌, Bool, false, not as negation, ◌&&◌, List, ltb, length, get_or}
use Rattle.wire.specs.Codes as blr
use Rattle.wire.specs.Lists.{among}
use Rattle.grammar.specs.declared.Refusal.TheVariants.{NotDue, TooGreat, BadMessage, Misplaced}
use Rattle.grammar.specs.Environment as Grammar
use Rattle.grammar.specs.Environment.{Environment}
use Rattle.grammar.specs.Scope.{declared, updating}
use Rattle.grammar.specs.Reader.{Reader, ◌>>=◌, ◌>>◌, need, place, byte, tested, code, count_statement}

-- the messages that a select has had: a mark for each number
pub record Holds (seen : List Bool) (ms : List ℕ) : Type 0 where
  pub whole : length seen ≡ 256
  pub holds : (m : ℕ) → get_or seen m false ≡ among m ms

-- the message of a receive
unfoldable pub selected_byte : Environment → List ℕ → Reader ℕ
selected_byte e before = tested byte (λ m. declared e m && negation (among m before)) BadMessage

-- the same after the code at p
unfoldable pub selected : Environment → Grammar.Scope → List ℕ → ℕ → Reader ℕ
selected e sc before p = do
  need (negation (updating sc)) Misplaced p
  selected_byte e before

-- a receive of a select up to its message, with l levels left for it and what stands in it
unfoldable pub receive_coded : ℕ → Environment → Grammar.Scope → List ℕ → Reader ℕ
receive_coded l e sc before = do
  p ← place
  code blr.receive NotDue
  need (ltb 0 l) TooGreat p
  count_statement p
  need (negation (updating sc)) Misplaced p
  selected_byte e before
