-- What the readers of streams answer.
use Rattle.std.specs.Prelude.{ℕ, ◌%◌, ◌≡◌, not, List, Result, Ok, Err}
use Rattle.std.specs.Prelude as std
use Rattle.std.proofs.Math.Option.{Option, none, some}
use Rattle.wire.specs.Lists.{is_some}
use Rattle.wire.specs.Options.{refused_at}
use Rattle.wire.specs.declared.codes.StreamCode.{StreamCode}
use Rattle.wire.specs.declared.numbers.ContextNumber.{ContextNumber}
use Rattle.wire.specs.declared.refused.Refused.{Refused}
use Rattle.dictionary.specs.Dictionary.{Relation, proper, dictionary}
use Rattle.dictionary.specs.Naming.{Name, relation_of}
use Rattle.dictionary.specs.Internal.Walk.{relation_place}
use Rattle.grammar.specs.declared.Cursor.{Cursor}
use Rattle.grammar.specs.declared.Refusal.{Refusal}
use Rattle.grammar.specs.declared.Refusal.TheVariants.{Unknown, BadContext}
use Rattle.grammar.specs.Tree.{Stream}
use Rattle.grammar.specs.Environment as Grammar
use Rattle.grammar.specs.Scope.{in_scope}
use Rattle.grammar.specs.Reading.{relations_of}
use Rattle.grammar.specs.Reader.{Reader, ◌>>=◌, return, byte, tested, opened}
use Rattle.grammar.specs.Statements.{naming}
use Rattle.grammar.specs.Internal.Steps.{answer_of, cursor_of}
use Rattle.scopes.specs.declared.scope.Context.{Context}
use Rattle.scopes.specs.Scopes.{scope_of}

-- the relations of a dictionary
abbrev pub relations : List ℕ → List Relation
relations d = relations_of (dictionary d)

-- the number of a context
abbrev pub context_number : ℕ → ContextNumber
context_number n = record { 0 = n }

-- a context that is not in scope
unfoldable pub fresh_byte : Grammar.Scope → Reader ℕ
fresh_byte sc = tested byte (λ x. not (in_scope sc x)) BadContext

-- a dictionary that was checked
abbrev pub Proper : List ℕ → Type 0
Proper d = dictionary d ≡ proper (relations d)

-- one context more, whose code stands at a place, over any bytes
abbrev pub Counted : ℕ → Cursor → Result Cursor (Refused Refusal) → Type 0
Counted at c r = (s : List ℕ) → r ≡ cursor_of (opened at s c)

-- the number of a context that is not in scope, beside any dictionary
abbrev pub Fresh : List ℕ → List ℕ → Cursor → Result (ContextNumber × Cursor) (Refused Refusal) → Type 0
Fresh sc s c r = (d : List ℕ) → r ≡ answer_of context_number (fresh_byte (scope_of d sc) s c)

-- ---- relations

-- a place that was found, which has 16 bits
abbrev pub placed_step : std.Option ℕ → ℕ → Cursor → Result (ℕ × Cursor) (Refused Refusal)
placed_step (std.Some q) p c = Ok (q % 65536, c)
placed_step std.None p c = Err (refused_at Unknown p)

abbrev pub place_or : Option ℕ → ℕ
place_or none = 0
place_or (some q) = q

-- the place of the entry of a relation that is in the dictionary
abbrev pub entry_of : List ℕ → Name → ℕ
entry_of d n = place_or (relation_place d n)

-- the name of a relation that is known
unfoldable pub relation_named : List Relation → Reader Name → Reader Name
relation_named rs names = tested names (λ n. is_some (relation_of rs n)) Unknown

-- ---- streams

-- the context of a stream, as the code has it, which the statement of a code opens
abbrev pub context_in : List ℕ → ℕ → Stream → Context
context_in d opener st = record { relation = entry_of d st.relation; number = record { 0 = st.context }; opener = opener }

-- a stream after its code
unfoldable pub stream_under : List Relation → Grammar.Scope → StreamCode → Reader Stream
stream_under rs sc k = do
  n ← relation_named rs (naming k)
  x ← fresh_byte sc
  return (record { relation = n; context = x })
