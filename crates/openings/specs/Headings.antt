-- What the readers of headings promise.
use Rattle.std.specs.Prelude.{ℕ, ◌<◌, ◌≡◌, List, Result, Ok, Err}
use Rattle.std.proofs.Math.Option.{some}
use Rattle.wire.specs.Limits.{max_contexts}
use Rattle.wire.specs.declared.numbers.MessageNumber.{MessageNumber}
use Rattle.wire.specs.declared.refused.Refused.{Refused}
use Rattle.dictionary.specs.Internal.Walk.{relation_at}
use Rattle.grammar.specs.declared.Cursor.{Cursor}
use Rattle.grammar.specs.declared.Refusal.{Refusal}
use Rattle.grammar.specs.declared.Refusal.TheVariants.{Misplaced}
use Rattle.grammar.specs.Tree.{modify}
use Rattle.grammar.specs.Environment as Grammar
use Rattle.grammar.specs.Environment.{modify_context}
use Rattle.grammar.specs.Scope.{of_for}
use Rattle.grammar.specs.Reader.{Read, read, refused, Reader, ◌>>=◌, ◌>>◌, return, need}
use Rattle.grammar.specs.Values.{context_byte}
use Rattle.grammar.specs.Statements.{exchanged, modify_heading}
use Rattle.grammar.specs.Internal.Steps.{answer_of}
use Rattle.references.specs.Promises.{environment_of}
use Rattle.scopes.specs.declared.scope.Context.{Context}
use Rattle.scopes.specs.Scopes.{context_of, scope_of}

-- ---- contexts, beside any dictionary

-- a context that a for opened, for the statement whose code stands at p
unfoldable pub for_context : Grammar.Scope → ℕ → Reader ℕ
for_context sc p = do
  n ← context_byte sc
  need (of_for sc n) Misplaced p
  return n

-- the relation of such a context, by the place of its entry
abbrev pub FromFor : List ℕ → ℕ → List ℕ → Cursor → Result (ℕ × Cursor) (Refused Refusal) → Type 0
FromFor sc p s c (Ok (x, q)) =
    (d : List ℕ) → (n : ℕ) × (for_context (scope_of d sc) p s c ≡ read n q) ×
    (Grammar.relation_of_context (scope_of d sc) n ≡ some (relation_at d x))
FromFor sc p s c (Err r) = (d : List ℕ) → for_context (scope_of d sc) p s c ≡ refused r.refusal r.place

-- the context that a modify at p declares
abbrev pub Modifies : List ℕ → ℕ → List ℕ → Cursor → Result (Context × Cursor) (Refused Refusal) → Type 0
Modifies sc p s c (Ok (x, q)) =
    (d : List ℕ) → (n : ℕ) × (modify_heading (scope_of d sc) p s c ≡ read (modify n x.number.0) q) ×
    (context_of d x ≡ modify_context (scope_of d sc) n x.number.0) × (c.contexts < max_contexts)
Modifies sc p s c (Err r) = (d : List ℕ) → modify_heading (scope_of d sc) p s c ≡ refused r.refusal r.place

-- ---- messages, beside any dictionary

-- the number of a message
abbrev pub message_number : ℕ → MessageNumber
message_number n = record { 0 = n }

abbrev pub message_answer : Read ℕ → Result (MessageNumber × Cursor) (Refused Refusal)
message_answer x = answer_of message_number x

abbrev pub Exchanges : List ℕ → List ℕ → ℕ → List ℕ → Cursor → Result (MessageNumber × Cursor) (Refused Refusal) → Type 0
Exchanges around sc p s c r = (d : List ℕ) → r ≡ message_answer (exchanged (environment_of d around) (scope_of d sc) p s c)
