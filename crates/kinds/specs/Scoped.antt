-- That a table of bindings has, at the places of a value or a boolean, the contexts in scope there.
use Rattle.std.specs.Prelude.{ℕ, ◌<◌, ◌≤◌, ◌≡◌, List, [], ◌∷◌, ◌++◌}
use Rattle.std.proofs.Math.Option.{Option, none, some}
use Rattle.dictionary.specs.Dictionary.{Relation}
use Rattle.dictionary.specs.Internal.Walk.{relation_at}
use Rattle.grammar.specs.Environment.{Context, Scope, context_of}
use Rattle.kinds.specs.Spans.{Span, span_around, span_coded}

-- a span is found, and it has the relation of a context
pub record Same (d : List ℕ) (o : Option Span) (y : Context) : Type 0 where
  pub span : Span
  pub r : Relation
  pub found : o ≡ some span
  pub relation_is : y.relation ≡ some r
  pub entry_is : relation_at d span.relation ≡ r

-- these spans have codes from p on, before q, and end at q at the latest
abbrev pub Between : ℕ → ℕ → List Span → Type 0
Between p q [] = Unit {0}
Between p q (x ∷ xs) = (p ≤ x.code) × (x.code < q) × (x.end ≤ q) × Between p q xs

-- among all spans, `own` are those of what stands from p up to q; the others have there the contexts in scope, and no code. A number that
-- is not in scope may be found behind: a row that is not there is all 0
pub record Scoped (d : List ℕ) (all own : List Span) (sc : Scope) (p q : ℕ) : Type 0 where
  pub before : List Span
  pub behind : List Span
  pub all_are : all ≡ before ++ (own ++ behind)
  pub placed : 0 < p
  pub agree : (c at : ℕ) → p ≤ at → at < q → (y : Context) → context_of sc c ≡ some y → Same d (span_around (before ++ behind) c at) y
  pub absent : (c at : ℕ) → p ≤ at → at < q → context_of sc c ≡ none → span_around before c at ≡ none
  pub free : (at : ℕ) → p ≤ at → at < q → span_coded (before ++ behind) at ≡ none
