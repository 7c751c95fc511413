-- What the code answers.
use Rattle.std.specs.Prelude as Rust
use Rattle.std.specs.Prelude.{ℕ, List, min}
use Rattle.std.proofs.Math.Option.{Option, none}
use Rattle.wire.specs.Limits.{max_parameters}
use Rattle.wire.specs.declared.codes.Version.{Version}
use Rattle.wire.specs.declared.codes.ValueCode.{ValueCode}
use Rattle.dictionary.specs.Internal.Walk.{entry_field}
use Rattle.grammar.specs.declared.Kind.{Kind}
use Rattle.grammar.specs.Kinds.{field_kind}
use Rattle.grammar.specs.Tree.{Reference}
use Rattle.grammar.specs.Internal.Steps.{kind_in}
use Rattle.walking.specs.Walk.{version_at}
use Rattle.kinds.specs.declared.KindStep.{KindStep}
use Rattle.kinds.specs.declared.KindInputs.{KindInputs}
use Rattle.kinds.specs.Spans.{Span, spans_in, span_coded}
use Rattle.kinds.specs.KindAt.{Kinded, kinded, kind_given, kind_under, kind_at}

-- a kind and a place, as the code has them
abbrev pub kinded_is : KindStep → Kinded
kinded_is r = kinded (kind_in r.kind) r.end

-- the kind of a field whose entry was looked up, in a request of a version
abbrev pub entry_kind : Version → List ℕ → Rust.Option ℕ → Option Kind
entry_kind v d (Rust.Some q) = field_kind v (entry_field d q).format
entry_kind v d Rust.None = none

-- where the entry of a span's relation stands
abbrev pub span_relation : Span → ℕ
span_relation x = x.relation

-- what stands under a code at p, with so many levels left for what is below
abbrev pub kind_inside : List ℕ → List ℕ → ℕ → List Span → ℕ → List ℕ → ℕ → ValueCode → Kinded
kind_inside d parameters count xs l s p k =
    kind_under (kind_given d parameters count xs (version_at s) p) (λ q. kind_at d parameters count xs l s q) (span_coded xs p) s p k

-- by what the code is given: the kind of a reference that stands at p, of the value there, and of what stands under its code
abbrev pub reference_in : KindInputs → Version → ℕ → Reference → Option Kind
reference_in x v p = kind_given x.dictionary.now x.parameters.now (min x.rows max_parameters) (spans_in x.bindings.now) v p

abbrev pub value_in : KindInputs → ℕ → ℕ → Kinded
value_in x l p = kind_at x.dictionary.now x.parameters.now (min x.rows max_parameters) (spans_in x.bindings.now) l x.request.now p

abbrev pub inside_in : KindInputs → ℕ → ℕ → ValueCode → Kinded
inside_in x l p k =
    kind_inside x.dictionary.now x.parameters.now (min x.rows max_parameters) (spans_in x.bindings.now) l x.request.now p k
