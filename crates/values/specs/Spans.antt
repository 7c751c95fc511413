-- Where a text stands.
use Rattle.std.specs.Prelude.{ℕ, List}
use Rattle.text.specs.Value.{part_of}
use Rattle.values.specs.declared.Span.{Span}
use Rattle.values.specs.Values.{Lent, source_in}

-- the bytes there
abbrev pub span_in : Lent → Span → List ℕ
span_in m r = part_of (source_in m r.source) r.start r.end
