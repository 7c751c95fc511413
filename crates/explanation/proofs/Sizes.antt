-- How many bytes a value, an rse and a test have at least, those among them that the rules allow.
use Prim.Native.Nat.{ℕ, ◌≤◌}
use mathlib.Core.Path.{◌≡◌}
use mathlib.Core.Bool.{true}
use mathlib.Core.List.{[], ◌∷◌, ◌++◌}
use native.Mathlib.Omega.{arith}
use lib.ListN.{length, length-append}
use Rattle.wire.specs.Lists.{is_some}
use Rattle.wire.specs.declared.codes.Width.{Width}
use Rattle.wire.specs.declared.codes.Width.TheVariants.{Short, Long, Int64}
use Rattle.dictionary.specs.Naming.{Name, named, numbered}
use Rattle.grammar.specs.Tree as Tree
use Rattle.grammar.specs.Tree.{Literal, Reference, field, parameter, parameter2, Value, literal, reference, arithmetic, negate, statistic, count, Boolean, compare, search, between, connect, not, missing, quantify, Clauses, no_clauses, such, sorted, Rse, rse}
use Rattle.grammar.specs.Bytes.{number_bytes, literal_bytes, reference_bytes, stream_of, stream_bytes, streams_bytes, head_bytes, value_bytes, boolean_bytes, clauses_bytes, rse_bytes}
use Rattle.grammar.specs.Environment.{Environment, Scope, field_format}
use Rattle.grammar.specs.Sizes.{OneStream}
use Rattle.grammar.specs.Rules.{ValueAllowed, BooleanAllowed}
use Rattle.meaning.specs.Meaning.{boolean_size}

number-least : (w : Width) (n : ℕ) → 1 ≤ length (number_bytes w n)
number-least Short n = omega arith
number-least Long n = omega arith
number-least Int64 n = omega arith

literal-least : (l : Literal) → 3 ≤ length (literal_bytes l)
unfolding literal_bytes
literal-least (Tree.Literal.number w scale n) = omega (arith, number-least w n)
literal-least (Tree.Literal.text t) = omega arith

reference-least : (r : Reference) → 3 ≤ length (reference_bytes r)
unfolding reference_bytes
reference-least (field c (named n)) = omega arith
reference-least (field c (numbered i)) = omega arith
reference-least (parameter m i) = omega arith
reference-least (parameter2 m i flag) = omega arith

clauses-least : (cs : Clauses) → 1 ≤ length (clauses_bytes cs)
unfolding clauses_bytes
clauses-least no_clauses = omega arith
clauses-least (such b cs) = omega arith
clauses-least (sorted ks cs) = omega arith

rse-least : (r : Rse) → 3 ≤ length (rse_bytes r)
unfolding rse_bytes head_bytes
rse-least (rse ss cs) = omega (arith, clauses-least cs, length-append (streams_bytes ss) (clauses_bytes cs))

value-least : (v : Value) → 3 ≤ length (value_bytes v)
unfolding value_bytes
value-least (literal l) = omega (arith, literal-least l)
value-least (reference r) = reference-least r
value-least (arithmetic o v w) = omega (arith, value-least v, length-append (value_bytes v) (value_bytes w))
value-least (negate v) = omega (arith, value-least v)
value-least (statistic k r v) = omega (arith, value-least v, length-append (rse_bytes r) (value_bytes v))
value-least (count r) = omega (arith, rse-least r)

stream-least : (n : Name) (c : ℕ) → 1 ≤ length (stream_of n c)
stream-least (named n) c = omega arith
stream-least (numbered i) c = omega arith

one-stream : (r : Rse) → OneStream r → 4 ≤ length (rse_bytes r)
unfolding rse_bytes head_bytes streams_bytes stream_bytes
one-stream (rse [] cs) h = absurd (omega (arith, h))
one-stream (rse (s ∷ ss) cs) h =
    let stream = stream-least s.relation s.context in
    omega (arith, stream, clauses-least cs, length-append (stream_of s.relation s.context) (streams_bytes ss), length-append (streams_bytes (s ∷ ss)) (clauses_bytes cs))

-- each test of a boolean has five bytes or more
abbrev pub FiveBytes : Boolean → Type 0
FiveBytes (compare c v w) = 5 ≤ boolean_size (compare c v w)
FiveBytes (search t v w) = 5 ≤ boolean_size (search t v w)
FiveBytes (between u v w) = 5 ≤ boolean_size (between u v w)
FiveBytes (connect c b d) = FiveBytes b × FiveBytes d
FiveBytes (not b) = FiveBytes b
FiveBytes (missing v) = 5 ≤ boolean_size (missing v)
FiveBytes (quantify q r) = 5 ≤ boolean_size (quantify q r)

-- ---- what the rules allow, where no field has an empty name

abbrev pub NoEmpty : Scope → Type 0
NoEmpty sc = (c : ℕ) → is_some (field_format sc c (named [])) ≡ true → ⊥

module _ (v : Environment) (sc : Scope) (no-empty : NoEmpty sc) where
  allowed-value : (u : Value) → ValueAllowed v sc u → 4 ≤ length (value_bytes u)
  unfolding value_bytes reference_bytes
  allowed-value (literal l) h = omega (arith, literal-least l)
  allowed-value (reference (field c (named []))) h = absurd (no-empty c h.0)
  allowed-value (reference (field c (named (x ∷ n)))) h = omega arith
  allowed-value (reference (field c (numbered i))) h = omega arith
  allowed-value (reference (parameter m i)) h = omega arith
  allowed-value (reference (parameter2 m i flag)) h = omega arith
  allowed-value (arithmetic o u w) h = omega (arith, value-least u, length-append (value_bytes u) (value_bytes w))
  allowed-value (negate u) h = omega (arith, value-least u)
  allowed-value (statistic k r u) h = omega (arith, value-least u, length-append (rse_bytes r) (value_bytes u))
  allowed-value (count r) h = omega (arith, rse-least r)

  pub five-bytes : (b : Boolean) → BooleanAllowed v sc b → FiveBytes b
  unfolding boolean_bytes
  five-bytes (compare c u w) h = omega (arith, value-least u, value-least w, length-append (value_bytes u) (value_bytes w))
  five-bytes (search t u w) h = omega (arith, value-least u, value-least w, length-append (value_bytes u) (value_bytes w))
  five-bytes (between u w x) h =
      omega (arith, value-least u, value-least w, length-append (value_bytes u ++ value_bytes w) (value_bytes x), length-append (value_bytes u) (value_bytes w))
  five-bytes (connect c b d) h = (five-bytes b h.0, five-bytes d h.1)
  five-bytes (not b) h = five-bytes b h
  five-bytes (missing u) h = omega (arith, allowed-value u h)
  five-bytes (quantify q r) h = omega (arith, one-stream r h.0)
