-- The scale of an allowed value's kind is one that a row can hold.
use Prim.Native.Nat.{ℕ, ◌≤◌}
use mathlib.Core.Path.{◌≡◌, refl}
use mathlib.Core.Bool.{Bool, true, false, cond, ◌&&◌}
use mathlib.Core.List.{List, [], ◌∷◌, ◌++◌}
use mathlib.Core.Option.{Option, none, some}
use native.Mathlib.Omega.{arith}
use lib.Dec.{eqb}
use lib.IntN.{ℤ, pos, negsuc}
use lib.Signed.{le_z}
use borrow.Author.Tests.{leb-true, le-leb}
use Rattle.wire.specs.Words.{signed}
use Rattle.wire.specs.declared.codes.Width.{Width}
use Rattle.wire.specs.declared.codes.Width.TheVariants.{Short, Long, Int64}
use Rattle.dictionary.specs.Format.{least_scale, scale_in_range}
use Rattle.wire.specs.Lists.{find, ◌and_then◌}
use Rattle.wire.specs.declared.codes.Version.{Version}
use Rattle.wire.specs.declared.codes.Operator.{Operator}
use Rattle.dictionary.specs.Dictionary.{Relation}
use Rattle.dictionary.specs.Naming.{Name, relation_of, field_of, format_of}
use Rattle.grammar.specs.declared.Kind.{Kind}
use Rattle.grammar.specs.declared.Kind.TheVariants as Kind
use Rattle.grammar.specs.Kinds.{field_kind, flagged, parameter_kind, reference_kind, literal_kind, result_scale, arithmetic_range, arithmetic_kind, negated_kind, kind_of}
use Rattle.grammar.specs.Tree as Tree
use Rattle.grammar.specs.Tree.{Literal, Reference, field, parameter, parameter2, Value, literal, reference, arithmetic, negate, statistic, count, Rse, rse}
use Rattle.grammar.specs.Bytes.{statistic_code}
use Rattle.grammar.specs.Environment.{Environment, Context, Scope, context_of, relation_in, relation_of_context, stream_context, under_streams, under_rse_of, field_format}
use Rattle.grammar.specs.Sizes.{OneStream, LiteralAllowed}
use Rattle.grammar.specs.Rules.{ValueAllowed}
use Rattle.grammar.proofs.StepLaws.{absurd-eq}
use Rattle.surroundings.specs.Bindings.{kind_if}
use Rattle.kinds.specs.KindAt.{kind_number, kind_of_field}
use Rattle.kinds.proofs.Columns.{scale_back}

-- a kind that a row can hold
abbrev pub Held : Option Kind → Type 0
Held k = kind_if (kind_number k) ≡ k

pub held_none : Held none
unfolding kind_if kind_number
held_none = refl

pub held-text : Held (some Kind.Text)
unfolding kind_if kind_number
held-text = refl

pub held-date : Held (some Kind.Date)
unfolding kind_if kind_number
held-date = refl

held-zero : Held (some (Kind.Number (pos 0)))
held-zero = scale_back (pos 0) refl refl

and_both : (a b : Bool) → a && b ≡ true → (a ≡ true) × (b ≡ true)
and_both true b e = (refl, e)
and_both false b e = absurd-eq (cc)

-- ---- operators

held-range : (z : ℤ) → Held (arithmetic_range z)
held-range z = by (le_z (negsuc 17) z && le_z z (pos 0)) refl
  where
    by : (b : Bool) → le_z (negsuc 17) z && le_z z (pos 0) ≡ b → Held (cond b (some (Kind.Number z)) none)
    by true e = let h = and_both (le_z (negsuc 17) z) (le_z z (pos 0)) e in scale_back z h.0 h.1
    by false e = held_none

held-arithmetic : (v : Version) (o : Operator) (a b : Option Kind) → Held (arithmetic_kind v o a b)
unfolding arithmetic_kind
held-arithmetic v o (some (Kind.Number x)) (some (Kind.Number y)) = held-range (result_scale v o x y)
held-arithmetic v o (some (Kind.Number x)) (some Kind.Text) = held_none
held-arithmetic v o (some (Kind.Number x)) (some Kind.Date) = held_none
held-arithmetic v o (some (Kind.Number x)) none = held_none
held-arithmetic v o (some Kind.Text) b = held_none
held-arithmetic v o (some Kind.Date) b = held_none
held-arithmetic v o none b = held_none

held-negated : (a : Option Kind) → Held a → Held (negated_kind a)
held-negated (some (Kind.Number x)) h = h
held-negated (some Kind.Text) h = held_none
held-negated (some Kind.Date) h = held_none
held-negated none h = held_none

held-flagged : (a b : Option Kind) → Held b → Held (flagged a b)
held-flagged (some (Kind.Number x)) b h = h
held-flagged (some Kind.Text) b h = held_none
held-flagged (some Kind.Date) b h = held_none
held-flagged none b h = held_none

-- ---- literals

-- every width's scales are from -18 on
least-wide : (z : ℤ) (n : ℕ) → n ≤ 17 → le_z (negsuc n) z ≡ true → le_z (negsuc 17) z ≡ true
least-wide (pos m) n h e = refl
least-wide (negsuc m) n h e = let k = leb-true m n e in le-leb m 17 (omega (arith, h, k))

scale-wide : (w : Width) (z : ℤ) → le_z (least_scale w) z ≡ true → le_z (negsuc 17) z ≡ true
scale-wide Short z e = least-wide z 8 (omega arith) e
scale-wide Long z e = least-wide z 8 (omega arith) e
scale-wide Int64 z e = e

-- a number of a width
pub held-scale : (w : Width) (scale : ℕ) → scale_in_range w scale ≡ true → Held (some (Kind.Number (signed 1 scale)))
unfolding scale_in_range
held-scale w scale e =
    let h = and_both (le_z (least_scale w) (signed 1 scale)) (le_z (signed 1 scale) (pos 0)) e in
    scale_back (signed 1 scale) (scale-wide w (signed 1 scale) h.0) h.1

pub literal-held : (v : Version) (l : Literal) → LiteralAllowed v l → Held (some (literal_kind l))
unfolding literal_kind
literal-held v (Tree.Literal.number w scale n) a = held-scale w scale a.1
literal-held v (Tree.Literal.text t) a = held-text

-- ---- values

-- the kinds of what a request names can be held: of parameters, and of the fields of the relations
pub record Named (e : Environment) : Type 0 where
  pub parameters : (m i : ℕ) → Held (parameter_kind e m i)
  pub fields : (n : Name) (r : Relation) → relation_of e.relations n ≡ some r → (x : Name) → Held (kind_of_field e.version r x)

-- and of the fields of the contexts in scope
abbrev pub NamedIn : Environment → Scope → Type 0
NamedIn e sc = (c : ℕ) (r : Relation) → relation_of_context sc c ≡ some r → (x : Name) → Held (kind_of_field e.version r x)

module _ (e : Environment) (given : Named e) where
  field-held : (o : Option Relation) (x : Name) → ((r : Relation) → o ≡ some r → Held (kind_of_field e.version r x)) →
      Held ((o and_then λ r. field_of r x and_then format_of r) and_then field_kind e.version)
  field-held none x h = held_none
  field-held (some r) x h = h r refl

  reference-held : (sc : Scope) → NamedIn e sc → (r : Reference) → Held (reference_kind e sc r)
  unfolding reference_kind field_format
  reference-held sc h (field c x) = field-held (relation_of_context sc c) x (λ r i. h c r i x)
  reference-held sc h (parameter m i) = given.parameters m i
  reference-held sc h (parameter2 m i flag) = held-flagged (parameter_kind e m flag) (parameter_kind e m i) (given.parameters m i)

  -- one context more
  one_more : (xs : List Context) (y : Context) (c : ℕ) (r : Relation) → (find (λ z. eqb z.number c) (xs ++ (y ∷ [])) and_then relation_in) ≡ some r →
      ((find (λ z. eqb z.number c) xs and_then relation_in) ≡ some r → (x : Name) → Held (kind_of_field e.version r x)) →
      (y.relation ≡ some r → (x : Name) → Held (kind_of_field e.version r x)) → (x : Name) → Held (kind_of_field e.version r x)
  unfolding find
  one_more [] y c r i h k = by (eqb y.number c) i
    where
      by : (b : Bool) → (cond b (some y) none and_then relation_in) ≡ some r → (x : Name) → Held (kind_of_field e.version r x)
      by true j = k j
      by false j = absurd-eq (cc)
  one_more (z ∷ xs) y c r i h k = by (eqb z.number c) i h (one_more xs y c r)
    where
      by : (b : Bool) → (cond b (some z) (find (λ w. eqb w.number c) (xs ++ (y ∷ []))) and_then relation_in) ≡ some r →
          ((cond b (some z) (find (λ w. eqb w.number c) xs) and_then relation_in) ≡ some r → (x : Name) → Held (kind_of_field e.version r x)) →
          ((find (λ w. eqb w.number c) (xs ++ (y ∷ [])) and_then relation_in) ≡ some r →
          ((find (λ w. eqb w.number c) xs and_then relation_in) ≡ some r → (x : Name) → Held (kind_of_field e.version r x)) →
          (y.relation ≡ some r → (x : Name) → Held (kind_of_field e.version r x)) → (x : Name) → Held (kind_of_field e.version r x)) →
          (x : Name) → Held (kind_of_field e.version r x)
      by true j p next = p j
      by false j p next = next j p k

  pub named-under : (q : Rse) (opener : ℕ) (sc : Scope) → OneStream q → NamedIn e sc → NamedIn e (under_rse_of e.relations opener sc q)
  unfolding under_streams relation_of_context context_of
  named-under (rse [] cs) opener sc o h = absurd (omega arith)
  named-under (rse (s ∷ t ∷ ss) cs) opener sc o h = absurd (omega arith)
  named-under (rse (s ∷ []) cs) opener sc o h =
      λ c r i. one_more sc.contexts (stream_context e.relations opener s) c r i (λ j. h c r j) (λ j. given.fields s.relation r j)

  pub value-held : (v : Value) (sc : Scope) → NamedIn e sc → ValueAllowed e sc v → Held (kind_of e sc v)
  unfolding kind_of
  value-held (literal l) sc h w = literal-held e.version l w
  value-held (reference r) sc h w = reference-held sc h r
  value-held (arithmetic o u v) sc h w = held-arithmetic e.version o (kind_of e sc u) (kind_of e sc v)
  value-held (negate v) sc h w = held-negated (kind_of e sc v) (value-held v sc h w.0)
  value-held (statistic k r v) sc h w =
      held-negated (kind_of e (under_rse_of e.relations (statistic_code k) sc r) v)
      (value-held v (under_rse_of e.relations (statistic_code k) sc r) (named-under r (statistic_code k) sc w.0 h) w.2)
  value-held (count r) sc h w = held-zero
