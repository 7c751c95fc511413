-- What a reference that the rules allow gives has the kind that the rules say, or is a malformed text.
use Prim.Native.Nat.{ℕ, zero, suc}
use mathlib.Core.Path.{◌≡◌, refl, sym, ap, subst, ◌∙◌}
use mathlib.Core.Bool.{Bool, true, false, cond}
use mathlib.Core.List.{List, [], ◌∷◌}
use mathlib.Core.Option.{Option, none, some, map}
use native.Mathlib.Omega.{arith}
use lib.Dec.{eqb}
use lib.IntN.{ℤ}
use lib.ListN.{get_elem?, take, drop}
use Rattle.wire.specs.Lists.{find, index_of, ◌and_then◌}
use Rattle.wire.specs.declared.codes.FieldType.{FieldType}
use Rattle.wire.specs.declared.codes.FieldType.TheVariants.{Plain, Reading}
use Rattle.wire.specs.declared.codes.DataType.TheVariants as Data
use Rattle.std.specs.Prelude as Rust
use Rattle.text.specs.Value.{TextPart, text_part}
use Rattle.wire.specs.Versions.{field_due}
use Rattle.wire.specs.declared.codes.Version.{Version}
use Rattle.dictionary.specs.Format.{Format, text_bytes}
use Rattle.dictionary.specs.Dictionary.{Relation}
use Rattle.dictionary.specs.Naming.{Name, field_of, format_of}
use Rattle.records.specs.declared.missing.Cause.{Cause}
use Rattle.records.specs.Record.{field_presence, field_place}
use Rattle.decimal.specs.declared.Number.{Number}
use Rattle.grammar.specs.declared.Kind.TheVariants as ScaledKind
use Rattle.grammar.specs.declared.Kind.{Kind}
use Rattle.grammar.specs.Tree.{Message, Reference, field, parameter, parameter2}
use Rattle.grammar.specs.Environment.{Environment, Context, Scope, context_of, message_of, relation_in, relation_of_context, descriptor_format, parameter_format, field_format}
use Rattle.grammar.specs.Kinds.{type_kind, format_kind, field_kind, reference_kind, parameter_kind, flagged as flagged_kind}
use Rattle.grammar.proofs.StepLaws.{absurd-eq}
use Rattle.meaning.specs.declared.Kind.TheVariants as Unscaled
use Rattle.meaning.specs.Inputs as Inputs
use Rattle.meaning.specs.Data.{Datum, number, text, date, absent, kind}
use Rattle.meaning.specs.Inputs.{Fetched, value, malformed, nothing, on_found, text_found, text_in, type_value, kind_held, value_at, unless_missing, record_place, field_in, field_named, field_value, parameter_at, parameter_value, parameter_place, is_zero, flagged, unless_flagged, fetch}
use Rattle.walking.proofs.Stray.{unscaled, FetchedOf}

-- ---- the first that passes, and its index

module _ {A : Type 0} (test : A → Bool) where
  found-index : (l : List A) (x : A) → find test l ≡ some x → (k : ℕ) × (index_of test l ≡ some k) × (get_elem? l k ≡ some x)
  unfolding find index_of
  found-index [] x e = absurd-eq (cc)
  found-index (y ∷ l) x e = go (test y) refl (λ z. found-index l x z)
    where
      go : (b : Bool) → test y ≡ b → (find test l ≡ some x → (k : ℕ) × (index_of test l ≡ some k) × (get_elem? l k ≡ some x)) → (k : ℕ) × (index_of test (y ∷ l) ≡ some k) × (get_elem? (y ∷ l) k ≡ some x)
      go true h rest = let z : some y ≡ some x = rw h at e in (0, rw (index_of, h), z)
      go false h rest =
          let z : find test l ≡ some x = rw h at e in
          let i = rest z in let j = i.1 in (suc i.0, rw (index_of, h, j), i.2)

-- ---- values

text_of : (s : List ℕ) (p : TextPart) → FetchedOf Unscaled.Text (text_found s p)
unfolding kind
text_of s (Rust.Some (start, end)) = refl
text_of s Rust.None = tt

type-of : (t : FieldType) (scale n : ℕ) (s : List ℕ) (p : ℕ) → FetchedOf (unscaled (type_kind t scale)) (type_value t scale n s p)
unfolding kind
type-of (Plain (Data.Number w)) scale n s p = refl
type-of (Plain Data.Date) scale n s p = refl
type-of (Plain (Data.Chars t)) scale n s p = text_of (take (text_bytes t n) (drop p s)) (text_part t (take (text_bytes t n) (drop p s)))
type-of Reading scale n s p = refl

value_of : (f : Format) (s : List ℕ) (p : ℕ) → FetchedOf (unscaled (format_kind f)) (value_at f s p)
unfolding format_kind value_at
value_of f s p = type-of f.type f.scale f.size s p

-- the meaning's kind of a format is the rules' kind, its scale aside
kind-held : (f : Format) → kind_held f ≡ unscaled (format_kind f)
unfolding kind_held format_kind
kind-held f = by f.type
  where
    by : (t : FieldType) → Inputs.type_kind t ≡ unscaled (type_kind t f.scale)
    by (Plain (Data.Number w)) = refl
    by (Plain Data.Date) = refl
    by (Plain (Data.Chars t)) = refl
    by Reading = refl

unless-of : (b : Rust.Option Cause) (f : Format) (s : List ℕ) (p : ℕ) → FetchedOf (unscaled (format_kind f)) (unless_missing b f s p)
unfolding kind
unless-of (Rust.Some w) f s p = kind-held f
unless-of Rust.None f s p = value_of f s p

-- a value of a number's type is there
number-there : (t : FieldType) (scale n : ℕ) (s : List ℕ) (p : ℕ) (z : ℤ) → type_kind t scale ≡ ScaledKind.Number z →
    (a : Number) × (type_value t scale n s p ≡ value (number a))
number-there (Plain (Data.Number w)) scale n s p z e = (_, refl)
number-there (Plain Data.Date) scale n s p z e = absurd-eq (cc)
number-there (Plain (Data.Chars t)) scale n s p z e = absurd-eq (cc)
number-there Reading scale n s p z e = (_, refl)

flagged-of : (f : Format) (s : List ℕ) (p : ℕ) (b : Bool) → FetchedOf (unscaled (format_kind f)) (unless_flagged f s p b)
unfolding kind
flagged-of f s p true = value_of f s p
flagged-of f s p false = kind-held f

-- ---- fields

then_some : {A B : Type 0} (o : Option A) (f : A → Option B) (y : B) → (o and_then f) ≡ some y → (x : A) × (o ≡ some x) × (f x ≡ some y)
then_some none f y e = absurd-eq (cc)
then_some (some x) f y e = (x, refl, e)

map-some : {A B : Type 0} (o : Option A) (f : A → B) (y : B) → map f o ≡ some y → (x : A) × (o ≡ some x) × (f x ≡ y)
map-some none f y e = absurd-eq (cc)
map-some (some x) f y e = (x, refl, cc)

-- a field that the version may name has the kind of its format
due-kind : (v : Version) (f : Format) (k : Kind) → field_kind v f ≡ some k → format_kind f ≡ k
unfolding field_kind
due-kind v f k h = by (field_due v f.type) h
  where
    by : (b : Bool) → cond b (some (format_kind f)) none ≡ some k → format_kind f ≡ k
    by true e = cc
    by false e = absurd-eq (cc)

module _ (e : Environment) (sc : Scope) (images rows : List ℕ) where
  field-of : (c : ℕ) (n : Name) (f : Format) → field_format sc c n ≡ some f → FetchedOf (unscaled (format_kind f)) (field_value sc.contexts rows c n)
  unfolding field_format relation_of_context context_of field_value field_in
  field-of c n f h =
      let a = then_some (relation_of_context sc c) (λ r. field_of r n and_then format_of r) f h in
      let b = then_some (context_of sc c) relation_in a.0 a.1 in
      let g = then_some (field_of a.0 n) (format_of a.0) f a.2 in
      let i = found-index (λ x. eqb x.number c) sc.contexts b.0 b.1 in
      rw (i.1, i.2, b.2, g.1, g.2) (unless-of (field_presence a.0 f rows (record_place sc.contexts i.0) g.0) f rows (field_place a.0 (record_place sc.contexts i.0) g.0))

  -- ---- parameters

  parameter-there : (m i : ℕ) (f : Format) → parameter_format e m i ≡ some f → (p : ℕ) × (parameter_at e.messages m i ≡ some (f, p))
  unfolding parameter_format message_of parameter_at
  parameter-there m i f h =
      let a = then_some (message_of e m) _ f h in
      let b = map-some (get_elem? a.0.descriptors i) descriptor_format f a.2 in
      let k = found-index (λ x. eqb x.number m) e.messages a.0 a.1 in
      (parameter_place e.messages k.0 a.0.descriptors i, rw (k.1, k.2, b.1, b.2))

  parameter-of : (m i : ℕ) (f : Format) → parameter_format e m i ≡ some f → FetchedOf (unscaled (format_kind f)) (parameter_value e.messages images m i)
  unfolding parameter_value
  parameter-of m i f h = let a = parameter-there m i f h in rw a.1 (value_of f images a.0)

  kind-there : (m i : ℕ) (k : Kind) → parameter_kind e m i ≡ some k → (f : Format) × (parameter_format e m i ≡ some f) × (format_kind f ≡ k)
  kind-there m i k h = map-some (parameter_format e m i) format_kind k h

  flag-inv : (x y : Option Kind) (k : Kind) → flagged_kind x y ≡ some k → (s : ℤ) × (x ≡ some (ScaledKind.Number s)) × (y ≡ some k)
  flag-inv (some (ScaledKind.Number s)) y k h = (s, refl, h)
  flag-inv (some ScaledKind.Text) y k h = absurd-eq (cc)
  flag-inv (some ScaledKind.Date) y k h = absurd-eq (cc)
  flag-inv none y k h = absurd-eq (cc)

  flag-number : (m i : ℕ) (f : Format) (z : ℤ) → parameter_format e m i ≡ some f → format_kind f ≡ ScaledKind.Number z →
      (a : Number) × (parameter_value e.messages images m i ≡ value (number a))
  unfolding parameter_value value_at format_kind
  flag-number m i f z h k =
      let x = parameter-there m i f h in
      let y = number-there f.type f.scale f.size images x.0 z k in (y.0, rw (x.1, y.1))

  two-of : (m i flag : ℕ) (f : Format) (p : ℕ) (a : Number) → parameter_at e.messages m i ≡ some (f, p) →
      parameter_value e.messages images m flag ≡ value (number a) → FetchedOf (unscaled (format_kind f)) (fetch e.messages sc images rows (parameter2 m i flag))
  unfolding fetch
  two-of m i flag f p a h k = rw (h, k) (flagged-of f images p (is_zero a.value))

  pub typed : (r : Reference) (k : Kind) → reference_kind e sc r ≡ some k → FetchedOf (unscaled k) (fetch e.messages sc images rows r)
  unfolding reference_kind fetch
  typed (field c n) k h =
      let a = then_some (field_format sc c n) (field_kind e.version) k h in
      rw (sym (due-kind e.version a.0 k a.2)) (field-of c n a.0 a.1)
  typed (parameter m i) k h = let a = kind-there m i k h in rw (sym a.2) (parameter-of m i a.0 a.1)
  typed (parameter2 m i flag) k h =
      let q = flag-inv (parameter_kind e m flag) (parameter_kind e m i) k h in
      let a = kind-there m i k q.2 in
      let b = kind-there m flag (ScaledKind.Number q.0) q.1 in
      let x = parameter-there m i a.0 a.1 in
      let y = flag-number m flag b.0 q.0 b.1 b.2 in
      subst (λ z. FetchedOf (unscaled z) (fetch e.messages sc images rows (parameter2 m i flag))) a.2 (two-of m i flag a.0 x.0 y.0 x.1 y.1)
