-- A number that is found without a walk is what a reference, a literal and the walk give. Assumes nothing.
use Prim.Native.Nat.{ℕ, suc, ◌+◌}
use mathlib.Core.Path.{◌≡◌, refl, sym, ap, ap₂, subst, ◌∙◌}
use mathlib.Core.Bool.{false}
use mathlib.Core.List.{List}
use Rattle.std.specs.Prelude.{Option, Some, None}
use native.Mathlib.Omega.{arith}
use lib.IntN.{ℤ, pos}
use borrow.Author.Tests.{ne_eqb}
use Rattle.wire.specs.Words.{byte_at, word_at, signed}
use Rattle.wire.specs.Lists.{among, any_of}
use Rattle.wire.specs.Classes.{due, classify, value_class, literal_class, field_class}
use Rattle.wire.specs.Entries.{field_type, field_scale}
use Rattle.wire.specs.declared.codes.Width.{Width}
use Rattle.wire.specs.declared.codes.LiteralType.TheVariants.{NumberLiteral}
use Rattle.wire.specs.declared.codes.DataType.TheVariants as Data
use Rattle.wire.specs.declared.codes.FieldType.{FieldType}
use Rattle.wire.specs.declared.codes.FieldType.TheVariants.{Plain, Reading}
use Rattle.wire.specs.declared.codes.ReferenceCode.TheVariants.{Fid}
use Rattle.wire.specs.declared.codes.ValueCode.TheVariants as Code
use Rattle.dictionary.specs.Format.{Format, width_bytes}
use Rattle.dictionary.specs.Naming.{numbered}
use Rattle.dictionary.specs.Internal.Walk.{type_of, entry_field, relation_at}
use Rattle.records.specs.declared.lengths.Located.{Located}
use Rattle.records.specs.Record.{bit_at, field_presence}
use Rattle.records.specs.Internal.Locations.{located_in, located_of}
use Rattle.records.proofs.Locations.{located-format, located-offset}
use Rattle.meaning.specs.Data.{number}
use Rattle.meaning.specs.Inputs.{Fetched, number_at, value_at, field_in}
use Rattle.walking.specs.Walk.{at, literal_at, value_under, reference_at}
use Rattle.walking.proofs.Laws.{value-by}
use Rattle.surroundings.specs.Bindings.{bound_value, bound_around, bound_sight}
use Rattle.inputs.specs.declared.singles.Single.{Single}
use Rattle.inputs.specs.Singles.{single_of, Fetches, Walks, held_in, NumberAt, SingleAt}
use Rattle.inputs.proofs.LiteralLaws.{literal-due, number-literal}

-- ---- a literal whose code stands at p

pub literal-single : (s : List ℕ) (p : ℕ) (w : Width) (r : Single) (x : ℤ) (b n c : ℕ) → r ≡ single_of x b (p + 3 + n) →
    x ≡ number_at w s (p + 3) → b ≡ byte_at s (p + 2) → n ≡ width_bytes w → due (NumberLiteral w) ≡ literal_class c → c ≡ byte_at s (p + 1) →
    Walks (Some r) (literal_at s (p + 1))
literal-single s p w r x b n c e f g k m i =
    let one : p + 1 + 1 ≡ p + 2 = omega arith in
    let two : p + 1 + 2 ≡ p + 3 = omega arith in
    let end : p + 3 + n ≡ p + 1 + 2 + n = omega arith in
    let value-is : x ≡ number_at w s (p + 1 + 2) = f ∙ ap (number_at w s) (sym two) in
    let found = number-literal s (p + 1) w b n (record { value = x; scale = signed 1 b }) (g ∙ ap (byte_at s) (sym one))
    (λ j. record { value = value-is j; scale = signed 1 b }) k ∙ literal-due s (p + 1) (NumberLiteral w) c m i in
    rw e (sym (ap (at (number (record { value = x; scale = signed 1 b }))) end ∙ found))

-- ---- a field

-- what two references give is the same
pub same-fetched : (r : Option Single) (after : ℕ) {x y : Fetched} → x ≡ y → Fetches r after x → Fetches r after y
same-fetched r after e f = subst (λ (x : Fetched). Fetches r after x) e f

module _ (r : Single) (after : ℕ) (s : List ℕ) (p : ℕ) where
  pub number-held : (w : Width) (x : ℤ) (f : Format) → r ≡ single_of x f.scale after → x ≡ number_at w s p →
      f.type ≡ Plain (Data.Number w) → Fetches (Some r) after (held_in f s p)
  unfolding value_at
  number-held w x f e g t = (rw (t, e, g), rw e)

  pub reading-held : (x : ℤ) (n scale word : ℕ) → r ≡ single_of x scale after → x ≡ pos word → word ≡ word_at s p → (word ≡ 65535 → ⊥) →
      Fetches (Some r) after (held_in (record { type = Reading; scale = scale; size = n }) s p)
  unfolding value_at
  reading-held x n scale word e g k m = (rw (← k, ne_eqb word 65535 m, e, g, ← k), rw e)

pub as-reading : (r : Option Single) (after : ℕ) (s : List ℕ) (p : ℕ) (f : Format) → f.type ≡ Reading →
    Fetches r after (held_in (record { type = Reading; scale = f.scale; size = f.size }) s p) → Fetches r after (held_in f s p)
as-reading r after s p f t g =
    subst (λ (k : FieldType). Fetches r after (held_in (record { type = k; scale = f.scale; size = f.size }) s p)) (sym t) g

-- a field whose bit is clear, by its entry and its offset
pub field-held : (d : List ℕ) (r : ℕ) (s : List ℕ) (p i : ℕ) (x : Located) → located_of (Some x) ≡ located_in d r i →
    (f : Format) → f ≡ (entry_field d x.entry).format → bit_at s p i ≡ false →
    (a : Option Single) (after : ℕ) → Fetches a after (held_in f s (p + x.offset)) → Fetches a after (field_in (relation_at d r) s p i)
unfolding field_in field_presence
field-held d r s p i x e f g b a after k =
    let held : held_in f s (p + x.offset) ≡ field_in (relation_at d r) s p i =
    rw (located-format d r i x e, b, ← located-offset d r i x e, ← g) in
    same-fetched a after held k

-- a field by the type and the scale of its entry
pub described-held : (d : List ℕ) (q : ℕ) (s : List ℕ) (p : ℕ) (t : FieldType) (scale : ℕ) →
    t ≡ type_of (field_class (byte_at d (q + field_type))) → scale ≡ byte_at d (q + field_scale) → (a : Option Single) (after : ℕ) →
    ((n : ℕ) → Fetches a after (held_in (record { type = t; scale = scale; size = n }) s p)) →
    Fetches a after (held_in (entry_field d q).format s p)
unfolding entry_field
described-held d q s p t scale e f a after g =
    let n = (entry_field d q).format.size in
    same-fetched a after
    (ap₂ (λ (u : FieldType) (v : ℕ). held_in (record { type = u; scale = v; size = n }) s p) e f)
    (g n)

-- ---- the value at a place

code-fid : value_class 24 ≡ due (Code.Reference Fid)
unfolding value_class classify among any_of
code-fid = refl

code-literal : value_class 21 ≡ due Code.Literal
unfolding value_class classify among any_of
code-literal = refl

module _ (s d t records runs : List ℕ) (p : ℕ) where
  pub field-walked : (r : Option Single) → byte_at s p ≡ 24 →
      Fetches r (p + 4) (bound_value d t records runs (byte_at s (p + 1)) (numbered (word_at s (p + 2)))) →
      SingleAt s d t records runs p r
  unfolding value_under reference_at bound_sight bound_around
  field-walked None c f = record { walked = tt }
  field-walked (Some r) c f =
      record {
        walked =
            λ parameters count images l.
            value-by (bound_sight d parameters count images records runs) t s (suc l) p (due (Code.Reference Fid)) (λ z. absurd (omega arith))
            (sym (ap value_class c ∙ code-fid)) ∙ rw (f.0, f.1);
      }

  pub literal-walked : (r : Option Single) → byte_at s p ≡ 21 → Walks r (literal_at s (p + 1)) → SingleAt s d t records runs p r
  unfolding value_under
  literal-walked None c f = record { walked = tt }
  literal-walked (Some r) c f =
      record {
        walked =
            λ parameters count images l.
            value-by (bound_sight d parameters count images records runs) t s (suc l) p (due Code.Literal) (λ z. absurd (omega arith))
            (sym (ap value_class c ∙ code-literal)) ∙ f;
      }

-- the same number by other names of its value and its scale
pub same_number : (s d t records runs : List ℕ) (p e : ℕ) {x y a b : ℤ} → x ≡ y → a ≡ b →
    NumberAt s d t records runs p (record { value = y; scale = b }) e → NumberAt s d t records runs p (record { value = x; scale = a }) e
same_number s d t records runs p e f g n parameters count images l =
    n parameters count images l ∙ sym (λ i. at (number (record { value = f i; scale = g i })) e)
