-- A field depends on the bytes of its own record alone.
use Prim.Native.Nat.{ℕ, zero, suc, ◌+◌, ◌-◌, ◌*◌, ◌/◌, ◌%◌, ◌^◌, ◌<◌, ◌≤◌}
use mathlib.Core.Path.{◌≡◌, refl, sym, ap, ap₂, ◌∙◌}
use mathlib.Core.List.{List, [], ◌∷◌}
use mathlib.Core.Option.{Option, none, some}
use native.Mathlib.Omega.{arith}
use lib.Dec.{eqb}
use lib.IntN.{pos}
use lib.ListN.{take, drop}
use lib.Seq.{get_or-take, get_or-drop, drop-drop, take-take}
use Rattle.wire.specs.Words.{byte_at, word_at, long_at, int64_at, signed}
use Rattle.wire.specs.declared.codes.FieldType.{FieldType}
use Rattle.wire.specs.declared.codes.FieldType.TheVariants.{Plain, Reading}
use Rattle.wire.specs.declared.codes.DataType.TheVariants as Data
use Rattle.wire.specs.declared.codes.Width.TheVariants.{Short, Long, Int64}
use Rattle.dictionary.specs.Format.{Format, held, type_bytes, text_bytes}
use Rattle.dictionary.specs.Dictionary.{Relation}
use Rattle.dictionary.specs.Naming.{format_of}
use Rattle.records.specs.Record.{field_count, offset_of, record_length, bit_at, reading_missing, presence_of, field_presence}
use Rattle.std.specs.Prelude.{Option as Maybe, Some, None}
use Rattle.records.specs.declared.missing.Cause.{Cause}
use Rattle.records.proofs.Records.{shortest}
use Rattle.meaning.specs.Data.{number, date}
use Rattle.meaning.specs.Inputs.{value, field_in, value_at, type_value, text_in, unless_missing}
use Rattle.walking.proofs.Blind.{in-record, few}
use Rattle.sights.specs.Seen.{record_at}

-- ---- a part of a list, and alone

module _ (s : List ℕ) (p n : ℕ) where
  byte-in : (i : ℕ) → i < n → byte_at s (p + i) ≡ byte_at (take n (drop p s)) (0 + i)
  byte-in i h =
      let z : 0 + i ≡ i = omega arith in
      sym (get_or-drop p s i 0) ∙ sym (get_or-take n (drop p s) i 0 h) ∙ ap (byte_at (take n (drop p s))) (sym z)

  part_in : (m i : ℕ) → i + m ≤ n → take m (drop (p + i) s) ≡ take m (drop (0 + i) (take n (drop p s)))
  part_in m i h =
      let z : 0 + i ≡ i = omega arith in
      ap (take m) (sym (drop-drop i p s)) ∙ inner n (drop p s) i h ∙ ap (λ j. take m (drop j (take n (drop p s)))) (sym z)
    where
      inner : (n : ℕ) (l : List ℕ) (i : ℕ) → i + m ≤ n → take m (drop i l) ≡ take m (drop i (take n l))
      inner n l zero h = sym (take-take m n l (omega arith))
      inner zero l (suc i) h = absurd (omega arith)
      inner (suc n) [] (suc i) h = refl
      inner (suc n) (x ∷ l) (suc i) h = inner n l i (omega arith)

-- bytes that are the same from p on in s and from q on in t
module _ (s : List ℕ) (p : ℕ) (t : List ℕ) (q : ℕ) where
  word_same : (i : ℕ) → ((j : ℕ) → i ≤ j → j < i + 2 → byte_at s (p + j) ≡ byte_at t (q + j)) → word_at s (p + i) ≡ word_at t (q + i)
  word_same i h =
      let a : p + (i + 1) ≡ p + i + 1 = omega arith in
      let b : q + (i + 1) ≡ q + i + 1 = omega arith in
      ap₂ (λ x y. x + 256 * y) (h i (omega arith) (omega arith)) (ap (byte_at s) (sym a) ∙ h (i + 1) (omega arith) (omega arith) ∙ ap (byte_at t) b)

  long_same : (i : ℕ) → ((j : ℕ) → i ≤ j → j < i + 4 → byte_at s (p + j) ≡ byte_at t (q + j)) → long_at s (p + i) ≡ long_at t (q + i)
  long_same i h =
      let a : p + (i + 2) ≡ p + i + 2 = omega arith in
      let b : q + (i + 2) ≡ q + i + 2 = omega arith in
      ap₂ (λ x y. x + 65536 * y) (word_same i (λ j x y. h j x (omega arith)))
      (ap (word_at s) (sym a) ∙ word_same (i + 2) (λ j x y. h j (omega arith) (omega arith)) ∙ ap (word_at t) b)

  int64-same : (i : ℕ) → ((j : ℕ) → i ≤ j → j < i + 8 → byte_at s (p + j) ≡ byte_at t (q + j)) → int64_at s (p + i) ≡ int64_at t (q + i)
  int64-same i h =
      let a : p + (i + 4) ≡ p + i + 4 = omega arith in
      let b : q + (i + 4) ≡ q + i + 4 = omega arith in
      ap₂ (λ x y. x + 4294967296 * y) (long_same i (λ j x y. h j x (omega arith)))
      (ap (long_at s) (sym a) ∙ long_same (i + 4) (λ j x y. h j (omega arith) (omega arith)) ∙ ap (long_at t) b)

-- ---- a field of the record at p is that of the record alone

module _ (r : Relation) (s : List ℕ) (p : ℕ) where
  abbrev alone : List ℕ
  alone = record_at r s p

  byte-alone : (i j : ℕ) → i ≤ j → j < record_length r → byte_at s (p + j) ≡ byte_at alone (0 + j)
  byte-alone i j l h = byte-in s p (record_length r) j h

  type-alone : (k : FieldType) (scale n i : ℕ) → i + type_bytes k n ≤ record_length r → type_value k scale n s (p + i) ≡ type_value k scale n alone (0 + i)
  type-alone (Plain (Data.Number Short)) scale n i h =
      ap (λ z. value (number (record { value = signed 2 z; scale = signed 1 scale })))
      (word_same s p alone 0 i (λ j a b. byte-alone i j a (omega arith)))
  type-alone (Plain (Data.Number Long)) scale n i h =
      ap (λ z. value (number (record { value = signed 4 z; scale = signed 1 scale })))
      (long_same s p alone 0 i (λ j a b. byte-alone i j a (omega arith)))
  type-alone (Plain (Data.Number Int64)) scale n i h =
      ap (λ z. value (number (record { value = signed 8 z; scale = signed 1 scale })))
      (int64-same s p alone 0 i (λ j a b. byte-alone i j a (omega arith)))
  type-alone (Plain Data.Date) scale n i h =
      let x : p + (i + 4) ≡ p + i + 4 = omega arith in
      let y : 0 + (i + 4) ≡ 0 + i + 4 = omega arith in
      ap₂ (λ x y. value (date (signed 4 x) y)) (long_same s p alone 0 i (λ j a b. byte-alone i j a (omega arith)))
      (ap (long_at s) (sym x) ∙ long_same s p alone 0 (i + 4) (λ j a b. byte-alone i j (omega arith) (omega arith)) ∙ ap (long_at alone) y)
  type-alone (Plain (Data.Chars c)) scale n i h = ap (λ z. text_in z c) (part_in s p (record_length r) (text_bytes c n) i h)
  type-alone Reading scale n i h =
      ap (λ z. value (number (record { value = pos z; scale = signed 1 scale })))
      (word_same s p alone 0 i (λ j a b. byte-alone i j a (omega arith)))

  reading-alone : (k : FieldType) (n i : ℕ) → i + type_bytes k n ≤ record_length r →
      reading_missing k (word_at s (p + i)) ≡ reading_missing k (word_at alone (0 + i))
  reading-alone (Plain k) n i h = refl
  reading-alone Reading n i h = ap (reading_missing Reading) (word_same s p alone 0 i (λ j a b. byte-alone i j a (omega arith)))

  bit-alone : (i : ℕ) → i < field_count r → bit_at s p i ≡ bit_at alone 0 i
  unfolding bit_at
  bit-alone i h =
      let x = shortest r in
      let a : p + (6 + i / 8) ≡ p + 6 + i / 8 = omega arith in
      let b : 0 + (6 + i / 8) ≡ 0 + 6 + i / 8 = omega arith in
      let c : 6 + i / 8 < record_length r = omega (arith, x) in
      ap (λ z. eqb (z / 2 ^ (i % 8) % 2) 1) (ap (byte_at s) (sym a) ∙ byte-in s p (record_length r) (6 + i / 8) c ∙ ap (byte_at alone) b)

  unless-alone : (b c : Maybe Cause) (f : Format) (j : ℕ) → b ≡ c → value_at f s (p + j) ≡ value_at f alone (0 + j) →
      unless_missing b f s (p + j) ≡ unless_missing c f alone (0 + j)
  unless-alone b c f j e h = ap (λ z. unless_missing z f s (p + j)) e ∙ by c
    where
      by : (c : Maybe Cause) → unless_missing c f s (p + j) ≡ unless_missing c f alone (0 + j)
      by (Some w) = refl
      by None = h

  pub field-alone : (i : ℕ) → field_in r s p i ≡ field_in r alone 0 i
  unfolding field_in field_presence value_at held
  field-alone i = by (format_of r i) refl
    where
      by : (o : Option Format) → format_of r i ≡ o → field_in r s p i ≡ field_in r alone 0 i
      by none e = rw (field_in, e)
      by (some f) e =
          let h : offset_of r i + type_bytes f.type f.size ≤ record_length r = in-record r i f e in
          rw (field_in, e)
          (unless-alone _ _ f (offset_of r i) (ap₂ presence_of (bit-alone i (few r i f e)) (reading-alone f.type f.size (offset_of r i) h))
          (type-alone f.type f.scale f.size (offset_of r i) h))

-- so records of the same bytes have the same fields
pub field-same : (r : Relation) (s : List ℕ) (p : ℕ) (t : List ℕ) (q : ℕ) → record_at r s p ≡ record_at r t q → (i : ℕ) →
    field_in r s p i ≡ field_in r t q i
field-same r s p t q e i = field-alone r s p i ∙ ap (λ z. field_in r z 0 i) e ∙ sym (field-alone r t q i)
