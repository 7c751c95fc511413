-- Two sets of records that differ only inside fields missing in both give the same values.
use Prim.Native.Nat.{ℕ, zero, suc, ◌+◌, ◌-◌, ◌*◌, ◌/◌, ◌%◌, ◌^◌, ◌<◌, ◌≤◌, min}
use mathlib.Core.Path.{◌≡◌, refl, sym, ap, ap₂, ◌∙◌}
use mathlib.Core.Logic.{◌⊎◌, inl, inr, ⊎_elim}
use mathlib.Core.Bool.{Bool, true, false, ◌||◌}
use mathlib.Core.List.{List, [], ◌∷◌}
use mathlib.Core.Option.{Option, none, some, map}
use native.Mathlib.Omega.{arith}
use lib.Dec.{eqb}
use lib.ListN.{length, take, drop, get_or, get_elem?, length-drop, length-take}
use lib.Seq.{ext_get_or, get_or-take, get_or-drop}
use Rattle.wire.specs.Lists.{sum_of, index_of, ◌and_then◌}
use lib.IntN.{pos}
use Rattle.wire.specs.declared.codes.FieldType.{FieldType}
use Rattle.wire.specs.declared.codes.FieldType.TheVariants.{Plain, Reading}
use Rattle.wire.specs.declared.codes.DataType.TheVariants as Data
use Rattle.wire.specs.declared.codes.Width.TheVariants.{Short, Long, Int64}
use Rattle.meaning.specs.Data.{number, date, absent}
use Rattle.wire.specs.Words.{byte_at, word_at, long_at, int64_at, signed}
use Rattle.dictionary.specs.Format.{Format, held, type_bytes, text_bytes}
use Rattle.dictionary.specs.Dictionary.{Field, Relation}
use Rattle.dictionary.specs.Naming.{Name, field_of, format_of, field_format}
use Rattle.records.specs.Record.{field_count, missing_bytes, packed, offset_of, record_length, bit_at, field_place, reading_missing, field_missing, presence_of, field_presence, is_missing}
use Rattle.std.specs.Prelude as Rust
use Rattle.records.specs.declared.missing.Cause.{Cause}
use Rattle.grammar.specs.Tree.{Message, Reference, field, parameter, parameter2}
use Rattle.grammar.specs.Environment.{Context, Scope}
use Rattle.grammar.proofs.StepLaws.{absurd-eq}
use Rattle.meaning.specs.Inputs.{value, on_found, length_of, record_place, field_in, field_named, field_value, value_at, type_value, text_in, unless_missing, fetch}
use Rattle.walking.proofs.Alike.{InsideMissing, Alike}

-- ---- where records and fields stand

-- a record ends where the next begins, or before
next-record : (xs : List Context) (k m : ℕ) (x : Context) (r : Relation) → get_elem? xs k ≡ some x → x.relation ≡ some r → k < m →
    record_place xs k + record_length r ≤ record_place xs m
unfolding record_place sum_of
next-record [] k m x r e h l = absurd-eq (cc)
next-record (y ∷ xs) zero zero x r e h l = absurd (omega arith)
next-record (y ∷ xs) zero (suc m) x r e h l =
    let z : y ≡ x = cc in let w : length_of y.relation ≡ record_length r = ap length_of (ap (λ (c : Context). c.relation) z ∙ h) in omega (arith, w)
next-record (y ∷ xs) (suc k) zero x r e h l = absurd (omega arith)
next-record (y ∷ xs) (suc k) (suc m) x r e h l = omega (arith, next-record xs k m x r e h (omega arith))

-- so does a field
format-field : (x : Option Field) (f : Format) → map field_format x ≡ some f → (g : Field) × (x ≡ some g) × (g.format ≡ f)
format-field none f e = absurd-eq (cc)
format-field (some g) f e = (g, refl, cc)

next_field : (fs : List Field) (i m : ℕ) (g : Field) → get_elem? fs i ≡ some g → i < m → packed (take i fs) + held g.format ≤ packed (take m fs)
unfolding packed sum_of
next_field [] i m g e l = absurd-eq (cc)
next_field (y ∷ fs) zero zero g e l = absurd (omega arith)
next_field (y ∷ fs) zero (suc m) g e l = let z : y ≡ g = cc in let w : held y.format ≡ held g.format = ap (λ (c : Field). held c.format) z in omega (arith, w)
next_field (y ∷ fs) (suc i) zero g e l = absurd (omega arith)
next_field (y ∷ fs) (suc i) (suc m) g e l = omega (arith, next_field fs i m g e (omega arith))

last-field : (fs : List Field) (i : ℕ) (g : Field) → get_elem? fs i ≡ some g → (packed (take i fs) + held g.format ≤ packed fs) × (i < length fs)
unfolding packed sum_of
last-field [] i g e = absurd-eq (cc)
last-field (y ∷ fs) zero g e = let z : y ≡ g = cc in let w : held y.format ≡ held g.format = ap (λ (c : Field). held c.format) z in (omega (arith, w), omega arith)
last-field (y ∷ fs) (suc i) g e = let h = last-field fs i g e in let a = h.0 in let b = h.1 in (omega (arith, a), omega (arith, b))

module _ (r : Relation) (i : ℕ) (f : Format) (e : format_of r i ≡ some f) where
  before-field : (m : ℕ) → i < m → offset_of r i + held f ≤ offset_of r m
  unfolding offset_of format_of
  before-field m l = let h = format-field (get_elem? r.fields i) f e in let w = ap held h.2 in omega (arith, w, next_field r.fields i m h.0 h.1 l)

  pub in-record : offset_of r i + held f ≤ record_length r
  unfolding offset_of record_length format_of
  in-record = let h = format-field (get_elem? r.fields i) f e in let w = ap held h.2 in let z = (last-field r.fields i h.0 h.1).0 in omega (arith, w, z)

  pub few : i < field_count r
  unfolding format_of
  few = let h = format-field (get_elem? r.fields i) f e in (last-field r.fields i h.0 h.1).1

pub after-bits : (r : Relation) (i : ℕ) → 6 + missing_bytes r ≤ offset_of r i
unfolding offset_of
after-bits r i = omega arith

-- ---- the bytes of a format

module _ (s t : List ℕ) (sized : length s ≡ length t) where
  part_same : (p n : ℕ) → ((j : ℕ) → p ≤ j → j < p + n → byte_at s j ≡ byte_at t j) → take n (drop p s) ≡ take n (drop p t)
  part_same p n h =
      let ls : length (take n (drop p s)) ≡ min n (length s - p) = length-take n (drop p s) ∙ ap (min n) (length-drop p s) in
      let lt : length (take n (drop p t)) ≡ min n (length t - p) = length-take n (drop p t) ∙ ap (min n) (length-drop p t) in
      ext_get_or 0 (take n (drop p s)) (take n (drop p t)) (ls ∙ ap (λ z. min n (z - p)) sized ∙ sym lt) (λ i b.
      let c : i < n = omega (arith, ls, b) in
      get_or-take n (drop p s) i 0 c ∙ get_or-drop p s i 0 ∙ h (p + i) (omega arith) (omega arith) ∙ sym (get_or-take n (drop p t) i 0 c ∙ get_or-drop p t i 0))

  word_same : (p : ℕ) → byte_at s p ≡ byte_at t p → byte_at s (p + 1) ≡ byte_at t (p + 1) → word_at s p ≡ word_at t p
  word_same p a b = ap₂ (λ x y. x + 256 * y) a b

  long_same : (p : ℕ) → ((j : ℕ) → p ≤ j → j < p + 4 → byte_at s j ≡ byte_at t j) → long_at s p ≡ long_at t p
  long_same p h =
      ap₂ (λ x y. x + 65536 * y) (word_same p (h p (omega arith) (omega arith)) (h (p + 1) (omega arith) (omega arith)))
      (word_same (p + 2) (h (p + 2) (omega arith) (omega arith)) (h (p + 2 + 1) (omega arith) (omega arith)))

  int64-same : (p : ℕ) → ((j : ℕ) → p ≤ j → j < p + 8 → byte_at s j ≡ byte_at t j) → int64_at s p ≡ int64_at t p
  int64-same p h =
      ap₂ (λ x y. x + 4294967296 * y) (long_same p (λ j a b. h j a (omega arith))) (long_same (p + 4) (λ j a b. h j (omega arith) (omega arith)))

  type-same : (k : FieldType) (scale n p : ℕ) → ((j : ℕ) → p ≤ j → j < p + type_bytes k n → byte_at s j ≡ byte_at t j) →
      type_value k scale n s p ≡ type_value k scale n t p
  type-same (Plain (Data.Number Short)) scale n p h =
      ap (λ z. value (number (record { value = signed 2 z; scale = signed 1 scale }))) (word_same p (h p (omega arith) (omega arith)) (h (p + 1) (omega arith) (omega arith)))
  type-same (Plain (Data.Number Long)) scale n p h = ap (λ z. value (number (record { value = signed 4 z; scale = signed 1 scale }))) (long_same p h)
  type-same (Plain (Data.Number Int64)) scale n p h = ap (λ z. value (number (record { value = signed 8 z; scale = signed 1 scale }))) (int64-same p h)
  type-same (Plain Data.Date) scale n p h =
      ap₂ (λ x y. value (date (signed 4 x) y)) (long_same p (λ j a b. h j a (omega arith))) (long_same (p + 4) (λ j a b. h j (omega arith) (omega arith)))
  type-same (Plain (Data.Chars c)) scale n p h = ap (λ z. text_in z c) (part_same p (text_bytes c n) h)
  type-same Reading scale n p h =
      ap (λ z. value (number (record { value = pos z; scale = signed 1 scale }))) (word_same p (h p (omega arith) (omega arith)) (h (p + 1) (omega arith) (omega arith)))

  reading-same : (k : FieldType) (n p : ℕ) → ((j : ℕ) → p ≤ j → j < p + type_bytes k n → byte_at s j ≡ byte_at t j) →
      reading_missing k (word_at s p) ≡ reading_missing k (word_at t p)
  reading-same (Plain k) n p h = refl
  reading-same Reading n p h = ap (reading_missing Reading) (word_same p (h p (omega arith) (omega arith)) (h (p + 1) (omega arith) (omega arith)))

unless-same : (b : Rust.Option Cause) (f : Format) (s t : List ℕ) (p : ℕ) → type_value f.type f.scale f.size s p ≡ type_value f.type f.scale f.size t p →
    unless_missing b f s p ≡ unless_missing b f t p
unfolding value_at
unless-same (Rust.Some w) f s t p e = refl
unless-same Rust.None f s t p e = e

-- missing in both, with one bit: by one cause
both-missing : (b x y : Bool) (f : Format) (s t : List ℕ) (p : ℕ) → is_missing (presence_of b x) ≡ true → is_missing (presence_of b y) ≡ true →
    unless_missing (presence_of b x) f s p ≡ unless_missing (presence_of b y) f t p
both-missing true x y f s t p h k = refl
both-missing false true true f s t p h k = refl
both-missing false true false f s t p h k = absurd-eq (cc)
both-missing false false y f s t p h k = absurd-eq (cc)

-- ---- one field

data Order (a b : ℕ) : Type 0 where
  less : a < b → Order a b
  same : a ≡ b → Order a b
  more : b < a → Order a b

order : (a b : ℕ) → Order a b
order zero zero = same refl
order zero (suc b) = less (omega arith)
order (suc a) zero = more (omega arith)
order (suc a) (suc b) = go (order a b)
  where
    go : Order a b → Order (suc a) (suc b)
    go (less h) = less (omega arith)
    go (same h) = same (ap suc h)
    go (more h) = more (omega arith)

module _ (xs : List Context) (rows rows' : List ℕ) (w : Alike xs rows rows') (k : ℕ) (x : Context) (r : Relation) (i : ℕ) (f : Format)
    (ck : get_elem? xs k ≡ some x) (cr : x.relation ≡ some r) (cf : format_of r i ≡ some f) where
  P : ℕ
  P = record_place xs k

  -- a place in this record lies in no field of another
  one-record : (j : ℕ) (z : InsideMissing xs rows rows' j) → P ≤ j → j < P + record_length r → z.k ≡ k
  unfolding P
  one-record j z a b = go (order z.k k)
    where
      go : Order z.k k → z.k ≡ k
      go (less h) =
          let u = next-record xs z.k k z.x z.r z.context_is z.relation_is h in
          let v = in-record z.r z.i z.f z.format_is in let y = z.before in absurd (omega (arith, u, v, y))
      go (same h) = h
      go (more h) =
          let u = next-record xs k z.k x r ck cr h in let y = z.from in absurd (omega (arith, u, y))

  one-relation : (j : ℕ) (z : InsideMissing xs rows rows' j) → z.k ≡ k → z.r ≡ r
  one-relation j z h =
      let a : some z.x ≡ some x = sym z.context_is ∙ ap (get_elem? xs) h ∙ ck in
      let b : z.x ≡ x = cc in
      let c : some z.r ≡ some r = sym z.relation_is ∙ ap (λ (y : Context). y.relation) b ∙ cr in cc

  Both : Type 0
  Both = (field_missing r f rows P i ≡ true) × (field_missing r f rows' P i ≡ true)

  -- a place inside this field: the same byte, unless the field is missing in both
  inside-field : (j : ℕ) → field_place r P i ≤ j → j < field_place r P i + held f → (byte_at rows j ≡ byte_at rows' j) ⊎ Both
  unfolding P Both
  inside-field j a b = ⊎_elim (λ e. inl e) (λ z. inr (found z)) (w.differ_only j)
    where
      found : InsideMissing xs rows rows' j → Both
      found z = at (order z.i i)
        where
          whole : offset_of r i + held f ≤ record_length r
          whole = in-record r i f cf

          hk : z.k ≡ k
          hk = one-record j z (omega (arith, a)) (omega (arith, b, whole))

          hr : z.r ≡ r
          hr = one-relation j z hk

          here : record_place xs z.k ≡ P
          here = ap (record_place xs) hk

          at : Order z.i i → Both
          at (less h) =
              let u = before-field z.r z.i z.f z.format_is i h in let v = ap (λ (q : Relation). offset_of q i) hr in let y = z.before in
              absurd (omega (arith, u, v, y, here))
          at (same h) =
              let g : some z.f ≡ some f = sym z.format_is ∙ ap₂ format_of hr h ∙ cf in
              let hf : z.f ≡ f = cc in
              let m = z.missing in let m' = z.missing' in let q = hr in let o = here in (cc, cc)
          at (more h) =
              let u = before-field r i f cf z.i h in let v = ap (λ (q : Relation). offset_of q z.i) hr in let y = z.from in
              absurd (omega (arith, u, v, y, here, b))

  -- the byte of its missing bit lies inside no field
  bit-same : bit_at rows P i ≡ bit_at rows' P i
  unfolding bit_at P
  bit-same = ap (λ b. eqb (b / 2 ^ (i % 8) % 2) 1) (⊎_elim (λ e. e) (λ z. none-there z) (w.differ_only j))
    where
      j : ℕ
      j = P + 6 + i / 8

      none-there : InsideMissing xs rows rows' j → byte_at rows j ≡ byte_at rows' j
      none-there z =
          let n = few r i f cf in
          let l = in-record r i f cf in
          let b = after-bits r i in
          let hk = one-record j z (omega arith) (omega (arith, n, l, b)) in
          let hr = one-relation j z hk in
          let o = ap (record_place xs) hk in
          let u = after-bits z.r z.i in
          let v = ap (λ (q : Relation). missing_bytes q) hr in
          let y = z.from in absurd (omega (arith, n, u, v, y, o))

  -- so the field gives the same
  field-same : field_in r rows P i ≡ field_in r rows' P i
  unfolding field_in value_at held Both field_missing field_presence
  field-same = rw (field_in, cf) (go (field_missing r f rows P i) refl (field_missing r f rows' P i) refl)
    where
      p : ℕ
      p = field_place r P i

      reading : List ℕ → Bool
      reading s = reading_missing f.type (word_at s p)

      all_same : (Both → ⊥) → (j : ℕ) → p ≤ j → j < p + held f → byte_at rows j ≡ byte_at rows' j
      all_same not j a b = ⊎_elim (λ e. e) (λ z. absurd (not z)) (inside-field j a b)

      values_same : (Both → ⊥) → unless_missing (field_presence r f rows P i) f rows p ≡ unless_missing (field_presence r f rows' P i) f rows' p
      values_same not =
          let h = all_same not in
          let m : field_presence r f rows P i ≡ field_presence r f rows' P i = presence-same h in
          ap (λ b. unless_missing b f rows p) m ∙ unless-same (field_presence r f rows' P i) f rows rows' p (type-same rows rows' w.sized f.type f.scale f.size p h)
        where
          presence-same : ((j : ℕ) → p ≤ j → j < p + held f → byte_at rows j ≡ byte_at rows' j) → field_presence r f rows P i ≡ field_presence r f rows' P i
          presence-same h = ap₂ presence_of bit-same (reading-same rows rows' w.sized f.type f.size p h)

      go : (a : Bool) → field_missing r f rows P i ≡ a → (b : Bool) → field_missing r f rows' P i ≡ b →
          unless_missing (field_presence r f rows P i) f rows p ≡ unless_missing (field_presence r f rows' P i) f rows' p
      go true e true g =
          ap (λ b. unless_missing (presence_of b (reading rows)) f rows p) bit-same
          ∙ both-missing (bit_at rows' P i) (reading rows) (reading rows') f rows rows' p (sym (ap (λ b. is_missing (presence_of b (reading rows))) bit-same) ∙ e) g
      go true e false g = values_same (λ z. absurd-eq (let y = z.1 in cc))
      go false e b g = values_same (λ z. absurd-eq (let y = z.0 in cc))

-- ---- every field of every context

module _ (xs : List Context) (rows rows' : List ℕ) (w : Alike xs rows rows') where
  pub same-fields : (c : ℕ) (n : Name) → field_value xs rows c n ≡ field_value xs rows' c n
  unfolding field_value field_in P
  same-fields c n = go (index_of (λ x. eqb x.number c) xs)
    where
      by_index : (k : ℕ) (x : Context) (r : Relation) → get_elem? xs k ≡ some x → x.relation ≡ some r → (i : ℕ) → field_in r rows (record_place xs k) i ≡ field_in r rows' (record_place xs k) i
      by_index k x r ck cr i = at (format_of r i) refl
        where
          at : (g : Option Format) → format_of r i ≡ g → field_in r rows (record_place xs k) i ≡ field_in r rows' (record_place xs k) i
          at (some f) e = field-same xs rows rows' w k x r i f ck cr e
          at none e = rw (field_in, e)

      named-same : (k : ℕ) (x : Context) (r : Relation) → get_elem? xs k ≡ some x → x.relation ≡ some r → (o : Option ℕ) →
          on_found o (field_in r rows (record_place xs k)) ≡ on_found o (field_in r rows' (record_place xs k))
      named-same k x r ck cr none = refl
      named-same k x r ck cr (some i) = by_index k x r ck cr i

      related : (k : ℕ) (x : Context) → get_elem? xs k ≡ some x → (o : Option Relation) → x.relation ≡ o →
          field_named o n rows (record_place xs k) ≡ field_named o n rows' (record_place xs k)
      related k x ck none e = refl
      related k x ck (some r) e = named-same k x r ck e (field_of r n)

      placed : (k : ℕ) (y : Option Context) → get_elem? xs k ≡ y →
          field_named (y and_then λ x. x.relation) n rows (record_place xs k) ≡ field_named (y and_then λ x. x.relation) n rows' (record_place xs k)
      placed k none e = refl
      placed k (some x) e = related k x e x.relation refl

      go : (o : Option ℕ) →
          on_found o (λ k. field_named (get_elem? xs k and_then λ x. x.relation) n rows (record_place xs k)) ≡
          on_found o (λ k. field_named (get_elem? xs k and_then λ x. x.relation) n rows' (record_place xs k))
      go none = refl
      go (some k) = placed k (get_elem? xs k) refl

-- with two sets of records that differ only inside fields missing in both, every reference gives the same
pub same_references : (ms : List Message) (sc : Scope) (images rows rows' : List ℕ) → Alike sc.contexts rows rows' → (x : Reference) →
    fetch ms sc images rows x ≡ fetch ms sc images rows' x
unfolding fetch
same_references ms sc images rows rows' w (field c n) = same-fields sc.contexts rows rows' w c n
same_references ms sc images rows rows' w (parameter m i) = refl
same_references ms sc images rows rows' w (parameter2 m i flag) = refl
