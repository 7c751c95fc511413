-- Two sets of records that are alike: each joined of two, they are alike exactly if their parts are.
use Prim.Native.Nat.{ℕ, zero, suc, ◌+◌, ◌*◌, ◌-◌, ◌/◌, ◌%◌, ◌^◌, ◌<◌, ◌≤◌}
use mathlib.Core.Path.{◌≡◌, refl, sym, ap, ap₂, subst, ◌∙◌}
use mathlib.Core.Logic.{◌⊎◌, inl, inr, ⊎_elim}
use mathlib.Core.Bool.{Bool, true, false}
use mathlib.Core.List.{List, [], ◌∷◌, ◌++◌, map}
use mathlib.Core.Option.{some}
use native.Mathlib.Omega.{arith}
use lib.Dec.{eqb, ltb}
use lib.ListN.{length, get_elem?, length-append, get_or-append, get_or-eq_default}
use lib.Seq.{get_or-append-add}
use borrow.Author.Tests.{ltb-true, ltb-false}
use Rattle.wire.specs.Words.{byte_at, word_at}
use Rattle.wire.specs.declared.codes.FieldType.{FieldType}
use Rattle.wire.specs.declared.codes.FieldType.TheVariants.{Plain, Reading}
use Rattle.dictionary.specs.Format.{Format, held, type_bytes}
use Rattle.dictionary.specs.Dictionary.{Relation}
use Rattle.dictionary.specs.Naming.{format_of}
use Rattle.records.specs.Record.{offset_of, record_length, bit_at, field_place, reading_missing, field_missing, presence_of, field_presence, is_missing}
use Rattle.grammar.proofs.StepLaws.{absurd-eq}
use Rattle.meaning.specs.Demand.{Placed, InsideMissing, Alike}
use Rattle.walking.proofs.Sites.{All}
use Rattle.walking.proofs.Blind.{in-record, few, after-bits}

-- ---- members of a list

abbrev pub There : {A : Type 0} → A → List A → Type 0
There y l = (k : ℕ) × (get_elem? l k ≡ some y)

module _ {A : Type 0} where
  there-later : (y x : A) (l : List A) → There y l → There y (x ∷ l)
  there-later y x l h = (suc h.0, h.1)

  pub there-either : (y : A) (l m : List A) → There y (l ++ m) → There y l ⊎ There y m
  there-either y [] m h = inr h
  there-either y (x ∷ l) m (zero, e) = inl (zero, e)
  there-either y (x ∷ l) m (suc k, e) = ⊎_elim (λ i. inl (there-later y x l i)) (λ i. inr i) (there-either y l m (k, e))

  pub there-first : (y : A) (l m : List A) → There y l → There y (l ++ m)
  there-first y [] m h = absurd-eq (let e = h.1 in cc)
  there-first y (x ∷ l) m (zero, e) = (zero, e)
  there-first y (x ∷ l) m (suc k, e) = there-later y x (l ++ m) (there-first y l m (k, e))

  pub there-second : (y : A) (l m : List A) → There y m → There y (l ++ m)
  there-second y [] m h = h
  there-second y (x ∷ l) m h = there-later y x (l ++ m) (there-second y l m h)

  pub there-of : (f : A → A) (y : A) (l : List A) → There y (map f l) → (z : A) × There z l × (f z ≡ y)
  there-of f y [] h = absurd-eq (let e = h.1 in cc)
  there-of f y (x ∷ l) (zero, e) = (x, (zero, refl), cc)
  there-of f y (x ∷ l) (suc k, e) = let i = there-of f y l (k, e) in (i.0, there-later i.0 x l i.1, i.2)

  pub there-map : (f : A → A) (y : A) (l : List A) → There y l → There (f y) (map f l)
  there-map f y [] h = absurd-eq (let e = h.1 in cc)
  there-map f y (x ∷ l) (zero, e) = let z : x ≡ y = cc in (zero, ap (λ w. some (f w)) z)
  there-map f y (x ∷ l) (suc k, e) = there-later (f y) (f x) (map f l) (there-map f y l (k, e))

  pub there-all : (P : A → Type 0) (y : A) (l : List A) → All P l → There y l → P y
  there-all P y [] a h = absurd-eq (let e = h.1 in cc)
  there-all P y (x ∷ l) a (zero, e) = let z : x ≡ y = cc in subst P z a.0
  there-all P y (x ∷ l) a (suc k, e) = there-all P y l a.1 (k, e)

-- ---- a record, and the same record elsewhere

-- place j lies inside a field, of this record, that is missing in both sets
record Inside (y : Placed) (rows rows' : List ℕ) (j : ℕ) : Type 0 where
  i : ℕ
  f : Format
  format_is : format_of y.relation i ≡ some f
  from : field_place y.relation y.place i ≤ j
  before : j < field_place y.relation y.place i + held f
  missing : field_missing y.relation f rows y.place i ≡ true
  missing' : field_missing y.relation f rows' y.place i ≡ true

inside_of : (ys : List Placed) (rows rows' : List ℕ) (j : ℕ) → InsideMissing ys rows rows' j → (y : Placed) × There y ys × Inside y rows rows' j
inside_of ys rows rows' j z = (
  z.y,
  (z.k, z.placed_is),
  record { i = z.i; f = z.f; format_is = z.format_is; from = z.from; before = z.before; missing = z.missing; missing' = z.missing' },
)

of-inside : (ys : List Placed) (rows rows' : List ℕ) (j : ℕ) (y : Placed) → There y ys → Inside y rows rows' j → InsideMissing ys rows rows' j
of-inside ys rows rows' j y h z =
    record {
      k = h.0;
      i = z.i;
      y = y;
      f = z.f;
      placed_is = h.1;
      format_is = z.format_is;
      from = z.from;
      before = z.before;
      missing = z.missing;
      missing' = z.missing';
    }

-- such a place lies in the record
lies : (y : Placed) (rows rows' : List ℕ) (j : ℕ) → Inside y rows rows' j → (y.place ≤ j) × (j < y.place + record_length y.relation)
lies y rows rows' j z =
    let a = z.from in
    let b = z.before in
    let c = in-record y.relation z.i z.f z.format_is in
    (omega (arith, a), omega (arith, b, c))

-- the same record in two other sets, where the same fields are missing
elsewhere : (y x : Placed) (rows rows' rest rest' : List ℕ) (j m : ℕ) → y.relation ≡ x.relation → y.place + m ≡ x.place + j →
    ((i : ℕ) (f : Format) → format_of y.relation i ≡ some f → field_missing y.relation f rows y.place i ≡ field_missing x.relation f rest x.place i) →
    ((i : ℕ) (f : Format) → format_of y.relation i ≡ some f → field_missing y.relation f rows' y.place i ≡ field_missing x.relation f rest' x.place i) →
    Inside y rows rows' j → Inside x rest rest' m
elsewhere y x rows rows' rest rest' j m r o h h' z =
    let a = z.from in
    let b = z.before in
    let c = ap (λ (q : Relation). offset_of q z.i) r in
    record {
      i = z.i;
      f = z.f;
      format_is = sym (ap (λ q. format_of q z.i) r) ∙ z.format_is;
      from = omega (arith, a, c, o);
      before = omega (arith, b, c, o);
      missing = sym (h z.i z.f z.format_is) ∙ z.missing;
      missing' = sym (h' z.i z.f z.format_is) ∙ z.missing';
    }

word_moved : (s t : List ℕ) (p q n : ℕ) → ((j : ℕ) → j < n → byte_at s (p + j) ≡ byte_at t (q + j)) → (o : ℕ) → o + 1 < n → word_at s (p + o) ≡ word_at t (q + o)
word_moved s t p q n h o b =
    let a : p + (o + 1) ≡ p + o + 1 = omega arith in
    let c : q + (o + 1) ≡ q + o + 1 = omega arith in
    ap₂ (λ x y. x + 256 * y) (h o (omega arith)) (sym (ap (byte_at s) a) ∙ h (o + 1) b ∙ ap (byte_at t) c)

-- a record at p in one list and at q in another: each field is missing in both or in none
module _ (r : Relation) (s t : List ℕ) (p q : ℕ) (same : (j : ℕ) → j < record_length r → byte_at s (p + j) ≡ byte_at t (q + j)) where
  reading-moved : (k : FieldType) (n o : ℕ) → o + type_bytes k n ≤ record_length r → reading_missing k (word_at s (p + o)) ≡ reading_missing k (word_at t (q + o))
  reading-moved (Plain k) n o h = refl
  reading-moved Reading n o h = ap (reading_missing Reading) (word_moved s t p q (record_length r) same o (omega arith))

  missing-moved : (i : ℕ) (f : Format) → format_of r i ≡ some f → field_missing r f s p i ≡ field_missing r f t q i
  unfolding field_missing field_presence bit_at held
  missing-moved i f e =
      let l = in-record r i f e in
      let a : p + (6 + i / 8) ≡ p + 6 + i / 8 = omega arith in
      let c : q + (6 + i / 8) ≡ q + 6 + i / 8 = omega arith in
      let b = same (6 + i / 8) (omega (arith, l, few r i f e, after-bits r i)) in
      ap₂ (λ x y. is_missing (presence_of (eqb (x / 2 ^ (i % 8) % 2) 1) y)) (sym (ap (byte_at s) a) ∙ b ∙ ap (byte_at t) c) (reading-moved f.type f.size (offset_of r i) l)

-- ---- at a seam

-- a record so many places on
abbrev pub moved : ℕ → Placed → Placed
moved n y = record { relation = y.relation; place = n + y.place }

-- a record ends at n or before
abbrev pub Ends : ℕ → Placed → Type 0
Ends n y = y.place + record_length y.relation ≤ n

module _ (n : ℕ) where
  first_byte : (a b : List ℕ) (j : ℕ) → length a ≡ n → j < n → byte_at (a ++ b) j ≡ byte_at a j
  first_byte a b j h l = get_or-append a b 0 j (omega (arith, h))

  second-byte : (a b : List ℕ) (j : ℕ) → length a ≡ n → byte_at (a ++ b) (n + j) ≡ byte_at b j
  second-byte a b j h = ap (λ m. byte_at (a ++ b) (m + j)) (sym h) ∙ get_or-append-add a b j 0

  first-missing : (a b : List ℕ) (y : Placed) (i : ℕ) (f : Format) → length a ≡ n → Ends n y → format_of y.relation i ≡ some f →
      field_missing y.relation f (a ++ b) y.place i ≡ field_missing y.relation f a y.place i
  first-missing a b y i f h l e =
      missing-moved y.relation (a ++ b) a y.place y.place (λ j k. first_byte a b (y.place + j) h (omega (arith, l))) i f e

  second-missing : (a b : List ℕ) (y : Placed) (i : ℕ) (f : Format) → length a ≡ n → format_of y.relation i ≡ some f →
      field_missing y.relation f (a ++ b) (n + y.place) i ≡ field_missing y.relation f b y.place i
  second-missing a b y i f h e =
      missing-moved y.relation (a ++ b) b (n + y.place) y.place
      (λ j k. let o : n + y.place + j ≡ n + (y.place + j) = omega arith in ap (byte_at (a ++ b)) o ∙ second-byte a b (y.place + j) h) i f e

module _ (n : ℕ) (e e' t t' : List ℕ) (long : length e ≡ n) (long' : length e' ≡ n) where
  first-in : (y : Placed) (j : ℕ) → Ends n y → Inside y (e ++ t) (e' ++ t') j → Inside y e e' j
  first-in y j l z =
      elsewhere y y (e ++ t) (e' ++ t') e e' j j refl refl (λ i f h. first-missing n e t y i f long l h) (λ i f h. first-missing n e' t' y i f long' l h) z

  first_out : (y : Placed) (j : ℕ) → Ends n y → Inside y e e' j → Inside y (e ++ t) (e' ++ t') j
  first_out y j l z =
      elsewhere y y e e' (e ++ t) (e' ++ t') j j refl refl (λ i f h. sym (first-missing n e t y i f long l h))
      (λ i f h. sym (first-missing n e' t' y i f long' l h)) z

  second-in : (y : Placed) (j : ℕ) → Inside (moved n y) (e ++ t) (e' ++ t') (n + j) → Inside y t t' j
  second-in y j z =
      elsewhere (moved n y) y (e ++ t) (e' ++ t') t t' (n + j) j refl (omega arith) (λ i f h. second-missing n e t y i f long h)
      (λ i f h. second-missing n e' t' y i f long' h) z

  second-out : (y : Placed) (j : ℕ) → Inside y t t' j → Inside (moved n y) (e ++ t) (e' ++ t') (n + j)
  second-out y j z =
      elsewhere y (moved n y) t t' (e ++ t) (e' ++ t') j (n + j) refl (omega arith) (λ i f h. sym (second-missing n e t y i f long h))
      (λ i f h. sym (second-missing n e' t' y i f long' h)) z

  module _ (ys zs : List Placed) (ends : All (Ends n) ys) where
    abbrev Whole : List Placed
    Whole = ys ++ map (moved n) zs

    -- ---- the parts of sets that are alike

    in-first : (j : ℕ) → j < n → InsideMissing Whole (e ++ t) (e' ++ t') j → InsideMissing ys e e' j
    in-first j b w =
        let i = inside_of Whole (e ++ t) (e' ++ t') j w in
        ⊎_elim (λ h. of-inside ys e e' j i.0 h (first-in i.0 j (there-all (Ends n) i.0 ys ends h) i.2)) (λ h. absurd (far i.0 h i.2))
        (there-either i.0 ys (map (moved n) zs) i.1)
      where
        far : (y : Placed) → There y (map (moved n) zs) → Inside y (e ++ t) (e' ++ t') j → ⊥
        far y h z =
            let o = there-of (moved n) y zs h in
            let p = ap (λ (x : Placed). x.place) o.2 in
            let a = (lies y (e ++ t) (e' ++ t') j z).0 in
            omega (arith, p, a, b)

    in-second : (j : ℕ) → InsideMissing Whole (e ++ t) (e' ++ t') (n + j) → InsideMissing zs t t' j
    in-second j w =
        let i = inside_of Whole (e ++ t) (e' ++ t') (n + j) w in
        ⊎_elim (λ h. absurd (near i.0 h i.2)) (λ h. found i.0 h i.2) (there-either i.0 ys (map (moved n) zs) i.1)
      where
        near : (y : Placed) → There y ys → Inside y (e ++ t) (e' ++ t') (n + j) → ⊥
        near y h z =
            let l = there-all (Ends n) y ys ends h in
            let a = (lies y (e ++ t) (e' ++ t') (n + j) z).1 in
            omega (arith, l, a)

        found : (y : Placed) → There y (map (moved n) zs) → Inside y (e ++ t) (e' ++ t') (n + j) → InsideMissing zs t t' j
        found y h z =
            let o = there-of (moved n) y zs h in
            of-inside zs t t' j o.0 o.1 (second-in o.0 j (subst (λ x. Inside x (e ++ t) (e' ++ t') (n + j)) (sym o.2) z))

    pub split-first : Alike Whole (e ++ t) (e' ++ t') → Alike ys e e'
    split-first w = record { sized = long ∙ sym long'; differ_only = λ j. by j (ltb j n) refl }
      where
        by : (j : ℕ) (b : Bool) → ltb j n ≡ b → (byte_at e j ≡ byte_at e' j) ⊎ InsideMissing ys e e' j
        by j true h =
            let l = ltb-true j n h in
            ⊎_elim (λ x. inl (sym (first_byte n e t j long l) ∙ x ∙ first_byte n e' t' j long' l)) (λ z. inr (in-first j l z)) (w.differ_only j)
        by j false h =
            let l = ltb-false j n h in
            inl (get_or-eq_default e 0 (omega (arith, l, long)) ∙ sym (get_or-eq_default e' 0 (omega (arith, l, long'))))

    pub split-second : Alike Whole (e ++ t) (e' ++ t') → Alike zs t t'
    split-second w =
        record {
          sized = omega (arith, w.sized, length-append e t, length-append e' t', long, long');
          differ_only = λ j.
              ⊎_elim (λ x. inl (sym (second-byte n e t j long) ∙ x ∙ second-byte n e' t' j long')) (λ z. inr (in-second j z)) (w.differ_only (n + j));
        }

    -- ---- and the other way

    pub joined-alike : Alike ys e e' → Alike zs t t' → Alike Whole (e ++ t) (e' ++ t')
    joined-alike w v =
        record {
          sized = omega (arith, w.sized, v.sized, length-append e t, length-append e' t');
          differ_only = λ j. by j (ltb j n) refl;
        }
      where
        out_first : (j : ℕ) → InsideMissing ys e e' j → InsideMissing Whole (e ++ t) (e' ++ t') j
        out_first j z =
            let i = inside_of ys e e' j z in
            of-inside Whole (e ++ t) (e' ++ t') j i.0 (there-first i.0 ys (map (moved n) zs) i.1) (first_out i.0 j (there-all (Ends n) i.0 ys ends i.1) i.2)

        out-second : (j : ℕ) → InsideMissing zs t t' j → InsideMissing Whole (e ++ t) (e' ++ t') (n + j)
        out-second j z =
            let i = inside_of zs t t' j z in
            of-inside Whole (e ++ t) (e' ++ t') (n + j) (moved n i.0)
            (there-second (moved n i.0) ys (map (moved n) zs) (there-map (moved n) i.0 zs i.1)) (second-out i.0 j i.2)

        later : (j : ℕ) → (byte_at (e ++ t) (n + j) ≡ byte_at (e' ++ t') (n + j)) ⊎ InsideMissing Whole (e ++ t) (e' ++ t') (n + j)
        later j = ⊎_elim (λ x. inl (second-byte n e t j long ∙ x ∙ sym (second-byte n e' t' j long'))) (λ z. inr (out-second j z)) (v.differ_only j)

        by : (j : ℕ) (b : Bool) → ltb j n ≡ b → (byte_at (e ++ t) j ≡ byte_at (e' ++ t') j) ⊎ InsideMissing Whole (e ++ t) (e' ++ t') j
        by j true h =
            let l = ltb-true j n h in
            ⊎_elim (λ x. inl (first_byte n e t j long l ∙ x ∙ sym (first_byte n e' t' j long' l))) (λ z. inr (out_first j z)) (w.differ_only j)
        by j false h =
            let l = ltb-false j n h in
            let o : n + (j - n) ≡ j = omega arith in
            subst (λ m. (byte_at (e ++ t) m ≡ byte_at (e' ++ t') m) ⊎ InsideMissing Whole (e ++ t) (e' ++ t') m) o (later (j - n))
