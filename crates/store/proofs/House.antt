-- A relation of a proper dictionary: at most 64 fields, each of at least one byte.
use Prim.Native.Nat.{ℕ, zero, suc, ◌+◌, ◌≤◌, ◌<◌}
use mathlib.Core.Path.{◌≡◌, refl, sym, ap, subst, ◌∙◌}
use mathlib.Core.Bool.{Bool, true, false, cond, not, ◌&&◌}
use mathlib.Core.List.{List, [], ◌∷◌, ◌++◌}
use mathlib.Core.Option.{Option, none, some}
use native.Mathlib.Omega.{arith}
use lib.Dec.{eqb, leb, ltb}
use lib.ListN.{length, length-append}
use borrow.Author.Tests.{eqb-true, ltb-true, leb-true}
use Rattle.wire.specs.Words.{byte_at, word_at}
use Rattle.wire.specs.Lists.{any_of, find, sum_of, same_bytes}
use Rattle.wire.specs.Classes.{Class, due, left_out, foreign, field_class}
use Rattle.wire.specs.declared.codes.Width.TheVariants.{Short, Long, Int64}
use Rattle.wire.specs.declared.codes.TextType.TheVariants.{Text, Varying, Cstring}
use Rattle.wire.specs.declared.codes.DataType.TheVariants.{Number, Date, Chars}
use Rattle.wire.specs.declared.codes.FieldType.{FieldType}
use Rattle.wire.specs.declared.codes.FieldType.TheVariants.{Plain, Reading}
use Rattle.dictionary.specs.Format.{held, type_bytes, size_in_range, fitting}
use Rattle.dictionary.specs.Dictionary.{Field, Relation, kind_at, name_at, good_name, whole_entry, relation_fits, relation_entry, field_fits, field_at, with_field, field_entry, entry, Checked, proper, at_fault, next_entry, entries, dictionary}
use Rattle.dictionary.specs.Naming.{numbered, relation_of}
use Rattle.dictionary.proofs.Tests.{both_left, both_right}
use Rattle.records.specs.Record.{field_count, missing_bytes, packed, record_length}
use Rattle.store.specs.Internal.Layouts.{layout_of}
use Rattle.store.specs.Internal.Changes.{Fair}
use Rattle.store.proofs.Records.{by_length, layout-short, layout-long}

pub record Fields (r : Relation) : Type 0 where
  pub few : field_count r ≤ 64
  pub held_all : field_count r ≤ packed r.fields

abbrev AllFields : List Relation → Type 0
AllFields [] = Unit {0}
AllFields (r ∷ rs) = Fields r × AllFields rs

-- ---- one entry

size-there : (n : ℕ) → size_in_range n ≡ true → 1 ≤ n
unfolding size_in_range
size-there n e = leb-true 1 n (both_left (leb 1 n) _ e)

type-held : (t : FieldType) (scale n : ℕ) → fitting t scale n ≡ true → 1 ≤ type_bytes t n
type-held (Plain (Number Short)) scale n e = omega arith
type-held (Plain (Number Long)) scale n e = omega arith
type-held (Plain (Number Int64)) scale n e = omega arith
type-held (Plain Date) scale n e = omega arith
type-held (Plain (Chars Text)) scale n e = size-there n (both_right (eqb scale 0) (size_in_range n) e)
type-held (Plain (Chars Varying)) scale n e = omega arith
type-held (Plain (Chars Cstring)) scale n e = size-there n (both_right (eqb scale 0) (size_in_range n) e)
type-held Reading scale n e = omega arith

packed-last : (fs : List Field) (f : Field) → packed (fs ++ (f ∷ [])) ≡ packed fs + held f.format
unfolding packed sum_of
packed-last [] f = omega arith
packed-last (g ∷ fs) f = omega (arith, packed-last fs f)

one_more : (r : Relation) (f : Field) → Fields r → length r.fields < 64 → 1 ≤ held f.format → Fields (with_field r f)
one_more r f k h l =
    record {
      few = omega (arith, length-append r.fields (f ∷ []), h);
      held_all = omega (arith, length-append r.fields (f ∷ []), packed-last r.fields f, k.held_all);
    }

-- the six tests of a field's entry
module _ (a b c x y z : Bool) (all : a && b && c && x && y && z ≡ true) where
  third : c ≡ true
  third = both_right (a && b) c (both_left (a && b && c) x (both_left (a && b && c && x) y (both_left (a && b && c && x && y) z all)))

  fifth : y ≡ true
  fifth = both_right (a && b && c && x) y (both_left (a && b && c && x && y) z all)

module _ (d : List ℕ) (p : ℕ) (t : FieldType) (r : Relation) (fits : field_fits d p t r ≡ true) where
  no_name : Bool
  no_name = not (any_of (λ f. same_bytes f.name (name_at d (p + 10))) r.fields)

  field-few : length r.fields < 64
  unfolding no_name
  field-few =
      ltb-true (length r.fields) 64
      (fifth (whole_entry d p 10) (eqb (word_at d (p + 4)) (length r.fields)) (fitting t (byte_at d (p + 7)) (word_at d (p + 8)))
      (good_name (name_at d (p + 10))) (ltb (length r.fields) 64) no_name fits)

  field_fits_lem : fitting t (byte_at d (p + 7)) (word_at d (p + 8)) ≡ true
  unfolding no_name
  field_fits_lem =
      third (whole_entry d p 10) (eqb (word_at d (p + 4)) (length r.fields)) (fitting t (byte_at d (p + 7)) (word_at d (p + 8)))
      (good_name (name_at d (p + 10))) (ltb (length r.fields) 64) no_name fits

field-more : (d : List ℕ) (p : ℕ) (t : FieldType) (r : Relation) (rs rs' : List Relation) (b : Bool) → field_fits d p t r ≡ b →
    Fields r × AllFields rs → cond b (some (with_field r (field_at d p t) ∷ rs)) none ≡ some rs' → AllFields rs'
unfolding held
field-more d p t r rs rs' true e k s =
    let same : with_field r (field_at d p t) ∷ rs ≡ rs' = cc in
    subst AllFields same
    (one_more r (field_at d p t) k.0 (field-few d p t r e) (type-held t (byte_at d (p + 7)) (word_at d (p + 8)) (field_fits_lem d p t r e)), k.1)
field-more d p t r rs rs' false e k s = absurd (let z : ◌≡◌ {A = ℕ} 0 1 = cc in omega arith)

class-more : (d : List ℕ) (p : ℕ) (c : Class FieldType) (rs rs' : List Relation) → AllFields rs → field_entry d p c rs ≡ some rs' → AllFields rs'
unfolding field_entry
class-more d p foreign [] rs' k s = absurd (let z : ◌≡◌ {A = ℕ} 0 1 = cc in omega arith)
class-more d p foreign (r ∷ rs) rs' k s = absurd (let z : ◌≡◌ {A = ℕ} 0 1 = cc in omega arith)
class-more d p left_out [] rs' k s = absurd (let z : ◌≡◌ {A = ℕ} 0 1 = cc in omega arith)
class-more d p left_out (r ∷ rs) rs' k s = absurd (let z : ◌≡◌ {A = ℕ} 0 1 = cc in omega arith)
class-more d p (due t) [] rs' k s = absurd (let z : ◌≡◌ {A = ℕ} 0 1 = cc in omega arith)
class-more d p (due t) (r ∷ rs) rs' k s = field-more d p t r rs rs' (field_fits d p t r) refl k s

relation-more : (d : List ℕ) (p : ℕ) (rs rs' : List Relation) (b : Bool) → AllFields rs →
    cond b (some (record { place = p; id = word_at d (p + 4); name = name_at d (p + 6); fields = [] } ∷ rs)) none ≡ some rs' → AllFields rs'
unfolding packed sum_of
relation-more d p rs rs' true k s =
    let same : record { place = p; id = word_at d (p + 4); name = name_at d (p + 6); fields = [] } ∷ rs ≡ rs' = cc in
    subst AllFields same (record { few = omega arith; held_all = omega arith }, k)
relation-more d p rs rs' false k s = absurd (let z : ◌≡◌ {A = ℕ} 0 1 = cc in omega arith)

kind-more : (d : List ℕ) (p : ℕ) (rs rs' : List Relation) → AllFields rs → (a b : Bool) →
    cond a (relation_entry d p rs) (cond b (field_entry d p (field_class (byte_at d (p + 6))) rs) none) ≡ some rs' → AllFields rs'
unfolding relation_entry
kind-more d p rs rs' k true b s = relation-more d p rs rs' (relation_fits d p rs) k s
kind-more d p rs rs' k false true s = class-more d p (field_class (byte_at d (p + 6))) rs rs' k s
kind-more d p rs rs' k false false s = absurd (let z : ◌≡◌ {A = ℕ} 0 1 = cc in omega arith)

entry_more : (d : List ℕ) (p : ℕ) (rs rs' : List Relation) → AllFields rs → entry d p rs ≡ some rs' → AllFields rs'
unfolding entry
entry_more d p rs rs' k s = kind-more d p rs rs' k (eqb (kind_at d p) 1) (eqb (kind_at d p) 2) s

-- ---- all entries

next_more : (d : List ℕ) (p : ℕ) (rs rs' : List Relation) (b : Bool) (x : Option (List Relation)) → entry d p rs ≡ x → (f : List Relation → Checked) → AllFields rs →
    ((r : List Relation) → AllFields r → f r ≡ proper rs' → AllFields rs') → next_entry b x p rs f ≡ proper rs' → AllFields rs'
next_more d p rs rs' false x s f k h n = let same : rs ≡ rs' = cc in subst AllFields same k
next_more d p rs rs' true none s f k h n = absurd (let z : ◌≡◌ {A = ℕ} 0 1 = cc in omega arith)
next_more d p rs rs' true (some r) s f k h n = h r (entry_more d p rs r k s) n

entries-more : (n : ℕ) (d : List ℕ) (p : ℕ) (rs rs' : List Relation) → AllFields rs → entries n d p rs ≡ proper rs' → AllFields rs'
unfolding entries
entries-more zero d p rs rs' k s = let same : rs ≡ rs' = cc in subst AllFields same k
entries-more (suc n) d p rs rs' k s =
    next_more d p rs rs' (ltb p (length d)) (entry d p rs) refl (λ r. entries n d (p + word_at d p) r) k
    (λ r k' e. entries-more n d (p + word_at d p) r rs' k' e) s

all-by : (d : List ℕ) (rs : List Relation) (b : Bool) → cond b (entries (length d) d 0 []) (at_fault 0) ≡ proper rs → AllFields rs
all-by d rs true e = entries-more (length d) d 0 [] rs tt e
all-by d rs false e = absurd (let z : ◌≡◌ {A = ℕ} 0 1 = cc in omega arith)

all-fields : (d : List ℕ) (rs : List Relation) → dictionary d ≡ proper rs → AllFields rs
unfolding dictionary
all-fields d rs e = all-by d rs (leb (length d) 65535) e

-- ---- a relation that is found

found-by : (t : Relation → Bool) (rs : List Relation) (r : Relation) → AllFields rs → find t rs ≡ some r → Fields r × (t r ≡ true)
unfolding find
found-by t [] r k e = absurd (let z : ◌≡◌ {A = ℕ} 0 1 = cc in omega arith)
found-by t (x ∷ rs) r k e = by (t x) refl (found-by t rs r k.1) e
  where
    by : (b : Bool) → t x ≡ b → (find t rs ≡ some r → Fields r × (t r ≡ true)) → cond b (some x) (find t rs) ≡ some r → Fields r × (t r ≡ true)
    by true q f s = let same : x ≡ r = cc in (subst Fields same k.0, ap t (sym same) ∙ q)
    by false q f s = f s

pub found-fields : (d : List ℕ) (rs : List Relation) → dictionary d ≡ proper rs → (i : ℕ) (r : Relation) → relation_of rs (numbered i) ≡ some r →
    Fields r × (r.id ≡ i)
unfolding relation_of
found-fields d rs e i r f =
    let k = found-by (λ x. eqb x.id i) rs r (all-fields d rs e) f in (k.0, eqb-true r.id i k.1)

length-is : (r : Relation) → record_length r ≡ 6 + missing_bytes r + packed r.fields
unfolding record_length
length-is r = refl

pub fair : (r : Relation) → Fields r → Fair (layout_of r)
unfolding layout_of
fair r k =
    by_length (record_length r) (λ h. short h) (λ h. long h)
  where
    short : record_length r ≤ 4096 → Fair (layout_of r)
    short h =
        let l = length-is r in
        rw (layout-short r h)
        (record { few = k.few; bits_enough = omega arith; bits_inside = omega (arith, l); bits_fewer = omega (arith, l, k.held_all) })

    long : 4096 < record_length r → Fair (layout_of r)
    long h = rw (layout-long r h) (record { few = k.few; bits_enough = omega arith; bits_inside = omega arith; bits_fewer = omega arith })
