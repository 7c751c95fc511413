-- A record inside a buffer and the same record alone: the same bytes, so the same tests.
use Prim.Native.Nat.{ℕ, zero, suc, ◌+◌, ◌*◌, ◌-◌, ◌/◌, ◌≤◌, ◌<◌}
use mathlib.Core.Path.{◌≡◌, refl, sym, ap, ap₂, ◌∙◌}
use mathlib.Core.Bool.{Bool, true, false, cond, not, ◌&&◌}
use mathlib.Core.List.{List, [], ◌∷◌}
use mathlib.Core.Option.{Option, none, some, map}
use native.Mathlib.Omega.{arith}
use lib.Count.{ones}
use lib.Dec.{eqb, leb, ltb}
use lib.ListN.{length, get_or, get_elem?, take, drop, length-take, length-drop}
use lib.Seq.{get_or-take, get_or-drop, drop-cons, length-take-le, drop-drop}
use borrow.Author.Tests.{lt-ltb, le-leb, lt-leb, eq-eqb, ne_eqb, leb-true, leb-false, eqb-true}
use Rattle.wire.specs.Words.{byte_at, word_at}
use Rattle.wire.specs.Lists.{all_of, sum_of}
use Rattle.wire.specs.declared.codes.FieldType.{FieldType}
use Rattle.wire.specs.declared.codes.FieldType.TheVariants.{Plain, Reading}
use Rattle.dictionary.specs.Format.{Format, held}
use Rattle.dictionary.specs.Dictionary.{Field, Relation, kind_at}
use Rattle.dictionary.specs.Naming.{format_of, field_format}
use Rattle.dictionary.proofs.Tests.{both_left, both_right}
use Rattle.records.specs.Record.{field_count, missing_bytes, packed, offset_of, record_length, bit_at, bits_clear, proper_record, reading_missing}
use Rattle.store.specs.Store.{lost_by, lost, marked_below, one_record, kept, missing_in, parts}
use Rattle.store.specs.Internal.Layouts.{size_of, layout_of, reading_place, reading_places, places_of, Laid, spare_after, proper_by, lost_at, marked_at, kept_at, ones_at, tally_next, tally}
use Rattle.store.specs.Internal.Changes.{one_by}

-- ---- bytes of a part

-- x is the bytes of s from p on, as far as x goes
pub record Part (s : List ℕ) (p : ℕ) (x : List ℕ) : Type 0 where
  pub same_bytes : (j : ℕ) → j < length x → byte_at x j ≡ byte_at s (p + j)
  pub inside : p + length x ≤ length s

pub part_of : (s : List ℕ) (p n : ℕ) → p + n ≤ length s → Part s p (take n (drop p s))
part_of s p n h =
    let l : length (take n (drop p s)) ≡ n = length-take-le n (drop p s) (omega (arith, length-drop p s)) in
    record {
      same_bytes = λ j k. get_or-take n (drop p s) j 0 (omega (arith, l)) ∙ get_or-drop p s j 0;
      inside = omega (arith, l);
    }

pub whole_part_lem : (x : List ℕ) → Part x 0 x
whole_part_lem x = record { same_bytes = λ j k. let e : 0 + j ≡ j = omega arith in rw e; inside = omega arith }

module _ {s : List ℕ} {p : ℕ} {x : List ℕ} (k : Part s p x) where
  pub same_word : (j : ℕ) → j + 1 < length x → word_at x j ≡ word_at s (p + j)
  same_word j h =
      let e : p + (j + 1) ≡ p + j + 1 = omega arith in
      rw (k.same_bytes j (omega arith), k.same_bytes (j + 1) h, e)

  pub same_bit : (i : ℕ) → 6 + i / 8 < length x → bit_at x 0 i ≡ bit_at s p i
  unfolding bit_at
  same_bit i h =
      let e : 0 + 6 + i / 8 ≡ 6 + i / 8 = omega arith in
      let f : p + (6 + i / 8) ≡ p + 6 + i / 8 = omega arith in
      rw (e, k.same_bytes (6 + i / 8) h, f)

  pub same-clear : (i n m : ℕ) → i + n ≤ 8 * m → 6 + m ≤ length x → bits_clear x 0 i n ≡ bits_clear s p i n
  unfolding bits_clear
  same-clear i zero m h l = refl
  same-clear i (suc n) m h l =
      let q : 6 + i / 8 < length x = omega arith in
      ap₂ (λ a b. not a && b) (same_bit i q) (same-clear (i + 1) n m (omega arith) l)

  pub same-ones : (i n : ℕ) → i + n ≤ length x → sum_of ones (take n (drop i x)) ≡ ones_at s (p + i) n
  unfolding ones_at sum_of
  same-ones i zero h = refl
  same-ones i (suc n) h =
      let e : suc (p + i) ≡ p + suc i = omega arith in
      let inside' : p + i < length s = omega (arith, k.inside) in
      rw (drop-cons x i 0 (omega arith), drop-cons s (p + i) 0 inside', e)
      (ap₂ (λ a b. ones a + b) (k.same_bytes i (omega arith)) (same-ones (suc i) n (omega arith)))

-- ---- a proper record

pub long-enough : (r : Relation) → 6 + missing_bytes r ≤ record_length r
unfolding record_length
long-enough r = omega arith

spare-few : (r : Relation) → field_count r + (8 * missing_bytes r - field_count r) ≤ 8 * missing_bytes r
spare-few r = omega arith

module _ (r : Relation) {s : List ℕ} {p : ℕ} {x : List ℕ} (k : Part s p x) (long : length x ≡ record_length r) where
  pub proper-part : proper_record r s p ≡ proper_record r x 0
  unfolding proper_record
  proper-part =
      let l = long-enough r in
      let a : leb (p + record_length r) (length s) ≡ true = le-leb (p + record_length r) (length s) (omega (arith, k.inside, long)) in
      let b : leb (0 + record_length r) (length x) ≡ true = le-leb (0 + record_length r) (length x) (omega (arith, long)) in
      let z : p + 0 ≡ p = omega arith in
      let w : word_at x 0 ≡ word_at s p = same_word k 0 (omega (arith, long)) ∙ ap (word_at s) z in
      let w2 : word_at x 2 ≡ word_at s (p + 2) = same_word k 2 (omega (arith, long)) in
      let w4 : word_at x 4 ≡ word_at s (p + 4) = same_word k 4 (omega (arith, long)) in
      let c = same-clear k (field_count r) (8 * missing_bytes r - field_count r) (missing_bytes r) (spare-few r) (omega (arith, long)) in
      rw (a, b, w, w2, w4, c)

-- ---- where the readings stand

abbrev place_by : Option Format → ℕ → ℕ
place_by none at = 0
place_by (some f) at = reading_place f.type at

places-get : (fs : List Field) (at i : ℕ) →
    get_or (reading_places at fs) i 0 ≡ place_by (map field_format (get_elem? fs i)) (at + packed (take i fs))
unfolding reading_places packed sum_of
places-get [] at i = refl
places-get (f ∷ fs) at zero = let e : at + 0 ≡ at = omega arith in rw e
places-get (f ∷ fs) at (suc i) =
    let e : at + held f.format + packed (take i fs) ≡ at + (held f.format + packed (take i fs)) = omega arith in
    places-get fs (at + held f.format) i ∙ ap (place_by (map field_format (get_elem? fs i))) e

place_is : (r : Relation) (i : ℕ) → get_or (places_of r) i 0 ≡ place_by (format_of r i) (offset_of r i)
unfolding places_of format_of offset_of
place_is r i = places-get r.fields (6 + missing_bytes r) i

-- a field's bytes are inside its record
field-inside : (fs : List Field) (i : ℕ) (f : Format) → map field_format (get_elem? fs i) ≡ some f → packed (take i fs) + held f ≤ packed fs
unfolding packed sum_of
field-inside [] i f e = absurd (let z : ◌≡◌ {A = ℕ} 0 1 = cc in omega arith)
field-inside (g ∷ fs) zero f e = let same : g.format ≡ f = cc in omega (arith, ap held same)
field-inside (g ∷ fs) (suc i) f e = omega (arith, field-inside fs i f e)

pub reading-inside : (r : Relation) (i : ℕ) (f : Format) → format_of r i ≡ some f → f.type ≡ Reading → offset_of r i + 2 ≤ record_length r
unfolding format_of offset_of record_length held
reading-inside r i f e t =
    let two : held f ≡ 2 = rw t in
    omega (arith, field-inside r.fields i f e, two)

pub offset-there : (r : Relation) (i : ℕ) → 6 + missing_bytes r ≤ offset_of r i
unfolding offset_of
offset-there r i = omega arith

plain-lost : (t : FieldType) (at p w : ℕ) (s : List ℕ) → 0 < at → (t ≡ Reading → w ≡ word_at s (p + at)) →
    ltb 0 (reading_place t at) && eqb (word_at s (p + reading_place t at)) 65535 ≡ reading_missing t w
plain-lost (Plain t) at p w s h e = refl
plain-lost Reading at p w s h e = rw (lt-ltb 0 at h, e refl)

lost-by : (o : Option Format) (at p w : ℕ) (s : List ℕ) → 0 < at → ((f : Format) → o ≡ some f → f.type ≡ Reading → w ≡ word_at s (p + at)) →
    ltb 0 (place_by o at) && eqb (word_at s (p + place_by o at)) 65535 ≡ lost_by o w
lost-by none at p w s h e = refl
lost-by (some f) at p w s h e = plain-lost f.type at p w s h (e f refl)

module _ (r : Relation) (t : List ℕ) (short : record_length r ≤ 4096) (laid : Laid r t) {s : List ℕ} {p : ℕ} {x : List ℕ} (k : Part s p x) (long : length x ≡ record_length r) where
  pub lost-part : (i : ℕ) → i < field_count r → lost_at t s p i ≡ lost r x i
  unfolding lost_at lost
  lost-part i h =
      rw (laid short i h, place_is r i)
      (lost-by (format_of r i) (offset_of r i) p (word_at x (offset_of r i)) s (omega (arith, offset-there r i))
      (λ f e q. same_word k (offset_of r i) (omega (arith, reading-inside r i f e q, long))))

  pub bit-part : (i : ℕ) → i < field_count r → bit_at s p i ≡ bit_at x 0 i
  bit-part i h = sym (same_bit k i (omega (arith, long-enough r, long)))

  marked-part : (n : ℕ) → n ≤ field_count r → marked_at t s p n ≡ marked_below n r x
  unfolding marked_at marked_below
  marked-part zero h = refl
  marked-part (suc i) h = rw (marked-part i (omega arith), lost-part i (omega arith), bit-part i (omega arith))

-- ---- by the layout

pub layout-short : (r : Relation) → record_length r ≤ 4096 → size_of r ≡ record_length r
layout-short r h = rw (le-leb (record_length r) 4096 h)

pub layout-long : (r : Relation) → 4096 < record_length r → size_of r ≡ 4097
layout-long r h = rw (lt-leb (record_length r) 4096 h)

module _ (r : Relation) (s : List ℕ) (p : ℕ) where
  short-proper : record_length r ≤ 4096 → proper_by (layout_of r) s p ≡ proper_record r s p
  unfolding proper_by spare_after layout_of proper_record
  short-proper h = rw (layout-short r h)

  long-proper : 4096 < record_length r → proper_by (layout_of r) s p ≡ false
  unfolding proper_by layout_of
  long-proper h = rw (layout-long r h)

  too_long : 4096 < record_length r → proper_record r s p ≡ false
  unfolding proper_record
  too_long h = rw (lt-leb (record_length r) 4096 h)

pub proper-short : (r : Relation) (s : List ℕ) (p : ℕ) → proper_record r s p ≡ true → record_length r ≤ 4096
unfolding proper_record
proper-short r s p e =
    leb-true (record_length r) 4096 (both_left _ _ (both_left _ _ (both_left _ _ (both_left _ _ (both_left _ _ e)))))

pub by_length : {A : Type 0} (n : ℕ) → (n ≤ 4096 → A) → (4096 < n → A) → A
by_length {A} n f g = by (leb n 4096) refl
  where
    by : (b : Bool) → leb n 4096 ≡ b → A
    by true e = f (leb-true n 4096 e)
    by false e = g (leb-false n 4096 e)

pub one-by : (r : Relation) (x : List ℕ) → one_by (layout_of r) x ≡ one_record r x
unfolding one_by one_record layout_of
one-by r x =
    by_length (record_length r) (λ h. rw (short-proper r x 0 h, layout-short r h)) (λ h. rw (long-proper r x 0 h, too_long r x 0 h))

-- ---- a record as a store keeps it, in a buffer

pub not-cut : (r : Relation) (x : List ℕ) → length x < record_length r → kept r x ≡ false
unfolding kept one_record
not-cut r x h =
    let e : eqb (length x) (record_length r) ≡ false = ne_eqb (length x) (record_length r) (λ q. omega (arith, q)) in
    rw e (by (proper_record r x 0) (marked_below (field_count r) r x))
  where
    by : (a b : Bool) → a && false && b ≡ false
    by true b = refl
    by false b = refl

cut_at : (r : Relation) (s : List ℕ) (p : ℕ) → length s < p + record_length r → proper_record r s p ≡ false
unfolding proper_record
cut_at r s p h =
    let e : leb (p + record_length r) (length s) ≡ false = lt-leb (p + record_length r) (length s) h in
    rw e (by (leb (record_length r) 4096))
  where
    by : (a : Bool) → a && false && eqb (word_at s p) (record_length r) && eqb (kind_at s p) 3 && eqb (word_at s (p + 4)) r.id && bits_clear s p (field_count r) (8 * missing_bytes r - field_count r) ≡ false
    by true = refl
    by false = refl

module _ (r : Relation) (t : List ℕ) (laid : Laid r t) (s : List ℕ) (p : ℕ) where
  here : List ℕ
  here = take (record_length r) (drop p s)

  whole_here : record_length r ≤ 4096 → p + record_length r ≤ length s → kept_at (layout_of r) t s p ≡ kept r here
  unfolding kept_at kept one_record here layout_of
  whole_here h w =
      let k = part_of s p (record_length r) w in
      let l : length (take (record_length r) (drop p s)) ≡ record_length r = length-take-le (record_length r) (drop p s) (omega (arith, length-drop p s)) in
      let e : eqb (length (take (record_length r) (drop p s))) (record_length r) ≡ true = eq-eqb (length (take (record_length r) (drop p s))) (record_length r) l in
      rw (short-proper r s p h, proper-part r k l, marked-part r t h laid k l (field_count r) (omega arith), e)
      (by (proper_record r (take (record_length r) (drop p s)) 0))
    where
      by : (a : Bool) → a && marked_below (field_count r) r (take (record_length r) (drop p s)) ≡ a && true && marked_below (field_count r) r (take (record_length r) (drop p s))
      by true = refl
      by false = refl

  cut-here : length s < p + record_length r → kept_at (layout_of r) t s p ≡ kept r here
  unfolding kept_at here
  cut-here w =
      let n : ℕ = length (drop p s) in
      let few : length (take (record_length r) (drop p s)) < record_length r =
      omega (arith, length-take (record_length r) (drop p s), length-drop p s, long-enough r) in
      let e : proper_by (layout_of r) s p ≡ false =
      by_length (record_length r) (λ h. short-proper r s p h ∙ cut_at r s p w) (λ h. long-proper r s p h) in
      rw (e, not-cut r (take (record_length r) (drop p s)) few)

  long-here : 4096 < record_length r → kept_at (layout_of r) t s p ≡ kept r here
  unfolding kept_at here kept one_record
  long-here h = rw (long-proper r s p h, too_long r (take (record_length r) (drop p s)) 0 h)

  pub kept_here : kept_at (layout_of r) t s p ≡ kept r (take (record_length r) (drop p s))
  unfolding here
  kept_here = by_length (record_length r) (λ h. by (leb (p + record_length r) (length s)) refl h) (λ h. long-here h)
    where
      by : (b : Bool) → leb (p + record_length r) (length s) ≡ b → record_length r ≤ 4096 → kept_at (layout_of r) t s p ≡ kept r (take (record_length r) (drop p s))
      by true e h = whole_here h (leb-true (p + record_length r) (length s) e)
      by false e h = cut-here (leb-false (p + record_length r) (length s) e)

-- what a kept record tells
module _ (r : Relation) (x : List ℕ) (good : kept r x ≡ true) where
  pub kept-long : length x ≡ record_length r
  unfolding kept one_record
  kept-long = eqb-true (length x) (record_length r) (both_right (proper_record r x 0) _ (both_left _ _ good))

  pub kept-proper : proper_record r x 0 ≡ true
  unfolding kept one_record
  kept-proper = both_left _ _ (both_left _ _ good)

  pub kept-short : record_length r ≤ 4096
  kept-short = proper-short r x 0 kept-proper

-- ---- the records of a buffer

abbrev pub tallied : Relation → List (List ℕ) → Option ℕ
tallied r l = cond (all_of (kept r) l) (some (sum_of (missing_in r) l)) none

ones-here : (r : Relation) (s : List ℕ) (p : ℕ) → kept r (take (record_length r) (drop p s)) ≡ true →
    ones_at s (p + 6) (missing_bytes r) ≡ missing_in r (take (record_length r) (drop p s))
unfolding missing_in
ones-here r s p e =
    let l = kept-long r (take (record_length r) (drop p s)) e in
    let w : p + record_length r ≤ length s = omega (arith, l, length-take (record_length r) (drop p s), length-drop p s, long-enough r) in
    sym (same-ones (part_of s p (record_length r) w) 6 (missing_bytes r) (omega (arith, l, long-enough r)))

some-sum : (r : Relation) (m : ℕ) (l : List (List ℕ)) (b : Bool) →
    map (λ k. m + k) (cond b (some (sum_of (missing_in r) l)) none) ≡ cond b (some (m + sum_of (missing_in r) l)) none
some-sum r m l true = refl
some-sum r m l false = refl

module _ (r : Relation) (t : List ℕ) (laid : Laid r t) (s : List ℕ) where
  tally-by : (n p : ℕ) (b : Bool) → kept r (take (record_length r) (drop p s)) ≡ b →
      (b ≡ true → tally (layout_of r) t s n (p + size_of r) ≡ tallied r (parts (record_length r) n (drop (p + record_length r) s))) →
      tally_next b (ones_at s (p + 6) (missing_bytes r)) (tally (layout_of r) t s n (p + size_of r)) ≡
      cond (b && all_of (kept r) (parts (record_length r) n (drop (p + record_length r) s)))
      (some (missing_in r (take (record_length r) (drop p s)) + sum_of (missing_in r) (parts (record_length r) n (drop (p + record_length r) s)))) none
  tally-by n p false e f = refl
  tally-by n p true e f =
      rw (f refl, ones-here r s p e)
      (some-sum r (missing_in r (take (record_length r) (drop p s))) (parts (record_length r) n (drop (p + record_length r) s))
      (all_of (kept r) (parts (record_length r) n (drop (p + record_length r) s))))

  pub tally-is : (n p : ℕ) → tally (layout_of r) t s n p ≡ tallied r (parts (record_length r) n (drop p s))
  unfolding tally parts all_of sum_of layout_of
  tally-is zero p = refl
  tally-is (suc n) p =
      rw (kept_here r t laid s p, drop-drop (record_length r) p s)
      (tally-by n p (kept r (take (record_length r) (drop p s))) refl
      (λ e. ap (λ z. tally (layout_of r) t s n (p + z)) (layout-short r (kept-short r (take (record_length r) (drop p s)) e)) ∙
      tally-is n (p + record_length r)))
