-- A record with its readings of 65535 marked is a record as a store keeps it.
use Prim.Native.Nat.{ℕ, zero, suc, ◌+◌, ◌*◌, ◌-◌, ◌/◌, ◌%◌, ◌^◌, ◌≤◌, ◌<◌}
use mathlib.Core.Path.{◌≡◌, refl, sym, ap, ap₂, ◌∙◌}
use mathlib.Core.Bool.{Bool, true, false, cond, not, ◌&&◌, ◌||◌}
use mathlib.Core.List.{List}
use native.Mathlib.Omega.{arith}
use lib.Dec.{eqb, ltb}
use lib.ListN.{length, set, length-set}
use lib.Seq.{get_or-set_other, get_or-set_same}
use borrow.Author.Tests.{eq-eqb, ne_eqb, eqb-true, eqb-false, lt-ltb, le-ltb, ltb-true, ltb-false}
use Rattle.wire.specs.Words.{byte_at, word_at}
use Rattle.dictionary.specs.Dictionary.{Relation}
use Rattle.dictionary.specs.Naming.{format_of}
use Rattle.dictionary.proofs.Tests.{both_left, both_right}
use Rattle.records.specs.Record.{field_count, missing_bytes, offset_of, record_length, bit_at, bits_clear, proper_record}
use Rattle.store.specs.Store.{lost_by, lost, marked_below, bit_place, with_bit_by, with_bit, mark_if, mark_below, mark, one_record, kept}
use Rattle.store.specs.Listing.{Octets}
use Rattle.store.specs.Internal.Layouts.{Laid}
use Rattle.store.specs.Internal.Changes.{over, bit_set_by, bit_set, bit_set_if, marked_with}
use Rattle.store.proofs.Pastes.{set-over, byte-over}
use Rattle.store.proofs.Bits.{bit, bit-set, set-byte}
use Rattle.store.proofs.Records.{whole_part_lem, lost-part, long-enough, offset-there}

-- ---- one bit

same_place : (x : List ℕ) (i : ℕ) → byte_at x (0 + 6 + i / 8) ≡ byte_at x (bit_place i)
same_place x i = let e : 0 + 6 + i / 8 ≡ 6 + i / 8 = omega arith in rw e

-- field i's bit is a bit of its byte
bit-of : (x : List ℕ) (i : ℕ) → bit_at x 0 i ≡ bit (byte_at x (bit_place i)) (i % 8)
unfolding bit_at
bit-of x i = rw (same_place x i)

length-with : (x : List ℕ) (i : ℕ) (b : Bool) → length (with_bit_by b x i) ≡ length x
length-with x i true = refl
length-with x i false = length-set x (bit_place i) (byte_at x (bit_place i) + 2 ^ (i % 8))

-- another byte
other-with : (x : List ℕ) (i j : ℕ) (b : Bool) → (j ≡ bit_place i → ⊥) → byte_at (with_bit_by b x i) j ≡ byte_at x j
other-with x i j true h = refl
other-with x i j false h = get_or-set_other x (bit_place i) j (byte_at x (bit_place i) + 2 ^ (i % 8)) 0 h

same-eighth : (i j : ℕ) → i / 8 ≡ j / 8 → eqb (i % 8) (j % 8) ≡ eqb i j
same-eighth i j e = by (eqb i j) refl
  where
    by : (b : Bool) → eqb i j ≡ b → eqb (i % 8) (j % 8) ≡ b
    by true q = eq-eqb (i % 8) (j % 8) (ap (λ n. n % 8) (eqb-true i j q))
    by false q = ne_eqb (i % 8) (j % 8) (λ z. eqb-false i j q (omega (arith, e, z)))

other-eighth : (i j : ℕ) → (i / 8 ≡ j / 8 → ⊥) → eqb i j ≡ false
other-eighth i j h = ne_eqb i j (λ z. h (ap (λ n. n / 8) z))

module _ (x : List ℕ) (bytes : Octets x) (i : ℕ) (inside : bit_place i < length x) where
  set_here : (j : ℕ) → i / 8 ≡ j / 8 → bit_at x 0 i ≡ false →
      bit_at (set x (bit_place i) (byte_at x (bit_place i) + 2 ^ (i % 8))) 0 j ≡ eqb i j || bit_at x 0 j
  set_here j e clear =
      let p : bit_place j ≡ bit_place i = ap (λ n. 6 + n) (sym e) in
      let v : ℕ = byte_at x (bit_place i) in
      let c : bit v (i % 8) ≡ false = sym (bit-of x i) ∙ clear in
      bit-of (set x (bit_place i) (v + 2 ^ (i % 8))) j ∙
      rw (p, get_or-set_same x (bit_place i) (v + 2 ^ (i % 8)) 0 inside)
      (bit-set v (i % 8) (j % 8) (bytes (bit_place i)) (omega arith) (omega arith) c ∙
      ap₂ (λ a b. a || b) (same-eighth i j e) (ap (λ q. bit (byte_at x q) (j % 8)) (sym p) ∙ sym (bit-of x j)))

  bit-by : (j : ℕ) (b : Bool) → bit_at x 0 i ≡ b → (c : Bool) → eqb (i / 8) (j / 8) ≡ c → bit_at (with_bit_by b x i) 0 j ≡ eqb i j || bit_at x 0 j
  bit-by j b e true q = eighth b e
    where
      there : (d : Bool) → eqb i j ≡ d → bit_at x 0 i ≡ true → bit_at x 0 j ≡ d || bit_at x 0 j
      there true z t = ap (bit_at x 0) (sym (eqb-true i j z)) ∙ t
      there false z t = refl

      eighth : (b : Bool) → bit_at x 0 i ≡ b → bit_at (with_bit_by b x i) 0 j ≡ eqb i j || bit_at x 0 j
      eighth true t = there (eqb i j) refl t
      eighth false t = set_here j (eqb-true (i / 8) (j / 8) q) t
  bit-by j b e false q =
      let far : i / 8 ≡ j / 8 → ⊥ = eqb-false (i / 8) (j / 8) q in
      bit-of (with_bit_by b x i) j ∙
      rw (other-with x i (bit_place j) b (λ z. far (omega (arith, z))), other-eighth i j far) (sym (bit-of x j))

  -- the bits of a record with one more set
  pub with-bits : (j : ℕ) → bit_at (with_bit x i) 0 j ≡ eqb i j || bit_at x 0 j
  unfolding with_bit
  with-bits j = bit-by j (bit_at x 0 i) refl (eqb (i / 8) (j / 8)) refl

  octets-by : (b : Bool) → bit_at x 0 i ≡ b → Octets (with_bit_by b x i)
  octets-by true e q = bytes q
  octets-by false e q = by (eqb q (bit_place i)) refl
    where
      by : (c : Bool) → eqb q (bit_place i) ≡ c → byte_at (set x (bit_place i) (byte_at x (bit_place i) + 2 ^ (i % 8))) q < 256
      by true z =
          let low : i % 8 < 8 = omega arith in
          rw (eqb-true q (bit_place i) z, get_or-set_same x (bit_place i) (byte_at x (bit_place i) + 2 ^ (i % 8)) 0 inside)
          (set-byte (byte_at x (bit_place i)) (i % 8) (i % 8) (bytes (bit_place i)) low low (sym (bit-of x i) ∙ e))
      by false z =
          rw (get_or-set_other x (bit_place i) q (byte_at x (bit_place i) + 2 ^ (i % 8)) 0 (eqb-false q (bit_place i) z)) (bytes q)

  pub with-octets : Octets (with_bit x i)
  unfolding with_bit
  with-octets = octets-by (bit_at x 0 i) refl

-- ---- all marks

mark-by : (r : Relation) (y : List ℕ) (i : ℕ) (b : Bool) → length (mark_if b y i) ≡ length y
unfolding with_bit
mark-by r y i true = length-with y i (bit_at y 0 i)
mark-by r y i false = refl

pub mark-length : (r : Relation) (x : List ℕ) (n : ℕ) → length (mark_below n r x) ≡ length x
unfolding mark_below
mark-length r x zero = refl
mark-length r x (suc i) = mark-by r (mark_below i r x) i (lost r x i) ∙ mark-length r x i

-- one more field: bit j of a record whose field i was marked if it is lost
by-case : (b m l c o : Bool) → (b ≡ true → l ≡ m) → (b ≡ true → c ≡ false) → cond m (b || (c && l || o)) (c && l || o) ≡ (b || c) && l || o
by-case true true l c o f g = rw (f refl)
by-case true false l c o f g = rw (f refl, g refl)
by-case false true l c o f g = refl
by-case false false l c o f g = refl

below_next : (i j : ℕ) → eqb i j || ltb j i ≡ ltb j (suc i)
below_next i j = by (eqb i j) refl (ltb j i) refl
  where
    by : (b : Bool) → eqb i j ≡ b → (c : Bool) → ltb j i ≡ c → b || c ≡ ltb j (suc i)
    by true e c f = sym (lt-ltb j (suc i) (omega (arith, eqb-true i j e)))
    by false e true f = sym (lt-ltb j (suc i) (omega (arith, ltb-true j i f)))
    by false e false f = sym (le-ltb j (suc i) (omega (arith, eqb-false i j e, ltb-false j i f)))

module _ (r : Relation) (x : List ℕ) (bytes : Octets x) (long : length x ≡ record_length r) where
  bit-inside : (i n : ℕ) → i < field_count r → bit_place i < length (mark_below n r x)
  bit-inside i n h = omega (arith, mark-length r x n, long, long-enough r)

  octets-if : (y : List ℕ) (i : ℕ) (b : Bool) → Octets y → bit_place i < length y → Octets (mark_if b y i)
  octets-if y i true o h = with-octets y o i h
  octets-if y i false o h = o

  mark-octets : (n : ℕ) → n ≤ field_count r → Octets (mark_below n r x)
  unfolding mark_below
  mark-octets zero h = bytes
  mark-octets (suc i) h =
      octets-if (mark_below i r x) i (lost r x i) (mark-octets i (omega arith)) (bit-inside i i (omega arith))

  bits-if : (y : List ℕ) (i j : ℕ) (b : Bool) → Octets y → bit_place i < length y →
      bit_at (mark_if b y i) 0 j ≡ cond b (eqb i j || bit_at y 0 j) (bit_at y 0 j)
  bits-if y i j true o h = with-bits y o i h j
  bits-if y i j false o h = refl

  -- bit j of the record with its first n fields marked
  pub mark-bits : (n j : ℕ) → n ≤ field_count r → bit_at (mark_below n r x) 0 j ≡ ltb j n && lost r x j || bit_at x 0 j
  unfolding mark_below
  mark-bits zero j h = rw (le-ltb j 0 (omega arith))
  mark-bits (suc i) j h =
      bits-if (mark_below i r x) i j (lost r x i) (mark-octets i (omega arith)) (bit-inside i i (omega arith)) ∙
      ap (λ z. cond (lost r x i) (eqb i j || z) z) (mark-bits i j (omega arith)) ∙
      by-case (eqb i j) (lost r x i) (lost r x j) (ltb j i) (bit_at x 0 j)
      (λ e. ap (lost r x) (sym (eqb-true i j e))) (λ e. le-ltb j i (omega (arith, eqb-true i j e))) ∙
      ap (λ z. z && lost r x j || bit_at x 0 j) (below_next i j)

  byte-if : (y : List ℕ) (i q : ℕ) (b : Bool) → (q ≡ bit_place i → ⊥) → byte_at (mark_if b y i) q ≡ byte_at y q
  unfolding with_bit
  byte-if y i q true h = other-with y i q (bit_at y 0 i) h
  byte-if y i q false h = refl

  -- bytes that hold no missing bits
  mark-byte : (n q : ℕ) → n ≤ field_count r → ((i : ℕ) → i < n → q ≡ bit_place i → ⊥) → byte_at (mark_below n r x) q ≡ byte_at x q
  unfolding mark_below
  mark-byte zero q h f = refl
  mark-byte (suc i) q h f =
      byte-if (mark_below i r x) i q (lost r x i) (f i (omega arith)) ∙ mark-byte i q (omega arith) (λ j k. f j (omega arith))

  head-word : (q : ℕ) → q + 1 < 6 → word_at (mark r x) q ≡ word_at x q
  head-word q h =
      rw (
        mark-byte (field_count r) q (omega arith) (λ i k e. omega (arith, e)),
        mark-byte (field_count r) (q + 1) (omega arith) (λ i k e. omega (arith, e)),
      )

  field-word : (q : ℕ) → 6 + missing_bytes r ≤ q → word_at (mark r x) q ≡ word_at x q
  field-word q h =
      rw (
        mark-byte (field_count r) q (omega arith) (λ i k e. omega (arith, e)),
        mark-byte (field_count r) (q + 1) (omega arith) (λ i k e. omega (arith, e)),
      )

  pub mark-lost : (i : ℕ) → lost r (mark r x) i ≡ lost r x i
  unfolding lost
  mark-lost i = ap (lost_by (format_of r i)) (field-word (offset_of r i) (offset-there r i))

  spare-bits : (i n : ℕ) → field_count r ≤ i → bits_clear (mark r x) 0 i n ≡ bits_clear x 0 i n
  unfolding bits_clear
  spare-bits i zero h = refl
  spare-bits i (suc n) h =
      let e : bit_at (mark r x) 0 i ≡ bit_at x 0 i = mark-bits (field_count r) i (omega arith) ∙ rw (le-ltb i (field_count r) h) in
      rw (e, spare-bits (i + 1) n (omega arith))

  mark-proper : proper_record r (mark r x) 0 ≡ proper_record r x 0
  unfolding proper_record
  mark-proper =
      rw (
        mark-length r x (field_count r),
        head-word 0 (omega arith),
        head-word 2 (omega arith),
        head-word 4 (omega arith),
        spare-bits (field_count r) (8 * missing_bytes r - field_count r) (omega arith),
      )

  marked_by : (l o : Bool) → not l || (l || o) ≡ true
  marked_by true o = refl
  marked_by false o = refl

  mark-marked : (n : ℕ) → n ≤ field_count r → marked_below n r (mark r x) ≡ true
  unfolding marked_below
  mark-marked zero h = refl
  mark-marked (suc i) h =
      rw (
        mark-marked i (omega arith),
        mark-lost i,
        mark-bits (field_count r) i (omega arith),
        lt-ltb i (field_count r) (omega arith),
      ) (marked_by (lost r x i) (bit_at x 0 i))

pub mark-kept : (r : Relation) (x : List ℕ) → Octets x → one_record r x ≡ true → kept r (mark r x) ≡ true
unfolding kept one_record
mark-kept r x bytes e =
    let long : length x ≡ record_length r = eqb-true (length x) (record_length r) (both_right (proper_record r x 0) _ e) in
    let proper : proper_record r x 0 ≡ true = both_left _ _ e in
    rw (
      mark-proper r x bytes long,
      proper,
      mark-length r x (field_count r),
      eq-eqb (length x) (record_length r) long,
      mark-marked r x bytes long (field_count r) (omega arith),
    )

-- ---- marks in a buffer

module _ (r : Relation) (t : List ℕ) (short : record_length r ≤ 4096) (laid : Laid r t) (x : List ℕ) (long : length x ≡ record_length r) where
  set-by : (b : List ℕ) (p : ℕ) (y : List ℕ) (i : ℕ) → p + length y ≤ length b → bit_place i < length y → (l c : Bool) → bit_at y 0 i ≡ c →
      bit_at (over b p y) p i ≡ c → bit_set_by c (over b p y) p i ≡ over b p (with_bit_by c y i)
  set-by b p y i h k l true e f = refl
  set-by b p y i h k l false e f =
      rw (byte-over b p y (bit_place i) k h) (set-over b p y (bit_place i) k h (byte_at y (bit_place i) + 2 ^ (i % 8)))

  bit-over : (b : List ℕ) (p : ℕ) (y : List ℕ) (i : ℕ) → p + length y ≤ length b → bit_place i < length y → bit_at (over b p y) p i ≡ bit_at y 0 i
  unfolding bit_at
  bit-over b p y i h k =
      let e : p + 6 + i / 8 ≡ p + (6 + i / 8) = omega arith in
      rw (e, same_place y i, byte-over b p y (bit_place i) k h)

  set_if : (b : List ℕ) (p : ℕ) (y : List ℕ) (i : ℕ) → p + length y ≤ length b → bit_place i < length y → (l : Bool) →
      bit_set_if l (over b p y) p i ≡ over b p (mark_if l y i)
  unfolding bit_set with_bit
  set_if b p y i h k true = rw (bit-over b p y i h k) (set-by b p y i h k true (bit_at y 0 i) refl (bit-over b p y i h k))
  set_if b p y i h k false = refl

  -- a record copied and then marked is the marked record copied
  pub marked-over : (b : List ℕ) (p n : ℕ) → p + length x ≤ length b → n ≤ field_count r →
      marked_with t x (over b p x) p n ≡ over b p (mark_below n r x)
  unfolding marked_with mark_below
  marked-over b p zero h k = refl
  marked-over b p (suc i) h k =
      let l = mark-length r x i in
      let inside : bit_place i < length (mark_below i r x) = omega (arith, l, long, long-enough r) in
      rw (marked-over b p i h (omega arith), lost-part r t short laid (whole_part_lem x) long i (omega arith))
      (set_if b p (mark_below i r x) i (omega (arith, l)) inside (lost r x i))
