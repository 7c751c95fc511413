-- The bytes of a call: each way through the code of adding, erasing and replacing, in its terms.
use Prim.Native.Nat.{ℕ, suc, ◌+◌, ◌*◌, ◌-◌, ◌/◌, ◌%◌, ◌^◌, ◌≤◌, ◌<◌}
use mathlib.Core.Path.{◌≡◌, refl, sym, ap, ap₂, ◌∙◌}
use mathlib.Core.Bool.{Bool, true, false}
use mathlib.Core.List.{List, ◌++◌}
use mathlib.Core.Option.{Option, none, some}
use native.Mathlib.Nat.{mul-le-mul_left, mul-le-mul_right, suc-mul}
use native.Mathlib.Numerals.{add-one}
use native.Mathlib.Omega.{arith}
use lib.Dec.{eqb}
use lib.ListN.{length}
use lib.Seq.{sets, sets-eq, length-sets}
use borrow.Author.Tests.{lt-ltb, le-ltb, eqb-true}
use Rattle.wire.specs.Words.{byte_at, word_bytes}
use Rattle.dictionary.proofs.Tests.{both_right}
use Rattle.records.specs.Record.{bit_at}
use Rattle.store.specs.declared.Refusal.{Refusal}
use Rattle.store.specs.declared.Refusal.TheVariants.{NoPosition, WrongRecord, NoRoom}
use Rattle.std.specs.Prelude.{Result as Answer, Ok, Err}
use Rattle.wire.specs.declared.refused.Refused.{Refused}
use Rattle.wire.specs.Options.{refused_at}
use Rattle.store.specs.declared.layout.Layout.{Layout}
use Rattle.store.specs.declared.opening.Store.{Store}
use Rattle.store.specs.Store.{bit_place}
use Rattle.store.specs.Internal.Layouts.{proper_by, lost_at, ones_at}
use Rattle.store.specs.Internal.Changes.{over, counted, bit_set_if, marked_with, written, Writes, one_by, place_of, bits_at, add_refusal, erase_refusal, replace_refusal, Changes, Fair, Ready, closed, add_bytes, erase_bytes, replace_bytes}
use Rattle.store.proofs.Bits.{bit, set-byte}

-- ---- one proper record

module _ (l : Layout) (x : List ℕ) where
  pub not-one : proper_by l x 0 ≡ false → false ≡ one_by l x
  unfolding one_by
  not-one e = rw e

  pub one-length : proper_by l x 0 ≡ true → eqb (length x) l.size ≡ one_by l x
  unfolding one_by
  one-length e = rw e

-- ---- marks

module _ (s : List ℕ) (p i : ℕ) where
  pub bit-fits : bit_at s p i ≡ false → byte_at s (p + bit_place i) < 256 → byte_at s (p + bit_place i) + 2 ^ (i % 8) < 256
  unfolding bit_at
  bit-fits e h =
      let at : p + 6 + i / 8 ≡ p + bit_place i = omega arith in
      let low : i % 8 < 8 = omega arith in
      let clear : bit (byte_at s (p + bit_place i)) (i % 8) ≡ false = ap (λ q. bit (byte_at s q) (i % 8)) (sym at) ∙ e in
      set-byte (byte_at s (p + bit_place i)) (i % 8) (i % 8) h low low clear

module _ (t x s : List ℕ) (p : ℕ) where
  pub no-marks : s ≡ marked_with t x s p 0
  unfolding marked_with
  no-marks = refl

  pub marks-next : (i : ℕ) (b : Bool) (s' : List ℕ) → s' ≡ marked_with t x s p i → b ≡ lost_at t x 0 i → bit_set_if b s' p i ≡ marked_with t x s p (i + 1)
  unfolding marked_with
  marks-next i b s' e f = rw (add-one i) (ap₂ (λ y z. bit_set_if y z p i) f e)

pub bit-inside : (l : Layout) → Fair l → (p i n : ℕ) → i < l.fields → p + l.size ≤ n → p + bit_place i < n
bit-inside l k p i n h e = omega (arith, k.bits_enough, k.bits_inside)

-- ---- the counts

over-sets : (b : List ℕ) (at : ℕ) (x : List ℕ) → at + length x ≤ length b → over b at x ≡ sets b at x
unfolding over
over-sets b at x h = sym (sets-eq x b at h)

pub counts-over : (b : List ℕ) (n m : ℕ) → 10 ≤ length b → over (over b 6 (word_bytes n)) 8 (word_bytes m) ≡ counted b n m
unfolding counted
counts-over b n m h =
    let first : over b 6 (word_bytes n) ≡ sets b 6 (word_bytes n) = over-sets b 6 (word_bytes n) (omega arith) in
    let long : length (sets b 6 (word_bytes n)) ≡ length b = length-sets b 6 (word_bytes n) in
    ap (λ z. over z 8 (word_bytes m)) first ∙ over-sets (sets b 6 (word_bytes n)) 8 (word_bytes m) (omega (arith, long)) ∙
    sym (over-sets b 6 (word_bytes n ++ word_bytes m) (omega arith))

-- ---- places

pub place-before : (s : Store) (k : ℕ) → k < s.count → place_of s k + s.layout.size ≤ place_of s s.count
place-before s k h =
    let n : ℕ = s.layout.size in
    let e : suc k * n ≤ s.count * n = mul-le-mul_right n h in
    omega (arith, e, suc-mul k n)

-- ---- what a call on an open store promises

module _ (b after : List ℕ) where
  pub is-refused : (o : Option Refusal) (x : Refusal) (r : Answer (Unit {0}) (Refused Refusal)) → r ≡ Err (refused_at x 0) → o ≡ some x → Changes o b after b r
  is-refused o x r f e = record { answer_is = rw e f; left_is = rw e }

  pub is-done : (o : Option Refusal) (b' : List ℕ) → o ≡ none → b' ≡ after → Changes o b after b' (Ok tt)
  is-done o b' e f = record { answer_is = rw e; left_is = rw e f }

module _ (s : Store) (b x : List ℕ) where
  pub add-wrong : one_by s.layout x ≡ false → add_refusal s b x ≡ some WrongRecord
  add-wrong e = rw e

  pub add-full : one_by s.layout x ≡ true → length b < place_of s s.count + length x → add_refusal s b x ≡ some NoRoom
  add-full e h = rw (e, lt-ltb (length b) (place_of s s.count + length x) h)

  pub add-fits : one_by s.layout x ≡ true → place_of s s.count + length x ≤ length b → add_refusal s b x ≡ none
  add-fits e h = rw (e, le-ltb (length b) (place_of s s.count + length x) h)

module _ (s : Store) (k : ℕ) where
  pub erase-none : s.count ≤ k → erase_refusal s k ≡ some NoPosition
  erase-none h = rw (le-ltb k s.count h)

  pub erase-there : k < s.count → erase_refusal s k ≡ none
  erase-there h = rw (lt-ltb k s.count h)

  pub replace-none : (x : List ℕ) → s.count ≤ k → replace_refusal s k x ≡ some NoPosition
  replace-none x h = rw (le-ltb k s.count h)

  pub replace-wrong : (x : List ℕ) → k < s.count → one_by s.layout x ≡ false → replace_refusal s k x ≡ some WrongRecord
  replace-wrong x h e = rw (lt-ltb k s.count h, e)

  pub replace-there : (x : List ℕ) → k < s.count → one_by s.layout x ≡ true → replace_refusal s k x ≡ none
  replace-there x h e = rw (lt-ltb k s.count h, e)

pub one-long : (l : Layout) (x : List ℕ) → one_by l x ≡ true → length x ≡ l.size
unfolding one_by
one-long l x e = eqb-true (length x) l.size (both_right (proper_by l x 0) (eqb (length x) l.size) e)

-- ---- a record written

pub is-written : (l : Layout) (t b : List ℕ) (p : ℕ) (x c w : List ℕ) {n : ℕ} → c ≡ over b p x → w ≡ marked_with t x c p l.fields →
    n ≡ ones_at w (p + 6) l.bits → n ≤ 8 * l.bits → Writes l t b p x w n
unfolding written
is-written l t b p x c w e f g h =
    let is : w ≡ marked_with t x (over b p x) p l.fields = f ∙ ap (λ z. marked_with t x z p l.fields) e in
    record { written_is = is; ones_are = g ∙ ap (λ z. ones_at z (p + 6) l.bits) is; ones_few = h }

-- ---- counts fit words

module _ (s : Store) (b : List ℕ) (k : Ready s b) where
  -- a record has six bytes at least
  pub few-records : 6 * s.count + 10 ≤ length b
  few-records =
      let n : ℕ = s.layout.size in
      let six : 6 ≤ n = omega (arith, k.fair.bits_inside) in
      let e : s.count * 6 ≤ s.count * n = mul-le-mul_left s.count six in
      omega (arith, e, k.inside)

  pub more-missing : (p n : ℕ) → p ≡ place_of s s.count → p + s.layout.size ≤ length b → n ≤ 8 * s.layout.bits → s.missing + n < 65536
  more-missing p n e h few = omega (arith, e, k.few_missing, k.fair.bits_fewer, k.short)

-- ---- what is left

module _ (s : Store) (t b x : List ℕ) where
  pub added_is : (w w' : List ℕ) (n : ℕ) → Writes s.layout t b (place_of s s.count) x w n → w' ≡ counted w (s.count + 1) (s.missing + n) →
      w' ≡ add_bytes s t b x
  unfolding add_bytes
  added_is w w' n k e = e ∙ ap₂ (λ y z. counted y (s.count + 1) (s.missing + z)) k.written_is k.ones_are

  pub replaced-is : (k : ℕ) (w w' : List ℕ) (o n : ℕ) → o ≡ bits_at s b (place_of s k) → Writes s.layout t b (place_of s k) x w n →
      w' ≡ counted w s.count (s.missing - o + n) → w' ≡ replace_bytes s t b k x
  unfolding replace_bytes
  replaced-is k w w' o n f g e =
      e ∙ ap (λ z. counted w s.count (s.missing - z + n)) f ∙
      ap₂ (λ y z. counted y s.count (s.missing - bits_at s b (place_of s k) + z)) g.written_is g.ones_are

pub erased-is : (s : Store) (b : List ℕ) (k : ℕ) (w w' : List ℕ) (o : ℕ) → o ≡ bits_at s b (place_of s k) → w ≡ closed b (place_of s k) s.layout.size →
    w' ≡ counted w (s.count - 1) (s.missing - o) → w' ≡ erase_bytes s b k
unfolding erase_bytes
erased-is s b k w w' o f g e = e ∙ ap₂ (λ y z. counted y (s.count - 1) (s.missing - z)) g f
