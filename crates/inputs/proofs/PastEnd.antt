-- A place past the end is the end: the bytes, numbers and values there are the same. Assumes nothing.
use Prim.Native.Nat.{ℕ, ◌+◌, ◌*◌, ◌≤◌}
use mathlib.Core.Path.{◌≡◌, refl, sym, ap, ap₂, ◌∙◌}
use mathlib.Core.Bool.{Bool, true, false, cond}
use mathlib.Core.List.{List}
use native.Mathlib.Omega.{arith}
use lib.Dec.{ltb}
use lib.IntN.{pos}
use lib.ListN.{length, get_or, take, drop, drop_of_length-le}
use lib.Seq.{get_or-drop, drop-length}
use borrow.Author.Tests.{le-ltb, ltb-false}
use Rattle.wire.specs.Words.{byte_at, word_at, long_at, int64_at, signed}
use Rattle.wire.specs.declared.codes.Width.TheVariants.{Short, Long, Int64}
use Rattle.wire.specs.declared.codes.DataType.TheVariants as Data
use Rattle.wire.specs.declared.codes.FieldType.{FieldType}
use Rattle.wire.specs.declared.codes.FieldType.TheVariants.{Plain, Reading}
use Rattle.dictionary.specs.Format.{Format, text_bytes}
use Rattle.wire.proofs.Past.{word-past}
use Rattle.meaning.specs.Data.{number, date}
use Rattle.meaning.specs.Inputs.{value, text_in, type_value, value_at}
use Rattle.inputs.specs.Answers.{clamped}

pub long-past : (s : List ℕ) (p : ℕ) → length s ≤ p → 0 ≡ long_at s p
long-past s p h =
    let a : 0 ≡ word_at s p = word-past s p h in
    let b : 0 ≡ word_at s (p + 2) = word-past s (p + 2) (omega arith) in
    ap₂ (λ (x y : ℕ). x + 65536 * y) a b

-- ---- two places with the same bytes from there on

module _ (s : List ℕ) (p q : ℕ) (e : drop p s ≡ drop q s) where
  byte-same : (j : ℕ) → byte_at s (p + j) ≡ byte_at s (q + j)
  byte-same j = sym (get_or-drop p s j 0) ∙ ap (λ z. get_or z j 0) e ∙ get_or-drop q s j 0

  word_same : (j : ℕ) → word_at s (p + j) ≡ word_at s (q + j)
  word_same j =
      let a : p + (j + 1) ≡ p + j + 1 = omega arith in
      let b : q + (j + 1) ≡ q + j + 1 = omega arith in
      ap₂ (λ x y. x + 256 * y) (byte-same j) (ap (byte_at s) (sym a) ∙ byte-same (j + 1) ∙ ap (byte_at s) b)

  long_same : (j : ℕ) → long_at s (p + j) ≡ long_at s (q + j)
  long_same j =
      let a : p + (j + 2) ≡ p + j + 2 = omega arith in
      let b : q + (j + 2) ≡ q + j + 2 = omega arith in
      ap₂ (λ x y. x + 65536 * y) (word_same j) (ap (word_at s) (sym a) ∙ word_same (j + 2) ∙ ap (word_at s) b)

  word-here : word_at s p ≡ word_at s q
  word-here =
      let a : p + 0 ≡ p = omega arith in
      let b : q + 0 ≡ q = omega arith in
      ap (word_at s) (sym a) ∙ word_same 0 ∙ ap (word_at s) b

  long-here : long_at s p ≡ long_at s q
  long-here =
      let a : p + 0 ≡ p = omega arith in
      let b : q + 0 ≡ q = omega arith in
      ap (long_at s) (sym a) ∙ long_same 0 ∙ ap (long_at s) b

  int64-here : int64_at s p ≡ int64_at s q
  int64-here = ap₂ (λ x y. x + 4294967296 * y) long-here (long_same 4)

  type-same : (t : FieldType) (scale n : ℕ) → type_value t scale n s p ≡ type_value t scale n s q
  type-same (Plain (Data.Number Short)) scale n = ap (λ z. value (number (record { value = signed 2 z; scale = signed 1 scale }))) word-here
  type-same (Plain (Data.Number Long)) scale n = ap (λ z. value (number (record { value = signed 4 z; scale = signed 1 scale }))) long-here
  type-same (Plain (Data.Number Int64)) scale n = ap (λ z. value (number (record { value = signed 8 z; scale = signed 1 scale }))) int64-here
  type-same (Plain Data.Date) scale n = ap₂ (λ x y. value (date (signed 4 x) y)) long-here (long_same 4)
  type-same (Plain (Data.Chars t)) scale n = ap (λ z. text_in (take (text_bytes t n) z) t) e
  type-same Reading scale n = ap (λ z. value (number (record { value = pos z; scale = signed 1 scale }))) word-here

  value_same : (f : Format) → value_at f s p ≡ value_at f s q
  unfolding value_at
  value_same f = type-same f.type f.scale f.size

-- ---- a place, or the end

clamped-drop : (s : List ℕ) (q : ℕ) → drop (clamped s q) s ≡ drop q s
unfolding clamped
clamped-drop s q = by (ltb q (length s)) refl
  where
    by : (b : Bool) → ltb q (length s) ≡ b → drop (cond b q (length s)) s ≡ drop q s
    by true e = refl
    by false e = drop-length s ∙ sym (drop_of_length-le s (ltb-false q (length s) e))

pub word-clamped : (s : List ℕ) (q : ℕ) → word_at s (clamped s q) ≡ word_at s q
word-clamped s q = word-here s (clamped s q) q (clamped-drop s q)

pub value-clamped : (f : Format) (s : List ℕ) (q : ℕ) → value_at f s (clamped s q) ≡ value_at f s q
value-clamped f s q = value_same s (clamped s q) q (clamped-drop s q) f

module _ (s : List ℕ) (q : ℕ) where
  pub past_end : length s ≤ q → length s ≡ clamped s q
  unfolding clamped
  past_end h = rw (le-ltb q (length s) h)

  pub up-to-end : q ≤ length s → q ≡ clamped s q
  unfolding clamped
  up-to-end h = by (ltb q (length s)) refl
    where
      by : (b : Bool) → ltb q (length s) ≡ b → q ≡ cond b q (length s)
      by true e = refl
      by false e = let l = ltb-false q (length s) e in omega arith
