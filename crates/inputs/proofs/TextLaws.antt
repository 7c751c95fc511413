-- The bytes that hold a text, what of them the slice has, and the text in them. Assumes nothing.
use Prim.Native.Nat.{ℕ, ◌+◌, ◌-◌, ◌≤◌}
use mathlib.Core.Path.{◌≡◌, refl, sym, ap, ◌∙◌}
use mathlib.Core.List.{List}
use native.Mathlib.Omega.{arith}
use lib.ListN.{length, take, drop, length-drop, drop_of_length-le}
use lib.Seq.{take_all, take-nil, drop-length}
use Rattle.wire.specs.declared.codes.TextType.{TextType}
use Rattle.wire.specs.declared.codes.TextType.TheVariants.{Text}
use Rattle.std.specs.Prelude.{Some, None}
use Rattle.text.specs.Value.{text_part, kept, bytes_of}
use Rattle.grammar.specs.Tree as Tree
use Rattle.meaning.specs.Data.{text}
use Rattle.meaning.specs.Inputs.{value, malformed, literal_value}
use Rattle.meaning.specs.Inputs as Inputs
use Rattle.meaning.specs.declared.Source.{Source}
use Rattle.values.specs.declared.Held.{Held}
use Rattle.values.specs.Values.{Lent, source_in, held_in, text_in}
use Rattle.inputs.specs.Answers.{Holds}

-- ---- so many bytes at a place, as far as the slice has them

module _ (source : Source) (t : TextType) (n : ℕ) (s : List ℕ) (p : ℕ) where
  pub held-past : length s ≤ p → Holds source t n s p (record { source = source; of = t; start = length s; end = length s })
  held-past h =
      let nothing : take (length s - length s) (drop (length s) s) ≡ take n (drop p s) =
      ap (take (length s - length s)) (drop-length s) ∙ take-nil (length s - length s) ∙
      sym (ap (take n) (drop_of_length-le s h) ∙ take-nil n) in
      record { source_is = refl; type_is = refl; ordered = omega arith; within = omega arith; bytes = nothing }

  pub held-rest : p ≤ length s → length s - p ≤ n → Holds source t n s p (record { source = source; of = t; start = p; end = length s })
  held-rest h l =
      let k : length (drop p s) ≡ length s - p = length-drop p s in
      let rest : take (length s - p) (drop p s) ≡ take n (drop p s) =
      take_all (length s - p) (drop p s) (omega arith) ∙ sym (take_all n (drop p s) (omega arith)) in
      record { source_is = refl; type_is = refl; ordered = omega arith; within = omega arith; bytes = rest }

  pub held_whole : p ≤ length s → n ≤ length s - p → Holds source t n s p (record { source = source; of = t; start = p; end = p + n })
  held_whole h l =
      let k : p + n - p ≡ n = omega arith in
      record { source_is = refl; type_is = refl; ordered = omega arith; within = omega arith; bytes = ap (λ z. take z (drop p s)) k }

-- ---- the text in them

module _ (source : Source) (t : TextType) (n : ℕ) (s : List ℕ) (p : ℕ) (h : Held) (k : Holds source t n s p h)
    (m : Lent) (e : source_in m source ≡ s) where
  held-is : held_in m h ≡ take n (drop p s)
  unfolding held_in
  held-is = rw (k.source_is, e) k.bytes

  text-is : text_in m h ≡ bytes_of (take n (drop p s)) (text_part t (take n (drop p s)))
  unfolding text_in
  text-is = rw (held-is, k.type_is)

  pub text-there : (a b : ℕ) → text_part t (take n (drop p s)) ≡ Some (a, b) → value (text (text_in m h)) ≡ Inputs.text_in (take n (drop p s)) t
  unfolding bytes_of
  text-there a b i = rw (text-is, i)

  pub text-literal : t ≡ Text → text (text_in m h) ≡ literal_value (Tree.Literal.text (take n (drop p s)))
  unfolding bytes_of text_part literal_value
  text-literal i =
      let l = take n (drop p s) in
      let z : 0 + kept l 0 (length l) ≡ kept l 0 (length l) = omega arith in
      rw (text-is, i, z)

pub text-bad : (t : TextType) (l : List ℕ) → text_part t l ≡ None → malformed ≡ Inputs.text_in l t
text-bad t l i = rw i
