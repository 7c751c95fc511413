-- Where the text that a value holds stands in its slice: a part of a part of the slice is a part of the slice. Assumes nothing.
use Prim.Native.Nat.{ℕ, ◌+◌, ◌-◌, ◌≤◌, min}
use mathlib.Core.Path.{◌≡◌, sym, ap, ap₂, subst, ◌∙◌}
use mathlib.Core.List.{List, [], ◌++◌}
use native.Mathlib.Omega.{arith}
use native.Mathlib.Nat.{min-le_right}
use lib.ListN.{length, take, drop, length-take, length-drop, take-append-drop}
use lib.Seq.{drop-drop, drop-append-le, take-append-le}
use Rattle.wire.specs.declared.codes.TextType.{TextType}
use Rattle.std.specs.Prelude.{Some, None}
use Rattle.std.specs.Option.{unwrap_or}
use Rattle.text.specs.Value.{TextPart, text_part, part_of, bytes_of}
use Rattle.text.proofs.PartLaws.{part-within}

module _ (s : List ℕ) (start end : ℕ) where
  abbrev outer : List ℕ
  outer = part_of s start end

  abbrev after : List ℕ
  after = drop (end - start) (drop start s)

  part-short : length outer ≤ length s - start
  part-short = rw (length-take (end - start) (drop start s), length-drop start s) (min-le_right (end - start) (length s - start))

  part-of-part : (a e : ℕ) → a ≤ e → e ≤ length outer → part_of s (start + a) (start + e) ≡ part_of outer a e
  part-of-part a e h k =
      let n : start + e - (start + a) ≡ e - a = omega arith in
      let i : a ≤ length outer = omega arith in
      let j : e - a ≤ length (drop a outer) = rw (length-drop a outer) (omega arith) in
      let w : drop (start + a) s ≡ drop a outer ++ after =
      sym (drop-drop a start s) ∙ ap (drop a) (sym (take-append-drop (end - start) (drop start s))) ∙ drop-append-le a outer after i in
      ap₂ take n w ∙ take-append-le (e - a) (drop a outer) after j

  -- the text in a part of the slice, by what the code has found: where it starts and ends there, both 0 where it is malformed
  module _ (of : TextType) {p : List ℕ} {f : TextPart} {z : ℕ × ℕ} (i : p ≡ outer) (j : f ≡ text_part of p) (k : z ≡ unwrap_or f (0, 0)) where
    found-is : text_part of outer ≡ f
    found-is = ap (text_part of) (sym i) ∙ sym j

    pub text-inside : (z.0 ≤ z.1) × (z.1 ≤ length s - start)
    text-inside = subst (λ (y : ℕ × ℕ). (y.0 ≤ y.1) × (y.1 ≤ length s - start)) (sym k) (by f found-is)
      where
        by : (g : TextPart) → text_part of outer ≡ g → ((unwrap_or g (0, 0)).0 ≤ (unwrap_or g (0, 0)).1) × ((unwrap_or g (0, 0)).1 ≤ length s - start)
        by (Some (a, e)) h = let w = part-within of outer a e h in (w.0, omega (arith, w.1, part-short))
        by None h = (omega arith, omega arith)

    pub text-there : part_of s (start + z.0) (start + z.1) ≡ bytes_of outer (text_part of outer)
    unfolding bytes_of
    text-there = subst (λ (y : ℕ × ℕ). part_of s (start + y.0) (start + y.1) ≡ bytes_of outer (text_part of outer)) (sym k) (by f found-is)
      where
        by : (g : TextPart) → text_part of outer ≡ g →
            part_of s (start + (unwrap_or g (0, 0)).0) (start + (unwrap_or g (0, 0)).1) ≡ bytes_of outer (text_part of outer)
        by (Some (a, e)) h = let w = part-within of outer a e h in part-of-part a e w.0 w.1 ∙ sym (ap (bytes_of outer) h)
        by None h =
            let n : start + 0 - (start + 0) ≡ 0 = omega arith in
            ap (λ n. take n (drop (start + 0) s)) n ∙ sym (ap (bytes_of outer) h)
