-- The bytes between two places of a slice, with the places brought inside it.
use Prim.Native.Nat.{ℕ, suc, zero, ◌-◌, ◌≤◌, ◌<◌}
use mathlib.Core.Path.{◌≡◌, refl, sym, ap, ◌∙◌}
use mathlib.Core.List.{List, [], ◌∷◌}
use native.Mathlib.Omega.{arith}
use lib.ListN.{length, take, drop, length-drop}
use lib.Seq.{take_all, take-nil, drop-nil, drop-length}
use Rattle.meaning.specs.declared.Source.{Source}
use Rattle.meaning.specs.declared.ValueAnswer.TheVariants as Value
use Rattle.greenblr.specs.Inside.{TextIn}

drop_past : (n : ℕ) (l : List ℕ) → length l ≤ n → drop n l ≡ []
drop_past n [] h = drop-nil n
drop_past zero (x ∷ l) h = absurd (omega arith)
drop_past (suc n) (x ∷ l) h = drop_past n l (omega arith)

module _ (l : List ℕ) (source : Source) (start end : ℕ) where
  pub text-past : length l ≤ start → TextIn l source start end (Value.Text source (length l) (length l))
  text-past h =
      let n = length l in
      record {
        first = n;
        last = n;
        is = refl;
        ordered = omega arith;
        within = omega arith;
        same =
            ap (take (n - n)) (drop-length l) ∙ take-nil (n - n) ∙
            sym (ap (take (end - start)) (drop_past start l h) ∙ take-nil (end - start));
      }

  pub text-empty : start ≤ length l → end ≤ start → TextIn l source start end (Value.Text source start start)
  text-empty h e =
      let none : start - start ≡ end - start = omega arith in
      record {
        first = start;
        last = start;
        is = refl;
        ordered = omega arith;
        within = h;
        same = ap (λ n. take n (drop start l)) none;
      }

  pub text-cut : start ≤ length l → length l < end → TextIn l source start end (Value.Text source start (length l))
  text-cut h e =
      let left = length-drop start l in
      record {
        first = start;
        last = length l;
        is = refl;
        ordered = h;
        within = omega arith;
        same =
            take_all (length l - start) (drop start l) (omega (arith, left)) ∙
            sym (take_all (end - start) (drop start l) (omega (arith, left)));
      }

  pub text-whole : start ≤ end → end ≤ length l → TextIn l source start end (Value.Text source start end)
  text-whole h e = record { first = start; last = end; is = refl; ordered = h; within = e; same = refl }

-- the four ways of a text's places
pub ruleset places = (text-past, text-empty, text-cut, text-whole)
