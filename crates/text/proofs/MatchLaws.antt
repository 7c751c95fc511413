-- The ways of `matches`, by the first sign of the pattern and the first byte of the text, and what an answer on the rest tells
-- of the whole. Assumes nothing.
use Prim.Native.Nat.{ℕ, zero, suc, ◌+◌, ◌<◌}
use mathlib.Core.Path.{◌≡◌, refl, sym, ap, ◌∙◌}
use mathlib.Core.Bool.{Bool, true, false, ◌&&◌, and-false}
use mathlib.Core.List.{List, [], ◌∷◌}
use native.Mathlib.Omega.{arith}
use native.Mathlib.Nat.{add_comm}
use native.Mathlib.Numerals.{one-add}
use borrow.Author.Tests.{eq-eqb, ne_eqb}
use lib.Dec.{eqb, eqb-suc-zero}
use lib.ListN.{length, get_or, drop, length-drop}
use lib.Seq.{drop-nil, drop-drop}
use Rattle.text.specs.declared.matching.Matched.{Matched}
use Rattle.text.specs.declared.matching.Matched.TheVariants.{Yes, No, Never}
use Rattle.text.specs.Tests.{sign_matches, any_run_sign, after_run, after_byte, matches}
use Rattle.text.specs.Internal.Matching.{Told}

pub matches-empty : (p t : List ℕ) → length p ≡ 0 → eqb (length t) 0 ≡ matches p t
unfolding matches
matches-empty [] [] e = refl
matches-empty [] (x ∷ t) e = eqb-suc-zero (length t)
matches-empty (c ∷ p) t e = absurd (omega arith)

-- a slice without its first byte is shorter
pub rest-shorter : (s r : List ℕ) → r ≡ drop 1 s → (length s ≡ 0 → ⊥) → length r < length s
rest-shorter s r e n = omega (arith, ap length e ∙ length-drop 1 s, n)

-- a run
run-yes : (k : List ℕ → Bool) (t : List ℕ) → k t ≡ true → after_run k t ≡ true
unfolding after_run
run-yes k [] e = e
run-yes k (x ∷ t) e = rw e

run_end : (k : List ℕ → Bool) (t : List ℕ) → k t ≡ false → length t ≡ 0 → after_run k t ≡ false
unfolding after_run
run_end k [] e z = e
run_end k (x ∷ t) e z = absurd (omega arith)

run_more : (k : List ℕ → Bool) (t : List ℕ) → k t ≡ false → after_run k t ≡ after_run k (drop 1 t)
unfolding after_run
run_more k [] e = refl
run_more k (x ∷ t) e = rw e

run_none : (k : List ℕ → Bool) (t : List ℕ) → ((i : ℕ) → k (drop i t) ≡ false) → after_run k t ≡ false
unfolding after_run
run_none k [] h = h 0
run_none k (x ∷ t) h = rw (h 0) (run_none k t (λ i. h (suc i)))

-- a byte
byte-end : (c : ℕ) (k : List ℕ → Bool) (t : List ℕ) → length t ≡ 0 → after_byte c k t ≡ false
unfolding after_byte
byte-end c k [] z = refl
byte-end c k (x ∷ t) z = absurd (omega arith)

byte-first : (c : ℕ) (k : List ℕ → Bool) (t : List ℕ) → (length t ≡ 0 → ⊥) →
    after_byte c k t ≡ sign_matches c (get_or t 0 0) && k (drop 1 t)
unfolding after_byte
byte-first c k [] n = absurd (n refl)
byte-first c k (x ∷ t) n = refl

byte-rest : (c : ℕ) (k : List ℕ → Bool) (t : List ℕ) → k (drop 1 t) ≡ false → after_byte c k t ≡ false
unfolding after_byte
byte-rest c k [] h = refl
byte-rest c k (x ∷ t) h = rw h (and-false (sign_matches c x))

-- ends of a text
empty-drop : (t : List ℕ) (i : ℕ) → length t ≡ 0 → drop i t ≡ t
empty-drop [] i e = drop-nil i
empty-drop (x ∷ t) i e = absurd (omega arith)

drop-one : (t : List ℕ) (i : ℕ) → drop 1 (drop i t) ≡ drop i (drop 1 t)
drop-one t i = drop-drop 1 i t ∙ ap (λ (n : ℕ). drop n t) (add_comm i 1) ∙ sym (drop-drop i 1 t)

-- a pattern by its first sign
matches-run : (p t : List ℕ) → (length p ≡ 0 → ⊥) → get_or p 0 0 ≡ any_run_sign →
    matches p t ≡ after_run (matches (drop 1 p)) t
unfolding matches
matches-run [] t n e = absurd (n refl)
matches-run (c ∷ p) t n e = rw (eq-eqb c any_run_sign e)

matches-byte : (p t : List ℕ) → (length p ≡ 0 → ⊥) → (get_or p 0 0 ≡ any_run_sign → ⊥) →
    matches p t ≡ after_byte (get_or p 0 0) (matches (drop 1 p)) t
unfolding matches
matches-byte [] t n e = absurd (n refl)
matches-byte (c ∷ p) t n e = rw (ne_eqb c any_run_sign e)

module _ (p t : List ℕ) (n : length p ≡ 0 → ⊥) where
  module _ (e : get_or p 0 0 ≡ any_run_sign) where
    pub run-found : Told Yes (drop 1 p) t → Told Yes p t
    run-found h = matches-run p t n e ∙ run-yes (matches (drop 1 p)) t h

    pub run-never : Told Never (drop 1 p) t → Told Never p t
    run-never h i =
        matches-run p (drop i t) n e ∙
        run_none (matches (drop 1 p)) (drop i t) (λ j. ap (matches (drop 1 p)) (drop-drop j i t) ∙ h (i + j))

    module _ (h : Told No (drop 1 p) t) where
      pub run-ended : length t ≡ 0 → Told Never p t
      run-ended z i = ap (matches p) (empty-drop t i z) ∙ matches-run p t n e ∙ run_end (matches (drop 1 p)) t h z

      longer : matches p t ≡ matches p (drop 1 t)
      longer = matches-run p t n e ∙ run_more (matches (drop 1 p)) t h ∙ sym (matches-run p (drop 1 t) n e)

      pub run-longer : (a : Matched) → Told a p (drop 1 t) → Told a p t
      run-longer Yes w = longer ∙ w
      run-longer No w = longer ∙ w
      run-longer Never w = λ i. every i
        where
          every : (i : ℕ) → matches p (drop i t) ≡ false
          every zero = longer ∙ w 0
          every (suc j) = ap (matches p) (sym (drop-drop j 1 t ∙ ap (λ (l : ℕ). drop l t) (one-add j))) ∙ w j

  module _ (e : get_or p 0 0 ≡ any_run_sign → ⊥) where
    pub byte-ended : length t ≡ 0 → Told Never p t
    byte-ended z i =
        ap (matches p) (empty-drop t i z) ∙ matches-byte p t n e ∙ byte-end (get_or p 0 0) (matches (drop 1 p)) t z

    module _ (m : length t ≡ 0 → ⊥) where
      first : matches p t ≡ sign_matches (get_or p 0 0) (get_or t 0 0) && matches (drop 1 p) (drop 1 t)
      first = matches-byte p t n e ∙ byte-first (get_or p 0 0) (matches (drop 1 p)) t m

      pub byte-differs : sign_matches (get_or p 0 0) (get_or t 0 0) ≡ false → Told No p t
      byte-differs o = first ∙ ap (λ (b : Bool). b && matches (drop 1 p) (drop 1 t)) o

      module _ (o : sign_matches (get_or p 0 0) (get_or t 0 0) ≡ true) where
        both : matches p t ≡ matches (drop 1 p) (drop 1 t)
        both = first ∙ ap (λ (b : Bool). b && matches (drop 1 p) (drop 1 t)) o

        pub byte-agrees : (a : Matched) → Told a (drop 1 p) (drop 1 t) → Told a p t
        byte-agrees Yes w = both ∙ w
        byte-agrees No w = both ∙ w
        byte-agrees Never w = λ i.
            matches-byte p (drop i t) n e ∙
            byte-rest (get_or p 0 0) (matches (drop 1 p)) (drop i t) (ap (matches (drop 1 p)) (drop-one t i) ∙ w i)
