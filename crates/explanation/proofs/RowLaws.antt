-- Rows of tests: moved down, kept, and read back into a table.
use Prim.Native.Nat.{ℕ, suc, ◌+◌, ◌-◌, ◌*◌, ◌/◌, ◌%◌, ◌≤◌, ◌<◌}
use mathlib.Core.Path.{◌≡◌, refl, sym, ap, ap₂, ◌∙◌}
use mathlib.Core.Bool.{Bool, true, false}
use mathlib.Core.List.{List, [], ◌∷◌, ◌++◌, append_assoc, append-nil, map-append}
use native.Mathlib.Omega.{arith}
use lib.ListN.{length, get_or, take, drop, set, length-take, length-set, drop_of_length-le}
use lib.Seq.{sets, length-take-le, take-suc, drop-cons, drop-append-le, take-suc-set, get_or-set_other, take-take, take_at, drop_at}
use borrow.Author.Tests.{lt-leb, le-leb}
use Rattle.std.specs.Prelude.{Ok, Err}
use Rattle.wire.specs.Options.{refused_at}
use Rattle.wire.specs.declared.refused.Refused.{Refused}
use Rattle.grammar.specs.declared.Refusal.{Refusal}
use Rattle.grammar.specs.declared.Refusal.TheVariants.{TablesTooShort}
use Rattle.meaning.specs.Evaluation.{refusal}
use Rattle.meaning.specs.declared.Truth.{Truth}
use Rattle.meaning.specs.declared.Truth.TheVariants.{True, False, Missing}
use Rattle.explanation.specs.Explanation.{Test, needed, outcome_number, test_numbers}
use Rattle.explanation.specs.Internal.Noting.{packed, rows_of, unpacked, Moved, kept_count, kept_table, Keeps, RowsListed}

-- ---- one number a test

outcome-few : (t : Truth) → outcome_number t ≤ 2
outcome-few True = omega arith
outcome-few False = omega arith
outcome-few (Missing w) = omega arith

place-back : (p o : ℕ) → o ≤ 2 → (p * 4 + o) / 4 ≡ p
place-back p o h = omega (arith, h)

outcome-back : (p o : ℕ) → o ≤ 2 → (p * 4 + o) % 4 ≡ o
outcome-back p o h = omega (arith, h)

pub unpacked-rows : (ts : List Test) → unpacked (rows_of ts) ≡ test_numbers ts
unfolding unpacked test_numbers
unpacked-rows [] = refl
unpacked-rows (t ∷ ts) =
    let o = outcome_number t.outcome in
    let h = outcome-few t.outcome in
    λ i. place-back t.place o h i ∷ outcome-back t.place o h i ∷ unpacked-rows ts i

-- ---- rows moved down

-- so far: the rows from start to i stand before j, and those from i on are as they were
pub record Moving (to start : ℕ) (t₀ : List ℕ) (i j : ℕ) (t : List ℕ) : Type 0 where
  pub same : length t ≡ length t₀
  pub step : j + start ≡ i + to
  pub table : take j t ≡ take to t₀ ++ drop start (take i t₀)
  pub rest : (k : ℕ) → i ≤ k → get_or t k 0 ≡ get_or t₀ k 0

pub moving-starts : (to start : ℕ) (t : List ℕ) → Moving to start t start to t
moving-starts to start t =
    record {
      same = refl;
      step = omega arith;
      table =
          sym (ap (λ z. take to t ++ z) (drop_of_length-le (take start t) {i = start} (omega (arith, length-take start t)))
          ∙ append-nil (take to t));
      rest = λ k h. refl;
    }

module _ {to start i j a : ℕ} {t₀ t t' : List ℕ} (down : to ≤ start) (from_start : start ≤ i) (inside : i < length t₀)
    (m : Moving to start t₀ i j t) (read : a ≡ get_or t i 0) (put : t' ≡ set t j a) where
  there : a ≡ get_or t₀ i 0
  there = read ∙ m.rest i (omega arith)

  one_more : drop start (take (i + 1) t₀) ≡ drop start (take i t₀) ++ (a ∷ [])
  one_more =
      let k : i + 1 ≡ suc i = omega arith in
      let l : start ≤ length (take i t₀) = omega (arith, length-take-le i t₀ (omega (arith, inside)), from_start) in
      ap (λ z. drop start (take z t₀)) k ∙ ap (drop start) (take-suc t₀ i 0 inside) ∙ drop-append-le start (take i t₀) (get_or t₀ i 0 ∷ []) l
      ∙ ap (λ z. drop start (take i t₀) ++ (z ∷ [])) (sym there)

  pub moving-on : Moving to start t₀ (i + 1) (j + 1) t'
  moving-on =
      let s = m.step in
      let l : j < length t = omega (arith, s, m.same, down, inside) in
      let k : j + 1 ≡ suc j = omega arith in
      record {
        same = ap length put ∙ length-set t j a ∙ m.same;
        step = omega (arith, s);
        table =
            (λ x. take (k x) (put x)) ∙ take-suc-set t j a l ∙ ap (λ z. z ++ (a ∷ [])) m.table
            ∙ append_assoc (take to t₀) (drop start (take i t₀)) (a ∷ []) ∙ ap (λ z. take to t₀ ++ z) (sym one_more);
        rest =
            λ k h. ap (λ z. get_or z k 0) put ∙ get_or-set_other t j k a 0 (λ e. omega (arith, e, s, h, down))
            ∙ m.rest k (omega (arith, h));
      }

pub moving-ends : {to start i j end : ℕ} {t₀ t : List ℕ} → start ≤ end → i ≡ end → Moving to start t₀ i j t → Moved to start end t₀ t j
moving-ends {to} {start} {i} {j} {end} {t₀} h e m =
    let s = m.step in
    record {
      count = omega (arith, s, e, h);
      table = m.table ∙ ap (λ z. take to t₀ ++ drop start (take z t₀)) e;
      same = m.same;
    }

-- ---- the rows that are needed

module _ {f g : Bool} {n m k : ℕ} {t : List ℕ} where
  pub kept-first : f ≡ true → Keeps f g n m k t t m
  kept-first e =
      record {
        count = sym (ap (λ z. kept_count z g n m k) e);
        table = sym (ap (λ z. kept_table z g n m k t) e);
        same = refl;
      }

  pub kept_second : {t' : List ℕ} {r : ℕ} → f ≡ false → g ≡ true → Moved n m k t t' r → Keeps f g n m k t t' r
  kept_second e d h =
      record {
        count = h.count ∙ sym (ap₂ (λ y z. kept_count y z n m k) e d);
        table = h.table ∙ sym (ap₂ (λ y z. kept_table y z n m k t) e d);
        same = h.same;
      }

  pub kept-both : f ≡ false → g ≡ false → Keeps f g n m k t t k
  kept-both e d =
      record {
        count = sym (ap₂ (λ y z. kept_count y z n m k) e d);
        table = sym (ap₂ (λ y z. kept_table y z n m k t) e d);
        same = refl;
      }

pub kept-between : (f g : Bool) (n m k : ℕ) → n ≤ m → m ≤ k → (n ≤ kept_count f g n m k) × (kept_count f g n m k ≤ k)
kept-between true g n m k h l = (h, l)
kept-between false true n m k h l = (omega arith, omega (arith, h, l))
kept-between false false n m k h l = (omega (arith, h, l), omega arith)

-- where n rows stand, then those of ts up to m, then those of us up to k
module _ (ts us : List Test) (n m k : ℕ) (t₀ t₁ t₂ : List ℕ) (room : n ≤ length t₀) (down : n ≤ m) (on : m ≤ k) (within : m ≤ length t₁)
    (first : take m t₁ ≡ take n t₀ ++ rows_of ts) (second : take k t₂ ≡ take m t₁ ++ rows_of us) where
  first-stays : take m t₂ ≡ take m t₁
  first-stays = sym (take-take m k t₂ on) ∙ ap (take m) second ∙ take_at (take m t₁) (rows_of us) m (length-take-le m t₁ within)

  before-stays : take n t₂ ≡ take n t₀
  before-stays =
      sym (take-take n m t₂ down) ∙ ap (take n) (first-stays ∙ first) ∙ take_at (take n t₀) (rows_of ts) n (length-take-le n t₀ room)

  second-alone : drop m (take k t₂) ≡ rows_of us
  second-alone = ap (drop m) second ∙ drop_at (take m t₁) (rows_of us) m (length-take-le m t₁ within)

  pub kept-laid : (f g : Bool) → kept_table f g n m k t₂ ≡ take n t₀ ++ rows_of (needed f g ts us)
  kept-laid true g = first-stays ∙ first
  kept-laid false true = ap₂ (λ a b. a ++ b) before-stays second-alone
  kept-laid false false =
      second ∙ ap (λ z. z ++ rows_of us) first ∙ append_assoc (take n t₀) (rows_of ts) (rows_of us)
      ∙ ap (λ z. take n t₀ ++ z) (sym (map-append packed ts us))

-- ---- rows in a lent table

module _ (rows t : List ℕ) where
  pub rows-turn : (i : ℕ) → i < length rows →
      sets t (2 * i) (unpacked (drop i rows)) ≡
      sets (set (set t (2 * i) (get_or rows i 0 / 4)) (2 * i + 1) (get_or rows i 0 % 4)) (2 * (i + 1)) (unpacked (drop (i + 1) rows))
  unfolding unpacked
  rows-turn i h =
      let a : suc (2 * i) ≡ 2 * i + 1 = omega arith in
      let b : suc (suc (2 * i)) ≡ 2 * (i + 1) = omega arith in
      let e : suc i ≡ i + 1 = omega arith in
      ap (λ z. sets t (2 * i) (unpacked z)) (drop-cons rows i 0 h)
      ∙ (λ x. sets (set (set t (2 * i) (get_or rows i 0 / 4)) (a x) (get_or rows i 0 % 4)) (b x) (unpacked (drop (e x) rows)))

  pub rows_end : (i : ℕ) → length rows ≤ i → sets t (2 * i) (unpacked (drop i rows)) ≡ t
  unfolding unpacked
  rows_end i h = ap (λ z. sets t (2 * i) (unpacked z)) (drop_of_length-le rows h)

  pub too_few : length t < 2 * length rows → {x : Refused Refusal} → x ≡ refused_at TablesTooShort 0 → RowsListed rows t t (Err x)
  too_few h {x} i =
      let e = lt-leb (2 * length rows) (length t) h in
      record { counts = ap (λ y. refusal y.refusal y.place) i ∙ rw e; filled = rw e }

  pub all_listed : (t' : List ℕ) → 2 * length rows ≤ length t → t' ≡ sets t 0 (unpacked rows) → RowsListed rows t t' (Ok (length rows))
  all_listed t' h f =
      let e = le-leb (2 * length rows) (length t) h in
      record { counts = rw e; filled = rw e f }
