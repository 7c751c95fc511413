-- Runs are as due if they are one proper run for each, joined.
use Prim.Native.Nat.{ℕ, suc, ◌+◌, ◌*◌, ◌-◌, ◌/◌, ◌<◌, ◌≤◌}
use mathlib.Core.Path.{◌≡◌, refl, sym, ap, subst, ◌∙◌}
use mathlib.Core.Bool.{true}
use mathlib.Core.List.{List, [], ◌∷◌, ◌++◌, append_assoc}
use native.Mathlib.Omega.{arith}
use native.Mathlib.Nat.{suc-mul, mul-div_cancel}
use lib.Dec.{leb}
use lib.ListN.{length, take, drop, length-append, length-drop}
use lib.Seq.{drop-drop, take_at, drop_at, drop-append-le}
use borrow.Author.Tests.{le-ltb, le-leb, eq-eqb, leb-true}
use Rattle.wire.specs.Words.{word_at}
use Rattle.dictionary.specs.Dictionary.{Relation}
use Rattle.dictionary.proofs.Tests.{both_left, both_right}
use Rattle.records.specs.Record.{record_length, as_due}
use Rattle.records.specs.Runs.{proper_records, records_held, proper_run, runs}
use Rattle.records.proofs.Records.{shortest}
use Rattle.meaning.specs.Runs.{DueRun, run_relations}
use Rattle.meaning.specs.Demand.{ProperRecord, EachProper, no_more, more, ProperRun, Runs, no_run, run}
use Rattle.walking.proofs.Proper.{entry-word, alone-proper}

-- ---- the records of a run

pub each_long : (r : Relation) (rows : List ℕ) → EachProper r rows → (n : ℕ) × (length rows ≡ n * record_length r)
each_long r _ no_more = (0, omega arith)
each_long r _ (more e rows w v) =
    let i = each_long r rows v in
    let k = i.1 in
    let h : length (e ++ rows) ≡ i.0 * record_length r + record_length r = omega (arith, length-append e rows, w.sized, k) in
    (suc i.0, h ∙ sym (suc-mul i.0 (record_length r)))

-- so many records as their bytes say
pub held-is : (r : Relation) (n : ℕ) (rows : List ℕ) → length rows ≡ n * record_length r → records_held r (4 + length rows) ≡ n
unfolding records_held
held-is r n rows e =
    let a : 4 + length rows - 4 ≡ length rows = omega arith in
    let b : 0 < record_length r = omega (arith, shortest r) in
    ap (λ z. z / record_length r) (a ∙ e) ∙ mul-div_cancel n b

each-proper : (r : Relation) (s rows rest : List ℕ) (p : ℕ) → drop p s ≡ rows ++ rest → p ≤ length s → (v : EachProper r rows) →
    proper_records r (each_long r rows v).0 s p ≡ true
unfolding proper_records each_long
each-proper r s _ rest p f h no_more = refl
each-proper r s _ rest p f h (more e rows w v) =
    let n = record_length r in
    let j : drop p s ≡ e ++ (rows ++ rest) = f ∙ append_assoc e rows rest in
    let a : take n (drop p s) ≡ e = ap (take n) j ∙ take_at e (rows ++ rest) n w.sized in
    let b : drop (p + n) s ≡ rows ++ rest = sym (drop-drop n p s) ∙ ap (drop n) j ∙ drop_at e (rows ++ rest) n w.sized in
    let c : p + n ≤ length s = omega (arith, ap length j, length-append e (rows ++ rest), length-drop p s, w.sized, shortest r) in
    rw (alone-proper r s p c (subst (ProperRecord r) (sym a) w)) (each-proper r s rows rest (p + n) b c v)

-- ---- one run

-- how many records a proper run holds
module _ (r : Relation) (e : List ℕ) (w : ProperRun r e) where
  abbrev pub held_in : ℕ
  held_in = (each_long r (drop 4 e) w.proper-records).0

  pub held-long : length e ≡ 4 + held_in * record_length r
  held-long = let k = (each_long r (drop 4 e) w.proper-records).1 in omega (arith, length-drop 4 e, k, w.headed)

  pub held-by-word : records_held r (length e) ≡ held_in
  held-by-word =
      let k = (each_long r (drop 4 e) w.proper-records).1 in
      let a : length e ≡ 4 + length (drop 4 e) = omega (arith, length-drop 4 e, w.headed) in
      ap (records_held r) a ∙ held-is r held_in (drop 4 e) k

  -- in a list that has it at p
  module _ (s rest : List ℕ) (p : ℕ) (f : drop p s ≡ e ++ rest) (h : p ≤ length s) where
    whole : p + length e ≤ length s
    whole = omega (arith, ap length f, length-append e rest, length-drop p s, w.headed)

    pub run-word : word_at s p ≡ length e
    run-word =
        let a : take (length e) (drop p s) ≡ e = ap (take (length e)) f ∙ take_at e rest (length e) refl in
        let z : p + 0 ≡ p = omega arith in
        let b : 0 + 1 < length e = omega (arith, w.headed) in
        sym (ap (word_at s) z) ∙ sym (entry-word s p (length e) 0 b) ∙ ap (λ x. word_at x 0) a ∙ w.length_word

    run-kind : word_at s (p + 2) ≡ 7
    run-kind =
        let a : take (length e) (drop p s) ≡ e = ap (take (length e)) f ∙ take_at e rest (length e) refl in
        let b : 2 + 1 < length e = omega (arith, w.headed) in
        sym (entry-word s p (length e) 2 b) ∙ ap (λ x. word_at x 2) a ∙ w.kind_word

    pub run-proper : proper_run r s p ≡ true
    unfolding proper_run
    run-proper =
        let b : drop (p + 4) s ≡ drop 4 e ++ rest = sym (drop-drop 4 p s) ∙ ap (drop 4) f ∙ drop-append-le 4 e rest w.headed in
        let c : p + 4 ≤ length s = omega (arith, whole, w.headed) in
        let k = each-proper r s (drop 4 e) rest (p + 4) b c w.proper-records in
        rw (
          run-word,
          held-by-word,
          le-leb 4 (length e) w.headed,
          le-leb (p + length e) (length s) whole,
          eq-eqb (word_at s (p + 2)) 7 run-kind,
          eq-eqb (4 + held_in * record_length r) (length e) (sym held-long),
        ) k

-- what a proper run at p says of its length
pub run-within : (r : Relation) (s : List ℕ) (p : ℕ) → proper_run r s p ≡ true → p + word_at s p ≤ length s
unfolding proper_run
run-within r s p e =
    leb-true _ _ (both_right (leb 4 (word_at s p)) _ (both_left _ _ (both_left _ _ (both_left _ _ e))))

-- ---- one for each

runs-due : (xs : List DueRun) (s rows : List ℕ) (p : ℕ) → drop p s ≡ rows → p ≤ length s → Runs xs rows → runs (run_relations xs) s p ≡ as_due
unfolding run_relations runs
runs-due [] s _ p f h no_run = let l = ap length f in let g = length-drop p s in rw (le-ltb p (length s) (omega (arith, l, g)))
runs-due (x ∷ xs) s _ p f h (run r e rest k w v) =
    let a : drop (p + length e) s ≡ rest = sym (drop-drop (length e) p s) ∙ ap (drop (length e)) f ∙ drop_at e rest (length e) refl in
    let c : p + length e ≤ length s = omega (arith, ap length f, length-append e rest, length-drop p s, w.headed) in
    rw (k, runs, run-proper r e w s rest p f h, run-word r e w s rest p f h) (runs-due xs s rest (p + length e) a c v)

pub all-due : (xs : List DueRun) (rows : List ℕ) → Runs xs rows → runs (run_relations xs) rows 0 ≡ as_due
all-due xs rows h = runs-due xs rows rows 0 refl (omega arith) h
