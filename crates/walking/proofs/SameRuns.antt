-- Two sets of runs that differ only inside fields missing in both: each run that is due is found in both, with records alike one for one.
use Prim.Native.Nat.{ℕ, zero, suc, ◌+◌, ◌*◌, ◌<◌, ◌≤◌}
use mathlib.Core.Path.{◌≡◌, refl, sym, ap, ap₂, subst, ◌∙◌}
use mathlib.Core.Logic.{⊎_elim}
use mathlib.Core.List.{List, [], ◌∷◌, ◌++◌, map}
use mathlib.Core.Option.{Option, none, some}
use native.Mathlib.Omega.{arith}
use native.Mathlib.Nat.{suc-mul}
use lib.ListN.{length, take, drop, length-drop, take-append-drop}
use lib.Seq.{length-take-le, drop_at, take-append-le, drop-append-le, get_or-append-add}
use Rattle.wire.specs.Words.{byte_at, word_at}
use Rattle.dictionary.specs.Dictionary.{Relation}
use Rattle.records.specs.Record.{record_length}
use Rattle.records.specs.Runs.{records_held}
use Rattle.meaning.specs.Runs.{DueRun, parts, records_in, LentRun, lent_runs}
use Rattle.meaning.specs.Demand.{ProperRun, Runs, no_run, run, Placed, placed_records, placed_run, placed_runs, InsideMissing, Alike}
use Rattle.walking.specs.Sees.{Pairs, no_pair, pairs}
use Rattle.walking.proofs.Sites.{All, all_append}
use Rattle.walking.proofs.Due.{run_at, run-here, run-later, Grows, all_after}
use Rattle.walking.proofs.ProperRuns.{held_in, held-long, held-by-word, run-word}
use Rattle.walking.proofs.Seams.{there-all, moved, Ends, split-first, split-second}

-- ---- the records of one run

-- one record of a relation, alone
abbrev pub alone : Relation → List Placed
alone r = record { relation = r; place = 0 } ∷ []

-- two records of a relation, of its length, that differ only inside fields missing in both
pub record SameRecord (r : Relation) (e e' : List ℕ) : Type 0 where
  pub long : length e ≡ record_length r
  pub alike : Alike (alone r) e e'

placed-moved : (r : Relation) (m n p : ℕ) → placed_records r m (n + p) ≡ map (moved n) (placed_records r m p)
unfolding placed_records
placed-moved r zero n p = refl
placed-moved r (suc m) n p =
    let o : n + p + record_length r ≡ n + (p + record_length r) = omega arith in
    ap (λ l. record { relation = r; place = n + p } ∷ l) (ap (placed_records r m) o ∙ placed-moved r m n (p + record_length r))

placed-from : (r : Relation) (m p : ℕ) → placed_records r m p ≡ map (moved p) (placed_records r m 0)
placed-from r m p = let o : p ≡ p + 0 = omega arith in ap (placed_records r m) o ∙ placed-moved r m p 0

-- a set of records, at the seam after the first n bytes
parted : (zs : List Placed) (n : ℕ) (s s' : List ℕ) → Alike zs s s' → Alike zs (take n s ++ drop n s) (take n s' ++ drop n s')
parted zs n s s' w =
    subst (λ x. Alike zs x (take n s' ++ drop n s')) (sym (take-append-drop n s)) (subst (Alike zs s) (sym (take-append-drop n s')) w)

module _ (r : Relation) where
  same_parts : (m : ℕ) (b b' rest rest' : List ℕ) → length b ≡ m * record_length r → length b' ≡ m * record_length r → Alike (placed_records r m 0) b b' →
      Pairs (SameRecord r) (parts (record_length r) m (b ++ rest)) (parts (record_length r) m (b' ++ rest'))
  unfolding parts placed_records
  same_parts zero b b' rest rest' l l' w = no_pair
  same_parts (suc m) b b' rest rest' l l' w =
      let n = record_length r in
      let k = suc-mul m n in
      let h : n ≤ length b = omega (arith, l, k) in
      let h' : n ≤ length b' = omega (arith, l', k) in
      let d : length (drop n b) ≡ m * n = omega (arith, length-drop n b, l, k) in
      let d' : length (drop n b') ≡ m * n = omega (arith, length-drop n b', l', k) in
      let z : placed_records r m (0 + n) ≡ map (moved n) (placed_records r m 0) = ap (placed_records r m) (let o : 0 + n ≡ n = omega arith in o) ∙ placed-from r m n in
      let v : Alike (alone r ++ map (moved n) (placed_records r m 0)) (take n b ++ drop n b) (take n b' ++ drop n b') =
      parted (alone r ++ map (moved n) (placed_records r m 0)) n b b' (subst (λ q. Alike (record { relation = r; place = 0 } ∷ q) b b') z w) in
      let t = length-take-le n b h in
      let t' = length-take-le n b' h' in
      let ends : All (Ends n) (alone r) = (omega arith, tt) in
      let first : SameRecord r (take n b) (take n b') =
      record { long = t; alike = split-first n (take n b) (take n b') (drop n b) (drop n b') t t' (alone r) (placed_records r m 0) ends v } in
      let more = same_parts m (drop n b) (drop n b') rest rest' d d'
      (split-second n (take n b) (take n b') (drop n b) (drop n b') t t' (alone r) (placed_records r m 0) ends v) in
      rw (take-append-le n b rest h, take-append-le n b' rest' h', drop-append-le n b rest h, drop-append-le n b' rest' h') (pairs first more)

-- ---- one run for each

-- a run that is due, in two sets of runs
pub record SameRun (l l' : List LentRun) (x : DueRun) : Type 0 where
  pub relation : Relation
  pub run : LentRun
  pub run' : LentRun
  pub relation_is : x.relation ≡ some relation
  pub found : run_at l x.place ≡ some run
  pub found' : run_at l' x.place ≡ some run'
  pub alike : Pairs (SameRecord relation) run.records run'.records

same-later : (y y' : LentRun) (l l' : List LentRun) (x : DueRun) → (y.place ≡ x.place → ⊥) → (y'.place ≡ x.place → ⊥) → SameRun l l' x →
    SameRun (y ∷ l) (y' ∷ l') x
same-later y y' l l' x h h' s =
    record {
      relation = s.relation;
      run = s.run;
      run' = s.run';
      relation_is = s.relation_is;
      found = run-later y l x.place h ∙ s.found;
      found' = run-later y' l' x.place h' ∙ s.found';
      alike = s.alike;
    }

-- ---- where the records of runs stand

word-second : (a b : List ℕ) (q : ℕ) → word_at (a ++ b) (length a + q) ≡ word_at b q
word-second a b q =
    let o : length a + q + 1 ≡ length a + (q + 1) = omega arith in
    ap₂ (λ x y. x + 256 * y) (get_or-append-add a b q 0) (ap (byte_at (a ++ b)) o ∙ get_or-append-add a b (q + 1) 0)

map_on : (n : ℕ) (l m : List Placed) → map (moved n) (l ++ m) ≡ map (moved n) l ++ map (moved n) m
map_on n [] m = refl
map_on n (x ∷ l) m = ap (λ z. moved n x ∷ z) (map_on n l m)

run_moved : (x : Option Relation) (w n p : ℕ) → placed_run x w (n + p) ≡ map (moved n) (placed_run x w p)
run_moved none w n p = refl
run_moved (some r) w n p =
    let o : n + p + 4 ≡ n + (p + 4) = omega arith in ap (placed_records r (records_held r w)) o ∙ placed-moved r (records_held r w) n (p + 4)

runs_moved : (xs : List DueRun) (e s : List ℕ) (p : ℕ) → placed_runs xs (e ++ s) (length e + p) ≡ map (moved (length e)) (placed_runs xs s p)
unfolding placed_runs
runs_moved [] e s p = refl
runs_moved (x ∷ xs) e s p =
    let k = word-second e s p in
    let o : length e + p + word_at s p ≡ length e + (p + word_at s p) = omega arith in
    ap (λ w. placed_run x.relation w (length e + p) ++ placed_runs xs (e ++ s) (length e + p + w)) k
    ∙ ap₂ (λ l m. l ++ m) (run_moved x.relation (word_at s p) (length e) p) (ap (placed_runs xs (e ++ s)) o ∙ runs_moved xs e s (p + word_at s p))
    ∙ sym (map_on (length e) (placed_run x.relation (word_at s p) p) (placed_runs xs s (p + word_at s p)))

records-end : (r : Relation) (m p n : ℕ) → p + m * record_length r ≤ n → All (Ends n) (placed_records r m p)
unfolding placed_records
records-end r zero p n h = tt
records-end r (suc m) p n h =
    let k = suc-mul m (record_length r) in
    (omega (arith, h, k), records-end r m (p + record_length r) n (omega (arith, h, k)))

-- no record stands in the two words of a run
abbrev From : ℕ → Placed → Type 0
From n y = n ≤ y.place

records-from : (r : Relation) (m p n : ℕ) → n ≤ p → All (From n) (placed_records r m p)
unfolding placed_records
records-from r zero p n h = tt
records-from r (suc m) p n h = (h, records-from r m (p + record_length r) n (omega arith))

run-from : (x : Option Relation) (w p : ℕ) → All (From 4) (placed_run x w p)
run-from none w p = tt
run-from (some r) w p = records-from r (records_held r w) (p + 4) 4 (omega arith)

runs-from : (xs : List DueRun) (s : List ℕ) (p : ℕ) → All (From 4) (placed_runs xs s p)
unfolding placed_runs
runs-from [] s p = tt
runs-from (x ∷ xs) s p =
    all_append (From 4) (placed_run x.relation (word_at s p) p) (placed_runs xs s (p + word_at s p)) (run-from x.relation (word_at s p) p) (runs-from xs s (p + word_at s p))

-- so both sets have the same length word
module _ (ys : List Placed) (s s' : List ℕ) (from : All (From 4) ys) (w : Alike ys s s') where
  before-records : (j : ℕ) → j < 4 → byte_at s j ≡ byte_at s' j
  before-records j b = ⊎_elim (λ e. e) (λ z. absurd (never z)) (w.differ_only j)
    where
      never : InsideMissing ys s s' j → ⊥
      never z =
          let a = there-all (From 4) z.y ys from (z.k, z.placed_is) in
          let f = z.from in
          omega (arith, a, f, b)

  first_word : word_at s 0 ≡ word_at s' 0
  first_word = ap₂ (λ x y. x + 256 * y) (before-records 0 (omega arith)) (before-records (0 + 1) (omega arith))

-- ---- one run and those after it, in both sets

module _ (x : DueRun) (xs : List DueRun) (r : Relation) (k : x.relation ≡ some r) (e rest : List ℕ) (w : ProperRun r e) where
  word-front : word_at (e ++ rest) 0 ≡ length e
  word-front = run-word r e w (e ++ rest) rest 0 refl (omega arith)

  -- where the records stand
  placed_first : placed_runs (x ∷ xs) (e ++ rest) 0 ≡ placed_records r (held_in r e w) 4 ++ map (moved (length e)) (placed_runs xs rest 0)
  unfolding placed_runs
  placed_first =
      let o : 0 + length e ≡ length e + 0 = omega arith in
      ap (λ n. placed_run x.relation n 0 ++ placed_runs xs (e ++ rest) (0 + n)) word-front
      ∙ ap (λ q. placed_run q (length e) 0 ++ placed_runs xs (e ++ rest) (0 + length e)) k
      ∙ ap₂ (λ n l. placed_records r n 4 ++ l) (held-by-word r e w) (ap (placed_runs xs (e ++ rest)) o ∙ runs_moved xs e rest 0)

  -- what the front run holds, and the runs after it
  front : LentRun
  front = record { place = x.place; records = parts (record_length r) (held_in r e w) (drop 4 e ++ rest) }

  lent-first : lent_runs (x ∷ xs) (e ++ rest) ≡ front ∷ lent_runs xs rest
  unfolding lent_runs front
  lent-first =
      let a : records_in x.relation (e ++ rest) ≡ parts (record_length r) (held_in r e w) (drop 4 e ++ rest) =
      ap (λ q. records_in q (e ++ rest)) k
      ∙ ap₂ (λ n l. parts (record_length r) n l) (ap (records_held r) word-front ∙ held-by-word r e w) (drop-append-le 4 e rest w.headed) in
      let b : drop (word_at (e ++ rest) 0) (e ++ rest) ≡ rest = ap (λ n. drop n (e ++ rest)) word-front ∙ drop_at e rest (length e) refl in
      ap₂ (λ l m. record { place = x.place; records = l } ∷ lent_runs xs m) a b

  module _ (e' rest' : List ℕ) (w' : ProperRun r e') (v : Alike (placed_runs (x ∷ xs) (e ++ rest) 0) (e ++ rest) (e' ++ rest')) where
    one-length : length e' ≡ length e
    one-length =
        sym (run-word r e' w' (e' ++ rest') rest' 0 refl (omega arith))
        ∙ sym (first_word (placed_runs (x ∷ xs) (e ++ rest) 0) (e ++ rest) (e' ++ rest') (runs-from (x ∷ xs) (e ++ rest) 0) v) ∙ word-front

    one-count : held_in r e' w' ≡ held_in r e w
    one-count = sym (held-by-word r e' w') ∙ ap (records_held r) one-length ∙ held-by-word r e w

    ends : All (Ends (length e)) (placed_records r (held_in r e w) 4)
    ends = records-end r (held_in r e w) 4 (length e) (omega (arith, held-long r e w))

    as-placed : Alike (placed_records r (held_in r e w) 4 ++ map (moved (length e)) (placed_runs xs rest 0)) (e ++ rest) (e' ++ rest')
    as-placed = subst (λ l. Alike l (e ++ rest) (e' ++ rest')) placed_first v

    alike-after : Alike (placed_runs xs rest 0) rest rest'
    alike-after = split-second (length e) e e' rest rest' refl one-length (placed_records r (held_in r e w) 4) (placed_runs xs rest 0) ends as-placed

    -- the records themselves, after the two words
    alike-records : Alike (placed_records r (held_in r e w) 0) (drop 4 e) (drop 4 e')
    alike-records =
        let z = split-first (length e) e e' rest rest' refl one-length (placed_records r (held_in r e w) 4) (placed_runs xs rest 0) ends as-placed in
        let q = parted (map (moved 4) (placed_records r (held_in r e w) 0)) 4 e e' (subst (λ l. Alike l e e') (placed-from r (held_in r e w) 4) z) in
        split-second 4 (take 4 e) (take 4 e') (drop 4 e) (drop 4 e') (length-take-le 4 e w.headed) (length-take-le 4 e' w'.headed) []
        (placed_records r (held_in r e w) 0) tt q

    same-records : Pairs (SameRecord r) (parts (record_length r) (held_in r e w) (drop 4 e ++ rest)) (parts (record_length r) (held_in r e' w') (drop 4 e' ++ rest'))
    same-records =
        let a : length (drop 4 e) ≡ held_in r e w * record_length r = omega (arith, length-drop 4 e, held-long r e w) in
        let b : length (drop 4 e') ≡ held_in r e w * record_length r = omega (arith, length-drop 4 e', one-length, held-long r e w) in
        subst (λ n. Pairs (SameRecord r) (parts (record_length r) (held_in r e w) (drop 4 e ++ rest)) (parts (record_length r) n (drop 4 e' ++ rest')))
        (sym one-count) (same_parts r (held_in r e w) (drop 4 e) (drop 4 e') rest rest' a b alike-records)

as_lent : (xs : List DueRun) (l l' m m' : List LentRun) → l ≡ m → l' ≡ m' → All (SameRun m m') xs → All (SameRun l l') xs
as_lent xs l l' m m' e e' h = subst (λ q. All (SameRun q l') xs) (sym e) (subst (λ q. All (SameRun m q) xs) (sym e') h)

pub same_runs : (lo hi : ℕ) (xs : List DueRun) (s s' : List ℕ) → Grows lo hi xs → Runs xs s → Runs xs s' → Alike (placed_runs xs s 0) s s' →
    All (SameRun (lent_runs xs s) (lent_runs xs s')) xs
unfolding front
same_runs lo hi [] _ _ g no_run no_run v = tt
same_runs lo hi (x ∷ xs) _ _ g (run r e rest k w h) (run r' e' rest' k' w' h') v =
    let same : r' ≡ r = let z : some r' ≡ some r = sym k' ∙ k in cc in
    let u : ProperRun r e' = subst (λ q. ProperRun q e') same w' in
    let l = lent-first x xs r k e rest w in
    let l' = lent-first x xs r k e' rest' u in
    let one = front x xs r k e rest w in
    let two = front x xs r k e' rest' u in
    let here : SameRun (one ∷ lent_runs xs rest) (two ∷ lent_runs xs rest') x =
    record {
      relation = r;
      run = one;
      run' = two;
      relation_is = k;
      found = run-here one (lent_runs xs rest);
      found' = run-here two (lent_runs xs rest');
      alike = same-records x xs r k e rest w e' rest' u v;
    } in
    let later = all_after (x.place + 1) hi _ (SameRun (one ∷ lent_runs xs rest) (two ∷ lent_runs xs rest')) xs g.1
    (λ y a s. same-later one two (lent_runs xs rest) (lent_runs xs rest') y (λ b. omega (arith, a, b)) (λ b. omega (arith, a, b)) s)
    (same_runs (x.place + 1) hi xs rest rest' g.1 h h' (alike-after x xs r k e rest w e' rest' u v)) in
    as_lent (x ∷ xs) (lent_runs (x ∷ xs) (e ++ rest)) (lent_runs (x ∷ xs) (e' ++ rest')) (one ∷ lent_runs xs rest) (two ∷ lent_runs xs rest') l l' (here, later)
