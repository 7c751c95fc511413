-- The rows of any, unique and statistic codes have their runs, record for record.
use Prim.Native.Nat.{ℕ, zero, suc, ◌+◌, ◌*◌, ◌<◌, ◌≤◌}
use mathlib.Core.Path.{◌≡◌, refl, sym, ap, ap₂, ◌∙◌}
use mathlib.Core.Bool.{Bool, true, false, ◌&&◌}
use mathlib.Core.List.{List, [], ◌∷◌, ◌++◌, map, append_assoc}
use mathlib.Core.Option
use mathlib.Core.Option.{Option, none, some}
use native.Mathlib.Omega.{arith}
use lib.Dec.{eqb, leb}
use lib.ListN.{length, drop}
use lib.Seq.{get_or-drop, drop-drop}
use borrow.Author.Tests.{eq-eqb, ne_eqb}
use Rattle.wire.specs.Words.{byte_at, word_at}
use Rattle.wire.specs.Lists.{find}
use Rattle.dictionary.specs.Dictionary.{Relation, proper, dictionary}
use Rattle.dictionary.specs.Naming.{Name, relation_of}
use Rattle.dictionary.specs.Internal.Walk.{relation_place, relation_at}
use Rattle.dictionary.proofs.Relations.{found-is}
use Rattle.dictionary.proofs.Tests.{both_left, both_right}
use Rattle.records.specs.Record.{record_length, proper_record, as_due, next_record}
use Rattle.records.specs.Runs as Runs
use Rattle.records.specs.Runs.{proper_records, records_held, proper_run}
use Rattle.records.proofs.Records.{proper-whole, proper-word}
use Rattle.grammar.proofs.StepLaws.{absurd-eq}
use Rattle.meaning.specs.Runs.{run_relations, parts, records_in, LentRun, lent_runs}
use Rattle.walking.specs.Sees.{Pairs, no_pair, pairs}
use Rattle.walking.proofs.Sites.{All, all_append}
use Rattle.walking.proofs.Due.{all-follow, Grows}
use Rattle.surroundings.specs.Slots.{place_or}
use Rattle.surroundings.specs.Bindings.{Binding, binding_rows, binding_number, binding_relation, binding_such, binding_end, binding_first, binding_count, binding_after, binding_kind, kind_if, record_places, place_if}
use Rattle.runs.specs.Filled.{with_run_of, filled_bindings}
use Rattle.runs.proofs.FilledLaws.{next-run}
use Rattle.sights.specs.Sites.{Site}
use Rattle.sights.specs.Seen.{Stands, LaidRun, Kinds, with_kind, with_kinds}
use Rattle.sights.proofs.Starts.{Unbound}
use Rattle.sights.proofs.Tables.{cell-of, coded_in, index-past, element-past}
use Rattle.sights.proofs.Trees.{row_of, due_of, Good}

-- ---- the records of one run

record-pairs : (r : Relation) (s : List ℕ) (n p : ℕ) → 0 < p → proper_records r n s p ≡ true →
    Pairs (Stands r s) (record_places s n p) (parts (record_length r) n (drop p s))
unfolding proper_records record_places parts
record-pairs r s zero p h e = no_pair
record-pairs r s (suc n) p h e =
    let a = both_left (proper_record r s p) (proper_records r n s (p + record_length r)) e in
    let b = both_right (proper_record r s p) (proper_records r n s (p + record_length r)) e in
    let w = proper-word r s p a in
    let i = record-pairs r s n (p + record_length r) (omega (arith, h)) b in
    let rest : Pairs (Stands r s) (record_places s n (p + word_at s p)) (parts (record_length r) n (drop (record_length r) (drop p s))) =
    rw (w, drop-drop (record_length r) p s) i in
    pairs (h, proper-whole r s p a, refl) rest

word_on : (s : List ℕ) (q : ℕ) → word_at (drop q s) 0 ≡ word_at s q
word_on s q =
    let a : q + 0 ≡ q = omega arith in
    ap₂ (λ x y. x + 256 * y) (get_or-drop q s 0 0 ∙ ap (byte_at s) a) (get_or-drop q s 1 0)

run-proper : (r : Relation) (s : List ℕ) (q : ℕ) → proper_run r s q ≡ true → proper_records r (records_held r (word_at s q)) s (q + 4) ≡ true
unfolding proper_run
run-proper r s q e =
    both_right (leb 4 (word_at s q) && leb (q + word_at s q) (length s) && eqb (word_at s (q + 2)) 7 &&
    eqb (4 + records_held r (word_at s q) * record_length r) (word_at s q)) (proper_records r (records_held r (word_at s q)) s (q + 4)) e

run-pairs : (r : Relation) (s : List ℕ) (q : ℕ) → proper_run r s q ≡ true →
    Pairs (Stands r s) (record_places s (records_held r (word_at s q)) (q + 4)) (records_in (some r) (drop q s))
run-pairs r s q e =
    rw (word_on s q, drop-drop 4 q s)
    (record-pairs r s (records_held r (word_at s q)) (q + 4) (omega arith) (run-proper r s q e))

-- ---- one run after another

pub entry_of : (d : List ℕ) (rs : List Relation) → dictionary d ≡ proper rs → (n : Name) (r : Relation) → relation_of rs n ≡ some r →
    relation_at d (place_or (relation_place d n)) ≡ r
entry_of d rs h n r e = by (relation_place d n) (found-is d rs h n ∙ e)
  where
    by : (o : Option ℕ) → Option.map (relation_at d) o ≡ some r → relation_at d (place_or o) ≡ r
    by none f = absurd-eq (cc)
    by (some z) f = cc

find_past : {A : Type 0} (test : A → Bool) (xs : List A) (y : A) (ys : List A) → All (λ x. test x ≡ false) xs → test y ≡ true →
    find test (xs ++ y ∷ ys) ≡ some y
unfolding find
find_past test [] y ys a e = rw e
find_past test (x ∷ xs) y ys a e = rw a.0 (find_past test xs y ys a.1 e)

due-next : (rs : List Relation) (z : Site) (zs : List Site) (r : Relation) → relation_of rs z.stream.relation ≡ some r →
    run_relations (map (due_of rs) (z ∷ zs)) ≡ r ∷ run_relations (map (due_of rs) zs)
unfolding run_relations
due-next rs z zs r e = rw e

-- those that stand before lo stand before a later place, and not at it
module _ {A : Type 0} (f : A → ℕ) (lo p : ℕ) (later : lo ≤ p) (xs : List A) (low : All (λ x. f x < lo) xs) where
  all-elsewhere : All (λ x. eqb (f x) p ≡ false) xs
  all-elsewhere = all-follow (λ x. f x < lo) (λ x. eqb (f x) p ≡ false) xs (λ x b. ne_eqb (f x) p (λ e. absurd (omega (arith, b, e)))) low

  all-before : All (λ x. f x < p) xs
  all-before = all-follow (λ x. f x < lo) (λ x. f x < p) xs (λ x b. omega (arith, b)) low

module _ (d : List ℕ) (rs : List Relation) (h : dictionary d ≡ proper rs) (s : List ℕ) where
  -- the row of a site whose run stands at q, with a kind, and the run
  abbrev filled_row : ℕ → ℕ → Site → Binding
  filled_row q c z = with_run_of (with_kind (row_of d z) c) (q + 4) (records_held (relation_at d (row_of d z).relation) (word_at s q))

  abbrev lent_run : ℕ → Site → LentRun
  lent_run q z = record { place = z.place; records = records_in (relation_of rs z.stream.relation) (drop q s) }

  -- the rows before it have lower codes, and the runs before it lower places
  site-laid : (z : Site) (c q lo : ℕ) (before after : List Binding) (lower higher : List LentRun) → 0 < lo → lo ≤ z.place →
      All (λ b. b.code < lo) before → All (λ l. l.place < lo) lower → Good rs z → kind_if c ≡ z.kind →
      proper_run (relation_at d (row_of d z).relation) s q ≡ true →
      LaidRun d s (binding_rows (before ++ filled_row q c z ∷ after)) rs (lower ++ lent_run q z ∷ higher) z
  site-laid z c q lo before after lower higher l k a b g m w =
      let r = g.0.0 in
      let e = entry_of d rs h z.stream.relation r g.0.1 in
      let v : proper_run r s q ≡ true = rw e at w in
      let row = filled_row q c z in
      let all = before ++ row ∷ after in
      let i = element-past before row after in
      let first = cell-of all (length before) binding_first row (omega arith) i in
      let count = cell-of all (length before) binding_count row (omega arith) i in
      record {
        row = length before;
        r = r;
        run = lent_run q z;
        coded = omega (arith, l, k);
        row_is =
            coded_in all z.place
            ∙ index-past (λ (b : Binding). eqb b.code z.place) before row after
            (all-elsewhere (λ (b : Binding). b.code) lo z.place k before a) (eq-eqb z.place z.place refl);
        context_is = cell-of all (length before) binding_number row (omega arith) i;
        relation_is = g.0.1;
        entry_is = ap (relation_at d) (cell-of all (length before) binding_relation row (omega arith) i) ∙ e;
        such_is = ap place_if (cell-of all (length before) binding_such row (omega arith) i) ∙ g.1;
        after_is = cell-of all (length before) binding_after row (omega arith) i;
        end_is = cell-of all (length before) binding_end row (omega arith) i;
        kind_is = ap kind_if (cell-of all (length before) binding_kind row (omega arith) i) ∙ m;
        run_is =
            find_past (λ (x : LentRun). eqb x.place z.place) lower (lent_run q z) higher
            (all-elsewhere (λ (x : LentRun). x.place) lo z.place k lower b) (eq-eqb z.place z.place refl);
        records_are = rw (first, count, e, g.0.1) (run-pairs r s q v);
      }

  pub all-lent : (cs : List ℕ) (zs : List Site) (q lo hi : ℕ) (before : List Binding) (lower : List LentRun) (u : List ℕ) (lent : List LentRun) →
      Kinds cs zs → 0 < lo → Grows lo hi (map (due_of rs) zs) → All (λ b. b.code < lo) before → All (λ l. l.place < lo) lower →
      All (Good rs) zs → Runs.runs (run_relations (map (due_of rs) zs)) s q ≡ as_due →
      u ≡ binding_rows (before ++ filled_bindings d s q (with_kinds (map (row_of d) zs) cs)) →
      lent ≡ lower ++ lent_runs (map (due_of rs) zs) (drop q s) → All (LaidRun d s u rs lent) zs
  unfolding filled_bindings lent_runs with_kinds
  all-lent _ _ q lo hi before lower u lent no_pair l w a b g due e f = tt
  all-lent (c ∷ cs) (z ∷ zs) q lo hi before lower u lent (pairs m ms) l w a b g due e f =
      let r = g.0.0.0 in
      let n = next-run r (run_relations (map (due_of rs) zs)) s q (rw (due-next rs z zs r g.0.0.1) at due) in
      let k = w.0 in
      let i = entry_of d rs h z.stream.relation r g.0.0.1 in
      let v : proper_run (relation_at d (row_of d z).relation) s q ≡ true = rw i n.0 in
      let here = z.place + 1 in
      let ready : 0 < here = omega arith in
      let row = filled_row q c z in
      let rest = filled_bindings d s (q + word_at s q) (with_kinds (map (row_of d) zs) cs) in
      let run = lent_run q z in
      let more = lent_runs (map (due_of rs) zs) (drop (q + word_at s q) s) in
      let step : drop (word_at (drop q s) 0) (drop q s) ≡ drop (q + word_at s q) s =
      ap (λ m. drop m (drop q s)) (word_on s q) ∙ drop-drop (word_at s q) q s in
      let lent_is : lent ≡ lower ++ run ∷ more = f ∙ ap (λ m. lower ++ run ∷ lent_runs (map (due_of rs) zs) m) step in
      let below : z.place < here = omega arith in
      let up : lo ≤ here = omega (arith, k) in (
        rw (e, lent_is) (site-laid z c q lo before rest lower more l k a b g.0 m v),
        all-lent cs zs (q + word_at s q) here hi (before ++ (row ∷ [])) (lower ++ (run ∷ [])) u lent ms ready w.1
            (all_append (λ (b : Binding). b.code < here) before (row ∷ []) (all-before (λ (b : Binding). b.code) lo here up before a) (below, tt))
            (all_append (λ (x : LentRun). x.place < here) lower (run ∷ []) (all-before (λ (x : LentRun). x.place) lo here up lower b) (below, tt))
            g.1 n.1
            (e ∙ ap binding_rows (sym (append_assoc before (row ∷ []) rest)))
            (lent_is ∙ sym (append_assoc lower (run ∷ []) more)),
      )

-- ---- they bind nothing yet

pub filled-unbound : (rs : List Relation) (d s cs : List ℕ) (zs : List Site) (q lo hi : ℕ) → 0 < lo → Grows lo hi (map (due_of rs) zs) →
    All Unbound (filled_bindings d s q (with_kinds (map (row_of d) zs) cs))
unfolding filled_bindings with_kinds
filled-unbound rs d s cs [] q lo hi l w = tt
filled-unbound rs d s [] (z ∷ zs) q lo hi l w = tt
filled-unbound rs d s (c ∷ cs) (z ∷ zs) q lo hi l w =
    let k = w.0 in
    let here : 0 < z.place + 1 = omega arith in
    ((omega (arith, l, k), refl), filled-unbound rs d s cs zs (q + word_at s q) (z.place + 1) hi here w.1)
