-- Each way through the tests of a record, in the code's terms.
use Prim.Native.Nat.{ℕ, zero, suc, ◌+◌, ◌-◌, ◌/◌, ◌≤◌, ◌<◌}
use mathlib.Core.Path.{◌≡◌, refl, sym, ap, ap₂, ◌∙◌}
use mathlib.Core.Bool.{true, false, ◌&&◌}
use mathlib.Core.List.{List, [], ◌∷◌, ◌++◌, map}
use mathlib.Core.Option
use mathlib.Core.Option.{Option, none, some}
use native.Mathlib.Nat.{zero-add}
use native.Mathlib.Numerals.{add-one}
use native.Mathlib.Omega.{arith}
use lib.Count.{ones}
use lib.Dec.{leb}
use lib.ListN.{length, get_or, take, drop, set, length-drop}
use lib.Seq.{sets, take-suc, get_or-drop}
use borrow.Author.Tests.{le-leb, lt-leb, leb-true}
use Rattle.wire.specs.Words.{byte_at}
use Rattle.wire.specs.Lists.{sum_of}
use Rattle.dictionary.specs.Format.{held}
use Rattle.dictionary.specs.Dictionary.{Field, Relation}
use Rattle.wire.specs.Classes.{field_class}
use Rattle.dictionary.specs.Internal.Walk.{is_field, next_place, fields_from, fields_of, type_of, entry_field, relation_at}
use Rattle.dictionary.proofs.Fields.{no_more, one_field, of-relation, further}
use Rattle.dictionary.proofs.Bytes.{and-true}
use Rattle.dictionary.proofs.Tests.{both_left, both_right, and-shift}
use Rattle.records.specs.Record.{field_count, missing_bytes, packed, record_length}
use Rattle.records.specs.Internal.Answers.{format_at}
use Rattle.store.specs.declared.layout.Layout.{Layout}
use Rattle.std.specs.Prelude.{Some, None}
use Rattle.std.specs.List.{list_all, range_with_len}
use Rattle.wire.specs.Options.{option_of}
use Rattle.store.specs.Internal.Layouts.{layout_by, layout_of, reading_place, reading_places, places_of, LaidOut, proper_by, marked_field, marked_at, kept_at, ones_at, tally_next, tally}
use Rattle.store.proofs.Records.{layout-short, layout-long}

-- ---- marks

module _ (t s : List ℕ) (p : ℕ) where
  -- the first i fields, then n more
  marked_on : (i n : ℕ) → marked_at t s p i && list_all (marked_field t s p) (range_with_len i n) ≡ marked_at t s p (i + n)
  unfolding marked_at
  marked_on i zero = let z : i + 0 ≡ i = omega arith in rw z (and-true (marked_at t s p i))
  marked_on i (suc n) =
      let e : i + 1 + n ≡ i + suc n = omega arith in
      and-shift (marked_at t s p i) (marked_field t s p i) (list_all (marked_field t s p) (range_with_len (i + 1) n)) ∙
      ap (λ k. marked_at t s p k && list_all (marked_field t s p) (range_with_len (i + 1) n)) (sym (add-one i)) ∙
      marked_on (i + 1) n ∙ ap (marked_at t s p) e

  pub marked_is : (n : ℕ) → list_all (marked_field t s p) (range_with_len 0 n) ≡ marked_at t s p n
  unfolding marked_at
  marked_is n = marked_on 0 n ∙ ap (marked_at t s p) (zero-add n)

-- ---- a kept record

module _ (l : Layout) (t s : List ℕ) (p : ℕ) where
  pub kept-inside : kept_at l t s p ≡ true → p + l.size ≤ length s
  unfolding kept_at proper_by
  kept-inside e =
      leb-true (p + l.size) (length s)
      (both_right (leb l.size 4096) (leb (p + l.size) (length s))
      (both_left _ _ (both_left _ _ (both_left _ _ (both_left _ _ (both_left _ _ e))))))

-- ---- bits set

sum-last : (l : List ℕ) (v : ℕ) → sum_of ones (l ++ v ∷ []) ≡ sum_of ones l + ones v
unfolding sum_of
sum-last [] v = omega arith
sum-last (x ∷ l) v = omega (arith, sum-last l v)

module _ (s : List ℕ) (p : ℕ) where
  pub no_ones : 0 ≡ ones_at s p 0
  unfolding ones_at sum_of
  no_ones = refl

  pub ones-next : (i sum n : ℕ) → p + i < length s → sum ≡ ones_at s p i → n ≡ ones (get_or s (p + i) 0) → sum + n ≡ ones_at s p (i + 1)
  unfolding ones_at
  ones-next i sum n h e f =
      let k : i < length (drop p s) = omega (arith, length-drop p s) in
      sym (ap (λ j. sum_of ones (take j (drop p s))) (add-one i) ∙ ap (sum_of ones) (take-suc (drop p s) i 0 k) ∙
      sum-last (take i (drop p s)) (get_or (drop p s) i 0) ∙ ap₂ (λ a b. a + ones b) (sym e) (get_or-drop p s i 0) ∙ ap (λ a. sum + a) (sym f))

-- ---- records one after another

more : (m k : ℕ) (o : Option ℕ) → Option.map (λ x. m + x) (Option.map (λ x. k + x) o) ≡ Option.map (λ x. m + k + x) o
more m k none = refl
more m k (some x) = ap some (omega arith)

module _ (l : Layout) (t s : List ℕ) (n : ℕ) where
  -- the tally from the start is the sum so far and the tally from here on
  abbrev pub Tallying : ℕ → ℕ → ℕ → Type 0
  Tallying p sum i = tally l t s n 10 ≡ Option.map (λ x. sum + x) (tally l t s (n - i) p)

  pub tally-begin : Tallying 10 0 0
  tally-begin = let z : n - 0 ≡ n = omega arith in rw z (by (tally l t s n 10))
    where
      by : (o : Option ℕ) → o ≡ Option.map (λ x. 0 + x) o
      by none = refl
      by (some x) = ap some (omega arith)

  step_of : (p i : ℕ) → i < n → tally l t s (n - i) p ≡ tally_next (kept_at l t s p) (ones_at s (p + 6) l.bits) (tally l t s (n - (i + 1)) (p + l.size))
  unfolding tally
  step_of p i h = let e : n - i ≡ suc (n - (i + 1)) = omega arith in rw e

  pub tally-next : (p sum i m : ℕ) → i < n → Tallying p sum i → kept_at l t s p ≡ true → m ≡ ones_at s (p + 6) l.bits →
      Tallying (p + l.size) (sum + m) (i + 1)
  tally-next p sum i m h e k f =
      let next : tally l t s (n - i) p ≡ Option.map (λ x. m + x) (tally l t s (n - (i + 1)) (p + l.size)) = step_of p i h ∙ rw (k, f) in
      e ∙ ap (Option.map (λ x. sum + x)) next ∙ more sum m (tally l t s (n - (i + 1)) (p + l.size))

  pub tally-wrong : (p sum i : ℕ) → i < n → Tallying p sum i → kept_at l t s p ≡ false → None ≡ option_of (tally l t s n 10)
  tally-wrong p sum i h e k = rw (e, step_of p i h, k)

  pub tally-end : (p sum i : ℕ) → n ≤ i → Tallying p sum i → Some sum ≡ option_of (tally l t s n 10)
  unfolding tally
  tally-end p sum i h e =
      let z : n - i ≡ 0 = omega arith in
      let f : sum + 0 ≡ sum = omega arith in
      rw (e, z, f)

-- ---- the table of a relation

-- the fields from q on
abbrev pub left_fields : List ℕ → ℕ → List Field
left_fields d q = map (entry_field d) (fields_from d q)

pub record Laying (d : List ℕ) (relation : ℕ) (t₀ t : List ℕ) (q at i : ℕ) : Type 0 where
  pub same-table : sets t₀ 0 (places_of (relation_at d relation)) ≡ sets t i (reading_places at (left_fields d q))
  pub all-long : at + packed (left_fields d q) ≡ record_length (relation_at d relation)
  pub few : i ≤ q

pub lay-begin : (d : List ℕ) (relation : ℕ) (t : List ℕ) (q n m : ℕ) → q ≡ next_place d relation → n ≡ field_count (relation_at d relation) →
    m ≡ (n + 7) / 8 → Laying d relation t t q (6 + m) 0
unfolding places_of record_length relation_at
lay-begin d relation t q n m e f g =
    let fields : left_fields d q ≡ map (entry_field d) (fields_of d relation) =
    ap (map (entry_field d)) (ap (fields_from d) e ∙ sym (of-relation d relation)) in
    let at : 6 + m ≡ 6 + missing_bytes (relation_at d relation) = ap (λ z. 6 + z) (g ∙ ap (λ z. (z + 7) / 8) f) in
    record {
      same-table = ap₂ (λ a l. sets t 0 (reading_places a l)) (sym at) (sym fields);
      all-long = ap₂ (λ a l. a + packed l) at fields;
      few = omega arith;
    }

module _ (d : List ℕ) (relation : ℕ) (t₀ t : List ℕ) (q at i : ℕ) (k : Laying d relation t₀ t q at i) where
  next-fields : is_field d q ≡ true → left_fields d q ≡ entry_field d q ∷ left_fields d (next_place d q)
  next-fields e = ap (map (entry_field d)) (one_field d q e)

  pub lay-inside : (h : ℕ) → is_field d q ≡ true → h ≡ held (format_at d q) → at + h ≤ record_length (relation_at d relation)
  unfolding packed sum_of
  lay-inside h e f = omega (arith, ap packed (next-fields e), k.all-long, f)

  pub lay-next : (x h : ℕ) → is_field d q ≡ true → x ≡ reading_place (format_at d q).type at → h ≡ held (format_at d q) →
      Laying d relation t₀ (set t i x) (next_place d q) (at + h) (i + 1)
  unfolding reading_places packed sum_of
  lay-next x h e f g =
      record {
        same-table = k.same-table ∙ ap (λ l. sets t i (reading_places at l)) (next-fields e) ∙
            rw (← f, ← g, add-one i);
        all-long = omega (arith, ap packed (next-fields e), k.all-long, g);
        few = omega (arith, k.few, further d q e);
      }

  pub lay-end : is_field d q ≡ false → t ≡ sets t₀ 0 (places_of (relation_at d relation))
  unfolding reading_places
  lay-end e = sym (k.same-table ∙ ap (λ l. sets t i (reading_places at (map (entry_field d) l))) (no_more d q e))

pub type_is : (d : List ℕ) (q : ℕ) → type_of (field_class (byte_at d (q + 6))) ≡ (format_at d q).type
unfolding entry_field
type_is d q = refl

module _ (r : Relation) (t t' : List ℕ) (x : Layout) where
  pub laid-short : (n : ℕ) → (n ≡ record_length r) × (n ≤ 4096) → t' ≡ sets t 0 (places_of r) → x ≡ layout_by r n → LaidOut r t t' x
  unfolding layout_of
  laid-short n k e f =
      let h : record_length r ≤ 4096 = omega (arith, k.0, k.1) in
      record {
        layout_is = f ∙ ap (layout_by r) (k.0 ∙ sym (layout-short r h));
        table_is = rw (le-leb (record_length r) 4096 h) e;
      }

  pub laid-long : 4096 < record_length r → t' ≡ t → x ≡ layout_by r 4097 → LaidOut r t t' x
  unfolding layout_of
  laid-long h e f =
      record { layout_is = f ∙ ap (layout_by r) (sym (layout-long r h)); table_is = rw (lt-leb (record_length r) 4096 h) e }
