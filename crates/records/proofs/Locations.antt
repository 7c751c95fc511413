-- A field by its number: its entry in the dictionary, and its offset in a record's entry.
use mathlib.Core.Path.{◌≡◌, refl, sym, ap, ◌∙◌}
use mathlib.Core.Bool.{Bool, true, false, cond}
use mathlib.Core.List.{List}
use mathlib.Core.Option.{Option, none, some}
use Prim.Native.Nat.{ℕ, zero, suc, ◌+◌, ◌-◌, ◌/◌, ◌≤◌, ◌<◌}
use native.Mathlib.Omega.{arith}
use lib.Dec.{leb}
use lib.ListN.{length, take, get_elem?}
use borrow.Author.Tests.{le-leb, lt-leb, leb-true, leb-false}
use Rattle.dictionary.specs.Naming.{format_of}
use Rattle.dictionary.specs.Internal.Walk.{is_field, next_place, fields_from, fields_of, relation_at}
use Rattle.std.specs.Prelude.{Some}
use Rattle.wire.specs.Options.{option_of}
use Rattle.dictionary.proofs.Fields.{no_more, one_field, of-relation, few-fields}
use Rattle.dictionary.proofs.FieldFormats.{format-found}
use Rattle.dictionary.proofs.FieldSearches.{entry_next}
use Rattle.records.specs.declared.lengths.Located.{Located}
use Rattle.records.specs.Record.{field_count, offset_of}
use Rattle.records.specs.Internal.Answers.{format_at, held_at, all_held}
use Rattle.records.specs.Internal.Locations.{in_record, reached_from, located_in, located_of}
use Rattle.records.proofs.Offsets.{held_none, held_next, count_next, count_of, offset-is}

-- ---- an entry and an offset within a record

entry_of : Option (ℕ × ℕ) → ℕ
entry_of none = 0
entry_of (some x) = x.0

offset-of : Option (ℕ × ℕ) → ℕ
offset-of none = 0
offset-of (some x) = x.1

is-past : (o : Option ℕ) (n : ℕ) → 4096 < n → in_record o n ≡ none
is-past none n h = refl
is-past (some q) n h = rw (lt-leb n 4096 h)

-- what is past a record, or nowhere, is so at a larger offset
still-none : (o : Option ℕ) (n m : ℕ) → n ≤ m → in_record o n ≡ none → in_record o m ≡ none
still-none none n m l e = refl
still-none (some q) n m l e = by (leb n 4096) refl
  where
    by : (b : Bool) → leb n 4096 ≡ b → in_record (some q) m ≡ none
    by true t =
        let s : ◌≡◌ {A = Option (ℕ × ℕ)} (some (q, n)) none = rw t at e in
        let z : ◌≡◌ {A = ℕ} 0 1 = cc in
        absurd (omega arith)
    by false t = let h = leb-false n 4096 t in is-past (some q) m (omega arith)

module _ (o : Option ℕ) (n p k : ℕ) where
  abbrev Found : Type 0
  Found = (o ≡ some p) × (k ≡ n) × (n ≤ 4096)

  found_in : in_record o n ≡ some (p, k) → Found
  unfolding entry_of offset-of
  found_in = by o
    where
      small : (b : Bool) (q : ℕ) → leb n 4096 ≡ b → cond {A = Option (ℕ × ℕ)} b (some (q, n)) none ≡ some (p, k) →
          (some q ≡ some p) × (k ≡ n) × (n ≤ 4096)
      small true q t e = (ap some (ap entry_of e), sym (ap offset-of e), leb-true n 4096 t)
      small false q t e = let z : ◌≡◌ {A = ℕ} 0 1 = cc in absurd (omega arith)

      by : (x : Option ℕ) → in_record x n ≡ some (p, k) → (x ≡ some p) × (k ≡ n) × (n ≤ 4096)
      by none e = let z : ◌≡◌ {A = ℕ} 0 1 = cc in absurd (omega arith)
      by (some q) e = small (leb n 4096) q refl e

-- ---- field by field: what is left to pass, with the bytes that are passed

abbrev pub rest : List ℕ → ℕ → ℕ → ℕ → Option (ℕ × ℕ)
rest d q left sum = in_record (get_elem? (fields_from d q) left) (sum + all_held d (take left (fields_from d q)))

pub rest-start : (d : List ℕ) (q i : ℕ) → reached_from d q i ≡ rest d q i 0
unfolding reached_from
rest-start d q i =
    let z : 0 + all_held d (take i (fields_from d q)) ≡ all_held d (take i (fields_from d q)) = omega arith in
    ap (in_record (get_elem? (fields_from d q) i)) (sym z)

module _ (d : List ℕ) (q left sum : ℕ) where
  pub rest-none : is_field d q ≡ false → rest d q left sum ≡ none
  rest-none e = rw (no_more d q e)

  pub rest-long : 0 < left → is_field d q ≡ true → 4096 < sum + held_at d q → rest d q left sum ≡ none
  rest-long h e l = is-past (get_elem? (fields_from d q) left) _ (omega (arith, held_next d q left h e))

  pub rest-next : {p n : ℕ} → 0 < left → is_field d q ≡ true → n ≡ held_at d q → p ≡ next_place d q →
      rest d q left sum ≡ rest d p (left - 1) (sum + n)
  rest-next {p} {n} h e k f =
      let there = ap (λ x. all_held d (take (left - 1) (fields_from d x))) f in
      let s : sum + all_held d (take left (fields_from d q)) ≡ sum + n + all_held d (take (left - 1) (fields_from d p)) =
      omega (arith, held_next d q left h e, there, k) in
      rw (entry_next d q left f e (λ z. omega arith), s)

  pub rest-here : left ≡ 0 → is_field d q ≡ true → sum ≤ 4096 → rest d q left sum ≡ some (q, sum)
  rest-here z e h =
      let s : sum + all_held d (take 0 (fields_from d q)) ≡ sum = omega (arith, held_none d q 0) in
      rw (z, s, one_field d q e, le-leb sum 4096 h)

-- ---- the fields before an entry and from it on

module _ (d : List ℕ) (q e : ℕ) where
  count-first : (b : Bool) → is_field d q ≡ b → get_elem? (fields_from d q) 0 ≡ some e →
      0 + length (fields_from d e) ≡ length (fields_from d q)
  count-first true t h =
      let s : some q ≡ some e = rw (one_field d q t) at h in
      let same : q ≡ e = cc in
      omega (arith, ap (λ x. length (fields_from d x)) same)
  count-first false t h =
      let s : none ≡ some e = rw (no_more d q t) at h in
      let z : ◌≡◌ {A = ℕ} 0 1 = cc in
      absurd (omega arith)

  count-more : (i : ℕ) (b : Bool) → is_field d q ≡ b →
      (get_elem? (fields_from d (next_place d q)) i ≡ some e → i + length (fields_from d e) ≡ length (fields_from d (next_place d q))) →
      get_elem? (fields_from d q) (suc i) ≡ some e → suc i + length (fields_from d e) ≡ length (fields_from d q)
  count-more i true t k h =
      let s : get_elem? (fields_from d (next_place d q)) i ≡ some e = rw (one_field d q t) at h in
      omega (arith, k s, count_next d q t)
  count-more i false t k h =
      let s : none ≡ some e = rw (no_more d q t) at h in
      let z : ◌≡◌ {A = ℕ} 0 1 = cc in
      absurd (omega arith)

count_at_lem : (d : List ℕ) (i q e : ℕ) → get_elem? (fields_from d q) i ≡ some e →
    i + length (fields_from d e) ≡ length (fields_from d q)
count_at_lem d zero q e h = count-first d q e (is_field d q) refl h
count_at_lem d (suc i) q e h = count-more d q e i (is_field d q) refl (count_at_lem d i (next_place d q) e) h

-- ---- a field of a relation, whose fields stand from q on

module _ (d : List ℕ) (r i : ℕ) {q : ℕ} (start : q ≡ next_place d r) where
  same-fields : fields_of d r ≡ fields_from d q
  same-fields = of-relation d r ∙ ap (fields_from d) (sym start)

  offset-from : (n : ℕ) → n ≡ field_count (relation_at d r) →
      6 + (n + 7) / 8 + all_held d (take i (fields_from d q)) ≡ offset_of (relation_at d r) i
  offset-from n e = offset-is d r i n q e start

  pub located-none : none ≡ reached_from d q i → none ≡ located_in d r i
  unfolding reached_from located_in
  located-none s =
      let o = offset-from (field_count (relation_at d r)) refl in
      rw same-fields (sym (still-none (get_elem? (fields_from d q) i) (all_held d (take i (fields_from d q))) _ (omega (arith, o)) (sym s)))

  module _ (x : Located) (e : located_of (Some x) ≡ reached_from d q i) where
    here : Found (get_elem? (fields_from d q) i) (all_held d (take i (fields_from d q))) x.entry x.offset
    unfolding reached_from
    here = found_in (get_elem? (fields_from d q) i) (all_held d (take i (fields_from d q))) x.entry x.offset (sym e)

    pub reached-few : i + length (fields_from d x.entry) ≤ length d
    reached-few = omega (arith, count_at_lem d i q x.entry here.0, few-fields d q)

    pub reached-small : x.offset ≤ 4096
    reached-small = omega (arith, here.1, here.2)

    module _ {c m : ℕ} (f : c ≡ length (fields_from d x.entry)) (g : m ≡ (i + c + 7) / 8) where
      located_by : in_record (some x.entry) (6 + m + x.offset) ≡ located_in d r i
      unfolding located_in
      located_by =
          let n : i + c ≡ field_count (relation_at d r) =
          omega (arith, count_at_lem d i q x.entry here.0, f, ap (λ p. length (fields_from d p)) start, count_of d r) in
          let o : 6 + m + x.offset ≡ offset_of (relation_at d r) i = omega (arith, offset-from (i + c) n, here.1, g) in
          rw (same-fields, here.0, o)

      pub located_here : 6 + m + x.offset ≤ 4096 → some (x.entry, 6 + m + x.offset) ≡ located_in d r i
      located_here h = rw (← located_by, le-leb (6 + m + x.offset) 4096 h)

      pub located-past : 4096 < 6 + m + x.offset → none ≡ located_in d r i
      located-past h = rw (← located_by, lt-leb (6 + m + x.offset) 4096 h)

-- ---- what is located

module _ (d : List ℕ) (r i : ℕ) (x : Located) (e : located_of (Some x) ≡ located_in d r i) where
  located : Found (get_elem? (fields_of d r) i) (offset_of (relation_at d r) i) x.entry x.offset
  unfolding located_in
  located = found_in (get_elem? (fields_of d r) i) (offset_of (relation_at d r) i) x.entry x.offset (sym e)

  pub located-entry : get_elem? (fields_of d r) i ≡ some x.entry
  located-entry = located.0

  pub located-format : format_of (relation_at d r) i ≡ some (format_at d x.entry)
  located-format = format-found d r i (ap option_of (sym located.0))

  pub located-offset : x.offset ≡ offset_of (relation_at d r) i
  located-offset = located.1

  pub located-small : x.offset ≤ 4096
  located-small = omega (arith, located.1, located.2)
