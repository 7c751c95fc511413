-- A run of records is as due exactly if it is one proper record for each context, joined.
use Prim.Native.Nat.{ℕ, zero, suc, ◌+◌, ◌*◌, ◌-◌, ◌/◌, ◌%◌, ◌^◌, ◌<◌, ◌≤◌}
use mathlib.Core.Path.{◌≡◌, refl, sym, ap, ap₂, subst, ◌∙◌}
use mathlib.Core.Bool.{Bool, true, false, cond, not, ◌&&◌}
use mathlib.Core.List.{List, [], ◌∷◌, ◌++◌}
use mathlib.Core.Option.{some}
use native.Mathlib.Omega.{arith}
use lib.Dec.{eqb, leb, ltb}
use lib.ListN.{length, get_or, take, drop, length-append, length-take, length-drop, take-append-drop, drop_of_length-le}
use lib.Seq.{get_or-take, get_or-drop, drop-drop, take_at, drop_at, length-take-le, drop-length}
use borrow.Author.Tests.{le-ltb, le-leb, eq-eqb, ltb-false, leb-true, eqb-true}
use Rattle.wire.specs.Words.{byte_at, word_at}
use Rattle.dictionary.specs.Dictionary.{Relation}
use Rattle.dictionary.proofs.Tests.{both_left, both_right}
use Rattle.records.specs.Record.{field_count, missing_bytes, record_length, bit_at, bits_clear, spare_clear, proper_record, Run, as_due, wrong_at, next_record, records}
use Rattle.records.proofs.Records.{shortest, proper-whole}
use Rattle.grammar.specs.Environment.{Context}
use Rattle.meaning.specs.Evaluation.{due_relations}
use Rattle.grammar.proofs.StepLaws.{absurd-eq}
use Rattle.meaning.specs.Demand.{ProperRecord, Records, no_record, entry}

-- every context has a relation
abbrev pub AllRelated : List Context → Type 0
AllRelated [] = Unit {0}
AllRelated (x ∷ xs) = ((r : Relation) × (x.relation ≡ some r)) × AllRelated xs

-- ---- an entry, in the run and alone

module _ (s : List ℕ) (p n : ℕ) where
  entry-byte : (i : ℕ) → i < n → byte_at (take n (drop p s)) i ≡ byte_at s (p + i)
  entry-byte i h = get_or-take n (drop p s) i 0 h ∙ get_or-drop p s i 0

  pub entry-word : (i : ℕ) → i + 1 < n → word_at (take n (drop p s)) i ≡ word_at s (p + i)
  entry-word i h =
      let e : p + (i + 1) ≡ p + i + 1 = omega arith in
      ap₂ (λ x y. x + 256 * y) (entry-byte i (omega arith)) (entry-byte (i + 1) h ∙ ap (byte_at s) e)

  entry-bit : (i : ℕ) → 6 + i / 8 < n → bit_at (take n (drop p s)) 0 i ≡ bit_at s p i
  unfolding bit_at
  entry-bit i h =
      let e : 0 + 6 + i / 8 ≡ 6 + i / 8 = omega arith in
      let g : p + (6 + i / 8) ≡ p + 6 + i / 8 = omega arith in
      ap (λ z. eqb (z / 2 ^ (i % 8) % 2) 1) (ap (byte_at (take n (drop p s))) e ∙ entry-byte (6 + i / 8) h ∙ ap (byte_at s) g)

  entry-bits : (k i m : ℕ) → i + k ≤ 8 * m → 6 + m ≤ n → bits_clear (take n (drop p s)) 0 i k ≡ bits_clear s p i k
  unfolding bits_clear
  entry-bits zero i m h l = refl
  entry-bits (suc k) i m h l =
      let b : i / 8 < m = omega arith in
      ap₂ (λ x y. not x && y) (entry-bit i (omega arith)) (entry-bits k (i + 1) m (omega arith) l)

spare-room : (r : Relation) → field_count r + (8 * missing_bytes r - field_count r) ≤ 8 * missing_bytes r
spare-room r = let h : field_count r ≤ 8 * ((field_count r + 7) / 8) = omega arith in omega arith

all-six : (a b c d e f : Bool) → a && b && c && d && e && f ≡ true → (a ≡ true) × (b ≡ true) × (c ≡ true) × (d ≡ true) × (e ≡ true) × (f ≡ true)
all-six a b c d e f h =
    let h5 = both_left (a && b && c && d && e) f h in
    let h4 = both_left (a && b && c && d) e h5 in
    let h3 = both_left (a && b && c) d h4 in
    let h2 = both_left (a && b) c h3 in
    (both_left a b h2, both_right a b h2, both_right (a && b) c h3, both_right (a && b && c) d h4, both_right (a && b && c && d) e h5, both_right (a && b && c && d && e) f h)

module _ (r : Relation) (s : List ℕ) (p : ℕ) where
  abbrev entry_at : List ℕ
  entry_at = take (record_length r) (drop p s)

  spare-same : spare_clear r entry_at 0 ≡ spare_clear r s p
  spare-same = entry-bits s p (record_length r) (8 * missing_bytes r - field_count r) (field_count r) (missing_bytes r) (spare-room r) (shortest r)

  pub proper-alone : proper_record r s p ≡ true → ProperRecord r entry_at
  unfolding proper_record
  proper-alone e =
      let n = record_length r in
      let h = all-six (leb n 4096) (leb (p + n) (length s)) (eqb (word_at s p) n) (eqb (word_at s (p + 2)) 3) (eqb (word_at s (p + 4)) r.id) (spare_clear r s p) e in
      let l : p + n ≤ length s = leb-true (p + n) (length s) h.1 in
      let x = shortest r in
      let z : p + 0 ≡ p = omega arith in
      record {
        sized = length-take-le n (drop p s) (rw length-drop (omega arith));
        small = leb-true n 4096 h.0;
        length_word = entry-word s p n 0 (omega arith) ∙ ap (word_at s) z ∙ eqb-true (word_at s p) n h.2;
        kind_word = entry-word s p n 2 (omega arith) ∙ eqb-true (word_at s (p + 2)) 3 h.3;
        id_word = entry-word s p n 4 (omega arith) ∙ eqb-true (word_at s (p + 4)) r.id h.4;
        spare = spare-same ∙ h.5;
      }

  pub proper-within : proper_record r s p ≡ true → p + record_length r ≤ length s
  unfolding proper_record
  proper-within e =
      let n = record_length r in
      let h = all-six (leb n 4096) (leb (p + n) (length s)) (eqb (word_at s p) n) (eqb (word_at s (p + 2)) 3) (eqb (word_at s (p + 4)) r.id) (spare_clear r s p) e in
      leb-true (p + n) (length s) h.1

  pub alone-proper : p + record_length r ≤ length s → ProperRecord r entry_at → proper_record r s p ≡ true
  unfolding proper_record
  alone-proper h e =
      let n = record_length r in
      let x = shortest r in
      let z : p + 0 ≡ p = omega arith in
      let a = le-leb n 4096 e.small in
      let b = le-leb (p + n) (length s) h in
      let c = eq-eqb (word_at s p) n (ap (word_at s) (sym z) ∙ sym (entry-word s p n 0 (omega arith)) ∙ e.length_word) in
      let d = eq-eqb (word_at s (p + 2)) 3 (sym (entry-word s p n 2 (omega arith)) ∙ e.kind_word) in
      let f = eq-eqb (word_at s (p + 4)) r.id (sym (entry-word s p n 4 (omega arith)) ∙ e.id_word) in
      let g = sym spare-same ∙ e.spare in
      rw (a, b, c, d, f, g)

-- ---- a run, from a place on

pub due-first : (x : Context) (xs : List Context) (r : Relation) → x.relation ≡ some r → due_relations (x ∷ xs) ≡ r ∷ due_relations xs
unfolding due_relations
due-first x xs r e = rw e

-- the first record is proper, and the rest is as due
next-due : (r : Relation) (rs : List Relation) (s : List ℕ) (p : ℕ) → records (r ∷ rs) s p ≡ as_due →
    (p < length s) × (proper_record r s p ≡ true) × (records rs s (p + record_length r) ≡ as_due)
unfolding records
next-due r rs s p e = by (proper_record r s p) refl e
  where
    by : (b : Bool) → proper_record r s p ≡ b → next_record b p (records rs s (p + record_length r)) ≡ as_due →
        (p < length s) × (proper_record r s p ≡ true) × (records rs s (p + record_length r) ≡ as_due)
    by false g e = absurd-eq (cc)
    by true g e =
        let whole = proper-whole r s p g in
        let least = shortest r in
        (omega arith, g, e)

end-due : (s : List ℕ) (p : ℕ) → records [] s p ≡ as_due → length s ≤ p
unfolding records
end-due s p e = by (ltb p (length s)) refl e
  where
    by : (a : Bool) → ltb p (length s) ≡ a → cond a (wrong_at p) as_due ≡ as_due → length s ≤ p
    by true f e = absurd-eq (cc)
    by false f e = ltb-false p (length s) f

due-records : (xs : List Context) (s : List ℕ) (p : ℕ) → AllRelated xs → records (due_relations xs) s p ≡ as_due → Records xs (drop p s)
unfolding due_relations
due-records [] s p k e = subst (Records []) (sym (drop_of_length-le s (end-due s p e))) no_record
due-records (x ∷ xs) s p k e =
    let r = k.0.0 in
    let n = record_length r in
    let f : records (r ∷ due_relations xs) s p ≡ as_due = rw (due-first x xs r k.0.1) at e in
    let h = next-due r (due_relations xs) s p f in
    let j : take n (drop p s) ++ drop (p + n) s ≡ drop p s = ap (λ z. take n (drop p s) ++ z) (sym (drop-drop n p s)) ∙ take-append-drop n (drop p s) in
    subst (Records (x ∷ xs)) j (entry r (take n (drop p s)) (drop (p + n) s) k.0.1 (proper-alone r s p h.1) (due-records xs s (p + n) k.1 h.2))

records-due : (xs : List Context) (s rows : List ℕ) (p : ℕ) → drop p s ≡ rows → p ≤ length s → Records xs rows → records (due_relations xs) s p ≡ as_due
unfolding due_relations records
records-due [] s _ p f h no_record = let l = ap length f in let g = length-drop p s in rw (le-ltb p (length s) (omega (arith, l, g)))
records-due (x ∷ xs) s _ p f h (entry r e rows k w v) =
    let n = record_length r in
    let z = w.sized in
    let a = take_at e rows n z in
    let b = drop_at e rows n z in
    let g = length-drop p s in
    let l : length (drop p s) ≡ length e + length rows = ap length f ∙ length-append e rows in
    let c : p + n ≤ length s = let x = shortest r in omega (arith, z, g, l) in
    let q : ProperRecord r (take n (drop p s)) = subst (ProperRecord r) (sym (ap (take n) f ∙ a)) w in
    rw (k, records, alone-proper r s p c q)
    (records-due xs s rows (p + n) (sym (drop-drop n p s) ∙ ap (drop n) f ∙ b) c v)

module _ (xs : List Context) (rows : List ℕ) where
  pub due-is : AllRelated xs → records (due_relations xs) rows 0 ≡ as_due → Records xs rows
  due-is k e = due-records xs rows 0 k e

  pub is-due : Records xs rows → records (due_relations xs) rows 0 ≡ as_due
  is-due h = records-due xs rows rows 0 refl (omega arith) h

pub related : (xs : List Context) (rows : List ℕ) → Records xs rows → AllRelated xs
related [] _ no_record = tt
related (x ∷ xs) _ (entry r e rows k w v) = ((r, k), related xs rows v)

-- ---- the length words of records

pub word-is : (r : Relation) (rs : List Relation) (s : List ℕ) (p : ℕ) → records (r ∷ rs) s p ≡ as_due → word_at s p ≡ record_length r
word-is r rs s p e =
    let h = proper-alone r s p (next-due r rs s p e).1 in
    let x = shortest r in
    let z : p + 0 ≡ p = omega arith in
    sym (entry-word s p (record_length r) 0 (omega arith) ∙ ap (word_at s) z) ∙ h.length_word

pub after_is : (r : Relation) (rs : List Relation) (s : List ℕ) (p : ℕ) → records (r ∷ rs) s p ≡ as_due → records rs s (p + word_at s p) ≡ as_due
after_is r rs s p e = rw (word-is r rs s p e) (next-due r rs s p e).2
