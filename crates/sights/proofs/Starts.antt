-- At the start of a condition or a from-value a table binds the contexts in scope to their records.
use Prim.Native.Nat.{ℕ, zero, suc, ◌+◌, ◌<◌, ◌≤◌}
use mathlib.Core.Path.{◌≡◌, refl, sym, ap, ap₂, ◌∙◌}
use mathlib.Core.Bool.{Bool, true, false, cond, ◌&&◌}
use mathlib.Core.List.{List, [], ◌∷◌, ◌++◌, map}
use mathlib.Core.Option
use mathlib.Core.Option.{Option, none, some}
use native.Mathlib.Omega.{arith}
use lib.Dec.{eqb, ltb}
use lib.ListN.{length, get_elem?}
use borrow.Author.Tests.{ne_eqb, ltb-false}
use Rattle.wire.specs.Words.{word_at}
use Rattle.wire.specs.Lists.{index_of, sum_of}
use Rattle.dictionary.specs.Dictionary.{Relation, proper, dictionary}
use Rattle.dictionary.specs.Internal.Walk.{relation_at}
use Rattle.records.specs.Record.{record_length, proper_record, as_due, wrong_at, next_record, records}
use Rattle.records.proofs.Records.{proper-whole, proper-word}
use Rattle.grammar.specs.Environment.{Context}
use Rattle.grammar.proofs.StepLaws.{absurd-eq}
use Rattle.meaning.specs.Inputs.{length_of, record_place}
use Rattle.meaning.specs.Evaluation.{due_relations}
use Rattle.walking.proofs.Proper.{due-first, after_is}
use Rattle.walking.proofs.Sites.{All}
use Rattle.surroundings.specs.Bindings.{Binding, binding_rows, binding_code, binding_relation, binding_record, context_binding, bound_contexts}
use Rattle.surroundings.proofs.Related.{Named}
use Rattle.surroundings.proofs.Slots.{slot_for, slot-relation}
use Rattle.sights.specs.Seen.{Agree, neither, both, Bound}
use Rattle.sights.proofs.Opened.{element-before}
use Rattle.sights.proofs.Tables.{cell-of, binds_number, binding-in, index-front}

-- a row that binds nothing: that of an any, a unique or a statistic, with no record in turn
abbrev pub Unbound : Binding → Type 0
Unbound b = (0 < b.code) × (b.record-place ≡ 0)

unbound-fails : (c : ℕ) (bs : List Binding) → All Unbound bs → All (λ b. binds_number c b ≡ false) bs
unbound-fails c [] a = tt
unbound-fails c (b ∷ bs) a =
    let h = a.0.0 in
    let z = ne_eqb b.code 0 (λ e. absurd (omega (arith, h, e))) in
    (rw (z, a.0.1) (by (eqb b.number c)), unbound-fails c bs a.1)
  where
    by : (b : Bool) → b && false ≡ false
    by true = refl
    by false = refl

first-proper : (r : Relation) (rs : List Relation) (s : List ℕ) (p : ℕ) → records (r ∷ rs) s p ≡ as_due → proper_record r s p ≡ true
unfolding records
first-proper r rs s p e = by (proper_record r s p) e
  where
    by : (b : Bool) → next_record b p (records rs s (p + record_length r)) ≡ as_due → b ≡ true
    by false e = absurd-eq (cc)
    by true e = refl

none_left : (s : List ℕ) (p : ℕ) → records [] s p ≡ as_due → length s ≤ p
unfolding records
none_left s p e = by (ltb p (length s)) refl e
  where
    by : (b : Bool) → ltb p (length s) ≡ b → cond b (wrong_at p) as_due ≡ as_due → length s ≤ p
    by true f e = absurd-eq (cc)
    by false f e = ltb-false p (length s) f

at-index : {A : Type 0} (test : A → Bool) (l : List A) (k : ℕ) → index_of test l ≡ some k → (x : A) × (get_elem? l k ≡ some x)
unfolding index_of
at-index test [] k e = absurd-eq (cc)
at-index {A} test (y ∷ l) k e = by (test y) (index_of test l) refl k e (λ j f. at-index test l j f)
  where
    by : (b : Bool) (o : Option ℕ) → index_of test l ≡ o → (k : ℕ) → cond b (some 0) (Option.map suc o) ≡ some k →
        ((j : ℕ) → index_of test l ≡ some j → (x : A) × (get_elem? l j ≡ some x)) → (x : A) × (get_elem? (y ∷ l) k ≡ some x)
    by true o g zero e next = (y, refl)
    by true o g (suc k) e next = let z : 0 ≡ suc k = cc in absurd (omega (arith, z))
    by false none g k e next = absurd-eq (cc)
    by false (some j) g zero e next = let z : suc j ≡ 0 = cc in absurd (omega (arith, z))
    by false (some j) g (suc k) e next =
        let z : suc j ≡ suc k = cc in
        let n : j ≡ k = omega (arith, z) in
        next k (g ∙ ap some n)

-- the k-th context and its row, with records from p on
record Standing (d s : List ℕ) (xs : List Context) (p k : ℕ) (x : Context) : Type 0 where
  r : Relation
  relation_is : x.relation ≡ some r
  entry_is : relation_at d (slot_for d x).relation ≡ r
  row_is : get_elem? (bound_contexts (map (slot_for d) xs) s p) k ≡ some (context_binding x.number (slot_for d x).relation (p + record_place xs k))
  whole : p + record_place xs k + record_length r ≤ length s

module _ (d : List ℕ) (rs : List Relation) (h : dictionary d ≡ proper rs) (s : List ℕ) where
  standing : (xs : List Context) (p k : ℕ) (x : Context) → All (Named rs) xs → records (due_relations xs) s p ≡ as_due → get_elem? xs k ≡ some x →
      Standing d s xs p k x
  unfolding bound_contexts record_place sum_of
  standing [] p k x a e g = absurd-eq (cc)
  standing (y ∷ xs) p zero x a e g =
      let r = a.0.1 in
      let f : records (r ∷ due_relations xs) s p ≡ as_due = rw (due-first y xs r a.0.2) at e in
      let w = proper-whole r s p (first-proper r (due_relations xs) s p f) in
      let z : y ≡ x = cc in
      let n : p + 0 ≡ p = omega arith in
      record {
        r = r;
        relation_is = ap (λ (v : Context). v.relation) (sym z) ∙ a.0.2;
        entry_is = ap (λ (v : Context). relation_at d (slot_for d v).relation) (sym z) ∙ slot-relation d rs h y a.0;
        row_is = ap₂ (λ (v : Context) (q : ℕ). some (context_binding v.number (slot_for d v).relation q)) z (sym n);
        whole = omega (arith, w);
      }
  standing (y ∷ xs) p (suc k) x a e g =
      let r = a.0.1 in
      let f : records (r ∷ due_relations xs) s p ≡ as_due = rw (due-first y xs r a.0.2) at e in
      let w = proper-word r s p (first-proper r (due_relations xs) s p f) ∙ sym (ap length_of a.0.2) in
      let i = standing xs (p + word_at s p) k x a.1 (after_is r (due_relations xs) s p f) g in
      let n : p + word_at s p + record_place xs k ≡ p + (length_of y.relation + record_place xs k) = omega (arith, w) in
      let v = i.whole in
      record {
        r = i.r;
        relation_is = i.relation_is;
        entry_is = i.entry_is;
        row_is = i.row_is ∙ ap (λ (q : ℕ). some (context_binding x.number (slot_for d x).relation q)) n;
        whole = omega (arith, n, v);
      }

  sized-from : (xs : List Context) (p : ℕ) → All (Named rs) xs → records (due_relations xs) s p ≡ as_due → p ≤ length s →
      length s ≡ p + record_place xs (length xs)
  unfolding record_place sum_of due_relations
  sized-from [] p a e l = let z = none_left s p e in omega (arith, z)
  sized-from (y ∷ xs) p a e l =
      let r = a.0.1 in
      let f : records (r ∷ due_relations xs) s p ≡ as_due = rw (due-first y xs r a.0.2) at e in
      let o = first-proper r (due_relations xs) s p f in
      let u = proper-whole r s p o in
      let v = proper-word r s p o in
      let w = ap length_of a.0.2 in
      let i = sized-from xs (p + word_at s p) a.1 (after_is r (due_relations xs) s p f) (omega (arith, u, v)) in
      omega (arith, i, v, w)

  numbers-same : (c : ℕ) (xs : List Context) (p : ℕ) →
      index_of (binds_number c) (bound_contexts (map (slot_for d) xs) s p) ≡ index_of (λ x. eqb x.number c) xs
  unfolding index_of bound_contexts
  numbers-same c [] p = refl
  numbers-same c (x ∷ xs) p =
      ap₂ (λ (b : Bool) (o : Option ℕ). cond b (some 0) (Option.map suc o)) (by (eqb x.number c)) (numbers-same c xs (p + word_at s p))
    where
      by : (b : Bool) → b && true ≡ b
      by true = refl
      by false = refl

  -- the contexts' rows first, then rows that bind nothing
  pub bound-start : (runs : List ℕ) (xs : List Context) (bs : List Binding) → All (Named rs) xs → records (due_relations xs) s 0 ≡ as_due → All Unbound bs →
      Bound d s runs (binding_rows (bound_contexts (map (slot_for d) xs) s 0 ++ bs)) xs s
  bound-start runs xs bs a e un =
      record {
        agree = λ c. rw (binding-in all c ∙ index-front (binds_number c) (bound_contexts (map (slot_for d) xs) s 0) bs (unbound-fails c bs un) ∙ numbers-same c xs 0)
            (by c (index_of (λ x. eqb x.number c) xs) refl);
        sized = sized-from xs 0 a e (omega arith) ∙ (let n : 0 + record_place xs (length xs) ≡ record_place xs (length xs) = omega arith in n);
      }
    where
      all : List Binding
      all = bound_contexts (map (slot_for d) xs) s 0 ++ bs

      by : (c : ℕ) (o : Option ℕ) → index_of (λ x. eqb x.number c) xs ≡ o → Agree d s runs (binding_rows all) xs s o o
      by c none f = neither
      by c (some k) f =
          let y = at-index (λ (x : Context). eqb x.number c) xs k f in
          let w = standing xs 0 k y.0 a e y.1 in
          let b = context_binding y.0.number (slot_for d y.0).relation (0 + record_place xs k) in
          let i = (element-before (bound_contexts (map (slot_for d) xs) s 0) bs k b w.row_is).0 in
          let n : 0 + record_place xs k ≡ record_place xs k = omega arith in
          let v = w.whole in
          let code = cell-of all k binding_code b (omega arith) i in
          let place = cell-of all k binding_record b (omega arith) i in
          both k k (record {
            x = y.0;
            r = w.r;
            context_is = y.1;
            relation_is = w.relation_is;
            entry_is = ap (relation_at d) (cell-of all k binding_relation b (omega arith) i) ∙ w.entry_is;
            bytes = rw (code, place, n);
            whole = omega (arith, v);
          })
