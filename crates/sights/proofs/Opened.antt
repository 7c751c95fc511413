-- One context more: a table with a record in turn has what the meaning has inside an any, a unique or a statistic.
use Prim.Native.Nat.{ℕ, zero, suc, ◌+◌, ◌<◌, ◌≤◌}
use mathlib.Core.Path.{◌≡◌, refl, sym, ap, subst, ◌∙◌}
use mathlib.Core.Bool.{Bool, true, false, cond}
use mathlib.Core.List.{List, [], ◌∷◌, ◌++◌}
use mathlib.Core.Option.{Option, none, some, map}
use native.Mathlib.Omega.{arith}
use lib.Dec.{eqb}
use lib.ListN.{length, take, drop, get_elem?, length-append, length-drop}
use lib.Seq.{take-append-le, drop-append_seam, drop-append-le, take-length, length-take-le, take_all}
use borrow.Author.Tests.{eq-eqb, eqb-true, eqb-false, ne_eqb}
use Rattle.wire.specs.Lists.{find, index_of, is_some, sum_of}
use Rattle.dictionary.specs.Dictionary.{Relation}
use Rattle.dictionary.specs.Internal.Walk.{relation_at}
use Rattle.records.specs.Record.{record_length}
use Rattle.grammar.specs.Environment.{Context}
use Rattle.grammar.proofs.StepLaws.{absurd-eq}
use Rattle.meaning.specs.Inputs.{length_of, record_place}
use Rattle.surroundings.specs.Bindings.{binding_code, binding_number, binding_relation, binding_record, cell, rows_in, row_binding, with_record}
use Rattle.sights.specs.Seen.{record_at, SameRecord, Agree, neither, both, Bound, Stands}
use Rattle.sights.proofs.Rows.{binds, other-column, other_row, in-turn, binding-other, binding-new}

-- ---- one element more

module _ {A : Type 0} where
  pub element-before : (xs ys : List A) (k : ℕ) (x : A) → get_elem? xs k ≡ some x → (get_elem? (xs ++ ys) k ≡ some x) × (k < length xs)
  element-before [] ys k x e = absurd-eq (cc)
  element-before (y ∷ xs) ys zero x e = (e, omega arith)
  element-before (y ∷ xs) ys (suc k) x e = let h = element-before xs ys k x e in let b = h.1 in (h.0, omega (arith, b))

  pub element-last : (xs : List A) (x : A) → get_elem? (xs ++ (x ∷ [])) (length xs) ≡ some x
  element-last [] x = refl
  element-last (y ∷ xs) x = element-last xs x

  module _ (test : A → Bool) where
    -- what is not found has no index
    pub no_index : (xs : List A) → is_some (find test xs) ≡ false → index_of test xs ≡ none
    unfolding find index_of
    no_index [] e = refl
    no_index (x ∷ xs) e = by (test x) e (no_index xs)
      where
        by : (b : Bool) → is_some (cond b (some x) (find test xs)) ≡ false → (is_some (find test xs) ≡ false → index_of test xs ≡ none) →
            cond b (some 0) (map suc (index_of test xs)) ≡ none
        by true e next = absurd-eq (cc)
        by false e next = ap (map suc) (next e)

    -- an element that fails changes no index
    pub index_kept : (xs : List A) (x : A) → test x ≡ false → index_of test (xs ++ (x ∷ [])) ≡ index_of test xs
    unfolding index_of
    index_kept [] x e = rw e
    index_kept (y ∷ xs) x e = ap (λ (o : Option ℕ). cond (test y) (some 0) (map suc o)) (index_kept xs x e)

    -- one that passes is the first, where there was none
    pub index-last : (xs : List A) (x : A) → test x ≡ true → index_of test xs ≡ none → index_of test (xs ++ (x ∷ [])) ≡ some (length xs)
    unfolding index_of
    index-last [] x e n = rw e
    index-last (y ∷ xs) x e n = by (test y) n (index_of test xs) refl (index-last xs x e)
      where
        by : (b : Bool) → cond b (some 0) (map suc (index_of test xs)) ≡ none → (o : Option ℕ) → index_of test xs ≡ o →
            (index_of test xs ≡ none → index_of test (xs ++ (x ∷ [])) ≡ some (length xs)) →
            cond b (some 0) (map suc (index_of test (xs ++ (x ∷ [])))) ≡ some (suc (length xs))
        by true h o f next = absurd-eq (cc)
        by false h none f next = ap (map suc) (next f)
        by false h (some k) f next = let g : some (suc k) ≡ none = rw f at h in absurd-eq (cc)

-- ---- where records stand

place-before : (xs ys : List Context) (k : ℕ) → k ≤ length xs → record_place (xs ++ ys) k ≡ record_place xs k
unfolding record_place
place-before xs ys k h = ap (sum_of (λ (z : Context). length_of z.relation)) (take-append-le k xs ys h)

sum_one : (xs : List Context) (x : Context) →
    sum_of (λ z. length_of z.relation) (xs ++ (x ∷ [])) ≡ sum_of (λ z. length_of z.relation) xs + length_of x.relation
unfolding sum_of
sum_one [] x = omega arith
sum_one (y ∷ xs) x = let i = sum_one xs x in omega (arith, i)

place_after : (xs : List Context) (x : Context) →
    record_place (xs ++ (x ∷ [])) (length (xs ++ (x ∷ []))) ≡ record_place xs (length xs) + length_of x.relation
unfolding record_place
place_after xs x =
    ap (sum_of (λ (z : Context). length_of z.relation)) (take-length (xs ++ (x ∷ [])))
    ∙ sum_one xs x
    ∙ ap (λ l. sum_of (λ (z : Context). length_of z.relation) l + length_of x.relation) (sym (take-length xs))

-- ---- the bytes of a record

record-before : (r : Relation) (s e : List ℕ) (p : ℕ) → p + record_length r ≤ length s → record_at r (s ++ e) p ≡ record_at r s p
record-before r s e p h =
    let l = length-drop p s in
    ap (take (record_length r)) (drop-append-le p s e (omega arith)) ∙ take-append-le (record_length r) (drop p s) e (omega (arith, l))

record-sized : (r : Relation) (s : List ℕ) (p : ℕ) → p + record_length r ≤ length s → length (record_at r s p) ≡ record_length r
record-sized r s p h = let l = length-drop p s in length-take-le (record_length r) (drop p s) (omega (arith, l))

record-last : (r : Relation) (s e t : List ℕ) (p q : ℕ) → p ≡ length s → q + record_length r ≤ length t → e ≡ record_at r t q →
    record_at r (s ++ e) p ≡ record_at r t q
record-last r s e t p q n h f =
    let l = ap length f ∙ record-sized r t q h in
    ap (λ i. take (record_length r) (drop i (s ++ e))) n
    ∙ ap (take (record_length r)) (drop-append_seam s e)
    ∙ take_all (record_length r) e (omega (arith, l)) ∙ f

-- ---- the law

module _ (d records runs t : List ℕ) (xs : List Context) (s : List ℕ) (b : Bound d records runs t xs s) (row place : ℕ) (x : Context) (r : Relation)
    (e : List ℕ) (row-there : row < rows_in t) (of-run : cell t row binding_code ≡ 0 → ⊥) (number_is : cell t row binding_number ≡ x.number)
    (relation_is : x.relation ≡ some r) (entry_is : relation_at d (cell t row binding_relation) ≡ r)
    (free : index_of (λ y. eqb y.number x.number) xs ≡ none) (stands : Stands r runs place e) where
  abbrev turned : List ℕ
  turned = with_record t row place

  abbrev more : List Context
  more = xs ++ (x ∷ [])

  -- the new context's record
  new-record : SameRecord d records runs turned more (s ++ e) row (length xs)
  new-record =
      let n : record_place more (length xs) ≡ length s = place-before xs (x ∷ []) (length xs) (omega arith) ∙ sym b.sized in
      let c = other-column t row place row binding_code (omega arith) (λ e. absurd (omega (arith, e))) in
      let z = ne_eqb (cell t row binding_code) 0 of-run in
      let i = in-turn t row place row-there in
      let l = ap length stands.2 ∙ record-sized r runs place stands.1 in
      let m = length-append s e in
      record {
        x = x;
        r = r;
        context_is = element-last xs x;
        relation_is = relation_is;
        entry_is = ap (relation_at d) (other-column t row place row binding_relation (omega arith) (λ e. absurd (omega (arith, e)))) ∙ entry_is;
        bytes = rw (c, z, i) (sym (record-last r s e runs (record_place more (length xs)) place n stands.1 stands.2));
        whole = omega (arith, n, l, m);
      }

  -- an outer context's record, whose row is another
  old-record : (i k : ℕ) → (i ≡ row → ⊥) → SameRecord d records runs t xs s i k → SameRecord d records runs turned more (s ++ e) i k
  old-record i k n h =
      let w = element-before xs (x ∷ []) k h.x h.context_is in
      let o = w.1 in
      let g = place-before xs (x ∷ []) k (omega (arith, o)) in
      let c = other_row t row place i binding_code (omega arith) n in
      let f = other_row t row place i binding_record (omega arith) n in
      let m = length-append s e in
      let y = h.whole in
      record {
        x = h.x;
        r = h.r;
        context_is = w.0;
        relation_is = h.relation_is;
        entry_is = ap (relation_at d) (other_row t row place i binding_relation (omega arith) n) ∙ h.entry_is;
        bytes = rw (c, f, g) (h.bytes ∙ sym (record-before h.r s e (record_place xs k) h.whole));
        whole = omega (arith, g, m, y);
      }

  -- the row's own number
  new-agree : (c : ℕ) → x.number ≡ c → (o q : Option ℕ) → row_binding t c (rows_in t) 0 ≡ o → index_of (λ y. eqb y.number c) xs ≡ q →
      Agree d records runs t xs s o q → Agree d records runs turned more (s ++ e) (row_binding turned c (rows_in turned) 0)
      (index_of (λ y. eqb y.number c) more)
  new-agree c n _ _ f g neither =
      let u = binding-new t row place c stands.0 row-there (number_is ∙ n) f in
      let v = index-last (λ (y : Context). eqb y.number c) xs x (eq-eqb x.number c n) g in
      rw (u, v) (both row (length xs) new-record)
  new-agree c n _ _ f g (both i k h) =
      let v : index_of (λ (y : Context). eqb y.number c) xs ≡ none = subst (λ (c : ℕ). index_of (λ y. eqb y.number c) xs ≡ none) n free in
      absurd-eq (cc)

  -- another number
  old-agree : (c : ℕ) → (x.number ≡ c → ⊥) → (o q : Option ℕ) → row_binding t c (rows_in t) 0 ≡ o → index_of (λ y. eqb y.number c) xs ≡ q →
      Agree d records runs t xs s o q → Agree d records runs turned more (s ++ e) (row_binding turned c (rows_in turned) 0)
      (index_of (λ y. eqb y.number c) more)
  old-agree c n o q f g h =
      let u = binding-other t row place c (ne_eqb (cell t row binding_number) c (λ e. n (sym number_is ∙ e))) in
      let v = index_kept (λ (y : Context). eqb y.number c) xs x (ne_eqb x.number c n) in
      rw (u ∙ f, v ∙ g) (by o q f h)
    where
      by : (o q : Option ℕ) → row_binding t c (rows_in t) 0 ≡ o → Agree d records runs t xs s o q → Agree d records runs turned more (s ++ e) o q
      by _ _ f neither = neither
      by _ _ f (both i k h) =
          let m = binds t c (rows_in t) 0 i f in
          both i k (old-record i k (λ z. n (sym number_is ∙ ap (λ (j : ℕ). cell t j binding_number) (sym z) ∙ m)) h)

  pub bound-within : Bound d records runs turned more (s ++ e)
  bound-within =
      record {
        agree = λ c. by c (eqb x.number c) refl;
        sized = sizes;
      }
    where
      by : (c : ℕ) (i : Bool) → eqb x.number c ≡ i →
          Agree d records runs turned more (s ++ e) (row_binding turned c (rows_in turned) 0) (index_of (λ y. eqb y.number c) more)
      by c true f = new-agree c (eqb-true _ _ f) _ _ refl refl (b.agree c)
      by c false f = old-agree c (eqb-false _ _ f) _ _ refl refl (b.agree c)

      sizes : length (s ++ e) ≡ record_place more (length more)
      sizes =
          let l = ap length stands.2 ∙ record-sized r runs place stands.1 in
          let m = length-append s e in
          let n = place_after xs x in
          let o = b.sized in
          let q = ap length_of relation_is in
          omega (arith, l, m, n, o, q)
