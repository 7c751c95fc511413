-- After any calls, refused ones left out, the buffer lists the records as a plain list would: `lists-as-plain`.
use Prim.Native.Nat.{ℕ, suc, ◌+◌, ◌≤◌, ◌<◌}
use mathlib.Core.Path.{◌≡◌, refl, sym, ap, subst, ◌∙◌}
use mathlib.Core.Bool.{Bool, true, false, cond, not}
use mathlib.Core.List.{List, [], ◌∷◌, ◌++◌}
use mathlib.Core.Option.{Option, none, some, map}
use native.Mathlib.Omega.{arith}
use lib.Dec.{ltb}
use lib.ListN.{length, get_or, take, drop, length-append}
use lib.Seq.{split_at, set_split}
use borrow.Author.Tests.{ltb-true, ltb-false, not-false}
use Rattle.wire.specs.Lists.{all_of}
use Rattle.dictionary.specs.Dictionary.{Relation, proper, dictionary}
use Rattle.dictionary.specs.Naming.{numbered, relation_of}
use Rattle.records.specs.Record.{field_count}
use Rattle.store.specs.declared.Refusal.{Refusal}
use Rattle.store.specs.declared.Refusal.TheVariants.{MalformedStore, NoPosition, WrongRecord, NoRoom}
use Rattle.store.specs.Store.{Contents, mark, one_record, kept, joined, used, image, contents}
use Rattle.store.specs.Calls.{Change, add, erase, replace, Call, make, change, Result, holds, refused, or_malformed, store_in, empty_of, made_in, changed, refuse_if, refusal, unless_refused, changed_in, called, left}
use Rattle.store.specs.Listing.{after_calls, accepted_by, accepted, plain, plain_after, OfBytes, AllOfBytes, Lists}
use Rattle.store.proofs.Records.{kept-long}
use Rattle.store.proofs.Marks.{mark-length, mark-kept}
use Rattle.store.proofs.House.{found-fields}
use Rattle.store.proofs.Images.{Good, all_cons, all-joined, all_middle, contents-image}
use Rattle.store.proofs.Opened.{holding, header-counts, joined-append}
use Rattle.store.proofs.Changed.{joined-middle}

-- ---- refusals that are not given

passed : (a : Bool) (x : Refusal) (o : Option Refusal) → refuse_if a x o ≡ none → (a ≡ false) × (o ≡ none)
passed true x o e = absurd (let z : ◌≡◌ {A = ℕ} 0 1 = cc in omega arith)
passed false x o e = (refl, e)

module _ (c : Contents) (n : ℕ) where
  pub add-passed : (x : List ℕ) → refusal n c (add x) ≡ none → (one_record c.relation x ≡ true) × (used c + length x ≤ n)
  unfolding refusal
  add-passed x e =
      let two = passed (not (one_record c.relation x)) WrongRecord (refuse_if (ltb n (used c + length x)) NoRoom none) e in (
        not-false (one_record c.relation x) two.0,
        ltb-false n (used c + length x) (passed (ltb n (used c + length x)) NoRoom none two.1).0,
      )

  pub erase-passed : (k : ℕ) → refusal n c (erase k) ≡ none → k < length c.records
  unfolding refusal
  erase-passed k e =
      ltb-true k (length c.records) (not-false (ltb k (length c.records)) (passed (not (ltb k (length c.records))) NoPosition none e).0)

  pub replace-passed : (k : ℕ) (x : List ℕ) → refusal n c (replace k x) ≡ none → (k < length c.records) × (one_record c.relation x ≡ true)
  unfolding refusal
  replace-passed k x e =
      let two = passed (not (ltb k (length c.records))) NoPosition (refuse_if (not (one_record c.relation x)) WrongRecord none) e in (
        ltb-true k (length c.records) (not-false (ltb k (length c.records)) two.0),
        not-false (one_record c.relation x) (passed (not (one_record c.relation x)) WrongRecord none two.1).0,
      )

-- ---- a change leaves a good store good

module _ (rs : List Relation) (c : Contents) (n : ℕ) (g : Good rs c n) where
  good-by : (l : List (List ℕ)) → all_of (kept c.relation) l ≡ true → 10 + length (joined l) ≤ n → Good rs (record { relation = c.relation; records = l }) n
  unfolding used
  good-by l k f = record { known = g.known; good-records = k; fits = f; at_most = g.at_most }

  long-middle : (k : List (List ℕ)) (x : List ℕ) (l : List (List ℕ)) → length (joined (k ++ x ∷ l)) ≡ length (joined k) + (length x + length (joined l))
  long-middle k x l =
      ap length (joined-middle k x l) ∙ length-append (joined k) (x ++ joined l) ∙ ap (λ m. length (joined k) + m) (length-append x (joined l))

  good-add : (x : List ℕ) → OfBytes (change (add x)) → refusal n c (add x) ≡ none → Good rs (changed c (add x)) n
  unfolding used all_of joined
  good-add x o e =
      let two = add-passed c n x e in
      let y : List ℕ = mark c.relation x in
      good-by (c.records ++ y ∷ [])
      (all-joined (kept c.relation) c.records (y ∷ []) g.good-records
      (all_cons (kept c.relation) y [] (mark-kept c.relation x o two.0) refl))
      (omega (arith, long-middle c.records y [], mark-length c.relation x (field_count c.relation), two.1))

  module _ (k : ℕ) (there : k < length c.records) where
    parts-kept : (all_of (kept c.relation) (take k c.records) ≡ true) ×
        ((kept c.relation (get_or c.records k []) ≡ true) × (all_of (kept c.relation) (drop (suc k) c.records) ≡ true))
    parts-kept =
        all_middle (kept c.relation) (take k c.records) (get_or c.records k []) (drop (suc k) c.records)
        (subst (λ l. all_of (kept c.relation) l ≡ true) (split_at c.records k [] there) g.good-records)

    whole_long : length (joined c.records) ≡
        length (joined (take k c.records)) + (length (get_or c.records k []) + length (joined (drop (suc k) c.records)))
    whole_long =
        ap (λ l. length (joined l)) (split_at c.records k [] there) ∙
        long-middle (take k c.records) (get_or c.records k []) (drop (suc k) c.records)

    erase-good : Good rs (changed c (erase k)) n
    unfolding used
    erase-good =
        let l = take k c.records in
        let m = drop (suc k) c.records in
        let long : length (joined (l ++ m)) ≡ length (joined l) + length (joined m) = ap length (joined-append l m) ∙ length-append (joined l) (joined m) in
        good-by (l ++ m) (all-joined (kept c.relation) l m parts-kept.0 parts-kept.1.1) (omega (arith, long, whole_long, g.fits))

    replace-good : (x : List ℕ) → OfBytes (change (replace k x)) → one_record c.relation x ≡ true → Good rs (changed c (replace k x)) n
    unfolding used
    replace-good x o one =
        let y : List ℕ = mark c.relation x in
        let l = take k c.records in
        let m = drop (suc k) c.records in
        let good = mark-kept c.relation x o one in
        let same : length y ≡ length (get_or c.records k []) =
        kept-long c.relation y good ∙ sym (kept-long c.relation (get_or c.records k []) parts-kept.1.0) in
        rw (set_split c.records k y there)
        (good-by (l ++ y ∷ m) (all-joined (kept c.relation) l (y ∷ m) parts-kept.0 (all_cons (kept c.relation) y m good parts-kept.1.1))
        (omega (arith, long-middle l y m, whole_long, same, g.fits)))

  good-erase : (k : ℕ) → refusal n c (erase k) ≡ none → Good rs (changed c (erase k)) n
  good-erase k e = erase-good k (erase-passed c n k e)

  good-replace : (k : ℕ) (x : List ℕ) → OfBytes (change (replace k x)) → refusal n c (replace k x) ≡ none → Good rs (changed c (replace k x)) n
  good-replace k x o e = let two = replace-passed c n k x e in replace-good k two.0 x o two.1

  good-change : (e : Change) → OfBytes (change e) → refusal n c e ≡ none → Good rs (changed c e) n
  good-change (add x) o f = good-add x o f
  good-change (erase k) o f = good-erase k f
  good-change (replace k x) o f = good-replace k x o f

-- ---- one call

empty-good : (rs : List Relation) (n : ℕ) (r : Relation) → relation_of rs (numbered r.id) ≡ some r → n ≤ 65535 → 10 ≤ n → Good rs (empty_of r) n
unfolding used joined all_of
empty-good rs n r k h l = record { known = k; good-records = refl; fits = l; at_most = h }

made_by : (n : ℕ) (r : Relation) (c : Contents) (a b : Bool) → ltb 65535 n ≡ a → ltb n 10 ≡ b →
    cond a (refused MalformedStore 0) (cond b (refused NoRoom 0) (holds (empty_of r))) ≡ holds c → (empty_of r ≡ c) × ((n ≤ 65535) × (10 ≤ n))
made_by n r c true b e f s = absurd (let z : ◌≡◌ {A = ℕ} 0 1 = cc in omega arith)
made_by n r c false true e f s = absurd (let z : ◌≡◌ {A = ℕ} 0 1 = cc in omega arith)
made_by n r c false false e f s = let same : empty_of r ≡ c = cc in (same, (ltb-false 65535 n e, ltb-false n 10 f))

unrefused : (o : Option Refusal) (c c' : Contents) → unless_refused o c ≡ holds c' → (o ≡ none) × (c ≡ c')
unrefused none c c' e = let same : c ≡ c' = cc in (refl, same)
unrefused (some x) c c' e = absurd (let z : ◌≡◌ {A = ℕ} 0 1 = cc in omega arith)

module _ (d : List ℕ) (rs : List Relation) (is : dictionary d ≡ proper rs) (b : List ℕ) where
  make-lists : (i : ℕ) (c : Contents) (x : Option Relation) → relation_of rs (numbered i) ≡ x → made_in (length b) x ≡ holds c →
      contents rs (image c (length b)) ≡ map empty_of x
  unfolding made_in
  make-lists i c none e s = absurd (let z : ◌≡◌ {A = ℕ} 0 1 = cc in omega arith)
  make-lists i c (some r) e s =
      let k = made_by (length b) r c (ltb 65535 (length b)) (ltb (length b) 10) refl refl s in
      let f = found-fields d rs is i r e in
      let g = empty-good rs (length b) r (ap (λ j. relation_of rs (numbered j)) f.1 ∙ e) k.1.0 k.1.1 in
      ap (λ z. contents rs (image z (length b))) (sym k.0) ∙ contents-image rs (empty_of r) (length b) g

  change-lists : (e : Change) → OfBytes (change e) → (c : Contents) (x : Option Contents) → contents rs b ≡ x →
      changed_in (length b) (or_malformed x) e ≡ holds c → contents rs (image c (length b)) ≡ map (λ z. changed z e) x
  change-lists e o c none f s = absurd (let z : ◌≡◌ {A = ℕ} 0 1 = cc in omega arith)
  change-lists e o c (some c₀) f s =
      let k = unrefused (refusal (length b) c₀ e) (changed c₀ e) c s in
      let g = good-change rs c₀ (length b) (holding d rs b c₀ is f).is-good e o k.0 in
      ap (λ z. contents rs (image z (length b))) (sym k.1) ∙ contents-image rs (changed c₀ e) (length b) g

  -- a call that is not refused
  one-call : (x : Call) → OfBytes x → (c : Contents) → called d b x ≡ holds c → contents rs (image c (length b)) ≡ plain rs (contents rs b) x
  unfolding called store_in
  one-call (make i) o c e = make-lists i c (relation_of rs (numbered i)) refl (rw is at e)
  one-call (change y) o c e = change-lists y o c (contents rs b) refl (rw is at e)

-- ---- any calls

module _ (d : List ℕ) (rs : List Relation) (is : dictionary d ≡ proper rs) where
  -- by whether the first call is refused
  lists-by : (b : List ℕ) (x : Call) (l : List Call) → OfBytes x → (y : Result) → called d b x ≡ y →
      ((b' : List ℕ) → contents rs (after_calls d b' l) ≡ plain_after rs (contents rs b') (accepted d b' l)) →
      contents rs (after_calls d (left b y) l) ≡ plain_after rs (contents rs b) (accepted_by y x (accepted d (left b y) l))
  unfolding plain_after
  lists-by b x l o (holds c) e rest =
      rest (image c (length b)) ∙ ap (λ z. plain_after rs z (accepted d (image c (length b)) l)) (one-call d rs is b x o c e)
  lists-by b x l o (refused z q) e rest = rest b

  lists-all : (b : List ℕ) (l : List Call) → AllOfBytes l → contents rs (after_calls d b l) ≡ plain_after rs (contents rs b) (accepted d b l)
  unfolding after_calls plain_after accepted
  lists-all b [] o = refl
  lists-all b (x ∷ l) o = lists-by b x l o.0 (called d b x) refl (λ b'. lists-all b' l o.1)

  pub lists-as-plain : (b : List ℕ) (l : List Call) → AllOfBytes l → Lists rs (after_calls d b l) (plain_after rs (contents rs b) (accepted d b l))
  lists-as-plain b l o =
      let e = lists-all b l o in
      record {
        lists = e;
        record_count = λ c f. (header-counts rs (after_calls d b l) c (e ∙ f)).0;
        missing_count = λ c f. (header-counts rs (after_calls d b l) c (e ∙ f)).1;
      }
