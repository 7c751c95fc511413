-- Opening a store: each way through its tests, in the code's terms.
use Prim.Native.Nat.{ℕ, suc, ◌+◌, ◌*◌, ◌≤◌, ◌<◌}
use mathlib.Core.Path.{◌≡◌, refl, sym, ap, ap₂, subst, ◌∙◌}
use mathlib.Core.Bool.{Bool, true, false, cond, ◌&&◌}
use mathlib.Core.List.{List, [], ◌∷◌}
use mathlib.Core.Option.{none, some, map}
use native.Mathlib.Nat.{mul-le-mul_right}
use native.Mathlib.Omega.{arith}
use lib.Dec.{eqb, leb}
use lib.ListN.{length, get_or, drop, get_or-append}
use lib.Seq.{sets, sets-eq}
use borrow.Author.Tests.{le-leb, leb-true}
use Rattle.wire.specs.Words.{word_at}
use Rattle.wire.specs.Lists.{all_of, sum_of}
use Rattle.std.specs.Prelude.{Result as Answer, Ok, Err, Some, None}
use Rattle.wire.specs.declared.refused.Refused.{Refused}
use Rattle.wire.specs.Options.{option_of, refused_at}
use Rattle.dictionary.specs.Dictionary.{Field, Relation, Checked, proper, at_fault, dictionary}
use Rattle.dictionary.specs.Naming.{numbered, relation_of}
use Rattle.dictionary.specs.Internal.Walk.{relation_place, relation_at}
use Rattle.dictionary.proofs.Relations.{found-is}
use Rattle.dictionary.proofs.FieldFormats.{place-some, place_none}
use Rattle.dictionary.proofs.Bytes.{and-nothing}
use Rattle.dictionary.proofs.Tests.{both_left}
use Rattle.records.specs.Record.{field_count, missing_bytes, record_length}
use Rattle.store.specs.declared.Refusal.{Refusal}
use Rattle.store.specs.declared.Refusal.TheVariants.{BadDictionary, MalformedStore}
use Rattle.store.specs.declared.layout.Layout.{Layout}
use Rattle.store.specs.declared.opening.Store.{Store}
use Rattle.store.specs.Store.{Contents, kept, missing_in, missing_count, joined, used, parts, listed, well_formed, held_by, contents}
use Rattle.store.specs.Calls.{Result, holds, refused, or_malformed, store_in}
use Rattle.store.specs.Internal.Layouts.{size_of, layout_of, reading_places, places_of, dictionary_answer, Laid, LaidOut, tally, headed, closed_at, settled, store_of_relation, store_of, opened_of, Opens}
use Rattle.store.specs.Internal.Changes.{Fair}
use Rattle.store.proofs.Records.{tally-is, tallied, by_length, layout-short, layout-long}
use Rattle.store.proofs.House.{found-fields, fair}
use Rattle.store.proofs.Images.{joined-size, length-parts}

-- ---- the end

module _ (b : List ℕ) (l : Layout) (n m : ℕ) where
  pub not-settled : closed_at b (10 + n * l.size) m ≡ false → Err (refused_at MalformedStore 0) ≡ settled b l n m
  unfolding settled
  not-settled e = rw e

  pub is-settled : closed_at b (10 + n * l.size) m ≡ true → Ok (record { layout = l; count = n; missing = m }) ≡ settled b l n m
  unfolding settled
  is-settled e = rw e

-- ---- a store of a relation

module _ (r : Relation) (b : List ℕ) where
  pub not-headed : headed b ≡ false → store_of_relation r b ≡ refused MalformedStore 0
  unfolding well_formed headed
  not-headed e = rw e

  list : List (List ℕ)
  list = parts (record_length r) (word_at b 6) (drop 10 b)

  not-kept : all_of (kept r) list ≡ false → store_of_relation r b ≡ refused MalformedStore 0
  unfolding well_formed listed list
  not-kept e =
      rw (e, and-nothing (leb (length b) 65535 && eqb (word_at b 0) 10 && eqb (word_at b 2) 8))

  tallied-wrong : (x : Bool) → None ≡ option_of (cond x (some (sum_of (missing_in r) list)) none) → x ≡ false
  tallied-wrong true e = absurd (let z : ◌≡◌ {A = ℕ} 0 1 = cc in omega arith)
  tallied-wrong false e = refl

  tallied-right : (x : Bool) (m : ℕ) → Some m ≡ option_of (cond x (some (sum_of (missing_in r) list)) none) → (x ≡ true) × (m ≡ sum_of (missing_in r) list)
  tallied-right true m e = let same : m ≡ sum_of (missing_in r) list = cc in (refl, same)
  tallied-right false m e = absurd (let z : ◌≡◌ {A = ℕ} 0 1 = cc in omega arith)

  module _ (t : List ℕ) (laid : Laid r t) (n : ℕ) (count : n ≡ word_at b 6) where
    tally-list : tally (layout_of r) t b n 10 ≡ tallied r list
    unfolding list
    tally-list = tally-is r t laid b n 10 ∙ ap (λ k. tallied r (parts (record_length r) k (drop 10 b))) count

    pub wrong-record : None ≡ option_of (tally (layout_of r) t b n 10) → store_of_relation r b ≡ refused MalformedStore 0
    wrong-record e = not-kept (tallied-wrong (all_of (kept r) list) (e ∙ ap option_of tally-list))

    opened-by : (w : Bool) (c : Contents) → opened_of (or_malformed (held_by w c)) ≡ cond w (Ok (store_of c)) (Err (refused_at MalformedStore 0))
    opened-by true c = refl
    opened-by false c = refl

    closed_is : headed b ≡ true → all_of (kept r) list ≡ true → well_formed (listed r b) b ≡ closed_at b (used (listed r b)) (missing_count (listed r b))
    unfolding well_formed headed closed_at listed list
    closed_is h k = rw (h, k)

    pub right-records : headed b ≡ true → (m : ℕ) → Some m ≡ option_of (tally (layout_of r) t b n 10) → settled b (layout_of r) n m ≡ opened_of (store_of_relation r b)
    unfolding settled listed store_of layout_of used missing_count list
    right-records h m e =
        let k = tallied-right (all_of (kept r) list) m (e ∙ ap option_of tally-list) in
        let number : n ≡ length list = count ∙ sym (length-parts r (word_at b 6) (drop 10 b)) in
        let end : 10 + n * size_of r ≡ 10 + length (joined list) =
        ap (λ z. 10 + z) (ap (λ i. i * size_of r) number ∙ sym (joined-size r list k.0)) in
        let test : closed_at b (10 + n * size_of r) m ≡ well_formed (listed r b) b =
        ap₂ (λ x y. closed_at b x y) end k.1 ∙ sym (closed_is h k.0) in
        let store : record { layout = layout_of r; count = n; missing = m } ≡ store_of (listed r b) =
        λ i. record { layout = layout_of r; count = number i; missing = k.1 i } in
        ap₂ (λ x y. cond x (Ok y) (Err (refused_at MalformedStore 0))) test store ∙ sym (opened-by (well_formed (listed r b) b) (listed r b))

-- ---- the table

places-long : (fs : List Field) (at : ℕ) → length (reading_places at fs) ≡ length fs
unfolding reading_places
places-long [] at = refl
places-long (f ∷ fs) at = ap suc (places-long fs _)

laid-sets : (r : Relation) (t : List ℕ) (i : ℕ) → field_count r ≤ length t → i < field_count r → get_or (sets t 0 (places_of r)) i 0 ≡ get_or (places_of r) i 0
unfolding places_of
laid-sets r t i h k =
    let l : length (reading_places (6 + missing_bytes r) r.fields) ≡ field_count r = places-long r.fields (6 + missing_bytes r) in
    ap (λ z. get_or z i 0) (sets-eq (places_of r) t 0 (omega (arith, l))) ∙
    get_or-append (places_of r) (drop (0 + length (places_of r)) t) 0 i (omega (arith, l))

pub laid_of : (r : Relation) (t t' : List ℕ) (l : Layout) → LaidOut r t t' l → field_count r ≤ length t → Laid r t'
laid_of r t t' l k h short i e =
    let is : t' ≡ sets t 0 (places_of r) = k.table_is ∙ rw (le-leb (record_length r) 4096 short) in
    ap (λ z. get_or z i 0) is ∙ laid-sets r t i h e

pub fair-few : (r : Relation) → Fair (layout_of r) → field_count r ≤ 64
unfolding layout_of
fair-few r k = k.few

-- ---- what opening promises

held-relation : (r : Relation) (b : List ℕ) (c : Contents) (w : Bool) → or_malformed (held_by w (listed r b)) ≡ holds c → c.relation ≡ r
unfolding listed
held-relation r b c true e = let same : listed r b ≡ c = cc in ap (λ z. z.relation) (sym same)
held-relation r b c false e = absurd (let z : ◌≡◌ {A = ℕ} 0 1 = cc in omega arith)

pub opens-refused : (x : Result) (t : List ℕ) (r : Answer Store (Refused Refusal)) → x ≡ refused MalformedStore 0 → r ≡ Err (refused_at MalformedStore 0) → Opens x t r
opens-refused x t r e f =
    record {
      opened = f ∙ ap opened_of (sym e);
      laid = λ c g. absurd (let z : refused MalformedStore 0 ≡ holds c = sym e ∙ g in let y : ◌≡◌ {A = ℕ} 0 1 = cc in omega arith);
    }

pub opens_of : (r : Relation) (b t : List ℕ) (x : Answer Store (Refused Refusal)) → Laid r t → x ≡ opened_of (store_of_relation r b) → Opens (store_of_relation r b) t x
opens_of r b t x k e =
    record {
      opened = e;
      laid = λ c g. subst (λ z. Laid z t) (sym (held-relation r b c (well_formed (listed r b) b) g)) k;
    }

-- ---- beside a dictionary

pub fault-of : (d : List ℕ) (e : Refused Refusal) → Err e ≡ dictionary_answer (dictionary d) →
    (dictionary d ≡ at_fault e.place) × (e ≡ refused_at BadDictionary e.place)
fault-of d e f = by (dictionary d) f
  where
    by : (x : Checked) → Err e ≡ dictionary_answer x → (x ≡ at_fault e.place) × (e ≡ refused_at BadDictionary e.place)
    by (proper rs) f = absurd (let z : ◌≡◌ {A = ℕ} 0 1 = cc in omega arith)
    by (at_fault q) f =
        let same : refused_at BadDictionary q ≡ e = cc in
        let place : q ≡ e.place = ap (λ (x : Refused Refusal). x.place) same in
        (ap at_fault place, sym same ∙ ap (refused_at BadDictionary) place)

pub proper-of : (d : List ℕ) → Ok tt ≡ dictionary_answer (dictionary d) → (rs : List Relation) × (dictionary d ≡ proper rs)
proper-of d e = by (dictionary d) refl e
  where
    by : (x : Checked) → dictionary d ≡ x → Ok tt ≡ dictionary_answer x → (rs : List Relation) × (dictionary d ≡ proper rs)
    by (proper rs) f e = (rs, f)
    by (at_fault q) f e = absurd (let z : ◌≡◌ {A = ℕ} 0 1 = cc in omega arith)

-- a dictionary that is not proper
pub opens-fault : (d b t : List ℕ) (e : Refused Refusal) (r : Answer Store (Refused Refusal)) → Err e ≡ dictionary_answer (dictionary d) → r ≡ Err e →
    Opens (store_in d b) t r
unfolding store_in
opens-fault d b t e r f g =
    let k = fault-of d e f in
    let is : store_in d b ≡ refused BadDictionary e.place = rw k.0 in
    record {
      opened = g ∙ ap Err k.1 ∙ ap opened_of (sym is);
      laid = λ c h. absurd (let z : refused BadDictionary e.place ≡ holds c = sym is ∙ h in let y : ◌≡◌ {A = ℕ} 0 1 = cc in omega arith);
    }

module _ (d : List ℕ) (good : Ok tt ≡ dictionary_answer (dictionary d)) (i : ℕ) where
  pub relation-none : None ≡ option_of (relation_place d (numbered i)) → relation_of (proper-of d good).0 (numbered i) ≡ none
  relation-none e =
      sym (found-is d (proper-of d good).0 (proper-of d good).1 (numbered i)) ∙
      ap (map (relation_at d)) (place_none (relation_place d (numbered i)) e)

  pub relation-some : (q : ℕ) → Some q ≡ option_of (relation_place d (numbered i)) → relation_of (proper-of d good).0 (numbered i) ≡ some (relation_at d q)
  relation-some q e =
      sym (found-is d (proper-of d good).0 (proper-of d good).1 (numbered i)) ∙
      ap (map (relation_at d)) (place-some (relation_place d (numbered i)) e)

  pub fair-found : (q : ℕ) → Some q ≡ option_of (relation_place d (numbered i)) → Fair (layout_of (relation_at d q))
  fair-found q e =
      fair (relation_at d q) (found-fields d (proper-of d good).0 (proper-of d good).1 i (relation_at d q) (relation-some q e)).0

module _ (d b : List ℕ) (good : Ok tt ≡ dictionary_answer (dictionary d)) (i : ℕ) (id : i ≡ word_at b 4) where
  pub store-unknown : None ≡ option_of (relation_place d (numbered i)) → store_in d b ≡ refused MalformedStore 0
  unfolding store_in contents
  store-unknown e = rw ((proper-of d good).1, ← id, relation-none d good i e)

  pub store_found : (q : ℕ) → Some q ≡ option_of (relation_place d (numbered i)) → store_of_relation (relation_at d q) b ≡ store_in d b
  unfolding store_in contents
  store_found q e = rw ((proper-of d good).1, ← id, relation-some d good i q e)

-- ---- numbers

pub head-short : (b : List ℕ) → headed b ≡ true → length b ≤ 65535
unfolding headed
head-short b e = leb-true (length b) 65535 (both_left (leb (length b) 65535) _ (both_left _ _ e))

pub size-most : (r : Relation) → (layout_of r).size ≤ 4097
unfolding layout_of
size-most r = by_length (record_length r) (λ h. rw (layout-short r h) (omega arith)) (λ h. rw (layout-long r h) (omega arith))

pub product-most : (n k : ℕ) → n < 65536 → k ≤ 4097 → n * k ≤ 268500992
product-most n k h l =
    let e : n * k ≤ 65535 * k = mul-le-mul_right k (omega arith) in
    let f : 65535 * k ≤ 268500992 = omega arith in
    omega (arith, e, f)

-- ---- with the layout that the code has

module _ (r : Relation) (b t : List ℕ) (laid : Laid r t) (n : ℕ) (count : n ≡ word_at b 6) (l : Layout) (same : l ≡ layout_of r) where
  pub wrong-with : None ≡ option_of (tally l t b n 10) → store_of_relation r b ≡ refused MalformedStore 0
  wrong-with e = wrong-record r b t laid n count (e ∙ ap (λ z. option_of (tally z t b n 10)) same)

  pub right-with : headed b ≡ true → (m : ℕ) → Some m ≡ option_of (tally l t b n 10) → (x : Answer Store (Refused Refusal)) → x ≡ settled b l n m → Opens (store_of_relation r b) t x
  right-with h m e x f =
      opens_of r b t x laid
      (f ∙ ap (λ z. settled b z n m) same ∙ right-records r b t laid n count h m (e ∙ ap (λ z. option_of (tally z t b n 10)) same))

pub opens-same : {x y : Result} {t : List ℕ} {r : Answer Store (Refused Refusal)} → x ≡ y → Opens x t r → Opens y t r
opens-same {t = t} {r = r} e k = subst (λ z. Opens z t r) e k
