-- What each call promises, from what opening and the call on the open store promise.
use Prim.Native.Nat.{ℕ, ◌+◌, ◌*◌, ◌-◌, ◌≤◌, ◌<◌}
use mathlib.Core.Path.{◌≡◌, refl, sym, ap, ap₂, subst, ◌∙◌}
use mathlib.Core.Bool.{Bool, true, false, not}
use mathlib.Core.List.{List, ◌++◌}
use mathlib.Core.Option.{Option, none, some}
use native.Mathlib.Omega.{arith}
use lib.Dec.{ltb}
use lib.ListN.{length, replicate-append-replicate}
use borrow.Author.Tests.{lt-ltb, le-ltb, ltb-true}
use Rattle.wire.specs.Words.{word_bytes}
use Rattle.wire.specs.Lists.{sum_of}
use Rattle.std.specs.Prelude.{Result as Answer, Ok, Err, Some, None}
use Rattle.wire.specs.declared.refused.Refused.{Refused}
use Rattle.wire.specs.Options.{option_of, refused_at}
use Rattle.dictionary.specs.Dictionary.{Relation, Checked, proper, at_fault, dictionary}
use Rattle.dictionary.specs.Naming.{numbered}
use Rattle.dictionary.specs.Internal.Walk.{relation_place, relation_at}
use Rattle.store.specs.declared.Refusal.{Refusal}
use Rattle.store.specs.declared.Refusal.TheVariants.{UnknownRelation, MalformedStore, NoPosition, WrongRecord, NoRoom}
use Rattle.store.specs.declared.Counts.{Counts}
use Rattle.store.specs.declared.opening.Store.{Store}
use Rattle.store.specs.Store.{Contents, missing_count, joined, header, used, image, contents}
use Rattle.store.specs.Calls.{Change, add, erase, replace, make, change, Result, holds, refused, or_malformed, store_beside, store_in, empty_of, made_in, changed, refuse_if, refusal, unless_refused, called, left, answer_of, Called, reading_of, place_in}
use Rattle.store.specs.Listing.{Octets}
use Rattle.store.specs.Internal.Layouts.{Laid, dictionary_answer, layout_of, store_of, opened_of}
use Rattle.store.specs.Internal.Changes.{over, cleared, place_of, add_refusal, add_bytes, erase_refusal, erase_bytes, replace_refusal, replace_bytes, answer_by, left_by, Changes, Ready, MadeOf, place_by, Numbers}
use Rattle.store.proofs.Pastes.{zeros}
use Rattle.store.proofs.Records.{one-by, kept-short, layout-short}
use Rattle.store.proofs.Opened.{Holding, holding}
use Rattle.store.proofs.Changed.{kept-parts, end_is, added-bytes, erased-bytes, replaced-bytes}
use Rattle.store.proofs.Ready.{ready}
use Rattle.store.proofs.Listing.{add-passed, erase-passed, replace-passed}
use Rattle.store.proofs.Starts.{fault-of, proper-of, relation-none, relation-some}

-- ---- an open store

opened-refused : (x : Result) (y : Refused Refusal) → Err y ≡ opened_of x → (x ≡ refused y.refusal y.place)
opened-refused (holds c) y e = absurd (let z : ◌≡◌ {A = ℕ} 0 1 = cc in omega arith)
opened-refused (refused z q) y e =
    let same : refused_at z q ≡ y = cc in
    ap (λ (x : Refused Refusal). refused x.refusal x.place) same

opened-is : (x : Result) (s : Store) → Ok s ≡ opened_of x → (c : Contents) × ((x ≡ holds c) × (s ≡ store_of c))
opened-is (holds c) s e = let same : s ≡ store_of c = cc in (c, (refl, same))
opened-is (refused z q) s e = absurd (let z : ◌≡◌ {A = ℕ} 0 1 = cc in omega arith)

held_by_lem : (b : List ℕ) (c : Contents) (x : Checked) → store_beside x b ≡ holds c → (rs : List Relation) × ((x ≡ proper rs) × (contents rs b ≡ some c))
held_by_lem b c (at_fault p) e = absurd (let z : ◌≡◌ {A = ℕ} 0 1 = cc in omega arith)
held_by_lem b c (proper rs) e = (rs, (refl, by (contents rs b) e))
  where
    by : (o : Option Contents) → or_malformed o ≡ holds c → o ≡ some c
    by none e = absurd (let z : ◌≡◌ {A = ℕ} 0 1 = cc in omega arith)
    by (some c') e = let same : c' ≡ c = cc in ap some same

store-holds : (d b : List ℕ) (c : Contents) → store_in d b ≡ holds c → (rs : List Relation) × Holding d rs b c
unfolding store_in
store-holds d b c e = let k = held_by_lem b c (dictionary d) e in (k.0, holding d k.0 b c k.1.0 k.1.1)

-- ---- the refusals are those of the list

add-refusal : {d : List ℕ} {rs : List Relation} {b : List ℕ} {c : Contents} → Holding d rs b c → Octets b → (x : List ℕ) →
    add_refusal (store_of c) b x ≡ refusal (length b) c (add x)
unfolding refusal used store_of
add-refusal {b = b} {c = c} h o x =
    ap₂ (λ u v. refuse_if (not u) WrongRecord (refuse_if (ltb (length b) (v + length x)) NoRoom none)) (one-by c.relation x) (end_is h o)

module _ (c : Contents) (n : ℕ) where
  erase-refusal : (k : ℕ) → erase_refusal (store_of c) k ≡ refusal n c (erase k)
  unfolding refusal store_of
  erase-refusal k = refl

  replace-refusal : (k : ℕ) (x : List ℕ) → replace_refusal (store_of c) k x ≡ refusal n c (replace k x)
  unfolding refusal store_of
  replace-refusal k x =
      ap (λ u. refuse_if (not (ltb k (length c.records))) NoPosition (refuse_if (not u) WrongRecord none)) (one-by c.relation x)

place_is : {d : List ℕ} {rs : List Relation} {b : List ℕ} {c : Contents} → Holding d rs b c → Octets b → (k : ℕ) (t : Bool) →
    ltb k (length c.records) ≡ t → place_by (store_of c) k ≡ place_in (holds c) k
unfolding place_by place_in store_of layout_of
place_is {c = c} h o k true e =
    let g = (kept-parts h o k (ltb-true k (length c.records) e)).1.0 in
    let size = layout-short c.relation (kept-short c.relation _ g) in
    rw (e) (ap (λ (z : ℕ). Ok (10 + k * z, z)) size)
place_is {c = c} h o k false e = rw e

pub place_none : (s : Store) (k : ℕ) → s.count ≤ k → Err (refused_at NoPosition 0) ≡ place_by s k
unfolding place_by
place_none s k h = rw (le-ltb k s.count h)

pub place-some : (s : Store) (k : ℕ) → k < s.count → Ok (place_of s k, s.layout.size) ≡ place_by s k
unfolding place_by
place-some s k h = rw (lt-ltb k s.count h)

-- ---- what is promised

abbrev ok_counts : Counts → Answer Counts (Refused Refusal)
ok_counts c = Ok c

module _ (d b : List ℕ) where
  module _ (y : Refused Refusal) (e : Err y ≡ opened_of (store_in d b)) where
    pub refused-called : (z : Change) (r : Answer (Unit {0}) (Refused Refusal)) → r ≡ Err y → Called d b (change z) b r
    unfolding called
    refused-called z r f = let is = opened-refused (store_in d b) y e in record { answered = rw is f; left_so = rw is }

    pub refused-read : Err y ≡ reading_of (store_in d b)
    refused-read = rw (opened-refused (store_in d b) y e)

    pub refused-find : (k : ℕ) → Err y ≡ place_in (store_in d b) k
    unfolding place_in
    refused-find k = rw (opened-refused (store_in d b) y e)

  module _ (s : Store) (is : Ok s ≡ opened_of (store_in d b)) where
    held : (c : Contents) × ((store_in d b ≡ holds c) × (s ≡ store_of c))
    held = opened-is (store_in d b) s is

    holding-so : Holding d (store-holds d b held.0 held.1.0).0 b held.0
    holding-so = (store-holds d b held.0 held.1.0).1

    pub is-ready : Octets b → Ready s b
    is-ready o = subst (λ z. Ready z b) (sym held.1.1) (ready holding-so o)

    pub are-numbers : Octets b → Numbers s
    are-numbers o = let k = is-ready o in omega (arith, k.inside, k.short)

    called_is : (y : Change) → called d b (change y) ≡ unless_refused (refusal (length b) held.0 y) (changed held.0 y)
    unfolding called
    called_is y = rw held.1.0

    called-by : (y : Change) (o : Option Refusal) (after b' : List ℕ) (r : Answer (Unit {0}) (Refused Refusal)) → o ≡ refusal (length b) held.0 y →
        (refusal (length b) held.0 y ≡ none → after ≡ image (changed held.0 y) (length b)) → Changes o b after b' r → Called d b (change y) b' r
    called-by y o after b' r e f k =
        record {
          answered = k.answer_is ∙ ap answer_by e ∙ answer (refusal (length b) held.0 y) ∙ ap answer_of (sym (called_is y));
          left_so = k.left_is ∙ ap (λ z. left_by z b after) e ∙ rest (refusal (length b) held.0 y) f ∙ ap (left b) (sym (called_is y));
        }
      where
        answer : (o : Option Refusal) → answer_by o ≡ answer_of (unless_refused o (changed held.0 y))
        answer none = refl
        answer (some x) = refl

        rest : (o : Option Refusal) → (o ≡ none → after ≡ image (changed held.0 y) (length b)) → left_by o b after ≡ left b (unless_refused o (changed held.0 y))
        rest none f = f refl
        rest (some x) f = refl

    module _ (o : Octets b) where
      pub add-called : (t x b' : List ℕ) (r : Answer (Unit {0}) (Refused Refusal)) → ((c : Contents) → store_in d b ≡ holds c → Laid c.relation t) → Octets x →
          Changes (add_refusal s b x) b (add_bytes s t b x) b' r → Called d b (change (add x)) b' r
      add-called t x b' r laid q k =
          called-by (add x) (add_refusal s b x) (add_bytes s t b x) b' r
          (ap (λ z. add_refusal z b x) held.1.1 ∙ add-refusal holding-so o x)
          (λ e.
          let two = add-passed held.0 (length b) x e in
          ap (λ z. add_bytes z t b x) held.1.1 ∙ added-bytes holding-so o t (laid held.0 held.1.0) x q two.0 two.1) k

      pub erase-called : (n : ℕ) (b' : List ℕ) (r : Answer (Unit {0}) (Refused Refusal)) → Changes (erase_refusal s n) b (erase_bytes s b n) b' r → Called d b (change (erase n)) b' r
      erase-called n b' r k =
          called-by (erase n) (erase_refusal s n) (erase_bytes s b n) b' r
          (ap (λ z. erase_refusal z n) held.1.1 ∙ erase-refusal held.0 (length b) n)
          (λ e. ap (λ z. erase_bytes z b n) held.1.1 ∙ erased-bytes holding-so o n (erase-passed held.0 (length b) n e)) k

      pub replace-called : (n : ℕ) (t x b' : List ℕ) (r : Answer (Unit {0}) (Refused Refusal)) → ((c : Contents) → store_in d b ≡ holds c → Laid c.relation t) → Octets x →
          Changes (replace_refusal s n x) b (replace_bytes s t b n x) b' r → Called d b (change (replace n x)) b' r
      replace-called n t x b' r laid q k =
          called-by (replace n x) (replace_refusal s n x) (replace_bytes s t b n x) b' r
          (ap (λ z. replace_refusal z n x) held.1.1 ∙ replace-refusal held.0 (length b) n x)
          (λ e.
          let two = replace-passed held.0 (length b) n x e in
          ap (λ z. replace_bytes z t b n x) held.1.1 ∙
          replaced-bytes holding-so o t (laid held.0 held.1.0) x q two.1 n two.0) k

      pub find-is : (n : ℕ) → place_by s n ≡ place_in (store_in d b) n
      unfolding place_in
      find-is n = ap (λ z. place_by z n) held.1.1 ∙ place_is holding-so o n (ltb n (length held.0.records)) refl ∙ ap (λ z. place_in z n) (sym held.1.0)

    pub read_is : Ok (record { relation = s.layout.id; records = s.count; missing = s.missing }) ≡ reading_of (store_in d b)
    unfolding store_of layout_of
    read_is =
        ap (λ (z : Store). ok_counts (record { relation = z.layout.id; records = z.count; missing = z.missing })) held.1.1 ∙ ap reading_of (sym held.1.0)

-- ---- the first call

module _ (d b : List ℕ) (i : ℕ) where
  pub make-fault : (e : Refused Refusal) (r : Answer (Unit {0}) (Refused Refusal)) → Err e ≡ dictionary_answer (dictionary d) → r ≡ Err e → Called d b (make i) b r
  unfolding called
  make-fault e r f g = let k = fault-of d e f in record { answered = rw k.0 (g ∙ ap Err k.1); left_so = rw k.0 }

  module _ (good : Ok tt ≡ dictionary_answer (dictionary d)) where
    pub make-unknown : (r : Answer (Unit {0}) (Refused Refusal)) → r ≡ Err (refused_at UnknownRelation 0) → None ≡ option_of (relation_place d (numbered i)) →
        Called d b (make i) b r
    unfolding called made_in
    make-unknown r f e =
        let is = (proper-of d good).1 in
        let no = relation-none d good i e in
        record { answered = rw (is, no) f; left_so = rw (is, no) }

    pub make-found : (q : ℕ) → Some q ≡ option_of (relation_place d (numbered i)) → (b' : List ℕ) (r : Answer (Unit {0}) (Refused Refusal)) → MadeOf (relation_at d q) b b' r →
        Called d b (make i) b' r
    unfolding called
    make-found q e b' r k =
        let is = (proper-of d good).1 in
        let found = relation-some d good i q e in
        record { answered = rw (is, found) k.made_answer; left_so = rw (is, found) k.made_left }

module _ (r : Relation) (b : List ℕ) where
  pub made-long : (x : Answer (Unit {0}) (Refused Refusal)) → x ≡ Err (refused_at MalformedStore 0) → 65535 < length b → MadeOf r b b x
  unfolding made_in
  made-long x is h = let e = lt-ltb 65535 (length b) h in record { made_answer = rw e is; made_left = rw e }

  module _ (short : length b ≤ 65535) where
    pub made-cut : (x : Answer (Unit {0}) (Refused Refusal)) → x ≡ Err (refused_at NoRoom 0) → length b < 10 → MadeOf r b b x
    unfolding made_in
    made-cut x is h =
        let e = le-ltb 65535 (length b) short in
        let f = lt-ltb (length b) 10 h in
        record { made_answer = rw (e, f) is; made_left = rw (e, f) }

    pub made-empty : 10 ≤ length b → (b' : List ℕ) → b' ≡ image (empty_of r) (length b) → MadeOf r b b' (Ok tt)
    unfolding made_in
    made-empty h b' k =
        let e = le-ltb 65535 (length b) short in
        let f = le-ltb (length b) 10 h in
        record { made_answer = rw (e, f); made_left = rw (e, f) k }

zeros-split : (n : ℕ) → 10 ≤ n → zeros n ≡ zeros 10 ++ zeros (n - 10)
zeros-split n h =
    let e : n ≡ 10 + (n - 10) = omega arith in
    ap zeros e ∙ sym (replicate-append-replicate {A = ℕ} 10 (n - 10) 0)

empty-list : (b : List ℕ) → 10 ≤ length b → cleared b 0 ≡ zeros 10 ++ zeros (length b - 10)
unfolding cleared
empty-list b h = let e : length b - 0 ≡ length b = omega arith in ap zeros e ∙ zeros-split (length b) h

pub empty-bytes : (r : Relation) (b : List ℕ) (i : ℕ) → 10 ≤ length b → i ≡ r.id →
    over (over (over (cleared b 0) 0 (word_bytes 10)) 2 (word_bytes 8)) 4 (word_bytes i) ≡ image (empty_of r) (length b)
unfolding over image header used joined missing_count sum_of
empty-bytes r b i h e =
    ap₂ (λ z j. over (over (over z 0 (word_bytes 10)) 2 (word_bytes 8)) 4 (word_bytes j)) (empty-list b h) e
