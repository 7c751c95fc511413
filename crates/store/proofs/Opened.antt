-- What is known of a store that a buffer holds.
use Prim.Native.Nat.{ℕ, suc, ◌+◌, ◌*◌, ◌≤◌, ◌<◌}
use mathlib.Core.Path.{◌≡◌, refl, sym, ap, subst, ◌∙◌}
use mathlib.Core.Bool.{Bool, true, false}
use mathlib.Core.List.{List, [], ◌∷◌, ◌++◌, append_assoc}
use mathlib.Core.Option.{Option, none, some}
use native.Mathlib.Omega.{arith}
use lib.Count.{ones, ones-le}
use lib.Dec.{ltb}
use lib.ListN.{length, get_or, take, drop, length-append, length-take, get_or-eq_default, get_or-append}
use lib.Seq.{get_or-take, get_or-drop, get_or-append-add}
use borrow.Author.Tests.{ltb-true, ltb-false}
use Rattle.wire.specs.Words.{byte_at, word_at}
use Rattle.wire.specs.Lists.{sum_of, ◌and_then◌}
use Rattle.dictionary.specs.Dictionary.{Relation, proper, dictionary}
use Rattle.dictionary.specs.Naming.{numbered, relation_of}
use Rattle.records.specs.Record.{missing_bytes}
use Rattle.store.specs.Store.{Contents, missing_in, missing_count, joined, image, listed, well_formed, held_by, contents}
use Rattle.store.specs.Listing.{Octets}
use Rattle.store.specs.Internal.Layouts.{layout_of}
use Rattle.store.specs.Internal.Changes.{Fair}
use Rattle.store.proofs.Records.{Part}
use Rattle.store.proofs.House.{found-fields, fair}
use Rattle.store.proofs.Images.{Formed, formed, image-of, Good, listed-count}

-- ---- the relation and the list of a buffer

record Held (rs : List Relation) (b : List ℕ) (c : Contents) : Type 0 where
  of-relation : relation_of rs (numbered (word_at b 4)) ≡ some c.relation
  is-listed : c ≡ listed c.relation b
  is-formed : Formed c b

held_by_lem : (rs : List Relation) (b : List ℕ) (c : Contents) (r : Relation) (t : Bool) → well_formed (listed r b) b ≡ t →
    relation_of rs (numbered (word_at b 4)) ≡ some r → held_by t (listed r b) ≡ some c → Held rs b c
unfolding listed
held_by_lem rs b c r true w e s =
    let same : listed r b ≡ c = cc in
    subst (Held rs b) same (record { of-relation = e; is-listed = refl; is-formed = formed (listed r b) b w })
held_by_lem rs b c r false w e s = absurd (let z : ◌≡◌ {A = ℕ} 0 1 = cc in omega arith)

found-by : (rs : List Relation) (b : List ℕ) (c : Contents) (x : Option Relation) → relation_of rs (numbered (word_at b 4)) ≡ x →
    x and_then (λ r. held_by (well_formed (listed r b) b) (listed r b)) ≡ some c → Held rs b c
found-by rs b c none e s = absurd (let z : ◌≡◌ {A = ℕ} 0 1 = cc in omega arith)
found-by rs b c (some r) e s = held_by_lem rs b c r (well_formed (listed r b) b) refl e s

held-is : (rs : List Relation) (b : List ℕ) (c : Contents) → contents rs b ≡ some c → Held rs b c
unfolding contents
held-is rs b c e = found-by rs b c (relation_of rs (numbered (word_at b 4))) refl e

-- the header's counts are the list's
pub header-counts : (rs : List Relation) (b : List ℕ) (c : Contents) → contents rs b ≡ some c →
    (word_at b 6 ≡ length c.records) × (word_at b 8 ≡ missing_count c)
header-counts rs b c e =
    let h = held-is rs b c e in
    (sym (ap (λ x. length x.records) h.is-listed ∙ listed-count c.relation b), h.is-formed.missing-is)

-- ---- a buffer beside a proper dictionary

pub record Holding (d : List ℕ) (rs : List Relation) (b : List ℕ) (c : Contents) : Type 0 where
  pub is-good : Good rs c (length b)
  pub fair-layout : Fair (layout_of c.relation)
  pub is-image : Octets b → b ≡ image c (length b)

pub holding : (d : List ℕ) (rs : List Relation) (b : List ℕ) (c : Contents) → dictionary d ≡ proper rs → contents rs b ≡ some c → Holding d rs b c
holding d rs b c e f =
    let h = held-is rs b c f in
    let k = found-fields d rs e (word_at b 4) c.relation h.of-relation in
    let same = h.is-listed in
    record {
      is-good = record {
        known = ap (λ i. relation_of rs (numbered i)) k.1 ∙ h.of-relation;
        good-records = h.is-formed.all-kept;
        fits = h.is-formed.inside;
        at_most = h.is-formed.short;
      };
      fair-layout = fair c.relation k.0;
      is-image = λ o.
          image-of c.relation b o k.1 (subst (λ x. Formed x b) same h.is-formed) ∙ ap (λ x. image x (length b)) (sym same);
    }

-- ---- a record in the middle

pub joined-append : (k l : List (List ℕ)) → joined (k ++ l) ≡ joined k ++ joined l
unfolding joined
joined-append [] l = refl
joined-append (x ∷ k) l = ap (λ m. x ++ m) (joined-append k l) ∙ sym (append_assoc x (joined k) (joined l))

pub sum-append : (f : List ℕ → ℕ) (k l : List (List ℕ)) → sum_of f (k ++ l) ≡ sum_of f k + sum_of f l
unfolding sum_of
sum-append f [] l = omega arith
sum-append f (x ∷ k) l = omega (arith, sum-append f k l)

pub part-middle : (a x z : List ℕ) (p : ℕ) → length a ≡ p → Part (a ++ x ++ z) p x
part-middle a x z p e =
    record {
      same_bytes = λ j h.
          sym (get_or-append (a ++ x) z 0 (p + j) (omega (arith, length-append a x, e)) ∙ ap (λ i. get_or (a ++ x) (i + j) 0) (sym e) ∙
          get_or-append-add a x j 0);
      inside = omega (arith, length-append (a ++ x) z, length-append a x, e);
    }

-- ---- bits set

octets-rest : (v : ℕ) (l : List ℕ) → Octets (v ∷ l) → Octets l
octets-rest v l o p = o (suc p)

ones_few : (l : List ℕ) → Octets l → sum_of ones l ≤ 8 * length l
unfolding sum_of
ones_few [] o = omega arith
ones_few (v ∷ l) o = omega (arith, ones-le 8 v (o 0), ones_few l (octets-rest v l o))

pub octets-take : (n : ℕ) (s : List ℕ) → Octets s → Octets (take n s)
octets-take n s o p = by (ltb p n) refl
  where
    by : (b : Bool) → ltb p n ≡ b → byte_at (take n s) p < 256
    by true e = rw (get_or-take n s p 0 (ltb-true p n e)) (o p)
    by false e =
        let h : length (take n s) ≤ p = omega (arith, length-take n s, ltb-false p n e) in
        rw (get_or-eq_default (take n s) 0 h) (omega arith)

pub octets-drop : (n : ℕ) (s : List ℕ) → Octets s → Octets (drop n s)
octets-drop n s o p = rw (get_or-drop n s p 0) (o (n + p))

pub missing-few : (r : Relation) (x : List ℕ) → Octets x → missing_in r x ≤ 8 * missing_bytes r
unfolding missing_in
missing-few r x o =
    let l = take (missing_bytes r) (drop 6 x) in
    omega (arith, ones_few l (octets-take (missing_bytes r) (drop 6 x) (octets-drop 6 x o)), length-take (missing_bytes r) (drop 6 x))
