-- In a proper dictionary a relation that is found under any name or id is found again by its own id.
use Prim.Native.Nat.{ℕ, zero, suc, ◌+◌}
use mathlib.Core.Path.{◌≡◌, refl, sym, ap, subst, ◌∙◌}
use mathlib.Core.Bool.{Bool, true, false, cond, not, ◌&&◌, ◌||◌, or-true}
use mathlib.Core.List.{List, [], ◌∷◌}
use mathlib.Core.Option.{Option, none, some, map}
use lib.Dec.{eqb, leb, ltb}
use lib.ListN.{length}
use borrow.Author.Tests.{eq-eqb, ne_eqb, not-true}
use Rattle.wire.specs.Words.{byte_at, word_at}
use Rattle.wire.specs.Lists.{find, any_of, same_bytes}
use Rattle.wire.specs.Classes.{Class, due, left_out, foreign, field_class}
use Rattle.wire.specs.declared.codes.FieldType.{FieldType}
use Rattle.dictionary.specs.Dictionary.{Relation, name_at, good_name, whole_entry, relation_fits, relation_entry, field_fits, field_at, with_field, field_entry, entry, proper, at_fault, next_entry, entries, dictionary}
use Rattle.dictionary.specs.Naming.{Name, named, numbered, relation_of}
use Rattle.dictionary.specs.Internal.Walk.{relation_place, relation_at}
use Rattle.dictionary.proofs.Tests.{both_left, both_right}
use Rattle.dictionary.proofs.Relations.{found-is}
use Rattle.grammar.proofs.StepLaws.{absurd-eq}

-- no id repeats
abbrev pub IdsOnce : List Relation → Type 0
IdsOnce [] = Unit {0}
IdsOnce (r ∷ rs) = (any_of (λ x. eqb x.id r.id) rs ≡ false) × IdsOnce rs

-- ---- where no id repeats

found-any : (t u : Relation → Bool) (rs : List Relation) (r : Relation) → find t rs ≡ some r → u r ≡ true → any_of u rs ≡ true
unfolding find any_of
found-any t u [] r e h = absurd-eq (cc)
found-any t u (x ∷ rs) r e h = by (t x) e (λ f. found-any t u rs r f h)
  where
    by : (b : Bool) → cond b (some x) (find t rs) ≡ some r → (find t rs ≡ some r → any_of u rs ≡ true) → u x || any_of u rs ≡ true
    by true f next = let z : x ≡ r = cc in rw (z, h)
    by false f next = rw (next f) (or-true (u x))

pub id-found : (t : Relation → Bool) (rs : List Relation) (r : Relation) → IdsOnce rs → find t rs ≡ some r →
    find (λ x. eqb x.id r.id) rs ≡ some r
unfolding find
id-found t [] r o e = absurd-eq (cc)
id-found t (x ∷ rs) r o e = by (t x) e (id-found t rs r o.1)
  where
    other : find t rs ≡ some r → x.id ≡ r.id → ⊥
    other f same =
        let z = found-any t (λ y. eqb y.id x.id) rs r f (eq-eqb r.id x.id (sym same)) in
        let w : false ≡ true = sym o.0 ∙ z in
        absurd-eq (cc)

    by : (b : Bool) → cond b (some x) (find t rs) ≡ some r → (find t rs ≡ some r → find (λ y. eqb y.id r.id) rs ≡ some r) →
        cond (eqb x.id r.id) (some x) (find (λ y. eqb y.id r.id) rs) ≡ some r
    by true f next = let z : x ≡ r = cc in rw (eq-eqb x.id r.id (ap (λ (y : Relation). y.id) z)) (ap some z)
    by false f next = rw (ne_eqb x.id r.id (other f)) (next f)

-- ---- in a proper dictionary none repeats

module _ (d : List ℕ) (p : ℕ) (rs rs' : List Relation) (o : IdsOnce rs) where
  by-relation : (b : Bool) → relation_fits d p rs ≡ b →
      cond b (some (record { place = p; id = word_at d (p + 4); name = name_at d (p + 6); fields = [] } ∷ rs)) none ≡ some rs' → IdsOnce rs'
  by-relation true e s =
      let z : record { place = p; id = word_at d (p + 4); name = name_at d (p + 6); fields = [] } ∷ rs ≡ rs' = cc in
      let w = both_left _ (not (any_of (λ r. same_bytes r.name (name_at d (p + 6))) rs)) e in
      let v = both_right (whole_entry d p 6 && good_name (name_at d (p + 6)) && ltb (length rs) 32) _ w in
      subst IdsOnce z (not-true (any_of (λ x. eqb x.id (word_at d (p + 4))) rs) v, o)
  by-relation false e s = absurd-eq (cc)

by_field : (d : List ℕ) (p : ℕ) (c : Class FieldType) (rs rs' : List Relation) → IdsOnce rs → field_entry d p c rs ≡ some rs' → IdsOnce rs'
unfolding field_entry
by_field d p foreign [] rs' o s = absurd-eq (cc)
by_field d p foreign (r ∷ rs) rs' o s = absurd-eq (cc)
by_field d p left_out [] rs' o s = absurd-eq (cc)
by_field d p left_out (r ∷ rs) rs' o s = absurd-eq (cc)
by_field d p (due t) [] rs' o s = absurd-eq (cc)
by_field d p (due t) (r ∷ rs) rs' o s = by (field_fits d p t r) s
  where
    by : (b : Bool) → cond b (some (with_field r (field_at d p t) ∷ rs)) none ≡ some rs' → IdsOnce rs'
    by true s = let z : with_field r (field_at d p t) ∷ rs ≡ rs' = cc in subst IdsOnce z o
    by false s = absurd-eq (cc)

entry-once : (d : List ℕ) (p : ℕ) (rs rs' : List Relation) → IdsOnce rs → entry d p rs ≡ some rs' → IdsOnce rs'
unfolding entry relation_entry
entry-once d p rs rs' o s = by (eqb (word_at d (p + 2)) 1) (eqb (word_at d (p + 2)) 2) s
  where
    by : (a b : Bool) → cond a (relation_entry d p rs) (cond b (field_entry d p (field_class (byte_at d (p + 6))) rs) none) ≡ some rs' →
        IdsOnce rs'
    by true b s = by-relation d p rs rs' o (relation_fits d p rs) refl s
    by false true s = by_field d p (field_class (byte_at d (p + 6))) rs rs' o s
    by false false s = absurd-eq (cc)

entries-once : (n : ℕ) (d : List ℕ) (p : ℕ) (rs rs' : List Relation) → IdsOnce rs → entries n d p rs ≡ proper rs' → IdsOnce rs'
unfolding entries
entries-once zero d p rs rs' o s = let z : rs ≡ rs' = cc in subst IdsOnce z o
entries-once (suc n) d p rs rs' o s = by (ltb p (length d)) (entry d p rs) refl s (λ l. entries-once n d (p + word_at d p) l rs')
  where
    by : (b : Bool) (x : Option (List Relation)) → entry d p rs ≡ x →
        next_entry b x p rs (λ l. entries n d (p + word_at d p) l) ≡ proper rs' →
        ((l : List Relation) → IdsOnce l → entries n d (p + word_at d p) l ≡ proper rs' → IdsOnce rs') → IdsOnce rs'
    by false x e s next = let z : rs ≡ rs' = cc in subst IdsOnce z o
    by true none e s next = absurd-eq (cc)
    by true (some l) e s next = next l (entry-once d p rs l o e) s

pub proper-once : (d : List ℕ) (rs : List Relation) → dictionary d ≡ proper rs → IdsOnce rs
unfolding dictionary
proper-once d rs e = by (leb (length d) 65535) e
  where
    by : (b : Bool) → cond b (entries (length d) d 0 []) (at_fault 0) ≡ proper rs → IdsOnce rs
    by true e = entries-once (length d) d 0 [] rs tt e
    by false e = absurd-eq (cc)

module _ (d : List ℕ) (rs : List Relation) (h : dictionary d ≡ proper rs) where
  pub id-finds : (n : Name) (r : Relation) → relation_of rs n ≡ some r → relation_of rs (numbered r.id) ≡ some r
  unfolding relation_of
  id-finds (named n) r e = id-found _ rs r (proper-once d rs h) e
  id-finds (numbered i) r e = id-found _ rs r (proper-once d rs h) e

  -- the code finds its entry by the id
  pub entry-by-id : (n : Name) (r : Relation) → relation_of rs n ≡ some r →
      (z : ℕ) × (relation_place d (numbered r.id) ≡ some z) × (relation_at d z ≡ r)
  entry-by-id n r e = by (relation_place d (numbered r.id)) refl
    where
      by : (x : Option ℕ) → relation_place d (numbered r.id) ≡ x →
          (z : ℕ) × (relation_place d (numbered r.id) ≡ some z) × (relation_at d z ≡ r)
      by none g =
          let k : none ≡ some r = sym (ap (map (relation_at d)) g) ∙ found-is d rs h (numbered r.id) ∙ id-finds n r e in
          absurd-eq (cc)
      by (some z) g =
          let k : some (relation_at d z) ≡ some r =
          sym (ap (map (relation_at d)) g) ∙ found-is d rs h (numbered r.id) ∙ id-finds n r e in
          (z, g, (cc))
