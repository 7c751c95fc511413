-- In a proper dictionary the entries say of each relation what the definition says of it.
use mathlib.Core.Path.{◌≡◌, refl, ap, subst, ◌∙◌}
use mathlib.Core.Bool.{Bool, true, false, cond}
use mathlib.Core.List.{List, [], ◌∷◌, ◌++◌, map}
use mathlib.Core.Option
use mathlib.Core.Option.{Option, none, some}
use Prim.Native.Nat.{ℕ, zero, suc, ◌+◌, ◌≤◌, ◌<◌}
use native.Mathlib.Omega.{arith}
use lib.Dec.{eqb, ltb, leb}
use lib.ListN.{length}
use borrow.Author.Tests.{eqb-true, ltb-true, ltb-false}
use Rattle.wire.specs.Words.{byte_at, word_at}
use Rattle.wire.specs.Lists.{find, same_bytes}
use Rattle.wire.specs.Classes.{Class, due, left_out, foreign, field_class}
use Rattle.wire.specs.declared.codes.FieldType.{FieldType}
use Rattle.dictionary.specs.Dictionary.{kind_at, Relation, name_at, whole_entry, relation_fits, relation_entry, field_fits, field_at, with_field, field_entry, entry, Checked, proper, at_fault, next_entry, entries, dictionary}
use Rattle.dictionary.specs.Naming.{Name, named, numbered, relation_of}
use Rattle.dictionary.specs.Internal.Walk.{between, later, last_of, is_named, relation_place, type_of, entry_field, fields_from, fields_of, relation_at}
use Rattle.dictionary.proofs.Places.{Walk, here, walk-on, last_one, none_between}
use Rattle.dictionary.proofs.Tests.{both_left}
use Rattle.dictionary.proofs.Checked.{relation_test, whole_long, whole-inside}
use Rattle.dictionary.proofs.FieldRuns.{Run, empty, one_more, Stop, stop-end, stop-kind, run-fields}

abbrev pub place_of : Relation → ℕ
place_of r = r.place

-- ---- the last place that passes

last_snoc : (t : ℕ → Bool) (l : List ℕ) (x : ℕ) → last_of t (l ++ (x ∷ [])) ≡ cond (t x) (some x) (last_of t l)
unfolding last_of
last_snoc t [] x = by (t x)
  where
    by : (b : Bool) → later none b x ≡ cond b (some x) none
    by true = refl
    by false = refl
last_snoc t (y ∷ l) x = ap (λ o. later o (t y) y) (last_snoc t l x) ∙ by (t x)
  where
    by : (b : Bool) → later (cond b (some x) (last_of t l)) (t y) y ≡ cond b (some x) (later (last_of t l) (t y) y)
    by true = refl
    by false = refl

-- ---- relations as their entries say

-- the last relation, whose fields go on to p
pub record Open (d : List ℕ) (p : ℕ) (r : Relation) : Type 0 where
  pub id-is : word_at d (r.place + 4) ≡ r.id
  pub name-is : name_at d (r.place + 6) ≡ r.name
  pub run : Run d (r.place + word_at d r.place) r.fields p

abbrev pub Closed : List ℕ → List Relation → Type 0
Closed d [] = Unit {0}
Closed d (r ∷ rs) = (relation_at d r.place ≡ r) × Closed d rs

abbrev pub Placed : List ℕ → ℕ → List Relation → Type 0
Placed d p [] = Unit {0}
Placed d p (r ∷ rs) = Open d p r × Closed d rs

close-one : (d : List ℕ) (p : ℕ) (r : Relation) → Open d p r → Stop d p → relation_at d r.place ≡ r
unfolding relation_at fields_of fields_from
close-one d p r o s =
    let q = r.place + word_at d r.place in
    let f : map (entry_field d) (fields_of d r.place) ≡ r.fields = run-fields d (length d) q p r.fields o.run s (omega arith) in
    λ i. record { place = r.place; id = o.id-is i; name = o.name-is i; fields = f i }

close : (d : List ℕ) (p : ℕ) (rs : List Relation) → Placed d p rs → Stop d p → Closed d rs
close d p [] k s = tt
close d p (r ∷ rs) k s = (close-one d p r k.0 s, k.1)

-- what holds when the definition has come to p
pub record Kept (d : List ℕ) (p : ℕ) (rs : List Relation) : Type 0 where
  pub walked : Walk d 0 p
  pub inside : p ≤ length d
  pub found : (t : ℕ → List ℕ → Bool) → last_of (relation_test d t) (between d 0 p) ≡ Option.map place_of (find (λ r. t r.id r.name) rs)
  pub all_placed : Placed d p rs

kept-relation : (d : List ℕ) (p : ℕ) (rs : List Relation) → Kept d p rs → kind_at d p ≡ 1 → 0 < word_at d p → p + word_at d p ≤ length d →
    Kept d (p + word_at d p) (record { place = p; id = word_at d (p + 4); name = name_at d (p + 6); fields = [] } ∷ rs)
unfolding find
kept-relation d p rs k one w i =
    record {
      walked = walk-on k.walked w;
      inside = i;
      found = λ t. rw (last_one d k.walked w, last_snoc (relation_test d t) (between d 0 p) p, k.found t, one) (by (t (word_at d (p + 4)) (name_at d (p + 6))) (find (λ r. t r.id r.name) rs));
      all_placed = (record { id-is = refl; name-is = refl; run = empty }, close d p rs k.all_placed (stop-kind d p (λ two. absurd (differ two))));
    }
  where
    by : (b : Bool) (o : Option Relation) → cond b (some p) (Option.map place_of o) ≡ Option.map place_of (cond b (some (record { place = p; id = word_at d (p + 4); name = name_at d (p + 6); fields = [] })) o)
    by true o = refl
    by false o = refl

    differ : kind_at d p ≡ 2 → ⊥
    differ two = omega (arith, one, two)

kept_field : (d : List ℕ) (p : ℕ) (t : FieldType) (r : Relation) (rs : List Relation) → Kept d p (r ∷ rs) → field_class (byte_at d (p + 6)) ≡ due t → kind_at d p ≡ 2 → p < length d → 0 < word_at d p → p + word_at d p ≤ length d →
    Kept d (p + word_at d p) (with_field r (field_at d p t) ∷ rs)
unfolding find entry_field
kept_field d p t r rs k c two h w i =
    record {
      walked = walk-on k.walked w;
      inside = i;
      found = λ s. rw (last_one d k.walked w, last_snoc (relation_test d s) (between d 0 p) p, k.found s, two) (by (s r.id r.name) (find (λ x. s x.id x.name) rs));
      all_placed = (record { id-is = k.all_placed.0.id-is; name-is = k.all_placed.0.name-is; run = grown }, k.all_placed.1);
    }
  where
    by : (b : Bool) (o : Option Relation) → Option.map place_of (cond b (some r) o) ≡ Option.map place_of (cond b (some (with_field r (field_at d p t))) o)
    by true o = refl
    by false o = refl

    grown : Run d (r.place + word_at d r.place) (r.fields ++ (field_at d p t ∷ [])) (p + word_at d p)
    grown = subst (λ x. Run d (r.place + word_at d r.place) (r.fields ++ (field_at d p (type_of x) ∷ [])) (p + word_at d p)) c (one_more k.all_placed.0.run h w two)

-- ---- one entry

relation-kept : (d : List ℕ) (p : ℕ) (rs rs' : List Relation) → Kept d p rs → kind_at d p ≡ 1 → (b : Bool) → relation_fits d p rs ≡ b →
    cond b (some (record { place = p; id = word_at d (p + 4); name = name_at d (p + 6); fields = [] } ∷ rs)) none ≡ some rs' → (0 < word_at d p) × Kept d (p + word_at d p) rs'
relation-kept d p rs rs' k one true e s =
    let w : whole_entry d p 6 ≡ true = both_left _ _ (both_left _ _ (both_left _ _ (both_left _ _ e))) in
    let same : record { place = p; id = word_at d (p + 4); name = name_at d (p + 6); fields = [] } ∷ rs ≡ rs' = cc in
    (whole_long d p 6 w, subst (Kept d (p + word_at d p)) same (kept-relation d p rs k one (whole_long d p 6 w) (whole-inside d p 6 w)))
relation-kept d p rs rs' k one false e s = let z : ◌≡◌ {A = ℕ} 0 1 = cc in absurd (omega arith)

field-kept : (d : List ℕ) (p : ℕ) (t : FieldType) (r : Relation) (rs rs' : List Relation) → Kept d p (r ∷ rs) → field_class (byte_at d (p + 6)) ≡ due t → kind_at d p ≡ 2 → p < length d → (b : Bool) → field_fits d p t r ≡ b →
    cond b (some (with_field r (field_at d p t) ∷ rs)) none ≡ some rs' → (0 < word_at d p) × Kept d (p + word_at d p) rs'
field-kept d p t r rs rs' k c two h true e s =
    let w : whole_entry d p 10 ≡ true = both_left _ _ (both_left _ _ (both_left _ _ (both_left _ _ (both_left _ _ e)))) in
    let same : with_field r (field_at d p t) ∷ rs ≡ rs' = cc in
    (whole_long d p 10 w, subst (Kept d (p + word_at d p)) same (kept_field d p t r rs k c two h (whole_long d p 10 w) (whole-inside d p 10 w)))
field-kept d p t r rs rs' k c two h false e s = let z : ◌≡◌ {A = ℕ} 0 1 = cc in absurd (omega arith)

class-kept : (d : List ℕ) (p : ℕ) (c : Class FieldType) (rs rs' : List Relation) → Kept d p rs → field_class (byte_at d (p + 6)) ≡ c → kind_at d p ≡ 2 → p < length d → field_entry d p c rs ≡ some rs' → (0 < word_at d p) × Kept d (p + word_at d p) rs'
unfolding field_entry
class-kept d p foreign [] rs' k e two h s = let z : ◌≡◌ {A = ℕ} 0 1 = cc in absurd (omega arith)
class-kept d p foreign (r ∷ rs) rs' k e two h s = let z : ◌≡◌ {A = ℕ} 0 1 = cc in absurd (omega arith)
class-kept d p left_out [] rs' k e two h s = let z : ◌≡◌ {A = ℕ} 0 1 = cc in absurd (omega arith)
class-kept d p left_out (r ∷ rs) rs' k e two h s = let z : ◌≡◌ {A = ℕ} 0 1 = cc in absurd (omega arith)
class-kept d p (due t) [] rs' k e two h s = let z : ◌≡◌ {A = ℕ} 0 1 = cc in absurd (omega arith)
class-kept d p (due t) (r ∷ rs) rs' k e two h s = field-kept d p t r rs rs' k e two h (field_fits d p t r) refl s

kind-kept : (d : List ℕ) (p : ℕ) (rs rs' : List Relation) → Kept d p rs → p < length d → (a b : Bool) → eqb (kind_at d p) 1 ≡ a → eqb (kind_at d p) 2 ≡ b →
    cond a (relation_entry d p rs) (cond b (field_entry d p (field_class (byte_at d (p + 6))) rs) none) ≡ some rs' → (0 < word_at d p) × Kept d (p + word_at d p) rs'
unfolding relation_entry
kind-kept d p rs rs' k h true b e f s = relation-kept d p rs rs' k (eqb-true (kind_at d p) 1 e) (relation_fits d p rs) refl s
kind-kept d p rs rs' k h false true e f s = class-kept d p (field_class (byte_at d (p + 6))) rs rs' k refl (eqb-true (kind_at d p) 2 f) h s
kind-kept d p rs rs' k h false false e f s = let z : ◌≡◌ {A = ℕ} 0 1 = cc in absurd (omega arith)

entry_kept : (d : List ℕ) (p : ℕ) (rs rs' : List Relation) → Kept d p rs → p < length d → entry d p rs ≡ some rs' → (0 < word_at d p) × Kept d (p + word_at d p) rs'
unfolding entry
entry_kept d p rs rs' k h s = kind-kept d p rs rs' k h (eqb (kind_at d p) 1) (eqb (kind_at d p) 2) refl refl s

-- ---- all entries

-- where a proper dictionary ends
pub record Whole (d : List ℕ) (rs : List Relation) : Type 0 where
  pub all_closed : Closed d rs
  pub all_found : (t : ℕ → List ℕ → Bool) → last_of (relation_test d t) (between d 0 (length d)) ≡ Option.map place_of (find (λ r. t r.id r.name) rs)

-- the walk comes to the end of the dictionary
ended : (d : List ℕ) (p : ℕ) (rs : List Relation) → Kept d p rs → length d ≤ p → Whole d rs
ended d p rs k h =
    let e : p ≡ length d = omega (arith, k.inside) in
    record {
      all_closed = close d p rs k.all_placed (stop-end d p h);
      all_found = λ t. subst (λ n. last_of (relation_test d t) (between d 0 n) ≡ Option.map place_of (find (λ r. t r.id r.name) rs)) e (k.found t);
    }

by-entry : (d : List ℕ) (p : ℕ) (rs rs' : List Relation) (b : Bool) → ltb p (length d) ≡ b → (x : Option (List Relation)) → entry d p rs ≡ x → (f : List Relation → Checked) → Kept d p rs →
    ((r : List Relation) → 0 < word_at d p → Kept d (p + word_at d p) r → f r ≡ proper rs' → Whole d rs') → next_entry b x p rs f ≡ proper rs' → Whole d rs'
by-entry d p rs rs' false e x s f k h n =
    let same : rs ≡ rs' = cc in subst (Whole d) same (ended d p rs k (ltb-false p (length d) e))
by-entry d p rs rs' true e none s f k h n = let z : ◌≡◌ {A = ℕ} 0 1 = cc in absurd (omega arith)
by-entry d p rs rs' true e (some r) s f k h n =
    let x = entry_kept d p rs r k (ltb-true p (length d) e) s in h r x.0 x.1 n

from-kept : (n : ℕ) (d : List ℕ) (p : ℕ) (rs rs' : List Relation) → Kept d p rs → length d ≤ p + n → entries n d p rs ≡ proper rs' → Whole d rs'
unfolding entries
from-kept zero d p rs rs' k g s = let same : rs ≡ rs' = cc in subst (Whole d) same (ended d p rs k (omega arith))
from-kept (suc n) d p rs rs' k g s =
    by-entry d p rs rs' (ltb p (length d)) refl (entry d p rs) refl (λ r. entries n d (p + word_at d p) r) k
    (λ r w k' e. from-kept n d (p + word_at d p) r rs' k' (omega arith) e) s

kept-start : (d : List ℕ) → Kept d 0 []
unfolding find last_of
kept-start d =
    record { walked = here; inside = omega arith; found = λ t. rw (none_between d 0 0 (omega arith)); all_placed = tt }

whole_by : (d : List ℕ) (rs : List Relation) (b : Bool) → cond b (entries (length d) d 0 []) (at_fault 0) ≡ proper rs → Whole d rs
whole_by d rs true e = from-kept (length d) d 0 [] rs (kept-start d) (omega arith) e
whole_by d rs false e = let z : ◌≡◌ {A = ℕ} 0 1 = cc in absurd (omega arith)

pub whole : (d : List ℕ) (rs : List Relation) → dictionary d ≡ proper rs → Whole d rs
unfolding dictionary
whole d rs e = whole_by d rs (leb (length d) 65535) e

-- ---- looking up

-- what is found is as its entry says
closed-found : (d : List ℕ) (t : Relation → Bool) (rs : List Relation) → Closed d rs → Option.map (relation_at d) (Option.map place_of (find t rs)) ≡ find t rs
unfolding find
closed-found d t [] k = refl
closed-found d t (r ∷ rs) k = by (t r) (find t rs) (closed-found d t rs k.1)
  where
    by : (b : Bool) (o : Option Relation) → Option.map (relation_at d) (Option.map place_of o) ≡ o → Option.map (relation_at d) (Option.map place_of (cond b (some r) o)) ≡ cond b (some r) o
    by true o e = ap some k.0
    by false o e = e

short-by : (d : List ℕ) (rs : List Relation) (b : Bool) → leb (length d) 65535 ≡ b → cond b (entries (length d) d 0 []) (at_fault 0) ≡ proper rs → leb (length d) 65535 ≡ true
short-by d rs true l e = l
short-by d rs false l e = let z : ◌≡◌ {A = ℕ} 0 1 = cc in absurd (omega arith)

short : (d : List ℕ) (rs : List Relation) → dictionary d ≡ proper rs → leb (length d) 65535 ≡ true
unfolding dictionary
short d rs e = short-by d rs (leb (length d) 65535) refl e

place_found : (d : List ℕ) (rs : List Relation) → dictionary d ≡ proper rs → (n : Name) → relation_place d n ≡ Option.map place_of (relation_of rs n)
unfolding relation_place is_named relation_of
place_found d rs e (named n) = rw (short d rs e) ((whole d rs e).all_found (λ i x. same_bytes x n))
place_found d rs e (numbered i) = rw (short d rs e) ((whole d rs e).all_found (λ j x. eqb j i))

-- in a proper dictionary the place that is found is that of the relation which the definition means
pub found-is : (d : List ℕ) (rs : List Relation) → dictionary d ≡ proper rs → (n : Name) → Option.map (relation_at d) (relation_place d n) ≡ relation_of rs n
unfolding relation_of
found-is d rs e (named n) = ap (Option.map (relation_at d)) (place_found d rs e (named n)) ∙ closed-found d (λ r. same_bytes r.name n) rs (whole d rs e).all_closed
found-is d rs e (numbered i) = ap (Option.map (relation_at d)) (place_found d rs e (numbered i)) ∙ closed-found d (λ r. eqb r.id i) rs (whole d rs e).all_closed
