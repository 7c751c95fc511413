-- The check by places finds what the definition says: proper, or the first entry at fault.
use mathlib.Core.Path.{◌≡◌, refl, sym, ap, ◌∙◌}
use mathlib.Core.Bool.{Bool, true, false, cond, not, ◌&&◌, ◌||◌}
use mathlib.Core.List.{List, [], ◌∷◌}
use mathlib.Core.Option.{Option, none, some}
use Prim.Native.Nat.{ℕ, zero, suc, ◌+◌, ◌≤◌, ◌<◌}
use native.Mathlib.Omega.{arith}
use native.Mathlib.Numerals.{add-one}
use lib.Dec.{eqb, ltb, leb}
use borrow.Author.Tests.{eqb-true, leb-true, eq-eqb, lt-ltb}
use lib.ListN.{length, length-append}
use Rattle.wire.specs.Words.{byte_at, word_at}
use Rattle.wire.specs.Lists.{any_of, same_bytes}
use Rattle.wire.specs.Classes.{Class, due, left_out, foreign, field_class}
use Rattle.wire.specs.declared.codes.FieldType.{FieldType}
use Rattle.dictionary.specs.declared.check.Met.{Met}
use Rattle.dictionary.specs.Dictionary.{kind_at, Field, Relation, name_at, good_name, whole_entry, relation_fits, relation_entry, field_fits, field_at, with_field, field_entry, entry, Checked, proper, at_fault, next_entry, entries, dictionary}
use Rattle.dictionary.specs.Internal.Walk.{between, same_relation, same_field, relation_good, field_good, relation_met, field_met, meet, on_met, fault_from, fault}
use Rattle.dictionary.proofs.Places.{Walk, here, step, walk-on, last_one, none_between}
use Rattle.dictionary.proofs.Tests.{or-false, or_swap, not-either, and-shift, both_left, both_right, any_last, any-either}

abbrev pub fault_of : Checked → Option ℕ
fault_of (proper rs) = none
fault_of (at_fault p) = some p

abbrev pub last_fields : List Relation → List Field
last_fields [] = []
last_fields (r ∷ rs) = r.fields

-- a test of relation entries, and of field entries, by what stands in them
abbrev pub relation_test : List ℕ → (ℕ → List ℕ → Bool) → ℕ → Bool
relation_test d t q = eqb (kind_at d q) 1 && t (word_at d (q + 4)) (name_at d (q + 6))

abbrev pub field_test : List ℕ → (List ℕ → Bool) → ℕ → Bool
field_test d t q = eqb (kind_at d q) 2 && t (name_at d (q + 10))

-- the relations of the definition and what the check has met, when both have come to p
pub record Same (d : List ℕ) (p : ℕ) (rs : List Relation) (m : Met) : Type 0 where
  pub walked : Walk d 0 p
  pub counted : m.relations ≡ length rs
  pub fielded : m.fields ≡ length (last_fields rs)
  pub relation-scan : (t : ℕ → List ℕ → Bool) → any_of (relation_test d t) (between d 0 p) ≡ any_of (λ r. t r.id r.name) rs
  pub last-walked : Walk d m.last p
  pub field-scan : (t : List ℕ → Bool) → any_of (field_test d t) (between d m.last p) ≡ any_of (λ f. t f.name) (last_fields rs)

-- a whole entry has bytes
pub whole_long : (d : List ℕ) (p k : ℕ) → whole_entry d p k ≡ true → 0 < word_at d p
whole_long d p k e =
    let h : word_at d p ≡ k + 1 + byte_at d (p + k) = eqb-true _ _ (both_left _ _ e) in omega arith

pub whole-inside : (d : List ℕ) (p k : ℕ) → whole_entry d p k ≡ true → p + word_at d p ≤ length d
whole-inside d p k e = leb-true (p + word_at d p) (length d) (both_right (eqb (word_at d p) (k + 1 + byte_at d (p + k))) (leb (p + word_at d p) (length d)) e)

-- ---- one entry

-- the tests of both agree
relation-agrees : (d : List ℕ) (p : ℕ) (rs : List Relation) (m : Met) → Same d p rs m → relation_good d p m ≡ relation_fits d p rs
unfolding relation_good same_relation
relation-agrees d p rs m k =
    rw (
      k.counted,
      k.relation-scan (λ i n. eqb i (word_at d (p + 4)) || same_bytes n (name_at d (p + 6))),
      any-either (λ (r : Relation). eqb r.id (word_at d (p + 4))) (λ (r : Relation). same_bytes r.name (name_at d (p + 6))) rs,
      not-either (any_of (λ (r : Relation). eqb r.id (word_at d (p + 4))) rs) (any_of (λ (r : Relation). same_bytes r.name (name_at d (p + 6))) rs),
    )
    (and-shift (whole_entry d p 6 && good_name (name_at d (p + 6)) && ltb (length rs) 32)
    (not (any_of (λ (r : Relation). eqb r.id (word_at d (p + 4))) rs)) (not (any_of (λ (r : Relation). same_bytes r.name (name_at d (p + 6))) rs)))

field-agrees : (d : List ℕ) (p : ℕ) (t : FieldType) (r : Relation) (rs : List Relation) (m : Met) → Same d p (r ∷ rs) m → field_good d p t m ≡ field_fits d p t r
unfolding field_good same_field
field-agrees d p t r rs m k = rw (k.fielded, k.field-scan (λ n. same_bytes n (name_at d (p + 10))))

at_once : (d : List ℕ) (p : ℕ) → Walk d p p
at_once d p = here

-- a relation's entry
relation-next : (d : List ℕ) (p : ℕ) (rs : List Relation) (m : Met) → Same d p rs m → kind_at d p ≡ 1 → 0 < word_at d p →
    Same d (p + word_at d p) (record { place = p; id = word_at d (p + 4); name = name_at d (p + 6); fields = [] } ∷ rs) (record { relations = m.relations + 1; fields = 0; last = p })
unfolding any_of
relation-next d p rs m k one w =
    record {
      walked = walk-on k.walked w;
      counted = ap (λ n. n + 1) k.counted ∙ add-one (length rs);
      fielded = refl;
      relation-scan = λ t. rw (last_one d k.walked w, any_last (relation_test d t) (between d 0 p) p, k.relation-scan t, eq-eqb (kind_at d p) 1 one) (or_swap (any_of (λ (r : Relation). t r.id r.name) rs) (t (word_at d (p + 4)) (name_at d (p + 6))));
      last-walked = step w here;
      field-scan = λ t. rw (last_one d (at_once d p) w, none_between d p p (omega arith), one);
    }

-- a field's entry
field_next : (d : List ℕ) (p : ℕ) (t : FieldType) (r : Relation) (rs : List Relation) (m : Met) → Same d p (r ∷ rs) m → kind_at d p ≡ 2 → 0 < word_at d p →
    Same d (p + word_at d p) (with_field r (field_at d p t) ∷ rs) (record { relations = m.relations; fields = m.fields + 1; last = m.last })
unfolding any_of
field_next d p t r rs m k two w =
    record {
      walked = walk-on k.walked w;
      counted = k.counted;
      fielded = ap (λ n. n + 1) k.fielded ∙ sym (length-append r.fields (field_at d p t ∷ []));
      relation-scan = λ s. rw (last_one d k.walked w, any_last (relation_test d s) (between d 0 p) p, k.relation-scan s, two) (or-false _);
      last-walked = walk-on k.last-walked w;
      field-scan = λ s. rw (last_one d k.last-walked w, any_last (field_test d s) (between d m.last p) p, k.field-scan s, two) (sym (any_last (λ (f : Field). s f.name) r.fields (field_at d p t)));
    }

-- what the entry at p gives both
abbrev pub Next : List ℕ → ℕ → Option (List Relation) → Option Met → Type 0
Next d p none none = Unit {0}
Next d p none (some m) = ⊥
Next d p (some rs) none = ⊥
Next d p (some rs) (some m) = Same d (p + word_at d p) rs m

relation-by : (d : List ℕ) (p : ℕ) (rs : List Relation) (m : Met) → Same d p rs m → kind_at d p ≡ 1 → (b : Bool) → relation_fits d p rs ≡ b →
    Next d p (cond b (some (record { place = p; id = word_at d (p + 4); name = name_at d (p + 6); fields = [] } ∷ rs)) none) (cond b (some (record { relations = m.relations + 1; fields = 0; last = p })) none)
relation-by d p rs m k one true e =
    relation-next d p rs m k one (whole_long d p 6 (both_left _ _ (both_left _ _ (both_left _ _ (both_left _ _ e)))))
relation-by d p rs m k one false e = tt

field-by : (d : List ℕ) (p : ℕ) (t : FieldType) (r : Relation) (rs : List Relation) (m : Met) → Same d p (r ∷ rs) m → kind_at d p ≡ 2 → (b : Bool) → field_fits d p t r ≡ b →
    Next d p (cond b (some (with_field r (field_at d p t) ∷ rs)) none) (cond b (some (record { relations = m.relations; fields = m.fields + 1; last = m.last })) none)
field-by d p t r rs m k two true e =
    field_next d p t r rs m k two (whole_long d p 10 (both_left _ _ (both_left _ _ (both_left _ _ (both_left _ _ (both_left _ _ e))))))
field-by d p t r rs m k two false e = tt

-- a field comes after a relation
field-after : (d : List ℕ) (p : ℕ) (t : FieldType) (r : Relation) (rs : List Relation) (m : Met) → Same d p (r ∷ rs) m → ltb 0 m.relations && field_good d p t m ≡ field_fits d p t r
field-after d p t r rs m k =
    let some-relation : 0 < m.relations = omega (arith, k.counted) in
    ap (λ b. b && field_good d p t m) (lt-ltb 0 m.relations some-relation) ∙ field-agrees d p t r rs m k

field-class : (d : List ℕ) (p : ℕ) (c : Class FieldType) (rs : List Relation) (m : Met) → Same d p rs m → kind_at d p ≡ 2 → Next d p (field_entry d p c rs) (field_met d p c m)
unfolding field_entry field_met
field-class d p foreign [] m k two = tt
field-class d p foreign (r ∷ rs) m k two = tt
field-class d p left_out [] m k two = tt
field-class d p left_out (r ∷ rs) m k two = tt
field-class d p (due t) [] m k two = rw k.counted tt
field-class d p (due t) (r ∷ rs) m k two =
    rw (field-after d p t r rs m k) (field-by d p t r rs m k two (field_fits d p t r) refl)

-- by the kind of the entry
kind-by : (d : List ℕ) (p : ℕ) (rs : List Relation) (m : Met) → Same d p rs m → (a b : Bool) → eqb (kind_at d p) 1 ≡ a → eqb (kind_at d p) 2 ≡ b →
    Next d p (cond a (relation_entry d p rs) (cond b (field_entry d p (field_class (byte_at d (p + 6))) rs) none))
    (cond a (relation_met d p m) (cond b (field_met d p (field_class (byte_at d (p + 6))) m) none))
unfolding relation_entry relation_met
kind-by d p rs m k true b e f =
    rw (relation-agrees d p rs m k) (relation-by d p rs m k (eqb-true (kind_at d p) 1 e) (relation_fits d p rs) refl)
kind-by d p rs m k false true e f = field-class d p (field_class (byte_at d (p + 6))) rs m k (eqb-true (kind_at d p) 2 f)
kind-by d p rs m k false false e f = tt

next-agrees : (d : List ℕ) (p : ℕ) (rs : List Relation) (m : Met) → Same d p rs m → Next d p (entry d p rs) (meet d p m)
unfolding entry meet
next-agrees d p rs m k = kind-by d p rs m k (eqb (kind_at d p) 1) (eqb (kind_at d p) 2) refl refl

-- ---- all entries

agrees-by : (d : List ℕ) (p : ℕ) (rs : List Relation) (b : Bool) (x : Option (List Relation)) (y : Option Met) (f : List Relation → Checked) (g : Met → Option ℕ) →
    Next d p x y → ((rs' : List Relation) (m' : Met) → Same d (p + word_at d p) rs' m' → g m' ≡ fault_of (f rs')) → on_met b y p g ≡ fault_of (next_entry b x p rs f)
agrees-by d p rs false x y f g n h = refl
agrees-by d p rs true none none f g n h = refl
agrees-by d p rs true none (some m) f g n h = absurd n
agrees-by d p rs true (some r) none f g n h = absurd n
agrees-by d p rs true (some r) (some m) f g n h = h r m n

from-agrees : (n : ℕ) (d : List ℕ) (p : ℕ) (rs : List Relation) (m : Met) → Same d p rs m → fault_from n d p m ≡ fault_of (entries n d p rs)
unfolding fault_from entries
from-agrees zero d p rs m k = refl
from-agrees (suc n) d p rs m k =
    agrees-by d p rs (ltb p (length d)) (entry d p rs) (meet d p m) (λ r. entries n d (p + word_at d p) r) (λ x. fault_from n d (p + word_at d p) x) (next-agrees d p rs m k) (λ r x. from-agrees n d (p + word_at d p) r x)

at-start : (d : List ℕ) → Same d 0 [] (record { relations = 0; fields = 0; last = 0 })
unfolding any_of
at-start d =
    record {
      walked = here;
      counted = refl;
      fielded = refl;
      relation-scan = λ t. rw (none_between d 0 0 (omega arith));
      last-walked = here;
      field-scan = λ t. rw (none_between d 0 0 (omega arith));
    }

-- the check by places gives the definition's answer
pub fault-is : (d : List ℕ) → fault d ≡ fault_of (dictionary d)
unfolding fault dictionary
fault-is d = by (leb (length d) 65535)
  where
    by : (b : Bool) → cond b (fault_from (length d) d 0 (record { relations = 0; fields = 0; last = 0 })) (some 0) ≡ fault_of (cond b (entries (length d) d 0 []) (at_fault 0))
    by true = from-agrees (length d) d 0 [] (record { relations = 0; fields = 0; last = 0 }) (at-start d)
    by false = refl
