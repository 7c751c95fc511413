-- What a proper dictionary says is its list of relations.
use Prim.Native.Nat.{ℕ, zero, suc, ◌+◌}
use mathlib.Core.Path.{◌≡◌, refl, sym, ap, ◌∙◌}
use mathlib.Core.Bool.{Bool, true, false, cond}
use mathlib.Core.List.{List, [], ◌∷◌}
use mathlib.Core.Option.{Option, none, some}
use lib.Dec.{eqb, leb, ltb}
use lib.ListN.{length}
use Rattle.wire.specs.Words.{byte_at, word_at}
use Rattle.wire.specs.Classes.{Class, due, left_out, foreign, field_class}
use Rattle.wire.specs.declared.codes.FieldType.{FieldType}
use Rattle.dictionary.specs.Dictionary.{Relation, Checked, proper, at_fault, field_at, with_field, relation_fits, relation_entry, field_fits, field_entry, entry, next_entry, entries, dictionary}
use Rattle.grammar.proofs.StepLaws.{absurd-eq}
use Rattle.meaning.specs.House.{relation_said, field_said, entry_said, on_entry, entries_said, house}

-- what a test lets through
let_through : {A : Type 0} (b : Bool) (x y : A) → cond b (some x) none ≡ some y → x ≡ y
let_through true x y h = cc
let_through false x y h = absurd-eq (cc)

field-said : (d : List ℕ) (p : ℕ) (c : Class FieldType) (rs rs' : List Relation) → field_entry d p c rs ≡ some rs' → field_said d p c rs ≡ rs'
unfolding field_entry
field-said d p c [] rs' h = absurd-eq (cc)
field-said d p foreign (r ∷ rs) rs' h = absurd-eq (cc)
field-said d p left_out (r ∷ rs) rs' h = absurd-eq (cc)
field-said d p (due t) (r ∷ rs) rs' h = let_through (field_fits d p t r) _ rs' h

-- an entry that is good says what it adds
entry-said : (d : List ℕ) (p : ℕ) (rs rs' : List Relation) → entry d p rs ≡ some rs' → entry_said d p rs ≡ rs'
unfolding entry entry_said relation_entry
entry-said d p rs rs' h = by (eqb (word_at d (p + 2)) 1) (eqb (word_at d (p + 2)) 2) h
  where
    by : (a b : Bool) → cond a (relation_entry d p rs) (cond b (field_entry d p (field_class (byte_at d (p + 6))) rs) none) ≡ some rs' →
        cond a (relation_said d p ∷ rs) (cond b (field_said d p (field_class (byte_at d (p + 6))) rs) rs) ≡ rs'
    by true b h = let_through (relation_fits d p rs) _ rs' h
    by false true h = field-said d p (field_class (byte_at d (p + 6))) rs rs' h
    by false false h = absurd-eq (cc)

entries-said : (n : ℕ) (d : List ℕ) (p : ℕ) (rs rs' : List Relation) → entries n d p rs ≡ proper rs' → entries_said n d p rs ≡ rs'
unfolding entries entries_said
entries-said zero d p rs rs' h = cc
entries-said (suc n) d p rs rs' h =
    by (λ x g. entries-said n d (p + word_at d p) x rs' g) (ltb p (length d)) (entry d p rs) refl h
  where
    by : ((x : List Relation) → entries n d (p + word_at d p) x ≡ proper rs' → entries_said n d (p + word_at d p) x ≡ rs') →
        (b : Bool) (e : Option (List Relation)) → entry d p rs ≡ e →
        next_entry b e p rs (λ x. entries n d (p + word_at d p) x) ≡ proper rs' →
        on_entry b rs (λ x. entries_said n d (p + word_at d p) (entry_said d p x)) ≡ rs'
    by rest false e g h = cc
    by rest true none g h = absurd-eq (cc)
    by rest true (some x) g h = ap (entries_said n d (p + word_at d p)) (entry-said d p rs x g) ∙ rest x h

-- 01: "The dictionary is whole entries of kinds 1 and 2."; the meaning reads them without the reader's tests, and finds the same relations
pub house-is : (d : List ℕ) (rs : List Relation) → dictionary d ≡ proper rs → house d ≡ rs
unfolding dictionary house
house-is d rs h = by (leb (length d) 65535) h
  where
    by : (b : Bool) → cond b (entries (length d) d 0 []) (at_fault 0) ≡ proper rs → entries_said (length d) d 0 [] ≡ rs
    by true h = entries-said (length d) d 0 [] rs h
    by false h = absurd-eq (cc)
