-- No field of a proper dictionary has an empty name, so that no context of an accepted request has one.
use Prim.Native.Nat.{ℕ, zero, suc, ◌+◌, ◌≤◌}
use mathlib.Core.Path.{◌≡◌, refl, sym, subst}
use mathlib.Core.Bool.{Bool, true, false, cond, ◌&&◌}
use mathlib.Core.List.{List, [], ◌∷◌}
use mathlib.Core.Option.{Option, none, some}
use native.Mathlib.Omega.{arith}
use lib.Dec.{eqb, leb, ltb}
use lib.ListN.{length}
use borrow.Author.Tests.{leb-true}
use Rattle.wire.specs.Words.{byte_at, word_at}
use Rattle.wire.specs.Limits.{max_fields}
use Rattle.wire.specs.Entries.{entry_id, field_scale, field_size, field_name}
use Rattle.wire.specs.Lists.{find, index_of, same_bytes, is_some, ◌and_then◌}
use Rattle.wire.specs.Classes.{Class, due, left_out, foreign, field_class}
use Rattle.wire.specs.declared.codes.FieldType.{FieldType}
use Rattle.dictionary.specs.Format.{fitting}
use Rattle.dictionary.specs.Dictionary.{Field, Relation, proper, at_fault, name_at, good_name, whole_entry, field_at, with_field, relation_fits, relation_entry, field_fits, field_entry, entry, next_entry, entries, dictionary}
use Rattle.dictionary.specs.Naming.{Name, named, numbered, relation_of, field_of, format_of}
use Rattle.dictionary.proofs.Bytes.{other_length}
use Rattle.dictionary.proofs.Tests.{both_left, both_right}
use Rattle.grammar.specs.Tree.{Request}
use Rattle.grammar.specs.Environment.{Context, Scope, outermost, context_of, relation_of_context, field_format}
use Rattle.grammar.specs.Rules.{environment}
use Rattle.grammar.specs.Rows.{statements_start}
use Rattle.grammar.specs.Conditions.{Condition}
use Rattle.grammar.proofs.StepLaws.{absurd-eq}
use Rattle.meaning.specs.Demand.{Accepted, Asked}
use Rattle.walking.proofs.Sites.{All, all_append}
use Rattle.walking.proofs.Asked.{declarations, scope-by-rows}
use Rattle.surroundings.proofs.Related.{Named, find-all, all_named, at_named}
use Rattle.explanation.proofs.Sizes.{NoEmpty}

abbrev HasName : Field → Type 0
HasName f = 1 ≤ length f.name

abbrev FieldsNamed : Relation → Type 0
FieldsNamed r = All HasName r.fields

-- ---- the entries of a dictionary

good-long : (n : List ℕ) → good_name n ≡ true → 1 ≤ length n
unfolding good_name
good-long n h = leb-true 1 (length n) (both_left (leb 1 (length n)) _ (both_left (leb 1 (length n) && leb (length n) 31) _ h))

-- what a test lets through, and that it passed
passed : {A : Type 0} (b : Bool) (x y : A) → cond b (some x) none ≡ some y → (b ≡ true) × (x ≡ y)
passed true x y h = let z : x ≡ y = cc in (refl, z)
passed false x y h = absurd-eq (cc)

name-fits : (d : List ℕ) (p : ℕ) (t : FieldType) (r : Relation) → field_fits d p t r ≡ true → good_name (name_at d (p + field_name)) ≡ true
name-fits d p t r h =
    let entry-fits =
    whole_entry d p field_name && eqb (word_at d (p + entry_id)) (length r.fields) && fitting t (byte_at d (p + field_scale)) (word_at d (p + field_size)) in
    let good = good_name (name_at d (p + field_name)) in
    let free = ltb (length r.fields) max_fields in
    both_right entry-fits good (both_left (entry-fits && good) free (both_left (entry-fits && good && free) _ h))

field-named : (d : List ℕ) (p : ℕ) (c : Class FieldType) (rs rs' : List Relation) → All FieldsNamed rs → field_entry d p c rs ≡ some rs' →
    All FieldsNamed rs'
unfolding field_entry
field-named d p c [] rs' a h = absurd-eq (cc)
field-named d p foreign (r ∷ rs) rs' a h = absurd-eq (cc)
field-named d p left_out (r ∷ rs) rs' a h = absurd-eq (cc)
field-named d p (due t) (r ∷ rs) rs' a h =
    let g = passed (field_fits d p t r) (with_field r (field_at d p t) ∷ rs) rs' h in
    let n : HasName (field_at d p t) = good-long _ (name-fits d p t r g.0) in
    subst (All FieldsNamed) g.1 (all_append HasName r.fields (field_at d p t ∷ []) a.0 (n, tt), a.1)

entry_named : (d : List ℕ) (p : ℕ) (rs rs' : List Relation) → All FieldsNamed rs → entry d p rs ≡ some rs' → All FieldsNamed rs'
unfolding entry relation_entry
entry_named d p rs rs' a h = by (eqb (word_at d (p + 2)) 1) (eqb (word_at d (p + 2)) 2) h
  where
    by : (b c : Bool) → cond b (relation_entry d p rs) (cond c (field_entry d p (field_class (byte_at d (p + 6))) rs) none) ≡ some rs' →
        All FieldsNamed rs'
    by true c h = subst (All FieldsNamed) (passed (relation_fits d p rs) _ rs' h).1 (tt, a)
    by false true h = field-named d p (field_class (byte_at d (p + 6))) rs rs' a h
    by false false h = absurd-eq (cc)

entries-named : (n : ℕ) (d : List ℕ) (p : ℕ) (rs rs' : List Relation) → All FieldsNamed rs → entries n d p rs ≡ proper rs' → All FieldsNamed rs'
unfolding entries
entries-named zero d p rs rs' a h = let z : rs ≡ rs' = cc in subst (All FieldsNamed) z a
entries-named (suc n) d p rs rs' a h =
    by (λ x g. entries-named n d (p + word_at d p) x rs' g) (ltb p (length d)) (entry d p rs) refl h
  where
    by : ((x : List Relation) → All FieldsNamed x → entries n d (p + word_at d p) x ≡ proper rs' → All FieldsNamed rs') →
        (b : Bool) (e : Option (List Relation)) → entry d p rs ≡ e →
        next_entry b e p rs (λ x. entries n d (p + word_at d p) x) ≡ proper rs' → All FieldsNamed rs'
    by rest false e g h = let z : rs ≡ rs' = cc in subst (All FieldsNamed) z a
    by rest true none g h = absurd-eq (cc)
    by rest true (some x) g h = rest x (entry_named d p rs x a g) h

dictionary-named : (d : List ℕ) (rs : List Relation) → dictionary d ≡ proper rs → All FieldsNamed rs
unfolding dictionary
dictionary-named d rs h = by (leb (length d) 65535) h
  where
    by : (b : Bool) → cond b (entries (length d) d 0 []) (at_fault 0) ≡ proper rs → All FieldsNamed rs
    by true h = entries-named (length d) d 0 [] rs tt h
    by false h = absurd-eq (cc)

-- ---- the contexts in scope

no_field : (l : List Field) → All HasName l → index_of (λ f. same_bytes f.name []) l ≡ none
unfolding index_of
no_field [] a = refl
no_field (f ∷ l) a =
    let k = a.0 in
    let e : same_bytes f.name [] ≡ false = sym (other_length f.name [] (λ z. omega (arith, k, z))) in
    rw (e, no_field l a.1)

found-named : (rs : List Relation) (n : Name) (r : Relation) → All FieldsNamed rs → relation_of rs n ≡ some r → FieldsNamed r
unfolding relation_of
found-named rs (named n) r a e = find-all FieldsNamed (λ x. same_bytes x.name n) rs r a e
found-named rs (numbered i) r a e = find-all FieldsNamed (λ x. eqb x.id i) rs r a e

scope-named : (rs : List Relation) (sc : Scope) → All FieldsNamed rs → All (Named rs) sc.contexts → NoEmpty sc
unfolding field_format relation_of_context context_of field_of
scope-named rs sc a h c = by (find (λ x. eqb x.number c) sc.contexts) refl
  where
    in-relation : (r : Relation) → FieldsNamed r → is_some (field_of r (named []) and_then format_of r) ≡ true → ⊥
    in-relation r k g = let z = no_field r.fields k in absurd-eq (cc)

    of-context : (y : Context) → Named rs y → is_some (y.relation and_then (λ r. field_of r (named []) and_then format_of r)) ≡ true → ⊥
    of-context y m g =
        in-relation m.1 (found-named rs m.0 m.1 a m.3) (subst (λ o. is_some (o and_then (λ r. field_of r (named []) and_then format_of r)) ≡ true) m.2 g)

    by : (o : Option Context) → find (λ x. eqb x.number c) sc.contexts ≡ o →
        is_some ((o and_then (λ x. x.relation)) and_then (λ r. field_of r (named []) and_then format_of r)) ≡ true → ⊥
    by none e g = absurd-eq (cc)
    by (some y) e g = of-context y (find-all (Named rs) (λ x. eqb x.number c) sc.contexts y h e) g

-- a condition of an accepted request
module _ (s d : List ℕ) (rs : List Relation) (t : Request) (a : Accepted s d rs t) (n : ℕ) (x : Condition) (c : Asked rs t n x) where
  pub no-empty : NoEmpty x.scope
  unfolding declarations
  no-empty =
      let all = all_named (environment rs t) t.statements outermost (statements_start t) tt a.allowed.statements in
      let there = at_named rs x.place (declarations rs t) all in
      scope-named rs x.scope (dictionary-named d rs a.house) (subst (All (Named rs)) (sym (scope-by-rows s d rs t a n x c)) there)
