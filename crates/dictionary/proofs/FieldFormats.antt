-- The format of a field by its id or its name: what its entry says, or none.
use Prim.Native.Nat.{ℕ, zero, suc, ◌≤◌}
use mathlib.Core.Path.{◌≡◌, refl, ap, ◌∙◌}
use mathlib.Core.Bool.{Bool, true, false, cond}
use mathlib.Core.List.{List, [], ◌∷◌, map}
use mathlib.Core.Option
use mathlib.Core.Option.{Option, none, some}
use native.Mathlib.Omega.{arith}
use borrow.Author.Tests.{ltb-false}
use lib.Dec.{ltb}
use lib.ListN.{length, get_elem?}
use Rattle.std.specs.Prelude.{Some, None}
use Rattle.wire.specs.Options.{option_of}
use Rattle.wire.specs.Lists.{find, index_of, ◌and_then◌}
use Rattle.dictionary.specs.Format.{Format}
use Rattle.dictionary.specs.Dictionary.{Relation}
use Rattle.dictionary.specs.Naming.{named, numbered, field_of, format_of}
use Rattle.dictionary.specs.Internal.Walk.{fields_of, has_name, entry_field, relation_at}
use Rattle.dictionary.proofs.FieldSearches.{map-index}

pub get-map : {A B : Type 0} (f : A → B) (l : List A) (i : ℕ) → get_elem? (map f l) i ≡ Option.map f (get_elem? l i)
get-map f [] i = refl
get-map f (x ∷ l) zero = refl
get-map f (x ∷ l) (suc i) = get-map f l i

pub place-some : (o : Option ℕ) {q : ℕ} → Some q ≡ option_of o → o ≡ some q
place-some none e = absurd (let z : ◌≡◌ {A = ℕ} 0 1 = cc in omega arith)
place-some (some p) e = cc

pub place_none : (o : Option ℕ) → None ≡ option_of o → o ≡ none
place_none none e = refl
place_none (some p) e = absurd (let z : ◌≡◌ {A = ℕ} 0 1 = cc in omega arith)

-- what the entry says that was looked up
abbrev pub entry_format : List ℕ → Option ℕ → Option Format
entry_format d o = Option.map (λ q. (entry_field d q).format) o

-- the format of an element's field is that of its entry
module _ (d : List ℕ) (r i : ℕ) where
  pub format_is : format_of (relation_at d r) i ≡ entry_format d (get_elem? (fields_of d r) i)
  unfolding format_of relation_at
  format_is = rw (format_of, relation_at, get-map (entry_field d) (fields_of d r) i) (by (get_elem? (fields_of d r) i))
    where
      by : (o : Option ℕ) → Option.map (λ f. f.format) (Option.map (entry_field d) o) ≡ entry_format d o
      by none = refl
      by (some q) = refl

  pub format-found : {q : ℕ} → Some q ≡ option_of (get_elem? (fields_of d r) i) → format_of (relation_at d r) i ≡ some (entry_field d q).format
  format-found e = format_is ∙ ap (entry_format d) (place-some (get_elem? (fields_of d r) i) e)

  pub format-none : None ≡ option_of (get_elem? (fields_of d r) i) → format_of (relation_at d r) i ≡ none
  format-none e = format_is ∙ ap (entry_format d) (place_none (get_elem? (fields_of d r) i) e)

-- ---- of an id that a request names

get-past : {A : Type 0} (l : List A) (i : ℕ) → length l ≤ i → get_elem? l i ≡ none
get-past [] i h = refl
get-past (x ∷ l) zero h = absurd (omega arith)
get-past (x ∷ l) (suc i) h = get-past l i (omega arith)

module _ (r : Relation) (i : ℕ) where
  number_by : (b : Bool) → ltb i (length r.fields) ≡ b → field_of r (numbered i) and_then format_of r ≡ format_of r i
  unfolding field_of format_of
  number_by true h = rw (field_of, h)
  number_by false h = rw (field_of, format_of, h, get-past r.fields i (ltb-false i (length r.fields) h))

pub numbered-format : (d : List ℕ) (r i : ℕ) →
    field_of (relation_at d r) (numbered i) and_then format_of (relation_at d r) ≡ entry_format d (get_elem? (fields_of d r) i)
numbered-format d r i = number_by (relation_at d r) i (ltb i (length (relation_at d r).fields)) refl ∙ format_is d r i

-- ---- of a name

-- the first element that passes is the one of its index
module _ {A : Type 0} (test : A → Bool) where
  find-index : (l : List A) → index_of test l and_then get_elem? l ≡ find test l
  unfolding index_of find
  find-index [] = refl
  find-index (x ∷ l) = by (test x) (index_of test l) (find-index l)
    where
      by : (b : Bool) (o : Option ℕ) → o and_then get_elem? l ≡ find test l →
          cond b (some 0) (Option.map suc o) and_then get_elem? (x ∷ l) ≡ cond b (some x) (find test l)
      by true o e = refl
      by false none e = e
      by false (some i) e = e

module _ (d n : List ℕ) (r : ℕ) where
  format-after : (o : Option ℕ) → o and_then format_of (relation_at d r) ≡ entry_format d (o and_then get_elem? (fields_of d r))
  format-after none = refl
  format-after (some i) = format_is d r i

  pub named-format :
      field_of (relation_at d r) (named n) and_then format_of (relation_at d r) ≡ entry_format d (find (has_name d n) (fields_of d r))
  unfolding field_of relation_at
  named-format =
      ap (λ o. o and_then format_of (relation_at d r)) (map-index d n (fields_of d r)) ∙
      format-after (index_of (has_name d n) (fields_of d r)) ∙
      ap (entry_format d) (find-index (has_name d n) (fields_of d r))
