-- The search for a field: what is passed, and what is left to search.
use mathlib.Core.Path.{◌≡◌, refl, sym, ap, ◌∙◌}
use mathlib.Core.Bool.{true, false, cond}
use mathlib.Core.List.{List, [], ◌∷◌, map}
use mathlib.Core.Option
use mathlib.Core.Option.{Option, none, some}
use Prim.Native.Nat.{ℕ, zero, suc, ◌+◌, ◌-◌, ◌<◌}
use native.Mathlib.Nat.{add-zero}
use native.Mathlib.Omega.{arith}
use lib.ListN.{length, get_elem?}
use Rattle.std.specs.Prelude.{Some, None}
use Rattle.wire.specs.Options.{option_of}
use Rattle.wire.specs.Lists.{find, index_of, same_bytes}
use Rattle.dictionary.specs.Naming.{named, field_of}
use Rattle.dictionary.specs.Internal.Walk.{fields_of, has_name, is_field, next_place, fields_from, entry_field, relation_at}
use Rattle.dictionary.proofs.Fields.{inside, further, no_more, one_field, of-relation}

-- ---- from an entry at q to the place p after it

module _ (d : List ℕ) (q : ℕ) {p : ℕ} (e : p ≡ next_place d q) where
  pub fields-after : fields_of d q ≡ fields_from d p
  fields-after = of-relation d q ∙ ap (fields_from d) (sym e)

  field-before : is_field d q ≡ true → fields_from d q ≡ q ∷ fields_from d p
  field-before h = one_field d q h ∙ ap (λ x. q ∷ fields_from d x) (sym e)

  pub less-left : is_field d q ≡ true → length d - p < length d - q
  less-left h = omega (arith, inside d q h, further d q h, e)

-- ---- the id of a name

pub map-index : (d n : List ℕ) (l : List ℕ) → index_of (λ f. same_bytes f.name n) (map (entry_field d) l) ≡ index_of (has_name d n) l
unfolding index_of entry_field
map-index d n [] = refl
map-index d n (q ∷ l) = ap (λ o. cond (has_name d n q) (some 0) (Option.map suc o)) (map-index d n l)

-- the index after i that are passed
abbrev pub passed : ℕ → Option ℕ → Option ℕ
passed i o = Option.map (λ k. i + k) o

pub none_passed : (o : Option ℕ) → o ≡ passed 0 o
none_passed none = refl
none_passed (some k) = ap some (sym (native.Mathlib.Nat.zero-add k))

pub one-passed : (i : ℕ) (o : Option ℕ) → passed i (Option.map suc o) ≡ passed (i + 1) o
one-passed i none = refl
one-passed i (some k) = let e : i + suc k ≡ i + 1 + k = omega arith in ap some e

module _ (d n : List ℕ) where
  pub named_start : (r : ℕ) {p : ℕ} → p ≡ next_place d r →
      field_of (relation_at d r) (named n) ≡ passed 0 (index_of (has_name d n) (fields_from d p))
  unfolding field_of relation_at
  named_start r {p} e =
      map-index d n (fields_of d r) ∙ ap (index_of (has_name d n)) (fields-after d r e) ∙ none_passed (index_of (has_name d n) (fields_from d p))

  module _ (q i : ℕ) where
    pub named_end : is_field d q ≡ false → None ≡ option_of (passed i (index_of (has_name d n) (fields_from d q)))
    unfolding index_of
    named_end h = rw (no_more d q h)

    pub named_here : is_field d q ≡ true → has_name d n q ≡ true → Some i ≡ option_of (passed i (index_of (has_name d n) (fields_from d q)))
    unfolding index_of
    named_here h t = rw (one_field d q h, t, add-zero i)

    pub named-next : {p : ℕ} → p ≡ next_place d q → is_field d q ≡ true → has_name d n q ≡ false →
        passed i (index_of (has_name d n) (fields_from d q)) ≡ passed (i + 1) (index_of (has_name d n) (fields_from d p))
    unfolding index_of
    named-next {p} e h t = rw (field-before d q e h, t) (one-passed i (index_of (has_name d n) (fields_from d p)))

-- ---- the entry of a name

module _ (d n : List ℕ) (q : ℕ) where
  pub found-end : is_field d q ≡ false → None ≡ option_of (find (has_name d n) (fields_from d q))
  unfolding find
  found-end h = rw (no_more d q h)

  pub found_here : is_field d q ≡ true → has_name d n q ≡ true → Some q ≡ option_of (find (has_name d n) (fields_from d q))
  unfolding find
  found_here h t = rw (one_field d q h, t)

  pub found-next : {p : ℕ} → p ≡ next_place d q → is_field d q ≡ true → has_name d n q ≡ false →
      find (has_name d n) (fields_from d q) ≡ find (has_name d n) (fields_from d p)
  unfolding find
  found-next e h t = rw (field-before d q e h, t)

-- ---- the entry of an id

module _ (d : List ℕ) (q i : ℕ) where
  pub entry-end : is_field d q ≡ false → None ≡ option_of (get_elem? (fields_from d q) i)
  entry-end h = rw (no_more d q h)

  pub entry_here : is_field d q ≡ true → i ≡ 0 → Some q ≡ option_of (get_elem? (fields_from d q) i)
  entry_here h z = rw (one_field d q h, z)

  pub entry_next : {p : ℕ} → p ≡ next_place d q → is_field d q ≡ true → (i ≡ 0 → ⊥) →
      get_elem? (fields_from d q) i ≡ get_elem? (fields_from d p) (i - 1)
  entry_next {p} e h z = rw (field-before d q e h) (by i z)
    where
      by : (k : ℕ) → (k ≡ 0 → ⊥) → get_elem? (q ∷ fields_from d p) k ≡ get_elem? (fields_from d p) (k - 1)
      by zero f = absurd (f refl)
      by (suc k) f = let e : suc k - 1 ≡ k = omega arith in rw e
