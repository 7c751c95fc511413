-- Fields of a record by their entries, of a relation by name and by id, and of a context by the row that binds it. Assumes nothing.
use Prim.Native.Nat.{ℕ, zero, suc, ◌≤◌, ◌<◌}
use mathlib.Core.Path.{◌≡◌, refl, ap, ap₂, ◌∙◌}
use mathlib.Core.Bool.{Bool, true, false, cond, ◌||◌}
use mathlib.Core.List.{List, [], ◌∷◌, map}
use mathlib.Core.Option
use mathlib.Core.Option.{Option, none, some}
use native.Mathlib.Omega.{arith}
use native.Mathlib.Nat.{le_of_suc-le-suc, not-suc-le-zero}
use lib.Dec.{ltb}
use lib.ListN.{length, get_elem?}
use borrow.Author.Tests.{eq-eqb, ne_eqb, ltb-false}
use Rattle.std.specs.Prelude.{Some, None}
use Rattle.wire.specs.Options.{option_of}
use Rattle.wire.specs.Words.{word_at}
use Rattle.dictionary.specs.Format.{Format}
use Rattle.dictionary.specs.Dictionary.{Relation}
use Rattle.dictionary.specs.Naming.{Name, numbered, format_of, field_of, field_format}
use Rattle.dictionary.specs.Internal.Walk.{fields_of, entry_field, relation_at}
use Rattle.records.specs.declared.missing.Cause.{Cause}
use Rattle.records.specs.Record.{bit_at, reading_missing, field_place, presence_of, field_presence}
use Rattle.meaning.specs.Data.{absent}
use Rattle.meaning.specs.Inputs.{Fetched, value, nothing, on_found, kind_held, value_at, field_in}
use Rattle.surroundings.specs.Around.{slot_field}
use Rattle.surroundings.specs.Bindings.{cell, rows_in, row_binding, bound_value}
use Rattle.surroundings.proofs.BindingLoops.{bound_some, bound-none, binding-inside}
use Rattle.inputs.specs.Answers.{clamped, row_field, row_named}
use Rattle.inputs.proofs.PastEnd.{word-clamped, value-clamped}

-- ---- a field by its entry

element : {A B : Type 0} (f : A → B) (l : List A) (i : ℕ) → get_elem? (map f l) i ≡ Option.map f (get_elem? l i)
element f [] i = refl
element f (x ∷ l) zero = refl
element f (x ∷ l) (suc i) = element f l i

format-at : (d : List ℕ) (r i : ℕ) (o : Option ℕ) → get_elem? (fields_of d r) i ≡ o →
    format_of (relation_at d r) i ≡ Option.map (λ q. (entry_field d q).format) o
unfolding format_of relation_at
format-at d r i o e = ap (Option.map field_format) (element (entry_field d) (fields_of d r) i ∙ ap (Option.map (entry_field d)) e) ∙ by o
  where
    by : (o : Option ℕ) → Option.map field_format (Option.map (entry_field d) o) ≡ Option.map (λ q. (entry_field d q).format) o
    by none = refl
    by (some q) = refl

module _ (d : List ℕ) (r : ℕ) (s : List ℕ) (p i : ℕ) where
  pub no_field : get_elem? (fields_of d r) i ≡ none → nothing ≡ field_in (relation_at d r) s p i
  unfolding field_in
  no_field e = rw (format-at d r i none e)

  -- its entry stands at q, its format is f, and its bytes stand at z
  module _ (q : ℕ) (e : get_elem? (fields_of d r) i ≡ some q) (f : Format) (g : f ≡ (entry_field d q).format)
      (z : ℕ) (c : z ≡ clamped s (field_place (relation_at d r) p i)) where
    presence-is : presence_of (bit_at s p i) (reading_missing f.type (word_at s z)) ≡ field_presence (relation_at d r) (entry_field d q).format s p i
    unfolding field_presence
    presence-is =
        ap₂ (λ (x : Format) (w : ℕ). presence_of (bit_at s p i) (reading_missing x.type w)) g
        (ap (word_at s) c ∙ word-clamped s (field_place (relation_at d r) p i))

    pub field-missing : (w : Cause) → Some w ≡ presence_of (bit_at s p i) (reading_missing f.type (word_at s z)) →
        value (absent (kind_held f) w) ≡ field_in (relation_at d r) s p i
    unfolding field_in
    field-missing w m = let b = m ∙ presence-is in rw (format-at d r i (some q) e, ← b, g)

    pub field-there : None ≡ presence_of (bit_at s p i) (reading_missing f.type (word_at s z)) → value_at f s z ≡ field_in (relation_at d r) s p i
    unfolding field_in
    field-there m =
        let b = m ∙ presence-is in
        rw (format-at d r i (some q) e, ← b, g, c) (value-clamped (entry_field d q).format s (field_place (relation_at d r) p i))

-- ---- a field by its name, and by its id

module _ (o : Option ℕ) (f : ℕ → Fetched) where
  pub field_found : (i : ℕ) → Some i ≡ option_of o → f i ≡ on_found o f
  field_found i e = rw (bound_some o i e)

  pub field-unknown : None ≡ option_of o → nothing ≡ on_found o f
  field-unknown e = rw (bound-none o e)

no-element : {A : Type 0} (l : List A) (i : ℕ) → length l ≤ i → get_elem? l i ≡ none
no-element [] i h = refl
no-element (x ∷ l) zero h = absurd (not-suc-le-zero h)
no-element (x ∷ l) (suc i) h = no-element l i (le_of_suc-le-suc h)

by_number_lem : (r : Relation) (s : List ℕ) (p i : ℕ) (b : Bool) → ltb i (length r.fields) ≡ b →
    field_in r s p i ≡ on_found (cond b (some i) none) (field_in r s p)
unfolding field_in format_of
by_number_lem r s p i true e = refl
by_number_lem r s p i false e = rw (no-element r.fields i (ltb-false i (length r.fields) e))

pub field-numbered : (d : List ℕ) (r : ℕ) (s : List ℕ) (p i : ℕ) → field_in (relation_at d r) s p i ≡ slot_field d s (numbered i) r p
unfolding field_of
field-numbered d r s p i = by_number_lem (relation_at d r) s p i (ltb i (length (relation_at d r).fields)) refl

-- ---- the record that a row binds

module _ (d t records runs : List ℕ) (row i relation p code : ℕ) (r : relation ≡ cell t row 2) (q : p ≡ cell t row 3)
    (k : code ≡ cell t row 0) where
  pub in-records : code ≡ 0 → field_in (relation_at d relation) records p i ≡ row_field d t records runs row i
  in-records z = rw (r, q, ← k, eq-eqb code 0 z)

  pub in-runs : (code ≡ 0 → ⊥) → field_in (relation_at d relation) runs p i ≡ row_field d t records runs row i
  in-runs z = rw (r, q, ← k, ne_eqb code 0 z)

-- ---- a field of a context

pub row-bound : (t : List ℕ) (c row : ℕ) → Some row ≡ option_of (row_binding t c (rows_in t) 0) → row < rows_in t
row-bound t c row e =
    let z = binding-inside t c (rows_in t) 0 row (bound_some (row_binding t c (rows_in t) 0) row e) in
    omega (arith, z)

module _ (d t records runs : List ℕ) (c : ℕ) (n : Name) where
  pub by_row : (row : ℕ) → Some row ≡ option_of (row_binding t c (rows_in t) 0) →
      row_named d t records runs n row ≡ bound_value d t records runs c n
  unfolding bound_value
  by_row row e = rw (bound_some (row_binding t c (rows_in t) 0) row e)

  pub no_row : None ≡ option_of (row_binding t c (rows_in t) 0) → nothing ≡ bound_value d t records runs c n
  unfolding bound_value
  no_row e = rw (bound-none (row_binding t c (rows_in t) 0) e)
