-- The slots that the rows of the context table give are the contexts in scope.
use Prim.Native.Nat.{ℕ, ◌+◌, ◌*◌}
use mathlib.Core.Path.{◌≡◌, refl, sym, ap, ap₂, ◌∙◌}
use mathlib.Core.Bool.{Bool, true, false}
use mathlib.Core.List.{List, [], ◌∷◌, ◌++◌, map}
use native.Mathlib.Omega.{arith}
use lib.ListN.{length, drop}
use Rattle.dictionary.specs.Dictionary.{Relation, proper, dictionary}
use Rattle.dictionary.specs.Naming.{numbered}
use Rattle.dictionary.specs.Internal.Walk.{relation_place, relation_at}
use Rattle.grammar.specs.Environment.{Context}
use Rattle.grammar.specs.Rows.{relation_id}
use Rattle.meaning.specs.Evaluation.{due_relations}
use Rattle.walking.specs.Declared.{Declared, rows_of, kept_if, holds_at, contexts_at}
use Rattle.surroundings.specs.Slots.{Slot, place_or, slot_of, slot_if, slots_from, relations_in}
use Rattle.surroundings.proofs.Cells.{cell-is, next-is}
use Rattle.walking.proofs.Sites.{All}
use Rattle.surroundings.proofs.Ids.{entry-by-id}
use Rattle.surroundings.proofs.Related.{Named}
use Rattle.walking.proofs.Proper.{due-first}

-- a context, as its row has it
abbrev pub slot_for : List ℕ → Context → Slot
slot_for d x = slot_of d x.number (relation_id x.relation)

-- ---- the rows

module _ (d t : List ℕ) (q : ℕ) where
  pub slots-are : (ds : List Declared) (row : ℕ) (rest : List ℕ) → drop (row * 6) t ≡ rows_of ds ++ rest →
      slots_from d t q (length ds) row ≡ map (slot_for d) (contexts_at q ds)
  unfolding slots_from contexts_at rows_of
  slots-are [] row rest f = refl
  slots-are (x ∷ ds) row rest f =
      let l = rows_of (x ∷ ds) ++ rest in
      rw (
        cell-is t l (row * 6) 0 f,
        cell-is t l (row * 6) 2 f,
        cell-is t l (row * 6) 3 f,
        cell-is t l (row * 6) 4 f,
        slots-are ds (row + 1) rest (next-is t l (row * 6) 6 ((row + 1) * 6) f (omega arith)),
      )
      (by (holds_at q x))
    where
      by : (b : Bool) →
          slot_if b (slot_for d x.context) (map (slot_for d) (contexts_at q ds)) ≡ map (slot_for d) (kept_if b x.context (contexts_at q ds))
      by true = refl
      by false = refl

-- ---- the relations

module _ (d : List ℕ) (rs : List Relation) (h : dictionary d ≡ proper rs) where
  -- a slot's place is that of the context's relation
  pub slot-relation : (x : Context) (a : Named rs x) → relation_at d (slot_for d x).relation ≡ a.1
  slot-relation x a =
      let z = entry-by-id d rs h a.0 a.1 a.3 in
      ap (λ o. relation_at d (place_or (relation_place d (numbered (relation_id o))))) a.2 ∙ ap (λ o. relation_at d (place_or o)) z.1 ∙ z.2

  pub due-slots : (xs : List Context) → All (Named rs) xs → map (relation_at d) (relations_in (map (slot_for d) xs)) ≡ due_relations xs
  unfolding due_relations
  due-slots [] a = refl
  due-slots (x ∷ xs) a = ap₂ (λ r l. r ∷ l) (slot-relation x a.0) (due-slots xs a.1) ∙ sym (due-first x xs a.0.1 a.0.2)
