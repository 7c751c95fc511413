-- The rows of the contexts in scope at a condition or a from-value are spans of these contexts.
use Prim.Native.Nat.{ℕ, ◌+◌, ◌<◌}
use mathlib.Core.Path.{◌≡◌, refl, subst}
use mathlib.Core.Bool.{Bool, true, false, cond}
use mathlib.Core.List.{List, [], ◌∷◌, ◌++◌, map}
use mathlib.Core.Option.{Option, none, some}
use lib.Dec.{eqb}
use Rattle.wire.specs.Words.{word_at}
use Rattle.wire.specs.Lists.{find}
use Rattle.dictionary.specs.Dictionary.{Relation, proper, dictionary}
use Rattle.grammar.specs.Environment.{Context, Scope, context_of}
use Rattle.grammar.proofs.StepLaws.{absurd-eq}
use Rattle.walking.proofs.Sites.{All}
use Rattle.surroundings.specs.Slots.{Slot}
use Rattle.surroundings.specs.Bindings.{bound_contexts, context_binding}
use Rattle.surroundings.proofs.Related.{Named}
use Rattle.surroundings.proofs.Slots.{slot_for, slot-relation}
use Rattle.kinds.specs.Spans.{Span, span_of}
use Rattle.kinds.specs.Scoped.{Same, Scoped}
use Rattle.kinds.proofs.Trees.{spans_of}
use Rattle.kinds.proofs.Starts.{Outer, scoped_start}

-- they have no code
pub contexts-outer : (xs : List Slot) (records : List ℕ) (p : ℕ) → Outer (spans_of (bound_contexts xs records p))
unfolding bound_contexts
contexts-outer [] records p = tt
contexts-outer (x ∷ xs) records p = (refl, contexts-outer xs records (p + word_at records p))

module _ (d : List ℕ) (rs : List Relation) (h : dictionary d ≡ proper rs) (records : List ℕ) where
  -- the first of a number
  abbrev first : List Context → ℕ → ℕ → Option Span
  first xs p c = find (λ x. eqb x.number c) (spans_of (bound_contexts (map (slot_for d) xs) records p))

  there : (xs : List Context) (p c : ℕ) (y : Context) → All (Named rs) xs → find (λ x. eqb x.number c) xs ≡ some y → Same d (first xs p c) y
  unfolding find bound_contexts
  there [] p c y a e = absurd-eq (cc)
  there (x ∷ xs) p c y a e = by (eqb x.number c) e (there xs (p + word_at records p) c y a.1)
    where
      by : (b : Bool) → cond b (some x) (find (λ z. eqb z.number c) xs) ≡ some y →
          (find (λ z. eqb z.number c) xs ≡ some y → Same d (first xs (p + word_at records p) c) y) →
          Same d (cond b (some (span_of (context_binding x.number (slot_for d x).relation p))) (first xs (p + word_at records p) c)) y
      by true f next =
          let z : x ≡ y = cc in
          subst (Same d (some (span_of (context_binding x.number (slot_for d x).relation p)))) z
          (record {
            span = span_of (context_binding x.number (slot_for d x).relation p);
            r = a.0.1;
            found = refl;
            relation_is = a.0.2;
            entry_is = slot-relation d rs h x a.0;
          })
      by false f next = next f

  gone : (xs : List Context) (p c : ℕ) → find (λ x. eqb x.number c) xs ≡ none → first xs p c ≡ none
  unfolding find bound_contexts
  gone [] p c e = refl
  gone (x ∷ xs) p c e = by (eqb x.number c) e (gone xs (p + word_at records p) c)
    where
      by : (b : Bool) → cond b (some x) (find (λ z. eqb z.number c) xs) ≡ none →
          (find (λ z. eqb z.number c) xs ≡ none → first xs (p + word_at records p) c ≡ none) →
          cond b (some (span_of (context_binding x.number (slot_for d x).relation p))) (first xs (p + word_at records p) c) ≡ none
      by true f next = absurd-eq (cc)
      by false f next = next f

  -- so a condition or a from-value has its contexts in scope
  pub scoped-there : (sc : Scope) (own more : List Span) (p q : ℕ) → All (Named rs) sc.contexts → Outer more → 0 < p →
      Scoped d (spans_of (bound_contexts (map (slot_for d) sc.contexts) records 0) ++ (own ++ more)) own sc p q
  unfolding context_of
  scoped-there sc own more p q a o z =
      scoped_start d (spans_of (bound_contexts (map (slot_for d) sc.contexts) records 0)) own more sc p q
      (contexts-outer (map (slot_for d) sc.contexts) records 0) o z (λ c y e. there sc.contexts 0 c y a e) (λ c e. gone sc.contexts 0 c e)
