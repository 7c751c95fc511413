-- An explanation is refused as evaluation is, by the same number at the same place; or by 1 at 0, where the table is too short.
use Prim.Native.Nat.{ℕ, ◌*◌}
use mathlib.Core.Path.{◌≡◌, sym, ◌∙◌}
use mathlib.Core.Logic.{◌⊎◌, inl, inr}
use mathlib.Core.Bool.{Bool, true, false}
use mathlib.Core.List.{List}
use lib.Dec.{leb}
use lib.ListN.{length}
use Rattle.grammar.specs.declared.Refusal.{Refusal}
use Rattle.grammar.specs.declared.Refusal.TheVariants.{TablesTooShort}
use Rattle.grammar.specs.Demands.{Octets}
use Rattle.grammar.proofs.StepLaws.{absurd-eq}
use Rattle.meaning.specs.Evaluation.{Outcome, answered, refusal, strayed, evaluation}
use Rattle.meaning.specs.Demand.{RefusedEvaluation}
use Rattle.walking.proofs.Refused.{refused-evaluation}
use Rattle.explanation.specs.Explanation.{Test, Explained, explained_evaluation, in_room, in_table, explanation}
use Rattle.explanation.proofs.Asked.{truth_told, evaluation-told}

module _ (room : ℕ) (r : Refusal) (p : ℕ) where
  pub refused-too : (o : Outcome Explained) → truth_told o ≡ refusal r p → in_table room o ≡ refusal r p
  refused-too (answered x) e = absurd-eq (cc)
  refused-too (refusal q k) e = let a : q ≡ r = cc in let b : k ≡ p = cc in λ i. refusal (a i) (b i)
  refused-too strayed e = absurd-eq (cc)

  too_short : (b : Bool) (ts : List Test) → in_room b ts ≡ refusal r p → (r ≡ TablesTooShort) × (p ≡ 0)
  too_short true ts e = absurd-eq (cc)
  too_short false ts e = let a : r ≡ TablesTooShort = cc in let b : p ≡ 0 = cc in (a, b)

  refused-or-short : (o : Outcome Explained) → in_table room o ≡ refusal r p → (truth_told o ≡ refusal r p) ⊎ ((r ≡ TablesTooShort) × (p ≡ 0))
  refused-or-short (answered x) e = inr (too_short (leb (2 * length x.tests) room) x.tests e)
  refused-or-short (refusal q k) e = let a : q ≡ r = cc in let b : k ≡ p = cc in inl (λ i. refusal (a i) (b i))
  refused-or-short strayed e = absurd-eq (cc)

module _ (s d : List ℕ) (n : ℕ) (images rows runs : List ℕ) (room : ℕ) (r : Refusal) (p : ℕ) where
  -- where evaluation is refused
  pub refused-as-evaluated : evaluation s d n images rows runs ≡ refusal r p → explanation s d n images rows runs room ≡ refusal r p
  unfolding explanation
  refused-as-evaluated e = refused-too room r p (explained_evaluation s d n images rows runs) (evaluation-told s d n images rows runs ∙ e)

  -- nothing else is refused
  pub refused-so : explanation s d n images rows runs room ≡ refusal r p → (evaluation s d n images rows runs ≡ refusal r p) ⊎ ((r ≡ TablesTooShort) × (p ≡ 0))
  unfolding explanation
  refused-so e = by (refused-or-short room r p (explained_evaluation s d n images rows runs) e)
    where
      by : (truth_told (explained_evaluation s d n images rows runs) ≡ refusal r p) ⊎ ((r ≡ TablesTooShort) × (p ≡ 0)) →
          (evaluation s d n images rows runs ≡ refusal r p) ⊎ ((r ≡ TablesTooShort) × (p ≡ 0))
      by (inl h) = inl (sym (evaluation-told s d n images rows runs) ∙ h)
      by (inr h) = inr h

  -- demand 1 for an explanation: 1 at 0, or what evaluation gives
  pub refused-explanation : Octets s → explanation s d n images rows runs room ≡ refusal r p →
      RefusedEvaluation s d images rows runs r p ⊎ ((r ≡ TablesTooShort) × (p ≡ 0))
  refused-explanation octets e = by (refused-so e)
    where
      by : (evaluation s d n images rows runs ≡ refusal r p) ⊎ ((r ≡ TablesTooShort) × (p ≡ 0)) →
          RefusedEvaluation s d images rows runs r p ⊎ ((r ≡ TablesTooShort) × (p ≡ 0))
      by (inl h) = inl (refused-evaluation s d images rows runs n r p (record { answered = sym h; request_octets = octets }))
      by (inr h) = inr h
