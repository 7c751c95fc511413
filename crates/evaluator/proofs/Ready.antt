-- What is asked for of a request that was read, once all is prepared for the walk over it: a law for each answer.
use Prim.Native.Nat.{ℕ, ◌*◌, ◌≤◌}
use mathlib.Core.Path.{◌≡◌, sym, ap, subst, ◌∙◌}
use mathlib.Core.List.{List, ◌++◌}
use lib.ListN.{take}
use Rattle.std.specs.Prelude.{Ok, Err}
use Rattle.wire.specs.Limits.{max_contexts}
use Rattle.wire.specs.declared.refused.Refused.{Refused}
use Rattle.grammar.specs.declared.Refusal.{Refusal}
use Rattle.grammar.specs.Demands.{Octets}
use Rattle.grammar.specs.Sizes.{parameter_count}
use Rattle.grammar.proofs.StepLaws.{absurd-eq}
use Rattle.meaning.specs.Data.{Result, is, refused, stray}
use Rattle.meaning.specs.Evaluation.{Outcome, refusal, on_inputs}
use Rattle.meaning.specs.Demand.{NotStray}
use Rattle.walking.specs.Walk.{Walked, astray, ended, Sight}
use Rattle.surroundings.specs.Bindings.{binding_row_numbers, binding_rows, bound_sight}
use Rattle.runs.specs.Filled.{filled_bindings}
use Rattle.sights.specs.Seen.{with_kinds}
use Rattle.evaluator.specs.Slices.{slices, sight_of, Fits}
use Rattle.evaluator.specs.AfterReading.{ReadSo}
use Rattle.evaluator.specs.Bound.{Prepared}
use Rattle.evaluator.specs.Prepared.{given, Prepares}
use Rattle.evaluator.proofs.Due.{InputsDue, inputs-pass}
use Rattle.evaluator.proofs.KindsNoted.{contexts_there}
use Rattle.evaluator.proofs.Parts.{Part, sight-same, Stands, refused-so, stands-so, fits-so}

ended-met : {A : Type 0} (x : Result A) (q : ℕ) → NotStray x → ended x q ≡ astray → ⊥
ended-met (is a) q h e = absurd-eq (cc)
ended-met (refused r p) q h e = absurd-eq (cc)
ended-met stray q h e = h

-- a part of the request; its meaning, which the walk over its bytes gives with what is seen by its table; and its evaluation, by what a walk
-- comes out as
pub record Question {s d pa ct : List ℕ} {m o : ℕ} (w : ReadSo s d pa ct m o) (images rows runs : List ℕ) {A B : Type 0}
    (walk : Sight (List ℕ) → List ℕ → ℕ → Walked A) (settle : Walked A → Outcome B) (evaluated : Outcome B) : Type 0 where
  pub part : Part w rows
  pub result : Result A
  pub after : ℕ
  pub not_stray : NotStray result
  pub walks-so : InputsDue part.scope part.due w.request.messages images rows runs →
      walk (bound_sight d (take (m * 6) pa) (parameter_count w.request.messages) images rows runs)
      (binding_rows (contexts_there d part.scope rows ++ filled_bindings d runs 0 (with_kinds part.own part.kinds))) part.place ≡
      ended result after
  pub evaluated-so : evaluated ≡ on_inputs part.scope part.due w.request.messages images rows runs (settle (ended result after))

-- and what is prepared for it
pub record Ready {s d pa ct : List ℕ} {m o : ℕ} (w : ReadSo s d pa ct m o) (images rows runs : List ℕ) {A B : Type 0}
    (walk : Sight (List ℕ) → List ℕ → ℕ → Walked A) (settle : Walked A → Outcome B) (evaluated : Outcome B) : Type 0 where
  pub asked : Question w images rows runs walk settle evaluated
  pub place : ℕ
  pub here : place ≡ asked.part.place
  pub table : List ℕ
  pub answer : Prepared
  pub prepared : Prepares (given s d pa ct m o images rows runs place) table answer

module _ {s d pa ct : List ℕ} {m o : ℕ} {w : ReadSo s d pa ct m o} {images rows runs : List ℕ} {A B : Type 0}
    {walk : Sight (List ℕ) → List ℕ → ℕ → Walked A} {settle : Walked A → Outcome B} {evaluated : Outcome B}
    (z : Ready w images rows runs walk settle evaluated) where
  abbrev q : Question w images rows runs walk settle evaluated
  q = z.asked

  prepared-here : Prepares (given s d pa ct m o images rows runs q.part.place) z.table z.answer
  prepared-here = subst (λ p. Prepares (given s d pa ct m o images rows runs p) z.table z.answer) z.here z.prepared

  -- 21, 22, 26
  pub refused-there : (r : Refused Refusal) → z.answer ≡ Err r → refusal r.refusal r.place ≡ evaluated
  refused-there r e =
      refused-so images runs q.part prepared-here r e (settle (ended q.result q.after)) ∙ sym q.evaluated-so

  module _ (k : ℕ) (told : z.answer ≡ Ok k) where
    stands : Stands images runs q.part z.table k
    stands = stands-so images runs q.part prepared-here k told

    pub few-there : k ≤ max_contexts
    few-there = stands.few-rows

    pub fits-there : Octets runs → Fits (take (k * binding_row_numbers) z.table) runs
    fits-there o = fits-so images runs q.part z.table k stands o

    -- the walk with the rows that were prepared
    abbrev cut : List ℕ
    cut = take (k * binding_row_numbers) z.table

    abbrev walk_there : Walked A
    walk_there = walk (sight_of (slices s d cut (take (m * 6) pa) images rows runs)) cut z.place

    pub walk_is : walk_there ≡ ended q.result q.after
    walk_is = (λ i. walk (sight-same w cut images rows runs i) (stands.table_is i) (z.here i)) ∙ q.walks-so stands.inputs

    pub never-there : walk_there ≡ astray → ⊥
    never-there f = ended-met q.result q.after q.not_stray (sym walk_is ∙ f)

    pub walked-there : settle walk_there ≡ evaluated
    walked-there =
        ap settle walk_is
        ∙ sym (q.evaluated-so
        ∙ inputs-pass q.part.scope q.part.due w.request.messages images rows runs
        (settle (ended q.result q.after)) stands.inputs)
