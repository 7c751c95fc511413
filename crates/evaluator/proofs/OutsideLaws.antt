-- What is promised to another crate: a law for each answer, and what the promise says where what is lent is not too long.
use Prim.Native.Nat.{ℕ, ◌≤◌, ◌<◌}
use mathlib.Core.Path.{◌≡◌, sym, ◌∙◌}
use mathlib.Core.Bool.{cond}
use mathlib.Core.List.{List}
use lib.ListN.{length}
use borrow.Author.Tests.{le-leb, lt-leb, eq-eqb, ne_eqb}
use Rattle.std.specs.Prelude.{Err}
use Rattle.wire.specs.Options.{refused_at}
use Rattle.grammar.specs.declared.Refusal.TheVariants.{TablesTooShort}
use Rattle.grammar.proofs.StepLaws.{absurd-eq}
use Rattle.meaning.specs.declared.Truth.{Truth}
use Rattle.walking.specs.Walk.{Walked, astray}
use Rattle.values.specs.Values.{Tested, tested}
use Rattle.evaluator.specs.Bound.{Prepared}
use Rattle.evaluator.specs.Slices.{Slices, binding_numbers, run_bytes, booleans_of, Fits}
use Rattle.evaluator.specs.Prepared.{Given, Prepares}
use Rattle.evaluator.specs.Outside.{fits, TestedAt, PreparesIn}

module _ (g : Slices) (l p : ℕ) where
  pub many-bindings : binding_numbers < length g.bindings → astray ≡ cond (fits g) (booleans_of g l p) astray
  many-bindings h = rw (lt-leb (length g.bindings) binding_numbers h)

  pub long-runs : length g.bindings ≤ binding_numbers → run_bytes < length g.runs → astray ≡ cond (fits g) (booleans_of g l p) astray
  long-runs h k = rw (le-leb (length g.bindings) binding_numbers h, lt-leb (length g.runs) run_bytes k)

  both-fit : Fits g.bindings g.runs → cond (fits g) (booleans_of g l p) astray ≡ booleans_of g l p
  both-fit h = rw (le-leb (length g.bindings) binding_numbers h.0, le-leb (length g.runs) run_bytes h.1)

  pub within_both : {r : Walked Truth} → Fits g.bindings g.runs → r ≡ booleans_of g l p → r ≡ cond (fits g) (booleans_of g l p) astray
  within_both h e = e ∙ sym (both-fit h)

  -- what is not too long is walked over
  pub tested-there : (r : Tested) → Fits g.bindings g.runs → TestedAt g l p r → tested r ≡ booleans_of g l p
  tested-there r h e = e ∙ both-fit h

module _ (g : Given) (room : ℕ) (t : List ℕ) where
  pub no_table : (room ≡ binding_numbers → ⊥) → PreparesIn room g t (Err (refused_at TablesTooShort 0))
  no_table h = record { answered_so = rw (ne_eqb room binding_numbers h); table_is = λ n z. absurd-eq (cc) }

  pub any-table : (r : Prepared) → room ≡ binding_numbers → Prepares g t r → PreparesIn room g t r
  any-table r h k = record { answered_so = rw (eq-eqb room binding_numbers h) k.answered_so; table_is = k.table_is }

  -- a table of the greatest length
  pub table-due : (r : Prepared) → room ≡ binding_numbers → PreparesIn room g t r → Prepares g t r
  table-due r h k = record { answered_so = rw (eq-eqb room binding_numbers h) at k.answered_so; table_is = k.table_is }
