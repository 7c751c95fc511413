-- The rows of an accepted request: 512 statements, 256 parameters and 32 contexts at most.
use Prim.Native.Nat.{ℕ, ◌≤◌}
use mathlib.Core.Path.{◌≡◌, subst}
use mathlib.Core.List.{List}
use native.Mathlib.Omega.{arith}
use Rattle.std.specs.Prelude.{Result, Ok}
use Rattle.wire.specs.declared.refused.Refused.{Refused}
use Rattle.grammar.specs.declared.Counts.{Counts}
use Rattle.grammar.specs.declared.Refusal.{Refusal}
use Rattle.grammar.specs.Answered.{Answered}
use Rattle.grammar.proofs.RowCounts.{request-rows, parameter_rows_lem, request-contexts}
use Rattle.grammar.proofs.Demands.{read-sound}

pub record Few (x : Counts) : Type 0 where
  pub statements : x.statements ≤ 512
  pub parameters : x.parameters ≤ 256
  pub contexts : x.contexts ≤ 32

-- what reading accepts has no more rows than the smallest tables hold
pub accepted-few :
    {s d st pa ct st' pa' ct' : List ℕ} {r : Result Counts (Refused Refusal)} → Answered s d st pa ct st' pa' ct' r → (x : Counts) → r ≡ Ok x → Few x
accepted-few {s} {d} {st} {pa} {ct} {st'} {pa'} {ct'} h x e =
    let w = read-sound (subst (λ r. Answered s d st pa ct st' pa' ct' r) e h) in
    let z = w.acceptable.allowed.sized in
    record {
      statements = omega (arith, w.filled.statement_count, request-rows w.tree, z.statements);
      parameters = omega (arith, w.filled.parameter_count, parameter_rows_lem w.tree.messages, z.parameters);
      contexts = omega (arith, w.filled.context-count, request-contexts w.relations w.tree, z.contexts);
    }
