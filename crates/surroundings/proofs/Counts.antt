-- The code looks at every row of an allowed request: 01 has 256 parameters in all and 32 context declarations.
use Prim.Native.Nat.{min}
use mathlib.Core.Path.{◌≡◌}
use mathlib.Core.List.{List}
use native.Mathlib.Omega.{arith}
use Rattle.dictionary.specs.Dictionary.{Relation}
use Rattle.grammar.specs.Tree.{Request}
use Rattle.grammar.specs.Sizes.{parameter_count, contexts_count}
use Rattle.grammar.specs.Rules.{Allowed}

module _ (rs : List Relation) (t : Request) (a : Allowed rs t) where
  pub every-parameter : min (parameter_count t.messages) 256 ≡ parameter_count t.messages
  every-parameter = omega (arith, a.sized.parameters)

  pub every-context : min (contexts_count t.statements) 32 ≡ contexts_count t.statements
  every-context = omega (arith, a.sized.contexts)
