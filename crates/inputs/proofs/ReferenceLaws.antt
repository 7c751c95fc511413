-- Parameters by their rows, and references by their code. Assumes nothing.
use Prim.Native.Nat.{ℕ}
use mathlib.Core.Path.{◌≡◌, refl, sym, ap, ap₂, ◌∙◌}
use mathlib.Core.List.{List}
use mathlib.Core.Option.{Option}
use Rattle.wire.specs.declared.codes.ReferenceCode.{ReferenceCode}
use Rattle.wire.specs.declared.codes.ReferenceCode.TheVariants.{Field, Fid, Parameter, Parameter2}
use Rattle.dictionary.specs.Format.{Format}
use Rattle.grammar.specs.Tree.{Reference}
use Rattle.meaning.specs.Inputs.{Fetched, on_found}
use Rattle.meaning.specs.Meaning.{fetched_at}
use Rattle.walking.specs.Walk.{ended, reference_at}
use Rattle.std.specs.Prelude as Rust
use Rattle.dictionary.specs.declared.field.Description.{Description}
use Rattle.surroundings.specs.Tables.{parameter_is}
use Rattle.inputs.specs.Answers.{reference_in, reference_end}

-- ---- a parameter's row

pub row-found : (o : Option (Format × ℕ)) (f : Format × ℕ → Fetched) (r r' : Rust.Option (Description × ℕ)) → r ≡ r' → parameter_is r ≡ o →
    on_found (parameter_is r') f ≡ on_found o f
row-found o f r r' i e = ap (λ x. on_found x f) (ap parameter_is (sym i) ∙ e)

-- ---- a reference whose code stands at p

module _ (g : Reference → Fetched) (s : List ℕ) (p : ℕ) where
  reference-is : (c : ReferenceCode) → ended (fetched_at p (g (reference_in s p c))) (reference_end s p c) ≡ reference_at g s p c
  unfolding reference_at
  reference-is Field = refl
  reference-is Fid = refl
  reference-is Parameter = refl
  reference-is Parameter2 = refl

  pub reference-walked : (c : ReferenceCode) (x : Fetched) (n : ℕ) → x ≡ g (reference_in s p c) → n ≡ reference_end s p c →
      ended (fetched_at p x) n ≡ reference_at g s p c
  reference-walked c x n e f = ap₂ (λ (y : Fetched) (k : ℕ). ended (fetched_at p y) k) e f ∙ reference-is c
