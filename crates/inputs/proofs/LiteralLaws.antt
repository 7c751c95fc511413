-- Literals by their type, and that none stands past the end of a request. Assumes nothing.
use Prim.Native.Nat.{ℕ, ◌+◌, ◌≤◌}
use mathlib.Core.Path.{◌≡◌, refl, ap, ◌∙◌}
use mathlib.Core.List.{List}
use native.Mathlib.Omega.{arith}
use lib.ListN.{length, take, drop}
use Rattle.std.specs.Prelude.{Ok, Err}
use Rattle.wire.specs.Words.{byte_at, word_at}
use Rattle.wire.specs.Lists.{among, any_of}
use Rattle.wire.specs.Classes.{Class, due, left_out, foreign, classify, literal_class}
use Rattle.wire.specs.declared.codes.Width.{Width}
use Rattle.wire.specs.declared.codes.Width.TheVariants.{Short, Long, Int64}
use Rattle.wire.specs.declared.codes.LiteralType.{LiteralType}
use Rattle.wire.specs.declared.codes.LiteralType.TheVariants.{NumberLiteral, TextLiteral}
use Rattle.wire.proofs.Past.{past}
use Rattle.classes.specs.declared.NotDue.{NotDue}
use Rattle.classes.specs.Classes.{class_of}
use Rattle.grammar.proofs.StepLaws.{absurd-eq}
use Rattle.dictionary.specs.Format.{width_bytes}
use Rattle.decimal.specs.declared.Number.{Number}
use Rattle.grammar.specs.Tree as Tree
use Rattle.meaning.specs.Data.{Datum, number}
use Rattle.meaning.specs.Inputs.{literal_value}
use Rattle.walking.specs.Walk.{at, astray, on_class, literal_under, literal_at}
use Rattle.inputs.specs.Answers.{number_of}

-- the class that the code answers as due
pub class-due : {A : Type 0} (k : Class A) (t : A) → Ok t ≡ class_of k → due t ≡ k
class-due (due x) t e = let z : t ≡ x = cc in ap due z
class-due left_out t e = absurd-eq (cc)
class-due foreign t e = absurd-eq (cc)

pub width_small : (w : Width) → width_bytes w ≤ 8
width_small Short = omega arith
width_small Long = omega arith
width_small Int64 = omega arith

module _ (s : List ℕ) (p : ℕ) where
  pub no-literal : length s ≤ p → astray ≡ literal_at s p
  unfolding literal_at literal_class classify among any_of
  no-literal h = rw (← past s p h)

  -- the class of the byte at p
  module _ (k : Class LiteralType) (c : ℕ) (e : k ≡ literal_class c) (i : c ≡ byte_at s p) where
    class-is : on_class k (literal_under s p) ≡ literal_at s p
    unfolding literal_at
    class-is = ap (λ z. on_class z (literal_under s p)) (e ∙ ap literal_class i)

  pub literal-due : (t : LiteralType) (c : ℕ) → due t ≡ literal_class c → c ≡ byte_at s p → literal_under s p t ≡ literal_at s p
  literal-due t c e i = class-is (due t) c e i

  pub literal-not : (y : NotDue) (c : ℕ) → Err y ≡ class_of (literal_class c) → c ≡ byte_at s p → astray ≡ literal_at s p
  literal-not y c e i = by (literal_class c) refl e
    where
      by : (k : Class LiteralType) → k ≡ literal_class c → Err y ≡ class_of k → astray ≡ literal_at s p
      by (due t) j f = absurd-eq (cc)
      by left_out j f = class-is left_out c j i
      by foreign j f = class-is foreign c j i

  pub number-literal : (w : Width) (b n : ℕ) (x : Number) → b ≡ byte_at s (p + 1) → x ≡ number_of w b s (p + 2) → n ≡ width_bytes w →
      at (number x) (p + 2 + n) ≡ literal_under s p (NumberLiteral w)
  unfolding literal_value
  number-literal Short b n x e f g = rw (f, e, g)
  number-literal Long b n x e f g = rw (f, e, g)
  number-literal Int64 b n x e f g = rw (f, e, g)

  pub text-walked : (n : ℕ) (x : Datum) → n ≡ word_at s (p + 1) → x ≡ literal_value (Tree.Literal.text (take n (drop (p + 3) s))) →
      at x (p + 3 + n) ≡ literal_under s p TextLiteral
  text-walked n x e f = rw (f, e)
