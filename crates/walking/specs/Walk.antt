-- How a condition is worked out on its bytes. `g` says what a reference gives; the operators are the meaning's own.
use Rattle.std.specs.Prelude.{ℕ, zero, suc, ◌+◌, List, length, take, drop}
use Rattle.std.proofs.Math.Option.{Option, none, some}
use Rattle.wire.specs.Words.{byte_at, word_at, long_at, int64_at, signed}
use Rattle.wire.specs.Classes.{Class, value_class, boolean_class, literal_class}
use Rattle.wire.specs.Versions.{version_of}
use Rattle.wire.specs.declared.codes.Version.{Version}
use Rattle.wire.specs.declared.codes.Width.{Width}
use Rattle.wire.specs.declared.codes.Width.TheVariants.{Short, Long, Int64}
use Rattle.wire.specs.declared.codes.LiteralType.{LiteralType}
use Rattle.wire.specs.declared.codes.LiteralType.TheVariants.{NumberLiteral, TextLiteral}
use Rattle.wire.specs.declared.codes.ReferenceCode.{ReferenceCode}
use Rattle.wire.specs.declared.codes.ReferenceCode.TheVariants.{Field, Fid, Parameter, Parameter2}
use Rattle.wire.specs.declared.codes.ValueCode.{ValueCode}
use Rattle.wire.specs.declared.codes.ValueCode.TheVariants as Code
use Rattle.wire.specs.declared.codes.BooleanCode.{BooleanCode}
use Rattle.wire.specs.declared.codes.BooleanCode.TheVariants as Boolean
use Rattle.wire.specs.declared.codes.Quantifier.{Quantifier}
use Rattle.wire.specs.declared.codes.Statistic.{Statistic}
use Rattle.dictionary.specs.Dictionary.{name_at}
use Rattle.dictionary.specs.Naming.{named, numbered}
use Rattle.dictionary.specs.Format.{width_bytes}
use Rattle.grammar.specs.declared.Kind as Grammar
use Rattle.grammar.specs.Tree as Tree
use Rattle.grammar.specs.Tree.{Reference, field, parameter, parameter2}
use Rattle.meaning.specs.declared.Truth.{Truth}
use Rattle.meaning.specs.declared.Truth.TheVariants.{True}
use Rattle.meaning.specs.declared.Fault.{Fault}
use Rattle.meaning.specs.Data.{Result, is, refused, stray, Datum, arithmetic_of, negate_of, compare_of, search_of, between_of, missing_of, connected, opposite}
use Rattle.meaning.specs.Inputs.{Fetched, literal_value}
use Rattle.meaning.specs.Meaning.{fetched_at, over_run, numbers_over, count_over}

-- a thing and the place after it; or the first refusal or stray met
pub data Walked (A : Type 0) : Type 0 where
  at : A → ℕ → Walked A
  fault : Fault → ℕ → Walked A
  astray : Walked A

infixl 10 ◌▷◌
abbrev pub ◌▷◌ : {A B : Type 0} → Walked A → (A → ℕ → Walked B) → Walked B
◌▷◌ (at a q) f = f a q
◌▷◌ (fault r p) f = fault r p
◌▷◌ astray f = astray

-- what the meaning gives, with the place after it
abbrev pub ended : {A : Type 0} → Result A → ℕ → Walked A
ended (is a) q = at a q
ended (refused r p) q = fault r p
ended stray q = astray

abbrev pub on_class : {A B : Type 0} → Class A → (A → Walked B) → Walked B
on_class (Class.due k) f = f k
on_class Class.left_out f = astray
on_class Class.foreign f = astray

abbrev pub number_at : Width → List ℕ → ℕ → ℕ
number_at Short s p = word_at s p
number_at Long s p = long_at s p
number_at Int64 s p = int64_at s p

-- a literal whose type stands at p
abbrev pub literal_under : List ℕ → ℕ → LiteralType → Walked Datum
literal_under s p (NumberLiteral w) =
    at (literal_value (Tree.Literal.number w (byte_at s (p + 1)) (number_at w s (p + 2)))) (p + 2 + width_bytes w)
literal_under s p TextLiteral =
    at (literal_value (Tree.Literal.text (take (word_at s (p + 1)) (drop (p + 3) s)))) (p + 3 + word_at s (p + 1))

unfoldable pub literal_at : List ℕ → ℕ → Walked Datum
literal_at s p = on_class (literal_class (byte_at s p)) (literal_under s p)

-- a reference whose code stands at p
unfoldable pub reference_at : (Reference → Fetched) → List ℕ → ℕ → ReferenceCode → Walked Datum
reference_at g s p Field = ended (fetched_at p (g (field (byte_at s (p + 1)) (named (name_at s (p + 2)))))) (p + 3 + byte_at s (p + 2))
reference_at g s p Fid = ended (fetched_at p (g (field (byte_at s (p + 1)) (numbered (word_at s (p + 2)))))) (p + 4)
reference_at g s p Parameter = ended (fetched_at p (g (parameter (byte_at s (p + 1)) (word_at s (p + 2))))) (p + 4)
reference_at g s p Parameter2 =
    ended (fetched_at p (g (parameter2 (byte_at s (p + 1)) (word_at s (p + 2)) (word_at s (p + 4))))) (p + 6)

-- the version that a request's first byte says
abbrev pub version_at : List ℕ → Version
version_at s = version_of (byte_at s 0)

-- ---- runs

-- the run of an any, a unique or a statistic: where the condition of its rse stands, if it has one; the place after the rse, where a
-- statistic's number stands; the place after all of it; the kind of that number; and what is seen with each record of the run in turn
pub record Over (E : Type 0) : Type 0 where
  pub such : Option ℕ
  pub number : ℕ
  pub end : ℕ
  pub kind : Option Grammar.Kind
  pub each : List E

-- what is seen from an E: what a reference gives, and the run of the code at a place
pub record Sight (E : Type 0) : Type 0 where
  pub fetch : E → Reference → Fetched
  pub over : E → ℕ → Option (Over E)

-- what was walked, its end aside
abbrev pub result_of : {A : Type 0} → Walked A → Result A
result_of (at a q) = is a
result_of (fault r p) = refused r p
result_of astray = stray

-- the condition of an rse, with one record; 02, No. 4: "An rse without a condition keeps every record"
abbrev pub such_at : Option ℕ → (ℕ → Walked Truth) → Result Truth
such_at none test = is True
such_at (some c) test = result_of (test c)

-- over each record of a run, if there is one; `test` gives the boolean and `values` the value at a place, with one record
abbrev pub over_at : {E : Type 0} → Quantifier → Option (Over E) → (E → ℕ → Walked Truth) → Walked Truth
over_at q none test = astray
over_at q (some o) test = ended (over_run q (some o.each) (λ x. such_at o.such (test x))) o.end

abbrev pub numbers_at : {E : Type 0} → Statistic → ℕ → Option (Over E) → (E → ℕ → Walked Truth) → (E → ℕ → Walked Datum) → Walked Datum
numbers_at k p none test values = astray
numbers_at k p (some o) test values =
    ended (numbers_over k p o.kind (some o.each) (λ x. such_at o.such (test x)) (λ x. result_of (values x o.number))) o.end

abbrev pub count_at : {E : Type 0} → Option (Over E) → (E → ℕ → Walked Truth) → Walked Datum
count_at none test = astray
count_at (some o) test = ended (count_over (some o.each) (λ x. such_at o.such (test x))) o.end

-- ---- values and booleans

-- what stands under a value's code at p; `inner` gives the values one level down, `numbers` a statistic and `counted` a count
unfoldable pub value_under : (Reference → Fetched) → (ℕ → Walked Datum) → (Statistic → Walked Datum) → Walked Datum → List ℕ → ℕ →
    ValueCode → Walked Datum
value_under g inner numbers counted s p Code.Literal = literal_at s (p + 1)
value_under g inner numbers counted s p (Code.Reference c) = reference_at g s p c
value_under g inner numbers counted s p (Code.Arithmetic o) =
    inner (p + 1) ▷ (λ x q. inner q ▷ (λ y e. ended (arithmetic_of (version_at s) o p x y) e))
value_under g inner numbers counted s p Code.Negate = inner (p + 1) ▷ (λ x e. ended (negate_of p x) e)
value_under g inner numbers counted s p (Code.Statistic k) = numbers k
value_under g inner numbers counted s p Code.Count = counted

-- what stands under a boolean's code at p; `values` gives the values and `inner` the booleans one level down, and `runs` an any or a unique
unfoldable pub boolean_under : (ℕ → Walked Datum) → (ℕ → Walked Truth) → (Quantifier → Walked Truth) → ℕ → BooleanCode → Walked Truth
boolean_under values inner runs p (Boolean.Compare c) = values (p + 1) ▷ (λ x q. values q ▷ (λ y e. ended (compare_of c x y) e))
boolean_under values inner runs p (Boolean.Search t) = values (p + 1) ▷ (λ x q. values q ▷ (λ y e. ended (search_of t x y) e))
boolean_under values inner runs p Boolean.Between =
    values (p + 1) ▷ (λ x q. values q ▷ (λ y r. values r ▷ (λ z e. ended (between_of x y z) e)))
boolean_under values inner runs p (Boolean.Connect c) = inner (p + 1) ▷ (λ x q. inner q ▷ (λ y e. at (connected c x y) e))
boolean_under values inner runs p Boolean.Not = inner (p + 1) ▷ (λ x e. at (opposite x) e)
boolean_under values inner runs p Boolean.Missing = values (p + 1) ▷ (λ x e. at (missing_of x) e)
boolean_under values inner runs p (Boolean.Quantify q) = runs q

-- a value and a boolean at a place, with so many levels left, as they are seen from x
unfoldable mutual
  pub value_at : {E : Type 0} → Sight E → E → ℕ → List ℕ → ℕ → Walked Datum
  value_at w x zero s p = astray
  value_at w x (suc l) s p =
      on_class (value_class (byte_at s p))
      (λ k. value_under (w.fetch x) (λ q. value_at w x l s q)
      (λ c. numbers_at c p (w.over x p) (λ y q. boolean_at w y l s q) (λ y q. value_at w y l s q))
      (count_at (w.over x p) (λ y q. boolean_at w y l s q)) s p k)

  pub boolean_at : {E : Type 0} → Sight E → E → ℕ → List ℕ → ℕ → Walked Truth
  boolean_at w x zero s p = astray
  boolean_at w x (suc l) s p =
      on_class (boolean_class (byte_at s p))
      (λ k. boolean_under (λ q. value_at w x l s q) (λ q. boolean_at w x l s q)
      (λ q. over_at q (w.over x p) (λ y c. boolean_at w y l s c)) p k)
