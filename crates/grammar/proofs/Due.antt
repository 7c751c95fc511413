-- The code of each case is due where the case may stand.
use mathlib.Core.Path.{◌≡◌, refl}
use Rattle.wire.specs.Classes.{due, classify, value_class, boolean_class, direction_class, descriptor_class, literal_class}
use Rattle.wire.specs.declared.codes.Width.{Width}
use Rattle.wire.specs.declared.codes.Width.TheVariants.{Short, Long, Int64}
use Rattle.wire.specs.declared.codes.TextType.{TextType}
use Rattle.wire.specs.declared.codes.TextType.TheVariants.{Text, Varying, Cstring}
use Rattle.wire.specs.declared.codes.DataType.TheVariants.{Number, Chars}
use Rattle.wire.specs.declared.codes.LiteralType.TheVariants.{NumberLiteral}
use Rattle.wire.specs.declared.codes.Operator.{Operator}
use Rattle.wire.specs.declared.codes.Operator.TheVariants.{Add, Subtract, Multiply, Divide}
use Rattle.wire.specs.declared.codes.ValueCode.TheVariants as Code
use Rattle.wire.specs.declared.codes.Statistic.{Statistic}
use Rattle.wire.specs.declared.codes.Statistic.TheVariants.{Average, Maximum, Minimum, Total}
use Rattle.wire.specs.declared.codes.Comparison.{Comparison}
use Rattle.wire.specs.declared.codes.Comparison.TheVariants.{Eql, Neq, Gtr, Geq, Lss, Leq}
use Rattle.wire.specs.declared.codes.TextSearch.{TextSearch}
use Rattle.wire.specs.declared.codes.TextSearch.TheVariants.{Containing, Matching, Starting}
use Rattle.wire.specs.declared.codes.Connective.{Connective}
use Rattle.wire.specs.declared.codes.Connective.TheVariants.{Or, And}
use Rattle.wire.specs.declared.codes.BooleanCode.TheVariants.{Compare, Search, Connect, Quantify}
use Rattle.wire.specs.declared.codes.Quantifier.{Quantifier}
use Rattle.wire.specs.declared.codes.Quantifier.TheVariants.{Any, Unique}
use Rattle.wire.specs.declared.codes.Direction.{Direction}
use Rattle.wire.specs.declared.codes.Direction.TheVariants.{Ascending, Descending}
use Rattle.grammar.specs.Bytes.{width_code, text_code, operator_code, statistic_code, comparison_code, search_code, connective_code, quantifier_code, direction_code}

pub width-due : (w : Width) → descriptor_class (width_code w) ≡ due (Number w)
unfolding descriptor_class classify
width-due Short = refl
width-due Long = refl
width-due Int64 = refl

pub text-due : (t : TextType) → descriptor_class (text_code t) ≡ due (Chars t)
unfolding descriptor_class classify
text-due Text = refl
text-due Varying = refl
text-due Cstring = refl

pub number-due : (w : Width) → literal_class (width_code w) ≡ due (NumberLiteral w)
unfolding literal_class classify
number-due Short = refl
number-due Long = refl
number-due Int64 = refl

pub operator-due : (o : Operator) → value_class (operator_code o) ≡ due (Code.Arithmetic o)
unfolding value_class classify
operator-due Add = refl
operator-due Subtract = refl
operator-due Multiply = refl
operator-due Divide = refl

pub statistic-due : (k : Statistic) → value_class (statistic_code k) ≡ due (Code.Statistic k)
unfolding value_class classify
statistic-due Average = refl
statistic-due Maximum = refl
statistic-due Minimum = refl
statistic-due Total = refl

pub comparison-due : (c : Comparison) → boolean_class (comparison_code c) ≡ due (Compare c)
unfolding boolean_class classify
comparison-due Eql = refl
comparison-due Neq = refl
comparison-due Gtr = refl
comparison-due Geq = refl
comparison-due Lss = refl
comparison-due Leq = refl

pub search-due : (t : TextSearch) → boolean_class (search_code t) ≡ due (Search t)
unfolding boolean_class classify
search-due Containing = refl
search-due Matching = refl
search-due Starting = refl

pub connective-due : (c : Connective) → boolean_class (connective_code c) ≡ due (Connect c)
unfolding boolean_class classify
connective-due Or = refl
connective-due And = refl

pub quantifier-due : (q : Quantifier) → boolean_class (quantifier_code q) ≡ due (Quantify q)
unfolding boolean_class classify
quantifier-due Any = refl
quantifier-due Unique = refl

pub direction-due : (d : Direction) → direction_class (direction_code d) ≡ due d
unfolding direction_class classify
direction-due Ascending = refl
direction-due Descending = refl
