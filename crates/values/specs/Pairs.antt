-- What two values of one kind stand for, and what the functions that make them promise.
use Rattle.std.specs.Prelude.{◌≡◌}
use Rattle.meaning.specs.declared.Kind.{Kind}
use Rattle.meaning.specs.Data as Data
use Rattle.meaning.specs.Data.{kind}
use Rattle.values.specs.declared.Value.{Value}
use Rattle.values.specs.declared.pairs.Pair.{Pair}
use Rattle.values.specs.declared.pairs.Pair.TheVariants as Pair
use Rattle.values.specs.Values.{Lent, text_in, datum}

abbrev pub pair_in : Lent → Pair → Data.Pair
pair_in m (Pair.Numbers a b) = Data.numbers a b
pair_in m (Pair.Texts h k) = Data.texts (text_in m h) (text_in m k)
pair_in m (Pair.Dates d e) = Data.dates d.day d.fraction e.day e.fraction
pair_in m (Pair.Lacking k w) = Data.lacking k w
pair_in m Pair.Unfit = Data.unfit

abbrev pub OfKind : Value → Kind → Type 0
OfKind a r = (m : Lent) → r ≡ kind (datum m a)

abbrev pub OfOneKind : Value → Value → Pair → Type 0
OfOneKind a b r = (m : Lent) → pair_in m r ≡ Data.values (datum m a) (datum m b)

abbrev pub Paired : Value → Value → Pair → Type 0
Paired a b r = (m : Lent) → pair_in m r ≡ Data.pair (datum m a) (datum m b)
