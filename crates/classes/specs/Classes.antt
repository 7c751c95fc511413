-- A class as the code answers it: what is due, or why it is not.
use Rattle.std.specs.Prelude.{Result, Ok, Err}
use Rattle.wire.specs.Classes.{Class, due, left_out, foreign}
use Rattle.classes.specs.declared.NotDue.{NotDue}
use Rattle.classes.specs.declared.NotDue.TheVariants.{LeftOut, Foreign}

abbrev pub class_of : {A : Type 0} → Class A → Result A NotDue
class_of (due x) = Ok x
class_of left_out = Err LeftOut
class_of foreign = Err Foreign
