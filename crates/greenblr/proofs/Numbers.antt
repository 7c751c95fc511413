-- The greatest number of a refusal.
use Rattle.std.proofs.Common.{ℕ, ◌≤◌, arith}
use Rattle.grammar.specs.Refusals.{number}
use Rattle.grammar.specs.declared.Refusal.{Refusal}
use Rattle.grammar.specs.declared.Refusal.TheVariants as Refusal

-- no number is above 26
pub number_few : (x : Refusal) → number x ≤ 26
unfolding number
number_few Refusal.TablesTooShort = omega arith
number_few Refusal.RequestTooLong = omega arith
number_few Refusal.BadDictionary = omega arith
number_few Refusal.EndsEarly = omega arith
number_few Refusal.BadVersion = omega arith
number_few Refusal.NotDue = omega arith
number_few Refusal.LeftOut = omega arith
number_few Refusal.TooGreat = omega arith
number_few Refusal.BadMessage = omega arith
number_few Refusal.NoParameter = omega arith
number_few Refusal.BadContext = omega arith
number_few Refusal.Unknown = omega arith
number_few Refusal.Unfit = omega arith
number_few Refusal.Misplaced = omega arith
number_few Refusal.BytesAfterEnd = omega arith
number_few Refusal.OutOfRange = omega arith
number_few Refusal.NoBoolean = omega arith
number_few Refusal.BadMessageBytes = omega arith
number_few Refusal.BadRecords = omega arith
number_few Refusal.MalformedText = omega arith
number_few Refusal.Overflow = omega arith
number_few Refusal.ZeroDivisor = omega arith
number_few Refusal.BadRuns = omega arith
