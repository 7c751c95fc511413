-- 01, "Numbers given back".
use Rattle.std.specs.Prelude.{ℕ}
use Rattle.grammar.specs.declared.Refusal.{Refusal}
use Rattle.grammar.specs.declared.Refusal.TheVariants.{TablesTooShort, RequestTooLong, BadDictionary, EndsEarly, BadVersion, NotDue, LeftOut, TooGreat, BadMessage, NoParameter, BadContext, Unknown, Unfit, Misplaced, BytesAfterEnd, OutOfRange, NoBoolean, BadMessageBytes, BadRecords, MalformedText, Overflow, ZeroDivisor, BadRuns}

unfoldable pub number : Refusal → ℕ
number TablesTooShort = 1  -- tables below 2560, 1536, 192 numbers (02, No. 7)
number RequestTooLong = 2  -- request too long
number BadDictionary = 3  -- dictionary breaks a rule or a greatest size
number EndsEarly = 4  -- request ends early
number BadVersion = 5  -- version not 4
number NotDue = 6  -- code not due here
number LeftOut = 7  -- left-out code
number TooGreat = 8  -- a greatest size of a request passed, those of 2 and 16 aside
number BadMessage = 9  -- message declared or selected twice, or undeclared
number NoParameter = 10  -- no such parameter
number BadContext = 11  -- context in scope already, or not in scope
number Unknown = 12  -- unknown relation or field
number Unfit = 13  -- kinds or scales don't fit
number Misplaced = 14  -- context in scope but not of a for, wrong target, send or receive in store or modify, leave outside its label
number BytesAfterEnd = 15  -- bytes after eoc
number OutOfRange = 16  -- size, scale, stream or sort count out of range
number NoBoolean = 20  -- no such boolean
number BadMessageBytes = 21  -- message bytes not the exact total
number BadRecords = 22  -- records not as due
number MalformedText = 23  -- varying length above n, cstring without zero
number Overflow = 24  -- overflow
number ZeroDivisor = 25  -- zero divisor
number BadRuns = 26  -- runs not as due (02, No. 4)
