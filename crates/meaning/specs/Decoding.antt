-- The tree whose bytes a list is, by the grammar alone: no rule of scope, kind or size is tested. Of the code tables it uses the codes
-- that are due alone: whether another code is left out or foreign makes no difference here.
use Rattle.std.specs.Prelude.{ℕ, zero, suc, ◌+◌, ◌*◌, Bool, cond, List, [], ◌∷◌, eqb, leb, length, take, drop}
use Rattle.std.proofs.Math.Option.{Option, none, some}
use Rattle.wire.specs.Codes as blr
use Rattle.wire.specs.Classes.{Class, statement_class, value_class, target_class, boolean_class, stream_class, clause_class, direction_class, descriptor_class, literal_class}
use Rattle.wire.specs.declared.codes.StatementCode.{StatementCode}
use Rattle.wire.specs.declared.codes.StatementCode.TheVariants as Code
use Rattle.wire.specs.declared.codes.ValueCode.{ValueCode}
use Rattle.wire.specs.declared.codes.ValueCode.TheVariants as ValueCode
use Rattle.wire.specs.declared.codes.ReferenceCode.{ReferenceCode}
use Rattle.wire.specs.declared.codes.ReferenceCode.TheVariants as ReferenceCode
use Rattle.wire.specs.declared.codes.BooleanCode.{BooleanCode}
use Rattle.wire.specs.declared.codes.BooleanCode.TheVariants as BooleanCode
use Rattle.wire.specs.declared.codes.StreamCode.{StreamCode}
use Rattle.wire.specs.declared.codes.StreamCode.TheVariants as StreamCode
use Rattle.wire.specs.declared.codes.ClauseCode.{ClauseCode}
use Rattle.wire.specs.declared.codes.ClauseCode.TheVariants as ClauseCode
use Rattle.wire.specs.Versions.{is_version, version_of}
use Rattle.wire.specs.declared.codes.Version.{Version}
use Rattle.wire.specs.declared.codes.Width.{Width}
use Rattle.wire.specs.declared.codes.Width.TheVariants.{Short, Long, Int64}
use Rattle.wire.specs.declared.codes.DataType.{DataType}
use Rattle.wire.specs.declared.codes.DataType.TheVariants as DataType
use Rattle.wire.specs.declared.codes.LiteralType.{LiteralType}
use Rattle.wire.specs.declared.codes.LiteralType.TheVariants as LiteralType
use Rattle.dictionary.specs.Naming.{Name, named, numbered}
use Rattle.grammar.specs.Tree as Tree
use Rattle.grammar.specs.Tree.{Descriptor, Message, Stream, Literal, Reference, field, parameter, parameter2, Heading, loop, modify, handler, receive, send, store, label, Value, literal, reference, arithmetic, negate, statistic, count, Boolean, compare, search, between, connect, not, missing, quantify, Keys, no_keys, key, Clauses, no_clauses, such, sorted, Rse, rse, Statement, assignment, begin, erase, for, headed, leave, if, if_else, select, Statements, none as nothing, Receives, last, more, Request}

-- ---- decoders: what stands at the front of a list, and the bytes after it

abbrev pub Decoder : Type 0 → Type 0
Decoder A = List ℕ → Option (A × List ℕ)

abbrev pub onward : {A B : Type 0} → Option (A × List ℕ) → (A → Decoder B) → Option (B × List ℕ)
onward none f = none
onward (some x) f = f x.0 x.1

infixl 10 ◌>>=◌
abbrev pub ◌>>=◌ : {A B : Type 0} → Decoder A → (A → Decoder B) → Decoder B
◌>>=◌ m f s = onward (m s) f

abbrev pub return : {A : Type 0} → A → Decoder A
return a s = some (a, s)

abbrev pub fail : {A : Type 0} → Decoder A
fail s = none

-- a function of one, two or three things in a row
abbrev pub one : {A B : Type 0} → (A → B) → Decoder A → Decoder B
one f m = m >>= λ a. return (f a)

abbrev pub two : {A B C : Type 0} → (A → B → C) → Decoder A → Decoder B → Decoder C
two f m k = m >>= λ a. k >>= λ b. return (f a b)

abbrev pub three : {A B C D : Type 0} → (A → B → C → D) → Decoder A → Decoder B → Decoder C → Decoder D
three f m k j = m >>= λ a. k >>= λ b. j >>= λ c. return (f a b c)

-- two in a row, of which the second is kept
infixl 10 ◌then◌
abbrev pub ◌then◌ : {A B : Type 0} → Decoder A → Decoder B → Decoder B
◌then◌ m k = m >>= λ a. k

unfoldable pub byte : Decoder ℕ
byte [] = none
byte (x ∷ s) = some (x, s)

unfoldable pub peek : Decoder ℕ
peek [] = none
peek (x ∷ s) = some (x, x ∷ s)

unfoldable pub bytes : ℕ → Decoder (List ℕ)
bytes n s = cond (leb n (length s)) (some (take n s, drop n s)) none

unfoldable pub word : Decoder ℕ
word = two (λ a b. a + 256 * b) byte byte

unfoldable pub long : Decoder ℕ
long = two (λ a b. a + 65536 * b) word word

unfoldable pub int64 : Decoder ℕ
int64 = two (λ a b. a + 4294967296 * b) long long

unfoldable pub code : ℕ → Decoder ℕ
code k = byte >>= λ x. cond (eqb x k) (return x) fail

abbrev pub due : {A : Type 0} → Class A → Decoder A
due (Class.due a) = return a
due Class.left_out = fail
due Class.foreign = fail

unfoldable pub coded : {A : Type 0} → (ℕ → Class A) → Decoder A
coded class = byte >>= λ x. due (class x)

-- so many of a kind
unfoldable pub several : {A : Type 0} → ℕ → Decoder A → Decoder (List A)
several zero each = return []
several (suc n) each = each >>= λ x. several n each >>= λ xs. return (x ∷ xs)

-- what follows an end, or what follows any other byte
unfoldable pub at_end : {A : Type 0} → A → Decoder A → Decoder A
at_end a other = peek >>= λ x. cond (eqb x blr.end) (byte then return a) other

-- ---- messages

abbrev pub descriptor_under : DataType → Decoder Descriptor
descriptor_under (DataType.Number w) = one (Descriptor.number w) byte
descriptor_under DataType.Date = return Descriptor.date
descriptor_under (DataType.Chars t) = one (Descriptor.text t) word

unfoldable pub descriptor : Decoder Descriptor
descriptor = coded descriptor_class >>= descriptor_under

abbrev pub message_of : ℕ → List Descriptor → Message
message_of m ds = record { number = m; descriptors = ds }

unfoldable pub message : Decoder Message
message = two message_of (code blr.message then byte) (word >>= λ n. several n descriptor)

-- messages up to the first other code, so many at most
unfoldable pub messages : ℕ → Decoder (List Message)
messages zero = return []
messages (suc k) = peek >>= λ x. cond (eqb x blr.message) (message >>= λ m. messages k >>= λ ms. return (m ∷ ms)) (return [])

-- ---- names, literals and references

unfoldable pub counted_name : Decoder Name
counted_name = one named (byte >>= bytes)

unfoldable pub id : Decoder Name
id = one numbered word

abbrev pub number_of : Width → Decoder ℕ
number_of Short = word
number_of Long = long
number_of Int64 = int64

abbrev pub literal_under : LiteralType → Decoder Literal
literal_under (LiteralType.NumberLiteral w) = two (Literal.number w) byte (number_of w)
literal_under LiteralType.TextLiteral = one Literal.text (word >>= bytes)

unfoldable pub reference_under : ReferenceCode → Decoder Reference
reference_under ReferenceCode.Field = two field byte counted_name
reference_under ReferenceCode.Fid = two field byte id
reference_under ReferenceCode.Parameter = two parameter byte word
reference_under ReferenceCode.Parameter2 = three parameter2 byte word word

-- ---- rses

abbrev pub stream_under : StreamCode → Decoder Name
stream_under StreamCode.Relation = counted_name
stream_under StreamCode.Rid = id

abbrev pub stream_of : Name → ℕ → Stream
stream_of n c = record { relation = n; context = c }

unfoldable pub stream : Decoder Stream
stream = two stream_of (coded stream_class >>= stream_under) byte

unfoldable pub keys : ℕ → Decoder Value → Decoder Keys
keys zero values = return no_keys
keys (suc n) values = coded direction_class >>= λ d. values >>= λ v. keys n values >>= λ ks. return (key d v ks)

unfoldable pub clauses_under : Decoder Clauses → Decoder Boolean → Decoder Value → ClauseCode → Decoder Clauses
clauses_under rest booleans values ClauseCode.Boolean = two such booleans rest
clauses_under rest booleans values ClauseCode.Sort = two sorted (byte >>= λ n. keys n values) rest
clauses_under rest booleans values ClauseCode.End = return no_clauses

unfoldable pub clauses : ℕ → Decoder Boolean → Decoder Value → Decoder Clauses
clauses zero booleans values = fail
clauses (suc n) booleans values = coded clause_class >>= λ c. clauses_under (clauses n booleans values) booleans values c

-- n bounds the clauses
unfoldable pub rse_of : ℕ → Decoder Boolean → Decoder Value → Decoder Rse
rse_of n booleans values = two rse (code blr.rse then byte >>= λ k. several k stream) (clauses n booleans values)

-- ---- values and booleans

-- what stands under a value's or a boolean's code; n bounds the clauses of an rse, `inner` and `values` decode what stands one level down
unfoldable pub value_under : ℕ → Decoder Boolean → Decoder Value → ValueCode → Decoder Value
value_under n inner values ValueCode.Literal = one literal (coded literal_class >>= literal_under)
value_under n inner values (ValueCode.Reference c) = one reference (reference_under c)
value_under n inner values (ValueCode.Arithmetic o) = two (arithmetic o) values values
value_under n inner values ValueCode.Negate = one negate values
value_under n inner values (ValueCode.Statistic k) = two (statistic k) (rse_of n inner values) values
value_under n inner values ValueCode.Count = one count (rse_of n inner values)

unfoldable pub boolean_under : ℕ → Decoder Boolean → Decoder Value → BooleanCode → Decoder Boolean
boolean_under n inner values (BooleanCode.Compare c) = two (compare c) values values
boolean_under n inner values (BooleanCode.Search t) = two (search t) values values
boolean_under n inner values BooleanCode.Between = three between values values values
boolean_under n inner values (BooleanCode.Connect c) = two (connect c) inner inner
boolean_under n inner values BooleanCode.Not = one not inner
boolean_under n inner values BooleanCode.Missing = one missing values
boolean_under n inner values (BooleanCode.Quantify q) = one (quantify q) (rse_of n inner values)

-- with so many levels at most
unfoldable mutual
  pub value : ℕ → ℕ → Decoder Value
  value n zero = fail
  value n (suc l) = coded value_class >>= λ c. value_under n (boolean n l) (value n l) c

  pub boolean : ℕ → ℕ → Decoder Boolean
  boolean n zero = fail
  boolean n (suc l) = coded boolean_class >>= λ c. boolean_under n (boolean n l) (value n l) c

-- ---- statements

-- statements up to an end, and receives up to an end, so many at most
unfoldable pub many : ℕ → Decoder Statement → Decoder Statements
many zero each = fail
many (suc n) each = at_end nothing (each >>= λ s. many n each >>= λ ss. return (Tree.◌then◌ s ss))

unfoldable pub many_receives : ℕ → Decoder Statement → Decoder Receives
many_receives zero each = fail
many_receives (suc n) each =
    code blr.receive then byte >>= λ m. each >>= λ s. at_end (last m s) (many_receives n each >>= λ rs. return (more m s rs))

-- what stands under a statement's code; n bounds the clauses of an rse and the statements of a begin or a select
unfoldable pub statement_under : ℕ → Decoder Statement → Decoder Boolean → Decoder Value → StatementCode → Decoder Statement
statement_under n inner booleans values Code.Assignment = two assignment values (coded target_class >>= reference_under)
statement_under n inner booleans values Code.Begin = one begin (many n inner)
statement_under n inner booleans values Code.Erase = one erase byte
statement_under n inner booleans values Code.For = two for (rse_of n booleans values) inner
statement_under n inner booleans values Code.Loop = one (headed loop) inner
statement_under n inner booleans values Code.Modify = two headed (two modify byte byte) inner
statement_under n inner booleans values Code.Handler = one (headed handler) inner
statement_under n inner booleans values Code.Receive = two headed (one receive byte) inner
statement_under n inner booleans values Code.Send = two headed (one send byte) inner
statement_under n inner booleans values Code.Store = two headed (one store stream) inner
statement_under n inner booleans values Code.Label = two headed (one label byte) inner
statement_under n inner booleans values Code.Leave = one leave byte
statement_under n inner booleans values Code.If = booleans >>= λ b. inner >>= λ s. at_end (if b s) (one (if_else b s) inner)
statement_under n inner booleans values Code.Select = one select (many_receives n inner)

unfoldable pub statement : ℕ → ℕ → Decoder Statement
statement n zero = fail
statement n (suc l) = coded statement_class >>= λ c. statement_under n (statement n l) (boolean n l) (value n l) c

abbrev pub request_of : Version → List Message → Statements → Request
request_of v ms ss = record { version = v; messages = ms; statements = ss }

-- 02, No. 8: "Version 5 beside version 4."
unfoldable pub version : Decoder Version
version = byte >>= λ b. cond (is_version b) (return (version_of b)) fail

-- 01: "Request: 4 (version), begin 2, messages, statements, end 255, eoc 76, nothing more." n bounds every count: the length will do
unfoldable pub request : ℕ → Decoder Request
request n =
    version >>= λ v. code blr.begin then
    two (request_of v) (messages n) (many n (λ s. statement n n s)) >>= λ r. code blr.eoc then return r

abbrev pub ended : Request → List ℕ → Option Request
ended r [] = some r
ended r (b ∷ s) = none

abbrev pub whole : Option (Request × List ℕ) → Option Request
whole none = none
whole (some x) = ended x.0 x.1

unfoldable pub decode : List ℕ → Option Request
decode s = whole (request (length s) s)
