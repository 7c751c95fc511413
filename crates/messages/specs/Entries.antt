-- The messages that a request has declared, as the code has them: an array of numbers, and what it stands for.
use Rattle.std.specs.Prelude.{ℕ, ◌+◌, ◌-◌, ◌*◌, ◌%◌, ◌/◌, cond, List, map, eqb, ltb, take, set, get_or}
use Rattle.std.proofs.Math.Option
use Rattle.std.proofs.Math.Option.{Option}
use Rattle.std.proofs.Math.ListN.{get_elem?}
use Rattle.wire.specs.Codes as blr
use Rattle.wire.specs.Limits.{max_messages, max_parameters}
use Rattle.wire.specs.Lists.{index_of}
use Rattle.wire.specs.Versions.{version_code, version_of}
use Rattle.wire.specs.declared.codes.Version.{Version}
use Rattle.wire.specs.declared.codes.Width.TheVariants.{Short, Long, Int64}
use Rattle.wire.specs.declared.codes.TextType.TheVariants.{Text, Varying, Cstring}
use Rattle.grammar.specs.Tree as Tree
use Rattle.grammar.specs.Environment.{descriptor_format}
use Rattle.grammar.specs.Kinds.{format_kind}
use Rattle.grammar.specs.declared.Kind.{Kind}
use Rattle.scopes.specs.Scopes.{each_from}
use Rattle.messages.specs.Internal.Columns.{message_count, row_count, numbers_from, counts_from, firsts_from, descriptors_from, version_at}

-- ---- messages in the array

-- a message: its number, how many parameters it has, and the row of the first
pub record Message : Type 0 where
  pub number : ℕ
  pub parameters : ℕ
  pub first : ℕ

abbrev pub no_message : Message
no_message = record { number = 0; parameters = 0; first = 0 }

-- how many messages there are, and the rows of all their parameters
abbrev pub messages_held : List ℕ → ℕ
messages_held a = get_or a message_count 0

abbrev pub rows_held : List ℕ → ℕ
rows_held a = get_or a row_count 0

-- the message of an index; past the last index nothing
abbrev pub message_in : List ℕ → ℕ → Message
message_in a i = record { number = get_or a (numbers_from + i) 0; parameters = get_or a (counts_from + i) 0; first = get_or a (firsts_from + i) 0 }

abbrev pub message_at : List ℕ → ℕ → Message
message_at a i = cond (ltb i max_messages) (message_in a i) no_message

-- the messages in the order of their declarations
abbrev pub declared_in : List ℕ → List Message
declared_in a = take (messages_held a) (each_from (message_in a) 0 max_messages)

-- the index of the message of a number
abbrev pub found_of : List Message → ℕ → Option ℕ
found_of xs m = index_of (λ x. eqb x.number m) xs

-- ---- descriptors in the array

-- a type's code, a scale byte and the bytes held, in one number
abbrev pub packed : ℕ → ℕ → ℕ → ℕ
packed code scale held = code + 256 * scale + 65536 * held

-- the descriptor of a type's code, a scale byte and the bytes held; another type counts as a date
unfoldable pub described_by : ℕ → ℕ → ℕ → Tree.Descriptor
described_by t scale held =
    cond (eqb t blr.short) (Tree.Descriptor.number Short scale)
    (cond (eqb t blr.long) (Tree.Descriptor.number Long scale)
    (cond (eqb t blr.int64) (Tree.Descriptor.number Int64 scale)
    (cond (eqb t blr.text) (Tree.Descriptor.text Text held)
    (cond (eqb t blr.varying) (Tree.Descriptor.text Varying (held - 2))
    (cond (eqb t blr.cstring) (Tree.Descriptor.text Cstring held) Tree.Descriptor.date)))))

unfoldable pub descriptor_of : ℕ → Tree.Descriptor
descriptor_of x = described_by (x % 256) (x / 256 % 256) (x / 65536)

-- the descriptor of a row; what is past 01's 256 rows counts as a date
unfoldable pub descriptor_at : List ℕ → ℕ → Tree.Descriptor
descriptor_at a row = cond (ltb row max_parameters) (descriptor_of (get_or a (descriptors_from + row) 0)) Tree.Descriptor.date

-- so many rows from one on
abbrev pub descriptors_at : List ℕ → ℕ → ℕ → List Tree.Descriptor
descriptors_at a row n = each_from (descriptor_at a) row n

-- ---- what the array stands for

abbrev pub message_of : List ℕ → Message → Tree.Message
message_of a x = record { number = x.number; descriptors = descriptors_at a x.first x.parameters }

unfoldable pub messages_in : List ℕ → List Tree.Message
messages_in a = map (message_of a) (declared_in a)

-- the kind of a parameter of a message
unfoldable pub parameter_kind : List ℕ → Message → ℕ → Option Kind
parameter_kind a x i = Option.map (λ d. format_kind (descriptor_format d)) (get_elem? (descriptors_at a x.first x.parameters) i)

-- the version of the request
unfoldable pub version_in : List ℕ → Version
version_in a = version_of (get_or a version_at 0)

-- ---- what is written

abbrev pub with_version : List ℕ → Version → List ℕ
with_version a v = set a version_at (version_code v)

abbrev pub with_descriptor : List ℕ → ℕ → ℕ → List ℕ
with_descriptor a row x = set a (descriptors_from + row) x

-- the columns of the next message, whose parameters have the next rows
abbrev pub with_columns : List ℕ → ℕ → ℕ → List ℕ
with_columns a m parameters =
    set (set (set a (numbers_from + messages_held a) m) (counts_from + messages_held a) parameters) (firsts_from + messages_held a) (rows_held a)

-- one message more
abbrev pub with_message : List ℕ → ℕ → ℕ → List ℕ
with_message a m parameters =
    set (set (with_columns a m parameters) message_count (messages_held a + 1)) row_count (rows_held a + parameters)
