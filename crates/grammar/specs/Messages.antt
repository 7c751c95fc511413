-- Reading messages.
use Rattle.std.specs.Prelude.{ℕ, zero, suc, ◌+◌, cond, not, ◌&&◌, List, [], ◌∷◌, ◌++◌, eqb, leb}
use Rattle.wire.specs.Codes as blr
use Rattle.wire.specs.Limits.{max_message_parameters, max_parameters, max_message_bytes}
use Rattle.wire.specs.Lists.{any_of}
use Rattle.wire.specs.Classes.{descriptor_class}
use Rattle.wire.specs.Versions.{type_due}
use Rattle.wire.specs.declared.codes.Version.{Version}
use Rattle.wire.specs.declared.codes.Width.{Width}
use Rattle.wire.specs.declared.codes.DataType.{DataType}
use Rattle.wire.specs.declared.codes.DataType.TheVariants.{Number, Date, Chars}
use Rattle.dictionary.specs.Format.{held, scale_in_range, size_in_range}
use Rattle.grammar.specs.declared.Refusal.TheVariants.{NotDue, TooGreat, BadMessage, OutOfRange}
use Rattle.grammar.specs.Tree.{Descriptor, Message}
use Rattle.grammar.specs.Environment.{descriptor_format}
use Rattle.grammar.specs.Sizes.{parameter_count}
use Rattle.grammar.specs.Reader.{Reader, ◌>>=◌, ◌>>◌, return, need, place, byte, word, peek, tested, coded}

-- the scale byte of a number of a width, and the n of a text
unfoldable pub scale_byte : Width → Reader ℕ
scale_byte w = tested byte (scale_in_range w) OutOfRange

unfoldable pub size_word : Reader ℕ
size_word = tested word size_in_range OutOfRange

unfoldable pub descriptor_under : DataType → Reader Descriptor
descriptor_under (Number w) = do
  scale ← scale_byte w
  return (Descriptor.number w scale)
descriptor_under Date = return Descriptor.date
descriptor_under (Chars t) = do
  n ← size_word
  return (Descriptor.text t n)

-- one descriptor of a message that has so many bytes before it; 01: "message bytes after them"; 02, No. 8: "Version 4 .. refuses 16 in
-- messages and literals by 6"
unfoldable pub descriptor : Version → ℕ → Reader Descriptor
descriptor v size = do
  p ← place
  t ← coded descriptor_class
  need (type_due v t) NotDue p
  d ← descriptor_under t
  need (leb (size + held (descriptor_format d)) max_message_bytes) TooGreat p
  return d

unfoldable pub descriptors : Version → ℕ → ℕ → Reader (List Descriptor)
descriptors v zero size = return []
descriptors v (suc n) size = do
  d ← descriptor v size
  ds ← descriptors v n (size + held (descriptor_format d))
  return (d ∷ ds)

-- a message after its code, beside the messages before it; 8: "parameters: count word"
unfoldable pub message : Version → List Message → Reader Message
message v ms = do
  m ← tested byte (λ m. not (any_of (λ x. eqb x.number m) ms)) BadMessage
  n ← tested word (λ n. leb n max_message_parameters && leb (parameter_count ms + n) max_parameters) TooGreat
  ds ← descriptors v n 0
  return (record { number = m; descriptors = ds })

-- messages up to the first other code, so many more at most
unfoldable pub messages : Version → ℕ → List Message → Reader (List Message)
messages v zero ms = do
  tested peek (λ x. not (eqb x blr.message)) TooGreat
  return ms
messages v (suc k) ms = do
  x ← peek
  cond (eqb x blr.message) (do
    byte
    m ← message v ms
    messages v k (ms ++ (m ∷ []))) (return ms)
