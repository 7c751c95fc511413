-- What the readers of messages promise.
use Rattle.std.specs.Prelude.{ℕ, ◌+◌, ◌*◌, ◌≤◌, ◌<◌, ◌≡◌, List, [], ◌∷◌, ◌++◌, length, replicate, get_or, Result}
use Rattle.std.proofs.lemmas.List.Edits.{sets}
use Rattle.wire.specs.Limits.{max_messages, max_parameters, parameter_row_numbers}
use Rattle.wire.specs.Words.{byte_at}
use Rattle.dictionary.specs.Format.{held}
use Rattle.wire.specs.declared.codes.Version.{Version}
use Rattle.wire.specs.declared.refused.Refused.{Refused}
use Rattle.grammar.specs.declared.Refusal.{Refusal}
use Rattle.grammar.specs.declared.Cursor.{Cursor}
use Rattle.grammar.specs.Tree as Tree
use Rattle.grammar.specs.Bytes.{descriptor_bytes}
use Rattle.grammar.specs.Environment.{descriptor_format}
use Rattle.grammar.specs.Sizes.{parameter_count}
use Rattle.grammar.specs.Rows.{descriptor_rows, parameter_rows}
use Rattle.grammar.specs.Reader.{Read, read, refused}
use Rattle.grammar.specs.Internal.Steps.{cursor_of}
use Rattle.messages.specs.declared.descriptor.Descriptor.{Descriptor}
use Rattle.messages.specs.declared.reading.Parameter.{Parameter}
use Rattle.messages.specs.Internal.Columns.{descriptors_from, around_numbers}
use Rattle.messages.specs.Entries.{messages_held, rows_held, message_in, messages_in, descriptors_at, version_in}

-- the scale byte of a descriptor and the bytes that it holds
abbrev pub scale_held : Tree.Descriptor → ℕ × ℕ
scale_held d = ((descriptor_format d).scale, held (descriptor_format d))

-- a descriptor as the code has it
abbrev pub stored : Tree.Descriptor → Descriptor
stored d = record { code = byte_at (descriptor_bytes d) 0; scale = (descriptor_format d).scale; held = held (descriptor_format d) }

-- what a reading gives: of what was read, or another after a refusal
abbrev pub after : {A B : Type 0} → (A → B) → B → Read A → B
after f other (read a c) = f a
after f other (refused r p) = other

-- the row of a parameter; 01: "message, parameter, type, scale byte, offset, bytes held"
abbrev pub row_of : Parameter → Descriptor → List ℕ
row_of x d = x.message.0 ∷ x.index ∷ d.code ∷ d.scale ∷ x.offset ∷ d.held ∷ []

abbrev pub parameter_after : Parameter → ℕ → Parameter
parameter_after x held = record { message = x.message; index = x.index + 1; row = x.row + 1; offset = x.offset + held }

-- what is so of the array while messages are read: they are 16 at most, each with rows below those in use, which are as many as all have
-- parameters, 256 at most
pub record Holds (a : List ℕ) : Type 0 where
  pub whole : length a ≡ around_numbers
  pub count : messages_held a ≤ max_messages
  pub within : (i : ℕ) → i < messages_held a → (message_in a i).first + (message_in a i).parameters ≤ rows_held a
  pub rows : rows_held a ≡ parameter_count (messages_in a)
  pub few : rows_held a ≤ max_parameters

-- descriptors that were read from a parameter on, their rows, and what the array holds of them; what it held before those rows stays.
-- After a refusal the table is free
pub record Described (y : Read (List Tree.Descriptor)) (x : Parameter) (table table' a a' : List ℕ) (r : Result Cursor (Refused Refusal)) : Type 0 where
  pub answer : r ≡ cursor_of y
  pub filled :
      table' ≡ after (λ ds. sets table (x.row * parameter_row_numbers) (descriptor_rows x.message.0 x.index x.offset ds)) table' y
  pub held : descriptors_at a' x.row (after length 0 y) ≡ after (λ ds. ds) [] y
  pub same : (k : ℕ) → k < descriptors_from + x.row → get_or a' k 0 ≡ get_or a k 0
  pub whole : length a' ≡ length a

-- a message that was read beside those in the array, its rows, and the array with it. A refusal adds no message, and after it the table
-- is free
pub record Told (x : Read Tree.Message) (table table' a a' : List ℕ) (r : Result Cursor (Refused Refusal)) : Type 0 where
  pub answer : r ≡ cursor_of x
  pub filled :
      table' ≡ after (λ m. sets table (rows_held a * parameter_row_numbers) (descriptor_rows m.number 0 0 m.descriptors)) table' x
  pub held : messages_in a' ≡ after (λ m. messages_in a ++ (m ∷ [])) (messages_in a) x
  pub count : messages_held a' ≡ after (λ m. messages_held a + 1) (messages_held a) x
  pub holds : Holds a'

-- all messages of a request, their rows, and the array with them; after a refusal table and array are free
pub record ReadEach (x : Read (List Tree.Message)) (table table' a' : List ℕ) (r : Result Cursor (Refused Refusal)) : Type 0 where
  pub answer : r ≡ cursor_of x
  pub filled : table' ≡ after (λ ms. sets table 0 (parameter_rows ms)) table' x
  pub held : messages_in a' ≡ after (λ ms. ms) (messages_in a') x
  pub rows : rows_held a' ≡ after parameter_count (rows_held a') x
  pub holds : Holds a'

-- all messages of a request of a version, with their rows at the start of the table; after a refusal zeros alone, and no message. Of the
-- array's numbers it says what they stand for, and no more
pub record Declares (v : Version) (x : Read (List Tree.Message)) (table table' a' : List ℕ) (r : Result Cursor (Refused Refusal)) : Type 0 where
  pub answer : r ≡ cursor_of x
  pub filled : table' ≡ after (λ ms. sets table 0 (parameter_rows ms)) (replicate (length table) 0) x
  pub held : messages_in a' ≡ after (λ ms. ms) [] x
  pub rows : rows_held a' ≡ after parameter_count 0 x
  pub version : version_in a' ≡ v
