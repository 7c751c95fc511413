-- A descriptor in one number, and the parameters of a message in the array. Assumes nothing.
use Prim.Native.Nat.{ℕ, zero, suc, ◌+◌, ◌%◌, ◌/◌, ◌≤◌, ◌<◌}
use mathlib.Core.Path.{◌≡◌, refl, ap, ◌∙◌}
use mathlib.Core.List.{List}
use mathlib.Core.Option.{none, some}
use native.Mathlib.Nat.{add-zero}
use native.Mathlib.Omega.{arith}
use borrow.Author.Tests.{lt-ltb, le-ltb}
use lib.ListN.{get_or, get_elem?}
use Rattle.wire.specs.Words.{byte_at}
use Rattle.wire.specs.Limits.{max_messages, max_parameters}
use Rattle.wire.specs.declared.codes.Width.TheVariants.{Short, Long, Int64}
use Rattle.wire.specs.declared.codes.TextType.TheVariants.{Text, Varying, Cstring}
use Rattle.dictionary.specs.Format.{held}
use Rattle.grammar.specs.Tree as Tree
use Rattle.grammar.specs.Bytes.{descriptor_bytes}
use Rattle.grammar.specs.Kinds.{format_kind}
use Rattle.grammar.specs.Environment.{descriptor_format}
use Rattle.std.specs.Prelude.{Some, None}
use Rattle.grammar.specs.declared.Kind.TheVariants as Kind
use Rattle.grammar.specs.Internal.Steps.{fit_of}
use Rattle.scopes.specs.Scopes.{each_from}
use Rattle.messages.specs.Internal.Columns.{descriptors_from}
use Rattle.messages.specs.Entries.{packed, described_by, descriptor_of, descriptor_at, message_in, message_at, parameter_kind}

-- ---- a descriptor in one number

-- the number taken apart
pub unpacked : (code scale held : ℕ) → code < 256 → scale < 256 →
    (packed code scale held % 256 ≡ code) × (packed code scale held / 256 % 256 ≡ scale) × (packed code scale held / 65536 ≡ held)
unpacked code scale held h k = (omega arith, omega arith, omega arith)

described-code : (d : Tree.Descriptor) → byte_at (descriptor_bytes d) 0 < 256
unfolding descriptor_bytes
described-code (Tree.Descriptor.number Short scale) = omega arith
described-code (Tree.Descriptor.number Long scale) = omega arith
described-code (Tree.Descriptor.number Int64 scale) = omega arith
described-code Tree.Descriptor.date = omega arith
described-code (Tree.Descriptor.text Text n) = omega arith
described-code (Tree.Descriptor.text Varying n) = omega arith
described-code (Tree.Descriptor.text Cstring n) = omega arith

described : (d : Tree.Descriptor) → described_by (byte_at (descriptor_bytes d) 0) (descriptor_format d).scale (held (descriptor_format d)) ≡ d
unfolding described_by descriptor_bytes descriptor_format held
described (Tree.Descriptor.number Short scale) = refl
described (Tree.Descriptor.number Long scale) = refl
described (Tree.Descriptor.number Int64 scale) = refl
described Tree.Descriptor.date = refl
described (Tree.Descriptor.text Text n) = refl
described (Tree.Descriptor.text Varying n) = ap (Tree.Descriptor.text Varying) (omega arith)
described (Tree.Descriptor.text Cstring n) = refl

-- the number of a descriptor
abbrev pub number_of : Tree.Descriptor → ℕ
number_of d = packed (byte_at (descriptor_bytes d) 0) (descriptor_format d).scale (held (descriptor_format d))

-- it stands for the descriptor
pub packed-descriptor : (d : Tree.Descriptor) → (descriptor_format d).scale < 256 → descriptor_of (number_of d) ≡ d
unfolding descriptor_of
packed-descriptor d h =
    let u = unpacked (byte_at (descriptor_bytes d) 0) (descriptor_format d).scale (held (descriptor_format d)) (described-code d) h in
    rw (descriptor_of, u.0, u.1, u.2) (described d)

-- ---- an element of f of each of so many numbers

module _ {A : Type 0} (f : ℕ → A) where
  each-past : (n i j : ℕ) → n ≤ j → get_elem? (each_from f i n) j ≡ none
  unfolding each_from
  each-past zero i j h = refl
  each-past (suc n) i zero h = absurd (omega arith)
  each-past (suc n) i (suc j) h = each-past n (i + 1) j (omega arith)

  each-among : (n i j : ℕ) → j < n → get_elem? (each_from f i n) j ≡ some (f (i + j))
  unfolding each_from
  each-among zero i j h = absurd (omega arith)
  each-among (suc n) i zero h = rw (add-zero i)
  each-among (suc n) i (suc j) h =
      let e : i + 1 + j ≡ i + suc j = omega arith in
      each-among n (i + 1) j (omega arith) ∙ rw e

-- ---- the kind of a parameter

module _ (a : List ℕ) (message i : ℕ) where
  pub no-message : max_messages ≤ message → None ≡ fit_of (parameter_kind a (message_at a message) i)
  unfolding parameter_kind each_from
  no-message h = rw (le-ltb message max_messages h)

  module _ (within : message < max_messages) where
    pub no-parameter : (message_in a message).parameters ≤ i → None ≡ fit_of (parameter_kind a (message_at a message) i)
    unfolding parameter_kind
    no-parameter h =
        rw (
          lt-ltb message max_messages within,
          each-past (descriptor_at a) (message_in a message).parameters (message_in a message).first i h,
        )

    module _ (h : i < (message_in a message).parameters) where
      pub parameter-past : max_parameters ≤ (message_in a message).first + i → Some Kind.Date ≡ fit_of (parameter_kind a (message_at a message) i)
      unfolding parameter_kind descriptor_at descriptor_format format_kind
      parameter-past k =
          rw (
            lt-ltb message max_messages within,
            each-among (descriptor_at a) (message_in a message).parameters (message_in a message).first i h,
            le-ltb ((message_in a message).first + i) max_parameters k,
          )

      pub parameter-row : (message_in a message).first + i < max_parameters →
          Some (format_kind (descriptor_format (descriptor_of (get_or a (descriptors_from + ((message_in a message).first + i)) 0)))) ≡
          fit_of (parameter_kind a (message_at a message) i)
      unfolding parameter_kind descriptor_at
      parameter-row k =
          rw (
            lt-ltb message max_messages within,
            each-among (descriptor_at a) (message_in a message).parameters (message_in a message).first i h,
            lt-ltb ((message_in a message).first + i) max_parameters k,
          )
