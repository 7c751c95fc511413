-- What the text reader promises.
use Rattle.std.specs.Prelude.{ℕ, ◌≤◌, ◌≡◌, List, length, Some, None}
use Rattle.wire.specs.declared.codes.TextType.{TextType}
use Rattle.text.specs.Value.{TextPart, text_part, bytes_of}

-- a part that starts and ends within n bytes
abbrev pub Within : ℕ → TextPart → Type 0
Within n (Some (start, end)) = (start ≤ end) × (end ≤ n)
Within n None = Unit {0}

-- r is the text in the bytes s: what stands from the start to the end that text_part gives, and both lie in s
pub record TextRead (t : TextType) (s r : List ℕ) : Type 0 where
  pub bytes : r ≡ bytes_of s (text_part t s)
  pub within : Within (length s) (text_part t s)
