-- 01: "A text's value is the part of the lent slice that holds it, without trailing blanks (a varying's follows its length word,
-- a cstring is first cut at its zero)."
use Rattle.std.specs.Prelude.{ℕ, zero, suc, ◌+◌, ◌-◌, cond, ◌&&◌, List, [], eqb, leb, take, drop, length, Option as Maybe, Some, None}
use Rattle.std.proofs.Math.Option.{Option, none, some}
use Rattle.wire.specs.Words.{byte_at, word_at}
use Rattle.wire.specs.Limits.{length_word}
use Rattle.wire.specs.Lists.{index_of}
use Rattle.wire.specs.declared.codes.TextType.{TextType}
use Rattle.wire.specs.declared.codes.TextType.TheVariants.{Text, Varying, Cstring}

-- where a text starts and ends in the bytes that hold it; a malformed one has no part
abbrev pub TextPart : Type 0
TextPart = Maybe (ℕ × ℕ)

abbrev pub blank : ℕ
blank = 32

-- how many of the n bytes from p on are left without the blanks at their end
unfoldable pub kept : List ℕ → ℕ → ℕ → ℕ
kept s p zero = 0
kept s p (suc n) = cond (eqb (byte_at s (p + n)) blank) (kept s p n) (suc n)

-- the part of n bytes at p without the blanks at its end: where it starts and ends
abbrev pub trimmed : List ℕ → ℕ → ℕ → TextPart
trimmed s p n = Some (p, p + kept s p n)

abbrev pub cut_at : List ℕ → Option ℕ → TextPart
cut_at s none = None
cut_at s (some k) = trimmed s 0 k

-- the part that is the text, of the bytes that a text holds; 23: "varying length above n, cstring without zero"
unfoldable pub text_part : TextType → List ℕ → TextPart
text_part Text s = trimmed s 0 (length s)
text_part Varying s =
    cond (leb length_word (length s) && leb (word_at s 0) (length s - length_word)) (trimmed s length_word (word_at s 0)) None
text_part Cstring s = cut_at s (index_of (λ x. eqb x 0) s)

-- the bytes of a part
abbrev pub part_of : List ℕ → ℕ → ℕ → List ℕ
part_of s start end = take (end - start) (drop start s)

-- the text itself; of a malformed one nothing
unfoldable pub bytes_of : List ℕ → TextPart → List ℕ
bytes_of s (Some (start, end)) = part_of s start end
bytes_of s None = []
