-- Literals as steps: bytes that are skipped are a number's or a text's. Assumes nothing.
use Prim.Native.Nat.{ℕ, ◌+◌}
use mathlib.Core.Path.{◌≡◌, refl, ap, ◌∙◌}
use mathlib.Core.Bool.{Bool, true, false}
use mathlib.Core.List.{List}
use lib.Dec.{leb}
use lib.ListN.{length, take, drop}
use Rattle.wire.specs.Words.{signed, word_at, long_at, int64_at}
use Rattle.wire.specs.declared.codes.Width.{Width}
use Rattle.wire.specs.declared.codes.Width.TheVariants.{Short, Long, Int64}
use Rattle.wire.specs.declared.codes.LiteralType.TheVariants.{NumberLiteral}
use Rattle.dictionary.specs.Format.{width_bytes}
use Rattle.grammar.specs.declared.Refusal.{Refusal}
use Rattle.grammar.specs.declared.Refusal.TheVariants.{EndsEarly}
use Rattle.grammar.specs.declared.Cursor.{Cursor}
use Rattle.std.specs.Prelude.{Result, Ok, Err, Some}
use Rattle.wire.specs.declared.refused.Refused.{Refused}
use Rattle.grammar.specs.Kinds.{literal_kind}
use Rattle.grammar.specs.Reader.{read, refused, on, taken, bytes}
use Rattle.grammar.specs.declared.Kind.TheVariants as Kind
use Rattle.grammar.specs.Messages.{scale_byte}
use Rattle.grammar.specs.Values.{number_of, literal_under}
use Rattle.grammar.specs.Internal.Steps.{answer_of, cursor_of}
use Rattle.grammar.proofs.StepLaws.{absurd-eq, passed_of, taken-whole, taken-cut}
use Rattle.references.specs.Promises.{literal_fit}

-- a field of n bytes stands whole or not, whatever is read of it
module _ {A B : Type 0} (n : ℕ) (f : List ℕ → ℕ → A) (g : List ℕ → ℕ → B) (s : List ℕ) (c : Cursor) where
  abbrev skipped : Result Cursor (Refused Refusal)
  skipped = cursor_of (taken n g s c)

  whole_by : (b : Bool) → leb (c.at + n) (length s) ≡ b → {q : Cursor} → Ok q ≡ skipped → taken n f s c ≡ read (f s c.at) q
  whole_by true h {q} e =
      let z : Ok q ≡ cursor_of (read (g s c.at) (on c n)) = e ∙ ap cursor_of (taken-whole n g s c h) in
      let w : taken n f s c ≡ read (f s c.at) (on c n) = taken-whole n f s c h in
      cc
  whole_by false h {q} e =
      let z : Ok q ≡ cursor_of {A = B} (refused EndsEarly (length s)) = e ∙ ap cursor_of (taken-cut n g s c h) in
      absurd-eq (cc)

  cut_by : (b : Bool) → leb (c.at + n) (length s) ≡ b → {y : Refused Refusal} → Err y ≡ skipped → taken n f s c ≡ refused y.refusal y.place
  cut_by true h {y} e =
      let z : Err y ≡ cursor_of (read (g s c.at) (on c n)) = e ∙ ap cursor_of (taken-whole n g s c h) in
      absurd-eq (cc)
  cut_by false h {y} e =
      let z : Err y ≡ cursor_of {A = B} (refused EndsEarly (length s)) = e ∙ ap cursor_of (taken-cut n g s c h) in
      let u : refused y.refusal y.place ≡ refused EndsEarly (length s) = ap passed_of z in
      let w : taken n f s c ≡ refused EndsEarly (length s) = taken-cut n f s c h in
      cc

  pub whole : {q : Cursor} → Ok q ≡ skipped → taken n f s c ≡ read (f s c.at) q
  whole e = whole_by (leb (c.at + n) (length s)) refl e

  pub cut : {y : Refused Refusal} → Err y ≡ skipped → taken n f s c ≡ refused y.refusal y.place
  cut e = cut_by (leb (c.at + n) (length s)) refl e

-- a number of a width
module _ (s : List ℕ) (c : Cursor) where
  number_read : (w : Width) {q : Cursor} → Ok q ≡ cursor_of (bytes (width_bytes w) s c) → (n : ℕ) × (number_of w s c ≡ read n q)
  number_read Short e = (word_at s c.at, whole 2 word_at (λ s p. take 2 (drop p s)) s c e)
  number_read Long e = (long_at s c.at, whole 4 long_at (λ s p. take 4 (drop p s)) s c e)
  number_read Int64 e = (int64_at s c.at, whole 8 int64_at (λ s p. take 8 (drop p s)) s c e)

  number-refused : (w : Width) {y : Refused Refusal} → Err y ≡ cursor_of (bytes (width_bytes w) s c) → number_of w s c ≡ refused y.refusal y.place
  number-refused Short e = cut 2 word_at (λ s p. take 2 (drop p s)) s c e
  number-refused Long e = cut 4 long_at (λ s p. take 4 (drop p s)) s c e
  number-refused Int64 e = cut 8 int64_at (λ s p. take 8 (drop p s)) s c e

-- ---- literals

module _ (w : Width) (s : List ℕ) (c : Cursor) where
  pub number-scale-refused : {y : Refused Refusal} → scale_byte w s c ≡ refused y.refusal y.place →
      answer_of literal_fit (literal_under (NumberLiteral w) s c) ≡ Err y
  unfolding literal_under
  number-scale-refused h = rw (literal_under, h)

  module _ {scale : ℕ} {first : Cursor} (h : scale_byte w s c ≡ read scale first) where
    pub number_is : {q : Cursor} → Ok q ≡ cursor_of (bytes (width_bytes w) s first) →
        answer_of literal_fit (literal_under (NumberLiteral w) s c) ≡ Ok (Some (Kind.Number (signed 1 scale)), q)
    unfolding literal_under literal_kind
    number_is e = let (n, is) = number_read s first w e in rw (literal_under, h, is)

    pub number_cut : {y : Refused Refusal} → Err y ≡ cursor_of (bytes (width_bytes w) s first) →
        answer_of literal_fit (literal_under (NumberLiteral w) s c) ≡ Err y
    unfolding literal_under
    number_cut e = rw (literal_under, h, number-refused s first w e)
