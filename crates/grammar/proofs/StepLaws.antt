-- The code's answers taken apart: what was read, or the refusal.
use Prim.Native.Nat.{ℕ, ◌+◌}
use mathlib.Core.Path.{◌≡◌, refl, sym, ap, subst, ◌∙◌}
use mathlib.Core.Bool.{Bool, true, false, cond}
use mathlib.Core.List.{List}
use mathlib.Core.Option.{Option, none, some}
use lib.Dec.{leb}
use lib.ListN.{length}
use native.Mathlib.Omega.{arith}
use Rattle.std.specs.Prelude.{Result, Ok, Err}
use Rattle.wire.specs.Words.{byte_at}
use Rattle.wire.specs.Options.{refused_at}
use Rattle.wire.specs.declared.refused.Refused.{Refused}
use Rattle.wire.specs.declared.numbers.ContextNumber.{ContextNumber}
use Rattle.wire.specs.declared.numbers.MessageNumber.{MessageNumber}
use Rattle.wire.specs.declared.numbers.LabelNumber.{LabelNumber}
use Rattle.grammar.specs.declared.Refusal.{Refusal}
use Rattle.grammar.specs.declared.Refusal.TheVariants.{EndsEarly}
use Rattle.grammar.specs.declared.Cursor.{Cursor}
use Rattle.grammar.specs.Reader.{Read, read, refused, on, taken, peek}
use Rattle.grammar.specs.Internal.Steps.{answer_of, cursor_of, same}

pub absurd-eq : {A : Type 0} → ◌≡◌ {A = ℕ} 0 1 → A
absurd-eq z = absurd (omega arith)

-- ---- an answer

-- an answer back to the reading
abbrev pub read_of : {A : Type 0} → Result (A × Cursor) (Refused Refusal) → Read A
read_of (Ok y) = read y.0 y.1
read_of (Err y) = refused y.refusal y.place

abbrev pub passed_of : Result Cursor (Refused Refusal) → Read (Unit {0})
passed_of (Ok q) = read tt q
passed_of (Err y) = refused y.refusal y.place

-- an answer without its thing
abbrev pub passed_in : {A : Type 0} → Result (A × Cursor) (Refused Refusal) → Result Cursor (Refused Refusal)
passed_in (Ok y) = Ok y.1
passed_in (Err y) = Err y

module _ {A B : Type 0} (f : A → B) where
  pub answer-read : (x : Read A) {b : B} {q : Cursor} → Ok (b, q) ≡ answer_of f x → (a : A) × (x ≡ read a q) × (b ≡ f a)
  answer-read (read a c) {b} {q} e =
      let w : read b q ≡ read (f a) c = ap read_of e in
      (a, cc, cc)
  answer-read (refused r p) e = absurd-eq (cc)

  pub answer-refused : (x : Read A) {y : Refused Refusal} → Err y ≡ answer_of f x → x ≡ refused y.refusal y.place
  answer-refused (read a c) e = absurd-eq (cc)
  answer-refused (refused r p) {y} e =
      let w : refused r p ≡ refused y.refusal y.place = ap passed_of (ap passed_in (sym e)) in
      cc

module _ {A : Type 0} where
  pub cursor-read : (x : Read A) {q : Cursor} → Ok q ≡ cursor_of x → (a : A) × (x ≡ read a q)
  cursor-read (read a c) e = (a, cc)
  cursor-read (refused r p) e = absurd-eq (cc)

  pub cursor-refused : (x : Read A) {y : Refused Refusal} → Err y ≡ cursor_of x → x ≡ refused y.refusal y.place
  cursor-refused (read a c) e = absurd-eq (cc)
  cursor-refused (refused r p) {y} e =
      let w : refused r p ≡ refused y.refusal y.place = ap passed_of (sym e) in
      cc

  same-back : (x : Read A) → x ≡ read_of (answer_of same x)
  same-back (read a c) = refl
  same-back (refused r p) = refl

  pub same-read : (x : Read A) {a : A} {q : Cursor} → Ok (a, q) ≡ answer_of same x → x ≡ read a q
  same-read x e = same-back x ∙ ap read_of (sym e)

-- what was read is the byte of the number
module _ {N : Type 0} (f : ℕ → N) (g : N → ℕ) (back : (n : ℕ) → n ≡ g (f n)) where
  number-back : (x : Read ℕ) {n : N} {q : Cursor} → Ok (n, q) ≡ answer_of f x → x ≡ read (g n) q
  number-back (read k c) {n} {q} e =
      let w : read n q ≡ read (f k) c = ap read_of e in
      let h : n ≡ f k = cc in
      let l : k ≡ g n = back k ∙ ap g (sym h) in
      cc
  number-back (refused r p) e = absurd-eq (cc)

pub context-read : (x : Read ℕ) {n : ContextNumber} {q : Cursor} → Ok (n, q) ≡ answer_of (λ k. record { 0 = k }) x → x ≡ read n.0 q
context-read x e = number-back (λ k. record { 0 = k }) (λ n. n.0) (λ n. refl) x e

pub message-read : (x : Read ℕ) {n : MessageNumber} {q : Cursor} → Ok (n, q) ≡ answer_of (λ k. record { 0 = k }) x → x ≡ read n.0 q
message-read x e = number-back (λ k. record { 0 = k }) (λ n. n.0) (λ n. refl) x e

pub label-read : (x : Read ℕ) {n : LabelNumber} {q : Cursor} → Ok (n, q) ≡ answer_of (λ k. record { 0 = k }) x → x ≡ read n.0 q
label-read x e = number-back (λ k. record { 0 = k }) (λ n. n.0) (λ n. refl) x e

-- ---- a field that stands whole, and one that does not

module _ {A : Type 0} (n : ℕ) (f : List ℕ → ℕ → A) (s : List ℕ) (c : Cursor) where
  pub taken-whole : leb (c.at + n) (length s) ≡ true → taken n f s c ≡ read (f s c.at) (on c n)
  unfolding taken
  taken-whole h = rw (taken, h)

  pub taken-cut : leb (c.at + n) (length s) ≡ false → taken n f s c ≡ refused EndsEarly (length s)
  unfolding taken
  taken-cut h = rw (taken, h)

module _ (s : List ℕ) (c : Cursor) where
  pub peek-here : leb (c.at + 1) (length s) ≡ true → peek s c ≡ read (byte_at s c.at) c
  unfolding peek
  peek-here h = rw (peek, h)

  pub peek-past : leb (c.at + 1) (length s) ≡ false → peek s c ≡ refused EndsEarly (length s)
  unfolding peek
  peek-past h = rw (peek, h)
