-- Readings from a place in the request end in the request: laws of the steps, and messages.
use Prim.Native.Nat.{ℕ, zero, suc, ◌+◌, ◌≤◌}
use mathlib.Core.Path.{◌≡◌, refl}
use mathlib.Core.Bool.{Bool, true, false, cond, ◌&&◌}
use mathlib.Core.List.{List, [], ◌∷◌, ◌++◌}
use native.Mathlib.Omega.{arith}
use lib.Dec.{eqb, leb, ltb}
use lib.ListN.{length}
use borrow.Author.Tests.{leb-true}
use Rattle.wire.specs.Codes as blr
use Rattle.wire.specs.Words.{byte_at, word_at}
use Rattle.wire.specs.Classes.{Class}
use Rattle.wire.specs.Versions.{type_due}
use Rattle.wire.specs.declared.codes.Version.{Version}
use Rattle.wire.specs.declared.codes.Width.{Width}
use Rattle.wire.specs.declared.codes.DataType.{DataType}
use Rattle.wire.specs.declared.codes.DataType.TheVariants.{Number, Date, Chars}
use Rattle.dictionary.specs.Format.{held, scale_in_range, size_in_range}
use Rattle.grammar.specs.declared.Refusal.{Refusal}
use Rattle.grammar.specs.declared.Cursor.{Cursor}
use Rattle.grammar.specs.Refusals.{number}
use Rattle.grammar.specs.Tree.{Message}
use Rattle.grammar.specs.Environment.{descriptor_format}
use Rattle.grammar.specs.Reader.{Read, read, refused, on_read, Reader, need, taken, byte, word, peek, name, tested, code, due, coded, count_statement, opened, noted}
use Rattle.grammar.specs.Messages.{scale_byte, size_word, descriptor_under, descriptor, descriptors, message, messages}

-- a refusal of a request, of its tables and its dictionary aside
abbrev pub OfRequest : Refusal → Type 0
OfRequest r = leb 4 (number r) && leb (number r) 16 ≡ true

-- a reading whose last place, or whose refusal's place, is in the request
pub data Bounded {A : Type 0} (s : List ℕ) : Read A → Type 0 where
  went : {a : A} {c : Cursor} → c.at ≤ length s → Bounded s (read a c)
  stopped : {r : Refusal} {p : ℕ} → OfRequest r → p ≤ length s → Bounded s (refused r p)

-- a reader that stays in the request
abbrev pub Stays : {A : Type 0} → List ℕ → Reader A → Type 0
Stays s m = (c : Cursor) → c.at ≤ length s → Bounded s (m s c)

-- ---- steps

infixr 10 ◌onward◌
-- one after another
pub ◌onward◌ : {A B : Type 0} {s : List ℕ} {x : Read A} {k : A → Cursor → Read B} → Bounded s x →
    ((a : A) (q : Cursor) → q.at ≤ length s → Bounded s (k a q)) → Bounded s (on_read x k)
(went {a} {c} h) onward f = f a c h
(stopped n h) onward f = stopped n h

module _ (s : List ℕ) where
  -- by a test
  pub need-bounded : (t : Bool) (r : Refusal) (p : ℕ) (c : Cursor) → OfRequest r → p ≤ length s → c.at ≤ length s →
      Bounded s (need t r p s c)
  need-bounded true r p c n h i = went i
  need-bounded false r p c n h i = stopped n h

  pub either-bounded : {A : Type 0} (t : Bool) (x y : Reader A) (c : Cursor) → Bounded s (x s c) → Bounded s (y s c) →
      Bounded s (cond t x y s c)
  either-bounded true x y c h i = h
  either-bounded false x y c h i = i

  pub by-test : {A : Type 0} (t : Bool) {x y : Read A} → (t ≡ true → Bounded s x) → Bounded s y → Bounded s (cond t x y)
  by-test true h i = h refl
  by-test false h i = i

  -- fields
  pub taken-stays : {A : Type 0} (n : ℕ) (f : List ℕ → ℕ → A) → Stays s (taken n f)
  unfolding taken number
  taken-stays n f c h =
      by-test (leb (c.at + n) (length s)) (λ t. went (leb-true (c.at + n) (length s) t)) (stopped refl (omega arith))

  pub byte-stays : Stays s byte
  byte-stays c h = taken-stays 1 byte_at c h

  pub peek-stays : Stays s peek
  unfolding peek number
  peek-stays c h = by-test (leb (c.at + 1) (length s)) (λ t. went h) (stopped refl (omega arith))

  pub tested_stays : {A : Type 0} (field : Reader A) (test : A → Bool) (r : Refusal) → OfRequest r → Stays s field →
      Stays s (tested field test r)
  unfolding tested
  tested_stays field test r n f c h = f c h onward λ x q i. need-bounded (test x) _ _ _ n h i onward λ u q₁ j. went j

  pub code_stays : (k : ℕ) (r : Refusal) → OfRequest r → Stays s (code k r)
  unfolding code
  code_stays k r n = tested_stays byte (eqb k) r n byte-stays

  due-bounded : {A : Type 0} (p : ℕ) (x : Class A) (c : Cursor) → p ≤ length s → c.at ≤ length s → Bounded s (due p x s c)
  unfolding number
  due-bounded p (Class.due x) c h i = went i
  due-bounded p Class.left_out c h i = stopped refl h
  due-bounded p Class.foreign c h i = stopped refl h

  pub coded-stays : {A : Type 0} (class : ℕ → Class A) → Stays s (coded class)
  unfolding coded
  coded-stays class c h = byte-stays c h onward λ x q i. due-bounded c.at (class x) q h i

  pub name-stays : Stays s name
  unfolding name
  name-stays c h = byte-stays c h onward λ n q i. taken-stays n _ q i

  pub word-stays : Stays s word
  word-stays c h = taken-stays 2 word_at c h

  -- what is counted, whose code stands at p
  pub counted-stays : (p : ℕ) → p ≤ length s → Stays s (count_statement p)
  unfolding count_statement number
  counted-stays p i c h = by-test (ltb c.statements 512) (λ t. went h) (stopped refl i)

  pub opened-stays : (p : ℕ) → p ≤ length s → Stays s (opened p)
  unfolding opened number
  opened-stays p i c h = by-test (ltb c.contexts 32) (λ t. went h) (stopped refl i)

  pub noted-stays : (n : ℕ) → Stays s (noted n)
  unfolding noted
  noted-stays n c h = went h

  -- ---- messages

  pub scale-stays : (w : Width) → Stays s (scale_byte w)
  unfolding scale_byte number
  scale-stays w = tested_stays byte (scale_in_range w) _ refl byte-stays

  pub size-stays : Stays s size_word
  unfolding size_word number
  size-stays = tested_stays word size_in_range _ refl word-stays

  descriptor-under-stays : (k : DataType) → Stays s (descriptor_under k)
  unfolding descriptor_under
  descriptor-under-stays (Number w) c h = scale-stays w c h onward λ x q i. went i
  descriptor-under-stays Date c h = went h
  descriptor-under-stays (Chars t) c h = size-stays c h onward λ x q i. went i

  module _ (v : Version) where
    descriptor-stays : (size : ℕ) → Stays s (descriptor v size)
    unfolding descriptor number
    descriptor-stays size c h = coded-stays _ c h onward λ t q i. need-bounded (type_due v t) _ _ _ refl h i onward λ u q₁ i₁.
        descriptor-under-stays t q₁ i₁ onward λ d q₂ i₂.
        need-bounded (leb (size + held (descriptor_format d)) 4096) _ _ _ refl h i₂ onward λ u q₃ i₃. went i₃

    descriptors-stays : (n size : ℕ) → Stays s (descriptors v n size)
    unfolding descriptors
    descriptors-stays zero size c h = went h
    descriptors-stays (suc n) size c h = descriptor-stays size c h onward λ d q i.
        descriptors-stays n (size + held (descriptor_format d)) q i onward λ ds q₁ i₁. went i₁

    message-stays : (ms : List Message) → Stays s (message v ms)
    unfolding message number
    message-stays ms c h = tested_stays byte _ _ refl byte-stays c h onward λ m q i.
        tested_stays word _ _ refl word-stays q i onward λ n q₁ i₁. descriptors-stays n 0 q₁ i₁ onward λ ds q₂ i₂. went i₂

    pub messages-stays : (k : ℕ) (ms : List Message) → Stays s (messages v k ms)
    unfolding messages number
    messages-stays zero ms c h = tested_stays peek _ _ refl peek-stays c h onward λ x q i. went i
    messages-stays (suc k) ms c h = peek-stays c h onward λ x q i. either-bounded (eqb x blr.message) _ _ q
        (byte-stays q i onward λ y q₁ i₁. message-stays ms q₁ i₁ onward λ m q₂ i₂. messages-stays k (ms ++ (m ∷ [])) q₂ i₂)
        (went i)
