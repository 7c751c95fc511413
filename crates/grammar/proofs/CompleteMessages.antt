-- The bytes of messages that the rules allow are read as those messages.
use Prim.Native.Nat.{ℕ, zero, suc, ◌+◌, ◌≤◌}
use mathlib.Core.Path.{◌≡◌, refl, sym, ap, subst, ◌∙◌}
use mathlib.Core.Bool.{true, false, not, ◌&&◌}
use mathlib.Core.List.{List, [], ◌∷◌, ◌++◌, append_assoc, append-nil, map-append}
use native.Mathlib.Omega.{arith}
use lib.Dec.{eqb, leb}
use lib.ListN.{length, drop}
use borrow.Author.Tests.{le-leb}
use Rattle.wire.specs.Codes as blr
use Rattle.wire.specs.Words.{word_bytes}
use Rattle.wire.specs.Lists.{any_of, sum_of}
use Rattle.wire.specs.Classes.{descriptor_class, classify}
use Rattle.wire.specs.declared.codes.Version.{Version}
use Rattle.wire.specs.declared.codes.Width.{Width}
use Rattle.wire.specs.declared.codes.DataType.TheVariants.{Number, Date, Chars}
use Rattle.dictionary.specs.Format.{held, scale_in_range, size_in_range}
use Rattle.grammar.specs.declared.Refusal.TheVariants.{OutOfRange, BadMessage, TooGreat}
use Rattle.grammar.specs.declared.Cursor.{Cursor}
use Rattle.grammar.specs.Tree.{Descriptor, Message}
use Rattle.grammar.specs.Bytes.{width_code, text_code, descriptor_bytes, descriptors_bytes, message_bytes, messages_bytes}
use Rattle.grammar.specs.Environment.{descriptor_format}
use Rattle.grammar.specs.Scope.{Unique, message_numbers}
use Rattle.grammar.specs.Sizes.{descriptors_size, message_size, parameter_count, DescriptorAllowed, DescriptorsAllowed, MessagesSized}
use Rattle.grammar.specs.Reader.{read, tested}
use Rattle.grammar.specs.Messages.{scale_byte, size_word, descriptor_under, descriptor, descriptors, message, messages}
use Rattle.grammar.proofs.Found.{Found, along, byte-found, peek-found, Other, peek-other}
use Rattle.grammar.proofs.Parts.{Reads, at_once, alone, in-turn, three-in-turn, byte_reads, word-reads, coded-reads, tested_reads}
use Rattle.grammar.proofs.Unique.{Fresh, unique-after, any-number}
use Rattle.grammar.proofs.Due.{width-due, text-due}

-- ---- descriptors

module _ {s : List ℕ} where
  pub scale-reads : (w : Width) (scale : ℕ) → scale_in_range w scale ≡ true → Reads s (scale_byte w) (scale ∷ []) scale 0 0
  unfolding scale_byte
  scale-reads w scale r = tested_reads (scale_in_range w) OutOfRange (byte_reads scale) r

  pub size-reads : (n : ℕ) → size_in_range n ≡ true → Reads s size_word (word_bytes n) n 0 0
  unfolding size_word
  size-reads n r = tested_reads size_in_range OutOfRange (word-reads n) r

  -- a descriptor of a message that has so many bytes before it
  descriptor-reads : (v : Version) (d : Descriptor) (size : ℕ) → DescriptorAllowed v d → size + held (descriptor_format d) ≤ 4096 →
      Reads s (descriptor v size) (descriptor_bytes d) d 0 0
  unfolding descriptor descriptor_under descriptor_bytes descriptor_class classify
  descriptor-reads v (Descriptor.number w scale) size r l =
      in-turn (coded-reads descriptor_class (width_code w) (Number w) (width-due w)) (scale-reads w scale r.1)
      (λ c q z rest h a i b. rw (descriptor, a, r.0, b, le-leb _ 4096 l)) refl refl
  descriptor-reads v Descriptor.date size r l =
      alone (coded-reads descriptor_class blr.date Date refl) (λ c q rest h a. rw (descriptor, a, le-leb _ 4096 l))
  descriptor-reads v (Descriptor.text t n) size r l =
      in-turn (coded-reads descriptor_class (text_code t) (Chars t) (text-due t)) (size-reads n r)
      (λ c q r rest h a i b. rw (descriptor, a, b, le-leb _ 4096 l)) refl refl

  descriptors-read : (v : Version) (ds : List Descriptor) (size : ℕ) → DescriptorsAllowed v ds → size + descriptors_size ds ≤ 4096 →
      Reads s (descriptors v (length ds) size) (descriptors_bytes ds) ds 0 0
  unfolding descriptors descriptors_bytes descriptors_size sum_of
  descriptors-read v [] size r l = at_once (λ c. refl)
  descriptors-read v (d ∷ ds) size r l =
      in-turn (descriptor-reads v d size r.0 (omega arith)) (descriptors-read v ds (size + held (descriptor_format d)) r.1 (omega arith))
      (λ c q r rest h a i b. rw (descriptors, a, b)) refl refl

-- ---- messages

-- what stands after a message's code
after_code : Message → List ℕ
after_code m = m.number ∷ word_bytes (length m.descriptors) ++ descriptors_bytes m.descriptors

-- a message after its code, beside those before it
message-reads : (v : Version) (s : List ℕ) (ms : List Message) (m : Message) → any_of (λ x. eqb x.number m.number) ms ≡ false →
    length m.descriptors ≤ 128 → parameter_count ms + length m.descriptors ≤ 256 → message_size m ≤ 4096 →
    DescriptorsAllowed v m.descriptors → Reads s (message v ms) (after_code m) m 0 0
unfolding message message_size after_code
message-reads v s ms m w n k l r =
    let ds = m.descriptors in
    let t : leb (length ds) 128 && leb (parameter_count ms + length ds) 256 ≡ true =
    rw (le-leb (length ds) 128 n, le-leb (parameter_count ms + length ds) 256 k) in
    three-in-turn (tested_reads (λ x. not (any_of (λ y. eqb y.number x) ms)) BadMessage (byte_reads m.number) (ap not w))
    (tested_reads (λ x. leb x 128 && leb (parameter_count ms + x) 256) TooGreat (word-reads (length ds)) t)
    (descriptors-read v ds 0 r (omega arith))
    (λ c q r t rest a b h d. rw (message, a, b, d)) refl refl

sum-last : {A : Type 0} (f : A → ℕ) (l : List A) (x : A) → sum_of f (l ++ (x ∷ [])) ≡ sum_of f l + f x
unfolding sum_of
sum-last f [] x = omega arith
sum-last f (y ∷ l) x = omega (arith, sum-last f l x)

none_found : (v : Version) (s : List ℕ) (c : Cursor) {rest : List ℕ} (k : ℕ) (ms : List Message) → Other blr.message rest → drop c.at s ≡ rest →
    messages v k ms s c ≡ read ms c
unfolding messages tested
none_found v s c zero ms o h = let p = peek-other s c blr.message h o in rw (messages, tested, p.1, p.2)
none_found v s c (suc k) ms o h = let p = peek-other s c blr.message h o in rw (messages, p.1, p.2)

-- the cursor has room for what counts nothing
abbrev pub Room : Cursor → Type 0
Room c = (c.statements ≤ 512) × (c.contexts ≤ 32)

-- a message and those after it
more-found : {xs more rest : List ℕ} {m : Message} {all : List Message} (v : Version) (s : List ℕ) (c : Cursor) (k : ℕ) (ms : List Message) →
    Room c → drop c.at s ≡ blr.message ∷ (xs ++ more) → Reads s (message v ms) xs m 0 0 →
    ((q : Cursor) → Room q → drop q.at s ≡ more → Found (messages v k (ms ++ (m ∷ []))) s q all 0 0 rest) →
    Found (messages v (suc k) ms) s c all 0 0 rest
unfolding messages
more-found v s c k ms w h f g =
    let a = byte-found s c blr.message h in
    let b = f.from a.after (omega arith) (omega arith) a.stands in
    let e = g b.after (omega arith) b.stands in
    along {q = b.after} e (rw (messages, peek-found s c blr.message h, a.is, b.is, e.is)) (omega arith) (omega arith)

-- messages up to another code, beside those before them
messages-on : (v : Version) (s : List ℕ) (rest : List ℕ) → Other blr.message rest → (ms before : List Message) (k : ℕ) (c : Cursor) →
    Room c → Fresh (message_numbers before) (message_numbers ms) → MessagesSized v ms → length ms ≤ k →
    parameter_count before + parameter_count ms ≤ 256 → drop c.at s ≡ messages_bytes ms ++ rest →
    Found (messages v k before) s c (before ++ ms) 0 0 rest
unfolding messages_bytes message_bytes sum_of after_code
messages-on v s rest o [] before k c y w z l n h =
    record { after = c; is = rw append-nil (none_found v s c k before o h); stands = h; statements = omega arith; contexts = omega arith }
messages-on v s rest o (m ∷ ms) before zero c y w z l n h = absurd (omega arith)
messages-on v s rest o (m ∷ ms) before (suc k) c y w z l n h =
    more-found v s c k before y (h ∙ append_assoc (message_bytes m) (messages_bytes ms) rest)
    (message-reads v s before m (any-number m.number before ∙ w.0) z.0 (omega arith) z.1 z.2) (λ q y i.
    rw append_assoc at (messages-on v s rest o ms (before ++ (m ∷ [])) k q y
    (subst (λ l. Fresh l (message_numbers ms)) (sym (map-append (λ x. x.number) before (m ∷ []))) w.1) z.3 (omega arith) (omega (arith, sum-last (λ x. length x.descriptors) before m)) i))

pub messages-found : (v : Version) (s : List ℕ) (c : Cursor) {rest : List ℕ} (ms : List Message) → Room c → Other blr.message rest → Unique (message_numbers ms) →
    MessagesSized v ms → length ms ≤ 16 → parameter_count ms ≤ 256 → drop c.at s ≡ messages_bytes ms ++ rest →
    Found (messages v 16 []) s c ms 0 0 rest
unfolding sum_of
messages-found v s c {rest} ms y o w z l n h =
    messages-on v s rest o ms [] 16 c y (unique-after [] (message_numbers ms) w) z l (omega arith) h
