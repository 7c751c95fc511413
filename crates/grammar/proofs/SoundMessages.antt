-- Messages that were read: their bytes are those of the grammar, and they keep the rules of messages.
use Prim.Native.Nat.{ℕ, zero, suc, ◌+◌, ◌≤◌}
use mathlib.Core.Path.{◌≡◌, refl, sym, ap, subst, ◌∙◌}
use mathlib.Core.Bool.{Bool, true, false, not, ◌&&◌}
use mathlib.Core.List.{List, [], ◌∷◌, ◌++◌, append_assoc, append-nil, map-append}
use native.Mathlib.Omega.{arith}
use lib.ListN.{length, drop}
use lib.Dec.{eqb, leb}
use borrow.Author.Tests.{leb-true, not-true}
use Rattle.wire.specs.Codes as blr
use Rattle.wire.specs.Lists.{any_of, sum_of}
use Rattle.wire.specs.Words.{word_bytes}
use Rattle.wire.specs.Versions.{type_due}
use Rattle.wire.specs.declared.codes.Version.{Version}
use Rattle.wire.specs.declared.codes.Width.{Width}
use Rattle.wire.specs.declared.codes.DataType.{DataType}
use Rattle.wire.specs.declared.codes.DataType.TheVariants.{Number, Date, Chars}
use Rattle.dictionary.specs.Format.{held, scale_in_range, size_in_range}
use Rattle.grammar.specs.declared.Cursor.{Cursor}
use Rattle.grammar.specs.Tree.{Descriptor, Message}
use Rattle.grammar.specs.Bytes.{descriptor_bytes, descriptors_bytes, message_bytes, messages_bytes}
use Rattle.grammar.specs.Environment.{descriptor_format}
use Rattle.grammar.specs.Scope.{Unique, message_numbers}
use Rattle.grammar.specs.Sizes.{descriptors_size, message_size, parameter_count, DescriptorAllowed, DescriptorsAllowed, MessagesSized}
use Rattle.grammar.specs.Reader.{read, byte, word, peek, tested, coded}
use Rattle.grammar.specs.Messages.{scale_byte, size_word, descriptor_under, descriptor, descriptors, message, messages}
use Rattle.grammar.specs.Demands.{Octets}
use Rattle.grammar.proofs.Went.{Passed, undo, same, needed, either, both, tested-read, peek-read, stayed, onward, coded-onward, byte-went, word-went, peeked-went}
use Rattle.grammar.proofs.Unique.{unique-last, any-number}
use Rattle.grammar.proofs.Codes.{data_code, descriptor-due, coded-went}

module _ (s : List ℕ) (c : Cursor) {c' : Cursor} where
  pub scale-went : (w : Width) {x : ℕ} → scale_byte w s c ≡ read x c' → Passed s c (x ∷ []) c' × (scale_in_range w x ≡ true)
  unfolding scale_byte
  scale-went w e = let t = tested-read s c byte (scale_in_range w) _ e in (byte-went s c t.0, t.1)

  pub size-went : Octets s → {x : ℕ} → size_word s c ≡ read x c' → Passed s c (word_bytes x) c' × (size_in_range x ≡ true)
  unfolding size_word
  size-went octets e = let t = tested-read s c word size_in_range _ e in (word-went s c octets t.0, t.1)

-- ---- descriptors

-- what stands after the code k
pub record DescriptorUnderSound (v : Version) (k : DataType) (s : List ℕ) (c : Cursor) (d : Descriptor) (c' : Cursor) : Type 0 where
  pub went : Passed s c (drop 1 (descriptor_bytes d)) c'
  pub starts : descriptor_bytes d ≡ data_code k ∷ drop 1 (descriptor_bytes d)
  pub ranged : DescriptorAllowed v d

-- beside so many bytes of its message before it
pub record DescriptorSound (v : Version) (size : ℕ) (s : List ℕ) (c : Cursor) (d : Descriptor) (c' : Cursor) : Type 0 where
  pub went : Passed s c (descriptor_bytes d) c'
  pub ranged : DescriptorAllowed v d
  pub sized : size + held (descriptor_format d) ≤ 4096

-- the n descriptors of a message with so many bytes before them
pub record DescriptorsSound (v : Version) (n size : ℕ) (s : List ℕ) (c : Cursor) (ds : List Descriptor) (c' : Cursor) : Type 0 where
  pub went : Passed s c (descriptors_bytes ds) c'
  pub many : length ds ≡ n
  pub ranged : DescriptorsAllowed v ds
  pub sized : size ≤ 4096 → size + descriptors_size ds ≤ 4096

module _ (v : Version) (s : List ℕ) (octets : Octets s) where
  pub descriptor-under-sound : (k : DataType) (c : Cursor) (d : Descriptor) (c' : Cursor) → type_due v k ≡ true →
      descriptor_under k s c ≡ read d c' → DescriptorUnderSound v k s c d c'
  unfolding descriptor_under descriptor_bytes
  descriptor-under-sound (Number w) c d c' t h = undo (scale_byte w s c) _ h (λ x q e u.
      let i = scale-went s c w e in
      same u (λ d c'. DescriptorUnderSound v (Number w) s c d c') (record { went = i.0; starts = refl; ranged = (t, i.1) }))
  descriptor-under-sound Date c d c' t h =
      same h (λ d c'. DescriptorUnderSound v Date s c d c') (record { went = stayed s c; starts = refl; ranged = tt })
  descriptor-under-sound (Chars x) c d c' t h = undo (size_word s c) _ h (λ y q e u.
      let i = size-went s c octets e in
      same u (λ d c'. DescriptorUnderSound v (Chars x) s c d c') (record { went = i.0; starts = refl; ranged = i.1 }))

  pub descriptor-sound : (size : ℕ) (c : Cursor) (d : Descriptor) (c' : Cursor) → descriptor v size s c ≡ read d c' →
      DescriptorSound v size s c d c'
  unfolding descriptor
  descriptor-sound size c d c' h = undo (coded _ s c) _ h (λ k q e u. needed (type_due v k) _ _ _ _ _ u (λ t u₁.
      undo (descriptor_under k s q) _ u₁ (λ x q₁ e₁ u₂. needed (leb (size + held (descriptor_format x)) 4096) _ _ _ _ _ u₂ (λ b u₃.
      let i = descriptor-under-sound k q x q₁ t e₁ in
      same u₃ (λ d c'. DescriptorSound v size s c d c') (record {
        went = coded-onward (coded-went descriptor-due s c e) i.starts i.went;
        ranged = i.ranged;
        sized = leb-true _ _ b;
      })))))

  pub descriptors-sound : (n size : ℕ) (c : Cursor) (ds : List Descriptor) (c' : Cursor) → descriptors v n size s c ≡ read ds c' →
      DescriptorsSound v n size s c ds c'
  unfolding descriptors descriptors_bytes descriptors_size sum_of
  descriptors-sound zero size c ds c' h = same h (λ ds c'. DescriptorsSound v zero size s c ds c') (record {
    went = stayed s c;
    many = refl;
    ranged = tt;
    sized = λ k. omega arith;
  })
  descriptors-sound (suc n) size c ds c' h = undo (descriptor v size s c) _ h (λ d q e u.
      undo (descriptors v n (size + held (descriptor_format d)) s q) _ u (λ ds q₁ e₁ u₁.
      let i = descriptor-sound size c d q e in
      let j = descriptors-sound n (size + held (descriptor_format d)) q ds q₁ e₁ in
      same u₁ (λ ds c'. DescriptorsSound v (suc n) size s c ds c') (record {
        went = onward i.went j.went;
        many = ap suc j.many;
        ranged = (i.ranged, j.ranged);
        sized = λ k. omega (arith, j.sized i.sized);
      })))

-- ---- a message beside those before it

pub record MessageSound (v : Version) (before : List Message) (s : List ℕ) (c : Cursor) (m : Message) (c' : Cursor) : Type 0 where
  pub went : Passed s c (m.number ∷ word_bytes (length m.descriptors) ++ descriptors_bytes m.descriptors) c'
  pub fresh : any_of (λ x. eqb x.number m.number) before ≡ false
  pub few : length m.descriptors ≤ 128
  pub all-few : parameter_count before + length m.descriptors ≤ 256
  pub sized : message_size m ≤ 4096
  pub ranged : DescriptorsAllowed v m.descriptors

module _ (v : Version) (s : List ℕ) (octets : Octets s) where
  pub message-sound : (before : List Message) (c : Cursor) (m : Message) (c' : Cursor) → message v before s c ≡ read m c' →
      MessageSound v before s c m c'
  unfolding message message_size
  message-sound before c m c' h =
      undo (tested byte (λ m. not (any_of (λ x. eqb x.number m) before)) _ s c) _ h (λ k q e u.
      undo (tested word (λ n. leb n 128 && leb (parameter_count before + n) 256) _ s q) _ u (λ n q₁ e₁ u₁.
      undo (descriptors v n 0 s q₁) _ u₁ (λ ds q₂ e₂ u₂.
      let a = tested-read s c byte (λ m. not (any_of (λ x. eqb x.number m) before)) _ e in
      let b = tested-read s q word (λ n. leb n 128 && leb (parameter_count before + n) 256) _ e₁ in
      let t = both (leb n 128) (leb (parameter_count before + n) 256) b.1 in
      let i = descriptors-sound v s octets n 0 q₁ ds q₂ e₂ in
      same u₂ (λ m c'. MessageSound v before s c m c') (record {
        went = onward (byte-went s c a.0) (onward (rw (sym i.many) at (word-went s q octets b.0)) i.went);
        fresh = not-true _ a.1;
        few = omega (arith, leb-true n 128 t.0, i.many);
        all-few = omega (arith, leb-true (parameter_count before + n) 256 t.1, i.many);
        sized = omega (arith, i.sized (omega arith));
        ranged = i.ranged;
      }))))

-- ---- one message more at the end

module _ (v : Version) (m : Message) where
  sized-more : (ms : List Message) → length m.descriptors ≤ 128 → message_size m ≤ 4096 → DescriptorsAllowed v m.descriptors →
      MessagesSized v ms → MessagesSized v (ms ++ (m ∷ []))
  sized-more [] f z r k = (f, z, r, tt)
  sized-more (x ∷ ms) f z r k = (k.0, k.1, k.2, sized-more ms f z r k.3)

module _ (m : Message) where
  unique-more : (ms : List Message) → any_of (λ x. eqb x.number m.number) ms ≡ false → Unique (message_numbers ms) →
      Unique (message_numbers (ms ++ (m ∷ [])))
  unique-more ms a k = subst Unique (sym (map-append (λ x. x.number) ms (m ∷ [])))
      (unique-last (message_numbers ms) m.number (sym (any-number m.number ms) ∙ a) k)

  parameters-more : (ms : List Message) → parameter_count (ms ++ (m ∷ [])) ≡ parameter_count ms + length m.descriptors
  unfolding sum_of
  parameters-more [] = omega arith
  parameters-more (x ∷ ms) = omega (arith, parameters-more ms)

-- ---- messages

-- those that were read after the ones before, `few` at most
pub record MessagesSound (v : Version) (few : ℕ) (before : List Message) (s : List ℕ) (c : Cursor) (ms : List Message) (c' : Cursor) : Type 0 where
  pub next : List Message
  pub whole : ms ≡ before ++ next
  pub went : Passed s c (messages_bytes next) c'
  pub most : length next ≤ few
  pub sized : MessagesSized v before → MessagesSized v ms
  pub unique : Unique (message_numbers before) → Unique (message_numbers ms)
  pub parameters : parameter_count before ≤ 256 → parameter_count ms ≤ 256

no-message : (v : Version) (few : ℕ) (before : List Message) (s : List ℕ) (c : Cursor) → MessagesSound v few before s c before c
unfolding messages_bytes
no-message v few before s c = record {
  next = [];
  whole = sym (append-nil before);
  went = stayed s c;
  most = omega arith;
  sized = λ k. k;
  unique = λ k. k;
  parameters = λ k. k;
}

module _ (v : Version) (s : List ℕ) (octets : Octets s) where
  message-first : (few : ℕ) (before : List Message) (c q q₁ : Cursor) (m : Message) (ms : List Message) (c' : Cursor) →
      Passed s c (blr.message ∷ []) q → MessageSound v before s q m q₁ → MessagesSound v few (before ++ (m ∷ [])) s q₁ ms c' →
      MessagesSound v (suc few) before s c ms c'
  unfolding messages_bytes message_bytes
  message-first few before c q q₁ m ms c' g i j = record {
    next = m ∷ j.next;
    whole = j.whole ∙ append_assoc before (m ∷ []) j.next;
    went = onward (onward g i.went) j.went;
    most = omega (arith, j.most);
    sized = λ k. j.sized (sized-more v m before i.few i.sized i.ranged k);
    unique = λ k. j.unique (unique-more m before i.fresh k);
    parameters = λ k. j.parameters (omega (arith, i.all-few, parameters-more m before));
  }

  pub messages-sound : (few : ℕ) (before : List Message) (c : Cursor) (ms : List Message) (c' : Cursor) →
      messages v few before s c ≡ read ms c' → MessagesSound v few before s c ms c'
  unfolding messages
  messages-sound zero before c ms c' h = undo (tested peek _ _ s c) _ h (λ x q e u.
      let t = tested-read s c peek (λ x. not (eqb x blr.message)) _ e in
      same u (λ ms c'. MessagesSound v zero before s c ms c') (rw (peek-read s c t.0).0 (no-message v zero before s c)))
  messages-sound (suc k) before c ms c' h = undo (peek s c) _ h (λ x q e u.
      either (eqb x blr.message) _ _ s q u
      (λ t w. undo (byte s q) _ w (λ y q₁ e₁ w₁. undo (message v before s q₁) _ w₁ (λ m q₂ e₂ w₂.
      message-first k before c q₁ q₂ m ms c' (peeked-went s c x blr.message e t e₁) (message-sound v s octets before q₁ m q₂ e₂)
      (messages-sound k (before ++ (m ∷ [])) q₂ ms c' w₂))))
      (λ t w. same w (λ ms c'. MessagesSound v (suc k) before s c ms c') (rw (peek-read s c e).0 (no-message v (suc k) before s c))))
