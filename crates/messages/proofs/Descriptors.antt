-- Reading descriptors, each way through it, their rows, and what the array holds of them. Assumes nothing.
use Prim.Native.Nat.{ℕ, zero, suc, ◌+◌, ◌-◌, ◌*◌, ◌≤◌, ◌<◌}
use mathlib.Core.Path.{◌≡◌, refl, sym, ap₂, ◌∙◌}
use mathlib.Core.Bool.{true}
use mathlib.Core.List.{List, ◌∷◌}
use native.Mathlib.Numerals.{sub-one}
use native.Mathlib.Omega.{arith}
use borrow.Author.Tests.{le-leb, leb-true, lt-ltb}
use lib.Dec.{leb}
use lib.ListN.{length, get_or, length-set}
use lib.Seq.{sets, get_or-set_same, get_or-set_other}
use Rattle.std.specs.Prelude.{Result, Ok, Err}
use Rattle.wire.specs.Words.{byte_at}
use Rattle.wire.specs.declared.refused.Refused.{Refused}
use Rattle.wire.specs.Limits.{max_parameters, parameter_row_numbers}
use Rattle.wire.specs.Classes.{Class, descriptor_class}
use Rattle.wire.specs.Versions.{type_due}
use Rattle.wire.specs.declared.codes.Version.{Version}
use Rattle.wire.specs.declared.codes.Width.{Width}
use Rattle.wire.specs.declared.codes.Width.TheVariants.{Short, Long, Int64}
use Rattle.wire.specs.declared.codes.TextType.{TextType}
use Rattle.wire.specs.declared.codes.TextType.TheVariants.{Text, Varying, Cstring}
use Rattle.wire.specs.declared.codes.DataType.{DataType}
use Rattle.wire.specs.declared.codes.DataType.TheVariants.{Number, Date, Chars}
use Rattle.dictionary.specs.Format.{held, size_in_range, text_bytes, width_bytes}
use Rattle.grammar.specs.declared.Refusal.{Refusal}
use Rattle.grammar.specs.declared.Cursor.{Cursor}
use Rattle.grammar.specs.Tree as Tree
use Rattle.grammar.specs.Bytes.{descriptor_bytes}
use Rattle.grammar.specs.Environment.{descriptor_format}
use Rattle.grammar.specs.Rows.{descriptor_rows}
use Rattle.grammar.specs.Reader.{Read, read, refused, on_read, byte, word, coded}
use Rattle.grammar.specs.Messages.{size_word, scale_byte, descriptor_under, descriptor, descriptors}
use Rattle.grammar.specs.Internal.Steps.{answer_of}
use Rattle.grammar.proofs.StepLaws.{answer-read}
use Rattle.grammar.proofs.Went.{undo, same, both, needed, tested-read, coded-read}
use Rattle.grammar.proofs.Codes.{data_code, descriptor-due}
use Rattle.messages.specs.declared.descriptor.Descriptor.{Descriptor}
use Rattle.messages.specs.declared.reading.Parameter.{Parameter}
use Rattle.scopes.specs.Scopes.{each_from}
use Rattle.messages.specs.Internal.Columns.{descriptors_from, around_numbers}
use Rattle.messages.specs.Entries.{packed, descriptor_at, with_descriptor}
use Rattle.messages.specs.Declaring.{stored, row_of, parameter_after, Described}
use Rattle.messages.proofs.Parameters.{number_of, packed-descriptor}

-- ---- what stands under a code

pub size-read : (s : List ℕ) (c : Cursor) {n : ℕ} {q : Cursor} → size_word s c ≡ read n q → n ≤ 255
unfolding size_word size_in_range
size-read s c {n} e = leb-true n 255 (both (leb 1 n) (leb n 255) (tested-read s c word size_in_range _ e).1).1

width_few : (w : Width) → width_bytes w ≤ 257
width_few Short = omega arith
width_few Long = omega arith
width_few Int64 = omega arith

text-few : (t : TextType) (n : ℕ) → n ≤ 255 → text_bytes t n ≤ 257
text-few Text n h = omega arith
text-few Varying n h = omega arith
text-few Cstring n h = omega arith

module _ (s : List ℕ) (c : Cursor) (d : Tree.Descriptor) (q : Cursor) where
  pub under-few : (t : DataType) → descriptor_under t s c ≡ read d q → held (descriptor_format d) ≤ 257
  unfolding descriptor_under held descriptor_format
  under-few (Number w) e = undo (scale_byte w s c) _ e (λ x q₁ k v. same v (λ d q. held (descriptor_format d) ≤ 257) (width_few w))
  under-few Date e = same e (λ d q. held (descriptor_format d) ≤ 257) (omega arith)
  under-few (Chars t) e =
      undo (size_word s c) _ e (λ x q₁ k v. same v (λ d q. held (descriptor_format d) ≤ 257) (text-few t x (size-read s c k)))

  pub under-code : (t : DataType) → descriptor_under t s c ≡ read d q → byte_at (descriptor_bytes d) 0 ≡ data_code t
  unfolding descriptor_under descriptor_bytes
  under-code (Number w) e = undo (scale_byte w s c) _ e (λ x q₁ k v. same v (λ d q. byte_at (descriptor_bytes d) 0 ≡ data_code (Number w)) refl)
  under-code Date e = same e (λ d q. byte_at (descriptor_bytes d) 0 ≡ data_code Date) refl
  under-code (Chars t) e = undo (size_word s c) _ e (λ x q₁ k v. same v (λ d q. byte_at (descriptor_bytes d) 0 ≡ data_code (Chars t)) refl)

-- ---- a descriptor

-- the code of a descriptor that was read
pub stored-code : (s : List ℕ) (c : Cursor) {code : ℕ} {q first after : Cursor} {t : DataType} {d : Tree.Descriptor} → byte s c ≡ read code q →
    coded descriptor_class s c ≡ read t first → descriptor_under t s first ≡ read d after → byte_at (descriptor_bytes d) 0 ≡ code
stored-code s c {code} {q} {first} {after} {t} {d} e k u =
    let w = coded-read s c descriptor_class k in
    let class : descriptor_class code ≡ Class.due t = same (sym w.1 ∙ e) (λ x q. descriptor_class x ≡ Class.due t) w.2 in
    under-code s first d after t u ∙ sym (descriptor-due code t class)

module _ (v : Version) (size : ℕ) (s : List ℕ) (c : Cursor) where
  pub descriptor-ended : {r : Refusal} {p : ℕ} → byte s c ≡ refused r p → descriptor v size s c ≡ refused r p
  unfolding descriptor coded
  descriptor-ended e = rw (descriptor, coded, e)

  pub descriptor-whole : {t : DataType} {first q : Cursor} {d : Tree.Descriptor} → coded descriptor_class s c ≡ read t first → type_due v t ≡ true →
      descriptor_under t s first ≡ read d q → size + held (descriptor_format d) ≤ 4096 → descriptor v size s c ≡ read d q
  unfolding descriptor
  descriptor-whole {d = d} k z u h = rw (descriptor, k, z, u, le-leb (size + held (descriptor_format d)) 4096 h)

  -- a descriptor that was read is within its message's bytes
  pub descriptor-fits : {d : Tree.Descriptor} {q : Cursor} → descriptor v size s c ≡ read d q → size + held (descriptor_format d) ≤ 4096
  unfolding descriptor
  descriptor-fits {d} {q} h = undo (coded descriptor_class s c) _ h (λ t q₁ e u. needed (type_due v t) _ _ _ _ _ u (λ z u₁.
      undo (descriptor_under t s q₁) _ u₁ (λ x q₂ e₁ u₂. needed (leb (size + held (descriptor_format x)) 4096) _ _ _ _ _ u₂ (λ b u₃.
      same u₃ (λ d q. size + held (descriptor_format d) ≤ 4096) (leb-true _ _ b)))))

  pub descriptor-answer : {d : Tree.Descriptor} {q : Cursor} → descriptor v size s c ≡ read d q → {code scale n : ℕ} →
      byte_at (descriptor_bytes d) 0 ≡ code → scale ≡ (descriptor_format d).scale → n ≡ held (descriptor_format d) →
      Ok (record { code = code; scale = scale; held = n }, q) ≡ answer_of stored (descriptor v size s c)
  descriptor-answer e f g h = rw (e, sym f, g, h)

  -- a descriptor as the code has it
  pub descriptor-held : {k : Descriptor} {q : Cursor} → Ok (k, q) ≡ answer_of stored (descriptor v size s c) →
      (d : Tree.Descriptor) × (descriptor v size s c ≡ read d q) × (k ≡ stored d) × (size + k.held ≤ 4096)
  descriptor-held e = let r = answer-read stored (descriptor v size s c) e in (r.0, r.1, r.2, rw r.2 (descriptor-fits r.1))

-- ---- the descriptors of a message, with their rows

module _ (v : Version) (x : Parameter) (s : List ℕ) (c : Cursor) (table a : List ℕ) where
  pub none-described : (left : ℕ) → left ≡ 0 → Described (descriptors v left x.offset s c) x table table a a (Ok c)
  unfolding descriptors descriptor_rows each_from
  none-described left e = rw e (record { answer = refl; filled = refl; held = refl; same = λ k h. refl; whole = refl })

  pub descriptors-refused : (left : ℕ) → (left ≡ 0 → ⊥) → {y : Refused Refusal} →
      descriptor v x.offset s c ≡ refused y.refusal y.place → Described (descriptors v left x.offset s c) x table table a a (Err y)
  unfolding descriptors each_from
  descriptors-refused zero z e = absurd (z refl)
  descriptors-refused (suc left) z e =
      rw (descriptors, e) (record { answer = refl; filled = refl; held = refl; same = λ k h. refl; whole = refl })

  module _ (within : x.row < max_parameters) (all : length a ≡ around_numbers) (d : Tree.Descriptor)
      (scale : (descriptor_format d).scale < 256) where
    -- the array with the row
    abbrev put : List ℕ
    put = with_descriptor a x.row (number_of d)

    -- the row, where it stays
    row-held : (a' : List ℕ) → get_or a' (descriptors_from + x.row) 0 ≡ get_or put (descriptors_from + x.row) 0 → descriptor_at a' x.row ≡ d
    unfolding descriptor_at
    row-held a' s =
        let l : descriptors_from + x.row < length a = omega arith in
        let e = get_or-set_same a (descriptors_from + x.row) (number_of d) 0 l in
        rw (lt-ltb x.row max_parameters within, s, e) (packed-descriptor d scale)

    -- what the array held before the row
    stays : (a' : List ℕ) → ((k : ℕ) → k < descriptors_from + (x.row + 1) → get_or a' k 0 ≡ get_or put k 0) →
        (k : ℕ) → k < descriptors_from + x.row → get_or a' k 0 ≡ get_or a k 0
    stays a' s k h = s k (omega arith) ∙ get_or-set_other a (descriptors_from + x.row) k (number_of d) 0 (λ e. omega arith)

    -- one that was read, its row, and those after it
    described-more : (y : Read (List Tree.Descriptor)) {table' a' : List ℕ} {r : Result Cursor (Refused Refusal)} →
        Described y (parameter_after x (held (descriptor_format d)))
        (sets table (x.row * parameter_row_numbers)
        (row_of x (stored d)))
        table' put a' r →
        Described (on_read y (λ ds q. read (d ∷ ds) q)) x table table' a a' r
    unfolding descriptor_rows each_from
    described-more (read ds q) {a' = a'} h =
        let k : (x.row + 1) * 6 ≡ suc (suc (suc (suc (suc (suc (x.row * 6)))))) = omega arith in
        record {
          answer = h.answer;
          filled = rw k at h.filled;
          held = ap₂ ◌∷◌ (row-held a' (h.same (descriptors_from + x.row) (omega arith))) h.held;
          same = stays a' h.same;
          whole = h.whole ∙ length-set a (descriptors_from + x.row) (number_of d);
        }
    described-more (refused r p) {a' = a'} h =
        record {
          answer = h.answer;
          filled = refl;
          held = refl;
          same = stays a' h.same;
          whole = h.whole ∙ length-set a (descriptors_from + x.row) (number_of d);
        }

  pub descriptors-read : (left : ℕ) → (left ≡ 0 → ⊥) → {k : Descriptor} {q : Cursor} → Ok (k, q) ≡ answer_of stored (descriptor v x.offset s c) →
      k.scale < 256 → x.row < max_parameters → length a ≡ around_numbers →
      {table₁ table' a₁ a' : List ℕ} {next : Parameter} {r : Result Cursor (Refused Refusal)} →
      table₁ ≡ sets table (x.row * parameter_row_numbers) (row_of x k) →
      a₁ ≡ with_descriptor a x.row (packed k.code k.scale k.held) → next ≡ parameter_after x k.held →
      Described (descriptors v (left - 1) next.offset s q) next table₁ table' a₁ a' r →
      Described (descriptors v left x.offset s c) x table table' a a' r
  unfolding descriptors
  descriptors-read zero z e j k l t u w h = absurd (z refl)
  descriptors-read (suc left) z {q = q} e j k l t u w h =
      let f = descriptor-held v x.offset s c e in
      rw (descriptors, f.1)
      (described-more k l f.0 (rw f.2 at j) (descriptors v left (x.offset + held (descriptor_format f.0)) s q)
      (rw (t, u, w, f.2, sub-one (suc left)) at h))
