-- Reading a message beside those in the array, and the messages of a request, each way through it. Assumes nothing.
use Prim.Native.Nat.{ℕ, zero, suc, ◌+◌, ◌-◌, ◌≤◌, ◌<◌}
use mathlib.Core.Path.{◌≡◌, refl, sym, ap, ◌∙◌}
use mathlib.Core.Bool.{true, false, not}
use mathlib.Core.List.{List, [], ◌∷◌, ◌++◌}
use native.Mathlib.Numerals.{sub-one}
use native.Mathlib.Omega.{arith}
use borrow.Author.Tests.{eq-eqb, ne_eqb, le-leb, lt-leb}
use lib.Dec.{eqb}
use lib.ListN.{length, replicate, get_or, length-set}
use lib.Seq.{sets, length-sets, get_or-set_same, get_or-set_other}
use Rattle.std.specs.Prelude.{Result, Ok, Err, is_err}
use Rattle.wire.specs.declared.refused.Refused.{Refused}
use Rattle.wire.specs.Options.{refused_at}
use Rattle.wire.specs.Codes as blr
use Rattle.wire.specs.Words.{byte_at}
use Rattle.wire.specs.Limits.{max_messages, max_message_parameters, max_parameters}
use Rattle.wire.specs.Lists.{any_of}
use Rattle.wire.specs.Versions.{version_code, version_of}
use Rattle.wire.specs.declared.codes.Version.{Version}
use Rattle.dictionary.specs.Format.{held}
use Rattle.grammar.specs.declared.Refusal.{Refusal}
use Rattle.grammar.specs.declared.Refusal.TheVariants.{TooGreat, BadMessage}
use Rattle.grammar.specs.declared.Cursor.{Cursor}
use Rattle.grammar.specs.Tree as Tree
use Rattle.grammar.specs.Environment.{descriptor_format}
use Rattle.grammar.specs.Sizes.{parameter_count}
use Rattle.grammar.specs.Rows.{parameter_rows}
use Rattle.grammar.specs.Reader.{Read, read, refused, on_read, on, peek, byte, word, tested}
use Rattle.grammar.specs.Messages.{descriptor, descriptors, message, messages}
use Rattle.grammar.specs.Internal.Steps.{cursor_of}
use Rattle.grammar.proofs.StepLaws.{absurd-eq, cursor-read, cursor-refused}
use Rattle.grammar.proofs.Complete.{version-back}
use Rattle.grammar.proofs.Went.{undo, same, taken-read, peek-read}
use Rattle.messages.specs.Internal.Columns.{message_count, row_count, descriptors_from, version_at, around_numbers}
use Rattle.messages.specs.Entries.{messages_held, rows_held, descriptors_at, messages_in, version_in, with_version, with_message}
use Rattle.messages.specs.Declaring.{Holds, Described, Told, ReadEach, Declares}
use Rattle.messages.proofs.Tables.{table_more}
use Rattle.messages.proofs.Held.{messages-kept, holds_kept, no_rows, no-messages, holds-none}
use Rattle.messages.proofs.Held.{more-count, messages-more, holds_more}

-- ---- a message beside others

descriptors-many : (v : Version) (n size : ℕ) (s : List ℕ) (c : Cursor) {ds : List Tree.Descriptor} {q : Cursor} → descriptors v n size s c ≡ read ds q →
    length ds ≡ n
unfolding descriptors
descriptors-many v zero size s c {ds} {q} e = same e (λ ds q. length ds ≡ zero) refl
descriptors-many v (suc n) size s c {ds} {q} e = undo (descriptor v size s c) _ e (λ d q₁ h u.
    undo (descriptors v n (size + held (descriptor_format d)) s q₁) _ u (λ ds q₂ h₁ u₁.
    same u₁ (λ ds q. length ds ≡ suc n) (ap suc (descriptors-many v n (size + held (descriptor_format d)) s q₁ h₁))))

module _ (v : Version) (ms : List Tree.Message) (s : List ℕ) (c : Cursor) where
  message-ended : {r : Refusal} {p : ℕ} → byte s c ≡ refused r p → message v ms s c ≡ refused r p
  unfolding message tested
  message-ended e = rw (message, tested, e)

  module _ {m : ℕ} {first : Cursor} (e : byte s c ≡ read m first) where
    message-again : any_of (λ x. eqb x.number m) ms ≡ true → message v ms s c ≡ refused BadMessage c.at
    unfolding message tested
    message-again f = rw (message, tested, e, f)

    module _ (f : any_of (λ x. eqb x.number m) ms ≡ false) where
      message-cut : {r : Refusal} {p : ℕ} → word s first ≡ refused r p → message v ms s c ≡ refused r p
      unfolding message tested
      message-cut g = rw (message, tested, e, f, tested, g)

      module _ {n : ℕ} {second : Cursor} (g : word s first ≡ read n second) where
        message-great : max_message_parameters < n → message v ms s c ≡ refused TooGreat first.at
        unfolding message tested
        message-great h = rw (message, tested, e, f, tested, g, lt-leb n max_message_parameters h)

        module _ (h : n ≤ max_message_parameters) where
          message-over : max_parameters < parameter_count ms + n → message v ms s c ≡ refused TooGreat first.at
          unfolding message tested
          message-over i =
              rw (message, tested, e, f, tested, g, le-leb n max_message_parameters h, lt-leb (parameter_count ms + n) max_parameters i)

          message-by : parameter_count ms + n ≤ max_parameters → (x : Read (List Tree.Descriptor)) → descriptors v n 0 s second ≡ x →
              message v ms s c ≡ on_read x (λ ds q. read (record { number = m; descriptors = ds }) q)
          unfolding message tested
          message-by i x j =
              rw (message, tested, e, f, tested, g, le-leb n max_message_parameters h, le-leb (parameter_count ms + n) max_parameters i, j)

-- ---- a message beside those in the array

-- a message after its code, beside those in the array
abbrev beside : Version → List ℕ → List ℕ → Cursor → Read Tree.Message
beside v a s c = message v (messages_in a) s c

-- its number is new, and its count of parameters was read
pub record Opened (s : List ℕ) (c : Cursor) (a : List ℕ) (m : ℕ) (first : Cursor) (n : ℕ) (second : Cursor) : Type 0 where
  pub holds : Holds a
  pub number : byte s c ≡ read m first
  pub new : any_of (λ x. eqb x.number m) (messages_in a) ≡ false
  pub count : word s first ≡ read n second

-- there is room for it and its parameters, and their descriptors were read
pub record Begun (v : Version) (s : List ℕ) (c : Cursor) (table a : List ℕ) (m : ℕ) (first : Cursor) (n : ℕ) (second : Cursor) (table' a₁ : List ℕ)
    (r : Result Cursor (Refused Refusal)) : Type 0 where
  pub opened : Opened s c a m first n second
  pub left : messages_held a < max_messages
  pub few : n ≤ max_message_parameters
  pub room : rows_held a + n ≤ max_parameters
  pub described : Described (descriptors v n 0 s second) (record { message = record { 0 = m }; index = 0; row = rows_held a; offset = 0 })
      table table' a a₁ r

module _ (v : Version) {a : List ℕ} (holds : Holds a) {table : List ℕ} (s : List ℕ) (c : Cursor) where
  -- a refusal with the array as it was
  told-refused : {y : Refused Refusal} → beside v a s c ≡ refused y.refusal y.place → Told (beside v a s c) table table a a (Err y)
  told-refused e = rw e (record { answer = refl; filled = refl; held = refl; count = refl; holds = holds })

  pub told-ended : {y : Refused Refusal} → byte s c ≡ refused y.refusal y.place → Told (beside v a s c) table table a a (Err y)
  told-ended e = told-refused (message-ended v (messages_in a) s c e)

  module _ {m : ℕ} {first : Cursor} (e : byte s c ≡ read m first) where
    pub told-again : any_of (λ x. eqb x.number m) (messages_in a) ≡ true →
        Told (beside v a s c) table table a a (Err (refused_at BadMessage c.at))
    told-again f = told-refused (message-again v (messages_in a) s c e f)

    pub told-cut : any_of (λ x. eqb x.number m) (messages_in a) ≡ false → {y : Refused Refusal} → word s first ≡ refused y.refusal y.place →
        Told (beside v a s c) table table a a (Err y)
    told-cut f g = told-refused (message-cut v (messages_in a) s c e f g)

module _ (v : Version) {s : List ℕ} {c : Cursor} {a : List ℕ} {m : ℕ} {first : Cursor} {n : ℕ} {second : Cursor} (o : Opened s c a m first n second) where
  pub told-great : max_message_parameters < n → {table : List ℕ} → Told (beside v a s c) table table a a (Err (refused_at TooGreat first.at))
  told-great h = told-refused v o.holds s c (message-great v (messages_in a) s c o.number o.new o.count h)

  pub told_over : n ≤ max_message_parameters → max_parameters < rows_held a + n → {table : List ℕ} →
      Told (beside v a s c) table table a a (Err (refused_at TooGreat first.at))
  told_over h i =
      told-refused v o.holds s c (message-over v (messages_in a) s c o.number o.new o.count h (rw o.holds.rows at i))

module _ {v : Version} {s : List ℕ} {c : Cursor} {table a : List ℕ} {m : ℕ} {first : Cursor} {n : ℕ} {second : Cursor} {table' a₁ : List ℕ} {r : Result Cursor (Refused Refusal)}
    (b : Begun v s c table a m first n second table' a₁ r) where
  by-descriptors : (x : Read (List Tree.Descriptor)) → descriptors v n 0 s second ≡ x →
      beside v a s c ≡ on_read x (λ ds q. read (record { number = m; descriptors = ds }) q)
  by-descriptors =
      let o = b.opened in
      message-by v (messages_in a) s c o.number o.new o.count b.few (rw o.holds.rows at b.room)

  -- the messages that were in the array
  kept : (messages_in a₁ ≡ messages_in a) × Holds a₁
  kept = (
    messages-kept a a₁ b.opened.holds b.described.same b.described.whole,
    holds_kept a a₁ b.opened.holds b.described.same b.described.whole,
  )

  counts : (messages_held a₁ ≡ messages_held a) × (rows_held a₁ ≡ rows_held a)
  counts = (b.described.same message_count (omega arith), b.described.same row_count (omega arith))

  pub told-untold : {u : Refused Refusal} → r ≡ Err u → Told (beside v a s c) table table' a a₁ (Err u)
  told-untold {u} y =
      let z = by-descriptors (refused u.refusal u.place) (cursor-refused (descriptors v n 0 s second) (sym y ∙ b.described.answer)) in
      rw z (record { answer = refl; filled = refl; held = kept.0; count = counts.0; holds = kept.1 })

  -- the array with one message more
  pub told-fits : (messages_held a₁ < max_messages) × ((rows_held a₁ ≤ max_parameters) × (n ≤ max_parameters))
  told-fits = (omega (arith, counts.0, b.left), (omega (arith, counts.1, b.room), omega (arith, b.room)))

  pub told-read : {q : Cursor} → r ≡ Ok q → {a' : List ℕ} → a' ≡ with_message a₁ m n →
      Told (beside v a s c) table table' a a' (Ok q)
  told-read {q} y w =
      let d = cursor-read (descriptors v n 0 s second) (sym y ∙ b.described.answer) in
      let z = by-descriptors (read d.0 q) d.1 in
      let all : length a₁ ≡ around_numbers = kept.1.whole in
      let many : length d.0 ≡ n = descriptors-many v n 0 s second d.1 in
      let ds : descriptors_at a₁ (rows_held a) n ≡ d.0 = rw many at (rw d.1 at b.described.held) in
      rw (z, w) (record {
        answer = refl;
        filled = rw d.1 at b.described.filled;
        held = messages-more a₁ m n all told-fits.0 kept.1 ∙ rw (kept.0, counts.1, ds);
        count = more-count a₁ m n all told-fits.0 ∙ ap (λ i. i + 1) counts.0;
        holds = holds_more a₁ m n all told-fits.0 kept.1 (omega (arith, counts.1, b.room));
      })

-- ---- the messages of a request

module _ (v : Version) (s : List ℕ) (c : Cursor) (ms : List Tree.Message) where
  pub messages-ended : (n : ℕ) {r : Refusal} {p : ℕ} → peek s c ≡ refused r p → messages v n ms s c ≡ refused r p
  unfolding messages tested
  messages-ended zero e = rw (messages, tested, e)
  messages-ended (suc n) e = rw (messages, e)

  pub messages-over : (n : ℕ) {x : ℕ} {q : Cursor} → peek s c ≡ read x q → (x ≡ blr.message → ⊥) → messages v n ms s c ≡ read ms c
  unfolding messages tested
  messages-over zero {x} e h = rw (messages, tested, e, ne_eqb x blr.message h, (peek-read s c e).0)
  messages-over (suc n) {x} e h = rw (messages, e, ne_eqb x blr.message h, (peek-read s c e).0)

  pub messages-full : {x : ℕ} {q : Cursor} → peek s c ≡ read x q → x ≡ blr.message → messages v 0 ms s c ≡ refused TooGreat c.at
  unfolding messages tested
  messages-full {x} e h = rw (messages, tested, e, eq-eqb x blr.message h)

  messages-next : (n : ℕ) → 0 < n → {x : ℕ} {q : Cursor} → peek s c ≡ read x q → x ≡ blr.message → {y : Read Tree.Message} →
      message v ms s (on c 1) ≡ y → messages v n ms s c ≡ on_read y (λ m q. messages v (n - 1) (ms ++ (m ∷ [])) s q)
  unfolding messages
  messages-next zero z e h j = absurd (omega arith)
  messages-next (suc n) z {x} e h j =
      let k = peek-read s c e in
      rw (messages, e, eq-eqb x blr.message h, k.0, k.1, j, sub-one (suc n))

pub peek-within : (s : List ℕ) (c : Cursor) {x : ℕ} {q : Cursor} → peek s c ≡ read x q → c.at + 1 ≤ length s
peek-within s c e = (taken-read s c 1 byte_at (peek-read s c e).1).0

-- how far the loop has come: the messages that were read, as the array, the table and the definition have them
pub record Reached (v : Version) (s : List ℕ) (c₀ c : Cursor) (left : ℕ) (table₀ table a : List ℕ) : Type 0 where
  pub holds : Holds a
  pub counted : left + messages_held a ≡ max_messages
  pub filled : table ≡ sets table₀ 0 (parameter_rows (messages_in a))
  pub reading : messages v max_messages [] s c₀ ≡ messages v left (messages_in a) s c

pub none-reached : (v : Version) (s : List ℕ) (c : Cursor) (table a₀ : List ℕ) {a : List ℕ} → length a₀ ≡ around_numbers → a ≡ replicate (length a₀) 0 →
    Reached v s c c max_messages table table a
unfolding parameter_rows
none-reached v s c table a₀ l e =
    let z = no-messages around_numbers in
    rw (e, l) (record { holds = holds-none; counted = refl; filled = rw z; reading = rw z })

module _ {v : Version} {s : List ℕ} {c₀ c : Cursor} {left : ℕ} {table₀ table a : List ℕ} (r : Reached v s c₀ c left table₀ table a) where
  pub reached-length : length table ≡ length table₀
  reached-length = ap length r.filled ∙ length-sets table₀ 0 (parameter_rows (messages_in a))

  -- nothing more is read
  each_read : messages v left (messages_in a) s c ≡ read (messages_in a) c →
      ReadEach (messages v max_messages [] s c₀) table₀ table a (Ok c)
  each_read e = rw (r.reading, e) (record { answer = refl; filled = r.filled; held = refl; rows = r.holds.rows; holds = r.holds })

  each-refused : {u : Refused Refusal} → messages v left (messages_in a) s c ≡ refused u.refusal u.place → (table' a' : List ℕ) → Holds a' →
      ReadEach (messages v max_messages [] s c₀) table₀ table' a' (Err u)
  each-refused e table' a' h = rw (r.reading, e) (record { answer = refl; filled = refl; held = refl; rows = refl; holds = h })

  pub each-ended : {u : Refused Refusal} → peek s c ≡ refused u.refusal u.place → ReadEach (messages v max_messages [] s c₀) table₀ table a (Err u)
  each-ended e = each-refused (messages-ended v s c (messages_in a) left e) table a r.holds

  -- after as many messages as there may be
  each-by : (y : Read ℕ) → messages v left (messages_in a) s c ≡ on_read y (λ k q. read (messages_in a) q) →
      ReadEach (messages v max_messages [] s c₀) table₀ table a (cursor_of {A = List Tree.Message} (on_read y (λ k q. read [] q)))
  each-by (read k q) e = rw (r.reading, e) (record { answer = refl; filled = r.filled; held = refl; rows = r.holds.rows; holds = r.holds })
  each-by (refused u p) e = each-refused e table a r.holds

  pub each_last : left ≡ 0 → {y : Result Cursor (Refused Refusal)} → ((v : Version) → y ≡ cursor_of (messages v 0 [] s c)) → ReadEach (messages v max_messages [] s c₀) table₀ table a y
  unfolding messages
  each_last e u = rw (u v) (each-by (tested peek (λ x. not (eqb x blr.message)) TooGreat s c) (rw e))

  module _ {k : ℕ} {q : Cursor} (e : peek s c ≡ read k q) where
    pub each_all : (k ≡ blr.message → ⊥) → ReadEach (messages v max_messages [] s c₀) table₀ table a (Ok c)
    each_all h = each_read (messages-over v s c (messages_in a) left e h)

    module _ (h : k ≡ blr.message) (i : 0 < left) {table₁ a₁ : List ℕ} {y : Result Cursor (Refused Refusal)}
        (t : Told (beside v a s (on c 1)) table table₁ a a₁ y) where
      pub each-untold : {u : Refused Refusal} → y ≡ Err u → ReadEach (messages v max_messages [] s c₀) table₀ table₁ a₁ (Err u)
      each-untold {u} w =
          let z = cursor-refused (beside v a s (on c 1)) (sym w ∙ t.answer) in
          each-refused (messages-next v s c (messages_in a) left i e h z) table₁ a₁ t.holds

      pub reached-more : {q₁ : Cursor} → y ≡ Ok q₁ → Reached v s c₀ q₁ (left - 1) table₀ table₁ a₁
      reached-more {q₁} w =
          let d = cursor-read (beside v a s (on c 1)) (sym w ∙ t.answer) in
          let l : messages_in a₁ ≡ messages_in a ++ (d.0 ∷ []) = rw d.1 at t.held in
          let n : messages_held a₁ ≡ messages_held a + 1 = rw d.1 at t.count in
          record {
            holds = t.holds;
            counted = omega (arith, r.counted);
            filled = rw d.1 at t.filled ∙ rw (r.filled, r.holds.rows, l) (table_more (messages_in a) d.0 table₀);
            reading = r.reading ∙ messages-next v s c (messages_in a) left i e h d.1 ∙ rw l;
          }

-- ---- the whole: what was read stays, and a refusal leaves zeros

-- the version, last
module _ (v : Version) (a : List ℕ) (holds : Holds a) where
  within : version_at < length a
  within = omega (arith, holds.whole)

  kept-all : (k : ℕ) → k < descriptors_from + rows_held a → get_or (with_version a v) k 0 ≡ get_or a k 0
  kept-all k h = get_or-set_other a version_at k (version_code v) 0 (λ e. omega (arith, holds.few))

  version-held : version_in (with_version a v) ≡ v
  unfolding version_in
  version-held = ap version_of (get_or-set_same a version_at (version_code v) 0 within) ∙ (version-back v).1

  version-messages : messages_in (with_version a v) ≡ messages_in a
  version-messages = messages-kept a (with_version a v) holds kept-all (length-set a version_at (version_code v))

  version-rows : rows_held (with_version a v) ≡ rows_held a
  version-rows = kept-all row_count (omega arith)

pub declares-read : (v : Version) (x : Read (List Tree.Message)) {table table₁ table₂ a₁ a₂ a₃ : List ℕ} {y : Result Cursor (Refused Refusal)} →
    ReadEach x table table₁ a₁ y → is_err y ≡ false → table₂ ≡ table₁ → a₂ ≡ a₁ → a₃ ≡ with_version a₂ v → Declares v x table table₂ a₃ y
declares-read v (read ms c) {a₁ = a₁} h e f g w = rw (w, f, g) (record {
  answer = h.answer;
  filled = h.filled;
  held = version-messages v a₁ h.holds ∙ h.held;
  rows = version-rows v a₁ h.holds ∙ h.rows;
  version = version-held v a₁ h.holds;
})
declares-read v (refused r p) h e f g w = let a = ap is_err h.answer in absurd-eq (cc)

pub declares-nothing : (v : Version) (x : Read (List Tree.Message)) {table table₁ table₂ a₁ a₂ a₃ : List ℕ} {y : Result Cursor (Refused Refusal)} →
    ReadEach x table table₁ a₁ y → is_err y ≡ true → length table₁ ≡ length table → table₂ ≡ replicate (length table₁) 0 →
    a₂ ≡ replicate (length a₁) 0 → a₃ ≡ with_version a₂ v → Declares v x table table₂ a₃ y
declares-nothing v (read ms c) h e l f g w = let a = ap is_err h.answer in absurd-eq (cc)
declares-nothing v (refused r q) {a₁ = a₁} {a₂ = a₂} h e l f g w =
    let z : a₂ ≡ replicate around_numbers 0 = g ∙ ap (λ n. replicate n 0) h.holds.whole in
    rw (w, z) (record {
      answer = h.answer;
      filled = f ∙ ap (λ n. replicate n 0) l;
      held = version-messages v (replicate around_numbers 0) holds-none ∙ no-messages around_numbers;
      rows = version-rows v (replicate around_numbers 0) holds-none ∙ no_rows around_numbers;
      version = version-held v (replicate around_numbers 0) holds-none;
    })
