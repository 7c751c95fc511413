-- The ways through the readers of headings, erases, leaves and receives, by what was read before. Assumes nothing.
use Prim.Native.Nat.{ℕ, ◌<◌}
use mathlib.Core.Path.{◌≡◌, refl, sym}
use mathlib.Core.Bool.{Bool, true, false, cond, not as negation, ◌&&◌}
use mathlib.Core.List.{List}
use native.Mathlib.Omega.{arith}
use Rattle.std.specs.Prelude as std
use Rattle.wire.specs.Limits.{max_contexts}
use Rattle.wire.specs.Lists.{among}
use Rattle.wire.specs.Options.{option_of}
use Rattle.grammar.specs.declared.Cursor.{Cursor}
use Rattle.grammar.specs.declared.Refusal.{Refusal}
use Rattle.grammar.specs.declared.Refusal.TheVariants.{BadContext, BadMessage, Misplaced}
use Rattle.grammar.specs.Tree.{modify, erase}
use Rattle.grammar.specs.Environment as Grammar
use Rattle.grammar.specs.Environment.{Environment}
use Rattle.grammar.specs.Scope.{in_scope, declared, of_for, updating}
use Rattle.grammar.specs.Reader.{Read, read, refused, on_read, need, byte, tested, opened}
use Rattle.grammar.specs.Values.{context_byte, message_byte}
use Rattle.grammar.specs.Statements.{exchanged, modify_heading, erase_under}
use Rattle.grammar.specs.Internal.Steps.{cursor_of}
use Rattle.grammar.proofs.Went.{opened-went}
use Rattle.messages.specs.Entries.{declared_in, found_of, messages_in}
use Rattle.messages.proofs.Found.{is_declared, not-declared}
use Rattle.tables.proofs.Codes.{read-assoc, tested-is, tested-refused}
use Rattle.openings.specs.Streams.{fresh_byte}
use Rattle.openings.specs.Headings.{for_context}
use Rattle.openings.specs.Selected.{selected_byte, selected}

-- ---- a context from a for

module _ (sc : Grammar.Scope) (p : ℕ) (s : List ℕ) (c : Cursor) where
  module _ {n : ℕ} {q : Cursor} (e : byte s c ≡ read n q) where
    pub for-none : in_scope sc n ≡ false → for_context sc p s c ≡ refused BadContext c.at
    unfolding for_context context_byte
    for-none t = rw (for_context, context_byte, tested-is byte (in_scope sc) BadContext s c e, t)

    pub for-there : in_scope sc n ≡ true → (b : Bool) → of_for sc n ≡ b → for_context sc p s c ≡ cond b (read n q) (refused Misplaced p)
    unfolding for_context context_byte
    for-there t true f = rw (for_context, context_byte, tested-is byte (in_scope sc) BadContext s c e, t, f)
    for-there t false f = rw (for_context, context_byte, tested-is byte (in_scope sc) BadContext s c e, t, f)

  pub for-cut : {r : Refusal} {z : ℕ} → byte s c ≡ refused r z → for_context sc p s c ≡ refused r z
  unfolding for_context context_byte
  for-cut e = rw (for_context, context_byte, tested-refused byte (in_scope sc) BadContext s c e)

  for-then : {B : Type 0} (k : ℕ → Cursor → Read B) →
      on_read (context_byte sc s c) (λ n q. on_read (need (of_for sc n) Misplaced p s q) (λ _ q. k n q)) ≡ on_read (for_context sc p s c) k
  unfolding for_context
  for-then k = go (context_byte sc s c)
    where
      go : (y : Read ℕ) → on_read y (λ n q. on_read (need (of_for sc n) Misplaced p s q) (λ _ q. k n q)) ≡
          on_read (on_read y (λ n q. on_read (need (of_for sc n) Misplaced p s q) (λ _ q. read n q))) k
      go (read n q) = read-assoc (need (of_for sc n) Misplaced p s q) (λ _ q. read n q) k
      go (refused r z) = refl

  pub erase-is : {y : Read ℕ} → for_context sc p s c ≡ y → cursor_of y ≡ cursor_of (erase_under sc p s c)
  unfolding erase_under
  erase-is {y} e = rw (for-then (λ n q. read (erase n) q), e) (by y)
    where
      by : (y : Read ℕ) → cursor_of y ≡ cursor_of (on_read y (λ n q. read (erase n) q))
      by (read n q) = refl
      by (refused r z) = refl

-- ---- a modify

module _ (sc : Grammar.Scope) (p : ℕ) (s : List ℕ) (c : Cursor) where
  module _ {g : Unit {0}} {q : Cursor} (i : opened p s c ≡ read g q) where
    pub modify-is : {y : Read ℕ} → for_context sc p s q ≡ y →
        modify_heading sc p s c ≡ on_read y (λ n q. on_read (fresh_byte sc s q) (λ x q. read (modify n x) q))
    unfolding modify_heading fresh_byte
    modify-is e =
        rw (modify_heading, i, sym e)
        (for-then sc p s q (λ n q. on_read (fresh_byte sc s q) (λ x q. read (modify n x) q)))

    pub modify-room : c.contexts < max_contexts
    modify-room = let w = opened-went p s c i in omega (arith, w.0.declared, w.1)

  pub modify-full : {r : Refusal} {z : ℕ} → opened p s c ≡ refused r z → modify_heading sc p s c ≡ refused r z
  unfolding modify_heading
  modify-full i = rw (modify_heading, i)

-- ---- the message of a send or a receive

-- a message is declared if it is found
pub declared-by : (e : Environment) (a : List ℕ) → e.messages ≡ messages_in a → (m : ℕ) {o : std.Option ℕ} →
    o ≡ option_of (found_of (declared_in a) m) → declared e m ≡ std.is_some o
declared-by e a held m {o} w = by o (sym w)
  where
    by : (o : std.Option ℕ) → option_of (found_of (declared_in a) m) ≡ o → declared e m ≡ std.is_some o
    by std.None h = not-declared e a held m h
    by (std.Some i) h = is_declared e a held m i h

module _ (e : Environment) (sc : Grammar.Scope) (p : ℕ) (s : List ℕ) (c : Cursor) where
  pub exchanged-updating : updating sc ≡ true → exchanged e sc p s c ≡ refused Misplaced p
  unfolding exchanged
  exchanged-updating t = rw (exchanged, t)

  pub exchanged-is : updating sc ≡ false → {m : ℕ} {q : Cursor} → byte s c ≡ read m q → (b : Bool) → declared e m ≡ b →
      exchanged e sc p s c ≡ cond b (read m q) (refused BadMessage c.at)
  unfolding exchanged message_byte
  exchanged-is t i true d = rw (exchanged, t, message_byte, tested-is byte (declared e) BadMessage s c i, d)
  exchanged-is t i false d = rw (exchanged, t, message_byte, tested-is byte (declared e) BadMessage s c i, d)

  pub exchanged-cut : updating sc ≡ false → {r : Refusal} {z : ℕ} → byte s c ≡ refused r z → exchanged e sc p s c ≡ refused r z
  unfolding exchanged message_byte
  exchanged-cut t i = rw (exchanged, t, message_byte, tested-refused byte (declared e) BadMessage s c i)

  -- ---- a message that was not selected before

  abbrev pub new : List ℕ → ℕ → Cursor → Read ℕ
  new ms m q = cond (among m ms) (refused BadMessage c.at) (read m q)

  pub selected-is : (ms : List ℕ) → selected e sc ms p s c ≡ on_read (exchanged e sc p s c) (new ms)
  unfolding selected selected_byte exchanged message_byte tested
  selected-is ms = go (updating sc)
    where
      last : (m : ℕ) (q : Cursor) (t : Bool) →
          on_read (need (negation t) BadMessage c.at s q) (λ _ q. read m q) ≡ cond t (refused BadMessage c.at) (read m q)
      last m q true = refl
      last m q false = refl

      by : (m : ℕ) (q : Cursor) (t : Bool) → on_read (need (t && negation (among m ms)) BadMessage c.at s q) (λ _ q. read m q) ≡
          on_read (on_read (need t BadMessage c.at s q) (λ _ q. read m q)) (new ms)
      by m q true = last m q (among m ms)
      by m q false = refl

      after : (y : Read ℕ) →
          on_read y (λ m q. on_read (need (declared e m && negation (among m ms)) BadMessage c.at s q) (λ _ q. read m q)) ≡
          on_read (on_read y (λ m q. on_read (need (declared e m) BadMessage c.at s q) (λ _ q. read m q))) (new ms)
      after (read m q) = by m q (declared e m)
      after (refused r z) = refl

      go : (t : Bool) → on_read (need (negation t) Misplaced p s c) (λ _ q. selected_byte e ms s q) ≡
          on_read (on_read (need (negation t) Misplaced p s c) (λ _ q. message_byte e s q)) (new ms)
      go true = refl
      go false = after (byte s c)
