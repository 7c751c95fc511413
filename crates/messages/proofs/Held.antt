-- Messages in the array: what stays where its numbers stay, none, and one more. Assumes nothing.
use Prim.Native.Nat.{ℕ, zero, suc, ◌+◌, ◌≤◌, ◌<◌}
use mathlib.Core.Path.{◌≡◌, refl, sym, ap, ap₂, ◌∙◌}
use mathlib.Core.Bool.{Bool, true, false}
use mathlib.Core.Logic.{◌≢◌}
use mathlib.Core.List.{List, [], ◌∷◌, ◌++◌, map}
use native.Mathlib.Omega.{arith}
use borrow.Author.Tests.{leb-true, leb-false}
use lib.Dec.{leb}
use lib.ListN.{length, take, set, get_or, replicate, length-set, length-replicate}
use lib.Seq.{get_or-set_same, get_or-set_other}
use Rattle.wire.specs.Lists.{sum_of}
use Rattle.wire.specs.Limits.{max_messages, max_parameters}
use Rattle.grammar.specs.Tree as Tree
use Rattle.grammar.specs.Sizes.{parameter_count}
use Rattle.scopes.specs.Scopes.{each_from}
use Rattle.scopes.proofs.Runs.{each-length, each_same, each_first, each_more}
use Rattle.messages.specs.Internal.Columns.{message_count, row_count, numbers_from, counts_from, firsts_from}
use Rattle.messages.specs.Internal.Columns.{descriptors_from, around_numbers}
use Rattle.messages.specs.Entries.{messages_held, rows_held, message_in, descriptor_at, descriptors_at, message_of, messages_in}
use Rattle.messages.specs.Entries.{with_columns, with_message}
use Rattle.messages.specs.Declaring.{Holds}
use Rattle.messages.proofs.Tables.{count-more}
use Rattle.messages.proofs.Found.{nothing-declared}

-- ---- messages by their indices

each_map : {A B : Type 0} (f : ℕ → A) (g : A → B) (i n k : ℕ) → map g (take n (each_from f i k)) ≡ take n (each_from (λ j. g (f j)) i k)
unfolding each_from
each_map f g i zero k = refl
each_map f g i (suc n) zero = refl
each_map f g i (suc n) (suc k) = ap (λ l. g (f i) ∷ l) (each_map f g (i + 1) n k)

-- the message of an index, with its descriptors
abbrev message_numbered : List ℕ → ℕ → Tree.Message
message_numbered a i = message_of a (message_in a i)

messages-each : (a : List ℕ) → messages_in a ≡ take (messages_held a) (each_from (message_numbered a) 0 max_messages)
unfolding messages_in
messages-each a = each_map (message_in a) (message_of a) 0 (messages_held a) max_messages

-- ---- what stays

module _ (a a' : List ℕ) where
  abbrev Same : ℕ → Type 0
  Same k = get_or a' k 0 ≡ get_or a k 0

  descriptors-same : (row n : ℕ) → ((k : ℕ) → k < row + n → Same (descriptors_from + k)) → descriptors_at a' row n ≡ descriptors_at a row n
  unfolding descriptor_at
  descriptors-same row n s = each_same (descriptor_at a) (descriptor_at a') row n (λ j h k. rw (s j k))

  abbrev SameMessage : ℕ → Type 0
  SameMessage i = Same (numbers_from + i) × Same (counts_from + i) × Same (firsts_from + i)

  message-same : (i rows : ℕ) → SameMessage i → (message_in a i).first + (message_in a i).parameters ≤ rows →
      ((k : ℕ) → k < rows → Same (descriptors_from + k)) → message_numbered a' i ≡ message_numbered a i
  message-same i rows e h s =
      rw (e.0, e.1, e.2)
      (ap (λ (ds : List Tree.Descriptor). record { number = (message_in a i).number; descriptors = ds })
      (descriptors-same (message_in a i).first (message_in a i).parameters (λ k l. s k (omega arith))))

  module _ (holds : Holds a) (same : (k : ℕ) → k < descriptors_from + rows_held a → Same k) (whole : length a' ≡ length a) where
    message-stays : (i : ℕ) → i < messages_held a → SameMessage i
    message-stays i h =
        let k = holds.count in
        (same (numbers_from + i) (omega arith), same (counts_from + i) (omega arith), same (firsts_from + i) (omega arith))

    -- what is written past the rows in use leaves the messages
    pub messages-kept : messages_in a' ≡ messages_in a
    messages-kept =
        messages-each a' ∙ ap (λ n. take n (each_from (message_numbered a') 0 max_messages)) (same message_count (omega arith)) ∙
        each_first (message_numbered a) (message_numbered a') 0 max_messages (messages_held a) (λ j h k.
        let l : j < messages_held a = omega arith in
        message-same j (rows_held a) (message-stays j l) (holds.within j l) (λ k m. same (descriptors_from + k) (omega arith))) ∙
        sym (messages-each a)

    pub holds_kept : Holds a'
    holds_kept =
        let e : messages_held a' ≡ messages_held a = same message_count (omega arith) in
        let f : rows_held a' ≡ rows_held a = same row_count (omega arith) in
        record {
          whole = whole ∙ holds.whole;
          count = omega (arith, holds.count);
          within = λ i h.
              let k : i < messages_held a = omega arith in
              let s = message-stays i k in
              omega (arith, s.1, s.2, holds.within i k);
          rows = f ∙ holds.rows ∙ ap parameter_count (sym messages-kept);
          few = omega (arith, holds.few);
        }

-- ---- none

zero-at : (n i : ℕ) → ◌≡◌ {A = ℕ} (get_or (replicate n 0) i 0) 0
zero-at zero i = refl
zero-at (suc n) zero = refl
zero-at (suc n) (suc i) = zero-at n i

pub no_rows : (n : ℕ) → rows_held (replicate n 0) ≡ 0
no_rows n = zero-at n row_count

pub no-messages : (n : ℕ) → messages_in (replicate n 0) ≡ []
no-messages n = nothing-declared (replicate n 0) (zero-at n message_count)

pub holds-none : Holds (replicate around_numbers 0)
unfolding sum_of
holds-none = record {
  whole = length-replicate {A = ℕ} around_numbers 0;
  count = omega (arith, zero-at around_numbers message_count);
  within = λ i h. absurd (omega (arith, zero-at around_numbers message_count));
  rows = rw (no_rows around_numbers, no-messages around_numbers);
  few = omega (arith, no_rows around_numbers);
}

-- ---- one more

module _ (a : List ℕ) (m n : ℕ) where
  abbrev more : List ℕ
  more = with_message a m n

  more-other : (j : ℕ) → j ≢ numbers_from + messages_held a → j ≢ counts_from + messages_held a → j ≢ firsts_from + messages_held a →
      j ≢ message_count → j ≢ row_count → Same a more j
  more-other j p q r s t = simp get_or-set_other

  more-descriptor : (k : ℕ) → messages_held a < max_messages → Same a more (descriptors_from + k)
  more-descriptor k h =
      more-other (descriptors_from + k) (λ e. omega arith) (λ e. omega arith) (λ e. omega arith) (λ e. omega arith) (λ e. omega arith)

  more-before : (i : ℕ) → messages_held a < max_messages → i < messages_held a → SameMessage a more i
  more-before i h k = (
    more-other (numbers_from + i) (λ e. omega arith) (λ e. omega arith) (λ e. omega arith) (λ e. omega arith) (λ e. omega arith),
    more-other (counts_from + i) (λ e. omega arith) (λ e. omega arith) (λ e. omega arith) (λ e. omega arith) (λ e. omega arith),
    more-other (firsts_from + i) (λ e. omega arith) (λ e. omega arith) (λ e. omega arith) (λ e. omega arith) (λ e. omega arith),
  )

  more-length : length more ≡ length a
  more-length = simp length-set

  module _ (whole : length a ≡ around_numbers) (h : messages_held a < max_messages) where
    pub more-count : messages_held more ≡ messages_held a + 1
    more-count =
        let p : message_count ≢ row_count = λ e. omega arith in
        let l : message_count < length (with_columns a m n) = simp length-set (omega arith) in
        simp (get_or-set_other, get_or-set_same)

    more_rows : rows_held more ≡ rows_held a + n
    more_rows =
        let l : row_count < length (set (with_columns a m n) message_count (messages_held a + 1)) = simp length-set (omega arith) in
        simp get_or-set_same

    more-number : get_or more (numbers_from + messages_held a) 0 ≡ m
    more-number =
        let l : numbers_from + messages_held a < length a = omega arith in
        let p : numbers_from + messages_held a ≢ counts_from + messages_held a = λ e. omega arith in
        let q : numbers_from + messages_held a ≢ firsts_from + messages_held a = λ e. omega arith in
        let r : numbers_from + messages_held a ≢ message_count = λ e. omega arith in
        let s : numbers_from + messages_held a ≢ row_count = λ e. omega arith in
        simp (get_or-set_other, get_or-set_same)

    more_parameters : get_or more (counts_from + messages_held a) 0 ≡ n
    more_parameters =
        let l : counts_from + messages_held a < length (set a (numbers_from + messages_held a) m) = simp length-set (omega arith) in
        let p : counts_from + messages_held a ≢ firsts_from + messages_held a = λ e. omega arith in
        let q : counts_from + messages_held a ≢ message_count = λ e. omega arith in
        let r : counts_from + messages_held a ≢ row_count = λ e. omega arith in
        simp (get_or-set_other, get_or-set_same)

    more-first : get_or more (firsts_from + messages_held a) 0 ≡ rows_held a
    more-first =
        let l : firsts_from + messages_held a < length (set (set a (numbers_from + messages_held a) m) (counts_from + messages_held a) n) =
        simp length-set (omega arith) in
        let p : firsts_from + messages_held a ≢ message_count = λ e. omega arith in
        let q : firsts_from + messages_held a ≢ row_count = λ e. omega arith in
        simp (get_or-set_other, get_or-set_same)

    more-message : message_numbered more (messages_held a) ≡ record { number = m; descriptors = descriptors_at a (rows_held a) n }
    more-message =
        rw (more-number, more_parameters, more-first)
        (ap (λ (ds : List Tree.Descriptor). record { number = m; descriptors = ds })
        (descriptors-same a more (rows_held a) n (λ k l. more-descriptor k h)))

    module _ (holds : Holds a) where
      pub messages-more : messages_in more ≡ messages_in a ++ (record { number = m; descriptors = descriptors_at a (rows_held a) n } ∷ [])
      messages-more =
          let z : 0 + messages_held a ≡ messages_held a = omega arith in
          messages-each more ∙ ap (λ k. take k (each_from (message_numbered more) 0 max_messages)) more-count ∙
          each_more (message_numbered a) (message_numbered more) 0 max_messages (messages_held a) h (λ j k l.
          let i : j < messages_held a = omega arith in
          message-same a more j (rows_held a) (more-before j h i) (holds.within j i) (λ k l. more-descriptor k h)) ∙
          rw (z, more-message, messages-each a)

      more-counted : rows_held a + n ≡ parameter_count (messages_in more)
      more-counted =
          sym (ap parameter_count messages-more ∙
          count-more (messages_in a) (record { number = m; descriptors = descriptors_at a (rows_held a) n }) ∙
          ap₂ ◌+◌ (sym holds.rows) (each-length (descriptor_at a) (rows_held a) n))

      more_within : (i : ℕ) → i < messages_held a + 1 → (message_in more i).first + (message_in more i).parameters ≤ rows_held a + n
      more_within i k = by (leb (messages_held a) i) refl
        where
          by : (t : Bool) → leb (messages_held a) i ≡ t → (message_in more i).first + (message_in more i).parameters ≤ rows_held a + n
          by true e =
              let z : i ≡ messages_held a = omega (arith, leb-true (messages_held a) i e) in
              rw z (omega (arith, more_parameters, more-first))
          by false e =
              let l : i < messages_held a = leb-false (messages_held a) i e in
              let s = more-before i h l in
              omega (arith, s.1, s.2, holds.within i l)

      pub holds_more : rows_held a + n ≤ max_parameters → Holds more
      holds_more few = record {
        whole = more-length ∙ whole;
        count = omega (arith, more-count);
        within = λ i k. rw more_rows (more_within i (rw more-count at k));
        rows = more_rows ∙ more-counted;
        few = omega (arith, more_rows);
      }
