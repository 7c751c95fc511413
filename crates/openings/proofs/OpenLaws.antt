-- Contexts that were opened: their rows, and what the scope with them stands for. Assumes nothing.
use Prim.Native.Nat.{ℕ, zero, suc, ◌+◌, ◌-◌, ◌*◌, ◌<◌, ◌≤◌}
use mathlib.Core.Path.{◌≡◌, refl, sym, ap, ◌∙◌}
use mathlib.Core.Bool.{true}
use mathlib.Core.List.{List, [], ◌∷◌, append_assoc, append-nil}
use native.Mathlib.Nat.{add-zero}
use native.Mathlib.Omega.{arith}
use lib.ListN.{length}
use lib.Seq.{sets}
use Rattle.std.specs.Prelude.{Result, Ok, Err}
use Rattle.wire.specs.Codes as blr
use Rattle.wire.specs.Limits.{max_contexts, context_row_numbers}
use Rattle.wire.specs.Lists.{is_some}
use Rattle.wire.specs.declared.refused.Refused.{Refused}
use Rattle.dictionary.specs.Dictionary.{Relation}
use Rattle.dictionary.specs.Naming.{relation_of}
use Rattle.grammar.specs.declared.Cursor.{Cursor}
use Rattle.grammar.specs.declared.Refusal.{Refusal}
use Rattle.grammar.specs.declared.Refusal.TheVariants.{NotDue}
use Rattle.grammar.specs.Tree.{Stream}
use Rattle.grammar.specs.Bytes.{stream_bytes}
use Rattle.grammar.specs.Environment as Grammar
use Rattle.grammar.specs.Environment.{stream_context, with_contexts, under_streams}
use Rattle.grammar.specs.Rows.{context_row, stream_rows}
use Rattle.grammar.specs.Reader.{Read, read, refused, on_read, code}
use Rattle.grammar.specs.Statements.{stream, streams, stream_count, rse_head}
use Rattle.grammar.specs.Demands.{Octets}
use Rattle.grammar.specs.Internal.Steps.{answer_of}
use Rattle.grammar.proofs.StepLaws.{answer-read, answer-refused}
use Rattle.grammar.proofs.Went.{Passed, inside, onward, code-went}
use Rattle.grammar.proofs.SoundRses.{stream-sound, stream-count-went}
use Rattle.scopes.specs.Internal.Columns.{scope_numbers}
use Rattle.scopes.specs.declared.scope.Context.{Context}
use Rattle.scopes.specs.Scopes.{contexts_held, sends_held, labels_held, context_of, scope_of}
use Rattle.scopes.proofs.Scopes.{scope-with, with-context-length, with-context-count, with-context-sends, with-context-labels}
use Rattle.tables.proofs.Stores.{sets-append}
use Rattle.tables.proofs.Rows.{context-row}
use Rattle.openings.specs.Streams.{relations, Proper, context_in}
use Rattle.openings.specs.Openings.{Added, Prepared, Opens, OpensStreams, OpensHead}
use Rattle.openings.proofs.StreamLaws.{relation-there}

-- a reading that was refused leaves everything as it is
pub opens-nothing : {A : Type 0} {x : Read A} {d ct : List ℕ} {row : ℕ} {rows : A → List ℕ} {below : A → Grammar.Scope} {opened : A → ℕ}
    {sc : List ℕ} {y : Refused Refusal} → length sc ≡ scope_numbers → x ≡ refused y.refusal y.place →
    Opens x d ct row rows below opened ct sc sc (Err y)
opens-nothing whole e = record {
  answer = rw e;
  contexts_filled = rw e;
  scope_below = rw e;
  count_below = rw e;
  whole_below = whole;
  sends_below = omega arith;
  labels_below = omega arith;
}

-- ---- one context

-- a context that a statement of the code f declares, beside the scope as the code has it
pub record Next (s d : List ℕ) (f : ℕ) (sc : List ℕ) (c : Cursor) (x : Context) (q : Cursor) : Type 0 where
  pub st : Stream
  pub is_read : stream (relations d) (scope_of d sc) s c ≡ read st q
  pub place : q.at ≡ c.at + length (stream_bytes st)
  pub declared : q.contexts ≡ c.contexts + 1
  pub room : c.contexts < max_contexts
  pub within : c.at ≤ length s → q.at ≤ length s
  pub context_is : context_of d x ≡ stream_context (relations d) f st

pub stream-next : (s d : List ℕ) → Octets s → Proper d → (f : ℕ) (sc : List ℕ) (c : Cursor) {x : Context} {q : Cursor} →
    Ok (x, q) ≡ answer_of (context_in d f) (stream (relations d) (scope_of d sc) s c) → Next s d f sc c x q
stream-next s d octets is-proper f sc c {x} {q} e =
    let u = answer-read (context_in d f) (stream (relations d) (scope_of d sc) s c) e in
    let i = stream-sound s octets (relations d) (scope_of d sc) c u.0 q u.1 in
    record {
      st = u.0;
      is_read = u.1;
      place = i.went.place;
      declared = i.went.declared;
      room = omega (arith, i.went.declared, i.few);
      within = inside i.went;
      context_is = ap (context_of d) u.2 ∙ known u.0 i.scoped.0;
    }
  where
    known : (st : Stream) → is_some (relation_of (relations d) st.relation) ≡ true →
        context_of d (context_in d f st) ≡ stream_context (relations d) f st
    known st e = rw (relation-there d is-proper st.relation e)

module _ {s d sc : List ℕ} {c : Cursor} (ready : Prepared s d sc c) (room : c.contexts < max_contexts) (x : Context) where
  pub held_below : contexts_held sc < max_contexts
  held_below = omega (arith, ready.scope_fits)

  pub row-added : {ct ct' sc' : List ℕ} {place : ℕ} {z : Grammar.Context} → Added d x c.contexts place ct ct' sc sc' → place ≤ c.at →
      context_of d x ≡ z → ct' ≡ sets ct (c.contexts * context_row_numbers) (context_row z place 0 0)
  row-added {ct} {place} {z} added h k =
      added.filled ∙
      context-row ct c.contexts _ place _ _ (omega arith) (omega (arith, ready.inside, ready.short)) ∙
      ap (λ w. sets ct (c.contexts * context_row_numbers) (context_row w place 0 0)) k

-- ---- several streams

no-streams : (rs : List Relation) (o : ℕ) (sc : Grammar.Scope) → sc ≡ under_streams rs o sc []
unfolding under_streams
no-streams rs o sc = rw (append-nil sc.contexts)

under_more : (rs : List Relation) (o : ℕ) (sc : Grammar.Scope) (st : Stream) (ss : List Stream) →
    under_streams rs o (under_streams rs o sc (st ∷ [])) ss ≡ under_streams rs o sc (st ∷ ss)
unfolding under_streams
under_more rs o sc st ss = rw append_assoc

streams-more : (n : ℕ) (rs : List Relation) (o : ℕ) (sc : Grammar.Scope) (s : List ℕ) (c : Cursor) {st : Stream} {q : Cursor} → 0 < n →
    stream rs sc s c ≡ read st q →
    streams n rs o sc s c ≡ on_read (streams (n - 1) rs o (under_streams rs o sc (st ∷ [])) s q) (λ ss q. read (st ∷ ss) q)
unfolding streams
streams-more zero rs o sc s c z e = absurd (omega arith)
streams-more (suc n) rs o sc s c z e = let h : suc n - 1 ≡ n = omega arith in rw (h, streams, e)

-- no stream, and a stream that was refused
module _ {s d sc : List ℕ} {c : Cursor} (ready : Prepared s d sc c) (ct : List ℕ) (o : ℕ) where
  pub opens-none : (n : ℕ) → n ≡ 0 →
      OpensStreams o (streams n (relations d) o (scope_of d sc) s c) d c ct ct sc sc (Ok c)
  unfolding streams stream_rows
  opens-none n e = rw (e, streams) (record {
    answer = refl;
    contexts_filled = refl;
    scope_below = no-streams (relations d) o (scope_of d sc);
    count_below = sym (add-zero _);
    whole_below = ready.scope_whole;
    sends_below = omega arith;
    labels_below = omega arith;
  })

  pub opens-refused : (n : ℕ) {y : Refused Refusal} → 0 < n →
      Err y ≡ answer_of (context_in d o) (stream (relations d) (scope_of d sc) s c) →
      OpensStreams o (streams n (relations d) o (scope_of d sc) s c) d c ct ct sc sc (Err y)
  unfolding streams
  opens-refused zero h e = absurd (omega arith)
  opens-refused (suc n) h e = opens-nothing ready.scope_whole
      (rw (streams, answer-refused (context_in d o) (stream (relations d) (scope_of d sc) s c) e))

-- one stream, and the others after it
module _ {s d sc : List ℕ} {c : Cursor} (ready : Prepared s d sc c) {o : ℕ} {x : Context} {q : Cursor} (i : Next s d o sc c x q)
    {ct ct' sc' : List ℕ} (added : Added d x c.contexts c.at ct ct' sc sc') where
  count_next : contexts_held sc' ≡ contexts_held sc + 1
  count_next = ap contexts_held added.scope_is ∙ with-context-count sc x ready.scope_whole (held_below ready i.room x)

  sends-next : sends_held sc' ≡ sends_held sc
  sends-next = ap sends_held added.scope_is ∙ with-context-sends sc x

  labels_next : labels_held sc' ≡ labels_held sc
  labels_next = ap labels_held added.scope_is ∙ with-context-labels sc x

  ready-next : Prepared s d sc' q
  ready-next = record {
    short = ready.short;
    is-proper = ready.is-proper;
    inside = i.within ready.inside;
    scope_whole = ap length added.scope_is ∙ with-context-length sc x ∙ ready.scope_whole;
    scope_fits = omega (arith, count_next, ready.scope_fits, i.declared);
    sends_fit = rw sends-next ready.sends_fit;
    labels_fit = rw labels_next ready.labels_fit;
  }

  scope-next : scope_of d sc' ≡ under_streams (relations d) o (scope_of d sc) (i.st ∷ [])
  unfolding under_streams
  scope-next =
      ap (scope_of d) added.scope_is ∙ scope-with d sc ready.scope_whole x (held_below ready i.room x) ∙
      ap (λ y. with_contexts (scope_of d sc) (y ∷ [])) i.context_is

  rows_next : (ss : List Stream) →
      sets ct' (q.contexts * context_row_numbers) (stream_rows (relations d) o ss q.at 0 0) ≡
      sets ct (c.contexts * context_row_numbers) (stream_rows (relations d) o (i.st ∷ ss) c.at 0 0)
  unfolding stream_rows
  rows_next ss =
      let row = context_row (stream_context (relations d) o i.st) c.at 0 0 in
      let e : q.contexts * context_row_numbers ≡ c.contexts * context_row_numbers + context_row_numbers = omega (arith, i.declared) in
      rw (row-added ready i.room x added (omega arith) i.context_is, e, i.place)
      (sym (sets-append row (stream_rows (relations d) o ss (c.at + length (stream_bytes i.st)) 0 0) ct (c.contexts * context_row_numbers)))

  opens-next : (n : ℕ) {ct'' sc'' : List ℕ} {r : Result Cursor (Refused Refusal)} → 0 < n →
      OpensStreams o (streams (n - 1) (relations d) o (scope_of d sc') s q) d q ct' ct'' sc' sc'' r →
      OpensStreams o (streams n (relations d) o (scope_of d sc) s c) d c ct ct'' sc sc'' r
  opens-next n {ct''} {sc''} {r} z h =
      rw (streams-more n (relations d) o (scope_of d sc) s c z i.is_read, sym scope-next)
      (go (streams (n - 1) (relations d) o (scope_of d sc') s q) h)
    where
      go : (y : Read (List Stream)) → OpensStreams o y d q ct' ct'' sc' sc'' r →
          OpensStreams o (on_read y (λ ss q. read (i.st ∷ ss) q)) d c ct ct'' sc sc'' r
      go (read ss q') h = record {
        answer = h.answer;
        contexts_filled = h.contexts_filled ∙ rows_next ss;
        scope_below =
            h.scope_below ∙ ap (λ z. under_streams (relations d) o z ss) scope-next ∙ under_more (relations d) o (scope_of d sc) i.st ss;
        count_below = omega (arith, count_next, h.count_below);
        whole_below = h.whole_below;
        sends_below = omega (arith, sends-next, h.sends_below);
        labels_below = omega (arith, labels_next, h.labels_below);
      }
      go (refused z p) h = record {
        answer = h.answer;
        contexts_filled = refl;
        scope_below = refl;
        count_below = refl;
        whole_below = h.whole_below;
        sends_below = omega (arith, sends-next, h.sends_below);
        labels_below = omega (arith, labels_next, h.labels_below);
      }

-- ---- the loop over streams

-- the streams from c on, of which so many are left at a cursor: what these open with the rest is what all open
pub record Opening (o : ℕ) (s d ct sc : List ℕ) (c : Cursor) (n : ℕ) (ct₁ sc₁ : List ℕ) (at : Cursor) (left : ℕ) : Type 0 where
  pub ready : Prepared s d sc₁ at
  pub all : {ct' sc' : List ℕ} {r : Result Cursor (Refused Refusal)} → OpensStreams o (streams left (relations d) o (scope_of d sc₁) s at) d at ct₁ ct' sc₁ sc' r →
      OpensStreams o (streams n (relations d) o (scope_of d sc) s c) d c ct ct' sc sc' r

pub stream-opened : {s d ct sc ct₁ sc₁ ct₂ sc₂ : List ℕ} {c at : Cursor} {n left o : ℕ} → Opening o s d ct sc c n ct₁ sc₁ at left →
    Octets s → 0 < left → {x : Context} {q : Cursor} →
    (Proper d → Ok (x, q) ≡ answer_of (context_in d o) (stream (relations d) (scope_of d sc₁) s at)) →
    Added d x at.contexts at.at ct₁ ct₂ sc₁ sc₂ → Opening o s d ct sc c n ct₂ sc₂ q (left - 1)
stream-opened {s} {d} {sc₁} {at} {left} {o} w octets some e added =
    let proper = w.ready.is-proper in
    let i = stream-next s d octets proper o sc₁ at (e proper) in
    record { ready = ready-next w.ready i added; all = λ h. w.all (opens-next w.ready i added left some h) }

-- ---- the head of an rse, after its code and its count

module _ {s d sc : List ℕ} {c : Cursor} (ready : Prepared s d sc c) (most o : ℕ) where
  module _ {k : ℕ} {q : Cursor} (i : code blr.rse NotDue s c ≡ read k q) where
    module _ {n : ℕ} {q₁ : Cursor} (j : stream_count most s q ≡ read n q₁) where
      first-went : Passed s c (blr.rse ∷ n ∷ []) q₁
      first-went = onward (code-went blr.rse NotDue s c i) (stream-count-went most s q j).0

      ready-head : Prepared s d sc q₁
      ready-head = record {
        short = ready.short;
        is-proper = ready.is-proper;
        inside = inside first-went ready.inside;
        scope_whole = ready.scope_whole;
        scope_fits = omega (arith, ready.scope_fits, first-went.declared);
        sends_fit = ready.sends_fit;
        labels_fit = ready.labels_fit;
      }

      pub opens-head : {ct ct' sc' : List ℕ} {r : Result Cursor (Refused Refusal)} →
          (Prepared s d sc q₁ → OpensStreams o (streams n (relations d) o (scope_of d sc) s q₁) d q₁ ct ct' sc sc' r) →
          OpensHead o (rse_head most (relations d) o (scope_of d sc) s c) d c ct ct' sc sc' r
      unfolding rse_head
      opens-head h =
          let w : q₁.at ≡ c.at + 2 = first-went.place in
          let z : q₁.contexts ≡ c.contexts = first-went.declared ∙ add-zero _ in
          rw (rse_head, i, j, sym z, sym w) (h ready-head)

    pub head-uncounted : {ct : List ℕ} {y : Refused Refusal} → stream_count most s q ≡ refused y.refusal y.place →
        OpensHead o (rse_head most (relations d) o (scope_of d sc) s c) d c ct ct sc sc (Err y)
    unfolding rse_head
    head-uncounted j = opens-nothing ready.scope_whole (rw (rse_head, i, j))

  pub head-refused : {ct : List ℕ} {y : Refused Refusal} → code blr.rse NotDue s c ≡ refused y.refusal y.place →
      OpensHead o (rse_head most (relations d) o (scope_of d sc) s c) d c ct ct sc sc (Err y)
  unfolding rse_head
  head-refused i = opens-nothing ready.scope_whole (rw (rse_head, i))
