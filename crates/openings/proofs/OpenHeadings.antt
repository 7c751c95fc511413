-- Headings that open a scope: the row of the context that they declare, and the scope below. Assumes nothing.
use Prim.Native.Nat.{ℕ, ◌+◌, ◌<◌, ◌≤◌}
use mathlib.Core.Path.{◌≡◌, refl, sym, ap, ◌∙◌}
use mathlib.Core.List.{List}
use native.Mathlib.Nat.{add-zero}
use native.Mathlib.Omega.{arith}
use Rattle.std.specs.Prelude.{Result, Ok, Err}
use Rattle.wire.specs.Codes as blr
use Rattle.wire.specs.Limits.{max_contexts}
use Rattle.wire.specs.declared.codes.StatementCode.{StatementCode}
use Rattle.wire.specs.declared.codes.StatementCode.TheVariants as Code
use Rattle.wire.specs.declared.refused.Refused.{Refused}
use Rattle.grammar.specs.declared.Cursor.{Cursor}
use Rattle.grammar.specs.declared.Refusal.{Refusal}
use Rattle.grammar.specs.declared.Refusal.TheVariants.{TooGreat}
use Rattle.grammar.specs.Tree.{Heading, modify, store}
use Rattle.grammar.specs.Environment as Grammar
use Rattle.grammar.specs.Environment.{Environment, under_update, under_heading, stream_context, modify_context}
use Rattle.grammar.specs.Sizes.{heading_contexts}
use Rattle.grammar.specs.Rows.{context_row}
use Rattle.grammar.specs.Reader.{Read, read, refused, byte}
use Rattle.grammar.specs.Statements.{stream, exchanged, modify_heading, send_heading, store_heading, label_heading}
use Rattle.grammar.specs.Internal.Steps.{answer_of}
use Rattle.grammar.proofs.StepLaws.{answer-refused}
use Rattle.grammar.specs.Demands.{Octets}
use Rattle.scopes.specs.declared.scope.Context.{Context}
use Rattle.scopes.specs.Scopes.{with_context, with_send, with_label, with_target, context_of, scope_of}
use Rattle.scopes.proofs.Scopes.{scope-updating, scope-sending, scope-labelled, with-context-length, with-context-count}
use Rattle.scopes.proofs.Scopes.{with-context-sends, with-context-labels, with-target-length, with-target-contexts, with-target-sends}
use Rattle.scopes.proofs.Scopes.{with-target-labels, with-send-length, with-send-contexts, with-send-labels, with-send-count}
use Rattle.scopes.proofs.Scopes.{with-label-length, with-label-contexts, with-label-sends, with-label-count}
use Rattle.tables.specs.Tables.{open_row}
use Rattle.openings.specs.Streams.{relations, context_in}
use Rattle.openings.specs.Headings.{Modifies}
use Rattle.openings.specs.Openings.{Added, Updated, Prepared, OpensHeading, opening_reader, OpensCoded}
use Rattle.openings.proofs.OpenLaws.{opens-nothing, stream-next, held_below, row-added}

-- ---- a send

module _ {s d sc : List ℕ} {c : Cursor} (ready : Prepared s d sc c) (e : Environment) (p : ℕ) (ct : List ℕ) where
  pub opens-send : {m : ℕ} {q : Cursor} → exchanged e (scope_of d sc) p s c ≡ read m q →
      OpensHeading (send_heading e (scope_of d sc) p s c) d p c ct ct sc (with_send sc m) (Ok q)
  unfolding send_heading heading_contexts under_heading
  opens-send {m} i = rw (send_heading, i) (record {
    answer = refl;
    contexts_filled = refl;
    scope_below = scope-sending d sc ready.scope_whole m ready.sends_fit;
    count_below = with-send-contexts sc m ∙ sym (add-zero _);
    whole_below = with-send-length sc m ∙ ready.scope_whole;
    sends_below = with-send-count sc m;
    labels_below = omega (arith, with-send-labels sc m);
  })

  pub send-refused : {y : Refused Refusal} → exchanged e (scope_of d sc) p s c ≡ refused y.refusal y.place →
      OpensHeading (send_heading e (scope_of d sc) p s c) d p c ct ct sc sc (Err y)
  unfolding send_heading
  send-refused i = opens-nothing ready.scope_whole (rw (send_heading, i))

-- ---- a label

module _ {s d sc : List ℕ} {c : Cursor} (ready : Prepared s d sc c) (p : ℕ) (ct : List ℕ) where
  pub opens-label : {n : ℕ} {q : Cursor} → byte s c ≡ read n q →
      OpensHeading (label_heading s c) d p c ct ct sc (with_label sc n) (Ok q)
  unfolding label_heading heading_contexts under_heading
  opens-label {n} i = rw (label_heading, i) (record {
    answer = refl;
    contexts_filled = refl;
    scope_below = scope-labelled d sc ready.scope_whole n ready.labels_fit;
    count_below = with-label-contexts sc n ∙ sym (add-zero _);
    whole_below = with-label-length sc n ∙ ready.scope_whole;
    sends_below = omega (arith, with-label-sends sc n);
    labels_below = with-label-count sc n;
  })

  pub label-refused : {y : Refused Refusal} → byte s c ≡ refused y.refusal y.place →
      OpensHeading (label_heading s c) d p c ct ct sc sc (Err y)
  unfolding label_heading
  label-refused i = opens-nothing ready.scope_whole (rw (label_heading, i))

-- ---- a store and a modify

module _ {s d sc : List ℕ} {c : Cursor} (ready : Prepared s d sc c) (p : ℕ) {y : Read Heading} {q : Cursor} where
  opens-update : (x : Context) (h : Heading) (z : Grammar.Context) (place : ℕ) {ct ct' sc' : List ℕ} → y ≡ read h q → context_of d x ≡ z →
      open_row (relations d) (scope_of d sc) h p ≡ context_row z place 0 0 → heading_contexts h ≡ 1 →
      under_heading (relations d) (scope_of d sc) h ≡ under_update (scope_of d sc) z → c.contexts < max_contexts → place ≤ c.at →
      Added d x c.contexts place ct ct' sc sc' →
      OpensHeading y d p c ct ct' sc (with_target sc' x.number.0) (Ok q)
  opens-update x h z place {ct} e k o n u room low added =
      let w = with_context sc x in
      let t = x.number.0 in
      rw (e, added.scope_is) (record {
        answer = refl;
        contexts_filled = row-added ready room x added low k ∙ rw o;
        scope_below =
            scope-updating d sc ready.scope_whole x (held_below ready room x) ∙ ap (under_update (scope_of d sc)) k ∙ sym u;
        count_below = with-target-contexts w t ∙ with-context-count sc x ready.scope_whole (held_below ready room x) ∙ rw n;
        whole_below = with-target-length w t ∙ with-context-length sc x ∙ ready.scope_whole;
        sends_below = omega (arith, with-target-sends w t, with-context-sends sc x);
        labels_below = omega (arith, with-target-labels w t, with-context-labels sc x);
      })

module _ {s d sc : List ℕ} {c : Cursor} (ready : Prepared s d sc c) {p : ℕ} {ct ct' sc' : List ℕ} {r : Result Cursor (Refused Refusal)} where
  pub opens-modify : (b : Result (Context × Cursor) (Refused Refusal)) → Modifies sc p s c b → Updated d b c.contexts p ct ct' sc sc' r →
      p ≤ c.at → OpensHeading (modify_heading (scope_of d sc) p s c) d p c ct ct' sc sc' r
  unfolding heading_contexts under_heading
  opens-modify (Ok (x, q)) m (mid, added, e, f) low = let (n, i, k, room) = m d in
      rw (e, f) (opens-update ready p x (modify n x.number.0) (modify_context (scope_of d sc) n x.number.0) p i k
      refl refl refl room low added)
  opens-modify (Err y) m (e, f, g) low = rw (e, f, g) (opens-nothing ready.scope_whole (m d))

  pub opens-store : Octets s → (b : Result (Context × Cursor) (Refused Refusal)) →
      b ≡ answer_of (context_in d blr.store) (stream (relations d) (scope_of d sc) s c) →
      Updated d b c.contexts c.at ct ct' sc sc' r → c.at ≡ p + 1 →
      OpensHeading (store_heading (relations d) (scope_of d sc) s c) d p c ct ct' sc sc' r
  unfolding heading_contexts under_heading store_heading
  opens-store octets (Ok (x, q)) a (mid, added, e, f) g =
      let i = stream-next s d octets ready.is-proper blr.store sc c a in
      let row = stream_context (relations d) blr.store i.st in
      rw (e, f) (opens-update ready p x (store i.st) row c.at (rw (store_heading, i.is_read)) i.context_is
      (ap (λ z. context_row row z 0 0) (sym g)) refl refl i.room (omega arith) added)
  opens-store octets (Err y) a (e, f, g) h =
      let i = answer-refused (context_in d blr.store) (stream (relations d) (scope_of d sc) s c) a in
      rw (e, f, g) (opens-nothing ready.scope_whole (rw (store_heading, i)))

-- ---- by the code of the statement

-- another code has no heading that opens a scope
pub opening-none : (e : Environment) (sc : Grammar.Scope) (p : ℕ) (s : List ℕ) (c : Cursor) (k : StatementCode) → (k ≡ Code.Modify → ⊥) →
    (k ≡ Code.Send → ⊥) → (k ≡ Code.Store → ⊥) → (k ≡ Code.Label → ⊥) → opening_reader e sc p k s c ≡ refused TooGreat p
opening-none e sc p s c Code.Assignment m t o l = refl
opening-none e sc p s c Code.Begin m t o l = refl
opening-none e sc p s c Code.Erase m t o l = refl
opening-none e sc p s c Code.For m t o l = refl
opening-none e sc p s c Code.Loop m t o l = refl
opening-none e sc p s c Code.Modify m t o l = absurd (m refl)
opening-none e sc p s c Code.Handler m t o l = refl
opening-none e sc p s c Code.Receive m t o l = refl
opening-none e sc p s c Code.Send m t o l = absurd (t refl)
opening-none e sc p s c Code.Store m t o l = absurd (o refl)
opening-none e sc p s c Code.Label m t o l = absurd (l refl)
opening-none e sc p s c Code.Leave m t o l = refl
opening-none e sc p s c Code.If m t o l = refl
opening-none e sc p s c Code.Select m t o l = refl

pub heading-coded : {k : StatementCode} {e : Environment} {s d : List ℕ} {p : ℕ} {c : Cursor} {ct ct' sc sc' : List ℕ}
    {r : Result Cursor (Refused Refusal)} →
    (k ≡ Code.For → ⊥) → OpensHeading (opening_reader e (scope_of d sc) p k s c) d p c ct ct' sc sc' r →
    OpensCoded k e s d p c ct ct' sc sc' r
heading-coded n h = record { for_opens = λ e. absurd (n e); heading_opens = λ _. h }
