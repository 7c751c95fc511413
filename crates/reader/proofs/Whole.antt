-- A whole request, from what its parts give.
use Prim.Native.Nat.{ℕ, ◌-◌, ◌≤◌}
use mathlib.Core.Path.{◌≡◌, refl, sym, ap, subst, ◌∙◌}
use mathlib.Core.List.{List, [], ◌∷◌}
use native.Mathlib.Omega.{arith}
use lib.ListN.{length, length-append}
use Rattle.std.specs.Prelude.{Result, Ok, Err}
use Rattle.wire.specs.Codes as blr
use Rattle.wire.specs.Limits.{max_request_bytes, max_messages, max_depth}
use Rattle.wire.specs.Words.{byte_at}
use Rattle.wire.specs.Versions.{is_version, version_of}
use Rattle.wire.specs.declared.codes.Version.{Version}
use Rattle.wire.specs.declared.refused.Refused.{Refused}
use Rattle.dictionary.specs.Dictionary.{Relation}
use Rattle.grammar.specs.declared.Cursor.{Cursor}
use Rattle.grammar.specs.declared.Refusal.{Refusal}
use Rattle.grammar.specs.declared.Refusal.TheVariants.{BadVersion, NotDue}
use Rattle.grammar.specs.Tree.{Message, Statements, Request}
use Rattle.grammar.specs.Bytes.{messages_bytes, statements_bytes}
use Rattle.grammar.specs.Environment.{Environment, outermost}
use Rattle.grammar.specs.Rows.{statements_start, outer_end, statements_rows, request_statement_rows, request_context_rows}
use Rattle.grammar.specs.Conditions.{request_conditions}
use Rattle.grammar.specs.Reader.{Read, read, refused, on_read, byte, tested, code, count_statement}
use Rattle.grammar.specs.Messages.{messages}
use Rattle.grammar.specs.Reading.{outer_statements, nothing_more, version, request, start}
use Rattle.grammar.specs.Internal.Steps.{cursor_of}
use Rattle.grammar.proofs.StepLaws.{cursor-read, cursor-refused}
use Rattle.grammar.proofs.Went.{Went, inside, undo, same, taken-read, tested-read, code-went, counted-went}
use Rattle.grammar.proofs.SoundMessages.{messages-sound}
use Rattle.grammar.proofs.Sound.{version-went, outer-sound}
use Rattle.scopes.specs.Scopes.{scope_of}
use Rattle.scopes.proofs.Scopes.{zeros, nothing-held, no_contexts, no-sends, no-labels}
use Rattle.messages.specs.Entries.{rows_held}
use Rattle.messages.specs.Declaring.{Declares}
use Rattle.references.specs.Promises.{environment_of}
use Rattle.tables.specs.Tables.{Tables, tables, laid, cursor_after, Wrote}
use Rattle.tables.proofs.Laid.{row-whole}
use Rattle.tables.specs.Written.{with_boolean, with_statement_row}
use Rattle.tables.proofs.Rows.{statement-row, boolean-row}
use Rattle.tables.proofs.Chains.{by_read, stopped}
use Rattle.openings.specs.Streams.{relations}
use Rattle.reader.specs.declared.statements.Level.{Level}
use Rattle.reader.specs.Given.{Given}
use Rattle.reader.specs.Readers.{Passed, StatementsRead, statements_tables}
use Rattle.reader.proofs.Parts.{on-passed}
use Rattle.reader.specs.Request.{Requested, request_tables, over, head_of, body_of, end_of, Beside, Begun}

-- a refusal leaves the tables free
pub whole-refused : {x : Read Request} {d pt pt' : List ℕ} {t t' : Tables} {y : Refused Refusal} → x ≡ refused y.refusal y.place →
    Requested x d pt pt' t t' (Err y)
whole-refused e = record { answer_is = rw e; parameters_filled = rw e; filled = rw e }

-- ---- after the messages

-- the level of the statements in the outer begin
abbrev outer : Level
outer = record { left = max_depth - 1; parent = 1 }

module _ (v : Version) (s d pt : List ℕ) (c : Cursor) (begun : Begun s d pt c) where
  abbrev declared : Read (List Message)
  declared = messages v max_messages [] s c

  abbrev around : List Message → Environment
  around ms = record { version = v; relations = relations d; messages = ms }

  module _ (ms : List Message) (c₁ : Cursor) (e : declared ≡ read ms c₁) where
    after-messages : Went s c (messages_bytes ms) 0 0 0 c₁
    after-messages =
        let w = messages-sound v s begun.beside.octets max_messages [] c ms c₁ e in
        subst (λ x. Went s c (messages_bytes x) 0 0 0 c₁) (sym w.whole) w.went

    within : c₁.at ≤ length s
    within = inside after-messages (omega (arith, begun.place, begun.inside))

    -- of the statements up to c₂
    module _ (ss : Statements) (c₂ : Cursor) (f : outer_statements v (relations d) ms s c₁ ≡ read ss c₂) where
      abbrev whole : Request
      whole = record { version = v; messages = ms; statements = ss }

      starts : c₁.at ≡ statements_start whole
      starts = omega (arith, after-messages.place, begun.place)

      ends : c₂.at ≡ outer_end whole
      ends =
          let w = (outer-sound s begun.beside.octets v (relations d) ms c₁ ss c₂ f).went in
          let l = length-append (statements_bytes ss) (blr.end ∷ []) in
          omega (arith, w.place, starts, l)

      ends-within : c₂.at ≤ max_request_bytes
      ends-within =
          let w = (outer-sound s begun.beside.octets v (relations d) ms c₁ ss c₂ f).went in
          omega (arith, inside w within, begun.beside.short)

      -- the rows of the statements, then that of the outer begin
      rows_whole : (st st₀ ct nd : List ℕ) (t₁ : Tables) → st₀ ≡ with_boolean st 0 0 →
          t₁ ≡ laid (tables st₀ ct nd) c₁ (statements_tables (around ms) outermost 1 c₁ ss) →
          tables (with_statement_row t₁.statements 0 1 blr.begin 0 c₂.at) t₁.contexts t₁.conditions ≡
          over (tables st ct nd) (request_tables d whole)
      unfolding request_statement_rows request_context_rows request_conditions
      rows_whole st st₀ ct nd t₁ h₀ h =
          let w = after-messages in
          let n : c₁.statements ≡ 1 = omega (arith, w.counted, begun.statements) in
          let k : c₁.contexts ≡ 0 = omega (arith, w.declared, begun.contexts) in
          let q : c₁.conditions ≡ 0 = omega (arith, w.noted, begun.conditions) in
          let row = statement-row t₁.statements 0 1 blr.begin 0 c₂.at (omega arith) (omega arith) (omega arith) ends-within in
          rw (
            row,
            h,
            h₀,
            boolean-row st 0 0 (omega arith) (omega arith),
            n,
            k,
            q,
            starts,
            ends,
            row-whole st (statements_rows ss (statements_start whole) 1 1 0) 0 5 0 1 blr.begin 0 (outer_end whole) refl,
          )

  -- ---- the whole, from the answers of the parts

  module _ (pt₁ a : List ℕ) {m : Passed} (h : Declares v declared pt pt₁ a m) where
    -- the messages were refused
    pub undeclared : {y : Refused Refusal} {t t' : Tables} → m ≡ Err y → Requested (body_of v (relations d) s c) d pt pt₁ t t' (Err y)
    unfolding body_of
    undeclared e = let u = cursor-refused declared (sym e ∙ h.answer) in whole-refused (rw (body_of, u))

    module _ {c₁ : Cursor} (e : m ≡ Ok c₁) where
      was_read : (ms : List Message) × (declared ≡ read ms c₁)
      was_read = cursor-read declared (sym e ∙ h.answer)

      -- what the reader of the statements is given
      pub given-after : Given s d zeros c₁ outer.left
      given-after =
          let w = after-messages was_read.0 c₁ was_read.1 in
          record {
            octets = begun.beside.octets;
            short = begun.beside.short;
            is-proper = begun.beside.is-proper;
            inside = within was_read.0 c₁ was_read.1;
            statements_few = omega (arith, w.counted, begun.statements);
            contexts_few = omega (arith, w.declared, begun.contexts);
            conditions_few = omega (arith, w.noted, begun.conditions);
            scope_whole = refl;
            scope_fits = omega (arith, no_contexts);
            sends_fit = omega (arith, no-sends);
            labels_fit = omega (arith, no-labels);
          }

      module _ (st st₀ ct nd : List ℕ) (t₁ : Tables) {r : Passed} (h₀ : st₀ ≡ with_boolean st 0 0)
          (w : StatementsRead outer (environment_of d a) (scope_of d zeros) s c₁ (tables st₀ ct nd) t₁ r) where
        abbrev Told : Tables → Result (ℕ × Cursor) (Refused Refusal) → Type 0
        Told t' r = Requested (body_of v (relations d) s c) d pt pt₁ (tables st ct nd) t' r

        -- the statements were read beside the messages
        known : (ms : List Message) → declared ≡ read ms c₁ →
            Wrote (outer_statements v (relations d) ms s c₁) cursor_after c₁ (statements_tables (around ms) outermost 1 c₁) (tables st₀ ct nd) t₁ r
        unfolding environment_of outer_statements
        known ms i = rw (rw i at h.held, h.version, nothing-held d) at w

        pub unended : {y : Refused Refusal} {t' : Tables} → r ≡ Err y → Told t' (Err y)
        unfolding body_of
        unended j = whole-refused (rw (body_of, was_read.1, stopped (known was_read.0 was_read.1) j))

        module _ {c₂ : Cursor} (j : r ≡ Ok c₂) {z : Passed} (k : z ≡ cursor_of (end_of s c₂)) where
          pub not-ended : {y : Refused Refusal} {t' : Tables} → z ≡ Err y → Told t' (Err y)
          unfolding body_of
          not-ended o = on-passed (known was_read.0 was_read.1) j (λ ss i f.
              whole-refused (rw (body_of, was_read.1, i, cursor-refused (end_of s c₂) (sym o ∙ k))))

          pub whole-body : {c₃ : Cursor} {st₂ : List ℕ} → z ≡ Ok c₃ → st₂ ≡ with_statement_row t₁.statements 0 1 blr.begin 0 c₂.at →
              Told (tables st₂ t₁.contexts t₁.conditions) (Ok (rows_held a, c₃))
          unfolding body_of
          whole-body {c₃} {st₂} o row = on-passed (known was_read.0 was_read.1) j (λ ss i f.
              let ms = was_read.0 in
              let n : declared ≡ read ms c₁ = was_read.1 in
              let q = cursor-read (end_of s c₂) (sym o ∙ k) in
              let b : body_of v (relations d) s c ≡ read (record { version = v; messages = ms; statements = ss }) c₃ = rw (body_of, n, i, q.1) in
              record {
                answer_is = rw (b, rw n at h.rows);
                parameters_filled = rw b (rw n at h.filled);
                filled = rw (b, row) (rows_whole ms c₁ n ss c₂ i st st₀ ct nd t₁ h₀ f);
              })

-- ---- the head, and the request from its head on

-- the cursor after the head
module _ (s d pt : List ℕ) (b : Beside s d pt) (v : Version) (c : Cursor) (h : head_of s start ≡ read v c) where
  pub begun-after : Begun s d pt c
  unfolding head_of
  begun-after =
      undo (version s start) _ h (λ x q e w. undo (code blr.begin NotDue s q) _ w (λ y q₁ e₁ w₁.
      undo (count_statement q.at s q₁) _ w₁ (λ u q₂ e₂ w₂.
      let i = version-went s start e in
      let j = code-went blr.begin NotDue s q e₁ in
      let k = (counted-went q.at s q₁ e₂).0 in
      same w₂ (λ v c. Begun s d pt c) (record {
        beside = b;
        place = omega (arith, i.place, j.place, k.place);
        inside = omega (arith, i.place, j.place, inside j (inside i (omega arith)));
        statements = omega (arith, i.counted, j.counted, k.counted);
        contexts = omega (arith, i.declared, j.declared, k.declared);
        conditions = omega (arith, i.noted, j.noted, k.noted);
      }))))

-- readings one after another
module _ {A B : Type 0} (x : Read A) where
  same_after : {f g : A → Cursor → Read B} → ((a : A) (q : Cursor) → f a q ≡ g a q) → on_read x f ≡ on_read x g
  same_after h = by_read x (λ a q e. rw e (h a q)) (λ n p e. rw e)

  in-turn : {C : Type 0} (f : A → Cursor → Read C) (g : C → Cursor → Read B) → on_read (on_read x f) g ≡ on_read x (λ a q. on_read (f a q) g)
  in-turn f g = by_read x (λ a q e. rw e) (λ n p e. rw e)

-- a request is its head and its body
request-parts : (d : List Relation) (s : List ℕ) → request d s start ≡ on_read (head_of s start) (λ v c. body_of v d s c)
unfolding request head_of body_of end_of
request-parts d s =
    same_after (version s start) (λ v q.
    same_after (code blr.begin NotDue s q) (λ y q₁.
    same_after (count_statement q.at s q₁) (λ u c.
    same_after (messages v max_messages [] s c) (λ ms c₁.
    same_after (outer_statements v d ms s c₁) (λ ss c₂.
    sym (in-turn (code blr.eoc NotDue s c₂) (λ z c₃. nothing_more s c₃)
    (λ z c₃. read (record { version = v; messages = ms; statements = ss }) c₃)))))
    ∙ sym (in-turn (count_statement q.at s q₁) (λ u c. read v c) (λ v c. body_of v d s c)))
    ∙ sym (in-turn (code blr.begin NotDue s q) (λ y q₁. on_read (count_statement q.at s q₁) (λ u c. read v c)) (λ v c. body_of v d s c)))
    ∙ sym (in-turn (version s start)
    (λ v q. on_read (code blr.begin NotDue s q) (λ y q₁. on_read (count_statement q.at s q₁) (λ u c. read v c))) (λ v c. body_of v d s c))

-- a request whose head is known
pub from-head : (d : List Relation) (s : List ℕ) {x : Read Version} → head_of s start ≡ x →
    request d s start ≡ on_read x (λ v c. body_of v d s c)
from-head d s e = request-parts d s ∙ ap (λ x. on_read x (λ v c. body_of v d s c)) e
