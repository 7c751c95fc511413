-- Statements with a heading, and a for: what opens contexts, the statement under it, and the contexts' scope.
use Prim.Native.Nat.{ℕ, ◌+◌, ◌*◌, ◌≤◌}
use mathlib.Core.Path.{◌≡◌, refl, sym, ap, ◌∙◌}
use mathlib.Core.Bool.{true, false, cond, false≢true}
use mathlib.Core.List.{List, [], ◌++◌}
use native.Mathlib.Omega.{arith}
use lib.ListN.{length, length-append}
use lib.Seq.{sets}
use Rattle.std.specs.Prelude.{Result, Ok, Err}
use Rattle.wire.specs.Limits.{max_statements, context_row_numbers}
use Rattle.wire.specs.Options.{refused_at}
use Rattle.wire.specs.declared.refused.Refused.{Refused}
use Rattle.wire.specs.declared.codes.StatementCode.{StatementCode}
use Rattle.wire.specs.declared.codes.StatementCode.TheVariants as Code
use Rattle.dictionary.specs.Dictionary.{Relation}
use Rattle.grammar.specs.declared.Cursor.{Cursor}
use Rattle.grammar.specs.declared.Refusal.{Refusal}
use Rattle.grammar.specs.Tree as Tree
use Rattle.grammar.specs.Tree.{Heading, loop, handler, Statement, headed}
use Rattle.grammar.specs.Bytes.{heading_bytes, statement_bytes}
use Rattle.grammar.specs.Environment.{Environment, Scope, under_heading}
use Rattle.grammar.specs.Sizes.{heading_contexts, own_conditions}
use Rattle.grammar.specs.Rows.{size, heading_rows, rows_below, context_rows}
use Rattle.grammar.specs.Conditions.{conditions}
use Rattle.grammar.specs.Reader.{Read, read, refused, Reader}
use Rattle.grammar.specs.Statements.{exchanged, receive_heading, headed_under, statement_under, read_statement}
use Rattle.grammar.specs.Internal.Steps.{cursor_of}
use Rattle.grammar.specs.Demands.{Octets}
use Rattle.grammar.proofs.StepLaws.{absurd-eq, cursor-read, cursor-refused}
use Rattle.grammar.proofs.Went.{inside, undo, same, within-one}
use Rattle.grammar.proofs.SoundRses.{HeadingSound, plain-heading-sound, receive-heading-sound, send-heading-sound, label-heading-sound, modify-heading-sound, store-heading-sound}
use Rattle.grammar.proofs.SoundStatements.{statement-sound}
use Rattle.scopes.specs.Scopes.{scope_of}
use Rattle.tables.specs.Tables.{Tables, tables, laid, open_row}
use Rattle.tables.specs.Written.{closed_after}
use Rattle.tables.proofs.Closed.{heading-closed}
use Rattle.tables.proofs.Chains.{by_read}
use Rattle.openings.specs.declared.heads.Coded.{Coded}
use Rattle.openings.specs.Streams.{relations}
use Rattle.openings.specs.Openings.{OpensHeading, opening_reader, plain_reader}
use Rattle.expressions.proofs.Parts.{rows-after}
use Rattle.reader.specs.declared.statements.Level.{Level}
use Rattle.reader.specs.Given.{Given, Inside, Below, opens_scope, has_heading}
use Rattle.reader.specs.Readers.{Passed, level_under, inner_at, statement_tables, StatementRead, CodedRead, OpenedRead, HeadingRead}
use Rattle.reader.proofs.Matches.{opening-has}
use Rattle.reader.proofs.Parts.{under-stop, under-fill}
use Rattle.reader.proofs.Ready.{fine_of, fine-went, given-at, given-opened}

-- ---- the codes with a heading

-- what reads the heading after the code at p
abbrev heading_reader : Environment → Scope → ℕ → StatementCode → Reader Heading
heading_reader e sc p k = cond (opens_scope k) (opening_reader e sc p k) (plain_reader e sc p k)

-- a heading that opens no scope
record Plain (e : Environment) (sc : Scope) (h : Heading) : Type 0 where
  below : under_heading e.relations sc h ≡ sc
  contexts : heading_contexts h ≡ 0
  rows : (p end : ℕ) → heading_rows e.relations sc h p end ≡ []

-- under a code stand a heading and a statement
record HeadingFirst (s : List ℕ) (e : Environment) (sc : Scope) (l : ℕ) (x : Coded) : Type 0 where
  under : statement_under (inner_at l e) e sc x.at x.code s x.after ≡
      headed_under (inner_at l e) e sc (heading_reader e sc x.at x.code) s x.after
  sound : (h : Heading) (q : Cursor) → heading_reader e sc x.at x.code s x.after ≡ read h q →
      HeadingSound e sc x.code s x.after h q
  plain : opens_scope x.code ≡ false → (h : Heading) (q : Cursor) → heading_reader e sc x.at x.code s x.after ≡ read h q →
      Plain e sc h

module _ (s : List ℕ) (octets : Octets s) (e : Environment) (sc : Scope) (l p : ℕ) (c : Cursor) where
  headed-at : (k : StatementCode) → has_heading k ≡ true → (k ≡ Code.For → ⊥) →
      HeadingFirst s e sc l (record { code = k; at = p; after = c })
  unfolding statement_under heading_bytes heading_contexts heading_rows under_heading receive_heading
  headed-at Code.Assignment h z = absurd (false≢true h)
  headed-at Code.Begin h z = absurd (false≢true h)
  headed-at Code.Erase h z = absurd (false≢true h)
  headed-at Code.For h z = absurd (z refl)
  headed-at Code.Loop h z = record {
    under = refl;
    sound = plain-heading-sound e sc s Code.Loop loop refl refl tt c;
    plain = λ o h q y. same y (λ h q. Plain e sc h) (record { below = refl; contexts = refl; rows = λ i j. refl });
  }
  headed-at Code.Modify h z = record { under = refl; sound = modify-heading-sound e sc s p c; plain = λ o. absurd (false≢true (sym o)) }
  headed-at Code.Handler h z = record {
    under = refl;
    sound = plain-heading-sound e sc s Code.Handler handler refl refl tt c;
    plain = λ o h q y. same y (λ h q. Plain e sc h) (record { below = refl; contexts = refl; rows = λ i j. refl });
  }
  headed-at Code.Receive h z = record {
    under = refl;
    sound = receive-heading-sound e sc s p c;
    plain = λ o h q y. undo (exchanged e sc p s c) _ y (λ m q₁ y₁ v.
        same v (λ h q. Plain e sc h) (record { below = refl; contexts = refl; rows = λ i j. refl }));
  }
  headed-at Code.Send h z = record { under = refl; sound = send-heading-sound e sc s p c; plain = λ o. absurd (false≢true (sym o)) }
  headed-at Code.Store h z = record { under = refl; sound = store-heading-sound e sc s octets c; plain = λ o. absurd (false≢true (sym o)) }
  headed-at Code.Label h z = record { under = refl; sound = label-heading-sound e sc s c; plain = λ o. absurd (false≢true (sym o)) }
  headed-at Code.Leave h z = absurd (false≢true h)
  headed-at Code.If h z = absurd (false≢true h)
  headed-at Code.Select h z = absurd (false≢true h)

-- ---- a heading and a statement

module _ (s : List ℕ) (octets : Octets s) (e : Environment) (sc : Scope) (level : Level) (x : Coded) (here : x.after.at ≡ x.at + 1)
    (parent : level.parent ≡ x.after.statements) (k : HeadingFirst s e sc level.left x) where
  heading-refused : {n : Refusal} {p : ℕ} → heading_reader e sc x.at x.code s x.after ≡ refused n p →
      statement_under (inner_at level.left e) e sc x.at x.code s x.after ≡ refused n p
  unfolding headed_under
  heading-refused i = k.under ∙ rw (headed_under, i)

  module _ {h : Heading} {q : Cursor} (i : heading_reader e sc x.at x.code s x.after ≡ read h q) where
    abbrev below : Scope
    below = under_heading e.relations sc h

    abbrev rows : Statement → Cursor → List ℕ
    rows t q₁ = heading_rows e.relations sc h x.at q₁.at ++ context_rows e.relations below t q.at

    headed-wrote : {st ct nd ct₁ st₁ ct₂ nd₁ ct₃ : List ℕ} {r : Passed} →
        StatementRead level e below s q (tables st ct₁ nd) (tables st₁ ct₂ nd₁) r →
        ((t : Statement) (q₁ : Cursor) → read_statement level.left e below s q ≡ read t q₁ → r ≡ Ok q₁ →
        ct₂ ≡ sets ct₁ (q.contexts * context_row_numbers) (context_rows e.relations below t q.at) →
        ct₃ ≡ sets ct (x.after.contexts * context_row_numbers) (rows t q₁)) →
        CodedRead level.left e sc s x (tables st ct nd) (tables st₁ ct₃ nd₁) r
    unfolding headed_under rows_below context_rows conditions statement_bytes own_conditions
    headed-wrote {st} {ct} {nd} {ct₁} {st₁} {ct₂} {nd₁} {ct₃} {r} w closing = by_read (read_statement level.left e below s q)
        (λ t q₁ y.
        let o = k.sound h q i in
        let m = (statement-sound s octets e level.left below q t q₁ y).went in
        let re : r ≡ Ok q₁ = w.answer ∙ rw y in
        let te : tables st₁ ct₂ nd₁ ≡ laid (tables st ct₁ nd) q
        (statement_tables e.relations below t q.at q.statements level.parent q.conditions) =
        rw y at w.filled in
        let there : q.at ≡ x.at + length (heading_bytes h) = omega (arith, o.went.place, ap length o.starts) in
        let beyond : q₁.at ≡ x.at + size (headed h t) = simp length-append (omega (arith, m.place, there)) in
        let same₁ : q.statements ≡ x.after.statements = omega (arith, o.went.counted) in
        let same₂ : q.conditions ≡ x.after.conditions = omega (arith, o.went.noted) in
        let shut = closing t q₁ y re (ap (λ (z : Tables). z.contexts) te) in
        rw re (under-fill {a = headed h t} (k.under ∙ rw (headed_under, i, y)) refl
        (rw (ap (λ (z : Tables). z.statements) te, shut, ap (λ (z : Tables). z.conditions) te, same₁, same₂, parent, beyond, there))))
        (λ n p y. let re : r ≡ Err (refused_at n p) = w.answer ∙ rw y in rw re (under-stop (k.under ∙ rw (headed_under, i, y))))

-- one that opens no scope
module _ (s : List ℕ) (octets : Octets s) (e : Environment) (sc : Scope) (level : Level) (x : Coded) (here : x.after.at ≡ x.at + 1)
    (parent : level.parent ≡ x.after.statements) (has : has_heading x.code ≡ true) (none : opens_scope x.code ≡ false) {a : Passed}
    (u : a ≡ cursor_of (plain_reader e sc x.at x.code s x.after)) where
  no-for : x.code ≡ Code.For → ⊥
  no-for z = absurd (false≢true (sym none ∙ rw z))

  known : HeadingFirst s e sc level.left x
  known = headed-at s octets e sc level.left x.at x.after x.code has no-for

  pub plain-stopped : {y : Refused Refusal} {t t₁ : Tables} → a ≡ Err y → CodedRead level.left e sc s x t t₁ (Err y)
  plain-stopped j = under-stop (heading-refused s octets e sc level x here parent known
      (rw none (cursor-refused (plain_reader e sc x.at x.code s x.after) (sym j ∙ u))))

  module _ {q : Cursor} (j : a ≡ Ok q) where
    pub plain-given : {d scope : List ℕ} {l l' : ℕ} → Given s d scope x.after l → l' ≤ l → Given s d scope q l'
    plain-given g h =
        let v = cursor-read (plain_reader e sc x.at x.code s x.after) (sym j ∙ u) in
        let o = known.sound v.0 q (rw none v.1) in
        given-at g (fine-went (fine_of g) o.went (within-one o.went o.few) (omega arith)) (omega (arith, o.went.declared)) h

    pub plain-wrote : {t t₁ : Tables} {r : Passed} → StatementRead level e sc s q t t₁ r → CodedRead level.left e sc s x t t₁ r
    plain-wrote {t} {t₁} {r} w =
        let v = cursor-read (plain_reader e sc x.at x.code s x.after) (sym j ∙ u) in after v.0 v.1
      where
        after : (h : Heading) → plain_reader e sc x.at x.code s x.after ≡ read h q → CodedRead level.left e sc s x t t₁ r
        after h y =
            let i : heading_reader e sc x.at x.code s x.after ≡ read h q = rw none y in
            let p = known.plain none h q i in
            let same' : q.contexts ≡ x.after.contexts = omega (arith, (known.sound h q i).went.declared, p.contexts) in
            let v : StatementRead level e (under_heading e.relations sc h) s q t t₁ r = rw p.below w in
            headed-wrote s octets e sc level x here parent known i v
            (λ t₂ q₁ y₁ re ce. ce ∙ rw (same', p.rows x.at q₁.at))

-- ---- what opens a scope

-- how many numbers the open row of a heading has
open-row-length : (rs : List Relation) (sc : Scope) (h : Heading) (p : ℕ) →
    length (open_row rs sc h p) ≡ heading_contexts h * context_row_numbers
unfolding heading_contexts
open-row-length rs sc loop p = refl
open-row-length rs sc (Tree.modify from to) p = refl
open-row-length rs sc handler p = refl
open-row-length rs sc (Tree.receive m) p = refl
open-row-length rs sc (Tree.send m) p = refl
open-row-length rs sc (Tree.store r) p = refl
open-row-length rs sc (Tree.label n) p = refl

-- the statement after what opens a scope
module _ (level : Level) {e : Environment} {s d : List ℕ} {x : Coded} {t t₁ : Tables} {scope scope' : List ℕ}
    {b : Result (Cursor × Cursor) (Refused Refusal)} (g : Below s d scope x level) (w : HeadingRead level.left e s d x t t₁ scope scope' b) where
  pub opened-stopped : {y : Refused Refusal} {t₂ t₃ : Tables} → b ≡ Err y → CodedRead level.left e (scope_of d scope) s x t₂ t₃ (Err y)
  opened-stopped j = under-stop (w.refuses j)

  pub opened-given : {first q : Cursor} → b ≡ Ok (first, q) → Given s d scope' q level.left × (level.parent ≤ max_statements)
  opened-given j = ((w.goes j).given, omega (arith, g.parent, g.inside.given.statements_few))

  pub opened-wrote : {first q : Cursor} {st₁ ct₂ nd₂ ct₃ : List ℕ} {r : Passed} → b ≡ Ok (first, q) →
      StatementRead level e (scope_of d scope') s q t₁ (tables st₁ ct₂ nd₂) r →
      ct₃ ≡ closed_after ct₂ x.after.contexts first r →
      CodedRead level.left e (scope_of d scope) s x t (tables st₁ ct₃ nd₂) r
  opened-wrote j v ce = (w.goes j).whole (rw g.parent at v) ce

-- what stands before it was refused, or read
module _ (l : ℕ) (e : Environment) (s d : List ℕ) (x : Coded) {t t₁ : Tables} {scope scope' : List ℕ} where
  pub heading-stops : {m : Refused Refusal} → statement_under (inner_at l e) e (scope_of d scope) x.at x.code s x.after ≡ refused m.refusal m.place →
      HeadingRead l e s d x t t₁ scope scope' (Err m)
  heading-stops {m} u = record {
    refuses = λ {y} k. let same' : m ≡ y = cc in u ∙ ap (λ (z : Refused Refusal). refused z.refusal z.place) same';
    goes = λ k. absurd-eq (cc);
  }

  pub heading-goes : {m n : Cursor} → OpenedRead l e s d x t t₁ scope scope' m n → HeadingRead l e s d x t t₁ scope scope' (Ok (m, n))
  heading-goes {m} {n} o = record {
    refuses = λ k. absurd-eq (cc);
    goes = λ {first} {q} k.
        let p : ◌≡◌ {A = Cursor × Cursor} (m, n) (first, q) = cc in
        rw (ap (λ (z : Cursor × Cursor). z.0) p, ap (λ (z : Cursor × Cursor). z.1) p) at o;
  }

-- a heading
module _ (s d scope : List ℕ) (e : Environment) (known : e.relations ≡ relations d) (l : ℕ) (x : Coded)
    (g : Inside s d scope x (l + 1)) (opens : opens_scope x.code ≡ true) (no-for : x.code ≡ Code.For → ⊥)
    {ct ct₁ scope' : List ℕ} {a : Passed}
    (w : OpensHeading (opening_reader e (scope_of d scope) x.at x.code s x.after) d x.at x.after ct ct₁ scope scope' a) where
  abbrev reading : Read Heading
  reading = opening_reader e (scope_of d scope) x.at x.code s x.after

  has : has_heading x.code ≡ true
  has = opening-has x.code opens

  stands : HeadingFirst s e (scope_of d scope) l x
  stands = headed-at s g.given.octets e (scope_of d scope) l x.at x.after x.code has no-for

  opening-refused : {y : Refused Refusal} → a ≡ Err y →
      statement_under (inner_at l e) e (scope_of d scope) x.at x.code s x.after ≡ refused y.refusal y.place
  opening-refused j = heading-refused s g.given.octets e (scope_of d scope) (level_under x.after l) x g.here refl stands
      (rw opens (cursor-refused reading (sym j ∙ w.answer)))

  module _ {q : Cursor} (j : a ≡ Ok q) where
    opening-given : Given s d scope' q l
    opening-given =
        let v = cursor-read reading (sym j ∙ w.answer) in
        let o = stands.sound v.0 q (rw opens v.1) in
        given-opened g.given w v.1 o.went.declared
        (fine-went (fine_of g.given) o.went (within-one o.went o.few) (omega arith)) (omega arith)

    opening-wrote : {st nd st₁ ct₂ nd₁ ct₃ : List ℕ} {r : Passed} →
        StatementRead (level_under x.after l) e (scope_of d scope') s q (tables st ct₁ nd) (tables st₁ ct₂ nd₁) r →
        ct₃ ≡ closed_after ct₂ x.after.contexts q r →
        CodedRead l e (scope_of d scope) s x (tables st ct nd) (tables st₁ ct₃ nd₁) r
    opening-wrote {st} {nd} {st₁} {ct₂} {nd₁} {ct₃} {r} v ce =
        let u = cursor-read reading (sym j ∙ w.answer) in after u.0 u.1
      where
        after : (h : Heading) → reading ≡ read h q → CodedRead l e (scope_of d scope) s x (tables st ct nd) (tables st₁ ct₃ nd₁) r
        after h y =
            let i : heading_reader e (scope_of d scope) x.at x.code s x.after ≡ read h q = rw opens y in
            let o = stands.sound h q i in
            let below : scope_of d scope' ≡ under_heading e.relations (scope_of d scope) h = rw y at w.scope_below ∙ rw known in
            let v' : StatementRead (level_under x.after l) e (under_heading e.relations (scope_of d scope) h) s q
            (tables st ct₁ nd) (tables st₁ ct₂ nd₁) r = rw below at v in
            let first : ct₁ ≡ sets ct (x.after.contexts * context_row_numbers) (open_row e.relations (scope_of d scope) h x.at) =
            rw y at w.contexts_filled ∙ rw known in
            let there : q.at ≡ x.at + length (heading_bytes h) = omega (arith, g.here, o.went.place, ap length o.starts) in
            let row : q.contexts * context_row_numbers ≡ x.after.contexts * context_row_numbers +
            length (open_row e.relations (scope_of d scope) h x.at) =
            omega (arith, o.went.declared, open-row-length e.relations (scope_of d scope) h x.at) in
            let fine = opening-given in
            headed-wrote s g.given.octets e (scope_of d scope) (level_under x.after l) x g.here refl stands i v' (λ t q₁ y₁ re te.
            let m = (statement-sound s g.given.octets e l (under_heading e.relations (scope_of d scope) h) q t q₁ y₁).went in
            let rest = context_rows e.relations (under_heading e.relations (scope_of d scope) h) t q.at in
            let opened : ct₂ ≡ sets ct (x.after.contexts * context_row_numbers)
            (open_row e.relations (scope_of d scope) h x.at ++ rest) =
            rows-after (open_row e.relations (scope_of d scope) h x.at) rest ct (x.after.contexts * context_row_numbers) first row te in
            ce ∙ rw (re, opened) (heading-closed ct rest x.after.contexts q q₁ (omega (arith, fine.inside, fine.short))
            (omega (arith, inside m fine.inside, fine.short)) fine.contexts_few e.relations (scope_of d scope) h x.at there
            o.went.declared))

  pub opening-stopped : {y : Refused Refusal} {t t₁ : Tables} → a ≡ Err y → HeadingRead l e s d x t t₁ scope scope' (Err y)
  opening-stopped j = heading-stops l e s d x (opening-refused j)

  pub opening-read : {st nd : List ℕ} {q : Cursor} → a ≡ Ok q →
      HeadingRead l e s d x (tables st ct nd) (tables st ct₁ nd) scope scope' (Ok (q, q))
  opening-read j = heading-goes l e s d x (record { given = opening-given j; whole = λ v ce. opening-wrote j v ce })
