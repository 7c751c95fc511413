-- A for: its streams, its clauses, its statement, and the scope of its contexts.
use Prim.Native.Nat.{ℕ, zero, suc, ◌+◌, ◌-◌, ◌*◌, ◌<◌, ◌≤◌}
use Rattle.std.proofs.Common.{inl, inr}
use mathlib.Core.Bool.{true}
use mathlib.Core.Path.{◌≡◌, refl, sym, ap, ◌∙◌}
use mathlib.Core.List.{List, [], ◌∷◌, ◌++◌, append_assoc, map-append}
use native.Mathlib.Omega.{arith}
use lib.ListN.{length, length-map, length-append}
use lib.Seq.{sets}
use Rattle.std.specs.Prelude.{Option, Some, None, Result, Ok, Err}
use Rattle.wire.specs.Codes as blr
use Rattle.wire.specs.Limits.{max_request_bytes, max_statements, max_streams, context_row_numbers}
use Rattle.wire.specs.Options.{refused_at}
use Rattle.wire.specs.declared.refused.Refused.{Refused}
use Rattle.wire.specs.declared.codes.StatementCode.TheVariants as Code
use Rattle.grammar.specs.declared.Cursor.{Cursor}
use Rattle.grammar.specs.declared.Refusal.{Refusal}
use Rattle.grammar.specs.Tree.{Statement, Stream, Clauses, no_clauses, such, sorted, rse, for}
use Rattle.grammar.specs.Bytes.{head_bytes, rse_bytes, keys_bytes, clauses_bytes, statement_bytes}
use Rattle.grammar.specs.Environment.{Environment, Scope, under_streams, under_rse}
use Rattle.grammar.specs.Sizes.{clauses_contexts, booleans_count, rse_booleans, own_conditions}
use Rattle.grammar.specs.Rows.{size, stream_rows, clauses_rows, rse_rows, rows_below, context_rows}
use Rattle.grammar.specs.Conditions.{clauses_conditions, rse_conditions, conditions}
use Rattle.grammar.specs.Reader.{Read, read, refused, with_conditions, noted}
use Rattle.grammar.specs.Statements.{rse_head, for_under, statement_under, read_statement}
use Rattle.grammar.specs.Demands.{Octets}
use Rattle.grammar.proofs.StepLaws.{absurd-eq, cursor-read, cursor-refused}
use Rattle.grammar.proofs.Went.{inside, within-one}
use Rattle.grammar.proofs.SoundRses.{head-sound}
use Rattle.grammar.proofs.SoundStatements.{statement-sound}
use Rattle.grammar.proofs.RowCounts.{stream-rows, clauses-rows}
use Rattle.grammar.proofs.FewConditions.{clauses-count}
use Rattle.scopes.specs.Scopes.{scope_of}
use Rattle.tables.specs.Tables.{Tables, tables, joined, laid}
use Rattle.tables.specs.Written.{listed, numbered, with_place, with_number, closed_after}
use Rattle.tables.proofs.Laid.{laid-laid}
use Rattle.tables.proofs.Closed.{streams-closed}
use Rattle.tables.proofs.Chains.{by_read, fill, stopped, on-next}
use Rattle.openings.specs.declared.heads.Coded.{Coded}
use Rattle.openings.specs.Streams.{relations}
use Rattle.openings.specs.Openings.{OpensHead, OpensCoded}
use Rattle.expressions.specs.Promises.{Ready, clauses_places, ClausesRead, PlaceAnswer}
use Rattle.expressions.proofs.Parts.{rows-after}
use Rattle.expressions.proofs.ClauseLaws.{reads_clauses, reads-sound}
use Rattle.reader.specs.Given.{Given, Inside, opens_scope}
use Rattle.reader.specs.Readers.{Passed, level_under, inner_at, statement_tables, StatementRead, CodedRead, HeadingRead}
use Rattle.reader.proofs.Parts.{Noted, noted-part, under-stop}
use Rattle.reader.proofs.Matches.{for_or}
use Rattle.reader.proofs.Headings.{heading-stops, heading-goes, opening-stopped}
use Rattle.reader.proofs.Ready.{fine_of, fine-went, given-ready, given-opened, clauses-given}

-- the place of the boolean stands in the clauses
place-within : (sc : Scope) (cs : Clauses) (p n : ℕ) → listed (Some n) ≡ clauses_places sc cs p → n ≤ p + length (clauses_bytes cs)
unfolding clauses_conditions clauses_bytes
place-within sc no_clauses p n e = absurd-eq (cc)
place-within sc (such b cs) p n e = let h : n ≡ p + 1 = cc in omega (arith, h)
place-within sc (sorted ks cs) p n e = simp length-append (omega (arith, place-within sc cs (p + 2 + length (keys_bytes ks)) n e))

module _ (s : List ℕ) (octets : Octets s) (e : Environment) (sc : Scope) (l : ℕ) (q : Cursor) where
  abbrev ClausesPart : List ℕ → Tables → Tables → Cursor → Type 0
  ClausesPart = Noted (reads_clauses s e sc l q) clauses_bytes (λ cs. clauses_rows e.relations sc cs q.at) (λ cs. clauses_places sc cs q.at) q

  clauses-part : {st st₁ ct₁ nd ct₂ nd₁ : List ℕ} {a : PlaceAnswer} {place : Option ℕ} {q₁ q₂ : Cursor} → q.at ≤ length s → length s ≤ max_request_bytes →
      q.statements ≤ max_statements → q.conditions < q.statements → ClausesRead l e sc s q ct₁ ct₂ a → a ≡ Ok (place, q₁) →
      q₂ ≡ numbered q₁ place → nd₁ ≡ with_place nd q₁ place → st₁ ≡ with_number st (q.statements - 1) q₁ place →
      ClausesPart st (tables st₁ ct₁ nd) (tables st₁ ct₂ nd₁) q₂
  clauses-part {place} {q₁} within short rows few w i i₁ i₂ i₃ = on-next w.wrote i (λ cs q' y k f.
      let same : q' ≡ q₁ = sym (ap (λ z. z.1) k) in
      let there : w.place ≡ place = sym (ap (λ z. z.0) k) in
      let y' : reads_clauses s e sc l q ≡ read cs q₁ = rw same at y in
      let o = (reads-sound s octets e sc l q cs q₁ y').went in
      noted-part clauses_contexts place (λ cs y. (reads-sound s octets e sc l q cs q₁ y).went) (λ cs. clauses-rows e.relations sc cs q.at)
      (λ cs y. ap listed (sym there) ∙ w.told cs q₁ y) cs y' f rows few
      (λ n z. omega (arith, place-within sc cs q.at n (ap listed (sym z) ∙ ap listed (sym there) ∙ w.told cs q₁ y'), o.place, inside o within))
      i₁ i₂ i₃)

-- its streams, its clauses and its statement
module _ (s : List ℕ) (octets : Octets s) (e : Environment) (sc : Scope) (l : ℕ) (x : Coded)
    (here : x.after.at ≡ x.at + 1) (is-for : x.code ≡ Code.For) {ss : List Stream} {q : Cursor}
    (y : rse_head max_streams e.relations blr.for sc s x.after ≡ read ss q) where
  abbrev inner : Scope
  inner = under_streams e.relations blr.for sc ss

  module _ {st st₀ ct₁ nd ct₂ nd₁ : List ℕ} {q₁ : Cursor}
      (a : ClausesPart s octets e inner l q st (tables st₀ ct₁ nd) (tables st₀ ct₂ nd₁) q₁) where
    -- the rows of contexts after those of the streams
    abbrev contexts_after : Statement → List ℕ
    contexts_after t = clauses_rows e.relations inner a.part q.at ++ context_rows e.relations inner t q₁.at

    for-made : {ct st₁ ct₃ nd₂ ct₄ : List ℕ} {r : Passed} →
        StatementRead (level_under x.after l) e inner s q₁ (tables st₀ ct₂ nd₁) (tables st₁ ct₃ nd₂) r →
        ((t : Statement) (q₂ : Cursor) → read_statement l e inner s q₁ ≡ read t q₂ → r ≡ Ok q₂ →
        ct₃ ≡ sets ct₁ (q.contexts * context_row_numbers) (contexts_after t) →
        ct₄ ≡ sets ct (x.after.contexts * context_row_numbers)
        (stream_rows e.relations blr.for ss (x.after.at + 2) q.at q₂.at ++ contexts_after t)) →
        CodedRead l e sc s x (tables st ct nd) (tables st₁ ct₄ nd₂) r
    unfolding statement_under for_under noted under_rse rows_below context_rows rse_rows rse_conditions rse_bytes conditions statement_bytes
        own_conditions rse_booleans
    for-made {ct} {st₁} {ct₃} {nd₂} {ct₄} {r} w closing =
        let marks : length (clauses_places inner a.part q.at) ≡ booleans_count a.part =
        length-map (clauses_conditions inner a.part q.at) (λ x. x.place) ∙ clauses-count inner a.part q.at in
        let number : q₁ ≡ with_conditions a.last (booleans_count a.part) = a.number ∙ rw marks in
        let o = (head-sound s octets e.relations max_streams blr.for sc x.after ss q y).went in
        by_read (read_statement l e inner s q₁)
        (λ t q₂ z.
        let m = (statement-sound s octets e l inner q₁ t q₂ z).went in
        let one = statement_tables e.relations inner t q₁.at q₁.statements x.after.statements q₁.conditions in
        let re : r ≡ Ok q₂ = w.answer ∙ rw z in
        let te : tables st₁ ct₃ nd₂ ≡ laid (tables st₀ ct₁ nd) q (joined (tables [] (clauses_rows e.relations inner a.part q.at)
        (clauses_places inner a.part q.at)) one) =
        rw z at w.filled ∙ ap (λ z. laid z q₁ one) a.reached.filled ∙
        laid-laid (tables st₀ ct₁ nd) q q₁ _ one a.reached.follows in
        let head : q.at ≡ x.at + 1 + length (head_bytes ss) = omega (arith, o.place) in
        let there : q₁.at ≡ x.at + 1 + (length (head_bytes ss) + length (clauses_bytes a.part)) = omega (arith, a.place) in
        let beyond : q₂.at ≡ x.at + size (for (rse ss a.part) t) = simp length-append (omega (arith, m.place, there)) in
        let same₁ : q₁.statements ≡ x.after.statements = omega (arith, o.counted, a.counted) in
        let same₂ : q.statements ≡ x.after.statements = omega (arith, o.counted) in
        let same₃ : q.conditions ≡ x.after.conditions = omega (arith, o.noted) in
        let shut = closing t q₂ z re (ap (λ (z : Tables). z.contexts) te) in
        let marks₁ : q₁.conditions ≡ x.after.conditions + booleans_count a.part =
        omega (arith, same₃, a.reached.follows.conditions, marks) in
        let whole : for_under (inner_at l e) e sc s x.after ≡ read (for (rse ss a.part) t) q₂ = rw (for_under, y, a.is, ← number, z) in
        rw (re, is-for) (record {
          numbered = st₀;
          number = rw whole (a.own ∙ rw (same₂, same₃, marks));
          wrote = fill {a = for (rse ss a.part) t} whole refl
              (rw (
                ap (λ (z : Tables). z.statements) te,
                shut,
                ap (λ (z : Tables). z.conditions) te,
                marks₁,
                same₁,
                same₂,
                same₃,
                beyond,
                there,
                head,
                here,
                length-append (head_bytes ss) (clauses_bytes a.part),
                append_assoc (stream_rows e.relations blr.for ss (x.at + 1 + 2) (x.at + 1 + length (head_bytes ss)) _) _ _,
                map-append (λ x. x.place) (clauses_conditions inner a.part (x.at + 1 + length (head_bytes ss))) _,
              ));
        }))
        (λ n p z. let re : r ≡ Err (refused_at n p) = w.answer ∙ rw z in rw (re, is-for) (under-stop (rw (for_under, y, a.is, ← number, z))))

module _ (s d scope : List ℕ) (e : Environment) (known : e.relations ≡ relations d) (l : ℕ) (x : Coded)
    (g : Inside s d scope x (l + 1)) (is-for : x.code ≡ Code.For) {ct ct₁ scope' : List ℕ} {a : Passed}
    (w : OpensHead blr.for (rse_head max_streams e.relations blr.for (scope_of d scope) s x.after) d x.after ct ct₁ scope scope' a) where
  abbrev heading : Read (List Stream)
  heading = rse_head max_streams e.relations blr.for (scope_of d scope) s x.after

  pub streams-refused : {y : Refused Refusal} {t t₁ : Tables} → a ≡ Err y → HeadingRead l e s d x t t₁ scope scope' (Err y)
  unfolding statement_under for_under
  streams-refused j = heading-stops l e s d x (rw is-for (rw (for_under, cursor-refused heading (sym j ∙ w.answer))))

  module _ {q : Cursor} (j : a ≡ Ok q) where
    head-given : Given s d scope' q l × (q.conditions < q.statements)
    head-given =
        let v = cursor-read heading (sym j ∙ w.answer) in
        let o = head-sound s g.given.octets e.relations max_streams blr.for (scope_of d scope) x.after v.0 q v.1 in (
          given-opened g.given w v.1 o.went.declared
              (fine-went (fine_of g.given) o.went (within-one o.went o.few) (omega arith)) (omega arith),
          omega (arith, o.went.counted, o.went.noted, g.noted),
        )

    module _ {ct₂ : List ℕ} {cs : PlaceAnswer} (reads-clauses : Ready s d scope' q l → ClausesRead l e (scope_of d scope') s q ct₁ ct₂ cs) where
      v : ClausesRead l e (scope_of d scope') s q ct₁ ct₂ cs
      v = reads-clauses (given-ready head-given.0)

      pub clauses-refused : {y : Refused Refusal} {t t₁ : Tables} → cs ≡ Err y → HeadingRead l e s d x t t₁ scope scope' (Err y)
      unfolding statement_under for_under
      clauses-refused {y} k =
          let u = cursor-read heading (sym j ∙ w.answer) in heading-stops l e s d x (after u.0 u.1)
        where
          after : (ss : List Stream) → heading ≡ read ss q →
              statement_under (inner_at l e) e (scope_of d scope) x.at x.code s x.after ≡ refused y.refusal y.place
          after ss h =
              let below : scope_of d scope' ≡ under_streams e.relations blr.for (scope_of d scope) ss = rw h at w.scope_below ∙ rw known in
              let v' = rw below at v in
              rw is-for (rw (for_under, h, stopped v'.wrote k))

      for-wrote : {st st₀ nd nd₁ st₁ ct₃ nd₂ ct₄ : List ℕ} {place : Option ℕ} {q₁ q₂ : Cursor} {r : Passed} → cs ≡ Ok (place, q₁) →
          q₂ ≡ numbered q₁ place → nd₁ ≡ with_place nd q₁ place →
          st₀ ≡ with_number st (x.after.statements - 1) q₁ place →
          StatementRead (level_under x.after l) e (scope_of d scope') s q₂ (tables st₀ ct₂ nd₁) (tables st₁ ct₃ nd₂) r →
          ct₄ ≡ closed_after ct₃ x.after.contexts q r →
          CodedRead l e (scope_of d scope) s x (tables st ct nd) (tables st₁ ct₄ nd₂) r
      for-wrote {st} {st₀} {nd} {nd₁} {st₁} {ct₃} {nd₂} {ct₄} {place} {q₁} {q₂} {r} i i₁ i₂ i₃ v₁ ce =
          let u = cursor-read heading (sym j ∙ w.answer) in after u.0 u.1
        where
          after : (ss : List Stream) → heading ≡ read ss q → CodedRead l e (scope_of d scope) s x (tables st ct nd) (tables st₁ ct₄ nd₂) r
          after ss y =
              let octets = g.given.octets in
              let here = head-given.0 in
              let own = stream_rows e.relations blr.for ss (x.after.at + 2) 0 0 in
              let o = (head-sound s octets e.relations max_streams blr.for (scope_of d scope) x.after ss q y).went in
              let below : scope_of d scope' ≡ under_streams e.relations blr.for (scope_of d scope) ss = rw y at w.scope_below ∙ rw known in
              let first : ct₁ ≡ sets ct (x.after.contexts * context_row_numbers) own = rw y at w.contexts_filled ∙ rw known in
              let row : q.contexts * context_row_numbers ≡ x.after.contexts * context_row_numbers + length own =
              omega (arith, o.declared, stream-rows e.relations blr.for ss (x.after.at + 2) 0 0) in
              let same : q.statements ≡ x.after.statements = omega (arith, o.counted) in
              let part = clauses-part s octets e (under_streams e.relations blr.for (scope_of d scope) ss) l q {st = st} here.inside here.short
              here.statements_few head-given.1 (rw below at v) i i₁ i₂ (i₃ ∙ rw same) in
              let last = clauses-given here e (scope_of d scope') l head-given.1 v i i₁ in
              for-made s octets e (scope_of d scope) l x g.here is-for y part (rw below at v₁) (λ t q₃ z re te.
              let m = (statement-sound s octets e l (under_streams e.relations blr.for (scope_of d scope) ss) q₂ t q₃ z).went in
              let rest = contexts_after s octets e (scope_of d scope) l x g.here is-for y part t in
              let opened : ct₃ ≡ sets ct (x.after.contexts * context_row_numbers) (own ++ rest) =
              rows-after own rest ct (x.after.contexts * context_row_numbers) first row te in
              ce ∙ rw (re, opened) (streams-closed ct rest x.after.contexts q q₃ (omega (arith, here.inside, here.short))
              (omega (arith, inside m last.inside, here.short)) here.contexts_few e.relations blr.for ss
              (x.after.at + 2) o.declared))

      pub for-read : {st st₀ nd nd₁ : List ℕ} {place : Option ℕ} {q₁ q₂ : Cursor} → cs ≡ Ok (place, q₁) → q₂ ≡ numbered q₁ place →
          nd₁ ≡ with_place nd q₁ place → st₀ ≡ with_number st (x.after.statements - 1) q₁ place →
          HeadingRead l e s d x (tables st ct nd) (tables st₀ ct₂ nd₁) scope scope' (Ok (q, q₂))
      for-read i i₁ i₂ i₃ = heading-goes l e s d x (record {
        given = clauses-given head-given.0 e (scope_of d scope') l head-given.1 v i i₁;
        whole = λ v₁ ce. for-wrote i i₁ i₂ i₃ v₁ ce;
      })

-- what opens a scope was refused, in a for or in another statement
pub opened-refused : (s d scope : List ℕ) (e : Environment) → e.relations ≡ relations d → (l : ℕ) (x : Coded) → Inside s d scope x (l + 1) →
    opens_scope x.code ≡ true → {ct ct₁ scope' : List ℕ} {a : Result Cursor (Refused Refusal)} {y : Refused Refusal} {t t₁ : Tables} →
    OpensCoded x.code e s d x.at x.after ct ct₁ scope scope' a → a ≡ Err y → HeadingRead l e s d x t t₁ scope scope' (Err y)
opened-refused s d scope e known l x g opens w j = elim (for_or x.code) [
  | inl z ↦ streams-refused s d scope e known l x g z (w.for_opens z) j
  | inr z ↦ opening-stopped s d scope e known l x g opens z (w.heading_opens z) j
]
