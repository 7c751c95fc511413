-- An assignment and an if: parts one after another, with a test or an end.
use Prim.Native.Nat.{ℕ, ◌+◌, ◌-◌, ◌<◌}
use mathlib.Core.Path.{◌≡◌, refl, sym, ap, ◌∙◌}
use mathlib.Core.Bool.{Bool, true, false}
use mathlib.Core.List.{List, ◌∷◌, [], map-append}
use native.Mathlib.Omega.{arith}
use lib.ListN.{length}
use Rattle.std.specs.Prelude.{Option as Maybe, Some, None, Result, Ok, Err}
use Rattle.wire.specs.declared.codes.StatementCode.TheVariants as Code
use Rattle.wire.specs.declared.refused.Refused.{Refused}
use Rattle.grammar.specs.declared.Cursor.{Cursor}
use Rattle.grammar.specs.declared.Refusal.{Refusal}
use Rattle.grammar.specs.declared.Kind.{Kind}
use Rattle.grammar.specs.Tree.{Value, Reference, assignment, if, if_else}
use Rattle.grammar.specs.Bytes.{boolean_bytes, statement_bytes}
use Rattle.grammar.specs.Environment.{Environment, Scope}
use Rattle.grammar.specs.Kinds.{kind_of, reference_kind, one_kind}
use Rattle.grammar.specs.Sizes.{statement_count, boolean_contexts, own_conditions, condition_count}
use Rattle.grammar.specs.Rows.{value_rows, boolean_rows, rows_below, context_rows}
use Rattle.grammar.specs.Conditions.{conditions}
use Rattle.grammar.specs.Reader.{read, on_read, peek, noted}
use Rattle.grammar.specs.Values.{read_value, read_boolean, read_target}
use Rattle.grammar.specs.Statements.{assignment_under, if_under, statement_under, read_statement}
use Rattle.grammar.specs.Internal.Steps.{kind_in, answer_of}
use Rattle.grammar.specs.Demands.{Octets}
use Rattle.grammar.proofs.StepLaws.{answer-read, answer-refused}
use Rattle.grammar.proofs.RowCounts.{boolean-rows}
use Rattle.grammar.proofs.FewConditions.{conditions-count}
use Rattle.grammar.proofs.SoundValues.{boolean-sound}
use Rattle.grammar.proofs.SoundStatements.{statement-sound}
use Rattle.scopes.proofs.Scopes.{kind-fit}
use Rattle.references.specs.Promises.{reference_fit}
use Rattle.tables.specs.Tables.{Tables, tables, contexts_alone, nothing, laid}
use Rattle.tables.specs.Written.{numbered, with_place, with_number}
use Rattle.tables.proofs.Chains.{by_read, stop, stopped, fill, likewise, on-next}
use Rattle.openings.specs.declared.heads.Coded.{Coded}
use Rattle.openings.specs.Heads.{ending_of}
use Rattle.expressions.specs.Promises.{value_fit, ValueRead, BooleanRead, ValueAnswer, test_answer}
use Rattle.reader.specs.declared.statements.Level.{Level}
use Rattle.reader.specs.Given.{Given}
use Rattle.reader.specs.Readers.{Passed, inner_at, StatementRead, CodedRead, AssignmentRead, IfRead}
use Rattle.reader.proofs.Parts.{on-passed, reached-on, stops, made_of, Noted, noted-part, under-stop}
use Rattle.reader.proofs.Heads.{ended, going, cut}
use Rattle.reader.proofs.StatementLaws.{StatementPart}

-- ---- an assignment

-- the cursor of an answer
abbrev pub passed : ValueAnswer → Passed
passed (Ok (k, q)) = Ok q
passed (Err y) = Err y

module _ (s : List ℕ) (e : Environment) (sc : Scope) (l : ℕ) (x : Coded) {ct ct₁ : List ℕ} {v : ValueAnswer} (w : ValueRead l e sc s x.after ct ct₁ v) where
  pub assignment-stopped : {y : Refused Refusal} → v ≡ Err y → AssignmentRead l e sc s x ct ct₁ (Err y)
  unfolding assignment_under
  assignment-stopped i = stops w i (λ y. rw (assignment_under, y))

  module _ {a : Maybe Kind} {q : Cursor} (i : v ≡ Ok (a, q)) {g : ValueAnswer}
      (ge : g ≡ answer_of (reference_fit e sc) (read_target e sc x.at s q)) where
    -- the value, up to q
    valued : {G : Type 0} → ((y : Value) → read_value l e sc s x.after ≡ read y q → a ≡ value_fit e sc y →
        contexts_alone ct₁ ≡ laid (contexts_alone ct) x.after (contexts_alone (value_rows e.relations sc y x.after.at)) → G) → G
    valued f = on-next w i (λ y q₁ h k o.
        let same : q₁ ≡ q = sym (ap (λ z. z.1) k) in
        f y (rw same at h) (ap (λ z. z.0) k) o)

    pub target-stopped : {y : Refused Refusal} → g ≡ Err y → AssignmentRead l e sc s x ct ct₁ (Err y)
    unfolding assignment_under
    target-stopped j = valued (λ y h k o.
        stop (rw (assignment_under, h, answer-refused (reference_fit e sc) (read_target e sc x.at s q) (sym j ∙ ge))))

    -- its test is last
    pub assignment-wrote : x.after.at ≡ x.at + 1 → {b : Maybe Kind} {q₁ : Cursor} {r : ValueAnswer} → g ≡ Ok (b, q₁) →
        r ≡ test_answer (one_kind (kind_in a) (kind_in b)) x.at q₁ → AssignmentRead l e sc s x ct ct₁ (passed r)
    unfolding assignment_under context_rows
    assignment-wrote here {b} {q₁} {r} j re = valued (λ y h k o.
        let u = answer-read (reference_fit e sc) (read_target e sc x.at s q) (sym j ∙ ge) in
        judged y u.0 h u.1 k u.2 o (one_kind (kind_of e sc y) (reference_kind e sc u.0)) refl)
      where
        judged : (y : Value) (z : Reference) → read_value l e sc s x.after ≡ read y q → read_target e sc x.at s q ≡ read z q₁ →
            a ≡ value_fit e sc y → b ≡ reference_fit e sc z →
            contexts_alone ct₁ ≡ laid (contexts_alone ct) x.after (contexts_alone (value_rows e.relations sc y x.after.at)) →
            (t : Bool) → one_kind (kind_of e sc y) (reference_kind e sc z) ≡ t → AssignmentRead l e sc s x ct ct₁ (passed r)
        judged y z h k ae be o t te =
            let m : r ≡ test_answer t x.at q₁ = re ∙ rw (ae, be, kind-fit (kind_of e sc y), kind-fit (reference_kind e sc z), te) in
            made t te m
          where
            made : (t : Bool) → one_kind (kind_of e sc y) (reference_kind e sc z) ≡ t → r ≡ test_answer t x.at q₁ →
                AssignmentRead l e sc s x ct ct₁ (passed r)
            made true te m = rw m (fill {a = assignment y z} (rw (assignment_under, h, k, te)) refl (o ∙ rw here))
            made false te m = rw m (stop (rw (assignment_under, h, k, te)))

-- ---- an if

-- its condition, with its number
abbrev pub ConditionPart : List ℕ → Environment → Scope → ℕ → Cursor → List ℕ → Tables → Tables → Cursor → Type 0
ConditionPart s e sc l c = Noted (read_boolean l e sc s c) boolean_bytes (λ b. boolean_rows e.relations sc b c.at) (λ b. c.at ∷ []) c

pub condition-part : {s d scope : List ℕ} {c : Cursor} {l : ℕ} → Given s d scope c l → c.conditions < c.statements →
    (e : Environment) (sc : Scope) (l' : ℕ) {st st₁ ct nd ct₁ nd₁ : List ℕ} {b : Passed} {q q₁ : Cursor} →
    BooleanRead l' e sc s c ct ct₁ b → b ≡ Ok q → q₁ ≡ numbered q (Some c.at) → nd₁ ≡ with_place nd q (Some c.at) →
    st₁ ≡ with_number st (c.statements - 1) q (Some c.at) → ConditionPart s e sc l' c st (tables st₁ ct nd) (tables st₁ ct₁ nd₁) q₁
condition-part {s} {c} g few e sc l' {q} w i i₁ i₂ i₃ = on-passed w i (λ b h o.
    noted-part boolean_contexts (Some c.at) (λ b h. (boolean-sound s g.octets e sc l' c b q h).went)
    (λ b. boolean-rows e.relations sc b c.at) (λ b h. refl) b h o g.statements_few few
    (λ n z. let z' : c.at ≡ n = cc in omega (arith, g.inside, g.short, z')) i₁ i₂ i₃)

module _ (s : List ℕ) (e : Environment) (sc : Scope) (level : Level) (p : ℕ) (c : Cursor) where
  pub if-stopped : {ct ct₁ : List ℕ} {t t₁ : Tables} {b : Passed} {y : Refused Refusal} → BooleanRead level.left e sc s c ct ct₁ b → b ≡ Err y →
      IfRead level.left e sc s p c t t₁ (Err y)
  unfolding if_under
  if-stopped w i = under-stop (rw (if_under, stopped w i))

  module _ {st st₁ ct nd : List ℕ} {t₁ : Tables} {q : Cursor} (a : ConditionPart s e sc level.left c st (tables st₁ ct nd) t₁ q) where
    pub first-stopped : {t₂ : Tables} {r : Passed} {y : Refused Refusal} → StatementRead level e sc s q t₁ t₂ r → r ≡ Err y →
        IfRead level.left e sc s p c (tables st ct nd) t₂ (Err y)
    unfolding if_under noted
    first-stopped w i = under-stop (rw (if_under, a.is, ← a.number, stopped w i))

    module _ (here : c.at ≡ p + 1) (parent : level.parent ≡ c.statements) {t₂ : Tables} {q₁ : Cursor} (v : StatementPart s e sc level q t₁ t₂ q₁)
        {h : Result (Maybe Cursor) (Refused Refusal)} (u : h ≡ ending_of (peek s q₁)) where
      pub if-cut : {y : Refused Refusal} {t₃ : Tables} → h ≡ Err y →
          IfRead level.left e sc s p c (tables st ct nd) t₃ (Err y)
      unfolding if_under noted
      if-cut i = under-stop (rw (if_under, a.is, ← a.number, v.is, cut s q₁ u i))

      pub if-done : {q₂ : Cursor} → h ≡ Ok (Some q₂) → IfRead level.left e sc s p c (tables st ct nd) t₂ (Ok q₂)
      unfolding if_under noted rows_below context_rows conditions own_conditions
      if-done {q₂} i =
          let o = ended s q₁ u i in
          let there : q.at ≡ p + 1 + length (boolean_bytes a.part) = omega (arith, a.place) in
          let marks : q.conditions ≡ c.conditions + 1 = a.reached.follows.conditions in
          let both = reached-on a.reached v.reached in
          let whole : if_under (inner_at level.left e) sc s c ≡ read (if a.part v.part) q₂ =
          rw (if_under, a.is, ← a.number, v.is, o.seen, o.is-end, o.after) in
          record {
            numbered = st₁;
            number = rw whole a.own;
            wrote = fill {a = if a.part v.part} whole refl (both.filled ∙ rw (here, there, a.counted, parent, marks));
          }

      pub if-goes : Octets s → {t₃ : Tables} {r : Passed} → h ≡ Ok None → StatementRead level e sc s q₁ t₂ t₃ r →
          IfRead level.left e sc s p c (tables st ct nd) t₃ r
      unfolding if_under noted rows_below context_rows conditions own_conditions
      if-goes octets i w =
          let o = going s q₁ u i in
          let g = (boolean-sound s octets e sc level.left c a.part a.last a.is).went in
          let j = (statement-sound s octets e level.left sc q v.part q₁ v.is).went in
          let there : q.at ≡ p + 1 + length (boolean_bytes a.part) = ap (λ (z : Cursor). z.at) a.number ∙ omega (arith, g.place) in
          let same : q.statements ≡ c.statements = ap (λ (z : Cursor). z.statements) a.number ∙ omega (arith, g.counted) in
          let beyond : q₁.at ≡ p + 1 + length (boolean_bytes a.part) + length (statement_bytes v.part) = omega (arith, j.place) in
          let more : q₁.statements ≡ c.statements + statement_count v.part = omega (arith, a.counted, j.counted) in
          let marks : q.conditions ≡ c.conditions + 1 = a.reached.follows.conditions in
          let beyond-marks : q₁.conditions ≡ c.conditions + 1 + condition_count v.part =
          omega (arith, j.noted, marks, conditions-count e.relations sc v.part q.at) in
          let whole : if_under (inner_at level.left e) sc s c ≡
          on_read (read_statement level.left e sc s q₁) (λ x q₂. read (if_else a.part v.part x) q₂) =
          rw (if_under, a.is, ← a.number, v.is, o.seen, o.no_end) in
          record {
            numbered = st₁;
            number = by_read (read_statement level.left e sc s q₁) (λ x q₂ y. rw (whole, y) a.own) (λ n i y. rw (whole, y));
            wrote = likewise whole (made_of (λ x. if_else a.part v.part x) (reached-on a.reached v.reached)
                (λ x q₂ y. rw (
                  here,
                  beyond,
                  more,
                  there,
                  a.counted,
                  parent,
                  beyond-marks,
                  marks,
                  map-append (λ x. x.place) (conditions e.relations sc v.part _) _,
                )) w);
          }

pub if-coded : (s : List ℕ) (e : Environment) (sc : Scope) (l : ℕ) (x : Coded) {t t₁ : Tables} {r : Passed} → x.code ≡ Code.If →
    IfRead l e sc s x.at x.after t t₁ r → CodedRead l e sc s x t t₁ r
unfolding statement_under
if-coded s e sc l x k w = rw k w
