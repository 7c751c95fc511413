-- Statements: a statement with its row, statements up to an end, and those that hold no statement under a level.
use Prim.Native.Nat.{ℕ, zero, suc, ◌+◌, ◌-◌, ◌*◌, ◌≤◌}
use mathlib.Core.Path.{◌≡◌, refl, sym, ap, ◌∙◌}
use mathlib.Core.Bool.{true, false, false≢true}
use mathlib.Core.List.{List, [], ◌∷◌, map-append}
use native.Mathlib.Numerals.{sub-one}
use native.Mathlib.Omega.{arith}
use lib.Dec.{eqb}
use lib.ListN.{set, length-map}
use lib.Seq.{sets}
use borrow.Author.Tests.{eqb-true, eq-eqb, ne_eqb}
use Rattle.std.specs.Prelude.{Option, Some, None, Result, Ok, Err}
use Rattle.wire.specs.Codes as blr
use Rattle.wire.specs.Lists.{among}
use Rattle.wire.specs.Limits.{max_statements}
use Rattle.wire.specs.Words.{byte_at}
use Rattle.wire.specs.Options.{refused_at}
use Rattle.wire.specs.declared.codes.StatementCode.TheVariants as Code
use Rattle.wire.specs.declared.refused.Refused.{Refused}
use Rattle.grammar.specs.declared.Cursor.{Cursor}
use Rattle.grammar.specs.declared.Refusal.{Refusal}
use Rattle.grammar.specs.declared.Refusal.TheVariants.{TooGreat}
use Rattle.grammar.specs.Tree.{Statement, begin, none as nothing', ◌then◌}
use Rattle.grammar.specs.Bytes.{statement_bytes}
use Rattle.grammar.specs.Environment.{Environment, Scope}
use Rattle.grammar.specs.Scope.{of_for}
use Rattle.grammar.specs.Kinds.{kind_of, reference_kind, one_kind}
use Rattle.grammar.specs.Sizes.{own_conditions, condition_count}
use Rattle.grammar.specs.Rows.{boolean_number, rows_below, statement_rows, statements_rows, context_rows, contexts_rows}
use Rattle.grammar.specs.Conditions.{conditions, statements_conditions}
use Rattle.grammar.specs.Reader.{read, refused, on_read, Reader, byte, peek, tested, code}
use Rattle.grammar.specs.Values.{context_byte, read_value, read_target}
use Rattle.grammar.specs.Statements.{many, assignment_under, erase_under, leave_under, begin_under, statement_under, read_statement}
use Rattle.grammar.specs.Internal.Steps.{cursor_of}
use Rattle.grammar.specs.Demands.{Octets}
use Rattle.grammar.proofs.Went.{inside, undo, same, needed, peek-read}
use Rattle.grammar.proofs.RowCounts.{statement-rows, context_rows_lem}
use Rattle.grammar.proofs.FewConditions.{conditions-count}
use Rattle.grammar.proofs.SoundStatements.{statement-under-sound, inner-sound, statement-sound}
use Rattle.tables.specs.Tables.{Tables, tables, contexts_alone, nothing, laid, result_of, cursor_after}
use Rattle.tables.specs.Written.{listed_number, with_boolean, finished}
use Rattle.tables.proofs.Laid.{row-whole}
use Rattle.tables.proofs.Rows.{boolean-row, finished-next}
use Rattle.tables.proofs.Chains.{by_read, stop, fill, kept, likewise, rows_as, cursor-result, result-refused}
use Rattle.openings.specs.declared.heads.Coded.{Coded}
use Rattle.openings.specs.Heads.{statement_coded, coded_at, ending_of}
use Rattle.reader.specs.declared.statements.Level.{Level}
use Rattle.reader.specs.Given.{Given}
use Rattle.reader.specs.Readers.{Passed, inner_at, statement_tables, StatementRead, below_tables, CodedRead, AssignmentRead, ManyRead, StatementsRead, level_below}
use Rattle.reader.proofs.Parts.{at-start, Part, part-read, stops, made_of, beside, unnumbered}
use Rattle.reader.proofs.Heads.{entered, code-refused, statement-coded, ended, going, cut, byte_cut}

-- ---- a statement as a part

module _ (s : List ℕ) (e : Environment) (sc : Scope) (level : Level) (c : Cursor) where
  abbrev pub StatementPart : Tables → Tables → Cursor → Type 0
  StatementPart =
      Part (read_statement level.left e sc s c)
      (λ t. statement_tables e.relations sc t c.at c.statements level.parent c.conditions) c

  pub statement-part : Octets s → {q : Cursor} {t t' : Tables} {r : Passed} → StatementRead level e sc s c t t' r → r ≡ Ok q →
      StatementPart t t' q
  statement-part octets {q} = part-read (λ t i.
      let w = (statement-sound s octets e level.left sc c t q i).went in
      record {
        statements = omega (arith, w.counted, statement-rows t c.at c.statements level.parent c.conditions);
        contexts = omega (arith, w.declared, context_rows_lem e.relations sc t c.at);
        conditions = omega (arith, w.noted, length-map (conditions e.relations sc t c.at) (λ x. x.place));
      })

-- ---- a statement with its own row

module _ (s : List ℕ) (e : Environment) (sc : Scope) (level : Level) (c : Cursor) {h : Result Coded (Refused Refusal)}
    (u : h ≡ result_of (coded_at c.at) (statement_coded level.left s c)) where
  pub statement-refused : {y : Refused Refusal} {t t' : Tables} → h ≡ Err y → StatementRead level e sc s c t t' (Err y)
  statement-refused i = stop (statement-coded s e sc c level.left ∙ rw (code-refused s c level.left u i))

  pub statement-wrote : {d scope : List ℕ} {x : Coded} {st st₀ ct nd st₁ ct₁ nd₁ st₂ : List ℕ} {r : Passed} → Given s d scope c level.left →
      level.parent ≤ max_statements → h ≡ Ok x → st₀ ≡ with_boolean st c.statements 0 →
      CodedRead (level.left - 1) e sc s x (tables st₀ ct nd) (tables st₁ ct₁ nd₁) r →
      st₂ ≡ finished s st₁ c level.parent r → StatementRead level e sc s c (tables st ct nd) (tables st₂ ct₁ nd₁) r
  statement-wrote {x} {st} {st₀} {ct} {nd} {st₁} {ct₁} {nd₁} {st₂} {r} g few i ze v₁ se =
      let o = entered s c level.left u i in
      let v₂ = rw o.place at v₁ in
      let w₁ = v₂.wrote in
      let under = statement_under (inner_at (level.left - 1) e) e sc c.at x.code s x.after in
      let whole : read_statement level.left e sc s c ≡ under = statement-coded s e sc c level.left ∙ rw o.is in
      by_read under
      (λ t q y.
      let full = whole ∙ y in
      let v = (statement-sound s g.octets e level.left sc c t q full).went in
      let k = statement-under-sound s g.octets e sc c.at (level.left - 1) (inner_at (level.left - 1) e)
      (inner-sound s g.octets e (level.left - 1)) x.after o.went.place x.code t q y in
      let re : r ≡ Ok q = w₁.answer ∙ rw y in
      let te : tables st₁ ct₁ nd₁ ≡ laid (tables v₂.numbered ct nd) x.after (below_tables e sc c.at x.after t) = rw y at w₁.filled in
      let none : st₀ ≡ set st (c.statements * 5 + 4) 0 = ze ∙ boolean-row st c.statements 0 g.statements_few (omega arith) in
      let own : x.after.statements - 1 ≡ c.statements = omega (arith, o.went.counted) in
      let ne : v₂.numbered ≡ sets (set st (c.statements * 5 + 4) 0) (c.statements * 5 + 4)
      (listed_number (boolean_number (own_conditions t) x.after.conditions)) =
      rw y at v₂.number ∙ rw (none, own) in
      let more : x.after.contexts ≡ c.contexts = omega (arith, o.went.declared) in
      let marks : x.after.conditions ≡ c.conditions = omega (arith, o.went.noted) in
      let first : byte_at s c.at ≡ byte_at (statement_bytes t) 0 = o.first ∙ rw k.starts in
      let row : st₂ ≡ sets st (c.statements * 5) (statement_rows t c.at c.statements level.parent c.conditions) =
      se ∙ rw re (finished-next s st₁ c level.parent q g.statements_few (omega (arith, g.inside, g.short)) few
      (omega (arith, inside v g.inside, g.short)))
      ∙ ap (λ z. sets z (c.statements * 5) (c.at ∷ byte_at s c.at ∷ level.parent ∷ q.at ∷ []))
      (ap (λ (z : Tables). z.statements) te ∙
      ap (λ z. sets z (x.after.statements * 5) (rows_below t c.at x.after.statements x.after.conditions)) ne)
      ∙ row-whole st (rows_below t c.at x.after.statements x.after.conditions) (c.statements * 5) (x.after.statements * 5)
      (boolean_number (own_conditions t) x.after.conditions) c.at (byte_at s c.at)
      level.parent q.at (omega (arith, o.went.counted))
      ∙ rw (first, v.place, o.went.counted, marks) in
      rw re (fill full refl (rw (row, ap (λ (z : Tables). z.contexts) te, ap (λ (z : Tables). z.conditions) te, more, marks))))
      (λ n p y. let re : r ≡ Err (refused_at n p) = w₁.answer ∙ rw y in rw re (stop (whole ∙ y)))

-- ---- statements up to an end, so many at most

module _ (one : Reader Statement) (s : List ℕ) (n : ℕ) (c : Cursor) where
  many-done : {y : ℕ} {q : Cursor} → peek s c ≡ read y c → eqb y blr.end ≡ true → byte s c ≡ read y q → many n one s c ≡ read nothing' q
  unfolding many code tested
  many-done {y} {q} u v w = go n
    where
      go : (n : ℕ) → many n one s c ≡ read nothing' q
      go zero = rw (many, code, tested, w, eqb-true y blr.end v)
      go (suc n) = rw (many, u, v, w)

  many-on : {y : ℕ} → (n ≡ 0 → ⊥) → peek s c ≡ read y c → eqb y blr.end ≡ false →
      many n one s c ≡ on_read (one s c) (λ t q. on_read (many (n - 1) one s q) (λ ts q₁. read (t then ts) q₁))
  unfolding many
  many-on z u v = go n z
    where
      go : (n : ℕ) → (n ≡ 0 → ⊥) → many n one s c ≡ on_read (one s c) (λ t q. on_read (many (n - 1) one s q) (λ ts q₁. read (t then ts) q₁))
      go zero z = absurd (z refl)
      go (suc n) z = rw (many, u, v, sub-one (suc n))

  many-cut : {r : Refusal} {p : ℕ} → peek s c ≡ refused r p → many n one s c ≡ refused r p
  unfolding many code tested
  many-cut {r} {p} u = go n
    where
      go : (n : ℕ) → many n one s c ≡ refused r p
      go zero = rw (many, code, tested, byte_cut s c u)
      go (suc n) = rw (many, u)

-- no statement is left: an end is due
pub many-over : (s : List ℕ) (e : Environment) (sc : Scope) (level : Level) (n : ℕ) (c : Cursor) {t : Tables} {r : Passed} → n ≡ 0 →
    r ≡ cursor_of (code blr.end TooGreat s c) → ManyRead n level e sc s c t t r
unfolding many statements_rows contexts_rows statements_conditions
many-over s e sc level n c {t} {r} z h = by_read (code blr.end TooGreat s c)
    (λ a q y. let e : r ≡ Ok q = h ∙ rw y in rw e (fill {a = nothing'} (rw (z, many, y)) refl refl))
    (λ m p y. let e : r ≡ Err (refused_at m p) = h ∙ rw y in rw e (stop (rw (z, many, y))))

module _ (s : List ℕ) (e : Environment) (sc : Scope) (level : Level) (n : ℕ) (c : Cursor) {h : Result (Option Cursor) (Refused Refusal)}
    (u : h ≡ ending_of (peek s c)) where
  pub many-ends : {q : Cursor} {t : Tables} → h ≡ Ok (Some q) → ManyRead n level e sc s c t t (Ok q)
  unfolding statements_rows contexts_rows statements_conditions
  many-ends i =
      let o = ended s c u i in
      fill {a = nothing'} (many-done (read_statement level.left e sc) s n c o.seen o.is-end o.after) refl refl

  pub many-stops : {y : Refused Refusal} {t t' : Tables} → h ≡ Err y → ManyRead n level e sc s c t t' (Err y)
  many-stops i = stop (many-cut (read_statement level.left e sc) s n c (cut s c u i))

  module _ (i : h ≡ Ok None) (z : n ≡ 0 → ⊥) {t t₁ : Tables} {r : Passed} (w : StatementRead level e sc s c t t₁ r) where
    on : many n (read_statement level.left e sc) s c ≡ on_read (read_statement level.left e sc s c) (λ t q.
        on_read (many (n - 1) (read_statement level.left e sc) s q) (λ ts q₁. read (t then ts) q₁))
    on = let o = going s c u i in many-on (read_statement level.left e sc) s n c z o.seen o.no_end

    pub many-stopped : {y : Refused Refusal} {t' : Tables} → r ≡ Err y → ManyRead n level e sc s c t t' (Err y)
    many-stopped j = stops w j (λ y. on ∙ rw y)

    -- a statement, and those after it
    pub many-step : Octets s → {q : Cursor} {t₂ : Tables} {a : Passed} → r ≡ Ok q → ManyRead (n - 1) level e sc s q t₁ t₂ a →
        ManyRead n level e sc s c t t₂ a
    unfolding statements_rows contexts_rows statements_conditions
    many-step octets {q} {t₂} {a} j w₁ = after (statement-part s e sc level c octets w j)
      where
        after : StatementPart s e sc level c t t₁ q → ManyRead n level e sc s c t t₂ a
        after v =
            let o = (statement-sound s octets e level.left sc c v.part q v.is).went in
            let marks : q.conditions ≡ c.conditions + condition_count v.part =
            omega (arith, o.noted, conditions-count e.relations sc v.part c.at) in
            likewise (on ∙ rw v.is) (made_of (λ ts. v.part then ts) v.reached
            (λ ts q₁ y. rw (o.place, o.counted, marks, map-append (λ x. x.place) (conditions e.relations sc v.part c.at) _)) w₁)

-- how far the loop has come: so many may follow, and with them the whole is read
pub record ManyFrom (s d scope : List ℕ) (e : Environment) (sc : Scope) (level : Level) (c : Cursor) (t : Tables) (left : ℕ) (at : Cursor) (t₁ : Tables)
    : Type 0 where
  pub given : Given s d scope at level.left
  pub rest : {t' : Tables} {r : Passed} → ManyRead left level e sc s at t₁ t' r → StatementsRead level e sc s c t t' r

-- ---- what stands under a code

module _ (s : List ℕ) (e : Environment) (sc : Scope) (l : ℕ) (x : Coded) where
  pub erase-coded : {t : Tables} {r : Passed} → x.code ≡ Code.Erase → r ≡ cursor_of (erase_under sc x.at s x.after) → CodedRead l e sc s x t t r
  unfolding statement_under erase_under rows_below context_rows conditions own_conditions
  erase-coded k h =
      rw k (unnumbered (λ a q y. (is a q y).1) (rows_as (λ a q y. (is a q y).0) (kept (h ∙ cursor-result _))))
    where
      is : (a : Statement) (q : Cursor) → erase_under sc x.at s x.after ≡ read a q →
          (nothing ≡ below_tables e sc x.at x.after a) × (own_conditions a ≡ 0)
      is a q y = undo (context_byte sc s x.after) _ y (λ n q₁ e₁ w. needed (of_for sc n) _ _ _ _ _ w (λ z v.
          same v (λ a q. (nothing ≡ below_tables e sc x.at x.after a) × (own_conditions a ≡ 0)) (refl, refl)))

  pub leave-coded : {t : Tables} {r : Passed} → x.code ≡ Code.Leave → r ≡ cursor_of (leave_under sc x.at s x.after) → CodedRead l e sc s x t t r
  unfolding statement_under leave_under rows_below context_rows conditions own_conditions
  leave-coded k h =
      rw k (unnumbered (λ a q y. (is a q y).1) (rows_as (λ a q y. (is a q y).0) (kept (h ∙ cursor-result _))))
    where
      is : (a : Statement) (q : Cursor) → leave_under sc x.at s x.after ≡ read a q →
          (nothing ≡ below_tables e sc x.at x.after a) × (own_conditions a ≡ 0)
      is a q y = undo (byte s x.after) _ y (λ n q₁ e₁ w. needed (among n sc.labels) _ _ _ _ _ w (λ z v.
          same v (λ a q. (nothing ≡ below_tables e sc x.at x.after a) × (own_conditions a ≡ 0)) (refl, refl)))

  pub assignment-coded : {st ct nd ct₁ : List ℕ} {r : Passed} → x.code ≡ Code.Assignment → AssignmentRead l e sc s x ct ct₁ r →
      CodedRead l e sc s x (tables st ct nd) (tables st ct₁ nd) r
  unfolding statement_under assignment_under rows_below context_rows conditions own_conditions
  assignment-coded {st} {ct} {nd} k w =
      rw k (unnumbered (λ a q y. (is a q y).1) (rows_as (λ a q y. (is a q y).0) (beside st nd w)))
    where
      is : (a : Statement) (q : Cursor) → assignment_under (inner_at l e) e sc x.at s x.after ≡ read a q →
          (contexts_alone (context_rows e.relations sc a x.at) ≡ below_tables e sc x.at x.after a) × (own_conditions a ≡ 0)
      is a q y = undo (read_value l e sc s x.after) _ y (λ v q₁ e₁ w₁. undo (read_target e sc x.at s q₁) _ w₁ (λ t q₂ e₂ w₂.
          needed (one_kind (kind_of e sc v) (reference_kind e sc t)) _ _ _ _ _ w₂ (λ z w₃.
          same w₃ (λ a q. (contexts_alone (context_rows e.relations sc a x.at) ≡ below_tables e sc x.at x.after a) ×
          (own_conditions a ≡ 0)) (refl, refl))))

  pub begin-coded : (level : Level) {inner : Level} {t t₁ : Tables} {r : Passed} → l ≡ level.left - 1 → x.code ≡ Code.Begin → x.after.at ≡ x.at + 1 →
      inner ≡ level_below x.after level → StatementsRead inner e sc s x.after t t₁ r → CodedRead l e sc s x t t₁ r
  unfolding statement_under begin_under rows_below context_rows conditions own_conditions
  begin-coded level {inner} {t} le k here ie w =
      let u = rw ie at w in
      rw (le, k) (unnumbered
      (λ a q y. undo (many max_statements (read_statement (level.left - 1) e sc) s x.after) _ y (λ ts q₁ e₁ v. same v (λ a q. own_conditions a ≡ 0) refl))
      (made_of begin at-start (λ ts q y. rw here) u))
