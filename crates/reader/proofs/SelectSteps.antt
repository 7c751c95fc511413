-- The receives of a select one after another: each with its row, its statement, and an end or more.
use Prim.Native.Nat.{ℕ, zero, suc, ◌+◌, ◌-◌, ◌*◌, ◌<◌, ◌≤◌}
use mathlib.Core.Path.{◌≡◌, refl, sym, ap, ◌∙◌}
use mathlib.Core.Bool.{Bool, true, false, cond, not as negation, ◌&&◌, ◌||◌, false≢true}
use mathlib.Core.List.{List, [], ◌∷◌, ◌++◌, map-append}
use native.Mathlib.Numerals.{sub-one}
use native.Mathlib.Omega.{arith}
use lib.Dec.{ltb, eqb}
use lib.ListN.{length, get_or, set, replicate, length-set, length-replicate, length-map}
use lib.Seq.{sets, get_or-set_same, get_or-set_other}
use borrow.Author.Tests.{lt-ltb, ltb-true, eqb-true, eq-eqb}
use Rattle.std.specs.Prelude.{Option, Some, None, Result, Ok, Err}
use Rattle.wire.specs.Codes as blr
use Rattle.wire.specs.Limits.{max_statements}
use Rattle.wire.specs.Lists.{among, any_of}
use Rattle.wire.specs.Words.{byte_at}
use Rattle.wire.specs.Options.{refused_at}
use Rattle.wire.specs.declared.numbers.MessageNumber.{MessageNumber}
use Rattle.wire.specs.declared.refused.Refused.{Refused}
use Rattle.grammar.specs.declared.Cursor.{Cursor}
use Rattle.grammar.specs.declared.Refusal.{Refusal}
use Rattle.grammar.specs.declared.Refusal.TheVariants.{NotDue, TooGreat, BadMessage, Misplaced}
use Rattle.grammar.specs.Tree.{Statement, Receives, last, more}
use Rattle.grammar.specs.Environment.{Environment, Scope}
use Rattle.grammar.specs.Scope.{declared, updating}
use Rattle.grammar.specs.Bytes.{statement_bytes}
use Rattle.grammar.specs.Sizes.{statement_count, context_count, condition_count}
use Rattle.grammar.specs.Rows.{size, statement_rows, receives_rows, receives_context_rows}
use Rattle.grammar.specs.Conditions.{conditions, receives_conditions}
use Rattle.grammar.specs.Reader.{Read, read, refused, on_read, Reader, byte, peek, code, count_statement, with_statement}
use Rattle.grammar.specs.Statements.{many_receives, receive_under, read_statement, read_receive}
use Rattle.grammar.specs.Demands.{Octets}
use Rattle.grammar.proofs.StepLaws.{message-read, answer-refused}
use Rattle.grammar.proofs.RowCounts.{statement-rows, context_rows_lem}
use Rattle.grammar.proofs.FewConditions.{conditions-count}
use Rattle.grammar.proofs.Went.{Went, inside, taken-read, onward, undo, needed, tested-read, byte-went, code-went, counted-went}
use Rattle.grammar.proofs.SoundStatements.{statement-sound}
use Rattle.tables.specs.Tables.{Tables, tables}
use Rattle.tables.specs.Written.{with_boolean, finished}
use Rattle.tables.proofs.Laid.{row-whole}
use Rattle.tables.proofs.Rows.{boolean-row, finished-next}
use Rattle.tables.proofs.Chains.{by_read, stop, fill, likewise}
use Rattle.openings.specs.Heads.{ending_of}
use Rattle.openings.specs.Headings.{message_number, message_answer}
use Rattle.openings.specs.Selected.{Holds, selected_byte, receive_coded}
use Rattle.reader.specs.declared.statements.Level.{Level}
use Rattle.reader.specs.Given.{Given}
use Rattle.reader.specs.Readers.{Passed, level_below, StatementRead, receives_tables, ReceivesRead, SelectRead}
use Rattle.reader.proofs.Parts.{Reached, stops, made_of}
use Rattle.reader.proofs.Heads.{ended, going, cut}
use Rattle.reader.proofs.Ready.{fine_of, given-at, statement-given}
use Rattle.reader.proofs.StatementLaws.{StatementPart, statement-part}
use Rattle.reader.proofs.Selects.{ReceivesFrom}

-- ---- the messages selected so far

never-seen : (n m : ℕ) → get_or (replicate n false) m false ≡ false
never-seen zero m = refl
never-seen (suc n) zero = refl
never-seen (suc n) (suc m) = never-seen n m

pub none_seen : Holds (replicate 256 false) []
unfolding among any_of
none_seen = record { whole = length-replicate 256 false; holds = never-seen 256 }

or-false : (b : Bool) → b || false ≡ b
or-false true = refl
or-false false = refl

among-append : (m x : ℕ) (l : List ℕ) → among m (l ++ (x ∷ [])) ≡ among m l || eqb x m
unfolding among any_of
among-append m x [] = or-false (eqb x m)
among-append m x (y ∷ l) = rw (among-append m x l) (assoc (eqb y m) (any_of (λ z. eqb z m) l) (eqb x m))
  where
    assoc : (a b c : Bool) → a || (b || c) ≡ (a || b) || c
    assoc true b c = refl
    assoc false b c = refl

pub one_seen : {seen : List Bool} {ms : List ℕ} (x : ℕ) → Holds seen ms → x < 256 → Holds (set seen x true) (ms ++ (x ∷ []))
one_seen {seen} {ms} x h k = record {
  whole = rw length-set h.whole;
  holds = λ m. rw (among-append m x ms) (go m (eqb x m) refl);
}
  where
    or-true : (a : Bool) → a || true ≡ true
    or-true true = refl
    or-true false = refl

    go : (m : ℕ) (t : Bool) → eqb x m ≡ t → get_or (set seen x true) m false ≡ among m ms || eqb x m
    go m true i =
        let j : x ≡ m = eqb-true x m i in
        rw (i, or-true (among m ms), sym j) (get_or-set_same seen x true false (omega (arith, h.whole)))
    go m false i =
        let j : m ≡ x → ⊥ = λ z. absurd (false≢true (sym i ∙ eq-eqb x m (sym z))) in
        rw (i, or-false (among m ms)) (get_or-set_other seen x m true false j ∙ h.holds m)

-- ---- a receive up to its message, and what follows

-- what stands after a receive's message
unfoldable receive_rest : (List ℕ → Reader Receives) → Reader Statement → List ℕ → ℕ → Reader Receives
receive_rest rest body before m s c = on_read (body s c) (λ t q. on_read (peek s q) (λ x q₁.
    cond {A = Reader Receives} (eqb x blr.end) (λ s q. on_read (byte s q) (λ y q'. read (last m t) q'))
    (λ s q. on_read (rest (before ++ (m ∷ [])) s q) (λ rs q'. read (more m t rs) q')) s q₁))

module _ (e : Environment) (sc : Scope) (before : List ℕ) (s : List ℕ) (c : Cursor) where
  abbrev Same : ℕ → ℕ → Type 0
  Same l n = many_receives n (read_receive l e sc) before s c ≡
      on_read (receive_coded l e sc before s c) (λ m q. receive_rest (many_receives (n - 1) (read_receive l e sc))
      (read_statement (l - 1) e sc) before m s q)

  one_left : (l : ℕ) → ltb 0 (suc l) ≡ true
  one_left l = lt-ltb 0 (suc l) (omega arith)

  -- a refusal before the message
  from-refusal : (l n : ℕ) {r : Refusal} {p : ℕ} → receive_coded l e sc before s c ≡ refused r p →
      read_receive l e sc before s c ≡ refused r p →
      Same l (suc n)
  unfolding many_receives
  from-refusal l n i j = rw (many_receives, j, i)

  module _ (n l x : ℕ) (q : Cursor) (e₁ : code blr.receive NotDue s c ≡ read x q) where
    abbrev Message : Read ℕ
    Message = selected_byte e before s (with_statement q)

    module _ (e₂ : ltb q.statements 512 ≡ true) (e₃ : updating sc ≡ false) where
      coded-at : receive_coded (suc l) e sc before s c ≡ Message
      unfolding receive_coded count_statement
      coded-at = rw (receive_coded, e₁, one_left l, e₂, e₃)

      receive-is : read_receive (suc l) e sc before s c ≡ on_read Message
          (λ m q₁. on_read (read_statement l e sc s q₁) (λ t q₂. read (m, t) q₂))
      unfolding read_receive receive_under count_statement selected_byte
      receive-is = rw (read_receive, e₁, e₂, receive_under, e₃)

      from-message : Same (suc l) (suc n)
      unfolding many_receives receive_rest
      from-message = by_read Message
          (λ m q₁ y.
          let i : receive_coded (suc l) e sc before s c ≡ read m q₁ = coded-at ∙ y in
          by_read (read_statement l e sc s q₁)
          (λ t q₂ y₁.
          let j : read_receive (suc l) e sc before s c ≡ read (m, t) q₂ = receive-is ∙ rw (y, y₁) in
          rw (many_receives, j, i, receive_rest, sub-one (suc l), y₁, sub-one (suc n)))
          (λ r p y₁.
          let j : read_receive (suc l) e sc before s c ≡ refused r p = receive-is ∙ rw (y, y₁) in
          rw (many_receives, j, i, receive_rest, sub-one (suc l), y₁)))
          (λ r p y.
          let i : receive_coded (suc l) e sc before s c ≡ refused r p = coded-at ∙ y in
          let j : read_receive (suc l) e sc before s c ≡ refused r p = receive-is ∙ rw y in
          rw (many_receives, j, i))

    by_tests : (b₂ b₃ : Bool) → ltb q.statements 512 ≡ b₂ → updating sc ≡ b₃ → Same (suc l) (suc n)
    unfolding receive_coded read_receive receive_under count_statement
    by_tests true false e₂ e₃ = from-message e₂ e₃
    by_tests true true e₂ e₃ = from-refusal (suc l) n {r = Misplaced} {p = c.at} (rw (receive_coded, e₁, one_left l, e₂, e₃))
        (rw (read_receive, e₁, e₂, receive_under, e₃))
    by_tests false b e₂ e₃ = from-refusal (suc l) n {r = TooGreat} {p = c.at} (rw (receive_coded, e₁, one_left l, e₂))
        (rw (read_receive, e₁, e₂))

  receives-coded : (l n : ℕ) → 0 < n → Same l n
  unfolding receive_coded read_receive
  receives-coded l zero h = absurd (omega arith)
  receives-coded zero (suc n) h = by_read (code blr.receive NotDue s c)
      (λ x q y. from-refusal zero n {r = TooGreat} {p = c.at} (rw (receive_coded, y)) (rw (read_receive, y)))
      (λ r p y. from-refusal zero n {r = r} {p = p} (rw (receive_coded, y)) (rw (read_receive, y)))
  receives-coded (suc l) (suc n) h = by_read (code blr.receive NotDue s c)
      (λ x q y. by_tests n l x q y (ltb q.statements 512) (updating sc) refl refl)
      (λ r p y. from-refusal (suc l) n {r = r} {p = p} (rw (receive_coded, y)) (rw (read_receive, y)))

-- the way to a receive's message
pub record Received (s : List ℕ) (c : Cursor) (l m : ℕ) (q : Cursor) : Type 0 where
  pub deep : 0 < l
  pub first : byte_at s c.at ≡ blr.receive
  pub went : Went s c (blr.receive ∷ m ∷ []) 1 0 0 q
  pub few : q.statements ≤ max_statements

received : (l : ℕ) (e : Environment) (sc : Scope) (before s : List ℕ) (c : Cursor) {m : ℕ} {q : Cursor} →
    receive_coded l e sc before s c ≡ read m q → Received s c l m q
unfolding receive_coded selected_byte code
received l e sc before s c h = undo (code blr.receive NotDue s c) _ h (λ x q₁ e₁ w₁. needed (ltb 0 l) _ _ _ _ _ w₁ (λ z₁ w₂.
    undo (count_statement c.at s q₁) _ w₂ (λ u q₂ e₂ w₃. needed (negation (updating sc)) _ _ _ _ _ w₃ (λ z₂ w₄.
    let t = tested-read s c byte (eqb blr.receive) NotDue e₁ in
    let k = counted-went c.at s q₁ e₂ in
    let b = byte-went s q₂ (tested-read s q₂ byte (λ m. declared e m && negation (among m before)) BadMessage w₄).0 in
    record {
      deep = ltb-true 0 l z₁;
      first = sym (taken-read s c 1 byte_at t.0).1 ∙ sym (eqb-true blr.receive x t.1);
      went = onward (onward (code-went blr.receive NotDue s c e₁) k.0) b;
      few = omega (arith, k.1, b.counted);
    }))))

-- ---- one receive of a select

module _ (s : List ℕ) (e : Environment) (sc : Scope) (level : Level) (ms : List ℕ) (c : Cursor) {o : Result (MessageNumber × Cursor) (Refused Refusal)}
    (u : o ≡ message_answer (receive_coded level.left e sc ms s c)) where
  pub receive-refused : {n : ℕ} {y : Refused Refusal} {t t' : Tables} → 0 < n → o ≡ Err y →
      ReceivesRead n ms level e sc s c t t' (Err y)
  receive-refused {n} some i = stop (receives-coded e sc ms s c level.left n some ∙
      rw (answer-refused message_number (receive_coded level.left e sc ms s c) (sym i ∙ u)))

  module _ {m : MessageNumber} {q : Cursor} (i : o ≡ Ok (m, q)) where
    coded-is : receive_coded level.left e sc ms s c ≡ read m.0 q
    coded-is = message-read (receive_coded level.left e sc ms s c) (sym i ∙ u)

    pub receive-way : Received s c level.left m.0 q
    receive-way = received level.left e sc ms s c coded-is

    pub receive-given : {d scope : List ℕ} → Given s d scope c level.left → Given s d scope q (level.left - 1)
    receive-given g =
        let w = receive-way.went in
        given-at g (record {
          inside = inside w g.inside;
          statements_few = receive-way.few;
          contexts_few = omega (arith, w.declared, g.contexts_few);
          conditions_few = omega (arith, w.counted, w.noted, g.conditions_few);
        }) (omega (arith, w.declared)) (omega arith)

    whole : {n : ℕ} → 0 < n → many_receives n (read_receive level.left e sc) ms s c ≡
        receive_rest (many_receives (n - 1) (read_receive level.left e sc)) (read_statement (level.left - 1) e sc) ms m.0 s q
    whole {n} some = receives-coded e sc ms s c level.left n some ∙
        ap (λ y. on_read y (λ m q. receive_rest (many_receives (n - 1) (read_receive level.left e sc))
        (read_statement (level.left - 1) e sc) ms m s q))
        coded-is

    module _ {inner : Level} (ie : inner ≡ level_below q level) {st ct nd st₁ ct₁ nd₁ : List ℕ} {a : Passed}
        (w : StatementRead inner e sc s q (tables st ct nd) (tables st₁ ct₁ nd₁) a) where
      under : StatementRead (level_below q level) e sc s q (tables st ct nd) (tables st₁ ct₁ nd₁) a
      under = rw ie at w

      pub receive-stopped : {n : ℕ} {y : Refused Refusal} {t t' : Tables} → 0 < n → a ≡ Err y →
          ReceivesRead n ms level e sc s c t t' (Err y)
      unfolding receive_rest
      receive-stopped some j = stops under j (λ y. whole some ∙ rw (receive_rest, y))

      pub receive-body : Octets s → {q₁ : Cursor} → a ≡ Ok q₁ →
          StatementPart s e sc (level_below q level) q (tables st ct nd) (tables st₁ ct₁ nd₁) q₁
      receive-body octets j = statement-part s e sc (level_below q level) q octets under j

      pub after-given : {d scope : List ℕ} → Given s d scope c level.left → {q₁ : Cursor} → a ≡ Ok q₁ →
          Given s d scope q₁ level.left
      after-given g {q₁} j =
          let v = receive-body g.octets j in
          let o = (statement-sound s g.octets e (level.left - 1) sc q v.part q₁ v.is).went in
          given-at g (fine_of (statement-given (receive-given g) e sc (level_below q level) under j))
          (omega (arith, receive-way.went.declared, o.declared)) (omega arith)

    module _ (octets : Octets s) {q₁ : Cursor} {st ct nd st₁ ct₁ nd₁ : List ℕ}
        (v : StatementPart s e sc (level_below q level) q (tables st ct nd) (tables st₁ ct₁ nd₁) q₁) where
      body-went : Went s q (statement_bytes v.part) (statement_count v.part) (context_count v.part)
          (length (conditions e.relations sc v.part q.at)) q₁
      body-went = (statement-sound s octets e (level.left - 1) sc q v.part q₁ v.is).went

      -- its row stands above those of its statement
      pub receive-reached : {d scope : List ℕ} {a : Passed} {st₀ st₂ : List ℕ} → Given s d scope c level.left → Given s d scope q₁
          level.left →
          level.parent ≤ max_statements → st ≡ with_boolean st₀ c.statements 0 → a ≡ Ok q₁ →
          st₂ ≡ finished s st₁ c level.parent a →
          Reached c q₁ (receives_tables e sc level.parent c (last m.0 v.part)) (tables st₀ ct nd) (tables st₂ ct₁ nd₁)
      unfolding receives_rows receives_context_rows receives_conditions
      receive-reached {st₀} {st₂} g g₁ few ze j se =
          let w = receive-way.went in
          let o = body-went in
          let te = v.reached.filled in
          let there : q.at ≡ c.at + 2 = w.place in
          let counts : q.statements ≡ c.statements + 1 = w.counted in
          let held : q.contexts ≡ c.contexts = omega (arith, w.declared) in
          let marks : q.conditions ≡ c.conditions = omega (arith, w.noted) in
          let end : q₁.at ≡ c.at + 2 + size v.part = omega (arith, o.place) in
          let none : st ≡ set st₀ (c.statements * 5 + 4) 0 = ze ∙ boolean-row st₀ c.statements 0 g.statements_few (omega arith) in
          let row : st₂ ≡ sets st₀ (c.statements * 5)
          (receives_rows (last m.0 v.part) c.at c.statements level.parent c.conditions) =
          se ∙ rw j (finished-next s st₁ c level.parent q₁ g.statements_few (omega (arith, g.inside, g.short)) few
          (omega (arith, g₁.inside, g.short)))
          ∙ ap (λ z. sets z (c.statements * 5) (c.at ∷ byte_at s c.at ∷ level.parent ∷ q₁.at ∷ []))
          (ap (λ (z : Tables). z.statements) te ∙
          ap (λ z. sets z (q.statements * 5) (statement_rows v.part q.at q.statements q.statements q.conditions)) none)
          ∙ row-whole st₀ (statement_rows v.part q.at q.statements q.statements q.conditions) (c.statements * 5)
          (q.statements * 5) 0 c.at (byte_at s c.at) level.parent q₁.at (omega (arith, counts))
          ∙ rw (receive-way.first, end, there, counts, marks) in
          record {
            filled = rw (row, ap (λ (z : Tables). z.contexts) te, ap (λ (z : Tables). z.conditions) te, held, marks, there);
            follows = record {
              statements = omega (
                arith,
                w.counted,
                o.counted,
                statement-rows v.part (c.at + 2) (c.statements + 1)
                    (c.statements + 1) c.conditions,
              );
              contexts = omega (arith, w.declared, o.declared, context_rows_lem e.relations sc v.part (c.at + 2));
              conditions = omega (
                arith,
                w.noted,
                rw there at o.noted,
                length-map (conditions e.relations sc v.part (c.at + 2))
                    (λ x. x.place),
              );
            };
          }

      module _ {t t₂ : Tables} (reached : Reached c q₁ (receives_tables e sc level.parent c (last m.0 v.part)) t t₂) {n : ℕ}
          (some : 0 < n)
          {h : Result (Option Cursor) (Refused Refusal)} (z : h ≡ ending_of (peek s q₁)) where
        pub receives-cut : {y : Refused Refusal} {t' : Tables} → h ≡ Err y → ReceivesRead n ms level e sc s c t t' (Err y)
        unfolding receive_rest
        receives-cut k = stop (whole some ∙ rw (receive_rest, v.is, cut s q₁ z k))

        pub receives-done : {q₂ : Cursor} → h ≡ Ok (Some q₂) → ReceivesRead n ms level e sc s c t t₂ (Ok q₂)
        unfolding receive_rest
        receives-done k =
            let y = ended s q₁ z k in
            fill {a = last m.0 v.part} (whole some ∙ rw (receive_rest, v.is, y.seen, y.is-end, y.after)) refl reached.filled

        pub receives-goes : {t' : Tables} {r : Passed} → h ≡ Ok None → ReceivesRead (n - 1) (ms ++ (m.0 ∷ [])) level e sc s q₁ t₂ t' r →
            ReceivesRead n ms level e sc s c t t' r
        unfolding receive_rest receives_rows receives_context_rows receives_conditions
        receives-goes k w₂ =
            let y = going s q₁ z k in
            let w = receive-way.went in
            let there : q₁.at ≡ c.at + 2 + size v.part = omega (arith, w.place, body-went.place) in
            let counts : q₁.statements ≡ c.statements + 1 + statement_count v.part = omega (arith, w.counted, body-went.counted) in
            let marks : q₁.conditions ≡ c.conditions + condition_count v.part =
            omega (arith, w.noted, body-went.noted, conditions-count e.relations sc v.part q.at) in
            likewise (whole some ∙ rw (receive_rest, v.is, y.seen, y.no_end)) (made_of (λ rs. more m.0 v.part rs) reached
            (λ rs q₂ i₂. rw (there, counts, marks, map-append (λ x. x.place) (conditions e.relations sc v.part (c.at + 2)) _)) w₂)

-- no receive is left
pub receives-full : (s : List ℕ) (e : Environment) (sc : Scope) (level : Level) (n : ℕ) (ms : List ℕ) (c : Cursor) {t t' : Tables} → n ≡ 0 →
    ReceivesRead n ms level e sc s c t t' (Err (refused_at TooGreat c.at))
unfolding many_receives
receives-full s e sc level n ms c z = stop (rw (z, many_receives))

-- ---- a turn of the loop

pub receives-start : {s d scope : List ℕ} {e : Environment} {sc : Scope} {level : Level} {c : Cursor} {t : Tables} → Given s d scope c level.left →
    ReceivesFrom s d scope e sc level c t max_statements (replicate 256 false) c t
receives-start g = record {
  before = [];
  holds = none_seen;
  given = g;
  rest = λ w. w;
}

module _ {s d scope : List ℕ} {e : Environment} {sc : Scope} {level : Level} {c : Cursor} {t : Tables} {left : ℕ} {seen : List Bool} {at : Cursor}
    {st ct nd : List ℕ} (inv : ReceivesFrom s d scope e sc level c t left seen at (tables st ct nd)) where
  pub turns-over : left ≡ 0 → {t' : Tables} → SelectRead level e sc s c t t' (Err (refused_at TooGreat at.at))
  turns-over none = inv.rest (receives-full s e sc level left inv.before at none)

  module _ {o : Result (MessageNumber × Cursor) (Refused Refusal)} (u : (ms : List ℕ) → Holds seen ms → o ≡ message_answer (receive_coded level.left e sc ms s at)) where
    abbrev told : o ≡ message_answer (receive_coded level.left e sc inv.before s at)
    told = u inv.before inv.holds

    pub turn-refused : 0 < left → {y : Refused Refusal} {t' : Tables} → o ≡ Err y → SelectRead level e sc s c t t' (Err y)
    turn-refused some i = inv.rest (receive-refused s e sc level inv.before at told some i)

    module _ {m : MessageNumber} {q : Cursor} (i : o ≡ Ok (m, q)) where
      pub turn-way : Received s at level.left m.0 q
      turn-way = receive-way s e sc level inv.before at told i

      pub turn-given : Given s d scope q (level.left - 1)
      turn-given = receive-given s e sc level inv.before at told i inv.given

      module _ (some : 0 < left) {inner : Level} (ie : inner ≡ level_below q level) {st₁ ct₁ nd₁ : List ℕ} {a : Passed}
          {st₀ : List ℕ} (ze : st₀ ≡ with_boolean st at.statements 0)
          (w : StatementRead inner e sc s q (tables st₀ ct nd) (tables st₁ ct₁ nd₁) a) where
        pub turn_stopped : {y : Refused Refusal} {t' : Tables} → a ≡ Err y → SelectRead level e sc s c t t' (Err y)
        turn_stopped j = inv.rest (receive-stopped s e sc level inv.before at told i ie w some j)

        module _ {st₂ : List ℕ} (few : level.parent ≤ max_statements)
            (se : st₂ ≡ finished s st₁ at level.parent a) {q₁ : Cursor}
            (j : a ≡ Ok q₁) {h : Result (Option Cursor) (Refused Refusal)} (z : h ≡ ending_of (peek s q₁)) where
          abbrev body : StatementPart s e sc (level_below q level) q (tables st₀ ct nd) (tables st₁ ct₁ nd₁) q₁
          body = receive-body s e sc level inv.before at told i ie w inv.given.octets j

          next-given : Given s d scope q₁ level.left
          next-given = after-given s e sc level inv.before at told i ie w inv.given j

          reached : Reached at q₁ (receives_tables e sc level.parent at (last m.0 body.part)) (tables st ct nd) (tables st₂ ct₁ nd₁)
          reached = receive-reached s e sc level inv.before at told i inv.given.octets body inv.given next-given few ze j se

          pub turn-cut : {y : Refused Refusal} {t' : Tables} → h ≡ Err y → SelectRead level e sc s c t t' (Err y)
          turn-cut k = inv.rest (receives-cut s e sc level inv.before at told i inv.given.octets body reached some z k)

          pub turn-done : {q₂ : Cursor} → h ≡ Ok (Some q₂) → SelectRead level e sc s c t (tables st₂ ct₁ nd₁) (Ok q₂)
          turn-done k = inv.rest (receives-done s e sc level inv.before at told i inv.given.octets body reached some z k)

          pub turn-goes : m.0 < 256 → h ≡ Ok None →
              ReceivesFrom s d scope e sc level c t (left - 1) (set seen m.0 true) q₁ (tables st₂ ct₁ nd₁)
          turn-goes small k = record {
            before = inv.before ++ (m.0 ∷ []);
            holds = one_seen m.0 inv.holds small;
            given = next-given;
            rest = λ w₂. inv.rest (receives-goes s e sc level inv.before at told i inv.given.octets body reached some z k w₂);
          }
