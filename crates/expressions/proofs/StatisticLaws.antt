-- A statistic: its rse, its number, and the scope of its context over both.
use Prim.Native.Nat.{ℕ, ◌+◌, ◌*◌}
use mathlib.Core.Path.{◌≡◌, refl, sym, ap, ◌∙◌}
use mathlib.Core.List.{List, ◌++◌, append_assoc}
use mathlib.Core.Option.{Option, none, some}
use native.Mathlib.Omega.{arith}
use lib.ListN.{length, length-append}
use lib.Seq.{sets}
use Rattle.std.specs.Prelude.{Result, Ok, Err}
use Rattle.std.specs.Prelude as std
use Rattle.wire.specs.Lists.{is_some}
use Rattle.wire.specs.Limits.{context_row_numbers}
use Rattle.wire.specs.declared.codes.Statistic.{Statistic}
use Rattle.wire.specs.declared.refused.Refused.{Refused}
use Rattle.grammar.specs.declared.Kind.{Kind}
use Rattle.grammar.specs.declared.Cursor.{Cursor}
use Rattle.grammar.specs.declared.Refusal.{Refusal}
use Rattle.grammar.specs.declared.Refusal.TheVariants.{Unfit}
use Rattle.grammar.specs.Tree.{Stream, Clauses, Value, statistic, rse}
use Rattle.grammar.specs.Bytes.{statistic_code, head_bytes, clauses_bytes, rse_bytes, value_bytes}
use Rattle.grammar.specs.Environment.{Environment, Scope, under_streams}
use Rattle.grammar.specs.Sizes.{clauses_contexts}
use Rattle.grammar.specs.Kinds.{kind_of, negated_kind}
use Rattle.grammar.specs.Rows.{clauses_rows, rse_rows, value_rows}
use Rattle.grammar.specs.Reader.{read, on_read, need}
use Rattle.grammar.specs.Rses.{rse_head}
use Rattle.grammar.specs.Values.{statistic_under, read_value}
use Rattle.grammar.specs.Demands.{Octets}
use Rattle.grammar.specs.Internal.Steps.{fit_of, kind_in}
use Rattle.grammar.proofs.StepLaws.{absurd-eq}
use Rattle.grammar.proofs.Went.{Went, inside}
use Rattle.grammar.proofs.SoundValues.{value-sound}
use Rattle.grammar.proofs.RowCounts.{clauses-rows}
use Rattle.scopes.specs.Scopes.{scope_of}
use Rattle.scopes.proofs.Scopes.{kind-fit}
use Rattle.tables.specs.Tables.{Tables, contexts_alone, laid, with_part, Wrote}
use Rattle.tables.specs.Written.{closed_after}
use Rattle.tables.proofs.Chains.{stop, likewise, stopped, on-part}
use Rattle.openings.specs.Streams.{relations}
use Rattle.openings.specs.Openings.{Prepared, OpensHead}
use Rattle.expressions.specs.Promises.{ValueAnswer, Answer, PlaceAnswer, Ready, kind_answer, value_fit, value_tables, ClausesRead, ValueRead, StatisticRead}
use Rattle.expressions.proofs.Parts.{rows-after}
use Rattle.expressions.proofs.ClauseLaws.{reads-sound}
use Rattle.expressions.proofs.ReadyLaws.{ready-went}
use Rattle.expressions.proofs.RseLaws.{reads_rse, rse-head-not, rse-is, rse-not, clauses-read, HeadOpened, rse-closed, head-stopped, head_read}

-- the whole is made if it has a kind, and its rows are there then
kind-made : {C : Type 0} (f : C → std.Option Kind) (x : Option Kind) (v : C) (p : ℕ) (s : List ℕ) (c q : Cursor) (rows : C → Tables) {t t' : Tables}
    {r : ValueAnswer} → f v ≡ fit_of x → r ≡ kind_answer x p q →
    ((z : std.Option Kind) (q' : Cursor) → r ≡ Ok (z, q') → t' ≡ laid t c (rows v)) →
    Wrote (on_read (need (is_some x) Unfit p s q) (λ u q. read v q)) (with_part f) c rows t t' r
kind-made f none v p s c q rows e j filled = record { answer = j; filled = refl }
kind-made f (some x) v p s c q rows e j filled = record { answer = j ∙ rw e; filled = filled _ _ j }

ok-err : {R G : Type 0} {v : R} {y : Refused Refusal} → ◌≡◌ {A = Result R (Refused Refusal)} (Ok v) (Err y) → G
ok-err e = absurd-eq (cc)

abbrev cursor_in : Cursor → ValueAnswer → Cursor
cursor_in q (Ok v) = v.1
cursor_in q (Err y) = q

-- a kind's answer has the cursor that it was given
same-end : (x : Option Kind) (p : ℕ) {q q' : Cursor} {z : std.Option Kind} → kind_answer x p q ≡ Ok (z, q') → q ≡ q'
same-end none p e = ok-err (sym e)
same-end (some k) p {q} e = ap (cursor_in q) e

module _ (s d scope : List ℕ) (e : Environment) (known : e.relations ≡ relations d) (l p : ℕ) (k : Statistic) (c : Cursor) {o : ℕ}
    (code : o ≡ statistic_code k) {ct ct₁ scope' : List ℕ} {a : Answer}
    (v : Prepared s d scope c → OpensHead o (rse_head 1 (relations d) o (scope_of d scope) s c) d c ct ct₁ scope scope' a) where
  opens : Prepared s d scope c →
      OpensHead (statistic_code k) (rse_head 1 (relations d) (statistic_code k) (scope_of d scope) s c) d c ct ct₁ scope scope' a
  opens g = rw (← code) (v g)

  abbrev Statistics : List ℕ → ValueAnswer → Type 0
  Statistics ct' r = Ready s d scope c (l + 1) → StatisticRead l e (scope_of d scope) p k s c ct ct' r

  -- the scope of the clauses and the number
  abbrev under : List Stream → Scope
  under ss = under_streams e.relations (statistic_code k) (scope_of d scope) ss

  pub statistic-head-stopped : {y : Refused Refusal} → a ≡ Err y → Statistics ct₁ (Err y)
  unfolding statistic_under
  statistic-head-stopped j g = stop (rw (rse-head-not s e (scope_of d scope) l (statistic_code k) c
      (head-stopped s d scope e known l (statistic_code k) c opens j g)))

  module _ (bytes : Octets s) {first : Cursor} (j : a ≡ Ok first) {ct₂ : List ℕ} {b : PlaceAnswer}
      (w₁ : Ready s d scope' first l → ClausesRead l e (scope_of d scope') s first ct₁ ct₂ b) where
    pub statistic-clauses-stopped : {y : Refused Refusal} → b ≡ Err y → Statistics ct₂ (Err y)
    unfolding statistic_under
    statistic-clauses-stopped y₁ g = head_read s d scope e known l (statistic_code k) c opens bytes j g (λ ss y h.
        stop (rw (rse-not s e (scope_of d scope) l (statistic_code k) c y (stopped (rw h.below at (w₁ h.ready)).wrote y₁))))

    module _ {such : std.Option ℕ} {second : Cursor} (j₁ : b ≡ Ok (such, second)) {ct₃ : List ℕ} {n : ValueAnswer}
        (w₃ : Ready s d scope' second l → ValueRead l e (scope_of d scope') s second ct₂ ct₃ n) where
      -- the rse was read, and the number is read under its context
      record Below (ss : List Stream) (t : Clauses) : Type 0 where
        opened : HeadOpened s d scope scope' e l (statistic_code k) c first ss ct ct₁
        is : reads_rse s e (scope_of d scope) l (statistic_code k) c ≡ read (rse ss t) second
        went : Went s first (clauses_bytes t) 0 (clauses_contexts t) 0 second
        filled : ct₂ ≡ sets ct₁ (first.contexts * context_row_numbers) (clauses_rows e.relations (under ss) t first.at)
        number : ValueRead l e (under ss) s second ct₂ ct₃ n

      below-read : Ready s d scope c (l + 1) → {G : Type 0} → ((ss : List Stream) (t : Clauses) → Below ss t → G) → G
      below-read g next = head_read s d scope e known l (statistic_code k) c opens bytes j g (λ ss y h.
          clauses-read s l (rw h.below at (w₁ h.ready)) j₁ (λ t z filled.
          let i = reads-sound s bytes e (under ss) l first t second z in
          next ss t (record {
            opened = h;
            is = rse-is s e (scope_of d scope) l (statistic_code k) c y z;
            went = i.went;
            filled = filled;
            number = rw h.below at (w₃ (ready-went h.ready i.went i.few));
          })))

      pub statistic-number-stopped : {y : Refused Refusal} → n ≡ Err y → Statistics ct₃ (Err y)
      unfolding statistic_under
      statistic-number-stopped y₂ g = below-read g (λ ss t z. stop (rw (z.is, stopped z.number y₂)))

      module _ (here : c.at ≡ p + 1) {x : std.Option Kind} {q : Cursor} (y₂ : n ≡ Ok (x, q)) {r : ValueAnswer} (re : r ≡ kind_answer (negated_kind (kind_in x)) p q) where
        -- the rows, whose scope ends after the number
        statistic-rows : (ss : List Stream) (t : Clauses) → Below ss t → (num : Value) → read_value l e (under ss) s second ≡ read num q →
            {ct₄ : List ℕ} → ct₄ ≡ closed_after ct₃ c.contexts first (Ok q) →
            ct₄ ≡ sets ct (c.contexts * context_row_numbers) (value_rows e.relations (scope_of d scope) (statistic k (rse ss t) num) p)
        unfolding value_rows rse_rows rse_bytes
        statistic-rows ss t z num i ce =
            let m = (value-sound s bytes e (under ss) l second num q i).went in
            let of-clauses = clauses_rows e.relations (under ss) t first.at in
            let of_number = value_rows e.relations (under ss) num second.at in
            let numbered : ct₃ ≡ sets ct₂ (second.contexts * context_row_numbers) of_number =
            ap (λ (z : Tables). z.contexts) (rw i at z.number.filled) in
            let row : second.contexts * context_row_numbers ≡ first.contexts * context_row_numbers + length of-clauses =
            omega (arith, z.went.declared, clauses-rows e.relations (under ss) t first.at) in
            let filled : ct₃ ≡ sets ct₁ (first.contexts * context_row_numbers) (of-clauses ++ of_number) =
            rows-after of-clauses of_number ct₁ (first.contexts * context_row_numbers) z.filled row numbered in
            let within = inside m (inside z.went z.opened.ready.inside) in
            let there : first.at ≡ p + 1 + length (head_bytes ss) = omega (arith, z.opened.place, here) in
            let then : second.at ≡ p + 1 + (length (head_bytes ss) + length (clauses_bytes t)) = omega (arith, z.went.place, there) in
            let end : q.at ≡ p + 1 + (length (head_bytes ss) + length (clauses_bytes t)) + length (value_bytes num) =
            omega (arith, m.place, then) in
            rse-closed z.opened (of-clauses ++ of_number) q within filled ce ∙
            rw (here, there, then, end, length-append (head_bytes ss) (clauses_bytes t), append_assoc)

        statistic-whole : {ct₄ : List ℕ} (ss : List Stream) (t : Clauses) → Below ss t → (num : Value) →
            read_value l e (under ss) s second ≡ read num q → x ≡ value_fit e (under ss) num →
            ((z : std.Option Kind) (q' : Cursor) → r ≡ Ok (z, q') → ct₄ ≡ closed_after ct₃ c.contexts first (Ok q)) →
            StatisticRead l e (scope_of d scope) p k s c ct ct₄ r
        unfolding statistic_under kind_of
        statistic-whole ss t z num i fit ce =
            let whole = statistic k (rse ss t) num in
            likewise (rw (z.is, i))
            (kind-made (value_fit e (scope_of d scope)) (kind_of e (scope_of d scope) whole) whole p s c q (value_tables e (scope_of d scope) p) refl
            (re ∙ ap (λ y. kind_answer (negated_kind (kind_in y)) p q) fit ∙
            ap (λ y. kind_answer (negated_kind y) p q) (kind-fit (kind_of e (under ss) num)))
            (λ f q' answer. ap contexts_alone (statistic-rows ss t z num i (ce f q' answer))))

        -- a number that has no kind
        pub statistic-unfit : {y : Refused Refusal} → r ≡ Err y → Statistics ct₃ (Err y)
        statistic-unfit j₂ g = rw j₂ at (below-read g (λ ss t z. on-part z.number y₂ (λ num i fit filled.
            statistic-whole {ct₄ = ct₃} ss t z num i fit (λ f q' answer. ok-err (sym answer ∙ j₂)))))

        pub statistic-read : {z : std.Option Kind} {q' : Cursor} {ct₄ : List ℕ} → r ≡ Ok (z, q') →
            ct₄ ≡ closed_after ct₃ c.contexts first (Ok q') → Statistics ct₄ (Ok (z, q'))
        statistic-read {z} {q'} {ct₄} j₂ ce g = rw j₂ at (below-read g (λ ss t b. on-part b.number y₂ (λ num i fit filled.
            statistic-whole {ct₄ = ct₄} ss t b num i fit (λ f q₃ answer. rw (same-end (negated_kind (kind_in x)) p (sym re ∙ j₂)) ce))))
