-- What the readers of statements are given stays so along the way.
use Prim.Native.Nat.{ℕ, zero, suc, ◌+◌, ◌-◌, ◌<◌, ◌≤◌}
use mathlib.Core.Path.{◌≡◌, refl, sym, ap, ◌∙◌}
use mathlib.Core.List.{List}
use native.Mathlib.Omega.{arith}
use lib.ListN.{length}
use Rattle.std.specs.Prelude.{Option, Some, None, Result, Ok, Err}
use Rattle.wire.specs.Limits.{max_statements, max_contexts}
use Rattle.wire.specs.declared.refused.Refused.{Refused}
use Rattle.grammar.specs.declared.Cursor.{Cursor}
use Rattle.grammar.specs.declared.Refusal.{Refusal}
use Rattle.grammar.specs.Environment.{Environment, Scope}
use Rattle.grammar.specs.Reader.{Read, read}
use Rattle.grammar.specs.Values.{read_boolean}
use Rattle.grammar.specs.Statements.{read_statement}
use Rattle.grammar.proofs.Went.{Went, Within, inside, within-one}
use Rattle.grammar.proofs.FewConditions.{conditions_few}
use Rattle.grammar.proofs.SoundValues.{boolean-sound}
use Rattle.grammar.proofs.SoundStatements.{statement-sound}
use Rattle.scopes.specs.Scopes.{contexts_held}
use Rattle.tables.specs.Tables.{Tables, result_of}
use Rattle.tables.specs.Written.{listed, numbered}
use Rattle.tables.proofs.Rows.{numbered_is}
use Rattle.tables.proofs.Chains.{on-next}
use Rattle.openings.specs.declared.heads.Coded.{Coded}
use Rattle.openings.specs.Heads.{statement_coded, coded_at}
use Rattle.openings.specs.Openings.{Prepared, Opens}
use Rattle.expressions.specs.Promises.{Ready, BooleanRead, ClausesRead, PlaceAnswer}
use Rattle.expressions.proofs.ClauseLaws.{reads_clauses, reads-sound}
use Rattle.expressions.proofs.ReadyLaws.{ready-prepared}
use Rattle.reader.specs.declared.statements.Level.{Level}
use Rattle.reader.specs.Given.{Given, Inside, Below}
use Rattle.reader.specs.Readers.{Passed, level_below, StatementRead}
use Rattle.reader.proofs.Heads.{entered}
use Rattle.reader.proofs.Parts.{on-passed}

-- a cursor within 01's sizes
pub record Fine (s : List ℕ) (c : Cursor) : Type 0 where
  pub inside : c.at ≤ length s
  pub statements_few : c.statements ≤ max_statements
  pub contexts_few : c.contexts ≤ max_contexts
  pub conditions_few : c.conditions ≤ c.statements

-- after a way with no more conditions than statements
pub fine-went : {s bs : List ℕ} {c q : Cursor} {n k m : ℕ} → Fine s c → Went s c bs n k m q → Within c q → m ≤ n → Fine s q
fine-went f w h few = record {
  inside = inside w f.inside;
  statements_few = h.statements f.statements_few;
  contexts_few = h.contexts f.contexts_few;
  conditions_few = omega (arith, w.counted, w.noted, f.conditions_few);
}

-- one condition more, in a statement that has none yet
pub fine-noted : {s : List ℕ} {c q : Cursor} (p : Option ℕ) → Fine s c → c.conditions < c.statements → q ≡ numbered c p → Fine s q
fine-noted {s} {c} {q} p f h e = rw (e ∙ numbered_is c (omega (arith, f.statements_few)) p) (record {
  inside = f.inside;
  statements_few = f.statements_few;
  contexts_few = f.contexts_few;
  conditions_few = omega (arith, one-listed p);
})
  where
    one-listed : (p : Option ℕ) → length (listed p) ≤ 1
    one-listed None = omega arith
    one-listed (Some p) = omega arith

module _ {s d sc : List ℕ} {c : Cursor} {l : ℕ} (g : Given s d sc c l) where
  pub fine_of : Fine s c
  fine_of = record {
    inside = g.inside;
    statements_few = g.statements_few;
    contexts_few = g.contexts_few;
    conditions_few = g.conditions_few;
  }

  -- at another cursor, with no more levels
  pub given-at : {q : Cursor} {l' : ℕ} → Fine s q → c.contexts ≤ q.contexts → l' ≤ l → Given s d sc q l'
  given-at f more h = record {
    octets = g.octets;
    short = g.short;
    is-proper = g.is-proper;
    inside = f.inside;
    statements_few = f.statements_few;
    contexts_few = f.contexts_few;
    conditions_few = f.conditions_few;
    scope_whole = g.scope_whole;
    scope_fits = omega (arith, g.scope_fits);
    sends_fit = omega (arith, g.sends_fit);
    labels_fit = omega (arith, g.labels_fit);
  }

  pub given_below : {l' : ℕ} → l' ≤ l → Given s d sc c l'
  given_below h = given-at fine_of (omega arith) h

  -- for the readers of values, booleans and clauses
  pub given-ready : Ready s d sc c l
  given-ready = record {
    short = g.short;
    is-proper = g.is-proper;
    inside = g.inside;
    contexts_few = g.contexts_few;
    scope_whole = g.scope_whole;
    scope_fits = g.scope_fits;
    sends_fit = g.sends_fit;
    labels_fit = g.labels_fit;
  }

  pub prepared : Prepared s d sc c
  prepared = ready-prepared given-ready

  -- under a scope that was opened
  pub given-opened : {A : Type 0} {x : Read A} {ct ct' sc' : List ℕ} {row : ℕ} {rows : A → List ℕ} {below : A → Scope} {opened : A → ℕ}
      {r : Passed} {a : A} {q : Cursor} {l' : ℕ} → Opens x d ct row rows below opened ct' sc sc' r → x ≡ read a q →
      q.contexts ≡ c.contexts + opened a → Fine s q → suc l' ≤ l → Given s d sc' q l'
  given-opened {sc'} {opened} {a} w e more f h =
      let held : contexts_held sc' ≡ contexts_held sc + opened a = rw e at w.count_below in
      record {
        octets = g.octets;
        short = g.short;
        is-proper = g.is-proper;
        inside = f.inside;
        statements_few = f.statements_few;
        contexts_few = f.contexts_few;
        conditions_few = f.conditions_few;
        scope_whole = w.whole_below;
        scope_fits = omega (arith, g.scope_fits, held, more);
        sends_fit = omega (arith, g.sends_fit, w.sends_below);
        labels_fit = omega (arith, g.labels_fit, w.labels_below);
      }

-- ---- under a code

-- the code of a statement was read
pub coded-inside : {s d sc : List ℕ} {c : Cursor} {l : ℕ} {h : Result Coded (Refused Refusal)} {x : Coded} → Given s d sc c l →
    h ≡ result_of (coded_at c.at) (statement_coded l s c) → h ≡ Ok x → Inside s d sc x l
coded-inside {s} {c} {l} g u i =
    let o = entered s c l u i in
    record {
      given = given-at g (fine-went (fine_of g) o.went o.within (omega arith)) (omega (arith, o.went.declared)) (omega arith);
      here = o.went.place ∙ rw o.place;
      deep = o.deep;
      noted = omega (arith, o.went.counted, o.went.noted, g.conditions_few);
    }

-- the level of what stands under it
module _ (level : Level) {s d sc : List ℕ} {x : Coded} {inner : Level} (i : Inside s d sc x level.left) (e : inner ≡ level_below x.after level) where
  pub below-given : Given s d sc x.after inner.left × (inner.parent ≤ max_statements)
  below-given = rw e (given_below i.given (omega arith), i.given.statements_few)

  pub below-ready : Ready s d sc x.after inner.left × (x.after.at ≡ x.at + 1)
  below-ready = (given-ready below-given.0, i.here)

  pub below-inside : Below s d sc x inner
  below-inside =
      let deep : level.left - 1 + 1 ≡ level.left = omega (arith, i.deep) in
      rw e (record { inside = rw deep i; parent = refl })

-- ---- after a part

-- a part with conditions, which get their numbers after it
pub noted-given : {s d sc bs : List ℕ} {c q q₁ : Cursor} {l n : ℕ} (p : Option ℕ) → Given s d sc c l → c.conditions < c.statements →
    Went s c bs 0 n 0 q → (c.contexts ≤ max_contexts → q.contexts ≤ max_contexts) → q₁ ≡ numbered q p → Given s d sc q₁ l
noted-given {q} {q₁} p g h w few e =
    let fine = fine-went (fine_of g) w (within-one w few) (omega arith) in
    let number = e ∙ numbered_is q (omega (arith, fine.conditions_few, fine.statements_few)) p in
    let same : q₁.contexts ≡ q.contexts = ap (λ (z : Cursor). z.contexts) number in
    given-at g (fine-noted p fine (omega (arith, w.counted, w.noted)) e) (omega (arith, w.declared)) (omega arith)

module _ {s d sc : List ℕ} {c : Cursor} {l : ℕ} (g : Given s d sc c l) (e : Environment) (sc' : Scope) where
  pub statement-given : (level : Level) {t t' : Tables} {r : Passed} {q : Cursor} → StatementRead level e sc' s c t t' r →
      r ≡ Ok q → Given s d sc q l
  statement-given level {q} w i = on-passed w i (λ a y h.
      let o = statement-sound s g.octets e level.left sc' c a q y in
      given-at g (fine-went (fine_of g) o.went o.within (conditions_few e sc' a c.at o.allowed))
      (omega (arith, o.went.declared)) (omega arith))

  pub boolean-given : (l' : ℕ) {ct ct₁ : List ℕ} {r : Passed} {q q₁ : Cursor} → c.conditions < c.statements →
      BooleanRead l' e sc' s c ct ct₁ r → r ≡ Ok q → q₁ ≡ numbered q (Some c.at) → Given s d sc q₁ l
  boolean-given l' {q} h w i m = on-passed w i (λ a y f.
      let o = boolean-sound s g.octets e sc' l' c a q y in
      noted-given (Some c.at) g h o.went o.few m)

  pub clauses-given : (l' : ℕ) {ct ct₁ : List ℕ} {a : PlaceAnswer} {place : Option ℕ} {q q₁ : Cursor} → c.conditions < c.statements →
      ClausesRead l' e sc' s c ct ct₁ a → a ≡ Ok (place, q) → q₁ ≡ numbered q place → Given s d sc q₁ l
  clauses-given l' {a} {place} {q} h w i m =
      on-next w.wrote i (λ cs q' y k f.
      let same : q' ≡ q = sym (ap (λ z. z.1) k) in
      let y' : reads_clauses s e sc' l' c ≡ read cs q = rw same at y in
      let o = reads-sound s g.octets e sc' l' c cs q y' in
      noted-given place g h o.went o.few m)
