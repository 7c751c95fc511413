-- What the code of a statement, an end and a receive tell: what was read, or the refusal.
use Prim.Native.Nat.{ℕ, zero, suc, ◌+◌, ◌-◌, ◌<◌}
use mathlib.Core.Path.{◌≡◌, refl, sym, ap, ◌∙◌}
use mathlib.Core.Bool.{Bool, true, false}
use mathlib.Core.List.{List, [], ◌∷◌}
use native.Mathlib.Numerals.{sub-one}
use native.Mathlib.Omega.{arith}
use lib.Dec.{ltb, leb, eqb}
use lib.ListN.{length}
use borrow.Author.Tests.{lt-ltb, ltb-true}
use Rattle.std.specs.Prelude.{Option as Maybe, Some, None, Result, Ok, Err}
use Rattle.wire.specs.Codes as blr
use Rattle.wire.specs.Words.{byte_at}
use Rattle.wire.specs.Options.{refused_at}
use Rattle.wire.specs.Classes.{statement_class}
use Rattle.wire.specs.declared.codes.StatementCode.{StatementCode}
use Rattle.wire.specs.declared.refused.Refused.{Refused}
use Rattle.grammar.specs.declared.Cursor.{Cursor}
use Rattle.grammar.specs.declared.Refusal.{Refusal}
use Rattle.grammar.specs.Environment.{Environment, Scope}
use Rattle.grammar.specs.Reader.{Read, read, refused, on_read, on, byte, peek, coded, count_statement}
use Rattle.grammar.specs.Statements.{statement_under, read_statement}
use Rattle.grammar.proofs.StepLaws.{absurd-eq, taken-cut, peek-here, peek-past}
use Rattle.grammar.proofs.Went.{Went, Within, never, undo, same, needed, taken-read, coded-read, peek-read, byte-went}
use Rattle.grammar.proofs.Codes.{statement_code, statement-due}
use Rattle.grammar.proofs.SoundStatements.{counted-code}
use Rattle.tables.specs.Tables.{result_of}
use Rattle.tables.proofs.Chains.{by_read, result-read, result-refused}
use Rattle.openings.specs.declared.heads.Coded.{Coded}
use Rattle.openings.specs.Heads.{statement_coded, coded_at, ending_of}
use Rattle.reader.specs.Readers.{inner_at}

-- ---- the code of a statement

-- the way to a statement's code, which is counted
pub record Entered (s : List ℕ) (c : Cursor) (l : ℕ) (x : Coded) : Type 0 where
  pub is : statement_coded l s c ≡ read x.code x.after
  pub place : x.at ≡ c.at
  pub first : byte_at s c.at ≡ statement_code x.code
  pub went : Went s c (statement_code x.code ∷ []) 1 0 0 x.after
  pub within : Within c x.after
  pub deep : 0 < l

module _ (s : List ℕ) (c : Cursor) (l : ℕ) {h : Result Coded (Refused Refusal)}
    (u : h ≡ result_of (coded_at c.at) (statement_coded l s c)) where
  pub code-refused : {y : Refused Refusal} → h ≡ Err y → statement_coded l s c ≡ refused y.refusal y.place
  code-refused i = result-refused (coded_at c.at) (statement_coded l s c) (sym i ∙ u)

  pub entered : {x : Coded} → h ≡ Ok x → Entered s c l x
  unfolding statement_coded
  entered {x} i =
      let m = result-read (coded_at c.at) (statement_coded l s c) (sym i ∙ u) in
      let e : statement_coded l s c ≡ read x.code x.after = rw m.3 m.2 in
      undo (coded statement_class s c) _ e (λ k q e₁ w. needed (ltb 0 l) _ _ _ _ _ w (λ t w₁.
      undo (count_statement c.at s q) _ w₁ (λ v q₁ e₂ w₂.
      let o = coded-read s c statement_class e₁ in
      let b = taken-read s c 1 byte_at o.1 in
      let d = statement-due o.0 k o.2 in
      let g = counted-code s c q o.0 c.at (byte-went s c o.1) e₂ in
      let ke : k ≡ x.code = same w₂ (λ a q. k ≡ a) refl in
      let qe : q₁ ≡ x.after = same w₂ (λ a q. q₁ ≡ q) refl in
      record {
        is = e;
        place = ap (λ (z : Coded). z.at) m.3;
        first = sym b.1 ∙ d ∙ ap statement_code ke;
        went = rw (d, ke, qe) at g.0;
        within = rw qe at g.1;
        deep = ltb-true 0 l t;
      })))

-- a statement is its code, and what stands under it
module _ (s : List ℕ) (e : Environment) (sc : Scope) (c : Cursor) where
  pub statement-coded : (l : ℕ) → read_statement l e sc s c ≡
      on_read (statement_coded l s c) (λ k q. statement_under (inner_at (l - 1) e) e sc c.at k s q)
  unfolding read_statement statement_coded count_statement
  statement-coded l = go l (coded statement_class s c) refl
    where
      few : (l : ℕ) (k : StatementCode) (q : Cursor) (b : Bool) → coded statement_class s c ≡ read k q → ltb q.statements 512 ≡ b →
          read_statement (suc l) e sc s c ≡
          on_read (statement_coded (suc l) s c) (λ k q. statement_under (inner_at (suc l - 1) e) e sc c.at k s q)
      few l k q true h j = rw (read_statement, statement_coded, h, lt-ltb 0 (suc l) (omega arith), j, sub-one (suc l))
      few l k q false h j = rw (read_statement, statement_coded, h, lt-ltb 0 (suc l) (omega arith), j)

      go : (l : ℕ) (y : Read StatementCode) → coded statement_class s c ≡ y → read_statement l e sc s c ≡
          on_read (statement_coded l s c) (λ k q. statement_under (inner_at (l - 1) e) e sc c.at k s q)
      go zero (read k q) h = rw (read_statement, statement_coded, h)
      go zero (refused n p) h = rw (read_statement, statement_coded, h)
      go (suc l) (read k q) h = few l k q (ltb q.statements 512) h refl
      go (suc l) (refused n p) h = rw (read_statement, statement_coded, h)

-- ---- an end, or more

module _ (s : List ℕ) (c : Cursor) {h : Result (Maybe Cursor) (Refused Refusal)} (u : h ≡ ending_of (peek s c)) where
  by-ending : {G : Type 0} → ((y : ℕ) → peek s c ≡ read y c → eqb y blr.end ≡ true → h ≡ Ok (Some (on c 1)) → G) →
      ((y : ℕ) → peek s c ≡ read y c → eqb y blr.end ≡ false → h ≡ Ok None → G) →
      ((n : Refusal) (p : ℕ) → peek s c ≡ refused n p → h ≡ Err (refused_at n p) → G) → G
  by-ending {G} f g k = by_read (peek s c) (λ y d e. at y (e ∙ ap (read y) (peek-read s c e).0) (eqb y blr.end) refl)
      (λ n p e. k n p e (u ∙ rw e))
    where
      at : (y : ℕ) → peek s c ≡ read y c → (b : Bool) → eqb y blr.end ≡ b → G
      at y e true t = f y e t (u ∙ rw (e, t))
      at y e false t = g y e t (u ∙ rw (e, t))

  -- the byte of an end is there
  pub record Ended (q : Cursor) : Type 0 where
    pub code : ℕ
    pub seen : peek s c ≡ read code c
    pub is-end : eqb code blr.end ≡ true
    pub after : byte s c ≡ read code q

  pub ended : {q : Cursor} → h ≡ Ok (Some q) → Ended q
  ended {q} i = by-ending
      (λ y e t k.
      let z : on c 1 ≡ q = cc in
      record { code = y; seen = e; is-end = t; after = (peek-read s c e).1 ∙ ap (read y) z })
      (λ y e t k. absurd-eq (cc)) (λ n p e k. absurd-eq (cc))

  -- another code is there
  pub record Going : Type 0 where
    pub code : ℕ
    pub seen : peek s c ≡ read code c
    pub no_end : eqb code blr.end ≡ false

  pub going : h ≡ Ok None → Going
  going i = by-ending (λ y e t k. absurd-eq (cc)) (λ y e t k. record { code = y; seen = e; no_end = t }) (λ n p e k. absurd-eq (cc))

  pub cut : {y : Refused Refusal} → h ≡ Err y → peek s c ≡ refused y.refusal y.place
  cut {y} i = by-ending (λ y e t k. absurd-eq (cc)) (λ y e t k. absurd-eq (cc)) (λ m o e k.
      let z : refused_at m o ≡ y = cc in e ∙ ap (λ (z : Refused Refusal). refused z.refusal z.place) z)

pub byte_cut : (s : List ℕ) (c : Cursor) {r : Refusal} {p : ℕ} → peek s c ≡ refused r p → byte s c ≡ refused r p
byte_cut s c {r} {p} e = go (leb (c.at + 1) (length s)) refl
  where
    go : (b : Bool) → leb (c.at + 1) (length s) ≡ b → byte s c ≡ refused r p
    go true h = let z : ◌≡◌ {A = Read ℕ} (refused r p) (read _ _) = sym e ∙ peek-here s c h in never z
    go false h = taken-cut 1 byte_at s c h ∙ sym (peek-past s c h) ∙ e
