-- Sequences of statements and of receives that were read, from statements that were read.
use Prim.Native.Nat.{ℕ, zero, suc, ◌+◌, ◌≤◌}
use mathlib.Core.Path.{◌≡◌, refl, sym}
use mathlib.Core.Bool.{false}
use mathlib.Core.List.{List, [], ◌∷◌, ◌++◌, append_assoc}
use native.Mathlib.Nat.{add-zero}
use native.Mathlib.Omega.{arith}
use lib.Dec.{eqb}
use lib.ListN.{length, length-append}
use Rattle.wire.specs.Codes as blr
use Rattle.wire.specs.Lists.{among}
use Rattle.grammar.specs.declared.Cursor.{Cursor}
use Rattle.grammar.specs.declared.Refusal.TheVariants.{TooGreat}
use Rattle.grammar.specs.Tree.{Statement, Statements, none as nothing, ◌then◌, Receives, last, more}
use Rattle.grammar.specs.Bytes.{statement_bytes, statements_bytes, receives_bytes}
use Rattle.grammar.specs.Environment.{Environment, Scope}
use Rattle.grammar.specs.Scope.{Exchanged, selected_messages}
use Rattle.grammar.specs.Sizes.{statement_depth, statements_depth, receives_depth, statement_count, statements_count, receives_count, context_count, contexts_count, receives_contexts}
use Rattle.grammar.specs.Rules.{StatementAllowed, StatementsAllowed, ReceivesAllowed}
use Rattle.grammar.specs.Conditions.{conditions, statements_conditions, receives_conditions}
use Rattle.grammar.specs.Reader.{read, Reader, byte, peek, code}
use Rattle.grammar.specs.Statements.{many, many_receives}
use Rattle.grammar.proofs.Unique.{Fresh}
use Rattle.grammar.proofs.Went.{Went, Passed, Within, never, undo, same, either, peek-read, onward, went-as, went-by, within-onward, within_none, code-went, peeked-went}

module _ (l : ℕ) (e : Environment) (sc : Scope) (s : List ℕ) where
  -- a statement, with l levels left for it and what stands in it
  pub record StatementSound (c : Cursor) (t : Statement) (c' : Cursor) : Type 0 where
    pub went : Went s c (statement_bytes t) (statement_count t) (context_count t) (length (conditions e.relations sc t c.at)) c'
    pub depth : statement_depth t ≤ l
    pub allowed : StatementAllowed e sc t
    pub within : Within c c'

  -- a receive of a select, beside the messages of those before it
  pub record ReceiveSound (before : List ℕ) (c : Cursor) (r : ℕ × Statement) (c' : Cursor) : Type 0 where
    pub fresh : among r.0 before ≡ false
    pub went : Went s c (blr.receive ∷ r.0 ∷ statement_bytes r.1) (suc (statement_count r.1)) (context_count r.1)
        (length (conditions e.relations sc r.1 (c.at + 2))) c'
    pub depth : suc (statement_depth r.1) ≤ l
    pub exchanged : Exchanged e sc r.0
    pub allowed : StatementAllowed e sc r.1
    pub within : Within c c'

  -- statements and their end
  pub record StatementsSound (c : Cursor) (ts : Statements) (c' : Cursor) : Type 0 where
    pub went : Went s c (statements_bytes ts ++ (blr.end ∷ [])) (statements_count ts) (contexts_count ts)
        (length (statements_conditions e.relations sc ts c.at)) c'
    pub depth : statements_depth ts ≤ l
    pub allowed : StatementsAllowed e sc ts
    pub within : Within c c'

  -- receives and their end
  pub record ReceivesSound (before : List ℕ) (c : Cursor) (rs : Receives) (c' : Cursor) : Type 0 where
    pub went : Went s c (receives_bytes rs ++ (blr.end ∷ [])) (receives_count rs) (receives_contexts rs)
        (length (receives_conditions e.relations sc rs c.at)) c'
    pub depth : receives_depth rs ≤ l
    pub fresh : Fresh before (selected_messages rs)
    pub allowed : ReceivesAllowed e sc rs
    pub within : Within c c'

  abbrev pub ReadsStatements : Reader Statement → Type 0
  ReadsStatements reader = (c : Cursor) (t : Statement) (c' : Cursor) → reader s c ≡ read t c' → StatementSound c t c'

  abbrev pub ReadsReceives : List ℕ → Reader (ℕ × Statement) → Type 0
  ReadsReceives before reader = (c : Cursor) (r : ℕ × Statement) (c' : Cursor) → reader s c ≡ read r c' → ReceiveSound before c r c'

  -- ---- statements up to an end

  no-statement : (c c' : Cursor) → Passed s c (blr.end ∷ []) c' → StatementsSound c nothing c'
  unfolding statements_bytes statements_count contexts_count statements_conditions statements_depth
  no-statement c c' g = record { went = g; depth = omega arith; allowed = tt; within = within_none g }

  first-statement : (c : Cursor) (t : Statement) (q : Cursor) (ts : Statements) (c' : Cursor) → StatementSound c t q →
      StatementsSound q ts c' → StatementsSound c (t then ts) c'
  unfolding statements_bytes statements_count contexts_count statements_conditions statements_depth
  first-statement c t q ts c' i j = record {
    went = went-as (went-by (onward i.went j.went) (sym (append_assoc (statement_bytes t) (statements_bytes ts) (blr.end ∷ []))))
        refl refl (rw (i.went.place, length-append));
    depth = omega (arith, i.depth, j.depth);
    allowed = (i.allowed, j.allowed);
    within = within-onward i.within j.within;
  }

  pub many-sound : (one : Reader Statement) → ReadsStatements one → (n : ℕ) (c : Cursor) (ts : Statements) (c' : Cursor) →
      many n one s c ≡ read ts c' → StatementsSound c ts c'
  unfolding many
  many-sound one ones zero c ts c' h = undo (code blr.end TooGreat s c) _ h (λ x q e₁ w.
      same w (λ ts c'. StatementsSound c ts c') (no-statement c q (code-went blr.end TooGreat s c e₁)))
  many-sound one ones (suc n) c ts c' h = undo (peek s c) _ h (λ x q e₁ w. either (eqb x blr.end) _ _ s q w
      (λ t v. undo (byte s q) _ v (λ y q₁ e₂ v₁.
      same v₁ (λ ts c'. StatementsSound c ts c') (no-statement c q₁ (peeked-went s c x blr.end e₁ t e₂))))
      (λ t v. undo (one s q) _ v (λ a q₁ e₂ v₁. undo (many n one s q₁) _ v₁ (λ ys q₂ e₃ v₂.
      same v₂ (λ ts c'. StatementsSound c ts c')
      (first-statement c a q₁ ys q₂ (rw (peek-read s c e₁).0 at (ones q a q₁ e₂)) (many-sound one ones n q₁ ys q₂ e₃))))))

  -- ---- receives up to an end

  last-receive : (before : List ℕ) (c : Cursor) (r : ℕ × Statement) (q c' : Cursor) → ReceiveSound before c r q →
      Passed s q (blr.end ∷ []) c' → ReceivesSound before c (last r.0 r.1) c'
  unfolding receives_bytes receives_count receives_contexts receives_conditions receives_depth
  last-receive before c r q c' i g = record {
    went = went-as (onward i.went g) (add-zero _) (add-zero _) (add-zero _);
    depth = i.depth;
    fresh = (i.fresh, tt);
    allowed = (i.exchanged, i.allowed);
    within = within-onward i.within (within_none g);
  }

  first-receive : (before : List ℕ) (c : Cursor) (r : ℕ × Statement) (q : Cursor) (rs : Receives) (c' : Cursor) →
      ReceiveSound before c r q → ReceivesSound (before ++ (r.0 ∷ [])) q rs c' → ReceivesSound before c (more r.0 r.1 rs) c'
  unfolding receives_bytes receives_count receives_contexts receives_conditions receives_depth
  first-receive before c r q rs c' i j =
      let there : q.at ≡ c.at + 2 + length (statement_bytes r.1) = omega (arith, i.went.place) in
      record {
        went = went-as
            (went-by (onward i.went j.went)
            (sym (append_assoc (blr.receive ∷ r.0 ∷ statement_bytes r.1) (receives_bytes rs) (blr.end ∷ []))))
            refl refl (rw (there, length-append));
        depth = omega (arith, i.depth, j.depth);
        fresh = (i.fresh, j.fresh);
        allowed = (i.exchanged, i.allowed, j.allowed);
        within = within-onward i.within j.within;
      }

  pub many-receives-sound : (one : List ℕ → Reader (ℕ × Statement)) → ((before : List ℕ) → ReadsReceives before (one before)) →
      (n : ℕ) (before : List ℕ) (c : Cursor) (rs : Receives) (c' : Cursor) → many_receives n one before s c ≡ read rs c' →
      ReceivesSound before c rs c'
  unfolding many_receives
  many-receives-sound one ones zero before c rs c' h = never h
  many-receives-sound one ones (suc n) before c rs c' h = undo (one before s c) _ h (λ r q e₁ w. undo (peek s q) _ w (λ x q₁ e₂ w₁.
      let i = ones before c r q e₁ in
      either (eqb x blr.end) _ _ s q₁ w₁
      (λ t v. undo (byte s q₁) _ v (λ y q₂ e₃ v₁.
      same v₁ (λ rs c'. ReceivesSound before c rs c') (last-receive before c r q q₂ i (peeked-went s q x blr.end e₂ t e₃))))
      (λ t v. undo (many_receives n one (before ++ (r.0 ∷ [])) s q₁) _ v (λ ys q₂ e₃ v₁.
      same v₁ (λ rs c'. ReceivesSound before c rs c')
      (first-receive before c r q ys q₂ i
      (many-receives-sound one ones n (before ++ (r.0 ∷ [])) q ys q₂ (rw (peek-read s q e₂).0 at e₃)))))))
