-- Statements that were read: their bytes are those of the grammar, the rules allow them, and the cursor counts what they hold.
use Prim.Native.Nat.{ℕ, zero, suc, ◌+◌, ◌-◌, ◌<◌, ◌≤◌}
use mathlib.Core.Path.{◌≡◌, refl, sym, ap, ◌∙◌}
use mathlib.Core.Bool.{false, not as negation, ◌&&◌}
use mathlib.Core.List.{List, [], ◌∷◌, ◌++◌}
use native.Mathlib.Nat.{add-zero, zero-add}
use native.Mathlib.Omega.{arith}
use lib.Dec.{eqb}
use lib.ListN.{length, drop, length-append}
use borrow.Author.Tests.{not-true}
use Rattle.wire.specs.Codes as blr
use Rattle.wire.specs.Limits.{max_streams}
use Rattle.wire.specs.Lists.{among}
use Rattle.wire.specs.declared.codes.StatementCode.{StatementCode}
use Rattle.wire.specs.declared.codes.StatementCode.TheVariants.{Assignment, Begin, Erase, For, Loop, Modify, Handler, Receive, Send, Store, Label, Leave, If, Select}
use Rattle.grammar.specs.declared.Cursor.{Cursor}
use Rattle.grammar.specs.declared.Refusal.TheVariants.{NotDue, BadMessage}
use Rattle.grammar.specs.Tree.{Heading, loop, handler, rse, Statement, assignment, begin, erase, for, headed, leave, if, if_else, select}
use Rattle.grammar.specs.Bytes.{head_bytes, heading_bytes, rse_bytes, boolean_bytes, statement_bytes}
use Rattle.grammar.specs.Environment.{Environment, Scope, under_streams, under_rse, under_heading}
use Rattle.grammar.specs.Scope.{of_for, declared, updating, Exchanged, selected_messages}
use Rattle.grammar.specs.Kinds.{kind_of, reference_kind, one_kind}
use Rattle.grammar.specs.Sizes.{booleans_count, statement_depth, statement_count, context_count, heading_contexts}
use Rattle.grammar.specs.Rules.{StatementAllowed}
use Rattle.grammar.specs.Conditions.{conditions, clauses_conditions, rse_conditions}
use Rattle.grammar.specs.Reader.{read, Reader, byte, peek, tested, code, coded, count_statement, noted}
use Rattle.grammar.specs.Values.{context_byte, read_target}
use Rattle.grammar.specs.Statements.{Inner, inner, rse_head, clauses, many, many_receives, modify_heading, receive_heading, send_heading, store_heading, label_heading, assignment_under, erase_under, for_under, headed_under, leave_under, if_under, select_under, begin_under, statement_under, receive_under, read_statement, read_receive}
use Rattle.grammar.specs.Demands.{Octets}
use Rattle.grammar.proofs.Went.{Went, Passed, Within, never, undo, same, needed, either, both, tested-read, peek-read, onward, went-as, went-by, within-onward, within-one, within_none, byte-went, code-went, peeked-went, counted-went, noted-went}
use Rattle.grammar.proofs.Unique.{fresh-unique}
use Rattle.grammar.proofs.Codes.{statement_code, statement-due, coded-went}
use Rattle.grammar.proofs.SoundReferences.{target_sound, context-went}
use Rattle.grammar.proofs.SoundValues.{value-sound, boolean-sound}
use Rattle.grammar.proofs.SoundRses.{ReadsValues, ReadsBooleans, HeadingSound, head-sound, clauses-sound, rse-sound, plain-heading-sound, receive-heading-sound, send-heading-sound, label-heading-sound, modify-heading-sound, store-heading-sound}
use Rattle.grammar.proofs.FewConditions.{clauses-count}
use Rattle.grammar.proofs.SoundSequences.{ReadsStatements, ReadsReceives, many-sound, many-receives-sound}

-- after the code k, which stands at p, with l levels left below it
pub record StatementUnderSound (l : ℕ) (e : Environment) (sc : Scope) (k : StatementCode) (p : ℕ) (s : List ℕ)
    (c : Cursor) (t : Statement) (c' : Cursor) : Type 0 where
  pub went : Went s c (drop 1 (statement_bytes t)) (statement_count t - 1) (context_count t) (length (conditions e.relations sc t p)) c'
  pub starts : statement_bytes t ≡ statement_code k ∷ drop 1 (statement_bytes t)
  pub depth : statement_depth t ≤ suc l
  pub allowed : StatementAllowed e sc t
  pub within : Within c c'

-- every statement counts
pub counts : (t : Statement) → 0 < statement_count t
unfolding statement_count
counts (assignment v t) = omega arith
counts (begin ss) = omega arith
counts (erase c) = omega arith
counts (for r s) = omega arith
counts (headed h s) = omega arith
counts (leave n) = omega arith
counts (if b s) = omega arith
counts (if_else b s t) = omega arith
counts (select rs) = omega arith

-- the first byte of a list stays first before another
first-drop : (a b : List ℕ) (x : ℕ) → a ≡ x ∷ drop 1 a → drop 1 (a ++ b) ≡ drop 1 a ++ b
first-drop [] b x e = let z : ◌≡◌ {A = ℕ} 0 1 = cc in absurd (omega arith)
first-drop (y ∷ a) b x e = refl

-- readers of what stands one level down that are sound
pub record InnerSound (l : ℕ) (e : Environment) (s : List ℕ) (below : Inner) : Type 0 where
  pub statement : (sc : Scope) → ReadsStatements l e sc s (below.statement sc)
  pub receive : (sc : Scope) (before : List ℕ) → ReadsReceives l e sc s before (below.receive sc before)
  pub boolean : (sc : Scope) → ReadsBooleans l e sc s (below.boolean sc)
  pub value : (sc : Scope) → ReadsValues l e sc s (below.value sc)

module _ (s : List ℕ) (octets : Octets s) (e : Environment) (sc : Scope) (p : ℕ) where
  -- ---- statements that hold no other

  pub erase-sound : (l : ℕ) (c : Cursor) (t : Statement) (c' : Cursor) → erase_under sc p s c ≡ read t c' →
      StatementUnderSound l e sc Erase p s c t c'
  unfolding erase_under statement_bytes statement_count context_count conditions statement_depth
  erase-sound l c t c' h = undo (context_byte sc s c) _ h (λ x q e₁ w. needed (of_for sc x) _ _ _ _ _ w (λ z w₁.
      let g = (context-went s c sc e₁).0 in
      same w₁ (λ t c'. StatementUnderSound l e sc Erase p s c t c') (record {
        went = g;
        starts = refl;
        depth = omega arith;
        allowed = z;
        within = within_none g;
      })))

  pub leave-sound : (l : ℕ) (c : Cursor) (t : Statement) (c' : Cursor) → leave_under sc p s c ≡ read t c' →
      StatementUnderSound l e sc Leave p s c t c'
  unfolding leave_under statement_bytes statement_count context_count conditions statement_depth
  leave-sound l c t c' h = undo (byte s c) _ h (λ x q e₁ w. needed (among x sc.labels) _ _ _ _ _ w (λ z w₁.
      let g = byte-went s c e₁ in
      same w₁ (λ t c'. StatementUnderSound l e sc Leave p s c t c') (record {
        went = g;
        starts = refl;
        depth = omega arith;
        allowed = z;
        within = within_none g;
      })))

  -- ---- statements that hold others

  module _ (l : ℕ) (below : Inner) (sound : InnerSound l e s below) where
    pub assignment-sound : (c : Cursor) (t : Statement) (c' : Cursor) → assignment_under below e sc p s c ≡ read t c' →
        StatementUnderSound l e sc Assignment p s c t c'
    unfolding assignment_under statement_bytes statement_count context_count conditions statement_depth
    assignment-sound c t c' h = undo (below.value sc s c) _ h (λ v q e₁ w. undo (read_target e sc p s q) _ w (λ r q₁ e₂ w₁.
        needed (one_kind (kind_of e sc v) (reference_kind e sc r)) _ _ _ _ _ w₁ (λ z w₂.
        let i = sound.value sc c v q e₁ in
        let j = target_sound s octets e sc p q r q₁ e₂ in
        let g = onward i.went j.went in
        same w₂ (λ t c'. StatementUnderSound l e sc Assignment p s c t c') (record {
          went = went-as g refl (add-zero _) refl;
          starts = refl;
          depth = omega (arith, i.depth);
          allowed = (i.allowed, j.known, j.target, z);
          within = within-onward (within-one i.went i.few) (within_none j.went);
        }))))

    module _ (c : Cursor) (here : c.at ≡ p + 1) where
      pub begin-sound : (t : Statement) (c' : Cursor) → begin_under below sc s c ≡ read t c' → StatementUnderSound l e sc Begin p s c t c'
      unfolding begin_under statement_bytes statement_count context_count conditions statement_depth
      begin-sound t c' h = undo (many 512 (below.statement sc) s c) _ h (λ ts q e₁ w.
          let i = many-sound l e sc s (below.statement sc) (sound.statement sc) 512 c ts q e₁ in
          same w (λ t c'. StatementUnderSound l e sc Begin p s c t c') (record {
            went = went-as i.went (omega arith) refl (rw here);
            starts = refl;
            depth = omega (arith, i.depth);
            allowed = i.allowed;
            within = i.within;
          }))

      pub select-sound : (t : Statement) (c' : Cursor) → select_under below sc s c ≡ read t c' → StatementUnderSound l e sc Select p s c t c'
      unfolding select_under statement_bytes statement_count context_count conditions statement_depth
      select-sound t c' h = undo (many_receives 512 (below.receive sc) [] s c) _ h (λ rs q e₁ w.
          let i = many-receives-sound l e sc s (below.receive sc) (sound.receive sc) 512 [] c rs q e₁ in
          same w (λ t c'. StatementUnderSound l e sc Select p s c t c') (record {
            went = went-as i.went (omega arith) refl (rw here);
            starts = refl;
            depth = omega (arith, i.depth);
            allowed = (fresh-unique (selected_messages rs) i.fresh, i.allowed);
            within = i.within;
          }))

      pub headed-sound : (k : StatementCode) (heading : Reader Heading) →
          ((c : Cursor) (h : Heading) (c' : Cursor) → heading s c ≡ read h c' → HeadingSound e sc k s c h c') →
          (t : Statement) (c' : Cursor) → headed_under below e sc heading s c ≡ read t c' → StatementUnderSound l e sc k p s c t c'
      unfolding headed_under statement_bytes statement_count context_count conditions statement_depth
      headed-sound k heading headings t c' h = undo (heading s c) _ h (λ x q e₁ w.
          undo (below.statement (under_heading e.relations sc x) s q) _ w (λ a q₁ e₂ w₁.
          let i = headings c x q e₁ in
          let j = sound.statement (under_heading e.relations sc x) q a q₁ e₂ in
          let there : q.at ≡ p + length (heading_bytes x) = omega (arith, i.went.place, ap length i.starts) in
          let dropped = first-drop (heading_bytes x) (statement_bytes a) (statement_code k) i.starts in
          same w₁ (λ t c'. StatementUnderSound l e sc k p s c t c') (record {
            went = went-as (went-by (onward i.went j.went) (sym dropped)) (omega arith) refl (rw there (omega arith));
            starts = ap (λ b. b ++ statement_bytes a) i.starts ∙ ap (λ b. statement_code k ∷ b) (sym dropped);
            depth = omega (arith, j.depth);
            allowed = (i.scoped, j.allowed);
            within = within-onward (within-one i.went i.few) j.within;
          })))

      pub for-sound : (t : Statement) (c' : Cursor) → for_under below e sc s c ≡ read t c' → StatementUnderSound l e sc For p s c t c'
      unfolding for_under under_rse statement_bytes statement_count context_count conditions rse_conditions statement_depth
      for-sound t c' h = undo (rse_head max_streams e.relations blr.for sc s c) _ h (λ ss q e₁ w.
          let sc₁ = under_streams e.relations blr.for sc ss in
          undo (clauses 3 (below.boolean sc₁) (below.value sc₁) false false s q) _ w (λ cs q₁ e₂ w₁.
          undo (noted (booleans_count cs) s q₁) _ w₁ (λ u q₂ e₃ w₂. undo (below.statement sc₁ s q₂) _ w₂ (λ a q₃ e₄ w₃.
          let i = rse-sound l e blr.for sc s c ss q cs q₁ (head-sound s octets e.relations max_streams blr.for sc c ss q e₁)
          (clauses-sound l e sc₁ s (below.boolean sc₁) (below.value sc₁) (sound.boolean sc₁) (sound.value sc₁)
          3 false false q cs q₁ e₂) in
          let g = noted-went (booleans_count cs) s q₁ e₃ in
          let j = sound.statement sc₁ q₂ a q₃ e₄ in
          let there : q₂.at ≡ p + 1 + length (rse_bytes (rse ss cs)) = omega (arith, i.went.place, g.place) in
          same w₃ (λ t c'. StatementUnderSound l e sc For p s c t c') (record {
            went = went-as (onward i.went (onward g j.went)) (omega arith) (omega arith)
                (rw (there, length-append (clauses_conditions sc₁ cs (p + 1 + length (head_bytes ss))), clauses-count) (omega arith));
            starts = refl;
            depth = omega (arith, i.depth, j.depth);
            allowed = (i.allowed, j.allowed);
            within = within-onward (within-one i.went i.few) (within-onward (within_none g) j.within);
          })))))

      pub if-sound : (t : Statement) (c' : Cursor) → if_under below sc s c ≡ read t c' → StatementUnderSound l e sc If p s c t c'
      unfolding if_under statement_bytes statement_count context_count conditions statement_depth
      if-sound t c' h = undo (below.boolean sc s c) _ h (λ b q e₁ w. undo (noted 1 s q) _ w (λ u q₁ e₂ w₁.
          undo (below.statement sc s q₁) _ w₁ (λ a q₂ e₃ w₂. undo (peek s q₂) _ w₂ (λ x q₃ e₄ w₃.
          let i = sound.boolean sc c b q e₁ in
          let n = noted-went 1 s q e₂ in
          let j = sound.statement sc q₁ a q₂ e₃ in
          let o = onward i.went (onward n j.went) in
          let m = within-onward (within-one i.went i.few) (within-onward (within_none n) j.within) in
          let there : q₁.at ≡ p + 1 + length (boolean_bytes b) = omega (arith, i.went.place, n.place) in
          let beyond : q₂.at ≡ p + 1 + length (boolean_bytes b) + length (statement_bytes a) = omega (arith, j.went.place) in
          either (eqb x blr.end) _ _ s q₃ w₃
          (λ z v. undo (byte s q₃) _ v (λ y q₄ e₅ v₁.
          let g = peeked-went s q₂ x blr.end e₄ z e₅ in
          same v₁ (λ t c'. StatementUnderSound l e sc If p s c t c') (record {
            went = went-as (onward o g) (omega arith) (omega arith) (rw there (omega arith));
            starts = refl;
            depth = omega (arith, i.depth, j.depth);
            allowed = (i.allowed, j.allowed);
            within = within-onward m (within_none g);
          })))
          (λ z v. undo (below.statement sc s q₃) _ v (λ d q₄ e₅ v₁.
          let k = sound.statement sc q₂ d q₄ (rw (peek-read s q₂ e₄).0 at e₅) in
          same v₁ (λ t c'. StatementUnderSound l e sc If p s c t c') (record {
            went = went-as (onward o k.went) (omega arith) (omega arith) (rw (there, beyond, length-append) (omega arith));
            starts = refl;
            depth = omega (arith, i.depth, j.depth, k.depth);
            allowed = (i.allowed, j.allowed, k.allowed);
            within = within-onward m k.within;
          })))))))

      pub statement-under-sound : (k : StatementCode) (t : Statement) (c' : Cursor) → statement_under below e sc p k s c ≡ read t c' →
          StatementUnderSound l e sc k p s c t c'
      unfolding statement_under heading_bytes heading_contexts
      statement-under-sound Assignment t c' h = assignment-sound c t c' h
      statement-under-sound Begin t c' h = begin-sound t c' h
      statement-under-sound Erase t c' h = erase-sound l c t c' h
      statement-under-sound For t c' h = for-sound t c' h
      statement-under-sound Loop t c' h = headed-sound Loop _ (plain-heading-sound e sc s Loop loop refl refl tt) t c' h
      statement-under-sound Modify t c' h = headed-sound Modify (modify_heading sc p) (modify-heading-sound e sc s p) t c' h
      statement-under-sound Handler t c' h = headed-sound Handler _ (plain-heading-sound e sc s Handler handler refl refl tt) t c' h
      statement-under-sound Receive t c' h = headed-sound Receive (receive_heading e sc p) (receive-heading-sound e sc s p) t c' h
      statement-under-sound Send t c' h = headed-sound Send (send_heading e sc p) (send-heading-sound e sc s p) t c' h
      statement-under-sound Store t c' h = headed-sound Store (store_heading e.relations sc) (store-heading-sound e sc s octets) t c' h
      statement-under-sound Label t c' h = headed-sound Label label_heading (label-heading-sound e sc s) t c' h
      statement-under-sound Leave t c' h = leave-sound l c t c' h
      statement-under-sound If t c' h = if-sound t c' h
      statement-under-sound Select t c' h = select-sound t c' h

-- after the code of a receive of a select, which stands at p
pub record ReceiveUnderSound (l : ℕ) (e : Environment) (sc : Scope) (before : List ℕ) (p : ℕ) (s : List ℕ)
    (c : Cursor) (r : ℕ × Statement) (c' : Cursor) : Type 0 where
  pub went : Went s c (r.0 ∷ statement_bytes r.1) (statement_count r.1) (context_count r.1)
      (length (conditions e.relations sc r.1 (p + 2))) c'
  pub depth : statement_depth r.1 ≤ l
  pub exchanged : Exchanged e sc r.0
  pub fresh : among r.0 before ≡ false
  pub allowed : StatementAllowed e sc r.1
  pub within : Within c c'

pub receive-under-sound : (l : ℕ) (e : Environment) (sc : Scope) (s : List ℕ) (body : Reader Statement) → ReadsStatements l e sc s body →
    (p : ℕ) (before : List ℕ) (c : Cursor) → c.at ≡ p + 1 → (r : ℕ × Statement) (c' : Cursor) →
    receive_under body e sc p before s c ≡ read r c' → ReceiveUnderSound l e sc before p s c r c'
unfolding receive_under
receive-under-sound l e sc s body bodies p before c here r c' h = needed (negation (updating sc)) _ _ _ _ _ h (λ z w.
    undo (tested byte (λ m. declared e m && negation (among m before)) BadMessage s c) _ w (λ m q e₁ w₁. undo (body s q) _ w₁ (λ a q₁ e₂ w₂.
    let t = tested-read s c byte (λ m. declared e m && negation (among m before)) BadMessage e₁ in
    let u = both (declared e m) (negation (among m before)) t.1 in
    let g = byte-went s c t.0 in
    let j = bodies q a q₁ e₂ in
    let there : q.at ≡ p + 2 = omega (arith, g.place) in
    same w₂ (λ r c'. ReceiveUnderSound l e sc before p s c r c') (record {
      went = went-as (onward g j.went) (zero-add _) (zero-add _) (rw there (zero-add _));
      depth = j.depth;
      exchanged = (not-true (updating sc) z, u.0);
      fresh = not-true (among m before) u.1;
      allowed = j.allowed;
      within = within-onward (within_none g) j.within;
    }))))

-- ---- with the code, and the statement counted

pub counted-code : (s : List ℕ) (c q : Cursor) (x p : ℕ) {u : Unit {0}} {c' : Cursor} → Passed s c (x ∷ []) q → count_statement p s q ≡ read u c' →
    Went s c (x ∷ []) 1 0 0 c' × Within c c'
counted-code s c q x p g h =
    let d = counted-went p s q h in
    (onward g d.0, record { statements = λ f. d.1; contexts = λ f. omega (arith, g.declared, d.0.declared) })

module _ (s : List ℕ) (octets : Octets s) (e : Environment) where
  -- the readers with l levels left
  abbrev at_level : ℕ → Inner
  at_level l = inner (λ x. read_statement l e x) (λ x before. read_receive l e x before) l e

  from-both : (l : ℕ) → ((sc : Scope) → ReadsStatements l e sc s (read_statement l e sc)) →
      ((sc : Scope) (before : List ℕ) → ReadsReceives l e sc s before (read_receive l e sc before)) → InnerSound l e s (at_level l)
  from-both l statements receives = record {
    statement = statements;
    receive = receives;
    boolean = λ x. boolean-sound s octets e x l;
    value = λ x. value-sound s octets e x l;
  }

  mutual
    unfolding read_statement read_receive

    pub statement-sound : (l : ℕ) (sc : Scope) → ReadsStatements l e sc s (read_statement l e sc)
    statement-sound zero sc c t c' h = undo (coded _ s c) _ h (λ k q e₁ w. never w)
    statement-sound (suc l) sc c t c' h = undo (coded _ s c) _ h (λ k q e₁ w. undo (count_statement c.at s q) _ w (λ u q₁ e₂ w₁.
        let g = counted-code s c q (statement_code k) c.at (coded-went statement-due s c e₁) e₂ in
        let below = from-both l (λ x c t c' h. statement-sound l x c t c' h) (λ x before c r c' h. receive-sound l x before c r c' h) in
        let i = statement-under-sound s octets e sc c.at l (at_level l) below q₁ g.0.place k t c' w₁ in
        record {
          went = went-as (went-by (onward g.0 i.went) (sym i.starts)) (omega (arith, counts t)) (zero-add _) (zero-add _);
          depth = i.depth;
          allowed = i.allowed;
          within = within-onward g.1 i.within;
        }))

    pub receive-sound : (l : ℕ) (sc : Scope) (before : List ℕ) → ReadsReceives l e sc s before (read_receive l e sc before)
    receive-sound zero sc before c r c' h = undo (code blr.receive NotDue s c) _ h (λ x q e₁ w. never w)
    receive-sound (suc l) sc before c r c' h = undo (code blr.receive NotDue s c) _ h (λ x q e₁ w.
        undo (count_statement c.at s q) _ w (λ u q₁ e₂ w₁.
        let g = counted-code s c q blr.receive c.at (code-went blr.receive NotDue s c e₁) e₂ in
        let i = receive-under-sound l e sc s (read_statement l e sc) (λ c t c' h. statement-sound l sc c t c' h) c.at before
        q₁ g.0.place r c' w₁ in
        record {
          went = went-as (onward g.0 i.went) (omega arith) (zero-add _) (zero-add _);
          depth = omega (arith, i.depth);
          exchanged = i.exchanged;
          fresh = i.fresh;
          allowed = i.allowed;
          within = within-onward g.1 i.within;
        }))

  pub inner-sound : (l : ℕ) → InnerSound l e s (inner (λ x. read_statement l e x) (λ x before. read_receive l e x before) l e)
  inner-sound l = from-both l (statement-sound l) (receive-sound l)
