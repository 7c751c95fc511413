-- A request that reading accepts is bytes of the grammar, and the rules allow it.
use Prim.Native.Nat.{ℕ, suc, ◌+◌, ◌-◌, ◌≤◌}
use mathlib.Core.Path.{◌≡◌, refl, sym, ap, ◌∙◌, subst}
use mathlib.Core.Bool.{Bool, true, false, ◌||◌}
use mathlib.Core.List.{List, [], ◌∷◌, ◌++◌, append_assoc}
use native.Mathlib.Omega.{arith}
use lib.Dec.{eqb, leb}
use lib.ListN.{length}
use borrow.Author.Tests.{leb-true, eqb-true}
use Rattle.wire.specs.Codes as blr
use Rattle.wire.specs.Limits.{max_depth}
use Rattle.wire.specs.Lists.{sum_of}
use Rattle.wire.specs.Versions.{version_code, is_version, version_of}
use Rattle.wire.specs.declared.codes.Version.{Version}
use Rattle.dictionary.specs.Dictionary.{Relation, Checked, proper, at_fault, dictionary}
use Rattle.grammar.specs.declared.Cursor.{Cursor}
use Rattle.grammar.specs.declared.Refusal.TheVariants.{NotDue}
use Rattle.grammar.specs.Tree.{Message, Statements, Request}
use Rattle.grammar.specs.Bytes.{messages_bytes, statements_bytes, request_bytes}
use Rattle.grammar.specs.Environment.{Environment, outermost}
use Rattle.grammar.specs.Sizes.{statements_count, contexts_count}
use Rattle.grammar.specs.Rules.{Allowed}
use Rattle.grammar.specs.Conditions.{request_conditions}
use Rattle.grammar.specs.Reader.{read, byte, tested, code, count_statement}
use Rattle.grammar.specs.Messages.{messages}
use Rattle.grammar.specs.Reading.{nothing_more, outer_statements, version, request, start, beside, reading}
use Rattle.grammar.specs.Statements.{read_statement}
use Rattle.grammar.specs.Demands.{Octets}
use Rattle.grammar.proofs.StepLaws.{absurd-eq}
use Rattle.grammar.proofs.Went.{Went, Passed, never, undo, same, passed, onward, went-by, all_of, tested-read, byte-went, code-went, counted-went}
use Rattle.grammar.proofs.SoundMessages.{MessagesSound, messages-sound}
use Rattle.grammar.proofs.SoundSequences.{StatementsSound, many-sound}
use Rattle.grammar.proofs.SoundStatements.{statement-sound}

-- nothing more: the place is the end
pub ended : (s : List ℕ) (c : Cursor) {u : Unit {0}} {c' : Cursor} → nothing_more s c ≡ read u c' → (c.at ≡ length s) × (c' ≡ c)
unfolding nothing_more
ended s c e =
    let t = passed (eqb c.at (length s)) (read tt c) _ _ e in
    (eqb-true c.at (length s) t.0, same t.1 (λ u c'. c' ≡ c) refl)

pub outer-sound : (s : List ℕ) → Octets s → (v : Version) (d : List Relation) (ms : List Message) (c : Cursor) (ts : Statements) (c' : Cursor) →
    outer_statements v d ms s c ≡ read ts c' →
    StatementsSound (max_depth - 1) (record { version = v; relations = d; messages = ms }) outermost s c ts c'
unfolding outer_statements
outer-sound s octets v d ms c ts c' h =
    let e : Environment = record { version = v; relations = d; messages = ms } in
    many-sound (max_depth - 1) e outermost s (read_statement (max_depth - 1) e outermost) (statement-sound s octets e (max_depth - 1) outermost) 512 c ts c' h

-- the code of a version that was read
version_of_lem : (b : ℕ) → is_version b ≡ true → version_code (version_of b) ≡ b
unfolding is_version version_of
version_of_lem b t = by (eqb b blr.version5) refl (eqb b blr.version4) refl t
  where
    by : (x : Bool) → eqb b blr.version5 ≡ x → (y : Bool) → eqb b blr.version4 ≡ y → eqb b blr.version4 || eqb b blr.version5 ≡ true →
        version_code (version_of b) ≡ b
    by true e y f k = rw e (sym (eqb-true b blr.version5 e))
    by false e true f k = rw e (sym (eqb-true b blr.version4 f))
    by false e false f k = let z : false ≡ true = rw (f, e) at k in absurd-eq (cc)

pub version-went : (s : List ℕ) (c : Cursor) {v : Version} {c' : Cursor} → version s c ≡ read v c' → Passed s c (version_code v ∷ []) c'
unfolding version
version-went s c h = undo (tested byte is_version _ s c) _ h (λ b q e w.
    let t = tested-read s c byte is_version _ e in
    same w (λ v c'. Passed s c (version_code v ∷ []) c') (rw (version_of_lem b t.1) (byte-went s c t.0)))

-- a request that was read, and what the cursor after it counts
pub record RequestSound (d : List Relation) (s : List ℕ) (r : Request) (c : Cursor) : Type 0 where
  pub whole : s ≡ request_bytes r
  pub allowed : Allowed d r
  pub counted : c.statements ≡ suc (statements_count r.statements)
  pub declared : c.contexts ≡ contexts_count r.statements
  pub noted : c.conditions ≡ length (request_conditions d r)

-- the parts of a request, with the cursors between them
module _ (v : Version) (d : List Relation) (s : List ℕ) (ms : List Message) (ts : Statements) (q q₁ q₂ c : Cursor) where
  assembled : length s ≤ 65535 → Went s start (version_code v ∷ blr.begin ∷ []) 1 0 0 q → q.statements ≤ 512 →
      MessagesSound v 16 [] s q ms q₁ →
      StatementsSound (max_depth - 1) (record { version = v; relations = d; messages = ms }) outermost s q₁ ts q₂ →
      Passed s q₂ (blr.eoc ∷ []) c → c.at ≡ length s → RequestSound d s (record { version = v; messages = ms; statements = ts }) c
  unfolding request_bytes request_conditions sum_of
  assembled short g h m t o end =
      let w = rw (sym m.whole) at m.went in
      let f = onward g w in
      let l = onward t.went o in
      let a : List ℕ = version_code v ∷ blr.begin ∷ messages_bytes ms in
      let regrouped : a ++ (statements_bytes ts ++ (blr.end ∷ []) ++ (blr.eoc ∷ [])) ≡ a ++ statements_bytes ts ++ (blr.end ∷ blr.eoc ∷ []) =
      ap (λ b. a ++ b) (append_assoc (statements_bytes ts) (blr.end ∷ []) (blr.eoc ∷ [])) ∙
      sym (append_assoc a (statements_bytes ts) (blr.end ∷ blr.eoc ∷ [])) in
      let b = went-by (onward f l) regrouped in
      let all : s ≡ request_bytes (record { version = v; messages = ms; statements = ts }) = all_of b refl end in
      let there : q₁.at ≡ 2 + length (messages_bytes ms) = omega (arith, f.place) in
      record {
        whole = all;
        allowed = record {
          sized = record {
            bytes = rw all at short;
            depth = omega (arith, t.depth);
            statements = omega (arith, f.counted, t.went.counted, t.within.statements (omega (arith, w.counted)));
            messages = omega (arith, m.most, ap length m.whole);
            parameters = m.parameters (omega arith);
            each_message = m.sized tt;
            contexts = omega (arith, f.declared, t.went.declared, t.within.contexts (omega (arith, f.declared)));
          };
          messages = m.unique tt;
          statements = t.allowed;
        };
        counted = omega (arith, b.counted);
        declared = omega (arith, b.declared);
        noted = let n = rw there at b.noted in omega arith;
      }

pub request-sound : (s : List ℕ) → Octets s → length s ≤ 65535 → (d : List Relation) (r : Request) (c : Cursor) →
    request d s start ≡ read r c → RequestSound d s r c
unfolding request
request-sound s octets short d r c h = undo (version s start) _ h (λ v q e w.
    undo (code blr.begin NotDue s q) _ w (λ x₁ q₁ e₁ w₁. undo (count_statement q.at s q₁) _ w₁ (λ u q₂ e₂ w₂.
    undo (messages v 16 [] s q₂) _ w₂ (λ ms q₃ e₃ w₃. undo (outer_statements v d ms s q₃) _ w₃ (λ ts q₄ e₄ w₄.
    undo (code blr.eoc NotDue s q₄) _ w₄ (λ x₂ q₅ e₅ w₅. undo (nothing_more s q₅) _ w₅ (λ u₁ q₆ e₆ w₆.
    let g = onward (version-went s start e) (code-went blr.begin NotDue s q e₁) in
    let n = counted-went q.at s q₁ e₂ in
    let f = ended s q₅ e₆ in
    let o = assembled v d s ms ts q₂ q₃ q₄ q₅ short (onward g n.0) n.1 (messages-sound v s octets 16 [] q₂ ms q₃ e₃)
    (outer-sound s octets v d ms q₃ ts q₄ e₄) (code-went blr.eoc NotDue s q₄ e₅) f.0 in
    same w₆ (λ r c. RequestSound d s r c)
    (subst (λ z. RequestSound d s (record { version = v; messages = ms; statements = ts }) z) (sym f.1) o))))))))

-- a request beside a dictionary
pub record ReadingSound (s d : List ℕ) (r : Request) (c : Cursor) : Type 0 where
  pub relations : List Relation
  pub checked : dictionary d ≡ proper relations
  pub sound : RequestSound relations s r c

pub reading-sound : (s : List ℕ) → Octets s → (d : List ℕ) (r : Request) (c : Cursor) → reading s d ≡ read r c → ReadingSound s d r c
unfolding reading
reading-sound s octets d r c h =
    let t = passed (leb (length s) 65535) (beside (dictionary d) s) _ _ h in
    by (leb-true (length s) 65535 t.0) (dictionary d) refl t.1
  where
    by : length s ≤ 65535 → (x : Checked) → dictionary d ≡ x → beside x s ≡ read r c → ReadingSound s d r c
    by short (proper rs) e w = record { relations = rs; checked = e; sound = request-sound s octets short rs r c w }
    by short (at_fault p) e w = never w
