-- The bytes of a request that the rules allow are read as that request, and as no other.
use Prim.Native.Nat.{ℕ, ◌+◌, ◌-◌, ◌≤◌}
use mathlib.Core.Path.{◌≡◌, refl, sym, ap, ◌∙◌}
use mathlib.Core.Bool.{true}
use mathlib.Core.List.{List, [], ◌∷◌, ◌++◌, append_assoc}
use native.Mathlib.Omega.{arith}
use lib.ListN.{length, drop}
use borrow.Author.Tests.{le-leb, eq-eqb}
use Rattle.wire.specs.Codes as blr
use Rattle.wire.specs.Limits.{max_depth}
use Rattle.wire.specs.Classes.{statement_class, classify}
use Rattle.wire.specs.Lists.{among, any_of}
use Rattle.wire.specs.Versions.{version_code, is_version, version_of}
use Rattle.wire.specs.declared.codes.Version.{Version}
use Rattle.wire.specs.declared.codes.Version.TheVariants.{Version4, Version5}
use Rattle.dictionary.specs.Dictionary.{Relation, proper, dictionary}
use Rattle.grammar.specs.declared.Refusal.TheVariants.{BadVersion, NotDue}
use Rattle.grammar.specs.declared.Cursor.{Cursor}
use Rattle.grammar.specs.Tree.{Statements, none as nothing, ◌then◌, Request}
use Rattle.grammar.specs.Bytes.{messages_bytes, statements_bytes, request_bytes}
use Rattle.grammar.specs.Environment.{outermost}
use Rattle.grammar.specs.Rules.{environment, Allowed}
use Rattle.grammar.specs.Reader.{read, code, count_statement}
use Rattle.grammar.specs.Messages.{messages}
use Rattle.grammar.specs.Reading.{nothing_more, outer_statements, version, request, start, reading}
use Rattle.grammar.proofs.Found.{Found, along, on-found, byte-found, tested-found, code-found, last_code, counted-found, Other, other-first}
use Rattle.grammar.proofs.CompleteMessages.{messages-found}
use Rattle.grammar.proofs.CompleteStatements.{statement-first, statements-read}

-- the messages end where the statements begin
statements-first : (ts : Statements) → Other blr.message (statements_bytes ts ++ (blr.end ∷ []))
unfolding statements_bytes statement_class classify among any_of
statements-first nothing = (blr.end, _, refl, λ e. omega arith)
statements-first (t then ts) = rw append_assoc (other-first (statements_bytes ts ++ (blr.end ∷ [])) (statement-first blr.message refl t))

-- the code of a version
pub version-back : (v : Version) → (is_version (version_code v) ≡ true) × (version_of (version_code v) ≡ v)
unfolding is_version version_of
version-back Version4 = (refl, refl)
version-back Version5 = (refl, refl)

version-found : (s : List ℕ) (c : Cursor) {rest : List ℕ} (v : Version) → drop c.at s ≡ version_code v ∷ rest → Found version s c v 0 0 rest
unfolding version
version-found s c v h =
    let b = version-back v in
    let f = tested-found s c is_version BadVersion (byte-found s c (version_code v) h) b.0 in
    along f (rw (version, f.is, b.1)) refl refl

-- a request by its steps
by-steps : (d : List Relation) (s : List ℕ) (r : Request) (a b g m t z : Cursor) →
    version s start ≡ read r.version a → code blr.begin NotDue s a ≡ read blr.begin b →
    count_statement a.at s b ≡ read tt g → messages r.version 16 [] s g ≡ read r.messages m →
    outer_statements r.version d r.messages s m ≡ read r.statements t → code blr.eoc NotDue s t ≡ read blr.eoc z → z.at ≡ length s →
    request d s start ≡ read r z
unfolding request nothing_more
by-steps d s r a b g m t z e₁ e₂ e₃ e₄ e₅ e₆ e₇ = rw (request, e₁, e₂, e₃, e₄, e₅, e₆, nothing_more, eq-eqb z.at (length s) e₇)

pub request-complete : (d : List Relation) (r : Request) → Allowed d r → (s : List ℕ) → s ≡ request_bytes r →
    (c : Cursor) × (request d s start ≡ read r c)
unfolding outer_statements request_bytes
request-complete d r w s h =
    let ts = r.statements in
    let z = w.sized in
    let more = statements_bytes ts ++ (blr.end ∷ []) ++ (blr.eoc ∷ []) in
    let i : s ≡ version_code r.version ∷ blr.begin ∷ messages_bytes r.messages ++ more = h ∙ simp append_assoc in
    on-found (version-found s start r.version i) λ a e₁ h₁ n₁ k₁.
    on-found (code-found s a blr.begin NotDue h₁) λ b e₂ h₂ n₂ k₂.
    on-found (counted-found s b h₂ a.at (omega arith)) λ g e₃ h₃ n₃ k₃.
    on-found (messages-found r.version s g r.messages (omega arith) (other-first (blr.eoc ∷ []) (statements-first ts))
    w.messages z.each_message z.messages z.parameters h₃) λ m e₄ h₄ n₄ k₄.
    on-found ((statements-read s (environment d r) ts outermost (max_depth - 1) 512 (omega (arith, z.depth)) (omega (arith, z.statements))
    (omega (arith, z.statements)) w.statements).from m (omega (arith, z.statements)) (omega (arith, z.contexts)) h₄) λ t e₅ h₅ n₅ k₅.
    let y = last_code s t blr.eoc NotDue h₅ in
    (y.0, by-steps d s r a b g m t y.0 e₁ e₂ e₃ e₄ e₅ y.1 y.2)

pub reading-complete : (s d : List ℕ) (rs : List Relation) → dictionary d ≡ proper rs → (r : Request) → Allowed rs r → s ≡ request_bytes r →
    (c : Cursor) × (reading s d ≡ read r c)
unfolding reading
reading-complete s d rs p r w h =
    let a = request-complete rs r w s h in
    let l : length s ≤ 65535 = omega (arith, ap length h, w.sized.bytes) in
    (a.0, rw (reading, le-leb (length s) 65535 l, p, a.1))

-- two requests that the rules allow have the same bytes only if they are one
pub one-tree : (d : List Relation) (r r' : Request) → Allowed d r → Allowed d r' → request_bytes r ≡ request_bytes r' → r ≡ r'
one-tree d r r' w w' h = same a.0 b.0 (sym a.1 ∙ b.1)
  where
    a : (c : Cursor) × (request d (request_bytes r) start ≡ read r c)
    a = request-complete d r w (request_bytes r) refl

    b : (c : Cursor) × (request d (request_bytes r) start ≡ read r' c)
    b = request-complete d r' w' (request_bytes r) h

    same : (c c' : Cursor) → read r c ≡ read r' c' → r ≡ r'
    same c c' e = cc
