-- The bytes of headings that the rules allow are read as those.
use Prim.Native.Nat.{ℕ}
use mathlib.Core.Path.{◌≡◌, refl, ap}
use mathlib.Core.Bool.{true, false, not as negation}
use mathlib.Core.List.{List, [], ◌∷◌}
use Rattle.wire.specs.Codes as blr
use Rattle.wire.specs.Classes.{due, classify, statement_class}
use Rattle.wire.specs.declared.codes.StatementCode.{StatementCode}
use Rattle.wire.specs.declared.codes.StatementCode.TheVariants as Code
use Rattle.grammar.specs.declared.Refusal.TheVariants.{BadContext}
use Rattle.grammar.specs.Tree.{Heading, loop, modify, handler, receive, send, store, label}
use Rattle.grammar.specs.Bytes.{stream_bytes, heading_bytes}
use Rattle.grammar.specs.Environment.{Environment, Scope}
use Rattle.grammar.specs.Scope.{in_scope, HeadingScoped, Exchanged, of_for}
use Rattle.grammar.specs.Sizes.{heading_contexts}
use Rattle.grammar.specs.Reader.{Reader, return}
use Rattle.grammar.specs.Statements.{exchanged, modify_heading, receive_heading, send_heading, store_heading, label_heading, Inner, headed_under, statement_under}
use Rattle.grammar.proofs.Parts.{Reads, at_once, alone, three-in-turn, byte_reads, tested_reads, opened-reads}
use Rattle.grammar.proofs.Implied.{for-scoped}
use Rattle.grammar.proofs.CompleteReferences.{context-reads, message-byte-reads}
use Rattle.grammar.proofs.CompleteRses.{stream-reads}

-- what stands after a heading's code, and its reader
abbrev pub heading_rest : Heading → List ℕ
heading_rest loop = []
heading_rest (modify from to) = from ∷ to ∷ []
heading_rest handler = []
heading_rest (receive m) = m ∷ []
heading_rest (send m) = m ∷ []
heading_rest (store t) = stream_bytes t
heading_rest (label n) = n ∷ []

abbrev pub heading_reader : Environment → Scope → ℕ → Heading → Reader Heading
heading_reader e sc p loop = return loop
heading_reader e sc p (modify from to) = modify_heading sc p
heading_reader e sc p handler = return handler
heading_reader e sc p (receive m) = receive_heading e sc p
heading_reader e sc p (send m) = send_heading e sc p
heading_reader e sc p (store t) = store_heading e.relations sc
heading_reader e sc p (label n) = label_heading

module _ (s : List ℕ) (e : Environment) (sc : Scope) (p : ℕ) where
  exchanged-reads : (m : ℕ) → Exchanged e sc m → Reads s (exchanged e sc p) (m ∷ []) m 0 0
  unfolding exchanged
  exchanged-reads m w = alone (message-byte-reads s e m w.1) (λ c q rest h a. rw (exchanged, w.0, a))

  modify-reads : (from to : ℕ) → of_for sc from ≡ true → in_scope sc to ≡ false →
      Reads s (modify_heading sc p) (from ∷ to ∷ []) (modify from to) 0 1
  unfolding modify_heading
  modify-reads from to w k =
      three-in-turn (opened-reads p) (context-reads s sc from (for-scoped sc from w))
      (tested_reads (λ to. negation (in_scope sc to)) BadContext (byte_reads to) (ap negation k))
      (λ c q r t rest a b h d. rw (modify_heading, a, b, w, d)) refl refl

  pub heading-reads : (h : Heading) → HeadingScoped e sc h → Reads s (heading_reader e sc p h) (heading_rest h) h 0 (heading_contexts h)
  unfolding heading_contexts receive_heading send_heading store_heading label_heading
  heading-reads loop w = at_once (λ c. refl)
  heading-reads (modify from to) w = modify-reads from to w.0 w.1
  heading-reads handler w = at_once (λ c. refl)
  heading-reads (receive m) w = alone (exchanged-reads m w) (λ c q rest h a. rw (receive_heading, a))
  heading-reads (send m) w = alone (exchanged-reads m w) (λ c q rest h a. rw (send_heading, a))
  heading-reads (store t) w = alone (stream-reads s e.relations sc t w) (λ c q rest h a. rw (store_heading, a))
  heading-reads (label n) w = alone (byte_reads n) (λ c q rest h a. rw (label_heading, a))

-- the code of a heading
pub record Headed (h : Heading) : Type 0 where
  pub byte : ℕ
  pub code : StatementCode
  pub bytes : heading_bytes h ≡ byte ∷ heading_rest h
  pub is-due : statement_class byte ≡ due code
  pub under : (inner : Inner) (e : Environment) (sc : Scope) (p : ℕ) →
      statement_under inner e sc p code ≡ headed_under inner e sc (heading_reader e sc p h)

pub heading-due : (h : Heading) → Headed h
unfolding heading_bytes statement_class classify statement_under
heading-due loop = record { byte = blr.loop; code = Code.Loop; bytes = refl; is-due = refl; under = λ inner e sc p. refl }
heading-due (modify from to) = record { byte = blr.modify; code = Code.Modify; bytes = refl; is-due = refl; under = λ inner e sc p. refl }
heading-due handler = record { byte = blr.handler; code = Code.Handler; bytes = refl; is-due = refl; under = λ inner e sc p. refl }
heading-due (receive m) = record { byte = blr.receive; code = Code.Receive; bytes = refl; is-due = refl; under = λ inner e sc p. refl }
heading-due (send m) = record { byte = blr.send; code = Code.Send; bytes = refl; is-due = refl; under = λ inner e sc p. refl }
heading-due (store t) = record { byte = blr.store; code = Code.Store; bytes = refl; is-due = refl; under = λ inner e sc p. refl }
heading-due (label n) = record { byte = blr.label; code = Code.Label; bytes = refl; is-due = refl; under = λ inner e sc p. refl }
