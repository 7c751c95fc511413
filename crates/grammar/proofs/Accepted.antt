-- Reading accepts exactly the bytes of the requests that the rules allow, and reads each as that request and no other.
use mathlib.Core.Path.{◌≡◌, sym, ap, subst, ◌∙◌}
use mathlib.Core.Logic.{◌↔◌}
use mathlib.Core.List.{List}
use Prim.Native.Nat.{ℕ}
use Rattle.dictionary.specs.Dictionary.{Relation, proper, dictionary}
use Rattle.grammar.specs.declared.Cursor.{Cursor}
use Rattle.grammar.specs.Tree.{Request}
use Rattle.grammar.specs.Bytes.{request_bytes}
use Rattle.grammar.specs.Rules.{Allowed}
use Rattle.grammar.specs.Reader.{read}
use Rattle.grammar.specs.Reading.{reading, relations_of}
use Rattle.grammar.specs.Demands.{Octets}
use Rattle.grammar.proofs.Complete.{reading-complete}
use Rattle.grammar.proofs.Sound.{reading-sound}

-- demand 2: "A request is accepted exactly when the grammar and the rules of scope, kind and size of document 01 allow it.", beside a
-- dictionary that is proper and says the relations rs
pub accepted-exactly : (s d : List ℕ) → Octets s → (rs : List Relation) → dictionary d ≡ proper rs → (r : Request) → ((c : Cursor) × (reading s d ≡ read r c)) ↔ ((s ≡ request_bytes r) × Allowed rs r)
accepted-exactly s d octets rs e r = (
  (λ h.
      let w = reading-sound s octets d r h.0 h.1 in
      let same : w.relations ≡ rs = ap relations_of (sym w.checked ∙ e) in
      (w.sound.whole, subst (λ x. Allowed x r) same w.sound.allowed)),
  (λ h. reading-complete s d rs e r h.1 h.0),
)
