-- Codes of values, booleans and clauses, by what was read.
use Prim.Native.Nat.{ℕ, zero, suc, ◌+◌, ◌-◌, ◌<◌, ◌≤◌}
use mathlib.Core.Path.{◌≡◌, refl, ◌∙◌}
use mathlib.Core.Bool.{Bool, true, false}
use mathlib.Core.List.{List, [], ◌∷◌}
use native.Mathlib.Numerals.{sub-one}
use native.Mathlib.Omega.{arith}
use lib.Dec.{ltb}
use lib.ListN.{length}
use borrow.Author.Tests.{lt-ltb, le-ltb, ltb-true}
use Rattle.wire.specs.Classes.{Class, clause_class}
use Rattle.wire.specs.declared.codes.ClauseCode.{ClauseCode}
use Rattle.grammar.specs.declared.Cursor.{Cursor}
use Rattle.grammar.specs.declared.Refusal.{Refusal}
use Rattle.grammar.specs.declared.Refusal.TheVariants.{NotDue, TooGreat}
use Rattle.grammar.specs.Reader.{Read, read, refused, on_read, coded}
use Rattle.grammar.proofs.Went.{Passed, inside, undo, same, needed, coded-read, byte-went}
use Rattle.tables.proofs.Chains.{Counts}
use Rattle.expressions.specs.Promises.{leveled, clause_coded, clause_due}
use Rattle.expressions.proofs.Parts.{counted}

no-level : (l : ℕ) → l ≡ 0 → ltb 0 l ≡ false
no-level l e = le-ltb 0 l (omega (arith, e))

some_level : (l : ℕ) → (l ≡ 0 → ⊥) → ltb 0 l ≡ true
some_level l e = lt-ltb 0 l (omega (arith, e))

-- ---- a code, with a level for it

module _ {A : Type 0} (class : ℕ → Class A) (s : List ℕ) (c : Cursor) (l : ℕ) where
  leveled-due : {k : A} {q : Cursor} → coded class s c ≡ read k q → (l ≡ 0 → ⊥) → leveled class l s c ≡ read k q
  unfolding leveled
  leveled-due d z = rw (leveled, d, some_level l z)

  leveled-deep : {k : A} {q : Cursor} → coded class s c ≡ read k q → l ≡ 0 → leveled class l s c ≡ refused TooGreat c.at
  unfolding leveled
  leveled-deep d z = rw (leveled, d, no-level l z)

  leveled-refused : {r : Refusal} {p : ℕ} → coded class s c ≡ refused r p → leveled class l s c ≡ refused r p
  unfolding leveled
  leveled-refused d = rw (leveled, d)

-- a reader that reads a code first, with l levels left, and then what stands under the code
module _ {A B : Type 0} (class : ℕ → Class A) (s : List ℕ) (c : Cursor) (reader : ℕ → Read B) (under : ℕ → A → Cursor → Read B) where
  pub leveled-of : (l : ℕ) → reader 0 ≡ on_read (coded class s c) (λ k q. refused TooGreat c.at) →
      ((l : ℕ) → reader (suc l) ≡ on_read (coded class s c) (λ k q. under l k q)) →
      reader l ≡ on_read (leveled class l s c) (λ k q. under (l - 1) k q)
  leveled-of l none more = go l (coded class s c) refl
    where
      go : (l : ℕ) (y : Read A) → coded class s c ≡ y → reader l ≡ on_read (leveled class l s c) (λ k q. under (l - 1) k q)
      go zero (read k q) h = none ∙ rw (h, leveled-deep class s c zero h refl)
      go zero (refused n p) h = none ∙ rw (h, leveled-refused class s c zero h)
      go (suc l) (read k q) h = more l ∙ rw (h, leveled-due class s c (suc l) h (λ z. absurd (omega (arith, z))), sub-one (suc l))
      go (suc l) (refused n p) h = more l ∙ rw (h, leveled-refused class s c (suc l) h)

-- ---- the code of a clause

module _ (n : ℕ) (such sorted : Bool) (s : List ℕ) (c : Cursor) where
  module _ (z : n ≡ 0 → ⊥) where
    pub clause-refused : {r : Refusal} {p : ℕ} → coded clause_class s c ≡ refused r p → clause_coded n such sorted s c ≡ refused r p
    unfolding clause_coded
    clause-refused d = rw (clause_coded, some_level n z, d)

    module _ {k : ClauseCode} {q : Cursor} (d : coded clause_class s c ≡ read k q) where
      pub clause-stands : clause_due k such sorted ≡ true → clause_coded n such sorted s c ≡ read k q
      unfolding clause_coded
      clause-stands t = rw (clause_coded, some_level n z, d, t)

      pub clause-twice : clause_due k such sorted ≡ false → clause_coded n such sorted s c ≡ refused NotDue c.at
      unfolding clause_coded
      clause-twice t = rw (clause_coded, some_level n z, d, t)

-- ---- a code that was read

-- a byte that counts nothing, where one of n levels or clauses was left for it
pub record Stands (n : ℕ) (s : List ℕ) (c q : Cursor) : Type 0 where
  pub some : 0 < n
  pub place : q.at ≡ c.at + 1
  pub within : c.at ≤ length s → q.at ≤ length s
  pub counts : Counts c q

byte-stands : {n x : ℕ} {s : List ℕ} {c q : Cursor} → ltb 0 n ≡ true → Passed s c (x ∷ []) q → Stands n s c q
byte-stands {n} t g = record { some = ltb-true 0 n t; place = g.place; within = inside g; counts = counted g }

pub leveled-stands : {A : Type 0} (class : ℕ → Class A) (l : ℕ) (s : List ℕ) (c : Cursor) {k : A} {q : Cursor} →
    leveled class l s c ≡ read k q → Stands l s c q
unfolding leveled
leveled-stands class l s c h = undo (coded class s c) _ h (λ a q₁ e w. needed (ltb 0 l) _ _ _ _ _ w (λ t v.
    same v (λ a q. Stands l s c q) (byte-stands t (byte-went s c (coded-read s c class e).1))))

-- a clause that was read was due
pub clause-stood : (n : ℕ) (b t : Bool) (s : List ℕ) (c : Cursor) {k : ClauseCode} {q : Cursor} → clause_coded n b t s c ≡ read k q →
    Stands n s c q × (clause_due k b t ≡ true)
unfolding clause_coded
clause-stood n b t s c {k} i = needed (ltb 0 n) _ _ _ _ _ i (λ z w.
    undo (coded clause_class s c) _ w (λ a q₁ e w₁. needed (clause_due a b t) _ _ _ _ _ w₁ (λ d v.
    same v (λ k q. Stands n s c q × (clause_due k b t ≡ true)) (byte-stands z (byte-went s c (coded-read s c clause_class e).1), d))))
