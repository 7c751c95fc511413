-- Fields with a test, by what stands there, and readings in their order.
use Prim.Native.Nat.{ℕ}
use mathlib.Core.Path.{◌≡◌, refl}
use mathlib.Core.Bool.{Bool, true, false, cond}
use mathlib.Core.List.{List}
use Rattle.grammar.specs.declared.Cursor.{Cursor}
use Rattle.grammar.specs.declared.Refusal.{Refusal}
use Rattle.grammar.specs.Reader.{Read, Reader, read, refused, on_read, need, tested}

-- one reading, a second, and what is made of the second
pub read-assoc : {A B C : Type 0} (x : Read A) (f : A → Cursor → Read B) (k : B → Cursor → Read C) →
    on_read x (λ a q. on_read (f a q) k) ≡ on_read (on_read x f) k
read-assoc (read a q) f k = refl
read-assoc (refused r p) f k = refl

-- a field with a test
module _ {A : Type 0} (field : Reader A) (test : A → Bool) (r : Refusal) (s : List ℕ) (c : Cursor) where
  pub tested-is : {x : A} {q : Cursor} → field s c ≡ read x q → tested field test r s c ≡ cond (test x) (read x q) (refused r c.at)
  unfolding tested
  tested-is {x} {q} e = rw (tested, e) (by (test x))
    where
      by : (t : Bool) → on_read (need t r c.at s q) (λ _ q. read x q) ≡ cond t (read x q) (refused r c.at)
      by true = refl
      by false = refl

  pub tested-refused : {z : Refusal} {p : ℕ} → field s c ≡ refused z p → tested field test r s c ≡ refused z p
  unfolding tested
  tested-refused e = rw (tested, e)
