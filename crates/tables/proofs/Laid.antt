-- Rows laid over tables: runs after runs, and a row before those below it.
use Prim.Native.Nat.{ℕ, zero, suc, ◌+◌, ◌*◌, ◌<◌}
use mathlib.Core.Path.{◌≡◌, refl, sym, ap, ◌∙◌}
use mathlib.Core.List.{List, [], ◌∷◌}
use native.Mathlib.Omega.{arith}
use lib.ListN.{length, set}
use lib.Seq.{sets, set_comm, set-set}
use Rattle.grammar.specs.declared.Cursor.{Cursor}
use Rattle.tables.specs.Tables.{Tables, joined, laid}
use Rattle.tables.specs.Written.{listed_number}
use Rattle.tables.proofs.Stores.{sets-append}

-- a run of stores, then a store before it
pub set-sets : (vs l : List ℕ) (i j a : ℕ) → i < j → set (sets l j vs) i a ≡ sets (set l i a) j vs
set-sets [] l i j a h = refl
set-sets (v ∷ vs) l i j a h =
    set-sets vs (set l j v) i (suc j) a (omega arith) ∙ ap (λ k. sets k (suc j) vs) (set_comm l j i v a (omega arith))

four : (i j : ℕ) → j ≡ i + 4 → j ≡ suc (suc (suc (suc i)))
four i j e = omega arith

-- the row above rows that are there already
row-over : (l rows : List ℕ) (i j a b c d : ℕ) → j ≡ i + 4 →
    sets (sets l j rows) i (a ∷ b ∷ c ∷ d ∷ []) ≡ sets l i (a ∷ b ∷ c ∷ d ∷ rows)
row-over l rows i j a b c d e =
    ap (λ k. set (set (set k (suc i) b) (suc (suc i)) c) (suc (suc (suc i))) d) (set-sets rows l i j a (omega arith))
    ∙ ap (λ k. set (set k (suc (suc i)) c) (suc (suc (suc i))) d) (set-sets rows _ (suc i) j b (omega arith))
    ∙ ap (λ k. set k (suc (suc (suc i))) d) (set-sets rows _ (suc (suc i)) j c (omega arith))
    ∙ set-sets rows _ (suc (suc (suc i))) j d (omega arith)
    ∙ ap (λ k. sets (set (set (set (set l i a) (suc i) b) (suc (suc i)) c) (suc (suc (suc i))) d) k rows) (four i j e)

-- the last number of a row, 0 and then perhaps another
number-over : (l : List ℕ) (i n : ℕ) → sets (set l i 0) i (listed_number n) ≡ set l i n
number-over l i zero = refl
number-over l i (suc n) = set-set l i 0 (suc n)

-- the row above rows that are there already, whose last number is there too
pub row-whole : (l rows : List ℕ) (i j n a b c d : ℕ) → j ≡ i + 5 →
    sets (sets (sets (set l (i + 4) 0) (i + 4) (listed_number n)) j rows) i (a ∷ b ∷ c ∷ d ∷ []) ≡ sets l i (a ∷ b ∷ c ∷ d ∷ n ∷ rows)
row-whole l rows i j n a b c d e =
    let next : j ≡ suc (i + 4) = omega arith in
    ap (λ z. sets (sets z j rows) i (a ∷ b ∷ c ∷ d ∷ [])) (number-over l (i + 4) n)
    ∙ ap (λ k. sets (sets (set l (i + 4) n) k rows) i (a ∷ b ∷ c ∷ d ∷ [])) next
    ∙ row-over l (n ∷ rows) i (i + 4) a b c d refl

-- rows after rows
pub record Follows (c : Cursor) (rows : Tables) (q : Cursor) : Type 0 where
  pub statements : q.statements * 5 ≡ c.statements * 5 + length rows.statements
  pub contexts : q.contexts * 6 ≡ c.contexts * 6 + length rows.contexts
  pub conditions : q.conditions ≡ c.conditions + length rows.conditions

pub laid-laid : (t : Tables) (c q : Cursor) (a b : Tables) → Follows c a q → laid (laid t c a) q b ≡ laid t c (joined a b)
laid-laid t c q a b f =
    rw (
      f.statements,
      f.contexts,
      f.conditions,
      sym (sets-append a.statements b.statements t.statements (c.statements * 5)),
      sym (sets-append a.contexts b.contexts t.contexts (c.contexts * 6)),
      sym (sets-append a.conditions b.conditions t.conditions c.conditions),
    )
