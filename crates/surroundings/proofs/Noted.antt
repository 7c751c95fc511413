-- The table of condition places at n holds the place of the n-th condition, and 0 where there is none.
use Prim.Native.Nat.{ℕ, zero, suc, ◌+◌, ◌<◌, ◌≤◌}
use mathlib.Core.Path.{◌≡◌, refl, sym, ap, ◌∙◌}
use mathlib.Core.List.{List, [], ◌∷◌, map}
use mathlib.Core.Option.{none}
use native.Mathlib.Omega.{arith}
use mathlib.Core.Bool.{Bool, true, false}
use lib.Dec.{leb}
use borrow.Author.Tests.{leb-true, leb-false}
use lib.ListN.{length, get_or, get_elem?, set, replicate, length-set, length-replicate, get_or-replicate, get_or-eq_default}
use lib.Seq.{sets, length-sets, get_or-set_same, get_or-set_other}
use Rattle.grammar.specs.Conditions.{Condition}
use Rattle.surroundings.specs.Tables.{condition_place}

-- the places of conditions, in their order
abbrev places_of : List Condition → List ℕ
places_of cs = map (λ x. x.place) cs

-- stores leave what stands before them
pub before-sets : (vs l : List ℕ) (i k : ℕ) → k < i → get_or (sets l i vs) k 0 ≡ get_or l k 0
before-sets [] l i k h = refl
before-sets (v ∷ vs) l i k h = before-sets vs (set l i v) (suc i) k (omega arith) ∙ get_or-set_other l i k v 0 (λ e. omega (arith, e))

-- stores of the places of some conditions, over zeros from i on
noted-from : (cs : List Condition) (l : List ℕ) (i k : ℕ) → i + k < length l → get_or l (i + k) 0 ≡ 0 →
    get_or (sets l i (places_of cs)) (i + k) 0 ≡ condition_place (get_elem? cs k)
noted-from [] l i k h z = z
noted-from (c ∷ cs) l i zero h z =
    let e : i + 0 ≡ i = omega arith in
    rw e (before-sets (places_of cs) (set l i c.place) (suc i) i (omega arith) ∙ get_or-set_same l i c.place 0 (omega arith))
noted-from (c ∷ cs) l i (suc k) h z =
    let e : i + suc k ≡ suc i + k = omega arith in
    let g : get_or (set l i c.place) (suc i + k) 0 ≡ 0 =
    get_or-set_other l i (suc i + k) c.place 0 (λ x. omega (arith, x)) ∙ (rw e at z) in
    rw e (noted-from cs (set l i c.place) (suc i) k (rw (length-set) (omega arith)) g)

-- a table of n zeros with the places laid over it
pub noted : (cs : List Condition) (n k : ℕ) → k < n → get_or (sets (replicate n 0) 0 (places_of cs)) k 0 ≡ condition_place (get_elem? cs k)
noted cs n k h =
    let e : 0 + k ≡ k = omega arith in
    rw e at (noted-from cs (replicate n 0) 0 k (rw (length-replicate, e) h) (rw e (get_or-replicate n k 0 0 h)))

pub noted-past : (cs : List Condition) (n k : ℕ) → n ≤ k → get_or (sets (replicate n 0) 0 (places_of cs)) k 0 ≡ 0
noted-past cs n k h =
    let e : length (sets (replicate {A = ℕ} n 0) 0 (places_of cs)) ≡ n =
    length-sets (replicate n 0) 0 (places_of cs) ∙ length-replicate n 0 in
    get_or-eq_default (sets (replicate n 0) 0 (places_of cs)) 0 (omega arith)

none-at : (cs : List Condition) (k : ℕ) → length cs ≤ k → get_elem? cs k ≡ none
none-at [] k h = refl
none-at (c ∷ cs) zero h = absurd (omega arith)
none-at (c ∷ cs) (suc k) h = none-at cs k (omega arith)

-- a table that has room for all of them tells each number, of whatever size
pub noted-any : (cs : List Condition) (n k : ℕ) → length cs ≤ n →
    get_or (sets (replicate n 0) 0 (places_of cs)) k 0 ≡ condition_place (get_elem? cs k)
noted-any cs n k h = by (leb n k) refl
  where
    by : (b : Bool) → leb n k ≡ b → get_or (sets (replicate n 0) 0 (places_of cs)) k 0 ≡ condition_place (get_elem? cs k)
    by true e = let l = leb-true n k e in noted-past cs n k l ∙ sym (ap condition_place (none-at cs k (omega arith)))
    by false e = noted cs n k (leb-false n k e)
