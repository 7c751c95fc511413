-- Runs of stores in a table, and the numbers that are read after them.
use Prim.Native.Nat.{ℕ, zero, suc, ◌+◌, ◌<◌, ◌≤◌}
use mathlib.Core.Path.{◌≡◌, refl, ap, ◌∙◌}
use mathlib.Core.List.{List, [], ◌∷◌, ◌++◌}
use native.Mathlib.Omega.{arith}
use lib.ListN.{length, get_or, set, length-set}
use lib.Seq.{sets, set_comm, set-set, get_or-set_same, get_or-set_other}

-- a run after a run
pub sets-append : (xs ys l : List ℕ) (i : ℕ) → sets l i (xs ++ ys) ≡ sets (sets l i xs) (i + length xs) ys
sets-append [] ys l i = let z : i + 0 ≡ i = omega arith in rw z
sets-append (x ∷ xs) ys l i =
    let z : suc i + length xs ≡ i + suc (length xs) = omega arith in
    sets-append xs ys (set l i x) (suc i) ∙ ap (λ k. sets (sets (set l i x) (suc i) xs) k ys) z

-- a run, then a store before it
pub set-sets : (vs l : List ℕ) (i j a : ℕ) → i < j → set (sets l j vs) i a ≡ sets (set l i a) j vs
set-sets [] l i j a h = refl
set-sets (v ∷ vs) l i j a h =
    set-sets vs (set l j v) i (suc j) a (omega arith) ∙ ap (λ k. sets k (suc j) vs) (set_comm l j i v a (omega arith))

-- a run, then a store in it
pub set-in : (vs l : List ℕ) (i k a : ℕ) → k < length vs → set (sets l i vs) (i + k) a ≡ sets l i (set vs k a)
set-in [] l i k a h = absurd (omega arith)
set-in (v ∷ vs) l i zero a h =
    let z : i + 0 ≡ i = omega arith in
    ap (λ k. set (sets (set l i v) (suc i) vs) k a) z ∙ set-sets vs (set l i v) i (suc i) a (omega arith)
    ∙ ap (λ k. sets k (suc i) vs) (set-set l i v a)
set-in (v ∷ vs) l i (suc k) a h =
    let z : i + suc k ≡ suc i + k = omega arith in
    ap (λ n. set (sets (set l i v) (suc i) vs) n a) z ∙ set-in vs (set l i v) (suc i) k a (omega arith)

-- a number before a run
pub before-run : (vs l : List ℕ) (i j : ℕ) → j < i → get_or (sets l i vs) j 0 ≡ get_or l j 0
before-run [] l i j h = refl
before-run (v ∷ vs) l i j h =
    before-run vs (set l i v) (suc i) j (omega arith) ∙ get_or-set_other l i j v 0 (omega arith)

-- a number of a run that the table has room for
pub in-run : (vs l : List ℕ) (i k : ℕ) → k < length vs → i + length vs ≤ length l → get_or (sets l i vs) (i + k) 0 ≡ get_or vs k 0
in-run [] l i k h m = absurd (omega arith)
in-run (v ∷ vs) l i zero h m =
    let z : i + 0 ≡ i = omega arith in
    let q : i < length l = omega arith in
    ap (λ k. get_or (sets (set l i v) (suc i) vs) k 0) z ∙ before-run vs (set l i v) (suc i) i (omega arith)
    ∙ get_or-set_same l i v 0 q
in-run (v ∷ vs) l i (suc k) h m =
    let z : i + suc k ≡ suc i + k = omega arith in
    let q : suc i + length vs ≤ length (set l i v) = omega (arith, length-set l i v) in
    ap (λ n. get_or (sets (set l i v) (suc i) vs) n 0) z ∙ in-run vs (set l i v) (suc i) k (omega arith) q
