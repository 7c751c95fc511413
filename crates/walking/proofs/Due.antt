-- The runs that are due: each is found by the place of its code, and their places grow.
use Prim.Native.Nat.{ℕ, zero, suc, ◌+◌, ◌≤◌}
use mathlib.Core.Path.{◌≡◌, refl, ◌∙◌}
use mathlib.Core.Bool.{Bool, true, false}
use mathlib.Core.List.{List, [], ◌∷◌, ◌++◌}
use mathlib.Core.Option.{Option, some}
use native.Mathlib.Omega.{arith}
use lib.Dec.{eqb}
use lib.ListN.{length, get_elem?, length-append}
use borrow.Author.Tests.{eq-eqb, ne_eqb}
use Rattle.wire.specs.Lists.{find}
use Rattle.dictionary.specs.Dictionary.{Relation}
use Rattle.grammar.specs.Tree.{Stream, Value, literal, reference, arithmetic, negate, statistic, count, Boolean, compare, search, between, connect, not, missing, quantify, Clauses, no_clauses, such, sorted, Rse, rse}
use Rattle.grammar.specs.Bytes.{value_bytes, boolean_bytes, keys_bytes, head_bytes, clauses_bytes, rse_bytes}
use Rattle.grammar.proofs.StepLaws.{absurd-eq}
use Rattle.meaning.specs.Meaning.{size, boolean_size}
use Rattle.meaning.specs.Runs.{DueRun, due_run, value_runs, due_runs, rse_runs, clauses_runs, LentRun, lent_runs}
use Rattle.walking.proofs.Sites.{All}

-- ---- parts of a list

pub all_first : {A : Type 0} (P : A → Type 0) (l m : List A) → All P (l ++ m) → All P l
all_first P [] m h = tt
all_first P (x ∷ l) m h = (h.0, all_first P l m h.1)

pub all-second : {A : Type 0} (P : A → Type 0) (l m : List A) → All P (l ++ m) → All P m
all-second P [] m h = h
all-second P (x ∷ l) m h = all-second P l m h.1

pub all-follow : {A : Type 0} (P Q : A → Type 0) (l : List A) → ((x : A) → P x → Q x) → All P l → All Q l
all-follow P Q [] f h = tt
all-follow P Q (x ∷ l) f h = (f x h.0, all-follow P Q l f h.1)

-- ---- each is found

-- the run of the code at p
abbrev pub run_at : List LentRun → ℕ → Option LentRun
run_at l p = find (λ x. eqb x.place p) l

pub run-here : (x : LentRun) (l : List LentRun) → run_at (x ∷ l) x.place ≡ some x
unfolding find
run-here x l = rw (eq-eqb x.place x.place refl)

pub run-later : (x : LentRun) (l : List LentRun) (p : ℕ) → (x.place ≡ p → ⊥) → run_at (x ∷ l) p ≡ run_at l p
unfolding find
run-later x l p h = rw (ne_eqb x.place p h)

-- a run that is due is there
abbrev pub Lent : List LentRun → DueRun → Type 0
Lent l x = (y : LentRun) × (run_at l x.place ≡ some y)

one_more : (y : LentRun) (l : List LentRun) (x : DueRun) → Lent l x → Lent (y ∷ l) x
unfolding find
one_more y l x h = by (eqb y.place x.place) refl
  where
    by : (b : Bool) → eqb y.place x.place ≡ b → Lent (y ∷ l) x
    by true e = (y, rw e)
    by false e = (h.0, rw (e, h.1))

pub all-lent : (due : List DueRun) (runs : List ℕ) → All (Lent (lent_runs due runs)) due
unfolding lent_runs
all-lent [] runs = tt
all-lent (x ∷ xs) runs = ((_, run-here _ _), all-follow _ _ xs (λ y h. one_more _ _ y h) (all-lent xs _))

-- ---- their places grow

-- the places lie from lo on and before hi, each after those before it
abbrev pub Grows : ℕ → ℕ → List DueRun → Type 0
Grows lo hi [] = lo ≤ hi
Grows lo hi (x ∷ xs) = (lo ≤ x.place) × Grows (x.place + 1) hi xs

grows_from : (lo lo' hi : ℕ) (xs : List DueRun) → lo' ≤ lo → Grows lo hi xs → Grows lo' hi xs
grows_from lo lo' hi [] h g = omega arith
grows_from lo lo' hi (x ∷ xs) h g = let a = g.0 in (omega (arith, a), g.1)

grows-to : (lo hi hi' : ℕ) (xs : List DueRun) → hi ≤ hi' → Grows lo hi xs → Grows lo hi' xs
grows-to lo hi hi' [] h g = omega arith
grows-to lo hi hi' (x ∷ xs) h g = (g.0, grows-to (x.place + 1) hi hi' xs h g.1)

grows-on : (lo mid hi : ℕ) (xs ys : List DueRun) → Grows lo mid xs → Grows mid hi ys → Grows lo hi (xs ++ ys)
grows-on lo mid hi [] ys g h = grows_from mid lo hi ys g h
grows-on lo mid hi (x ∷ xs) ys g h = (g.0, grows-on (x.place + 1) mid hi xs ys g.1 h)

-- those after a code stand after it
pub all_after : (lo hi : ℕ) (P Q : DueRun → Type 0) (xs : List DueRun) → Grows lo hi xs → ((x : DueRun) → lo ≤ x.place → P x → Q x) → All P xs → All Q xs
all_after lo hi P Q [] g f h = tt
all_after lo hi P Q (x ∷ xs) g f h =
    let a = g.0 in (f x a h.0, all_after (x.place + 1) hi P Q xs g.1 (λ y b. f y (omega (arith, a, b))) h.1)

place-from : (lo hi : ℕ) (xs : List DueRun) → Grows lo hi xs → (k : ℕ) (x : DueRun) → get_elem? xs k ≡ some x → lo ≤ x.place
place-from lo hi [] g k x e = absurd-eq (cc)
place-from lo hi (y ∷ xs) g zero x e = let a = g.0 in let z : y.place ≡ x.place = cc in omega (arith, a, z)
place-from lo hi (y ∷ xs) g (suc k) x e = let a = g.0 in let b = place-from (y.place + 1) hi xs g.1 k x e in omega (arith, a, b)

-- so the run that is found by the place of a code is the one of that code: the k-th of those lent for the k-th that is due
pub own-run : (lo hi : ℕ) (xs : List DueRun) (runs : List ℕ) → Grows lo hi xs → (k : ℕ) (x : DueRun) → get_elem? xs k ≡ some x →
    run_at (lent_runs xs runs) x.place ≡ get_elem? (lent_runs xs runs) k
unfolding lent_runs
own-run lo hi [] runs g k x e = absurd-eq (cc)
own-run lo hi (y ∷ xs) runs g zero x e = let z : y.place ≡ x.place = cc in rw (← z) (run-here _ _)
own-run lo hi (y ∷ xs) runs g (suc k) x e =
    let a = place-from (y.place + 1) hi xs g.1 k x e in
    run-later _ _ x.place (λ b. omega (arith, a, b)) ∙ own-run (y.place + 1) hi xs _ g.1 k x e

run-grows : (d : List Relation) (ss : List Stream) (p : ℕ) → Grows p (p + 1) (due_run d ss p)
run-grows d [] p = omega arith
run-grows d (s ∷ []) p = (omega arith, omega arith)
run-grows d (s ∷ t ∷ ss) p = omega arith

-- those of two parts that stand one after the other, after a code
grows-parts : (p n m hi : ℕ) (xs ys : List DueRun) → p + 1 + n + m ≤ hi → Grows (p + 1) (p + 1 + n) xs → Grows (p + 1 + n) (p + 1 + n + m) ys →
    Grows p hi (xs ++ ys)
grows-parts p n m hi xs ys l g h =
    grows-on p (p + 1 + n) hi xs ys (grows_from (p + 1) p (p + 1 + n) xs (omega arith) g) (grows-to (p + 1 + n) (p + 1 + n + m) hi ys l h)

-- those of one part after a code
grows-below : (p n : ℕ) (xs : List DueRun) → Grows (p + 1) (p + 1 + n) xs → Grows p (p + suc n) xs
grows-below p n xs g = grows_from (p + 1) p (p + suc n) xs (omega arith) (grows-to (p + 1) (p + 1 + n) (p + suc n) xs (omega arith) g)

module _ (d : List Relation) where
  mutual
    unfolding value_runs due_runs rse_runs clauses_runs value_bytes boolean_bytes rse_bytes clauses_bytes

    -- those of a value lie inside its bytes
    pub value-grow : (v : Value) (p : ℕ) → Grows p (p + size v) (value_runs d v p)
    value-grow (literal l) p = omega arith
    value-grow (reference r) p = omega arith
    value-grow (arithmetic o v w) p =
        let l = length-append (value_bytes v) (value_bytes w) in
        grows-parts p (size v) (size w) _ (value_runs d v (p + 1)) (value_runs d w (p + 1 + size v)) (omega (arith, l)) (value-grow v (p + 1))
        (value-grow w (p + 1 + size v))
    value-grow (negate v) p = grows-below p (size v) (value_runs d v (p + 1)) (value-grow v (p + 1))
    value-grow (statistic k r v) p =
        let l = length-append (rse_bytes r) (value_bytes v) in
        let n = p + 1 + length (rse_bytes r) in
        grows-on p n _ (rse_runs d r p) (value_runs d v n) (grows-to _ _ _ (rse_runs d r p) (omega arith) (rse-grow r p))
        (grows-to _ _ _ (value_runs d v n) (omega (arith, l)) (value-grow v n))
    value-grow (count r) p = rse-grow r p

    -- those of a boolean lie inside its bytes
    pub due-grow : (b : Boolean) (p : ℕ) → Grows p (p + boolean_size b) (due_runs d b p)
    due-grow (compare c v w) p =
        let l = length-append (value_bytes v) (value_bytes w) in
        grows-parts p (size v) (size w) _ (value_runs d v (p + 1)) (value_runs d w (p + 1 + size v)) (omega (arith, l)) (value-grow v (p + 1))
        (value-grow w (p + 1 + size v))
    due-grow (search t v w) p =
        let l = length-append (value_bytes v) (value_bytes w) in
        grows-parts p (size v) (size w) _ (value_runs d v (p + 1)) (value_runs d w (p + 1 + size v)) (omega (arith, l)) (value-grow v (p + 1))
        (value-grow w (p + 1 + size v))
    due-grow (between u v w) p =
        let l = length-append (value_bytes u ++ value_bytes v) (value_bytes w) in
        let k = length-append (value_bytes u) (value_bytes v) in
        let n = p + 1 + size u + size v in
        grows-on p n _ (value_runs d u (p + 1) ++ value_runs d v (p + 1 + size u)) (value_runs d w n)
        (grows-parts p (size u) (size v) n (value_runs d u (p + 1)) (value_runs d v (p + 1 + size u)) (omega arith) (value-grow u (p + 1))
        (value-grow v (p + 1 + size u)))
        (grows-to _ _ _ (value_runs d w n) (omega (arith, l, k)) (value-grow w n))
    due-grow (connect c a b) p =
        let l = length-append (boolean_bytes a) (boolean_bytes b) in
        grows-on p (p + 1 + boolean_size a) _ (due_runs d a (p + 1)) (due_runs d b (p + 1 + boolean_size a))
        (grows_from (p + 1) p _ (due_runs d a (p + 1)) (omega arith) (due-grow a (p + 1)))
        (grows-to _ _ _ (due_runs d b (p + 1 + boolean_size a)) (omega (arith, l)) (due-grow b (p + 1 + boolean_size a)))
    due-grow (not a) p =
        grows_from (p + 1) p _ (due_runs d a (p + 1)) (omega arith) (grows-to _ _ _ (due_runs d a (p + 1)) (omega arith) (due-grow a (p + 1)))
    due-grow (missing v) p = grows-below p (size v) (value_runs d v (p + 1)) (value-grow v (p + 1))
    due-grow (quantify q r) p = rse-grow r p

    rse-grow : (r : Rse) (p : ℕ) → Grows p (p + suc (length (rse_bytes r))) (rse_runs d r p)
    rse-grow (rse ss cs) p =
        let l = length-append (head_bytes ss) (clauses_bytes cs) in
        let q = p + 1 + length (head_bytes ss) in
        grows-on p (p + 1) _ (due_run d ss p) (clauses_runs d cs q) (run-grows d ss p)
        (grows_from q (p + 1) _ (clauses_runs d cs q) (omega arith)
        (grows-to _ _ _ (clauses_runs d cs q) (omega (arith, l)) (clauses-grow cs q)))

    clauses-grow : (cs : Clauses) (p : ℕ) → Grows p (p + length (clauses_bytes cs)) (clauses_runs d cs p)
    clauses-grow no_clauses p = omega arith
    clauses-grow (such b cs) p =
        let l = length-append (boolean_bytes b) (clauses_bytes cs) in
        grows-on p (p + 1 + boolean_size b) _ (due_runs d b (p + 1)) (clauses_runs d cs (p + 1 + boolean_size b))
        (grows_from (p + 1) p _ (due_runs d b (p + 1)) (omega arith) (due-grow b (p + 1)))
        (grows-to _ _ _ (clauses_runs d cs (p + 1 + boolean_size b)) (omega (arith, l)) (clauses-grow cs (p + 1 + boolean_size b)))
    clauses-grow (sorted ks cs) p =
        let l = length-append (keys_bytes ks) (clauses_bytes cs) in
        let q = p + 2 + length (keys_bytes ks) in
        grows_from q p _ (clauses_runs d cs q) (omega arith)
        (grows-to _ _ _ (clauses_runs d cs q) (omega (arith, l)) (clauses-grow cs q))
