-- The index of a number in a column of a scope. Assumes nothing.
use Prim.Native.Nat.compare
use Prim.Native.Nat.{ℕ, zero, suc, ◌+◌, ◌≤◌, ◌<◌}
use mathlib.Core.Path.{◌≡◌, refl, sym, ◌∙◌}
use mathlib.Core.Bool.{Bool, true, false, cond, not, ◌||◌}
use mathlib.Core.List.{List, [], ◌∷◌}
use mathlib.Core.Option.{Option, none, some, map}
use native.Mathlib.Omega.{arith}
use native.Mathlib.Numerals.{add-one}
use borrow.Author.Tests.{lt-ltb}
use lib.Dec.{eqb, ltb}
use lib.ListN.{length, take, drop, get_or}
use lib.Seq.{drop-cons}
use Rattle.std.specs.Prelude.{Some, None}
use Rattle.std.specs.Prelude as std
use Rattle.std.specs.List.{position_or_len}
use Rattle.wire.specs.Limits.{max_depth, max_contexts}
use Rattle.wire.specs.Lists.{any_of, index_of, among, is_some}
use Rattle.wire.specs.Options.{option_of}
use Rattle.scopes.specs.Internal.Columns.{numbers_from}
use Rattle.scopes.specs.Scopes.{each_from, context_in, contexts_in, contexts_held, found_of}

-- ---- std's search for the first that passes

by-rest : (b : Bool) (p : ℕ) (o : Option ℕ) → cond b (Some p) None ≡ option_of o → cond b (Some (suc p)) None ≡ option_of (map suc o)
by-rest true p none e = let z : ◌≡◌ {A = ℕ} 0 1 = cc in absurd (omega arith)
by-rest true p (some k) e = cc
by-rest false p none e = refl
by-rest false p (some k) e = let z : ◌≡◌ {A = ℕ} 0 1 = cc in absurd (omega arith)

by-first : (t : Bool) (p n : ℕ) (o : Option ℕ) → cond (ltb p n) (Some p) None ≡ option_of o
    → cond (ltb (cond (not t) (1 + p) 0) (suc n)) (Some (cond (not t) (1 + p) 0)) None ≡ option_of (cond t (some 0) (map suc o))
by-first true p n o e =
    let z : ltb 0 (suc n) ≡ true = lt-ltb 0 (suc n) (omega arith) in
    rw z
by-first false p n o e =
    let z : 1 + p ≡ suc p = omega arith in
    rw (z, compare.suc-suc) (by-rest (ltb p n) p o e)

pub index-position : {A : Type 0} (test : A → Bool) (l : List A)
    → cond (ltb (position_or_len test l) (length l)) (Some (position_or_len test l)) None ≡ option_of (index_of test l)
unfolding index_of
index-position test [] = refl
index-position test (x ∷ l) = by-first (test x) (position_or_len test l) (length l) (index_of test l) (index-position test l)

-- ---- some element passes where one has an index

pub any-index : {A : Type 0} (test : A → Bool) (l : List A) → any_of test l ≡ is_some (index_of test l)
unfolding any_of index_of
any-index test [] = refl
any-index test (x ∷ l) = rw (any-index test l) (by (test x) (index_of test l))
  where
    by : (t : Bool) (o : Option ℕ) → t || is_some o ≡ is_some (cond t (some 0) (map suc o))
    by true o = refl
    by false none = refl
    by false (some k) = refl

pub some-index : (o : Option ℕ) → std.is_some (option_of o) ≡ is_some o
some-index none = refl
some-index (some k) = refl

-- ---- the numbers of an array from a place on are a part of it

pub each-part : (a : List ℕ) (start n : ℕ) → start + n ≤ length a → each_from (λ i. get_or a i 0) start n ≡ take n (drop start a)
unfolding each_from
each-part a start zero h = refl
each-part a start (suc n) h =
    let l : start < length a = omega arith in
    let m : start + 1 + n ≤ length a = omega arith in
    rw (drop-cons a start 0 l, each-part a (start + 1) n m, add-one start)

pub among-index : (a : List ℕ) (start count n : ℕ) → start + max_depth ≤ length a
    → std.is_some (option_of (index_of (λ x. eqb x n) (take count (take max_depth (drop start a)))))
    ≡ among n (take count (each_from (λ i. get_or a i 0) start max_depth))
unfolding among
among-index a start count n h =
    rw (each-part a start max_depth h)
    (some-index (index_of (λ x. eqb x n) (take count (take max_depth (drop start a)))) ∙
    sym (any-index (λ x. eqb x n) (take count (take max_depth (drop start a)))))

-- ---- the contexts by their numbers

-- two runs whose elements pass alike
pub index-alike : {A B : Type 0} (f : ℕ → A) (g : ℕ → B) (p : A → Bool) (q : B → Bool) (s t : ℕ)
    → ((k i j : ℕ) → i ≡ s + k → j ≡ t + k → p (f i) ≡ q (g j))
    → (m n : ℕ) → index_of p (take n (each_from f s m)) ≡ index_of q (take n (each_from g t m))
unfolding each_from index_of
index-alike f g p q s t same zero zero = refl
index-alike f g p q s t same zero (suc n) = refl
index-alike f g p q s t same (suc m) zero = refl
index-alike f g p q s t same (suc m) (suc n) =
    rw (
      same 0 s t (omega arith) (omega arith),
      index-alike f g p q (s + 1) (t + 1) (λ k i j e h. same (1 + k) i j (omega arith) (omega arith)) m n,
    )

pub context-index : (a : List ℕ) (n : ℕ) → numbers_from + max_contexts ≤ length a
    → index_of (λ x. eqb x n) (take (contexts_held a) (take max_contexts (drop numbers_from a))) ≡ found_of (contexts_in a) n
context-index a n h =
    rw (sym (each-part a numbers_from max_contexts h))
    (index-alike (λ i. get_or a i 0) (context_in a) (λ x. eqb x n) (λ x. eqb x.number.0 n) numbers_from 0 same max_contexts (contexts_held a))
  where
    same : (k i j : ℕ) → i ≡ numbers_from + k → j ≡ 0 + k → eqb (get_or a i 0) n ≡ eqb (get_or a (numbers_from + j) 0) n
    same k i j e l = let z : i ≡ numbers_from + j = omega arith in rw z
