-- The rows of a table of bindings are its bindings.
use Prim.Native.Nat.{ℕ, zero, suc, ◌+◌, ◌*◌, ◌<◌}
use mathlib.Core.Path.{◌≡◌, refl, sym, ap, ap₂, ◌∙◌}
use mathlib.Core.Bool.{Bool, true, false, cond, ◌&&◌, ◌||◌, not}
use mathlib.Core.List.{List, [], ◌∷◌, ◌++◌, append_assoc}
use mathlib.Core.Option.{Option, none, some, map}
use native.Mathlib.Omega.{arith}
use lib.Dec.{eqb}
use lib.ListN.{length, get_or, get_elem?, get_or-append}
use Rattle.wire.specs.Lists.{index_of}
use Rattle.walking.proofs.Sites.{All}
use Rattle.grammar.proofs.StepLaws.{absurd-eq}
use Rattle.surroundings.proofs.BindingRows.{rows_in_lem}
use Rattle.surroundings.specs.Bindings.{Binding, binding_row, binding_rows, binding_code, binding_number, binding_record, cell, rows_in, binds_at, row_binding, row_coded}

-- ---- numbers

-- number k of a row
pub cell-of : (bs : List Binding) (row k : ℕ) (b : Binding) → k < 10 → get_elem? bs row ≡ some b → cell (binding_rows bs) row k ≡ get_or (binding_row b) k 0
unfolding binding_rows
cell-of [] row k b h e = absurd-eq (cc)
cell-of (x ∷ bs) zero k b h e =
    let z : x ≡ b = cc in
    let n : 0 * 10 + k ≡ k = omega arith in
    ap (λ (j : ℕ). get_or (binding_row x ++ binding_rows bs) j 0) n ∙ get_or-append (binding_row x) (binding_rows bs) 0 k h
    ∙ ap (λ (y : Binding). get_or (binding_row y) k 0) z
cell-of (x ∷ bs) (suc row) k b h e =
    let n : suc row * 10 + k ≡ suc (suc (suc (suc (suc (suc (suc (suc (suc (suc (row * 10 + k)))))))))) = omega arith in
    ap (λ (j : ℕ). get_or (binding_row x ++ binding_rows bs) j 0) n ∙ cell-of bs row k b h e

-- ---- the first row that passes

-- of n rows from a row on
unfoldable first_row : (ℕ → Bool) → ℕ → ℕ → Option ℕ
first_row f zero row = none
first_row f (suc n) row = cond (f row) (some row) (first_row f n (row + 1))

module _ (t : List ℕ) (c : ℕ) where
  binding-first : (n row : ℕ) → row_binding t c n row ≡ first_row (binds_at t c) n row
  unfolding row_binding first_row
  binding-first zero row = refl
  binding-first (suc n) row = ap (cond (binds_at t c row) (some row)) (binding-first n (row + 1))

  coded-first : (n row : ℕ) → row_coded t c n row ≡ first_row (λ j. eqb (cell t j binding_code) c) n row
  unfolding row_coded first_row
  coded-first zero row = refl
  coded-first (suc n) row = ap (cond (eqb (cell t row binding_code) c) (some row)) (coded-first n (row + 1))

module _ (f : ℕ → Bool) (g : Binding → Bool) where
  first-from : (bs : List Binding) (row : ℕ) → ((j : ℕ) (b : Binding) → get_elem? bs j ≡ some b → f (row + j) ≡ g b) →
      first_row f (length bs) row ≡ map (λ j. row + j) (index_of g bs)
  unfolding first_row index_of
  first-from [] row h = refl
  first-from (x ∷ bs) row h =
      let z : row + 0 ≡ row = omega arith in
      ap₂ (λ (b : Bool) (o : Option ℕ). cond b (some row) o) (ap f (sym z) ∙ h 0 x refl)
      (first-from bs (row + 1) (λ j b e. let n : row + 1 + j ≡ row + suc j = omega arith in ap f n ∙ h (suc j) b e))
      ∙ by (g x) (index_of g bs)
    where
      by : (b : Bool) (o : Option ℕ) →
          cond b (some row) (map (λ (j : ℕ). row + 1 + j) o) ≡ map (λ (j : ℕ). row + j) (cond b (some 0) (map suc o))
      by true o = ap some (let n : row ≡ row + 0 = omega arith in n)
      by false none = refl
      by false (some j) = ap some (let n : row + 1 + j ≡ row + suc j = omega arith in n)

  first-index : (bs : List Binding) → ((j : ℕ) (b : Binding) → get_elem? bs j ≡ some b → f j ≡ g b) → first_row f (length bs) 0 ≡ index_of g bs
  first-index bs h = first-from bs 0 (λ j b e. let n : 0 + j ≡ j = omega arith in ap f n ∙ h j b e) ∙ by (index_of g bs)
    where
      by : (o : Option ℕ) → map (λ (j : ℕ). 0 + j) o ≡ o
      by none = refl
      by (some j) = ap some (let n : 0 + j ≡ j = omega arith in n)

-- whether a binding binds a number
abbrev pub binds_number : ℕ → Binding → Bool
binds_number c b = eqb b.number c && (eqb b.code 0 || not (eqb b.record-place 0))

pub binding-in : (bs : List Binding) (c : ℕ) → row_binding (binding_rows bs) c (rows_in (binding_rows bs)) 0 ≡ index_of (binds_number c) bs
binding-in bs c =
    ap (λ n. row_binding (binding_rows bs) c n 0) (rows_in_lem bs) ∙ binding-first (binding_rows bs) c (length bs) 0
    ∙ first-index (binds_at (binding_rows bs) c) (binds_number c) bs (λ j b e.
    let x = cell-of bs j binding_number b (omega arith) e in
    let y = cell-of bs j binding_code b (omega arith) e in
    let z = cell-of bs j binding_record b (omega arith) e in
    rw (x, y, z))

pub coded_in : (bs : List Binding) (p : ℕ) → row_coded (binding_rows bs) p (rows_in (binding_rows bs)) 0 ≡ index_of (λ b. eqb b.code p) bs
coded_in bs p =
    ap (λ n. row_coded (binding_rows bs) p n 0) (rows_in_lem bs) ∙ coded-first (binding_rows bs) p (length bs) 0
    ∙ first-index (λ j. eqb (cell (binding_rows bs) j binding_code) p) (λ b. eqb b.code p) bs (λ j b e.
    let y = cell-of bs j binding_code b (omega arith) e in rw y)

-- ---- indices in two lists

module _ {A : Type 0} (test : A → Bool) where
  -- none of those after passes
  pub index-front : (xs ys : List A) → All (λ y. test y ≡ false) ys → index_of test (xs ++ ys) ≡ index_of test xs
  unfolding index_of
  index-front [] [] a = refl
  index-front [] (y ∷ ys) a = rw a.0 (ap (map suc) (index-front [] ys a.1))
  index-front (x ∷ xs) ys a = ap (λ (o : Option ℕ). cond (test x) (some 0) (map suc o)) (index-front xs ys a)

  -- none of those before passes
  pub index-past : (xs : List A) (y : A) (ys : List A) → All (λ x. test x ≡ false) xs → test y ≡ true →
      index_of test (xs ++ y ∷ ys) ≡ some (length xs)
  unfolding index_of
  index-past [] y ys a e = rw e
  index-past (x ∷ xs) y ys a e = rw a.0 (ap (map suc) (index-past xs y ys a.1 e))

pub element-past : {A : Type 0} (xs : List A) (y : A) (ys : List A) → get_elem? (xs ++ y ∷ ys) (length xs) ≡ some y
element-past [] y ys = refl
element-past (x ∷ xs) y ys = element-past xs y ys
