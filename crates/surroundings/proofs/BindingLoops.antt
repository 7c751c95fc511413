-- A law for each way through a turn of the loops over the rows of bindings, and for each answer of the functions that they call; and that
-- a row that was found is a row of the table.
use Prim.Native.Nat.{ℕ, zero, suc, ◌+◌, ◌*◌, ◌-◌, ◌<◌, ◌≤◌}
use mathlib.Core.Path.{◌≡◌, refl, ap, ◌∙◌}
use mathlib.Core.Bool.{Bool, true, false, cond}
use mathlib.Core.List.{List, [], ◌∷◌}
use mathlib.Core.Option.{Option, none, some}
use native.Mathlib.Omega.{arith}
use native.Mathlib.Numerals.{add-one}
use lib.Dec.{eqb}
use lib.ListN.{length, get_or, set, drop, drop_of_length-le}
use lib.Seq.{sets, length-sets, drop-cons}
use borrow.Author.Tests.{eq-eqb, ne_eqb}
use Rattle.wire.specs.Words.{word_at}
use Rattle.surroundings.specs.Slots.{Slot}
use Rattle.surroundings.specs.Bindings.{binding_row, binding_rows, context_binding, bound_contexts}
use Rattle.surroundings.specs.Bindings.{cell, binds_at, row_binding, row_coded}
use Rattle.std.specs.Prelude.{Some, None}
use Rattle.wire.specs.Options.{option_of}
use Rattle.surroundings.specs.Tables.{slots_in}

-- ---- the row that binds a number

module _ (t : List ℕ) (c rows row : ℕ) where
  pub binding-here : row < rows → binds_at t c row ≡ true → Some row ≡ option_of (row_binding t c (rows - row) row)
  unfolding row_binding
  binding-here h e = let m : rows - row ≡ suc (rows - (row + 1)) = omega arith in rw (m, row_binding, e)

  pub binding-next : row < rows → binds_at t c row ≡ false → row_binding t c (rows - row) row ≡ row_binding t c (rows - (row + 1)) (row + 1)
  unfolding row_binding
  binding-next h e = let m : rows - row ≡ suc (rows - (row + 1)) = omega arith in rw (m, row_binding, e)

  pub binding-end : rows ≤ row → None ≡ option_of (row_binding t c (rows - row) row)
  unfolding row_binding
  binding-end h = let m : rows - row ≡ 0 = omega arith in rw m

-- ---- the row of a code

module _ (t : List ℕ) (p rows row : ℕ) where
  pub coded-here : row < rows → (n : ℕ) → n ≡ cell t row 0 → n ≡ p → Some row ≡ option_of (row_coded t p (rows - row) row)
  unfolding row_coded
  coded-here h n e z = let m : rows - row ≡ suc (rows - (row + 1)) = omega arith in rw (m, row_coded, ← e, eq-eqb n p z)

  pub coded-next : row < rows → (n : ℕ) → n ≡ cell t row 0 → (n ≡ p → ⊥) →
      row_coded t p (rows - row) row ≡ row_coded t p (rows - (row + 1)) (row + 1)
  unfolding row_coded
  coded-next h n e z = let m : rows - row ≡ suc (rows - (row + 1)) = omega arith in rw (m, row_coded, ← e, ne_eqb n p z)

  pub coded-end : rows ≤ row → None ≡ option_of (row_coded t p (rows - row) row)
  unfolding row_coded
  coded-end h = let m : rows - row ≡ 0 = omega arith in rw m

-- ---- a row that was found

pub bound_some : (o : Option ℕ) (row : ℕ) → Some row ≡ option_of o → o ≡ some row
bound_some none row e = absurd (let z : ◌≡◌ {A = ℕ} 0 1 = cc in omega arith)
bound_some (some q) row e = cc

pub bound-none : (o : Option ℕ) → None ≡ option_of o → o ≡ none
bound-none none e = refl
bound-none (some q) e = absurd (let z : ◌≡◌ {A = ℕ} 0 1 = cc in omega arith)

-- this row, or one of those after it
row_inside : (n row k : ℕ) (o : Option ℕ) → (o ≡ some k → k < row + 1 + n) → (b : Bool) → cond b (some row) o ≡ some k → k < row + suc n
row_inside n row k o f true e = let z : row ≡ k = cc in omega (arith, z)
row_inside n row k o f false e = let z = f e in omega (arith, z)

pub binding-inside : (t : List ℕ) (c n row k : ℕ) → row_binding t c n row ≡ some k → k < row + n
unfolding row_binding
binding-inside t c zero row k e = absurd (let z : ◌≡◌ {A = ℕ} 0 1 = cc in omega arith)
binding-inside t c (suc n) row k e = row_inside n row k (row_binding t c n (row + 1)) (binding-inside t c n (row + 1) k) (binds_at t c row) e

pub coded-inside : (t : List ℕ) (p n row k : ℕ) → row_coded t p n row ≡ some k → k < row + n
unfolding row_coded
coded-inside t p zero row k e = absurd (let z : ◌≡◌ {A = ℕ} 0 1 = cc in omega arith)
coded-inside t p (suc n) row k e = row_inside n row k (row_coded t p n (row + 1)) (coded-inside t p n (row + 1) k) (eqb (cell t row 0) p) e

-- ---- the numbers of a row

-- those that are still to come, stored from here on, give what all of them give from the start
pub stored-start : (t l : List ℕ) (i : ℕ) → sets t (i + 0) (drop 0 l) ≡ sets t i l
stored-start t l i = let z : i + 0 ≡ i = omega arith in rw z

module _ (t u l : List ℕ) (i k : ℕ) (e : sets u (i + k) (drop k l) ≡ sets t i l) where
  pub stored-next : k < length l → sets (set u (i + k) (get_or l k 0)) (i + (k + 1)) (drop (k + 1) l) ≡ sets t i l
  stored-next h =
      let next : i + (k + 1) ≡ suc (i + k) = omega arith in
      rw (next, add-one) (rw (drop-cons l k 0 h) at e)

  pub stored-end : length l ≤ k → u ≡ sets t i l
  stored-end h = rw (drop_of_length-le l h) at e

-- ---- contexts in scope

-- how far the table is laid: what is still to come, laid from here on, gives what all of it gives from the start
pub record Laying (numbers relations records : List ℕ) (rows : ℕ) (bindings₀ bindings : List ℕ) (row p : ℕ) : Type 0 where
  pub same :
      sets bindings (row * 10) (binding_rows (bound_contexts (slots_in numbers relations (rows - row) row) records p))
      ≡ sets bindings₀ 0 (binding_rows (bound_contexts (slots_in numbers relations rows 0) records 0))
  pub within : row ≤ rows
  pub near : p ≤ row * 65535
  pub long : length bindings ≡ length bindings₀

module _ (numbers relations records : List ℕ) (rows : ℕ) (bindings₀ : List ℕ) where
  pub lay-start : Laying numbers relations records rows bindings₀ bindings₀ 0 0
  lay-start =
      let k : rows - 0 ≡ rows = omega arith in
      record { same = rw k; within = omega arith; near = omega arith; long = refl }

  module _ (bindings : List ℕ) (row p : ℕ) (f : Laying numbers relations records rows bindings₀ bindings row p) where
    pub lay-end : rows ≤ row → bindings ≡ sets bindings₀ 0 (binding_rows (bound_contexts (slots_in numbers relations rows 0) records 0))
    unfolding slots_in bound_contexts binding_rows
    lay-end h = let k : rows - row ≡ 0 = omega arith in rw k at f.same

    pub lay-next : row < rows → (n r w : ℕ) → n ≡ get_or numbers row 0 → r ≡ get_or relations row 0 → w ≡ word_at records p → w < 65536 →
        (bindings' : List ℕ) → bindings' ≡ sets bindings (row * 10) (binding_row (context_binding n r p)) →
        Laying numbers relations records rows bindings₀ bindings' (row + 1) (p + w)
    unfolding slots_in bound_contexts binding_rows
    lay-next h n r w e g i l bindings' j =
        let more : rows - row ≡ suc (rows - (row + 1)) = omega arith in
        let x : Slot = record { number = n; relation = r } in
        let s : slots_in numbers relations (rows - row) row ≡ x ∷ slots_in numbers relations (rows - (row + 1)) (row + 1) =
        rw (more, slots_in, e, g) in
        let k : (row + 1) * 10 ≡ suc (suc (suc (suc (suc (suc (suc (suc (suc (suc (row * 10)))))))))) = omega arith in
        let b = length-sets bindings (row * 10) (binding_row (context_binding n r p)) in
        record {
          same = rw (j, k, i) (rw (s, bound_contexts) at f.same);
          within = omega arith;
          near = let a = f.near in omega (arith, a, l);
          long = ap length j ∙ b ∙ f.long;
        }
