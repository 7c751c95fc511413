-- The kinds noted row by row. Assumes nothing.
use Prim.Native.Nat.{ℕ, zero, suc, ◌+◌, ◌*◌, ◌-◌, ◌<◌, ◌≤◌}
use mathlib.Core.Path.{◌≡◌, refl, sym, ap, ◌∙◌}
use mathlib.Core.Bool.{Bool, true, false, cond}
use mathlib.Core.List.{List}
use native.Mathlib.Omega.{arith}
use lib.ListN.{length, set, length-set}
use Rattle.wire.specs.Limits.{max_depth}
use Rattle.wire.specs.Words.{byte_at}
use Rattle.wire.specs.Classes.{Class, value_class}
use Rattle.wire.specs.declared.codes.ValueCode.{ValueCode}
use Rattle.surroundings.specs.Bindings.{cell}
use Rattle.kinds.specs.Spans.{spans_in}
use Rattle.kinds.specs.KindAt.{Kinded, kind_at, kind_number, takes_number, row_noted, kinds_noted}

module _ (d ps : List ℕ) (rows : ℕ) (s t : List ℕ) (row : ℕ) where
  -- the test of a row's code
  module _ (code b : ℕ) (k : Class ValueCode) (r : Bool) (e : code ≡ cell t row 0) (f : b ≡ byte_at s code) (g : k ≡ value_class b)
      (h : r ≡ takes_number k) where
    test : takes_number (value_class (byte_at s (cell t row 0))) ≡ r
    test = sym (h ∙ ap takes_number (g ∙ ap value_class (f ∙ ap (byte_at s) e)))

    pub note-here : r ≡ true → (after n : ℕ) (x : Kinded) (u : List ℕ) → after ≡ cell t row 8 → x ≡ kind_at d ps rows (spans_in t) max_depth s after →
        n ≡ kind_number x.kind → u ≡ set t (row * 10 + 9) n → u ≡ row_noted d ps rows s t row
    unfolding row_noted
    note-here i after n x u j l m o =
        rw (test ∙ i)
        (o ∙ ap (set t (row * 10 + 9)) (m ∙ ap (λ (y : Kinded). kind_number y.kind) (l ∙ ap (λ z. kind_at d ps rows (spans_in t) max_depth s z) j)))

    pub note-not : r ≡ false → t ≡ row_noted d ps rows s t row
    unfolding row_noted
    note-not i = rw (test ∙ i)

  pub noted-long : length (row_noted d ps rows s t row) ≡ length t
  unfolding row_noted
  noted-long = by (takes_number (value_class (byte_at s (cell t row 0)))) _
    where
      by : (b : Bool) (n : ℕ) → length (cond b (set t (row * 10 + 9) n) t) ≡ length t
      by true n = length-set t (row * 10 + 9) n
      by false n = refl

-- how far the rows are noted: what is still to come gives what all of it gives from the start
pub record Noting (d ps : List ℕ) (rows : ℕ) (s : List ℕ) (count : ℕ) (t₀ t : List ℕ) (row : ℕ) : Type 0 where
  pub same : kinds_noted d ps rows s (count - row) row t ≡ kinds_noted d ps rows s count 0 t₀
  pub within : row ≤ count
  pub long : length t ≡ length t₀

module _ (d ps : List ℕ) (rows : ℕ) (s : List ℕ) (count : ℕ) (t₀ : List ℕ) where
  pub note-start : Noting d ps rows s count t₀ t₀ 0
  note-start = let k : count - 0 ≡ count = omega arith in record { same = rw k; within = omega arith; long = refl }

  module _ (t : List ℕ) (row : ℕ) (f : Noting d ps rows s count t₀ t row) where
    pub note-end : count ≤ row → t ≡ kinds_noted d ps rows s count 0 t₀
    unfolding kinds_noted
    note-end h = let k : count - row ≡ 0 = omega arith in rw k at f.same

    pub note-next : row < count → (u : List ℕ) → u ≡ row_noted d ps rows s t row → Noting d ps rows s count t₀ u (row + 1)
    unfolding kinds_noted
    note-next h u e =
        let m : count - row ≡ suc (count - (row + 1)) = omega arith in
        record {
          same = rw e (rw (m, kinds_noted) at f.same);
          within = omega arith;
          long = ap length e ∙ noted-long d ps rows s t row ∙ f.long;
        }
