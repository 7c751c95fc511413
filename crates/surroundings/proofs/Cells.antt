-- The numbers of a table from a place on are those of what is left of it there.
use Prim.Native.Nat.{ℕ, ◌+◌}
use mathlib.Core.Path.{◌≡◌, sym, ap, ◌∙◌}
use mathlib.Core.List.{List}
use lib.ListN.{get_or, drop}
use lib.Seq.{get_or-drop, drop-drop}

pub cell-is : (t l : List ℕ) (q j : ℕ) → drop q t ≡ l → get_or t (q + j) 0 ≡ get_or l j 0
cell-is t l q j e = sym (get_or-drop q t j 0) ∙ ap (λ z. get_or z j 0) e

pub next-is : (t l : List ℕ) (q j r : ℕ) → drop q t ≡ l → q + j ≡ r → drop r t ≡ drop j l
next-is t l q j r e h = rw (← h) (sym (drop-drop j q t) ∙ ap (drop j) e)
