-- The order of two texts: where it starts, a step, and where it ends. Assumes nothing.
use Prim.Native.Nat.{ℕ, zero, suc, ◌+◌, ◌-◌, ◌≤◌, ◌<◌, max}
use mathlib.Core.Path.{◌≡◌, refl, sym, ap, subst, ◌∙◌}
use mathlib.Core.List.{List, [], ◌∷◌}
use native.Mathlib.Omega.{arith}
use native.Mathlib.Numerals.{add-one}
use native.Mathlib.Nat.{le_of_suc-le-suc, not-suc-le-zero}
use mathlib.Core.Bool.{Bool, true, false, not}
use lib.Dec.{T}
use lib.ListN.{length, get_or}
use Rattle.std.specs.Prelude.{◌==◌}
use Rattle.std.specs.Ordering.{nat_cmp, ordering_index}
use Rattle.std.specs.declared.cmp.Ordering.{Ordering}
use Rattle.std.specs.declared.cmp.Ordering.TheVariants.{Less, Equal, Greater}
use Rattle.wire.proofs.Compared.{cmp-order_ℕ}
use Rattle.wire.specs.Orders.{order_ℕ, where_equal}
use Rattle.text.specs.Value.{blank}
use Rattle.text.specs.Tests.{order_from, text_order}

-- within a list the default does not count
pub default-unused : (l : List ℕ) (i d e : ℕ) → i < length l → get_or l i d ≡ get_or l i e
default-unused [] i d e h = absurd (not-suc-le-zero h)
default-unused (x ∷ l) zero d e h = refl
default-unused (x ∷ l) (suc i) d e h = default-unused l i d e (le_of_suc-le-suc h)

pub clash : {X : Type 0} → false ≡ true → X
clash e = absurd (subst (λ (b : Bool). T (not b)) e tt)

decides : (o r : Ordering) → true ≡ not (ordering_index o == 1) → where_equal o r ≡ o
decides Less r h = refl
decides Equal r h = clash (sym h)
decides Greater r h = refl

told-equal : (o : Ordering) → false ≡ not (ordering_index o == 1) → o ≡ Equal
told-equal Less h = clash h
told-equal Equal h = refl
told-equal Greater h = clash h

module _ (a b : List ℕ) where
  pub order-start : (n : ℕ) → n ≡ max (length a) (length b) → text_order a b ≡ order_from (n - 0) 0 a b
  unfolding text_order
  order-start n e =
      let q : max (length a) (length b) ≡ n - 0 = omega arith in
      ap (λ (k : ℕ). order_from k 0 a b) q

  module _ (n i : ℕ) where
    pub order-end : n ≤ i → order_from (n - i) i a b ≡ Equal
    unfolding order_from
    order-end h = let q : n - i ≡ 0 = omega arith in ap (λ (k : ℕ). order_from k i a b) q

    module _ (h : i < n) {x y : ℕ} (p : x ≡ get_or a i blank) (q : y ≡ get_or b i blank) where
      first : order_from (n - i) i a b ≡ where_equal (order_ℕ x y) (order_from (n - suc i) (suc i) a b)
      unfolding order_from
      first =
          let e : n - i ≡ suc (n - suc i) = omega arith in
          ap (λ (k : ℕ). order_from k i a b) e ∙ rw (p, q)

      -- a byte that is not equal decides
      pub order-told : {o : Ordering} → o ≡ nat_cmp x y → true ≡ not (ordering_index o == 1) → o ≡ order_from (n - i) i a b
      order-told {o} e t =
          sym (first ∙ ap (λ (z : Ordering). where_equal z (order_from (n - suc i) (suc i) a b)) (sym (cmp-order_ℕ x y) ∙ sym e) ∙ decides o _ t)

      -- after equal bytes the rest does
      pub order_same : {o : Ordering} → o ≡ nat_cmp x y → false ≡ not (ordering_index o == 1)
          → order_from (n - i) i a b ≡ order_from (n - (i + 1)) (i + 1) a b
      order_same {o} e t =
          first ∙ ap (λ (z : Ordering). where_equal z (order_from (n - suc i) (suc i) a b)) (sym (cmp-order_ℕ x y) ∙ sym e ∙ told-equal o t)
          ∙ ap (λ (j : ℕ). order_from (n - j) j a b) (sym (add-one i))
