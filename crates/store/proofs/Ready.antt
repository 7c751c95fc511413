-- The numbers of an open store: its records are inside the buffer, and no more bits are set than they have bytes.
use Prim.Native.Nat.{ℕ, suc, ◌+◌, ◌*◌, ◌-◌, ◌≤◌, ◌<◌}
use mathlib.Core.Path.{◌≡◌, refl, ap, subst, ◌∙◌}
use mathlib.Core.Bool.{Bool, true, false}
use mathlib.Core.List.{List, [], ◌∷◌, ◌++◌}
use native.Mathlib.Nat.{suc-mul, add-mul}
use native.Mathlib.Omega.{arith}
use lib.Dec.{ltb}
use lib.ListN.{length, length-append, get_or-append, get_or-eq_default}
use lib.Seq.{get_or-append-add}
use borrow.Author.Tests.{ltb-true, ltb-false}
use Rattle.wire.specs.Words.{byte_at}
use Rattle.wire.specs.Lists.{sum_of}
use Rattle.dictionary.specs.Dictionary.{Relation}
use Rattle.records.specs.Record.{missing_bytes}
use Rattle.store.specs.Store.{Contents, missing_in, missing_count, joined, header}
use Rattle.store.specs.Listing.{Octets}
use Rattle.store.specs.Internal.Layouts.{size_of, layout_of, store_of}
use Rattle.store.specs.Internal.Changes.{place_of, bits_at, Ready}
use Rattle.store.proofs.Pastes.{zeros}
use Rattle.store.proofs.Opened.{Holding, missing-few}
use Rattle.store.proofs.Changed.{joined-middle, b-is, end_is, inside_is, before, this, after, split-is, sum-split, bits_is, bits_fewer}

octets-left : (k l : List ℕ) → Octets (k ++ l) → Octets k
octets-left k l o p = by (ltb p (length k)) refl
  where
    by : (b : Bool) → ltb p (length k) ≡ b → byte_at k p < 256
    by true e = rw (← get_or-append k l 0 p (ltb-true p (length k) e)) (o p)
    by false e = rw (get_or-eq_default k 0 (ltb-false p (length k) e)) (omega arith)

octets-right : (k l : List ℕ) → Octets (k ++ l) → Octets l
octets-right k l o p = rw (← get_or-append-add k l p 0) (o (length k + p))

-- no more bits than bytes
sum-few : (r : Relation) → 8 * missing_bytes r ≤ size_of r → (l : List (List ℕ)) → Octets (joined l) → sum_of (missing_in r) l ≤ length l * size_of r
unfolding sum_of joined
sum-few r h [] o = omega arith
sum-few r h (x ∷ l) o =
    omega (
      arith,
      missing-few r x (octets-left x (joined l) o),
      sum-few r h l (octets-right x (joined l) o),
      suc-mul (length l) (size_of r),
    )

module _ {d : List ℕ} {rs : List Relation} {b : List ℕ} {c : Contents} (h : Holding d rs b c) (o : Octets b) where
  joined-octets : Octets (joined c.records)
  joined-octets =
      octets-right (header c) (joined c.records)
      (octets-left (header c ++ joined c.records) (zeros (length b - (10 + length (joined c.records)))) (subst Octets (b-is h o) o))

  few_bits : 8 * missing_bytes c.relation ≤ size_of c.relation
  unfolding layout_of
  few_bits = h.fair-layout.bits_fewer

  -- the other records have no more bits than bytes
  else-few : (k : ℕ) (there : k < length c.records) →
      missing_count c + size_of c.relation ≤ length c.records * size_of c.relation + bits_at (store_of c) b (place_of (store_of c) k)
  else-few k there =
      let l = before h o k there in
      let x = this h o k there in
      let m = after h o k there in
      let all : Octets (joined l ++ (x ++ joined m)) =
      subst Octets (joined-middle l x m) (subst (λ z. Octets (joined z)) (split-is h o k there) joined-octets) in
      let first = sum-few c.relation few_bits l (octets-left (joined l) (x ++ joined m) all) in
      let last = sum-few c.relation few_bits m (octets-right x (joined m) (octets-right (joined l) (x ++ joined m) all)) in
      let count : length c.records ≡ length l + suc (length m) = ap length (split-is h o k there) ∙ length-append l (x ∷ m) in
      let n : ℕ = size_of c.relation in
      let product : length c.records * n ≡ length l * n + (length m * n + n) =
      ap (λ z. z * n) count ∙ add-mul (length l) (suc (length m)) n ∙ ap (λ z. length l * n + z) (suc-mul (length m) n) in
      omega (arith, first, last, product, sum-split h o k there, bits_is h o k there)

  pub ready : Ready (store_of c) b
  unfolding store_of layout_of missing_count
  ready =
      record {
        fair = h.fair-layout;
        inside = omega (arith, end_is h o, inside_is h o);
        short = h.is-good.at_most;
        few_missing = sum-few c.relation few_bits c.records joined-octets;
        missing-of = λ k e. bits_fewer h o k e;
        missing_else = λ k e. else-few k e;
      }
