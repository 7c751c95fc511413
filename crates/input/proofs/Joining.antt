-- Joined bodies in a space that is long enough.
use Prim.Native.Nat.{ℕ, zero, suc, ◌+◌, ◌-◌, ◌≤◌}
use mathlib.Core.Path.{◌≡◌, refl, ap, ◌∙◌}
use mathlib.Core.Bool.{Bool, true, false}
use mathlib.Core.List.{List, ◌++◌}
use native.Mathlib.Omega.{arith}
use lib.ListN.{length, take, drop, length-append, length-drop}
use lib.Seq.{sets-eq, length-sets, take_at, length-take-le}
use Rattle.wire.specs.Words.{word_at}
use Rattle.input.specs.Input.{whole}
use Rattle.input.specs.Evaluation.{placed, places, entries_from, body, bodies, joined, Joined}
use Rattle.input.proofs.Inside.{whole-inside}

module _ (s : List ℕ) (kind : ℕ) where
  short-by :
      (p : ℕ) (b : Bool) (l : List ℕ) → whole s p kind ≡ b → length (bodies s l) ≤ length s - (p + word_at s p) →
      length (bodies s (placed b p l)) ≤ length s - p
  unfolding bodies body
  short-by p true l e h =
      let inside = whole-inside s p kind e in
      let part = take (word_at s p - 4) (drop (p + 4) s) in
      let long : length part ≡ word_at s p - 4 =
      length-take-le (word_at s p - 4) (drop (p + 4) s) (omega (arith, length-drop (p + 4) s, inside.0, inside.1)) in
      omega (arith, length-append part (bodies s l), inside.0, inside.1)
  short-by p false l e h = omega arith

  short-places : (n p : ℕ) → length (bodies s (places n s p kind)) ≤ length s - p
  unfolding bodies places
  short-places zero p = omega arith
  short-places (suc n) p =
      short-by p (whole s p kind) (places n s (p + word_at s p) kind) refl (short-places n (p + word_at s p))

  -- no longer than the input
  pub joined-short : (p : ℕ) → length (joined s p kind) ≤ length s
  unfolding joined entries_from
  joined-short p = omega (arith, short-places (length s) p)

-- as many bytes as there are in the bodies are the bodies
pub joined_is :
    {s : List ℕ} {p kind : ℕ} {lent lent' : List ℕ} {r : ℕ} → Joined s p kind lent lent' r → length s ≤ length lent →
    (r ≤ length lent') × (take r lent' ≡ joined s p kind)
joined_is {s} {p} {kind} {lent} {lent'} {r} h fits =
    let all = joined s p kind in
    let short = joined-short s kind p in
    let whole' : lent' ≡ all ++ drop (0 + length all) lent = h.filled ∙ sets-eq all lent 0 (omega (arith, short)) in
    let same : length lent' ≡ length lent = ap length h.filled ∙ length-sets lent 0 all in
    (omega (arith, h.count, short, same), rw (whole', h.count) (take_at all (drop (0 + length all) lent) (length all) refl))
