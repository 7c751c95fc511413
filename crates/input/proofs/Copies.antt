-- Bytes copied into a lent slice: the laws of one turn of each loop.
use Prim.Native.Nat.{ℕ, suc, ◌+◌, ◌-◌, ◌≤◌, ◌<◌}
use mathlib.Core.Path.{◌≡◌, sym, ap, ◌∙◌}
use mathlib.Core.Bool.{true}
use mathlib.Core.List.{List, [], ◌∷◌, ◌++◌}
use native.Mathlib.Nat.{add-zero}
use native.Mathlib.Omega.{arith}
use lib.ListN.{length, get_or, set, take, drop, length-append, length-drop}
use lib.Seq.{sets, drop-cons, length-take-le}
use Rattle.wire.specs.Words.{word_at}
use Rattle.input.specs.Input.{whole}
use Rattle.input.specs.Evaluation.{body, joined}
use Rattle.input.proofs.Inside.{whole-inside}
use Rattle.input.proofs.Runs.{joined-turn}

-- one byte of those that are copied
pub byte-turn :
    (b l : List ℕ) (at i : ℕ) → i < length b →
    sets l (at + i) (drop i b) ≡ sets (set l (at + i) (get_or b i 0)) (at + (i + 1)) (drop (i + 1) b)
byte-turn b l at i h =
    let e : at + (i + 1) ≡ suc (at + i) = omega arith in
    let f : i + 1 ≡ suc i = omega arith in
    rw (drop-cons b i 0 h, e, f)

-- a run of stores after a run
sets-append : (xs ys l : List ℕ) (i : ℕ) → sets l i (xs ++ ys) ≡ sets (sets l i xs) (i + length xs) ys
sets-append [] ys l i = ap (λ k. sets l k ys) (sym (add-zero i))
sets-append (x ∷ xs) ys l i =
    let e : suc i + length xs ≡ i + suc (length xs) = omega arith in
    sets-append xs ys (set l i x) (suc i) ∙ ap (λ k. sets (sets (set l i x) (suc i) xs) k ys) e

-- one body of those that are joined: the entry at p ends at `next`
pub record Turned (s : List ℕ) (kind p next n : ℕ) (l : List ℕ) : Type 0 where
  pub inside : next ≤ length s
  pub long : p + 4 ≤ next
  pub count : length (joined s p kind) ≡ (next - p - 4) + length (joined s next kind)
  pub filled :
      sets l n (joined s p kind) ≡
      sets (sets l n (take (next - (p + 4)) (drop (p + 4) s))) (n + (next - p - 4)) (joined s next kind)

pub body-turn :
    (s : List ℕ) (kind p next n : ℕ) (l : List ℕ) → whole s p kind ≡ true → next ≡ p + word_at s p → Turned s kind p next n l
unfolding body
body-turn s kind p next n l h e =
    let within = whole-inside s p kind h in
    let w : word_at s p - 4 ≡ next - (p + 4) = omega (arith, within.0) in
    let same : next - (p + 4) ≡ next - p - 4 = omega arith in
    let part = take (next - (p + 4)) (drop (p + 4) s) in
    let turn : joined s p kind ≡ part ++ joined s next kind = rw (joined-turn s kind p h, body, w, e) in
    let long : length part ≡ next - p - 4 =
    length-take-le (next - (p + 4)) (drop (p + 4) s) (omega (arith, length-drop (p + 4) s, within.0, within.1)) ∙ same in
    record {
      inside = omega (arith, within.1);
      long = omega (arith, within.0);
      count = rw (turn, length-append, long);
      filled = rw (turn, sets-append part (joined s next kind) l n, long);
    }
