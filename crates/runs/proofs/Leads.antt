-- Steps of a scan or of a pass, one after another.
use Prim.Native.Nat.{ℕ, zero, suc, ◌+◌, ◌-◌, ◌<◌, ◌≤◌}
use mathlib.Core.Path.{◌≡◌, refl, ap, ◌∙◌}
use mathlib.Core.List.{List}
use native.Mathlib.Omega.{arith}
use lib.Dec.{eqb-suc-zero}
use Rattle.runs.specs.declared.pass.Pass.{Pass}
use Rattle.runs.specs.Passes.{pass_at, passed, passes}
use Rattle.runs.specs.Steps.{State, state_of, stepped, steps}

-- some of the steps that `run` makes lead from a state to another, at most so many
pub record Leads {S : Type 0} (run : ℕ → S → S) (x y : S) (most : ℕ) : Type 0 where
  pub count : ℕ
  pub few : count ≤ most
  pub leads : (n : ℕ) → run (count + n) x ≡ run n y

module _ {S : Type 0} (run : ℕ → S → S) where
  pub stay : (x : S) → Leads run x x 0
  stay x = record { count = 0; few = omega arith; leads = λ n. let z : 0 + n ≡ n = omega arith in ap (λ k. run k x) z }

  pub onward : (x y z : S) (a b : ℕ) → Leads run x y a → Leads run y z b → Leads run x z (a + b)
  onward x y z a b h k =
      record {
        count = h.count + k.count;
        few = let f = h.few in let g = k.few in omega (arith, f, g);
        leads =
            λ n. let e : h.count + k.count + n ≡ h.count + (k.count + n) = omega arith in
            ap (λ m. run m x) e ∙ h.leads (k.count + n) ∙ k.leads n;
      }

  -- another name for where it ends
  pub ends : (x y z : S) (a b : ℕ) → Leads run x y a → y ≡ z → a ≤ b → Leads run x z b
  ends x y z a b h e l =
      record {
        count = h.count;
        few = let f = h.few in omega (arith, f, l);
        leads = λ n. h.leads n ∙ ap (run n) e;
      }

  -- enough steps lead to a state from which no step is made
  pub reaches : (x y : S) (n most : ℕ) → Leads run x y most → most ≤ n → ((k : ℕ) → run k y ≡ y) → run n x ≡ y
  reaches x y n most h l rests =
      let f = h.few in
      let z : n ≡ h.count + (n - h.count) = omega (arith, f, l) in
      ap (λ k. run k x) z ∙ h.leads (n - h.count) ∙ rests (n - h.count)

-- ---- a scan

-- a scan at a place, with so many due, so many rows, the row it is in, and its table
abbrev pub seen : ℕ → ℕ → ℕ → ℕ → List ℕ → State
seen p k r w t = state_of (record { pass = record { place = p; due = k }; rows = r; within = w }) t

module _ (d s : List ℕ) where
  -- a step, where something is due
  pub once : (p j r w : ℕ) (t : List ℕ) (y : State) → 0 < j → stepped d s (seen p j r w t) ≡ y → Leads (steps d s) (seen p j r w t) y 1
  unfolding steps
  once p zero r w t y h e = absurd (omega arith)
  once p (suc j) r w t y h e =
      record {
        count = 1;
        few = omega arith;
        leads =
            λ n. let z : 1 + n ≡ suc n = omega arith in
            ap (λ k. steps d s k (seen p (suc j) r w t)) z ∙ rw (eqb-suc-zero j) (ap (steps d s n) e);
      }

  -- with nothing due, no step is made
  pub rests : (p r w : ℕ) (t : List ℕ) (n : ℕ) → steps d s n (seen p 0 r w t) ≡ seen p 0 r w t
  unfolding steps
  rests p r w t zero = refl
  rests p r w t (suc n) = refl

-- ---- a pass

module _ (s : List ℕ) where
  pub pass-once : (p j : ℕ) (y : Pass) → 0 < j → passed s (pass_at p j) ≡ y → Leads (passes s) (pass_at p j) y 1
  unfolding passes
  pass-once p zero y h e = absurd (omega arith)
  pass-once p (suc j) y h e =
      record {
        count = 1;
        few = omega arith;
        leads =
            λ n. let z : 1 + n ≡ suc n = omega arith in
            ap (λ k. passes s k (pass_at p (suc j))) z ∙ rw (eqb-suc-zero j) (ap (passes s n) e);
      }

  pub pass-rests : (p n : ℕ) → passes s n (pass_at p 0) ≡ pass_at p 0
  unfolding passes
  pass-rests p zero = refl
  pass-rests p (suc n) = refl
