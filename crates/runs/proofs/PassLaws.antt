-- Passing over codes: each way through the code, in the code's terms.
use Prim.Native.Nat.{ℕ, zero, suc, ◌+◌, ◌*◌, ◌-◌, ◌<◌, ◌≤◌}
use mathlib.Core.Path.{◌≡◌, refl, sym, ap, subst, ◌∙◌}
use mathlib.Core.Bool.{cond}
use mathlib.Core.List.{List}
use native.Mathlib.Omega.{arith}
use lib.ListN.{length}
use borrow.Author.Tests.{eq-eqb, ne_eqb}
use Rattle.wire.specs.Words.{byte_at}
use Rattle.wire.proofs.Past.{past}
use Rattle.runs.specs.declared.forms.Form.{Form}
use Rattle.runs.specs.declared.forms.Form.TheVariants.{Plain, Field, Literal, Sort, Open, Such, Close, Other}
use Rattle.runs.specs.declared.pass.Pass.{Pass}
use Rattle.runs.specs.Forms.{form_in, form_of, literal_length}
use Rattle.runs.specs.Passes.{after_stream, pass_at, on, pass_by, passed, passes, passed_by}

-- ---- a step

pub passed_ended : (s : List ℕ) (x : Pass) → length s ≤ x.place → passed s x ≡ pass_at x.place 0
unfolding passed pass_by form_of form_in
passed_ended s x h =
    let z : ◌≡◌ {A = ℕ} 0 (byte_at s x.place) = past s x.place h in
    ap (λ b. pass_by s x (form_of b)) (sym z)

-- ---- all of them

-- what is still to come, from here on, is the whole
pub record Passing (s : List ℕ) (p k : ℕ) (x : Pass) (left : ℕ) : Type 0 where
  pub short : length s ≤ 65535
  pub few : left ≤ length s
  pub due-few : x.due + 256 * left ≤ 4311744255
  pub near : x.place ≤ 131080
  pub rest : passes s (length s) (pass_at p k) ≡ passes s left x

module _ (s : List ℕ) (p k : ℕ) where
  pub passing-start : length s ≤ 65535 → p ≤ 131080 → k ≤ 4294967295 → Passing s p k (pass_at p k) (length s - 0)
  passing-start h l m = let z : length s - 0 ≡ length s = omega arith in rw z (record { short = h; few = omega arith; due-few = omega (arith, h, m); near = l; rest = refl })

  -- nothing is due, or no step is left
  rests : (left : ℕ) (x : Pass) → x.due ≡ 0 → passes s left x ≡ x
  unfolding passes
  rests zero x e = refl
  rests (suc n) x e = ap (λ b. cond b x (passes s n (passed s x))) (eq-eqb x.due 0 e)

  ends : (left : ℕ) (x : Pass) → left ≤ 0 → passes s left x ≡ x
  unfolding passes
  ends zero x e = refl
  ends (suc n) x e = absurd (omega arith)

  turn : (left : ℕ) (x : Pass) → 0 < left → (x.due ≡ 0 → ⊥) → passes s left x ≡ passes s (left - 1) (passed s x)
  unfolding passes
  turn zero x l z = absurd (omega arith)
  turn (suc n) x l z =
      let m : suc n - 1 ≡ n = omega arith in
      ap (λ b. cond b x (passes s n (passed s x))) (ne_eqb x.due 0 z) ∙ ap (λ k. passes s k (passed s x)) (sym m)

  module _ (x : Pass) (left : ℕ) (i : Passing s p k x left) where
    gives : passes s left x ≡ x → (x.place ≡ passed_by s p k) × (x.place ≤ 131080)
    unfolding passed_by
    gives e = (ap (λ y. y.place) (sym (i.rest ∙ e)), i.near)

    pub passing-done : x.due ≡ 0 → (x.place ≡ passed_by s p k) × (x.place ≤ 131080)
    passing-done e = gives (rests left x e)

    pub passing-ended : left ≤ 0 → (x.place ≡ passed_by s p k) × (x.place ≤ 131080)
    passing-ended e = gives (ends left x e)

    pub passing-next : (y : Pass) → 0 < left → (x.due ≡ 0 → ⊥) → (y ≡ passed s x) × (y.due ≤ x.due + 256) × (y.place ≤ 131080) →
        Passing s p k y (left - 1)
    passing-next y l z g =
        let a = i.few in
        let b = i.due-few in
        let c = g.1 in
        record {
          short = i.short;
          few = omega (arith, a);
          due-few = omega (arith, b, c, l);
          near = g.2;
          rest = i.rest ∙ turn left x l z ∙ ap (passes s (left - 1)) (sym g.0);
        }
