-- The steps of a scan: each way through the code, in the code's terms.
use Prim.Native.Nat.{ℕ, zero, suc, ◌+◌, ◌*◌, ◌-◌, ◌<◌, ◌≤◌}
use mathlib.Core.Path.{◌≡◌, refl, sym, ap, ap₂, subst, ◌∙◌}
use mathlib.Core.Bool.{Bool, true, false, cond}
use mathlib.Core.List.{List, [], ◌∷◌}
use native.Mathlib.Omega.{arith}
use lib.Dec.{eqb, ltb}
use lib.ListN.{length, set, length-set}
use lib.Seq.{sets, length-sets}
use borrow.Author.Tests.{eq-eqb, ne_eqb, lt-ltb, le-ltb, le-leb, lt-leb}
use Rattle.wire.specs.Words.{byte_at, word_at}
use Rattle.wire.specs.Classes.{Class, due, left_out, foreign, literal_class, stream_class}
use Rattle.wire.specs.declared.codes.Width.{Width}
use Rattle.wire.specs.declared.codes.Width.TheVariants.{Short, Long, Int64}
use Rattle.wire.specs.declared.codes.LiteralType.{LiteralType}
use Rattle.wire.specs.declared.codes.LiteralType.TheVariants.{NumberLiteral, TextLiteral}
use Rattle.wire.specs.declared.codes.StreamCode.{StreamCode}
use Rattle.wire.specs.declared.codes.StreamCode.TheVariants.{Relation, Rid}
use Rattle.wire.proofs.Past.{past}
use Rattle.classes.specs.declared.NotDue.{NotDue}
use Rattle.classes.specs.Classes.{class_of}
use Rattle.dictionary.specs.Dictionary.{name_at}
use Rattle.dictionary.specs.Format.{width_bytes}
use Rattle.dictionary.specs.Naming.{named, numbered}
use Rattle.dictionary.specs.Internal.Walk.{relation_place}
use Rattle.surroundings.specs.Slots.{place_or}
use Rattle.surroundings.specs.Bindings.{cell}
use Rattle.runs.specs.declared.forms.Form.{Form}
use Rattle.runs.specs.declared.forms.Form.TheVariants.{Plain, Field, Literal, Sort, Open, Such, Close, Other}
use Rattle.runs.specs.declared.scan.Scan.{Scan}
use Rattle.runs.specs.declared.stream.Opened.{Opened}
use Rattle.runs.specs.Forms.{form_in, form_of, literal_size, literal_length}
use Rattle.runs.specs.Passes.{stream_end, after_stream, pass_at, on, passed, passed_by}
use Rattle.runs.specs.Steps.{State, state_of, moved, stopped, open_row, opened, opened_by, opened_at, opened_here, such_noted, closed, step_by, stepped, steps, start, found}

-- ---- a literal

width_few : (w : Width) → width_bytes w ≤ 8
width_few Short = omega arith
width_few Long = omega arith
width_few Int64 = omega arith

-- a literal and a stream by the class of their code, as the code answers it
pub literal_by : (s : List ℕ) (p : ℕ) (x : Class LiteralType) → literal_class (byte_at s p) ≡ x → literal_length s p ≡ literal_size s p x
unfolding literal_length
literal_by s p x e = ap (literal_size s p) e

-- ---- a step

pub stepped_ended : (d s : List ℕ) (x : Scan) (t : List ℕ) → length s ≤ x.pass.place → stepped d s (state_of x t) ≡ state_of (stopped x) t
unfolding stepped step_by form_of form_in
stepped_ended d s x t h =
    let z : ◌≡◌ {A = ℕ} 0 (byte_at s x.pass.place) = past s x.pass.place h in
    ap (λ b. step_by d s (state_of x t) (form_of b)) (sym z)

-- a step keeps the length of the table
open-long : (b : Bool) (x : State) (o : Opened) (m : ℕ) (y : Scan) →
    length (cond b (opened x o m) (state_of y x.table)).table ≡ length x.table
open-long true x o m y = length-sets x.table (x.scan.rows * 10) (open_row x.scan.pass.place o x.scan.within m)
open-long false x o m y = refl

such-long : (b : Bool) (t : List ℕ) (i p : ℕ) → length (cond b (set t i p) t) ≡ length t
such-long true t i p = length-set t i p
such-long false t i p = refl

step-long : (d s : List ℕ) (x : State) (f : Form) → length (step_by d s x f).table ≡ length x.table
unfolding step_by opened_here
step-long d s x (Plain n m) = refl
step-long d s x Field = refl
step-long d s x Literal = refl
step-long d s x Sort = refl
step-long d s x (Open m) = open-long (ltb x.scan.rows 32) x (opened_at d s (x.scan.pass.place + 3)) m (stopped x.scan)
step-long d s x Such = such-long (eqb (cell x.table x.scan.within 4) 0) x.table (x.scan.within * 10 + 4) (x.scan.pass.place + 1)
step-long d s x Close =
    let end = passed_by s (x.scan.pass.place + 1) (cell x.table x.scan.within 8) in
    length-set (set x.table (x.scan.within * 10 + 5) end) (x.scan.within * 10 + 8) (x.scan.pass.place + 1)
    ∙ length-set x.table (x.scan.within * 10 + 5) end
step-long d s x Other = refl

pub stepped-long : (d s : List ℕ) (x : State) → length (stepped d s x).table ≡ length x.table
unfolding stepped
stepped-long d s x = step-long d s x (form_of (byte_at s x.scan.pass.place))

-- ---- the scan

-- what is still to come, from here on, is the whole
pub record Scanning (d s : List ℕ) (p row : ℕ) (t₀ t : List ℕ) (x : Scan) (left : ℕ) : Type 0 where
  pub same : length t ≡ length t₀
  pub short : length s ≤ 65535
  pub few : left ≤ length s
  pub due-few : x.pass.due + 256 * left ≤ 16776961
  pub rest : steps d s (length s) (start p row t₀) ≡ steps d s left (state_of x t)

module _ (d s : List ℕ) (p row : ℕ) (t₀ : List ℕ) where
  pub scan-long : 65535 < length s → (row ≡ (found d s p row t₀).scan.rows) × (t₀ ≡ (found d s p row t₀).table)
  unfolding found
  scan-long h =
      let z = ap (λ b. cond b (steps d s (length s) (start p row t₀)) (start p row t₀)) (lt-leb (length s) 65535 h) in
      (sym (ap (λ v. v.scan.rows) z), sym (ap (λ v. v.table) z))

  pub scan-start : length s ≤ 65535 → Scanning d s p row t₀ t₀ (record { pass = pass_at p 1; rows = row; within = 32 }) (length s - 0)
  scan-start h =
      let z : length s - 0 ≡ length s = omega arith in
      rw z (record { same = refl; short = h; few = omega arith; due-few = omega arith; rest = refl })

  -- nothing is due, or no step is left
  rests : (left : ℕ) (x : Scan) (t : List ℕ) → x.pass.due ≡ 0 → steps d s left (state_of x t) ≡ state_of x t
  unfolding steps
  rests zero x t e = refl
  rests (suc n) x t e = ap (λ b. cond b (state_of x t) (steps d s n (stepped d s (state_of x t)))) (eq-eqb x.pass.due 0 e)

  ends : (left : ℕ) (x : Scan) (t : List ℕ) → left ≤ 0 → steps d s left (state_of x t) ≡ state_of x t
  unfolding steps
  ends zero x t e = refl
  ends (suc n) x t e = absurd (omega arith)

  turn : (left : ℕ) (x : Scan) (t : List ℕ) → 0 < left → (x.pass.due ≡ 0 → ⊥) →
      steps d s left (state_of x t) ≡ steps d s (left - 1) (stepped d s (state_of x t))
  unfolding steps
  turn zero x t h e = absurd (omega arith)
  turn (suc n) x t h e =
      let z : suc n - 1 ≡ n = omega arith in
      ap (λ b. cond b (state_of x t) (steps d s n (stepped d s (state_of x t)))) (ne_eqb x.pass.due 0 e) ∙
      ap (λ k. steps d s k (stepped d s (state_of x t))) (sym z)

  module _ (t : List ℕ) (x : Scan) (left : ℕ) (g : Scanning d s p row t₀ t x left) where
    found_here : steps d s left (state_of x t) ≡ state_of x t →
        (x.rows ≡ (found d s p row t₀).scan.rows) × (t ≡ (found d s p row t₀).table)
    unfolding found
    found_here e =
        let z = ap (λ b. cond b (steps d s (length s) (start p row t₀)) (start p row t₀)) (le-leb (length s) 65535 g.short) ∙ g.rest ∙ e in
        (sym (ap (λ v. v.scan.rows) z), sym (ap (λ v. v.table) z))

    pub scan-done : x.pass.due ≡ 0 → (x.rows ≡ (found d s p row t₀).scan.rows) × (t ≡ (found d s p row t₀).table)
    scan-done e = found_here (rests left x t e)

    pub scan-ended : left ≤ 0 → (x.rows ≡ (found d s p row t₀).scan.rows) × (t ≡ (found d s p row t₀).table)
    scan-ended e = found_here (ends left x t e)

    pub scan-next : (y : Scan) (u : List ℕ) → 0 < left → (x.pass.due ≡ 0 → ⊥) →
        (y ≡ (stepped d s (state_of x t)).scan) × (u ≡ (stepped d s (state_of x t)).table) × (y.pass.due ≤ x.pass.due + 256) →
        Scanning d s p row t₀ u y (left - 1)
    scan-next y u h e a =
        let m = g.due-few in
        let l = a.2 in
        let k = g.few in
        let z : state_of y u ≡ stepped d s (state_of x t) = λ i. state_of (a.0 i) (a.1 i) in
        record {
          same = ap length a.1 ∙ stepped-long d s (state_of x t) ∙ g.same;
          short = g.short;
          few = omega (arith, k, h);
          due-few = omega (arith, m, l, h);
          rest = g.rest ∙ turn left x t h e ∙ ap (λ v. steps d s (left - 1) v) (sym z);
        }
