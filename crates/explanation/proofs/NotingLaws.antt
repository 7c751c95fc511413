-- The walk that lays tests in rows: a law for each way through it.
use Prim.Native.Nat.{ℕ, suc, ◌+◌, ◌-◌, ◌<◌, ◌≤◌}
use mathlib.Core.Path.{◌≡◌, refl, sym, ap, ap₂, subst, ◌∙◌}
use mathlib.Core.Bool.{Bool, true, false}
use mathlib.Core.List.{List, ◌++◌}
use mathlib.Core.Logic.{◌⊎◌, inl, inr}
use native.Mathlib.Omega.{arith}
use lib.Dec.{ltb}
use lib.ListN.{length, take, set, length-append, length-map, length-set}
use lib.Seq.{length-take-le, take-suc-set}
use borrow.Author.Tests.{lt-ltb, le-ltb}
use Rattle.std.specs.Prelude.{Result, Ok, Err}
use Rattle.wire.specs.Lists.{among, any_of}
use Rattle.wire.specs.Words.{byte_at}
use Rattle.wire.specs.Classes.{Class, left_out, foreign, due, classify, boolean_class}
use Rattle.wire.specs.declared.codes.Connective.{Connective}
use Rattle.wire.specs.declared.codes.BooleanCode.{BooleanCode}
use Rattle.wire.specs.declared.codes.BooleanCode.TheVariants as Boolean
use Rattle.wire.specs.declared.codes.Comparison.{Comparison}
use Rattle.wire.specs.declared.codes.TextSearch.{TextSearch}
use Rattle.wire.specs.declared.codes.Quantifier.{Quantifier}
use Rattle.wire.proofs.Past.{past}
use Rattle.classes.specs.declared.NotDue.{NotDue}
use Rattle.classes.specs.Classes.{class_of}
use Rattle.grammar.proofs.StepLaws.{absurd-eq}
use Rattle.meaning.specs.declared.Truth.{Truth}
use Rattle.meaning.specs.Data.{connected, opposite}
use Rattle.walking.specs.Walk.{Walked, at, fault, astray, ◌▷◌, on_class, boolean_at}
use Rattle.values.specs.declared.Stop.{Stop}
use Rattle.values.specs.declared.Stop.TheVariants.{Refused, Stray}
use Rattle.values.specs.Values.{Tested, stopped, tested}
use Rattle.evaluator.specs.Slices.{Slices, sight_of, booleans_of}
use Rattle.explanation.specs.declared.rows.Noted.{Noted}
use Rattle.explanation.specs.Explanation.{Explained, settles, needed, joined, turned, as_test}
use Rattle.explanation.specs.Internal.Walk.{test_at, explain_under, explain_at}
use Rattle.explanation.specs.Internal.Noting.{packed, rows_of, Keeps, truth_at, Lays, Notes, explains, under}
use Rattle.explanation.proofs.Link.{explain_below, explain-level, explain-by}
use Rattle.explanation.proofs.RowLaws.{kept-between, kept-laid}

-- ---- a walk that comes to an end, and one that stops

-- what is explained by a walk that comes out as a truth value, at a place
pub record Done (w : Walked Explained) (y : Truth) (q : ℕ) : Type 0 where
  pub is : Explained
  pub there : w ≡ at is q
  pub truth : is.truth ≡ y

pub done : (w : Walked Explained) {y : Truth} {q : ℕ} → at y q ≡ truth_at w → Done w y q
done (at x e) {y} {q} h =
    let z : e ≡ q = cc in
    let u : x.truth ≡ y = cc in
    record { is = x; there = ap (at x) z; truth = u }
done (fault f p) h = absurd-eq (cc)
done astray h = absurd-eq (cc)

stops : (w : Walked Explained) (s : Stop) (f : Explained → ℕ → Walked Explained) → stopped s ≡ truth_at w → stopped s ≡ truth_at (w ▷ f)
stops (at x e) (Refused g p) f h = absurd-eq (cc)
stops (at x e) Stray f h = absurd-eq (cc)
stops (fault g p) s f h = h
stops astray s f h = h

module _ {n : ℕ} {t t' : List ℕ} where
  pub stop-noted : {w : Walked Explained} (s : Stop) (f : Explained → ℕ → Walked Explained) → Notes w n t t' (Err s) →
      Notes (w ▷ f) n t t' (Err s)
  stop-noted {w} s f h = record { truth = stops w s f h.truth; same = h.same; lays = tt }

pub stray-noted : (w : Walked Explained) (n : ℕ) (t : List ℕ) → astray ≡ w → Notes w n t t (Err Stray)
stray-noted w n t e = record { truth = ap truth_at e; same = refl; lays = tt }

-- how many rows are laid
pub rows_are : {w : Walked Explained} {n : ℕ} {t t' : List ℕ} {a : Noted} → Notes w n t t' (Ok a) → n ≤ length t → (x : Explained) (e : ℕ) →
    w ≡ at x e → a.rows ≡ n + length x.tests
rows_are {w} {n} {t} {t'} {a = r} h room x e i =
    let l = h.lays in
    let a = length-take-le r.rows t' (omega (arith, l.within, h.same)) in
    let b = length-take-le n t room in
    let c = length-append (take n t) (rows_of x.tests) in
    let d = length-map x.tests packed in
    let f = ap length (l.laid x e i) in
    omega (arith, a, b, c, d, f)

-- ---- one test

module _ (p n : ℕ) (t : List ℕ) (room : n ≤ length t) where
  abbrev tests-at : Walked Truth → Walked Explained
  tests-at m = test_at (ltb n (length t)) p m

  pub test-stopped : (s : Stop) → Notes (tests-at (stopped s)) n t t (Err s)
  test-stopped (Refused f q) = record { truth = refl; same = refl; lays = tt }
  test-stopped Stray = record { truth = refl; same = refl; lays = tt }

  module _ (x : Truth) (e : ℕ) where
    pub full-noted : length t ≤ n → Notes (tests-at (at x e)) n t t (Err Stray)
    full-noted h = stray-noted (tests-at (at x e)) n t (sym (ap (λ free. test_at free p (at x e)) (le-ltb n (length t) h)))

    pub test-noted : {v : ℕ} {t' : List ℕ} → n < length t → v ≡ packed (record { place = p; outcome = x }) → t' ≡ set t n v →
        Notes (tests-at (at x e)) n t t' (Ok (record { truth = x; end = e; rows = n + 1 }))
    test-noted {v} {t'} h k put =
        let is : at (as_test p x) e ≡ tests-at (at x e) = sym (ap (λ free. test_at free p (at x e)) (lt-ltb n (length t) h)) in
        let one : n + 1 ≡ suc n = omega arith in
        record {
          truth = ap truth_at is;
          same = ap length put ∙ length-set t n v;
          lays = record {
            no_fewer = omega arith;
            within = omega (arith, h);
            laid = λ y q j.
                let z : as_test p x ≡ y = cc in
                ap (λ m. take m t') one ∙ ap (take (suc n)) (put ∙ ap (set t n) k)
                ∙ take-suc-set t n (packed (record { place = p; outcome = x })) h ∙ ap (λ v. take n t ++ rows_of v.tests) z;
          };
        }

-- ---- a boolean at a place

zero-boolean : boolean_class 0 ≡ foreign
unfolding boolean_class classify among any_of
zero-boolean = refl

-- a code that is due stands before the end
boolean-inside : (s : List ℕ) (p : ℕ) (k : BooleanCode) → boolean_class (byte_at s p) ≡ due k → p < length s
boolean-inside s p k e =
    let n : length s ≤ p → ⊥ = λ h. let z = ap boolean_class (past s p h) in let y = zero-boolean in absurd-eq (cc) in
    omega (arith, n)

-- the class of a code by what the code answers
class-due : (x : Class BooleanCode) {k : BooleanCode} → Ok k ≡ class_of x → due k ≡ x
class-due (due u) e = cc
class-due left_out e = absurd cc
class-due foreign e = absurd cc

class-not : (x : Class BooleanCode) {z : NotDue} (f : BooleanCode → Walked Explained) → Err z ≡ class_of x → astray ≡ on_class x f
class-not (due u) f e = absurd cc
class-not left_out f e = refl
class-not foreign f e = refl

module _ (g : Slices) (rows l n p : ℕ) (t : List ℕ) where
  pub no-level-noted : l ≡ 0 → Notes (explains g rows l n p) n t t (Err Stray)
  no-level-noted e =
      stray-noted (explains g rows l n p) n t
      (sym (ap (λ z. explains g rows z n p) e ∙ explain-level (sight_of g) g.bindings rows g.request n p))

  module _ {b : ℕ} (level : l ≡ 0 → ⊥) (is : b ≡ byte_at g.request p) where
    by-class : (c : Class BooleanCode) → c ≡ boolean_class (byte_at g.request p) →
        explains g rows l n p ≡ on_class c (λ k. explain_below (sight_of g) g.bindings rows l g.request n p k)
    by-class c e = explain-by (sight_of g) g.bindings rows g.request l n p c level e

    pub undue-noted : {z : NotDue} → Err z ≡ class_of (boolean_class b) → Notes (explains g rows l n p) n t t (Err Stray)
    undue-noted e =
        stray-noted (explains g rows l n p) n t
        (class-not (boolean_class b) (λ k. explain_below (sight_of g) g.bindings rows l g.request n p k) e
        ∙ sym (by-class (boolean_class b) (ap boolean_class is)))

    module _ {k : BooleanCode} (e : Ok k ≡ class_of (boolean_class b)) where
      class-is : due k ≡ boolean_class (byte_at g.request p)
      class-is = class-due (boolean_class b) e ∙ ap boolean_class is

      pub due-inside : p < length g.request
      due-inside = boolean-inside g.request p k (sym class-is)

      pub due-noted : {t' : List ℕ} {r : Result Noted Stop} → Notes (under g rows l n p k) n t t' r → Notes (explains g rows l n p) n t t' r
      due-noted {t'} {r} h = subst (λ w. Notes w n t t' r) (sym (by-class (due k) class-is)) h

-- ---- a boolean that is one test

-- every code but or, and and not
abbrev Single : BooleanCode → Type 0
Single k =
    ((x : Comparison) × (k ≡ Boolean.Compare x)) ⊎ (((x : TextSearch) × (k ≡ Boolean.Search x)) ⊎
    ((k ≡ Boolean.Between) ⊎ ((k ≡ Boolean.Missing) ⊎ ((x : Quantifier) × (k ≡ Boolean.Quantify x)))))

single-is : (g : Slices) (rows l n p : ℕ) (k : BooleanCode) → Single k → under g rows l n p k ≡ test_at (ltb n rows) p (booleans_of g l p)
unfolding explain_under
single-is g rows l n p k (inl (x, e)) = rw e
single-is g rows l n p k (inr (inl (x, e))) = rw e
single-is g rows l n p k (inr (inr (inl e))) = rw e
single-is g rows l n p k (inr (inr (inr (inl e)))) = rw e
single-is g rows l n p k (inr (inr (inr (inr (x, e))))) = rw e

pub single-noted : (g : Slices) (rows l n p : ℕ) (k : BooleanCode) {t t' : List ℕ} {r : Result Noted Stop} (walk : Tested) → Single k →
    tested walk ≡ booleans_of g l p → Notes (test_at (ltb n rows) p (tested walk)) n t t' r → Notes (under g rows l n p k) n t t' r
single-noted g rows l n p k {t} {t'} {r} walk s e h =
    subst (λ w. Notes w n t t' r) (ap (test_at (ltb n rows) p) e ∙ sym (single-is g rows l n p k s)) h

-- ---- a not

module _ {n : ℕ} {t t' : List ℕ} where
  turned-at : (x : Explained) (e : ℕ) {a : Noted} {u : Truth} → Notes (at x e) n t t' (Ok a) → u ≡ opposite a.truth →
      Notes (at (turned x) e) n t t' (Ok (record { truth = u; end = a.end; rows = a.rows }))
  turned-at x e {a} h k =
      let l = h.lays in
      record {
        truth = ap (λ z. at z a.end) k ∙ ap (λ z. z ▷ (λ y e. at (opposite y) e)) h.truth;
        same = h.same;
        lays = record {
          no_fewer = l.no_fewer;
          within = l.within;
          laid = λ y q i. let z : turned x ≡ y = cc in l.laid x e refl ∙ ap (λ v. take n t ++ rows_of v.tests) z;
        };
      }

  pub turned-noted : {w : Walked Explained} {a : Noted} {u : Truth} → Notes w n t t' (Ok a) → u ≡ opposite a.truth →
      Notes (w ▷ (λ x e. at (turned x) e)) n t t' (Ok (record { truth = u; end = a.end; rows = a.rows }))
  turned-noted {w} {a} {u} h k =
      let d = done w h.truth in
      let r : Result Noted Stop = Ok (record { truth = u; end = a.end; rows = a.rows }) in
      subst (λ z. Notes (z ▷ (λ x e. at (turned x) e)) n t t' r) (sym d.there)
      (turned-at d.is a.end (subst (λ z. Notes z n t t' (Ok a)) d.there h) k)

-- ---- both sides of an and or an or

module _ (c : Connective) (after : ℕ → ℕ → ℕ → Walked Explained) {n : ℕ} {t₀ t₁ : List ℕ} {w : Walked Explained} {a : Noted}
    (room : n ≤ length t₀) (h₁ : Notes w n t₀ t₁ (Ok a)) where
  abbrev both : Walked Explained → Walked Explained
  both w = w ▷ (λ x q. after (length t₀) (n + length x.tests) q ▷ (λ y e. at (joined c x y) e))

  first : Done w a.truth a.end
  first = done w h₁.truth

  -- the second side, where the first has laid its rows
  abbrev second : Walked Explained
  second = after (length t₀) (n + length first.is.tests) a.end

  second-here : {t₂ : List ℕ} {r : Result Noted Stop} → Notes (after (length t₁) a.rows a.end) a.rows t₁ t₂ r → Notes second a.rows t₁ t₂ r
  second-here {t₂} {r} h =
      let m : a.rows ≡ n + length first.is.tests = rows_are h₁ room first.is a.end first.there in
      subst (λ z. Notes z a.rows t₁ t₂ r) (ap₂ (λ k l. after k l a.end) h₁.same m) h

  pub second-stops : {t₂ : List ℕ} (s : Stop) → Notes (after (length t₁) a.rows a.end) a.rows t₁ t₂ (Err s) → Notes (both w) n t₀ t₂ (Err s)
  second-stops {t₂} s h =
      let k = second-here h in
      subst (λ z. Notes (both z) n t₀ t₂ (Err s)) (sym first.there)
      (record { truth = stops second s (λ y e. at (joined c first.is y) e) k.truth; same = k.same ∙ h₁.same; lays = tt })

  module _ {t₂ t₃ : List ℕ} {b : Noted} {f g : Bool} {u : Truth} {j : ℕ} (h : Notes (after (length t₁) a.rows a.end) a.rows t₁ t₂ (Ok b))
      (f-is : f ≡ settles c a.truth) (g-is : g ≡ settles c b.truth) (kept : Keeps f g n a.rows b.rows t₂ t₃ j)
      (v : u ≡ connected c a.truth b.truth) where
    h₂ : Notes second a.rows t₁ t₂ (Ok b)
    h₂ = second-here h

    last : Done second b.truth b.end
    last = done second h₂.truth

    sides-at : Notes (at (joined c first.is last.is) b.end) n t₀ t₃ (Ok (record { truth = u; end = b.end; rows = j }))
    unfolding joined
    sides-at =
        let l = h₁.lays in
        let m = h₂.lays in
        let k = kept-between f g n a.rows b.rows l.no_fewer m.no_fewer in
        let i = kept.count in
        let fst : f ≡ settles c first.is.truth = f-is ∙ ap (settles c) (sym first.truth) in
        let snd : g ≡ settles c last.is.truth = g-is ∙ ap (settles c) (sym last.truth) in
        let rows = kept-laid first.is.tests last.is.tests n a.rows b.rows t₀ t₁ t₂ room l.no_fewer m.no_fewer (omega (arith, l.within, h₁.same))
        (l.laid first.is a.end first.there) (m.laid last.is b.end last.there) f g in
        record {
          truth = ap (λ z. at z b.end) (v ∙ ap₂ (connected c) (sym first.truth) (sym last.truth));
          same = kept.same ∙ h₂.same ∙ h₁.same;
          lays = record {
            no_fewer = omega (arith, i, k.0);
            within = omega (arith, i, k.1, m.within, h₁.same);
            laid = λ r d e.
                let z : joined c first.is last.is ≡ r = cc in
                kept.table ∙ rows ∙ (λ x. take n t₀ ++ rows_of (needed (fst x) (snd x) first.is.tests last.is.tests))
                ∙ ap (λ v. take n t₀ ++ rows_of v.tests) z;
          };
        }

    pub sides-noted : Notes (both w) n t₀ t₃ (Ok (record { truth = u; end = b.end; rows = j }))
    sides-noted =
        let r : Result Noted Stop = Ok (record { truth = u; end = b.end; rows = j }) in
        subst (λ z. Notes (both z) n t₀ t₃ r) (sym first.there)
        (subst (λ z. Notes (z ▷ (λ y e. at (joined c first.is y) e)) n t₀ t₃ r) (sym last.there) sides-at)
