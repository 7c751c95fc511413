-- At a whole condition or from-value: the rows of the contexts in scope there, then its own, then rows that are not there. Assumes nothing.
use Prim.Native.Nat.{ℕ, ◌<◌}
use mathlib.Core.Path.{◌≡◌, refl, ap, ◌∙◌}
use mathlib.Core.Bool.{Bool, true, false, cond, ◌&&◌}
use mathlib.Core.List.{List, [], ◌∷◌, ◌++◌}
use mathlib.Core.Option.{Option, none, some}
use native.Mathlib.Omega.{arith}
use lib.Dec.{eqb}
use borrow.Author.Tests.{eq-eqb, ne_eqb}
use Rattle.wire.specs.Lists.{find}
use Rattle.grammar.specs.Environment.{Context, Scope, context_of}
use Rattle.kinds.specs.Spans.{Span, holds, coded_at}
use Rattle.kinds.specs.Scoped.{Same, Scoped}
use Rattle.kinds.proofs.Finds.{find-over, find-kept}

-- spans of contexts in scope at the condition
abbrev pub Outer : List Span → Type 0
Outer [] = Unit {0}
Outer (x ∷ xs) = (x.code ≡ 0) × Outer xs

and-true : (a : Bool) → a && true ≡ a
and-true true = refl
and-true false = refl

outer-holds : (c at : ℕ) (xs : List Span) → Outer xs → find (holds c at) xs ≡ find (λ x. eqb x.number c) xs
unfolding find
outer-holds c at [] o = refl
outer-holds c at (x ∷ xs) o =
    rw (eq-eqb x.code 0 o.0, and-true (eqb x.number c)) (ap (λ (r : Option Span). cond (eqb x.number c) (some x) r) (outer-holds c at xs o.1))

outer-free : (at : ℕ) → 0 < at → (xs : List Span) → Outer xs → find (coded_at at) xs ≡ none
unfolding find
outer-free at h [] o = refl
outer-free at h (x ∷ xs) o = let z = o.0 in rw (ne_eqb x.code at (λ e. absurd (omega (arith, e, z, h)))) (outer-free at h xs o.1)

-- those in scope first, then the own, then rows that are not there
pub scoped_start : (d : List ℕ) (outer own more : List Span) (sc : Scope) (p q : ℕ) → Outer outer → Outer more → 0 < p →
    ((c : ℕ) (y : Context) → context_of sc c ≡ some y → Same d (find (λ x. eqb x.number c) outer) y) →
    ((c : ℕ) → context_of sc c ≡ none → find (λ x. eqb x.number c) outer ≡ none) → Scoped d (outer ++ (own ++ more)) own sc p q
scoped_start d outer own more sc p q o w z same gone =
    record {
      before = outer;
      behind = more;
      all_are = refl;
      placed = z;
      agree = λ c at h k y e.
          let f = same c y e in
          record {
            span = f.span;
            r = f.r;
            found = find-kept (holds c at) outer more f.span (outer-holds c at outer o ∙ f.found);
            relation_is = f.relation_is;
            entry_is = f.entry_is;
          };
      absent = λ c at h k e. outer-holds c at outer o ∙ gone c e;
      free = λ at h k.
          find-over (coded_at at) outer more (outer-free at (omega (arith, z, h)) outer o) ∙ outer-free at (omega (arith, z, h)) more w;
    }
