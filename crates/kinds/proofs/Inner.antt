-- From what stands between two places to its parts: the contexts in scope stay, and one more is in scope below the stream of an any, a unique
-- or a statistic. Assumes nothing.
use Prim.Native.Nat.{ℕ, ◌<◌, ◌≤◌}
use mathlib.Core.Path.{◌≡◌, refl, sym, ap, subst, ◌∙◌}
use mathlib.Core.Bool.{Bool, true, false}
use mathlib.Core.List.{List, [], ◌∷◌, ◌++◌, append_assoc}
use mathlib.Core.Option.{Option, none, some}
use native.Mathlib.Omega.{arith}
use lib.Dec.{eqb}
use borrow.Author.Tests.{eqb-true, eq-eqb, ne_eqb}
use Rattle.wire.specs.Lists.{find}
use Rattle.dictionary.specs.Dictionary.{Relation}
use Rattle.dictionary.specs.Internal.Walk.{relation_at}
use Rattle.grammar.specs.Environment.{Context, Scope, context_of, with_contexts}
use Rattle.grammar.proofs.StepLaws.{absurd-eq}
use Rattle.kinds.specs.Spans.{Span, holds, coded_at, span_around, span_coded}
use Rattle.kinds.specs.Scoped.{Same, Between, Scoped}
use Rattle.kinds.proofs.Finds.{find-over, find-skip, find_first, find-here, find-more, find_none}
use Rattle.kinds.proofs.Reaches.{covers-inside, none_before, none-behind, no-code-before, no-code-behind}

module _ (d : List ℕ) (all : List Span) (sc : Scope) where
  -- between nearer places
  pub nearer : (own : List Span) (p q m n : ℕ) → Scoped d all own sc p q → p ≤ m → n ≤ q → Scoped d all own sc m n
  nearer own p q m n h i j =
      let z = h.placed in
      record {
        before = h.before;
        behind = h.behind;
        all_are = h.all_are;
        placed = omega (arith, z, i);
        agree = λ c at k l. h.agree c at (omega (arith, i, k)) (omega (arith, j, l));
        absent = λ c at k l. h.absent c at (omega (arith, i, k)) (omega (arith, j, l));
        free = λ at k l. h.free at (omega (arith, i, k)) (omega (arith, j, l));
      }

  module _ (a b : List Span) (p q : ℕ) (h : Scoped d all (a ++ b) sc p q) where
    -- the first of two parts, where the second stands from n on
    pub first_part : (m n : ℕ) → m ≤ n → m ≤ q → p ≤ n → Between n q b → Scoped d all a sc p m
    first_part m n i j k e =
        let z = h.placed in
        record {
          before = h.before;
          behind = b ++ h.behind;
          all_are = h.all_are ∙ ap (λ l. h.before ++ l) (append_assoc a b h.behind);
          placed = h.placed;
          agree = λ c at r l y f.
              subst (λ o. Same d o y)
              (sym (find-skip (holds c at) h.before b h.behind (none_before n q (omega (arith, z, k)) c at b e (omega (arith, l, i)))))
              (h.agree c at r (omega (arith, l, j)) y f);
          absent = λ c at r l. h.absent c at r (omega (arith, l, j));
          free = λ at r l.
              find-skip (coded_at at) h.before b h.behind (no-code-before n q at b e (omega (arith, l, i)))
              ∙ h.free at r (omega (arith, l, j));
        }

    -- the second, from n on, where the first ends at m
    pub second-part : (m n : ℕ) → m ≤ n → p ≤ n → Between p m a → Scoped d all b sc n q
    second-part m n i k e =
        let z = h.placed in
        record {
          before = h.before ++ a;
          behind = h.behind;
          all_are = h.all_are ∙ ap (λ l. h.before ++ l) (append_assoc a b h.behind) ∙ sym (append_assoc h.before a (b ++ h.behind));
          placed = omega (arith, z, k);
          agree = λ c at r l y f.
              subst (λ o. Same d o y)
              (sym (ap (find (holds c at)) (append_assoc h.before a h.behind)
              ∙ find-skip (holds c at) h.before a h.behind (none-behind p m z c at a e (omega (arith, i, r)))))
              (h.agree c at (omega (arith, r, k)) l y f);
          absent = λ c at r l f.
              find-over (holds c at) h.before a (h.absent c at (omega (arith, r, k)) l f)
              ∙ none-behind p m z c at a e (omega (arith, i, r));
          free = λ at r l.
              ap (find (coded_at at)) (append_assoc h.before a h.behind)
              ∙ find-skip (coded_at at) h.before a h.behind (no-code-behind p m at a e (omega (arith, i, r)))
              ∙ h.free at (omega (arith, r, k)) l;
        }

-- ---- one context more

module _ (d : List ℕ) (all : List Span) (sc : Scope) (x : Span) (own : List Span) (p q : ℕ) (h : Scoped d all (x ∷ own) sc p q)
    (code_is : x.code ≡ p) where
  -- the span of the code at p
  pub coded-own : p < q → span_coded all p ≡ some x
  coded-own i =
      ap (find (coded_at p)) h.all_are
      ∙ find-here (coded_at p) h.before x (own ++ h.behind) (find_first (coded_at p) h.before h.behind (h.free p (omega arith) i))
      (eq-eqb x.code p code_is)

  module _ (end_is : x.end ≡ q) (y : Context) (r : Relation) (number_is : x.number ≡ y.number) (relation_is : y.relation ≡ some r)
      (entry_is : relation_at d x.relation ≡ r) (fresh : context_of sc y.number ≡ none) (m : ℕ) (i : p < m) where
    -- a number that it has, and one that it has not
    module _ (c at : ℕ) (k : m ≤ at) (l : at < q) where
      abbrev around : Option Span
      around = span_around ((h.before ++ (x ∷ [])) ++ h.behind) c at

      abbrev inside : Option Context
      inside = context_of (with_contexts sc (y ∷ [])) c

      own-context : x.number ≡ c → inside ≡ some y
      unfolding context_of
      own-context n =
          find-here (λ (z : Context). eqb z.number c) sc.contexts y [] (ap (context_of sc) (sym n ∙ number_is) ∙ fresh)
          (eq-eqb y.number c (sym number_is ∙ n))

      own-span : x.number ≡ c → around ≡ some x
      own-span n =
          let z = h.placed in
          let f : span_around h.before c at ≡ none =
          h.absent c at (omega (arith, i, k)) l (ap (context_of sc) (sym n ∙ number_is) ∙ fresh) in
          let g : holds c at x ≡ true =
          rw (eq-eqb x.number c n) (covers-inside x at (omega (arith, code_is, z)) (omega (arith, code_is, i, k)) (omega (arith, end_is, l))) in
          ap (find (holds c at)) (append_assoc h.before (x ∷ []) h.behind) ∙ find-here (holds c at) h.before x h.behind f g

      not-held : eqb x.number c ≡ false → holds c at x ≡ false
      not-held e = rw e

      same-context : eqb x.number c ≡ false → inside ≡ context_of sc c
      unfolding context_of
      same-context e = find-more (λ (z : Context). eqb z.number c) sc.contexts y (ap (λ n. eqb n c) (sym number_is) ∙ e)

      agree-by : (b : Bool) → eqb x.number c ≡ b → (w : Context) → inside ≡ some w → Same d around w
      agree-by true e w f =
          let n = eqb-true x.number c e in
          let g : some y ≡ some w = sym (own-context n) ∙ f in
          let v : y ≡ w = cc in
          subst (Same d around) v
          (record { span = x; r = r; found = own-span n; relation_is = relation_is; entry_is = entry_is })
      agree-by false e w f =
          subst (λ o. Same d o w)
          (sym (ap (find (holds c at)) (append_assoc h.before (x ∷ []) h.behind)
          ∙ find-skip (holds c at) h.before (x ∷ []) h.behind (find_none (holds c at) x (not-held e))))
          (h.agree c at (omega (arith, i, k)) l w (sym (same-context e) ∙ f))

      absent_by : (b : Bool) → eqb x.number c ≡ b → inside ≡ none → span_around (h.before ++ (x ∷ [])) c at ≡ none
      absent_by true e f = let g : some y ≡ none = sym (own-context (eqb-true x.number c e)) ∙ f in absurd-eq (cc)
      absent_by false e f =
          find-more (holds c at) h.before x (not-held e) ∙ h.absent c at (omega (arith, i, k)) l (sym (same-context e) ∙ f)

    -- below its stream, from a place after the code on
    pub below : Scoped d all own (with_contexts sc (y ∷ [])) m q
    below =
        let z = h.placed in
        record {
          before = h.before ++ (x ∷ []);
          behind = h.behind;
          all_are = h.all_are ∙ sym (append_assoc h.before (x ∷ []) (own ++ h.behind));
          placed = omega (arith, i);
          agree = λ c at k l. agree-by c at k l (eqb x.number c) refl;
          absent = λ c at k l. absent_by c at k l (eqb x.number c) refl;
          free = λ at k l.
              ap (find (coded_at at)) (append_assoc h.before (x ∷ []) h.behind)
              ∙ find-skip (coded_at at) h.before (x ∷ []) h.behind
              (find_none (coded_at at) x (ne_eqb x.code at (λ e. absurd (omega (arith, e, code_is, i, k)))))
              ∙ h.free at (omega (arith, i, k)) l;
        }
