-- Numbers of which none stands twice: by the numbers before each, as reading tests them, and as the rules say it.
use Prim.Native.Nat.{ℕ}
use mathlib.Core.Path.{◌≡◌, refl, sym, ap, subst, ◌∙◌}
use mathlib.Core.Bool.{Bool, true, false, cond, ◌||◌, false≢true}
use mathlib.Core.List.{List, [], ◌∷◌, ◌++◌, append_assoc, append-nil}
use mathlib.Core.Option.{some, none}
use lib.Dec.{eqb}
use borrow.Author.Tests.{eqb-false, ne_eqb}
use Rattle.wire.specs.Lists.{any_of, among, find, is_some}
use Rattle.dictionary.specs.Dictionary.{Relation}
use Rattle.grammar.specs.Tree.{Message, Stream}
use Rattle.grammar.specs.Environment.{Scope, context_of, stream_context, under_streams}
use Rattle.grammar.specs.Scope.{in_scope, Unique, message_numbers, StreamScoped, EachScoped, stream_contexts, StreamsScoped}

-- ---- tests

-- neither of two tests
pub neither : (a b : Bool) → a || b ≡ false → (a ≡ false) × (b ≡ false)
neither true b e = absurd (false≢true (sym e))
neither false b e = (refl, e)

both_false : (a b : Bool) → a ≡ false → b ≡ false → a || b ≡ false
both_false a b e f = rw (e, f)

-- two numbers that differ, the other way round
other : (a b : ℕ) → eqb a b ≡ false → eqb b a ≡ false
other a b e = ne_eqb b a (λ h. eqb-false a b e (sym h))

any_append : {A : Type 0} (test : A → Bool) (l r : List A) → any_of test (l ++ r) ≡ any_of test l || any_of test r
unfolding any_of
any_append test [] r = refl
any_append test (x ∷ l) r = rw (any_append test l r) (regroup (test x) (any_of test l) (any_of test r))
  where
    regroup : (a b c : Bool) → a || (b || c) ≡ (a || b) || c
    regroup true b c = refl
    regroup false b c = refl

-- ---- each beside those before it

abbrev pub Fresh : List ℕ → List ℕ → Type 0
Fresh before [] = Unit {0}
Fresh before (x ∷ l) = (among x before ≡ false) × Fresh (before ++ (x ∷ [])) l

-- one number more at the end
pub unique-last : (l : List ℕ) (x : ℕ) → among x l ≡ false → Unique l → Unique (l ++ (x ∷ []))
unfolding among any_of
unique-last [] x a u = (refl, tt)
unique-last (y ∷ l) x a u =
    let t = neither (eqb y x) (among x l) a in
    let last : eqb x y || false ≡ false = both_false (eqb x y) false (other y x t.0) refl in
    (any_append (λ z. eqb z y) l (x ∷ []) ∙ both_false (among y l) (eqb x y || false) u.0 last, unique-last l x t.1 u.1)

-- a number in the middle is not among those before it
unique-first : (l : List ℕ) (x : ℕ) (r : List ℕ) → Unique (l ++ (x ∷ r)) → among x l ≡ false
unfolding among any_of
unique-first [] x r u = refl
unique-first (y ∷ l) x r u =
    let t = neither (among y l) (eqb x y || among y r) (sym (any_append (λ z. eqb z y) l (x ∷ r)) ∙ u.0) in
    let v = neither (eqb x y) (among y r) t.1 in
    both_false (eqb y x) (among x l) (other x y v.0) (unique-first l x r u.1)

fresh-after : (before l : List ℕ) → Fresh before l → Unique before → Unique (before ++ l)
fresh-after before [] f u = subst Unique (sym (append-nil before)) u
fresh-after before (x ∷ l) f u =
    subst Unique (append_assoc before (x ∷ []) l) (fresh-after (before ++ (x ∷ [])) l f.1 (unique-last before x f.0 u))

pub fresh-unique : (l : List ℕ) → Fresh [] l → Unique l
fresh-unique l f = fresh-after [] l f tt

pub unique-after : (before l : List ℕ) → Unique (before ++ l) → Fresh before l
unique-after before [] u = tt
unique-after before (x ∷ l) u =
    (unique-first before x l u, unique-after (before ++ (x ∷ [])) l (subst Unique (sym (append_assoc before (x ∷ []) l)) u))

-- ---- messages

pub any-number : (n : ℕ) (ms : List Message) → any_of (λ x. eqb x.number n) ms ≡ among n (message_numbers ms)
unfolding among any_of
any-number n [] = refl
any-number n (m ∷ ms) = rw (any-number n ms)

-- ---- streams, each in the scope with the contexts of those before it

abbrev pub Grown : List Relation → ℕ → Scope → List Stream → Type 0
Grown d o sc [] = Unit {0}
Grown d o sc (s ∷ ss) = StreamScoped d sc s × Grown d o (under_streams d o sc (s ∷ [])) ss

found-last : {A : Type 0} (test : A → Bool) (l : List A) (x : A) → is_some (find test (l ++ (x ∷ []))) ≡ is_some (find test l) || test x
unfolding find
found-last test [] x = by (test x)
  where
    by : (b : Bool) → is_some (cond b (some x) none) ≡ b
    by true = refl
    by false = refl
found-last test (y ∷ l) x = by (test y) (found-last test l x)
  where
    by : (b : Bool) → is_some (find test (l ++ (x ∷ []))) ≡ is_some (find test l) || test x →
        is_some (cond b (some y) (find test (l ++ (x ∷ [])))) ≡ is_some (cond b (some y) (find test l)) || test x
    by true e = refl
    by false e = e

-- a context is in scope below a stream if it is so around it or is the stream's
in-below : (d : List Relation) (o : ℕ) (sc : Scope) (s : Stream) (k : ℕ) → in_scope (under_streams d o sc (s ∷ [])) k ≡ in_scope sc k || eqb s.context k
unfolding in_scope context_of under_streams
in-below d o sc s k = found-last (λ x. eqb x.number k) sc.contexts (stream_context d o s)

module _ (d : List Relation) (o : ℕ) where
  together : (sc : Scope) (s : Stream) (ss : List Stream) → EachScoped d sc ss → among s.context (stream_contexts ss) ≡ false →
      EachScoped d (under_streams d o sc (s ∷ [])) ss
  unfolding among any_of
  together sc s [] e a = tt
  together sc s (t ∷ ts) e a =
      let v = neither (eqb t.context s.context) (among s.context (stream_contexts ts)) a in
      let free = both_false (in_scope sc t.context) (eqb s.context t.context) e.0.1 (other t.context s.context v.0) in
      ((e.0.0, in-below d o sc s t.context ∙ free), together sc s ts e.1 v.1)

  pub scoped-grown : (sc : Scope) (ss : List Stream) → StreamsScoped d sc ss → Grown d o sc ss
  scoped-grown sc [] w = tt
  scoped-grown sc (s ∷ ss) w =
      (w.0.0, scoped-grown (under_streams d o sc (s ∷ [])) ss (together sc s ss w.0.1 w.1.0, w.1.1))

  apart : (sc : Scope) (s : Stream) (ss : List Stream) → EachScoped d (under_streams d o sc (s ∷ [])) ss →
      EachScoped d sc ss × (among s.context (stream_contexts ss) ≡ false)
  unfolding among any_of
  apart sc s [] e = (tt, refl)
  apart sc s (t ∷ ts) e =
      let i = apart sc s ts e.1 in
      let v = neither (in_scope sc t.context) (eqb s.context t.context) (sym (in-below d o sc s t.context) ∙ e.0.1) in
      (((e.0.0, v.0), i.0), both_false (eqb t.context s.context) _ (other s.context t.context v.1) i.1)

  pub grown-scoped : (sc : Scope) (ss : List Stream) → Grown d o sc ss → StreamsScoped d sc ss
  grown-scoped sc [] g = (tt, tt)
  grown-scoped sc (s ∷ ss) g =
      let i = grown-scoped (under_streams d o sc (s ∷ [])) ss g.1 in
      let j = apart sc s ss i.0 in
      ((g.0, j.0), (j.1, i.1))
