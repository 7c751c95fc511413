-- Each way through the code of the walk gives what the walk gives there.
use Prim.Native.Nat.{ℕ, zero, suc, ◌+◌, ◌-◌, ◌^◌, ◌<◌, min}
use mathlib.Core.Path.{◌≡◌, refl, sym, ap, ap₂, ◌∙◌}
use lib.IntN.{ℤ}
use lib.ListN.{length}
use lib.Signed.{mag}
use mir.Syntax.{w8, w64}
use mir.Val.{to_z, of_z}
use Rattle.std.specs.Prelude.{Option as Maybe, None, Some, IfSome, Result, Ok, Err}
use Rattle.wire.specs.Words.{byte_at}
use Rattle.wire.specs.Classes.{Class, due, left_out, foreign, value_class, boolean_class}
use Rattle.wire.specs.Versions.{version_of}
use Rattle.wire.specs.declared.codes.Version.{Version}
use Rattle.wire.specs.declared.codes.Operator.{Operator}
use Rattle.wire.specs.declared.codes.Comparison.{Comparison}
use Rattle.wire.specs.declared.codes.TextSearch.{TextSearch}
use Rattle.wire.specs.declared.codes.Connective.{Connective}
use Rattle.wire.specs.declared.codes.ReferenceCode.{ReferenceCode}
use Rattle.wire.specs.declared.codes.ValueCode.{ValueCode}
use Rattle.wire.specs.declared.codes.ValueCode.TheVariants as Value
use Rattle.wire.specs.declared.codes.BooleanCode.{BooleanCode}
use Rattle.wire.specs.declared.codes.BooleanCode.TheVariants as Boolean
use Rattle.classes.specs.declared.NotDue.{NotDue}
use Rattle.classes.specs.Classes.{class_of}
use Rattle.decimal.proofs.Bits.{read_back}
use Rattle.grammar.proofs.StepLaws.{absurd-eq}
use Rattle.meaning.specs.declared.Truth.{Truth}
use Rattle.meaning.specs.Data.{Datum, arithmetic_of, negate_of, compare_of, search_of, between_of, missing_of, connected, opposite}
use Rattle.walking.specs.Walk.{Walked, at, astray, ◌▷◌, ended, on_class, literal_at, reference_at, value_under, boolean_under}
use Rattle.walking.proofs.Laws.{second-after, third-after, no-further, value-level, value-by, value-past, value-inside, boolean-level, boolean-by, boolean-past}
use Rattle.values.specs.declared.Stop.{Stop}
use Rattle.values.specs.declared.Stop.TheVariants as Stop
use Rattle.values.specs.declared.Value.{Value as Held}
use Rattle.values.specs.Values.{Valued, Tested, datum, stopped, valued, tested}
use Rattle.values.specs.Numbers.{number_of}
use Rattle.inputs.specs.declared.singles.Two.{Two}
use Rattle.inputs.specs.Singles.{Numbers}
use Rattle.inputs.proofs.LiteralLaws.{no-literal}
use Rattle.evaluator.specs.Slices.{Slices, InTurn, TwoAfter, lent_of, parameters_of, fetched_by, sight_of, values_of, booleans_of, runs_of, under_of}

-- a number whose value and scale are read back from their bits
pub number-back : (x s : ℤ) → mag x < 2 ^ 63 → mag s < 2 ^ 7 → number_of (to_z w64 (of_z w64 x)) (to_z w8 (of_z w8 s)) ≡ number_of x s
number-back x s h i = ap₂ number_of (read_back w64 x h) (read_back w8 s i)

-- a code that is due, and one that is not
code-due : {A : Type 0} (c : Class A) (k : A) → class_of c ≡ Ok k → c ≡ due k
code-due (due x) k e = cc
code-due left_out k e = absurd-eq (cc)
code-due foreign k e = absurd-eq (cc)

code-not : {A B : Type 0} (c : Class A) (n : NotDue) (f : A → Walked B) → class_of c ≡ Err n → on_class c f ≡ astray
code-not (due x) n f e = absurd-eq (cc)
code-not left_out n f e = refl
code-not foreign n f e = refl

-- a walk that stopped goes no further
stops : {A B : Type 0} (s : Stop) (f : A → ℕ → Walked B) → stopped s ≡ (stopped s ▷ f)
stops (Stop.Refused r p) f = refl
stops Stop.Stray f = refl

module _ (g : Slices) where
  abbrev next : ℕ → ℕ
  next p = min (p + 1) (length g.request)

  -- ---- a value at a place

  pub no-level : (l p : ℕ) → l ≡ 0 → astray ≡ values_of g l p
  no-level l p e = sym (ap (λ z. values_of g z p) e ∙ value-level (sight_of g) g.bindings g.request p)

  module _ (l p : ℕ) {b : ℕ} {x : Result ValueCode NotDue} (level : l ≡ 0 → ⊥) (is : b ≡ byte_at g.request p)
      (class : x ≡ class_of (value_class b)) where
    by-class : values_of g l p ≡ on_class (value_class b) (λ k. under_of g (l - 1) p k)
    by-class = value-by (sight_of g) g.bindings g.request l p (value_class b) level (ap value_class is)

    pub no_value : {n : NotDue} → x ≡ Err n → astray ≡ values_of g l p
    no_value {n} e = sym (by-class ∙ code-not (value_class b) n (λ k. under_of g (l - 1) p k) (sym class ∙ e))

    pub due-value : {k : ValueCode} {r : Walked Datum} → x ≡ Ok k →
        (p < length g.request → r ≡ under_of g (l - 1) p k) → r ≡ values_of g l p
    due-value {k} e h =
        let d = code-due (value_class b) k (sym class ∙ e) in
        h (value-inside g.request p k (ap value_class (sym is) ∙ d)) ∙ sym (by-class ∙ rw d)

  -- the value after a byte
  next-value : (l p : ℕ) {q : ℕ} {a : Walked Datum} → q ≡ next p → a ≡ values_of g l q → a ≡ values_of g l (p + 1)
  next-value l p n i = i ∙ ap (values_of g l) n ∙ no-further g.request (values_of g l) (value-past (sight_of g) g.bindings g.request l) (p + 1)

  -- ---- a value under its code

  module _ (l p : ℕ) where
    abbrev under : ValueCode → Walked Datum
    under k = under_of g l p k

    module _ (k : ValueCode) where
      pub same_value : {j : ValueCode} {r : Walked Datum} → k ≡ j → r ≡ under j → r ≡ under k
      same_value e h = h ∙ ap under (sym e)

      pub literal-is : {q : ℕ} {r : Walked Datum} → k ≡ Value.Literal → q ≡ next p → r ≡ literal_at g.request q → r ≡ under k
      unfolding value_under
      literal-is e n h =
          same_value e
          (h ∙ ap (literal_at g.request) n ∙ no-further g.request (literal_at g.request) (λ z m. sym (no-literal g.request z m)) (p + 1))

      pub reference-is : {c : ReferenceCode} {r : Walked Datum} → k ≡ Value.Reference c → r ≡ reference_at (fetched_by g) g.request p c → r ≡ under k
      unfolding value_under
      reference-is e h = same_value e h

      pub negation-is : {q : ℕ} {a r : Walked Datum} → k ≡ Value.Negate → q ≡ next p → a ≡ values_of g l q →
          r ≡ (a ▷ λ x e. ended (negate_of p x) e) → r ≡ under k
      unfolding value_under
      negation-is e n i h = same_value e (h ∙ ap (λ z. z ▷ λ x e. ended (negate_of p x) e) (next-value l p n i))

    module _ {q : ℕ} (a : Valued) (n : q ≡ next p) (i : valued (lent_of g) a ≡ values_of g l q) where
      -- the first of two values stops
      stopped-first : {C : Type 0} {s : Stop} (f : Datum → ℕ → Walked C) → a ≡ Err s → stopped s ≡ (values_of g l (p + 1) ▷ f)
      stopped-first {s = s} f e = stops s f ∙ ap (λ z. z ▷ f) (sym (ap (valued (lent_of g)) e) ∙ next-value l p n i)

      -- both are there
      second-there : {x : Held} {u : ℕ} {b : Walked Datum} → a ≡ Ok (x, u) → b ≡ values_of g l u →
          b ≡ (valued (lent_of g) a ▷ λ y v. values_of g l v)
      second-there e j = j ∙ sym (ap (λ z. valued (lent_of g) z ▷ λ y v. values_of g l v) e)

      both_there : {C : Type 0} {x : Held} {u : ℕ} {b : Walked Datum} (k : Datum → Datum → ℕ → Walked C) → a ≡ Ok (x, u) → b ≡ values_of g l u →
          (valued (lent_of g) a ▷ λ y v. b ▷ λ z e. k y z e) ≡ (values_of g l (p + 1) ▷ λ y v. values_of g l v ▷ λ z e. k y z e)
      both_there {b = b} k e j =
          second-after (valued (lent_of g) a) b (values_of g l) k (second-there e j)
          ∙ ap (λ w. w ▷ λ y v. values_of g l v ▷ λ z e. k y z e) (next-value l p n i)

      pub arithmetic_stops : (o : Operator) {s : Stop} → a ≡ Err s → stopped s ≡ under (Value.Arithmetic o)
      unfolding value_under
      arithmetic_stops o e = stopped-first (λ x u. values_of g l u ▷ λ y e. ended (arithmetic_of (version_of (byte_at g.request 0)) o p x y) e) e

      pub arithmetic-is : (o : Operator) {x : Held} {u : ℕ} {b r : Walked Datum} {v : Version} {w : ℕ} → a ≡ Ok (x, u) → b ≡ values_of g l u →
          w ≡ byte_at g.request 0 → v ≡ version_of w →
          r ≡ (valued (lent_of g) a ▷ λ x u. b ▷ λ y e. ended (arithmetic_of v o p x y) e) → r ≡ under (Value.Arithmetic o)
      unfolding value_under
      arithmetic-is o {v = v} f j start is h =
          h ∙ both_there (λ x y e. ended (arithmetic_of v o p x y) e) f j
          ∙ ap (λ v. values_of g l (p + 1) ▷ λ x u. values_of g l u ▷ λ y e. ended (arithmetic_of v o p x y) e) (is ∙ ap version_of start)

  -- ---- two values one after the other

  -- two numbers that were found after a byte
  found_after : (l p : ℕ) {q : ℕ} {r : Two} → (l ≡ 0 → ⊥) → q ≡ next p →
      Numbers g.request g.dictionary g.bindings g.records g.runs q r →
      InTurn g l (p + 1) (number_of r.first r.first_scale) (number_of r.second r.second_scale) r.after
  unfolding sight_of
  found_after zero p level n h = absurd (level refl)
  found_after (suc l) p level n h =
      record {
        between = h.middle;
        first = sym (next-value (suc l) p n (sym (h.first g.parameters (parameters_of g) g.images l)));
        second = h.second g.parameters (parameters_of g) g.images l;
      }

  pub two-found : (l p : ℕ) {q : ℕ} (r : Maybe Two) → (l ≡ 0 → ⊥) → q ≡ next p →
      IfSome r (Numbers g.request g.dictionary g.bindings g.records g.runs q) → TwoAfter g l p r
  two-found l p None level n h = tt
  two-found l p (Some t) level n h = found_after l p level n h

  in-turn : {C : Type 0} {l p : ℕ} {x y : Datum} {e : ℕ} (f : Datum → Datum → ℕ → Walked C) → InTurn g l p x y e →
      (values_of g l p ▷ λ a q. values_of g l q ▷ λ b u. f a b u) ≡ f x y e
  in-turn {l = l} {x = x} f t =
      ap (λ z. z ▷ λ a q. values_of g l q ▷ λ b u. f a b u) t.first ∙ ap (λ z. z ▷ λ b u. f x b u) t.second

  module _ (l p : ℕ) {x y x' y' : Datum} {e : ℕ} (t : InTurn g l (p + 1) x y e) (i : x' ≡ x) (j : y' ≡ y) where
    pub computed-is : (o : Operator) {r : Walked Datum} {v : Version} {w : ℕ} →
        w ≡ byte_at g.request 0 → v ≡ version_of w → r ≡ ended (arithmetic_of v o p x' y') e → r ≡ under_of g l p (Value.Arithmetic o)
    unfolding value_under
    computed-is o start is h =
        h ∙ ap₂ (λ v a. ended (arithmetic_of v o p a y') e) (is ∙ ap version_of start) i
        ∙ ap (λ b. ended (arithmetic_of (version_of (byte_at g.request 0)) o p x b) e) j
        ∙ sym (in-turn (λ a b u. ended (arithmetic_of (version_of (byte_at g.request 0)) o p a b) u) t)

    pub compared_is : (c : Comparison) {r : Walked Truth} → r ≡ ended (compare_of c x' y') e →
        r ≡ boolean_under (values_of g l) (booleans_of g l) (runs_of g l p) p (Boolean.Compare c)
    unfolding boolean_under
    compared_is c h =
        h ∙ ap₂ (λ a b. ended (compare_of c a b) e) i j ∙ sym (in-turn (λ a b u. ended (compare_of c a b) u) t)

  -- ---- a boolean at a place

  pub no-boolean-level : (l p : ℕ) → l ≡ 0 → astray ≡ booleans_of g l p
  no-boolean-level l p e = sym (ap (λ z. booleans_of g z p) e ∙ boolean-level (sight_of g) g.bindings g.request p)

  module _ (l p : ℕ) {b : ℕ} {x : Result BooleanCode NotDue} (level : l ≡ 0 → ⊥) (is : b ≡ byte_at g.request p)
      (class : x ≡ class_of (boolean_class b)) where
    abbrev boolean-below : BooleanCode → Walked Truth
    boolean-below k = boolean_under (values_of g (l - 1)) (booleans_of g (l - 1)) (runs_of g (l - 1) p) p k

    by-boolean : booleans_of g l p ≡ on_class (boolean_class b) boolean-below
    by-boolean = boolean-by (sight_of g) g.bindings g.request l p (boolean_class b) level (ap boolean_class is)

    pub no-boolean : {n : NotDue} → x ≡ Err n → astray ≡ booleans_of g l p
    no-boolean {n} e = sym (by-boolean ∙ code-not (boolean_class b) n boolean-below (sym class ∙ e))

    pub due-boolean : {r : Walked Truth} {k : BooleanCode} → x ≡ Ok k → r ≡ boolean-below k → r ≡ booleans_of g l p
    due-boolean {k = k} e h = h ∙ sym (by-boolean ∙ rw (code-due (boolean_class b) k (sym class ∙ e)))

  -- the boolean after a byte
  next-boolean : (l p : ℕ) {q : ℕ} {a : Walked Truth} → q ≡ next p → a ≡ booleans_of g l q → a ≡ booleans_of g l (p + 1)
  next-boolean l p n i = i ∙ ap (booleans_of g l) n ∙ no-further g.request (booleans_of g l) (boolean-past (sight_of g) g.bindings g.request l) (p + 1)

  -- ---- a boolean under its code

  module _ (l p : ℕ) where
    abbrev boolean-under : BooleanCode → Walked Truth
    boolean-under k = boolean_under (values_of g l) (booleans_of g l) (runs_of g l p) p k

    module _ (k : BooleanCode) where
      pub same_boolean : {j : BooleanCode} {r : Walked Truth} → k ≡ j → r ≡ boolean-under j → r ≡ boolean-under k
      same_boolean e h = h ∙ ap boolean-under (sym e)

      pub opposite-is : {q : ℕ} {a r : Walked Truth} → k ≡ Boolean.Not → q ≡ next p → a ≡ booleans_of g l q →
          r ≡ (a ▷ λ x e. at (opposite x) e) → r ≡ boolean-under k
      unfolding boolean_under
      opposite-is f n i h = same_boolean f (h ∙ ap (λ z. z ▷ λ x e. at (opposite x) e) (next-boolean l p n i))

      pub missing-is : {q : ℕ} {a : Walked Datum} {r : Walked Truth} → k ≡ Boolean.Missing → q ≡ next p → a ≡ values_of g l q →
          r ≡ (a ▷ λ x e. at (missing_of x) e) → r ≡ boolean-under k
      unfolding boolean_under
      missing-is f n i h = same_boolean f (h ∙ ap (λ z. z ▷ λ x e. at (missing_of x) e) (next-value l p n i))

    module _ {q : ℕ} (a : Tested) (n : q ≡ next p) (i : tested a ≡ booleans_of g l q) (c : Connective) where
      pub connection_stops : {s : Stop} → a ≡ Err s → stopped s ≡ boolean-under (Boolean.Connect c)
      unfolding boolean_under
      connection_stops {s} e =
          stops s (λ x u. booleans_of g l u ▷ λ y e. at (connected c x y) e)
          ∙ ap (λ z. z ▷ λ x u. booleans_of g l u ▷ λ y e. at (connected c x y) e) (sym (ap tested e) ∙ next-boolean l p n i)

      pub connection-is : {x : Truth} {u : ℕ} {b r : Walked Truth} → a ≡ Ok (x, u) → b ≡ booleans_of g l u →
          r ≡ (tested a ▷ λ x u. b ▷ λ y e. at (connected c x y) e) → r ≡ boolean-under (Boolean.Connect c)
      unfolding boolean_under
      connection-is {b = b} f j h =
          h ∙ second-after (tested a) b (booleans_of g l) (λ x y e. at (connected c x y) e)
          (j ∙ sym (ap (λ z. tested z ▷ λ y v. booleans_of g l v) f))
          ∙ ap (λ z. z ▷ λ x u. booleans_of g l u ▷ λ y e. at (connected c x y) e) (next-boolean l p n i)

    -- ---- a test

    module _ {q : ℕ} (a : Valued) (n : q ≡ next p) (i : valued (lent_of g) a ≡ values_of g l q) where
      pub comparison_stops : (c : Comparison) {s : Stop} → a ≡ Err s → stopped s ≡ boolean-under (Boolean.Compare c)
      unfolding boolean_under
      comparison_stops c e = stopped-first l p a n i (λ x u. values_of g l u ▷ λ y e. ended (compare_of c x y) e) e

      pub search_stops : (t : TextSearch) {s : Stop} → a ≡ Err s → stopped s ≡ boolean-under (Boolean.Search t)
      unfolding boolean_under
      search_stops t e = stopped-first l p a n i (λ x u. values_of g l u ▷ λ y e. ended (search_of t x y) e) e

      pub between_stops : {s : Stop} → a ≡ Err s → stopped s ≡ boolean-under Boolean.Between
      unfolding boolean_under
      between_stops e =
          stopped-first l p a n i (λ x u. values_of g l u ▷ λ y v. values_of g l v ▷ λ z e. ended (between_of x y z) e) e

      pub comparison-is : (c : Comparison) {x : Held} {u : ℕ} {b : Walked Datum} {r : Walked Truth} → a ≡ Ok (x, u) → b ≡ values_of g l u →
          r ≡ (valued (lent_of g) a ▷ λ x v. b ▷ λ y e. ended (compare_of c x y) e) → r ≡ boolean-under (Boolean.Compare c)
      unfolding boolean_under
      comparison-is c f j h = h ∙ both_there l p a n i (λ x y e. ended (compare_of c x y) e) f j

      pub search_is : (t : TextSearch) {x : Held} {u : ℕ} {b : Walked Datum} {r : Walked Truth} → a ≡ Ok (x, u) → b ≡ values_of g l u →
          r ≡ (valued (lent_of g) a ▷ λ x v. b ▷ λ y e. ended (search_of t x y) e) → r ≡ boolean-under (Boolean.Search t)
      unfolding boolean_under
      search_is t f j h = h ∙ both_there l p a n i (λ x y e. ended (search_of t x y) e) f j

      module _ (b : Valued) {x : Held} {u : ℕ} (f : a ≡ Ok (x, u)) (j : valued (lent_of g) b ≡ values_of g l u) where
        unfoldable third : Datum → Datum → ℕ → Walked Truth
        third x y v = values_of g l v ▷ λ z e. ended (between_of x y z) e

        by_two : {r : Walked Truth} → r ≡ (valued (lent_of g) a ▷ λ x v. valued (lent_of g) b ▷ λ y e. third x y e) →
            r ≡ boolean-under Boolean.Between
        unfolding boolean_under third
        by_two h = h ∙ both_there l p a n i third f j

        pub second_stops : {s : Stop} → b ≡ Err s → stopped s ≡ boolean-under Boolean.Between
        second_stops {s} e =
            by_two
            (stops s (third (datum (lent_of g) x))
            ∙ ap (λ z. valued (lent_of g) z ▷ third (datum (lent_of g) x)) (sym e)
            ∙ ap (λ z. valued (lent_of g) z ▷ λ x v. valued (lent_of g) b ▷ λ y e. third x y e) (sym f))

        pub between_is : {y : Held} {v : ℕ} {c : Walked Datum} {w : Walked Truth} → b ≡ Ok (y, v) → c ≡ values_of g l v →
            w ≡ (valued (lent_of g) a ▷ λ x u. valued (lent_of g) b ▷ λ y v. c ▷ λ z e. ended (between_of x y z) e) →
            w ≡ boolean-under Boolean.Between
        unfolding third
        between_is {c = c} d k h =
            by_two
            (h ∙ third-after (valued (lent_of g) a) (valued (lent_of g) b) c (values_of g l) (λ x y z e. ended (between_of x y z) e)
            (k ∙ sym (ap (λ z. valued (lent_of g) z ▷ λ y v. values_of g l v) d)))
