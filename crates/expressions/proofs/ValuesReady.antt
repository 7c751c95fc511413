-- What the readers of values and of tests of values promise under what they are given.
use Prim.Native.Nat.{ℕ, ◌+◌, ◌-◌}
use mathlib.Core.Path.{◌≡◌}
use mathlib.Core.Bool.{Bool, true}
use mathlib.Core.List.{List}
use native.Mathlib.Omega.{arith}
use Rattle.std.specs.Prelude.{Result, Ok, Err}
use Rattle.std.specs.Prelude as std
use Rattle.wire.specs.Codes as blr
use Rattle.wire.specs.Classes.{value_class}
use Rattle.wire.specs.declared.codes.Version.{Version}
use Rattle.wire.specs.declared.codes.Operator.{Operator}
use Rattle.wire.specs.declared.codes.Statistic.{Statistic}
use Rattle.wire.specs.declared.codes.TextSearch.{TextSearch}
use Rattle.wire.specs.declared.codes.ValueCode.{ValueCode}
use Rattle.wire.specs.declared.codes.ValueCode.TheVariants as Code
use Rattle.wire.specs.declared.codes.BooleanCode.{BooleanCode}
use Rattle.wire.specs.declared.codes.BooleanCode.TheVariants.{Search, Between, Missing}
use Rattle.wire.specs.declared.refused.Refused.{Refused}
use Rattle.grammar.specs.declared.Cursor.{Cursor}
use Rattle.grammar.specs.declared.Kind.{Kind}
use Rattle.grammar.specs.declared.Refusal.{Refusal}
use Rattle.grammar.specs.Environment.{Environment}
use Rattle.grammar.specs.Kinds.{arithmetic_kind, negated_kind, one_kind, both_text, all_one_kind}
use Rattle.grammar.specs.Reader.{read}
use Rattle.grammar.specs.Demands.{Octets}
use Rattle.grammar.specs.Internal.Steps.{kind_in}
use Rattle.scopes.specs.Scopes.{scope_of}
use Rattle.expressions.specs.Promises.{ValueAnswer, Answer, Ready, leveled, kind_answer, test_answer, count_answer, tests_values, ValueRead, StatisticRead, RseRead, TestRead}
use Rattle.expressions.proofs.Codes.{leveled-stands}
use Rattle.expressions.proofs.ValueLaws as Values
use Rattle.expressions.proofs.BooleanLaws as Tests
use Rattle.expressions.proofs.ReadyLaws.{ready-code, ready-value}

abbrev pub ReadsValue : List ℕ → List ℕ → List ℕ → Environment → ℕ → Cursor → List ℕ → List ℕ → ValueAnswer → Type 0
ReadsValue s d scope e l c ct ct' r = Ready s d scope c l → ValueRead l e (scope_of d scope) s c ct ct' r

module _ (s d scope : List ℕ) (e : Environment) (l : ℕ) (c : Cursor) {k : ValueCode} {q : Cursor} (i : leveled value_class l s c ≡ read k q) where
  inner-ready : Ready s d scope c l → Ready s d scope q (l - 1)
  inner-ready g = ready-code g (leveled-stands value_class l s c i) (omega arith)

  -- a statistic or a count has the level that it takes for the contexts that it opens
  rse-ready : Ready s d scope c l → Ready s d scope q (l - 1 + 1)
  rse-ready g = let stands = leveled-stands value_class l s c i in ready-code g stands (omega (arith, stands.some))

  pub statistic-taken : {ct ct₁ : List ℕ} {a : ValueAnswer} {m : Statistic} → k ≡ Code.Statistic m →
      (Ready s d scope q (l - 1 + 1) → StatisticRead (l - 1) e (scope_of d scope) c.at m s q ct ct₁ a) → ReadsValue s d scope e l c ct ct₁ a
  statistic-taken ke w g = Values.statistic-wrote s e (scope_of d scope) l c i ke (w (rse-ready g))

  pub count-taken : {ct ct₁ : List ℕ} {a : Answer} {r : ValueAnswer} → k ≡ Code.Count →
      (Ready s d scope q (l - 1 + 1) → RseRead (l - 1) e (scope_of d scope) blr.count s q ct ct₁ a) → r ≡ count_answer a →
      ReadsValue s d scope e l c ct ct₁ r
  count-taken ke w j g = Values.count-wrote s e (scope_of d scope) l c i ke (w (rse-ready g)) j

  module _ {ct ct₁ : List ℕ} {a : ValueAnswer} (w : ReadsValue s d scope e (l - 1) q ct ct₁ a) where
    pub negate-stops : {y : Refused Refusal} → k ≡ Code.Negate → a ≡ Err y → ReadsValue s d scope e l c ct ct₁ (Err y)
    negate-stops ke y g = Values.negate-stopped s e (scope_of d scope) l c i (w (inner-ready g)) ke y

    pub operand-stops : {y : Refused Refusal} {o : Operator} → k ≡ Code.Arithmetic o → a ≡ Err y → ReadsValue s d scope e l c ct ct₁ (Err y)
    operand-stops ke y g = Values.first-stopped s e (scope_of d scope) l c i (w (inner-ready g)) ke y

    module _ (known : Octets s) {x : std.Option Kind} {q₁ : Cursor} (y : a ≡ Ok (x, q₁)) where
      pub negate-taken : {r : ValueAnswer} → k ≡ Code.Negate → r ≡ kind_answer (negated_kind (kind_in x)) c.at q₁ →
          ReadsValue s d scope e l c ct ct₁ r
      negate-taken ke j g = Values.negate-wrote s e (scope_of d scope) l c i (w (inner-ready g)) known y ke j

      module _ {o : Operator} (ke : k ≡ Code.Arithmetic o) {b : ValueAnswer} {ct₂ : List ℕ}
          (w₁ : ReadsValue s d scope e (l - 1) q₁ ct₁ ct₂ b) where
        other-ready : Ready s d scope c l → Ready s d scope q₁ (l - 1)
        other-ready g = ready-value (inner-ready g) known e (scope_of d scope) (l - 1) (w (inner-ready g)) y

        pub other-stops : {z : Refused Refusal} → b ≡ Err z → ReadsValue s d scope e l c ct ct₂ (Err z)
        other-stops y₁ g =
            Values.second-stopped s e (scope_of d scope) l c i (w (inner-ready g)) known y ke (w₁ (other-ready g)) y₁

        pub arithmetic-taken : {z : std.Option Kind} {q₂ : Cursor} {r : ValueAnswer} {v : Version} → v ≡ e.version → b ≡ Ok (z, q₂) →
            r ≡ kind_answer (arithmetic_kind v o (kind_in x) (kind_in z)) c.at q₂ → ReadsValue s d scope e l c ct ct₂ r
        arithmetic-taken ve y₁ j g =
            Values.arithmetic-wrote s e (scope_of d scope) l c i (w (inner-ready g)) known y ke (w₁ (other-ready g)) ve y₁ j

-- ---- a boolean's values, and a test of them

abbrev ReadsTest : List ℕ → List ℕ → List ℕ → Environment → ℕ → ℕ → BooleanCode → Cursor → List ℕ → List ℕ → ValueAnswer → Type 0
ReadsTest s d scope e l p k c ct ct' r = Ready s d scope c l → TestRead l e (scope_of d scope) p k s c ct ct' r

module _ (s d scope : List ℕ) (e : Environment) (l p : ℕ) (c : Cursor) {ct ct₁ : List ℕ} {a : ValueAnswer}
    (w : ReadsValue s d scope e l c ct ct₁ a) where
  pub first_stops : (k : BooleanCode) {y : Refused Refusal} → tests_values k ≡ true → a ≡ Err y → ReadsTest s d scope e l p k c ct ct₁ (Err y)
  first_stops k m y g = Tests.first-stopped s e (scope_of d scope) l p c (w g) k m y

  module _ (known : Octets s) {x : std.Option Kind} {q : Cursor} (y : a ≡ Ok (x, q)) where
    pub missing-taken : {k : BooleanCode} → k ≡ Missing → c.at ≡ p + 1 → ReadsTest s d scope e l p k c ct ct₁ (Ok (std.None, q))
    missing-taken ke here g = Tests.missing-wrote s e (scope_of d scope) l p c (w g) known y ke here

    module _ {b : ValueAnswer} {ct₂ : List ℕ} (w₁ : ReadsValue s d scope e l q ct₁ ct₂ b) where
      second-ready : Ready s d scope c l → Ready s d scope q l
      second-ready g = ready-value g known e (scope_of d scope) l (w g) y

      pub second-stops : (k : BooleanCode) {z : Refused Refusal} → tests_values k ≡ true → (k ≡ Missing → ⊥) → b ≡ Err z →
          ReadsTest s d scope e l p k c ct ct₂ (Err z)
      second-stops k m o y₁ g =
          Tests.second-stopped s e (scope_of d scope) l p c (w g) known y (w₁ (second-ready g)) k m o y₁

      module _ {x₁ : std.Option Kind} {q₁ : Cursor} (y₁ : b ≡ Ok (x₁, q₁)) where
        pub search-taken : {k : BooleanCode} {o : TextSearch} {m : Bool} {r : ValueAnswer} → k ≡ Search o → c.at ≡ p + 1 →
            m ≡ both_text (kind_in x) (kind_in x₁) → r ≡ test_answer m p q₁ → ReadsTest s d scope e l p k c ct ct₂ r
        search-taken ke here i j g =
            Tests.search-wrote s e (scope_of d scope) l p c (w g) known y (w₁ (second-ready g)) y₁ ke here i j

        pub compare-taken : (k : BooleanCode) {m : Bool} {r : ValueAnswer} → tests_values k ≡ true → (k ≡ Missing → ⊥) →
            ((o : TextSearch) → k ≡ Search o → ⊥) → (k ≡ Between → ⊥) → c.at ≡ p + 1 → m ≡ one_kind (kind_in x) (kind_in x₁) →
            r ≡ test_answer m p q₁ → ReadsTest s d scope e l p k c ct ct₂ r
        compare-taken k m n o f here i j g =
            Tests.compare-wrote s e (scope_of d scope) l p c (w g) known y (w₁ (second-ready g)) y₁ k m n o f here i j

        module _ {k : BooleanCode} (ke : k ≡ Between) {z : ValueAnswer} {ct₃ : List ℕ} (w₂ : ReadsValue s d scope e l q₁ ct₂ ct₃ z) where
          third-ready : Ready s d scope c l → Ready s d scope q₁ l
          third-ready g = ready-value (second-ready g) known e (scope_of d scope) l (w₁ (second-ready g)) y₁

          pub third-stops : {v : Refused Refusal} → z ≡ Err v → ReadsTest s d scope e l p k c ct ct₃ (Err v)
          third-stops y₂ g = Tests.third-stopped s e (scope_of d scope) l p c (w g) known y (w₁ (second-ready g)) y₁ ke
              (w₂ (third-ready g)) y₂

          pub between-taken : {x₂ : std.Option Kind} {q₂ : Cursor} {m : Bool} {r : ValueAnswer} → z ≡ Ok (x₂, q₂) → c.at ≡ p + 1 →
              m ≡ all_one_kind (kind_in x) (kind_in x₁) (kind_in x₂) → r ≡ test_answer m p q₂ → ReadsTest s d scope e l p k c ct ct₃ r
          between-taken y₂ here i j g = Tests.between-wrote s e (scope_of d scope) l p c (w g) known y (w₁ (second-ready g)) y₁ ke
              (w₂ (third-ready g)) y₂ here i j
