-- What the readers of booleans, sorts and clauses promise under what they are given.
use Prim.Native.Nat.{ℕ, ◌+◌, ◌-◌}
use mathlib.Core.Path.{◌≡◌}
use mathlib.Core.Bool.{Bool, true}
use mathlib.Core.List.{List}
use native.Mathlib.Omega.{arith}
use Rattle.std.specs.Prelude.{Result, Ok, Err, Some, is_some}
use Rattle.std.specs.Prelude as std
use Rattle.wire.specs.Classes.{boolean_class, direction_class}
use Rattle.wire.specs.declared.codes.Connective.{Connective}
use Rattle.wire.specs.declared.codes.Direction.{Direction}
use Rattle.wire.specs.declared.codes.Quantifier.{Quantifier}
use Rattle.wire.specs.declared.codes.BooleanCode.{BooleanCode}
use Rattle.wire.specs.declared.codes.BooleanCode.TheVariants.{Connect, Not, Quantify}
use Rattle.wire.specs.declared.codes.ClauseCode.{ClauseCode}
use Rattle.wire.specs.declared.codes.ClauseCode.TheVariants as Clause
use Rattle.wire.specs.declared.refused.Refused.{Refused}
use Rattle.grammar.specs.declared.Cursor.{Cursor}
use Rattle.grammar.specs.declared.Kind.{Kind}
use Rattle.grammar.specs.declared.Refusal.{Refusal}
use Rattle.grammar.specs.Bytes.{quantifier_code}
use Rattle.grammar.specs.Demands.{Octets}
use Rattle.grammar.specs.Environment.{Environment}
use Rattle.grammar.specs.Reader.{read, coded}
use Rattle.grammar.specs.Rses.{count_byte, clauses}
use Rattle.grammar.specs.Values.{read_value, read_boolean}
use Rattle.grammar.proofs.SoundRses.{count-went}
use Rattle.grammar.proofs.Codes.{direction-due, coded-went}
use Rattle.scopes.specs.Scopes.{scope_of}
use Rattle.expressions.specs.Promises.{ValueAnswer, Answer, PlaceAnswer, Ready, leveled, clause_coded, BooleanRead, TestRead, RseRead, KeysRead, SortRead, MoreClauses}
use Rattle.expressions.proofs.Codes.{leveled-stands, clause-stood}
use Rattle.expressions.proofs.BooleanLaws.{test-wrote, test-stopped, not-wrote, quantify-wrote, boolean-stopped, connect-wrote}
use Rattle.expressions.proofs.ClauseLaws.{key-stopped, keys-wrote, sort-wrote, boolean-stops, more-boolean, sort-stops, more-sort}
use Rattle.expressions.proofs.ReadyLaws.{ready-code, ready-passed, ready-value, ready-boolean, ready-sort}
use Rattle.expressions.proofs.ValuesReady.{ReadsValue}

-- ---- booleans

abbrev ReadsBoolean : List ℕ → List ℕ → List ℕ → Environment → ℕ → Cursor → List ℕ → List ℕ → Answer → Type 0
ReadsBoolean s d scope e l c ct ct' r = Ready s d scope c l → BooleanRead l e (scope_of d scope) s c ct ct' r

module _ (s d scope : List ℕ) (e : Environment) (l : ℕ) (c : Cursor) {k : BooleanCode} {q : Cursor}
    (i : leveled boolean_class l s c ≡ read k q) where
  inner-ready : Ready s d scope c l → Ready s d scope q (l - 1)
  inner-ready g = ready-code g (leveled-stands boolean_class l s c i) (omega arith)

  module _ {ct ct₁ : List ℕ} {a : ValueAnswer} (w : Ready s d scope q (l - 1) → TestRead (l - 1) e (scope_of d scope) c.at k s q ct ct₁ a) where
    pub test_read : {f : std.Option Kind} {q' : Cursor} → a ≡ Ok (f, q') → ReadsBoolean s d scope e l c ct ct₁ (Ok q')
    test_read y g = test-wrote s e (scope_of d scope) l c i (w (inner-ready g)) y

    pub test-stops : {y : Refused Refusal} → a ≡ Err y → ReadsBoolean s d scope e l c ct ct₁ (Err y)
    test-stops y g = test-stopped s e (scope_of d scope) l c i (w (inner-ready g)) y

  module _ {ct ct₁ : List ℕ} {a : Answer} where
    pub not-read : k ≡ Not → ReadsBoolean s d scope e (l - 1) q ct ct₁ a → ReadsBoolean s d scope e l c ct ct₁ a
    not-read ke w g = not-wrote s e (scope_of d scope) l c i (w (inner-ready g)) ke

    -- an any or a unique has the level that it takes for the contexts that it opens
    pub quantify-read : {x : Quantifier} {o : ℕ} → k ≡ Quantify x → o ≡ quantifier_code x →
        (Ready s d scope q (l - 1 + 1) → RseRead (l - 1) e (scope_of d scope) o s q ct ct₁ a) → ReadsBoolean s d scope e l c ct ct₁ a
    quantify-read ke oe w g =
        let stands = leveled-stands boolean_class l s c i in
        quantify-wrote s e (scope_of d scope) l c i ke oe (w (ready-code g stands (omega (arith, stands.some))))

    module _ {o : Connective} (ke : k ≡ Connect o) (w : ReadsBoolean s d scope e (l - 1) q ct ct₁ a) where
      pub connect-stopped : {y : Refused Refusal} → a ≡ Err y → ReadsBoolean s d scope e l c ct ct₁ (Err y)
      connect-stopped y g = boolean-stopped s e (scope_of d scope) l c i (w (inner-ready g)) ke y

      pub connect-read : Octets s → {q₁ : Cursor} {ct₂ : List ℕ} {b : Answer} → a ≡ Ok q₁ →
          ReadsBoolean s d scope e (l - 1) q₁ ct₁ ct₂ b → ReadsBoolean s d scope e l c ct ct₂ b
      connect-read known y w₁ g =
          let first = w (inner-ready g) in
          connect-wrote s e (scope_of d scope) l c i first ke known y
          (w₁ (ready-boolean (inner-ready g) known e (scope_of d scope) (l - 1) first y))

-- ---- the values of a sort

abbrev ReadsKeys : List ℕ → List ℕ → List ℕ → Environment → ℕ → ℕ → Cursor → List ℕ → List ℕ → Answer → Type 0
ReadsKeys s d scope e l n c ct ct' r = Ready s d scope c l → KeysRead n l e (scope_of d scope) s c ct ct' r

module _ (s d scope : List ℕ) (e : Environment) (l n : ℕ) (c : Cursor) (some : n ≡ 0 → ⊥) {o : Direction} {q : Cursor}
    (i : coded direction_class s c ≡ read o q) {ct ct₁ : List ℕ} {a : ValueAnswer} (w : ReadsValue s d scope e l q ct ct₁ a) where
  direction-ready : Ready s d scope c l → Ready s d scope q l
  direction-ready g = ready-passed g (coded-went direction-due s c i)

  pub key-stops : {y : Refused Refusal} → a ≡ Err y → ReadsKeys s d scope e l n c ct ct₁ (Err y)
  key-stops y g = key-stopped s e (scope_of d scope) l some i (w (direction-ready g)) y

  pub keys-read : Octets s → {x : std.Option Kind} {q₁ : Cursor} {ct₂ : List ℕ} {r : Answer} → a ≡ Ok (x, q₁) →
      ReadsKeys s d scope e l (n - 1) q₁ ct₁ ct₂ r → ReadsKeys s d scope e l n c ct ct₂ r
  keys-read known y w₁ g =
      let first = w (direction-ready g) in
      keys-wrote s e (scope_of d scope) l some i first known y
      (w₁ (ready-value (direction-ready g) known e (scope_of d scope) l first y))

-- with the count before them
abbrev ReadsSort : List ℕ → List ℕ → List ℕ → Environment → ℕ → Cursor → List ℕ → List ℕ → Answer → Type 0
ReadsSort s d scope e l c ct ct' r = Ready s d scope c l → SortRead l e (scope_of d scope) s c ct ct' r

pub sort-read : (s d scope : List ℕ) (e : Environment) (l : ℕ) (c : Cursor) {n : ℕ} {q : Cursor} {ct ct₁ : List ℕ} {r : Answer} →
    count_byte s c ≡ read n q → ReadsKeys s d scope e l n q ct ct₁ r → ReadsSort s d scope e l c ct ct₁ r
sort-read s d scope e l c i w g = sort-wrote s e (scope_of d scope) l i (w (ready-passed g (count-went s c i).0))

-- ---- clauses, after a boolean at a place, or none, and after a sort or none

abbrev ReadsMore : List ℕ → List ℕ → List ℕ → Environment → ℕ → ℕ → std.Option ℕ → Bool → Cursor → List ℕ → List ℕ → PlaceAnswer → Type 0
ReadsMore s d scope e l n place t c ct ct' r = Ready s d scope c l →
    MoreClauses (clauses n (read_boolean l e (scope_of d scope)) (read_value l e (scope_of d scope)) (is_some place) t s c)
    place e (scope_of d scope) c ct ct' r

module _ (s d scope : List ℕ) (e : Environment) (l n : ℕ) (place : std.Option ℕ) (t : Bool) (c : Cursor) {k : ClauseCode} {q : Cursor}
    (i : clause_coded n (is_some place) t s c ≡ read k q) where
  clause-ready : Ready s d scope c l → Ready s d scope q l
  clause-ready g = ready-code g (clause-stood n (is_some place) t s c i).0 (omega arith)

  module _ {ct ct₁ : List ℕ} {a : Answer} where
    module _ (ke : k ≡ Clause.Boolean) (w : ReadsBoolean s d scope e l q ct ct₁ a) where
      pub such-stops : {y : Refused Refusal} → a ≡ Err y → ReadsMore s d scope e l n place t c ct ct₁ (Err y)
      such-stops y g = boolean-stops s e (scope_of d scope) l n place t c i ke (w (clause-ready g)) y

      pub such-read : Octets s → {q₁ : Cursor} {ct₂ : List ℕ} {r : PlaceAnswer} → a ≡ Ok q₁ →
          ReadsMore s d scope e l (n - 1) (Some q.at) t q₁ ct₁ ct₂ r → ReadsMore s d scope e l n place t c ct ct₂ r
      such-read known y w₁ g =
          let first = w (clause-ready g) in
          more-boolean s e (scope_of d scope) l n place t c i ke first known y
          (w₁ (ready-boolean (clause-ready g) known e (scope_of d scope) l first y))

    module _ (ke : k ≡ Clause.Sort) (w : ReadsSort s d scope e l q ct ct₁ a) where
      pub sorted-stops : {y : Refused Refusal} → a ≡ Err y → ReadsMore s d scope e l n place t c ct ct₁ (Err y)
      sorted-stops y g = sort-stops s e (scope_of d scope) l n place t c i ke (w (clause-ready g)) y

      pub sorted-read : Octets s → {q₁ : Cursor} {ct₂ : List ℕ} {r : PlaceAnswer} → a ≡ Ok q₁ →
          ReadsMore s d scope e l (n - 1) place true q₁ ct₁ ct₂ r → ReadsMore s d scope e l n place t c ct ct₂ r
      sorted-read known y w₁ g =
          let first = w (clause-ready g) in
          more-sort s e (scope_of d scope) l n place t c i ke first known y
          (w₁ (ready-sort (clause-ready g) known e (scope_of d scope) l first y))
