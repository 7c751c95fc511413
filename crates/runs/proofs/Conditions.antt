-- The scan of a condition or a from-value of an accepted request finds its rows, after those of the contexts in scope.
use Prim.Native.Nat.{ℕ, ◌+◌, ◌*◌, ◌≤◌}
use mathlib.Core.Path.{◌≡◌, subst}
use mathlib.Core.List.{List}
use native.Mathlib.Omega.{arith}
use lib.ListN.{length}
use lib.Seq.{sets}
use Rattle.dictionary.specs.Dictionary.{Relation}
use Rattle.grammar.specs.Tree.{Request}
use Rattle.grammar.specs.Bytes.{value_bytes, boolean_bytes}
use Rattle.grammar.specs.Environment.{Context, outermost}
use Rattle.grammar.specs.Rules.{Allowed, environment}
use Rattle.grammar.specs.Rows.{statements_start}
use Rattle.grammar.specs.Conditions.{Condition, request_conditions}
use Rattle.grammar.specs.Named.{FromValue, owns_of, request_owns, from_value}
use Rattle.grammar.proofs.RowNames.{all-owns}
use Rattle.meaning.specs.Demand.{Asked, AskedValue}
use Rattle.walking.specs.Declared.{Declared}
use Rattle.walking.proofs.Sites.{All, Holds, HoldsValue}
use Rattle.walking.proofs.Asked.{at-index, of-conditions, of_row}
use Rattle.surroundings.specs.Bindings.{Binding, binding_rows}
use Rattle.runs.specs.Steps.{found}
use Rattle.runs.specs.Found.{value_bindings, bindings_of}
use Rattle.runs.proofs.Leads.{seen}
use Rattle.runs.proofs.ScanLaws.{found_all, found-value}
use Rattle.runs.proofs.RowLaws.{few-values, few-bindings}
use Rattle.runs.proofs.Room.{Roomy, RoomyValue, request-roomy}

pub asked-roomy : (rs : List Relation) (r : Request) (n : ℕ) (x : Condition) → Allowed rs r → Asked rs r n x → Roomy 32 x
unfolding request_conditions request_owns
asked-roomy rs r n x a c =
    let os = owns_of rs outermost r.statements (statements_start r) in
    at-index (Roomy 32) (request_conditions rs r) n x
    (subst (All (Roomy 32)) (all-owns rs outermost r.statements (statements_start r))
    (of-conditions (Roomy 32) (RoomyValue 32) os (request-roomy rs r a).1)) c

pub asked-value-roomy : (rs : List Relation) (r : Request) (k : ℕ) (x : FromValue) → Allowed rs r → AskedValue rs r k x → RoomyValue 32 x
unfolding from_value
asked-value-roomy rs r k x a c = of_row (Roomy 32) (RoomyValue 32) (request_owns rs r) k x (request-roomy rs r a) c

-- ---- a condition

module _ (s d : List ℕ) (rs : List Relation) (r : Request) (n : ℕ) (x : Condition) (a : Allowed rs r) (c : Asked rs r n x)
    (lo hi k : ℕ) (outer : List Context) (own : List Declared) (w : Holds s (environment rs r) lo hi k outer own x)
    (t : List ℕ) (long : 320 ≤ length t) where
  -- the contexts in scope, and the rows of the condition
  abbrev pub from : ℕ
  from = length x.scope.contexts

  abbrev pub own-rows : List Binding
  own-rows = bindings_of d x.boolean x.place

  pub few-rows : from + length own-rows ≤ 32
  few-rows =
      let i = asked-roomy rs r n x a c in
      let j = few-bindings d x.boolean x.place in
      omega (arith, i, j)

  pub condition-found : length s ≤ 65535 →
      found d s x.place from t ≡
      seen (x.place + length (boolean_bytes x.boolean)) 0 (from + length own-rows) 32 (sets t (from * 10) (binding_rows own-rows))
  condition-found l =
      found_all d s (environment rs r) x.boolean x.scope x.place w.rest from t w.allowed w.stands l few-rows long

-- ---- a from-value

module _ (s d : List ℕ) (rs : List Relation) (r : Request) (n : ℕ) (x : FromValue) (a : Allowed rs r) (c : AskedValue rs r n x)
    (lo hi k : ℕ) (outer : List Context) (own : List Declared) (w : HoldsValue s (environment rs r) lo hi k outer own x)
    (t : List ℕ) (long : 320 ≤ length t) where
  -- the contexts in scope, and the rows of the from-value
  abbrev pub value-from : ℕ
  value-from = length x.scope.contexts

  abbrev pub value-rows : List Binding
  value-rows = value_bindings d x.value x.place

  pub few-value-rows : value-from + length value-rows ≤ 32
  few-value-rows =
      let i = asked-value-roomy rs r n x a c in
      let j = few-values d x.value x.place in
      omega (arith, i, j)

  pub value_found : length s ≤ 65535 →
      found d s x.place value-from t ≡
      seen (x.place + length (value_bytes x.value)) 0 (value-from + length value-rows) 32 (sets t (value-from * 10) (binding_rows value-rows))
  value_found l =
      found-value d s (environment rs r) x.value x.scope x.place w.rest value-from t w.allowed w.stands l few-value-rows long
