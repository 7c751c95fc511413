-- What a statement's row names: 02, No. 7: "Each statement row gets a fifth number, its boolean's number plus one, or 0 where it has
-- none."; No. 9: "An assignment's from-value can be asked for by its row (from 0)".
use Rattle.std.specs.Prelude.{ℕ, ◌+◌, ◌*◌, ◌≡◌, List, [], ◌∷◌, ◌++◌, length, get_or}
use Rattle.std.proofs.Math.Option.{Option, none, some}
use Rattle.std.proofs.Math.ListN.{get_elem?}
use Rattle.wire.specs.Codes as blr
use Rattle.wire.specs.Limits.{statement_row_numbers}
use Rattle.wire.specs.Lists.{◌and_then◌}
use Rattle.dictionary.specs.Dictionary.{Relation}
use Rattle.grammar.specs.Tree.{Value, Statement, assignment, begin, erase, for, headed, leave, if, if_else, select, Statements, none as nothing, ◌then◌, Receives, last, more, Request}
use Rattle.grammar.specs.Bytes.{rse_bytes, heading_bytes, boolean_bytes}
use Rattle.grammar.specs.Environment.{Scope, outermost, under_rse, under_heading}
use Rattle.grammar.specs.Rows.{size, statements_start, request_statement_rows}
use Rattle.grammar.specs.Conditions.{Condition, condition, rse_conditions, request_conditions}

-- the from-value of an assignment: the place of its code, the value, and the scope that it stands in
pub record FromValue : Type 0 where
  pub place : ℕ
  pub value : Value
  pub scope : Scope

-- a statement's place, its own conditions, which are an if's or that of a for's rse, and the from-value of an assignment
pub record Own : Type 0 where
  pub place : ℕ
  pub conditions : List Condition
  pub from : Option FromValue

unfoldable pub own_booleans : List Relation → Scope → Statement → ℕ → List Condition
own_booleans d sc (assignment v t) p = []
own_booleans d sc (begin ss) p = []
own_booleans d sc (erase c) p = []
own_booleans d sc (for r s) p = rse_conditions d sc r (p + 1)
own_booleans d sc (headed h s) p = []
own_booleans d sc (leave n) p = []
own_booleans d sc (if b s) p = condition sc b (p + 1)
own_booleans d sc (if_else b s t) p = condition sc b (p + 1)
own_booleans d sc (select rs) p = []

unfoldable pub own_value : Scope → Statement → ℕ → Option FromValue
own_value sc (assignment v t) p = some (record { place = p + 1; value = v; scope = sc })
own_value sc (begin ss) p = none
own_value sc (erase c) p = none
own_value sc (for r s) p = none
own_value sc (headed h s) p = none
own_value sc (leave n) p = none
own_value sc (if b s) p = none
own_value sc (if_else b s t) p = none
own_value sc (select rs) p = none

abbrev pub own : List Relation → Scope → Statement → ℕ → Own
own d sc s p = record { place = p; conditions = own_booleans d sc s p; from = own_value sc s p }

-- the outer begin, or a receive of a select, which has neither
abbrev pub bare : ℕ → Own
bare p = record { place = p; conditions = []; from = none }

-- those of the statements inside a statement at p, in reading order
unfoldable mutual
  pub owns_below : List Relation → Scope → Statement → ℕ → List Own
  owns_below d sc (assignment v t) p = []
  owns_below d sc (begin ss) p = owns_of d sc ss (p + 1)
  owns_below d sc (erase c) p = []
  owns_below d sc (for r s) p =
      let q = p + 1 + length (rse_bytes r) in own d (under_rse d sc r) s q ∷ owns_below d (under_rse d sc r) s q
  owns_below d sc (headed h s) p =
      let q = p + length (heading_bytes h) in own d (under_heading d sc h) s q ∷ owns_below d (under_heading d sc h) s q
  owns_below d sc (leave n) p = []
  owns_below d sc (if b s) p = let q = p + 1 + length (boolean_bytes b) in own d sc s q ∷ owns_below d sc s q
  owns_below d sc (if_else b s t) p =
      let q = p + 1 + length (boolean_bytes b) in let r = q + size s in
      (own d sc s q ∷ owns_below d sc s q) ++ (own d sc t r ∷ owns_below d sc t r)
  owns_below d sc (select rs) p = receives_owns d sc rs (p + 1)

  pub owns_of : List Relation → Scope → Statements → ℕ → List Own
  owns_of d sc nothing p = []
  owns_of d sc (s then ss) p = (own d sc s p ∷ owns_below d sc s p) ++ owns_of d sc ss (p + size s)

  pub receives_owns : List Relation → Scope → Receives → ℕ → List Own
  receives_owns d sc (last m s) p = bare p ∷ own d sc s (p + 2) ∷ owns_below d sc s (p + 2)
  receives_owns d sc (more m s rs) p =
      bare p ∷ (own d sc s (p + 2) ∷ owns_below d sc s (p + 2)) ++ receives_owns d sc rs (p + 2 + size s)

-- the statements of a request, whose outer begin stands at 1
unfoldable pub request_owns : List Relation → Request → List Own
request_owns d r = bare 1 ∷ owns_of d outermost r.statements (statements_start r)

-- the first number of row k, the second and the fifth
abbrev pub row_place : Request → ℕ → ℕ
row_place r k = get_or (request_statement_rows r) (k * statement_row_numbers) 0

abbrev pub row_code : Request → ℕ → ℕ
row_code r k = get_or (request_statement_rows r) (k * statement_row_numbers + 1) 0

abbrev pub row_boolean : Request → ℕ → ℕ
row_boolean r k = get_or (request_statement_rows r) (k * statement_row_numbers + 4) 0

-- row k, whose fifth number is n + 1: the statement that stands there has a condition of its own, and that is the condition of number n
pub record Named (d : List Relation) (r : Request) (k n : ℕ) : Type 0 where
  pub statement : Own
  pub condition : Condition
  pub rest : List Condition
  pub stands : get_elem? (request_owns d r) k ≡ some statement
  pub place : row_place r k ≡ statement.place
  pub has : statement.conditions ≡ condition ∷ rest
  pub numbered : get_elem? (request_conditions d r) n ≡ some condition

-- ---- from-values

abbrev pub from_of : Option Own → Option FromValue
from_of o = o and_then λ x. x.from

-- that of row k, if the statement of that row is an assignment
unfoldable pub from_value : List Relation → Request → ℕ → Option FromValue
from_value d r k = from_of (get_elem? (request_owns d r) k)

-- a row tells, by its place and its code, whether its statement has a from-value, and where that stands
abbrev pub FromTold : Option FromValue → ℕ → ℕ → Type 0
FromTold none p c = c ≡ blr.assignment → ⊥
FromTold (some x) p c = (c ≡ blr.assignment) × (x.place ≡ p + 1)
