-- The conditions of a request: 01: "boolean number (from 0 in reading order, those not inside another boolean)".
use Rattle.std.specs.Prelude.{ℕ, ◌+◌, List, [], ◌∷◌, ◌++◌, length}
use Rattle.wire.specs.Codes as blr
use Rattle.dictionary.specs.Dictionary.{Relation}
use Rattle.grammar.specs.Tree.{Boolean, Clauses, no_clauses, such, sorted, Rse, rse, Statement, assignment, begin, erase, for, headed, leave, if, if_else, select, Statements, none as nothing, ◌then◌, Receives, last, more, Request}
use Rattle.grammar.specs.Bytes.{keys_bytes, head_bytes, rse_bytes, heading_bytes, boolean_bytes}
use Rattle.grammar.specs.Environment.{Scope, outermost, under_streams, under_rse, under_heading}
use Rattle.grammar.specs.Rows.{size, statements_start}

-- a condition: the place of its code, the boolean, and the scope that it stands in
pub record Condition : Type 0 where
  pub place : ℕ
  pub boolean : Boolean
  pub scope : Scope

abbrev pub condition : Scope → Boolean → ℕ → List Condition
condition sc b p = record { place = p; boolean = b; scope = sc } ∷ []

-- the conditions of the clauses that start at p; 02, No. 4: "Booleans inside an rse of this sort have no number of their own."
unfoldable pub clauses_conditions : Scope → Clauses → ℕ → List Condition
clauses_conditions sc no_clauses p = []
clauses_conditions sc (such b cs) p = condition sc b (p + 1) ++ clauses_conditions sc cs (p + 1 + length (boolean_bytes b))
clauses_conditions sc (sorted ks cs) p = clauses_conditions sc cs (p + 2 + length (keys_bytes ks))

unfoldable pub rse_conditions : List Relation → Scope → Rse → ℕ → List Condition
rse_conditions d sc (rse ss cs) p = clauses_conditions (under_streams d blr.for sc ss) cs (p + length (head_bytes ss))

unfoldable mutual
  pub conditions : List Relation → Scope → Statement → ℕ → List Condition
  conditions d sc (assignment v t) p = []
  conditions d sc (begin ss) p = statements_conditions d sc ss (p + 1)
  conditions d sc (erase c) p = []
  conditions d sc (for r s) p = rse_conditions d sc r (p + 1) ++ conditions d (under_rse d sc r) s (p + 1 + length (rse_bytes r))
  conditions d sc (headed h s) p = conditions d (under_heading d sc h) s (p + length (heading_bytes h))
  conditions d sc (leave n) p = []
  conditions d sc (if b s) p = condition sc b (p + 1) ++ conditions d sc s (p + 1 + length (boolean_bytes b))
  conditions d sc (if_else b s t) p =
      condition sc b (p + 1) ++ conditions d sc s (p + 1 + length (boolean_bytes b)) ++
      conditions d sc t (p + 1 + length (boolean_bytes b) + size s)
  conditions d sc (select rs) p = receives_conditions d sc rs (p + 1)

  pub statements_conditions : List Relation → Scope → Statements → ℕ → List Condition
  statements_conditions d sc nothing p = []
  statements_conditions d sc (s then ss) p = conditions d sc s p ++ statements_conditions d sc ss (p + size s)

  pub receives_conditions : List Relation → Scope → Receives → ℕ → List Condition
  receives_conditions d sc (last m s) p = conditions d sc s (p + 2)
  receives_conditions d sc (more m s rs) p = conditions d sc s (p + 2) ++ receives_conditions d sc rs (p + 2 + size s)

unfoldable pub request_conditions : List Relation → Request → List Condition
request_conditions d r = statements_conditions d outermost r.statements (statements_start r)
