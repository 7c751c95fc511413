-- How many conditions there are; a request that the rules allow has no more than statements.
use Prim.Native.Nat.{ℕ, ◌+◌, ◌≤◌}
use mathlib.Core.Path.{◌≡◌, refl}
use mathlib.Core.List.{List}
use native.Mathlib.Omega.{arith}
use lib.ListN.{length, length-append}
use Rattle.wire.specs.Codes as blr
use Rattle.dictionary.specs.Dictionary.{Relation}
use Rattle.grammar.specs.Tree.{Clauses, no_clauses, such, sorted, Rse, rse, Statement, assignment, begin, erase, for, headed, leave, if, if_else, select, Statements, none as nothing, ◌then◌, Receives, last, more, Request}
use Rattle.grammar.specs.Bytes.{keys_bytes, head_bytes, rse_bytes, heading_bytes, boolean_bytes, statement_bytes}
use Rattle.grammar.specs.Environment.{Environment, Scope, outermost, under_streams, under_rse, under_heading}
use Rattle.grammar.specs.Sizes.{booleans_count, rse_booleans, condition_count, conditions_count, receives_condition_count, statement_count, statements_count, receives_count}
use Rattle.grammar.specs.Rules.{RseAllowed, StatementAllowed, StatementsAllowed, ReceivesAllowed, environment, Allowed}
use Rattle.grammar.specs.Rows.{statements_start}
use Rattle.grammar.specs.Conditions.{clauses_conditions, rse_conditions, conditions, statements_conditions, receives_conditions, request_conditions}

-- one for each boolean
pub clauses-count : (sc : Scope) (cs : Clauses) (p : ℕ) → length (clauses_conditions sc cs p) ≡ booleans_count cs
unfolding clauses_conditions booleans_count
clauses-count sc no_clauses p = refl
clauses-count sc (such x cs) p = omega (arith, clauses-count sc cs (p + 1 + length (boolean_bytes x)))
clauses-count sc (sorted ks cs) p = clauses-count sc cs (p + 2 + length (keys_bytes ks))

-- how many conditions there are
pub rse-count : (d : List Relation) (sc : Scope) (r : Rse) (p : ℕ) → length (rse_conditions d sc r p) ≡ rse_booleans r
unfolding rse_conditions rse_booleans
rse-count d sc (rse ss cs) p = clauses-count (under_streams d blr.for sc ss) cs (p + length (head_bytes ss))

module _ (d : List Relation) where
  mutual
    unfolding conditions statements_conditions receives_conditions condition_count conditions_count receives_condition_count

    pub conditions-count : (sc : Scope) (t : Statement) (p : ℕ) → length (conditions d sc t p) ≡ condition_count t
    conditions-count sc (assignment v t) p = refl
    conditions-count sc (begin ss) p = statements-conditions-count sc ss (p + 1)
    conditions-count sc (erase c) p = refl
    conditions-count sc (for r t) p =
        let i = rse-count d sc r (p + 1) in
        let j = conditions-count (under_rse d sc r) t (p + 1 + length (rse_bytes r)) in
        rw (length-append (rse_conditions d sc r (p + 1))) (omega arith)
    conditions-count sc (headed h t) p = conditions-count (under_heading d sc h) t (p + length (heading_bytes h))
    conditions-count sc (leave n) p = refl
    conditions-count sc (if b t) p = let i = conditions-count sc t (p + 1 + length (boolean_bytes b)) in omega arith
    conditions-count sc (if_else b t u) p =
        let i = conditions-count sc t (p + 1 + length (boolean_bytes b)) in
        let j = conditions-count sc u (p + 1 + length (boolean_bytes b) + length (statement_bytes t)) in
        rw (length-append (conditions d sc t (p + 1 + length (boolean_bytes b)))) (omega arith)
    conditions-count sc (select rs) p = receives-conditions-count sc rs (p + 1)

    pub statements-conditions-count : (sc : Scope) (ts : Statements) (p : ℕ) → length (statements_conditions d sc ts p) ≡ conditions_count ts
    statements-conditions-count sc nothing p = refl
    statements-conditions-count sc (t then ts) p =
        let i = conditions-count sc t p in
        let j = statements-conditions-count sc ts (p + length (statement_bytes t)) in
        rw (length-append (conditions d sc t p)) (omega arith)

    pub receives-conditions-count : (sc : Scope) (rs : Receives) (p : ℕ) → length (receives_conditions d sc rs p) ≡ receives_condition_count rs
    receives-conditions-count sc (last m t) p = conditions-count sc t (p + 2)
    receives-conditions-count sc (more m t rs) p =
        let i = conditions-count sc t (p + 2) in
        let j = receives-conditions-count sc rs (p + 2 + length (statement_bytes t)) in
        rw (length-append (conditions d sc t (p + 2))) (omega arith)

rse-few : (e : Environment) (sc : Scope) (r : Rse) (p : ℕ) → RseAllowed e blr.for sc r → length (rse_conditions e.relations sc r p) ≤ 1
unfolding rse_conditions
rse-few e sc (rse ss cs) p a =
    let n = clauses-count (under_streams e.relations blr.for sc ss) cs (p + length (head_bytes ss)) in omega (arith, n, a.2.0)

module _ (e : Environment) where
  mutual
    unfolding conditions statements_conditions receives_conditions statement_count statements_count receives_count

    pub conditions_few : (sc : Scope) (t : Statement) (p : ℕ) → StatementAllowed e sc t →
        length (conditions e.relations sc t p) ≤ statement_count t
    conditions_few sc (assignment v t) p a = omega arith
    conditions_few sc (begin ss) p a = let i = statements-conditions-few sc ss (p + 1) a in omega arith
    conditions_few sc (erase c) p a = omega arith
    conditions_few sc (for r t) p a =
        let i = rse-few e sc r (p + 1) a.0 in
        let j = conditions_few (under_rse e.relations sc r) t (p + 1 + length (rse_bytes r)) a.1 in
        rw (length-append (rse_conditions e.relations sc r (p + 1))) (omega arith)
    conditions_few sc (headed h t) p a =
        let i = conditions_few (under_heading e.relations sc h) t (p + length (heading_bytes h)) a.1 in omega arith
    conditions_few sc (leave n) p a = omega arith
    conditions_few sc (if b t) p a = let i = conditions_few sc t (p + 1 + length (boolean_bytes b)) a.1 in omega arith
    conditions_few sc (if_else b t u) p a =
        let i = conditions_few sc t (p + 1 + length (boolean_bytes b)) a.1 in
        let j = conditions_few sc u (p + 1 + length (boolean_bytes b) + length (statement_bytes t)) a.2 in
        rw (length-append (conditions e.relations sc t (p + 1 + length (boolean_bytes b)))) (omega arith)
    conditions_few sc (select rs) p a = let i = receives-conditions-few sc rs (p + 1) a.1 in omega arith

    pub statements-conditions-few : (sc : Scope) (ts : Statements) (p : ℕ) → StatementsAllowed e sc ts →
        length (statements_conditions e.relations sc ts p) ≤ statements_count ts
    statements-conditions-few sc nothing p a = omega arith
    statements-conditions-few sc (t then ts) p a =
        let i = conditions_few sc t p a.0 in
        let j = statements-conditions-few sc ts (p + length (statement_bytes t)) a.1 in
        rw (length-append (conditions e.relations sc t p)) (omega arith)

    pub receives-conditions-few : (sc : Scope) (rs : Receives) (p : ℕ) → ReceivesAllowed e sc rs →
        length (receives_conditions e.relations sc rs p) ≤ receives_count rs
    receives-conditions-few sc (last m t) p a = let i = conditions_few sc t (p + 2) a.1 in omega arith
    receives-conditions-few sc (more m t rs) p a =
        let i = conditions_few sc t (p + 2) a.1 in
        let j = receives-conditions-few sc rs (p + 2 + length (statement_bytes t)) a.2 in
        rw (length-append (conditions e.relations sc t (p + 2))) (omega arith)

pub request-conditions-few : (d : List Relation) (r : Request) → Allowed d r →
    length (request_conditions d r) ≤ statements_count r.statements
unfolding request_conditions
request-conditions-few d r a = statements-conditions-few (environment d r) outermost r.statements (statements_start r) a.statements
