-- What the readers of values, booleans and clauses promise, in the definitions' terms.
use Rattle.std.specs.Prelude.{ℕ, ◌+◌, ◌<◌, ◌≤◌, ◌≡◌, Bool, true, false, not as negation, List, ◌++◌, map, ltb, pos, length, Result, Ok, Err, is_some}
use Rattle.std.specs.Prelude as std
use Rattle.std.proofs.Math.Option.{Option, none, some}
use Rattle.wire.specs.Limits.{max_request_bytes, max_depth, max_contexts}
use Rattle.wire.specs.Classes.{Class, clause_class}
use Rattle.wire.specs.Options.{refused_at}
use Rattle.wire.specs.declared.refused.Refused.{Refused}
use Rattle.wire.specs.declared.codes.BooleanCode.{BooleanCode}
use Rattle.wire.specs.declared.codes.BooleanCode.TheVariants.{Compare, Search, Between, Connect, Not, Missing, Quantify}
use Rattle.wire.specs.declared.codes.Statistic.{Statistic}
use Rattle.wire.specs.declared.codes.ClauseCode.{ClauseCode}
use Rattle.wire.specs.declared.codes.ClauseCode.TheVariants as Clause
use Rattle.grammar.specs.declared.Kind.{Kind}
use Rattle.grammar.specs.declared.Kind.TheVariants.{Number}
use Rattle.grammar.specs.declared.Cursor.{Cursor}
use Rattle.grammar.specs.declared.Refusal.{Refusal}
use Rattle.grammar.specs.declared.Refusal.TheVariants.{NotDue, TooGreat, Unfit}
use Rattle.grammar.specs.Tree as Tree
use Rattle.grammar.specs.Tree.{Value, Boolean, Keys, Rse}
use Rattle.grammar.specs.Bytes.{rse_bytes}
use Rattle.grammar.specs.Environment.{Environment, Scope}
use Rattle.grammar.specs.Kinds.{kind_of}
use Rattle.grammar.specs.Rows.{value_rows, boolean_rows, keys_rows, clauses_rows, rse_rows}
use Rattle.grammar.specs.Conditions.{clauses_conditions}
use Rattle.grammar.specs.Reader.{Read, read, Reader, ◌>>=◌, ◌>>◌, return, need, place, coded}
use Rattle.grammar.specs.Rses.{keys, sort, clauses}
use Rattle.grammar.specs.Values.{Operands, operands, one_stream_rse, statistic_under, read_value, boolean_under, read_boolean}
use Rattle.grammar.specs.Internal.Steps.{fit_of}
use Rattle.tables.specs.Tables.{Tables, contexts_alone, cursor_after, with_part, Wrote}
use Rattle.tables.specs.Written.{listed}
use Rattle.scopes.specs.Internal.Columns.{scope_numbers}
use Rattle.scopes.specs.Scopes.{contexts_held, sends_held, labels_held}
use Rattle.openings.specs.Streams.{Proper}
use Rattle.expressions.specs.declared.clauses.Stood.{Stood}

-- ---- codes, and a level below them

-- a code of a class, with l levels left for it and what stands in it
unfoldable pub leveled : {A : Type 0} → (ℕ → Class A) → ℕ → Reader A
leveled class l = do
  p ← place
  k ← coded class
  need (ltb 0 l) TooGreat p
  return k

abbrev pub clause_due : ClauseCode → Bool → Bool → Bool
clause_due Clause.Boolean such sorted = negation such
clause_due Clause.Sort such sorted = negation sorted
clause_due Clause.End such sorted = true

-- the code of a clause, so many at most; the flags say which have stood before
unfoldable pub clause_coded : ℕ → Bool → Bool → Reader ClauseCode
clause_coded n such sorted = do
  p ← place
  need (ltb 0 n) TooGreat p
  k ← coded clause_class
  need (clause_due k such sorted) NotDue p
  return k

-- ---- the answer of an operator at p, by the kind of its result or by a test

-- the answer of a reader of values, and of one of what has no kind
abbrev pub ValueAnswer : Type 0
ValueAnswer = Result (std.Option Kind × Cursor) (Refused Refusal)

abbrev pub Answer : Type 0
Answer = Result Cursor (Refused Refusal)

abbrev pub kind_answer : Option Kind → ℕ → Cursor → ValueAnswer
kind_answer none p c = Err (refused_at Unfit p)
kind_answer (some k) p c = Ok (fit_of (some k), c)

-- a boolean has no kind
abbrev pub no_kind : {A : Type 0} → A → std.Option Kind
no_kind a = std.None

abbrev pub test_answer : Bool → ℕ → Cursor → ValueAnswer
test_answer true p c = Ok (std.None, c)
test_answer false p c = Err (refused_at Unfit p)

-- a count of what was read, a number of scale 0
abbrev pub count_answer : Answer → ValueAnswer
count_answer (Ok c) = Ok (std.Some (Number (pos 0)), c)
count_answer (Err r) = Err r

-- a boolean of this code has values under it, and no booleans
abbrev pub tests_values : BooleanCode → Bool
tests_values (Compare o) = true
tests_values (Search o) = true
tests_values Between = true
tests_values (Connect o) = false
tests_values Not = false
tests_values Missing = true
tests_values (Quantify q) = false

-- what a reader that may open contexts is given: a request within 01's sizes, a dictionary that was checked, a place in the request, and a
-- scope that fits, with so many levels left
pub record Ready (s d sc : List ℕ) (c : Cursor) (levels : ℕ) : Type 0 where
  pub short : length s ≤ max_request_bytes
  pub is-proper : Proper d
  pub inside : c.at ≤ length s
  pub contexts_few : c.contexts ≤ max_contexts
  pub scope_whole : length sc ≡ scope_numbers
  pub scope_fits : contexts_held sc ≤ c.contexts
  pub sends_fit : sends_held sc + levels < max_depth
  pub labels_fit : labels_held sc + levels < max_depth

-- ---- what is read, with l levels left for it: the reading of the definitions, and in the table of contexts the rows of those
-- ---- declared in it

abbrev pub value_fit : Environment → Scope → Value → std.Option Kind
value_fit e sc v = fit_of (kind_of e sc v)

abbrev pub value_tables : Environment → Scope → ℕ → Value → Tables
value_tables e sc p v = contexts_alone (value_rows e.relations sc v p)

abbrev pub ValueRead : ℕ → Environment → Scope → List ℕ → Cursor → List ℕ → List ℕ → ValueAnswer → Type 0
ValueRead l e sc s c ct ct' r =
    Wrote (read_value l e sc s c) (with_part (value_fit e sc)) c (value_tables e sc c.at) (contexts_alone ct) (contexts_alone ct') r

abbrev pub boolean_tables : Environment → Scope → ℕ → Boolean → Tables
boolean_tables e sc p b = contexts_alone (boolean_rows e.relations sc b p)

abbrev pub BooleanRead : ℕ → Environment → Scope → List ℕ → Cursor → List ℕ → List ℕ → Answer → Type 0
BooleanRead l e sc s c ct ct' r =
    Wrote (read_boolean l e sc s c) cursor_after c (boolean_tables e sc c.at) (contexts_alone ct) (contexts_alone ct') r

-- the readers of operands with l levels left
abbrev pub operands_at : ℕ → Environment → Operands
operands_at l e = operands (λ x. read_boolean l e x) (λ x. read_value l e x)

-- what stands under the code of a boolean at p
abbrev pub TestRead : ℕ → Environment → Scope → ℕ → BooleanCode → List ℕ → Cursor → List ℕ → List ℕ → ValueAnswer → Type 0
TestRead l e sc p k s c ct ct' r =
    Wrote (boolean_under (operands_at l e) e sc p k s c) (with_part no_kind) c (boolean_tables e sc p) (contexts_alone ct) (contexts_alone ct') r

-- the rse of an any, a unique or a count, which a code opens
abbrev pub rse_tables : Environment → Scope → ℕ → ℕ → Rse → Tables
rse_tables e sc o p r = contexts_alone (rse_rows e.relations o sc r p (p + length (rse_bytes r)))

abbrev pub RseRead : ℕ → Environment → Scope → ℕ → List ℕ → Cursor → List ℕ → List ℕ → Answer → Type 0
RseRead l e sc o s c ct ct' r =
    Wrote (one_stream_rse (operands_at l e) e sc o s c) cursor_after c (rse_tables e sc o c.at) (contexts_alone ct) (contexts_alone ct') r

-- a statistic after its code at p
abbrev pub StatisticRead : ℕ → Environment → Scope → ℕ → Statistic → List ℕ → Cursor → List ℕ → List ℕ → ValueAnswer → Type 0
StatisticRead l e sc p k s c ct ct' r =
    Wrote (statistic_under (operands_at l e) e sc p k s c) (with_part (value_fit e sc)) c (value_tables e sc p) (contexts_alone ct) (contexts_alone ct') r

abbrev pub keys_tables : Environment → Scope → ℕ → Keys → Tables
keys_tables e sc p ks = contexts_alone (keys_rows e.relations sc ks p)

abbrev pub KeysRead : ℕ → ℕ → Environment → Scope → List ℕ → Cursor → List ℕ → List ℕ → Answer → Type 0
KeysRead n l e sc s c ct ct' r =
    Wrote (keys n (read_value l e sc) s c) cursor_after c (keys_tables e sc c.at) (contexts_alone ct) (contexts_alone ct') r

-- the values of a sort stand after their count
abbrev pub SortRead : ℕ → Environment → Scope → List ℕ → Cursor → List ℕ → List ℕ → Answer → Type 0
SortRead l e sc s c ct ct' r =
    Wrote (sort (read_value l e sc) s c) cursor_after c (keys_tables e sc (c.at + 1)) (contexts_alone ct) (contexts_alone ct') r

-- ---- clauses, and the place of their boolean

abbrev pub clauses_tables : Environment → Scope → ℕ → Tree.Clauses → Tables
clauses_tables e sc p cs = contexts_alone (clauses_rows e.relations sc cs p)

abbrev pub clauses_places : Scope → Tree.Clauses → ℕ → List ℕ
clauses_places sc cs p = map (λ x. x.place) (clauses_conditions sc cs p)

-- the place of a boolean, where one stood
abbrev pub PlaceAnswer : Type 0
PlaceAnswer = Result (std.Option ℕ × Cursor) (Refused Refusal)

-- clauses that a reader reads from a cursor on, after a boolean at a place, or none; the place of the boolean is told
pub record MoreClauses (x : Read Tree.Clauses) (such : std.Option ℕ) (e : Environment) (sc : Scope) (c : Cursor) (ct ct' : List ℕ)
    (r : PlaceAnswer) : Type 0 where
  pub place : std.Option ℕ
  pub wrote : Wrote x (λ cs q. (place, q)) c (clauses_tables e sc c.at) (contexts_alone ct) (contexts_alone ct') r
  pub told : (cs : Tree.Clauses) (q : Cursor) → x ≡ read cs q → listed place ≡ listed such ++ clauses_places sc cs c.at

-- beside what has stood before
abbrev pub MoreRead : Stood → ℕ → Environment → Scope → List ℕ → Cursor → List ℕ → List ℕ → PlaceAnswer → Type 0
MoreRead stood l e sc s c ct ct' r =
    MoreClauses
    (clauses stood.most (read_boolean l e sc) (read_value l e sc) (is_some stood.such) stood.sorted s c)
    stood.such e sc c ct ct' r

abbrev pub ClausesRead : ℕ → Environment → Scope → List ℕ → Cursor → List ℕ → List ℕ → PlaceAnswer → Type 0
ClausesRead l e sc s c ct ct' r =
    MoreClauses (clauses 3 (read_boolean l e sc) (read_value l e sc) false false s c) std.None e sc c ct ct' r
