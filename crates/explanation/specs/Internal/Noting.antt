-- What the functions of the walk that lays tests in rows promise.
use Rattle.std.specs.Prelude.{ℕ, ◌+◌, ◌-◌, ◌*◌, ◌/◌, ◌%◌, ◌≤◌, ◌≡◌, Bool, true, false, cond, List, [], ◌∷◌, ◌++◌, map, leb, ltb, length, take, drop, replicate, Result, Ok, Err}
use Rattle.std.proofs.lemmas.List.Edits.{sets}
use Rattle.wire.specs.Limits.{max_depth, max_request_bytes}
use Rattle.wire.specs.declared.codes.Connective.{Connective}
use Rattle.wire.specs.declared.codes.BooleanCode.{BooleanCode}
use Rattle.grammar.specs.declared.Refusal.TheVariants.{TablesTooShort}
use Rattle.meaning.specs.declared.Truth.{Truth}
use Rattle.meaning.specs.Evaluation.{Outcome, answered, refusal, strayed, refusal_of}
use Rattle.walking.specs.Walk.{Walked, at, fault, astray, ◌▷◌}
use Rattle.values.specs.declared.Stop.{Stop}
use Rattle.values.specs.Values.{stopped}
use Rattle.evaluator.specs.Slices.{Slices, sight_of, booleans_of, Fits}
use Rattle.explanation.specs.declared.rows.Noted.{Noted}
use Rattle.explanation.specs.Explanation.{Test, Explained, joined, outcome_number, in_table, test_table}
use Rattle.explanation.specs.Reason.{most_tests}
use Rattle.explanation.specs.Promise.{Explanation, count_of, counted}
use Rattle.explanation.specs.Internal.Walk.{explain_under, explain_at}

-- ---- rows

-- a test in one number
abbrev pub packed : Test → ℕ
packed t = t.place * 4 + outcome_number t.outcome

abbrev pub rows_of : List Test → List ℕ
rows_of ts = map packed ts

-- the two numbers of each
unfoldable pub unpacked : List ℕ → List ℕ
unpacked [] = []
unpacked (x ∷ xs) = x / 4 ∷ x % 4 ∷ unpacked xs

-- the rows from start to end, moved down
pub record Moved (to start end : ℕ) (t t' : List ℕ) (r : ℕ) : Type 0 where
  pub count : r ≡ to + (end - start)
  pub table : take r t' ≡ take to t ++ drop start (take end t)
  pub same : length t' ≡ length t

-- where the rows of two sides end that are needed, and the rows up to there
abbrev pub kept_count : Bool → Bool → ℕ → ℕ → ℕ → ℕ
kept_count true second n m k = m
kept_count false true n m k = n + (k - m)
kept_count false false n m k = k

abbrev pub kept_table : Bool → Bool → ℕ → ℕ → ℕ → List ℕ → List ℕ
kept_table true second n m k t = take m t
kept_table false true n m k t = take n t ++ drop m (take k t)
kept_table false false n m k t = take k t

pub record Keeps (first second : Bool) (n m k : ℕ) (t t' : List ℕ) (r : ℕ) : Type 0 where
  pub count : r ≡ kept_count first second n m k
  pub table : take r t' ≡ kept_table first second n m k t
  pub same : length t' ≡ length t

-- ---- the walk

abbrev pub truth_at : Walked Explained → Walked Truth
truth_at w = w ▷ (λ x e. at x.truth e)

-- what the code answers of a boolean
abbrev pub truth_told : Result Noted Stop → Walked Truth
truth_told (Ok y) = at y.truth y.end
truth_told (Err x) = stopped x

-- rows laid in t', up to so many of them, after the n that were laid in t before: those of the tests that the walk gives
pub record Lays (w : Walked Explained) (n : ℕ) (t t' : List ℕ) (rows : ℕ) : Type 0 where
  pub no_fewer : n ≤ rows
  pub within : rows ≤ length t
  pub laid : (x : Explained) (e : ℕ) → w ≡ at x e → take rows t' ≡ take n t ++ rows_of x.tests

abbrev pub LaysIf : Walked Explained → ℕ → List ℕ → List ℕ → Result Noted Stop → Type 0
LaysIf w n t t' (Ok y) = Lays w n t t' y.rows
LaysIf w n t t' (Err x) = Unit {0}

-- what the walk gives, with n rows laid in t before: the answer r, and in t' the rows of its tests after those
pub record Notes (w : Walked Explained) (n : ℕ) (t t' : List ℕ) (r : Result Noted Stop) : Type 0 where
  pub truth : truth_told r ≡ truth_at w
  pub same : length t' ≡ length t
  pub lays : LaysIf w n t t' r

-- the boolean at a place, with n rows laid before it in a table of so many
abbrev pub explains : Slices → ℕ → ℕ → ℕ → ℕ → Walked Explained
explains g rows levels n p = explain_at (sight_of g) g.bindings rows levels g.request n p

-- both sides of an and or an or, the first of which stands at p
abbrev pub sides : Slices → ℕ → ℕ → Connective → ℕ → ℕ → Walked Explained
sides g rows levels c n p =
    explains g rows levels n p ▷ (λ x q. explains g rows levels (n + length x.tests) q ▷ (λ y e. at (joined c x y) e))

-- what stands under a boolean's code at p
abbrev pub under : Slices → ℕ → ℕ → ℕ → ℕ → BooleanCode → Walked Explained
under g rows levels n p code =
    explain_under (λ m q. explains g rows (levels - 1) m q) (λ q. booleans_of g levels q) (ltb n rows) n p code

-- what a walk is lent is not too long, and n rows are laid
pub record Room (g : Slices) (t : List ℕ) (n : ℕ) : Type 0 where
  pub fits : Fits g.bindings g.runs
  pub short : length g.request ≤ max_request_bytes
  pub rows : n ≤ length t

-- ---- the answer

-- rows in a lent table of zeros
pub record RowsListed (rows t t' : List ℕ) (r : Explanation) : Type 0 where
  pub counts : count_of r ≡ cond (leb (2 * length rows) (length t)) (answered (length rows)) (refusal TablesTooShort 0)
  pub filled : t' ≡ cond (leb (2 * length rows) (length t)) (sets t 0 (unpacked rows)) t

-- what a walk comes out as
abbrev pub settled_in : Walked Explained → Outcome Explained
settled_in (at x q) = answered x
settled_in (fault f p) = refusal (refusal_of f) p
settled_in astray = strayed

-- what is explained, in a lent table of zeros
pub record Lists (o : Outcome Explained) (t t' : List ℕ) (r : Explanation) : Type 0 where
  pub counts : count_of r ≡ counted (in_table (length t) o)
  pub filled : t' ≡ test_table (in_table (length t) o) (length t)

-- the walk over a condition, in a table of so many rows, and of the most
abbrev pub walk_in : Slices → ℕ → ℕ → Walked Explained
walk_in g rows p = explains g rows max_depth 0 p

abbrev pub walk_over : Slices → ℕ → Walked Explained
walk_over g p = walk_in g most_tests p

-- so many rows are enough for the tests of a condition of a request: a test has five bytes or more, a connective one
abbrev pub RowsEnough : List ℕ → ℕ → Type 0
RowsEnough s rows = length s ≤ rows * 6 + 6

-- what such a walk is given, beside a lent table of zeros
pub record Walkable (g : Slices) (p : ℕ) (t : List ℕ) : Type 0 where
  pub fits : Fits g.bindings g.runs
  pub short : length g.request ≤ max_request_bytes
  pub never : walk_over g p ≡ astray → ⊥
  pub same : (rows : ℕ) → RowsEnough g.request rows → walk_in g rows p ≡ walk_over g p
  pub zeros : t ≡ replicate (length t) 0
