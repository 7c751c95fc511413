-- That a walk sees what the meaning has around a value or a boolean: the same at each reference, and at each any, unique and statistic the
-- condition of its rse, the places after it, the kind of its number, and the meaning's records one for one.
use Rattle.std.specs.Prelude.{ℕ, ◌+◌, ◌≡◌, List, [], ◌∷◌, length}
use Rattle.std.proofs.Math.Option.{Option, none, some}
use Rattle.wire.specs.Codes as blr
use Rattle.wire.specs.declared.codes.Version.{Version}
use Rattle.grammar.specs.declared.Kind as Grammar
use Rattle.grammar.specs.Kinds.{kind_of}
use Rattle.grammar.specs.Tree.{Reference, Value, literal, reference, arithmetic, negate, statistic, count, Boolean, compare, search, between, connect, not, missing, quantify, Clauses, no_clauses, such, sorted, Rse, rse}
use Rattle.grammar.specs.Bytes.{statistic_code, quantifier_code, keys_bytes, head_bytes, rse_bytes}
use Rattle.meaning.specs.Runs.{Around, fetch_around, within_each}
use Rattle.meaning.specs.Meaning.{size, boolean_size, environment_around}
use Rattle.walking.specs.Walk.{Sight, Over}

-- two lists of one length, alike one for one
pub data Pairs {A B : Type 0} (P : A → B → Type 0) : List A → List B → Type 0 where
  no_pair : Pairs P [] []
  pairs : {x : A} {xs : List A} {y : B} {ys : List B} → P x y → Pairs P xs ys → Pairs P (x ∷ xs) (y ∷ ys)

-- where the condition of clauses at p stands, if they have one
unfoldable pub such_place : Clauses → ℕ → Option ℕ
such_place no_clauses p = none
such_place (such b cs) p = some (p + 1)
such_place (sorted ks cs) p = such_place cs (p + 2 + length (keys_bytes ks))

-- the same at each reference
abbrev pub Fetches : {E : Type 0} → Sight E → E → Around → Type 0
Fetches w x a = (r : Reference) → w.fetch x r ≡ fetch_around a r

-- the run of the code at p, which ends at a place, with the kind of its number, which an any, a unique and a count have not; `inside` says
-- what is seen with one record
pub record SeesRun {E : Type 0} (w : Sight E) (x : E) (r : Rse) (found : Option ℕ) (kind : Option Grammar.Kind)
    (each : Option (List Around)) (inside : E → Around → Type 0) (p end : ℕ) : Type 0 where
  pub run : Over E
  pub records : List Around
  pub run_is : w.over x p ≡ some run
  pub such_is : run.such ≡ found
  pub number_is : run.number ≡ p + 1 + length (rse_bytes r)
  pub end_is : run.end ≡ end
  pub kind_is : run.kind ≡ kind
  pub records_are : each ≡ some records
  pub alike : Pairs inside run.each records

unfoldable mutual
  pub SeesValue : {E : Type 0} → Version → Sight E → E → Around → Value → ℕ → Type 0
  SeesValue e w x a (literal l) p = Unit {0}
  SeesValue e w x a (reference r) p = Fetches w x a
  SeesValue e w x a (arithmetic o u v) p = SeesValue e w x a u (p + 1) × SeesValue e w x a v (p + 1 + size u)
  SeesValue e w x a (negate v) p = SeesValue e w x a v (p + 1)
  SeesValue e w x a (statistic k r v) p =
      SeesRse e w x a (statistic_code k) r (kind_of (environment_around e a) a.scope (statistic k r v))
      (λ y b. SeesValue e w y b v (p + 1 + length (rse_bytes r))) p (p + 1 + length (rse_bytes r) + size v)
  SeesValue e w x a (count r) p = SeesRse e w x a blr.count r none (λ y b. Unit {0}) p (p + 1 + length (rse_bytes r))

  pub Sees : {E : Type 0} → Version → Sight E → E → Around → Boolean → ℕ → Type 0
  Sees e w x a (compare c u v) p = SeesValue e w x a u (p + 1) × SeesValue e w x a v (p + 1 + size u)
  Sees e w x a (search t u v) p = SeesValue e w x a u (p + 1) × SeesValue e w x a v (p + 1 + size u)
  Sees e w x a (between u v z) p =
      SeesValue e w x a u (p + 1) × SeesValue e w x a v (p + 1 + size u) × SeesValue e w x a z (p + 1 + size u + size v)
  Sees e w x a (connect c b d) p = Sees e w x a b (p + 1) × Sees e w x a d (p + 1 + boolean_size b)
  Sees e w x a (not b) p = Sees e w x a b (p + 1)
  Sees e w x a (missing v) p = SeesValue e w x a v (p + 1)
  Sees e w x a (quantify q r) p = SeesRse e w x a (quantifier_code q) r none (λ y b. Unit {0}) p (p + 1 + length (rse_bytes r))

  -- the rse of the code at p that opens its stream; `more` says what else is seen with one record
  pub SeesRse : {E : Type 0} → Version → Sight E → E → Around → ℕ → Rse → Option Grammar.Kind → (E → Around → Type 0) → ℕ → ℕ → Type 0
  SeesRse e w x a o (rse ss cs) kind more p end =
      SeesRun w x (rse ss cs) (such_place cs (p + 1 + length (head_bytes ss))) kind (within_each a p o ss)
      (λ y b. SeesClauses e w y b cs (p + 1 + length (head_bytes ss)) × more y b) p end

  pub SeesClauses : {E : Type 0} → Version → Sight E → E → Around → Clauses → ℕ → Type 0
  SeesClauses e w x a no_clauses p = Unit {0}
  SeesClauses e w x a (such b cs) p = Sees e w x a b (p + 1)
  SeesClauses e w x a (sorted ks cs) p = SeesClauses e w x a cs (p + 2 + length (keys_bytes ks))
