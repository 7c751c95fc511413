-- A condition and a from-value of an accepted request: where it stands, what its meaning is, and that the walk over its bytes gives it.
use Prim.Native.Nat.{ℕ, zero, suc, ◌+◌, ◌≤◌}
use mathlib.Core.Path.{◌≡◌, refl, sym, ap, subst, ◌∙◌}
use mathlib.Core.List.{List, [], ◌∷◌, ◌++◌, append_assoc}
use mathlib.Core.Option.{some}
use native.Mathlib.Omega.{arith}
use lib.ListN.{length, drop, get_elem?, length-append, length-drop}
use Rattle.wire.specs.Codes as blr
use Rattle.wire.specs.Versions.{version_code}
use Rattle.dictionary.specs.Dictionary.{Relation}
use Rattle.grammar.specs.Tree.{Request}
use Rattle.grammar.specs.Bytes.{messages_bytes, statements_bytes, request_bytes}
use Rattle.grammar.specs.Environment.{Scope, outermost}
use Rattle.grammar.specs.Rules.{ValueAllowed, BooleanAllowed, environment}
use Rattle.grammar.specs.Rows.{statements_start, request_context_rows}
use Rattle.grammar.specs.Conditions.{Condition, request_conditions}
use Rattle.grammar.specs.Named.{FromValue, Own, owns_of, request_owns, from_of, from_value}
use Rattle.grammar.proofs.StepLaws.{absurd-eq}
use Rattle.grammar.proofs.RowNames.{all_own, all-owns}
use Rattle.grammar.proofs.Complete.{version-back}
use Rattle.meaning.specs.Data.{Result}
use Rattle.meaning.specs.Runs.{value_runs, due_runs, lent_runs, fetch_around}
use Rattle.meaning.specs.Meaning.{meaning, value_meaning, value_of, truth_of, size, boolean_size, around, around_value}
use Rattle.meaning.specs.Demand.{Accepted, Asked, AskedValue, NotStray}
use Rattle.meaning.proofs.House.{house-is}
use Rattle.walking.specs.Walk.{ended, version_at, Sight, value_at, boolean_at}
use Rattle.walking.specs.Sees.{SeesValue, Sees}
use Rattle.walking.specs.Declared.{Declared, declared_all, rows_of, contexts_at}
use Rattle.walking.proofs.Link.{past, value-walk, boolean-walk}
use Rattle.walking.proofs.Due.{all-lent}
use Rattle.walking.proofs.Sites.{All, Of, all_append, Stands, Holds, HoldsValue, all-sites, contexts-rows}
use Rattle.walking.proofs.Stray.{never-stray, never-stray-value}
use Rattle.walking.proofs.Typed.{typed}
use Rattle.walking.proofs.Decoded.{decoded}

pub at-index : {A : Type 0} (P : A → Type 0) (l : List A) (n : ℕ) (x : A) → All P l → get_elem? l n ≡ some x → P x
at-index P [] n x h e = absurd-eq (cc)
at-index P (y ∷ l) zero x h e = let z : y ≡ x = cc in subst P z h.0
at-index P (y ∷ l) (suc n) x h e = at-index P l n x h.1 e

-- what holds of each statement's own, of the n-th condition and of the from-value of row n
module _ (P : Condition → Type 0) (Q : FromValue → Type 0) where
  abbrev Both : Own → Type 0
  Both o = All P o.conditions × Of Q o.from

  pub of-conditions : (os : List Own) → All Both os → All P (all_own os)
  of-conditions [] h = tt
  of-conditions (o ∷ os) h = all_append P o.conditions (all_own os) h.0.0 (of-conditions os h.1)

  pub of_row : (os : List Own) (k : ℕ) (x : FromValue) → All Both os → from_of (get_elem? os k) ≡ some x → Q x
  of_row [] k x h e = absurd-eq (cc)
  of_row (o ∷ os) zero x h e = subst (Of Q) e h.0.1
  of_row (o ∷ os) (suc k) x h e = of_row os k x h.1 e

-- the contexts that the request declares, as their rows have them
unfoldable pub declarations : List Relation → Request → List Declared
declarations rs t = declared_all rs outermost t.statements (statements_start t)

pub rows_are : (rs : List Relation) (t : Request) → request_context_rows rs t ≡ rows_of (declarations rs t)
unfolding request_context_rows declarations
rows_are rs t = contexts-rows rs t.statements outermost (statements_start t)

module _ (s d : List ℕ) (rs : List Relation) (t : Request) (a : Accepted s d rs t) where
  -- among the statements of the request
  abbrev Inside : ℕ → ℕ → List ℕ → Scope → Type 0 → Type 0
  Inside place depth bytes sc rule =
      Stands s (environment rs t) (statements_start t) (statements_start t + length (statements_bytes t.statements)) 32 [] (declarations rs t) place depth bytes sc rule

  abbrev pub Site : Condition → Type 0
  Site x = Holds s (environment rs t) (statements_start t) (statements_start t + length (statements_bytes t.statements)) 32 [] (declarations rs t) x

  abbrev pub ValueSite : FromValue → Type 0
  ValueSite x = HoldsValue s (environment rs t) (statements_start t) (statements_start t + length (statements_bytes t.statements)) 32 [] (declarations rs t) x

  owns-stand : All (λ o. All Site o.conditions × Of ValueSite o.from) (owns_of rs outermost t.statements (statements_start t))
  unfolding request_bytes declarations
  owns-stand =
      let ms = messages_bytes t.messages in
      let ss = statements_bytes t.statements in
      let tail = blr.end ∷ blr.eoc ∷ [] in
      let f : s ≡ (version_code t.version ∷ blr.begin ∷ ms) ++ (ss ++ tail) = a.bytes ∙ ap (λ z. version_code t.version ∷ blr.begin ∷ z) (append_assoc ms ss tail) in
      let z : 0 + length (version_code t.version ∷ blr.begin ∷ ms) ≡ statements_start t = omega arith in
      let g : drop (statements_start t) s ≡ ss ++ tail = rw z at (past s 0 (version_code t.version ∷ blr.begin ∷ ms) _ f) in
      let w = a.allowed.sized.depth in
      all-sites s (environment rs t) t.statements outermost (statements_start t) 32 tail (omega (arith, w)) a.allowed.statements g

  -- its last byte is one of the request's
  ends-within : (place depth : ℕ) (bytes : List ℕ) (sc : Scope) (rule : Type 0) → Inside place depth bytes sc rule → place + length bytes ≤ length s
  unfolding request_bytes
  ends-within place depth bytes sc rule w =
      let ms = messages_bytes t.messages in
      let ss = statements_bytes t.statements in
      let short = length-append (ms ++ ss) (blr.end ∷ blr.eoc ∷ []) in
      let e = ap length w.stands in
      let h = w.before in
      omega (arith, e, h, ap length a.bytes, short, length-append ms ss, length-drop place s, length-append bytes w.rest)

  -- the first byte of the request says its version
  pub first-version : version_at s ≡ t.version
  unfolding request_bytes
  first-version = ap version_at a.bytes ∙ (version-back t.version).1

-- ---- conditions

module _ (s d : List ℕ) (rs : List Relation) (t : Request) (a : Accepted s d rs t) (n : ℕ) (x : Condition) (c : Asked rs t n x) where
  pub site : Site s d rs t a x
  unfolding request_conditions
  site =
      let os = owns_of rs outermost t.statements (statements_start t) in
      at-index (Site s d rs t a) (request_conditions rs t) n x
      (subst (All (Site s d rs t a)) (all-owns rs outermost t.statements (statements_start t))
      (of-conditions (Site s d rs t a) (ValueSite s d rs t a) os (owns-stand s d rs t a))) c

  -- a condition stands after the messages, so that no place is 0
  pub stands_after : statements_start t ≤ x.place
  stands_after = site.after

  -- the rules allow it where it stands
  pub allowed-there : BooleanAllowed (environment rs t) x.scope x.boolean
  allowed-there = site.allowed

  -- its last byte is one of the request's
  pub stands-within : x.place + boolean_size x.boolean ≤ length s
  stands-within = ends-within s d rs t a _ _ _ _ _ site

  -- a context is in scope at the condition exactly if its row's scope holds the condition's place
  pub scope-by-rows : x.scope.contexts ≡ contexts_at x.place (declarations rs t)
  scope-by-rows = site.scoped

  module _ (images rows runs : List ℕ) where
    pub means : meaning s d n images rows runs ≡ truth_of t.version (around rs t x images rows runs) x.place x.boolean
    unfolding meaning
    means = rw (a.bytes, decoded t, house-is d rs a.house, c)

    -- the walk over the bytes from the condition's place on gives the meaning, wherever it is seen from
    pub walks : {E : Type 0} (w : Sight E) (y : E) → Sees t.version w y (around rs t x images rows runs) x.boolean x.place →
        boolean_at w y 32 s x.place ≡ ended (meaning s d n images rows runs) (x.place + boolean_size x.boolean)
    walks w y h =
        let b = around rs t x images rows runs in
        let end = x.place + boolean_size x.boolean in
        let v = first-version s d rs t a in
        boolean-walk s w x.boolean y b 32 x.place site.rest site.shallow site.stands (subst (λ z. Sees z w y b x.boolean x.place) (sym v) h)
        ∙ ap (λ z. ended (truth_of z b x.place x.boolean) end) v
        ∙ ap (λ z. ended z end) (sym means)

    -- "stray never occurs"
    pub never : NotStray (meaning s d n images rows runs)
    unfolding around fetch_around
    never =
        let due = due_runs rs x.boolean x.place in
        subst NotStray (sym means)
        (never-stray (environment rs t) images (lent_runs due runs) (λ sc more. typed (environment rs t) sc images more)
        x.boolean x.scope rows x.place site.allowed (all-lent due runs))

-- ---- from-values

module _ (s d : List ℕ) (rs : List Relation) (t : Request) (a : Accepted s d rs t) (k : ℕ) (x : FromValue) (c : AskedValue rs t k x) where
  pub value-site : ValueSite s d rs t a x
  unfolding from_value request_owns
  value-site = of_row (Site s d rs t a) (ValueSite s d rs t a) (request_owns rs t) k x ((tt, tt), owns-stand s d rs t a) c

  -- a from-value stands after the messages, so that no place is 0
  pub value-stands-after : statements_start t ≤ x.place
  value-stands-after = value-site.after

  -- the rules allow it where it stands
  pub value-allowed-there : ValueAllowed (environment rs t) x.scope x.value
  value-allowed-there = value-site.allowed

  -- its last byte is one of the request's
  pub value-stands-within : x.place + size x.value ≤ length s
  value-stands-within = ends-within s d rs t a _ _ _ _ _ value-site

  -- a context is in scope at the from-value exactly if its row's scope holds the from-value's place
  pub value-scope-by-rows : x.scope.contexts ≡ contexts_at x.place (declarations rs t)
  value-scope-by-rows = value-site.scoped

  module _ (images rows runs : List ℕ) where
    pub value-means : value_meaning s d k images rows runs ≡ value_of t.version (around_value rs t x images rows runs) x.place x.value
    unfolding value_meaning
    value-means = rw (a.bytes, decoded t, house-is d rs a.house, c)

    -- the walk over the bytes from the from-value's place on gives the meaning, wherever it is seen from
    pub value-walks : {E : Type 0} (w : Sight E) (y : E) → SeesValue t.version w y (around_value rs t x images rows runs) x.value x.place →
        value_at w y 32 s x.place ≡ ended (value_meaning s d k images rows runs) (x.place + size x.value)
    value-walks w y h =
        let b = around_value rs t x images rows runs in
        let end = x.place + size x.value in
        let v = first-version s d rs t a in
        value-walk s w x.value y b 32 x.place value-site.rest value-site.shallow value-site.stands
        (subst (λ z. SeesValue z w y b x.value x.place) (sym v) h)
        ∙ ap (λ z. ended (value_of z b x.place x.value) end) v
        ∙ ap (λ z. ended z end) (sym value-means)

    pub value-never : NotStray (value_meaning s d k images rows runs)
    unfolding around_value fetch_around
    value-never =
        let due = value_runs rs x.value x.place in
        subst NotStray (sym value-means)
        (never-stray-value (environment rs t) images (lent_runs due runs) (λ sc more. typed (environment rs t) sc images more)
        x.value x.scope rows x.place value-site.allowed (all-lent due runs))
