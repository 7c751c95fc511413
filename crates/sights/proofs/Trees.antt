-- The rows, the runs due and the rules of the any, unique and statistic codes of a value or a boolean, one after another.
use Prim.Native.Nat.{ℕ, ◌+◌}
use mathlib.Core.Path.{◌≡◌, refl, sym, ap₂, subst, ◌∙◌}
use mathlib.Core.List.{List, [], ◌∷◌, ◌++◌, map, map-append}
use mathlib.Core.Option.{Option, none, some}
use native.Mathlib.Omega.{arith}
use lib.ListN.{length}
use borrow.Author.Tests.{ne_eqb}
use Rattle.wire.specs.Codes as blr
use Rattle.dictionary.specs.Dictionary.{Relation}
use Rattle.dictionary.specs.Naming.{relation_of}
use Rattle.grammar.specs.Tree.{Stream, Value, literal, reference, arithmetic, negate, statistic, count, Boolean, compare, search, between, connect, not, missing, quantify, Clauses, no_clauses, such, sorted, Rse, rse}
use Rattle.grammar.specs.Bytes.{statistic_code, quantifier_code, value_bytes, boolean_bytes, keys_bytes, head_bytes, rse_bytes}
use Rattle.grammar.specs.Environment.{Environment, Scope, under_streams, under_rse_of}
use Rattle.grammar.specs.declared.Kind as Grammar
use Rattle.grammar.specs.Kinds.{kind_of}
use Rattle.grammar.specs.Scope.{EachScoped}
use Rattle.grammar.specs.Rules.{ValueAllowed, BooleanAllowed, ClausesAllowed, RseAllowed}
use Rattle.meaning.specs.Runs.{DueRun, due_run, value_runs, due_runs, rse_runs, clauses_runs}
use Rattle.meaning.specs.Meaning.{size, boolean_size}
use Rattle.walking.specs.Sees.{such_place}
use Rattle.walking.proofs.Sites.{All, all_append}
use Rattle.walking.proofs.Due.{Grows, value-grow, due-grow}
use Rattle.surroundings.specs.Slots.{place_or}
use Rattle.surroundings.proofs.Related.{some_of}
use Rattle.surroundings.specs.Bindings.{Binding, place_if}
use Rattle.runs.specs.Found.{run_binding, run_bindings, value_bindings, bindings_of, rse_bindings, clauses_bindings}
use Rattle.sights.specs.Sites.{Site, site_of, value_sites, sites, rse_sites, clauses_sites}

-- ---- rows

-- the row of a site, whose kind is not noted yet
abbrev pub row_of : List ℕ → Site → Binding
row_of d z = run_binding d z.stream z.place (place_or z.condition) z.after z.end

module _ (d : List ℕ) (e : Environment) where
  stream-rows : (ss : List Stream) (c : Option ℕ) (q end : ℕ) (k : Option Grammar.Kind) (p : ℕ) →
      run_bindings d ss p (place_or c) q end ≡ map (row_of d) (site_of ss c q end k p)
  stream-rows [] c q end k p = refl
  stream-rows (s ∷ []) c q end k p = refl
  stream-rows (s ∷ t ∷ ss) c q end k p = refl

  both-rows : (a b : List Binding) (x y : List Site) → a ≡ map (row_of d) x → b ≡ map (row_of d) y → a ++ b ≡ map (row_of d) (x ++ y)
  both-rows a b x y f g = ap₂ (λ u v. u ++ v) f g ∙ sym (map-append (row_of d) x y)

  mutual
    unfolding value_bindings value_sites

    pub value-rows : (v : Value) (sc : Scope) (p : ℕ) → value_bindings d v p ≡ map (row_of d) (value_sites e sc v p)
    value-rows (literal l) sc p = refl
    value-rows (reference r) sc p = refl
    value-rows (arithmetic o v w) sc p =
        both-rows (value_bindings d v (p + 1)) (value_bindings d w (p + 1 + size v)) (value_sites e sc v (p + 1)) (value_sites e sc w (p + 1 + size v))
        (value-rows v sc (p + 1)) (value-rows w sc (p + 1 + size v))
    value-rows (negate v) sc p = value-rows v sc (p + 1)
    value-rows (statistic k r v) sc p =
        let o = statistic_code k in
        let q = p + 1 + length (rse_bytes r) in
        let c = kind_of e sc (statistic k r v) in
        let inner = under_rse_of e.relations o sc r in
        both-rows (rse_bindings d r p (q + size v)) (value_bindings d v q) (rse_sites e o sc r c p (q + size v)) (value_sites e inner v q)
        (rse-rows r o sc c p (q + size v)) (value-rows v inner q)
    value-rows (count r) sc p = rse-rows r blr.count sc none p (p + 1 + length (rse_bytes r))

    pub rows_are : (b : Boolean) (sc : Scope) (p : ℕ) → bindings_of d b p ≡ map (row_of d) (sites e sc b p)
    rows_are (compare c v w) sc p =
        both-rows (value_bindings d v (p + 1)) (value_bindings d w (p + 1 + size v)) (value_sites e sc v (p + 1)) (value_sites e sc w (p + 1 + size v))
        (value-rows v sc (p + 1)) (value-rows w sc (p + 1 + size v))
    rows_are (search t v w) sc p =
        both-rows (value_bindings d v (p + 1)) (value_bindings d w (p + 1 + size v)) (value_sites e sc v (p + 1)) (value_sites e sc w (p + 1 + size v))
        (value-rows v sc (p + 1)) (value-rows w sc (p + 1 + size v))
    rows_are (between v w x) sc p =
        let q = p + 1 + size v in
        both-rows (value_bindings d v (p + 1) ++ value_bindings d w q) (value_bindings d x (q + size w))
        (value_sites e sc v (p + 1) ++ value_sites e sc w q) (value_sites e sc x (q + size w))
        (both-rows (value_bindings d v (p + 1)) (value_bindings d w q) (value_sites e sc v (p + 1)) (value_sites e sc w q)
        (value-rows v sc (p + 1)) (value-rows w sc q))
        (value-rows x sc (q + size w))
    rows_are (connect c a b) sc p =
        both-rows (bindings_of d a (p + 1)) (bindings_of d b (p + 1 + boolean_size a)) (sites e sc a (p + 1)) (sites e sc b (p + 1 + boolean_size a))
        (rows_are a sc (p + 1)) (rows_are b sc (p + 1 + boolean_size a))
    rows_are (not a) sc p = rows_are a sc (p + 1)
    rows_are (missing v) sc p = value-rows v sc (p + 1)
    rows_are (quantify q r) sc p = rse-rows r (quantifier_code q) sc none p (p + 1 + length (rse_bytes r))

    rse-rows : (r : Rse) (o : ℕ) (sc : Scope) (k : Option Grammar.Kind) (p end : ℕ) →
        rse_bindings d r p end ≡ map (row_of d) (rse_sites e o sc r k p end)
    rse-rows (rse ss cs) o sc k p end =
        let q = p + 1 + length (head_bytes ss) in
        let after = p + 1 + length (rse_bytes (rse ss cs)) in
        let inner = under_streams e.relations o sc ss in
        both-rows (run_bindings d ss p (place_or (such_place cs q)) after end) (clauses_bindings d cs q)
        (site_of ss (such_place cs q) after end k p) (clauses_sites e inner cs q)
        (stream-rows ss (such_place cs q) after end k p) (clauses-rows cs inner q)

    clauses-rows : (cs : Clauses) (sc : Scope) (p : ℕ) → clauses_bindings d cs p ≡ map (row_of d) (clauses_sites e sc cs p)
    clauses-rows no_clauses sc p = refl
    clauses-rows (such b cs) sc p =
        both-rows (bindings_of d b (p + 1)) (clauses_bindings d cs (p + 1 + boolean_size b)) (sites e sc b (p + 1))
        (clauses_sites e sc cs (p + 1 + boolean_size b)) (rows_are b sc (p + 1)) (clauses-rows cs sc (p + 1 + boolean_size b))
    clauses-rows (sorted ks cs) sc p = clauses-rows cs sc (p + 2 + length (keys_bytes ks))

-- ---- runs due

abbrev pub due_of : List Relation → Site → DueRun
due_of rs z = record { place = z.place; relation = relation_of rs z.stream.relation }

module _ (e : Environment) where
  abbrev known : List Relation
  known = e.relations

  abbrev due_at : Site → DueRun
  due_at z = due_of e.relations z

  stream-due : (ss : List Stream) (c : Option ℕ) (q end : ℕ) (k : Option Grammar.Kind) (p : ℕ) → due_run known ss p ≡ map due_at (site_of ss c q end k p)
  stream-due [] c q end k p = refl
  stream-due (s ∷ []) c q end k p = refl
  stream-due (s ∷ t ∷ ss) c q end k p = refl

  both-due : (a b : List DueRun) (x y : List Site) → a ≡ map due_at x → b ≡ map due_at y → a ++ b ≡ map due_at (x ++ y)
  both-due a b x y f g = ap₂ (λ u v. u ++ v) f g ∙ sym (map-append due_at x y)

  mutual
    unfolding value_runs value_sites

    pub value-due : (v : Value) (sc : Scope) (p : ℕ) → value_runs known v p ≡ map due_at (value_sites e sc v p)
    value-due (literal l) sc p = refl
    value-due (reference r) sc p = refl
    value-due (arithmetic o v w) sc p =
        both-due (value_runs known v (p + 1)) (value_runs known w (p + 1 + size v)) (value_sites e sc v (p + 1)) (value_sites e sc w (p + 1 + size v))
        (value-due v sc (p + 1)) (value-due w sc (p + 1 + size v))
    value-due (negate v) sc p = value-due v sc (p + 1)
    value-due (statistic k r v) sc p =
        let o = statistic_code k in
        let q = p + 1 + length (rse_bytes r) in
        let c = kind_of e sc (statistic k r v) in
        let inner = under_rse_of known o sc r in
        both-due (rse_runs known r p) (value_runs known v q) (rse_sites e o sc r c p (q + size v)) (value_sites e inner v q)
        (rse-due r o sc c p (q + size v)) (value-due v inner q)
    value-due (count r) sc p = rse-due r blr.count sc none p (p + 1 + length (rse_bytes r))

    pub due-are : (b : Boolean) (sc : Scope) (p : ℕ) → due_runs known b p ≡ map due_at (sites e sc b p)
    due-are (compare c v w) sc p =
        both-due (value_runs known v (p + 1)) (value_runs known w (p + 1 + size v)) (value_sites e sc v (p + 1)) (value_sites e sc w (p + 1 + size v))
        (value-due v sc (p + 1)) (value-due w sc (p + 1 + size v))
    due-are (search t v w) sc p =
        both-due (value_runs known v (p + 1)) (value_runs known w (p + 1 + size v)) (value_sites e sc v (p + 1)) (value_sites e sc w (p + 1 + size v))
        (value-due v sc (p + 1)) (value-due w sc (p + 1 + size v))
    due-are (between v w x) sc p =
        let q = p + 1 + size v in
        both-due (value_runs known v (p + 1) ++ value_runs known w q) (value_runs known x (q + size w))
        (value_sites e sc v (p + 1) ++ value_sites e sc w q) (value_sites e sc x (q + size w))
        (both-due (value_runs known v (p + 1)) (value_runs known w q) (value_sites e sc v (p + 1)) (value_sites e sc w q)
        (value-due v sc (p + 1)) (value-due w sc q))
        (value-due x sc (q + size w))
    due-are (connect c a b) sc p =
        both-due (due_runs known a (p + 1)) (due_runs known b (p + 1 + boolean_size a)) (sites e sc a (p + 1)) (sites e sc b (p + 1 + boolean_size a))
        (due-are a sc (p + 1)) (due-are b sc (p + 1 + boolean_size a))
    due-are (not a) sc p = due-are a sc (p + 1)
    due-are (missing v) sc p = value-due v sc (p + 1)
    due-are (quantify q r) sc p = rse-due r (quantifier_code q) sc none p (p + 1 + length (rse_bytes r))

    rse-due : (r : Rse) (o : ℕ) (sc : Scope) (k : Option Grammar.Kind) (p end : ℕ) → rse_runs known r p ≡ map due_at (rse_sites e o sc r k p end)
    rse-due (rse ss cs) o sc k p end =
        let q = p + 1 + length (head_bytes ss) in
        let after = p + 1 + length (rse_bytes (rse ss cs)) in
        let inner = under_streams known o sc ss in
        both-due (due_run known ss p) (clauses_runs known cs q) (site_of ss (such_place cs q) after end k p) (clauses_sites e inner cs q)
        (stream-due ss (such_place cs q) after end k p) (clauses-due cs inner q)

    clauses-due : (cs : Clauses) (sc : Scope) (p : ℕ) → clauses_runs known cs p ≡ map due_at (clauses_sites e sc cs p)
    clauses-due no_clauses sc p = refl
    clauses-due (such b cs) sc p =
        both-due (due_runs known b (p + 1)) (clauses_runs known cs (p + 1 + boolean_size b)) (sites e sc b (p + 1))
        (clauses_sites e sc cs (p + 1 + boolean_size b)) (due-are b sc (p + 1)) (clauses-due cs sc (p + 1 + boolean_size b))
    clauses-due (sorted ks cs) sc p = clauses-due cs sc (p + 2 + length (keys_bytes ks))

  -- their places rise
  pub value-rising : (v : Value) (sc : Scope) (p : ℕ) → Grows p (p + size v) (map due_at (value_sites e sc v p))
  value-rising v sc p = subst (Grows p (p + size v)) (value-due v sc p) (value-grow known v p)

  pub rising : (b : Boolean) (sc : Scope) (p : ℕ) → Grows p (p + boolean_size b) (map due_at (sites e sc b p))
  rising b sc p = subst (Grows p (p + boolean_size b)) (due-are b sc p) (due-grow known b p)

-- ---- their relations are known, and no condition stands at 0

abbrev pub Good : List Relation → Site → Type 0
Good rs z = ((r : Relation) × (relation_of rs z.stream.relation ≡ some r)) × (place_if (place_or z.condition) ≡ z.condition)

such-there : (cs : Clauses) (p : ℕ) → place_if (place_or (such_place cs p)) ≡ such_place cs p
unfolding such_place
such-there no_clauses p = refl
such-there (such b cs) p = let z = ne_eqb (p + 1) 0 (λ e. absurd (omega (arith, e))) in rw z
such-there (sorted ks cs) p = such-there cs (p + 2 + length (keys_bytes ks))

module _ (e : Environment) where
  abbrev GoodHere : Site → Type 0
  GoodHere z = Good e.relations z

  stream-good : (ss : List Stream) (sc : Scope) (c : Option ℕ) (q end : ℕ) (k : Option Grammar.Kind) (p : ℕ) → EachScoped e.relations sc ss →
      place_if (place_or c) ≡ c → All GoodHere (site_of ss c q end k p)
  stream-good [] sc c q end k p h g = tt
  stream-good (s ∷ []) sc c q end k p h g = ((some_of (relation_of e.relations s.relation) h.0.0, g), tt)
  stream-good (s ∷ t ∷ ss) sc c q end k p h g = tt

  mutual
    unfolding value_sites

    pub value-good : (v : Value) (sc : Scope) (p : ℕ) → ValueAllowed e sc v → All GoodHere (value_sites e sc v p)
    value-good (literal l) sc p h = tt
    value-good (reference r) sc p h = tt
    value-good (arithmetic o v w) sc p h =
        all_append GoodHere (value_sites e sc v (p + 1)) (value_sites e sc w (p + 1 + size v)) (value-good v sc (p + 1) h.0)
        (value-good w sc (p + 1 + size v) h.1)
    value-good (negate v) sc p h = value-good v sc (p + 1) h.0
    value-good (statistic k r v) sc p h =
        let o = statistic_code k in
        let q = p + 1 + length (rse_bytes r) in
        let c = kind_of e sc (statistic k r v) in
        let inner = under_rse_of e.relations o sc r in
        all_append GoodHere (rse_sites e o sc r c p (q + size v)) (value_sites e inner v q)
        (rse-good r o sc c p (q + size v) h.1) (value-good v inner q h.2)
    value-good (count r) sc p h = rse-good r blr.count sc none p (p + 1 + length (rse_bytes r)) h.1

    pub all-good : (b : Boolean) (sc : Scope) (p : ℕ) → BooleanAllowed e sc b → All GoodHere (sites e sc b p)
    all-good (compare c v w) sc p h =
        all_append GoodHere (value_sites e sc v (p + 1)) (value_sites e sc w (p + 1 + size v)) (value-good v sc (p + 1) h.0)
        (value-good w sc (p + 1 + size v) h.1)
    all-good (search t v w) sc p h =
        all_append GoodHere (value_sites e sc v (p + 1)) (value_sites e sc w (p + 1 + size v)) (value-good v sc (p + 1) h.0)
        (value-good w sc (p + 1 + size v) h.1)
    all-good (between v w x) sc p h =
        let q = p + 1 + size v in
        all_append GoodHere (value_sites e sc v (p + 1) ++ value_sites e sc w q) (value_sites e sc x (q + size w))
        (all_append GoodHere (value_sites e sc v (p + 1)) (value_sites e sc w q) (value-good v sc (p + 1) h.0) (value-good w sc q h.1))
        (value-good x sc (q + size w) h.2)
    all-good (connect c a b) sc p h =
        all_append GoodHere (sites e sc a (p + 1)) (sites e sc b (p + 1 + boolean_size a)) (all-good a sc (p + 1) h.0)
        (all-good b sc (p + 1 + boolean_size a) h.1)
    all-good (not a) sc p h = all-good a sc (p + 1) h
    all-good (missing v) sc p h = value-good v sc (p + 1) h
    all-good (quantify q r) sc p h = rse-good r (quantifier_code q) sc none p (p + 1 + length (rse_bytes r)) h.1

    rse-good : (r : Rse) (o : ℕ) (sc : Scope) (k : Option Grammar.Kind) (p end : ℕ) → RseAllowed e o sc r → All GoodHere (rse_sites e o sc r k p end)
    rse-good (rse ss cs) o sc k p end h =
        let q = p + 1 + length (head_bytes ss) in
        let after = p + 1 + length (rse_bytes (rse ss cs)) in
        let inner = under_streams e.relations o sc ss in
        all_append GoodHere (site_of ss (such_place cs q) after end k p) (clauses_sites e inner cs q)
        (stream-good ss sc (such_place cs q) after end k p h.1.0 (such-there cs q)) (clauses-good cs inner q h.3)

    clauses-good : (cs : Clauses) (sc : Scope) (p : ℕ) → ClausesAllowed e sc cs → All GoodHere (clauses_sites e sc cs p)
    clauses-good no_clauses sc p h = tt
    clauses-good (such b cs) sc p h =
        all_append GoodHere (sites e sc b (p + 1)) (clauses_sites e sc cs (p + 1 + boolean_size b)) (all-good b sc (p + 1) h.0)
        (clauses-good cs sc (p + 1 + boolean_size b) h.1)
    clauses-good (sorted ks cs) sc p h = clauses-good cs sc (p + 2 + length (keys_bytes ks)) h.2
