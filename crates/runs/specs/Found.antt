-- The rows of the any, unique and statistic codes of a boolean or a value.
use Rattle.std.specs.Prelude.{ℕ, ◌+◌, List, [], ◌∷◌, ◌++◌, length}
use Rattle.dictionary.specs.Internal.Walk.{relation_place}
use Rattle.grammar.specs.Tree.{Stream, Value, literal, reference, arithmetic, negate, statistic, count, Boolean, compare, search, between, connect, not, missing, quantify, Clauses, no_clauses, such, sorted, Rse, rse}
use Rattle.grammar.specs.Bytes.{value_bytes, boolean_bytes, keys_bytes, head_bytes, rse_bytes}
use Rattle.walking.specs.Sees.{such_place}
use Rattle.surroundings.specs.Slots.{place_or}
use Rattle.surroundings.specs.Bindings.{Binding}

-- the row of the code at p, with a stream, the place of a condition or 0, the place after the rse and that after all of it; no run is
-- known yet, nor the kind of a number
abbrev pub run_binding : List ℕ → Stream → ℕ → ℕ → ℕ → ℕ → Binding
run_binding d s p q after end =
    record {
      code = p;
      number = s.context;
      relation = place_or (relation_place d s.relation);
      record-place = 0;
      such = q;
      end = end;
      first = 0;
      count = 0;
      after = after;
      kind = 0;
    }

-- that of its streams: an any, a unique or a statistic has one
abbrev pub run_bindings : List ℕ → List Stream → ℕ → ℕ → ℕ → ℕ → List Binding
run_bindings d [] p q after end = []
run_bindings d (s ∷ []) p q after end = run_binding d s p q after end ∷ []
run_bindings d (s ∷ t ∷ ss) p q after end = []

-- those of a value and of a boolean at p beside a dictionary, in the order of their codes' places, sorts left out
unfoldable mutual
  pub value_bindings : List ℕ → Value → ℕ → List Binding
  value_bindings d (literal l) p = []
  value_bindings d (reference r) p = []
  value_bindings d (arithmetic o v w) p = value_bindings d v (p + 1) ++ value_bindings d w (p + 1 + length (value_bytes v))
  value_bindings d (negate v) p = value_bindings d v (p + 1)
  value_bindings d (statistic k r v) p =
      rse_bindings d r p (p + 1 + length (rse_bytes r) + length (value_bytes v)) ++ value_bindings d v (p + 1 + length (rse_bytes r))
  value_bindings d (count r) p = rse_bindings d r p (p + 1 + length (rse_bytes r))

  pub bindings_of : List ℕ → Boolean → ℕ → List Binding
  bindings_of d (compare c v w) p = value_bindings d v (p + 1) ++ value_bindings d w (p + 1 + length (value_bytes v))
  bindings_of d (search t v w) p = value_bindings d v (p + 1) ++ value_bindings d w (p + 1 + length (value_bytes v))
  bindings_of d (between v w x) p =
      value_bindings d v (p + 1) ++ value_bindings d w (p + 1 + length (value_bytes v)) ++
      value_bindings d x (p + 1 + length (value_bytes v) + length (value_bytes w))
  bindings_of d (connect c a b) p = bindings_of d a (p + 1) ++ bindings_of d b (p + 1 + length (boolean_bytes a))
  bindings_of d (not a) p = bindings_of d a (p + 1)
  bindings_of d (missing v) p = value_bindings d v (p + 1)
  bindings_of d (quantify q r) p = rse_bindings d r p (p + 1 + length (rse_bytes r))

  -- of the rse of the code at p, which ends at a place
  pub rse_bindings : List ℕ → Rse → ℕ → ℕ → List Binding
  rse_bindings d (rse ss cs) p end =
      run_bindings d ss p (place_or (such_place cs (p + 1 + length (head_bytes ss)))) (p + 1 + length (rse_bytes (rse ss cs))) end ++
      clauses_bindings d cs (p + 1 + length (head_bytes ss))

  pub clauses_bindings : List ℕ → Clauses → ℕ → List Binding
  clauses_bindings d no_clauses p = []
  clauses_bindings d (such b cs) p = bindings_of d b (p + 1) ++ clauses_bindings d cs (p + 1 + length (boolean_bytes b))
  clauses_bindings d (sorted ks cs) p = clauses_bindings d cs (p + 2 + length (keys_bytes ks))
