-- The any, unique and statistic codes of a boolean or a value, one after another.
use Rattle.std.specs.Prelude.{ℕ, ◌+◌, List, [], ◌∷◌, ◌++◌, length}
use Rattle.std.proofs.Math.Option.{Option, none}
use Rattle.wire.specs.Codes as blr
use Rattle.grammar.specs.Tree.{Stream, Value, literal, reference, arithmetic, negate, statistic, count, Boolean, compare, search, between, connect, not, missing, quantify, Clauses, no_clauses, such, sorted, Rse, rse}
use Rattle.grammar.specs.Bytes.{statistic_code, quantifier_code, value_bytes, boolean_bytes, keys_bytes, head_bytes, rse_bytes}
use Rattle.grammar.specs.Environment.{Environment, Scope, under_streams, under_rse_of}
use Rattle.grammar.specs.declared.Kind as Grammar
use Rattle.grammar.specs.Kinds.{kind_of}
use Rattle.walking.specs.Sees.{such_place}

-- the place of the code, the stream of its rse, the place of the rse's condition if it has one, the place after the rse and that after all
-- of it, and the kind of a statistic's number, which an any, a unique and a count have not
pub record Site : Type 0 where
  pub place : ℕ
  pub stream : Stream
  pub condition : Option ℕ
  pub after : ℕ
  pub end : ℕ
  pub kind : Option Grammar.Kind

abbrev pub site_at : Stream → Option ℕ → ℕ → ℕ → Option Grammar.Kind → ℕ → Site
site_at s c q end k p = record { place = p; stream = s; condition = c; after = q; end = end; kind = k }

-- with the streams of its rse, which is one
abbrev pub site_of : List Stream → Option ℕ → ℕ → ℕ → Option Grammar.Kind → ℕ → List Site
site_of [] c q end k p = []
site_of (s ∷ []) c q end k p = site_at s c q end k p ∷ []
site_of (s ∷ t ∷ ss) c q end k p = []

-- those of a value and of a boolean at p under a scope, in the order of their places, sorts left out
unfoldable mutual
  pub value_sites : Environment → Scope → Value → ℕ → List Site
  value_sites e sc (literal l) p = []
  value_sites e sc (reference r) p = []
  value_sites e sc (arithmetic o v w) p = value_sites e sc v (p + 1) ++ value_sites e sc w (p + 1 + length (value_bytes v))
  value_sites e sc (negate v) p = value_sites e sc v (p + 1)
  value_sites e sc (statistic k r v) p =
      rse_sites e (statistic_code k) sc r (kind_of e sc (statistic k r v)) p (p + 1 + length (rse_bytes r) + length (value_bytes v)) ++
      value_sites e (under_rse_of e.relations (statistic_code k) sc r) v (p + 1 + length (rse_bytes r))
  value_sites e sc (count r) p = rse_sites e blr.count sc r none p (p + 1 + length (rse_bytes r))

  pub sites : Environment → Scope → Boolean → ℕ → List Site
  sites e sc (compare c v w) p = value_sites e sc v (p + 1) ++ value_sites e sc w (p + 1 + length (value_bytes v))
  sites e sc (search t v w) p = value_sites e sc v (p + 1) ++ value_sites e sc w (p + 1 + length (value_bytes v))
  sites e sc (between v w x) p =
      value_sites e sc v (p + 1) ++ value_sites e sc w (p + 1 + length (value_bytes v)) ++
      value_sites e sc x (p + 1 + length (value_bytes v) + length (value_bytes w))
  sites e sc (connect c a b) p = sites e sc a (p + 1) ++ sites e sc b (p + 1 + length (boolean_bytes a))
  sites e sc (not a) p = sites e sc a (p + 1)
  sites e sc (missing v) p = value_sites e sc v (p + 1)
  sites e sc (quantify q r) p = rse_sites e (quantifier_code q) sc r none p (p + 1 + length (rse_bytes r))

  -- of the rse of the code at p, which opens its stream, with the kind of its number and the place after all of it
  pub rse_sites : Environment → ℕ → Scope → Rse → Option Grammar.Kind → ℕ → ℕ → List Site
  rse_sites e o sc (rse ss cs) k p end =
      site_of ss (such_place cs (p + 1 + length (head_bytes ss))) (p + 1 + length (rse_bytes (rse ss cs))) end k p ++
      clauses_sites e (under_streams e.relations o sc ss) cs (p + 1 + length (head_bytes ss))

  pub clauses_sites : Environment → Scope → Clauses → ℕ → List Site
  clauses_sites e sc no_clauses p = []
  clauses_sites e sc (such b cs) p = sites e sc b (p + 1) ++ clauses_sites e sc cs (p + 1 + length (boolean_bytes b))
  clauses_sites e sc (sorted ks cs) p = clauses_sites e sc cs (p + 2 + length (keys_bytes ks))
