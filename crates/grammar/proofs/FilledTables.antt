-- The tables of an accepted request are its rows laid over zeros.
use Prim.Native.Nat.{ℕ, zero, suc, ◌+◌, ◌-◌, ◌*◌, ◌≤◌}
use mathlib.Core.Path.{◌≡◌, sym, ap, ◌∙◌}
use mathlib.Core.List.{List}
use native.Mathlib.Nat.{sub-zero, zero-sub, suc-sub-suc, zero-add}
use native.Mathlib.Omega.{arith}
use lib.ListN.{length, drop, replicate, length-replicate}
use lib.Seq.{sets, sets-eq}
use Rattle.wire.specs.Limits.{statement_table_numbers, parameter_table_numbers, context_table_numbers}
use Rattle.dictionary.specs.Dictionary.{Relation}
use Rattle.grammar.specs.Tree.{Request}
use Rattle.grammar.specs.Rules.{Allowed}
use Rattle.grammar.specs.Rows.{request_statement_rows, parameter_rows, request_context_rows}
use Rattle.grammar.specs.Reading.{padded}
use Rattle.grammar.proofs.RowCounts.{request-rows, parameter_rows_lem, request-contexts}

drop-replicate : (k m : ℕ) → drop {A = ℕ} k (replicate m 0) ≡ replicate (m - k) 0
drop-replicate zero m = rw (sub-zero m)
drop-replicate (suc k) zero = rw (zero-sub (suc k))
drop-replicate (suc k) (suc m) = drop-replicate k m ∙ ap (λ n. replicate {A = ℕ} n 0) (sym (suc-sub-suc m k))

pub over_zeros : (rows : List ℕ) (m : ℕ) → length rows ≤ m → sets (replicate m 0) 0 rows ≡ padded rows m
over_zeros rows m h = sets-eq rows (replicate m 0) 0 (rw (zero-add, length-replicate) h) ∙ rw (zero-add, drop-replicate (length rows) m)

module _ (d : List Relation) (r : Request) (a : Allowed d r) where
  pub statements-laid : (n : ℕ) → statement_table_numbers ≤ n → sets (replicate n 0) 0 (request_statement_rows r) ≡ padded (request_statement_rows r) n
  statements-laid n h = over_zeros (request_statement_rows r) n (omega (arith, request-rows r, a.sized.statements))

  pub parameters-laid : (n : ℕ) → parameter_table_numbers ≤ n → sets (replicate n 0) 0 (parameter_rows r.messages) ≡ padded (parameter_rows r.messages) n
  parameters-laid n h = over_zeros (parameter_rows r.messages) n (omega (arith, parameter_rows_lem r.messages, a.sized.parameters))

  pub contexts-laid : (n : ℕ) → context_table_numbers ≤ n → sets (replicate n 0) 0 (request_context_rows d r) ≡ padded (request_context_rows d r) n
  contexts-laid n h = over_zeros (request_context_rows d r) n (omega (arith, request-contexts d r, a.sized.contexts))
