-- The receives of a select.
use Prim.Native.Nat.{ℕ, ◌+◌}
use mathlib.Core.Path.{◌≡◌, refl}
use mathlib.Core.Bool.{Bool}
use mathlib.Core.List.{List, []}
use Rattle.wire.specs.Limits.{max_statements}
use Rattle.wire.specs.declared.codes.StatementCode.TheVariants as Code
use Rattle.grammar.specs.declared.Cursor.{Cursor}
use Rattle.grammar.specs.Tree.{select}
use Rattle.grammar.specs.Environment.{Environment, Scope}
use Rattle.grammar.specs.Sizes.{own_conditions}
use Rattle.grammar.specs.Rows.{rows_below, context_rows}
use Rattle.grammar.specs.Conditions.{conditions}
use Rattle.grammar.specs.Statements.{many_receives, read_receive, select_under, statement_under}
use Rattle.grammar.proofs.Went.{undo, same}
use Rattle.tables.specs.Tables.{Tables}
use Rattle.openings.specs.declared.heads.Coded.{Coded}
use Rattle.openings.specs.Selected.{Holds}
use Rattle.reader.specs.declared.statements.Level.{Level}
use Rattle.reader.specs.Given.{Given}
use Rattle.reader.specs.Readers.{Passed, CodedRead, ReceivesRead, SelectRead}
use Rattle.reader.proofs.Parts.{at-start, made_of, unnumbered}

-- how far the loop has come: so many may follow, beside the messages of those before, and with them the whole is read
pub record ReceivesFrom (s d scope : List ℕ) (e : Environment) (sc : Scope) (level : Level) (c : Cursor) (t : Tables) (left : ℕ) (seen : List Bool)
    (at : Cursor) (t₁ : Tables) : Type 0 where
  pub before : List ℕ
  pub holds : Holds seen before
  pub given : Given s d scope at level.left
  pub rest : {t' : Tables} {r : Passed} → ReceivesRead left before level e sc s at t₁ t' r → SelectRead level e sc s c t t' r

pub select-coded : (s : List ℕ) (e : Environment) (sc : Scope) (level : Level) (x : Coded) {t t₁ : Tables} {r : Passed} → x.code ≡ Code.Select →
    x.after.at ≡ x.at + 1 → level.parent ≡ x.after.statements → SelectRead level e sc s x.after t t₁ r →
    CodedRead level.left e sc s x t t₁ r
unfolding statement_under select_under rows_below context_rows conditions own_conditions
select-coded s e sc level x k here parent w = rw k (unnumbered
    (λ a q y. undo (many_receives max_statements (read_receive level.left e sc) [] s x.after) _ y
    (λ rs q₁ e₁ v. same v (λ a q. own_conditions a ≡ 0) refl))
    (made_of select at-start (λ rs q y. rw (here, parent)) w))
