-- What the readers of statements are given.
use Rattle.std.specs.Prelude.{ℕ, ◌+◌, ◌<◌, ◌≤◌, ◌≡◌, Bool, true, false, List, length}
use Rattle.wire.specs.Limits.{max_request_bytes, max_depth, max_statements, max_contexts}
use Rattle.wire.specs.declared.codes.StatementCode.{StatementCode}
use Rattle.wire.specs.declared.codes.StatementCode.TheVariants as Code
use Rattle.grammar.specs.declared.Cursor.{Cursor}
use Rattle.grammar.specs.Demands.{Octets}
use Rattle.scopes.specs.Internal.Columns.{scope_numbers}
use Rattle.scopes.specs.Scopes.{contexts_held, sends_held, labels_held}
use Rattle.openings.specs.Streams.{Proper}
use Rattle.openings.specs.declared.heads.Coded.{Coded}
use Rattle.reader.specs.declared.statements.Level.{Level}

-- a request within 01's sizes, a dictionary that was checked, counts within 01's, and a scope that fits, with so many levels left for what
-- is read
pub record Given (s d sc : List ℕ) (c : Cursor) (levels : ℕ) : Type 0 where
  pub octets : Octets s
  pub short : length s ≤ max_request_bytes
  pub is-proper : Proper d
  pub inside : c.at ≤ length s
  pub statements_few : c.statements ≤ max_statements
  pub contexts_few : c.contexts ≤ max_contexts
  pub conditions_few : c.conditions ≤ c.statements
  pub scope_whole : length sc ≡ scope_numbers
  pub scope_fits : contexts_held sc ≤ c.contexts
  pub sends_fit : sends_held sc + levels < max_depth
  pub labels_fit : labels_held sc + levels < max_depth

-- what the reader under a code is given, with so many levels left for the code and what stands under it
pub record Inside (s d sc : List ℕ) (x : Coded) (levels : ℕ) : Type 0 where
  pub given : Given s d sc x.after levels
  pub here : x.after.at ≡ x.at + 1
  pub deep : 0 < levels
  pub noted : x.after.conditions < x.after.statements

-- the same with the level of what stands under the code
pub record Below (s d sc : List ℕ) (x : Coded) (level : Level) : Type 0 where
  pub inside : Inside s d sc x (level.left + 1)
  pub parent : level.parent ≡ x.after.statements

-- ---- the codes of statements that have a heading, open a scope

abbrev pub opens_scope : StatementCode → Bool
opens_scope Code.Assignment = false
opens_scope Code.Begin = false
opens_scope Code.Erase = false
opens_scope Code.For = true
opens_scope Code.Loop = false
opens_scope Code.Modify = true
opens_scope Code.Handler = false
opens_scope Code.Receive = false
opens_scope Code.Send = true
opens_scope Code.Store = true
opens_scope Code.Label = true
opens_scope Code.Leave = false
opens_scope Code.If = false
opens_scope Code.Select = false

abbrev pub has_heading : StatementCode → Bool
has_heading Code.Assignment = false
has_heading Code.Begin = false
has_heading Code.Erase = false
has_heading Code.For = true
has_heading Code.Loop = true
has_heading Code.Modify = true
has_heading Code.Handler = true
has_heading Code.Receive = true
has_heading Code.Send = true
has_heading Code.Store = true
has_heading Code.Label = true
has_heading Code.Leave = false
has_heading Code.If = false
has_heading Code.Select = false
