-- What is opened: the rows of contexts, and the scope below.
use Rattle.std.specs.Prelude.{ℕ, ◌+◌, ◌*◌, ◌<◌, ◌≤◌, ◌≡◌, List, length, Result, Ok, Err}
use Rattle.std.proofs.lemmas.List.Edits.{sets}
use Rattle.wire.specs.Codes as blr
use Rattle.wire.specs.Limits.{max_request_bytes, max_depth, max_streams, context_row_numbers}
use Rattle.wire.specs.declared.refused.Refused.{Refused}
use Rattle.wire.specs.declared.codes.StatementCode.{StatementCode}
use Rattle.wire.specs.declared.codes.StatementCode.TheVariants as Code
use Rattle.dictionary.specs.Internal.Walk.{relation_at}
use Rattle.grammar.specs.declared.Cursor.{Cursor}
use Rattle.grammar.specs.declared.Refusal.{Refusal}
use Rattle.grammar.specs.declared.Refusal.TheVariants.{TooGreat}
use Rattle.grammar.specs.Tree.{Stream, Heading, loop, handler}
use Rattle.grammar.specs.Environment as Grammar
use Rattle.grammar.specs.Environment.{Environment, under_streams, under_heading}
use Rattle.grammar.specs.Sizes.{heading_contexts}
use Rattle.grammar.specs.Rows.{stream_rows}
use Rattle.grammar.specs.Reader.{Read, Reader, return, refuse}
use Rattle.grammar.specs.Statements.{rse_head, modify_heading, receive_heading, send_heading, store_heading, label_heading}
use Rattle.grammar.specs.Internal.Steps.{cursor_of}
use Rattle.scopes.specs.Internal.Columns.{scope_numbers}
use Rattle.scopes.specs.declared.scope.Context.{Context}
use Rattle.scopes.specs.Scopes.{contexts_held, sends_held, labels_held, with_context, with_target, scope_of}
use Rattle.tables.specs.Tables.{after, open_row}
use Rattle.tables.specs.Written.{with_context_row}
use Rattle.openings.specs.Streams.{Proper, relations}

-- a context's row, and the scope with it
pub record Added (d : List ℕ) (x : Context) (row place : ℕ) (ct ct' sc sc' : List ℕ) : Type 0 where
  pub scope_is : sc' ≡ with_context sc x
  pub filled : ct' ≡ with_context_row ct row x.number.0 place (relation_at d x.relation).id x.opener

-- what a store or a modify does with the context that it declares
abbrev pub Updated : List ℕ → Result (Context × Cursor) (Refused Refusal) → ℕ → ℕ → List ℕ → List ℕ → List ℕ → List ℕ →
    Result Cursor (Refused Refusal) → Type 0
Updated d (Ok (x, q)) row place ct ct' sc sc' r =
    (mid : List ℕ) × Added d x row place ct ct' sc mid × (sc' ≡ with_target mid x.number.0) × (r ≡ Ok q)
Updated d (Err z) row place ct ct' sc sc' r = (ct' ≡ ct) × (sc' ≡ sc) × (r ≡ Err z)

-- what a promise about contexts takes for granted: 01's sizes, a dictionary that was checked, a place in the request, a scope that has no
-- more contexts than were counted, and room for one more send and label
pub record Prepared (s d sc : List ℕ) (c : Cursor) : Type 0 where
  pub short : length s ≤ max_request_bytes
  pub is-proper : Proper d
  pub inside : c.at ≤ length s
  pub scope_whole : length sc ≡ scope_numbers
  pub scope_fits : contexts_held sc ≤ c.contexts
  pub sends_fit : sends_held sc < max_depth
  pub labels_fit : labels_held sc < max_depth

-- a reading that opened contexts: the rows, the scope below, and how many contexts, sends and labels that has
pub record Opens {A : Type 0} (x : Read A) (d ct : List ℕ) (row : ℕ) (rows : A → List ℕ) (below : A → Grammar.Scope) (opened : A → ℕ)
    (ct' sc sc' : List ℕ) (r : Result Cursor (Refused Refusal)) : Type 0 where
  pub answer : r ≡ cursor_of x
  pub contexts_filled : ct' ≡ after (λ a. sets ct (row * context_row_numbers) (rows a)) ct' x
  pub scope_below : scope_of d sc' ≡ after below (scope_of d sc') x
  pub count_below : contexts_held sc' ≡ after (λ a. contexts_held sc + opened a) (contexts_held sc') x
  pub whole_below : length sc' ≡ scope_numbers
  pub sends_below : sends_held sc' ≤ sends_held sc + 1
  pub labels_below : labels_held sc' ≤ labels_held sc + 1

-- streams from a cursor on, which a code opens
abbrev pub OpensStreams : ℕ → Read (List Stream) → List ℕ → Cursor → List ℕ → List ℕ → List ℕ → List ℕ →
    Result Cursor (Refused Refusal) → Type 0
OpensStreams o x d c ct ct' sc sc' r =
    Opens x d ct c.contexts (λ ss. stream_rows (relations d) o ss c.at 0 0) (λ ss. under_streams (relations d) o (scope_of d sc) ss)
    length ct' sc sc' r

-- the head of an rse, whose code stands at the cursor
abbrev pub OpensHead : ℕ → Read (List Stream) → List ℕ → Cursor → List ℕ → List ℕ → List ℕ → List ℕ →
    Result Cursor (Refused Refusal) → Type 0
OpensHead o x d c ct ct' sc sc' r =
    Opens x d ct c.contexts (λ ss. stream_rows (relations d) o ss (c.at + 2) 0 0) (λ ss. under_streams (relations d) o (scope_of d sc) ss)
    length ct' sc sc' r

-- a heading after the code of its statement at p
abbrev pub OpensHeading : Read Heading → List ℕ → ℕ → Cursor → List ℕ → List ℕ → List ℕ → List ℕ →
    Result Cursor (Refused Refusal) → Type 0
OpensHeading x d p c ct ct' sc sc' r =
    Opens x d ct c.contexts (λ h. open_row (relations d) (scope_of d sc) h p) (λ h. under_heading (relations d) (scope_of d sc) h)
    heading_contexts ct' sc sc' r

-- the reader of a heading that opens a scope, by the code of its statement at p; other codes have none
abbrev pub opening_reader : Environment → Grammar.Scope → ℕ → StatementCode → Reader Heading
opening_reader e sc p Code.Assignment = refuse TooGreat p
opening_reader e sc p Code.Begin = refuse TooGreat p
opening_reader e sc p Code.Erase = refuse TooGreat p
opening_reader e sc p Code.For = refuse TooGreat p
opening_reader e sc p Code.Loop = refuse TooGreat p
opening_reader e sc p Code.Modify = modify_heading sc p
opening_reader e sc p Code.Handler = refuse TooGreat p
opening_reader e sc p Code.Receive = refuse TooGreat p
opening_reader e sc p Code.Send = send_heading e sc p
opening_reader e sc p Code.Store = store_heading e.relations sc
opening_reader e sc p Code.Label = label_heading
opening_reader e sc p Code.Leave = refuse TooGreat p
opening_reader e sc p Code.If = refuse TooGreat p
opening_reader e sc p Code.Select = refuse TooGreat p

-- the reader of a heading that opens none
abbrev pub plain_reader : Environment → Grammar.Scope → ℕ → StatementCode → Reader Heading
plain_reader e sc p Code.Assignment = refuse TooGreat p
plain_reader e sc p Code.Begin = refuse TooGreat p
plain_reader e sc p Code.Erase = refuse TooGreat p
plain_reader e sc p Code.For = refuse TooGreat p
plain_reader e sc p Code.Loop = return loop
plain_reader e sc p Code.Modify = refuse TooGreat p
plain_reader e sc p Code.Handler = return handler
plain_reader e sc p Code.Receive = receive_heading e sc p
plain_reader e sc p Code.Send = refuse TooGreat p
plain_reader e sc p Code.Store = refuse TooGreat p
plain_reader e sc p Code.Label = refuse TooGreat p
plain_reader e sc p Code.Leave = refuse TooGreat p
plain_reader e sc p Code.If = refuse TooGreat p
plain_reader e sc p Code.Select = refuse TooGreat p

-- what opens a scope after the code at p: the head of a for's rse, or a heading
pub record OpensCoded (k : StatementCode) (e : Environment) (s d : List ℕ) (p : ℕ) (c : Cursor) (ct ct' sc sc' : List ℕ)
    (r : Result Cursor (Refused Refusal)) : Type 0 where
  pub for_opens : k ≡ Code.For → OpensHead blr.for (rse_head max_streams e.relations blr.for (scope_of d sc) s c) d c ct ct' sc sc' r
  pub heading_opens : (k ≡ Code.For → ⊥) → OpensHeading (opening_reader e (scope_of d sc) p k s c) d p c ct ct' sc sc' r
