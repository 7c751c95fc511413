-- What a reading with tables of the due lengths leaves, or refuses.
use Prim.Native.Nat.{ℕ, suc, ◌+◌, ◌*◌, ◌≤◌, ◌<◌}
use mathlib.Core.Path.{◌≡◌, refl, sym, ap, ◌∙◌}
use mathlib.Core.List.{List, map, ◌++◌}
use mathlib.Core.Option.{Option, none, some}
use native.Mathlib.Omega.{arith}
use lib.ListN.{length, get_or, replicate, get_or-eq_default, get_or-append}
use lib.Seq.{sets}
use borrow.Author.Tests.{le-leb}
use Rattle.std.specs.Prelude.{Result, Ok, Err}
use Rattle.wire.specs.Codes as blr
use Rattle.wire.specs.declared.refused.Refused.{Refused}
use Rattle.wire.specs.Options.{refused_at}
use Rattle.wire.specs.Limits.{max_statements, statement_row_numbers, statement_table_numbers, parameter_table_numbers, context_table_numbers}
use Rattle.dictionary.specs.Dictionary.{Relation}
use Rattle.grammar.specs.declared.Refusal.{Refusal}
use Rattle.grammar.specs.declared.Cursor.{Cursor}
use Rattle.grammar.specs.declared.Counts.{Counts}
use Rattle.grammar.specs.Tree.{Request}
use Rattle.grammar.specs.Sizes.{statements_count, parameter_count, contexts_count}
use Rattle.grammar.specs.Rows.{request_statement_rows}
use Rattle.grammar.specs.Conditions.{request_conditions}
use Rattle.grammar.specs.Named.{FromValue, FromTold, from_value, row_code}
use Rattle.grammar.specs.Reader.{Read, read, refused}
use Rattle.grammar.specs.Reading.{reading, answer, padded, statement_table, parameter_table, context_table}
use Rattle.grammar.specs.Answered.{Answered, reading_of}
use Rattle.grammar.proofs.StepLaws.{absurd-eq}
use Rattle.grammar.proofs.Sound.{reading-sound}
use Rattle.grammar.proofs.FewConditions.{request-conditions-few}
use Rattle.grammar.proofs.RowCounts.{request-rows}
use Rattle.grammar.proofs.RowNames.{row-values}
use Rattle.reader.specs.Request.{AnsweredNoting, condition_table}
use Rattle.meaning.specs.Evaluation.{refusal, evaluation, value_evaluation}
use Rattle.surroundings.proofs.Noted.{noted-any}
use Rattle.surroundings.proofs.Scales.{scales-are}
use Rattle.evaluator.specs.AfterReading.{ReadSo, AfterReading, RowsRead}

was-refused : (x : Read Request) (r : Refused Refusal) → reading_of x ≡ Err r → x ≡ refused r.refusal r.place
was-refused (read t c) r e = absurd-eq (cc)
was-refused (refused y q) r e = let z : refused_at y q ≡ r = cc in ap (λ u. refused u.refusal u.place) z

record Was (x : Read Request) (n : Counts) : Type 0 where
  request : Request
  cursor : Cursor
  is : x ≡ read request cursor
  counts : n ≡ record { statements = suc (statements_count request.statements); parameters = parameter_count request.messages; contexts = contexts_count request.statements }

was-accepted : (x : Read Request) (n : Counts) → reading_of x ≡ Ok n → Was x n
was-accepted (read t c) n e = record { request = t; cursor = c; is = refl; counts = cc }
was-accepted (refused y q) n e = absurd-eq (cc)

-- ---- the rows of statements, and what they tell of from-values

no-from : (x : Option FromValue) (p c : ℕ) → FromTold x p c → c ≡ 0 → x ≡ none
no-from none p c f e = refl
no-from (some x) p c f e = absurd (omega (arith, f.0, e))

module _ (t : Request) (n : ℕ) (counted : n ≡ suc (statements_count t.statements)) where
  rows_long : length (request_statement_rows t) ≡ n * statement_row_numbers
  rows_long = request-rows t ∙ ap (λ i. i * statement_row_numbers) (sym counted)

  in_rows : (more : List ℕ) (i : ℕ) → i < n * statement_row_numbers →
      get_or (request_statement_rows t ++ more) i 0 ≡ get_or (request_statement_rows t) i 0
  in_rows more i h = get_or-append (request_statement_rows t) more 0 i (omega (arith, rows_long))

  -- in a table that has the rows first
  told_in : (rs : List Relation) (table more : List ℕ) → table ≡ request_statement_rows t ++ more → (k : ℕ) → k < n →
      FromTold (from_value rs t k) (get_or table (k * statement_row_numbers) 0) (get_or table (k * statement_row_numbers + 1) 0)
  told_in rs table more e k h =
      let a : k * statement_row_numbers < n * statement_row_numbers = omega arith in
      let b : k * statement_row_numbers + 1 < n * statement_row_numbers = omega arith in
      rw (e, in_rows more (k * statement_row_numbers) a, in_rows more (k * statement_row_numbers + 1) b) (row-values rs t k)

  no_code : (k : ℕ) → n ≤ k → row_code t k ≡ 0
  no_code k h = get_or-eq_default (request_statement_rows t) 0 (omega (arith, rows_long))

-- ---- of a reading

module _ {s d st pa ct st' pa' ct' : List ℕ} {r : Result Counts (Refused Refusal)} (h : Answered s d st pa ct st' pa' ct' r)
    (a : statement_table_numbers ≤ length st) (b : parameter_table_numbers ≤ length pa) (k : context_table_numbers ≤ length ct) where
  abbrev answers : Read Request
  answers = answer s d (length st) (length pa) (length ct)

  with-room : answers ≡ reading s d
  unfolding answer
  with-room = rw (answer, le-leb statement_table_numbers (length st) a, le-leb parameter_table_numbers (length pa) b, le-leb context_table_numbers (length ct) k)

  -- of one that accepts
  module _ (n : Counts) (e : r ≡ Ok n) where
    was : Was answers n
    was = was-accepted answers n (sym h.answered ∙ e)

    so-read : ReadSo s d pa' ct' n.parameters n.contexts
    unfolding parameter_table context_table
    so-read =
        let w = was in
        let x : reading s d ≡ read w.request w.cursor = sym with-room ∙ w.is in
        let y = reading-sound s h.request_octets d w.request w.cursor x in
        record {
          relations = y.relations;
          request = w.request;
          cursor = w.cursor;
          reads = x;
          accepted = record { house = y.checked; bytes = y.sound.whole; allowed = y.sound.allowed };
          scale_bytes = scales-are s h.request_octets w.request y.sound.whole;
          more_parameters = _;
          more_contexts = _;
          parameter_rows = rw w.is at h.parameters_filled;
          context_rows = rw (w.is, y.checked) at h.contexts_filled;
          parameters_are = ap (λ z. z.parameters) w.counts;
          contexts_are = ap (λ z. z.contexts) w.counts;
        }

    -- what was read, in its own words
    is_read : answers ≡ read so-read.request so-read.cursor
    is_read = with-room ∙ so-read.reads

    counted : n.statements ≡ suc (statements_count so-read.request.statements)
    unfolding so-read was
    counted = ap (λ z. z.statements) was.counts

    rows_are : st' ≡ padded (request_statement_rows so-read.request) (length st)
    unfolding statement_table
    rows_are = rw is_read at h.statements_filled

    pub rows-read : RowsRead s d pa' ct' st' n.statements n.parameters n.contexts
    rows-read =
        let so = so-read in
        let t = so.request in
        let few = so.accepted.allowed.sized.statements in
        record {
          so = so;
          few = omega (arith, few, counted);
          told = told_in t n.statements counted so.relations st' _ rows_are;
          no_more = λ i l. no-from (from_value so.relations t i) _ _ (row-values so.relations t i) (no_code t n.statements counted i l);
        }

  -- of one that refuses: it refuses an evaluation
  module _ (x : Refused Refusal) (e : r ≡ Err x) where
    refused-so : reading s d ≡ refused x.refusal x.place
    refused-so = sym with-room ∙ was-refused answers x (sym h.answered ∙ e)

    pub refuses : (n : ℕ) (images rows runs : List ℕ) → refusal x.refusal x.place ≡ evaluation s d n images rows runs
    unfolding evaluation
    refuses n images rows runs = rw refused-so

    pub refuses-value : (i : ℕ) (images rows runs : List ℕ) → refusal x.refusal x.place ≡ value_evaluation s d i images rows runs
    unfolding value_evaluation
    refuses-value i images rows runs = rw refused-so

-- ---- of a reading that notes the places of the conditions

module _ {s d st pa ct nd st' pa' ct' nd' : List ℕ} {r : Result Counts (Refused Refusal)} (h : AnsweredNoting s d st pa ct nd st' pa' ct' nd' r)
    (a : statement_table_numbers ≤ length st) (b : parameter_table_numbers ≤ length pa) (k : context_table_numbers ≤ length ct)
    (l : max_statements ≤ length nd) where
  pub after-reading : (n : Counts) → r ≡ Ok n → AfterReading s d pa' ct' nd' n.parameters n.contexts
  unfolding condition_table
  after-reading n e =
      let so : ReadSo s d pa' ct' n.parameters n.contexts = so-read h.answered a b k n e in
      let few = request-conditions-few so.relations so.request so.accepted.allowed in
      let g = so.accepted.allowed.sized.statements in
      let cs = request_conditions so.relations so.request in
      let w = is_read h.answered a b k n e in
      let z : nd' ≡ sets (replicate (length nd) 0) 0 (map (λ x. x.place) cs) = rw (w, so.accepted.house) at h.conditions_filled in
      record { so = so; noted = λ i. ap (λ q. get_or q i 0) z ∙ noted-any cs (length nd) i (omega (arith, few, g, l)) }
