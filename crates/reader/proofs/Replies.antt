-- What reading answers, from what was judged before it and from what the reader of the whole request gives.
use Prim.Native.Nat.{ℕ, ◌≤◌}
use mathlib.Core.Path.{◌≡◌, refl, sym, ap, ◌∙◌}
use mathlib.Core.Bool.{Bool, true, false, cond, ◌&&◌}
use mathlib.Core.List.{List}
use lib.Dec.{leb}
use lib.ListN.{length, replicate, length-replicate}
use lib.Seq.{sets}
use borrow.Author.Tests.{leb-true}
use Rattle.std.specs.Prelude.{Result, Ok, Err}
use Rattle.wire.specs.Options.{refused_at}
use Rattle.wire.specs.declared.refused.Refused.{Refused}
use Rattle.wire.specs.Limits.{max_request_bytes, statement_table_numbers, parameter_table_numbers, context_table_numbers}
use Rattle.dictionary.specs.Dictionary.{Checked, proper, at_fault, dictionary}
use Rattle.grammar.specs.declared.Cursor.{Cursor}
use Rattle.grammar.specs.declared.Counts.{Counts}
use Rattle.grammar.specs.declared.Refusal.{Refusal}
use Rattle.grammar.specs.declared.Refusal.TheVariants.{TablesTooShort, RequestTooLong, BadDictionary}
use Rattle.grammar.specs.Tree.{Request}
use Rattle.grammar.specs.Sizes.{parameter_count}
use Rattle.grammar.specs.Rows.{request_statement_rows, parameter_rows, request_context_rows}
use Rattle.grammar.specs.Conditions.{request_conditions}
use Rattle.grammar.specs.Reader.{Read, read, refused}
use Rattle.grammar.specs.Reading.{request, start, room, beside, reading, answer, relations_of, statement_table, parameter_table, context_table}
use Rattle.grammar.specs.Demands.{Octets}
use Rattle.grammar.proofs.StepLaws.{absurd-eq, answer-read, answer-refused}
use Rattle.grammar.proofs.Went.{both}
use Rattle.grammar.proofs.Sound.{request-sound}
use Rattle.grammar.proofs.FilledTables.{statements-laid, parameters-laid, contexts-laid}
use Rattle.openings.specs.Streams.{relations}
use Rattle.tables.specs.Tables.{tables}
use Rattle.reader.specs.Readers.{places}
use Rattle.reader.specs.Request.{Requested, AnsweredNoting, condition_table, Beside, Zeros, beside_answer, before_of}

-- what a reading is given that nothing before the first byte refuses
pub record Cleared (s d st pa ct nd : List ℕ) : Type 0 where
  pub before_goes : before_of s d (length st) (length pa) (length ct) ≡ Ok tt
  pub request_octets : Octets s
  pub dictionary_octets : Octets d
  pub zeros : Zeros st pa ct nd

-- ---- what was judged before the request's first byte

module _ (s d : List ℕ) (n m k : ℕ) where
  -- what holds where reading goes on
  record Goes : Type 0 where
    pub statements-room : statement_table_numbers ≤ n
    pub parameters-room : parameter_table_numbers ≤ m
    pub contexts-room : context_table_numbers ≤ k
    pub short : length s ≤ max_request_bytes
    pub is-proper : dictionary d ≡ proper (relations d)

  goes : before_of s d n m k ≡ Ok tt → Goes
  unfolding before_of
  goes h = by (room n m k) (leb (length s) max_request_bytes) (dictionary d) refl refl refl h
    where
      by : (a b : Bool) (x : Checked) → room n m k ≡ a → leb (length s) max_request_bytes ≡ b → dictionary d ≡ x →
          cond a (cond b (beside_answer x) (Err (refused_at RequestTooLong 0))) (Err (refused_at TablesTooShort 0)) ≡ Ok tt → Goes
      by true true (proper rs) i j q u =
          let v = both (leb statement_table_numbers n && leb parameter_table_numbers m) (leb context_table_numbers k) i in
          let w = both (leb statement_table_numbers n) (leb parameter_table_numbers m) v.0 in
          record {
            statements-room = leb-true statement_table_numbers n w.0;
            parameters-room = leb-true parameter_table_numbers m w.1;
            contexts-room = leb-true context_table_numbers k v.1;
            short = leb-true (length s) max_request_bytes j;
            is-proper = q ∙ ap proper (sym (ap relations_of q));
          }
      by true true (at_fault p) i j q u = absurd-eq (cc)
      by true false x i j q u = absurd-eq (cc)
      by false b x i j q u = absurd-eq (cc)

  -- the answer by what was judged
  abbrev judged : Checked → Result (Unit {0}) (Refused Refusal) → Read Request
  judged x (Ok u) = request (relations_of x) s start
  judged x (Err y) = refused y.refusal y.place

  by-judged : {b : Result (Unit {0}) (Refused Refusal)} → before_of s d n m k ≡ b → answer s d n m k ≡ judged (dictionary d) b
  unfolding before_of answer reading
  by-judged h = by (room n m k) (leb (length s) max_request_bytes) (dictionary d) ∙ ap (judged (dictionary d)) h
    where
      by : (a b : Bool) (x : Checked) →
          cond a (cond b (beside x s) (refused RequestTooLong 0)) (refused TablesTooShort 0) ≡
          judged x (cond a (cond b (beside_answer x) (Err (refused_at RequestTooLong 0))) (Err (refused_at TablesTooShort 0)))
      by true true (proper rs) = refl
      by true true (at_fault p) = refl
      by true false x = refl
      by false b x = refl

-- ---- the answers

module _ (s d st pa ct nd : List ℕ) where
  -- a refusal, with zeros in the tables
  pub refuses : Octets s → Octets d → {st' pa' ct' nd' : List ℕ} {y : Refused Refusal} →
      answer s d (length st) (length pa) (length ct) ≡ refused y.refusal y.place →
      st' ≡ replicate (length st) 0 → pa' ≡ replicate (length pa) 0 → ct' ≡ replicate (length ct) 0 → nd' ≡ replicate (length nd) 0 →
      AnsweredNoting s d st pa ct nd st' pa' ct' nd' (Err y)
  unfolding statement_table parameter_table context_table condition_table
  refuses o o' e a b c f =
      record {
        answered = record {
          request_octets = o;
          dictionary_octets = o';
          answered = rw e;
          statements_filled = rw e a;
          parameters_filled = rw e b;
          contexts_filled = rw e c;
        };
        conditions_filled = rw e f;
      }

  module _ (h : Cleared s d st pa ct nd) where
    was : Goes s d (length st) (length pa) (length ct)
    was = goes s d (length st) (length pa) (length ct) h.before_goes

    is-request : answer s d (length st) (length pa) (length ct) ≡ request (relations d) s start
    is-request = by-judged s d (length st) (length pa) (length ct) h.before_goes

    pub beside-cleared : Beside s d pa
    beside-cleared =
        record { short = was.short; is-proper = was.is-proper; octets = h.request_octets; room = was.parameters-room }

    module _ {st' pa' ct' nd' : List ℕ} {w : Result (ℕ × Cursor) (Refused Refusal)}
        (g : Requested (request (relations d) s start) d pa pa' (tables st ct nd) (tables st' ct' nd') w) where
      pub refuses-whole : {y : Refused Refusal} → w ≡ Err y → answer s d (length st) (length pa) (length ct) ≡ refused y.refusal y.place
      refuses-whole e = is-request ∙ answer-refused (λ (q : Request). parameter_count q.messages) (request (relations d) s start) (sym e ∙ g.answer_is)

      accepted-as : (r : Request) (c : Cursor) → request (relations d) s start ≡ read r c → (n : ℕ) → n ≡ parameter_count r.messages →
          AnsweredNoting s d st pa ct nd st' pa' ct' nd' (Ok (record { statements = c.statements; parameters = n; contexts = c.contexts }))
      unfolding statement_table parameter_table context_table condition_table
      accepted-as r c i n counts =
          let a = is-request ∙ i in
          let v = request-sound s h.request_octets was.short (relations d) r c i in
          let filled = rw i at g.filled in
          record {
            answered = record {
              request_octets = h.request_octets;
              dictionary_octets = h.dictionary_octets;
              answered = rw (a, counts, v.counted, v.declared);
              statements_filled =
                  rw a (ap (λ t. t.statements) filled ∙ ap (λ l. sets l 0 (request_statement_rows r)) h.zeros.no_statements ∙
                  statements-laid (relations d) r v.allowed (length st) was.statements-room);
              parameters_filled =
                  rw a ((rw i at g.parameters_filled) ∙ ap (λ l. sets l 0 (parameter_rows r.messages)) h.zeros.no_parameters ∙
                  parameters-laid (relations d) r v.allowed (length pa) was.parameters-room);
              contexts_filled =
                  rw a (ap (λ t. t.contexts) filled ∙ ap (λ l. sets l 0 (request_context_rows (relations d) r)) h.zeros.no_contexts ∙
                  contexts-laid (relations d) r v.allowed (length ct) was.contexts-room);
            };
            conditions_filled =
                rw a (ap (λ t. t.conditions) filled ∙ ap (λ l. sets l 0 (places (request_conditions (relations d) r))) h.zeros.no_conditions);
          }

      pub accepts : {n : ℕ} {c : Cursor} → w ≡ Ok (n, c) →
          AnsweredNoting s d st pa ct nd st' pa' ct' nd' (Ok (record { statements = c.statements; parameters = n; contexts = c.contexts }))
      accepts {n} {c} e =
          let u = answer-read (λ (q : Request). parameter_count q.messages) (request (relations d) s start) (sym e ∙ g.answer_is) in
          accepted-as u.0 c u.1 n u.2

-- what was judged stops the reading, and the tables keep their zeros
pub stops : (s d st pa ct nd : List ℕ) → Zeros st pa ct nd → Octets s → Octets d → {y : Refused Refusal} →
    before_of s d (length st) (length pa) (length ct) ≡ Err y → AnsweredNoting s d st pa ct nd st pa ct nd (Err y)
stops s d st pa ct nd z o o' h =
    refuses s d st pa ct nd o o' (by-judged s d (length st) (length pa) (length ct) h)
    z.no_statements z.no_parameters z.no_contexts z.no_conditions

-- ---- tables that were cleared first

cleared-length : (t e : List ℕ) → t ≡ replicate (length e) 0 → length t ≡ length e
cleared-length t e h = ap length h ∙ length-replicate (length e) 0

pub zeros-own : (t e : List ℕ) → t ≡ replicate (length e) 0 → t ≡ replicate (length t) 0
zeros-own t e h = h ∙ ap (λ n. replicate n 0) (sym (cleared-length t e h))

-- an array of zeros
pub zeros-all : (n : ℕ) → replicate {A = ℕ} n 0 ≡ replicate (length (replicate {A = ℕ} n 0)) 0
zeros-all n = ap (λ k. replicate {A = ℕ} k 0) (sym (length-replicate n 0))

module _ (s d st pa ct nd st₀ pa₀ ct₀ nd₀ : List ℕ) (a : st ≡ replicate (length st₀) 0) (b : pa ≡ replicate (length pa₀) 0)
    (c : ct ≡ replicate (length ct₀) 0) (f : nd ≡ replicate (length nd₀) 0) where
  -- what was read into cleared tables was read into those that were lent
  pub as_lent : (st' pa' ct' nd' : List ℕ) (r : Result Counts (Refused Refusal)) → AnsweredNoting s d st pa ct nd st' pa' ct' nd' r →
      AnsweredNoting s d st₀ pa₀ ct₀ nd₀ st' pa' ct' nd' r
  as_lent st' pa' ct' nd' r h =
      let i = cleared-length st st₀ a in
      let j = cleared-length pa pa₀ b in
      let k = cleared-length ct ct₀ c in
      let l = cleared-length nd nd₀ f in
      record {
        answered = record {
          request_octets = h.answered.request_octets;
          dictionary_octets = h.answered.dictionary_octets;
          answered = rw (i, j, k) at h.answered.answered;
          statements_filled = rw (i, j, k) at h.answered.statements_filled;
          parameters_filled = rw (i, j, k) at h.answered.parameters_filled;
          contexts_filled = rw (i, j, k) at h.answered.contexts_filled;
        };
        conditions_filled = rw (i, j, k, l) at h.conditions_filled;
      }
