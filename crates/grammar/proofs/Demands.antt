-- Demands 1 and 2 hold of every reading that has what `Answered` promises.
use Prim.Native.Nat.{ℕ, suc}
use mathlib.Core.Path.{◌≡◌, refl, sym, ap, ◌∙◌}
use mathlib.Core.Bool.{true, ◌&&◌}
use mathlib.Core.List.{List}
use native.Mathlib.Omega.{arith}
use lib.Dec.{leb}
use lib.ListN.{length}
use borrow.Author.Tests.{le-leb, leb-true}
use Rattle.std.specs.Prelude.{Result, Ok, Err}
use Rattle.wire.specs.Options.{refused_at}
use Rattle.wire.specs.declared.refused.Refused.{Refused}
use Rattle.dictionary.specs.Dictionary.{Relation, proper, dictionary}
use Rattle.grammar.specs.declared.Refusal.{Refusal}
use Rattle.grammar.specs.declared.Cursor.{Cursor}
use Rattle.grammar.specs.declared.Counts.{Counts}
use Rattle.grammar.specs.Tree.{Request}
use Rattle.grammar.specs.Sizes.{statements_count, parameter_count, contexts_count}
use Rattle.grammar.specs.Rows.{request_context_rows}
use Rattle.grammar.specs.Reader.{Read, read, refused}
use Rattle.grammar.specs.Reading.{reading, room, answer, padded, relations_of, statement_table, parameter_table, context_table}
use Rattle.grammar.specs.Demands.{RefusedReading, Room, Filled, Soundness, Completeness}
use Rattle.grammar.specs.Answered.{reading_of, Answered}
use Rattle.grammar.proofs.StepLaws.{absurd-eq}
use Rattle.grammar.proofs.Went.{passed, both}
use Rattle.grammar.proofs.BoundedReading.{answer-refusal-within}
use Rattle.grammar.proofs.RowCounts.{request-rows, parameter_rows_lem, request-contexts}
use Rattle.grammar.proofs.Sound.{reading-sound}
use Rattle.grammar.proofs.Complete.{reading-complete, one-tree}

-- ---- answers taken apart

-- the counts of rows in an answer, and its refusal
abbrev counts_in : Result Counts (Refused Refusal) → Counts
counts_in (Ok c) = c
counts_in (Err y) = record { statements = 0; parameters = 0; contexts = 0 }

abbrev refusal_in : Result Counts (Refused Refusal) → Read Request → Read Request
refusal_in (Ok c) x = x
refusal_in (Err y) x = refused y.refusal y.place

-- acceptance with the counts of rows
abbrev accepted : ℕ → ℕ → ℕ → Result Counts (Refused Refusal)
accepted n m k = Ok (record { statements = n; parameters = m; contexts = k })

was-refused : (y : Read Request) (x : Refusal) (p : ℕ) → Err (refused_at x p) ≡ reading_of y → y ≡ refused x p
was-refused (read t c) x p e = absurd-eq (cc)
was-refused (refused z q) x p e = sym (ap (λ y. refusal_in y (refused z q)) e)

was-accepted : (y : Read Request) (n m k : ℕ) → accepted n m k ≡ reading_of y → (t : Request) × (c : Cursor) × (y ≡ read t c)
was-accepted (read t c) n m k e = (t, c, refl)
was-accepted (refused z q) n m k e = absurd-eq (cc)

has_room : (st pa ct : List ℕ) → room (length st) (length pa) (length ct) ≡ true → Room st pa ct
has_room st pa ct e =
    let u = both (leb 2560 (length st) && leb 1536 (length pa)) (leb 192 (length ct)) e in
    let v = both (leb 2560 (length st)) (leb 1536 (length pa)) u.0 in
    record {
      statements = leb-true 2560 (length st) v.0;
      parameters = leb-true 1536 (length pa) v.1;
      contexts = leb-true 192 (length ct) u.1;
    }

-- room in the tables aside, the answer is the reading's
with-room : (s d st pa ct : List ℕ) → Room st pa ct → answer s d (length st) (length pa) (length ct) ≡ reading s d
unfolding answer
with-room s d st pa ct h =
    rw (answer, le-leb 2560 (length st) h.statements, le-leb 1536 (length pa) h.parameters, le-leb 192 (length ct) h.contexts)

module _ {s d st pa ct st' pa' ct' : List ℕ} where
  -- the tables of a tree that was read
  filled : {r : Result Counts (Refused Refusal)} → Answered s d st pa ct st' pa' ct' r → (rs : List Relation) → dictionary d ≡ proper rs → (t : Request) (c : Cursor) →
      answer s d (length st) (length pa) (length ct) ≡ read t c → (n m k : ℕ) → r ≡ accepted n m k →
      Filled rs t st pa ct st' pa' ct' n m k
  unfolding statement_table parameter_table context_table
  filled h rs e t c w n m k g =
      let f : accepted n m k ≡ reading_of (read t c) = sym g ∙ h.answered ∙ ap reading_of w in
      let i : n ≡ suc (statements_count t.statements) = ap (λ z. (counts_in z).statements) f in
      let j : m ≡ parameter_count t.messages = ap (λ z. (counts_in z).parameters) f in
      let l : k ≡ contexts_count t.statements = ap (λ z. (counts_in z).contexts) f in
      record {
        statement_count = omega (arith, request-rows t, i);
        parameter_count = omega (arith, parameter_rows_lem t.messages, j);
        context-count = omega (arith, request-contexts rs t, l);
        statements = rw w at h.statements_filled;
        parameters = rw w at h.parameters_filled;
        contexts = rw w at h.contexts_filled ∙ ap (λ x. padded (request_context_rows x t) (length ct)) (ap relations_of e);
      }

  -- ---- demand 1

  pub read-refused : {x : Refusal} {p : ℕ} → Answered s d st pa ct st' pa' ct' (Err (refused_at x p)) → RefusedReading s d st pa ct st' pa' ct' x p
  unfolding statement_table parameter_table context_table
  read-refused {x} {p} h =
      let w = was-refused (answer s d (length st) (length pa) (length ct)) x p h.answered in
      record {
        refusal = answer-refusal-within s d (length st) (length pa) (length ct) x p w;
        statements = rw w at h.statements_filled;
        parameters = rw w at h.parameters_filled;
        contexts = rw w at h.contexts_filled;
      }

  -- ---- demand 2

  pub read-sound : {n m k : ℕ} → Answered s d st pa ct st' pa' ct' (accepted n m k) → Soundness s d st pa ct st' pa' ct' n m k
  unfolding answer
  read-sound {n} {m} {k} h =
      let w = was-accepted (answer s d (length st) (length pa) (length ct)) n m k h.answered in
      let t = w.0 in
      let x = passed (room (length st) (length pa) (length ct)) (reading s d) _ _ w.2 in
      let i = reading-sound s h.request_octets d t w.1 x.1 in
      record {
        relations = i.relations;
        tree = t;
        acceptable = record {
          room = has_room st pa ct x.0;
          checked = i.checked;
          whole = i.sound.whole;
          allowed = i.sound.allowed;
        };
        only = λ u a b. one-tree i.relations u t b i.sound.allowed (sym a ∙ i.sound.whole);
        filled = filled h i.relations i.checked t w.1 w.2 n m k refl;
      }

  pub read-complete : {r : Result Counts (Refused Refusal)} → Answered s d st pa ct st' pa' ct' r → Completeness s d st pa ct st' pa' ct' r
  read-complete h = record {
    accepted = λ rs t a.
        let w = reading-complete s d rs a.checked t a.allowed a.whole in
        let v = with-room s d st pa ct a.room ∙ w.1 in
        let e = h.answered ∙ ap reading_of v in
        (_, _, _, e, filled h rs a.checked t w.0 v _ _ _ e);
  }
