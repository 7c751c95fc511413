-- In the firm's words: a reading of 65535 in a bed never moves an average, nor a total, a maximum or a minimum.
use Prim.Native.Nat.{ℕ, zero, suc, ◌+◌, ◌*◌}
use mathlib.Core.Path.{◌≡◌, refl, sym, ap, ap₂, ◌∙◌}
use mathlib.Core.Bool.{Bool, true, false, cond}
use mathlib.Core.List.{List, [], ◌∷◌, ◌++◌}
use mathlib.Core.Option.{Option, none, some, map}
use native.Mathlib.Omega.{arith}
use lib.Dec.{eqb}
use lib.ListN.{length, take, get_elem?, length-append}
use lib.Seq.{take-append_seam, get_or-append-add}
use borrow.Author.Tests.{eq-eqb}
use Rattle.wire.specs.Lists.{find, index_of, sum_of, is_some, ◌and_then◌}
use Rattle.wire.specs.Words.{byte_at, word_at}
use Rattle.wire.specs.declared.codes.Version.{Version}
use Rattle.wire.specs.declared.codes.Statistic.{Statistic}
use Rattle.wire.specs.declared.codes.FieldType.TheVariants.{Reading}
use Rattle.dictionary.specs.Dictionary.{Relation}
use Rattle.dictionary.specs.Naming.{Name, relation_of}
use Rattle.records.specs.declared.missing.Cause.{Cause}
use Rattle.records.specs.declared.missing.Cause.TheVariants as Cause
use Rattle.records.specs.Record.{offset_of, bit_at, reading_missing, presence_of, field_presence}
use Rattle.grammar.specs.Tree.{Stream, field, reference, statistic, Clauses, rse, Request}
use Rattle.grammar.specs.Bytes.{statistic_code, head_bytes, rse_bytes}
use Rattle.grammar.specs.Environment.{Context, Scope, context_of, stream_context, under_streams}
use Rattle.grammar.specs.Scope.{in_scope}
use Rattle.grammar.proofs.StepLaws.{absurd-eq}
use Rattle.meaning.specs.declared.Truth.{Truth}
use Rattle.meaning.specs.declared.Kind.TheVariants as Kind
use Rattle.meaning.specs.Data.{is, absent}
use Rattle.meaning.specs.Inputs.{Fetched, value, on_found, kind_held, unless_missing, length_of, record_place, field_in, field_named, field_value, fetch}
use Rattle.meaning.specs.Runs.{DueRun, Around, fetch_around, within}
use Rattle.meaning.specs.Meaning.{around_part, value_of, clauses_truth}
use Rattle.meaning.specs.Demand.{Records, no_record, entry}
use Rattle.meaning.specs.TakenOut.{TakenOut, Unread}
use Rattle.meaning.proofs.TakenOut.{statistic-unmoved}

-- ---- the last of a list

module _ {A : Type 0} (test : A → Bool) where
  index-last : (xs : List A) (x : A) → is_some (find test xs) ≡ false → test x ≡ true → index_of test (xs ++ (x ∷ [])) ≡ some (length xs)
  unfolding find index_of
  index-last [] x h k = rw k
  index-last (y ∷ xs) x h k = by (test y) h (λ i. index-last xs x i k)
    where
      by : (b : Bool) → is_some (cond b (some y) (find test xs)) ≡ false →
          (is_some (find test xs) ≡ false → index_of test (xs ++ (x ∷ [])) ≡ some (length xs)) →
          cond b (some 0) (map suc (index_of test (xs ++ (x ∷ [])))) ≡ some (suc (length xs))
      by true h f = absurd-eq (cc)
      by false h f = ap (map suc) (f h)

element-last : {A : Type 0} (xs : List A) (x : A) → get_elem? (xs ++ (x ∷ [])) (length xs) ≡ some x
element-last [] x = refl
element-last (y ∷ xs) x = element-last xs x

pub word-second : (a b : List ℕ) (q : ℕ) → word_at (a ++ b) (length a + q) ≡ word_at b q
word-second a b q =
    let o : length a + q + 1 ≡ length a + (q + 1) = omega arith in
    ap₂ (λ x y. x + 256 * y) (get_or-append-add a b q 0) (ap (byte_at (a ++ b)) o ∙ get_or-append-add a b (q + 1) 0)

-- the bytes of the records of contexts
pub records-long : (xs : List Context) (rows : List ℕ) → Records xs rows → sum_of (λ x. length_of x.relation) xs ≡ length rows
unfolding sum_of
records-long [] _ no_record = refl
records-long (x ∷ xs) _ (entry r e rows k w v) = omega (arith, length-append e rows, w.sized, ap length_of k, records-long xs rows v)

-- ---- a reading of 65535 is missing, by its bit or by that

module _ (r : Relation) (n : Name) (e : List ℕ) (u : Unread r n e) where
  unread-missing : (rows : List ℕ) → (w : Cause) × (field_named (some r) n (rows ++ e) (length rows) ≡ value (absent Kind.Number w))
  unfolding field_in field_presence kind_held
  unread-missing rows =
      let i = u.index in
      let zero-on : 0 + offset_of r i ≡ offset_of r i = omega arith in
      let word : word_at (rows ++ e) (length rows + offset_of r i) ≡ 65535 =
      word-second rows e (offset_of r i) ∙ ap (word_at e) (sym zero-on) ∙ u.word in
      by (bit_at (rows ++ e) (length rows) i) refl word
    where
      by : (b : Bool) → bit_at (rows ++ e) (length rows) u.index ≡ b → word_at (rows ++ e) (length rows + offset_of r u.index) ≡ 65535 →
          (w : Cause) × (field_named (some r) n (rows ++ e) (length rows) ≡ value (absent Kind.Number w))
      by true h k = (Cause.Bit, rw (u.named, u.has_format, u.reading, h))
      by false h k = (Cause.Reading, rw (u.named, u.has_format, u.reading, h, k))

  -- as the number of a statistic whose stream has the context c
  module _ (sc : Scope) (rows : List ℕ) (c : Context) (h : in_scope sc c.number ≡ false) (k : c.relation ≡ some r)
      (w : Records sc.contexts rows) where
    unread-last : (w : Cause) × (field_value (sc.contexts ++ (c ∷ [])) (rows ++ e) c.number n ≡ value (absent Kind.Number w))
    unfolding field_value record_place in_scope context_of
    unread-last =
        let xs = sc.contexts in
        let place : sum_of (λ x. length_of x.relation) (take (length xs) (xs ++ (c ∷ []))) ≡ length rows =
        ap (sum_of (λ x. length_of x.relation)) (take-append_seam xs (c ∷ [])) ∙ records-long xs rows w in
        let m = unread-missing rows in
        (m.0, rw (index-last (λ x. eqb x.number c.number) xs c h (eq-eqb c.number c.number refl), place, element-last xs c, k) m.1)

-- ---- the theorem

-- a statistic, an average above all, of a reading of its own stream: whatever a record with 65535 there is tested as, the statistic is the
-- same without it
pub never-moved : (v : Version) (d : List Relation) (t : Request) (sc : Scope) (due : List DueRun) (images records runs runs' : List ℕ)
    (p : ℕ) (r : Relation) (e : List ℕ) (k : Statistic) (s : Stream) (cs : Clauses) (n : Name) (truth : Truth) →
    relation_of d s.relation ≡ some r → in_scope sc s.context ≡ false → Records sc.contexts records → Unread r n e →
    TakenOut p r e due runs runs' →
    clauses_truth v (within (around_part d t sc due images records runs) (statistic_code k) s e) (p + 1 + length (head_bytes (s ∷ []))) cs ≡
    is truth →
    value_of v (around_part d t sc due images records runs) p (statistic k (rse (s ∷ []) cs) (reference (field s.context n))) ≡
    value_of v (around_part d t sc due images records runs') p (statistic k (rse (s ∷ []) cs) (reference (field s.context n)))
unfolding value_of fetch_around fetch within under_streams
never-moved v d t sc due images records runs runs' p r e k s cs n truth known free given unread taken tested =
    let m = unread-last r n e unread sc records (stream_context d (statistic_code k) s) free known given in
    statistic-unmoved v d t sc due images records runs runs' p r e k s cs (reference (field s.context n)) taken
    (record { truth = truth; cause = m.0; tested = tested; missing = rw m.1 })
