-- Decoding reads the bytes of any tree back.
use Prim.Native.Nat.{ℕ, zero, suc, ◌+◌, ◌-◌, ◌*◌, ◌/◌, ◌%◌, ◌<◌, ◌≤◌, max}
use mathlib.Core.Path.{◌≡◌, refl, sym, ap, ap₂, ◌∙◌}
use mathlib.Core.List.{List, [], ◌∷◌, ◌++◌, append_assoc, append-nil}
use mathlib.Core.Option.{Option, none, some}
use native.Mathlib.Omega.{arith}
use lib.Dec.{eqb, leb}
use lib.ListN.{length, take, drop, length-append}
use lib.Seq.{drop-append_seam, take-append_seam}
use borrow.Author.Tests.{le-leb, eq-eqb, ne_eqb}
use Rattle.wire.specs.Codes as blr
use Rattle.wire.specs.Lists.{among, any_of}
use Rattle.wire.specs.Words.{word_bytes, long_bytes, int64_bytes}
use Rattle.wire.specs.Classes.{Class, due, classify, value_class, boolean_class, literal_class, target_class, stream_class, clause_class, direction_class, statement_class, descriptor_class}
use Rattle.wire.specs.Versions.{version_code}
use Rattle.wire.specs.declared.codes.Version.{Version}
use Rattle.wire.specs.declared.codes.Width.{Width}
use Rattle.wire.specs.declared.codes.Width.TheVariants.{Short, Long, Int64}
use Rattle.dictionary.specs.Naming.{Name, named, numbered}
use Rattle.grammar.specs.Tree as Tree
use Rattle.grammar.specs.Tree.{Descriptor, Message, Stream, Heading, loop, modify, handler, receive, send, store, label, Keys, no_keys, key, Clauses, no_clauses, such, sorted, Rse, rse, Statement, assignment, begin, erase, for, headed, leave, if, if_else, select, Statements, none as nothing, Receives, last, more, Request, Literal, Reference, field, parameter, parameter2, Value, literal, reference, arithmetic, negate, statistic, count, Boolean, compare, search, between, connect, not, missing, quantify}
use Rattle.grammar.specs.Bytes as Bytes
use Rattle.grammar.specs.Bytes.{width_code, operator_code, comparison_code, search_code, connective_code, direction_code, text_code, number_bytes, descriptor_bytes, descriptors_bytes, message_bytes, messages_bytes, stream_bytes, streams_bytes, literal_bytes, reference_bytes, heading_bytes, value_bytes, boolean_bytes, key_count, keys_bytes, clauses_bytes, head_bytes, rse_bytes, statement_bytes, statements_bytes, receives_bytes, request_bytes}
use Rattle.grammar.specs.Sizes.{value_depth, boolean_depth, keys_depth, clauses_depth, rse_depth, statement_depth, statements_depth, receives_depth}
use Rattle.grammar.proofs.Due.{width-due, text-due, number-due, operator-due, statistic-due, comparison-due, search-due, connective-due, quantifier-due, direction-due}
use Rattle.grammar.proofs.Found.{Other, other-first}
use Rattle.grammar.proofs.Complete.{version-back}
use Rattle.grammar.proofs.CompleteStatements.{statement-first}
use Rattle.meaning.specs.Decoding.{Decoder, onward, ◌>>=◌, return, one, byte, peek, bytes, word, long, int64, code, coded, several, at_end, counted_name, id, number_of, literal_under, reference_under, value_under, value, boolean_under, boolean, stream_under, stream, keys, clauses_under, clauses, rse_of, many, many_receives, statement_under, statement, descriptor_under, descriptor, message, messages, version, request, ended, whole, decode}

word_back : (n : ℕ) (post : List ℕ) → word (word_bytes n ++ post) ≡ some (n, post)
unfolding word byte
word_back n post = let z : n % 256 + 256 * (n / 256) ≡ n = omega arith in ap (λ x. some (x, post)) z

long-back : (n : ℕ) (post : List ℕ) → long (long_bytes n ++ post) ≡ some (n, post)
unfolding long
long-back n post =
    let z : n % 65536 + 65536 * (n / 65536) ≡ n = omega arith in
    rw (word_back (n % 65536) (word_bytes (n / 65536) ++ post), word_back (n / 65536) post) (ap (λ x. some (x, post)) z)

int64-back : (n : ℕ) (post : List ℕ) → int64 (int64_bytes n ++ post) ≡ some (n, post)
unfolding int64
int64-back n post =
    let z : n % 4294967296 + 4294967296 * (n / 4294967296) ≡ n = omega arith in
    rw (long-back (n % 4294967296) (long_bytes (n / 4294967296) ++ post), long-back (n / 4294967296) post) (ap (λ x. some (x, post)) z)

bytes_back : (t post : List ℕ) → bytes (length t) (t ++ post) ≡ some (t, post)
unfolding bytes
bytes_back t post =
    let k : length t ≤ length (t ++ post) = omega (arith, length-append t post) in
    rw (bytes, le-leb _ _ k, take-append_seam t post, drop-append_seam t post)

number-back : (w : Width) (n : ℕ) (post : List ℕ) → number_of w (number_bytes w n ++ post) ≡ some (n, post)
number-back Short n post = word_back n post
number-back Long n post = long-back n post
number-back Int64 n post = int64-back n post

coded-back : {A : Type 0} (class : ℕ → Class A) (x : ℕ) (a : A) (s : List ℕ) → class x ≡ due a → coded class (x ∷ s) ≡ some (a, s)
unfolding coded byte
coded-back class x a s e = rw e

literal-back : (l : Literal) (post : List ℕ) → (coded literal_class >>= literal_under) (literal_bytes l ++ post) ≡ some (l, post)
unfolding literal_bytes literal_class classify coded byte
literal-back (Tree.Literal.number w scale n) post = rw (number-due w, number-back w n post)
literal-back (Tree.Literal.text t) post = rw (append_assoc (word_bytes (length t)) t post, word_back (length t) (t ++ post), bytes_back t post)

counted_back : (n post : List ℕ) → counted_name (Bytes.counted_bytes n ++ post) ≡ some (named n, post)
unfolding counted_name byte
counted_back n post = rw (bytes_back n post)

id-back : (i : ℕ) (post : List ℕ) → id (word_bytes i ++ post) ≡ some (numbered i, post)
unfolding id
id-back i post = rw (word_back i post)

-- a reference by its code, as a value and as a target
reference-back : (r : Reference) (post : List ℕ) → (coded target_class >>= reference_under) (reference_bytes r ++ post) ≡ some (r, post)
unfolding reference_bytes target_class classify coded byte reference_under
reference-back (field c (named n)) post = rw (counted_back n post)
reference-back (field c (numbered i)) post = rw (id-back i post)
reference-back (parameter m i) post = rw (word_back i post)
reference-back (parameter2 m i flag) post = rw (append_assoc (word_bytes i) (word_bytes flag) post, word_back i (word_bytes flag ++ post), word_back flag post)

reference-value : (k : ℕ) (inner : Decoder Boolean) (values : Decoder Value) (r : Reference) (post : List ℕ) → (coded value_class >>= (λ c. value_under k inner values c)) (reference_bytes r ++ post) ≡ some (reference r, post)
unfolding reference_bytes value_class classify coded byte value_under reference_under
reference-value k inner values (field c (named n)) post = rw (counted_back n post)
reference-value k inner values (field c (numbered i)) post = rw (id-back i post)
reference-value k inner values (parameter m i) post = rw (word_back i post)
reference-value k inner values (parameter2 m i flag) post = rw (append_assoc (word_bytes i) (word_bytes flag) post, word_back i (word_bytes flag ++ post), word_back flag post)

-- ---- rses

stream-back : (x : Stream) (post : List ℕ) → stream (stream_bytes x ++ post) ≡ some (x, post)
unfolding stream_bytes stream stream_class classify coded byte
stream-back x post = go x.relation
  where
    go : (n : Name) → stream (Bytes.stream_of n x.context ++ post) ≡ some (record { relation = n; context = x.context }, post)
    go (named n) = rw (append_assoc (Bytes.counted_bytes n) (x.context ∷ []) post, counted_back n (x.context ∷ post))
    go (numbered i) = rw (append_assoc (word_bytes i) (x.context ∷ []) post, id-back i (x.context ∷ post))

streams-back : (xs : List Stream) (post : List ℕ) → several (length xs) stream (streams_bytes xs ++ post) ≡ some (xs, post)
unfolding several streams_bytes
streams-back [] post = refl
streams-back (x ∷ xs) post = rw (append_assoc (stream_bytes x) (streams_bytes xs) post, stream-back x (streams_bytes xs ++ post), streams-back xs post)

unfoldable clause_count : Clauses → ℕ
clause_count no_clauses = 0
clause_count (such b cs) = suc (clause_count cs)
clause_count (sorted ks cs) = suc (clause_count cs)

clauses-few : (cs : Clauses) → clause_count cs < length (clauses_bytes cs)
unfolding clause_count clauses_bytes
clauses-few no_clauses = omega arith
clauses-few (such b cs) = omega (arith, clauses-few cs, length-append (boolean_bytes b) (clauses_bytes cs))
clauses-few (sorted ks cs) = omega (arith, clauses-few cs, length-append (keys_bytes ks) (clauses_bytes cs))

-- ---- values, booleans, keys, clauses and rses; n bounds the clauses of each rse

mutual
  unfolding value_depth value_bytes value value_under value_class boolean_depth boolean_bytes boolean boolean_under boolean_class keys_depth key_count keys_bytes keys clauses_depth clause_count clauses_bytes clauses clauses_under clause_class rse_depth rse_bytes head_bytes rse_of code classify coded byte

  pub value-back : (v : Value) (n l : ℕ) (post : List ℕ) → value_depth v ≤ l → length (value_bytes v) ≤ n → value n l (value_bytes v ++ post) ≡ some (v, post)
  value-back (literal x) n zero post h k = absurd (omega arith)
  value-back (literal x) n (suc l) post h k = rw (literal-back x post)
  value-back (reference r) n zero post h k = absurd (omega arith)
  value-back (reference r) n (suc l) post h k = reference-value n (boolean n l) (value n l) r post
  value-back (arithmetic o v w) n zero post h k = absurd (omega arith)
  value-back (arithmetic o v w) n (suc l) post h k =
      let z = length-append (value_bytes v) (value_bytes w) in
      rw (
        operator-due o,
        append_assoc (value_bytes v) (value_bytes w) post,
        value-back v n l (value_bytes w ++ post) (omega arith) (omega (arith, z)),
        value-back w n l post (omega arith) (omega (arith, z)),
      )
  value-back (negate v) n zero post h k = absurd (omega arith)
  value-back (negate v) n (suc l) post h k = rw (value-back v n l post (omega arith) (omega arith))
  value-back (statistic x r v) n zero post h k = absurd (omega arith)
  value-back (statistic x r v) n (suc l) post h k =
      let z = length-append (rse_bytes r) (value_bytes v) in
      rw (
        statistic-due x,
        append_assoc (rse_bytes r) (value_bytes v) post,
        rse-back r n l (value_bytes v ++ post) (omega arith) (omega (arith, z)),
        value-back v n l post (omega arith) (omega (arith, z)),
      )
  value-back (count r) n zero post h k = absurd (omega arith)
  value-back (count r) n (suc l) post h k = rw (rse-back r n l post (omega arith) (omega arith))

  pub boolean-back : (b : Boolean) (n l : ℕ) (post : List ℕ) → boolean_depth b ≤ l → length (boolean_bytes b) ≤ n → boolean n l (boolean_bytes b ++ post) ≡ some (b, post)
  boolean-back (compare c v w) n zero post h k = absurd (omega arith)
  boolean-back (compare c v w) n (suc l) post h k =
      let z = length-append (value_bytes v) (value_bytes w) in
      rw (
        comparison-due c,
        append_assoc (value_bytes v) (value_bytes w) post,
        value-back v n l (value_bytes w ++ post) (omega arith) (omega (arith, z)),
        value-back w n l post (omega arith) (omega (arith, z)),
      )
  boolean-back (search t v w) n zero post h k = absurd (omega arith)
  boolean-back (search t v w) n (suc l) post h k =
      let z = length-append (value_bytes v) (value_bytes w) in
      rw (
        search-due t,
        append_assoc (value_bytes v) (value_bytes w) post,
        value-back v n l (value_bytes w ++ post) (omega arith) (omega (arith, z)),
        value-back w n l post (omega arith) (omega (arith, z)),
      )
  boolean-back (between u v w) n zero post h k = absurd (omega arith)
  boolean-back (between u v w) n (suc l) post h k =
      let z = length-append (value_bytes u ++ value_bytes v) (value_bytes w) in
      let y = length-append (value_bytes u) (value_bytes v) in
      rw (
        append_assoc (value_bytes u ++ value_bytes v) (value_bytes w) post,
        append_assoc (value_bytes u) (value_bytes v) (value_bytes w ++ post),
        value-back u n l (value_bytes v ++ (value_bytes w ++ post)) (omega arith) (omega (arith, z, y)),
        value-back v n l (value_bytes w ++ post) (omega arith) (omega (arith, z, y)),
        value-back w n l post (omega arith) (omega (arith, z, y)),
      )
  boolean-back (connect c a b) n zero post h k = absurd (omega arith)
  boolean-back (connect c a b) n (suc l) post h k =
      let z = length-append (boolean_bytes a) (boolean_bytes b) in
      rw (
        connective-due c,
        append_assoc (boolean_bytes a) (boolean_bytes b) post,
        boolean-back a n l (boolean_bytes b ++ post) (omega arith) (omega (arith, z)),
        boolean-back b n l post (omega arith) (omega (arith, z)),
      )
  boolean-back (not a) n zero post h k = absurd (omega arith)
  boolean-back (not a) n (suc l) post h k = rw (boolean-back a n l post (omega arith) (omega arith))
  boolean-back (missing v) n zero post h k = absurd (omega arith)
  boolean-back (missing v) n (suc l) post h k = rw (value-back v n l post (omega arith) (omega arith))
  boolean-back (quantify q r) n zero post h k = absurd (omega arith)
  boolean-back (quantify q r) n (suc l) post h k = rw (quantifier-due q, rse-back r n l post (omega arith) (omega arith))

  keys-back : (ks : Keys) (n l : ℕ) (post : List ℕ) → keys_depth ks ≤ l → length (keys_bytes ks) ≤ n →
      keys (key_count ks) (value n l) (keys_bytes ks ++ post) ≡ some (ks, post)
  keys-back no_keys n l post h k = refl
  keys-back (key d v ks) n l post h k =
      let z = length-append (value_bytes v) (keys_bytes ks) in
      rw (
        direction-due d,
        append_assoc (value_bytes v) (keys_bytes ks) post,
        value-back v n l (keys_bytes ks ++ post) (omega arith) (omega (arith, z)),
        keys-back ks n l post (omega arith) (omega (arith, z)),
      )

  clauses-back : (cs : Clauses) (m n l : ℕ) (post : List ℕ) → clauses_depth cs ≤ l → length (clauses_bytes cs) ≤ n → clause_count cs < m →
      clauses m (boolean n l) (value n l) (clauses_bytes cs ++ post) ≡ some (cs, post)
  clauses-back no_clauses zero n l post h i k = absurd (omega arith)
  clauses-back no_clauses (suc m) n l post h i k = refl
  clauses-back (such b cs) zero n l post h i k = absurd (omega arith)
  clauses-back (such b cs) (suc m) n l post h i k =
      let z = length-append (boolean_bytes b) (clauses_bytes cs) in
      rw (
        append_assoc (boolean_bytes b) (clauses_bytes cs) post,
        boolean-back b n l (clauses_bytes cs ++ post) (omega arith) (omega (arith, z)),
        clauses-back cs m n l post (omega arith) (omega (arith, z)) (omega arith),
      )
  clauses-back (sorted ks cs) zero n l post h i k = absurd (omega arith)
  clauses-back (sorted ks cs) (suc m) n l post h i k =
      let z = length-append (keys_bytes ks) (clauses_bytes cs) in
      rw (
        append_assoc (keys_bytes ks) (clauses_bytes cs) post,
        keys-back ks n l (clauses_bytes cs ++ post) (omega arith) (omega (arith, z)),
        clauses-back cs m n l post (omega arith) (omega (arith, z)) (omega arith),
      )

  rse-back : (r : Rse) (n l : ℕ) (post : List ℕ) → rse_depth r ≤ l → length (rse_bytes r) ≤ n → rse_of n (boolean n l) (value n l) (rse_bytes r ++ post) ≡ some (r, post)
  rse-back (rse ss cs) n l post h k =
      let z = clauses-few cs in
      let y = length-append (streams_bytes ss) (clauses_bytes cs) in
      rw (append_assoc (streams_bytes ss) (clauses_bytes cs) post, streams-back ss (clauses_bytes cs ++ post), clauses-back cs n n l post h (omega (arith, y, k)) (omega (arith, z, y, k)))

-- ---- statements

end-other : {A : Type 0} (a : A) (other : Decoder A) (s : List ℕ) → Other blr.end s → at_end a other s ≡ other s
unfolding at_end peek
end-other a other s o = let z = o.2 in let y = ne_eqb o.0 blr.end o.3 in rw (z, y)

end-done : {A : Type 0} (a : A) (other : Decoder A) (s : List ℕ) → at_end a other (blr.end ∷ s) ≡ some (a, s)
unfolding at_end peek byte
end-done a other s = refl

receives-other : (rs : Receives) (post : List ℕ) → Other blr.end (receives_bytes rs ++ (blr.end ∷ post))
unfolding receives_bytes
receives-other (last m t) post = (blr.receive, _, refl, λ e. omega arith)
receives-other (more m t rs) post = (blr.receive, _, refl, λ e. omega arith)

not_end : (t : Statement) (post : List ℕ) → Other blr.end (statement_bytes t ++ post)
unfolding statement_class classify among any_of
not_end t post = other-first post (statement-first blr.end refl t)

statement-long : (t : Statement) → 1 ≤ length (statement_bytes t)
statement-long t = let o = not_end t [] in let z = ap length (sym (append-nil (statement_bytes t)) ∙ o.2) in omega (arith, z)

heading-back : (h : Heading) (n : ℕ) (inner : Decoder Statement) (bs : Decoder Boolean) (vs : Decoder Value) (t : Statement) (post : List ℕ) →
    inner (statement_bytes t ++ post) ≡ some (t, post) →
    (coded statement_class >>= (λ c. statement_under n inner bs vs c)) ((heading_bytes h ++ statement_bytes t) ++ post) ≡ some (headed h t, post)
unfolding heading_bytes statement_class classify coded byte statement_under
heading-back loop n inner bs vs t post e = rw e
heading-back (modify from to) n inner bs vs t post e = rw e
heading-back handler n inner bs vs t post e = rw e
heading-back (receive m) n inner bs vs t post e = rw e
heading-back (send m) n inner bs vs t post e = rw e
heading-back (store x) n inner bs vs t post e = rw (append_assoc (stream_bytes x) (statement_bytes t) post, stream-back x (statement_bytes t ++ post), e)
heading-back (label m) n inner bs vs t post e = rw e

module _ (n : ℕ) where
  -- what stands under a statement's code, with so many levels below it
  under : ℕ → Decoder Statement
  under l = coded statement_class >>= (λ c. statement_under n (statement n l) (boolean n l) (value n l) c)

  level : (l : ℕ) (s : List ℕ) → 0 < l → statement n l s ≡ under (l - 1) s
  unfolding statement under
  level zero s h = absurd (omega arith)
  level (suc l) s h = let z : suc l - 1 ≡ l = omega arith in ap (λ k. under k s) (sym z)

  mutual
    unfolding statement_depth statement_bytes under statement_under statement_class classify coded byte many many_receives code

    pub statement-back : (t : Statement) (l : ℕ) (post : List ℕ) → statement_depth t ≤ l → length (statement_bytes t) ≤ n →
        statement n l (statement_bytes t ++ post) ≡ some (t, post)
    statement-back (assignment v t) l post h k =
        let z = length-append (value_bytes v) (reference_bytes t) in
        level l _ (omega arith) ∙
        rw (
          append_assoc (value_bytes v) (reference_bytes t) post,
          value-back v n (l - 1) (reference_bytes t ++ post) (omega arith) (omega (arith, z)),
          reference-back t post,
        )
    statement-back (begin ss) l post h k =
        let z = length-append (statements_bytes ss) (blr.end ∷ []) in
        level l _ (omega arith) ∙
        rw (append_assoc (statements_bytes ss) (blr.end ∷ []) post, many-back ss (l - 1) n post (omega arith) (omega (arith, z)) (omega (arith, z)))
    statement-back (erase c) l post h k = level l _ (omega arith)
    statement-back (for r t) l post h k =
        let z = length-append (rse_bytes r) (statement_bytes t) in
        level l _ (omega arith) ∙
        rw (
          append_assoc (rse_bytes r) (statement_bytes t) post,
          rse-back r n (l - 1) (statement_bytes t ++ post) (omega arith) (omega (arith, z)),
          statement-back t (l - 1) post (omega arith) (omega (arith, z)),
        )
    statement-back (headed x t) l post h k =
        let z = length-append (heading_bytes x) (statement_bytes t) in
        level l _ (omega arith) ∙
        heading-back x n (statement n (l - 1)) (boolean n (l - 1)) (value n (l - 1)) t post (statement-back t (l - 1) post (omega arith) (omega (arith, z)))
    statement-back (leave m) l post h k = level l _ (omega arith)
    statement-back (if b t) l post h k =
        let z = length-append (boolean_bytes b ++ statement_bytes t) (blr.end ∷ []) in
        let y = length-append (boolean_bytes b) (statement_bytes t) in
        level l _ (omega arith) ∙
        rw (
          append_assoc (boolean_bytes b ++ statement_bytes t) (blr.end ∷ []) post,
          append_assoc (boolean_bytes b) (statement_bytes t) (blr.end ∷ post),
          boolean-back b n (l - 1) (statement_bytes t ++ (blr.end ∷ post)) (omega arith) (omega (arith, z, y)),
          statement-back t (l - 1) (blr.end ∷ post) (omega arith) (omega (arith, z, y)),
          end-done (if b t) _ post,
        )
    statement-back (if_else b t u) l post h k =
        let z = length-append (boolean_bytes b ++ statement_bytes t) (statement_bytes u) in
        let y = length-append (boolean_bytes b) (statement_bytes t) in
        level l _ (omega arith) ∙
        rw (
          append_assoc (boolean_bytes b ++ statement_bytes t) (statement_bytes u) post,
          append_assoc (boolean_bytes b) (statement_bytes t) (statement_bytes u ++ post),
          boolean-back b n (l - 1) (statement_bytes t ++ (statement_bytes u ++ post)) (omega arith) (omega (arith, z, y)),
          statement-back t (l - 1) (statement_bytes u ++ post) (omega arith) (omega (arith, z, y)),
          end-other (if b t) (one (if_else b t) (statement n (l - 1))) (statement_bytes u ++ post) (not_end u post),
          statement-back u (l - 1) post (omega arith) (omega (arith, z, y)),
        )
    statement-back (select rs) l post h k =
        let z = length-append (receives_bytes rs) (blr.end ∷ []) in
        level l _ (omega arith) ∙
        rw (append_assoc (receives_bytes rs) (blr.end ∷ []) post, receives-back rs (l - 1) n post (omega arith) (omega (arith, z)) (omega (arith, z)))

    pub many-back : (ts : Statements) (l m : ℕ) (post : List ℕ) → statements_depth ts ≤ l → length (statements_bytes ts) < m → length (statements_bytes ts) ≤ n →
        many m (λ s. statement n l s) (statements_bytes ts ++ (blr.end ∷ post)) ≡ some (ts, post)
    many-back nothing l zero post h k j = absurd (omega arith)
    many-back nothing l (suc m) post h k j = end-done nothing _ post
    many-back (Tree.◌then◌ t ts) l zero post h k j = absurd (omega arith)
    many-back (Tree.◌then◌ t ts) l (suc m) post h k j =
        let z = length-append (statement_bytes t) (statements_bytes ts) in
        let y = statement-long t in
        rw (
          append_assoc (statement_bytes t) (statements_bytes ts) (blr.end ∷ post),
          end-other nothing _ (statement_bytes t ++ (statements_bytes ts ++ (blr.end ∷ post))) (not_end t _),
          statement-back t l (statements_bytes ts ++ (blr.end ∷ post)) (omega arith) (omega (arith, z)),
          many-back ts l m post (omega arith) (omega (arith, y, z)) (omega (arith, z)),
        )

    receives-back : (rs : Receives) (l m : ℕ) (post : List ℕ) → receives_depth rs ≤ l → length (receives_bytes rs) < m → length (receives_bytes rs) ≤ n →
        many_receives m (statement n l) (receives_bytes rs ++ (blr.end ∷ post)) ≡ some (rs, post)
    receives-back (last x t) l zero post h k j = absurd (omega arith)
    receives-back (last x t) l (suc m) post h k j =
        rw (statement-back t l (blr.end ∷ post) (omega arith) (omega arith), end-done (last x t) _ post)
    receives-back (more x t rs) l zero post h k j = absurd (omega arith)
    receives-back (more x t rs) l (suc m) post h k j =
        let z = length-append (statement_bytes t) (receives_bytes rs) in
        rw (
          append_assoc (statement_bytes t) (receives_bytes rs) (blr.end ∷ post),
          statement-back t l (receives_bytes rs ++ (blr.end ∷ post)) (omega arith) (omega (arith, z)),
          end-other (last x t) _ (receives_bytes rs ++ (blr.end ∷ post)) (receives-other rs post),
          receives-back rs l m post (omega arith) (omega (arith, z)) (omega (arith, z)),
        )

-- ---- messages

descriptor-back : (x : Descriptor) (post : List ℕ) → descriptor (descriptor_bytes x ++ post) ≡ some (x, post)
unfolding descriptor_bytes descriptor descriptor_class classify coded byte
descriptor-back (Descriptor.number w scale) post = rw (width-due w)
descriptor-back Descriptor.date post = refl
descriptor-back (Descriptor.text t m) post = rw (text-due t, word_back m post)

descriptors-back : (xs : List Descriptor) (post : List ℕ) → several (length xs) descriptor (descriptors_bytes xs ++ post) ≡ some (xs, post)
unfolding several descriptors_bytes
descriptors-back [] post = refl
descriptors-back (x ∷ xs) post = rw (append_assoc (descriptor_bytes x) (descriptors_bytes xs) post, descriptor-back x (descriptors_bytes xs ++ post), descriptors-back xs post)

message-back : (m : Message) (post : List ℕ) → message (message_bytes m ++ post) ≡ some (m, post)
unfolding message_bytes message code byte
message-back m post =
    let ds = m.descriptors in
    rw (append_assoc (word_bytes (length ds)) (descriptors_bytes ds) post, word_back (length ds) (descriptors_bytes ds ++ post), descriptors-back ds post)

messages-back : (ms : List Message) (k : ℕ) (post : List ℕ) → length ms ≤ k → Other blr.message post → messages k (messages_bytes ms ++ post) ≡ some (ms, post)
unfolding messages messages_bytes peek message_bytes
messages-back [] zero post h o = refl
messages-back [] (suc k) post h o = let z = o.2 in let y = ne_eqb o.0 blr.message o.3 in rw (z, y)
messages-back (m ∷ ms) zero post h o = absurd (omega arith)
messages-back (m ∷ ms) (suc k) post h o =
    rw (append_assoc (message_bytes m) (messages_bytes ms) post) (first m (messages_bytes ms ++ post) ∙ rw (message-back m (messages_bytes ms ++ post), messages-back ms k post (omega arith) o))
  where
    first : (m : Message) (s : List ℕ) → messages (suc k) (message_bytes m ++ s) ≡ (message >>= (λ m. messages k >>= (λ ms. return (m ∷ ms)))) (message_bytes m ++ s)
    first m s = refl

statements-other : (ts : Statements) (post : List ℕ) → Other blr.message (statements_bytes ts ++ (blr.end ∷ post))
unfolding statements_bytes statement_class classify among any_of
statements-other nothing post = (blr.end, _, refl, λ e. omega arith)
statements-other (Tree.◌then◌ t ts) post = rw append_assoc (other-first (statements_bytes ts ++ (blr.end ∷ post)) (statement-first blr.message refl t))

messages-few : (ms : List Message) → length ms ≤ length (messages_bytes ms)
unfolding messages_bytes message_bytes
messages-few [] = omega arith
messages-few (m ∷ ms) = omega (arith, messages-few ms, length-append (message_bytes m) (messages_bytes ms))

mutual
  unfolding value_depth value_bytes reference_bytes boolean_depth boolean_bytes keys_depth keys_bytes clauses_depth clauses_bytes rse_depth rse_bytes

  value-few : (v : Value) → value_depth v ≤ length (value_bytes v)
  value-few (literal l) = omega arith
  value-few (reference (field c (named n))) = omega arith
  value-few (reference (field c (numbered i))) = omega arith
  value-few (reference (parameter m i)) = omega arith
  value-few (reference (parameter2 m i flag)) = omega arith
  value-few (arithmetic o v w) = omega (arith, value-few v, value-few w, length-append (value_bytes v) (value_bytes w))
  value-few (negate v) = omega (arith, value-few v)
  value-few (statistic k r v) = omega (arith, rse-few r, value-few v, length-append (rse_bytes r) (value_bytes v))
  value-few (count r) = omega (arith, rse-few r)

  boolean-few : (b : Boolean) → boolean_depth b ≤ length (boolean_bytes b)
  boolean-few (compare c v w) = omega (arith, value-few v, value-few w, length-append (value_bytes v) (value_bytes w))
  boolean-few (search t v w) = omega (arith, value-few v, value-few w, length-append (value_bytes v) (value_bytes w))
  boolean-few (between u v w) =
      omega (arith, value-few u, value-few v, value-few w, length-append (value_bytes u ++ value_bytes v) (value_bytes w), length-append (value_bytes u) (value_bytes v))
  boolean-few (connect c a b) = omega (arith, boolean-few a, boolean-few b, length-append (boolean_bytes a) (boolean_bytes b))
  boolean-few (not a) = omega (arith, boolean-few a)
  boolean-few (missing v) = omega (arith, value-few v)
  boolean-few (quantify q r) = omega (arith, rse-few r)

  keys-few : (ks : Keys) → keys_depth ks ≤ length (keys_bytes ks)
  keys-few no_keys = omega arith
  keys-few (key d v ks) = omega (arith, value-few v, keys-few ks, length-append (value_bytes v) (keys_bytes ks))

  clauses-deep : (cs : Clauses) → clauses_depth cs ≤ length (clauses_bytes cs)
  clauses-deep no_clauses = omega arith
  clauses-deep (such b cs) = omega (arith, boolean-few b, clauses-deep cs, length-append (boolean_bytes b) (clauses_bytes cs))
  clauses-deep (sorted ks cs) = omega (arith, keys-few ks, clauses-deep cs, length-append (keys_bytes ks) (clauses_bytes cs))

  rse-few : (r : Rse) → rse_depth r ≤ length (rse_bytes r)
  rse-few (rse ss cs) = omega (arith, clauses-deep cs, length-append (head_bytes ss) (clauses_bytes cs))

heading-long : (h : Heading) → 1 ≤ length (heading_bytes h)
unfolding heading_bytes
heading-long loop = omega arith
heading-long (modify from to) = omega arith
heading-long handler = omega arith
heading-long (receive m) = omega arith
heading-long (send m) = omega arith
heading-long (store s) = omega arith
heading-long (label n) = omega arith

mutual
  unfolding statement_depth statement_bytes

  depth-few : (t : Statement) → statement_depth t ≤ length (statement_bytes t)
  depth-few (assignment v t) = omega (arith, value-few v, length-append (value_bytes v) (reference_bytes t))
  depth-few (begin ss) = omega (arith, depths-few ss, length-append (statements_bytes ss) (blr.end ∷ []))
  depth-few (erase c) = omega arith
  depth-few (for r s) = omega (arith, rse-few r, depth-few s, length-append (rse_bytes r) (statement_bytes s))
  depth-few (headed h s) = omega (arith, heading-long h, depth-few s, length-append (heading_bytes h) (statement_bytes s))
  depth-few (leave n) = omega arith
  depth-few (if b s) = omega (arith, boolean-few b, depth-few s, length-append (boolean_bytes b ++ statement_bytes s) (blr.end ∷ []), length-append (boolean_bytes b) (statement_bytes s))
  depth-few (if_else b s t) =
      omega (arith, boolean-few b, depth-few s, depth-few t, length-append (boolean_bytes b ++ statement_bytes s) (statement_bytes t), length-append (boolean_bytes b) (statement_bytes s))
  depth-few (select rs) = omega (arith, receives-few rs, length-append (receives_bytes rs) (blr.end ∷ []))

  depths-few : (ts : Statements) → statements_depth ts ≤ length (statements_bytes ts)
  depths-few nothing = omega arith
  depths-few (Tree.◌then◌ s ss) = omega (arith, depth-few s, depths-few ss, length-append (statement_bytes s) (statements_bytes ss))

  receives-few : (rs : Receives) → receives_depth rs ≤ length (receives_bytes rs)
  receives-few (last m s) = omega (arith, depth-few s)
  receives-few (more m s rs) = omega (arith, depth-few s, receives-few rs, length-append (statement_bytes s) (receives_bytes rs))

version-read : (v : Version) (post : List ℕ) → version (version_code v ∷ post) ≡ some (v, post)
unfolding version byte
version-read v post = let b = version-back v in rw (b.0, b.1)

request-back : (t : Request) (n : ℕ) → length (request_bytes t) ≤ n → request n (request_bytes t) ≡ some (t, [])
unfolding request request_bytes code byte
request-back t n h =
    let ms = messages_bytes t.messages in
    let ss = statements_bytes t.statements in
    let z = length-append (ms ++ ss) (blr.end ∷ blr.eoc ∷ []) in
    let y = length-append ms ss in
    let x = messages-few t.messages in
    let v = depths-few t.statements in
    rw (
      version-read t.version (blr.begin ∷ (ms ++ ss ++ (blr.end ∷ blr.eoc ∷ []))),
      append_assoc ms ss (blr.end ∷ blr.eoc ∷ []),
      messages-back t.messages n (ss ++ (blr.end ∷ blr.eoc ∷ [])) (omega (arith, h, x, y, z)) (statements-other t.statements (blr.eoc ∷ [])),
      many-back n t.statements n n (blr.eoc ∷ []) (omega (arith, h, v, y, z)) (omega (arith, h, y, z)) (omega (arith, h, y, z)),
    )

-- the bytes of any request are read back as that request, allowed or not
pub decoded : (t : Request) → decode (request_bytes t) ≡ some t
unfolding decode
decoded t = rw (request-back t (length (request_bytes t)) (omega arith))
