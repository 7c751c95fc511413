-- The scan of the bytes of a boolean or a value writes the rows of that boolean or value.
use Prim.Native.Nat.{ℕ, suc, ◌+◌, ◌*◌, ◌-◌, ◌≤◌}
use mathlib.Core.Path.{◌≡◌, refl, sym, ap, subst, ◌∙◌}
use mathlib.Core.List.{List, [], ◌∷◌, ◌++◌, append_assoc, append-nil}
use mathlib.Core.Option.{some}
use native.Mathlib.Omega.{arith}
use borrow.Author.Tests.{le-leb}
use lib.ListN.{length, drop, length-append, length-drop}
use lib.Seq.{sets, take-append_seam}
use Rattle.wire.specs.Codes as blr
use Rattle.wire.specs.Words.{byte_at, word_at, word_bytes}
use Rattle.wire.specs.Classes.{classify, literal_class, stream_class}
use Rattle.wire.specs.declared.codes.Width.{Width}
use Rattle.wire.specs.declared.codes.Width.TheVariants.{Short, Long, Int64}
use Rattle.wire.specs.declared.codes.Operator.{Operator}
use Rattle.wire.specs.declared.codes.Operator.TheVariants.{Add, Subtract, Multiply, Divide}
use Rattle.wire.specs.declared.codes.Statistic.{Statistic}
use Rattle.wire.specs.declared.codes.Statistic.TheVariants.{Average, Maximum, Minimum, Total}
use Rattle.wire.specs.declared.codes.Comparison.{Comparison}
use Rattle.wire.specs.declared.codes.Comparison.TheVariants.{Eql, Neq, Gtr, Geq, Lss, Leq}
use Rattle.wire.specs.declared.codes.TextSearch.{TextSearch}
use Rattle.wire.specs.declared.codes.TextSearch.TheVariants.{Containing, Matching, Starting}
use Rattle.wire.specs.declared.codes.Connective.{Connective}
use Rattle.wire.specs.declared.codes.Connective.TheVariants.{Or, And}
use Rattle.wire.specs.declared.codes.Quantifier.{Quantifier}
use Rattle.wire.specs.declared.codes.Quantifier.TheVariants.{Any, Unique}
use Rattle.wire.specs.declared.codes.Direction.{Direction}
use Rattle.wire.specs.declared.codes.Direction.TheVariants.{Ascending, Descending}
use Rattle.dictionary.specs.Format.{width_bytes}
use Rattle.dictionary.specs.Naming.{Name, named, numbered}
use Rattle.dictionary.specs.Internal.Walk.{relation_place}
use Rattle.grammar.specs.Tree as Tree
use Rattle.grammar.specs.Tree.{Stream, Reference, field, parameter, parameter2, Value, literal, reference, arithmetic, negate, statistic, count, Boolean, compare, search, between, connect, not, missing, quantify, Keys, no_keys, key, Clauses, no_clauses, such, sorted, Rse, rse}
use Rattle.grammar.specs.Bytes.{width_code, operator_code, statistic_code, comparison_code, search_code, connective_code, quantifier_code, direction_code, number_bytes, stream_of, stream_bytes, streams_bytes, head_bytes, literal_bytes, reference_bytes, key_count, value_bytes, boolean_bytes, keys_bytes, clauses_bytes, rse_bytes}
use Rattle.grammar.specs.Environment.{Environment, Scope, under_streams, under_rse_of}
use Rattle.grammar.specs.Sizes.{OneStream}
use Rattle.grammar.specs.Rules.{ValueAllowed, BooleanAllowed, KeysAllowed, ClausesAllowed, RseAllowed}
use Rattle.grammar.proofs.Found.{byte-on, word_on}
use Rattle.grammar.proofs.Due.{number-due}
use Rattle.walking.specs.Sees.{such_place}
use Rattle.walking.proofs.Link.{past}
use Rattle.surroundings.specs.Slots.{place_or}
use Rattle.surroundings.specs.Bindings.{Binding, binding_rows}
use Rattle.runs.specs.declared.forms.Form.{Form}
use Rattle.runs.specs.declared.forms.Form.TheVariants.{Plain, Field, Literal, Sort, Open, Such, Close}
use Rattle.runs.specs.Forms.{form_in, form_of, literal_length}
use Rattle.runs.specs.Passes.{after_stream, pass_at, pass_by, passed}
use Rattle.runs.specs.Steps.{opened_at, step_by, stepped, steps, found}
use Rattle.runs.specs.Found.{value_bindings, bindings_of, rse_bindings, clauses_bindings}
use Rattle.runs.proofs.Leads.{reaches, seen, rests}
use Rattle.runs.proofs.Writes.{Passes, passes_none, passes-both, Does, Ends, row_of, does-none, does-both, does-as, ends_as, does-leaf, does-plain, ends-end, ends-such, ends-sort, does-open}

-- ---- forms of codes

operator-form : (o : Operator) → form_of (operator_code o) ≡ Plain 1 2
unfolding form_of form_in
operator-form Add = refl
operator-form Subtract = refl
operator-form Multiply = refl
operator-form Divide = refl

statistic-form : (k : Statistic) → form_of (statistic_code k) ≡ Open 1
unfolding form_of form_in
statistic-form Average = refl
statistic-form Maximum = refl
statistic-form Minimum = refl
statistic-form Total = refl

comparison-form : (c : Comparison) → form_of (comparison_code c) ≡ Plain 1 2
unfolding form_of form_in
comparison-form Eql = refl
comparison-form Neq = refl
comparison-form Gtr = refl
comparison-form Geq = refl
comparison-form Lss = refl
comparison-form Leq = refl

search-form : (t : TextSearch) → form_of (search_code t) ≡ Plain 1 2
unfolding form_of form_in
search-form Containing = refl
search-form Matching = refl
search-form Starting = refl

connective-form : (c : Connective) → form_of (connective_code c) ≡ Plain 1 2
unfolding form_of form_in
connective-form Or = refl
connective-form And = refl

quantifier-form : (q : Quantifier) → form_of (quantifier_code q) ≡ Open 0
unfolding form_of form_in
quantifier-form Any = refl
quantifier-form Unique = refl

direction-form : (x : Direction) → form_of (direction_code x) ≡ Plain 1 1
unfolding form_of form_in
direction-form Ascending = refl
direction-form Descending = refl

module _ (d s : List ℕ) where
  -- ---- bytes at a place

  byte-is : (p x : ℕ) (t : List ℕ) → drop p s ≡ x ∷ t → byte_at s p ≡ x
  byte-is p x t e = let z : p + 0 ≡ p = omega arith in rw z at (byte-on s p 0 (x ∷ t) e)

  next : (p x : ℕ) (t : List ℕ) → drop p s ≡ x ∷ t → drop (p + 1) s ≡ t
  next p x t e = past s p (x ∷ []) t e

  word-is : (p n : ℕ) (t : List ℕ) → drop p s ≡ word_bytes n ++ t → word_at s p ≡ n
  word-is p n t e =
      let z : p + 0 ≡ p = omega arith in
      let w = rw z at (word_on s p 0 (word_bytes n ++ t) e) in omega (arith, w)

  form-is : (p x : ℕ) (t : List ℕ) (f : Form) → drop p s ≡ x ∷ t → form_of x ≡ f → form_of (byte_at s p) ≡ f
  form-is p x t f e g = ap form_of (byte-is p x t e) ∙ g

  -- ---- values

  width-size : (w : Width) (n : ℕ) → length (number_bytes w n) ≡ width_bytes w
  width-size Short n = refl
  width-size Long n = refl
  width-size Int64 n = refl

  literal-length : (l : Tree.Literal) (p : ℕ) (post : List ℕ) → drop p s ≡ literal_bytes l ++ post → literal_length s p ≡ length (literal_bytes l)
  unfolding literal_length literal_bytes literal_class classify
  literal-length (Tree.Literal.number w scale n) p post e =
      let z : 2 + width_bytes w ≡ suc (suc (length (number_bytes w n))) = omega (arith, width-size w n) in
      rw (literal_length, byte-is p (width_code w) _ e, number-due w) z
  literal-length (Tree.Literal.text t) p post e =
      let h1 : drop (p + 1) s ≡ word_bytes (length t) ++ (t ++ post) = next p blr.text _ e in
      let z : 3 + length t ≡ suc (suc (suc (length t))) = omega arith in
      rw (literal_length, byte-is p blr.text _ e, word-is (p + 1) (length t) _ h1) z

  literal-scan : (l : Tree.Literal) (p : ℕ) (post : List ℕ) → drop p s ≡ value_bytes (literal l) ++ post → Does d s 1 p (suc (length (literal_bytes l))) []
  unfolding value_bytes stepped step_by passed pass_by form_of form_in
  literal-scan l p post e =
      let n = literal-length l (p + 1) post (next p blr.literal _ e) in
      let z : p + 1 + literal_length s (p + 1) ≡ p + suc (length (literal_bytes l)) = omega (arith, n) in
      let f = form-is p blr.literal _ Literal e refl in
      does-leaf d s p (suc (length (literal_bytes l))) (λ j. rw f (ap (λ q. pass_at q (j - 1 + 0)) z))
      (λ j r w t. rw f (ap (λ q. seen q (j - 1 + 0) r w t) z)) (omega arith)

  reference-scan : (r : Reference) (p : ℕ) (post : List ℕ) → drop p s ≡ reference_bytes r ++ post → Does d s 1 p (length (reference_bytes r)) []
  unfolding reference_bytes stepped step_by passed pass_by form_of form_in
  reference-scan (field c (named n)) p post e =
      let h1 = next p blr.field _ e in
      let h2 = next (p + 1) c _ h1 in
      let y : p + 1 + 1 ≡ p + 2 = omega arith in
      let h3 : drop (p + 2) s ≡ length n ∷ n ++ post = rw y at h2 in
      let b = byte-is (p + 2) (length n) _ h3 in
      let z : p + 3 + byte_at s (p + 2) ≡ p + suc (suc (suc (length n))) = omega (arith, b) in
      let f = form-is p blr.field _ Field e refl in
      does-leaf d s p (suc (suc (suc (length n)))) (λ j. rw f (ap (λ q. pass_at q (j - 1 + 0)) z))
      (λ j r w t. rw f (ap (λ q. seen q (j - 1 + 0) r w t) z)) (omega arith)
  reference-scan (field c (numbered i)) p post e =
      does-plain d s p 4 0 0 [] (form-is p blr.fid _ (Plain 4 0) e refl) (omega arith) (does-none d s (p + 4))
  reference-scan (parameter m i) p post e =
      does-plain d s p 4 0 0 [] (form-is p blr.parameter _ (Plain 4 0) e refl) (omega arith) (does-none d s (p + 4))
  reference-scan (parameter2 m i flag) p post e =
      does-plain d s p 6 0 0 [] (form-is p blr.parameter2 _ (Plain 6 0) e refl) (omega arith) (does-none d s (p + 6))

  -- a part of the bytes is no longer than all of them
  part-fits : (p : ℕ) (u t : List ℕ) → drop p s ≡ u ++ t → length u ≤ length s
  part-fits p u t e = omega (arith, ap length e, length-append u t, length-drop p s)

  -- one after another, after a code
  one-part : (p x n : ℕ) (bs : List Binding) (t : List ℕ) → drop p s ≡ x ∷ t → form_of x ≡ Plain 1 1 → Does d s 1 (p + 1) n bs →
      Does d s 1 p (suc n) bs
  one-part p x n bs t e f h =
      let z : 1 + n ≡ suc n = omega arith in
      does-as d s 1 p (1 + n) (suc n) bs (does-plain d s p 1 1 n bs (form-is p x t (Plain 1 1) e f) (omega arith) h) z

  two-parts : (p x : ℕ) (u v : List ℕ) (xs ys : List Binding) (t : List ℕ) → drop p s ≡ x ∷ t → form_of x ≡ Plain 1 2 →
      Does d s 1 (p + 1) (length u) xs → Does d s 1 (p + 1 + length u) (length v) ys → Does d s 1 p (suc (length (u ++ v))) (xs ++ ys)
  two-parts p x u v xs ys t e f g h =
      let z : 1 + (length u + length v) ≡ suc (length (u ++ v)) = omega (arith, length-append u v) in
      does-as d s 1 p (1 + (length u + length v)) (suc (length (u ++ v))) (xs ++ ys)
      (does-plain d s p 1 2 (length u + length v) (xs ++ ys) (form-is p x t (Plain 1 2) e f) (omega arith)
      (does-both d s 1 1 (p + 1) (length u) (length v) xs ys g h)) z

  three-parts : (p x : ℕ) (u v w : List ℕ) (xs ys zs : List Binding) (t : List ℕ) → drop p s ≡ x ∷ t → form_of x ≡ Plain 1 3 →
      Does d s 1 (p + 1) (length u) xs → Does d s 1 (p + 1 + length u) (length v) ys →
      Does d s 1 (p + 1 + length u + length v) (length w) zs → Does d s 1 p (suc (length ((u ++ v) ++ w))) ((xs ++ ys) ++ zs)
  three-parts p x u v w xs ys zs t e f g h i =
      let n = length u in
      let m = length v in
      let o = length w in
      let z : 1 + (n + m + o) ≡ suc (length ((u ++ v) ++ w)) = omega (arith, length-append (u ++ v) w, length-append u v) in
      let y : p + 1 + n + m ≡ p + 1 + (n + m) = omega arith in
      does-as d s 1 p (1 + (n + m + o)) _ ((xs ++ ys) ++ zs)
      (does-plain d s p 1 3 (n + m + o) ((xs ++ ys) ++ zs) (form-is p x t (Plain 1 3) e f) (omega arith)
      (does-both d s 2 1 (p + 1) (n + m) o (xs ++ ys) zs (does-both d s 1 1 (p + 1) n m xs ys g h) (subst (λ q. Does d s 1 q o zs) y i))) z

  -- ---- streams

  named-opened : (n : Name) (c p : ℕ) (post : List ℕ) → drop p s ≡ stream_of n c ++ post → (q : ℕ) → p + length (stream_of n c) ≡ q →
      opened_at d s p ≡ record { relation = place_or (relation_place d n); number = c; after = q }
  unfolding opened_at stream_class classify
  named-opened (named n) c p post e q j =
      let h1 : drop (p + 1) s ≡ length n ∷ n ++ (c ∷ post) = next p blr.relation _ e ∙ ap (λ l. length n ∷ l) (append_assoc n (c ∷ []) post) in
      let b = byte-is (p + 1) (length n) _ h1 in
      let h2 = next (p + 1) (length n) _ h1 in
      let z : p + 1 + 1 + length n ≡ p + 2 + length n = omega arith in
      let h3 : drop (p + 2 + length n) s ≡ c ∷ post = rw z at (past s (p + 1 + 1) n _ h2) in
      let y : p + 3 + length n ≡ q = omega (arith, j, length-append n (c ∷ [])) in
      rw (opened_at, byte-is p blr.relation _ e, b, h2, take-append_seam n (c ∷ post), byte-is (p + 2 + length n) c _ h3, y)
  named-opened (numbered i) c p post e q j =
      let h1 : drop (p + 1) s ≡ word_bytes i ++ (c ∷ post) = next p blr.rid _ e in
      let z : p + 1 + 2 ≡ p + 3 = omega arith in
      let h2 : drop (p + 3) s ≡ c ∷ post = rw z at (past s (p + 1) (word_bytes i) _ h1) in
      let y : p + 4 ≡ q = omega (arith, j) in
      rw (opened_at, byte-is p blr.rid _ e, word-is (p + 1) i _ h1, byte-is (p + 3) c _ h2, y)

  named-after : (n : Name) (c p : ℕ) (post : List ℕ) → drop p s ≡ stream_of n c ++ post → after_stream s p ≡ p + length (stream_of n c)
  unfolding after_stream stream_class classify
  named-after (named n) c p post e =
      let b = byte-is (p + 1) (length n) _ (next p blr.relation _ e) in
      let y : p + 3 + length n ≡ p + length (stream_of (named n) c) = omega (arith, length-append n (c ∷ [])) in
      rw (after_stream, byte-is p blr.relation _ e, b) y
  named-after (numbered i) c p post e = rw (after_stream, byte-is p blr.rid _ e)

  -- an rse after a code at p, of one stream, by the scan of its clauses, and m numbers after it
  rse-does : (x m : ℕ) (ss : List Stream) (cs : Clauses) (u : List ℕ) (p : ℕ) (post : List ℕ) (zs : List Binding) → form_of x ≡ Open m →
      length ss ≡ 1 → drop p s ≡ x ∷ rse_bytes (rse ss cs) ++ (u ++ post) →
      (drop (p + 1 + length (head_bytes ss)) s ≡ clauses_bytes cs ++ (u ++ post) →
      Ends d s (p + 1 + length (head_bytes ss)) (length (clauses_bytes cs)) (such_place cs (p + 1 + length (head_bytes ss)))
      (clauses_bindings d cs (p + 1 + length (head_bytes ss)))) →
      (drop (p + 1 + length (rse_bytes (rse ss cs))) s ≡ u ++ post → Does d s m (p + 1 + length (rse_bytes (rse ss cs))) (length u) zs) →
      Does d s 1 p (suc (length (rse_bytes (rse ss cs) ++ u)))
      (rse_bindings d (rse ss cs) p (p + 1 + length (rse_bytes (rse ss cs)) + length u) ++ zs)
  unfolding rse_bytes head_bytes streams_bytes rse_bindings stream_bytes
  rse-does x m [] cs u p post zs i o e f g = absurd (omega arith)
  rse-does x m (y ∷ []) cs u p post zs i o e f g =
      let ss : List Stream = y ∷ [] in
      let k : ℕ = length (head_bytes ss) in
      let n : ℕ = length (clauses_bytes cs) in
      let rest = u ++ post in
      let e0 : drop (p + 1) s ≡ head_bytes ss ++ (clauses_bytes cs ++ rest) = next p x _ e ∙ append_assoc (head_bytes ss) (clauses_bytes cs) rest in
      let c = past s (p + 1) (head_bytes ss) _ e0 in
      let e1 : drop (p + 2) s ≡ 1 ∷ (stream_bytes y ++ []) ++ (clauses_bytes cs ++ rest) =
      let z : p + 1 + 1 ≡ p + 2 = omega arith in rw z at (next (p + 1) blr.rse _ e0)
      in
      let e2 : drop (p + 3) s ≡ (stream_bytes y ++ []) ++ (clauses_bytes cs ++ rest) =
      let z : p + 2 + 1 ≡ p + 3 = omega arith in rw z at (next (p + 2) 1 _ e1)
      in
      let e3 : drop (p + 3) s ≡ stream_bytes y ++ (clauses_bytes cs ++ rest) =
      e2 ∙ ap (λ l. l ++ (clauses_bytes cs ++ rest)) (append-nil (stream_bytes y))
      in
      let w : p + 3 + length (stream_bytes y) ≡ p + suc k = omega (arith, length-append (stream_bytes y) []) in
      let a = named-opened y.relation y.context (p + 3) _ e3 (p + suc k) w in
      let b : after_stream s (p + 3) ≡ p + suc k = named-after y.relation y.context (p + 3) _ e3 ∙ w in
      let all : p + suc k + n ≡ p + 1 + length (rse_bytes (rse ss cs)) = omega (arith, length-append (head_bytes ss) (clauses_bytes cs)) in
      let at : p + 1 + k ≡ p + suc k = omega arith in
      let c1 : drop (p + suc k) s ≡ clauses_bytes cs ++ rest = rw at at c in
      let after : drop (p + 1 + length (rse_bytes (rse ss cs))) s ≡ u ++ post = rw all at (past s (p + suc k) (clauses_bytes cs) _ c1) in
      let q = such_place cs (p + 1 + k) in
      let ys = clauses_bindings d cs (p + 1 + k) in
      let r = place_or (relation_place d y.relation) in
      let f1 = subst (λ z. Ends d s z n q ys) at (f c) in
      let g1 = subst (λ z. Does d s m z (length u) zs) (sym all) (g after) in
      let h = does-open d s p (suc k) n m (length u) y.context r q ys zs (form-is p x _ (Open m) e i) a b (omega arith)
      (part-fits (p + 1 + length (rse_bytes (rse ss cs))) u post after) f1 g1 in
      let size : suc k + n + length u ≡ suc (length (rse_bytes (rse ss cs) ++ u)) =
      omega (arith, length-append (rse_bytes (rse ss cs)) u, length-append (head_bytes ss) (clauses_bytes cs)) in
      does-as d s 1 p (suc k + n + length u) _ _
      (subst (λ z. Does d s 1 p (suc k + n + length u) (row_of p y.context r q z (z + length u) ∷ (ys ++ zs))) all h) size
  rse-does x m (y ∷ z ∷ ss) cs u p post zs i o e f g = absurd (omega arith)

  -- with no number
  rse-alone : (x : ℕ) (ss : List Stream) (cs : Clauses) (p : ℕ) (post : List ℕ) → form_of x ≡ Open 0 → length ss ≡ 1 →
      drop p s ≡ x ∷ rse_bytes (rse ss cs) ++ post →
      (drop (p + 1 + length (head_bytes ss)) s ≡ clauses_bytes cs ++ post →
      Ends d s (p + 1 + length (head_bytes ss)) (length (clauses_bytes cs)) (such_place cs (p + 1 + length (head_bytes ss)))
      (clauses_bindings d cs (p + 1 + length (head_bytes ss)))) →
      Does d s 1 p (suc (length (rse_bytes (rse ss cs)))) (rse_bindings d (rse ss cs) p (p + 1 + length (rse_bytes (rse ss cs))))
  rse-alone x ss cs p post i o e f =
      let after = p + 1 + length (rse_bytes (rse ss cs)) in
      let z : after + 0 ≡ after = omega arith in
      let a = rse-does x 0 ss cs [] p post [] i o e f (λ h. does-none d s after) in
      let b = subst (λ n. Does d s 1 p (suc (length (rse_bytes (rse ss cs) ++ []))) (rse_bindings d (rse ss cs) p n ++ [])) z a in
      subst (Does d s 1 p (suc (length (rse_bytes (rse ss cs))))) (append-nil (rse_bindings d (rse ss cs) p after))
      (does-as d s 1 p _ _ _ b (ap (λ l. suc (length l)) (append-nil (rse_bytes (rse ss cs)))))

  module _ (v : Environment) where
    mutual
      unfolding value_bytes value_bindings such_place key_count form_of form_in

      pub value-scan : (x : Value) (sc : Scope) (p : ℕ) (post : List ℕ) → ValueAllowed v sc x → drop p s ≡ value_bytes x ++ post →
          Does d s 1 p (length (value_bytes x)) (value_bindings d x p)
      value-scan (literal l) sc p post a e = literal-scan l p post e
      value-scan (reference r) sc p post a e = reference-scan r p post e
      value-scan (arithmetic o x y) sc p post a e =
          let e1 : drop (p + 1) s ≡ value_bytes x ++ (value_bytes y ++ post) = next p (operator_code o) _ e ∙ append_assoc (value_bytes x) (value_bytes y) post in
          two-parts p (operator_code o) (value_bytes x) (value_bytes y) _ _ _ e (operator-form o) (value-scan x sc (p + 1) _ a.0 e1)
          (value-scan y sc (p + 1 + length (value_bytes x)) post a.1 (past s (p + 1) (value_bytes x) _ e1))
      value-scan (negate x) sc p post a e =
          one-part p blr.negate (length (value_bytes x)) _ _ e refl (value-scan x sc (p + 1) post a.0 (next p blr.negate _ e))
      value-scan (statistic k r x) sc p post a e =
          rse-scan r (statistic_code k) 1 (value_bytes x) sc p post _ (statistic-form k) a.0 a.1
          (e ∙ ap (λ l. statistic_code k ∷ l) (append_assoc (rse_bytes r) (value_bytes x) post))
          (λ h. value-scan x (under_rse_of v.relations (statistic_code k) sc r) (p + 1 + length (rse_bytes r)) post a.2 h)
      value-scan (count r) sc p post a e = alone-scan r blr.count sc p post refl a.0 a.1 e

      pub boolean-scan : (b : Boolean) (sc : Scope) (p : ℕ) (post : List ℕ) → BooleanAllowed v sc b → drop p s ≡ boolean_bytes b ++ post →
          Does d s 1 p (length (boolean_bytes b)) (bindings_of d b p)
      boolean-scan (compare c x y) sc p post a e =
          let e1 : drop (p + 1) s ≡ value_bytes x ++ (value_bytes y ++ post) = next p (comparison_code c) _ e ∙ append_assoc (value_bytes x) (value_bytes y) post in
          two-parts p (comparison_code c) (value_bytes x) (value_bytes y) _ _ _ e (comparison-form c) (value-scan x sc (p + 1) _ a.0 e1)
          (value-scan y sc (p + 1 + length (value_bytes x)) post a.1 (past s (p + 1) (value_bytes x) _ e1))
      boolean-scan (search c x y) sc p post a e =
          let e1 : drop (p + 1) s ≡ value_bytes x ++ (value_bytes y ++ post) = next p (search_code c) _ e ∙ append_assoc (value_bytes x) (value_bytes y) post in
          two-parts p (search_code c) (value_bytes x) (value_bytes y) _ _ _ e (search-form c) (value-scan x sc (p + 1) _ a.0 e1)
          (value-scan y sc (p + 1 + length (value_bytes x)) post a.1 (past s (p + 1) (value_bytes x) _ e1))
      boolean-scan (between x y z) sc p post a e =
          let e1 : drop (p + 1) s ≡ value_bytes x ++ (value_bytes y ++ (value_bytes z ++ post)) =
          next p blr.between _ e ∙ append_assoc (value_bytes x ++ value_bytes y) (value_bytes z) post
          ∙ append_assoc (value_bytes x) (value_bytes y) (value_bytes z ++ post)
          in
          let e2 = past s (p + 1) (value_bytes x) _ e1 in
          three-parts p blr.between (value_bytes x) (value_bytes y) (value_bytes z) _ _ _ _ e refl (value-scan x sc (p + 1) _ a.0 e1)
          (value-scan y sc (p + 1 + length (value_bytes x)) _ a.1 e2)
          (value-scan z sc (p + 1 + length (value_bytes x) + length (value_bytes y)) post a.2 (past s (p + 1 + length (value_bytes x)) (value_bytes y) _ e2))
      boolean-scan (connect c x y) sc p post a e =
          let e1 : drop (p + 1) s ≡ boolean_bytes x ++ (boolean_bytes y ++ post) = next p (connective_code c) _ e ∙ append_assoc (boolean_bytes x) (boolean_bytes y) post in
          two-parts p (connective_code c) (boolean_bytes x) (boolean_bytes y) (bindings_of d x (p + 1)) (bindings_of d y (p + 1 + length (boolean_bytes x))) _ e
          (connective-form c) (boolean-scan x sc (p + 1) _ a.0 e1)
          (boolean-scan y sc (p + 1 + length (boolean_bytes x)) post a.1 (past s (p + 1) (boolean_bytes x) _ e1))
      boolean-scan (not x) sc p post a e =
          one-part p blr.not (length (boolean_bytes x)) (bindings_of d x (p + 1)) _ e refl (boolean-scan x sc (p + 1) post a (next p blr.not _ e))
      boolean-scan (missing x) sc p post a e =
          one-part p blr.missing (length (value_bytes x)) _ _ e refl (value-scan x sc (p + 1) post a (next p blr.missing _ e))
      boolean-scan (quantify q r) sc p post a e = alone-scan r (quantifier_code q) sc p post (quantifier-form q) a.0 a.1 e

      -- an rse after a code, and m numbers after it
      rse-scan : (r : Rse) (x m : ℕ) (u : List ℕ) (sc : Scope) (p : ℕ) (post : List ℕ) (zs : List Binding) → form_of x ≡ Open m → OneStream r →
          RseAllowed v x sc r → drop p s ≡ x ∷ rse_bytes r ++ (u ++ post) →
          (drop (p + 1 + length (rse_bytes r)) s ≡ u ++ post → Does d s m (p + 1 + length (rse_bytes r)) (length u) zs) →
          Does d s 1 p (suc (length (rse_bytes r ++ u))) (rse_bindings d r p (p + 1 + length (rse_bytes r) + length u) ++ zs)
      rse-scan (rse ss cs) x m u sc p post zs i o a e g =
          rse-does x m ss cs u p post zs i o e
          (λ h. clauses-scan cs (under_streams v.relations x sc ss) (p + 1 + length (head_bytes ss)) (u ++ post) a.3 h) g

      alone-scan : (r : Rse) (x : ℕ) (sc : Scope) (p : ℕ) (post : List ℕ) → form_of x ≡ Open 0 → OneStream r → RseAllowed v x sc r →
          drop p s ≡ x ∷ rse_bytes r ++ post → Does d s 1 p (suc (length (rse_bytes r))) (rse_bindings d r p (p + 1 + length (rse_bytes r)))
      alone-scan (rse ss cs) x sc p post i o a e =
          rse-alone x ss cs p post i o e
          (λ h. clauses-scan cs (under_streams v.relations x sc ss) (p + 1 + length (head_bytes ss)) post a.3 h)

      keys-scan : (ks : Keys) (sc : Scope) (p : ℕ) (post : List ℕ) → KeysAllowed v sc ks → drop p s ≡ keys_bytes ks ++ post →
          Passes s (key_count ks) p (length (keys_bytes ks))
      keys-scan no_keys sc p post a e = passes_none s p
      keys-scan (key o x ks) sc p post a e =
          let e1 : drop (p + 1) s ≡ value_bytes x ++ (keys_bytes ks ++ post) = next p (direction_code o) _ e ∙ append_assoc (value_bytes x) (keys_bytes ks) post in
          let y : p + 1 + length (value_bytes x) ≡ p + suc (length (value_bytes x)) = omega arith in
          let e2 : drop (p + suc (length (value_bytes x))) s ≡ keys_bytes ks ++ post = rw y at (past s (p + 1) (value_bytes x) _ e1) in
          let z : suc (length (value_bytes x)) + length (keys_bytes ks) ≡ suc (length (value_bytes x ++ keys_bytes ks)) =
          omega (arith, length-append (value_bytes x) (keys_bytes ks))
          in
          let c : 1 + key_count ks ≡ suc (key_count ks) = omega arith in
          subst (Passes s (suc (key_count ks)) p) z
          (subst (λ n. Passes s n p (suc (length (value_bytes x)) + length (keys_bytes ks))) c
          (passes-both s 1 (key_count ks) p (suc (length (value_bytes x))) (length (keys_bytes ks))
          (one-part p (direction_code o) (length (value_bytes x)) (value_bindings d x (p + 1)) _ e (direction-form o) (value-scan x sc (p + 1) _ a.0 e1)).0
          (keys-scan ks sc (p + suc (length (value_bytes x))) post a.1 e2)))

      clauses-scan : (cs : Clauses) (sc : Scope) (p : ℕ) (post : List ℕ) → ClausesAllowed v sc cs → drop p s ≡ clauses_bytes cs ++ post →
          Ends d s p (length (clauses_bytes cs)) (such_place cs p) (clauses_bindings d cs p)
      clauses-scan no_clauses sc p post a e = ends-end d s p (form-is p blr.end _ Close e refl)
      clauses-scan (such b cs) sc p post a e =
          let e1 : drop (p + 1) s ≡ boolean_bytes b ++ (clauses_bytes cs ++ post) = next p blr.boolean _ e ∙ append_assoc (boolean_bytes b) (clauses_bytes cs) post in
          let q : ℕ = p + 1 + length (boolean_bytes b) in
          let i : 1 + length (boolean_bytes b) + length (clauses_bytes cs) ≡ suc (length (boolean_bytes b ++ clauses_bytes cs)) =
          omega (arith, length-append (boolean_bytes b) (clauses_bytes cs))
          in
          ends_as d s p (1 + length (boolean_bytes b) + length (clauses_bytes cs)) _ (some (p + 1)) _
          (ends-such d s p (length (boolean_bytes b)) (length (clauses_bytes cs)) (such_place cs q) (bindings_of d b (p + 1)) (clauses_bindings d cs q)
          (form-is p blr.boolean _ Such e refl) (boolean-scan b sc (p + 1) _ a.0 e1)
          (clauses-scan cs sc q post a.1 (past s (p + 1) (boolean_bytes b) _ e1))) i
      clauses-scan (sorted ks cs) sc p post a e =
          let e1 = next p blr.sort _ e in
          let z : p + 1 + 1 ≡ p + 2 = omega arith in
          let e2 : drop (p + 2) s ≡ (keys_bytes ks ++ clauses_bytes cs) ++ post = rw z at (next (p + 1) (key_count ks) _ e1) in
          let e3 : drop (p + 2) s ≡ keys_bytes ks ++ (clauses_bytes cs ++ post) = e2 ∙ append_assoc (keys_bytes ks) (clauses_bytes cs) post in
          let q : ℕ = p + 2 + length (keys_bytes ks) in
          let i : 2 + length (keys_bytes ks) + length (clauses_bytes cs) ≡ suc (suc (length (keys_bytes ks ++ clauses_bytes cs))) =
          omega (arith, length-append (keys_bytes ks) (clauses_bytes cs))
          in
          ends_as d s p (2 + length (keys_bytes ks) + length (clauses_bytes cs)) _ (such_place cs q) _
          (ends-sort d s p (key_count ks) (length (keys_bytes ks)) (length (clauses_bytes cs)) (such_place cs q) (clauses_bindings d cs q)
          (form-is p blr.sort _ Sort e refl) (byte-is (p + 1) (key_count ks) _ e1) (part-fits (p + 2) (keys_bytes ks) _ e3)
          (keys-scan ks sc (p + 2) _ a.1 e3) (clauses-scan cs sc q post a.2 (past s (p + 2) (keys_bytes ks) _ e3))) i

  -- the whole scan of n bytes whose rows are these
  found_rows : (u : List ℕ) (bs : List Binding) (p : ℕ) (post : List ℕ) (from : ℕ) (t : List ℕ) → Does d s 1 p (length u) bs →
      drop p s ≡ u ++ post → length s ≤ 65535 → from + length bs ≤ 32 → 320 ≤ length t →
      found d s p from t ≡ seen (p + length u) 0 (from + length bs) 32 (sets t (from * 10) (binding_rows bs))
  unfolding found
  found_rows u bs p post from t f e h m l =
      rw (le-leb (length s) 65535 h)
      (reaches (steps d s) (seen p 1 from 32 t) _ (length s) (length u) (f.1 1 0 from 32 t refl m l) (part-fits p u post e)
      (rests d s (p + length u) (from + length bs) 32 (sets t (from * 10) (binding_rows bs))))

  -- that of a condition, and of a from-value
  module _ (v : Environment) where
    pub found_all : (b : Boolean) (sc : Scope) (p : ℕ) (post : List ℕ) (from : ℕ) (t : List ℕ) → BooleanAllowed v sc b →
        drop p s ≡ boolean_bytes b ++ post → length s ≤ 65535 → from + length (bindings_of d b p) ≤ 32 → 320 ≤ length t →
        found d s p from t ≡
        seen (p + length (boolean_bytes b)) 0 (from + length (bindings_of d b p)) 32 (sets t (from * 10) (binding_rows (bindings_of d b p)))
    found_all b sc p post from t a e h m l = found_rows (boolean_bytes b) (bindings_of d b p) p post from t (boolean-scan v b sc p post a e) e h m l

    pub found-value : (x : Value) (sc : Scope) (p : ℕ) (post : List ℕ) (from : ℕ) (t : List ℕ) → ValueAllowed v sc x →
        drop p s ≡ value_bytes x ++ post → length s ≤ 65535 → from + length (value_bindings d x p) ≤ 32 → 320 ≤ length t →
        found d s p from t ≡
        seen (p + length (value_bytes x)) 0 (from + length (value_bindings d x p)) 32 (sets t (from * 10) (binding_rows (value_bindings d x p)))
    found-value x sc p post from t a e h m l = found_rows (value_bytes x) (value_bindings d x p) p post from t (value-scan v x sc p post a e) e h m l
