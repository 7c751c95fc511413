-- The kind of a value on its bytes is the one that the rules give it.
use Prim.Native.Nat.{ℕ, zero, suc, ◌+◌, ◌-◌, ◌<◌, ◌≤◌}
use mathlib.Core.Path.{◌≡◌, refl, sym, ap, ap₂, subst, ◌∙◌}
use mathlib.Core.Bool.{true, false}
use mathlib.Core.List.{List, [], ◌∷◌, ◌++◌, append_assoc, append-nil, map-append}
use mathlib.Core.Option.{Option, none, some}
use native.Mathlib.Omega.{arith}
use lib.IntN.{pos}
use lib.ListN.{length, drop, length-append}
use lib.Seq.{take-append_seam}
use Rattle.wire.specs.Codes as blr
use Rattle.wire.specs.Lists.{is_some, ◌and_then◌}
use Rattle.wire.specs.Words.{byte_at, word_at, word_bytes}
use Rattle.wire.specs.Classes.{due, classify, value_class, literal_class}
use Rattle.wire.specs.declared.codes.Version.{Version}
use Rattle.wire.specs.declared.codes.Width.{Width}
use Rattle.wire.specs.declared.codes.Width.TheVariants.{Short, Long, Int64}
use Rattle.wire.specs.declared.codes.ValueCode.{ValueCode}
use Rattle.wire.specs.declared.codes.ValueCode.TheVariants as Code
use Rattle.dictionary.specs.Format.{width_bytes}
use Rattle.dictionary.specs.Dictionary.{Relation}
use Rattle.dictionary.specs.Naming.{Name, named, numbered, relation_of, field_of, format_of}
use Rattle.dictionary.specs.Internal.Walk.{relation_at, relation_place}
use Rattle.grammar.specs.declared.Kind.TheVariants as Kind
use Rattle.grammar.specs.Kinds.{literal_kind, field_kind, flagged, parameter_kind, reference_kind, kind_of, arithmetic_kind, negated_kind}
use Rattle.grammar.specs.Tree as Tree
use Rattle.grammar.specs.Tree.{Literal, Reference, field, parameter, parameter2, Value, literal, reference, arithmetic, negate, statistic, count, Rse, rse}
use Rattle.grammar.specs.Bytes.{width_code, operator_code, statistic_code, number_bytes, literal_bytes, reference_bytes, value_bytes, clauses_bytes, head_bytes, rse_bytes}
use Rattle.grammar.specs.Environment.{Environment, Context, Scope, context_of, relation_in, relation_of_context, stream_context, with_contexts, under_streams, under_rse_of, field_format}
use Rattle.grammar.specs.Scope.{in_scope, Known}
use Rattle.grammar.specs.Sizes.{value_depth, OneStream}
use Rattle.grammar.specs.Rules.{ValueAllowed, RseAllowed}
use Rattle.grammar.proofs.Due.{number-due, operator-due, statistic-due}
use Rattle.grammar.proofs.Found.{byte-on, word_on}
use Rattle.grammar.proofs.StepLaws.{absurd-eq}
use Rattle.walking.specs.Walk.{version_at}
use Rattle.walking.proofs.Link.{past}
use Rattle.walking.specs.Sees.{such_place}
use Rattle.surroundings.specs.Slots.{place_or}
use Rattle.runs.specs.Found.{run_binding, value_bindings, rse_bindings, clauses_bindings}
use Rattle.kinds.specs.Spans.{Span, span_of, span_around, span_coded}
use Rattle.kinds.specs.KindAt.{Kinded, kinded, literal_at, reference_at, span_kind, row_kind, kind_given, operands, statistic_at, count_at, kind_under, kind_at}
use Rattle.kinds.specs.Scoped.{Same, Between, Scoped}
use Rattle.kinds.specs.Promises.{kind_inside}
use Rattle.kinds.proofs.Reaches.{between-wider}
use Rattle.kinds.proofs.Inner.{nearer, first_part, second-part, coded-own, below}
use Rattle.kinds.proofs.Trees.{spans_of, value-between, clauses-between}

-- ---- each way through the definition

module _ (d parameters : List ℕ) (rows : ℕ) (xs : List Span) (s : List ℕ) where
  pub kind-by : (l p : ℕ) (k : ValueCode) → 0 < l → value_class (byte_at s p) ≡ due k →
      kind_at d parameters rows xs l s p ≡ kind_inside d parameters rows xs (l - 1) s p k
  unfolding kind_at
  kind-by zero p k h e = absurd (omega arith)
  kind-by (suc l) p k h e = let z : suc l - 1 ≡ l = omega arith in rw (z, kind_at, e)

-- ---- bytes at a place

module _ (s : List ℕ) where
  pub byte-is : (p x : ℕ) (t : List ℕ) → drop p s ≡ x ∷ t → byte_at s p ≡ x
  byte-is p x t e = let z : p + 0 ≡ p = omega arith in rw z at (byte-on s p 0 (x ∷ t) e)

  pub next : (p x : ℕ) (t : List ℕ) → drop p s ≡ x ∷ t → drop (p + 1) s ≡ t
  next p x t e = past s p (x ∷ []) t e

  word-is : (p n : ℕ) (t : List ℕ) → drop p s ≡ word_bytes n ++ t → word_at s p ≡ n
  word-is p n t e =
      let z : p + 0 ≡ p = omega arith in
      let w = rw z at (word_on s p 0 (word_bytes n ++ t) e) in omega (arith, w)

  width-size : (w : Width) (n : ℕ) → length (number_bytes w n) ≡ width_bytes w
  width-size Short n = refl
  width-size Long n = refl
  width-size Int64 n = refl

  literal-kind : (l : Literal) (p : ℕ) (post : List ℕ) → drop p s ≡ literal_bytes l ++ post →
      literal_at s p ≡ kinded (some (literal_kind l)) (p + length (literal_bytes l))
  unfolding literal_at literal_bytes literal_class classify literal_kind
  literal-kind (Tree.Literal.number w scale n) p post e =
      let h1 = next p (width_code w) _ e in
      let j : p + 2 + width_bytes w ≡ p + suc (suc (length (number_bytes w n))) = omega (arith, width-size w n) in
      rw (literal_at, byte-is p (width_code w) _ e, number-due w, byte-is (p + 1) scale _ h1)
      (ap (kinded (some (literal_kind (Tree.Literal.number w scale n)))) j)
  literal-kind (Tree.Literal.text t) p post e =
      let h1 : drop (p + 1) s ≡ word_bytes (length t) ++ (t ++ post) = next p blr.text _ e in
      let k : p + 3 + length t ≡ p + suc (suc (suc (length t))) = omega arith in
      rw (literal_at, byte-is p blr.text _ e, word-is (p + 1) (length t) _ h1) (ap (kinded (some (literal_kind (Tree.Literal.text t)))) k)

  -- what a reference's code leads to
  reference-kind : (d parameters : List ℕ) (rows : ℕ) (xs : List Span) (l : ℕ) (r : Reference) (p : ℕ) (post : List ℕ) →
      drop p s ≡ reference_bytes r ++ post → 0 < l → (k : ℕ) → k ≡ p + length (reference_bytes r) →
      kind_at d parameters rows xs l s p ≡ kinded (kind_given d parameters rows xs (version_at s) p r) k
  unfolding reference_bytes value_class classify kind_under reference_at
  reference-kind d parameters rows xs l (field c (named n)) p post e i k j =
      let h1 = next p blr.field _ e in
      let h2 = next (p + 1) c _ h1 in
      let z : p + 1 + 1 ≡ p + 2 = omega arith in
      let h3 : drop (p + 2) s ≡ length n ∷ n ++ post = rw z at h2 in
      let h4 = next (p + 2) (length n) _ h3 in
      let u : p + 3 + length n ≡ k = omega (arith, j) in
      kind-by d parameters rows xs s l p (Code.Reference _) i (ap value_class (byte-is p blr.field _ e))
      ∙ rw (byte-is (p + 1) c _ h1, byte-is (p + 2) (length n) _ h3, h4, take-append_seam n post, u)
  reference-kind d parameters rows xs l (field c (numbered n)) p post e i k j =
      let h1 = next p blr.fid _ e in
      let h2 = next (p + 1) c _ h1 in
      let z : p + 1 + 1 ≡ p + 2 = omega arith in
      let h3 : drop (p + 2) s ≡ word_bytes n ++ post = rw z at h2 in
      let u : p + 4 ≡ k = omega (arith, j) in
      kind-by d parameters rows xs s l p (Code.Reference _) i (ap value_class (byte-is p blr.fid _ e))
      ∙ rw (byte-is (p + 1) c _ h1, word-is (p + 2) n post h3, u)
  reference-kind d parameters rows xs l (parameter m n) p post e i k j =
      let h1 = next p blr.parameter _ e in
      let h2 = next (p + 1) m _ h1 in
      let z : p + 1 + 1 ≡ p + 2 = omega arith in
      let h3 : drop (p + 2) s ≡ word_bytes n ++ post = rw z at h2 in
      let u : p + 4 ≡ k = omega (arith, j) in
      kind-by d parameters rows xs s l p (Code.Reference _) i (ap value_class (byte-is p blr.parameter _ e))
      ∙ rw (byte-is (p + 1) m _ h1, word-is (p + 2) n post h3, u)
  reference-kind d parameters rows xs l (parameter2 m n flag) p post e i k j =
      let h1 = next p blr.parameter2 _ e in
      let h2 = next (p + 1) m _ h1 in
      let z : p + 1 + 1 ≡ p + 2 = omega arith in
      let h3 : drop (p + 2) s ≡ word_bytes n ++ (word_bytes flag ++ post) = rw z at h2 in
      let y : p + 2 + 2 ≡ p + 4 = omega arith in
      let h4 : drop (p + 4) s ≡ word_bytes flag ++ post = rw y at (past s (p + 2) (word_bytes n) _ h3) in
      let u : p + 6 ≡ k = omega (arith, j) in
      kind-by d parameters rows xs s l p (Code.Reference _) i (ap value_class (byte-is p blr.parameter2 _ e))
      ∙ rw (byte-is (p + 1) m _ h1, word-is (p + 2) n _ h3, word-is (p + 4) flag post h4, u)

-- ---- references

-- a reference has a byte
reference-long : (r : Reference) (p : ℕ) → p < p + length (reference_bytes r)
unfolding reference_bytes
reference-long (field c (named n)) p = omega arith
reference-long (field c (numbered n)) p = omega arith
reference-long (parameter m n) p = omega arith
reference-long (parameter2 m n flag) p = omega arith

same-field : (d : List ℕ) (v : Version) (n : Name) (o : Option Span) (y : Context) → Same d o y →
    span_kind v d n o ≡ (y.relation and_then λ r. field_of r n and_then format_of r) and_then field_kind v
same-field d v n o y h = ap (span_kind v d n) h.found ∙ rw (h.relation_is, h.entry_is)

-- ---- values

-- what evaluation is lent is what the rules are beside: the version, the parameters and the relations
pub record Beside (d parameters : List ℕ) (rows : ℕ) (s : List ℕ) (e : Environment) : Type 0 where
  pub version-is : e.version ≡ version_at s
  pub parameters_are : (m i : ℕ) → row_kind parameters rows m i ≡ parameter_kind e m i
  pub entries-are : (n : Name) (r : Relation) → relation_of e.relations n ≡ some r → relation_at d (place_or (relation_place d n)) ≡ r

-- where the clauses of the rse of the code at p stand, and the spans in them
abbrev pub head_end : Rse → ℕ → ℕ
head_end (rse ss cs) p = p + 1 + length (head_bytes ss)

abbrev pub clause_spans : List ℕ → Rse → ℕ → List Span
clause_spans d (rse ss cs) p = spans_of (clauses_bindings d cs (p + 1 + length (head_bytes ss)))

-- the span of the code at p, with one context more in scope at what stands in its clauses and at its number
pub record Opened (d : List ℕ) (all clauses number : List Span) (sc : Scope) (head p after end : ℕ) : Type 0 where
  pub span : Span
  pub span-is : span_coded all p ≡ some span
  pub after_is : span.after ≡ after
  pub end_is : span.end ≡ end
  pub at-clauses : Scoped d all clauses sc head after
  pub at-number : Scoped d all number sc after end

some_is : {A : Type 0} (o : Option A) → is_some o ≡ true → (a : A) × (o ≡ some a)
some_is none e = absurd-eq (cc)
some_is (some a) e = (a, refl)

none_is : {A : Type 0} (o : Option A) → is_some o ≡ false → o ≡ none
none_is none e = refl
none_is (some a) e = absurd-eq (cc)

module _ (d parameters : List ℕ) (rows : ℕ) (s : List ℕ) (e : Environment) (all : List Span) (given : Beside d parameters rows s e) where
  given-kind : (sc : Scope) (p q : ℕ) → Scoped d all [] sc p q → p < q → (r : Reference) → Known e sc r →
      kind_given d parameters rows all (version_at s) p r ≡ reference_kind e sc r
  unfolding kind_given reference_kind field_format relation_of_context
  given-kind sc p q h i (field c n) w = by (context_of sc c) refl w
    where
      by : (o : Option Context) → context_of sc c ≡ o →
          is_some ((o and_then relation_in) and_then λ r. field_of r n and_then format_of r) ≡ true →
          span_kind (version_at s) d n (span_around all c p)
          ≡ ((o and_then relation_in) and_then λ r. field_of r n and_then format_of r) and_then field_kind e.version
      by none f k = absurd-eq (cc)
      by (some y) f k =
          rw (given.version-is, h.all_are) (same-field d (version_at s) n _ y (h.agree c p (omega arith) i y f))
  given-kind sc p q h i (parameter m n) w = given.parameters_are m n
  given-kind sc p q h i (parameter2 m n flag) w = ap₂ flagged (given.parameters_are m flag) (given.parameters_are m n)

  -- an any, a unique or a statistic at p, and what stands after its rse up to its end
  pub rse-opened : (r : Rse) (opener : ℕ) (sc : Scope) (own : List Span) (p end : ℕ) → OneStream r → RseAllowed e opener sc r →
      p + 1 + length (rse_bytes r) ≤ end → Between (p + 1 + length (rse_bytes r)) end own →
      Scoped d all (spans_of (rse_bindings d r p end) ++ own) sc p end →
      Opened d all (clause_spans d r p) own (under_rse_of e.relations opener sc r) (head_end r p) p (p + 1 + length (rse_bytes r)) end
  unfolding rse_bindings rse_bytes under_streams in_scope
  rse-opened (rse [] cs) opener sc own p end o w k b h = absurd (omega arith)
  rse-opened (rse (s ∷ t ∷ ss) cs) opener sc own p end o w k b h = absurd (omega arith)
  rse-opened (rse (z ∷ []) cs) opener sc own p end o w k b h =
      let y = w.1.0.0 in
      let f = some_is (relation_of e.relations z.relation) y.0 in
      let l = length-append (head_bytes (z ∷ [])) (clauses_bytes cs) in
      let q = p + 1 + length (head_bytes (z ∷ [])) in
      let m = p + 1 + length (rse_bytes (rse (z ∷ []) cs)) in
      let x = span_of (run_binding d z p (place_or (such_place cs q)) m end) in
      let cl = spans_of (clauses_bindings d cs q) in
      let c = stream_context e.relations opener z in
      let under = below d all sc x (cl ++ own) p end h refl refl c f.0 refl f.1 (given.entries-are z.relation f.0 f.1)
      (none_is (context_of sc z.context) y.1) q (omega arith) in
      record {
        span = x;
        span-is = coded-own d all sc x (cl ++ own) p end h refl (omega (arith, k));
        after_is = refl;
        end_is = refl;
        at-clauses = first_part d all (with_contexts sc (c ∷ [])) cl own q end under m m (omega arith) (omega (arith, k)) (omega (arith, l)) b;
        at-number = second-part d all (with_contexts sc (c ∷ [])) cl own q end under m m (omega arith) (omega (arith, l))
            (between-wider q m q (q + length (clauses_bytes cs)) cl (omega arith) (omega (arith, l)) (clauses-between d cs q));
      }

  -- the law
  pub kind_is : (v : Value) (sc : Scope) (l p : ℕ) (post : List ℕ) → value_depth v ≤ l → drop p s ≡ value_bytes v ++ post → ValueAllowed e sc v →
      Scoped d all (spans_of (value_bindings d v p)) sc p (p + length (value_bytes v)) →
      kind_at d parameters rows all l s p ≡ kinded (kind_of e sc v) (p + length (value_bytes v))
  unfolding value_depth value_bytes value_bindings kind_of kind_under value_class classify
  kind_is (literal x) sc l p post i b w h =
      kind-by d parameters rows all s l p Code.Literal (omega arith) (ap value_class (byte-is s p blr.literal _ b))
      ∙ literal-kind s x (p + 1) post (next s p blr.literal _ b) ∙ ap (kinded (some (literal_kind x))) (omega arith)
  kind_is (reference r) sc l p post i b w h =
      reference-kind s d parameters rows all l r p post b (omega arith) (p + length (reference_bytes r)) refl
      ∙ ap (λ k. kinded k (p + length (reference_bytes r))) (given-kind sc p _ h (reference-long r p) r w.0)
  kind_is (arithmetic o v u) sc l p post i b w h =
      let n = length-append (value_bytes v) (value_bytes u) in
      let q = p + 1 + length (value_bytes v) in
      let b1 : drop (p + 1) s ≡ value_bytes v ++ (value_bytes u ++ post) = next s p (operator_code o) _ b ∙ append_assoc (value_bytes v) (value_bytes u) post in
      let h1 = subst (λ xs. Scoped d all xs sc p (p + suc (length (value_bytes v ++ value_bytes u)))) (map-append span_of (value_bindings d v (p + 1)) (value_bindings d u q)) h in
      let h2 = nearer d all sc _ p _ (p + 1) (q + length (value_bytes u)) h1 (omega arith) (omega (arith, n)) in
      let k1 = kind_is v sc (l - 1) (p + 1) _ (omega arith) b1 w.0
      (first_part d all sc (spans_of (value_bindings d v (p + 1))) (spans_of (value_bindings d u q)) (p + 1) (q + length (value_bytes u)) h2 q q (omega arith) (omega arith) (omega arith) (value-between d u q)) in
      let k2 = kind_is u sc (l - 1) q post (omega arith) (past s (p + 1) (value_bytes v) _ b1) w.1
      (second-part d all sc (spans_of (value_bindings d v (p + 1))) (spans_of (value_bindings d u q)) (p + 1) (q + length (value_bytes u)) h2 q q (omega arith) (omega arith) (value-between d v (p + 1))) in
      kind-by d parameters rows all s l p (Code.Arithmetic o) (omega arith) (ap value_class (byte-is s p (operator_code o) _ b) ∙ operator-due o)
      ∙ ap (λ x. operands (version_at s) o x (λ z. kind_at d parameters rows all (l - 1) s z)) k1
      ∙ ap (λ (x : Kinded). kinded (arithmetic_kind (version_at s) o (kind_of e sc v) x.kind) x.end) k2
      ∙ ap₂ (λ z t. kinded (arithmetic_kind z o (kind_of e sc v) (kind_of e sc u)) t) (sym given.version-is) (omega (arith, n))
  kind_is (negate v) sc l p post i b w h =
      kind-by d parameters rows all s l p Code.Negate (omega arith) (ap value_class (byte-is s p blr.negate _ b))
      ∙ ap (λ (x : Kinded). kinded (negated_kind x.kind) x.end)
      (kind_is v sc (l - 1) (p + 1) post (omega arith) (next s p blr.negate _ b) w.0
      (nearer d all sc _ p _ (p + 1) (p + 1 + length (value_bytes v)) h (omega arith) (omega arith)))
      ∙ ap (kinded (negated_kind (kind_of e sc v))) (omega arith)
  kind_is (statistic k r v) sc l p post i b w h =
      let n = length-append (rse_bytes r) (value_bytes v) in
      let q = p + 1 + length (rse_bytes r) in
      let b1 : drop (p + 1) s ≡ rse_bytes r ++ (value_bytes v ++ post) = next s p (statistic_code k) _ b ∙ append_assoc (rse_bytes r) (value_bytes v) post in
      let h1 = subst (λ xs. Scoped d all xs sc p (p + suc (length (rse_bytes r ++ value_bytes v)))) (map-append span_of (rse_bindings d r p (q + length (value_bytes v))) (value_bindings d v q)) h in
      let h2 = nearer d all sc _ p _ p (q + length (value_bytes v)) h1 (omega arith) (omega (arith, n)) in
      let x = rse-opened r (statistic_code k) sc (spans_of (value_bindings d v q)) p (q + length (value_bytes v)) w.0 w.1 (omega arith) (value-between d v q) h2 in
      let k1 = kind_is v (under_rse_of e.relations (statistic_code k) sc r) (l - 1) q post (omega arith) (past s (p + 1) (rse_bytes r) _ b1) w.2 x.at-number in
      kind-by d parameters rows all s l p (Code.Statistic k) (omega arith) (ap value_class (byte-is s p (statistic_code k) _ b) ∙ statistic-due k)
      ∙ ap (λ o. statistic_at o p (λ z. kind_at d parameters rows all (l - 1) s z)) x.span-is
      ∙ ap₂ (λ a t. kinded (negated_kind (kind_at d parameters rows all (l - 1) s a).kind) t) x.after_is x.end_is
      ∙ ap (λ (y : Kinded). kinded (negated_kind y.kind) (q + length (value_bytes v))) k1
      ∙ ap (kinded (negated_kind (kind_of e (under_rse_of e.relations (statistic_code k) sc r) v))) (omega (arith, n))
  kind_is (count r) sc l p post i b w h =
      let q = p + 1 + length (rse_bytes r) in
      let h1 = subst (λ xs. Scoped d all xs sc p (p + suc (length (rse_bytes r)))) (sym (append-nil (spans_of (rse_bindings d r p q)))) h in
      let x = rse-opened r blr.count sc [] p q w.0 w.1 (omega arith) tt (nearer d all sc _ p _ p q h1 (omega arith) (omega arith)) in
      kind-by d parameters rows all s l p Code.Count (omega arith) (ap value_class (byte-is s p blr.count _ b))
      ∙ ap (λ o. count_at o p) x.span-is
      ∙ ap (kinded (some (Kind.Number (pos 0)))) (let t = x.end_is in omega (arith, t))
