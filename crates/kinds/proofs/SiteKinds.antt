-- The kind that is noted for each any, unique and statistic code is the one that its site has.
use Prim.Native.Nat.{ℕ, suc, ◌+◌, ◌≤◌}
use mathlib.Core.Path.{◌≡◌, refl, sym, ap, subst, ◌∙◌}
use mathlib.Core.Bool.{true, false, cond}
use mathlib.Core.List.{List, [], ◌∷◌, ◌++◌, append_assoc, append-nil, map-append}
use mathlib.Core.Option.{Option, none, some}
use native.Mathlib.Omega.{arith}
use lib.ListN.{length, drop, length-append}
use Rattle.wire.specs.Codes as blr
use Rattle.wire.specs.Lists.{among, any_of, is_some}
use Rattle.wire.specs.Limits.{max_depth}
use Rattle.wire.specs.Words.{byte_at}
use Rattle.wire.specs.Classes.{classify, value_class}
use Rattle.wire.specs.declared.codes.Statistic.{Statistic}
use Rattle.wire.specs.declared.codes.Quantifier.{Quantifier}
use Rattle.wire.specs.declared.codes.Quantifier.TheVariants.{Any, Unique}
use Rattle.grammar.specs.declared.Kind.{Kind}
use Rattle.grammar.specs.declared.Kind.TheVariants as Kind
use Rattle.grammar.specs.Kinds.{negated_kind, kind_of}
use Rattle.grammar.specs.Tree.{Value, literal, reference, arithmetic, negate, statistic, count, Boolean, compare, search, between, connect, not, missing, quantify, Clauses, no_clauses, such, sorted, Rse, rse}
use Rattle.grammar.specs.Bytes.{operator_code, statistic_code, comparison_code, search_code, connective_code, quantifier_code, key_count, value_bytes, boolean_bytes, keys_bytes, clauses_bytes, head_bytes, rse_bytes}
use Rattle.grammar.specs.Environment.{Environment, Scope, under_streams, under_rse_of}
use Rattle.grammar.specs.Sizes.{value_depth, boolean_depth, clauses_depth, rse_depth, OneStream}
use Rattle.grammar.specs.Rules.{ValueAllowed, BooleanAllowed, ClausesAllowed, RseAllowed}
use Rattle.grammar.proofs.Due.{statistic-due}
use Rattle.grammar.proofs.StepLaws.{absurd-eq}
use Rattle.walking.proofs.Link.{past}
use Rattle.walking.proofs.Sites.{All, all_append}
use Rattle.surroundings.specs.Bindings.{Binding}
use Rattle.runs.specs.Found.{value_bindings, bindings_of, rse_bindings, clauses_bindings}
use Rattle.sights.specs.Sites.{Site, value_sites, sites, rse_sites, clauses_sites}
use Rattle.kinds.specs.Spans.{Span, span_of}
use Rattle.kinds.specs.Scoped.{Between, Scoped}
use Rattle.kinds.specs.KindAt.{kind_at, kind_number, takes_number}
use Rattle.kinds.proofs.Inner.{nearer, first_part, second-part}
use Rattle.kinds.proofs.Trees.{spans_of, one_then, value-between, boolean-between, clauses-between}
use Rattle.kinds.proofs.KindLaws.{byte-is, next, Beside, head_end, clause_spans, Opened, rse-opened, kind_is}
use Rattle.kinds.proofs.Ranges.{Held, held_none, Named, NamedIn, named-under, value-held}

-- codes that take no number
quantifier-bare : (q : Quantifier) → takes_number (value_class (quantifier_code q)) ≡ false
unfolding value_class classify among any_of
quantifier-bare Any = refl
quantifier-bare Unique = refl

count-bare : takes_number (value_class blr.count) ≡ false
unfolding value_class classify
count-bare = refl

-- a kind that a statistic's number may have
number-kept : (k : Option Kind) → is_some (negated_kind k) ≡ true → negated_kind k ≡ k
number-kept (some (Kind.Number x)) e = refl
number-kept (some Kind.Text) e = absurd-eq (cc)
number-kept (some Kind.Date) e = absurd-eq (cc)
number-kept none e = absurd-eq (cc)

module _ (d ps : List ℕ) (rows : ℕ) (s : List ℕ) (e : Environment) (all : List Span) where
  -- what is noted at a code whose rse ends at a place is the number of a kind that a row can hold
  abbrev Settled : Option Kind → ℕ → ℕ → Type 0
  Settled k p after =
      Held k ×
      (cond (takes_number (value_class (byte_at s p))) (kind_number (kind_at d ps rows all max_depth s after).kind) 0 ≡ kind_number k)

  abbrev pub Right : Site → Type 0
  Right z = Settled z.kind z.place z.after

  bare : (c p after : ℕ) → byte_at s p ≡ c → takes_number (value_class c) ≡ false → Settled none p after
  unfolding kind_number
  bare c p after f g = (held_none, rw (f, g))

  numbered : (c : Statistic) (p after end : ℕ) (k : Option Kind) → byte_at s p ≡ statistic_code c →
      kind_at d ps rows all max_depth s after ≡ record { kind = k; end = end } → Held k → is_some (negated_kind k) ≡ true → Settled (negated_kind k) p after
  numbered c p after end k f g h i =
      let j = number-kept k i in
      (subst Held (sym j) h, rw (f, statistic-due c, g, j))

  -- ---- two parts, one after the other

  record Parts (a b : List Binding) (x y : List ℕ) (sc : Scope) (p m end : ℕ) (post : List ℕ) : Type 0 where
    first-bytes : drop p s ≡ x ++ (y ++ post)
    second-bytes : drop m s ≡ y ++ post
    first-scoped : Scoped d all (spans_of a) sc p m
    second-scoped : Scoped d all (spans_of b) sc m end

  parts : (a b : List Binding) (x y : List ℕ) (sc : Scope) (p m end : ℕ) (post : List ℕ) → m ≡ p + length x → end ≡ m + length y →
      drop p s ≡ (x ++ y) ++ post → Between p m (spans_of a) → Between m end (spans_of b) → Scoped d all (spans_of (a ++ b)) sc p end →
      Parts a b x y sc p m end post
  parts a b x y sc p m end post i j f u v h =
      let g = f ∙ append_assoc x y post in
      let k = subst (λ l. Scoped d all l sc p end) (map-append span_of a b) h in
      record {
        first-bytes = g;
        second-bytes = ap (λ z. drop z s) i ∙ past s p x (y ++ post) g;
        first-scoped = first_part d all sc (spans_of a) (spans_of b) p end k m m (omega arith) (omega (arith, j)) (omega (arith, i)) v;
        second-scoped = second-part d all sc (spans_of a) (spans_of b) p end k m m (omega arith) (omega (arith, i)) u;
      }

  -- after a code
  inside : (a : List Binding) (sc : Scope) (p n : ℕ) → Scoped d all (spans_of a) sc p (p + suc n) → Scoped d all (spans_of a) sc (p + 1) (p + 1 + n)
  inside a sc p n h = nearer d all sc (spans_of a) p (p + suc n) (p + 1) (p + 1 + n) h (omega arith) (omega arith)

  -- two values after a code
  two-values : (v w : Value) (sc : Scope) (c p : ℕ) (post : List ℕ) → drop p s ≡ c ∷ ((value_bytes v ++ value_bytes w) ++ post) →
      Scoped d all (spans_of (value_bindings d v (p + 1) ++ value_bindings d w (p + 1 + length (value_bytes v)))) sc p
      (p + suc (length (value_bytes v ++ value_bytes w))) →
      Parts (value_bindings d v (p + 1)) (value_bindings d w (p + 1 + length (value_bytes v))) (value_bytes v) (value_bytes w) sc (p + 1)
      (p + 1 + length (value_bytes v)) (p + 1 + length (value_bytes v) + length (value_bytes w)) post
  two-values v w sc c p post f h =
      let n = length-append (value_bytes v) (value_bytes w) in
      let q = p + 1 + length (value_bytes v) in
      let l = value_bindings d v (p + 1) ++ value_bindings d w q in
      parts (value_bindings d v (p + 1)) (value_bindings d w q) (value_bytes v) (value_bytes w) sc (p + 1) q (q + length (value_bytes w)) post refl refl
      (next s p c _ f) (value-between d v (p + 1)) (value-between d w q)
      (nearer d all sc (spans_of l) p (p + suc (length (value_bytes v ++ value_bytes w))) (p + 1) (q + length (value_bytes w)) h (omega arith) (omega (arith, n)))

  module _ (given : Beside d ps rows s e) (held : Named e) where
    abbrev under : ℕ → Scope → Rse → Scope
    under o sc r = under_rse_of e.relations o sc r

    -- an rse of a code at p, and what stands after it
    abbrev OpenedAt : ℕ → Scope → Rse → List Span → ℕ → ℕ → Type 0
    OpenedAt o sc r own p end = Opened d all (clause_spans d r p) own (under o sc r) (head_end r p) p (p + 1 + length (rse_bytes r)) end

    -- an any, a unique or a count, after which nothing of it stands
    opened-alone : (r : Rse) (o : ℕ) (sc : Scope) (p : ℕ) → OneStream r → RseAllowed e o sc r →
        Scoped d all (spans_of (rse_bindings d r p (p + 1 + length (rse_bytes r)))) sc p (p + suc (length (rse_bytes r))) →
        OpenedAt o sc r [] p (p + 1 + length (rse_bytes r))
    opened-alone r o sc p w u h =
        let q = p + 1 + length (rse_bytes r) in
        let k = subst (λ l. Scoped d all l sc p (p + suc (length (rse_bytes r)))) (sym (append-nil (spans_of (rse_bindings d r p q)))) h in
        rse-opened d ps rows s e all given r o sc [] p q w u (omega arith) tt
        (nearer d all sc (spans_of (rse_bindings d r p q) ++ []) p (p + suc (length (rse_bytes r))) p q k (omega arith) (omega arith))

    -- a statistic, after whose rse its number stands
    opened-before : (r : Rse) (v : Value) (o : ℕ) (sc : Scope) (p : ℕ) → OneStream r → RseAllowed e o sc r →
        Scoped d all (spans_of (rse_bindings d r p (p + 1 + length (rse_bytes r) + length (value_bytes v)) ++ value_bindings d v (p + 1 + length (rse_bytes r)))) sc p
        (p + suc (length (rse_bytes r ++ value_bytes v))) →
        OpenedAt o sc r (spans_of (value_bindings d v (p + 1 + length (rse_bytes r)))) p (p + 1 + length (rse_bytes r) + length (value_bytes v))
    opened-before r v o sc p w u h =
        let n = length-append (rse_bytes r) (value_bytes v) in
        let q = p + 1 + length (rse_bytes r) in
        let end = q + length (value_bytes v) in
        let l = spans_of (rse_bindings d r p end) ++ spans_of (value_bindings d v q) in
        let k = subst (λ l. Scoped d all l sc p (p + suc (length (rse_bytes r ++ value_bytes v)))) (map-append span_of (rse_bindings d r p end) (value_bindings d v q)) h in
        rse-opened d ps rows s e all given r o sc (spans_of (value_bindings d v q)) p end w u (omega arith) (value-between d v q)
        (nearer d all sc l p (p + suc (length (rse_bytes r ++ value_bytes v))) p end k (omega arith) (omega (arith, n)))

    mutual
      unfolding value_sites value_bindings bindings_of rse_bindings clauses_bindings value_bytes boolean_bytes clauses_bytes rse_bytes value_depth boolean_depth clauses_depth rse_depth kind_of

      pub value-right : (v : Value) (sc : Scope) (p : ℕ) (post : List ℕ) → value_depth v ≤ 32 → drop p s ≡ value_bytes v ++ post → ValueAllowed e sc v →
          NamedIn e sc → Scoped d all (spans_of (value_bindings d v p)) sc p (p + length (value_bytes v)) → All Right (value_sites e sc v p)
      value-right (literal l) sc p post i f w n h = tt
      value-right (reference r) sc p post i f w n h = tt
      value-right (arithmetic o v u) sc p post i f w n h =
          let q = p + 1 + length (value_bytes v) in
          let x = two-values v u sc (operator_code o) p post f h in
          all_append Right (value_sites e sc v (p + 1)) (value_sites e sc u q)
          (value-right v sc (p + 1) (value_bytes u ++ post) (omega (arith, i)) x.first-bytes w.0 n x.first-scoped)
          (value-right u sc q post (omega (arith, i)) x.second-bytes w.1 n x.second-scoped)
      value-right (negate v) sc p post i f w n h =
          value-right v sc (p + 1) post (omega (arith, i)) (next s p blr.negate _ f) w.0 n (inside (value_bindings d v (p + 1)) sc p (length (value_bytes v)) h)
      value-right (statistic k r v) sc p post i f w n h =
          let o = statistic_code k in
          let q = p + 1 + length (rse_bytes r) in
          let end = q + length (value_bytes v) in
          let x = opened-before r v o sc p w.0 w.1 h in
          let g : drop (p + 1) s ≡ rse_bytes r ++ (value_bytes v ++ post) = next s p o _ f ∙ append_assoc (rse_bytes r) (value_bytes v) post in
          let g2 : drop q s ≡ value_bytes v ++ post = past s (p + 1) (rse_bytes r) (value_bytes v ++ post) g in
          let m : NamedIn e (under o sc r) = named-under e held r o sc w.0 n in
          let j : value_depth v ≤ 32 = omega (arith, i) in
          let c = numbered k p q end (kind_of e (under o sc r) v) (byte-is s p o _ f)
          (kind_is d ps rows s e all given v (under o sc r) 32 q post j g2 w.2 x.at-number) (value-held e held v (under o sc r) m w.2) w.3 in
          all_append Right (rse_sites e o sc r (kind_of e sc (statistic k r v)) p end) (value_sites e (under o sc r) v q)
          (rse-right r o sc (kind_of e sc (statistic k r v)) p end (spans_of (value_bindings d v q)) (value_bytes v ++ post) (omega (arith, i)) g w.0 w.1 n c x)
          (value-right v (under o sc r) q post j g2 w.2 m x.at-number)
      value-right (count r) sc p post i f w n h =
          let q = p + 1 + length (rse_bytes r) in
          rse-right r blr.count sc none p q [] post (omega (arith, i)) (next s p blr.count _ f) w.0 w.1 n
          (bare blr.count p q (byte-is s p blr.count _ f) count-bare) (opened-alone r blr.count sc p w.0 w.1 h)

      pub boolean-right : (b : Boolean) (sc : Scope) (p : ℕ) (post : List ℕ) → boolean_depth b ≤ 32 → drop p s ≡ boolean_bytes b ++ post →
          BooleanAllowed e sc b → NamedIn e sc → Scoped d all (spans_of (bindings_of d b p)) sc p (p + length (boolean_bytes b)) → All Right (sites e sc b p)
      boolean-right (compare c v u) sc p post i f w n h =
          let q = p + 1 + length (value_bytes v) in
          let x = two-values v u sc (comparison_code c) p post f h in
          all_append Right (value_sites e sc v (p + 1)) (value_sites e sc u q)
          (value-right v sc (p + 1) (value_bytes u ++ post) (omega (arith, i)) x.first-bytes w.0 n x.first-scoped)
          (value-right u sc q post (omega (arith, i)) x.second-bytes w.1 n x.second-scoped)
      boolean-right (search c v u) sc p post i f w n h =
          let q = p + 1 + length (value_bytes v) in
          let x = two-values v u sc (search_code c) p post f h in
          all_append Right (value_sites e sc v (p + 1)) (value_sites e sc u q)
          (value-right v sc (p + 1) (value_bytes u ++ post) (omega (arith, i)) x.first-bytes w.0 n x.first-scoped)
          (value-right u sc q post (omega (arith, i)) x.second-bytes w.1 n x.second-scoped)
      boolean-right (between v u t) sc p post i f w n h =
          let a = length-append (value_bytes v) (value_bytes u) in
          let b = length-append (value_bytes v ++ value_bytes u) (value_bytes t) in
          let q = p + 1 + length (value_bytes v) in
          let m = q + length (value_bytes u) in
          let end = m + length (value_bytes t) in
          let vs = value_bindings d v (p + 1) in
          let us = value_bindings d u q in
          let ts = value_bindings d t m in
          let k = nearer d all sc (spans_of ((vs ++ us) ++ ts)) p (p + suc (length ((value_bytes v ++ value_bytes u) ++ value_bytes t))) (p + 1) end h
          (omega arith) (omega (arith, a, b)) in
          let x = parts (vs ++ us) ts (value_bytes v ++ value_bytes u) (value_bytes t) sc (p + 1) m end post (omega (arith, a)) refl
          (next s p blr.between _ f)
          (one_then vs us (p + 1) m (p + 1) q q m (value-between d v (p + 1)) (value-between d u q) (omega arith) (omega arith) (omega arith) (omega arith))
          (value-between d t m) k in
          let y = parts vs us (value_bytes v) (value_bytes u) sc (p + 1) q m (value_bytes t ++ post) refl refl x.first-bytes
          (value-between d v (p + 1)) (value-between d u q) x.first-scoped in
          all_append Right (value_sites e sc v (p + 1) ++ value_sites e sc u q) (value_sites e sc t m)
          (all_append Right (value_sites e sc v (p + 1)) (value_sites e sc u q)
          (value-right v sc (p + 1) (value_bytes u ++ (value_bytes t ++ post)) (omega (arith, i)) y.first-bytes w.0 n y.first-scoped)
          (value-right u sc q (value_bytes t ++ post) (omega (arith, i)) y.second-bytes w.1 n y.second-scoped))
          (value-right t sc m post (omega (arith, i)) x.second-bytes w.2 n x.second-scoped)
      boolean-right (connect c a b) sc p post i f w n h =
          let l = length-append (boolean_bytes a) (boolean_bytes b) in
          let q = p + 1 + length (boolean_bytes a) in
          let end = q + length (boolean_bytes b) in
          let xs = bindings_of d a (p + 1) in
          let ys = bindings_of d b q in
          let x = parts xs ys (boolean_bytes a) (boolean_bytes b) sc (p + 1) q end post refl refl (next s p (connective_code c) _ f)
          (boolean-between d a (p + 1)) (boolean-between d b q)
          (nearer d all sc (spans_of (xs ++ ys)) p (p + suc (length (boolean_bytes a ++ boolean_bytes b))) (p + 1) end h (omega arith) (omega (arith, l))) in
          all_append Right (sites e sc a (p + 1)) (sites e sc b q)
          (boolean-right a sc (p + 1) (boolean_bytes b ++ post) (omega (arith, i)) x.first-bytes w.0 n x.first-scoped)
          (boolean-right b sc q post (omega (arith, i)) x.second-bytes w.1 n x.second-scoped)
      boolean-right (not a) sc p post i f w n h =
          boolean-right a sc (p + 1) post (omega (arith, i)) (next s p blr.not _ f) w n (inside (bindings_of d a (p + 1)) sc p (length (boolean_bytes a)) h)
      boolean-right (missing v) sc p post i f w n h =
          value-right v sc (p + 1) post (omega (arith, i)) (next s p blr.missing _ f) w n (inside (value_bindings d v (p + 1)) sc p (length (value_bytes v)) h)
      boolean-right (quantify k r) sc p post i f w n h =
          let o = quantifier_code k in
          let q = p + 1 + length (rse_bytes r) in
          rse-right r o sc none p q [] post (omega (arith, i)) (next s p o _ f) w.0 w.1 n
          (bare o p q (byte-is s p o _ f) (quantifier-bare k)) (opened-alone r o sc p w.0 w.1 h)

      rse-right : (r : Rse) (o : ℕ) (sc : Scope) (k : Option Kind) (p end : ℕ) (own : List Span) (post : List ℕ) → rse_depth r ≤ 32 →
          drop (p + 1) s ≡ rse_bytes r ++ post → OneStream r → RseAllowed e o sc r → NamedIn e sc → Settled k p (p + 1 + length (rse_bytes r)) →
          OpenedAt o sc r own p end → All Right (rse_sites e o sc r k p end)
      rse-right (rse [] cs) o sc k p end own post i f one w n c x = absurd (omega arith)
      rse-right (rse (z ∷ y ∷ ss) cs) o sc k p end own post i f one w n c x = absurd (omega arith)
      rse-right (rse (z ∷ []) cs) o sc k p end own post i f one w n c x =
          let head = head_bytes (z ∷ []) in
          let l = length-append head (clauses_bytes cs) in
          let q = p + 1 + length head in
          let inner = under_streams e.relations o sc (z ∷ []) in (
            c,
            clauses-right cs inner q post (omega (arith, i)) (past s (p + 1) head (clauses_bytes cs ++ post) (f ∙ append_assoc head (clauses_bytes cs) post))
                w.3 (named-under e held (rse (z ∷ []) cs) o sc one n)
                (nearer d all inner (spans_of (clauses_bindings d cs q)) q (p + 1 + length (head ++ clauses_bytes cs)) q (q + length (clauses_bytes cs)) x.at-clauses
                (omega arith) (omega (arith, l))),
          )

      clauses-right : (cs : Clauses) (sc : Scope) (p : ℕ) (post : List ℕ) → clauses_depth cs ≤ 32 → drop p s ≡ clauses_bytes cs ++ post →
          ClausesAllowed e sc cs → NamedIn e sc → Scoped d all (spans_of (clauses_bindings d cs p)) sc p (p + length (clauses_bytes cs)) →
          All Right (clauses_sites e sc cs p)
      clauses-right no_clauses sc p post i f w n h = tt
      clauses-right (such b cs) sc p post i f w n h =
          let l = length-append (boolean_bytes b) (clauses_bytes cs) in
          let q = p + 1 + length (boolean_bytes b) in
          let end = q + length (clauses_bytes cs) in
          let xs = bindings_of d b (p + 1) in
          let ys = clauses_bindings d cs q in
          let x = parts xs ys (boolean_bytes b) (clauses_bytes cs) sc (p + 1) q end post refl refl (next s p blr.boolean _ f)
          (boolean-between d b (p + 1)) (clauses-between d cs q)
          (nearer d all sc (spans_of (xs ++ ys)) p (p + suc (length (boolean_bytes b ++ clauses_bytes cs))) (p + 1) end h (omega arith) (omega (arith, l))) in
          all_append Right (sites e sc b (p + 1)) (clauses_sites e sc cs q)
          (boolean-right b sc (p + 1) (clauses_bytes cs ++ post) (omega (arith, i)) x.first-bytes w.0 n x.first-scoped)
          (clauses-right cs sc q post (omega (arith, i)) x.second-bytes w.1 n x.second-scoped)
      clauses-right (sorted ks cs) sc p post i f w n h =
          let l = length-append (keys_bytes ks) (clauses_bytes cs) in
          let q = p + 2 + length (keys_bytes ks) in
          let g : drop (p + 2) s ≡ keys_bytes ks ++ (clauses_bytes cs ++ post) =
          past s p (blr.sort ∷ key_count ks ∷ []) _ f ∙ append_assoc (keys_bytes ks) (clauses_bytes cs) post in
          clauses-right cs sc q post (omega (arith, i)) (past s (p + 2) (keys_bytes ks) (clauses_bytes cs ++ post) g) w.2 n
          (nearer d all sc (spans_of (clauses_bindings d cs q)) p (p + suc (suc (length (keys_bytes ks ++ clauses_bytes cs)))) q (q + length (clauses_bytes cs)) h
          (omega arith) (omega (arith, l)))
