-- By a table of bindings a walk sees what the meaning has around a value or a boolean.
use Prim.Native.Nat.{ℕ, ◌+◌, ◌<◌}
use mathlib.Core.Path.{◌≡◌, refl, ap, ◌∙◌}
use mathlib.Core.Bool.{false}
use mathlib.Core.List.{List, [], ◌∷◌, ◌++◌, map}
use mathlib.Core.Option.{Option, none, some}
use native.Mathlib.Omega.{arith}
use lib.Dec.{eqb}
use lib.ListN.{length, get_elem?}
use Rattle.wire.specs.Codes as blr
use Rattle.wire.specs.Lists.{index_of, ◌and_then◌}
use Rattle.wire.specs.declared.codes.Version.{Version}
use Rattle.dictionary.specs.Naming.{Name, field_of}
use Rattle.dictionary.specs.Internal.Walk.{relation_at}
use Rattle.grammar.specs.Tree.{Stream, Reference, field, parameter, parameter2, Value, literal, reference, arithmetic, negate, statistic, count, Boolean, compare, search, between, connect, not, missing, quantify, Clauses, no_clauses, such, sorted, Rse, rse}
use Rattle.grammar.specs.Bytes.{statistic_code, quantifier_code, keys_bytes, head_bytes, rse_bytes}
use Rattle.grammar.specs.Environment.{Context, stream_context, context_of, under_streams, under_rse_of}
use Rattle.grammar.specs.declared.Kind as Grammar
use Rattle.grammar.specs.Kinds.{kind_of}
use Rattle.grammar.specs.Scope.{in_scope}
use Rattle.grammar.specs.Rules.{ValueAllowed, BooleanAllowed, ClausesAllowed, RseAllowed}
use Rattle.grammar.specs.Sizes.{OneStream}
use Rattle.meaning.specs.Inputs.{on_found, record_place, field_in, field_named, field_value, parameter_value, fetch}
use Rattle.meaning.specs.Runs.{Around, fetch_around, within, within_each}
use Rattle.meaning.specs.Meaning.{size, boolean_size, environment_around}
use Rattle.walking.specs.Walk.{Sight}
use Rattle.walking.specs.Sees.{Pairs, no_pair, pairs, such_place, SeesRun, SeesValue, Sees, SeesRse, SeesClauses}
use Rattle.walking.proofs.Sites.{All}
use Rattle.walking.proofs.Due.{all_first, all-second}
use Rattle.surroundings.specs.Around.{row_value}
use Rattle.surroundings.specs.Bindings.{binding_code, binding_number, binding_relation, binding_record, binding_such, binding_end, binding_first, binding_count, binding_after, binding_kind, kind_if, cell, rows_in, row_binding, bytes_bound, bound_value, bound_around, place_if, with_record, run_of, bound_sight}
use Rattle.sights.specs.Sites.{Site, site_at, value_sites, sites, rse_sites, clauses_sites}
use Rattle.sights.specs.Seen.{SameRecord, Agree, neither, both, Bound, Seen, Kept, Stands, LaidRun, Kinds}
use Rattle.sights.proofs.Fields.{field-same}
use Rattle.sights.proofs.Rows.{coded, rows-kept, coded_kept, kept-turned}
use Rattle.sights.proofs.Opened.{no_index, bound-within}

-- two lists alike one for one, and what is made of them
pub pairs_of : {A B C D : Type 0} (P : A → B → Type 0) (Q : C → D → Type 0) (f : A → C) (g : B → D) →
    ((x : A) (y : B) → P x y → Q (f x) (g y)) → (xs : List A) (ys : List B) → Pairs P xs ys → Pairs Q (map f xs) (map g ys)
pairs_of P Q f g h _ _ no_pair = no_pair
pairs_of P Q f g h (x ∷ xs) (y ∷ ys) (pairs a rest) = pairs (h x y a) (pairs_of P Q f g h xs ys rest)

pub pairs-follow : {A B : Type 0} (P Q : A → B → Type 0) → ((x : A) (y : B) → P x y → Q x y) → (xs : List A) (ys : List B) → Pairs P xs ys → Pairs Q xs ys
pairs-follow P Q h _ _ no_pair = no_pair
pairs-follow P Q h (x ∷ xs) (y ∷ ys) (pairs a rest) = pairs (h x y a) (pairs-follow P Q h xs ys rest)

-- kinds that are worked out from the sites
pub kinds-by : (f : Site → ℕ) (zs : List Site) → All (λ z. kind_if (f z) ≡ z.kind) zs → Kinds (map f zs) zs
kinds-by f [] h = no_pair
kinds-by f (z ∷ zs) h = pairs h.0 (kinds-by f zs h.1)

-- ---- fields

module _ (d records runs t : List ℕ) (xs : List Context) (s : List ℕ) (n : Name) where
  same-field : (row k : ℕ) → SameRecord d records runs t xs s row k →
      on_found (field_of (relation_at d (cell t row binding_relation)) n)
      (field_in (relation_at d (cell t row binding_relation)) (bytes_bound t row records runs) (cell t row binding_record))
      ≡ field_named (get_elem? xs k and_then λ x. x.relation) n s (record_place xs k)
  same-field row k h =
      rw (h.entry_is, h.context_is, h.relation_is)
      (by (field_of h.r n))
    where
      by : (o : Option ℕ) →
          on_found o (field_in h.r (bytes_bound t row records runs) (cell t row binding_record)) ≡ on_found o (field_in h.r s (record_place xs k))
      by none = refl
      by (some i) = field-same h.r (bytes_bound t row records runs) (cell t row binding_record) s (record_place xs k) h.bytes i

  agree-field : (o q : Option ℕ) → Agree d records runs t xs s o q →
      on_found o (λ row. on_found (field_of (relation_at d (cell t row binding_relation)) n)
      (field_in (relation_at d (cell t row binding_relation)) (bytes_bound t row records runs) (cell t row binding_record)))
      ≡ on_found q (λ k. field_named (get_elem? xs k and_then λ x. x.relation) n s (record_place xs k))
  agree-field _ _ neither = refl
  agree-field _ _ (both row k h) = same-field row k h

  pub bound-field : Bound d records runs t xs s → (c : ℕ) → bound_value d t records runs c n ≡ field_value xs s c n
  unfolding bound_value field_value
  bound-field b c = agree-field (row_binding t c (rows_in t) 0) (index_of (λ x. eqb x.number c) xs) (b.agree c)

-- ---- references

module _ (d parameters : List ℕ) (many : ℕ) (images records runs : List ℕ) where
  pub fetches : (t : List ℕ) (a : Around) → Seen d parameters many images records runs t a →
      (r : Reference) → bound_around d parameters many images records runs t r ≡ fetch_around a r
  unfolding bound_around fetch_around fetch row_value parameter_value
  fetches t a h (field c n) = bound-field d records runs t a.scope.contexts a.records n h.bound c
  fetches t a h (parameter m i) = rw (h.parameters_are m i, h.images_are)
  fetches t a h (parameter2 m i flag) = rw (h.parameters_are m i, h.parameters_are m flag, h.images_are)

  -- ---- inside an any, a unique or a statistic

  -- with a record of its run in turn
  pub opened : (u t : List ℕ) (a : Around) (o : ℕ) (z : Site) → Seen d parameters many images records runs t a → Kept u t →
      (l : LaidRun d runs u a.relations a.runs z) → in_scope a.scope z.stream.context ≡ false →
      (place : ℕ) (e : List ℕ) → Stands l.r runs place e →
      Seen d parameters many images records runs (with_record t l.row place) (within a o z.stream e)
  unfolding within under_streams in_scope context_of
  opened u t a o z h k l free place e w =
      let c = coded u z.place (rows_in u) 0 l.row l.row_is in
      let n = c.2 in
      let f = c.0 in
      let y = l.coded in
      let m = rows-kept u t k in
      let i = k.cells l.row binding_code (omega arith) (λ e. absurd (omega (arith, e))) in
      record {
        bound =
            bound-within d records runs t a.scope.contexts a.records h.bound l.row place
            (stream_context a.relations o z.stream) l.r e (omega (arith, n, m))
            (λ e. absurd (omega (arith, e, i, f, y)))
            (k.cells l.row binding_number (omega arith) (λ e. absurd (omega (arith, e))) ∙ l.context_is)
            l.relation_is
            (ap (relation_at d) (k.cells l.row binding_relation (omega arith) (λ e. absurd (omega (arith, e)))) ∙ l.entry_is)
            (no_index (λ (x : Context). eqb x.number z.stream.context) a.scope.contexts free) w;
        parameters_are = h.parameters_are;
        images_are = h.images_are;
      }

  abbrev sight : Sight (List ℕ)
  sight = bound_sight d parameters many images records runs

  -- its run
  pub run-seen : (u t : List ℕ) (a : Around) (o : ℕ) (z : Site) (r : Rse) (inside : List ℕ → Around → Type 0) →
      Kept u t → (l : LaidRun d runs u a.relations a.runs z) → z.after ≡ z.place + 1 + length (rse_bytes r) →
      ((place : ℕ) (e : List ℕ) → Stands l.r runs place e → inside (with_record t l.row place) (within a o z.stream e)) →
      SeesRun sight t r z.condition z.kind (within_each a z.place o (z.stream ∷ [])) inside z.place z.end
  unfolding within_each bound_sight run_of
  run-seen u t a o z r inside k l after each =
      let same : (c : ℕ) → c < 10 → (c ≡ 3 → ⊥) → cell t l.row c ≡ cell u l.row c = λ c h n. k.cells l.row c h n in
      let f = coded_kept u t k z.place ∙ l.row_is in
      let c = same binding_count (omega arith) (λ e. absurd (omega (arith, e))) in
      let i = same binding_first (omega arith) (λ e. absurd (omega (arith, e))) in
      record {
        run = run_of runs t l.row;
        records = map (within a o z.stream) l.run.records;
        run_is = rw f;
        such_is = ap place_if (same binding_such (omega arith) (λ e. absurd (omega (arith, e)))) ∙ l.such_is;
        number_is = same binding_after (omega arith) (λ e. absurd (omega (arith, e))) ∙ l.after_is ∙ after;
        end_is = same binding_end (omega arith) (λ e. absurd (omega (arith, e))) ∙ l.end_is;
        kind_is = ap kind_if (same binding_kind (omega arith) (λ e. absurd (omega (arith, e)))) ∙ l.kind_is;
        records_are = rw l.run_is;
        alike = rw (c, i)
            (pairs_of (Stands l.r runs) inside (with_record t l.row) (within a o z.stream) each _ l.run.records l.records_are);
      }

  -- what else is seen with a record in turn follows from something else
  more-seen : (v : Version) (t : List ℕ) (a : Around) (o : ℕ) (r : Rse) (kind : Option Grammar.Kind) (P Q : List ℕ → Around → Type 0) (p end : ℕ) →
      ((y : List ℕ) (b : Around) → P y b → Q y b) → SeesRse v sight t a o r kind P p end → SeesRse v sight t a o r kind Q p end
  unfolding SeesRse
  more-seen v t a o (rse ss cs) kind P Q p end f h =
      let q = p + 1 + length (head_bytes ss) in
      record {
        run = h.run;
        records = h.records;
        run_is = h.run_is;
        such_is = h.such_is;
        number_is = h.number_is;
        end_is = h.end_is;
        kind_is = h.kind_is;
        records_are = h.records_are;
        alike = pairs-follow (λ y b. SeesClauses v sight y b cs q × P y b) (λ y b. SeesClauses v sight y b cs q × Q y b) (λ y b k. (k.0, f y b k.1))
            h.run.each h.records h.alike;
      }

  module _ (v : Version) (u : List ℕ) where
    -- a row for each site
    abbrev Row : Around → Site → Type 0
    Row a z = LaidRun d runs u a.relations a.runs z

    -- what is seen from a table, around a value or a boolean
    abbrev From : List ℕ → Around → Type 0
    From t a = Seen d parameters many images records runs t a × Kept u t

    -- from a table with a record in turn, inside an rse that a code opens around a: a value under the rse's stream has its rows and its rules
    -- there
    abbrev Inside : Around → ℕ → Rse → List ℕ → Around → Type 0
    Inside a o r y b = From y b ×
        ((x : Value) (q : ℕ) → All (Row a) (value_sites (environment_around v a) (under_rse_of a.relations o a.scope r) x q) →
        ValueAllowed (environment_around v a) (under_rse_of a.relations o a.scope r) x →
        All (Row b) (value_sites (environment_around v b) b.scope x q) × ValueAllowed (environment_around v b) b.scope x)

    mutual
      unfolding SeesValue value_sites bound_sight within

      pub sees-value : (x : Value) (t : List ℕ) (a : Around) (p : ℕ) → From t a →
          All (Row a) (value_sites (environment_around v a) a.scope x p) → ValueAllowed (environment_around v a) a.scope x →
          SeesValue v sight t a x p
      sees-value (literal l) t a p h g w = tt
      sees-value (reference r) t a p h g w = fetches t a h.0
      sees-value (arithmetic o x y) t a p h g w =
          let xs = value_sites (environment_around v a) a.scope x (p + 1) in
          let ys = value_sites (environment_around v a) a.scope y (p + 1 + size x) in (
            sees-value x t a (p + 1) h (all_first (Row a) xs ys g) w.0,
            sees-value y t a (p + 1 + size x) h (all-second (Row a) xs ys g) w.1,
          )
      sees-value (negate x) t a p h g w = sees-value x t a (p + 1) h g w.0
      sees-value (statistic c r x) t a p h g w =
          let e = environment_around v a in
          let o = statistic_code c in
          let q = p + 1 + length (rse_bytes r) in
          let kind = kind_of e a.scope (statistic c r x) in
          let xs = rse_sites e o a.scope r kind p (q + size x) in
          let ys = value_sites e (under_rse_of a.relations o a.scope r) x q in
          more-seen v t a o r kind (Inside a o r) (λ y b. SeesValue v sight y b x q) p (q + size x)
          (λ y b i. let c = i.1 x q (all-second (Row a) xs ys g) w.2 in sees-value x y b q i.0 c.0 c.1)
          (sees-rse r o kind (q + size x) t a p h (all_first (Row a) xs ys g) w.0 w.1)
      sees-value (count r) t a p h g w =
          more-seen v t a blr.count r none (Inside a blr.count r) (λ y b. Unit {0}) p (p + 1 + length (rse_bytes r)) (λ y b i. tt)
          (sees-rse r blr.count none (p + 1 + length (rse_bytes r)) t a p h g w.0 w.1)

      pub sees : (b : Boolean) (t : List ℕ) (a : Around) (p : ℕ) → From t a → All (Row a) (sites (environment_around v a) a.scope b p) →
          BooleanAllowed (environment_around v a) a.scope b → Sees v sight t a b p
      sees (compare c x y) t a p h g w =
          let xs = value_sites (environment_around v a) a.scope x (p + 1) in
          let ys = value_sites (environment_around v a) a.scope y (p + 1 + size x) in (
            sees-value x t a (p + 1) h (all_first (Row a) xs ys g) w.0,
            sees-value y t a (p + 1 + size x) h (all-second (Row a) xs ys g) w.1,
          )
      sees (search c x y) t a p h g w =
          let xs = value_sites (environment_around v a) a.scope x (p + 1) in
          let ys = value_sites (environment_around v a) a.scope y (p + 1 + size x) in (
            sees-value x t a (p + 1) h (all_first (Row a) xs ys g) w.0,
            sees-value y t a (p + 1 + size x) h (all-second (Row a) xs ys g) w.1,
          )
      sees (between x y z) t a p h g w =
          let xs = value_sites (environment_around v a) a.scope x (p + 1) in
          let ys = value_sites (environment_around v a) a.scope y (p + 1 + size x) in
          let zs = value_sites (environment_around v a) a.scope z (p + 1 + size x + size y) in
          let two = all_first (Row a) (xs ++ ys) zs g in (
            sees-value x t a (p + 1) h (all_first (Row a) xs ys two) w.0,
            sees-value y t a (p + 1 + size x) h (all-second (Row a) xs ys two) w.1,
            sees-value z t a (p + 1 + size x + size y) h (all-second (Row a) (xs ++ ys) zs g) w.2,
          )
      sees (connect c x y) t a p h g w =
          let xs = sites (environment_around v a) a.scope x (p + 1) in
          let ys = sites (environment_around v a) a.scope y (p + 1 + boolean_size x) in (
            sees x t a (p + 1) h (all_first (Row a) xs ys g) w.0,
            sees y t a (p + 1 + boolean_size x) h (all-second (Row a) xs ys g) w.1,
          )
      sees (not x) t a p h g w = sees x t a (p + 1) h g w
      sees (missing x) t a p h g w = sees-value x t a (p + 1) h g w
      sees (quantify q r) t a p h g w =
          more-seen v t a (quantifier_code q) r none (Inside a (quantifier_code q) r) (λ y b. Unit {0}) p (p + 1 + length (rse_bytes r)) (λ y b i. tt)
          (sees-rse r (quantifier_code q) none (p + 1 + length (rse_bytes r)) t a p h g w.0 w.1)

      sees-rse : (r : Rse) (o : ℕ) (kind : Option Grammar.Kind) (end : ℕ) (t : List ℕ) (a : Around) (p : ℕ) → From t a →
          All (Row a) (rse_sites (environment_around v a) o a.scope r kind p end) → OneStream r →
          RseAllowed (environment_around v a) o a.scope r → SeesRse v sight t a o r kind (Inside a o r) p end
      sees-rse (rse [] cs) o kind end t a p h g n w = absurd (omega arith)
      sees-rse (rse (s ∷ []) cs) o kind end t a p h g n w =
          let q = p + 1 + length (head_bytes (s ∷ [])) in
          let z = site_at s (such_place cs q) (p + 1 + length (rse_bytes (rse (s ∷ []) cs))) end kind p in
          run-seen u t a o z (rse (s ∷ []) cs) (λ y b. SeesClauses v sight y b cs q × Inside a o (rse (s ∷ []) cs) y b) h.1 g.0 refl
          (λ place e i.
          let y = with_record t g.0.row place in
          let j : From y (within a o s e) =
          (opened u t a o z h.0 h.1 g.0 w.1.0.0.1 place e i, kept-turned t g.0.row place u h.1) in
          (sees-clauses cs y (within a o s e) q j g.1 w.3, (j, λ x m f k. (f, k))))
      sees-rse (rse (s ∷ z ∷ ss) cs) o kind end t a p h g n w = absurd (omega arith)

      sees-clauses : (cs : Clauses) (t : List ℕ) (a : Around) (p : ℕ) → From t a →
          All (Row a) (clauses_sites (environment_around v a) a.scope cs p) → ClausesAllowed (environment_around v a) a.scope cs →
          SeesClauses v sight t a cs p
      sees-clauses no_clauses t a p h g w = tt
      sees-clauses (such b cs) t a p h g w =
          let xs = sites (environment_around v a) a.scope b (p + 1) in
          let ys = clauses_sites (environment_around v a) a.scope cs (p + 1 + boolean_size b) in
          sees b t a (p + 1) h (all_first (Row a) xs ys g) w.0
      sees-clauses (sorted ks cs) t a p h g w = sees-clauses cs t a (p + 2 + length (keys_bytes ks)) h g w.2
