-- A table with the rows of the contexts in scope, and of what is asked for in an accepted request: with the kinds noted it is that of the
-- sites' kinds.
use Prim.Native.Nat.{ℕ, suc, ◌+◌, ◌*◌, ◌≤◌}
use mathlib.Core.Path.{◌≡◌, refl, sym, ap, ap₂, subst, ◌∙◌}
use mathlib.Core.Bool.{Bool, true, false, cond}
use mathlib.Core.List.{List, [], ◌∷◌, ◌++◌, map, append_assoc, map-append}
use mathlib.Core.Option
use mathlib.Core.Option.{Option, none, some}
use native.Mathlib.Omega.{arith}
use lib.Dec.{eqb}
use lib.ListN.{length, get_or, get_elem?, drop}
use lib.Seq.{sets, get_or-drop}
use Rattle.wire.specs.Lists.{among, any_of, find, index_of, ◌and_then◌}
use Rattle.wire.specs.Limits.{max_depth}
use Rattle.wire.specs.Words.{byte_at}
use Rattle.wire.specs.Classes.{classify, value_class}
use Rattle.wire.specs.Versions.{version_code}
use Rattle.wire.specs.declared.codes.Version.{Version}
use Rattle.wire.specs.declared.codes.Version.TheVariants.{Version4, Version5}
use Rattle.dictionary.specs.Dictionary.{Relation}
use Rattle.dictionary.specs.Internal.Walk.{relation_at}
use Rattle.grammar.specs.Kinds.{format_kind}
use Rattle.grammar.specs.Tree.{Descriptor, Message, Request}
use Rattle.grammar.specs.Bytes.{request_bytes}
use Rattle.grammar.specs.Environment.{Scope, message_of, descriptor_format, parameter_format}
use Rattle.grammar.specs.Sizes.{parameter_count}
use Rattle.grammar.specs.Rows.{parameter_rows}
use Rattle.grammar.specs.Rules.{environment}
use Rattle.grammar.proofs.Complete.{version-back}
use Rattle.meaning.specs.Inputs.{parameter_place, parameter_at}
use Rattle.meaning.specs.Demand.{Accepted}
use Rattle.walking.specs.Walk.{version_at}
use Rattle.walking.proofs.Sites.{All}
use Rattle.walking.proofs.Due.{all-follow}
use Rattle.surroundings.specs.Parameters.{ScaleBytes}
use Rattle.surroundings.specs.Bindings.{Binding, binding_rows, bound_contexts, kind_if, rows_in}
use Rattle.surroundings.proofs.Parameters.{parameter-found}
use Rattle.surroundings.proofs.Slots.{slot_for}
use Rattle.runs.specs.Filled.{relations_of}
use Rattle.runs.proofs.FilledLaws.{rows-laid}
use Rattle.sights.specs.Sites.{Site}
use Rattle.sights.specs.Seen.{Kinds, with_kind, with_kinds}
use Rattle.sights.proofs.Sight.{kinds-by}
use Rattle.sights.proofs.Trees.{row_of}
use Rattle.sights.proofs.Lent.{entry_of}
use Rattle.kinds.specs.Spans.{Span, span_of, spans_in}
use Rattle.kinds.specs.KindAt.{format_found, kind_at, kind_number, takes_number, kinds_noted}
use Rattle.kinds.proofs.Trees.{spans_of}
use Rattle.kinds.proofs.Starts.{Outer}
use Rattle.kinds.proofs.Contexts.{contexts-outer}
use Rattle.kinds.proofs.KindLaws.{Beside}
use Rattle.kinds.proofs.Rowed.{noted, spans-are, table-noted, outer-noted}
use Rattle.kinds.proofs.SiteKinds.{Right}

-- the numbers of the kinds of sites
abbrev pub kinds_in : List Site → List ℕ
kinds_in zs = map (λ (z : Site). kind_number z.kind) zs

-- ---- rows with these kinds, beside rows without

pub rows-count : (d : List ℕ) (zs : List Site) → length (with_kinds (map (row_of d) zs) (kinds_in zs)) ≡ length (map (row_of d) zs)
unfolding with_kinds
rows-count d [] = refl
rows-count d (z ∷ zs) = ap suc (rows-count d zs)

pub rows-relations : (d : List ℕ) (zs : List Site) → relations_of d (with_kinds (map (row_of d) zs) (kinds_in zs)) ≡ relations_of d (map (row_of d) zs)
unfolding with_kinds
rows-relations d [] = refl
rows-relations d (z ∷ zs) = ap (λ (l : List Relation). relation_at d (row_of d z).relation ∷ l) (rows-relations d zs)

-- ---- the parameters

-- the first that passes is the one of its index
find-index : {A : Type 0} (test : A → Bool) (l : List A) → index_of test l and_then get_elem? l ≡ find test l
unfolding index_of find
find-index test [] = refl
find-index {A} test (x ∷ l) = by (test x) (index_of test l) (find-index test l)
  where
    by : (b : Bool) (o : Option ℕ) → o and_then get_elem? l ≡ find test l →
        cond b (some 0) (Option.map suc o) and_then get_elem? (x ∷ l) ≡ cond b (some x) (find test l)
    by true o e = refl
    by false none e = e
    by false (some i) e = e

parameter-kind : (ms : List Message) (m i : ℕ) →
    Option.map format_found (parameter_at ms m i)
    ≡ Option.map format_kind (find (λ x. eqb x.number m) ms and_then λ x. Option.map descriptor_format (get_elem? x.descriptors i))
unfolding parameter_at
parameter-kind ms m i =
    by (index_of (λ x. eqb x.number m) ms)
    ∙ ap (λ (o : Option Message). Option.map format_kind (o and_then λ x. Option.map descriptor_format (get_elem? x.descriptors i)))
    (find-index (λ x. eqb x.number m) ms)
  where
    last : (p : ℕ) (o : Option Descriptor) →
        Option.map format_found (o and_then λ x. some (descriptor_format x, p)) ≡ Option.map format_kind (Option.map descriptor_format o)
    last p none = refl
    last p (some x) = refl

    next : (k : ℕ) (o : Option Message) →
        Option.map format_found (o and_then λ x. get_elem? x.descriptors i and_then λ y. some (descriptor_format y, parameter_place ms k x.descriptors i))
        ≡ Option.map format_kind (o and_then λ x. Option.map descriptor_format (get_elem? x.descriptors i))
    next k none = refl
    next k (some x) = last (parameter_place ms k x.descriptors i) (get_elem? x.descriptors i)

    by : (o : Option ℕ) →
        Option.map format_found (o and_then λ k. get_elem? ms k and_then λ x. get_elem? x.descriptors i and_then λ y.
        some (descriptor_format y, parameter_place ms k x.descriptors i))
        ≡ Option.map format_kind ((o and_then get_elem? ms) and_then λ x. Option.map descriptor_format (get_elem? x.descriptors i))
    by none = refl
    by (some k) = next k (get_elem? ms k)

-- ---- of an accepted request

version-bare : (v : Version) → takes_number (value_class (version_code v)) ≡ false
unfolding value_class classify among any_of
version-bare Version4 = refl
version-bare Version5 = refl

module _ (s d : List ℕ) (rs : List Relation) (t : Request) (a : Accepted s d rs t) where
  -- no statistic stands at its first byte
  first-bare : takes_number (value_class (byte_at s 0)) ≡ false
  unfolding request_bytes
  first-bare = ap (λ l. takes_number (value_class (byte_at l 0))) a.bytes ∙ version-bare t.version

  pub accepted-beside : ScaleBytes t.messages → (pt after : List ℕ) → pt ≡ parameter_rows t.messages ++ after →
      Beside d pt (parameter_count t.messages) s (environment rs t)
  unfolding request_bytes parameter_format message_of
  accepted-beside scales pt after f =
      record {
        version-is = sym (ap version_at a.bytes ∙ (version-back t.version).1);
        parameters_are = λ m i.
            ap (Option.map format_found) (parameter-found t.messages a.allowed.messages scales pt after f m i) ∙ parameter-kind t.messages m i;
        entries-are = entry_of d rs a.house;
      }

  -- rows of sites, where what is noted is right
  module _ (ps : List ℕ) (count : ℕ) (xs : List Span) where
    abbrev RightIn : Site → Type 0
    RightIn z = Right d ps count s (environment rs t) xs z

    rows-noted : (zs : List Site) → All RightIn zs →
        map (noted d ps count s xs) (map (row_of d) zs) ≡ with_kinds (map (row_of d) zs) (kinds_in zs)
    unfolding with_kinds
    rows-noted [] h = refl
    rows-noted (z ∷ zs) h =
        ap₂ (λ (b : Binding) (l : List Binding). b ∷ l)
        (by (takes_number (value_class (byte_at s z.place))) (kind_number (kind_at d ps count xs max_depth s z.after).kind)
        ∙ ap (with_kind (row_of d z)) h.0.1) (rows-noted zs h.1)
      where
        by : (b : Bool) (k : ℕ) → cond b (with_kind (row_of d z) k) (row_of d z) ≡ with_kind (row_of d z) (cond b k 0)
        by true k = refl
        by false k = refl

    pub kinds-right : (zs : List Site) → All RightIn zs → Kinds (kinds_in zs) zs
    kinds-right zs h =
        kinds-by (λ (z : Site). kind_number z.kind) zs (all-follow RightIn (λ z. kind_if (kind_number z.kind) ≡ z.kind) zs (λ z k. k.0) h)

  -- the contexts in scope laid from the start of a table of nothing, and the rows of what is asked for after them
  module _ (ps : List ℕ) (count : ℕ) (records : List ℕ) (sc : Scope) (own : List Binding) (zs : List Site) (own_is : own ≡ map (row_of d) zs) where
    abbrev outer : List Binding
    outer = bound_contexts (map (slot_for d) sc.contexts) records 0

    abbrev pub laid_in : List ℕ → List Binding → List ℕ
    laid_in z bs = sets (sets z 0 (binding_rows outer)) (length outer * 10) (binding_rows bs)

    pub own-count : length (with_kinds own (kinds_in zs)) ≡ length own
    own-count = ap (λ l. length (with_kinds l (kinds_in zs))) own_is ∙ rows-count d zs ∙ ap length (sym own_is)

    pub own-relations : relations_of d (with_kinds own (kinds_in zs)) ≡ relations_of d own
    own-relations = ap (λ l. relations_of d (with_kinds l (kinds_in zs))) own_is ∙ rows-relations d zs ∙ ap (relations_of d) (sym own_is)

    -- whatever has no code behind the rows, what is noted is right
    abbrev pub AllRight : Type 0
    AllRight = (more : List Span) → Outer more → All (RightIn ps count (spans_of outer ++ (spans_of own ++ more))) zs

    own-noted : (xs : List Span) → All (RightIn ps count xs) zs → map (noted d ps count s xs) own ≡ with_kinds own (kinds_in zs)
    own-noted xs h =
        ap (map (noted d ps count s xs)) own_is ∙ rows-noted ps count xs zs h ∙ ap (λ l. with_kinds l (kinds_in zs)) (sym own_is)

    pub laid-noted : AllRight → (z : List ℕ) → ((i : ℕ) → get_or z i 0 ≡ 0) → (length outer + length own) * 10 ≤ length z →
        kinds_noted d ps count s (rows_in (laid_in z own)) 0 (laid_in z own) ≡ laid_in z (with_kinds own (kinds_in zs))
    laid-noted right z nothing room =
        let n = (length outer + length own) * 10 in
        let rest = drop n z in
        let left : (i : ℕ) → get_or rest i 0 ≡ 0 = λ i. get_or-drop n z i 0 ∙ nothing (n + i) in
        let bs = outer ++ own in
        let xs = spans_in (binding_rows bs ++ rest) in
        let sp = spans-are bs rest left in
        let all_are : xs ≡ spans_of outer ++ (spans_of own ++ sp.0) =
        sp.2 ∙ ap (λ l. l ++ sp.0) (map-append span_of outer own) ∙ append_assoc (spans_of outer) (spans_of own) sp.0 in
        let h : All (RightIn ps count xs) zs = subst (λ l. All (RightIn ps count l) zs) (sym all_are) (right sp.0 sp.1) in
        let more = with_kinds own (kinds_in zs) in
        let m = own-count in
        let k : n ≡ (length outer + length more) * 10 = omega (arith, m) in
        let both : map (noted d ps count s xs) bs ≡ outer ++ more =
        map-append (noted d ps count s xs) outer own
        ∙ ap₂ (λ (u v : List Binding). u ++ v)
        (outer-noted d ps count s first-bare xs outer (contexts-outer (map (slot_for d) sc.contexts) records 0)) (own-noted xs h) in
        ap (λ u. kinds_noted d ps count s (rows_in u) 0 u) (rows-laid z outer own room)
        ∙ table-noted d ps count s first-bare bs rest left
        ∙ ap₂ (λ (l : List Binding) (i : ℕ). binding_rows l ++ drop i z) both k
        ∙ sym (rows-laid z outer more (omega (arith, k, room)))
