-- What a scope stands for after one more number or context, and what a search in it finds. Assumes nothing.
use Prim.Native.Nat.{ℕ, suc, ◌+◌, ◌≤◌, ◌<◌, min}
use mathlib.Core.Path.{◌≡◌, refl, ap, ◌∙◌}
use mathlib.Core.Bool.{Bool, true, false, cond, ◌&&◌}
use mathlib.Core.List.{List, [], ◌∷◌, ◌++◌, map, map-append}
use mathlib.Core.Option
use mathlib.Core.Option.{Option, none, some}
use native.Mathlib.Omega.{arith}
use borrow.Author.Tests.{lt-ltb}
use lib.Dec.{eqb}
use lib.ListN.{length, take, get_or, replicate, length-take}
use lib.Seq.{get_or-take}
use Rattle.std.specs.Prelude.{Some, None}
use Rattle.std.specs.Prelude as std
use Rattle.wire.specs.Limits.{max_depth, max_contexts}
use Rattle.wire.specs.Options.{option_of}
use Rattle.wire.specs.Lists.{find, index_of, among, is_some}
use Rattle.dictionary.specs.Internal.Walk.{relation_at}
use Rattle.grammar.specs.declared.Kind.{Kind}
use Rattle.grammar.specs.Internal.Steps.{fit_of, kind_in}
use Rattle.grammar.specs.Environment as Grammar
use Rattle.grammar.specs.Scope.{in_scope, of_for, updating, field_target, parameter_target, is_number}
use Rattle.scopes.specs.declared.scope.Context.{Context}
use Rattle.scopes.specs.Internal.Columns.{context_count, send_count, label_count, target_at}
use Rattle.scopes.specs.Internal.Columns.{sends_from, labels_from, relations_from, scope_numbers}
use Rattle.scopes.specs.Scopes.{each_from, context_in, contexts_held, contexts_in, with_context}
use Rattle.scopes.specs.Scopes.{found_of, relation_place, is_of_for}
use Rattle.scopes.specs.Scopes.{sends_held, send_numbers, with_send, labels_held, label_numbers, with_label}
use Rattle.scopes.specs.Scopes.{updating_in, is_target, with_target, context_of, scope_of}
use Rattle.scopes.proofs.Runs.{each-length, each_at}
use Rattle.scopes.proofs.Held.{target_in, with-number-length, with-number-other, with-number-count}
use Rattle.scopes.proofs.Held.{with-number, with-number-contexts, with-number-target, with-number-numbers}
use Rattle.scopes.proofs.Held.{with-context-other, with-context, with-context-target, with-context-numbers}
use Rattle.scopes.proofs.Held.{with-target-other, target-put, with-target-all, with-target-numbers}
pub use Rattle.scopes.proofs.Held.{with-context-length, with-context-count, with-target-length}

-- ---- kinds as the code has them

pub fit-kind : (f : std.Option Kind) → fit_of (kind_in f) ≡ f
fit-kind None = refl
fit-kind (Some k) = refl

pub kind-fit : (k : Option Kind) → kind_in (fit_of k) ≡ k
kind-fit none = refl
kind-fit (some k) = refl

-- ---- lengths and counts

module _ (a : List ℕ) (x : Context) where
  pub with-context-sends : sends_held (with_context a x) ≡ sends_held a
  with-context-sends = with-context-other a x send_count (λ e. omega arith) (omega arith)

  pub with-context-labels : labels_held (with_context a x) ≡ labels_held a
  with-context-labels = with-context-other a x label_count (λ e. omega arith) (omega arith)

module _ (a : List ℕ) (n : ℕ) where
  pub with-send-length : length (with_send a n) ≡ length a
  with-send-length = with-number-length a send_count sends_from n

  pub with-send-contexts : contexts_held (with_send a n) ≡ contexts_held a
  with-send-contexts = with-number-other a send_count sends_from n context_count (λ e. omega arith) (omega arith)

  pub with-send-labels : labels_held (with_send a n) ≡ labels_held a
  with-send-labels = with-number-other a send_count sends_from n label_count (λ e. omega arith) (omega arith)

  pub with-send-count : sends_held (with_send a n) ≤ sends_held a + 1
  with-send-count = with-number-count a send_count sends_from n

  pub with-label-length : length (with_label a n) ≡ length a
  with-label-length = with-number-length a label_count labels_from n

  pub with-label-contexts : contexts_held (with_label a n) ≡ contexts_held a
  with-label-contexts = with-number-other a label_count labels_from n context_count (λ e. omega arith) (omega arith)

  pub with-label-sends : sends_held (with_label a n) ≡ sends_held a
  with-label-sends = with-number-other a label_count labels_from n send_count (λ e. omega arith) (omega arith)

  pub with-label-count : labels_held (with_label a n) ≤ labels_held a + 1
  with-label-count = with-number-count a label_count labels_from n

  pub with-target-contexts : contexts_held (with_target a n) ≡ contexts_held a
  with-target-contexts = with-target-other a n context_count (λ e. omega arith) (λ e. omega arith)

  pub with-target-sends : sends_held (with_target a n) ≡ sends_held a
  with-target-sends = with-target-other a n send_count (λ e. omega arith) (λ e. omega arith)

  pub with-target-labels : labels_held (with_target a n) ≡ labels_held a
  with-target-labels = with-target-other a n label_count (λ e. omega arith) (λ e. omega arith)

-- ---- what a scope stands for with one more

-- a scope by its parts
scope-by :
    (d a : List ℕ) {xs : List Context} {t : Option ℕ} {ss ls : List ℕ} → contexts_in a ≡ xs → target_in a ≡ t → send_numbers a ≡ ss
    → label_numbers a ≡ ls → scope_of d a ≡ record { contexts = map (context_of d) xs; target = t; sends = ss; labels = ls }
unfolding scope_of
scope-by d a e f g h = rw (e, f, g, h)

module _ (d a : List ℕ) (whole : length a ≡ scope_numbers) where
  module _ (x : Context) (h : contexts_held a < max_contexts) where
    sends-with : send_numbers (with_context a x) ≡ send_numbers a
    sends-with = with-context-numbers a x whole h send_count sends_from (omega arith) (omega arith) (omega arith) (omega arith)

    labels-with : label_numbers (with_context a x) ≡ label_numbers a
    labels-with = with-context-numbers a x whole h label_count labels_from (omega arith) (omega arith) (omega arith) (omega arith)

    contexts-with : map (context_of d) (contexts_in a ++ (x ∷ [])) ≡ map (context_of d) (contexts_in a) ++ (context_of d x ∷ [])
    contexts-with = map-append (context_of d) (contexts_in a) (x ∷ [])

    pub scope-with : scope_of d (with_context a x) ≡ Grammar.with_contexts (scope_of d a) (context_of d x ∷ [])
    unfolding scope_of
    scope-with = scope-by d (with_context a x) (with-context a x whole h) (with-context-target a x) sends-with labels-with ∙ rw contexts-with

    pub scope-updating : scope_of d (with_target (with_context a x) x.number.0) ≡ Grammar.under_update (scope_of d a) (context_of d x)
    unfolding scope_of
    scope-updating =
        scope-by d (with_target (with_context a x) x.number.0)
        (with-target-all (with_context a x) x.number.0 ∙ with-context a x whole h)
        (target-put (with_context a x) x.number.0 (with-context-length a x ∙ whole))
        (with-target-numbers (with_context a x) x.number.0 send_count sends_from (omega arith) (omega arith) ∙ sends-with)
        (with-target-numbers (with_context a x) x.number.0 label_count labels_from (omega arith) (omega arith) ∙ labels-with) ∙
        rw contexts-with

  pub scope-sending : (m : ℕ) → sends_held a < max_depth
      → scope_of d (with_send a m)
      ≡ record {
        contexts = (scope_of d a).contexts;
        target = (scope_of d a).target;
        sends = (scope_of d a).sends ++ (m ∷ []);
        labels = (scope_of d a).labels;
      }
  unfolding scope_of
  scope-sending m h =
      let below : sends_from + max_depth ≤ relations_from = omega arith in
      scope-by d (with_send a m)
      (with-number-contexts a send_count sends_from m h below (omega arith) (omega arith) (omega arith))
      (with-number-target a send_count sends_from m h below (omega arith) (omega arith) (omega arith))
      (with-number a send_count sends_from m h below whole (omega arith))
      (with-number-numbers a send_count sends_from m h below label_count labels_from (λ e. omega arith) (omega arith) (omega arith)
      (λ j k l e. omega arith))

  pub scope-labelled : (n : ℕ) → labels_held a < max_depth
      → scope_of d (with_label a n)
      ≡ record {
        contexts = (scope_of d a).contexts;
        target = (scope_of d a).target;
        sends = (scope_of d a).sends;
        labels = (scope_of d a).labels ++ (n ∷ []);
      }
  unfolding scope_of
  scope-labelled n h =
      let below : labels_from + max_depth ≤ relations_from = omega arith in
      scope-by d (with_label a n)
      (with-number-contexts a label_count labels_from n h below (omega arith) (omega arith) (omega arith))
      (with-number-target a label_count labels_from n h below (omega arith) (omega arith) (omega arith))
      (with-number-numbers a label_count labels_from n h below send_count sends_from (λ e. omega arith) (omega arith) (omega arith)
      (λ j k l e. omega arith))
      (with-number a label_count labels_from n h below whole (omega arith))

-- ---- an array of zeros

abbrev pub zeros : List ℕ
zeros = replicate scope_numbers 0

pub nothing-held : (d : List ℕ) → scope_of d zeros ≡ Grammar.outermost
unfolding scope_of
nothing-held d = refl

pub no_contexts : contexts_held zeros ≡ 0
no_contexts = refl

pub no-sends : sends_held zeros ≡ 0
no-sends = refl

pub no-labels : labels_held zeros ≡ 0
no-labels = refl

-- ---- a search in a scope

cond_map : {A B : Type 0} (f : A → B) (t : Bool) (a : A) (o : Option A)
    → cond t (some (f a)) (Option.map f o) ≡ Option.map f (cond t (some a) o)
cond_map f true a o = refl
cond_map f false a o = refl

pub find-map : {A B : Type 0} (f : A → B) (test : B → Bool) (l : List A) → find test (map f l) ≡ Option.map f (find (λ x. test (f x)) l)
unfolding find
find-map f test [] = refl
find-map f test (x ∷ l) = rw (find-map f test l) (cond_map f (test (f x)) x (find (λ y. test (f y)) l))

-- the element of the index that was found
pub find-index : {A : Type 0} (test : A → Bool) (d : A) (l : List A) → find test l ≡ Option.map (λ i. get_or l i d) (index_of test l)
unfolding find index_of
find-index test d [] = refl
find-index test d (x ∷ l) = rw (find-index test d l) (by (test x) (index_of test l))
  where
    by : (t : Bool) (o : Option ℕ)
        → cond t (some x) (Option.map (λ i. get_or l i d) o) ≡ Option.map (λ i. get_or (x ∷ l) i d) (cond t (some 0) (Option.map suc o))
    by true o = refl
    by false none = refl
    by false (some k) = refl

pub index-within : {A : Type 0} (test : A → Bool) (l : List A) (i : ℕ) → index_of test l ≡ some i → i < length l
unfolding index_of
index-within test [] i e = let z : ◌≡◌ {A = ℕ} 0 1 = cc in absurd (omega arith)
index-within test (x ∷ l) i e = by (test x) (index_of test l) (index-within test l) e
  where
    by : (t : Bool) (o : Option ℕ) → ((k : ℕ) → o ≡ some k → k < length l)
        → cond t (some 0) (Option.map suc o) ≡ some i → i < suc (length l)
    by true o f e = let z : i ≡ 0 = cc in omega arith
    by false none f e = let z : ◌≡◌ {A = ℕ} 0 1 = cc in absurd (omega arith)
    by false (some k) f e = let z : i ≡ suc k = cc in omega (arith, f k refl)

found_at : (o : Option ℕ) (i : ℕ) → option_of o ≡ Some i → o ≡ some i
found_at none i e = let z : ◌≡◌ {A = ℕ} 0 1 = cc in absurd (omega arith)
found_at (some k) i e = cc

found_none : (o : Option ℕ) → option_of o ≡ None → o ≡ none
found_none none e = refl
found_none (some k) e = let z : ◌≡◌ {A = ℕ} 0 1 = cc in absurd (omega arith)

module _ (d a : List ℕ) (n : ℕ) where
  abbrev index : Option ℕ
  index = index_of (λ x. eqb x.number.0 n) (contexts_in a)

  context-found : (o : Option ℕ) → index ≡ o
      → Grammar.context_of (scope_of d a) n ≡ Option.map (context_of d) (Option.map (λ i. get_or (contexts_in a) i (context_in a 0)) o)
  unfolding Grammar.context_of scope_of
  context-found o e =
      find-map (context_of d) (λ x. eqb x.number n) (contexts_in a) ∙
      ap (Option.map (context_of d)) (find-index (λ x. eqb x.number.0 n) (context_in a 0) (contexts_in a)) ∙
      ap (λ p. Option.map (context_of d) (Option.map (λ i. get_or (contexts_in a) i (context_in a 0)) p)) e

  module _ (i : ℕ) (e : option_of (found_of (contexts_in a) n) ≡ Some i) where
    index_below : i < length (contexts_in a)
    index_below = index-within (λ x. eqb x.number.0 n) (contexts_in a) i (found_at index i e)

    index-held : (i < contexts_held a) × (i < max_contexts)
    index-held =
        let l : length (contexts_in a) ≡ min (contexts_held a) (length (each_from (context_in a) 0 max_contexts)) =
        length-take (contexts_held a) (each_from (context_in a) 0 max_contexts) in
        let h = index_below in
        (omega (arith, each-length (context_in a) 0 max_contexts), omega (arith, each-length (context_in a) 0 max_contexts))

    context-at : get_or (contexts_in a) i (context_in a 0) ≡ context_in a i
    context-at =
        let z : 0 + i ≡ i = omega arith in
        get_or-take (contexts_held a) (each_from (context_in a) 0 max_contexts) i (context_in a 0) index-held.0 ∙
        each_at (context_in a) 0 max_contexts i (context_in a 0) index-held.1 ∙
        ap (context_in a) z

    pub found_within : i < max_contexts
    found_within = index-held.1

    pub found-is : Grammar.context_of (scope_of d a) n ≡ some (context_of d (context_in a i))
    found-is = context-found (some i) (found_at index i e) ∙ ap (λ x. some (context_of d x)) context-at

    pub is-in-scope : in_scope (scope_of d a) n ≡ true
    unfolding in_scope
    is-in-scope = rw found-is

    pub is-of-for : of_for (scope_of d a) n ≡ is_of_for a i
    unfolding of_for
    is-of-for = rw (found-is, lt-ltb i max_contexts found_within)

    pub is-relation : Grammar.relation_of_context (scope_of d a) n ≡ some (relation_at d (relation_place a i))
    unfolding Grammar.relation_of_context
    is-relation = rw (found-is, lt-ltb i max_contexts found_within)

  module _ (e : option_of (found_of (contexts_in a) n) ≡ None) where
    pub found_nothing : Grammar.context_of (scope_of d a) n ≡ none
    found_nothing = context-found none (found_none index e)

    pub nothing-in-scope : in_scope (scope_of d a) n ≡ false
    unfolding in_scope
    nothing-in-scope = rw found_nothing

    pub nothing-of-for : of_for (scope_of d a) n ≡ false
    unfolding of_for
    nothing-of-for = rw found_nothing

    pub nothing-relation : Grammar.relation_of_context (scope_of d a) n ≡ none
    unfolding Grammar.relation_of_context
    nothing-relation = rw found_nothing

  pub target_is : field_target (scope_of d a) n ≡ is_target a n
  unfolding field_target scope_of
  target_is = by (updating_in a)
    where
      by : (t : Bool) → is_number (cond t (some (get_or a target_at 0)) none) n ≡ t && eqb (get_or a target_at 0) n
      by true = refl
      by false = refl

  pub sends-are : parameter_target (scope_of d a) n ≡ among n (send_numbers a)
  unfolding parameter_target scope_of
  sends-are = refl

  pub labels-are : among n (scope_of d a).labels ≡ among n (label_numbers a)
  unfolding scope_of
  labels-are = refl

pub updating-is : (d a : List ℕ) → updating (scope_of d a) ≡ updating_in a
unfolding updating scope_of
updating-is d a = by (updating_in a)
  where
    by : (t : Bool) → is_some (cond t (some (get_or a target_at 0)) none) ≡ t
    by true = refl
    by false = refl
