-- The numbers, the contexts and the target that a scope holds: what stays of them, and one more. Assumes nothing.
use Prim.Native.Nat.{ℕ, zero, suc, ◌+◌, ◌≤◌, ◌<◌}
use mathlib.Core.Path.{◌≡◌, refl, ap, ap₂, ◌∙◌}
use mathlib.Core.Bool.{Bool, true, false, cond}
use mathlib.Core.List.{List, [], ◌∷◌, ◌++◌}
use mathlib.Core.Logic.{◌≢◌}
use mathlib.Core.Option.{Option, none, some}
use native.Mathlib.Omega.{arith}
use borrow.Author.Tests.{lt-ltb}
use lib.Dec.{ltb}
use lib.ListN.{length, take, set, get_or, length-set}
use lib.Seq.{get_or-set_same, get_or-set_other}
use Rattle.wire.specs.Limits.{max_depth, max_contexts}
use Rattle.scopes.specs.declared.scope.Context.{Context}
use Rattle.scopes.specs.Internal.Columns.{context_count, updating_at, target_at, numbers_from, openers_from, relations_from, scope_numbers}
use Rattle.scopes.specs.Scopes.{each_from, numbers_at, with_number, updating_in, with_target}
use Rattle.scopes.specs.Scopes.{context_in, contexts_held, contexts_in, with_context}
use Rattle.scopes.proofs.Runs.{each_same, each_more}

-- ---- what stays where its numbers stay

abbrev pub target_in : List ℕ → Option ℕ
target_in a = cond (updating_in a) (some (get_or a target_at 0)) none

module _ (a b : List ℕ) where
  abbrev pub Same : ℕ → Type 0
  Same j = get_or b j 0 ≡ get_or a j 0

  numbers-same :
      (counted start : ℕ) → Same counted → ((j : ℕ) → start ≤ j → j < start + max_depth → Same j)
      → numbers_at b counted start ≡ numbers_at a counted start
  numbers-same counted start e s = ap₂ take e (each_same (λ j. get_or a j 0) (λ j. get_or b j 0) start max_depth s)

  abbrev pub SameContext : ℕ → Type 0
  SameContext i = Same (numbers_from + i) × Same (openers_from + i) × Same (relations_from + i)

  context-same : (i : ℕ) → SameContext i → context_in b i ≡ context_in a i
  context-same i s = rw (s.0, s.1, s.2)

  contexts-same : Same context_count → ((i : ℕ) → i < max_contexts → SameContext i) → contexts_in b ≡ contexts_in a
  contexts-same e s = ap₂ take e (each_same (context_in a) (context_in b) 0 max_contexts (λ i h k. context-same i (s i (omega arith))))

  target-same : Same updating_at → Same target_at → target_in b ≡ target_in a
  target-same e s = rw (e, s)

-- what holds of two holds of a choice between them
chosen : {A : Type 0} (P : A → Type 0) (t : Bool) {x y : A} → P x → P y → P (cond t x y)
chosen P true p q = p
chosen P false p q = q

-- ---- one number more

module _ (a : List ℕ) (counted start n : ℕ) where
  abbrev number_put : List ℕ
  number_put = set (set a (start + get_or a counted 0) n) counted (get_or a counted 0 + 1)

  put_other : (j : ℕ) → j ≢ counted → j ≢ start + get_or a counted 0 → Same a number_put j
  put_other j p q =
      get_or-set_other (set a (start + get_or a counted 0) n) counted j (get_or a counted 0 + 1) 0 p ∙
      get_or-set_other a (start + get_or a counted 0) j n 0 q

  put-length : length number_put ≡ length a
  put-length =
      length-set (set a (start + get_or a counted 0) n) counted (get_or a counted 0 + 1) ∙
      length-set a (start + get_or a counted 0) n

  pub with-number-length : length (with_number a counted start n) ≡ length a
  with-number-length = chosen (λ b. length b ≡ length a) (ltb (get_or a counted 0) max_depth) put-length refl

  -- another column before the numbers
  pub with-number-other : (j : ℕ) → j ≢ counted → j < start → Same a (with_number a counted start n) j
  with-number-other j p q =
      chosen (λ b. Same a b j) (ltb (get_or a counted 0) max_depth) (put_other j p (λ e. omega arith)) refl

  pub with-number-count : get_or (with_number a counted start n) counted 0 ≤ get_or a counted 0 + 1
  with-number-count =
      chosen (λ b. get_or b counted 0 ≤ get_or a counted 0 + 1) (ltb (get_or a counted 0) max_depth)
      (at_most (set a (start + get_or a counted 0) n) counted (get_or a counted 0 + 1)) (omega arith)
    where
      at_most : (l : List ℕ) (i v : ℕ) → get_or (set l i v) i 0 ≤ v
      at_most [] i v = omega arith
      at_most (x ∷ l) zero v = omega arith
      at_most (x ∷ l) (suc i) v = at_most l i v

  module _ (h : get_or a counted 0 < max_depth) (k : start + max_depth ≤ length a) (apart : counted < start) where
    put_count : get_or number_put counted 0 ≡ get_or a counted 0 + 1
    put_count =
        let l : counted < length (set a (start + get_or a counted 0) n) = omega (arith, length-set a (start + get_or a counted 0) n) in
        get_or-set_same (set a (start + get_or a counted 0) n) counted (get_or a counted 0 + 1) 0 l

    put-number : get_or number_put (start + get_or a counted 0) 0 ≡ n
    put-number =
        get_or-set_other (set a (start + get_or a counted 0) n) counted (start + get_or a counted 0) (get_or a counted 0 + 1) 0 (λ e. omega arith) ∙
        get_or-set_same a (start + get_or a counted 0) n 0 (omega arith)

    number_put_lem : numbers_at number_put counted start ≡ numbers_at a counted start ++ (n ∷ [])
    number_put_lem =
        ap (λ c. take c (each_from (λ j. get_or number_put j 0) start max_depth)) put_count ∙
        each_more (λ j. get_or a j 0) (λ j. get_or number_put j 0) start max_depth (get_or a counted 0) h
        (λ j l m. put_other j (λ e. omega arith) (λ e. omega arith)) ∙
        ap (λ m. numbers_at a counted start ++ (m ∷ [])) put-number

-- ---- the rest of a scope with one number more

module _ (a : List ℕ) (counted start n : ℕ) (h : get_or a counted 0 < max_depth) (below : start + max_depth ≤ relations_from) where
  number_is : with_number a counted start n ≡ number_put a counted start n
  number_is = rw (lt-ltb (get_or a counted 0) max_depth h)

  pub with-number : length a ≡ scope_numbers → counted < start
      → numbers_at (with_number a counted start n) counted start ≡ numbers_at a counted start ++ (n ∷ [])
  with-number whole apart = ap (λ b. numbers_at b counted start) number_is ∙ number_put_lem a counted start n h (omega arith) apart

  pub with-number-numbers : (other from : ℕ) → other ≢ counted → other < start → counted < from
      → ((j : ℕ) → from ≤ j → j < from + max_depth → j ≢ start + get_or a counted 0)
      → numbers_at (with_number a counted start n) other from ≡ numbers_at a other from
  with-number-numbers other from p q r s =
      ap (λ b. numbers_at b other from) number_is ∙
      numbers-same a (number_put a counted start n) other from (put_other a counted start n other p (λ e. omega arith))
      (λ j k l. put_other a counted start n j (λ e. omega arith) (s j k l))

  module _ (above : openers_from + max_contexts ≤ start) (p : context_count < counted) (q : counted < updating_at) where
    pub with-number-contexts : contexts_in (with_number a counted start n) ≡ contexts_in a
    with-number-contexts =
        ap contexts_in number_is ∙
        contexts-same a (number_put a counted start n) (put_other a counted start n context_count (λ e. omega arith) (λ e. omega arith))
        (λ i k. (
          put_other a counted start n (numbers_from + i) (λ e. omega arith) (λ e. omega arith),
          put_other a counted start n (openers_from + i) (λ e. omega arith) (λ e. omega arith),
          put_other a counted start n (relations_from + i) (λ e. omega arith) (λ e. omega arith),
        ))

    pub with-number-target : target_in (with_number a counted start n) ≡ target_in a
    with-number-target =
        target-same a (with_number a counted start n) (with-number-other a counted start n updating_at (λ e. omega arith) (omega arith))
        (with-number-other a counted start n target_at (λ e. omega arith) (omega arith))

-- ---- one context more

module _ (a : List ℕ) (x : Context) where
  abbrev numbered : List ℕ
  numbered = set a (numbers_from + contexts_held a) x.number.0

  abbrev opened : List ℕ
  opened = set numbered (openers_from + contexts_held a) x.opener

  abbrev related : List ℕ
  related = set opened (relations_from + contexts_held a) x.relation

  abbrev context_put : List ℕ
  context_put = set related context_count (contexts_held a + 1)

  numbered-length : length numbered ≡ length a
  numbered-length = length-set a (numbers_from + contexts_held a) x.number.0

  opened-length : length opened ≡ length a
  opened-length = length-set numbered (openers_from + contexts_held a) x.opener ∙ numbered-length

  related-length : length related ≡ length a
  related-length = length-set opened (relations_from + contexts_held a) x.relation ∙ opened-length

  module _ (j : ℕ) where
    not-related : j ≢ context_count → j ≢ relations_from + contexts_held a → Same opened context_put j
    not-related p q =
        get_or-set_other related context_count j (contexts_held a + 1) 0 p ∙
        get_or-set_other opened (relations_from + contexts_held a) j x.relation 0 q

    not_opened : j ≢ openers_from + contexts_held a → Same numbered opened j
    not_opened p = get_or-set_other numbered (openers_from + contexts_held a) j x.opener 0 p

    context-other :
        j ≢ context_count → j ≢ numbers_from + contexts_held a → j ≢ openers_from + contexts_held a → j ≢ relations_from + contexts_held a
        → Same a context_put j
    context-other p q r s =
        not-related p s ∙ not_opened r ∙ get_or-set_other a (numbers_from + contexts_held a) j x.number.0 0 q

  pub with-context-length : length (with_context a x) ≡ length a
  with-context-length =
      chosen (λ b. length b ≡ length a) (ltb (contexts_held a) max_contexts)
      (length-set related context_count (contexts_held a + 1) ∙ related-length) refl

  -- another column before the lists
  pub with-context-other : (j : ℕ) → j ≢ context_count → j < numbers_from → Same a (with_context a x) j
  with-context-other j p q =
      chosen (λ b. Same a b j) (ltb (contexts_held a) max_contexts)
      (context-other j p (λ e. omega arith) (λ e. omega arith) (λ e. omega arith)) refl

  module _ (whole : length a ≡ scope_numbers) (h : contexts_held a < max_contexts) where
    put-held : contexts_held context_put ≡ contexts_held a + 1
    put-held =
        let l : context_count < length related = omega (arith, related-length) in
        get_or-set_same related context_count (contexts_held a + 1) 0 l

    put-number-at : get_or context_put (numbers_from + contexts_held a) 0 ≡ x.number.0
    put-number-at =
        not-related (numbers_from + contexts_held a) (λ e. omega arith) (λ e. omega arith) ∙
        not_opened (numbers_from + contexts_held a) (λ e. omega arith) ∙
        get_or-set_same a (numbers_from + contexts_held a) x.number.0 0 (omega arith)

    put-opener-at : get_or context_put (openers_from + contexts_held a) 0 ≡ x.opener
    put-opener-at =
        let l : openers_from + contexts_held a < length numbered = omega (arith, numbered-length) in
        not-related (openers_from + contexts_held a) (λ e. omega arith) (λ e. omega arith) ∙
        get_or-set_same numbered (openers_from + contexts_held a) x.opener 0 l

    put-relation-at : get_or context_put (relations_from + contexts_held a) 0 ≡ x.relation
    put-relation-at =
        let l : relations_from + contexts_held a < length opened = omega (arith, opened-length) in
        get_or-set_other related context_count (relations_from + contexts_held a) (contexts_held a + 1) 0 (λ e. omega arith) ∙
        get_or-set_same opened (relations_from + contexts_held a) x.relation 0 l

    put-context : context_in context_put (contexts_held a) ≡ x
    put-context = rw (put-number-at, put-opener-at, put-relation-at)

    put-before : (i : ℕ) → i < contexts_held a → SameContext a context_put i
    put-before i k = (
      context-other (numbers_from + i) (λ e. omega arith) (λ e. omega arith) (λ e. omega arith) (λ e. omega arith),
      context-other (openers_from + i) (λ e. omega arith) (λ e. omega arith) (λ e. omega arith) (λ e. omega arith),
      context-other (relations_from + i) (λ e. omega arith) (λ e. omega arith) (λ e. omega arith) (λ e. omega arith),
    )

    context-put : contexts_in context_put ≡ contexts_in a ++ (x ∷ [])
    context-put =
        let z : 0 + contexts_held a ≡ contexts_held a = omega arith in
        ap (λ c. take c (each_from (context_in context_put) 0 max_contexts)) put-held ∙
        each_more (context_in a) (context_in context_put) 0 max_contexts (contexts_held a) h
        (λ i k l. context-same a context_put i (put-before i (omega arith))) ∙
        ap (λ y. contexts_in a ++ (y ∷ [])) (ap (context_in context_put) z ∙ put-context)

    context_is : with_context a x ≡ context_put
    context_is = rw (lt-ltb (contexts_held a) max_contexts h)

    pub with-context-count : contexts_held (with_context a x) ≡ contexts_held a + 1
    with-context-count = ap contexts_held context_is ∙ put-held

    pub with-context : contexts_in (with_context a x) ≡ contexts_in a ++ (x ∷ [])
    with-context = ap contexts_in context_is ∙ context-put

    pub with-context-numbers :
        (counted start : ℕ) → context_count < counted → counted < numbers_from → openers_from + max_contexts ≤ start
        → start + max_depth ≤ relations_from → numbers_at (with_context a x) counted start ≡ numbers_at a counted start
    with-context-numbers counted start p q r s =
        ap (λ b. numbers_at b counted start) context_is ∙
        numbers-same a context_put counted start
        (context-other counted (λ e. omega arith) (λ e. omega arith) (λ e. omega arith) (λ e. omega arith))
        (λ j k l. context-other j (λ e. omega arith) (λ e. omega arith) (λ e. omega arith) (λ e. omega arith))

  pub with-context-target : target_in (with_context a x) ≡ target_in a
  with-context-target =
      target-same a (with_context a x) (with-context-other updating_at (λ e. omega arith) (omega arith))
      (with-context-other target_at (λ e. omega arith) (omega arith))

-- ---- the nearest store or modify

module _ (a : List ℕ) (n : ℕ) where
  pub with-target-length : length (with_target a n) ≡ length a
  with-target-length = length-set (set a updating_at 1) target_at n ∙ length-set a updating_at 1

  pub with-target-other : (j : ℕ) → j ≢ updating_at → j ≢ target_at → Same a (with_target a n) j
  with-target-other j p q = get_or-set_other (set a updating_at 1) target_at j n 0 q ∙ get_or-set_other a updating_at j 1 0 p

  pub target-put : length a ≡ scope_numbers → target_in (with_target a n) ≡ some n
  target-put whole =
      let l : target_at < length (set a updating_at 1) = omega (arith, length-set a updating_at 1) in
      let e : get_or (with_target a n) updating_at 0 ≡ 1 =
      get_or-set_other (set a updating_at 1) target_at updating_at n 0 (λ e. omega arith) ∙ get_or-set_same a updating_at 1 0 (omega arith) in
      rw (e, get_or-set_same (set a updating_at 1) target_at n 0 l)

  pub with-target-all : contexts_in (with_target a n) ≡ contexts_in a
  with-target-all =
      contexts-same a (with_target a n) (with-target-other context_count (λ e. omega arith) (λ e. omega arith))
      (λ i k. (
        with-target-other (numbers_from + i) (λ e. omega arith) (λ e. omega arith),
        with-target-other (openers_from + i) (λ e. omega arith) (λ e. omega arith),
        with-target-other (relations_from + i) (λ e. omega arith) (λ e. omega arith),
      ))

  pub with-target-numbers : (counted start : ℕ) → counted < updating_at → target_at < start
      → numbers_at (with_target a n) counted start ≡ numbers_at a counted start
  with-target-numbers counted start p q =
      numbers-same a (with_target a n) counted start (with-target-other counted (λ e. omega arith) (λ e. omega arith))
      (λ j k l. with-target-other j (λ e. omega arith) (λ e. omega arith))
