-- The boolean that a statement's row names is the condition of that number, and the row of an assignment tells where its from-value stands.
use Prim.Native.Nat.{ℕ, zero, suc, ◌+◌, ◌-◌, ◌*◌, ◌≤◌}
use mathlib.Core.Path.{◌≡◌, refl, sym, ap, ap₂, ◌∙◌, subst}
use mathlib.Core.List.{List, [], ◌∷◌, ◌++◌, append_assoc}
use mathlib.Core.Option.{Option, some}
use native.Mathlib.Nat.{zero-add, add-zero, suc-add, add_assoc}
use native.Mathlib.Omega.{arith}
use lib.ListN.{length, get_or, get_elem?, length-append}
use Rattle.wire.specs.Codes as blr
use Rattle.wire.specs.Words.{byte_at}
use Rattle.dictionary.specs.Dictionary.{Relation}
use Rattle.grammar.specs.Tree.{Heading, loop, modify, handler, receive, send, store, label, Statement, assignment, begin, erase, for, headed, leave, if, if_else, select, Statements, none as nothing, ◌then◌, Receives, last, more, Request}
use Rattle.grammar.specs.Bytes.{rse_bytes, heading_bytes, boolean_bytes, statement_bytes}
use Rattle.grammar.specs.Environment.{Scope, outermost, under_rse, under_heading}
use Rattle.grammar.specs.Sizes.{rse_booleans, own_conditions, statement_count, condition_count}
use Rattle.grammar.specs.Rows.{size, boolean_number, rows_below, statement_rows, statements_rows, receives_rows, statements_start, request_statement_rows}
use Rattle.grammar.specs.Conditions.{Condition, condition, rse_conditions, conditions, statements_conditions, receives_conditions, request_conditions}
use Rattle.grammar.specs.Named.{Own, own, own_booleans, own_value, owns_below, owns_of, receives_owns, request_owns, row_place, row_code, row_boolean, Named, from_of, from_value, FromTold}
use Rattle.grammar.proofs.FewConditions.{rse-count, conditions-count}

-- ---- rows tell the places of statements and the numbers of their booleans, before which k have a number

abbrev Told : List Own → ℕ → List ℕ → Type 0
Told [] k rows = rows ≡ []
Told (o ∷ os) k rows =
    (a : ℕ) × (b : ℕ) × (c : ℕ) × (rest : List ℕ) ×
    (rows ≡ o.place ∷ a ∷ b ∷ c ∷ boolean_number (length o.conditions) k ∷ rest) × Told os (k + length o.conditions) rest ×
    FromTold o.from o.place a

-- the conditions of all
abbrev pub all_own : List Own → List Condition
all_own [] = []
all_own (o ∷ os) = o.conditions ++ all_own os

all_append : (a b : List Own) → all_own (a ++ b) ≡ all_own a ++ all_own b
all_append [] b = refl
all_append (o ∷ a) b = ap (λ z. o.conditions ++ z) (all_append a b) ∙ sym (append_assoc o.conditions (all_own a) (all_own b))

told-append : (a b : List Own) (k j : ℕ) (rows rows' : List ℕ) → j ≡ k + length (all_own a) → Told a k rows → Told b j rows' →
    Told (a ++ b) k (rows ++ rows')
told-append [] b k j rows rows' e t u = let same : j ≡ k = e ∙ add-zero k in rw t (subst (λ z. Told b z rows') same u)
told-append (o ∷ a) b k j rows rows' e t u = (
  t.0,
  t.1,
  t.2,
  t.3 ++ rows',
  rw t.4,
  told-append a b (k + length o.conditions) j t.3 rows'
      (e ∙ ap (λ z. k + z) (length-append o.conditions (all_own a)) ∙ sym (add_assoc k (length o.conditions) (length (all_own a)))) t.5 u,
  t.6,
)

module _ (d : List Relation) where
  own-count : (sc : Scope) (t : Statement) (p : ℕ) → length (own_booleans d sc t p) ≡ own_conditions t
  unfolding own_booleans own_conditions
  own-count sc (assignment v t) p = refl
  own-count sc (begin ss) p = refl
  own-count sc (erase c) p = refl
  own-count sc (for r s) p = rse-count d sc r (p + 1)
  own-count sc (headed h s) p = refl
  own-count sc (leave n) p = refl
  own-count sc (if b s) p = refl
  own-count sc (if_else b s t) p = refl
  own-count sc (select rs) p = refl

  -- the conditions in reading order are the statements' own
  mutual
    unfolding own_booleans owns_below owns_of receives_owns conditions statements_conditions receives_conditions

    all_own_lem : (sc : Scope) (t : Statement) (p : ℕ) → own_booleans d sc t p ++ all_own (owns_below d sc t p) ≡ conditions d sc t p
    all_own_lem sc (assignment v t) p = refl
    all_own_lem sc (begin ss) p = all-owns sc ss (p + 1)
    all_own_lem sc (erase c) p = refl
    all_own_lem sc (for r s) p = ap (λ z. rse_conditions d sc r (p + 1) ++ z) (all_own_lem (under_rse d sc r) s (p + 1 + length (rse_bytes r)))
    all_own_lem sc (headed h s) p = all_own_lem (under_heading d sc h) s (p + length (heading_bytes h))
    all_own_lem sc (leave n) p = refl
    all_own_lem sc (if b s) p = ap (λ z. condition sc b (p + 1) ++ z) (all_own_lem sc s (p + 1 + length (boolean_bytes b)))
    all_own_lem sc (if_else b s t) p =
        let q = p + 1 + length (boolean_bytes b) in
        ap (λ z. condition sc b (p + 1) ++ z) (all_append (own d sc s q ∷ owns_below d sc s q) _ ∙
        ap₂ (λ x y. x ++ y) (all_own_lem sc s q) (all_own_lem sc t (q + size s)))
    all_own_lem sc (select rs) p = all-received sc rs (p + 1)

    pub all-owns : (sc : Scope) (ts : Statements) (p : ℕ) → all_own (owns_of d sc ts p) ≡ statements_conditions d sc ts p
    all-owns sc nothing p = refl
    all-owns sc (t then ts) p =
        all_append (own d sc t p ∷ owns_below d sc t p) _ ∙ ap₂ (λ x y. x ++ y) (all_own_lem sc t p) (all-owns sc ts (p + size t))

    all-received : (sc : Scope) (rs : Receives) (p : ℕ) → all_own (receives_owns d sc rs p) ≡ receives_conditions d sc rs p
    all-received sc (last m s) p = all_own_lem sc s (p + 2)
    all-received sc (more m s rs) p =
        all_append (own d sc s (p + 2) ∷ owns_below d sc s (p + 2)) _ ∙
        ap₂ (λ x y. x ++ y) (all_own_lem sc s (p + 2)) (all-received sc rs (p + 2 + size s))

  -- after a statement, as many conditions have a number as it has
  after_one : (sc : Scope) (t : Statement) (p k : ℕ) →
      k + condition_count t ≡ k + length (all_own (own d sc t p ∷ owns_below d sc t p))
  after_one sc t p k = ap (λ z. k + z) (sym (ap length (all_own_lem sc t p) ∙ conditions-count d sc t p))

  -- the code of a statement tells whether it has a from-value
  own-told : (sc : Scope) (t : Statement) (p : ℕ) → FromTold (own_value sc t p) p (byte_at (statement_bytes t) 0)
  unfolding own_value statement_bytes heading_bytes
  own-told sc (assignment v t) p = (refl, refl)
  own-told sc (begin ss) p = λ e. omega arith
  own-told sc (erase c) p = λ e. omega arith
  own-told sc (for r s) p = λ e. omega arith
  own-told sc (headed h s) p = heading-told h
    where
      heading-told : (h : Heading) → byte_at (heading_bytes h ++ statement_bytes s) 0 ≡ blr.assignment → ⊥
      heading-told loop e = omega arith
      heading-told (modify from to) e = omega arith
      heading-told handler e = omega arith
      heading-told (receive m) e = omega arith
      heading-told (send m) e = omega arith
      heading-told (store x) e = omega arith
      heading-told (label n) e = omega arith
  own-told sc (leave n) p = λ e. omega arith
  own-told sc (if b s) p = λ e. omega arith
  own-told sc (if_else b s t) p = λ e. omega arith
  own-told sc (select rs) p = λ e. omega arith

  -- the row of a statement, above those of the statements inside it
  told-one : (sc : Scope) (t : Statement) (p n parent k : ℕ) → Told (owns_below d sc t p) (k + own_conditions t) (rows_below t p (n + 1) k) →
      Told (own d sc t p ∷ owns_below d sc t p) k (statement_rows t p n parent k)
  told-one sc t p n parent k u = (
    byte_at (statement_bytes t) 0,
    parent,
    p + size t,
    rows_below t p (n + 1) k,
    rw (own-count sc t p) refl,
    rw (own-count sc t p) u,
    own-told sc t p,
  )

  -- the rows tell them
  mutual
    unfolding owns_below owns_of receives_owns own_conditions rows_below statements_rows receives_rows

    told_below : (sc : Scope) (t : Statement) (p n k : ℕ) → Told (owns_below d sc t p) (k + own_conditions t) (rows_below t p n k)
    told_below sc (assignment v t) p n k = refl
    told_below sc (begin ss) p n k = rw (add-zero k) (told-all sc ss (p + 1) n n k)
    told_below sc (erase c) p n k = refl
    told_below sc (for r s) p n k = told-one (under_rse d sc r) s (p + 1 + length (rse_bytes r)) n n (k + rse_booleans r) (told_below (under_rse d sc r) s (p + 1 + length (rse_bytes r)) (n + 1) (k + rse_booleans r))
    told_below sc (headed h s) p n k = rw (add-zero k) (told-one (under_heading d sc h) s (p + length (heading_bytes h)) n n k (told_below (under_heading d sc h) s (p + length (heading_bytes h)) (n + 1) k))
    told_below sc (leave m) p n k = refl
    told_below sc (if b s) p n k = told-one sc s (p + 1 + length (boolean_bytes b)) n n (k + 1) (told_below sc s (p + 1 + length (boolean_bytes b)) (n + 1) (k + 1))
    told_below sc (if_else b s t) p n k =
        let q = p + 1 + length (boolean_bytes b) in
        told-append (own d sc s q ∷ owns_below d sc s q) _ (k + 1) (k + 1 + condition_count s) (statement_rows s q n n (k + 1))
        (statement_rows t (q + size s) (n + statement_count s) n (k + 1 + condition_count s)) (after_one sc s q (k + 1))
        (told-one sc s q n n (k + 1) (told_below sc s q (n + 1) (k + 1))) (told-one sc t (q + size s) (n + statement_count s) n (k + 1 + condition_count s) (told_below sc t (q + size s) (n + statement_count s + 1) (k + 1 + condition_count s)))
    told_below sc (select rs) p n k = rw (add-zero k) (told-received sc rs (p + 1) n n k)

    told-all : (sc : Scope) (ts : Statements) (p n parent k : ℕ) → Told (owns_of d sc ts p) k (statements_rows ts p n parent k)
    told-all sc nothing p n parent k = refl
    told-all sc (t then ts) p n parent k =
        told-append (own d sc t p ∷ owns_below d sc t p) _ k (k + condition_count t) (statement_rows t p n parent k)
        (statements_rows ts (p + size t) (n + statement_count t) parent (k + condition_count t)) (after_one sc t p k) (told-one sc t p n parent k (told_below sc t p (n + 1) k))
        (told-all sc ts (p + size t) (n + statement_count t) parent (k + condition_count t))

    told-received : (sc : Scope) (rs : Receives) (p n parent k : ℕ) → Told (receives_owns d sc rs p) k (receives_rows rs p n parent k)
    told-received sc (last m s) p n parent k = (_, _, _, _, refl, rw (add-zero k) (told-one sc s (p + 2) (n + 1) (n + 1) k (told_below sc s (p + 2) (n + 1 + 1) k)), λ e. omega arith)
    told-received sc (more m s rs) p n parent k = (
      _,
      _,
      _,
      _,
      refl,
      rw (add-zero k)
          (told-append (own d sc s (p + 2) ∷ owns_below d sc s (p + 2)) _ k (k + condition_count s)
          (statement_rows s (p + 2) (n + 1) (n + 1) k) (receives_rows rs (p + 2 + size s) (n + 1 + statement_count s) parent (k + condition_count s))
          (after_one sc s (p + 2) k)
          (told-one sc s (p + 2) (n + 1) (n + 1) k (told_below sc s (p + 2) (n + 1 + 1) k))
          (told-received sc rs (p + 2 + size s) (n + 1 + statement_count s) parent (k + condition_count s))),
      λ e. omega arith,
    )

  -- ---- a row's fifth number

  skip : (a b : List Condition) (m : ℕ) → get_elem? (a ++ b) (length a + m) ≡ get_elem? b m
  skip [] b m = rw (zero-add m)
  skip (x ∷ a) b m = rw (suc-add (length a) m) (skip a b m)

  -- what a row with the number n + 1 tells
  record Tells (os : List Own) (k : ℕ) (rows : List ℕ) (i n : ℕ) : Type 0 where
    statement : Own
    condition : Condition
    rest : List Condition
    stands : get_elem? os i ≡ some statement
    place : get_or rows (i * 5) 0 ≡ statement.place
    has : statement.conditions ≡ condition ∷ rest
    many : k ≤ n
    numbered : get_elem? (all_own os) (n - k) ≡ some condition

  tells : (os : List Own) (k : ℕ) (rows : List ℕ) → Told os k rows → (i n : ℕ) → get_or rows (i * 5 + 4) 0 ≡ suc n → Tells os k rows i n
  tells [] k rows t i n e = let none : 0 ≡ suc n = ap (λ z. get_or z (i * 5 + 4) 0) (sym t) ∙ e in absurd (omega arith)
  tells (o ∷ os) k rows t zero n e = first o.conditions refl
    where
      first : (cs : List Condition) → o.conditions ≡ cs → Tells (o ∷ os) k rows zero n
      first [] h =
          let none : 0 ≡ suc n = rw (t.4, h) at e in absurd (omega arith)
      first (x ∷ cs) h =
          let same : k + 1 ≡ suc n = rw (t.4, h) at e in
          let start : n - k ≡ 0 = omega arith in
          record {
            statement = o;
            condition = x;
            rest = cs;
            stands = refl;
            place = rw t.4;
            has = h;
            many = omega arith;
            numbered = rw (start, h);
          }
  tells (o ∷ os) k rows t (suc i) n e =
      let five : (suc i) * 5 ≡ suc (suc (suc (suc (suc (i * 5))))) = omega arith in
      let nine : (suc i) * 5 + 4 ≡ suc (suc (suc (suc (suc (i * 5 + 4))))) = omega arith in
      let l = o.conditions in
      let row = o.place ∷ t.0 ∷ t.1 ∷ t.2 ∷ boolean_number (length l) k ∷ t.3 in
      let there : get_or row (suc i * 5) 0 ≡ get_or t.3 (i * 5) 0 = ap (λ j. get_or row j 0) five in
      let u = tells os (k + length l) t.3 t.5 i n (rw (t.4, nine) at e) in
      let on : n - k ≡ length l + (n - (k + length l)) = omega (arith, u.many) in
      record {
        statement = u.statement;
        condition = u.condition;
        rest = u.rest;
        stands = u.stands;
        place = ap (λ z. get_or z (suc i * 5) 0) t.4 ∙ (there ∙ u.place);
        has = u.has;
        many = omega (arith, u.many);
        numbered = rw (on, skip l (all_own os) (n - (k + length l))) u.numbered;
      }

  request-told : (r : Request) → Told (request_owns d r) 0 (request_statement_rows r)
  unfolding request_owns request_statement_rows
  request-told r = (_, _, _, _, refl, told-all outermost r.statements (statements_start r) 1 1 0, λ e. omega arith)

  -- 02, No. 7: the boolean that row k names is the condition of that number
  pub row-names : (r : Request) (k n : ℕ) → row_boolean r k ≡ suc n → Named d r k n
  unfolding request_owns request_statement_rows request_conditions
  row-names r k n e =
      let told = request-told r in
      let u = tells (request_owns d r) 0 (request_statement_rows r) told k n e in
      let same : n - 0 ≡ n = omega arith in
      record {
        statement = u.statement;
        condition = u.condition;
        rest = u.rest;
        stands = u.stands;
        place = u.place;
        has = u.has;
        numbered = ap (λ z. get_elem? (request_conditions d r) z) (sym same) ∙
            ap (λ z. get_elem? z (n - 0)) (sym (all-owns outermost r.statements (statements_start r))) ∙ u.numbered;
      }

  -- ---- a row's first two numbers

  from_told : (os : List Own) (k : ℕ) (rows : List ℕ) → Told os k rows → (i : ℕ) →
      FromTold (from_of (get_elem? os i)) (get_or rows (i * 5) 0) (get_or rows (i * 5 + 1) 0)
  from_told [] k rows t i = λ e. let zeros : ◌≡◌ {A = ℕ} 0 1 = ap (λ z. get_or z (i * 5 + 1) 0) (sym t) ∙ e in omega arith
  from_told (o ∷ os) k rows t zero = rw t.4 t.6
  from_told (o ∷ os) k rows t (suc i) =
      let five : (suc i) * 5 ≡ suc (suc (suc (suc (suc (i * 5))))) = omega arith in
      let six : suc (suc (suc (suc (suc (i * 5))))) + 1 ≡ suc (suc (suc (suc (suc (i * 5 + 1))))) = omega arith in
      rw (t.4, five, six) (from_told os (k + length o.conditions) t.3 t.5 i)

  -- 02, No. 9: "An assignment's from-value can be asked for by its row (from 0)"
  pub row-values : (r : Request) (k : ℕ) → FromTold (from_value d r k) (row_place r k) (row_code r k)
  unfolding from_value
  row-values r k = from_told (request_owns d r) 0 (request_statement_rows r) (request-told r) k
