-- What a pass and a scan do over a part of the bytes of a condition or a from-value: both go on to its end, and the scan writes rows, or
-- closes the row of an rse.
use Prim.Native.Nat.{ℕ, zero, suc, ◌+◌, ◌*◌, ◌-◌, ◌<◌, ◌≤◌}
use mathlib.Core.Path.{◌≡◌, refl, sym, ap, subst, ◌∙◌}
use mathlib.Core.Bool.{Bool, true, false, cond}
use mathlib.Core.List.{List, [], ◌∷◌, ◌++◌}
use mathlib.Core.Option.{Option, none, some}
use native.Mathlib.Omega.{arith}
use borrow.Author.Tests.{eq-eqb, ne_eqb, lt-ltb}
use lib.Dec.{eqb}
use lib.ListN.{length, get_or, set, length-append, length-set}
use lib.Seq.{sets, length-sets, set-get_or, get_or-set_same, get_or-set_other}
use Rattle.wire.specs.Words.{byte_at}
use Rattle.surroundings.specs.Slots.{place_or}
use Rattle.surroundings.specs.Bindings.{Binding, binding_row, binding_rows, cell}
use Rattle.surroundings.proofs.BindingRows.{rows-count, rows_join}
use Rattle.runs.specs.declared.forms.Form.TheVariants.{Plain, Sort, Open, Such, Close}
use Rattle.runs.specs.Forms.{form_of}
use Rattle.runs.specs.Passes.{after_stream, pass_at, pass_by, passed, passes, passed_by}
use Rattle.runs.specs.Steps.{opened_at, opened_here, such_noted, closed_row, step_by, stepped, steps}
use Rattle.runs.proofs.Stores.{sets-append, set-sets, set-in, before-run, in-run}
use Rattle.runs.proofs.Leads.{Leads, stay, onward, ends, reaches, seen, once, pass-once, pass-rests}

-- ---- rows

-- rows after rows
rows-after : (xs ys : List Binding) (t : List ℕ) (r : ℕ) →
    sets (sets t (r * 10) (binding_rows xs)) ((r + length xs) * 10) (binding_rows ys) ≡ sets t (r * 10) (binding_rows (xs ++ ys))
rows-after xs ys t r =
    let z : (r + length xs) * 10 ≡ r * 10 + length (binding_rows xs) = omega (arith, rows-count xs) in
    ap (λ k. sets (sets t (r * 10) (binding_rows xs)) k (binding_rows ys)) z ∙ sym (sets-append (binding_rows xs) (binding_rows ys) t (r * 10))
    ∙ ap (sets t (r * 10)) (sym (rows_join xs ys))

-- ---- the row of an rse while it is open

-- the place of its condition, if there is one
abbrev pub noted : List ℕ → ℕ → Option ℕ → List ℕ
noted t row none = t
noted t row (some p) = such_noted t row p

noted-length : (t : List ℕ) (row p : ℕ) → length (such_noted t row p) ≡ length t
noted-length t row p = by (eqb (cell t row 4) 0)
  where
    by : (b : Bool) → length (cond b (set t (row * 10 + 4) p) t) ≡ length t
    by true = length-set t (row * 10 + 4) p
    by false = refl

-- it is noted once
noted-once : (t : List ℕ) (row : ℕ) (o : Option ℕ) → 0 < cell t row 4 → noted t row o ≡ t
noted-once t row none h = refl
noted-once t row (some p) h = rw (ne_eqb (cell t row 4) 0 (omega arith))

noted-there : (t : List ℕ) (row p : ℕ) → 0 < p → row * 10 + 10 ≤ length t → 0 < cell (such_noted t row p) row 4
noted-there t row p h m = by (cell t row 4) refl
  where
    by : (n : ℕ) → cell t row 4 ≡ n → 0 < cell (cond (eqb n 0) (set t (row * 10 + 4) p) t) row 4
    by zero e = let q = get_or-set_same t (row * 10 + 4) p 0 (omega arith) in omega (arith, q)
    by (suc n) e = rw (ne_eqb (suc n) 0 (omega arith)) (omega (arith, e))

-- and the end's number is as it was
noted-end : (t : List ℕ) (row p : ℕ) → cell (such_noted t row p) row 5 ≡ cell t row 5
noted-end t row p = by (eqb (cell t row 4) 0)
  where
    by : (b : Bool) → cell (cond b (set t (row * 10 + 4) p) t) row 5 ≡ cell t row 5
    by true = get_or-set_other t (row * 10 + 4) (row * 10 + 5) p 0 (omega arith)
    by false = refl

-- in a row that has none
noted_in : (row t : List ℕ) (r : ℕ) (o : Option ℕ) → length row ≡ 10 → get_or row 4 0 ≡ 0 → r * 10 + 10 ≤ length t →
    noted (sets t (r * 10) row) r o ≡ sets t (r * 10) (set row 4 (place_or o))
noted_in row t r none l z m = ap (sets t (r * 10)) (sym (ap (set row 4) (sym z) ∙ set-get_or row 4 0))
noted_in row t r (some p) l z m =
    rw (eq-eqb (cell (sets t (r * 10) row) r 4) 0 (in-run row t (r * 10) 4 (omega (arith, l)) (omega (arith, l)) ∙ z))
    (set-in row t (r * 10) 4 p (omega (arith, l)))

-- the end of a row with rows after it
close-in : (s row rest t : List ℕ) (r q : ℕ) → length row ≡ 10 → r * 10 + 10 ≤ length t →
    closed_row s (sets (sets t (r * 10) row) ((r + 1) * 10) rest) r q ≡
    sets t (r * 10) (set (set row 5 (passed_by s q (get_or row 8 0))) 8 q ++ rest)
close-in s row rest t r q l m =
    let e = passed_by s q (get_or row 8 0) in
    let row5 = set row 5 e in
    let l5 = length-set row 5 e in
    let l8 = length-set row5 8 q in
    let z : (r + 1) * 10 ≡ r * 10 + length (set row5 8 q) = omega (arith, l, l5, l8) in
    let n : cell (sets (sets t (r * 10) row) ((r + 1) * 10) rest) r 8 ≡ get_or row 8 0 =
    before-run rest (sets t (r * 10) row) ((r + 1) * 10) (r * 10 + 8) (omega arith)
    ∙ in-run row t (r * 10) 8 (omega (arith, l)) (omega (arith, l, m)) in
    let a : set (sets (sets t (r * 10) row) ((r + 1) * 10) rest) (r * 10 + 5) e ≡ sets (sets t (r * 10) row5) ((r + 1) * 10) rest =
    set-sets rest (sets t (r * 10) row) (r * 10 + 5) ((r + 1) * 10) e (omega arith)
    ∙ ap (λ k. sets k ((r + 1) * 10) rest) (set-in row t (r * 10) 5 e (omega (arith, l))) in
    ap (λ k. set (set (sets (sets t (r * 10) row) ((r + 1) * 10) rest) (r * 10 + 5) (passed_by s q k)) (r * 10 + 8) q) n
    ∙ ap (λ k. set k (r * 10 + 8) q) a
    ∙ set-sets rest (sets t (r * 10) row5) (r * 10 + 8) ((r + 1) * 10) q (omega arith)
    ∙ ap (λ k. sets k ((r + 1) * 10) rest) (set-in row5 t (r * 10) 8 q (omega (arith, l, l5)))
    ∙ ap (λ k. sets (sets t (r * 10) (set row5 8 q)) k rest) z ∙ sym (sets-append (set row5 8 q) rest t (r * 10))

seen-eq : (p q k r u w v : ℕ) (t l : List ℕ) → p ≡ q → r ≡ u → w ≡ v → t ≡ l → seen p k r w t ≡ seen q k u v l
seen-eq p q k r u w v t l a b c e =
    ap (λ z. seen z k r w t) a ∙ ap (λ z. seen q k z w t) b ∙ ap (λ z. seen q k u z t) c ∙ ap (λ z. seen q k u v z) e

-- the row of a code at p, with the number of its context, its relation's entry, its condition if there is one, the place after its rse, and
-- that after all of it
abbrev pub row_of : ℕ → ℕ → ℕ → Option ℕ → ℕ → ℕ → Binding
row_of p number relation o after end =
    record {
      code = p;
      number = number;
      relation = relation;
      record-place = 0;
      such = place_or o;
      end = end;
      first = 0;
      count = 0;
      after = after;
      kind = 0;
    }

-- ---- a pass over parts

module _ (s : List ℕ) where
  -- m parts of n bytes from p on
  abbrev pub Passes : ℕ → ℕ → ℕ → Type 0
  Passes m p n = (j k : ℕ) → j ≡ m + k → Leads (passes s) (pass_at p j) (pass_at (p + n) k) n

  pub passes_none : (p : ℕ) → Passes 0 p 0
  passes_none p j k e =
      let z : j ≡ k = omega arith in
      let y : p ≡ p + 0 = omega arith in
      ends (passes s) (pass_at p j) (pass_at p j) _ 0 0 (stay (passes s) (pass_at p j)) (ap (pass_at p) z ∙ ap (λ q. pass_at q k) y) (omega arith)

  pub passes-both : (a b p m n : ℕ) → Passes a p m → Passes b (p + m) n → Passes (a + b) p (m + n)
  passes-both a b p m n f g j k e =
      let y : p + m + n ≡ p + (m + n) = omega arith in
      ends (passes s) (pass_at p j) (pass_at (p + m + n) k) _ (m + n) (m + n)
      (onward (passes s) (pass_at p j) (pass_at (p + m) (b + k)) _ m n (f j (b + k) (omega (arith, e))) (g (b + k) k refl))
      (ap (λ q. pass_at q k) y) (omega arith)

  -- a step that takes one part, and for which others are due
  pub passes-moved : (p q m n : ℕ) → ((j : ℕ) → passed s (pass_at p j) ≡ pass_at (p + q) (j - 1 + m)) → 0 < q → Passes m (p + q) n →
      Passes 1 p (q + n)
  passes-moved p q m n f z g j k e =
      let y : p + q + n ≡ p + (q + n) = omega arith in
      ends (passes s) (pass_at p j) (pass_at (p + q + n) k) _ (1 + n) (q + n)
      (onward (passes s) (pass_at p j) (pass_at (p + q) (j - 1 + m)) _ 1 n (pass-once s p j _ (omega (arith, e)) (f j))
      (g (j - 1 + m) k (omega (arith, e))))
      (ap (λ x. pass_at x k) y) (omega (arith, z))

  -- the place after them
  pub passed-by : (m p n : ℕ) → Passes m p n → n ≤ length s → passed_by s p m ≡ p + n
  unfolding passed_by
  passed-by m p n f l =
      ap (λ x. x.place) (reaches (passes s) (pass_at p m) (pass_at (p + n) 0) (length s) n (f m 0 (omega arith)) l (pass-rests s (p + n)))

-- ---- a scan over parts

module _ (d s : List ℕ) where
  -- m parts of n bytes from p on, whose rows are written
  abbrev pub Writes : ℕ → ℕ → ℕ → List Binding → Type 0
  Writes m p n bs =
      (j k r w : ℕ) (t : List ℕ) → j ≡ m + k → r + length bs ≤ 32 → 320 ≤ length t →
      Leads (steps d s) (seen p j r w t) (seen (p + n) k (r + length bs) w (sets t (r * 10) (binding_rows bs))) n

  -- the clauses of an rse with their 255: the place of a condition is noted in the row, rows are written, and the row gets its end
  abbrev pub Closes : ℕ → ℕ → Option ℕ → List Binding → Type 0
  Closes p n o bs =
      (j k r v : ℕ) (t : List ℕ) → j ≡ 1 + k → v < r → r + length bs ≤ 32 → 320 ≤ length t →
      Leads (steps d s) (seen p j r v t)
      (seen (p + n) k (r + length bs) (cell t v 5) (closed_row s (sets (noted t v o) (r * 10) (binding_rows bs)) v (p + n))) n

  pub writes-none : (p : ℕ) → Writes 0 p 0 []
  unfolding binding_rows
  writes-none p j k r w t e h m =
      let z : j ≡ k = omega arith in
      let y : p ≡ p + 0 = omega arith in
      let x : r ≡ r + 0 = omega arith in
      ends (steps d s) (seen p j r w t) (seen p j r w t) _ 0 0 (stay (steps d s) (seen p j r w t))
      (ap (λ q. seen p q r w t) z ∙ seen-eq p (p + 0) k r (r + 0) w w t t y x refl refl) (omega arith)

  pub writes-both : (a b p m n : ℕ) (xs ys : List Binding) → Writes a p m xs → Writes b (p + m) n ys → Writes (a + b) p (m + n) (xs ++ ys)
  writes-both a b p m n xs ys f g j k r w t e h l =
      let c = length-append xs ys in
      let u = sets t (r * 10) (binding_rows xs) in
      let y : p + m + n ≡ p + (m + n) = omega arith in
      let x : r + length xs + length ys ≡ r + length (xs ++ ys) = omega (arith, c) in
      let o = length-sets t (r * 10) (binding_rows xs) in
      ends (steps d s) (seen p j r w t) (seen (p + m + n) k (r + length xs + length ys) w (sets u ((r + length xs) * 10) (binding_rows ys))) _ (m + n) (m + n)
      (onward (steps d s) (seen p j r w t) (seen (p + m) (b + k) (r + length xs) w u) _ m n
      (f j (b + k) r w t (omega (arith, e)) (omega (arith, h, c)) l)
      (g (b + k) k (r + length xs) w u refl (omega (arith, h, c)) (omega (arith, o, l))))
      (seen-eq (p + m + n) (p + (m + n)) k _ _ w w _ _ y x refl (rows-after xs ys t r)) (omega arith)

  -- the same with another number of bytes
  pub writes_as : (m p n q : ℕ) (bs : List Binding) → Writes m p n bs → n ≡ q → Writes m p q bs
  writes_as m p n q bs f e = subst (λ z. Writes m p z bs) e f

  -- a step that takes one part, and for which others are due
  pub writes-moved : (p q m n : ℕ) (bs : List Binding) →
      ((j r w : ℕ) (t : List ℕ) → stepped d s (seen p j r w t) ≡ seen (p + q) (j - 1 + m) r w t) → 0 < q →
      Writes m (p + q) n bs → Writes 1 p (q + n) bs
  writes-moved p q m n bs f z g j k r w t e h l =
      let y : p + q + n ≡ p + (q + n) = omega arith in
      ends (steps d s) (seen p j r w t) (seen (p + q + n) k (r + length bs) w (sets t (r * 10) (binding_rows bs))) _ (1 + n) (q + n)
      (onward (steps d s) (seen p j r w t) (seen (p + q) (j - 1 + m) r w t) _ 1 n
      (once d s p j r w t _ (omega (arith, e)) (f j r w t))
      (g (j - 1 + m) k r w t (omega (arith, e)) h l))
      (ap (λ x. seen x k (r + length bs) w (sets t (r * 10) (binding_rows bs))) y) (omega (arith, z))

  -- one that takes a part whole
  pub writes-leaf : (p n : ℕ) → ((j r w : ℕ) (t : List ℕ) → stepped d s (seen p j r w t) ≡ seen (p + n) (j - 1 + 0) r w t) → 0 < n →
      Writes 1 p n []
  writes-leaf p n f z = let e : n + 0 ≡ n = omega arith in writes_as 1 p (n + 0) n [] (writes-moved p n 0 0 [] f z (writes-none (p + n))) e

  pub writes-plain : (p q m n : ℕ) (bs : List Binding) → form_of (byte_at s p) ≡ Plain q m → 0 < q → Writes m (p + q) n bs → Writes 1 p (q + n) bs
  unfolding stepped step_by
  writes-plain p q m n bs e z g = writes-moved p q m n bs (λ j r w t. rw e) z g

  -- ---- clauses and rses

  -- the 255
  pub closes-end : (p : ℕ) → form_of (byte_at s p) ≡ Close → Closes p 1 none []
  unfolding stepped step_by binding_rows
  closes-end p e j k r v t f h m l =
      let z : j - 1 ≡ k = omega arith in
      let x : r ≡ r + 0 = omega arith in
      ends (steps d s) (seen p j r v t) (seen (p + 1) (j - 1) r (cell t v 5) (closed_row s t v (p + 1))) _ 1 1
      (once d s p j r v t _ (omega (arith, f)) (rw e))
      (ap (λ q. seen (p + 1) q r (cell t v 5) (closed_row s t v (p + 1))) z
      ∙ ap (λ q. seen (p + 1) k q (cell t v 5) (closed_row s t v (p + 1))) x) (omega arith)

  -- a condition, and what follows it
  pub closes-such : (p m n : ℕ) (o : Option ℕ) (xs ys : List Binding) → form_of (byte_at s p) ≡ Such → Writes 1 (p + 1) m xs →
      Closes (p + 1 + m) n o ys → Closes p (1 + m + n) (some (p + 1)) (xs ++ ys)
  unfolding stepped step_by
  closes-such p m n o xs ys e f g j k r v t i h l b =
      let c = length-append xs ys in
      let t1 = such_noted t v (p + 1) in
      let u = sets t1 (r * 10) (binding_rows xs) in
      let a1 = noted-length t v (p + 1) in
      let a2 = length-sets t1 (r * 10) (binding_rows xs) in
      let b1 : 320 ≤ length t1 = omega (arith, a1, b) in
      let b2 : 320 ≤ length u = omega (arith, a2, b1) in
      let y : p + 1 + m + n ≡ p + (1 + m + n) = omega arith in
      let x : r + length xs + length ys ≡ r + length (xs ++ ys) = omega (arith, c) in
      let there = noted-there t v (p + 1) (omega arith) (omega (arith, h, l, b)) in
      let still = before-run (binding_rows xs) t1 (r * 10) (v * 10 + 4) (omega (arith, h)) in
      let w : cell u v 5 ≡ cell t v 5 = before-run (binding_rows xs) t1 (r * 10) (v * 10 + 5) (omega (arith, h)) ∙ noted-end t v (p + 1) in
      let z : noted u v o ≡ u = noted-once u v o (omega (arith, there, still)) in
      ends (steps d s) (seen p j r v t)
      (seen (p + 1 + m + n) k (r + length xs + length ys) (cell u v 5)
      (closed_row s (sets (noted u v o) ((r + length xs) * 10) (binding_rows ys)) v (p + 1 + m + n)))
      _ (1 + (m + n)) (1 + m + n)
      (onward (steps d s) (seen p j r v t) (seen (p + 1) (j - 1 + 2) r v t1) _ 1 (m + n) (once d s p j r v t _ (omega (arith, i)) (rw e))
      (onward (steps d s) (seen (p + 1) (j - 1 + 2) r v t1) (seen (p + 1 + m) (1 + k) (r + length xs) v u) _ m n
      (f (j - 1 + 2) (1 + k) r v t1 (omega (arith, i)) (omega (arith, l, c)) b1)
      (g (1 + k) k (r + length xs) v u refl (omega (arith, h)) (omega (arith, l, c)) b2)))
      (seen-eq (p + 1 + m + n) (p + (1 + m + n)) k _ _ _ _ _ _ y x w
      (ap (λ q. closed_row s (sets q ((r + length xs) * 10) (binding_rows ys)) v (p + 1 + m + n)) z
      ∙ ap (λ q. closed_row s q v (p + 1 + m + n)) (rows-after xs ys t1 r)
      ∙ ap (closed_row s (sets t1 (r * 10) (binding_rows (xs ++ ys))) v) y))
      (omega arith)

  -- a sort, which is passed over, and what follows it
  pub closes-sort : (p c m n : ℕ) (o : Option ℕ) (ys : List Binding) → form_of (byte_at s p) ≡ Sort → byte_at s (p + 1) ≡ c →
      passed_by s (p + 2) c ≡ p + 2 + m → Closes (p + 2 + m) n o ys → Closes p (2 + m + n) o ys
  unfolding stepped step_by
  closes-sort p c m n o ys e a f g j k r v t i h l b =
      let y : p + 2 + m + n ≡ p + (2 + m + n) = omega arith in
      let to : passed_by s (p + 2) (byte_at s (p + 1)) ≡ p + 2 + m = ap (passed_by s (p + 2)) a ∙ f in
      let q1 : stepped d s (seen p j r v t) ≡ seen (passed_by s (p + 2) (byte_at s (p + 1))) (j - 1 + 1) r v t = rw e in
      ends (steps d s) (seen p j r v t)
      (seen (p + 2 + m + n) k (r + length ys) (cell t v 5)
      (closed_row s (sets (noted t v o) (r * 10) (binding_rows ys)) v (p + 2 + m + n)))
      _ (1 + n) (2 + m + n)
      (onward (steps d s) (seen p j r v t) (seen (p + 2 + m) (j - 1 + 1) r v t) _ 1 n
      (once d s p j r v t _ (omega (arith, i)) (q1 ∙ ap (λ q. seen q (j - 1 + 1) r v t) to))
      (g (j - 1 + 1) k r v t (omega (arith, i)) h l b))
      (seen-eq (p + 2 + m + n) (p + (2 + m + n)) k (r + length ys) (r + length ys) (cell t v 5) (cell t v 5) _ _ y refl refl
      (ap (closed_row s (sets (noted t v o) (r * 10) (binding_rows ys)) v) y))
      (omega arith)

  -- an any, a unique or a statistic, with m numbers due after its rse
  pub writes-open : (p q n m e number relation : ℕ) (o : Option ℕ) (ys zs : List Binding) → form_of (byte_at s p) ≡ Open m →
      opened_at d s (p + 3) ≡ record { relation = relation; number = number; after = p + q } → 0 < q → Closes (p + q) n o ys →
      passed_by s (p + q + n) m ≡ p + q + n + e → Writes m (p + q + n) e zs →
      Writes 1 p (q + n + e) (row_of p number relation o (p + q + n) (p + q + n + e) ∷ (ys ++ zs))
  unfolding stepped step_by opened_here binding_rows
  writes-open p q n m e number relation o ys zs f a h g x y j k r w t i l b =
      let c = length-append ys zs in
      let row : List ℕ = p ∷ number ∷ relation ∷ 0 ∷ 0 ∷ w ∷ 0 ∷ 0 ∷ m ∷ 0 ∷ [] in
      let new : Binding = row_of p number relation o (p + q + n) (p + q + n + e) in
      let t1 = sets t (r * 10) row in
      let t2 = sets t (r * 10) (binding_rows (new ∷ ys)) in
      let room : r * 10 + 10 ≤ length t = omega (arith, l, b) in
      let m1 : 320 ≤ length t1 = omega (arith, length-sets t (r * 10) row, b) in
      let m2 : 320 ≤ length t2 = omega (arith, length-sets t (r * 10) (binding_rows (new ∷ ys)), b) in
      let first : stepped d s (seen p j r w t) ≡ seen (p + q) (j + m) (r + 1) r t1 = rw (f, lt-ltb r 32 (omega (arith, l)), a) in
      let back : cell t1 r 5 ≡ w = in-run row t (r * 10) 5 (omega arith) room in
      let rows : r + 1 + length ys ≡ r + suc (length ys) = omega arith in
      let filled : closed_row s (sets (noted t1 r o) ((r + 1) * 10) (binding_rows ys)) r (p + q + n) ≡ t2 =
      ap (λ z. closed_row s (sets z ((r + 1) * 10) (binding_rows ys)) r (p + q + n)) (noted_in row t r o refl refl room)
      ∙ close-in s (set row 4 (place_or o)) (binding_rows ys) t r (p + q + n) refl room
      ∙ ap (λ z. sets t (r * 10) (set (set (set row 4 (place_or o)) 5 z) 8 (p + q + n) ++ binding_rows ys)) x
      in
      let u : p + q + n + e ≡ p + (q + n + e) = omega arith in
      let v : r + suc (length ys) + length zs ≡ r + suc (length (ys ++ zs)) = omega (arith, c) in
      let inner = ends (steps d s) (seen (p + q) (j + m) (r + 1) r t1) _ (seen (p + q + n) (m + k) (r + suc (length ys)) w t2) n n
      (g (j + m) (m + k) (r + 1) r t1 (omega (arith, i)) (omega arith) (omega (arith, l, c)) m1)
      (seen-eq (p + q + n) (p + q + n) (m + k) _ _ (cell t1 r 5) w _ t2 refl rows back filled) (omega arith)
      in
      ends (steps d s) (seen p j r w t)
      (seen (p + q + n + e) k (r + suc (length ys) + length zs) w (sets t2 ((r + suc (length ys)) * 10) (binding_rows zs)))
      _ (1 + (n + e)) (q + n + e)
      (onward (steps d s) (seen p j r w t) (seen (p + q) (j + m) (r + 1) r t1) _ 1 (n + e) (once d s p j r w t _ (omega (arith, i)) first)
      (onward (steps d s) (seen (p + q) (j + m) (r + 1) r t1) (seen (p + q + n) (m + k) (r + suc (length ys)) w t2) _ n e inner
      (y (m + k) k (r + suc (length ys)) w t2 refl (omega (arith, l, c)) m2)))
      (seen-eq (p + q + n + e) (p + (q + n + e)) k _ _ w w _ _ u v refl (rows-after (new ∷ ys) zs t r))
      (omega (arith, h))

  -- ---- both

  -- m parts of n bytes from p on are passed over, and a scan writes their rows
  abbrev pub Does : ℕ → ℕ → ℕ → List Binding → Type 0
  Does m p n bs = Passes s m p n × Writes m p n bs

  -- the clauses of an rse with their 255 are passed over, and a scan closes the row
  abbrev pub Ends : ℕ → ℕ → Option ℕ → List Binding → Type 0
  Ends p n o bs = Passes s 1 p n × Closes p n o bs

  pub does-none : (p : ℕ) → Does 0 p 0 []
  does-none p = (passes_none s p, writes-none p)

  pub does-both : (a b p m n : ℕ) (xs ys : List Binding) → Does a p m xs → Does b (p + m) n ys → Does (a + b) p (m + n) (xs ++ ys)
  does-both a b p m n xs ys f g = (passes-both s a b p m n f.0 g.0, writes-both a b p m n xs ys f.1 g.1)

  -- the same with another number of bytes
  pub does-as : (m p n q : ℕ) (bs : List Binding) → Does m p n bs → n ≡ q → Does m p q bs
  does-as m p n q bs f e = subst (λ z. Does m p z bs) e f

  pub ends_as : (p n q : ℕ) (o : Option ℕ) (bs : List Binding) → Ends p n o bs → n ≡ q → Ends p q o bs
  ends_as p n q o bs f e = subst (λ z. Ends p z o bs) e f

  -- a step that takes a part whole
  pub does-leaf : (p n : ℕ) → ((j : ℕ) → passed s (pass_at p j) ≡ pass_at (p + n) (j - 1 + 0)) →
      ((j r w : ℕ) (t : List ℕ) → stepped d s (seen p j r w t) ≡ seen (p + n) (j - 1 + 0) r w t) → 0 < n → Does 1 p n []
  does-leaf p n f g z =
      let e : n + 0 ≡ n = omega arith in
      (subst (Passes s 1 p) e (passes-moved s p n 0 0 f z (passes_none s (p + n))), writes-leaf p n g z)

  pub does-plain : (p q m n : ℕ) (bs : List Binding) → form_of (byte_at s p) ≡ Plain q m → 0 < q → Does m (p + q) n bs → Does 1 p (q + n) bs
  unfolding passed pass_by
  does-plain p q m n bs e z g = (passes-moved s p q m n (λ j. rw e) z g.0, writes-plain p q m n bs e z g.1)

  pub ends-end : (p : ℕ) → form_of (byte_at s p) ≡ Close → Ends p 1 none []
  unfolding passed pass_by
  ends-end p e =
      let z : 1 + 0 ≡ 1 = omega arith in
      (subst (Passes s 1 p) z (passes-moved s p 1 0 0 (λ j. rw e) (omega arith) (passes_none s (p + 1))), closes-end p e)

  pub ends-such : (p m n : ℕ) (o : Option ℕ) (xs ys : List Binding) → form_of (byte_at s p) ≡ Such → Does 1 (p + 1) m xs →
      Ends (p + 1 + m) n o ys → Ends p (1 + m + n) (some (p + 1)) (xs ++ ys)
  unfolding passed pass_by
  ends-such p m n o xs ys e f g =
      let z : 1 + (m + n) ≡ 1 + m + n = omega arith in (
        subst (Passes s 1 p) z (passes-moved s p 1 2 (m + n) (λ j. rw e) (omega arith) (passes-both s 1 1 (p + 1) m n f.0 g.0)),
        closes-such p m n o xs ys e f.1 g.1,
      )

  -- keys of a sort are c parts
  pub ends-sort : (p c m n : ℕ) (o : Option ℕ) (ys : List Binding) → form_of (byte_at s p) ≡ Sort → byte_at s (p + 1) ≡ c → m ≤ length s →
      Passes s c (p + 2) m → Ends (p + 2 + m) n o ys → Ends p (2 + m + n) o ys
  unfolding passed pass_by
  ends-sort p c m n o ys e a l f g =
      let z : 2 + (m + n) ≡ 2 + m + n = omega arith in
      let first : (j : ℕ) → passed s (pass_at p j) ≡ pass_at (p + 2) (j - 1 + (c + 1)) = λ j. rw (e, a) in (
        subst (Passes s 1 p) z (passes-moved s p 2 (c + 1) (m + n) first (omega arith) (passes-both s c 1 (p + 2) m n f g.0)),
        closes-sort p c m n o ys e a (passed-by s c (p + 2) m f l) g.1,
      )

  -- an any, a unique or a statistic: m numbers of e bytes are due after its rse
  pub does-open : (p q n m e number relation : ℕ) (o : Option ℕ) (ys zs : List Binding) → form_of (byte_at s p) ≡ Open m →
      opened_at d s (p + 3) ≡ record { relation = relation; number = number; after = p + q } → after_stream s (p + 3) ≡ p + q → 0 < q →
      e ≤ length s → Ends (p + q) n o ys → Does m (p + q + n) e zs →
      Does 1 p (q + n + e) (row_of p number relation o (p + q + n) (p + q + n + e) ∷ (ys ++ zs))
  unfolding passed pass_by
  does-open p q n m e number relation o ys zs f a b h l g x =
      let z : q + (n + e) ≡ q + n + e = omega arith in
      let first : (j : ℕ) → passed s (pass_at p j) ≡ pass_at (p + q) (j - 1 + (m + 1)) = λ j. rw (f, b) in
      let y : 1 + m ≡ m + 1 = omega arith in
      let inner : Passes s (m + 1) (p + q) (n + e) = subst (λ k. Passes s k (p + q) (n + e)) y (passes-both s 1 m (p + q) n e g.0 x.0) in (
        subst (Passes s 1 p) z (passes-moved s p q (m + 1) (n + e) first h inner),
        writes-open p q n m e number relation o ys zs f a h g.1 (passed-by s m (p + q + n) e x.0 l) x.1,
      )
