-- Readings one after another, with the rows of both: each reader of the cycle cites these.
use Prim.Native.Nat.{ℕ}
use mathlib.Core.Path.{◌≡◌, refl, sym, ap, ◌∙◌, subst}
use mathlib.Core.Bool.{Bool, true, false}
use mathlib.Core.List.{List}
use Rattle.std.specs.Prelude.{Result, Ok, Err}
use Rattle.wire.specs.declared.refused.Refused.{Refused}
use Rattle.grammar.specs.declared.Cursor.{Cursor}
use Rattle.grammar.specs.declared.Refusal.{Refusal}
use Rattle.grammar.specs.Reader.{Read, read, refused, on_read, need}
use Rattle.grammar.specs.Internal.Steps.{answer_of, cursor_of}
use Rattle.grammar.proofs.StepLaws.{absurd-eq}
use Rattle.tables.specs.Tables.{Tables, nothing, joined, laid, after, result_of, cursor_after, with_part, Wrote}
use Rattle.tables.proofs.Laid.{Follows, laid-laid}

-- by what was read
pub by_read : {A : Type 0} (x : Read A) {G : Type 0} → ((a : A) (q : Cursor) → x ≡ read a q → G) →
    ((n : Refusal) (p : ℕ) → x ≡ refused n p → G) → G
by_read (read a q) u v = u a q refl
by_read (refused n p) u v = v n p refl

-- ---- answers

-- an answer with the cursor alone, and one with a part of what was read
pub cursor-result : {A : Type 0} (x : Read A) → cursor_of x ≡ result_of cursor_after x
cursor-result (read a q) = refl
cursor-result (refused n p) = refl

pub part-result : {A B : Type 0} (f : A → B) (x : Read A) → answer_of f x ≡ result_of (with_part f) x
part-result f (read a q) = refl
part-result f (refused n p) = refl

-- an answer taken apart: what was read, or the refusal
module _ {A R : Type 0} (k : A → Cursor → R) where
  abbrev ok_or : R → Result R (Refused Refusal) → R
  ok_or d (Ok v) = v
  ok_or d (Err y) = d

  abbrev err_or : Refused Refusal → Result R (Refused Refusal) → Refused Refusal
  err_or d (Ok v) = d
  err_or d (Err y) = y

  pub result-read : (x : Read A) {v : R} → Ok v ≡ result_of k x → (a : A) × (q : Cursor) × (x ≡ read a q) × (v ≡ k a q)
  result-read (read a q) {v} e = (a, q, refl, ap (ok_or v) e)
  result-read (refused n p) e = absurd-eq (cc)

  pub result-refused : (x : Read A) {y : Refused Refusal} → Err y ≡ result_of k x → x ≡ refused y.refusal y.place
  result-refused (read a q) e = absurd-eq (cc)
  result-refused (refused n p) {y} e = ap (λ (z : Refused Refusal). refused z.refusal z.place) (sym (ap (err_or y) e))

-- ---- what is written

-- a refusal leaves the tables free
pub stop : {A R : Type 0} {x : Read A} {k : A → Cursor → R} {c : Cursor} {rows : A → Tables} {t t' : Tables} {y : Refused Refusal} →
    x ≡ refused y.refusal y.place → Wrote x k c rows t t' (Err y)
stop e = record { answer = rw e; filled = rw e }

pub fill : {A R : Type 0} {x : Read A} {k : A → Cursor → R} {c : Cursor} {rows : A → Tables} {t t' : Tables} {a : A} {q : Cursor} {v : R} →
    x ≡ read a q → v ≡ k a q → t' ≡ laid t c (rows a) → Wrote x k c rows t t' (Ok v)
fill e h g = record { answer = rw (e, h); filled = rw e g }

-- a reading that writes nothing
pub kept : {A R : Type 0} {x : Read A} {k : A → Cursor → R} {c : Cursor} {t : Tables} {r : Result R (Refused Refusal)} → r ≡ result_of k x →
    Wrote x k c (λ a. nothing) t t r
kept {A} {R} {x} {k} {c} {t} {r} e = record { answer = e; filled = go x }
  where
    go : (y : Read A) → t ≡ after (λ a. laid t c nothing) t y
    go (read a q) = refl
    go (refused n p) = refl

-- the same reading, written otherwise
pub likewise : {A R : Type 0} {x y : Read A} {k : A → Cursor → R} {c : Cursor} {rows : A → Tables} {t t' : Tables}
    {r : Result R (Refused Refusal)} → x ≡ y →
    Wrote y k c rows t t' r → Wrote x k c rows t t' r
likewise {k} {c} {rows} {t} {t'} {r} e w = subst (λ z. Wrote z k c rows t t' r) (sym e) w

-- the rows of what was read, said otherwise
pub rows_as : {A R : Type 0} {x : Read A} {k : A → Cursor → R} {c : Cursor} {rows rows' : A → Tables} {t t' : Tables}
    {r : Result R (Refused Refusal)} →
    ((a : A) (q : Cursor) → x ≡ read a q → rows a ≡ rows' a) → Wrote x k c rows t t' r → Wrote x k c rows' t t' r
rows_as {A} {R} {x} {k} {c} {rows} {rows'} {t} {t'} {r} h w = by_read x
    (λ a q e. record { answer = w.answer; filled = rw (e, ← h a q e) (rw e at w.filled) })
    (λ n p e. record { answer = w.answer; filled = rw e })

-- cursors with the same counts
pub record Counts (c q : Cursor) : Type 0 where
  pub statements : q.statements ≡ c.statements
  pub contexts : q.contexts ≡ c.contexts
  pub conditions : q.conditions ≡ c.conditions

pub laid-moved : (t : Tables) (c q : Cursor) (rows : Tables) → Counts c q → laid t q rows ≡ laid t c rows
laid-moved t c q rows h = rw (h.statements, h.contexts, h.conditions)

pub wrote-moved : {A R : Type 0} {x : Read A} {k : A → Cursor → R} {c q : Cursor} {rows : A → Tables} {t t' : Tables}
    {r : Result R (Refused Refusal)} → Counts c q →
    Wrote x k q rows t t' r → Wrote x k c rows t t' r
wrote-moved {A} {R} {x} {k} {c} {q} {rows} {t} {t'} h w = by_read x
    (λ a u e. record { answer = w.answer; filled = rw e (rw e at w.filled ∙ laid-moved t c q (rows a) h) })
    (λ n p e. record { answer = w.answer; filled = rw e })

-- what was read, and what was written
pub on-next : {A R : Type 0} {x : Read A} {k : A → Cursor → R} {c : Cursor} {rows : A → Tables} {t t' : Tables}
    {r : Result R (Refused Refusal)} {v : R} {G : Type 0} → Wrote x k c rows t t' r → r ≡ Ok v →
    ((a : A) (q : Cursor) → x ≡ read a q → v ≡ k a q → t' ≡ laid t c (rows a) → G) → G
on-next {x} {k} {t'} w e g =
    let u = result-read k x (sym e ∙ w.answer) in
    g u.0 u.1 u.2 u.3 (rw u.2 at w.filled)

pub stopped : {A R : Type 0} {x : Read A} {k : A → Cursor → R} {c : Cursor} {rows : A → Tables} {t t' : Tables}
    {r : Result R (Refused Refusal)} {y : Refused Refusal} → Wrote x k c rows t t' r → r ≡ Err y → x ≡ refused y.refusal y.place
stopped {x} {k} w e = result-refused k x (sym e ∙ w.answer)

-- the cursor alone, and a part of what was read
pub on-cursor : {A : Type 0} {x : Read A} {c : Cursor} {rows : A → Tables} {t t' : Tables} {r : Result Cursor (Refused Refusal)} {q : Cursor}
    {G : Type 0} → Wrote x cursor_after c rows t t' r → r ≡ Ok q → ((a : A) → x ≡ read a q → t' ≡ laid t c (rows a) → G) → G
on-cursor w e g = on-next w e (λ a q i h j. g a (rw h i) j)

pub on-part : {A B : Type 0} {x : Read A} {f : A → B} {c : Cursor} {rows : A → Tables} {t t' : Tables}
    {r : Result (B × Cursor) (Refused Refusal)} {b : B} {q : Cursor} {G : Type 0} → Wrote x (with_part f) c rows t t' r → r ≡ Ok (b, q) →
    ((a : A) → x ≡ read a q → b ≡ f a → t' ≡ laid t c (rows a) → G) → G
on-part {B} w e g = on-next w e (λ a q i h j. g a (rw (ap (λ (z : B × Cursor). z.1) h) i) (ap (λ (z : B × Cursor). z.0) h) j)

-- ---- one reading after another

-- what follows a reading of v, up to the cursor q: it writes rows of its own, and both make the rows of the whole
pub record Continued {A C R : Type 0} (g : A → Cursor → Read C) (k : C → Cursor → R) (rows : C → Tables) (c : Cursor) (one : A → Tables)
    (t₁ : Tables) (v : A) (q : Cursor) (t₂ : Tables) (r : Result R (Refused Refusal)) : Type 0 where
  pub two : C → Tables
  pub wrote : Wrote (g v q) k q two t₁ t₂ r
  pub follows : Follows c (one v) q
  pub both : (b : C) (q₁ : Cursor) → g v q ≡ read b q₁ → joined (one v) (two b) ≡ rows b

module _ {A C R Q : Type 0} (g : A → Cursor → Read C) (k : C → Cursor → R) (rows : C → Tables) {x : Read A} {ka : A → Cursor → Q} {c : Cursor}
    {one : A → Tables} {t t₁ : Tables} {a : Result Q (Refused Refusal)} (w : Wrote x ka c one t t₁ a) where
  -- a refusal passes through
  pub passed : {t₂ : Tables} {r : Result R (Refused Refusal)} {y : Refused Refusal} → a ≡ Err y → r ≡ Err y → Wrote (on_read x g) k c rows t t₂ r
  passed e h = rw h (stop (rw (stopped w e)))

  -- one reading, then another
  pub and_then : {t₂ : Tables} {r : Result R (Refused Refusal)} {u : Q} → a ≡ Ok u →
      ((v : A) (q : Cursor) → x ≡ read v q → u ≡ ka v q → Continued g k rows c one t₁ v q t₂ r) → Wrote (on_read x g) k c rows t t₂ r
  and_then {t₂} {r} e next = on-next w e (λ v q h i j.
      let n = next v q h i in
      by_read (g v q)
      (λ b q₁ y. record {
        answer = n.wrote.answer ∙ rw h;
        filled = rw (h, y) ((rw y at n.wrote.filled) ∙ ap (λ z. laid z q (n.two b)) j ∙
            laid-laid t c q (one v) (n.two b) n.follows ∙ ap (laid t c) (n.both b q₁ y));
      })
      (λ m p y. record { answer = n.wrote.answer ∙ rw h; filled = rw (h, y) }))

-- the last step makes a whole of what was read, after a test
pub made : {C R : Type 0} (b : Bool) (v : C) (k : C → Cursor → R) (c : Cursor) (rows : C → Tables) (t : Tables) (n : Refusal) (p : ℕ)
    (s : List ℕ) {r : Result R (Refused Refusal)} → r ≡ result_of k (on_read (need b n p s c) (λ u q. read v q)) → rows v ≡ nothing →
    Wrote (on_read (need b n p s c) (λ u q. read v q)) k c rows t t r
made true v k c rows t n p s e h = record { answer = e; filled = rw h }
made false v k c rows t n p s e h = record { answer = e; filled = refl }
