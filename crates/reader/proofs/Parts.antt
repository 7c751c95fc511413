-- Parts one after another: the rows of each stand after those of the parts before it.
use Prim.Native.Nat.{ℕ, ◌+◌, ◌-◌, ◌*◌, ◌<◌, ◌≤◌}
use mathlib.Core.Path.{◌≡◌, refl, ap, ◌∙◌}
use mathlib.Core.List.{List, []}
use native.Mathlib.Omega.{arith}
use lib.ListN.{length, length-append}
use lib.Seq.{sets}
use Rattle.wire.specs.Limits.{max_request_bytes, max_statements, statement_row_numbers, context_row_numbers}
use Rattle.wire.specs.Internal.Columns.{statement_boolean}
use Rattle.std.specs.Prelude.{Option, Some, Result, Ok, Err}
use Rattle.wire.specs.declared.refused.Refused.{Refused}
use Rattle.grammar.specs.declared.Cursor.{Cursor}
use Rattle.grammar.specs.declared.Refusal.{Refusal}
use Rattle.grammar.specs.Tree.{Statement}
use Rattle.grammar.specs.Sizes.{own_conditions}
use Rattle.grammar.specs.Rows.{boolean_number}
use Rattle.grammar.specs.Reader.{Read, read, refused, on_read, with_conditions}
use Rattle.grammar.proofs.Went.{Went}
use Rattle.tables.specs.Tables.{Tables, tables, contexts_alone, nothing, joined, laid, cursor_after, Wrote}
use Rattle.tables.specs.Written.{listed, listed_number, numbered, with_place, with_number}
use Rattle.tables.proofs.Laid.{Follows, laid-laid}
use Rattle.tables.proofs.Rows.{numbered_is, place-noted, number-noted}
use Rattle.tables.proofs.Chains.{by_read, stop, fill, on-next, stopped}
use Rattle.reader.specs.Readers.{Passed, Under}

-- rows laid from one cursor on, up to another
pub record Reached (c q : Cursor) (rows t t' : Tables) : Type 0 where
  pub filled : t' ≡ laid t c rows
  pub follows : Follows c rows q

pub at-start : {c : Cursor} {t : Tables} → Reached c c nothing t t
at-start = record { filled = refl; follows = record { statements = omega arith; contexts = omega arith; conditions = omega arith } }

pub reached-on : {c q q₁ : Cursor} {a b t t₁ t₂ : Tables} → Reached c q a t t₁ → Reached q q₁ b t₁ t₂ → Reached c q₁ (joined a b) t t₂
reached-on {c} {q} {q₁} {a} {b} {t} i j = record {
  filled = j.filled ∙ ap (λ z. laid z q b) i.filled ∙ laid-laid t c q a b i.follows;
  follows = record {
    statements = simp length-append (omega (arith, i.follows.statements, j.follows.statements));
    contexts = simp length-append (omega (arith, i.follows.contexts, j.follows.contexts));
    conditions = simp length-append (omega (arith, i.follows.conditions, j.follows.conditions));
  };
}

-- the same rows, written otherwise
pub reached-as : {c q : Cursor} {a b t t' : Tables} → a ≡ b → Reached c q a t t' → Reached c q b t t'
reached-as e i = rw e at i

-- what was passed, and what was written
pub on-passed : {A : Type 0} {x : Read A} {c q : Cursor} {rows : A → Tables} {t t' : Tables} {r : Passed} {G : Type 0} →
    Wrote x cursor_after c rows t t' r → r ≡ Ok q → ((a : A) → x ≡ read a q → t' ≡ laid t c (rows a) → G) → G
on-passed {x} w e g = on-next w e (λ a q₁ i j h. g a (rw (← j) at i) h)

-- a part that was read from a cursor on, and its rows
pub record Part {A : Type 0} (x : Read A) (rows : A → Tables) (c : Cursor) (t t' : Tables) (q : Cursor) : Type 0 where
  pub part : A
  pub is : x ≡ read part q
  pub reached : Reached c q (rows part) t t'

pub part-read : {A : Type 0} {x : Read A} {rows : A → Tables} {c q : Cursor} {t t' : Tables} {r : Passed} →
    ((a : A) → x ≡ read a q → Follows c (rows a) q) → Wrote x cursor_after c rows t t' r → r ≡ Ok q → Part x rows c t t' q
part-read follows w e =
    on-passed w e (λ a i h. record { part = a; is = i; reached = record { filled = h; follows = follows a i } })

-- a part that was refused: the whole is
pub stops : {A C R R' : Type 0} {x : Read A} {y : Read C} {k : A → Cursor → R} {k' : C → Cursor → R'} {c c' : Cursor} {rows : A → Tables}
    {rows' : C → Tables} {t t₁ t₂ t₃ : Tables} {r : Result R (Refused Refusal)} {n : Refused Refusal} → Wrote x k c rows t t₁ r → r ≡ Err n →
    (x ≡ refused n.refusal n.place → y ≡ refused n.refusal n.place) → Wrote y k' c' rows' t₂ t₃ (Err n)
stops w e f = stop (f (stopped w e))

-- the whole is made of the last part, read or refused
pub made_of : {A C : Type 0} {x : Read A} {one : A → Tables} {rows : C → Tables} {c q : Cursor} {before t t₁ t₂ : Tables} {r : Passed}
    (made : A → C) → Reached c q before t t₁ → ((a : A) (q₁ : Cursor) → x ≡ read a q₁ → joined before (one a) ≡ rows (made a)) →
    Wrote x cursor_after q one t₁ t₂ r → Wrote (on_read x (λ a q₁. read (made a) q₁)) cursor_after c rows t t₂ r
made_of {x} {one} {c} {q} {before} {t} made i both w = by_read x
    (λ a q₁ e. record {
      answer = w.answer ∙ rw e;
      filled = rw e (rw e at w.filled ∙ ap (λ z. laid z q (one a)) i.filled ∙ laid-laid t c q before (one a) i.follows ∙
          ap (laid t c) (both a q₁ e));
    })
    (λ n p e. record { answer = w.answer ∙ rw e; filled = rw e })

-- ---- rows of contexts alone

-- a reading that wrote rows of contexts, beside the other tables
pub beside : {A R : Type 0} {x : Read A} {k : A → Cursor → R} {c : Cursor} {rows : A → List ℕ} {ct ct' : List ℕ}
    {r : Result R (Refused Refusal)} (st nd : List ℕ) →
    Wrote x k c (λ a. contexts_alone (rows a)) (contexts_alone ct) (contexts_alone ct') r →
    Wrote x k c (λ a. contexts_alone (rows a)) (tables st ct nd) (tables st ct' nd) r
beside {x} st nd w = by_read x
    (λ a q e. record { answer = w.answer; filled = rw e (ap (λ (t : Tables). tables st t.contexts nd) (rw e at w.filled)) })
    (λ n p e. record { answer = w.answer; filled = rw e })

-- a part with conditions, which get their numbers after it; st is the statements' table before
pub record Noted {A : Type 0} (x : Read A) (bytes : A → List ℕ) (contexts places : A → List ℕ) (c : Cursor) (st : List ℕ) (t t' : Tables)
    (q : Cursor) : Type 0 where
  pub part : A
  pub last : Cursor
  pub is : x ≡ read part last
  pub number : q ≡ with_conditions last (length (places part))
  pub place : q.at ≡ c.at + length (bytes part)
  pub counted : q.statements ≡ c.statements
  pub own : t.statements ≡ sets st ((c.statements - 1) * statement_row_numbers + statement_boolean)
      (listed_number (boolean_number (length (places part)) c.conditions))
  pub reached : Reached c q (tables [] (contexts part) (places part)) t t'

-- a place, or none, is noted after a part
pub noted-part : {A : Type 0} {x : Read A} {bytes contexts places : A → List ℕ} {s : List ℕ} {c q q₁ : Cursor} {st st₁ ct nd ct₁ nd₁ : List ℕ}
    (many : A → ℕ) (p : Option ℕ) → ((a : A) → x ≡ read a q → Went s c (bytes a) 0 (many a) 0 q) → ((a : A) → length (contexts a) ≡ many a * context_row_numbers) →
    ((a : A) → x ≡ read a q → listed p ≡ places a) →
    (a : A) → x ≡ read a q → contexts_alone ct₁ ≡ laid (contexts_alone ct) c (contexts_alone (contexts a)) →
    c.statements ≤ max_statements → c.conditions < c.statements → ((n : ℕ) → p ≡ Some n → n ≤ max_request_bytes) → q₁ ≡ numbered q p → nd₁ ≡ with_place nd q p →
    st₁ ≡ with_number st (c.statements - 1) q p → Noted x bytes contexts places c st (tables st₁ ct nd) (tables st₁ ct₁ nd₁) q₁
noted-part {places} {c} {q} {q₁} {st} {ct} {nd} {ct₁} {nd₁} many p went counted listing a h o rows few short i j m =
    let g = went a h in
    let same : q.conditions ≡ c.conditions = omega (arith, g.noted) in
    let small : q.conditions ≤ max_statements = omega (arith, same) in
    let number : q₁ ≡ with_conditions q (length (places a)) = i ∙ numbered_is q small p ∙ rw (listing a h) in
    let noted : nd₁ ≡ sets nd c.conditions (places a) = j ∙ place-noted q small nd p short ∙ rw (same, listing a h) in
    record {
      part = a;
      last = q;
      is = h;
      number = number;
      place = ap (λ (z : Cursor). z.at) number ∙ g.place;
      counted = ap (λ (z : Cursor). z.statements) number ∙ omega (arith, g.counted);
      own = m ∙ number-noted q small st (c.statements - 1) p (omega arith) ∙ rw (same, listing a h);
      reached = record {
        filled = rw (noted, ap (λ (t : Tables). t.contexts) o);
        follows = record {
          statements = rw number (omega (arith, g.counted));
          contexts = rw number (omega (arith, g.declared, counted a));
          conditions = rw number (omega (arith, same));
        };
      };
    }

-- ---- a statement under its code

module _ {x : Read Statement} {c : Cursor} {rows : Statement → Tables} {t t' : Tables} where
  -- it was refused
  pub under-stop : {y : Refused Refusal} → x ≡ refused y.refusal y.place → Under x c rows t t' (Err y)
  under-stop e = record { numbered = t.statements; number = rw e; wrote = stop e }

  -- it has no boolean of its own
  pub unnumbered : {r : Passed} → ((a : Statement) (q : Cursor) → x ≡ read a q → own_conditions a ≡ 0) → Wrote x cursor_after c rows t t' r →
      Under x c rows t t' r
  unnumbered h w = record {
    numbered = t.statements;
    number = by_read x (λ a q e. rw (e, h a q e)) (λ n p e. rw e);
    wrote = w;
  }

  pub under-fill : {a : Statement} {q : Cursor} → x ≡ read a q → own_conditions a ≡ 0 → t' ≡ laid t c (rows a) →
      Under x c rows t t' (Ok q)
  under-fill e h g = record { numbered = t.statements; number = rw (e, h); wrote = fill e refl g }
