-- Parts one after another: the rows of each stand after those of the parts before it.
use Prim.Native.Nat.{ℕ, ◌+◌, ◌*◌}
use mathlib.Core.Path.{◌≡◌, refl, sym, ap, ap₂, ◌∙◌}
use mathlib.Core.Bool.{Bool, true, false}
use mathlib.Core.List.{List, [], ◌++◌}
use native.Mathlib.Omega.{arith}
use lib.ListN.{length, length-append}
use lib.Seq.{sets}
use Rattle.std.specs.Prelude.{Result, Err}
use Rattle.wire.specs.Limits.{context_row_numbers}
use Rattle.wire.specs.declared.refused.Refused.{Refused}
use Rattle.grammar.specs.declared.Cursor.{Cursor}
use Rattle.grammar.specs.declared.Refusal.{Refusal}
use Rattle.grammar.specs.Reader.{Read, read, refused, on_read, need}
use Rattle.grammar.proofs.Went.{Went, Passed}
use Rattle.tables.specs.Tables.{Tables, contexts_alone, laid, result_of, Wrote}
use Rattle.tables.proofs.Stores.{sets-append}
use Rattle.tables.proofs.Laid.{Follows, laid-laid}
use Rattle.tables.proofs.Chains.{by_read, stop, Counts, stopped}

-- ---- rows laid

-- the rows of contexts laid from one cursor on, up to another
pub record Reached (c q : Cursor) (rows : List ℕ) (t t' : Tables) : Type 0 where
  pub filled : t' ≡ laid t c (contexts_alone rows)
  pub follows : Follows c (contexts_alone rows) q

pub moved : {c q : Cursor} {t : Tables} → Counts c q → Reached c q [] t t
moved h = record {
  filled = refl;
  follows = record {
    statements = omega (arith, h.statements);
    contexts = omega (arith, h.contexts);
    conditions = omega (arith, h.conditions);
  };
}

pub at-start : {c : Cursor} {t : Tables} → Reached c c [] t t
at-start = moved (record { statements = refl; contexts = refl; conditions = refl })

-- fields that count nothing
pub counted : {s bs : List ℕ} {c q : Cursor} → Passed s c bs q → Counts c q
counted g = record { statements = omega (arith, g.counted); contexts = omega (arith, g.declared); conditions = omega (arith, g.noted) }

pub reached-on : {c q q₁ : Cursor} {a b : List ℕ} {t t₁ t₂ : Tables} → Reached c q a t t₁ → Reached q q₁ b t₁ t₂ →
    Reached c q₁ (a ++ b) t t₂
reached-on {c} {q} {q₁} {a} {b} {t} i j = record {
  filled = j.filled ∙ ap (λ z. laid z q (contexts_alone b)) i.filled ∙ laid-laid t c q (contexts_alone a) (contexts_alone b) i.follows;
  follows = record {
    statements = omega (arith, i.follows.statements, j.follows.statements);
    contexts = simp length-append (omega (arith, i.follows.contexts, j.follows.contexts));
    conditions = omega (arith, i.follows.conditions, j.follows.conditions);
  };
}

-- rows after rows of one table
pub rows-after : (own rest l : List ℕ) (i : ℕ) {l₁ l₂ : List ℕ} {j : ℕ} → l₁ ≡ sets l i own → j ≡ i + length own → l₂ ≡ sets l₁ j rest →
    l₂ ≡ sets l i (own ++ rest)
rows-after own rest l i e h k = k ∙ ap₂ (λ z n. sets z n rest) e h ∙ sym (sets-append own rest l i)

-- ---- parts

-- a part that was read from a cursor on, and its rows
pub record Part {A : Type 0} (x : Read A) (bytes rows : A → List ℕ) (c : Cursor) (t t' : Tables) (q : Cursor) : Type 0 where
  pub part : A
  pub is : x ≡ read part q
  pub place : q.at ≡ c.at + length (bytes part)
  pub reached : Reached c q (rows part) t t'

abbrev pub part-read : {A : Type 0} {x : Read A} {bytes rows : A → List ℕ} {s : List ℕ} {c q : Cursor} {t t' : Tables} (many : A → ℕ) (a : A) →
    x ≡ read a q → Went s c (bytes a) 0 (many a) 0 q → length (rows a) ≡ many a * context_row_numbers →
    t' ≡ laid t c (contexts_alone (rows a)) → Part x bytes rows c t t' q
part-read many a i o count h = record {
  part = a;
  is = i;
  place = o.place;
  reached = record {
    filled = h;
    follows = record {
      statements = omega (arith, o.counted);
      contexts = omega (arith, o.declared, count);
      conditions = omega (arith, o.noted);
    };
  };
}

-- a part that was refused: the whole is
pub stops : {A C R Q : Type 0} {x : Read A} {y : Read C} {k : A → Cursor → R} {k' : C → Cursor → Q} {c c' : Cursor} {rows : A → Tables}
    {rows' : C → Tables} {t t₁ t₂ t₃ : Tables} {r : Result R (Refused Refusal)} {z : Refused Refusal} → Wrote x k c rows t t₁ r → r ≡ Err z →
    (x ≡ refused z.refusal z.place → y ≡ refused z.refusal z.place) → Wrote y k' c' rows' t₂ t₃ (Err z)
stops w e f = stop (f (stopped w e))

module _ {C R : Type 0} {k : C → Cursor → R} {rows : C → List ℕ} {c q : Cursor} {before : List ℕ} {t t₁ : Tables}
    (i : Reached c q before t t₁) where
  -- the whole is made of the last part, read or refused
  pub made_of : {A : Type 0} {x : Read A} {ka : A → Cursor → R} {one : A → List ℕ} {t₂ : Tables} {r : Result R (Refused Refusal)}
      (made : A → C) → ((a : A) (q₁ : Cursor) → ka a q₁ ≡ k (made a) q₁) → ((a : A) → before ++ one a ≡ rows (made a)) →
      Wrote x ka q (λ a. contexts_alone (one a)) t₁ t₂ r →
      Wrote (on_read x (λ a q₁. read (made a) q₁)) k c (λ b. contexts_alone (rows b)) t t₂ r
  made_of {A} {x} {ka} {one} made kinds both w = by_read x
      (λ a q₁ e. record {
        answer = w.answer ∙ rw (e, kinds a q₁);
        filled = rw e (rw e at w.filled ∙ ap (λ z. laid z q (contexts_alone (one a))) i.filled ∙
            laid-laid t c q (contexts_alone before) (contexts_alone (one a)) i.follows ∙ ap (λ z. laid t c (contexts_alone z)) (both a));
      })
      (λ n p e. record { answer = w.answer ∙ rw e; filled = rw e })

  -- the whole is made after a test
  pub made-if : (n : Refusal) (p : ℕ) (s : List ℕ) {r : Result R (Refused Refusal)} (test : Bool) (v : C) →
      r ≡ result_of k (on_read (need test n p s q) (λ u q. read v q)) → before ≡ rows v →
      Wrote (on_read (need test n p s q) (λ u q. read v q)) k c (λ b. contexts_alone (rows b)) t t₁ r
  made-if n p s true v e h = record { answer = e; filled = i.filled ∙ ap (λ z. laid t c (contexts_alone z)) h }
  made-if n p s false v e h = record { answer = e; filled = refl }
