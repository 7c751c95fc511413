-- The values of a sort, and the clauses of an rse.
use Prim.Native.Nat.{ℕ, zero, suc, ◌+◌, ◌-◌}
use mathlib.Core.Path.{◌≡◌, refl, sym, ◌∙◌, subst}
use mathlib.Core.Bool.{Bool, true, false, not as negation, false≢true}
use mathlib.Core.List.{List, ◌∷◌, ◌++◌, append-nil}
use native.Mathlib.Numerals.{sub-one}
use native.Mathlib.Omega.{arith}
use lib.ListN.{length}
use Rattle.std.specs.Prelude.{Result, Ok, Err, None, Some, is_some}
use Rattle.std.specs.Prelude as std
use Rattle.wire.specs.Classes.{direction_class, clause_class}
use Rattle.wire.specs.declared.refused.Refused.{Refused}
use Rattle.wire.specs.declared.codes.Direction.{Direction}
use Rattle.wire.specs.declared.codes.ClauseCode.{ClauseCode}
use Rattle.wire.specs.declared.codes.ClauseCode.TheVariants as Clause
use Rattle.grammar.specs.declared.Cursor.{Cursor}
use Rattle.grammar.specs.declared.Refusal.{Refusal}
use Rattle.grammar.specs.Tree.{Value, Boolean, no_keys, key, Clauses, no_clauses, such, sorted}
use Rattle.grammar.specs.Bytes.{value_bytes, boolean_bytes, keys_bytes, key_count}
use Rattle.grammar.specs.Sizes.{keys_contexts}
use Rattle.grammar.specs.Rows.{keys_rows, clauses_rows}
use Rattle.grammar.specs.Environment.{Environment, Scope}
use Rattle.grammar.specs.Conditions.{clauses_conditions}
use Rattle.grammar.specs.Reader.{Read, read, refused, on_read, Reader, coded}
use Rattle.grammar.specs.Values.{read_value, read_boolean}
use Rattle.grammar.specs.Rses.{count_byte, keys, sort, clauses_under, clauses}
use Rattle.grammar.specs.declared.Kind.{Kind}
use Rattle.grammar.specs.Demands.{Octets}
use Rattle.grammar.proofs.Went.{never, undo, same}
use Rattle.grammar.proofs.SoundValues.{value-sound, boolean-sound}
use Rattle.grammar.proofs.SoundRses.{ClausesSound, sort-sound, clauses-sound, count-went}
use Rattle.grammar.proofs.RowCounts.{keys-rows}
use Rattle.grammar.proofs.Codes.{direction-due, coded-went}
use Rattle.tables.specs.Tables.{Tables, contexts_alone, cursor_after, Wrote}
use Rattle.tables.specs.Written.{listed}
use Rattle.tables.proofs.Chains.{by_read, stop, fill, likewise, wrote-moved, stopped, on-cursor}
use Rattle.expressions.specs.Promises.{ValueAnswer, Answer, PlaceAnswer, keys_tables, clauses_places, clause_due, clause_coded, MoreClauses}
use Rattle.expressions.proofs.Codes.{Stands, clause-stood, clause-stands, clause-twice, clause-refused}
use Rattle.expressions.proofs.Parts.{counted, moved, reached-on, Part, part-read, stops, made_of}
use Rattle.expressions.proofs.ValueLaws.{ValueWrote, value-part}
use Rattle.expressions.proofs.BooleanLaws.{BooleanWrote, boolean-part}

-- ---- the values of a sort

module _ (s : List ℕ) (e : Environment) (sc : Scope) (l : ℕ) where
  abbrev pub KeysWrote : ℕ → Cursor → Tables → Tables → Answer → Type 0
  KeysWrote n c = Wrote (keys n (read_value l e sc) s c) cursor_after c (keys_tables e sc c.at)

  abbrev pub SortWrote : Cursor → Tables → Tables → Answer → Type 0
  SortWrote c = Wrote (sort (read_value l e sc) s c) cursor_after c (keys_tables e sc (c.at + 1))

  keys-at : (n : ℕ) (c : Cursor) → (n ≡ 0 → ⊥) → keys n (read_value l e sc) s c ≡
      on_read (coded direction_class s c) (λ d q. on_read (read_value l e sc s q) (λ v q₁.
      on_read (keys (n - 1) (read_value l e sc) s q₁) (λ ks q₂. read (key d v ks) q₂)))
  unfolding keys
  keys-at zero c z = absurd (z refl)
  keys-at (suc n) c z = rw (keys, sub-one (suc n))

  module _ {n : ℕ} {c : Cursor} {t : Tables} where
    pub keys_none : n ≡ 0 → KeysWrote n c t t (Ok c)
    unfolding keys keys_rows
    keys_none z = fill {a = no_keys} (rw (z, keys)) refl refl

    module _ (some : n ≡ 0 → ⊥) where
      pub direction-stopped : {y : Refused Refusal} → coded direction_class s c ≡ refused y.refusal y.place → KeysWrote n c t t (Err y)
      direction-stopped i = stop (keys-at n c some ∙ rw i)

      module _ {o : Direction} {q : Cursor} (i : coded direction_class s c ≡ read o q) {a : ValueAnswer} {t₁ : Tables}
          (w : ValueWrote s e sc l q t t₁ a) where
        pub key-stopped : {y : Refused Refusal} → a ≡ Err y → KeysWrote n c t t₁ (Err y)
        key-stopped y = stops w y (λ z. keys-at n c some ∙ rw (i, z))

        pub keys-wrote : Octets s → {x : std.Option Kind} {q₁ : Cursor} {t₂ : Tables} {r : Answer} → a ≡ Ok (x, q₁) →
            KeysWrote (n - 1) q₁ t₁ t₂ r → KeysWrote n c t t₂ r
        unfolding keys_rows
        keys-wrote known {x} {q₁} y w₁ = value-part s e sc l known w y (λ v fit.
            let g = coded-went direction-due s c i in
            let first : q.at ≡ c.at + 1 = g.place in
            let there : q₁.at ≡ c.at + 1 + length (value_bytes v.part) = omega (arith, first, v.place) in
            likewise (keys-at n c some ∙ rw (i, v.is)) (made_of (reached-on (moved (counted g)) v.reached) (key o v.part)
            (λ ks q. refl) (λ ks. rw (first, there)) w₁))

  -- the count before them
  module _ {c : Cursor} {t t' : Tables} where
    pub sort-wrote : {n : ℕ} {q : Cursor} {r : Answer} → count_byte s c ≡ read n q → KeysWrote n q t t' r → SortWrote c t t' r
    unfolding sort
    sort-wrote {n} {q} {r} h w =
        let g = (count-went s c h).0 in
        let there : q.at ≡ c.at + 1 = g.place in
        likewise (rw h) (wrote-moved (counted g)
        (subst (λ p. Wrote (keys n (read_value l e sc) s q) cursor_after q (keys_tables e sc p) t t' r) there w))

    pub sort-stopped : {y : Refused Refusal} → count_byte s c ≡ refused y.refusal y.place → SortWrote c t t' (Err y)
    unfolding sort
    sort-stopped i = stop (rw i)

  abbrev SortPart : Cursor → Tables → Tables → Cursor → Type 0
  SortPart c = Part (sort (read_value l e sc) s c) (λ ks. key_count ks ∷ keys_bytes ks) (λ ks. keys_rows e.relations sc ks (c.at + 1)) c

  sort-part : Octets s → {c q : Cursor} {t t' : Tables} {r : Answer} → SortWrote c t t' r → r ≡ Ok q →
      {G : Type 0} → (SortPart c t t' q → G) → G
  sort-part known {c} {q} w i g = on-cursor w i (λ a u j.
      g (part-read keys_contexts a u (sort-sound l e sc s (read_value l e sc) (value-sound s known e sc l) c a q u).went
      (keys-rows e.relations sc a (c.at + 1)) j))

-- ---- clauses

module _ (booleans : Reader Boolean) (values : Reader Value) (s : List ℕ) (c : Cursor) where
  under-code : (m : ℕ) (b t : Bool) (k : ClauseCode) (q : Cursor) → coded clause_class s c ≡ read k q →
      clauses (suc m) booleans values b t s c ≡
      on_read (clause_coded (suc m) b t s c) (λ k q. clauses_under (λ b t. clauses m booleans values b t) booleans values b t c.at k s q)
  unfolding clauses clauses_under
  under-code m true t Clause.Boolean q e = rw (clauses, e, clause-twice (suc m) true t s c (λ z. absurd (omega (arith, z))) e refl)
  under-code m false t Clause.Boolean q e = rw (clauses, e, clause-stands (suc m) false t s c (λ z. absurd (omega (arith, z))) e refl)
  under-code m b true Clause.Sort q e = rw (clauses, e, clause-twice (suc m) b true s c (λ z. absurd (omega (arith, z))) e refl)
  under-code m b false Clause.Sort q e = rw (clauses, e, clause-stands (suc m) b false s c (λ z. absurd (omega (arith, z))) e refl)
  under-code m b t Clause.End q e = rw (clauses, e, clause-stands (suc m) b t s c (λ z. absurd (omega (arith, z))) e refl)

  clauses-coded : (n : ℕ) (b t : Bool) → clauses n booleans values b t s c ≡
      on_read (clause_coded n b t s c) (λ k q. clauses_under (λ b t. clauses (n - 1) booleans values b t) booleans values b t c.at k s q)
  unfolding clauses clause_coded
  clauses-coded zero b t = refl
  clauses-coded (suc m) b t = rw (sub-one (suc m)) (by_read (coded clause_class s c)
      (λ k q h. under-code m b t k q h)
      (λ r p h. rw (clauses, h, clause-refused (suc m) b t s c (λ z. absurd (omega (arith, z))) h)))

-- all clauses of an rse
abbrev pub reads_clauses : List ℕ → Environment → Scope → ℕ → Cursor → Read Clauses
reads_clauses s e sc l c = clauses 3 (read_boolean l e sc) (read_value l e sc) false false s c

pub reads-sound : (s : List ℕ) → Octets s → (e : Environment) (sc : Scope) (l : ℕ) (c : Cursor) (cs : Clauses) (q : Cursor) →
    reads_clauses s e sc l c ≡ read cs q → ClausesSound l e sc s false false c cs q
reads-sound s known e sc l c = clauses-sound l e sc s (read_boolean l e sc) (read_value l e sc) (boolean-sound s known e sc l)
    (value-sound s known e sc l) 3 false false c

-- clauses that were refused
more-stopped : {x : Read Clauses} {such : std.Option ℕ} {e : Environment} {sc : Scope} {c : Cursor} {ct ct' : List ℕ} {y : Refused Refusal} →
    x ≡ refused y.refusal y.place → MoreClauses x such e sc c ct ct' (Err y)
more-stopped h = record { place = None; wrote = stop h; told = λ cs q i. never (sym h ∙ i) }

-- after a boolean at a place, or none, and after a sort or none, by what was read of the code of the next clause
module _ (s : List ℕ) (e : Environment) (sc : Scope) (l n : ℕ) (place : std.Option ℕ) (t : Bool) (c : Cursor) where
  abbrev more : ℕ → std.Option ℕ → Bool → Cursor → Read Clauses
  more n place t c = clauses n (read_boolean l e sc) (read_value l e sc) (is_some place) t s c

  abbrev under : ClauseCode → Cursor → Read Clauses
  under k q = clauses_under (λ b t. clauses (n - 1) (read_boolean l e sc) (read_value l e sc) b t) (read_boolean l e sc) (read_value l e sc)
      (is_some place) t c.at k s q

  pub more-refused : {y : Refused Refusal} {ct ct' : List ℕ} → clause_coded n (is_some place) t s c ≡ refused y.refusal y.place →
      MoreClauses (more n place t c) place e sc c ct ct' (Err y)
  more-refused i = more-stopped (clauses-coded (read_boolean l e sc) (read_value l e sc) s c n (is_some place) t ∙ rw i)

  module _ {k : ClauseCode} {q : Cursor} (i : clause_coded n (is_some place) t s c ≡ read k q) where
    stood : Stands n s c q × (clause_due k (is_some place) t ≡ true)
    stood = clause-stood n (is_some place) t s c i

    more-at : (k' : ClauseCode) → k ≡ k' → more n place t c ≡ under k' q
    more-at k' ke = clauses-coded (read_boolean l e sc) (read_value l e sc) s c n (is_some place) t ∙ rw (i, ke)

    pub more-end : {ct : List ℕ} → k ≡ Clause.End → MoreClauses (more n place t c) place e sc c ct ct (Ok (place, q))
    unfolding clauses_under clauses_rows clauses_conditions
    more-end ke = record {
      place = place;
      wrote = fill {a = no_clauses} (more-at Clause.End ke) refl refl;
      told = λ cs q y. same (sym (more-at Clause.End ke) ∙ y) (λ cs q. listed place ≡ listed place ++ clauses_places sc cs c.at)
          (sym (append-nil (listed place)));
    }

    module _ (ke : k ≡ Clause.Boolean) where
      boolean-due : negation (is_some place) ≡ true
      boolean-due = rw ke at stood.1

      none-stood : place ≡ None
      none-stood = by place boolean-due
        where
          by : (o : std.Option ℕ) → negation (is_some o) ≡ true → o ≡ None
          by None h = refl
          by (Some p) h = absurd (false≢true h)

      boolean-at : more n place t c ≡ on_read (read_boolean l e sc s q) (λ b q₁.
          on_read (clauses (n - 1) (read_boolean l e sc) (read_value l e sc) true t s q₁) (λ cs q₂. read (such b cs) q₂))
      unfolding clauses_under
      boolean-at = more-at Clause.Boolean ke ∙ rw boolean-due

      module _ {ct ct₁ : List ℕ} {a : Answer} (w : BooleanWrote s e sc l q (contexts_alone ct) (contexts_alone ct₁) a) where
        pub boolean-stops : {y : Refused Refusal} → a ≡ Err y → MoreClauses (more n place t c) place e sc c ct ct₁ (Err y)
        boolean-stops y = more-stopped (boolean-at ∙ rw (stopped w y))

        pub more-boolean : Octets s → {q₁ : Cursor} {ct₂ : List ℕ} {r : PlaceAnswer} → a ≡ Ok q₁ →
            MoreClauses (more (n - 1) (Some q.at) t q₁) (Some q.at) e sc q₁ ct₁ ct₂ r → MoreClauses (more n place t c) place e sc c ct ct₂ r
        unfolding clauses_rows clauses_conditions
        more-boolean known {q₁} {ct₂} {r} y w₁ = boolean-part s e sc l known w y (λ v.
            let first = stood.0.place in
            let there : q₁.at ≡ c.at + 1 + length (boolean_bytes v.part) = omega (arith, first, v.place) in
            let whole : more n place t c ≡
            on_read (clauses (n - 1) (read_boolean l e sc) (read_value l e sc) true t s q₁) (λ cs q₂. read (such v.part cs) q₂) =
            boolean-at ∙ rw v.is in
            record {
              place = w₁.place;
              wrote = likewise whole (made_of (reached-on (moved stood.0.counts) v.reached) (such v.part) (λ cs q. refl)
                  (λ cs. rw (first, there)) w₁.wrote);
              told = λ cs q y. undo (clauses (n - 1) (read_boolean l e sc) (read_value l e sc) true t s q₁) _ (sym whole ∙ y) (λ cs₁ q₂ o k.
                  same k (λ cs q. listed w₁.place ≡ listed place ++ clauses_places sc cs c.at)
                  (w₁.told cs₁ q₂ o ∙ rw (none-stood, first, there)));
            })

    module _ (ke : k ≡ Clause.Sort) where
      sort-due : negation t ≡ true
      sort-due = rw ke at stood.1

      sort-at : more n place t c ≡ on_read (sort (read_value l e sc) s q) (λ ks q₁.
          on_read (more (n - 1) place true q₁) (λ cs q₂. read (sorted ks cs) q₂))
      unfolding clauses_under
      sort-at = more-at Clause.Sort ke ∙ rw sort-due

      module _ {ct ct₁ : List ℕ} {a : Answer} (w : SortWrote s e sc l q (contexts_alone ct) (contexts_alone ct₁) a) where
        pub sort-stops : {y : Refused Refusal} → a ≡ Err y → MoreClauses (more n place t c) place e sc c ct ct₁ (Err y)
        sort-stops y = more-stopped (sort-at ∙ rw (stopped w y))

        pub more-sort : Octets s → {q₁ : Cursor} {ct₂ : List ℕ} {r : PlaceAnswer} → a ≡ Ok q₁ →
            MoreClauses (more (n - 1) place true q₁) place e sc q₁ ct₁ ct₂ r → MoreClauses (more n place t c) place e sc c ct ct₂ r
        unfolding clauses_rows clauses_conditions
        more-sort known {q₁} {ct₂} {r} y w₁ = sort-part s e sc l known w y (λ v.
            let first : q.at + 1 ≡ c.at + 2 = omega (arith, stood.0.place) in
            let there : q₁.at ≡ c.at + 2 + length (keys_bytes v.part) = omega (arith, first, v.place) in
            let whole : more n place t c ≡ on_read (more (n - 1) place true q₁) (λ cs q₂. read (sorted v.part cs) q₂) =
            sort-at ∙ rw v.is in
            record {
              place = w₁.place;
              wrote = likewise whole (made_of (reached-on (moved stood.0.counts) v.reached) (sorted v.part) (λ cs q. refl)
                  (λ cs. rw (first, there)) w₁.wrote);
              told = λ cs q y. undo (clauses (n - 1) (read_boolean l e sc) (read_value l e sc) (is_some place) true s q₁) _ (sym whole ∙ y)
                  (λ cs₁ q₂ o k. same k (λ cs q. listed w₁.place ≡ listed place ++ clauses_places sc cs c.at) (w₁.told cs₁ q₂ o ∙ rw there));
            })
