-- Booleans: what the code under each boolean code answers, and the rows that it lays.
use Prim.Native.Nat.{ℕ, ◌+◌, ◌-◌}
use mathlib.Core.Path.{◌≡◌, refl, ◌∙◌}
use mathlib.Core.Bool.{Bool, true, false, false≢true}
use mathlib.Core.List.{List, ◌++◌}
use mathlib.Core.Option.{Option}
use native.Mathlib.Omega.{arith}
use lib.ListN.{length}
use Rattle.std.specs.Prelude.{Result, Ok, Err}
use Rattle.std.specs.Prelude as std
use Rattle.wire.specs.Classes.{boolean_class}
use Rattle.wire.specs.declared.codes.TextSearch.{TextSearch}
use Rattle.wire.specs.declared.codes.Connective.{Connective}
use Rattle.wire.specs.declared.codes.Quantifier.{Quantifier}
use Rattle.wire.specs.declared.codes.BooleanCode.{BooleanCode}
use Rattle.wire.specs.declared.codes.BooleanCode.TheVariants.{Compare, Search, Between, Connect, Not, Missing, Quantify}
use Rattle.wire.specs.declared.refused.Refused.{Refused}
use Rattle.grammar.specs.declared.Kind.{Kind}
use Rattle.grammar.specs.declared.Cursor.{Cursor}
use Rattle.grammar.specs.declared.Refusal.{Refusal}
use Rattle.grammar.specs.declared.Refusal.TheVariants.{Unfit}
use Rattle.grammar.specs.Tree.{Value, Boolean}
use Rattle.grammar.specs.Bytes.{quantifier_code, value_bytes, boolean_bytes}
use Rattle.grammar.specs.Sizes.{boolean_contexts}
use Rattle.grammar.specs.Rows.{value_rows, boolean_rows}
use Rattle.grammar.specs.Environment.{Environment, Scope}
use Rattle.grammar.specs.Kinds.{kind_of, one_kind, both_text, all_one_kind}
use Rattle.grammar.specs.Reader.{read, refused, on_read, need}
use Rattle.grammar.specs.Values.{one_stream_rse, read_value, quantifier_under, boolean_under, read_boolean}
use Rattle.grammar.specs.Demands.{Octets}
use Rattle.grammar.specs.Internal.Steps.{kind_in}
use Rattle.grammar.proofs.SoundValues.{boolean-sound}
use Rattle.grammar.proofs.RowCounts.{boolean-rows}
use Rattle.scopes.proofs.Scopes.{kind-fit}
use Rattle.tables.specs.Tables.{Tables, result_of, cursor_after, with_part, Wrote}
use Rattle.tables.proofs.Chains.{stop, fill, stopped, likewise, wrote-moved, on-cursor, on-part}
use Rattle.expressions.specs.Promises.{ValueAnswer, Answer, leveled, no_kind, test_answer, tests_values, boolean_tables, rse_tables, operands_at}
use Rattle.expressions.proofs.Codes.{leveled-stands, leveled-of}
use Rattle.expressions.proofs.Parts.{at-start, reached-on, Part, part-read, stops, made_of, made-if}
use Rattle.expressions.proofs.ValueLaws.{ValueWrote, value-part}

-- a test as its answer
test-answer : {C : Type 0} (b : Bool) (v : C) (p : ℕ) (s : List ℕ) (q : Cursor) →
    test_answer b p q ≡ result_of (with_part no_kind) (on_read (need b Unfit p s q) (λ u q'. read v q'))
test-answer true v p s q = refl
test-answer false v p s q = refl

-- a code of another arm has values under it
pub tests-values : (k : BooleanCode) → ((o : Connective) → k ≡ Connect o → ⊥) → (k ≡ Not → ⊥) → ((q : Quantifier) → k ≡ Quantify q → ⊥) →
    tests_values k ≡ true
tests-values (Compare o) c n q = refl
tests-values (Search o) c n q = refl
tests-values Between c n q = refl
tests-values (Connect o) c n q = absurd (c o refl)
tests-values Not c n q = absurd (n refl)
tests-values Missing c n q = refl
tests-values (Quantify x) c n q = absurd (q x refl)

-- ---- under each code

module _ (s : List ℕ) (e : Environment) (sc : Scope) (l : ℕ) where
  -- what is promised of a boolean, and a boolean that was read
  abbrev pub BooleanWrote : Cursor → Tables → Tables → Answer → Type 0
  BooleanWrote c = Wrote (read_boolean l e sc s c) cursor_after c (boolean_tables e sc c.at)

  abbrev pub BooleanPart : Cursor → Tables → Tables → Cursor → Type 0
  BooleanPart c = Part (read_boolean l e sc s c) boolean_bytes (λ b. boolean_rows e.relations sc b c.at) c

  pub boolean-part : Octets s → {c q : Cursor} {t t' : Tables} {r : Answer} → BooleanWrote c t t' r → r ≡ Ok q →
      {G : Type 0} → (BooleanPart c t t' q → G) → G
  boolean-part known {c} {q} w i g = on-cursor w i (λ a u j.
      g (part-read boolean_contexts a u (boolean-sound s known e sc l c a q u).went (boolean-rows e.relations sc a c.at) j))

  -- what is promised of the values under a code at p
  abbrev TestWrote : ℕ → BooleanCode → Cursor → Tables → Tables → ValueAnswer → Type 0
  TestWrote p k c = Wrote (boolean_under (operands_at l e) e sc p k s c) (with_part no_kind) c (boolean_tables e sc p)

-- ---- values, and a test of them

module _ (s : List ℕ) (e : Environment) (sc : Scope) (l p : ℕ) (c : Cursor) {t t₁ : Tables} {a : ValueAnswer}
    (w : ValueWrote s e sc l c t t₁ a) where
  -- a refused operand refuses the whole
  pub first-stopped : (k : BooleanCode) {y : Refused Refusal} → tests_values k ≡ true → a ≡ Err y → TestWrote s e sc l p k c t t₁ (Err y)
  unfolding boolean_under
  first-stopped (Compare o) m y = stops w y (λ z. rw z)
  first-stopped (Search o) m y = stops w y (λ z. rw z)
  first-stopped Between m y = stops w y (λ z. rw z)
  first-stopped (Connect o) m y = absurd (false≢true m)
  first-stopped Not m y = absurd (false≢true m)
  first-stopped Missing m y = stops w y (λ z. rw z)
  first-stopped (Quantify q) m y = absurd (false≢true m)

  module _ (known : Octets s) {x : std.Option Kind} {q : Cursor} (y : a ≡ Ok (x, q)) where
    pub missing-wrote : {k : BooleanCode} → k ≡ Missing → c.at ≡ p + 1 → TestWrote s e sc l p k c t t₁ (Ok (std.None, q))
    unfolding boolean_under boolean_rows
    missing-wrote ke here = rw ke (value-part s e sc l known w y (λ v fit.
        likewise (rw v.is) (made-if v.reached Unfit p s true (Boolean.missing v.part) refl (rw here))))

    module _ {b : ValueAnswer} {t₂ : Tables} (w₁ : ValueWrote s e sc l q t₁ t₂ b) where
      pub second-stopped : (k : BooleanCode) {z : Refused Refusal} → tests_values k ≡ true → (k ≡ Missing → ⊥) → b ≡ Err z →
          TestWrote s e sc l p k c t t₂ (Err z)
      unfolding boolean_under
      second-stopped (Compare o) m n y₁ = value-part s e sc l known w y (λ v fit. stops w₁ y₁ (λ z. rw (v.is, z)))
      second-stopped (Search o) m n y₁ = value-part s e sc l known w y (λ v fit. stops w₁ y₁ (λ z. rw (v.is, z)))
      second-stopped Between m n y₁ = value-part s e sc l known w y (λ v fit. stops w₁ y₁ (λ z. rw (v.is, z)))
      second-stopped (Connect o) m n y₁ = absurd (false≢true m)
      second-stopped Not m n y₁ = absurd (false≢true m)
      second-stopped Missing m n y₁ = absurd (n refl)
      second-stopped (Quantify q) m n y₁ = absurd (false≢true m)

      module _ {x₁ : std.Option Kind} {q₁ : Cursor} (y₁ : b ≡ Ok (x₁, q₁)) where
        two-wrote : (test : Option Kind → Option Kind → Bool) (made : Value → Value → Boolean) →
            ((v w : Value) → boolean_rows e.relations sc (made v w) p ≡
            value_rows e.relations sc v (p + 1) ++ value_rows e.relations sc w (p + 1 + length (value_bytes v))) →
            c.at ≡ p + 1 → {m : Bool} {r : ValueAnswer} → m ≡ test (kind_in x) (kind_in x₁) → r ≡ test_answer m p q₁ →
            Wrote (on_read (read_value l e sc s c) (λ v q. on_read (read_value l e sc s q) (λ w q₁.
            on_read (need (test (kind_of e sc v) (kind_of e sc w)) Unfit p s q₁) (λ u q'. read (made v w) q'))))
            (with_part no_kind) c (boolean_tables e sc p) t t₂ r
        two-wrote test made rows here i h = value-part s e sc l known w y (λ v fit. value-part s e sc l known w₁ y₁ (λ v₁ fit₁.
            let kinds = test (kind_of e sc v.part) (kind_of e sc v₁.part) in
            let there : q.at ≡ p + 1 + length (value_bytes v.part) = omega (arith, here, v.place) in
            likewise (rw (v.is, v₁.is)) (made-if (reached-on v.reached v₁.reached) Unfit p s kinds (made v.part v₁.part)
            (h ∙ rw (i, fit, fit₁, kind-fit (kind_of e sc v.part), kind-fit (kind_of e sc v₁.part))
            (test-answer kinds (made v.part v₁.part) p s q₁))
            (rw (here, there, rows v.part v₁.part)))))

        pub search-wrote : {k : BooleanCode} {o : TextSearch} {m : Bool} {r : ValueAnswer} → k ≡ Search o → c.at ≡ p + 1 →
            m ≡ both_text (kind_in x) (kind_in x₁) → r ≡ test_answer m p q₁ → TestWrote s e sc l p k c t t₂ r
        unfolding boolean_under boolean_rows
        search-wrote {k} {o} ke here i h = rw ke (two-wrote both_text (Boolean.search o) (λ v w. refl) here i h)

        -- of the other codes
        pub compare-wrote : (k : BooleanCode) {m : Bool} {r : ValueAnswer} → tests_values k ≡ true → (k ≡ Missing → ⊥) →
            ((o : TextSearch) → k ≡ Search o → ⊥) → (k ≡ Between → ⊥) → c.at ≡ p + 1 → m ≡ one_kind (kind_in x) (kind_in x₁) →
            r ≡ test_answer m p q₁ → TestWrote s e sc l p k c t t₂ r
        unfolding boolean_under boolean_rows
        compare-wrote (Compare o) m n d f here i h = two-wrote one_kind (Boolean.compare o) (λ v w. refl) here i h
        compare-wrote (Search o) m n d f here i h = absurd (d o refl)
        compare-wrote Between m n d f here i h = absurd (f refl)
        compare-wrote (Connect o) m n d f here i h = absurd (false≢true m)
        compare-wrote Not m n d f here i h = absurd (false≢true m)
        compare-wrote Missing m n d f here i h = absurd (n refl)
        compare-wrote (Quantify q) m n d f here i h = absurd (false≢true m)

        module _ {k : BooleanCode} (ke : k ≡ Between) {d : ValueAnswer} {t₃ : Tables} (w₂ : ValueWrote s e sc l q₁ t₂ t₃ d) where
          pub third-stopped : {z : Refused Refusal} → d ≡ Err z → TestWrote s e sc l p k c t t₃ (Err z)
          unfolding boolean_under
          third-stopped y₂ = rw ke (value-part s e sc l known w y (λ v fit. value-part s e sc l known w₁ y₁ (λ v₁ fit₁.
              stops w₂ y₂ (λ z. rw (v.is, v₁.is, z)))))

          pub between-wrote : {x₂ : std.Option Kind} {q₂ : Cursor} {m : Bool} {r : ValueAnswer} → d ≡ Ok (x₂, q₂) → c.at ≡ p + 1 →
              m ≡ all_one_kind (kind_in x) (kind_in x₁) (kind_in x₂) → r ≡ test_answer m p q₂ → TestWrote s e sc l p k c t t₃ r
          unfolding boolean_under boolean_rows
          between-wrote {x₂} {q₂} y₂ here i h = rw ke (value-part s e sc l known w y (λ v fit. value-part s e sc l known w₁ y₁ (λ v₁ fit₁.
              value-part s e sc l known w₂ y₂ (λ v₂ fit₂.
              let kinds = all_one_kind (kind_of e sc v.part) (kind_of e sc v₁.part) (kind_of e sc v₂.part) in
              let whole = Boolean.between v.part v₁.part v₂.part in
              let there : q.at ≡ p + 1 + length (value_bytes v.part) = omega (arith, here, v.place) in
              let last : q₁.at ≡ p + 1 + length (value_bytes v.part) + length (value_bytes v₁.part) =
              omega (arith, there, v₁.place) in
              likewise (rw (v.is, v₁.is, v₂.is))
              (made-if (reached-on (reached-on v.reached v₁.reached) v₂.reached) Unfit p s kinds whole
              (h ∙ rw (
                i,
                fit,
                fit₁,
                fit₂,
                kind-fit (kind_of e sc v.part),
                kind-fit (kind_of e sc v₁.part),
                kind-fit (kind_of e sc v₂.part),
              ) (test-answer kinds whole p s q₂)) (rw (here, there, last)))))))

-- ---- a boolean, by what was read of its code

module _ (s : List ℕ) (e : Environment) (sc : Scope) (l : ℕ) (c : Cursor) where
  boolean-leveled : read_boolean l e sc s c ≡
      on_read (leveled boolean_class l s c) (λ k q. boolean_under (operands_at (l - 1) e) e sc c.at k s q)
  unfolding read_boolean
  boolean-leveled =
      leveled-of boolean_class s c (λ l. read_boolean l e sc s c) (λ l k q. boolean_under (operands_at l e) e sc c.at k s q) l refl
      (λ l. refl)

  pub boolean-refused : {y : Refused Refusal} {t t' : Tables} → leveled boolean_class l s c ≡ refused y.refusal y.place →
      BooleanWrote s e sc l c t t' (Err y)
  boolean-refused i = stop (boolean-leveled ∙ rw i)

  module _ {k : BooleanCode} {q : Cursor} (i : leveled boolean_class l s c ≡ read k q) {t : Tables} where
    under-wrote : {t' : Tables} {r : Answer} →
        Wrote (boolean_under (operands_at (l - 1) e) e sc c.at k s q) cursor_after q (boolean_tables e sc c.at) t t' r →
        BooleanWrote s e sc l c t t' r
    under-wrote w = likewise (boolean-leveled ∙ rw i) (wrote-moved (leveled-stands boolean_class l s c i).counts w)

    -- a test of values
    module _ {t' : Tables} {r : ValueAnswer} (w : TestWrote s e sc (l - 1) c.at k q t t' r) where
      pub test-wrote : {f : std.Option Kind} {q' : Cursor} → r ≡ Ok (f, q') → BooleanWrote s e sc l c t t' (Ok q')
      test-wrote y = under-wrote (on-part w y (λ b h fit filled. fill h refl filled))

      pub test-stopped : {z : Refused Refusal} → r ≡ Err z → BooleanWrote s e sc l c t t' (Err z)
      test-stopped y = under-wrote (stop (stopped w y))

    pub quantify-wrote : {x : Quantifier} {o : ℕ} {t' : Tables} {r : Answer} → k ≡ Quantify x → o ≡ quantifier_code x →
        Wrote (one_stream_rse (operands_at (l - 1) e) e sc o s q) cursor_after q (rse_tables e sc o q.at) t t' r →
        BooleanWrote s e sc l c t t' r
    unfolding boolean_under quantifier_under boolean_rows
    quantify-wrote {x} ke oe w = under-wrote (rw ke (made_of at-start {x = one_stream_rse (operands_at (l - 1) e) e sc (quantifier_code x) s q}
        (Boolean.quantify x) (λ r q. refl) (λ r. rw (leveled-stands boolean_class l s c i).place) (rw oe at w)))

    module _ {a : Answer} {t₁ : Tables} (w : BooleanWrote s e sc (l - 1) q t t₁ a) where
      pub not-wrote : k ≡ Not → BooleanWrote s e sc l c t t₁ a
      unfolding boolean_under boolean_rows
      not-wrote ke = under-wrote (rw ke
          (made_of at-start Boolean.not (λ b q. refl) (λ b. rw (leveled-stands boolean_class l s c i).place) w))

      module _ {o : Connective} (ke : k ≡ Connect o) where
        pub boolean-stopped : {z : Refused Refusal} → a ≡ Err z → BooleanWrote s e sc l c t t₁ (Err z)
        unfolding boolean_under
        boolean-stopped y = under-wrote (rw ke (stops w y (λ z. rw z)))

        pub connect-wrote : Octets s → {q₁ : Cursor} {t₂ : Tables} {b : Answer} → a ≡ Ok q₁ →
            BooleanWrote s e sc (l - 1) q₁ t₁ t₂ b → BooleanWrote s e sc l c t t₂ b
        unfolding boolean_under boolean_rows
        connect-wrote known {q₁} y w₁ = under-wrote (rw ke (boolean-part s e sc (l - 1) known w y (λ v.
            let first = (leveled-stands boolean_class l s c i).place in
            let there : q₁.at ≡ c.at + 1 + length (boolean_bytes v.part) = omega (arith, first, v.place) in
            likewise (rw v.is) (made_of v.reached (Boolean.connect o v.part) (λ b q. refl) (λ b. rw (first, there)) w₁))))
