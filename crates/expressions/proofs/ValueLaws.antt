-- Values: what the code under each value code answers, and the rows that it lays.
use Prim.Native.Nat.{ℕ, ◌+◌, ◌-◌}
use mathlib.Core.Path.{◌≡◌, refl, ap, ◌∙◌}
use mathlib.Core.List.{List}
use mathlib.Core.Option.{Option, none, some}
use native.Mathlib.Omega.{arith}
use lib.IntN.{pos}
use lib.ListN.{length}
use Rattle.std.specs.Prelude.{Result, Ok, Err}
use Rattle.std.specs.Prelude as std
use Rattle.wire.specs.Codes as blr
use Rattle.wire.specs.Lists.{is_some}
use Rattle.wire.specs.Classes.{value_class}
use Rattle.wire.specs.declared.codes.Version.{Version}
use Rattle.wire.specs.declared.codes.Operator.{Operator}
use Rattle.wire.specs.declared.codes.ReferenceCode.{ReferenceCode}
use Rattle.wire.specs.declared.codes.Statistic.{Statistic}
use Rattle.wire.specs.declared.codes.ValueCode.{ValueCode}
use Rattle.wire.specs.declared.codes.ValueCode.TheVariants as Code
use Rattle.wire.specs.declared.refused.Refused.{Refused}
use Rattle.grammar.specs.declared.Kind.{Kind}
use Rattle.grammar.specs.declared.Kind.TheVariants.{Number}
use Rattle.grammar.specs.declared.Cursor.{Cursor}
use Rattle.grammar.specs.declared.Refusal.{Refusal}
use Rattle.grammar.specs.declared.Refusal.TheVariants.{Unfit}
use Rattle.grammar.specs.declared.Role.TheVariants.{AsValue}
use Rattle.grammar.specs.Tree.{literal, reference, arithmetic, negate, count}
use Rattle.grammar.specs.Bytes.{value_bytes}
use Rattle.grammar.specs.Sizes.{value_contexts}
use Rattle.grammar.specs.Rows.{value_rows}
use Rattle.grammar.specs.Environment.{Environment, Scope}
use Rattle.grammar.specs.Kinds.{kind_of, arithmetic_kind, negated_kind}
use Rattle.grammar.specs.Reader.{Read, read, refused, on_read, need}
use Rattle.grammar.specs.Values.{read_literal, read_reference, one_stream_rse, statistic_under, count_under, value_under, read_value}
use Rattle.grammar.specs.Demands.{Octets}
use Rattle.grammar.specs.Internal.Steps.{fit_of, kind_in, answer_of}
use Rattle.grammar.proofs.SoundValues.{value-sound}
use Rattle.grammar.proofs.RowCounts.{value-rows}
use Rattle.scopes.proofs.Scopes.{kind-fit}
use Rattle.references.specs.Promises.{literal_fit, reference_fit, reference_step}
use Rattle.tables.specs.Tables.{Tables, result_of, cursor_after, with_part, Wrote}
use Rattle.tables.proofs.Chains.{by_read, stop, kept, likewise, wrote-moved, part-result, on-part}
use Rattle.expressions.specs.Promises.{ValueAnswer, Answer, leveled, kind_answer, count_answer, value_fit, value_tables, rse_tables, operands_at}
use Rattle.expressions.proofs.Codes.{leveled-stands, leveled-of}
use Rattle.expressions.proofs.Parts.{at-start, reached-on, Part, part-read, stops, made_of, made-if}

-- an operator's kind as its answer
kind-answer : {C : Type 0} (f : C → std.Option Kind) (x : Option Kind) (v : C) (p : ℕ) (s : List ℕ) (q : Cursor) → f v ≡ fit_of x →
    kind_answer x p q ≡ result_of (with_part f) (on_read (need (is_some x) Unfit p s q) (λ u q'. read v q'))
kind-answer f none v p s q e = refl
kind-answer f (some x) v p s q e = rw e

-- a count as its answer
as-count : {A : Type 0} {x : Read A} {c : Cursor} {rows : A → Tables} {t t' : Tables} {a : Answer} {r : ValueAnswer} →
    Wrote x cursor_after c rows t t' a → r ≡ count_answer a → Wrote x (with_part (λ b. std.Some (Number (pos 0)))) c rows t t' r
as-count {A} {x} w h = by_read x
    (λ b q e. record { answer = h ∙ ap count_answer w.answer ∙ rw e; filled = w.filled })
    (λ n p e. record { answer = h ∙ ap count_answer w.answer ∙ rw e; filled = w.filled })

module _ (s : List ℕ) (e : Environment) (sc : Scope) (l : ℕ) where
  -- what is promised of a value, and a value that was read
  abbrev pub ValueWrote : Cursor → Tables → Tables → ValueAnswer → Type 0
  ValueWrote c = Wrote (read_value l e sc s c) (with_part (value_fit e sc)) c (value_tables e sc c.at)

  abbrev pub ValuePart : Cursor → Tables → Tables → Cursor → Type 0
  ValuePart c = Part (read_value l e sc s c) value_bytes (λ v. value_rows e.relations sc v c.at) c

  pub value-part : Octets s → {c q : Cursor} {t t' : Tables} {r : ValueAnswer} {f : std.Option Kind} → ValueWrote c t t' r → r ≡ Ok (f, q) →
      {G : Type 0} → ((v : ValuePart c t t' q) → f ≡ value_fit e sc v.part → G) → G
  value-part known {c} {q} w i g = on-part w i (λ a u h j.
      g (part-read value_contexts a u (value-sound s known e sc l c a q u).went (value-rows e.relations sc a c.at) j) h)

-- by what was read of the code
module _ (s : List ℕ) (e : Environment) (sc : Scope) (l : ℕ) (c : Cursor) where
  value-leveled : read_value l e sc s c ≡ on_read (leveled value_class l s c) (λ k q. value_under (operands_at (l - 1) e) e sc c.at k s q)
  unfolding read_value
  value-leveled =
      leveled-of value_class s c (λ l. read_value l e sc s c) (λ l k q. value_under (operands_at l e) e sc c.at k s q) l refl (λ l. refl)

  pub value-refused : {y : Refused Refusal} {t t' : Tables} → leveled value_class l s c ≡ refused y.refusal y.place →
      ValueWrote s e sc l c t t' (Err y)
  value-refused i = stop (value-leveled ∙ rw i)

  module _ {k : ValueCode} {q : Cursor} (i : leveled value_class l s c ≡ read k q) where
    -- what stands under the code
    under : {t t' : Tables} {r : ValueAnswer} (k' : ValueCode) → k ≡ k' →
        Wrote (value_under (operands_at (l - 1) e) e sc c.at k' s q) (with_part (value_fit e sc)) q (value_tables e sc c.at) t t' r →
        ValueWrote s e sc l c t t' r
    under k' ke w = likewise (value-leveled ∙ rw (i, ke)) (wrote-moved (leveled-stands value_class l s c i).counts w)

    module _ {t : Tables} where
      pub literal-wrote : {r : ValueAnswer} {v : Version} → v ≡ e.version → k ≡ Code.Literal → r ≡ answer_of literal_fit (read_literal v s q) →
          ValueWrote s e sc l c t t r
      unfolding value_under kind_of value_rows
      literal-wrote ve ke h = under Code.Literal ke
          (made_of at-start {x = read_literal e.version s q} literal (λ a q. refl) (λ a. refl)
          (kept (h ∙ ap (λ v. answer_of literal_fit (read_literal v s q)) ve ∙ part-result literal_fit (read_literal e.version s q))))

      pub reference-wrote : {r : ValueAnswer} {code : ReferenceCode} → k ≡ Code.Reference code →
          r ≡ reference_step e sc AsValue c.at code s q → ValueWrote s e sc l c t t r
      unfolding value_under kind_of value_rows reference_step
      reference-wrote {r} {code} ke h = under (Code.Reference code) ke
          (made_of at-start {x = read_reference e sc AsValue c.at code s q} reference (λ a q. refl) (λ a. refl)
          (kept (h ∙ part-result (reference_fit e sc) (read_reference e sc AsValue c.at code s q))))

      pub statistic-wrote : {m : Statistic} {t₁ : Tables} {r : ValueAnswer} → k ≡ Code.Statistic m →
          Wrote (statistic_under (operands_at (l - 1) e) e sc c.at m s q) (with_part (value_fit e sc)) q (value_tables e sc c.at) t t₁ r →
          ValueWrote s e sc l c t t₁ r
      unfolding value_under
      statistic-wrote {m} ke w = under (Code.Statistic m) ke w

      pub count-wrote : {t₁ : Tables} {a : Answer} {r : ValueAnswer} → k ≡ Code.Count →
          Wrote (one_stream_rse (operands_at (l - 1) e) e sc blr.count s q) cursor_after q (rse_tables e sc blr.count q.at) t t₁ a →
          r ≡ count_answer a → ValueWrote s e sc l c t t₁ r
      unfolding value_under count_under kind_of value_rows
      count-wrote ke w h = under Code.Count ke (made_of at-start {x = one_stream_rse (operands_at (l - 1) e) e sc blr.count s q} count
          (λ a q. refl) (λ a. rw (leveled-stands value_class l s c i).place) (as-count w h))

      module _ {a : ValueAnswer} {t₁ : Tables} (w : ValueWrote s e sc (l - 1) q t t₁ a) where
        -- a refused operand refuses the whole
        pub negate-stopped : {y : Refused Refusal} → k ≡ Code.Negate → a ≡ Err y → ValueWrote s e sc l c t t₁ (Err y)
        unfolding value_under
        negate-stopped ke y = under Code.Negate ke (stops w y (λ z. rw z))

        pub first-stopped : {y : Refused Refusal} {o : Operator} → k ≡ Code.Arithmetic o → a ≡ Err y → ValueWrote s e sc l c t t₁ (Err y)
        unfolding value_under
        first-stopped {o} ke y = under (Code.Arithmetic o) ke (stops w y (λ z. rw z))

        module _ (known : Octets s) {x : std.Option Kind} {q₁ : Cursor} (y : a ≡ Ok (x, q₁)) where
          pub negate-wrote : {r : ValueAnswer} → k ≡ Code.Negate → r ≡ kind_answer (negated_kind (kind_in x)) c.at q₁ →
              ValueWrote s e sc l c t t₁ r
          unfolding value_under kind_of value_rows
          negate-wrote ke h = under Code.Negate ke (value-part s e sc (l - 1) known w y (λ v fit.
              let whole = negate v.part in
              likewise (rw v.is) (made-if v.reached Unfit c.at s (is_some (kind_of e sc whole)) whole
              (h ∙ rw (fit, kind-fit (kind_of e sc v.part)) (kind-answer (value_fit e sc) (kind_of e sc whole) whole c.at s q₁ refl))
              (rw (leveled-stands value_class l s c i).place))))

          module _ {o : Operator} (ke : k ≡ Code.Arithmetic o) {b : ValueAnswer} {t₂ : Tables}
              (w₁ : ValueWrote s e sc (l - 1) q₁ t₁ t₂ b) where
            pub second-stopped : {z : Refused Refusal} → b ≡ Err z → ValueWrote s e sc l c t t₂ (Err z)
            unfolding value_under
            second-stopped y₁ =
                under (Code.Arithmetic o) ke (value-part s e sc (l - 1) known w y (λ v fit. stops w₁ y₁ (λ z. rw (v.is, z))))

            pub arithmetic-wrote : {z : std.Option Kind} {q₂ : Cursor} {r : ValueAnswer} {v : Version} → v ≡ e.version → b ≡ Ok (z, q₂) →
                r ≡ kind_answer (arithmetic_kind v o (kind_in x) (kind_in z)) c.at q₂ → ValueWrote s e sc l c t t₂ r
            unfolding value_under kind_of value_rows
            arithmetic-wrote {z} {q₂} ve y₁ h = under (Code.Arithmetic o) ke (value-part s e sc (l - 1) known w y (λ v fit.
                value-part s e sc (l - 1) known w₁ y₁ (λ v₁ fit₁.
                let whole = arithmetic o v.part v₁.part in
                let first = (leveled-stands value_class l s c i).place in
                let there : q₁.at ≡ c.at + 1 + length (value_bytes v.part) = omega (arith, first, v.place) in
                likewise (rw (v.is, v₁.is))
                (made-if (reached-on v.reached v₁.reached) Unfit c.at s (is_some (kind_of e sc whole)) whole
                (h ∙ rw (ve, fit, fit₁, kind-fit (kind_of e sc v.part), kind-fit (kind_of e sc v₁.part))
                (kind-answer (value_fit e sc) (kind_of e sc whole) whole c.at s q₂ refl)) (rw (first, there))))))
