-- Every refusal of reading has a number from 1 to 16 and a place in the request, or in the dictionary where that is at fault.
use Prim.Native.Nat.{ℕ, zero, suc, ◌+◌, ◌-◌, ◌≤◌, ◌<◌}
use mathlib.Core.Path.{◌≡◌, refl, subst}
use mathlib.Core.Bool.{Bool, true, false, cond}
use mathlib.Core.List.{List, []}
use mathlib.Core.Option.{Option, none, some}
use native.Mathlib.Omega.{arith}
use lib.Dec.{eqb, leb, ltb}
use lib.ListN.{length}
use borrow.Author.Tests.{leb-true, ltb-true, ne_eqb}
use Rattle.wire.specs.Codes as blr
use Rattle.wire.specs.Limits.{max_depth}
use Rattle.wire.specs.Words.{word_at}
use Rattle.wire.specs.Versions.{is_version}
use Rattle.wire.specs.declared.codes.Version.{Version}
use Rattle.dictionary.specs.Dictionary.{Relation, entry, Checked, proper, at_fault, next_entry, entries, dictionary}
use Rattle.grammar.specs.declared.Refusal.{Refusal}
use Rattle.grammar.specs.declared.Refusal.TheVariants.{TablesTooShort, RequestTooLong}
use Rattle.grammar.specs.Refusals.{number}
use Rattle.grammar.specs.Tree.{Message, Request}
use Rattle.grammar.specs.Environment.{outermost}
use Rattle.grammar.specs.Reader.{byte, Read, read, refused}
use Rattle.grammar.specs.Reading.{version, nothing_more, outer_statements, request, start, beside, reading, room, answer}
use Rattle.grammar.specs.Demands.{RefusalWithin}
use Rattle.grammar.proofs.StepLaws.{absurd-eq}
use Rattle.grammar.proofs.Went.{both}
use Rattle.grammar.proofs.Bounded.{byte-stays, tested_stays, OfRequest, Bounded, went, stopped, Stays, ◌onward◌, by-test, code_stays, counted-stays, messages-stays}
use Rattle.grammar.proofs.BoundedStatements.{many-stays, statement-stays}

-- ---- a request

module _ (s : List ℕ) where
  nothing-more-stays : Stays s nothing_more
  unfolding nothing_more number
  nothing-more-stays c h = by-test s (eqb c.at (length s)) (λ t. went h) (stopped refl h)

  outer-stays : (v : Version) (d : List Relation) (ms : List Message) → Stays s (outer_statements v d ms)
  unfolding outer_statements
  outer-stays v d ms = many-stays s 512 _ (statement-stays s (max_depth - 1) (record { version = v; relations = d; messages = ms }) outermost)

  version-stays : Stays s version
  unfolding version number
  version-stays c h = tested_stays s byte is_version _ refl (byte-stays s) c h onward λ b q i. went i

  pub request-stays : (d : List Relation) → Stays s (request d)
  unfolding request number
  request-stays d c h = version-stays c h onward λ v q i. code_stays s blr.begin _ refl q i onward λ y q₁ i₁.
      counted-stays s q.at i q₁ i₁ onward λ u q₂ i₂. messages-stays s v 16 [] q₂ i₂ onward λ ms q₃ i₃.
      outer-stays v d ms q₃ i₃ onward λ ts q₄ i₄. code_stays s blr.eoc _ refl q₄ i₄ onward λ z q₅ i₅.
      nothing-more-stays q₅ i₅ onward λ u₁ q₆ i₆. went i₆

-- ---- the dictionary

next-fault : (d : List ℕ) (b : Bool) (x : Option (List Relation)) (p : ℕ) (rs : List Relation) (next : List Relation → Checked) (q : ℕ) →
    (b ≡ true → p < length d) → ((rs' : List Relation) → next rs' ≡ at_fault q → q < length d) → next_entry b x p rs next ≡ at_fault q →
    q < length d
next-fault d false x p rs next q h f e = absurd-eq (cc)
next-fault d true none p rs next q h f e = let w : p ≡ q = cc in omega (arith, h refl)
next-fault d true (some rs') p rs next q h f e = f rs' e

entries-fault : (n : ℕ) (d : List ℕ) (p : ℕ) (rs : List Relation) (q : ℕ) → entries n d p rs ≡ at_fault q → q < length d
unfolding entries
entries-fault zero d p rs q e = absurd-eq (cc)
entries-fault (suc n) d p rs q e = next-fault d (ltb p (length d)) (entry d p rs) p rs (λ rs'. entries n d (p + word_at d p) rs') q
    (ltb-true p (length d)) (λ rs'. entries-fault n d (p + word_at d p) rs' q) e

-- an entry at fault is in the dictionary, and a dictionary that is too long is at fault at 0
pub fault-within : (d : List ℕ) (q : ℕ) → dictionary d ≡ at_fault q → (q ≤ length d) × (q ≤ 65535)
unfolding dictionary
fault-within d q e = by (leb (length d) 65535) (leb-true (length d) 65535) e
  where
    by : (b : Bool) → (b ≡ true → length d ≤ 65535) → cond b (entries (length d) d 0 []) (at_fault 0) ≡ at_fault q →
        (q ≤ length d) × (q ≤ 65535)
    by true h e = let w = entries-fault (length d) d 0 [] q e in (omega arith, omega (arith, h refl))
    by false h e = let w : 0 ≡ q = cc in (omega arith, omega arith)

-- ---- reading

-- what was refused is the refusal
same-refusal : {A : Type 0} {x r : Refusal} {q p : ℕ} → ◌≡◌ {A = Read A} (refused x q) (refused r p) →
    (P : Refusal → ℕ → Type 0) → P x q → P r p
same-refusal {x} {r} {q} {p} e P h =
    let u : x ≡ r = cc in
    let v : q ≡ p = cc in
    subst (λ z. P z p) u (subst (λ z. P x z) v h)

module _ (s d : List ℕ) where
  of-request : (r : Refusal) (p : ℕ) → OfRequest r → p ≤ length s → length s ≤ 65535 → RefusalWithin s d r p
  unfolding number
  of-request r p n h short =
      let t = both (leb 4 (number r)) (leb (number r) 16) n in
      let a = leb-true 4 (number r) t.0 in
      let f : eqb (number r) 3 ≡ false = ne_eqb (number r) 3 (λ z. omega arith) in
      record { least = omega arith; most = leb-true (number r) 16 t.1; placed = rw f h; short = omega arith }

  request-within : (x : Read Request) → Bounded s x → length s ≤ 65535 → (r : Refusal) (p : ℕ) → x ≡ refused r p → RefusalWithin s d r p
  request-within (read a c) (went h) short r p e = absurd-eq (cc)
  request-within (refused x q) (stopped n h) short r p e = same-refusal e (RefusalWithin s d) (of-request x q n h short)

  beside-within : (x : Checked) → dictionary d ≡ x → length s ≤ 65535 → (r : Refusal) (p : ℕ) →
      beside x s ≡ refused r p → RefusalWithin s d r p
  unfolding number
  beside-within (proper rs) e short r p h = request-within (request rs s start) (request-stays s rs start (omega arith)) short r p h
  beside-within (at_fault q) e short r p h =
      let w = fault-within d q e in
      same-refusal h (RefusalWithin s d) (record { least = omega arith; most = omega arith; placed = w.0; short = w.1 })

  at-start : (r : Refusal) → 1 ≤ number r → number r ≤ 16 → RefusalWithin s d r 0
  at-start r a b = record { least = a; most = b; placed = omega arith; short = omega arith }

  pub refusal-within : (r : Refusal) (p : ℕ) → reading s d ≡ refused r p → RefusalWithin s d r p
  unfolding reading number
  refusal-within r p e = by (leb (length s) 65535) (leb-true (length s) 65535) e
    where
      by : (b : Bool) → (b ≡ true → length s ≤ 65535) → cond b (beside (dictionary d) s) (refused RequestTooLong 0) ≡ refused r p →
          RefusalWithin s d r p
      by true h e = beside-within (dictionary d) refl (h refl) r p e
      by false h e = same-refusal e (RefusalWithin s d) (at-start RequestTooLong (omega arith) (omega arith))

  -- beside tables of so many numbers
  pub answer-refusal-within : (n m k : ℕ) (r : Refusal) (p : ℕ) → answer s d n m k ≡ refused r p → RefusalWithin s d r p
  unfolding answer number
  answer-refusal-within n m k r p e = by (room n m k) e
    where
      by : (b : Bool) → cond b (reading s d) (refused TablesTooShort 0) ≡ refused r p → RefusalWithin s d r p
      by true e = refusal-within r p e
      by false e = same-refusal e (RefusalWithin s d) (at-start TablesTooShort (omega arith) (omega arith))
