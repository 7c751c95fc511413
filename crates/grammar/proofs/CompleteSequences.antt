-- Sequences of statements and of receives are read up to their end.
use Prim.Native.Nat.{ℕ, zero, suc, ◌+◌, ◌≤◌}
use mathlib.Core.Path.{◌≡◌, refl}
use mathlib.Core.Bool.{true, false, not as negation, ◌&&◌}
use mathlib.Core.List.{List, [], ◌∷◌, ◌++◌}
use native.Mathlib.Omega.{arith}
use Rattle.wire.specs.Codes as blr
use Rattle.wire.specs.Lists.{among}
use Rattle.grammar.specs.declared.Refusal.TheVariants.{TooGreat, BadMessage}
use Rattle.grammar.specs.Tree.{Statement, Statements, none as nothing, ◌then◌, Receives, last, more}
use Rattle.grammar.specs.Environment.{Environment, Scope}
use Rattle.grammar.specs.Scope.{declared, Exchanged}
use Rattle.grammar.specs.Reader.{Reader}
use Rattle.grammar.specs.Statements.{many, many_receives, receive_under}
use Rattle.grammar.proofs.Found.{Other, other-first, peek-found, peek-other}
use Rattle.grammar.proofs.Parts.{Reads, alone, in-turn, byte_reads, code_reads, tested_reads}

module _ {s : List ℕ} where
  -- ---- statements

  pub none_read : (one : Reader Statement) (j : ℕ) → Reads s (many j one) (blr.end ∷ []) nothing 0 0
  unfolding many
  none_read one zero = alone (code_reads blr.end TooGreat) (λ c q rest h a. rw (many, a))
  none_read one (suc j) = alone (byte_reads blr.end) (λ c q rest h a. rw (many, peek-found s c blr.end h, a))

  -- a statement that begins with another byte, and those after it, where d more may come
  pub more-read : {one : Reader Statement} {xs ys : List ℕ} {t : Statement} {ts : Statements} {n k i o : ℕ} (j d : ℕ) → suc d ≤ j →
      Reads s one xs t n k → Other blr.end xs → ((j : ℕ) → d ≤ j → Reads s (many j one) ys ts i o) →
      Reads s (many j one) (xs ++ ys) (t then ts) (n + i) (k + o)
  unfolding many
  more-read zero d l f w g = absurd (omega arith)
  more-read {ys} (suc j) d l f w g = in-turn f (g j (omega arith)) (λ c q r rest h a i b.
      let z = peek-other s c blr.end h (other-first (ys ++ rest) w) in
      rw (many, z.1, z.2, a, b)) refl refl

  -- ---- receives

  pub last-read : (one : List ℕ → Reader (ℕ × Statement)) {xs : List ℕ} {t : Statement} {n k : ℕ} (before : List ℕ) (m j : ℕ) → 1 ≤ j →
      Reads s (one before) xs (m, t) n k → Reads s (many_receives j one before) (xs ++ (blr.end ∷ [])) (last m t) n k
  unfolding many_receives
  last-read one before m zero l f = absurd (omega arith)
  last-read one before m (suc j) l f =
      in-turn f (byte_reads blr.end) (λ c q r rest h a i b. rw (many_receives, a, peek-found s q blr.end i, b)) (omega arith) (omega arith)

  -- a receive with others after it, where d more may come
  pub next-read : (one : List ℕ → Reader (ℕ × Statement)) {xs ys : List ℕ} {t : Statement} {rs : Receives} {n k i o : ℕ} (before : List ℕ)
      (m j d : ℕ) → suc d ≤ j → Reads s (one before) xs (m, t) n k → Other blr.end ys →
      ((j : ℕ) → d ≤ j → Reads s (many_receives j one (before ++ (m ∷ []))) ys rs i o) →
      Reads s (many_receives j one before) (xs ++ ys) (more m t rs) (n + i) (k + o)
  unfolding many_receives
  next-read one before m zero d l f w g = absurd (omega arith)
  next-read one before m (suc j) d l f w g = in-turn f (g j (omega arith)) (λ c q r rest h a i b.
      let z = peek-other s q blr.end i (other-first rest w) in
      rw (many_receives, a, z.1, z.2, b)) refl refl

  -- a receive after its code
  pub receive-reads : {body : Reader Statement} {xs : List ℕ} {t : Statement} {n k : ℕ} (e : Environment) (sc : Scope) (p : ℕ)
      (before : List ℕ) (m : ℕ) → among m before ≡ false → Exchanged e sc m → Reads s body xs t n k →
      Reads s (receive_under body e sc p before) (m ∷ xs) (m, t) n k
  unfolding receive_under
  receive-reads e sc p before m u w f =
      let t : declared e m && negation (among m before) ≡ true = rw (w.1, u) in
      in-turn (tested_reads (λ m. declared e m && negation (among m before)) BadMessage (byte_reads m) t) f
      (λ c q r rest h a i b. rw (receive_under, w.0, a, b)) (omega arith) (omega arith)
