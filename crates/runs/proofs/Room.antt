-- The contexts in scope at a condition or a from-value of an allowed request and its own are at most 32.
use Prim.Native.Nat.{ℕ, ◌+◌, ◌≤◌}
use mathlib.Core.Path.{◌≡◌}
use mathlib.Core.List.{List, [], ◌∷◌, ◌++◌, map}
use mathlib.Core.Option.{Option, none, some}
use native.Mathlib.Omega.{arith}
use lib.ListN.{length, length-append, length-map}
use Rattle.wire.specs.Codes as blr
use Rattle.dictionary.specs.Dictionary.{Relation}
use Rattle.grammar.specs.Tree.{Stream, Heading, loop, modify, handler, receive, send, store, label, Clauses, no_clauses, such, sorted, Rse, rse, Statement, assignment, begin, erase, for, headed, leave, if, if_else, select, Statements, none as nothing, ◌then◌, Receives, last, more, Request}
use Rattle.grammar.specs.Bytes.{keys_bytes, head_bytes, rse_bytes, heading_bytes, boolean_bytes}
use Rattle.grammar.specs.Environment.{Scope, outermost, stream_context, modify_context, under_streams, under_rse, under_heading}
use Rattle.grammar.specs.Sizes.{value_contexts, boolean_contexts, clauses_contexts, rse_contexts, heading_contexts, context_count, contexts_count, receives_contexts}
use Rattle.grammar.specs.Rules.{Allowed}
use Rattle.grammar.specs.Rows.{size, statements_start}
use Rattle.grammar.specs.Conditions.{Condition, condition, clauses_conditions, rse_conditions}
use Rattle.grammar.specs.Named.{FromValue, Own, own_booleans, own_value, own, owns_below, owns_of, receives_owns, request_owns}
use Rattle.walking.proofs.Sites.{All, Of, all_append}

-- the contexts in scope at a condition, and its own, are at most so many
abbrev pub Roomy : ℕ → Condition → Type 0
Roomy most x = length x.scope.contexts + boolean_contexts x.boolean ≤ most

abbrev pub RoomyValue : ℕ → FromValue → Type 0
RoomyValue most x = length x.scope.contexts + value_contexts x.value ≤ most

roomier : (a b : ℕ) (l : List Condition) → a ≤ b → All (Roomy a) l → All (Roomy b) l
roomier a b [] h r = tt
roomier a b (x ∷ l) h r = let i = r.0 in (omega (arith, i, h), roomier a b l h r.1)

both-roomy : (a b m : ℕ) (k l : List Condition) → a ≤ m → b ≤ m → All (Roomy a) k → All (Roomy b) l → All (Roomy m) (k ++ l)
both-roomy a b m k l h i x y = all_append (Roomy m) k l (roomier a m k h x) (roomier b m l i y)

clauses-roomy : (cs : Clauses) (sc : Scope) (p : ℕ) → All (Roomy (length sc.contexts + clauses_contexts cs)) (clauses_conditions sc cs p)
unfolding clauses_conditions clauses_contexts
clauses-roomy no_clauses sc p = tt
clauses-roomy (such b cs) sc p =
    both-roomy (length sc.contexts + boolean_contexts b) (length sc.contexts + clauses_contexts cs) _ (condition sc b (p + 1))
    (clauses_conditions sc cs (p + 1 + length (boolean_bytes b))) (omega arith) (omega arith) (omega arith, tt) (clauses-roomy cs sc (p + 1 + length (boolean_bytes b)))
clauses-roomy (sorted ks cs) sc p =
    roomier (length sc.contexts + clauses_contexts cs) _ (clauses_conditions sc cs (p + 2 + length (keys_bytes ks))) (omega arith)
    (clauses-roomy cs sc (p + 2 + length (keys_bytes ks)))

module _ (d : List Relation) where
  streams-more : (o : ℕ) (sc : Scope) (ss : List Stream) → length (under_streams d o sc ss).contexts ≡ length sc.contexts + length ss
  unfolding under_streams
  streams-more o sc ss = omega (arith, length-append sc.contexts (map (stream_context d o) ss), length-map ss (stream_context d o))

  rse-more : (r : Rse) (sc : Scope) → length (under_rse d sc r).contexts ≤ length sc.contexts + rse_contexts r
  unfolding under_rse rse_contexts
  rse-more (rse ss cs) sc = let h = streams-more blr.for sc ss in omega (arith, h)

  rse-roomy : (r : Rse) (sc : Scope) (p : ℕ) → All (Roomy (length sc.contexts + rse_contexts r)) (rse_conditions d sc r p)
  unfolding rse_conditions rse_contexts
  rse-roomy (rse ss cs) sc p =
      let h = streams-more blr.for sc ss in
      roomier (length (under_streams d blr.for sc ss).contexts + clauses_contexts cs) _
      (clauses_conditions (under_streams d blr.for sc ss) cs (p + length (head_bytes ss))) (omega (arith, h))
      (clauses-roomy cs (under_streams d blr.for sc ss) (p + length (head_bytes ss)))

  heading-more : (h : Heading) (sc : Scope) → length (under_heading d sc h).contexts ≤ length sc.contexts + heading_contexts h
  unfolding under_heading heading_contexts
  heading-more loop sc = omega arith
  heading-more (modify from to) sc = omega (arith, length-append sc.contexts (modify_context sc from to ∷ []))
  heading-more handler sc = omega arith
  heading-more (receive m) sc = omega arith
  heading-more (send m) sc = omega arith
  heading-more (store s) sc = omega (arith, length-append sc.contexts (stream_context d blr.store s ∷ []))
  heading-more (label n) sc = omega arith

  -- those of a statement's own conditions and from-value
  abbrev OwnRoomy : ℕ → Own → Type 0
  OwnRoomy m o = All (Roomy m) o.conditions × Of (RoomyValue m) o.from

  value-roomier : (a b : ℕ) (o : Option FromValue) → a ≤ b → Of (RoomyValue a) o → Of (RoomyValue b) o
  value-roomier a b none h r = tt
  value-roomier a b (some x) h r = omega (arith, r, h)

  owns-roomier : (a b : ℕ) (os : List Own) → a ≤ b → All (OwnRoomy a) os → All (OwnRoomy b) os
  owns-roomier a b [] h r = tt
  owns-roomier a b (o ∷ os) h r =
      ((roomier a b o.conditions h r.0.0, value-roomier a b o.from h r.0.1), owns-roomier a b os h r.1)

  both_owns : (a b m : ℕ) (k l : List Own) → a ≤ m → b ≤ m → All (OwnRoomy a) k → All (OwnRoomy b) l → All (OwnRoomy m) (k ++ l)
  both_owns a b m k l h i x y = all_append (OwnRoomy m) k l (owns-roomier a m k h x) (owns-roomier b m l i y)

  own-conditions : (t : Statement) (sc : Scope) (p : ℕ) → All (Roomy (length sc.contexts + context_count t)) (own_booleans d sc t p)
  unfolding own_booleans context_count
  own-conditions (assignment v t) sc p = tt
  own-conditions (begin ss) sc p = tt
  own-conditions (erase c) sc p = tt
  own-conditions (for r s) sc p =
      roomier (length sc.contexts + rse_contexts r) _ (rse_conditions d sc r (p + 1)) (omega arith) (rse-roomy r sc (p + 1))
  own-conditions (headed h s) sc p = tt
  own-conditions (leave n) sc p = tt
  own-conditions (if b s) sc p = (omega arith, tt)
  own-conditions (if_else b s t) sc p = (omega arith, tt)
  own-conditions (select rs) sc p = tt

  own-from : (t : Statement) (sc : Scope) (p : ℕ) → Of (RoomyValue (length sc.contexts + context_count t)) (own_value sc t p)
  unfolding own_value context_count
  own-from (assignment v t) sc p = omega arith
  own-from (begin ss) sc p = tt
  own-from (erase c) sc p = tt
  own-from (for r s) sc p = tt
  own-from (headed h s) sc p = tt
  own-from (leave n) sc p = tt
  own-from (if b s) sc p = tt
  own-from (if_else b s t) sc p = tt
  own-from (select rs) sc p = tt

  -- a statement's own, and those below it
  with-own : (t : Statement) (sc : Scope) (p : ℕ) → All (OwnRoomy (length sc.contexts + context_count t)) (owns_below d sc t p) →
      All (OwnRoomy (length sc.contexts + context_count t)) (own d sc t p ∷ owns_below d sc t p)
  with-own t sc p b = ((own-conditions t sc p, own-from t sc p), b)

  mutual
    unfolding owns_below context_count

    below-roomy : (t : Statement) (sc : Scope) (p : ℕ) → All (OwnRoomy (length sc.contexts + context_count t)) (owns_below d sc t p)
    below-roomy (assignment v t) sc p = tt
    below-roomy (begin ss) sc p = statements-roomy ss sc (p + 1)
    below-roomy (erase c) sc p = tt
    below-roomy (for r s) sc p =
        let h = rse-more r sc in
        let q = p + 1 + length (rse_bytes r) in
        owns-roomier (length (under_rse d sc r).contexts + context_count s) _ (own d (under_rse d sc r) s q ∷ owns_below d (under_rse d sc r) s q) (omega (arith, h))
        (with-own s (under_rse d sc r) q (below-roomy s (under_rse d sc r) q))
    below-roomy (headed g s) sc p =
        let h = heading-more g sc in
        let q = p + length (heading_bytes g) in
        owns-roomier (length (under_heading d sc g).contexts + context_count s) _
        (own d (under_heading d sc g) s q ∷ owns_below d (under_heading d sc g) s q) (omega (arith, h)) (with-own s (under_heading d sc g) q (below-roomy s (under_heading d sc g) q))
    below-roomy (leave n) sc p = tt
    below-roomy (if b s) sc p =
        let q = p + 1 + length (boolean_bytes b) in
        owns-roomier (length sc.contexts + context_count s) _ (own d sc s q ∷ owns_below d sc s q) (omega arith) (with-own s sc q (below-roomy s sc q))
    below-roomy (if_else b s t) sc p =
        let q = p + 1 + length (boolean_bytes b) in
        let r = q + size s in
        both_owns (length sc.contexts + context_count s) (length sc.contexts + context_count t) _ (own d sc s q ∷ owns_below d sc s q)
        (own d sc t r ∷ owns_below d sc t r) (omega arith) (omega arith) (with-own s sc q (below-roomy s sc q)) (with-own t sc r (below-roomy t sc r))
    below-roomy (select rs) sc p = receives-roomy rs sc (p + 1)

    statements-roomy : (ts : Statements) (sc : Scope) (p : ℕ) → All (OwnRoomy (length sc.contexts + contexts_count ts)) (owns_of d sc ts p)
    statements-roomy nothing sc p = tt
    statements-roomy (s then ss) sc p =
        both_owns (length sc.contexts + context_count s) (length sc.contexts + contexts_count ss) _ (own d sc s p ∷ owns_below d sc s p)
        (owns_of d sc ss (p + size s)) (omega arith) (omega arith) (with-own s sc p (below-roomy s sc p)) (statements-roomy ss sc (p + size s))

    receives-roomy : (rs : Receives) (sc : Scope) (p : ℕ) → All (OwnRoomy (length sc.contexts + receives_contexts rs)) (receives_owns d sc rs p)
    receives-roomy (last m s) sc p = ((tt, tt), with-own s sc (p + 2) (below-roomy s sc (p + 2)))
    receives-roomy (more m s rs) sc p = (
      (tt, tt),
      both_owns (length sc.contexts + context_count s) (length sc.contexts + receives_contexts rs) _ (own d sc s (p + 2) ∷ owns_below d sc s (p + 2))
          (receives_owns d sc rs (p + 2 + size s)) (omega arith) (omega arith) (with-own s sc (p + 2) (below-roomy s sc (p + 2))) (receives-roomy rs sc (p + 2 + size s)),
    )

  pub request-roomy : (r : Request) → Allowed d r → All (OwnRoomy 32) (request_owns d r)
  unfolding request_owns
  request-roomy r a =
      let h = a.sized.contexts in (
        (tt, tt),
        owns-roomier (0 + contexts_count r.statements) 32 (owns_of d outermost r.statements (statements_start r)) (omega (arith, h))
            (statements-roomy r.statements outermost (statements_start r)),
      )
