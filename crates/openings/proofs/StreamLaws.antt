-- The ways through the readers of streams. Assumes nothing.
use Prim.Native.Nat.{ℕ, ◌<◌}
use native.Mathlib.Nat.{mod-eq_of_lt}
use native.Mathlib.Omega.{arith}
use mathlib.Core.Path.{◌≡◌, refl, sym, ◌∙◌}
use mathlib.Core.Bool.{Bool, true, false, cond, not, false≢true}
use mathlib.Core.List.{List}
use mathlib.Core.Option.{Option, none, some, map}
use lib.ListN.{take, drop}
use Rattle.std.specs.Prelude as std
use Rattle.wire.specs.Words.{byte_at}
use Rattle.wire.specs.Lists.{is_some}
use Rattle.wire.specs.Options.{option_of}
use Rattle.dictionary.specs.Dictionary.{name_at}
use Rattle.dictionary.specs.Naming.{Name, named, numbered, relation_of}
use Rattle.dictionary.specs.Internal.Walk.{relation_place, relation_at}
use Rattle.dictionary.proofs.Bounds as Bounds
use Rattle.dictionary.proofs.Relations as Relations
use Rattle.grammar.specs.declared.Cursor.{Cursor}
use Rattle.grammar.specs.declared.Refusal.TheVariants.{Unknown, BadContext}
use Rattle.grammar.specs.Environment as Grammar
use Rattle.grammar.specs.Scope.{in_scope}
use Rattle.grammar.specs.Reader.{read, refused, Reader, byte, word, name}
use Rattle.grammar.specs.Values.{by_name, by_number}
use Rattle.grammar.specs.Internal.Steps.{answer_of}
use Rattle.grammar.proofs.Went.{undo, taken-read}
use Rattle.tables.proofs.Codes.{tested-is}
use Rattle.scopes.specs.Scopes.{contexts_in, found_of, scope_of}
use Rattle.scopes.proofs.Scopes.{is-in-scope, nothing-in-scope}
use Rattle.openings.specs.Streams.{relations, Proper, placed_step, place_or, entry_of, relation_named, fresh_byte}

-- a counted name is the one that stands there
name-is : (s : List ℕ) (c : Cursor) {n : List ℕ} {q : Cursor} → name s c ≡ read n q → n ≡ name_at s c.at
unfolding name
name-is s c e = undo (byte s c) _ e (λ k q h w.
    let t = taken-read s c 1 byte_at h in
    let b = taken-read s q k (λ s p. take k (drop p s)) w in
    b.1 ∙ rw (t.1, t.2))

module _ (d : List ℕ) (is-proper : Proper d) where
  -- what the code finds is the relation that the definition means
  known : (n : Name) (p : ℕ) (q : Cursor) (o : Option ℕ) → relation_place d n ≡ o →
      placed_step (option_of o) p q ≡ answer_of (entry_of d) (cond (is_some (map (relation_at d) o)) (read n q) (refused Unknown p))
  known n p q none e = refl
  known n p q (some z) e = let low : z < 65536 = omega (arith, Bounds.found_below d n z e) in rw (e, mod-eq_of_lt low)

  there : (names : Reader Name) (s : List ℕ) (c : Cursor) {n : Name} {q : Cursor} → names s c ≡ read n q →
      placed_step (option_of (relation_place d n)) c.at q ≡ answer_of (entry_of d) (relation_named (relations d) names s c)
  unfolding relation_named
  there names s c {n} {q} e =
      known n c.at q (relation_place d n) refl ∙
      rw (
        relation_named,
        tested-is names (λ n. is_some (relation_of (relations d) n)) Unknown s c e,
        sym (Relations.found-is d (relations d) is-proper n),
      )

  -- the relation of a name or a number that was read
  module _ (s : List ℕ) (c : Cursor) {q : Cursor} where
    pub by_name_lem : {n : List ℕ} → name s c ≡ read n q →
        placed_step (option_of (relation_place d (named (name_at s c.at)))) c.at q ≡
        answer_of (entry_of d) (relation_named (relations d) by_name s c)
    by_name_lem e = there by_name s c (rw (e, name-is s c e))

    pub by_number_lem : {n : ℕ} → word s c ≡ read n q →
        placed_step (option_of (relation_place d (numbered n))) c.at q ≡ answer_of (entry_of d) (relation_named (relations d) by_number s c)
    by_number_lem e = there by_number s c (rw e)

  -- the relation of a name that is known
  pub relation-there : (n : Name) → is_some (relation_of (relations d) n) ≡ true →
      relation_of (relations d) n ≡ some (relation_at d (entry_of d n))
  relation-there n e = let f = Relations.found-is d (relations d) is-proper n in
      sym f ∙ by (relation_place d n) (rw (sym f) at e)
    where
      by : (o : Option ℕ) → is_some (map (relation_at d) o) ≡ true → map (relation_at d) o ≡ some (relation_at d (place_or o))
      by none z = absurd (false≢true z)
      by (some q) z = refl

-- ---- a context that is not in scope

-- a context is in scope if it is found
pub in-scope : (d a : List ℕ) (n : ℕ) {o : std.Option ℕ} → o ≡ option_of (found_of (contexts_in a) n) →
    in_scope (scope_of d a) n ≡ std.is_some o
in-scope d a n {o} e = by o (sym e)
  where
    by : (o : std.Option ℕ) → option_of (found_of (contexts_in a) n) ≡ o → in_scope (scope_of d a) n ≡ std.is_some o
    by std.None h = nothing-in-scope d a n h
    by (std.Some i) h = is-in-scope d a n i h

pub fresh-is : (sc : Grammar.Scope) (s : List ℕ) (c : Cursor) {n : ℕ} {q : Cursor} → byte s c ≡ read n q → (b : Bool) → in_scope sc n ≡ b →
    fresh_byte sc s c ≡ cond b (refused BadContext c.at) (read n q)
unfolding fresh_byte
fresh-is sc s c e true t = rw (fresh_byte, tested-is byte (λ x. not (in_scope sc x)) BadContext s c e, t)
fresh-is sc s c e false t = rw (fresh_byte, tested-is byte (λ x. not (in_scope sc x)) BadContext s c e, t)
