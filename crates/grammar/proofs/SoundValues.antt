-- Values and booleans that were read: their bytes are those of the grammar, and the rules allow them.
use Prim.Native.Nat.{ℕ, zero, suc, ◌+◌, ◌≤◌, max}
use mathlib.Core.Path.{◌≡◌, refl}
use mathlib.Core.Bool.{Bool, true, false}
use mathlib.Core.List.{List, ◌∷◌, ◌++◌}
use native.Mathlib.Omega.{arith}
use lib.Dec.{leb}
use lib.ListN.{length, drop}
use borrow.Author.Tests.{leb-true}
use Rattle.wire.specs.Codes as blr
use Rattle.wire.specs.Lists.{is_some}
use Rattle.wire.specs.declared.codes.ValueCode.{ValueCode}
use Rattle.wire.specs.declared.codes.ValueCode.TheVariants as Code
use Rattle.wire.specs.declared.codes.Statistic.{Statistic}
use Rattle.wire.specs.declared.codes.Quantifier.{Quantifier}
use Rattle.wire.specs.declared.codes.BooleanCode.{BooleanCode}
use Rattle.wire.specs.declared.codes.BooleanCode.TheVariants.{Compare, Search, Between, Connect, Not, Missing, Quantify}
use Rattle.grammar.specs.declared.Cursor.{Cursor}
use Rattle.grammar.specs.declared.Role.TheVariants.{AsValue}
use Rattle.grammar.specs.declared.Refusal.TheVariants.{Unfit}
use Rattle.grammar.specs.Tree.{Stream, Literal, Reference, Value, arithmetic, negate, statistic, Boolean, compare, search, Rse}
use Rattle.grammar.specs.Bytes.{statistic_code, quantifier_code, value_bytes, boolean_bytes}
use Rattle.grammar.specs.Environment.{Environment, Scope, under_streams, under_rse_of}
use Rattle.grammar.specs.Kinds.{kind_of, one_kind, both_text, all_one_kind}
use Rattle.grammar.specs.Sizes.{value_depth, boolean_depth, value_contexts, boolean_contexts, count_in_range, StreamsInRange, OneStream}
use Rattle.grammar.specs.Rules.{ValueAllowed, BooleanAllowed}
use Rattle.grammar.specs.Reader.{read, on_read, need, coded}
use Rattle.grammar.specs.Rses.{rse_head, clauses}
use Rattle.grammar.specs.Values.{read_literal, read_reference, Operands, operands, one_stream_rse, statistic_under, count_under, value_under, read_value, quantifier_under, boolean_under, read_boolean}
use Rattle.grammar.specs.Demands.{Octets}
use Rattle.grammar.proofs.Went.{Went, never, undo, same, needed, both, onward, coded-onward}
use Rattle.grammar.proofs.Codes.{value_code, boolean_code, value-due, boolean-due, coded-went}
use Rattle.grammar.proofs.SoundReferences.{literal-sound, reference-sound}
use Rattle.grammar.proofs.SoundRses.{ReadsValues, ReadsBooleans, RseSound, head-sound, clauses-sound, rse-sound}

-- readers of booleans and values, one level down, that are sound
pub record OperandsSound (l : ℕ) (e : Environment) (s : List ℕ) (below : Operands) : Type 0 where
  pub boolean : (sc : Scope) → ReadsBooleans l e sc s (below.boolean sc)
  pub value : (sc : Scope) → ReadsValues l e sc s (below.value sc)

-- what stands after the code k, with l levels left below it
pub record ValueUnderSound (l : ℕ) (e : Environment) (sc : Scope) (k : ValueCode) (s : List ℕ) (c : Cursor) (v : Value) (c' : Cursor)
    : Type 0 where
  pub went : Went s c (drop 1 (value_bytes v)) 0 (value_contexts v) 0 c'
  pub starts : value_bytes v ≡ value_code k ∷ drop 1 (value_bytes v)
  pub depth : value_depth v ≤ suc l
  pub allowed : ValueAllowed e sc v
  pub few : c.contexts ≤ 32 → c'.contexts ≤ 32

pub record BooleanUnderSound (l : ℕ) (e : Environment) (sc : Scope) (k : BooleanCode) (s : List ℕ) (c : Cursor) (b : Boolean) (c' : Cursor)
    : Type 0 where
  pub went : Went s c (drop 1 (boolean_bytes b)) 0 (boolean_contexts b) 0 c'
  pub starts : boolean_bytes b ≡ boolean_code k ∷ drop 1 (boolean_bytes b)
  pub depth : boolean_depth b ≤ suc l
  pub allowed : BooleanAllowed e sc b
  pub few : c.contexts ≤ 32 → c'.contexts ≤ 32

-- of 1 to 8 streams and 1 at most there is one
one-stream : (ss : List Stream) → StreamsInRange ss → leb (length ss) 1 ≡ true → length ss ≡ 1
unfolding count_in_range
one-stream ss t u =
    let v = both (leb 1 (length ss)) (leb (length ss) 8) t in
    let low : 1 ≤ length ss = leb-true 1 (length ss) v.0 in
    let high : length ss ≤ 1 = leb-true (length ss) 1 u in
    omega arith

module _ (s : List ℕ) (octets : Octets s) (e : Environment) (below : Operands) (l : ℕ) (sound : OperandsSound l e s below) where
  module _ (sc : Scope) (p : ℕ) where
    -- ---- the rse of an any, a unique or a statistic

    one-rse-sound : (opener : ℕ) (c : Cursor) (r : Rse) (c' : Cursor) → one_stream_rse below e sc opener s c ≡ read r c' →
        OneStream r × RseSound l e opener sc s c r c'
    unfolding one_stream_rse
    one-rse-sound opener c r c' h = undo (rse_head 1 e.relations opener sc s c) _ h (λ ss q e₁ w.
        let under = under_streams e.relations opener sc ss in
        undo (clauses 3 (below.boolean under) (below.value under) false false s q) _ w (λ cs q₁ e₂ w₁.
        let i = head-sound s octets e.relations 1 opener sc c ss q e₁ in
        let j = clauses-sound l e under s (below.boolean under) (below.value under) (sound.boolean under) (sound.value under) 3 false
        false q cs q₁ e₂ in
        same w₁ (λ r c'. OneStream r × RseSound l e opener sc s c r c')
        (one-stream ss i.ranged i.few-streams, rse-sound l e opener sc s c ss q cs q₁ i j)))

    -- ---- values

    statistic-sound : (k : Statistic) (c : Cursor) (v : Value) (c' : Cursor) →
        statistic_under below e sc p k s c ≡ read v c' → ValueUnderSound l e sc (Code.Statistic k) s c v c'
    unfolding statistic_under value_bytes value_depth value_contexts
    statistic-sound k c v c' h = undo (one_stream_rse below e sc (statistic_code k) s c) _ h (λ r q e₁ w.
        let under = under_rse_of e.relations (statistic_code k) sc r in
        undo (below.value under s q) _ w (λ a q₁ e₂ w₁. needed (is_some (kind_of e sc (statistic k r a))) _ _ _ _ _ w₁ (λ t w₂.
        let i = one-rse-sound (statistic_code k) c r q e₁ in
        let j = sound.value under q a q₁ e₂ in
        same w₂ (λ v c'. ValueUnderSound l e sc (Code.Statistic k) s c v c') (record {
          went = onward i.1.went j.went;
          starts = refl;
          depth = omega (arith, i.1.depth, j.depth);
          allowed = (i.0, i.1.allowed, j.allowed, t);
          few = λ f. j.few (i.1.few f);
        }))))

    count-sound : (c : Cursor) (v : Value) (c' : Cursor) →
        count_under below e sc s c ≡ read v c' → ValueUnderSound l e sc Code.Count s c v c'
    unfolding count_under value_bytes value_depth value_contexts
    count-sound c v c' h = undo (one_stream_rse below e sc blr.count s c) _ h (λ r q e₁ w.
        let i = one-rse-sound blr.count c r q e₁ in
        same w (λ v c'. ValueUnderSound l e sc Code.Count s c v c') (record {
          went = i.1.went;
          starts = refl;
          depth = omega (arith, i.1.depth);
          allowed = (i.0, i.1.allowed);
          few = i.1.few;
        }))

    pub value-under-sound : (k : ValueCode) (c : Cursor) (v : Value) (c' : Cursor) → value_under below e sc p k s c ≡ read v c' →
        ValueUnderSound l e sc k s c v c'
    unfolding value_under value_bytes value_depth value_contexts
    value-under-sound Code.Literal c v c' h = undo (read_literal e.version s c) _ h (λ x q e₁ w.
        let i = literal-sound s octets e.version c x q e₁ in
        same w (λ v c'. ValueUnderSound l e sc Code.Literal s c v c') (record {
          went = i.went;
          starts = refl;
          depth = omega arith;
          allowed = i.ranged;
          few = λ f. omega (arith, i.went.declared);
        }))
    value-under-sound (Code.Reference k) c v c' h = undo (read_reference e sc AsValue p k s c) _ h (λ r q e₁ w.
        let i = reference-sound s octets e sc AsValue p k c r q e₁ in
        same w (λ v c'. ValueUnderSound l e sc (Code.Reference k) s c v c') (record {
          went = i.went;
          starts = i.starts;
          depth = omega arith;
          allowed = (i.known, i.fits);
          few = λ f. omega (arith, i.went.declared);
        }))
    value-under-sound (Code.Arithmetic o) c v c' h = undo (below.value sc s c) _ h (λ a q e₁ w.
        undo (below.value sc s q) _ w (λ b q₁ e₂ w₁. needed (is_some (kind_of e sc (arithmetic o a b))) _ _ _ _ _ w₁ (λ t w₂.
        let i = sound.value sc c a q e₁ in
        let j = sound.value sc q b q₁ e₂ in
        same w₂ (λ v c'. ValueUnderSound l e sc (Code.Arithmetic o) s c v c') (record {
          went = onward i.went j.went;
          starts = refl;
          depth = omega (arith, i.depth, j.depth);
          allowed = (i.allowed, j.allowed, t);
          few = λ f. j.few (i.few f);
        }))))
    value-under-sound Code.Negate c v c' h = undo (below.value sc s c) _ h (λ a q e₁ w.
        needed (is_some (kind_of e sc (negate a))) _ _ _ _ _ w (λ t w₁.
        let i = sound.value sc c a q e₁ in
        same w₁ (λ v c'. ValueUnderSound l e sc Code.Negate s c v c') (record {
          went = i.went;
          starts = refl;
          depth = omega (arith, i.depth);
          allowed = (i.allowed, t);
          few = i.few;
        })))
    value-under-sound (Code.Statistic k) c v c' h = statistic-sound k c v c' h
    value-under-sound Code.Count c v c' h = count-sound c v c' h

    -- ---- booleans

    -- two values and a test of both
    two_operands : (k : BooleanCode) (made : Value → Value → Boolean) (test : Value → Value → Bool) →
        ((x y : Value) → boolean_bytes (made x y) ≡ boolean_code k ∷ value_bytes x ++ value_bytes y) →
        ((x y : Value) → boolean_depth (made x y) ≡ suc (max (value_depth x) (value_depth y))) →
        ((x y : Value) → boolean_contexts (made x y) ≡ value_contexts x + value_contexts y) →
        ((x y : Value) → ValueAllowed e sc x → ValueAllowed e sc y → test x y ≡ true → BooleanAllowed e sc (made x y)) →
        (c : Cursor) (b : Boolean) (c' : Cursor) →
        on_read (below.value sc s c) (λ x q. on_read (below.value sc s q) (λ y q₁. on_read (need (test x y) Unfit p s q₁)
        (λ u q₂. read (made x y) q₂))) ≡ read b c' → BooleanUnderSound l e sc k s c b c'
    two_operands k made test bytes depths counts rules c b c' h = undo (below.value sc s c) _ h (λ x q e₁ w.
        undo (below.value sc s q) _ w (λ y q₁ e₂ w₁. needed (test x y) _ _ _ _ _ w₁ (λ t w₂.
        let i = sound.value sc c x q e₁ in
        let j = sound.value sc q y q₁ e₂ in
        same w₂ (λ b c'. BooleanUnderSound l e sc k s c b c') (record {
          went = rw (bytes x y, counts x y) (onward i.went j.went);
          starts = rw (bytes x y);
          depth = omega (arith, depths x y, i.depth, j.depth);
          allowed = rules x y i.allowed j.allowed t;
          few = λ f. j.few (i.few f);
        }))))

    quantifier-sound : (k : Quantifier) (c : Cursor) (b : Boolean) (c' : Cursor) →
        quantifier_under below e sc k s c ≡ read b c' → BooleanUnderSound l e sc (Quantify k) s c b c'
    unfolding quantifier_under boolean_bytes boolean_depth boolean_contexts
    quantifier-sound k c b c' h = undo (one_stream_rse below e sc (quantifier_code k) s c) _ h (λ r q e₁ w.
        let i = one-rse-sound (quantifier_code k) c r q e₁ in
        same w (λ b c'. BooleanUnderSound l e sc (Quantify k) s c b c') (record {
          went = i.1.went;
          starts = refl;
          depth = omega (arith, i.1.depth);
          allowed = (i.0, i.1.allowed);
          few = i.1.few;
        }))

    pub boolean-under-sound : (k : BooleanCode) (c : Cursor) (b : Boolean) (c' : Cursor) →
        boolean_under below e sc p k s c ≡ read b c' → BooleanUnderSound l e sc k s c b c'
    unfolding boolean_under boolean_bytes boolean_depth boolean_contexts
    boolean-under-sound (Compare k) c b c' h = two_operands (Compare k) (compare k) (λ x y. one_kind (kind_of e sc x) (kind_of e sc y))
        (λ x y. refl) (λ x y. refl) (λ x y. refl) (λ x y a d t. (a, d, t)) c b c' h
    boolean-under-sound (Search k) c b c' h = two_operands (Search k) (search k) (λ x y. both_text (kind_of e sc x) (kind_of e sc y))
        (λ x y. refl) (λ x y. refl) (λ x y. refl) (λ x y a d t. (a, d, t)) c b c' h
    boolean-under-sound Between c b c' h = undo (below.value sc s c) _ h (λ x q e₁ w. undo (below.value sc s q) _ w (λ y q₁ e₂ w₁.
        undo (below.value sc s q₁) _ w₁ (λ z q₂ e₃ w₂.
        needed (all_one_kind (kind_of e sc x) (kind_of e sc y) (kind_of e sc z)) _ _ _ _ _ w₂ (λ t w₃.
        let i = sound.value sc c x q e₁ in
        let j = sound.value sc q y q₁ e₂ in
        let k = sound.value sc q₁ z q₂ e₃ in
        same w₃ (λ b c'. BooleanUnderSound l e sc Between s c b c') (record {
          went = onward (onward i.went j.went) k.went;
          starts = refl;
          depth = omega (arith, i.depth, j.depth, k.depth);
          allowed = (i.allowed, j.allowed, k.allowed, t);
          few = λ f. k.few (j.few (i.few f));
        })))))
    boolean-under-sound (Connect k) c b c' h = undo (below.boolean sc s c) _ h (λ x q e₁ w.
        undo (below.boolean sc s q) _ w (λ y q₁ e₂ w₁.
        let i = sound.boolean sc c x q e₁ in
        let j = sound.boolean sc q y q₁ e₂ in
        same w₁ (λ b c'. BooleanUnderSound l e sc (Connect k) s c b c') (record {
          went = onward i.went j.went;
          starts = refl;
          depth = omega (arith, i.depth, j.depth);
          allowed = (i.allowed, j.allowed);
          few = λ f. j.few (i.few f);
        })))
    boolean-under-sound Not c b c' h = undo (below.boolean sc s c) _ h (λ x q e₁ w.
        let i = sound.boolean sc c x q e₁ in
        same w (λ b c'. BooleanUnderSound l e sc Not s c b c') (record {
          went = i.went;
          starts = refl;
          depth = omega (arith, i.depth);
          allowed = i.allowed;
          few = i.few;
        }))
    boolean-under-sound Missing c b c' h = undo (below.value sc s c) _ h (λ x q e₁ w.
        let i = sound.value sc c x q e₁ in
        same w (λ b c'. BooleanUnderSound l e sc Missing s c b c') (record {
          went = i.went;
          starts = refl;
          depth = omega (arith, i.depth);
          allowed = i.allowed;
          few = i.few;
        }))
    boolean-under-sound (Quantify k) c b c' h = quantifier-sound k c b c' h

-- ---- with the code, by the levels left

module _ (s : List ℕ) (octets : Octets s) (e : Environment) where
  -- the readers with l levels left
  abbrev at_level : ℕ → Operands
  at_level l = operands (λ x. read_boolean l e x) (λ x. read_value l e x)

  both-sound : (l : ℕ) → ((sc : Scope) → ReadsBooleans l e sc s (read_boolean l e sc)) →
      ((sc : Scope) → ReadsValues l e sc s (read_value l e sc)) → OperandsSound l e s (at_level l)
  both-sound l booleans values = record { boolean = booleans; value = values }

  mutual
    unfolding read_value read_boolean

    pub value-sound : (sc : Scope) (l : ℕ) → ReadsValues l e sc s (read_value l e sc)
    value-sound sc zero c v c' h = undo (coded _ s c) _ h (λ k q e₁ w. never w)
    value-sound sc (suc l) c v c' h = undo (coded _ s c) _ h (λ k q e₁ w.
        let below = both-sound l (λ x c b c' h. boolean-sound x l c b c' h) (λ x c v c' h. value-sound x l c v c' h) in
        let g = coded-went value-due s c e₁ in
        let i = value-under-sound s octets e (at_level l) l below sc c.at k q v c' w in
        record {
          went = coded-onward g i.starts i.went;
          depth = i.depth;
          allowed = i.allowed;
          few = λ f. i.few (omega (arith, g.declared));
        })

    pub boolean-sound : (sc : Scope) (l : ℕ) → ReadsBooleans l e sc s (read_boolean l e sc)
    boolean-sound sc zero c b c' h = undo (coded _ s c) _ h (λ k q e₁ w. never w)
    boolean-sound sc (suc l) c b c' h = undo (coded _ s c) _ h (λ k q e₁ w.
        let below = both-sound l (λ x c b c' h. boolean-sound x l c b c' h) (λ x c v c' h. value-sound x l c v c' h) in
        let g = coded-went boolean-due s c e₁ in
        let i = boolean-under-sound s octets e (at_level l) l below sc c.at k q b c' w in
        record {
          went = coded-onward g i.starts i.went;
          depth = i.depth;
          allowed = i.allowed;
          few = λ f. i.few (omega (arith, g.declared));
        })
