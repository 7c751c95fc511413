-- Names, literals and references that were read: their bytes are those of the grammar, and the rules allow them.
use Prim.Native.Nat.{ℕ}
use mathlib.Core.Path.{◌≡◌, refl, sym}
use mathlib.Core.Bool.{Bool, true}
use mathlib.Core.List.{List, [], ◌∷◌}
use mathlib.Core.Option.{Option, none, some, map}
use lib.ListN.{drop}
use Rattle.wire.specs.Lists.{is_some}
use Rattle.wire.specs.Words.{word_bytes}
use Rattle.wire.specs.Versions.{literal_due}
use Rattle.wire.specs.declared.codes.Version.{Version}
use Rattle.wire.specs.declared.codes.Width.{Width}
use Rattle.wire.specs.declared.codes.Width.TheVariants.{Short, Long, Int64}
use Rattle.wire.specs.declared.codes.LiteralType.{LiteralType}
use Rattle.wire.specs.declared.codes.LiteralType.TheVariants.{NumberLiteral, TextLiteral}
use Rattle.wire.specs.declared.codes.StreamCode.{StreamCode}
use Rattle.wire.specs.declared.codes.StreamCode.TheVariants.{Relation, Rid}
use Rattle.wire.specs.declared.codes.ReferenceCode.{ReferenceCode}
use Rattle.wire.specs.declared.codes.ReferenceCode.TheVariants.{Field, Fid, Parameter, Parameter2}
use Rattle.dictionary.specs.Naming.{Name, named, numbered}
use Rattle.grammar.specs.declared.Cursor.{Cursor}
use Rattle.grammar.specs.declared.Role.{Role}
use Rattle.grammar.specs.declared.Role.TheVariants.{AsValue, AsTarget}
use Rattle.grammar.specs.Tree.{Literal, Reference, field, parameter, parameter2, reference}
use Rattle.grammar.specs.Bytes.{counted_bytes, number_bytes, literal_bytes, reference_bytes}
use Rattle.grammar.specs.Environment.{Environment, Scope, parameter_format, field_format}
use Rattle.grammar.specs.Scope.{in_scope, declared, field_target, parameter_target, Known, Target}
use Rattle.grammar.specs.Kinds.{format_kind, reference_kind, kind_of, Fits}
use Rattle.grammar.specs.Sizes.{LiteralAllowed}
use Rattle.grammar.specs.Reader.{Read, read, on_read, byte, word, bytes, name, coded}
use Rattle.grammar.specs.Messages.{scale_byte, size_word}
use Rattle.grammar.specs.Values.{number_of, literal_under, read_literal, context_byte, message_byte, parameter_word, field_name, field_allowed, parameter_allowed, read_field, read_reference, read_target}
use Rattle.grammar.specs.Statements.{naming}
use Rattle.grammar.specs.Demands.{Octets}
use Rattle.grammar.proofs.Went.{Passed, undo, same, needed, tested-read, onward, coded-onward, byte-went, word-went, long-went, int64-went, bytes-went, name-went}
use Rattle.grammar.proofs.Codes.{reference_code, literal_code, literal-due, target-due, coded-went}
use Rattle.grammar.proofs.SoundMessages.{scale-went, size-went}

-- ---- names: by a counted name, or by an id word

abbrev pub name_bytes : Name → List ℕ
name_bytes (named n) = counted_bytes n
name_bytes (numbered i) = word_bytes i

abbrev pub name_code : Name → StreamCode
name_code (named n) = Relation
name_code (numbered i) = Rid

-- the code of a field that is named so
abbrev pub field_code : StreamCode → ReferenceCode
field_code Relation = Field
field_code Rid = Fid

-- ---- what is asked of each

-- what stands after the code k
pub record LiteralUnderSound (v : Version) (k : LiteralType) (s : List ℕ) (c : Cursor) (l : Literal) (c' : Cursor) : Type 0 where
  pub went : Passed s c (drop 1 (literal_bytes l)) c'
  pub starts : literal_bytes l ≡ literal_code k ∷ drop 1 (literal_bytes l)
  pub ranged : LiteralAllowed v l

pub record LiteralSound (v : Version) (s : List ℕ) (c : Cursor) (l : Literal) (c' : Cursor) : Type 0 where
  pub went : Passed s c (literal_bytes l) c'
  pub ranged : LiteralAllowed v l

-- a test that is made of a target and not of a value
abbrev pub Asked : Role → Bool → Type 0
Asked AsValue b = Unit {0}
Asked (AsTarget p) b = b ≡ true

abbrev pub Targeted : Role → Scope → Reference → Type 0
Targeted role sc (field c n) = Asked role (field_target sc c)
Targeted role sc (parameter m i) = Asked role (parameter_target sc m)
Targeted role sc (parameter2 m i flag) = Asked role (parameter_target sc m)

targeted : (p : ℕ) (sc : Scope) (r : Reference) → Targeted (AsTarget p) sc r → Target sc r
targeted p sc (field c n) h = h
targeted p sc (parameter m i) h = h
targeted p sc (parameter2 m i flag) h = h

-- what stands after its code, which is k
pub record ReferenceSound (e : Environment) (sc : Scope) (role : Role) (k : ReferenceCode) (s : List ℕ)
    (c : Cursor) (r : Reference) (c' : Cursor) : Type 0 where
  pub went : Passed s c (drop 1 (reference_bytes r)) c'
  pub starts : reference_bytes r ≡ reference_code k ∷ drop 1 (reference_bytes r)
  pub known : Known e sc r
  pub fits : Fits e sc (reference r)
  pub targeted : Targeted role sc r

pub record TargetSound (e : Environment) (sc : Scope) (s : List ℕ) (c : Cursor) (r : Reference) (c' : Cursor) : Type 0 where
  pub went : Passed s c (reference_bytes r) c'
  pub known : Known e sc r
  pub target : Target sc r

some_mapped : {A B : Type 0} (f : A → B) (x : Option A) → is_some x ≡ true → is_some (map f x) ≡ true
some_mapped f (some a) e = refl
some_mapped f none e = e

-- ---- fields with a test

module _ (s : List ℕ) (c : Cursor) {c' : Cursor} {x : ℕ} where
  pub context-went : (sc : Scope) → context_byte sc s c ≡ read x c' → Passed s c (x ∷ []) c' × (in_scope sc x ≡ true)
  unfolding context_byte
  context-went sc e = let t = tested-read s c byte (in_scope sc) _ e in (byte-went s c t.0, t.1)

  pub message-went : (e : Environment) → message_byte e s c ≡ read x c' → Passed s c (x ∷ []) c' × (declared e x ≡ true)
  unfolding message_byte
  message-went e h = let t = tested-read s c byte (declared e) _ h in (byte-went s c t.0, t.1)

  pub parameter-went : Octets s → (e : Environment) (m : ℕ) → parameter_word e m s c ≡ read x c' →
      Passed s c (word_bytes x) c' × (is_some (parameter_format e m x) ≡ true)
  unfolding parameter_word
  parameter-went octets e m h =
      let t = tested-read s c word (λ i. is_some (parameter_format e m i)) _ h in (word-went s c octets t.0, t.1)

module _ (s : List ℕ) (octets : Octets s) where
  pub naming-went : (k : StreamCode) (c : Cursor) (n : Name) (c' : Cursor) → naming k s c ≡ read n c' →
      Passed s c (name_bytes n) c' × (name_code n ≡ k)
  naming-went Relation c n c' h = undo (name s c) _ h (λ x q e v.
      same v (λ n c'. Passed s c (name_bytes n) c' × (name_code n ≡ Relation)) (name-went s c e, refl))
  naming-went Rid c n c' h = undo (word s c) _ h (λ x q e v.
      same v (λ n c'. Passed s c (name_bytes n) c' × (name_code n ≡ Rid)) (word-went s c octets e, refl))

  -- ---- literals

  pub number-went : (w : Width) (c : Cursor) {n : ℕ} {c' : Cursor} → number_of w s c ≡ read n c' → Passed s c (number_bytes w n) c'
  number-went Short c e = word-went s c octets e
  number-went Long c e = long-went s c octets e
  number-went Int64 c e = int64-went s c octets e

  pub literal-under-sound : (v : Version) (k : LiteralType) (c : Cursor) (l : Literal) (c' : Cursor) → literal_due v k ≡ true →
      literal_under k s c ≡ read l c' → LiteralUnderSound v k s c l c'
  unfolding literal_under literal_bytes
  literal-under-sound v (NumberLiteral w) c l c' d h = undo (scale_byte w s c) _ h (λ x q e u. undo (number_of w s q) _ u (λ n q₁ e₁ u₁.
      let i = scale-went s c w e in
      same u₁ (λ l c'. LiteralUnderSound v (NumberLiteral w) s c l c') (record {
        went = onward i.0 (number-went w q e₁);
        starts = refl;
        ranged = (d, i.1);
      })))
  literal-under-sound v TextLiteral c l c' d h = undo (size_word s c) _ h (λ n q e u. undo (bytes n s q) _ u (λ t q₁ e₁ u₁.
      let b = bytes-went s q n e₁ in
      let i = rw (sym b.1) at (size-went s c octets e) in
      same u₁ (λ l c'. LiteralUnderSound v TextLiteral s c l c') (record { went = onward i.0 b.0; starts = refl; ranged = i.1 })))

  pub literal-sound : (v : Version) (c : Cursor) (l : Literal) (c' : Cursor) → read_literal v s c ≡ read l c' → LiteralSound v s c l c'
  unfolding read_literal
  literal-sound v c l c' h = undo (coded _ s c) _ h (λ k q e u. needed (literal_due v k) _ _ _ _ _ u (λ d u₁.
      let i = literal-under-sound v k q l c' d u₁ in
      record { went = coded-onward (coded-went literal-due s c e) i.starts i.went; ranged = i.ranged }))

  -- ---- references

  module _ (e : Environment) (sc : Scope) where
    field-allowed : (role : Role) (c : Cursor) (x : ℕ) {B G : Type 0} (k : Unit {0} → Cursor → Read B) {b : B} {c' : Cursor} →
        on_read (field_allowed role sc x s c) k ≡ read b c' → (Asked role (field_target sc x) → k tt c ≡ read b c' → G) → G
    field-allowed AsValue c x k h g = g tt h
    field-allowed (AsTarget p) c x k h g = needed (field_target sc x) _ _ _ _ k h g

    parameter-allowed : (role : Role) (c : Cursor) (m : ℕ) {B G : Type 0} (k : Unit {0} → Cursor → Read B) {b : B} {c' : Cursor} →
        on_read (parameter_allowed role sc m s c) k ≡ read b c' → (Asked role (parameter_target sc m) → k tt c ≡ read b c' → G) → G
    parameter-allowed AsValue c m k h g = g tt h
    parameter-allowed (AsTarget p) c m k h g = needed (parameter_target sc m) _ _ _ _ k h g

    pub field-name-went : (x : ℕ) (k : StreamCode) (c : Cursor) (n : Name) (c' : Cursor) → field_name sc x (naming k) s c ≡ read n c' →
        Passed s c (name_bytes n) c' × (name_code n ≡ k) × (is_some (field_format sc x n) ≡ true)
    unfolding field_name
    field-name-went x k c n c' h =
        let t = tested-read s c (naming k) (λ n. is_some (field_format sc x n)) _ h in
        let i = naming-went k c n c' t.0 in
        (i.0, i.1, t.1)

    -- a field after its code: its name is of the kind that the code says
    field-bytes : (c : ℕ) (n : Name) → reference_bytes (field c n) ≡ reference_code (field_code (name_code n)) ∷ c ∷ name_bytes n
    unfolding reference_bytes
    field-bytes c (named n) = refl
    field-bytes c (numbered i) = refl

    pub field-sound : (role : Role) (p : ℕ) (k : StreamCode) (c : Cursor) (r : Reference) (c' : Cursor) →
        read_field e sc role p (naming k) s c ≡ read r c' → ReferenceSound e sc role (field_code k) s c r c'
    unfolding read_field kind_of reference_kind
    field-sound role p k c r c' h = undo (context_byte sc s c) _ h (λ x q e₁ v. field-allowed role q x _ v (λ a v₁.
        undo (field_name sc x (naming k) s q) _ v₁ (λ n q₁ e₂ v₂. needed (is_some (reference_kind e sc (field x n))) _ _ _ _ _ v₂ (λ z v₃.
        let i = field-name-went x k q n q₁ e₂ in
        same v₃ (λ r c'. ReferenceSound e sc role (field_code k) s c r c') (record {
          went = rw (field-bytes x n) (onward (context-went s c sc e₁).0 i.0);
          starts = rw (field-bytes x n, i.1);
          known = i.2;
          fits = z;
          targeted = a;
        })))))

    pub reference-sound : (role : Role) (p : ℕ) (k : ReferenceCode) (c : Cursor) (r : Reference) (c' : Cursor) →
        read_reference e sc role p k s c ≡ read r c' → ReferenceSound e sc role k s c r c'
    unfolding read_reference reference_bytes kind_of reference_kind
    reference-sound role p Field c r c' h = field-sound role p Relation c r c' h
    reference-sound role p Fid c r c' h = field-sound role p Rid c r c' h
    reference-sound role p Parameter c r c' h = undo (message_byte e s c) _ h (λ m q e₁ v. parameter-allowed role q m _ v (λ a v₁.
        undo (parameter_word e m s q) _ v₁ (λ i q₁ e₂ v₂.
        let t = parameter-went s q octets e m e₂ in
        same v₂ (λ r c'. ReferenceSound e sc role Parameter s c r c') (record {
          went = onward (message-went s c e e₁).0 t.0;
          starts = refl;
          known = t.1;
          fits = some_mapped format_kind (parameter_format e m i) t.1;
          targeted = a;
        }))))
    reference-sound role p Parameter2 c r c' h = undo (message_byte e s c) _ h (λ m q e₁ v. parameter-allowed role q m _ v (λ a v₁.
        undo (parameter_word e m s q) _ v₁ (λ i q₁ e₂ v₂. undo (parameter_word e m s q₁) _ v₂ (λ f q₂ e₃ v₃.
        let t = parameter-went s q octets e m e₂ in
        let u = parameter-went s q₁ octets e m e₃ in
        needed (is_some (reference_kind e sc (parameter2 m i f))) _ _ _ _ _ v₃ (λ z v₄.
        same v₄ (λ r c'. ReferenceSound e sc role Parameter2 s c r c') (record {
          went = onward (message-went s c e e₁).0 (onward t.0 u.0);
          starts = refl;
          known = (t.1, u.1);
          fits = z;
          targeted = a;
        }))))))

    pub target_sound : (at : ℕ) (c : Cursor) (r : Reference) (c' : Cursor) → read_target e sc at s c ≡ read r c' → TargetSound e sc s c r c'
    unfolding read_target
    target_sound at c r c' h = undo (coded _ s c) _ h (λ k q e₁ v.
        let i = reference-sound (AsTarget at) c.at k q r c' v in record {
          went = coded-onward (coded-went target-due s c e₁) i.starts i.went;
          known = i.known;
          target = targeted at sc r i.targeted;
        })
