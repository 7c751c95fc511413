-- Fields and parameters as steps, each way through reading them. Assumes nothing.
use Prim.Native.Nat.{ℕ}
use mathlib.Core.Path.{◌≡◌, refl, sym, ap, ◌∙◌}
use mathlib.Core.Bool.{Bool, true, false}
use mathlib.Core.List.{List}
use mathlib.Core.Option.{Option, none, some}
use Rattle.wire.specs.Lists.{is_some, ◌and_then◌}
use Rattle.dictionary.specs.Dictionary.{Relation}
use Rattle.dictionary.specs.Naming.{Name, field_of, format_of}
use Rattle.grammar.specs.declared.Kind.{Kind}
use Rattle.grammar.specs.declared.Refusal.{Refusal}
use Rattle.grammar.specs.declared.Refusal.TheVariants.{BadContext, BadMessage, Misplaced, NoParameter, Unfit}
use Rattle.grammar.specs.declared.Cursor.{Cursor}
use Rattle.std.specs.Prelude.{Result, Ok, Err, Some, None}
use Rattle.std.specs.Prelude as std
use Rattle.wire.specs.Options.{option_of, refused_at}
use Rattle.wire.specs.declared.refused.Refused.{Refused}
use Rattle.grammar.specs.declared.Role.{Role}
use Rattle.grammar.specs.declared.Role.TheVariants.{AsValue, AsTarget}
use Rattle.grammar.specs.Tree.{Reference, field, parameter, parameter2}
use Rattle.grammar.specs.Environment.{Environment, Scope, relation_of_context, field_format}
use Rattle.grammar.specs.Scope.{in_scope, declared}
use Rattle.grammar.specs.Kinds.{field_kind, flagged, reference_kind}
use Rattle.grammar.specs.Reader.{Read, read, refused, Reader, ◌>>=◌, ◌>>◌, return, on_read, need, byte, word, tested}
use Rattle.grammar.specs.Values.{context_byte, message_byte, parameter_word}
use Rattle.grammar.specs.Values.{field_name, field_allowed, parameter_allowed, read_field, read_reference}
use Rattle.grammar.specs.Internal.Steps.{fit_of, answer_of}
use Rattle.grammar.proofs.StepLaws.{absurd-eq, answer-read, answer-refused}
use Rattle.grammar.proofs.Went.{tested-read}
use Rattle.dictionary.specs.Internal.Walk.{relation_at}
use Rattle.scopes.specs.Scopes.{contexts_in, found_of, relation_place, scope_of}
use Rattle.scopes.proofs.Scopes.{is-in-scope, is-relation}
use Rattle.messages.specs.Entries.{declared_in, found_of as message_found, message_at, messages_in, parameter_kind}
use Rattle.messages.proofs.Found.{is_declared, parameter-format, parameter-known as parameter-some}
use Rattle.references.specs.Promises.{Step, reference_fit, place_of, field_allows, parameter_allows}
use Rattle.references.specs.Promises.{naming_of, field_in, field_code, parameter_in, flag_step, flag_in, parameter_code, reference_step, ParameterWords, environment_of}
use Rattle.references.proofs.Known.{known_step, tested-known, tested-refused, name-steps, field-known, field-refused}

-- ---- what a target asks

not_so : {A : Type 0} → true ≡ false → A
not_so e = absurd-eq (cc)

module _ (sc : Scope) (n : ℕ) (s : List ℕ) (q : Cursor) where
  field-allowed : (role : Role) → field_allows role sc n ≡ true → field_allowed role sc n s q ≡ read tt q
  field-allowed AsValue e = refl
  field-allowed (AsTarget p) e = rw e

  field-not-allowed : (role : Role) → field_allows role sc n ≡ false → field_allowed role sc n s q ≡ refused Misplaced (place_of role)
  field-not-allowed AsValue e = not_so e
  field-not-allowed (AsTarget p) e = rw e

  parameter-allowed : (role : Role) → parameter_allows role sc n ≡ true → parameter_allowed role sc n s q ≡ read tt q
  parameter-allowed AsValue e = refl
  parameter-allowed (AsTarget p) e = rw e

  parameter-not-allowed : (role : Role) → parameter_allows role sc n ≡ false →
      parameter_allowed role sc n s q ≡ refused Misplaced (place_of role)
  parameter-not-allowed AsValue e = not_so e
  parameter-not-allowed (AsTarget p) e = rw e

-- ---- fields

module _ (e : Environment) (sc : Scope) (n : ℕ) (r : Relation) (h : relation_of_context sc n ≡ some r) (naming : Reader Name)
    (p : ℕ) (s : List ℕ) (c : Cursor) where
  format_is : (m : Name) → field_format sc n m ≡ (field_of r m and_then format_of r)
  unfolding field_format
  format_is m = rw (field_format, h)

  kind_is : (m : Name) → reference_kind e sc (field n m) ≡ ((field_of r m and_then format_of r) and_then field_kind e.version)
  unfolding reference_kind
  kind_is m = ap (λ x. x and_then field_kind e.version) (format_is m)

  -- what stands after the context of a field
  abbrev named : Read Name → Read Reference
  named x =
      on_read x (λ m q. on_read (need (is_some (reference_kind e sc (field n m))) Unfit p s q) (λ u q. read (field n m) q))

  named_by : (x : Read Name) → naming s c ≡ x →
      answer_of (reference_fit e sc) (named (field_name sc n naming s c)) ≡ field_in e.version r naming p s c
  unfolding field_name tested
  named_by (read m q) k =
      rw (field_name, tested, k, format_is m)
      (name-steps e.version (reference_fit e sc) s p q (field_of r m and_then format_of r) (field n) (λ m. reference_kind e sc (field n m)) m
      c.at (kind_is m) refl)
      ∙ sym (field-known e.version r p s c naming k)
  named_by (refused x q) k = rw (field_name, tested, k) (sym (field-refused e.version r p s c naming k))

  named-field : answer_of (reference_fit e sc) (named (field_name sc n naming s c)) ≡ field_in e.version r naming p s c
  named-field = named_by (naming s c) refl

module _ (e : Environment) (sc : Scope) (role : Role) (p : ℕ) where
  field-by : (b : Bool) (s : List ℕ) (c : Cursor) →
      reference_step e sc role p (field_code b) s c ≡ answer_of (reference_fit e sc) (read_field e sc role p (naming_of b) s c)
  unfolding reference_step read_reference
  field-by true s c = refl
  field-by false s c = refl

module _ (e : Environment) (sc : Scope) (role : Role) (p : ℕ) (b : Bool) (s : List ℕ) (c : Cursor) where
  field_step : reference_step e sc role p (field_code b) s c ≡ answer_of (reference_fit e sc) (read_field e sc role p (naming_of b) s c)
  field_step = field-by e sc role p b s c

  pub field-ended : {y : Refused Refusal} → byte s c ≡ refused y.refusal y.place →
      reference_step e sc role p (field_code b) s c ≡ Err y
  unfolding read_field context_byte tested
  field-ended h = field_step ∙ rw (read_field, context_byte, tested, h)

  module _ {n : ℕ} {first : Cursor} (h : byte s c ≡ read n first) where
    pub field-out-of-scope : in_scope sc n ≡ false → reference_step e sc role p (field_code b) s c ≡ Err (refused_at BadContext c.at)
    unfolding read_field context_byte tested
    field-out-of-scope k = field_step ∙ rw (read_field, context_byte, tested, h, k)

    module _ (k : in_scope sc n ≡ true) where
      pub field-misplaced : field_allows role sc n ≡ false →
          reference_step e sc role p (field_code b) s c ≡ Err (refused_at Misplaced (place_of role))
      unfolding read_field context_byte tested
      field-misplaced a = field_step ∙ rw (read_field, context_byte, tested, h, k, field-not-allowed sc n s first role a)

      pub field-placed : field_allows role sc n ≡ true → {r : Relation} → relation_of_context sc n ≡ some r →
          reference_step e sc role p (field_code b) s c ≡ field_in e.version r (naming_of b) p s first
      unfolding read_field context_byte tested
      field-placed a {r} i =
          field_step ∙
          rw (read_field, context_byte, tested, h, k, field-allowed sc n s first role a) (named-field e sc n r i (naming_of b) p s first)

-- the context of a field was found in a scope, beside a dictionary
pub field-found : (e : Environment) (d a : List ℕ) (role : Role) (p : ℕ) (b : Bool) (s : List ℕ) (c : Cursor) {n i relation : ℕ} {first : Cursor} →
    byte s c ≡ read n first → option_of (found_of (contexts_in a) n) ≡ Some i → field_allows role (scope_of d a) n ≡ true →
    relation ≡ relation_place a i →
    reference_step e (scope_of d a) role p (field_code b) s c ≡ field_in e.version (relation_at d relation) (naming_of b) p s first
field-found e d a role p b s c {n} {i} h found allowed r =
    field-placed e (scope_of d a) role p b s c h (is-in-scope d a n i found) allowed
    (is-relation d a n i found ∙ ap (λ x. some (relation_at d x)) (sym r))

-- ---- parameters

-- the kind of a parameter of the message of an index
abbrev kind_at : List ℕ → ℕ → ℕ → Option Kind
kind_at a x i = parameter_kind a (message_at a x) i

module _ (a : List ℕ) (x : ℕ) (s : List ℕ) (c : Cursor) where
  pub parameter-known : {i : ℕ} {q : Cursor} → word s c ≡ read i q →
      parameter_in a x s c ≡ known_step NoParameter (fit_of (kind_at a x i)) c.at q
  unfolding parameter_in
  parameter-known {i} h =
      tested-known word (λ i. is_some (kind_at a x i)) (λ i. fit_of (kind_at a x i)) NoParameter s c (kind_at a x i) h refl refl

  pub parameter-cut : {r : Refusal} {p : ℕ} → word s c ≡ refused r p → parameter_in a x s c ≡ Err (refused_at r p)
  unfolding parameter_in
  parameter-cut h = tested-refused word (λ i. is_some (kind_at a x i)) (λ i. fit_of (kind_at a x i)) NoParameter s c h

flag_by : (o k : Option Kind) → is_some k ≡ true → (f : Reference → std.Option Kind) (a : Reference) → f a ≡ fit_of (flagged o k) →
    (p : ℕ) (s : List ℕ) (q : Cursor) →
    answer_of f (on_read (need (is_some (flagged o k)) Unfit p s q) (λ u q. read a q)) ≡ flag_step (fit_of k) p (Ok (fit_of o, q))
flag_by none k h f a e p s q = refl
flag_by (some (Kind.Number z)) k h f a e p s q = rw (h, e)
flag_by (some Kind.Text) k h f a e p s q = refl
flag_by (some Kind.Date) k h f a e p s q = refl

-- what stands after the message of a parameter
abbrev pub words : Environment → Scope → ℕ → ℕ → Bool → Reader Reference
words e sc p m false = do
  i ← parameter_word e m
  return (parameter m i)
words e sc p m true = do
  i ← parameter_word e m
  flag ← parameter_word e m
  need (is_some (reference_kind e sc (parameter2 m i flag))) Unfit p
  return (parameter2 m i flag)

module _ (e : Environment) (sc : Scope) (role : Role) (p : ℕ) where
  parameter-by : (b : Bool) (s : List ℕ) (c : Cursor) → reference_step e sc role p (parameter_code b) s c ≡
      answer_of (reference_fit e sc) (on_read (message_byte e s c) (λ m q. on_read (parameter_allowed role sc m s q) (λ u q. words e sc p m b s q)))
  unfolding reference_step read_reference
  parameter-by true s c = refl
  parameter-by false s c = refl

module _ (e : Environment) (sc : Scope) (role : Role) (p : ℕ) (b : Bool) (s : List ℕ) (c : Cursor) where
  pub parameter-ended : {y : Refused Refusal} → byte s c ≡ refused y.refusal y.place →
      reference_step e sc role p (parameter_code b) s c ≡ Err y
  unfolding message_byte tested
  parameter-ended h = parameter-by e sc role p b s c ∙ rw (message_byte, tested, h)

  module _ {m : ℕ} {first : Cursor} (h : byte s c ≡ read m first) where
    pub parameter-undeclared : declared e m ≡ false → reference_step e sc role p (parameter_code b) s c ≡ Err (refused_at BadMessage c.at)
    unfolding message_byte tested
    parameter-undeclared k = parameter-by e sc role p b s c ∙ rw (message_byte, tested, h, k)

    module _ (k : declared e m ≡ true) where
      pub parameter-misplaced : parameter_allows role sc m ≡ false →
          reference_step e sc role p (parameter_code b) s c ≡ Err (refused_at Misplaced (place_of role))
      unfolding message_byte tested
      parameter-misplaced a =
          parameter-by e sc role p b s c ∙ rw (message_byte, tested, h, k, parameter-not-allowed sc m s first role a)

      pub parameter-placed : parameter_allows role sc m ≡ true →
          reference_step e sc role p (parameter_code b) s c ≡ answer_of (reference_fit e sc) (words e sc p m b s first)
      unfolding message_byte tested
      parameter-placed a = parameter-by e sc role p b s c ∙ rw (message_byte, tested, h, k, parameter-allowed sc m s first role a)

-- the words of a parameter, by the definition and beside the array
module _ (e : Environment) (a : List ℕ) (same : e.messages ≡ messages_in a) (m x : ℕ) (found : option_of (message_found (declared_in a) m) ≡ Some x) where
  module _ (s : List ℕ) (c : Cursor) where
    word_same : parameter_word e m s c ≡ tested word (λ i. is_some (kind_at a x i)) NoParameter s c
    unfolding parameter_word
    word_same = ap (λ (f : ℕ → Bool). tested word f NoParameter s c) (λ j i. parameter-some e a same m x found i j)

    word_read : {k : std.Option Kind} {q : Cursor} → parameter_in a x s c ≡ Ok (k, q) →
        (i : ℕ) × (parameter_word e m s c ≡ read i q) × (k ≡ fit_of (kind_at a x i)) × (is_some (kind_at a x i) ≡ true)
    unfolding parameter_in
    word_read g =
        let (i, is, k) = answer-read _ (tested word (λ i. is_some (kind_at a x i)) NoParameter s c) (sym g) in
        (i, word_same ∙ is, k, (tested-read s c word (λ i. is_some (kind_at a x i)) NoParameter is).1)

    word-refused : {y : Refused Refusal} → parameter_in a x s c ≡ Err y → parameter_word e m s c ≡ refused y.refusal y.place
    unfolding parameter_in
    word-refused g = word_same ∙ answer-refused _ (tested word (λ i. is_some (kind_at a x i)) NoParameter s c) (sym g)

  module _ (sc : Scope) (p : ℕ) (s : List ℕ) where
    flag-kinds : (i flag : ℕ) → reference_kind e sc (parameter2 m i flag) ≡ flagged (kind_at a x flag) (kind_at a x i)
    unfolding reference_kind
    flag-kinds i flag = rw (reference_kind, parameter-format e a same m x found flag, parameter-format e a same m x found i)

    flag-after : (i : ℕ) → is_some (kind_at a x i) ≡ true → (w : Read ℕ) →
        answer_of (reference_fit e sc) (on_read w (λ flag q. on_read
        (need (is_some (reference_kind e sc (parameter2 m i flag))) Unfit p s q) (λ u q. read (parameter2 m i flag) q))) ≡
        flag_step (fit_of (kind_at a x i)) p (answer_of (λ i. fit_of (kind_at a x i)) w)
    flag-after i h (read flag q) =
        rw (flag-kinds i flag)
        (flag_by (kind_at a x flag) (kind_at a x i) h (reference_fit e sc) (parameter2 m i flag)
        (ap fit_of (flag-kinds i flag)) p s q)
    flag-after i h (refused r q) = refl

    module _ (c : Cursor) where
      pub words-refused : (b : Bool) {y : Refused Refusal} → parameter_in a x s c ≡ Err y →
          answer_of (reference_fit e sc) (words e sc p m b s c) ≡ Err y
      words-refused true g = rw (word-refused s c g)
      words-refused false g = rw (word-refused s c g)

      pub words-plain : (b : Bool) → b ≡ false → {k : std.Option Kind} {q : Cursor} → parameter_in a x s c ≡ Ok (k, q) →
          answer_of (reference_fit e sc) (words e sc p m b s c) ≡ Ok (k, q)
      unfolding reference_kind
      words-plain true z g = not_so z
      words-plain false z {k} {q} g =
          let (i, is, fit, known) = word_read s c g in
          rw (is, reference_kind, parameter-format e a same m x found i) (ap (λ (z : std.Option Kind). Ok (z, q)) (sym fit))

      pub words-flagged : (b : Bool) → b ≡ true → {k : std.Option Kind} {q : Cursor} → parameter_in a x s c ≡ Ok (k, q) →
          answer_of (reference_fit e sc) (words e sc p m b s c) ≡ flag_in a x k p s q
      unfolding flag_in parameter_in
      words-flagged true z {k} {q} g =
          let (i, is, fit, known) = word_read s c g in
          let u : answer_of (reference_fit e sc) (words e sc p m true s c) ≡ flag_in a x (fit_of (kind_at a x i)) p s q =
          rw (is, word_same s q) (flag-after i known (tested word (λ i. is_some (kind_at a x i)) NoParameter s q)) in
          u ∙ ap (λ z. flag_in a x z p s q) (sym fit)
      words-flagged false z g = not_so (sym z)

-- the message of a parameter was found
pub parameter-found : (d around a : List ℕ) (role : Role) (s : List ℕ) (c : Cursor) {m x : ℕ} {first : Cursor} → byte s c ≡ read m first →
    option_of (message_found (declared_in around) m) ≡ Some x → parameter_allows role (scope_of d a) m ≡ true →
    ParameterWords d around a role s c x first
unfolding environment_of
parameter-found d around a role s c {m} {x} {first} h found allowed =
    let e = environment_of d around in
    let sc = scope_of d a in
    let placed : (p : ℕ) (b : Bool) → reference_step e sc role p (parameter_code b) s c ≡ answer_of (reference_fit e sc) (words e sc p m b s first) =
    λ p b. parameter-placed e sc role p b s c h (is_declared e around refl m x found) allowed in
    record {
      plain = λ p. placed p false ∙ plain p (parameter_in around x s first) refl;
      cut = λ g p. placed p true ∙ words-refused e around refl m x found sc p s first true g;
      flagged = λ g p. placed p true ∙ words-flagged e around refl m x found sc p s first true refl g;
    }
  where
    plain : (p : ℕ) (y : Step) → parameter_in around x s first ≡ y →
        answer_of (reference_fit (environment_of d around) (scope_of d a)) (words (environment_of d around) (scope_of d a) p m false s first) ≡ parameter_in around x s first
    plain p (Ok (k, q)) g = words-plain (environment_of d around) around refl m x found (scope_of d a) p s first false refl g ∙ sym g
    plain p (Err y) g = words-refused (environment_of d around) around refl m x found (scope_of d a) p s first false g ∙ sym g
