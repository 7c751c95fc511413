-- The bytes of literals and references that the rules allow are read as those.
use Prim.Native.Nat.{ℕ, ◌+◌}
use mathlib.Core.Path.{◌≡◌, refl}
use mathlib.Core.Bool.{true}
use mathlib.Core.List.{List, [], ◌∷◌, ◌++◌}
use lib.ListN.{length}
use Rattle.wire.specs.Codes as blr
use Rattle.wire.specs.Lists.{is_some}
use Rattle.wire.specs.Words.{word_bytes}
use Rattle.wire.specs.Classes.{due, classify, literal_class, value_class, target_class}
use Rattle.wire.specs.declared.codes.Version.{Version}
use Rattle.wire.specs.declared.codes.Width.{Width}
use Rattle.wire.specs.declared.codes.Width.TheVariants.{Short, Long, Int64}
use Rattle.wire.specs.declared.codes.LiteralType.TheVariants.{NumberLiteral, TextLiteral}
use Rattle.wire.specs.declared.codes.ReferenceCode.{ReferenceCode}
use Rattle.wire.specs.declared.codes.ReferenceCode.TheVariants.{Field, Fid, Parameter, Parameter2}
use Rattle.wire.specs.declared.codes.ValueCode.TheVariants as Code
use Rattle.dictionary.specs.Naming.{Name, named, numbered}
use Rattle.grammar.specs.declared.Refusal.TheVariants.{BadMessage, NoParameter, BadContext, Unknown}
use Rattle.grammar.specs.declared.Cursor.{Cursor}
use Rattle.grammar.specs.declared.Role.{Role}
use Rattle.grammar.specs.declared.Role.TheVariants.{AsValue, AsTarget}
use Rattle.grammar.specs.Tree.{Literal, Reference, field, parameter, parameter2}
use Rattle.grammar.specs.Bytes.{counted_bytes, width_code, number_bytes, literal_bytes, reference_bytes}
use Rattle.grammar.specs.Environment.{Environment, Scope, parameter_format, field_format}
use Rattle.grammar.specs.Scope.{in_scope, declared, Known, Target}
use Rattle.grammar.specs.Kinds.{reference_kind}
use Rattle.grammar.specs.Sizes.{LiteralAllowed}
use Rattle.grammar.specs.Reader.{Reader, read}
use Rattle.grammar.specs.Values.{number_of, literal_under, read_literal, context_byte, message_byte, parameter_word, by_name, by_number, field_name, field_allowed, parameter_allowed, read_field, read_reference, read_target}
use Rattle.grammar.proofs.Parts.{Reads, alone, placed, in-turn, three-in-turn, byte_reads, word-reads, long-reads, int64-reads, bytes_read, name-reads, coded-reads, tested_reads}
use Rattle.grammar.proofs.Due.{number-due}
use Rattle.grammar.proofs.Implied.{field-scoped, parameter-declared, text-long}
use Rattle.grammar.proofs.CompleteMessages.{scale-reads, size-reads}

-- ---- literals

number-reads : (s : List ℕ) (w : Width) (n : ℕ) → Reads s (number_of w) (number_bytes w n) n 0 0
number-reads s Short n = word-reads n
number-reads s Long n = long-reads n
number-reads s Int64 n = int64-reads n

pub literal-reads : (s : List ℕ) (v : Version) (l : Literal) → LiteralAllowed v l → Reads s (read_literal v) (literal_bytes l) l 0 0
unfolding read_literal literal_under literal_bytes literal_class classify
literal-reads s v (Literal.number w scale n) r =
    three-in-turn (coded-reads literal_class (width_code w) (NumberLiteral w) (number-due w)) (scale-reads w scale r.1) (number-reads s w n)
    (λ c q z t rest a b h d. rw (read_literal, a, r.0, b, d)) refl refl
literal-reads s v (Literal.text t) r =
    three-in-turn (coded-reads literal_class blr.text TextLiteral refl) (size-reads (length t) r) (bytes_read t (text-long (length t) r))
    (λ c q r t rest a b h d. rw (read_literal, a, b, d)) refl refl

-- ---- names, contexts, messages and parameters

abbrev pub name_bytes : Name → List ℕ
name_bytes (named n) = counted_bytes n
name_bytes (numbered i) = word_bytes i

abbrev pub naming_of : Name → Reader Name
naming_of (named n) = by_name
naming_of (numbered i) = by_number

pub naming-reads : (s : List ℕ) (n : Name) → Reads s (naming_of n) (name_bytes n) n 0 0
naming-reads s (named n) = alone (name-reads n) (λ c q rest h a. rw a)
naming-reads s (numbered i) = alone (word-reads i) (λ c q rest h a. rw a)

module _ (s : List ℕ) where
  pub context-reads : (sc : Scope) (x : ℕ) → in_scope sc x ≡ true → Reads s (context_byte sc) (x ∷ []) x 0 0
  unfolding context_byte
  context-reads sc x t = tested_reads (in_scope sc) BadContext (byte_reads x) t

  pub message-byte-reads : (e : Environment) (m : ℕ) → declared e m ≡ true → Reads s (message_byte e) (m ∷ []) m 0 0
  unfolding message_byte
  message-byte-reads e m t = tested_reads (declared e) BadMessage (byte_reads m) t

  parameter-reads : (e : Environment) (m i : ℕ) → is_some (parameter_format e m i) ≡ true → Reads s (parameter_word e m) (word_bytes i) i 0 0
  unfolding parameter_word
  parameter-reads e m i t = tested_reads (λ x. is_some (parameter_format e m x)) NoParameter (word-reads i) t

  field-name-reads : (sc : Scope) (x : ℕ) (n : Name) → is_some (field_format sc x n) ≡ true →
      Reads s (field_name sc x (naming_of n)) (name_bytes n) n 0 0
  unfolding field_name
  field-name-reads sc x n t = tested_reads (λ y. is_some (field_format sc x y)) Unknown (naming-reads s n) t

-- ---- references, as values and as targets

-- what reading tests of a reference by its role; it passes
abbrev allowed : Role → Scope → Reference → Reader (Unit {0})
allowed role sc (field c n) = field_allowed role sc c
allowed role sc (parameter m i) = parameter_allowed role sc m
allowed role sc (parameter2 m i flag) = parameter_allowed role sc m

abbrev pub Suits : Role → Scope → Reference → Type 0
Suits role sc r = (s : List ℕ) (c : Cursor) → allowed role sc r s c ≡ read tt c

pub value-suits : (sc : Scope) (r : Reference) → Suits AsValue sc r
value-suits sc (field c n) s q = refl
value-suits sc (parameter m i) s q = refl
value-suits sc (parameter2 m i flag) s q = refl

pub target-suits : (sc : Scope) (r : Reference) (p : ℕ) → Target sc r → Suits (AsTarget p) sc r
target-suits sc (field c n) p t s q = rw t
target-suits sc (parameter m i) p t s q = rw t
target-suits sc (parameter2 m i flag) p t s q = rw t

-- the code of a reference, and what stands after it
abbrev pub reference_code : Reference → ReferenceCode
reference_code (field c (named n)) = Field
reference_code (field c (numbered i)) = Fid
reference_code (parameter m i) = Parameter
reference_code (parameter2 m i flag) = Parameter2

abbrev pub reference_rest : Reference → List ℕ
reference_rest (field c n) = c ∷ name_bytes n
reference_rest (parameter m i) = m ∷ word_bytes i
reference_rest (parameter2 m i flag) = m ∷ word_bytes i ++ word_bytes flag

field-reads : (e : Environment) (sc : Scope) (role : Role) (p x : ℕ) (n : Name) →
    read_reference e sc role p (reference_code (field x n)) ≡ read_field e sc role p (naming_of n)
unfolding read_reference
field-reads e sc role p x (named n) = refl
field-reads e sc role p x (numbered i) = refl

pub reference-reads : (s : List ℕ) (e : Environment) (sc : Scope) (role : Role) (p : ℕ) (r : Reference) → Known e sc r → Suits role sc r →
    is_some (reference_kind e sc r) ≡ true → Reads s (read_reference e sc role p (reference_code r)) (reference_rest r) r 0 0
unfolding read_reference read_field
reference-reads s e sc role p (field x n) k t w =
    in-turn (context-reads s sc x (field-scoped sc x n k)) (field-name-reads s sc x n k)
    (λ c q r rest h a i b. rw (field-reads e sc role p x n, read_field, a, t s q, b, w)) refl refl
reference-reads s e sc role p (parameter m i) k t w =
    in-turn (message-byte-reads s e m (parameter-declared e m i k)) (parameter-reads s e m i k)
    (λ c q r rest h a i b. rw (read_reference, a, t s q, b)) refl refl
reference-reads s e sc role p (parameter2 m i flag) k t w =
    three-in-turn (message-byte-reads s e m (parameter-declared e m i k.0)) (parameter-reads s e m i k.0)
    (parameter-reads s e m flag k.1)
    (λ c q r z rest a b h d. rw (read_reference, a, t s q, b, d, w)) refl refl

-- the code in front, which is due as a value and as a target
pub reference-due : (r : Reference) →
    (x : ℕ) × (reference_bytes r ≡ x ∷ reference_rest r) × (value_class x ≡ due (Code.Reference (reference_code r))) ×
    (target_class x ≡ due (reference_code r))
unfolding reference_bytes value_class target_class classify
reference-due (field c (named n)) = (blr.field, refl, refl, refl)
reference-due (field c (numbered i)) = (blr.fid, refl, refl, refl)
reference-due (parameter m i) = (blr.parameter, refl, refl, refl)
reference-due (parameter2 m i flag) = (blr.parameter2, refl, refl, refl)

pub target-reads : (s : List ℕ) (e : Environment) (sc : Scope) (p : ℕ) (r : Reference) → Known e sc r → Target sc r →
    is_some (reference_kind e sc r) ≡ true → Reads s (read_target e sc p) (reference_bytes r) r 0 0
unfolding read_target
target-reads s e sc p r k t w =
    let z = reference-due r in
    rw z.1 (placed (coded-reads target_class z.0 (reference_code r) z.3)
    (λ at. reference-reads s e sc (AsTarget p) at r k (target-suits sc r p t) w) (λ c q r rest h a i b. rw (read_target, a, b)) refl refl)
