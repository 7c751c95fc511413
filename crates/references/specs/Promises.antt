-- What the readers of literals and references promise, in the definitions' terms.
use Rattle.std.specs.Prelude.{ℕ, ◌≡◌, Bool, true, false, cond, List, Result, Ok, Err, Some, None}
use Rattle.std.specs.Prelude as std
use Rattle.std.proofs.Math.Option.{Option, some}
use Rattle.wire.specs.Options.{refused_at}
use Rattle.wire.specs.declared.refused.Refused.{Refused}
use Rattle.wire.specs.Lists.{is_some, ◌and_then◌}
use Rattle.wire.specs.declared.codes.ReferenceCode.{ReferenceCode}
use Rattle.wire.specs.declared.codes.ReferenceCode.TheVariants as Code
use Rattle.wire.specs.Versions.{field_due}
use Rattle.wire.specs.declared.codes.Version.{Version}
use Rattle.dictionary.specs.Format.{Format}
use Rattle.dictionary.specs.Dictionary.{Relation, dictionary}
use Rattle.dictionary.specs.Internal.Walk.{entry_field, relation_at}
use Rattle.dictionary.specs.Naming.{Name, field_of, format_of}
use Rattle.grammar.specs.declared.Kind.{Kind}
use Rattle.grammar.specs.declared.Kind.TheVariants.{Number, Text, Date}
use Rattle.grammar.specs.declared.Cursor.{Cursor}
use Rattle.grammar.specs.declared.Refusal.{Refusal}
use Rattle.grammar.specs.declared.Refusal.TheVariants.{Unknown, NoParameter, Unfit}
use Rattle.grammar.specs.declared.Role.{Role}
use Rattle.grammar.specs.declared.Role.TheVariants.{AsValue, AsTarget}
use Rattle.grammar.specs.Tree.{Literal, Reference}
use Rattle.grammar.specs.Environment.{Environment, Scope}
use Rattle.grammar.specs.Scope.{field_target, parameter_target}
use Rattle.grammar.specs.Kinds.{format_kind, field_kind, literal_kind, reference_kind}
use Rattle.grammar.specs.Reader.{Reader, ◌>>=◌, ◌>>◌, return, need, word, tested}
use Rattle.grammar.specs.Reading.{relations_of}
use Rattle.grammar.specs.Values.{read_reference, by_name, by_number}
use Rattle.grammar.specs.Internal.Steps.{fit_of, answer_of}
use Rattle.scopes.specs.Scopes.{scope_of}
use Rattle.messages.specs.Entries.{messages_in, version_in, message_at, parameter_kind}

-- what stands around the statements: the relations of the dictionary, and the version and the messages that their array stands for
unfoldable pub environment_of : List ℕ → List ℕ → Environment
environment_of d around = record { version = version_in around; relations = relations_of (dictionary d); messages = messages_in around }

-- ---- the kinds of what was read

-- the kind of what was read, and the cursor after it
abbrev pub Step : Type 0
Step = Result (std.Option Kind × Cursor) (Refused Refusal)

abbrev pub literal_fit : Literal → std.Option Kind
literal_fit l = fit_of (some (literal_kind l))

abbrev pub reference_fit : Environment → Scope → Reference → std.Option Kind
reference_fit e sc r = fit_of (reference_kind e sc r)

-- ---- what a target asks beyond a value

abbrev pub place_of : Role → ℕ
place_of AsValue = 0
place_of (AsTarget p) = p

-- a value may name anything
abbrev pub allowed_by : Role → Bool → Bool
allowed_by AsValue target = true
allowed_by (AsTarget p) target = target

abbrev pub field_allows : Role → Scope → ℕ → Bool
field_allows role sc c = allowed_by role (field_target sc c)

abbrev pub parameter_allows : Role → Scope → ℕ → Bool
parameter_allows role sc m = allowed_by role (parameter_target sc m)

-- ---- fields of a relation

-- the kind of a field, where a request of a version may name it
unfoldable pub name_kind : Version → Relation → Name → Option Kind
name_kind v r n = (field_of r n and_then format_of r) and_then field_kind v

-- the kind of a field, or 13 at the place of its code where a request of the version may not name it
abbrev pub due_step : Version → Format → ℕ → Cursor → Step
due_step v f p c = cond (field_due v f.type) (Ok (Some (format_kind f), c)) (Err (refused_at Unfit p))

-- the field whose entry was looked up for the name at q, and whose code stands at p
abbrev pub entry_step : Version → List ℕ → std.Option ℕ → ℕ → ℕ → Cursor → Step
entry_step v d (Some x) q p c = due_step v (entry_field d x).format p c
entry_step v d None q p c = Err (refused_at Unknown q)

-- the name or the id of a field of a relation, whose code stands at p of a request of a version
abbrev pub named_in : Version → Relation → Reader Name → ℕ → Reader Name
named_in v r naming p = do
  n ← tested naming (λ n. is_some (field_of r n and_then format_of r)) Unknown
  need (is_some (name_kind v r n)) Unfit p
  return n

unfoldable pub field_in : Version → Relation → Reader Name → ℕ → List ℕ → Cursor → Step
field_in v r naming p s c = answer_of (λ n. fit_of (name_kind v r n)) (named_in v r naming p s c)

-- ---- parameters of the message of an index

-- the word of a parameter
unfoldable pub parameter_in : List ℕ → ℕ → List ℕ → Cursor → Step
parameter_in a x s c =
    answer_of (λ i. fit_of (parameter_kind a (message_at a x) i)) (tested word (λ i. is_some (parameter_kind a (message_at a x) i)) NoParameter s c)

abbrev pub flag_step : std.Option Kind → ℕ → Step → Step
flag_step fit at (Ok (Some (Number s), c)) = Ok (fit, c)
flag_step fit at (Ok (Some Text, c)) = Err (refused_at Unfit at)
flag_step fit at (Ok (Some Date, c)) = Err (refused_at Unfit at)
flag_step fit at (Ok (None, c)) = Err (refused_at Unfit at)
flag_step fit at (Err y) = Err y

-- the flag word after a parameter of a kind
unfoldable pub flag_in : List ℕ → ℕ → std.Option Kind → ℕ → List ℕ → Cursor → Step
flag_in a x fit at s c = flag_step fit at (parameter_in a x s c)

-- ---- references

-- the reading of a reference, as the code answers it
unfoldable pub reference_step : Environment → Scope → Role → ℕ → ReferenceCode → List ℕ → Cursor → Step
reference_step e sc role p code s c = answer_of (reference_fit e sc) (read_reference e sc role p code s c)

-- a name or an id, by the code
abbrev pub naming_of : Bool → Reader Name
naming_of true = by_name
naming_of false = by_number

abbrev pub field_code : Bool → ReferenceCode
field_code true = Code.Field
field_code false = Code.Fid

-- the context of a field that was read in a scope a: a refusal is that of the field, and beside a dictionary d the field is read on in the
-- relation whose entry stands at the place that was read
abbrev pub FieldContext : (d a : List ℕ) → Role → List ℕ → Cursor → Result (ℕ × Cursor) (Refused Refusal) → Type 0
FieldContext d a role s c (Err y) = (e : Environment) (p : ℕ) (b : Bool) → reference_step e (scope_of d a) role p (field_code b) s c ≡ Err y
FieldContext d a role s c (Ok x) =
    (e : Environment) (p : ℕ) (b : Bool) →
    reference_step e (scope_of d a) role p (field_code b) s c ≡ field_in e.version (relation_at d x.0) (naming_of b) p s x.1

abbrev pub parameter_code : Bool → ReferenceCode
parameter_code false = Code.Parameter
parameter_code true = Code.Parameter2

-- a parameter of the message of the index x, read on from q: its word, then its flag word, if it has one
pub record ParameterWords (d around a : List ℕ) (role : Role) (s : List ℕ) (c : Cursor) (x : ℕ) (q : Cursor) : Type 0 where
  pub plain : (p : ℕ) → reference_step (environment_of d around) (scope_of d a) role p Code.Parameter s c ≡ parameter_in around x s q
  pub cut : {y : Refused Refusal} → parameter_in around x s q ≡ Err y → (p : ℕ) →
      reference_step (environment_of d around) (scope_of d a) role p Code.Parameter2 s c ≡ Err y
  pub flagged : {fit : std.Option Kind} {w : Cursor} → parameter_in around x s q ≡ Ok (fit, w) → (p : ℕ) →
      reference_step (environment_of d around) (scope_of d a) role p Code.Parameter2 s c ≡ flag_in around x fit p s w

-- the message of a parameter that was read beside the array: a refusal is that of the parameter
abbrev pub ParameterMessage : (d around a : List ℕ) → Role → List ℕ → Cursor → Result (ℕ × Cursor) (Refused Refusal) → Type 0
ParameterMessage d around a role s c (Err y) =
    (p : ℕ) (b : Bool) → reference_step (environment_of d around) (scope_of d a) role p (parameter_code b) s c ≡ Err y
ParameterMessage d around a role s c (Ok x) = ParameterWords d around a role s c x.0 x.1
