-- 01, "Scope and kind": the rules of scope for each part of a request, and that every name stands for something.
use Rattle.std.specs.Prelude.{ℕ, ◌≡◌, Bool, true, false, List, [], ◌∷◌, map, eqb}
use Rattle.std.proofs.Math.Option.{Option, none, some}
use Rattle.wire.specs.Codes as blr
use Rattle.wire.specs.Lists.{among, is_some}
use Rattle.dictionary.specs.Dictionary.{Relation}
use Rattle.dictionary.specs.Naming.{relation_of}
use Rattle.grammar.specs.Tree.{Message, Stream, Reference, field, parameter, parameter2, Heading, loop, modify, handler, receive, send, store, label, Receives, last, more}
use Rattle.grammar.specs.Environment.{Environment, Context, Scope, context_of, message_of, parameter_format, field_format}

-- ---- tests, which reading makes too

unfoldable pub in_scope : Scope → ℕ → Bool
in_scope sc c = is_some (context_of sc c)

unfoldable pub declared : Environment → ℕ → Bool
declared e m = is_some (message_of e m)

abbrev pub opened_by_for : Option Context → Bool
opened_by_for none = false
opened_by_for (some x) = eqb x.opener blr.for

-- 01: "Erase and modify name a context from a for."
unfoldable pub of_for : Scope → ℕ → Bool
of_for sc c = opened_by_for (context_of sc c)

abbrev pub is_number : Option ℕ → ℕ → Bool
is_number none c = false
is_number (some x) c = eqb x c

-- a store or a modify is around
unfoldable pub updating : Scope → Bool
updating sc = is_some sc.target

-- 01: "A field target names the context of the nearest enclosing modify or store; a parameter target stands inside a send of its message."
unfoldable pub field_target : Scope → ℕ → Bool
field_target sc c = is_number sc.target c

unfoldable pub parameter_target : Scope → ℕ → Bool
parameter_target sc m = among m sc.sends

-- ---- the rules

-- no number stands twice in a list
abbrev pub Unique : List ℕ → Type 0
Unique [] = Unit {0}
Unique (x ∷ xs) = (among x xs ≡ false) × Unique xs

abbrev pub message_numbers : List Message → List ℕ
message_numbers ms = map (λ m. m.number) ms

abbrev pub Known : Environment → Scope → Reference → Type 0
Known e sc (field c n) = is_some (field_format sc c n) ≡ true
Known e sc (parameter m i) = is_some (parameter_format e m i) ≡ true
Known e sc (parameter2 m i flag) = (is_some (parameter_format e m i) ≡ true) × (is_some (parameter_format e m flag) ≡ true)

abbrev pub Target : Scope → Reference → Type 0
Target sc (field c n) = field_target sc c ≡ true
Target sc (parameter m i) = parameter_target sc m ≡ true
Target sc (parameter2 m i flag) = parameter_target sc m ≡ true

-- 01: "A number already in scope cannot be declared again, ..; after its scope it can."
abbrev pub StreamScoped : List Relation → Scope → Stream → Type 0
StreamScoped d sc s = (is_some (relation_of d s.relation) ≡ true) × (in_scope sc s.context ≡ false)

abbrev pub EachScoped : List Relation → Scope → List Stream → Type 0
EachScoped d sc [] = Unit {0}
EachScoped d sc (s ∷ ss) = StreamScoped d sc s × EachScoped d sc ss

abbrev pub stream_contexts : List Stream → List ℕ
stream_contexts ss = map (λ s. s.context) ss

-- 01: "nor twice among the streams of one rse (11)"
abbrev pub StreamsScoped : List Relation → Scope → List Stream → Type 0
StreamsScoped d sc ss = EachScoped d sc ss × Unique (stream_contexts ss)

-- 01: "Store and modify contain no send or receive."
abbrev pub Exchanged : Environment → Scope → ℕ → Type 0
Exchanged e sc m = (updating sc ≡ false) × (declared e m ≡ true)

abbrev pub HeadingScoped : Environment → Scope → Heading → Type 0
HeadingScoped e sc loop = Unit {0}
HeadingScoped e sc (modify from to) = (of_for sc from ≡ true) × (in_scope sc to ≡ false)
HeadingScoped e sc handler = Unit {0}
HeadingScoped e sc (receive m) = Exchanged e sc m
HeadingScoped e sc (send m) = Exchanged e sc m
HeadingScoped e sc (store s) = StreamScoped e.relations sc s
HeadingScoped e sc (label n) = Unit {0}

-- 01: "Leave stands inside a label of its number"; which label it means, where several have that number, is not said here
abbrev pub Labelled : Scope → ℕ → Type 0
Labelled sc n = among n sc.labels ≡ true

-- the messages of the receives of a select
abbrev pub selected_messages : Receives → List ℕ
selected_messages (last m s) = m ∷ []
selected_messages (more m s rs) = m ∷ selected_messages rs
