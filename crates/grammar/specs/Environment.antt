-- What the names in a request stand for: contexts, messages, parameters and fields.
use Rattle.std.specs.Prelude.{ℕ, List, [], ◌∷◌, ◌++◌, map, eqb}
use Rattle.std.proofs.Math.Option
use Rattle.std.proofs.Math.Option.{Option, none, some}
use Rattle.std.proofs.Math.ListN.{get_elem?}
use Rattle.wire.specs.Codes as blr
use Rattle.wire.specs.Lists.{find, ◌and_then◌}
use Rattle.wire.specs.declared.codes.Version.{Version}
use Rattle.wire.specs.declared.codes.DataType.TheVariants.{Number, Date, Chars}
use Rattle.wire.specs.declared.codes.FieldType.TheVariants.{Plain}
use Rattle.dictionary.specs.Format.{Format, width_bytes}
use Rattle.dictionary.specs.Dictionary.{Relation}
use Rattle.dictionary.specs.Naming.{Name, relation_of, field_of, format_of}
use Rattle.grammar.specs.Tree.{Descriptor, Message, Stream, Heading, loop, modify, handler, receive, send, store, label, Rse, rse}

-- what stands around all statements: the version of the request, the relations of the dictionary and the messages of the request
pub record Environment : Type 0 where
  pub version : Version
  pub relations : List Relation
  pub messages : List Message

-- a context: its number, its relation if that is known, and the code that opened it: for, store, modify, any, unique or a statistic
pub record Context : Type 0 where
  pub number : ℕ
  pub relation : Option Relation
  pub opener : ℕ

-- what is in scope at a place: contexts in the order of their declarations, the context of the nearest store or modify around, the
-- messages being sent, and the labels around
pub record Scope : Type 0 where
  pub contexts : List Context
  pub target : Option ℕ
  pub sends : List ℕ
  pub labels : List ℕ

abbrev pub outermost : Scope
outermost = record { contexts = []; target = none; sends = []; labels = [] }

-- 01: "Context numbers, message numbers and label numbers are three countings: a 1 in one is never a 1 in another."
unfoldable pub context_of : Scope → ℕ → Option Context
context_of sc c = find (λ x. eqb x.number c) sc.contexts

unfoldable pub message_of : Environment → ℕ → Option Message
message_of e m = find (λ x. eqb x.number m) e.messages

abbrev pub relation_in : Context → Option Relation
relation_in x = x.relation

-- the relation of a context
unfoldable pub relation_of_context : Scope → ℕ → Option Relation
relation_of_context sc c = context_of sc c and_then relation_in

-- ---- scopes

-- the context of a stream, which a code opens
abbrev pub stream_context : List Relation → ℕ → Stream → Context
stream_context d opener s = record { number = s.context; relation = relation_of d s.relation; opener = opener }

abbrev pub with_contexts : Scope → List Context → Scope
with_contexts sc xs =
    record { contexts = sc.contexts ++ xs; target = sc.target; sends = sc.sends; labels = sc.labels }

-- below streams, which a code opens
unfoldable pub under_streams : List Relation → ℕ → Scope → List Stream → Scope
under_streams d opener sc ss = with_contexts sc (map (stream_context d opener) ss)

-- below the streams of an rse, which a code opens
abbrev pub under_rse_of : List Relation → ℕ → Scope → Rse → Scope
under_rse_of d opener sc (rse ss cs) = under_streams d opener sc ss

-- 01: "A context of an rse is in scope from the byte after its last stream to the end of its for"
unfoldable pub under_rse : List Relation → Scope → Rse → Scope
under_rse d sc (rse ss cs) = under_streams d blr.for sc ss

-- 01: "that of store or a modify's to-ctx, throughout its substatement"
abbrev pub under_update : Scope → Context → Scope
under_update sc x =
    record { contexts = sc.contexts ++ (x ∷ []); target = some x.number; sends = sc.sends; labels = sc.labels }

-- 01: "relation id (modify: of its from-ctx)"
abbrev pub modify_context : Scope → ℕ → ℕ → Context
modify_context sc from to = record { number = to; relation = relation_of_context sc from; opener = blr.modify }

unfoldable pub under_heading : List Relation → Scope → Heading → Scope
under_heading d sc loop = sc
under_heading d sc (modify from to) = under_update sc (modify_context sc from to)
under_heading d sc handler = sc
under_heading d sc (receive m) = sc
under_heading d sc (send m) =
    record { contexts = sc.contexts; target = sc.target; sends = sc.sends ++ (m ∷ []); labels = sc.labels }
under_heading d sc (store s) = under_update sc (stream_context d blr.store s)
under_heading d sc (label n) =
    record { contexts = sc.contexts; target = sc.target; sends = sc.sends; labels = sc.labels ++ (n ∷ []) }

-- ---- fields and parameters

unfoldable pub descriptor_format : Descriptor → Format
descriptor_format (Descriptor.number w scale) = record { type = Plain (Number w); scale = scale; size = width_bytes w }
descriptor_format Descriptor.date = record { type = Plain Date; scale = 0; size = 8 }
descriptor_format (Descriptor.text t n) = record { type = Plain (Chars t); scale = 0; size = n }

unfoldable pub parameter_format : Environment → ℕ → ℕ → Option Format
parameter_format e m i = message_of e m and_then λ x. Option.map descriptor_format (get_elem? x.descriptors i)

unfoldable pub field_format : Scope → ℕ → Name → Option Format
field_format sc c n = relation_of_context sc c and_then λ r. field_of r n and_then format_of r
