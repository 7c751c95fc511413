-- The scale of each parameter is a byte of the request.
use Prim.Native.Nat.{ℕ, suc, ◌+◌, ◌<◌}
use mathlib.Core.Path.{◌≡◌, subst}
use mathlib.Core.List.{List, [], ◌∷◌, ◌++◌}
use native.Mathlib.Omega.{arith}
use lib.ListN.{length}
use Rattle.wire.specs.Words.{word_bytes}
use Rattle.wire.specs.Codes as blr
use Rattle.grammar.specs.Tree.{Descriptor, Message, Request}
use Rattle.grammar.specs.Bytes.{descriptor_bytes, descriptors_bytes, message_bytes, messages_bytes, statements_bytes, request_bytes}
use Rattle.grammar.specs.Environment.{descriptor_format}
use Rattle.grammar.specs.Demands.{Octets}
use Rattle.surroundings.specs.Parameters.{ScaleByte, ScalesIn, ScaleBytes}
use Rattle.walking.proofs.Sites.{All}

-- every number of a list is a byte
abbrev Low : List ℕ → Type 0
Low l = All (λ x. x < 256) l

low : (l : List ℕ) → Octets l → Low l
low [] h = tt
low (x ∷ l) h = (h 0, low l (λ p. h (suc p)))

low-left : (a b : List ℕ) → Low (a ++ b) → Low a
low-left [] b h = tt
low-left (x ∷ a) b h = (h.0, low-left a b h.1)

low-right : (a b : List ℕ) → Low (a ++ b) → Low b
low-right [] b h = h
low-right (x ∷ a) b h = low-right a b h.1

descriptor-scale : (d : Descriptor) → Low (descriptor_bytes d) → ScaleByte d
unfolding descriptor_bytes descriptor_format
descriptor-scale (Descriptor.number w scale) h = h.1.0
descriptor-scale Descriptor.date h = omega arith
descriptor-scale (Descriptor.text t n) h = omega arith

descriptors-scale : (ds : List Descriptor) → Low (descriptors_bytes ds) → ScalesIn ds
unfolding descriptors_bytes
descriptors-scale [] h = tt
descriptors-scale (d ∷ ds) h = (
  descriptor-scale d (low-left (descriptor_bytes d) (descriptors_bytes ds) h),
  descriptors-scale ds (low-right (descriptor_bytes d) (descriptors_bytes ds) h),
)

messages-scale : (ms : List Message) → Low (messages_bytes ms) → ScaleBytes ms
unfolding messages_bytes message_bytes
messages-scale [] h = tt
messages-scale (m ∷ ms) h =
    let head = blr.message ∷ m.number ∷ word_bytes (length m.descriptors) in
    let first = low-right head (descriptors_bytes m.descriptors) (low-left (message_bytes m) (messages_bytes ms) h) in
    (descriptors-scale m.descriptors first, messages-scale ms (low-right (message_bytes m) (messages_bytes ms) h))

pub scales-are : (s : List ℕ) → Octets s → (t : Request) → s ≡ request_bytes t → ScaleBytes t.messages
unfolding request_bytes
scales-are s o t e =
    let h : Low (request_bytes t) = subst Low e (low s o) in
    let ms = messages_bytes t.messages in
    let ss = statements_bytes t.statements in
    messages-scale t.messages (low-left ms ss (low-left (ms ++ ss) (blr.end ∷ blr.eoc ∷ []) h.1.1))
