-- A scope as the code has it, an array of numbers, and what it stands for.
use Rattle.std.specs.Prelude.{ℕ, zero, suc, ◌+◌, Bool, false, cond, not, ◌&&◌, List, [], ◌∷◌, map, eqb, ltb, take, set, get_or}
use Rattle.std.proofs.Math.Option.{Option, none, some}
use Rattle.wire.specs.Codes as blr
use Rattle.wire.specs.Limits.{max_depth, max_contexts}
use Rattle.wire.specs.Lists.{index_of}
use Rattle.dictionary.specs.Internal.Walk.{relation_at}
use Rattle.grammar.specs.Environment as Grammar
use Rattle.scopes.specs.declared.scope.Context.{Context}
use Rattle.scopes.specs.Internal.Columns.{context_count, send_count, label_count, updating_at, target_at}
use Rattle.scopes.specs.Internal.Columns.{numbers_from, openers_from, sends_from, labels_from, relations_from}

-- ---- lists of numbers

-- f of each of so many numbers from i on
unfoldable pub each_from : {A : Type 0} → (ℕ → A) → ℕ → ℕ → List A
each_from f i zero = []
each_from f i (suc n) = f i ∷ each_from f (i + 1) n

-- as many of the 32 from a place on as a column counts, and one more; 32 stay as they are
abbrev pub numbers_at : List ℕ → ℕ → ℕ → List ℕ
numbers_at a counted start = take (get_or a counted 0) (each_from (λ i. get_or a i 0) start max_depth)

abbrev pub with_number : List ℕ → ℕ → ℕ → ℕ → List ℕ
with_number a counted start n =
    cond (ltb (get_or a counted 0) max_depth) (set (set a (start + get_or a counted 0) n) counted (get_or a counted 0 + 1)) a

-- how many messages are being sent, their numbers, and one more
abbrev pub sends_held : List ℕ → ℕ
sends_held a = get_or a send_count 0

abbrev pub send_numbers : List ℕ → List ℕ
send_numbers a = numbers_at a send_count sends_from

abbrev pub with_send : List ℕ → ℕ → List ℕ
with_send a m = with_number a send_count sends_from m

-- how many labels are around, their numbers, and one more
abbrev pub labels_held : List ℕ → ℕ
labels_held a = get_or a label_count 0

abbrev pub label_numbers : List ℕ → List ℕ
label_numbers a = numbers_at a label_count labels_from

abbrev pub with_label : List ℕ → ℕ → List ℕ
with_label a n = with_number a label_count labels_from n

-- ---- contexts

-- the context of an index
abbrev pub context_in : List ℕ → ℕ → Context
context_in a i =
    record {
      relation = get_or a (relations_from + i) 0;
      number = record { 0 = get_or a (numbers_from + i) 0 };
      opener = get_or a (openers_from + i) 0;
    }

-- how many contexts there are, and the contexts in the order of their declarations
abbrev pub contexts_held : List ℕ → ℕ
contexts_held a = get_or a context_count 0

abbrev pub contexts_in : List ℕ → List Context
contexts_in a = take (contexts_held a) (each_from (context_in a) 0 max_contexts)

-- the index of the context of a number
abbrev pub found_of : List Context → ℕ → Option ℕ
found_of xs n = index_of (λ x. eqb x.number.0 n) xs

-- of the context of an index: the place of its relation's entry, and whether a for opened it; past the last index nothing
abbrev pub relation_place : List ℕ → ℕ → ℕ
relation_place a i = cond (ltb i max_contexts) (context_in a i).relation 0

abbrev pub is_of_for : List ℕ → ℕ → Bool
is_of_for a i = cond (ltb i max_contexts) (eqb (context_in a i).opener blr.for) false

-- one context more; a full scope stays as it is
abbrev pub with_context : List ℕ → Context → List ℕ
with_context a x =
    cond (ltb (contexts_held a) max_contexts)
    (set (set (set (set a (numbers_from + contexts_held a) x.number.0) (openers_from + contexts_held a) x.opener)
    (relations_from + contexts_held a) x.relation)
    context_count (contexts_held a + 1))
    a

-- ---- the nearest store or modify around

abbrev pub updating_in : List ℕ → Bool
updating_in a = not (eqb (get_or a updating_at 0) 0)

abbrev pub is_target : List ℕ → ℕ → Bool
is_target a n = updating_in a && eqb (get_or a target_at 0) n

abbrev pub with_target : List ℕ → ℕ → List ℕ
with_target a n = set (set a updating_at 1) target_at n

-- ---- what a scope stands for, beside the bytes of a dictionary

abbrev pub context_of : List ℕ → Context → Grammar.Context
context_of d x = record { number = x.number.0; relation = some (relation_at d x.relation); opener = x.opener }

unfoldable pub scope_of : List ℕ → List ℕ → Grammar.Scope
scope_of d a =
    record {
      contexts = map (context_of d) (contexts_in a);
      target = cond (updating_in a) (some (get_or a target_at 0)) none;
      sends = send_numbers a;
      labels = label_numbers a;
    }
