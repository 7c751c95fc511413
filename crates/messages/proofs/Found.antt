-- What a search among the declared messages finds, and the kinds of their parameters. Assumes nothing.
use Prim.Native.Nat.{ℕ, ◌+◌, ◌≤◌, ◌<◌, min}
use mathlib.Core.Path.{◌≡◌, refl, sym, ap, ◌∙◌}
use mathlib.Core.Bool.{Bool, true, false, cond}
use mathlib.Core.List.{List, [], ◌∷◌}
use mathlib.Core.Option.{Option, none, some, map}
use native.Mathlib.Omega.{arith}
use borrow.Author.Tests.{eqb-true, lt-ltb}
use lib.Dec.{eqb}
use lib.ListN.{length, take, drop, get_or, get_elem?, length-take}
use lib.Seq.{get_or-take}
use Rattle.std.specs.Prelude.{Some, None}
use Rattle.std.specs.Prelude as std
use Rattle.wire.specs.Limits.{max_messages}
use Rattle.wire.specs.Options.{option_of}
use Rattle.wire.specs.Lists.{any_of, find, index_of, is_some}
use Rattle.grammar.specs.Kinds.{format_kind}
use Rattle.grammar.specs.Environment as Grammar
use Rattle.grammar.specs.Environment.{Environment, descriptor_format, parameter_format}
use Rattle.grammar.specs.Scope.{declared}
use Rattle.scopes.specs.Scopes.{each_from}
use Rattle.scopes.proofs.Runs.{each-length, each_at}
use Rattle.scopes.proofs.Rests.{any-index, some-index, each-part, index-alike}
use Rattle.scopes.proofs.Scopes.{find-map, find-index, index-within as index_below}
use Rattle.messages.specs.Internal.Columns.{numbers_from}
use Rattle.messages.specs.Entries.{no_message, messages_held, message_in, message_at, declared_in, found_of}
use Rattle.messages.specs.Entries.{descriptors_at, message_of, messages_in, parameter_kind}

-- ---- a search in a list

found_at : (o : Option ℕ) {i : ℕ} → option_of o ≡ Some i → o ≡ some i
found_at none e = let z : ◌≡◌ {A = ℕ} 0 1 = cc in absurd (omega arith)
found_at (some k) e = cc

found_none : (o : Option ℕ) → option_of o ≡ None → o ≡ none
found_none none e = refl
found_none (some k) e = let z : ◌≡◌ {A = ℕ} 0 1 = cc in absurd (omega arith)

find-passes : {A : Type 0} (test : A → Bool) (l : List A) {x : A} → find test l ≡ some x → test x ≡ true
unfolding find
find-passes test [] e = let z : ◌≡◌ {A = ℕ} 0 1 = cc in absurd (omega arith)
find-passes test (y ∷ l) {x} e = by (test y) refl (λ f. find-passes test l f) e
  where
    by : (t : Bool) → test y ≡ t → (find test l ≡ some x → test x ≡ true) → cond t (some y) (find test l) ≡ some x → test x ≡ true
    by true h k e = let z : y ≡ x = cc in rw z at h
    by false h k e = k e

map-map : {A B C : Type 0} (f : A → B) (g : B → C) (o : Option A) → map g (map f o) ≡ map (λ a. g (f a)) o
map-map f g none = refl
map-map f g (some a) = refl

some-map : {A B : Type 0} (f : A → B) (o : Option A) → is_some (map f o) ≡ is_some o
some-map f none = refl
some-map f (some a) = refl

-- an element of the first n of f of each number below k
each-held : {A : Type 0} (f : ℕ → A) (n k i : ℕ) (d : A) → i < length (take n (each_from f 0 k)) →
    (i < k) × (get_or (take n (each_from f 0 k)) i d ≡ f i)
each-held f n k i d h =
    let m : length (take n (each_from f 0 k)) ≡ min n (length (each_from f 0 k)) = length-take n (each_from f 0 k) in
    let j : i < k = omega (arith, each-length f 0 k) in
    let l : i < n = omega (arith, each-length f 0 k) in
    let z : 0 + i ≡ i = omega arith in
    (j, get_or-take n (each_from f 0 k) i d l ∙ each_at f 0 k i d j ∙ ap f z)

-- ---- among the declared messages

module _ (a : List ℕ) (m : ℕ) where
  -- the index of the message of a number
  abbrev index : Option ℕ
  index = index_of (λ x. eqb x.number m) (declared_in a)

  -- by the column of the numbers
  pub message-index : numbers_from + max_messages ≤ length a
      → index_of (λ x. eqb x m) (take (messages_held a) (take max_messages (drop numbers_from a))) ≡ found_of (declared_in a) m
  message-index h =
      rw (sym (each-part a numbers_from max_messages h))
      (index-alike (λ i. get_or a i 0) (message_in a) (λ x. eqb x m) (λ x. eqb x.number m) numbers_from 0 same max_messages (messages_held a))
    where
      same : (k i j : ℕ) → i ≡ numbers_from + k → j ≡ 0 + k → eqb (get_or a i 0) m ≡ eqb (get_or a (numbers_from + j) 0) m
      same k i j e l = let z : i ≡ numbers_from + j = omega arith in rw z

  find-message :
      find (λ x. eqb x.number m) (messages_in a) ≡ map (message_of a) (map (λ i. get_or (declared_in a) i no_message) index)
  unfolding messages_in
  find-message =
      find-map (message_of a) (λ x. eqb x.number m) (declared_in a) ∙
      ap (map (message_of a)) (find-index (λ x. eqb x.number m) no_message (declared_in a))

  any-message : any_of (λ x. eqb x.number m) (messages_in a) ≡ is_some (find (λ x. eqb x.number m) (messages_in a))
  any-message =
      any-index (λ x. eqb x.number m) (messages_in a) ∙
      sym (ap is_some (find-index (λ x. eqb x.number m) (message_of a no_message) (messages_in a)) ∙
      some-map (λ i. get_or (messages_in a) i (message_of a no_message)) (index_of (λ x. eqb x.number m) (messages_in a)))

  module _ {i : ℕ} (x : option_of (found_of (declared_in a) m) ≡ Some i) where
    held : (i < max_messages) × (get_or (declared_in a) i no_message ≡ message_in a i)
    held =
        each-held (message_in a) (messages_held a) max_messages i no_message
        (index_below (λ x. eqb x.number m) (declared_in a) i (found_at index x))

    pub found_within : i < max_messages
    found_within = held.0

    pub find-found : find (λ x. eqb x.number m) (messages_in a) ≡ some (message_of a (message_in a i))
    find-found = find-message ∙ rw (found_at index x, held.1)

    pub found_number : (message_in a i).number ≡ m
    found_number = eqb-true _ _ (find-passes (λ x. eqb x.number m) (messages_in a) find-found)

    pub found-any : any_of (λ x. eqb x.number m) (messages_in a) ≡ true
    found-any = any-message ∙ ap is_some find-found

  module _ (x : option_of (found_of (declared_in a) m) ≡ None) where
    pub find-nothing : find (λ x. eqb x.number m) (messages_in a) ≡ none
    find-nothing = find-message ∙ rw (found_none index x)

    pub nothing-any : any_of (λ x. eqb x.number m) (messages_in a) ≡ false
    nothing-any = any-message ∙ ap is_some find-nothing

  -- whether the number has a message
  pub found-some : std.is_some (option_of (found_of (declared_in a) m)) ≡ any_of (λ x. eqb x.number m) (messages_in a)
  found-some =
      some-index index ∙ sym (any-message ∙ ap is_some find-message ∙ some-map (message_of a) (map (λ i. get_or (declared_in a) i no_message) index) ∙
      some-map (λ i. get_or (declared_in a) i no_message) index)

-- an index stands for one number
pub different-messages : (a : List ℕ) {m n i : ℕ} → option_of (found_of (declared_in a) m) ≡ Some i → option_of (found_of (declared_in a) n) ≡ Some i → m ≡ n
different-messages a {m} {n} x y = sym (found_number a m x) ∙ found_number a n y

pub nothing-declared : (a : List ℕ) → messages_held a ≡ 0 → messages_in a ≡ []
unfolding messages_in
nothing-declared a e = rw e

-- ---- in an environment

module _ (e : Environment) (a : List ℕ) (held : e.messages ≡ messages_in a) (m : ℕ) where
  module _ (i : ℕ) (x : option_of (found_of (declared_in a) m) ≡ Some i) where
    pub index-within : i < max_messages
    index-within = found_within a m x

    pub message-is : Grammar.message_of e m ≡ some (message_of a (message_in a i))
    unfolding Grammar.message_of
    message-is = ap (find (λ y. eqb y.number m)) held ∙ find-found a m x

    pub is_declared : declared e m ≡ true
    unfolding declared
    is_declared = rw message-is

    pub parameter-format : (j : ℕ) → map format_kind (parameter_format e m j) ≡ parameter_kind a (message_at a i) j
    unfolding parameter_format parameter_kind
    parameter-format j =
        rw (message-is, lt-ltb i max_messages index-within)
        (map-map descriptor_format format_kind (get_elem? (descriptors_at a (message_in a i).first (message_in a i).parameters) j))

    pub parameter-known : (j : ℕ) → is_some (parameter_format e m j) ≡ is_some (parameter_kind a (message_at a i) j)
    parameter-known j = sym (some-map format_kind (parameter_format e m j)) ∙ ap is_some (parameter-format j)

  module _ (x : option_of (found_of (declared_in a) m) ≡ None) where
    pub no-message-is : Grammar.message_of e m ≡ none
    unfolding Grammar.message_of
    no-message-is = ap (find (λ y. eqb y.number m)) held ∙ find-nothing a m x

    pub not-declared : declared e m ≡ false
    unfolding declared
    not-declared = rw no-message-is
