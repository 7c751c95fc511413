-- What a rule of scope or kind asks, reading tests too: a thing that is known is in scope or declared.
use mathlib.Core.Path.{◌≡◌, refl}
use mathlib.Core.Bool.{Bool, true, false, ◌&&◌}
use mathlib.Core.Option.{Option, none, some}
use Prim.Native.Nat.{ℕ, ◌<◌, ◌≤◌}
use native.Mathlib.Omega.{arith}
use lib.Dec.{leb}
use borrow.Author.Tests.{leb-true}
use Rattle.wire.specs.Lists.{is_some, ◌and_then◌}
use Rattle.dictionary.specs.Format.{size_in_range}
use Rattle.dictionary.specs.Naming.{Name}
use Rattle.grammar.specs.declared.Kind.{Kind}
use Rattle.grammar.specs.Environment.{Environment, Context, Scope, context_of, relation_in, message_of, relation_of_context, parameter_format, field_format}
use Rattle.grammar.specs.Scope.{in_scope, declared, opened_by_for, of_for}
use Rattle.grammar.specs.Kinds.{one_kind}

-- what follows something is there only where that is
then_some : {A B : Type 0} (o : Option A) (f : A → Option B) → is_some (o and_then f) ≡ true → is_some o ≡ true
then_some none f h = h
then_some (some x) f h = refl

pub field-scoped : (sc : Scope) (c : ℕ) (n : Name) → is_some (field_format sc c n) ≡ true → in_scope sc c ≡ true
unfolding field_format relation_of_context in_scope
field-scoped sc c n h = then_some (context_of sc c) relation_in (then_some (relation_of_context sc c) _ h)

pub parameter-declared : (e : Environment) (m i : ℕ) → is_some (parameter_format e m i) ≡ true → declared e m ≡ true
unfolding parameter_format declared
parameter-declared e m i h = then_some (message_of e m) _ h

opened_some : (o : Option Context) → opened_by_for o ≡ true → is_some o ≡ true
opened_some none h = h
opened_some (some x) h = refl

pub for-scoped : (sc : Scope) (c : ℕ) → of_for sc c ≡ true → in_scope sc c ≡ true
unfolding of_for in_scope
for-scoped sc c h = opened_some (context_of sc c) h

-- the second of two of one kind has a kind
pub second-some : (a b : Option Kind) → one_kind a b ≡ true → is_some b ≡ true
unfolding one_kind
second-some (some a) (some b) h = refl
second-some (some a) none h = h
second-some none (some b) h = refl
second-some none none h = h

and_left : (a b : Bool) → a && b ≡ true → a ≡ true
and_left true b h = refl
and_left false b h = h

pub text-long : (n : ℕ) → size_in_range n ≡ true → 0 < n
unfolding size_in_range
text-long n h = leb-true 1 n (and_left (leb 1 n) _ h)

-- the clauses of a kind that may still come, by whether one has stood before
abbrev pub free : Bool → ℕ
free true = 0
free false = 1

-- where one may still come, none has stood before
pub none_before : (b : Bool) → 1 ≤ free b → b ≡ false
none_before true h = absurd (omega arith)
none_before false h = refl
