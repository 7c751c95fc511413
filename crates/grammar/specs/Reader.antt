-- Reading as a run of steps: a code, a field or a finished construct. The first step with a refusal decides.
use Rattle.std.specs.Prelude.{ℕ, ◌+◌, Bool, cond, List, eqb, leb, ltb, length, take, drop}
use Rattle.wire.specs.Words.{byte_at, word_at, long_at, int64_at}
use Rattle.wire.specs.Limits.{max_statements, max_contexts}
use Rattle.wire.specs.Classes.{Class}
use Rattle.grammar.specs.declared.Refusal.{Refusal}
use Rattle.grammar.specs.declared.Refusal.TheVariants.{EndsEarly, NotDue, LeftOut, TooGreat}
use Rattle.grammar.specs.declared.Cursor.{Cursor}

-- what a reading gives: a thing and the cursor after it, or a refusal and its place
pub data Read (A : Type 0) : Type 0 where
  read : A → Cursor → Read A
  refused : Refusal → ℕ → Read A

-- of the bytes of a request, from a cursor on
abbrev pub Reader : Type 0 → Type 0
Reader A = List ℕ → Cursor → Read A

abbrev pub on_read : {A B : Type 0} → Read A → (A → Cursor → Read B) → Read B
on_read (read a c) f = f a c
on_read (refused r p) f = refused r p

infixl 10 ◌>>=◌
infixl 10 ◌>>◌
abbrev pub ◌>>=◌ : {A B : Type 0} → Reader A → (A → Reader B) → Reader B
◌>>=◌ m f s c = on_read (m s c) (λ a q. f a s q)

abbrev pub ◌>>◌ : {A B : Type 0} → Reader A → Reader B → Reader B
◌>>◌ m f s c = on_read (m s c) (λ a q. f s q)

abbrev pub return : {A : Type 0} → A → Reader A
return a s c = read a c

abbrev pub refuse : {A : Type 0} → Refusal → ℕ → Reader A
refuse r p s c = refused r p

-- a test, and the refusal where it fails
abbrev pub need : Bool → Refusal → ℕ → Reader (Unit {0})
need test r p = cond test (return tt) (refuse r p)

-- the place of the next byte
abbrev pub place : Reader ℕ
place s c = read c.at c

-- the cursor n bytes on
abbrev pub on : Cursor → ℕ → Cursor
on c n = record { at = c.at + n; statements = c.statements; contexts = c.contexts; conditions = c.conditions }

-- a field of n bytes; 01: "A field cut short is 4 before it is judged."
unfoldable pub taken : {A : Type 0} → ℕ → (List ℕ → ℕ → A) → Reader A
taken n f s c = cond (leb (c.at + n) (length s)) (read (f s c.at) (on c n)) (refused EndsEarly (length s))

abbrev pub byte : Reader ℕ
byte = taken 1 byte_at

abbrev pub word : Reader ℕ
word = taken 2 word_at

abbrev pub long : Reader ℕ
long = taken 4 long_at

abbrev pub int64 : Reader ℕ
int64 = taken 8 int64_at

abbrev pub bytes : ℕ → Reader (List ℕ)
bytes n = taken n (λ s p. take n (drop p s))

-- the next byte, which stays
unfoldable pub peek : Reader ℕ
peek s c = cond (leb (c.at + 1) (length s)) (read (byte_at s c.at) c) (refused EndsEarly (length s))

-- a counted name
unfoldable pub name : Reader (List ℕ)
name = do
  n ← byte
  bytes n

-- a field that has a test of its own, whose refusal stands at the field
unfoldable pub tested : {A : Type 0} → Reader A → (A → Bool) → Refusal → Reader A
tested field test r = do
  p ← place
  x ← field
  need (test x) r p
  return x

-- this code and no other
unfoldable pub code : ℕ → Refusal → Reader ℕ
code k r = tested byte (eqb k) r

-- a code of a class; 01: "At one code 6 or 7 comes first"
abbrev pub due : {A : Type 0} → ℕ → Class A → Reader A
due p (Class.due x) = return x
due p Class.left_out = refuse LeftOut p
due p Class.foreign = refuse NotDue p

unfoldable pub coded : {A : Type 0} → (ℕ → Class A) → Reader A
coded class = do
  p ← place
  x ← byte
  due p (class x)

-- ---- what is counted, with 01's greatest sizes

-- the cursor with a statement, a context or n conditions more
abbrev pub with_statement : Cursor → Cursor
with_statement c = record { at = c.at; statements = c.statements + 1; contexts = c.contexts; conditions = c.conditions }

abbrev pub with_context : Cursor → Cursor
with_context c = record { at = c.at; statements = c.statements; contexts = c.contexts + 1; conditions = c.conditions }

abbrev pub with_conditions : Cursor → ℕ → Cursor
with_conditions c n = record { at = c.at; statements = c.statements; contexts = c.contexts; conditions = c.conditions + n }

-- 01: "512 statements": one more, whose code stands at p
unfoldable pub count_statement : ℕ → Reader (Unit {0})
count_statement p s c = cond (ltb c.statements max_statements) (read tt (with_statement c)) (refused TooGreat p)

-- 01: "32 context declarations": one more, whose code stands at p
unfoldable pub opened : ℕ → Reader (Unit {0})
opened p s c = cond (ltb c.contexts max_contexts) (read tt (with_context c)) (refused TooGreat p)

-- n conditions more
unfoldable pub noted : ℕ → Reader (Unit {0})
noted n s c = read tt (with_conditions c n)
