-- A field's bytes are found by its reader: what it gives, what of the request stands after it, and what it has counted.
use Prim.Native.Nat.{ℕ, ◌+◌, ◌*◌, ◌<◌, ◌≤◌, ◌/◌, ◌%◌}
use mathlib.Core.Path.{◌≡◌, refl, sym, ap, ◌∙◌}
use mathlib.Core.Bool.{Bool, true, false}
use mathlib.Core.List.{List, [], ◌∷◌, ◌++◌}
use native.Mathlib.Omega.{arith}
use lib.Dec.{eqb}
use lib.ListN.{length, take, drop, get_or, length-append, length-drop}
use lib.Seq.{drop-drop, get_or-drop, take_at, drop_at}
use borrow.Author.Tests.{lt-ltb, le-leb, eq-eqb, ne_eqb}
use Rattle.wire.specs.Words.{byte_at, word_at, long_at, int64_at, word_bytes, long_bytes, int64_bytes}
use Rattle.wire.specs.Classes as Classes
use Rattle.wire.specs.Classes.{Class}
use Rattle.grammar.specs.declared.Refusal.{Refusal}
use Rattle.grammar.specs.declared.Cursor.{Cursor}
use Rattle.grammar.specs.Bytes as Bytes
use Rattle.grammar.specs.Reader.{read, Reader, on, taken, byte, word, long, int64, bytes, peek, name, tested, code, coded, with_statement, with_context, count_statement, opened}

-- the reader gives a at the cursor c of the request s, `rest` stands after it, and n statements and k contexts are counted
pub record Found {A : Type 0} (m : Reader A) (s : List ℕ) (c : Cursor) (a : A) (n k : ℕ) (rest : List ℕ) : Type 0 where
  pub after : Cursor
  pub is : m s c ≡ read a after
  pub stands : drop after.at s ≡ rest
  pub statements : after.statements ≡ c.statements + n
  pub contexts : after.contexts ≡ c.contexts + k

-- a reading that ends where its last part ends, with the counts of all parts
pub along : {A B : Type 0} {m : Reader A} {l : Reader B} {s : List ℕ} {c q : Cursor} {a : A} {b : B} {n k i j : ℕ} {rest : List ℕ} →
    (f : Found l s q b i j rest) → m s c ≡ read a f.after → q.statements + i ≡ c.statements + n → q.contexts + j ≡ c.contexts + k →
    Found m s c a n k rest
along f e u v = record { after = f.after; is = e; stands = f.stands; statements = f.statements ∙ u; contexts = f.contexts ∙ v }

-- what follows from what is found
pub on-found : {A G : Type 0} {m : Reader A} {s : List ℕ} {c : Cursor} {a : A} {n k : ℕ} {rest : List ℕ} → Found m s c a n k rest →
    ((q : Cursor) → m s c ≡ read a q → drop q.at s ≡ rest → q.statements ≡ c.statements + n → q.contexts ≡ c.contexts + k → G) → G
on-found f g = g f.after f.is f.stands f.statements f.contexts

-- ---- what stands at a place

-- bytes that stand at a place, one or more, are inside the request
pub inside : (s : List ℕ) (p : ℕ) (xs rest : List ℕ) → drop p s ≡ xs ++ rest → 0 < length xs → p + length xs ≤ length s
inside s p xs rest h w = omega (arith, length-drop p s, ap length h, length-append xs rest)

-- the byte so many places on
pub byte-on : (s : List ℕ) (p i : ℕ) (l : List ℕ) → drop p s ≡ l → byte_at s (p + i) ≡ get_or l i 0
byte-on s p i l h = sym (get_or-drop p s i 0) ∙ ap (λ z. get_or z i 0) h

pub word_on : (s : List ℕ) (p i : ℕ) (l : List ℕ) → drop p s ≡ l → word_at s (p + i) ≡ get_or l i 0 + 256 * get_or l (i + 1) 0
word_on s p i l h =
    let e : p + i + 1 ≡ p + (i + 1) = omega arith in
    rw (byte-on s p i l h, e, byte-on s p (i + 1) l h)

-- the number whose bytes stand at a place
pub long-at : (s : List ℕ) (p n : ℕ) (t : List ℕ) → drop p s ≡ long_bytes n ++ t → long_at s p ≡ n
long-at s p n t h =
    let e : p + 0 ≡ p = omega arith in
    let low = rw e at (word_on s p 0 (long_bytes n ++ t) h) in
    let high = word_on s p 2 (long_bytes n ++ t) h in omega (arith, low, high)

pub int64-at : (s : List ℕ) (p n : ℕ) (t : List ℕ) → drop p s ≡ int64_bytes n ++ t → int64_at s p ≡ n
int64-at s p n t h =
    let low = long-at s p (n % 4294967296) (long_bytes (n / 4294967296) ++ t) h in
    let i : drop (p + 4) s ≡ long_bytes (n / 4294967296) ++ t = sym (drop-drop 4 p s) ∙ ap (drop 4) h in
    let high = long-at s (p + 4) (n / 4294967296) t i in omega (arith, low, high)

-- ---- fields

module _ (s : List ℕ) (c : Cursor) {rest : List ℕ} where
  pub taken-found : {A : Type 0} (n : ℕ) (f : List ℕ → ℕ → A) (a : A) (xs : List ℕ) → length xs ≡ n → c.at + n ≤ length s →
      drop c.at s ≡ xs ++ rest → f s c.at ≡ a → Found (taken n f) s c a 0 0 rest
  unfolding taken
  taken-found n f a xs e r h v =
      record {
        after = on c n;
        is = rw (taken, le-leb (c.at + n) (length s) r, v);
        stands = sym (drop-drop n c.at s) ∙ ap (drop n) h ∙ drop_at xs rest n e;
        statements = omega arith;
        contexts = omega arith;
      }

  pub byte-found : (x : ℕ) → drop c.at s ≡ x ∷ rest → Found byte s c x 0 0 rest
  byte-found x h =
      let e : c.at + 0 ≡ c.at = omega arith in
      taken-found 1 byte_at x (x ∷ []) refl (inside s c.at (x ∷ []) rest h (omega arith)) h (rw e at (byte-on s c.at 0 (x ∷ rest) h))

  pub word-found : (n : ℕ) → drop c.at s ≡ word_bytes n ++ rest → Found word s c n 0 0 rest
  word-found n h =
      let e : c.at + 0 ≡ c.at = omega arith in
      let w = rw e at (word_on s c.at 0 (word_bytes n ++ rest) h) in
      taken-found 2 word_at n (word_bytes n) refl (inside s c.at (word_bytes n) rest h (omega arith)) h (omega (arith, w))

  pub long-found : (n : ℕ) → drop c.at s ≡ long_bytes n ++ rest → Found long s c n 0 0 rest
  long-found n h =
      taken-found 4 long_at n (long_bytes n) refl (inside s c.at (long_bytes n) rest h (omega arith)) h (long-at s c.at n rest h)

  pub int64-found : (n : ℕ) → drop c.at s ≡ int64_bytes n ++ rest → Found int64 s c n 0 0 rest
  int64-found n h =
      taken-found 8 int64_at n (int64_bytes n) refl (inside s c.at (int64_bytes n) rest h (omega arith)) h (int64-at s c.at n rest h)

  -- there may be none, so that they need not be inside by standing there
  pub bytes-found : (xs : List ℕ) → c.at + length xs ≤ length s → drop c.at s ≡ xs ++ rest → Found (bytes (length xs)) s c xs 0 0 rest
  bytes-found xs r h = taken-found (length xs) _ xs xs refl r h (ap (take (length xs)) h ∙ take_at xs rest (length xs) refl)

  pub peek-found : (x : ℕ) → drop c.at s ≡ x ∷ rest → peek s c ≡ read x c
  unfolding peek
  peek-found x h =
      let e : c.at + 0 ≡ c.at = omega arith in
      rw (peek, le-leb (c.at + 1) (length s) (inside s c.at (x ∷ []) rest h (omega arith)), rw e at (byte-on s c.at 0 (x ∷ rest) h))

  pub tested-found : {A : Type 0} {field : Reader A} {a : A} {n k : ℕ} (test : A → Bool) (r : Refusal) → Found field s c a n k rest →
      test a ≡ true → Found (tested field test r) s c a n k rest
  unfolding tested
  tested-found test r f t = along f (rw (tested, f.is, t)) refl refl

  pub code-found : (x : ℕ) (r : Refusal) → drop c.at s ≡ x ∷ rest → Found (code x r) s c x 0 0 rest
  unfolding code
  code-found x r h = tested-found (eqb x) r (byte-found x h) (eq-eqb x x refl)

  pub coded-found : {A : Type 0} (class : ℕ → Class A) (x : ℕ) (y : A) → class x ≡ Classes.due y → drop c.at s ≡ x ∷ rest →
      Found (coded class) s c y 0 0 rest
  unfolding coded
  coded-found class x y e h =
      let f = byte-found x h in
      along f (rw (coded, f.is, e)) refl refl

-- a code that ends the request
pub last_code : (s : List ℕ) (c : Cursor) (x : ℕ) (r : Refusal) → drop c.at s ≡ x ∷ [] →
    (q : Cursor) × (code x r s c ≡ read x q) × (q.at ≡ length s)
unfolding along taken-found byte-found tested-found code-found
last_code s c x r h =
    let a = code-found s c x r h in
    (a.after, a.is, omega (arith, length-drop c.at s, ap length h))

-- ---- what is counted

module _ (s : List ℕ) (c : Cursor) {rest : List ℕ} (h : drop c.at s ≡ rest) where
  pub counted-found : (p : ℕ) → c.statements < 512 → Found (count_statement p) s c tt 1 0 rest
  unfolding count_statement
  counted-found p l =
      let e = lt-ltb c.statements 512 l in
      record { after = with_statement c; is = rw (count_statement, e); stands = h; statements = refl; contexts = omega arith }

  pub opened-found : (p : ℕ) → c.contexts < 32 → Found (opened p) s c tt 0 1 rest
  unfolding opened
  opened-found p l =
      let e = lt-ltb c.contexts 32 l in
      record { after = with_context c; is = rw (opened, e); stands = h; statements = omega arith; contexts = refl }

-- a counted name
pub name-found : (s : List ℕ) (c : Cursor) {rest : List ℕ} (xs : List ℕ) → drop c.at s ≡ Bytes.counted_bytes xs ++ rest →
    Found name s c xs 0 0 rest
unfolding name byte-found taken-found
name-found s c {rest} xs h =
    let a = byte-found s c (length xs) h in
    let r = inside s c.at (Bytes.counted_bytes xs) rest h (omega arith) in
    let b = bytes-found s a.after xs (omega arith) a.stands in
    along b (rw (name, a.is, b.is)) (omega arith) (omega arith)

-- ---- the byte that ends a sequence

-- another byte than x stands first
abbrev pub Other : ℕ → List ℕ → Type 0
Other x l = (y : ℕ) × (more : List ℕ) × (l ≡ y ∷ more) × (y ≡ x → ⊥)

pub other-first : {x : ℕ} {l : List ℕ} (rest : List ℕ) → Other x l → Other x (l ++ rest)
other-first rest o = (o.0, o.1 ++ rest, ap (λ z. z ++ rest) o.2, o.3)

pub peek-other : (s : List ℕ) (c : Cursor) (x : ℕ) {rest : List ℕ} → drop c.at s ≡ rest → Other x rest →
    (y : ℕ) × (peek s c ≡ read y c) × (eqb y x ≡ false)
peek-other s c x h o = (o.0, peek-found s c o.0 (h ∙ o.2), ne_eqb o.0 x o.3)
