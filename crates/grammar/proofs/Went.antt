-- A reading that went well, taken apart: its steps, the tests on its way, and the bytes from its first cursor to its last.
use Prim.Native.Nat.{ℕ, suc, ◌+◌, ◌*◌, ◌<◌, ◌≤◌, ◌/◌, ◌%◌}
use mathlib.Core.Path.{◌≡◌, refl, sym, ap, ap₂, ◌∙◌, subst}
use mathlib.Core.Bool.{Bool, true, false, cond, ◌&&◌, false≢true}
use mathlib.Core.List.{List, [], ◌∷◌, ◌++◌, append_assoc, append-nil}
use native.Mathlib.Nat.{add-zero, zero-add, add-mul-mod_self_left, mod-eq_of_lt, add-mul-div_left, div-eq_of_lt}
use native.Mathlib.Numerals.{add-one}
use native.Mathlib.Omega.{arith}
use lib.ListN.{length, take, drop, length-append, length-drop, take-append-drop}
use lib.Seq.{drop-cons, drop-drop, drop-length, length-take-le}
use lib.Dec.{eqb, leb, ltb}
use borrow.Author.Tests.{ltb-true, leb-true, eqb-true}
use Rattle.wire.specs.Words.{byte_at, word_at, long_at, int64_at, word_bytes, long_bytes, int64_bytes}
use Rattle.wire.specs.Classes.{Class}
use Rattle.grammar.specs.declared.Refusal.{Refusal}
use Rattle.grammar.specs.declared.Cursor.{Cursor}
use Rattle.grammar.specs.Reader.{Read, read, refused, on_read, Reader, need, on, taken, byte, word, long, int64, bytes, peek, name, tested, code, due, coded, with_statement, with_context, count_statement, opened, noted}
use Rattle.grammar.specs.Demands.{Octets}

-- ---- readings taken apart

pub never : {A B : Type 0} {r : Refusal} {p : ℕ} {a : A} {c : Cursor} → ◌≡◌ {A = Read A} (refused r p) (read a c) → B
never e = let z : ◌≡◌ {A = ℕ} 0 1 = cc in absurd (omega arith)

-- a reading in two steps that went well: each did
pub undo : {A B : Type 0} (y : Read A) (k : A → Cursor → Read B) {b : B} {c : Cursor} {G : Type 0} → on_read y k ≡ read b c →
    ((a : A) (q : Cursor) → y ≡ read a q → k a q ≡ read b c → G) → G
undo (read a q) k e g = g a q refl e
undo (refused r p) k e g = never e

-- what was returned is what was read
pub same : {A : Type 0} {a b : A} {q c : Cursor} → ◌≡◌ {A = Read A} (read a q) (read b c) → (P : A → Cursor → Type 0) → P a q → P b c
same {a} {b} {q} {c} e P h =
    let u : a ≡ b = cc in
    let v : q ≡ c = cc in
    subst (λ z. P z c) u (subst (λ z. P a z) v h)

-- a test on the way held
pub needed : {B : Type 0} (t : Bool) (r : Refusal) (p : ℕ) (s : List ℕ) (c : Cursor) (k : Unit {0} → Cursor → Read B) {b : B} {c' : Cursor}
    {G : Type 0} → on_read (need t r p s c) k ≡ read b c' → (t ≡ true → k tt c ≡ read b c' → G) → G
needed true r p s c k e g = g refl e
needed false r p s c k e g = never e

-- of two readers by a test, one went well
pub either : {A : Type 0} (t : Bool) (x y : Reader A) (s : List ℕ) (c : Cursor) {a : A} {c' : Cursor} {G : Type 0} →
    cond t x y s c ≡ read a c' → (t ≡ true → x s c ≡ read a c' → G) → (t ≡ false → y s c ≡ read a c' → G) → G
either true x y s c e f g = f refl e
either false x y s c e f g = g refl e

-- of a reading and a refusal by a test, the reading went well
pub passed : {A : Type 0} (t : Bool) (x : Read A) (r : Refusal) (p : ℕ) {a : A} {c : Cursor} → cond t x (refused r p) ≡ read a c →
    (t ≡ true) × (x ≡ read a c)
passed true x r p e = (refl, e)
passed false x r p e = never e

-- both parts of a test
pub both : (a b : Bool) → a && b ≡ true → (a ≡ true) × (b ≡ true)
both true b e = (refl, e)
both false b e = absurd (false≢true e)

-- ---- fields

module _ {A : Type 0} (s : List ℕ) (c : Cursor) {c' : Cursor} where
  pub taken-read : (n : ℕ) (f : List ℕ → ℕ → A) {x : A} → taken n f s c ≡ read x c' →
      (c.at + n ≤ length s) × (x ≡ f s c.at) × (c' ≡ on c n)
  unfolding taken
  taken-read n f {x} e =
      let t = passed (leb (c.at + n) (length s)) (read (f s c.at) (on c n)) _ _ e in
      (leb-true _ _ t.0, same t.1 (λ a q. a ≡ f s c.at) refl, same t.1 (λ a q. q ≡ on c n) refl)

  -- a field with a test: the field, and its test
  pub tested-read : (field : Reader A) (test : A → Bool) (r : Refusal) {x : A} → tested field test r s c ≡ read x c' →
      (field s c ≡ read x c') × (test x ≡ true)
  unfolding tested
  tested-read field test r {x} e = undo (field s c) _ e (λ a q h w. needed (test a) _ _ _ _ _ w (λ t v.
      same v (λ a q. (field s c ≡ read a q) × (test a ≡ true)) (h, t)))

  -- a code of a class: the byte, and its class
  pub coded-read : (class : ℕ → Class A) {k : A} → coded class s c ≡ read k c' →
      (x : ℕ) × (byte s c ≡ read x c') × (class x ≡ Class.due k)
  unfolding coded
  coded-read class {k} e = undo (byte s c) _ e (λ x q h w. go x q h (class x) refl w)
    where
      go : (x : ℕ) (q : Cursor) → byte s c ≡ read x q → (d : Class A) → class x ≡ d → due c.at d s q ≡ read k c' →
          (x : ℕ) × (byte s c ≡ read x c') × (class x ≡ Class.due k)
      go x q h (Class.due a) t w = same w (λ k c'. (x : ℕ) × (byte s c ≡ read x c') × (class x ≡ Class.due k)) (x, h, t)
      go x q h Class.left_out t w = never w
      go x q h Class.foreign t w = never w

-- the next byte, which stays, is the byte that is read here
pub peek-read : (s : List ℕ) (c : Cursor) {c' : Cursor} {x : ℕ} → peek s c ≡ read x c' → (c' ≡ c) × (byte s c ≡ read x (on c 1))
unfolding peek taken
peek-read s c e =
    let t = passed (leb (c.at + 1) (length s)) (read (byte_at s c.at) c) _ _ e in
    (same t.1 (λ a q. q ≡ c) refl, rw t.0 (same t.1 (λ a q. read (byte_at s c.at) (on c 1) ≡ read a (on c 1)) refl))

-- ---- the way from one cursor to another

-- the bytes between, and the statements, contexts and conditions counted
pub record Went (s : List ℕ) (c : Cursor) (bs : List ℕ) (n k q : ℕ) (c' : Cursor) : Type 0 where
  pub place : c'.at ≡ c.at + length bs
  pub rest : drop c.at s ≡ bs ++ drop c'.at s
  pub counted : c'.statements ≡ c.statements + n
  pub declared : c'.contexts ≡ c.contexts + k
  pub noted : c'.conditions ≡ c.conditions + q

-- with nothing counted
abbrev pub Passed : List ℕ → Cursor → List ℕ → Cursor → Type 0
Passed s c bs c' = Went s c bs 0 0 0 c'

-- no byte, and nothing counted
pub stayed : (s : List ℕ) (c : Cursor) → Passed s c [] c
stayed s c = record {
  place = sym (add-zero _);
  rest = refl;
  counted = sym (add-zero _);
  declared = sym (add-zero _);
  noted = sym (add-zero _);
}

module _ {s : List ℕ} {c c₁ : Cursor} {bs : List ℕ} {n k q : ℕ} where
  pub onward : {c₂ : Cursor} {bs₁ : List ℕ} {n₁ k₁ q₁ : ℕ} → Went s c bs n k q c₁ → Went s c₁ bs₁ n₁ k₁ q₁ c₂ →
      Went s c (bs ++ bs₁) (n + n₁) (k + k₁) (q + q₁) c₂
  onward {c₂} {bs₁} u v = record {
    place = simp length-append (omega (arith, u.place, v.place));
    rest = u.rest ∙ ap (λ l. bs ++ l) v.rest ∙ sym (append_assoc bs bs₁ (drop c₂.at s));
    counted = omega (arith, u.counted, v.counted);
    declared = omega (arith, u.declared, v.declared);
    noted = omega (arith, u.noted, v.noted);
  }

  -- the same way with its counts and its bytes written otherwise
  pub went-as : {n' k' q' : ℕ} → Went s c bs n k q c₁ → n ≡ n' → k ≡ k' → q ≡ q' → Went s c bs n' k' q' c₁
  went-as w e f g = rw (e, f, g) at w

  pub went-by : {bs' : List ℕ} → Went s c bs n k q c₁ → bs ≡ bs' → Went s c bs' n k q c₁
  went-by w e = rw e at w

  pub inside : Went s c bs n k q c₁ → c.at ≤ length s → c₁.at ≤ length s
  inside w h = let e = simp (length-append, length-drop) at (ap length w.rest) in omega (arith, w.place, e)

-- from the first byte to the last
pub all_of : {s : List ℕ} {c c' : Cursor} {bs : List ℕ} {n k q : ℕ} → Went s c bs n k q c' → c.at ≡ 0 → c'.at ≡ length s → s ≡ bs
all_of {s} {bs} w first end = rw (first, end, drop-length s, append-nil bs) at w.rest

-- the greatest counts kept
pub record Within (c c' : Cursor) : Type 0 where
  pub statements : c.statements ≤ 512 → c'.statements ≤ 512
  pub contexts : c.contexts ≤ 32 → c'.contexts ≤ 32

pub within-onward : {c c₁ c₂ : Cursor} → Within c c₁ → Within c₁ c₂ → Within c c₂
within-onward u v = record { statements = λ h. v.statements (u.statements h); contexts = λ h. v.contexts (u.contexts h) }

pub within-one : {s : List ℕ} {c c' : Cursor} {bs : List ℕ} {k q : ℕ} → Went s c bs 0 k q c' →
    (c.contexts ≤ 32 → c'.contexts ≤ 32) → Within c c'
within-one w f = record { statements = λ h. omega (arith, w.counted); contexts = f }

pub within_none : {s : List ℕ} {c c' : Cursor} {bs : List ℕ} {q : ℕ} → Went s c bs 0 0 q c' → Within c c'
within_none w = within-one w (λ h. omega (arith, w.declared))

-- a code, and what stands after it
pub coded-onward : {s : List ℕ} {c q c' : Cursor} {x : ℕ} {bs : List ℕ} {n k m : ℕ} → Passed s c (x ∷ []) q → bs ≡ x ∷ drop 1 bs →
    Went s q (drop 1 bs) n k m c' → Went s c bs n k m c'
coded-onward g e w = went-by (went-as (onward g w) (zero-add _) (zero-add _) (zero-add _)) (sym e)

-- ---- of n bytes

took : (s : List ℕ) (c : Cursor) (n : ℕ) → c.at + n ≤ length s → Passed s c (take n (drop c.at s)) (on c n)
took s c n h = record {
  place =
      let e : length (take n (drop c.at s)) ≡ n = length-take-le n (drop c.at s) (omega (arith, length-drop c.at s)) in
      omega arith;
  rest = rw drop-drop at (sym (take-append-drop n (drop c.at s)));
  counted = sym (add-zero _);
  declared = sym (add-zero _);
  noted = sym (add-zero _);
}

next-byte : (s : List ℕ) (p n : ℕ) → p < length s → take (suc n) (drop p s) ≡ byte_at s p ∷ take n (drop (p + 1) s)
next-byte s p n h = rw (add-one, drop-cons s p 0 h)

two_bytes : (s : List ℕ) (p n : ℕ) → p + 2 ≤ length s →
    take (suc (suc n)) (drop p s) ≡ byte_at s p ∷ byte_at s (p + 1) ∷ take n (drop (p + 2) s)
two_bytes s p n h =
    let e : p + 1 + 1 ≡ p + 2 = omega arith in
    next-byte s p (suc n) (omega arith) ∙ ap (λ l. byte_at s p ∷ l) (rw e at (next-byte s (p + 1) n (omega arith)))

four_bytes : (s : List ℕ) (p n : ℕ) → p + 4 ≤ length s → take (suc (suc (suc (suc n)))) (drop p s) ≡
    byte_at s p ∷ byte_at s (p + 1) ∷ byte_at s (p + 2) ∷ byte_at s (p + 2 + 1) ∷ take n (drop (p + 4) s)
four_bytes s p n h =
    let e : p + 2 + 2 ≡ p + 4 = omega arith in
    two_bytes s p (suc (suc n)) (omega arith)
    ∙ ap (λ l. byte_at s p ∷ byte_at s (p + 1) ∷ l) (rw e at (two_bytes s (p + 2) n (omega arith)))

-- a number of two parts gives them back
pub parted : (m a b : ℕ) → a < m → ((a + m * b) % m ≡ a) × ((a + m * b) / m ≡ b)
parted m a b h = (add-mul-mod_self_left a m b ∙ mod-eq_of_lt h, add-mul-div_left a b (omega arith) ∙ rw (div-eq_of_lt h) (zero-add b))

module _ (s : List ℕ) (octets : Octets s) where
  word-bytes : (p : ℕ) → word_bytes (word_at s p) ≡ byte_at s p ∷ byte_at s (p + 1) ∷ []
  word-bytes p = let w = parted 256 (byte_at s p) (byte_at s (p + 1)) (octets p) in rw (w.0, w.1)

  long-bytes : (p : ℕ) → long_bytes (long_at s p) ≡ byte_at s p ∷ byte_at s (p + 1) ∷ byte_at s (p + 2) ∷ byte_at s (p + 2 + 1) ∷ []
  long-bytes p =
      let h : word_at s p < 65536 = omega (arith, octets p, octets (p + 1)) in
      let w = parted 65536 (word_at s p) (word_at s (p + 2)) h in
      ap₂ (λ a b. word_bytes a ++ word_bytes b) w.0 w.1 ∙ ap₂ (λ a b. a ++ b) (word-bytes p) (word-bytes (p + 2))

  int64-bytes : (p : ℕ) → int64_bytes (int64_at s p) ≡ long_bytes (long_at s p) ++ long_bytes (long_at s (p + 4))
  int64-bytes p =
      let h : long_at s p < 4294967296 = omega (arith, octets p, octets (p + 1), octets (p + 2), octets (p + 2 + 1)) in
      let w = parted 4294967296 (long_at s p) (long_at s (p + 4)) h in
      ap₂ (λ a b. long_bytes a ++ long_bytes b) w.0 w.1

module _ (s : List ℕ) (c : Cursor) {c' : Cursor} where
  pub bytes-went : (n : ℕ) {x : List ℕ} → bytes n s c ≡ read x c' → Passed s c x c' × (length x ≡ n)
  bytes-went n {x} e =
      let t = taken-read s c n (λ s p. take n (drop p s)) e in
      rw (t.1, t.2) (took s c n t.0, length-take-le n (drop c.at s) (omega (arith, length-drop c.at s)))

  pub byte-went : {x : ℕ} → byte s c ≡ read x c' → Passed s c (x ∷ []) c'
  byte-went e =
      let t = taken-read s c 1 byte_at e in
      rw (t.1, t.2) (went-by (took s c 1 t.0) (next-byte s c.at 0 (omega arith)))

  pub word-went : Octets s → {x : ℕ} → word s c ≡ read x c' → Passed s c (word_bytes x) c'
  word-went octets e =
      let t = taken-read s c 2 word_at e in
      rw (t.1, t.2) (went-by (took s c 2 t.0) (two_bytes s c.at 0 t.0 ∙ sym (word-bytes s octets c.at)))

  pub long-went : Octets s → {x : ℕ} → long s c ≡ read x c' → Passed s c (long_bytes x) c'
  long-went octets e =
      let t = taken-read s c 4 long_at e in
      rw (t.1, t.2) (went-by (took s c 4 t.0) (four_bytes s c.at 0 t.0 ∙ sym (long-bytes s octets c.at)))

  pub int64-went : Octets s → {x : ℕ} → int64 s c ≡ read x c' → Passed s c (int64_bytes x) c'
  int64-went octets e =
      let t = taken-read s c 8 int64_at e in
      let p = c.at in
      let i : p + 4 + 4 ≤ length s = omega arith in
      let low = four_bytes s p 4 (omega arith) in
      let high = four_bytes s (p + 4) 0 i in
      let both = ap₂ (λ a b. a ++ b) (long-bytes s octets p) (long-bytes s octets (p + 4)) in
      rw (t.1, t.2) (went-by (took s c 8 t.0)
      (low ∙ ap (λ l. byte_at s p ∷ byte_at s (p + 1) ∷ byte_at s (p + 2) ∷ byte_at s (p + 2 + 1) ∷ l) high ∙ sym (int64-bytes s octets p ∙ both)))

-- a counted name
pub name-went : (s : List ℕ) (c : Cursor) {x : List ℕ} {c' : Cursor} → name s c ≡ read x c' → Passed s c (length x ∷ x) c'
unfolding name
name-went s c e = undo (byte s c) _ e (λ n q h w. let b = bytes-went s q n w in onward (rw (sym b.1) at (byte-went s c h)) b.0)

-- a code that was looked at, and then read
pub peeked-went : (s : List ℕ) (c : Cursor) (x k : ℕ) {q : Cursor} {y : ℕ} {c' : Cursor} → peek s c ≡ read x q → eqb x k ≡ true →
    byte s q ≡ read y c' → Passed s c (k ∷ []) c'
peeked-went s c x k {q} {y} {c'} e t h =
    let r = peek-read s c e in
    let i : byte s c ≡ read y c' = rw r.0 at h in
    let j : y ≡ k = cc (eqb-true x k t) in
    rw j at (byte-went s c i)

-- this code and no other
pub code-went : (k : ℕ) (r : Refusal) (s : List ℕ) (c : Cursor) {x : ℕ} {c' : Cursor} → code k r s c ≡ read x c' → Passed s c (k ∷ []) c'
unfolding code
code-went k r s c {x} e = let t = tested-read s c byte (eqb k) r e in rw (eqb-true k x t.1) (byte-went s c t.0)

-- ---- what is counted

module _ (p : ℕ) (s : List ℕ) (c : Cursor) {u : Unit {0}} {c' : Cursor} where
  pub counted-went : count_statement p s c ≡ read u c' → Went s c [] 1 0 0 c' × (c'.statements ≤ 512)
  unfolding count_statement
  counted-went e =
      let t = passed (ltb c.statements 512) (read tt (with_statement c)) _ _ e in
      same t.1 (λ u c'. Went s c [] 1 0 0 c' × (c'.statements ≤ 512)) (
        record {
          place = sym (add-zero _);
          rest = refl;
          counted = refl;
          declared = sym (add-zero _);
          noted = sym (add-zero _);
        },
        omega (arith, ltb-true c.statements 512 t.0),
      )

  pub opened-went : opened p s c ≡ read u c' → Went s c [] 0 1 0 c' × (c'.contexts ≤ 32)
  unfolding opened
  opened-went e =
      let t = passed (ltb c.contexts 32) (read tt (with_context c)) _ _ e in
      same t.1 (λ u c'. Went s c [] 0 1 0 c' × (c'.contexts ≤ 32)) (
        record {
          place = sym (add-zero _);
          rest = refl;
          counted = sym (add-zero _);
          declared = refl;
          noted = sym (add-zero _);
        },
        omega (arith, ltb-true c.contexts 32 t.0),
      )

pub noted-went : (n : ℕ) (s : List ℕ) (c : Cursor) {u : Unit {0}} {c' : Cursor} → noted n s c ≡ read u c' → Went s c [] 0 0 n c'
unfolding noted
noted-went n s c e = same e (λ u c'. Went s c [] 0 0 n c') (record {
  place = sym (add-zero _);
  rest = refl;
  counted = sym (add-zero _);
  declared = sym (add-zero _);
  noted = refl;
})
