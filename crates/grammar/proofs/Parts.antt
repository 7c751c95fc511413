-- A reader that finds its bytes wherever they stand, and readers of several parts.
use Prim.Native.Nat.{ℕ, ◌+◌, ◌<◌, ◌≤◌}
use mathlib.Core.Path.{◌≡◌, refl, ◌∙◌}
use mathlib.Core.Bool.{Bool, true}
use mathlib.Core.List.{List, [], ◌∷◌, ◌++◌, append_assoc}
use native.Mathlib.Omega.{arith}
use lib.ListN.{length, drop}
use Rattle.wire.specs.Classes as Classes
use Rattle.wire.specs.Classes.{Class}
use Rattle.wire.specs.Words.{word_bytes, long_bytes, int64_bytes}
use Rattle.grammar.specs.declared.Refusal.{Refusal}
use Rattle.grammar.specs.declared.Cursor.{Cursor}
use Rattle.grammar.specs.Bytes as Bytes
use Rattle.grammar.specs.Reader.{read, Reader, ◌>>◌, byte, word, long, int64, bytes, name, tested, code, coded, with_conditions, count_statement, opened, noted}
use Rattle.grammar.proofs.Found.{Found, along, inside, byte-found, word-found, long-found, int64-found, bytes-found, name-found, tested-found, code-found, coded-found, counted-found, opened-found}

-- wherever the bytes xs stand in the request s and there is room for n statements and k contexts, the reader gives a and counts so many
pub record Reads {A : Type 0} (s : List ℕ) (m : Reader A) (xs : List ℕ) (a : A) (n k : ℕ) : Type 0 where
  pub from : (c : Cursor) {rest : List ℕ} → c.statements + n ≤ 512 → c.contexts + k ≤ 32 → drop c.at s ≡ xs ++ rest →
      Found m s c a n k rest

module _ {s : List ℕ} where
  -- ---- parts one after another: none, one, two or three; w reads what has them

  pub at_once : {D : Type 0} {w : Reader D} {d : D} → ((c : Cursor) → w s c ≡ read d c) → Reads s w [] d 0 0
  at_once u = record { from = λ c x y h. record { after = c; is = u c; stands = h; statements = omega arith; contexts = omega arith } }

  pub alone : {A D : Type 0} {m : Reader A} {w : Reader D} {xs : List ℕ} {a : A} {d : D} {n k : ℕ} → Reads s m xs a n k →
      ((c q : Cursor) (rest : List ℕ) → drop c.at s ≡ xs ++ rest → m s c ≡ read a q → w s c ≡ read d q) → Reads s w xs d n k
  alone f u = record { from = λ c {rest} x y h. let a = f.from c x y h in along a (u c a.after rest h a.is) refl refl }

  -- the parts after the first may know the place where that begins
  module _ {A B D : Type 0} {m : Reader A} {w : Reader D} {xs ys : List ℕ} {a : A} {b : B} {d : D} {n k i j N K : ℕ} where
    pub placed : {l : ℕ → Reader B} → Reads s m xs a n k → ((p : ℕ) → Reads s (l p) ys b i j) →
        ((c q r : Cursor) (rest : List ℕ) → drop c.at s ≡ xs ++ (ys ++ rest) → m s c ≡ read a q → drop q.at s ≡ ys ++ rest →
        l c.at s q ≡ read b r → w s c ≡ read d r) →
        n + i ≡ N → k + j ≡ K → Reads s w (xs ++ ys) d N K
    placed f g u e₁ e₂ = record {
      from = λ c {rest} x y h.
          let h₁ = h ∙ append_assoc xs ys rest in
          let a = f.from c (omega arith) (omega arith) h₁ in
          let b = (g c.at).from a.after (omega arith) (omega arith) a.stands in
          along {q = a.after} b (u c a.after b.after rest h₁ a.is a.stands b.is) (omega arith) (omega arith);
    }

    pub in-turn : {l : Reader B} → Reads s m xs a n k → Reads s l ys b i j →
        ((c q r : Cursor) (rest : List ℕ) → drop c.at s ≡ xs ++ (ys ++ rest) → m s c ≡ read a q → drop q.at s ≡ ys ++ rest →
        l s q ≡ read b r → w s c ≡ read d r) →
        n + i ≡ N → k + j ≡ K → Reads s w (xs ++ ys) d N K
    in-turn {l} f g u e₁ e₂ = placed {l = λ p. l} f (λ p. g) u e₁ e₂

  module _ {A B E D : Type 0} {m : Reader A} {w : Reader D} {xs ys zs : List ℕ} {a : A} {b : B} {e : E} {d : D} {n k i j v z N K : ℕ} where
    pub three-placed : {l : ℕ → Reader B} {o : ℕ → Reader E} → Reads s m xs a n k → ((p : ℕ) → Reads s (l p) ys b i j) →
        ((p : ℕ) → Reads s (o p) zs e v z) →
        ((c q r t : Cursor) (rest : List ℕ) → m s c ≡ read a q → l c.at s q ≡ read b r → drop r.at s ≡ zs ++ rest →
        o c.at s r ≡ read e t → w s c ≡ read d t) →
        n + i + v ≡ N → k + j + z ≡ K → Reads s w (xs ++ ys ++ zs) d N K
    three-placed f g p u e₁ e₂ = record {
      from = λ c {rest} x y h.
          let a = f.from c (omega arith) (omega arith) (h ∙ append_assoc (xs ++ ys) zs rest ∙ append_assoc xs ys (zs ++ rest)) in
          let b = (g c.at).from a.after (omega arith) (omega arith) a.stands in
          let t = (p c.at).from b.after (omega arith) (omega arith) b.stands in
          along {q = b.after} t (u c a.after b.after t.after rest a.is b.is b.stands t.is)
          (omega arith) (omega arith);
    }

    pub three-in-turn : {l : Reader B} {o : Reader E} → Reads s m xs a n k → Reads s l ys b i j → Reads s o zs e v z →
        ((c q r t : Cursor) (rest : List ℕ) → m s c ≡ read a q → l s q ≡ read b r → drop r.at s ≡ zs ++ rest → o s r ≡ read e t →
        w s c ≡ read d t) →
        n + i + v ≡ N → k + j + z ≡ K → Reads s w (xs ++ ys ++ zs) d N K
    three-in-turn {l} {o} f g p u e₁ e₂ = three-placed {l = λ p. l} {o = λ p. o} f (λ q. g) (λ q. p) u e₁ e₂

  -- ---- the basic readers

  -- what counts nothing asks for no room
  pub plain : {A : Type 0} {m : Reader A} {xs : List ℕ} {a : A} →
      ((c : Cursor) (rest : List ℕ) → drop c.at s ≡ xs ++ rest → Found m s c a 0 0 rest) → Reads s m xs a 0 0
  plain f = record { from = λ c {rest} u v h. f c rest h }

  pub byte_reads : (x : ℕ) → Reads s byte (x ∷ []) x 0 0
  byte_reads x = plain (λ c rest h. byte-found s c x h)

  pub word-reads : (n : ℕ) → Reads s word (word_bytes n) n 0 0
  word-reads n = plain (λ c rest h. word-found s c n h)

  pub long-reads : (n : ℕ) → Reads s long (long_bytes n) n 0 0
  long-reads n = plain (λ c rest h. long-found s c n h)

  pub int64-reads : (n : ℕ) → Reads s int64 (int64_bytes n) n 0 0
  int64-reads n = plain (λ c rest h. int64-found s c n h)

  pub bytes_read : (xs : List ℕ) → 0 < length xs → Reads s (bytes (length xs)) xs xs 0 0
  bytes_read xs l = plain (λ c rest h. bytes-found s c xs (inside s c.at xs rest h l) h)

  pub name-reads : (xs : List ℕ) → Reads s name (Bytes.counted_bytes xs) xs 0 0
  name-reads xs = plain (λ c rest h. name-found s c xs h)

  pub code_reads : (x : ℕ) (r : Refusal) → Reads s (code x r) (x ∷ []) x 0 0
  code_reads x r = plain (λ c rest h. code-found s c x r h)

  pub coded-reads : {A : Type 0} (class : ℕ → Class A) (x : ℕ) (y : A) → class x ≡ Classes.due y → Reads s (coded class) (x ∷ []) y 0 0
  coded-reads class x y e = plain (λ c rest h. coded-found s c class x y e h)

  pub tested_reads : {A : Type 0} {field : Reader A} {xs : List ℕ} {a : A} {n k : ℕ} (test : A → Bool) (r : Refusal) →
      Reads s field xs a n k → test a ≡ true → Reads s (tested field test r) xs a n k
  tested_reads test r f t = record { from = λ c u v h. tested-found s c test r (f.from c u v h) t }

  pub counted-reads : (p : ℕ) → Reads s (count_statement p) [] tt 1 0
  counted-reads p = record { from = λ c u v h. counted-found s c h p (omega arith) }

  pub opened-reads : (p : ℕ) → Reads s (opened p) [] tt 0 1
  opened-reads p = record { from = λ c u v h. opened-found s c h p (omega arith) }

  -- i conditions more, and then what m reads
  pub noted-reads : {A : Type 0} {m : Reader A} {xs : List ℕ} {a : A} {n k : ℕ} (i : ℕ) → Reads s m xs a n k →
      Reads s (noted i >> m) xs a n k
  unfolding noted
  noted-reads i f = record {
    from = λ c u v h. let a = f.from (with_conditions c i) u v h in along {q = with_conditions c i} a a.is refl refl;
  }
