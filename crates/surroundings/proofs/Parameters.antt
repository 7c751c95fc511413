-- One scan of the parameter rows finds a parameter's format and its place in the joined images.
use Prim.Native.Nat.{ℕ, zero, suc, ◌+◌, ◌*◌, ◌-◌, ◌%◌, ◌<◌, ◌≤◌}
use mathlib.Core.Path.{◌≡◌, refl, sym, ap, ap₂, ◌∙◌}
use mathlib.Core.Bool.{Bool, true, false, ◌&&◌}
use mathlib.Core.List.{List, [], ◌∷◌, ◌++◌, append_assoc}
use mathlib.Core.Option.{Option, none, some, map}
use native.Mathlib.Omega.{arith}
use lib.Dec.{eqb}
use lib.ListN.{length, take, drop, get_elem?}
use borrow.Author.Tests.{eq-eqb, ne_eqb, eqb-true, eqb-false}
use Rattle.wire.specs.Words.{byte_at}
use Rattle.wire.specs.Lists.{any_of, among, index_of, sum_of, ◌and_then◌}
use Rattle.wire.specs.Classes.{classify, descriptor_class}
use Rattle.wire.specs.declared.codes.Width.TheVariants.{Short, Long, Int64}
use Rattle.wire.specs.declared.codes.TextType.TheVariants.{Text, Varying, Cstring}
use Rattle.dictionary.specs.Format.{Format, held}
use Rattle.grammar.specs.Tree.{Descriptor, Message}
use Rattle.grammar.specs.Bytes.{descriptor_bytes}
use Rattle.grammar.specs.Environment.{descriptor_format}
use Rattle.grammar.specs.Scope.{Unique, message_numbers}
use Rattle.grammar.specs.Sizes.{descriptors_size, message_size, parameter_count}
use Rattle.grammar.specs.Rows.{descriptor_rows, parameter_rows}
use Rattle.meaning.specs.Inputs.{parameter_at}
use Rattle.surroundings.specs.Parameters.{ScaleByte, ScalesIn, ScaleBytes, row_format, cell, row_found, parameter_from, held_from}
use Rattle.grammar.proofs.StepLaws.{absurd-eq}
use Rattle.grammar.proofs.Unique.{neither}
use Rattle.surroundings.proofs.Cells.{cell-is, next-is}

-- ---- a row says its descriptor's format

abbrev format_told : Descriptor → Option Format
format_told d = row_format (descriptor_class (byte_at (descriptor_bytes d) 0)) (descriptor_format d).scale (held (descriptor_format d))

row-format : (d : Descriptor) → format_told d ≡ some (descriptor_format d)
unfolding row_format descriptor_class classify descriptor_bytes descriptor_format held
row-format (Descriptor.number Short scale) = refl
row-format (Descriptor.number Long scale) = refl
row-format (Descriptor.number Int64 scale) = refl
row-format Descriptor.date = refl
row-format (Descriptor.text Text n) = refl
row-format (Descriptor.text Varying n) = let h : n + 2 - 2 ≡ n = omega arith in rw h
row-format (Descriptor.text Cstring n) = refl

-- ---- the rows of one message

-- the cells of a row that stands first in what is left of the table
module _ (t : List ℕ) (row number i offset : ℕ) (d : Descriptor) (ds : List Descriptor) (rest : List ℕ)
    (f : drop (row * 6) t ≡ descriptor_rows number i offset (d ∷ ds) ++ rest) where
  first-cells : (cell t row 0 ≡ number) × (cell t row 1 ≡ i) × (cell t row 5 ≡ held (descriptor_format d))
  unfolding descriptor_rows
  first-cells =
      let l = descriptor_rows number i offset (d ∷ ds) ++ rest in
      (cell-is t l (row * 6) 0 f, cell-is t l (row * 6) 1 f, cell-is t l (row * 6) 5 f)

  format-told : ScaleByte d → row_format (descriptor_class (cell t row 2)) (cell t row 3 % 256) (cell t row 5) ≡ some (descriptor_format d)
  unfolding descriptor_rows
  format-told b =
      let l = descriptor_rows number i offset (d ∷ ds) ++ rest in
      let h : (descriptor_format d).scale % 256 ≡ (descriptor_format d).scale = omega (arith, b) in
      rw (cell-is t l (row * 6) 2 f, cell-is t l (row * 6) 3 f, cell-is t l (row * 6) 5 f, h) (row-format d)

  next_row : drop ((row + 1) * 6) t ≡ descriptor_rows number (i + 1) (offset + held (descriptor_format d)) ds ++ rest
  unfolding descriptor_rows
  next_row = next-is t (descriptor_rows number i offset (d ∷ ds) ++ rest) (row * 6) 6 ((row + 1) * 6) f (omega arith)

-- a place further on
abbrev pub shifted : ℕ → Option (Format × ℕ) → Option (Format × ℕ)
shifted p none = none
shifted p (some x) = some (x.0, p + x.1)

shifted-twice : (p q : ℕ) (x : Option (Format × ℕ)) → shifted (p + q) x ≡ shifted p (shifted q x)
shifted-twice p q none = refl
shifted-twice p q (some x) = let h : p + q + x.1 ≡ p + (q + x.1) = omega arith in rw h

pub shifted_none : (x : Option (Format × ℕ)) → shifted 0 x ≡ x
shifted_none none = refl
shifted_none (some x) = let h : 0 + x.1 ≡ x.1 = omega arith in ap (λ z. some (x.0, z)) h

-- no message has a number
abbrev NoMessage : ℕ → List Message → Type 0
NoMessage m [] = Unit {0}
NoMessage m (x ∷ ms) = (x.number ≡ m → ⊥) × NoMessage m ms

-- a number that is not among those of the messages
none_has : (m : ℕ) (ms : List Message) → among m (message_numbers ms) ≡ false → NoMessage m ms
unfolding among any_of
none_has m [] h = tt
none_has m (x ∷ ms) h =
    let t = neither (eqb x.number m) (among m (message_numbers ms)) h in (eqb-false x.number m t.0, none_has m ms t.1)

none-at : {A : Type 0} (l : List A) (k : ℕ) → get_elem? l k ≡ none → length l ≤ k
none-at [] k e = omega arith
none-at (x ∷ l) zero e = absurd-eq (cc)
none-at (x ∷ l) (suc k) e = let h = none-at l k e in omega (arith, h)

-- a descriptor's format, and a place
abbrev placed_at : ℕ → Option Descriptor → Option (Format × ℕ)
placed_at p o = o and_then λ d. some (descriptor_format d, p)

-- parameter k of a message whose image stands at q
abbrev parameter_in : ℕ → Message → ℕ → Option (Format × ℕ)
parameter_in q y k = placed_at (q + descriptors_size (take k y.descriptors)) (get_elem? y.descriptors k)

-- a parameter of a message after the first
later : (x : Message) (ms : List Message) (m k : ℕ) → eqb x.number m ≡ false →
    parameter_at (x ∷ ms) m k ≡ shifted (message_size x) (parameter_at ms m k)
unfolding parameter_at index_of sum_of
later x ms m k e = rw e (by (index_of (λ x. eqb x.number m) ms))
  where
    descriptor : (u v : ℕ) (o : Option Descriptor) → placed_at (message_size x + u + v) o ≡ shifted (message_size x) (placed_at (u + v) o)
    descriptor u v none = refl
    descriptor u v (some d) =
        let h : message_size x + u + v ≡ message_size x + (u + v) = omega arith in ap (λ z. some (descriptor_format d, z)) h

    at : (j : ℕ) (o : Option Message) →
        (o and_then λ y. parameter_in (message_size x + sum_of message_size (take j ms)) y k)
        ≡ shifted (message_size x) (o and_then λ y. parameter_in (sum_of message_size (take j ms)) y k)
    at j none = refl
    at j (some y) = descriptor (sum_of message_size (take j ms)) (descriptors_size (take k y.descriptors)) (get_elem? y.descriptors k)

    by : (o : Option ℕ) →
        (map suc o and_then λ j. get_elem? (x ∷ ms) j and_then λ y. parameter_in (sum_of message_size (take j (x ∷ ms))) y k)
        ≡ shifted (message_size x) (o and_then λ j. get_elem? ms j and_then λ y. parameter_in (sum_of message_size (take j ms)) y k)
    by none = refl
    by (some j) = at j (get_elem? ms j)

-- a parameter of the first message
here : (x : Message) (ms : List Message) (m k : ℕ) (o : Option Descriptor) → eqb x.number m ≡ true → get_elem? x.descriptors k ≡ o →
    parameter_at (x ∷ ms) m k ≡ placed_at (descriptors_size (take k x.descriptors)) o
unfolding parameter_at index_of sum_of
here x ms m k o e a =
    let n = descriptors_size (take k x.descriptors) in
    let h : 0 + n ≡ n = omega arith in
    rw (e, a) (ap (λ z. placed_at z o) h)

-- by the two tests of a row
rowless : (a b : Bool) (x : Option Format) (p : ℕ) (rest : Option (Format × ℕ)) → (a ≡ true → b ≡ false) → row_found (a && b) x p rest ≡ rest
rowless true b x p rest h = rw (h refl)
rowless false b x p rest h = refl

module _ (t : List ℕ) (m k : ℕ) where
  other_row : (d : Descriptor) (ds : List Descriptor) (row number i offset p n : ℕ) (rest : List ℕ) →
      drop (row * 6) t ≡ descriptor_rows number i offset (d ∷ ds) ++ rest → (number ≡ m → i < k) →
      parameter_from t m k (suc n) row p ≡ parameter_from t m k n (row + 1) (p + held (descriptor_format d))
  unfolding parameter_from
  other_row d ds row number i offset p n rest f h =
      let c = first-cells t row number i offset d ds rest f in
      rowless (eqb (cell t row 0) m) (eqb (cell t row 1) k) _ p _ (λ e.
      let z = eqb-true (cell t row 0) m e in
      let l = h (sym c.0 ∙ z) in
      ne_eqb (cell t row 1) k (λ g. let x = c.1 in omega (arith, x, g, l)))
      ∙ ap (λ x. parameter_from t m k n (row + 1) (p + x)) c.2

  -- rows that are not of parameter k of message m
  skipped : (ds : List Descriptor) (n row number i offset p : ℕ) (rest : List ℕ) →
      drop (row * 6) t ≡ descriptor_rows number i offset ds ++ rest → (number ≡ m → i + length ds ≤ k) →
      parameter_from t m k (length ds + n) row p ≡ parameter_from t m k n (row + length ds) (p + descriptors_size ds)
  unfolding descriptors_size sum_of
  skipped [] n row number i offset p rest f h =
      let a : row + 0 ≡ row = omega arith in let b : p + 0 ≡ p = omega arith in let c : 0 + n ≡ n = omega arith in rw (a, b, c)
  skipped (d ∷ ds) n row number i offset p rest f h =
      let a : row + 1 + length ds ≡ row + suc (length ds) = omega arith in
      let s = sum_of (λ d. held (descriptor_format d)) ds in
      let b : p + held (descriptor_format d) + s ≡ p + (held (descriptor_format d) + s) = omega arith in
      let c : suc (length ds) + n ≡ suc (length ds + n) = omega arith in
      ap (λ x. parameter_from t m k x row p) c
      ∙ other_row d ds row number i offset p (length ds + n) rest f (λ e. let l = h e in omega (arith, l))
      ∙ skipped ds n (row + 1) number (i + 1) (offset + held (descriptor_format d)) (p + held (descriptor_format d)) rest
      (next_row t row number i offset d ds rest f) (λ e. let l = h e in omega (arith, l))
      ∙ ap₂ (parameter_from t m k n) a b

  -- the row of parameter k = i + j of message m
  met : (ds : List Descriptor) (n row i offset p j : ℕ) (rest : List ℕ) (x : Descriptor) →
      drop (row * 6) t ≡ descriptor_rows m i offset ds ++ rest → get_elem? ds j ≡ some x → i + j ≡ k → ScalesIn ds →
      parameter_from t m k (length ds + n) row p ≡ some (descriptor_format x, p + descriptors_size (take j ds))
  unfolding descriptors_size sum_of parameter_from
  met [] n row i offset p j rest x f e h b = absurd-eq (cc)
  met (d ∷ ds) n row i offset p zero rest x f e h b =
      let z : d ≡ x = cc in
      let c = first-cells t row m i offset d ds rest f in
      let l : suc (length ds) + n ≡ suc (length ds + n) = omega arith in
      let y : cell t row 1 ≡ k = let w = c.1 in omega (arith, w, h) in
      let o : p + 0 ≡ p = omega arith in
      let w = format-told t row m i offset d ds rest f b.0 in
      rw (l, parameter_from, eq-eqb (cell t row 0) m c.0, eq-eqb (cell t row 1) k y, w, o, z)
  met (d ∷ ds) n row i offset p (suc j) rest x f e h bs =
      let l : suc (length ds) + n ≡ suc (length ds + n) = omega arith in
      let s = sum_of (λ d. held (descriptor_format d)) (take j ds) in
      let b : p + held (descriptor_format d) + s ≡ p + (held (descriptor_format d) + s) = omega arith in
      ap (λ x. parameter_from t m k x row p) l
      ∙ other_row d ds row m i offset p (length ds + n) rest f (λ e. omega arith)
      ∙ met ds n (row + 1) (i + 1) (offset + held (descriptor_format d)) (p + held (descriptor_format d)) j rest x
      (next_row t row m i offset d ds rest f) e (omega arith) bs.1
      ∙ ap (λ z. some (descriptor_format x, z)) b

  -- ---- the rows of all messages

  past-message : (ds : List Descriptor) (row number i offset : ℕ) (rest : List ℕ) →
      drop (row * 6) t ≡ descriptor_rows number i offset ds ++ rest → drop ((row + length ds) * 6) t ≡ rest
  unfolding descriptor_rows
  past-message [] row number i offset rest f = let a : row + 0 ≡ row = omega arith in rw a f
  past-message (d ∷ ds) row number i offset rest f =
      let a : row + suc (length ds) ≡ row + 1 + length ds = omega arith in
      rw a (past-message ds (row + 1) number (i + 1) (offset + held (descriptor_format d)) rest
      (next_row t row number i offset d ds rest f))

  message-rows : (x : Message) (ms : List Message) (row : ℕ) (rest : List ℕ) → drop (row * 6) t ≡ parameter_rows (x ∷ ms) ++ rest →
      drop (row * 6) t ≡ descriptor_rows x.number 0 0 x.descriptors ++ (parameter_rows ms ++ rest)
  unfolding parameter_rows
  message-rows x ms row rest f = f ∙ append_assoc (descriptor_rows x.number 0 0 x.descriptors) (parameter_rows ms) rest

  no-message : (ms : List Message) (row p : ℕ) (rest : List ℕ) → drop (row * 6) t ≡ parameter_rows ms ++ rest → NoMessage m ms →
      parameter_from t m k (parameter_count ms) row p ≡ none
  unfolding parameter_from sum_of
  no-message [] row p rest f h = refl
  no-message (x ∷ ms) row p rest f h =
      let g = message-rows x ms row rest f in
      skipped x.descriptors (parameter_count ms) row x.number 0 0 p (parameter_rows ms ++ rest) g (λ e. absurd (h.0 e))
      ∙ no-message ms (row + length x.descriptors) (p + descriptors_size x.descriptors) rest
      (past-message x.descriptors row x.number 0 0 (parameter_rows ms ++ rest) g) h.1

  pub scanned : (ms : List Message) (row p : ℕ) (rest : List ℕ) →
      drop (row * 6) t ≡ parameter_rows ms ++ rest → Unique (message_numbers ms) → ScaleBytes ms →
      parameter_from t m k (parameter_count ms) row p ≡ shifted p (parameter_at ms m k)
  unfolding parameter_from parameter_at index_of sum_of message_size among any_of
  scanned [] row p rest f u v = refl
  scanned (x ∷ ms) row p rest f u v =
      by (eqb x.number m) refl (get_elem? x.descriptors k) refl
      (scanned ms (row + length x.descriptors) (p + message_size x) rest
      (past-message x.descriptors row x.number 0 0 (parameter_rows ms ++ rest) (message-rows x ms row rest f)) u.1 v.1)
    where
      by : (b : Bool) → eqb x.number m ≡ b → (o : Option Descriptor) → get_elem? x.descriptors k ≡ o →
          parameter_from t m k (parameter_count ms) (row + length x.descriptors) (p + message_size x)
          ≡ shifted (p + message_size x) (parameter_at ms m k) →
          parameter_from t m k (length x.descriptors + parameter_count ms) row p ≡ shifted p (parameter_at (x ∷ ms) m k)
      by true e (some d) a next =
          let z : x.number ≡ m = eqb-true x.number m e in
          let g : drop (row * 6) t ≡ descriptor_rows m 0 0 x.descriptors ++ (parameter_rows ms ++ rest) =
          rw z at (message-rows x ms row rest f) in
          met x.descriptors (parameter_count ms) row 0 0 p k (parameter_rows ms ++ rest) d g a (omega arith) v.0
          ∙ sym (ap (shifted p) (here x ms m k (some d) e a))
      by true e none a next =
          let g = message-rows x ms row rest f in
          let l = none-at x.descriptors k a in
          let free : among m (message_numbers ms) ≡ false = rw (eqb-true x.number m e) at u.0 in
          skipped x.descriptors (parameter_count ms) row x.number 0 0 p (parameter_rows ms ++ rest) g (λ z. omega (arith, l))
          ∙ no-message ms (row + length x.descriptors) (p + descriptors_size x.descriptors) rest
          (past-message x.descriptors row x.number 0 0 (parameter_rows ms ++ rest) g)
          (none_has m ms free)
          ∙ sym (ap (shifted p) (here x ms m k none e a))
      by false e o a next =
          let g = message-rows x ms row rest f in
          skipped x.descriptors (parameter_count ms) row x.number 0 0 p (parameter_rows ms ++ rest) g
          (λ z. absurd (eqb-false x.number m e z))
          ∙ next ∙ shifted-twice p (message_size x) (parameter_at ms m k) ∙ sym (ap (shifted p) (later x ms m k e))

-- ---- what the code computes

module _ (ms : List Message) (u : Unique (message_numbers ms)) (v : ScaleBytes ms) (t rest : List ℕ) (f : t ≡ parameter_rows ms ++ rest) where
  table-start : drop (0 * 6) t ≡ parameter_rows ms ++ rest
  table-start = f

  pub parameter-found : (m k : ℕ) → parameter_from t m k (parameter_count ms) 0 0 ≡ parameter_at ms m k
  parameter-found m k = scanned t m k ms 0 0 rest table-start u v ∙ shifted_none (parameter_at ms m k)

-- ---- the bytes of all images

module _ (t : List ℕ) where
  held-message : (ds : List Descriptor) (n row number i offset : ℕ) (rest : List ℕ) →
      drop (row * 6) t ≡ descriptor_rows number i offset ds ++ rest →
      held_from t (length ds + n) row ≡ descriptors_size ds + held_from t n (row + length ds)
  unfolding held_from descriptors_size sum_of
  held-message [] n row number i offset rest f =
      let a : row + 0 ≡ row = omega arith in
      let b : 0 + n ≡ n = omega arith in
      let h : held_from t n row ≡ 0 + held_from t n row = omega arith in
      rw (a, b) h
  held-message (d ∷ ds) n row number i offset rest f =
      let c = (first-cells t row number i offset d ds rest f).2 in
      let l : suc (length ds) + n ≡ suc (length ds + n) = omega arith in
      let a : row + 1 + length ds ≡ row + suc (length ds) = omega arith in
      let next = next_row t row number i offset d ds rest f in
      let h = held-message ds n (row + 1) number (i + 1) (offset + held (descriptor_format d)) rest next in
      rw (l, held_from) (let k = rw a at h in omega (arith, c, k))

  pub held_all : (ms : List Message) (row : ℕ) (rest : List ℕ) → drop (row * 6) t ≡ parameter_rows ms ++ rest →
      held_from t (parameter_count ms) row ≡ sum_of message_size ms
  unfolding held_from sum_of message_size
  held_all [] row rest f = refl
  held_all (x ∷ ms) row rest f =
      let g = message-rows t 0 0 x ms row rest f in
      held-message x.descriptors (parameter_count ms) row x.number 0 0 (parameter_rows ms ++ rest) g
      ∙ ap (λ z. descriptors_size x.descriptors + z)
      (held_all ms (row + length x.descriptors) rest
      (past-message t 0 0 x.descriptors row x.number 0 0 (parameter_rows ms ++ rest) g))

pub image-bytes : (ms : List Message) (t rest : List ℕ) → t ≡ parameter_rows ms ++ rest →
    held_from t (parameter_count ms) 0 ≡ sum_of message_size ms
image-bytes ms t rest f = let g : drop (0 * 6) t ≡ parameter_rows ms ++ rest = f in held_all t ms 0 rest g
