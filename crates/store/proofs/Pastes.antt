-- Bytes written over others: the law of one turn of each loop, and what a list in three parts becomes.
use Prim.Native.Nat.{ℕ, ◌+◌, ◌-◌, ◌/◌, ◌%◌, ◌≤◌, ◌<◌}
use mathlib.Core.Path.{◌≡◌, refl, sym, ap, ◌∙◌}
use mathlib.Core.List.{List, [], ◌∷◌, ◌++◌, append_assoc, append-nil}
use native.Mathlib.Nat.{zero-add, suc-add}
use native.Mathlib.Numerals.{add-one}
use native.Mathlib.Omega.{arith}
use lib.ListN.{length, get_or, set, take, drop, replicate, length-append, length-drop, drop_of_length-le, length-set, get_or-append}
use lib.Seq.{paste, paste-suc, length_paste_head, take-length, get_or-append-add, get_or-drop, length-take-le, take_all, set-append_left, take_at, drop_at, sets-eq}
use Rattle.std.proofs.lemmas.Slice.{put_mid-paste}
use borrow.Rule.Slice.PartMut.{put_mid}
use Rattle.wire.specs.Words.{word_bytes}
use Rattle.store.specs.Internal.Changes.{over, cleared, moved, closed}

-- ---- one turn

pub paste-turn :
    (d s : List ℕ) (at j v : ℕ) → at + j < length d → j < length s → v ≡ get_or s j 0 → set (paste d at s j) (at + j) v ≡ paste d at s (j + 1)
paste-turn d s at j v h k e = rw (e, add-one j) (paste-suc d at s j 0 h k)

-- a byte behind what was written is as before
paste-later :
    (d s : List ℕ) (at j i : ℕ) → at + j + i < length d → j ≤ length s → get_or (paste d at s j) (at + j + i) 0 ≡ get_or d (at + j + i) 0
paste-later d s at j i h k =
    let head : length (take at d ++ take j s) ≡ at + j = length_paste_head d at s j (omega arith) k in
    ap (λ m. get_or (take at d ++ take j s ++ drop (at + j) d) (m + i) 0) (sym head) ∙
    get_or-append-add (take at d ++ take j s) (drop (at + j) d) i 0 ∙ get_or-drop (at + j) d i 0

-- the byte that a move reads
pub moved-byte :
    (d : List ℕ) (at n j : ℕ) → at + n + j < length d →
    get_or (paste d at (drop (at + n) d) j) (at + n + j) 0 ≡ get_or (drop (at + n) d) j 0
moved-byte d at n j h =
    let e : at + n + j ≡ at + j + n = omega arith in
    let k : j ≤ length (drop (at + n) d) = omega (arith, length-drop (at + n) d) in
    ap (λ i. get_or (paste d at (drop (at + n) d) j) i 0) e ∙ paste-later d (drop (at + n) d) at j n (omega arith) k ∙
    ap (λ i. get_or d i 0) (sym e) ∙ sym (get_or-drop (at + n) d j 0)

-- ---- ends

pub cleared_by : (d : List ℕ) (from : ℕ) (x : List ℕ) → from ≤ length d → x ≡ replicate (length d - from) 0 →
    put_mid from (length d - from) d x ≡ cleared d from
unfolding cleared
cleared_by d from x h e =
    let l : length (drop from d) ≤ length d - from = omega (arith, length-drop from d) in
    rw (e, drop_of_length-le (drop from d) l, append-nil)

pub copied : (d x : List ℕ) (at n : ℕ) → n ≡ length x → paste d at x n ≡ over d at x
unfolding over
copied d x at n e = rw (e, take-length x)

pub copied_by : (d x : List ℕ) (at : ℕ) (y : List ℕ) → y ≡ x → put_mid at (at + length x - at) d y ≡ over d at x
unfolding over
copied_by d x at y e =
    put_mid-paste at (at + length x - at) d y x (length x) e (omega arith) refl ∙ copied d x at (length x) refl

abbrev pub zeros : ℕ → List ℕ
zeros n = replicate n 0

pub moved_all : (d : List ℕ) (at n j : ℕ) → at + n ≤ length d → j ≡ length d - n - at → paste d at (drop (at + n) d) j ≡ moved d at n
unfolding moved
moved_all d at n j h e =
    let f : at + j ≡ length d - n = omega arith in
    let whole : take j (drop (at + n) d) ≡ drop (at + n) d = take_all j (drop (at + n) d) (omega (arith, length-drop (at + n) d)) in
    rw (whole, f)

pub length_moved : (d : List ℕ) (at n : ℕ) → at + n ≤ length d → length (moved d at n) ≡ length d
unfolding moved
length_moved d at n h =
    rw (length-append, length-append, length-take-le at d (omega arith), length-drop (at + n) d, length-drop (length d - n) d) (omega arith)

moved-head : (d : List ℕ) (at n from : ℕ) → at + n ≤ length d → from ≡ length d - n → take from (moved d at n) ≡ take at d ++ drop (at + n) d
unfolding moved
moved-head d at n from h f =
    let a : length (take at d) ≡ at = length-take-le at d (omega arith) in
    let e : length (take at d ++ drop (at + n) d) ≡ from = omega (arith, length-append (take at d) (drop (at + n) d), a, length-drop (at + n) d) in
    take_at (take at d ++ drop (at + n) d) (drop (length d - n) d) from e

pub gap-closed : (d : List ℕ) (at n from : ℕ) → at + n ≤ length d → from ≡ length (moved d at n) - n → cleared (moved d at n) from ≡ closed d at n
unfolding cleared closed
gap-closed d at n from h e =
    let l = length_moved d at n h in
    let f : from ≡ length d - n = omega (arith, e, l) in
    let g : length (moved d at n) - from ≡ n = omega (arith, f, l) in
    rw (moved-head d at n from h f, g)

pub word_over : (d : List ℕ) (at n : ℕ) → at + 2 ≤ length d → set (set d at (n % 256)) (at + 1) (n / 256) ≡ over d at (word_bytes n)
unfolding over
word_over d at n h = ap (λ i. set (set d at (n % 256)) i (n / 256)) (add-one at) ∙ sets-eq (word_bytes n) d at h

-- ---- one byte of what was written over

set-append-add : (xs ys : List ℕ) (n v : ℕ) → set (xs ++ ys) (length xs + n) v ≡ xs ++ set ys n v
set-append-add [] ys n v = ap (λ k. set ys k v) (zero-add n)
set-append-add (x ∷ xs) ys n v =
    ap (λ k. set (x ∷ (xs ++ ys)) k v) (suc-add (length xs) n) ∙ ap (λ l. x ∷ l) (set-append-add xs ys n v)

module _ (b : List ℕ) (at : ℕ) (y : List ℕ) (j : ℕ) (in-y : j < length y) (inside : at + length y ≤ length b) where
  pub set-over : (v : ℕ) → set (over b at y) (at + j) v ≡ over b at (set y j v)
  unfolding over
  set-over v =
      let a : length (take at b) ≡ at = length-take-le at b (omega arith) in
      let h : at + j < length (take at b ++ y) = omega (arith, length-append (take at b) y, a) in
      set-append_left (take at b ++ y) (drop (at + length y) b) (at + j) v h ∙
      ap (λ l. l ++ drop (at + length y) b)
      (ap (λ k. set (take at b ++ y) (k + j) v) (sym a) ∙ set-append-add (take at b) y j v) ∙
      ap (λ k. take at b ++ set y j v ++ drop (at + k) b) (sym (length-set y j v))

  pub byte-over : get_or (over b at y) (at + j) 0 ≡ get_or y j 0
  unfolding over
  byte-over =
      let a : length (take at b) ≡ at = length-take-le at b (omega arith) in
      let h : at + j < length (take at b ++ y) = omega (arith, length-append (take at b) y, a) in
      get_or-append (take at b ++ y) (drop (at + length y) b) 0 (at + j) h ∙
      ap (λ k. get_or (take at b ++ y) (k + j) 0) (sym a) ∙ get_or-append-add (take at b) y j 0

pub length_over : (b : List ℕ) (at : ℕ) (y : List ℕ) → at + length y ≤ length b → length (over b at y) ≡ length b
unfolding over
length_over b at y h =
    rw (length-append, length-append, length-take-le at b (omega arith), length-drop (at + length y) b) (omega arith)

-- ---- a list in three parts

module _ (a x c : List ℕ) (at : ℕ) (here : length a ≡ at) where
  pub over-at : (y : List ℕ) → length x ≡ length y → over (a ++ x ++ c) at y ≡ a ++ y ++ c
  unfolding over
  over-at y e =
      let front : take at (a ++ x ++ c) ≡ a = ap (take at) (append_assoc a x c) ∙ take_at a (x ++ c) at here in
      let back : drop (at + length y) (a ++ x ++ c) ≡ c =
      drop_at (a ++ x) c (at + length y) (length-append a x ∙ rw (here, e)) in
      rw (front, back)

  pub closed_at_lem : (n : ℕ) → length x ≡ n → closed (a ++ x ++ c) at n ≡ a ++ c ++ zeros n
  unfolding closed
  closed_at_lem n e =
      let front : take at (a ++ x ++ c) ≡ a = ap (take at) (append_assoc a x c) ∙ take_at a (x ++ c) at here in
      let back : drop (at + n) (a ++ x ++ c) ≡ c = drop_at (a ++ x) c (at + n) (length-append a x ∙ rw (here, e)) in
      rw (front, back)
