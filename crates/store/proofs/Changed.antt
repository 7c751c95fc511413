-- The bytes that each call leaves are the image of the changed list.
use Prim.Native.Nat.{ℕ, suc, ◌+◌, ◌*◌, ◌-◌, ◌≤◌, ◌<◌}
use mathlib.Core.Path.{◌≡◌, refl, sym, ap, ap₂, subst, ◌∙◌}
use mathlib.Core.Bool.{true}
use mathlib.Core.List.{List, [], ◌∷◌, ◌++◌, append_assoc}
use native.Mathlib.Omega.{arith}
use lib.ListN.{length, get_or, set, take, drop, length-append, length-replicate, replicate-append-replicate}
use lib.Seq.{length-take-le, split_at, set_split, take_at, drop_at}
use borrow.Author.Tests.{eqb-true}
use Rattle.wire.specs.Lists.{all_of, sum_of}
use Rattle.dictionary.specs.Dictionary.{Relation}
use Rattle.dictionary.proofs.Tests.{both_left, both_right}
use Rattle.records.specs.Record.{field_count, missing_bytes, record_length, proper_record}
use Rattle.store.specs.Store.{Contents, mark, one_record, kept, missing_in, missing_count, joined, header, used, image}
use Rattle.store.specs.Calls.{add, erase, replace, changed}
use Rattle.store.specs.Listing.{Octets}
use Rattle.store.specs.Internal.Layouts.{Laid, size_of, layout_of, ones_at, store_of}
use Rattle.store.specs.Internal.Changes.{over, closed, counted, written, place_of, bits_at, add_bytes, erase_bytes, replace_bytes}
use Rattle.store.proofs.Pastes.{zeros, over-at, closed_at_lem}
use Rattle.store.proofs.Records.{same-ones, kept-long, kept-short, layout-short, long-enough, proper-short}
use Rattle.store.proofs.Marks.{mark-length, mark-kept, marked-over}
use Rattle.store.proofs.Images.{words, all_middle, joined-size}
use Rattle.store.proofs.Opened.{Holding, joined-append, sum-append, part-middle}

-- ---- header, records and zeros, with any header

abbrev body : List ℕ → List (List ℕ) → ℕ → List ℕ
body h l n = h ++ joined l ++ zeros (n - (10 + length (joined l)))

image-body : (c : Contents) (n : ℕ) → image c n ≡ body (header c) c.records n
unfolding image used
image-body c n = refl

pub joined-middle : (k : List (List ℕ)) (x : List ℕ) (l : List (List ℕ)) → joined (k ++ x ∷ l) ≡ joined k ++ (x ++ joined l)
unfolding joined
joined-middle k x l = joined-append k (x ∷ l)

middle : (h : List ℕ) (k : List (List ℕ)) (x : List ℕ) (l : List (List ℕ)) (n : ℕ) →
    body h (k ++ x ∷ l) n ≡ h ++ joined k ++ x ++ (joined l ++ zeros (n - (10 + length (joined (k ++ x ∷ l)))))
middle h k x l n =
    let z = zeros (n - (10 + length (joined (k ++ x ∷ l)))) in
    ap (λ m. h ++ m ++ z) (joined-middle k x l) ∙ ap (λ m. m ++ z) (sym (append_assoc h (joined k) (x ++ joined l))) ∙
    ap (λ m. m ++ z) (sym (append_assoc (h ++ joined k) x (joined l))) ∙ append_assoc (h ++ joined k ++ x) (joined l) z

module _ (h : List ℕ) (ten : length h ≡ 10) (k : List (List ℕ)) where
  front : length (h ++ joined k) ≡ 10 + length (joined k)
  front = length-append h (joined k) ∙ ap (λ m. m + length (joined k)) ten

  length-middle : (x : List ℕ) (l : List (List ℕ)) → length (joined (k ++ x ∷ l)) ≡ length (joined k) + (length x + length (joined l))
  length-middle x l =
      ap length (joined-middle k x l) ∙ length-append (joined k) (x ++ joined l) ∙ ap (λ m. length (joined k) + m) (length-append x (joined l))

  -- another record in the place of one of its length
  put-middle : (x y : List ℕ) (l : List (List ℕ)) (n : ℕ) → length x ≡ length y →
      over (body h (k ++ x ∷ l) n) (10 + length (joined k)) y ≡ body h (k ++ y ∷ l) n
  put-middle x y l n e =
      let same : length (joined (k ++ x ∷ l)) ≡ length (joined (k ++ y ∷ l)) = omega (arith, length-middle x l, length-middle y l, e) in
      ap (λ b. over b (10 + length (joined k)) y) (middle h k x l n) ∙
      over-at (h ++ joined k) x (joined l ++ zeros (n - (10 + length (joined (k ++ x ∷ l))))) (10 + length (joined k)) front y e ∙
      ap (λ m. h ++ joined k ++ y ++ (joined l ++ zeros (n - (10 + m)))) same ∙ sym (middle h k y l n)

  -- a record behind all
  put_last : (y : List ℕ) (n : ℕ) → 10 + length (joined k) + length y ≤ n →
      over (body h k n) (10 + length (joined k)) y ≡ body h (k ++ y ∷ []) n
  unfolding joined
  put_last y n e =
      let m : ℕ = n - (10 + length (joined (k ++ y ∷ []))) in
      let sum : length y + m ≡ n - (10 + length (joined k)) = omega (arith, length-middle y [], length-append y []) in
      let split : zeros (n - (10 + length (joined k))) ≡ zeros (length y) ++ zeros m =
      ap zeros (sym sum) ∙ sym (replicate-append-replicate {A = ℕ} (length y) m 0) in
      ap (λ z. over (h ++ joined k ++ z) (10 + length (joined k)) y) split ∙
      ap (λ b. over b (10 + length (joined k)) y) (sym (append_assoc (h ++ joined k) (zeros (length y)) (zeros m))) ∙
      over-at (h ++ joined k) (zeros (length y)) (zeros m) (10 + length (joined k)) front y (length-replicate {A = ℕ} (length y) 0) ∙
      sym (middle h k y [] n)

  -- a record less
  take-middle : (x : List ℕ) (l : List (List ℕ)) (n : ℕ) → 10 + length (joined (k ++ x ∷ l)) ≤ n →
      closed (body h (k ++ x ∷ l) n) (10 + length (joined k)) (length x) ≡ body h (k ++ l) n
  take-middle x l n e =
      let m : ℕ = n - (10 + length (joined (k ++ x ∷ l))) in
      let long : length (joined (k ++ l)) ≡ length (joined k) + length (joined l) =
      ap length (joined-append k l) ∙ length-append (joined k) (joined l) in
      let sum : m + length x ≡ n - (10 + length (joined (k ++ l))) = omega (arith, length-middle x l, long) in
      ap (λ b. closed b (10 + length (joined k)) (length x)) (middle h k x l n) ∙
      closed_at_lem (h ++ joined k) x (joined l ++ zeros m) (10 + length (joined k)) front (length x) refl ∙
      ap (λ z. z ++ zeros (length x)) (sym (append_assoc (h ++ joined k) (joined l) (zeros m))) ∙
      append_assoc (h ++ joined k ++ joined l) (zeros m) (zeros (length x)) ∙
      ap (λ z. h ++ joined k ++ joined l ++ z) (replicate-append-replicate {A = ℕ} m (length x) 0 ∙ ap zeros sum) ∙
      ap (λ z. z ++ zeros (n - (10 + length (joined (k ++ l))))) (append_assoc h (joined k) (joined l) ∙ ap (λ z. h ++ z) (sym (joined-append k l)))

  -- the bits set in a record's missing bytes
  ones-middle : (r : Relation) (x : List ℕ) (l : List (List ℕ)) (n : ℕ) → kept r x ≡ true →
      ones_at (body h (k ++ x ∷ l) n) (10 + length (joined k) + 6) (missing_bytes r) ≡ missing_in r x
  unfolding missing_in
  ones-middle r x l n e =
      ap (λ b. ones_at b (10 + length (joined k) + 6) (missing_bytes r)) (middle h k x l n) ∙
      sym (same-ones (part-middle (h ++ joined k) x (joined l ++ zeros (n - (10 + length (joined (k ++ x ∷ l))))) (10 + length (joined k)) front)
      6 (missing_bytes r) (omega (arith, kept-long r x e, long-enough r)))

-- the header's counts
count-body : (a b c d e d' e' : ℕ) (l : List (List ℕ)) (n : ℕ) → counted (body (words a b c d e) l n) d' e' ≡ body (words a b c d' e') l n
unfolding counted over
count-body a b c d e d' e' l n = refl

-- with the counts of its records a body is an image
recount : (c : Contents) (l : List (List ℕ)) (n a m : ℕ) (w : List ℕ) → w ≡ body (header c) l n → a ≡ length l → m ≡ sum_of (missing_in c.relation) l →
    counted w a m ≡ image (record { relation = c.relation; records = l }) n
unfolding image used header missing_count
recount c l n a m w e f g =
    ap (λ b. counted b a m) e ∙ count-body 10 8 c.relation.id (length c.records) (missing_count c) a m l n ∙
    ap₂ (λ i j. body (words 10 8 c.relation.id i j) l n) f g

length-header : (c : Contents) → length (header c) ≡ 10
unfolding header
length-header c = refl

sum_one : (f : List ℕ → ℕ) (n : ℕ) (y : List ℕ) → n + sum_of f (y ∷ []) ≡ n + f y
unfolding sum_of
sum_one f n y = omega arith

-- ---- an open store

module _ {d : List ℕ} {rs : List Relation} {b : List ℕ} {c : Contents} (h : Holding d rs b c) (o : Octets b) where
  all-kept : all_of (kept c.relation) c.records ≡ true
  all-kept = h.is-good.good-records

  pub b-is : b ≡ body (header c) c.records (length b)
  b-is = h.is-image o ∙ image-body c (length b)

  pub end_is : place_of (store_of c) (store_of c).count ≡ 10 + length (joined c.records)
  unfolding store_of layout_of
  end_is = ap (λ m. 10 + m) (sym (joined-size c.relation c.records all-kept))

  pub inside_is : 10 + length (joined c.records) ≤ length b
  unfolding used
  inside_is = h.is-good.fits

  -- record k, with those before and after it
  module _ (k : ℕ) (there : k < length c.records) where
    pub before : List (List ℕ)
    before = take k c.records

    pub this : List ℕ
    this = get_or c.records k []

    pub after : List (List ℕ)
    after = drop (suc k) c.records

    pub split-is : c.records ≡ before ++ this ∷ after
    unfolding before this after
    split-is = split_at c.records k [] there

    pub kept-parts : (all_of (kept c.relation) before ≡ true) × ((kept c.relation this ≡ true) × (all_of (kept c.relation) after ≡ true))
    kept-parts =
        all_middle (kept c.relation) before this after (subst (λ l. all_of (kept c.relation) l ≡ true) split-is all-kept)

    size_is : size_of c.relation ≡ length this
    size_is =
        let g = kept-parts.1.0 in
        layout-short c.relation (kept-short c.relation this g) ∙ sym (kept-long c.relation this g)

    place_is : place_of (store_of c) k ≡ 10 + length (joined before)
    unfolding store_of layout_of before
    place_is =
        ap (λ m. 10 + m)
        (ap (λ i. i * size_of c.relation) (sym (length-take-le k c.records (omega arith))) ∙
        sym (joined-size c.relation before kept-parts.0))

    b-split : b ≡ body (header c) (before ++ this ∷ after) (length b)
    b-split = b-is ∙ ap (λ l. body (header c) l (length b)) split-is

    split-inside : 10 + length (joined (before ++ this ∷ after)) ≤ length b
    split-inside = subst (λ l. 10 + length (joined l) ≤ length b) split-is inside_is

    -- the place of a record ends inside the buffer
    pub record-inside : place_of (store_of c) k + size_of c.relation ≤ length b
    record-inside =
        omega (arith, place_is, size_is, split-inside, length-middle (header c) (length-header c) before this after)

    -- record k stands there
    pub stands-there : take (size_of c.relation) (drop (place_of (store_of c) k) b) ≡ get_or c.records k []
    unfolding this
    stands-there =
        let z = joined after ++ zeros (length b - (10 + length (joined (before ++ this ∷ after)))) in
        ap₂ (λ i l. take (size_of c.relation) (drop i l)) place_is
        (b-split ∙ middle (header c) before this after (length b) ∙ append_assoc (header c ++ joined before) this z) ∙
        ap (take (size_of c.relation))
        (drop_at (header c ++ joined before) (this ++ z) (10 + length (joined before)) (front (header c) (length-header c) before)) ∙
        take_at this z (size_of c.relation) (sym size_is)

    pub bits_is : bits_at (store_of c) b (place_of (store_of c) k) ≡ missing_in c.relation this
    unfolding store_of layout_of
    bits_is =
        ap (λ p. ones_at b (p + 6) (missing_bytes c.relation)) place_is ∙
        ap (λ z. ones_at z (10 + length (joined before) + 6) (missing_bytes c.relation)) b-split ∙
        ones-middle (header c) (length-header c) before c.relation this after (length b) kept-parts.1.0

    pub sum-split : missing_count c ≡ sum_of (missing_in c.relation) before + (missing_in c.relation this + sum_of (missing_in c.relation) after)
    unfolding missing_count sum_of
    sum-split = ap (sum_of (missing_in c.relation)) split-is ∙ sum-append (missing_in c.relation) before (this ∷ after)

    pub bits_fewer : bits_at (store_of c) b (place_of (store_of c) k) ≤ (store_of c).missing
    unfolding store_of
    bits_fewer = omega (arith, bits_is, sum-split)

    erased-count : (store_of c).count - 1 ≡ length (before ++ after)
    unfolding store_of
    erased-count =
        omega (arith, length-append before after, ap length split-is, length-append before (this ∷ after))

    pub erased-bytes : erase_bytes (store_of c) b k ≡ image (changed c (erase k)) (length b)
    unfolding erase_bytes store_of layout_of before after
    erased-bytes =
        let p : ℕ = 10 + length (joined before) in
        let w-is : closed b (place_of (store_of c) k) (size_of c.relation) ≡ body (header c) (before ++ after) (length b) =
        ap₂ (λ i j. closed b i j) place_is size_is ∙ ap (λ z. closed z p (length this)) b-split ∙
        take-middle (header c) (length-header c) before this after (length b) split-inside in
        let missing-now : missing_count c - missing_in c.relation this ≡ sum_of (missing_in c.relation) (before ++ after) =
        omega (arith, sum-split, sum-append (missing_in c.relation) before after) in
        rw (bits_is)
        (recount c (before ++ after) (length b) (length c.records - 1) (missing_count c - missing_in c.relation this)
        (closed b (place_of (store_of c) k) (size_of c.relation)) w-is erased-count missing-now)

  -- a record at the end
  module _ (t : List ℕ) (laid : Laid c.relation t) (x : List ℕ) (bytes : Octets x) (one : one_record c.relation x ≡ true) where
    one-long : length x ≡ record_length c.relation
    unfolding one_record
    one-long = eqb-true (length x) (record_length c.relation) (both_right (proper_record c.relation x 0) _ one)

    one-short : record_length c.relation ≤ 4096
    unfolding one_record
    one-short = proper-short c.relation x 0 (both_left (proper_record c.relation x 0) _ one)

    y-long : length (mark c.relation x) ≡ length x
    y-long = mark-length c.relation x (field_count c.relation)

    y_kept : kept c.relation (mark c.relation x) ≡ true
    y_kept = mark-kept c.relation x bytes one

    written_is : (p : ℕ) → p + length x ≤ length b → written (layout_of c.relation) t b p x ≡ over b p (mark c.relation x)
    unfolding written layout_of
    written_is p e = marked-over c.relation t one-short laid x one-long b p (field_count c.relation) e (omega arith)

    pub added-bytes : used c + length x ≤ length b → add_bytes (store_of c) t b x ≡ image (changed c (add x)) (length b)
    unfolding add_bytes store_of layout_of used missing_count
    added-bytes fits =
        let y : List ℕ = mark c.relation x in
        let p : ℕ = 10 + length (joined c.records) in
        let w : List ℕ = written (layout_of c.relation) t b p x in
        let w-is : w ≡ body (header c) (c.records ++ y ∷ []) (length b) =
        written_is p fits ∙ ap (λ z. over z p y) b-is ∙
        put_last (header c) (length-header c) c.records y (length b) (omega (arith, y-long, fits)) in
        let bits : ones_at w (p + 6) (missing_bytes c.relation) ≡ missing_in c.relation y =
        ap (λ z. ones_at z (p + 6) (missing_bytes c.relation)) w-is ∙
        ones-middle (header c) (length-header c) c.records c.relation y [] (length b) y_kept in
        rw (end_is, bits)
        (recount c (c.records ++ y ∷ []) (length b) (length c.records + 1) (sum_of (missing_in c.relation) c.records + missing_in c.relation y) w w-is
        (sym (length-append c.records (y ∷ [])))
        (sym (sum-append (missing_in c.relation) c.records (y ∷ []) ∙ sum_one (missing_in c.relation) (sum_of (missing_in c.relation) c.records) y)))

    module _ (k : ℕ) (there : k < length c.records) where
      replaced-list : set c.records k (mark c.relation x) ≡ before k there ++ mark c.relation x ∷ after k there
      unfolding before after
      replaced-list = set_split c.records k (mark c.relation x) there

      same-long : length (this k there) ≡ length (mark c.relation x)
      same-long = kept-long c.relation (this k there) (kept-parts k there).1.0 ∙ sym (y-long ∙ one-long)

      replaced-count : length c.records ≡ length (before k there ++ mark c.relation x ∷ after k there)
      replaced-count =
          omega (
            arith,
            ap length (split-is k there),
            length-append (before k there) (this k there ∷ after k there),
            length-append (before k there) (mark c.relation x ∷ after k there),
          )

      replaced-sum : missing_count c - missing_in c.relation (this k there) + missing_in c.relation (mark c.relation x) ≡
          sum_of (missing_in c.relation) (before k there ++ mark c.relation x ∷ after k there)
      unfolding sum_of
      replaced-sum =
          omega (arith, sum-split k there, sum-append (missing_in c.relation) (before k there) (mark c.relation x ∷ after k there))

      pub replaced-bytes : replace_bytes (store_of c) t b k x ≡ image (changed c (replace k x)) (length b)
      unfolding replace_bytes store_of layout_of
      replaced-bytes =
          let y : List ℕ = mark c.relation x in
          let p : ℕ = 10 + length (joined (before k there)) in
          let w : List ℕ = written (layout_of c.relation) t b (place_of (store_of c) k) x in
          let fits : place_of (store_of c) k + length x ≤ length b =
          omega (arith, record-inside k there, size_is k there, same-long, y-long) in
          let w-is : w ≡ body (header c) (before k there ++ y ∷ after k there) (length b) =
          written_is (place_of (store_of c) k) fits ∙ ap₂ (λ i z. over z i y) (place_is k there) (b-split k there) ∙
          put-middle (header c) (length-header c) (before k there) (this k there) y (after k there) (length b) same-long in
          let bits : ones_at w (place_of (store_of c) k + 6) (missing_bytes c.relation) ≡ missing_in c.relation y =
          ap₂ (λ i z. ones_at z (i + 6) (missing_bytes c.relation)) (place_is k there) w-is ∙
          ones-middle (header c) (length-header c) (before k there) c.relation y (after k there) (length b) y_kept in
          rw (bits, bits_is k there, replaced-list)
          (recount c (before k there ++ y ∷ after k there) (length b) (length c.records)
          (missing_count c - missing_in c.relation (this k there) + missing_in c.relation y) w w-is replaced-count replaced-sum)
