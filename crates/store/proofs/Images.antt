-- What a buffer holds and the bytes of what it holds: a well-formed buffer is the image of its list, and the image of a list holds it.
use Prim.Native.Nat.{ℕ, zero, suc, ◌+◌, ◌*◌, ◌-◌, ◌/◌, ◌%◌, ◌≤◌}
use mathlib.Core.Path.{◌≡◌, refl, sym, ap, ap₂, ◌∙◌}
use mathlib.Core.Bool.{Bool, true, ◌&&◌}
use mathlib.Core.List.{List, [], ◌∷◌, ◌++◌, append_assoc}
use mathlib.Core.Option.{some}
use native.Mathlib.Nat.{suc-mul, add_comm}
use native.Mathlib.Omega.{arith}
use lib.Dec.{eqb, leb}
use lib.ListN.{length, take, drop, length-append, length-drop, length-replicate, take-append-drop}
use lib.Seq.{drop-cons, drop-drop, take_at, drop_at}
use borrow.Author.Tests.{le-leb, leb-true, eq-eqb, eqb-true}
use Rattle.wire.specs.Words.{byte_at, word_at, word_bytes}
use Rattle.wire.specs.Lists.{all_of}
use Rattle.dictionary.specs.Dictionary.{Relation, kind_at}
use Rattle.dictionary.specs.Naming.{numbered, relation_of}
use Rattle.dictionary.proofs.Tests.{both_left, both_right}
use Rattle.records.specs.Record.{record_length}
use Rattle.store.specs.Store.{Contents, kept, missing_count, joined, header, used, image, parts, listed, well_formed, contents}
use Rattle.store.specs.Listing.{Octets}
use Rattle.store.specs.Internal.Layouts.{size_of}
use Rattle.store.proofs.Pastes.{zeros}
use Rattle.store.proofs.Records.{kept-long, kept-short, layout-short}

-- ---- kept records

all_first : {A : Type 0} (t : A → Bool) (x : A) (l : List A) → all_of t (x ∷ l) ≡ true → t x ≡ true
unfolding all_of
all_first t x l e = both_left (t x) (all_of t l) e

all_rest : {A : Type 0} (t : A → Bool) (x : A) (l : List A) → all_of t (x ∷ l) ≡ true → all_of t l ≡ true
unfolding all_of
all_rest t x l e = both_right (t x) (all_of t l) e

pub all_cons : {A : Type 0} (t : A → Bool) (x : A) (l : List A) → t x ≡ true → all_of t l ≡ true → all_of t (x ∷ l) ≡ true
unfolding all_of
all_cons t x l e f = rw (e, f)

pub all-parts : {A : Type 0} (t : A → Bool) (k l : List A) → all_of t (k ++ l) ≡ true → (all_of t k ≡ true) × (all_of t l ≡ true)
unfolding all_of
all-parts t [] l e = (refl, e)
all-parts t (x ∷ k) l e =
    let rest = all-parts t k l (all_rest t x (k ++ l) e) in (rw (all_first t x (k ++ l) e) rest.0, rest.1)

pub all-joined : {A : Type 0} (t : A → Bool) (k l : List A) → all_of t k ≡ true → all_of t l ≡ true → all_of t (k ++ l) ≡ true
unfolding all_of
all-joined t [] l e f = f
all-joined t (x ∷ k) l e f = rw (all_first t x k e) (all-joined t k l (all_rest t x k e) f)

pub all_middle : {A : Type 0} (t : A → Bool) (k : List A) (x : A) (l : List A) → all_of t (k ++ x ∷ l) ≡ true →
    (all_of t k ≡ true) × ((t x ≡ true) × (all_of t l ≡ true))
all_middle t k x l e =
    let two = all-parts t k (x ∷ l) e in (two.0, (all_first t x l two.1, all_rest t x l two.1))

module _ (r : Relation) where
  pub joined-long : (l : List (List ℕ)) → all_of (kept r) l ≡ true → length (joined l) ≡ length l * record_length r
  unfolding joined
  joined-long [] e = omega arith
  joined-long (x ∷ l) e =
      let one = kept-long r x (all_first (kept r) x l e) in
      length-append x (joined l) ∙ rw (one, joined-long l (all_rest (kept r) x l e))
      (add_comm (record_length r) (length l * record_length r) ∙ sym (suc-mul (length l) (record_length r)))

  -- the same by the layout's length
  pub joined-size : (l : List (List ℕ)) → all_of (kept r) l ≡ true → length (joined l) ≡ length l * size_of r
  unfolding joined
  joined-size [] e = omega arith
  joined-size (x ∷ l) e =
      joined-long (x ∷ l) e ∙ ap (λ n. length (x ∷ l) * n) (sym (layout-short r (kept-short r x (all_first (kept r) x l e))))

  pub parts-joined : (l : List (List ℕ)) (z : List ℕ) → all_of (kept r) l ≡ true → parts (record_length r) (length l) (joined l ++ z) ≡ l
  unfolding parts joined
  parts-joined [] z e = refl
  parts-joined (x ∷ l) z e =
      let one = kept-long r x (all_first (kept r) x l e) in
      rw (append_assoc x (joined l) z, take_at x (joined l ++ z) (record_length r) one, drop_at x (joined l ++ z) (record_length r) one)
      (ap (λ k. x ∷ k) (parts-joined l z (all_rest (kept r) x l e)))

  pub length-parts : (n : ℕ) (s : List ℕ) → length (parts (record_length r) n s) ≡ n
  unfolding parts
  length-parts zero s = refl
  length-parts (suc n) s = ap suc (length-parts n (drop (record_length r) s))

  pub parts-back : (n : ℕ) (s : List ℕ) → all_of (kept r) (parts (record_length r) n s) ≡ true →
      s ≡ joined (parts (record_length r) n s) ++ drop (length (joined (parts (record_length r) n s))) s
  unfolding parts joined
  parts-back zero s e = refl
  parts-back (suc n) s e =
      let x = take (record_length r) s in
      let rest = drop (record_length r) s in
      let one : length x ≡ record_length r = kept-long r x (all_first (kept r) x (parts (record_length r) n rest) e) in
      let tail = parts-back n rest (all_rest (kept r) x (parts (record_length r) n rest) e) in
      let m : ℕ = length (joined (parts (record_length r) n rest)) in
      let far : drop (length (x ++ joined (parts (record_length r) n rest))) s ≡ drop m rest =
      ap (λ k. drop k s) (length-append x (joined (parts (record_length r) n rest)) ∙ ap (λ k. k + m) one) ∙ sym (drop-drop m (record_length r) s) in
      rw (far, append_assoc x (joined (parts (record_length r) n rest)) (drop m rest), ← tail) (sym (take-append-drop (record_length r) s))

-- ---- words

pub word_back : (n : ℕ) → n % 256 + 256 * (n / 256) ≡ n
word_back n = omega arith

word-front : (s : List ℕ) (p : ℕ) → Octets s → p + 2 ≤ length s → drop p s ≡ word_bytes (word_at s p) ++ drop (p + 2) s
word-front s p o h =
    let e : suc p ≡ p + 1 = omega arith in
    let f : suc (p + 1) ≡ p + 2 = omega arith in
    let low : byte_at s p ≡ word_at s p % 256 = omega (arith, o p) in
    let high : byte_at s (p + 1) ≡ word_at s p / 256 = omega (arith, o p) in
    drop-cons s p 0 (omega arith) ∙ ap (λ k. byte_at s p ∷ drop k s) e ∙ ap (λ k. byte_at s p ∷ k) (drop-cons s (p + 1) 0 (omega arith)) ∙
    ap (λ k. byte_at s p ∷ byte_at s (p + 1) ∷ drop k s) f ∙ ap₂ (λ a b. a ∷ b ∷ drop (p + 2) s) low high

zeros-are : (l : List ℕ) → all_of (λ x. eqb x 0) l ≡ true → l ≡ zeros (length l)
zeros-are [] e = refl
zeros-are (x ∷ l) e =
    ap₂ (λ a b. a ∷ b) (eqb-true x 0 (all_first (λ y. eqb y 0) x l e)) (zeros-are l (all_rest (λ y. eqb y 0) x l e))

pub zeros-clear : (n : ℕ) → all_of (λ x. eqb x 0) (zeros n) ≡ true
unfolding all_of
zeros-clear zero = refl
zeros-clear (suc n) = zeros-clear n

-- ---- a well-formed buffer

pub record Formed (c : Contents) (b : List ℕ) : Type 0 where
  pub short : length b ≤ 65535
  pub ten : word_at b 0 ≡ 10
  pub eight : word_at b 2 ≡ 8
  pub all-kept : all_of (kept c.relation) c.records ≡ true
  pub inside : used c ≤ length b
  pub missing-is : word_at b 8 ≡ missing_count c
  pub clear : all_of (λ x. eqb x 0) (drop (used c) b) ≡ true

module _ (a b c d e f g : Bool) (all : a && b && c && d && e && f && g ≡ true) where
  seven : (a ≡ true) × ((b ≡ true) × ((c ≡ true) × ((d ≡ true) × ((e ≡ true) × ((f ≡ true) × (g ≡ true))))))
  seven =
      let h6 = both_left (a && b && c && d && e && f) g all in
      let h5 = both_left (a && b && c && d && e) f h6 in
      let h4 = both_left (a && b && c && d) e h5 in
      let h3 = both_left (a && b && c) d h4 in
      let h2 = both_left (a && b) c h3 in (
        both_left a b h2,
        (
          both_right a b h2,
          (
            both_right (a && b) c h3,
            (
              both_right (a && b && c) d h4,
              (
                both_right (a && b && c && d) e h5,
                (both_right (a && b && c && d && e) f h6, both_right (a && b && c && d && e && f) g all),
              ),
            ),
          ),
        ),
      )

pub formed : (c : Contents) (b : List ℕ) → well_formed c b ≡ true → Formed c b
unfolding well_formed
formed c b e =
    let s =
    seven (leb (length b) 65535) (eqb (word_at b 0) 10) (eqb (kind_at b 0) 8) (all_of (kept c.relation) c.records) (leb (used c) (length b))
    (eqb (word_at b 8) (missing_count c)) (all_of (λ x. eqb x 0) (drop (used c) b)) e in
    record {
      short = leb-true (length b) 65535 s.0;
      ten = eqb-true (word_at b 0) 10 s.1.0;
      eight = eqb-true (word_at b 2) 8 s.1.1.0;
      all-kept = s.1.1.1.0;
      inside = leb-true (used c) (length b) s.1.1.1.1.0;
      missing-is = eqb-true (word_at b 8) (missing_count c) s.1.1.1.1.1.0;
      clear = s.1.1.1.1.1.1;
    }

pub well : (c : Contents) (b : List ℕ) → Formed c b → well_formed c b ≡ true
unfolding well_formed
well c b k =
    rw (
      le-leb (length b) 65535 k.short,
      k.ten,
      k.eight,
      k.all-kept,
      le-leb (used c) (length b) k.inside,
      k.missing-is,
      eq-eqb (missing_count c) (missing_count c) refl,
      k.clear,
    )

-- ---- it is the image of its list

-- the header by its five words
abbrev pub words : ℕ → ℕ → ℕ → ℕ → ℕ → List ℕ
words a b c d e = word_bytes a ++ word_bytes b ++ word_bytes c ++ word_bytes d ++ word_bytes e

pub header-words : (c : Contents) → header c ≡ words 10 8 c.relation.id (length c.records) (missing_count c)
unfolding header
header-words c = refl

five-words : (b : List ℕ) → Octets b → 10 ≤ length b →
    b ≡ words (word_at b 0) (word_at b 2) (word_at b 4) (word_at b 6) (word_at b 8) ++ drop 10 b
five-words b o h =
    word-front b 0 o (omega arith) ∙ ap (λ l. word_bytes (word_at b 0) ++ l) (word-front b 2 o (omega arith)) ∙
    ap (λ l. word_bytes (word_at b 0) ++ (word_bytes (word_at b 2) ++ l)) (word-front b 4 o (omega arith)) ∙
    ap (λ l. word_bytes (word_at b 0) ++ (word_bytes (word_at b 2) ++ (word_bytes (word_at b 4) ++ l))) (word-front b 6 o (omega arith)) ∙
    ap (λ l. word_bytes (word_at b 0) ++ (word_bytes (word_at b 2) ++ (word_bytes (word_at b 4) ++ (word_bytes (word_at b 6) ++ l))))
    (word-front b 8 o (omega arith))

same-words : (a b c d e a' b' c' d' e' : ℕ) → a ≡ a' → b ≡ b' → c ≡ c' → d ≡ d' → e ≡ e' → words a b c d e ≡ words a' b' c' d' e'
same-words a b c d e a' b' c' d' e' p q r s t i = words (p i) (q i) (r i) (s i) (t i)

pub listed-count : (r : Relation) (b : List ℕ) → length (listed r b).records ≡ word_at b 6
unfolding listed
listed-count r b = length-parts r (word_at b 6) (drop 10 b)

module _ (r : Relation) (b : List ℕ) (o : Octets b) (known : r.id ≡ word_at b 4) (k : Formed (listed r b) b) where
  ten-long : 10 ≤ length b
  unfolding used
  ten-long = omega (arith, k.inside)

  head-is : b ≡ header (listed r b) ++ drop 10 b
  unfolding listed
  head-is =
      five-words b o ten-long ∙
      ap (λ l. l ++ drop 10 b)
      (same-words (word_at b 0) (word_at b 2) (word_at b 4) (word_at b 6) (word_at b 8) 10 8 r.id (length (listed r b).records) (missing_count (listed r b))
      k.ten k.eight (sym known) (sym (listed-count r b)) k.missing-is ∙ sym (header-words (listed r b)))

  tail-is : drop 10 b ≡ joined (listed r b).records ++ zeros (length b - used (listed r b))
  unfolding listed used
  tail-is =
      let l = parts (record_length r) (word_at b 6) (drop 10 b) in
      let z : drop (length (joined l)) (drop 10 b) ≡ zeros (length b - (10 + length (joined l))) =
      drop-drop (length (joined l)) 10 b ∙ zeros-are (drop (10 + length (joined l)) b) k.clear ∙ ap zeros (length-drop (10 + length (joined l)) b) in
      parts-back r (word_at b 6) (drop 10 b) k.all-kept ∙ ap (λ s. joined l ++ s) z

  pub image-of : b ≡ image (listed r b) (length b)
  unfolding image
  image-of =
      head-is ∙ ap (λ l. header (listed r b) ++ l) tail-is ∙
      sym (append_assoc (header (listed r b)) (joined (listed r b).records) (zeros (length b - used (listed r b))))

-- ---- the image of a list holds it

pub record Good (rs : List Relation) (c : Contents) (n : ℕ) : Type 0 where
  pub known : relation_of rs (numbered c.relation.id) ≡ some c.relation
  pub good-records : all_of (kept c.relation) c.records ≡ true
  pub fits : used c ≤ n
  pub at_most : n ≤ 65535

length-header : (c : Contents) → length (header c) ≡ 10
unfolding header
length-header c = refl

pub length-image : (c : Contents) (n : ℕ) → used c ≤ n → length (image c n) ≡ n
unfolding image used
length-image c n h =
    length-append (header c ++ joined c.records) (zeros (n - (10 + length (joined c.records)))) ∙
    rw (length-append (header c) (joined c.records), length-header c, length-replicate {A = ℕ} (n - (10 + length (joined c.records))) 0) (omega arith)

-- the header's words, and what follows it
module _ (c : Contents) (n : ℕ) where
  word-0 : word_at (image c n) 0 ≡ 10
  unfolding image header
  word-0 = refl

  word-2 : word_at (image c n) 2 ≡ 8
  unfolding image header
  word-2 = refl

  word-4 : word_at (image c n) 4 ≡ c.relation.id
  unfolding image header
  word-4 = word_back c.relation.id

  pub word-6 : word_at (image c n) 6 ≡ length c.records
  unfolding image header
  word-6 = word_back (length c.records)

  pub word-8 : word_at (image c n) 8 ≡ missing_count c
  unfolding image header
  word-8 = word_back (missing_count c)

  after-header : drop 10 (image c n) ≡ joined c.records ++ zeros (n - used c)
  unfolding image header
  after-header = refl

  after-records : drop (used c) (image c n) ≡ zeros (n - used c)
  unfolding image used
  after-records =
      drop_at (header c ++ joined c.records) (zeros (n - (10 + length (joined c.records)))) (10 + length (joined c.records))
      (length-append (header c) (joined c.records) ∙ ap (λ k. k + length (joined c.records)) (length-header c))

module _ (rs : List Relation) (c : Contents) (n : ℕ) (g : Good rs c n) where
  listed-image : listed c.relation (image c n) ≡ c
  unfolding listed
  listed-image =
      let l : parts (record_length c.relation) (word_at (image c n) 6) (drop 10 (image c n)) ≡ c.records =
      rw (word-6 c n, after-header c n) (parts-joined c.relation c.records (zeros (n - used c)) g.good-records) in
      λ i. record { relation = c.relation; records = l i }

  image-formed : Formed c (image c n)
  image-formed =
      record {
        short = omega (arith, length-image c n g.fits, g.at_most);
        ten = word-0 c n;
        eight = word-2 c n;
        all-kept = g.good-records;
        inside = omega (arith, length-image c n g.fits, g.fits);
        missing-is = word-8 c n;
        clear = rw (after-records c n) (zeros-clear (n - used c));
      }

  pub contents-image : contents rs (image c n) ≡ some c
  unfolding contents
  contents-image = rw (word-4 c n, g.known, listed-image, well c (image c n) image-formed)
