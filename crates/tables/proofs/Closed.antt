-- Contexts that were opened: their rows get a scope at the end.
use Prim.Native.Nat.{ℕ, zero, suc, ◌+◌, ◌-◌, ◌*◌, ◌<◌, ◌≤◌}
use mathlib.Core.Path.{◌≡◌, refl, sym, ap, ap₂, ◌∙◌, subst}
use mathlib.Core.Bool.{Bool, true, false, cond, ◌&&◌}
use mathlib.Core.List.{List, [], ◌∷◌, ◌++◌}
use native.Mathlib.Numerals.{add-two, add-three, sub-one}
use native.Mathlib.Omega.{arith}
use lib.Dec.{leb}
use borrow.Author.Tests.{le-leb, leb-false}
use lib.ListN.{length, set}
use lib.Seq.{sets, set-set}
use Rattle.std.specs.Prelude.{Ok}
use Rattle.wire.specs.Codes as blr
use Rattle.wire.specs.Limits.{max_request_bytes, max_contexts, context_row_numbers}
use Rattle.dictionary.specs.Dictionary.{Relation}
use Rattle.grammar.specs.declared.Cursor.{Cursor}
use Rattle.grammar.specs.Tree.{Stream, Heading, loop, modify, handler, receive, send, store, label}
use Rattle.grammar.specs.Bytes.{stream_bytes, heading_bytes}
use Rattle.grammar.specs.Environment.{Context, Scope, stream_context, modify_context}
use Rattle.grammar.specs.Sizes.{heading_contexts}
use Rattle.grammar.specs.Rows.{relation_id, context_row, stream_rows, heading_rows}
use Rattle.tables.specs.Tables.{open_row}
use Rattle.tables.specs.Written.{in_table, closed, closed_after}
use Rattle.tables.proofs.Laid.{set-sets}
use Rattle.tables.proofs.Rows.{in-table}

-- ---- a row at a time

pub closed_none : (ct : List ℕ) (row n start end : ℕ) → n ≡ 0 → ct ≡ closed ct row n start end
unfolding closed
closed_none ct row n start end z = rw z

pub closed_on : (ct : List ℕ) (row n start end : ℕ) → (n ≡ 0 → ⊥) →
    closed ct row n start end ≡
    closed (set (set ct (row * 6 + 2) (in_table start)) (row * 6 + 3) (in_table end)) (row + 1) (n - 1) start end
unfolding closed
closed_on ct row zero start end z = absurd (z refl)
closed_on ct row (suc n) start end z = rw (sub-one (suc n))

-- the next row is closed
pub closed_next : (ct ct' : List ℕ) (row opened start end : ℕ) → row < opened →
    ct' ≡ set (set ct (row * 6 + 2) (in_table start)) (row * 6 + 3) (in_table end) →
    closed ct' (row + 1) (opened - (row + 1)) start end ≡ closed ct row (opened - row) start end
closed_next ct ct' row opened start end h e =
    let one : opened - (row + 1) ≡ opened - row - 1 = omega arith in
    rw (e, one) (sym (closed_on ct row (opened - row) start end (λ z. absurd (omega (arith, z)))))

-- all of them are, within the greatest count
pub closed_all : (ct ct' : List ℕ) (row opened last start end : ℕ) → opened ≤ max_contexts → opened ≤ last →
    closed ct' last (opened - last) start end ≡ closed ct row (opened - row) start end →
    ct' ≡ cond (leb row opened && leb opened max_contexts) (closed ct row (opened - row) start end) ct
closed_all ct ct' row opened last start end few past e =
    rw (le-leb opened max_contexts few)
    (closed_none ct' last (opened - last) start end (omega arith) ∙ e ∙ by (leb row opened) refl)
  where
    by : (b : Bool) → leb row opened ≡ b → closed ct row (opened - row) start end ≡ cond (b && true) (closed ct row (opened - row) start end) ct
    by true h = refl
    by false h = sym (closed_none ct row (opened - row) start end (omega (arith, leb-false row opened h)))

-- ---- rows, with rows after them

-- the first number of a run, set again
set_first : (rest l : List ℕ) (i a x : ℕ) → set (sets l i (a ∷ rest)) i x ≡ sets l i (x ∷ rest)
set_first rest l i a x = set-sets rest (set l i a) i (suc i) x (omega arith) ∙ ap (λ k. sets k (suc i) rest) (set-set l i a x)

-- a row of a context gets its scope
close_row : (l rest : List ℕ) (i a b c d start end : ℕ) →
    set (set (sets l i (a ∷ b ∷ c ∷ d ∷ rest)) (i + 2) start) (i + 3) end ≡ sets l i (a ∷ b ∷ start ∷ end ∷ rest)
close_row l rest i a b c d start end =
    rw (add-two, add-three)
    (ap (λ k. set k (suc (suc (suc i))) end) (set_first (d ∷ rest) (set (set l i a) (suc i) b) (suc (suc i)) c start)
    ∙ set_first rest (set (set (set l i a) (suc i) b) (suc (suc i)) start) (suc (suc (suc i))) d end)

next_row : (row : ℕ) → (row + 1) * 6 ≡ suc (suc (suc (suc (suc (suc (row * 6))))))
next_row row = omega arith

-- contexts, each with its place
abbrev pub Placed : Type 0
Placed = Context × ℕ

-- the rows of contexts that have one scope
abbrev pub placed_rows : List Placed → ℕ → ℕ → List ℕ
placed_rows [] start end = []
placed_rows (x ∷ xs) start end = context_row x.0 x.1 start end ++ placed_rows xs start end

rows-closed : (xs : List Placed) (l rest : List ℕ) (row start end : ℕ) → start ≤ max_request_bytes → end ≤ max_request_bytes →
    closed (sets l (row * 6) (placed_rows xs 0 0 ++ rest)) row (length xs) start end ≡
    sets l (row * 6) (placed_rows xs start end ++ rest)
unfolding closed
rows-closed [] l rest row start end h k = refl
rows-closed (x ∷ xs) l rest row start end h k =
    let opened = sets l (row * 6) (placed_rows (x ∷ xs) 0 0 ++ rest) in
    let own = sets l (row * 6) (context_row x.0 x.1 start end) in
    ap₂ (λ a b. closed (set (set opened (row * 6 + 2) a) (row * 6 + 3) b) (row + 1) (length xs) start end)
    (in-table start h) (in-table end k)
    ∙ ap (λ z. closed z (row + 1) (length xs) start end) (close_row l (relation_id x.0.relation ∷ x.0.opener ∷ (placed_rows xs 0 0 ++ rest)) (row * 6) _ _ 0 0 start end)
    ∙ subst
    (λ j.
    closed (sets own j (placed_rows xs 0 0 ++ rest)) (row + 1) (length xs) start end ≡ sets own j (placed_rows xs start end ++ rest))
    (next_row row) (rows-closed xs own rest (row + 1) start end h k)

-- ---- what was opened from a row on, up to a cursor

-- the streams of an rse
abbrev streams_placed : List Relation → ℕ → List Stream → ℕ → List Placed
streams_placed rs o [] p = []
streams_placed rs o (s ∷ ss) p = (stream_context rs o s, p) ∷ streams_placed rs o ss (p + length (stream_bytes s))

streams-counted : (rs : List Relation) (o : ℕ) (ss : List Stream) (p : ℕ) → length (streams_placed rs o ss p) ≡ length ss
streams-counted rs o [] p = refl
streams-counted rs o (s ∷ ss) p = ap suc (streams-counted rs o ss (p + length (stream_bytes s)))

streams-placed : (rs : List Relation) (o : ℕ) (ss : List Stream) (p start end : ℕ) →
    stream_rows rs o ss p start end ≡ placed_rows (streams_placed rs o ss p) start end
unfolding stream_rows
streams-placed rs o [] p start end = refl
streams-placed rs o (s ∷ ss) p start end =
    ap (λ z. context_row (stream_context rs o s) p start end ++ z) (streams-placed rs o ss (p + length (stream_bytes s)) start end)

module _ (l rest : List ℕ) (row : ℕ) (c end : Cursor) (here : c.at ≤ max_request_bytes) (there : end.at ≤ max_request_bytes)
    (few : c.contexts ≤ max_contexts) where
  -- contexts that have one scope
  pub contexts-closed : (xs : List Placed) → c.contexts ≡ row + length xs →
      closed_after (sets l (row * context_row_numbers) (placed_rows xs 0 0 ++ rest)) row c (Ok end) ≡
      sets l (row * context_row_numbers) (placed_rows xs c.at end.at ++ rest)
  contexts-closed xs e =
      let more : c.contexts - row ≡ length xs = omega arith in
      let some : row ≤ c.contexts = omega arith in
      rw (le-leb row c.contexts some, le-leb c.contexts max_contexts few, more)
      (rows-closed xs l rest row c.at end.at here there)

  -- the streams of an rse, which a code opens
  pub streams-closed : (rs : List Relation) (o : ℕ) (ss : List Stream) (p : ℕ) → c.contexts ≡ row + length ss →
      closed_after (sets l (row * context_row_numbers) (stream_rows rs o ss p 0 0 ++ rest)) row c (Ok end) ≡
      sets l (row * context_row_numbers) (stream_rows rs o ss p c.at end.at ++ rest)
  streams-closed rs o ss p e =
      rw (streams-placed rs o ss p 0 0, streams-placed rs o ss p c.at end.at)
      (contexts-closed (streams_placed rs o ss p) (e ∙ ap (λ n. row + n) (sym (streams-counted rs o ss p))))

  -- the context of a heading
  pub heading-closed : (rs : List Relation) (sc : Scope) (h : Heading) (p : ℕ) → c.at ≡ p + length (heading_bytes h) →
      c.contexts ≡ row + heading_contexts h →
      closed_after (sets l (row * context_row_numbers) (open_row rs sc h p ++ rest)) row c (Ok end) ≡
      sets l (row * context_row_numbers) (heading_rows rs sc h p end.at ++ rest)
  unfolding heading_rows heading_contexts heading_bytes
  heading-closed rs sc loop p b e = contexts-closed [] e
  heading-closed rs sc (modify from to) p b e = contexts-closed ((modify_context sc from to, p) ∷ []) e ∙ rw b
  heading-closed rs sc handler p b e = contexts-closed [] e
  heading-closed rs sc (receive m) p b e = contexts-closed [] e
  heading-closed rs sc (send m) p b e = contexts-closed [] e
  heading-closed rs sc (store s) p b e =
      let shift : c.at ≡ p + 1 + length (stream_bytes s) = omega arith in
      contexts-closed ((stream_context rs blr.store s, p + 1) ∷ []) e ∙ rw shift
  heading-closed rs sc (label n) p b e = contexts-closed [] e
