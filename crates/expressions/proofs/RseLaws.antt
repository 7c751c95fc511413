-- An rse of one stream: its stream, its clauses, and the scope of its context.
use Prim.Native.Nat.{ℕ, ◌+◌, ◌*◌, ◌≤◌}
use mathlib.Core.Path.{◌≡◌, refl, sym, ap, ◌∙◌}
use mathlib.Core.List.{List, ◌++◌}
use native.Mathlib.Omega.{arith}
use lib.ListN.{length, length-append}
use lib.Seq.{sets}
use Rattle.std.specs.Prelude.{Result, Ok, Err}
use Rattle.std.specs.Prelude as std
use Rattle.wire.specs.Limits.{context_row_numbers}
use Rattle.wire.specs.declared.refused.Refused.{Refused}
use Rattle.grammar.specs.declared.Cursor.{Cursor}
use Rattle.grammar.specs.declared.Refusal.{Refusal}
use Rattle.grammar.specs.Tree.{Stream, Clauses, Rse, rse}
use Rattle.grammar.specs.Bytes.{head_bytes, clauses_bytes, rse_bytes}
use Rattle.grammar.specs.Environment.{Environment, Scope, under_streams}
use Rattle.grammar.specs.Rows.{stream_rows, clauses_rows, rse_rows}
use Rattle.grammar.specs.Reader.{Read, read, refused}
use Rattle.grammar.specs.Rses.{rse_head}
use Rattle.grammar.specs.Values.{one_stream_rse}
use Rattle.grammar.specs.Demands.{Octets}
use Rattle.grammar.proofs.StepLaws.{cursor-read, cursor-refused}
use Rattle.grammar.proofs.Went.{inside}
use Rattle.grammar.proofs.SoundRses.{head-sound}
use Rattle.grammar.proofs.RowCounts.{stream-rows}
use Rattle.scopes.specs.Scopes.{scope_of}
use Rattle.tables.specs.Tables.{Tables, contexts_alone}
use Rattle.tables.specs.Written.{closed_after}
use Rattle.tables.proofs.Closed.{streams-closed}
use Rattle.tables.proofs.Chains.{on-next, stopped, fill, stop}
use Rattle.openings.specs.Streams.{relations}
use Rattle.openings.specs.Openings.{Prepared, OpensHead}
use Rattle.expressions.specs.Promises.{Answer, PlaceAnswer, Ready, operands_at, RseRead, ClausesRead}
use Rattle.expressions.proofs.Parts.{rows-after}
use Rattle.expressions.proofs.ClauseLaws.{reads_clauses, reads-sound}
use Rattle.expressions.proofs.ReadyLaws.{ready-prepared, ready-opened}

-- ---- what was read

module _ (s : List ℕ) (e : Environment) (sc : Scope) (l o : ℕ) (c : Cursor) where
  abbrev pub reads_rse : Read Rse
  reads_rse = one_stream_rse (operands_at l e) e sc o s c

  pub rse-head-not : {n : Refusal} {i : ℕ} → rse_head 1 e.relations o sc s c ≡ refused n i → reads_rse ≡ refused n i
  unfolding one_stream_rse
  rse-head-not y = rw (one_stream_rse, y)

  module _ {ss : List Stream} {first : Cursor} (y : rse_head 1 e.relations o sc s c ≡ read ss first) where
    abbrev pub reads_below : Read Clauses
    reads_below = reads_clauses s e (under_streams e.relations o sc ss) l first

    pub rse-is : {cs : Clauses} {q : Cursor} → reads_below ≡ read cs q → reads_rse ≡ read (rse ss cs) q
    unfolding one_stream_rse
    rse-is z = rw (one_stream_rse, y, z)

    pub rse-not : {n : Refusal} {i : ℕ} → reads_below ≡ refused n i → reads_rse ≡ refused n i
    unfolding one_stream_rse
    rse-not z = rw (one_stream_rse, y, z)

-- its clauses, which were read up to a cursor
pub clauses-read : (s : List ℕ) {e : Environment} {sc : Scope} (l : ℕ) {c q : Cursor} {ct ct' : List ℕ} {b : PlaceAnswer} {such : std.Option ℕ}
    {G : Type 0} → ClausesRead l e sc s c ct ct' b → b ≡ Ok (such, q) →
    ((t : Clauses) → reads_clauses s e sc l c ≡ read t q →
    ct' ≡ sets ct (c.contexts * context_row_numbers) (clauses_rows e.relations sc t c.at) → G) → G
clauses-read s l w i g = on-next w.wrote i (λ t q z h j.
    g t (rw (ap (λ (z : std.Option ℕ × Cursor). z.1) h) z) (ap (λ (z : Tables). z.contexts) j))

-- ---- its head, which opened a context

-- the streams were read up to a cursor: their rows have no scope yet, and they are in scope
pub record HeadOpened (s d scope scope' : List ℕ) (e : Environment) (l o : ℕ) (c first : Cursor) (ss : List Stream) (ct ct₁ : List ℕ)
    : Type 0 where
  pub ready : Ready s d scope' first l
  pub below : scope_of d scope' ≡ under_streams e.relations o (scope_of d scope) ss
  pub filled : ct₁ ≡ sets ct (c.contexts * context_row_numbers) (stream_rows e.relations o ss (c.at + 2) 0 0)
  pub row : first.contexts * context_row_numbers ≡
      c.contexts * context_row_numbers + length (stream_rows e.relations o ss (c.at + 2) 0 0)
  pub counted : first.contexts ≡ c.contexts + length ss
  pub place : first.at ≡ c.at + length (head_bytes ss)

-- their scope is from the end of the head to a place, and other rows stand after theirs
pub rse-closed : {s d scope scope' : List ℕ} {e : Environment} {l o : ℕ} {c first : Cursor} {ss : List Stream} {ct ct₁ ct₂ ct₃ : List ℕ} →
    HeadOpened s d scope scope' e l o c first ss ct ct₁ → (rest : List ℕ) (end : Cursor) → end.at ≤ length s →
    ct₂ ≡ sets ct₁ (first.contexts * context_row_numbers) rest → ct₃ ≡ closed_after ct₂ c.contexts first (Ok end) →
    ct₃ ≡ sets ct (c.contexts * context_row_numbers) (stream_rows e.relations o ss (c.at + 2) first.at end.at ++ rest)
rse-closed {s} {d} {scope} {scope'} {e} {l} {o} {c} {first} {ss} {ct} {ct₁} {ct₂} {ct₃} h rest end within filled ce =
    let own = stream_rows e.relations o ss (c.at + 2) 0 0 in
    let whole : ct₂ ≡ sets ct (c.contexts * context_row_numbers) (own ++ rest) =
    rows-after own rest ct (c.contexts * context_row_numbers) h.filled h.row filled in
    ce ∙ rw whole (streams-closed ct rest c.contexts first end (omega (arith, h.ready.inside, h.ready.short))
    (omega (arith, within, h.ready.short)) h.ready.contexts_few e.relations o ss (c.at + 2) h.counted)

module _ (s d scope : List ℕ) (e : Environment) (known : e.relations ≡ relations d) (l o : ℕ) (c : Cursor)
    {ct ct₁ scope' : List ℕ} {a : Answer}
    (v : Prepared s d scope c → OpensHead o (rse_head 1 (relations d) o (scope_of d scope) s c) d c ct ct₁ scope scope' a) where
  abbrev heading : Read (List Stream)
  heading = rse_head 1 e.relations o (scope_of d scope) s c

  opens : Ready s d scope c (l + 1) → OpensHead o heading d c ct ct₁ scope scope' a
  opens g = rw known (v (ready-prepared g))

  pub head-stopped : {y : Refused Refusal} → a ≡ Err y → Ready s d scope c (l + 1) → heading ≡ refused y.refusal y.place
  head-stopped j g = cursor-refused heading (sym j ∙ (opens g).answer)

  -- by its streams
  pub head_read : Octets s → {first : Cursor} → a ≡ Ok first → Ready s d scope c (l + 1) → {G : Type 0} →
      ((ss : List Stream) → heading ≡ read ss first → HeadOpened s d scope scope' e l o c first ss ct ct₁ → G) → G
  head_read bytes {first} j g next =
      let u = cursor-read heading (sym j ∙ (opens g).answer) in next u.0 u.1 (opened u.0 u.1)
    where
      opened : (ss : List Stream) → heading ≡ read ss first → HeadOpened s d scope scope' e l o c first ss ct ct₁
      opened ss y =
          let w = opens g in
          let i = head-sound s bytes e.relations 1 o (scope_of d scope) c ss first y in
          record {
            ready = ready-opened g w y i.went i.few (omega arith);
            below = rw y at w.scope_below ∙ rw known;
            filled = rw y at w.contexts_filled ∙ rw known;
            row = omega (arith, i.went.declared, stream-rows e.relations o ss (c.at + 2) 0 0);
            counted = i.went.declared;
            place = i.went.place;
          }

  -- ---- the whole, whose scope ends with it

  pub rse-stopped : {y : Refused Refusal} → a ≡ Err y → Ready s d scope c (l + 1) → RseRead l e (scope_of d scope) o s c ct ct₁ (Err y)
  rse-stopped j g = stop (rse-head-not s e (scope_of d scope) l o c (head-stopped j g))

  module _ (bytes : Octets s) {first : Cursor} {ct₂ : List ℕ} {b : PlaceAnswer} (j : a ≡ Ok first)
      (w₁ : Ready s d scope' first l → ClausesRead l e (scope_of d scope') s first ct₁ ct₂ b) where
    pub rse-clauses-stopped : {y : Refused Refusal} → b ≡ Err y → Ready s d scope c (l + 1) →
        RseRead l e (scope_of d scope) o s c ct ct₂ (Err y)
    rse-clauses-stopped y₁ g = head_read bytes j g (λ ss y h.
        stop (rse-not s e (scope_of d scope) l o c y (stopped (rw h.below at (w₁ h.ready)).wrote y₁)))

    pub rse-read : {such : std.Option ℕ} {q : Cursor} {ct₃ : List ℕ} → b ≡ Ok (such, q) → ct₃ ≡ closed_after ct₂ c.contexts first (Ok q) →
        Ready s d scope c (l + 1) → RseRead l e (scope_of d scope) o s c ct ct₃ (Ok q)
    unfolding rse_rows rse_bytes
    rse-read {such} {q} {ct₃} y₁ ce g = head_read bytes j g (λ ss y h.
        let sc = under_streams e.relations o (scope_of d scope) ss in
        clauses-read s l (rw h.below at (w₁ h.ready)) y₁ (λ t z filled.
        let m = (reads-sound s bytes e sc l first t q z).went in
        let end : q.at ≡ c.at + (length (head_bytes ss) + length (clauses_bytes t)) = omega (arith, m.place, h.place) in
        let rest = clauses_rows e.relations sc t first.at in
        let rows : ct₃ ≡ sets ct (c.contexts * context_row_numbers)
        (rse_rows e.relations o (scope_of d scope) (rse ss t) c.at (c.at + length (rse_bytes (rse ss t)))) =
        rse-closed h rest q (inside m h.ready.inside) filled ce ∙
        rw (h.place, end, length-append (head_bytes ss) (clauses_bytes t)) in
        fill {a = rse ss t} (rse-is s e (scope_of d scope) l o c y z) refl (ap contexts_alone rows)))
