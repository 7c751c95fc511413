-- Streams, rses and headings that were read: their bytes are those of the grammar, and the rules allow them.
use Prim.Native.Nat.{ℕ, zero, suc, ◌≤◌}
use mathlib.Core.Path.{◌≡◌, refl, sym, ap}
use mathlib.Core.Bool.{Bool, true, false, not as negation}
use mathlib.Core.List.{List, [], ◌∷◌, ◌++◌}
use native.Mathlib.Nat.{zero-add}
use native.Mathlib.Omega.{arith}
use lib.Dec.{leb}
use lib.ListN.{length, drop}
use borrow.Author.Tests.{not-true}
use Rattle.wire.specs.Codes as blr
use Rattle.wire.specs.Lists.{is_some}
use Rattle.wire.specs.declared.codes.ClauseCode.{ClauseCode}
use Rattle.wire.specs.declared.codes.ClauseCode.TheVariants as Clause
use Rattle.wire.specs.declared.codes.StatementCode.{StatementCode}
use Rattle.wire.specs.declared.codes.StatementCode.TheVariants.{Modify, Receive, Send, Store, Label}
use Rattle.dictionary.specs.Dictionary.{Relation}
use Rattle.dictionary.specs.Naming.{Name, named, numbered, relation_of}
use Rattle.grammar.specs.declared.Cursor.{Cursor}
use Rattle.grammar.specs.declared.Refusal.TheVariants.{NotDue, BadContext}
use Rattle.grammar.specs.Tree.{Stream, Heading, receive, send, label, Value, Boolean, Keys, Clauses, Rse, rse}
use Rattle.grammar.specs.Bytes.{stream_of, stream_bytes, streams_bytes, head_bytes, heading_bytes, value_bytes, boolean_bytes, keys_bytes, key_count, clauses_bytes, rse_bytes}
use Rattle.grammar.specs.Environment.{Environment, Scope, under_streams}
use Rattle.grammar.specs.Scope.{in_scope, of_for, declared, updating, StreamScoped, StreamsScoped, Exchanged, HeadingScoped}
use Rattle.grammar.specs.Sizes.{value_depth, boolean_depth, keys_depth, clauses_depth, rse_depth, value_contexts, boolean_contexts, keys_contexts, clauses_contexts, rse_contexts, heading_contexts, count_in_range, StreamsInRange, SortInRange, booleans_count, sorts_count}
use Rattle.grammar.specs.Rules.{ValueAllowed, BooleanAllowed, KeysAllowed, ClausesAllowed, RseAllowed}
use Rattle.grammar.specs.Reader.{read, Reader, byte, tested, code, coded, opened}
use Rattle.grammar.specs.Values.{context_byte}
use Rattle.grammar.specs.Rses.{naming, stream, streams, count_byte, stream_count, rse_head, keys, sort, clauses_under, clauses}
use Rattle.grammar.specs.Statements.{exchanged, modify_heading, receive_heading, send_heading, store_heading, label_heading}
use Rattle.grammar.specs.Demands.{Octets}
use Rattle.grammar.proofs.Went.{Went, Passed, never, undo, same, needed, tested-read, stayed, onward, went-as, coded-onward, byte-went, code-went, opened-went}
use Rattle.grammar.proofs.Implied.{free}
use Rattle.grammar.proofs.Unique.{Grown, grown-scoped}
use Rattle.grammar.proofs.Codes.{statement_code, stream_code, clause_code, stream-due, clause-due, direction-due, coded-went}
use Rattle.grammar.proofs.SoundReferences.{name_bytes, name_code, naming-went, context-went, message-went}

-- ---- what is asked of the readers of values and booleans with l levels left

pub record ValueSound (l : ℕ) (e : Environment) (sc : Scope) (s : List ℕ) (c : Cursor) (v : Value) (c' : Cursor) : Type 0 where
  pub went : Went s c (value_bytes v) 0 (value_contexts v) 0 c'
  pub depth : value_depth v ≤ l
  pub allowed : ValueAllowed e sc v
  pub few : c.contexts ≤ 32 → c'.contexts ≤ 32

-- a reader of values that is sound
abbrev pub ReadsValues : ℕ → Environment → Scope → List ℕ → Reader Value → Type 0
ReadsValues l e sc s reader = (c : Cursor) (v : Value) (c' : Cursor) → reader s c ≡ read v c' → ValueSound l e sc s c v c'

pub record BooleanSound (l : ℕ) (e : Environment) (sc : Scope) (s : List ℕ) (c : Cursor) (b : Boolean) (c' : Cursor) : Type 0 where
  pub went : Went s c (boolean_bytes b) 0 (boolean_contexts b) 0 c'
  pub depth : boolean_depth b ≤ l
  pub allowed : BooleanAllowed e sc b
  pub few : c.contexts ≤ 32 → c'.contexts ≤ 32

abbrev pub ReadsBooleans : ℕ → Environment → Scope → List ℕ → Reader Boolean → Type 0
ReadsBooleans l e sc s reader = (c : Cursor) (b : Boolean) (c' : Cursor) → reader s c ≡ read b c' → BooleanSound l e sc s c b c'

-- ---- streams

pub record StreamSound (d : List Relation) (sc : Scope) (s : List ℕ) (c : Cursor) (r : Stream) (c' : Cursor) : Type 0 where
  pub went : Went s c (stream_bytes r) 0 1 0 c'
  pub scoped : StreamScoped d sc r
  pub few : c'.contexts ≤ 32

pub record StreamsSound (n : ℕ) (d : List Relation) (opener : ℕ) (sc : Scope) (s : List ℕ) (c : Cursor) (ss : List Stream) (c' : Cursor) : Type 0 where
  pub went : Went s c (streams_bytes ss) 0 (length ss) 0 c'
  pub many : length ss ≡ n
  pub scoped : Grown d opener sc ss
  pub few : c.contexts ≤ 32 → c'.contexts ≤ 32

-- an rse up to its last stream, so many at most
pub record HeadSound (most : ℕ) (d : List Relation) (sc : Scope) (s : List ℕ) (c : Cursor) (ss : List Stream) (c' : Cursor) : Type 0 where
  pub went : Went s c (head_bytes ss) 0 (length ss) 0 c'
  pub ranged : StreamsInRange ss
  pub few-streams : leb (length ss) most ≡ true
  pub scoped : StreamsScoped d sc ss
  pub few : c.contexts ≤ 32 → c'.contexts ≤ 32

stream-bytes : (n : Name) (x : ℕ) → stream_of n x ≡ stream_code (name_code n) ∷ name_bytes n ++ (x ∷ [])
stream-bytes (named n) x = refl
stream-bytes (numbered i) x = refl

-- a context that is not in scope
pub fresh-went : (sc : Scope) (s : List ℕ) (c : Cursor) {x : ℕ} {c' : Cursor} →
    tested byte (λ k. negation (in_scope sc k)) BadContext s c ≡ read x c' → Passed s c (x ∷ []) c' × (in_scope sc x ≡ false)
fresh-went sc s c {x} e =
    let t = tested-read s c byte (λ k. negation (in_scope sc k)) _ e in (byte-went s c t.0, not-true (in_scope sc x) t.1)

pub count-went : (s : List ℕ) (c : Cursor) {x : ℕ} {c' : Cursor} → count_byte s c ≡ read x c' →
    Passed s c (x ∷ []) c' × (count_in_range x ≡ true)
unfolding count_byte
count-went s c e = let t = tested-read s c byte count_in_range _ e in (byte-went s c t.0, t.1)

pub stream-count-went : (most : ℕ) (s : List ℕ) (c : Cursor) {x : ℕ} {c' : Cursor} → stream_count most s c ≡ read x c' →
    Passed s c (x ∷ []) c' × ((count_in_range x ≡ true) × (leb x most ≡ true))
unfolding stream_count
stream-count-went most s c e =
    let t = tested-read s c count_byte (λ n. leb n most) _ e in
    let u = count-went s c t.0 in
    (u.0, (u.1, t.1))

module _ (s : List ℕ) (octets : Octets s) (d : List Relation) where
  pub stream-sound : (sc : Scope) (c : Cursor) (r : Stream) (c' : Cursor) → stream d sc s c ≡ read r c' → StreamSound d sc s c r c'
  unfolding stream stream_bytes
  stream-sound sc c r c' h = undo (coded _ s c) _ h (λ k q e v. undo (opened c.at s q) _ v (λ u q₁ e₁ v₁.
      undo (tested (naming k) (λ n. is_some (relation_of d n)) _ s q₁) _ v₁ (λ n q₂ e₂ v₂.
      undo (tested byte (λ k. negation (in_scope sc k)) _ s q₂) _ v₂ (λ x q₃ e₃ v₃.
      let t = tested-read s q₁ (naming k) (λ n. is_some (relation_of d n)) _ e₂ in
      let i = naming-went s octets k q₁ n q₂ t.0 in
      let o = opened-went c.at s q e₁ in
      let f = fresh-went sc s q₂ e₃ in
      same v₃ (λ r c'. StreamSound d sc s c r c') (record {
        went = rw (stream-bytes n x, i.1) (onward (coded-went stream-due s c e) (onward o.0 (onward i.0 f.0)));
        scoped = (t.1, f.1);
        few = omega (arith, o.1, i.0.declared, f.0.declared);
      })))))

  pub streams-sound : (n opener : ℕ) (sc : Scope) (c : Cursor) (ss : List Stream) (c' : Cursor) → streams n d opener sc s c ≡ read ss c' →
      StreamsSound n d opener sc s c ss c'
  unfolding streams streams_bytes
  streams-sound zero opener sc c ss c' h = same h (λ ss c'. StreamsSound zero d opener sc s c ss c') (record {
    went = stayed s c;
    many = refl;
    scoped = tt;
    few = λ f. f;
  })
  streams-sound (suc n) opener sc c ss c' h = undo (stream d sc s c) _ h (λ r q e v.
      undo (streams n d opener (under_streams d opener sc (r ∷ [])) s q) _ v (λ rs q₁ e₁ v₁.
      let i = stream-sound sc c r q e in
      let j = streams-sound n opener (under_streams d opener sc (r ∷ [])) q rs q₁ e₁ in
      same v₁ (λ ss c'. StreamsSound (suc n) d opener sc s c ss c') (record {
        went = went-as (onward i.went j.went) refl (omega arith) refl;
        many = ap suc j.many;
        scoped = (i.scoped, j.scoped);
        few = λ f. j.few i.few;
      })))

  pub head-sound : (most opener : ℕ) (sc : Scope) (c : Cursor) (ss : List Stream) (c' : Cursor) → rse_head most d opener sc s c ≡ read ss c' →
      HeadSound most d sc s c ss c'
  unfolding rse_head head_bytes
  head-sound most opener sc c ss c' h = undo (code blr.rse NotDue s c) _ h (λ x q e v. undo (stream_count most s q) _ v (λ n q₁ e₁ v₁.
      let j = streams-sound n opener sc q₁ ss c' v₁ in
      let t = rw (sym j.many) at (stream-count-went most s q e₁) in
      let g = onward (code-went blr.rse NotDue s c e) t.0 in
      record {
        went = went-as (onward g j.went) refl (omega arith) refl;
        ranged = t.1.0;
        few-streams = t.1.1;
        scoped = grown-scoped d opener sc ss j.scoped;
        few = λ f. j.few (omega (arith, g.declared));
      }))

-- ---- keys and clauses

module _ (l : ℕ) (e : Environment) (sc : Scope) (s : List ℕ) where
  pub record KeysSound (n : ℕ) (c : Cursor) (ks : Keys) (c' : Cursor) : Type 0 where
    pub went : Went s c (keys_bytes ks) 0 (keys_contexts ks) 0 c'
    pub many : key_count ks ≡ n
    pub depth : keys_depth ks ≤ l
    pub allowed : KeysAllowed e sc ks
    pub few : c.contexts ≤ 32 → c'.contexts ≤ 32

  -- after the code of a sort
  pub record SortSound (c : Cursor) (ks : Keys) (c' : Cursor) : Type 0 where
    pub went : Went s c (key_count ks ∷ keys_bytes ks) 0 (keys_contexts ks) 0 c'
    pub ranged : SortInRange ks
    pub depth : keys_depth ks ≤ l
    pub allowed : KeysAllowed e sc ks
    pub few : c.contexts ≤ 32 → c'.contexts ≤ 32

  pub record ClausesSound (boolean sort : Bool) (c : Cursor) (cs : Clauses) (c' : Cursor) : Type 0 where
    pub booleans : booleans_count cs ≤ free boolean
    pub sorts : sorts_count cs ≤ free sort
    pub went : Went s c (clauses_bytes cs) 0 (clauses_contexts cs) 0 c'
    pub depth : clauses_depth cs ≤ l
    pub allowed : ClausesAllowed e sc cs
    pub few : c.contexts ≤ 32 → c'.contexts ≤ 32

  -- after the code k
  pub record ClausesUnderSound (boolean sort : Bool) (k : ClauseCode) (c : Cursor) (cs : Clauses) (c' : Cursor) : Type 0 where
    pub went : Went s c (drop 1 (clauses_bytes cs)) 0 (clauses_contexts cs) 0 c'
    pub starts : clauses_bytes cs ≡ clause_code k ∷ drop 1 (clauses_bytes cs)
    pub booleans : booleans_count cs ≤ free boolean
    pub sorts : sorts_count cs ≤ free sort
    pub depth : clauses_depth cs ≤ l
    pub allowed : ClausesAllowed e sc cs
    pub few : c.contexts ≤ 32 → c'.contexts ≤ 32

  module _ (operand : Reader Value) (values : ReadsValues l e sc s operand) where
    pub keys-sound : (n : ℕ) (c : Cursor) (ks : Keys) (c' : Cursor) → keys n operand s c ≡ read ks c' → KeysSound n c ks c'
    unfolding keys keys_bytes keys_depth key_count keys_contexts
    keys-sound zero c ks c' h = same h (λ ks c'. KeysSound zero c ks c') (record {
      went = stayed s c;
      many = refl;
      depth = omega arith;
      allowed = tt;
      few = λ f. f;
    })
    keys-sound (suc n) c ks c' h = undo (coded _ s c) _ h (λ k q e₁ w. undo (operand s q) _ w (λ v q₁ e₂ w₁.
        undo (keys n operand s q₁) _ w₁ (λ ks q₂ e₃ w₂.
        let g = coded-went direction-due s c e₁ in
        let i = values q v q₁ e₂ in
        let j = keys-sound n q₁ ks q₂ e₃ in
        same w₂ (λ ks c'. KeysSound (suc n) c ks c') (record {
          went = went-as (onward g (onward i.went j.went)) refl (zero-add _) refl;
          many = ap suc j.many;
          depth = omega (arith, i.depth, j.depth);
          allowed = (i.allowed, j.allowed);
          few = λ f. j.few (i.few (omega (arith, g.declared)));
        }))))

    pub sort-sound : (c : Cursor) (ks : Keys) (c' : Cursor) → sort operand s c ≡ read ks c' → SortSound c ks c'
    unfolding sort
    sort-sound c ks c' h = undo (count_byte s c) _ h (λ n q e₁ w.
        let j = keys-sound n q ks c' w in
        let t = rw (sym j.many) at (count-went s c e₁) in
        record {
          went = went-as (onward t.0 j.went) refl (zero-add _) refl;
          ranged = t.1;
          depth = j.depth;
          allowed = j.allowed;
          few = λ f. j.few (omega (arith, t.0.declared));
        })

  module _ (condition : Reader Boolean) (operand : Reader Value) where
    module _ (booleans : ReadsBooleans l e sc s condition) (values : ReadsValues l e sc s operand) where
      pub clauses-under-sound : (rest : Bool → Bool → Reader Clauses) →
          ((b t : Bool) (c : Cursor) (cs : Clauses) (c' : Cursor) → rest b t s c ≡ read cs c' → ClausesSound b t c cs c') →
          (b t : Bool) (p : ℕ) (k : ClauseCode) (c : Cursor) (cs : Clauses) (c' : Cursor) →
          clauses_under rest condition operand b t p k s c ≡ read cs c' → ClausesUnderSound b t k c cs c'
      unfolding clauses_under clauses_bytes clauses_depth clauses_contexts booleans_count sorts_count
      clauses-under-sound rest more b t p Clause.Boolean c cs c' h = needed (negation b) _ _ _ _ _ h (λ z w.
          undo (condition s c) _ w (λ x q e₁ w₁. undo (rest true t s q) _ w₁ (λ cs q₁ e₂ w₂.
          let i = booleans c x q e₁ in
          let j = more true t q cs q₁ e₂ in
          same w₂ (λ cs c'. ClausesUnderSound b t Clause.Boolean c cs c') (record {
            went = onward i.went j.went;
            starts = refl;
            depth = omega (arith, i.depth, j.depth);
            booleans = omega (arith, ap free (not-true b z), j.booleans);
            sorts = j.sorts;
            allowed = (i.allowed, j.allowed);
            few = λ f. j.few (i.few f);
          }))))
      clauses-under-sound rest more b t p Clause.Sort c cs c' h = needed (negation t) _ _ _ _ _ h (λ z w.
          undo (sort operand s c) _ w (λ ks q e₁ w₁. undo (rest b true s q) _ w₁ (λ cs q₁ e₂ w₂.
          let i = sort-sound operand values c ks q e₁ in
          let j = more b true q cs q₁ e₂ in
          same w₂ (λ cs c'. ClausesUnderSound b t Clause.Sort c cs c') (record {
            went = onward i.went j.went;
            starts = refl;
            depth = omega (arith, i.depth, j.depth);
            booleans = j.booleans;
            sorts = omega (arith, ap free (not-true t z), j.sorts);
            allowed = (i.ranged, i.allowed, j.allowed);
            few = λ f. j.few (i.few f);
          }))))
      clauses-under-sound rest more b t p Clause.End c cs c' h = same h (λ cs c'. ClausesUnderSound b t Clause.End c cs c') (record {
        went = stayed s c;
        starts = refl;
        booleans = omega arith;
        sorts = omega arith;
        depth = omega arith;
        allowed = tt;
        few = λ f. f;
      })

      pub clauses-sound : (m : ℕ) (b t : Bool) (c : Cursor) (cs : Clauses) (c' : Cursor) →
          clauses m condition operand b t s c ≡ read cs c' → ClausesSound b t c cs c'
      unfolding clauses
      clauses-sound zero b t c cs c' h = never h
      clauses-sound (suc m) b t c cs c' h = undo (coded _ s c) _ h (λ k q e₁ w.
          let g = coded-went clause-due s c e₁ in
          let i = clauses-under-sound (λ b t. clauses m condition operand b t) (clauses-sound m) b t c.at k q cs c' w in
          record {
            went = coded-onward g i.starts i.went;
            booleans = i.booleans;
            sorts = i.sorts;
            depth = i.depth;
            allowed = i.allowed;
            few = λ f. i.few (omega (arith, g.declared));
          })

-- ---- a whole rse

pub record RseSound (l : ℕ) (e : Environment) (opener : ℕ) (sc : Scope) (s : List ℕ) (c : Cursor) (r : Rse) (c' : Cursor) : Type 0 where
  pub went : Went s c (rse_bytes r) 0 (rse_contexts r) 0 c'
  pub depth : rse_depth r ≤ l
  pub allowed : RseAllowed e opener sc r
  pub few : c.contexts ≤ 32 → c'.contexts ≤ 32

-- its head, and its clauses under the contexts of its streams
pub rse-sound : (l : ℕ) {most : ℕ} (e : Environment) (opener : ℕ) (sc : Scope) (s : List ℕ) (c : Cursor) (ss : List Stream) (q : Cursor)
    (cs : Clauses) (c' : Cursor) →
    HeadSound most e.relations sc s c ss q → ClausesSound l e (under_streams e.relations opener sc ss) s false false q cs c' →
    RseSound l e opener sc s c (rse ss cs) c'
unfolding rse_bytes rse_contexts rse_depth
rse-sound l e opener sc s c ss q cs c' i j = record {
  went = onward i.went j.went;
  depth = j.depth;
  allowed = (i.ranged, i.scoped, (j.booleans, j.sorts), j.allowed);
  few = λ f. j.few (i.few f);
}

-- ---- headings: what stands after the code k

pub record HeadingSound (e : Environment) (sc : Scope) (k : StatementCode) (s : List ℕ) (c : Cursor) (h : Heading) (c' : Cursor)
    : Type 0 where
  pub went : Went s c (drop 1 (heading_bytes h)) 0 (heading_contexts h) 0 c'
  pub starts : heading_bytes h ≡ statement_code k ∷ drop 1 (heading_bytes h)
  pub scoped : HeadingScoped e sc h
  pub few : c.contexts ≤ 32 → c'.contexts ≤ 32

module _ (e : Environment) (sc : Scope) (s : List ℕ) where
  pub exchanged-went : (p : ℕ) (c : Cursor) (m : ℕ) (c' : Cursor) → exchanged e sc p s c ≡ read m c' →
      Passed s c (m ∷ []) c' × Exchanged e sc m
  unfolding exchanged
  exchanged-went p c m c' h = needed (negation (updating sc)) _ _ _ _ _ h (λ t w.
      let i = message-went s c e w in (i.0, (not-true (updating sc) t, i.1)))

  -- a heading of no byte but its code
  pub plain-heading-sound : (k : StatementCode) (x : Heading) → heading_bytes x ≡ statement_code k ∷ [] → heading_contexts x ≡ 0 →
      HeadingScoped e sc x → (c : Cursor) (h : Heading) (c' : Cursor) → read x c ≡ read h c' → HeadingSound e sc k s c h c'
  plain-heading-sound k x b n a c h c' w = same w (λ h c'. HeadingSound e sc k s c h c') (record {
    went = rw (b, n) (stayed s c);
    starts = rw b;
    scoped = a;
    few = λ f. f;
  })

  -- a heading of one byte after its code
  one_byte : (k : StatementCode) (c : Cursor) (m : ℕ) (c' : Cursor) → Passed s c (m ∷ []) c' → (x : Heading) →
      heading_bytes x ≡ statement_code k ∷ m ∷ [] → heading_contexts x ≡ 0 → HeadingScoped e sc x → (h : Heading) (c₁ : Cursor) →
      read x c' ≡ read h c₁ → HeadingSound e sc k s c h c₁
  one_byte k c m c' g x b n a h c₁ w = same w (λ h c₁. HeadingSound e sc k s c h c₁) (record {
    went = rw (b, n) g;
    starts = rw b;
    scoped = a;
    few = λ f. omega (arith, g.declared);
  })

  pub receive-heading-sound : (p : ℕ) (c : Cursor) (h : Heading) (c' : Cursor) → receive_heading e sc p s c ≡ read h c' →
      HeadingSound e sc Receive s c h c'
  unfolding receive_heading heading_bytes heading_contexts
  receive-heading-sound p c h c' w = undo (exchanged e sc p s c) _ w (λ m q e₁ w₁.
      let i = exchanged-went p c m q e₁ in one_byte Receive c m q i.0 (receive m) refl refl i.1 h c' w₁)

  pub send-heading-sound : (p : ℕ) (c : Cursor) (h : Heading) (c' : Cursor) → send_heading e sc p s c ≡ read h c' →
      HeadingSound e sc Send s c h c'
  unfolding send_heading heading_bytes heading_contexts
  send-heading-sound p c h c' w = undo (exchanged e sc p s c) _ w (λ m q e₁ w₁.
      let i = exchanged-went p c m q e₁ in one_byte Send c m q i.0 (send m) refl refl i.1 h c' w₁)

  pub label-heading-sound : (c : Cursor) (h : Heading) (c' : Cursor) → label_heading s c ≡ read h c' → HeadingSound e sc Label s c h c'
  unfolding label_heading heading_bytes heading_contexts
  label-heading-sound c h c' w = undo (byte s c) _ w (λ n q e₁ w₁.
      one_byte Label c n q (byte-went s c e₁) (label n) refl refl tt h c' w₁)

  pub modify-heading-sound : (p : ℕ) (c : Cursor) (h : Heading) (c' : Cursor) → modify_heading sc p s c ≡ read h c' →
      HeadingSound e sc Modify s c h c'
  unfolding modify_heading heading_bytes heading_contexts
  modify-heading-sound p c h c' w = undo (opened p s c) _ w (λ u q e₁ w₁. undo (context_byte sc s q) _ w₁ (λ x q₁ e₂ w₂.
      needed (of_for sc x) _ _ _ _ _ w₂ (λ t w₃. undo (tested byte (λ k. negation (in_scope sc k)) BadContext s q₁) _ w₃ (λ y q₂ e₃ w₄.
      let o = opened-went p s c e₁ in
      let i = context-went s q sc e₂ in
      let f = fresh-went sc s q₁ e₃ in
      same w₄ (λ h c'. HeadingSound e sc Modify s c h c') (record {
        went = onward o.0 (onward i.0 f.0);
        starts = refl;
        scoped = (t, f.1);
        few = λ k. omega (arith, o.1, i.0.declared, f.0.declared);
      })))))

  pub store-heading-sound : Octets s → (c : Cursor) (h : Heading) (c' : Cursor) → store_heading e.relations sc s c ≡ read h c' →
      HeadingSound e sc Store s c h c'
  unfolding store_heading heading_bytes heading_contexts
  store-heading-sound octets c h c' w = undo (stream e.relations sc s c) _ w (λ r q e₁ w₁.
      let i = stream-sound s octets e.relations sc c r q e₁ in
      same w₁ (λ h c'. HeadingSound e sc Store s c h c') (record {
        went = i.went;
        starts = refl;
        scoped = i.scoped;
        few = λ k. i.few;
      }))
