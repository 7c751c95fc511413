-- Every context that an allowed request declares has a relation of the dictionary.
use Prim.Native.Nat.{ℕ, ◌+◌}
use mathlib.Core.Path.{◌≡◌, refl, ap, subst, ◌∙◌}
use mathlib.Core.Bool.{Bool, true, false, cond}
use mathlib.Core.List.{List, [], ◌∷◌, ◌++◌, map}
use mathlib.Core.Option.{Option, none, some}
use lib.Dec.{eqb}
use lib.ListN.{length}
use Rattle.wire.specs.Codes as blr
use Rattle.wire.specs.Lists.{find, is_some, ◌and_then◌}
use Rattle.dictionary.specs.Dictionary.{Relation}
use Rattle.dictionary.specs.Naming.{Name, relation_of}
use Rattle.grammar.specs.Tree.{Stream, Heading, loop, modify, handler, receive, send, store, label, Value, literal, reference, arithmetic, negate, statistic, count, Boolean, compare, search, between, connect, not, missing, quantify, Keys, no_keys, key, Clauses, no_clauses, such, sorted, Rse, rse, Statement, assignment, begin, erase, for, headed, leave, if, if_else, select, Statements, none as nothing, ◌then◌, Receives, last, more}
use Rattle.grammar.specs.Bytes.{statistic_code, quantifier_code, stream_bytes, head_bytes, rse_bytes, heading_bytes, value_bytes, boolean_bytes, keys_bytes}
use Rattle.grammar.specs.Environment.{Environment, Context, Scope, stream_context, modify_context, context_of, relation_of_context, under_streams, under_rse_of, under_rse, under_heading}
use Rattle.grammar.specs.Scope.{StreamScoped, EachScoped, HeadingScoped, of_for, opened_by_for}
use Rattle.grammar.specs.Rules.{ValueAllowed, BooleanAllowed, KeysAllowed, ClausesAllowed, RseAllowed, StatementAllowed, StatementsAllowed, ReceivesAllowed}
use Rattle.grammar.specs.Rows.{size}
use Rattle.walking.specs.Declared.{Declared, streams_declared, value_declared, boolean_declared, keys_declared, clauses_declared, rse_declared, heading_declared, declared, declared_all, receives_declared, kept_if, holds_at, contexts_at}
use Rattle.grammar.proofs.StepLaws.{absurd-eq}
use Rattle.walking.proofs.Sites.{All, all_append}

-- a context whose relation the dictionary has, under some name
abbrev pub Named : List Relation → Context → Type 0
Named rs x = (n : Name) × (r : Relation) × (x.relation ≡ some r) × (relation_of rs n ≡ some r)

abbrev NamedAt : List Relation → Declared → Type 0
NamedAt rs x = Named rs x.context

pub some_of : {A : Type 0} (o : Option A) → is_some o ≡ true → (x : A) × (o ≡ some x)
some_of none e = absurd-eq (cc)
some_of (some x) e = (x, refl)

pub find-all : {A : Type 0} (P : A → Type 0) (t : A → Bool) (l : List A) (y : A) → All P l → find t l ≡ some y → P y
unfolding find
find-all P t [] y a e = absurd-eq (cc)
find-all P t (x ∷ l) y a e = by (t x) e (find-all P t l y a.1)
  where
    by : (b : Bool) → cond b (some x) (find t l) ≡ some y → (find t l ≡ some y → P y) → P y
    by true f next = let z : x ≡ y = cc in subst P z a.0
    by false f next = next f

stream-named : (rs : List Relation) (sc : Scope) (opener : ℕ) (s : Stream) → StreamScoped rs sc s → Named rs (stream_context rs opener s)
stream-named rs sc opener s h = let x = some_of (relation_of rs s.relation) h.0 in (s.relation, x.0, x.1, x.1)

streams-named : (rs : List Relation) (o : ℕ) (sc : Scope) (ss : List Stream) → EachScoped rs sc ss →
    All (Named rs) (map (stream_context rs o) ss)
streams-named rs o sc [] h = tt
streams-named rs o sc (s ∷ ss) h = (stream-named rs sc o s h.0, streams-named rs o sc ss h.1)

streams-declared : (rs : List Relation) (o : ℕ) (sc : Scope) (ss : List Stream) (p start end : ℕ) → EachScoped rs sc ss →
    All (NamedAt rs) (streams_declared rs o ss p start end)
unfolding streams_declared
streams-declared rs o sc [] p start end h = tt
streams-declared rs o sc (s ∷ ss) p start end h =
    (stream-named rs sc o s h.0, streams-declared rs o sc ss (p + length (stream_bytes s)) start end h.1)

-- the context that a modify opens has the relation of the one that it names
modify-named : (rs : List Relation) (sc : Scope) (from to : ℕ) → All (Named rs) sc.contexts → of_for sc from ≡ true →
    Named rs (modify_context sc from to)
unfolding of_for context_of relation_of_context
modify-named rs sc from to a h = by (find (λ x. eqb x.number from) sc.contexts) refl h
  where
    by : (o : Option Context) → find (λ x. eqb x.number from) sc.contexts ≡ o → opened_by_for o ≡ true →
        Named rs (modify_context sc from to)
    by none e g = absurd-eq (cc)
    by (some y) e g =
        let n = find-all (Named rs) (λ x. eqb x.number from) sc.contexts y a e in
        (n.0, n.1, ap (λ o. o and_then λ x. x.relation) e ∙ n.2, n.3)

module _ (e : Environment) where
  abbrev relations : List Relation
  relations = e.relations

  abbrev ScopeNamed : Scope → Type 0
  ScopeNamed sc = All (Named relations) sc.contexts

  abbrev DeclaredNamed : List Declared → Type 0
  DeclaredNamed ds = All (NamedAt relations) ds

  heading-named : (sc : Scope) (h : Heading) (p end : ℕ) → ScopeNamed sc → HeadingScoped e sc h →
      DeclaredNamed (heading_declared relations sc h p end) × ScopeNamed (under_heading relations sc h)
  unfolding heading_declared under_heading
  heading-named sc loop p end a h = (tt, a)
  heading-named sc (modify from to) p end a h =
      let x = modify-named relations sc from to a h.0 in
      ((x, tt), all_append (Named relations) sc.contexts (modify_context sc from to ∷ []) a (x, tt))
  heading-named sc handler p end a h = (tt, a)
  heading-named sc (receive m) p end a h = (tt, a)
  heading-named sc (send m) p end a h = (tt, a)
  heading-named sc (store s) p end a h =
      let x = stream-named relations sc blr.store s h in
      ((x, tt), all_append (Named relations) sc.contexts (stream_context relations blr.store s ∷ []) a (x, tt))
  heading-named sc (label n) p end a h = (tt, a)

  both-named : (a b : List Declared) → DeclaredNamed a → DeclaredNamed b → DeclaredNamed (a ++ b)
  both-named a b h k = all_append (NamedAt relations) a b h k

  streams-scope : (o : ℕ) (sc : Scope) (ss : List Stream) → ScopeNamed sc → EachScoped relations sc ss → ScopeNamed (under_streams relations o sc ss)
  unfolding under_streams
  streams-scope o sc ss a h = all_append (Named relations) sc.contexts (map (stream_context relations o) ss) a (streams-named relations o sc ss h)

  rse-scope : (o : ℕ) (sc : Scope) (r : Rse) → ScopeNamed sc → RseAllowed e o sc r → ScopeNamed (under_rse_of relations o sc r)
  rse-scope o sc (rse ss cs) a h = streams-scope o sc ss a h.1.0

  for-scope : (sc : Scope) (r : Rse) → ScopeNamed sc → RseAllowed e blr.for sc r → ScopeNamed (under_rse relations sc r)
  unfolding under_rse
  for-scope sc (rse ss cs) a h = streams-scope blr.for sc ss a h.1.0

  mutual
    unfolding value_declared

    value-named : (v : Value) (sc : Scope) (p : ℕ) → ScopeNamed sc → ValueAllowed e sc v → DeclaredNamed (value_declared relations sc v p)
    value-named (literal l) sc p a h = tt
    value-named (reference r) sc p a h = tt
    value-named (arithmetic o v w) sc p a h =
        both-named (value_declared relations sc v (p + 1)) _ (value-named v sc (p + 1) a h.0)
        (value-named w sc (p + 1 + length (value_bytes v)) a h.1)
    value-named (negate v) sc p a h = value-named v sc (p + 1) a h.0
    value-named (statistic k r v) sc p a h =
        let o = statistic_code k in
        let q = p + 1 + length (rse_bytes r) in
        both-named (rse_declared relations o sc r (p + 1) (q + length (value_bytes v))) _ (rse-named o r sc (p + 1) (q + length (value_bytes v)) a h.1)
        (value-named v (under_rse_of relations o sc r) q (rse-scope o sc r a h.1) h.2)
    value-named (count r) sc p a h = rse-named blr.count r sc (p + 1) (p + 1 + length (rse_bytes r)) a h.1

    boolean-named : (b : Boolean) (sc : Scope) (p : ℕ) → ScopeNamed sc → BooleanAllowed e sc b → DeclaredNamed (boolean_declared relations sc b p)
    boolean-named (compare c v w) sc p a h =
        both-named (value_declared relations sc v (p + 1)) _ (value-named v sc (p + 1) a h.0)
        (value-named w sc (p + 1 + length (value_bytes v)) a h.1)
    boolean-named (search t v w) sc p a h =
        both-named (value_declared relations sc v (p + 1)) _ (value-named v sc (p + 1) a h.0)
        (value-named w sc (p + 1 + length (value_bytes v)) a h.1)
    boolean-named (between v w x) sc p a h =
        let q = p + 1 + length (value_bytes v) in
        both-named (value_declared relations sc v (p + 1) ++ value_declared relations sc w q) _
        (both-named (value_declared relations sc v (p + 1)) _ (value-named v sc (p + 1) a h.0) (value-named w sc q a h.1))
        (value-named x sc (q + length (value_bytes w)) a h.2)
    boolean-named (connect c x y) sc p a h =
        both-named (boolean_declared relations sc x (p + 1)) _ (boolean-named x sc (p + 1) a h.0)
        (boolean-named y sc (p + 1 + length (boolean_bytes x)) a h.1)
    boolean-named (not x) sc p a h = boolean-named x sc (p + 1) a h
    boolean-named (missing v) sc p a h = value-named v sc (p + 1) a h
    boolean-named (quantify q r) sc p a h = rse-named (quantifier_code q) r sc (p + 1) (p + 1 + length (rse_bytes r)) a h.1

    keys-named : (ks : Keys) (sc : Scope) (p : ℕ) → ScopeNamed sc → KeysAllowed e sc ks → DeclaredNamed (keys_declared relations sc ks p)
    keys-named no_keys sc p a h = tt
    keys-named (key o v ks) sc p a h =
        both-named (value_declared relations sc v (p + 1)) _ (value-named v sc (p + 1) a h.0)
        (keys-named ks sc (p + 1 + length (value_bytes v)) a h.1)

    clauses-named : (cs : Clauses) (sc : Scope) (p : ℕ) → ScopeNamed sc → ClausesAllowed e sc cs →
        DeclaredNamed (clauses_declared relations sc cs p)
    clauses-named no_clauses sc p a h = tt
    clauses-named (such x cs) sc p a h =
        both-named (boolean_declared relations sc x (p + 1)) _ (boolean-named x sc (p + 1) a h.0)
        (clauses-named cs sc (p + 1 + length (boolean_bytes x)) a h.1)
    clauses-named (sorted ks cs) sc p a h =
        both-named (keys_declared relations sc ks (p + 2)) _ (keys-named ks sc (p + 2) a h.1)
        (clauses-named cs sc (p + 2 + length (keys_bytes ks)) a h.2)

    rse-named : (o : ℕ) (r : Rse) (sc : Scope) (p end : ℕ) → ScopeNamed sc → RseAllowed e o sc r → DeclaredNamed (rse_declared relations o sc r p end)
    rse-named o (rse ss cs) sc p end a h =
        let q = p + length (head_bytes ss) in
        both-named (streams_declared relations o ss (p + 2) q end) _ (streams-declared relations o sc ss (p + 2) q end h.1.0)
        (clauses-named cs (under_streams relations o sc ss) q (streams-scope o sc ss a h.1.0) h.3)

  mutual
    unfolding declared

    pub declared-named : (t : Statement) (sc : Scope) (p : ℕ) → ScopeNamed sc → StatementAllowed e sc t →
        DeclaredNamed (declared relations sc t p)
    declared-named (assignment v t) sc p a h = value-named v sc (p + 1) a h.0
    declared-named (begin ss) sc p a h = all_named ss sc (p + 1) a h
    declared-named (erase c) sc p a h = tt
    declared-named (for r s) sc p a h =
        both-named (rse_declared relations blr.for sc r (p + 1) (p + size (for r s))) _ (rse-named blr.for r sc (p + 1) (p + size (for r s)) a h.0)
        (declared-named s (under_rse relations sc r) (p + 1 + length (rse_bytes r)) (for-scope sc r a h.0) h.1)
    declared-named (headed g s) sc p a h =
        let x = heading-named sc g p (p + size (headed g s)) a h.0 in
        both-named (heading_declared relations sc g p (p + size (headed g s))) _ x.0
        (declared-named s (under_heading relations sc g) (p + length (heading_bytes g)) x.1 h.1)
    declared-named (leave n) sc p a h = tt
    declared-named (if b s) sc p a h =
        both-named (boolean_declared relations sc b (p + 1)) _ (boolean-named b sc (p + 1) a h.0)
        (declared-named s sc (p + 1 + length (boolean_bytes b)) a h.1)
    declared-named (if_else b s t) sc p a h =
        let q = p + 1 + length (boolean_bytes b) in
        both-named (boolean_declared relations sc b (p + 1) ++ declared relations sc s q) _
        (both-named (boolean_declared relations sc b (p + 1)) _ (boolean-named b sc (p + 1) a h.0) (declared-named s sc q a h.1))
        (declared-named t sc (q + size s) a h.2)
    declared-named (select rs) sc p a h = receives-named rs sc (p + 1) a h.1

    pub all_named : (ts : Statements) (sc : Scope) (p : ℕ) → ScopeNamed sc → StatementsAllowed e sc ts →
        DeclaredNamed (declared_all relations sc ts p)
    all_named nothing sc p a h = tt
    all_named (s then ss) sc p a h =
        both-named (declared relations sc s p) _ (declared-named s sc p a h.0)
        (all_named ss sc (p + size s) a h.1)

    receives-named : (rs : Receives) (sc : Scope) (p : ℕ) → ScopeNamed sc → ReceivesAllowed e sc rs →
        DeclaredNamed (receives_declared relations sc rs p)
    receives-named (last m s) sc p a h = declared-named s sc (p + 2) a h.1
    receives-named (more m s rs) sc p a h =
        both-named (declared relations sc s (p + 2)) _ (declared-named s sc (p + 2) a h.1)
        (receives-named rs sc (p + 2 + size s) a h.2)

-- so every context in scope has one
pub at_named : (rs : List Relation) (q : ℕ) (ds : List Declared) → All (NamedAt rs) ds → All (Named rs) (contexts_at q ds)
unfolding contexts_at
at_named rs q [] a = tt
at_named rs q (x ∷ ds) a = by (holds_at q x) (at_named rs q ds a.1)
  where
    by : (b : Bool) → All (Named rs) (contexts_at q ds) → All (Named rs) (kept_if b x.context (contexts_at q ds))
    by true h = (a.0, h)
    by false h = h
