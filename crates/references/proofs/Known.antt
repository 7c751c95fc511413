-- What a name or a number stands for, and the step where it stands for something. Assumes nothing.
use Prim.Native.Nat.{ℕ, ◌+◌}
use mathlib.Core.Path.{◌≡◌, refl, sym, ap, ◌∙◌}
use mathlib.Core.Bool.{Bool, true, false, cond}
use mathlib.Core.List.{List}
use mathlib.Core.Option.{Option, none, some}
use lib.Dec.{leb}
use lib.ListN.{length, take, drop, get_elem?}
use Rattle.wire.specs.Lists.{find, is_some, ◌and_then◌}
use Rattle.wire.specs.Words.{byte_at}
use Rattle.wire.specs.Versions.{field_due}
use Rattle.wire.specs.declared.codes.Version.{Version}
use Rattle.dictionary.specs.Format.{Format}
use Rattle.dictionary.specs.Dictionary.{Relation, name_at}
use Rattle.dictionary.specs.Naming.{Name, named, numbered, field_of, format_of}
use Rattle.dictionary.specs.Internal.Walk.{relation_at, fields_of, has_name}
use Rattle.dictionary.proofs.FieldFormats.{entry_format, named-format, numbered-format}
use Rattle.grammar.specs.declared.Kind.{Kind}
use Rattle.grammar.specs.declared.Refusal.{Refusal}
use Rattle.grammar.specs.declared.Refusal.TheVariants.{EndsEarly, Unknown, Unfit}
use Rattle.grammar.specs.declared.Cursor.{Cursor}
use Rattle.std.specs.Prelude.{Result, Ok, Err, Some, None}
use Rattle.std.specs.Prelude as std
use Rattle.wire.specs.Options.{option_of, refused_at}
use Rattle.wire.specs.declared.refused.Refused.{Refused}
use Rattle.grammar.specs.Kinds.{format_kind, field_kind}
use Rattle.grammar.specs.Reader.{read, refused, Reader, on_read, on, need, bytes, name, tested}
use Rattle.grammar.specs.Values.{by_name}
use Rattle.grammar.specs.Internal.Steps.{fit_of, answer_of, cursor_of}
use Rattle.grammar.proofs.StepLaws.{absurd-eq, taken-whole, taken-cut}
use Rattle.references.proofs.Literals.{whole}
use Rattle.references.specs.Promises.{Step, name_kind, due_step, entry_step, field_in}

-- ---- a field whose test is that it has a kind

-- a kind that was looked up for what stands at a place
abbrev pub known_step : Refusal → std.Option Kind → ℕ → Cursor → Step
known_step x (Some k) p c = Ok (Some k, c)
known_step x None p c = Err (refused_at x p)

pub known-none : (x : Refusal) (o : std.Option Kind) (p : ℕ) (c : Cursor) → std.is_some o ≡ false → known_step x o p c ≡ Err (refused_at x p)
known-none x (Some k) p c e = absurd-eq (cc)
known-none x None p c e = refl

pub known-some : (x : Refusal) (o : std.Option Kind) (p : ℕ) (c : Cursor) → std.is_some o ≡ true → known_step x o p c ≡ Ok (o, c)
known-some x (Some k) p c e = refl
known-some x None p c e = absurd-eq (cc)

known_by : {A : Type 0} (f : A → std.Option Kind) (a : A) (o : Option Kind) → f a ≡ fit_of o → (x : Refusal) (p : ℕ) (s : List ℕ) (q : Cursor) →
    answer_of f (on_read (need (is_some o) x p s q) (λ u c. read a c)) ≡ known_step x (fit_of o) p q
known_by f a none e x p s q = refl
known_by f a (some k) e x p s q = rw e

module _ {A : Type 0} (field : Reader A) (test : A → Bool) (f : A → std.Option Kind) (x : Refusal) (s : List ℕ) (c : Cursor) where
  pub tested-known : {a : A} {q : Cursor} (o : Option Kind) → field s c ≡ read a q → test a ≡ is_some o → f a ≡ fit_of o →
      answer_of f (tested field test x s c) ≡ known_step x (fit_of o) c.at q
  unfolding tested
  tested-known {a} {q} o h t e = rw (tested, h, t) (known_by f a o e x c.at s q)

  pub tested-refused : {r : Refusal} {p : ℕ} → field s c ≡ refused r p → answer_of f (tested field test x s c) ≡ Err (refused_at r p)
  unfolding tested
  tested-refused h = rw (tested, h)

-- ---- fields of a relation

-- the step of a format, if there is one, for the name at k and the code at p
abbrev pub name_step : Version → Option Format → ℕ → ℕ → Cursor → Step
name_step v none k p c = Err (refused_at Unknown k)
name_step v (some f) k p c = due_step v f p c

module _ {A : Type 0} (v : Version) (f : A → std.Option Kind) (s : List ℕ) (p : ℕ) (q : Cursor) where
  due-by : (x : Format) (a : A) (o : Option Kind) → o ≡ field_kind v x → f a ≡ fit_of o →
      answer_of f (on_read (need (is_some o) Unfit p s q) (λ u c. read a c)) ≡ due_step v x p q
  unfolding field_kind
  due-by x a o i e = by (field_due v x.type) o i e
    where
      by : (b : Bool) (o : Option Kind) → o ≡ cond b (some (format_kind x)) none → f a ≡ fit_of o →
          answer_of f (on_read (need (is_some o) Unfit p s q) (λ u c. read a c)) ≡
          cond b (Ok (Some (format_kind x), q)) (Err (refused_at Unfit p))
      by true o i e = rw (i, rw i at e)
      by false o i e = rw i

  -- a name or an id that was read: the format that it has, then whether the version may name it
  pub name-steps : (o : Option Format) (g : Name → A) (kind : Name → Option Kind) (m : Name) (k : ℕ) → kind m ≡ (o and_then field_kind v) →
      f (g m) ≡ fit_of (kind m) →
      answer_of f (on_read (on_read (need (is_some o) Unknown k s q) (λ u c. read m c))
      (λ n c. on_read (need (is_some (kind n)) Unfit p s c) (λ u c. read (g n) c))) ≡ name_step v o k p q
  name-steps none g kind m k i e = refl
  name-steps (some x) g kind m k i e = due-by x (g m) (kind m) i e

module _ (v : Version) (d : List ℕ) (k p : ℕ) (c : Cursor) where
  entry-step : (o : Option ℕ) → entry_step v d (option_of o) k p c ≡ name_step v (entry_format d o) k p c
  entry-step none = refl
  entry-step (some q) = refl

  module _ (r : ℕ) where
    pub named_step : (n : List ℕ) → entry_step v d (option_of (find (has_name d n) (fields_of d r))) k p c ≡
        name_step v (field_of (relation_at d r) (named n) and_then format_of (relation_at d r)) k p c
    named_step n =
        entry-step (find (has_name d n) (fields_of d r)) ∙ ap (λ x. name_step v x k p c) (sym (named-format d n r))

    pub numbered_step : (i : ℕ) → entry_step v d (option_of (get_elem? (fields_of d r) i)) k p c ≡
        name_step v (field_of (relation_at d r) (numbered i) and_then format_of (relation_at d r)) k p c
    numbered_step i = entry-step (get_elem? (fields_of d r) i) ∙ ap (λ x. name_step v x k p c) (sym (numbered-format d r i))

module _ (s : List ℕ) (c : Cursor) where
  name_by : (b : Bool) → leb (c.at + 1) (length s) ≡ b → {q : Cursor} → Ok q ≡ cursor_of (name s c) →
      name s c ≡ read (name_at s c.at) q
  unfolding name
  name_by true h {q} e =
      let n = byte_at s c.at in
      let f : List ℕ → ℕ → List ℕ = λ l p. take n (drop p l) in
      let w : name s c ≡ bytes n s (on c 1) = rw (name, taken-whole 1 byte_at s c h) in
      w ∙ whole n f f s (on c 1) (e ∙ ap cursor_of w)
  name_by false h {q} e =
      let z : ◌≡◌ {A = Result Cursor (Refused Refusal)} (Ok q) (Err (refused_at EndsEarly (length s))) = e ∙ rw (name, taken-cut 1 byte_at s c h) in
      absurd-eq (cc)

  -- a name that was skipped is the one that stands there
  pub name-read : {q : Cursor} → Ok q ≡ cursor_of (name s c) → by_name s c ≡ read (named (name_at s c.at)) q
  name-read e = rw (name_by (leb (c.at + 1) (length s)) refl e)

module _ (v : Version) (r : Relation) (p : ℕ) (s : List ℕ) (c : Cursor) where
  pub field-known : (naming : Reader Name) {n : Name} {q : Cursor} → naming s c ≡ read n q →
      field_in v r naming p s c ≡ name_step v (field_of r n and_then format_of r) c.at p q
  unfolding field_in tested name_kind
  field-known naming {n} {q} h =
      rw (field_in, tested, h)
      (name-steps v (λ n. fit_of (name_kind v r n)) s p q (field_of r n and_then format_of r) (λ n. n) (name_kind v r) n c.at refl refl)

  pub field-refused : (naming : Reader Name) {x : Refusal} {q : ℕ} → naming s c ≡ refused x q →
      field_in v r naming p s c ≡ Err (refused_at x q)
  unfolding field_in tested
  field-refused naming h = rw (field_in, tested, h)
