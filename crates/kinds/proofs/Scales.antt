-- What an accepted request names has scales that a row can hold: its parameters, and the fields of its dictionary's relations.
use Prim.Native.Nat.{ℕ, zero, suc, ◌+◌}
use mathlib.Core.Path.{◌≡◌, refl, sym, subst, ◌∙◌}
use mathlib.Core.Bool.{Bool, true, false, cond, ◌&&◌, not}
use mathlib.Core.List.{List, [], ◌∷◌}
use mathlib.Core.Option.{Option, none, some, map}
use lib.Dec.{eqb, leb, ltb}
use lib.ListN.{length, get_elem?}
use Rattle.wire.specs.Lists.{find, any_of, same_bytes, ◌and_then◌}
use Rattle.wire.specs.Words.{byte_at, word_at}
use Rattle.wire.specs.Versions.{field_due}
use Rattle.wire.specs.Classes.{Class, due, left_out, foreign, field_class}
use Rattle.wire.specs.declared.codes.Version.{Version}
use Rattle.wire.specs.declared.codes.Width.TheVariants.{Short}
use Rattle.wire.specs.declared.codes.FieldType.{FieldType}
use Rattle.wire.specs.declared.codes.FieldType.TheVariants.{Plain, Reading}
use Rattle.wire.specs.declared.codes.DataType.TheVariants.{Number, Date, Chars}
use Rattle.dictionary.specs.Format.{Format, scale_in_range, fitting}
use Rattle.dictionary.specs.Dictionary.{Field, Relation, name_at, good_name, whole_entry, relation_fits, relation_entry, field_fits, field_at, with_field, field_entry, entry, proper, at_fault, next_entry, entries, dictionary}
use Rattle.dictionary.specs.Naming.{Name, named, numbered, relation_of, field_of, field_format, format_of}
use Rattle.dictionary.proofs.Tests.{both_left, both_right}
use Rattle.grammar.specs.Kinds.{type_kind, format_kind, field_kind}
use Rattle.grammar.specs.Tree.{Descriptor, Message, Request}
use Rattle.grammar.specs.Environment.{Environment, Context, Scope, context_of, relation_in, relation_of_context, message_of, descriptor_format, parameter_format}
use Rattle.grammar.specs.Sizes.{DescriptorAllowed, DescriptorsAllowed, MessagesSized}
use Rattle.grammar.specs.Rules.{environment}
use Rattle.grammar.proofs.StepLaws.{absurd-eq}
use Rattle.meaning.specs.Demand.{Accepted}
use Rattle.walking.proofs.Sites.{All, all_append}
use Rattle.surroundings.proofs.Related as Related
use Rattle.kinds.specs.KindAt.{kind_of_field}
use Rattle.kinds.proofs.Ranges.{Held, held_none, held-text, held-date, held-scale, Named, NamedIn}

-- ---- parameters

descriptor-held : (v : Version) (x : Descriptor) → DescriptorAllowed v x → Held (some (format_kind (descriptor_format x)))
unfolding format_kind descriptor_format
descriptor-held v (Descriptor.number w scale) a = held-scale w scale a.1
descriptor-held v Descriptor.date a = held-date
descriptor-held v (Descriptor.text t n) a = held-text

descriptors-held : (v : Version) (ds : List Descriptor) (i : ℕ) → DescriptorsAllowed v ds →
    Held (map format_kind (map descriptor_format (get_elem? ds i)))
descriptors-held v [] i a = held_none
descriptors-held v (x ∷ ds) zero a = descriptor-held v x a.0
descriptors-held v (x ∷ ds) (suc i) a = descriptors-held v ds i a.1

-- parameter i of the first message that passes a test
abbrev parameter_of : (Message → Bool) → List Message → ℕ → Option Format
parameter_of test ms i = find test ms and_then λ x. map descriptor_format (get_elem? x.descriptors i)

messages-held : (v : Version) (test : Message → Bool) (ms : List Message) (i : ℕ) → MessagesSized v ms →
    Held (map format_kind (parameter_of test ms i))
unfolding find
messages-held v test [] i a = held_none
messages-held v test (x ∷ ms) i a = by (test x) (messages-held v test ms i a.3)
  where
    by : (b : Bool) → Held (map format_kind (parameter_of test ms i)) →
        Held (map format_kind (cond b (some x) (find test ms) and_then λ y. map descriptor_format (get_elem? y.descriptors i)))
    by true h = descriptors-held v x.descriptors i a.2
    by false h = h

-- ---- fields of a proper dictionary

-- a field whose scale is one of its type
abbrev Fitting : Field → Type 0
Fitting f = fitting f.format.type f.format.scale f.format.size ≡ true

abbrev AllFitting : List Relation → Type 0
AllFitting rs = All (λ r. All Fitting r.fields) rs

-- the third of the six tests of a field's entry
third : (a b c x y z : Bool) → a && b && c && x && y && z ≡ true → c ≡ true
third a b c x y z e =
    both_right (a && b) c (both_left (a && b && c) x (both_left (a && b && c && x) y (both_left (a && b && c && x && y) z e)))

field_fits_lem : (d : List ℕ) (p : ℕ) (t : FieldType) (r : Relation) → field_fits d p t r ≡ true → fitting t (byte_at d (p + 7)) (word_at d (p + 8)) ≡ true
field_fits_lem d p t r e =
    third (whole_entry d p 10) (eqb (word_at d (p + 4)) (length r.fields)) (fitting t (byte_at d (p + 7)) (word_at d (p + 8)))
    (good_name (name_at d (p + 10))) (ltb (length r.fields) 64) (not (any_of (λ f. same_bytes f.name (name_at d (p + 10))) r.fields)) e

by_field : (d : List ℕ) (p : ℕ) (c : Class FieldType) (rs rs' : List Relation) → AllFitting rs → field_entry d p c rs ≡ some rs' → AllFitting rs'
unfolding field_entry
by_field d p foreign [] rs' o s = absurd-eq (cc)
by_field d p foreign (r ∷ rs) rs' o s = absurd-eq (cc)
by_field d p left_out [] rs' o s = absurd-eq (cc)
by_field d p left_out (r ∷ rs) rs' o s = absurd-eq (cc)
by_field d p (due t) [] rs' o s = absurd-eq (cc)
by_field d p (due t) (r ∷ rs) rs' o s = by (field_fits d p t r) refl s
  where
    by : (b : Bool) → field_fits d p t r ≡ b → cond b (some (with_field r (field_at d p t) ∷ rs)) none ≡ some rs' → AllFitting rs'
    by true e s =
        let z : with_field r (field_at d p t) ∷ rs ≡ rs' = cc in
        subst AllFitting z (all_append Fitting r.fields (field_at d p t ∷ []) o.0 (field_fits_lem d p t r e, tt), o.1)
    by false e s = absurd-eq (cc)

entry-fits : (d : List ℕ) (p : ℕ) (rs rs' : List Relation) → AllFitting rs → entry d p rs ≡ some rs' → AllFitting rs'
unfolding entry relation_entry
entry-fits d p rs rs' o s = by (eqb (word_at d (p + 2)) 1) (eqb (word_at d (p + 2)) 2) s
  where
    new : (b : Bool) → cond b (some (record { place = p; id = word_at d (p + 4); name = name_at d (p + 6); fields = [] } ∷ rs)) none ≡ some rs' →
        AllFitting rs'
    new true s =
        let z : record { place = p; id = word_at d (p + 4); name = name_at d (p + 6); fields = [] } ∷ rs ≡ rs' = cc in
        subst AllFitting z (tt, o)
    new false s = absurd-eq (cc)

    by : (a b : Bool) → cond a (relation_entry d p rs) (cond b (field_entry d p (field_class (byte_at d (p + 6))) rs) none) ≡ some rs' → AllFitting rs'
    by true b s = new (relation_fits d p rs) s
    by false true s = by_field d p (field_class (byte_at d (p + 6))) rs rs' o s
    by false false s = absurd-eq (cc)

entries_fit : (n : ℕ) (d : List ℕ) (p : ℕ) (rs rs' : List Relation) → AllFitting rs → entries n d p rs ≡ proper rs' → AllFitting rs'
unfolding entries
entries_fit zero d p rs rs' o s = let z : rs ≡ rs' = cc in subst AllFitting z o
entries_fit (suc n) d p rs rs' o s = by (ltb p (length d)) (entry d p rs) refl s (λ l. entries_fit n d (p + word_at d p) l rs')
  where
    by : (b : Bool) (x : Option (List Relation)) → entry d p rs ≡ x →
        next_entry b x p rs (λ l. entries n d (p + word_at d p) l) ≡ proper rs' →
        ((l : List Relation) → AllFitting l → entries n d (p + word_at d p) l ≡ proper rs' → AllFitting rs') → AllFitting rs'
    by false x e s next = let z : rs ≡ rs' = cc in subst AllFitting z o
    by true none e s next = absurd-eq (cc)
    by true (some l) e s next = next l (entry-fits d p rs l o e) s

proper-fits : (d : List ℕ) (rs : List Relation) → dictionary d ≡ proper rs → AllFitting rs
unfolding dictionary
proper-fits d rs e = by (leb (length d) 65535) e
  where
    by : (b : Bool) → cond b (entries (length d) d 0 []) (at_fault 0) ≡ proper rs → AllFitting rs
    by true e = entries_fit (length d) d 0 [] rs tt e
    by false e = absurd-eq (cc)

-- ---- their kinds

type-held : (t : FieldType) (scale size : ℕ) → fitting t scale size ≡ true → Held (some (type_kind t scale))
type-held (Plain (Number w)) scale size e = held-scale w scale (both_left (scale_in_range w scale) _ e)
type-held (Plain Date) scale size e = held-date
type-held (Plain (Chars t)) scale size e = held-text
type-held Reading scale size e = held-scale Short scale (both_left (scale_in_range Short scale) _ e)

field-held : (v : Version) (f : Field) → Fitting f → Held (field_kind v f.format)
unfolding field_kind format_kind
field-held v f h = by (field_due v f.format.type)
  where
    by : (b : Bool) → Held (cond b (some (type_kind f.format.type f.format.scale)) none)
    by true = type-held f.format.type f.format.scale f.format.size h
    by false = held_none

fields-held : (v : Version) (fs : List Field) (i : ℕ) → All Fitting fs → Held (map field_format (get_elem? fs i) and_then field_kind v)
fields-held v [] i a = held_none
fields-held v (f ∷ fs) zero a = field-held v f a.0
fields-held v (f ∷ fs) (suc i) a = fields-held v fs i a.1

relation-held : (v : Version) (r : Relation) → All Fitting r.fields → (x : Name) → Held (kind_of_field v r x)
unfolding format_of
relation-held v r a x = by (field_of r x)
  where
    by : (o : Option ℕ) → Held ((o and_then λ i. map field_format (get_elem? r.fields i)) and_then field_kind v)
    by none = held_none
    by (some i) = fields-held v r.fields i a

found-held : (v : Version) (test : Relation → Bool) (rs : List Relation) (r : Relation) → AllFitting rs → find test rs ≡ some r →
    (x : Name) → Held (kind_of_field v r x)
unfolding find
found-held v test [] r a e = absurd-eq (cc)
found-held v test (y ∷ rs) r a e = by (test y) e (found-held v test rs r a.1)
  where
    by : (b : Bool) → cond b (some y) (find test rs) ≡ some r → (find test rs ≡ some r → (x : Name) → Held (kind_of_field v r x)) →
        (x : Name) → Held (kind_of_field v r x)
    by true f next = let z : y ≡ r = cc in subst (λ q. (x : Name) → Held (kind_of_field v q x)) z (relation-held v y a.0)
    by false f next = next f

named-held : (v : Version) (rs : List Relation) → AllFitting rs → (n : Name) (r : Relation) → relation_of rs n ≡ some r →
    (x : Name) → Held (kind_of_field v r x)
unfolding relation_of
named-held v rs a (named n) r e = found-held v (λ y. same_bytes y.name n) rs r a e
named-held v rs a (numbered i) r e = found-held v (λ y. eqb y.id i) rs r a e

-- ---- of an accepted request

pub accepted-named : (s d : List ℕ) (rs : List Relation) (t : Request) → Accepted s d rs t → Named (environment rs t)
unfolding parameter_format message_of
accepted-named s d rs t a =
    record {
      parameters = λ m i. messages-held t.version (λ x. eqb x.number m) t.messages i a.allowed.sized.each_message;
      fields = named-held t.version rs (proper-fits d rs a.house);
    }

-- ---- of contexts whose relations the dictionary has

module _ (e : Environment) (given : Named e) where
  found-named : (test : Context → Bool) (xs : List Context) (r : Relation) → All (Related.Named e.relations) xs →
      (find test xs and_then relation_in) ≡ some r → (x : Name) → Held (kind_of_field e.version r x)
  unfolding find
  found-named test [] r a i = absurd-eq (cc)
  found-named test (y ∷ xs) r a i = by (test y) i (found-named test xs r a.1)
    where
      by : (b : Bool) → (cond b (some y) (find test xs) and_then relation_in) ≡ some r →
          ((find test xs and_then relation_in) ≡ some r → (x : Name) → Held (kind_of_field e.version r x)) →
          (x : Name) → Held (kind_of_field e.version r x)
      by true j next =
          let z : some a.0.1 ≡ some r = sym a.0.2 ∙ j in
          let w : a.0.1 ≡ r = cc in
          subst (λ q. (x : Name) → Held (kind_of_field e.version q x)) w (given.fields a.0.0 a.0.1 a.0.3)
      by false j next = next j

  pub scope-named : (sc : Scope) → All (Related.Named e.relations) sc.contexts → NamedIn e sc
  unfolding relation_of_context context_of
  scope-named sc a = λ c r i. found-named (λ z. eqb z.number c) sc.contexts r a i
