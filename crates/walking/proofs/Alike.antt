-- Sets of records that are alike by the places of records are alike by contexts.
use Prim.Native.Nat.{ℕ, zero, suc, ◌+◌, ◌<◌, ◌≤◌}
use mathlib.Core.Path.{◌≡◌, refl, sym, ap, ◌∙◌}
use mathlib.Core.Logic.{◌⊎◌, inl, inr, ⊎_elim}
use mathlib.Core.Bool.{true}
use mathlib.Core.List.{List, [], ◌∷◌}
use mathlib.Core.Option.{Option, none, some}
use native.Mathlib.Omega.{arith}
use lib.ListN.{length, take, get_elem?}
use Rattle.wire.specs.Words.{byte_at}
use Rattle.wire.specs.Lists.{sum_of}
use Rattle.dictionary.specs.Format.{Format, held}
use Rattle.dictionary.specs.Dictionary.{Relation}
use Rattle.dictionary.specs.Naming.{format_of}
use Rattle.records.specs.Record.{field_place, field_missing}
use Rattle.grammar.specs.Environment.{Context}
use Rattle.grammar.proofs.StepLaws.{absurd-eq}
use Rattle.meaning.specs.Inputs.{length_of, record_place}
use Rattle.meaning.specs.Demand as Places
use Rattle.meaning.specs.Demand.{Placed, placed_by, placed_from}
use Rattle.walking.proofs.Proper.{AllRelated}

-- place j lies inside a field, of the k-th context's record, that is missing in both sets
pub record InsideMissing (xs : List Context) (rows rows' : List ℕ) (j : ℕ) : Type 0 where
  pub k : ℕ
  pub i : ℕ
  pub x : Context
  pub r : Relation
  pub f : Format
  pub context_is : get_elem? xs k ≡ some x
  pub relation_is : x.relation ≡ some r
  pub format_is : format_of r i ≡ some f
  pub from : field_place r (record_place xs k) i ≤ j
  pub before : j < field_place r (record_place xs k) i + held f
  pub missing : field_missing r f rows (record_place xs k) i ≡ true
  pub missing' : field_missing r f rows' (record_place xs k) i ≡ true

-- every byte is the same in both sets, or lies inside a field that is missing in both
pub record Alike (xs : List Context) (rows rows' : List ℕ) : Type 0 where
  pub sized : length rows ≡ length rows'
  pub differ_only : (j : ℕ) → (byte_at rows j ≡ byte_at rows' j) ⊎ InsideMissing xs rows rows' j

-- the k-th is the k-th context's
record Of (xs : List Context) (p k : ℕ) (y : Placed) : Type 0 where
  x : Context
  context_is : get_elem? xs k ≡ some x
  relation_is : x.relation ≡ some y.relation
  place_is : y.place ≡ p + record_place xs k

placed_of : (xs : List Context) (p k : ℕ) (y : Placed) → AllRelated xs → get_elem? (placed_from xs p) k ≡ some y → Of xs p k y
unfolding placed_from record_place sum_of
placed_of [] p k y a e = absurd-eq (cc)
placed_of (x ∷ xs) p zero y a e =
    let f : some (record { relation = a.0.0; place = p }) ≡ some y = rw a.0.1 at e in
    let z : record { relation = a.0.0; place = p } ≡ y = cc in
    record {
      x = x;
      context_is = refl;
      relation_is = a.0.1 ∙ ap (λ (w : Placed). some w.relation) z;
      place_is = sym (ap (λ (w : Placed). w.place) z) ∙ (let o : p ≡ p + 0 = omega arith in o);
    }
placed_of (x ∷ xs) p (suc k) y a e =
    let f : get_elem? (placed_from xs (p + length_of x.relation)) k ≡ some y = next x.relation a.0.0 a.0.1 e in
    let w = placed_of xs (p + length_of x.relation) k y a.1 f in
    let s = sum_of (λ z. length_of z.relation) (take k xs) in
    let o : p + length_of x.relation + s ≡ p + (length_of x.relation + s) = omega arith in
    record { x = w.x; context_is = w.context_is; relation_is = w.relation_is; place_is = w.place_is ∙ o }
  where
    next : (q : Option Relation) (r : Relation) → q ≡ some r → get_elem? (placed_by q p (placed_from xs (p + length_of x.relation))) (suc k) ≡ some y →
        get_elem? (placed_from xs (p + length_of x.relation)) k ≡ some y
    next none r h g = absurd-eq (cc)
    next (some q) r h g = g

module _ (xs : List Context) (rows rows' : List ℕ) (a : AllRelated xs) where
  inside : (j : ℕ) → Places.InsideMissing (placed_from xs 0) rows rows' j → InsideMissing xs rows rows' j
  inside j m =
      let w = placed_of xs 0 m.k m.y a m.placed_is in
      let o : 0 + record_place xs m.k ≡ record_place xs m.k = omega arith in
      let e : m.y.place ≡ record_place xs m.k = w.place_is ∙ o in
      record {
        k = m.k;
        i = m.i;
        x = w.x;
        r = m.y.relation;
        f = m.f;
        context_is = w.context_is;
        relation_is = w.relation_is;
        format_is = m.format_is;
        from = rw e at m.from;
        before = rw e at m.before;
        missing = rw e at m.missing;
        missing' = rw e at m.missing';
      }

  pub by-places : Places.Alike (placed_from xs 0) rows rows' → Alike xs rows rows'
  by-places h = record { sized = h.sized; differ_only = λ j. ⊎_elim (λ e. inl e) (λ m. inr (inside j m)) (h.differ_only j) }
