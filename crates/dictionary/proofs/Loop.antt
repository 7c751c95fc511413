-- The check's loop: what holds at each entry, and what the answer is at the end.
use mathlib.Core.Path.{◌≡◌, refl, sym, ap, ◌∙◌}
use mathlib.Core.Bool.{Bool, true, false, cond, ◌&&◌}
use mathlib.Core.List.{List}
use mathlib.Core.Option.{Option, none, some}
use Prim.Native.Nat.{ℕ, zero, suc, ◌+◌, ◌≤◌, ◌<◌}
use native.Mathlib.Omega.{arith}
use lib.Dec.{eqb, ltb}
use lib.ListN.{length}
use borrow.Author.Tests.{lt-ltb, le-ltb, lt-leb, le-leb}
use Rattle.std.specs.Prelude.{Some, None, Result, Ok, Err}
use Rattle.wire.specs.Options.{option_of}
use Rattle.wire.specs.Words.{byte_at, word_at}
use Rattle.wire.specs.Classes.{Class, due, left_out, foreign, field_class}
use Rattle.wire.specs.declared.codes.FieldType.{FieldType}
use Rattle.dictionary.specs.declared.check.Met.{Met}
use Rattle.dictionary.specs.Dictionary.{kind_at, whole_entry, Checked, proper, at_fault, dictionary}
use Rattle.dictionary.specs.Internal.Walk.{relation_good, field_good, relation_met, field_met, meet, on_met, fault_from, fault}
use Rattle.dictionary.specs.Internal.Answers.{answer_of, fault_answer}
use Rattle.dictionary.proofs.Tests.{both_left, both_right}
use Rattle.dictionary.proofs.Checked.{fault_of, fault-is, whole_long, whole-inside}

-- ---- a good entry

pub record Stepped (d : List ℕ) (p : ℕ) (m n : Met) : Type 0 where
  pub long : 0 < word_at d p
  pub inside : p + word_at d p ≤ length d
  pub relations-more : n.relations ≤ m.relations + 1
  pub fields-more : n.fields ≤ m.fields + 1

relation-some : (d : List ℕ) (p : ℕ) (m n : Met) (b : Bool) → relation_good d p m ≡ b →
    cond b (some (record { relations = m.relations + 1; fields = 0; last = p })) none ≡ some n → Stepped d p m n
unfolding relation_good
relation-some d p m n true e s =
    let w : whole_entry d p 6 ≡ true = both_left _ _ (both_left _ _ (both_left _ _ e)) in
    let same : record { relations = m.relations + 1; fields = 0; last = p } ≡ n = cc in
    let r : m.relations + 1 ≡ n.relations = ap (λ (x : Met). x.relations) same in
    let f : 0 ≡ n.fields = ap (λ (x : Met). x.fields) same in
    record { long = whole_long d p 6 w; inside = whole-inside d p 6 w; relations-more = omega arith; fields-more = omega arith }
relation-some d p m n false e s = let z : ◌≡◌ {A = ℕ} 0 1 = cc in absurd (omega arith)

field-some : (d : List ℕ) (p : ℕ) (t : FieldType) (m n : Met) (b : Bool) → ltb 0 m.relations && field_good d p t m ≡ b →
    cond b (some (record { relations = m.relations; fields = m.fields + 1; last = m.last })) none ≡ some n → Stepped d p m n
unfolding field_good
field-some d p t m n true e s =
    let w : whole_entry d p 10 ≡ true = both_left _ _ (both_left _ _ (both_left _ _ (both_left _ _ (both_left _ _ (both_right (ltb 0 m.relations) _ e))))) in
    let same : record { relations = m.relations; fields = m.fields + 1; last = m.last } ≡ n = cc in
    let r : m.relations ≡ n.relations = ap (λ (x : Met). x.relations) same in
    let f : m.fields + 1 ≡ n.fields = ap (λ (x : Met). x.fields) same in
    record { long = whole_long d p 10 w; inside = whole-inside d p 10 w; relations-more = omega arith; fields-more = omega arith }
field-some d p t m n false e s = let z : ◌≡◌ {A = ℕ} 0 1 = cc in absurd (omega arith)

class-some : (d : List ℕ) (p : ℕ) (c : Class FieldType) (m n : Met) → field_met d p c m ≡ some n → Stepped d p m n
unfolding field_met
class-some d p (due t) m n s = field-some d p t m n (ltb 0 m.relations && field_good d p t m) refl s
class-some d p left_out m n s = let z : ◌≡◌ {A = ℕ} 0 1 = cc in absurd (omega arith)
class-some d p foreign m n s = let z : ◌≡◌ {A = ℕ} 0 1 = cc in absurd (omega arith)

kind-some : (d : List ℕ) (p : ℕ) (m n : Met) (a b : Bool) →
    cond a (relation_met d p m) (cond b (field_met d p (field_class (byte_at d (p + 6))) m) none) ≡ some n → Stepped d p m n
unfolding relation_met
kind-some d p m n true b s = relation-some d p m n (relation_good d p m) refl s
kind-some d p m n false true s = class-some d p (field_class (byte_at d (p + 6))) m n s
kind-some d p m n false false s = let z : ◌≡◌ {A = ℕ} 0 1 = cc in absurd (omega arith)

pub stepped : (d : List ℕ) (p : ℕ) (m n : Met) → meet d p m ≡ some n → Stepped d p m n
unfolding meet
stepped d p m n s = kind-some d p m n (eqb (kind_at d p) 1) (eqb (kind_at d p) 2) s

-- what the code's answer says
pub met_some : (o : Option Met) (n : Met) → option_of o ≡ Some n → o ≡ some n
met_some none n e = let z : ◌≡◌ {A = ℕ} 0 1 = cc in absurd (omega arith)
met_some (some m) n e = cc

pub met-none : (o : Option Met) → option_of o ≡ None → o ≡ none
met-none none e = refl
met-none (some m) e = let z : ◌≡◌ {A = ℕ} 0 1 = cc in absurd (omega arith)

error_of : {T : Type 0} → Result T ℕ → ℕ
error_of (Ok x) = 0
error_of (Err p) = p

pub same_error : {T : Type 0} {p q : ℕ} → ◌≡◌ {A = Result T ℕ} (Err p) (Err q) → p ≡ q
unfolding error_of
same_error e = ap error_of e

-- ---- the loop

abbrev pub start : Met
start = record { relations = 0; fields = 0; last = 0 }

pub record Going (d : List ℕ) (m : Met) (p : ℕ) : Type 0 where
  pub fuel : ℕ
  pub enough : length d ≤ p + fuel
  pub same : fault d ≡ fault_from fuel d p m
  pub relations-few : m.relations ≤ p
  pub fields-few : m.fields ≤ p

pub begins : (d : List ℕ) → length d ≤ 65535 → Going d start 0
unfolding fault
begins d h = record { fuel = length d; enough = omega arith; same = rw (le-leb (length d) 65535 h); relations-few = omega arith; fields-few = omega arith }

-- n entries more, of which one is read
next-fault : (n : ℕ) (d : List ℕ) (p : ℕ) (m : Met) → p < length d → length d ≤ p + n → (x : Option Met) → meet d p m ≡ x →
    (k : ℕ) × (length d ≤ p + suc k) × (fault_from n d p m ≡ on_met true x p (λ m'. fault_from k d (p + word_at d p) m'))
unfolding fault_from
next-fault zero d p m h e x s = absurd (omega arith)
next-fault (suc n) d p m h e x s = (n, e, rw (lt-ltb p (length d) h, s))

pub goes_on : (d : List ℕ) (m n : Met) (p : ℕ) → Going d m p → p < length d → meet d p m ≡ some n → Going d n (p + word_at d p)
goes_on d m n p g h s =
    let t = stepped d p m n s in
    let k = next-fault g.fuel d p m h g.enough (some n) s in
    let long : 0 < word_at d p = t.long in
    record {
      fuel = k.0;
      enough = omega (arith, k.1);
      same = g.same ∙ k.2;
      relations-few = omega (arith, t.relations-more, g.relations-few);
      fields-few = omega (arith, t.fields-more, g.fields-few);
    }

by-fault : (x : Checked) → answer_of x ≡ fault_answer (fault_of x)
by-fault (proper rs) = refl
by-fault (at_fault p) = refl

pub answered : (d : List ℕ) (o : Option ℕ) → fault d ≡ o → fault_answer o ≡ answer_of (dictionary d)
answered d o e = ap fault_answer (sym e ∙ fault-is d) ∙ sym (by-fault (dictionary d))

pub stops : (d : List ℕ) (m : Met) (p : ℕ) → Going d m p → p < length d → meet d p m ≡ none → Err p ≡ answer_of (dictionary d)
stops d m p g h s = let k = next-fault g.fuel d p m h g.enough none s in answered d (some p) (g.same ∙ k.2)

none_from : (n : ℕ) (d : List ℕ) (p : ℕ) (m : Met) → length d ≤ p → fault_from n d p m ≡ none
unfolding fault_from
none_from zero d p m h = refl
none_from (suc n) d p m h = rw (le-ltb p (length d) h)

pub ends : (d : List ℕ) (m : Met) (p : ℕ) → Going d m p → length d ≤ p → Ok tt ≡ answer_of (dictionary d)
ends d m p g h = answered d none (g.same ∙ none_from g.fuel d p m h)

pub too_long : (d : List ℕ) → 65535 < length d → Err 0 ≡ answer_of (dictionary d)
unfolding dictionary
too_long d h = rw (lt-leb (length d) 65535 h)
