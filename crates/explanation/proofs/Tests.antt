-- Lists of tests: one after another, and those that a connective needs.
use Prim.Native.Nat.{ℕ, ◌+◌, ◌≤◌}
use mathlib.Core.Path.{◌≡◌, refl, ap, ap₂, ◌∙◌}
use mathlib.Core.Bool.{Bool, true, false}
use mathlib.Core.List.{List, [], ◌∷◌, ◌++◌}
use native.Mathlib.Omega.{arith}
use lib.ListN.{length, length-append}
use Rattle.wire.specs.declared.codes.Connective.{Connective}
use Rattle.wire.specs.declared.codes.Connective.TheVariants.{Or, And}
use Rattle.meaning.specs.declared.Truth.{Truth}
use Rattle.meaning.specs.declared.Truth.TheVariants.{True, False, Missing}
use Rattle.meaning.specs.Data.{both, either, connected}
use Rattle.explanation.specs.Explanation.{Test, settles, needed}
use Rattle.explanation.specs.Reason.{Each, Agrees, Rising}

-- ---- each of them

module _ (P : Test → Type 0) where
  pub each_append : (ts us : List Test) → Each P ts → Each P us → Each P (ts ++ us)
  each_append [] us h k = k
  each_append (t ∷ ts) us h k = (h.0, each_append ts us h.1 k)

  pub each_first : (ts us : List Test) → Each P (ts ++ us) → Each P ts
  each_first [] us h = tt
  each_first (t ∷ ts) us h = (h.0, each_first ts us h.1)

  pub each-second : (ts us : List Test) → Each P (ts ++ us) → Each P us
  each-second [] us h = h
  each-second (t ∷ ts) us h = each-second ts us h.1

  pub each_needed : (x y : Bool) (ts us : List Test) → Each P ts → Each P us → Each P (needed x y ts us)
  each_needed true y ts us h k = h
  each_needed false true ts us h k = k
  each_needed false false ts us h k = each_append ts us h k

pub each_map : (P Q : Test → Type 0) (ts : List Test) → ((t : Test) → P t → Q t) → Each P ts → Each Q ts
each_map P Q [] f h = tt
each_map P Q (t ∷ ts) f h = (f t h.0, each_map P Q ts f h.1)

-- ---- their places

rising-from : (ts : List Test) (p q end : ℕ) → q ≤ p → Rising p ts end → Rising q ts end
rising-from [] p q end h k = omega (arith, h, k)
rising-from (t ∷ ts) p q end h k = let z = k.0 in (omega (arith, h, z), k.1)

rising-to : (ts : List Test) (p end last : ℕ) → end ≤ last → Rising p ts end → Rising p ts last
rising-to [] p end last h k = omega (arith, h, k)
rising-to (t ∷ ts) p end last h k = (k.0, rising-to ts (t.place + 1) end last h k.1)

pub rising-widen : (ts : List Test) (p q end last : ℕ) → q ≤ p → end ≤ last → Rising p ts end → Rising q ts last
rising-widen ts p q end last h k r = rising-to ts q end last k (rising-from ts p q end h r)

rising-append : (ts us : List Test) (p q end : ℕ) → Rising p ts q → Rising q us end → Rising p (ts ++ us) end
rising-append [] us p q end h k = rising-from us q p end h k
rising-append (t ∷ ts) us p q end h k = (h.0, rising-append ts us (t.place + 1) q end h.1 k)

pub rising-needed : (x y : Bool) (ts us : List Test) (p q end : ℕ) → p ≤ q → q ≤ end → Rising p ts q → Rising q us end →
    Rising p (needed x y ts us) end
rising-needed true y ts us p q end i j h k = rising-to ts p q end j h
rising-needed false true ts us p q end i j h k = rising-from us q p end i k
rising-needed false false ts us p q end i j h k = rising-append ts us p q end h k

-- ---- how many they are

pub needed-some : (x y : Bool) (ts us : List Test) → 1 ≤ length ts → 1 ≤ length us → 1 ≤ length (needed x y ts us)
needed-some true y ts us h k = h
needed-some false true ts us h k = k
needed-some false false ts us h k = omega (arith, h, length-append ts us)

pub needed-few : (x y : Bool) (ts us : List Test) → length (needed x y ts us) ≤ length ts + length us
needed-few true y ts us = omega arith
needed-few false true ts us = omega arith
needed-few false false ts us = omega (arith, length-append ts us)

-- ---- they decide

both_false : (t : Truth) → both t False ≡ False
both_false True = refl
both_false False = refl
both_false (Missing w) = refl

either_true : (t : Truth) → either t True ≡ True
either_true True = refl
either_true False = refl
either_true (Missing w) = refl

-- two sides that come out as x and y, if their tests do as listed, make of the connective what x and y make, if those that it needs do
module _ (o : ℕ → Truth) (x y s t : Truth) (ts us : List Test) (f : Agrees o ts → s ≡ x) (g : Agrees o us → t ≡ y) where
  from-both : (c : Connective) → Agrees o (ts ++ us) → connected c s t ≡ connected c x y
  from-both c h = ap₂ (connected c) (f (each_first _ ts us h)) (g (each-second _ ts us h))

pub decided : (c : Connective) (x y : Truth) (o : ℕ → Truth) (s t : Truth) (ts us : List Test) → (Agrees o ts → s ≡ x) → (Agrees o us → t ≡ y) →
    Agrees o (needed (settles c x) (settles c y) ts us) → connected c s t ≡ connected c x y
unfolding connected
decided Or True y o s t ts us f g h = ap (λ z. either z t) (f h)
decided Or False True o s t ts us f g h = ap (λ z. either s z) (g h) ∙ either_true s
decided Or (Missing w) True o s t ts us f g h = ap (λ z. either s z) (g h) ∙ either_true s
decided Or False False o s t ts us f g h = from-both o False False s t ts us f g Or h
decided Or False (Missing v) o s t ts us f g h = from-both o False (Missing v) s t ts us f g Or h
decided Or (Missing w) False o s t ts us f g h = from-both o (Missing w) False s t ts us f g Or h
decided Or (Missing w) (Missing v) o s t ts us f g h = from-both o (Missing w) (Missing v) s t ts us f g Or h
decided And False y o s t ts us f g h = ap (λ z. both z t) (f h)
decided And True False o s t ts us f g h = ap (λ z. both s z) (g h) ∙ both_false s
decided And (Missing w) False o s t ts us f g h = ap (λ z. both s z) (g h) ∙ both_false s
decided And True True o s t ts us f g h = from-both o True True s t ts us f g And h
decided And True (Missing v) o s t ts us f g h = from-both o True (Missing v) s t ts us f g And h
decided And (Missing w) True o s t ts us f g h = from-both o (Missing w) True s t ts us f g And h
decided And (Missing w) (Missing v) o s t ts us f g h = from-both o (Missing w) (Missing v) s t ts us f g And h
