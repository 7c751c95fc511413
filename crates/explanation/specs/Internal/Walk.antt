-- How a condition is explained on its bytes, with a table of so many rows for the tests: or, and and not are followed, and each other
-- boolean is the one test that the walk gives, in the next free row.
use Rattle.std.specs.Prelude.{ℕ, zero, suc, ◌+◌, Bool, true, false, List, ltb, length}
use Rattle.wire.specs.Words.{byte_at}
use Rattle.wire.specs.Classes.{boolean_class}
use Rattle.wire.specs.declared.codes.BooleanCode.{BooleanCode}
use Rattle.wire.specs.declared.codes.BooleanCode.TheVariants as Boolean
use Rattle.meaning.specs.declared.Truth.{Truth}
use Rattle.walking.specs.Walk.{Walked, at, astray, ◌▷◌, on_class, Sight, boolean_at}
use Rattle.explanation.specs.Explanation.{Explained, as_test, joined, turned}

-- a test in a row, if one is free
abbrev pub in_row : Bool → ℕ → Truth → ℕ → Walked Explained
in_row true p t e = at (as_test p t) e
in_row false p t e = astray

-- the boolean at p as one test
abbrev pub test_at : Bool → ℕ → Walked Truth → Walked Explained
test_at free p m = m ▷ (λ t e. in_row free p t e)

-- what stands under a boolean's code at p, with n rows laid before; `inner` explains the booleans one level down by the rows before them
-- and their place, `test` gives the boolean at a place, and `free` says whether a row is
unfoldable pub explain_under : (ℕ → ℕ → Walked Explained) → (ℕ → Walked Truth) → Bool → ℕ → ℕ → BooleanCode → Walked Explained
explain_under inner test free n p (Boolean.Compare c) = test_at free p (test p)
explain_under inner test free n p (Boolean.Search t) = test_at free p (test p)
explain_under inner test free n p Boolean.Between = test_at free p (test p)
explain_under inner test free n p (Boolean.Connect c) =
    inner n (p + 1) ▷ (λ x q. inner (n + length x.tests) q ▷ (λ y e. at (joined c x y) e))
explain_under inner test free n p Boolean.Not = inner n (p + 1) ▷ (λ x e. at (turned x) e)
explain_under inner test free n p Boolean.Missing = test_at free p (test p)
explain_under inner test free n p (Boolean.Quantify q) = test_at free p (test p)

-- the boolean at a place, with n rows laid before it in a table of so many, and with so many levels left, as it is seen from x
unfoldable pub explain_at : {E : Type 0} → Sight E → E → ℕ → ℕ → List ℕ → ℕ → ℕ → Walked Explained
explain_at w x rows zero s n p = astray
explain_at w x rows (suc l) s n p =
    on_class (boolean_class (byte_at s p))
    (λ k. explain_under (λ m q. explain_at w x rows l s m q) (λ q. boolean_at w x (suc l) s q) (ltb n rows) n p k)
