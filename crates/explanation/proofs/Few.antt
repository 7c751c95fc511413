-- How many tests are listed: a test has five bytes or more where the rules allow it, and a connective one.
use Prim.Native.Nat.{ℕ, ◌+◌, ◌*◌, ◌≤◌}
use mathlib.Core.Path.{◌≡◌, subst}
use native.Mathlib.Omega.{arith}
use lib.ListN.{length, length-append}
use Rattle.wire.specs.declared.codes.Version.{Version}
use Rattle.grammar.specs.Tree.{Boolean, compare, search, between, connect, not, missing, quantify}
use Rattle.grammar.specs.Bytes.{boolean_bytes}
use Rattle.meaning.specs.declared.Truth.{Truth}
use Rattle.meaning.specs.Data.{Result, is, refused, stray}
use Rattle.meaning.specs.Runs.{Around}
use Rattle.meaning.specs.Meaning.{boolean_size, truth_of}
use Rattle.explanation.specs.Explanation.{Explained, settles, joined, turned, test_of, explained_of}
use Rattle.explanation.proofs.Sizes.{FiveBytes}
use Rattle.explanation.proofs.Tests.{needed-few}
use Rattle.explanation.proofs.Reason.{Holds, one_holds, two-hold}

abbrev Few : Boolean → Explained → Type 0
Few b x = length x.tests * 6 ≤ boolean_size b + 1

module _ (e : Version) (a : Around) where
  one-test : (b : Boolean) (p : ℕ) (m : Result Truth) → 5 ≤ boolean_size b → Holds (Few b) (test_of p m)
  one-test b p (is t) h = omega (arith, h)
  one-test b p (refused f q) h = tt
  one-test b p stray h = tt

  each-few : (b : Boolean) (p : ℕ) → FiveBytes b → Holds (Few b) (explained_of e a p b)
  unfolding explained_of joined boolean_bytes
  each-few (compare c v w) p h = one-test (compare c v w) p (truth_of e a p (compare c v w)) h
  each-few (search t v w) p h = one-test (search t v w) p (truth_of e a p (search t v w)) h
  each-few (between u v w) p h = one-test (between u v w) p (truth_of e a p (between u v w)) h
  each-few (connect c b d) p h =
      two-hold (Few b) (Few d) (Few (connect c b d)) (explained_of e a (p + 1) b) (explained_of e a (p + 1 + boolean_size b) d) (joined c)
      (each-few b (p + 1) h.0) (each-few d (p + 1 + boolean_size b) h.1)
      (λ x y k l. omega (arith, k, l, length-append (boolean_bytes b) (boolean_bytes d), needed-few (settles c x.truth) (settles c y.truth) x.tests y.tests))
  each-few (not b) p h =
      one_holds (Few b) (Few (not b)) (explained_of e a (p + 1) b) turned (each-few b (p + 1) h) (λ x k. omega (arith, k))
  each-few (missing v) p h = one-test (missing v) p (truth_of e a p (missing v)) h
  each-few (quantify q r) p h = one-test (quantify q r) p (truth_of e a p (quantify q r)) h

  pub few-tests : (b : Boolean) (p : ℕ) (x : Explained) → FiveBytes b → explained_of e a p b ≡ is x → length x.tests * 6 ≤ boolean_size b + 1
  few-tests b p x h k = subst (Holds (Few b)) k (each-few b p h)
