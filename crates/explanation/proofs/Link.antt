-- The walk over a boolean's bytes explains it as its meaning does, and ends at the place after it, where there are rows enough.
use Prim.Native.Nat.{ℕ, zero, suc, ◌+◌, ◌*◌, ◌-◌, ◌<◌, ◌≤◌}
use mathlib.Core.Path.{◌≡◌, refl, sym, ap, ◌∙◌}
use mathlib.Core.List.{List, ◌∷◌, ◌++◌, append_assoc}
use native.Mathlib.Omega.{arith}
use lib.Dec.{ltb}
use borrow.Author.Tests.{lt-ltb}
use lib.ListN.{length, drop, length-append}
use Rattle.wire.specs.Codes as blr
use Rattle.wire.specs.Words.{byte_at}
use Rattle.wire.specs.Classes.{Class, due, classify, boolean_class}
use Rattle.wire.specs.declared.codes.BooleanCode.{BooleanCode}
use Rattle.wire.specs.declared.codes.BooleanCode.TheVariants as Boolean
use Rattle.grammar.specs.Tree as Tree
use Rattle.grammar.specs.Tree.{compare, search, between, connect, not, missing, quantify}
use Rattle.grammar.specs.Bytes.{comparison_code, search_code, connective_code, quantifier_code, boolean_bytes}
use Rattle.grammar.specs.Sizes.{boolean_depth}
use Rattle.grammar.proofs.Due.{comparison-due, search-due, connective-due, quantifier-due}
use Rattle.meaning.specs.Data.{Result, is, refused, stray, ◌>>=◌}
use Rattle.meaning.specs.Runs.{Around}
use Rattle.meaning.specs.Meaning.{boolean_size, truth_of}
use Rattle.walking.specs.Walk.{Walked, at, astray, ◌▷◌, ended, on_class, version_at, Sight, boolean_at}
use Rattle.walking.specs.Sees.{Sees}
use Rattle.walking.proofs.Link.{one_ended, past, byte-is, next, boolean-walk}
use Rattle.explanation.specs.Explanation.{Explained, as_test, joined, turned, test_of, explained_of}
use Rattle.explanation.specs.Internal.Walk.{test_at, explain_under, explain_at}
use Rattle.explanation.proofs.Sizes.{FiveBytes}
use Rattle.explanation.proofs.Few.{few-tests}

-- what stands under a code at p, with so many levels left there
abbrev pub explain_below : {E : Type 0} → Sight E → E → ℕ → ℕ → List ℕ → ℕ → ℕ → BooleanCode → Walked Explained
explain_below w x rows l s n p k =
    explain_under (λ m q. explain_at w x rows (l - 1) s m q) (λ q. boolean_at w x l s q) (ltb n rows) n p k

module _ {E : Type 0} (w : Sight E) (x : E) (rows : ℕ) (s : List ℕ) where
  pub explain-level : (n p : ℕ) → explain_at w x rows 0 s n p ≡ astray
  unfolding explain_at
  explain-level n p = refl

  pub explain-by : (l n p : ℕ) (c : Class BooleanCode) → (l ≡ 0 → ⊥) → c ≡ boolean_class (byte_at s p) →
      explain_at w x rows l s n p ≡ on_class c (λ k. explain_below w x rows l s n p k)
  unfolding explain_at
  explain-by zero n p c h e = absurd (h refl)
  explain-by (suc l) n p c h e = let z : suc l - 1 ≡ l = omega arith in rw (e, z)

  explain-code : (l n p c : ℕ) (k : BooleanCode) (t : List ℕ) → drop p s ≡ c ∷ t → boolean_class c ≡ due k → 0 < l →
      explain_at w x rows l s n p ≡ explain_below w x rows l s n p k
  explain-code l n p c k t e d h = explain-by l n p (due k) (λ z. omega arith) (sym (ap boolean_class (byte-is s p c t e) ∙ d))

-- one after another: what the second gives by the first
both-ended : {A B C : Type 0} (x : Walked A) (y : A → ℕ → Walked B) (m : Result A) (q : ℕ) (n : Result B) (e : ℕ) (f : A → B → C) →
    x ≡ ended m q → ((a : A) → m ≡ is a → y a q ≡ ended n e) →
    (x ▷ (λ a z. y a z ▷ (λ b u. at (f a b) u))) ≡ ended (m >>= (λ a. n >>= (λ b. is (f a b)))) e
both-ended {A} {B} {C} x y m q n e f h k = ap (λ w. w ▷ (λ a z. y a z ▷ (λ b u. at (f a b) u))) h ∙ go m k
  where
    go : (m : Result A) → ((a : A) → m ≡ is a → y a q ≡ ended n e) →
        (ended m q ▷ (λ a z. y a z ▷ (λ b u. at (f a b) u))) ≡ ended (m >>= (λ a. n >>= (λ b. is (f a b)))) e
    go (is a) k = one_ended (y a q) n e (λ b. is (f a b)) (k a refl)
    go (refused r p) k = refl
    go stray k = refl

module _ (s : List ℕ) {E : Type 0} (w : Sight E) (x : E) (a : Around) (rows : ℕ) where
  -- n rows are laid, and there are enough for the tests of b
  abbrev Enough : ℕ → Tree.Boolean → Type 0
  Enough n b = n * 6 + boolean_size b + 1 ≤ rows * 6 + 5

  -- a boolean that is one test
  test-walk : (b : Tree.Boolean) (l n p : ℕ) (post : List ℕ) → boolean_depth b ≤ l → drop p s ≡ boolean_bytes b ++ post → Sees (version_at s) w x a b p →
      5 ≤ boolean_size b → Enough n b →
      test_at (ltb n rows) p (boolean_at w x l s p) ≡ ended (test_of p (truth_of (version_at s) a p b)) (p + boolean_size b)
  test-walk b l n p post h e i j r =
      let f : n < rows = omega (arith, j, r) in
      ap (λ free. test_at free p (boolean_at w x l s p)) (lt-ltb n rows f)
      ∙ one_ended (boolean_at w x l s p) (truth_of (version_at s) a p b) (p + boolean_size b) (λ t. is (as_test p t)) (boolean-walk s w b x a l p post h e i)

  pub explained-walk : (b : Tree.Boolean) (l n p : ℕ) (post : List ℕ) → boolean_depth b ≤ l → drop p s ≡ boolean_bytes b ++ post →
      Sees (version_at s) w x a b p → FiveBytes b → Enough n b → explain_at w x rows l s n p ≡ ended (explained_of (version_at s) a p b) (p + boolean_size b)
  unfolding boolean_depth boolean_bytes explained_of explain_under boolean_class classify Sees
  explained-walk (compare c u v) l n p post h e i k r =
      explain-code w x rows s l n p (comparison_code c) (Boolean.Compare c) _ e (comparison-due c) (omega arith)
      ∙ test-walk (compare c u v) l n p post h e i k r
  explained-walk (search t u v) l n p post h e i k r =
      explain-code w x rows s l n p (search_code t) (Boolean.Search t) _ e (search-due t) (omega arith)
      ∙ test-walk (search t u v) l n p post h e i k r
  explained-walk (between u v z) l n p post h e i k r =
      explain-code w x rows s l n p blr.between Boolean.Between _ e refl (omega arith)
      ∙ test-walk (between u v z) l n p post h e i k r
  explained-walk (connect c b d) l n p post h e i k r =
      let e1 : drop (p + 1) s ≡ boolean_bytes b ++ (boolean_bytes d ++ post) =
      next s p (connective_code c) _ e ∙ append_assoc (boolean_bytes b) (boolean_bytes d) post in
      let e2 = past s (p + 1) (boolean_bytes b) _ e1 in
      let long = length-append (boolean_bytes b) (boolean_bytes d) in
      explain-code w x rows s l n p (connective_code c) (Boolean.Connect c) _ e (connective-due c) (omega arith)
      ∙ both-ended (explain_at w x rows (l - 1) s n (p + 1)) (λ y q. explain_at w x rows (l - 1) s (n + length y.tests) q)
      (explained_of (version_at s) a (p + 1) b) (p + 1 + boolean_size b) (explained_of (version_at s) a (p + 1 + boolean_size b) d)
      (p + 1 + boolean_size b + boolean_size d) (joined c)
      (explained-walk b (l - 1) n (p + 1) _ (omega arith) e1 i.0 k.0 (omega (arith, r, long)))
      (λ y m. let few = few-tests (version_at s) a b (p + 1) y k.0 m in
      explained-walk d (l - 1) (n + length y.tests) (p + 1 + boolean_size b) post (omega arith) e2 i.1 k.1 (omega (arith, r, long, few)))
      ∙ ap (ended (explained_of (version_at s) a p (connect c b d))) (omega (arith, long))
  explained-walk (not b) l n p post h e i k r =
      explain-code w x rows s l n p blr.not Boolean.Not _ e refl (omega arith)
      ∙ one_ended (explain_at w x rows (l - 1) s n (p + 1)) (explained_of (version_at s) a (p + 1) b) (p + 1 + boolean_size b) (λ y. is (turned y))
      (explained-walk b (l - 1) n (p + 1) post (omega arith) (next s p blr.not _ e) i k (omega (arith, r)))
      ∙ ap (ended (explained_of (version_at s) a p (not b))) (omega arith)
  explained-walk (missing v) l n p post h e i k r =
      explain-code w x rows s l n p blr.missing Boolean.Missing _ e refl (omega arith)
      ∙ test-walk (missing v) l n p post h e i k r
  explained-walk (quantify q t) l n p post h e i k r =
      explain-code w x rows s l n p (quantifier_code q) (Boolean.Quantify q) _ e (quantifier-due q) (omega arith)
      ∙ test-walk (quantify q t) l n p post h e i k r
