-- What the matcher's functions promise.
use Rattle.std.specs.Prelude.{ℕ, ◌≡◌, true, false, List, drop}
use Rattle.text.specs.declared.matching.Matched.{Matched}
use Rattle.text.specs.declared.matching.Matched.TheVariants.{Yes, No, Never}
use Rattle.text.specs.Tests.{matches}

-- what an answer tells of a pattern and a text; Never: of the text and of all its ends
abbrev pub Told : Matched → List ℕ → List ℕ → Type 0
Told Yes p t = matches p t ≡ true
Told No p t = matches p t ≡ false
Told Never p t = (i : ℕ) → matches p (drop i t) ≡ false
