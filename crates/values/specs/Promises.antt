-- What the operators and tests promise: the meaning's own, on what the operands stand for. The first refusal or stray met, in reading
-- order, stands.
use Rattle.std.specs.Prelude.{ℕ, ◌≡◌}
use Rattle.wire.specs.declared.codes.Version.{Version}
use Rattle.wire.specs.declared.codes.Operator.{Operator}
use Rattle.wire.specs.declared.codes.Comparison.{Comparison}
use Rattle.wire.specs.declared.codes.TextSearch.{TextSearch}
use Rattle.wire.specs.declared.codes.Connective.{Connective}
use Rattle.meaning.specs.Data.{arithmetic_of, negate_of, compare_of, search_of, between_of, missing_of, connected, opposite}
use Rattle.walking.specs.Walk.{at, ended, ◌▷◌}
use Rattle.values.specs.Values.{Lent, Valued, Tested, valued, tested}

abbrev pub Calculated : Version → Operator → Valued → Valued → ℕ → Valued → Type 0
Calculated v o a b place r = (m : Lent) → valued m r ≡ (valued m a ▷ (λ x q. valued m b ▷ (λ y e. ended (arithmetic_of v o place x y) e)))

abbrev pub Negated : Valued → ℕ → Valued → Type 0
Negated a place r = (m : Lent) → valued m r ≡ (valued m a ▷ (λ x e. ended (negate_of place x) e))

abbrev pub Compared : Lent → Comparison → Valued → Valued → Tested → Type 0
Compared m c a b r = tested r ≡ (valued m a ▷ (λ x q. valued m b ▷ (λ y e. ended (compare_of c x y) e)))

abbrev pub Searched : Lent → TextSearch → Valued → Valued → Tested → Type 0
Searched m t a b r = tested r ≡ (valued m a ▷ (λ x q. valued m b ▷ (λ y e. ended (search_of t x y) e)))

abbrev pub Between : Lent → Valued → Valued → Valued → Tested → Type 0
Between m a b c r =
    tested r ≡ (valued m a ▷ (λ x q. valued m b ▷ (λ y u. valued m c ▷ (λ z e. ended (between_of x y z) e))))

abbrev pub TestedMissing : Valued → Tested → Type 0
TestedMissing a r = (m : Lent) → tested r ≡ (valued m a ▷ (λ x e. at (missing_of x) e))

abbrev pub Connected : Connective → Tested → Tested → Tested → Type 0
Connected c a b r = tested r ≡ (tested a ▷ (λ x q. tested b ▷ (λ y e. at (connected c x y) e)))

abbrev pub Opposite : Tested → Tested → Type 0
Opposite a r = tested r ≡ (tested a ▷ (λ x e. at (opposite x) e))
