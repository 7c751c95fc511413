-- Whether a code is that of a for, and the codes with a heading.
use mathlib.Core.Path.{◌≡◌, refl}
use mathlib.Core.Bool.{true, false, false≢true}
use Rattle.std.proofs.Common.{◌⊎◌, inl, inr}
use Rattle.wire.specs.declared.codes.StatementCode.{StatementCode}
use Rattle.wire.specs.declared.codes.StatementCode.TheVariants as Code
use Rattle.reader.specs.Given.{opens_scope, has_heading}

-- a code that opens a scope is that of a for, or of a heading
pub for_or : (k : StatementCode) → (k ≡ Code.For) ⊎ (k ≡ Code.For → ⊥)
for_or Code.Assignment = inr (λ z. cc)
for_or Code.Begin = inr (λ z. cc)
for_or Code.Erase = inr (λ z. cc)
for_or Code.For = inl refl
for_or Code.Loop = inr (λ z. cc)
for_or Code.Modify = inr (λ z. cc)
for_or Code.Handler = inr (λ z. cc)
for_or Code.Receive = inr (λ z. cc)
for_or Code.Send = inr (λ z. cc)
for_or Code.Store = inr (λ z. cc)
for_or Code.Label = inr (λ z. cc)
for_or Code.Leave = inr (λ z. cc)
for_or Code.If = inr (λ z. cc)
for_or Code.Select = inr (λ z. cc)

-- it has a heading
pub opening-has : (k : StatementCode) → opens_scope k ≡ true → has_heading k ≡ true
opening-has Code.Assignment h = absurd (false≢true h)
opening-has Code.Begin h = absurd (false≢true h)
opening-has Code.Erase h = absurd (false≢true h)
opening-has Code.For h = refl
opening-has Code.Loop h = refl
opening-has Code.Modify h = refl
opening-has Code.Handler h = refl
opening-has Code.Receive h = refl
opening-has Code.Send h = refl
opening-has Code.Store h = refl
opening-has Code.Label h = refl
opening-has Code.Leave h = absurd (false≢true h)
opening-has Code.If h = absurd (false≢true h)
opening-has Code.Select h = absurd (false≢true h)

-- a loop, a handler and a receive have one, and open no scope
pub plain-has : (k : StatementCode) → (k ≡ Code.Loop) ⊎ ((k ≡ Code.Handler) ⊎ (k ≡ Code.Receive)) →
    (has_heading k ≡ true) × (opens_scope k ≡ false)
plain-has k h = elim h [
  | inl z ↦ rw z (refl, refl)
  | inr i ↦ elim i [ inl z ↦ rw z (refl, refl) | inr z ↦ rw z (refl, refl) ]
]
