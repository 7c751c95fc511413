-- Whether a field stands whole in a request.
use Rattle.std.specs.Prelude.{ℕ, ◌+◌, Bool, List, leb, length}

-- n bytes stand from a place on
abbrev pub stands : List ℕ → ℕ → ℕ → Bool
stands s p n = leb (p + n) (length s)
