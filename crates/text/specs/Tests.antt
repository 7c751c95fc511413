-- Order, containing, matching, starting: tests of two texts without trailing blanks.
use Rattle.std.specs.Prelude.{ℕ, zero, suc, ◌+◌, max, Bool, true, false, cond, ◌&&◌, ◌||◌, List, [], ◌∷◌, leb, eqb, length, get_or}
use Rattle.std.specs.declared.cmp.Ordering.{Ordering}
use Rattle.std.specs.declared.cmp.Ordering.TheVariants.{Equal}
use Rattle.wire.specs.Orders.{order_ℕ, where_equal}
use Rattle.wire.specs.declared.codes.TextSearch.{TextSearch}
use Rattle.wire.specs.declared.codes.TextSearch.TheVariants.{Containing, Matching, Starting}
use Rattle.text.specs.Value.{blank}

-- the order of n bytes from i on, a blank for each byte past the end
unfoldable pub order_from : ℕ → ℕ → List ℕ → List ℕ → Ordering
order_from zero i a b = Equal
order_from (suc n) i a b = where_equal (order_ℕ (get_or a i blank) (get_or b i blank)) (order_from n (suc i) a b)

-- 01: "Order is by unsigned bytes, the shorter padded with blanks."
unfoldable pub text_order : List ℕ → List ℕ → Ordering
text_order a b = order_from (max (length a) (length b)) 0 a b

-- the capital letters of ASCII, and how far on the small letter of each stands
abbrev pub first_capital : ℕ
first_capital = 65

abbrev pub last_capital : ℕ
last_capital = 90

abbrev pub to_small : ℕ
to_small = 32

unfoldable pub lower_case : ℕ → ℕ
lower_case c = cond (leb first_capital c && leb c last_capital) (c + to_small) c

-- the same byte but for ASCII case, as `containing` and `matches` have it and `starting` does not
-- 01: "53 and 54 ignore ASCII case, 55 does not."
abbrev pub same_letter : ℕ → ℕ → Bool
same_letter x y = eqb (lower_case x) (lower_case y)

-- b stands at the start of a, byte by byte under a test
unfoldable pub starts_by : (ℕ → ℕ → Bool) → List ℕ → List ℕ → Bool
starts_by same a [] = true
starts_by same [] (y ∷ b) = false
starts_by same (x ∷ a) (y ∷ b) = same x y && starts_by same a b

-- 01: "Containing or starting with an empty text is true."
unfoldable pub starting : List ℕ → List ℕ → Bool
starting a b = starts_by eqb a b

unfoldable pub containing : List ℕ → List ℕ → Bool
containing [] b = starts_by same_letter [] b
containing (x ∷ a) b = starts_by same_letter (x ∷ a) b || containing a b

-- 01: "In 54 `*` is any run, `?` one byte."
abbrev pub any_run_sign : ℕ
any_run_sign = 42

abbrev pub one_byte_sign : ℕ
one_byte_sign = 63

abbrev pub is_empty : List ℕ → Bool
is_empty [] = true
is_empty (x ∷ t) = false

-- the rest of a pattern matches what is left of the text after some run
unfoldable pub after_run : (List ℕ → Bool) → List ℕ → Bool
after_run rest [] = rest []
after_run rest (x ∷ t) = rest (x ∷ t) || after_run rest t

-- the sign c of a pattern, which is no `*`, matches the byte x
abbrev pub sign_matches : ℕ → ℕ → Bool
sign_matches c x = eqb c one_byte_sign || same_letter c x

-- the sign c of a pattern matches the first byte, and the rest of the pattern the rest
unfoldable pub after_byte : ℕ → (List ℕ → Bool) → List ℕ → Bool
after_byte c rest [] = false
after_byte c rest (x ∷ t) = sign_matches c x && rest t

-- a pattern against a whole text
unfoldable pub matches : List ℕ → List ℕ → Bool
matches [] t = is_empty t
matches (c ∷ p) t = cond (eqb c any_run_sign) (after_run (matches p)) (after_byte c (matches p)) t

-- value 1 contains, matches, starts with value 2
unfoldable pub search : TextSearch → List ℕ → List ℕ → Bool
search Containing a b = containing a b
search Matching a b = matches b a
search Starting a b = starting a b
