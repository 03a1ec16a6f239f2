-- Order rules. A set of positions is a number, one bit for each (ie_tally, Sets).
--   Order            a rule's function: given the set admitted, is a position in
--   SameOrder        two functions decide alike, of every set and position
--   lets_in          what a rule with this function answers: a position above 63 is out
--   admitted_after   the set after that: out leaves it as it was
--   free             every position is in
--   listed           in exactly if no admitted position is greater
use Rattle.std.specs.Prelude.{◌≡◌, ℕ, Bool, true, cond, not, ◌&&◌, nat_lt}
use Rattle.ie_tally.specs.Sets.{with_position, has_above}

abbrev pub Order : Type 0
Order = ℕ → ℕ → Bool

abbrev pub SameOrder : Order → Order → Type 0
SameOrder one other = (s p : ℕ) → one s p ≡ other s p

abbrev pub lets_in : Order → ℕ → ℕ → Bool
lets_in admits s p = nat_lt p 64 && admits s p

abbrev pub admitted_after : Order → ℕ → ℕ → ℕ
admitted_after admits s p = cond (lets_in admits s p) (with_position s p) s

abbrev pub free : Order
free s p = true

abbrev pub listed : Order
listed s p = not (has_above s p)
