-- Saturating sums are associative.
use Rattle.std.specs.Prelude.{◌≡◌, ℕ, ◌+◌, ◌<◌, ◌≤◌, max}
use Rattle.std.proofs.Common.{arith}
use Rattle.ie_tally.specs.Skips.{most, saturating}

-- the sum, as long as it is at most the most; else the most, or the greater of the two if it is above that
low : (x y : ℕ) → x + y ≤ most → saturating x y ≡ x + y
low x y h = omega arith

high : (x y : ℕ) → most ≤ x + y → saturating x y ≡ max (max x y) most
high x y h = omega arith

flat : (x y z : ℕ) → max (max (max (max x y) most) z) most ≡ max (max x (max y z)) most
flat x y z = omega arith

flat' : (x y z : ℕ) → max (max x (max (max y z) most)) most ≡ max (max x (max y z)) most
flat' x y z = omega arith

one : (x y z : ℕ) → x + y ≤ most → y + z ≤ most → saturating (x + y) z ≡ saturating x (y + z)
one x y z h k = omega arith

two : (x y z : ℕ) → x + y ≤ most → most < y + z → saturating (x + y) z ≡ saturating x (max (max y z) most)
two x y z h k = grind arith

three : (x y z : ℕ) → most < x + y → y + z ≤ most → saturating (max (max x y) most) z ≡ saturating x (y + z)
three x y z h k = grind arith

four : (x y z : ℕ) → most < x + y → most < y + z → saturating (max (max x y) most) z ≡ saturating x (max (max y z) most)
four x y z h k = grind arith

pub saturating_assoc : (x y z : ℕ) → saturating (saturating x y) z ≡ saturating x (saturating y z)
saturating_assoc x y z = grind arith

pub saturating_right : (x : ℕ) → saturating x 0 ≡ x
saturating_right x = omega arith

pub saturating_left : (x : ℕ) → saturating 0 x ≡ x
saturating_left x = omega arith
