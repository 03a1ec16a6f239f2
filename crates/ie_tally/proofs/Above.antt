-- A set has a greater position exactly if more than one bit is left of it from the position on.
use Rattle.std.proofs.Common.{◌≡◌, ℕ, suc, ◌+◌, ◌-◌, ◌/◌, ◌%◌, ◌^◌, ◌<◌, ◌≤◌, true, false, ◌&&◌, eqb, ltb, sym, ap, ◌∙◌, ⊎_elim, pow-suc, arith, pow_mono}
use Rattle.std.proofs.Math.Nat.{div-eq_of_lt}
use Rattle.std.proofs.lemmas.Nat.{shr-shr, le-div, div_below, leading_top, pow_pos, pow_below}
use Rattle.std.proofs.lemmas.Bool.{ltb-true, lt-ltb, cases_lt, and_right, and_from, and_parts, both_ways, cases_Bool}
use Rattle.std.proofs.lemmas.Bool.Decides.{same_from_decides}
use Rattle.ie_catalogue.proofs.Below.{some_decides}
use Rattle.ie_tally.specs.Sets.{has, has_above}

no_bit : (s p q : ℕ) → s / 2 ^ p ≤ 1 → p < q → has s q ≡ false
no_bit s p q h lt =
    let k : p + (q - p) ≡ q = omega arith in
    let w = pow_below 0 (q - p) (omega arith) in
    let z : s / 2 ^ q ≡ 0 = ap (λ n. s / 2 ^ n) (sym k) ∙ sym (shr-shr s p (q - p)) ∙ div-eq_of_lt (omega arith) in
    and_right (ltb q 64) (eqb (s / 2 ^ q % 2) 1) (ap (λ n. eqb (n % 2) 1) z)

no_zero : (s p : ℕ) → s ≡ 0 → 1 < s / 2 ^ p → ⊥
no_zero s p z big = let g : s / 2 ^ p ≡ 0 = div-eq_of_lt (omega (arith, pow_pos p)) in omega arith

-- the top position of a set that is not empty
top_bit : (s j : ℕ) → j < 64 → 2 ^ j ≤ s → s < 2 ^ suc j → has s j ≡ true
top_bit s j in64 lo hi =
    let pos = pow_pos j in
    let double = pow-suc 2 j in
    let least : 1 ≤ s / 2 ^ j = le-div 1 s (2 ^ j) pos (omega arith) in
    let most : s / 2 ^ j < 2 = div_below s (2 ^ j) 2 pos (omega arith) in
    let one : s / 2 ^ j ≡ 1 = omega arith in
    and_from (ltb j 64) (eqb (s / 2 ^ j % 2) 1) (lt-ltb j 64 in64) (ap (λ n. eqb (n % 2) 1) one)

below_top : (s p j : ℕ) → 1 < s / 2 ^ p → s < 2 ^ suc j → p < j
below_top s p j big hi =
    ⊎_elim (λ lt. lt)
    (λ le.
    let pos = pow_pos p in
    let double = pow-suc 2 p in
    let mono : 2 ^ suc j ≤ 2 ^ suc p = pow_mono (omega arith) in
    let most : s / 2 ^ p < 2 = div_below s (2 ^ p) 2 pos (omega arith) in
    absurd (omega arith))
    (cases_lt p j)

abbrev Above : ℕ → ℕ → Type 0
Above s p = (q : ℕ) × (q < 64) × ((ltb p q && has s q) ≡ true)

found_above : (s p : ℕ) → s < 2 ^ 64 → 1 < s / 2 ^ p → Above s p
found_above s p fits big =
    let some : 0 < s = ⊎_elim (λ h. h) (λ h. let z : s ≡ 0 = omega arith in absurd (no_zero s p z big)) (cases_lt 0 s) in
    let top = leading_top 64 s some fits in
    let j = top.0 in
    let in64 : j < 64 = omega (arith, top.1) in
    (j, in64, and_from (ltb p j) (has s j) (lt-ltb p j (below_top s p j big top.3)) (top_bit s j in64 top.2 top.3))

left_above : (s p : ℕ) → Above s p → 1 < s / 2 ^ p
left_above s p a =
    let both = and_parts (ltb p a.0) (has s a.0) a.2 in
    ⊎_elim (λ h. h) (λ le. absurd (both_ways _ (no_bit s p a.0 le (ltb-true p a.0 both.0)) both.1)) (cases_lt 1 (s / 2 ^ p))

pub above_is : (s p : ℕ) → s < 2 ^ 64 → ltb 1 (s / 2 ^ p) ≡ has_above s p
above_is s p fits =
    same_from_decides (ltb 1 (s / 2 ^ p)) (has_above s p)
    (λ e. found_above s p fits (ltb-true 1 (s / 2 ^ p) e), λ a. lt-ltb 1 (s / 2 ^ p) (left_above s p a))
    (some_decides (λ q. ltb p q && has s q) 64)

-- no position is above 63
pub none_above : (s p : ℕ) → 64 ≤ p → has_above s p ≡ false
none_above s p h =
    ⊎_elim
    (λ e. let a = (some_decides (λ q. ltb p q && has s q) 64).0 e in let both = and_parts (ltb p a.0) (has s a.0) a.2 in absurd (omega (arith, a.1, ltb-true p a.0 both.0)))
    (λ e. e)
    (cases_Bool (has_above s p))
