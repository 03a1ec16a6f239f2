-- The union of sets, one bit for each member, is associative.
use Rattle.std.specs.Prelude.{◌≡◌, ℕ, ◌/◌, ◌%◌, max, bit_or, refl}
use Rattle.std.proofs.Common.{sym, ap, ◌∙◌, arith}
use Rattle.std.proofs.Math.Arith.{bin_ind}
use Rattle.std.specs.Int.Bits.{or_step}

half : (a b : ℕ) → bit_or a b / 2 ≡ bit_or (a / 2) (b / 2)
half a b = omega (arith, or_step a b)

odd : (a b : ℕ) → bit_or a b % 2 ≡ max (a % 2) (b % 2)
odd a b = omega (arith, or_step a b)

pub or_assoc : (a b c : ℕ) → bit_or (bit_or a b) c ≡ bit_or a (bit_or b c)
or_assoc =
    bin_ind (λ (n : ℕ). (b c : ℕ) → bit_or (bit_or n b) c ≡ bit_or n (bit_or b c)) (λ b c. refl)
    (λ n ih b c.
    let hi : bit_or (bit_or n b) c / 2 ≡ bit_or n (bit_or b c) / 2 = half (bit_or n b) c ∙ ap (λ x. bit_or x (c / 2)) (half n b) ∙ ih (b / 2) (c / 2) ∙ sym (half n (bit_or b c) ∙ ap (bit_or (n / 2)) (half b c)) in
    let lo : bit_or (bit_or n b) c % 2 ≡ bit_or n (bit_or b c) % 2 = omega (arith, odd (bit_or n b) c, odd n b, odd n (bit_or b c), odd b c) in
    omega arith)
