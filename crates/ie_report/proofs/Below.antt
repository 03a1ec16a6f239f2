-- A chain over the numbers below a bound asks as the test of them does.
use Rattle.std.proofs.Common.{◌≡◌, ℕ, zero, suc, ◌+◌, Bool, ◌||◌, refl, ap, ◌∙◌, arith}
use Rattle.std.specs.List.{list_any, range_with_len}
use Rattle.ie_catalogue.specs.Below.{some_below}

-- the last number first
any_last : (test : ℕ → Bool) (a n k : ℕ) → a + n ≡ k → list_any test (range_with_len a (suc n)) ≡ (test k || list_any test (range_with_len a n))
any_last test a zero k e = grind (arith)
any_last test a (suc n) k e = let h = any_last test (a + 1) n k (omega arith) in grind (arith)

pub any_below : (test : ℕ → Bool) (n : ℕ) → list_any test (range_with_len 0 n) ≡ some_below test n
unfolding some_below
any_below test zero = refl
any_below test (suc n) = any_last test 0 n n (omega arith) ∙ ap (λ b. test n || b) (any_below test n)
