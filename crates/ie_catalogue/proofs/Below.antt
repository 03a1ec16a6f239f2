-- What a test of the numbers below a bound decides.
use Rattle.std.proofs.Common.{◌≡◌, ℕ, ◌<◌, Bool, true, Decides, refl}
use Rattle.std.proofs.lemmas.Bool.Decides.{Decides-below_or}
use Rattle.ie_catalogue.specs.Below.{some_below}

pub some_decides : (test : ℕ → Bool) (n : ℕ) → Decides (some_below test n) ((k : ℕ) × (k < n) × (test k ≡ true))
unfolding some_below
some_decides test n = Decides-below_or test (λ k. test k ≡ true) (some_below test) (λ k. ((λ p. p), (λ p. p))) refl (λ _. refl) n
