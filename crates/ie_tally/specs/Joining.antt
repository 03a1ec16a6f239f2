-- Each kind of tally keeps the laws, and so do the three together.
use Rattle.std.specs.Prelude.{◌≡◌, ℕ, refl}
use Rattle.std.proofs.Common.{ap, ap₂, rules}
use Rattle.std.specs.Int.Bits.{or_zero_r}
use Rattle.ie_tally.specs.declared.positions.Positions.{Positions}
use Rattle.ie_tally.specs.declared.severity.Severity.{Severity}
use Rattle.ie_tally.specs.declared.skipped.Skipped.{Skipped}
use Rattle.ie_tally.specs.declared.tallies.Tallies.{Tallies}
use Rattle.ie_tally.specs.Severities.{clear, greater}
use Rattle.ie_tally.specs.Unions.{no_positions, union}
use Rattle.ie_tally.specs.Skips.{no_skip, sums}
use Rattle.ie_tally.specs.Tallies.{no_tallies, each_joined}
use Rattle.ie_tally.specs.Bitset.{or_assoc}
use Rattle.ie_tally.specs.Saturating.{saturating_right, saturating_left, saturating_assoc}
use Rattle.ie_tally.specs.Parted.{Laws}

abbrev of_bits : ℕ → Positions
of_bits n = record { bits = n }

abbrev of_both : ℕ → ℕ → Skipped
of_both m n = record { ies = m; octets = n }

abbrev of_three : Severity → Positions → Skipped → Tallies
of_three s t k = record { severity = s; taken = t; skipped = k }

pub severity_laws : Laws clear greater
severity_laws = record { left = λ x. search rules; right = λ x. search rules; assoc = λ x y z. search rules }

pub positions_laws : Laws no_positions union
positions_laws =
    record {
      left = λ x. refl;
      right = λ x. ap of_bits (or_zero_r x.bits);
      assoc = λ x y z. ap of_bits (or_assoc x.bits y.bits z.bits);
    }

pub skipped_laws : Laws no_skip sums
skipped_laws =
    record {
      left = λ x. ap₂ of_both (saturating_left x.ies) (saturating_left x.octets);
      right = λ x. ap₂ of_both (saturating_right x.ies) (saturating_right x.octets);
      assoc = λ x y z. ap₂ of_both (saturating_assoc x.ies y.ies z.ies) (saturating_assoc x.octets y.octets z.octets);
    }

-- the three, each equal to its like
pub three_same : (a b : Tallies) → a.severity ≡ b.severity → a.taken ≡ b.taken → a.skipped ≡ b.skipped → a ≡ b
three_same a b p q r = λ i. of_three (p i) (q i) (r i)

pub tallies_laws : Laws no_tallies each_joined
tallies_laws =
    record {
      left = λ x. three_same _ _ (severity_laws.left x.severity) (positions_laws.left x.taken) (skipped_laws.left x.skipped);
      right = λ x. three_same _ _ (severity_laws.right x.severity) (positions_laws.right x.taken) (skipped_laws.right x.skipped);
      assoc = λ x y z.
          three_same _ _
          (severity_laws.assoc x.severity y.severity z.severity)
          (positions_laws.assoc x.taken y.taken z.taken)
          (skipped_laws.assoc x.skipped y.skipped z.skipped);
    }
