-- Why the pairs are not alike: some number of theirs differs.
use Rattle.std.proofs.Common.{◌≡◌, ℕ, List, [], ◌∷◌, length, get_or, refl, ap, arith}
use Rattle.ie_tally.specs.Severities.{severity_number}
use Rattle.ie_report.specs.declared.diagnosis.Diagnosis.{Diagnosis}
use Rattle.ie_report.specs.Numbers.{row_number, diagnosis_number}
use Rattle.ie_compare.specs.Alikes.{Face}
use Rattle.ie_report.specs.Reports.{report}
use Rattle.ie_compare.specs.Strikes.{strike, skipped_before}
use Rattle.worked_examples.specs.Alikes.{ToldApart, PlacesApart, SameSaid}

-- a number of the first of a list
abbrev first : {X : Type 0} → (X → ℕ) → List X → ℕ
first f [] = 0
first f (x ∷ xs) = f x

face_of : {x y : List Face} (f : Face → ℕ) → x ≡ y → first f x ≡ first f y
face_of f e = ap (first f) e

diagnosis_of : {x y : List Diagnosis} (f : Diagnosis → ℕ) → x ≡ y → first f x ≡ first f y
diagnosis_of f e = ap (first f) e

pub told_apart : ToldApart
told_apart = (λ h. omega (arith, face_of (λ f. row_number f.kind) h.rows), (λ h. omega (arith, face_of (λ f. f.position) h.rows), (λ h. omega (arith, face_of (λ f. f.iei) h.rows), (λ h. omega (arith, face_of (λ f. f.size) h.rows), (λ h. omega (arith, face_of (λ f. f.length) h.rows), (λ h. omega (arith, face_of (λ f. get_or f.value 0 0) h.rows), (λ h. omega (arith, face_of (λ f. f.half) h.rows), (λ h. omega (arith, ap length h.rows), (λ h. omega (arith, face_of (λ f. row_number f.kind) h.rows), (λ h. omega (arith, diagnosis_of (λ d. diagnosis_number d.kind) h.diagnoses), (λ h. omega (arith, diagnosis_of (λ d. d.position) h.diagnoses), (λ h. omega (arith, diagnosis_of (λ d. d.iei) h.diagnoses), (λ h. omega (arith, ap length h.diagnoses), (λ h. omega (arith, diagnosis_of (λ d. diagnosis_number d.kind) h.diagnoses), (λ h. omega (arith, ap severity_number h.severity), tt)))))))))))))))

pub places_apart : PlacesApart
places_apart = record { severity = refl; rows = refl; diagnoses = refl }

pub same_said : SameSaid
unfolding report strike skipped_before
same_said =
    record {
      alike = record { severity = refl; rows = refl; diagnoses = refl };
      places = record { rows = (refl, (refl, (refl, tt))); values = (refl, (refl, (refl, tt))); diagnoses = (refl, tt) };
      totals = record { ies = refl; octets = refl };
      elsewhere = λ e. omega (arith, e);
    }
