-- The rows' faces and the imperative part tell the diagnoses and the severity.
use Rattle.std.proofs.Common.{◌≡◌, ℕ, suc, List, [], ◌∷◌, ◌++◌, map, Some, None, Option, sym, refl, ap, ◌∙◌, ap₂}
use Rattle.std.specs.List.{flat_map, AllByRecursion}
use Rattle.std.specs.Option.{option_to_list, option_map}
use Rattle.std.proofs.lemmas.List.{map-append}
use Rattle.ie_catalogue.specs.declared.entry.Entry.{Entry}
use Rattle.ie_walk.specs.declared.faults.Placed.{Placed}
use Rattle.ie_walk.specs.Reading.{Reading}
use Rattle.ie_tally.specs.declared.positions.Positions.{Positions}
use Rattle.ie_tally.specs.Tallies.{severity_total, positions_total}
use Rattle.ie_report.specs.declared.row.Row.{Row}
use Rattle.ie_report.specs.declared.diagnosis.Diagnosis.{Diagnosis}
use Rattle.ie_report.specs.declared.diagnosis.DiagnosisKind.{DiagnosisKind}
use Rattle.ie_report.specs.Rows.{taken_as}
use Rattle.ie_report.specs.Diagnosing.{of_row, raises, diagnosis_of, at_position, wrong_with, afterwards, severity_of}
use Rattle.ie_report.specs.Reports.{taken_in, diagnoses_in}
use Rattle.ie_compare.specs.Alikes.{Face, face, diagnosed}
use Rattle.ie_compare.proofs.Pairs.{map_map}
use Rattle.ie_compare.proofs.Everys.{every_append}

abbrev face_diagnosis : Face → DiagnosisKind → Diagnosis
face_diagnosis f kind = record { kind = kind; position = f.position; iei = f.iei }

abbrev face_diagnoses : Reading → Face → List Diagnosis
face_diagnoses R f = option_to_list (option_map (face_diagnosis f) (raises R f.kind f.position f.iei))

one_diagnosed : (octets : List ℕ) (r : Row) (o : Option DiagnosisKind) → map diagnosed (option_to_list (option_map (λ (k : DiagnosisKind). of_row k r) o)) ≡ option_to_list (option_map (face_diagnosis (face octets r)) o)
one_diagnosed octets r None = refl
one_diagnosed octets r (Some k) = refl

-- the entries that rows with these faces take
abbrev pub taken_faces : List Face → Positions
taken_faces fs = positions_total (map (λ (f : Face). taken_as f.kind f.position) fs)

pub taken_told : (octets : List ℕ) (rows : List Row) → taken_in rows ≡ taken_faces (map (face octets) rows)
taken_told octets rows = ap positions_total (sym (map_map (λ (f : Face). taken_as f.kind f.position) (face octets) rows))

module _ (R : Reading) where
  message_diagnosed : (octets : List ℕ) (rows : List Row) → map diagnosed (flat_map (λ (r : Row). option_to_list (diagnosis_of R r)) rows) ≡ flat_map (face_diagnoses R) (map (face octets) rows)
  message_diagnosed octets [] = refl
  message_diagnosed octets (r ∷ rows) =
      map-append diagnosed (option_to_list (diagnosis_of R r)) (flat_map (λ (x : Row). option_to_list (diagnosis_of R x)) rows)
      ∙ ap₂ (λ a b. a ++ b) (one_diagnosed octets r (raises R r.kind r.position r.iei)) (message_diagnosed octets rows)

  abbrev faces_diagnosed : List ℕ → List Face → List Diagnosis
  faces_diagnosed imp fs =
      flat_map (face_diagnoses R) fs ++ map diagnosed (afterwards imp (taken_faces fs).bits 0 R.entries)

  diagnoses_told : (imp octets : List ℕ) (rows : List Row) → map diagnosed (diagnoses_in R imp rows) ≡ faces_diagnosed imp (map (face octets) rows)
  diagnoses_told imp octets rows =
      map-append diagnosed (flat_map (λ (r : Row). option_to_list (diagnosis_of R r)) rows) (afterwards imp (taken_in rows).bits 0 R.entries)
      ∙ ap₂ (λ a b. a ++ b) (message_diagnosed octets rows) (ap (λ (t : Positions). map diagnosed (afterwards imp t.bits 0 R.entries)) (taken_told octets rows))

  -- rows with the same faces have the same diagnoses, but for places
  pub same_diagnosed : (imp imp' octets octets' : List ℕ) (rows rows' : List Row) → imp ≡ imp' → map (face octets) rows ≡ map (face octets') rows' → map diagnosed (diagnoses_in R imp rows) ≡ map diagnosed (diagnoses_in R imp' rows')
  same_diagnosed imp imp' octets octets' rows rows' e f =
      diagnoses_told imp octets rows ∙ ap₂ faces_diagnosed e f ∙ sym (diagnoses_told imp' octets' rows')

  pub same_severity : (ds ds' : List (Placed Diagnosis)) → map diagnosed ds ≡ map diagnosed ds' → severity_total (map (λ (d : Placed Diagnosis). severity_of R.entries d.thing) ds) ≡ severity_total (map (λ (d : Placed Diagnosis). severity_of R.entries d.thing) ds')
  same_severity ds ds' e =
      ap severity_total
      (sym (map_map (severity_of R.entries) diagnosed ds) ∙ ap (map (severity_of R.entries)) e ∙ map_map (severity_of R.entries) diagnosed ds')

-- the diagnoses by position stand at 0
abbrev pub AtZero : Placed Diagnosis → Type 0
AtZero d = d.place ≡ 0

one_at_zero : (p : ℕ) (o : Option DiagnosisKind) → AllByRecursion AtZero (option_to_list (option_map (at_position p) o))
one_at_zero p None = tt
one_at_zero p (Some k) = (refl, tt)

pub afterwards_at_zero : (imp : List ℕ) (taken p : ℕ) (es : List Entry) → AllByRecursion AtZero (afterwards imp taken p es)
afterwards_at_zero imp taken p [] = tt
afterwards_at_zero imp taken p (e ∷ es) =
    every_append AtZero (option_to_list (option_map (at_position p) (wrong_with imp taken p e))) _ (one_at_zero p (wrong_with imp taken p e)) (afterwards_at_zero imp taken (suc p) es)
