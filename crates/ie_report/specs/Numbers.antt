-- The number of each case, and the values that go with it.
--   row_number, row_values               what became of an IE; all that a row tells
--   diagnosis_number, diagnosis_values   what is wrong; all that a diagnosis tells, with its place
--   summary_values                       all that a summary tells, the entries taken as a set
--   report_refusal                       why a report is declined
use Rattle.std.specs.Prelude.{ℕ, List, [], ◌∷◌}
use Rattle.ie_catalogue.specs.Refusals.{Refusal, refused}
use Rattle.ie_walk.specs.declared.faults.Placed.{Placed}
use Rattle.ie_walk.specs.Faults.{message_refusal}
use Rattle.ie_tally.specs.Severities.{severity_number}
use Rattle.ie_report.specs.declared.row.Row.{Row}
use Rattle.ie_report.specs.declared.row.RowKind.{RowKind}
use Rattle.ie_report.specs.declared.row.RowKind.TheVariants as row
use Rattle.ie_report.specs.declared.diagnosis.Diagnosis.{Diagnosis}
use Rattle.ie_report.specs.declared.diagnosis.DiagnosisKind.{DiagnosisKind}
use Rattle.ie_report.specs.declared.diagnosis.DiagnosisKind.TheVariants as diagnosis
use Rattle.ie_report.specs.declared.summary.Summary.{Summary}
use Rattle.ie_report.specs.declared.refusal.ReportRefusal.{ReportRefusal}
use Rattle.ie_report.specs.declared.refusal.ReportRefusal.TheVariants.{Message, RowPlaces, DiagnosisPlaces}

abbrev pub row_number : RowKind → ℕ
row_number row.Taken = 1
row_number row.Surplus = 2
row_number row.OutOfSequence = 3
row_number row.IllSized = 4
row_number row.UnknownDemanding = 5

abbrev pub row_values : Row → List ℕ
row_values r =
    row_number r.kind ∷ r.position ∷ r.iei ∷ r.place ∷ r.size ∷ r.value_place ∷ r.value_length ∷ r.half ∷ []

abbrev pub diagnosis_number : DiagnosisKind → ℕ
diagnosis_number diagnosis.UnknownDemanding = 1
diagnosis_number diagnosis.OutOfSequence = 2
diagnosis_number diagnosis.IllSized = 3
diagnosis_number diagnosis.MandatoryMissing = 4
diagnosis_number diagnosis.ExpectedMissing = 5
diagnosis_number diagnosis.ForbiddenPresent = 6

abbrev pub diagnosis_values : Placed Diagnosis → List ℕ
diagnosis_values d = diagnosis_number d.thing.kind ∷ d.thing.position ∷ d.thing.iei ∷ d.place ∷ []

abbrev pub summary_values : Summary → List ℕ
summary_values s =
    severity_number s.tallies.severity ∷ s.rows ∷ s.diagnoses ∷ s.tallies.taken.bits ∷ s.tallies.skipped.ies ∷ s.tallies.skipped.octets ∷ []

abbrev pub report_refusal : ReportRefusal → Refusal
report_refusal (Message fault) = message_refusal fault
report_refusal RowPlaces = refused 4
report_refusal DiagnosisPlaces = refused 5
