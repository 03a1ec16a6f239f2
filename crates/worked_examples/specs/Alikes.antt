-- Reports that are not alike, each pair for one reason, and a pair that is.
--   Pair         two messages, with a report of each
--   apart        pairs that differ in the kind, position, IEI octet, size, value length, value or half of a row; in the
--                number or order of rows; in the kind, position or IEI octet of a diagnosis; in their number or order; in
--                severity
--   ToldApart    no pair of them is alike
--   SameSaid     two messages, one with IEs that are skipped: their reports, as the definitions give them, are alike,
--                their places agree, and other places do not
--   PlacesApart  reports that differ in places, entries taken and totals skipped alone are alike
use Rattle.std.specs.Prelude.{ℕ, List, [], ◌∷◌, ◌++◌}
use Rattle.std.specs.List.{AllByRecursion}
use Rattle.ie_walk.specs.declared.faults.Placed.{Placed}
use Rattle.ie_tally.specs.declared.severity.Severity.{Severity}
use Rattle.ie_tally.specs.declared.severity.Severity.TheVariants as severity
use Rattle.ie_report.specs.declared.row.Row.{Row}
use Rattle.ie_report.specs.declared.row.RowKind.{RowKind}
use Rattle.ie_report.specs.declared.row.RowKind.TheVariants.{Taken, Surplus}
use Rattle.ie_report.specs.declared.diagnosis.Diagnosis.{Diagnosis}
use Rattle.ie_report.specs.declared.diagnosis.DiagnosisKind.{DiagnosisKind}
use Rattle.ie_report.specs.declared.diagnosis.DiagnosisKind.TheVariants.{MandatoryMissing, ExpectedMissing}
use Rattle.ie_report.specs.Orders.{free}
use Rattle.ie_report.specs.Judging.{fresh, judge}
use Rattle.ie_report.specs.Reports.{Message, Report}
use Rattle.ie_report.specs.Reports as reports
use Rattle.ie_compare.specs.Alikes.{Alike, Agree, PlacesAgree}
use Rattle.ie_compare.specs.Laws.{CountsStruck}
use Rattle.ul_nas_transport.specs.Table.{table}
use Rattle.worked_examples.specs.Examples.{header, reads}

pub record Pair : Type 0 where
  pub first_message : Message
  pub second_message : Message
  pub first : Report
  pub second : Report

-- three octets, of which the last is a value
abbrev pub message : ℕ → Message
message value = record { octets = 0x22 ∷ 0x01 ∷ value ∷ []; end = 0 }

abbrev pub row : RowKind → ℕ → ℕ → ℕ → ℕ → ℕ → Row
row kind position iei size length half =
    record { kind = kind; position = position; iei = iei; place = 0; size = size; value_place = 2; value_length = length; half = half }

abbrev pub diagnosis : DiagnosisKind → ℕ → ℕ → Placed Diagnosis
diagnosis kind position iei = record { thing = record { kind = kind; position = position; iei = iei }; place = 0 }

abbrev pub report : List Row → List (Placed Diagnosis) → Severity → Report
report rows diagnoses s =
    record { rows = rows; diagnoses = diagnoses; tallies = record { severity = s; taken = record { bits = 8 }; skipped = record { ies = 0; octets = 0 } } }

abbrev pub both_of : Report → Report → Pair
both_of a b = record { first_message = message 5; second_message = message 5; first = a; second = b }

-- beside the row of a taken S-NSSAI
abbrev pub beside_row : Row → Pair
beside_row r = both_of (report (row Taken 3 0x22 3 1 0 ∷ []) [] severity.Clear) (report (r ∷ []) [] severity.Clear)

-- beside a missing mandatory IE
abbrev pub beside_diagnosis : Placed Diagnosis → Pair
beside_diagnosis d = both_of (report [] (diagnosis MandatoryMissing 3 0 ∷ []) severity.Mandatory) (report [] (d ∷ []) severity.Mandatory)

abbrev pub other_value : Pair
other_value =
    record {
      first_message = message 5;
      second_message = message 6;
      first = report (row Taken 3 0x22 3 1 0 ∷ []) [] severity.Clear;
      second = report (row Taken 3 0x22 3 1 0 ∷ []) [] severity.Clear;
    }

abbrev pub apart : List Pair
apart =
    beside_row (row Surplus 3 0x22 3 1 0)
    ∷ beside_row (row Taken 4 0x22 3 1 0)
    ∷ beside_row (row Taken 3 0x23 3 1 0)
    ∷ beside_row (row Taken 3 0x22 4 1 0)
    ∷ beside_row (row Taken 3 0x22 3 2 0)
    ∷ other_value
    ∷ beside_row (row Taken 3 0x22 3 1 1)
    ∷ both_of (report (row Taken 3 0x22 3 1 0 ∷ []) [] severity.Clear) (report [] [] severity.Clear)
    ∷ both_of (report (row Taken 3 0x22 3 1 0 ∷ row Surplus 3 0x22 3 1 0 ∷ []) [] severity.Clear) (report (row Surplus 3 0x22 3 1 0 ∷ row Taken 3 0x22 3 1 0 ∷ []) [] severity.Clear)
    ∷ beside_diagnosis (diagnosis ExpectedMissing 3 0)
    ∷ beside_diagnosis (diagnosis MandatoryMissing 4 0)
    ∷ beside_diagnosis (diagnosis MandatoryMissing 3 1)
    ∷ both_of (report [] (diagnosis MandatoryMissing 3 0 ∷ []) severity.Mandatory) (report [] [] severity.Mandatory)
    ∷ both_of (report [] (diagnosis MandatoryMissing 3 0 ∷ diagnosis ExpectedMissing 3 0 ∷ []) severity.Mandatory) (report [] (diagnosis ExpectedMissing 3 0 ∷ diagnosis MandatoryMissing 3 0 ∷ []) severity.Mandatory)
    ∷ both_of (report [] [] severity.Clear) (report [] [] severity.Conditional)
    ∷ []

abbrev pub ToldApart : Type 0
ToldApart = AllByRecursion (λ (p : Pair). Alike p.first_message p.second_message p.first p.second → ⊥) apart

-- the same value two octets later, and a diagnosis elsewhere
abbrev pub later : Report
later =
    record {
      rows = record { kind = Taken; position = 3; iei = 0x22; place = 2; size = 3; value_place = 4; value_length = 1; half = 0 } ∷ [];
      diagnoses = record { thing = record { kind = MandatoryMissing; position = 3; iei = 0 }; place = 9 } ∷ [];
      tallies = record { severity = severity.Mandatory; taken = record { bits = 0 }; skipped = record { ies = 2; octets = 2 } };
    }

abbrev pub PlacesApart : Type 0
PlacesApart =
    Alike (message 5) (record { octets = 0x91 ∷ 0x92 ∷ 0x22 ∷ 0x01 ∷ 5 ∷ []; end = 0 })
    (report (row Taken 3 0x22 3 1 0 ∷ []) (diagnosis MandatoryMissing 3 0 ∷ []) severity.Mandatory) later

-- a session ID, a request type and a demanding IE, without and with IEs that are skipped
abbrev pub bare : Message
bare = record { octets = header 1 ++ (0x12 ∷ 0x05 ∷ 0x81 ∷ 0x0f ∷ 0x00 ∷ []); end = 6 }

abbrev pub padded : Message
padded = record { octets = header 1 ++ (0x91 ∷ 0x12 ∷ 0x05 ∷ 0x72 ∷ 0x00 ∷ 0x01 ∷ 0xaa ∷ 0x81 ∷ 0x92 ∷ 0x0f ∷ 0x00 ∷ 0x93 ∷ []); end = 6 }

abbrev pub said : Message → Report
said m = reports.report (reads table) fresh (judge (reads table).entries free) m

pub record SameSaid : Type 0 where
  pub alike : Alike bare padded (said bare) (said padded)
  pub places : PlacesAgree (reads table) bare padded (said bare) (said padded)
  pub totals : CountsStruck (reads table) padded (said padded)
  pub elsewhere : Agree (reads table) bare padded 8 8 → ⊥
