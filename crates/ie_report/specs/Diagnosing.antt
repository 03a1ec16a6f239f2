-- Diagnoses.
--   in_frame       the format is the frame: 4 for TLV, 6 for TLV-E
--   raises         what a row of a kind, position and IEI octet is diagnosed as
--   diagnosis_of   the diagnosis of a row, if it has one
--   holds          a test, given the imperative part and the set of entries taken
--   wrong_with     what is wrong with the entry at a position once all IEs are judged
--   afterwards     the diagnoses by position
--   severity_of    how severe a diagnosis is
use Rattle.std.specs.Prelude.{ℕ, suc, Bool, true, false, cond, not, ◌&&◌, List, [], ◌∷◌, ◌++◌, length, Some, None, Option, ◌==◌, bit_and, nat_lt, slice_index}
use Rattle.std.specs.Option.{option_to_list, option_map}
use Rattle.ie_catalogue.specs.declared.entry.Entry.{Entry}
use Rattle.ie_catalogue.specs.declared.row.Format.{Format}
use Rattle.ie_catalogue.specs.declared.row.Format.TheVariants as format
use Rattle.ie_catalogue.specs.declared.row.Presence.{Presence}
use Rattle.ie_catalogue.specs.declared.row.Presence.TheVariants as presence
use Rattle.ie_catalogue.specs.declared.row.Test.{Test}
use Rattle.ie_catalogue.specs.declared.row.Test.TheVariants.{Never, IfPresent, IfAbsent, IfOctet}
use Rattle.ie_catalogue.specs.Entries.{presence_of, expect_of, forbid_of}
use Rattle.ie_walk.specs.declared.faults.Placed.{Placed}
use Rattle.ie_walk.specs.declared.skip.Frame.{Frame}
use Rattle.ie_walk.specs.declared.skip.Frame.TheVariants as frame
use Rattle.ie_walk.specs.Reading.{Reading}
use Rattle.ie_tally.specs.declared.severity.Severity.{Severity}
use Rattle.ie_tally.specs.declared.severity.Severity.TheVariants as severity
use Rattle.ie_tally.specs.Sets.{has}
use Rattle.ie_tally.specs.Severities.{by_presence}
use Rattle.ie_report.specs.declared.row.Row.{Row}
use Rattle.ie_report.specs.declared.row.RowKind.{RowKind}
use Rattle.ie_report.specs.declared.row.RowKind.TheVariants as row
use Rattle.ie_report.specs.declared.diagnosis.Diagnosis.{Diagnosis}
use Rattle.ie_report.specs.declared.diagnosis.DiagnosisKind.{DiagnosisKind}
use Rattle.ie_report.specs.declared.diagnosis.DiagnosisKind.TheVariants.{UnknownDemanding, OutOfSequence, IllSized, MandatoryMissing, ExpectedMissing, ForbiddenPresent}
use Rattle.ie_report.specs.Judging.{entry_at, format_in}

abbrev pub is_tlv : Frame → Bool
is_tlv frame.OneOctet = false
is_tlv frame.Tlv = true
is_tlv frame.TlvE = false

abbrev pub is_tlv_e : Frame → Bool
is_tlv_e frame.OneOctet = false
is_tlv_e frame.Tlv = false
is_tlv_e frame.TlvE = true

abbrev pub in_frame : Option Format → Frame → Bool
in_frame None f = false
in_frame (Some format.TvHalf) f = false
in_frame (Some format.T) f = false
in_frame (Some format.Tv) f = false
in_frame (Some format.Tlv) f = is_tlv f
in_frame (Some format.TlvE) f = is_tlv_e f

-- with the row's position, IEI octet and place
abbrev pub of_row : DiagnosisKind → Row → Placed Diagnosis
of_row kind r = record { thing = record { kind = kind; position = r.position; iei = r.iei }; place = r.place }

-- an IE out of sequence counts only where the skip rule frames its octet as its format does, and the octet is demanding
abbrev pub raises : Reading → RowKind → ℕ → ℕ → Option DiagnosisKind
raises R row.Taken p iei = None
raises R row.Surplus p iei = None
raises R row.OutOfSequence p iei = cond (in_frame (format_in (entry_at R.entries p)) (R.framed iei) && R.demands iei) (Some OutOfSequence) None
raises R row.IllSized p iei = Some IllSized
raises R row.UnknownDemanding p iei = Some UnknownDemanding

abbrev pub diagnosis_of : Reading → Row → Option (Placed Diagnosis)
diagnosis_of R r = option_map (λ (kind : DiagnosisKind). of_row kind r) (raises R r.kind r.position r.iei)

-- an absent entry, or one beyond the catalogue, was not taken
abbrev pub holds : List ℕ → ℕ → Test → Bool
holds imperative taken Never = false
holds imperative taken (IfPresent p) = has taken p
holds imperative taken (IfAbsent p) = not (has taken p)
holds imperative taken (IfOctet p mask value) = nat_lt p (length imperative) && bit_and (slice_index imperative p) mask == value

-- by presence: whether the entry was taken, is expected, is forbidden; a hidden entry is optional
abbrev pub wrong_by : Presence → Bool → Bool → Bool → Option DiagnosisKind
wrong_by presence.Mandatory taken expected forbidden = cond taken None (Some MandatoryMissing)
wrong_by presence.Conditional taken expected forbidden =
    cond taken (cond forbidden (Some ForbiddenPresent) None) (cond expected (Some ExpectedMissing) None)
wrong_by presence.Optional taken expected forbidden = None

abbrev pub wrong_with : List ℕ → ℕ → ℕ → Entry → Option DiagnosisKind
wrong_with imperative taken p e =
    wrong_by (presence_of e) (has taken p) (holds imperative taken (expect_of e)) (holds imperative taken (forbid_of e))

-- a diagnosis of an entry has no IEI octet and no place
abbrev pub at_position : ℕ → DiagnosisKind → Placed Diagnosis
at_position p kind = record { thing = record { kind = kind; position = p; iei = 0 }; place = 0 }

-- the first of the entries has the position p
abbrev pub afterwards : List ℕ → ℕ → ℕ → List Entry → List (Placed Diagnosis)
afterwards imperative taken p [] = []
afterwards imperative taken p (e ∷ es) =
    option_to_list (option_map (at_position p) (wrong_with imperative taken p e)) ++ afterwards imperative taken (suc p) es

-- given the entry's presence
abbrev pub severity_by : DiagnosisKind → Presence → Severity
severity_by UnknownDemanding p = severity.Mandatory
severity_by OutOfSequence p = severity.Mandatory
severity_by IllSized p = by_presence p
severity_by MandatoryMissing p = severity.Mandatory
severity_by ExpectedMissing p = severity.Conditional
severity_by ForbiddenPresent p = severity.Conditional

abbrev pub severity_of : List Entry → Diagnosis → Severity
severity_of es d = severity_by d.kind (presence_of (entry_at es d.position))
