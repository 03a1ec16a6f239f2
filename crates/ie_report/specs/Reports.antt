-- The report.
--   Message          octets, and where their imperative part ends
--   imperative       the octets before that
--   tokens, fault    what the walk finds behind it, and what ended the walk, if anything did
--   Report           rows, diagnoses, tallies
--   report           of any message, by any step of judging
--   summary_of       how many rows and diagnoses it has, and its tallies
--   outcome          what a report answers, lent so many places for rows and for diagnoses: the first cause that holds
--                    declines it
use Rattle.std.specs.Prelude.{ℕ, Bool, true, false, List, ◌++◌, map, length, take, Some, None, Ok, Err, Option, Result, nat_lt}
use Rattle.std.specs.List.{flat_map, filter}
use Rattle.std.specs.Option.{option_to_list}
use Rattle.ie_catalogue.specs.Refusals.{Refusal, refused}
use Rattle.ie_walk.specs.declared.faults.Placed.{Placed}
use Rattle.ie_walk.specs.Faults.{starting}
use Rattle.ie_walk.specs.Reading.{Reading}
use Rattle.ie_walk.specs.Walks.{Found}
use Rattle.ie_walk.specs.Runs.{walked}
use Rattle.ie_tally.specs.declared.positions.Positions.{Positions}
use Rattle.ie_tally.specs.declared.tallies.Tallies.{Tallies}
use Rattle.ie_tally.specs.Tallies.{severity_total, positions_total, skipped_total}
use Rattle.ie_report.specs.declared.row.Row.{Row}
use Rattle.ie_report.specs.declared.diagnosis.Diagnosis.{Diagnosis}
use Rattle.ie_report.specs.declared.summary.Summary.{Summary}
use Rattle.ie_report.specs.Judging.{Step}
use Rattle.ie_report.specs.Rows.{stays, rows_from, taken_by, skip_of}
use Rattle.ie_report.specs.Diagnosing.{diagnosis_of, afterwards, severity_of}

pub record Message : Type 0 where
  pub octets : List ℕ
  pub end : ℕ

abbrev pub imperative : Message → List ℕ
imperative m = take m.end m.octets

abbrev pub tokens : Reading → Message → List Found
tokens R m = (walked R m.octets m.end).tokens

abbrev pub fault : Reading → Message → Option Refusal
fault R m = (walked R m.octets m.end).fault

pub record Report : Type 0 where
  pub rows : List Row
  pub diagnoses : List (Placed Diagnosis)
  pub tallies : Tallies

-- the entries that the rows take
abbrev pub taken_in : List Row → Positions
taken_in rows = positions_total (map taken_by rows)

-- in message order, then by position
abbrev pub diagnoses_in : Reading → List ℕ → List Row → List (Placed Diagnosis)
diagnoses_in R imp rows = flat_map (λ (r : Row). option_to_list (diagnosis_of R r)) rows ++ afterwards imp (taken_in rows).bits 0 R.entries

-- given the IEs and their rows
abbrev pub report_by : Reading → List ℕ → List Found → List Row → Report
report_by R imp fs rows =
    record {
      rows = rows;
      diagnoses = diagnoses_in R imp rows;
      tallies = record {
        severity = severity_total (map (λ (d : Placed Diagnosis). severity_of R.entries d.thing) (diagnoses_in R imp rows));
        taken = taken_in rows;
        skipped = skipped_total (map skip_of fs);
      };
    }

-- skippable IEs have none
abbrev pub rows_of : {S : Type 0} → Reading → S → Step S → Message → List Row
rows_of R start step m = rows_from R.entries step start (filter stays (tokens R m))

unfoldable pub report : {S : Type 0} → Reading → S → Step S → Message → Report
report R start step m = report_by R (imperative m) (tokens R m) (rows_of R start step m)

abbrev pub summary_of : Report → Summary
summary_of a = record { rows = length a.rows; diagnoses = length a.diagnoses; tallies = a.tallies }

-- declined as starting a walk is
abbrev pub declined_at_start : {X : Type 0} → Result (Unit {0}) Refusal → Result X Refusal → Result X Refusal
declined_at_start (Ok x) next = next
declined_at_start (Err why) next = Err why

abbrev pub declined_by : {X : Type 0} → Option Refusal → Result X Refusal → Result X Refusal
declined_by (Some why) next = Err why
declined_by None next = next

abbrev pub declined_if : {X : Type 0} → Bool → ℕ → Result X Refusal → Result X Refusal
declined_if true number next = Err (refused number)
declined_if false number next = next

-- 1, too long, and 2, the imperative end is beyond the message; 3, truncated; 4, too few places for rows; 5, for diagnoses
unfoldable pub outcome : {S : Type 0} → Reading → S → Step S → Message → ℕ → ℕ → Result Report Refusal
outcome R start step m rows diagnoses =
    declined_at_start (starting m.octets m.end tt)
    (declined_by (fault R m)
    (declined_if (nat_lt rows (length (report R start step m).rows)) 4
    (declined_if (nat_lt diagnoses (length (report R start step m).diagnoses)) 5
    (Ok (report R start step m)))))
