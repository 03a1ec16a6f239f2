-- The rows of a message.
--   stays         the IE is not skippable
--   row_of        the row of an IE of a kind; its value's place is the one behind its head
--   half_of       format 1's lower half octet, else 0
--   rows_from     the rows of IEs, each judged after those before it
--   state_after   what was met after them
--   judged_row, judged_state   the row of one IE, if it has one, and what was met after it
--   value_of      a row's value in its message
--   taken_by      the position that a row takes, as a set
--   skip_of       what is skipped with an IE
use Rattle.std.specs.Prelude.{ℕ, ◌+◌, ◌-◌, ◌%◌, Bool, true, false, not, List, [], ◌∷◌, length, take, drop, Some, None, Option}
use Rattle.std.specs.List.{filter}
use Rattle.ie_catalogue.specs.declared.entry.Entry.{Entry}
use Rattle.ie_catalogue.specs.declared.row.Format.{Format}
use Rattle.ie_catalogue.specs.declared.row.Format.TheVariants.{TvHalf, T, Tv, Tlv, TlvE}
use Rattle.ie_walk.specs.Reading.{Kind, known, skippable, demanding}
use Rattle.ie_walk.specs.Walks.{Part, Found}
use Rattle.ie_tally.specs.declared.positions.Positions.{Positions}
use Rattle.ie_tally.specs.declared.skipped.Skipped.{Skipped}
use Rattle.ie_tally.specs.Sets.{with_position}
use Rattle.ie_tally.specs.Unions.{no_positions}
use Rattle.ie_tally.specs.Skips.{no_skip}
use Rattle.ie_report.specs.declared.row.Row.{Row}
use Rattle.ie_report.specs.declared.row.RowKind.{RowKind}
use Rattle.ie_report.specs.declared.row.RowKind.TheVariants.{Taken, Surplus, OutOfSequence, IllSized, UnknownDemanding}
use Rattle.ie_report.specs.Orders.{Order}
use Rattle.ie_report.specs.Judging.{Step, State, unplaced, entry_at, format_in, judge}

-- by what the octet is
abbrev pub skips : Kind → Bool
skips (known p) = false
skips skippable = true
skips demanding = false

abbrev pub stays : Found → Bool
stays f = not (skips f.kind)

-- 64 where no entry is designated
abbrev pub position_of : Kind → ℕ
position_of (known p) = p
position_of skippable = 64
position_of demanding = 64

abbrev pub half_by : Option Format → ℕ → ℕ
half_by None iei = 0
half_by (Some TvHalf) iei = iei % 16
half_by (Some T) iei = 0
half_by (Some Tv) iei = 0
half_by (Some Tlv) iei = 0
half_by (Some TlvE) iei = 0

abbrev pub half_of : List Entry → Kind → ℕ → ℕ
half_of es (known p) iei = half_by (format_in (entry_at es p)) iei
half_of es skippable iei = 0
half_of es demanding iei = 0

-- with the position and the half given
abbrev pub row_by : RowKind → ℕ → ℕ → Part → Row
row_by kind position half ie =
    record {
      kind = kind;
      position = position;
      iei = ie.iei;
      place = ie.place;
      size = length ie.whole;
      value_place = ie.place + (length ie.whole - length ie.value);
      value_length = length ie.value;
      half = half;
    }

abbrev pub row_of : List Entry → RowKind → Found → Row
row_of es kind f = row_by kind (position_of f.kind) (half_of es f.kind f.part.iei) f.part

abbrev pub rows_from : {S : Type 0} → List Entry → Step S → S → List Found → List Row
rows_from es step s [] = []
rows_from es step s (f ∷ fs) = row_of es (step s (unplaced f)).0 f ∷ rows_from es step (step s (unplaced f)).1 fs

abbrev pub state_after : {S : Type 0} → Step S → S → List Found → S
state_after step s [] = s
state_after step s (f ∷ fs) = state_after step (step s (unplaced f)).1 fs

abbrev pub judged_row : List Entry → Order → State → Found → List Row
judged_row es admits s f = rows_from es (judge es admits) s (filter stays (f ∷ []))

abbrev pub judged_state : List Entry → Order → State → Found → State
judged_state es admits s f = state_after (judge es admits) s (filter stays (f ∷ []))

abbrev pub value_of : Row → List ℕ → List ℕ
value_of r m = take r.value_length (drop r.value_place m)

-- by kind and position
abbrev pub taken_as : RowKind → ℕ → Positions
taken_as Taken p = record { bits = with_position 0 p }
taken_as Surplus p = no_positions
taken_as OutOfSequence p = no_positions
taken_as IllSized p = no_positions
taken_as UnknownDemanding p = no_positions

abbrev pub taken_by : Row → Positions
taken_by r = taken_as r.kind r.position

-- by what the octet is, and the octets of the whole IE
abbrev pub skip_by : Kind → ℕ → Skipped
skip_by (known p) size = no_skip
skip_by skippable size = record { ies = 1; octets = size }
skip_by demanding size = no_skip

abbrev pub skip_of : Found → Skipped
skip_of f = skip_by f.kind (length f.part.whole)
