-- Worked examples: what is asked, and what comes of it, all in numbers.
--   Question   a catalogue's rows, an order function, octets, the imperative end, places for rows and for diagnoses
--   Answer     a refusal's number and values; or all rows, all diagnoses and the summary; then the octets that striking
--              leaves, and how many are skipped before each place from the imperative end on
--   mixed      a catalogue of all presences and tests
--   Stand      every example comes out as it should
--   FirstCause   a message of 65,536 octets is too long, wherever its imperative part ends; one of 65,535 is not
use Rattle.std.specs.Prelude.{◌≡◌, ℕ, zero, suc, true, false, cond, not, ◌||◌, List, [], ◌∷◌, ◌++◌, map, replicate, Ok, Err, Result, ◌==◌}
use Rattle.ie_catalogue.specs.declared.row.EntryRow.{EntryRow}
use Rattle.ie_catalogue.specs.declared.row.Format.{Format}
use Rattle.ie_catalogue.specs.declared.row.Format.TheVariants.{TvHalf, T, Tlv, TlvE}
use Rattle.ie_catalogue.specs.declared.row.Presence.{Presence}
use Rattle.ie_catalogue.specs.declared.row.Presence.TheVariants.{Mandatory, Conditional, Optional}
use Rattle.ie_catalogue.specs.declared.row.Direction.TheVariants.{Both}
use Rattle.ie_catalogue.specs.declared.row.Test.{Test}
use Rattle.ie_catalogue.specs.declared.row.Test.TheVariants.{Never, IfPresent, IfAbsent, IfOctet}
use Rattle.ie_catalogue.specs.Entries.{meant}
use Rattle.ie_catalogue.specs.Refusals.{Refusal}
use Rattle.ie_walk.specs.Frames.{five_gs, comprehended}
use Rattle.ie_walk.specs.Reading.{Reading, reading}
use Rattle.ie_tally.specs.Sets.{has}
use Rattle.ie_report.specs.Numbers.{row_values, diagnosis_values, summary_values}
use Rattle.ie_report.specs.Orders.{Order, free, listed}
use Rattle.ie_report.specs.Judging.{fresh, judge}
use Rattle.ie_report.specs.Reports.{Message, Report, summary_of, outcome}
use Rattle.ie_compare.specs.Laws.{declined_as}
use Rattle.ie_compare.specs.Strikes.{strike, skipped_before}
use Rattle.ul_nas_transport.specs.Table.{table}

pub record Question : Type 0 where
  pub rows : List EntryRow
  pub admits : Order
  pub octets : List ℕ
  pub end : ℕ
  pub row_places : ℕ
  pub diagnosis_places : ℕ

pub data Told : Type 0 where
  declined : ℕ → List ℕ → Told
  reported : List (List ℕ) → List (List ℕ) → List ℕ → Told

pub record Answer : Type 0 where
  pub told : Told
  pub left : List ℕ
  pub skipped : List ℕ

-- comprehension over 5GS
abbrev pub reads : List EntryRow → Reading
reads rows = reading (map meant rows) five_gs (λ octet. false || comprehended (five_gs octet) octet)

abbrev pub tell : Result Report Refusal → Told
tell (Ok a) = reported (map row_values a.rows) (map diagnosis_values a.diagnoses) (summary_values (summary_of a))
tell (Err why) = declined why.number why.values

-- n numbers from p on
abbrev pub from_place : ℕ → ℕ → List ℕ
from_place p zero = []
from_place p (suc n) = p ∷ from_place (suc p) n

abbrev pub asked : Question → Message
asked q = record { octets = q.octets; end = q.end }

abbrev pub answer : Question → Answer
answer q =
    record {
      told = tell (outcome (reads q.rows) fresh (judge (reads q.rows).entries q.admits) (asked q) q.row_places q.diagnosis_places);
      left = strike (reads q.rows) (asked q);
      skipped = map (skipped_before (reads q.rows) (asked q)) (from_place q.end 6);
    }

pub record Example : Type 0 where
  pub question : Question
  pub expected : Answer

-- UL NAS TRANSPORT with an empty payload container, whose type is octet 3
abbrev pub header : ℕ → List ℕ
header container = 0x7e ∷ 0x00 ∷ 0x67 ∷ container ∷ 0x00 ∷ 0x00 ∷ []

abbrev pub example : List EntryRow → Order → List ℕ → ℕ → ℕ → ℕ → Told → List ℕ → List ℕ → Example
example rows admits octets end row_places diagnosis_places told left skipped =
    record {
      question = record { rows = rows; admits = admits; octets = octets; end = end; row_places = row_places; diagnosis_places = diagnosis_places };
      expected = record { told = told; left = left; skipped = skipped };
    }

-- the shipped catalogue, the free order, nothing skippable behind the header
abbrev pub plainly : ℕ → List ℕ → ℕ → ℕ → Told → Example
plainly container behind row_places diagnosis_places told =
    example table free (header container ++ behind) 6 row_places diagnosis_places told (header container ++ behind) (0 ∷ 0 ∷ 0 ∷ 0 ∷ 0 ∷ 0 ∷ [])

abbrev pub shipped : List Example
shipped =
    -- a DNN without octets is ill-sized
    plainly 0x02 (0x25 ∷ 0x00 ∷ []) 9 9
    (reported ((4 ∷ 4 ∷ 0x25 ∷ 6 ∷ 2 ∷ 8 ∷ 0 ∷ 0 ∷ []) ∷ []) ((3 ∷ 4 ∷ 0x25 ∷ 6 ∷ []) ∷ []) (0 ∷ 1 ∷ 1 ∷ 0 ∷ 0 ∷ 0 ∷ []))
    -- the second S-NSSAI is surplus
    ∷ plainly 0x02 (0x22 ∷ 0x01 ∷ 0x01 ∷ 0x22 ∷ 0x01 ∷ 0x02 ∷ []) 9 9
    (reported ((1 ∷ 3 ∷ 0x22 ∷ 6 ∷ 3 ∷ 8 ∷ 1 ∷ 0 ∷ []) ∷ (2 ∷ 3 ∷ 0x22 ∷ 9 ∷ 3 ∷ 11 ∷ 1 ∷ 0 ∷ []) ∷ []) [] (0 ∷ 2 ∷ 0 ∷ 8 ∷ 0 ∷ 0 ∷ []))
    -- under the listed order the session ID may not come after it
    ∷ example table listed (header 0x02 ++ (0x22 ∷ 0x01 ∷ 0x01 ∷ 0x12 ∷ 0x05 ∷ [])) 6 9 9
    (reported ((1 ∷ 3 ∷ 0x22 ∷ 6 ∷ 3 ∷ 8 ∷ 1 ∷ 0 ∷ []) ∷ (3 ∷ 0 ∷ 0x12 ∷ 9 ∷ 2 ∷ 10 ∷ 1 ∷ 0 ∷ []) ∷ []) [] (0 ∷ 2 ∷ 0 ∷ 8 ∷ 0 ∷ 0 ∷ []))
    (header 0x02 ++ (0x22 ∷ 0x01 ∷ 0x01 ∷ 0x12 ∷ 0x05 ∷ [])) (0 ∷ 0 ∷ 0 ∷ 0 ∷ 0 ∷ 0 ∷ [])
    -- a surplus IE is not offered to the order rule, which would put it out
    ∷ example table listed (header 0x02 ++ (0x12 ∷ 0x05 ∷ 0x22 ∷ 0x01 ∷ 0x01 ∷ 0x12 ∷ 0x06 ∷ [])) 6 9 9
    (reported ((1 ∷ 0 ∷ 0x12 ∷ 6 ∷ 2 ∷ 7 ∷ 1 ∷ 0 ∷ []) ∷ (1 ∷ 3 ∷ 0x22 ∷ 8 ∷ 3 ∷ 10 ∷ 1 ∷ 0 ∷ []) ∷ (2 ∷ 0 ∷ 0x12 ∷ 11 ∷ 2 ∷ 12 ∷ 1 ∷ 0 ∷ []) ∷ []) [] (0 ∷ 3 ∷ 0 ∷ 9 ∷ 0 ∷ 0 ∷ []))
    (header 0x02 ++ (0x12 ∷ 0x05 ∷ 0x22 ∷ 0x01 ∷ 0x01 ∷ 0x12 ∷ 0x06 ∷ [])) (0 ∷ 0 ∷ 0 ∷ 0 ∷ 0 ∷ 0 ∷ [])
    -- the half octet of format 1 in every kind of row
    ∷ example table listed (header 0x02 ++ (0x81 ∷ 0x82 ∷ 0xf4 ∷ 0xa5 ∷ [])) 6 9 9
    (reported ((1 ∷ 2 ∷ 0x81 ∷ 6 ∷ 1 ∷ 7 ∷ 0 ∷ 1 ∷ []) ∷ (2 ∷ 2 ∷ 0x82 ∷ 7 ∷ 1 ∷ 8 ∷ 0 ∷ 2 ∷ []) ∷ (1 ∷ 7 ∷ 0xf4 ∷ 8 ∷ 1 ∷ 9 ∷ 0 ∷ 4 ∷ []) ∷ (3 ∷ 6 ∷ 0xa5 ∷ 9 ∷ 1 ∷ 10 ∷ 0 ∷ 5 ∷ []) ∷ []) [] (0 ∷ 4 ∷ 0 ∷ 132 ∷ 0 ∷ 0 ∷ []))
    (header 0x02 ++ (0x81 ∷ 0x82 ∷ 0xf4 ∷ 0xa5 ∷ [])) (0 ∷ 0 ∷ 0 ∷ 0 ∷ 0 ∷ 0 ∷ [])
    -- nothing at all; with a session management container the session ID is expected
    ∷ plainly 0x02 [] 0 0 (reported [] [] (0 ∷ 0 ∷ 0 ∷ 0 ∷ 0 ∷ 0 ∷ []))
    ∷ plainly 0x01 [] 0 1 (reported [] ((5 ∷ 0 ∷ 0 ∷ 0 ∷ []) ∷ []) (1 ∷ 0 ∷ 1 ∷ 0 ∷ 0 ∷ 0 ∷ []))
    -- 0F is unknown and demanding
    ∷ plainly 0x02 (0x0f ∷ 0x01 ∷ 0x33 ∷ []) 1 1
    (reported ((5 ∷ 64 ∷ 0x0f ∷ 6 ∷ 3 ∷ 8 ∷ 1 ∷ 0 ∷ []) ∷ []) ((1 ∷ 64 ∷ 0x0f ∷ 6 ∷ []) ∷ []) (2 ∷ 1 ∷ 1 ∷ 0 ∷ 0 ∷ 0 ∷ []))
    -- the causes in their order: truncated comes before too few places, too few for rows before too few for diagnoses
    ∷ plainly 0x01 (0x0f ∷ 0x00 ∷ 0x12 ∷ []) 0 0 (declined 3 (0x12 ∷ 8 ∷ 2 ∷ 1 ∷ []))
    ∷ plainly 0x01 (0x0f ∷ 0x00 ∷ []) 0 0 (declined 4 [])
    ∷ plainly 0x01 (0x0f ∷ 0x00 ∷ []) 1 1 (declined 5 [])
    ∷ plainly 0x01 (0x0f ∷ 0x00 ∷ []) 1 2
    (reported ((5 ∷ 64 ∷ 0x0f ∷ 6 ∷ 2 ∷ 8 ∷ 0 ∷ 0 ∷ []) ∷ []) ((1 ∷ 64 ∷ 0x0f ∷ 6 ∷ []) ∷ (5 ∷ 0 ∷ 0 ∷ 0 ∷ []) ∷ []) (2 ∷ 1 ∷ 2 ∷ 0 ∷ 0 ∷ 0 ∷ []))
    ∷ example table free (header 0x01) 7 9 9 (declined 2 []) (header 0x01) (0 ∷ 0 ∷ 0 ∷ 0 ∷ 0 ∷ 0 ∷ [])
    -- a whole unknown IE is skipped, at 10 with 5 octets; an unfinished one stays
    ∷ example table free (header 0x01 ++ (0x12 ∷ 0x05 ∷ 0x91 ∷ 0x92 ∷ 0x72 ∷ 0x00 ∷ 0x02 ∷ 0x11 ∷ 0x22 ∷ 0x81 ∷ [])) 6 2 0
    (reported ((1 ∷ 0 ∷ 0x12 ∷ 6 ∷ 2 ∷ 7 ∷ 1 ∷ 0 ∷ []) ∷ (1 ∷ 2 ∷ 0x81 ∷ 15 ∷ 1 ∷ 16 ∷ 0 ∷ 1 ∷ []) ∷ []) [] (0 ∷ 2 ∷ 0 ∷ 5 ∷ 3 ∷ 7 ∷ []))
    (header 0x01 ++ (0x12 ∷ 0x05 ∷ 0x81 ∷ [])) (0 ∷ 0 ∷ 0 ∷ 1 ∷ 2 ∷ 7 ∷ [])
    ∷ example table free (header 0x01 ++ (0x91 ∷ 0x72 ∷ 0x00 ∷ 0x02 ∷ 0x11 ∷ [])) 6 9 9 (declined 3 (0x72 ∷ 7 ∷ 5 ∷ 4 ∷ []))
    (header 0x01 ++ (0x72 ∷ 0x00 ∷ 0x02 ∷ 0x11 ∷ [])) (0 ∷ 1 ∷ 1 ∷ 1 ∷ 1 ∷ 1 ∷ [])
    ∷ []

-- with a value of 1 to 2 octets, taken at most twice
abbrev pub entry : ℕ → Format → Presence → Test → Test → EntryRow
entry iei format presence expect forbid =
    record { iei = iei; format = format; least = 1; greatest = 2; presence = presence; limit = 2; release = 15; direction = Both; expect = expect; forbid = forbid }

-- 0 is mandatory; 1 is expected if 0 is absent, forbidden if 2 is present; 3 is expected if 63 is absent, as it always
-- is, forbidden if octet 1 of the imperative part is 5 under the mask 7; 4 is ill-formed: format 1 has no length
abbrev pub mixed : List EntryRow
mixed =
    entry 0x05 Tlv Mandatory Never Never
    ∷ entry 0x16 Tlv Conditional (IfAbsent 0) (IfPresent 2)
    ∷ entry 0x27 Tlv Optional Never Never
    ∷ entry 0x38 Tlv Conditional (IfAbsent 63) (IfOctet 1 7 5)
    ∷ entry 0x09 TvHalf Mandatory Never Never
    ∷ entry 0x7e TlvE Optional Never Never
    ∷ entry 0x7f Tlv Optional Never Never
    ∷ entry 0x2b Tlv Optional Never Never
    ∷ record { iei = 0x9c; format = T; least = 0; greatest = 0; presence = Optional; limit = 1; release = 15; direction = Both; expect = Never; forbid = Never }
    ∷ []

-- the mixed catalogue, nothing skippable, places enough
abbrev pub judging : Order → List ℕ → List ℕ → ℕ → Told → Example
judging admits imperative behind end told =
    example mixed admits (imperative ++ behind) end 9 9 told (imperative ++ behind) (0 ∷ 0 ∷ 0 ∷ 0 ∷ 0 ∷ 0 ∷ [])

abbrev pub none_in : Order
none_in s p = false

-- 2 only behind 0, 1 only without 2
abbrev pub picky : Order
picky s p = cond (p == 2) (has s 0) (cond (p == 1) (not (has s 2)) true)

abbrev pub judged : List Example
judged =
    -- taken, ill-sized, taken, surplus; 3 is forbidden
    judging free (0x00 ∷ 0x0d ∷ []) (0x05 ∷ 1 ∷ 0xaa ∷ 0x05 ∷ 0 ∷ 0x05 ∷ 1 ∷ 0xbb ∷ 0x05 ∷ 1 ∷ 0xcc ∷ 0x38 ∷ 1 ∷ 0x11 ∷ []) 2
    (reported ((1 ∷ 0 ∷ 0x05 ∷ 2 ∷ 3 ∷ 4 ∷ 1 ∷ 0 ∷ []) ∷ (4 ∷ 0 ∷ 0x05 ∷ 5 ∷ 2 ∷ 7 ∷ 0 ∷ 0 ∷ []) ∷ (1 ∷ 0 ∷ 0x05 ∷ 7 ∷ 3 ∷ 9 ∷ 1 ∷ 0 ∷ []) ∷ (2 ∷ 0 ∷ 0x05 ∷ 10 ∷ 3 ∷ 12 ∷ 1 ∷ 0 ∷ []) ∷ (1 ∷ 3 ∷ 0x38 ∷ 13 ∷ 3 ∷ 15 ∷ 1 ∷ 0 ∷ []) ∷ [])
    ((3 ∷ 0 ∷ 0x05 ∷ 5 ∷ []) ∷ (6 ∷ 3 ∷ 0 ∷ 0 ∷ []) ∷ []) (2 ∷ 5 ∷ 2 ∷ 9 ∷ 0 ∷ 0 ∷ []))
    -- an ill-sized mandatory IE has both diagnoses; 1 and 3 are expected
    ∷ judging free (0x00 ∷ []) (0x05 ∷ 3 ∷ 1 ∷ 2 ∷ 3 ∷ 0x27 ∷ 1 ∷ 1 ∷ []) 1
    (reported ((4 ∷ 0 ∷ 0x05 ∷ 1 ∷ 5 ∷ 3 ∷ 3 ∷ 0 ∷ []) ∷ (1 ∷ 2 ∷ 0x27 ∷ 6 ∷ 3 ∷ 8 ∷ 1 ∷ 0 ∷ []) ∷ [])
    ((3 ∷ 0 ∷ 0x05 ∷ 1 ∷ []) ∷ (4 ∷ 0 ∷ 0 ∷ 0 ∷ []) ∷ (5 ∷ 1 ∷ 0 ∷ 0 ∷ []) ∷ (5 ∷ 3 ∷ 0 ∷ 0 ∷ []) ∷ []) (2 ∷ 2 ∷ 4 ∷ 4 ∷ 0 ∷ 0 ∷ []))
    -- 1 is forbidden; octet 1 is 5, and not in the imperative part
    ∷ judging free (0x00 ∷ []) (0x05 ∷ 1 ∷ 0xaa ∷ 0x16 ∷ 1 ∷ 0xbb ∷ 0x27 ∷ 1 ∷ 0xcc ∷ 0x38 ∷ 1 ∷ 0xdd ∷ []) 1
    (reported ((1 ∷ 0 ∷ 0x05 ∷ 1 ∷ 3 ∷ 3 ∷ 1 ∷ 0 ∷ []) ∷ (1 ∷ 1 ∷ 0x16 ∷ 4 ∷ 3 ∷ 6 ∷ 1 ∷ 0 ∷ []) ∷ (1 ∷ 2 ∷ 0x27 ∷ 7 ∷ 3 ∷ 9 ∷ 1 ∷ 0 ∷ []) ∷ (1 ∷ 3 ∷ 0x38 ∷ 10 ∷ 3 ∷ 12 ∷ 1 ∷ 0 ∷ []) ∷ [])
    ((6 ∷ 1 ∷ 0 ∷ 0 ∷ []) ∷ []) (1 ∷ 4 ∷ 1 ∷ 15 ∷ 0 ∷ 0 ∷ []))
    -- out of sequence, with and without a demanding octet; neither counts as present
    ∷ judging listed (0x00 ∷ []) (0x16 ∷ 1 ∷ 0xbb ∷ 0x05 ∷ 1 ∷ 0xaa ∷ 0x38 ∷ 1 ∷ 0x11 ∷ 0x27 ∷ 1 ∷ 0x22 ∷ []) 1
    (reported ((1 ∷ 1 ∷ 0x16 ∷ 1 ∷ 3 ∷ 3 ∷ 1 ∷ 0 ∷ []) ∷ (3 ∷ 0 ∷ 0x05 ∷ 4 ∷ 3 ∷ 6 ∷ 1 ∷ 0 ∷ []) ∷ (1 ∷ 3 ∷ 0x38 ∷ 7 ∷ 3 ∷ 9 ∷ 1 ∷ 0 ∷ []) ∷ (3 ∷ 2 ∷ 0x27 ∷ 10 ∷ 3 ∷ 12 ∷ 1 ∷ 0 ∷ []) ∷ [])
    ((2 ∷ 0 ∷ 0x05 ∷ 4 ∷ []) ∷ (4 ∷ 0 ∷ 0 ∷ 0 ∷ []) ∷ []) (2 ∷ 4 ∷ 2 ∷ 10 ∷ 0 ∷ 0 ∷ []))
    -- out of sequence: 7E is TLV-E in the entry and by the skip rule, 7F only by the skip rule
    ∷ judging listed (0x00 ∷ []) (0x05 ∷ 1 ∷ 0xaa ∷ 0x2b ∷ 1 ∷ 0x11 ∷ 0x7e ∷ 0 ∷ 1 ∷ 0x22 ∷ 0x7f ∷ 1 ∷ 0x33 ∷ []) 1
    (reported ((1 ∷ 0 ∷ 0x05 ∷ 1 ∷ 3 ∷ 3 ∷ 1 ∷ 0 ∷ []) ∷ (1 ∷ 7 ∷ 0x2b ∷ 4 ∷ 3 ∷ 6 ∷ 1 ∷ 0 ∷ []) ∷ (3 ∷ 5 ∷ 0x7e ∷ 7 ∷ 4 ∷ 10 ∷ 1 ∷ 0 ∷ []) ∷ (3 ∷ 6 ∷ 0x7f ∷ 11 ∷ 3 ∷ 13 ∷ 1 ∷ 0 ∷ []) ∷ [])
    ((2 ∷ 5 ∷ 0x7e ∷ 7 ∷ []) ∷ (5 ∷ 3 ∷ 0 ∷ 0 ∷ []) ∷ []) (2 ∷ 4 ∷ 2 ∷ 129 ∷ 0 ∷ 0 ∷ []))
    -- an order rule that puts everything out
    ∷ judging none_in (0x00 ∷ []) (0x05 ∷ 1 ∷ 0xaa ∷ []) 1
    (reported ((3 ∷ 0 ∷ 0x05 ∷ 1 ∷ 3 ∷ 3 ∷ 1 ∷ 0 ∷ []) ∷ [])
    ((2 ∷ 0 ∷ 0x05 ∷ 1 ∷ []) ∷ (4 ∷ 0 ∷ 0 ∷ 0 ∷ []) ∷ (5 ∷ 1 ∷ 0 ∷ 0 ∷ []) ∷ (5 ∷ 3 ∷ 0 ∷ 0 ∷ []) ∷ []) (2 ∷ 1 ∷ 4 ∷ 0 ∷ 0 ∷ 0 ∷ []))
    -- an ill-sized IE was admitted, so that 2 may not follow 3
    ∷ judging listed (0x00 ∷ []) (0x05 ∷ 1 ∷ 0xaa ∷ 0x38 ∷ 0 ∷ 0x27 ∷ 1 ∷ 0x22 ∷ []) 1
    (reported ((1 ∷ 0 ∷ 0x05 ∷ 1 ∷ 3 ∷ 3 ∷ 1 ∷ 0 ∷ []) ∷ (4 ∷ 3 ∷ 0x38 ∷ 4 ∷ 2 ∷ 6 ∷ 0 ∷ 0 ∷ []) ∷ (3 ∷ 2 ∷ 0x27 ∷ 6 ∷ 3 ∷ 8 ∷ 1 ∷ 0 ∷ []) ∷ [])
    ((3 ∷ 3 ∷ 0x38 ∷ 4 ∷ []) ∷ (5 ∷ 3 ∷ 0 ∷ 0 ∷ []) ∷ []) (1 ∷ 3 ∷ 2 ∷ 1 ∷ 0 ∷ 0 ∷ []))
    -- surplus comes before ill-sized, and out of sequence too
    ∷ judging free (0x00 ∷ []) (0x05 ∷ 1 ∷ 0xaa ∷ 0x05 ∷ 1 ∷ 0xbb ∷ 0x05 ∷ 0 ∷ []) 1
    (reported ((1 ∷ 0 ∷ 0x05 ∷ 1 ∷ 3 ∷ 3 ∷ 1 ∷ 0 ∷ []) ∷ (1 ∷ 0 ∷ 0x05 ∷ 4 ∷ 3 ∷ 6 ∷ 1 ∷ 0 ∷ []) ∷ (2 ∷ 0 ∷ 0x05 ∷ 7 ∷ 2 ∷ 9 ∷ 0 ∷ 0 ∷ []) ∷ [])
    ((5 ∷ 3 ∷ 0 ∷ 0 ∷ []) ∷ []) (1 ∷ 3 ∷ 1 ∷ 1 ∷ 0 ∷ 0 ∷ []))
    ∷ judging listed (0x00 ∷ []) (0x05 ∷ 1 ∷ 0xaa ∷ 0x38 ∷ 1 ∷ 0x11 ∷ 0x27 ∷ 0 ∷ []) 1
    (reported ((1 ∷ 0 ∷ 0x05 ∷ 1 ∷ 3 ∷ 3 ∷ 1 ∷ 0 ∷ []) ∷ (1 ∷ 3 ∷ 0x38 ∷ 4 ∷ 3 ∷ 6 ∷ 1 ∷ 0 ∷ []) ∷ (3 ∷ 2 ∷ 0x27 ∷ 7 ∷ 2 ∷ 9 ∷ 0 ∷ 0 ∷ []) ∷ [])
    [] (0 ∷ 3 ∷ 0 ∷ 9 ∷ 0 ∷ 0 ∷ []))
    -- a format 2 IE; under the listed order the same position again is in
    ∷ judging listed (0x00 ∷ []) (0x05 ∷ 1 ∷ 0xaa ∷ 0x05 ∷ 1 ∷ 0xbb ∷ 0x9c ∷ []) 1
    (reported ((1 ∷ 0 ∷ 0x05 ∷ 1 ∷ 3 ∷ 3 ∷ 1 ∷ 0 ∷ []) ∷ (1 ∷ 0 ∷ 0x05 ∷ 4 ∷ 3 ∷ 6 ∷ 1 ∷ 0 ∷ []) ∷ (1 ∷ 8 ∷ 0x9c ∷ 7 ∷ 1 ∷ 8 ∷ 0 ∷ 0 ∷ []) ∷ [])
    ((5 ∷ 3 ∷ 0 ∷ 0 ∷ []) ∷ []) (1 ∷ 3 ∷ 1 ∷ 257 ∷ 0 ∷ 0 ∷ []))
    -- out leaves the set as it was and does not count: 1 may follow 2, and 2 is taken later
    ∷ judging picky (0x00 ∷ []) (0x27 ∷ 1 ∷ 0x11 ∷ 0x16 ∷ 1 ∷ 0x22 ∷ 0x05 ∷ 1 ∷ 0xaa ∷ 0x27 ∷ 1 ∷ 0x33 ∷ []) 1
    (reported ((3 ∷ 2 ∷ 0x27 ∷ 1 ∷ 3 ∷ 3 ∷ 1 ∷ 0 ∷ []) ∷ (1 ∷ 1 ∷ 0x16 ∷ 4 ∷ 3 ∷ 6 ∷ 1 ∷ 0 ∷ []) ∷ (1 ∷ 0 ∷ 0x05 ∷ 7 ∷ 3 ∷ 9 ∷ 1 ∷ 0 ∷ []) ∷ (1 ∷ 2 ∷ 0x27 ∷ 10 ∷ 3 ∷ 12 ∷ 1 ∷ 0 ∷ []) ∷ [])
    ((6 ∷ 1 ∷ 0 ∷ 0 ∷ []) ∷ (5 ∷ 3 ∷ 0 ∷ 0 ∷ []) ∷ []) (1 ∷ 4 ∷ 2 ∷ 7 ∷ 0 ∷ 0 ∷ []))
    -- diagnoses of rows in the order of the message, then those by position
    ∷ judging free (0x00 ∷ []) (0x0f ∷ 0 ∷ 0x05 ∷ 0 ∷ []) 1
    (reported ((5 ∷ 64 ∷ 0x0f ∷ 1 ∷ 2 ∷ 3 ∷ 0 ∷ 0 ∷ []) ∷ (4 ∷ 0 ∷ 0x05 ∷ 3 ∷ 2 ∷ 5 ∷ 0 ∷ 0 ∷ []) ∷ [])
    ((1 ∷ 64 ∷ 0x0f ∷ 1 ∷ []) ∷ (3 ∷ 0 ∷ 0x05 ∷ 3 ∷ []) ∷ (4 ∷ 0 ∷ 0 ∷ 0 ∷ []) ∷ (5 ∷ 1 ∷ 0 ∷ 0 ∷ []) ∷ (5 ∷ 3 ∷ 0 ∷ 0 ∷ []) ∷ []) (2 ∷ 2 ∷ 5 ∷ 0 ∷ 0 ∷ 0 ∷ []))
    -- an ill-sized IE is not present: 1 is not forbidden
    ∷ judging free (0x00 ∷ []) (0x05 ∷ 1 ∷ 0xaa ∷ 0x16 ∷ 1 ∷ 0xbb ∷ 0x27 ∷ 0 ∷ []) 1
    (reported ((1 ∷ 0 ∷ 0x05 ∷ 1 ∷ 3 ∷ 3 ∷ 1 ∷ 0 ∷ []) ∷ (1 ∷ 1 ∷ 0x16 ∷ 4 ∷ 3 ∷ 6 ∷ 1 ∷ 0 ∷ []) ∷ (4 ∷ 2 ∷ 0x27 ∷ 7 ∷ 2 ∷ 9 ∷ 0 ∷ 0 ∷ []) ∷ [])
    ((3 ∷ 2 ∷ 0x27 ∷ 7 ∷ []) ∷ (5 ∷ 3 ∷ 0 ∷ 0 ∷ []) ∷ []) (1 ∷ 3 ∷ 2 ∷ 3 ∷ 0 ∷ 0 ∷ []))
    ∷ []

abbrev pub examples : List Example
examples = shipped ++ judged

abbrev pub Stand : Type 0
Stand = map (λ (e : Example). answer e.question) examples ≡ map (λ (e : Example). e.expected) examples

-- the number of the refusal of so many octets, with no places lent
abbrev pub sized : ℕ → ℕ → ℕ
sized octets end = declined_as (outcome (reads table) fresh (judge (reads table).entries free) (record { octets = replicate octets 0x81; end = end }) 0 0)

abbrev pub FirstCause : Type 0
FirstCause = (sized 65536 65537 ≡ 1) × (sized 65535 65536 ≡ 2) × (sized 65535 65535 ≡ 5)
