-- The known IEs of UL NAS TRANSPORT, by position.
--   table   0 PDU session ID, 1 old PDU session ID, 2 request type, 3 S-NSSAI, 4 DNN,
--           5 additional information, 6 MA PDU session information, 7 release assistance indication
--   Holds   a catalogue of just these entries, none of them absent
use Rattle.std.specs.Prelude.{◌≡◌, ℕ, List, [], ◌∷◌, map, Some}
use Rattle.ie_catalogue.specs.declared.entry.Entry.{Entry}
use Rattle.ie_catalogue.specs.declared.lent.LentRows.{LentRows}
use Rattle.ie_catalogue.specs.declared.row.EntryRow.{EntryRow}
use Rattle.ie_catalogue.specs.declared.row.Format.{Format}
use Rattle.ie_catalogue.specs.declared.row.Format.TheVariants.{TvHalf, Tv, Tlv}
use Rattle.ie_catalogue.specs.declared.row.Presence.{Presence}
use Rattle.ie_catalogue.specs.declared.row.Presence.TheVariants.{Conditional, Optional}
use Rattle.ie_catalogue.specs.declared.row.Direction.TheVariants.{Up}
use Rattle.ie_catalogue.specs.declared.row.Test.{Test}
use Rattle.ie_catalogue.specs.declared.row.Test.TheVariants.{Never, IfOctet}
use Rattle.ie_catalogue.specs.Lending.{lent_entries}

-- once, uplink, never forbidden
abbrev pub uplink : ℕ → Format → ℕ → ℕ → Presence → ℕ → Test → EntryRow
uplink iei format least greatest presence release expect =
    record { iei = iei; format = format; least = least; greatest = greatest; presence = presence; limit = 1; release = release; direction = Up; expect = expect; forbid = Never }

abbrev pub table : List EntryRow
table =
    uplink 0x12 Tv 1 1 Conditional 15 (IfOctet 3 0x0f 1)
    ∷ uplink 0x59 Tv 1 1 Optional 15 Never
    ∷ uplink 0x8 TvHalf 0 0 Optional 15 Never
    ∷ uplink 0x22 Tlv 1 8 Optional 15 Never
    ∷ uplink 0x25 Tlv 1 100 Optional 15 Never
    ∷ uplink 0x24 Tlv 1 255 Optional 15 Never
    ∷ uplink 0xa TvHalf 0 0 Optional 16 Never
    ∷ uplink 0xf TvHalf 0 0 Optional 16 Never
    ∷ []

abbrev pub Holds : LentRows → Type 0
Holds lent = map (λ (e : Entry). e.row) (lent_entries lent) ≡ map Some table
