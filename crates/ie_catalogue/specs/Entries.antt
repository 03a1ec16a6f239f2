-- Entries: how one comes to be, and which octets it covers.
--   absent          the entry that covers nothing
--   meant           what a lent row means: an ill-formed one means the absent entry
--   making          the answer to making an entry of a row
--   covers          format 1 by the upper half octet, the others by equality
--   presence_of, expect_of, forbid_of   of the row; the absent entry is optional, its tests never hold
--   limit_of        how often the entry may be taken; the absent entry never is
--   known           some entry covers the octet
--   coverers, Sole  how many entries cover an octet; no octet is covered by two
use Rattle.std.specs.Prelude.{◌≡◌, ℕ, ◌+◌, ◌/◌, ◌≤◌, Bool, true, false, cond, List, [], ◌∷◌, Some, None, Ok, Err, Option, Result, ◌==◌, refl}
use Rattle.std.specs.List.{list_any}
use Rattle.ie_catalogue.specs.declared.row.EntryRow.{EntryRow}
use Rattle.ie_catalogue.specs.declared.row.Format.{Format}
use Rattle.ie_catalogue.specs.declared.row.Format.TheVariants.{TvHalf, T, Tv, Tlv, TlvE}
use Rattle.ie_catalogue.specs.declared.row.Presence.{Presence}
use Rattle.ie_catalogue.specs.declared.row.Presence.TheVariants.{Optional}
use Rattle.ie_catalogue.specs.declared.row.Test.{Test}
use Rattle.ie_catalogue.specs.declared.row.Test.TheVariants.{Never}
use Rattle.ie_catalogue.specs.declared.entry.Entry.{Entry}
use Rattle.ie_catalogue.specs.Bounds.{well_formed}
use Rattle.ie_catalogue.specs.Refusals.{Refusal, refused}

abbrev pub absent : Entry
absent = record { row = None; ok = refl }

-- the entry of a row, given whether it is well-formed
abbrev pub meant_at : (r : EntryRow) (b : Bool) → well_formed r ≡ b → Entry
meant_at r true e = record { row = Some r; ok = e }
meant_at r false e = absent

abbrev pub meant : EntryRow → Entry
meant r = meant_at r (well_formed r) refl

abbrev pub making : EntryRow → Result Entry Refusal
making r = cond (well_formed r) (Ok (meant r)) (Err (refused 7))

-- format 1 has its IEI in the upper half octet
abbrev pub has_half : Format → Bool
has_half TvHalf = true
has_half T = false
has_half Tv = false
has_half Tlv = false
has_half TlvE = false

abbrev pub covers_if : Bool → ℕ → ℕ → Bool
covers_if half iei octet = cond half (octet / 16 == iei) (octet == iei)

abbrev pub covers_by : Format → ℕ → ℕ → Bool
covers_by f iei octet = covers_if (has_half f) iei octet

abbrev pub covers_row : Option EntryRow → ℕ → Bool
covers_row None octet = false
covers_row (Some r) octet = covers_by r.format r.iei octet

abbrev pub covers : Entry → ℕ → Bool
covers e octet = covers_row e.row octet

-- the absent entry is optional, and never expected or forbidden
abbrev pub presence_row : Option EntryRow → Presence
presence_row None = Optional
presence_row (Some r) = r.presence

abbrev pub presence_of : Entry → Presence
presence_of e = presence_row e.row

abbrev pub test_row : (EntryRow → Test) → Option EntryRow → Test
test_row test None = Never
test_row test (Some r) = test r

abbrev pub expect_of : Entry → Test
expect_of e = test_row (λ (r : EntryRow). r.expect) e.row

abbrev pub forbid_of : Entry → Test
forbid_of e = test_row (λ (r : EntryRow). r.forbid) e.row

abbrev pub limit_row : Option EntryRow → ℕ
limit_row None = 0
limit_row (Some r) = r.limit

abbrev pub limit_of : Entry → ℕ
limit_of e = limit_row e.row

abbrev pub known : List Entry → ℕ → Bool
known es octet = list_any (λ e. covers e octet) es

abbrev pub one_if : Bool → ℕ
one_if true = 1
one_if false = 0

abbrev pub coverers : List Entry → ℕ → ℕ
coverers [] octet = 0
coverers (e ∷ es) octet = one_if (covers e octet) + coverers es octet

abbrev pub Sole : List Entry → Type 0
Sole es = (octet : ℕ) → coverers es octet ≤ 1
