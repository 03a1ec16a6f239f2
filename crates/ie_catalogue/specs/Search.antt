-- What an octet designates in a list of entries.
--   finds        the first entry that covers the octet, with its position
--   designates   that position
--   searched     what is found, and how many entries are asked for it:
--                the position plus one, or all where the octet is unknown
use Rattle.std.specs.Prelude.{ℕ, suc, ◌+◌, cond, List, [], ◌∷◌, length, Some, None, Option}
use Rattle.std.specs.List.{slice_get}
use Rattle.std.specs.Option.{option_map}
use Rattle.ie_catalogue.specs.declared.entry.Entry.{Entry}
use Rattle.ie_catalogue.specs.declared.search.Designated.{Designated}
use Rattle.ie_catalogue.specs.declared.search.Search.{Search}
use Rattle.ie_catalogue.specs.Entries.{covers}

abbrev pub designated : ℕ → Entry → Designated
designated i e = record { position = i; entry = e }

-- the entry at position i, if it covers the octet
abbrev pub covering_by : ℕ → ℕ → Option Entry → Option Designated
covering_by i octet None = None
covering_by i octet (Some e) = cond (covers e octet) (Some (designated i e)) None

abbrev pub covering_at : List Entry → ℕ → ℕ → Option Designated
covering_at es i octet = covering_by i octet (slice_get es i)

-- where the list's first entry has the position i
abbrev pub finds_from : ℕ → List Entry → ℕ → Option Designated
finds_from i [] octet = None
finds_from i (e ∷ es) octet = cond (covers e octet) (Some (designated i e)) (finds_from (suc i) es octet)

abbrev pub finds : List Entry → ℕ → Option Designated
finds es octet = finds_from 0 es octet

abbrev pub designates : List Entry → ℕ → Option ℕ
designates es octet = option_map (λ (d : Designated). d.position) (finds es octet)

abbrev pub asks : Option Designated → ℕ → ℕ
asks (Some d) count = d.position + 1
asks None count = count

abbrev pub searched : List Entry → ℕ → Search
searched es octet = record { found = finds es octet; asked = asks (finds es octet) (length es) }
