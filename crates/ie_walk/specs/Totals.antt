-- How many IEs of each kind a walk finds, and how many octets they have.
--   count, counts   one IE counted; a list of them
--   counted         the totals of a walk, and the fault that ended it
--   divided         the answer of a whole walk, a refusal by its number and values
--   SumsWithin      all IEs are at most so many, and so are all octets
--   Divided         the totals count the IEs of the only division there is, and add up to all of them
use Rattle.std.specs.Prelude.{◌≡◌, ℕ, ◌+◌, ◌≤◌, List, [], ◌∷◌, length, Ok, Err, Option, Result}
use Rattle.std.specs.Option.{option_map}
use Rattle.ie_catalogue.specs.Refusals.{Refusal}
use Rattle.ie_walk.specs.declared.divide.Count.{Count}
use Rattle.ie_walk.specs.declared.divide.Totals.{Totals}
use Rattle.ie_walk.specs.declared.divide.Division.{Division}
use Rattle.ie_walk.specs.declared.faults.IeFault.{IeFault}
use Rattle.ie_walk.specs.declared.faults.Placed.{Placed}
use Rattle.ie_walk.specs.declared.faults.MessageFault.{MessageFault}
use Rattle.ie_walk.specs.declared.faults.MessageFault.TheVariants.{Truncated}
use Rattle.ie_walk.specs.Faults.{message_refusal}
use Rattle.ie_walk.specs.Reading.{Reading, Kind, known, skippable, demanding}
use Rattle.ie_walk.specs.Walks.{Found}
use Rattle.ie_walk.specs.Runs.{Run}
use Rattle.ie_walk.specs.Grammar.{IsDivision, end_to_end}

abbrev pub one_more : Count → ℕ → Count
one_more c size = record { ies = c.ies + 1; octets = c.octets + size }

abbrev pub count_kind : Kind → ℕ → Totals → Totals
count_kind (known position) size t = record { known = one_more t.known size; skippable = t.skippable; demanding = t.demanding }
count_kind skippable size t = record { known = t.known; skippable = one_more t.skippable size; demanding = t.demanding }
count_kind demanding size t = record { known = t.known; skippable = t.skippable; demanding = one_more t.demanding size }

abbrev pub count : Totals → Found → Totals
count t f = count_kind f.kind (length f.part.whole) t

abbrev pub counts : Totals → List Found → Totals
counts t [] = t
counts t (f ∷ fs) = counts (count t f) fs

abbrev pub no_count : Count
no_count = record { ies = 0; octets = 0 }

abbrev pub no_totals : Totals
no_totals = record { known = no_count; skippable = no_count; demanding = no_count }

abbrev pub counted : Totals → Run → Totals × Option Refusal
counted t r = (counts t r.tokens, r.fault)

abbrev pub tail_refusal : Option (Placed IeFault) → Option Refusal
tail_refusal o = option_map (λ (f : Placed IeFault). message_refusal (Truncated f)) o

abbrev pub counted_in : Division → Totals × Option Refusal
counted_in d = (d.totals, tail_refusal d.unfinished)

abbrev pub divided : Result Division MessageFault → Result (Totals × Option Refusal) Refusal
divided (Ok d) = Ok (counted_in d)
divided (Err e) = Err (message_refusal e)

-- of all three kinds together
abbrev pub ies_of : Totals → ℕ
ies_of t = t.known.ies + t.skippable.ies + t.demanding.ies

abbrev pub octets_of : Totals → ℕ
octets_of t = t.known.octets + t.skippable.octets + t.demanding.octets

pub record Divided (R : Reading) (m : List ℕ) (end : ℕ) (d : Division) : Type 0 where
  pub tokens : List Found
  pub division : IsDivision R m end tokens (tail_refusal d.unfinished)
  pub totals : d.totals ≡ counts no_totals tokens
  pub all_ies : ies_of d.totals ≡ length division.ies
  pub all_octets : octets_of d.totals ≡ length (end_to_end division.ies)

-- so no number in the totals is above n
abbrev pub SumsWithin : Totals → ℕ → Type 0
SumsWithin t n = (ies_of t ≤ n) × (octets_of t ≤ n)
