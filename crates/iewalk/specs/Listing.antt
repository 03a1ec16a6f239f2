-- The whole output, from the one division of the message.
--   division_lines   a line for each IE of the division, in order, and how it ends
--   Appends          what a message adds to the text, under any catalogue and skip rule
--   Listing          the program's output for an input
use Rattle.std.specs.Prelude.{◌≡◌, ℕ, ◌+◌, ◌<◌, ◌≤◌, List, [], ◌∷◌, ◌++◌, map, length, drop}
use Rattle.ie_catalogue.specs.Entries.{meant}
use Rattle.ie_walk.specs.Cuts.{needed}
use Rattle.ie_walk.specs.Frames.{five_gs, comprehended}
use Rattle.ie_walk.specs.Grammar.{OnlyDivision, laid, end_to_end}
use Rattle.ie_walk.specs.Reading.{Reading, reading, shape}
use Rattle.ul_nas_transport.specs.Imperative.{imperative_end}
use Rattle.ul_nas_transport.specs.Table.{table}
use Rattle.iewalk.specs.declared.line.Line.{Line}
use Rattle.iewalk.specs.declared.line.Line.TheVariants.{Truncated, Refused, End}
use Rattle.iewalk.specs.Lines.{text, hex, ie_line}

-- after IEs that begin at place p, by the tail that they leave
abbrev pub last_line : Reading → ℕ → List (List ℕ) → List ℕ → Line
last_line R p ies [] = End (length ies) (length (end_to_end ies))
last_line R p ies (iei ∷ os) = Truncated (hex iei) (p + length (end_to_end ies)) (needed (shape R iei) (iei ∷ os)) (length (iei ∷ os))

abbrev pub division_lines : Reading → ℕ → List (List ℕ) → List ℕ → List Line
division_lines R p ies tail = map ie_line (laid R p ies) ++ last_line R p ies tail ∷ []

pub record Listed (R : Reading) (m : List ℕ) (end : ℕ) (before after : List ℕ) : Type 0 where
  pub ies : List (List ℕ)
  pub tail : List ℕ
  pub only : OnlyDivision R (drop end m) ies tail
  pub lines : after ≡ before ++ text (division_lines R end ies tail)

pub record Appends (R : Reading) (m : List ℕ) (end : ℕ) (before after : List ℕ) : Type 0 where
  pub too_long : 65535 < length m → after ≡ before ++ text (Refused 1 ∷ [])
  pub beyond : length m ≤ 65535 → length m < end → after ≡ before ++ text (Refused 2 ∷ [])
  pub divided : length m ≤ 65535 → end ≤ length m → Listed R m end before after

-- the shipped catalogue, and comprehension over 5GS
abbrev pub shipped : Reading
shipped = reading (map meant table) five_gs (λ octet. comprehended (five_gs octet) octet)

pub record Listing (m output : List ℕ) : Type 0 where
  pub too_long : 4096 < length m → output ≡ text (Refused 1 ∷ [])
  pub beyond : length m ≤ 4096 → length m < imperative_end m → output ≡ text (Refused 2 ∷ [])
  pub divided : length m ≤ 4096 → imperative_end m ≤ length m → Listed shipped m (imperative_end m) [] output
