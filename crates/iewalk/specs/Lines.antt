-- The lines of the listing, as bytes.
--   seen, seen_in  what a line says of an IE, as a part or as read
--   seen_text      its text
--   line_text      one line; IEI octets are two upper-case hexadecimal digits, other numbers decimal
--   text           lines, each with its newline
--   ie_line        the line of an IE, by its kind, IEI octet, place and size
--   closing_line   the last line: the fault of the tail, or the numbers of IEs and octets
use Rattle.std.specs.Prelude.{ℕ, List, [], ◌∷◌, ◌++◌, length, Some, None, codes, decimal, Option}
use Rattle.ie_text.specs.declared.HexOctet.{HexOctet}
use Rattle.ie_text.specs.Hex.{hex_octet}
use Rattle.ie_walk.specs.declared.divide.Division.{Division}
use Rattle.ie_walk.specs.declared.divide.Totals.{Totals}
use Rattle.ie_walk.specs.declared.faults.IeFault.{IeFault}
use Rattle.ie_walk.specs.declared.faults.Placed.{Placed}
use Rattle.ie_walk.specs.Reading.{Kind, known, skippable, demanding}
use Rattle.ie_walk.specs.Totals.{ies_of, octets_of}
use Rattle.ie_walk.specs.declared.ie.Ie.{Ie}
use Rattle.ie_walk.specs.Walks.{Part, Found, part_in}
use Rattle.iewalk.specs.declared.line.Seen.{Seen}
use Rattle.iewalk.specs.declared.line.Line.{Line}
use Rattle.iewalk.specs.declared.line.Line.TheVariants.{Known, Skippable, Demanding, Truncated, Refused, End}

-- "iei=12 at=9 size=2"
abbrev pub seen_text : Seen → List ℕ
seen_text x = codes "iei=" ++ (hex_octet x.iei.0 ++ (codes " at=" ++ (decimal x.place ++ (codes " size=" ++ decimal x.size))))

abbrev pub line_text : Line → List ℕ
line_text (Known entry seen) = codes "known entry=" ++ (decimal entry ++ (codes " " ++ seen_text seen))
line_text (Skippable seen) = codes "skippable " ++ seen_text seen
line_text (Demanding seen) = codes "demanding " ++ seen_text seen
line_text (Truncated iei place needed at_hand) = codes "truncated iei=" ++ (hex_octet iei.0 ++ (codes " at=" ++ (decimal place ++ (codes " needed=" ++ (decimal needed ++ (codes " at_hand=" ++ decimal at_hand))))))
line_text (Refused number) = codes "refused " ++ decimal number
line_text (End ies octets) = codes "end ies=" ++ (decimal ies ++ (codes " octets=" ++ decimal octets))

abbrev pub text : List Line → List ℕ
text [] = []
text (x ∷ xs) = (line_text x ++ codes "\n") ++ text xs

abbrev pub hex : ℕ → HexOctet
hex octet = record { 0 = octet }

abbrev pub seen : Part → Seen
seen p = record { iei = hex p.iei; place = p.place; size = length p.whole }

abbrev pub seen_in : Ie → Seen
seen_in i = seen (part_in i)

abbrev pub ie_line_by : Kind → Part → Line
ie_line_by (known position) p = Known position (seen p)
ie_line_by skippable p = Skippable (seen p)
ie_line_by demanding p = Demanding (seen p)

abbrev pub ie_line : Found → Line
ie_line f = ie_line_by f.kind f.part

abbrev pub closing_by : Option (Placed IeFault) → Totals → Line
closing_by (Some f) t = Truncated (hex f.thing.iei) f.place f.thing.octets.needed f.thing.octets.at_hand
closing_by None t = End (ies_of t) (octets_of t)

abbrev pub closing_line : Division → Line
closing_line d = closing_by d.unfinished d.totals
