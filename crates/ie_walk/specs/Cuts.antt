-- How many octets an IE takes, and what of it is its value.
--   head              IEI and length octets
--   length_of_value   the octets of the value, as the length octets give them
--   needed            the octets that an IE at the front asks for, as far as they tell
--   cut_of            the IE and its value, or the octets needed and at hand
--   cut_meaning       a cut by the octets that it borrows
use Rattle.std.specs.Prelude.{ℕ, ◌+◌, ◌*◌, cond, List, length, take, drop, Ok, Err, Result, nat_lt, slice_index}
use Rattle.ie_walk.specs.declared.cut.Shape.{Shape}
use Rattle.ie_walk.specs.declared.cut.Shape.TheVariants.{Fixed, Tlv, TlvE}
use Rattle.ie_walk.specs.declared.cut.Cut.{Cut}
use Rattle.ie_walk.specs.declared.faults.OctetFault.{OctetFault}

abbrev pub head : Shape → ℕ
head (Fixed n) = 1
head Tlv = 2
head TlvE = 3

-- of two length octets the high one comes first
abbrev pub length_of_value : Shape → List ℕ → ℕ
length_of_value (Fixed n) os = n
length_of_value Tlv os = slice_index os 1
length_of_value TlvE os = 256 * slice_index os 1 + slice_index os 2

abbrev pub needed : Shape → List ℕ → ℕ
needed s os = cond (nat_lt (length os) (head s)) (head s) (head s + length_of_value s os)

abbrev pub CutResult : Type 0
CutResult = Result (List ℕ × List ℕ) OctetFault

abbrev pub cut_of : List ℕ → ℕ → ℕ → CutResult
cut_of os h all = cond (nat_lt (length os) all) (Err (record { needed = all; at_hand = length os })) (Ok (take all os, drop h (take all os)))

abbrev pub cut_meaning : Result Cut OctetFault → CutResult
cut_meaning (Ok c) = Ok (c.whole.now, c.value.now)
cut_meaning (Err e) = Err e
