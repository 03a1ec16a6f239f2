-- What the walk finds at a place.
--   Part, Found   an IE by its octets; with its kind
--   Inside        the IE ends within the longest message
--   ie_of         the IE of a given shape at the front of octets, or its fault
--   stepped       one step over the octets that are left, the first of which stands at `place`
--   moved         where the next step begins
--   ie_in, part_in, found_in, part_in_result   a token's IE, and what they borrow
--   outcome       a step's answer by what it borrows, a refusal by its number and values
use Rattle.std.specs.Prelude.{ℕ, ◌+◌, ◌≤◌, List, [], ◌∷◌, length, Some, None, Ok, Err, Option, Result}
use Rattle.ie_catalogue.specs.Refusals.{Refusal}
use Rattle.ie_walk.specs.declared.cut.Shape.{Shape}
use Rattle.ie_walk.specs.declared.faults.IeFault.{IeFault}
use Rattle.ie_walk.specs.declared.faults.Placed.{Placed}
use Rattle.ie_walk.specs.declared.faults.MessageFault.{MessageFault}
use Rattle.ie_walk.specs.declared.faults.MessageFault.TheVariants.{Truncated}
use Rattle.ie_walk.specs.declared.ie.Ie.{Ie}
use Rattle.ie_walk.specs.declared.ie.Token.{Token}
use Rattle.ie_walk.specs.declared.ie.Token.TheVariants as token
use Rattle.ie_walk.specs.Cuts.{head, needed, cut_of, CutResult}
use Rattle.ie_walk.specs.Faults.{message_refusal}
use Rattle.ie_walk.specs.Reading.{Reading, Kind, known, skippable, demanding, shape, kind}

pub record Part : Type 0 where
  pub iei : ℕ
  pub place : ℕ
  pub whole : List ℕ
  pub value : List ℕ

-- the IE ends within the longest message
abbrev pub Inside : Part → Type 0
Inside p = p.place + length p.whole ≤ 65535

pub record Found : Type 0 where
  pub kind : Kind
  pub part : Part

abbrev pub found : Kind → Part → Found
found k p = record { kind = k; part = p }

abbrev pub part_of : ℕ → ℕ → CutResult → Result Part (Placed IeFault)
part_of iei place (Ok c) = Ok (record { iei = iei; place = place; whole = c.0; value = c.1 })
part_of iei place (Err e) = Err (record { thing = record { iei = iei; octets = e }; place = place })

abbrev pub ie_of : Shape → ℕ → ℕ → List ℕ → Result Part (Placed IeFault)
ie_of s iei place os = part_of iei place (cut_of os (head s) (needed s os))

abbrev pub found_as : Kind → Result Part (Placed IeFault) → Result (Option Found) Refusal
found_as k (Ok p) = Ok (Some (found k p))
found_as k (Err e) = Err (message_refusal (Truncated e))

abbrev pub stepped : Reading → ℕ → List ℕ → Result (Option Found) Refusal
stepped R place [] = Ok None
stepped R place (iei ∷ os) = found_as (kind R iei) (ie_of (shape R iei) iei place (iei ∷ os))

abbrev pub moved : ℕ → Result (Option Found) Refusal → ℕ
moved place (Ok (Some f)) = place + length f.part.whole
moved place (Ok None) = place
moved place (Err e) = place

abbrev pub ie_in : Token → Ie
ie_in (token.Known p i) = i
ie_in (token.Skippable i) = i
ie_in (token.Demanding i) = i

abbrev pub part_in : Ie → Part
part_in i = record { iei = i.iei; place = i.place; whole = i.whole.now; value = i.value.now }

abbrev pub found_in : Token → Found
found_in (token.Known p i) = found (known p) (part_in i)
found_in (token.Skippable i) = found skippable (part_in i)
found_in (token.Demanding i) = found demanding (part_in i)

abbrev pub part_in_result : Result Ie (Placed IeFault) → Result Part (Placed IeFault)
part_in_result (Ok i) = Ok (part_in i)
part_in_result (Err e) = Err e

abbrev pub outcome : Result (Option Token) MessageFault → Result (Option Found) Refusal
outcome (Ok (Some t)) = Ok (Some (found_in t))
outcome (Ok None) = Ok None
outcome (Err e) = Err (message_refusal e)
