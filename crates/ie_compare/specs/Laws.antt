-- The comparison law: when two messages say the same.
--   Octet           a number below 256
--   Accepted        the report of a message of octets, lent some numbers of places
--   WithinLimit     a message of at most 65,535 octets
--   CountsStruck    the report counts as skipped the IEs and octets that striking takes away
--   declined_as     the number of the refusal, or 0 where the report is made
--   Law             the law for one catalogue, skip rule and way of judging
--   Compares        the law for every list of entries, frame, demand and order function
use Rattle.std.specs.Prelude.{◌≡◌, ℕ, ◌+◌, ◌<◌, ◌≤◌, ◌↔◌, length, Ok, Err, Result}
use Rattle.std.specs.List.{AllByRecursion}
use Rattle.ie_catalogue.specs.Refusals.{Refusal}
use Rattle.ie_walk.specs.Reading.{Reading}
use Rattle.ie_report.specs.Orders.{Order}
use Rattle.ie_report.specs.Judging.{Step, fresh, judge}
use Rattle.ie_report.specs.Reports.{Message, imperative, tokens, Report, outcome}
use Rattle.ie_compare.specs.Strikes.{strike, struck, SameWhenStruck}
use Rattle.ie_compare.specs.Alikes.{Alike, PlacesAgree}

abbrev pub Octet : ℕ → Type 0
Octet n = n < 256

pub record Accepted {S : Type 0} (R : Reading) (start : S) (step : Step S) (m : Message) (a : Report) : Type 0 where
  pub octets : AllByRecursion Octet m.octets
  pub row_places : ℕ
  pub diagnosis_places : ℕ
  pub made : outcome R start step m row_places diagnosis_places ≡ Ok a

abbrev pub WithinLimit : Message → Type 0
WithinLimit m = length m.octets ≤ 65535

pub record CountsStruck (R : Reading) (m : Message) (a : Report) : Type 0 where
  pub ies : a.tallies.skipped.ies + length (tokens R (struck R m)) ≡ length (tokens R m)
  pub octets : a.tallies.skipped.octets + length (strike R m) ≡ length m.octets

abbrev pub declined_as : {X : Type 0} → Result X Refusal → ℕ
declined_as (Ok x) = 0
declined_as (Err why) = why.number

pub record Law {S : Type 0} (R : Reading) (start : S) (step : Step S) : Type 0 where
  pub alike : (m n : Message) (a b : Report) → Accepted R start step m a → Accepted R start step n b → imperative m ≡ imperative n → Alike m n a b ↔ SameWhenStruck R m n
  pub places : (m n : Message) (a b : Report) → Accepted R start step m a → Accepted R start step n b → imperative m ≡ imperative n → SameWhenStruck R m n → PlacesAgree R m n a b
  pub totals : (m : Message) (a : Report) → Accepted R start step m a → CountsStruck R m a
  pub truncation : (m n : Message) (p q p' q' : ℕ) → WithinLimit m → WithinLimit n → imperative m ≡ imperative n → SameWhenStruck R m n → (declined_as (outcome R start step m p q) ≡ 3) ↔ (declined_as (outcome R start step n p' q') ≡ 3)

abbrev pub Compares : Type 0
Compares = (R : Reading) (admits : Order) → Law R fresh (judge R.entries admits)
