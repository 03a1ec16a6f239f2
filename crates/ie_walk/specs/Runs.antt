-- The whole walk.
--   Run       the tokens of a walk, and the fault that ended it, if one did
--   walked    the walk over a message whose imperative part ends at `end`
--   standing  all that a walk is, but for its invariant; what is borrowed is the borrow itself
--   begun     the answer of a walk's start, a refusal by its number and values
--   left      what is ahead of a walk
--   resumed   a step's outcome, before what is ahead after it
--   Onward    a token moves the place on, and not past the end
use Rattle.std.specs.Prelude.{◌≡◌, ℕ, zero, suc, ◌+◌, ◌-◌, ◌<◌, ◌≤◌, List, [], ◌∷◌, length, drop, Some, None, Ok, Err, Option, Result}
use Rattle.ie_catalogue.specs.Refusals.{Refusal}
use Rattle.std.specs.Borrow.{Bor}
use Rattle.ie_catalogue.specs.declared.catalogue.Catalogue as catalogue
use Rattle.ie_walk.specs.declared.faults.MessageFault.{MessageFault}
use Rattle.ie_walk.specs.declared.reader.Reader.{Reader}
use Rattle.ie_walk.specs.declared.skip.SkipRule as skip_rule
use Rattle.ie_walk.specs.declared.walk.Walk.{Walk}
use Rattle.ie_walk.specs.Faults.{message_refusal}
use Rattle.ie_walk.specs.Reading.{Reading, reads}
use Rattle.ie_walk.specs.Walks.{Found, stepped}

pub record Run : Type 0 where
  pub tokens : List Found
  pub fault : Option Refusal

abbrev pub at_end : Run
at_end = record { tokens = []; fault = None }

abbrev pub after_token : Found → Run → Run
after_token f r = record { tokens = f ∷ r.tokens; fault = r.fault }

abbrev pub ended_by : Refusal → Run
ended_by e = record { tokens = []; fault = Some e }

-- a step, and then what follows it, given the octets that still belong to the IE found
abbrev pub onward : Result (Option Found) Refusal → (ℕ → Run) → Run
onward (Ok (Some f)) next = after_token f (next (length f.part.whole - 1))
onward (Ok None) next = at_end
onward (Err e) next = ended_by e

-- over the octets from place p on, of which the first k belong to the IE before
abbrev pub run : Reading → ℕ → ℕ → List ℕ → Run
run R p k [] = at_end
run R p (suc k) (o ∷ os) = run R (p + 1) k os
run R p zero (o ∷ os) = onward (stepped R p (o ∷ os)) (λ k. run R (p + 1) k os)

abbrev pub walked : Reading → List ℕ → ℕ → Run
walked R m end = run R end 0 (drop end m)

abbrev pub Standing : Type 0 → Type 0 → Type 0
Standing C S = Bor (List ℕ) × ℕ × Reader C S

abbrev pub standing : {C S : Type 0} → Walk C S → Standing C S
standing w = (w.message, w.place, w.reader)

abbrev pub begun : {C S : Type 0} → Result (Walk C S) MessageFault → Result (Standing C S) Refusal
begun (Ok w) = Ok (standing w)
begun (Err e) = Err (message_refusal e)

abbrev pub left : {C S : Type 0} → catalogue.Ghosts C → skip_rule.Ghosts S → Walk C S → Run
left C S w = walked (reads C S w.reader) w.message.now w.place

abbrev pub resumed : Result (Option Found) Refusal → Run → Run
resumed (Ok (Some f)) r = after_token f r
resumed (Ok None) r = at_end
resumed (Err e) r = ended_by e

-- from place p of message m to place q
abbrev pub Onward : Result (Option Found) Refusal → List ℕ → ℕ → ℕ → Type 0
Onward (Ok (Some f)) m p q = (f.part.place ≡ p) × (p < q) × (q ≡ p + length f.part.whole) × (q ≤ length m)
Onward (Ok None) m p q = Unit {0}
Onward (Err e) m p q = Unit {0}
