-- The number of each fault of a message, and the values that it carries.
--   truncated         IEI octet and place of the IE, octets needed and at hand from the IEI on
--   message_refusal   a fault by its number and values
--   starting          1, then 2, else what follows
use Rattle.std.specs.Prelude.{ℕ, cond, List, [], ◌∷◌, length, Ok, Err, Result, nat_lt}
use Rattle.ie_catalogue.specs.Refusals.{Refusal, refused}
use Rattle.ie_walk.specs.declared.faults.MessageFault.{MessageFault}
use Rattle.ie_walk.specs.declared.faults.MessageFault.TheVariants.{TooLong, ImperativeEndBeyond, Truncated}

abbrev pub truncated : ℕ → ℕ → ℕ → ℕ → Refusal
truncated iei place needed at_hand = record { number = 3; values = iei ∷ place ∷ needed ∷ at_hand ∷ [] }

abbrev pub message_refusal : MessageFault → Refusal
message_refusal TooLong = refused 1
message_refusal ImperativeEndBeyond = refused 2
message_refusal (Truncated f) = truncated f.thing.iei f.place f.thing.octets.needed f.thing.octets.at_hand

abbrev pub starting : {X : Type 0} → List ℕ → ℕ → X → Result X Refusal
starting message end x = cond (nat_lt 65535 (length message)) (Err (refused 1)) (cond (nat_lt (length message) end) (Err (refused 2)) (Ok x))
