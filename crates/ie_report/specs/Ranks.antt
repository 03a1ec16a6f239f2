-- An order rule with a table of ranks, as the tests have one.
--   outranks   an admitted position has a greater rank; beyond the table ranks are 0
--   by_rank    in exactly if none has
use Rattle.std.specs.Prelude.{ℕ, Bool, not, ◌&&◌, List, nat_lt, slice_index}
use Rattle.ie_catalogue.specs.Below.{some_below}
use Rattle.ie_tally.specs.Sets.{has}
use Rattle.ie_report.specs.Orders.{Order}

abbrev pub outranks : List ℕ → ℕ → ℕ → Bool
outranks ranks s p = some_below (λ q. has s q && nat_lt (slice_index ranks p) (slice_index ranks q)) 64

abbrev pub by_rank : List ℕ → Order
by_rank ranks s p = not (outranks ranks s p)
