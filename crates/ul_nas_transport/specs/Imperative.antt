-- Where the imperative part ends.
--   imperative_end   6 octets, the last two of which give the length of the payload container that follows
--                    them, the high one first; 6 where the message is shorter
use Rattle.std.specs.Prelude.{ℕ, ◌+◌, ◌*◌, cond, List, length, nat_lt, slice_index}

abbrev pub imperative_end : List ℕ → ℕ
imperative_end m = cond (nat_lt (length m) 6) 6 (6 + (256 * slice_index m 4 + slice_index m 5))
