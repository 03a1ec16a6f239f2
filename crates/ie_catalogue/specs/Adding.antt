-- What adding an entry to a checked catalogue comes to.
--   shares     some octet is covered by both entries
--   clashes    an octet that the entry covers is already covered
--   adding     the answer: 6 where there are 64, 8 where it clashes
--   added_to   the entries afterwards: a refusal adds none
use Rattle.std.specs.Prelude.{Bool, cond, ◌&&◌, List, [], ◌∷◌, ◌++◌, length, is_ok, Ok, Err, Result, nat_le}
use Rattle.ie_catalogue.specs.declared.entry.Entry.{Entry}
use Rattle.ie_catalogue.specs.Below.{some_below}
use Rattle.ie_catalogue.specs.Entries.{covers, known}
use Rattle.ie_catalogue.specs.Refusals.{Refusal, refused}

unfoldable pub shares : Entry → Entry → Bool
shares a b = some_below (λ octet. covers a octet && covers b octet) 256

unfoldable pub clashes : List Entry → Entry → Bool
clashes es e = some_below (λ octet. covers e octet && known es octet) 256

abbrev pub adding : List Entry → Entry → Result (Unit {0}) Refusal
adding es e = cond (nat_le 64 (length es)) (Err (refused 6)) (cond (clashes es e) (Err (refused 8)) (Ok tt))

abbrev pub added_to : List Entry → Entry → List Entry
added_to es e = cond (is_ok (adding es e)) (es ++ e ∷ []) es
