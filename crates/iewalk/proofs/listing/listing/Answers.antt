use Rattle.std.proofs.Common.{string_bytes, arith}
use Rattle.ie_catalogue.specs.Lending.{lent_entries}
use Rattle.iewalk.proofs.Closing.{listing_from}
use Rattle.iewalk.proofs.listing.listing.Goals as goal

pub returns : goal.returns
returns c =
    listing_from (lent_entries c.catalogue.result) c.args.message.now c.imperative_end.result (string_bytes c.new-out.result) (string_bytes c.push_message.new.out)
    c.catalogue.ensures.value c.imperative_end.ensures c.new-out.ensures.bytes (omega arith) c.in_ok-push_message.ensures
