use Rattle.ie_catalogue.proofs.Overlap.{overlap_shares}
use Rattle.ie_catalogue.proofs.checked.overlap.Goals as goal

pub returns : goal.returns
returns c = rw (c.span-a_first.ensures, c.span-b_first.ensures) (overlap_shares c.args.a.now c.args.b.now)
