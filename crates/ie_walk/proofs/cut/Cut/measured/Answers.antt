use Rattle.std.proofs.Common.{rules, ◌≡◌, ◌≤◌, length, take}
use Rattle.ie_walk.proofs.Cutting.{cut_made}
use Rattle.ie_walk.proofs.cut.Cut.measured.Goals as goal

pub returns : goal.returns
returns c =
    let fits : c.args.size ≤ length c.args.rest.now = search rules in
    let part : c.in_ok-value.value.now ≡ take c.args.size c.args.rest.now = search rules in
    cut_made c.args.octets.now c.args.rest.now _ c.args.head c.args.size c.requires.after c.requires.within fits part
