use Rattle.std.proofs.Common.{◌≡◌, [], ◌∷◌, ◌++◌, map, string_bytes, ap, ◌∙◌}
use Rattle.ie_walk.specs.Reading.{reads}
use Rattle.ie_walk.specs.Runs.{Standing, walked, standing}
use Rattle.ie_walk.proofs.Starting.{started}
use Rattle.iewalk.specs.Lines.{text, ie_line}
use Rattle.iewalk.specs.Listing.{Appends}
use Rattle.iewalk.proofs.Closing.{appended, made_with}
use Rattle.iewalk.proofs.listing.push_message.Goals as goal

pub returns-in_ok-push_ies-in-Ok-Ok : goal.returns-in_ok-push_ies-in-Ok-Ok
returns-in_ok-push_ies-in-Ok-Ok g c =
    let reads_by = reads g.C.Catalogue g.S.SkipRule in
    let R = reads_by c.args.reader in
    let message = c.args.message.octets in
    let m = message.now in
    let end = c.args.message.imperative_end in
    let before = string_bytes c.args.out.now in
    let middle = string_bytes c.push_ies.new.out in
    let after = string_bytes c.push_line.new.out in
    let h = started m end (standing c.in-Ok-Ok.walk) (message, end, c.args.reader) c.in-Ok-Ok.ensures in
    let a = c.in_ok-push_ies-in-Ok-Ok.ensures ∙ ap (λ (w : Standing _ _). before ++ text (map ie_line (walked (reads_by w.2) w.0.now w.1).tokens)) h.2 in
    made_with c.push_line.result (after ≡ middle ++ text (c.last_line.result ∷ [])) (Appends R m end before after)
    (λ b. appended R m end c.in-Ok-Ok.division c.in-Ok-Ok.ensures'.division before middle after h.0 h.1 a (b ∙ ap (λ x. middle ++ text (x ∷ [])) c.last_line.ensures))
    c.push_line.ensures
