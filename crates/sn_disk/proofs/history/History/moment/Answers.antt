use Rattle.std.proofs.Common.{◌≡◌, ◌∙◌, ap, length, rules}
use Rattle.sn_disk.proofs.Undoing.{moment_is}
use Rattle.sn_disk.specs.Steps.{Told}
use Rattle.sn_disk.proofs.history.History.moment.Goals as goal

pub returns : goal.returns
returns c =
    let count : c.len.result ≡ length c.self.inside.undos.items = search rules in
    count ∙ moment_is c.self.inside.bytes.items c.self.inside.undos.items ∙ ap (λ (told : Told). length told.steps) c.self.view_is
