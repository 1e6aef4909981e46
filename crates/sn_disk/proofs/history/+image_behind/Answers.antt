use Rattle.std.proofs.Common.{◌≡◌, ◌-◌, ◌∙◌, ◌∷◌, IfOk, ap, length, rules, subst, sym, take, List, ℕ}
use Rattle.sn_disk.proofs.Records.{if_ok_then}
use Rattle.sn_disk.proofs.Undoing.{ends_here, split_last}
use Rattle.sn_disk.specs.Images.{image_of}
use Rattle.sn_disk.specs.Record.{Back, Redoes, back_of, first_of, newest_first, steps_back}
use Rattle.sn_disk.proofs.history.+image_behind.Goals as goal

pub returns-in-None : goal.returns-in-None
returns-in-None n c =
    let file : List ℕ = c.args.file.now in
    let last : Back = back_of c.last-item.result in
    let backs : List Back = newest_first (take (length c.args.undos.now - 1) c.args.undos.now) in
    let are : newest_first c.args.undos.now ≡ last ∷ backs = split_last c.args.undos.now c.last-item.result c.in-len1-up.len_at_least c.last-item.is in
    let redoes : Redoes file (last ∷ backs) = subst (Redoes file) are c.requires in
    let left : file ≡ image_of c.args.image (first_of file (newest_first c.args.undos.now)) (steps_back file (newest_first c.args.undos.now)) =
    ends_here c.args.image file last backs redoes c.in-None.ensures.none ∙ ap (λ (l : List Back). image_of c.args.image (first_of file l) (steps_back file l)) (sym are) in
    let copied : IfOk c.to_vec-in-None.result (λ bytes. bytes.items ≡ file) = search rules in
    if_ok_then c.to_vec-in-None.result _ _ (λ bytes same. same ∙ left) copied
