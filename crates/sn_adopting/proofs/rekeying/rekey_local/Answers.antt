use Rattle.std.proofs.Common.{◌≡◌, IfNone, IfSome, Option, subst}
use Rattle.std.proofs.lemmas.Result.{on_ok_weaker}
use Rattle.sn_rekey.specs.Rekeying.{HasNoneOpen, HasOpen, Rekeys}
use Rattle.sn_rows.specs.declared.device_rows.LocalItem.{LocalItem}
use Rattle.sn_adopting.proofs.RekeyLemmas.{rekeys_none, rekeys_one}
use Rattle.sn_adopting.proofs.rekeying.rekey_local.Goals as goal

pub returns-in-Some-clause-added : goal.returns-in-Some-clause-added
returns-in-Some-clause-added c =
    let P : Option LocalItem → Type 0 = λ f. IfSome f (λ after. HasOpen c.args.sets.now c.args.item.now
    × Rekeys c.args.sets.now c.args.set.now c.args.words.now c.args.item.now after c.rekey_item.new.words) in
    let is : HasOpen c.args.sets.now c.args.item.now × Rekeys c.args.sets.now c.args.set.now c.args.words.now c.args.item.now c.in-Some.again c.rekey_item.new.words =
    subst P c.in-Some.is c.in_ok-found.ensures.some in
    on_ok_weaker c.push_local.result
    (λ pushed. rekeys_one c.args.sets.now c.args.set.now c.args.words.now c.args.number c.args.item.now c.in-Some.again pushed.0 c.args.changes.now
    c.push_local.new.changes c.rekey_item.new.words is.0 is.1 pushed.1 pushed.2)
    c.push_local.ensures

pub returns-in-None-clause-added : goal.returns-in-None-clause-added
returns-in-None-clause-added c =
    let P : Option LocalItem → Type 0 = λ f. IfNone f (HasNoneOpen c.args.sets.now c.args.item.now × (c.rekey_item.new.words ≡ c.args.words.now)) in
    let is : HasNoneOpen c.args.sets.now c.args.item.now × (c.rekey_item.new.words ≡ c.args.words.now) = subst P c.in-None.is c.in_ok-found.ensures.none in
    rekeys_none c.args.sets.now c.args.set.now c.args.words.now c.args.number c.args.item.now c.args.changes.now c.rekey_item.new.words is.0 is.1
