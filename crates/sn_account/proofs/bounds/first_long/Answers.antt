use Rattle.std.proofs.Common.{◌≤◌, suc, drop, take, length, List, refl, subst, arith}
use Rattle.std.proofs.lemmas.List.{take_all}
use Rattle.std.proofs.lemmas.List.Elements.{All-more}
use Rattle.sn_sync.specs.declared.item.Item.{Item}
use Rattle.sn_account.specs.Syncs.{AreShort, NoneLong, strings_in}
use Rattle.sn_account.proofs.ListLemmas.{around}
use Rattle.sn_account.proofs.bounds.first_long.Goals as goal

pub returns-in-Some-clause-some : goal.returns-in-Some-clause-some
returns-in-Some-clause-some c = record {
  front = take c.items.item-index c.args.items.now;
  item = c.item-item.result;
  later = drop (suc c.items.item-index) c.args.items.now;
  split = around c.args.items.now c.items.item-index c.item-item.result (omega arith) c.item-item.is;
  before = c.items.invariant;
  long = c.in-Some.ensures.some;
  uuid_is = refl;
}

pub items-preserved : goal.items-preserved
items-preserved c =
    let P : Item → Type 0 = λ i. AreShort (strings_in i.body) in
    All-more P c.args.items.now c.items.item-index c.item-item.result (omega arith) c.items.invariant
    (subst P c.item-item.is c.in_default.ensures.none)

pub returns-clause-none : goal.returns-clause-none
returns-clause-none c =
    let whole : length c.args.items.now ≤ c.items.item-index = omega arith in
    subst (λ (xs : List Item). NoneLong xs) (take_all c.items.item-index c.args.items.now whole) c.items.invariant
