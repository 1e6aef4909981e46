use Rattle.std.proofs.Common.{[], refl, subst}
use Rattle.sn_rows.specs.Table.{Rows}
use Rattle.sn_sets.proofs.Facts.{later_again}
use Rattle.sn_client.specs.Calls.{device_rows}
use Rattle.sn_client.specs.Going.{IsToAsk}
use Rattle.sn_device.specs.Changing.{MayAsk}
use Rattle.sn_device.specs.Runs.{AnswersChange, AsksFor, AsksHost, CommitsStep, Then, change_to, is_over, refused}
use Rattle.sn_device.specs.States.{HasSets}
use Rattle.sn_device.specs.Steps.{asks}
use Rattle.sn_client.specs.Syncing.{IsOpenSince, MayHaveSince}
use Rattle.sn_client.proofs.ChangingLemmas.{asks_new}
use Rattle.sn_client.proofs.Moments.{still_open}
use Rattle.sn_client.proofs.PieceLemmas.{ends_at_once, went_within}
use Rattle.sn_client.proofs.device.Device.ask_for.Goals as goal

pub ask_for_set-requires-clause-may : goal.ask_for_set-requires-clause-may
ask_for_set-requires-clause-may g c =
    let to_ask = c.in-Ok.ensures.ok in
    (to_ask.owner, c.in-Ok.found.0, to_ask.holds, to_ask.may, refl, to_ask.new.identifier_is)

pub returns-in-Ok-clause-went : goal.returns-in-Ok-clause-went
returns-in-Ok-clause-went g c = λ kept opens.
    let to_ask : IsToAsk kept.rows c.args.words.now c.args.password.now c.args.cost c.args.made c.in-Ok.found.0 c.in-Ok.found.1 c.set_to_ask.new.words =
    subst (λ (r : Rows). IsToAsk r c.args.words.now c.args.password.now c.args.cost c.args.made c.in-Ok.found.0 c.in-Ok.found.1 c.set_to_ask.new.words) opens.rows_are c.in-Ok.ensures.ok
    in
    went_within (IsOpenSince c.args.self kept) (MayHaveSince c.args.self kept)
    (Then (CommitsStep (asks c.in-Ok.found.1)) (AsksHost (change_to to_ask.owner c.in-Ok.found.0.present c.in-Ok.found.1) (AnswersChange to_ask.owner c.in-Ok.found.0.present c.in-Ok.found.1)))
    (AsksFor c.args.password.now c.args.cost) (record { made = c.args.made; rows = kept.rows; words = c.set_to_ask.new.words }) (record { made = c.args.made; rows = kept.rows; words = c.args.words.now }) kept (g.L.Link.aimed c.args.link.now) (g.L.Link.asks c.args.link.now c.ask_for_set.new.link)
    c.ask_for_set.new.words c.ask_for_set.result
    (λ acts turn so. asks_new c.args.password.now c.args.cost (record { made = c.args.made; rows = kept.rows; words = c.args.words.now }) to_ask.owner c.in-Ok.found.0 to_ask.holds to_ask.may to_ask.few c.in-Ok.found.1
    c.set_to_ask.new.words to_ask.new acts turn so)
    (c.ask_for_set.ensures.went kept to_ask.owner opens to_ask.holds.owned)

pub returns-in-Ok-clause-words : goal.returns-in-Ok-clause-words
returns-in-Ok-clause-words g c = later_again c.args.words.now c.set_to_ask.new.words c.ask_for_set.new.words c.set_to_ask.ensures.words c.ask_for_set.ensures.words

pub returns-in-Err-clause-went : goal.returns-in-Err-clause-went
returns-in-Err-clause-went g c = λ kept opens.
    ends_at_once {T = Unit {0}} (IsOpenSince c.args.self kept) (MayHaveSince c.args.self kept) (AsksFor c.args.password.now c.args.cost) (record { made = c.args.made; rows = kept.rows; words = c.args.words.now }) kept
    (g.L.Link.aimed c.args.link.now) (g.L.Link.asks c.args.link.now c.args.link.now) c.set_to_ask.new.words c.args.self c.in-Err.why
    (subst (λ (r : Rows). AsksFor c.args.password.now c.args.cost (record { made = c.args.made; rows = r; words = c.args.words.now }) [] (is_over (refused c.in-Err.why))) opens.rows_are c.in-Err.ensures.err)
    (g.met.L.Link.asking.none c.args.link.now) (still_open c.args.self c.args.self kept refl g.met.D.Disk.only_now opens opens)

pub returns-in-Err-clause-link_fault : goal.returns-in-Err-clause-link_fault
returns-in-Err-clause-link_fault g c = λ is. absurd (c.in-Err.ensures.link is)
