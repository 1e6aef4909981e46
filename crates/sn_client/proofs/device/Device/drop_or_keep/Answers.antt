use Rattle.std.proofs.Common.{inl, inr, refl}
use Rattle.sn_device.specs.Runs.{Drops, DropsOrKeeps}
use Rattle.sn_client.specs.Syncing.{IsOpenSince, MayHaveSince, none_asked}
use Rattle.sn_device.specs.declared.error.ClientError.TheVariants as refusal
use Rattle.sn_client.proofs.Moments.{still_open}
use Rattle.sn_client.proofs.PieceLemmas.{ends_at_once, went_within}
use Rattle.sn_client.proofs.device.Device.drop_or_keep.Goals as goal

pub returns-then-status-eq401-clause-went : goal.returns-then-status-eq401-clause-went
returns-then-status-eq401-clause-went g c = λ kept host words made opens.
    went_within (IsOpenSince c.args.self kept) (MayHaveSince c.args.self kept) (Drops (refusal.Refused c.args.status c.args.tag)) (DropsOrKeeps c.args.status c.args.tag) (record { made = made; rows = kept.rows; words = words }) (record { made = made; rows = kept.rows; words = words }) kept host none_asked words c.drop_asked.result
    (λ acts turn drops. inl (c.if-status-eq401.true, drops)) (c.drop_asked.ensures.went kept host words made opens)

pub returns-clause-went : goal.returns-clause-went
returns-clause-went g c = λ kept host words made opens.
    ends_at_once {T = Unit {0}} (IsOpenSince c.args.self kept) (MayHaveSince c.args.self kept) (DropsOrKeeps c.args.status c.args.tag) (record { made = made; rows = kept.rows; words = words }) kept host none_asked words c.args.self (refusal.Refused c.args.status c.args.tag)
    (inr (c.if-status-eq401.false, (refl, refl))) refl
    (still_open c.args.self c.args.self kept refl g.met.D.Disk.only_now opens opens)
