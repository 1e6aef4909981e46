use Rattle.std.proofs.Common.{arith, ◌≡◌, ◌≢◌, List, [], ◌∷◌, refl, subst, sym}
use Rattle.sn_rows.specs.Table.{Rows, rows_after}
use Rattle.sn_rows.specs.declared.change.Change.{Change}
use Rattle.sn_table.specs.Kept.{Kept, with_batch}
use Rattle.sn_client.specs.Calls.{device_rows}
use Rattle.sn_device.specs.Runs.{Act, Sends, commits}
use Rattle.sn_device.specs.States.{IsSound, HasNoneAsked}
use Rattle.sn_device.specs.Steps.{posts}
use Rattle.sn_client.specs.Syncing.{IsAskedAndApplied, IsExchanged, IsOpenSince, IsSyncFrom, MayHaveSince, called_of}
use Rattle.sn_client.specs.declared.called.Called.TheVariants as called
use Rattle.sn_device.specs.declared.error.ClientError.{ClientError}
use Rattle.sn_client.specs.declared.syncing.Exchanged.TheVariants as exchanged
use Rattle.sn_client.proofs.KeepLemmas.{keeps_on}
use Rattle.sn_client.proofs.Moments.{asked_as, committed_broken, committed_open, may_on, open_on, still_open}
use Rattle.sn_client.proofs.PostLemmas.{is_none, is_some, none_fits, none_posted, sync_from}
use Rattle.sn_client.proofs.SettledLemmas.{HoldsOwner, owned_posted, settled_posted}
use Rattle.sn_device.proofs.Facts.{steps_stay_sound}
use Rattle.sn_client.proofs.SyncLemmas.{asks_posted, not_posted, posted_first, posted_none, posting_broken, sends_none, stood}
use Rattle.sn_client.proofs.device.Device.exchange.Goals as goal

pub returns-in_default-clause-exchanged : goal.returns-in_default-clause-exchanged
returns-in_default-clause-exchanged g c = λ kept last opens due.
    sends_none (IsOpenSince c.args.self kept) (MayHaveSince c.args.self kept) kept c.args.words.now last
    (g.L.Link.aimed c.args.link.now) (g.L.Link.asks c.args.link.now c.args.link.now) c.args.words.now due c.args.self (g.met.L.Link.asking.none c.args.link.now)
    (still_open c.args.self c.args.self kept refl g.met.D.Disk.only_now opens opens)

pub ask_and_apply-requires-clause-sent : goal.ask_and_apply-requires-clause-sent
ask_and_apply-requires-clause-sent g c =
    let none : c.in-Ok.sending.numbers.items ≡ [] = (is_none c.in-Ok.sending.numbers.len c.in-Ok.sending.numbers.items c.if-is_empty.ensures (omega (arith, c.in-Ok.sending.numbers.ok.0))) in
    subst (λ (p : List Change). IsSyncFrom (rows_after (device_rows c.args.self) p) c.in-Ok.sending.request)
    (none_posted (device_rows c.args.self) c.in-Ok.sending.numbers.items c.in-Ok.sending.changes.items c.in-Ok.ensures.sends.1.posts_them none)
    (sync_from (device_rows c.args.self) c.in-Ok.sending.numbers.items c.in-Ok.sending.changes.items c.in-Ok.sending.request c.in-Ok.ensures.sends.0 c.in-Ok.ensures.sends.1)

pub returns-then-is_empty-clause-exchanged : goal.returns-then-is_empty-clause-exchanged
returns-then-is_empty-clause-exchanged g c = λ kept last opens due.
    let none : c.in-Ok.sending.numbers.items ≡ [] = (is_none c.in-Ok.sending.numbers.len c.in-Ok.sending.numbers.items c.if-is_empty.ensures (omega (arith, c.in-Ok.sending.numbers.ok.0))) in
    let sends : Sends kept.rows c.in-Ok.sending.numbers.items c.in-Ok.sending.changes.items c.in-Ok.sending.request c.in-Ok.ensures.sends.0 = subst (λ (r : Rows). Sends r c.in-Ok.sending.numbers.items c.in-Ok.sending.changes.items c.in-Ok.sending.request c.in-Ok.ensures.sends.0) opens.rows_are c.in-Ok.ensures.sends.1 in
    asks_posted (IsOpenSince c.args.self kept) (MayHaveSince c.args.self kept) kept c.args.words.now last
    (g.L.Link.aimed c.args.link.now) (g.L.Link.asks c.args.link.now c.ask_and_apply.new.link) c.ask_and_apply.new.words due
    c.in-Ok.sending.numbers.items c.in-Ok.sending.changes.items c.in-Ok.sending.request c.in-Ok.ensures.sends.0 sends c.ask_and_apply.result (none_fits kept.rows c.in-Ok.sending.numbers.items c.in-Ok.sending.changes.items sends.posts_them none)
    (subst (λ (k : Kept). IsAskedAndApplied (IsOpenSince c.args.self kept) (MayHaveSince c.args.self kept) k c.args.words.now c.in-Ok.sending.request (g.L.Link.aimed c.args.link.now)
    (g.L.Link.asks c.args.link.now c.ask_and_apply.new.link) c.ask_and_apply.new.words c.ask_and_apply.result)
    (sym (posted_none kept c.in-Ok.sending.numbers.items c.in-Ok.sending.changes.items none)) (c.ask_and_apply.ensures.asked kept opens))

pub ask_and_apply-requires-in-Done-clause-sound : goal.ask_and_apply-requires-in-Done-clause-sound
ask_and_apply-requires-in-Done-clause-sound g c =
    subst IsSound (sym c.in-Done.ensures.rows)
    (steps_stay_sound (device_rows c.args.self) c.args.words.now c.args.words.now (posts c.in-Ok.sending.numbers.items) c.in-Ok.sending.changes.items c.requires.sound
    (c.in-Ok.ensures.sends.1.posts_them, refl))

pub ask_and_apply-requires-in-Done-clause-owned : goal.ask_and_apply-requires-in-Done-clause-owned
ask_and_apply-requires-in-Done-clause-owned g c =
    subst HoldsOwner (sym c.in-Done.ensures.rows)
    (owned_posted (device_rows c.args.self) c.in-Ok.sending.numbers.items c.in-Ok.sending.changes.items c.in-Ok.ensures.sends.1.posts_them c.requires.owned)

pub ask_and_apply-requires-in-Done-clause-sent : goal.ask_and_apply-requires-in-Done-clause-sent
ask_and_apply-requires-in-Done-clause-sent g c =
    subst (λ (r : Rows). IsSyncFrom r c.in-Ok.sending.request) (sym c.in-Done.ensures.rows)
    (sync_from (device_rows c.args.self) c.in-Ok.sending.numbers.items c.in-Ok.sending.changes.items c.in-Ok.sending.request c.in-Ok.ensures.sends.0 c.in-Ok.ensures.sends.1)

pub returns-in-Done-clause-exchanged : goal.returns-in-Done-clause-exchanged
returns-in-Done-clause-exchanged g c = λ kept last opens due.
    let before : List Act = commits (posts c.in-Ok.sending.numbers.items) c.in-Ok.sending.changes.items ∷ [] in
    let now : Kept = with_batch kept c.in-Ok.sending.changes.items in
    let stood_on : IsOpenSince c.args.self kept c.in-Done.device now =
    committed_open c.args.self c.in-Done.device kept c.in-Ok.sending.changes.items (λ told. c.in-Done.ensures.any_moment told kept opens) (c.in-Done.ensures.done kept opens)
    in
    let some : c.in-Ok.sending.numbers.items ≢ [] = (is_some c.in-Ok.sending.numbers.len c.in-Ok.sending.numbers.items c.if-is_empty.ensures (omega (arith, c.in-Ok.sending.numbers.ok.0))) in
    let sends : Sends kept.rows c.in-Ok.sending.numbers.items c.in-Ok.sending.changes.items c.in-Ok.sending.request c.in-Ok.ensures.sends.0 = subst (λ (r : Rows). Sends r c.in-Ok.sending.numbers.items c.in-Ok.sending.changes.items c.in-Ok.sending.request c.in-Ok.ensures.sends.0) opens.rows_are c.in-Ok.ensures.sends.1 in
    asks_posted (IsOpenSince c.args.self kept) (MayHaveSince c.args.self kept) kept c.args.words.now last
    (g.L.Link.aimed c.args.link.now) (g.L.Link.asks c.args.link.now c.ask_and_apply-in-Done.new.link) c.ask_and_apply-in-Done.new.words due
    c.in-Ok.sending.numbers.items c.in-Ok.sending.changes.items c.in-Ok.sending.request c.in-Ok.ensures.sends.0 sends c.ask_and_apply-in-Done.result c.in-Done.ensures.fits.0
    (subst (λ (k : Kept). IsAskedAndApplied (IsOpenSince c.args.self kept) (MayHaveSince c.args.self kept) k c.args.words.now c.in-Ok.sending.request (g.L.Link.aimed c.args.link.now)
    (g.L.Link.asks c.args.link.now c.ask_and_apply-in-Done.new.link) c.ask_and_apply-in-Done.new.words c.ask_and_apply-in-Done.result)
    (sym (posted_first kept c.in-Ok.sending.numbers.items c.in-Ok.sending.changes.items some))
    (asked_as (IsOpenSince c.in-Done.device now) (IsOpenSince c.args.self kept) (MayHaveSince c.in-Done.device now) (MayHaveSince c.args.self kept) now
    (open_on c.args.self c.in-Done.device kept before stood_on) (may_on c.args.self c.in-Done.device kept before stood_on)
    c.args.words.now c.in-Ok.sending.request (g.L.Link.aimed c.args.link.now) (g.L.Link.asks c.args.link.now c.ask_and_apply-in-Done.new.link) c.ask_and_apply-in-Done.new.words
    c.ask_and_apply-in-Done.result (c.ask_and_apply-in-Done.ensures.asked now (c.in-Done.ensures.done kept opens))))

pub returns-in-Done-clause-device : goal.returns-in-Done-clause-device
returns-in-Done-clause-device g c =
    keeps_on c.args.self c.in-Done.device (called_of c.ask_and_apply-in-Done.result) g.met.D.Disk.growing c.in-Done.ensures.least.0 c.in-Done.ensures.grows
    c.in-Done.ensures.later c.ask_and_apply-in-Done.ensures.device

pub returns-in-Done-clause-none_asked : goal.returns-in-Done-clause-none_asked
returns-in-Done-clause-none_asked g c = λ none.
    c.ask_and_apply-in-Done.ensures.none_asked
    (subst HasNoneAsked (sym c.in-Done.ensures.rows)
    (settled_posted (device_rows c.args.self) c.in-Ok.sending.numbers.items c.in-Ok.sending.changes.items c.in-Ok.ensures.sends.1.posts_them c.requires.owned none))

pub returns-in-Refused-clause-exchanged : goal.returns-in-Refused-clause-exchanged
returns-in-Refused-clause-exchanged g c = λ kept last opens due.
    let some : c.in-Ok.sending.numbers.items ≢ [] = (is_some c.in-Ok.sending.numbers.len c.in-Ok.sending.numbers.items c.if-is_empty.ensures (omega (arith, c.in-Ok.sending.numbers.ok.0))) in
    let sends : Sends kept.rows c.in-Ok.sending.numbers.items c.in-Ok.sending.changes.items c.in-Ok.sending.request c.in-Ok.ensures.sends.0 = subst (λ (r : Rows). Sends r c.in-Ok.sending.numbers.items c.in-Ok.sending.changes.items c.in-Ok.sending.request c.in-Ok.ensures.sends.0) opens.rows_are c.in-Ok.ensures.sends.1 in
    subst (λ (why : ClientError). IsExchanged {T = Unit {0}} (IsOpenSince c.args.self kept) (MayHaveSince c.args.self kept) kept (stood kept c.args.words.now last)
    (g.L.Link.aimed c.args.link.now) (g.L.Link.asks c.args.link.now c.args.link.now) c.args.words.now (exchanged.Ended (called.Refused c.in-Refused.device why)))
    (sym c.of_commit.ensures)
    (not_posted (IsOpenSince c.args.self kept) (MayHaveSince c.args.self kept) kept c.args.words.now last
    (g.L.Link.aimed c.args.link.now) (g.L.Link.asks c.args.link.now c.args.link.now) c.args.words.now due
    c.in-Ok.sending.numbers.items c.in-Ok.sending.changes.items c.in-Ok.sending.request c.in-Ok.ensures.sends.0 sends c.in-Refused.device c.in-Refused.error some c.in-Refused.ensures.cause
    (g.met.L.Link.asking.none c.args.link.now)
    (still_open c.args.self c.in-Refused.device kept c.in-Refused.ensures.still g.met.D.Disk.only_now opens (c.in-Refused.ensures.stays kept opens)))

pub returns-in-Refused-clause-owned : goal.returns-in-Refused-clause-owned
returns-in-Refused-clause-owned g c = subst HoldsOwner (sym c.in-Refused.ensures.same) c.requires.owned

pub returns-in-Refused-clause-none_asked : goal.returns-in-Refused-clause-none_asked
returns-in-Refused-clause-none_asked g c = λ none. subst HasNoneAsked (sym c.in-Refused.ensures.same) none

pub returns-clause-exchanged : goal.returns-clause-exchanged
returns-clause-exchanged g c = λ kept last opens due.
    let some : c.in-Ok.sending.numbers.items ≢ [] = (is_some c.in-Ok.sending.numbers.len c.in-Ok.sending.numbers.items c.if-is_empty.ensures (omega (arith, c.in-Ok.sending.numbers.ok.0))) in
    let sends : Sends kept.rows c.in-Ok.sending.numbers.items c.in-Ok.sending.changes.items c.in-Ok.sending.request c.in-Ok.ensures.sends.0 = subst (λ (r : Rows). Sends r c.in-Ok.sending.numbers.items c.in-Ok.sending.changes.items c.in-Ok.sending.request c.in-Ok.ensures.sends.0) opens.rows_are c.in-Ok.ensures.sends.1 in
    posting_broken (IsOpenSince c.args.self kept) (MayHaveSince c.args.self kept) kept c.args.words.now last
    (g.L.Link.aimed c.args.link.now) (g.L.Link.asks c.args.link.now c.args.link.now) c.args.words.now due
    c.in-Ok.sending.numbers.items c.in-Ok.sending.changes.items c.in-Ok.sending.request c.in-Ok.ensures.sends.0 sends c.in-Broken.disk some c.in-Broken.ensures.fits.1
    (g.met.L.Link.asking.none c.args.link.now)
    (committed_broken c.args.self c.in-Broken.disk kept c.in-Ok.sending.changes.items (λ told. c.in-Broken.ensures.any_moment told kept opens) (c.in-Broken.ensures.broken kept opens))
