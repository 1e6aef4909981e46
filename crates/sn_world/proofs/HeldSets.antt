-- A device holds one set of its account or two, whose nonces differ; and every commit but an adoption leaves the rows of the older of two stale.
use Rattle.std.proofs.Common.{◌≡◌, List, length, Some, sym, subst}
use Rattle.rand_chacha.specs.ChaCha.{ChaCha}
use Rattle.sn_adopted.proofs.Facts.{stale_stays}
use Rattle.sn_adopted.specs.Moves.{AdoptsNone}
use Rattle.sn_device.specs.Steps.{Step, What}
use Rattle.sn_laws.proofs.Facts.{devices_all_hold, nonces_differ, one_there}
use Rattle.sn_laws.specs.Each.{Each}
use Rattle.sn_laws.specs.Lookups.{Bytes, account_named, account_of, device_named}
use Rattle.sn_laws.specs.Reached.{HoldsSets, IsOneOrTwo, NoncesApart}
use Rattle.sn_laws.specs.declared.ideal.Account.{Account}
use Rattle.sn_laws.specs.declared.ideal.Device.{Device}
use Rattle.sn_laws.specs.declared.ideal.Ideal.{Ideal}
use Rattle.sn_rows.specs.Table.{rows_after}
use Rattle.sn_rows.specs.declared.change.Change.{Change}
use Rattle.sn_shows.specs.Laws.{HasAccount}
use Rattle.sn_world.proofs.DeviceSets.{account_is}
use Rattle.sn_world.proofs.ShowsLemmas.{each_at}
use Rattle.sn_world.proofs.Tokens.{named_at}
use Rattle.sn_world.specs.Holds.{Holds, Reached, StaleOf}
use Rattle.sn_world.specs.World.{World}

pub held_sets : (s : Ideal) → Reached s → (name : Bytes) (d : Device) (a : Account) → HasAccount s name d a → IsOneOrTwo (length a.sets) d.held
held_sets s r name d a has =
    let x : HoldsSets (account_of s name) d =
    subst (λ (t : Ideal). device_named t name ≡ Some d → HoldsSets (account_of t name) d) (sym r.is) (devices_all_hold r.moves name d r.legal) has.device in
    let same : x.account ≡ a = one_there x.account a (account_of s name) x.has (account_is s name d a has) in
    subst (λ (b : Account). IsOneOrTwo (length b.sets) d.held) same x.held

pub nonces_apart : (s : Ideal) → Reached s → (identifier : Bytes) (a : Account) → account_named s identifier ≡ Some a → NoncesApart a
nonces_apart s r identifier a named =
    let all : Each NoncesApart s.accounts = subst (λ (t : Ideal). Each NoncesApart t.accounts) (sym r.is) (nonces_differ r.moves r.legal) in
    let at = named_at s identifier a named in
    each_at NoncesApart s.accounts at.0 a all at.1

pub stale_kept : (secret : Bytes) (w : World) (s : Ideal) → Holds secret w s → (name : Bytes) (words left : ChaCha) (what : What) (changes : List Change)
    → AdoptsNone what → Step (w.devices name) words what changes left → StaleOf (rows_after (w.devices name) changes) s name
stale_kept secret w s h name words left what changes none step d a has =
    stale_stays (w.devices name) words left what changes s name d a (h.sound name) (h.devices name) has (held_sets s h.reached name d a has)
    (nonces_apart s h.reached d.account a has.account) (h.older_stale name d a has) none step
