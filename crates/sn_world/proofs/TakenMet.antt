-- A version of the server's that meets a row with a draft, where the applying of an answer stands.
use Rattle.std.proofs.Common.{◌≡◌, ℕ, Option, Some, None, sym, ap, ◌∙◌, subst}
use Rattle.rand_chacha.specs.ChaCha.{ChaCha}
use Rattle.sn_account.specs.Tells.{IsStored}
use Rattle.sn_device.specs.Laws.{StayStanding}
use Rattle.sn_device.specs.Sending.{PutsColumns}
use Rattle.sn_device.specs.States.{Columns, HasItem}
use Rattle.sn_device.specs.Taking.{Progress, StandsOn}
use Rattle.sn_items.specs.ItemLaws.{OneContent}
use Rattle.sn_laws.proofs.Facts.{one_there}
use Rattle.sn_laws.specs.Laws.{VersionsRise}
use Rattle.sn_laws.specs.Lookups.{Bytes, greatest}
use Rattle.sn_laws.specs.Reached.{DeletionsStay}
use Rattle.sn_laws.specs.declared.ideal.Account.{Account}
use Rattle.sn_laws.specs.declared.ideal.Device.{Device}
use Rattle.sn_laws.specs.declared.ideal.Ideal.{Ideal}
use Rattle.sn_rows.specs.Table.{Rows}
use Rattle.sn_rows.specs.declared.body.RowBody.{RowBody}
use Rattle.sn_rows.specs.declared.change.Change.{Change}
use Rattle.sn_rows.specs.declared.device_rows.LocalItem.{LocalItem}
use Rattle.sn_rows.specs.declared.device_rows.OwnerRow.{OwnerRow}
use Rattle.sn_sets.specs.declared.sets.Sets.{Sets}
use Rattle.sn_shows.proofs.Facts.{holder_of}
use Rattle.sn_shows.specs.Laws.{AccountsApart, SettleKeeps, SettledShows}
use Rattle.sn_shows.specs.Sets.{set_at}
use Rattle.sn_string.specs.declared.params.KeySet.{KeySet}
use Rattle.sn_sync.specs.Laws.{HasOneStamp, HasOneToken}
use Rattle.sn_sync.specs.declared.item.Body.TheVariants as body
use Rattle.sn_sync.specs.declared.item.Item.{Item}
use Rattle.sn_world.proofs.AccountSets.{one_set}
use Rattle.sn_world.proofs.DeviceSets.{present_at}
use Rattle.sn_world.proofs.HeldSets.{held_sets}
use Rattle.sn_world.proofs.NumberedSets.{AreHeld, HoldsEach, are_held, holds_each}
use Rattle.sn_world.proofs.TakenFrames.{Along, Past}
use Rattle.sn_world.specs.Settling.{AppliesLive, MeetsStored, TakesLast}

-- the laws that one version asks for
pub record TakingLaws : Type 0 where
  pub one_stamp : HasOneStamp
  pub one_token : HasOneToken
  pub rise : VersionsRise
  pub apart : AccountsApart
  pub one_text : OneContent
  pub live : AppliesLive
  pub keeps : SettleKeeps
  pub settled : SettledShows
  pub deletions : DeletionsStay
  pub standing : StayStanding

-- the row stands on the version, with this draft or without one
abbrev pub takes_last : (sets : Sets) (words : ChaCha) (i : Item) (content enc : Bytes) → i.body ≡ body.Strings content enc → (latest : Option RowBody)
    (c : Columns) (left : ChaCha) (change : Change) (number : ℕ) → StandsOn sets words i content enc latest None c left → PutsColumns change number c
    → TakesLast sets change number i latest
takes_last sets words i content enc is latest c left change number stands_on puts = record {
  content = content;
  enc = enc;
  body_is = is;
  words = words;
  left = left;
  columns_then = c;
  stands_on = stands_on;
  puts = puts;
}

pub own_uuid : (sets : Sets) (words : ChaCha) (i : Item) (content enc : Bytes) (latest : Option RowBody) (c : Columns) (left : ChaCha) (change : Change) (number : ℕ)
    → StandsOn sets words i content enc latest None c left → (puts : PutsColumns change number c) → puts.local.uuid ≡ i.uuid
own_uuid sets words i content enc latest c left change number stands_on puts = ap (λ (k : Columns). k.uuid) puts.columns_are ∙ stands_on.uuid_is

-- rows of other items are as they were
pub past_so : (rows later now : Rows) (uuid : Bytes) → now ≡ later → Past rows later uuid → Past rows now uuid
past_so rows later now uuid same past = subst (λ (r : Rows). Past rows r uuid) (sym same) past

module _ (server : Rows) (name : Bytes) (n : ℕ) (a : Account) (d : Device) (owner : OwnerRow) (sets : Sets) (p : Progress) (s : Ideal)
    (h : Along server name n a d owner sets p s) where
  present : set_at (greatest 0 d.held) a.sets ≡ Some sets.present
  present = present_at p.rows s name d a owner sets (holder_of p.rows s name d a h.shows h.has) h.holds

  -- the present set is the account's set of the greatest number that is held
  pub present_set : (set : KeySet) → set_at (greatest 0 d.held) a.sets ≡ Some set → set ≡ sets.present
  present_set set is = one_there set sets.present (set_at (greatest 0 d.held) a.sets) is present

  -- the sets are the account's, of the numbers that the device holds
  pub held : AreHeld a d.held sets
  held = are_held p.rows s name d a owner sets (holder_of p.rows s name d a h.shows h.has) h.holds (one_set s h.reached n a h.at)

  pub each_held : HoldsEach a d.held sets
  each_held = holds_each p.rows s name d a owner sets (holder_of p.rows s name d a h.shows h.has) h.holds (held_sets s h.reached name d a h.has)

  abbrev pub met_of : (i : Item) → IsStored server n i → (number : ℕ) (local : LocalItem) → HasItem p.rows i.uuid number local → (latest : RowBody) → local.latest ≡ Some latest
      → MeetsStored server p.rows s name n number a d local i
  met_of i stored number local stands latest latest_is = record {
    one_set = one_set s h.reached n a h.at;
    accounts = h.accounts;
    at = h.at;
    has = h.has;
    shows = h.shows;
    owner = owner;
    sets = sets;
    holds = h.holds;
    stands = stands;
    latest = latest;
    latest_is = latest_is;
    stored = stored;
  }
