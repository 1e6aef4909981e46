-- One account has a set or a version more: what this leaves of the state, of what each device's rows show, and of what was sent.
use Rattle.std.proofs.Common.{◌≡◌, ◌≢◌, ◌⊎◌, ◌<◌, ◌≤◌, ℕ, List, [], ◌∷◌, length, Option, Some, refl, sym, ap, ◌∙◌, subst, inl, inr, arith}
use Rattle.std.specs.Prelude.{find}
use Rattle.sn_adopted.specs.Moves.{OlderStale}
use Rattle.sn_changed.proofs.Facts.{is_one_of, named_one_of, was_one_of}
use Rattle.sn_changed.specs.Leaves.{OnlyBecomes, VersionLasts, VersionOnLast, WasLast, WereOnLast, with_version}
use Rattle.sn_items.specs.declared.sealed.Sealed.{Sealed}
use Rattle.sn_laws.proofs.Facts.{last_other}
use Rattle.sn_laws.specs.Each.{Each}
use Rattle.sn_laws.specs.Lookups.{Bytes, account_named, device_named, draft_at, greatest, is_device, is_draft, last_of}
use Rattle.sn_laws.specs.declared.ideal.Account.{Account}
use Rattle.sn_laws.specs.declared.ideal.Device.{Device}
use Rattle.sn_laws.specs.declared.ideal.Draft.{Draft}
use Rattle.sn_laws.specs.declared.ideal.Ideal.{Ideal}
use Rattle.sn_laws.specs.declared.ideal.Version.{Version}
use Rattle.sn_rows.specs.Table.{Rows}
use Rattle.sn_sets.specs.Sets.{sealed_of}
use Rattle.sn_shows.proofs.Facts.{each_at, holder_of}
use Rattle.sn_shows.specs.Devices.{IsBase, ShowsBase, ShowsDevice, ShowsDraft, ShowsDrafted, ShowsHolder}
use Rattle.sn_shows.specs.Laws.{HasAccount}
use Rattle.sn_shows.specs.Servers.{account_at, stamps_in}
use Rattle.sn_shows.specs.Sets.{OpensUnder}
use Rattle.sn_string.specs.declared.params.KeySet.{KeySet}
use Rattle.sn_sync.specs.declared.item.Item.{Item}
use Rattle.sn_account.specs.Sound.{most_accounts, most_generations}
use Rattle.sn_world.proofs.Frames.{LastsBefore}
use Rattle.sn_world.proofs.Lasts.{above_all}
use Rattle.sn_world.proofs.Lists.{this_one}
use Rattle.sn_world.proofs.Tokens.{named_at}
use Rattle.sn_world.specs.Holds.{AreFew, NumbersOf, StaleOf}
use Rattle.sn_world.specs.Live.{IsRewrap}

-- what is a rewrap is one by any account with the same sets and the same last version of its item
pub rewrap_by : (accounts later : List Account) (n : ℕ) (i : Item) (x : IsRewrap accounts n i) (b : Account) → account_at n later ≡ Some b
    → b.sets ≡ x.account.sets → last_of i.uuid b.versions ≡ last_of i.uuid x.account.versions → IsRewrap later n i
rewrap_by accounts later n i x b at sets last = record {
  account = b;
  at = at;
  version = x.version;
  last = last ∙ x.last;
  names = x.names;
  again = record {
    text = x.again.text;
    under = x.again.under;
    live = x.again.live;
    behind = subst (λ (o : List KeySet). x.again.under ≢ length o) (sym sets) x.again.behind;
    kind_is = x.again.kind_is;
    content = x.again.content;
    enc = x.again.enc;
    strings = x.again.strings;
    opens = subst (λ (o : List KeySet). OpensUnder o (length o) i.uuid (record { content = x.again.content; enc = x.again.enc }) x.again.text)
        (sym sets) x.again.opens;
  };
}

-- ---- the devices and their drafts are as they were

-- what is said of an older set's rows is said of them by another account, where what opens under it there opened here
pub older_by : (rows : Rows) (a b : Account) (held : List ℕ)
    → ((older present : ℕ) → held ≡ older ∷ present ∷ [] → (uuid : Bytes) (sealed : Sealed) (text : Bytes) → OpensUnder b.sets older uuid sealed text
    → OpensUnder a.sets older uuid sealed text)
    → OlderStale rows a held → OlderStale rows b held
older_by rows a b [] opened h = tt
older_by rows a b (one ∷ []) opened h = tt
older_by rows a b (older ∷ present ∷ []) opened h =
    λ local item strings text stands is opens. h local item strings text stands is (opened older present refl item.uuid (sealed_of strings) text opens)
older_by rows a b (one ∷ two ∷ three ∷ held) opened h = tt

-- what a draft stands on, on any device, is a stamp of a version of its account, so none above the greatest
pub draft_below : (rows : Rows) (s : Ideal) (name uuid : Bytes) (d : Device) (a : Account) (e : Draft) (n base stamp : ℕ) → HasAccount s name d a
    → ShowsDevice rows s name → draft_at s name uuid ≡ Some e → e.base ≡ Some base → account_at n s.accounts ≡ Some a
    → greatest 0 (stamps_in s.accounts) < stamp → base < stamp
draft_below rows s name uuid d a e n base stamp has shows at is there above =
    let held : ShowsHolder rows s name d a = holder_of rows s name d a shows has in
    let row = held.drafts uuid e at in
    let shown_row = held.locals row.number row.item row.stands in
    let drafted : ShowsDraft a.sets (greatest 0 d.held) row.item e =
    subst (λ (o : Option Draft). ShowsDrafted a.sets (greatest 0 d.held) row.item o) (ap (draft_at s name) row.item_is ∙ at) shown_row.draft in
    let its : IsBase a (greatest 0 d.held) row.item base =
    subst (λ (o : Option ℕ). ShowsBase a (greatest 0 d.held) row.item o) (drafted.base ∙ is) shown_row.base in
    let less : its.listed.version.stamp < stamp =
    this_one (λ (y : Version). y.stamp < stamp) a.versions its.listed.version
    (each_at (λ (b : Account). Each (λ (y : Version). y.stamp < stamp) b.versions) s.accounts n a (above_all s.accounts stamp above) there) its.listed.among in
    subst (λ (k : ℕ). k < stamp) its.listed.stamp_is less

module _ (s later : Ideal) (drafts : later.drafts ≡ s.drafts) (devices : later.devices ≡ s.devices) where
  pub same_device : (name : Bytes) → device_named later name ≡ device_named s name
  same_device name = ap (find (is_device name)) devices

  pub same_draft : (name uuid : Bytes) → draft_at later name uuid ≡ draft_at s name uuid
  same_draft name uuid = ap (find (is_draft name uuid)) drafts

  -- where what stands on a last version then stood on it, the numbers of what was sent stay
  pub numbers_by : (IsOld : Option ℕ → Type 0) (rows : Rows) (name : Bytes)
      → ((identifier : Bytes) (b : Account) → account_named later identifier ≡ Some b → WereOnLast s later identifier b IsOld)
      → ((d : Device) (a : Account) (uuid : Bytes) (e : Draft) → HasAccount s name d a → draft_at s name uuid ≡ Some e → IsOld e.base)
      → NumbersOf s name → NumbersOf later name
  numbers_by IsOld rows name were old h d b has uuid e at p is =
      let before = were d.account b has.account in
      let named : HasAccount s name d before.account = record { device = sym (same_device name) ∙ has.device; account = before.named } in
      let there : draft_at s name uuid ≡ Some e = sym (same_draft name uuid) ∙ at in
      let its = h d before.account named uuid e there p is in
      (its.0, its.1, λ on. its.2 (before.on e.uuid e.base (old d before.account uuid e named there) on))

-- ---- a version more

module _ (lasts_law : VersionLasts) (on_last_law : VersionOnLast) (s later : Ideal) (n : ℕ) (a : Account) (w : Version)
    (o : OnlyBecomes s later n a (with_version w a)) (above : greatest 0 (stamps_in s.accounts) < w.stamp) where
  abbrev now : Account
  now = with_version w a

  -- each account is there, with its sets, and with the last versions of the other items
  pub numbered : (m : ℕ) (b : Account) → account_at m s.accounts ≡ Some b
      → (c : Account) × (account_at m later.accounts ≡ Some c) × (c.identifier ≡ b.identifier) × (c.sets ≡ b.sets)
      × ((uuid : Bytes) → w.uuid ≢ uuid → last_of uuid c.versions ≡ last_of uuid b.versions)
  numbered m b at = by (was_one_of s later n a now o m b at)
    where
      by : ((m ≡ n) × (a ≡ b)) ⊎ ((m ≢ n) × (account_at m later.accounts ≡ Some b))
          → (c : Account) × (account_at m later.accounts ≡ Some c) × (c.identifier ≡ b.identifier) × (c.sets ≡ b.sets)
          × ((uuid : Bytes) → w.uuid ≢ uuid → last_of uuid c.versions ≡ last_of uuid b.versions)
      by (inl (own, is)) =
          subst
          (λ (x : Account). (c : Account) × (account_at m later.accounts ≡ Some c) × (c.identifier ≡ x.identifier) × (c.sets ≡ x.sets)
          × ((uuid : Bytes) → w.uuid ≢ uuid → last_of uuid c.versions ≡ last_of uuid x.versions)) is
          (now, subst (λ (k : ℕ). account_at k later.accounts ≡ Some now) (sym own) o.is, refl, refl, λ uuid differs. last_other uuid a.versions w differs)
      by (inr (differs, there)) = (b, there, refl, refl, λ uuid k. refl)

  -- no more accounts and no more sets than before
  pub few_after : AreFew s.accounts → AreFew later.accounts
  few_after few = record {
    accounts_few = subst (λ (k : ℕ). k ≤ most_accounts) (sym o.counted) few.accounts_few;
    sets_few = λ m b at. by m b (is_one_of s later n a now o m b at);
  }
    where
      by : (m : ℕ) (b : Account) → ((m ≡ n) × (now ≡ b)) ⊎ ((m ≢ n) × (account_at m s.accounts ≡ Some b)) → length b.sets ≤ most_generations
      by m b (inl (own, is)) = subst (λ (x : Account). length x.sets ≤ most_generations) is (few.sets_few n a o.was)
      by m b (inr (differs, there)) = few.sets_few m b there

  -- each last version up to the greatest stamp was the last
  pub lasts : LastsBefore s.accounts later.accounts
  lasts m b uuid v at found within = by (lasts_law s later n a w o m b uuid v at found)
    where
      by : (v ≡ w) ⊎ WasLast s m b.identifier uuid v
          → (c : Account) × (account_at m s.accounts ≡ Some c) × (c.identifier ≡ b.identifier) × (last_of uuid c.versions ≡ Some v)
      by (inl is) =
          let low : v.stamp ≤ greatest 0 (stamps_in s.accounts) = within in
          let same : v.stamp ≡ w.stamp = ap (λ (x : Version). x.stamp) is in
          let high : greatest 0 (stamps_in s.accounts) < w.stamp = above in
          absurd (omega arith)
      by (inr was) = (was.account, was.at, was.own, was.last)

  -- each draft of each device keeps what its number says
  pub numbers_kept : (rows : Rows) (name : Bytes) → ShowsDevice rows s name → NumbersOf s name → NumbersOf later name
  numbers_kept rows name shows h =
      numbers_by s later o.drafts o.devices (λ base. base ≢ Some w.stamp) rows name (on_last_law s later n a w o)
      (λ d b uuid e has at is.
      let k = named_at s d.account b has.account in
      let low : w.stamp < w.stamp = draft_below rows s name uuid d b e k.0 w.stamp w.stamp has shows at is k.1 above in
      absurd (omega arith)) h

  -- and each row of an older set stays to be sealed again
  pub stale_kept : (rows : Rows) (name : Bytes) → StaleOf rows s name → StaleOf rows later name
  stale_kept rows name h d b has = by (named_one_of s later n a now o d.account b has.account)
    where
      device : device_named s name ≡ Some d
      device = sym (same_device s later o.drafts o.devices name) ∙ has.device

      by : ((d.account ≡ a.identifier) × (now ≡ b)) ⊎ ((d.account ≢ a.identifier) × (account_named s d.account ≡ Some b)) → OlderStale rows b d.held
      by (inl (own, is)) =
          older_by rows a b d.held
          (λ older present held uuid sealed text. subst (λ (sets : List KeySet). OpensUnder sets older uuid sealed text) (ap (λ (x : Account). x.sets) (sym is)))
          (h d a (record { device = device; account = subst (λ (i : Bytes). account_named s i ≡ Some a) (sym own) o.was_named }))
      by (inr (differs, named)) = h d b (record { device = device; account = named })

  -- what was sent of a row to be sealed again is that still, unless it is of the version's item
  pub rewrap_stays : (m : ℕ) (i : Item) → w.uuid ≢ i.uuid → IsRewrap s.accounts m i → IsRewrap later.accounts m i
  rewrap_stays m i differs x =
      let c = numbered m x.account x.at in
      rewrap_by s.accounts later.accounts m i x c.0 c.1 c.3 (c.4 i.uuid differs)
