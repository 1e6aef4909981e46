-- A row that is put to stand on the account's last version of its item.
use Rattle.std.proofs.Common.{◌≡◌, ◌≢◌, ◌<◌, ◌≤◌, ℕ, List, Option, Some, Bool, true, false, refl, sym, ap, ◌∙◌, subst, inl, inr, ⊎_elim, arith}
use Rattle.std.specs.Prelude.{if◌then◌else◌}
use Rattle.rand_chacha.specs.ChaCha.{ChaCha}
use Rattle.sn_account.specs.Tells.{IsStored}
use Rattle.sn_device.specs.States.{Columns}
use Rattle.sn_device.specs.Taking.{IsKeptAs}
use Rattle.sn_items.specs.Items.{OpensItem}
use Rattle.sn_items.specs.declared.sealed.Sealed.{Sealed}
use Rattle.sn_laws.proofs.Facts.{last_among, one_there}
use Rattle.sn_laws.specs.Each.{One}
use Rattle.sn_laws.specs.Lookups.{Bytes, greatest, last_of}
use Rattle.sn_laws.specs.declared.ideal.Account.{Account}
use Rattle.sn_laws.specs.declared.ideal.Body.{Body}
use Rattle.sn_laws.specs.declared.ideal.Body.TheVariants.{Under, Gone}
use Rattle.sn_laws.specs.declared.ideal.Version.{Version}
use Rattle.sn_rows.specs.Table.{Rows}
use Rattle.sn_rows.specs.declared.body.RowBody.{RowBody}
use Rattle.sn_rows.specs.declared.body.RowBody.TheVariants as row_body
use Rattle.sn_rows.specs.declared.body.RowStrings.{RowStrings}
use Rattle.sn_rows.specs.declared.change.Change.{Change}
use Rattle.sn_rows.specs.declared.server_rows.ItemRow.{ItemRow}
use Rattle.sn_sets.specs.Sets.{OpensOlder, sealed_of}
use Rattle.sn_sets.specs.declared.sets.Sets.{Sets}
use Rattle.sn_shows.proofs.Facts.{one_opened}
use Rattle.sn_shows.specs.Devices.{IsBase, OpensBase}
use Rattle.sn_shows.specs.Servers.{ShowsAccounts, ShowsStrings, account_at}
use Rattle.sn_shows.specs.Sets.{OpensUnder, set_at}
use Rattle.sn_string.specs.declared.params.KeySet.{KeySet}
use Rattle.sn_sync.specs.Laws.{HasOneStamp}
use Rattle.sn_sync.specs.Stamps.{IsStampText}
use Rattle.sn_sync.specs.declared.item.Body.TheVariants as body
use Rattle.sn_sync.specs.declared.item.Item.{Item}
use Rattle.sn_world.proofs.NumberedSets.{AreHeld, HoldsEach, not_present}
use Rattle.sn_world.proofs.Items.{apart_numbers}
use Rattle.sn_world.proofs.Standing.{its_last}
use Rattle.sn_world.specs.Settling.{TakesLast}

abbrev pub two : Bytes → Bytes → Sealed
two content enc = record { content = content; enc = enc }

pub sealed_same : (x y c e : Bytes) → x ≡ c → y ≡ e → two x y ≡ two c e
sealed_same x y c e h k = cc

-- the strings of a row that is given
pub given_strings : (row : ItemRow) (q : Bool) (c e : Bytes) → (if q then body.Deleted else body.Strings row.content row.enc) ≡ body.Strings c e
    → (q ≡ false) × (row.content ≡ c) × (row.enc ≡ e)
given_strings row true c e h = absurd (cc)
given_strings row false c e h = (refl, cc, cc)

pub given_gone : (row : ItemRow) (q : Bool) → (if q then body.Deleted else body.Strings row.content row.enc) ≡ body.Deleted → q ≡ true
given_gone row true h = refl
given_gone row false h = absurd (cc)

one_sealed : (x y : RowStrings) (found : Option RowBody) → found ≡ Some (row_body.Sealed x) → found ≡ Some (row_body.Sealed y) → x ≡ y
one_sealed x y found e k = cc

-- the version of a row that isn't deleted is under a set, and its strings open to it
pub live_version : (sets : List KeySet) (uuid : Bytes) (row : ItemRow) (b : Body) → ShowsStrings sets uuid row b → row.deleted ≡ false
    → (text : Bytes) × (k : ℕ) × (b ≡ Under text k) × OpensUnder sets k uuid (record { content = row.content; enc = row.enc }) text
live_version sets uuid row (Under text k) h e = (text, k, refl, h.1)
live_version sets uuid row Gone h e = let gone : row.deleted ≡ true = h.0 in absurd (cc)

pub gone_version : (sets : List KeySet) (uuid : Bytes) (row : ItemRow) (b : Body) → ShowsStrings sets uuid row b → row.deleted ≡ true → b ≡ Gone
gone_version sets uuid row (Under text k) h e = let live : row.deleted ≡ false = h.0 in absurd (cc)
gone_version sets uuid row Gone h e = refl

-- strings that open under an older set alone are of a number below the greatest
below : (a : Account) (held : List ℕ) (sets : Sets) → AreHeld a held sets → (uuid : Bytes) (given : Sealed) (text : Bytes)
    (older : OpensOlder sets uuid given text) (k : ℕ) → k ≤ greatest 0 held → set_at k a.sets ≡ Some older.set → k < greatest 0 held
below a held sets h uuid given text older k low at =
    ⊎_elim
    (λ (same : k ≡ greatest 0 held).
    let is : older.set ≡ sets.present =
    one_there older.set sets.present (set_at (greatest 0 held) a.sets) (subst (λ (m : ℕ). set_at m a.sets ≡ Some older.set) same at) h.present in
    absurd (older.not_present text (subst (λ (z : KeySet). OpensItem given uuid z text) is older.opens)))
    (λ (apart : k ≢ greatest 0 held). omega (arith, low, apart)) (apart_numbers k (greatest 0 held))

-- strings that are kept open as those of a row do that stands on the version, whose strings they are
kept_opens : (a : Account) (held : List ℕ) (sets : Sets) → AreHeld a held sets → (words left : ChaCha) (uuid : Bytes) (given : Sealed) (strings : RowStrings)
    (stale : Bool) → IsKeptAs sets words uuid given strings stale left → (k : ℕ) (text : Bytes) → OpensUnder a.sets k uuid given text
    → OpensBase a.sets (greatest 0 held) k uuid strings text stale
kept_opens a held sets h words left uuid given strings stale (inl (not_older, same, fresh, drawn)) k text o =
    subst (λ (b : Bool). OpensBase a.sets (greatest 0 held) k uuid strings text b) (sym fresh)
    (subst (λ (z : Sealed). OpensUnder a.sets k uuid z text) (sym same) o)
kept_opens a held sets h words left uuid given strings stale (inr (other, older, again, is_stale)) k text o =
    let its = h.older older.set older.held in
    let under : OpensUnder a.sets its.0 uuid given other = record { set = older.set; at = its.2; opens = older.opens } in
    let number : its.0 ≡ k = h.one_set given uuid its.0 k other text under o in
    let less : its.0 < greatest 0 held = below a held sets h uuid given other older its.0 its.1 its.2 in
    let same : other ≡ text = one_opened a.sets k uuid given other text (subst (λ (m : ℕ). OpensUnder a.sets m uuid given other) number under) o in
    let still : OpensUnder a.sets (greatest 0 held) uuid (sealed_of strings) other = record { set = sets.present; at = h.present; opens = again.still } in
    subst (λ (b : Bool). OpensBase a.sets (greatest 0 held) k uuid strings text b) (sym is_stale)
    (subst (λ (m : ℕ). m < greatest 0 held) number less, subst (λ (t : Bytes). OpensUnder a.sets (greatest 0 held) uuid (sealed_of strings) t) same still)

-- and where they open under a lesser number that is held, they are to be sent again
kept_stale : (a : Account) (held : List ℕ) (sets : Sets) → AreHeld a held sets → HoldsEach a held sets → (words left : ChaCha) (uuid : Bytes) (given : Sealed)
    (strings : RowStrings)
    (stale : Bool) → IsKeptAs sets words uuid given strings stale left → (k : ℕ) (text : Bytes) → One (λ m. m ≡ k) held → k < greatest 0 held
    → OpensUnder a.sets k uuid (sealed_of strings) text → stale ≡ true
kept_stale a held sets h each words left uuid given strings stale (inr again) k text one less o = again.3
kept_stale a held sets h each words left uuid given strings stale (inl (not_older, same, fresh, drawn)) k text one less o =
    ⊎_elim
    (λ (is : k ≡ greatest 0 held). absurd (omega (arith, is, less)))
    (λ (older : (k < greatest 0 held) × (sets.older ≡ Some o.set)).
    absurd (not_older text (subst (λ (z : Sealed). OpensOlder sets uuid z text) same
    (record { not_present = not_present a held sets h k uuid (sealed_of strings) text less o; set = o.set; held = older.1; opens = o.opens }))))
    (each k o.set one o.at)

-- a row that is put so
pub takes_stale : (a : Account) (held : List ℕ) (sets : Sets) → AreHeld a held sets → HoldsEach a held sets → (change : Change) (number : ℕ) (i : Item)
    (latest : Option RowBody)
    (p : TakesLast sets change number i latest) (k : ℕ) (strings : RowStrings) (text : Bytes) → One (λ m. m ≡ k) held → k < greatest 0 held
    → p.puts.local.body ≡ Some (row_body.Sealed strings) → OpensUnder a.sets k p.puts.local.uuid (sealed_of strings) text → p.puts.local.stale ≡ true
takes_stale a held sets h each change number i latest p k strings text one less is o =
    let uuid : p.puts.local.uuid ≡ i.uuid = ap (λ (c : Columns). c.uuid) p.puts.columns_are ∙ p.stands_on.uuid_is in
    let put : p.puts.local.body ≡ Some (row_body.Sealed p.stands_on.strings) = ap (λ (c : Columns). c.body) p.puts.columns_are ∙ p.stands_on.body_is in
    let same : strings ≡ p.stands_on.strings = one_sealed strings p.stands_on.strings p.puts.local.body is put in
    ap (λ (c : Columns). c.stale) p.puts.columns_are
    ∙ kept_stale a held sets h each p.words p.left i.uuid (two p.content p.enc) p.stands_on.strings p.columns_then.stale p.stands_on.kept k text one less
    (subst (λ (z : RowStrings). OpensUnder a.sets k i.uuid (sealed_of z) text) same
    (subst (λ (u : Bytes). OpensUnder a.sets k u (sealed_of strings) text) uuid o))

-- the row stands on this version
pub record Based (a : Account) (g : ℕ) (sets : Sets) (change : Change) (number : ℕ) (i : Item) (latest : Option RowBody)
    (p : TakesLast sets change number i latest)
    (v : Version) : Type 0 where
  pub uuid_is : p.puts.local.uuid ≡ i.uuid
  pub base_is : p.puts.local.base ≡ Some p.stands_on.stamp
  pub on : IsBase a g p.puts.local p.stands_on.stamp
  pub stamp_is : v.stamp ≡ p.stands_on.stamp
  pub live : (text : Bytes) × (k : ℕ) × (v.body ≡ Under text k)

pub based_on : HasOneStamp → (server : Rows) (accounts : List Account) (n : ℕ) (a : Account) (held : List ℕ) (sets : Sets) → AreHeld a held sets → (i : Item)
    (shows : ShowsAccounts server accounts) (at : account_at n accounts ≡ Some a) (stored : IsStored server n i) (change : Change) (number : ℕ)
    (latest : Option RowBody) (p : TakesLast sets change number i latest)
    → Based a (greatest 0 held) sets change number i latest p (its_last server accounts n a i.uuid stored.0 shows at stored.1 stored.2).0
based_on one_stamp server accounts n a held sets h i shows at stored change number latest p =
    of (its_last server accounts n a i.uuid stored.0 shows at stored.1 stored.2)
  where
    row : ItemRow
    row = stored.0

    strings : RowStrings
    strings = p.stands_on.strings

    parts : (row.deleted ≡ false) × (row.content ≡ p.content) × (row.enc ≡ p.enc)
    parts = given_strings row row.deleted p.content p.enc (sym stored.3.body ∙ p.body_is)

    uuid_is : p.puts.local.uuid ≡ i.uuid
    uuid_is = ap (λ (c : Columns). c.uuid) p.puts.columns_are ∙ p.stands_on.uuid_is

    stamp_is : row.updated ≡ p.stands_on.stamp
    stamp_is =
        let text : stored.3.stamp ≡ p.stands_on.stamped.0 = one_there stored.3.stamp p.stands_on.stamped.0 i.updated_at stored.3.updated p.stands_on.stamped.2 in
        one_stamp p.stands_on.stamped.0 row.updated p.stands_on.stamp (subst (λ (t : Bytes). IsStampText t row.updated) text stored.3.spelled) p.stands_on.stamped.1

    opens : (k : ℕ) (text : Bytes) → OpensUnder a.sets k i.uuid (two row.content row.enc) text
        → OpensBase a.sets (greatest 0 held) k p.puts.local.uuid strings text p.puts.local.stale
    opens k text o =
        subst (λ (u : Bytes). OpensBase a.sets (greatest 0 held) k u strings text p.puts.local.stale) (sym uuid_is)
        (subst (λ (b : Bool). OpensBase a.sets (greatest 0 held) k i.uuid strings text b) (sym (ap (λ (c : Columns). c.stale) p.puts.columns_are))
        (kept_opens a held sets h p.words p.left i.uuid (two p.content p.enc) strings p.columns_then.stale p.stands_on.kept k text
        (subst (λ (z : Sealed). OpensUnder a.sets k i.uuid z text) (sealed_same row.content row.enc p.content p.enc parts.1 parts.2) o)))

    of : (version : (v : Version) × (last_of i.uuid a.versions ≡ Some v) × ShowsStrings a.sets i.uuid row v.body × (row.updated ≡ v.stamp) × (row.kind ≡ v.kind))
        → Based a (greatest 0 held) sets change number i latest p version.0
    of version =
        let live = live_version a.sets i.uuid row version.0.body version.2 parts.0 in
        let among = last_among i.uuid a.versions version.0 version.1 in
        record {
          uuid_is = uuid_is;
          base_is = ap (λ (c : Columns). c.base) p.puts.columns_are ∙ p.stands_on.base_is;
          on = record {
            listed = record {
              version = version.0;
              among = among.0;
              item_is = among.1 ∙ sym uuid_is;
              kind_is = sym version.4 ∙ sym stored.3.kind ∙ sym (ap (λ (c : Columns). c.kind) p.puts.columns_are ∙ p.stands_on.kind_is);
              stamp_is = sym version.3 ∙ stamp_is;
              strings = strings;
              body_is = ap (λ (c : Columns). c.body) p.puts.columns_are ∙ p.stands_on.body_is;
              text = live.0;
              number = live.1;
              live = live.2;
            };
            opens = opens live.1 live.0 live.3;
          };
          stamp_is = sym version.3 ∙ stamp_is;
          live = (live.0, live.1, live.2);
        }
