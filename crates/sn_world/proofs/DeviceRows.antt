-- What one change of a device's rows leaves of its other rows, of its tokens and of what it posted.
use Rattle.std.proofs.Common.{◌≡◌, ◌≢◌, ℕ, List, [], ◌∷◌, Option, Some, None, Bool, true, false, refl, sym, ap, ◌∙◌, ⊎_elim, subst, ◌⊎◌}
use Rattle.std.specs.Prelude.{if◌then◌else◌}
use Rattle.std.specs.Str.{bytes_eq}
use Rattle.sn_laws.proofs.Facts.{same_text, text_same}
use Rattle.sn_laws.specs.Lookups.{Bytes}
use Rattle.sn_laws.specs.declared.ideal.Account.{Account}
use Rattle.sn_laws.specs.declared.ideal.Device.{Device}
use Rattle.sn_rows.specs.Facts.{apart_keys, put_elsewhere, put_here, put_or_not}
use Rattle.sn_rows.specs.Table.{Puts, Rows, key_of, rows_after, same_key, value_of}
use Rattle.sn_rows.specs.declared.body.RowStrings.{RowStrings}
use Rattle.sn_rows.specs.declared.change.Change.{Change}
use Rattle.sn_rows.specs.declared.device_rows.LocalItem.{LocalItem}
use Rattle.sn_rows.specs.declared.device_rows.OwnerRow.{OwnerRow}
use Rattle.sn_rows.specs.declared.key.Key.{Key}
use Rattle.sn_rows.specs.declared.key.Key.TheVariants as key
use Rattle.sn_rows.specs.declared.value.Value.{Value}
use Rattle.sn_rows.specs.declared.value.Value.TheVariants as value
use Rattle.sn_sets.specs.Sets.{sealed_of}
use Rattle.sn_shows.specs.Laws.{PutsItem}
use Rattle.sn_shows.specs.Sets.{OpensUnder}
use Rattle.sn_string.specs.declared.params.KeySet.{KeySet}
use Rattle.sn_sync.specs.declared.item.Item.{Item}
use Rattle.sn_world.proofs.Frames.{KeepsPosted, SentAlike}
use Rattle.sn_world.specs.Holds.{DeviceToken, IsTokenBelow, TokensBelow}
use Rattle.sn_device.specs.Sending.{PutsColumns}
use Rattle.sn_device.specs.States.{Columns, HasLocal, HasOwner, token_of}
use Rattle.sn_device.specs.Taking.{new_columns}
use Rattle.sn_world.specs.Live.{IsPosted}
use Rattle.sn_world.specs.World.{OnDevice, World}

-- ---- one value

pub one_local : (x y : LocalItem) (found : Option Value) → found ≡ Some (value.Local x) → found ≡ Some (value.Local y) → x ≡ y
one_local x y found e k = cc

pub one_owner : (x y : OwnerRow) (found : Option Value) → found ≡ Some (value.Owner x) → found ≡ Some (value.Owner y) → x ≡ y
one_owner x y found e k = cc

-- a change of another row leaves this one
pub past_key : (rows : Rows) (change : Change) (at k : Key) → key_of change ≡ at → at ≢ k → rows_after rows (change ∷ []) k ≡ rows k
past_key rows change at k of apart =
    ap (λ (b : Bool). if b then value_of change else rows k) (ap (λ (z : Key). same_key z k) of ∙ apart_keys at k apart)

pub number_of_key : {n m : ℕ} → key.Local m ≡ key.Local n → n ≡ m
number_of_key e = cc

-- the row of a new item, whose draft opens under the set of this number
pub puts_new : (change : Change) (number : ℕ) (sets : List KeySet) (g : ℕ) (uuid kind text : Bytes) (strings : RowStrings)
    → PutsColumns change number (new_columns uuid kind strings) → OpensUnder sets g uuid (sealed_of strings) text → PutsItem change number sets g uuid kind text
puts_new change number sets g uuid kind text strings puts opens = record {
  item = puts.local;
  puts = puts.puts;
  uuid_is = ap (λ (c : Columns). c.uuid) puts.columns_are;
  kind_is = ap (λ (c : Columns). c.kind) puts.columns_are;
  base = ap (λ (c : Columns). c.base) puts.columns_are;
  no_body = ap (λ (c : Columns). c.body) puts.columns_are;
  strings = strings;
  latest = ap (λ (c : Columns). c.latest) puts.columns_are;
  opens = opens;
  posted = ap (λ (c : Columns). c.posted) puts.columns_are;
}

-- ---- the device's own row

pub token_same : (secret : Bytes) (rows now : Rows) (accounts : List Account) (d : Device) → now key.Owner ≡ rows key.Owner
    → DeviceToken secret rows accounts d → DeviceToken secret now accounts d
token_same secret rows now accounts d same x =
    record { owner = x.owner; has = same ∙ x.has; number = x.number; account = x.account; at = x.at; own = x.own; uuid_is = x.uuid_is; is = x.is }

pub sync_tokens_same : (rows now : Rows) (last : ℕ) → now key.Owner ≡ rows key.Owner → TokensBelow rows last → TokensBelow now last
sync_tokens_same rows now last same h owner has = h owner (sym same ∙ has)

-- where its tokens of a sync are the same
pub sync_tokens_kept : (rows now : Rows) (last : ℕ) (was new : OwnerRow) → HasOwner rows was → HasOwner now new → new.sync_token ≡ was.sync_token
    → new.cursor_token ≡ was.cursor_token → TokensBelow rows last → TokensBelow now last
sync_tokens_kept rows now last was new owned here sync cursor h owner has =
    let is : owner ≡ new = one_owner owner new (now key.Owner) has here in
    let sync_is : was.sync_token ≡ owner.sync_token = sym (ap (λ (o : OwnerRow). o.sync_token) is ∙ sync) in
    let cursor_is : was.cursor_token ≡ owner.cursor_token = sym (ap (λ (o : OwnerRow). o.cursor_token) is ∙ cursor) in
    subst (λ (c : Bytes). IsTokenBelow (token_of owner.sync_token) last × ((token_of c ≡ None) ⊎ (token_of c ≡ token_of owner.sync_token))) cursor_is
    (subst (λ (t : Bytes). IsTokenBelow (token_of t) last × ((token_of was.cursor_token ≡ None) ⊎ (token_of was.cursor_token ≡ token_of t))) sync_is (h was owned))

-- a put of an item's row leaves it
pub owner_past : (rows : Rows) (change : Change) (number : ℕ) (v : Value) → Puts change (key.Local number) v
    → rows_after rows (change ∷ []) key.Owner ≡ rows key.Owner
owner_past rows change number v puts = put_elsewhere rows change (key.Local number) key.Owner v puts (λ e. cc)

-- and a put of that leaves items
pub local_past : (rows : Rows) (change : Change) (v : Value) → Puts change key.Owner v → (number : ℕ)
    → rows_after rows (change ∷ []) (key.Local number) ≡ rows (key.Local number)
local_past rows change v puts number = put_elsewhere rows change key.Owner (key.Local number) v puts (λ e. cc)

-- ---- what was posted

pub posted_same : (rows now : Rows) → ((number : ℕ) → now (key.Local number) ≡ rows (key.Local number)) → KeepsPosted rows now
posted_same rows now same number local stands some = (local, same number ∙ stands, (refl, refl, refl, refl))

pub posted_both : (rows mid now : Rows) → KeepsPosted rows mid → KeepsPosted mid now → KeepsPosted rows now
posted_both rows mid now first second number local stands some =
    let l = first number local stands some in
    let k = second number l.0 l.1 (λ none. some (sym l.2.3 ∙ none)) in
    (k.0, k.1, (k.2.0 ∙ l.2.0, k.2.1 ∙ l.2.1, k.2.2 ∙ l.2.2, k.2.3 ∙ l.2.3))

-- the row that is put had nothing posted, or is sent alike
pub posted_put : (rows : Rows) (change : Change) (number : ℕ) (new : LocalItem) → Puts change (key.Local number) (value.Local new)
    → ((local : LocalItem) → HasLocal rows number local → local.posted ≢ None → SentAlike local new) → KeepsPosted rows (rows_after rows (change ∷ []))
posted_put rows change number new puts alike at local stands some =
    ⊎_elim
    (λ (same : key.Local number ≡ key.Local at).
    let here : rows_after rows (change ∷ []) (key.Local at) ≡ Some (value.Local new) =
    ap (rows_after rows (change ∷ [])) (sym same) ∙ put_here rows change (key.Local number) (value.Local new) puts in
    (new, here, alike local (ap rows same ∙ stands) some))
    (λ (past : rows_after rows (change ∷ []) (key.Local at) ≡ rows (key.Local at)). (local, past ∙ stands, (refl, refl, refl, refl)))
    (put_or_not rows change (key.Local number) (value.Local new) puts (key.Local at))

-- what another row than the changed one has posted
pub posted_elsewhere : (rows : Rows) (change : Change) (number : ℕ) (i : Item) → key_of change ≡ key.Local number → (x : IsPosted rows i) → x.number ≢ number
    → IsPosted (rows_after rows (change ∷ [])) i
posted_elsewhere rows change number i of x differs = record {
  number = x.number;
  local = x.local;
  stands = past_key rows change (key.Local number) (key.Local x.number) of (λ e. differs (number_of_key e)) ∙ x.stands;
  uuid_is = x.uuid_is;
  kind_is = x.kind_is;
  base = x.base;
  posted = x.posted;
  posted_is = x.posted_is;
  body_is = x.body_is;
}

-- ---- a world with one device's rows changed

abbrev pub with_device : World → Bytes → Rows → World
with_device w name rows = record { server = w.server; devices = λ other. if bytes_eq other name then rows else w.devices other; made = w.made }

pub with_own : (w : World) (name : Bytes) (rows : Rows) → (with_device w name rows).devices name ≡ rows
with_own w name rows = ap (λ (b : Bool). if b then rows else w.devices name) (text_same name name refl)

pub with_other : (w : World) (name : Bytes) (rows : Rows) (other : Bytes) → other ≢ name → (with_device w name rows).devices other ≡ w.devices other
with_other w name rows other apart = by (bytes_eq other name) refl
  where
    by : (b : Bool) → bytes_eq other name ≡ b → (with_device w name rows).devices other ≡ w.devices other
    by true same = absurd (apart (same_text other name same))
    by false off = ap (λ (b : Bool). if b then rows else w.devices other) off

-- the first of some changes, and now the others
pub first_change : (w : World) (name : Bytes) (change : Change) → OnDevice w (with_device w name (rows_after (w.devices name) (change ∷ []))) name (change ∷ [])
first_change w name change = record {
  server = refl;
  own = with_own w name (rows_after (w.devices name) (change ∷ []));
  others = with_other w name (rows_after (w.devices name) (change ∷ []));
  made = refl;
}

pub then_others : (w next : World) (name : Bytes) (change : Change) (changes : List Change) → OnDevice w next name (change ∷ changes)
    → OnDevice (with_device w name (rows_after (w.devices name) (change ∷ []))) next name changes
then_others w next name change changes on = record {
  server = on.server;
  own = on.own ∙ ap (λ (r : Rows). rows_after r changes) (sym (with_own w name (rows_after (w.devices name) (change ∷ []))));
  others = λ other apart. on.others other apart ∙ sym (with_other w name (rows_after (w.devices name) (change ∷ [])) other apart);
  made = on.made;
}
