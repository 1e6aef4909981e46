-- An item of a sync that is accepted: the move is allowed, and the rows show the state after it.
use Rattle.std.proofs.Common.{◌≡◌, ◌⊎◌, ◌<◌, ◌≤◌, ℕ, List, length, Option, Some, None, Bool, refl, sym, ap, ◌∙◌, subst, inl, inr, ⊎_elim, arith}
use Rattle.std.specs.Prelude.{IsTrue}
use Rattle.sn_account.specs.Incoming.{IsAbsent, IsFree, IsHeld, Names, Progress, SameVersion, stamp_of}
use Rattle.sn_account.specs.Incoming.{PutsVersion as RulePuts}
use Rattle.sn_account.specs.Lookups.{HasItem}
use Rattle.sn_laws.proofs.Facts.{allowed_to, found_passes, one_there, same_text}
use Rattle.sn_laws.specs.Lookups.{Bytes, account_for, account_of, draft_at, greatest, is_of}
use Rattle.sn_laws.specs.Moves.{allows, body_under, sent_content}
use Rattle.sn_laws.specs.Relation.{IsNewStamp, IsOnLast, NamesSet}
use Rattle.sn_laws.specs.declared.ideal.Account.{Account}
use Rattle.sn_laws.specs.declared.ideal.Content.{Content}
use Rattle.sn_laws.specs.declared.ideal.Content.TheVariants as content
use Rattle.sn_laws.specs.declared.ideal.Device.{Device}
use Rattle.sn_laws.specs.declared.ideal.Ideal.{Ideal}
use Rattle.sn_laws.specs.declared.ideal.Posted.{Posted}
use Rattle.sn_laws.specs.declared.ideal.Version.{Version}
use Rattle.sn_laws.specs.declared.moves.Move.TheVariants.{Accept}
use Rattle.sn_rows.specs.Table.{Rows}
use Rattle.sn_rows.specs.declared.change.Change.{Change}
use Rattle.sn_rows.specs.declared.key.Key.TheVariants as key
use Rattle.sn_rows.specs.declared.server_rows.ItemRow.{ItemRow}
use Rattle.sn_rows.specs.declared.value.Value.{Value}
use Rattle.sn_rows.specs.declared.value.Value.TheVariants as value
use Rattle.sn_string.specs.declared.params.KeySet.{KeySet}
use Rattle.sn_string.specs.declared.params.Params.{Params}
use Rattle.sn_shows.proofs.Facts.{holder_of}
use Rattle.sn_sync.specs.Stamps.{IsStampText, last_stamp}
use Rattle.sn_sync.specs.declared.item.Item.{Item}
use Rattle.sn_shows.specs.Devices.{ShowsBase, ShowsLocal}
use Rattle.sn_shows.specs.Laws.{PutsVersion, created_of}
use Rattle.sn_shows.specs.Servers.{ShowsItem, ShowsStrings, account_at, first_of, stamps_in}
use Rattle.sn_world.proofs.ShowsLemmas.{draft_is}
use Rattle.sn_world.specs.Holds.{HasNumber}
use Rattle.sn_device.specs.Sending.{SaysBase}
use Rattle.sn_world.specs.Live.{IsPosted}
use Rattle.sn_sync.specs.Laws.{HasOneStamp}
use Rattle.sn_world.proofs.Alive.{IsAlive}
use Rattle.sn_world.specs.Serving.{IsSentRow, number_of, stamp_in}
use Rattle.sn_world.proofs.Lasts.{above_all, above_last, has_last}
use Rattle.sn_world.proofs.Sent.{Sent, sent_of, strings_of}
use Rattle.sn_world.proofs.Standing.{nowhere, no_version, stands_for}

-- the number that the move says
abbrev pub said : ℕ → Content → Option ℕ
said n (content.Plain text) = Some n
said n content.Deleted = None

said_so : (n : ℕ) (c : Content) → NamesSet n c (said n c)
said_so n (content.Plain text) = refl
said_so n content.Deleted = refl

said_of : (sets : List KeySet) (uuid : Bytes) (row : ItemRow) (k : ℕ) (c : Content) → ShowsStrings sets uuid row (body_under c k)
    → said k c ≡ number_of row.deleted k
said_of sets uuid row k (content.Plain text) h = ap (λ (b : Bool). number_of b k) (sym h.0)
said_of sets uuid row k content.Deleted h = ap (λ (b : Bool). number_of b k) (sym h.0)

pub same_row : (r q : ItemRow) (found : Option Value) → found ≡ Some (value.Item r) → found ≡ Some (value.Item q) → r ≡ q
same_row r q found e k = cc

-- an item that names no version names none
unnamed : (text : Bytes) (found : Option Bytes) → found ≡ None → found ≡ Some text → ⊥
unnamed text found none e = cc

-- where no item's row stands there is no stamp
no_stamp : (found : Option Value) → ((row : ItemRow) → ¬ (found ≡ Some (value.Item row))) → stamp_in found ≡ None
no_stamp (Some (value.Item row)) none = absurd (none row refl)
no_stamp (Some (value.Store row)) none = refl
no_stamp (Some (value.Account row)) none = refl
no_stamp (Some (value.Generation row)) none = refl
no_stamp (Some (value.Owner row)) none = refl
no_stamp (Some (value.Set row)) none = refl
no_stamp (Some (value.Local row)) none = refl
no_stamp None none = refl

-- the device's row that has the item as what was sent, of a version that is held, makes it one that was posted
pub posted_of : (p : Progress) (device : Rows) (n stamp : ℕ) (i : Item) (held row : ItemRow) (change : Change) → HasItem p.rows i.uuid held → Names i held
    → RulePuts p n stamp i row change → IsSentRow (p.rows (key.Item i.uuid)) device i.uuid row → IsPosted device i
posted_of p device n stamp i held row change there (text, spelled, names) puts sent = record {
  number = sent.number;
  local = sent.local;
  stands = sent.stands.0;
  uuid_is = sent.stands.1;
  kind_is = sent.kind_is ∙ puts.kind;
  base = subst (λ (b : Option ℕ). SaysBase b i.updated_at) (sym (sent.base_is ∙ ap stamp_in there)) (text, spelled, names);
  posted = sent.posted;
  posted_is = sent.posted_is;
  body_is = sym puts.body ∙ sent.body_is;
}

module _ (p : Progress) (device : Rows) (s : Ideal) (name : Bytes) (n now : ℕ) (present : Params) (a : Account) (d : Device) (i : Item)
    (one_stamp : HasOneStamp) (v : IsAlive p device s name n a d) (x : IsPosted device i) (free : IsFree p n present i) where
  abbrev g : ℕ
  g = greatest 0 d.held

  pub account_is : account_of s name ≡ Some a
  account_is = ap (account_for s.accounts) v.has.device ∙ v.has.account

  abbrev local_shown : ShowsLocal s name g a x.local
  local_shown = (holder_of device s name d a v.rows v.has).locals x.number x.local x.stands

  pub sent : Sent a.sets g x.local x.posted (draft_at s name x.local.uuid)
  sent = sent_of a.sets g x.local x.posted (draft_at s name x.local.uuid) x.posted_is local_shown.draft

  pub at_item : draft_at s name i.uuid ≡ Some sent.draft
  at_item = subst (λ (u : Bytes). draft_at s name u ≡ Some sent.draft) x.uuid_is sent.found_is

  pub uuid_is : sent.draft.uuid ≡ i.uuid
  uuid_is = (draft_is name i.uuid sent.draft (found_passes _ s.drafts sent.draft at_item).0).1

  -- the version that the base names is the last
  on_last_of : (base : Option ℕ) → SaysBase base i.updated_at → ShowsBase a g x.local base → IsOnLast s a i.uuid base
  on_last_of None knows shows =
      nowhere p.rows s.accounts i.uuid v.accounts
      (⊎_elim (λ (absent : IsAbsent p.rows i.uuid). absent)
      (λ (held : (row : ItemRow) × IsHeld p n i row × ¬ (SameVersion row i) × Names i row). absurd (unnamed held.3.0 i.updated_at knows held.3.2)) free.0)
  on_last_of (Some stamp) knows shows =
      let last = has_last i.uuid a.versions shows.listed.version shows.listed.among (shows.listed.item_is ∙ x.uuid_is) in
      let its : ShowsItem p.rows n a i.uuid last.0 = (v.accounts.each n a v.at).items i.uuid last.0 last.1 in (
        last.0,
        last.1,
        ⊎_elim (λ (absent : IsAbsent p.rows i.uuid). absurd (absent its.row its.stands))
            (λ (held : (row : ItemRow) × IsHeld p n i row × ¬ (SameVersion row i) × Names i row). named last.0 its held) free.0,
      )
    where
      named : (last : Version) (its : ShowsItem p.rows n a i.uuid last) (held : (row : ItemRow) × IsHeld p n i row × ¬ (SameVersion row i) × Names i row)
          → last.stamp ≡ stamp
      named last its held =
          let same : held.0 ≡ its.row = same_row held.0 its.row (p.rows (key.Item i.uuid)) held.1.0 its.stands in
          let names : Names i held.0 = held.3 in
          let text : names.0 ≡ knows.0 = cc in
          let spelled : IsStampText knows.0 held.0.updated = subst (λ (t : Bytes). IsStampText t held.0.updated) text names.1 in
          sym its.updated ∙ sym (ap (λ (r : ItemRow). r.updated) same) ∙ one_stamp knows.0 held.0.updated stamp spelled knows.1

  pub on_last : IsOnLast s a i.uuid sent.draft.base
  on_last = subst (λ (b : Option ℕ). IsOnLast s a i.uuid b) sent.base (on_last_of x.local.base x.base local_shown.base)

  -- so it is the stamp of the server's row
  base_by : (base : Option ℕ) → SaysBase base i.updated_at → ShowsBase a g x.local base → base ≡ stamp_in (p.rows (key.Item i.uuid))
  base_by None knows shows =
      ⊎_elim (λ (absent : IsAbsent p.rows i.uuid). sym (no_stamp (p.rows (key.Item i.uuid)) absent))
      (λ (held : (row : ItemRow) × IsHeld p n i row × ¬ (SameVersion row i) × Names i row). absurd (unnamed held.3.0 i.updated_at knows held.3.2)) free.0
  base_by (Some stamp) knows shows =
      let last = has_last i.uuid a.versions shows.listed.version shows.listed.among (shows.listed.item_is ∙ x.uuid_is) in
      let its : ShowsItem p.rows n a i.uuid last.0 = (v.accounts.each n a v.at).items i.uuid last.0 last.1 in
      ⊎_elim (λ (absent : IsAbsent p.rows i.uuid). absurd (absent its.row its.stands))
      (λ (held : (row : ItemRow) × IsHeld p n i row × ¬ (SameVersion row i) × Names i row).
      let names : Names i held.0 = held.3 in
      let text : names.0 ≡ knows.0 = cc in
      let spelled : IsStampText knows.0 held.0.updated = subst (λ (t : Bytes). IsStampText t held.0.updated) text names.1 in
      ap Some (sym (one_stamp knows.0 held.0.updated stamp spelled knows.1)) ∙ sym (ap stamp_in held.1.0)) free.0

  -- the row that is put is what the device's row has as sent
  pub sent_row : (row : ItemRow) (change : Change) → RulePuts p n (stamp_of now p.last) i row change → IsSentRow (p.rows (key.Item i.uuid)) device i.uuid row
  sent_row row change r = record {
    number = x.number;
    local = x.local;
    stands = (x.stands, x.uuid_is);
    kind_is = x.kind_is ∙ sym r.kind;
    base_is = base_by x.local.base x.base local_shown.base;
    posted = x.posted;
    posted_is = x.posted_is;
    body_is = r.body ∙ x.body_is;
  }

  pub number_is : sent.posted.set ≡ Some (length a.sets)
  number_is =
      let number : HasNumber s a g sent.draft = v.numbers d a v.has i.uuid sent.draft at_item in
      let its = number sent.posted sent.posted_is in
      its.1 ∙ ap Some (its.2 (subst (λ (u : Bytes). IsOnLast s a u sent.draft.base) (sym uuid_is) on_last) ∙ v.alive)

  abbrev pub move_under : Option ℕ
  move_under = said (length a.sets) sent.posted.content

  pub new_stamp : stamp_of now p.last ≤ last_stamp → IsNewStamp s (stamp_of now p.last)
  new_stamp within =
      let above : p.last < stamp_of now p.last = above_last now p.last in
      let last : p.last ≡ greatest 0 (stamps_in s.accounts) = v.last in
      record { above = above_all s.accounts (stamp_of now p.last) (omega arith); bounded = within }

  pub allowed : stamp_of now p.last ≤ last_stamp → IsTrue (allows s (Accept name i.uuid (stamp_of now p.last) move_under))
  allowed within =
      allowed_to s (Accept name i.uuid (stamp_of now p.last) move_under)
      (record {
        account = a;
        draft = sent.draft;
        is = record { has = account_is; at = at_item };
        posted = sent.posted;
        sent = sent.posted_is;
        last_set = number_is;
        said = said_so (length a.sets) sent.posted.content;
        on_last = on_last;
        new = new_stamp within;
      })

  -- the first version of the item
  created_is : (row : ItemRow) (stamp : ℕ)
      → ((old : ItemRow) × HasItem p.rows i.uuid old × (row.created ≡ old.created)) ⊎ (IsAbsent p.rows i.uuid × (row.created ≡ stamp))
      → row.created ≡ created_of (first_of i.uuid a.versions) stamp
  created_is row stamp (inl (old, there, e)) =
      let st = stands_for p.rows s.accounts i.uuid old v.accounts there in
      let own : old.account ≡ n = ⊎_elim (λ (absent : IsAbsent p.rows i.uuid). absurd (absent old there))
      (λ (held : (row : ItemRow) × IsHeld p n i row × ¬ (SameVersion row i) × Names i row).
      ap (λ (r : ItemRow). r.account) (same_row old held.0 (p.rows (key.Item i.uuid)) there held.1.0) ∙ held.1.1) free.0 in
      let is : st.account ≡ a = one_there st.account a (account_at n s.accounts) (subst (λ (k : ℕ). account_at k s.accounts ≡ Some st.account) own st.at) v.at in
      let first : first_of i.uuid a.versions ≡ Some st.first = subst (λ (b : Account). first_of i.uuid b.versions ≡ Some st.first) is st.first_is in
      e ∙ st.created ∙ ap (λ (o : Option Version). created_of o stamp) (sym first)
  created_is row stamp (inr (absent, e)) = e ∙ ap (λ (o : Option Version). created_of o stamp) (sym (none (first_of i.uuid a.versions) refl))
    where
      none : (found : Option Version) → first_of i.uuid a.versions ≡ found → first_of i.uuid a.versions ≡ None
      none None k = k
      none (Some w) k =
          let passes = found_passes (is_of i.uuid) a.versions w k in
          let last = has_last i.uuid a.versions w passes.1 (same_text w.uuid i.uuid passes.0) in
          absurd (no_version p.rows s.accounts i.uuid v.accounts absent n a last.0 v.at last.1)

  own_strings : (row : ItemRow) (change : Change) → RulePuts p n (stamp_of now p.last) i row change
      → ShowsStrings a.sets i.uuid row (body_under sent.posted.content (length a.sets))
  own_strings row change r =
      subst (λ (u : Bytes). ShowsStrings a.sets u row (body_under sent.posted.content (length a.sets))) x.uuid_is
      (subst (λ (k : ℕ). ShowsStrings a.sets x.local.uuid row (body_under sent.posted.content k)) v.alive
      (strings_of a.sets g x.local.uuid x.posted sent.posted.content row (r.body ∙ x.body_is) r.gone sent.content))

  -- the number said is that of the row
  pub said_is : (row : ItemRow) (change : Change) → RulePuts p n (stamp_of now p.last) i row change → move_under ≡ number_of row.deleted (length a.sets)
  said_is row change r = said_of a.sets i.uuid row (length a.sets) sent.posted.content (own_strings row change r)

  pub puts_version : (row : ItemRow) (change : Change) → RulePuts p n (stamp_of now p.last) i row change
      → PutsVersion change n a sent.draft (stamp_of now p.last)
  puts_version row change r =
      record {
        row = row;
        puts = record {
          key_is = r.puts.key_is ∙ ap (λ (u : Bytes). key.Item u) (sym uuid_is);
          value_is = r.puts.value_is;
        };
        account = r.account;
        kind = r.kind ∙ sym x.kind_is ∙ sent.kind;
        updated = r.updated;
        created = subst (λ (u : Bytes). row.created ≡ created_of (first_of u a.versions) (stamp_of now p.last)) (sym uuid_is)
            (created_is row (stamp_of now p.last) r.first);
        strings = subst (λ (o : Option Posted). ShowsStrings a.sets sent.draft.uuid row (body_under (sent_content sent.draft.latest o) (length a.sets)))
            (sym sent.posted_is)
            (subst (λ (u : Bytes). ShowsStrings a.sets u row (body_under sent.posted.content (length a.sets))) (sym uuid_is) (own_strings row change r));
      }
