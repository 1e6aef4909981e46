-- A row's draft that meets the server's version of its item: which moves of it are legal.
use Rattle.std.proofs.Common.{◌≡◌, ◌≢◌, ◌⊎◌, ℕ, List, Option, Some, None, false, refl, sym, ap, ◌∙◌, subst, inl, inr, ⊎_elim, arith}
use Rattle.std.specs.Prelude.{IsTrue}
use Rattle.sn_account.specs.Stored.{IsGiven}
use Rattle.sn_conflict.specs.Meetings.{HasContent, HasContentOf, IsKnown, PostedHasContent, SameStrings}
use Rattle.sn_items.specs.ItemLaws.{OneContent}
use Rattle.sn_items.specs.Items.{OpensItem}
use Rattle.sn_items.specs.declared.sealed.Sealed.{Sealed}
use Rattle.sn_laws.proofs.Facts.{allowed_to, one_there}
use Rattle.sn_laws.specs.Each.{Each, One}
use Rattle.sn_laws.specs.Lookups.{Bytes, device_named, draft_at, greatest, held_by, last_of}
use Rattle.sn_laws.specs.Moves.{allows}
use Rattle.sn_laws.specs.Reached.{DeletionsStay}
use Rattle.sn_laws.specs.Relation.{IsContentOf, IsLive, IsPlain, IsSentAs, IsUnseen, MeetsLast}
use Rattle.sn_laws.specs.declared.ideal.Account.{Account}
use Rattle.sn_laws.specs.declared.ideal.Body.{Body}
use Rattle.sn_laws.specs.declared.ideal.Body.TheVariants.{Under, Gone}
use Rattle.sn_laws.specs.declared.ideal.Content.{Content}
use Rattle.sn_laws.specs.declared.ideal.Content.TheVariants as content
use Rattle.sn_laws.specs.declared.ideal.Device.{Device}
use Rattle.sn_laws.specs.declared.ideal.Draft.{Draft}
use Rattle.sn_laws.specs.declared.ideal.Ideal.{Ideal}
use Rattle.sn_laws.specs.declared.ideal.Posted.{Posted}
use Rattle.sn_laws.specs.declared.ideal.Version.{Version}
use Rattle.sn_laws.specs.declared.moves.Move.TheVariants.{Fork, GiveWay, SettlePosted}
use Rattle.sn_rows.specs.Table.{Rows}
use Rattle.sn_rows.specs.declared.body.RowBody.{RowBody}
use Rattle.sn_rows.specs.declared.body.RowBody.TheVariants as row_body
use Rattle.sn_rows.specs.declared.body.RowStrings.{RowStrings}
use Rattle.sn_rows.specs.declared.device_rows.LocalItem.{LocalItem}
use Rattle.sn_rows.specs.declared.server_rows.ItemRow.{ItemRow}
use Rattle.sn_sets.specs.Sets.{OpensHeld, sealed_of}
use Rattle.sn_shows.proofs.Facts.{holder_of}
use Rattle.sn_shows.specs.Devices.{ShowsContent, ShowsDraft, ShowsPosted}
use Rattle.sn_shows.specs.Servers.{ShowsStrings}
use Rattle.sn_shows.specs.Sets.{OpensUnder, set_at}
use Rattle.sn_string.specs.declared.params.KeySet.{KeySet}
use Rattle.sn_sync.specs.Laws.{HasOneStamp}
use Rattle.sn_sync.specs.Stamps.{IsStampText}
use Rattle.sn_sync.specs.Versions.{NamesStamp}
use Rattle.sn_sync.specs.declared.item.Body.{Body as Sent}
use Rattle.sn_sync.specs.declared.item.Body.TheVariants as body
use Rattle.sn_sync.specs.declared.item.Item.{Item}
use Rattle.sn_world.proofs.Based.{given_gone, given_strings, gone_version, live_version, sealed_same, two}
use Rattle.sn_world.proofs.DeviceSets.{account_is, present_at}
use Rattle.sn_world.proofs.NumberedSets.{AreHeld, HoldsEach, among_or_not, opened_held}
use Rattle.sn_world.proofs.Settling.{content_is, drafted, version}
use Rattle.sn_world.specs.Holds.{Reached}
use Rattle.sn_world.specs.Settling.{MeetsStored}

module _ (server device : Rows) (s : Ideal) (name : Bytes) (n number : ℕ) (a : Account) (d : Device) (local : LocalItem) (i : Item)
    (one_stamp : HasOneStamp) (one_text : OneContent) (x : MeetsStored server device s name n number a d local i) where
  abbrev g : ℕ
  g = greatest 0 d.held

  abbrev row : ItemRow
  row = x.stored.0

  abbrev gives : IsGiven i.uuid row i
  gives = x.stored.3

  abbrev its : (v : Version) × (last_of i.uuid a.versions ≡ Some v) × ShowsStrings a.sets i.uuid row v.body × (row.updated ≡ v.stamp) × (row.kind ≡ v.kind)
  its = version server device s name n number a d local i one_stamp one_text x

  abbrev own : (draft : Draft) × (draft_at s name i.uuid ≡ Some draft) × ShowsDraft a.sets g local draft × ShowsContent a.sets g i.uuid x.latest draft.latest
  own = drafted server device s name n number a d local i one_stamp one_text x

  met : MeetsLast s name i.uuid a own.0 its.0
  met = record { is = record { has = account_is s name d a x.has; at = own.1 }; last = its.1 }

  -- ---- what was sent of the draft

  posted_is : (b : RowBody) → local.posted ≡ Some b → (p : Posted) × (own.0.posted ≡ Some p) × ShowsContent a.sets g i.uuid b p.content
  posted_is b e = by local.posted own.0.posted e refl own.2.posted
    where
      by : (found : Option RowBody) (o : Option Posted) → found ≡ Some b → own.0.posted ≡ o → ShowsPosted a.sets g local.uuid found o
          → (p : Posted) × (own.0.posted ≡ Some p) × ShowsContent a.sets g i.uuid b p.content
      by None o e k h = absurd (cc)
      by (Some c) None e k h = absurd h
      by (Some c) (Some p) e k h =
          let same : c ≡ b = cc in
          (p, k, subst (λ (u : Bytes). ShowsContent a.sets g u b p.content) x.stands.1 (subst (λ (z : RowBody). ShowsContent a.sets g local.uuid z p.content) same h))

  posted_was : (p : Posted) → own.0.posted ≡ Some p → (b : RowBody) × (local.posted ≡ Some b) × ShowsContent a.sets g i.uuid b p.content
  posted_was p e = by local.posted own.0.posted refl e own.2.posted
    where
      by : (found : Option RowBody) (o : Option Posted) → local.posted ≡ found → o ≡ Some p → ShowsPosted a.sets g local.uuid found o
          → (b : RowBody) × (local.posted ≡ Some b) × ShowsContent a.sets g i.uuid b p.content
      by found None k e h = absurd (cc)
      by None (Some q) k e h = absurd h
      by (Some b) (Some q) k e h =
          let same : q ≡ p = cc in
          (b, k, subst (λ (u : Bytes). ShowsContent a.sets g u b p.content) x.stands.1 (subst (λ (z : Posted). ShowsContent a.sets g local.uuid b z.content) same h))

  sent_as : PostedHasContent x.sets local i → IsSentAs own.0 its.0
  sent_as (b, is, same) =
      let p = posted_is b is in (
        p.0,
        p.1,
        subst (λ (k : Bytes). IsContentOf k p.0.content its.0.kind its.0.body) own.2.kind
            (content_is server device s name n number a d local i one_stamp one_text x b p.0.content i.body refl p.2 same),
      )

  -- ---- its stamp

  pub stamp_of : (stamp : ℕ) → NamesStamp i stamp → its.0.stamp ≡ stamp
  stamp_of stamp (text, is, named) =
      let same : gives.stamp ≡ text = one_there gives.stamp text i.updated_at gives.updated named in
      sym its.3 ∙ one_stamp text row.updated stamp (subst (λ (t : Bytes). IsStampText t row.updated) same gives.spelled) is

  passed : ¬ (IsKnown local i false) → own.0.base ≢ Some its.0.stamp
  passed news is =
      let same : row.updated ≡ its.0.stamp = its.3 in
      news (record {
        retrieved = refl;
        base = its.0.stamp;
        stands_on = own.2.base ∙ is;
        stamp = row.updated;
        stamped = (gives.stamp, gives.spelled, gives.updated);
        old = omega (arith, same);
      })

  -- ---- what was sent is answered

  pub posted_legal : (stamp : ℕ) → NamesStamp i stamp → PostedHasContent x.sets local i → IsTrue (allows s (SettlePosted name i.uuid stamp))
  posted_legal stamp named same =
      allowed_to s (SettlePosted name i.uuid stamp)
      (record { account = a; draft = own.0; version = its.0; meets = met; sent = sent_as same; stamp_is = stamp_of stamp named })

  deleted_is : (c : Content) → ShowsContent a.sets g i.uuid row_body.Deleted c → c ≡ content.Deleted
  deleted_is (content.Plain text) h = absurd h
  deleted_is content.Deleted h = refl

  -- a deletion is the answer to a deletion, and then the draft is one
  pub not_deleted : DeletionsStay → Reached s → ¬ (HasContent x.sets local x.latest i) → PostedHasContent x.sets local i → i.body ≢ body.Deleted
  not_deleted law r differs (b, is, same) gone =
      let p = posted_is b is in
      let sent : p.0.content ≡ content.Deleted = sent_gone b p.0.content p.2 (subst (λ (z : Sent). HasContentOf x.sets local b i z) gone same) in
      let latest : own.0.latest ≡ content.Deleted =
      law r.moves name i.uuid own.0 p.0 r.legal (subst (λ (t : Ideal). draft_at t name i.uuid ≡ Some own.0) r.is own.1) p.1 sent in
      differs (subst (λ (z : Sent). HasContentOf x.sets local x.latest i z) (sym gone) (row_gone x.latest (subst (λ (c : Content). ShowsContent a.sets g i.uuid x.latest c) latest own.3)))
    where
      sent_gone : (z : RowBody) (c : Content) → ShowsContent a.sets g i.uuid z c → HasContentOf x.sets local z i body.Deleted → c ≡ content.Deleted
      sent_gone row_body.Deleted c h k = deleted_is c h
      sent_gone (row_body.Sealed strings) c h k = absurd k

      row_gone : (z : RowBody) → ShowsContent a.sets g i.uuid z content.Deleted → HasContentOf x.sets local z i body.Deleted
      row_gone row_body.Deleted h = tt
      row_gone (row_body.Sealed strings) h = absurd h

  -- ---- the draft's text

  plain_is : (strings : RowStrings) (c : Content) → ShowsContent a.sets g i.uuid (row_body.Sealed strings) c
      → (text : Bytes) × (c ≡ content.Plain text) × OpensUnder a.sets g i.uuid (sealed_of strings) text
  plain_is strings (content.Plain text) h = (text, refl, h)
  plain_is strings content.Deleted h = absurd h

  -- a sealed draft is a text
  pub text_of : (strings : RowStrings) → x.latest ≡ row_body.Sealed strings
      → (text : Bytes) × (own.0.latest ≡ content.Plain text) × OpensUnder a.sets g i.uuid (sealed_of strings) text
  text_of strings e = plain_is strings own.0.latest (subst (λ (b : RowBody). ShowsContent a.sets g i.uuid b own.0.latest) e own.3)

  -- what is sealed under the greatest set that is held opens under the present one
  opened : (sealed : Sealed) (text : Bytes) → OpensUnder a.sets g i.uuid sealed text → OpensHeld x.sets i.uuid sealed text
  opened sealed text o =
      let present : set_at g a.sets ≡ Some x.sets.present =
      present_at device s name d a x.owner x.sets (holder_of device s name d a x.shows x.has) x.holds in
      inl (subst (λ (z : KeySet). OpensItem sealed i.uuid z text) (one_there o.set x.sets.present (set_at g a.sets) o.at present) o.opens)

  -- ---- where the version is under a set that is held

  abbrev IsSeen : Body → Type 0
  IsSeen b = (text : Bytes) (k : ℕ) → b ≡ Under text k → One (λ m. m ≡ k) d.held

  module _ (held : AreHeld a d.held x.sets) (each : HoldsEach a d.held x.sets) (seen : IsSeen its.0.body) where
    under : (text : Bytes) (k : ℕ) → its.0.body ≡ Under text k → (sealed : Sealed) → OpensUnder a.sets k i.uuid sealed text → OpensHeld x.sets i.uuid sealed text
    under text k is sealed o = opened_held a d.held x.sets held each k i.uuid sealed text (seen text k is) o

    -- the version's content is the draft's
    content_of : (b : RowBody) (c : Content) (given : Sent) → i.body ≡ given → ShowsContent a.sets g i.uuid b c → IsContentOf local.kind c its.0.kind its.0.body
        → HasContentOf x.sets local b i given
    content_of row_body.Deleted (content.Plain text) given e h is = absurd h
    content_of (row_body.Sealed strings) content.Deleted given e h is = absurd h
    content_of row_body.Deleted content.Deleted body.Deleted e h is = tt
    content_of row_body.Deleted content.Deleted (body.Strings c enc) e h is =
        let parts = given_strings row row.deleted c enc (sym gives.body ∙ e) in
        let live = live_version a.sets i.uuid row its.0.body its.2 parts.0 in
        absurd (subst (λ (z : Body). IsContentOf local.kind content.Deleted its.0.kind z) live.2 is)
    content_of (row_body.Sealed strings) (content.Plain text) body.Deleted e h is =
        let gone = gone_version a.sets i.uuid row its.0.body its.2 (given_gone row row.deleted (sym gives.body ∙ e)) in
        absurd (subst (λ (z : Body). IsContentOf local.kind (content.Plain text) its.0.kind z) gone is)
    content_of (row_body.Sealed strings) (content.Plain text) (body.Strings c enc) e h is =
        let parts = given_strings row row.deleted c enc (sym gives.body ∙ e) in
        let live = live_version a.sets i.uuid row its.0.body its.2 parts.0 in
        let theirs : OpensUnder a.sets live.1 i.uuid (two c enc) live.0 =
        subst (λ (z : Sealed). OpensUnder a.sets live.1 i.uuid z live.0) (sealed_same row.content row.enc c enc parts.1 parts.2) live.3 in
        let both : (local.kind ≡ its.0.kind) × (text ≡ live.0) = subst (λ (z : Body). IsContentOf local.kind (content.Plain text) its.0.kind z) live.2 is in (
          both.0 ∙ sym its.4 ∙ sym gives.kind,
          subst (λ (u : Bytes). SameStrings x.sets u (sealed_of strings) i.uuid (two c enc)) (sym x.stands.1)
              (inr (text, opened (sealed_of strings) text h, subst (λ (t : Bytes). OpensHeld x.sets i.uuid (two c enc) t) (sym both.1) (under live.0 live.1 live.2 (two c enc) theirs))),
        )

    not_latest : ¬ (HasContent x.sets local x.latest i) → ¬ (IsContentOf own.0.kind own.0.latest its.0.kind its.0.body)
    not_latest differs is =
        differs (content_of x.latest own.0.latest i.body refl own.3 (subst (λ (k : Bytes). IsContentOf k own.0.latest its.0.kind its.0.body) (sym own.2.kind) is))

    not_sent : ¬ (PostedHasContent x.sets local i) → ¬ (IsSentAs own.0 its.0)
    not_sent differs (p, is, same) =
        let b = posted_was p is in
        differs (b.0, b.1, content_of b.0 p.content i.body refl b.2 (subst (λ (k : Bytes). IsContentOf k p.content its.0.kind its.0.body) (sym own.2.kind) same))

  -- ---- whether it is or not

  seen_or_not : (b : Body) → IsUnseen d.held b ⊎ IsSeen b
  seen_or_not Gone = inr (λ text k is. absurd (cc))
  seen_or_not (Under text k) =
      ⊎_elim
      (λ (one : One (λ (m : ℕ). m ≡ k) d.held).
      inr (λ other n is. let same : k ≡ n = cc in subst (λ (z : ℕ). One (λ (m : ℕ). m ≡ z) d.held) same one))
      (λ (none : Each (λ (m : ℕ). m ≢ k) d.held). inl none) (among_or_not k d.held)

  held_is : d.held ≡ held_by (device_named s name)
  held_is = sym (ap held_by x.has.device)

  module _ (held : AreHeld a d.held x.sets) (each : HoldsEach a d.held x.sets) where
    unseen_or : {A : Type 0} → (IsSeen its.0.body → A) → IsUnseen (held_by (device_named s name)) its.0.body ⊎ A
    unseen_or f =
        ⊎_elim (λ (unseen : IsUnseen d.held its.0.body). inl (subst (λ (ns : List ℕ). IsUnseen ns its.0.body) held_is unseen))
        (λ (seen : IsSeen its.0.body). inr (f seen)) (seen_or_not its.0.body)

    -- ---- a deletion gives way

    alive : (given : Sent) → i.body ≡ given → ¬ (HasContentOf x.sets local row_body.Deleted i given) → IsLive its.0.body
    alive body.Deleted e differs = absurd (differs tt)
    alive (body.Strings c enc) e differs =
        let parts = given_strings row row.deleted c enc (sym gives.body ∙ e) in
        let live = live_version a.sets i.uuid row its.0.body its.2 parts.0 in
        subst (λ (b : Body). IsLive b) (sym live.2) tt

    pub away_legal : x.latest ≡ row_body.Deleted → ¬ (IsKnown local i false) → ¬ (HasContent x.sets local row_body.Deleted i) → ¬ (PostedHasContent x.sets local i)
        → IsTrue (allows s (GiveWay name i.uuid))
    away_legal gone news differs differed =
        allowed_to s (GiveWay name i.uuid)
        (record {
          account = a;
          draft = own.0;
          version = its.0;
          meets = met;
          deleted = deleted_is own.0.latest (subst (λ (b : RowBody). ShowsContent a.sets g i.uuid b own.0.latest) gone own.3);
          live = alive i.body refl differs;
          passed = passed news;
          other = unseen_or (λ seen. not_sent held each seen differed);
        })

    -- ---- a content forks

    pub fork_legal : (strings : RowStrings) (other : Bytes) → x.latest ≡ row_body.Sealed strings → ¬ (IsKnown local i false) → ¬ (HasContent x.sets local x.latest i)
        → ¬ (PostedHasContent x.sets local i) → draft_at s name other ≡ None → IsTrue (allows s (Fork name i.uuid other))
    fork_legal strings other e news differs differed free =
        allowed_to s (Fork name i.uuid other)
        (record {
          account = a;
          draft = own.0;
          version = its.0;
          meets = met;
          plain = subst (λ (c : Content). IsPlain c) (sym (text_of strings e).1) tt;
          another = record {
            passed = passed news;
            other = unseen_or (λ seen. (not_latest held each seen differs, not_sent held each seen differed));
          };
          free = free;
        })
