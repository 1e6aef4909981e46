-- A row whose sent draft is answered: the draft stands on the version, and nothing of it is sent any more.
use Rattle.std.proofs.Common.{◌≡◌, ◌≢◌, ℕ, [], ◌∷◌, Option, Some, None, refl, sym, ap, ◌∙◌, subst}
use Rattle.sn_laws.specs.Lookups.{Bytes, draft_at, greatest, is_draft}
use Rattle.sn_laws.specs.Moves.{after, settled_at}
use Rattle.sn_laws.specs.declared.ideal.Account.{Account}
use Rattle.sn_laws.specs.declared.ideal.Device.{Device}
use Rattle.sn_laws.specs.declared.ideal.Draft.{Draft}
use Rattle.sn_laws.specs.declared.ideal.Ideal.{Ideal}
use Rattle.sn_laws.specs.declared.moves.Move.TheVariants.{SettlePosted}
use Rattle.sn_rows.specs.Table.{Rows, rows_after}
use Rattle.sn_rows.specs.declared.body.RowBody.{RowBody}
use Rattle.sn_rows.specs.declared.change.Change.{Change}
use Rattle.sn_rows.specs.declared.device_rows.LocalItem.{LocalItem}
use Rattle.sn_rows.specs.declared.key.Key.TheVariants as key
use Rattle.sn_rows.specs.declared.value.Value.TheVariants as value
use Rattle.sn_shows.proofs.DeviceDrafts.{apart_again, own_again}
use Rattle.sn_shows.proofs.DeviceItems.{IsPut, put_holder}
use Rattle.sn_shows.proofs.DeviceLookups.{find_changed, find_past_changed}
use Rattle.sn_shows.proofs.DeviceStates.{draft_is, holder_of, not_of_item, shows_of}
use Rattle.sn_shows.specs.Devices.{ShowsBase, ShowsContent, ShowsDevice, ShowsDraft, ShowsDrafted, ShowsHolder, ShowsLocal, ShowsPosted}
use Rattle.sn_shows.specs.Laws.{HasAccount}
use Rattle.sn_shows.specs.Meetings.{AnsweredShows, PutsAnswered}

module _ (rows : Rows) (s : Ideal) (name : Bytes) (local : ℕ) (item : LocalItem) (stamp : ℕ) (d : Device) (a : Account) (change : Change)
    (p : PutsAnswered change local a (greatest 0 d.held) item stamp) where
  abbrev g : ℕ
  g = greatest 0 d.held

  abbrev next : Ideal
  next = after s (SettlePosted name item.uuid stamp)

  draft_so : (draft : Draft) → ShowsDraft a.sets g item draft → ShowsDraft a.sets g p.again (settled_at stamp draft)
  draft_so draft h = record {
    kind = p.kind_is ∙ h.kind;
    base = p.base;
    latest = h.latest;
    latest_is = p.latest ∙ h.latest_is;
    content = subst (λ (u : Bytes). ShowsContent a.sets g u h.latest draft.latest) (sym p.uuid_is) h.content;
    posted = subst (λ (o : Option RowBody). ShowsPosted a.sets g p.again.uuid o None) (sym p.posted) tt;
  }

  found_so : (draft : Draft) → draft_at s name item.uuid ≡ Some draft → draft_at next name item.uuid ≡ Some (settled_at stamp draft)
  found_so draft e = find_changed (is_draft name item.uuid) (settled_at stamp) (λ x. refl) s.drafts draft e

  drafted_so : item.latest ≢ None → (found : Option Draft) → draft_at s name item.uuid ≡ found → ShowsDrafted a.sets g item found
      → ShowsDrafted a.sets g p.again (draft_at next name p.again.uuid)
  drafted_so some None e h = absurd (some h.0)
  drafted_so some (Some draft) e h =
      let found : draft_at next name p.again.uuid ≡ Some (settled_at stamp draft) =
      subst (λ (u : Bytes). draft_at next name u ≡ Some (settled_at stamp draft)) (sym p.uuid_is) (found_so draft e) in
      subst (λ (o : Option Draft). ShowsDrafted a.sets g p.again o) (sym found) (draft_so draft h)

  put_so : ShowsHolder rows s name d a → rows (key.Local local) ≡ Some (value.Local item) → item.latest ≢ None
      → IsPut rows s next name g a change local p.again
  put_so h stands some = record {
    puts = p.puts;
    shown = record {
      draft = drafted_so some (draft_at s name item.uuid) refl (h.locals local item stands).draft;
      base = subst (λ (o : Option ℕ). ShowsBase a g p.again o) (sym p.base) p.on;
    };
    own = own_again rows local item p.again stands p.uuid_is;
    apart = apart_again rows s name d a local item p.again h stands p.uuid_is;
    others = λ other differs.
        find_past_changed (is_draft name other) (is_draft name item.uuid) (settled_at stamp)
        (λ x e. not_of_item name item.uuid other x (λ k. differs (k ∙ sym p.uuid_is)) (draft_is name item.uuid x e).1)
        (λ x e. not_of_item name item.uuid other (settled_at stamp x) (λ k. differs (k ∙ sym p.uuid_is)) (draft_is name item.uuid x e).1)
        s.drafts;
  }

  answered_so : ShowsDevice rows s name → HasAccount s name d a → rows (key.Local local) ≡ Some (value.Local item) → item.latest ≢ None
      → ShowsDevice (rows_after rows (change ∷ [])) next name
  answered_so h has stands some =
      let holder : ShowsHolder rows s name d a = holder_of rows s name d a h has in
      shows_of (rows_after rows (change ∷ [])) next name d a (record { device = has.device; account = has.account })
      (put_holder rows s next name d a change local p.again (put_so holder stands some) holder)

pub answered_shows : AnsweredShows
answered_shows rows s name local item stamp d a change h has stands some p = answered_so rows s name local item stamp d a change p h has stands some
