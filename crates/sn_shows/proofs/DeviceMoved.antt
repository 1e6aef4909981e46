-- A draft that goes on under another uuid: its row is that of a new item.
use Rattle.std.proofs.Common.{◌≡◌, ◌≢◌, ◌⊎◌, ℕ, [], ◌∷◌, Option, Some, None, Bool, true, false, refl, sym, ap, ◌∙◌, subst, inl, inr, ⊎_elim}
use mathlib.Core.Path.{fun_ext}
use Rattle.std.specs.Prelude.{IsSome}
use Rattle.sn_laws.proofs.Facts.{clash}
use Rattle.sn_laws.specs.Lookups.{Bytes, draft_at, greatest, is_draft}
use Rattle.sn_laws.specs.Moves.{after, copied, forked, renamed}
use Rattle.sn_laws.specs.declared.ideal.Account.{Account}
use Rattle.sn_laws.specs.declared.ideal.Content.{Content}
use Rattle.sn_laws.specs.declared.ideal.Content.TheVariants.{Plain}
use Rattle.sn_laws.specs.declared.ideal.Device.{Device}
use Rattle.sn_laws.specs.declared.ideal.Draft.{Draft}
use Rattle.sn_laws.specs.declared.ideal.Ideal.{Ideal}
use Rattle.sn_laws.specs.declared.ideal.Posted.{Posted}
use Rattle.sn_laws.specs.declared.moves.Move.TheVariants.{Fork, Rename, Settle}
use Rattle.sn_rows.specs.Facts.{keys_compare, put_elsewhere, put_here, removed_elsewhere, removed_here}
use Rattle.sn_rows.specs.Table.{Puts, Removes, Rows, rows_after, same_key}
use Rattle.sn_rows.specs.declared.body.RowBody.{RowBody}
use Rattle.sn_rows.specs.declared.body.RowBody.TheVariants as body
use Rattle.sn_rows.specs.declared.change.Change.{Change}
use Rattle.sn_rows.specs.declared.change.Change.TheVariants as change
use Rattle.sn_rows.specs.declared.device_rows.LocalItem.{LocalItem}
use Rattle.sn_rows.specs.declared.key.Key.{Key}
use Rattle.sn_rows.specs.declared.key.Key.TheVariants as key
use Rattle.sn_rows.specs.declared.value.Value.TheVariants as value
use Rattle.sn_sets.specs.Sets.{sealed_of}
use Rattle.sn_shows.proofs.DeviceItems.{IsPut, put_holder}
use Rattle.sn_shows.proofs.DeviceLookups.{find_changed_without, find_moved}
use Rattle.sn_shows.proofs.DeviceRemoved.{removed_shows}
use Rattle.sn_shows.proofs.DeviceStates.{draft_is, draft_passes, holder_of, not_of_item, shows_of}
use Rattle.sn_shows.specs.Devices.{ShowsBase, ShowsContent, ShowsDevice, ShowsDraft, ShowsDrafted, ShowsHolder, ShowsLocal, ShowsPosted}
use Rattle.sn_shows.specs.Laws.{HasAccount, IsNewAt, PutsItem}
use Rattle.sn_shows.specs.Meetings.{ForkedShows, HasNone, RenamedShows}
use Rattle.sn_shows.specs.Sets.{OpensUnder}

-- a draft of a new item, with this content
record IsNewDraft (draft : Draft) (kind text : Bytes) : Type 0 where
  kind_is : draft.kind ≡ kind
  base : draft.base ≡ None
  latest : draft.latest ≡ Plain text
  posted : draft.posted ≡ None

-- the row of a new item, put where the rows show a state, shows the next one, which has its draft and is else the same
module _ (rows : Rows) (s next : Ideal) (name other kind text : Bytes) (number : ℕ) (d : Device) (a : Account) (put : Change) (draft : Draft)
    (p : PutsItem put number a.sets (greatest 0 d.held) other kind text) (new : IsNewDraft draft kind text) (at : draft_at next name other ≡ Some draft)
    (others : (uuid : Bytes) → uuid ≢ other → draft_at next name uuid ≡ draft_at s name uuid) where
  abbrev g : ℕ
  g = greatest 0 d.held

  shown : ShowsDraft a.sets g p.item draft
  shown = record {
    kind = p.kind_is ∙ sym new.kind_is;
    base = p.base ∙ sym new.base;
    latest = body.Sealed p.strings;
    latest_is = p.latest;
    content = subst (λ (c : Content). ShowsContent a.sets g p.item.uuid (body.Sealed p.strings) c) (sym new.latest)
        (subst (λ (u : Bytes). OpensUnder a.sets g u (sealed_of p.strings) text) (sym p.uuid_is) p.opens);
    posted = subst (λ (o : Option RowBody). ShowsPosted a.sets g p.item.uuid o draft.posted) (sym p.posted)
        (subst (λ (o : Option Posted). ShowsPosted a.sets g p.item.uuid None o) (sym new.posted) tt);
  }

  local_shown : ShowsLocal next name g a p.item
  local_shown =
      let found : draft_at next name p.item.uuid ≡ Some draft = ap (draft_at next name) p.uuid_is ∙ at in
      let has : IsSome p.item.latest = subst (λ (o : Option RowBody). IsSome o) (sym p.latest) refl in
      record {
        draft = subst (λ (o : Option Draft). ShowsDrafted a.sets g p.item o) (sym found) shown;
        base = subst (λ (o : Option ℕ). ShowsBase a g p.item o) (sym p.base) (p.no_body, has);
      }

  put_so : IsNewAt rows number other → IsPut rows s next name g a put number p.item
  put_so place = record {
    puts = p.puts;
    shown = local_shown;
    own = λ was e. let free : rows (key.Local number) ≡ None = place.free in absurd (cc);
    apart = λ at_too it e differs same. place.other at_too it e (same ∙ p.uuid_is);
    others = λ uuid differs. others uuid (λ e. differs (e ∙ sym p.uuid_is));
  }

  moved_so : ShowsDevice rows s name → HasAccount s name d a → HasAccount next name d a → IsNewAt rows number other → ShowsDevice (rows_after rows (put ∷ [])) next name
  moved_so h has has_next place =
      let holder : ShowsHolder rows s name d a = holder_of rows s name d a h has in
      shows_of (rows_after rows (put ∷ [])) next name d a has_next
      (put_holder rows s next name d a put number p.item (put_so place) holder)

-- ---- a fork

pub forked_shows : ForkedShows
forked_shows rows s name uuid other kind text fresh draft d a put h has at kind_is copy free place p =
    moved_so rows (after s (Settle name uuid)) (after s (Fork name uuid other)) name other kind text fresh d a put (forked other draft) p
    (record { kind_is = kind_is; base = refl; latest = copy; posted = refl })
    (find_moved (is_draft name other) (is_draft name uuid) (forked other)
    (λ x e. draft_passes name other (forked other x) (draft_is name uuid x e).0 refl) s.drafts draft free at)
    (λ v apart. find_changed_without (is_draft name v) (is_draft name uuid) (forked other) (λ x e. not_of_item name other v (forked other x) apart refl) s.drafts)
    h (record { device = has.device; account = has.account }) (record { device = has.device; account = has.account }) place

-- ---- a renaming

key_cases : (at k : Key) → (at ≡ k) ⊎ (at ≢ k)
key_cases at k = by (same_key at k) refl
  where
    by : (b : Bool) → same_key at k ≡ b → (at ≡ k) ⊎ (at ≢ k)
    by true e = inl ((keys_compare at k).0 e)
    by false e = inr (λ same. clash (same_key at k) ((keys_compare at k).1 same) e)

-- the rows without this one
abbrev emptied : Rows → ℕ → Rows
emptied rows number = rows_after rows (change.Remove (key.Local number) ∷ [])

-- a removal and then a put of one row is the put
removed_put : (rows : Rows) (put : Change) (number : ℕ) (item : LocalItem) (puts : Puts put (key.Local number) (value.Local item))
    → rows_after (emptied rows number) (put ∷ []) ≡ rows_after rows (put ∷ [])
removed_put rows put number item puts = fun_ext (λ k. by k)
  where
    by : (k : Key) → rows_after (emptied rows number) (put ∷ []) k ≡ rows_after rows (put ∷ []) k
    by k =
        ⊎_elim
        (λ (same : key.Local number ≡ k).
        subst (λ (z : Key). rows_after (emptied rows number) (put ∷ []) z ≡ rows_after rows (put ∷ []) z) same
        (put_here (emptied rows number) put (key.Local number) (value.Local item) puts ∙ sym (put_here rows put (key.Local number) (value.Local item) puts)))
        (λ (apart : key.Local number ≢ k).
        put_elsewhere (emptied rows number) put (key.Local number) k (value.Local item) puts apart
        ∙ removed_elsewhere rows (change.Remove (key.Local number)) (key.Local number) k (record { key_is = refl; value_is = refl }) apart
        ∙ sym (put_elsewhere rows put (key.Local number) k (value.Local item) puts apart))
        (key_cases (key.Local number) k)

no_twin : (rows : Rows) (s : Ideal) (name other : Bytes) (d : Device) (a : Account) → ShowsHolder rows s name d a → HasNone rows other → draft_at s name other ≡ None
no_twin rows s name other d a h none = by (draft_at s name other) refl
  where
    by : (found : Option Draft) → draft_at s name other ≡ found → found ≡ None
    by None e = refl
    by (Some draft) e = let row = h.drafts other draft e in absurd (none row.number row.item row.stands row.item_is)

pub renamed_shows : RenamedShows
renamed_shows rows s name other text local item draft d a put h has stands at base latest none p =
    subst (λ (r : Rows). ShowsDevice r (after s (Rename name item.uuid other)) name) (removed_put rows put local p.item p.puts)
    (moved_so (emptied rows local) (after s (Settle name item.uuid)) (after s (Rename name item.uuid other)) name other item.kind text local d a put (renamed other draft) p
    (record { kind_is = sym shown.kind; base = base; latest = latest; posted = refl })
    (find_moved (is_draft name other) (is_draft name item.uuid) (renamed other)
    (λ x e. draft_passes name other (renamed other x) (draft_is name item.uuid x e).0 refl) s.drafts draft (no_twin rows s name other d a holder none) at)
    (λ v apart. find_changed_without (is_draft name v) (is_draft name item.uuid) (renamed other) (λ x e. not_of_item name other v (renamed other x) apart refl) s.drafts)
    (removed_shows rows s name local item d a (change.Remove (key.Local local)) h has stands gone)
    (record { device = has.device; account = has.account }) (record { device = has.device; account = has.account }) (record { free = here; other = others }))
  where
    gone : Removes (change.Remove (key.Local local)) (key.Local local)
    gone = record { key_is = refl; value_is = refl }

    holder : ShowsHolder rows s name d a
    holder = holder_of rows s name d a h has

    shown : ShowsDraft a.sets (greatest 0 d.held) item draft
    shown = subst (λ (o : Option Draft). ShowsDrafted a.sets (greatest 0 d.held) item o) at (holder.locals local item stands).draft

    here : emptied rows local (key.Local local) ≡ None
    here = removed_here rows (change.Remove (key.Local local)) (key.Local local) gone

    others : (number : ℕ) (it : LocalItem) → emptied rows local (key.Local number) ≡ Some (value.Local it) → it.uuid ≢ other
    others number it e =
        let apart : key.Local local ≢ key.Local number = λ k. let nothing : emptied rows local (key.Local number) ≡ None = ap (emptied rows local) (sym k) ∙ here in cc in
        none number it (sym (removed_elsewhere rows (change.Remove (key.Local local)) (key.Local local) (key.Local number) gone apart) ∙ e)
