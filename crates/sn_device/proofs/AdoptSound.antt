-- A set that is asked for, adopted or dropped leaves sound rows sound.
use Rattle.std.proofs.Common.{◌≡◌, ◌≢◌, ◌||◌, ℕ, Bool, true, false, List, [], ◌∷◌, Option, Some, None, refl, sym, ap, ◌∙◌, subst, inl, inr, ⊎_elim}
use Rattle.std.proofs.lemmas.List.Elements.{All-cons, All-nil}
use Rattle.std.specs.Prelude.{IsSome}
use Rattle.rand_chacha.specs.ChaCha.{ChaCha}
use Rattle.sn_items.specs.Items.{OpensItem}
use Rattle.sn_items.specs.declared.sealed.Sealed.{Sealed}
use Rattle.sn_journal.specs.declared.owner.Owner.TheVariants.{Device}
use Rattle.sn_rekey.specs.Rekeying.{IsClosed, IsRewrapped, RewrapsPlace}
use Rattle.sn_rekey.specs.Rewraps.{RewrapsHeld}
use Rattle.sn_rows.specs.Facts.{apart_keys, removed_here, spared_stays}
use Rattle.sn_rows.specs.Table.{Rows, key_of, rows_after, same_key}
use Rattle.sn_rows.specs.declared.body.RowBody.{RowBody}
use Rattle.sn_rows.specs.declared.body.RowBody.TheVariants as row
use Rattle.sn_rows.specs.declared.change.Change.{Change}
use Rattle.sn_rows.specs.declared.device_rows.LocalItem.{LocalItem}
use Rattle.sn_rows.specs.declared.device_rows.OwnerRow.{OwnerRow}
use Rattle.sn_rows.specs.declared.device_rows.SetRow.{SetRow}
use Rattle.sn_rows.specs.declared.key.Key.{Key}
use Rattle.sn_rows.specs.declared.key.Key.TheVariants as key
use Rattle.sn_rows.specs.declared.key.Slot.TheVariants.{Asked, Older, Present}
use Rattle.sn_rows.specs.declared.value.Value.TheVariants as value
use Rattle.sn_sets.specs.Sets.{sealed_of}
use Rattle.sn_sets.specs.declared.sets.Sets.{Sets}
use Rattle.sn_string.specs.declared.params.KeySet.{KeySet}
use Rattle.sn_table.specs.Batches.{IsOf}
use Rattle.sn_device.specs.States.{Bytes, HasOwner, HasSet, IsInSlot, IsOwnDraft, IsSound, IsSoundItem, NamesVersion, OpensVersion, OwnerColumns, columns}
use Rattle.sn_device.specs.Steps.{Adopts, Asks, Forgets}
use Rattle.sn_device.proofs.AdoptRows.{IsAdopted, adopted, adopted_device, adopted_row, adopted_stands}
use Rattle.sn_device.proofs.Frames.{device_after, locals_after, one_of_device, sound_stands}
use Rattle.sn_device.proofs.Standing.{Stand}
use Rattle.sn_device.proofs.Well.{opened_names}

-- ---- one version

-- what is sealed again opens under the set
held_opens : (sets : Sets) (set : KeySet) (words : ChaCha) (uuid : Bytes) (given again : Sealed) (left : ChaCha)
    → RewrapsHeld sets set words uuid given again left → (text : Bytes) × OpensItem again uuid set text
held_opens sets set words uuid given again left (inl r) = (r.text, r.rewraps.still)
held_opens sets set words uuid given again left (inr r) = (r.text, r.rewraps.still)

-- a deletion, or none, opens under each set; what opens under the present one isn't closed
closed_own : (sets : Sets) (set : KeySet) (uuid : Bytes) (before : Option RowBody) → IsClosed sets uuid before → OpensVersion sets.present uuid before
    → OpensVersion set uuid before
closed_own sets set uuid None closed opens = tt
closed_own sets set uuid (Some row.Deleted) closed opens = tt
closed_own sets set uuid (Some (row.Sealed strings)) closed (text, opens) = absurd (closed text (inl opens))

-- ---- one place of a row

module _ (sets : Sets) (set : KeySet) (words : ChaCha) (uuid : Bytes) where
  some_place : (again : Bool) (before after : Option RowBody) (left : ChaCha) → RewrapsPlace sets set words uuid again before after left → IsSome before
      → IsSome after
  some_place true before after left r some = subst IsSome (sym r.again_is) refl
  some_place false before after left r some = subst IsSome (sym r.same) some

  had_place : (again : Bool) (before after : Option RowBody) (left : ChaCha) → RewrapsPlace sets set words uuid again before after left → IsSome after
      → IsSome before
  had_place true before after left r some = subst IsSome (sym r.given_is) refl
  had_place false before after left r some = subst IsSome r.same some

  undeleted_place : (again : Bool) (before after : Option RowBody) (left : ChaCha) → RewrapsPlace sets set words uuid again before after left
      → before ≢ Some row.Deleted → after ≢ Some row.Deleted
  undeleted_place true before after left r not = λ e. (let is = r.again_is in cc)
  undeleted_place false before after left r not = λ e. not (sym r.same ∙ e)

  was_deleted : (again : Bool) (before after : Option RowBody) (left : ChaCha) → RewrapsPlace sets set words uuid again before after left
      → after ≡ Some row.Deleted → before ≡ Some row.Deleted
  was_deleted true before after left r e = let is = r.again_is in absurd cc
  was_deleted false before after left r e = sym r.same ∙ e

  still_deleted : (again : Bool) (before after : Option RowBody) (left : ChaCha) → RewrapsPlace sets set words uuid again before after left
      → before ≡ Some row.Deleted → after ≡ Some row.Deleted
  still_deleted true before after left r e = let is = r.given_is in absurd cc
  still_deleted false before after left r e = r.same ∙ e

  named_place : (again : Bool) (before after : Option RowBody) (left : ChaCha) → RewrapsPlace sets set words uuid again before after left
      → NamesVersion uuid before → NamesVersion uuid after
  named_place true before after left r named =
      let opens = held_opens sets set words uuid (sealed_of r.given) (sealed_of r.again) left r.rewraps in
      subst (NamesVersion uuid) (sym r.again_is) (opened_names set uuid opens.0 r.again opens.1)
  named_place false before after left r named = subst (NamesVersion uuid) (sym r.same) named

  own_place : (again : Bool) (before after : Option RowBody) (left : ChaCha) → RewrapsPlace sets set words uuid again before after left
      → OpensVersion sets.present uuid before → OpensVersion set uuid after
  own_place true before after left r opens =
      subst (OpensVersion set uuid) (sym r.again_is) (held_opens sets set words uuid (sealed_of r.given) (sealed_of r.again) left r.rewraps)
  own_place false before after left r opens = subst (OpensVersion set uuid) (sym r.same) (closed_own sets set uuid before r.closed opens)

  -- a row is stale where its version is sealed again, or it was so before
  stale_place : (again : Bool) (before after : Option RowBody) (left : ChaCha) (stale : Bool) (base : Option ℕ)
      → RewrapsPlace sets set words uuid again before after left → (again || stale) ≡ true → (stale ≡ true → IsSome base) → (IsSome before → IsSome base)
      → IsSome base
  stale_place true before after left stale base r e was based = based (subst IsSome (sym r.given_is) refl)
  stale_place false before after left stale base r e was based = was e

  -- what becomes of a version that is there
  pub rewrapped_place : (again : Bool) (before after : Option RowBody) (left : ChaCha) (version : RowBody)
      → RewrapsPlace sets set words uuid again before after left → before ≡ Some version
      → (now : RowBody) × (after ≡ Some now) × IsRewrapped sets set words uuid version now left
  rewrapped_place true before after left version r is = (
    row.Sealed r.again,
    r.again_is,
    inl (record { given = r.given; given_is = sym is ∙ r.given_is; again = r.again; again_is = refl; rewraps = r.rewraps }),
  )
  rewrapped_place false before after left version r is = (
    version,
    r.same ∙ is,
    inr (record { closed = subst (IsClosed sets uuid) is r.closed; same = refl; undrawn = r.undrawn }),
  )

-- ---- one row

pub adopted_item : (sets : Sets) (set : KeySet) (old now : LocalItem) → IsAdopted sets set old now → IsSoundItem (columns old) → IsSoundItem (columns now)
adopted_item sets set old now a h =
    let r = a.rekeys in
    let had_body = had_place sets set a.words old.uuid r.body_again old.body now.body r.second r.body_is in
    let some_body = some_place sets set a.words old.uuid r.body_again old.body now.body r.second r.body_is in
    let some_latest = some_place sets set r.second old.uuid r.latest_again old.latest now.latest r.third r.latest_is in
    let had_posted = had_place sets set r.third old.uuid r.posted_again old.posted now.posted a.left r.posted_is in
    let has_base = λ (some : IsSome old.base). subst IsSome (sym r.base_is) some in
    record {
      based = (λ some. some_body (h.based.0 (subst IsSome r.base_is some)), λ some. has_base (h.based.1 (had_body some)));
      undeleted = undeleted_place sets set a.words old.uuid r.body_again old.body now.body r.second r.body_is h.undeleted;
      some = ⊎_elim (λ (base : IsSome old.base). inl (has_base base)) (λ (latest : IsSome old.latest). inr (some_latest latest)) h.some;
      sent = λ some. some_latest (h.sent (had_posted some));
      again = λ e.
          stale_place sets set a.words old.uuid r.body_again old.body now.body r.second old.stale now.base r.body_is (sym r.stale_is ∙ e)
          (λ stale. has_base (h.again stale)) (λ some. has_base (h.based.1 some));
      body_named = subst (λ (u : Bytes). NamesVersion u now.body) (sym r.uuid_is)
          (named_place sets set a.words old.uuid r.body_again old.body now.body r.second r.body_is h.body_named);
      latest_named = subst (λ (u : Bytes). NamesVersion u now.latest) (sym r.uuid_is)
          (named_place sets set r.second old.uuid r.latest_again old.latest now.latest r.third r.latest_is h.latest_named);
      posted_named = subst (λ (u : Bytes). NamesVersion u now.posted) (sym r.uuid_is)
          (named_place sets set r.third old.uuid r.posted_again old.posted now.posted a.left r.posted_is h.posted_named);
    }

-- a draft that opened under the present set opens under the new one
pub adopted_own : (sets : Sets) (set : KeySet) (old now : LocalItem) → IsAdopted sets set old now → IsOwnDraft sets.present (columns old)
    → IsOwnDraft set (columns now)
adopted_own sets set old now a own =
    let r = a.rekeys in
    record {
      latest_opens = subst (λ (u : Bytes). OpensVersion set u now.latest) (sym r.uuid_is)
          (own_place sets set r.second old.uuid r.latest_again old.latest now.latest r.third r.latest_is own.latest_opens);
      posted_opens = subst (λ (u : Bytes). OpensVersion set u now.posted) (sym r.uuid_is)
          (own_place sets set r.third old.uuid r.posted_again old.posted now.posted a.left r.posted_is own.posted_opens);
      deleted = λ e.
          still_deleted sets set r.second old.uuid r.latest_again old.latest now.latest r.third r.latest_is
          (own.deleted (was_deleted sets set r.third old.uuid r.posted_again old.posted now.posted a.left r.posted_is e));
    }

-- ---- a change of the set that is asked for

-- it leaves every other row
pub past_asked : (rows : Rows) (c : Change) (at : Key) → key_of c ≡ key.Set Asked → key.Set Asked ≢ at → rows_after rows (c ∷ []) at ≡ rows at
past_asked rows c at named apart =
    spared_stays (rows at) at (c ∷ []) (ap (λ (k : Key). same_key k at) named ∙ apart_keys (key.Set Asked) at apart, tt)

asked_sound : (rows : Rows) (owner : OwnerRow) (c : Change) → IsSound rows → HasOwner rows owner → key_of c ≡ key.Set Asked
    → ((asked older : SetRow) → HasSet (rows_after rows (c ∷ [])) Asked asked → HasSet rows Older older → ⊥) → IsSound (rows_after rows (c ∷ []))
asked_sound rows owner c sound owned named alone =
    let own : HasOwner (rows_after rows (c ∷ [])) owner = past_asked rows c key.Owner named (λ e. cc) ∙ owned in
    record {
      device = device_after rows (c ∷ []) (All-cons (IsOf Device) c [] (one_of_device c (key.Set Asked) refl named) (All-nil (IsOf Device))) sound.device;
      owner = λ at v is. (owner, own);
      sets = record {
        present = λ any has.
            ((sound.sets.present owner owned).0, past_asked rows c (key.Set Present) named (λ e. cc) ∙ (sound.sets.present owner owned).1);
        asked_alone = λ asked older has had. alone asked older has (sym (past_asked rows c (key.Set Older) named (λ e. cc)) ∙ had);
      };
      locals = locals_after rows (rows_after rows (c ∷ [])) rows owner owner.next own refl
          (λ n l found. sym (past_asked rows c (key.Local n) named (λ e. cc)) ∙ found) (sound_stands rows owner sound owned);
    }

-- ---- the three steps

pub asks_sound : (rows : Rows) (set : KeySet) (changes : List Change) → IsSound rows → Asks rows set changes → IsSound (rows_after rows changes)
asks_sound rows set changes sound s =
    let none : rows (key.Set Older) ≡ None = subst (IsInSlot rows s.owner.identifier Older) s.may.none_runs.none_older s.holds.before in
    subst (λ (cs : List Change). IsSound (rows_after rows cs)) (sym s.changes_are)
    (asked_sound rows s.owner s.change sound s.holds.owned s.put.puts.key_is (λ asked older has had. cc))

pub forgets_sound : (rows : Rows) (changes : List Change) → IsSound rows → Forgets rows changes → IsSound (rows_after rows changes)
forgets_sound rows changes sound s =
    let own = sound.owner (key.Set Asked) (value.Set s.asked) s.stands in
    let none : rows_after rows (s.change ∷ []) (key.Set Asked) ≡ None = removed_here rows s.change (key.Set Asked) s.removes in
    subst (λ (cs : List Change). IsSound (rows_after rows cs)) (sym s.changes_are)
    (asked_sound rows own.0 s.change sound own.1 s.removes.key_is (λ asked older has had. cc))

pub adopts_sound : (rows : Rows) (words left : ChaCha) (set : KeySet) (token : Bytes) (changes : List Change) → IsSound rows
    → Adopts rows words set token changes left → IsSound (rows_after rows changes)
adopts_sound rows words left set token changes sound a =
    let d = adopted rows words left set token changes a in
    let stand : Stand IsSoundItem a.owner.next (rows_after rows a.rekeyed) =
    adopted_stands rows words left set token changes a IsSoundItem IsSoundItem a.owner.next (adopted_item a.sets set)
    (sound_stands rows a.owner sound a.holds.owned) in
    record {
      device = device_after rows changes (adopted_device rows words left set token changes a) sound.device;
      owner = λ at v is. (d.later, d.owned);
      sets = record {
        present = λ any has. (d.present.0, d.present.1);
        asked_alone = λ asked older has had. (let none = d.asked in cc);
      };
      locals = locals_after rows (rows_after rows changes) (rows_after rows a.rekeyed) d.later a.owner.next d.owned
          (ap (λ (x : OwnerColumns). x.next) d.columns_are) (adopted_row rows words left set token changes a) stand;
    }
