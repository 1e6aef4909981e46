-- Items stay sound, and their drafts open, whatever versions an answer has.
use Rattle.std.proofs.Common.{Bool, Option, Some, None, refl, sym, ap, subst, inl, inr}
use Rattle.std.specs.Prelude.{IsSome}
use Rattle.rand_chacha.specs.ChaCha.{ChaCha}
use Rattle.sn_conflict.specs.Checks.{AreStringsOf}
use Rattle.sn_items.specs.Items.{OpensItem}
use Rattle.sn_items.specs.Opens.{NamesItem}
use Rattle.sn_items.specs.declared.sealed.Sealed.{Sealed}
use Rattle.sn_rows.specs.Table.{Rows}
use Rattle.sn_rows.specs.declared.body.RowBody.{RowBody}
use Rattle.sn_rows.specs.declared.body.RowBody.TheVariants as row
use Rattle.sn_rows.specs.declared.body.RowStrings.{RowStrings}
use Rattle.sn_sets.specs.Sets.{sealed_of}
use Rattle.sn_sets.specs.declared.sets.Sets.{Sets}
use Rattle.sn_string.specs.Grammar.{Reading}
use Rattle.sn_string.specs.declared.params.KeySet.{KeySet}
use Rattle.sn_sync.specs.declared.item.Body.TheVariants as body
use Rattle.sn_sync.specs.declared.item.Item.{Item}
use Rattle.sn_device.specs.Laws.{StayStanding, StayWell}
use Rattle.sn_device.specs.States.{Bytes, Columns, IsOwnDraft, IsSoundItem, NamesVersion, OpensVersion}
use Rattle.sn_device.specs.Taking.{IsKeptAs, StandsOn, new_columns, unposted}
use Rattle.sn_device.proofs.Standing.{IsKept, Stand, told_stands}

-- ---- strings

-- what opens names its item
pub opened_names : (set : KeySet) (uuid text : Bytes) (strings : RowStrings) → OpensItem (sealed_of strings) uuid set text
    → NamesVersion uuid (Some (row.Sealed strings))
opened_names set uuid text strings o =
    ((o.opens.reading, o.opens.authentic.names), (o.enc.opens.reading, o.enc.opens.authentic.names))

kept_names : (sets : Sets) (words left : ChaCha) (uuid content enc : Bytes) (strings : RowStrings) (stale : Bool)
    → IsKeptAs sets words uuid (record { content = content; enc = enc }) strings stale left → AreStringsOf uuid (body.Strings content enc)
    → NamesVersion uuid (Some (row.Sealed strings))
kept_names sets words left uuid content enc strings stale (inl (not, same, current, e)) checked = (
  subst (λ (x : Bytes). (reading : Reading) × NamesItem x reading uuid) (sym (ap (λ (z : Sealed). z.content) same)) checked.0.1,
  subst (λ (x : Bytes). (reading : Reading) × NamesItem x reading uuid) (sym (ap (λ (z : Sealed). z.enc) same)) checked.1.1,
)
kept_names sets words left uuid content enc strings stale (inr (text, opens, again, is)) checked =
    opened_names sets.present uuid text strings again.still

-- ---- a row on a version

stands_sound : (sets : Sets) (words left : ChaCha) (i : Item) (content enc : Bytes) (latest : Option RowBody) (cs : Columns)
    → StandsOn sets words i content enc latest None cs left → AreStringsOf i.uuid (body.Strings content enc) → NamesVersion i.uuid latest → IsSoundItem cs
stands_sound sets words left i content enc latest cs s checked named =
    let has_base : IsSome cs.base = subst IsSome (sym s.base_is) refl in
    let has_body : IsSome cs.body = subst IsSome (sym s.body_is) refl in
    let names = kept_names sets words left i.uuid content enc s.strings cs.stale s.kept checked in
    record {
      based = (λ h. has_body, λ h. has_base);
      undeleted = λ e. (let sealed = s.body_is in cc);
      some = inl has_base;
      sent = λ h. (let no = subst IsSome s.posted_is h in absurd cc);
      again = λ e. has_base;
      body_named = subst (NamesVersion cs.uuid) (sym s.body_is)
          (subst (λ (u : Bytes). NamesVersion u (Some (row.Sealed s.strings))) (sym s.uuid_is) names);
      latest_named = subst (NamesVersion cs.uuid) (sym s.latest_is) (subst (λ (u : Bytes). NamesVersion u latest) (sym s.uuid_is) named);
      posted_named = subst (NamesVersion cs.uuid) (sym s.posted_is) tt;
    }

stands_own : (sets : Sets) (words left : ChaCha) (i : Item) (content enc : Bytes) (latest : Option RowBody) (cs : Columns)
    → StandsOn sets words i content enc latest None cs left → OpensVersion sets.present i.uuid latest → IsOwnDraft sets.present cs
stands_own sets words left i content enc latest cs s opens = record {
  latest_opens = subst (OpensVersion sets.present cs.uuid) (sym s.latest_is)
      (subst (λ (u : Bytes). OpensVersion sets.present u latest) (sym s.uuid_is) opens);
  posted_opens = subst (OpensVersion sets.present cs.uuid) (sym s.posted_is) tt;
  deleted = λ e. (let none = s.posted_is in absurd cc);
}

-- ---- a new item

new_sound : (uuid kind text : Bytes) (set : KeySet) (strings : RowStrings) → OpensItem (sealed_of strings) uuid set text
    → IsSoundItem (new_columns uuid kind strings)
new_sound uuid kind text set strings opens = record {
  based = (λ h. h, λ h. h);
  undeleted = λ e. cc;
  some = inr refl;
  sent = λ h. absurd cc;
  again = λ e. absurd cc;
  body_named = tt;
  latest_named = opened_names set uuid text strings opens;
  posted_named = tt;
}

new_own : (uuid kind text : Bytes) (set : KeySet) (strings : RowStrings) → OpensItem (sealed_of strings) uuid set text
    → IsOwnDraft set (new_columns uuid kind strings)
new_own uuid kind text set strings opens = record { latest_opens = (text, opens); posted_opens = tt; deleted = λ e. absurd cc }

-- ---- what was sent is answered

unposted_sound : (cs : Columns) → IsSoundItem cs → IsSoundItem (unposted cs)
unposted_sound cs h = record {
  based = h.based;
  undeleted = h.undeleted;
  some = h.some;
  sent = λ x. absurd cc;
  again = h.again;
  body_named = h.body_named;
  latest_named = h.latest_named;
  posted_named = tt;
}

unposted_own : (present : KeySet) (cs : Columns) → IsOwnDraft present cs → IsOwnDraft present (unposted cs)
unposted_own present cs own = record { latest_opens = own.latest_opens; posted_opens = tt; deleted = λ x. absurd cc }

-- ---- sound, and with drafts that open

pub sound_kept : (sets : Sets) (rows : Rows) → IsKept IsSoundItem sets rows
sound_kept sets rows = record {
  taken = λ words left i content enc cs checked on. stands_sound sets words left i content enc None cs on checked tt;
  answered = λ words left local i content enc cs checked named kind sound on.
      stands_sound sets words left i content enc local.latest cs on checked (subst (λ (u : Bytes). NamesVersion u local.latest) named sound.latest_named);
  new = λ uuid kind text strings free opens. new_sound uuid kind text sets.present strings opens;
  unsent = unposted_sound;
}

pub own_kept : (sets : Sets) (rows : Rows) → IsKept (IsOwnDraft sets.present) sets rows
own_kept sets rows = record {
  taken = λ words left i content enc cs checked on. stands_own sets words left i content enc None cs on tt;
  answered = λ words left local i content enc cs checked named kind own on.
      stands_own sets words left i content enc local.latest cs on (subst (λ (u : Bytes). OpensVersion sets.present u local.latest) named own.latest_opens);
  new = λ uuid kind text strings free opens. new_own uuid kind text sets.present strings opens;
  unsent = unposted_own sets.present;
}

pub stay_standing : StayStanding
stay_standing sets saved p q t checked standing takes =
    let before : Stand IsSoundItem p.next p.rows = record { numbered = standing.numbered; apart = standing.apart; items = standing.items } in
    let after : Stand IsSoundItem q.next q.rows = told_stands IsSoundItem sets saved p q t (sound_kept sets p.rows) checked before takes in
    record { numbered = after.numbered; apart = after.apart; items = after.items }

pub stay_well : StayWell
stay_well sets saved p q t checked well takes =
    let before : Stand IsSoundItem p.next p.rows = record { numbered = well.numbered; apart = well.apart; items = well.items } in
    let after : Stand IsSoundItem q.next q.rows = told_stands IsSoundItem sets saved p q t (sound_kept sets p.rows) checked before takes in
    let own : Stand (IsOwnDraft sets.present) p.next p.rows = record { numbered = well.numbered; apart = well.apart; items = well.drafts } in
    let owned : Stand (IsOwnDraft sets.present) q.next q.rows = told_stands (IsOwnDraft sets.present) sets saved p q t (own_kept sets p.rows) checked own takes in
    record { numbered = after.numbered; apart = after.apart; items = after.items; drafts = owned.items }
