-- Rows of the older of two sets stay stale: no commit but an adoption puts strings that open under it into a row that isn't.
use Rattle.std.proofs.Common.{◌≡◌, ◌<◌, ℕ, List, [], ◌∷◌, Option, Some, None, true, refl, sym, ap, ◌∙◌, subst, inl, inr, arith}
use Rattle.std.specs.List.{AllZip}
use Rattle.std.specs.Prelude.{length}
use Rattle.rand_chacha.specs.ChaCha.{ChaCha}
use Rattle.sn_device.proofs.Facts.{IsKept, Parts, Stand, apply_parts, apply_stands, begin_empty, delete_parts, delete_stands, edit_parts, edit_stands, item_after, new_stands, past_asked, post_parts, post_stands, put_parts, renew_parts}
use Rattle.sn_device.specs.Sending.{Posts}
use Rattle.sn_device.specs.States.{Columns, HasLocal, HasOwner, HasSets, IsSound}
use Rattle.sn_device.specs.Steps.{AppliesAnswer, AppliesTo, Step, What, adopts, applies, asks, begins, deletes, edits, forgets, posts, puts, renews}
use Rattle.sn_device.specs.Taking.{IsKeptAs, StandsOn, new_columns}
use Rattle.sn_items.specs.declared.sealed.Sealed.{Sealed}
use Rattle.sn_laws.specs.Lookups.{Bytes, greatest}
use Rattle.sn_laws.specs.Reached.{IsOneOrTwo, NoncesApart}
use Rattle.sn_laws.specs.declared.ideal.Account.{Account}
use Rattle.sn_laws.specs.declared.ideal.Device.{Device}
use Rattle.sn_laws.specs.declared.ideal.Ideal.{Ideal}
use Rattle.sn_rows.specs.Table.{Rows, key_of, rows_after}
use Rattle.sn_rows.specs.declared.body.RowBody.{RowBody}
use Rattle.sn_rows.specs.declared.body.RowBody.TheVariants as body
use Rattle.sn_rows.specs.declared.body.RowStrings.{RowStrings}
use Rattle.sn_rows.specs.declared.change.Change.{Change}
use Rattle.sn_rows.specs.declared.device_rows.OwnerRow.{OwnerRow}
use Rattle.sn_rows.specs.declared.key.Key.TheVariants as key
use Rattle.sn_rows.specs.declared.key.Slot.TheVariants.{Asked}
use Rattle.sn_sets.specs.Sets.{OpensNot, OpensOlder, sealed_of}
use Rattle.sn_sets.specs.declared.sets.Sets.{Sets}
use Rattle.sn_shows.proofs.Facts.{greatest_of_two, holder_of, one_set}
use Rattle.sn_shows.specs.Devices.{ShowsHolder}
use Rattle.sn_shows.specs.Sets.{OpensUnder, set_at}
use Rattle.sn_string.specs.declared.params.KeySet.{KeySet}
use Rattle.sn_sync.specs.declared.answer.Answer.{Answer}
use Rattle.sn_sync.specs.declared.answer.Answer.TheVariants as answer
use Rattle.sn_sync.specs.declared.item.Item.{Item}
use Rattle.sn_sync.specs.declared.request.Request.{Request}
use Rattle.sn_sync.specs.declared.request.Request.TheVariants as request
use Rattle.sn_adopted.proofs.Older.{same_strings}
use Rattle.sn_adopted.proofs.SetRows.{older_is, present_at}
use Rattle.sn_adopted.specs.Laws.{StaleStays}
use Rattle.sn_adopted.specs.Moves.{AdoptsNone, OlderStale}

-- ---- one row

abbrev IsStaleUnder : List KeySet → ℕ → Columns → Type 0
IsStaleUnder sets older c = (strings : RowStrings) (text : Bytes) → c.body ≡ Some (body.Sealed strings) → OpensUnder sets older c.uuid (sealed_of strings) text
    → c.stale ≡ true

none_stale : (sets : List KeySet) (older : ℕ) (c : Columns) → c.body ≡ None → IsStaleUnder sets older c
none_stale sets older c none strings text is opens = absurd (cc)

-- what a row takes: strings of the older set are sealed anew
module _ (a : Account) (sets : Sets) (older present : ℕ) (lt : older < present) (apart : NoncesApart a) (at_present : set_at present a.sets ≡ Some sets.present)
    (is_older : (set : KeySet) → set_at older a.sets ≡ Some set → sets.older ≡ Some set) where
  by_older : (uuid : Bytes) (sealed : Sealed) (text : Bytes) → OpensUnder a.sets older uuid sealed text → OpensOlder sets uuid sealed text
  by_older uuid sealed text h = record { not_present = not; set = h.set; held = is_older h.set h.at; opens = h.opens }
    where
      not : OpensNot sets.present uuid sealed
      not other opens =
          let same : older ≡ present =
          one_set a older present uuid sealed text other apart h (record { set = sets.present; at = at_present; opens = opens }) in
          absurd (omega (arith, same, lt))

  stood : (words left : ChaCha) (i : Item) (content enc : Bytes) (latest posted : Option RowBody) (cs : Columns)
      → StandsOn sets words i content enc latest posted cs left → IsStaleUnder a.sets older cs
  stood words left i content enc latest posted cs on strings text is opens = by on.kept
    where
      given : Sealed
      given = record { content = content; enc = enc }

      under : OpensUnder a.sets older i.uuid (sealed_of on.strings) text
      under =
          subst (λ (x : RowStrings). OpensUnder a.sets older i.uuid (sealed_of x) text) (sym (same_strings on.strings strings cs.body on.body_is is))
          (subst (λ (u : Bytes). OpensUnder a.sets older u (sealed_of strings) text) on.uuid_is opens)

      by : IsKeptAs sets words i.uuid given on.strings cs.stale left → cs.stale ≡ true
      by (inl (not_older, same, fresh, all)) =
          absurd (not_older text (by_older i.uuid given text (subst (λ (x : Sealed). OpensUnder a.sets older i.uuid x text) same under)))
      by (inr (shown, older_opens, rewraps, stale)) = stale

  kept : (rows : Rows) → IsKept (IsStaleUnder a.sets older) sets rows
  kept rows = record {
    taken = λ words left i content enc cs checked on. stood words left i content enc None None cs on;
    answered = λ words left local i content enc cs checked same kind has on. stood words left i content enc local.latest None cs on;
    new = λ uuid kind text strings free opens. none_stale a.sets older (new_columns uuid kind strings) refl;
    unsent = λ cs has. has;
  }

-- ---- each commit

module _ (rows : Rows) (s : Ideal) (name : Bytes) (d : Device) (a : Account) (sound : IsSound rows) (h : ShowsHolder rows s name d a) (apart : NoncesApart a)
    (older present : ℕ) (both : d.held ≡ older ∷ present ∷ []) (lt : older < present) (only : OlderStale rows a (older ∷ present ∷ [])) where
  abbrev P : Columns → Type 0
  P = IsStaleUnder a.sets older

  abbrev After : List Change → Type 0
  After changes = OlderStale (rows_after rows changes) a (older ∷ present ∷ [])

  stand : (owner : OwnerRow) → HasOwner rows owner → Stand P owner.next rows
  stand owner owned = record {
    numbered = λ n l found. sound.locals.numbered owner n l owned found;
    apart = sound.locals.apart;
    items = λ n l found strings text is opens. only n l strings text found is opens;
  }

  kept_of : (owner : OwnerRow) (sets : Sets) → HasSets rows owner sets → (r : Rows) → IsKept P sets r
  kept_of owner sets has =
      let is : greatest 0 d.held ≡ present = ap (greatest 0) both ∙ greatest_of_two older present lt in
      kept a sets older present lt apart
      (subst (λ (n : ℕ). set_at n a.sets ≡ Some sets.present) is (present_at rows s name d a owner sets h has))
      (older_is rows s name d a owner sets h has older present both)

  -- behind a commit of items and then of the rest
  from_parts : (changes : List Change) → (x : Parts rows changes) → Stand P x.next (rows_after rows x.items) → After changes
  from_parts changes x now local item strings text found is opens = now.items local item (item_after rows changes x local item found) strings text is opens

  -- of the set that is asked for
  from_asked : (c : Change) (changes : List Change) → key_of c ≡ key.Set Asked → changes ≡ c ∷ [] → After changes
  from_asked c changes named e local item strings text found is opens =
      only local item strings text
      (sym (past_asked rows c (key.Local local) named (λ k. cc)) ∙ subst (λ (cs : List Change). HasLocal (rows_after rows cs) local item) e found) is opens

  after_posts : (numbers : List ℕ) (changes : List Change) → AllZip (Posts rows) numbers changes → After changes
  after_posts numbers changes all =
      from_parts changes (post_parts rows h.owner.owner numbers changes h.owner.stands all)
      (post_stands P h.owner.owner.next rows numbers changes (λ cs some has. has) all (stand h.owner.owner h.owner.stands))

  after_answer : (words left : ChaCha) (sent : List Item) (given : Answer) (changes : List Change) → AppliesAnswer rows words sent given changes left
      → After changes
  after_answer words left sent (answer.Sync conflicts cursor retrieved saved token) changes x =
      from_parts changes (apply_parts rows words left sent conflicts cursor retrieved saved token changes x)
      (apply_stands rows words left sent conflicts cursor retrieved saved token changes x P (kept_of x.owner x.sets x.holds) (stand x.owner x.holds.owned))
  after_answer words left sent (answer.Account token identifier account) changes x = absurd x
  after_answer words left sent (answer.Params params) changes x = absurd x
  after_answer words left sent (answer.Refused status tag more) changes x = absurd x

  after_applied : (words left : ChaCha) (r : Request) (given : Answer) (changes : List Change) → AppliesTo rows words r given changes left → After changes
  after_applied words left (request.Sync token items limit sync_token cursor_token) given changes x = after_answer words left items given changes x
  after_applied words left (request.Register params pw) given changes x = absurd x
  after_applied words left (request.Params identifier) given changes x = absurd x
  after_applied words left (request.SignIn identifier pw) given changes x = absurd x
  after_applied words left (request.ChangePw token current pw cost nonce) given changes x = absurd x

  after_step : (words left : ChaCha) (what : What) (changes : List Change) → AdoptsNone what → Step rows words what changes left → After changes
  after_step words left (begins set account token) changes none step =
      λ local item strings text found is opens. absurd (begin_empty rows step.0 set account token changes step.1 local item found)
  after_step words left (renews token) changes none step =
      from_parts changes (renew_parts rows token changes step.0) (stand step.0.owner step.0.owned)
  after_step words left (puts uuid kind text) changes none step =
      from_parts changes (put_parts rows words left uuid kind text changes step)
      (new_stands P rows words left uuid kind text changes step (kept_of step.owner step.sets step.holds rows) (stand step.owner step.holds.owned))
  after_step words left (edits uuid text) changes none step =
      from_parts changes (edit_parts rows words left uuid text changes step)
      (edit_stands P rows words left uuid text changes step (λ cs undeleted opens has. has) (stand step.owner step.holds.owned))
  after_step words left (deletes uuid) changes none step =
      from_parts changes (delete_parts rows h.owner.owner uuid changes h.owner.stands step.0)
      (delete_stands P h.owner.owner.next rows uuid changes step.0 (λ cs has. has) (stand h.owner.owner h.owner.stands))
  after_step words left (posts numbers) changes none step = after_posts numbers changes step.0
  after_step words left (applies r given) changes none step = after_applied words left r given changes step
  after_step words left (asks set) changes none step = from_asked step.0.change changes step.0.put.puts.key_is step.0.changes_are
  after_step words left (adopts set token) changes none step = absurd none
  after_step words left forgets changes none step = from_asked step.0.change changes step.0.removes.key_is step.0.changes_are

pub stale_stays : StaleStays
stale_stays rows words left what changes s name d a sound shows has held apart only none step = by d.held refl held only
  where
    by : (ns : List ℕ) → d.held ≡ ns → IsOneOrTwo (length a.sets) ns → OlderStale rows a ns → OlderStale (rows_after rows changes) a ns
    by [] e are was = tt
    by (present ∷ []) e are was = tt
    by (older ∷ present ∷ []) e are was =
        after_step rows s name d a sound (holder_of rows s name d a shows has) apart older present e are.1 was words left what changes none step
    by (older ∷ present ∷ m ∷ more) e are was = tt
