-- A draft, over all the commits of a call that makes none of the user's changes.
use Rattle.std.proofs.Common.{arith, ◌≤◌, ◌≡◌, ◌⊎◌, ℕ, List, [], ◌∷◌, Some, refl, sym, ap, ◌∙◌, subst, inl, inr}
use Rattle.std.specs.Prelude.{IsSome}
use Rattle.rand_chacha.specs.ChaCha.{ChaCha}
use Rattle.sn_rows.specs.Facts.{put_elsewhere}
use Rattle.sn_rows.specs.Table.{Rows, key_of, rows_after}
use Rattle.sn_rows.specs.declared.body.RowBody.{RowBody}
use Rattle.sn_rows.specs.declared.body.RowBody.TheVariants as row
use Rattle.sn_rows.specs.declared.change.Change.{Change}
use Rattle.sn_rows.specs.declared.device_rows.LocalItem.{LocalItem}
use Rattle.sn_rows.specs.declared.device_rows.OwnerRow.{OwnerRow}
use Rattle.sn_rows.specs.declared.key.Key.TheVariants as key
use Rattle.sn_rows.specs.declared.key.Slot.TheVariants.{Asked}
use Rattle.sn_rows.specs.declared.value.Value.TheVariants as value
use Rattle.sn_sets.specs.declared.sets.Sets.{Sets}
use Rattle.sn_string.specs.declared.params.KeySet.{KeySet}
use Rattle.sn_sync.specs.declared.answer.Answer.{Answer}
use Rattle.sn_sync.specs.declared.answer.Answer.TheVariants as answer
use Rattle.sn_sync.specs.declared.item.Item.{Item}
use Rattle.sn_sync.specs.declared.request.Request.{Request}
use Rattle.sn_sync.specs.declared.request.Request.TheVariants as request
use Rattle.sn_device.specs.Asking.{Reply}
use Rattle.sn_device.specs.Laws.{AreSteps, DraftKeptByPasswd, DraftKeptBySignIn, DraftKeptBySync, GoesOnUnder, HasDraft, IsAnswered, IsCarried, IsCarriedUnder, IsKeptOver, IsSealedAgain, IsStillOf}
use Rattle.sn_device.specs.Runs.{Act, asked, commits, passwd, sign_in, sync}
use Rattle.sn_device.specs.Sending.{as_posted}
use Rattle.sn_device.specs.States.{Bytes, Columns, HasLocal, HasSets, IsSound, IsSoundDevice, columns}
use Rattle.sn_device.specs.Steps.{Adopts, AppliesAnswer, AppliesTo, PutsNew, Step, What, adopts, applies, asks, begins, deletes, edits, forgets, posts, puts, renews}
use Rattle.sn_device.proofs.AdoptRows.{Adopted, IsAdopted, adopted}
use Rattle.sn_device.proofs.AdoptSound.{past_asked}
use Rattle.sn_device.proofs.Carried.{StaysIn}
use Rattle.sn_device.proofs.DeviceSteps.{steps_stay_sound_device}
use Rattle.sn_device.proofs.Drafts.{draft_stays, new_number, same_row}
use Rattle.sn_device.proofs.Followed.{draft_kept_by_answer}
use Rattle.sn_device.proofs.Frames.{Parts, item_kept}
use Rattle.sn_device.proofs.KeptDrafts.{CarriesIn, adopted_draft, anew_carries, carry_on, moved, not_deleted}
use Rattle.sn_device.proofs.KeptSets.{HoldsAdopted, HoldsLater, Holding, adopts_holding, adopts_sets, asks_holding, forgets_holding, later_same, parts_holding}
use Rattle.sn_device.proofs.QuietRuns.{AreQuiet, IsQuiet, passwd_front, sign_in_front, sync_front}
use Rattle.sn_device.proofs.SoundRuns.{run_front}
use Rattle.sn_device.proofs.StepStands.{applied_leads, apply_parts, post_parts, posted_all, put_parts, renew_parts}

-- ---- what an answer keeps of the account and its sets

answer_parts : (rows : Rows) (words left : ChaCha) (sent : List Item) (given : Answer) (changes : List Change)
    → AppliesAnswer rows words sent given changes left → (x : Parts rows changes) × (x.owner.next ≤ x.next)
answer_parts rows words left sent (answer.Sync conflicts cursor retrieved saved token) changes s =
    let leads = applied_leads rows words left sent conflicts cursor retrieved saved token changes s in
    (apply_parts rows words left sent conflicts cursor retrieved saved token changes s, leads.grown)
answer_parts rows words left sent (answer.Account token identifier account) changes s = absurd s
answer_parts rows words left sent (answer.Params params) changes s = absurd s
answer_parts rows words left sent (answer.Refused status tag more) changes s = absurd s

applied_parts : (rows : Rows) (words left : ChaCha) (r : Request) (given : Answer) (changes : List Change) → AppliesTo rows words r given changes left
    → (x : Parts rows changes) × (x.owner.next ≤ x.next)
applied_parts rows words left (request.Sync token items limit sync_token cursor_token) given changes s = answer_parts rows words left items given changes s
applied_parts rows words left (request.Register params pw) given changes s = absurd s
applied_parts rows words left (request.Params identifier) given changes s = absurd s
applied_parts rows words left (request.SignIn identifier pw) given changes s = absurd s
applied_parts rows words left (request.ChangePw token current pw cost nonce) given changes s = absurd s

-- ---- steps that aren't of an answer

as_it_was : (after : Rows) (at : ℕ) (local : LocalItem) (again : RowBody) → HasLocal after at local → local.latest ≡ Some again → StaysIn after at local again
as_it_was after at local again there drafted = record { now = local; there = there; uuid_is = refl; kind_is = refl; drafted = drafted }

put_stays : (rows : Rows) (words left : ChaCha) (uuid kind text : Bytes) (changes : List Change) (at : ℕ) (local : LocalItem) (again : RowBody)
    → IsSound rows → PutsNew rows words uuid kind text changes left → HasLocal rows at local → local.latest ≡ Some again
    → StaysIn (rows_after rows changes) at local again
put_stays rows words left uuid kind text changes at local again sound s there drafted =
    let below = sound.locals.numbered s.owner at local s.holds.owned there in
    let past : HasLocal (rows_after rows (s.item ∷ [])) at local =
    put_elsewhere rows s.item (key.Local s.owner.next) (key.Local at) (value.Local s.item_is.local) s.item_is.puts (new_number at s.owner.next below) ∙ there in
    as_it_was (rows_after rows changes) at local again (item_kept rows changes (put_parts rows words left uuid kind text changes s) at local past) drafted

-- posting leaves an item's type
kind_posted : (l old : LocalItem) → ((columns l ≡ columns old) ⊎ (IsSome old.latest × (columns l ≡ as_posted (columns old)))) → l.kind ≡ old.kind
kind_posted l old (inl same) = ap (λ (x : Columns). x.kind) same
kind_posted l old (inr (some, is)) = ap (λ (x : Columns). x.kind) is

post_stays : (rows : Rows) (words left : ChaCha) (numbers : List ℕ) (changes : List Change) (at : ℕ) (local : LocalItem) (again : RowBody)
    → IsSound rows → Step rows words (posts numbers) changes left → HasLocal rows at local → local.latest ≡ Some again
    → StaysIn (rows_after rows changes) at local again
post_stays rows words left numbers changes at local again sound step there drafted =
    let before : HasDraft rows local.uuid at again = record { local = local; stands = (there, refl); drafted = drafted } in
    let after : HasDraft (rows_after rows changes) local.uuid at again =
    draft_stays rows words left (posts numbers) changes local.uuid at again sound step (λ no. absurd no) before in
    let old = posted_all rows rows numbers changes (λ n l found. (l, found, inl refl)) step.0 at after.local after.stands.0 in
    let same : old.0 ≡ local = same_row rows at old.0 local old.1 there in
    record {
      now = after.local;
      there = after.stands.0;
      uuid_is = after.stands.1;
      kind_is = kind_posted after.local old.0 old.2 ∙ ap (λ (l : LocalItem). l.kind) same;
      drafted = after.drafted;
    }

-- the set that is asked for has no row of an item
asked_stays : (rows : Rows) (c : Change) (changes : List Change) (at : ℕ) (local : LocalItem) (again : RowBody) → key_of c ≡ key.Set Asked
    → changes ≡ c ∷ [] → HasLocal rows at local → local.latest ≡ Some again → StaysIn (rows_after rows changes) at local again
asked_stays rows c changes at local again named is there drafted =
    as_it_was (rows_after rows changes) at local again
    (ap (λ (cs : List Change). rows_after rows cs (key.Local at)) is ∙ past_asked rows c (key.Local at) named (λ e. cc) ∙ there) drafted

-- ---- all of them

module _ (sets : Sets) (first : Rows) (owner : OwnerRow) (has : HasSets first owner sets) (number : ℕ) (was : LocalItem) (latest : RowBody) where
  -- a draft of these rows carries it on, under the sets that are held there
  record At (rows : Rows) : Type 0 where
    pub holding : Holding rows owner.next
    pub at : ℕ
    pub local : LocalItem
    pub stands : HasLocal rows at local
    pub again : RowBody
    pub drafted : local.latest ≡ Some again
    pub carries : CarriesIn sets owner.next number was latest holding.held at local again

  abbrev IsKeptIn : Rows → List Act → Type 0
  IsKeptIn rows acts = IsKeptOver sets rows owner.next number was latest acts

  -- whichever way it is carried on
  carried_so : (held : Sets) (at : ℕ) (local : LocalItem) (again : RowBody) → CarriesIn sets owner.next number was latest held at local again
      → IsStillOf number was latest at local again
      ⊎ (IsSealedAgain sets held.present number was latest at local again ⊎ GoesOnUnder sets held.present owner.next number was latest at local again)
  carried_so held at local again (inl (s, so)) = inl s
  carried_so held at local again (inr g) = inr g

  kept_at : (rows : Rows) → At rows → IsKeptIn rows []
  kept_at rows c = inl (record {
    holder = c.holding.holder;
    held = c.holding.held;
    holds = c.holding.holds;
    carried = record {
      at = c.at;
      local = c.local;
      stands = c.stands;
      again = c.again;
      drafted = c.drafted;
      carries = carried_so c.holding.held c.at c.local c.again c.carries;
    };
  })

  after_commit : (rows : Rows) (what : What) (changes : List Change) (acts : List Act) → IsKeptIn (rows_after rows changes) acts
      → IsKeptIn rows (commits what changes ∷ acts)
  after_commit rows what changes acts (inl c) = inl c
  after_commit rows what changes acts (inr (inl gone)) = inr (inl gone)
  after_commit rows what changes acts (inr (inr a)) = inr (inr (record {
    before = commits what changes ∷ a.before;
    request = a.request;
    given = a.given;
    changes = a.changes;
    later = a.later;
    split = ap (λ (xs : List Act). commits what changes ∷ xs) a.split;
    words = a.words;
    owner = a.owner;
    held = a.held;
    holds = a.holds;
    met = a.met;
    carried = a.carried;
    item = a.item;
    flag = a.flag;
    meets = a.meets;
    named = a.named;
    same = a.same;
  }))

  after_asked : (rows : Rows) (r : Request) (reply : Reply) (acts : List Act) → IsKeptIn rows acts → IsKeptIn rows (asked r reply ∷ acts)
  after_asked rows r reply acts (inl c) = inl c
  after_asked rows r reply acts (inr (inl gone)) = inr (inl gone)
  after_asked rows r reply acts (inr (inr a)) = inr (inr (record {
    before = asked r reply ∷ a.before;
    request = a.request;
    given = a.given;
    changes = a.changes;
    later = a.later;
    split = ap (λ (xs : List Act). asked r reply ∷ xs) a.split;
    words = a.words;
    owner = a.owner;
    held = a.held;
    holds = a.holds;
    met = a.met;
    carried = a.carried;
    item = a.item;
    flag = a.flag;
    meets = a.meets;
    named = a.named;
    same = a.same;
  }))

  -- the row stays, under later sets
  stays_at : (rows after : Rows) (c : At rows) → HoldsLater after owner.next c.holding.held → StaysIn after c.at c.local c.again → At after
  stays_at rows after c h s = record {
    holding = h.now;
    at = c.at;
    local = s.now;
    stands = s.there;
    again = c.again;
    drafted = s.drafted;
    carries = moved sets owner.next number was latest c.holding.held h.now.held c.at c.local s.now c.again h.later s.uuid_is s.kind_is c.carries;
  }

  -- ---- the commit of an answer

  answered_at : (rows after : Rows) (c : At rows) → HoldsLater after owner.next c.holding.held
      → (d : IsCarried c.holding.held c.holding.holder.next c.at c.local c.again after) → At after
  answered_at rows after c h d =
      let carries : CarriesIn sets owner.next number was latest c.holding.held d.at d.local d.again =
      carry_on sets owner.next number was latest c.holding.held c.holding.holder.next c.at c.local c.again c.holding.grown d.at d.local d.again c.carries
      d.carries in
      record {
        holding = h.now;
        at = d.at;
        local = d.local;
        stands = d.stands;
        again = d.again;
        drafted = d.drafted;
        carries = moved sets owner.next number was latest c.holding.held h.now.held d.at d.local d.local d.again h.later refl refl carries;
      }

  abbrev met_under : (rows met : Rows) (c : At rows) → (d : IsCarried c.holding.held c.holding.holder.next c.at c.local c.again met)
      → IsCarriedUnder sets c.holding.held.present owner.next number was latest met
  met_under rows met c d = record {
    at = d.at;
    local = d.local;
    stands = d.stands;
    again = d.again;
    drafted = d.drafted;
    carries = carried_so c.holding.held d.at d.local d.again
        (carry_on sets owner.next number was latest c.holding.held c.holding.holder.next c.at c.local c.again c.holding.grown d.at d.local d.again c.carries
        d.carries);
  }

  answered_then : (rows : Rows) (words : ChaCha) (r : Request) (given : Answer) (changes : List Change) (acts : List Act) (c : At rows)
      → HoldsLater (rows_after rows changes) owner.next c.holding.held
      → (IsCarried c.holding.held c.holding.holder.next c.at c.local c.again (rows_after rows changes)
      ⊎ ((c.again ≡ row.Deleted) ⊎ IsAnswered c.holding.held rows c.holding.holder words c.at c.local c.again given))
      → (At (rows_after rows changes) → IsKeptIn (rows_after rows changes) acts) → IsKeptIn rows (commits (applies r given) changes ∷ acts)
  answered_then rows words r given changes acts c h (inl d) rest =
      after_commit rows (applies r given) changes acts (rest (answered_at rows (rows_after rows changes) c h d))
  answered_then rows words r given changes acts c h (inr (inl gone)) rest =
      inr (inl (not_deleted sets owner.next number was latest c.holding.held c.at c.local c.again c.carries gone))
  answered_then rows words r given changes acts c h (inr (inr a)) rest = inr (inr (record {
    before = [];
    request = r;
    given = given;
    changes = changes;
    later = acts;
    split = refl;
    words = words;
    owner = c.holding.holder;
    held = c.holding.held;
    holds = c.holding.holds;
    met = a.met;
    carried = met_under rows a.met c a.carried;
    item = a.item;
    flag = a.flag;
    meets = a.meets;
    named = a.named;
    same = a.same;
  }))

  -- ---- the adoption of a set

  adopted_at : (rows : Rows) (words left : ChaCha) (set : KeySet) (token : Bytes) (changes : List Change) → IsSoundDevice rows
      → Adopts rows words set token changes left → At rows → At (rows_after rows changes)
  adopted_at rows words left set token changes device a c =
      let x = c.holding in
      let h : HoldsAdopted (rows_after rows changes) owner.next set = adopts_holding rows words left set token changes owner.next x a in
      let d : Adopted rows a.sets set token a.owner (rows_after rows changes) = adopted rows words left set token changes a in
      let (now, there, made) = d.there c.at c.local c.stands in
      let under : IsAdopted x.held set c.local now =
      subst (λ (s : Sets). IsAdopted s set c.local now) (adopts_sets rows words left set token changes owner.next x a) made in
      let present : IsAdopted x.held h.now.held.present c.local now = subst (λ (s : KeySet). IsAdopted x.held s c.local now) (sym h.present_is) under in
      let own = device.drafts x.holder x.held c.at c.local x.holds c.stands in
      let (last, drafted, becomes) = adopted_draft x.held h.now.held.present c.local now c.again present c.drafted own.latest_opens in
      record {
        holding = h.now;
        at = c.at;
        local = now;
        stands = there;
        again = last;
        drafted = drafted;
        carries = anew_carries sets owner.next number was latest x.held h.now.held c.at c.local now c.again last under.rekeys.uuid_is under.rekeys.kind_is
            c.carries becomes;
      }

  -- ---- each commit

  parts_at : (rows : Rows) (changes : List Change) (c : At rows) (parts : Parts rows changes) → parts.owner.next ≤ parts.next
      → StaysIn (rows_after rows changes) c.at c.local c.again → At (rows_after rows changes)
  parts_at rows changes c parts up s = stays_at rows (rows_after rows changes) c (parts_holding rows changes owner.next c.holding parts up) s

  one_commit : (rows : Rows) (words left : ChaCha) (what : What) (changes : List Change) (acts : List Act) → IsSoundDevice rows → IsQuiet what
      → Step rows words what changes left → At rows → (At (rows_after rows changes) → IsKeptIn (rows_after rows changes) acts)
      → IsKeptIn rows (commits what changes ∷ acts)
  one_commit rows words left (begins set account token) changes acts device quiet step c rest =
      let none = step.0 (key.Local c.at) in
      let some = c.stands in
      absurd cc
  one_commit rows words left (renews token) changes acts device quiet step c rest =
      after_commit rows (renews token) changes acts
      (rest (parts_at rows changes c (renew_parts rows token changes step.0) (omega arith)
      (as_it_was (rows_after rows changes) c.at c.local c.again (item_kept rows changes (renew_parts rows token changes step.0) c.at c.local c.stands)
      c.drafted)))
  one_commit rows words left (puts uuid kind text) changes acts device quiet step c rest =
      after_commit rows (puts uuid kind text) changes acts
      (rest (parts_at rows changes c (put_parts rows words left uuid kind text changes step) (omega arith)
      (put_stays rows words left uuid kind text changes c.at c.local c.again device.sound step c.stands c.drafted)))
  one_commit rows words left (edits uuid text) changes acts device quiet step c rest = absurd quiet
  one_commit rows words left (deletes uuid) changes acts device quiet step c rest = absurd quiet
  one_commit rows words left (posts numbers) changes acts device quiet step c rest =
      after_commit rows (posts numbers) changes acts
      (rest (parts_at rows changes c (post_parts rows c.holding.holder numbers changes c.holding.holds.owned step.0) (omega arith)
      (post_stays rows words left numbers changes c.at c.local c.again device.sound step c.stands c.drafted)))
  one_commit rows words left (applies r given) changes acts device quiet step c rest =
      let parts = applied_parts rows words left r given changes step in
      answered_then rows words r given changes acts c (parts_holding rows changes owner.next c.holding parts.0 parts.1)
      (draft_kept_by_answer rows words left r given changes c.holding.holder c.holding.held c.at c.local c.again device c.holding.holds step c.stands
      c.drafted) rest
  one_commit rows words left (asks set) changes acts device quiet step c rest =
      after_commit rows (asks set) changes acts
      (rest (stays_at rows (rows_after rows changes) c (asks_holding rows set changes owner.next c.holding step.0)
      (asked_stays rows step.0.change changes c.at c.local c.again step.0.put.puts.key_is step.0.changes_are c.stands c.drafted)))
  one_commit rows words left (adopts set token) changes acts device quiet step c rest =
      after_commit rows (adopts set token) changes acts (rest (adopted_at rows words left set token changes device step c))
  one_commit rows words left forgets changes acts device quiet step c rest =
      after_commit rows forgets changes acts
      (rest (stays_at rows (rows_after rows changes) c (forgets_holding rows changes owner.next c.holding step.0)
      (asked_stays rows step.0.change changes c.at c.local c.again step.0.removes.key_is step.0.changes_are c.stands c.drafted)))

  all_acts : (rows : Rows) (acts : List Act) → IsSoundDevice rows → AreSteps rows acts → AreQuiet acts → At rows → IsKeptIn rows acts
  all_acts rows [] device steps quiet c = kept_at rows c
  all_acts rows (commits what changes ∷ acts) device (words, left, step, steps) quiet c =
      one_commit rows words left what changes acts device quiet.0 step c
      (all_acts (rows_after rows changes) acts (steps_stay_sound_device rows words left what changes device step) steps quiet.1)
  all_acts rows (asked r reply ∷ acts) device steps quiet c = after_asked rows r reply acts (all_acts rows acts device steps quiet c)

  from_first : (acts : List Act) → IsSoundDevice first → HasLocal first number was → was.latest ≡ Some latest → AreSteps first acts → AreQuiet acts
      → IsKeptOver sets first owner.next number was latest acts
  from_first acts device there drafted steps quiet = all_acts first acts device steps quiet (record {
    holding = record { holder = owner; held = sets; holds = has; grown = omega arith };
    at = number;
    local = was;
    stands = there;
    again = latest;
    drafted = drafted;
    carries = inl (record { number_is = refl; uuid_is = refl; kind_is = refl; draft_is = refl }, inl (later_same sets));
  })

pub draft_kept_by_sync : DraftKeptBySync
draft_kept_by_sync least rows words acts halt front later owner sets number local latest run is device has there drafted =
    from_first sets rows owner has number local latest front device there drafted (run_front least sync rows words acts halt front later run is)
    (sync_front least rows words acts halt front later run is)

pub draft_kept_by_passwd : DraftKeptByPasswd
draft_kept_by_passwd least password cost rows words acts halt front later owner sets number local latest run is device has there drafted =
    from_first sets rows owner has number local latest front device there drafted
    (run_front least (passwd password cost) rows words acts halt front later run is)
    (passwd_front least password cost rows words acts halt front later run is)

pub draft_kept_by_sign_in : DraftKeptBySignIn
draft_kept_by_sign_in least identifier password rows words acts halt front later owner sets number local latest run is device has there drafted =
    from_first sets rows owner has number local latest front device there drafted
    (run_front least (sign_in identifier password) rows words acts halt front later run is)
    (sign_in_front least identifier password rows words acts halt front later run is)
