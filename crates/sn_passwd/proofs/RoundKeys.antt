-- What the exchanges of a sync leave of a device's keys.
use Rattle.std.proofs.Common.{◌≡◌, ◌⊎◌, ℕ, List, [], ◌∷◌, Option, Some, None, refl, sym, ap, ◌∙◌, subst, inl, inr}
use Rattle.rand_chacha.specs.ChaCha.{ChaCha}
use Rattle.sn_device.proofs.Facts.{RetiresOlder, after_append, apply_parts, beside, one_owner, parts_keep, posts_items, retires_older}
use Rattle.sn_device.specs.Runs.{AreRounds, IsRound, Round, Standing}
use Rattle.sn_device.specs.Sending.{PostsAll}
use Rattle.sn_device.specs.States.{Bytes, HasOwner, IsInSlot, OwnerColumns}
use Rattle.sn_device.specs.Steps.{Applies, Step, applies}
use Rattle.sn_passwd.proofs.KeysKept.{slot_same}
use Rattle.sn_passwd.proofs.Points.{HasKeys}
use Rattle.sn_rows.specs.Facts.{put_here, removed_elsewhere}
use Rattle.sn_rows.specs.Table.{Puts, Rows, rows_after}
use Rattle.sn_rows.specs.declared.change.Change.{Change}
use Rattle.sn_rows.specs.declared.device_rows.OwnerRow.{OwnerRow}
use Rattle.sn_rows.specs.declared.key.Key.TheVariants as key
use Rattle.sn_rows.specs.declared.key.Slot.TheVariants.{Asked, Older, Present}
use Rattle.sn_rows.specs.declared.value.Value.{Value}
use Rattle.sn_rows.specs.declared.value.Value.TheVariants as value
use Rattle.sn_string.specs.declared.params.KeySet.{KeySet}
use Rattle.sn_sync.specs.declared.answer.Answer.{Answer}
use Rattle.sn_sync.specs.declared.answer.Answer.TheVariants as answer
use Rattle.sn_sync.specs.declared.answer.Conflict.{Conflict}
use Rattle.sn_sync.specs.declared.item.Item.{Item}
use Rattle.sn_sync.specs.declared.request.Request.{Request}
use Rattle.sn_sync.specs.declared.request.Request.TheVariants as request

-- the account, its session token, the present set and the one that is asked for stay, and the older one stays or goes
pub record KeepsKeys (before after : Rows) : Type 0 where
  pub owner : (was : OwnerRow) → HasOwner before was
      → (now : OwnerRow) × HasOwner after now × (now.identifier ≡ was.identifier) × (now.token ≡ was.token)
  pub present : after (key.Set Present) ≡ before (key.Set Present)
  pub asked : after (key.Set Asked) ≡ before (key.Set Asked)
  pub older : (after (key.Set Older) ≡ before (key.Set Older)) ⊎ (after (key.Set Older) ≡ None)

keeps_same : (rows : Rows) → KeepsKeys rows rows
keeps_same rows = record { owner = λ was has. (was, has, refl, refl); present = refl; asked = refl; older = inl refl }

older_both : (a b c : Option Value) → ((b ≡ a) ⊎ (b ≡ None)) → ((c ≡ b) ⊎ (c ≡ None)) → (c ≡ a) ⊎ (c ≡ None)
older_both a b c one (inr none) = inr none
older_both a b c (inl first) (inl second) = inl (second ∙ first)
older_both a b c (inr none) (inl second) = inr (second ∙ none)

keeps_both : (a b c : Rows) → KeepsKeys a b → KeepsKeys b c → KeepsKeys a c
keeps_both a b c x y = record {
  owner = λ was has. (let mid = x.owner was has in let now = y.owner mid.0 mid.1 in (now.0, now.1, now.2 ∙ mid.2, now.3 ∙ mid.3));
  present = y.present ∙ x.present;
  asked = y.asked ∙ x.asked;
  older = older_both (a (key.Set Older)) (b (key.Set Older)) (c (key.Set Older)) x.older y.older;
}

-- ---- what has such keys has them still

older_slot : (rows now : Rows) (identifier : Bytes) (found : Option KeySet) → ((now (key.Set Older) ≡ rows (key.Set Older)) ⊎ (now (key.Set Older) ≡ None))
    → IsInSlot rows identifier Older found → (kept : Option KeySet) × IsInSlot now identifier Older kept
older_slot rows now identifier found (inl same) is = (found, slot_same rows now identifier Older found same is)
older_slot rows now identifier found (inr none) is = (None, none)

pub keys_kept : (before after : Rows) (identifier token : Bytes) (present : KeySet) → KeepsKeys before after → HasKeys before identifier token present
    → HasKeys after identifier token present
keys_kept before after identifier token present keeps x =
    let now = keeps.owner x.owner x.holds.owned in
    let own : x.owner.identifier ≡ now.0.identifier = sym now.2 in
    let older = older_slot before after x.owner.identifier x.sets.older keeps.older x.holds.before in
    record {
      owner = now.0;
      sets = record { present = x.sets.present; older = older.0; asked = x.sets.asked };
      holds = record {
        owned = now.1;
        in_use = subst (λ (i : Bytes). IsInSlot after i Present (Some x.sets.present)) own
            (slot_same before after x.owner.identifier Present (Some x.sets.present) keeps.present x.holds.in_use);
        before = subst (λ (i : Bytes). IsInSlot after i Older older.0) own older.1;
        wanted = subst (λ (i : Bytes). IsInSlot after i Asked x.sets.asked) own
            (slot_same before after x.owner.identifier Asked x.sets.asked keeps.asked x.holds.wanted);
      };
      identifier_is = now.2 ∙ x.identifier_is;
      token_is = now.3 ∙ x.token_is;
      present_is = x.present_is;
    }

-- ---- what is posted

posted_keeps : (rows : Rows) (numbers : List ℕ) (changes : List Change) → PostsAll rows numbers changes → KeepsKeys rows (rows_after rows changes)
posted_keeps rows numbers changes all =
    let of = posts_items rows numbers changes all in
    record {
      owner = λ was has. (was, beside rows changes key.Owner of (λ e. cc) ∙ has, refl, refl);
      present = beside rows changes (key.Set Present) of (λ e. cc);
      asked = beside rows changes (key.Set Asked) of (λ e. cc);
      older = inl (beside rows changes (key.Set Older) of (λ e. cc));
    }

-- ---- an answer that is applied

-- the device's own row is the one that is put before an older set goes
owner_put : (mid : Rows) (counted : Change) (retired : List Change) (v : Value) → Puts counted key.Owner v → RetiresOlder retired
    → rows_after mid (counted ∷ retired) key.Owner ≡ Some v
owner_put mid counted retired v puts (inl none) =
    ap (λ (cs : List Change). rows_after mid (counted ∷ cs) key.Owner) none ∙ put_here mid counted key.Owner v puts
owner_put mid counted retired v puts (inr (gone, removes, is)) =
    ap (λ (cs : List Change). rows_after mid (counted ∷ cs) key.Owner) is
    ∙ removed_elsewhere (rows_after mid (counted ∷ [])) gone (key.Set Older) key.Owner removes (λ e. cc)
    ∙ put_here mid counted key.Owner v puts

module _ (rows : Rows) (words left : ChaCha) (sent : List Item) (conflicts : List Conflict) (cursor : Option Bytes) (retrieved saved : List Item)
    (token : Bytes) (changes : List Change) (s : Applies rows words sent conflicts cursor retrieved saved token changes left) where
  owner_after : HasOwner (rows_after rows changes) s.counted_is.owner
  owner_after =
      ap (λ (cs : List Change). rows_after rows cs key.Owner) s.changes_are
      ∙ ap (λ (r : Rows). r key.Owner) (after_append rows s.end.changes (s.counted ∷ s.retired))
      ∙ owner_put (rows_after rows s.end.changes) s.counted s.retired (value.Owner s.counted_is.owner) s.counted_is.puts_it
      (retires_older s.end.rows cursor s.sets.older s.retired s.retires)

  pub sync_keeps : KeepsKeys rows (rows_after rows changes)
  sync_keeps =
      let kept = parts_keep rows changes (apply_parts rows words left sent conflicts cursor retrieved saved token changes s) in
      record {
        owner = λ was has.
            (let same : s.owner ≡ was = one_owner rows s.owner was s.holds.owned has in (
              s.counted_is.owner,
              owner_after,
              ap (λ (c : OwnerColumns). c.identifier) s.counted_is.columns_are ∙ ap (λ (o : OwnerRow). o.identifier) same,
              ap (λ (c : OwnerColumns). c.token) s.counted_is.columns_are ∙ ap (λ (o : OwnerRow). o.token) same,
            ));
        present = kept.present;
        asked = kept.asked;
        older = kept.older;
      }

pub applied_keeps : (rows : Rows) (words left : ChaCha) (r : Request) (given : Answer) (changes : List Change)
    → Step rows words (applies r given) changes left → KeepsKeys rows (rows_after rows changes)
applied_keeps rows words left (request.Sync token items limit sync_token cursor_token) (answer.Sync conflicts cursor retrieved saved next) changes step =
    sync_keeps rows words left items conflicts cursor retrieved saved next changes step
applied_keeps rows words left (request.Sync token items limit sync_token cursor_token) (answer.Account other identifier uuid) changes step = absurd step
applied_keeps rows words left (request.Sync token items limit sync_token cursor_token) (answer.Params params) changes step = absurd step
applied_keeps rows words left (request.Sync token items limit sync_token cursor_token) (answer.Refused status tag more) changes step = absurd step
applied_keeps rows words left (request.Register params pw) given changes step = absurd step
applied_keeps rows words left (request.Params identifier) given changes step = absurd step
applied_keeps rows words left (request.SignIn identifier pw) given changes step = absurd step
applied_keeps rows words left (request.ChangePw token current pw cost nonce) given changes step = absurd step

-- ---- rounds

round_keeps : (at : Standing) (round : Round) (after : Standing) → IsRound at round after → KeepsKeys at.rows after.rows
round_keeps at round after x =
    let ready : KeepsKeys at.rows x.ready =
    subst (λ (r : Rows). KeepsKeys at.rows r) (sym x.sends.ready_is) (posted_keeps at.rows round.numbers round.posted x.sends.posts_them) in
    let applied : KeepsKeys x.ready (rows_after x.ready round.applied) =
    applied_keeps x.ready at.words x.left round.request round.given round.applied x.step in
    subst (λ (z : Standing). KeepsKeys at.rows z.rows) (sym x.after_is) (keeps_both at.rows x.ready (rows_after x.ready round.applied) ready applied)

pub rounds_keep : (rounds : List Round) (at after : Standing) → AreRounds at rounds after → KeepsKeys at.rows after.rows
rounds_keep [] at after same = subst (λ (z : Standing). KeepsKeys at.rows z.rows) (sym same) (keeps_same at.rows)
rounds_keep (round ∷ rounds) at after (between, is, later) =
    keeps_both at.rows between.rows after.rows (round_keeps at round between is) (rounds_keep rounds between after later)
