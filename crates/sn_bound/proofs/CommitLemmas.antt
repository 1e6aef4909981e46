-- A device without drafts posts nothing, and answers to its syncs make no draft.
use Rattle.std.proofs.Common.{◌≡◌, ◌⊎◌, ◌+◌, ℕ, Bool, true, false, List, [], ◌∷◌, ◌++◌, length, Option, Some, None, refl, sym, ap, ◌∙◌, subst, inl, inr, append_assoc, arith}
use Rattle.std.specs.List.{Contains, flat_map}
use Rattle.std.specs.Prelude.{IsSome}
use Rattle.std.proofs.lemmas.List.Elements.{Contains-append_left, Contains-append_right, Contains-push}
use Rattle.rand_chacha.specs.ChaCha.{ChaCha}
use Rattle.sn_bound.specs.Commits.{ChangesCommit, HasNoDraft, commits_in}
use Rattle.sn_device.proofs.Facts.{adopted, after_append, apply_parts, left_row, looked, applied_leads}
use Rattle.sn_device.specs.Runs.{Act, AreRounds, IsDone, IsRound, Round, Standing, acts_of}
use Rattle.sn_device.specs.Sending.{AreUnsent, Numbered, PostsAll, PutsColumns}
use Rattle.sn_device.specs.States.{Bytes, Columns, HasLocal, columns}
use Rattle.sn_device.specs.Steps.{Applies, AppliesAnswer, AppliesTo, Asks, Step, adopts, start}
use Rattle.sn_device.specs.Taking.{MakesRow, Meets, Progress, Renames, Takes, TakesAll, TakesBody, TakesOwn, TakesServer, TakesUnsaved, Told, is_conflict, is_retrieved, is_saved, told_by}
use Rattle.sn_conflict.specs.declared.meeting.Meeting.{Meeting}
use Rattle.sn_conflict.specs.declared.meeting.Meeting.TheVariants as meeting
use Rattle.sn_ready.specs.Passwds.{ChangeCounts}
use Rattle.sn_rekey.specs.Rekeying.{RewrapsPlace}
use Rattle.sn_rows.specs.Facts.{put_elsewhere}
use Rattle.sn_rows.specs.Table.{Removes, Rows, rows_after}
use Rattle.sn_rows.specs.declared.body.RowBody.{RowBody}
use Rattle.sn_rows.specs.declared.change.Change.{Change}
use Rattle.sn_rows.specs.declared.device_rows.LocalItem.{LocalItem}
use Rattle.sn_rows.specs.declared.key.Key.TheVariants as key
use Rattle.sn_rows.specs.declared.key.Slot.TheVariants.{Asked}
use Rattle.sn_rows.specs.declared.value.Value.TheVariants as value
use Rattle.sn_sets.specs.declared.sets.Sets.{Sets}
use Rattle.sn_string.specs.declared.params.KeySet.{KeySet}
use Rattle.sn_sync.specs.declared.answer.Answer.{Answer}
use Rattle.sn_sync.specs.declared.answer.Answer.TheVariants as answer
use Rattle.sn_sync.specs.declared.answer.Conflict.{Conflict}
use Rattle.sn_sync.specs.declared.answer.Conflict.TheVariants as conflict
use Rattle.sn_sync.specs.declared.item.Body.{Body}
use Rattle.sn_sync.specs.declared.item.Body.TheVariants as body
use Rattle.sn_sync.specs.declared.item.Item.{Item}
use Rattle.sn_sync.specs.declared.request.Request.{Request}

-- ---- one change

put_none : (rows : Rows) (c : Change) (at : ℕ) (cs : Columns) → PutsColumns c at cs → cs.latest ≡ None → HasNoDraft rows → HasNoDraft (rows_after rows (c ∷ []))
put_none rows c at cs put is none n l found = by (looked rows c at cs put n l found)
  where
    by : ((n ≡ at) × (columns l ≡ cs)) ⊎ HasLocal rows n l → l.latest ≡ None
    by (inl (number, same)) = ap (λ (x : Columns). x.latest) same ∙ is
    by (inr before) = none n l before

removed_none : (rows : Rows) (c : Change) (at : ℕ) → Removes c (key.Local at) → HasNoDraft rows → HasNoDraft (rows_after rows (c ∷ []))
removed_none rows c at removes none n l found = none n l (left_row rows c at removes n l found)

same_none : (p q : Progress) → q ≡ p → HasNoDraft p.rows → HasNoDraft q.rows
same_none p q e none = subst (λ (x : Progress). HasNoDraft x.rows) (sym e) none

-- ---- one version

module _ (sets : Sets) (saved : List Item) where
  body_none : (p : Progress) (number : ℕ) (i : Item) (b : Body) (latest posted : Option RowBody) (q : Progress) → latest ≡ None
      → TakesBody sets p number i b latest posted q → HasNoDraft p.rows → HasNoDraft q.rows
  body_none p number i body.Deleted latest posted q is (c, removes, e) none =
      subst (λ (x : Progress). HasNoDraft x.rows) (sym e) (removed_none p.rows c number removes none)
  body_none p number i (body.Strings content enc) latest posted q is (cs, left, c, stands, put, e) none =
      subst (λ (x : Progress). HasNoDraft x.rows) (sym e) (put_none p.rows c number cs put (stands.latest_is ∙ is) none)

  meets_none : (p : Progress) (number : ℕ) (local : LocalItem) (i : Item) (how : Meeting) (q : Progress) → local.latest ≡ None
      → Meets sets p number local i how q → HasNoDraft p.rows → HasNoDraft q.rows
  meets_none p number local i meeting.Same q is m none = same_none p q m none
  meets_none p number local i meeting.Take q is m none = body_none p number i i.body None None q refl m none
  meets_none p number local i (meeting.Own true) q is m none = body_none p number i i.body None None q refl m none
  meets_none p number local i (meeting.Own false) q is m none = body_none p number i i.body local.latest None q is m none
  meets_none p number local i meeting.GiveWay q is m none = body_none p number i i.body None None q refl m none
  meets_none p number local i meeting.Fork q is (r, copy, takes) none = absurd (let some = copy.drafted in cc)

  makes_none : (p : Progress) (i : Item) (b : Body) (q : Progress) → MakesRow sets p i b q → HasNoDraft p.rows → HasNoDraft q.rows
  makes_none p i body.Deleted q m none = same_none p q m none
  makes_none p i (body.Strings content enc) q (room, cs, left, c, stands, put, e) none =
      subst (λ (x : Progress). HasNoDraft x.rows) (sym e) (put_none p.rows c p.next cs put stands.latest_is none)

  server_none : (p : Progress) (i : Item) (flag : Bool) (q : Progress) → TakesServer sets p i flag q → HasNoDraft p.rows → HasNoDraft q.rows
  server_none p i flag q (inl (number, local, how, stands, met, does)) none = meets_none p number local i how q (none number local stands.0) does none
  server_none p i flag q (inr (free, makes)) none = makes_none p i i.body q makes none

  renames_none : (p : Progress) (number : ℕ) (local : LocalItem) (latest : Option RowBody) (q : Progress) → latest ≡ None
      → Renames sets p number local latest q → HasNoDraft p.rows → HasNoDraft q.rows
  renames_none p number local None q is m none = same_none p q m none
  renames_none p number local (Some version) q is m none = absurd (cc)

  unsaved_none : (p : Progress) (number : ℕ) (local : LocalItem) (k : Conflict) (q : Progress) → local.latest ≡ None → TakesUnsaved sets p number local k q
      → HasNoDraft p.rows → HasNoDraft q.rows
  unsaved_none p number local (conflict.Sync server) q is m none = absurd m
  unsaved_none p number local (conflict.Uuid unsaved) q is m none = renames_none p number local local.latest q is m none
  unsaved_none p number local (conflict.Content unsaved) q is (c, put, e) none =
      subst (λ (x : Progress). HasNoDraft x.rows) (sym e) (put_none p.rows c number _ put is none)

  own_none : (p : Progress) (uuid : Bytes) (k : Conflict) (q : Progress) → TakesOwn sets p uuid k q → HasNoDraft p.rows → HasNoDraft q.rows
  own_none p uuid k q (inl (number, local, stands, does)) none = unsaved_none p number local k q (none number local stands.0) does none
  own_none p uuid k q (inr (free, e)) none = same_none p q e none

  told_none : (p : Progress) (t : Told) (q : Progress) → Takes sets saved p t q → HasNoDraft p.rows → HasNoDraft q.rows
  told_none p (is_saved i) q m none = server_none p i true q m none
  told_none p (is_conflict (conflict.Sync server)) q m none = server_none p server false q m none
  told_none p (is_conflict (conflict.Uuid unsaved)) q m none = own_none p unsaved.uuid (conflict.Uuid unsaved) q m none
  told_none p (is_conflict (conflict.Content unsaved)) q m none = own_none p unsaved.uuid (conflict.Content unsaved) q m none
  told_none p (is_retrieved i) q (inl (again, e)) none = same_none p q e none
  told_none p (is_retrieved i) q (inr (first, m)) none = server_none p i false q m none

  all_none : (ts : List Told) (p q : Progress) → TakesAll sets saved p ts q → HasNoDraft p.rows → HasNoDraft q.rows
  all_none [] p q e none = same_none p q e none
  all_none (t ∷ ts) p q (r, takes, later) none = all_none ts r q later (told_none p t r takes none)

-- ---- an answer

-- each item's row behind an answer is that which all that the answer tells leaves
pub local_then : (rows : Rows) (words left : ChaCha) (sent : List Item) (conflicts : List Conflict) (cursor : Option Bytes) (retrieved saved : List Item)
    (token : Bytes) (changes : List Change) → (s : Applies rows words sent conflicts cursor retrieved saved token changes left) → (n : ℕ)
    → rows_after rows changes (key.Local n) ≡ s.end.rows (key.Local n)
local_then rows words left sent conflicts cursor retrieved saved token changes s n =
    let parts = apply_parts rows words left sent conflicts cursor retrieved saved token changes s in
    let leads = applied_leads rows words left sent conflicts cursor retrieved saved token changes s in
    ap (λ (cs : List Change). rows_after rows cs (key.Local n)) s.changes_are
    ∙ ap (λ (r : Rows). r (key.Local n)) (after_append rows s.end.changes (s.counted ∷ s.retired)) ∙ parts.ends.items n
    ∙ ap (λ (r : Rows). r (key.Local n)) (sym leads.rows_are)

answered_none : (rows : Rows) (words left : ChaCha) (sent : List Item) (given : Answer) (changes : List Change)
    → AppliesAnswer rows words sent given changes left → HasNoDraft rows → HasNoDraft (rows_after rows changes)
answered_none rows words left sent (answer.Sync conflicts cursor retrieved saved token) changes s none =
    λ n l found. all_none s.sets saved (told_by saved conflicts retrieved) (start rows s.owner words) s.end s.taken none n l
    (sym (local_then rows words left sent conflicts cursor retrieved saved token changes s n) ∙ found)
answered_none rows words left sent (answer.Account token identifier uuid) changes s none = absurd s
answered_none rows words left sent (answer.Params params) changes s none = absurd s
answered_none rows words left sent (answer.Refused status tag more) changes s none = absurd s

-- ---- an exchange

unsent_none : (chosen : List Numbered) (numbers : List ℕ) → ((w : Numbered) → Contains chosen w → w.1.latest ≡ None) → AreUnsent chosen numbers → numbers ≡ []
unsent_none [] numbers none are = are
unsent_none (w ∷ chosen) numbers none (inl (unsent, are)) =
    absurd (let e = subst IsSome (none w (Contains-append_left (w ∷ []) chosen w (Contains-push [] w))) unsent.0 in cc)
unsent_none (w ∷ chosen) numbers none (inr (sent, are)) =
    unsent_none chosen numbers (λ v has. none v (Contains-append_right (w ∷ []) chosen v has)) are

nothing_posted : (rows : Rows) (numbers : List ℕ) (posted : List Change) → numbers ≡ [] → PostsAll rows numbers posted → posted ≡ []
nothing_posted rows [] [] is all = refl
nothing_posted rows [] (c ∷ posted) is all = absurd all
nothing_posted rows (n ∷ ns) posted is all = absurd (cc)

module _ (at after : Standing) (round : Round) (is : IsRound at round after) (none : HasNoDraft at.rows) where
  pub posts_none : round.numbers ≡ []
  posts_none =
      unsent_none is.sends.chosen round.numbers
      (λ w has. none w.0 w.1 ((is.sends.chosen_are.all.whole w.0 w.1).0 (Contains-append_left is.sends.chosen is.sends.later w has)).0) is.sends.unsent

  abbrev items : List Item
  items = is.sends.request_is.items

  pub stays_none : HasNoDraft after.rows
  stays_none =
      let ready_is : is.ready ≡ at.rows =
      is.sends.ready_is ∙ ap (rows_after at.rows) (nothing_posted at.rows round.numbers round.posted posts_none is.sends.posts_them) in
      subst (λ (z : Standing). HasNoDraft z.rows) (sym is.after_is)
      (answered_none is.ready at.words is.left items round.given round.applied
      (subst (λ (r : Request). AppliesTo is.ready at.words r round.given round.applied is.left) is.sends.request_is.request_is is.step)
      (subst HasNoDraft (sym ready_is) none))

-- ---- counts

commits_of : (numbers : List ℕ) (posted : List Change) (r : Request) (given : Answer) (applied : List Change) (acts : List Act) → numbers ≡ []
    → commits_in (acts_of (record { numbers = numbers; posted = posted; request = r; given = given; applied = applied }) ++ acts) ≡ 1 + commits_in acts
commits_of [] posted r given applied acts is = refl
commits_of (n ∷ ns) posted r given applied acts is = absurd (cc)

-- of a row of exchanges of a device without drafts each exchange commits once
pub commits_of_row : (rounds : List Round) (at after : Standing) (acts : List Act) → HasNoDraft at.rows → AreRounds at rounds after
    → commits_in (flat_map acts_of rounds ++ acts) ≡ length rounds + commits_in acts
commits_of_row [] at after acts none are = omega arith
commits_of_row (round ∷ rounds) at after acts none (between, is, rest) =
    let parts : (acts_of round ++ flat_map acts_of rounds) ++ acts ≡ acts_of round ++ (flat_map acts_of rounds ++ acts) =
    append_assoc (acts_of round) (flat_map acts_of rounds) acts in
    let one = commits_of round.numbers round.posted round.request round.given round.applied (flat_map acts_of rounds ++ acts)
    (posts_none at between round is none) in
    let more = commits_of_row rounds between after acts (stays_none at between round is none) rest in
    let whole : commits_in (flat_map acts_of (round ∷ rounds) ++ acts) ≡ 1 + commits_in (flat_map acts_of rounds ++ acts) = ap commits_in parts ∙ one in
    omega arith

-- ---- the change

none_again : (sets : Sets) (set : KeySet) (words : ChaCha) (uuid : Bytes) (again : Bool) (before after : Option RowBody) (left : ChaCha)
    → RewrapsPlace sets set words uuid again before after left → before ≡ None → after ≡ None
none_again sets set words uuid true before after left x is = absurd (let some = x.given_is in cc)
none_again sets set words uuid false before after left x is = x.same ∙ is

asked_none : (rows : Rows) (set : KeySet) (kept : List Change) → Asks rows set kept → HasNoDraft rows → HasNoDraft (rows_after rows kept)
asked_none rows set kept a none n l found =
    none n l
    (sym (put_elsewhere rows a.change (key.Set Asked) (key.Local n) (value.Set a.put.keys) a.put.puts (λ e. cc))
    ∙ ap (λ (cs : List Change). rows_after rows cs (key.Local n)) (sym a.changes_are) ∙ found)

adopted_none : (rows : Rows) (words left : ChaCha) (set : KeySet) (token : Bytes) (changes : List Change) → Step rows words (adopts set token) changes left
    → HasNoDraft rows → HasNoDraft (rows_after rows changes)
adopted_none rows words left set token changes a none n l found =
    let d = (adopted rows words left set token changes a).items n l found in
    let r = d.2.rekeys in
    none_again a.sets set r.second d.0.uuid r.latest_again d.0.latest l.latest r.third r.latest_is (none n d.0 d.1)

waits_none : (found : Option RowBody) → ¬ (IsSome found) → found ≡ None
waits_none None not = refl
waits_none (Some version) not = absurd (not refl)

done_none : (rows : Rows) (last : Option Answer) → IsDone rows last → HasNoDraft rows
done_none rows None done = absurd done
done_none rows (Some (answer.Sync conflicts cursor retrieved saved token)) done =
    λ n l found. waits_none l.latest (λ some. done.1 n l found (inl some))
done_none rows (Some (answer.Account token identifier uuid)) done = absurd done
done_none rows (Some (answer.Params params)) done = absurd done
done_none rows (Some (answer.Refused status tag more)) done = absurd done

pub changes_commit : ChangeCounts → ChangesCommit
changes_commit counts password cost server rows words acts fates halt none x c =
    let b = x.first.behind in
    let first : commits_in acts ≡ length b.rounds + commits_in b.later =
    ap commits_in b.acts_are ∙ commits_of_row b.rounds (record { rows = rows; words = words; last = None }) b.at b.later none b.went in
    let m = c.is_made.makes in
    let change : commits_in b.later ≡ 1 + commits_in m.change.later = ap commits_in m.change.acts_are in
    let adopt : commits_in m.change.later ≡ 1 + commits_in c.is_made.later = ap commits_in c.is_made.later_is in
    let d = c.second.behind in
    let none_then =
    adopted_none (rows_after b.at.rows m.change.kept) m.change.left m.left m.change.set m.token m.adopted m.step
    (asked_none b.at.rows m.change.set m.change.kept m.change.keeps.0 (done_none b.at.rows b.at.last x.first.done)) in
    let second : commits_in c.is_made.later ≡ length d.rounds + commits_in d.later =
    ap commits_in d.acts_are ∙ commits_of_row d.rounds _ d.at d.later none_then d.went in
    let no_more : commits_in d.later ≡ 0 = ap commits_in c.no_more in
    let requests = counts password cost server rows words acts fates halt x c in
    omega arith
