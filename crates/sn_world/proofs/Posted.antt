-- Drafts that are posted keep the invariant.
use Rattle.std.proofs.Common.{◌≡◌, ◌≢◌, ◌⊎◌, ℕ, List, [], ◌∷◌, Option, Some, None, Bool, true, false, refl, sym, ap, ◌∙◌, subst, inl, inr, ⊎_elim}
use Rattle.std.specs.List.{AllZip}
use Rattle.std.specs.Prelude.{IsSome, IsTrue}
use Rattle.std.specs.Str.{bytes_eq}
use Rattle.rand_chacha.specs.ChaCha.{ChaCha}
use Rattle.sn_laws.proofs.Facts.{allowed_to, clash, one_there, same_text, text_same}
use Rattle.sn_laws.specs.Each.{Each}
use Rattle.sn_laws.specs.Lookups.{Bytes, device_named, draft_at, greatest, held_by, is_draft}
use Rattle.sn_laws.specs.Moves.{after, allows, posted_under}
use Rattle.sn_laws.specs.Relation.{IsOnLast}
use Rattle.sn_laws.specs.declared.ideal.Account.{Account}
use Rattle.sn_laws.specs.declared.ideal.Device.{Device}
use Rattle.sn_laws.specs.declared.ideal.Draft.{Draft}
use Rattle.sn_laws.specs.declared.ideal.Ideal.{Ideal}
use Rattle.sn_laws.specs.declared.ideal.Posted.{Posted}
use Rattle.sn_laws.specs.declared.moves.Move.{Move}
use Rattle.sn_laws.specs.declared.moves.Move.TheVariants.{Post}
use Rattle.sn_rows.specs.Facts.{put_elsewhere}
use Rattle.sn_rows.specs.Table.{Rows, rows_after}
use Rattle.sn_rows.specs.declared.body.RowBody.{RowBody}
use Rattle.sn_rows.specs.declared.change.Change.{Change}
use Rattle.sn_rows.specs.declared.device_rows.LocalItem.{LocalItem}
use Rattle.sn_rows.specs.declared.key.Key.TheVariants as key
use Rattle.sn_rows.specs.declared.value.Value.TheVariants as value
use Rattle.sn_shows.proofs.Facts.{holder_of}
use Rattle.sn_shows.specs.Devices.{ShowsDrafted, ShowsPosted}
use Rattle.sn_shows.specs.Laws.{HasAccount, PostKeeps, PostedShows, PutsPosted}
use Rattle.sn_shows.specs.Servers.{stamps_in}
use Rattle.sn_world.proofs.DeviceRows.{first_change, one_local, owner_past, posted_put, then_others, sync_tokens_same, token_same, with_device, with_own}
use Rattle.sn_world.proofs.DeviceSets.{account_is}
use Rattle.sn_world.proofs.Frames.{DeviceFrame, device_kept, live_kept}
use Rattle.sn_world.proofs.HeldSets.{stale_kept}
use Rattle.sn_world.proofs.Pulls.{alike_row, pulls_kept}
use Rattle.sn_world.proofs.ShowsLemmas.{draft_is, find_changed, find_past_changed, holder_from, not_of_device, not_of_item}
use Rattle.sn_world.proofs.Steps.{reached_more}
use Rattle.sn_world.specs.Committing.{AreDifferent, IsPostOf}
use Rattle.sn_world.specs.Holds.{Holds, NumbersOf, StaleOf}
use Rattle.sn_world.specs.Laws.{KeptBy}
use Rattle.sn_device.specs.Laws.{StepsStaySound}
use Rattle.sn_device.specs.Sending.{Posts, PostsAll}
use Rattle.sn_device.specs.States.{Columns, IsSound}
use Rattle.sn_device.specs.Steps.{posts}
use Rattle.sn_world.specs.World.{OnDevice, World}

-- ---- one draft

-- a draft after the post is one from before it, or the one that was sent
draft_before : (s : Ideal) (name uuid other item : Bytes) (number : ℕ) (e : Draft) → greatest 0 (held_by (device_named s name)) ≡ number
    → draft_at (after s (Post name uuid)) other item ≡ Some e → (was : Draft) → draft_at s name uuid ≡ Some was
    → (draft_at s other item ≡ Some e) ⊎ ((other ≡ name) × (posted_under number was ≡ e))
draft_before s name uuid other item number e is_number h was at = by (bytes_eq other name) refl (bytes_eq item uuid) refl
  where
    by : (p : Bool) → bytes_eq other name ≡ p → (q : Bool) → bytes_eq item uuid ≡ q → (draft_at s other item ≡ Some e) ⊎ ((other ≡ name) × (posted_under number was ≡ e))
    by false off q k =
        let apart : other ≢ name = λ same. clash (bytes_eq other name) (text_same other name same) off in
        inl (sym (find_past_changed (is_draft other item) (is_draft name uuid) (posted_under (greatest 0 (held_by (device_named s name))))
        (λ x t. not_of_device name other item x apart (draft_is name uuid x t).0)
        (λ x t. not_of_device name other item (posted_under (greatest 0 (held_by (device_named s name))) x) apart (draft_is name uuid x t).0) s.drafts) ∙ h)
    by true same false off =
        let apart : item ≢ uuid = λ is. clash (bytes_eq item uuid) (text_same item uuid is) off in
        inl (sym (find_past_changed (is_draft other item) (is_draft name uuid) (posted_under (greatest 0 (held_by (device_named s name))))
        (λ x t. not_of_item other uuid item x apart (draft_is name uuid x t).1)
        (λ x t. not_of_item other uuid item (posted_under (greatest 0 (held_by (device_named s name))) x) apart (draft_is name uuid x t).1) s.drafts) ∙ h)
    by true same true is =
        let found : draft_at (after s (Post name uuid)) name uuid ≡ Some (posted_under (greatest 0 (held_by (device_named s name))) was) =
        find_changed (is_draft name uuid) (posted_under (greatest 0 (held_by (device_named s name)))) (λ x. refl) s.drafts was at in
        let here : draft_at (after s (Post name uuid)) name uuid ≡ Some e =
        subst (λ (o : Bytes). draft_at (after s (Post name uuid)) o uuid ≡ Some e) (same_text other name same)
        (subst (λ (u : Bytes). draft_at (after s (Post name uuid)) other u ≡ Some e) (same_text item uuid is) h) in
        let both : posted_under (greatest 0 (held_by (device_named s name))) was ≡ e =
        one_there (posted_under (greatest 0 (held_by (device_named s name))) was) e (draft_at (after s (Post name uuid)) name uuid) found here in
        inr (same_text other name same, subst (λ (k : ℕ). posted_under k was ≡ e) is_number both)

number_set : (number : ℕ) (was x : Draft) (p : Posted) → posted_under number was ≡ x → x.posted ≡ Some p → p.set ≡ Some number
number_set number was x p is posted =
    let sent : (posted_under number was).posted ≡ Some p = ap (λ (z : Draft). z.posted) is ∙ posted in
    cc

on_same : (s : Ideal) (name uuid other : Bytes) (a : Account) (base : Option ℕ) → IsOnLast (after s (Post name uuid)) a other base → IsOnLast s a other base
on_same s name uuid other a None on = on
on_same s name uuid other a (Some stamp) on = on

some_latest : (found : Option RowBody) → IsSome found → found ≢ None
some_latest None some e = absurd (cc)
some_latest (Some b) some e = cc

module _ (shows : PostedShows) (keeps : PostKeeps) (secret : Bytes) (w next : World) (s : Ideal) (h : Holds secret w s) (name : Bytes) (number : ℕ)
    (change : Change) (x : Posts (w.devices name) number change) (sound : IsSound (rows_after (w.devices name) (change ∷ [])))
    (older : StaleOf (rows_after (w.devices name) (change ∷ [])) s name) (on : OnDevice w next name (change ∷ [])) where
  abbrev local : LocalItem
  local = x.local

  abbrev new : LocalItem
  new = x.puts.local

  abbrev rows : Rows
  rows = rows_after (w.devices name) (change ∷ [])

  abbrev later : Ideal
  later = after s (Post name local.uuid)

  own : (d : Device) × (a : Account) × HasAccount s name d a
  own = holder_from (w.devices name) s name (key.Local number) (value.Local local) (h.devices name) x.stands

  abbrev d : Device
  d = own.0

  abbrev a : Account
  a = own.1

  abbrev has : HasAccount s name d a
  has = own.2

  some : local.latest ≢ None
  some = some_latest local.latest x.unsent.0

  drafted : (draft : Draft) × (draft_at s name local.uuid ≡ Some draft) × (draft.posted ≡ None)
  drafted = of (draft_at s name local.uuid) refl ((holder_of (w.devices name) s name d a (h.devices name) has).locals number local x.stands).draft
    where
      none : (found : Option RowBody) (o : Option Posted) → found ≡ None → ShowsPosted a.sets (greatest 0 d.held) local.uuid found o → o ≡ None
      none None None e k = refl
      none None (Some p) e k = absurd k
      none (Some b) o e k = absurd (cc)

      of : (found : Option Draft) → draft_at s name local.uuid ≡ found → ShowsDrafted a.sets (greatest 0 d.held) local found
          → (draft : Draft) × (draft_at s name local.uuid ≡ Some draft) × (draft.posted ≡ None)
      of None e k = absurd (some k.0)
      of (Some draft) e k = (draft, e, none local.posted draft.posted x.unsent.1 k.posted)

  pub legal : IsTrue (allows s (Post name local.uuid))
  legal = allowed_to s (Post name local.uuid) (record {
    account = a;
    draft = drafted.0;
    is = record { has = account_is s name d a has; at = drafted.1 };
    unsent = λ p e. let no : drafted.0.posted ≡ None = drafted.2 in absurd (cc);
  })

  puts_posted : PutsPosted change number local
  puts_posted = record {
    sent = new;
    puts = x.puts.puts;
    uuid_is = ap (λ (c : Columns). c.uuid) x.puts.columns_are;
    kind_is = ap (λ (c : Columns). c.kind) x.puts.columns_are;
    base = ap (λ (c : Columns). c.base) x.puts.columns_are;
    same_body = ap (λ (c : Columns). c.body) x.puts.columns_are;
    stale = ap (λ (c : Columns). c.stale) x.puts.columns_are;
    latest = ap (λ (c : Columns). c.latest) x.puts.columns_are;
    posted = ap (λ (c : Columns). c.posted) x.puts.columns_are;
  }

  numbers : (other : Bytes) → NumbersOf later other
  numbers other e b of uuid draft at p is =
      ⊎_elim
      (λ (old : draft_at s other uuid ≡ Some draft).
      let its = h.numbers other e b (record { device = of.device; account = of.account }) uuid draft old p is in
      (its.0, its.1, λ last. its.2 (on_same s name local.uuid draft.uuid b draft.base last)))
      (λ (new_one : (other ≡ name) × (posted_under (greatest 0 d.held) drafted.0 ≡ draft)).
      let same : e ≡ d = one_there e d (device_named s name) (subst (λ (o : Bytes). device_named s o ≡ Some e) new_one.0 of.device) has.device in
      (greatest 0 d.held, number_set (greatest 0 d.held) drafted.0 draft p new_one.1 is, λ last. ap (λ (z : Device). greatest 0 z.held) (sym same)))
      (draft_before s name local.uuid other uuid (greatest 0 d.held) draft (ap (λ (o : Option Device). greatest 0 (held_by o)) has.device) at drafted.0 drafted.1)

  frame : DeviceFrame secret w rows s later name
  frame = record {
    pulls = pulls_kept (w.devices name) rows s.accounts (device_named s name)
        (alike_row (w.devices name) change number local new x.stands x.puts.puts (ap (λ (c : Columns). c.uuid) x.puts.columns_are)
        (ap (λ (c : Columns). c.base) x.puts.columns_are)) (h.bases_pulled name) (h.pulled name);
    reached = reached_more s (Post name local.uuid) h.reached legal;
    accounts = refl;
    others = λ other off. refl;
    shows = shows (w.devices name) s name number local change (h.devices name) x.stands some x.unsent.1 puts_posted;
    shows_others = λ at other off k. keeps at s name other local.uuid off k;
    sound = sound;
    older_stale = λ e b of. older e b (record { device = of.device; account = of.account });
    numbers = numbers;
    sync_tokens = sync_tokens_same (w.devices name) rows (greatest 0 (stamps_in s.accounts)) (owner_past (w.devices name) change number (value.Local new) x.puts.puts) (h.sync_tokens name);
    own_token = λ e named. token_same secret (w.devices name) rows s.accounts e (owner_past (w.devices name) change number (value.Local new) x.puts.puts) (h.own_tokens name e named);
    tokens = λ t k. k;
    live = λ t n tok session i k.
        live_kept (w.devices name) rows
        (posted_put (w.devices name) change number new x.puts.puts
        (λ was stands posted.
        let same : was ≡ local = one_local was local (w.devices name (key.Local number)) stands x.stands in
        absurd (posted (ap (λ (z : LocalItem). z.posted) same ∙ x.unsent.1))))
        (w.server (key.Item i.uuid)) s.accounts n i k;
  }

  pub posted_one : Holds secret next later
  posted_one = device_kept secret w next s later name (change ∷ []) h on frame

-- ---- all of a commit

-- the others stand as they were
posts_past : (table : Rows) (change : Change) (number other : ℕ) (behind : Change) → Posts table number change → number ≢ other → Posts table other behind
    → Posts (rows_after table (change ∷ [])) other behind
posts_past table change number other behind first apart x = record {
  local = x.local;
  stands = put_elsewhere table change (key.Local number) (key.Local other) (value.Local first.puts.local) first.puts.puts (λ e. apart (cc)) ∙ x.stands;
  unsent = x.unsent;
  puts = x.puts;
}

pub all_past : (table : Rows) (change : Change) (number : ℕ) (numbers : List ℕ) (changes : List Change) → Posts table number change
    → Each (λ other. number ≢ other) numbers → PostsAll table numbers changes → PostsAll (rows_after table (change ∷ [])) numbers changes
all_past table change number [] [] first apart all = tt
all_past table change number [] (c ∷ cs) first apart all = absurd all
all_past table change number (n ∷ ns) [] first apart all = absurd all
all_past table change number (n ∷ ns) (c ∷ cs) first apart all =
    (posts_past table change number n c first apart.0 all.0, all_past table change number ns cs first apart.1 all.1)

says_past : (table : Rows) (name : Bytes) (change : Change) (number : ℕ) (numbers : List ℕ) (moves : List Move) → Posts table number change
    → Each (λ other. number ≢ other) numbers → AllZip (IsPostOf table name) numbers moves → AllZip (IsPostOf (rows_after table (change ∷ [])) name) numbers moves
says_past table name change number [] [] first apart all = tt
says_past table name change number [] (m ∷ ms) first apart all = absurd all
says_past table name change number (n ∷ ns) [] first apart all = absurd all
says_past table name change number (n ∷ ns) (m ∷ ms) first apart (one, rest) = (
  (one.0, put_elsewhere table change (key.Local number) (key.Local n) (value.Local first.puts.local) first.puts.puts (λ e. apart.0 (cc)) ∙ one.1, one.2),
  says_past table name change number ns ms first apart.1 rest,
)

-- a commit that changes nothing
nothing_changed : (secret : Bytes) (w next : World) (s : Ideal) (name : Bytes) → Holds secret w s → OnDevice w next name [] → Holds secret next s
nothing_changed secret w next s name h on = device_kept secret w next s s name [] h on (record {
  reached = h.reached;
  accounts = refl;
  others = λ other off. refl;
  shows = h.devices name;
  shows_others = λ at other off k. k;
  sound = h.sound name;
  older_stale = h.older_stale name;
  numbers = h.numbers;
  own_token = h.own_tokens name;
  sync_tokens = h.sync_tokens name;
  pulls = (h.bases_pulled name, h.pulled name);
  tokens = λ t k. k;
  live = λ t n tok session i k. k;
})

pub posts_all : PostedShows → PostKeeps → StepsStaySound → (secret : Bytes) (words : ChaCha) (numbers : List ℕ) (changes : List Change) (moves : List Move)
    (w next : World) (s : Ideal) (name : Bytes) → Holds secret w s → PostsAll (w.devices name) numbers changes → AreDifferent numbers
    → AllZip (IsPostOf (w.devices name) name) numbers moves → OnDevice w next name changes → KeptBy secret next s moves
posts_all shows keeps stay secret words [] [] [] w next s name h all apart says on = (tt, nothing_changed secret w next s name h on)
posts_all shows keeps stay secret words [] [] (m ∷ ms) w next s name h all apart says on = absurd says
posts_all shows keeps stay secret words [] (c ∷ cs) moves w next s name h all apart says on = absurd all
posts_all shows keeps stay secret words (n ∷ ns) [] moves w next s name h all apart says on = absurd all
posts_all shows keeps stay secret words (n ∷ ns) (c ∷ cs) [] w next s name h all apart says on = absurd says
posts_all shows keeps stay secret words (n ∷ ns) (c ∷ cs) (m ∷ ms) w next s name h (first, rest) apart (said, says) on =
    let mid : World = with_device w name (rows_after (w.devices name) (c ∷ [])) in
    let sound : IsSound (rows_after (w.devices name) (c ∷ [])) = stay (w.devices name) words words (posts (n ∷ [])) (c ∷ []) (h.sound name) ((first, tt), refl) in
    let older : StaleOf (rows_after (w.devices name) (c ∷ [])) s name = stale_kept secret w s h name words words (posts (n ∷ [])) (c ∷ []) tt ((first, tt), refl) in
    let one : Holds secret mid (after s (Post name first.local.uuid)) =
    posted_one shows keeps secret w mid s h name n c first sound older (first_change w name c) in
    let local : said.0 ≡ first.local = one_local said.0 first.local (w.devices name (key.Local n)) said.1 first.stands in
    let move : Post name first.local.uuid ≡ m = ap (λ (l : LocalItem). Post name l.uuid) (sym local) ∙ sym said.2 in
    let own : rows_after (w.devices name) (c ∷ []) ≡ mid.devices name = sym (with_own w name (rows_after (w.devices name) (c ∷ []))) in
    let behind : KeptBy secret next (after s (Post name first.local.uuid)) ms =
    posts_all shows keeps stay secret words ns cs ms mid next (after s (Post name first.local.uuid)) name one
    (subst (λ (r : Rows). PostsAll r ns cs) own (all_past (w.devices name) c n ns cs first apart.0 rest)) apart.1
    (subst (λ (r : Rows). AllZip (IsPostOf r name) ns ms) own (says_past (w.devices name) name c n ns ms first apart.0 says)) (then_others w next name c cs on) in
    subst (λ (x : Move). KeptBy secret next s (x ∷ ms)) move
    ((legal shows keeps secret w mid s h name n c first sound older (first_change w name c), behind.0), behind.1)
