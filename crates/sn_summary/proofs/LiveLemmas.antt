-- The items that aren't deleted, move by move.
use Rattle.std.proofs.Common.{◌≡◌, ◌≢◌, ℕ, List, [], ◌∷◌, length, Option, Some, None, Bool, true, false, cond, Less, refl, sym, ap, ◌∙◌, subst, ⊎_elim}
use Rattle.std.specs.Prelude.{◌↔◌, if◌then◌else◌, is_some, IsTrue}
use Rattle.std.specs.BTreeMap.{is_at}
use Rattle.std.specs.BTreeSet.{BTreeSet, IsOrdered, contains, keys}
use Rattle.std.specs.List.{AllByRecursion}
use Rattle.std.specs.List.Sorted.{IsStrictlySortedBy}
use Rattle.std.specs.Ordering.{is_eq}
use Rattle.std.specs.Str.{bytes_eq}
use Rattle.std.proofs.lemmas.Map.Text.{is_eq-slice_cmp}
use Rattle.sn_laws.specs.Each.{Each, One}
use Rattle.sn_laws.specs.Lookups.{Bytes, empty, has_item, is_account, last_of}
use Rattle.sn_laws.specs.Moves.{after, allows, body_under, changed_where, registered, resealed, sent_content, version_of}
use Rattle.sn_laws.specs.Reached.{AllDiffer, HasItem}
use Rattle.sn_laws.specs.Relation.{IsLive, NamesSet, MayAccept, MayRewrap}
use Rattle.sn_laws.specs.Runs.{Legal, end}
use Rattle.sn_laws.specs.declared.ideal.Account.{Account}
use Rattle.sn_laws.specs.declared.ideal.Body.{Body}
use Rattle.sn_laws.specs.declared.ideal.Body.TheVariants.{Under, Gone}
use Rattle.sn_laws.specs.declared.ideal.Content.{Content}
use Rattle.sn_laws.specs.declared.ideal.Content.TheVariants.{Plain, Deleted}
use Rattle.sn_laws.specs.declared.ideal.Ideal.{Ideal}
use Rattle.sn_laws.specs.declared.ideal.Version.{Version}
use Rattle.sn_laws.specs.declared.moves.Move.{Move}
use Rattle.sn_laws.specs.declared.moves.Move.TheVariants.{Register, Join, Edit, Drop, Post, Unpost, Accept, Rewrap, Settle, SettlePosted, Fork, Rename, GiveWay, Change, Retire}
use Rattle.sn_laws.proofs.Facts.{Gains, accept_gains, allowed_from, clash, end_from-append, found_passes, free_has, last_item, last_other, last_own, legal_after, legal_before, more, more_sets, one_from, one_owner, rewrap_gains, same_text, sealed_again, text_same}
use Rattle.sn_string.specs.declared.params.KeySet.{KeySet}
use Rattle.sn_summary.specs.Items.{AreLiveItems, IsLiveItem}
use Rattle.sn_summary.specs.Walks.{HoldsLive, NotesLive, uuid_cmp}
use Rattle.sn_summary.proofs.Lists.{any_of, each_of, one_came, one_front, one_goes, one_last, one_split}

-- ---- an account gets a version of an item

-- another item is as it was
other_before : (accounts : List Account) (q : Account → Bool) (w : Version) (item : Bytes) → w.uuid ≢ item
    → IsLiveItem (changed_where q (more w) accounts) item → IsLiveItem accounts item
other_before accounts q w item differs h =
    let came = one_came q (more w) accounts h.account h.among in
    record {
      account = came.0;
      version = h.version;
      among = came.1;
      last = ⊎_elim (λ e. ap (λ (a : Account). last_of item a.versions) (sym e.1) ∙ h.last)
          (λ e. sym (last_other item came.0.versions w differs) ∙ ap (λ (a : Account). last_of item a.versions) (sym e.1) ∙ h.last) came.2;
      live = h.live;
    }

other_after : (accounts : List Account) (q : Account → Bool) (w : Version) (item : Bytes) → w.uuid ≢ item
    → IsLiveItem accounts item → IsLiveItem (changed_where q (more w) accounts) item
other_after accounts q w item differs h = record {
  account = if q h.account then more w h.account else h.account;
  version = h.version;
  among = one_goes q (more w) accounts h.account h.among;
  last = at (q h.account);
  live = h.live;
}
  where
    at : (b : Bool) → last_of item (if b then more w h.account else h.account).versions ≡ Some h.version
    at true = last_other item h.account.versions w differs ∙ h.last
    at false = h.last

-- the item itself has that version as its last
own_after : (s : Ideal) (item : Bytes) (a : Account) (w : Version) (next : List Account) → Gains s item a w next → IsLive w.body → IsLiveItem next item
own_after s item a w next g live =
    subst (λ accounts. IsLiveItem accounts item) (sym g.next_is)
    (record {
      account = more w a;
      version = w;
      among = subst (λ x. One (λ y. y ≡ x) (changed_where (is_account a.identifier) (more w) s.accounts))
          (ap (λ b. if b then more w a else a) (text_same a.identifier a.identifier refl))
          (one_goes (is_account a.identifier) (more w) s.accounts a g.among);
      last = last_own item a.versions w g.item;
      live = live;
    })

-- no other account has the item
apart : (ms : List Move) (item : Bytes) (a : Account) (w : Version) (next : List Account) → Legal ms → Gains (end ms) item a w next
    → (b : Account) → One (λ x. x ≡ b) (end ms).accounts → is_account a.identifier b ≡ false → HasItem item b → ⊥
apart ms item a w next legal g b there off has =
    ⊎_elim (λ free. free_has (end ms) item b free there has)
    (λ own. clash (is_account a.identifier b)
    (text_same b.identifier a.identifier (one_owner ms item b a legal there g.among has own)) off) g.owned

own_before : (ms : List Move) (item : Bytes) (a : Account) (w : Version) (next : List Account) → Legal ms → Gains (end ms) item a w next
    → IsLiveItem next item → IsLive w.body
own_before ms item a w next legal g h =
    let was : IsLiveItem (changed_where (is_account a.identifier) (more w) (end ms).accounts) item =
    subst (λ accounts. IsLiveItem accounts item) g.next_is h in
    let came = one_came (is_account a.identifier) (more w) (end ms).accounts was.account was.among in
    ⊎_elim
    (λ e. absurd (apart ms item a w next legal g came.0 came.1 e.0
    (last_item item came.0.versions was.version (ap (λ (x : Account). last_of item x.versions) (sym e.1) ∙ was.last))))
    (λ e.
    let same : Some w ≡ Some was.version =
    sym (last_own item came.0.versions w g.item) ∙ ap (λ (x : Account). last_of item x.versions) (sym e.1) ∙ was.last in
    let is : was.version ≡ w = cc in
    subst (λ (v : Version). IsLive v.body) is was.live) came.2

-- ---- what the set has behind it

tested : (uuid item : Bytes) → is_at (uuid_cmp uuid) item ≡ bytes_eq uuid item
tested uuid item = is_eq-slice_cmp uuid item

differ : (uuid item : Bytes) → bytes_eq uuid item ≡ false → uuid ≢ item
differ uuid item e k = clash (bytes_eq uuid item) (text_same uuid item k) e

both : {A B C : Type 0} → A ↔ B → B ↔ C → A ↔ C
both h k = (λ a. k.0 (h.0 a), λ c. h.1 (k.1 c))

gained : (ms : List Move) (uuid : Bytes) (a : Account) (w : Version) (next : List Account) (old new : BTreeSet Bytes) (live : Bool)
    → Legal ms → Gains (end ms) uuid a w next → IsTrue live ↔ IsLive w.body
    → ((item : Bytes) → contains uuid_cmp new item ≡ cond (is_at (uuid_cmp uuid) item) live (contains uuid_cmp old item))
    → HoldsLive old (end ms).accounts → HoldsLive new next
gained ms uuid a w next old new live legal g tells updates h item = at (bytes_eq uuid item) refl
  where
    is : (b : Bool) → bytes_eq uuid item ≡ b → contains uuid_cmp new item ≡ cond b live (contains uuid_cmp old item)
    is b e = updates item ∙ ap (λ c. cond c live (contains uuid_cmp old item)) (tested uuid item ∙ e)

    at : (b : Bool) → bytes_eq uuid item ≡ b → IsTrue (contains uuid_cmp new item) ↔ IsLiveItem next item
    at true e =
        let same : uuid ≡ item = same_text uuid item e in
        let own : IsLive w.body ↔ IsLiveItem next item =
        subst (λ u. IsLive w.body ↔ IsLiveItem next u) same
        (λ l. own_after (end ms) uuid a w next g l, λ l. own_before ms uuid a w next legal g l) in
        (λ k. own.0 (tells.0 (sym (is true e) ∙ k)), λ k. is true e ∙ tells.1 (own.1 k))
    at false e =
        let off : w.uuid ≢ item = λ k. differ uuid item e (sym g.item ∙ k) in (
          λ k. subst (λ accounts. IsLiveItem accounts item) (sym g.next_is)
              (other_after (end ms).accounts (is_account a.identifier) w item off ((h item).0 (sym (is false e) ∙ k))),
          λ k. is false e
              ∙ (h item).1 (other_before (end ms).accounts (is_account a.identifier) w item off (subst (λ accounts. IsLiveItem accounts item) g.next_is k)),
        )

-- ---- each kind of move

said_live : (c : Content) (n : ℕ) (under : Option ℕ) (live : Bool) → live ≡ is_some under → NamesSet n c under → IsTrue live ↔ IsLive (body_under c n)
said_live (Plain text) n under live is said = (λ k. tt {0}, λ k. is ∙ ap (λ o. is_some o) said)
said_live Deleted n under live is said = (λ k. clash live k (is ∙ ap (λ o. is_some o) said), λ k. absurd k)

accepted_live : (s : Ideal) (device uuid : Bytes) (stamp : ℕ) (under : Option ℕ) (live : Bool) → live ≡ is_some under
    → (may : MayAccept s device uuid stamp under) → IsTrue live ↔ IsLive (version_of stamp (length may.account.sets) may.draft).body
accepted_live s device uuid stamp under live is may =
    subst (λ p. IsTrue live ↔ IsLive (body_under (sent_content may.draft.latest p) (length may.account.sets))) (sym may.sent)
    (said_live may.posted.content (length may.account.sets) under live is may.said)

-- a move behind others
behind : (old new : BTreeSet Bytes) (m : Move)
    → ((ms : List Move) → Legal ms → IsTrue (allows (end ms) m) → HoldsLive old (end ms).accounts → HoldsLive new (after (end ms) m).accounts)
    → NotesLive old new m
behind old new m f ms legal h =
    subst (λ (s : Ideal). HoldsLive new s.accounts) (sym (end_from-append empty ms (m ∷ [])))
    (f ms (legal_before empty ms (m ∷ []) legal) (legal_after empty ms (m ∷ []) legal).0 h)

pub accept_noted : (old new : BTreeSet Bytes) (device uuid : Bytes) (stamp : ℕ) (under : Option ℕ) (live : Bool) → live ≡ is_some under
    → ((item : Bytes) → contains uuid_cmp new item ≡ cond (is_at (uuid_cmp uuid) item) live (contains uuid_cmp old item))
    → NotesLive old new (Accept device uuid stamp under)
accept_noted old new device uuid stamp under live is updates =
    behind old new (Accept device uuid stamp under)
    (λ ms legal may h.
    let m : MayAccept (end ms) device uuid stamp under = allowed_from (end ms) (Accept device uuid stamp under) may in
    gained ms uuid m.account (version_of stamp (length m.account.sets) m.draft) (after (end ms) (Accept device uuid stamp under)).accounts old new live legal
    (accept_gains (end ms) device uuid stamp under m) (accepted_live (end ms) device uuid stamp under live is m) updates h)

-- an item that is sealed again isn't deleted, before and after

sealed_live : (n stamp : ℕ) (v : Version) → IsLive v.body → IsLive (sealed_again stamp n v).body
sealed_live n stamp v h = at v.body h
  where
    at : (b : Body) → IsLive b → IsLive (resealed n b)
    at (Under text set) k = tt {0}
    at Gone k = k

has_it : (uuid item : Bytes) (live : BTreeSet Bytes) → contains uuid_cmp live uuid ≡ true
    → contains uuid_cmp live item ≡ cond (is_at (uuid_cmp uuid) item) true (contains uuid_cmp live item)
has_it uuid item live h = at (bytes_eq uuid item) refl
  where
    at : (b : Bool) → bytes_eq uuid item ≡ b → contains uuid_cmp live item ≡ cond (is_at (uuid_cmp uuid) item) true (contains uuid_cmp live item)
    at true e =
        ap (λ u. contains uuid_cmp live u) (sym (same_text uuid item e)) ∙ h
        ∙ sym (ap (λ c. cond c true (contains uuid_cmp live item)) (tested uuid item ∙ e))
    at false e = sym (ap (λ c. cond c true (contains uuid_cmp live item)) (tested uuid item ∙ e))

rewrapped_holds : (ms : List Move) (uuid : Bytes) (stamp under : ℕ) (live : BTreeSet Bytes) → Legal ms → IsTrue (allows (end ms) (Rewrap uuid stamp under))
    → HoldsLive live (end ms).accounts → HoldsLive live (after (end ms) (Rewrap uuid stamp under)).accounts
rewrapped_holds ms uuid stamp under live legal may h =
    let m : MayRewrap (end ms) uuid stamp under = allowed_from (end ms) (Rewrap uuid stamp under) may in
    let there : One (λ x. x ≡ m.account) (end ms).accounts = (found_passes (has_item uuid) (end ms).accounts m.account m.has).1 in
    let item : IsLiveItem (end ms).accounts uuid =
    record { account = m.account; version = m.version; among = there; last = m.last; live = m.live } in
    let again : IsLive (sealed_again stamp (length m.account.sets) m.version).body = sealed_live (length m.account.sets) stamp m.version m.live in
    gained ms uuid m.account (sealed_again stamp (length m.account.sets) m.version) (after (end ms) (Rewrap uuid stamp under)).accounts live live true legal
    (rewrap_gains (end ms) uuid stamp under m) (λ k. again, λ k. refl) (λ q. has_it uuid q live ((h uuid).1 item)) h

-- an account begins, without versions

no_last : (item : Bytes) (v : Version) (a : Account) → a.versions ≡ [] → last_of item a.versions ≡ Some v → ⊥
no_last item v a none is = let e : None ≡ Some v = sym (ap (λ vs. last_of item vs) none) ∙ is in cc

abbrev begins : Bytes → KeySet → Account
begins identifier set = record { identifier = identifier; sets = set ∷ []; versions = [] }

begun : (accounts : List Account) (identifier : Bytes) (set : KeySet) (item : Bytes)
    → IsLiveItem accounts item ↔ IsLiveItem (registered accounts identifier set) item
begun accounts identifier set item = (
  λ h. record {
    account = h.account;
    version = h.version;
    among = one_front (λ x. x ≡ h.account) accounts (begins identifier set ∷ []) h.among;
    last = h.last;
    live = h.live;
  },
  λ h. record {
    account = h.account;
    version = h.version;
    among = ⊎_elim (λ e. e)
        (λ e. absurd (no_last item h.version h.account (ap (λ (a : Account). a.versions) (sym (one_last (λ x. x ≡ h.account) (begins identifier set) e))) h.last))
        (one_split (λ x. x ≡ h.account) accounts (begins identifier set ∷ []) h.among);
    last = h.last;
    live = h.live;
  },
)

-- an account gets a set

same_versions : (q : Bool) (set : KeySet) (a : Account) → (if q then more_sets set a else a).versions ≡ a.versions
same_versions true set a = refl
same_versions false set a = refl

changed : (accounts : List Account) (q : Account → Bool) (set : KeySet) (item : Bytes)
    → IsLiveItem accounts item ↔ IsLiveItem (changed_where q (more_sets set) accounts) item
changed accounts q set item = (
  λ h. record {
    account = if q h.account then more_sets set h.account else h.account;
    version = h.version;
    among = one_goes q (more_sets set) accounts h.account h.among;
    last = ap (λ vs. last_of item vs) (same_versions (q h.account) set h.account) ∙ h.last;
    live = h.live;
  },
  λ h.
      let came = one_came q (more_sets set) accounts h.account h.among in
      record {
        account = came.0;
        version = h.version;
        among = came.1;
        last = ap (λ vs. last_of item vs)
            (sym (⊎_elim (λ e. ap (λ (a : Account). a.versions) e.1) (λ e. ap (λ (a : Account). a.versions) e.1) came.2)) ∙ h.last;
        live = h.live;
      },
)

-- a move that accepts nothing
abbrev pub accepts_none : Move → Bool
accepts_none (Accept device uuid stamp under) = false
accepts_none m = true

kept : (live : BTreeSet Bytes) (m : Move) (ms : List Move) → accepts_none m ≡ true → Legal ms → IsTrue (allows (end ms) m)
    → HoldsLive live (end ms).accounts → HoldsLive live (after (end ms) m).accounts
kept live (Register identifier set) ms is legal may h = λ item. both (h item) (begun (end ms).accounts identifier set item)
kept live (Join name identifier number) ms is legal may h = h
kept live (Edit name item kind base latest) ms is legal may h = h
kept live (Drop name item) ms is legal may h = h
kept live (Post name item) ms is legal may h = h
kept live (Unpost name item) ms is legal may h = h
kept live (Accept name item stamp under) ms is legal may h = absurd (cc)
kept live (Rewrap uuid stamp under) ms is legal may h = rewrapped_holds ms uuid stamp under live legal may h
kept live (Settle name item) ms is legal may h = h
kept live (SettlePosted name item stamp) ms is legal may h = h
kept live (Fork name item other) ms is legal may h = h
kept live (Rename name item other) ms is legal may h = h
kept live (GiveWay name item) ms is legal may h = h
kept live (Change identifier number set) ms is legal may h = λ item. both (h item) (changed (end ms).accounts (is_account identifier) set item)
kept live (Retire name number) ms is legal may h = h

pub kept_noted : (live : BTreeSet Bytes) (m : Move) → accepts_none m ≡ true → NotesLive live live m
kept_noted live m is = behind live live m (λ ms legal may h. kept live m ms is legal may h)

-- ---- the items, as a list

rising_apart : (x : Bytes) (xs : List Bytes) → AllByRecursion (λ y. uuid_cmp x y ≡ Less) xs → Each (λ y. y ≢ x) xs
rising_apart x [] h = tt
rising_apart x (y ∷ ys) h = (λ e. no_less (subst (λ z. uuid_cmp x z ≡ Less) e h.0), rising_apart x ys h.1)
  where
    no_less : uuid_cmp x x ≡ Less → ⊥
    no_less less = clash (is_eq (uuid_cmp x x)) (is_eq-slice_cmp x x ∙ text_same x x refl) (ap (λ o. is_eq o) less)

all_differ : (xs : List Bytes) → IsStrictlySortedBy uuid_cmp xs → AllDiffer xs
unfolding IsStrictlySortedBy
all_differ [] h = tt
all_differ (x ∷ xs) h = (rising_apart x xs h.0, all_differ xs h.1)

pub are_live : (live : BTreeSet Bytes) (accounts : List Account) → IsOrdered uuid_cmp live → HoldsLive live accounts → AreLiveItems accounts (keys live)
are_live live accounts ordered h = record {
  apart = all_differ (keys live) ordered;
  each = each_of (IsLiveItem accounts) (keys live)
      (λ x one. (h x).0 (any_of (is_at (uuid_cmp x)) (keys live) x (tested x x ∙ text_same x x refl) one));
  all = λ uuid item.
      one_from (is_at (uuid_cmp uuid)) (λ u. u ≡ uuid) (λ u e. sym (same_text uuid u (sym (tested uuid u) ∙ e))) (keys live) ((h uuid).1 item);
}
