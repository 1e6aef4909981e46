-- Each request has an answer.
use Rattle.std.proofs.Common.{◌≡◌, ◌⊎◌, ℕ, suc, ◌<◌, ◌≤◌, false, List, [], ◌∷◌, ◌++◌, length, Option, Some, None, All, codes, decimal, refl, sym, ap, ◌∙◌, subst, inl, inr, ⊎_elim, arith}
use Rattle.std.specs.Str.{IsUtf8}
use Rattle.std.proofs.lemmas.List.Elements.{All-cons, All-nil}
use Rattle.sn_keys.specs.Keys.{check_value}
use Rattle.sn_rows.specs.Table.{Puts, Rows}
use Rattle.sn_rows.specs.declared.change.Change.{Change}
use Rattle.sn_rows.specs.declared.key.Key.TheVariants as key
use Rattle.sn_rows.specs.declared.server_rows.AccountRow.{AccountRow}
use Rattle.sn_rows.specs.declared.server_rows.GenerationRow.{GenerationRow}
use Rattle.sn_rows.specs.declared.server_rows.ItemRow.{ItemRow}
use Rattle.sn_rows.specs.declared.server_rows.StoreRow.{StoreRow}
use Rattle.sn_rows.specs.declared.value.Value.TheVariants as value
use Rattle.sn_string.specs.Base64.{base64_text}
use Rattle.sn_string.specs.Bounds.{IsCost, IsNonce}
use Rattle.sn_string.specs.declared.params.Params.{Params}
use Rattle.sn_sync.specs.Fits.{AreBytes, FitsSent}
use Rattle.sn_sync.specs.Stamps.{last_stamp}
use Rattle.sn_sync.specs.Tokens.{IsToken}
use Rattle.sn_sync.specs.declared.answer.Answer.{Answer}
use Rattle.sn_sync.specs.declared.answer.Answer.TheVariants as answer
use Rattle.sn_sync.specs.declared.answer.More.TheVariants as more
use Rattle.sn_sync.specs.declared.item.Item.{Item}
use Rattle.sn_sync.specs.declared.request.Request.TheVariants as request
use Rattle.sn_account.specs.Incoming.{RunsOut}
use Rattle.sn_account.specs.Lookups.{Bytes, HasAccount, HasItem, IsNamed, IsUnknown}
use Rattle.sn_account.specs.Pages.{AreGiven, Found, IsGreatest, IsPage}
use Rattle.sn_account.specs.RuleTotal.{EachIsAnswered, HaveCosts}
use Rattle.sn_account.specs.Rules.{Carries, ChangesKeys, ChangesPassword, IsBehind, IsLeastBehind, IsPresent, IsUsed, NoneBehind, PutsAccount, PutsGeneration, Registers, SignsIn, TellsParams}
use Rattle.sn_account.specs.Sessions.{IsNoSession, IsSession, account_uuid, session_token}
use Rattle.sn_account.specs.Sound.{IsSound, most_accounts, most_generations}
use Rattle.sn_account.specs.Syncs.{AreChanges, AreShort, AreTokens, IsBadToken, IsFirstLong, IsFirstLongIn, IsShort, IsStampOf, NoneLong, Serves, ServesBounded, ServesFrom, Synced, Syncs, above_of, is_first, most_items, most_string, start, strings_in}
use Rattle.sn_account.proofs.Deciding.{Decided, IsLeast, at_most, below_or_none, both, decided_so, least_or_none, same_bool, same_list, same_number}
use Rattle.sn_account.proofs.ReadingOrNot.{carries}
use Rattle.sn_account.proofs.SoundSync.{items_of}
use Rattle.sn_account.proofs.SyncSteps.{Items, Ran, one_item, ran_all}
use Rattle.sn_account.proofs.TotalItems.{IsDone, done_or_out}
use Rattle.sn_account.proofs.TotalPages.{has_greatest, has_page, has_retrieved, has_tokens}
use Rattle.sn_account.proofs.TotalRows.{has_present, named_or_unknown, put_of, session_or_not, stored_or_not, text_fits, used_or_not}

-- some changes and an answer, of which this is so
abbrev HasAnswer : (List Change → Answer → Type 0) → Type 0
HasAnswer P = (changes : List Change) × (given : Answer) × P changes given

-- at most, or more
at_most_or_more : (a b : ℕ) → (a ≤ b) ⊎ (b < a)
at_most_or_more a b =
    ⊎_elim (λ (low : a ≤ b). inl low)
    (λ (over : a ≤ b → ⊥). ⊎_elim (λ (past : suc b ≤ a). inr past) (λ (less : suc b ≤ a → ⊥). absurd (over (omega arith))) (at_most (suc b) a))
    (at_most a b)

not_or_so : {P : Type 0} → Decided P → Decided (P → ⊥)
not_or_so (inl p) = inr (λ off. off p)
not_or_so (inr off) = inl off

-- ---- puts

has_account_put : (n : ℕ) (identifier : Bytes) (generation : ℕ) (check : Bytes) → IsUtf8 identifier → 1 ≤ length identifier → length identifier ≤ 254
    → (c : Change) × PutsAccount c n identifier generation check
has_account_put n identifier generation check utf8 low high =
    let row : AccountRow = record { identifier = identifier; generation = generation; check = check; identifier_fits = text_fits 1 254 identifier utf8 low high } in
    let put : (c : Change) × Puts c (key.Account n) (value.Account row) = put_of (key.Account n) (value.Account row) refl in
    (put.0, record { row = row; puts = put.1; identifier_is = refl; generation_is = refl; check_is = refl })

has_generation_put : (n generation cost : ℕ) (nonce : Bytes) → IsCost cost → IsUtf8 nonce → IsNonce nonce → (c : Change) × PutsGeneration c n generation cost nonce
has_generation_put n generation cost nonce costs utf8 fits =
    let row : GenerationRow = record {
      pw_cost = cost;
      pw_nonce = nonce;
      cost_fits = costs.0;
      nonce_fits = text_fits 1 256 nonce utf8 fits.0 fits.1;
      cost_bounded = costs.1;
    } in
    let put : (c : Change) × Puts c (key.Generation n generation) (value.Generation row) = put_of (key.Generation n generation) (value.Generation row) refl in
    (put.0, record { row = row; puts = put.1; cost_is = refl; nonce_is = refl })

has_store_put : (store : StoreRow) (last accounts : ℕ) → last ≤ last_stamp
    → (c : Change) × (row : StoreRow) × (Puts c key.Store (value.Store row) × ((row.secret ≡ store.secret) × ((row.accounts ≡ accounts) × (row.last ≡ last))))
has_store_put store last accounts low =
    let row : StoreRow = record { secret = store.secret; last = last; accounts = accounts; last_fits = low } in
    let put : (c : Change) × Puts c key.Store (value.Store row) = put_of key.Store (value.Store row) refl in
    (put.0, row, (put.1, (refl, (refl, refl))))

-- ---- requests about accounts

module _ (rows : Rows) (sound : IsSound rows) where
  registers : (params : Params) (pw : Bytes) → IsUtf8 params.identifier → IsUtf8 params.pw_nonce → HasAnswer (Registers rows sound.store params pw)
  registers params pw utf8 nonce = by_name (named_or_unknown rows sound params.identifier)
    where
      begun : IsUnknown rows params.identifier → sound.store.accounts < most_accounts → HasAnswer (Registers rows sound.store params pw)
      begun unknown less =
          let n : ℕ = suc sound.store.accounts in
          let account : (c : Change) × PutsAccount c n params.identifier 1 (check_value pw) =
          has_account_put n params.identifier 1 (check_value pw) utf8 params.identifier_fits.0 params.identifier_fits.1 in
          let generation : (c : Change) × PutsGeneration c n 1 params.pw_cost params.pw_nonce =
          has_generation_put n 1 params.pw_cost params.pw_nonce params.cost_fits nonce params.nonce_fits in
          let count = has_store_put sound.store sound.store.last n sound.store.last_fits in (
            account.0 ∷ generation.0 ∷ count.0 ∷ [],
            answer.Account (session_token sound.store.secret n 1) params.identifier (account_uuid n),
            inr (inr (
              unknown,
              less,
              record {
                account = account.0;
                account_puts = account.1;
                generation = generation.0;
                generation_puts = generation.1;
                count = count.0;
                count_puts = record { row = count.1; puts = count.2.0; secret = count.2.1.0; last = count.2.1.1.1; accounts = count.2.1.1.0 };
                changes_are = refl;
                answers = refl;
              },
            )),
          )

      by_number : IsUnknown rows params.identifier → (most_accounts ≤ sound.store.accounts) ⊎ (sound.store.accounts < most_accounts)
          → HasAnswer (Registers rows sound.store params pw)
      by_number unknown (inl full) =
          let bound = sound.bound in
          ([], answer.Refused 409 (codes "full") (more.Number most_accounts), inr (inl (unknown, omega arith, (refl, refl))))
      by_number unknown (inr less) = begun unknown less

      by_name : ((n : ℕ) × IsNamed rows params.identifier n) ⊎ IsUnknown rows params.identifier → HasAnswer (Registers rows sound.store params pw)
      by_name (inl named) = ([], answer.Refused 409 (codes "taken") more.Nothing, inl (named, (refl, refl)))
      by_name (inr unknown) = by_number unknown (at_most_or_more most_accounts sound.store.accounts)

  tells : HaveCosts rows → (identifier : Bytes) → (given : Answer) × TellsParams rows identifier given
  tells costs identifier = by_name (named_or_unknown rows sound identifier)
    where
      by_name : ((n : ℕ) × IsNamed rows identifier n) ⊎ IsUnknown rows identifier → (given : Answer) × TellsParams rows identifier given
      by_name (inl (n, (a, has, named))) =
          let present : (p : Params) × IsPresent rows n p = has_present rows sound costs n a has in
          let accounts : present.1.account ≡ a = (let x = present.1.there in cc) in (
            answer.Params present.0,
            inr (record {
              n = n;
              account = present.1.account;
              there = present.1.there;
              named = ap (λ (r : AccountRow). r.identifier) accounts ∙ named;
              generation = present.1.generation;
              present = present.1.stands;
              params = present.0;
              identifier_is = present.1.identifier ∙ ap (λ (r : AccountRow). r.identifier) accounts ∙ named;
              cost = present.1.cost;
              nonce = present.1.nonce;
              answers = refl;
            }),
          )
      by_name (inr unknown) = (answer.Refused 404 (codes "unknown") more.Nothing, inl (unknown, refl))

  signs : (identifier pw : Bytes) → (given : Answer) × SignsIn rows sound.store identifier pw given
  signs identifier pw = by_name (named_or_unknown rows sound identifier)
    where
      by_check : (n : ℕ) (a : AccountRow) → HasAccount rows n a → a.identifier ≡ identifier → Decided (a.check ≡ check_value pw)
          → (given : Answer) × SignsIn rows sound.store identifier pw given
      by_check n a has named (inl right) = (
        answer.Account (session_token sound.store.secret n a.generation) identifier (account_uuid n),
        inr (inr (record { n = n; account = a; there = has; named = named; check = right; answers = refl })),
      )
      by_check n a has named (inr wrong) = (
        answer.Refused 401 (codes "bad-auth") more.Nothing,
        inr (inl (record { n = n; account = a; there = has; named = named; check = wrong }, refl)),
      )

      by_name : ((n : ℕ) × IsNamed rows identifier n) ⊎ IsUnknown rows identifier → (given : Answer) × SignsIn rows sound.store identifier pw given
      by_name (inl (n, (a, has, named))) = by_check n a has named (same_list a.check (check_value pw))
      by_name (inr unknown) = (answer.Refused 404 (codes "unknown") more.Nothing, inl (unknown, refl))

  -- ---- a change of password

  behind_or_not : (n : ℕ) (present : Params) (u : Bytes) → Decided (IsBehind rows n present u)
  behind_or_not n present u = by_row (stored_or_not rows (λ w v e. sound.kinds (key.Item w) v e) u)
    where
      by_row : ((row : ItemRow) × HasItem rows u row) ⊎ ((row : ItemRow) → HasItem rows u row → ⊥) → Decided (IsBehind rows n present u)
      by_row (inl (row, has)) =
          decided_so (λ p. record { item = row; there = has; own = p.0; kept = p.1.0; others = p.1.1 })
          (λ b. (let same : b.item ≡ row = one_item rows u b.item row b.there has in (
            ap (λ (r : ItemRow). r.account) (sym same) ∙ b.own,
            (ap (λ (r : ItemRow). r.deleted) (sym same) ∙ b.kept, λ own. b.others (subst (λ (r : ItemRow). Carries r present) (sym same) own)),
          )))
          (both (same_number row.account n) (both (same_bool row.deleted false) (not_or_so (carries row present))))
      by_row (inr none) = inr (λ b. none b.item b.there)

  behind_or_none : (n : ℕ) (present : Params) → ((u : Bytes) × IsLeastBehind rows n present u) ⊎ NoneBehind rows n present
  behind_or_none n present = by_search (least_or_none 16 (IsBehind rows n present) (behind_or_not n present))
    where
      by_search : ((u : Bytes) × IsLeast (IsBehind rows n present) 16 u) ⊎ ((u : Bytes) → AreBytes 16 u → IsBehind rows n present u → ⊥)
          → ((u : Bytes) × IsLeastBehind rows n present u) ⊎ NoneBehind rows n present
      by_search (inl (u, least)) =
          inl (u, record { behind = least.is; least = λ w b before. least.least w (sound.named w b.item b.there) b before })
      by_search (inr none) = inr (λ u b. none u (sound.named u b.item b.there) b)

  changes_keys : (n : ℕ) (a : AccountRow) (present : Params) (pw : Bytes) (cost : ℕ) (nonce : Bytes) → HasAccount rows n a → IsCost cost → IsNonce nonce → IsUtf8 nonce
      → HasAnswer (ChangesKeys rows sound.store n a present pw cost nonce)
  changes_keys n a present pw cost nonce has costs fits utf8 = by_behind (behind_or_none n present)
    where
      by_number : NoneBehind rows n present → (IsUsed rows n nonce → ⊥) → (most_generations ≤ a.generation) ⊎ (a.generation < most_generations)
          → HasAnswer (ChangesKeys rows sound.store n a present pw cost nonce)
      by_number none fresh (inl full) =
          let bound = sound.generation n a has in
          ([], answer.Refused 409 (codes "changes-used") (more.Number most_generations), inr (inr (inl (none, fresh, omega arith, (refl, refl)))))
      by_number none fresh (inr less) =
          let account : (c : Change) × PutsAccount c n a.identifier (suc a.generation) (check_value pw) = own_put in
          let generation : (c : Change) × PutsGeneration c n (suc a.generation) cost nonce = has_generation_put n (suc a.generation) cost nonce costs utf8 fits in (
            account.0 ∷ generation.0 ∷ [],
            answer.Account (session_token sound.store.secret n (suc a.generation)) a.identifier (account_uuid n),
            inr (inr (inr (
              none,
              fresh,
              less,
              record {
                account = account.0;
                account_puts = account.1;
                generation = generation.0;
                generation_puts = generation.1;
                changes_are = refl;
                answers = refl;
              },
            ))),
          )
        where
          own_put : (c : Change) × PutsAccount c n a.identifier (suc a.generation) (check_value pw)
          own_put =
              let row : AccountRow = record { identifier = a.identifier; generation = suc a.generation; check = check_value pw; identifier_fits = a.identifier_fits } in
              let put : (c : Change) × Puts c (key.Account n) (value.Account row) = put_of (key.Account n) (value.Account row) refl in
              (put.0, record { row = row; puts = put.1; identifier_is = refl; generation_is = refl; check_is = refl })

      by_nonce : NoneBehind rows n present → Decided (IsUsed rows n nonce) → HasAnswer (ChangesKeys rows sound.store n a present pw cost nonce)
      by_nonce none (inl used) = ([], answer.Refused 409 (codes "nonce-used") more.Nothing, inr (inl (none, used, (refl, refl))))
      by_nonce none (inr fresh) = by_number none fresh (at_most_or_more most_generations a.generation)

      by_behind : ((u : Bytes) × IsLeastBehind rows n present u) ⊎ NoneBehind rows n present → HasAnswer (ChangesKeys rows sound.store n a present pw cost nonce)
      by_behind (inl (u, least)) = ([], answer.Refused 409 (codes "rekey-running") (more.Uuid u), inl (u, least, (refl, refl)))
      by_behind (inr none) = by_nonce none (used_or_not rows sound n a has nonce)

  changes_password : HaveCosts rows → (token current pw : Bytes) (cost : ℕ) (nonce : Bytes) → IsCost cost → IsNonce nonce → IsUtf8 nonce
      → HasAnswer (ChangesPassword rows sound.store token current pw cost nonce)
  changes_password costs token current pw cost nonce low fits utf8 = by_session (session_or_not rows sound token)
    where
      by_keys : (n : ℕ) (a : AccountRow) → IsSession rows token n → HasAccount rows n a → a.check ≡ check_value current → (present : Params) × IsPresent rows n present
          → HasAnswer (ChangesPassword rows sound.store token current pw cost nonce)
      by_keys n a is has right (present, stands) =
          let keys : HasAnswer (ChangesKeys rows sound.store n a present pw cost nonce) = changes_keys n a present pw cost nonce has low fits utf8 in
          (keys.0, keys.1, inr (inr (n, a, present, is, has, right, stands, keys.2)))

      by_check : (n : ℕ) (a : AccountRow) → IsSession rows token n → HasAccount rows n a → Decided (a.check ≡ check_value current)
          → HasAnswer (ChangesPassword rows sound.store token current pw cost nonce)
      by_check n a is has (inl right) = by_keys n a is has right (has_present rows sound costs n a has)
      by_check n a is has (inr wrong) = ([], answer.Refused 401 (codes "bad-auth") more.Nothing, inr (inl (n, a, is, has, wrong, (refl, refl))))

      by_session : ((n : ℕ) × IsSession rows token n) ⊎ IsNoSession rows token → HasAnswer (ChangesPassword rows sound.store token current pw cost nonce)
      by_session (inl (n, is)) = by_check n is.account is is.there (same_list is.account.check (check_value current))
      by_session (inr none) = ([], answer.Refused 401 (codes "bad-auth") more.Nothing, inl (none, (refl, refl)))

-- ---- tokens and bounds of a sync

token_at : (text : Bytes) (stamp : ℕ) → Decided (IsToken text stamp)
token_at text stamp =
    decided_so (λ p. record { bound = p.0; spelled = p.1 }) (λ is. (is.bound, is.spelled))
    (both (at_most stamp last_stamp) (same_list text (base64_text (codes "2:" ++ decimal stamp))))

-- no text of any stamp
no_token : (text : Bytes) (bound : ℕ) → last_stamp < bound → ((stamp : ℕ) → stamp < bound → IsToken text stamp → ⊥) → IsBadToken (Some text)
no_token text bound over none None is = is
no_token text bound over none (Some stamp) is = none stamp (let low = is.bound in omega arith) is

token_or_bad : (given : Option Bytes) → ((stamp : Option ℕ) × IsStampOf given stamp) ⊎ IsBadToken given
token_or_bad None = inl (None, refl)
token_or_bad (Some text) = by_search (suc last_stamp) (omega arith) (below_or_none (IsToken text) (token_at text) (suc last_stamp))
  where
    by_search : (bound : ℕ) → last_stamp < bound → ((stamp : ℕ) × (stamp < bound) × IsToken text stamp) ⊎ ((stamp : ℕ) → stamp < bound → IsToken text stamp → ⊥)
        → ((stamp : Option ℕ) × IsStampOf (Some text) stamp) ⊎ IsBadToken (Some text)
    by_search bound over (inl (stamp, low, is)) = inl (Some stamp, is)
    by_search bound over (inr none) = inr (no_token text bound over none)

long_in_or_short : (strings : List Bytes) → ((size : ℕ) × IsFirstLongIn strings size) ⊎ AreShort strings
long_in_or_short [] = inr (All-nil IsShort)
long_in_or_short (s ∷ strings) = by_size (at_most_or_more (length s) most_string) (long_in_or_short strings)
  where
    by_size : (length s ≤ most_string) ⊎ (most_string < length s) → ((size : ℕ) × IsFirstLongIn strings size) ⊎ AreShort strings
        → ((size : ℕ) × IsFirstLongIn (s ∷ strings) size) ⊎ AreShort (s ∷ strings)
    by_size (inr past) rest =
        inl (length s, record { short = []; long = s; others = strings; split = refl; before = All-nil IsShort; past = past; size_is = refl })
    by_size (inl low) (inl (size, f)) =
        inl (
          size,
          record {
            short = s ∷ f.short;
            long = f.long;
            others = f.others;
            split = ap (λ (x : List Bytes). s ∷ x) f.split;
            before = All-cons IsShort s f.short low f.before;
            past = f.past;
            size_is = f.size_is;
          },
        )
    by_size (inl low) (inr short) = inr (All-cons IsShort s strings low short)

abbrev IsShortItem : Item → Type 0
IsShortItem i = AreShort (strings_in i.body)

long_or_none : (items : List Item) → ((uuid : Bytes) × ((size : ℕ) × IsFirstLong items uuid size)) ⊎ NoneLong items
long_or_none [] = inr (All-nil IsShortItem)
long_or_none (i ∷ items) = by_item (long_in_or_short (strings_in i.body)) (long_or_none items)
  where
    by_item : ((size : ℕ) × IsFirstLongIn (strings_in i.body) size) ⊎ AreShort (strings_in i.body)
        → ((uuid : Bytes) × ((size : ℕ) × IsFirstLong items uuid size)) ⊎ NoneLong items
        → ((uuid : Bytes) × ((size : ℕ) × IsFirstLong (i ∷ items) uuid size)) ⊎ NoneLong (i ∷ items)
    by_item (inl (size, long)) rest =
        inl (i.uuid, (size, record { front = []; item = i; later = items; split = refl; before = All-nil IsShortItem; long = long; uuid_is = refl }))
    by_item (inr short) (inl (uuid, (size, f))) =
        inl (
          uuid,
          (
            size,
            record {
              front = i ∷ f.front;
              item = f.item;
              later = f.later;
              split = ap (λ (x : List Item). i ∷ x) f.split;
              before = All-cons IsShortItem i f.front short f.before;
              long = f.long;
              uuid_is = f.uuid_is;
            },
          ),
        )
    by_item (inr short) (inr none) = inr (All-cons IsShortItem i items short none)

-- ---- a sync

has_changes : (store : StoreRow) (made : List Change) (last : ℕ) → last ≤ last_stamp → (changes : List Change) × AreChanges store made last changes
has_changes store [] last low = ([], inl (refl, refl))
has_changes store (c ∷ made) last low =
    let end = has_store_put store last store.accounts low in
    ((c ∷ made) ++ end.0 ∷ [], inr (λ e. absurd cc, (end.0, end.1, end.2.0, end.2.1.0, end.2.1.1.0, end.2.1.1.1, refl)))

module _ (rows : Rows) (sound : IsSound rows) (costs : HaveCosts rows) (items : List Item) (limit now : ℕ) (fits : All FitsSent items) (texts : All (λ i. IsUtf8 i.kind) items) where
  synced : (n : ℕ) (present : Params) (sync cursor : Option ℕ) → (a : AccountRow) × HasAccount rows n a → IsDone present now n (start rows sound.store) items
      → HasAnswer (Synced rows sound.store n present items limit sync cursor now)
  synced n present sync cursor there done =
      let before : Items rows sound.store.last n = items_of rows sound n there in
      let ran : Ran n (start rows sound.store) done.end = ran_all n now present (start rows sound.store) items done.end fits before done.taken in
      let page : (p : List Found) × (l : List Found) × IsPage rows n (above_of sync cursor) (is_first sync cursor) limit p l =
      has_page rows sound.store.last n before (above_of sync cursor) (is_first sync cursor) limit in
      let retrieved : (r : List Item) × AreGiven page.0 r = has_retrieved page.0 in
      let greatest : (s : ℕ) × IsGreatest done.end.rows n s × (s ≤ last_stamp) = has_greatest done.end.rows done.end.last n ran.items in
      let tokens : (c : Option Bytes) × (t : Bytes) × AreTokens done.end.rows n page.0 page.1 c t =
      has_tokens done.end.rows n page.0 page.1 (λ next later e. (page.2.longest next later e).0) greatest in
      let changes : (c : List Change) × AreChanges sound.store done.end.changes done.end.last c = has_changes sound.store done.end.changes done.end.last done.low in (
        changes.0,
        answer.Sync done.end.conflicts tokens.0 retrieved.0 done.end.saved tokens.1,
        record {
          page = page.0;
          left = page.1;
          is_page = page.2;
          retrieved = retrieved.0;
          retrieved_are = retrieved.1;
          end = done.end;
          taken = done.taken;
          changes_are = changes.1;
          cursor_token = tokens.0;
          sync_token = tokens.1;
          tokens = tokens.2;
          answers = refl;
        },
      )

  serves : (n : ℕ) (sync cursor : Option ℕ) → (a : AccountRow) × HasAccount rows n a → NoneLong items
      → HasAnswer (Serves rows sound.store n items limit sync cursor now)
  serves n sync cursor there short = by_present (has_present rows sound costs n there.0 there.1)
    where
      by_end : (present : Params) → IsPresent rows n present → IsDone present now n (start rows sound.store) items ⊎ RunsOut present now n (start rows sound.store) items
          → HasAnswer (Serves rows sound.store n items limit sync cursor now)
      by_end present is (inl done) =
          let s : HasAnswer (Synced rows sound.store n present items limit sync cursor now) = synced n present sync cursor there done in
          (s.0, s.1, (present, is, inr s.2))
      by_end present is (inr out) =
          ([], answer.Refused 409 (codes "stamps-used") (more.Number sound.store.last), (present, is, inl (out, (refl, refl))))

      by_present : (p : Params) × IsPresent rows n p → HasAnswer (Serves rows sound.store n items limit sync cursor now)
      by_present (present, is) =
          by_end present is (done_or_out present now n (start rows sound.store) items (items_of rows sound n there) sound.store.last_fits fits texts short)

  bounded : (n : ℕ) (sync cursor : Option ℕ) → (a : AccountRow) × HasAccount rows n a → HasAnswer (ServesBounded rows sound.store n items limit sync cursor now)
  bounded n sync cursor there = by_number (at_most_or_more (length items) most_items)
    where
      by_length : length items ≤ most_items → ((uuid : Bytes) × ((size : ℕ) × IsFirstLong items uuid size)) ⊎ NoneLong items
          → HasAnswer (ServesBounded rows sound.store n items limit sync cursor now)
      by_length few (inl (uuid, (size, long))) =
          ([], answer.Refused 413 (codes "long") (more.Both size uuid), inr (inl (few, uuid, size, long, (refl, refl))))
      by_length few (inr short) =
          let s : HasAnswer (Serves rows sound.store n items limit sync cursor now) = serves n sync cursor there short in
          (s.0, s.1, inr (inr (few, short, s.2)))

      by_number : (length items ≤ most_items) ⊎ (most_items < length items) → HasAnswer (ServesBounded rows sound.store n items limit sync cursor now)
      by_number (inl few) = by_length few (long_or_none items)
      by_number (inr wide) = ([], answer.Refused 413 (codes "wide") (more.Number (length items)), inl (wide, (refl, refl)))

  from_tokens : (n : ℕ) (sync_token cursor_token : Option Bytes) → (a : AccountRow) × HasAccount rows n a
      → HasAnswer (ServesFrom rows sound.store n items limit sync_token cursor_token now)
  from_tokens n sync_token cursor_token there = by_tokens (token_or_bad sync_token) (token_or_bad cursor_token)
    where
      by_tokens : ((s : Option ℕ) × IsStampOf sync_token s) ⊎ IsBadToken sync_token → ((s : Option ℕ) × IsStampOf cursor_token s) ⊎ IsBadToken cursor_token
          → HasAnswer (ServesFrom rows sound.store n items limit sync_token cursor_token now)
      by_tokens (inr bad) any = ([], answer.Refused 400 (codes "bad-token") (more.Name (codes "sync_token")), inl (bad, (refl, refl)))
      by_tokens (inl (sync, is)) (inr bad) =
          ([], answer.Refused 400 (codes "bad-token") (more.Name (codes "cursor_token")), inr (inl (sync, is, bad, (refl, refl))))
      by_tokens (inl (sync, is)) (inl (cursor, at)) =
          let s : HasAnswer (ServesBounded rows sound.store n items limit sync cursor now) = bounded n sync cursor there in
          (s.0, s.1, inr (inr (sync, cursor, is, at, s.2)))

  syncs : (token : Bytes) (sync_token cursor_token : Option Bytes) → HasAnswer (Syncs rows sound.store token items limit sync_token cursor_token now)
  syncs token sync_token cursor_token = by_session (session_or_not rows sound token)
    where
      by_session : ((n : ℕ) × IsSession rows token n) ⊎ IsNoSession rows token → HasAnswer (Syncs rows sound.store token items limit sync_token cursor_token now)
      by_session (inl (n, is)) =
          let s : HasAnswer (ServesFrom rows sound.store n items limit sync_token cursor_token now) = from_tokens n sync_token cursor_token (is.account, is.there) in
          (s.0, s.1, inr (n, is, s.2))
      by_session (inr none) = ([], answer.Refused 401 (codes "bad-auth") more.Nothing, inl (none, (refl, refl)))

-- ---- all routes

-- each row's cost has 32 bits
have_costs : (rows : Rows) → HaveCosts rows
have_costs rows n g r has = r.cost_bounded

pub each_is_answered : EachIsAnswered
each_is_answered rows (request.Register params pw) now sound fits texts =
    let s : HasAnswer (Registers rows sound.store params pw) = registers rows sound params pw texts.0 texts.1 in
    (s.0, s.1, (sound.store, sound.stands, s.2))
each_is_answered rows (request.Params identifier) now sound fits texts =
    let t : (given : Answer) × TellsParams rows identifier given = tells rows sound (have_costs rows) identifier in
    ([], t.0, (sound.store, sound.stands, (refl, t.1)))
each_is_answered rows (request.SignIn identifier pw) now sound fits texts =
    let t : (given : Answer) × SignsIn rows sound.store identifier pw given = signs rows sound identifier pw in
    ([], t.0, (sound.store, sound.stands, (refl, t.1)))
each_is_answered rows (request.ChangePw token current pw cost nonce) now sound (first, second, low, high) texts =
    let s : HasAnswer (ChangesPassword rows sound.store token current pw cost nonce) =
    changes_password rows sound (have_costs rows) token current pw cost nonce low high texts in
    (s.0, s.1, (sound.store, sound.stands, s.2))
each_is_answered rows (request.Sync token items limit sync_token cursor_token) now sound (fits, least, most) texts =
    let s : HasAnswer (Syncs rows sound.store token items limit sync_token cursor_token now) =
    syncs rows sound (have_costs rows) items limit now fits texts token sync_token cursor_token in
    (s.0, s.1, (sound.store, sound.stands, s.2))
