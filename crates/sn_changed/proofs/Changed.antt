-- A change of password that a server's rule does: it is an allowed move, and the rows show the accounts after it.
use Rattle.std.proofs.Common.{◌≡◌, ◌≢◌, ◌<◌, ℕ, suc, ◌+◌, List, length, Some, Bool, true, false, refl, sym, ap, ◌∙◌, subst, add-one}
use Rattle.std.specs.Prelude.{IsTrue, ◌==◌}
use Rattle.sn_account.specs.Lookups.{HasAccount, HasItem}
use Rattle.sn_account.specs.Rules.{Carries, IsPresent, IsUsed, NoneBehind, Replaces}
use Rattle.sn_account.specs.Sessions.{IsSession, account_uuid, session_token}
use Rattle.sn_account.specs.Sound.{most_generations}
use Rattle.sn_keys.specs.Keys.{check_value}
use Rattle.sn_laws.proofs.Facts.{allowed_to, clash, number_same, same_number}
use Rattle.sn_laws.specs.Each.{Each}
use Rattle.sn_laws.specs.Lookups.{Bytes, last_of}
use Rattle.sn_laws.specs.Moves.{after, allows}
use Rattle.sn_laws.specs.Relation.{IsLive, IsUnder}
use Rattle.sn_laws.specs.declared.ideal.Account.{Account}
use Rattle.sn_laws.specs.declared.ideal.Body.{Body}
use Rattle.sn_laws.specs.declared.ideal.Body.TheVariants.{Under, Gone}
use Rattle.sn_laws.specs.declared.ideal.Ideal.{Ideal}
use Rattle.sn_laws.specs.declared.ideal.Version.{Version}
use Rattle.sn_rows.specs.Table.{Puts, Rows, rows_after}
use Rattle.sn_rows.specs.declared.change.Change.{Change}
use Rattle.sn_rows.specs.declared.key.Key.TheVariants as key
use Rattle.sn_rows.specs.declared.server_rows.AccountRow.{AccountRow}
use Rattle.sn_rows.specs.declared.server_rows.ItemRow.{ItemRow}
use Rattle.sn_rows.specs.declared.server_rows.StoreRow.{StoreRow}
use Rattle.sn_rows.specs.declared.value.Value.TheVariants as value
use Rattle.sn_shows.specs.Rekeying.{ChangedServer, PutsGeneration}
use Rattle.sn_shows.specs.Servers.{ShowsGeneration, ShowsItem, ShowsServer, ShowsStrings}
use Rattle.sn_string.specs.Grammar.{Reading}
use Rattle.sn_string.specs.Laws.{HasOneReading}
use Rattle.sn_string.specs.declared.params.KeySet.{KeySet}
use Rattle.sn_string.specs.declared.params.Params.{Params}
use Rattle.sn_sync.specs.declared.answer.Answer.{Answer}
use Rattle.sn_sync.specs.declared.answer.Answer.TheVariants as answer
use Rattle.sn_changed.proofs.Found.{each_got}
use Rattle.sn_changed.proofs.Holders.{Holder, present_number}
use Rattle.sn_changed.specs.Laws.{IsAsked, IsChanged, IsServerOf, next_set}

module _ (server_law : ChangedServer) (one_reading : HasOneReading) (rows : Rows) (store : StoreRow) (s : Ideal) (h : IsServerOf rows store s.accounts)
    (token current pw : Bytes) (cost : ℕ) (nonce : Bytes) (set : KeySet) (asked : IsAsked rows s.accounts token pw cost nonce set) (n : ℕ) (row : AccountRow)
    (session : IsSession rows token n) (there : HasAccount rows n row) (o : Holder rows s n row) where
  abbrev a : Account
  a = o.account

  fresh : ¬ (IsUsed rows n nonce) → Each (λ (k : KeySet). k.params.pw_nonce ≢ set.params.pw_nonce) a.sets
  fresh unused =
      each_got (λ (k : KeySet). k.params.pw_nonce ≢ set.params.pw_nonce) a.sets
      (λ g k e same. let its : ShowsGeneration rows n a (suc g) k = o.shown.generations (suc g) k e in
      unused (suc g, (its.row, its.stands, its.nonce ∙ same ∙ asked.nonce_is)))

  module _ (present : Params) (is : IsPresent rows n present) (none : NoneBehind rows n present) where
    -- strings that carry the present parameters are under the last set
    same_set : (uuid : Bytes) (item : ItemRow) (text : Bytes) (k : ℕ) → ShowsStrings a.sets uuid item (Under text k) → Carries item present → k ≡ length a.sets
    same_set uuid item text k shows carries =
        let its = shows.1.opens.carries.content in
        let reading : its.reading ≡ carries.0.0 = one_reading item.content its.reading carries.0.0 its.reads carries.0.1 in
        let params : shows.1.set.params ≡ present = sym its.params_are ∙ ap (λ (r : Reading). r.params) reading ∙ carries.0.2 in
        let shown : ShowsGeneration rows n a k shows.1.set = o.shown.generations k shows.1.set shows.1.at in
        h.sound.fresh n k is.account.generation shown.row is.generation shown.stands is.stands
        (shown.nonce ∙ ap (λ (p : Params). p.pw_nonce) params ∙ is.nonce)
        ∙ present_number rows s n row present there o is

    under : (uuid : Bytes) (item : ItemRow) → HasItem rows uuid item → item.account ≡ n → (b : Body) → ShowsStrings a.sets uuid item b → IsLive b
        → IsUnder (length a.sets) b
    under uuid item stands own Gone shows live = absurd live
    under uuid item stands own (Under text k) shows live = by (k == length a.sets) refl
      where
        by : (q : Bool) → (k == length a.sets) ≡ q → k ≡ length a.sets
        by true e = same_number k (length a.sets) e
        by false e =
            absurd
            (none uuid (record {
              item = item;
              there = stands;
              own = own;
              kept = shows.0;
              others = λ carries. clash (k == length a.sets) (number_same k (length a.sets) (same_set uuid item text k shows carries)) e;
            }))

    in_step : (uuid : Bytes) (v : Version) → last_of uuid a.versions ≡ Some v → IsLive v.body → IsUnder (length a.sets) v.body
    in_step uuid v last live =
        let shown : ShowsItem rows n a uuid v = o.shown.items uuid v last in
        under uuid shown.row shown.stands shown.account v.body shown.strings live

    pub allowed : ¬ (IsUsed rows n nonce) → row.generation < most_generations → IsTrue (allows s (next_set a set))
    allowed unused room =
        allowed_to s (next_set a set)
        (record {
          account = a;
          named = o.named;
          fresh = fresh unused;
          few = subst (λ (k : ℕ). k < most_generations) o.generation room;
          same = in_step;
          next = refl;
        })

  module _ (changes : List Change) (given : Answer) (x : Replaces store n row pw cost nonce changes given) where
    next_is : suc row.generation ≡ length a.sets + 1
    next_is = ap suc o.generation ∙ sym (add-one (length a.sets))

    puts : PutsGeneration x.account x.generation n a set
    puts = record {
      row = x.account_puts.row;
      account_puts = x.account_puts.puts;
      identifier_is = x.account_puts.identifier_is ∙ o.identifier;
      next = x.account_puts.generation_is ∙ next_is;
      check = x.account_puts.check_is ∙ ap check_value (sym asked.pw_is);
      params = x.generation_puts.row;
      generation_puts = subst (λ (k : ℕ). Puts x.generation (key.Generation n k) (value.Generation x.generation_puts.row)) next_is x.generation_puts.puts;
      cost = x.generation_puts.cost_is ∙ sym asked.cost_is;
      nonce = x.generation_puts.nonce_is ∙ sym asked.nonce_is;
      own = asked.own n a session o.at;
    }

    pub changed : row.check ≡ check_value current → IsTrue (allows s (next_set a set)) → IsChanged rows store s token current set changes given
    changed check may = record {
      number = n;
      account = a;
      holder = record { at = o.at; session = session };
      check = (o.last, o.last_is, sym o.check ∙ check);
      allowed = may;
      account_put = x.account;
      generation_put = x.generation;
      puts = puts;
      changes_are = x.changes_are;
      shows = subst (λ (c : List Change). ShowsServer (rows_after rows c) (after s (next_set a set)).accounts) (sym x.changes_are)
          (server_law rows s n a set x.account x.generation h.shows h.apart o.at puts);
      answers = x.answers ∙ ap (λ (k : ℕ). answer.Account (session_token store.secret n k) row.identifier (account_uuid n)) next_is
          ∙ ap (λ (i : Bytes). answer.Account (session_token store.secret n (length a.sets + 1)) i (account_uuid n)) o.identifier;
    }
