-- A change of password that a server's rule refuses though token and password are an account's: the move isn't allowed.
use Rattle.std.proofs.Common.{◌≡◌, ◌≢◌, ◌<◌, ℕ, zero, suc, ◌+◌, List, length, Some, Bool, true, false, sym, ap, ◌∙◌, subst, arith}
use Rattle.std.specs.Prelude.{IsTrue}
use Rattle.sn_account.specs.Lookups.{HasAccount}
use Rattle.sn_account.specs.Rules.{Carries, IsBehind, IsPresent, IsUsed}
use Rattle.sn_account.specs.Sound.{most_generations}
use Rattle.sn_keys.specs.Keys.{check_value}
use Rattle.sn_laws.proofs.Facts.{allowed_from, one_there}
use Rattle.sn_laws.specs.Each.{Each}
use Rattle.sn_laws.specs.Lookups.{Bytes, account_named, last_of}
use Rattle.sn_laws.specs.Moves.{allows, most_sets}
use Rattle.sn_laws.specs.Relation.{IsLive, IsUnder, MayChange}
use Rattle.sn_laws.specs.declared.ideal.Account.{Account}
use Rattle.sn_laws.specs.declared.ideal.Body.{Body}
use Rattle.sn_laws.specs.declared.ideal.Body.TheVariants.{Under, Gone}
use Rattle.sn_laws.specs.declared.ideal.Ideal.{Ideal}
use Rattle.sn_laws.specs.declared.ideal.Version.{Version}
use Rattle.sn_rows.specs.Table.{Rows}
use Rattle.sn_rows.specs.declared.key.Key.TheVariants as key
use Rattle.sn_rows.specs.declared.server_rows.AccountRow.{AccountRow}
use Rattle.sn_rows.specs.declared.server_rows.GenerationRow.{GenerationRow}
use Rattle.sn_rows.specs.declared.server_rows.ItemRow.{ItemRow}
use Rattle.sn_rows.specs.declared.server_rows.StoreRow.{StoreRow}
use Rattle.sn_rows.specs.declared.value.Value.TheVariants as value
use Rattle.sn_shows.specs.Servers.{ShowsGeneration, ShowsStrings}
use Rattle.sn_shows.specs.Sets.{set_at}
use Rattle.sn_string.proofs.Facts.{same_params}
use Rattle.sn_string.specs.declared.params.KeySet.{KeySet}
use Rattle.sn_string.specs.declared.params.Params.{Params}
use Rattle.sn_changed.proofs.Found.{at_place}
use Rattle.sn_changed.proofs.Holders.{Holder, LastOf, SetOf, last_shown, one_account, one_generation, present_number, set_shown}
use Rattle.sn_changed.specs.Laws.{HasCheck, IsServerOf, next_set}

-- another check value than the row's is another than the last set's
pub other_check : (rows : Rows) (s : Ideal) (n : ℕ) (row : AccountRow) (current : Bytes) (o : Holder rows s n row) → row.check ≢ check_value current
    → ¬ (HasCheck o.account current)
other_check rows s n row current o other (last, is, check) =
    let same : o.last ≡ last = one_there o.last last (set_at (length o.account.sets) o.account.sets) o.last_is is in
    other (o.check ∙ ap (λ (k : KeySet). check_value k.pw) same ∙ check)

at_set : (P : KeySet → Type 0) (sets : List KeySet) (g : ℕ) (k : KeySet) → Each P sets → set_at g sets ≡ Some k → P k
at_set P sets zero k each h = absurd (cc)
at_set P sets (suc g) k each h = at_place P sets g k each h

module _ (rows : Rows) (store : StoreRow) (s : Ideal) (h : IsServerOf rows store s.accounts) (set : KeySet) (n : ℕ) (row : AccountRow)
    (there : HasAccount rows n row) (o : Holder rows s n row) (may : IsTrue (allows s (next_set o.account set))) where
  abbrev a : Account
  a = o.account

  change : MayChange s a.identifier (length a.sets + 1) set
  change = allowed_from s (next_set a set) may

  account_is : change.account ≡ a
  account_is = one_there change.account a (account_named s a.identifier) change.named o.named

  -- an account with as many sets as there may be
  pub full : row.generation ≡ most_generations → ⊥
  full most =
      let few : length a.sets < most_sets = subst (λ (b : Account). length b.sets < most_sets) account_is change.few in
      let is : row.generation ≡ length a.sets = o.generation in
      omega arith

  -- a nonce that one of its sets has
  pub used : IsUsed rows n set.params.pw_nonce → ⊥
  used (g, (r, has, e)) =
      let its : SetOf rows n a g r = set_shown rows s.accounts n a g r h.shows.all o.at has in
      at_set (λ (k : KeySet). k.params.pw_nonce ≢ set.params.pw_nonce) a.sets g its.set
      (subst (λ (b : Account). Each (λ (k : KeySet). k.params.pw_nonce ≢ set.params.pw_nonce) b.sets) account_is change.fresh) its.set_is (sym its.nonce ∙ e)

  module _ (present : Params) (is : IsPresent rows n present) where
    -- strings under the last set carry the present parameters
    carries_last : (uuid : Bytes) (item : ItemRow) (text : Bytes) (k : ℕ) → ShowsStrings a.sets uuid item (Under text k) → k ≡ length a.sets → Carries item present
    carries_last uuid item text k shows last =
        let opens = shows.1.opens in
        let its : ShowsGeneration rows n a k shows.1.set = o.shown.generations k shows.1.set shows.1.at in
        let number : is.account.generation ≡ k = present_number rows s n row present there o is ∙ sym last in
        let rows_are : its.row ≡ is.generation =
        one_generation its.row is.generation (rows (key.Generation n k)) its.stands
        (subst (λ (g : ℕ). rows (key.Generation n g) ≡ Some (value.Generation is.generation)) number is.stands) in
        let identifier : present.identifier ≡ a.identifier =
        is.identifier ∙ ap (λ (r : AccountRow). r.identifier) (one_account is.account row (rows (key.Account n)) is.there there) ∙ o.identifier in
        let params : shows.1.set.params ≡ present =
        same_params shows.1.set.params present (its.identifier ∙ sym identifier)
        (sym its.cost ∙ ap (λ (r : GenerationRow). r.pw_cost) rows_are ∙ sym is.cost)
        (sym its.nonce ∙ ap (λ (r : GenerationRow). r.pw_nonce) rows_are ∙ sym is.nonce) in (
          (opens.carries.content.reading, opens.carries.content.reads, opens.carries.content.params_are ∙ params),
          (opens.carries.enc.reading, opens.carries.enc.reads, opens.carries.enc.params_are ∙ params),
        )

    -- an item under another set than the last
    pub behind : (uuid : Bytes) → IsBehind rows n present uuid → ⊥
    behind uuid b = by its.version.body its.strings (in_step its.version its.last)
      where
        its : LastOf rows a uuid b.item
        its = last_shown rows s.accounts n a uuid b.item h.shows.all o.at b.there b.own

        in_step : (v : Version) → last_of uuid a.versions ≡ Some v → IsLive v.body → IsUnder (length a.sets) v.body
        in_step v last live =
            subst (λ (x : Account). IsUnder (length x.sets) v.body) account_is
            (change.same uuid v (subst (λ (x : Account). last_of uuid x.versions ≡ Some v) (sym account_is) last) live)

        clash : (q : Bool) → q ≡ false → q ≡ true → ⊥
        clash q f t = cc

        by : (body : Body) → ShowsStrings a.sets uuid b.item body → (IsLive body → IsUnder (length a.sets) body) → ⊥
        by Gone shows step = clash b.item.deleted b.kept shows.0
        by (Under text k) shows step = b.others (carries_last uuid b.item text k shows (step tt))
