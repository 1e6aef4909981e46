-- Rows that are sound by kinds are sound, and the first kind that isn't.
use Rattle.std.proofs.Common.{◌≡◌, ◌∙◌, ℕ, ◌+◌, ◌<◌, ◌≤◌, ◌↔◌, Bool, true, false, IsTrue, Some, Result, IfOk, refl, sym, ap, subst, arith, ⊎_elim}
use Rattle.std.proofs.Math.Nat.{eq-or-lt_of_le}
use Rattle.std.proofs.lemmas.Result.{IfOk-weaker}
use Rattle.sn_rows.specs.Table.{Rows}
use Rattle.sn_rows.specs.declared.key.Key.{Key}
use Rattle.sn_rows.specs.declared.key.Key.TheVariants as key
use Rattle.sn_rows.specs.declared.kind.RowKind.TheVariants as kind
use Rattle.sn_rows.specs.declared.server_rows.AccountRow.{AccountRow}
use Rattle.sn_rows.specs.declared.server_rows.StoreRow.{StoreRow}
use Rattle.sn_rows.specs.declared.value.Value.{Value}
use Rattle.sn_rows.specs.declared.value.Value.TheVariants as value
use Rattle.sn_row_map.specs.RowMaps.{row_in}
use Rattle.sn_row_map.specs.declared.row_map.RowMap.{RowMap}
use Rattle.sn_account.specs.Lookups.{HasAccount, HasStore}
use Rattle.sn_account.specs.Sound.{IsSound, most_accounts, most_generations}
use Rattle.sn_account.specs.Unsound.{AreSoundAccounts, AreSoundGenerations, AreSoundItems, HasKinds, HasSoundAccount, HasSoundStore, IsSoundKind}
use Rattle.sn_account.specs.Walks.{AllPass, HasGenerations, HasReached, IdentifiersDiffer, IsNumbered, IsReached, IsSoundRow, StampsDiffer}
use Rattle.sn_account.proofs.NamedLemmas.{one_account, one_store}

-- ---- the kinds together

pub all_sound : (rows : Rows) (store : StoreRow) → HasKinds rows → HasStore rows store → store.accounts ≤ most_accounts
    → AreSoundAccounts rows store.accounts → AreSoundGenerations rows → AreSoundItems rows store.last → IsSound rows
all_sound rows store kinds stands bound a g i = record {
  kinds = kinds;
  store = store;
  stands = stands;
  bound = bound;
  accounts = λ n from upto. (let at = a.accounts n from upto in (at.0, at.1));
  numbered = a.numbered;
  generation = λ n row has. (
      let within = a.numbered n (value.Account row) has in
      let at = a.accounts n within.0 within.1 in
      subst (λ (r : AccountRow). (1 ≤ r.generation) × (r.generation ≤ most_generations)) (one_account rows n at.0 row at.1 has) (at.2, at.3)
      );
  apart = a.apart;
  params = g.params;
  no_more = g.no_more;
  fresh = g.fresh;
  named = λ u row has. (i.items u row has).named;
  owned = λ u row has. (i.items u row has).owned;
  items = λ u row has. (i.items u row has).item;
  stamps = i.stamps;
}

pub not_true : {A : Type 0} (b : Bool) → IsTrue b ↔ A → b ≡ false → ¬ A
not_true b when missed a = let holds : b ≡ true = when.1 a in cc

-- ---- the first kind

pub too_many : (rows : Rows) (store : StoreRow) → HasStore rows store → most_accounts < store.accounts → ¬ (HasSoundStore rows)
too_many rows store has more (other, stands, bound) =
    let same : other.accounts ≡ store.accounts = ap (λ (s : StoreRow). s.accounts) (one_store rows other store stands has) in
    omega (arith, same, bound, more)

pub has_accounts : (rows : Rows) (store : StoreRow) → HasStore rows store → AreSoundAccounts rows store.accounts → IsSoundKind rows kind.Account
has_accounts rows store has sound other stands =
    subst (λ (s : StoreRow). AreSoundAccounts rows s.accounts) (one_store rows store other has stands) sound

pub no_accounts : (rows : Rows) (store : StoreRow) (b : Bool) → HasStore rows store → IsTrue b ↔ AreSoundAccounts rows store.accounts → b ≡ false
    → ¬ (IsSoundKind rows kind.Account)
no_accounts rows store b has when missed sound = not_true b when missed (sound store has)

pub no_generations : (rows : Rows) (b : Bool) → IsTrue b ↔ AreSoundGenerations rows → b ≡ false → ¬ (IsSoundKind rows kind.Generation)
no_generations rows b when missed sound = not_true b when missed sound

pub no_items : (rows : Rows) (store : StoreRow) (b : Bool) → HasStore rows store → IsTrue b ↔ AreSoundItems rows store.last → b ≡ false
    → ¬ (IsSoundKind rows kind.Item)
no_items rows store b has when missed sound = not_true b when missed (sound store has)

-- each account below this number has its generations
abbrev pub HaveGenerations : Rows → ℕ → Type 0
HaveGenerations rows next = (n : ℕ) (a : AccountRow) → 1 ≤ n → n < next → HasAccount rows n a → HasGenerations rows n a.generation

pub none_yet : (rows : Rows) → HaveGenerations rows 1
none_yet rows n a from below has = absurd (omega (arith, from, below))

-- one account more
pub one_more : (rows : Rows) (next : ℕ) (a : AccountRow) → HaveGenerations rows next → HasAccount rows next a → HasGenerations rows next a.generation
    → HaveGenerations rows (next + 1)
one_more rows next a earlier has whole n b from below there = ⊎_elim
    (λ (e : n ≡ next). (
    let here : HasAccount rows next b = subst (λ (k : ℕ). HasAccount rows k b) e there in
    let same : a ≡ b = one_account rows next a b has here in
    subst (λ (k : ℕ). HasGenerations rows k b.generation) (sym e) (subst (λ (x : AccountRow). HasGenerations rows next x.generation) same whole)))
    (λ (lt : n < next). earlier n b from lt there)
    (eq-or-lt_of_le (omega (arith, below)))

-- ---- accounts

module _ (map : RowMap) (all : Rows) (same : (k : Key) → all k ≡ row_in map k) where
  pub accounts_numbered : (count : ℕ) → AreSoundAccounts all count → AllPass (λ k v. IsNumbered count k) map kind.Account
  accounts_numbered count sound k v of stands n named = sound.numbered n v (ap all (sym named) ∙ same k ∙ stands)

  within : (count : ℕ) → AllPass (λ k v. IsNumbered count k) map kind.Account → (n : ℕ) (v : Value) → all (key.Account n) ≡ Some v → (1 ≤ n) × (n ≤ count)
  within count pass n v stands = pass (key.Account n) v refl (sym (same (key.Account n)) ∙ stands) n refl

  pub accounts_sound : (count : ℕ) → AllPass (λ k v. IsNumbered count k) map kind.Account → ((n : ℕ) → 1 ≤ n → n ≤ count → HasSoundAccount all n)
      → IdentifiersDiffer all count → AreSoundAccounts all count
  accounts_sound count pass there differ = record {
    accounts = there;
    numbered = within count pass;
    apart = λ n m a b has other equal.
        let low = within count pass n (value.Account a) has in
        let high = within count pass m (value.Account b) other in
        differ n m a b low.0 low.1 high.0 high.1 has other equal;
  }

  -- ---- generations

  pub generations_reached : AreSoundGenerations all → AllPass (λ k v. IsReached all k) map kind.Generation
  generations_reached sound k v of stands n g named = sound.no_more n g v (ap all (sym named) ∙ same k ∙ stands)

  reached : AllPass (λ k v. IsReached all k) map kind.Generation → (n g : ℕ) (v : Value) → all (key.Generation n g) ≡ Some v → HasReached all n g
  reached pass n g v stands = pass (key.Generation n g) v refl (sym (same (key.Generation n g)) ∙ stands) n g refl

  of : (count : ℕ) → AreSoundAccounts all count → HaveGenerations all (count + 1) → (n : ℕ) (a : AccountRow) → HasAccount all n a → HasGenerations all n a.generation
  of count accounts whole n a has = let at = accounts.numbered n (value.Account a) has in whole n a at.0 (omega (arith, at.1)) has

  pub generations_sound : (count : ℕ) → AreSoundAccounts all count → AllPass (λ k v. IsReached all k) map kind.Generation → HaveGenerations all (count + 1)
      → AreSoundGenerations all
  generations_sound count accounts pass whole = record {
    params = λ n g a has from upto. (of count accounts whole n a has).there g from upto;
    no_more = reached pass;
    fresh = λ n g h r s has other equal.
        let first = reached pass n g (value.Generation r) has in
        let second = reached pass n h (value.Generation s) other in
        let one : second.0 ≡ first.0 = one_account all n second.0 first.0 second.1 first.1 in
        let upto : h ≤ first.0.generation = subst (λ (x : AccountRow). h ≤ x.generation) one second.3 in
        (of count accounts whole n first.0 first.1).differ g h r s first.2 first.3 second.2 upto has other equal;
  }

  pub generations_of : AreSoundGenerations all → (n : ℕ) (a : AccountRow) → HasAccount all n a → HasGenerations all n a.generation
  generations_of sound n a has = record {
    there = λ g from upto. sound.params n g a has from upto;
    differ = λ g h r s _ _ _ _ first second equal. sound.fresh n g h r s first second equal;
  }

  -- ---- items

  pub items_pass : (last : ℕ) → AreSoundItems all last → AllPass (λ k v. IsSoundRow all last k v) map kind.Item
  items_pass last sound k v of stands u i named held =
      sound.items u i (ap all (sym named) ∙ same k ∙ stands ∙ ap Some held)

  pub items_sound : (last : ℕ) → AllPass (λ k v. IsSoundRow all last k v) map kind.Item → StampsDiffer all → AreSoundItems all last
  items_sound last pass differ = record {
    items = λ u i has. pass (key.Item u) (value.Item i) refl (sym (same (key.Item u)) ∙ has) u i refl refl;
    stamps = differ;
  }

-- ---- the answers

pub never : {A : Type 0} → ¬ A → IsTrue false ↔ A
never not = (λ holds. cc, λ a. absurd (not a))

pub accounts_ok : {E : Type 0} (map : RowMap) (all : Rows) → ((k : Key) → all k ≡ row_in map k) → (count : ℕ) (result : Result Bool E)
    → AllPass (λ k v. IsNumbered count k) map kind.Account → ((n : ℕ) → 1 ≤ n → n ≤ count → HasSoundAccount all n)
    → IfOk result (λ differ. IsTrue differ ↔ IdentifiersDiffer all count) → IfOk result (λ sound. IsTrue sound ↔ AreSoundAccounts all count)
accounts_ok map all same count result pass there differ =
    IfOk-weaker result (λ (b : Bool). IsTrue b ↔ IdentifiersDiffer all count) (λ (b : Bool). IsTrue b ↔ AreSoundAccounts all count)
    (λ b when. (
      λ holds. accounts_sound map all same count pass there (when.0 holds),
      λ sound. when.1 (λ n m a b _ _ _ _ has other equal. sound.apart n m a b has other equal),
    )) differ

pub items_ok : {E : Type 0} (map : RowMap) (all : Rows) → ((k : Key) → all k ≡ row_in map k) → (last : ℕ) (result : Result Bool E)
    → AllPass (λ k v. IsSoundRow all last k v) map kind.Item
    → IfOk result (λ differ. IsTrue differ ↔ StampsDiffer all) → IfOk result (λ sound. IsTrue sound ↔ AreSoundItems all last)
items_ok map all same last result pass differ =
    IfOk-weaker result (λ (b : Bool). IsTrue b ↔ StampsDiffer all) (λ (b : Bool). IsTrue b ↔ AreSoundItems all last)
    (λ b when. (λ holds. items_sound map all same last pass (when.0 holds), λ sound. when.1 sound.stamps)) differ

-- ---- one row

pub reached_some : (rows : Rows) (n g : ℕ) (a : AccountRow) (b : Bool) → HasAccount rows n a → IsTrue b ↔ ((1 ≤ g) × (g ≤ a.generation))
    → IsTrue b ↔ HasReached rows n g
reached_some rows n g a b has when = (
  λ hit. (let within = when.0 hit in (a, has, within.0, within.1)),
  λ there. when.1 (there.2, subst (λ (x : AccountRow). g ≤ x.generation) (one_account rows n there.0 a there.1 has) there.3),
)

pub reached_key : (rows : Rows) (k : Key) (n g : ℕ) (b : Bool) → k ≡ key.Generation n g → IsTrue b ↔ HasReached rows n g → IsTrue b ↔ IsReached rows k
reached_key rows k n g b is when = (
  λ hit m h named. (
      let same : key.Generation n g ≡ key.Generation m h = sym is ∙ named in
      let first : n ≡ m = cc in
      let second : g ≡ h = cc in
      subst (λ (x : ℕ). HasReached rows x h) first (subst (λ (y : ℕ). HasReached rows n y) second (when.0 hit))
      ),
  λ all. when.1 (all n g is),
)

pub account_there : (rows : Rows) (n : ℕ) (a : AccountRow) (b : Bool) → HasAccount rows n a
    → IsTrue b ↔ ((1 ≤ a.generation) × (a.generation ≤ most_generations)) → IsTrue b ↔ HasSoundAccount rows n
account_there rows n a b has when = (
  λ hit. (let within = when.0 hit in (a, has, within.0, within.1)),
  λ there. when.1 (subst (λ (x : AccountRow). (1 ≤ x.generation) × (x.generation ≤ most_generations)) (one_account rows n there.0 a there.1 has) (there.2, there.3)),
)

-- ---- ends of the walk over accounts

pub have_none : (rows : Rows) (count : ℕ) → count < 1 → HaveGenerations rows (count + 1)
have_none rows count none n a from below has = absurd (omega (arith, none, from, below))

pub have_upto : (rows : Rows) (count next : ℕ) → count < next → HaveGenerations rows next → HaveGenerations rows (count + 1)
have_upto rows count next past all n a from below has = all n a from (omega (arith, past, below)) has
