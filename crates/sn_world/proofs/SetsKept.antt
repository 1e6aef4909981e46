-- Which moves leave each account's sets; and which parameters are an account's present ones.
use Rattle.std.proofs.Common.{◌≡◌, ℕ, List, [], ◌∷◌, ◌++◌, length, Option, Some, None, Bool, true, false, refl, sym, ap, ◌∙◌, subst, inl, inr}
use Rattle.std.specs.Prelude.{if◌then◌else◌}
use Rattle.sn_account.specs.Rules.{IsPresent}
use Rattle.sn_laws.specs.Each.{Each}
use Rattle.sn_laws.specs.Lookups.{Bytes, account_of, account_with, draft_at, is_account, last_of}
use Rattle.sn_laws.specs.Moves.{accepted, after, again, changed_where, rewrapped, version_of}
use Rattle.sn_laws.specs.Runs.{end_from}
use Rattle.sn_laws.specs.declared.ideal.Account.{Account}
use Rattle.sn_laws.specs.declared.ideal.Draft.{Draft}
use Rattle.sn_laws.specs.declared.ideal.Ideal.{Ideal}
use Rattle.sn_laws.specs.declared.moves.Move.{Move}
use Rattle.sn_laws.specs.declared.moves.Move.TheVariants.{Accept, Rewrap}
use Rattle.sn_rows.specs.Table.{Rows, rows_after}
use Rattle.sn_rows.specs.declared.change.Change.{Change}
use Rattle.sn_rows.specs.declared.change.Change.TheVariants.{Put, Remove}
use Rattle.sn_rows.specs.declared.key.Key.{Key}
use Rattle.sn_rows.specs.declared.key.Key.TheVariants as key
use Rattle.sn_rows.specs.declared.server_rows.AccountRow.{AccountRow}
use Rattle.sn_rows.specs.declared.server_rows.GenerationRow.{GenerationRow}
use Rattle.sn_rows.specs.declared.server_rows.ItemRow.{ItemRow}
use Rattle.sn_rows.specs.declared.value.Value.{Value}
use Rattle.sn_rows.specs.declared.value.Value.TheVariants as value
use Rattle.sn_shows.specs.Servers.{ShowsAccounts, ShowsGeneration, ShowsIdentity, account_at}
use Rattle.sn_shows.specs.Sets.{set_at}
use Rattle.sn_string.proofs.Facts.{same_params}
use Rattle.sn_string.specs.declared.params.KeySet.{KeySet}
use Rattle.sn_string.specs.declared.params.Params.{Params}
use Rattle.sn_world.proofs.Lists.{each_both}
use Rattle.sn_world.proofs.ShowsLemmas.{ChangedFrom, account_changed, more}
use Rattle.sn_world.proofs.Tokens.{one_account}
use Rattle.sn_world.specs.Serving.{SaysChange, SaysChanges, SaysItem, SaysRow}

-- ---- the moves of a batch of items

-- a new version, accepted or sealed again
abbrev pub IsOfItem : Move → Type 0
IsOfItem (Accept device uuid stamp under) = Unit {0}
IsOfItem (Rewrap uuid stamp under) = Unit {0}
IsOfItem m = ⊥

item_says : (server device : Rows) (name uuid : Bytes) (row : ItemRow) (moves : List Move) → SaysItem server device name uuid row moves → Each IsOfItem moves
item_says server device name uuid row moves (inl (sent, is)) = subst (λ (ms : List Move). Each IsOfItem ms) (sym is) (tt, tt)
item_says server device name uuid row moves (inr (unsent, is)) = subst (λ (ms : List Move). Each IsOfItem ms) (sym is) (tt, tt)

row_says : (server device : Rows) (name : Bytes) (at : Key) (v : Value) (moves : List Move) → SaysRow server device name at v moves → Each IsOfItem moves
row_says server device name (key.Item uuid) (value.Item row) moves says = item_says server device name uuid row moves says
row_says server device name at v moves says = subst (λ (ms : List Move). Each IsOfItem ms) (sym says) tt

change_says : (server device : Rows) (name : Bytes) (change : Change) (moves : List Move) → SaysChange server device name change moves → Each IsOfItem moves
change_says server device name (Put row) moves says = row_says server device name row.key row.value moves says
change_says server device name (Remove at) moves says = subst (λ (ms : List Move). Each IsOfItem ms) (sym says) tt

pub changes_say : (server device : Rows) (name : Bytes) (changes : List Change) (moves : List Move) → SaysChanges server device name changes moves
    → Each IsOfItem moves
changes_say server device name [] moves says = subst (λ (ms : List Move). Each IsOfItem ms) (sym says) tt
changes_say server device name (c ∷ cs) moves (first, later, says, rest, is) =
    subst (λ (ms : List Move). Each IsOfItem ms) (sym is)
    (each_both IsOfItem first later (change_says server device name c first says) (changes_say (rows_after server (c ∷ [])) device name cs later rest))

-- ---- devices

devices_step : (s : Ideal) (m : Move) → IsOfItem m → (after s m).devices ≡ s.devices
devices_step s (Accept device uuid stamp under) is = refl
devices_step s (Rewrap uuid stamp under) is = refl
devices_step s m is = absurd is

pub devices_before : (s : Ideal) (ms : List Move) → Each IsOfItem ms → (end_from s ms).devices ≡ s.devices
devices_before s [] all = refl
devices_before s (m ∷ ms) all = devices_before (after s m) ms all.1 ∙ devices_step s m all.0

-- ---- sets

-- the account of this number had these sets before
abbrev HadSets : List Account → ℕ → Account → Type 0
HadSets accounts n b = (a : Account) × (account_at n accounts ≡ Some a) × (b.sets ≡ a.sets)

sets_changed : (p : Account → Bool) (f : Account → Account) → ((x : Account) → (f x).sets ≡ x.sets) → (accounts : List Account) (n : ℕ) (b : Account)
    → account_at n (changed_where p f accounts) ≡ Some b → HadSets accounts n b
sets_changed p f same accounts n b at =
    let from : ChangedFrom p f accounts n b = account_changed p f accounts n b at in
    (from.account, from.at, subst (λ (x : Account). x.sets ≡ from.account.sets) from.is (by from.account (p from.account)))
  where
    by : (x : Account) (q : Bool) → (if q then f x else x).sets ≡ x.sets
    by x true = same x
    by x false = refl

sets_accepted : (accounts : List Account) (a : Option Account) (d : Option Draft) (stamp n : ℕ) (b : Account) → account_at n (accepted accounts a d stamp) ≡ Some b
    → HadSets accounts n b
sets_accepted accounts None d stamp n b at = (b, at, refl)
sets_accepted accounts (Some a) None stamp n b at = (b, at, refl)
sets_accepted accounts (Some a) (Some d) stamp n b at =
    sets_changed (is_account a.identifier) (more (version_of stamp (length a.sets) d)) (λ x. refl) accounts n b at

sets_rewrapped : (accounts : List Account) (a : Option Account) (uuid : Bytes) (stamp n : ℕ) (b : Account) → account_at n (rewrapped accounts a uuid stamp) ≡ Some b
    → HadSets accounts n b
sets_rewrapped accounts None uuid stamp n b at = (b, at, refl)
sets_rewrapped accounts (Some a) uuid stamp n b at =
    sets_changed (is_account a.identifier) (λ x. record x { versions = x.versions ++ again stamp (length a.sets) (last_of uuid a.versions) }) (λ x. refl) accounts n b at

sets_step : (s : Ideal) (m : Move) → IsOfItem m → (n : ℕ) (b : Account) → account_at n (after s m).accounts ≡ Some b → HadSets s.accounts n b
sets_step s (Accept device uuid stamp under) is n b at = sets_accepted s.accounts (account_of s device) (draft_at s device uuid) stamp n b at
sets_step s (Rewrap uuid stamp under) is n b at = sets_rewrapped s.accounts (account_with s.accounts uuid) uuid stamp n b at
sets_step s m is n b at = absurd is

pub sets_before : (s : Ideal) (ms : List Move) → Each IsOfItem ms → (n : ℕ) (b : Account) → account_at n (end_from s ms).accounts ≡ Some b
    → (a : Account) × (account_at n s.accounts ≡ Some a) × (b.sets ≡ a.sets)
sets_before s [] all n b at = (b, at, refl)
sets_before s (m ∷ ms) all n b at =
    let mid = sets_before (after s m) ms all.1 n b at in
    let first = sets_step s m all.0 n mid.0 mid.1 in
    (first.0, first.1, mid.2 ∙ first.2)

-- ---- parameters

one_generation : (x y : GenerationRow) (found : Option Value) → found ≡ Some (value.Generation x) → found ≡ Some (value.Generation y) → x ≡ y
one_generation x y found e k = cc

-- the present ones are those of the account's last set
pub present_params : (server : Rows) (accounts : List Account) (n : ℕ) (a : Account) (present : Params) (last : KeySet) → ShowsAccounts server accounts
    → account_at n accounts ≡ Some a → IsPresent server n present → set_at (length a.sets) a.sets ≡ Some last → present ≡ last.params
present_params server accounts n a present last shows at is last_is =
    let its : ShowsIdentity server n a = (shows.each n a at).identity in
    let set : ShowsGeneration server n a (length a.sets) last = (shows.each n a at).generations (length a.sets) last last_is in
    let row : is.account ≡ its.row = one_account is.account its.row (server (key.Account n)) is.there its.stands in
    let number : is.account.generation ≡ length a.sets = ap (λ (z : AccountRow). z.generation) row ∙ its.generation in
    let generation : is.generation ≡ set.row =
    one_generation is.generation set.row (server (key.Generation n (length a.sets)))
    (ap (λ (g : ℕ). server (key.Generation n g)) (sym number) ∙ is.stands) set.stands in
    same_params present last.params (is.identifier ∙ ap (λ (z : AccountRow). z.identifier) row ∙ its.identifier ∙ sym set.identifier)
    (is.cost ∙ ap (λ (g : GenerationRow). g.pw_cost) generation ∙ set.cost) (is.nonce ∙ ap (λ (g : GenerationRow). g.pw_nonce) generation ∙ set.nonce)

-- so they are after moves of items
pub params_after : (server : Rows) (s : Ideal) (ms : List Move) (n : ℕ) (a : Account) (present : Params) → ShowsAccounts server s.accounts → Each IsOfItem ms
    → account_at n (end_from s ms).accounts ≡ Some a → IsPresent server n present → (last : KeySet) → set_at (length a.sets) a.sets ≡ Some last → present ≡ last.params
params_after server s ms n a present shows all at is last last_is =
    let was = sets_before s ms all n a at in
    present_params server s.accounts n was.0 present last shows was.1 is (subst (λ (sets : List KeySet). set_at (length sets) sets ≡ Some last) was.2 last_is)
