-- The sets of an account and of a device through a change of password: one more is made, the device adopts it, and at the end the one before is retired.
use Rattle.std.proofs.Common.{◌≡◌, ◌⊎◌, ◌<◌, ◌≤◌, ℕ, suc, ◌+◌, List, [], ◌∷◌, ◌++◌, length, Option, Some, None, Bool, true, false, refl, sym, ap, ◌∙◌, subst, inl, inr, arith}
use Rattle.std.proofs.lemmas.List.{append-nil, length-append}
use Rattle.std.specs.Prelude.{find, if◌then◌else◌}
use Rattle.std.specs.Str.{bytes_eq}
use Rattle.sn_account.specs.Sessions.{session_token}
use Rattle.sn_account.specs.Sound.{most_generations}
use Rattle.sn_adopted.specs.Moves.{adopting, reposting}
use Rattle.sn_device.specs.Steps.{adopts}
use Rattle.sn_finished.specs.Finished.{IsFinishedBy, Retires}
use Rattle.sn_laws.proofs.Facts.{device_after, device_joined, end_from-append, more_sets, one_there, text_same}
use Rattle.sn_laws.specs.Each.{One}
use Rattle.sn_laws.specs.Lookups.{Bytes, account_named, account_of, device_named, empty, greatest, is_account, is_device}
use Rattle.sn_laws.specs.Moves.{after}
use Rattle.sn_laws.specs.Runs.{Legal, LegalFrom, end_from}
use Rattle.sn_laws.specs.Runs.{end as end_of}
use Rattle.sn_laws.specs.declared.ideal.Account.{Account}
use Rattle.sn_laws.specs.declared.ideal.Device.{Device}
use Rattle.sn_laws.specs.declared.ideal.Ideal.{Ideal}
use Rattle.sn_laws.specs.declared.moves.Move.{Move}
use Rattle.sn_laws.specs.declared.moves.Move.TheVariants.{Change as Changing, Join, Post, Retire, Unpost}
use Rattle.sn_passwd.proofs.Retiring.{beside, changed_there, device_kept, grows_from, one_back, retired_among}
use Rattle.sn_passwd.proofs.Points.{HasKeys, HoldsAlone, last_alone}
use Rattle.sn_rows.specs.Table.{Rows}
use Rattle.sn_rows.specs.declared.change.Change.{Change}
use Rattle.sn_rows.specs.declared.change.Change.TheVariants.{Put, Remove}
use Rattle.sn_rows.specs.declared.device_rows.OwnerRow.{OwnerRow}
use Rattle.sn_rows.specs.declared.key.Key.{Key}
use Rattle.sn_rows.specs.declared.key.Key.TheVariants as key
use Rattle.sn_rows.specs.declared.value.Value.{Value}
use Rattle.sn_rows.specs.declared.value.Value.TheVariants as value
use Rattle.sn_shows.proofs.Facts.{greatest_of_one, greatest_of_two}
use Rattle.sn_shows.specs.Laws.{AccountsApart, HasAccount}
use Rattle.sn_string.specs.declared.params.KeySet.{KeySet}
use Rattle.sn_world.proofs.Facts.{account_is, device_account, few_numbers, legal_joined, named_at, named_identifier, one_owner, same_owner}
use Rattle.sn_world.specs.Committing.{MayAdopt, SaysAdoption}
use Rattle.sn_world.specs.Happens.{Trace, commits}
use Rattle.sn_world.specs.Holds.{DeviceToken, Holds, TokensDiffer}
use Rattle.sn_world.specs.Serving.{change_of, changes_in}
use Rattle.sn_world.specs.World.{World}

-- ---- what is known of the sets

-- the account was there in that state, with so many sets at most
pub record HadAtMost (s : Ideal) (a : Account) (count : ℕ) : Type 0 where
  pub was : Account
  pub named : account_named s a.identifier ≡ Some was
  pub fewer : length was.sets ≤ count

-- with no more than it has
abbrev pub Since : Ideal → Bytes → Ideal → Type 0
Since s name t = (d : Device) (a : Account) → HasAccount t name d a → HadAtMost s a (length a.sets)

-- the device holds these sets, and the account has the next one to the first of them, and had none above it
pub record HoldsFrom (s : Ideal) (d : Device) (a : Account) (beyond : List ℕ) : Type 0 where
  pub first : ℕ
  pub held : d.held ≡ first ∷ beyond
  pub next : suc first ≡ length a.sets
  pub had : HadAtMost s a first

-- the device holds the set before the last
abbrev pub HoldsBefore : Ideal → Bytes → Ideal → Type 0
HoldsBefore s name t = (d : Device) (a : Account) → HasAccount t name d a → HoldsFrom s d a []

-- it holds the last too
abbrev pub HoldsBoth : Ideal → Bytes → Ideal → Type 0
HoldsBoth s name t = (d : Device) (a : Account) → HasAccount t name d a → HoldsFrom s d a (length a.sets ∷ [])

-- the account has more sets than it had, and the device has retired the one before the last
pub record IsRenewed (s t : Ideal) (name : Bytes) (a : Account) : Type 0 where
  pub was : Account
  pub named : account_named s a.identifier ≡ Some was
  pub more : length was.sets < length a.sets
  pub moves : List Move
  pub legal : Legal moves
  pub is : t ≡ end_of moves
  pub finished : IsFinishedBy moves a name

-- an account of the same identifier was there too
had_too : (s : Ideal) (a b : Account) (count : ℕ) → b.identifier ≡ a.identifier → HadAtMost s b count → HadAtMost s a count
had_too s a b count same x =
    record { was = x.was; named = subst (λ (i : Bytes). account_named s i ≡ Some x.was) same x.named; fewer = x.fewer }

-- ---- legal moves

module _ (name : Bytes) where
  -- the device's account, behind them
  since_after : (t : Ideal) (moves : List Move) (d : Device) (a : Account) → HasAccount t name d a → LegalFrom t moves → Since t name (end_from t moves)
  since_after t moves d a has legal e b later =
      let x = device_kept moves t name d has.device in
      let y = grows_from moves t legal d.account a has.account in
      let device : x.0 ≡ e = one_there x.0 e (device_named (end_from t moves) name) x.1 later.device in
      let own : e.account ≡ d.account = ap (λ (z : Device). z.account) (sym device) ∙ x.2 in
      let there : account_named (end_from t moves) d.account ≡ Some b =
      subst (λ (i : Bytes). account_named (end_from t moves) i ≡ Some b) own later.account in
      let same : y.0 ≡ b = one_there y.0 b (account_named (end_from t moves) d.account) y.1 there in
      record {
        was = a;
        named = subst (λ (i : Bytes). account_named t i ≡ Some a) (sym (named_identifier (end_from t moves) d.account b there)) has.account;
        fewer = subst (λ (z : Account). length a.sets ≤ length z.sets) same y.2;
      }

  pub since_first : (s t : Ideal) (moves : List Move) (d : Device) (a : Account) → t ≡ s → HasAccount t name d a → LegalFrom t moves
      → Since s name (end_from t moves)
  since_first s t moves d a is has legal = subst (λ (z : Ideal). Since z name (end_from t moves)) is (since_after t moves d a has legal)

-- ---- a change is served

-- one set more, or none
abbrev pub IsOneChange : List Move → Type 0
IsOneChange moves = (moves ≡ []) ⊎ ((identifier : Bytes) × (number : ℕ) × (set : KeySet) × (moves ≡ Changing identifier number set ∷ []))

row_change : (set : KeySet) (at : Key) (v : Value) → IsOneChange (change_of set at v)
row_change set (key.Account number) (value.Account row) = inr (row.identifier, row.generation, set, refl)
row_change set at v = inl refl

pub one_change : (begins : Option KeySet) (changes : List Change) → IsOneChange (changes_in begins changes)
one_change None changes = inl refl
one_change (Some set) [] = inl refl
one_change (Some set) (Put row ∷ changes) = row_change set row.key row.value
one_change (Some set) (Remove at ∷ changes) = inl refl

one_more : (t : Ideal) (moves : List Move) → IsOneChange moves → (identifier : Bytes) (a b : Account) → account_named t identifier ≡ Some a
    → account_named (end_from t moves) identifier ≡ Some b → length b.sets ≤ suc (length a.sets)
one_more t moves (inl none) identifier a b found later =
    let there : account_named t identifier ≡ Some b = subst (λ (ms : List Move). account_named (end_from t ms) identifier ≡ Some b) none later in
    let same : length a.sets ≡ length b.sets = ap (λ (z : Account). length z.sets) (one_there a b (account_named t identifier) found there) in
    omega (arith, same)
one_more t moves (inr (other, number, set, is)) identifier a b found later =
    by (bytes_eq other identifier) refl (subst (λ (ms : List Move). account_named (end_from t ms) identifier ≡ Some b) is later)
  where
    by : (q : Bool) → bytes_eq other identifier ≡ q → account_named (after t (Changing other number set)) identifier ≡ Some b
        → length b.sets ≤ suc (length a.sets)
    by true on there =
        let same : length (more_sets set a).sets ≡ length b.sets =
        ap (λ (z : Account). length z.sets)
        (one_there (more_sets set a) b (account_named (after t (Changing other number set)) identifier)
        (changed_there t.accounts identifier other (more_sets set) a (λ x. refl) on found) there) in
        let longer : length (more_sets set a).sets ≡ length a.sets + 1 = length-append a.sets (set ∷ []) in
        omega (arith, same, longer)
    by false off there =
        let same : length a.sets ≡ length b.sets =
        ap (λ (z : Account). length z.sets)
        (one_there a b (account_named t identifier) found (sym (beside t.accounts identifier other (more_sets set) (λ x. refl) off) ∙ there)) in
        omega (arith, same)

devices_stay : (t : Ideal) (moves : List Move) → IsOneChange moves → (name : Bytes) → device_named (end_from t moves) name ≡ device_named t name
devices_stay t moves (inl none) name = ap (λ (ms : List Move). device_named (end_from t ms) name) none
devices_stay t moves (inr (other, number, set, is)) name = ap (λ (ms : List Move). device_named (end_from t ms) name) is

-- where the device may adopt it, there is one more
module _ (apart : AccountsApart) (secret : Bytes) (x : World) (s t : Ideal) (moves : List Move) (name : Bytes) (h : Holds secret x (end_from t moves))
    (change : IsOneChange moves) (e : Device) (b : Account) (was : HasAccount t name e b) (alone : HoldsAlone t name) (since : Since s name t) (set : KeySet)
    (token : Bytes) (may : MayAdopt secret (end_from t moves) name set token) where
  abbrev u : Ideal
  u = end_from t moves

  pub changed_before : HoldsBefore s name (end_from t moves)
  changed_before d a has =
      let named : device_named t name ≡ Some d = sym (devices_stay t moves change name) ∙ has.device in
      let device : e ≡ d = one_there e d (device_named t name) was.device named in
      let found : account_named t d.account ≡ Some b = subst (λ (z : Device). account_named t z.account ≡ Some b) device was.account in
      let there : HasAccount t name d b = record { device = named; account = found } in
      let held : d.held ≡ length b.sets ∷ [] = alone d b there in
      let most : length a.sets ≤ suc (length b.sets) = one_more t moves change d.account b a found has.account in
      let adopts_it : HasAccount u name may.device may.account =
      device_account apart secret x u h name may.number may.account may.device may.at may.named may.own in
      let device_is : may.device ≡ d = one_there may.device d (device_named u name) may.named has.device in
      let account_is : may.account ≡ a =
      one_there may.account a (account_named u d.account)
      (subst (λ (z : Device). account_named u z.account ≡ Some may.account) device_is adopts_it.account) has.account in
      let above : greatest 0 d.held < length a.sets =
      subst (λ (z : Account). greatest 0 d.held < length z.sets) account_is
      (subst (λ (z : Device). greatest 0 z.held < length may.account.sets) device_is may.above) in
      let g : greatest 0 d.held ≡ length b.sets = ap (greatest 0) held ∙ greatest_of_one (length b.sets) in
      record {
        first = length b.sets;
        held = held;
        next = omega (arith, most, above, g);
        had = had_too s a b (length b.sets) (named_identifier t d.account b found ∙ sym (named_identifier u d.account a has.account)) (since d b there);
      }

-- ---- it is adopted

-- what was sent again leaves accounts and devices
reposted_stay : (name : Bytes) (uuids : List Bytes) (t : Ideal)
    → ((end_from t (reposting name uuids)).devices ≡ t.devices) × ((end_from t (reposting name uuids)).accounts ≡ t.accounts)
reposted_stay name [] t = (refl, refl)
reposted_stay name (uuid ∷ uuids) t = reposted_stay name uuids (after (after t (Unpost name uuid)) (Post name uuid))

module _ (rows : Rows) (name : Bytes) (s t : Ideal) (moves : List Move) (x : SaysAdoption rows t name moves) (before : HoldsBefore s name t) where
  its : HoldsFrom s x.device x.account []
  its = before x.device x.account x.has

  abbrev joining : Move
  joining = Join name x.account.identifier (length x.account.sets)

  abbrev joined : Ideal
  joined = after t joining

  end_is : end_from t moves ≡ end_from joined (reposting name x.uuids)
  end_is =
      ap (λ (ms : List Move). end_from t ms) x.moves_are
      ∙ ap (λ (held : List ℕ). end_from t (adopting name x.account.identifier (length x.account.sets) held ++ reposting name x.uuids)) its.held

  abbrev holder : Device
  holder = device_joined name x.account.identifier (length x.account.sets) (Some x.device)

  joined_is : device_named joined name ≡ Some holder
  joined_is =
      device_after t joining name
      ∙ ap (λ (b : Bool). if b then Some (device_joined name x.account.identifier (length x.account.sets) (device_named t name)) else device_named t name)
      (text_same name name refl)
      ∙ ap (λ (found : Option Device). Some (device_joined name x.account.identifier (length x.account.sets) found)) x.has.device

  adoption_both : HoldsBoth s name (end_from t moves)
  adoption_both d a has =
      let stay = reposted_stay name x.uuids joined in
      let named : device_named (end_from t moves) name ≡ Some holder =
      ap (λ (u : Ideal). device_named u name) end_is ∙ ap (λ (devices : List Device). find (is_device name) devices) stay.0 ∙ joined_is in
      let device : holder ≡ d = one_there holder d (device_named (end_from t moves) name) named has.device in
      let found : account_named (end_from t moves) d.account ≡ Some x.account =
      ap (λ (u : Ideal). account_named u d.account) end_is ∙ ap (λ (accounts : List Account). find (is_account d.account) accounts) stay.1
      ∙ subst (λ (z : Device). account_named t z.account ≡ Some x.account) device x.has.account in
      let account : x.account ≡ a = one_there x.account a (account_named (end_from t moves) d.account) found has.account in
      subst (λ (z : Account). HoldsFrom s d z (length z.sets ∷ [])) account
      (record {
        first = its.first;
        held = ap (λ (z : Device). z.held) (sym device) ∙ ap (λ (held : List ℕ). held ++ length x.account.sets ∷ []) its.held;
        next = its.next;
        had = its.had;
      })

pub adopted_both : (secret name : Bytes) (v next : World) (s t : Ideal) (set : KeySet) (token : Bytes) (changes : List Change) (moves : List Move)
    → Trace secret v t (commits name (adopts set token) changes true ∷ []) moves next → HoldsBefore s name t → HoldsBoth s name (end_from t moves)
adopted_both secret name v next s t set token changes moves (mid, first, later, does, said, (none, same), is) before =
    subst (λ (ms : List Move). HoldsBoth s name (end_from t ms)) (sym (is ∙ ap (λ (ms : List Move). first ++ ms) none ∙ append-nil first))
    (adoption_both (v.devices name) name s t first said before)

-- ---- and the set before is retired

-- the session token says that the account has got no other set meanwhile
module _ (apart : AccountsApart) (secret : Bytes) (differ : TokensDiffer secret) (name : Bytes) (v next : World) (s t : Ideal) (moves : List Move)
    (h : Holds secret v t) (later : Holds secret next (end_from t moves)) (legal : LegalFrom t moves) (identifier token : Bytes) (present : KeySet)
    (had : HasKeys (v.devices name) identifier token present) (keys : HasKeys (next.devices name) identifier token present) (both : HoldsBoth s name t)
    (alone : HoldsAlone (end_from t moves) name) (e : Device) (b : Account) (was : HasAccount t name e b) (d : Device) (a : Account)
    (has : HasAccount (end_from t moves) name d a) where
  abbrev end : Ideal
  end = end_from t moves

  own : DeviceToken secret (v.devices name) t.accounts e
  own = h.own_tokens name e was.device

  now : DeviceToken secret (next.devices name) end.accounts d
  now = later.own_tokens name d has.device

  token_was : token ≡ session_token secret own.number (greatest 0 e.held)
  token_was =
      sym had.token_is
      ∙ ap (λ (o : OwnerRow). o.token) (one_owner had.owner own.owner (v.devices name key.Owner) had.holds.owned own.has) ∙ own.is

  token_now : token ≡ session_token secret now.number (greatest 0 d.held)
  token_now =
      sym keys.token_is
      ∙ ap (λ (o : OwnerRow). o.token) (one_owner keys.owner now.owner (next.devices name key.Owner) keys.holds.owned now.has) ∙ now.is

  same_number : own.number ≡ now.number
  same_number =
      same_owner secret token own.number now.number (greatest 0 e.held) (greatest 0 d.held) (few_numbers apart secret v t h own.number own.account own.at)
      (few_numbers apart secret next end later now.number now.account now.at) token_was token_now

  from : HoldsFrom s e b (length b.sets ∷ [])
  from = both e b was

  greatest_was : greatest 0 e.held ≡ length b.sets
  greatest_was =
      let first : from.first < length b.sets = let above : suc from.first ≡ length b.sets = from.next in omega arith in
      ap (greatest 0) from.held ∙ greatest_of_two from.first (length b.sets) first

  greatest_now : greatest 0 d.held ≡ length a.sets
  greatest_now = last_alone end name alone d a has

  same_count : length a.sets ≡ length b.sets
  same_count =
      let there = named_at t e.account b was.account in
      let there_now = named_at end d.account a has.account in
      let few_was : length b.sets ≤ most_generations = h.few.sets_few there.0 b there.1 in
      let few_now : length a.sets ≤ most_generations = later.few.sets_few there_now.0 a there_now.1 in
      let one : greatest 0 e.held ≡ length b.sets = greatest_was in
      let two : greatest 0 d.held ≡ length a.sets = greatest_now in
      let tokens : session_token secret now.number (greatest 0 d.held) ≡ session_token secret now.number (greatest 0 e.held) =
      sym token_now ∙ token_was ∙ ap (λ (n : ℕ). session_token secret n (greatest 0 e.held)) same_number in
      sym two
      ∙ differ now.number (greatest 0 d.held) (greatest 0 e.held) (few_numbers apart secret next end later now.number now.account now.at) (omega arith)
      (omega arith) tokens
      ∙ one

  kept_account : d.account ≡ e.account
  kept_account =
      let x = device_kept moves t name e was.device in
      ap (λ (z : Device). z.account) (sym (one_there x.0 d (device_named end name) x.1 has.device)) ∙ x.2

  -- so the set before isn't held any more
  gone : ¬ (One (λ (j : ℕ). j ≡ from.first) d.held)
  gone one =
      let is : length a.sets ≡ from.first = only (subst (λ (held : List ℕ). One (λ (j : ℕ). j ≡ from.first) held) (alone d a has) one) in
      let next_is : suc from.first ≡ length b.sets = from.next in
      let count : length a.sets ≡ length b.sets = same_count in
      absurd (omega arith)
    where
      only : One (λ (j : ℕ). j ≡ from.first) (length a.sets ∷ []) → length a.sets ≡ from.first
      only (inl is) = is
      only (inr none) = absurd none

  pub is_renewed : IsRenewed s end name a
  is_renewed =
      let holds : One (λ (j : ℕ). j ≡ from.first) e.held =
      subst (λ (held : List ℕ). One (λ (j : ℕ). j ≡ from.first) held) (sym from.held) (inl refl) in
      let retires : Retires moves name from.first = retired_among name from.first moves t e was.device holds d has.device gone in
      let own_account : b.identifier ≡ a.identifier =
      named_identifier t e.account b was.account ∙ sym kept_account ∙ sym (named_identifier end d.account a has.account) in
      let before : HadAtMost s a from.first = had_too s a b from.first own_account from.had in
      let fewer : length before.was.sets ≤ from.first = before.fewer in
      let next_is : suc from.first ≡ length b.sets = from.next in
      let count : length a.sets ≡ length b.sets = same_count in
      let is : end ≡ end_of (h.reached.moves ++ moves) =
      ap (λ (z : Ideal). end_from z moves) h.reached.is ∙ sym (end_from-append empty h.reached.moves moves) in
      record {
        was = before.was;
        named = before.named;
        more = omega arith;
        moves = h.reached.moves ++ moves;
        legal = legal_joined empty h.reached.moves moves h.reached.legal (subst (λ (z : Ideal). LegalFrom z moves) h.reached.is legal);
        is = is;
        finished = record {
          number = from.first;
          retired = one_back (λ (m : Move). m ≡ Retire name from.first) h.reached.moves moves retires;
          has = subst (λ (z : Ideal). account_of z name ≡ Some a) is (account_is end name d a has);
          before_last = omega arith;
        };
      }
