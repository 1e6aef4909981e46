-- The change of a password.
use Rattle.std.proofs.Common.{◌≡◌, ◌∙◌, ◌≤◌, ◌<◌, ℕ, suc, List, [], ◌∷◌, IfOk, IfSome, Option, Some, None, Result, Ok, Err, refl, sym, ap, subst, inl, inr, ⊎_elim, ◌+◌, arith}
use Rattle.std.specs.Prelude.{codes}
use Rattle.std.proofs.Math.Nat.{eq-or-lt_of_le}
use Rattle.sn_keys.specs.Keys.{check_value}
use Rattle.sn_rows.specs.Table.{Rows}
use Rattle.sn_rows.specs.declared.change.Change.{Change}
use Rattle.sn_rows.specs.declared.key.Key.TheVariants as key
use Rattle.sn_rows.specs.declared.server_rows.AccountRow.{AccountRow}
use Rattle.sn_rows.specs.declared.server_rows.GenerationRow.{GenerationRow}
use Rattle.sn_rows.specs.declared.server_rows.StoreRow.{StoreRow}
use Rattle.sn_rows.specs.declared.value.Value.TheVariants as value
use Rattle.sn_string.specs.declared.params.Params.{Params}
use Rattle.sn_sync.specs.declared.answer.Answer.{Answer}
use Rattle.sn_sync.specs.declared.answer.Answer.TheVariants as answer
use Rattle.sn_sync.specs.declared.answer.More.TheVariants as more
use Rattle.sn_account.specs.Lookups.{Bytes, HasAccount, HasGeneration, HasStore}
use Rattle.sn_account.specs.declared.accounts.Ruled.{Ruled}
use Rattle.sn_account.specs.Rules.{ChangesKeys, ChangesPassword, IsPresent, IsUsed, NoneBehind, PutsAccount, PutsGeneration, Replaces}
use Rattle.sn_account.specs.Sessions.{IsSession, account_uuid, session_token}
use Rattle.sn_account.specs.Sound.{IsSound, most_generations}

pub one_store : (rows : Rows) (a b : StoreRow) → HasStore rows a → HasStore rows b → a ≡ b
one_store rows a b h k = let e = sym h ∙ k in cc

pub one_account : (rows : Rows) (n : ℕ) (a b : AccountRow) → HasAccount rows n a → HasAccount rows n b → a ≡ b
one_account rows n a b h k = let e = sym h ∙ k in cc

pub one_generation : (rows : Rows) (n g : ℕ) (a b : GenerationRow) → HasGeneration rows n g a → HasGeneration rows n g b → a ≡ b
one_generation rows n g a b h k = let e = sym h ∙ k in cc

-- ---- the present parameters

pub is_present : {E : Type 0} (rows : Rows) (n : ℕ) (a : AccountRow) (r : GenerationRow) (outcome : Result Params E) → HasAccount rows n a
    → HasGeneration rows n a.generation r
    → IfOk outcome (λ p. (p.identifier ≡ a.identifier) × (p.pw_cost ≡ r.pw_cost) × (p.pw_nonce ≡ r.pw_nonce))
    → IfOk outcome (IsPresent rows n)
is_present rows n a r (Ok p) there stands are = record {
  account = a;
  there = there;
  generation = r;
  stands = stands;
  identifier = are.0;
  cost = are.1;
  nonce = are.2;
}
is_present rows n a r (Err e) there stands are = tt

-- ---- the nonces of an account

-- this generation of the account had the nonce
abbrev pub HadNonce : Rows → ℕ → ℕ → Bytes → Type 0
HadNonce rows n g nonce = (r : GenerationRow) × HasGeneration rows n g r × (r.pw_nonce ≡ nonce)

-- a generation of the account is one of those up to the present
pub generation_within : (rows : Rows) (n g : ℕ) (a : AccountRow) (r : GenerationRow) → IsSound rows → HasAccount rows n a → HasGeneration rows n g r
    → (1 ≤ g) × (g ≤ a.generation)
generation_within rows n g a r sound there has =
    let more = sound.no_more n g (value.Generation r) has in
    let same : more.0 ≡ a = one_account rows n more.0 a more.1 there in
    (more.2, subst (λ (b : AccountRow). g ≤ b.generation) same more.3)

-- where none of those had it, none did
pub not_used : (rows : Rows) (n : ℕ) (a : AccountRow) (nonce : Bytes) → IsSound rows → HasAccount rows n a
    → ((g : ℕ) → 1 ≤ g → g ≤ a.generation → ¬ (HadNonce rows n g nonce)) → ¬ (IsUsed rows n nonce)
not_used rows n a nonce sound there none used =
    let within = generation_within rows n used.0 a used.1.0 sound there used.1.1 in
    none used.0 within.0 within.1 used.1

pub had_none_more : (rows : Rows) (n : ℕ) (nonce : Bytes) (i : ℕ) → ((g : ℕ) → 1 ≤ g → g < i → ¬ (HadNonce rows n g nonce))
    → ¬ (HadNonce rows n i nonce) → (g : ℕ) → 1 ≤ g → g < i + 1 → ¬ (HadNonce rows n g nonce)
had_none_more rows n nonce i earlier here g low below had =
    let within : g ≤ i = omega arith in
    ⊎_elim
    (λ (same : g ≡ i). let P : ℕ → Type 0 = λ k. HadNonce rows n k nonce in here (subst P same had))
    (λ (less : g < i). earlier g low less had)
    (eq-or-lt_of_le within)

-- ---- the next keys

pub replaces : (rows : Rows) (store held : StoreRow) (n : ℕ) (a : AccountRow) (pw : Bytes) (cost : ℕ) (nonce : Bytes) (next : ℕ)
    → HasStore rows store → HasStore rows held → next ≡ suc a.generation
    → (first second : Change) → PutsAccount first n a.identifier next (check_value pw) → PutsGeneration second n next cost nonce
    → (changes : List Change) → changes ≡ first ∷ second ∷ []
    → (given : Answer) → given ≡ answer.Account (session_token held.secret n next) a.identifier (account_uuid n)
    → Replaces store n a pw cost nonce changes given
replaces rows store held n a pw cost nonce next has stands next_is first second puts_account puts_generation changes changes_are given given_is =
    let secret : held.secret ≡ store.secret = ap (λ (s : StoreRow). s.secret) (one_store rows held store stands has) in
    record {
      account = first;
      account_puts = subst (λ (g : ℕ). PutsAccount first n a.identifier g (check_value pw)) next_is puts_account;
      generation = second;
      generation_puts = subst (λ (g : ℕ). PutsGeneration second n g cost nonce) next_is puts_generation;
      changes_are = changes_are;
      answers = given_is
          ∙ ap (λ (s : Bytes). answer.Account (session_token s n next) a.identifier (account_uuid n)) secret
          ∙ ap (λ (g : ℕ). answer.Account (session_token store.secret n g) a.identifier (account_uuid n)) next_is;
    }

-- ---- a change of the keys

-- what is said of the account's keys, with the parameters that are present
abbrev pub Changes : Rows → StoreRow → ℕ → AccountRow → Bytes → ℕ → Bytes → List Change → Answer → Type 0
Changes rows store n a pw cost nonce changes given = (present : Params) × IsPresent rows n present
    × ChangesKeys rows store n a present pw cost nonce changes given

-- the refusal of one generation more, of an account that may have no other
pub generations_used : (rows : Rows) (n : ℕ) (a : AccountRow) (present : Params) (nonce : Bytes) (found : Option Answer) → IsSound rows → HasAccount rows n a
    → NoneBehind rows n present → ¬ (IsUsed rows n nonce)
    → IfSome found (λ given. (most_generations ≤ a.generation) × (given ≡ answer.Refused 409 (codes "changes-used") (more.Number most_generations)))
    → IfSome found (λ given. (store : StoreRow) (pw : Bytes) (cost : ℕ) → ChangesKeys rows store n a present pw cost nonce [] given)
generations_used rows n a present nonce None sound there none fresh used = tt
generations_used rows n a present nonce (Some given) sound there none fresh used =
    let bound = sound.generation n a there in
    let all : a.generation ≡ most_generations = omega (arith, bound.1, used.0) in
    λ store pw cost. inr (inr (inl (none, fresh, all, (refl, used.1))))

pub changes_refused : (rows : Rows) (store : StoreRow) (n : ℕ) (a : AccountRow) (present : Params) (pw : Bytes) (cost : ℕ) (nonce : Bytes)
    (ruled : Ruled) (cause : Answer) → IsPresent rows n present → ChangesKeys rows store n a present pw cost nonce [] cause → ruled.changes ≡ []
    → ruled.answer ≡ cause → Changes rows store n a pw cost nonce ruled.changes ruled.answer
changes_refused rows store n a present pw cost nonce ruled cause is refuses changes_are answer_is = (
  present,
  is,
  subst (λ (l : List Change). ChangesKeys rows store n a present pw cost nonce l ruled.answer) (sym changes_are)
      (subst (λ (g : Answer). ChangesKeys rows store n a present pw cost nonce [] g) (sym answer_is) refuses),
)

pub changes_done : {E : Type 0} (rows : Rows) (store : StoreRow) (n : ℕ) (a : AccountRow) (present : Params) (pw : Bytes) (cost : ℕ) (nonce : Bytes)
    (outcome : Result Ruled E) → IsPresent rows n present
    → NoneBehind rows n present × ¬ (IsUsed rows n nonce) × (a.generation < most_generations)
    → IfOk outcome (λ ruled. Replaces store n a pw cost nonce ruled.changes ruled.answer)
    → IfOk outcome (λ ruled. Changes rows store n a pw cost nonce ruled.changes ruled.answer)
changes_done rows store n a present pw cost nonce (Ok ruled) is may replaced = (present, is, inr (inr (inr (may.0, may.1, may.2, replaced))))
changes_done rows store n a present pw cost nonce (Err e) is may replaced = tt

-- ---- the change of a password

pub password_changed : {E : Type 0} (rows : Rows) (store : StoreRow) (token current pw : Bytes) (cost : ℕ) (nonce : Bytes) (n : ℕ) (a : AccountRow)
    (outcome : Result Ruled E) → IsSession rows token n → HasAccount rows n a → a.check ≡ check_value current
    → IfOk outcome (λ ruled. Changes rows store n a pw cost nonce ruled.changes ruled.answer)
    → IfOk outcome (λ ruled. ChangesPassword rows store token current pw cost nonce ruled.changes ruled.answer)
password_changed rows store token current pw cost nonce n a (Ok ruled) session there check changes =
    inr (inr (n, a, changes.0, session, there, check, changes.1, changes.2))
password_changed rows store token current pw cost nonce n a (Err e) session there check changes = tt
