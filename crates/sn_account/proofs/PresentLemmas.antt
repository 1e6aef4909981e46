-- The parameters of an account's present keys.
use Rattle.std.proofs.Common.{arith, refl, ap, ◌∙◌, ◌≡◌, ℕ, ◌≤◌, List, Result, IfOk, IsTrue}
use Rattle.std.proofs.lemmas.Bool.Decides.{nat_tests}
use Rattle.std.proofs.lemmas.Result.{IfOk-weaker}
use Rattle.sn_rows.specs.Bounds.{HasLength, is_text_of}
use Rattle.sn_rows.specs.Table.{Rows}
use Rattle.sn_rows.specs.declared.server_rows.AccountRow.{AccountRow}
use Rattle.sn_rows.specs.declared.server_rows.GenerationRow.{GenerationRow}
use Rattle.sn_string.specs.declared.params.Params.{Params}
use Rattle.sn_sync.specs.declared.answer.Answer.TheVariants as answer
use Rattle.sn_account.specs.Lookups.{Bytes, HasAccount, HasGeneration, IsNamed}
use Rattle.sn_account.specs.Rules.{IsPresent, Tells}
use Rattle.sn_account.specs.Sound.{IsSound}
use Rattle.sn_account.proofs.NamedLemmas.{one_account}

-- a text's length by its test
pub lengths : (least most : ℕ) (text : List ℕ) → IsTrue (is_text_of least most text) → HasLength least most text
lengths least most text is = grind (arith, nat_tests)

-- the present generation stands
pub stands_present : (rows : Rows) (n : ℕ) (account : AccountRow) → IsSound rows → HasAccount rows n account
    → (row : GenerationRow) × HasGeneration rows n account.generation row
stands_present rows n account sound has =
    let bounds = sound.generation n account has in
    let last : account.generation ≤ account.generation = omega arith in
    sound.params n account.generation account has bounds.0 last

-- parameters with the parts of both rows
pub present : {E : Type 0} (rows : Rows) (n : ℕ) (account : AccountRow) (generation : GenerationRow) (result : Result Params E)
    → HasAccount rows n account → HasGeneration rows n account.generation generation
    → IfOk result (λ params. (params.identifier ≡ account.identifier) × (params.pw_cost ≡ generation.pw_cost) × (params.pw_nonce ≡ generation.pw_nonce))
    → IfOk result (IsPresent rows n)
present rows n account generation result has stands parts =
    let Parts : Params → Type 0 = λ params. (params.identifier ≡ account.identifier) × (params.pw_cost ≡ generation.pw_cost)
    × (params.pw_nonce ≡ generation.pw_nonce)
    in
    IfOk-weaker result Parts (IsPresent rows n)
    (λ params are. record {
      account = account;
      there = has;
      generation = generation;
      stands = stands;
      identifier = are.0;
      cost = are.1;
      nonce = are.2;
    }) parts

-- what is told of an account that has the identifier
pub tells : (rows : Rows) (identifier : Bytes) (n : ℕ) (params : Params) → IsNamed rows identifier n → IsPresent rows n params
    → Tells rows identifier (answer.Params params)
tells rows identifier n params named is = record {
  n = n;
  account = is.account;
  there = is.there;
  named = ap (λ (a : AccountRow). a.identifier) (one_account rows n is.account named.0 is.there named.1) ∙ named.2;
  generation = is.generation;
  present = is.stands;
  params = params;
  identifier_is = is.identifier ∙ ap (λ (a : AccountRow). a.identifier) (one_account rows n is.account named.0 is.there named.1) ∙ named.2;
  cost = is.cost;
  nonce = is.nonce;
  answers = refl;
}
