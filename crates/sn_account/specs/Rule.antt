-- What a server does with a request: what it changes, and what it answers.
use Rattle.std.specs.Prelude.{◌≡◌, ℕ, List, []}
use Rattle.sn_rows.specs.Table.{Rows}
use Rattle.sn_rows.specs.declared.change.Change.{Change}
use Rattle.sn_rows.specs.declared.server_rows.StoreRow.{StoreRow}
use Rattle.sn_sync.specs.declared.answer.Answer.{Answer}
use Rattle.sn_sync.specs.declared.request.Request.{Request}
use Rattle.sn_sync.specs.declared.request.Request.TheVariants as request
use Rattle.sn_account.specs.Lookups.{HasStore}
use Rattle.sn_account.specs.Rules.{ChangesPassword, Registers, SignsIn, TellsParams}
use Rattle.sn_account.specs.Syncs.{Syncs}

-- by the route
abbrev pub RuleOf : Rows → StoreRow → Request → ℕ → List Change → Answer → Type 0
RuleOf rows store (request.Register params pw) now changes given = Registers rows store params pw changes given
RuleOf rows store (request.Params identifier) now changes given = (changes ≡ []) × TellsParams rows identifier given
RuleOf rows store (request.SignIn identifier pw) now changes given = (changes ≡ []) × SignsIn rows store identifier pw given
RuleOf rows store (request.ChangePw token current pw cost nonce) now changes given =
    ChangesPassword rows store token current pw cost nonce changes given
RuleOf rows store (request.Sync token items limit sync_token cursor_token) now changes given =
    Syncs rows store token items limit sync_token cursor_token now changes given

abbrev pub Rule : Rows → Request → ℕ → List Change → Answer → Type 0
Rule rows r now changes given = (store : StoreRow) × HasStore rows store × RuleOf rows store r now changes given
