use Rattle.std.proofs.Common.{◌≡◌, ℕ, sym, ap, ◌∙◌, subst}
use Rattle.sn_items.specs.Items.{CarriesParams}
use Rattle.sn_laws.specs.Lookups.{Bytes}
use Rattle.sn_shows.specs.Servers.{account_at}
use Rattle.sn_shown.proofs.Finds.{never, one_found}
use Rattle.sn_shown.proofs.item_lines.carried_number.Goals as goal

pub returns-in_default : goal.returns-in_default
returns-in_default c = λ accounts a number set uuid text are at is opens.
    never c.in_ok-nonce.field-0 set.params.pw_nonce
    (c.in_ok-nonce.ensures set.params (subst (λ (t : Bytes). CarriesParams t set.params) (sym c.enc.ensures) opens.carries.enc)) c.in_default.is

pub returns : goal.returns
returns c = λ accounts a number set uuid text are at is opens.
    let nonce : c.in-Some.nonce ≡ set.params.pw_nonce =
    one_found c.in_ok-nonce.field-0 c.in-Some.nonce set.params.pw_nonce c.in-Some.is
    (c.in_ok-nonce.ensures set.params (subst (λ (t : Bytes). CarriesParams t set.params) (sym c.enc.ensures) opens.carries.enc)) in
    c.set.ensures accounts a number set are (ap (λ (n : ℕ). account_at n accounts) c.account.ensures ∙ at) is (c.as_str.ensures ∙ nonce)
