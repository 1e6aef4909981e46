use Rattle.std.proofs.Common.{sym, ap, ◌∙◌}
use Rattle.std.specs.Option.{option_copied}
use Rattle.std.specs.Prelude.{slice_get}
use Rattle.sn_shown.proofs.NumberLemmas.{none_found, number_found, place_of_account}
use Rattle.sn_shown.proofs.numbers.Numbers.set.Goals as goal

pub returns-in_default : goal.returns-in_default
returns-in_default c = λ accounts a number set are at is nonce.
    let place = place_of_account c.args.self.now accounts a c.args.account number set are at is in
    none_found c.args.self.now accounts a c.args.account number set are at is _ (sym (c.sets_of.ensures place.0 place.1) ∙ ap option_copied c.in_default.is) place.2

pub returns : goal.returns
returns c = λ accounts a number set are at is nonce.
    let place = place_of_account c.args.self.now accounts a c.args.account number set are at is in
    c.copied.ensures
    ∙ c.get.ensures.value
    ∙ number_found c.args.self.now accounts a c.args.account number set are at is c.in-Some.numbers.now
    (slice_get c.args.self.now.sets.items place.0) c.args.nonce.now
    (sym (c.sets_of.ensures place.0 place.1) ∙ ap option_copied c.in-Some.is) place.2 nonce
