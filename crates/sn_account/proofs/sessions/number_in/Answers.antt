use Rattle.std.proofs.Common.{ap, Some}
use Rattle.std.proofs.lemmas.Bool.{false≢true}
use Rattle.sn_account.specs.Sessions.{account_uuid}
use Rattle.sn_account.proofs.SessionTokens.{BeginsWith-token, IsCharBoundary-uuid, IsUuidText-front, uuid_in_front}
use Rattle.sn_account.proofs.sessions.number_in.Goals as goal

pub returns-in_err-front-clause-token : goal.returns-in_err-front-clause-token
returns-in_err-front-clause-token c = λ secret n g h e.
    let begins = BeginsWith-token c.args.text.now secret n g e in
    absurd (false≢true (c.in_err-front.ensures.variant.1 (IsCharBoundary-uuid c.args.text.now n begins)))

pub returns-in_err-uuid_of-clause-token : goal.returns-in_err-uuid_of-clause-token
returns-in_err-uuid_of-clause-token c = λ secret n g h e.
    let begins = BeginsWith-token c.args.text.now secret n g e in
    absurd (c.in_err-uuid_of.ensures.none (account_uuid n) (IsUuidText-front c.args.text.now c.in_ok-front.front.now n begins c.in_ok-front.ensures.front))

pub returns-clause-token : goal.returns-clause-token
returns-clause-token c = λ secret n g h e.
    let begins = BeginsWith-token c.args.text.now secret n g e in
    ap Some (c.number_of.ensures.number n h (uuid_in_front c.args.text.now c.in_ok-front.front.now c.in_ok-uuid_of.field-0 n begins c.in_ok-front.ensures.front c.in_ok-uuid_of.ensures.some))
