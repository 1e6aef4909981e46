use Rattle.std.proofs.Common.{◌≡◌, ◌++◌, List, subst, ◌∙◌}
use Rattle.sn_laws.specs.Lookups.{Bytes}
use Rattle.sn_replay.specs.Keeping.{kept_all, requests_of}
use Rattle.sn_replay.proofs.seen.see.Goals as goal

pub returns-clause-told : goal.returns-clause-told
returns-clause-told c =
    let told = c.in_ok-moves.field-0 in
    let own = c.in_ok-add.ensures.own in (
      told.begun,
      c.in_ok-moves.ensures.told,
      subst (λ (rs : List Bytes). requests_of c.add.new.self c.args.name.now ≡ requests_of c.args.seen.now.requests c.args.name.now ++ kept_all rs told.begun)
          c.in_ok-moves.ensures.requests
          (subst (λ (n : Bytes). requests_of c.add.new.self n ≡ requests_of c.args.seen.now.requests n ++ kept_all told.requests told.begun) c.as_str.ensures own),
    )

pub returns-clause-requests : goal.returns-clause-requests
returns-clause-requests c = λ other apart. c.in_ok-add.ensures.others other (λ e. apart (e ∙ c.as_str.ensures))
