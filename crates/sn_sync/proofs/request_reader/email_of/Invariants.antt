use Rattle.std.proofs.Common.{◌≡◌, codes}
use Rattle.sn_sync.specs.Query.{first_value, first_of}
use Rattle.form_urlencoded.specs.Parse.{pairs_left}
use Rattle.sn_sync.proofs.request_reader.email_of.Given as goal

abbrev pub invariant-loop-pair : goal.invariant-loop-pair
invariant-loop-pair l =
    (goal.iterator-loop-pair).can_next l.pair-iterator ×
    (goal.iterator-loop-pair).is_finite l.pair-iterator ×
    (first_value (codes "email") l.query ≡ first_of (codes "email") (pairs_left l.pair-iterator))
