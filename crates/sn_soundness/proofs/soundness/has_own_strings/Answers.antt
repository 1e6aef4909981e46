use Rattle.std.proofs.lemmas.Bool.{iff_false}
use Rattle.sn_local.proofs.Facts.{never, tests_same}
use Rattle.sn_soundness.proofs.soundness.has_own_strings.Goals as goal

pub returns-then-not-branch : goal.returns-then-not-branch
returns-then-not-branch c = never (λ own. iff_false c.in_ok-names_version.ensures c.if-not-branch.true own.body)

pub returns-then-not-branch-2 : goal.returns-then-not-branch-2
returns-then-not-branch-2 c = never (λ own. iff_false c.in_ok-names_version-2.ensures c.if-not-branch-2.true own.latest)

pub returns : goal.returns
returns c =
    tests_same c.names_version-3.result
    (λ posted. record {
      body = c.in_ok-names_version.ensures.0 c.if-not-branch.false;
      latest = c.in_ok-names_version-2.ensures.0 c.if-not-branch-2.false;
      posted = posted;
    })
    (λ own. own.posted) c.names_version-3.ensures
