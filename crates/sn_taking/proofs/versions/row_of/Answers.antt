use Rattle.std.proofs.Common.{◌∙◌}
use Rattle.sn_taking.proofs.VersionLemmas.{stands_on, version_lengths}
use Rattle.sn_taking.proofs.versions.row_of.Goals as goal

pub row_strings-requires : goal.row_strings-requires
row_strings-requires c = version_lengths c.args.item.now c.args.content.now c.args.enc.now c.requires.version c.requires.body

pub returns-clause-ok : goal.returns-clause-ok
returns-clause-ok c =
    let parts = c.in-Some.ensures.parts in
    stands_on c.args.sets.now c.args.words.now c.kept_strings.new.words c.args.item.now c.args.content.now c.args.enc.now c.stamp_of-stamp.result
    c.in_ok-given.given c.in_ok-strings.strings c.in_ok-strings.stale c.args.latest c.in-Some.local
    (record {
      uuid_is = parts.0;
      kind_is = parts.1 ∙ c.in_ok-kind.ensures;
      base_is = parts.2;
      stale_is = parts.3;
      body_is = parts.4;
      latest_is = parts.5;
      posted_is = parts.6;
    })
    c.stamp_of-stamp.ensures.stamped c.in_ok-given.ensures.0 c.in_ok-given.ensures.1 c.in_ok-strings.ensures.ok
