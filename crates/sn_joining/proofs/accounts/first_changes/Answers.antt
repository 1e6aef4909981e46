use Rattle.std.proofs.Common.{refl, rules, sym}
use Rattle.sn_joining.proofs.accounts.first_changes.Goals as goal

pub returns-clause-begins : goal.returns-clause-begins
returns-clause-begins c = record {
  owner = c.in_ok-owner.owner;
  owner_is = record { owner = c.first_owner-owner.result; puts_it = c.in_ok-owner.ensures; columns_are = c.first_owner-owner.ensures };
  keys = c.in-Some.keys;
  keys_are = record {
    identifier_is = refl;
    cost = sym c.in-Some.ensures.parts.0;
    nonce = sym c.in-Some.ensures.parts.1;
    pw = sym c.in-Some.ensures.parts.2;
    mk = sym c.in-Some.ensures.parts.3;
    ak = sym c.in-Some.ensures.parts.4;
  };
  present = c.in_ok-present.present;
  present_is = c.in_ok-present.ensures;
  changes_are = search rules;
}
