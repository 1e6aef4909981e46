use Rattle.std.proofs.Common.{rules, ◌≡◌}
use Rattle.sn_string.specs.Grammar.{IsHash, IsUuid, IsIv, IsCiphertext, version}
use Rattle.sn_string.proofs.Places.{uuid_place, iv_place, ciphertext_place}
use Rattle.sn_string.proofs.reader.first_wrong.Goals as goal

pub returns-then-not-is_uuid-clause-wrong : goal.returns-then-not-is_uuid-clause-wrong
returns-then-not-is_uuid-clause-wrong c =
    let v : c.args.six.now.version.now ≡ version = search rules in
    let h : IsHash c.args.six.now.hash.now = search rules in
    let no : ¬ (IsUuid c.args.six.now.uuid.now) = search rules in
    (v, h, no, uuid_place _ _ v h)

pub returns-then-not-is_iv-clause-wrong : goal.returns-then-not-is_iv-clause-wrong
returns-then-not-is_iv-clause-wrong c =
    let v : c.args.six.now.version.now ≡ version = search rules in
    let h : IsHash c.args.six.now.hash.now = search rules in
    let u : IsUuid c.args.six.now.uuid.now = search rules in
    let no : ¬ (IsIv c.args.six.now.iv.now) = search rules in
    (v, h, u, no, iv_place _ _ _ v h u)

pub returns-then-not-is_ciphertext-clause-wrong : goal.returns-then-not-is_ciphertext-clause-wrong
returns-then-not-is_ciphertext-clause-wrong c =
    let v : c.args.six.now.version.now ≡ version = search rules in
    let h : IsHash c.args.six.now.hash.now = search rules in
    let u : IsUuid c.args.six.now.uuid.now = search rules in
    let i : IsIv c.args.six.now.iv.now = search rules in
    let no : ¬ (IsCiphertext c.args.six.now.ciphertext.now) = search rules in
    (v, h, u, i, no, ciphertext_place _ _ _ _ v h u i)
