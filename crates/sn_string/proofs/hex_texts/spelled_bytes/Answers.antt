use Rattle.std.proofs.Common.{rules, arith, ◌≡◌, true, false, subst, sym}
use Rattle.sn_string.specs.Hex.{IsLowerHex}
use Rattle.sn_string.proofs.HexFacts.{decode_sized-lower}
use Rattle.sn_string.proofs.hex_texts.spelled_bytes.Goals as goal

pub returns-then-not-are_digits-clause-none : goal.returns-then-not-are_digits-clause-none
returns-then-not-are_digits-clause-none g c = λ bytes h.
    let no : c.are_digits.result ≡ false = search rules in
    let yes : c.are_digits.result ≡ true = (c.are_digits.ensures g.row.N c.requires).1 (bytes, h) in
    absurd (cc)

pub unreachable-requires : goal.unreachable-requires
unreachable-requires g c =
    let yes : c.are_digits.result ≡ true = search rules in
    let spelled = (c.are_digits.ensures g.row.N c.requires).0 yes in
    let e = decode_sized-lower g.row.N c.args.text.now spelled.0 spelled.1 in
    grind (arith, e, c.from_hex.ensures, c.in_default.not-Ok)

pub returns-clause-some : goal.returns-clause-some
returns-clause-some g c =
    let yes : c.are_digits.result ≡ true = search rules in
    let spelled = (c.are_digits.ensures g.row.N c.requires).0 yes in
    let e = decode_sized-lower g.row.N c.args.text.now spelled.0 spelled.1 in
    let same : c.in-Ok.bytes ≡ spelled.0 = grind (arith, e, c.from_hex.ensures, c.in-Ok.is) in
    subst (IsLowerHex g.row.N c.args.text.now) (sym same) spelled.1
