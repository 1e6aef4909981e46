use Rattle.std.proofs.Common.{rules, subst, sym}
use Rattle.sn_items.specs.Items.{CarriesParams, authentication_half}
use Rattle.sn_items.specs.Opens.{Opens}
use Rattle.sn_items.specs.Seals.{IsWrittenPart}
use Rattle.sn_string.specs.Hex.{IsLowerHex}
use Rattle.sn_items.proofs.items.sealed_item.Goals as goal

pub returns-clause-opens : goal.returns-clause-opens
returns-clause-opens c =
    let key = c.args.key.now in
    let set = c.args.set.now in
    let digits = c.deref-2.result.now in
    let first : IsWrittenPart c.deref.result.now set.params = record { written = search rules; reads = search rules } in
    let second : IsWrittenPart c.deref-3.result.now set.params = record { written = search rules; reads = search rules } in
    let spelled : IsLowerHex 64 digits key = search rules in
    let content_opens =
    subst (λ half. Opens c.of_string.result c.args.uuid half (authentication_half key) c.args.content.now) c.halves.ensures.first
    (subst (λ half. Opens c.of_string.result c.args.uuid c.halves.result.0 half c.args.content.now) c.halves.ensures.second
    (subst (λ text. Opens text c.args.uuid c.halves.result.0 c.halves.result.1 c.args.content.now) (sym c.of_string.ensures) (c.in_ok-content.ensures.opens set.params first))) in
    let enc_opens = subst (λ text. Opens text c.args.uuid set.mk set.ak digits) (sym c.of_string-2.ensures) (c.in_ok-enc.ensures.opens set.params second) in
    record {
      carries = record {
        enc = subst (λ text. CarriesParams text set.params) (sym c.of_string-2.ensures) (c.in_ok-enc.ensures.carries set.params second);
        content = subst (λ text. CarriesParams text set.params) (sym c.of_string.ensures) (c.in_ok-content.ensures.carries set.params first);
      };
      key = key;
      enc = record { digits = digits; opens = enc_opens; spelled = spelled };
      opens = content_opens;
      object = c.requires;
    }
