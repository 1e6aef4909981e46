use Rattle.std.proofs.Common.{rules, arith, ◌≡◌, ◌∙◌, sym, ap, subst, ℕ, List}
use Rattle.uuid.specs.Text.{hyphenated_text, lower}
use Rattle.uuid.proofs.RoundTrips.{parse_gives}
use Rattle.sn_string.proofs.UuidFacts.{parsed-spelled}
use Rattle.sn_string.specs.Uuids.{IsUuidText}
use Rattle.sn_string.proofs.uuid_texts.uuid_of.Goals as goal

pub returns-in_default-clause-none : goal.returns-in_default-clause-none
returns-in_default-clause-none c = λ uuid h.
    let gives = parse_gives c.parse_str.result c.args.text.now uuid c.parse_str.ensures.ok c.parse_str.ensures.bytes (parsed-spelled c.args.text.now uuid h) in
    grind (arith, gives, c.in_default.not-Ok)

pub returns-then-eq-clause-some : goal.returns-then-eq-clause-some
returns-then-eq-clause-some c =
    let same : c.spelled-written.result.now ≡ c.args.text.now = search rules in
    let P : List ℕ → Type 0 = λ t. IsUuidText t c.in-Ok.uuid in
    let Q : List ℕ → Type 0 = λ u. IsUuidText c.spelled-written.result.now u in
    subst P same (subst Q c.as_bytes.ensures c.spelled-written.ensures)

pub returns-else-eq-clause-none : goal.returns-else-eq-clause-none
returns-else-eq-clause-none c = λ uuid h.
    let gives = parse_gives c.parse_str.result c.args.text.now uuid c.parse_str.ensures.ok c.parse_str.ensures.bytes (parsed-spelled c.args.text.now uuid h) in
    let same : c.in-Ok.uuid ≡ uuid = grind (arith, gives, c.in-Ok.is) in
    let written : c.spelled-written.result.now ≡ c.args.text.now = c.spelled-written.ensures.spelled ∙ ap (hyphenated_text lower) (c.as_bytes.ensures ∙ same) ∙ sym h.spelled in
    let differ : c.as_bytes-2.result.now ≡ c.as_bytes-3.result.now → ⊥ = search rules in
    differ (c.as_bytes-2.ensures.value ∙ written ∙ sym c.as_bytes-3.ensures.value)
