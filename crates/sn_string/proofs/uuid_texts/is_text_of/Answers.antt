use Rattle.std.proofs.Common.{rules, ◌≡◌, ◌↔◌, subst, List, ℕ, IsTrue}
use Rattle.sn_string.specs.Uuids.{IsUuidText}
use Rattle.sn_string.proofs.NamingFacts.{spelled_text}
use Rattle.sn_string.proofs.uuid_texts.is_text_of.Goals as goal

pub returns : goal.returns
returns c =
    let same : IsTrue c.eq.result ↔ (c.spelled-written.result.now ≡ c.args.text.now) = search rules in
    let Q : List ℕ → Type 0 = λ u. IsUuidText c.spelled-written.result.now u in
    spelled_text c.args.text.now c.spelled-written.result.now c.args.uuid c.eq.result (subst Q c.as_bytes.ensures c.spelled-written.ensures) same
