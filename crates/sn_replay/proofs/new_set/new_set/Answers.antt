use Rattle.std.proofs.Common.{◌≡◌, ap, ◌∙◌, subst}
use Rattle.std.proofs.lemmas.Result.{IfOk-weaker}
use Rattle.sn_course.specs.Settings.{words_of}
use Rattle.sn_keys.specs.Keys.{AreKeysOf}
use Rattle.sn_laws.specs.Lookups.{Bytes}
use Rattle.sn_replay.proofs.Drawing.{draws_set}
use Rattle.sn_replay.proofs.new_set.new_set.Goals as goal

pub returns : goal.returns
returns c =
    let at = c.args.at.now in
    IfOk-weaker c.derive.result _ _
    (λ set keys.
    draws_set (words_of at.settings at.number) c.nonce-nonce.new.self c.line_words-words.result c.nonce-nonce.result c.args.identifier.now c.args.password.now at.settings.cost
    c.in_ok-params.params set c.nonce-nonce.ensures c.line_words-words.ensures c.in_ok-params.ensures
    (subst (λ (p : Bytes). AreKeysOf p c.in_ok-params.params set) c.as_str.ensures keys))
    c.derive.ensures
