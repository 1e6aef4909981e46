use Rattle.std.proofs.Common.{◌∙◌, ◌++◌, ap, refl}
use Rattle.json.specs.Tree.{json_tokens}
use Rattle.serde_json.specs.Written.{outline}
use Rattle.sn_sync.proofs.Outlines.{synced-readable}
use Rattle.sn_sync.specs.Written.{synced_data}
use Rattle.sn_sync.proofs.answer_writer.synced_text.Goals as goal

pub written_text-requires : goal.written_text-requires
written_text-requires c = c.in_ok-write_synced.ensures.6.before ∙ c.new-out.ensures.before ∙ c.in_ok-with_capacity.ensures.items

pub returns : goal.returns
returns c =
    let w = c.in_ok-write_synced.ensures in
    let readable =
    synced-readable c.args.conflicts.now c.args.retrieved.now c.args.saved.now w.0 w.1 w.2 c.args.cursor_token.now c.args.sync_token.now
    w.3 w.4 w.5 in
    let d = synced_data w.0 c.args.cursor_token.now w.1 w.2 c.args.sync_token.now in
    (d, (w.0, w.1, w.2, w.3, w.4, w.5, refl), c.written_text.ensures d readable (w.6.tokens ∙ ap (λ ts. ts ++ json_tokens (outline d)) c.new-out.ensures.tokens))
