use Rattle.std.proofs.Common.{arith, ◌∙◌, ◌<◌, ◌^◌, ◌++◌, ap}
use Rattle.json.specs.Tree.{json_tokens}
use Rattle.serde_json.specs.Written.{outline}
use Rattle.sn_sync.proofs.Outlines.{sync-readable}
use Rattle.sn_sync.specs.Written.{sync_data}
use Rattle.sn_sync.proofs.request_writer.sync_text.Goals as goal

pub written_text-requires : goal.written_text-requires
written_text-requires c = c.in_ok-write_sync.ensures.2.before ∙ c.new-out.ensures.before ∙ c.in_ok-with_capacity.ensures.items

pub returns : goal.returns
returns c =
    let w = c.in_ok-write_sync.ensures in
    let few : c.args.limit < 2 ^ 64 = omega arith in
    let readable = sync-readable c.args.items.now w.0 c.args.limit c.args.sync_token.now c.args.cursor_token.now few w.1 in
    let d = sync_data w.0 c.args.limit c.args.sync_token.now c.args.cursor_token.now in
    (w.0, w.1, c.written_text.ensures d readable (w.2.tokens ∙ ap (λ ts. ts ++ json_tokens (outline d)) c.new-out.ensures.tokens))
