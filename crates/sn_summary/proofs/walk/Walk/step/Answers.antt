use Rattle.std.proofs.Common.{◌∙◌, ◌+◌, ap, cond}
use Rattle.sn_summary.proofs.WalkLemmas.{stepped}
use Rattle.sn_summary.proofs.walk.Walk.step.Goals as goal

pub returns : goal.returns
returns c =
    stepped c.args.self.now
    (record {
      alloc = c.args.self.now.alloc;
      live = c.note_live.new.live;
      drafts = c.note_drafts.new.drafts;
      versions = c.in_ok-self.field-0;
      forks = c.in_ok-self-2.field-0;
    })
    c.args.made.now c.in_ok-note_live.ensures c.in_ok-note_drafts.ensures
    (c.in_ok-self.ensures ∙ ap (λ b. c.args.self.now.versions + cond b 1 0) c.makes_version.ensures)
    (c.in_ok-self-2.ensures ∙ ap (λ b. c.args.self.now.forks + cond b 1 0) c.makes_fork.ensures)
