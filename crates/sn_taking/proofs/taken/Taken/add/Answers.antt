use Rattle.std.proofs.Common.{◌∙◌, ap, refl, sym}
use Rattle.std.proofs.lemmas.Result.{on_ok_weaker}
use Rattle.sn_taking.specs.Taken.{after, so_far}
use Rattle.sn_device.specs.Taking.{Progress, changed, with_words}
use Rattle.sn_taking.specs.declared.taken.Effect.{Effect}
use Rattle.sn_taking.proofs.TakenLemmas.{so_far-more}
use Rattle.sn_taking.proofs.taken.Taken.add.Goals as goal

pub returns-in-Changed : goal.returns-in-Changed
returns-in-Changed c =
    on_ok_weaker c.push.result
    (λ more rows before words.
    so_far-more rows c.args.self.now (record { changes = c.push.new.self; next = c.args.self.now.next }) c.in-Changed.change c.args.self.now.next words more refl
    ∙ ap (λ (e : Effect). after (so_far rows c.args.self.now before) e words) (sym c.in-Changed.is))
    c.push.ensures.ok

pub returns-in-Made : goal.returns-in-Made
returns-in-Made c =
    on_ok_weaker c.make.result
    (λ is rows before words. is rows before words ∙ ap (λ (e : Effect). after (so_far rows c.args.self.now before) e words) (sym c.in-Made.is))
    c.make.ensures

pub returns-in_ok-make-in-Forked : goal.returns-in_ok-make-in-Forked
returns-in_ok-make-in-Forked c =
    on_ok_weaker c.push-in-Forked.result
    (λ more rows before words.
    so_far-more rows c.make-in-Forked.new.self (record { changes = c.push-in-Forked.new.self; next = c.make-in-Forked.new.self.next }) c.in-Forked.change
    c.make-in-Forked.new.self.next words more refl
    ∙ ap (λ (p : Progress). with_words (changed p c.in-Forked.change) words) (c.in_ok-make-in-Forked.ensures rows before words)
    ∙ ap (λ (e : Effect). after (so_far rows c.args.self.now before) e words) (sym c.in-Forked.is))
    c.push-in-Forked.ensures.ok
