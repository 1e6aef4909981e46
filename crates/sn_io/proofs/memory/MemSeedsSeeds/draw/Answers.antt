use Rattle.std.proofs.Common.{◌∙◌, List, ℕ, ap}
use Rattle.sn_io.specs.Seeds.{seed_at}
use Rattle.sn_io.proofs.Draws.{gains}
use Rattle.sn_io.proofs.memory.MemSeedsSeeds.draw.Goals as goal

pub returns-clause-gains : goal.returns-clause-gains
returns-clause-gains c =
    gains c.args.self.now.seeds.items c.args.self.now.drawn c.saturating_add-self.result c.seed_of-seed.result c.saturating_add-self.ensures (
    c.seed_of-seed.ensures ∙ ap (λ (seeds : List (List ℕ)). seed_at seeds c.args.self.now.drawn) c.deref.ensures.value
    )
