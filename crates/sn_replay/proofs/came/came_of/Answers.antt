use Rattle.sn_replay.proofs.came.came_of.Goals as goal

pub returns : goal.returns
returns g c =
    λ secret w s name call words left setting gives old x.
    let ends = c.in_ok-last.ensures gives left x.halt x.halt_is in
    record {
      acts = x.acts;
      fates = x.fates;
      halt = x.halt;
      comes = x.comes;
      leads = x.leads;
      legal = x.legal;
      stands = x.stands;
      ended = ends.0;
      whole = ends.1;
      by_losses = x.by_losses;
      link_lost = x.link_lost;
      at = x.at;
      told = x.told;
      readable = x.readable;
      goes_on = x.goes_on;
      grow = x.grow;
    }
