use Rattle.std.proofs.Common.{sym, ◌∙◌, subst, ap}
use Rattle.sn_events.specs.Calling.{IsOpenHeld}
use Rattle.sn_link.specs.Links.{link_held}
use Rattle.sn_events.proofs.calling.served.Goals as goal

pub returns : goal.returns
returns c =
    let same = sym c.in-Some-into_held.is ∙ c.into_held.ensures.held ∙ ap link_held c.in-Some.ensures.1 in (
      record {
        whole = c.in-Some.ensures.0;
        held = c.in_ok-linked.ensures.held ∙ same;
        open_held = subst IsOpenHeld same c.in_ok-linked.ensures.open;
        place_is = c.in-Some.ensures.2;
      },
      c.in-Some.ensures.3,
    )
