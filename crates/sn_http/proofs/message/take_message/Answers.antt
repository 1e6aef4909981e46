use Rattle.std.proofs.Common.{ℕ, ◌+◌, List, refl, ◌∙◌, ap}
use Rattle.std.specs.Prelude.{slice_range}
use Rattle.sn_http.proofs.Taking.{taken}
use Rattle.sn_http.proofs.message.take_message.Goals as goal

pub returns-clause-message : goal.returns-clause-message
returns-clause-message c = taken _ _ c.args.head c.args.size _ c.requires.head c.requires.size c.requires.there
    (record {
      body = c.in-Ok.ensures ∙ ap (λ (l : List ℕ). slice_range l c.args.head.len (c.args.head.len + c.args.size)) c.bytes.ensures;
      method = refl;
      target = refl;
      token = refl;
      closing = refl;
      place = c.place-place.ensures;
    }) c.take.ensures.bytes c.take.ensures.place
