use Rattle.std.proofs.Common.{◌≡◌, ◌∙◌, ◌++◌, ◌∷◌, [], suc, ap, add-one, append_assoc, arith}
use Rattle.sn_generator.specs.Generated.{drawn, next}
use Rattle.sn_generator.proofs.EventLemmas.{label_few, step}
use Rattle.sn_generator.proofs.ScriptLemmas.{events_more}
use Rattle.sn_generator.proofs.generator.push_events.Goals as goal

pub event_line-requires : goal.event_line-requires
event_line-requires c = omega (arith, label_few c.args.number c.events.before, c.events.invariant.stand.made)

pub events-preserved : goal.events-preserved
events-preserved c =
    let x : c.next-drawn.result ≡ drawn c.args.number (suc c.events.before) = c.next-drawn.ensures ∙ ap next c.events.invariant.drawn_is in
    let both =
    step c.args.number c.events.before c.next-drawn.result c.events.puts c.event_line.new.puts c.in_ok-line.line c.events.invariant.stand x
    c.in_ok-line.ensures.line c.in_ok-line.ensures.puts in
    let was = c.events.invariant.made in
    rw add-one
    (record {
      drawn_is = x;
      stand = both.1;
      made = (
        was.0 ++ c.in_ok-line.line ∷ [],
        events_more c.args.number c.events.before was.0 c.in_ok-line.line was.1 both.0,
        c.in_ok-push.ensures.ok ∙ ap (λ ls. ls ++ c.in_ok-line.line ∷ []) was.2 ∙ append_assoc c.args.lines.now was.0 (c.in_ok-line.line ∷ []),
      );
    })
