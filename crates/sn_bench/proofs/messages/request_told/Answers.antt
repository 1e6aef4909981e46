use Rattle.std.proofs.Common.{inl}
use Rattle.sn_bench.proofs.OptionLemmas.{IfSome-weaker}
use Rattle.sn_bench.proofs.messages.request_told.Goals as goal

pub returns-in-Ok : goal.returns-in-Ok
returns-in-Ok c = IfSome-weaker c.written_request.result _ _ (λ s written. inl (c.in-Ok.request, c.in-Ok.ensures.ok, written)) c.written_request.ensures
