use Rattle.std.proofs.Common.{◌≡◌, ◌∙◌, inl, inr, List, ℕ, Option, refl, sym, subst}
use Rattle.std.proofs.KnownBytes.{Keeps-refl}
use Rattle.sn_calls.specs.declared.ends.CallEnd.{CallEnd}
use Rattle.sn_calls.specs.declared.ends.CallEnd.TheVariants as end
use Rattle.sn_cli.specs.CallEnds.{EndsSo, LeadsTo}
use Rattle.sn_cli.specs.Outputs.{Writes}
use Rattle.sn_status.specs.declared.status.Status.{Status}
use Rattle.sn_status.specs.declared.status.Status.TheVariants.{DiskFault, LinkFault, WriteFault, Memory, Foreign}
use Rattle.sn_status.specs.declared.status.Unfit.TheVariants as unfit
use Rattle.sn_cli.proofs.calling.write_end.Goals as goal

-- an end that isn't answered is the status's, and writes nothing
failed : (ended at : CallEnd) (status : Status) (o : Option (List ℕ)) → ended ≡ at → LeadsTo at status → EndsSo ended status o o
failed ended at status o is leads = inr (subst (λ (e : CallEnd). LeadsTo e status) (sym is) leads, Keeps-refl o)

unwritten : (ended : CallEnd) (status : Status) → LeadsTo ended status → status ≡ WriteFault → ⊥
unwritten ended status leads is = subst (LeadsTo ended) is leads

pub returns-in-Ok-clause-ends : goal.returns-in-Ok-clause-ends
returns-in-Ok-clause-ends g c =
    let status = c.write_out.result in
    let o = g.O.Sink.held c.args.out.now in
    let p = g.O.Sink.held c.write_out.new.out in
    inl (
      c.in-Answered.answered,
      c.in-Answered.is,
      subst (Writes status o p) (c.as_bytes.ensures.value ∙ c.in-Ok.ensures) c.write_out.ensures.wrote,
    )

pub returns-in-Err-clause-ends : goal.returns-in-Err-clause-ends
returns-in-Err-clause-ends g c = failed c.args.end (end.Answered c.in-Answered.answered) Memory _ c.in-Answered.is tt

pub returns-in-Refused-clause-ends : goal.returns-in-Refused-clause-ends
returns-in-Refused-clause-ends g c = failed c.args.end (end.Refused c.in-Refused.error) _ _ c.in-Refused.is c.refused_status.ensures

pub returns-in-Refused-clause-write : goal.returns-in-Refused-clause-write
returns-in-Refused-clause-write g c fault = absurd (unwritten (end.Refused c.in-Refused.error) _ c.refused_status.ensures fault)

pub returns-in-Foreign-clause-ends : goal.returns-in-Foreign-clause-ends
returns-in-Foreign-clause-ends g c = failed c.args.end (end.Foreign c.in-Foreign.place) (Foreign (unfit.Foreign c.in-Foreign.place)) _ c.in-Foreign.is refl

pub returns-in-Damaged-clause-ends : goal.returns-in-Damaged-clause-ends
returns-in-Damaged-clause-ends g c = failed c.args.end (end.Damaged c.in-Damaged.place) (Foreign (unfit.Damaged c.in-Damaged.place)) _ c.in-Damaged.is refl

pub returns-in-Rows-clause-ends : goal.returns-in-Rows-clause-ends
returns-in-Rows-clause-ends g c = failed c.args.end (end.Rows c.in-Rows.kind) (Foreign (unfit.Rows c.in-Rows.kind)) _ c.in-Rows.is refl

pub returns-in-DiskFault-clause-ends : goal.returns-in-DiskFault-clause-ends
returns-in-DiskFault-clause-ends g c = failed c.args.end end.DiskFault DiskFault _ c.in-DiskFault.is refl

pub returns-in-LinkFault-clause-ends : goal.returns-in-LinkFault-clause-ends
returns-in-LinkFault-clause-ends g c = failed c.args.end end.LinkFault LinkFault _ c.in-LinkFault.is (inl refl)

pub returns-in-Memory-clause-ends : goal.returns-in-Memory-clause-ends
returns-in-Memory-clause-ends g c = failed c.args.end end.Memory Memory _ c.in-Memory.is tt
