-- Calls over a server that answers by its rule are steps of the world.
use Rattle.std.proofs.Common.{ℕ, List}
use Rattle.rand_chacha.specs.ChaCha.{ChaCha}
use Rattle.sn_device.specs.Runs.{Act, Call, Halt, Run, answered, content, delete, edit, list, passwd, put, register, sign_in, sync}
use Rattle.sn_laws.specs.Lookups.{Bytes}
use Rattle.sn_laws.specs.declared.ideal.Ideal.{Ideal}
use Rattle.sn_world.proofs.PlainLines.{keeps_password}
use Rattle.sn_world.proofs.Sessions.{CallLaws}
use Rattle.sn_world.specs.Delivered.{CallsFit, CallsGoBy, SyncsEndBy}
use Rattle.sn_world.specs.Calls.{AreServed, Fate, GoesCall}
use Rattle.sn_world.specs.Holds.{Holds, TokensDiffer}
use Rattle.sn_world.specs.Plain.{AsksNoSet}
use Rattle.sn_world.specs.Sessions.{MayAsk}
use Rattle.sn_world.specs.Synced.{SyncsEnd}
use Rattle.sn_world.specs.World.{World}

served_goes : CallLaws → (secret : Bytes) (w : World) (s : Ideal) (name : Bytes) (least : ℕ) (call : Call) (words : ChaCha) (acts : List Act) (fates : List Fate)
    (halt : Halt) → TokensDiffer secret → Holds secret w s → AsksNoSet (w.devices name) → MayAsk s call → Run least call (w.devices name) words acts halt → AreServed w.server acts fates
    → GoesCall secret w s name call acts fates halt
served_goes laws secret w s name least (register identifier password cost) words acts fates halt differ h unasked may run over =
    laws.registers secret w s name least identifier password cost words acts fates halt differ h run over
served_goes laws secret w s name least (sign_in identifier password) words acts fates halt differ h unasked may run over =
    laws.sign_ins secret w s name least identifier password words acts fates halt differ h may run over
served_goes laws secret w s name least (put kind text) words acts fates halt differ h unasked may run over =
    laws.quiet secret w s name least (put kind text) words acts fates halt differ h tt run over
served_goes laws secret w s name least (edit uuid text) words acts fates halt differ h unasked may run over =
    laws.quiet secret w s name least (edit uuid text) words acts fates halt differ h tt run over
served_goes laws secret w s name least (delete uuid) words acts fates halt differ h unasked may run over =
    laws.quiet secret w s name least (delete uuid) words acts fates halt differ h tt run over
served_goes laws secret w s name least list words acts fates halt differ h unasked may run over =
    laws.quiet secret w s name least list words acts fates halt differ h tt run over
served_goes laws secret w s name least (content uuid) words acts fates halt differ h unasked may run over =
    laws.quiet secret w s name least (content uuid) words acts fates halt differ h tt run over
served_goes laws secret w s name least sync words acts fates halt differ h unasked may run over =
    laws.syncs secret w s name least words acts fates halt differ h unasked run over
served_goes laws secret w s name least (passwd password cost) words acts fates halt differ h unasked may run over = absurd may

pub calls_go_by : CallsFit → CallLaws → CallsGoBy
calls_go_by fit laws secret w s name least call words acts fates halt differ h unasked uuids fits may run over =
    served_goes laws secret w s name least call words acts fates halt differ h unasked may run
    (fit secret w s name least call words acts fates halt h unasked uuids fits (keeps_password s call may) run over)

pub syncs_end_by : CallsFit → SyncsEnd → SyncsEndBy
syncs_end_by fit ends secret w s name least words left acts fates given differ h unasked uuids run over =
    ends secret w s name least words left acts fates given differ h unasked run
    (fit secret w s name least sync words acts fates (answered given left) h unasked uuids tt tt run over)
