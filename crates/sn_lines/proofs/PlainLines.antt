-- Lines that change no password keep a world so.
use Rattle.sn_device.specs.Runs.{Call, content, delete, edit, list, passwd, put, register, sign_in, sync}
use Rattle.sn_laws.specs.Lookups.{Bytes}
use Rattle.sn_laws.specs.declared.ideal.Ideal.{Ideal}
use Rattle.sn_lines.proofs.LinesGo.{all_lead, both_turn}
use Rattle.sn_lines.specs.Lines.{EachKeeps, EachLeads, MayCall, MayHappen}
use Rattle.sn_lines.specs.Plain.{EachKeepsPlain, KeepsPasswords, PlainKeeps}
use Rattle.sn_rows.specs.Table.{Rows}
use Rattle.sn_world.proofs.Facts.{line_plain, trace_plain}
use Rattle.sn_world.specs.Delivered.{KeepsPassword}
use Rattle.sn_world.specs.Plain.{HoldsPlain, KeepsPlain}
use Rattle.sn_world.specs.Sessions.{Line, MayAsk, MayCome, again, calls, line_steps, opens, stops}
use Rattle.sn_world.specs.World.{World}

may_ask : (s : Ideal) (device : Rows) (call : Call) → KeepsPassword call → MayCall s device call → MayAsk s call
may_ask s device (register identifier password cost) keeps may = tt
may_ask s device (sign_in identifier password) keeps may = may
may_ask s device (put kind text) keeps may = tt
may_ask s device (edit uuid text) keeps may = tt
may_ask s device (delete uuid) keeps may = tt
may_ask s device list keeps may = tt
may_ask s device (content uuid) keeps may = tt
may_ask s device sync keeps may = tt
may_ask s device (passwd password cost) keeps may = keeps

-- it is a line of such a world
may_come : (secret : Bytes) (w : World) (s : Ideal) (line : Line) → KeepsPasswords line → MayHappen secret w s line → MayCome secret w s line
may_come secret w s (opens changes stands) keeps may = may
may_come secret w s (calls name least call words acts fates halt stands) keeps may =
    record { may = may_ask s (w.devices name) call keeps may.may; runs = may.runs; over = may.over }
may_come secret w s (stops name least call words front met) keeps may = record {
  later = may.later;
  others = may.others;
  halt = may.halt;
  called = record { may = may_ask s (w.devices name) call keeps may.called.may; runs = may.called.runs; over = may.called.over };
  over = may.over;
}
may_come secret w s (again name r fate) keeps may = may

pub each_keeps_plain : KeepsPlain → EachKeepsPlain
each_keeps_plain keeps secret w s line differ h kept may x =
    trace_plain keeps secret differ (line_steps x.begins line) x.moves w x.next s h (line_plain secret w s line x.begins h.plain (may_come secret w s line kept may)) x.goes

pub plain_keeps : EachLeads → EachKeeps → EachKeepsPlain → PlainKeeps
plain_keeps leads keeps plain secret w s lines differ h kept may =
    all_lead secret (λ v t. HoldsPlain secret v t) (λ v t line. KeepsPasswords line × MayHappen secret v t line)
    (λ v t line holds q comes. leads secret v t line differ holds comes.1)
    (λ v t line holds x. keeps secret v t line differ holds x)
    (λ v t line holds q comes x. (plain secret v t line differ q comes.0 comes.1 x).1)
    w s lines h.holds h (both_turn secret KeepsPasswords (MayHappen secret) w s lines kept may)
