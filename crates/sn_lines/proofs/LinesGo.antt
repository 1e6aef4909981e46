-- Whatever may happen leads on, and one line after another is one trace.
use Rattle.std.proofs.Common.{◌≡◌, ℕ, List, [], ◌∷◌, ◌++◌, refl, sym, ap, ◌∙◌, subst}
use Rattle.rand_chacha.specs.ChaCha.{ChaCha}
use Rattle.sn_device.specs.Runs.{Act, Call, Halt, content, delete, edit, list, passwd, put, register, sign_in, sync}
use Rattle.sn_laws.proofs.Facts.{end_from-append}
use Rattle.sn_laws.specs.Each.{Each}
use Rattle.sn_laws.specs.Lookups.{Bytes, empty}
use Rattle.sn_laws.specs.Runs.{LegalFrom, end_from}
use Rattle.sn_laws.specs.declared.ideal.Ideal.{Ideal}
use Rattle.sn_lines.specs.Lines.{AllGo, AllKeep, AllLead, EachKeeps, EachLeads, InTurn, IsCallOf, MayHappen}
use Rattle.sn_passwd.specs.Calls.{EverySyncGoes, PasswdsGo}
use Rattle.sn_rows.specs.Table.{Rows}
use Rattle.sn_world.proofs.Facts.{front_leads, goes_leads, legal_joined, opens_leads, trace_append, trace_from}
use Rattle.sn_world.specs.Calls.{CallsGo, Fate, GoesCall, RegistersGo, SignInsGo}
use Rattle.sn_world.specs.Happens.{Happens, Trace, commits, makes, serves, starts}
use Rattle.sn_world.specs.Holds.{Holds, TokensDiffer}
use Rattle.sn_world.specs.Laws.{HoldsFirst, Keeps, KeptBy}
use Rattle.sn_world.specs.Sessions.{AgainLeads, LeadsLine, Line, again, calls, device_behind_all, line_steps, made_behind, opens, server_behind_all, stops}
use Rattle.sn_world.specs.World.{Made, World, at_first}

-- ---- one line

pub record EachCallGoes : Type 0 where
  pub quiet : CallsGo
  pub registers : RegistersGo
  pub sign_ins : SignInsGo
  pub syncs : EverySyncGoes
  pub passwds : PasswdsGo

goes_call : EachCallGoes → (secret : Bytes) (w : World) (s : Ideal) (name : Bytes) (least : ℕ) (call : Call) (words : ChaCha) (acts : List Act) (fates : List Fate)
    (halt : Halt) → TokensDiffer secret → Holds secret w s → IsCallOf w s name least call words acts fates halt → GoesCall secret w s name call acts fates halt
goes_call laws secret w s name least (register identifier password cost) words acts fates halt differ h x =
    laws.registers secret w s name least identifier password cost words acts fates halt differ h x.runs x.over
goes_call laws secret w s name least (sign_in identifier password) words acts fates halt differ h x =
    laws.sign_ins secret w s name least identifier password words acts fates halt differ h x.may x.runs x.over
goes_call laws secret w s name least (put kind text) words acts fates halt differ h x =
    laws.quiet secret w s name least (put kind text) words acts fates halt differ h tt x.runs x.over
goes_call laws secret w s name least (edit uuid text) words acts fates halt differ h x =
    laws.quiet secret w s name least (edit uuid text) words acts fates halt differ h tt x.runs x.over
goes_call laws secret w s name least (delete uuid) words acts fates halt differ h x =
    laws.quiet secret w s name least (delete uuid) words acts fates halt differ h tt x.runs x.over
goes_call laws secret w s name least list words acts fates halt differ h x =
    laws.quiet secret w s name least list words acts fates halt differ h tt x.runs x.over
goes_call laws secret w s name least (content uuid) words acts fates halt differ h x =
    laws.quiet secret w s name least (content uuid) words acts fates halt differ h tt x.runs x.over
goes_call laws secret w s name least sync words acts fates halt differ h x =
    laws.syncs secret w s name least words acts fates halt differ h x.may x.runs x.over
goes_call laws secret w s name least (passwd password cost) words acts fates halt differ h x =
    laws.passwds secret w s name least password cost words acts fates halt differ h x.may x.runs x.over

pub each_leads : EachCallGoes → AgainLeads → EachLeads
each_leads laws again_so secret w s (opens changes stands) differ h may = opens_leads secret w s changes stands may
each_leads laws again_so secret w s (calls name least call words acts fates halt stands) differ h may =
    goes_leads secret w s name least call words acts fates halt stands (goes_call laws secret w s name least call words acts fates halt differ h may)
each_leads laws again_so secret w s (stops name least call words front met) differ h may =
    front_leads secret w s name least call words front may.later met may.others may.halt may.over
    (goes_call laws secret w s name least call words (front ++ may.later) (met ++ may.others) may.halt differ h may.called)
each_leads laws again_so secret w s (again name r fate) differ h may =
    (again_so secret w s (record { device = name; request = r; begins = may.begins }) fate h may.made may.over).0

pub each_keeps : Keeps → EachKeeps
each_keeps keeps secret w s line differ h x = trace_from keeps secret differ (line_steps x.begins line) x.moves w x.next s h x.goes

-- ---- one behind another

made_both : (made : List Made) (a b : List Happens) → made_behind made (a ++ b) ≡ made_behind (made_behind made a) b
made_both made [] b = refl
made_both made (starts changes stands ∷ a) b = made_both made a b
made_both made (makes m ∷ a) b = made_both (m ∷ made) a b
made_both made (serves m now changes given stands ∷ a) b = made_both made a b
made_both made (commits name what changes stands ∷ a) b = made_both made a b

abbrev none_lead : (secret : Bytes) (w : World) (s : Ideal) → Holds secret w s → AllLead secret w s []
none_lead secret w s h = record {
  steps = [];
  of_lines = refl;
  moves = [];
  next = w;
  by_lines = (refl, refl);
  goes = (refl, refl);
  keeps = (tt, h);
  server_is = refl;
  devices_are = λ name. refl;
  made_is = refl;
}

abbrev more_lead : (secret : Bytes) (w : World) (s : Ideal) (line : Line) (lines : List Line) → (x : LeadsLine secret w s line) → LegalFrom s x.moves
    → AllLead secret x.next (end_from s x.moves) lines → AllLead secret w s (line ∷ lines)
more_lead secret w s line lines x legal y =
    let own : List Happens = line_steps x.begins line in
    let goes : Trace secret w s (own ++ y.steps) (x.moves ++ y.moves) y.next =
    trace_append secret own y.steps x.moves y.moves w x.next y.next s x.goes y.goes in
    record {
      steps = own ++ y.steps;
      of_lines = (x.begins, y.steps, refl, y.of_lines);
      moves = x.moves ++ y.moves;
      next = y.next;
      by_lines = (x, y.moves, refl, y.by_lines);
      goes = goes;
      keeps = (
        legal_joined s x.moves y.moves legal y.keeps.0,
        subst (λ (t : Ideal). Holds secret y.next t) (sym (end_from-append s x.moves y.moves)) y.keeps.1,
      );
      server_is = y.server_is ∙ ap (λ (server : Rows). server_behind_all server lines) x.server_is;
      devices_are = λ name. y.devices_are name ∙ ap (λ (rows : Rows). device_behind_all name rows lines) (x.devices_are name);
      made_is = y.made_is ∙ ap (λ (made : List Made). made_behind made y.steps) x.made_is ∙ sym (made_both w.made own y.steps);
    }

-- what holds beside the invariant, and is kept by each line that comes as it may
module _ (secret : Bytes) (Q : World → Ideal → Type 0) (May : World → Ideal → Line → Type 0)
    (leads : (w : World) (s : Ideal) (line : Line) → Holds secret w s → Q w s → May w s line → LeadsLine secret w s line)
    (kept : (w : World) (s : Ideal) (line : Line) → Holds secret w s → (x : LeadsLine secret w s line) → KeptBy secret x.next s x.moves)
    (stays : (w : World) (s : Ideal) (line : Line) → Holds secret w s → Q w s → May w s line → (x : LeadsLine secret w s line) → Q x.next (end_from s x.moves)) where
  pub all_lead : (w : World) (s : Ideal) (lines : List Line) → Holds secret w s → Q w s → InTurn secret May w s lines
      → (x : AllLead secret w s lines) × Q x.next (end_from s x.moves)
  all_lead w s [] h q may = (none_lead secret w s h, q)
  all_lead w s (line ∷ lines) h q (comes, follow) =
      let x : LeadsLine secret w s line = leads w s line h q comes in
      let k : KeptBy secret x.next s x.moves = kept w s line h x in
      let y = all_lead x.next (end_from s x.moves) lines k.1 (stays w s line h q comes x) (follow x) in
      (more_lead secret w s line lines x k.0 y.0, subst (Q y.0.next) (sym (end_from-append s x.moves y.0.moves)) y.1)

-- lines of which each has something more
pub both_turn : (secret : Bytes) (P : Line → Type 0) (May : World → Ideal → Line → Type 0) (w : World) (s : Ideal) (lines : List Line) → Each P lines
    → InTurn secret May w s lines → InTurn secret (λ v t line. P line × May v t line) w s lines
both_turn secret P May w s [] each may = tt
both_turn secret P May w s (line ∷ lines) (one, each) (comes, follow) =
    ((one, comes), λ x. both_turn secret P May x.next (end_from s x.moves) lines each (follow x))

-- ---- all of them

pub all_go : EachLeads → EachKeeps → AllGo
all_go leads keeps secret w s lines differ h may =
    (all_lead secret (λ v t. Unit {0}) (MayHappen secret) (λ v t line holds q comes. leads secret v t line differ holds comes)
    (λ v t line holds x. keeps secret v t line differ holds x) (λ v t line holds q comes x. tt) w s lines h tt may).0

pub all_keep : HoldsFirst → AllGo → AllKeep
all_keep first go secret lines differ may =
    let x = go secret at_first empty lines differ (first secret) may in
    (x, x.keeps.0, x.keeps.1)
