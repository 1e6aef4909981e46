-- Calls of devices one after another, whole or stopped, and requests that are delivered late or again, are one trace.
use Rattle.std.proofs.Common.{◌≡◌, ◌≢◌, ℕ, List, [], ◌∷◌, ◌++◌, Bool, true, false, Option, refl, sym, ap, ◌∙◌, subst, append_assoc}
use Rattle.std.specs.Prelude.{if◌then◌else◌}
use Rattle.std.specs.Str.{bytes_eq}
use Rattle.rand_chacha.specs.ChaCha.{ChaCha}
use Rattle.sn_device.specs.Runs.{Act, Call, Halt, answered, asked, broken, commits as committed, content, delete, edit, list, passwd, put, refused, register, rows_done, sign_in, sync}
use Rattle.sn_laws.proofs.Facts.{clash, end_from-append, same_text, text_same}
use Rattle.sn_laws.specs.Each.{Each}
use Rattle.sn_laws.specs.Lookups.{Bytes, empty}
use Rattle.sn_laws.specs.Runs.{end_from}
use Rattle.sn_laws.specs.declared.ideal.Ideal.{Ideal}
use Rattle.sn_laws.specs.declared.moves.Move.{Move}
use Rattle.sn_rows.specs.Table.{Rows, rows_after}
use Rattle.sn_rows.specs.declared.change.Change.{Change}
use Rattle.sn_string.specs.declared.params.KeySet.{KeySet}
use Rattle.sn_sync.specs.declared.request.Request.{Request}
use Rattle.sn_world.proofs.AskLemmas.{made_of}
use Rattle.sn_world.proofs.CallFronts.{First, first_of, rows_left}
use Rattle.sn_world.proofs.CallLemmas.{trace_append}
use Rattle.sn_world.proofs.LegalMoves.{legal_joined}
use Rattle.sn_world.proofs.Lists.{each_both}
use Rattle.sn_world.proofs.PlainKept.{trace_plain}
use Rattle.sn_world.proofs.PlainLines.{line_plain}
use Rattle.sn_world.specs.Calls.{AreServed, CallsGo, Fate, GoesCall, Leads, LeadsTo, RegistersGo, SignInsGo, SyncsGo, begins_none, call_steps, crashed, fate_steps, rows_behind, rows_served, served, undelivered}
use Rattle.sn_world.specs.Happens.{Happens, Trace, commits, makes, serves, starts}
use Rattle.sn_world.specs.Holds.{Holds, TokensDiffer}
use Rattle.sn_world.specs.Laws.{SaysSome}
use Rattle.sn_world.specs.Plain.{HoldsPlain, IsPlainStep, KeepsPlain, KeptPlain, PlainFirst}
use Rattle.sn_world.specs.Serving.{Serves}
use Rattle.sn_world.specs.Sessions.{AgainLeads, IsAgain, IsCalled, LeadsLine, Line, LinesGo, LinesKeep, MayCome, again, calls, device_behind_all, line_steps, made_behind, opens, rows_ended, server_behind_all, stops, with_end}
use Rattle.sn_world.specs.World.{Made, World, at_first}

-- ---- the rows of other devices, and the requests that were made

-- no commit of the device
abbrev pub IsNotOf : Bytes → Happens → Type 0
IsNotOf other (starts changes stands) = Unit {0}
IsNotOf other (makes m) = Unit {0}
IsNotOf other (serves m now changes given stands) = Unit {0}
IsNotOf other (commits name what changes stands) = other ≢ name

pub others_stay : (secret other : Bytes) (steps : List Happens) (moves : List Move) (w next : World) (s : Ideal) → Each (IsNotOf other) steps
    → Trace secret w s steps moves next → next.devices other ≡ w.devices other
others_stay secret other [] moves w next s each (none, same) = ap (λ (x : World). x.devices other) same
others_stay secret other (starts changes true ∷ steps) moves w next s each (mid, first, later, does, says, rest, is) =
    others_stay secret other steps later mid next (end_from s first) each.1 rest ∙ ap (λ (d : Bytes → Rows). d other) does.on.devices
others_stay secret other (starts changes false ∷ steps) moves w next s each (mid, first, later, does, says, rest, is) =
    others_stay secret other steps later mid next (end_from s first) each.1 rest ∙ ap (λ (x : World). x.devices other) does
others_stay secret other (makes m ∷ steps) moves w next s each (mid, first, later, does, says, rest, is) =
    others_stay secret other steps later mid next (end_from s first) each.1 rest ∙ ap (λ (d : Bytes → Rows). d other) does.devices
others_stay secret other (serves m now changes given true ∷ steps) moves w next s each (mid, first, later, does, says, rest, is) =
    others_stay secret other steps later mid next (end_from s first) each.1 rest ∙ ap (λ (d : Bytes → Rows). d other) does.on.devices
others_stay secret other (serves m now changes given false ∷ steps) moves w next s each (mid, first, later, does, says, rest, is) =
    others_stay secret other steps later mid next (end_from s first) each.1 rest ∙ ap (λ (x : World). x.devices other) does
others_stay secret other (commits name what changes true ∷ steps) moves w next s each (mid, first, later, does, says, rest, is) =
    others_stay secret other steps later mid next (end_from s first) each.1 rest ∙ does.0.on.others other each.0
others_stay secret other (commits name what changes false ∷ steps) moves w next s each (mid, first, later, does, says, rest, is) =
    others_stay secret other steps later mid next (end_from s first) each.1 rest ∙ ap (λ (x : World). x.devices other) does

pub made_so : (secret : Bytes) (steps : List Happens) (moves : List Move) (w next : World) (s : Ideal) → Trace secret w s steps moves next
    → next.made ≡ made_behind w.made steps
made_so secret [] moves w next s (none, same) = ap (λ (x : World). x.made) same
made_so secret (starts changes true ∷ steps) moves w next s (mid, first, later, does, says, rest, is) =
    made_so secret steps later mid next (end_from s first) rest ∙ ap (λ (ms : List Made). made_behind ms steps) does.on.made
made_so secret (starts changes false ∷ steps) moves w next s (mid, first, later, does, says, rest, is) =
    made_so secret steps later mid next (end_from s first) rest ∙ ap (λ (x : World). made_behind x.made steps) does
made_so secret (makes m ∷ steps) moves w next s (mid, first, later, does, says, rest, is) =
    made_so secret steps later mid next (end_from s first) rest ∙ ap (λ (ms : List Made). made_behind ms steps) does.made
made_so secret (serves m now changes given true ∷ steps) moves w next s (mid, first, later, does, says, rest, is) =
    made_so secret steps later mid next (end_from s first) rest ∙ ap (λ (ms : List Made). made_behind ms steps) does.on.made
made_so secret (serves m now changes given false ∷ steps) moves w next s (mid, first, later, does, says, rest, is) =
    made_so secret steps later mid next (end_from s first) rest ∙ ap (λ (x : World). made_behind x.made steps) does
made_so secret (commits name what changes true ∷ steps) moves w next s (mid, first, later, does, says, rest, is) =
    made_so secret steps later mid next (end_from s first) rest ∙ ap (λ (ms : List Made). made_behind ms steps) does.0.on.made
made_so secret (commits name what changes false ∷ steps) moves w next s (mid, first, later, does, says, rest, is) =
    made_so secret steps later mid next (end_from s first) rest ∙ ap (λ (x : World). made_behind x.made steps) does

-- the commits of a call are its device's
pub own_steps : (other name : Bytes) (begins : Request → Option KeySet) (acts : List Act) (fates : List Fate) → other ≢ name
    → Each (IsNotOf other) (call_steps name begins acts fates)
own_steps other name begins [] fates apart = tt
own_steps other name begins (committed what changes ∷ acts) fates apart = (apart, own_steps other name begins acts fates apart)
own_steps other name begins (asked r reply ∷ acts) [] apart = tt
own_steps other name begins (asked r reply ∷ acts) (undelivered ∷ fates) apart = (tt, own_steps other name begins acts fates apart)
own_steps other name begins (asked r reply ∷ acts) (served now changes given arrives ∷ fates) apart = (tt, (tt, own_steps other name begins acts fates apart))
own_steps other name begins (asked r reply ∷ acts) (crashed now changes given ∷ fates) apart = (tt, (tt, own_steps other name begins acts fates apart))

pub own_end : (other name : Bytes) (halt : Halt) (stands : Bool) (steps : List Happens) → other ≢ name → Each (IsNotOf other) steps
    → Each (IsNotOf other) (with_end name halt stands steps)
own_end other name (answered given left) stands steps apart each = each
own_end other name (refused why) stands steps apart each = each
own_end other name (broken what changes) stands steps apart each =
    each_both (IsNotOf other) steps (commits name what changes stands ∷ []) each (apart, tt)

-- one device's rows, and all others'
pub by_name : (next w : World) (name : Bytes) (F : Rows → Rows) → next.devices name ≡ F (w.devices name)
    → ((other : Bytes) → other ≢ name → next.devices other ≡ w.devices other)
    → (other : Bytes) → next.devices other ≡ (if bytes_eq other name then F (w.devices other) else w.devices other)
by_name next w name F own others other = at (bytes_eq other name) refl
  where
    at : (b : Bool) → bytes_eq other name ≡ b → next.devices other ≡ (if bytes_eq other name then F (w.devices other) else w.devices other)
    at true same =
        subst (λ (n : Bytes). next.devices n ≡ F (w.devices n)) (sym (same_text other name same)) own
        ∙ sym (ap (λ (b : Bool). if b then F (w.devices other) else w.devices other) same)
    at false off =
        others other (λ e. clash (bytes_eq other name) (text_same other name e) off)
        ∙ sym (ap (λ (b : Bool). if b then F (w.devices other) else w.devices other) off)

-- ---- a whole call

pub record CallLaws : Type 0 where
  pub quiet : CallsGo
  pub syncs : SyncsGo
  pub registers : RegistersGo
  pub sign_ins : SignInsGo

goes_call : CallLaws → (secret : Bytes) (w : World) (s : Ideal) (name : Bytes) (least : ℕ) (call : Call) (words : ChaCha) (acts : List Act) (fates : List Fate)
    (halt : Halt) → TokensDiffer secret → HoldsPlain secret w s → IsCalled w s name least call words acts fates halt → GoesCall secret w s name call acts fates halt
goes_call laws secret w s name least (register identifier password cost) words acts fates halt differ h x =
    laws.registers secret w s name least identifier password cost words acts fates halt differ h.holds x.runs x.over
goes_call laws secret w s name least (sign_in identifier password) words acts fates halt differ h x =
    laws.sign_ins secret w s name least identifier password words acts fates halt differ h.holds x.may x.runs x.over
goes_call laws secret w s name least (put kind text) words acts fates halt differ h x =
    laws.quiet secret w s name least (put kind text) words acts fates halt differ h.holds tt x.runs x.over
goes_call laws secret w s name least (edit uuid text) words acts fates halt differ h x =
    laws.quiet secret w s name least (edit uuid text) words acts fates halt differ h.holds tt x.runs x.over
goes_call laws secret w s name least (delete uuid) words acts fates halt differ h x =
    laws.quiet secret w s name least (delete uuid) words acts fates halt differ h.holds tt x.runs x.over
goes_call laws secret w s name least list words acts fates halt differ h x =
    laws.quiet secret w s name least list words acts fates halt differ h.holds tt x.runs x.over
goes_call laws secret w s name least (content uuid) words acts fates halt differ h x =
    laws.quiet secret w s name least (content uuid) words acts fates halt differ h.holds tt x.runs x.over
goes_call laws secret w s name least sync words acts fates halt differ h x =
    laws.syncs secret w s name least words acts fates halt differ h.holds (h.plain.unasked name) x.runs x.over
goes_call laws secret w s name least (passwd password cost) words acts fates halt differ h x = absurd x.may

pub ends_so : (secret : Bytes) (w : World) (s : Ideal) (name : Bytes) (steps : List Happens) (server device : Rows) (halt : Halt) (stands : Bool)
    → LeadsTo secret w s name steps server device halt → Leads secret w s name (with_end name halt stands steps) server (rows_ended halt stands device)
ends_so secret w s name steps server device (answered given left) stands x = x
ends_so secret w s name steps server device (refused why) stands x = x
ends_so secret w s name steps server device (broken what changes) true x = x.0
ends_so secret w s name steps server device (broken what changes) false x = x.1

-- a line of it leads on
pub goes_leads : (secret : Bytes) (w : World) (s : Ideal) (name : Bytes) (least : ℕ) (call : Call) (words : ChaCha) (acts : List Act) (fates : List Fate)
    (halt : Halt) (stands : Bool) → GoesCall secret w s name call acts fates halt
    → LeadsLine secret w s (calls name least call words acts fates halt stands)
goes_leads secret w s name least call words acts fates halt stands goes =
    let steps : List Happens = with_end name halt stands (call_steps name goes.begins acts fates) in
    let x = ends_so secret w s name (call_steps name goes.begins acts fates) (rows_served w.server fates) (rows_done (w.devices name) acts) halt stands goes.leads in
    record {
      begins = goes.begins;
      of_line = goes.of_call;
      moves = x.moves;
      next = x.next;
      goes = x.goes;
      server_is = x.server_is;
      devices_are = by_name x.next w name (λ (rows : Rows). rows_ended halt stands (rows_done rows acts)) x.device_is
          (λ other apart. others_stay secret other steps x.moves w x.next s
          (own_end other name halt stands (call_steps name goes.begins acts fates) apart (own_steps other name goes.begins acts fates apart)) x.goes);
      made_is = made_so secret steps x.moves w x.next s x.goes;
    }

-- ---- a stopped one

pub front_steps : (name : Bytes) (begins : Request → Option KeySet) (server : Rows) (front later : List Act) (met others : List Fate) → AreServed server front met
    → call_steps name begins (front ++ later) (met ++ others) ≡ call_steps name begins front met ++ call_steps name begins later others
front_steps name begins server [] later met others none = ap (λ (fs : List Fate). call_steps name begins later (fs ++ others)) none
front_steps name begins server (committed what changes ∷ front) later met others over =
    ap (λ (steps : List Happens). commits name what changes true ∷ steps) (front_steps name begins server front later met others over)
front_steps name begins server (asked r reply ∷ front) later [] others over = absurd over
front_steps name begins server (asked r reply ∷ front) later (fate ∷ met) others (one, over) =
    let own : List Happens = fate_steps (made_of name (begins r) r) fate in
    ap (λ (steps : List Happens). makes (made_of name (begins r) r) ∷ own ++ steps)
    (front_steps name begins (rows_behind server fate) front later met others over)
    ∙ ap (λ (steps : List Happens). makes (made_of name (begins r) r) ∷ steps)
    (sym (append_assoc own (call_steps name begins front met) (call_steps name begins later others)))

pub first_goes : (secret : Bytes) (w : World) (s : Ideal) (name : Bytes) (a b : List Happens) (server device : Rows) (halt : Halt)
    → LeadsTo secret w s name (a ++ b) server device halt → First secret w s a
first_goes secret w s name a b server device (answered given left) x = first_of secret a b x.moves w x.next s x.goes
first_goes secret w s name a b server device (refused why) x = first_of secret a b x.moves w x.next s x.goes
first_goes secret w s name a b server device (broken what changes) x =
    first_of secret a (b ++ commits name what changes true ∷ []) x.0.moves w x.0.next s
    (subst (λ (steps : List Happens). Trace secret w s steps x.0.moves x.0.next) (append_assoc a b (commits name what changes true ∷ [])) x.0.goes)

-- a line of the first acts of a call leads on
pub front_leads : (secret : Bytes) (w : World) (s : Ideal) (name : Bytes) (least : ℕ) (call : Call) (words : ChaCha) (front later : List Act)
    (met others : List Fate) (halt : Halt) → AreServed w.server front met → GoesCall secret w s name call (front ++ later) (met ++ others) halt
    → LeadsLine secret w s (stops name least call words front met)
front_leads secret w s name least call words front later met others halt over goes =
    let steps : List Happens = call_steps name goes.begins front met in
    let whole = subst (λ (z : List Happens). LeadsTo secret w s name z (rows_served w.server (met ++ others)) (rows_done (w.devices name) (front ++ later)) halt)
    (front_steps name goes.begins w.server front later met others over) goes.leads in
    let x = first_goes secret w s name steps (call_steps name goes.begins later others) (rows_served w.server (met ++ others))
    (rows_done (w.devices name) (front ++ later)) halt whole in
    let left = rows_left secret name goes.begins front met w.server x.moves w x.next s over x.goes in
    record {
      begins = goes.begins;
      of_line = goes.of_call;
      moves = x.moves;
      next = x.next;
      goes = x.goes;
      server_is = left.0;
      devices_are = by_name x.next w name (λ (rows : Rows). rows_done rows front) left.1
          (λ other apart. others_stay secret other steps x.moves w x.next s (own_steps other name goes.begins front met apart) x.goes);
      made_is = made_so secret steps x.moves w x.next s x.goes;
    }

-- ---- any line

abbrev pub with_server : World → Rows → World
with_server w server = record { server = server; devices = w.devices; made = w.made }

again_leads : SaysSome → (secret : Bytes) (w : World) (s : Ideal) (name : Bytes) (r : Request) (fate : Fate) → Holds secret w s
    → (p : IsAgain w name r fate) → (x : LeadsLine secret w s (again name r fate)) × (x.begins r ≡ p.begins)
again_leads says secret w s name r undelivered h p = (
  record {
    begins = λ x. p.begins;
    of_line = p.made;
    moves = [];
    next = w;
    goes = (refl, refl);
    server_is = refl;
    devices_are = λ other. refl;
    made_is = refl;
  },
  refl,
)
again_leads says secret w s name r (served now changes given arrives) h p =
    let m : Made = record { device = name; request = r; begins = p.begins } in
    let next : World = with_server w (rows_after w.server changes) in
    let serves_it : Serves w next m now changes given =
    record { made = p.made; fits = p.over.0; rule = p.over.1; on = record { server = refl; devices = refl; made = refl } } in
    let said = says secret w next s (serves m now changes given true) h serves_it in (
      record {
        begins = λ x. p.begins;
        of_line = p.made;
        moves = said.0 ++ [];
        next = next;
        goes = (next, said.0, [], serves_it, said.1, (refl, refl), refl);
        server_is = refl;
        devices_are = λ other. refl;
        made_is = refl;
      },
      refl,
    )
again_leads says secret w s name r (crashed now changes given) h p = (
  record {
    begins = λ x. p.begins;
    of_line = p.made;
    moves = [];
    next = w;
    goes = (w, [], [], refl, refl, (refl, refl), refl);
    server_is = refl;
    devices_are = λ other. refl;
    made_is = refl;
  },
  refl,
)

pub leads_again : SaysSome → AgainLeads
leads_again says secret w s m fate h made over =
    again_leads says secret w s m.device m.request fate h (record { begins = m.begins; made = made; over = over })

-- the server's first commit leads on
pub opens_leads : (secret : Bytes) (w : World) (s : Ideal) (changes : List Change) (stands : Bool) → MayCome secret w s (opens changes stands)
    → LeadsLine secret w s (opens changes stands)
opens_leads secret w s changes true (none, is) =
    let next : World = with_server w (rows_after w.server changes) in
    record {
      begins = begins_none;
      of_line = tt;
      moves = [];
      next = next;
      goes = (next, [], [], record { none = none; is = is; on = record { server = refl; devices = refl; made = refl } }, refl, (refl, refl), refl);
      server_is = refl;
      devices_are = λ other. refl;
      made_is = refl;
    }
opens_leads secret w s changes false may = record {
  begins = begins_none;
  of_line = tt;
  moves = [];
  next = w;
  goes = (w, [], [], refl, refl, (refl, refl), refl);
  server_is = refl;
  devices_are = λ other. refl;
  made_is = refl;
}

line_leads : CallLaws → SaysSome → (secret : Bytes) (w : World) (s : Ideal) (line : Line) → TokensDiffer secret → HoldsPlain secret w s → MayCome secret w s line
    → LeadsLine secret w s line
line_leads laws says secret w s (opens changes stands) differ h p = opens_leads secret w s changes stands p
line_leads laws says secret w s (calls name least call words acts fates halt stands) differ h p =
    goes_leads secret w s name least call words acts fates halt stands (goes_call laws secret w s name least call words acts fates halt differ h p)
line_leads laws says secret w s (stops name least call words front met) differ h p =
    front_leads secret w s name least call words front p.later met p.others p.halt p.over
    (goes_call laws secret w s name least call words (front ++ p.later) (met ++ p.others) p.halt differ h p.called)
line_leads laws says secret w s (again name r fate) differ h p = (again_leads says secret w s name r fate h.holds p).0

-- ---- all of them

pub lines_go : CallLaws → SaysSome → KeepsPlain → LinesGo
lines_go laws says keeps secret w s [] differ h may = record {
  steps = [];
  of_lines = refl;
  moves = [];
  next = w;
  goes = (refl, refl);
  keeps = (tt, h);
  server_is = refl;
  devices_are = λ name. refl;
}
lines_go laws says keeps secret w s (line ∷ lines) differ h (comes, follow) =
    let x = line_leads laws says secret w s line differ h comes in
    let own : List Happens = line_steps x.begins line in
    let plain : Each IsPlainStep own = line_plain secret w s line x.begins h.plain comes in
    let k : KeptPlain secret x.next s x.moves = trace_plain keeps secret differ own x.moves w x.next s h plain x.goes in
    let y = lines_go laws says keeps secret x.next (end_from s x.moves) lines differ k.1 (follow x) in
    let goes : Trace secret w s (own ++ y.steps) (x.moves ++ y.moves) y.next =
    trace_append secret own y.steps x.moves y.moves w x.next y.next s x.goes y.goes in
    record {
      steps = own ++ y.steps;
      of_lines = (x.begins, y.steps, refl, y.of_lines);
      moves = x.moves ++ y.moves;
      next = y.next;
      goes = goes;
      keeps = (
        legal_joined s x.moves y.moves k.0 y.keeps.0,
        subst (λ (t : Ideal). HoldsPlain secret y.next t) (sym (end_from-append s x.moves y.moves)) y.keeps.1,
      );
      server_is = y.server_is ∙ ap (λ (server : Rows). server_behind_all server lines) x.server_is;
      devices_are = λ name. y.devices_are name ∙ ap (λ (rows : Rows). device_behind_all name rows lines) (x.devices_are name);
    }

pub lines_keep : PlainFirst → LinesGo → LinesKeep
lines_keep first go secret lines differ may =
    let x = go secret at_first empty lines differ (first secret) may in
    (x, x.keeps.0, x.keeps.1)
