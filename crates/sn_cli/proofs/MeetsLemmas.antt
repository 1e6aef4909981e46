-- What a run did, whatever its words.
use Rattle.std.proofs.Common.{◌≡◌, inl, inr, ℕ, ◌+◌, List, [], Option, eqb, true, false, get_or, refl, sym, ap, subst, codes, arith, ◌∙◌}
use Rattle.std.proofs.KnownBytes.{Keeps-refl}
use Rattle.clap.specs.Kinds.{IsAmong}
use Rattle.clap.specs.declared.error.kind.ErrorKind.{ErrorKind}
use Rattle.clap.specs.declared.error.kind.ErrorKind.TheVariants.{DisplayHelp, DisplayVersion}
use Rattle.sn_cli.specs.Calls.{OpenCallsFor, OpenRefuses, ReplayCallsFor, ReplayRefuses, ShowRefuses}
use Rattle.sn_command.specs.CommandLine.{Asks, SealLine, OpenLine, GenLine, ServeLine, IsGenerating, IsReading, IsServing, IsSealLine, IsOpenLine, IsShowLine, IsReplayLine, IsGenLine, IsServeLine, IsUsage}
use Rattle.sn_command.specs.Named.{Names}
use Rattle.sn_cli.specs.Inputs.{MOST_INPUT}
use Rattle.sn_calls.specs.declared.ends.CallEnd.{CallEnd}
use Rattle.sn_command.specs.DeviceLines.{DeviceLine, IsDeviceLine}
use Rattle.sn_cli.specs.Devices.{DeviceRuns}
use Rattle.sn_status.specs.Lines.{IsTold, TellsValues}
use Rattle.sn_cli.specs.Runs.{AreWordsOf, GenRuns, Meets, RunsOver, SealRuns, ServeRuns, WritesText, IsOfInput, status_of_end}
use Rattle.sn_cli.specs.Shown.{IsShown}
use Rattle.sn_command.specs.Syntax.{AsksForHelp, AsksForVersion, Takes}
use Rattle.sn_status.specs.declared.refusal.ClientRefusal.{ClientRefusal}
use Rattle.sn_status.specs.declared.refusal.Refusal.{Refusal}
use Rattle.sn_status.specs.declared.refusal.Refusal.TheVariants.{InputLong, InputUtf8, Form, Item, Line, NotAllowed, PasswordLine, Client}
use Rattle.sn_device.specs.Runs.{Call}
use Rattle.sn_serve.specs.declared.ends.Served.{Served}
use Rattle.sn_serve.specs.declared.ends.Served.TheVariants as served
use Rattle.sn_status.specs.declared.status.Status.{Status}
use Rattle.sn_status.specs.declared.status.Status.TheVariants.{Done, Usage, Refused, DiskFault, LinkFault, ReadFault, WriteFault, Memory, Foreign, Server, BadAnswer}
use Rattle.sn_disk.specs.declared.mem_shelf.MemShelf.{MemShelf}
use Rattle.sn_cli.proofs.DeviceRuns.{device_to_memory, words_of_device}
use Rattle.sn_command.proofs.Facts.{one_command, one_device, one_gen, one_open, one_seal, one_serve, other_beginning, other_command}
use Rattle.sn_cli.proofs.RunLemmas.{gen_to_memory, none_read, run_to_memory, seal_to_memory}

-- words that ask are no line
not_asked : (words : List (List ℕ)) → Takes words → Asks words → ⊥
unfolding AsksForHelp AsksForVersion
not_asked words takes (inl help) = subst (λ (kinds : List ErrorKind). IsAmong DisplayHelp kinds) takes help
not_asked words takes (inr version) = subst (λ (kinds : List ErrorKind). IsAmong DisplayVersion kinds) takes version

seal_or_open : (words : List (List ℕ)) → Names words (codes "seal") → Names words (codes "open") → ⊥
seal_or_open words a b =
    let e : 115 ≡ 111 = ap (λ name. get_or name 0 0) (one_command words (codes "seal") (codes "open") a b) in
    omega (arith, e)

seal_or_show : (words : List (List ℕ)) → Names words (codes "seal") → Names words (codes "show") → ⊥
seal_or_show words a b =
    let e : 101 ≡ 104 = ap (λ name. get_or name 1 0) (one_command words (codes "seal") (codes "show") a b) in
    omega (arith, e)

seal_or_replay : (words : List (List ℕ)) → Names words (codes "seal") → Names words (codes "replay") → ⊥
seal_or_replay words a b =
    let e : 115 ≡ 114 = ap (λ name. get_or name 0 0) (one_command words (codes "seal") (codes "replay") a b) in
    omega (arith, e)

open_or_show : (words : List (List ℕ)) → Names words (codes "open") → Names words (codes "show") → ⊥
open_or_show words a b =
    let e : 111 ≡ 115 = ap (λ name. get_or name 0 0) (one_command words (codes "open") (codes "show") a b) in
    omega (arith, e)

open_or_replay : (words : List (List ℕ)) → Names words (codes "open") → Names words (codes "replay") → ⊥
open_or_replay words a b =
    let e : 111 ≡ 114 = ap (λ name. get_or name 0 0) (one_command words (codes "open") (codes "replay") a b) in
    omega (arith, e)

show_or_replay : (words : List (List ℕ)) → Names words (codes "show") → Names words (codes "replay") → ⊥
show_or_replay words a b =
    let e : 115 ≡ 114 = ap (λ name. get_or name 0 0) (one_command words (codes "show") (codes "replay") a b) in
    omega (arith, e)

seal_or_serve : (words : List (List ℕ)) → Names words (codes "seal") → Names words (codes "serve") → ⊥
seal_or_serve words a b =
    let e : 97 ≡ 114 = ap (λ name. get_or name 2 0) (one_command words (codes "seal") (codes "serve") a b) in
    omega (arith, e)

open_or_serve : (words : List (List ℕ)) → Names words (codes "open") → Names words (codes "serve") → ⊥
open_or_serve words a b =
    let e : 111 ≡ 115 = ap (λ name. get_or name 0 0) (one_command words (codes "open") (codes "serve") a b) in
    omega (arith, e)

show_or_serve : (words : List (List ℕ)) → Names words (codes "show") → Names words (codes "serve") → ⊥
show_or_serve words a b =
    let e : 104 ≡ 101 = ap (λ name. get_or name 1 0) (one_command words (codes "show") (codes "serve") a b) in
    omega (arith, e)

replay_or_serve : (words : List (List ℕ)) → Names words (codes "replay") → Names words (codes "serve") → ⊥
replay_or_serve words a b =
    let e : 114 ≡ 115 = ap (λ name. get_or name 0 0) (one_command words (codes "replay") (codes "serve") a b) in
    omega (arith, e)

-- words that name `gen` name no command that begins otherwise
gen_or : (words : List (List ℕ)) (name : List ℕ) → eqb (get_or name 0 0) 103 ≡ false → Names words (codes "gen") → Names words name → ⊥
gen_or words name other a b =
    let both : true ≡ false = ap (λ (n : List ℕ). eqb (get_or n 0 0) 103) (one_command words (codes "gen") name a b) ∙ other in
    cc

-- a command that ran has read words
pub words_of_run : (calls_for : List ℕ → List ℕ → Type 0) (refuses : List ℕ → Refusal → Type 0)
    → ((refusal : ClientRefusal) (text : List ℕ) → refuses text (Client refusal) → ⊥) → (words : List (List ℕ)) (status : Status)
    (i j o p : Option (List ℕ)) → IsReading words → RunsOver calls_for refuses status i j o p → AreWordsOf status words
words_of_run calls_for refuses no_client words Done i j o p reading ran = inl reading
words_of_run calls_for refuses no_client words Usage i j o p reading ran = absurd ran
words_of_run calls_for refuses no_client words (Refused InputLong) i j o p reading ran = reading
words_of_run calls_for refuses no_client words (Refused (InputUtf8 place)) i j o p reading ran = reading
words_of_run calls_for refuses no_client words (Refused (Form refusal)) i j o p reading ran = reading
words_of_run calls_for refuses no_client words (Refused (Item refusal)) i j o p reading ran = reading
words_of_run calls_for refuses no_client words (Refused (Line number)) i j o p reading ran = reading
words_of_run calls_for refuses no_client words (Refused (NotAllowed number)) i j o p reading ran = inl reading
words_of_run calls_for refuses no_client words (Refused (PasswordLine count)) i j o p reading ran = reading
words_of_run calls_for refuses no_client words (Refused (Client refusal)) i j o p reading ran = absurd (no_client refusal ran.text ran.cause)
words_of_run calls_for refuses no_client words DiskFault i j o p reading ran = absurd ran
words_of_run calls_for refuses no_client words LinkFault i j o p reading ran = absurd ran
words_of_run calls_for refuses no_client words ReadFault i j o p reading ran = reading
words_of_run calls_for refuses no_client words WriteFault i j o p reading ran = inl reading
words_of_run calls_for refuses no_client words Memory i j o p reading ran = tt
words_of_run calls_for refuses no_client words (Foreign unfit) i j o p reading ran = absurd ran
words_of_run calls_for refuses no_client words (Server number tag) i j o p reading ran = absurd ran
words_of_run calls_for refuses no_client words (BadAnswer place) i j o p reading ran = absurd ran

-- what a status of serving says of the words
words_of_serving : (words : List (List ℕ)) (ends : Served → Type 0) (untouched : Type 0) (status : Status) → IsServing words → ServeRuns ends untouched status → AreWordsOf status words
words_of_serving words ends untouched Done serving ran = inr (inl serving)
words_of_serving words ends untouched Usage serving ran = absurd ran
words_of_serving words ends untouched (Refused refusal) serving ran = absurd ran
words_of_serving words ends untouched DiskFault serving ran = inl serving
words_of_serving words ends untouched LinkFault serving ran = inl serving
words_of_serving words ends untouched ReadFault serving ran = absurd ran
words_of_serving words ends untouched WriteFault serving ran = inr (inl serving)
words_of_serving words ends untouched Memory serving ran = tt
words_of_serving words ends untouched (Foreign unfit) serving ran = inl serving
words_of_serving words ends untouched (Server number tag) serving ran = absurd ran
words_of_serving words ends untouched (BadAnswer place) serving ran = absurd ran

module _ (words : List (List ℕ)) (serves : ServeLine → Status → Type 0) (ends : List ℕ → Call → Option (List ℕ) → CallEnd → Type 0)
    (untouched left link_left shelf_left : Type 0) where
  -- all is left that a command leaves which neither serves nor is a device's
  pub record IsLeft : Type 0 where
    pub served : left
    pub link : link_left
    pub shelf : shelf_left

  pub sealed : (line : SealLine) (status : Status) (b : MemShelf) (i j o p : Option (List ℕ)) (s t : Option (List (List ℕ))) → IsLeft → IsSealLine words line
      → SealRuns line status i j o p s t → Meets words serves ends untouched left link_left shelf_left status b b i j o p s t
  sealed line status b i j o p s t same spelled runs = record {
    seal = λ other is. subst (λ l. SealRuns l status i j o p s t) (one_seal words line other spelled is) runs;
    open_ = λ other is. absurd (seal_or_open words spelled.command is.command);
    show = λ is. absurd (seal_or_show words spelled.command is);
    replay = λ is. absurd (seal_or_replay words spelled.command is);
    generate = λ other is. absurd (gen_or words (codes "seal") refl is.command spelled.command);
    serve = λ other is. absurd (seal_or_serve words spelled.command is.command);
    device = λ other is. absurd (other_command words (codes "seal") other refl spelled.command is);
    help = λ asks. absurd (not_asked words spelled.command.takes asks);
    spelled = words_of_run _ _ (λ refusal text none. none) words status i j o p (inl (line, spelled)) runs.ran;
    usage = λ usage. absurd (usage.no_seal line spelled);
    unread = λ usage. absurd (usage.no_seal line spelled);
    served_unread = λ is. absurd (seal_or_serve words spelled.command is.1.command);
    gen_unread = λ is. absurd (gen_or words (codes "seal") refl is.1.command spelled.command);
    undrawn = λ none no_serve no_device. absurd (none line spelled);
    unplayed = λ no_replay no_gen. refl;
    unserved = λ none. same.served;
    unasked = λ none. same.link;
    unstored = λ no_serve no_device. same.shelf;
    no_script = λ of_input. refl;
  }

  pub opened : (line : OpenLine) (status : Status) (b : MemShelf) (i j o p : Option (List ℕ)) (s : Option (List (List ℕ))) → IsLeft → IsOpenLine words line
      → RunsOver (OpenCallsFor line) (OpenRefuses line) status i j o p → Meets words serves ends untouched left link_left shelf_left status b b i j o p s s
  opened line status b i j o p s same spelled runs = record {
    seal = λ other is. absurd (seal_or_open words is.command spelled.command);
    open_ = λ other is. subst (λ l. RunsOver (OpenCallsFor l) (OpenRefuses l) status i j o p) (one_open words line other spelled is) runs;
    show = λ is. absurd (open_or_show words spelled.command is);
    replay = λ is. absurd (open_or_replay words spelled.command is);
    generate = λ other is. absurd (gen_or words (codes "open") refl is.command spelled.command);
    serve = λ other is. absurd (open_or_serve words spelled.command is.command);
    device = λ other is. absurd (other_command words (codes "open") other refl spelled.command is);
    help = λ asks. absurd (not_asked words spelled.command.takes asks);
    spelled = words_of_run _ _ (λ refusal text none. none) words status i j o p (inr (inl (line, spelled))) runs;
    usage = λ usage. absurd (usage.no_open line spelled);
    unread = λ usage. absurd (usage.no_open line spelled);
    served_unread = λ is. absurd (open_or_serve words spelled.command is.1.command);
    gen_unread = λ is. absurd (gen_or words (codes "open") refl is.1.command spelled.command);
    undrawn = λ none no_serve no_device. refl;
    unplayed = λ no_replay no_gen. refl;
    unserved = λ none. same.served;
    unasked = λ none. same.link;
    unstored = λ no_serve no_device. same.shelf;
    no_script = λ of_input. refl;
  }

  pub shown : (status : Status) (b : MemShelf) (i j o p : Option (List ℕ)) (s : Option (List (List ℕ))) → IsLeft → IsShowLine words
      → RunsOver IsShown ShowRefuses status i j o p → Meets words serves ends untouched left link_left shelf_left status b b i j o p s s
  shown status b i j o p s same spelled runs = record {
    seal = λ other is. absurd (seal_or_show words is.command spelled);
    open_ = λ other is. absurd (open_or_show words is.command spelled);
    show = λ is. runs;
    replay = λ is. absurd (show_or_replay words spelled is);
    generate = λ other is. absurd (gen_or words (codes "show") refl is.command spelled);
    serve = λ other is. absurd (show_or_serve words spelled is.command);
    device = λ other is. absurd (other_command words (codes "show") other refl spelled is);
    help = λ asks. absurd (not_asked words spelled.takes asks);
    spelled = words_of_run _ _ (λ refusal text none. none) words status i j o p (inr (inr (inl spelled))) runs;
    usage = λ usage. absurd (usage.no_show spelled);
    unread = λ usage. absurd (usage.no_show spelled);
    served_unread = λ is. absurd (show_or_serve words spelled is.1.command);
    gen_unread = λ is. absurd (gen_or words (codes "show") refl is.1.command spelled);
    undrawn = λ none no_serve no_device. refl;
    unplayed = λ no_replay no_gen. refl;
    unserved = λ none. same.served;
    unasked = λ none. same.link;
    unstored = λ no_serve no_device. same.shelf;
    no_script = λ of_input. refl;
  }

  pub replayed : (status : Status) (b c : MemShelf) (i j o p : Option (List ℕ)) (s : Option (List (List ℕ))) → IsLeft → IsReplayLine words
      → RunsOver (ReplayCallsFor c) ReplayRefuses status i j o p → (IsOfInput status → c ≡ b) → Meets words serves ends untouched left link_left shelf_left status b c i j o p s s
  replayed status b c i j o p s same spelled runs kept = record {
    seal = λ other is. absurd (seal_or_replay words is.command spelled);
    open_ = λ other is. absurd (open_or_replay words is.command spelled);
    show = λ is. absurd (show_or_replay words is spelled);
    replay = λ is. runs;
    generate = λ other is. absurd (gen_or words (codes "replay") refl is.command spelled);
    serve = λ other is. absurd (replay_or_serve words spelled is.command);
    device = λ other is. absurd (other_command words (codes "replay") other refl spelled is);
    help = λ asks. absurd (not_asked words spelled.takes asks);
    spelled = words_of_run _ _ (λ refusal text none. none) words status i j o p (inr (inr (inr (inl spelled)))) runs;
    usage = λ usage. absurd (usage.no_replay spelled);
    unread = λ usage. absurd (usage.no_replay spelled);
    served_unread = λ is. absurd (replay_or_serve words spelled is.1.command);
    gen_unread = λ is. absurd (gen_or words (codes "replay") refl is.1.command spelled);
    undrawn = λ none no_serve no_device. refl;
    unplayed = λ no_replay no_gen. absurd (no_replay spelled);
    unserved = λ none. same.served;
    unasked = λ none. same.link;
    unstored = λ no_serve no_device. same.shelf;
    no_script = kept;
  }

  -- what a status of `gen` says of the words
  words_of_gen : (line : GenLine) (c : MemShelf) (status : Status) (o p : Option (List ℕ)) → IsGenerating words → GenRuns line c status o p → AreWordsOf status words
  words_of_gen line c Done o p generating ran = inr (inr (inr (inl generating)))
  words_of_gen line c Usage o p generating ran = absurd ran
  words_of_gen line c (Refused InputLong) o p generating ran = absurd ran.cause
  words_of_gen line c (Refused (InputUtf8 place)) o p generating ran = absurd ran.cause
  words_of_gen line c (Refused (Form refusal)) o p generating ran = absurd ran.cause
  words_of_gen line c (Refused (Item refusal)) o p generating ran = absurd ran.cause
  words_of_gen line c (Refused (Line number)) o p generating ran = absurd ran.cause
  words_of_gen line c (Refused (NotAllowed number)) o p generating ran = inr generating
  words_of_gen line c (Refused (PasswordLine count)) o p generating ran = absurd ran.cause
  words_of_gen line c (Refused (Client refusal)) o p generating ran = absurd ran.cause
  words_of_gen line c DiskFault o p generating ran = absurd ran
  words_of_gen line c LinkFault o p generating ran = absurd ran
  words_of_gen line c ReadFault o p generating ran = absurd ran
  words_of_gen line c WriteFault o p generating ran = inr (inr (inr (inl generating)))
  words_of_gen line c Memory o p generating ran = tt
  words_of_gen line c (Foreign unfit) o p generating ran = absurd ran
  words_of_gen line c (Server number tag) o p generating ran = absurd ran
  words_of_gen line c (BadAnswer place) o p generating ran = absurd ran

  pub generated : (line : GenLine) (status : Status) (b c : MemShelf) (i o p : Option (List ℕ)) (s : Option (List (List ℕ))) → IsLeft → IsGenLine words line
      → GenRuns line c status o p → (IsOfInput status → c ≡ b) → Meets words serves ends untouched left link_left shelf_left status b c i i o p s s
  generated line status b c i o p s same spelled runs kept = record {
    seal = λ other is. absurd (gen_or words (codes "seal") refl spelled.command is.command);
    open_ = λ other is. absurd (gen_or words (codes "open") refl spelled.command is.command);
    show = λ is. absurd (gen_or words (codes "show") refl spelled.command is);
    replay = λ is. absurd (gen_or words (codes "replay") refl spelled.command is);
    generate = λ other is. subst (λ l. GenRuns l c status o p) (one_gen words line other spelled is) runs;
    serve = λ other is. absurd (gen_or words (codes "serve") refl spelled.command is.command);
    device = λ other is. absurd (other_beginning words (codes "gen") other refl spelled.command is);
    help = λ asks. absurd (not_asked words spelled.command.takes asks);
    spelled = words_of_gen line c status o p (line, spelled) runs;
    usage = λ usage. absurd (usage.no_gen line spelled);
    unread = λ usage. refl;
    served_unread = λ is. refl;
    gen_unread = λ is. refl;
    undrawn = λ none no_serve no_device. refl;
    unplayed = λ no_replay no_gen. absurd (no_gen (line, spelled));
    unserved = λ none. same.served;
    unasked = λ none. same.link;
    unstored = λ no_serve no_device. same.shelf;
    no_script = kept;
  }

  words_of_answer : (status : Status) (o p : Option (List ℕ)) → Asks words → WritesText status o p → AreWordsOf status words
  words_of_answer Done o p asks wrote = inr (inr (inr (inr asks)))
  words_of_answer Usage o p asks wrote = absurd wrote
  words_of_answer (Refused refusal) o p asks wrote = absurd wrote
  words_of_answer DiskFault o p asks wrote = absurd wrote
  words_of_answer LinkFault o p asks wrote = absurd wrote
  words_of_answer ReadFault o p asks wrote = absurd wrote
  words_of_answer WriteFault o p asks wrote = inr (inr (inr (inr asks)))
  words_of_answer Memory o p asks wrote = tt
  words_of_answer (Foreign unfit) o p asks wrote = absurd wrote
  words_of_answer (Server number tag) o p asks wrote = absurd wrote
  words_of_answer (BadAnswer place) o p asks wrote = absurd wrote

  pub answered : (status : Status) (b : MemShelf) (i o p : Option (List ℕ)) (s : Option (List (List ℕ))) → IsLeft → Asks words → WritesText status o p
      → Meets words serves ends untouched left link_left shelf_left status b b i i o p s s
  answered status b i o p s same asks wrote = record {
    seal = λ line is. absurd (not_asked words is.command.takes asks);
    open_ = λ line is. absurd (not_asked words is.command.takes asks);
    show = λ is. absurd (not_asked words is.takes asks);
    replay = λ is. absurd (not_asked words is.takes asks);
    generate = λ line is. absurd (not_asked words is.command.takes asks);
    serve = λ line is. absurd (not_asked words is.command.takes asks);
    device = λ line is. absurd (not_asked words is.command.takes asks);
    help = λ _. record { unread = refl; wrote = inl wrote };
    spelled = words_of_answer status o p asks wrote;
    usage = λ usage none. absurd (none asks);
    unread = λ usage. refl;
    served_unread = λ is. refl;
    gen_unread = λ is. refl;
    undrawn = λ none no_serve no_device. refl;
    unplayed = λ no_replay no_gen. refl;
    unserved = λ none. same.served;
    unasked = λ none. same.link;
    unstored = λ no_serve no_device. same.shelf;
    no_script = λ of_input. refl;
  }

  pub faulty : (b : MemShelf) (i o : Option (List ℕ)) (s : Option (List (List ℕ))) → IsLeft → IsUsage words → Meets words serves ends untouched left link_left shelf_left Usage b b i i o o s s
  faulty b i o s same usage = record {
    seal = λ line is. absurd (usage.no_seal line is);
    open_ = λ line is. absurd (usage.no_open line is);
    show = λ is. absurd (usage.no_show is);
    replay = λ is. absurd (usage.no_replay is);
    generate = λ line is. absurd (usage.no_gen line is);
    serve = λ line is. absurd (usage.no_serve line is);
    device = λ line is. absurd (usage.no_device line is);
    help = λ asks. record { unread = refl; wrote = inr refl };
    spelled = usage;
    usage = λ _ none. inl refl;
    unread = λ _. refl;
    served_unread = λ is. refl;
    gen_unread = λ is. refl;
    undrawn = λ none no_serve no_device. refl;
    unplayed = λ no_replay no_gen. refl;
    unserved = λ none. same.served;
    unasked = λ none. same.link;
    unstored = λ no_serve no_device. same.shelf;
    no_script = λ of_input. refl;
  }

  pub wanted : (b : MemShelf) (i o : Option (List ℕ)) (s : Option (List (List ℕ))) → IsLeft → untouched → ((line : ServeLine) → serves line Memory)
      → Meets words serves ends untouched left link_left shelf_left Memory b b i i o o s s
  wanted b i o s same kept nothing = record {
    seal = λ line is. record { seed = []; drew = inl refl; ran = none_read i (MOST_INPUT + 1) };
    open_ = λ line is. none_read i (MOST_INPUT + 1);
    show = λ is. none_read i (MOST_INPUT + 1);
    replay = λ is. none_read i (MOST_INPUT + 1);
    generate = λ line is. Keeps-refl o;
    serve = λ line is. nothing line;
    device = λ line is. inl (record { read = inl refl; kept = kept; silent = Keeps-refl o });
    help = λ asks. record { unread = refl; wrote = inl tt };
    spelled = tt;
    usage = λ usage none. inr refl;
    unread = λ _. refl;
    served_unread = λ is. refl;
    gen_unread = λ is. refl;
    undrawn = λ none no_serve no_device. refl;
    unplayed = λ no_replay no_gen. refl;
    unserved = λ none. same.served;
    unasked = λ none. same.link;
    unstored = λ no_serve no_device. same.shelf;
    no_script = λ of_input. refl;
  }

  -- a status for whose line memory was wanting
  to_memory : (status : Status) → TellsValues status → (b c : MemShelf) (i j o p : Option (List ℕ)) (s t : Option (List (List ℕ)))
      → ((line : ServeLine) → serves line status → serves line Memory)
      → Meets words serves ends untouched left link_left shelf_left status b c i j o p s t
      → Meets words serves ends untouched left link_left shelf_left Memory b c i j o p s t
  to_memory status tells b c i j o p s t turns met = record {
    seal = λ line is. seal_to_memory line status tells i j o p s t (met.seal line is);
    open_ = λ line is. run_to_memory (OpenCallsFor line) (OpenRefuses line) status tells i j o p (met.open_ line is);
    show = λ is. run_to_memory IsShown ShowRefuses status tells i j o p (met.show is);
    replay = λ is. run_to_memory (ReplayCallsFor c) ReplayRefuses status tells i j o p (met.replay is);
    generate = λ line is. gen_to_memory line c status tells o p (met.generate line is);
    serve = λ line is. turns line (met.serve line is);
    device = λ line is. device_to_memory ends untouched line i j o p status tells (met.device line is);
    help = λ asks. record { unread = (met.help asks).unread; wrote = inl tt };
    spelled = tt;
    usage = λ usage none. inr refl;
    unread = met.unread;
    served_unread = met.served_unread;
    gen_unread = met.gen_unread;
    undrawn = met.undrawn;
    unplayed = met.unplayed;
    unserved = met.unserved;
    unasked = met.unasked;
    unstored = met.unstored;
    no_script = λ of_input. absurd of_input;
  }

  pub told : (status after : Status) (b c : MemShelf) (i j o p : Option (List ℕ)) (s t : Option (List (List ℕ)))
      → (TellsValues status → (line : ServeLine) → serves line status → serves line Memory)
      → IsTold status after → Meets words serves ends untouched left link_left shelf_left status b c i j o p s t
      → Meets words serves ends untouched left link_left shelf_left after b c i j o p s t
  told status after b c i j o p s t turns (inl same) met =
      subst (λ (x : Status). Meets words serves ends untouched left link_left shelf_left x b c i j o p s t) (sym same) met
  told status after b c i j o p s t turns (inr (tells, is)) met =
      subst (λ (x : Status). Meets words serves ends untouched left link_left shelf_left x b c i j o p s t) (sym is)
      (to_memory status tells b c i j o p s t (turns tells) met)

  -- a run of a device's command
  pub called_so : (line : DeviceLine) (status : Status) (b : MemShelf) (i j o p : Option (List ℕ)) (s t : Option (List (List ℕ))) → left
      → IsDeviceLine words line → DeviceRuns ends untouched line i j o p status
      → Meets words serves ends untouched left link_left shelf_left status b b i j o p s t
  called_so line status b i j o p s t same spelled runs = record {
    seal = λ other is. absurd (other_command words (codes "seal") line refl is.command spelled);
    open_ = λ other is. absurd (other_command words (codes "open") line refl is.command spelled);
    show = λ is. absurd (other_command words (codes "show") line refl is spelled);
    replay = λ is. absurd (other_command words (codes "replay") line refl is spelled);
    generate = λ other is. absurd (other_beginning words (codes "gen") line refl is.command spelled);
    serve = λ other is. absurd (other_command words (codes "serve") line refl is.command spelled);
    device = λ other is. subst (λ l. DeviceRuns ends untouched l i j o p status) (one_device words line other spelled is) runs;
    help = λ asks. absurd (not_asked words spelled.command.takes asks);
    spelled = words_of_device ends untouched line i j o p words status spelled runs;
    usage = λ usage. absurd (usage.no_device line spelled);
    unread = λ usage. absurd (usage.no_device line spelled);
    served_unread = λ is. absurd (other_command words (codes "serve") line refl is.1.command spelled);
    gen_unread = λ is. absurd (other_beginning words (codes "gen") line refl is.1.command spelled);
    undrawn = λ none no_serve no_device. absurd (no_device (line, spelled));
    unplayed = λ no_replay no_gen. refl;
    unserved = λ none. same;
    unasked = λ none. absurd (none (line, spelled));
    unstored = λ no_serve no_device. absurd (no_device (line, spelled));
    no_script = λ of_input. refl;
  }

-- a run of `serve`
pub served_so : (words : List (List ℕ)) (served_ends : ServeLine → Served → Type 0) (unserved_so : Type 0)
    (ends : List ℕ → Call → Option (List ℕ) → CallEnd → Type 0) (untouched left link_left shelf_left : Type 0) (line : ServeLine) (status : Status)
    (b : MemShelf) (i o p : Option (List ℕ)) (s t : Option (List (List ℕ))) → link_left → IsServeLine words line
    → ServeRuns (served_ends line) unserved_so status
    → Meets words (λ l. ServeRuns (served_ends l) unserved_so) ends untouched left link_left shelf_left status b b i i o p s t
served_so words served_ends unserved_so ends untouched left link_left shelf_left line status b i o p s t same spelled ran = record {
  seal = λ other is. absurd (seal_or_serve words is.command spelled.command);
  open_ = λ other is. absurd (open_or_serve words is.command spelled.command);
  show = λ is. absurd (show_or_serve words is spelled.command);
  replay = λ is. absurd (replay_or_serve words is spelled.command);
  generate = λ other is. absurd (gen_or words (codes "serve") refl is.command spelled.command);
  serve = λ other is. subst (λ (l : ServeLine). ServeRuns (served_ends l) unserved_so status) (one_serve words line other spelled is) ran;
  device = λ other is. absurd (other_command words (codes "serve") other refl spelled.command is);
  help = λ asks. absurd (not_asked words spelled.command.takes asks);
  spelled = words_of_serving words (served_ends line) unserved_so status (line, spelled) ran;
  usage = λ usage. absurd (usage.no_serve line spelled);
  unread = λ usage. absurd (usage.no_serve line spelled);
  served_unread = λ is. refl;
  gen_unread = λ is. refl;
  undrawn = λ none no_serve no_device. absurd (no_serve (line, spelled));
  unplayed = λ no_replay no_gen. refl;
  unserved = λ none. absurd (none (line, spelled));
  unasked = λ none. same;
  unstored = λ no_serve no_device. absurd (no_serve (line, spelled));
  no_script = λ of_input. refl;
}

-- `serve` turns to want of memory where its line tells what is wrong with a store
pub serving_to_memory : (ends : Served → Type 0) (untouched : Type 0) (status : Status) → TellsValues status → ServeRuns ends untouched status
    → ServeRuns ends untouched Memory
serving_to_memory ends untouched Done tells ran = absurd tells
serving_to_memory ends untouched Usage tells ran = absurd tells
serving_to_memory ends untouched (Refused refusal) tells ran = absurd ran
serving_to_memory ends untouched DiskFault tells ran = absurd tells
serving_to_memory ends untouched LinkFault tells ran = absurd tells
serving_to_memory ends untouched ReadFault tells ran = absurd tells
serving_to_memory ends untouched WriteFault tells ran = absurd tells
serving_to_memory ends untouched Memory tells ran = absurd tells
serving_to_memory ends untouched (Foreign fault) tells ran = inr (inr (fault, ran))
serving_to_memory ends untouched (Server number tag) tells ran = absurd ran
serving_to_memory ends untouched (BadAnswer place) tells ran = absurd ran

-- the status of an end
pub ran_so : (ends : Served → Type 0) (untouched : Type 0) (end : Served) → ends end → ServeRuns ends untouched (status_of_end end)
ran_so ends untouched served.Reached ended = ended
ran_so ends untouched served.DiskFault ended = ended
ran_so ends untouched served.PortFault ended = ended
ran_so ends untouched served.WriteFault ended = ended
ran_so ends untouched (served.Foreign place) ended = ended
ran_so ends untouched (served.Damaged place) ended = ended
ran_so ends untouched (served.Rows kind) ended = ended
ran_so ends untouched served.Memory ended = inr (inl ended)
