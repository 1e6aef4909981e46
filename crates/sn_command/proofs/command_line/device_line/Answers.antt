use Rattle.std.proofs.Common.{◌≡◌, ℕ, List, [], codes, option_map, ap}
use Rattle.clap.specs.Faults.{fault_of}
use Rattle.clap.specs.Walk.{Row}
use Rattle.sn_command.specs.Given.{IsGivenBy}
use Rattle.sn_command.specs.Named.{Names}
use Rattle.sn_command.specs.Syntax.{command_named, sn_app}
use Rattle.sn_command.specs.declared.given.Given.{Given}
use Rattle.sn_command.proofs.OneLine.{one_value}
use Rattle.sn_command.proofs.command_line.device_line.Goals as goal

-- the words name the command that they give
same_name : (words : List (List ℕ)) (given : Given) (name : List ℕ) → IsGivenBy words given → Names words name → given.command.now ≡ name
same_name words given name is named =
    one_value given.command.now name (command_named words) (ap (option_map (λ (named : List ℕ × List Row). named.0)) is.subcommand) named.named

pub returns-in-None-clause-none : goal.returns-in-None-clause-none
returns-in-None-clause-none c words given =
    let none : fault_of sn_app words ≡ [] = given.takes in
    record {
      no_seal = λ line is. c.requires.not_seal (same_name words c.args.given.now (codes "seal") given is.command);
      no_open = λ line is. c.requires.not_open (same_name words c.args.given.now (codes "open") given is.command);
      no_show = λ is. c.requires.not_show (same_name words c.args.given.now (codes "show") given is);
      no_replay = λ is. c.requires.not_replay (same_name words c.args.given.now (codes "replay") given is);
      no_gen = λ line is. c.requires.not_gen (same_name words c.args.given.now (codes "gen") given is.command);
      no_serve = λ line is. c.requires.not_serve (same_name words c.args.given.now (codes "serve") given is.command);
      no_device = λ line is. c.in-None.ensures.none words line given is;
      no_help = λ e. cc;
      no_version = λ e. cc;
    }
