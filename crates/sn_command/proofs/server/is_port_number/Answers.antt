use Rattle.std.proofs.Common.{◌<◌, ◌^◌, ℕ, nat_lt, rules}
use Rattle.std.proofs.lemmas.Bool.Decides.{Decides-ltb}
use Rattle.sn_command.proofs.ServerLemmas.{port_of_number}
use Rattle.sn_command.proofs.server.is_port_number.Goals as goal

pub returns-in-Some : goal.returns-in-Some
returns-in-Some c =
    let port : ℕ = c.in-Some.port in
    let small : port < 2 ^ 32 = search rules in
    port_of_number c.args.text.now port (nat_lt port 65536) c.in-Some.ensures.some c.in-Some.ensures.positive small (Decides-ltb port 65536)
