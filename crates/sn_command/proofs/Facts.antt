-- The facts on which the crates above may stand, beside the laws.
pub use Rattle.sn_command.proofs.OneDevice.{one_device, other_beginning, other_command}
pub use Rattle.sn_command.proofs.OneLine.{one_command, one_gen, one_open, one_seal, one_serve}
pub use Rattle.sn_command.proofs.ServerLemmas.{Both}
