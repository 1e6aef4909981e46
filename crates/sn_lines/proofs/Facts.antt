-- The facts on which the crates above may stand, beside the laws: those of passwords, of whichever these are, and of parameters.
pub use Rattle.sn_lines.proofs.LinesGo.{all_lead, both_turn}
pub use Rattle.sn_lines.proofs.ParamsLemmas.{apart_before, params_stay}
pub use Rattle.sn_lines.proofs.PasswordLines.{apart_may_call, each_holds_of, first_holds_of}
pub use Rattle.sn_lines.proofs.WithPasswords.{all_go_with, all_keep_with}
