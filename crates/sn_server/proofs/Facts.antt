-- The facts on which the crates above may stand, beside the laws.
pub use Rattle.sn_server.proofs.Running.{all_more, serves_more}
