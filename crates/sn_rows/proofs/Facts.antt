-- The facts on which the crates above may stand, beside the laws.
pub use Rattle.sn_rows.proofs.ColumnLemmas.{payload_again}
pub use Rattle.sn_rows.proofs.EqualColumns.{is_only}
