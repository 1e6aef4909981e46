-- The facts on which the crates above may stand, beside the laws.
pub use Rattle.sn_http.proofs.Finding.{none_in_nothing}
pub use Rattle.sn_http.proofs.Trims.{all_written, digits_ascii, fields_valid, lines_same}
pub use Rattle.sn_http.proofs.WrittenFields.{answer_with, answer_written}
