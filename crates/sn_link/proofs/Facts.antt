-- The facts on which the crates above may stand, beside the laws.
pub use Rattle.sn_link.proofs.Asking.{is_failed}
pub use Rattle.sn_link.proofs.Delivering.{message_some}
pub use Rattle.sn_link.proofs.Heard.{heard_is}
pub use Rattle.sn_link.proofs.Requests.{IsRuled, ReadLaws, no_check_fails, ruled, some, the_message, whole}
pub use Rattle.sn_link.proofs.Serving.{HearLaws}
pub use Rattle.sn_link.proofs.Statuses.{rule_three}
pub use Rattle.sn_link.proofs.Wanting.{wanting_text, wanting_writes}
