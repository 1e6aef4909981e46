-- The facts on which the crates above may stand, beside the laws.
pub use Rattle.sn_items.proofs.ItemLawLemmas.{no_item_refusal, one_content}
pub use Rattle.sn_items.proofs.OpenLemmas.{no_refusal, opens_once}
pub use Rattle.sn_items.proofs.Utf8Bytes.{utf8_bytes}
