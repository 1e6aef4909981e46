-- The facts on which the crates above may stand, beside the laws.
pub use Rattle.sn_string.proofs.Base64Facts.{decode_of-base64, length-base64_text, same_bytes}
pub use Rattle.sn_string.proofs.Cases.{IfNone-given}
pub use Rattle.sn_string.proofs.Colons.{HasNoColon-base64}
pub use Rattle.sn_string.proofs.HexFacts.{decode_sized-lower}
pub use Rattle.sn_string.proofs.Places.{ciphertext_place}
pub use Rattle.sn_string.proofs.Unique.{one_reading, read_back, same_keys, same_params}
pub use Rattle.sn_string.proofs.UuidFacts.{parsed-spelled}
