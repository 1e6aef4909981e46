-- The facts on which the crates above may stand, beside the laws.
pub use Rattle.sn_account.proofs.AccountUuids.{IsUuidText-account}
pub use Rattle.sn_account.proofs.AnswerTexts.{IsSlim, item_size, length-items, length-member, length-quoted, length-stamp}
pub use Rattle.sn_account.proofs.FirstLemmas.{first_sound}
pub use Rattle.sn_account.proofs.PresentLemmas.{lengths}
pub use Rattle.sn_account.proofs.SessionTokens.{BeginsWith-token, same_account}
pub use Rattle.sn_account.proofs.UnescapedTexts.{sealed_are_unescaped}
