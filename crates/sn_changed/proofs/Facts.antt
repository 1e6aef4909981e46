-- The facts on which the crates above may stand, beside the laws.
pub use Rattle.sn_changed.proofs.Becomes.{becomes, each_before, is_one_of, named_one_of, was_one_of}
pub use Rattle.sn_changed.proofs.Found.{apart_numbers, apart_texts, owner_of}
pub use Rattle.sn_changed.proofs.Stale.{one_stamped}
