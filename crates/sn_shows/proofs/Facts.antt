-- The facts on which the crates above may stand, beside the laws.
pub use Rattle.sn_shows.proofs.AdoptedDevice.{adopted_shows}
pub use Rattle.sn_shows.proofs.AdoptedPosted.{reposted_shows, unposted_shows}
pub use Rattle.sn_shows.proofs.AdoptedRetired.{retire_keeps, retired_shows, unpost_keeps}
pub use Rattle.sn_shows.proofs.AdoptedSets.{greatest_of_one, greatest_of_two, one_number, one_opened, one_set}
pub use Rattle.sn_shows.proofs.DeviceAnswered.{answered_shows}
pub use Rattle.sn_shows.proofs.DeviceDrafts.{edited_shows, posted_shows, settled_shows}
pub use Rattle.sn_shows.proofs.DeviceItems.{IsPut, put_holder}
pub use Rattle.sn_shows.proofs.DeviceKeeps.{edit_keeps, join_keeps, post_keeps, settle_keeps}
pub use Rattle.sn_shows.proofs.DeviceLookups.{find_changed, find_changed_without, find_moved, find_new, find_past_changed, find_past_new, find_past_without, find_without}
pub use Rattle.sn_shows.proofs.DeviceMoved.{forked_shows, renamed_shows}
pub use Rattle.sn_shows.proofs.DeviceOwners.{joined_shows, tokens_show}
pub use Rattle.sn_shows.proofs.DeviceRemoved.{none_left, removed_clean, removed_shows}
pub use Rattle.sn_shows.proofs.DeviceStates.{draft_is, draft_passes, holder_from, holder_of, local_alike, not_device, not_of_device, not_of_item, opens_own, own_opens, shows_alike, shows_of}
pub use Rattle.sn_shows.proofs.RekeyedItems.{rewrapped_shows}
pub use Rattle.sn_shows.proofs.RekeyedKeeps.{change_keeps, rewrap_keeps}
pub use Rattle.sn_shows.proofs.RekeyedLast.{changed_last, rewrapped_last}
pub use Rattle.sn_shows.proofs.RekeyedServer.{changed_server}
pub use Rattle.sn_shows.proofs.RekeyedSets.{changed_shows}
pub use Rattle.sn_shows.proofs.ServersAccept.{accepted_shows}
pub use Rattle.sn_shows.proofs.ServersApart.{accounts_apart, each_at, one_at}
pub use Rattle.sn_shows.proofs.ServersKeep.{accept_keeps, register_keeps}
pub use Rattle.sn_shows.proofs.ServersLast.{accepted_last}
pub use Rattle.sn_shows.proofs.ServersLists.{ChangedFrom, account_before, account_cases, account_changed, account_last, change_account, last_other, last_own, more, number_within, set_last}
pub use Rattle.sn_shows.proofs.ServersRegister.{new_account, registered_shows}
pub use Rattle.sn_shows.proofs.ServersStore.{store_shows}
