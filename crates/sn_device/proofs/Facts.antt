-- The facts on which the crates above may stand, beside the laws.
pub use Rattle.sn_device.proofs.AdoptRows.{Adopted, IsAdopted, adopted, adopted_device, adopted_sets}
pub use Rattle.sn_device.proofs.AdoptSound.{adopts_sound, past_asked}
pub use Rattle.sn_device.proofs.Alone.{EndsAlone, ExchangesAlone, StopsAlone, synced_alone}
pub use Rattle.sn_device.proofs.DeviceSteps.{one_set, one_slot}
pub use Rattle.sn_device.proofs.Drafts.{same_row}
pub use Rattle.sn_device.proofs.Frames.{Parts, RetiresOlder, beside, item_after, item_kept, items_of_device, one_of_device, one_owner, parts_keep}
pub use Rattle.sn_device.proofs.Leading.{IsOfItems, Leads, after_append, lead_all}
pub use Rattle.sn_device.proofs.Lengths.{lengths}
pub use Rattle.sn_device.proofs.SoundSteps.{begin_empty, steps_stay_sound}
pub use Rattle.sn_device.proofs.Standing.{IsKept, Stand, left_row, looked}
pub use Rattle.sn_device.proofs.StepStands.{applied_leads, apply_parts, apply_stands, delete_parts, delete_stands, edit_parts, edit_stands, new_stands, post_parts, post_stands, posts_items, put_parts, renew_parts, retires_older}
