-- The facts on which the crates above may stand, beside the laws.
pub use Rattle.sn_world.proofs.AccountCalls.{AccountLaws, begins_set, one_registered, told_present}
pub use Rattle.sn_world.proofs.AccountSets.{nonces_apart, one_set}
pub use Rattle.sn_world.proofs.AskLemmas.{Behind, IsAnswered, answered_stands, ask_leads, asks_goes, goes_on_asked, holds_made, is_answered, last_asked, made_of, made_world, makes_so, said_moves, served_leads, served_world, serves_so}
pub use Rattle.sn_world.proofs.CallFronts.{First, Split, first_of, rows_left, split}
pub use Rattle.sn_world.proofs.CallLemmas.{Goes, Stands, answered_here, answers_goes, broken_leads, commit_leads, committed_here, leads_on, leads_to_on, none_leads, once_goes, refused_here, refuses_goes, stands_then, step_leads, stops_goes, stops_to, trace_append, with_account}
pub use Rattle.sn_world.proofs.DeviceRows.{one_local, one_owner, with_device, with_other, with_own}
pub use Rattle.sn_world.proofs.DeviceSets.{account_is, identifier_of, one_set_row, present_at, row_draft, set_of_row}
pub use Rattle.sn_world.proofs.FittingItems.{sends_fit}
pub use Rattle.sn_world.proofs.FittingPieces.{both_fit, front_fits, none_fit}
pub use Rattle.sn_world.proofs.FittingRows.{slot_fits}
pub use Rattle.sn_world.proofs.FittingWorlds.{FitsMade, FitsMaking, again_makes, all_served, call_makes, end_makes, made_fit, one_fits, one_served}
pub use Rattle.sn_world.proofs.KeyBytes.{password_fits}
pub use Rattle.sn_world.proofs.LegalMoves.{legal_joined, reached_after}
pub use Rattle.sn_world.proofs.Lists.{each_both}
pub use Rattle.sn_world.proofs.OneHeld.{alive_session, holder_at, stamp_below, store_at}
pub use Rattle.sn_world.proofs.PlainKept.{stays_unasked, trace_plain}
pub use Rattle.sn_world.proofs.PlainLines.{acts_plain, again_plain, calls_plain, end_plain, ended_plain, front_plain, keeps_password, line_plain}
pub use Rattle.sn_world.proofs.PresentSets.{none_in, unasked}
pub use Rattle.sn_world.proofs.RoundLemmas.{GoesOn, GoesRoundBy, RoundLaws, asking_steps, changed_device, goes_on_applied, made_with, round_goes, round_steps_with, rounds_go, sent_of}
pub use Rattle.sn_world.proofs.RowSizes.{body_most, strings_size}
pub use Rattle.sn_world.proofs.Sessions.{CallLaws, IsNotOf, by_name, ends_so, first_goes, front_leads, front_steps, goes_leads, made_so, opens_leads, others_stay, own_end, own_steps, with_server}
pub use Rattle.sn_world.proofs.SignedIn.{IsOwned, SignedIn, owned_by, signed_in}
pub use Rattle.sn_world.proofs.SyncCalls.{GoesLater, GoesOver, RoundServed, applied_leads, asked_leads, behind_goes, end_goes, exchange_goes, exchanges_go, last_goes, not_applied, one_round, over_posting, over_round, posting_goes, round_of, round_served, rounds_on, rows_of_round, rows_over, sends_so, steps_of_round, sync_goes}
pub use Rattle.sn_world.proofs.SyncsEnd.{IsWhole, LastApplies, all_done, behind_not, behind_round, commit_last, exchange_not, exchanges_of, has_all, is_synced, is_whole, last_applies, no_draft, none_steps, rounds_rows, stops_not, sync_begins, synced_there, unrefused}
pub use Rattle.sn_world.proofs.Tokens.{alive_last, apart_of, device_account, few_numbers, held_within, named_at, named_identifier, one_account, same_owner, session_account, set_within, there_is, token_session}
pub use Rattle.sn_world.proofs.Traced.{trace_from}
