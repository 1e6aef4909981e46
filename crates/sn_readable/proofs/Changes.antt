-- Each request of a sync, of a device that asks for a set too, and of a change of password is readable.
use Rattle.std.proofs.Common.{◌≡◌, ℕ, List, Some, subst, inl, inr}
use Rattle.rand_chacha.specs.ChaCha.{ChaCha}
use Rattle.sn_device.specs.Runs.{Act, AnswersChange, AsksFor, AsksForNew, AsksHost, ChangesPassword, ChangesTo, CommitsStep, Exchanges, Halt, Resolves, SyncsItems, SyncsUnder, Then, begun, change_to}
use Rattle.sn_device.specs.States.{Bytes, HasSets, IsInSlot}
use Rattle.sn_device.specs.Steps.{asks}
use Rattle.sn_device.specs.declared.error.ClientError.TheVariants as refusal
use Rattle.sn_link.specs.Laws.{ReadableWithin}
use Rattle.sn_rows.specs.Table.{Rows}
use Rattle.sn_rows.specs.declared.device_rows.OwnerRow.{OwnerRow}
use Rattle.sn_rows.specs.declared.key.Slot.TheVariants.{Asked, Present}
use Rattle.sn_sets.specs.declared.sets.Sets.{Sets}
use Rattle.sn_string.specs.declared.params.KeySet.{KeySet}
use Rattle.sn_sync.specs.Fits.{AreBytes}
use Rattle.sn_sync.specs.declared.answer.Answer.TheVariants as answer
use Rattle.sn_world.proofs.Facts.{password_fits, slot_fits}
use Rattle.sn_world.specs.Fitting.{StepsFit}
use Rattle.sn_readable.proofs.Pieces.{AreReadableAnyhow, Reads, ReadsEach, answers_readable, asks_read, commit_reads, ends_read, none_readable, then_read}
use Rattle.sn_readable.proofs.Ready.{IsReady, asked_ready}
use Rattle.sn_readable.proofs.Resolved.{adopted_reads, drops_read, resolves_read, to_readable}
use Rattle.sn_readable.proofs.Syncs.{exchanges_read}
use Rattle.sn_readable.specs.Laws.{IsHostName}

-- ---- the server's passwords of the sets that are held

present_fits : (rows : Rows) (owner : OwnerRow) (sets : Sets) → IsReady rows → HasSets rows owner sets → AreBytes 32 sets.present.pw
present_fits rows owner sets good holds = slot_fits rows owner.identifier Present sets.present good.fits.passwords holds.in_use

wanted_fits : (rows : Rows) (owner : OwnerRow) (sets : Sets) (set : KeySet) → IsReady rows → HasSets rows owner sets → sets.asked ≡ Some set
    → AreBytes 32 set.pw
wanted_fits rows owner sets set good holds some =
    slot_fits rows owner.identifier Asked set good.fits.passwords (subst (IsInSlot rows owner.identifier Asked) some holds.wanted)

module _ (within : ReadableWithin) (steps : StepsFit) (host : Bytes) (named : IsHostName host) where
  abbrev Good : List Act → Type 0
  Good acts = AreReadableAnyhow host acts

  -- ---- a sync, of the sets that are held where the call begins

  syncs_read : (rows : Rows) (owner : OwnerRow) (sets : Sets) → IsReady rows → HasSets rows owner sets → Reads host (SyncsUnder owner sets)
  syncs_read rows owner sets first holds p acts turn later good (inl (none, exchanges)) follows =
      exchanges_read within steps host named p acts turn later good exchanges follows
  syncs_read rows owner sets first holds p acts turn later good (inr (set, some, syncs)) follows =
      then_read host (Resolves owner sets.present set) Exchanges
      (resolves_read within steps host named owner sets.present set (present_fits rows owner sets first holds) (wanted_fits rows owner sets set first holds some))
      (exchanges_read within steps host named) p acts turn later good syncs follows

  pub syncs_readable : (rows : Rows) (words : ChaCha) (owner : OwnerRow) (sets : Sets) (acts : List Act) (halt : Halt) → IsReady rows
      → HasSets rows owner sets → SyncsItems rows words owner sets acts halt → Good acts
  syncs_readable rows words owner sets acts halt good holds syncs =
      answers_readable host (SyncsUnder owner sets) (syncs_read rows owner sets good holds) (begun rows words) acts halt good syncs

  -- ---- a set is asked for

  module _ (owner : OwnerRow) (present set : KeySet) (current : AreBytes 32 present.pw) (pw : AreBytes 32 set.pw) where
    answers_change : ReadsEach host (AnswersChange owner present set)
    answers_change (answer.Account token identifier uuid) p acts turn later good commits follows =
        adopted_reads within steps host named owner present set current pw token p acts turn later good commits follows
    answers_change (answer.Refused status tag more) p acts turn later good (inl (is, resolves)) follows =
        resolves_read within steps host named owner present set current pw p acts turn later good resolves follows
    answers_change (answer.Refused status tag more) p acts turn later good (inr (isnt, drops)) follows =
        drops_read within steps host named (refusal.Refused status tag) p acts turn later good drops follows
    answers_change (answer.Params params) p acts turn later good wrong follows = absurd wrong
    answers_change (answer.Sync conflicts cursor retrieved saved token) p acts turn later good wrong follows = absurd wrong

    changed_reads : Reads host (Then (CommitsStep (asks set)) (AsksHost (change_to owner present set) (AnswersChange owner present set)))
    changed_reads =
        then_read host (CommitsStep (asks set)) (AsksHost (change_to owner present set) (AnswersChange owner present set))
        (commit_reads host (asks set) (asked_ready steps set pw))
        (asks_read host (change_to owner present set) (AnswersChange owner present set) (to_readable within steps host named owner present set current pw)
        answers_change)

  new_reads : (password : Bytes) (cost : ℕ) (owner : OwnerRow) (present : KeySet) → AreBytes 32 present.pw
      → Reads host (AsksForNew password cost owner present)
  new_reads password cost owner present current p acts turn later good (set, left, new, goes) follows =
      changed_reads owner present set current (password_fits password set.params set new.keys)
      (record { made = p.made; rows = p.rows; words = left }) acts turn later good goes follows

  asks_for_reads : (password : Bytes) (cost : ℕ) → Reads host (AsksFor password cost)
  asks_for_reads password cost p acts turn later good (inl ends) follows = ends_read host refusal.Memory p acts turn later good ends follows
  asks_for_reads password cost p acts turn later good (inr (owner, sets, holds, inl (why, refuses, ends))) follows =
      ends_read host why p acts turn later good ends follows
  asks_for_reads password cost p acts turn later good (inr (owner, sets, holds, inr (may, inl (most, ends)))) follows =
      ends_read host refusal.RoundsUsed p acts turn later good ends follows
  asks_for_reads password cost p acts turn later good (inr (owner, sets, holds, inr (may, inr (less, new)))) follows =
      new_reads password cost owner sets.present (present_fits p.rows owner sets good holds) p acts turn later good new follows

  -- ---- a change of password

  changes_read : (password : Bytes) (cost : ℕ) (rows : Rows) (owner : OwnerRow) (sets : Sets) → IsReady rows → HasSets rows owner sets
      → Reads host (ChangesTo password cost owner sets)
  changes_read password cost rows owner sets first holds =
      then_read host (SyncsUnder owner sets) (Then (AsksFor password cost) Exchanges) (syncs_read rows owner sets first holds)
      (then_read host (AsksFor password cost) Exchanges (asks_for_reads password cost) (exchanges_read within steps host named))

  pub changes_readable : (least : ℕ) (password : Bytes) (cost : ℕ) (rows : Rows) (words : ChaCha) (owner : OwnerRow) (sets : Sets) (acts : List Act)
      (halt : Halt) → IsReady rows → HasSets rows owner sets → ChangesPassword least password cost rows words owner sets acts halt → Good acts
  changes_readable least password cost rows words owner sets acts halt good holds (inl (bad, refuses)) = none_readable host acts refuses.0
  changes_readable least password cost rows words owner sets acts halt good holds (inr (taken, changes)) =
      answers_readable host (ChangesTo password cost owner sets) (changes_read password cost rows owner sets good holds) (begun rows words) acts halt good
      changes
