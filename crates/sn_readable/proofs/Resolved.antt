-- What became of a change of password is found out: each request for that is readable, and the rows are ready again behind its commit.
use Rattle.std.proofs.Common.{ℕ, inl, inr}
use Rattle.std.specs.Prelude.{codes}
use Rattle.sn_device.specs.Runs.{AdoptsOrDrops, AdoptsOrKeeps, CommitsStep, Drops, DropsOrKeeps, EndsBy, Finds, FindsParams, Resolves, change_to}
use Rattle.sn_device.specs.States.{Bytes}
use Rattle.sn_device.specs.Steps.{adopts, forgets}
use Rattle.sn_device.specs.declared.error.ClientError.{ClientError}
use Rattle.sn_device.specs.declared.error.ClientError.TheVariants as refusal
use Rattle.sn_link.specs.Laws.{IsReadable, ReadableWithin}
use Rattle.sn_rows.specs.declared.device_rows.OwnerRow.{OwnerRow}
use Rattle.sn_string.specs.declared.params.KeySet.{KeySet}
use Rattle.sn_string.specs.declared.params.Params.{Params}
use Rattle.sn_sync.specs.Fits.{AreBytes}
use Rattle.sn_sync.specs.declared.answer.Answer.TheVariants as answer
use Rattle.sn_sync.specs.declared.request.Request.TheVariants as request
use Rattle.sn_world.proofs.FittingItems.{change_fits, params_fit, sign_in_fits}
use Rattle.sn_world.specs.Fitting.{StepsFit}
use Rattle.sn_readable.proofs.Pieces.{Reads, ReadsEach, asks_read, commit_reads, ends_read, then_read}
use Rattle.sn_readable.proofs.Ready.{adopted_ready, forgotten_ready}
use Rattle.sn_readable.proofs.Requests.{change_readable, params_readable, sign_in_readable}
use Rattle.sn_readable.proofs.Sent.{owner_token}
use Rattle.sn_readable.specs.Laws.{IsHostName}

module _ (within : ReadableWithin) (steps : StepsFit) (host : Bytes) (named : IsHostName host) where
  pub drops_read : (why : ClientError) → Reads host (Drops why)
  drops_read why = then_read host (CommitsStep forgets) (EndsBy why) (commit_reads host forgets (forgotten_ready steps)) (ends_read host why)

  drops_or_keeps : (status : ℕ) (tag : Bytes) → Reads host (DropsOrKeeps status tag)
  drops_or_keeps status tag p acts turn later good (inl (is, drops)) follows = drops_read (refusal.Refused status tag) p acts turn later good drops follows
  drops_or_keeps status tag p acts turn later good (inr (isnt, ends)) follows =
      ends_read host (refusal.Refused status tag) p acts turn later good ends follows

  module _ (owner : OwnerRow) (present set : KeySet) (current : AreBytes 32 present.pw) (pw : AreBytes 32 set.pw) where
    -- the change itself, under the session token of the device's row
    pub to_readable : IsReadable host (change_to owner present set)
    to_readable =
        change_readable within host named owner.token present.pw set.pw set.params.pw_cost set.params.pw_nonce (change_fits owner present set current pw)
        (owner_token owner)

    pub adopted_reads : (token : Bytes) → Reads host (CommitsStep (adopts set token))
    adopted_reads token = commit_reads host (adopts set token) (adopted_ready steps set token pw)

    adopts_or_drops : ReadsEach host (AdoptsOrDrops set)
    adopts_or_drops (answer.Account token identifier uuid) p acts turn later good commits follows = adopted_reads token p acts turn later good commits follows
    adopts_or_drops (answer.Refused status tag more) p acts turn later good drops follows =
        drops_read (refusal.Refused status tag) p acts turn later good drops follows
    adopts_or_drops (answer.Params params) p acts turn later good wrong follows = absurd wrong
    adopts_or_drops (answer.Sync conflicts cursor retrieved saved token) p acts turn later good wrong follows = absurd wrong

    adopts_or_keeps : ReadsEach host (AdoptsOrKeeps set)
    adopts_or_keeps (answer.Account token identifier uuid) p acts turn later good commits follows = adopted_reads token p acts turn later good commits follows
    adopts_or_keeps (answer.Refused status tag more) p acts turn later good goes follows = drops_or_keeps status tag p acts turn later good goes follows
    adopts_or_keeps (answer.Params params) p acts turn later good wrong follows = absurd wrong
    adopts_or_keeps (answer.Sync conflicts cursor retrieved saved token) p acts turn later good wrong follows = absurd wrong

    finds_params : (params : Params) → Reads host (FindsParams owner present set params)
    finds_params params p acts turn later good (inl (unmade, again)) follows =
        asks_read host (change_to owner present set) (AdoptsOrDrops set) to_readable adopts_or_drops p acts turn later good again follows
    finds_params params p acts turn later good (inr (other, inl (was_made, signs))) follows =
        asks_read host (request.SignIn owner.identifier set.pw) (AdoptsOrKeeps set)
        (sign_in_readable within host named owner.identifier set.pw (sign_in_fits owner set pw)) adopts_or_keeps p acts turn later good signs follows
    finds_params params p acts turn later good (inr (other, inr (neither, drops))) follows =
        drops_read (refusal.Refused 401 (codes "bad-auth")) p acts turn later good drops follows

    finds_read : ReadsEach host (Finds owner present set)
    finds_read (answer.Params params) p acts turn later good finds follows = finds_params params p acts turn later good finds follows
    finds_read (answer.Refused status tag more) p acts turn later good goes follows = drops_or_keeps status tag p acts turn later good goes follows
    finds_read (answer.Account token identifier uuid) p acts turn later good wrong follows = absurd wrong
    finds_read (answer.Sync conflicts cursor retrieved saved token) p acts turn later good wrong follows = absurd wrong

    pub resolves_read : Reads host (Resolves owner present set)
    resolves_read =
        asks_read host (request.Params owner.identifier) (Finds owner present set)
        (params_readable within host named owner.identifier (params_fit owner)) finds_read
