-- How the honest server answers what a device sends that holds its account's last set: for want of stamps alone it refuses; else the answer passes the
-- device's checks and isn't more than it can commit.
use Rattle.std.proofs.Common.{◌≡◌, ◌⊎◌, ◌+◌, ◌≤◌, ℕ, List, length, Option, None, true, refl, sym, ap, ◌∙◌, subst, inl, inr, arith}
use Rattle.std.specs.List.{Contains}
use Rattle.rand_chacha.specs.ChaCha.{ChaCha}
use Rattle.sn_account.proofs.Facts.{IsUuidText-account}
use Rattle.sn_account.specs.Rule.{Rule}
use Rattle.sn_account.specs.Sound.{IsSound as IsSoundServer}
use Rattle.sn_account.specs.Syncs.{IsStampOf}
use Rattle.sn_account.specs.Tells.{AreApart, uuids}
use Rattle.sn_device.specs.Runs.{HasLongToken, IsBatch}
use Rattle.sn_device.specs.States.{HasOwner, token_of}
use Rattle.sn_device.specs.Steps.{Applies}
use Rattle.sn_conflict.specs.Checks.{IsRetrieved, MayGoOn, Passes, most_retrieved}
use Rattle.sn_conflict.specs.Lists.{AllRight}
use Rattle.sn_laws.specs.Each.{Each}
use Rattle.sn_laws.specs.Laws.{VersionsRise}
use Rattle.sn_laws.specs.Lookups.{Bytes}
use Rattle.sn_laws.specs.Runs.{end_from}
use Rattle.sn_laws.specs.declared.ideal.Ideal.{Ideal}
use Rattle.sn_laws.specs.declared.moves.Move.{Move}
use Rattle.sn_rows.specs.Table.{Rows}
use Rattle.sn_rows.specs.declared.change.Change.{Change}
use Rattle.sn_rows.specs.declared.device_rows.OwnerRow.{OwnerRow}
use Rattle.sn_rows.specs.declared.key.Key.TheVariants as key
use Rattle.sn_sync.specs.Fits.{FitsRequest}
use Rattle.sn_sync.specs.Laws.{HasOneStamp}
use Rattle.sn_sync.specs.Versions.{AreShort, strings_in}
use Rattle.sn_sync.specs.declared.answer.Answer.{Answer}
use Rattle.sn_sync.specs.declared.answer.Answer.TheVariants as answer
use Rattle.sn_sync.specs.declared.answer.Conflict.{Conflict}
use Rattle.sn_sync.specs.declared.item.Item.{Item}
use Rattle.sn_sync.specs.declared.request.Request.{Request}
use Rattle.sn_sync.specs.declared.request.Request.TheVariants as request
use Rattle.sn_world.proofs.AnswerCounts.{IsSynced, OutOfStamps, all_told_count, rule_answers}
use Rattle.sn_world.proofs.AnswerPage.{few_retrieved, goes_on, page_weight, retrieved_right, weigh_all}
use Rattle.sn_world.proofs.AnswerPasses.{short_strings}
use Rattle.sn_ready.proofs.Passes.{answer_passes, never_long, sent_strings}
use Rattle.sn_ready.proofs.KeptWeights.{keeps_weight}
use Rattle.sn_ready.specs.Ready.{HoldsLast}
use Rattle.sn_world.proofs.AskLemmas.{made_of, made_world, makes_so, served_world, serves_so}
use Rattle.sn_world.proofs.Batches.{applied_fit}
use Rattle.sn_world.proofs.CallLemmas.{Stands}
use Rattle.sn_world.proofs.DeviceRows.{one_owner}
use Rattle.sn_world.proofs.Lists.{of_each}
use Rattle.sn_world.proofs.OneHeld.{alive_session, holder_at, stamp_below}
use Rattle.sn_world.proofs.RoundLemmas.{RoundLaws}
use Rattle.sn_world.specs.Applying.{Tells}
use Rattle.sn_world.specs.Fitting.{FitsUuids}
use Rattle.sn_world.specs.Happens.{serves}
use Rattle.sn_world.specs.Holds.{DeviceToken, Holds, TokensDiffer}
use Rattle.sn_world.specs.Making.{HasTokens, IsSentOf, MakesOf, SendsTokens}
use Rattle.sn_world.specs.Serving.{SaysServed, Serves}
use Rattle.sn_world.specs.World.{Made, World}

module _ (laws : RoundLaws) (rise : VersionsRise) (one_stamp : HasOneStamp) (secret : Bytes) (differ : TokensDiffer secret) (name : Bytes) (v : World) (t : Ideal)
    (server ready : Rows) (k : Stands secret name v t server ready) (last_set : HoldsLast t name) (owner : OwnerRow) (owned : HasOwner ready owner)
    (items : List Item) where
  abbrev pub sync_of : Request
  sync_of = request.Sync owner.token items most_retrieved (token_of owner.sync_token) (token_of owner.cursor_token)

  own : HasOwner (v.devices name) owner
  own = ap (λ (z : Rows). z key.Owner) k.device_is ∙ owned

  module _ (of : MakesOf ready None sync_of) (few : length items ≤ 150) where
    sent : Each (IsSentOf (v.devices name)) items
    sent = subst (λ (z : Rows). Each (IsSentOf z) items) (sym k.device_is) of.from

    short : (i : Item) → Contains items i → AreShort (strings_in i.body)
    short i among =
        let whose = holder_at secret v t k.holds name owner own in
        short_strings i
        (sent_strings secret v t k.holds name whose.0 whose.1 whose.2 i (of_each (IsSentOf (v.devices name)) items sent i among))

    pub honest : (now : ℕ) (changes : List Change) (given : Answer) → Rule server sync_of now changes given
        → OutOfStamps server owner.token items now changes given ⊎ IsSynced server owner.token items most_retrieved now changes given
    honest now changes given rule =
        let session = alive_session secret v t k.holds name owner laws.apart own last_set in
        let below = k.holds.sync_tokens name owner own in
        let sync = stamp_below (token_of owner.sync_token) _ below.0 in
        let cursor = cursor_of below.1 sync in
        subst (λ (z : Rows). OutOfStamps z owner.token items now changes given ⊎ IsSynced z owner.token items most_retrieved now changes given) k.server_is
        (rule_answers v.server owner.token session.0 session.1 items most_retrieved (token_of owner.sync_token) (token_of owner.cursor_token) sync.0 cursor.0
        sync.1 cursor.1 (omega arith) short now changes given (subst (λ (z : Rows). Rule z sync_of now changes given) (sym k.server_is) rule))
      where
        cursor_of : ((token_of owner.cursor_token ≡ None) ⊎ (token_of owner.cursor_token ≡ token_of owner.sync_token))
            → (stamp : Option ℕ) × IsStampOf (token_of owner.sync_token) stamp → (stamp : Option ℕ) × IsStampOf (token_of owner.cursor_token) stamp
        cursor_of (inl none) s = (None, subst (λ (o : Option Bytes). IsStampOf o None) (sym none) refl)
        cursor_of (inr same) s = (s.0, subst (λ (o : Option Bytes). IsStampOf o s.0) (sym same) s.1)

    -- ---- what an answer tells

    module _ (apart : AreApart (uuids items)) (tokens : SendsTokens ready sync_of) (now : ℕ) (changes : List Change) (fits : FitsRequest sync_of)
        (conflicts : List Conflict) (cursor : Option Bytes) (retrieved saved : List Item) (token : Bytes)
        (rule : Rule server sync_of now changes (answer.Sync conflicts cursor retrieved saved token))
        (y : IsSynced server owner.token items most_retrieved now changes (answer.Sync conflicts cursor retrieved saved token)) where
      abbrev m : Made
      m = made_of name None sync_of

      abbrev last : World
      last = served_world v m changes

      made : Holds secret (made_world v m) t
      made = laws.make secret v (made_world v m) t m differ k.holds (makes_so v name None sync_of ready k.device_is of)

      serving : Serves (made_world v m) last m now changes (answer.Sync conflicts cursor retrieved saved token)
      serving = serves_so v m server now changes (answer.Sync conflicts cursor retrieved saved token) k.server_is fits rule

      said : (moves : List Move) × SaysServed v.server (v.devices name) m changes moves
      said = laws.says secret (made_world v m) last t (serves m now changes (answer.Sync conflicts cursor retrieved saved token) true) made serving

      abbrev first : List Move
      first = said.0

      served_holds : Holds secret last (end_from t first)
      served_holds =
          (laws.serve secret (made_world v m) last t m now changes (answer.Sync conflicts cursor retrieved saved token) first differ made serving said.1).1

      tells : Tells last.server (last.devices name) (end_from t first) name items conflicts cursor retrieved saved token
      tells =
          laws.tells secret (made_world v m) last t m owner.token items now changes first conflicts cursor retrieved saved token differ made
          (record { limit = most_retrieved; sync_token = token_of owner.sync_token; cursor_token = token_of owner.cursor_token; is = refl }) sent
          (subst (λ (z : Rows). HasTokens z (token_of owner.sync_token) (token_of owner.cursor_token)) (sym k.device_is) tokens) apart serving said.1

      sound : IsSoundServer server
      sound = subst IsSoundServer k.server_is (k.holds.server_sound y.store (ap (λ (z : Rows). z key.Store) k.server_is ∙ y.stands))

      -- its lists are those of the rule
      parts : (y.synced.end.conflicts ≡ conflicts) × (y.synced.cursor_token ≡ cursor) × (y.synced.retrieved ≡ retrieved) × (y.synced.end.saved ≡ saved)
      parts = let is = y.synced.answers in (cc, cc, cc, cc)

      page_right : AllRight IsRetrieved retrieved
      page_right =
          subst (λ (xs : List Item). AllRight IsRetrieved xs) parts.2
          (retrieved_right server y.n sound one_stamp _ _ y.synced.page y.synced.left y.synced.retrieved y.synced.is_page y.synced.retrieved_are)

      page_on : MayGoOn cursor retrieved
      page_on =
          subst (λ (xs : List Item). MayGoOn cursor xs) parts.2
          (subst (λ (c : Option Bytes). MayGoOn c y.synced.retrieved) parts.1
          (goes_on server y.n sound one_stamp _ _ y.synced.page y.synced.left y.synced.retrieved y.synced.is_page y.synced.retrieved_are
          y.synced.end.rows y.synced.cursor_token y.synced.sync_token y.synced.tokens))

      pub heard_passes : Passes items saved conflicts retrieved cursor
      heard_passes =
          answer_passes laws.apart rise one_stamp secret last (end_from t first) served_holds name items conflicts cursor retrieved saved token
          tells page_right page_on

      pub heard_short : (word : Bytes) → HasLongToken cursor token word → ⊥
      heard_short word long =
          never_long laws.apart rise one_stamp secret last (end_from t first) served_holds name items conflicts cursor retrieved saved token
          tells word long

      few_told : length saved + length conflicts ≤ 150
      few_told =
          let all = all_told_count y.present now y.n _ items y.synced.end y.synced.taken in
          let a = ap length parts.0 in
          let b = ap length parts.3 in
          omega arith

      few_page : length retrieved ≤ 150
      few_page =
          let less = few_retrieved server y.n sound one_stamp _ _ y.synced.page y.synced.left y.synced.retrieved y.synced.is_page y.synced.retrieved_are in
          let same = ap length parts.2 in
          omega arith

      light_page : weigh_all retrieved ≤ 4194304
      light_page =
          subst (λ (xs : List Item). weigh_all xs ≤ 4194304) parts.2
          (page_weight server y.n _ _ y.synced.page y.synced.left y.synced.retrieved y.synced.is_page y.synced.retrieved_are)

      account_length : (one : OwnerRow) → HasOwner ready one → length one.account ≡ 16
      account_length one there =
          let whose = holder_at secret v t k.holds name owner own in
          let its : DeviceToken secret (v.devices name) t.accounts whose.0 = k.holds.own_tokens name whose.0 whose.2.device in
          let same : its.owner ≡ one = one_owner its.owner one (v.devices name key.Owner) its.has (ap (λ (z : Rows). z key.Owner) k.device_is ∙ there) in
          ap (λ (o : OwnerRow). length o.account) (sym same) ∙ ap length its.uuid_is ∙ (IsUuidText-account its.number).count

      pub heard_fits : (words left : ChaCha) (applied : List Change) → FitsUuids ready
          → Applies ready words items conflicts cursor retrieved saved token applied left → IsBatch applied
      heard_fits words left applied have x =
          applied_fit ready words left items conflicts cursor retrieved saved token applied x (keeps_weight x.sets) have (account_length x.owner x.holds.owned)
          few_told few_page light_page
