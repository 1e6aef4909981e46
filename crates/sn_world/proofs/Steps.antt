-- An item of a sync that is accepted, as one version more.
use Rattle.std.proofs.Common.{◌≡◌, ℕ, List, [], ◌∷◌, ◌++◌, length, Option, Some, refl, sym, ap, ◌∙◌, subst, inl, ◌≤◌}
use Rattle.std.specs.Prelude.{IsTrue}
use Rattle.sn_account.specs.Incoming.{IsFree, Progress, stamp_of}
use Rattle.sn_account.specs.Incoming.{PutsVersion as RulePuts}
use Rattle.sn_changed.proofs.Facts.{becomes}
use Rattle.sn_changed.specs.Laws.{ChangeServed, RewrapTaken}
use Rattle.sn_changed.specs.Leaves.{ChangeLasts, ChangeLeaves, ChangeOnLast, ItemOwner, OnlyBecomes, RewrapLeaves, VersionLasts, VersionOnLast, with_version}
use Rattle.sn_changed.specs.Sessions.{ChangeSessions, ChangeSpares}
use Rattle.sn_laws.proofs.Facts.{end_from-append}
use Rattle.sn_laws.specs.Lookups.{Bytes, draft_at, empty, is_account}
use Rattle.sn_laws.specs.Moves.{accepted, after, allows, changed_where, version_of}
use Rattle.sn_laws.specs.Runs.{LegalFrom, end_from}
use Rattle.sn_laws.specs.declared.ideal.Account.{Account}
use Rattle.sn_laws.specs.declared.ideal.Device.{Device}
use Rattle.sn_laws.specs.declared.ideal.Draft.{Draft}
use Rattle.sn_laws.specs.declared.ideal.Ideal.{Ideal}
use Rattle.sn_laws.specs.declared.ideal.Version.{Version}
use Rattle.sn_laws.specs.declared.moves.Move.{Move}
use Rattle.sn_laws.specs.declared.moves.Move.TheVariants.{Accept}
use Rattle.sn_rows.specs.Table.{Rows, rows_after}
use Rattle.sn_rows.specs.declared.change.Change.{Change}
use Rattle.sn_rows.specs.declared.key.Key.TheVariants as key
use Rattle.sn_rows.specs.declared.server_rows.ItemRow.{ItemRow}
use Rattle.sn_shows.specs.Laws.{AcceptKeeps, AcceptedLast, AcceptedShows, AccountsApart, AreApart, StoreShows}
use Rattle.sn_shows.specs.Rekeying.{ChangeKeeps, ChangedLast, RewrapKeeps}
use Rattle.sn_shows.specs.Servers.{ShowsAccounts}
use Rattle.sn_string.specs.declared.params.Params.{Params}
use Rattle.sn_sync.specs.Laws.{HasOneStamp, HasOneToken}
use Rattle.sn_sync.specs.Stamps.{last_stamp}
use Rattle.sn_sync.specs.declared.item.Item.{Item}
use Rattle.sn_world.proofs.Accepting.{account_is, allowed, at_item, move_under, puts_version, said_is, sent, sent_row, uuid_is}
use Rattle.sn_world.proofs.Alive.{IsAlive, IsTaken}
use Rattle.sn_world.proofs.SaidChanges.{last_number}
use Rattle.sn_world.proofs.ShowsLemmas.{more}
use Rattle.sn_world.proofs.Tokens.{apart_of}
use Rattle.sn_world.specs.Holds.{Reached}
use Rattle.sn_world.specs.Live.{IsPosted}
use Rattle.sn_world.specs.Serving.{SaysItem, generation_of, number_of}

-- legal moves, and one more

legal_more : (s : Ideal) (ms : List Move) (m : Move) → LegalFrom s ms → IsTrue (allows (end_from s ms) m) → LegalFrom s (ms ++ m ∷ [])
legal_more s [] m h k = (k, tt)
legal_more s (x ∷ xs) m h k = (h.0, legal_more (after s x) xs m h.1 k)

pub reached_more : (s : Ideal) (m : Move) → Reached s → IsTrue (allows s m) → Reached (after s m)
reached_more s m r h = record {
  moves = r.moves ++ m ∷ [];
  legal = legal_more empty r.moves m r.legal (subst (λ (t : Ideal). IsTrue (allows t m)) r.is h);
  is = ap (λ (t : Ideal). after t m) r.is ∙ sym (end_from-append empty r.moves (m ∷ []));
}

-- the laws of the crates below, as their functions say them
pub record Below : Type 0 where
  pub shows : AcceptedShows
  pub last : AcceptedLast
  pub keeps : AcceptKeeps
  pub apart : AccountsApart
  pub one_stamp : HasOneStamp
  pub one_token : HasOneToken
  pub store : StoreShows
  -- an item that is sealed again
  pub rewrapped : RewrapTaken
  pub rewrap_leaves : RewrapLeaves
  pub rewrap_keeps : RewrapKeeps
  pub owner : ItemOwner
  pub version_lasts : VersionLasts
  pub version_on_last : VersionOnLast
  -- a change of password
  pub changed : ChangeServed
  pub change_leaves : ChangeLeaves
  pub change_lasts : ChangeLasts
  pub change_on_last : ChangeOnLast
  pub change_sessions : ChangeSessions
  pub change_spares : ChangeSpares
  pub change_keeps : ChangeKeeps
  pub changed_last : ChangedLast

module _ (low : Below) (p q : Progress) (device : Rows) (s : Ideal) (name : Bytes) (n now : ℕ) (present : Params) (a : Account) (d : Device) (i : Item)
    (v : IsAlive p device s name n a d) (x : IsPosted device i) (free : IsFree p n present i)
    (within : stamp_of now p.last ≤ last_stamp) (row : ItemRow) (change : Change) (puts : RulePuts p n (stamp_of now p.last) i row change)
    (rows_are : q.rows ≡ rows_after p.rows (change ∷ [])) (last_is : q.last ≡ stamp_of now p.last) where
  abbrev stamp : ℕ
  stamp = stamp_of now p.last

  abbrev under : Option ℕ
  under = move_under p device s name n now present a d i low.one_stamp v x free

  abbrev draft : Draft
  draft = (sent p device s name n now present a d i low.one_stamp v x free).draft

  abbrev version : Version
  version = version_of stamp (length a.sets) draft

  abbrev next : Ideal
  next = after s (Accept name i.uuid stamp under)

  legal : IsTrue (allows s (Accept name i.uuid stamp under))
  legal = allowed p device s name n now present a d i low.one_stamp v x free within

  apart : AreApart s.accounts
  apart = apart_of low.apart s v.reached

  accounts_are : next.accounts ≡ changed_where (is_account a.identifier) (more version) s.accounts
  accounts_are =
      ap (λ (o : Option Account). accepted s.accounts o (draft_at s name i.uuid) stamp) (account_is p device s name n now present a d i low.one_stamp v x free)
      ∙ ap (λ (o : Option Draft). accepted s.accounts (Some a) o stamp) (at_item p device s name n now present a d i low.one_stamp v x free)

  only : OnlyBecomes s next n a (with_version version a)
  only = becomes s next n a (more version) apart v.at (λ b. refl) accounts_are refl refl

  shown : ShowsAccounts (rows_after p.rows (change ∷ [])) next.accounts
  shown = low.shows p.rows s name i.uuid stamp under n a draft change v.accounts apart legal
      (account_is p device s name n now present a d i low.one_stamp v x free) v.at (at_item p device s name n now present a d i low.one_stamp v x free)
      (puts_version p device s name n now present a d i low.one_stamp v x free row change puts)

  says : SaysItem p.rows device name i.uuid row (Accept name i.uuid stamp under ∷ [])
  says =
      inl (
        sent_row p device s name n now present a d i low.one_stamp v x free row change puts,
        ap (λ (k : Option ℕ). Accept name i.uuid stamp k ∷ []) (said_is p device s name n now present a d i low.one_stamp v x free row change puts)
            ∙ ap (λ (k : ℕ). Accept name i.uuid stamp (number_of row.deleted k) ∷ [])
            (sym (last_number p.rows s.accounts n row.account a v.accounts v.at puts.account))
            ∙ ap (λ (k : ℕ). Accept name i.uuid k (number_of row.deleted (generation_of (p.rows (key.Account row.account)))) ∷ []) (sym puts.updated),
      )

  pub accepts : IsTaken p q device s name n a i row
  accepts = record {
    move = Accept name i.uuid stamp under;
    legal = legal;
    version = version;
    only = only;
    uuid_is = uuid_is p device s name n now present a d i low.one_stamp v x free;
    stamp_is = sym last_is;
    shows = subst (λ (r : Rows). ShowsAccounts r next.accounts) (sym rows_are) shown;
    last = last_is ∙ sym (low.last s name i.uuid stamp under apart legal);
    keeps = λ others other h. low.keeps others s other name i.uuid stamp under h;
    says = says;
  }
