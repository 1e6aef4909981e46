-- An item of a sync that is its last version, sealed again: it is a rewrap, one version more.
use Rattle.std.proofs.Common.{◌≡◌, ℕ, [], ◌∷◌, length, Some, refl, sym, ap, ◌∙◌, inr, subst}
use Rattle.sn_account.specs.Incoming.{Progress, TakesNew, stamp_of}
use Rattle.sn_account.specs.Incoming.{PutsVersion as RulePuts}
use Rattle.sn_changed.specs.Laws.{IsRewrapped, IsVersionSealedAgain, MeetsBehind}
use Rattle.sn_changed.specs.Leaves.{ComesLast, OnlyBecomes, resealed_at, with_version}
use Rattle.sn_laws.proofs.Facts.{last_among, one_there}
use Rattle.sn_laws.specs.Lookups.{Bytes, greatest, last_of}
use Rattle.sn_laws.specs.Moves.{after}
use Rattle.sn_laws.specs.declared.ideal.Account.{Account}
use Rattle.sn_laws.specs.declared.ideal.Device.{Device}
use Rattle.sn_laws.specs.declared.ideal.Ideal.{Ideal}
use Rattle.sn_laws.specs.declared.moves.Move.TheVariants.{Rewrap}
use Rattle.sn_rows.specs.Table.{Rows}
use Rattle.sn_rows.specs.declared.change.Change.{Change}
use Rattle.sn_rows.specs.declared.key.Key.TheVariants as key
use Rattle.sn_rows.specs.declared.server_rows.ItemRow.{ItemRow}
use Rattle.sn_shows.specs.Laws.{AreApart}
use Rattle.sn_shows.specs.Servers.{account_at, stamps_in}
use Rattle.sn_string.specs.declared.params.Params.{Params}
use Rattle.sn_sync.specs.declared.item.Item.{Item}
use Rattle.sn_world.proofs.Alive.{IsAlive, IsTaken}
use Rattle.sn_world.proofs.SaidChanges.{last_number}
use Rattle.sn_world.proofs.Steps.{Below}
use Rattle.sn_world.proofs.Tokens.{apart_of}
use Rattle.sn_world.specs.Live.{IsRewrap}
use Rattle.sn_world.specs.Serving.{IsSentRow, SaysItem}

module _ (low : Below) (p q : Progress) (device : Rows) (s : Ideal) (name : Bytes) (n now : ℕ) (present : Params) (a : Account) (d : Device) (i : Item)
    (v : IsAlive p device s name n a d) (x : IsRewrap s.accounts n i) (new : TakesNew present now n p i q)
    (row : ItemRow) (change : Change) (puts : RulePuts p n (stamp_of now p.last) i row change) (last_is : q.last ≡ stamp_of now p.last)
    (unsent : ¬ (IsSentRow (p.rows (key.Item i.uuid)) device i.uuid row)) where
  is_own : x.account ≡ a
  is_own = one_there x.account a (account_at n s.accounts) x.at v.at

  apart : AreApart s.accounts
  apart = apart_of low.apart s v.reached

  last : last_of i.uuid a.versions ≡ Some x.version
  last = subst (λ (b : Account). last_of i.uuid b.versions ≡ Some x.version) is_own x.last

  meets : MeetsBehind p.rows s n a x.version i
  meets = record {
    shows = v.accounts;
    apart = apart;
    at = v.at;
    last = last;
    again = subst (λ (b : Account). IsVersionSealedAgain b x.version i) is_own x.again;
  }

  abbrev next : Ideal
  next = after s (Rewrap i.uuid q.last (length a.sets))

  done : IsRewrapped q.rows s i.uuid q.last (length a.sets) × (q.last ≡ greatest 0 (stamps_in next.accounts))
  done = low.rewrapped present now p q s n a x.version i meets v.last new

  leaves : OnlyBecomes s next n a (with_version (resealed_at q.last (length a.sets) x.version) a)
      × ComesLast a.versions (resealed_at q.last (length a.sets) x.version)
  leaves =
      low.rewrap_leaves s i.uuid q.last (length a.sets) n a x.version apart v.at
      (low.owner p.rows s.accounts n a i.uuid x.version v.accounts v.at last) last

  says : SaysItem p.rows device name i.uuid row (Rewrap i.uuid q.last (length a.sets) ∷ [])
  says =
      inr (
        unsent,
        ap (λ (k : ℕ). Rewrap i.uuid k (length a.sets) ∷ []) (last_is ∙ sym puts.updated)
            ∙ ap (λ (k : ℕ). Rewrap i.uuid row.updated k ∷ []) (sym (last_number p.rows s.accounts n row.account a v.accounts v.at puts.account)),
      )

  pub rewraps : IsTaken p q device s name n a i row
  rewraps = record {
    move = Rewrap i.uuid q.last (length a.sets);
    legal = done.0.allowed;
    version = resealed_at q.last (length a.sets) x.version;
    only = leaves.0;
    uuid_is = (last_among i.uuid a.versions x.version last).1;
    stamp_is = refl;
    shows = done.0.shows;
    last = done.1;
    keeps = λ others other h. low.rewrap_keeps others s other i.uuid q.last (length a.sets) h;
    says = says;
  }
