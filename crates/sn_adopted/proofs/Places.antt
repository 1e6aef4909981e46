-- The row of an item at an adoption: where nothing opens under the older set alone, whatever is sealed again opened under the set that was present.
use Rattle.std.proofs.Common.{◌≡◌, ◌||◌, ℕ, Bool, true, false, Option, Some, None, inl, inr, subst}
use Rattle.rand_chacha.specs.ChaCha.{ChaCha}
use Rattle.sn_items.specs.Items.{OpensItem}
use Rattle.sn_items.specs.declared.sealed.Sealed.{Sealed}
use Rattle.sn_laws.proofs.Facts.{one_there}
use Rattle.sn_laws.specs.Lookups.{Bytes}
use Rattle.sn_laws.specs.declared.ideal.Account.{Account}
use Rattle.sn_rekey.specs.Rekeying.{IsClosed, Rekeys, RewrapsPlace, SealsAgain, Stays}
use Rattle.sn_rekey.specs.Rewraps.{RewrapsHeld}
use Rattle.sn_rows.specs.declared.body.RowBody.{RowBody}
use Rattle.sn_rows.specs.declared.body.RowBody.TheVariants as body
use Rattle.sn_rows.specs.declared.body.RowStrings.{RowStrings}
use Rattle.sn_rows.specs.declared.device_rows.LocalItem.{LocalItem}
use Rattle.sn_sets.specs.Sets.{OpensOlder, sealed_of}
use Rattle.sn_sets.specs.declared.sets.Sets.{Sets}
use Rattle.sn_shows.specs.Adopting.{CarriesBase, IsAdopted, IsCarried, IsClosedUnder, IsLeft, IsSealedAgain}
use Rattle.sn_shows.specs.Sets.{OpensUnder, set_at}
use Rattle.sn_string.specs.declared.params.KeySet.{KeySet}

-- nothing that is there opens under the older set alone
abbrev pub NoneOlder : Sets → Bytes → Option RowBody → Type 0
NoneOlder sets uuid found = (strings : RowStrings) (text : Bytes) → found ≡ Some (body.Sealed strings) → ¬ (OpensOlder sets uuid (sealed_of strings) text)

-- so it is where no older set is held
pub none_alone : (sets : Sets) (uuid : Bytes) (found : Option RowBody) → sets.older ≡ None → NoneOlder sets uuid found
none_alone sets uuid found alone strings text is opens = let held : sets.older ≡ Some opens.set = opens.held in absurd (cc)

module _ (a : Account) (sets : Sets) (set : KeySet) (old number : ℕ) (held : set_at old a.sets ≡ Some sets.present) (new : set_at number a.sets ≡ Some set) where
  pub by_present : (uuid : Bytes) (sealed : Sealed) (text : Bytes) → OpensUnder a.sets old uuid sealed text → OpensItem sealed uuid sets.present text
  by_present uuid sealed text h =
      subst (λ (k : KeySet). OpensItem sealed uuid k text) (one_there h.set sets.present (set_at old a.sets) h.at held) h.opens

  -- ---- one place

  sealed_again : (words left : ChaCha) (uuid : Bytes) (before later : Option RowBody) → NoneOlder sets uuid before
      → SealsAgain sets set words uuid before later left → IsSealedAgain a.sets old number uuid before later
  sealed_again words left uuid before later none x = by x.rewraps
    where
      by : RewrapsHeld sets set words uuid (sealed_of x.given) (sealed_of x.again) left → IsSealedAgain a.sets old number uuid before later
      by (inl r) = record {
        given = x.given;
        given_is = x.given_is;
        text = r.text;
        opens = record { set = sets.present; at = held; opens = r.opens };
        again = x.again;
        again_is = x.again_is;
        still = record { set = set; at = new; opens = r.rewraps.still };
      }
      by (inr r) = absurd (none x.given r.text x.given_is r.opens)

  closed_under : (uuid : Bytes) (before : Option RowBody) → IsClosed sets uuid before → IsClosedUnder a.sets old uuid before
  closed_under uuid None h = tt
  closed_under uuid (Some body.Deleted) h = tt
  closed_under uuid (Some (body.Sealed strings)) h = λ text opens. h text (inl (by_present uuid (sealed_of strings) text opens))

  left_so : (words left : ChaCha) (uuid : Bytes) (before later : Option RowBody) → Stays sets words uuid before later left
      → IsLeft a.sets old uuid before later
  left_so words left uuid before later x = record { closed = closed_under uuid before x.closed; same = x.same }

  carried : (words left : ChaCha) (uuid : Bytes) (again : Bool) (before later : Option RowBody) → NoneOlder sets uuid before
      → RewrapsPlace sets set words uuid again before later left → IsCarried a.sets old number uuid before later
  carried words left uuid true before later none x = inl (sealed_again words left uuid before later none x)
  carried words left uuid false before later none x = inr (left_so words left uuid before later x)

  -- ---- the row

  based : (words left : ChaCha) (item again : LocalItem) (sealed : Bool) → NoneOlder sets item.uuid item.body
      → RewrapsPlace sets set words item.uuid sealed item.body again.body left → again.stale ≡ (sealed || item.stale)
      → CarriesBase a.sets old number item again
  based words left item again true none x stale = inl (sealed_again words left item.uuid item.body again.body none x, stale)
  based words left item again false none x stale = inr (left_so words left item.uuid item.body again.body x, stale)

  pub row_adopted : (words left : ChaCha) (item again : LocalItem) → NoneOlder sets item.uuid item.body → NoneOlder sets item.uuid item.latest
      → NoneOlder sets item.uuid item.posted → Rekeys sets set words item again left → IsAdopted a old number item again
  row_adopted words left item again no_body no_latest no_posted r = record {
    uuid_is = r.uuid_is;
    kind_is = r.kind_is;
    base_is = r.base_is;
    body_is = based words r.second item again r.body_again no_body r.body_is r.stale_is;
    latest_is = carried r.second r.third item.uuid r.latest_again item.latest again.latest no_latest r.latest_is;
    posted_is = carried r.third left item.uuid r.posted_again item.posted again.posted no_posted r.posted_is;
  }
