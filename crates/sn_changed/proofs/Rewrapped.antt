-- An item that is sealed again under its account's last set, accepted by a server's rule: it is an allowed move, and the rows show the accounts after it.
use Rattle.std.proofs.Common.{◌≡◌, ◌⊎◌, ◌<◌, ℕ, suc, [], ◌∷◌, length, Some, Bool, true, false, refl, sym, ap, ◌∙◌, subst, inl, inr, arith}
use Rattle.std.specs.Prelude.{IsTrue, if◌then◌else◌, max}
use Rattle.sn_account.specs.Incoming.{IsAbsent, Progress, stamp_of}
use Rattle.sn_account.specs.Lookups.{HasItem}
use Rattle.sn_account.specs.Stored.{body_of}
use Rattle.sn_account.specs.Taking.{IsAcceptedRow}
use Rattle.sn_items.specs.declared.sealed.Sealed.{Sealed}
use Rattle.sn_laws.proofs.Facts.{allowed_to, last_among}
use Rattle.sn_laws.specs.Lookups.{Bytes, greatest}
use Rattle.sn_laws.specs.Moves.{after, allows, resealed}
use Rattle.sn_laws.specs.Relation.{IsLive, IsNewStamp, IsUnder}
use Rattle.sn_laws.specs.declared.ideal.Account.{Account}
use Rattle.sn_laws.specs.declared.ideal.Body.{Body}
use Rattle.sn_laws.specs.declared.ideal.Body.TheVariants.{Under}
use Rattle.sn_laws.specs.declared.ideal.Ideal.{Ideal}
use Rattle.sn_laws.specs.declared.ideal.Version.{Version}
use Rattle.sn_laws.specs.declared.moves.Move.TheVariants as move
use Rattle.sn_rows.specs.Table.{Puts, Rows, rows_after}
use Rattle.sn_rows.specs.declared.change.Change.{Change}
use Rattle.sn_rows.specs.declared.key.Key.TheVariants as key
use Rattle.sn_rows.specs.declared.server_rows.ItemRow.{ItemRow}
use Rattle.sn_rows.specs.declared.value.Value.TheVariants as value
use Rattle.sn_shows.specs.Rekeying.{RewrappedLast, RewrappedShows}
use Rattle.sn_shows.specs.Servers.{ShowsItem, ShowsStrings, first_of, stamps_in}
use Rattle.sn_shows.specs.Sets.{OpensUnder}
use Rattle.sn_sync.specs.declared.item.Body.TheVariants as body
use Rattle.sn_sync.specs.declared.item.Item.{Item}
use Rattle.sn_changed.proofs.Found.{above_all, one_item, owner_of}
use Rattle.sn_changed.specs.Laws.{IsRewrapped, IsVersionSealedAgain, MeetsBehind, RewrapServed, RewrapTaken}

abbrev pair : Bytes → Bytes → Sealed
pair content enc = record { content = content; enc = enc }

-- the strings of a row that has this body
strings_are : (row : ItemRow) (content enc : Bytes) (q : Bool) → (if q then body.Deleted else body.Strings row.content row.enc) ≡ body.Strings content enc
    → (q ≡ false) × (pair content enc ≡ pair row.content row.enc)
strings_are row content enc true h = absurd (cc)
strings_are row content enc false h =
    let first : content ≡ row.content = cc in
    let second : enc ≡ row.enc = cc in
    (refl, cc)

module _ (shows_law : RewrappedShows) (rows : Rows) (s : Ideal) (number : ℕ) (a : Account) (v : Version) (i : Item) (m : MeetsBehind rows s number a v i)
    (stamp : ℕ) (new : IsNewStamp s stamp) where
  again : IsVersionSealedAgain a v i
  again = m.again

  abbrev its : ShowsItem rows number a i.uuid v
  its = (m.shows.each number a m.at).items i.uuid v m.last

  uuid_is : v.uuid ≡ i.uuid
  uuid_is = (last_among i.uuid a.versions v m.last).1

  allowed : IsTrue (allows s (move.Rewrap i.uuid stamp (length a.sets)))
  allowed =
      allowed_to s (move.Rewrap i.uuid stamp (length a.sets))
      (record {
        account = a;
        has = owner_of rows s.accounts number a i.uuid v m.shows m.at m.last;
        version = v;
        last = m.last;
        live = subst (λ (b : Body). IsLive b) (sym again.live) tt;
        behind = λ e. again.behind (subst (λ (b : Body). IsUnder (length a.sets) b) again.live e);
        last_set = refl;
        new = new;
      })

  shown_again : (row : ItemRow) → body_of row ≡ i.body → ShowsStrings a.sets i.uuid row (Under again.text (length a.sets))
  shown_again row is =
      let are = strings_are row again.content again.enc row.deleted (is ∙ again.strings) in
      (are.0, subst (λ (x : Sealed). OpensUnder a.sets (length a.sets) i.uuid x again.text) are.1 again.opens)

  rewrapped : (row : ItemRow) (change : Change) (created : ℕ) → IsAcceptedRow number created stamp i row
      → created ≡ its.row.created → Puts change (key.Item i.uuid) (value.Item row) → IsRewrapped (rows_after rows (change ∷ [])) s i.uuid stamp (length a.sets)
  rewrapped row change created x created_is puts = record {
    allowed = allowed;
    shows = shows_law rows s i.uuid stamp number a v change m.shows m.apart allowed m.at m.last
        (record {
          row = row;
          puts = record { key_is = puts.key_is ∙ ap (λ (u : Bytes). key.Item u) (sym uuid_is); value_is = puts.value_is };
          account = x.account;
          kind = x.kind ∙ again.kind_is;
          updated = x.updated;
          first = its.first;
          first_is = subst (λ (u : Bytes). first_of u a.versions ≡ Some its.first) (sym uuid_is) its.first_is;
          created = x.first ∙ created_is ∙ its.created;
          strings = subst (λ (b : Body). ShowsStrings a.sets v.uuid row (resealed (length a.sets) b)) (sym again.live)
              (subst (λ (u : Bytes). ShowsStrings a.sets u row (Under again.text (length a.sets))) (sym uuid_is) (shown_again row x.body));
        });
  }

pub rewrap_served : RewrappedShows → RewrapServed
rewrap_served shows_law rows s number a v i stamp stored e m new there x =
    let shown : ShowsItem rows number a i.uuid v = (m.shows.each number a m.at).items i.uuid v m.last in
    rewrapped shows_law rows s number a v i m stamp new x.row x.change stored.created x.accepted
    (ap (λ (r : ItemRow). r.created) (one_item stored shown.row (rows (key.Item i.uuid)) there shown.stands)) x.puts

later : (now last : ℕ) → last < max now (suc last)
later now last = omega arith

pub rewrap_taken : RewrappedShows → RewrappedLast → RewrapTaken
rewrap_taken shows_law last_law present now p q s number a v i m last (free, within, (row, change, given, puts, given_is, q_is)) =
    subst (λ (z : Progress). IsRewrapped z.rows s i.uuid z.last (length a.sets)
    × (z.last ≡ greatest 0 (stamps_in (after s (move.Rewrap i.uuid z.last (length a.sets))).accounts))) (sym q_is) (done, sym (last_law s i.uuid stamp (length a.sets) done.allowed))
  where
    stamp : ℕ
    stamp = stamp_of now p.last

    new : IsNewStamp s stamp
    new =
        let above : p.last < stamp = later now p.last in
        record { above = above_all s.accounts stamp (subst (λ (k : ℕ). k < stamp) last above); bounded = within }

    shown : ShowsItem p.rows number a i.uuid v
    shown = (m.shows.each number a m.at).items i.uuid v m.last

    first : ((old : ItemRow) × HasItem p.rows i.uuid old × (row.created ≡ old.created)) ⊎ (IsAbsent p.rows i.uuid × (row.created ≡ stamp))
        → row.created ≡ shown.row.created
    first (inl (old, there, e)) = e ∙ ap (λ (r : ItemRow). r.created) (one_item old shown.row (p.rows (key.Item i.uuid)) there shown.stands)
    first (inr (absent, e)) = absurd (absent shown.row shown.stands)

    done : IsRewrapped (rows_after p.rows (change ∷ [])) s i.uuid stamp (length a.sets)
    done =
        rewrapped shows_law p.rows s number a v i m stamp new row change row.created
        (record { account = puts.account; kind = puts.kind; first = refl; updated = puts.updated; body = puts.body; gone = puts.gone })
        (first puts.first) puts.puts
