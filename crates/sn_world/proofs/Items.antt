-- The items of a sync, one after another.
use Rattle.std.proofs.Common.{◌≡◌, ◌≢◌, ◌⊎◌, ◌<◌, ◌≤◌, ℕ, List, [], ◌∷◌, ◌++◌, length, Option, Some, Bool, true, false, refl, sym, ap, ◌∙◌, subst, inl, inr, ⊎_elim, arith, append_assoc}
use mathlib.Core.Path.{fun_ext}
use Rattle.std.proofs.lemmas.List.{append-nil}
use Rattle.std.specs.Str.{bytes_eq}
use Rattle.sn_account.specs.Incoming.{IsAbsent, IsFree, IsHeld, Names, Progress, SameVersion, Takes, TakesAll, TakesNew, stamp_of}
use Rattle.sn_account.specs.Incoming.{PutsVersion as RulePuts}
use Rattle.sn_account.specs.Lookups.{HasItem}
pub use Rattle.sn_changed.proofs.Facts.{apart_numbers}
use Rattle.sn_changed.specs.Leaves.{with_version}
use Rattle.sn_laws.proofs.Facts.{clash, end_from-append, same_text, text_same}
use Rattle.sn_laws.specs.Each.{Each}
use Rattle.sn_laws.specs.Lookups.{Bytes, account_named, greatest}
use Rattle.sn_laws.specs.Moves.{after}
use Rattle.sn_laws.specs.Runs.{LegalFrom, end_from}
use Rattle.sn_laws.specs.declared.ideal.Account.{Account}
use Rattle.sn_laws.specs.declared.ideal.Device.{Device}
use Rattle.sn_laws.specs.declared.ideal.Ideal.{Ideal}
use Rattle.sn_laws.specs.declared.moves.Move.{Move}
use Rattle.sn_rows.specs.Facts.{put_apart, put_here, row_after-append}
use Rattle.sn_rows.specs.Table.{Puts, Rows, rows_after}
use Rattle.sn_rows.specs.declared.change.Change.{Change}
use Rattle.sn_rows.specs.declared.key.Key.TheVariants as key
use Rattle.sn_rows.specs.declared.server_rows.ItemRow.{ItemRow}
use Rattle.sn_rows.specs.declared.value.Value.{Value}
use Rattle.sn_rows.specs.declared.value.Value.TheVariants as value
use Rattle.sn_shows.specs.Devices.{ShowsDevice}
use Rattle.sn_shows.specs.Servers.{ShowsAccounts, ShowsItem, account_at, stamps_in}
use Rattle.sn_string.specs.declared.params.Params.{Params}
use Rattle.sn_sync.specs.declared.item.Item.{Item}
use Rattle.sn_world.proofs.Accepting.{posted_of, same_row}
use Rattle.sn_world.proofs.Alive.{IsAlive, IsTaken}
use Rattle.sn_world.proofs.Becoming.{few_after, lasts, numbered, numbers_kept, rewrap_stays, same_device, stale_kept}
use Rattle.sn_world.proofs.Deciding.{decide_sent}
use Rattle.sn_world.proofs.Frames.{LastsBefore}
use Rattle.sn_world.proofs.Lasts.{above_last}
use Rattle.sn_world.proofs.LegalMoves.{legal_joined}
use Rattle.sn_world.proofs.Rewrapping.{rewraps}
use Rattle.sn_world.proofs.SaidChanges.{both_say, one_says, put_says}
use Rattle.sn_world.proofs.Steps.{Below, accepts, reached_more}
use Rattle.sn_world.proofs.Tokens.{named_identifier}
use Rattle.sn_world.specs.Holds.{AreFew, NumbersOf, StaleOf}
use Rattle.sn_world.specs.Live.{IsPosted, IsRewrap, KnownBelow, LiveItem, LiveItems}
use Rattle.sn_world.specs.Serving.{IsSentRow, SaysChanges}

-- what an accepted row makes of any item of any request, of this account or another: of another item nothing is changed; of the same one it is another account's, or it is passed
live_after : (low : Below) (p q : Progress) (device : Rows) (s : Ideal) (name : Bytes) (n stamp : ℕ) (a : Account) (i j : Item) (row : ItemRow) (change : Change)
    (others : Rows) (m : ℕ) → RulePuts p n stamp i row change → q.rows ≡ rows_after p.rows (change ∷ []) → p.last < stamp
    → p.last ≡ greatest 0 (stamps_in s.accounts) → q.last ≡ stamp
    → (x : IsTaken p q device s name n a i row) → KnownBelow p.last j → LiveItem (p.rows (key.Item j.uuid)) others s.accounts m j
    → LiveItem (q.rows (key.Item j.uuid)) others (after s x.move).accounts m j
live_after low p q device s name n stamp a i j row change others m puts rows_are new last_is stamp_is x known h =
    subst (λ (r : Rows). LiveItem (r (key.Item j.uuid)) others (after s x.move).accounts m j) (sym rows_are) (at (bytes_eq i.uuid j.uuid) refl)
  where
    put : Puts change (key.Item i.uuid) (value.Item row)
    put = puts.puts

    above : greatest 0 (stamps_in s.accounts) < x.version.stamp
    above = let is : x.version.stamp ≡ q.last = x.stamp_is in omega arith

    elsewhere : x.version.uuid ≢ j.uuid → LiveItem (p.rows (key.Item j.uuid)) others s.accounts m j
        → LiveItem (p.rows (key.Item j.uuid)) others (after s x.move).accounts m j
    elsewhere differs (inl foreign) = inl foreign
    elsewhere differs (inr (inl same)) = inr (inl same)
    elsewhere differs (inr (inr (inl passed))) = inr (inr (inl passed))
    elsewhere differs (inr (inr (inr (inl posted)))) = inr (inr (inr (inl posted)))
    elsewhere differs (inr (inr (inr (inr again)))) =
        inr
        (inr
        (inr (inr (rewrap_stays low.version_lasts low.version_on_last s (after s x.move) n a x.version x.only above m j differs again))))

    at : (b : Bool) → bytes_eq i.uuid j.uuid ≡ b → LiveItem (rows_after p.rows (change ∷ []) (key.Item j.uuid)) others (after s x.move).accounts m j
    at false off =
        subst (λ (found : Option Value). LiveItem found others (after s x.move).accounts m j)
        (sym (put_apart p.rows change (key.Item i.uuid) (key.Item j.uuid) (value.Item row) put off))
        (elsewhere (λ e. clash (bytes_eq i.uuid j.uuid) (text_same i.uuid j.uuid (sym x.uuid_is ∙ e)) off) h)
    at true same =
        let there : rows_after p.rows (change ∷ []) (key.Item j.uuid) ≡ Some (value.Item row) =
        subst (λ (u : Bytes). rows_after p.rows (change ∷ []) (key.Item u) ≡ Some (value.Item row)) (same_text i.uuid j.uuid same)
        (put_here p.rows change (key.Item i.uuid) (value.Item row) put) in
        ⊎_elim
        (λ (own : row.account ≡ m). inr (inr (inl (
          row,
          there,
          own,
          λ (names : Names j row).
              let bound : row.updated ≤ p.last = known names.0 row.updated names.2 names.1 in
              let is : row.updated ≡ stamp = puts.updated in
              absurd (omega arith),
        ))))
        (λ (other : row.account ≢ m). inl (row, there, other))
        (apart_numbers row.account m)

-- where an item may be accepted, only the device's own row makes it live, or it is the last version, sealed again
free_is_live : (p : Progress) (device : Rows) (accounts : List Account) (n : ℕ) (present : Params) (i : Item)
    → LiveItem (p.rows (key.Item i.uuid)) device accounts n i → IsFree p n present i → IsPosted device i ⊎ IsRewrap accounts n i
free_is_live p device accounts n present i (inl (row, there, other)) free =
    ⊎_elim (λ (absent : IsAbsent p.rows i.uuid). absurd (absent row there))
    (λ (held : (r : ItemRow) × IsHeld p n i r × ¬ (SameVersion r i) × Names i r).
    absurd (other (ap (λ (r : ItemRow). r.account) (same_row row held.0 (p.rows (key.Item i.uuid)) there held.1.0) ∙ held.1.1))) free.0
free_is_live p device accounts n present i (inr (inl (row, there, own, same))) free =
    ⊎_elim (λ (absent : IsAbsent p.rows i.uuid). absurd (absent row there))
    (λ (held : (r : ItemRow) × IsHeld p n i r × ¬ (SameVersion r i) × Names i r).
    absurd (held.2 (subst (λ (r : ItemRow). SameVersion r i) (same_row row held.0 (p.rows (key.Item i.uuid)) there held.1.0) same))) free.0
free_is_live p device accounts n present i (inr (inr (inl (row, there, own, not_named)))) free =
    ⊎_elim (λ (absent : IsAbsent p.rows i.uuid). absurd (absent row there))
    (λ (held : (r : ItemRow) × IsHeld p n i r × ¬ (SameVersion r i) × Names i r).
    absurd (not_named (subst (λ (r : ItemRow). Names i r) (sym (same_row row held.0 (p.rows (key.Item i.uuid)) there held.1.0)) held.3))) free.0
free_is_live p device accounts n present i (inr (inr (inr x))) free = x

-- after some items: the moves are those of the changes made, and what was live is live
pub record Ran (p q : Progress) (device : Rows) (s : Ideal) (name : Bytes) (n : ℕ) (a : Account) (d : Device) : Type 0 where
  pub moves : List Move
  pub legal : LegalFrom s moves
  pub made : List Change
  pub changes : q.changes ≡ p.changes ++ made
  pub says : SaysChanges p.rows device name made moves
  pub account : Account
  pub sets : account.sets ≡ a.sets
  pub serving : IsAlive q device (end_from s moves) name n account d
  pub rows : q.rows ≡ rows_after p.rows made
  pub spares : (k : ℕ) → q.rows (key.Account k) ≡ p.rows (key.Account k)
  pub devices : (end_from s moves).devices ≡ s.devices
  pub keeps : (others : Rows) (other : Bytes) → ShowsDevice others s other → ShowsDevice others (end_from s moves) other
  pub numbers : (others : Rows) (other : Bytes) → ShowsDevice others s other → NumbersOf s other → NumbersOf (end_from s moves) other
  pub numbered : (m : ℕ) (b : Account) → account_at m s.accounts ≡ Some b
      → (c : Account) × (account_at m (end_from s moves).accounts ≡ Some c) × (c.identifier ≡ b.identifier) × (c.sets ≡ b.sets)
  pub counted : length (end_from s moves).accounts ≡ length s.accounts
  pub few : AreFew s.accounts → AreFew (end_from s moves).accounts
  pub later : p.last ≤ q.last
  pub stale : (others : Rows) (other : Bytes) → StaleOf others s other → StaleOf others (end_from s moves) other
  pub lasts : LastsBefore s.accounts (end_from s moves).accounts
  pub live : (j : Item) (rows : Rows) (m : ℕ) → KnownBelow p.last j → LiveItem (p.rows (key.Item j.uuid)) rows s.accounts m j
      → LiveItem (q.rows (key.Item j.uuid)) rows (end_from s moves).accounts m j

stays : (p q : Progress) (device : Rows) (s : Ideal) (name : Bytes) (n : ℕ) (a : Account) (d : Device) → IsAlive p device s name n a d → q.rows ≡ p.rows
    → q.last ≡ p.last → q.changes ≡ p.changes → Ran p q device s name n a d
stays p q device s name n a d v rows last changes = record {
  moves = [];
  legal = tt;
  made = [];
  changes = changes ∙ sym (append-nil p.changes);
  says = refl;
  account = a;
  sets = refl;
  serving = record {
    reached = v.reached;
    accounts = subst (λ (r : Rows). ShowsAccounts r s.accounts) (sym rows) v.accounts;
    last = last ∙ v.last;
    at = v.at;
    has = v.has;
    rows = v.rows;
    sound = v.sound;
    alive = v.alive;
    numbers = v.numbers;
  };
  rows = rows;
  spares = λ k. ap (λ (r : Rows). r (key.Account k)) rows;
  devices = refl;
  keeps = λ others other h. h;
  numbers = λ others other h k. k;
  numbered = λ m b at. (b, at, refl, refl);
  counted = refl;
  few = λ f. f;
  later = omega arith;
  stale = λ others other h. h;
  lasts = λ m b uuid y at found within. (b, at, refl, found);
  live = λ j others m known h. subst (λ (r : Rows). LiveItem (r (key.Item j.uuid)) others s.accounts m j) (sym rows) h;
}

-- one that is taken

taken : (low : Below) (p q : Progress) (device : Rows) (s : Ideal) (name : Bytes) (n now : ℕ) (a : Account) (d : Device) (i : Item)
    → IsAlive p device s name n a d → (row : ItemRow) (change : Change) → RulePuts p n (stamp_of now p.last) i row change
    → q.rows ≡ rows_after p.rows (change ∷ []) → q.last ≡ stamp_of now p.last → q.changes ≡ p.changes ++ change ∷ []
    → IsTaken p q device s name n a i row → Ran p q device s name n a d
taken low p q device s name n now a d i v row change puts rows last changes x = record {
  moves = x.move ∷ [];
  legal = (x.legal, tt);
  made = change ∷ [];
  changes = changes;
  says = one_says p.rows device name change (x.move ∷ [])
      (put_says p.rows device name change (key.Item i.uuid) (value.Item row) (x.move ∷ []) puts.puts x.says);
  account = with_version x.version a;
  sets = refl;
  serving = record {
    reached = reached_more s x.move v.reached x.legal;
    accounts = x.shows;
    last = x.last;
    at = x.only.is;
    has = record { device = same_device s later x.only.drafts x.only.devices name ∙ v.has.device; account = named };
    rows = x.keeps device name v.rows;
    sound = v.sound;
    alive = v.alive;
    numbers = numbers_kept low.version_lasts low.version_on_last s later n a x.version x.only above device name v.rows v.numbers;
  };
  rows = rows;
  spares = λ k. ap (λ (r : Rows). r (key.Account k)) rows
      ∙ put_apart p.rows change (key.Item i.uuid) (key.Account k) (value.Item row) puts.puts refl;
  devices = x.only.devices;
  keeps = x.keeps;
  numbers = numbers_kept low.version_lasts low.version_on_last s later n a x.version x.only above;
  numbered = λ m b at. let c = numbered low.version_lasts low.version_on_last s later n a x.version x.only above m b at in (c.0, c.1, c.2, c.3);
  few = few_after low.version_lasts low.version_on_last s later n a x.version x.only above;
  counted = x.only.counted;
  later = let up : p.last < stamp_of now p.last = new in omega arith;
  stale = stale_kept low.version_lasts low.version_on_last s later n a x.version x.only above;
  lasts = lasts low.version_lasts low.version_on_last s later n a x.version x.only above;
  live = λ j others m known h. live_after low p q device s name n (stamp_of now p.last) a i j row change others m puts rows new v.last last x known h;
}
  where
    later : Ideal
    later = after s x.move

    new : p.last < stamp_of now p.last
    new = above_last now p.last

    above : greatest 0 (stamps_in s.accounts) < x.version.stamp
    above =
        let up : p.last < stamp_of now p.last = new in
        let from : p.last ≡ greatest 0 (stamps_in s.accounts) = v.last in
        let is : x.version.stamp ≡ q.last = x.stamp_is in
        omega arith

    identifier_is : d.account ≡ a.identifier
    identifier_is = sym (named_identifier s d.account a v.has.account)

    named : account_named later d.account ≡ Some (with_version x.version a)
    named = subst (λ (t : Bytes). account_named later t ≡ Some (with_version x.version a)) (sym identifier_is) x.only.is_named

-- one item

-- the device's row decides which move it is
takes_new : (low : Below) (p q : Progress) (device : Rows) (s : Ideal) (name : Bytes) (n now : ℕ) (present : Params) (a : Account) (d : Device) (i : Item)
    → IsAlive p device s name n a d → (new : TakesNew present now n p i q) → (row : ItemRow) (change : Change) → RulePuts p n (stamp_of now p.last) i row change
    → q.rows ≡ rows_after p.rows (change ∷ []) → q.last ≡ stamp_of now p.last
    → IsPosted device i ⊎ IsRewrap s.accounts n i → IsTaken p q device s name n a i row
takes_new low p q device s name n now present a d i v new row change puts rows last (inl x) =
    accepts low p q device s name n now present a d i v x new.0 new.1 row change puts rows last
takes_new low p q device s name n now present a d i v new row change puts rows last (inr x) =
    ⊎_elim
    (λ (sent : IsSentRow (p.rows (key.Item i.uuid)) device i.uuid row).
    accepts low p q device s name n now present a d i v
    (posted_of p device n (stamp_of now p.last) i held.0 row change held.1.0 held.1.1 puts sent) new.0 new.1 row change puts rows last)
    (λ (unsent : ¬ (IsSentRow (p.rows (key.Item i.uuid)) device i.uuid row)).
    rewraps low p q device s name n now present a d i v x new row change puts last unsent)
    (decide_sent (p.rows (key.Item i.uuid)) device i.uuid row v.sound)
  where
    its : ShowsItem p.rows n x.account i.uuid x.version
    its = (v.accounts.each n x.account x.at).items i.uuid x.version x.last

    -- its last version has a row, which it names
    held : (row : ItemRow) × (HasItem p.rows i.uuid row × Names i row)
    held =
        ⊎_elim (λ (absent : IsAbsent p.rows i.uuid). absurd (absent its.row its.stands))
        (λ (h : (r : ItemRow) × IsHeld p n i r × ¬ (SameVersion r i) × Names i r). (h.0, (h.1.0, h.3))) new.0.0

takes : (low : Below) (p q : Progress) (device : Rows) (s : Ideal) (name : Bytes) (n now : ℕ) (present : Params) (a : Account) (d : Device) (i : Item)
    → IsAlive p device s name n a d → LiveItem (p.rows (key.Item i.uuid)) device s.accounts n i → Takes present now n p i q → Ran p q device s name n a d
takes low p q device s name n now present a d i v h (inl (foreign, is)) =
    stays p q device s name n a d v (ap (λ (x : Progress). x.rows) is) (ap (λ (x : Progress). x.last) is) (ap (λ (x : Progress). x.changes) is)
takes low p q device s name n now present a d i v h (inr (inl (row, given, held, same, gives, is))) =
    stays p q device s name n a d v (ap (λ (x : Progress). x.rows) is) (ap (λ (x : Progress). x.last) is) (ap (λ (x : Progress). x.changes) is)
takes low p q device s name n now present a d i v h (inr (inr (inl (row, given, held, other, not_named, gives, is)))) =
    stays p q device s name n a d v (ap (λ (x : Progress). x.rows) is) (ap (λ (x : Progress). x.last) is) (ap (λ (x : Progress). x.changes) is)
takes low p q device s name n now present a d i v h (inr (inr (inr (inl (stands, bad, is))))) =
    stays p q device s name n a d v (ap (λ (x : Progress). x.rows) is) (ap (λ (x : Progress). x.last) is) (ap (λ (x : Progress). x.changes) is)
takes low p q device s name n now present a d i v h (inr (inr (inr (inr (free, within, (row, change, given, puts, gives, is)))))) =
    taken low p q device s name n now a d i v row change puts (ap (λ (x : Progress). x.rows) is) (ap (λ (x : Progress). x.last) is)
    (ap (λ (x : Progress). x.changes) is)
    (takes_new low p q device s name n now present a d i v (free, within, (row, change, given, puts, gives, is)) row change puts
    (ap (λ (x : Progress). x.rows) is) (ap (λ (x : Progress). x.last) is) (free_is_live p device s.accounts n present i h free))

-- all of them

lasts_both : (first mid later : List Account) → greatest 0 (stamps_in first) ≤ greatest 0 (stamps_in mid) → LastsBefore first mid → LastsBefore mid later
    → LastsBefore first later
lasts_both first mid later up x y n b uuid v at found within =
    let b_mid = y n b uuid v at found (omega arith) in
    let a_first = x n b_mid.0 uuid v b_mid.1 b_mid.3 within in
    (a_first.0, a_first.1, a_first.2 ∙ b_mid.2, a_first.3)

then_ran : (p q r : Progress) (device : Rows) (s : Ideal) (name : Bytes) (n : ℕ) (a : Account) (d : Device) → p.last ≡ greatest 0 (stamps_in s.accounts)
    → (x : Ran p q device s name n a d) → Ran q r device (end_from s x.moves) name n x.account d → Ran p r device s name n a d
then_ran p q r device s name n a d before x y =
    let joined : end_from s (x.moves ++ y.moves) ≡ end_from (end_from s x.moves) y.moves = end_from-append s x.moves y.moves in
    let up : p.last ≤ q.last = x.later in
    let upper : q.last ≤ r.last = y.later in
    record {
      moves = x.moves ++ y.moves;
      legal = legal_joined s x.moves y.moves x.legal y.legal;
      made = x.made ++ y.made;
      changes = y.changes ∙ ap (λ (c : List Change). c ++ y.made) x.changes ∙ append_assoc p.changes x.made y.made;
      says = both_say p.rows device name x.made y.made x.moves y.moves x.says
          (subst (λ (o : Rows). SaysChanges o device name y.made y.moves) x.rows y.says);
      account = y.account;
      sets = y.sets ∙ x.sets;
      serving = subst (λ (t : Ideal). IsAlive r device t name n y.account d) (sym joined) y.serving;
      rows = y.rows ∙ ap (λ (o : Rows). rows_after o y.made) x.rows ∙ fun_ext (λ k. sym (row_after-append (p.rows k) k x.made y.made));
      spares = λ k. y.spares k ∙ x.spares k;
      devices = subst (λ (t : Ideal). t.devices ≡ s.devices) (sym joined) (y.devices ∙ x.devices);
      keeps = λ others other h. subst (λ (t : Ideal). ShowsDevice others t other) (sym joined) (y.keeps others other (x.keeps others other h));
      numbers = λ others other h k.
          subst (λ (t : Ideal). NumbersOf t other) (sym joined) (y.numbers others other (x.keeps others other h) (x.numbers others other h k));
      numbered = λ m b at.
          let c = x.numbered m b at in
          let e = y.numbered m c.0 c.1 in
          (e.0, subst (λ (t : Ideal). account_at m t.accounts ≡ Some e.0) (sym joined) e.1, e.2 ∙ c.2, e.3 ∙ c.3);
      counted = subst (λ (t : Ideal). length t.accounts ≡ length s.accounts) (sym joined) (y.counted ∙ x.counted);
      few = λ f. subst (λ (t : Ideal). AreFew t.accounts) (sym joined) (y.few (x.few f));
      later = omega arith;
      stale = λ others other h. subst (λ (t : Ideal). StaleOf others t other) (sym joined) (y.stale others other (x.stale others other h));
      lasts = subst (λ (t : Ideal). LastsBefore s.accounts t.accounts) (sym joined)
          (lasts_both s.accounts (end_from s x.moves).accounts (end_from (end_from s x.moves) y.moves).accounts
          (let from : p.last ≡ greatest 0 (stamps_in s.accounts) = before in
          let to : q.last ≡ greatest 0 (stamps_in (end_from s x.moves).accounts) = x.serving.last in omega arith) x.lasts y.lasts);
      live = λ j rows m known h.
          subst (λ (t : Ideal). LiveItem (r.rows (key.Item j.uuid)) rows t.accounts m j) (sym joined)
          (y.live j rows m (λ text stamp is spelled. let low : stamp ≤ p.last = known text stamp is spelled in omega arith) (x.live j rows m known h));
    }

pub still_known : (p q : Progress) (items : List Item) → p.last ≤ q.last → Each (KnownBelow p.last) items → Each (KnownBelow q.last) items
still_known p q [] up h = tt
still_known p q (i ∷ is) up h =
    (λ text stamp e spelled. let low : stamp ≤ p.last = h.0 text stamp e spelled in omega arith, still_known p q is up h.1)

still_live : (p q : Progress) (device : Rows) (accounts later : List Account) (n : ℕ) (items : List Item)
    → ((j : Item) → KnownBelow p.last j → LiveItem (p.rows (key.Item j.uuid)) device accounts n j → LiveItem (q.rows (key.Item j.uuid)) device later n j)
    → Each (KnownBelow p.last) items → LiveItems p.rows device accounts n items → LiveItems q.rows device later n items
still_live p q device accounts later n [] f known h = tt
still_live p q device accounts later n (i ∷ is) f known h = (f i known.0 h.0, still_live p q device accounts later n is f known.1 h.1)

pub takes_all : (low : Below) (items : List Item) (p q : Progress) (device : Rows) (s : Ideal) (name : Bytes) (n now : ℕ) (present : Params) (a : Account) (d : Device)
    → IsAlive p device s name n a d → Each (KnownBelow p.last) items → LiveItems p.rows device s.accounts n items → TakesAll present now n p items q
    → Ran p q device s name n a d
takes_all low [] p q device s name n now present a d v known live t =
    stays p q device s name n a d v (ap (λ (x : Progress). x.rows) t) (ap (λ (x : Progress). x.last) t) (ap (λ (x : Progress). x.changes) t)
takes_all low (i ∷ is) p q device s name n now present a d v known live (inl (full, t)) =
    stays p q device s name n a d v (ap (λ (x : Progress). x.rows) t) (ap (λ (x : Progress). x.last) t) (ap (λ (x : Progress). x.changes) t)
takes_all low (i ∷ is) p q device s name n now present a d v known live (inr (room, (r, first, rest))) =
    let ran = takes low p r device s name n now present a d i v live.0 first in
    then_ran p r q device s name n a d v.last ran
    (takes_all low is r q device (end_from s ran.moves) name n now present ran.account d ran.serving (still_known p r is ran.later known.1)
    (still_live p r device s.accounts (end_from s ran.moves).accounts n is (λ j k h. ran.live j device n k h) known.1 live.1) rest)
