-- Each set that an undeleted last version carries is held by a device: along steps, and by one of the script.
use Rattle.std.proofs.Common.{◌≡◌, ◌≢◌, ℕ, zero, suc, List, [], ◌∷◌, Bool, true, false, Option, Some, None, refl, sym, ap, ◌∙◌, subst, inl, inr}
use Rattle.std.specs.Prelude.{slice_get}
use Rattle.std.specs.List.{list_any}
use Rattle.std.specs.Str.{bytes_eq}
use Rattle.sn_laws.proofs.Facts.{end_from-append, text_same}
use Rattle.sn_laws.specs.Each.{One}
use Rattle.sn_laws.specs.Lookups.{Bytes, account_for, account_of, device_named}
use Rattle.sn_laws.specs.Runs.{end_from}
use Rattle.sn_laws.specs.declared.ideal.Account.{Account}
use Rattle.sn_laws.specs.declared.ideal.Device.{Device}
use Rattle.sn_laws.specs.declared.ideal.Ideal.{Ideal}
use Rattle.sn_laws.specs.declared.moves.Move.{Move}
use Rattle.sn_rows.specs.Table.{Rows, no_rows}
use Rattle.sn_rows.specs.declared.key.Key.TheVariants as key
use Rattle.sn_rows.specs.declared.value.Value.{Value}
use Rattle.sn_rows.specs.declared.value.Value.TheVariants as value
use Rattle.sn_shown.specs.Shown.{AreHeld as AreHeldBy, IsHeld}
use Rattle.sn_shows.specs.Devices.{ShowsDevice, ShowsDeviceAs}
use Rattle.sn_shows.specs.Servers.{account_at}
use Rattle.sn_world.specs.Happens.{Happens, Trace}
use Rattle.sn_world.specs.Holders.{AreHeld, IsHeldBySome, KeepsHeld}
use Rattle.sn_world.specs.Holds.{Holds, TokensDiffer}
use Rattle.sn_world.specs.Laws.{Keeps}
use Rattle.sn_world.specs.World.{World}
use Rattle.sn_replay.proofs.Lists.{one_named}

-- ---- along steps

pub held_along : Keeps → KeepsHeld → (secret : Bytes) → TokensDiffer secret → (w : World) (s : Ideal) (steps : List Happens) (moves : List Move) (next : World)
    → Holds secret w s → AreHeld s → Trace secret w s steps moves next → AreHeld (end_from s moves)
held_along keeps stays secret differ w s [] moves next h held t = subst (λ (ms : List Move). AreHeld (end_from s ms)) (sym t.0) held
held_along keeps stays secret differ w s (step ∷ steps) moves next h held (mid, first, later, does, says, rest, is) =
    let kept = keeps secret w mid s step first differ h does says in
    let there : AreHeld (end_from s first) = stays secret w mid s step first differ h held does says in
    let behind : AreHeld (end_from (end_from s first) later) = held_along keeps stays secret differ mid (end_from s first) steps later next kept.1 there rest in
    subst AreHeld (sym (ap (end_from s) is ∙ end_from-append s first later)) behind

-- ---- by a device of the script

-- an element stands at some place
place_of : (accounts : List Account) (a : Account) → One (λ b. b ≡ a) accounts → (place : ℕ) × (slice_get accounts place ≡ Some a)
place_of [] a h = absurd h
place_of (b ∷ accounts) a (inl is) = (zero, ap Some is)
place_of (b ∷ accounts) a (inr later) = let there = place_of accounts a later in (suc there.0, there.1)

-- a device of the state has rows
has_rows : (rows : Rows) (s : Ideal) (name : Bytes) (d : Device) → ShowsDevice rows s name → device_named s name ≡ Some d → rows ≡ no_rows → ⊥
has_rows rows s name d shows named none =
    let of : ShowsDeviceAs rows s name (Some d) = subst (ShowsDeviceAs rows s name) named shows in
    let some : rows key.Owner ≡ Some (value.Owner of.2.owner.owner) = of.2.owner.stands in
    let nothing : rows key.Owner ≡ None = ap (λ (r : Rows). r key.Owner) none in
    absurd (cc)

-- so it is among those that have begun
among : (names : List Bytes) (rows : Bytes → Rows) (s : Ideal) (name : Bytes) (d : Device)
    → ((other : Bytes) → ¬ (One (λ n. n ≡ other) names) → rows other ≡ no_rows) → ShowsDevice (rows name) s name → device_named s name ≡ Some d
    → One (λ n. n ≡ name) names
among names rows s name d begun shows named = at (list_any (λ n. bytes_eq n name) names) refl
  where
    found : (ns : List Bytes) → One (λ n. n ≡ name) ns → list_any (λ n. bytes_eq n name) ns ≡ true
    found [] h = absurd h
    found (n ∷ ns) (inl is) = let same : bytes_eq n name ≡ true = text_same n name is in search (same)
    found (n ∷ ns) (inr later) = at_rest (bytes_eq n name) refl (found ns later)
      where
        at_rest : (b : Bool) → bytes_eq n name ≡ b → list_any (λ m. bytes_eq m name) ns ≡ true → list_any (λ m. bytes_eq m name) (n ∷ ns) ≡ true
        at_rest true e rest = search (e)
        at_rest false e rest = search (e, rest)

    at : (b : Bool) → list_any (λ n. bytes_eq n name) names ≡ b → One (λ n. n ≡ name) names
    at true e = one_named names name e
    at false e = absurd (has_rows (rows name) s name d shows named (begun name (λ one. let same : list_any (λ n. bytes_eq n name) names ≡ true = found names one in absurd (cc))))

pub held_by_script : (names : List Bytes) (rows : Bytes → Rows) (s : Ideal) → ((other : Bytes) → ¬ (One (λ n. n ≡ other) names) → rows other ≡ no_rows)
    → ((name : Bytes) → ShowsDevice (rows name) s name) → AreHeld s → AreHeldBy s names
held_by_script names rows s begun shows held a uuid v text number one last body =
    let there = place_of s.accounts a one in
    let by : IsHeldBySome s a number = held (suc there.0) a uuid v text number there.1 last body in (
      by.name,
      among names rows s by.name by.device begun (shows by.name) by.has.device,
      record {
        device = by.device;
        named = by.has.device;
        has = ap (account_for s.accounts) by.has.device ∙ by.has.account;
        held = by.holds;
      },
    )
