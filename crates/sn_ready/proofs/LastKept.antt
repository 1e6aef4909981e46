-- What the exchanges of a sync leave of a device that holds its account's last set: it holds that still.
use Rattle.std.proofs.Common.{◌≡◌, ℕ, List, [], ◌∷◌, ◌++◌, refl, sym, ap, ◌∙◌, subst, true, append_assoc}
use Rattle.std.specs.List.{AllZip}
use Rattle.std.specs.Prelude.{find}
use Rattle.std.proofs.lemmas.List.{append-nil}
use Rattle.sn_device.specs.Runs.{Round}
use Rattle.sn_device.specs.Steps.{applies, posts}
use Rattle.sn_laws.specs.Lookups.{Bytes, is_account, is_device}
use Rattle.sn_laws.specs.Moves.{after}
use Rattle.sn_laws.specs.Runs.{end_from}
use Rattle.sn_laws.specs.declared.ideal.Account.{Account}
use Rattle.sn_laws.specs.declared.ideal.Device.{Device}
use Rattle.sn_laws.specs.declared.ideal.Ideal.{Ideal}
use Rattle.sn_laws.specs.declared.moves.Move.{Move}
use Rattle.sn_passwd.proofs.LastHeld.{holds_last}
use Rattle.sn_ready.specs.Ready.{HoldsLast}
use Rattle.sn_rows.specs.Table.{Rows}
use Rattle.sn_rows.specs.declared.change.Change.{Change}
use Rattle.sn_shows.specs.Laws.{AccountsApart}
use Rattle.sn_world.specs.Calls.{Leads}
use Rattle.sn_world.specs.Committing.{IsPostOf}
use Rattle.sn_world.specs.Happens.{Happens, Trace, commits, makes, serves}
use Rattle.sn_world.specs.Holds.{Holds, TokensDiffer}
use Rattle.sn_world.specs.Laws.{Keeps}
use Rattle.sn_world.specs.Rounds.{made_by, posting_steps, round_steps}
use Rattle.sn_world.specs.World.{World}

-- ---- a posting

-- accounts and devices are as they were
record SameHolders (t u : Ideal) : Type 0 where
  accounts : u.accounts ≡ t.accounts
  devices : u.devices ≡ t.devices

posts_same : (rows : Rows) (name : Bytes) (numbers : List ℕ) (moves : List Move) (t : Ideal) → AllZip (IsPostOf rows name) numbers moves
    → SameHolders t (end_from t moves)
posts_same rows name [] [] t all = record { accounts = refl; devices = refl }
posts_same rows name [] (m ∷ ms) t all = absurd all
posts_same rows name (n ∷ ns) [] t all = absurd all
posts_same rows name (n ∷ ns) (m ∷ ms) t (first, rest) =
    let others = posts_same rows name ns ms (after t m) rest in
    record {
      accounts = others.accounts ∙ ap (λ (z : Move). (after t z).accounts) first.2;
      devices = others.devices ∙ ap (λ (z : Move). (after t z).devices) first.2;
    }

same_last : (t u : Ideal) (name : Bytes) → SameHolders t u → HoldsLast t name → HoldsLast u name
same_last t u name same last d a has =
    last d a (record {
      device = ap (λ (xs : List Device). find (is_device name) xs) (sym same.devices) ∙ has.device;
      account = ap (λ (xs : List Account). find (is_account d.account) xs) (sym same.accounts) ∙ has.account;
    })

pub posting_last : (secret : Bytes) (v : World) (t : Ideal) (name : Bytes) (numbers : List ℕ) (posted : List Change) (server rows : Rows)
    (one : Leads secret v t name (commits name (posts numbers) posted true ∷ []) server rows) → HoldsLast t name → HoldsLast (end_from t one.moves) name
posting_last secret v t name numbers posted server rows one last = by one.moves one.goes
  where
    by : (moves : List Move) → Trace secret v t (commits name (posts numbers) posted true ∷ []) moves one.next → HoldsLast (end_from t moves) name
    by moves (mid, first, later, does, says, (none, same), is) =
        let moves_are : moves ≡ first = is ∙ ap (λ (ms : List Move). first ++ ms) none ∙ append-nil first in
        subst (λ (ms : List Move). HoldsLast (end_from t ms) name) (sym moves_are)
        (same_last t (end_from t first) name (posts_same (v.devices name) name numbers first t says) last)

-- ---- a round

pub round_last : Keeps → AccountsApart → (secret : Bytes) → TokensDiffer secret → (name : Bytes) (round : Round) (now : ℕ) (changes : List Change)
    (moves : List Move) (w next : World) (s : Ideal) → Holds secret w s → Trace secret w s (round_steps name round now changes) moves next
    → HoldsLast (end_from s moves) name
round_last keeps apart secret differ name round now changes moves w next s h trace =
    let posting : List Happens = posting_steps name round.numbers round.posted in
    let asking : List Happens = makes (made_by name round.request) ∷ serves (made_by name round.request) now changes round.given true ∷ [] in
    let last : List Happens = commits name (applies round.request round.given) round.applied true ∷ [] in
    holds_last keeps secret differ name round.request round.given round.applied apart (posting ++ asking) moves w next s h
    (subst (λ (steps : List Happens). Trace secret w s steps moves next) (sym (append_assoc posting asking last)) trace)
