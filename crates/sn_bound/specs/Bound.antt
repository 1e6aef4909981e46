-- How many requests a change of password makes that is answered, with no other's request served between its own.
use Rattle.std.specs.Prelude.{◌≡◌, ◌+◌, ◌≤◌, ℕ, List, [], ◌∷◌, length}
use Rattle.rand_chacha.specs.ChaCha.{ChaCha}
use Rattle.sn_bound.specs.Portions.{ArePortions}
use Rattle.sn_device.specs.Runs.{Act, Halt, Run, passwd}
use Rattle.sn_device.specs.Sending.{AreWaiting, Numbered}
use Rattle.sn_device.specs.States.{HasOwner}
use Rattle.sn_laws.specs.Lookups.{Bytes}
use Rattle.sn_laws.specs.declared.ideal.Ideal.{Ideal}
use Rattle.sn_ready.specs.Passwds.{BehindFirst, IsChanged, rows_made}
use Rattle.sn_ready.specs.Ready.{IsReady}
use Rattle.sn_rows.specs.Table.{Rows}
use Rattle.sn_rows.specs.declared.device_rows.OwnerRow.{OwnerRow}
use Rattle.sn_world.specs.Answering.{requests_in}
use Rattle.sn_world.specs.Calls.{AreServed, Fate}
use Rattle.sn_world.specs.Holds.{Holds, TokensDiffer}
use Rattle.sn_world.specs.World.{World}

-- one request for each portion; and one where there is none
abbrev pub exchanges_for : {A : Type 0} → List A → ℕ
exchanges_for [] = 1
exchanges_for (portion ∷ portions) = length (portion ∷ portions)

-- behind the adoption these items wait, fall into these portions, and are sent in as many exchanges
pub record SendsPortions (rows : Rows) (exchanges : ℕ) : Type 0 where
  pub waiting : List Numbered
  pub wait : AreWaiting rows waiting
  pub portions : List (List Numbered)
  pub are : ArePortions portions waiting
  pub sent : exchanges ≡ exchanges_for portions

-- of a change of password that is answered on a device that is ready: its first row of exchanges is that of a sync; its second sends each portion in one
-- exchange. So it makes at most as many requests as the first row has exchanges and there are portions, and two more
pub record IsBounded (server rows : Rows) (words : ChaCha) (password : Bytes) (cost : ℕ) (acts : List Act) (fates : List Fate) (halt : Halt)
    (x : BehindFirst server rows words acts fates) (c : IsChanged password cost x.first.behind.at x.first.behind.later halt) : Type 0 where
  pub second : SendsPortions (rows_made x.first.behind.at c.is_made) (length c.second.behind.rounds)
  pub at_most : requests_in acts ≤ 2 + length x.first.behind.rounds + length second.portions

abbrev pub ChangesBounded : Type 0
ChangesBounded = (secret : Bytes) (w : World) (s : Ideal) (name : Bytes) (owner : OwnerRow) (least : ℕ) (password : Bytes) (cost : ℕ) (words : ChaCha)
    (acts : List Act) (fates : List Fate) (halt : Halt) → TokensDiffer secret → Holds secret w s → IsReady w s name → HasOwner (w.devices name) owner
    → Run least (passwd password cost) (w.devices name) words acts halt → AreServed w.server acts fates
    → (x : BehindFirst w.server (w.devices name) words acts fates) → (c : IsChanged password cost x.first.behind.at x.first.behind.later halt)
    → IsBounded w.server (w.devices name) words password cost acts fates halt x c
