-- A call over a link, piece by piece: how it goes on from where it is.
use Rattle.std.specs.Prelude.{◌⊎◌, ◌<◌, ℕ, List}
use Rattle.rand_chacha.specs.ChaCha.{ChaCha}
use Rattle.sn_net.specs.Exchanges.{Exchange}
use Rattle.sn_rows.specs.declared.change.Change.{Change}
use Rattle.sn_rows.specs.Table.{Rows}
use Rattle.sn_rows.specs.declared.device_rows.OwnerRow.{OwnerRow}
use Rattle.sn_sets.specs.declared.sets.Sets.{Sets}
use Rattle.sn_string.specs.declared.params.KeySet.{KeySet}
use Rattle.sn_table.specs.Kept.{Kept}
use Rattle.sn_client.specs.Calls.{Ends}
use Rattle.sn_device.specs.Changing.{MayAsk}
use Rattle.sn_device.specs.Runs.{Act, AreExchanges, Given, Halt, IsNewSet, Wants, most_exchanges}
use Rattle.sn_device.specs.States.{Bytes, HasSets}
use Rattle.sn_client.specs.declared.called.Called.{Called}

-- memory may be wanting before the first act
abbrev pub MayWant : (List Act → Halt → Type 0) → List Act → Halt → Type 0
MayWant run acts halt = Wants acts halt ⊎ run acts halt

module _ {S D T : Type 0} (is_open : S → Kept → Type 0) (may_have : D → Kept → List Change → Type 0) (gives : T → Given) where
  -- from here on the call runs so, with the exchanges that the link tells
  pub record GoesOver (run : List Act → Halt → Type 0) (asks : List Exchange → Type 0) (host : Bytes) (kept : Kept) (left : ChaCha)
      (result : Called S D T) : Type 0 where
    pub acts : List Act
    pub halt : Halt
    pub runs : run acts halt
    pub exchanges : List Exchange
    pub are : AreExchanges host acts exchanges
    pub asked_so : asks exchanges
    pub ends : Ends is_open may_have gives kept acts halt left result

-- ---- a change of password

-- the sets that are held, and a new one of the password that may be asked for behind so many exchanges
pub record IsToAsk (rows : Rows) (words : ChaCha) (password : Bytes) (cost made : ℕ) (sets : Sets) (set : KeySet) (left : ChaCha) : Type 0 where
  pub owner : OwnerRow
  pub holds : HasSets rows owner sets
  pub may : MayAsk rows sets
  pub few : made < most_exchanges
  pub new : IsNewSet words owner.identifier password cost set left
