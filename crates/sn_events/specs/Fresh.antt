-- A server on a fresh disk.
use Rattle.std.specs.Prelude.{◌≡◌, List, []}
use Rattle.rand_chacha.specs.ChaCha.{ChaCha}
use Rattle.sn_account.specs.Sound.{IsSound}
use Rattle.sn_disk.specs.declared.disk.Disk.{Ghosts}
use Rattle.sn_items.specs.Draws.{drawn}
use Rattle.sn_laws.specs.Lookups.{Bytes}
use Rattle.sn_rows.specs.declared.change.Change.{Change}
use Rattle.sn_server.specs.Loads.{IsFirst, kept_of}
use Rattle.sn_server.specs.Stores.{IsOpen, after, server_rows}
use Rattle.sn_server.specs.declared.server.Server.{Server}

module _ {D : Type 0} {g : Ghosts D} where
  -- it drew its secret of the words, and has made its first commit
  pub record IsFreshServer (words left : ChaCha) (server : Server D g) : Type 0 where
    pub secret : Bytes
    pub drew : (secret, left) ≡ drawn 32 words
    pub changes : List Change
    pub first : IsFirst secret changes
    pub stands : IsOpen server (after (kept_of []) changes)
    pub sound : IsSound (server_rows server)
