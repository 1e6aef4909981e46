-- The ends before the first event.
use Rattle.std.specs.Prelude.{◌≡◌, List, [], None, true}
use Rattle.rand_chacha.specs.ChaCha.{ChaCha}
use Rattle.sn_events.specs.Devices.{device_of}
use Rattle.sn_events.specs.Growing.{IsFreshHeld}
use Rattle.sn_events.specs.Standing.{Stands}
use Rattle.sn_events.specs.declared.outcome.Begun.{Begun}
use Rattle.sn_items.specs.Draws.{drawn}
use Rattle.sn_laws.specs.Lookups.{Bytes, empty}
use Rattle.sn_laws.specs.Runs.{end_from}
use Rattle.sn_lines.specs.Lines.{MayHappen}
use Rattle.sn_link.specs.Links.{link_held}
use Rattle.sn_rows.specs.declared.change.Change.{Change}
use Rattle.sn_world.specs.Sessions.{LeadsLine, opens}
use Rattle.sn_world.specs.World.{at_first}

-- a secret was drawn of the words, and the ends stand behind the server's first commit, whose changes are given
pub record HasBegun (words left : ChaCha) (begun : Begun) : Type 0 where
  pub secret : Bytes
  pub drew : (secret, left) ≡ drawn 32 words
  pub changes : List Change
  pub changes_are : begun.changes ≡ changes
  pub comes : MayHappen secret at_first empty (opens changes true)
  pub leads : LeadsLine secret at_first empty (opens changes true)
  pub no_moves : leads.moves ≡ []
  pub stands : Stands begun.ends secret leads.next (end_from empty leads.moves)
  -- its disk was made without bytes, and there is no device yet
  pub disk : IsFreshHeld (link_held begun.ends.link)
  pub none : (name : Bytes) → device_of begun.ends.devices name ≡ None
