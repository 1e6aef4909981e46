-- What is kept of the requests that devices made.
use Rattle.std.specs.Prelude.{ℕ, zero, suc, List, [], ◌∷◌, Bool, true, false, Option, Some, None, slice_get}
use Rattle.std.specs.BTreeMap.{get_by_text}
use Rattle.sn_device.specs.Asking.{IsRequestBytes}
use Rattle.sn_events.specs.Calling.{host}
use Rattle.sn_laws.specs.Lookups.{Bytes}
use Rattle.sn_link.specs.Laws.{IsReadable}
use Rattle.sn_saying.specs.Served.{IsBegunAs}
use Rattle.sn_script.specs.declared.script.Ordinal.{Ordinal}
use Rattle.sn_script.specs.declared.script.Ordinal.TheVariants as ordinal
use Rattle.sn_string.specs.declared.params.KeySet.{KeySet}
use Rattle.sn_telling.specs.declared.calling.Calling.{Calling}
use Rattle.sn_telling.specs.declared.calling.Calling.TheVariants as calling
use Rattle.sn_world.specs.World.{Made}
use Rattle.sn_replay.specs.declared.kept.Kept.{Kept}
use Rattle.sn_replay.specs.declared.kept.Requests.{Requests}

-- ---- of one device

abbrev pub kept_in : Option (List Kept) → List Kept
kept_in None = []
kept_in (Some kept) = kept

abbrev pub requests_of : Requests → List ℕ → List Kept
requests_of requests name = kept_in (get_by_text requests.made name)

-- the one that a number means, the first being 1
abbrev pub nth_of : List Kept → Ordinal → Option Kept
nth_of kept (ordinal.Nth zero) = None
nth_of kept (ordinal.Nth (suc place)) = slice_get kept place
nth_of kept ordinal.Beyond = None

-- ---- of a call

-- whether it puts a new item
abbrev pub puts_of : Calling → Bool
puts_of (calling.Put kind text) = true
puts_of (calling.Register identifier set) = false
puts_of (calling.SignIn identifier) = false
puts_of (calling.Edit text) = false
puts_of calling.Delete = false
puts_of calling.Sync = false
puts_of calling.Passwd = false

-- its requests, each with the set that it would begin
abbrev pub kept_all : List Bytes → List (Option KeySet) → List Kept
kept_all [] begun = []
kept_all (request ∷ requests) [] = []
kept_all (request ∷ requests) (begins ∷ begun) = record { request = request; begins = begins } ∷ kept_all requests begun

-- ---- what it stands for

-- the bytes of the request, which a server reads, and the set that it would begin
pub record IsKeptOf (m : Made) (k : Kept) : Type 0 where
  pub sent : IsRequestBytes host m.request k.request
  pub begins_so : IsBegunAs m.request m.begins k.begins
  pub readable : IsReadable host m.request
