-- Fresh disks, and the ends before the first event.
use Rattle.std.proofs.Common.{◌≡◌, List, [], ◌∷◌, length, reverse, true, None, refl, sym, ap, ◌∙◌, subst, inl, inr, arith}
use Rattle.std.specs.declared.option.Option.{Option}
use Rattle.std.proofs.lemmas.List.Elements.{All-nil}
use Rattle.rand_chacha.specs.ChaCha.{ChaCha}
use Rattle.sn_account.specs.Lookups.{HasStore}
use Rattle.sn_account.specs.Sound.{IsSound}
use Rattle.sn_disk.specs.Courses.{DiskState}
use Rattle.sn_disk.specs.MemDisk.{disk_state, disk_told}
use Rattle.sn_disk.specs.Steps.{Leaves, Reaches, Step}
use Rattle.sn_disk.specs.declared.memory.MemDisk.{MemDisk}
use Rattle.sn_events.proofs.Batches.{whole_after}
use Rattle.sn_events.proofs.Coming.{serves_rows}
use Rattle.sn_events.specs.Begins.{HasBegun}
use Rattle.sn_events.specs.Devices.{HasRows, device_of}
use Rattle.sn_events.specs.Growing.{IsFreshHeld}
use Rattle.sn_events.specs.declared.outcome.Begun.{Begun}
use Rattle.sn_events.specs.declared.steady.Holding.{Holding}
use Rattle.sn_items.specs.Draws.{drawn}
use Rattle.sn_journal.specs.declared.owner.Owner.{Owner}
use Rattle.sn_journal.specs.declared.owner.Owner.TheVariants.{Server as ServerOwner}
use Rattle.sn_laws.specs.Lookups.{Bytes, empty}
use Rattle.sn_link.specs.Deliveries.{serves}
use Rattle.sn_link.specs.Holdings.{HoldsIn}
use Rattle.sn_link.specs.Links.{link_held}
use Rattle.sn_rows.specs.Table.{no_rows, rows_after}
use Rattle.sn_rows.specs.declared.change.Change.{Change}
use Rattle.sn_rows.specs.declared.server_rows.StoreRow.{StoreRow}
use Rattle.sn_server.specs.Loads.{IsFirst, Opens, kept_of}
use Rattle.sn_server.specs.Stores.{Kept, after, batch_of}
use Rattle.sn_table.specs.Batches.{IsBatch, IsStore}
use Rattle.sn_tail.specs.Places.{place_behind}
use Rattle.sn_world.specs.Calls.{begins_none}
use Rattle.sn_world.specs.First.{IsFirst as IsWorldFirst, Starts}
use Rattle.sn_world.specs.Laws.{HoldsFirst, KeepsStarting}
use Rattle.sn_world.specs.Sessions.{LeadsLine, opens}
use Rattle.sn_world.specs.World.{World, at_first}

-- ---- fresh disks

empty_store : (owner : Owner) (file : Bytes) → file ≡ [] → IsStore owner file []
empty_store owner file is = record { image = inr (inl (omega (arith, ap length is)), refl); each = All-nil (IsBatch owner) }

-- a crash leaves no batches of a fresh disk
pub fresh_each : (owner : Owner) (disk : MemDisk) (course : DiskState) → disk_state disk ≡ course → course.told.start ≡ [] → course.told.steps ≡ [] → (c : Bytes)
    → Leaves (disk_told disk) c → IsStore owner c []
fresh_each owner disk course is start steps c left =
    let there : Leaves course.told c = subst (λ (x : DiskState). Leaves x.told c) is left in
    let same : c ≡ course.told.start = subst (λ (l : List Step). Reaches course.told.start (reverse l) c) steps there in
    empty_store owner c (same ∙ start)

-- a server of no batches has drawn a secret, and made its first commit
pub record Began {S : Type 0} (is_open : S → Kept → Type 0) (words left : ChaCha) (server : S) : Type 0 where
  pub secret : Bytes
  pub changes : List Change
  pub drew : (secret, left) ≡ drawn 32 words
  pub first : IsFirst secret changes
  pub stands : is_open server (after (kept_of []) changes)

pub began : {S : Type 0} (is_open : S → Kept → Type 0) (words left : ChaCha) (server : S) → Opens is_open (kept_of []) words left server → Began is_open words left server
began is_open words left server (inl ((at, v, is), stands, same)) = absurd (let impossible : ⊥ = cc in impossible)
began is_open words left server (inr (none, secret, changes, drew, first, stands)) =
    record { secret = secret; changes = changes; drew = drew; first = first; stands = stands }

-- ---- the ends

world_first : (secret : Bytes) (changes : List Change) → IsFirst secret changes → IsWorldFirst secret changes
world_first secret changes x = record {
  store = x.store;
  secret_is = x.secret_is;
  last = x.last;
  accounts = x.accounts;
  change = x.change;
  puts = x.puts;
  changes_are = x.changes_are;
}

no_store : (store : StoreRow) → ¬ (HasStore at_first.server store)
no_store store = λ has. let impossible : ⊥ = cc in impossible

no_device : (found : Option Holding) → found ≡ None → HasRows found no_rows
no_device found is = subst (λ (o : Option Holding). HasRows o no_rows) (sym is) refl

pub begun : HoldsFirst → KeepsStarting → (words left : ChaCha) (secret : Bytes) (changes : List Change) (given : Begun) → (secret, left) ≡ drawn 32 words → IsFirst secret changes
    → given.changes ≡ changes → HoldsIn (link_held given.ends.link) (serves (after (kept_of []) changes)) → given.ends.place ≡ place_behind ServerOwner (after (kept_of []) changes).batches
    → IsSound (after (kept_of []) changes).rows → ((name : Bytes) → device_of given.ends.devices name ≡ None) → IsFreshHeld (link_held given.ends.link) → HasBegun words left given
begun holds_first keeps words left secret changes given drew first is holds place_is sound none disk =
    let next : World = record { server = rows_after no_rows changes; devices = at_first.devices; made = [] } in
    let is_first = world_first secret changes first in
    let starts : Starts at_first next secret changes = record { none = no_store; is = is_first; on = record { server = refl; devices = refl; made = refl } } in
    let kept = keeps secret at_first next empty changes (holds_first secret) starts in
    let leads : LeadsLine secret at_first empty (opens changes true) = record {
      begins = begins_none;
      of_line = tt;
      moves = [];
      next = next;
      goes = (next, [], [], starts, refl, (refl, refl), refl);
      server_is = refl;
      devices_are = λ name. refl;
      made_is = refl;
    } in
    record {
      secret = secret;
      drew = drew;
      changes = changes;
      changes_are = is;
      comes = (no_store, is_first);
      leads = leads;
      no_moves = refl;
      stands = record {
        server = serves_rows (link_held given.ends.link) (after (kept_of []) changes) given.ends.place (rows_after no_rows changes) holds (whole_after (kept_of []) changes refl) sound refl
            place_is;
        devices = λ name. no_device (device_of given.ends.devices name) (none name);
        holds = kept.1;
      };
      disk = disk;
      none = none;
    }

-- the batch of the first commit
pub one_batch : (secret : Bytes) (changes : List Change) → IsFirst secret changes → batch_of changes ≡ changes ∷ []
one_batch secret changes x = ap batch_of x.changes_are ∙ ap (λ (made : List Change). made ∷ []) (sym x.changes_are)
