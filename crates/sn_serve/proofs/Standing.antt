-- What a crash leaves of a store once serving has ended.
use Rattle.std.specs.Prelude.{◌≡◌, ◌≤◌, ◌++◌, ℕ, List, [], ◌∷◌, map}
use Rattle.std.specs.declared.option.Option.{Option}
use Rattle.std.proofs.Common.{inl, inr, refl, sym, ◌∙◌, ap, subst}
use Rattle.rand_chacha.specs.ChaCha.{ChaCha}
use Rattle.sn_disk.specs.Disk.{LeavesOnly}
use Rattle.sn_disk.specs.declared.disk.Disk.{Ghosts}
use Rattle.sn_journal.specs.Findings.{same_shown}
use Rattle.sn_journal.specs.declared.owner.Owner.TheVariants.{Server as ServerOwner}
use Rattle.sn_net.specs.Connections.{Event}
use Rattle.sn_rows.specs.Spelling.{spelled}
use Rattle.sn_rows.specs.Table.{rows_of_batches}
use Rattle.sn_rows.specs.declared.change.Change.{Change}
use Rattle.sn_server.specs.Facts.{server_each}
use Rattle.sn_server.specs.Loads.{BeginsStore, IsEmpty, IsFirst, Opens, StandsOrBegins, Stays, StaysOrBegins, StaysRefused, kept_of, secret_of}
use Rattle.sn_server.specs.Outcomes.{session_disk}
use Rattle.sn_server.specs.Sessions.{SessionEnds}
use Rattle.sn_server.specs.Steps.{after_all, world}
use Rattle.sn_server.specs.Stores.{Kept, IsOpen, MayHave, after, server_disk}
use Rattle.sn_server.specs.declared.error.ServerError.{ServerError}
use Rattle.sn_server.specs.declared.error.ServerError.TheVariants as load
use Rattle.sn_server.specs.declared.server.Server.{Server}
use Rattle.sn_server.specs.declared.serving.Ended.TheVariants as how
use Rattle.sn_server.specs.declared.serving.Session.{Session}
use Rattle.sn_table.specs.Batches.{IsStore}
use Rattle.sn_table.specs.Facts.{one_store}
use Rattle.sn_serve.specs.Hosting.{EndsIn, HostEnds, IsBroken, IsWanting}
use Rattle.sn_serve.specs.Listening.{ListenEnds, Outside, served_so}
use Rattle.sn_serve.specs.Refusals.{served_of}
use Rattle.sn_serve.specs.Standing.{DiskStands, EachStands, IsOpened, StandsBroken, StandsServed}
use Rattle.sn_serve.specs.Visits.{Stand}
use Rattle.sn_serve.specs.declared.ends.HostEnd.{HostEnd}
use Rattle.sn_serve.specs.declared.ends.HostEnd.TheVariants as host
use Rattle.sn_serve.specs.declared.ends.Served.{Served}
use Rattle.sn_serve.specs.declared.ends.Served.TheVariants.{Reached, DiskFault, PortFault, WriteFault, Foreign, Damaged, Rows, Memory}
use Rattle.sn_serve.proofs.OneList.{Leads, after_on, of_session, on, one_list, steps_on}

module _ {D : Type 0} {g : Ghosts D} (told : g.told) (kept : Kept) (secret : List ℕ) (opened : Kept) (opens : IsOpened kept secret opened) where
  -- what a server has that messages led so far
  led : (server : Server D g) (disk : D) → disk ≡ server_disk server → Leads opened server → StandsServed g kept secret disk
  led server disk same (steps, are, stands) = record {
    opened = opened;
    last = after_all opened steps;
    opens = opens;
    becomes = record { steps = steps; are = are; is = refl };
    each = λ c left. server_each server (after_all opened steps) stands told c (subst (λ (d : D). g.may_leave d c) same left);
  }

  module _ (goes : List Event → Type 0) (from : Stand D g) (given : Option (List ℕ)) (disk : D) (met : IsOpen from.server opened) where
    -- the disk failed in a session
    broken : EndsIn goes from given IsBroken disk → StandsBroken g kept secret disk
    broken ends =
        let first : Leads opened ends.to.server = one_list from ends.to ends.visits opened ends.are met in
        let mid : Kept = after_all opened first.0 in
        let here : IsOpen ends.last.server mid = subst (λ (s : Server D g). IsOpen s mid) (sym ends.is.server) first.2 in
        let (place, unread, session) = ends.is.ends mid here in
        let v = ends.last in
        let before = world v.before.left v.before.held v.before.given 0 v.before.reads v.before.writes in
        let behind = world unread v.after.held v.after.given place v.after.reads v.after.writes in
        let (moment, steps, last) =
        subst (λ (s : Session (Server D g) D). SessionEnds {S = Server D g} {D = D} IsOpen (MayHave g.told g.may_leave) mid v.budget before behind s) ends.broke.1 session in
        let (message, reads, lost) = last.ends in
        let (request, given, asks, rule, sent) = lost.rule in
        let same : disk ≡ ends.broke.0 = ends.back ∙ ap (λ (s : Session (Server D g) D). session_disk server_disk s) ends.broke.1 in
        record {
          opened = opened;
          last = after_all mid steps;
          opens = opens;
          becomes = record { steps = first.0 ++ steps; are = steps_on opened first.0 steps first.1 last.run.serves.are; is = sym (after_on opened first.0 steps) };
          message = message;
          request = request;
          now = lost.now;
          made = lost.made;
          given = given;
          asks = asks;
          rule = rule;
          each = λ c left. lost.either told c (subst (λ (d : D). g.may_leave d c) same left);
        }

    -- memory was wanting in one
    wanting : EndsIn goes from given IsWanting disk → StandsServed g kept secret disk
    wanting ends =
        let first : Leads opened ends.to.server = one_list from ends.to ends.visits opened ends.are met in
        let mid : Kept = after_all opened first.0 in
        let here : IsOpen ends.last.server mid = subst (λ (s : Server D g). IsOpen s mid) (sym ends.is.server) first.2 in
        let (place, unread, session) = ends.is.ends mid here in
        let v = ends.last in
        let before = world v.before.left v.before.held v.before.given 0 v.before.reads v.before.writes in
        let behind = world unread v.after.held v.after.given place v.after.reads v.after.writes in
        let (server, count, over) = ends.broke in
        let more : Leads mid server = of_session mid v.budget before behind server how.Memory count
        (subst (λ (s : Session (Server D g) D). SessionEnds {S = Server D g} {D = D} IsOpen (MayHave g.told g.may_leave) mid v.budget before behind s) over session) in
        let same : disk ≡ server_disk server = ends.back ∙ ap (λ (s : Session (Server D g) D). session_disk server_disk s) over in
        led server disk same (on opened first.0 more.0 server first.1 more.1 more.2)

    hosted : (end : HostEnd) → HostEnds goes from given disk end → DiskStands g kept secret disk (served_so end)
    hosted host.Reached (to, rests, none) = led to.server disk rests.back (one_list from to rests.visits opened rests.are met)
    hosted host.PortFault (to, rests, some) = led to.server disk rests.back (one_list from to rests.visits opened rests.are met)
    hosted host.DiskFault ends = inr (broken ends)
    hosted host.Memory ends = inr (wanting ends)

  module _ {P O C : Type 0} (goes : P → P → List Event → Type 0) (bound : P → ℕ) (held : O → Option (List ℕ)) (given : C → Option (List ℕ)) (number requests : ℕ) (old new : Outside P O C)
      (server : Server D g) (disk : D) (met : IsOpen server opened) where
    -- no message came
    idle : disk ≡ server_disk server → StandsServed g kept secret disk
    idle same = led server disk same ([], tt, met)

    listened : (served : Served) → ListenEnds g goes bound held given number requests old new server disk served → DiskStands g kept secret disk served
    listened Reached hosts = hosted _ _ _ disk met host.Reached hosts.ends
    listened DiskFault hosts = hosted _ _ _ disk met host.DiskFault hosts.ends
    listened PortFault (inl unbound) = idle unbound.idles.back
    listened PortFault (inr hosts) = hosted _ _ _ disk met host.PortFault hosts.ends
    listened WriteFault untold = idle untold.idles.back
    listened (Foreign place) ends = absurd ends
    listened (Damaged place) ends = absurd ends
    listened (Rows kind) ends = absurd ends
    listened Memory (inl unwritten) = inr (idle unwritten.idles.back)
    listened Memory (inr hosts) = hosted _ _ _ disk met host.Memory hosts.ends

-- what a load opened
opened_by : {D : Type 0} {g : Ghosts D} (server : Server D g) (kept : Kept) (words rest : ChaCha) → Opens {S = Server D g} IsOpen kept words rest server
    → (opened : Kept) × IsOpened kept (secret_of words) opened × IsOpen server opened
opened_by server kept words rest (inl (some, stands, same)) = (kept, inl (some, refl), stands)
opened_by server kept words rest (inr (empty, secret, changes, drew, first, stands)) =
    let is : secret ≡ secret_of words = ap (λ (p : List ℕ × ChaCha). p.0) drew in
    (after kept changes, inr (empty, changes, subst (λ (s : List ℕ). IsFirst s changes) is first, refl), stands)

module _ (before : List ℕ → Type 0) (file secret : List ℕ) (batches : List (List Change)) (store : IsStore ServerOwner file batches) (each : (c : List ℕ) → before c → IsStore ServerOwner c batches) (c : List ℕ) where
  stayed : Stays before file c → IsStore ServerOwner c batches
  stayed (inl was) = each c was
  stayed (inr same) = record { image = same_shown ServerOwner file c (map spelled batches) store.image same; each = store.each }

  begun : BeginsStore file secret c → StandsOrBegins (kept_of batches) secret c
  begun b =
      inr (subst (λ (bs : List (List Change)). IsEmpty (rows_of_batches bs) × (changes : List Change) × IsFirst secret changes × IsStore ServerOwner c (bs ++ changes ∷ []))
      (one_store ServerOwner file b.batches batches b.store store) (b.empty, b.changes, b.first, b.begun))

  stayed_or_begun : StaysOrBegins before file secret c → StandsOrBegins (kept_of batches) secret c
  stayed_or_begun (inl stays) = inl (stayed stays)
  stayed_or_begun (inr b) = begun b

module _ {D : Type 0} (g : Ghosts D) (told : g.told) (disk : D) (words : ChaCha) (back : D) (batches : List (List Change)) (seen : g.may_leave disk (g.seen disk)) (each : EachStands g disk batches)
    (since : g.moment disk ≤ g.moment back → (c : List ℕ) → g.may_leave back c → g.left_since back (g.moment disk) c) where
  -- a store that isn't loaded
  pub refused : (error : ServerError) → LeavesOnly g.moment g.left_since disk back (StaysRefused error (g.may_leave disk) (g.seen disk) (secret_of words))
      → DiskStands g (kept_of batches) (secret_of words) back (served_of error)
  refused (load.Foreign place) stays = λ c left. each c (stays.each c (since stays.later c left))
  refused (load.Damaged place) stays = λ c left. stayed (g.may_leave disk) (g.seen disk) (secret_of words) batches (each (g.seen disk) seen) each c (alike c (stays.each c (since stays.later c left)))
    where
      alike : (c : List ℕ) → StaysRefused (load.Damaged place) (g.may_leave disk) (g.seen disk) (secret_of words) c → Stays (g.may_leave disk) (g.seen disk) c
      alike c (inl was) = inl was
      alike c (inr (damaged, same)) = inr same
  refused (load.Rows kind) stays = λ c left. stayed (g.may_leave disk) (g.seen disk) (secret_of words) batches (each (g.seen disk) seen) each c (stays.each c (since stays.later c left))
  refused load.DiskFault stays = inl (λ c left. stayed_or_begun (g.may_leave disk) (g.seen disk) (secret_of words) batches (each (g.seen disk) seen) each c (stays.each c (since stays.later c left)))
  refused load.Memory stays = inl (λ c left. stayed (g.may_leave disk) (g.seen disk) (secret_of words) batches (each (g.seen disk) seen) each c (stays.each c (since stays.later c left)))

-- a store that was loaded, and then served
pub served : {D P O C : Type 0} {g : Ghosts D} (goes : P → P → List Event → Type 0) (bound : P → ℕ) (held : O → Option (List ℕ)) (given : C → Option (List ℕ)) (number requests : ℕ) (old new : Outside P O C)
    (words rest : ChaCha) (server : Server D g) (back : D) (batches : List (List Change)) (end : Served) → g.told → Opens {S = Server D g} IsOpen (kept_of batches) words rest server
    → ListenEnds g goes bound held given number requests old new server back end → DiskStands g (kept_of batches) (secret_of words) back end
served goes bound held given number requests old new words rest server back batches end told opens ends =
    let (opened, is, met) = opened_by server (kept_of batches) words rest opens in
    listened told (kept_of batches) (secret_of words) opened is goes bound held given number requests old new server back met end ends
