-- What is said of all that an answer tells, one after another.
use Rattle.std.proofs.Common.{◌≡◌, ◌≢◌, ◌⊎◌, ℕ, Bool, true, false, List, [], ◌∷◌, ◌++◌, Option, Some, None, refl, sym, ap, ◌∙◌, subst, inl, inr, ⊎_elim}
use Rattle.std.proofs.lemmas.Bool.{or_cases}
use Rattle.std.specs.List.{list_any}
use Rattle.std.specs.Str.{bytes_eq}
use Rattle.sn_device.specs.Laws.{AreStanding, IsChecked, StayStanding}
use Rattle.sn_device.specs.States.{HasItem, HasLocal}
use Rattle.sn_device.specs.Taking.{Meets, Progress, Takes, TakesOwn, TakesServer, Told, is_conflict, is_retrieved, is_saved}
use Rattle.sn_conflict.specs.Meetings.{MeetsAs}
use Rattle.sn_conflict.specs.declared.meeting.Meeting.{Meeting}
use Rattle.sn_conflict.specs.declared.meeting.Meeting.TheVariants as meeting
use Rattle.sn_laws.proofs.Facts.{clash, one_there, same_text}
use Rattle.sn_laws.specs.Each.{Each}
use Rattle.sn_laws.specs.Lookups.{Bytes}
use Rattle.sn_laws.specs.declared.moves.Move.{Move}
use Rattle.sn_rows.specs.Table.{Rows}
use Rattle.sn_rows.specs.declared.body.RowBody.TheVariants as row
use Rattle.sn_rows.specs.declared.device_rows.LocalItem.{LocalItem}
use Rattle.sn_rows.specs.declared.key.Key.TheVariants as key
use Rattle.sn_rows.specs.declared.value.Value.{Value}
use Rattle.sn_rows.specs.declared.value.Value.TheVariants as value
use Rattle.sn_sets.specs.declared.sets.Sets.{Sets}
use Rattle.sn_sync.specs.Laws.{HasOneStamp}
use Rattle.sn_sync.specs.declared.answer.Conflict.TheVariants as conflict
use Rattle.sn_sync.specs.declared.item.Item.{Item}
use Rattle.sn_world.specs.Applying.{SaysAllTold, SaysForeign, SaysMeets, SaysServer, SaysTold}
use Rattle.sn_moves.specs.Laws.{KeepsDeletions}
use Rattle.sn_moves.specs.Foreign.{foreign_of}
use Rattle.sn_moves.proofs.Forks.{fork_said, makes_said, renamed_gone, renamed_said}
use Rattle.sn_moves.proofs.Meets.{gives_way_said, own_said, posted_body, take_said}
use Rattle.sn_moves.proofs.Turns.{Frame, Said, WasDeleted, said_both, said_none}

-- ---- what is told is taken

meets_takes : (name : Bytes) (sets : Sets) (p q : Progress) (n : ℕ) (local : LocalItem) (i : Item) (how : Meeting) (moves : List Move)
    → SaysMeets name sets p n local i how q moves → Meets sets p n local i how q
meets_takes name sets p q n local i meeting.Same moves x = x.0
meets_takes name sets p q n local i meeting.Take moves x = x.0
meets_takes name sets p q n local i (meeting.Own true) moves x = x.0
meets_takes name sets p q n local i (meeting.Own false) moves x = x.0
meets_takes name sets p q n local i meeting.GiveWay moves x = x.0
meets_takes name sets p q n local i meeting.Fork moves (r, copies, takes, is) = (r, copies, takes)

server_takes : (name : Bytes) (sets : Sets) (p q : Progress) (i : Item) (flag : Bool) (moves : List Move) → SaysServer name sets p i flag q moves
    → TakesServer sets p i flag q
server_takes name sets p q i flag moves (inl (n, local, how, stands, met, says)) =
    inl (n, local, how, stands, met, meets_takes name sets p q n local i how moves says)
server_takes name sets p q i flag moves (inr (nobody, makes, is)) = inr (nobody, makes)

foreign_takes : (name : Bytes) (sets : Sets) (p q : Progress) (i : Item) (moves : List Move) → SaysForeign name sets p i.uuid q moves
    → TakesOwn sets p i.uuid (conflict.Uuid i) q
foreign_takes name sets p q i moves (inl (n, local, stands, how, is)) = inl (n, local, stands, how)
foreign_takes name sets p q i moves (inr (nobody, same, is)) = inr (nobody, same)

told_takes : (name : Bytes) (sets : Sets) (saved : List Item) (p q : Progress) (t : Told) (moves : List Move) → SaysTold name sets saved p t q moves
    → Takes sets saved p t q
told_takes name sets saved p q (is_saved i) moves says = server_takes name sets p q i true moves says
told_takes name sets saved p q (is_conflict (conflict.Sync i)) moves says = server_takes name sets p q i false moves says
told_takes name sets saved p q (is_conflict (conflict.Uuid i)) moves says = foreign_takes name sets p q i moves says
told_takes name sets saved p q (is_conflict (conflict.Content i)) moves says = absurd says
told_takes name sets saved p q (is_retrieved i) moves (inl (has, same, is)) = inl (has, same)
told_takes name sets saved p q (is_retrieved i) moves (inr (apart, says)) = inr (apart, server_takes name sets p q i false moves says)

-- ---- the uuids that another account has

abbrev told_foreign : Told → List Bytes
told_foreign (is_saved i) = []
told_foreign (is_conflict c) = foreign_of c
told_foreign (is_retrieved i) = []

abbrev pub foreign_told : List Told → List Bytes
foreign_told [] = []
foreign_told (t ∷ ts) = told_foreign t ++ foreign_told ts

abbrev pub IsIn : Bytes → List Bytes → Type 0
IsIn uuid uuids = list_any (bytes_eq uuid) uuids ≡ true

abbrev pub IsOut : Bytes → List Bytes → Type 0
IsOut uuid uuids = list_any (bytes_eq uuid) uuids ≡ false

-- a version of the server's is of no item whose uuid another account is still to have; a uuid that another account has is among them
abbrev pub IsApart : List Bytes → Told → List Told → Type 0
IsApart foreign (is_saved i) ts = IsOut i.uuid (foreign_told ts)
IsApart foreign (is_conflict (conflict.Sync i)) ts = IsOut i.uuid (foreign_told ts)
IsApart foreign (is_conflict (conflict.Uuid i)) ts = IsIn i.uuid foreign
IsApart foreign (is_conflict (conflict.Content i)) ts = Unit {0}
IsApart foreign (is_retrieved i) ts = IsOut i.uuid (foreign_told ts)

abbrev pub AreToldApart : List Bytes → List Told → Type 0
AreToldApart foreign [] = Unit {0}
AreToldApart foreign (t ∷ ts) = IsApart foreign t ts × AreToldApart foreign ts

-- a deletion whose uuid another account has is still to meet that
abbrev pub AreLeft : List Bytes → Rows → List Bytes → Type 0
AreLeft foreign rows left = (n : ℕ) (l : LocalItem) → HasLocal rows n l → l.latest ≡ Some row.Deleted → IsOut l.uuid foreign ⊎ IsIn l.uuid left

-- ---- one of them

-- what it says, and that deletions are left only to those behind it
record One (name : Bytes) (foreign : List Bytes) (p q : Progress) (moves : List Move) (later : List Bytes) : Type 0 where
  said : Said name foreign p q moves
  left : AreLeft foreign q.rows later

left_frame : (foreign left : List Bytes) (p q : Progress) → Frame p q → AreLeft foreign p.rows left → AreLeft foreign q.rows left
left_frame foreign left p q f before n l has is =
    let m = f.deleted n l has is in
    subst (λ (u : Bytes). IsOut u foreign ⊎ IsIn u left) m.3 (before n m.0 m.1 m.2)

module _ (one_stamp : HasOneStamp) (name : Bytes) (foreign : List Bytes) (sets : Sets) (p q : Progress) (standing : AreStanding p.next p.rows)
    (stay : KeepsDeletions p.rows) (left : List Bytes) (before : AreLeft foreign p.rows left) where
  as_said : (moves is : List Move) → moves ≡ is → Said name foreign p q is → Said name foreign p q moves
  as_said moves is same said = subst (λ (m : List Move). Said name foreign p q m) (sym same) said

  meets_said : (n : ℕ) (local : LocalItem) (i : Item) (flag : Bool) (how : Meeting) (moves : List Move) → HasItem p.rows i.uuid n local
      → IsOut i.uuid left → MeetsAs sets local i flag how → SaysMeets name sets p n local i how q moves → Said name foreign p q moves
  meets_said n local i flag meeting.Same moves stands out met (same, is) = as_said moves [] is (said_none name foreign p q same)
  meets_said n local i flag meeting.Take moves stands out met (takes, is) =
      as_said moves [] is (take_said one_stamp name foreign sets p q n local i stands flag met takes)
  meets_said n local i flag (meeting.Own true) moves stands out met (takes, is) =
      own_said one_stamp name foreign sets p q n local i stands flag moves met
      (λ deleted. ⊎_elim (λ (free : IsOut local.uuid foreign). free)
      (λ (among : IsIn local.uuid left).
      absurd (clash (list_any (bytes_eq i.uuid) left) (subst (λ (u : Bytes). IsIn u left) stands.1 among) out))
      (before n local stands.0 deleted)) takes is
  meets_said n local i flag (meeting.Own false) moves stands out met (takes, (stamp, named, is)) =
      as_said moves _ is (posted_body one_stamp name foreign sets p q n local i stands flag stamp i.body refl met stay named takes)
  meets_said n local i flag meeting.GiveWay moves stands out met (takes, is) =
      gives_way_said one_stamp name foreign sets p q n local i stands flag moves met takes is
  meets_said n local i flag meeting.Fork moves stands out met (r, copies, takes, is) =
      as_said moves _ is (fork_said name foreign sets p r q n local i flag standing stands met copies takes)

  server_said : (i : Item) (flag : Bool) (moves : List Move) → IsOut i.uuid left → SaysServer name sets p i flag q moves → One name foreign p q moves left
  server_said i flag moves out says = record { said = said says; left = left_frame foreign left p q (said says).frame before }
    where
      said : SaysServer name sets p i flag q moves → Said name foreign p q moves
      said (inl (n, local, how, stands, met, x)) = meets_said n local i flag how moves stands out met x
      said (inr (nobody, makes, is)) = as_said moves [] is (makes_said name foreign sets p q i i.body standing makes)

-- a uuid that another account has: its deletion is gone behind it
module _ (name : Bytes) (foreign : List Bytes) (sets : Sets) (p q : Progress) (standing : AreStanding p.next p.rows) (i : Item) (later : List Bytes)
    (before : AreLeft foreign p.rows (i.uuid ∷ later)) (has : IsIn i.uuid foreign) where
  has_row : (local : LocalItem) → local.uuid ≡ i.uuid → IsIn local.uuid foreign
  has_row local same = subst (λ (u : Bytes). IsIn u foreign) (sym same) has

  said_foreign : (moves : List Move) → SaysForeign name sets p i.uuid q moves → Said name foreign p q moves
  said_foreign moves (inl (n, local, stands, how, is)) =
      subst (λ (m : List Move). Said name foreign p q m) (sym is)
      (renamed_said name foreign sets p q n local stands.0 (has_row local stands.1) local.latest refl how)
  said_foreign moves (inr (nobody, same, is)) = subst (λ (m : List Move). Said name foreign p q m) (sym is) (said_none name foreign p q same)

  -- a deletion under the uuid would have been that row's
  gone : (moves : List Move) → SaysForeign name sets p i.uuid q moves → (n : ℕ) (l : LocalItem) → HasLocal q.rows n l → WasDeleted p.rows n l
      → l.uuid ≢ i.uuid
  gone moves (inl (number, local, stands, how, is)) n l there (m, was, deleted, same) uuid =
      let at : n ≡ number = standing.apart n number m local was stands.0 (same ∙ uuid ∙ sym stands.1) in
      let row_is : m ≡ local =
      one_there m local (value_at (p.rows (key.Local number))) (ap value_at (subst (λ (k : ℕ). HasLocal p.rows k m) at was)) (ap value_at stands.0) in
      renamed_gone name foreign sets p q number local stands.0 (has_row local stands.1) local.latest refl how
      (subst (λ (x : LocalItem). x.latest ≡ Some row.Deleted) row_is deleted) l (subst (λ (k : ℕ). HasLocal q.rows k l) at there)
    where
      value_at : Option Value → Option LocalItem
      value_at (Some (value.Local x)) = Some x
      value_at found = None
  gone moves (inr (nobody, none, is)) n l there (m, was, deleted, same) uuid = nobody n m (was, same ∙ uuid)

  foreign_said : (moves : List Move) → SaysForeign name sets p i.uuid q moves → One name foreign p q moves later
  foreign_said moves says = record {
    said = said_foreign moves says;
    left = λ n l there deleted.
        let was : WasDeleted p.rows n l = (said_foreign moves says).frame.deleted n l there deleted in
        ⊎_elim (λ (free : IsOut was.0.uuid foreign). inl (subst (λ (u : Bytes). IsOut u foreign) was.3 free))
        (λ (among : IsIn was.0.uuid (i.uuid ∷ later)).
        ⊎_elim
        (λ (same : bytes_eq was.0.uuid i.uuid ≡ true). absurd (gone moves says n l there was (sym was.3 ∙ same_text was.0.uuid i.uuid same)))
        (λ (behind : IsIn was.0.uuid later). inr (subst (λ (u : Bytes). IsIn u later) was.3 behind))
        (or_cases (bytes_eq was.0.uuid i.uuid) (list_any (bytes_eq was.0.uuid) later) among)) (before n was.0 was.1 was.2);
  }

-- ---- all of them

module _ (one_stamp : HasOneStamp) (stays : StayStanding) (name : Bytes) (foreign : List Bytes) (sets : Sets) (saved : List Item) where
  one_said : (p q : Progress) (t : Told) (ts : List Told) (moves : List Move) → AreStanding p.next p.rows → KeepsDeletions p.rows
      → AreLeft foreign p.rows (foreign_told (t ∷ ts)) → IsApart foreign t ts → SaysTold name sets saved p t q moves
      → One name foreign p q moves (foreign_told ts)
  one_said p q (is_saved i) ts moves standing stay before apart says =
      server_said one_stamp name foreign sets p q standing stay (foreign_told ts) before i true moves apart says
  one_said p q (is_conflict (conflict.Sync i)) ts moves standing stay before apart says =
      server_said one_stamp name foreign sets p q standing stay (foreign_told ts) before i false moves apart says
  one_said p q (is_conflict (conflict.Uuid i)) ts moves standing stay before apart says =
      foreign_said name foreign sets p q standing i (foreign_told ts) before apart moves says
  one_said p q (is_conflict (conflict.Content i)) ts moves standing stay before apart says = absurd says
  one_said p q (is_retrieved i) ts moves standing stay before apart (inl (has, same, is)) = record {
    said = subst (λ (m : List Move). Said name foreign p q m) (sym is) (said_none name foreign p q same);
    left = subst (λ (x : Progress). AreLeft foreign x.rows (foreign_told ts)) (sym same) before;
  }
  one_said p q (is_retrieved i) ts moves standing stay before apart (inr (unsaved, says)) =
      server_said one_stamp name foreign sets p q standing stay (foreign_told ts) before i false moves apart says

  pub all_said : (ts : List Told) (p q : Progress) (moves : List Move) → Each IsChecked ts → AreToldApart foreign ts → AreStanding p.next p.rows
      → KeepsDeletions p.rows → AreLeft foreign p.rows (foreign_told ts) → SaysAllTold name sets saved p ts q moves → Said name foreign p q moves
  all_said [] p q moves checked apart standing stay before (same, is) =
      subst (λ (m : List Move). Said name foreign p q m) (sym is) (said_none name foreign p q same)
  all_said (t ∷ ts) p q moves checked apart standing stay before (r, first, later, one, rest, is) =
      let x = one_said p r t ts first standing stay before apart.0 one in
      let stands : AreStanding r.next r.rows = stays sets saved p r t checked.0 standing (told_takes name sets saved p r t first one) in
      let stay_behind : KeepsDeletions r.rows = λ n l has sent. stay n l (x.said.frame.sent n l has sent) sent in
      subst (λ (m : List Move). Said name foreign p q m) (sym is)
      (said_both name foreign p r q first later x.said (all_said ts r q later checked.1 apart.1 stands stay_behind x.left rest))
