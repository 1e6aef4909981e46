-- What is said where a version of the server's meets a row.
use Rattle.std.proofs.Common.{◌≡◌, ◌≢◌, ℕ, Bool, false, List, [], ◌∷◌, Option, Some, None, refl, sym, ap, ◌∙◌, subst}
use Rattle.std.specs.List.{list_any}
use Rattle.std.specs.Option.{option_to_list}
use Rattle.std.specs.Prelude.{if◌then◌else◌, is_some}
use Rattle.std.specs.Str.{bytes_eq}
use Rattle.sn_device.specs.States.{Columns, HasItem}
use Rattle.sn_device.specs.Taking.{Progress, TakesBody, TakesVersion}
use Rattle.sn_conflict.specs.Meetings.{HasContent, HasContentOf, MeetsClean, MeetsDeletion, MeetsOwn, MeetsPosted}
use Rattle.sn_laws.proofs.Facts.{one_there, text_same}
use Rattle.sn_laws.specs.Lookups.{Bytes}
use Rattle.sn_laws.specs.declared.moves.Move.{Move}
use Rattle.sn_laws.specs.declared.moves.Move.TheVariants.{Drop, Fork, GiveWay, Rename, Settle, SettlePosted}
use Rattle.sn_rows.specs.declared.body.RowBody.{RowBody}
use Rattle.sn_rows.specs.declared.body.RowBody.TheVariants as row
use Rattle.sn_rows.specs.declared.body.RowStrings.{RowStrings}
use Rattle.sn_rows.specs.declared.device_rows.LocalItem.{LocalItem}
use Rattle.sn_sets.specs.declared.sets.Sets.{Sets}
use Rattle.sn_sync.specs.Laws.{HasOneStamp}
use Rattle.sn_sync.specs.Stamps.{IsStampText}
use Rattle.sn_sync.specs.Versions.{NamesStamp}
use Rattle.sn_sync.specs.declared.item.Body.{Body}
use Rattle.sn_sync.specs.declared.item.Body.TheVariants as body
use Rattle.sn_sync.specs.declared.item.Item.{Item}
use Rattle.sn_moves.specs.Drafts.{draft_move, ended, ended_with_row, item_move, row_move, settled_at, stayed}
use Rattle.sn_moves.specs.Laws.{KeepsDeletions}
use Rattle.sn_moves.proofs.Turns.{Frame, Said, Turns, found_at, frame_turn, gone_turns, puts_turns, said_turn}

-- ---- the row that takes a version

-- on a deletion no row stands; on another version one of its uuid, with the draft that is left to it
abbrev pub TookAs : Item → Body → Option RowBody → Option RowBody → Option LocalItem → Type 0
TookAs i body.Deleted latest posted now = now ≡ None
TookAs i (body.Strings content enc) latest posted now = (l : LocalItem) × (now ≡ Some l) × (l.uuid ≡ i.uuid) × (l.latest ≡ latest) × (l.posted ≡ posted)
    × ((stamp : ℕ) × NamesStamp i stamp × (l.base ≡ Some stamp))

pub takes_turns : (sets : Sets) (p q : Progress) (n : ℕ) (i : Item) (b : Body) (latest posted : Option RowBody) → TakesBody sets p n i b latest posted q
    → (now : Option LocalItem) × Turns p q n now × TookAs i b latest posted now
takes_turns sets p q n i body.Deleted latest posted (change, gone, so) =
    (None, gone_turns p q n change gone (ap (λ (x : Progress). x.rows) so) (ap (λ (x : Progress). x.changes) so), refl)
takes_turns sets p q n i (body.Strings content enc) latest posted (c, left, change, on, puts, so) = (
  Some puts.local,
  puts_turns p q n change c puts (ap (λ (x : Progress). x.rows) so) (ap (λ (x : Progress). x.changes) so),
  (
    puts.local,
    refl,
    ap (λ (k : Columns). k.uuid) puts.columns_are ∙ on.uuid_is,
    ap (λ (k : Columns). k.latest) puts.columns_are ∙ on.latest_is,
    ap (λ (k : Columns). k.posted) puts.columns_are ∙ on.posted_is,
    (on.stamp, on.stamped, ap (λ (k : Columns). k.base) puts.columns_are ∙ on.base_is),
  ),
)

-- what was sent is answered then, and the draft is the one that is left
took_latest : (i : Item) (b : Body) (latest posted : Option RowBody) (now : Option LocalItem) → TookAs i b latest posted now → (l : LocalItem) → now ≡ Some l
    → (l.latest ≡ latest) × (l.posted ≡ posted) × (l.uuid ≡ i.uuid)
took_latest i body.Deleted latest posted now none l is = absurd (cc)
took_latest i (body.Strings content enc) latest posted now (m, there, uuid, drafted, sent, stamped) l is =
    let same : m ≡ l = one_there m l now there is in (
      subst (λ (x : LocalItem). x.latest ≡ latest) same drafted,
      subst (λ (x : LocalItem). x.posted ≡ posted) same sent,
      subst (λ (x : LocalItem). x.uuid ≡ i.uuid) same uuid,
    )

pub some_apart : (x : RowBody) (found : Option RowBody) → found ≡ None → found ≢ Some x
some_apart x found none some = absurd (cc)

pub frame_clean : (p q : Progress) (n : ℕ) (i : Item) (b : Body) (now : Option LocalItem) → TookAs i b None None now → Turns p q n now → Frame p q
frame_clean p q n i b now took t =
    frame_turn p q n now t
    (λ l is deleted. absurd (some_apart row.Deleted l.latest (took_latest i b None None now took l is).0 deleted))
    (λ l is sent. some_apart row.Deleted l.posted (took_latest i b None None now took l is).1 sent)

-- ---- the draft that ends there

abbrev pub end_move : Bytes → List Bytes → Option Bytes → LocalItem → RowBody → Body → Move
end_move name foreign copy local latest body.Deleted = ended_with_row name foreign local.uuid copy
end_move name foreign copy local latest (body.Strings content enc) = ended name local.uuid copy latest

pub ends : (name : Bytes) (foreign : List Bytes) (copy : Option Bytes) (local : LocalItem) (latest : RowBody) (i : Item) (b : Body) (now : Option LocalItem)
    → TookAs i b None None now → draft_move name foreign copy local latest now ≡ Some (end_move name foreign copy local latest b)
ends name foreign copy local latest i body.Deleted now none = ap (draft_move name foreign copy local latest) none
ends name foreign copy local latest i (body.Strings content enc) now (l, is, uuid, clean, sent, stamped) =
    ap (draft_move name foreign copy local latest) is
    ∙ ap (λ (o : Option RowBody). if is_some o then stayed name local l else Some (ended name local.uuid copy latest)) clean

pub drafted_move : (name : Bytes) (foreign : List Bytes) (copy : Option Bytes) (local : LocalItem) (latest : RowBody) (now : Option LocalItem) → local.latest ≡ Some latest
    → item_move name foreign copy (Some local) now ≡ draft_move name foreign copy local latest now
drafted_move name foreign copy local latest now is = ap (λ (o : Option RowBody). row_move name foreign copy local o now) is

own_ends : (name : Bytes) (foreign : List Bytes) (sets : Sets) (local : LocalItem) (latest : RowBody) (i : Item) (b : Body) → HasContentOf sets local latest i b
    → (latest ≡ row.Deleted → list_any (bytes_eq local.uuid) foreign ≡ false) → end_move name foreign None local latest b ≡ Settle name local.uuid
own_ends name foreign sets local row.Deleted i body.Deleted same spared =
    ap (λ (has : Bool). if has then Drop name local.uuid else Settle name local.uuid) (spared refl)
own_ends name foreign sets local row.Deleted i (body.Strings content enc) same spared = absurd same
own_ends name foreign sets local (row.Sealed strings) i body.Deleted same spared = absurd same
own_ends name foreign sets local (row.Sealed strings) i (body.Strings content enc) same spared = refl

gives_way : (name : Bytes) (foreign : List Bytes) (sets : Sets) (local : LocalItem) (i : Item) (b : Body) → ¬ (HasContentOf sets local row.Deleted i b)
    → end_move name foreign None local row.Deleted b ≡ GiveWay name local.uuid
gives_way name foreign sets local i body.Deleted differs = absurd (differs tt)
gives_way name foreign sets local i (body.Strings content enc) differs = refl

pub forks : (name : Bytes) (foreign : List Bytes) (copy : Bytes) (local : LocalItem) (strings : RowStrings) (b : Body)
    → end_move name foreign (Some copy) local (row.Sealed strings) b ≡ Fork name local.uuid copy
forks name foreign copy local strings body.Deleted = refl
forks name foreign copy local strings (body.Strings content enc) = refl

-- ---- a meeting

module _ (one_stamp : HasOneStamp) (name : Bytes) (foreign : List Bytes) (sets : Sets) (p q : Progress) (number : ℕ) (local : LocalItem) (i : Item)
    (stands : HasItem p.rows i.uuid number local) where
  takes_said : TakesVersion sets p number i None None q → (m : Option Move)
      → ((now : Option LocalItem) → TookAs i i.body None None now → item_move name foreign None (Some local) now ≡ m) → Said name foreign p q (option_to_list m)
  takes_said takes m says =
      let x = takes_turns sets p q number i i.body None None takes in
      said_turn name foreign p q number (Some local) x.0 m x.1 (found_at p.rows x.1.change number local x.1.named stands.0) (says x.0 x.2) refl
      (frame_clean p q number i i.body x.0 x.2 x.1)

  -- the moves are said of the row's uuid, which is the version's
  of_uuid : (f : Bytes → Move) (moves : List Move) → Said name foreign p q (f local.uuid ∷ []) → moves ≡ f i.uuid ∷ [] → Said name foreign p q moves
  of_uuid f moves said is =
      subst (λ (m : List Move). Said name foreign p q m) (ap (λ (u : Bytes). f u ∷ []) stands.1 ∙ sym is) said

  pub take_said : (flag : Bool) → MeetsClean local i flag → TakesVersion sets p number i None None q → Said name foreign p q []
  take_said flag met takes =
      takes_said takes None (λ now took. ap (λ (o : Option RowBody). row_move name foreign None local o now) met.clean)

  pub own_said : (flag : Bool) (moves : List Move) → MeetsOwn sets local i flag → (local.latest ≡ Some row.Deleted → list_any (bytes_eq local.uuid) foreign ≡ false)
      → TakesVersion sets p number i None None q → moves ≡ Settle name i.uuid ∷ [] → Said name foreign p q moves
  own_said flag moves met spared takes =
      of_uuid (Settle name) moves
      (takes_said takes (Some (Settle name local.uuid))
      (λ now took. drafted_move name foreign None local met.latest now met.meets.drafted
      ∙ ends name foreign None local met.latest i i.body now took
      ∙ ap Some (own_ends name foreign sets local met.latest i i.body met.same (λ deleted. spared (met.meets.drafted ∙ ap Some deleted)))))

  pub gives_way_said : (flag : Bool) (moves : List Move) → MeetsDeletion sets local i flag → TakesVersion sets p number i None None q
      → moves ≡ GiveWay name i.uuid ∷ [] → Said name foreign p q moves
  gives_way_said flag moves met takes =
      of_uuid (GiveWay name) moves
      (takes_said takes (Some (GiveWay name local.uuid))
      (λ now took. drafted_move name foreign None local row.Deleted now met.meets.drafted
      ∙ ends name foreign None local row.Deleted i i.body now took
      ∙ ap Some (gives_way name foreign sets local i i.body met.differs)))

  -- ---- what was sent

  -- the stamp that the row stands on is the one that is said
  stays_said : (latest : RowBody) (l : LocalItem) (stamp : ℕ) → local.latest ≡ Some latest → l.uuid ≡ i.uuid → l.latest ≡ local.latest → l.base ≡ Some stamp
      → item_move name foreign None (Some local) (Some l) ≡ Some (SettlePosted name i.uuid stamp)
  stays_said latest l stamp drafted uuid still base =
      drafted_move name foreign None local latest (Some l) drafted
      ∙ ap (λ (o : Option RowBody). if is_some o then stayed name local l else Some (ended name local.uuid None latest)) (still ∙ drafted)
      ∙ ap (λ (same : Bool). if same then settled_at name l.uuid l.base else Some (Rename name local.uuid l.uuid)) (text_same local.uuid l.uuid (stands.1 ∙ sym uuid))
      ∙ ap (settled_at name l.uuid) base
      ∙ ap (λ (u : Bytes). Some (SettlePosted name u stamp)) uuid

  pub posted_body : (flag : Bool) (stamp : ℕ) (b : Body) → i.body ≡ b → MeetsPosted sets local i flag → KeepsDeletions p.rows → NamesStamp i stamp
      → TakesBody sets p number i b local.latest None q → Said name foreign p q (SettlePosted name i.uuid stamp ∷ [])
  posted_body flag stamp body.Deleted is met stay named takes =
      absurd (met.differs (subst (λ (x : RowBody). HasContent sets local x i) (sym deleted) (subst (λ (b : Body). HasContentOf sets local row.Deleted i b) (sym is) tt)))
    where
      sent_deleted : (x : RowBody) → HasContentOf sets local x i body.Deleted → x ≡ row.Deleted
      sent_deleted row.Deleted same = refl
      sent_deleted (row.Sealed strings) same = absurd same

      deleted : met.latest ≡ row.Deleted
      deleted =
          let same : HasContentOf sets local met.same.0 i body.Deleted = subst (λ (b : Body). HasContentOf sets local met.same.0 i b) is met.same.2 in
          let sent : local.posted ≡ Some row.Deleted = met.same.1 ∙ ap Some (sent_deleted met.same.0 same) in
          one_there met.latest row.Deleted local.latest met.meets.drafted (stay number local stands.0 sent)
  posted_body flag stamp (body.Strings content enc) is met stay named takes =
      let x = takes_turns sets p q number i (body.Strings content enc) local.latest None takes in
      let l : LocalItem = x.2.0 in
      let on : ℕ = x.2.5.0 in
      let text : x.2.5.1.0 ≡ named.0 = one_there x.2.5.1.0 named.0 i.updated_at x.2.5.1.2 named.2 in
      let same : on ≡ stamp = one_stamp named.0 on stamp (subst (λ (t : Bytes). IsStampText t on) text x.2.5.1.1) named.1 in
      let says : item_move name foreign None (Some local) (Some l) ≡ Some (SettlePosted name i.uuid stamp) =
      stays_said met.latest l on met.meets.drafted x.2.2 x.2.3 x.2.5.2 ∙ ap (λ (n : ℕ). Some (SettlePosted name i.uuid n)) same in
      said_turn name foreign p q number (Some local) x.0 (Some (SettlePosted name i.uuid stamp)) x.1 (found_at p.rows x.1.change number local x.1.named stands.0)
      (ap (item_move name foreign None (Some local)) x.2.1 ∙ says) refl
      (frame_turn p q number x.0 x.1
      (λ k is deleted.
      let now = took_latest i (body.Strings content enc) local.latest None x.0 x.2 k is in
      (local, stands.0, sym now.0 ∙ deleted, stands.1 ∙ sym now.2))
      (λ k is. some_apart row.Deleted k.posted (took_latest i (body.Strings content enc) local.latest None x.0 x.2 k is).1))
