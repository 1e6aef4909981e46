-- What is said where a draft gets a row of its own or another uuid, or an item a new row.
use Rattle.std.proofs.Common.{◌≡◌, ◌<◌, ℕ, Bool, true, false, List, [], ◌∷◌, ◌++◌, Option, Some, None, refl, ap, ◌∙◌, subst, inl, inr, append_assoc, arith}
use Rattle.std.specs.List.{list_any}
use Rattle.std.specs.Option.{option_to_list}
use Rattle.std.specs.Prelude.{if◌then◌else◌, is_some}
use Rattle.std.specs.Str.{bytes_eq}
use Rattle.sn_device.specs.Laws.{AreStanding}
use Rattle.sn_device.specs.States.{Columns, HasItem, HasLocal}
use Rattle.sn_device.specs.Taking.{Copies, MakesRow, Progress, Renames, TakesVersion}
use Rattle.sn_conflict.specs.Meetings.{MeetsText}
use Rattle.sn_laws.proofs.Facts.{is_false, one_there, same_text}
use Rattle.sn_laws.specs.Lookups.{Bytes}
use Rattle.sn_laws.specs.declared.moves.Move.{Move}
use Rattle.sn_laws.specs.declared.moves.Move.TheVariants.{Drop, Fork, Rename, Settle}
use Rattle.sn_rows.specs.declared.body.RowBody.{RowBody}
use Rattle.sn_rows.specs.declared.body.RowBody.TheVariants as row
use Rattle.sn_rows.specs.declared.change.Change.{Change}
use Rattle.sn_rows.specs.declared.device_rows.LocalItem.{LocalItem}
use Rattle.sn_sets.specs.declared.sets.Sets.{Sets}
use Rattle.sn_sync.specs.declared.item.Body.{Body}
use Rattle.sn_sync.specs.declared.item.Body.TheVariants as body
use Rattle.sn_sync.specs.declared.item.Item.{Item}
use Rattle.sn_world.specs.Applying.{renaming}
use Rattle.sn_moves.specs.Drafts.{answered, copy_made, ended, item_move, settled_at, stayed}
use Rattle.sn_moves.proofs.Meets.{TookAs, drafted_move, ends, forks, frame_clean, some_apart, takes_turns}
use Rattle.sn_moves.proofs.Turns.{Frame, Said, Turns, found_at, found_new, frame_both, frame_turn, gone_turns, puts_turns, said_none, said_turn, turn_elsewhere, turn_here, turn_said}

-- ---- a new row

-- no row stands under the next number
no_next : (p : Progress) → AreStanding p.next p.rows → (l : LocalItem) → ¬ (HasLocal p.rows p.next l)
no_next p standing l has = let below : p.next < p.next = standing.numbered p.next l has in absurd (omega (arith, below))

-- one without a draft says nothing
pub makes_said : (name : Bytes) (foreign : List Bytes) (sets : Sets) (p q : Progress) (i : Item) (b : Body) → AreStanding p.next p.rows → MakesRow sets p i b q
    → Said name foreign p q []
makes_said name foreign sets p q i body.Deleted standing same = said_none name foreign p q same
makes_said name foreign sets p q i (body.Strings content enc) standing (room, c, left, change, on, puts, so) =
    let t : Turns p q p.next (Some puts.local) =
    puts_turns p q p.next change c puts (ap (λ (x : Progress). x.rows) so) (ap (λ (x : Progress). x.changes) so) in
    let clean : puts.local.latest ≡ None = ap (λ (k : Columns). k.latest) puts.columns_are ∙ on.latest_is in
    let unsent : puts.local.posted ≡ None = ap (λ (k : Columns). k.posted) puts.columns_are ∙ on.posted_is in
    said_turn name foreign p q p.next None (Some puts.local) None t (found_new p.rows t.change p.next t.named (no_next p standing)) refl
    (ap (λ (o : Option RowBody). if is_some o then Some puts.local.uuid else None) clean)
    (frame_turn p q p.next (Some puts.local) t
    (λ l is deleted.
    let same : puts.local ≡ l = one_there puts.local l (Some puts.local) refl is in
    absurd (some_apart row.Deleted l.latest (subst (λ (x : LocalItem). x.latest ≡ None) same clean) deleted))
    (λ l is sent.
    let same : puts.local ≡ l = one_there puts.local l (Some puts.local) refl is in
    some_apart row.Deleted l.posted (subst (λ (x : LocalItem). x.posted ≡ None) same unsent) sent))

-- ---- a draft that forks

module _ (name : Bytes) (foreign : List Bytes) (sets : Sets) (p r q : Progress) (number : ℕ) (local : LocalItem) (i : Item) (flag : Bool)
    (standing : AreStanding p.next p.rows) (stands : HasItem p.rows i.uuid number local) (met : MeetsText sets local i flag) (copies : Copies sets p local r)
    (takes : TakesVersion sets r number i None None q) where
  abbrev copy : LocalItem
  copy = copies.puts.local

  abbrev first : Turns p r p.next (Some copy)
  first =
      puts_turns p r p.next copies.change _ copies.puts (ap (λ (x : Progress). x.rows) copies.gives) (ap (λ (x : Progress). x.changes) copies.gives)

  abbrev second : (now : Option LocalItem) × Turns r q number now × TookAs i i.body None None now
  second = takes_turns sets r q number i i.body None None takes

  copy_uuid : copy.uuid ≡ copies.uuid
  copy_uuid = ap (λ (k : Columns). k.uuid) copies.puts.columns_are

  copy_latest : copy.latest ≡ Some (row.Sealed copies.copy)
  copy_latest = ap (λ (k : Columns). k.latest) copies.puts.columns_are

  copy_posted : copy.posted ≡ None
  copy_posted = ap (λ (k : Columns). k.posted) copies.puts.columns_are

  is_copy : copy_made None (Some copy) ≡ Some copies.uuid
  is_copy = ap (λ (o : Option RowBody). if is_some o then Some copy.uuid else None) copy_latest ∙ ap Some copy_uuid

  still : HasLocal r.rows number local
  still =
      turn_elsewhere p r p.next (Some copy) first number
      (λ same. let at : p.next ≡ number = cc in let below : number < p.next = standing.numbered number local stands.0 in absurd (omega (arith, at, below)))
      ∙ stands.0

  fork_move : item_move name foreign (Some copies.uuid) (Some local) second.0 ≡ Some (Fork name i.uuid copies.uuid)
  fork_move =
      drafted_move name foreign (Some copies.uuid) local (row.Sealed met.strings) second.0 met.other.meets.drafted
      ∙ ends name foreign (Some copies.uuid) local (row.Sealed met.strings) i i.body second.0 second.2
      ∙ ap Some (forks name foreign copies.uuid local met.strings i.body)
      ∙ ap (λ (u : Bytes). Some (Fork name u copies.uuid)) stands.1

  first_frame : Frame p r
  first_frame =
      frame_turn p r p.next (Some copy) first
      (λ l is deleted.
      let same : copy ≡ l = one_there copy l (Some copy) refl is in
      let sealed : l.latest ≡ Some (row.Sealed copies.copy) = subst (λ (x : LocalItem). x.latest ≡ Some (row.Sealed copies.copy)) same copy_latest in
      absurd (cc))
      (λ l is sent.
      let same : copy ≡ l = one_there copy l (Some copy) refl is in
      some_apart row.Deleted l.posted (subst (λ (x : LocalItem). x.posted ≡ None) same copy_posted) sent)

  fork_says : (later : List Change) → answered name foreign None p.rows ((first.change ∷ second.1.change ∷ []) ++ later)
      ≡ (Fork name i.uuid copies.uuid ∷ []) ++ answered name foreign None q.rows later
  fork_says later =
      turn_said name foreign None p r p.next None (Some copy) first (found_new p.rows first.change p.next first.named (no_next p standing)) (second.1.change ∷ later)
      ∙ ap (λ (u : Option Bytes). answered name foreign u r.rows (second.1.change ∷ later)) is_copy
      ∙ turn_said name foreign (Some copies.uuid) r q number (Some local) second.0 second.1 (found_at r.rows second.1.change number local second.1.named still) later
      ∙ ap (λ (m : Option Move). option_to_list m ++ answered name foreign None q.rows later) fork_move

  pub fork_said : Said name foreign p q (Fork name i.uuid copies.uuid ∷ [])
  fork_said = record {
    made = first.change ∷ second.1.change ∷ [];
    changes_are = second.1.changes_are
        ∙ ap (λ (c : List Change). c ++ second.1.change ∷ []) first.changes_are
        ∙ append_assoc p.changes (first.change ∷ []) (second.1.change ∷ []);
    says = fork_says;
    frame = frame_both p r q first_frame (frame_clean r q number i i.body second.0 second.2 second.1);
  }

-- ---- another account has the uuid

module _ (name : Bytes) (foreign : List Bytes) (sets : Sets) (p q : Progress) (number : ℕ) (local : LocalItem) (stands : HasLocal p.rows number local)
    (has : list_any (bytes_eq local.uuid) foreign ≡ true) where
  pub renamed_said : (latest : Option RowBody) → local.latest ≡ latest → (how : Renames sets p number local latest q)
      → Said name foreign p q (renaming name sets p number local latest q how)
  renamed_said None is same = said_none name foreign p q same
  renamed_said (Some row.Deleted) is (change, gone, so) =
      let t : Turns p q number None = gone_turns p q number change gone (ap (λ (x : Progress). x.rows) so) (ap (λ (x : Progress). x.changes) so) in
      said_turn name foreign p q number (Some local) None (Some (Drop name local.uuid)) t (found_at p.rows t.change number local t.named stands)
      (drafted_move name foreign None local row.Deleted None is ∙ ap (λ (b : Bool). Some (if b then Drop name local.uuid else Settle name local.uuid)) has)
      refl (frame_turn p q number None t (λ l none deleted. absurd (cc)) (λ l none sent. cc))
  renamed_said (Some (row.Sealed strings)) is (inl (closed, same)) = said_none name foreign p q same
  renamed_said (Some (row.Sealed strings)) is (inr (text, uuid, rest, again, left, change, opens, fresh, seals, puts, so)) =
      let t : Turns p q number (Some puts.local) = puts_turns p q number change _ puts (ap (λ (x : Progress). x.rows) so) (ap (λ (x : Progress). x.changes) so) in
      let named : puts.local.uuid ≡ uuid = ap (λ (k : Columns). k.uuid) puts.columns_are in
      let drafted : puts.local.latest ≡ Some (row.Sealed again) = ap (λ (k : Columns). k.latest) puts.columns_are in
      let unsent : puts.local.posted ≡ None = ap (λ (k : Columns). k.posted) puts.columns_are in
      let apart : bytes_eq local.uuid puts.local.uuid ≡ false =
      is_false (bytes_eq local.uuid puts.local.uuid) (λ same. fresh.fresh number local (stands, same_text local.uuid puts.local.uuid same ∙ named)) in
      said_turn name foreign p q number (Some local) (Some puts.local) (Some (Rename name local.uuid uuid)) t
      (found_at p.rows t.change number local t.named stands)
      (drafted_move name foreign None local (row.Sealed strings) (Some puts.local) is
      ∙ ap (λ (o : Option RowBody). if is_some o then stayed name local puts.local else Some (ended name local.uuid None (row.Sealed strings))) drafted
      ∙ ap (λ (b : Bool). if b then settled_at name puts.local.uuid puts.local.base else Some (Rename name local.uuid puts.local.uuid)) apart
      ∙ ap (λ (u : Bytes). Some (Rename name local.uuid u)) named) refl
      (frame_turn p q number (Some puts.local) t
      (λ l there deleted.
      let same : puts.local ≡ l = one_there puts.local l (Some puts.local) refl there in
      let sealed : l.latest ≡ Some (row.Sealed again) = subst (λ (x : LocalItem). x.latest ≡ Some (row.Sealed again)) same drafted in
      absurd (cc))
      (λ l there sent.
      let same : puts.local ≡ l = one_there puts.local l (Some puts.local) refl there in
      some_apart row.Deleted l.posted (subst (λ (x : LocalItem). x.posted ≡ None) same unsent) sent))

  -- no deletion is left of it
  pub renamed_gone : (latest : Option RowBody) → local.latest ≡ latest → Renames sets p number local latest q → local.latest ≡ Some row.Deleted
      → (l : LocalItem) → ¬ (HasLocal q.rows number l)
  renamed_gone None is same deleted l there = absurd (cc)
  renamed_gone (Some row.Deleted) is (change, gone, so) deleted l there =
      let t : Turns p q number None = gone_turns p q number change gone (ap (λ (x : Progress). x.rows) so) (ap (λ (x : Progress). x.changes) so) in
      let some : None ≡ Some l = turn_here p q number None t l there in
      cc
  renamed_gone (Some (row.Sealed strings)) is how deleted l there = absurd (cc)
