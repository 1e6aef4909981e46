-- What one change of an item's row says, and what it leaves of the rows.
use Rattle.std.proofs.Common.{◌≡◌, ◌≢◌, ◌⊎◌, ℕ, Bool, true, false, List, [], ◌∷◌, ◌++◌, Option, Some, None, refl, sym, ap, ◌∙◌, subst, inl, inr, ⊎_elim, append_assoc}
use Rattle.std.proofs.lemmas.Bool.{cases_Bool}
use Rattle.std.proofs.lemmas.List.{append-nil}
use Rattle.std.specs.Option.{option_to_list}
use Rattle.std.specs.Prelude.{if◌then◌else◌}
use Rattle.sn_device.specs.Sending.{PutsColumns}
use Rattle.sn_device.specs.States.{Columns, HasLocal}
use Rattle.sn_device.specs.Taking.{Progress}
use Rattle.sn_laws.specs.Lookups.{Bytes}
use Rattle.sn_laws.specs.declared.moves.Move.{Move}
use Rattle.sn_rows.specs.Facts.{apart_keys, keys_compare}
use Rattle.sn_rows.specs.Table.{Removes, Rows, key_of, rows_after, same_key, value_of}
use Rattle.sn_rows.specs.declared.body.RowBody.TheVariants as row
use Rattle.sn_rows.specs.declared.change.Change.{Change}
use Rattle.sn_rows.specs.declared.device_rows.LocalItem.{LocalItem}
use Rattle.sn_rows.specs.declared.key.Key.{Key}
use Rattle.sn_rows.specs.declared.key.Key.TheVariants as key
use Rattle.sn_rows.specs.declared.value.Value.{Value}
use Rattle.sn_rows.specs.declared.value.Value.TheVariants as value
use Rattle.sn_moves.specs.Drafts.{answered, copy_made, item_at, item_found, item_left, item_move}

-- ---- what a change finds

none_at : (n : ℕ) (found : Option Value) → ((local : LocalItem) → found ≢ Some (value.Local local)) → item_at (key.Local n) found ≡ None
none_at n None nobody = refl
none_at n (Some (value.Local local)) nobody = absurd (nobody local refl)
none_at n (Some v) nobody = refl

pub found_at : (rows : Rows) (c : Change) (n : ℕ) (local : LocalItem) → key_of c ≡ key.Local n → HasLocal rows n local → item_found rows c ≡ Some local
found_at rows c n local named has = ap (λ (k : Key). item_at k (rows k)) named ∙ ap (item_at (key.Local n)) has

pub found_new : (rows : Rows) (c : Change) (n : ℕ) → key_of c ≡ key.Local n → ((local : LocalItem) → ¬ (HasLocal rows n local)) → item_found rows c ≡ None
found_new rows c n named nobody = ap (λ (k : Key). item_at k (rows k)) named ∙ none_at n (rows (key.Local n)) nobody

-- ---- one change of the row of this number, which leaves this of it

pub record Turns (p q : Progress) (n : ℕ) (now : Option LocalItem) : Type 0 where
  pub change : Change
  pub named : key_of change ≡ key.Local n
  pub left : item_left change ≡ now
  pub rows_are : q.rows ≡ rows_after p.rows (change ∷ [])
  pub changes_are : q.changes ≡ p.changes ++ change ∷ []

pub puts_turns : (p q : Progress) (n : ℕ) (c : Change) (cs : Columns) → (puts : PutsColumns c n cs) → q.rows ≡ rows_after p.rows (c ∷ [])
    → q.changes ≡ p.changes ++ c ∷ [] → Turns p q n (Some puts.local)
puts_turns p q n c cs puts rows_are changes_are = record {
  change = c;
  named = puts.puts.key_is;
  left = ap (λ (k : Key). item_at k (value_of c)) puts.puts.key_is ∙ ap (item_at (key.Local n)) puts.puts.value_is;
  rows_are = rows_are;
  changes_are = changes_are;
}

pub gone_turns : (p q : Progress) (n : ℕ) (c : Change) → Removes c (key.Local n) → q.rows ≡ rows_after p.rows (c ∷ []) → q.changes ≡ p.changes ++ c ∷ []
    → Turns p q n None
gone_turns p q n c gone rows_are changes_are = record {
  change = c;
  named = gone.key_is;
  left = ap (λ (k : Key). item_at k (value_of c)) gone.key_is ∙ ap (item_at (key.Local n)) gone.value_is;
  rows_are = rows_are;
  changes_are = changes_are;
}

-- ---- the rows behind it

-- what stands under its number is what it leaves
pub turn_here : (p q : Progress) (n : ℕ) (now : Option LocalItem) (t : Turns p q n now) (l : LocalItem) → HasLocal q.rows n l → now ≡ Some l
turn_here p q n now t l has =
    let same : same_key (key_of t.change) (key.Local n) ≡ true = (keys_compare (key_of t.change) (key.Local n)).1 t.named in
    let here : q.rows (key.Local n) ≡ value_of t.change =
    ap (λ (r : Rows). r (key.Local n)) t.rows_are ∙ ap (λ (b : Bool). if b then value_of t.change else p.rows (key.Local n)) same in
    sym t.left ∙ ap (λ (k : Key). item_at k (value_of t.change)) t.named ∙ ap (item_at (key.Local n)) (sym here ∙ has)

-- and all else stands as it was
pub turn_elsewhere : (p q : Progress) (n : ℕ) (now : Option LocalItem) (t : Turns p q n now) (k : ℕ) → key.Local n ≢ key.Local k
    → q.rows (key.Local k) ≡ p.rows (key.Local k)
turn_elsewhere p q n now t k apart =
    let off : same_key (key_of t.change) (key.Local k) ≡ false = apart_keys (key_of t.change) (key.Local k) (λ same. apart (sym t.named ∙ same)) in
    ap (λ (r : Rows). r (key.Local k)) t.rows_are ∙ ap (λ (b : Bool). if b then value_of t.change else p.rows (key.Local k)) off

pub turn_rows : (p q : Progress) (n : ℕ) (now : Option LocalItem) (t : Turns p q n now) (k : ℕ) (l : LocalItem) → HasLocal q.rows k l
    → ((n ≡ k) × (now ≡ Some l)) ⊎ HasLocal p.rows k l
turn_rows p q n now t k l has =
    ⊎_elim
    (λ (same : same_key (key.Local n) (key.Local k) ≡ true).
    let keys : key.Local n ≡ key.Local k = (keys_compare (key.Local n) (key.Local k)).0 same in
    let numbers : n ≡ k = cc in
    inl (numbers, turn_here p q n now t l (subst (λ (at : Key). q.rows at ≡ Some (value.Local l)) (sym keys) has)))
    (λ (off : same_key (key.Local n) (key.Local k) ≡ false).
    inr (sym (turn_elsewhere p q n now t k (λ same. let on : same_key (key.Local n) (key.Local k) ≡ true = (keys_compare (key.Local n) (key.Local k)).1 same in absurd (cc)))
    ∙ has))
    (cases_Bool (same_key (key.Local n) (key.Local k)))

-- ---- what it says

pub turn_said : (name : Bytes) (foreign : List Bytes) (copy : Option Bytes) (p q : Progress) (n : ℕ) (was now : Option LocalItem) (t : Turns p q n now)
    → item_found p.rows t.change ≡ was → (later : List Change)
    → answered name foreign copy p.rows (t.change ∷ later)
    ≡ option_to_list (item_move name foreign copy was now) ++ answered name foreign (copy_made was now) q.rows later
turn_said name foreign copy p q n was now t found later =
    let after : Rows = rows_after p.rows (t.change ∷ []) in
    ap
    (λ (f : Option LocalItem). option_to_list (item_move name foreign copy f (item_left t.change))
    ++ answered name foreign (copy_made f (item_left t.change)) after later) found
    ∙ ap (λ (l : Option LocalItem). option_to_list (item_move name foreign copy was l) ++ answered name foreign (copy_made was l) after later) t.left
    ∙ ap (λ (r : Rows). option_to_list (item_move name foreign copy was now) ++ answered name foreign (copy_made was now) r later) (sym t.rows_are)

-- ---- what changes make of rows with deletions

-- the row had a deletion as its draft, under this uuid
abbrev pub WasDeleted : Rows → ℕ → LocalItem → Type 0
WasDeleted rows n l = (m : LocalItem) × HasLocal rows n m × (m.latest ≡ Some row.Deleted) × (m.uuid ≡ l.uuid)

-- no row comes to have a deletion, or one that was sent
pub record Frame (p q : Progress) : Type 0 where
  pub deleted : (n : ℕ) (l : LocalItem) → HasLocal q.rows n l → l.latest ≡ Some row.Deleted → WasDeleted p.rows n l
  pub sent : (n : ℕ) (l : LocalItem) → HasLocal q.rows n l → l.posted ≡ Some row.Deleted → HasLocal p.rows n l

pub frame_none : (p : Progress) → Frame p p
frame_none p = record { deleted = λ n l has is. (l, has, is, refl); sent = λ n l has is. has }

pub frame_both : (p r q : Progress) → Frame p r → Frame r q → Frame p q
frame_both p r q f g = record {
  deleted = λ n l has is.
      let m = g.deleted n l has is in
      let before = f.deleted n m.0 m.1 m.2 in
      (before.0, before.1, before.2, before.3 ∙ m.3);
  sent = λ n l has is. f.sent n l (g.sent n l has is) is;
}

pub frame_turn : (p q : Progress) (n : ℕ) (now : Option LocalItem) → Turns p q n now
    → ((l : LocalItem) → now ≡ Some l → l.latest ≡ Some row.Deleted → WasDeleted p.rows n l) → ((l : LocalItem) → now ≡ Some l → l.posted ≢ Some row.Deleted)
    → Frame p q
frame_turn p q n now t deleted sent = record {
  deleted = λ k l has is.
      ⊎_elim (λ (here : (n ≡ k) × (now ≡ Some l)). subst (λ (at : ℕ). WasDeleted p.rows at l) here.0 (deleted l here.1 is)) (λ (there : HasLocal p.rows k l). (l, there, is, refl))
      (turn_rows p q n now t k l has);
  sent = λ k l has is.
      ⊎_elim (λ (here : (n ≡ k) × (now ≡ Some l)). absurd (sent l here.1 is)) (λ (there : HasLocal p.rows k l). there) (turn_rows p q n now t k l has);
}

-- ---- some changes, and the moves that they say

pub record Said (name : Bytes) (foreign : List Bytes) (p q : Progress) (moves : List Move) : Type 0 where
  pub made : List Change
  pub changes_are : q.changes ≡ p.changes ++ made
  pub says : (later : List Change) → answered name foreign None p.rows (made ++ later) ≡ moves ++ answered name foreign None q.rows later
  pub frame : Frame p q

pub said_none : (name : Bytes) (foreign : List Bytes) (p q : Progress) → q ≡ p → Said name foreign p q []
said_none name foreign p q same =
    subst (λ (x : Progress). Said name foreign p x []) (sym same)
    (record { made = []; changes_are = sym (append-nil p.changes); says = λ later. refl; frame = frame_none p })

pub said_both : (name : Bytes) (foreign : List Bytes) (p r q : Progress) (first later : List Move) → Said name foreign p r first → Said name foreign r q later
    → Said name foreign p q (first ++ later)
said_both name foreign p r q first later a b = record {
  made = a.made ++ b.made;
  changes_are = b.changes_are ∙ ap (λ (c : List Change). c ++ b.made) a.changes_are ∙ append_assoc p.changes a.made b.made;
  says = λ more.
      ap (answered name foreign None p.rows) (append_assoc a.made b.made more)
      ∙ a.says (b.made ++ more)
      ∙ ap (λ (m : List Move). first ++ m) (b.says more)
      ∙ sym (append_assoc first later (answered name foreign None q.rows more));
  frame = frame_both p r q a.frame b.frame;
}

pub said_turn : (name : Bytes) (foreign : List Bytes) (p q : Progress) (n : ℕ) (was now : Option LocalItem) (m : Option Move) → (t : Turns p q n now)
    → item_found p.rows t.change ≡ was → item_move name foreign None was now ≡ m → copy_made was now ≡ None → Frame p q
    → Said name foreign p q (option_to_list m)
said_turn name foreign p q n was now m t found is alone frame = record {
  made = t.change ∷ [];
  changes_are = t.changes_are;
  says = λ later.
      turn_said name foreign None p q n was now t found later
      ∙ ap (λ (x : Option Move). option_to_list x ++ answered name foreign (copy_made was now) q.rows later) is
      ∙ ap (λ (x : Option Bytes). option_to_list m ++ answered name foreign x q.rows later) alone;
  frame = frame;
}
