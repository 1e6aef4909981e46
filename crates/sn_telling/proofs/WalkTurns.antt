-- One more exchange of a call: what is said of those so far, and then of those that follow, is said of all.
use Rattle.std.proofs.Common.{◌≡◌, ◌++◌, List, [], ◌∷◌, Bool, Option, refl, sym, ap, ◌∙◌, subst, append_assoc, append-nil}
use Rattle.sn_laws.specs.Lookups.{Bytes}
use Rattle.sn_laws.specs.declared.moves.Move.{Move}
use Rattle.sn_recorder.specs.declared.exchanged.Exchanged.{Exchanged}
use Rattle.sn_rows.specs.Table.{Rows}
use Rattle.sn_rows.specs.declared.change.Change.{Change}
use Rattle.sn_string.specs.declared.params.KeySet.{KeySet}
use Rattle.sn_telling.specs.Turns.{SaysTurn}
use Rattle.sn_telling.specs.Walking.{IsReadAs, SaysBatches, SaysWalk, asks_sync, front, requests_in, rest, rows_behind_all}
use Rattle.sn_telling.specs.declared.calling.Calling.{Calling}
use Rattle.sn_telling.specs.declared.known.Known.{Known}

-- where a walk stands: the rows of both ends, whether the last act was a sync, the last answer, and the batches that are left
pub record Stands : Type 0 where
  pub server : Rows
  pub rows : Rows
  pub heard : Bool
  pub answer : Option Bytes
  pub left : List (List Change)

module _ (call : Calling) (name : Bytes) where
  -- of these exchanges, from there on
  abbrev pub SaysFrom : Stands → List Exchanged → List Move → List (Option KeySet) → Rows → Rows → Type 0
  SaysFrom at exchanged moves begun server_end rows_end =
      SaysWalk call name at.server at.rows at.heard at.answer at.left exchanged moves begun server_end rows_end

  -- what is said behind some exchanges is said of all
  abbrev pub WalksAll : Stands → List Exchanged → Stands → List Move → List (Option KeySet) → Type 0
  WalksAll start before at moves begun =
      (left : List Exchanged) (later : List Move) (further : List (Option KeySet)) (server_end rows_end : Rows) → SaysFrom at left later further server_end rows_end
      → SaysFrom start (before ++ left) (moves ++ later) (begun ++ further) server_end rows_end

  -- an exchange, and then those behind it
  turn_here : (at : Stands) (e : Exchanged) (others : List Exchanged) (found : Option Known) (said : List Move) (begins : Option KeySet)
      (server_now rows_now : Rows) (later : List Move) (further : List (Option KeySet)) (server_end rows_end : Rows) → IsReadAs e.request found
      → SaysTurn call at.server at.rows name at.answer (front at.heard (asks_sync found) at.left) found e.batches said begins server_now rows_now
      → SaysWalk call name server_now rows_now (asks_sync found) e.answer (rest at.heard (asks_sync found) at.left) others later further server_end rows_end
      → SaysFrom at (e ∷ others) (said ++ later) (begins ∷ further) server_end rows_end
  turn_here at e others found said begins server_now rows_now later further server_end rows_end read x says =
      let first : List (List Change) = front at.heard (asks_sync found) at.left in
      let behind : List (List Change) = rest at.heard (asks_sync found) at.left in
      let says_then : SaysWalk call name (rows_behind_all at.server e.batches) (rows_behind_all at.rows first) (asks_sync found) e.answer behind others later further
      server_end rows_end =
      subst (λ (s : Rows). SaysWalk call name s (rows_behind_all at.rows first) (asks_sync found) e.answer behind others later further server_end rows_end) x.server_is
      (subst (λ (r : Rows). SaysWalk call name server_now r (asks_sync found) e.answer behind others later further server_end rows_end) x.rows_are says) in (
        found,
        x.first,
        x.served,
        later,
        begins,
        further,
        read,
        x.first_says,
        x.would,
        x.served_says,
        says_then,
        refl,
        ap (λ (m : List Move). m ++ later) x.said_is ∙ append_assoc x.first x.served later,
      )

  module _ (start : Stands) (before : List Exchanged) (at : Stands) (moves : List Move) (begun : List (Option KeySet)) where
    pub walk_more : (e : Exchanged) (found : Option Known) (said : List Move) (begins : Option KeySet) (now : Stands)
        (new : List Move) (new_begun : List (Option KeySet)) → IsReadAs e.request found
        → SaysTurn call at.server at.rows name at.answer (front at.heard (asks_sync found) at.left) found e.batches said begins now.server now.rows
        → now.heard ≡ asks_sync found → now.answer ≡ e.answer → now.left ≡ rest at.heard (asks_sync found) at.left → new ≡ moves ++ said
        → new_begun ≡ begun ++ begins ∷ [] → WalksAll start before at moves begun → WalksAll start (before ++ e ∷ []) now new new_begun
    walk_more e found said begins now new new_begun read turn heard_is answer_is left_is new_is new_begun_is so_far left later further server_end rows_end
        says =
        let says_then : SaysWalk call name now.server now.rows (asks_sync found) e.answer (rest at.heard (asks_sync found) at.left) left later further server_end rows_end =
        subst (λ (b : Bool). SaysWalk call name now.server now.rows b e.answer (rest at.heard (asks_sync found) at.left) left later further server_end rows_end) heard_is
        (subst (λ (a : Option Bytes). SaysWalk call name now.server now.rows now.heard a (rest at.heard (asks_sync found) at.left) left later further server_end rows_end)
        answer_is
        (subst (λ (bs : List (List Change)). SaysWalk call name now.server now.rows now.heard now.answer bs left later further server_end rows_end) left_is says)) in
        let all : SaysFrom start (before ++ e ∷ left) (moves ++ (said ++ later)) (begun ++ begins ∷ further) server_end rows_end =
        so_far (e ∷ left) (said ++ later) (begins ∷ further) server_end rows_end
        (turn_here at e left found said begins now.server now.rows later further server_end rows_end read turn says_then) in
        subst (λ (es : List Exchanged). SaysFrom start es (new ++ later) (new_begun ++ further) server_end rows_end) (sym (append_assoc before (e ∷ []) left))
        (subst (λ (m : List Move). SaysFrom start (before ++ e ∷ left) m (new_begun ++ further) server_end rows_end)
        (sym (append_assoc moves said later) ∙ ap (λ (m : List Move). m ++ later) (sym new_is))
        (subst (λ (b : List (Option KeySet)). SaysFrom start (before ++ e ∷ left) (moves ++ (said ++ later)) b server_end rows_end)
        (sym (append_assoc begun (begins ∷ []) further) ∙ ap (λ (b : List (Option KeySet)). b ++ further) (sym new_begun_is)) all))

    pub walk_ends : (exchanged : List Exchanged) (said : List Move) (rows_end : Rows) (new : List Move) (new_begun : List (Option KeySet)) → before ≡ exchanged
        → SaysBatches call at.server at.rows name at.answer at.left said → rows_end ≡ rows_behind_all at.rows at.left → new ≡ moves ++ said → new_begun ≡ begun
        → WalksAll start before at moves begun → SaysFrom start exchanged new new_begun at.server rows_end
    walk_ends exchanged said rows_end new new_begun whole says rows_are new_is new_begun_is so_far =
        subst (λ (es : List Exchanged). SaysFrom start es new new_begun at.server rows_end) (append-nil before ∙ whole)
        (subst (λ (m : List Move). SaysFrom start (before ++ []) m new_begun at.server rows_end) (sym new_is)
        (subst (λ (b : List (Option KeySet)). SaysFrom start (before ++ []) (moves ++ said) b at.server rows_end) (append-nil begun ∙ sym new_begun_is)
        (so_far [] said [] at.server rows_end (says, refl, refl, rows_are))))

-- the requests of one more
pub requests_more : (before : List Exchanged) (e : Exchanged) → requests_in (before ++ e ∷ []) ≡ requests_in before ++ e.request ∷ []
requests_more [] e = refl
requests_more (first ∷ before) e = ap (λ (rs : List Bytes). first.request ∷ rs) (requests_more before e)
