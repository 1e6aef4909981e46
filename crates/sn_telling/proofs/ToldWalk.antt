-- A walk over batches and exchanges, taken apart at its next act.
use Rattle.std.proofs.Common.{◌≡◌, ◌++◌, List, [], ◌∷◌, Bool, true, false, Option, Some, refl, sym, ap, ◌∙◌, subst, append_assoc}
use Rattle.std.specs.Prelude.{if◌then◌else◌}
use Rattle.sn_device.specs.Runs.{Act, asked, commits as committed}
use Rattle.sn_device.specs.Steps.{What}
use Rattle.sn_laws.specs.Lookups.{Bytes}
use Rattle.sn_laws.specs.declared.moves.Move.{Move}
use Rattle.sn_link.specs.Laws.{AreReadable}
use Rattle.sn_order.specs.Kinds.{kind_by, kind_of}
use Rattle.sn_order.specs.Order.{IsAhead, IsBefore, comes_first, is_sync, next_kind, next_request}
use Rattle.sn_order.specs.declared.kind.Kind.{Kind}
use Rattle.sn_recorder.specs.Told.{AreTold}
use Rattle.sn_recorder.specs.declared.exchanged.Exchanged.{Exchanged}
use Rattle.sn_rows.specs.Table.{Rows, rows_after}
use Rattle.sn_rows.specs.declared.change.Change.{Change}
use Rattle.sn_string.specs.declared.params.KeySet.{KeySet}
use Rattle.sn_sync.specs.declared.request.Request.{Request}
use Rattle.sn_world.specs.Calls.{Fate}
use Rattle.sn_telling.specs.Walking.{IsBegunIn, IsReadAs, SaysBatch, SaysBatches, SaysGained, SaysWalk, asks_sync, front, known_of, rest, rows_behind_all}
use Rattle.sn_telling.specs.declared.calling.Calling.{Calling}
use Rattle.sn_telling.specs.declared.known.Known.{Known}
use Rattle.sn_telling.proofs.KnownLemmas.{asks_known}

-- each commit's changes are of the kind of what is done
abbrev pub AreOfKind : List Act → Type 0
AreOfKind [] = Unit {0}
AreOfKind (committed what changes ∷ acts) = (kind_of changes ≡ kind_by what) × AreOfKind acts
AreOfKind (asked r reply ∷ acts) = AreOfKind acts

-- a batch comes before the next exchange, where there is one
abbrev pub ComesFirst : Bool → List Change → List Exchanged → Type 0
ComesFirst heard batch [] = Unit {0}
ComesFirst heard batch (e ∷ exchanged) = (found : Option Known) → IsReadAs e.request found → comes_first heard (kind_of batch) (asks_sync found) ≡ true

module _ (host : Bytes) where
  -- what is read of the next exchange is what is known of the next request
  next_read : (acts : List Act) (fates : List Fate) (batches : List (List Change)) (e : Exchanged) (exchanged : List Exchanged) (found : Option Known)
      → AreTold host acts fates batches (e ∷ exchanged) → AreReadable host acts → IsReadAs e.request found
      → (r : Request) × (next_request acts ≡ Some r) × (found ≡ Some (known_of r))
  next_read [] fates batches e exchanged found told readable reads = absurd (let none : e ∷ exchanged ≡ [] = told.2 in let impossible : ⊥ = cc in impossible)
  next_read (committed what changes ∷ acts) fates [] e exchanged found told readable reads = absurd told
  next_read (committed what changes ∷ acts) fates (batch ∷ batches) e exchanged found told readable reads =
      next_read acts fates batches e exchanged found told.1 readable reads
  next_read (asked r reply ∷ acts) [] batches e exchanged found told readable reads = absurd told
  next_read (asked r reply ∷ acts) (fate ∷ fates) batches e exchanged found told readable reads = (r, refl, reads host r told.0.sent readable.0)

  -- so the batch of a commit comes first that comes before the next request
  pub first_so : (what : What) (changes batch : List Change) (acts : List Act) (fates : List Fate) (batches : List (List Change)) (exchanged : List Exchanged)
      (heard : Bool) → batch ≡ changes → kind_of changes ≡ kind_by what → AreTold host acts fates batches exchanged → AreReadable host acts
      → IsBefore heard (kind_by what) (next_request acts) → ComesFirst heard batch exchanged
  first_so what changes batch acts fates batches [] heard is kind_is told readable before = tt
  first_so what changes batch acts fates batches (e ∷ exchanged) heard is kind_is told readable before = λ found reads.
      (let next = next_read acts fates batches e exchanged found told readable reads in
      ap (λ (k : Kind). comes_first heard k (asks_sync found)) (ap kind_of is ∙ kind_is)
      ∙ ap (λ (o : Option Known). comes_first heard (kind_by what) (asks_sync o)) next.2
      ∙ ap (comes_first heard (kind_by what)) (asks_known next.0) ∙ subst (IsBefore heard (kind_by what)) next.1 before)

  -- and where a request comes next, no batch comes before it
  pub none_before : (acts : List Act) (fates : List Fate) (batches : List (List Change)) (exchanged : List Exchanged) (heard : Bool) (r : Request)
      → AreTold host acts fates batches exchanged → AreOfKind acts → IsAhead heard r (next_kind acts)
      → (front heard (is_sync r) batches ≡ []) × (rest heard (is_sync r) batches ≡ batches)
  none_before [] fates batches exchanged heard r told kinds ahead =
      let none : batches ≡ [] = told.1 in
      (ap (front heard (is_sync r)) none, ap (rest heard (is_sync r)) none ∙ sym none)
  none_before (committed what changes ∷ acts) fates [] exchanged heard r told kinds ahead = absurd told
  none_before (committed what changes ∷ acts) fates (batch ∷ batches) exchanged heard r told kinds ahead =
      let kind_so : kind_of batch ≡ kind_by what = ap kind_of told.0 ∙ kinds.0 in
      let later : comes_first heard (kind_of batch) (is_sync r) ≡ false = ap (λ (k : Kind). comes_first heard k (is_sync r)) kind_so ∙ ahead in (
        ap (λ (b : Bool). if b then batch ∷ front false (is_sync r) batches else []) later,
        ap (λ (b : Bool). if b then rest false (is_sync r) batches else batch ∷ batches) later,
      )
  none_before (asked other reply ∷ acts) [] batches exchanged heard r told kinds ahead = absurd told
  none_before (asked other reply ∷ acts) (fate ∷ fates) batches [] heard r told kinds ahead = absurd told
  none_before (asked other reply ∷ acts) (fate ∷ fates) batches (e ∷ exchanged) heard r told kinds ahead =
      none_before acts fates batches exchanged heard r told.1 kinds ahead

module _ (call : Calling) (name : Bytes) (server rows : Rows) (answer : Option Bytes) (server_end rows_end : Rows) where
  -- ---- at a commit

  -- what is said of it, and behind it
  pub record AtCommit (batch : List Change) (batches : List (List Change)) (exchanged : List Exchanged) (moves : List Move) (begun : List (Option KeySet)) : Type 0 where
    pub first : List Move
    pub later : List Move
    pub says : SaysBatch call server rows name answer batch first
    pub goes_on : SaysWalk call name server (rows_after rows batch) false answer batches exchanged later begun server_end rows_end
    pub moves_are : moves ≡ first ++ later

  pub at_commit : (heard : Bool) (batch : List Change) (batches : List (List Change)) (exchanged : List Exchanged) (moves : List Move) (begun : List (Option KeySet))
      → ComesFirst heard batch exchanged → SaysWalk call name server rows heard answer (batch ∷ batches) exchanged moves begun server_end rows_end
      → AtCommit batch batches exchanged moves begun
  at_commit heard batch batches [] moves begun comes ((first, later, says, others, is), none, same, ends) =
      record { first = first; later = later; says = says; goes_on = (others, none, same, ends); moves_are = is }
  at_commit heard batch batches (e ∷ exchanged) moves begun comes (found, said, served, later, begins, told, reads, says, begins_so, gains, goes, begun_is, is) =
      let syncs : Bool = asks_sync found in
      let front_is : front heard syncs (batch ∷ batches) ≡ batch ∷ front false syncs batches =
      ap (λ (b : Bool). if b then batch ∷ front false syncs batches else []) (comes found reads) in
      let rest_is : rest heard syncs (batch ∷ batches) ≡ rest false syncs batches =
      ap (λ (b : Bool). if b then rest false syncs batches else batch ∷ batches) (comes found reads) in
      let says_so : SaysBatches call server rows name answer (batch ∷ front false syncs batches) said =
      subst (λ (bs : List (List Change)). SaysBatches call server rows name answer bs said) front_is says in
      let begun_so : IsBegunIn call (rows_behind_all rows (batch ∷ front false syncs batches)) found begins =
      subst (λ (bs : List (List Change)). IsBegunIn call (rows_behind_all rows bs) found begins) front_is begins_so in
      let gains_so : SaysGained server (rows_behind_all rows (batch ∷ front false syncs batches)) name begins found e.batches served =
      subst (λ (bs : List (List Change)). SaysGained server (rows_behind_all rows bs) name begins found e.batches served) front_is gains in
      let goes_so : SaysWalk call name (rows_behind_all server e.batches) (rows_behind_all rows (batch ∷ front false syncs batches)) syncs e.answer
      (rest false syncs batches) exchanged later told server_end rows_end =
      subst (λ (bs : List (List Change)). SaysWalk call name (rows_behind_all server e.batches) (rows_behind_all rows bs) syncs e.answer
      (rest false syncs batches) exchanged later told server_end rows_end) front_is
      (subst (λ (bs : List (List Change)). SaysWalk call name (rows_behind_all server e.batches) (rows_behind_all rows (front heard syncs (batch ∷ batches))) syncs
      e.answer bs exchanged later told server_end rows_end) rest_is goes) in
      record {
        first = says_so.0;
        later = says_so.1 ++ (served ++ later);
        says = says_so.2;
        goes_on = (found, says_so.1, served, later, begins, told, reads, says_so.3, begun_so, gains_so, goes_so, begun_is, refl);
        moves_are = is ∙ ap (λ (m : List Move). m ++ (served ++ later)) says_so.4 ∙ append_assoc says_so.0 says_so.1 (served ++ later);
      }

  -- ---- at a request

  -- what is said of it, and behind it
  pub record AtRequest (r : Request) (batches : List (List Change)) (e : Exchanged) (exchanged : List Exchanged) (moves : List Move) (begun : List (Option KeySet))
      : Type 0 where
    pub served : List Move
    pub later : List Move
    pub begins : Option KeySet
    pub others : List (Option KeySet)
    pub begins_so : IsBegunIn call rows (Some (known_of r)) begins
    pub gains : SaysGained server rows name begins (Some (known_of r)) e.batches served
    pub goes_on : SaysWalk call name (rows_behind_all server e.batches) rows (is_sync r) e.answer batches exchanged later others server_end rows_end
    pub begun_is : begun ≡ begins ∷ others
    pub moves_are : moves ≡ served ++ later

  -- with no batch before it
  alone : (r : Request) (batches before behind : List (List Change)) (e : Exchanged) (exchanged : List Exchanged) (moves : List Move) (begun : List (Option KeySet))
      (found : Option Known) (said served later : List Move) (begins : Option KeySet) (others : List (Option KeySet)) → found ≡ Some (known_of r) → before ≡ []
      → behind ≡ batches → SaysBatches call server rows name answer before said → IsBegunIn call (rows_behind_all rows before) found begins
      → SaysGained server (rows_behind_all rows before) name begins found e.batches served
      → SaysWalk call name (rows_behind_all server e.batches) (rows_behind_all rows before) (asks_sync found) e.answer behind exchanged later others server_end rows_end
      → begun ≡ begins ∷ others → moves ≡ said ++ (served ++ later) → AtRequest r batches e exchanged moves begun
  alone r batches before behind e exchanged moves begun found said served later begins others found_is none all says begins_so gains goes begun_is is =
      record {
        served = served;
        later = later;
        begins = begins;
        others = others;
        begins_so = subst (λ (o : Option Known). IsBegunIn call rows o begins) found_is
            (subst (λ (bs : List (List Change)). IsBegunIn call (rows_behind_all rows bs) found begins) none begins_so);
        gains = subst (λ (o : Option Known). SaysGained server rows name begins o e.batches served) found_is
            (subst (λ (bs : List (List Change)). SaysGained server (rows_behind_all rows bs) name begins found e.batches served) none gains);
        goes_on = subst (λ (b : Bool). SaysWalk call name (rows_behind_all server e.batches) rows b e.answer batches exchanged later others server_end rows_end)
            (asks_known r)
            (subst (λ (o : Option Known). SaysWalk call name (rows_behind_all server e.batches) rows (asks_sync o) e.answer batches exchanged later others
            server_end rows_end) found_is
            (subst (λ (bs : List (List Change)). SaysWalk call name (rows_behind_all server e.batches) (rows_behind_all rows bs) (asks_sync found) e.answer batches
            exchanged later others server_end rows_end) none
            (subst (λ (bs : List (List Change)). SaysWalk call name (rows_behind_all server e.batches) (rows_behind_all rows before) (asks_sync found) e.answer bs
            exchanged later others server_end rows_end) all goes)));
        begun_is = begun_is;
        moves_are = is ∙ ap (λ (m : List Move). m ++ (served ++ later)) (subst (λ (bs : List (List Change)). SaysBatches call server rows name answer bs said) none says);
      }

  pub at_request : (heard : Bool) (r : Request) (batches : List (List Change)) (e : Exchanged) (exchanged : List Exchanged) (moves : List Move)
      (begun : List (Option KeySet)) → ((found : Option Known) → IsReadAs e.request found → found ≡ Some (known_of r))
      → (front heard (is_sync r) batches ≡ []) × (rest heard (is_sync r) batches ≡ batches)
      → SaysWalk call name server rows heard answer batches (e ∷ exchanged) moves begun server_end rows_end → AtRequest r batches e exchanged moves begun
  at_request heard r batches e exchanged moves begun read_so none
      (found, said, served, later, begins, others, reads, says, begins_so, gains, goes, begun_is, is) =
      let found_is : found ≡ Some (known_of r) = read_so found reads in
      alone r batches (front heard (asks_sync found) batches) (rest heard (asks_sync found) batches) e exchanged moves begun found said served later begins others
      found_is (ap (λ (o : Option Known). front heard (asks_sync o) batches) found_is ∙ ap (λ (b : Bool). front heard b batches) (asks_known r) ∙ none.0)
      (ap (λ (o : Option Known). rest heard (asks_sync o) batches) found_is ∙ ap (λ (b : Bool). rest heard b batches) (asks_known r) ∙ none.1) says begins_so gains goes begun_is is
