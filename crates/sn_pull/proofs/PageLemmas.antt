-- What a sync that sends nothing is answered, and what its page tells.
use Rattle.std.proofs.Common.{◌≡◌, ◌⊎◌, ◌<◌, ◌≤◌, ℕ, Bool, true, List, [], ◌∷◌, ◌++◌, Option, Some, None, refl, sym, ap, ◌∙◌, subst, ⊎_elim, inl, inr, arith}
use Rattle.std.specs.List.{Contains}
use Rattle.std.proofs.lemmas.Bool.{cases_Bool}
use Rattle.std.proofs.lemmas.List.{append_assoc}
use Rattle.std.proofs.lemmas.List.Elements.{Contains-append_cases, Contains-append_left, Contains-push}
use Rattle.sn_account.specs.Incoming.{Progress, RunsOut}
use Rattle.sn_account.specs.Laws.{HasOneAccount}
use Rattle.sn_account.specs.Lookups.{HasItem}
use Rattle.sn_account.specs.Pages.{Found, IsGreatest, IsPage}
use Rattle.sn_account.specs.Syncs.{AreChanges, AreTokens, IsStampOf, Synced, above_of, is_first, start}
use Rattle.sn_device.specs.States.{Bytes}
use Rattle.sn_pull.specs.Laws.{PagesAnswer}
use Rattle.sn_pull.specs.Pages.{IsPageAnswer}
use Rattle.sn_pull.specs.Pulls.{Has}
use Rattle.sn_pull.proofs.ListLemmas.{Rises, above_at, no_split, none_of, rises_so}
use Rattle.sn_rows.specs.Table.{Rows}
use Rattle.sn_rows.specs.declared.change.Change.{Change}
use Rattle.sn_rows.specs.declared.server_rows.ItemRow.{ItemRow}
use Rattle.sn_rows.specs.declared.server_rows.StoreRow.{StoreRow}
use Rattle.sn_string.specs.declared.params.Params.{Params}
use Rattle.sn_sync.specs.Laws.{HasOneToken}
use Rattle.sn_sync.specs.Tokens.{IsToken}
use Rattle.sn_sync.specs.declared.answer.Answer.{Answer}
use Rattle.sn_sync.specs.declared.answer.Answer.TheVariants as answer

-- ---- tokens

-- a token is of one stamp, or left out
pub one_stamp_of : HasOneToken → (given : Option Bytes) (a b : Option ℕ) → IsStampOf given a → IsStampOf given b → a ≡ b
one_stamp_of one None a b x y = x ∙ sym y
one_stamp_of one (Some text) None b x y = absurd x
one_stamp_of one (Some text) (Some s) None x y = absurd y
one_stamp_of one (Some text) (Some s) (Some t) x y = ap (λ (z : ℕ). Some z) (one text s t x y)

-- ---- the answer

no_changes : (store : StoreRow) (last : ℕ) (changes : List Change) → AreChanges store [] last changes → changes ≡ []
no_changes store last changes (inl none) = none.1
no_changes store last changes (inr some) = absurd (some.0 refl)

synced_page : (server : Rows) (store : StoreRow) (n : ℕ) (present : Params) (limit : ℕ) (from cursor : Option ℕ) (now : ℕ) (changes : List Change)
    (given : Answer) → Synced server store n present [] limit from cursor now changes given
    → (changes ≡ []) × IsPageAnswer server n (above_of from cursor) (is_first from cursor) limit given
synced_page server store n present limit from cursor now changes given s = (
  no_changes store store.last changes (subst (λ (p : Progress). AreChanges store p.changes p.last changes) s.taken s.changes_are),
  record {
    page = s.page;
    left = s.left;
    is_page = s.is_page;
    retrieved = s.retrieved;
    retrieved_are = s.retrieved_are;
    cursor = s.cursor_token;
    token = s.sync_token;
    tokens = subst (λ (p : Progress). AreTokens p.rows n s.page s.left s.cursor_token s.sync_token) s.taken s.tokens;
    answers = subst (λ (p : Progress). given ≡ answer.Sync p.conflicts s.cursor_token s.retrieved p.saved s.sync_token) s.taken s.answers;
  },
)

never_runs_out : (present : Params) (now n : ℕ) (p : Progress) → RunsOut present now n p [] → ⊥
never_runs_out present now n p out = no_split out.front out.item out.later out.split

pub pages_answer : HasOneAccount → HasOneToken → PagesAnswer
pages_answer one_account one_token server token n limit st ct from cursor now changes given sound session from_is cursor_is
    (store, has, inl refused) = absurd (refused.0 n session)
pages_answer one_account one_token server token n limit st ct from cursor now changes given sound session from_is cursor_is
    (store, has, inr (m, other, inl refused)) = absurd (refused.0 from from_is)
pages_answer one_account one_token server token n limit st ct from cursor now changes given sound session from_is cursor_is
    (store, has, inr (m, other, inr (inl refused))) = absurd (refused.2 cursor cursor_is)
pages_answer one_account one_token server token n limit st ct from cursor now changes given sound session from_is cursor_is
    (store, has, inr (m, other, inr (inr (sync, at, is, at_is, inl refused)))) = absurd (omega (arith, refused.0))
pages_answer one_account one_token server token n limit st ct from cursor now changes given sound session from_is cursor_is
    (store, has, inr (m, other, inr (inr (sync, at, is, at_is, inr (inl refused))))) =
    absurd (no_split refused.3.front refused.3.item refused.3.later refused.3.split)
pages_answer one_account one_token server token n limit st ct from cursor now changes given sound session from_is cursor_is
    (store, has, inr (m, other, inr (inr (sync, at, is, at_is, inr (inr (few, short, (present, stands, inl refused))))))) =
    absurd (never_runs_out present now m (start server store) refused.0)
pages_answer one_account one_token server token n limit st ct from cursor now changes given sound session from_is cursor_is
    (store, has, inr (m, other, inr (inr (sync, at, is, at_is, inr (inr (few, short, (present, stands, inr s))))))) =
    let page = synced_page server store m present limit sync at now changes given s in
    let account : m ≡ n = one_account server token m n sound other session in
    let first : sync ≡ from = one_stamp_of one_token st sync from is from_is in
    let second : at ≡ cursor = one_stamp_of one_token ct at cursor at_is cursor_is in
    let M : ℕ → Type 0 = λ k. IsPageAnswer server k (above_of sync at) (is_first sync at) limit given in
    let S : Option ℕ → Type 0 = λ k. IsPageAnswer server n (above_of k at) (is_first k at) limit given in
    let C : Option ℕ → Type 0 = λ k. IsPageAnswer server n (above_of from k) (is_first from k) limit given in
    (page.0, subst C second (subst S first (subst M account page.1)))

-- ---- what the page tells

pub record PageTells (server : Rows) (n above : ℕ) (first : Bool) (page : List Found) (cursor : Option Bytes) (token : Bytes) : Type 0 where
  pub own : (f : Found) → Contains page f → Has server n f.0 f.1
  pub stamp : ℕ
  pub token_is : IsToken token stamp
  pub told : (u : Bytes) (v : ItemRow) → Has server n u v → above < v.updated → v.updated ≤ stamp
      → Contains page (u, v) ⊎ ((v.deleted ≡ true) × (first ≡ true))
  pub cursor_is : (cursor ≡ None) ⊎ (cursor ≡ Some token)
  pub greatest : cursor ≡ None → IsGreatest server n stamp
  pub reached : (stamp ≡ 0) ⊎ ((u : Bytes) × (v : ItemRow) × Has server n u v × (v.updated ≡ stamp))

module _ (server : Rows) (n above : ℕ) (first : Bool) (limit : ℕ) where
  page_own : (page left : List Found) → IsPage server n above first limit page left → (f : Found) → Contains page f → Has server n f.0 f.1
  page_own page left is f has =
      let whole = (is.all.whole f.0 f.1).0 (Contains-append_left page left f has) in (whole.0, whole.1.0)

  -- a candidate is in the page or left
  split_at : (page left : List Found) → IsPage server n above first limit page left → (u : Bytes) (v : ItemRow) → Has server n u v → above < v.updated
      → ((Contains page (u, v) ⊎ Contains left (u, v)) ⊎ ((v.deleted ≡ true) × (first ≡ true)))
  split_at page left is u v has over =
      elim (cases_Bool v.deleted) [
        | inl gone ↦ elim (cases_Bool first) [
          | inl whole ↦ inr (gone, whole)
          | inr later ↦ inl (Contains-append_cases page left (u, v)
              ((is.all.whole u v).1 (has.0, (has.1, over, λ whole. (let e = sym later ∙ whole in absurd cc)))))
        ]
        | inr live ↦ inl (Contains-append_cases page left (u, v) ((is.all.whole u v).1 (has.0, (has.1, over, λ whole. live))))
      ]

  pub page_tells : (page left : List Found) (cursor : Option Bytes) (token : Bytes) → IsPage server n above first limit page left
      → AreTokens server n page left cursor token → PageTells server n above first page cursor token
  page_tells page [] cursor token is tokens = record {
    own = page_own page [] is;
    stamp = tokens.1.0;
    token_is = tokens.1.2;
    told = λ u v has over upto. ⊎_elim
        (λ among. ⊎_elim (λ in_page. inl in_page) (λ in_left. absurd (none_of (u, v) in_left)) among)
        (λ gone. inr gone) (split_at page [] is u v has over);
    cursor_is = inl tokens.0;
    greatest = λ none. tokens.1.1;
    reached = ⊎_elim (λ zero. inl zero)
        (λ (at : (u : Bytes) × (i : ItemRow) × HasItem server u i × (i.account ≡ n) × (i.updated ≡ tokens.1.0)). inr (at.0, at.1, (at.2, at.3), at.4)) tokens.1.1.1;
  }
  page_tells page (g ∷ left) cursor token is tokens =
      let last = tokens.1.1 in
      let up : Found → ℕ = λ f. f.1.updated in
      let parts : page ++ g ∷ left ≡ last.front ++ last.last ∷ (g ∷ left) =
      ap (λ (p : List Found). p ++ g ∷ left) last.split ∙ append_assoc last.front (last.last ∷ []) (g ∷ left) in
      let rises : Rises up (last.front ++ last.last ∷ (g ∷ left)) = subst (λ (p : List Found). Rises up p) parts (rises_so up (page ++ g ∷ left) is.all.rising) in
      let among_page : Contains page last.last = subst (λ (p : List Found). Contains p last.last) (sym last.split) (Contains-push last.front last.last) in
      let beyond : (f : Found) → Contains (g ∷ left) f → tokens.1.0 < up f =
      λ f among. (let over = above_at up last.front last.last (g ∷ left) f rises among in let e = last.is in omega arith) in
      record {
        own = page_own page (g ∷ left) is;
        stamp = tokens.1.0;
        token_is = tokens.1.2;
        told = λ u v has over upto. ⊎_elim
            (λ among. ⊎_elim (λ in_page. inl in_page) (λ in_left. (let past = beyond (u, v) in_left in absurd (omega arith))) among)
            (λ gone. inr gone) (split_at page (g ∷ left) is u v has over);
        cursor_is = inr tokens.0;
        greatest = λ none. (let e = sym none ∙ tokens.0 in absurd cc);
        reached = inr (last.last.0, last.last.1, page_own page (g ∷ left) is last.last among_page, sym last.is);
      }
