-- Parts of which the tests of several moves are made.
use Rattle.std.proofs.Common.{◌≡◌, ◌≢◌, ◌⊎◌, ◌<◌, ℕ, Option, Some, None, Bool, true, false, refl, sym, ap, subst, inl, inr, ⊎_elim}
use Rattle.std.specs.Prelude.{◌&&◌, ◌||◌, not, is_some, is_none, nat_lt, nat_le}
use Rattle.std.specs.List.{list_all}
use Rattle.std.specs.Str.{bytes_eq}
use Rattle.std.proofs.lemmas.Bool.{and_parts}
use Rattle.sn_laws.specs.declared.ideal.Content.{Content}
use Rattle.sn_laws.specs.declared.ideal.Content.TheVariants.{Plain, Deleted}
use Rattle.sn_laws.specs.declared.ideal.Body.{Body}
use Rattle.sn_laws.specs.declared.ideal.Body.TheVariants.{Under, Gone}
use Rattle.sn_laws.specs.declared.ideal.Version.{Version}
use Rattle.sn_laws.specs.declared.ideal.Account.{Account}
use Rattle.sn_laws.specs.declared.ideal.Draft.{Draft}
use Rattle.sn_laws.specs.declared.ideal.Ideal.{Ideal}
use Rattle.sn_laws.specs.Each.{Each}
use Rattle.sn_laws.specs.Lookups.{Bytes, account_of, draft_at}
use Rattle.sn_laws.specs.Moves.{all_below, is_content_of, is_live, is_new_stamp, is_plain, number_is}
use Rattle.sn_string.specs.Bounds.{last_stamp}
use Rattle.sn_laws.specs.Relation.{HasDraft, IsContentOf, IsLive, IsNewStamp, IsPlain}
use Rattle.sn_laws.proofs.EachLemmas.{and_both, at_most, below, clash, each_from, each_to, is_at_most, is_below, is_false, not_false, not_true, number_same, or_cases, or_left, or_right, same_number, same_text, text_same}

-- tests in a row

pub four : (a b c d : Bool) → (a && b && c && d) ≡ true → (a ≡ true) × (b ≡ true) × (c ≡ true) × (d ≡ true)
four true b c d h =
    let last = and_parts (b && c) d h in
    let first = and_parts b c last.0 in
    (refl, first.0, first.1, last.1)
four false b c d h = absurd (cc)

pub all_four : (a b c d : Bool) → a ≡ true → b ≡ true → c ≡ true → d ≡ true → (a && b && c && d) ≡ true
all_four a b c d ha hb hc hd = and_both (a && b && c) d (and_both (a && b) c (and_both a b ha hb) hc) hd

pub three : (a b c : Bool) → (a && b && c) ≡ true → (a ≡ true) × (b ≡ true) × (c ≡ true)
three a b c h =
    let last = and_parts (a && b) c h in
    let first = and_parts a b last.0 in
    (first.0, first.1, last.1)

pub all_three : (a b c : Bool) → a ≡ true → b ≡ true → c ≡ true → (a && b && c) ≡ true
all_three a b c ha hb hc = and_both (a && b) c (and_both a b ha hb) hc

-- tests that don't pass, and of which one passes

pub not_from : (b : Bool) (P : Type 0) → (P → b ≡ true) → not b ≡ true → ¬ P
not_from b P f h = λ p. clash b (f p) (not_false b h)

pub not_to : (b : Bool) (P : Type 0) → (b ≡ true → P) → ¬ P → not b ≡ true
not_to b P f h = not_true b (is_false b (λ e. h (f e)))

pub either_from : (a b : Bool) (P Q : Type 0) → (a ≡ true → P) → (b ≡ true → Q) → (a || b) ≡ true → P ⊎ Q
either_from a b P Q f g h = ⊎_elim (λ e. inl (f e)) (λ e. inr (g e)) (or_cases a b h)

pub either_to : (a b : Bool) (P Q : Type 0) → (P → a ≡ true) → (Q → b ≡ true) → P ⊎ Q → (a || b) ≡ true
either_to a b P Q f g h = ⊎_elim (λ p. or_left a b (f p)) (λ q. or_right a b (g q)) h

-- what is there

-- nothing that is there is missing
pub missing : {A : Type 0} (x : A) (found : Option A) → found ≡ None → found ≡ Some x → ⊥
missing x found e k = cc

pub one_there : {A : Type 0} (x y : A) (found : Option A) → found ≡ Some x → found ≡ Some y → x ≡ y
one_there x y found e k = cc

pub some_from : {A : Type 0} (x : Option A) → is_some x ≡ true → x ≢ None
some_from None h = absurd (cc)
some_from (Some x) h = λ e. cc

pub some_to : {A : Type 0} (x : Option A) → x ≢ None → is_some x ≡ true
some_to None h = absurd (h refl)
some_to (Some x) h = refl

pub none_is : {A : Type 0} (x : Option A) → is_none x ≡ true → x ≡ None
none_is None h = refl
none_is (Some x) h = absurd (cc)

pub is_nothing : {A : Type 0} (x : Option A) → x ≡ None → is_none x ≡ true
is_nothing None h = refl
is_nothing (Some x) h = absurd (cc)

-- a test that nothing passes
pub some_found : {A : Type 0} (found : Option A) (test : Option A → Bool) → test None ≡ false → test found ≡ true
    → (x : A) × (found ≡ Some x) × (test (Some x) ≡ true)
some_found None test none h = absurd (clash (test None) h none)
some_found (Some x) test none h = (x, refl, h)

pub some_passes : {A : Type 0} (x : A) (found : Option A) (test : Option A → Bool) → found ≡ Some x → test (Some x) ≡ true → test found ≡ true
some_passes x found test e h = subst (λ y. test y ≡ true) (sym e) h

-- a draft that passes a test, with its account
pub record Passes (s : Ideal) (device uuid : Bytes) (test : Option Account → Option Draft → Bool) : Type 0 where
  pub account : Account
  pub draft : Draft
  pub is : HasDraft s device uuid account draft
  pub passes : test (Some account) (Some draft) ≡ true

-- a test that passes neither without an account nor without a draft
pub draft_found : (s : Ideal) (device uuid : Bytes) (test : Option Account → Option Draft → Bool) → ((d : Option Draft) → test None d ≡ false)
    → ((a : Account) → test (Some a) None ≡ false) → test (account_of s device) (draft_at s device uuid) ≡ true → Passes s device uuid test
draft_found s device uuid test no_account no_draft h =
    let a = some_found (account_of s device) (λ x. test x (draft_at s device uuid)) (no_account (draft_at s device uuid)) h in
    let d = some_found (draft_at s device uuid) (test (Some a.0)) (no_draft a.0) a.2 in
    record { account = a.0; draft = d.0; is = record { has = a.1; at = d.1 }; passes = d.2 }

pub draft_passes : (s : Ideal) (device uuid : Bytes) (test : Option Account → Option Draft → Bool) (a : Account) (d : Draft)
    → HasDraft s device uuid a d → test (Some a) (Some d) ≡ true → test (account_of s device) (draft_at s device uuid) ≡ true
draft_passes s device uuid test a d is h =
    some_passes a (account_of s device) (λ x. test x (draft_at s device uuid)) is.has (some_passes d (draft_at s device uuid) (test (Some a)) is.at h)

-- contents, numbers and stamps

pub live_from : (b : Body) → is_live b ≡ true → IsLive b
live_from (Under text set) h = tt
live_from Gone h = absurd (cc)

pub live_to : (b : Body) → IsLive b → is_live b ≡ true
live_to (Under text set) h = refl
live_to Gone h = absurd h

pub plain_from : (c : Content) → is_plain c ≡ true → IsPlain c
plain_from (Plain text) h = tt
plain_from Deleted h = absurd (cc)

pub plain_to : (c : Content) → IsPlain c → is_plain c ≡ true
plain_to (Plain text) h = refl
plain_to Deleted h = absurd h

pub deleted_from : (c : Content) → not (is_plain c) ≡ true → c ≡ Deleted
deleted_from (Plain text) h = absurd (cc)
deleted_from Deleted h = refl

pub deleted_to : (c : Content) → c ≡ Deleted → not (is_plain c) ≡ true
deleted_to (Plain text) h = absurd (cc)
deleted_to Deleted h = refl

pub number_from : (n : ℕ) (set : Option ℕ) → number_is n set ≡ true → set ≡ Some n
number_from n None h = absurd (cc)
number_from n (Some m) h = ap Some (same_number m n h)

pub number_to : (n : ℕ) (set : Option ℕ) → set ≡ Some n → number_is n set ≡ true
number_to n None h = absurd (cc)
number_to n (Some m) h = let same : m ≡ n = cc in number_same m n same

pub content_from : (kind : Bytes) (c : Content) (other : Bytes) (b : Body) → is_content_of kind c other b ≡ true → IsContentOf kind c other b
content_from kind (Plain text) other (Under same set) h =
    let both = and_parts (bytes_eq kind other) (bytes_eq text same) h in
    (same_text kind other both.0, same_text text same both.1)
content_from kind (Plain text) other Gone h = absurd (cc)
content_from kind Deleted other (Under same set) h = absurd (cc)
content_from kind Deleted other Gone h = tt

pub content_to : (kind : Bytes) (c : Content) (other : Bytes) (b : Body) → IsContentOf kind c other b → is_content_of kind c other b ≡ true
content_to kind (Plain text) other (Under same set) h =
    and_both (bytes_eq kind other) (bytes_eq text same) (text_same kind other h.0) (text_same text same h.1)
content_to kind (Plain text) other Gone h = absurd h
content_to kind Deleted other (Under same set) h = absurd h
content_to kind Deleted other Gone h = refl

below_from : (stamp : ℕ) (a : Account) → all_below stamp a ≡ true → Each (λ (v : Version). v.stamp < stamp) a.versions
below_from stamp a h = each_from (λ (v : Version). nat_lt v.stamp stamp) (λ (v : Version). v.stamp < stamp) (λ v e. below v.stamp stamp e) a.versions h

below_to : (stamp : ℕ) (a : Account) → Each (λ (v : Version). v.stamp < stamp) a.versions → all_below stamp a ≡ true
below_to stamp a h = each_to (λ (v : Version). nat_lt v.stamp stamp) (λ (v : Version). v.stamp < stamp) (λ v e. is_below v.stamp stamp e) a.versions h

pub new_from : (s : Ideal) (stamp : ℕ) → is_new_stamp s.accounts stamp ≡ true → IsNewStamp s stamp
new_from s stamp h =
    let both = and_parts (list_all (all_below stamp) s.accounts) (nat_le stamp last_stamp) h in
    record {
      above = each_from (all_below stamp) (λ (a : Account). Each (λ (v : Version). v.stamp < stamp) a.versions) (below_from stamp) s.accounts both.0;
      bounded = at_most stamp last_stamp both.1;
    }

pub new_to : (s : Ideal) (stamp : ℕ) → IsNewStamp s stamp → is_new_stamp s.accounts stamp ≡ true
new_to s stamp h =
    and_both (list_all (all_below stamp) s.accounts) (nat_le stamp last_stamp)
    (each_to (all_below stamp) (λ (a : Account). Each (λ (v : Version). v.stamp < stamp) a.versions) (below_to stamp) s.accounts h.above)
    (is_at_most stamp last_stamp h.bounded)
