-- Where each move of the ideal state is allowed, and what it does.
use Rattle.std.specs.Prelude.{ℕ, ◌+◌, ◌==◌, List, [], ◌∷◌, ◌++◌, length, Bool, true, false, ◌&&◌, ◌||◌, not, Option, Some, None, is_some, is_none, filter, map, nat_lt, nat_le, if◌then◌else◌}
use Rattle.std.specs.List.{list_any, list_all}
use Rattle.std.specs.Str.{bytes_eq}
use Rattle.sn_items.specs.Objects.{is_object}
use Rattle.sn_laws.specs.Lookups.{Bytes, is_account, is_device, is_draft, account_named, account_with, device_named, draft_at, account_of, last_of, has_item, greatest, held_by}
use Rattle.sn_laws.specs.declared.ideal.Content.{Content}
use Rattle.sn_laws.specs.declared.ideal.Content.TheVariants.{Plain, Deleted}
use Rattle.sn_laws.specs.declared.ideal.Body.{Body}
use Rattle.sn_laws.specs.declared.ideal.Body.TheVariants.{Under, Gone}
use Rattle.sn_laws.specs.declared.ideal.Version.{Version}
use Rattle.sn_laws.specs.declared.ideal.Account.{Account}
use Rattle.sn_laws.specs.declared.ideal.Posted.{Posted}
use Rattle.sn_laws.specs.declared.ideal.Draft.{Draft}
use Rattle.sn_laws.specs.declared.ideal.Device.{Device}
use Rattle.sn_laws.specs.declared.ideal.Ideal.{Ideal}
use Rattle.sn_string.specs.Bounds.{last_stamp, longest_content}
use Rattle.sn_string.specs.declared.params.KeySet.{KeySet}
use Rattle.sn_laws.specs.declared.moves.Move.{Move}
use Rattle.sn_laws.specs.declared.moves.Move.TheVariants.{Register, Join, Edit, Drop, Post, Unpost, Accept, Rewrap, Settle, SettlePosted, Fork, Rename, GiveWay, Change, Retire}
use Rattle.sn_notes.specs.Copies.{copy_of}

-- contents, and versions of them

-- a text that an edit may write: an object text of at most 700,000 bytes
abbrev pub is_writable : Bytes → Bool
is_writable text = nat_le (length text) longest_content && is_object text

abbrev pub is_plain : Content → Bool
is_plain (Plain text) = true
is_plain Deleted = false

abbrev pub is_live : Body → Bool
is_live (Under text set) = true
is_live Gone = false

-- a content under the set of a number; a deletion is under none
abbrev pub body_under : Content → ℕ → Body
body_under (Plain text) number = Under text number
body_under Deleted number = Gone

-- the content, as of a type, is that of the version: both are deleted, or type and text are the same
abbrev pub is_content_of : Bytes → Content → Bytes → Body → Bool
is_content_of kind (Plain text) other_kind (Under other set) = bytes_eq kind other_kind && bytes_eq text other
is_content_of kind (Plain text) other_kind Gone = false
is_content_of kind Deleted other_kind (Under other set) = false
is_content_of kind Deleted other_kind Gone = true

-- what was sent of a draft; before it is sent, its content
abbrev pub sent_content : Content → Option Posted → Content
sent_content latest None = latest
sent_content latest (Some p) = p.content

abbrev pub number_is : ℕ → Option ℕ → Bool
number_is n None = false
number_is n (Some m) = m == n

-- the draft was sent under the set of this number
abbrev pub is_sent_under : ℕ → Option Posted → Bool
is_sent_under n None = false
is_sent_under n (Some p) = number_is n p.set

-- nothing was sent of a draft, or what was sent has lost its number
abbrev pub is_unsent : Option Posted → Bool
is_unsent None = true
is_unsent (Some p) = is_none p.set

-- stamps

-- a stamp is new where it is above all stamps of all accounts, and none after the last
abbrev pub all_below : ℕ → Account → Bool
all_below stamp a = list_all (λ v. nat_lt v.stamp stamp) a.versions

abbrev pub is_new_stamp : List Account → ℕ → Bool
is_new_stamp accounts stamp = list_all (all_below stamp) accounts && nat_le stamp last_stamp

-- where a move is allowed

-- the set is the account's last and above all that the device holds; the device has this account or none, and holds at most one set
abbrev pub may_join : Option Account → Option Device → ℕ → Bool
may_join None d number = false
may_join (Some a) None number = number == length a.sets
may_join (Some a) (Some d) number =
    bytes_eq d.account a.identifier && (number == length a.sets) && nat_le (length d.held) 1 && list_all (λ m. nat_lt m number) d.held

-- the stamp is that of an undeleted version of the item, of this type
abbrev pub is_live_at : Bytes → Bytes → ℕ → Version → Bool
is_live_at uuid kind stamp v = bytes_eq v.uuid uuid && bytes_eq v.kind kind && (v.stamp == stamp) && is_live v.body

abbrev pub has_live : Account → Bytes → Bytes → ℕ → Bool
has_live a uuid kind stamp = list_any (is_live_at uuid kind stamp) a.versions

-- a new draft stands on nothing, or on an undeleted version of its item and type in the account
abbrev pub may_stand : Account → Bytes → Bytes → Option ℕ → Bool
may_stand a uuid kind None = true
may_stand a uuid kind (Some stamp) = has_live a uuid kind stamp

abbrev pub same_base : Option ℕ → Option ℕ → Bool
same_base None other = is_none other
same_base (Some stamp) other = number_is stamp other

-- the type and the base are the draft's
abbrev pub is_as : Draft → Bytes → Option ℕ → Bool
is_as d kind base = bytes_eq d.kind kind && same_base d.base base

-- a content is written to a new draft, or to one that isn't deleted
abbrev pub may_write : Account → Option Draft → Bytes → Bytes → Option ℕ → Bytes → Bool
may_write a None uuid kind base text = may_stand a uuid kind base && is_writable text
may_write a (Some d) uuid kind base text = is_as d kind base && is_plain d.latest && is_writable text

-- a new draft that deletes stands on an undeleted version; one that is there has a base or was sent
abbrev pub may_delete : Account → Option Draft → Bytes → Bytes → Option ℕ → Bool
may_delete a None uuid kind base = is_some base && may_stand a uuid kind base
may_delete a (Some d) uuid kind base = is_as d kind base && (is_some d.base || is_some d.posted)

abbrev pub may_edit : Option Account → Option Draft → Bytes → Bytes → Option ℕ → Content → Bool
may_edit None d uuid kind base latest = false
may_edit (Some a) d uuid kind base (Plain text) = may_write a d uuid kind base text
may_edit (Some a) d uuid kind base Deleted = may_delete a d uuid kind base

abbrev pub may_post : Option Account → Option Draft → Bool
may_post None d = false
may_post (Some a) None = false
may_post (Some a) (Some d) = is_unsent d.posted

-- the base is the last version's stamp; or there is none, and no account has the item
abbrev pub is_on_last : List Account → Bytes → Option ℕ → Option Version → Bool
is_on_last accounts uuid None last = not (list_any (has_item uuid) accounts)
is_on_last accounts uuid (Some stamp) None = false
is_on_last accounts uuid (Some stamp) (Some v) = v.stamp == stamp

-- the number that a move says is that of the version's set; a deletion has none
abbrev pub is_said : ℕ → Content → Option ℕ → Bool
is_said n (Plain text) under = number_is n under
is_said n Deleted under = is_none under

-- what was sent under the account's last set becomes a version, if the draft stands on the last one and the stamp is new
abbrev pub may_accept : List Account → Option Account → Option Draft → Bytes → ℕ → Option ℕ → Bool
may_accept accounts None d uuid stamp under = false
may_accept accounts (Some a) None uuid stamp under = false
may_accept accounts (Some a) (Some d) uuid stamp under =
    is_sent_under (length a.sets) d.posted && is_said (length a.sets) (sent_content d.latest d.posted) under
    && is_on_last accounts uuid d.base (last_of uuid a.versions) && is_new_stamp accounts stamp

-- the draft's content is the version's
abbrev pub is_last : Draft → Option Version → Bool
is_last d None = false
is_last d (Some v) = is_content_of d.kind d.latest v.kind v.body

abbrev pub may_settle : Option Account → Option Draft → Bytes → Bool
may_settle None d uuid = false
may_settle (Some a) None uuid = false
may_settle (Some a) (Some d) uuid = is_last d (last_of uuid a.versions)

-- a version of the account's is above the draft's base, which is another's or none
abbrev pub is_passed : Option ℕ → Version → Bool
is_passed base v = not (number_is v.stamp base)

-- the version carries a set that the device doesn't hold
abbrev pub is_unseen : List ℕ → Body → Bool
is_unseen held (Under text set) = not (list_any (λ m. m == set) held)
is_unseen held Gone = false

-- what was sent is the version's content, with or without a number
abbrev pub is_sent_as : Bytes → Option Posted → Version → Bool
is_sent_as kind None v = false
is_sent_as kind (Some p) v = is_content_of kind p.content v.kind v.body

-- the device can't read the version, or has neither its content nor sent it
abbrev pub is_other : List ℕ → Draft → Version → Bool
is_other held d v = is_unseen held v.body || (not (is_content_of d.kind d.latest v.kind v.body) && not (is_sent_as d.kind d.posted v))

-- what was sent is the last version's content, and this is its stamp
abbrev pub is_last_sent : Draft → ℕ → Option Version → Bool
is_last_sent d stamp None = false
is_last_sent d stamp (Some v) = is_sent_as d.kind d.posted v && (v.stamp == stamp)

abbrev pub may_settle_posted : Option Account → Option Draft → Bytes → ℕ → Bool
may_settle_posted None d uuid stamp = false
may_settle_posted (Some a) None uuid stamp = false
may_settle_posted (Some a) (Some d) uuid stamp = is_last_sent d stamp (last_of uuid a.versions)

-- the last version isn't the one that the draft stands on, and is another's
abbrev pub meets_other : List ℕ → Draft → Option Version → Bool
meets_other held d None = false
meets_other held d (Some v) = is_passed d.base v && is_other held d v

-- a content meets another version than the one that it stands on; the device has no draft under the new uuid
abbrev pub may_fork : Option Account → List ℕ → Option Draft → Option Draft → Bytes → Bool
may_fork None held d other uuid = false
may_fork (Some a) held None other uuid = false
may_fork (Some a) held (Some d) other uuid = is_plain d.latest && is_none other && meets_other held d (last_of uuid a.versions)

-- the last version is live, isn't the one that the draft stands on, and isn't what was sent
abbrev pub meets_live : List ℕ → Draft → Option Version → Bool
meets_live held d None = false
meets_live held d (Some v) = is_live v.body && is_passed d.base v && (is_unseen held v.body || not (is_sent_as d.kind d.posted v))

-- a deletion meets such a version
abbrev pub may_give_way : Option Account → List ℕ → Option Draft → Bytes → Bool
may_give_way None held d uuid = false
may_give_way (Some a) held None uuid = false
may_give_way (Some a) held (Some d) uuid = not (is_plain d.latest) && meets_live held d (last_of uuid a.versions)

-- another account has the item
abbrev pub is_elsewhere : List Account → Account → Bytes → Bool
is_elsewhere accounts a uuid = list_any (λ b. not (is_account a.identifier b) && has_item uuid b) accounts

-- a new item whose uuid another account has; the device has no draft under the new uuid
abbrev pub may_rename : List Account → Option Account → Option Draft → Option Draft → Bytes → Bool
may_rename accounts None d other uuid = false
may_rename accounts (Some a) None other uuid = false
may_rename accounts (Some a) (Some d) other uuid = is_none d.base && is_none other && is_elsewhere accounts a uuid

-- a new item that was never sent, or one that is deleted and whose uuid another account has
abbrev pub may_drop : List Account → Option Account → Option Draft → Bytes → Bool
may_drop accounts None d uuid = false
may_drop accounts (Some a) None uuid = false
may_drop accounts (Some a) (Some d) uuid =
    is_none d.base && (is_none d.posted || (not (is_plain d.latest) && is_elsewhere accounts a uuid))

-- moves of a change of password

-- what was sent has the number of another set than this
abbrev pub is_sent_before : ℕ → Option Posted → Bool
is_sent_before n None = false
is_sent_before n (Some p) = is_some p.set && not (number_is n p.set)

-- the base is the last version's stamp, or there is neither
abbrev pub is_based : Option ℕ → Option Version → Bool
is_based None last = is_none last
is_based (Some stamp) None = false
is_based (Some stamp) (Some v) = v.stamp == stamp

abbrev pub may_unpost : Option Account → Option Draft → Bytes → Bool
may_unpost None d uuid = false
may_unpost (Some a) None uuid = false
may_unpost (Some a) (Some d) uuid = is_sent_before (length a.sets) d.posted && is_based d.base (last_of uuid a.versions)

-- the body is live and carries the set of this number
abbrev pub is_under : ℕ → Body → Bool
is_under n (Under text set) = set == n
is_under n Gone = false

-- a last version that is live and carries another set
abbrev pub is_behind : ℕ → Option Version → Bool
is_behind n None = false
is_behind n (Some v) = is_live v.body && not (is_under n v.body)

-- a last version that carries this set
abbrev pub is_carrier : ℕ → Option Version → Bool
is_carrier n None = false
is_carrier n (Some v) = is_under n v.body

-- the account that has the item seals its last version again, under its last set
abbrev pub may_rewrap : List Account → Option Account → Bytes → ℕ → ℕ → Bool
may_rewrap accounts None uuid stamp under = false
may_rewrap accounts (Some a) uuid stamp under =
    is_behind (length a.sets) (last_of uuid a.versions) && (under == length a.sets) && is_new_stamp accounts stamp

-- an account has 1,000,000 sets at most
abbrev pub most_sets : ℕ
most_sets = 1000000

-- each live last version carries the set of this number
abbrev pub none_behind : ℕ → List Version → Bool
none_behind n versions = list_all (λ v. not (is_behind n (last_of v.uuid versions))) versions

-- the nonce is fresh in the account, whose last versions carry its last set; the number is that of one more set
abbrev pub may_change : Option Account → ℕ → KeySet → Bool
may_change None number set = false
may_change (Some a) number set =
    not (list_any (λ k. bytes_eq k.params.pw_nonce set.params.pw_nonce) a.sets) && nat_lt (length a.sets) most_sets
    && none_behind (length a.sets) a.versions && (number == length a.sets + 1)

-- no last version carries the set of this number
abbrev pub none_carries : ℕ → List Version → Bool
none_carries n versions = list_all (λ v. not (is_carrier n (last_of v.uuid versions))) versions

-- the device holds the set and a greater one, and no last version carries it
abbrev pub may_retire : Option Account → List ℕ → ℕ → Bool
may_retire None held number = false
may_retire (Some a) held number = list_any (λ m. m == number) held && list_any (λ m. nat_lt number m) held && none_carries number a.versions

-- a move of a draft that meets a version, or another account's item
abbrev pub is_meeting : Move → Bool
is_meeting (Settle device uuid) = true
is_meeting (SettlePosted device uuid stamp) = true
is_meeting (Fork device uuid other) = true
is_meeting (Rename device uuid other) = true
is_meeting (GiveWay device uuid) = true
is_meeting m = false

-- a move of accounts and their sets
abbrev pub is_rekeying : Move → Bool
is_rekeying (Register identifier set) = true
is_rekeying (Join device identifier number) = true
is_rekeying (Unpost device uuid) = true
is_rekeying (Rewrap uuid stamp under) = true
is_rekeying (Change identifier number set) = true
is_rekeying (Retire device number) = true
is_rekeying m = false

abbrev pub allows : Ideal → Move → Bool
allows s (Register identifier set) = not (list_any (is_account identifier) s.accounts)
allows s (Join device identifier number) = may_join (account_named s identifier) (device_named s device) number
allows s (Edit device uuid kind base latest) = may_edit (account_of s device) (draft_at s device uuid) uuid kind base latest
allows s (Drop device uuid) = may_drop s.accounts (account_of s device) (draft_at s device uuid) uuid
allows s (Post device uuid) = may_post (account_of s device) (draft_at s device uuid)
allows s (Unpost device uuid) = may_unpost (account_of s device) (draft_at s device uuid) uuid
allows s (Accept device uuid stamp under) = may_accept s.accounts (account_of s device) (draft_at s device uuid) uuid stamp under
allows s (Rewrap uuid stamp under) = may_rewrap s.accounts (account_with s.accounts uuid) uuid stamp under
allows s (Settle device uuid) = may_settle (account_of s device) (draft_at s device uuid) uuid
allows s (SettlePosted device uuid stamp) = may_settle_posted (account_of s device) (draft_at s device uuid) uuid stamp
allows s (Fork device uuid other) =
    may_fork (account_of s device) (held_by (device_named s device)) (draft_at s device uuid) (draft_at s device other) uuid
allows s (Rename device uuid other) = may_rename s.accounts (account_of s device) (draft_at s device uuid) (draft_at s device other) uuid
allows s (GiveWay device uuid) = may_give_way (account_of s device) (held_by (device_named s device)) (draft_at s device uuid) uuid
allows s (Change identifier number set) = may_change (account_named s identifier) number set
allows s (Retire device number) = may_retire (account_of s device) (held_by (device_named s device)) number

-- what a move does

-- each element that passes is changed, and all else stays
abbrev pub changed_where : {A : Type 0} → (A → Bool) → (A → A) → List A → List A
changed_where p f xs = map (λ x. if p x then f x else x) xs

-- the elements that do not pass
abbrev pub without : {A : Type 0} → (A → Bool) → List A → List A
without p xs = filter (λ x. not (p x)) xs

-- an account with one set and no versions
abbrev pub registered : List Account → Bytes → KeySet → List Account
registered accounts identifier set = accounts ++ record { identifier = identifier; sets = set ∷ []; versions = [] } ∷ []

-- the device holds the set too, beside those that it held
abbrev pub joined : List Device → Bytes → Bytes → ℕ → Option Device → List Device
joined devices device identifier number None = devices ++ record { name = device; account = identifier; held = number ∷ [] } ∷ []
joined devices device identifier number (Some d) = changed_where (is_device device) (λ e. record e { held = e.held ++ number ∷ [] }) devices

-- the draft's content, in a new draft where there was none
abbrev pub edited : List Draft → Bytes → Bytes → Bytes → Option ℕ → Content → Option Draft → List Draft
edited drafts device uuid kind base latest None =
    drafts ++ record { device = device; uuid = uuid; kind = kind; base = base; latest = latest; posted = None } ∷ []
edited drafts device uuid kind base latest (Some d) = changed_where (is_draft device uuid) (λ e. record e { latest = latest }) drafts

-- what is sent is the content, or what was sent before, under the device's greatest set
abbrev pub posted_under : ℕ → Draft → Draft
posted_under number d = record d { posted = Some (record { content = sent_content d.latest d.posted; set = Some number }) }

-- the version that a draft becomes
abbrev pub version_of : ℕ → ℕ → Draft → Version
version_of stamp number d =
    record { uuid = d.uuid; stamp = stamp; kind = d.kind; body = body_under (sent_content d.latest d.posted) number }

abbrev pub accepted : List Account → Option Account → Option Draft → ℕ → List Account
accepted accounts None d stamp = accounts
accepted accounts (Some a) None stamp = accounts
accepted accounts (Some a) (Some d) stamp =
    changed_where (is_account a.identifier) (λ b. record b { versions = b.versions ++ version_of stamp (length a.sets) d ∷ [] }) accounts

-- the draft stands on this version, and nothing of it is sent any more
abbrev pub settled_at : ℕ → Draft → Draft
settled_at stamp d = record d { base = Some stamp; posted = None }

-- the copy of a content for the item that it comes from
abbrev pub copied : Content → Bytes → Content
copied (Plain text) uuid = Plain (copy_of text uuid)
copied Deleted uuid = Deleted

-- a new item under this uuid, with the copy of the content
abbrev pub forked : Bytes → Draft → Draft
forked other d = record d { uuid = other; base = None; latest = copied d.latest d.uuid; posted = None }

-- the same content under this uuid
abbrev pub renamed : Bytes → Draft → Draft
renamed other d = record d { uuid = other; posted = None }

-- what was sent, without the number of its set
abbrev pub without_number : Option Posted → Option Posted
without_number None = None
without_number (Some p) = Some (record p { set = None })

abbrev pub unposted : Draft → Draft
unposted d = record d { posted = without_number d.posted }

-- the same content under the set of this number; a deletion stays one
abbrev pub resealed : ℕ → Body → Body
resealed n (Under text set) = Under text n
resealed n Gone = Gone

-- the version with this stamp and set, if there is one
abbrev pub again : ℕ → ℕ → Option Version → List Version
again stamp n None = []
again stamp n (Some v) = record v { stamp = stamp; body = resealed n v.body } ∷ []

abbrev pub rewrapped : List Account → Option Account → Bytes → ℕ → List Account
rewrapped accounts None uuid stamp = accounts
rewrapped accounts (Some a) uuid stamp =
    changed_where (is_account a.identifier) (λ b. record b { versions = b.versions ++ again stamp (length a.sets) (last_of uuid a.versions) }) accounts

abbrev pub after : Ideal → Move → Ideal
after s (Register identifier set) = record s { accounts = registered s.accounts identifier set }
after s (Join device identifier number) = record s { devices = joined s.devices device identifier number (device_named s device) }
after s (Edit device uuid kind base latest) = record s { drafts = edited s.drafts device uuid kind base latest (draft_at s device uuid) }
after s (Drop device uuid) = record s { drafts = without (is_draft device uuid) s.drafts }
after s (Post device uuid) =
    record s { drafts = changed_where (is_draft device uuid) (posted_under (greatest 0 (held_by (device_named s device)))) s.drafts }
after s (Unpost device uuid) = record s { drafts = changed_where (is_draft device uuid) unposted s.drafts }
after s (Accept device uuid stamp under) = record s { accounts = accepted s.accounts (account_of s device) (draft_at s device uuid) stamp }
after s (Rewrap uuid stamp under) = record s { accounts = rewrapped s.accounts (account_with s.accounts uuid) uuid stamp }
after s (Settle device uuid) = record s { drafts = without (is_draft device uuid) s.drafts }
after s (SettlePosted device uuid stamp) = record s { drafts = changed_where (is_draft device uuid) (settled_at stamp) s.drafts }
after s (Fork device uuid other) = record s { drafts = changed_where (is_draft device uuid) (forked other) s.drafts }
after s (Rename device uuid other) = record s { drafts = changed_where (is_draft device uuid) (renamed other) s.drafts }
after s (GiveWay device uuid) = record s { drafts = without (is_draft device uuid) s.drafts }
after s (Change identifier number set) =
    record s { accounts = changed_where (is_account identifier) (λ a. record a { sets = a.sets ++ set ∷ [] }) s.accounts }
after s (Retire device number) =
    record s { devices = changed_where (is_device device) (λ d. record d { held = without (λ m. m == number) d.held }) s.devices }
