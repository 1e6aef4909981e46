-- A session token begins with its account's uuid.
use Rattle.std.proofs.Common.{arith, ◌≡◌, ◌∙◌, sym, ap, refl, subst, ℕ, ◌+◌, ◌^◌, ◌<◌, List, [], ◌∷◌, ◌++◌, length, length-append, append_assoc, get_or, take, Option, unwrap_or, codes}
use Rattle.std.specs.Fmt.{decimal}
use Rattle.std.specs.Str.{IsCharBoundary}
use Rattle.std.proofs.lemmas.List.{get_or_at, take_at}
use Rattle.std.proofs.lemmas.Str.{IsCharBoundary-before_ascii}
use Rattle.hex.specs.Hex.{encode_lower}
use Rattle.uuid.proofs.TextLemmas.{by_index_length}
use Rattle.sn_hmac.specs.Hmac.{hmac_sha256}
use Rattle.sn_string.specs.Uuids.{IsUuidText, uuid_text}
use Rattle.sn_string.proofs.Facts.{parsed-spelled}
use Rattle.sn_rows.specs.Table.{Rows}
use Rattle.sn_rows.specs.declared.server_rows.AccountRow.{AccountRow}
use Rattle.sn_rows.specs.declared.value.Value.TheVariants as value
use Rattle.sn_account.specs.Laws.{HasOneAccount}
use Rattle.sn_account.specs.Lookups.{HasAccount}
use Rattle.sn_account.specs.Sessions.{account_uuid, session_token}
use Rattle.sn_account.specs.Sound.{IsSound}
use Rattle.sn_account.proofs.AccountUuids.{IsUuidText-account, same_number}

around_colon : (secret uuid : List ℕ) (g : ℕ) → uuid ++ codes "." ++ encode_lower (hmac_sha256 secret (uuid ++ codes ":" ++ decimal g))
    ≡ uuid ++ 46 ∷ encode_lower (hmac_sha256 secret (uuid ++ 58 ∷ decimal g))
around_colon secret uuid g =
    append_assoc uuid (codes ".") (encode_lower (hmac_sha256 secret (uuid ++ codes ":" ++ decimal g)))
    ∙ ap (λ (signed : List ℕ). uuid ++ 46 ∷ encode_lower (hmac_sha256 secret signed)) (append_assoc uuid (codes ":") (decimal g))

pub session_token-parts : (secret : List ℕ) (n g : ℕ) → session_token secret n g ≡ uuid_text (account_uuid n) ++ 46 ∷ encode_lower (hmac_sha256 secret (uuid_text (account_uuid n) ++ 58 ∷ decimal g))
unfolding session_token
session_token-parts secret n g = around_colon secret (uuid_text (account_uuid n)) g

-- the text that its parts make is the token
pub token_written : (secret token uuid signed mac : List ℕ) (n g : ℕ) → uuid ≡ uuid_text (account_uuid n) → signed ≡ uuid ++ 58 ∷ decimal g
    → mac ≡ encode_lower (hmac_sha256 secret signed) → token ≡ uuid ++ 46 ∷ mac → token ≡ session_token secret n g
token_written secret token uuid signed mac n g u s m t =
    let signed_is = s ∙ ap (λ (front : List ℕ). front ++ 58 ∷ decimal g) u in
    let mac_is = m ∙ ap (λ (text : List ℕ). encode_lower (hmac_sha256 secret text)) signed_is in
    t ∙ ap (λ (front : List ℕ). front ++ 46 ∷ mac) u ∙ ap (λ (rest : List ℕ). uuid_text (account_uuid n) ++ 46 ∷ rest) mac_is ∙ sym (session_token-parts secret n g)

-- the text begins with the uuid of this account, and a dot
pub record BeginsWith (text : List ℕ) (n : ℕ) : Type 0 where
  pub rest : List ℕ
  pub is : text ≡ uuid_text (account_uuid n) ++ 46 ∷ rest

pub BeginsWith-token : (token secret : List ℕ) (n g : ℕ) → token ≡ session_token secret n g → BeginsWith token n
BeginsWith-token token secret n g e = record {
  rest = encode_lower (hmac_sha256 secret (uuid_text (account_uuid n) ++ 58 ∷ decimal g));
  is = e ∙ session_token-parts secret n g;
}

length-uuid_text : (uuid : List ℕ) → length (uuid_text uuid) ≡ 36
length-uuid_text uuid = by_index_length 36 _

-- so it may be cut behind the uuid
pub IsCharBoundary-uuid : (text : List ℕ) (n : ℕ) → BeginsWith text n → IsCharBoundary text 36
IsCharBoundary-uuid text n h =
    let uuid = uuid_text (account_uuid n) in
    let front = length-uuid_text (account_uuid n) in
    let long : length text ≡ length uuid + length (46 ∷ h.rest) = ap length h.is ∙ length-append uuid (46 ∷ h.rest) in
    let dot : get_or text 36 0 ≡ 46 = ap (λ (t : List ℕ). get_or t 36 0) h.is ∙ get_or_at uuid 46 h.rest 0 36 front in
    IsCharBoundary-before_ascii text 36 (omega arith) (omega arith)

-- and its front spells the account's uuid
pub IsUuidText-front : (text front : List ℕ) (n : ℕ) → BeginsWith text n → front ≡ take 36 text → IsUuidText front (account_uuid n)
IsUuidText-front text front n h e =
    let cut = ap (take 36) h.is ∙ take_at (uuid_text (account_uuid n)) (46 ∷ h.rest) 36 (length-uuid_text (account_uuid n)) in
    subst (λ (t : List ℕ). IsUuidText t (account_uuid n)) (sym (e ∙ cut)) (IsUuidText-account n)

pub same_uuid : (text a b : List ℕ) → IsUuidText text a → IsUuidText text b → a ≡ b
same_uuid text a b h k = ap (λ (o : Option (List ℕ)). unwrap_or o []) (parsed-spelled text a h ∙ sym (parsed-spelled text b k))

-- and no other
pub uuid_in_front : (text front uuid : List ℕ) (n : ℕ) → BeginsWith text n → front ≡ take 36 text → IsUuidText front uuid → uuid ≡ account_uuid n
uuid_in_front text front uuid n h e k = same_uuid front uuid (account_uuid n) k (IsUuidText-front text front n h e)

-- so it begins with one account's uuid at most
pub same_account : (text : List ℕ) (n m : ℕ) → n < 2 ^ 48 → m < 2 ^ 48 → BeginsWith text n → BeginsWith text m → n ≡ m
same_account text n m hn hm a b =
    same_number n m hn hm (uuid_in_front text (take 36 text) (account_uuid n) m b refl (IsUuidText-front text (take 36 text) n a refl))

-- the number of an account of sound rows fits in 48 bits
pub number_fits : (rows : Rows) (n : ℕ) (account : AccountRow) → IsSound rows → HasAccount rows n account → n < 2 ^ 48
number_fits rows n account sound there =
    let counted = sound.numbered n (value.Account account) there in
    let bound = sound.bound in
    omega arith

pub one_account : HasOneAccount
one_account rows token n m sound a b =
    same_account token n m (number_fits rows n a.account sound a.there) (number_fits rows m b.account sound b.there)
    (BeginsWith-token token a.store.secret n a.account.generation a.is) (BeginsWith-token token b.store.secret m b.account.generation b.is)
