-- How what a call looks at refuses it.
use Rattle.std.specs.Prelude.{◌≡◌, ◌⊎◌, ◌↔◌, ℕ, Bool, List, [], Option, Some, None, IsSome, IsTrue, Result, Ok, Err, IfErr, IfOk, IsErrAnd}
use Rattle.std.proofs.Common.{inl, inr, refl, sym, ap, subst, ◌∙◌, ⊎_elim}
use Rattle.sn_rows.specs.Table.{Rows}
use Rattle.sn_rows.specs.declared.body.RowBody.{RowBody}
use Rattle.sn_rows.specs.declared.body.RowBody.TheVariants as row
use Rattle.sn_rows.specs.declared.body.RowStrings.{RowStrings}
use Rattle.sn_rows.specs.declared.device_rows.LocalItem.{LocalItem}
use Rattle.sn_rows.specs.declared.device_rows.OwnerRow.{OwnerRow}
use Rattle.sn_sets.specs.declared.sets.Sets.{Sets}
use Rattle.sn_string.specs.Grammar.{Is003, Reading}
use Rattle.sn_drafts.specs.Refusing.{MayRefuse, none_more}
use Rattle.sn_device.specs.Listing.{IsClosed, IsDeleted, SaysNonce, Shows, shown_of}
use Rattle.sn_device.specs.Runs.{Act, Halt, IsGone, WithAccount, WithContent, WithItem, refused}
use Rattle.sn_device.specs.Sending.{first_some}
use Rattle.sn_device.specs.States.{Bytes, HasItem, HasSets, IsSoundItem, NamesVersion, columns}
use Rattle.sn_device.specs.declared.error.ClientError.{ClientError}
use Rattle.sn_device.specs.declared.error.ClientError.TheVariants as refusal

-- ---- refusals, handed on

pub no_memory : (P : List Act → Halt → Type 0) → MayRefuse P refusal.Memory
no_memory P = inl (refl, refl)

-- want of memory stays, and the rest is refused as said
pub refuses_as : (P Q : List Act → Halt → Type 0) (why : ClientError) → (P [] (refused why) → Q [] (refused why)) → MayRefuse P why → MayRefuse Q why
refuses_as P Q why so (inl wants) = inl wants
refuses_as P Q why so (inr p) = inr (so p)

-- there is no account
pub without_account : (rows : Rows) (P : OwnerRow → Sets → List Act → Halt → Type 0) (why : ClientError) → MayRefuse (WithAccount rows (λ owner sets. none_more)) why
    → MayRefuse (WithAccount rows P) why
without_account rows P why may = refuses_as (WithAccount rows (λ owner sets. none_more)) (WithAccount rows P) why so may
  where
    so : WithAccount rows (λ owner sets. none_more) [] (refused why) → WithAccount rows P [] (refused why)
    so (inl none) = inl none
    so (inr (owner, sets, holds, more)) = absurd more

-- there is one
pub of_account : (rows : Rows) (P : OwnerRow → Sets → List Act → Halt → Type 0) (owner : OwnerRow) (sets : Sets) (why : ClientError) → HasSets rows owner sets
    → MayRefuse (P owner sets) why → MayRefuse (WithAccount rows P) why
of_account rows P owner sets why holds may = refuses_as (P owner sets) (WithAccount rows P) why (λ p. inr (owner, sets, holds, p)) may

-- the content isn't taken
pub of_content : (text : Bytes) (P : List Act → Halt → Type 0) (why : ClientError) → MayRefuse (WithContent text none_more) why → MayRefuse (WithContent text P) why
of_content text P why may = refuses_as (WithContent text none_more) (WithContent text P) why so may
  where
    so : WithContent text none_more [] (refused why) → WithContent text P [] (refused why)
    so (inl long) = inl long
    so (inr (short, inl other)) = inr (short, inl other)
    so (inr (short, inr (object, more))) = absurd more

-- why an item isn't shown
abbrev pub RefusesShown : Sets → LocalItem → ClientError → Type 0
RefusesShown sets local why = (why ≡ refusal.Memory) ⊎ ((nonce : Bytes) × IsClosed sets local nonce × (why ≡ refusal.Closed nonce))

-- the item is gone
pub of_gone : (rows : Rows) (sets : Sets) (uuid : Bytes) (P : Bytes → List Act → Halt → Type 0) (why : ClientError) → IsGone rows uuid × (why ≡ refusal.NoItem uuid)
    → MayRefuse (WithItem rows sets uuid P) why
of_gone rows sets uuid P why (gone, is) = inr (inl (gone, (refl, ap (λ (e : ClientError). refused e) is)))

-- it stands, and isn't shown
pub of_closed : (rows : Rows) (sets : Sets) (uuid : Bytes) (P : Bytes → List Act → Halt → Type 0) (number : ℕ) (local : LocalItem) (why : ClientError)
    → HasItem rows uuid number local → ¬ (IsDeleted local) → RefusesShown sets local why → MayRefuse (WithItem rows sets uuid P) why
of_closed rows sets uuid P number local why has stands (inl is) = inl (refl, ap (λ (e : ClientError). refused e) is)
of_closed rows sets uuid P number local why has stands (inr (nonce, closed, is)) =
    inr (inr (number, local, has, stands, inl (nonce, closed, (refl, ap (λ (e : ClientError). refused e) is))))

-- it is shown
pub of_shown : (rows : Rows) (sets : Sets) (uuid : Bytes) (P : Bytes → List Act → Halt → Type 0) (number : ℕ) (local : LocalItem) (shown : Bytes) (why : ClientError)
    → HasItem rows uuid number local → ¬ (IsDeleted local) → Shows sets local shown → MayRefuse (P shown) why → MayRefuse (WithItem rows sets uuid P) why
of_shown rows sets uuid P number local shown why has stands shows may =
    refuses_as (P shown) (WithItem rows sets uuid P) why (λ p. inr (number, local, has, stands, inr (shown, shows, p))) may

-- ---- the version that the user sees

-- an undeleted sound item has a sealed one, and its key string is a 003 string
pub record IsShown (local : LocalItem) : Type 0 where
  pub strings : RowStrings
  pub is : shown_of local ≡ Some (row.Sealed strings)
  pub reading : Reading
  pub reads : Is003 strings.enc reading

named : (uuid : Bytes) (strings : RowStrings) (version : Option RowBody) → version ≡ Some (row.Sealed strings) → NamesVersion uuid version
    → (reading : Reading) × Is003 strings.enc reading
named uuid strings version is names =
    let n : NamesVersion uuid (Some (row.Sealed strings)) = subst (λ (v : Option RowBody). NamesVersion uuid v) is names in
    (n.1.0, n.1.1.reads)

shown_in : (local : LocalItem) (body latest : Option RowBody) → local.body ≡ body → local.latest ≡ latest → IsSoundItem (columns local) → ¬ (IsDeleted local) → IsShown local
shown_in local body (Some row.Deleted) on draft sound stands = absurd (stands draft)
shown_in local body (Some (row.Sealed strings)) on draft sound stands =
    let found = named local.uuid strings local.latest draft sound.latest_named in
    record { strings = strings; is = ap (λ (v : Option RowBody). first_some v local.body) draft; reading = found.0; reads = found.1 }
shown_in local (Some row.Deleted) None on draft sound stands = absurd (sound.undeleted on)
shown_in local (Some (row.Sealed strings)) None on draft sound stands =
    let found = named local.uuid strings local.body on sound.body_named in
    record { strings = strings; is = ap (λ (v : Option RowBody). first_some v local.body) draft ∙ on; reading = found.0; reads = found.1 }
shown_in local None None on draft sound stands =
    absurd (⊎_elim (λ based. none_is (subst (λ (v : Option RowBody). IsSome v) on (sound.based.0 based))) (λ some. none_is (subst (λ (v : Option RowBody). IsSome v) draft some)) sound.some)
  where
    none_is : IsSome {T = RowBody} None → ⊥
    none_is h = cc

pub is_shown : (local : LocalItem) → IsSoundItem (columns local) → ¬ (IsDeleted local) → IsShown local
is_shown local sound stands = shown_in local local.body local.latest refl refl sound stands

-- its key string is one
pub reads_shown : (local : LocalItem) (strings : RowStrings) → IsSoundItem (columns local) → ¬ (IsDeleted local) → shown_of local ≡ Some (row.Sealed strings)
    → (reading : Reading) × Is003 strings.enc reading
reads_shown local strings sound stands is =
    let shown = is_shown local sound stands in
    let same : strings ≡ shown.strings = (let e : Some (row.Sealed strings) ≡ Some (row.Sealed shown.strings) = sym is ∙ shown.is in cc) in
    (shown.reading, subst (λ (s : RowStrings). Is003 s.enc shown.reading) (sym same) shown.reads)

pub says_nonce : {E : Type 0} (strings : RowStrings) (text : Bytes) (reading : Reading) (result : Result Bytes E) → text ≡ strings.enc → Is003 text reading
    → IfOk result (λ nonce. nonce ≡ reading.params.pw_nonce) → IfOk result (SaysNonce strings)
says_nonce strings text reading (Ok nonce) same reads is = (reading, subst (λ (t : Bytes). Is003 t reading) same reads, is)
says_nonce strings text reading (Err e) same reads is = is

-- a draft that is a deletion
pub deleted_by : (latest : Option RowBody) (version : RowBody) (b : Bool) → latest ≡ Some version → IsTrue b ↔ (version ≡ row.Deleted)
    → IsTrue b ↔ (latest ≡ Some row.Deleted)
deleted_by latest version b is h = (λ t. is ∙ ap (λ (v : RowBody). Some v) (h.0 t), λ e. h.1 (let same : Some version ≡ Some row.Deleted = sym is ∙ e in cc))

-- a refusal that is handed on
pub exits : {T : Type 0} (P Q : ClientError → Type 0) (r : Result T ClientError) (why : ClientError) → IsErrAnd r (λ e. e ≡ why) → (P why → Q why) → P why → IfErr r Q
exits P Q (Ok given) why exit so p = absurd exit
exits P Q (Err e) why exit so p = subst Q (sym exit) (so p)
