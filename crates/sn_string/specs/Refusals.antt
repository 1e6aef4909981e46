-- When each refusal of a text comes.
use Rattle.std.specs.Prelude.{◌≡◌, ◌≢◌, ℕ, ◌+◌, List, [], ◌∷◌, length, ⊤}
use Rattle.sn_string.specs.Grammar.{IsHash, IsUuid, IsIv, IsCiphertext, joined, parts_of, version}
use Rattle.sn_string.specs.Parameters.{IsParamsPart}
use Rattle.sn_string.specs.declared.params.Params.{Params}
use Rattle.sn_string.specs.declared.reader.StringError.{StringError}
use Rattle.sn_string.specs.declared.reader.StringError.TheVariants as error

-- the part stands for no parameters
abbrev pub IsNoParamsPart : List ℕ → Type 0
IsNoParamsPart part = (p : Params) → ¬ (IsParamsPart part p)

-- the byte at which the part after these begins
abbrev pub place_after : List (List ℕ) → ℕ
place_after before = length (joined before) + 1

-- of a version, a hash, a uuid, an initialization vector, a ciphertext and a params part, the
-- leftmost that is out of form, and the byte at which it begins
abbrev pub IsLeftmost : (v h u i c p : List ℕ) → StringError → Type 0
IsLeftmost v h u i c p (error.Parts count) = ⊥
IsLeftmost v h u i c p (error.Version place) = (v ≢ version) × (place ≡ 0)
IsLeftmost v h u i c p (error.Hash place) =
    (v ≡ version) × ¬ (IsHash h) × (place ≡ place_after (v ∷ []))
IsLeftmost v h u i c p (error.Uuid place) =
    (v ≡ version) × IsHash h × ¬ (IsUuid u) × (place ≡ place_after (v ∷ h ∷ []))
IsLeftmost v h u i c p (error.Iv place) =
    (v ≡ version) × IsHash h × IsUuid u × ¬ (IsIv i) × (place ≡ place_after (v ∷ h ∷ u ∷ []))
IsLeftmost v h u i c p (error.Ciphertext place) =
    (v ≡ version) × IsHash h × IsUuid u × IsIv i × ¬ (IsCiphertext c)
    × (place ≡ place_after (v ∷ h ∷ u ∷ i ∷ []))
IsLeftmost v h u i c p (error.Params place) =
    (v ≡ version) × IsHash h × IsUuid u × IsIv i × IsCiphertext c × IsNoParamsPart p
    × (place ≡ place_after (v ∷ h ∷ u ∷ i ∷ c ∷ []))
IsLeftmost v h u i c p error.Memory = ⊥

-- the refusal of a text with these parts: their number where they are not six, else the leftmost
-- part out of form
abbrev pub RefusedFor : List (List ℕ) → StringError → Type 0
RefusedFor (v ∷ h ∷ u ∷ i ∷ c ∷ p ∷ []) e = IsLeftmost v h u i c p e
RefusedFor parts e = e ≡ error.Parts (length parts)

-- the text may be refused so; want of memory may come anywhere
abbrev pub IsRefusal : List ℕ → StringError → Type 0
IsRefusal text error.Memory = ⊤
IsRefusal text e = RefusedFor (parts_of text) e
