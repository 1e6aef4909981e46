-- The lines of a script, by their words.
use Rattle.std.specs.Prelude.{◌≡◌, ◌⊎◌, ℕ, ◌^◌, ◌<◌, ◌≤◌, ◌==◌, List, [], ◌∷◌, ◌++◌, length, Bool, ◌&&◌, ◌||◌, codes, nat_le, IsTrue, Option, MatchOption, slice_index}
use Rattle.std.specs.Fmt.{decimal}
use Rattle.std.specs.List.{list_all, join_with_byte, slice_split}
use Rattle.sn_string.specs.Hex.{IsLowerHex}
use Rattle.sn_script.specs.declared.script.Fate.{Fate}
use Rattle.sn_script.specs.declared.script.Fate.TheVariants as fate
use Rattle.sn_script.specs.declared.script.Line.{Line}
use Rattle.sn_script.specs.declared.script.Line.TheVariants as line
use Rattle.sn_script.specs.declared.script.Ordinal.{Ordinal}
use Rattle.sn_script.specs.declared.script.Ordinal.TheVariants as ordinal

abbrev pub Word : Type 0
Word = List ℕ

-- the parts round each byte c
abbrev pub parts : ℕ → List ℕ → List Word
parts c text = slice_split (λ b. b == c) text

-- a digit of ASCII, and a letter or a digit
abbrev pub is_digit : ℕ → Bool
is_digit c = nat_le 48 c && nat_le c 57

abbrev pub is_letter_or_digit : ℕ → Bool
is_letter_or_digit c = is_digit c || (nat_le 65 c && nat_le c 90) || (nat_le 97 c && nat_le c 122)

-- a lower-case hex digit
abbrev pub is_hex_digit : ℕ → Bool
is_hex_digit c = is_digit c || (nat_le 97 c && nat_le c 102)

-- a decimal number, however long: digits, the first of them 0 in the number 0 alone
pub record IsNumber (w : Word) : Type 0 where
  pub some : 1 ≤ length w
  pub digits : IsTrue (list_all is_digit w)
  pub plain : slice_index w 0 ≡ 48 → length w ≡ 1

-- the number says which one: its value, or, where no value of 64 bits is written so, one beyond all that there are
abbrev pub IsOrdinal : Word → Ordinal → Type 0
IsOrdinal w (ordinal.Nth n) = (w ≡ decimal n) × (n < 2 ^ 64)
IsOrdinal w ordinal.Beyond = IsNumber w × ((n : ℕ) → n < 2 ^ 64 → ¬ (w ≡ decimal n))

-- a device's name: 1 to 8 letters or digits
pub record IsName (w : Word) : Type 0 where
  pub some : 1 ≤ length w
  pub few : length w ≤ 8
  pub plain : IsTrue (list_all is_letter_or_digit w)

-- an identifier or a password: 1 to 254 bytes
abbrev pub IsShort : Word → Type 0
IsShort w = (1 ≤ length w) × (length w ≤ 254)

-- a label: its number behind a #
abbrev pub IsLabel : Word → Ordinal → Type 0
IsLabel w which = (number : Word) × (w ≡ 35 ∷ number) × IsOrdinal number which

-- what a stopped disk holds: nothing since its last sync, all of it, or one byte, in two hex digits, at every unsynced place
abbrev pub IsImage : Word → Type 0
IsImage w = (w ≡ codes "old") ⊎ (w ≡ codes "new")
    ⊎ ((high : ℕ) × (low : ℕ) × (w ≡ 120 ∷ high ∷ low ∷ []) × IsTrue (is_hex_digit high) × IsTrue (is_hex_digit low))

-- the word begins with a name, and what follows has this form
abbrev pub IsNamed : Word → (Word → Type 0) → Word → Type 0
IsNamed name Form w = (rest : Word) × (w ≡ name ++ rest) × Form rest

-- which one is said behind a name: the first by nothing, any by its number behind an equals sign
abbrev pub IsCount : Word → Ordinal → Type 0
IsCount w which = ((w ≡ []) × (which ≡ ordinal.Nth 1)) ⊎ ((number : Word) × (w ≡ 61 ∷ number) × IsOrdinal number which)

-- a number and an image, with a colon between them
abbrev pub IsPlace : Word → Type 0
IsPlace w = (number : Word) × (image : Word) × (w ≡ number ++ 58 ∷ image) × IsNumber number × IsImage image

-- those behind an equals sign
abbrev pub IsStop : Word → Type 0
IsStop w = (place : Word) × (w ≡ 61 ∷ place) × IsPlace place

-- the word says the loss: which request isn't delivered, or which one's reply is lost
abbrev pub IsLoss : Word → Fate → Type 0
IsLoss w (fate.DropRequest which) = IsNamed (codes "drop-request") (λ rest. IsCount rest which) w
IsLoss w (fate.DropReply which) = IsNamed (codes "drop-reply") (λ rest. IsCount rest which) w

-- where a disk stops
abbrev pub IsDiskStop : Word → Type 0
IsDiskStop w = IsNamed (codes "stop-device") IsStop w ⊎ IsNamed (codes "stop-server") IsStop w

-- a fate. Where a disk stops is none that a line may have yet, and no text begins with it either
unfoldable pub IsFate : Word → Type 0
IsFate w = ((loss : Fate) × IsLoss w loss) ⊎ IsDiskStop w

-- words that say losses, each one
abbrev pub AreLosses : List Word → List Fate → Type 0
AreLosses [] [] = Unit {0}
AreLosses (w ∷ ws) (f ∷ fs) = IsLoss w f × AreLosses ws fs
AreLosses [] (f ∷ fs) = ⊥
AreLosses (w ∷ ws) [] = ⊥

-- losses, and behind them the words of a text: one at least, and the first of them no fate
pub record IsTextBehind (ws : List Word) (fates : List Fate) (text : List ℕ) : Type 0 where
  pub losses : List Word
  pub first : Word
  pub more : List Word
  pub words_are : ws ≡ losses ++ first ∷ more
  pub lost : AreLosses losses fates
  pub no_fate : ¬ (IsFate first)
  pub text_is : text ≡ join_with_byte 32 (first ∷ more)

-- a device, an identifier and a password, and losses
pub record IsEntry (ws : List Word) (device identifier password : Word) (fates : List Fate) : Type 0 where
  pub losses : List Word
  pub words_are : ws ≡ device ∷ identifier ∷ password ∷ losses
  pub named : IsName device
  pub identified : IsShort identifier
  pub known : IsShort password
  pub lost : AreLosses losses fates

-- the words spell the line
abbrev pub IsLine : List Word → Line → Type 0
IsLine ws (line.Seed bytes) = (digits : Word) × (ws ≡ codes "seed" ∷ digits ∷ []) × IsLowerHex 32 digits bytes
IsLine ws (line.Cost n) = (ws ≡ codes "cost" ∷ decimal n ∷ []) × (1 ≤ n) × (n ≤ 1000000)
IsLine ws (line.Clock n) = (ws ≡ codes "clock" ∷ decimal n ∷ []) × (n < 2 ^ 64)
IsLine ws (line.Register device identifier password fates) =
    (rest : List Word) × (ws ≡ codes "register" ∷ rest) × IsEntry rest device identifier password fates
IsLine ws (line.SignIn device identifier password fates) =
    (rest : List Word) × (ws ≡ codes "signin" ∷ rest) × IsEntry rest device identifier password fates
IsLine ws (line.Put device fates text) =
    (rest : List Word) × (ws ≡ codes "put" ∷ device ∷ rest) × IsName device × IsTextBehind rest fates text
IsLine ws (line.Edit device label fates text) = (number : Word) × (rest : List Word)
    × (ws ≡ codes "edit" ∷ device ∷ number ∷ rest) × IsName device × IsLabel number label × IsTextBehind rest fates text
IsLine ws (line.Delete device label fates) = (number : Word) × (losses : List Word)
    × (ws ≡ codes "del" ∷ device ∷ number ∷ losses) × IsName device × IsLabel number label × AreLosses losses fates
IsLine ws (line.Sync device fates) =
    (losses : List Word) × (ws ≡ codes "sync" ∷ device ∷ losses) × IsName device × AreLosses losses fates
IsLine ws (line.Passwd device password fates) = (losses : List Word)
    × (ws ≡ codes "passwd" ∷ device ∷ password ∷ losses) × IsName device × IsShort password × AreLosses losses fates
IsLine ws (line.Late device request) =
    (number : Word) × (ws ≡ codes "late" ∷ device ∷ number ∷ []) × IsName device × IsOrdinal number request
IsLine ws line.Show = ws ≡ codes "show" ∷ []

-- what is found of the words is their line, or nothing where they spell none
abbrev pub IsReading : List Word → Option Line → Type 0
IsReading ws found = MatchOption found ((l : Line) → ¬ (IsLine ws l)) (IsLine ws)
