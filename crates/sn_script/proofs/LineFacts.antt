-- The words of a line tell the line.
use Rattle.std.proofs.Common.{rules, arith, ◌≡◌, ℕ, List, [], ◌∷◌, Ok, codes, ap, sym, ◌∙◌, subst}
use Rattle.std.specs.Fmt.{decimal}
use Rattle.std.proofs.lemmas.Fmt.{decimal_injective}
use Rattle.hex.specs.Hex.{decode_sized}
use Rattle.hex.proofs.HexLemmas.{decode_sized-encode_lower}
use Rattle.sn_string.specs.Hex.{IsLowerHex}
use Rattle.sn_script.specs.Grammar.{Word, AreLosses, IsEntry, IsLabel, IsLine, IsOrdinal, IsTextBehind}
use Rattle.sn_script.specs.declared.script.Fate.{Fate}
use Rattle.sn_script.specs.declared.script.Line.{Line}
use Rattle.sn_script.specs.declared.script.Line.TheVariants as line
use Rattle.sn_script.proofs.Losses.{one_fates, one_text}
use Rattle.sn_script.proofs.Ordinals.{one_label, one_ordinal}

abbrev first_of : List Word → Word
first_of [] = []
first_of (w ∷ ws) = w

abbrev pub command : Line → Word
command (line.Seed bytes) = codes "seed"
command (line.Cost n) = codes "cost"
command (line.Clock n) = codes "clock"
command (line.Register device identifier password fates) = codes "register"
command (line.SignIn device identifier password fates) = codes "signin"
command (line.Put device fates text) = codes "put"
command (line.Edit device label fates text) = codes "edit"
command (line.Delete device label fates) = codes "del"
command (line.Sync device fates) = codes "sync"
command (line.Passwd device password fates) = codes "passwd"
command (line.Late device request) = codes "late"
command line.Show = codes "show"

pub begins : (ws : List Word) (l : Line) → IsLine ws l → first_of ws ≡ command l
begins ws (line.Seed bytes) h = ap first_of h.1
begins ws (line.Cost n) h = ap first_of h.0
begins ws (line.Clock n) h = ap first_of h.0
begins ws (line.Register device identifier password fates) h = ap first_of h.1
begins ws (line.SignIn device identifier password fates) h = ap first_of h.1
begins ws (line.Put device fates text) h = ap first_of h.1
begins ws (line.Edit device label fates text) h = ap first_of h.2
begins ws (line.Delete device label fates) h = ap first_of h.2
begins ws (line.Sync device fates) h = ap first_of h.1
begins ws (line.Passwd device password fates) h = ap first_of h.1
begins ws (line.Late device request) h = ap first_of h.1
begins ws line.Show h = ap first_of h

-- digits spell one list of bytes
same_bytes : (n : ℕ) (text one other : List ℕ) → IsLowerHex n text one → IsLowerHex n text other → one ≡ other
same_bytes n text one other a b =
    let first : decode_sized text n ≡ Ok one =
    ap (λ t. decode_sized t n) a.spelled ∙ decode_sized-encode_lower one n a.count a.fit in
    let second : decode_sized text n ≡ Ok other =
    ap (λ t. decode_sized t n) b.spelled ∙ decode_sized-encode_lower other n b.count b.fit in
    cc

-- the same words name the same
pub record SameEntry (d i p : Word) (fs : List Fate) (d' i' p' : Word) (gs : List Fate) : Type 0 where
  pub devices : d ≡ d'
  pub identifiers : i ≡ i'
  pub passwords : p ≡ p'
  pub fates : fs ≡ gs

one_entry : (ws : List Word) (d i p d' i' p' : Word) (fs gs : List Fate) → IsEntry ws d i p fs → IsEntry ws d' i' p' gs → SameEntry d i p fs d' i' p' gs
one_entry ws d i p d' i' p' fs gs a b =
    let e : d ∷ i ∷ p ∷ a.losses ≡ d' ∷ i' ∷ p' ∷ b.losses = sym a.words_are ∙ b.words_are in
    let rest : b.losses ≡ a.losses = cc in
    record {
      devices = cc;
      identifiers = cc;
      passwords = cc;
      fates = one_fates a.losses fs gs a.lost (subst (λ ls. AreLosses ls gs) rest b.lost);
    }

-- words spell one line at most
pub one_line : (ws : List Word) (l m : Line) → IsLine ws l → IsLine ws m → l ≡ m
one_line ws (line.Seed bytes) (line.Seed others) (digits, e, lower) (digits', e', lower') =
    let same : digits' ≡ digits = cc in
    ap line.Seed (same_bytes 32 digits bytes others lower (subst (λ t. IsLowerHex 32 t others) same lower'))
one_line ws (line.Cost n) (line.Cost m) (e, low, high) (e', low', high') =
    let same : decimal n ≡ decimal m = cc in
    ap line.Cost (decimal_injective n m (omega (arith, high)) (omega (arith, high')) same)
one_line ws (line.Clock n) (line.Clock m) (e, small) (e', small') =
    let same : decimal n ≡ decimal m = cc in
    ap line.Clock (decimal_injective n m small small' same)
one_line ws (line.Register d i p fates) (line.Register d' i' p' fates') (rest, e, is) (rest', e', is') =
    let behind : rest' ≡ rest = cc in
    let same = one_entry rest d i p d' i' p' fates fates' is (subst (λ ws. IsEntry ws d' i' p' fates') behind is') in
    let devices : d ≡ d' = same.devices in
    let identifiers : i ≡ i' = same.identifiers in
    let passwords : p ≡ p' = same.passwords in
    let losses : fates ≡ fates' = same.fates in
    cc
one_line ws (line.SignIn d i p fates) (line.SignIn d' i' p' fates') (rest, e, is) (rest', e', is') =
    let behind : rest' ≡ rest = cc in
    let same = one_entry rest d i p d' i' p' fates fates' is (subst (λ ws. IsEntry ws d' i' p' fates') behind is') in
    let devices : d ≡ d' = same.devices in
    let identifiers : i ≡ i' = same.identifiers in
    let passwords : p ≡ p' = same.passwords in
    let losses : fates ≡ fates' = same.fates in
    cc
one_line ws (line.Put device fates text) (line.Put device' fates' text') (rest, e, name, is) (rest', e', name', is') =
    let devices : device ≡ device' = cc in
    let behind : rest' ≡ rest = cc in
    let same = one_text rest fates fates' text text' is (subst (λ ws. IsTextBehind ws fates' text') behind is') in
    let losses : fates ≡ fates' = same.0 in
    let texts : text ≡ text' = same.1 in
    cc
one_line ws (line.Edit device label fates text) (line.Edit device' label' fates' text') (number, rest, e, name, which, is)
    (number', rest', e', name', which', is') =
    let devices : device ≡ device' = cc in
    let numbers : number' ≡ number = cc in
    let labels : label ≡ label' = one_label number label label' which (subst (λ w. IsLabel w label') numbers which') in
    let behind : rest' ≡ rest = cc in
    let same = one_text rest fates fates' text text' is (subst (λ ws. IsTextBehind ws fates' text') behind is') in
    let losses : fates ≡ fates' = same.0 in
    let texts : text ≡ text' = same.1 in
    cc
one_line ws (line.Delete device label fates) (line.Delete device' label' fates') (number, rest, e, name, which, are)
    (number', rest', e', name', which', are') =
    let devices : device ≡ device' = cc in
    let numbers : number' ≡ number = cc in
    let labels : label ≡ label' = one_label number label label' which (subst (λ w. IsLabel w label') numbers which') in
    let behind : rest' ≡ rest = cc in
    let losses : fates ≡ fates' = one_fates rest fates fates' are (subst (λ ws. AreLosses ws fates') behind are') in
    cc
one_line ws (line.Sync device fates) (line.Sync device' fates') (rest, e, name, are) (rest', e', name', are') =
    let devices : device ≡ device' = cc in
    let behind : rest' ≡ rest = cc in
    let losses : fates ≡ fates' = one_fates rest fates fates' are (subst (λ ws. AreLosses ws fates') behind are') in
    cc
one_line ws (line.Passwd device password fates) (line.Passwd device' password' fates') (rest, e, name, short, are) (rest', e', name', short', are') =
    let devices : device ≡ device' = cc in
    let passwords : password ≡ password' = cc in
    let behind : rest' ≡ rest = cc in
    let losses : fates ≡ fates' = one_fates rest fates fates' are (subst (λ ws. AreLosses ws fates') behind are') in
    cc
one_line ws (line.Late device request) (line.Late device' request') (number, e, name, which) (number', e', name', which') =
    let devices : device ≡ device' = cc in
    let numbers : number' ≡ number = cc in
    let requests : request ≡ request' = one_ordinal number request request' which (subst (λ w. IsOrdinal w request') numbers which') in
    cc
one_line ws line.Show line.Show h k = cc
one_line ws l m h k = let e : command l ≡ command m = sym (begins ws l h) ∙ begins ws m k in absurd (search (rules, e))
