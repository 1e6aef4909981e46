-- Where the words behind a command are none of its lines.
use Rattle.std.proofs.Common.{rules, arith, ◌≡◌, ◌≤◌, ◌-◌, ℕ, List, [], ◌∷◌, codes, ap, sym, ◌∙◌, subst, refl, length, map, take, drop, get_or}
use Rattle.sn_string.specs.Hex.{IsLowerHex}
use Rattle.sn_script.specs.Grammar.{Word, AreLosses, IsEntry, IsLabel, IsLine, IsName, IsOrdinal, IsTextBehind}
use Rattle.sn_script.specs.declared.script.Fate.{Fate}
use Rattle.sn_script.specs.declared.script.Line.{Line}
use Rattle.sn_script.specs.declared.script.Line.TheVariants as line
use Rattle.sn_script.specs.declared.script.Ordinal.{Ordinal}
use Rattle.sn_script.proofs.LineFacts.{begins, command}
use Rattle.sn_script.proofs.Lists.{rest_is}

pub no_seed : (ws : List Word) → ((digits : Word) (bytes : List ℕ) → ws ≡ digits ∷ [] → ¬ (IsLowerHex 32 digits bytes))
    → (l : Line) → ¬ (IsLine (codes "seed" ∷ ws) l)
no_seed ws never (line.Seed bytes) (digits, e, lower) = never digits bytes (cc) lower
no_seed ws never l h = let e : codes "seed" ≡ command l = begins (codes "seed" ∷ ws) l h in absurd (search (rules, e))

pub no_register : (ws : List Word) → ((d i p : Word) (fates : List Fate) → ¬ (IsEntry ws d i p fates))
    → (l : Line) → ¬ (IsLine (codes "register" ∷ ws) l)
no_register ws never (line.Register d i p fates) (rest, e, is) =
    let same : rest ≡ ws = cc in never d i p fates (subst (λ t. IsEntry t d i p fates) same is)
no_register ws never l h = let e : codes "register" ≡ command l = begins (codes "register" ∷ ws) l h in absurd (search (rules, e))

pub no_sign_in : (ws : List Word) → ((d i p : Word) (fates : List Fate) → ¬ (IsEntry ws d i p fates))
    → (l : Line) → ¬ (IsLine (codes "signin" ∷ ws) l)
no_sign_in ws never (line.SignIn d i p fates) (rest, e, is) =
    let same : rest ≡ ws = cc in never d i p fates (subst (λ t. IsEntry t d i p fates) same is)
no_sign_in ws never l h = let e : codes "signin" ≡ command l = begins (codes "signin" ∷ ws) l h in absurd (search (rules, e))

pub no_put : (ws : List Word)
    → ((device : Word) (rest : List Word) (fates : List Fate) (text : List ℕ) → ws ≡ device ∷ rest → IsName device → ¬ (IsTextBehind rest fates text))
    → (l : Line) → ¬ (IsLine (codes "put" ∷ ws) l)
no_put ws never (line.Put device fates text) (rest, e, name, is) = never device rest fates text (cc) name is
no_put ws never l h = let e : codes "put" ≡ command l = begins (codes "put" ∷ ws) l h in absurd (search (rules, e))

pub no_edit : (ws : List Word)
    → ((device number : Word) (label : Ordinal) (rest : List Word) (fates : List Fate) (text : List ℕ) → ws ≡ device ∷ number ∷ rest
    → IsName device → IsLabel number label → ¬ (IsTextBehind rest fates text))
    → (l : Line) → ¬ (IsLine (codes "edit" ∷ ws) l)
no_edit ws never (line.Edit device label fates text) (number, rest, e, name, which, is) = never device number label rest fates text (cc) name which is
no_edit ws never l h = let e : codes "edit" ≡ command l = begins (codes "edit" ∷ ws) l h in absurd (search (rules, e))

pub no_delete : (ws : List Word)
    → ((device number : Word) (label : Ordinal) (rest : List Word) (fates : List Fate) → ws ≡ device ∷ number ∷ rest
    → IsName device → IsLabel number label → ¬ (AreLosses rest fates))
    → (l : Line) → ¬ (IsLine (codes "del" ∷ ws) l)
no_delete ws never (line.Delete device label fates) (number, rest, e, name, which, are) = never device number label rest fates (cc) name which are
no_delete ws never l h = let e : codes "del" ≡ command l = begins (codes "del" ∷ ws) l h in absurd (search (rules, e))

pub no_sync : (ws : List Word)
    → ((device : Word) (rest : List Word) (fates : List Fate) → ws ≡ device ∷ rest → IsName device → ¬ (AreLosses rest fates))
    → (l : Line) → ¬ (IsLine (codes "sync" ∷ ws) l)
no_sync ws never (line.Sync device fates) (rest, e, name, are) = never device rest fates (cc) name are
no_sync ws never l h = let e : codes "sync" ≡ command l = begins (codes "sync" ∷ ws) l h in absurd (search (rules, e))

pub no_late : (ws : List Word)
    → ((device number : Word) (request : Ordinal) → ws ≡ device ∷ number ∷ [] → IsName device → ¬ (IsOrdinal number request))
    → (l : Line) → ¬ (IsLine (codes "late" ∷ ws) l)
no_late ws never (line.Late device request) (number, e, name, which) = never device number request (cc) name which
no_late ws never l h = let e : codes "late" ≡ command l = begins (codes "late" ∷ ws) l h in absurd (search (rules, e))

-- lines of their words

pub one_word : {A : Type 0} (f : A → Word) (words : List A) (d : A) → 1 ≤ length words
    → map f words ≡ f (get_or words 0 d) ∷ map f (take (length words - 1) (drop 1 words))
one_word f [] d h = absurd (omega (arith, h))
one_word f (x ∷ xs) d h = ap (λ ys. f x ∷ map f ys) (sym (rest_is 1 (x ∷ xs)))

pub two_words : {A : Type 0} (f : A → Word) (words : List A) (d : A) → 2 ≤ length words
    → map f words ≡ f (get_or words 0 d) ∷ f (get_or words 1 d) ∷ map f (take (length words - 2) (drop 2 words))
two_words f [] d h = absurd (omega (arith, h))
two_words f (x ∷ []) d h = absurd (omega (arith, h))
two_words f (x ∷ y ∷ xs) d h = ap (λ ys. f x ∷ f y ∷ map f ys) (sym (rest_is 2 (x ∷ y ∷ xs)))

pub three_words : {A : Type 0} (f : A → Word) (words : List A) (d : A) → 3 ≤ length words
    → map f words ≡ f (get_or words 0 d) ∷ f (get_or words 1 d) ∷ f (get_or words 2 d) ∷ map f (take (length words - 3) (drop 3 words))
three_words f [] d h = absurd (omega (arith, h))
three_words f (x ∷ []) d h = absurd (omega (arith, h))
three_words f (x ∷ y ∷ []) d h = absurd (omega (arith, h))
three_words f (x ∷ y ∷ z ∷ xs) d h = ap (λ ys. f x ∷ f y ∷ f z ∷ map f ys) (sym (rest_is 3 (x ∷ y ∷ z ∷ xs)))

pub both_words : {A : Type 0} (f : A → Word) (words : List A) (d : A) → length words ≡ 2
    → map f words ≡ f (get_or words 0 d) ∷ f (get_or words 1 d) ∷ []
both_words f [] d h = absurd (omega (arith, h))
both_words f (x ∷ []) d h = absurd (omega (arith, h))
both_words f (x ∷ y ∷ []) d h = refl
both_words f (x ∷ y ∷ z ∷ xs) d h = absurd (omega (arith, h))

pub late_is : (ws : List Word) (device number text : Word) (request : Ordinal) → ws ≡ device ∷ number ∷ [] → IsName device → text ≡ device
    → IsOrdinal number request → IsLine (codes "late" ∷ ws) (line.Late text request)
late_is ws device number text request e name same which =
    (number, ap (λ (t : List Word). codes "late" ∷ t) e ∙ ap (λ (t : Word). codes "late" ∷ t ∷ number ∷ []) (sym same), subst IsName (sym same) name, which)

pub delete_is : (ws : List Word) (device number text : Word) (rest : List Word) (label : Ordinal) (fates : List Fate) → ws ≡ device ∷ number ∷ rest
    → IsName device → text ≡ device → IsLabel number label → AreLosses rest fates → IsLine (codes "del" ∷ ws) (line.Delete text label fates)
delete_is ws device number text rest label fates e name same which are = (
  number,
  rest,
  ap (λ (t : List Word). codes "del" ∷ t) e ∙ ap (λ (t : Word). codes "del" ∷ t ∷ number ∷ rest) (sym same),
  subst IsName (sym same) name,
  which,
  are,
)

pub edit_is : (ws : List Word) (device number text : Word) (rest : List Word) (label : Ordinal) (fates : List Fate) (content : List ℕ)
    → ws ≡ device ∷ number ∷ rest → IsName device → text ≡ device → IsLabel number label → IsTextBehind rest fates content
    → IsLine (codes "edit" ∷ ws) (line.Edit text label fates content)
edit_is ws device number text rest label fates content e name same which is = (
  number,
  rest,
  ap (λ (t : List Word). codes "edit" ∷ t) e ∙ ap (λ (t : Word). codes "edit" ∷ t ∷ number ∷ rest) (sym same),
  subst IsName (sym same) name,
  which,
  is,
)

-- words that are none for one of them

pub no_put_text : (ws : List Word) (device : Word) (rest : List Word) → ws ≡ device ∷ rest
    → ((fates : List Fate) (text : List ℕ) → ¬ (IsTextBehind rest fates text)) → (l : Line) → ¬ (IsLine (codes "put" ∷ ws) l)
no_put_text ws device rest e never =
    no_put ws (λ device' rest' fates text e' name is.
    (let same : rest' ≡ rest = cc in never fates text (subst (λ t. IsTextBehind t fates text) same is)))

pub no_edit_text : (ws : List Word) (device number : Word) (rest : List Word) → ws ≡ device ∷ number ∷ rest
    → ((fates : List Fate) (text : List ℕ) → ¬ (IsTextBehind rest fates text)) → (l : Line) → ¬ (IsLine (codes "edit" ∷ ws) l)
no_edit_text ws device number rest e never =
    no_edit ws (λ device' number' label rest' fates text e' name which is.
    (let same : rest' ≡ rest = cc in never fates text (subst (λ t. IsTextBehind t fates text) same is)))

pub no_edit_label : (ws : List Word) (device number : Word) (rest : List Word) → ws ≡ device ∷ number ∷ rest
    → ((label : Ordinal) → ¬ (IsLabel number label)) → (l : Line) → ¬ (IsLine (codes "edit" ∷ ws) l)
no_edit_label ws device number rest e never =
    no_edit ws (λ device' number' label rest' fates text e' name which is.
    (let same : number' ≡ number = cc in never label (subst (λ t. IsLabel t label) same which)))

pub no_delete_label : (ws : List Word) (device number : Word) (rest : List Word) → ws ≡ device ∷ number ∷ rest
    → ((label : Ordinal) → ¬ (IsLabel number label)) → (l : Line) → ¬ (IsLine (codes "del" ∷ ws) l)
no_delete_label ws device number rest e never =
    no_delete ws (λ device' number' label rest' fates e' name which are.
    (let same : number' ≡ number = cc in never label (subst (λ t. IsLabel t label) same which)))
