-- Losses, and the texts behind them.
use Rattle.std.proofs.Common.{arith, ◌≡◌, ◌<◌, ◌≤◌, ◌+◌, ℕ, suc, List, [], ◌∷◌, ◌++◌, length, get_or, map, take, drop, Some, None, Option, Bool, false, IsTrue, ◌↔◌, codes, ap, sym, ◌∙◌, subst, refl, inl}
use Rattle.std.specs.List.{join_with_byte}
use Rattle.std.specs.Option.{MatchOption, is_some}
use Rattle.std.proofs.lemmas.List.{append_cancel_left, map-append}
use Rattle.std.proofs.Math.Seq.{split_at}
use Rattle.sn_script.specs.Grammar.{Word, AreLosses, IsCount, IsFate, IsLoss, IsTextBehind}
use Rattle.sn_script.specs.declared.script.Fate.{Fate}
use Rattle.sn_script.specs.declared.script.Fate.TheVariants as fate
use Rattle.sn_script.specs.declared.script.Ordinal.{Ordinal}
use Rattle.sn_script.proofs.Lists.{one_more_text, take_all}
use Rattle.sn_script.proofs.Ordinals.{one_count}

-- single losses

apart : (r s : Word) → 100 ∷ 114 ∷ 111 ∷ 112 ∷ 45 ∷ 114 ∷ 101 ∷ 113 ∷ r ≡ 100 ∷ 114 ∷ 111 ∷ 112 ∷ 45 ∷ 114 ∷ 101 ∷ 112 ∷ s → ⊥
apart r s e = let h : 113 ≡ 112 = ap (λ (t : List ℕ). get_or t 7 0) e in omega (arith, h)

pub one_loss : (w : Word) (f g : Fate) → IsLoss w f → IsLoss w g → f ≡ g
one_loss w (fate.DropRequest a) (fate.DropRequest b) (rest, e, which) (other, e', which') =
    let same : other ≡ rest = append_cancel_left (codes "drop-request") other rest (sym e' ∙ e) in
    ap fate.DropRequest (one_count rest a b which (subst (λ t. IsCount t b) same which'))
one_loss w (fate.DropRequest a) (fate.DropReply b) (rest, e, which) (other, e', which') = absurd (apart (117 ∷ 101 ∷ 115 ∷ 116 ∷ rest) (108 ∷ 121 ∷ other) (sym e ∙ e'))
one_loss w (fate.DropReply a) (fate.DropRequest b) (rest, e, which) (other, e', which') = absurd (apart (117 ∷ 101 ∷ 115 ∷ 116 ∷ other) (108 ∷ 121 ∷ rest) (sym e' ∙ e))
one_loss w (fate.DropReply a) (fate.DropReply b) (rest, e, which) (other, e', which') =
    let same : other ≡ rest = append_cancel_left (codes "drop-reply") other rest (sym e' ∙ e) in
    ap fate.DropReply (one_count rest a b which (subst (λ t. IsCount t b) same which'))

pub no_loss : (w : Word) → ((which : Ordinal) → ¬ (IsLoss w (fate.DropRequest which))) → ((which : Ordinal) → ¬ (IsLoss w (fate.DropReply which)))
    → (loss : Fate) → ¬ (IsLoss w loss)
no_loss w request reply (fate.DropRequest which) is = request which is
no_loss w request reply (fate.DropReply which) is = reply which is

pub some_loss : (w : Word) (r : Option Fate) (b : Bool) → b ≡ is_some r → MatchOption r ((loss : Fate) → ¬ (IsLoss w loss)) (IsLoss w)
    → IsTrue b ↔ ((loss : Fate) × IsLoss w loss)
some_loss w None b e h = (λ t. absurd (let f : b ≡ false = e in cc), λ (loss, is). absurd (h loss is))
some_loss w (Some loss) b e h = (λ t. (loss, h), λ is. e)

loss_is_fate : (w : Word) (loss : Fate) → IsLoss w loss → IsFate w
unfolding IsFate
loss_is_fate w loss is = inl (loss, is)

not_lost : (w : Word) → ¬ (IsFate w) → (loss : Fate) → ¬ (IsLoss w loss)
not_lost w never loss is = never (loss_is_fate w loss is)

-- several

pub one_fates : (ws : List Word) (fs gs : List Fate) → AreLosses ws fs → AreLosses ws gs → fs ≡ gs
one_fates [] [] [] a b = refl
one_fates [] [] (g ∷ gs) a b = absurd b
one_fates [] (f ∷ fs) gs a b = absurd a
one_fates (w ∷ ws) [] gs a b = absurd a
one_fates (w ∷ ws) (f ∷ fs) [] a b = absurd b
one_fates (w ∷ ws) (f ∷ fs) (g ∷ gs) a b =
    let same : f ≡ g = one_loss w f g a.0 b.0 in
    let rest : fs ≡ gs = one_fates ws fs gs a.1 b.1 in
    cc

one_more_loss : (ws : List Word) (fs : List Fate) (w : Word) (f : Fate) → AreLosses ws fs → IsLoss w f → AreLosses (ws ++ w ∷ []) (fs ++ f ∷ [])
one_more_loss [] [] w f are is = (is, tt)
one_more_loss [] (g ∷ fs) w f are is = absurd are
one_more_loss (x ∷ ws) [] w f are is = absurd are
one_more_loss (x ∷ ws) (g ∷ fs) w f are is = (are.0, one_more_loss ws fs w f are.1 is)

was_loss : (ws more : List Word) (w : Word) (fs : List Fate) → AreLosses (ws ++ w ∷ more) fs → (loss : Fate) × IsLoss w loss
was_loss [] more w [] are = absurd are
was_loss [] more w (f ∷ fs) are = (f, are.0)
was_loss (x ∷ ws) more w [] are = absurd are
was_loss (x ∷ ws) more w (f ∷ fs) are = was_loss ws more w fs are.1

-- the first word that says no loss stands at one place
first_cut : (xs ls : List Word) (w v : Word) (more others : List Word) (fs gs : List Fate) → AreLosses xs fs → AreLosses ls gs
    → ((loss : Fate) → ¬ (IsLoss w loss)) → ((loss : Fate) → ¬ (IsLoss v loss)) → xs ++ w ∷ more ≡ ls ++ v ∷ others
    → (xs ≡ ls) × (w ≡ v) × (more ≡ others)
first_cut [] [] w v more others fs gs a b none never e =
    let first : w ≡ v = cc in
    let rest : more ≡ others = cc in
    (refl, first, rest)
first_cut [] (l ∷ ls) w v more others fs [] a b none never e = absurd b
first_cut [] (l ∷ ls) w v more others fs (g ∷ gs) a b none never e =
    let same : l ≡ w = cc in absurd (none g (subst (λ t. IsLoss t g) same b.0))
first_cut (x ∷ xs) [] w v more others [] gs a b none never e = absurd a
first_cut (x ∷ xs) [] w v more others (f ∷ fs) gs a b none never e =
    let same : x ≡ v = cc in absurd (never f (subst (λ t. IsLoss t f) same a.0))
first_cut (x ∷ xs) (l ∷ ls) w v more others [] gs a b none never e = absurd a
first_cut (x ∷ xs) (l ∷ ls) w v more others (f ∷ fs) [] a b none never e = absurd b
first_cut (x ∷ xs) (l ∷ ls) w v more others (f ∷ fs) (g ∷ gs) a b none never e =
    let first : x ≡ l = cc in
    let rest : xs ++ w ∷ more ≡ ls ++ v ∷ others = cc in
    let both = first_cut xs ls w v more others fs gs a.1 b.1 none never rest in
    let tail : xs ≡ ls = both.0 in
    let all : x ∷ xs ≡ l ∷ ls = cc in
    (all, both.1, both.2)

pub one_text : (ws : List Word) (fs gs : List Fate) (t u : List ℕ) → IsTextBehind ws fs t → IsTextBehind ws gs u → (fs ≡ gs) × (t ≡ u)
one_text ws fs gs t u a b =
    let cut = first_cut a.losses b.losses a.first b.first a.more b.more fs gs a.lost b.lost (not_lost a.first a.no_fate) (not_lost b.first b.no_fate)
    (sym a.words_are ∙ b.words_are) in (
      one_fates a.losses fs gs a.lost (subst (λ ls. AreLosses ls gs) (sym cut.0) b.lost),
      a.text_is ∙ ap (λ (w : Word). join_with_byte 32 (w ∷ a.more)) cut.1 ∙ ap (λ (ls : List Word). join_with_byte 32 (b.first ∷ ls)) cut.2 ∙ sym b.text_is,
    )

-- words that are read one after the other

-- one more word says a loss
pub next_loss : {A : Type 0} (f : A → Word) (words : List A) (fates more : List Fate) (k : ℕ) (d : A) (loss : Fate) → k < length words
    → AreLosses (map f (take k words)) fates → IsLoss (f (get_or words k d)) loss → more ≡ fates ++ loss ∷ []
    → AreLosses (map f (take (k + 1) words)) more
next_loss f words fates more k d loss within so_far is e =
    subst (λ fs. AreLosses (map f (take (k + 1) words)) fs) (sym e)
    (subst (λ ws. AreLosses ws (fates ++ loss ∷ [])) (sym (one_more_text f words k d within))
    (one_more_loss (map f (take k words)) fates (f (get_or words k d)) loss so_far is))

pub all_lost : {A : Type 0} (f : A → Word) (words : List A) (fates : List Fate) (k : ℕ) → length words ≤ k
    → AreLosses (map f (take k words)) fates → AreLosses (map f words) fates
all_lost f words fates k past so_far = subst (λ ws. AreLosses (map f ws) fates) (take_all k words past) so_far

-- the words before one, it, and those behind it
pub cut_at : {A : Type 0} (f : A → Word) (words : List A) (k : ℕ) (d : A) → k < length words
    → map f words ≡ map f (take k words) ++ f (get_or words k d) ∷ map f (drop (k + 1) words)
cut_at f words k d within =
    let next : suc k ≡ k + 1 = omega arith in
    ap (map f) (split_at words k d within) ∙ map-append f (take k words) (get_or words k d ∷ drop (suc k) words)
    ∙ ap (λ n. map f (take k words) ++ f (get_or words k d) ∷ map f (drop n words)) next

-- a word that says none among them
pub not_all_lost : {A : Type 0} (f : A → Word) (words : List A) (k : ℕ) (d : A) → k < length words
    → ((loss : Fate) → ¬ (IsLoss (f (get_or words k d)) loss)) → (fates : List Fate) → ¬ (AreLosses (map f words) fates)
not_all_lost f words k d within never fates are =
    let was = was_loss (map f (take k words)) (map f (drop (k + 1) words)) (f (get_or words k d)) fates
    (subst (λ ws. AreLosses ws fates) (cut_at f words k d within) are) in
    never was.0 was.1

-- behind losses alone no text begins
pub no_text : (ws : List Word) (fs : List Fate) → AreLosses ws fs → (fates : List Fate) (text : List ℕ) → ¬ (IsTextBehind ws fates text)
no_text ws fs are fates text is =
    let was = was_loss is.losses is.more is.first fs (subst (λ ls. AreLosses ls fs) is.words_are are) in
    is.no_fate (loss_is_fate is.first was.0 was.1)

-- nor with a fate
pub no_text_at : {A : Type 0} (f : A → Word) (words : List A) (k : ℕ) (d : A) (so_far : List Fate) → k < length words
    → AreLosses (map f (take k words)) so_far → ((loss : Fate) → ¬ (IsLoss (f (get_or words k d)) loss)) → IsFate (f (get_or words k d))
    → (fates : List Fate) (text : List ℕ) → ¬ (IsTextBehind (map f words) fates text)
no_text_at f words k d so_far within are never fate fates text is =
    let cut = first_cut (map f (take k words)) is.losses (f (get_or words k d)) is.first (map f (drop (k + 1) words)) is.more so_far fates
    are is.lost never (not_lost is.first is.no_fate) (sym (cut_at f words k d within) ∙ is.words_are) in
    is.no_fate (subst IsFate cut.1 fate)

pub text_at : {A : Type 0} (f : A → Word) (words : List A) (k : ℕ) (d : A) (fates : List Fate) (rest : List A) (text : List ℕ) → k < length words
    → AreLosses (map f (take k words)) fates → rest ≡ drop (k + 1) words → ¬ (IsFate (f (get_or words k d)))
    → text ≡ join_with_byte 32 (f (get_or words k d) ∷ map f rest) → IsTextBehind (map f words) fates text
text_at {A = A} f words k d fates rest text within are behind never e = record {
  losses = map f (take k words);
  first = f (get_or words k d);
  more = map f (drop (k + 1) words);
  words_are = cut_at f words k d within;
  lost = are;
  no_fate = never;
  text_is = e ∙ ap (λ (ls : List A). join_with_byte 32 (f (get_or words k d) ∷ map f ls)) behind;
}
