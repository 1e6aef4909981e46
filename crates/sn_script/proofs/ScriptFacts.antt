-- The lines of a script so far.
use Rattle.std.proofs.Common.{rules, arith, ◌≡◌, ◌<◌, ◌+◌, ℕ, zero, suc, List, [], ◌∷◌, ◌++◌, codes, length, Some, slice_get, ap, sym, ◌∙◌, subst, refl, map, take, get_or, Option, None, add-one, Result, Ok, Err, IfOk}
use Rattle.std.specs.Option.{MatchOption}
use Rattle.sn_script.specs.Grammar.{Word, parts, IsLine, IsReading}
use Rattle.sn_script.specs.Scripts.{AreLinesFrom, IsLineAt, IsFirstWrong, MayStandAt, lines_of}
use Rattle.sn_script.specs.declared.script.Line.{Line}
use Rattle.sn_script.specs.declared.script.Line.TheVariants as line
use Rattle.sn_script.proofs.LineFacts.{begins, command, one_line}
use Rattle.sn_script.proofs.Lists.{get_map, get_take, map-take, one_more_text, size_front}

-- the lines of texts are one list
pub one_list : (place : ℕ) (xs : List Word) (ls ms : List Line) → AreLinesFrom place xs ls → AreLinesFrom place xs ms → ls ≡ ms
one_list place [] [] [] a b = refl
one_list place [] [] (m ∷ ms) a b = absurd b
one_list place [] (l ∷ ls) ms a b = absurd a
one_list place (x ∷ xs) [] ms a b = absurd a
one_list place (x ∷ xs) (l ∷ ls) [] a b = absurd b
one_list place (x ∷ xs) (l ∷ ls) (m ∷ ms) a b =
    let same : l ≡ m = one_line (parts 32 x) l m a.0.0 b.0.0 in
    let rest : ls ≡ ms = one_list (suc place) xs ls ms a.1 b.1 in
    cc

-- one more line
pub one_more : (place : ℕ) (xs : List Word) (ls : List Line) (x : Word) (l : Line) (at : ℕ) → AreLinesFrom place xs ls → at ≡ place + length xs
    → IsLineAt at x l → AreLinesFrom place (xs ++ x ∷ []) (ls ++ l ∷ [])
one_more place [] [] x l at so_far e is = let same : at ≡ place = omega (arith, e) in (subst (λ p. IsLineAt p x l) same is, tt)
one_more place [] (m ∷ ls) x l at so_far e is = absurd so_far
one_more place (y ∷ ys) [] x l at so_far e is = absurd so_far
one_more place (y ∷ ys) (m ∷ ls) x l at so_far e is = (so_far.0, one_more (suc place) ys ls x l at so_far.1 (omega (arith, e)) is)

-- each text so far is a line
pub was_line : (place : ℕ) (xs : List Word) (ls : List Line) (k : ℕ) (x : Word) (at : ℕ) → AreLinesFrom place xs ls → at ≡ place + k
    → slice_get xs k ≡ Some x → (l : Line) × IsLineAt at x l
was_line place [] ls k x at so_far e there = cc
was_line place (y ∷ ys) [] k x at so_far e there = absurd so_far
was_line place (y ∷ ys) (l ∷ ls) zero x at so_far e there =
    let same : at ≡ place = omega (arith, e) in
    let it : y ≡ x = cc in
    (l, subst (λ p. IsLineAt p x l) (sym same) (subst (λ t. IsLineAt place t l) it so_far.0))
was_line place (y ∷ ys) (l ∷ ls) (suc k) x at so_far e there = was_line (suc place) ys ls k x at so_far.1 (omega (arith, e)) there

-- one more text of a script is read
pub next : {A : Type 0} (f : A → Word) (texts : List A) (lines more : List Line) (place : ℕ) (d : A) (l : Line) → place < length texts
    → AreLinesFrom 0 (map f (take place texts)) lines → IsLineAt place (f (get_or texts place d)) l → more ≡ lines ++ l ∷ []
    → AreLinesFrom 0 (map f (take (place + 1) texts)) more
next f texts lines more place d l within so_far is e =
    let at : place ≡ 0 + length (map f (take place texts)) = omega (arith, size_front f place texts (omega (arith, within))) in
    let both : AreLinesFrom 0 (map f (take place texts) ++ f (get_or texts place d) ∷ []) (lines ++ l ∷ []) =
    one_more 0 (map f (take place texts)) lines (f (get_or texts place d)) l place so_far at is in
    subst (λ ls. AreLinesFrom 0 (map f (take (place + 1) texts)) ls) (sym e)
    (subst (λ xs. AreLinesFrom 0 xs (lines ++ l ∷ [])) (sym (one_more_text f texts place d within)) both)

-- what is found of a text
pub line_absent : (place : ℕ) (text : Word) (o : Option Line) → MatchOption o ((l : Line) → ¬ (IsLineAt place text l)) (IsLineAt place text)
    → ((l : Line) → o ≡ Some l → ⊥) → (l : Line) → ¬ (IsLineAt place text l)
line_absent place text None h never = h
line_absent place text (Some l) h never = absurd (never l refl)

pub line_found : (place : ℕ) (text : Word) (o : Option Line) (l : Line) → MatchOption o ((m : Line) → ¬ (IsLineAt place text m)) (IsLineAt place text)
    → o ≡ Some l → IsLineAt place text l
line_found place text o l h e =
    let M : Option Line → Type 0 = λ p. MatchOption p ((m : Line) → ¬ (IsLineAt place text m)) (IsLineAt place text) in subst M e h

-- a seed behind the first line stands nowhere
pub no_later_seed : (place : ℕ) (w : Word) (rest : List Word) (l : Line) → 0 < place → w ≡ codes "seed" → IsLine (w ∷ rest) l → ¬ (MayStandAt place l)
no_later_seed zero w rest l late e is may = absurd (omega (arith, late))
no_later_seed (suc place) w rest (line.Seed bytes) late e is may = may
no_later_seed (suc place) w rest l late e is may =
    let same : codes "seed" ≡ command l = sym e ∙ begins (w ∷ rest) l is in absurd (search (rules, same))

-- every other line may stand anywhere
pub may_stand : (place : ℕ) (w : Word) (rest : List Word) (l : Line) → ¬ ((0 < place) × (w ≡ codes "seed")) → IsLine (w ∷ rest) l → MayStandAt place l
may_stand zero w rest l never is = tt
may_stand (suc place) w rest (line.Seed bytes) never is = absurd (never (omega arith, begins (w ∷ rest) (line.Seed bytes) is))
may_stand (suc place) w rest l never is = tt

pub stands : {E : Type 0} (place : ℕ) (w : Word) (rest : List Word) (r : Result (Option Line) E) → ¬ ((0 < place) × (w ≡ codes "seed"))
    → IfOk r (IsReading (w ∷ rest))
    → IfOk r (λ found. MatchOption found ((l : Line) → ¬ (IsLine (w ∷ rest) l × MayStandAt place l)) (λ l. IsLine (w ∷ rest) l × MayStandAt place l))
stands place w rest (Ok None) never none = λ l is. none l is.0
stands place w rest (Ok (Some l)) never is = (is, may_stand place w rest l never is)
stands place w rest (Err e) never h = h

-- a text that is no line is the first
pub first_wrong : {A : Type 0} (f : A → Word) (text : List ℕ) (texts : List A) (lines : List Line) (place : ℕ) (d : A) → map f texts ≡ lines_of text
    → place < length texts → AreLinesFrom 0 (map f (take place texts)) lines → ((l : Line) → ¬ (IsLineAt place (f (get_or texts place d)) l))
    → IsFirstWrong text (place + 1)
first_wrong f text texts lines place d all within so_far never = record {
  place = place;
  number_is = add-one place;
  wrong_text = f (get_or texts place d);
  there = ap (λ xs. slice_get xs place) (sym all) ∙ get_map f texts place d within;
  wrong = never;
  before = λ k earlier below is. (
      let same : slice_get (map f (take place texts)) k ≡ Some earlier =
      ap (λ xs. slice_get xs k) (map-take f place texts) ∙ get_take place k (map f texts) below ∙ ap (λ xs. slice_get xs k) all ∙ is in
      was_line 0 (map f (take place texts)) lines k earlier k so_far (omega arith) same);
}
