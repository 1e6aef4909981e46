-- Lists of lines, written one after the other.
use Rattle.std.proofs.Common.{◌≡◌, Bool, ℕ, suc, ◌+◌, ◌<◌, ◌≤◌, List, [], ◌∷◌, ◌++◌, length, drop, get_or, refl, sym, ap, ◌∙◌, arith, drop-cons}
use Rattle.std.specs.Fmt.{decimal}
use Rattle.std.specs.List.{flat_map}
use Rattle.std.proofs.lemmas.List.{append-nil, drop_all}
use Rattle.sn_laws.specs.declared.moves.Move.{Move}
use Rattle.sn_report.specs.Labels.{Labels, labels_after, labels_of}
use Rattle.sn_report.specs.Sets.{sets_after, sets_of}
use Rattle.sn_report.specs.Showing.{held_text}
use Rattle.sn_report.specs.Text.{event_text, events_text, line_text, move_text, moves_text}
use Rattle.sn_report.specs.declared.report.Event.{Event}
use Rattle.sn_report.specs.declared.sets.NumberedSet.{NumberedSet}
use Rattle.sn_report.proofs.FrontLemmas.{written_piece}

-- what is left of a list from a place on

next_of : {A : Type 0} (xs : List A) (i : ℕ) (x d : A) → i < length xs → x ≡ get_or xs i d → drop i xs ≡ x ∷ drop (i + 1) xs
next_of xs i x d h e =
    let n : suc i ≡ i + 1 = omega arith in
    drop-cons xs i d h ∙ ap (λ (y : _). y ∷ drop (suc i) xs) (sym e) ∙ ap (λ (k : ℕ). x ∷ drop k xs) n

-- a text to which all is written that is left to write
ended : {A : Type 0} (f : List A → List ℕ) (xs : List A) (i : ℕ) (text whole : List ℕ) → f [] ≡ [] → length xs ≤ i
    → text ++ f (drop i xs) ≡ whole → text ≡ whole
ended f xs i text whole empty h inv =
    sym (append-nil text) ∙ ap (λ (ys : List ℕ). text ++ ys) (sym empty) ∙ ap (λ (ys : _). text ++ f ys) (sym (drop_all i xs h)) ∙ inv

-- moves

pub labels_step : (puts : Bool) (labels next whole : Labels) (m : Move) (moves : List Move) (i : ℕ) → i < length moves → m ≡ get_or moves i m
    → next ≡ labels_after puts labels m → labels_of puts labels (drop i moves) ≡ whole → labels_of puts next (drop (i + 1) moves) ≡ whole
labels_step puts labels next whole m moves i h is e inv =
    ap (λ (ls : Labels). labels_of puts ls (drop (i + 1) moves)) e ∙ sym (ap (labels_of puts labels) (next_of moves i m m h is)) ∙ inv

pub labels_end : (puts : Bool) (labels whole : Labels) (moves : List Move) (i : ℕ) → length moves ≤ i → labels_of puts labels (drop i moves) ≡ whole
    → labels ≡ whole
labels_end puts labels whole moves i h inv = sym (ap (labels_of puts labels) (drop_all i moves h)) ∙ inv

pub moves_step : (number : ℕ) (puts : Bool) (labels next : Labels) (old new whole : List ℕ) (m : Move) (moves : List Move) (i : ℕ) → i < length moves
    → m ≡ get_or moves i m → next ≡ labels_after puts labels m → new ≡ old ++ line_text number (move_text (labels_after puts labels m) m)
    → old ++ moves_text number puts labels (drop i moves) ≡ whole → new ++ moves_text number puts next (drop (i + 1) moves) ≡ whole
moves_step number puts labels next old new whole m moves i h is e line inv =
    ap (λ (ls : Labels). new ++ moves_text number puts ls (drop (i + 1) moves)) e
    ∙ written_piece old new (line_text number (move_text (labels_after puts labels m) m))
    (moves_text number puts (labels_after puts labels m) (drop (i + 1) moves))
    (moves_text number puts labels (drop i moves)) line (ap (moves_text number puts labels) (next_of moves i m m h is))
    ∙ inv

pub moves_end : (number : ℕ) (puts : Bool) (labels : Labels) (text whole : List ℕ) (moves : List Move) (i : ℕ) → length moves ≤ i
    → text ++ moves_text number puts labels (drop i moves) ≡ whole → text ≡ whole
moves_end number puts labels text whole moves i h inv = ended (moves_text number puts labels) moves i text whole refl h inv

-- what an event shows

pub shown_step : (number : ℕ) (old new whole line : List ℕ) (shown : List (List ℕ)) (i : ℕ) → i < length shown → line ≡ get_or shown i line
    → new ≡ old ++ line_text number line
    → old ++ flat_map (line_text number) (drop i shown) ≡ whole → new ++ flat_map (line_text number) (drop (i + 1) shown) ≡ whole
shown_step number old new whole line shown i h is e inv =
    written_piece old new (line_text number line) (flat_map (line_text number) (drop (i + 1) shown))
    (flat_map (line_text number) (drop i shown)) e (ap (flat_map (line_text number)) (next_of shown i line line h is))
    ∙ inv

pub shown_end : (number : ℕ) (text whole : List ℕ) (shown : List (List ℕ)) (i : ℕ) → length shown ≤ i
    → text ++ flat_map (line_text number) (drop i shown) ≡ whole → text ≡ whole
shown_end number text whole shown i h inv = ended (flat_map (line_text number)) shown i text whole refl h inv

-- events

pub events_step : (labels next : Labels) (sets others : List NumberedSet) (old new whole : List ℕ) (e : Event) (events : List Event) (i : ℕ)
    → i < length events → e ≡ get_or events i e → next ≡ labels_of e.puts labels e.moves → others ≡ sets_of sets e.moves
    → new ≡ old ++ event_text labels sets e
    → old ++ events_text labels sets (drop i events) ≡ whole → new ++ events_text next others (drop (i + 1) events) ≡ whole
events_step labels next sets others old new whole e events i h is after begun text inv =
    ap (λ (ls : Labels). new ++ events_text ls others (drop (i + 1) events)) after
    ∙ ap (λ (ss : List NumberedSet). new ++ events_text (labels_of e.puts labels e.moves) ss (drop (i + 1) events)) begun
    ∙ written_piece old new (event_text labels sets e) (events_text (labels_of e.puts labels e.moves) (sets_of sets e.moves) (drop (i + 1) events))
    (events_text labels sets (drop i events)) text (ap (events_text labels sets) (next_of events i e e h is))
    ∙ inv

pub events_end : (labels : Labels) (sets : List NumberedSet) (text whole : List ℕ) (events : List Event) (i : ℕ) → length events ≤ i
    → text ++ events_text labels sets (drop i events) ≡ whole → text ≡ whole
events_end labels sets text whole events i h inv = ended (events_text labels sets) events i text whole refl h inv

-- the sets that moves begin

pub sets_step : (sets next whole : List NumberedSet) (m : Move) (moves : List Move) (i : ℕ) → i < length moves → m ≡ get_or moves i m
    → next ≡ sets_after sets m → sets_of sets (drop i moves) ≡ whole → sets_of next (drop (i + 1) moves) ≡ whole
sets_step sets next whole m moves i h is e inv =
    ap (λ (ss : List NumberedSet). sets_of ss (drop (i + 1) moves)) e ∙ sym (ap (sets_of sets) (next_of moves i m m h is)) ∙ inv

pub sets_end : (sets whole : List NumberedSet) (moves : List Move) (i : ℕ) → length moves ≤ i → sets_of sets (drop i moves) ≡ whole → sets ≡ whole
sets_end sets whole moves i h inv = sym (ap (sets_of sets) (drop_all i moves h)) ∙ inv

-- the sets that a device holds

pub held_step : (old new whole held : List ℕ) (i n : ℕ) → i < length held → n ≡ get_or held i 0 → new ≡ old ++ (32 ∷ decimal n)
    → old ++ held_text (drop i held) ≡ whole → new ++ held_text (drop (i + 1) held) ≡ whole
held_step old new whole held i n h is e inv =
    written_piece old new (32 ∷ decimal n) (held_text (drop (i + 1) held)) (held_text (drop i held)) e (ap held_text (next_of held i n 0 h is))
    ∙ inv

pub held_end : (text whole held : List ℕ) (i : ℕ) → length held ≤ i → text ++ held_text (drop i held) ≡ whole → text ≡ whole
held_end text whole held i h inv = ended held_text held i text whole refl h inv
