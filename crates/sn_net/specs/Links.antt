-- What is asked over a link in memory.
use Rattle.std.specs.Prelude.{◌≡◌, ◌++◌, ◌<◌, List, ℕ, [], ◌∷◌, length, drop, Some, None, ⊤}
use Rattle.std.specs.declared.option.Option.{Option}
use Rattle.std.specs.List.{flat_map}
use Rattle.std.proofs.Common.{refl, sym, ◌∙◌, ap, append-nil, append_assoc}
use Rattle.std.proofs.lemmas.Grind.{flat_map-append}
use Rattle.sn_io.specs.FaultPlan.{Plan}
use Rattle.sn_net.specs.Exchanges.{Exchange, Asking}
use Rattle.sn_net.specs.declared.mem_link.Asked.{Asked}
use Rattle.sn_net.specs.declared.mem_link.MemLink.{MemLink}

-- the requests that were answered, in order
abbrev pub link_asked : MemLink → List Asked
link_asked link = link.asked.items

-- the answers that are left, in order
abbrev pub link_left : MemLink → List (List ℕ)
link_left link = drop (length link.asked.items) link.answers.items

abbrev pub link_plan : MemLink → Plan
link_plan link = link.plan

-- there is no answer, or the next one is longer than this
abbrev pub CannotAnswer : List (List ℕ) → ℕ → Type 0
CannotAnswer [] room = ⊤
CannotAnswer (answer ∷ answers) room = room < length answer

abbrev pub answers_in : Option (List ℕ) → List (List ℕ)
answers_in None = []
answers_in (Some answer) = answer ∷ []

abbrev pub asked_if : Option (List ℕ) → Asked → List Asked
asked_if None asked = []
asked_if (Some answer) asked = asked ∷ []

-- what an exchange was answered
abbrev pub answered : Exchange → List (List ℕ)
answered x = answers_in x.answer

-- its request, where it was answered
abbrev pub kept : Exchange → List Asked
kept x = asked_if x.answer (record { host = x.host; request = x.request })

-- the answers came from the front of those that were left, and the requests were kept behind the earlier ones
pub record Asks (old new : MemLink) (xs : List Exchange) : Type 0 where
  pub came : link_left old ≡ flat_map answered xs ++ link_left new
  pub are_kept : link_asked new ≡ link_asked old ++ flat_map kept xs

pub asking : Asking MemLink Asks
asking = record {
  none = λ link. record { came = refl; are_kept = sym (append-nil (link_asked link)) };
  more = λ a b c xs ys x y. record {
    came = x.came ∙ ap (λ l. flat_map answered xs ++ l) y.came ∙ sym (append_assoc (flat_map answered xs) (flat_map answered ys) (link_left c))
        ∙ ap (λ l. l ++ link_left c) (sym (flat_map-append answered xs ys));
    are_kept = y.are_kept ∙ ap (λ l. l ++ flat_map kept ys) x.are_kept ∙ append_assoc (link_asked a) (flat_map kept xs) (flat_map kept ys)
        ∙ ap (λ l. link_asked a ++ l) (sym (flat_map-append kept xs ys));
  };
}
