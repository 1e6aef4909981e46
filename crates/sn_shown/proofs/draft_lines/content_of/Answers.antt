use Rattle.std.proofs.Common.{◌≡◌, Some, None, sym, ap, ◌∙◌}
use Rattle.sn_laws.specs.declared.ideal.Content.TheVariants.{Plain}
use Rattle.sn_shown.proofs.OpenedDrafts.{opened_content}
use Rattle.sn_shown.proofs.draft_lines.content_of.Goals as goal

pub returns-in-Some : goal.returns-in-Some
returns-in-Some c = λ sets number content at shows.
    let h = opened_content sets number c.args.set.now c.in-Sealed.strings c.args.uuid.now at c.args.latest.now content c.in-Sealed.is shows in
    let found : Some c.in-Some.text ≡ Some h.text = sym c.in-Some.is ∙ c.in_ok-text-in-Sealed.ensures h.text (rw (c.as_str.ensures, c.as_str-in-Sealed.ensures) h.opens) in
    let same : c.in-Some.text ≡ h.text = cc in
    ap (λ t. Some (Plain t)) same ∙ sym (ap (λ x. Some x) h.shown_is)

pub returns-in-None : goal.returns-in-None
returns-in-None c = λ sets number content at shows.
    let h = opened_content sets number c.args.set.now c.in-Sealed.strings c.args.uuid.now at c.args.latest.now content c.in-Sealed.is shows in
    let none : None ≡ Some h.text = sym c.in-None.is ∙ c.in_ok-text-in-Sealed.ensures h.text (rw (c.as_str.ensures, c.as_str-in-Sealed.ensures) h.opens) in
    absurd (cc)
