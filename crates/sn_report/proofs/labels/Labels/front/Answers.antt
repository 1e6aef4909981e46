use Rattle.std.proofs.Common.{◌≡◌, ℕ, ◌∷◌, Some, take, ap, sym, ◌∙◌}
use Rattle.std.specs.Fmt.{decimal}
use Rattle.sn_string.specs.Uuids.{uuid_text}
use Rattle.sn_report.specs.Numbers.{IsUuidBytes}
use Rattle.sn_report.proofs.FrontLemmas.{no_label, label_found, label_missing, cut_behind, at_self, wrong}
use Rattle.sn_report.proofs.NumberLemmas.{numbered, unlabelled}
use Rattle.sn_report.proofs.labels.Labels.front.Goals as goal

pub returns-in_default-clause-label : goal.returns-in_default-clause-label
returns-in_default-clause-label c =
    at_self c.self.inside.made.items c.args.self.now c.args.text.now _ c.self.view_is
    (no_label c.self.inside.made.items c.args.text.now c.self.invariant.uuids
    (λ u is e. wrong (c.in_default.ensures.variant.1 (cut_behind c.args.text.now u c.utf8.text e))))

pub returns-in_default-uuid_of-clause-label : goal.returns-in_default-uuid_of-clause-label
returns-in_default-uuid_of-clause-label c =
    at_self c.self.inside.made.items c.args.self.now c.args.text.now _ c.self.view_is
    (no_label c.self.inside.made.items c.args.text.now c.self.invariant.uuids
    (λ u is e. c.in_default-uuid_of.ensures.none u (record { count = is.count; fit = is.fit; spelled = c.in-Some.ensures.front ∙ e })))

pub returns-in-Some-get-clause-label : goal.returns-in-Some-get-clause-label
returns-in-Some-get-clause-label c =
    let spelled = c.in-Some-uuid_of.ensures.some in
    let is : IsUuidBytes c.in-Some-uuid_of.uuid = record { count = spelled.count; fit = spelled.fit } in
    let front : take 36 c.args.text.now ≡ uuid_text c.in-Some-uuid_of.uuid = sym c.in-Some.ensures.front ∙ spelled.spelled in
    let number = numbered c.self.inside.made.items c.in-Some-uuid_of.uuid c.in-Some-get.number.now
    (c.in-Some-get.ensures.value ∙ c.self.invariant.found c.in-Some-uuid_of.uuid)
    in
    at_self c.self.inside.made.items c.args.self.now c.args.text.now _ c.self.view_is
    (label_found c.self.inside.made.items c.args.text.now c.in-Some-uuid_of.uuid c.self.invariant.uuids is front number.0
    ∙ ap (λ (n : ℕ). Some (35 ∷ decimal n)) (sym number.1))

pub returns-in-None-clause-label : goal.returns-in-None-clause-label
returns-in-None-clause-label c =
    let spelled = c.in-Some-uuid_of.ensures.some in
    let is : IsUuidBytes c.in-Some-uuid_of.uuid = record { count = spelled.count; fit = spelled.fit } in
    let front : take 36 c.args.text.now ≡ uuid_text c.in-Some-uuid_of.uuid = sym c.in-Some.ensures.front ∙ spelled.spelled in
    at_self c.self.inside.made.items c.args.self.now c.args.text.now _ c.self.view_is
    (label_missing c.self.inside.made.items c.args.text.now c.in-Some-uuid_of.uuid c.self.invariant.uuids is front
    (unlabelled c.self.inside.made.items c.in-Some-uuid_of.uuid (c.in-None.ensures.value ∙ c.self.invariant.found c.in-Some-uuid_of.uuid)))
