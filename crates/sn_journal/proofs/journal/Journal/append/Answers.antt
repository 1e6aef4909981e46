use Rattle.std.proofs.Common.{◌≡◌, ◌+◌, ◌≤◌, ◌++◌, [], ◌∷◌, List, ℕ, length, inl, sym, ◌∙◌, ap, arith, Result, OnOk, Ok, Err, false, is_err, length-append}
use Rattle.sn_disk.specs.Disk.{overwritten}
use Rattle.sn_disk.specs.Moments.{weaker, joined}
use Rattle.sn_journal.specs.Image.{front}
use Rattle.sn_journal.proofs.Gates.{long_after, chain_torn, chain_staged, staged_torn, staged_opened}
use Rattle.sn_journal.specs.Facts.{length-front_more, few_payloads}
use Rattle.sn_journal.proofs.journal.Journal.append.Goals as goal

on_ok : {T E : Type 0} (r : Result T E) (P : Type 0) → is_err r ≡ false → OnOk r P → P
on_ok (Ok x) P none p = p
on_ok (Err e) P none p = absurd (cc)

pub returns-then-is_err-clause-any_moment : goal.returns-then-is_err-clause-any_moment
returns-then-is_err-clause-any_moment g c = λ told payloads s.
    let place : c.saturating_add.result ≡ length (front c.args.self.owner payloads) + 1 = omega (arith, c.saturating_add.ensures, s.place, c.args.self.within told, g.met.D.Disk.is_short told c.args.self.disk) in
    weaker g.D.Disk.moment g.D.Disk.left_since _ _ _ _ (c.write_durably.ensures.any_moment told s.durable)
    (λ f torn. inl (inl (chain_torn _ payloads _ f _ _ s.chain place torn)))

pub returns-then-is_err-2-clause-any_moment : goal.returns-then-is_err-2-clause-any_moment
returns-then-is_err-2-clause-any_moment g c = λ told payloads s.
    let place : c.saturating_add.result ≡ length (front c.args.self.owner payloads) + 1 = omega (arith, c.saturating_add.ensures, s.place, c.args.self.within told, g.met.D.Disk.is_short told c.args.self.disk) in
    let is_written = on_ok c.write_durably.result _ (sym c.is_err.ensures.value ∙ c.if-is_err.false) (c.write_durably.ensures.written told)
    ∙ ap (λ (bytes : List ℕ). overwritten (g.D.Disk.seen c.args.self.disk) c.saturating_add.result bytes) (c.deref.ensures.value ∙ c.in-Ok.ensures) in
    let staged = chain_staged c.args.self.owner payloads c.args.payload.now (g.D.Disk.seen c.args.self.disk) (g.D.Disk.seen c.write_durably.new.disk) c.saturating_add.result s.chain place is_written in
    let durable = on_ok c.write_durably.result _ (sym c.is_err.ensures.value ∙ c.if-is_err.false) (c.write_durably.ensures.durable told) in
    joined g.D.Disk.moment g.D.Disk.left_since _ _ _ _ _ _ (c.write_durably.ensures.any_moment told s.durable) (c.write_durably-2.ensures.any_moment told durable)
    (λ f torn. inl (inl (chain_torn _ payloads _ f _ _ s.chain place torn)))
    (λ f torn. staged_torn _ payloads _ _ f _ staged s.place (omega arith) torn)

pub returns-clause-any_moment : goal.returns-clause-any_moment
returns-clause-any_moment g c = λ told payloads s.
    let place : c.saturating_add.result ≡ length (front c.args.self.owner payloads) + 1 = omega (arith, c.saturating_add.ensures, s.place, c.args.self.within told, g.met.D.Disk.is_short told c.args.self.disk) in
    let is_written = on_ok c.write_durably.result _ (sym c.is_err.ensures.value ∙ c.if-is_err.false) (c.write_durably.ensures.written told)
    ∙ ap (λ (bytes : List ℕ). overwritten (g.D.Disk.seen c.args.self.disk) c.saturating_add.result bytes) (c.deref.ensures.value ∙ c.in-Ok.ensures) in
    let staged = chain_staged c.args.self.owner payloads c.args.payload.now (g.D.Disk.seen c.args.self.disk) (g.D.Disk.seen c.write_durably.new.disk) c.saturating_add.result s.chain place is_written in
    let durable = on_ok c.write_durably.result _ (sym c.is_err.ensures.value ∙ c.if-is_err.false) (c.write_durably.ensures.durable told) in
    joined g.D.Disk.moment g.D.Disk.left_since _ _ _ _ _ _ (c.write_durably.ensures.any_moment told s.durable) (c.write_durably-2.ensures.any_moment told durable)
    (λ f torn. inl (inl (chain_torn _ payloads _ f _ _ s.chain place torn)))
    (λ f torn. staged_torn _ payloads _ _ f _ staged s.place (omega arith) torn)

pub returns-clause-done : goal.returns-clause-done
returns-clause-done g c = λ told payloads s.
    let place : c.saturating_add.result ≡ length (front c.args.self.owner payloads) + 1 = omega (arith, c.saturating_add.ensures, s.place, c.args.self.within told, g.met.D.Disk.is_short told c.args.self.disk) in
    let is_written = on_ok c.write_durably.result _ (sym c.is_err.ensures.value ∙ c.if-is_err.false) (c.write_durably.ensures.written told)
    ∙ ap (λ (bytes : List ℕ). overwritten (g.D.Disk.seen c.args.self.disk) c.saturating_add.result bytes) (c.deref.ensures.value ∙ c.in-Ok.ensures) in
    let staged = chain_staged c.args.self.owner payloads c.args.payload.now (g.D.Disk.seen c.args.self.disk) (g.D.Disk.seen c.write_durably.new.disk) c.saturating_add.result s.chain place is_written in
    let is_opened = on_ok c.write_durably-2.result _ (sym c.is_err-2.ensures.value ∙ c.if-is_err-2.false) (c.write_durably-2.ensures.written told) in
    let chain = staged_opened c.args.self.owner payloads c.args.payload.now (g.D.Disk.seen c.write_durably.new.disk) (g.D.Disk.seen c.write_durably-2.new.disk) c.args.self.gate staged s.place (omega arith) is_opened in
    let long = length-front_more c.args.self.owner payloads c.args.payload.now in
    let fits : length (front c.args.self.owner payloads) + (length c.args.payload.now + 5) ≤ length (g.D.Disk.seen c.write_durably-2.new.disk) =
    omega (arith, ap length chain.split, length-append (front c.args.self.owner (payloads ++ c.args.payload.now ∷ [])) chain.rest, long) in
    record {
      chain = chain;
      place = omega (arith, c.saturating_add-2.ensures, s.place, long, fits, g.met.D.Disk.is_short told c.write_durably-2.new.disk);
      count = omega (arith, c.saturating_add-3.ensures, s.count, length-append payloads (c.args.payload.now ∷ []), few_payloads c.args.self.owner payloads, fits, g.met.D.Disk.is_short told c.write_durably-2.new.disk);
      durable = on_ok c.write_durably-2.result _ (sym c.is_err-2.ensures.value ∙ c.if-is_err-2.false) (c.write_durably-2.ensures.durable told);
    }

pub invariant_of-result : goal.invariant_of-result
invariant_of-result g c = record {
  within = λ told.
      let place : c.saturating_add.result ≡ c.args.self.gate + 1 = omega (arith, c.saturating_add.ensures, c.args.self.within told, g.met.D.Disk.is_short told c.args.self.disk) in
      let is_written = on_ok c.write_durably.result _ (sym c.is_err.ensures.value ∙ c.if-is_err.false) (c.write_durably.ensures.written told)
      ∙ ap (λ (bytes : List ℕ). overwritten (g.D.Disk.seen c.args.self.disk) c.saturating_add.result bytes) (c.deref.ensures.value ∙ c.in-Ok.ensures) in
      let is_opened = on_ok c.write_durably-2.result _ (sym c.is_err-2.ensures.value ∙ c.if-is_err-2.false) (c.write_durably-2.ensures.written told) in
      let long = long_after c.args.payload.now (g.D.Disk.seen c.args.self.disk) (g.D.Disk.seen c.write_durably.new.disk) (g.D.Disk.seen c.write_durably-2.new.disk) c.args.self.gate c.saturating_add.result (c.args.self.within told) place is_written is_opened in
      omega (arith, c.saturating_add-2.ensures, long, g.met.D.Disk.is_short told c.write_durably-2.new.disk);
}
