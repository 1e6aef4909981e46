use Rattle.std.proofs.Common.{◌≡◌, ◌∙◌, ◌≤◌, ◌+◌, ◌*◌, ℕ, List, [], drop, length, sym, ap, subst, inl, arith, refl}
use Rattle.sn_journal.specs.Image.{front, IsImage, IsChain, missing_writes}
use Rattle.sn_journal.specs.Loading.{IsStartAt}
use Rattle.sn_journal.specs.Reading.{AreIn}
use Rattle.sn_journal.proofs.Loads.{start_image, start_missing, made_chain, made_moments, none_read, chain_long, chain_read, none_missing}
use Rattle.sn_journal.proofs.loading.open.Goals as goal

pub behind_header-requires : goal.behind_header-requires
behind_header-requires g c =
    let has = c.in-Batches.ensures in
    omega (arith, ap length c.deref.ensures.value, chain_long c.args.owner c.deref.result.now has.payloads has.chain)

pub returns-in-Batches-clause-opened : goal.returns-in-Batches-clause-opened
returns-in-Batches-clause-opened g c = λ told.
    let has = c.in-Batches.ensures in
    let old = g.D.Disk.seen c.args.disk.now in
    let is : c.deref.result.now ≡ old = c.deref.ensures.value ∙ c.in_ok-bytes.ensures.bytes told in
    let chain : IsChain c.args.owner old has.payloads = subst (λ (f : List ℕ). IsChain c.args.owner f has.payloads) is has.chain in
    let left : c.behind_header.result ≡ drop 16 c.deref.result.now = c.behind_header.ensures ∙ ap (λ (l : List ℕ). drop 16 l) (sym c.deref.ensures.value) in
    record {
      payloads = has.payloads;
      chain = subst (λ (f : List ℕ). IsChain c.args.owner f has.payloads) (sym (c.in_ok-bytes.ensures.seen told)) chain;
      gate_is = has.gate_is;
      count_is = has.count_is;
      read = subst (λ (l : List ℕ). AreIn l has.payloads) (sym left) (chain_read c.args.owner c.deref.result.now has.payloads has.chain);
      durable = c.in_ok-bytes.ensures.durable told;
      image = inl chain;
    }

pub returns-in-Batches-clause-calls : goal.returns-in-Batches-clause-calls
returns-in-Batches-clause-calls g c = λ told.
    let has = c.in-Batches.ensures in
    let old = g.D.Disk.seen c.args.disk.now in
    let is : c.deref.result.now ≡ old = c.deref.ensures.value ∙ c.in_ok-bytes.ensures.bytes told in
    let none : missing_writes old ≡ 0 = ap missing_writes (sym is) ∙ none_missing c.args.owner c.deref.result.now has.payloads has.chain in
    let one = c.in_ok-bytes.ensures.one told in
    record { done = omega (arith, none, one.done); most = omega (arith, none, one.most) }

pub returns-in_ok-make_from-in-Unfinished-clause-opened : goal.returns-in_ok-make_from-in-Unfinished-clause-opened
returns-in_ok-make_from-in-Unfinished-clause-opened g c = λ told.
    let is : c.deref.result.now ≡ g.D.Disk.seen c.args.disk.now = c.deref.ensures.value ∙ c.in_ok-bytes.ensures.bytes told in
    let made = made_chain c.args.owner (g.D.Disk.seen c.make_from.new.disk) (c.in_ok-make_from-in-Unfinished.ensures.made told) in
    record {
      payloads = [];
      chain = made.0;
      gate_is = made.1;
      count_is = refl;
      read = subst (λ (l : List ℕ). AreIn l []) (sym c.none.ensures) none_read;
      durable = c.in_ok-make_from-in-Unfinished.ensures.durable told;
      image = start_image c.args.owner c.deref.result.now (g.D.Disk.seen c.args.disk.now) c.in-Unfinished.start is c.in-Unfinished.ensures;
    }

pub returns-in_ok-make_from-in-Unfinished-clause-any_moment : goal.returns-in_ok-make_from-in-Unfinished-clause-any_moment
returns-in_ok-make_from-in-Unfinished-clause-any_moment g c = λ told.
    let is : c.deref.result.now ≡ g.D.Disk.seen c.args.disk.now = c.deref.ensures.value ∙ c.in_ok-bytes.ensures.bytes told in
    let empty = start_image c.args.owner c.deref.result.now (g.D.Disk.seen c.args.disk.now) c.in-Unfinished.start is c.in-Unfinished.ensures in
    made_moments g.D.Disk.moment g.D.Disk.left_since c.args.disk.now c.read_synced.new.disk c.make_from.new.disk (g.D.Disk.may_leave c.args.disk.now) c.args.owner (g.D.Disk.seen c.args.disk.now)
    (c.read_synced.ensures.any_moment told) (c.make_from.ensures.any_moment told (c.in_ok-bytes.ensures.durable told)) empty

pub returns-in_err-make_from-in-Unfinished-clause-any_moment : goal.returns-in_err-make_from-in-Unfinished-clause-any_moment
returns-in_err-make_from-in-Unfinished-clause-any_moment g c = λ told.
    let is : c.deref.result.now ≡ g.D.Disk.seen c.args.disk.now = c.deref.ensures.value ∙ c.in_ok-bytes.ensures.bytes told in
    let empty = start_image c.args.owner c.deref.result.now (g.D.Disk.seen c.args.disk.now) c.in-Unfinished.start is c.in-Unfinished.ensures in
    made_moments g.D.Disk.moment g.D.Disk.left_since c.args.disk.now c.read_synced.new.disk c.make_from.new.disk (g.D.Disk.may_leave c.args.disk.now) c.args.owner (g.D.Disk.seen c.args.disk.now)
    (c.read_synced.ensures.any_moment told) (c.make_from.ensures.any_moment told (c.in_ok-bytes.ensures.durable told)) empty
