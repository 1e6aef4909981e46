-- Where no password was changed, what a device has: no row is to be sealed again, no older set is held, and its greatest set is its account's last.
use Rattle.std.proofs.Common.{◌≡◌, ℕ, List, [], ◌∷◌, ◌++◌, length, None, sym, ◌∙◌, subst}
use Rattle.sn_device.specs.Runs.{IsRound, Round, Standing}
use Rattle.sn_device.specs.States.{HasSets}
use Rattle.sn_laws.specs.Each.{Each}
use Rattle.sn_laws.specs.Lookups.{Bytes, greatest}
use Rattle.sn_laws.specs.declared.ideal.Account.{Account}
use Rattle.sn_laws.specs.declared.ideal.Device.{Device}
use Rattle.sn_laws.specs.declared.ideal.Ideal.{Ideal}
use Rattle.sn_rows.specs.declared.change.Change.{Change}
use Rattle.sn_rows.specs.declared.device_rows.OwnerRow.{OwnerRow}
use Rattle.sn_rows.specs.declared.key.Key.TheVariants as key
use Rattle.sn_rows.specs.declared.key.Slot.TheVariants.{Older}
use Rattle.sn_sets.specs.declared.sets.Sets.{Sets}
use Rattle.sn_shows.proofs.Facts.{holder_of}
use Rattle.sn_shows.specs.Devices.{ShowsHolder}
use Rattle.sn_shows.specs.Laws.{HasAccount}
use Rattle.sn_sync.specs.declared.request.Request.{Request}
use Rattle.sn_world.proofs.AnswerPasses.{NoneStale}
use Rattle.sn_world.proofs.HeldSets.{held_sets}
use Rattle.sn_world.proofs.PlainSets.{holds_one}
use Rattle.sn_world.proofs.PresentSets.{none_in}
use Rattle.sn_world.proofs.Tokens.{named_at}
use Rattle.sn_world.specs.Happens.{Happens}
use Rattle.sn_world.specs.Plain.{HoldsPlain, IsPlainStep, KeepsSet, PlainRows}
use Rattle.sn_world.specs.Rounds.{posting_steps, round_steps}
use Rattle.sn_world.specs.World.{World}

pub record IsPlainDevice (v : World) (t : Ideal) (name : Bytes) : Type 0 where
  pub fresh : NoneStale (v.devices name)
  pub no_older : (owner : OwnerRow) (sets : Sets) → HasSets (v.devices name) owner sets → sets.older ≡ None
  pub last : (d : Device) (a : Account) → HasAccount t name d a → greatest 0 d.held ≡ length a.sets

pub plain_device : PlainRows → (secret : Bytes) (v : World) (t : Ideal) (name : Bytes) → HoldsPlain secret v t → IsPlainDevice v t name
plain_device law secret v t name p =
    let both = law secret v t name p in
    record {
      fresh = both.0;
      no_older = λ owner sets holds. none_in (v.devices name) owner.identifier Older sets.older both.1 holds.before;
      last = λ d a has.
          let k = named_at t d.account a has.account in
          let one : length a.sets ≡ 1 = p.plain.one_set k.0 a k.1 in
          let holder : ShowsHolder (v.devices name) t name d a = holder_of (v.devices name) t name d a (p.holds.devices name) has in
          (holds_one d.held (length a.sets) a (v.devices name (key.Set Older)) one (held_sets t p.holds.reached name d a has) holder.older).0
          ∙ sym one;
    }

-- ---- a round

posting_plain : (name : Bytes) (numbers : List ℕ) (posted : List Change) (steps : List Happens) → Each IsPlainStep steps
    → Each IsPlainStep (posting_steps name numbers posted ++ steps)
posting_plain name [] posted steps plain = plain
posting_plain name (n ∷ ns) posted steps plain = (tt, plain)

-- it changes no password
pub round_plain : (name : Bytes) (at : Standing) (round : Round) (after : Standing) (now : ℕ) (changes : List Change) → IsRound at round after
    → Each IsPlainStep (round_steps name round now changes)
round_plain name at round after now changes x =
    let keeps : KeepsSet round.request = subst (λ (r : Request). KeepsSet r) (sym x.sends.request_is.request_is) tt in
    posting_plain name round.numbers round.posted _ (keeps, (tt, (tt, tt)))
