-- A change of password by a server's rule: the rows stay sound, and it is refused, or done.
use Rattle.std.proofs.Common.{◌≡◌, ◌⊎◌, ℕ, sym, ◌∙◌, subst, inl, inr}
use Rattle.std.specs.Prelude.{codes}
use Rattle.sn_account.specs.Laws.{StaysSoundChanging}
use Rattle.sn_account.specs.Lookups.{HasAccount}
use Rattle.sn_account.specs.Rules.{ChangesKeys, ChangesPassword, IsPresent, IsUsed}
use Rattle.sn_account.specs.Sessions.{IsSession}
use Rattle.sn_account.specs.Sound.{most_generations}
use Rattle.sn_keys.specs.Keys.{check_value}
use Rattle.sn_laws.specs.Lookups.{Bytes}
use Rattle.sn_rows.specs.declared.server_rows.AccountRow.{AccountRow}
use Rattle.sn_shows.specs.Rekeying.{ChangedServer}
use Rattle.sn_string.specs.Laws.{HasOneReading}
use Rattle.sn_string.specs.declared.params.Params.{Params}
use Rattle.sn_sync.specs.declared.answer.More.TheVariants as more
use Rattle.sn_changed.proofs.Changed.{allowed, changed}
use Rattle.sn_changed.proofs.Holders.{Holder, holder_of}
use Rattle.sn_changed.proofs.Refused.{behind, full, other_check, used}
use Rattle.sn_changed.specs.Laws.{ChangeServed, HasCheck, IsChanged, IsHolder, IsRefused}

pub change_served : StaysSoundChanging → ChangedServer → HasOneReading → ChangeServed
change_served sound_law server_law one_reading rows store s token current pw cost nonce set changes given h asked x =
    (sound_law rows store token current pw cost nonce changes given h.sound h.stands x, by x)
  where
    keyed : (n : ℕ) (row : AccountRow) (present : Params) → IsSession rows token n → HasAccount rows n row → Holder rows s n row
        → row.check ≡ check_value current → IsPresent rows n present → ChangesKeys rows store n row present pw cost nonce changes given
        → IsRefused rows s token current set changes given ⊎ IsChanged rows store s token current set changes given
    keyed n row present session there o check is y = of y
      where
        holder : IsHolder rows s.accounts token n o.account
        holder = record { at = o.at; session = session }

        right : HasCheck o.account current
        right = (o.last, o.last_is, sym o.check ∙ check)

        of : ChangesKeys rows store n row present pw cost nonce changes given
            → IsRefused rows s token current set changes given ⊎ IsChanged rows store s token current set changes given
        of (inl (uuid, least, refused)) =
            inl
            (inr (
              n,
              o.account,
              holder,
              right,
              (λ may. behind rows store s h set n row there o may present is uuid least.behind),
              (codes "rekey-running", more.Uuid uuid, refused),
            ))
        of (inr (inl (none, had, refused))) =
            inl
            (inr (
              n,
              o.account,
              holder,
              right,
              (λ may. used rows store s h set n row there o may (subst (λ (z : Bytes). IsUsed rows n z) (sym asked.nonce_is) had)),
              (codes "nonce-used", more.Nothing, refused),
            ))
        of (inr (inr (inl (none, unused, most, refused)))) =
            inl
            (inr (
              n,
              o.account,
              holder,
              right,
              (λ may. full rows store s h set n row there o may most),
              (codes "changes-used", more.Number most_generations, refused),
            ))
        of (inr (inr (inr (none, unused, room, z)))) =
            inr
            (changed server_law one_reading rows store s h token current pw cost nonce set asked n row session there o changes given z check
            (allowed server_law one_reading rows store s h token current pw cost nonce set asked n row session there o present is none unused room))

    by : ChangesPassword rows store token current pw cost nonce changes given
        → IsRefused rows s token current set changes given ⊎ IsChanged rows store s token current set changes given
    by (inl (none, refused)) = inl (inl (inl none, refused))
    by (inr (inl (n, row, session, there, other, refused))) =
        let o : Holder rows s n row = holder_of rows store s h n row there in
        inl (inl (inr (n, o.account, record { at = o.at; session = session }, other_check rows s n row current o other), refused))
    by (inr (inr (n, row, present, session, there, check, is, y))) =
        keyed n row present session there (holder_of rows store s h n row there) check is y
