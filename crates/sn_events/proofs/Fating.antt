-- The requests of a call over a link that records have fates, which are by what is lost, and of which the records tell.
use Rattle.std.proofs.Common.{◌≡◌, ℕ, List, [], ◌∷◌, true, false, None, refl, sym, ap, subst, inl, inr}
use Rattle.std.specs.declared.option.Option.{Option}
use Rattle.sn_account.specs.RuleLaws.{StaysSound}
use Rattle.sn_account.specs.Sound.{IsSound}
use Rattle.sn_device.specs.Asking.{IsExchange, IsReply, Reply, lost, said, unheard, unread}
use Rattle.sn_device.specs.Runs.{Act, AreExchanges, asked, commits}
use Rattle.sn_events.proofs.Batches.{failed_stays, never_serves}
use Rattle.sn_events.specs.Events.{AreReadableBy, AreServedAt}
use Rattle.sn_events.specs.Fates.{AreByLosses, IsFateBy, IsHeardSo, IsUnanswered}
use Rattle.sn_events.specs.Laws.{commits_of}
use Rattle.sn_io.specs.Causes.{next_count}
use Rattle.sn_laws.specs.Lookups.{Bytes}
use Rattle.sn_link.specs.Deliveries.{Standing, failed, serves}
use Rattle.sn_link.specs.Laws.{AreReadable, HearsNoWant, IsAnswered, IsReadable, IsWanting}
use Rattle.sn_link.specs.Links.{Befalls}
use Rattle.sn_link.specs.Losses.{lost_at}
use Rattle.sn_link.specs.declared.losses.Losses.{Losses}
use Rattle.sn_link.specs.declared.losses.Lost.{Lost}
use Rattle.sn_link.specs.declared.losses.Lost.TheVariants as lose
use Rattle.sn_net.specs.Exchanges.{Exchange}
use Rattle.sn_recorder.specs.Fates.{ExchangesHaveFates, HasFate, IsServedAt}
use Rattle.sn_recorder.specs.Recorded.{AreRecorded, Gains, IsRecordOf, recorded_asked}
use Rattle.sn_recorder.specs.Told.{AreTold, IsToldOf}
use Rattle.sn_recorder.specs.declared.exchanged.Exchanged.{Exchanged}
use Rattle.sn_rows.specs.Table.{Rows}
use Rattle.sn_server.specs.Stores.{Kept}
use Rattle.sn_sync.specs.Requests.{route_of}
use Rattle.sn_sync.specs.declared.answer.Answer.{Answer}
use Rattle.sn_sync.specs.declared.request.Request.{Request}
use Rattle.sn_world.specs.Calls.{AreServed, Fate, IsServed, IsUnheard, crashed, rows_behind, rows_served, served, undelivered}

-- ---- one request

unsaid : (reply : Reply) (given : Answer) → IsUnheard reply → reply ≡ said given → ⊥
unsaid reply given un is = subst IsUnheard is un

unanswered : (rows : Rows) (r : Request) (reply : Reply) (now : ℕ) (fate : Fate) → IsUnheard reply → IsServed rows r reply fate → IsServedAt now fate → IsUnanswered fate
unanswered rows r reply now undelivered un is at = inr refl
unanswered rows r reply now (served moment changes given true) un is at = absurd (unsaid reply given un is.2)
unanswered rows r reply now (served moment changes given false) un is at = inl refl
unanswered rows r reply now (crashed moment changes given) un is at = absurd at

heard : (rows : Rows) (r : Request) (reply : Reply) (now : ℕ) (fate : Fate) → IsServed rows r reply fate → IsServedAt now fate → IsHeardSo reply fate
heard rows r lost now fate is at = unanswered rows r lost now fate tt is at
heard rows r unheard now fate is at = unanswered rows r unheard now fate tt is at
heard rows r (unread place) now fate is at = unanswered rows r (unread place) now fate tt is at
heard rows r (said given) now undelivered is at = absurd is
heard rows r (said given) now (served moment changes answer true) is at = refl
heard rows r (said given) now (served moment changes answer false) is at = absurd is.2
heard rows r (said given) now (crashed moment changes answer) is at = absurd at

none_came : (r : Request) (reply : Reply) (x : Exchange) (host : Bytes) → IsExchange host r reply x → x.answer ≡ None → reply ≡ lost
none_came r reply x host exchange none = subst (λ (o : Option Bytes). IsReply (route_of r) o reply) none exchange.came

lost_unheard : (reply : Reply) → reply ≡ lost → IsUnheard reply
lost_unheard reply is = subst IsUnheard (sym is) tt

unwanting : (rows : Rows) (r : Request) (reply : Reply) (fate : Fate) → ¬ (IsWanting reply) → IsAnswered rows r reply fate → IsServed rows r reply fate
unwanting rows r reply fate quiet (inl is) = is
unwanting rows r reply fate quiet (inr (want, none)) = absurd (quiet want)

-- by what is lost of it
by_lost : (host : Bytes) (r : Request) (reply : Reply) (x : Exchange) (what : Lost) (now : ℕ) (kept next : Kept) (e : Exchanged) (f : HasFate host r reply what now kept next e)
    → IsExchange host r reply x → Befalls what now (serves kept) x (serves next) → IsServed kept.rows r reply f.fate → IsFateBy what reply f.fate
by_lost host r reply x lose.Nothing now kept next e f exchange befalls is = heard kept.rows r reply now f.fate is f.at
by_lost host r reply x lose.Request now kept next e f exchange befalls is = (none_came r reply x host exchange befalls.1, f.none refl)
by_lost host r reply x lose.Reply now kept next e f exchange befalls is =
    let none = none_came r reply x host exchange befalls.2 in
    (none, unanswered kept.rows r reply now f.fate (lost_unheard reply none) is f.at)

sound_behind : (stays : StaysSound) (rows : Rows) (r : Request) (reply : Reply) (fate : Fate) → IsSound rows → IsServed rows r reply fate → IsSound (rows_behind rows fate)
sound_behind stays rows r reply undelivered sound x = sound
sound_behind stays rows r reply (served now changes given arrives) sound x = stays rows r now changes given sound x.0 x.1
sound_behind stays rows r reply (crashed now changes given) sound x = sound

at_more : (now : ℕ) (fate : Fate) (fates : List Fate) → IsServedAt now fate → AreServedAt now fates → AreServedAt now (fate ∷ fates)
at_more now undelivered fates at rest = rest
at_more now (served moment changes given arrives) fates at rest = (at, rest)
at_more now (crashed moment changes given) fates at rest = absurd at

-- ---- all of them

-- they have such fates, which leave these rows
pub record AllFated (host : Bytes) (server : Rows) (acts : List Act) (losses : Losses) (now number : ℕ) (records : List Exchanged) (next : Rows) : Type 0 where
  pub fates : List Fate
  pub are : AreServed server acts fates
  pub by : AreByLosses losses number acts fates
  pub at : AreServedAt now fates
  pub told : AreTold host acts fates (commits_of acts) records
  pub readable : AreReadable host acts
  pub rows_are : next ≡ rows_served server fates

one_first : (host : Bytes) (server mid : Rows) (r : Request) (reply : Reply) (acts : List Act) (losses : Losses) (now number : ℕ) (e : Exchanged) (records : List Exchanged) (next : Rows)
    (fate : Fate) → IsServed server r reply fate → IsFateBy (lost_at losses number) reply fate → IsServedAt now fate → IsToldOf host r reply fate e → IsReadable host r
    → mid ≡ rows_behind server fate → AllFated host mid acts losses now (next_count number) records next
    → AllFated host server (asked r reply ∷ acts) losses now number (e ∷ records) next
one_first host server mid r reply acts losses now number e records next fate is by at told readable rows_are x =
    let there : AllFated host (rows_behind server fate) acts losses now (next_count number) records next =
    subst (λ (rows : Rows). AllFated host rows acts losses now (next_count number) records next) rows_are x in
    record {
      fates = fate ∷ there.fates;
      are = (is, there.are);
      by = (by, there.by);
      at = at_more now fate there.fates at there.at;
      told = (told, there.told);
      readable = (readable, there.readable);
      rows_are = there.rows_are;
    }

module _ (law : ExchangesHaveFates) (stays : StaysSound) (host : Bytes) (r : Request) (reply : Reply) (acts : List Act) (losses : Losses) (now number : ℕ) (kept : Kept) (x : Exchange)
    (xs : List Exchange) (last : ℕ) (next : Kept) (sound : IsSound kept.rows) (readable : AreReadableBy host kept.rows (asked r reply ∷ acts)) (exchange : IsExchange host r reply x)
    (quiet : ¬ (IsWanting reply))
    (on : (k : Kept) (records : List Exchanged) → IsSound k.rows → AreRecorded losses now (next_count number) (serves k) xs records last (serves next) → AreReadableBy host k.rows acts
    → AllFated host k.rows acts losses now (next_count number) records next.rows) where
  goes_fated : (e : Exchanged) (records : List Exchanged) (mid : Standing) → Befalls (lost_at losses number) now (serves kept) x mid → IsRecordOf x e → Gains (serves kept) e.batches mid
      → AreRecorded losses now (next_count number) mid xs records last (serves next) → AllFated host kept.rows (asked r reply ∷ acts) losses now number (e ∷ records) next.rows
  goes_fated e records (serves k) befalls record_of gains behind =
      let f = law host r reply (lost_at losses number) now kept k x e sound readable.0 exchange befalls record_of gains in
      let is = unwanting kept.rows r reply f.fate quiet f.is in
      one_first host kept.rows k.rows r reply acts losses now number e records next.rows f.fate is
      (by_lost host r reply x (lost_at losses number) now kept k e f exchange befalls is) f.at f.told readable.0 f.rows_are
      (on k records (subst IsSound (sym f.rows_are) (sound_behind stays kept.rows r reply f.fate sound is)) behind
      (subst (λ (rows : Rows). AreReadableBy host rows acts) (sym f.rows_are) (readable.1 f.fate (inl is))))
  goes_fated e records (failed had made) befalls record_of gains behind =
      absurd (never_serves had next made (failed_stays losses now (next_count number) had made xs last (serves next)
      (recorded_asked losses now (next_count number) (failed had made) xs records last (serves next) behind)))

  first_fated : (records : List Exchanged) → AreRecorded losses now number (serves kept) (x ∷ xs) records last (serves next)
      → AllFated host kept.rows (asked r reply ∷ acts) losses now number records next.rows
  first_fated [] none = absurd none
  first_fated (e ∷ records) (mid, befalls, record_of, gains, behind) = goes_fated e records mid befalls record_of gains behind

same_rows : (kept next : Kept) → serves next ≡ serves kept → next.rows ≡ kept.rows
same_rows kept next is = let same : next ≡ kept = cc in ap (λ (k : Kept). k.rows) same

none_fated : (host : Bytes) (losses : Losses) (now number : ℕ) (kept : Kept) (records : List Exchanged) (last : ℕ) (next : Kept)
    → AreRecorded losses now number (serves kept) [] records last (serves next) → AllFated host kept.rows [] losses now number records next.rows
none_fated host losses now number kept records last next (none, count, same) = record {
  fates = [];
  are = refl;
  by = refl;
  at = tt;
  told = (refl, refl, none);
  readable = tt;
  rows_are = same_rows kept next same;
}

pub all_fated : (law : ExchangesHaveFates) (stays : StaysSound) (host : Bytes) (acts : List Act) (losses : Losses) (now number : ℕ) (kept : Kept) (xs : List Exchange)
    (records : List Exchanged) (last : ℕ) (next : Kept) → IsSound kept.rows → HearsNoWant acts → AreRecorded losses now number (serves kept) xs records last (serves next)
    → AreExchanges host acts xs → AreReadableBy host kept.rows acts → AllFated host kept.rows acts losses now number records next.rows
all_fated law stays host [] losses now number kept xs records last next sound hears are exchanges readable =
    none_fated host losses now number kept records last next (subst (λ (l : List Exchange). AreRecorded losses now number (serves kept) l records last (serves next)) exchanges are)
all_fated law stays host (commits what changes ∷ acts) losses now number kept xs records last next sound hears are exchanges readable =
    let x = all_fated law stays host acts losses now number kept xs records last next sound hears are exchanges readable in
    record { fates = x.fates; are = x.are; by = x.by; at = x.at; told = (refl, x.told); readable = x.readable; rows_are = x.rows_are }
all_fated law stays host (asked r reply ∷ acts) losses now number kept xs records last next sound (quiet, hears) are (x, later, is, exchange, others) readable =
    first_fated law stays host r reply acts losses now number kept x later last next sound readable exchange quiet
    (λ k more k_sound recorded readable_then. all_fated law stays host acts losses now (next_count number) k later more last next k_sound hears recorded others readable_then)
    records (subst (λ (l : List Exchange). AreRecorded losses now number (serves kept) l records last (serves next)) is are)
