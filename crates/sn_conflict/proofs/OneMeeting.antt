-- A row meets a version in one way at most.
use Rattle.std.proofs.Common.{◌≡◌, sym, subst, refl, ℕ, ◌⊎◌, inl, inr, List, Bool, true, false, None}
use Rattle.sn_conflict.specs.Laws.{OneMeeting}
use Rattle.sn_conflict.specs.Meetings.{HasContent, IsKnown, MeetsAs, MeetsClosed, MeetsDraft, MeetsOther, MeetsText, PostedHasContent}
use Rattle.sn_conflict.specs.declared.meeting.Meeting.{Meeting}
use Rattle.sn_conflict.specs.declared.meeting.Meeting.TheVariants as meeting
use Rattle.sn_rows.specs.declared.body.RowBody.{RowBody}
use Rattle.sn_rows.specs.declared.body.RowBody.TheVariants as row
use Rattle.sn_rows.specs.declared.body.RowStrings.{RowStrings}
use Rattle.sn_rows.specs.declared.device_rows.LocalItem.{LocalItem}
use Rattle.sn_sets.specs.Sets.{OpensHeld, OpensNowhere, sealed_of}
use Rattle.sn_sets.specs.declared.sets.Sets.{Sets}
use Rattle.sn_sync.specs.declared.item.Item.{Item}

module _ (sets : Sets) (local : LocalItem) (i : Item) (saved : Bool) where
  -- one draft
  same_draft : (a b : RowBody) → MeetsDraft local i saved a → MeetsDraft local i saved b → a ≡ b
  same_draft a b first second = let x = first.drafted in let y = second.drafted in cc

  same_strings : (a b : RowStrings) → MeetsDraft local i saved (row.Sealed a) → MeetsDraft local i saved (row.Sealed b) → a ≡ b
  same_strings a b first second = let x = first.drafted in let y = second.drafted in cc

  not_both : (strings : RowStrings) → MeetsDraft local i saved row.Deleted → MeetsDraft local i saved (row.Sealed strings) → ⊥
  not_both strings first second = let x = first.drafted in let y = second.drafted in cc

  has_of : (a b : RowBody) → MeetsDraft local i saved a → MeetsDraft local i saved b → HasContent sets local a i → HasContent sets local b i
  has_of a b first second h = subst (λ (v : RowBody). HasContent sets local v i) (same_draft a b first second) h

  known_first : (m : Meeting) → MeetsAs sets local i saved m → IsKnown local i saved → meeting.Same ≡ m
  known_first meeting.Same h k = refl
  known_first meeting.Take h k = absurd (h.news k)
  known_first (meeting.Own true) h k = absurd (h.meets.news k)
  known_first (meeting.Own false) h k = absurd (h.meets.news k)
  known_first meeting.GiveWay h k = absurd (h.meets.news k)
  known_first meeting.Fork h k = absurd (h.other.meets.news k)

  clean_then : (m : Meeting) → MeetsAs sets local i saved m → ¬ (IsKnown local i saved) → local.latest ≡ None → meeting.Take ≡ m
  clean_then meeting.Same (inl k) news clean = absurd (news k)
  clean_then meeting.Same (inr h) news clean = absurd (let x = h.other.meets.drafted in cc)
  clean_then meeting.Take h news clean = refl
  clean_then (meeting.Own true) h news clean = absurd (let x = h.meets.drafted in cc)
  clean_then (meeting.Own false) h news clean = absurd (let x = h.meets.drafted in cc)
  clean_then meeting.GiveWay h news clean = absurd (let x = h.meets.drafted in cc)
  clean_then meeting.Fork h news clean = absurd (let x = h.other.meets.drafted in cc)

  own_then : (m : Meeting) (latest : RowBody) → MeetsAs sets local i saved m → MeetsDraft local i saved latest → HasContent sets local latest i
      → meeting.Own true ≡ m
  own_then meeting.Same latest (inl k) meets own = absurd (meets.news k)
  own_then meeting.Same latest (inr h) meets own = absurd (h.other.differs (has_of latest (row.Sealed h.strings) meets h.other.meets own))
  own_then meeting.Take latest h meets own = absurd (let x = meets.drafted in let y = h.clean in cc)
  own_then (meeting.Own true) latest h meets own = refl
  own_then (meeting.Own false) latest h meets own = absurd (h.differs (has_of latest h.latest meets h.meets own))
  own_then meeting.GiveWay latest h meets own = absurd (h.differs (has_of latest row.Deleted meets h.meets own))
  own_then meeting.Fork latest h meets own = absurd (h.other.differs (has_of latest (row.Sealed h.strings) meets h.other.meets own))

  posted_then : (m : Meeting) (latest : RowBody) → MeetsAs sets local i saved m → MeetsDraft local i saved latest → ¬ (HasContent sets local latest i)
      → PostedHasContent sets local i → meeting.Own false ≡ m
  posted_then meeting.Same latest (inl k) meets other own = absurd (meets.news k)
  posted_then meeting.Same latest (inr h) meets other own = absurd (h.other.differed own)
  posted_then meeting.Take latest h meets other own = absurd (let x = meets.drafted in let y = h.clean in cc)
  posted_then (meeting.Own true) latest h meets other own = absurd (other (has_of h.latest latest h.meets meets h.same))
  posted_then (meeting.Own false) latest h meets other own = refl
  posted_then meeting.GiveWay latest h meets other own = absurd (h.differed own)
  posted_then meeting.Fork latest h meets other own = absurd (h.other.differed own)

  -- a draft whose content is another's, and of which nothing that was sent has the content
  last_then : (m : Meeting) (latest : RowBody) → MeetsAs sets local i saved m → MeetsOther sets local i saved latest
      → MeetsClosed sets local i saved ⊎ ((m ≡ meeting.GiveWay) × MeetsOther sets local i saved row.Deleted) ⊎ ((m ≡ meeting.Fork) × MeetsText sets local i saved)
  last_then meeting.Same latest (inl k) other = absurd (other.meets.news k)
  last_then meeting.Same latest (inr h) other = inl h
  last_then meeting.Take latest h other = absurd (let x = other.meets.drafted in let y = h.clean in cc)
  last_then (meeting.Own true) latest h other = absurd (other.differs (has_of h.latest latest h.meets other.meets h.same))
  last_then (meeting.Own false) latest h other = absurd (other.differed h.same)
  last_then meeting.GiveWay latest h other = inr (inl (refl, h))
  last_then meeting.Fork latest h other = inr (inr (refl, h))

  deletion_then : (m : Meeting) → MeetsOther sets local i saved row.Deleted
      → MeetsClosed sets local i saved ⊎ ((m ≡ meeting.GiveWay) × MeetsOther sets local i saved row.Deleted) ⊎ ((m ≡ meeting.Fork) × MeetsText sets local i saved)
      → meeting.GiveWay ≡ m
  deletion_then m deletion (inl closed) = absurd (not_both closed.strings deletion.meets closed.other.meets)
  deletion_then m deletion (inr (inl gives)) = sym gives.0
  deletion_then m deletion (inr (inr forks)) = absurd (not_both forks.1.strings deletion.meets forks.1.other.meets)

  opens_or_not : (a b : RowStrings) (text : List ℕ) → MeetsDraft local i saved (row.Sealed a) → MeetsDraft local i saved (row.Sealed b)
      → OpensNowhere sets local.uuid (sealed_of a) → OpensHeld sets local.uuid (sealed_of b) text → ⊥
  opens_or_not a b text first second none opens =
      none text (subst (λ (s : RowStrings). OpensHeld sets local.uuid (sealed_of s) text) (same_strings b a second first) opens)

  text_then : (m : Meeting) → MeetsText sets local i saved
      → MeetsClosed sets local i saved ⊎ ((m ≡ meeting.GiveWay) × MeetsOther sets local i saved row.Deleted) ⊎ ((m ≡ meeting.Fork) × MeetsText sets local i saved)
      → meeting.Fork ≡ m
  text_then m text (inl closed) =
      absurd (opens_or_not closed.strings text.strings text.text closed.other.meets text.other.meets closed.closed text.opens)
  text_then m text (inr (inl gives)) = absurd (not_both text.strings gives.1.meets text.other.meets)
  text_then m text (inr (inr forks)) = sym forks.0

  closed_then : (m : Meeting) → MeetsAs sets local i saved m → MeetsClosed sets local i saved → meeting.Same ≡ m
  closed_then meeting.Same h closed = refl
  closed_then meeting.Take h closed = absurd (let x = closed.other.meets.drafted in let y = h.clean in cc)
  closed_then (meeting.Own true) h closed = absurd (closed.other.differs (has_of h.latest (row.Sealed closed.strings) h.meets closed.other.meets h.same))
  closed_then (meeting.Own false) h closed = absurd (closed.other.differed h.same)
  closed_then meeting.GiveWay h closed = absurd (not_both closed.strings h.meets closed.other.meets)
  closed_then meeting.Fork h closed =
      absurd (opens_or_not closed.strings h.strings h.text closed.other.meets h.other.meets closed.closed h.opens)

  one : (a b : Meeting) → MeetsAs sets local i saved a → MeetsAs sets local i saved b → a ≡ b
  one meeting.Same b (inl k) other = known_first b other k
  one meeting.Same b (inr closed) other = closed_then b other closed
  one meeting.Take b h other = clean_then b other h.news h.clean
  one (meeting.Own true) b h other = own_then b h.latest other h.meets h.same
  one (meeting.Own false) b h other = posted_then b h.latest other h.meets h.differs h.same
  one meeting.GiveWay b h other = deletion_then b h (last_then b row.Deleted other h)
  one meeting.Fork b h other = text_then b h (last_then b (row.Sealed h.strings) other h.other)

pub one_meeting : OneMeeting
one_meeting = λ sets local i saved a b first second. one sets local i saved a b first second
