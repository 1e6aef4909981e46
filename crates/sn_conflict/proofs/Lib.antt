pub mod CheckLemmas
pub mod Facts
pub mod ListLemmas
pub mod MeetLemmas
pub mod OneMeeting
pub mod StringLemmas
