mod LawLemmas
mod ListLemmas
mod ReadLemmas
mod TableLemmas
