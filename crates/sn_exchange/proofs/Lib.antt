pub mod AskLemmas
