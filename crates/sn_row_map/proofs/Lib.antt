mod KeyLemmas
mod ListLemmas
mod RangeLemmas
mod RowLemmas
mod StepLemmas
