-- Three texts, one behind the other, told apart by the lengths of the first two.
use Rattle.std.specs.Prelude.{ℕ, List, take, drop}

abbrev pub kind_in : ℕ → List ℕ → List ℕ
kind_in kind texts = take kind texts

abbrev pub content_in : ℕ → ℕ → List ℕ → List ℕ
content_in kind content texts = take content (drop kind texts)

abbrev pub enc_in : ℕ → ℕ → List ℕ → List ℕ
enc_in kind content texts = drop content (drop kind texts)
