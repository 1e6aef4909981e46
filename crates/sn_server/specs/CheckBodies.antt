-- The answers to messages that fail a check.
use Rattle.std.specs.Prelude.{ℕ, ◌==◌, List, [], codes, true, if◌then◌else◌}
use Rattle.sn_http.specs.Answers.{answer}

-- the body of the answer to a message that fails a check
abbrev pub check_body : ℕ → List ℕ
check_body status =
    if status == 411 then codes "{\"error\":{\"tag\":\"length-required\"}}"
    else if status == 413 then codes "{\"error\":{\"tag\":\"body-long\"}}"
    else if status == 501 then codes "{\"error\":{\"tag\":\"coding\"}}"
    else codes "{\"error\":{\"tag\":\"broken\"}}"

-- that answer, which closes the connection
abbrev pub check_bytes : ℕ → List ℕ
check_bytes status = answer status [] true (check_body status)
