-- Why a text isn't read.
use Rattle.json.specs.declared.error.Error.{Error}
use Rattle.json.specs.declared.error.Error.TheVariants.{DuplicateKey, Invalid, OutOfMemory, TooLong}
use Rattle.sn_json.specs.declared.error.JsonError.{JsonError}
use Rattle.sn_json.specs.declared.error.JsonError.TheVariants.{Memory, NotJson}

-- the refusal of a tree that wasn't read
abbrev pub refusal_of : Error → JsonError
refusal_of Invalid = NotJson
refusal_of OutOfMemory = Memory
refusal_of TooLong = NotJson
refusal_of DuplicateKey = NotJson
