-- The numbers of sets by their nonces, as moves give them.
use Rattle.std.specs.Prelude.{ℕ, List, [], ◌∷◌, ◌++◌, Bool, Option, Some, None, codes, find}
use Rattle.std.specs.Fmt.{decimal}
use Rattle.std.specs.Str.{bytes_eq}
use Rattle.sn_laws.specs.Lookups.{Bytes}
use Rattle.sn_laws.specs.declared.moves.Move.{Move}
use Rattle.sn_laws.specs.declared.moves.Move.TheVariants.{Register, Join, Edit, Drop, Post, Unpost, Accept, Rewrap, Settle, SettlePosted, Fork, Rename, GiveWay, Change, Retire}
use Rattle.sn_report.specs.declared.sets.NumberedSet.{NumberedSet}

-- the set that a move begins: an account's first, or its next one
abbrev pub sets_after : List NumberedSet → Move → List NumberedSet
sets_after sets (Register identifier set) = sets ++ record { nonce = set.params.pw_nonce; number = 1 } ∷ []
sets_after sets (Change identifier number set) = sets ++ record { nonce = set.params.pw_nonce; number = number } ∷ []
sets_after sets (Join device identifier number) = sets
sets_after sets (Edit device uuid kind base latest) = sets
sets_after sets (Drop device uuid) = sets
sets_after sets (Post device uuid) = sets
sets_after sets (Unpost device uuid) = sets
sets_after sets (Accept device uuid stamp under) = sets
sets_after sets (Rewrap uuid stamp under) = sets
sets_after sets (Settle device uuid) = sets
sets_after sets (SettlePosted device uuid stamp) = sets
sets_after sets (Fork device uuid other) = sets
sets_after sets (Rename device uuid other) = sets
sets_after sets (GiveWay device uuid) = sets
sets_after sets (Retire device number) = sets

abbrev pub sets_of : List NumberedSet → List Move → List NumberedSet
sets_of sets [] = sets
sets_of sets (m ∷ ms) = sets_of (sets_after sets m) ms

abbrev pub has_nonce : Bytes → NumberedSet → Bool
has_nonce nonce set = bytes_eq set.nonce nonce

-- the first set of the nonce by its number; a nonce of no set stands as it is
abbrev pub found_text : Bytes → Option NumberedSet → List ℕ
found_text nonce (Some set) = codes "set " ++ decimal set.number
found_text nonce None = nonce

abbrev pub nonce_text : List NumberedSet → Bytes → List ℕ
nonce_text sets nonce = found_text nonce (find (has_nonce nonce) sets)
