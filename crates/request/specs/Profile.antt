-- The code's form of the profile: the command that each case of Command stands for, and the key that a key of code stands for.
-- Assumes nothing.
use Rattle.std.specs.Prelude.{Option, Some, None, List, [], ◌∷◌, ◌++◌, map, ℕ}
use Rattle.std.proofs.Math.Option as Math
use Rattle.paper.specs.Profile as Paper
use Rattle.paper.specs.Profile.{common, command_of, ulr, pur, nor, rat_type, ulr_flags, visited_plmn_id, terminal_information, pur_flags, nor_flags}
use Rattle.paper.specs.Request.{key_number}
use Rattle.dictionary.specs.declared.Key.{Key}
use Rattle.request.specs.declared.profile.Command.{Command}
use Rattle.request.specs.declared.profile.Command.TheVariants.{Ulr, Pur, Nor}

-- the command of the profile that a case stands for, if it is one
abbrev pub row_of : Option Command → Math.Option Paper.Command
row_of None = Math.none
row_of (Some Ulr) = command_of ulr
row_of (Some Pur) = command_of pur
row_of (Some Nor) = command_of nor

-- the same key
abbrev pub key_at : Key → Paper.Key
key_at k = record { vendor = k.vendor; code = k.code }

-- the keys that some command uses, as numbers; those of a ULR come first, in its order
unfoldable pub noted_keys : List ℕ
noted_keys = map key_number (common ++ (rat_type ∷ ulr_flags ∷ visited_plmn_id ∷ terminal_information ∷ pur_flags ∷ nor_flags ∷ []))
