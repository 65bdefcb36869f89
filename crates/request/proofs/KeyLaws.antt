-- The keys that are noted of a request are those that some command uses, and no other.
-- Assumes nothing.
use Rattle.std.proofs.Common.{◌≡◌, refl}
use Rattle.std.specs.Prelude.{map}
use Rattle.avp.specs.Found.{number}
use Rattle.request.specs.declared.profile.TheConstants.{NOTED_KEYS}
use Rattle.request.specs.Profile.{noted_keys}

pub noted-held : map number NOTED_KEYS ≡ noted_keys
unfolding noted_keys
noted-held = refl
