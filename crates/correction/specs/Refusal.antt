-- What the answers of a correction are in 01's numbers.
-- Assumes nothing.
use Rattle.std.specs.Prelude.{ℕ, List, Result, Ok, Err, ⊤}
use Rattle.paper.specs.Correction.{Corrected}
use Rattle.correction.specs.declared.refusal.Refusal.{Refusal}
use Rattle.correction.specs.declared.refusal.Refusal.TheVariants.{TableNotValid, LengthWrong, VersionWrong, KindUnknown, LengthWrongForKind, ValueNotValid, NoSuchImsi, ChangeDiffers}

-- "4 table; 11 under 24 bytes or length field wrong; 12 version; 13 kind; 14 length wrong for the kind; 15 value not valid in a table; 16 no such IMSI;
-- 17 change number differs."
abbrev pub number_of : Refusal → ℕ
number_of TableNotValid = 4
number_of LengthWrong = 11
number_of VersionWrong = 12
number_of KindUnknown = 13
number_of LengthWrongForKind = 14
number_of ValueNotValid = 15
number_of NoSuchImsi = 16
number_of ChangeDiffers = 17

-- "Success returns 0"
abbrev pub number_for : Result ⊤ Refusal → ℕ
number_for (Ok _) = 0
number_for (Err e) = number_of e

-- the answer with the table that it leaves
abbrev pub came_to : Result ⊤ Refusal → List ℕ → Corrected
came_to r t = record { number = number_for r; table = t }
